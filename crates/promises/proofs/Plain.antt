-- A plain machine: the control core on plain books, with tables named by their goals; and demand 3, proved of it. `Machine` and `Claim`
-- say what it does and what is claimed; the proof is in the others, in this order.
pub mod Model
pub mod OneModel
pub mod Machine
pub mod Claim
pub mod Steps
pub mod Stack
pub mod Cases
pub mod Pops
pub mod Clear
pub mod Taking
pub mod Turns
pub mod Whole
