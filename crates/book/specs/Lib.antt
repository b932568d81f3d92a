pub mod Faults
pub mod Operands
pub mod View
pub mod Access
pub mod Fitting
pub mod Repeats
pub mod Naming
pub mod Refusals
