-- `Telling`: what the proofs of the lines cite; `Fits`: the words are all in the program's buffer when it is written.
pub mod Telling
pub mod Fits
