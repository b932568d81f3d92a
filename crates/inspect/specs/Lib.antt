pub mod Words
pub mod Missing
