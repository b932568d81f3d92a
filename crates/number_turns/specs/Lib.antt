pub mod NumberTurn
