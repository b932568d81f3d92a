pub mod Laws
pub mod Counts
pub mod Walks
pub mod RingViews
pub mod RingMoves
