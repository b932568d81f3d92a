-- The ways out of the functions of number_turn.rt over variables (Cases). For sound stores a turn by numbers is the turn (NumberTurns):
-- with a strand, whose numbers tell what it waits on (Awaits), and without one (Idle); a strand that is left as it was is written back
-- where it was read (Back).
pub mod NumberTurnCases
pub mod NumberTurnsBack
pub mod NumberTurnsIdle
pub mod NumberTurnsAwaits
pub mod NumberTurnsStrand
pub mod NumberTurns
