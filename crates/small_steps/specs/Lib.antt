-- A turn in two halves, over the definitions: `Decide` reads only and has every stop, `Acts` writes only and never stops. `Steps` is a
-- search that stands, one turn at a time.
pub mod Acts
pub mod Decide
pub mod Steps
