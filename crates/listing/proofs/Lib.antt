-- The code's listing is the definitions'. `Marks`: only a stop marks a forest; `Listing`: what the definitions' listing asks is accepted,
-- and a line with what is behind it; `Words`: the words of a line; `Pages`: the definitions' pages, line by line; `Replies`: a reply's
-- line; `Places`: where a call leads; `Told`: one peek of the code; `Opens`: one open; `Loops`: the loop, call by call.
pub mod Marks
pub mod Listing
pub mod Words
pub mod Pages
pub mod Replies
pub mod Places
pub mod Told
pub mod Opens
pub mod Loops
