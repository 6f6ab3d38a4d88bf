-- Lists of calls, what a replay answers, the promise made of every list, and that the order of calls is immaterial. A reader of 01
-- and 02 needs all.
pub mod Calls
pub mod Replays
pub mod Promise
pub mod Order
