-- The marked examples, and lists of calls of each kind, computed.
pub mod Examples
pub mod Orders
