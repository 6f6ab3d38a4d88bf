-- The definitions that the contracts of `machine` cite, of a test tool's own buffers: no sentence of the papers speaks of these.
pub mod Buffers
