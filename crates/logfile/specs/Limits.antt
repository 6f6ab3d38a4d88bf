-- The papers' limits on a log file, each named once; those on traces are in `obligations`.
use Rattle.std.specs.Prelude.{ℕ}

-- a log file has at most this many bytes
abbrev pub log_bytes : ℕ
log_bytes = 524288

-- and at most this many rows
abbrev pub log_rows : ℕ
log_rows = 1000

-- a row is of at most this many sessions
abbrev pub most_sessions : ℕ
most_sessions = 1000000
