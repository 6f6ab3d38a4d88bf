-- The papers' limits on a net file, each named once; those on nets are in `net`.
use Rattle.std.specs.Prelude.{ℕ}

-- a net file has at most this many bytes
abbrev pub net_bytes : ℕ
net_bytes = 131072
