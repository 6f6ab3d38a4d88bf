-- The definitions computed on the log of paper 01 and on short logs with one fault each. Assumes nothing.
use Prim.Native.Nat.{ℕ, ◌+◌, ◌-◌}
use mathlib.Core.Path.{◌≡◌, refl}
use mathlib.Core.List.{List, [], ◌∷◌, ◌++◌}
use lib.ListN.{replicate}
use Rattle.obligations.specs.Limits.{positions}
use Rattle.net.specs.Refusals.{outside_limits, line_form, number_form}
use Rattle.text.specs.Lines.{cr, lf, unlines}
use Rattle.text.specs.Fields.{comma, space, join}
use Rattle.text.specs.Decimal.{is_number}
use Rattle.logfile.specs.LogFile.{RowReading, row, end, fault, is_sessions, read_fields, read_line, row_after, log_header, sizes_ok, read_row}

-- the digits 0 to 4
abbrev d0 : ℕ
d0 = 48

abbrev d1 : ℕ
d1 = 49

abbrev d2 : ℕ
d2 = 50

abbrev d3 : ℕ
d3 = 51

-- row r of a log of these lines, for the shortest buffer
read : List (List ℕ) → ℕ → RowReading
unfolding read_row sizes_ok row_after read_line read_fields is_sessions is_number
read ls r = read_row (unlines (log_header ∷ ls)) r positions

-- `12,0 1 3` and `1000000,0 3`
first : List ℕ
first = d1 ∷ d2 ∷ comma ∷ d0 ∷ space ∷ d1 ∷ space ∷ d3 ∷ []

second : List ℕ
second = d1 ∷ d0 ∷ d0 ∷ d0 ∷ d0 ∷ d0 ∷ d0 ∷ comma ∷ d0 ∷ space ∷ d3 ∷ []

paper_log :
    (read (first ∷ second ∷ []) 1 ≡ row 12 (0 ∷ 1 ∷ 3 ∷ []))
    × (read (first ∷ second ∷ []) 2 ≡ row 1000000 (0 ∷ 3 ∷ []))
    × (read (first ∷ second ∷ []) 3 ≡ end)
    × (read (first ∷ second ∷ []) 0 ≡ fault outside_limits 0)
unfolding read first second
paper_log = (refl, refl, refl, refl)

-- the last line may lack its CR LF; a buffer of one word less is too short for every row
last_line : (read_row (log_header ++ (cr ∷ lf ∷ first)) 1 positions ≡ row 12 (0 ∷ 1 ∷ 3 ∷ [])) × (read_row (log_header ++ (cr ∷ lf ∷ first)) 9 (positions - 1) ≡ fault outside_limits 0)
unfolding first read_row sizes_ok row_after read_line read_fields is_sessions is_number
last_line = (refl, refl)

-- the empty file, a file with LF only, and a header that lacks its last byte: 13 at line 1
headers :
    (read_row [] 1 positions ≡ fault line_form 1)
    × (read_row (log_header ++ (lf ∷ first)) 1 positions ≡ fault line_form 1)
    × (read_row (115 ∷ 101 ∷ 115 ∷ 115 ∷ 105 ∷ 111 ∷ 110 ∷ 115 ∷ comma ∷ 116 ∷ 114 ∷ 97 ∷ 99 ∷ []) 1 positions ≡ fault line_form 1)
unfolding first read_row sizes_ok
headers = (refl, refl, refl)

-- `12,` is the empty trace; `12, ` and `,` are 14; the empty line and a line of three fields are 13
fields :
    (read ((d1 ∷ d2 ∷ comma ∷ []) ∷ []) 1 ≡ row 12 [])
    × (read ((d1 ∷ d2 ∷ comma ∷ space ∷ []) ∷ []) 1 ≡ fault number_form 2)
    × (read ((comma ∷ []) ∷ []) 1 ≡ fault number_form 2)
    × (read ([] ∷ []) 1 ≡ fault line_form 2)
    × (read ((comma ∷ d1 ∷ comma ∷ []) ∷ []) 1 ≡ fault line_form 2)
unfolding read
fields = (refl, refl, refl, refl, refl)

-- 0 and 1,000,001 sessions, the entry 32, and the entry 4294967296, which is not cut to 0, are 14
numbers :
    (read ((d0 ∷ comma ∷ []) ∷ []) 1 ≡ fault number_form 2)
    × (read ((d1 ∷ d0 ∷ d0 ∷ d0 ∷ d0 ∷ d0 ∷ d1 ∷ comma ∷ []) ∷ []) 1 ≡ fault number_form 2)
    × (read ((d1 ∷ comma ∷ d3 ∷ d2 ∷ []) ∷ []) 1 ≡ fault number_form 2)
    × (read ((d1 ∷ comma ∷ 52 ∷ 50 ∷ 57 ∷ 52 ∷ 57 ∷ 54 ∷ 55 ∷ 50 ∷ 57 ∷ 54 ∷ []) ∷ []) 1 ≡ fault number_form 2)
unfolding read
numbers = (refl, refl, refl, refl)

-- as many entries as there may be are read and one more is 3, but 14 where the next is no number
long : ℕ → List ℕ → List ℕ
long n more = d1 ∷ comma ∷ (join space (replicate n (d3 ∷ [])) ++ more)

longest :
    (read (long positions [] ∷ []) 1 ≡ row 1 (replicate positions 3))
    × (read (long (positions + 1) [] ∷ []) 1 ≡ fault outside_limits 2)
    × (read (long (positions + 1) (space ∷ d0 ∷ d0 ∷ []) ∷ []) 1 ≡ fault number_form 2)
unfolding read long
longest = (refl, refl, refl)

-- faults up to the row count, and those after it don't
order : (read (first ∷ [] ∷ second ∷ []) 1 ≡ row 12 (0 ∷ 1 ∷ 3 ∷ [])) × (read (first ∷ [] ∷ second ∷ []) 2 ≡ fault line_form 3) × (read (first ∷ [] ∷ second ∷ []) 3 ≡ fault line_form 3)
unfolding read first second
order = (refl, refl, refl)

-- of 1,001 rows the 1,000th is given and the 1,001st is 3 at line 1002; of 1,000 rows the 1,001st is past the last
rows : ℕ → List (List ℕ)
rows n = replicate n (d1 ∷ comma ∷ [])

rows_1000 : (read (rows 1001) 1000 ≡ row 1 []) × (read (rows 1001) 1001 ≡ fault outside_limits 1002) × (read (rows 1000) 1001 ≡ end)
unfolding read rows
rows_1000 = (refl, refl, refl)
