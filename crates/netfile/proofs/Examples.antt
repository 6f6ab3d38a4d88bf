-- The definitions computed on short files; longer ones are compared by test programs. Assumes nothing.
use Prim.Native.Nat.{ℕ}
use mathlib.Core.Path.{◌≡◌, refl}
use mathlib.Core.List.{List, [], ◌∷◌}
use Rattle.obligations.specs.Sets.{single, union}
use Rattle.text.specs.Lines.{unlines}
use Rattle.text.specs.Decimal.{is_number, parse_number, print_number}
use Rattle.text.specs.Members.{are_members, parse_members}
use Rattle.net.specs.Lists.{all_below, listed, ascends_above, zeros, insert}
use Rattle.net.specs.Orderly.{ends_ok, block_ok, sides_ok, sized, orderly, counts_ok, kind_ok}
use Rattle.net.specs.Fresh.{fresh_net}
use Rattle.net.specs.Refusals.{refused}
use Rattle.net.specs.Put.{misplaced, side_says, put_says, grows, put_gives}
use Rattle.netfile.specs.NetFile.{net_header, read_end, row_rest, read_side, read_set_row, read_rows, from_end, from_start, from_header, read_net, set_lines, sets_lines, activity_lines, head_lines, net_lines, net_text}

-- a file of these lines after the header
file : List (List ℕ) → List ℕ
file ls = unlines (net_header ∷ ls)

-- start,0,
abbrev start_0 : List ℕ
start_0 = 115 ∷ 116 ∷ 97 ∷ 114 ∷ 116 ∷ 44 ∷ 48 ∷ 44 ∷ []

-- end,3,
abbrev end_3 : List ℕ
end_3 = 101 ∷ 110 ∷ 100 ∷ 44 ∷ 51 ∷ 44 ∷ []

-- the fresh net of 0 and 3 is written as three lines
fresh-written : net_text (fresh_net 0 3) ≡ file (start_0 ∷ end_3 ∷ [])
unfolding net_text net_lines head_lines activity_lines sets_lines set_lines print_number fresh_net file
fresh-written = refl

-- the empty file is 13 at line 1
nothing : (read_net ([])).says ≡ refused 13 1
unfolding read_net from_header from_start from_end read_end read_set_row read_side row_rest read_rows parse_number is_number parse_members are_members single union fresh_net put_says put_gives grows side_says misplaced orderly sized ends_ok sides_ok block_ok counts_ok kind_ok all_below listed ascends_above zeros insert file
nothing = refl

-- a file that ends after the header is 13 at line 2
start_missing : (read_net (file [])).says ≡ refused 13 2
unfolding read_net from_header from_start from_end read_end read_set_row read_side row_rest read_rows parse_number is_number parse_members are_members single union fresh_net put_says put_gives grows side_says misplaced orderly sized ends_ok sides_ok block_ok counts_ok kind_ok all_below listed ascends_above zeros insert file
start_missing = refl

-- 13 comes before 14 on a line: start,99,1 is 13
thirteen_first : (read_net (file ((115 ∷ 116 ∷ 97 ∷ 114 ∷ 116 ∷ 44 ∷ 57 ∷ 57 ∷ 44 ∷ 49 ∷ []) ∷ []))).says ≡ refused 13 2
unfolding read_net from_header from_start from_end read_end read_set_row read_side row_rest read_rows parse_number is_number parse_members are_members single union fresh_net put_says put_gives grows side_says misplaced orderly sized ends_ok sides_ok block_ok counts_ok kind_ok all_below listed ascends_above zeros insert file
thirteen_first = refl

-- start,32, is 14
start_32 : (read_net (file ((115 ∷ 116 ∷ 97 ∷ 114 ∷ 116 ∷ 44 ∷ 51 ∷ 50 ∷ 44 ∷ []) ∷ end_3 ∷ []))).says ≡ refused 14 2
unfolding read_net from_header from_start from_end read_end read_set_row read_side row_rest read_rows parse_number is_number parse_members are_members single union fresh_net put_says put_gives grows side_says misplaced orderly sized ends_ok sides_ok block_ok counts_ok kind_ok all_below listed ascends_above zeros insert file
start_32 = refl

-- the end that is the start is 1 at line 3
same_ends : (read_net (file (start_0 ∷ (101 ∷ 110 ∷ 100 ∷ 44 ∷ 48 ∷ 44 ∷ []) ∷ (105 ∷ 110 ∷ 44 ∷ 120 ∷ 44 ∷ []) ∷ []))).says ≡ refused 1 3
unfolding read_net from_header from_start from_end read_end read_set_row read_side row_rest read_rows parse_number is_number parse_members are_members single union fresh_net put_says put_gives grows side_says misplaced orderly sized ends_ok sides_ok block_ok counts_ok kind_ok all_below listed ascends_above zeros insert file
same_ends = refl

-- in,0, is 13 also where the side holds the empty set
members_missing : (read_net (file (start_0 ∷ end_3 ∷ (105 ∷ 110 ∷ 44 ∷ 48 ∷ 44 ∷ []) ∷ []))).says ≡ refused 13 4
unfolding read_net from_header from_start from_end read_end read_set_row read_side row_rest read_rows parse_number is_number parse_members are_members single union fresh_net put_says put_gives grows side_says misplaced orderly sized ends_ok sides_ok block_ok counts_ok kind_ok all_below listed ascends_above zeros insert file
members_missing = refl

-- in,0,1 2 is 5 where 0 is the start
start-input : (read_net (file (start_0 ∷ end_3 ∷ (105 ∷ 110 ∷ 44 ∷ 48 ∷ 44 ∷ 49 ∷ 32 ∷ 50 ∷ []) ∷ []))).says ≡ refused 5 4
unfolding read_net from_header from_start from_end read_end read_set_row read_side row_rest read_rows parse_number is_number parse_members are_members single union fresh_net put_says put_gives grows side_says misplaced orderly sized ends_ok sides_ok block_ok counts_ok kind_ok all_below listed ascends_above zeros insert file
start-input = refl

-- in,0,2 1 is 14 before it is 5
descending : (read_net (file (start_0 ∷ end_3 ∷ (105 ∷ 110 ∷ 44 ∷ 48 ∷ 44 ∷ 50 ∷ 32 ∷ 49 ∷ []) ∷ []))).says ≡ refused 14 4
unfolding read_net from_header from_start from_end read_end read_set_row read_side row_rest read_rows parse_number is_number parse_members are_members single union fresh_net put_says put_gives grows side_says misplaced orderly sized ends_ok sides_ok block_ok counts_ok kind_ok all_below listed ascends_above zeros insert file
descending = refl
