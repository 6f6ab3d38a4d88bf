-- The lines that the program `share` prints of a log's figures (02, (vi)): in words, and as fields.
use Rattle.std.specs.Prelude.{List, [], ◌∷◌, ◌++◌, ℕ}
use Rattle.text.specs.Lines.{unlines}
use Rattle.text.specs.Fields.{comma, join}
use Rattle.text.specs.Decimal.{print_number}
use Rattle.wholelog.specs.declared.sharing.Figures.{Figures}

-- " of "
abbrev pub of_all : List ℕ
of_all = 32 ∷ 111 ∷ 102 ∷ 32 ∷ []

-- " sessions fit: "
abbrev pub sessions_fit : List ℕ
sessions_fit = 32 ∷ 115 ∷ 101 ∷ 115 ∷ 115 ∷ 105 ∷ 111 ∷ 110 ∷ 115 ∷ 32 ∷ 102 ∷ 105 ∷ 116 ∷ 58 ∷ 32 ∷ []

-- " in a thousand, remainder "
abbrev pub thousand_words : List ℕ
thousand_words =
    32 ∷ 105 ∷ 110 ∷ 32 ∷ 97 ∷ 32 ∷ 116 ∷ 104 ∷ 111 ∷ 117 ∷ 115 ∷ 97 ∷ 110 ∷ 100 ∷ comma ∷ 32 ∷ 114 ∷ 101 ∷ 109 ∷ 97 ∷ 105 ∷ 110 ∷ 100 ∷ 101 ∷ 114 ∷ 32 ∷ []

-- "; "
abbrev pub and_then : List ℕ
and_then = 59 ∷ 32 ∷ []

-- " spent"
abbrev pub are_spent : List ℕ
are_spent = 32 ∷ 115 ∷ 112 ∷ 101 ∷ 110 ∷ 116 ∷ []

-- share
abbrev pub share_word : List ℕ
share_word = 115 ∷ 104 ∷ 97 ∷ 114 ∷ 101 ∷ []

-- ---- the two lines

-- 2 of 3 sessions fit: 666 in a thousand, remainder 2; 0 spent
abbrev pub share_in_words : Figures → List ℕ
share_in_words s =
    print_number s.fitting ++ of_all ++ print_number s.all ++ sessions_fit ++ print_number s.per_thousand ++ thousand_words ++ print_number s.remainder ++ and_then ++ print_number s.spent ++ are_spent

-- share,666,2,2,0,3
abbrev pub share_fields : Figures → List ℕ
share_fields s =
    join comma
    (share_word ∷ print_number s.per_thousand ∷ print_number s.remainder ∷ print_number s.fitting ∷ print_number s.spent ∷ print_number s.all ∷ [])

unfoldable pub figures_text : Figures → List ℕ
figures_text s = unlines (share_in_words s ∷ share_fields s ∷ [])
