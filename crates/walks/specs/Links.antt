-- What the parts of the check compute, from the sides of a kind, their lengths, and rows made of them.
use Rattle.std.specs.Prelude.{ℕ, ◌≡◌, not, ◌&&◌, List, eqb, get_or, fold, sum_by}
use Rattle.obligations.specs.Limits.{activities}
use Rattle.obligations.specs.Sets.{member, union, minus, size}
use Rattle.net.specs.Sides.{sets_in}
use Rattle.net.specs.declared.sides.Sides.{Sides}
use Rattle.walks.specs.Below.{any_below, those}
use Rattle.walks.specs.Rows.{has, rows, reach}
use Rattle.walks.specs.declared.Survey.{Survey}

-- the members of each of the sets
abbrev pub union_of : List ℕ → ℕ
union_of sets = fold union 0 sets

-- for each activity those that are named on its side
unfoldable pub named_rows : Sides → List ℕ
named_rows sides = rows (λ a. union_of (sets_in sides a))

-- the members b of a set such that a is in row b
unfoldable pub linked : ℕ → List ℕ → ℕ → ℕ
linked m other a = those (λ b. member m b && has other b a)

-- for each activity a the members b of row a such that a is in row b of the others
unfoldable pub links : List ℕ → List ℕ → List ℕ
links own other = rows (λ a. linked (get_or own a 0) other a)

-- the activities whose row has a member that their row of links lacks
unfoldable pub unlinked : List ℕ → List ℕ → ℕ
unlinked own link_rows = those (λ a. any_below activities (λ b. has own a b && not (has link_rows a b)))

-- the activities whose lists are not empty
unfoldable pub filled : List ℕ → ℕ
filled lengths = those (λ a. not (eqb (get_or lengths a 0) 0))

-- how many members the rows have together
abbrev pub sizes : List ℕ → ℕ
sizes rows = sum_by size rows

-- what is found from the rows of those named on each activity's sides: the members of a set that are on no walk from start to
-- end, the activities with a name that isn't answered, and the number of arcs
pub record RowSurvey (inputs outputs : List ℕ) (start end all : ℕ) (r : Survey) : Type 0 where
  pub lost_are : r.lost ≡ union (minus all (reach (links outputs inputs) start)) (minus all (reach (links inputs outputs) end))
  pub unanswered_are : r.unanswered ≡ union (unlinked inputs (links inputs outputs)) (unlinked outputs (links outputs inputs))
  pub arcs_are : r.arcs ≡ sizes (links outputs inputs)
