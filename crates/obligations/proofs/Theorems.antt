-- The statements of specs/Statements.antt, each by its law. Assumes nothing.
use Rattle.obligations.specs.Statements.{StepIsψ, PossibleIsEvery, UndoUndoes, StepTotal, TotalZero, StepReports, AllZeroIsEvery, MembersAreListed, SizeIsNumber, NoneImpossible, FirstIsImpossible, CompletesIsBoth, CountsStaySmall, CountsStayInBytes, ShapedIsFacts, WordsAndBack}
use Rattle.obligations.proofs.MemberLaws.{members_are, size_number}
use Rattle.obligations.proofs.StateLaws.{before-after}
use Rattle.obligations.proofs.CountLaws.{after-count, possible-count, count-possible, zero-count, count-zero}
use Rattle.obligations.proofs.TotalLaws.{after-total, total-zero, zero-total}
use Rattle.obligations.proofs.StepLaws.{step_said}
use Rattle.obligations.proofs.TraceLaws.{shaped_facts, facts_shaped}
use Rattle.obligations.proofs.SequenceLaws.{bindings-words, words-bindings, none_impossible, first_impossible_lem, completes_both, ψ_state, ψ_in_bytes}

pub step-is-ψ : StepIsψ
step-is-ψ = after-count

pub possible-is_every : PossibleIsEvery
possible-is_every d a x = (possible-count d a x, count-possible d a x)

pub undo_undoes : UndoUndoes
undo_undoes = before-after

pub step-total : StepTotal
step-total = after-total

pub total-is_zero : TotalZero
total-is_zero d = (total-zero d, zero-total d)

pub step_reports : StepReports
step_reports = step_said

pub all_zero-is_every : AllZeroIsEvery
all_zero-is_every d long = (zero-count d, count-zero d long)

pub members_are_listed : MembersAreListed
members_are_listed = members_are

pub size-is_number : SizeIsNumber
size-is_number = size_number

pub no_impossible : NoneImpossible
no_impossible = none_impossible

pub first-is_impossible : FirstIsImpossible
first-is_impossible = first_impossible_lem

pub completes-is_both : CompletesIsBoth
completes-is_both = completes_both

pub counts_stay_small : CountsStaySmall
counts_stay_small = ψ_state

pub counts_stay_in_bytes : CountsStayInBytes
counts_stay_in_bytes = ψ_in_bytes

pub shaped-is_facts : ShapedIsFacts
shaped-is_facts start end n activity_at = (shaped_facts start end n activity_at, facts_shaped start end n activity_at)

pub words-and_back : WordsAndBack
words-and_back = (bindings-words, words-bindings)
