-- Two netlists that are compared by names, each a text of its own in a format of its own: the answers and the refusals.
use Rattle.std.specs.Prelude.{◌≡◌, ℕ, List, Option, Some}
use Rattle.net_theory.specs.Document.{Document}
use Rattle.net_document.specs.Format.{HasNetFault}
use Rattle.format_names.specs.declared.formats.FormatPair.{FormatPair}
use Rattle.equiv_run.specs.declared.answer.EquivOutcome.{EquivOutcome}
use Rattle.equiv_run.specs.declared.answer.CompareError.TheVariants.{NoSecond, First, Second, DifferentInterface}
use Rattle.equiv_run.specs.declared.answer.CompareError.TheVariants.{Memory}
use Rattle.equiv_run.specs.Pairs.{ShareInterface}
use Rattle.equiv_values.specs.Named.{IsNamedAnswer}
use Rattle.equiv_formats.specs.Comparison.{first_format, second_format, AreNetlists, HasLaterFault}
use Rattle.match_core.specs.declared.lacking.Lack.{Lack}
use Rattle.match_core.specs.Matched.{ShareNames, matched}
use Rattle.match_core.specs.Lacks.{lack_of}
use Rattle.equiv_match.specs.declared.error.MatchError.{MatchError}
use Rattle.equiv_match.specs.declared.error.MatchError.TheVariants.{Refused, Lacks}

-- The texts are two netlists, neither of which lacks a name of the other, and `text` and `told` are the answer of `equiv`
-- for the first and for the second in the order of the first.
pub record IsMatchedAnswer (p : FormatPair) (budget : ℕ) (first second text : List ℕ) (told : Option (List ℕ)) (outcome : EquivOutcome) : Type 0 where
  pub one : Document
  pub other : Document
  pub are : AreNetlists p first second one other
  pub names : ShareNames one other
  pub interface : ShareInterface one (matched one other)
  pub reported : IsNamedAnswer budget one (matched one other) text told outcome

-- One of two netlists lacks a name of the other, and this is the first such name.
pub record IsLacking (p : FormatPair) (first second : List ℕ) (lack : Lack) : Type 0 where
  pub one : Document
  pub other : Document
  pub are : AreNetlists p first second one other
  pub is : lack_of one other ≡ Some lack

-- Neither lacks a name, but their clocks differ, or latches of one name differ in control or initial value.
pub record DifferByNames (p : FormatPair) (first second : List ℕ) : Type 0 where
  pub one : Document
  pub other : Document
  pub are : AreNetlists p first second one other
  pub names : ShareNames one other
  pub differ : ShareInterface one (matched one other) → ⊥

-- Why the texts can't be compared by names. A fault of the first comes before one of the second, and both before the
-- names. Out of memory isn't such a reason.
abbrev pub HasMatchFault : FormatPair → List ℕ → List ℕ → MatchError → Type 0
HasMatchFault p first second (Refused NoSecond) = ⊥
HasMatchFault p first second (Refused (First e)) = HasNetFault (first_format p) first e
HasMatchFault p first second (Refused (Second e)) = HasLaterFault (first_format p) first second
    (λ bytes. HasNetFault (second_format p) bytes e)
HasMatchFault p first second (Refused DifferentInterface) = DifferByNames p first second
HasMatchFault p first second (Refused Memory) = ⊥
HasMatchFault p first second (Lacks lack) = IsLacking p first second lack

-- Running out of memory is always allowed.
abbrev pub IsMatchRefused : FormatPair → List ℕ → List ℕ → MatchError → Type 0
IsMatchRefused p first second (Refused NoSecond) = ⊥
IsMatchRefused p first second (Refused (First e)) = HasMatchFault p first second (Refused (First e))
IsMatchRefused p first second (Refused (Second e)) = HasMatchFault p first second (Refused (Second e))
IsMatchRefused p first second (Refused DifferentInterface) = HasMatchFault p first second (Refused DifferentInterface)
IsMatchRefused p first second (Refused Memory) = Unit {0}
IsMatchRefused p first second (Lacks lack) = HasMatchFault p first second (Lacks lack)
