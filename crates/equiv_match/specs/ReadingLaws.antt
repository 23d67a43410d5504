-- What was read of two texts, and what was found of their names.
use Rattle.std.specs.Prelude.{◌≡◌, ℕ, List, map, Option, Some, None, Result, Ok, Err, IsErrAnd, IfErr}
use Rattle.std.proofs.Common.{ap, sym, ◌∙◌, subst}
use Rattle.std.proofs.lemmas.Grind.{common_steps}
use Rattle.net_theory.specs.Document.{Name, Latch, Document, latches_of, latch_output}
use Rattle.net_theory.specs.Circuit.{Circuit, Describes}
use Rattle.net_document.specs.Format.{Format, IsCircuitOfText, HasNetFault}
use Rattle.equiv_run.specs.declared.answer.CompareError.TheVariants.{NoSecond, First, Second, DifferentInterface, Memory}
use Rattle.equiv_run.specs.CircuitAnswers.{IsOther}
use Rattle.match_core.specs.declared.lacking.Lack.{Lack}
use Rattle.match_core.specs.Lacks.{first_among, lack_of}
use Rattle.equiv_match.specs.declared.error.MatchError.{MatchError}
use Rattle.equiv_match.specs.declared.error.MatchError.TheVariants.{Refused, Lacks}

-- ---- why a netlist was refused

abbrev pub IsReadFirst : Format → List ℕ → MatchError → Type 0
IsReadFirst f bytes (Refused (First e)) = HasNetFault f bytes e
IsReadFirst f bytes (Refused Memory) = Unit {0}
IsReadFirst f bytes (Refused NoSecond) = ⊥
IsReadFirst f bytes (Refused (Second e)) = ⊥
IsReadFirst f bytes (Refused DifferentInterface) = ⊥
IsReadFirst f bytes (Lacks lack) = ⊥

abbrev pub IsReadSecond : Format → List ℕ → MatchError → Type 0
IsReadSecond f bytes (Refused (Second e)) = HasNetFault f bytes e
IsReadSecond f bytes (Refused Memory) = Unit {0}
IsReadSecond f bytes (Refused NoSecond) = ⊥
IsReadSecond f bytes (Refused (First e)) = ⊥
IsReadSecond f bytes (Refused DifferentInterface) = ⊥
IsReadSecond f bytes (Lacks lack) = ⊥

-- ---- names

-- the first name that one of two circuits lacks
abbrev pub circuits_lack : Circuit → Circuit → Option Lack
circuits_lack c k = first_among c.inputs c.outputs (map latch_output c.latches) k.inputs k.outputs (map latch_output k.latches)

pub lack_same : (d e : Document) (c k : Circuit) → Describes d c → Describes e k → circuits_lack c k ≡ lack_of d e
lack_same d e c k of_d of_e =
    ap (λ (ns : List Name). first_among ns c.outputs (map latch_output c.latches) k.inputs k.outputs (map latch_output k.latches)) (sym of_d.inputs)
    ∙ ap (λ (ns : List Name). first_among d.inputs ns (map latch_output c.latches) k.inputs k.outputs (map latch_output k.latches)) (sym of_d.outputs)
    ∙ ap (λ (ls : List Latch). first_among d.inputs d.outputs (map latch_output ls) k.inputs k.outputs (map latch_output k.latches)) (sym of_d.latches)
    ∙ ap (λ (ns : List Name). first_among d.inputs d.outputs (map latch_output (latches_of d)) ns k.outputs (map latch_output k.latches)) (sym of_e.inputs)
    ∙ ap (λ (ns : List Name). first_among d.inputs d.outputs (map latch_output (latches_of d)) e.inputs ns (map latch_output k.latches)) (sym of_e.outputs)
    ∙ ap (λ (ls : List Latch). first_among d.inputs d.outputs (map latch_output (latches_of d)) e.inputs e.outputs (map latch_output ls)) (sym of_e.latches)

-- the text is a netlist, and neither it nor the circuit lacks a name of the other
pub record IsChecked (f : Format) (bytes : List ℕ) (c : Circuit) : Type 0 where
  pub circuit : Circuit
  pub of : IsCircuitOfText f bytes circuit
  pub none : circuits_lack c circuit ≡ None

pub record IsLackOf (f : Format) (bytes : List ℕ) (c : Circuit) (lack : Lack) : Type 0 where
  pub circuit : Circuit
  pub of : IsCircuitOfText f bytes circuit
  pub is : circuits_lack c circuit ≡ Some lack

-- why it wasn't found so
abbrev pub IsUnchecked : Format → List ℕ → Circuit → MatchError → Type 0
IsUnchecked f bytes c (Refused (Second e)) = HasNetFault f bytes e
IsUnchecked f bytes c (Refused Memory) = Unit {0}
IsUnchecked f bytes c (Refused NoSecond) = ⊥
IsUnchecked f bytes c (Refused (First e)) = ⊥
IsUnchecked f bytes c (Refused DifferentInterface) = ⊥
IsUnchecked f bytes c (Lacks lack) = IsLackOf f bytes c lack

second_unchecked : (f : Format) (bytes : List ℕ) (c : Circuit) (e : MatchError) → IsReadSecond f bytes e → IsUnchecked f bytes c e
second_unchecked f bytes c (Refused (Second e)) is = is
second_unchecked f bytes c (Refused Memory) is = tt
second_unchecked f bytes c (Refused NoSecond) is = is
second_unchecked f bytes c (Refused (First e)) is = is
second_unchecked f bytes c (Refused DifferentInterface) is = is
second_unchecked f bytes c (Lacks lack) is = absurd is

-- an error that is passed on
pub passed : {T : Type 0} (P : MatchError → Type 0) (r : Result T MatchError) (e : MatchError) → IsErrAnd r (λ d. d ≡ e) →
    P e → IfErr r P
passed P (Ok x) e is holds = tt
passed P (Err d) e is holds = subst P (sym is) holds

pub second_passed : {T : Type 0} (f : Format) (bytes : List ℕ) (c : Circuit) (r : Result T MatchError) (e : MatchError) →
    IsErrAnd r (λ d. d ≡ e) → IsReadSecond f bytes e → IfErr r (IsUnchecked f bytes c)
second_passed f bytes c r e is refused = passed (IsUnchecked f bytes c) r e is (second_unchecked f bytes c e refused)

pub memory_passed : {T : Type 0} (f : Format) (bytes : List ℕ) (c : Circuit) (r : Result T MatchError) (e : MatchError) →
    IsErrAnd r (λ d. d ≡ e) → e ≡ Refused Memory → IfErr r (IsUnchecked f bytes c)
memory_passed f bytes c r e is out = passed (IsUnchecked f bytes c) r e is (subst (IsUnchecked f bytes c) (sym out) tt)

pub found_none : (f : Format) (bytes : List ℕ) (c k : Circuit) (r : Option Lack) → IsCircuitOfText f bytes k →
    r ≡ circuits_lack c k → r ≡ None → IsChecked f bytes c
found_none f bytes c k r of is none = record { circuit = k; of = of; none = sym is ∙ none }

pub found_some : (f : Format) (bytes : List ℕ) (c k : Circuit) (r : Option Lack) (lack : Lack) → IsCircuitOfText f bytes k →
    r ≡ circuits_lack c k → r ≡ Some lack → IsLackOf f bytes c lack
found_some f bytes c k r lack of is some = record { circuit = k; of = of; is = sym is ∙ some }

pub ruleset checking = (common_steps, second_passed, memory_passed, found_none, found_some)

-- ---- the comparison

-- why two circuits weren't compared
abbrev pub IsUncompared : Circuit → Circuit → MatchError → Type 0
IsUncompared c k (Refused e) = IsOther c k e
IsUncompared c k (Lacks lack) = ⊥
