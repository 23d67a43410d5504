-- The steps of a layout from a place on, and a chain in a layout.
use Rattle.std.proofs.Common.{◌≡◌, ℕ, suc, ◌+◌, ◌≤◌, List, ◌∷◌, Some, Contains, refl, ap, ◌∙◌, arith, ⊎_elim}
use Rattle.std.specs.Prelude.{slice_get}
use Rattle.std.proofs.lemmas.Option.{slice_get-get_or}
use Rattle.chain_theory.specs.Chain.{Chain}
use Rattle.tt_core.specs.Words.{Words}
use Rattle.enc_theory.specs.declared.data.Dimensions.{Dimensions}
use Rattle.enc_theory.specs.Numbering.{sizes_of}
use Rattle.enc_theory.specs.Pairs.{StepSlots}
use Rattle.clause_core.specs.Holds.{contains_tail, contains_cases}
use Rattle.enc_laws.specs.Layouts.{IsLaid}
use Rattle.enc_laws.specs.Decoded.{IsFor}
use Rattle.enc_laws.specs.Complete.{HasPairs}

-- ---- the steps after a step

-- `later` are the steps of a layout from a place on
pub record IsRest (steps later : List StepSlots) (place : ℕ) : Type 0 where
  pub inside : (s : StepSlots) → Contains later s → Contains steps s
  pub has : (s : StepSlots) → Contains steps s → place ≤ s.place → Contains later s
  pub places : (k : ℕ) (s : StepSlots) → slice_get later k ≡ Some s → s.place ≡ place + k

pub rest_all : (z : Dimensions) (steps : List StepSlots) → IsLaid z steps → IsRest steps steps (z.n + 1)
rest_all z steps laid = record { inside = λ s c. c; has = λ s c low. c; places = laid.places }

pub rest_head : (steps : List StepSlots) (s : StepSlots) (later : List StepSlots) (place : ℕ) → IsRest steps (s ∷ later) place → s.place ≡ place
rest_head steps s later place rest = let at = rest.places 0 s refl in omega arith

pub rest_tail : (steps : List StepSlots) (s : StepSlots) (later : List StepSlots) (place : ℕ) → IsRest steps (s ∷ later) place → IsRest steps later (place + 1)
rest_tail steps s later place rest = record {
  inside = λ s' c. rest.inside s' (contains_tail s s' later c);
  has = λ s' c low. ⊎_elim
      (λ (here : s ≡ s'). absurd (let at = rest_head steps s later place rest in let same : s.place ≡ s'.place = ap (λ (x : StepSlots). x.place) here in omega arith))
      (λ (c' : Contains later s'). c')
      (contains_cases s s' later (rest.has s' c (omega arith)));
  places = λ k s' at. let p = rest.places (suc k) s' at in omega arith;
}

pub rest_place : (steps later : List StepSlots) (place : ℕ) (s : StepSlots) → IsRest steps later place → Contains later s → place ≤ s.place
rest_place steps later place s rest (k, low, at) = let p = rest.places k s (slice_get-get_or later k s low ∙ ap Some at) in omega arith

-- ---- a chain in a layout

-- a chain that implements the tables, whose outputs are places of steps, in a layout that has its pairs
pub record IsPlaced (w : Words) (basis r : ℕ) (steps : List StepSlots) (c : Chain) : Type 0 where
  pub is : IsFor w basis r c
  pub laid : IsLaid (sizes_of w r) steps
  pub pairs : HasPairs steps c
