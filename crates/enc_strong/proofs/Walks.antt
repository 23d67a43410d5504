-- Recursion over the edges, one at a time.
use Rattle.std.proofs.Common.{◌≡◌, ℕ, ◌+◌, List, [], ◌∷◌, ◌++◌, refl, sym, ap, ◌∙◌, append_assoc}
use Rattle.std.specs.Prelude.{ℤ}
use Rattle.std.proofs.lemmas.Grind.{common_steps}
use Rattle.enc_theory.specs.declared.data.Dimensions.{Dimensions}
use Rattle.enc_theory.specs.Pairs.{StepSlots}
use Rattle.strong_theory.specs.declared.data.Edge.{Edge}
use Rattle.strong_theory.specs.Strong.{edge_steps, differences}

pub difference-step : (z : Dimensions) (steps : List StepSlots) (before : ℕ) (e : Edge) (es : List Edge) →
    differences z steps before (e ∷ es) ≡ edge_steps z steps e before ++ differences z steps (before + z.r) es
unfolding differences
difference-step z steps before e es = refl

pub difference-none : (z : Dimensions) (steps : List StepSlots) (before : ℕ) → differences z steps before [] ≡ []
unfolding differences
difference-none z steps before = refl

pub ruleset difference_walk = (common_steps, difference-step, difference-none)

-- the clauses of one edge after those before, and the remaining edges
pub walked : (z : Dimensions) (steps : List StepSlots) (before after : ℕ) (old new all : List (List ℤ)) (left rest : List Edge) (e : Edge) →
    new ≡ old ++ edge_steps z steps e before → left ≡ e ∷ rest → after ≡ before + z.r → old ++ differences z steps before left ≡ all →
    new ++ differences z steps after rest ≡ all
walked z steps before after old new all left rest e is split next same =
    ap (λ (x : ℕ). new ++ differences z steps x rest) next
    ∙ ap (λ (xs : List (List ℤ)). xs ++ differences z steps (before + z.r) rest) is
    ∙ append_assoc old (edge_steps z steps e before) (differences z steps (before + z.r) rest)
    ∙ ap (λ (xs : List (List ℤ)). old ++ xs) (sym (difference-step z steps before e rest))
    ∙ ap (λ (xs : List Edge). old ++ differences z steps before xs) (sym split)
    ∙ same
