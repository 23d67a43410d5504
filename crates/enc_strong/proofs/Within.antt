-- The variables of listed literals are variables of the formula.
use Rattle.std.proofs.Common.{ℕ, ◌+◌, ◌-◌, ◌≤◌, ◌==◌, Bool, true, false, List, [], ◌∷◌, All, arith}
use Rattle.std.specs.Prelude.{if◌then◌else◌}
use Rattle.std.specs.List.{flat_map}
use Rattle.std.proofs.lemmas.Grind.{common_steps}
use Rattle.std.proofs.lemmas.List.Elements.{All-nil, All-cons}
use Rattle.clause_core.specs.declared.raw.RawLit.{RawLit}
use Rattle.clause_core.specs.declared.raw.RawLit.TheVariants.{Var}
use Rattle.clause_core.specs.Clauses.{IsWithin}
use Rattle.clause_core.specs.WithinLaws.{within_var}
use Rattle.enc_theory.specs.declared.data.Dimensions.{Dimensions}
use Rattle.enc_theory.specs.declared.data.Slot.{Slot}
use Rattle.enc_theory.specs.Pairs.{StepSlots}
use Rattle.enc_theory.specs.Families.{chosen}
use Rattle.enc_theory.specs.Cuts.{reads, reader, readers}
use Rattle.enc_base.specs.Room.{IsPlace, HasSlots}
use Rattle.enc_cuts.specs.Vars.{HasVar, step_has_vars, steps_have_vars}
use Rattle.enc_cuts.specs.LiteralLaws.{pieces_each}
use Rattle.strong_theory.specs.declared.data.Edge.{Edge}
use Rattle.strong_theory.specs.Strong.{d_var, other_readers, or_others}

pub ruleset families = (common_steps, step_has_vars, steps_have_vars)

one_if : (vars : ℕ) (test : Bool) (u : Slot) → HasVar vars u → All (IsWithin vars) (if test then Var u.var true ∷ [] else [])
one_if vars true u has = All-cons (IsWithin vars) (Var u.var true) [] (within_var vars u.var true has.from has.within) (All-nil (IsWithin vars))
one_if vars false u has = All-nil (IsWithin vars)

none_if : (vars : ℕ) (test : Bool) (raws : List RawLit) → All (IsWithin vars) raws → All (IsWithin vars) (if test then [] else raws)
none_if vars true raws are = All-nil (IsWithin vars)
none_if vars false raws are = are

others_within : (z : Dimensions) (vars i j : ℕ) (steps : List StepSlots) → All (HasSlots z vars) steps → All (IsWithin vars) (flat_map (other_readers i j) steps)
unfolding other_readers readers reader chosen
others_within z vars i j steps have = pieces_each (IsWithin vars) (HasSlots z vars) (other_readers i j) steps (λ s has.
    none_if vars (s.place == i) (flat_map (reader j) s.slots)
    (pieces_each (IsWithin vars) (HasVar vars) (reader j) s.slots (λ u var. one_if vars (reads u j) u var) (step_has_vars z vars s has).each)) have

pub or_others_within : (z : Dimensions) (vars : ℕ) (steps : List StepSlots) (e : Edge) (before i : ℕ) → All (HasSlots z vars) steps → IsPlace z i → before + z.r ≤ vars →
    All (IsWithin vars) (or_others z steps e before i)
unfolding or_others d_var
or_others_within z vars steps e before i have place low =
    let from = place.from in
    let below = place.below in
    All-cons (IsWithin vars) (Var (before + (i - z.n)) true) (flat_map (other_readers i e.input) steps)
    (within_var vars (before + (i - z.n)) true (omega arith) (omega arith)) (others_within z vars i e.input steps have)
