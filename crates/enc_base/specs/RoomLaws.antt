-- The variables of a formula are at most its number of variables.
use Rattle.std.proofs.Common.{◌≡◌, ℕ, ◌≤◌, ◌<◌, Bool, List, [], ◌∷◌, ◌++◌, All, length, get_or, subst, sym, arith}
use Rattle.clause_core.specs.declared.raw.RawLit.{RawLit}
use Rattle.clause_core.specs.declared.raw.RawLit.TheVariants.{Var}
use Rattle.clause_core.specs.Clauses.{IsWithin}
use Rattle.clause_core.specs.WithinLaws.{within_var, all_pushed}
use Rattle.enc_theory.specs.declared.data.Dimensions.{Dimensions}
use Rattle.enc_theory.specs.declared.data.Slot.{Slot}
use Rattle.enc_theory.specs.Numbering.{s_first}
use Rattle.enc_base.specs.Room.{HasRoom, IsSlot}

-- a variable of values, outputs or operators
pub within_first : (z : Dimensions) (vars v : ℕ) (bit : Bool) → HasRoom z vars → (1 ≤ v) × (v < s_first z) → IsWithin vars (Var v bit)
within_first z vars v bit room low = within_var vars v bit low.0 (omega (arith, room.first, low.1))

-- the selection variable of one of a step's pairs is within
pub slot_pushed : (vars place i : ℕ) (all slots : List Slot) (d : Slot) (bit : Bool) (old new : List RawLit) →
    slots ≡ all → All (IsSlot vars place) all → i < length slots → new ≡ old ++ Var (get_or slots i d).var bit ∷ [] →
    All (IsWithin vars) old → All (IsWithin vars) new
slot_pushed vars place i all slots d bit old new same each low is before =
    let here : IsSlot vars place (get_or slots i d) = subst (λ (us : List Slot). All (IsSlot vars place) us) (sym same) each i d low in
    all_pushed (IsWithin vars) old new (Var (get_or slots i d).var bit) is before (within_var vars (get_or slots i d).var bit here.var_from here.var_within)
