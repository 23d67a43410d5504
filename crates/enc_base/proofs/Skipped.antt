-- A listed clause with a true literal is a tautology, so nothing is written for it.
use Rattle.std.proofs.Common.{◌≡◌, ℕ, ◌⊎◌, Bool, true, false, not, List, [], ◌∷◌, ◌++◌, None, refl, ap, append-nil}
use Rattle.std.specs.Prelude.{ℤ}
use Rattle.std.proofs.lemmas.Bool.{cases_Bool}
use Rattle.std.proofs.lemmas.Grind.{common_steps}
use Rattle.std.proofs.Math.Logic.{⊎_elim}
use Rattle.sat_theory.specs.Formula.{signed}
use Rattle.clause_core.specs.declared.raw.RawLit.{RawLit}
use Rattle.clause_core.specs.declared.raw.RawLit.TheVariants.{Fixed, Var}
use Rattle.clause_core.specs.Clauses.{has, simplified, listed, written}
use Rattle.enc_theory.specs.declared.data.Dimensions.{Dimensions}
use Rattle.enc_theory.specs.declared.data.Slot.{Slot}
use Rattle.enc_theory.specs.Numbering.{x_is, f_var}
use Rattle.enc_theory.specs.Families.{value_clause, value_raw}

simplified_true : (lits : List ℤ) (before after : List RawLit) → simplified lits (before ++ Fixed true ∷ after) ≡ None
unfolding simplified
simplified_true lits [] after = refl
simplified_true lits (Fixed true ∷ before) after = refl
simplified_true lits (Fixed false ∷ before) after = simplified_true lits before after
simplified_true lits (Var v bit ∷ before) after = ⊎_elim
    (λ (e : has lits (signed v (not bit)) ≡ true). rw e refl)
    (λ (e' : has lits (signed v (not bit)) ≡ false). rw e' (⊎_elim
    (λ (e : has lits (signed v bit) ≡ true). rw e (simplified_true lits before after))
    (λ (e : has lits (signed v bit) ≡ false). rw e (simplified_true (lits ++ signed v bit ∷ []) before after))
    (cases_Bool (has lits (signed v bit)))))
    (cases_Bool (has lits (signed v (not bit))))

written_true : (before after : List RawLit) → written (before ++ Fixed true ∷ after) ≡ []
unfolding written
written_true before after = ap listed (simplified_true [] before after)

-- if the second operand certainly has the bit, nothing is written for one clause
pub skipped : (z : Dimensions) (i : ℕ) (u : Slot) (t : ℕ) (a b c : Bool) → x_is z u.k t (not c) ≡ Fixed true → value_clause z i u t a b c ≡ []
unfolding value_clause value_raw
skipped z i u t a b c e = rw e (written_true (Var u.var false ∷ x_is z i t (not a) ∷ x_is z u.j t (not b) ∷ []) (Var (f_var z i b c) a ∷ []))

skipped_first : (z : Dimensions) (i : ℕ) (u : Slot) (t : ℕ) (a b c : Bool) → x_is z u.j t (not b) ≡ Fixed true → value_clause z i u t a b c ≡ []
unfolding value_clause value_raw
skipped_first z i u t a b c e = rw e (written_true (Var u.var false ∷ x_is z i t (not a) ∷ []) (x_is z u.k t (not c) ∷ Var (f_var z i b c) a ∷ []))

-- and if the first one has, for two
pub skipped_both : (z : Dimensions) (i : ℕ) (u : Slot) (t : ℕ) (a b : Bool) → x_is z u.j t (not b) ≡ Fixed true → value_clause z i u t a b false ++ value_clause z i u t a b true ≡ []
skipped_both z i u t a b e = rw (skipped_first z i u t a b false e, skipped_first z i u t a b true e) refl

pub ruleset skipping = (common_steps, append-nil, skipped, skipped_both)
