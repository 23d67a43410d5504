-- Looking up nodes in the index.
use Rattle.std.proofs.Common.{◌≡◌, ◌∙◌, ℕ, ◌*◌, ◌^◌, ◌≤◌, ◌<◌, List, ◌++◌, length, Some, None, ap, sym, subst, arith, get_or, eqb-true, eq-eqb, ⊎_elim, true≢false, lt-ltb, mul-le-mul_right}
use Rattle.std.specs.Prelude.{slice_get, nat_eq, nat_lt, position}
use Rattle.std.specs.List.{position_or_len}
use Rattle.std.proofs.lemmas.List.Quantifiers.{position-Some}
use Rattle.std.proofs.lemmas.Bool.{cases_lt, cond-true}
use Rattle.std.proofs.lemmas.List.{get_or_append_left}
use Rattle.std.proofs.lemmas.List.Sums.{fails_before_first}
use Rattle.std.proofs.lemmas.Option.{slice_get-get_or, slice_get_within}
use Rattle.net_theory.specs.declared.data.Sig.{Sig}
use Rattle.net_theory.specs.declared.data.Sig.TheVariants as sigs
use Rattle.lane_sim.specs.declared.rows.Operand.{Operand}
use Rattle.lane_sim.specs.declared.rows.Operand.TheVariants as operands
use Rattle.lane_sim.specs.Cone.{IsSigAmong}
use Rattle.lane_sim.specs.LaneLaws.{at_prefix}
use Rattle.lane_sim.specs.Rows.{IsOperandOf}

some_value : (x y : ℕ) → Some x ≡ Some y → x ≡ y
some_value x y e = cc

-- A node of the first part is found at its index there.
found_in : (keys ps more : List ℕ) (p k : ℕ) → keys ≡ ps ++ more → ((i : ℕ) × (slice_get ps i ≡ Some p)) → position (nat_eq p) keys ≡ Some k → (k < length ps) × (slice_get ps k ≡ Some p)
found_in keys ps more p k parts at e =
    let r = position-Some (nat_eq p) keys k 0 e in
    let low : at.0 < length ps = slice_get_within ps at.0 p at.1 in
    let same : (i : ℕ) → i < length ps → get_or keys i 0 ≡ get_or ps i 0 = λ i below. ap (λ (xs : List ℕ). get_or xs i 0) parts ∙ get_or_append_left ps more 0 i below in
    let here : get_or ps at.0 0 ≡ p = some_value (get_or ps at.0 0) p (sym (slice_get-get_or ps at.0 0 low) ∙ at.1) in
    let first : k ≤ at.0 = ⊎_elim
    (λ (before : at.0 < k). absurd (true≢false (sym (eq-eqb p (get_or keys at.0 0) (sym (same at.0 low ∙ here))) ∙ r.2 at.0 before)))
    (λ (past : k ≤ at.0). past)
    (cases_lt at.0 k) in
    let within : k < length ps = omega (arith, first, low) in
    (within, slice_get-get_or ps k 0 within ∙ ap Some (sym (same k within) ∙ sym (eqb-true p (get_or keys k 0) r.1)))

-- so the row at that index is the operand's
pub operand_row : (keys ps more : List ℕ) (width p k : ℕ) (s : Sig) (o : Operand) → s ≡ sigs.Node p → keys ≡ ps ++
    more → length ps * width < 2 ^ 64 → IsSigAmong ps s → position (nat_eq p) keys ≡ Some k →
    (k * width < 2 ^ 64 → o ≡ operands.Row (k * width)) → IsOperandOf ps width s o
operand_row keys ps more width p k s o is parts room known e row =
    let found = found_in keys ps more p k parts (subst (IsSigAmong ps) is known) e in
    let less : k * width ≤ length ps * width = mul-le-mul_right width (omega (arith, found.0)) in
    subst (λ (x : Sig). IsOperandOf ps width x o) (sym is) (k, found.1, row (omega (arith, less, room)))

-- a node of the index is always found
pub not_found : (keys ps more : List ℕ) (p : ℕ) (s : Sig) → keys ≡ ps ++ more → IsSigAmong ps s → s ≡ sigs.Node p → position (nat_eq p) keys ≡ None → ⊥
not_found keys ps more p s parts known is none =
    let among : IsSigAmong ps (sigs.Node p) = subst (IsSigAmong ps) is known in
    let at : slice_get keys among.0 ≡ Some p = ap (λ (xs : List ℕ). slice_get xs among.0) parts ∙ at_prefix ps more among.0 p among.1 in
    let low : among.0 < length keys = slice_get_within keys among.0 p at in
    let here : get_or keys among.0 0 ≡ p = some_value (get_or keys among.0 0) p (sym (slice_get-get_or keys among.0 0 low) ∙ at) in
    ⊎_elim
    (λ (found : position_or_len (nat_eq p) keys < length keys). none_some (position_or_len (nat_eq p) keys)
    (sym (cond-true (nat_lt (position_or_len (nat_eq p) keys) (length keys))
    (Some (position_or_len (nat_eq p) keys)) None (lt-ltb (position_or_len (nat_eq p) keys) (length keys) found))
    ∙ none))
    (λ (past : length keys ≤ position_or_len (nat_eq p) keys).
    true≢false (sym (eq-eqb p (get_or keys among.0 0) (sym here)) ∙ fails_before_first (nat_eq p) keys among.0 0 (omega (arith, low, past))))
    (cases_lt (position_or_len (nat_eq p) keys) (length keys))
  where
    none_some : (k : ℕ) → Some k ≡ None → ⊥
    none_some k e = cc
