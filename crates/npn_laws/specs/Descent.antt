-- The descent with the exchange cut: while a chain violates it, exchanging the two inputs lowers the keys.
use Rattle.std.proofs.Common.{◌≡◌, ℕ, ◌+◌, ◌-◌, ◌^◌, ◌≤◌, ◌<◌, ◌&&◌, Bool, true, false, leb, List, refl, ap, ◌∙◌, arith, inl, inr, ⊎_elim, ◌⊎◌}
use Rattle.std.specs.Prelude.{if◌then◌else◌}
use Rattle.std.proofs.lemmas.Bool.{cond-true, cond-false, le-leb, lt-leb}
use Rattle.chain_theory.specs.Operator.{Basis}
use Rattle.chain_theory.specs.Specification.{Specification, input}
use Rattle.chain_theory.specs.Chain.{Step}
use Rattle.chain_theory.specs.declared.data.Out.{Out}
use Rattle.op_basis.specs.Closed.{polarity_closed}
use Rattle.tt_core.specs.Symmetry.{renamed}
use Rattle.chain_laws.specs.NormalForm.{Reads, ReadsWithout}
use Rattle.chain_laws.specs.Bodies.{Body, Fits}
use Rattle.chain_laws.specs.Shorter.{HasFewer}
use Rattle.chain_laws.specs.Moved.{moved}
use Rattle.chain_laws.specs.Inputs.{falls, stays, key_by}
use Rattle.chain_laws.specs.Ranks.{rank, rank_less}
use Rattle.chain_laws.specs.Decidable.{IsDecidable, IsFirstIndex, IsSomewhere, HasReached, search, descend, decided_and, decided_or}
use Rattle.chain_laws.specs.Decidable.{decided_lt, decided_somewhere, decided_everywhere, decided_by}
use Rattle.chain_laws.specs.Trivial.{decided_named, decided_reads}
use Rattle.chain_laws.specs.Settled.{IsKeyMinimal, SamePair, pair_back, pair_without}
use Rattle.chain_laws.specs.Settling.{Falls, TooEarly, decided_cell, decided_without, decided_early, settled_or_falls}
use Rattle.chain_laws.specs.Least.{flag, flag_true}
use Rattle.npn_laws.specs.Exchange.{image, complemented_cell, IsKept, IsExchangeable}
use Rattle.npn_laws.specs.Transformed.{transformed, transformed_body, AreFlags, transformed_fits}

-- ---- the cut is decidable

decided_kept : (s : Specification) (p q k : ℕ) (b : Bool) → IsDecidable (IsKept s p q k b)
decided_kept s p q k b =
    let IsCell : ℕ → ℕ → Type 0 = λ h t. s.cell (h + 1) (image s.inputs p q k t) ≡ complemented_cell b (s.cell (h + 1) t) in
    decided_by ((h : ℕ) → h < s.outputs → (t : ℕ) → t < 2 ^ s.inputs → IsCell h t) (IsKept s p q k b)
    (λ each h t from low row. ap (λ (x : ℕ). s.cell x (image s.inputs p q k t)) (let e : h ≡ (h - 1) + 1 = omega arith in e)
    ∙ each (h - 1) (omega arith) t row
    ∙ ap (λ (x : ℕ). complemented_cell b (s.cell x t)) (let e : (h - 1) + 1 ≡ h = omega arith in e))
    (λ kept h low t row. kept (h + 1) t (omega arith) (omega arith) row)
    (decided_everywhere (λ h. (t : ℕ) → t < 2 ^ s.inputs → IsCell h t)
    (λ h. decided_everywhere (IsCell h) (λ t. decided_cell (s.cell (h + 1) (image s.inputs p q k t)) (complemented_cell b (s.cell (h + 1) t))) (2 ^ s.inputs))
    s.outputs)

decided_flag : (P : Bool → Type 0) → ((b : Bool) → IsDecidable (P b)) → IsDecidable ((b : Bool) × P b)
decided_flag P decided = decided_by (P false ⊎ P true) ((b : Bool) × P b)
    (λ some. ⊎_elim (λ (x : P false). (false, x)) (λ (x : P true). (true, x)) some)
    (λ (b, x). elim b as (λ y. P y → P false ⊎ P true) [ true ↦ λ (y : P true). inr y | false ↦ λ (y : P false). inl y ] x)
    (decided_or (P false) (P true) (decided false) (decided true))

decided_exchangeable : (s : Specification) (p q : ℕ) → IsDecidable (IsExchangeable s p q)
decided_exchangeable s p q = decided_somewhere (λ k. (b : Bool) × IsKept s p q k b)
    (λ k. decided_flag (IsKept s p q k) (decided_kept s p q k)) (2 ^ s.inputs)

abbrev Violates : Specification → ℕ → (ℕ → Step) → ℕ → ℕ → Type 0
Violates s r step q p = (1 ≤ p) × (IsExchangeable s p q × IsSomewhere (TooEarly step p q) r)

decided_violates : (s : Specification) (r : ℕ) (step : ℕ → Step) (q p : ℕ) → IsDecidable (Violates s r step q p)
decided_violates s r step q p = decided_and (1 ≤ p) (IsExchangeable s p q × IsSomewhere (TooEarly step p q) r) (decided_lt 0 p)
    (decided_and (IsExchangeable s p q) (IsSomewhere (TooEarly step p q) r) (decided_exchangeable s p q)
    (decided_somewhere (TooEarly step p q) (decided_early step p q) r))

abbrev SomeViolates : Specification → ℕ → (ℕ → Step) → Type 0
SomeViolates s r step = IsSomewhere (λ q. IsSomewhere (Violates s r step q) q) (s.inputs + 1)

decided_some : (s : Specification) (r : ℕ) (step : ℕ → Step) → IsDecidable (SomeViolates s r step)
decided_some s r step = decided_somewhere (λ q. IsSomewhere (Violates s r step q) q)
    (λ q. decided_somewhere (Violates s r step q) (decided_violates s r step q) q) (s.inputs + 1)

-- ---- what violates it can be lowered

-- the flags of places for a set of inputs and a flag of outputs
abbrev flags_of : ℕ → ℕ → ℕ → ℕ → Bool → List Out → ℕ → Bool
flags_of n p q k c outs x = if leb x n then input n k (renamed p q x) else (c && flag (decided_named outs x))

and_true : (a b : Bool) → b ≡ true → (a && b) ≡ a
and_true true b e = e
and_true false b e = refl

are_flags : (n p q k : ℕ) (c : Bool) (outs : List Out) → AreFlags n p q k c outs (flags_of n p q k c outs)
are_flags n p q k c outs = record {
  of_input = λ x from low. cond-true (leb x n) (input n k (renamed p q x)) (c && flag (decided_named outs x)) (le-leb x n low);
  of_out = λ h x low named past. cond-false (leb x n) (input n k (renamed p q x)) (c && flag (decided_named outs x)) (lt-leb x n past)
      ∙ and_true c (flag (decided_named outs x)) (flag_true (decided_named outs x) (h, low, named));
}

both_read : (a : Step) (x y : ℕ) → (ReadsWithout a x y → ⊥) → Reads a x → Reads a y
both_read a x y none reads = ⊎_elim (λ (there : Reads a y). there) (λ (no : Reads a y → ⊥). absurd (none (reads, no))) (decided_reads a y)

-- If the first step that reads q without p comes before every step that reads p without q, and p and q may be
-- exchanged, the keys decrease.
exchanged_falls : (s : Specification) (basis : Basis) (r d : ℕ) (b : Body) → Fits s basis r d b → polarity_closed basis ≡ true →
    (p q : ℕ) → 1 ≤ p → p < q → q ≤ s.inputs → IsExchangeable s p q → (i : ℕ) → i < r → ReadsWithout (b.step i) q p →
    ((k : ℕ) → k < i → ReadsWithout (b.step k) q p → ⊥) → ((k : ℕ) → k < i → ReadsWithout (b.step k) p q → ⊥) →
    Falls s basis r d b
exchanged_falls s basis r d b fits closed p q from less low may i inside reads no_q no_p =
    let n : ℕ = s.inputs in
    let on : ℕ → Bool = flags_of n p q may.0 may.2.0 b.outs in
    let new : Fits s basis r d (transformed_body n p q on b) =
    transformed_fits s basis r d b fits closed p q from less low on may.0 may.2.0 may.2.1 (are_flags n p q may.0 may.2.0 b.outs) in
    record {
      at = transformed_body n p q on b;
      kept = new;
      lower = rank_less (n + r + 1) r (transformed n p q on b.step) b.step i inside
          (λ k k_low. let is = new.below k k_low in (omega (arith, is.j_below), omega (arith, is.k_below)))
          (λ k k_low. key_by (n + r + 1) (transformed n p q on b.step k) (moved (renamed p q) (b.step k)) refl refl
          ∙ stays (n + r + 1) p q (b.step k) less (both_read (b.step k) p q (no_p k k_low)) (both_read (b.step k) q p (no_q k k_low)))
          (falls p q (b.step i) less reads);
    }

violated_falls : (s : Specification) (basis : Basis) (r d : ℕ) (b : Body) → Fits s basis r d b → polarity_closed basis ≡ true → SomeViolates s r b.step →
    Falls s basis r d b
violated_falls s basis r d b fits closed out =
    let q : ℕ = out.0 in
    let q_low : q < s.inputs + 1 = out.1 in
    let p : ℕ = out.2.0 in
    let p_low : p < q = out.2.1 in
    let is : Violates s r b.step q p = out.2.2 in
    let k : ℕ = is.1.1.0 in
    let k_low : k < r = is.1.1.1 in
    let early : TooEarly b.step p q k = is.1.1.2 in
    ⊎_elim
    (λ (first : (i : ℕ) × IsFirstIndex (λ i. ReadsWithout (b.step i) q p) (k + 1) i).
    exchanged_falls s basis r d b fits closed p q is.0 p_low (omega arith) is.1.0 first.0 (omega (arith, first.1.0)) first.1.1 first.1.2
    (λ i i_low reads. early.1 (i, omega (arith, first.1.0), reads)))
    (λ (none : (i : ℕ) → i < k + 1 → ReadsWithout (b.step i) q p → ⊥). absurd (none k (omega arith) early.0))
    (search (λ i. ReadsWithout (b.step i) q p) (λ i. decided_without (b.step i) q p) (k + 1))

-- ---- the descent

-- the exchange cut, for the steps of index 0 to r - 1
abbrev pub MeetsExchanges : Specification → ℕ → (ℕ → Step) → Type 0
MeetsExchanges s r step = (p q : ℕ) → 1 ≤ p → p < q → q ≤ s.inputs → IsExchangeable s p q → (k : ℕ) → k < r →
    ReadsWithout (step k) q p → (i : ℕ) × (i < k) × ReadsWithout (step i) p q

none_violates : (s : Specification) (r : ℕ) (step : ℕ → Step) → (SomeViolates s r step → ⊥) → MeetsExchanges s r step
none_violates s r step none p q from less low may k k_low reads = ⊎_elim
    (λ (found : IsSomewhere (λ i. ReadsWithout (step i) p q) k). found)
    (λ (never : IsSomewhere (λ i. ReadsWithout (step i) p q) k → ⊥). absurd (none (q, omega arith, (p, less, (from, (may, (k, k_low, (reads, never))))))))
    (decided_somewhere (λ i. ReadsWithout (step i) p q) (λ i. decided_without (step i) p q) k)

-- Steps with the same pairs meet it too.
pub meets_same : (s : Specification) (r : ℕ) (old new : ℕ → Step) → ((k : ℕ) → SamePair (new k) (old k)) → MeetsExchanges s r old → MeetsExchanges s r new
meets_same s r old new same is = λ p q from less low may k inside reads.
    let found = is p q from less low may k inside (pair_without (new k) (old k) (same k) q p reads) in
    (found.0, found.1, pair_without (old found.0) (new found.0) (pair_back (new found.0) (old found.0) (same found.0)) p q found.2)

abbrev pub IsSettled : Specification → Basis → ℕ → Body → Type 0
IsSettled s basis r b = IsKeyMinimal s basis r b.step × MeetsExchanges s r b.step

-- If no chain of fewer steps agrees, the keys decrease until all rules of pairs hold, the cut among them.
pub settled_with_exchanges : (s : Specification) (basis : Basis) (r d : ℕ) → (HasFewer s basis r → ⊥) → polarity_closed basis ≡ true →
    (b : Body) → Fits s basis r d b → HasReached (Fits s basis r d) (IsSettled s basis r)
settled_with_exchanges s basis r d none closed b fits = descend (Fits s basis r d) (IsSettled s basis r) (λ x. rank (s.inputs + r + 1) r x.step)
    (λ x x_fits. ⊎_elim
    (λ (minimal : IsKeyMinimal s basis r x.step). ⊎_elim
    (λ (out : SomeViolates s r x.step). inr (violated_falls s basis r d x x_fits closed out))
    (λ (late : SomeViolates s r x.step → ⊥). inl (minimal, none_violates s r x.step late))
    (decided_some s r x.step))
    (λ (lower : Falls s basis r d x). inr lower)
    (settled_or_falls s basis r d none x x_fits))
    b fits
