-- The descent: a least chain is transformed, and its keys decrease, until the rules hold.
use Rattle.std.proofs.Common.{◌≡◌, ℕ, ◌+◌, ◌-◌, ◌≤◌, ◌<◌, ◌^◌, true, false, not, refl, arith, inl, inr, ⊎_elim, ◌⊎◌, subst}
use Rattle.std.proofs.lemmas.Bool.{cases_eq, cases_Bool, both_ways}
use Rattle.chain_theory.specs.Operator.{Basis}
use Rattle.chain_theory.specs.Specification.{Specification}
use Rattle.chain_theory.specs.Chain.{Step}
use Rattle.chain_theory.specs.declared.data.Cell.{Cell}
use Rattle.chain_theory.specs.declared.data.Cell.TheVariants as cells
use Rattle.op_basis.specs.Closed.{operator_of, reapply_closed}
use Rattle.tt_core.specs.Symmetry.{exchanged, IsSymmetricOutput, IsSymmetric}
use Rattle.chain_laws.specs.Keys.{ComesBefore}
use Rattle.chain_laws.specs.NormalForm.{IsNegation, Reads, ReadsWithout, IsReapplication}
use Rattle.chain_laws.specs.Bodies.{Body, Fits}
use Rattle.chain_laws.specs.Shorter.{HasFewer}
use Rattle.chain_laws.specs.Ranks.{rank, decided_before}
use Rattle.chain_laws.specs.Decidable.{IsDecidable, IsFirstIndex, IsSomewhere, IsLower, HasReached, search, descend}
use Rattle.chain_laws.specs.Decidable.{decided_and, decided_or, decided_not, decided_lt, decided_somewhere}
use Rattle.chain_laws.specs.Decidable.{decided_everywhere, decided_by}
use Rattle.chain_laws.specs.Trivial.{decided_reads, negation_lower}
use Rattle.chain_laws.specs.Exchanged.{exchanged_lower}
use Rattle.chain_laws.specs.Inputs.{inputs_lower}
use Rattle.chain_laws.specs.Reapplied.{again_goes}
use Rattle.chain_laws.specs.Settled.{IsKeyMinimal}

-- ---- the rules are decidable

pub decided_cell : (a b : Cell) → IsDecidable (a ≡ b)
decided_cell cells.Zero cells.Zero = inl refl
decided_cell cells.One cells.One = inl refl
decided_cell cells.Free cells.Free = inl refl
decided_cell cells.Zero cells.One = inr (λ (e : cells.Zero ≡ cells.One). cc)
decided_cell cells.Zero cells.Free = inr (λ (e : cells.Zero ≡ cells.Free). cc)
decided_cell cells.One cells.Zero = inr (λ (e : cells.One ≡ cells.Zero). cc)
decided_cell cells.One cells.Free = inr (λ (e : cells.One ≡ cells.Free). cc)
decided_cell cells.Free cells.Zero = inr (λ (e : cells.Free ≡ cells.Zero). cc)
decided_cell cells.Free cells.One = inr (λ (e : cells.Free ≡ cells.One). cc)

decided_symmetric : (s : Specification) (p q : ℕ) → IsDecidable (IsSymmetric s p q)
decided_symmetric s p q =
    decided_by ((h : ℕ) → h < s.outputs → IsSymmetricOutput s p q (h + 1)) (IsSymmetric s p q)
    (λ each h from low. subst (IsSymmetricOutput s p q) (let e : (h - 1) + 1 ≡ h = omega arith in e) (each (h - 1) (omega arith)))
    (λ symmetric h low. symmetric (h + 1) (omega arith) (omega arith))
    (decided_everywhere (λ h. IsSymmetricOutput s p q (h + 1))
    (λ h. decided_everywhere (λ t. s.cell (h + 1) (exchanged s.inputs p q t) ≡ s.cell (h + 1) t) (λ t. decided_cell (s.cell (h + 1) (exchanged s.inputs p q t)) (s.cell (h + 1) t)) (2 ^ s.inputs))
    s.outputs)

decided_negation : (op : ℕ) → IsDecidable (IsNegation op)
decided_negation op = decided_or (op ≡ operator_of (λ x y. not x)) (op ≡ operator_of (λ x y. not y)) (cases_eq op (operator_of (λ x y. not x))) (cases_eq op (operator_of (λ x y. not y)))

decided_again : (place : ℕ) (a b : Step) → IsDecidable (IsReapplication place a b)
decided_again place a b = decided_or ((b.j ≡ place) × Reads a b.k) ((b.k ≡ place) × Reads a b.j)
    (decided_and (b.j ≡ place) (Reads a b.k) (cases_eq b.j place) (decided_reads a b.k))
    (decided_and (b.k ≡ place) (Reads a b.j) (cases_eq b.k place) (decided_reads a b.j))

pub decided_without : (a : Step) (p q : ℕ) → IsDecidable (ReadsWithout a p q)
decided_without a p q = decided_and (Reads a p) (Reads a q → ⊥) (decided_reads a p) (decided_not (Reads a q) (decided_reads a q))

-- ---- a rule is violated

abbrev SplitNegation : ℕ → (ℕ → Step) → Type 0
SplitNegation r step = IsSomewhere (λ i. IsNegation (step i).op × ((step i).j ≡ (step i).k → ⊥)) r

decided_split : (r : ℕ) (step : ℕ → Step) → IsDecidable (SplitNegation r step)
decided_split r step = decided_somewhere (λ i. IsNegation (step i).op × ((step i).j ≡ (step i).k → ⊥))
    (λ i. decided_and (IsNegation (step i).op) ((step i).j ≡ (step i).k → ⊥) (decided_negation (step i).op) (decided_not ((step i).j ≡ (step i).k) (cases_eq (step i).j (step i).k)))
    r

abbrev OutOfOrder : ℕ → (ℕ → Step) → Type 0
OutOfOrder r step = IsSomewhere (λ i. ComesBefore (step (i + 1)) (step i)) (r - 1)

decided_order : (r : ℕ) (step : ℕ → Step) → IsDecidable (OutOfOrder r step)
decided_order r step = decided_somewhere (λ i. ComesBefore (step (i + 1)) (step i)) (λ i. decided_before (step (i + 1)) (step i)) (r - 1)

abbrev Again : ℕ → ℕ → (ℕ → Step) → ℕ → Type 0
Again n r step k = IsSomewhere (λ i. IsReapplication (n + 1 + i) (step i) (step k)) k

decided_reapplied : (n r : ℕ) (step : ℕ → Step) → IsDecidable (IsSomewhere (Again n r step) r)
decided_reapplied n r step = decided_somewhere (Again n r step) (λ k. decided_somewhere (λ i. IsReapplication (n + 1 + i) (step i) (step k)) (λ i. decided_again (n + 1 + i) (step i) (step k)) k) r

-- step k reads q without p, and no earlier step reads p without q
abbrev pub TooEarly : (ℕ → Step) → ℕ → ℕ → ℕ → Type 0
TooEarly step p q k = ReadsWithout (step k) q p × (IsSomewhere (λ i. ReadsWithout (step i) p q) k → ⊥)

pub decided_early : (step : ℕ → Step) (p q k : ℕ) → IsDecidable (TooEarly step p q k)
decided_early step p q k = decided_and (ReadsWithout (step k) q p) (IsSomewhere (λ i. ReadsWithout (step i) p q) k → ⊥) (decided_without (step k) q p)
    (decided_not (IsSomewhere (λ i. ReadsWithout (step i) p q) k) (decided_somewhere (λ i. ReadsWithout (step i) p q) (λ i. decided_without (step i) p q) k))

abbrev Exchangeable : Specification → ℕ → (ℕ → Step) → ℕ → ℕ → Type 0
Exchangeable s r step q p = (1 ≤ p) × (IsSymmetric s p q × IsSomewhere (TooEarly step p q) r)

decided_pair : (s : Specification) (r : ℕ) (step : ℕ → Step) (q p : ℕ) → IsDecidable (Exchangeable s r step q p)
decided_pair s r step q p = decided_and (1 ≤ p) (IsSymmetric s p q × IsSomewhere (TooEarly step p q) r) (decided_lt 0 p)
    (decided_and (IsSymmetric s p q) (IsSomewhere (TooEarly step p q) r) (decided_symmetric s p q) (decided_somewhere (TooEarly step p q) (decided_early step p q) r))

abbrev InputsOut : Specification → ℕ → (ℕ → Step) → Type 0
InputsOut s r step = IsSomewhere (λ q. IsSomewhere (Exchangeable s r step q) q) (s.inputs + 1)

decided_inputs : (s : Specification) (r : ℕ) (step : ℕ → Step) → IsDecidable (InputsOut s r step)
decided_inputs s r step = decided_somewhere (λ q. IsSomewhere (Exchangeable s r step q) q) (λ q. decided_somewhere (Exchangeable s r step q) (decided_pair s r step q) q) (s.inputs + 1)

-- ---- the descent

-- the keys can decrease, if no chain of fewer steps agrees
abbrev pub Falls : Specification → Basis → ℕ → ℕ → Body → Type 0
Falls s basis r d b = IsLower (Fits s basis r d) (λ x. rank (s.inputs + r + 1) r x.step) b

early_falls : (s : Specification) (basis : Basis) (r d : ℕ) (b : Body) → Fits s basis r d b → InputsOut s r b.step → Falls s basis r d b
early_falls s basis r d b fits out =
    let q : ℕ = out.0 in
    let q_low : q < s.inputs + 1 = out.1 in
    let p : ℕ = out.2.0 in
    let p_low : p < q = out.2.1 in
    let is : Exchangeable s r b.step q p = out.2.2 in
    let k : ℕ = is.1.1.0 in
    let k_low : k < r = is.1.1.1 in
    let early : TooEarly b.step p q k = is.1.1.2 in
    ⊎_elim
    (λ (first : (i : ℕ) × IsFirstIndex (λ i. ReadsWithout (b.step i) q p) (k + 1) i).
    inputs_lower s basis r d b fits p q is.0 p_low (omega arith) is.1.0 first.0 (omega (arith, first.1.0)) first.1.1 first.1.2
    (λ i i_low reads. early.1 (i, omega (arith, first.1.0), reads)))
    (λ (none : (i : ℕ) → i < k + 1 → ReadsWithout (b.step i) q p → ⊥). absurd (none k (omega arith) early.0))
    (search (λ i. ReadsWithout (b.step i) q p) (λ i. decided_without (b.step i) q p) (k + 1))

again_falls : (s : Specification) (basis : Basis) (r d : ℕ) → (HasFewer s basis r → ⊥) → (b : Body) →
    Fits s basis r d b → reapply_closed basis ≡ true → IsSomewhere (Again s.inputs r b.step) r → Falls s basis r d b
again_falls s basis r d none b fits closed again = ⊎_elim
    (λ (fewer : HasFewer s basis r). absurd (none fewer))
    (λ (falls : Falls s basis r d b). falls)
    (again_goes s basis r d b fits closed again.2.0 again.0 again.2.1 again.1 again.2.2)

-- there is no re-application, if the basis is closed under re-application
abbrev NeverAgain : Specification → Basis → ℕ → (ℕ → Step) → Type 0
NeverAgain s basis r step = reapply_closed basis ≡ true → IsSomewhere (Again s.inputs r step) r → ⊥

again_cases : (s : Specification) (basis : Basis) (r d : ℕ) → (HasFewer s basis r → ⊥) → (b : Body) → Fits s basis r d b → NeverAgain s basis r b.step ⊎ Falls s basis r d b
again_cases s basis r d none b fits = ⊎_elim
    (λ (closed : reapply_closed basis ≡ true). ⊎_elim
    (λ (again : IsSomewhere (Again s.inputs r b.step) r). inr (again_falls s basis r d none b fits closed again))
    (λ (never : IsSomewhere (Again s.inputs r b.step) r → ⊥). inl (λ c again. never again))
    (decided_reapplied s.inputs r b.step))
    (λ (open_ : reapply_closed basis ≡ false). inl (λ closed again. both_ways (reapply_closed basis) open_ closed))
    (cases_Bool (reapply_closed basis))

early_none : (s : Specification) (r : ℕ) (step : ℕ → Step) → (InputsOut s r step → ⊥) → (p q : ℕ) → 1 ≤ p → p < q →
    q ≤ s.inputs → IsSymmetric s p q → (k : ℕ) → k < r → ReadsWithout (step k) q p → (i : ℕ) × (i < k) ×
    ReadsWithout (step i) p q
early_none s r step none p q from less low symmetric k k_low reads = ⊎_elim
    (λ (found : IsSomewhere (λ i. ReadsWithout (step i) p q) k). found)
    (λ (never : IsSomewhere (λ i. ReadsWithout (step i) p q) k → ⊥). absurd (none (q, omega arith, (p, less, (from, (symmetric, (k, k_low, (reads, never))))))))
    (decided_somewhere (λ i. ReadsWithout (step i) p q) (λ i. decided_without (step i) p q) k)

pub settled_or_falls : (s : Specification) (basis : Basis) (r d : ℕ) → (HasFewer s basis r → ⊥) → (b : Body) → Fits s basis r d b → IsKeyMinimal s basis r b.step ⊎ Falls s basis r d b
settled_or_falls s basis r d none b fits = ⊎_elim
    (λ (split : SplitNegation r b.step). inr (negation_lower s basis r d b fits split.0 split.1 split.2.0 split.2.1))
    (λ (whole : SplitNegation r b.step → ⊥). ⊎_elim
    (λ (out : OutOfOrder r b.step). inr (exchanged_lower s basis r d b fits out.0 (omega (arith, out.1)) out.2))
    (λ (in_order : OutOfOrder r b.step → ⊥). ⊎_elim
    (λ (never : NeverAgain s basis r b.step). ⊎_elim
    (λ (early : InputsOut s r b.step). inr (early_falls s basis r d b fits early))
    (λ (late : InputsOut s r b.step → ⊥). inl (record {
      paired = record {
        in_order = λ i low before. in_order (i, omega arith, before);
        not_again = λ closed i k before low again. never closed (k, low, (i, before, again));
        earlier_first = early_none s r b.step late;
      };
      negation_of_equal = λ i low negation. ⊎_elim
          (λ (equal : (b.step i).j ≡ (b.step i).k). equal)
          (λ (apart : (b.step i).j ≡ (b.step i).k → ⊥). absurd (whole (i, low, (negation, apart))))
          (cases_eq (b.step i).j (b.step i).k);
    }))
    (decided_inputs s r b.step))
    (λ (falls : Falls s basis r d b). inr falls)
    (again_cases s basis r d none b fits))
    (decided_order r b.step))
    (decided_split r b.step)

-- If no chain of fewer steps agrees, the keys decrease until the rules hold.
pub settled : (s : Specification) (basis : Basis) (r d : ℕ) → (HasFewer s basis r → ⊥) → (b : Body) → Fits s basis r d b → HasReached (Fits s basis r d) (λ x. IsKeyMinimal s basis r x.step)
settled s basis r d none b fits = descend (Fits s basis r d) (λ x. IsKeyMinimal s basis r x.step) (λ x. rank (s.inputs + r + 1) r x.step) (settled_or_falls s basis r d none) b fits
