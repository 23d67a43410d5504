-- Two symmetric inputs are exchanged.
use Rattle.std.proofs.Common.{◌≡◌, ℕ, ◌+◌, ◌*◌, ◌≤◌, ◌<◌, refl, sym, ap, ◌∙◌, arith, inl, inr, ⊎_elim, subst}
use Rattle.std.proofs.lemmas.Bool.{cases_eq, cases_lt}
use Rattle.std.proofs.lemmas.Bool.Decides.{nat_tests}
use Rattle.chain_theory.specs.Operator.{Basis}
use Rattle.chain_theory.specs.Specification.{Specification, input}
use Rattle.chain_theory.specs.Chain.{Step}
use Rattle.tt_core.specs.Symmetry.{renamed, exchanged, IsSymmetric}
use Rattle.tt_core.specs.Laws.{exchanged_input, exchanged_low}
use Rattle.chain_laws.specs.Keys.{larger, smaller, ComesBefore}
use Rattle.chain_laws.specs.NormalForm.{Reads, ReadsWithout}
use Rattle.chain_laws.specs.Bodies.{Body, Fits}
use Rattle.chain_laws.specs.Moved.{moved, moved_body, IsMove, moved_fits}
use Rattle.chain_laws.specs.Renamed.{renamed_cases, renamed_first, renamed_second, renamed_other, renamed_back, renamed_from, renamed_low, moved_below}
use Rattle.chain_laws.specs.Ranks.{key, rank, rank_less}
use Rattle.chain_laws.specs.Decidable.{IsLower, decided_or}

-- ---- pairs with one of two names

-- a step with these operands
abbrev pair : ℕ → ℕ → Step
pair j k = record { j = j; k = k; op = 0 }

pair_lower : (p q x : ℕ) → p < q → (x ≡ p → ⊥) → (x ≡ q → ⊥) → ComesBefore (pair p x) (pair q x)
pair_lower p q x less no_p no_q = elim (cases_lt x q) [
  | inl below ↦ inl (omega (arith, no_p, no_q))
  | inr above ↦ inr (omega (arith, no_q), grind (arith, nat_tests))
]

pair_operands_exchanged : (j k l m : ℕ) → ComesBefore (pair j k) (pair l m) → ComesBefore (pair k j) (pair m l)
pair_operands_exchanged j k l m before = elim before [
  | inl lower ↦ inl (omega arith)
  | inr same ↦ inr (omega (arith, same.0), grind (arith, nat_tests, same.1))
]

before_same : (j k j2 k2 l m l2 m2 : ℕ) → j ≡ j2 → k ≡ k2 → l ≡ l2 → m ≡ m2 → ComesBefore (pair j2 k2) (pair l2 m2) → ComesBefore (pair j k) (pair l m)
before_same j k j2 k2 l m l2 m2 ej ek el em before =
    subst (λ (x : ℕ). ComesBefore (pair x k) (pair l m)) (sym ej)
    (subst (λ (x : ℕ). ComesBefore (pair j2 x) (pair l m)) (sym ek)
    (subst (λ (x : ℕ). ComesBefore (pair j2 k2) (pair x m)) (sym el)
    (subst (λ (x : ℕ). ComesBefore (pair j2 k2) (pair l2 x)) (sym em) before)))

-- A pair with q and without p comes earlier when q is renamed to the smaller p.
pub falls : (p q : ℕ) (a : Step) → p < q → ReadsWithout a q p → ComesBefore (moved (renamed p q) a) a
falls p q a less reads =
    let f : ℕ → ℕ = renamed p q in
    elim (renamed_cases p q a.j) [
      | inl j_p ↦ absurd (reads.1 (inl j_p.0))
      | inr (inl j_q) ↦ elim (renamed_cases p q a.k) [
        | inl k_p ↦ absurd (reads.1 (inr k_p.0))
        | inr (inl k_q) ↦ inl (omega (arith, j_q.0, j_q.1, k_q.0, k_q.1))
        | inr (inr other) ↦ before_same (f a.j) (f a.k) p a.k a.j a.k q a.k j_q.1 other.2 j_q.0 refl (pair_lower p q a.k less other.0 other.1)
      ]
      | inr (inr j_other) ↦ elim (renamed_cases p q a.k) [
        | inl k_p ↦ absurd (reads.1 (inr k_p.0))
        | inr (inl k_q) ↦ before_same (f a.j) (f a.k) a.j p a.j a.k a.j q j_other.2 k_q.1 refl k_q.0 (pair_operands_exchanged p a.j q a.j (pair_lower p q a.j less j_other.0 j_other.1))
        | inr (inr k_other) ↦ absurd (⊎_elim (λ (e : a.j ≡ q). j_other.1 e) (λ (e : a.k ≡ q). k_other.1 e) reads.0)
      ]
    ]

key_operands_exchanged : (base j k : ℕ) → key base (pair j k) ≡ key base (pair k j)
unfolding key
key_operands_exchanged base j k =
    let top : larger (pair j k) ≡ larger (pair k j) = omega arith in
    let rest : smaller (pair j k) ≡ smaller (pair k j) = grind (arith, nat_tests) in
    ap (λ (x : ℕ). x * base + smaller (pair j k)) top ∙ ap (λ (x : ℕ). larger (pair k j) * base + x) rest

key_pair : (base : ℕ) (a : Step) → key base a ≡ key base (pair a.j a.k)
unfolding key
key_pair base a = refl

pub key_by : (base : ℕ) (a b : Step) → a.j ≡ b.j → a.k ≡ b.k → key base a ≡ key base b
key_by base a b ej ek = key_pair base a ∙ ap (λ (x : ℕ). key base (pair x a.k)) ej ∙ ap (λ (x : ℕ). key base (pair b.j x)) ek ∙ sym (key_pair base b)

key_crossed : (base : ℕ) (a b : Step) → a.j ≡ b.k → a.k ≡ b.j → key base a ≡ key base b
key_crossed base a b ej ek = key_by base a (pair b.k b.j) ej ek ∙ key_operands_exchanged base b.k b.j ∙ sym (key_pair base b)

-- a step that reads both or neither keeps its key
pub stays : (base p q : ℕ) (a : Step) → p < q → (Reads a p → Reads a q) → (Reads a q → Reads a p) → key base (moved (renamed p q) a) ≡ key base a
stays base p q a less up down =
    let f : ℕ → ℕ = renamed p q in
    elim (renamed_cases p q a.j) [
      | inl j_p ↦
          let k_q : a.k ≡ q = ⊎_elim (λ (e : a.j ≡ q). absurd (omega (arith, j_p.0, e))) (λ (e : a.k ≡ q). e) (up (inl j_p.0)) in
          key_crossed base (moved f a) a (j_p.1 ∙ sym k_q) (renamed_second p q a.k k_q ∙ sym j_p.0)
      | inr (inl j_q) ↦
          let k_p : a.k ≡ p = ⊎_elim (λ (e : a.j ≡ p). absurd (omega (arith, j_q.0, e))) (λ (e : a.k ≡ p). e) (down (inl j_q.0)) in
          key_crossed base (moved f a) a (j_q.1 ∙ sym k_p) (renamed_first p q a.k k_p ∙ sym j_q.0)
      | inr (inr j_other) ↦ elim (renamed_cases p q a.k) [
        | inl k_p ↦ absurd (⊎_elim (λ (e : a.j ≡ q). j_other.1 e) (λ (e : a.k ≡ q). omega (arith, k_p.0, e)) (up (inr k_p.0)))
        | inr (inl k_q) ↦ absurd (⊎_elim (λ (e : a.j ≡ p). j_other.0 e) (λ (e : a.k ≡ p). omega (arith, k_q.0, e)) (down (inr k_q.0)))
        | inr (inr k_other) ↦ key_by base (moved f a) a j_other.2 k_other.2
      ]
    ]

-- ---- chains

inputs_move : (s : Specification) (basis : Basis) (r d : ℕ) (b : Body) → Fits s basis r d b → (p q : ℕ) → 1 ≤ p →
    p < q → q ≤ s.inputs → IsSymmetric s p q → IsMove s r b.step (renamed p q) (λ k. k) (exchanged s.inputs p q)
inputs_move s basis r d b fits p q from less low symmetric =
    let n : ℕ = s.inputs in
    let f : ℕ → ℕ = renamed p q in
    record {
      back = renamed_back p q;
      from = λ x x_from. renamed_from p q x from (omega arith) x_from;
      within = λ x x_low. renamed_low p q x (n + r) (omega arith) (omega arith) x_low;
      of_input = λ x x_from x_low. renamed_low p q x n (omega arith) low x_low;
      of_step = λ k k_low. renamed_other p q (n + 1 + k) (λ e. omega arith) (λ e. omega arith);
      inside = λ k k_low. k_low;
      bit = λ t x x_from x_low. exchanged_input n p q t (f x) (renamed_from p q x from (omega arith) x_from) (renamed_low p q x n (omega arith) low x_low) ∙ ap (input n t) (renamed_back p q x);
      is_row = λ t t_low. exchanged_low n p q t;
      cell = λ h t h_from h_low t_low. symmetric h h_from h_low t t_low;
      below = λ k k_low. moved_below f (n + 1 + k) (n + 1 + k) (b.step k) (fits.below k k_low) (λ x reads x_from x_low.
          (renamed_from p q x from (omega arith) x_from, omega (arith, renamed_low p q x (n + k) (omega arith) (omega arith) (omega arith))));
    }

-- If the first step that reads q without p comes before every step that reads p without q, the two
-- inputs can be exchanged; the keys decrease.
pub inputs_lower : (s : Specification) (basis : Basis) (r d : ℕ) (b : Body) → Fits s basis r d b → (p q : ℕ) → 1 ≤ p →
    p < q → q ≤ s.inputs → IsSymmetric s p q → (i : ℕ) → i < r → ReadsWithout (b.step i) q p →
    ((k : ℕ) → k < i → ReadsWithout (b.step k) q p → ⊥) → ((k : ℕ) → k < i → ReadsWithout (b.step k) p q → ⊥) →
    IsLower (Fits s basis r d) (λ x. rank (s.inputs + r + 1) r x.step) b
inputs_lower s basis r d b fits p q from less low symmetric i inside reads no_q no_p =
    let n : ℕ = s.inputs in
    let f : ℕ → ℕ = renamed p q in
    let new : Fits s basis r d (moved_body f (λ k. k) b) = moved_fits s basis r d b fits f (λ k. k) (exchanged n p q) (inputs_move s basis r d b fits p q from less low symmetric) in
    let both : (a : Step) (x y : ℕ) → (ReadsWithout a x y → ⊥) → Reads a x → Reads a y =
    λ a x y none reads_x. ⊎_elim (λ (there : Reads a y). there) (λ (no : Reads a y → ⊥). absurd (none (reads_x, no)))
    (decided_or (a.j ≡ y) (a.k ≡ y) (cases_eq a.j y) (cases_eq a.k y)) in
    record {
      at = moved_body f (λ k. k) b;
      kept = new;
      lower = rank_less (n + r + 1) r (λ k. moved f (b.step k)) b.step i inside
          (λ k k_low. let is = new.below k k_low in (omega (arith, is.j_below), omega (arith, is.k_below)))
          (λ k k_low. stays (n + r + 1) p q (b.step k) less (both (b.step k) p q (no_p k k_low)) (both (b.step k) q p (no_q k k_low)))
          (falls p q (b.step i) less reads);
    }
