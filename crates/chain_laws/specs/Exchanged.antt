-- Two neighbouring steps are exchanged.
use Rattle.std.proofs.Common.{◌≡◌, ℕ, ◌+◌, ◌-◌, ◌≤◌, ◌<◌, refl, sym, ap, ◌∙◌, arith, inl, inr, ⊎_elim, subst}
use Rattle.std.proofs.lemmas.Bool.{cases_lt}
use Rattle.chain_theory.specs.Operator.{Basis}
use Rattle.chain_theory.specs.Specification.{Specification, input}
use Rattle.chain_theory.specs.Chain.{Step, IsStepAt}
use Rattle.tt_core.specs.Symmetry.{renamed}
use Rattle.chain_laws.specs.Keys.{larger, smaller, ComesBefore}
use Rattle.chain_laws.specs.NormalForm.{Reads}
use Rattle.chain_laws.specs.Bodies.{Body, Fits, AreBelow}
use Rattle.chain_laws.specs.Moved.{moved, moved_body, IsMove, moved_fits}
use Rattle.chain_laws.specs.Renamed.{renamed_cases, renamed_first, renamed_second, renamed_other, renamed_back, renamed_within, renamed_from, renamed_low, moved_same, moved_below}
use Rattle.chain_laws.specs.Ranks.{key, rank, rank_less}
use Rattle.chain_laws.specs.Decidable.{IsLower}

-- ---- neighbours

exchange_below : (n r : ℕ) (step : ℕ → Step) → AreBelow n r step → (i : ℕ) → i + 1 < r →
    (Reads (step (i + 1)) (n + 1 + i) → ⊥) → AreBelow n r (λ k. moved (renamed (n + 1 + i) (n + 1 + (i + 1)))
    (step (renamed i (i + 1) k)))
exchange_below n r step below i low unread k k_low =
    let p : ℕ = n + 1 + i in
    let q : ℕ = n + 1 + (i + 1) in
    let f : ℕ → ℕ = renamed p q in
    let Goal : ℕ → Type 0 = λ m. IsStepAt (n + 1 + k) (moved f (step m)) in
    elim (renamed_cases i (i + 1) k) [
      | inl is_i ↦ subst Goal (sym is_i.1) (moved_below f q (n + 1 + k) (step (i + 1)) (below (i + 1) low)
          (λ x reads from x_low.
          let no_p : x ≡ p → ⊥ = λ e. unread (subst (Reads (step (i + 1))) e reads) in
          let same : f x ≡ x = renamed_other p q x no_p (λ e. omega arith) in
          let lower : x < p = ⊎_elim (λ (lt : x < p). lt) (λ (ge : p ≤ x). absurd (no_p (omega arith))) (cases_lt x p) in
          (omega (arith, same), omega (arith, same, is_i.0))))
      | inr (inl is_next) ↦ subst Goal (sym is_next.1) (moved_below f p (n + 1 + k) (step i) (below i (omega arith))
          (λ x reads from x_low.
          let same : f x ≡ x = renamed_other p q x (λ e. omega arith) (λ e. omega arith) in
          (omega (arith, same), omega (arith, same, is_next.0))))
      | inr (inr other) ↦ subst Goal (sym other.2) (moved_below f (n + 1 + k) (n + 1 + k) (step k) (below k k_low)
          (λ x reads from x_low. ⊎_elim
          (λ (lt : k < i).
          let same : f x ≡ x = renamed_other p q x (λ e. omega arith) (λ e. omega arith) in
          (omega (arith, same), omega (arith, same)))
          (λ (ge : i ≤ k).
          let no_i : k ≡ i → ⊥ = other.0 in
          let no_next : k ≡ i + 1 → ⊥ = other.1 in
          let within = renamed_within p q x 1 (n + k) (omega arith) (omega arith) (omega arith) (omega (arith, no_i, no_next)) from (omega arith) in
          (within.0, omega (arith, within.1)))
          (cases_lt k i)))
    ]

exchange_moves : (s : Specification) (basis : Basis) (r d : ℕ) (b : Body) → Fits s basis r d b → (i : ℕ) → i + 1 < r →
    (Reads (b.step (i + 1)) (s.inputs + 1 + i) → ⊥) →
    IsMove s r b.step (renamed (s.inputs + 1 + i) (s.inputs + 1 + (i + 1))) (renamed i (i + 1)) (λ t. t)
exchange_moves s basis r d b fits i low unread =
    let n : ℕ = s.inputs in
    let p : ℕ = n + 1 + i in
    let q : ℕ = n + 1 + (i + 1) in
    let f : ℕ → ℕ = renamed p q in
    record {
      back = renamed_back p q;
      from = λ x x_from. renamed_from p q x (omega arith) (omega arith) x_from;
      within = λ x x_low. renamed_low p q x (n + r) (omega arith) (omega arith) x_low;
      of_input = λ x from x_low. omega (arith, renamed_other p q x (λ e. omega arith) (λ e. omega arith));
      of_step = λ k k_low. elim (renamed_cases i (i + 1) k) [
        | inl is_i ↦ renamed_first p q (n + 1 + k) (omega (arith, is_i.0)) ∙ omega (arith, is_i.1)
        | inr (inl is_next) ↦ renamed_second p q (n + 1 + k) (omega (arith, is_next.0)) ∙ omega (arith, is_next.1)
        | inr (inr other) ↦ renamed_other p q (n + 1 + k) (λ e. other.0 (omega (arith, e))) (λ e. other.1 (omega (arith, e))) ∙ omega (arith, other.2)
      ];
      inside = λ k k_low. omega (arith, renamed_low i (i + 1) k (r - 1) (omega arith) (omega arith) (omega arith));
      bit = λ t x from x_low. ap (input n t) (renamed_other p q x (λ e. omega arith) (λ e. omega arith));
      is_row = λ t t_low. t_low;
      cell = λ h t from h_low t_low. refl;
      below = exchange_below n r b.step fits.below i low unread;
    }

-- If a step's pair comes before that of the preceding step, neither step reads the other, and they can
-- be exchanged; the keys decrease.
pub exchanged_lower : (s : Specification) (basis : Basis) (r d : ℕ) (b : Body) → Fits s basis r d b → (i : ℕ) →
    i + 1 < r → ComesBefore (b.step (i + 1)) (b.step i) →
    IsLower (Fits s basis r d) (λ x. rank (s.inputs + r + 1) r x.step) b
exchanged_lower s basis r d b fits i low before =
    let n : ℕ = s.inputs in
    let p : ℕ = n + 1 + i in
    let q : ℕ = n + 1 + (i + 1) in
    let f : ℕ → ℕ = renamed p q in
    let order : ℕ → ℕ = renamed i (i + 1) in
    let here : IsStepAt p (b.step i) = fits.below i (omega arith) in
    let next : IsStepAt q (b.step (i + 1)) = fits.below (i + 1) low in
    let unread : Reads (b.step (i + 1)) p → ⊥ = λ reads.
    let at_most : larger (b.step (i + 1)) ≤ larger (b.step i) =
    ⊎_elim (λ (lt : larger (b.step (i + 1)) < larger (b.step i)). omega arith)
    (λ (same : (larger (b.step (i + 1)) ≡ larger (b.step i)) ×
    (smaller (b.step (i + 1)) < smaller (b.step i))). omega (arith, same.0)) before in
    let old : larger (b.step i) < p = omega (arith, here.j_below, here.k_below) in
    ⊎_elim (λ (e : (b.step (i + 1)).j ≡ p). omega arith) (λ (e : (b.step (i + 1)).k ≡ p). omega arith) reads in
    let new : Fits s basis r d (moved_body f order b) = moved_fits s basis r d b fits f order (λ t. t) (exchange_moves s basis r d b fits i low unread) in
    let stays : (a : Step) (place : ℕ) → IsStepAt place a → place ≤ p → moved f a ≡ a = λ a place is le.
    moved_same f a (renamed_other p q a.j (λ e. omega (arith, is.j_below)) (λ e. omega (arith, is.j_below)))
    (renamed_other p q a.k (λ e. omega (arith, is.k_below)) (λ e. omega (arith, is.k_below))) in
    let next_low : (x : ℕ) → Reads (b.step (i + 1)) x → x < q → f x ≡ x = λ x reads x_low. renamed_other p q x (λ e. unread (subst (Reads (b.step (i + 1))) e reads)) (λ e. omega arith) in
    record {
      at = moved_body f order b;
      kept = new;
      lower = rank_less (n + r + 1) r (λ k. moved f (b.step (order k))) b.step i (omega arith)
          (λ k k_low. let is = new.below k k_low in (omega (arith, is.j_below), omega (arith, is.k_below)))
          (λ k k_low.
          let same : order k ≡ k = renamed_other i (i + 1) k (λ e. omega arith) (λ e. omega arith) in
          ap (λ (x : ℕ). key (n + r + 1) (moved f (b.step x))) same
          ∙ ap (key (n + r + 1)) (stays (b.step k) (n + 1 + k) (fits.below k (omega arith)) (omega arith)))
          (subst (λ (x : Step). ComesBefore x (b.step i))
          (sym (ap (λ (x : ℕ). moved f (b.step x)) (renamed_first i (i + 1) i refl)
          ∙ moved_same f (b.step (i + 1)) (next_low (b.step (i + 1)).j (inl refl) next.j_below) (next_low (b.step (i + 1)).k (inr refl) next.k_below)))
          before);
    }
