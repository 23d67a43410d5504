-- Restoring the heap order.
use Rattle.std.specs.Prelude.{◌≡◌, ℕ, zero, suc, ◌+◌, ◌*◌, ◌/◌, ◌<◌, ◌≤◌, ◌⊎◌}
use Rattle.std.proofs.Common.{sym, ap, ◌∙◌, subst, arith, inl, inr}
use Rattle.std.proofs.Math.Logic.{⊎_elim}
use Rattle.std.proofs.lemmas.Bool.{cases_eq, cases_lt}
use Rattle.var_heap.specs.Entries.{with_entry}
use Rattle.var_heap.specs.HeapArrays.{IsArranged, IsUnder, IsOrdered, IsOrderedAbove, IsOrderedBelow, IsGreaterChild}
use Rattle.var_heap.proofs.Writing.{with_entry-same, with_entry-other}
use Rattle.var_heap.proofs.Arranging.{after_second, after_first, after_none}

-- the score at a place after those at a and b were exchanged
swapped_score : (h score : ℕ → ℕ) (a b p : ℕ) → ((p ≡ b) ×
    (score (with_entry (with_entry h a (h b)) b (h a) p) ≡ score (h a))) ⊎
    (((p ≡ b → ⊥) × (p ≡ a) × (score (with_entry (with_entry h a (h b)) b (h a) p) ≡ score (h b))) ⊎
    ((p ≡ b → ⊥) × (p ≡ a → ⊥) × (score (with_entry (with_entry h a (h b)) b (h a) p) ≡ score (h p))))
swapped_score h score a b p =
    ⊎_elim
    (λ (e : p ≡ b). inl (e, ap score (after_second h a (h b) b (h a) p e)))
    (λ (not_b : p ≡ b → ⊥). inr (⊎_elim
    (λ (e : p ≡ a). inl (not_b, e, ap score (after_first h a (h b) b (h a) p not_b e)))
    (λ (not_a : p ≡ a → ⊥). inr (not_b, not_a, ap score (after_none h a (h b) b (h a) p not_b not_a)))
    (cases_eq p a)))
    (cases_eq p b)

-- A variable moves up: the order may then fail at its new place only.
pub ordered_up : (h score : ℕ → ℕ) (len i q : ℕ) → IsOrderedAbove h score len i → i ≤ len → IsUnder i q →
    score (h q) < score (h i) → IsOrderedAbove (with_entry (with_entry h i (h q)) q (h i)) score len q
ordered_up h score len i q is low (some, left, right) greater = record {
  others = λ r p low_p (some_r, left_r, right_r) apart.
      elim (swapped_score h score i q p) [
        | inl a ↦ absurd (apart a.0)
        | inr (inl a) ↦ (let r_is : r ≡ q = omega (arith, a.1, left, right, left_r, right_r) in rw (a.2, ap score (after_second h i (h q) q (h i) r r_is)) (omega (arith, greater)))
        | inr (inr a) ↦
            (let here : score (with_entry (with_entry h i (h q)) q (h i) p) ≡ score (h p) = a.2 in
            elim (swapped_score h score i q r) [
              | inl b ↦ (let old : score (h p) ≤ score (h q) = is.others q p low_p (some, omega (arith, b.0, left_r), omega (arith, b.0, right_r)) a.1 in rw (here, b.1) (omega (arith, old, greater)))
              | inr (inl b) ↦ rw (here, b.2) (is.over q p low_p (some, left, right) (omega (arith, some, left), omega (arith, b.1, left_r), omega (arith, b.1, right_r)))
              | inr (inr b) ↦ rw (here, b.2) (is.others r p low_p (some_r, left_r, right_r) a.1)
            ])
      ];
  over = λ g p low_p (some_g, left_g, right_g) (some_q, left_q, right_q).
      let above : score (h q) ≤ score (h g) = is.others g q (omega (arith, low, left, some)) (some_g, left_g, right_g) (λ e. omega (arith, e, left, some)) in
      let keep : score (with_entry (with_entry h i (h q)) q (h i) g) ≡ score (h g) =
      ap score (after_none h i (h q) q (h i) g (λ e. omega (arith, e, left_g, some_g))
      (λ e. omega (arith, e, left, left_g, some, some_g))) in
      elim (swapped_score h score i q p) [
        | inl a ↦ absurd (omega (arith, a.0, left_q, some))
        | inr (inl a) ↦ rw (a.2, keep) above
        | inr (inr a) ↦ (let old : score (h p) ≤ score (h q) = is.others q p low_p (some, left_q, right_q) a.1 in rw (a.2, keep) (omega (arith, old, above)))
      ];
}

-- If it is at the top, or its parent's score isn't less, the list is a heap.
pub ordered_above : (h score : ℕ → ℕ) (len i : ℕ) → IsOrderedAbove h score len i → ((q : ℕ) → IsUnder i q → score (h i) ≤ score (h q)) → IsOrdered h score len
ordered_above h score len i is top = record {
  order = λ q p low under. ⊎_elim (λ (e : p ≡ i). subst (λ (x : ℕ). score (h x) ≤ score (h q)) (sym e)
      (top q (subst (λ (x : ℕ). IsUnder x q) e under))) (λ (apart : p ≡ i → ⊥). is.others q p low under apart)
      (cases_eq p i);
}

-- A variable moves down: the order may then fail at the child with the greater score only.
pub ordered_down : (h score : ℕ → ℕ) (len i c : ℕ) → IsOrderedBelow h score len i → IsGreaterChild h score len i c →
    score (h i) < score (h c) → IsOrderedBelow (with_entry (with_entry h i (h c)) c (h i)) score len c
ordered_down h score len i c is child greater = record {
  others = λ q p low_p (some_q, left_q, right_q) apart.
      elim (swapped_score h score i c q) [
        | inl b ↦ absurd (apart b.0)
        | inr (inl b) ↦
            (let under : IsUnder p i = (some, omega (arith, b.1, left_q), omega (arith, b.1, right_q)) in
            elim (swapped_score h score i c p) [
              | inl a ↦ rw (a.1, b.2) (omega (arith, greater))
              | inr (inl a) ↦ absurd (omega (arith, a.1, b.1, left_q, some))
              | inr (inr a) ↦ rw (a.2, b.2) (child.greater p low_p under)
            ])
        | inr (inr b) ↦
            elim (swapped_score h score i c p) [
              | inl a ↦ absurd (b.1 (omega (arith, a.0, left, right, left_q, right_q)))
              | inr (inl a) ↦ rw (a.2, b.2) (is.over q c child.inside (some_q, omega (arith, a.1, left_q), omega (arith, a.1, right_q)) child.under)
              | inr (inr a) ↦ rw (a.2, b.2) (is.others q p low_p (some_q, left_q, right_q) b.1)
            ]
      ];
  over = λ g p low_p (some_g, left_g, right_g) (some_c, left_p, right_p).
      let g_is : g ≡ i = omega (arith, left, right, left_g, right_g) in
      let below : score (h p) ≤ score (h c) = is.others c p low_p (some_c, left_p, right_p) (λ e. omega (arith, e, left, some)) in
      let not_c : p ≡ c → ⊥ = λ e. omega (arith, e, left_p, some_c) in
      let not_i : p ≡ i → ⊥ = λ e. omega (arith, e, left_p, left, some, some_c) in
      let keep : score (with_entry (with_entry h i (h c)) c (h i) p) ≡ score (h p) = ap score (after_none h i (h c) c (h i) p not_c not_i) in
      let top : score (with_entry (with_entry h i (h c)) c (h i) g) ≡ score (h c) = ap score (after_first h i (h c) c (h i) g (λ e. omega (arith, e, g_is, left, some)) g_is) in
      rw (keep, top) below;
}
  where
    some : 0 < i
    some = child.under.0

    left : 2 * i ≤ c
    left = child.under.1

    right : c ≤ 2 * i + 1
    right = child.under.2

pub ordered_below : (h score : ℕ → ℕ) (len i : ℕ) → IsOrderedBelow h score len i → ((p : ℕ) → p ≤ len → IsUnder p i → score (h p) ≤ score (h i)) → IsOrdered h score len
ordered_below h score len i is bottom = record {
  order = λ q p low under. ⊎_elim (λ (e : q ≡ i). subst (λ (x : ℕ). score (h p) ≤ score (h x)) (sym e)
      (bottom p low (subst (λ (x : ℕ). IsUnder p x) e under))) (λ (apart : q ≡ i → ⊥). is.others q p low under apart)
      (cases_eq q i);
}

-- The first variable has a greatest score.
pub first_greatest : (h score : ℕ → ℕ) (len : ℕ) → IsOrdered h score len → (bound p : ℕ) → p ≤ bound → 0 < p → p ≤ len → score (h p) ≤ score (h 1)
first_greatest h score len is zero p under some low = absurd (omega arith)
first_greatest h score len is (suc bound) p under some low =
    ⊎_elim
    (λ (two : 1 < p).
    let above : score (h p) ≤ score (h (p / 2)) = is.order (p / 2) p low (omega arith, omega arith, omega arith) in
    let IH : score (h (p / 2)) ≤ score (h 1) = first_greatest h score len is bound (p / 2) (omega arith) (omega arith) (omega arith) in
    omega (arith, above, IH))
    (λ (one : p ≤ 1). let e : p ≡ 1 = omega arith in rw e (omega arith))
    (cases_lt 1 p)

-- If the score of a variable increases, the order can fail against its parent only.
pub ordered_risen : (h s score : ℕ → ℕ) (len bound v y : ℕ) → IsArranged h s len bound → IsOrdered h score len → 0 < s v → score v ≤ y → IsOrderedAbove h (with_entry score v y) len (s v)
ordered_risen h s score len bound v y are is held rise = record {
  others = λ q p low (some, left, right) apart.
      let not_v : h p ≡ v → ⊥ = λ e. apart (sym (are.placed p (omega (arith, some, left)) low) ∙ ap s e) in
      rw (with_entry-other score v y (h p) not_v) (risen q (score (h p)) (is.order q p low (some, left, right)));
  over = λ g p low (some_g, left_g, right_g) (some, left, right).
      let not_v : h p ≡ v → ⊥ = λ e. (let same : p ≡ s v = sym (are.placed p (omega (arith, some, left)) low) ∙ ap s e in omega (arith, same, left, some)) in
      let above : score (h (s v)) ≤ score (h g) = is.order g (s v) (are.within v held) (some_g, left_g, right_g) in
      let here : score (h p) ≤ score (h (s v)) = is.order (s v) p low (some, left, right) in
      rw (with_entry-other score v y (h p) not_v) (risen g (score (h p)) (omega (arith, above, here)));
}
  where
    risen : (q x : ℕ) → x ≤ score (h q) → x ≤ with_entry score v y (h q)
    risen q x low =
        ⊎_elim
        (λ (e : h q ≡ v). rw (with_entry-same score v y (h q) e) (let same : score (h q) ≡ score v = ap score e in omega (arith, low, same, rise)))
        (λ (apart : h q ≡ v → ⊥). rw (with_entry-other score v y (h q) apart) low)
        (cases_eq (h q) v)

pub ordered_elsewhere : (h s score : ℕ → ℕ) (len bound v y : ℕ) → IsArranged h s len bound → IsOrdered h score len → s v ≡ 0 → IsOrdered h (with_entry score v y) len
ordered_elsewhere h s score len bound v y are is none = record {
  order = λ q p low (some, left, right).
      rw (
        with_entry-other score v y (h p) (not_v p (omega (arith, some, left)) low),
        with_entry-other score v y (h q) (not_v q some (omega (arith, left, low))),
      )
      (is.order q p low (some, left, right));
}
  where
    not_v : (p : ℕ) → 0 < p → p ≤ len → h p ≡ v → ⊥
    not_v p some low e = (let same : p ≡ s v = sym (are.placed p some low) ∙ ap s e in omega (arith, same, some, none))

-- A monotone change of all scores keeps the order.
pub ordered_alike : (h score : ℕ → ℕ) (len : ℕ) (f : ℕ → ℕ) → ((a b : ℕ) → a ≤ b → f a ≤ f b) → IsOrdered h score len → IsOrdered h (λ v. f (score v)) len
ordered_alike h score len f rising is = record { order = λ q p low under. rising (score (h p)) (score (h q)) (is.order q p low under) }

-- The child of q with the greater score is the right one, or the left one, or the left one is the only child.
pub greater_right : (h score : ℕ → ℕ) (len q : ℕ) → 0 < q → 2 * q + 1 ≤ len → score (h (2 * q)) < score (h (2 * q + 1)) → IsGreaterChild h score len q (2 * q + 1)
greater_right h score len q some low less = record {
  inside = low;
  under = (some, omega arith, omega arith);
  greater = λ p _ (_, left, right). ⊎_elim (λ (e : p ≡ 2 * q). rw e (omega (arith, less))) (λ (apart : p ≡ 2 * q → ⊥).
      let e : p ≡ 2 * q + 1 = omega (arith, left, right, apart) in rw e (omega arith)) (cases_eq p (2 * q));
}

pub greater_left : (h score : ℕ → ℕ) (len q : ℕ) → 0 < q → 2 * q ≤ len → score (h (2 * q + 1)) ≤ score (h (2 * q)) → IsGreaterChild h score len q (2 * q)
greater_left h score len q some low less = record {
  inside = low;
  under = (some, omega arith, omega arith);
  greater = λ p _ (_, left, right). ⊎_elim (λ (e : p ≡ 2 * q). rw e (omega arith)) (λ (apart : p ≡ 2 * q → ⊥).
      let e : p ≡ 2 * q + 1 = omega (arith, left, right, apart) in rw e less) (cases_eq p (2 * q));
}
