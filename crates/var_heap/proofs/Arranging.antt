-- Variables are exchanged, appended and removed.
use Rattle.std.specs.Prelude.{◌≡◌, ℕ, ◌+◌, ◌-◌, ◌<◌, ◌≤◌, refl}
use Rattle.std.proofs.Common.{sym, ap, ◌∙◌, subst, arith}
use Rattle.std.proofs.Math.Logic.{⊎_elim}
use Rattle.std.proofs.lemmas.Bool.{cases_eq}
use Rattle.var_heap.specs.Entries.{with_entry}
use Rattle.var_heap.specs.HeapArrays.{IsArranged}
use Rattle.var_heap.proofs.Writing.{with_entry-same, with_entry-other}

-- an entry after two writes; the later one counts
pub after_second : (f : ℕ → ℕ) (a x b y k : ℕ) → k ≡ b → with_entry (with_entry f a x) b y k ≡ y
after_second f a x b y k e = with_entry-same (with_entry f a x) b y k e

pub after_first : (f : ℕ → ℕ) (a x b y k : ℕ) → (k ≡ b → ⊥) → k ≡ a → with_entry (with_entry f a x) b y k ≡ x
after_first f a x b y k apart e = with_entry-other (with_entry f a x) b y k apart ∙ with_entry-same f a x k e

pub after_none : (f : ℕ → ℕ) (a x b y k : ℕ) → (k ≡ b → ⊥) → (k ≡ a → ⊥) → with_entry (with_entry f a x) b y k ≡ f k
after_none f a x b y k apart other = with_entry-other (with_entry f a x) b y k apart ∙ with_entry-other f a x k other

-- The variables at two places are exchanged.
pub arranged_swapped : (h s : ℕ → ℕ) (len bound a b : ℕ) → IsArranged h s len bound → 0 < a → a ≤ len → 0 < b →
    b ≤ len → (a ≡ b → ⊥) → IsArranged (with_entry (with_entry h a (h b)) b (h a))
    (with_entry (with_entry s (h b) a) (h a) b) len bound
arranged_swapped h s len bound a b is some_a low_a some_b low_b apart = record {
  some = λ p some low. entry_at p (λ x. 0 < x) (is.some a some_a low_a) (is.some b some_b low_b) (is.some p some low);
  below = λ p some low. entry_at p (λ x. x < bound) (is.below a some_a low_a) (is.below b some_b low_b) (is.below p some low);
  placed = placed;
  within = λ v there. (place_at v (λ x. (0 < x → x ≤ len)) (λ _. low_b) (λ _. low_a) (λ some. is.within v some)) there;
  found = found;
}
  where
    new_h : ℕ → ℕ
    new_h = with_entry (with_entry h a (h b)) b (h a)

    new_s : ℕ → ℕ
    new_s = with_entry (with_entry s (h b) a) (h a) b

    differ : h b ≡ h a → ⊥
    differ e = (let x : s (h b) ≡ b = is.placed b some_b low_b in let y : s (h a) ≡ a = is.placed a some_a low_a in apart (sym (sym x ∙ ap s e ∙ y)))

    entry_at : (p : ℕ) (P : ℕ → Type 0) → P (h a) → P (h b) → P (h p) → P (new_h p)
    entry_at p P at_b at_a other =
        ⊎_elim
        (λ (e : p ≡ b). subst P (sym (after_second h a (h b) b (h a) p e)) at_b)
        (λ (not_b : p ≡ b → ⊥). ⊎_elim
        (λ (e : p ≡ a). subst P (sym (after_first h a (h b) b (h a) p not_b e)) at_a)
        (λ (not_a : p ≡ a → ⊥). subst P (sym (after_none h a (h b) b (h a) p not_b not_a)) other)
        (cases_eq p a))
        (cases_eq p b)

    place_at : (v : ℕ) (P : ℕ → Type 0) → P b → P a → P (s v) → P (new_s v)
    place_at v P at_a at_b other =
        ⊎_elim
        (λ (e : v ≡ h a). subst P (sym (after_second s (h b) a (h a) b v e)) at_a)
        (λ (not_a : v ≡ h a → ⊥). ⊎_elim
        (λ (e : v ≡ h b). subst P (sym (after_first s (h b) a (h a) b v not_a e)) at_b)
        (λ (not_b : v ≡ h b → ⊥). subst P (sym (after_none s (h b) a (h a) b v not_a not_b)) other)
        (cases_eq v (h b)))
        (cases_eq v (h a))

    placed : (p : ℕ) → 0 < p → p ≤ len → new_s (new_h p) ≡ p
    placed p some low =
        ⊎_elim
        (λ (e : p ≡ b). ap new_s (after_second h a (h b) b (h a) p e) ∙ after_second s (h b) a (h a) b (h a) refl ∙ sym e)
        (λ (not_b : p ≡ b → ⊥). ⊎_elim
        (λ (e : p ≡ a). ap new_s (after_first h a (h b) b (h a) p not_b e) ∙ after_first s (h b) a (h a) b (h b) differ refl ∙ sym e)
        (λ (not_a : p ≡ a → ⊥).
        ap new_s (after_none h a (h b) b (h a) p not_b not_a) ∙ after_none s (h b) a (h a) b (h p)
        (λ e. not_a (sym (is.placed p some low) ∙ ap s e ∙ is.placed a some_a low_a))
        (λ e. not_b (sym (is.placed p some low) ∙ ap s e ∙ is.placed b some_b low_b))
        ∙ is.placed p some low)
        (cases_eq p a))
        (cases_eq p b)

    found : (v : ℕ) → 0 < new_s v → new_h (new_s v) ≡ v
    found v there =
        ⊎_elim
        (λ (e : v ≡ h a). ap new_h (after_second s (h b) a (h a) b v e) ∙ after_second h a (h b) b (h a) b refl ∙ sym e)
        (λ (not_a : v ≡ h a → ⊥). ⊎_elim
        (λ (e : v ≡ h b). ap new_h (after_first s (h b) a (h a) b v not_a e) ∙ after_first h a (h b) b (h a) a apart refl ∙ sym e)
        (λ (not_b : v ≡ h b → ⊥).
        let same : new_s v ≡ s v = after_none s (h b) a (h a) b v not_a not_b in
        let some : 0 < s v = omega arith in
        ap new_h same ∙ after_none h a (h b) b (h a) (s v)
        (λ e. not_b (sym (is.found v some) ∙ ap h e))
        (λ e. not_a (sym (is.found v some) ∙ ap h e))
        ∙ is.found v some)
        (cases_eq v (h b)))
        (cases_eq v (h a))

-- A variable is appended.
pub arranged_put : (h s : ℕ → ℕ) (len bound v : ℕ) → IsArranged h s len bound → 0 < v → v < bound → s v ≡ 0 → IsArranged (with_entry h (len + 1) v) (with_entry s v (len + 1)) (len + 1) bound
arranged_put h s len bound v is some low none = record {
  some = λ p some_p low_p. entry_at p (λ x. 0 < x) some (λ less. is.some p some_p less) low_p;
  below = λ p some_p low_p. entry_at p (λ x. x < bound) low (λ less. is.below p some_p less) low_p;
  placed = placed;
  within = within;
  found = found;
}
  where
    entry_at : (p : ℕ) (P : ℕ → Type 0) → P v → (p ≤ len → P (h p)) → p ≤ len + 1 → P (with_entry h (len + 1) v p)
    entry_at p P new old low_p =
        ⊎_elim
        (λ (e : p ≡ len + 1). subst P (sym (with_entry-same h (len + 1) v p e)) new)
        (λ (apart : p ≡ len + 1 → ⊥). subst P (sym (with_entry-other h (len + 1) v p apart)) (old (omega arith)))
        (cases_eq p (len + 1))

    placed : (p : ℕ) → 0 < p → p ≤ len + 1 → with_entry s v (len + 1) (with_entry h (len + 1) v p) ≡ p
    placed p some_p low_p =
        ⊎_elim
        (λ (e : p ≡ len + 1). ap (with_entry s v (len + 1)) (with_entry-same h (len + 1) v p e) ∙ with_entry-same s v (len + 1) v refl ∙ sym e)
        (λ (apart : p ≡ len + 1 → ⊥).
        let less : p ≤ len = omega arith in
        let back : s (h p) ≡ p = is.placed p some_p less in
        ap (with_entry s v (len + 1)) (with_entry-other h (len + 1) v p apart) ∙ with_entry-other s v (len + 1) (h p) (λ e. (let z : s (h p) ≡ s v = ap s e in omega arith)) ∙ back)
        (cases_eq p (len + 1))

    within : (w : ℕ) → 0 < with_entry s v (len + 1) w → with_entry s v (len + 1) w ≤ len + 1
    within w there =
        ⊎_elim
        (λ (e : w ≡ v). rw (with_entry-same s v (len + 1) w e) (omega arith))
        (λ (apart : w ≡ v → ⊥).
        let same : with_entry s v (len + 1) w ≡ s w = with_entry-other s v (len + 1) w apart in
        let here : 0 < s w = omega arith in
        let old : s w ≤ len = is.within w here in
        omega arith)
        (cases_eq w v)

    found : (w : ℕ) → 0 < with_entry s v (len + 1) w → with_entry h (len + 1) v (with_entry s v (len + 1) w) ≡ w
    found w there =
        ⊎_elim
        (λ (e : w ≡ v). ap (with_entry h (len + 1) v) (with_entry-same s v (len + 1) w e) ∙ with_entry-same h (len + 1) v (len + 1) refl ∙ sym e)
        (λ (apart : w ≡ v → ⊥).
        let same : with_entry s v (len + 1) w ≡ s w = with_entry-other s v (len + 1) w apart in
        let here : 0 < s w = omega arith in
        let old : s w ≤ len = is.within w here in
        ap (with_entry h (len + 1) v) same ∙ with_entry-other h (len + 1) v (s w) (λ e. omega arith) ∙ is.found w here)
        (cases_eq w v)

-- The first variable is removed, and the last one replaces it.
pub arranged_taken : (h s : ℕ → ℕ) (len bound : ℕ) → IsArranged h s len bound → 0 < len → IsArranged (with_entry h 1 (h len)) (with_entry (with_entry s (h len) 1) (h 1) 0) (len - 1) bound
arranged_taken h s len bound is some = record {
  some = λ p some_p low_p. entry_at p (λ x. 0 < x) (is.some len some (omega arith)) (is.some p some_p (omega arith));
  below = λ p some_p low_p. entry_at p (λ x. x < bound) (is.below len some (omega arith)) (is.below p some_p (omega arith));
  placed = placed;
  within = λ w there. (cases w there).0;
  found = λ w there. (cases w there).1;
}
  where
    new_h : ℕ → ℕ
    new_h = with_entry h 1 (h len)

    new_s : ℕ → ℕ
    new_s = with_entry (with_entry s (h len) 1) (h 1) 0

    at_first : s (h 1) ≡ 1
    at_first = is.placed 1 (omega arith) (omega arith)

    at_last : s (h len) ≡ len
    at_last = is.placed len some (omega arith)

    entry_at : (p : ℕ) (P : ℕ → Type 0) → P (h len) → P (h p) → P (new_h p)
    entry_at p P new old =
        ⊎_elim
        (λ (e : p ≡ 1). subst P (sym (with_entry-same h 1 (h len) p e)) new)
        (λ (apart : p ≡ 1 → ⊥). subst P (sym (with_entry-other h 1 (h len) p apart)) old)
        (cases_eq p 1)

    placed : (p : ℕ) → 0 < p → p ≤ len - 1 → new_s (new_h p) ≡ p
    placed p some_p low_p =
        ⊎_elim
        (λ (e : p ≡ 1).
        ap new_s (with_entry-same h 1 (h len) p e)
        ∙ after_first s (h len) 1 (h 1) 0 (h len) (λ same. (let z : s (h len) ≡ s (h 1) = ap s same in
        omega (arith, z, at_first, at_last, low_p, some_p, e))) refl ∙ sym e)
        (λ (apart : p ≡ 1 → ⊥).
        let back : s (h p) ≡ p = is.placed p some_p (omega arith) in
        ap new_s (with_entry-other h 1 (h len) p apart) ∙ after_none s (h len) 1 (h 1) 0 (h p)
        (λ same. (let z : s (h p) ≡ s (h 1) = ap s same in omega (arith, z, back, at_first, apart)))
        (λ same. (let z : s (h p) ≡ s (h len) = ap s same in omega (arith, z, back, at_last, low_p, some)))
        ∙ back)
        (cases_eq p 1)

    cases : (w : ℕ) → 0 < new_s w → (new_s w ≤ len - 1) × (new_h (new_s w) ≡ w)
    cases w there =
        ⊎_elim
        (λ (e : w ≡ h 1). absurd (let z : new_s w ≡ 0 = after_second s (h len) 1 (h 1) 0 w e in omega arith))
        (λ (not_first : w ≡ h 1 → ⊥). ⊎_elim
        (λ (e : w ≡ h len).
        let now : new_s w ≡ 1 = after_first s (h len) 1 (h 1) 0 w not_first e in
        let two : len ≡ 1 → ⊥ = λ one. not_first (e ∙ ap h one) in
        (omega (arith, now, two, some), ap new_h now ∙ with_entry-same h 1 (h len) 1 refl ∙ sym e))
        (λ (not_last : w ≡ h len → ⊥).
        let now : new_s w ≡ s w = after_none s (h len) 1 (h 1) 0 w not_first not_last in
        let here : 0 < s w = omega arith in
        let low : s w ≤ len = is.within w here in
        let back : h (s w) ≡ w = is.found w here in
        let not_len : s w ≡ len → ⊥ = λ same. not_last (sym back ∙ ap h same) in
        (omega (arith, now, low, not_len), ap new_h now ∙ with_entry-other h 1 (h len) (s w) (λ same. not_first (sym back ∙ ap h same)) ∙ back))
        (cases_eq w (h len)))
        (cases_eq w (h 1))
