-- How many of some ids pass a test, when the test or the ids change.
use Rattle.std.proofs.Common.{◌≡◌, ℕ, zero, suc, ◌+◌, ◌-◌, ◌<◌, ◌≤◌, ◌==◌, ◌⊎◌, Bool, true, false, List, [], ◌∷◌, ◌++◌}
use Rattle.std.proofs.Common.{length, slice_index_or, Contains, All, count_by, cond, sym, ◌∙◌, arith, refl, inl, inr}
use Rattle.std.proofs.Math.Logic.{⊎_elim}
use Rattle.std.proofs.lemmas.Bool.{cases_Bool, cases_eq, ne_eqb, eq-eqb}
use Rattle.std.proofs.lemmas.List.Elements.{All-head, All-tail}
use Rattle.sat_theory.specs.FewAdditions.{count_cons}

-- tests that agree on all
pub count_same : (p q : ℕ → Bool) (xs : List ℕ) → All (λ y. q y ≡ p y) xs → count_by q xs ≡ count_by p xs
count_same p q [] same = refl
count_same p q (y ∷ ys) same =
    let ih : count_by q ys ≡ count_by p ys = count_same p q ys (All-tail (λ z. q z ≡ p z) y ys same) in
    let head : q y ≡ p y = All-head (λ z. q z ≡ p z) y ys same in
    let one : cond {A = ℕ} (q y) 1 0 ≡ cond {A = ℕ} (p y) 1 0 = rw head refl in
    let first : count_by p (y ∷ ys) ≡ cond {A = ℕ} (p y) 1 0 + count_by p ys = count_cons p y ys in
    let second : count_by q (y ∷ ys) ≡ cond {A = ℕ} (q y) 1 0 + count_by q ys = count_cons q y ys in
    omega arith

-- one more that passes
pub count_pushed : (p q : ℕ → Bool) (xs : List ℕ) (x : ℕ) → All (λ y. q y ≡ p y) xs → q x ≡ true → count_by q (xs ++ x ∷ []) ≡ count_by p xs + 1
count_pushed p q [] x same last =
    let one : cond {A = ℕ} (q x) 1 0 ≡ 1 = rw last refl in
    let more : count_by q (x ∷ []) ≡ cond {A = ℕ} (q x) 1 0 + count_by q [] = count_cons q x [] in
    let none : count_by q [] ≡ 0 = refl in
    let none_too : count_by p [] ≡ 0 = refl in
    omega arith
count_pushed p q (y ∷ ys) x same last =
    let ih : count_by q (ys ++ x ∷ []) ≡ count_by p ys + 1 = count_pushed p q ys x (All-tail (λ z. q z ≡ p z) y ys same) last in
    let head : q y ≡ p y = All-head (λ z. q z ≡ p z) y ys same in
    let one : cond {A = ℕ} (q y) 1 0 ≡ cond {A = ℕ} (p y) 1 0 = rw head refl in
    let first : count_by p (y ∷ ys) ≡ cond {A = ℕ} (p y) 1 0 + count_by p ys = count_cons p y ys in
    let second : count_by q (y ∷ (ys ++ x ∷ [])) ≡ cond {A = ℕ} (q y) 1 0 + count_by q (ys ++ x ∷ []) = count_cons q y (ys ++ x ∷ []) in
    omega arith

-- none that passes
pub count_none : (p : ℕ → Bool) (xs : List ℕ) → All (λ y. p y ≡ false) xs → count_by p xs ≡ 0
count_none p [] all = refl
count_none p (y ∷ ys) all =
    let ih : count_by p ys ≡ 0 = count_none p ys (All-tail (λ z. p z ≡ false) y ys all) in
    let head : p y ≡ false = All-head (λ z. p z ≡ false) y ys all in
    let none : cond {A = ℕ} (p y) 1 0 ≡ 0 = rw head refl in
    let first : count_by p (y ∷ ys) ≡ cond {A = ℕ} (p y) 1 0 + count_by p ys = count_cons p y ys in
    omega arith

-- the numbers from a on, one after another
abbrev pub AreFrom : ℕ → List ℕ → Type 0
AreFrom a xs = (k d : ℕ) → k < length xs → slice_index_or xs k d ≡ a + k

from_head : (a x : ℕ) (xs : List ℕ) → AreFrom a (x ∷ xs) → x ≡ a
from_head a x xs are =
    let low : 0 < length (x ∷ xs) = (let h : 0 < suc (length xs) = omega arith in h) in
    let at : slice_index_or (x ∷ xs) 0 0 ≡ a + 0 = are 0 0 low in
    let here : slice_index_or (x ∷ xs) 0 0 ≡ x = refl in
    omega arith

from_tail : (a x : ℕ) (xs : List ℕ) → AreFrom a (x ∷ xs) → AreFrom (suc a) xs
from_tail a x xs are = λ k d low.
    let inside : suc k < length (x ∷ xs) = (let h : suc k < suc (length xs) = omega (arith, low) in h) in
    let at : slice_index_or (x ∷ xs) (suc k) d ≡ a + suc k = are (suc k) d inside in
    let here : slice_index_or (x ∷ xs) (suc k) d ≡ slice_index_or xs k d = refl in
    omega (arith, at, here)

-- one of them no longer passes
pub count_dropped : (p q : ℕ → Bool) (a x : ℕ) (xs : List ℕ) → AreFrom a xs → a ≤ x → x < a + length xs → p x ≡ true →
    q x ≡ false → ((y : ℕ) → (y ≡ x → ⊥) → q y ≡ p y) → count_by q xs + 1 ≡ count_by p xs
count_dropped p q a x [] are low high was is others = absurd (let none : length {A = ℕ} [] ≡ 0 = refl in omega arith)
count_dropped p q a x (y ∷ ys) are low high was is others =
    let head : y ≡ a = from_head a y ys are in
    let tail : AreFrom (suc a) ys = from_tail a y ys are in
    let first : count_by p (y ∷ ys) ≡ cond {A = ℕ} (p y) 1 0 + count_by p ys = count_cons p y ys in
    let second : count_by q (y ∷ ys) ≡ cond {A = ℕ} (q y) 1 0 + count_by q ys = count_cons q y ys in
    let long : length (y ∷ ys) ≡ suc (length ys) = refl in
    ⊎_elim
    (λ (e : y ≡ x).
    let was_y : p y ≡ true = rw e was in
    let is_y : q y ≡ false = rw e is in
    let one : cond {A = ℕ} (p y) 1 0 ≡ 1 = rw was_y refl in
    let none : cond {A = ℕ} (q y) 1 0 ≡ 0 = rw is_y refl in
    let same : count_by q ys ≡ count_by p ys = count_same p q ys (λ k d inside.
    others (slice_index_or ys k d) (λ h. (let at : slice_index_or ys k d ≡ suc a + k = tail k d inside in
    omega (arith, at, h, e, head)))) in
    omega arith)
    (λ (apart : y ≡ x → ⊥).
    let both : q y ≡ p y = others y apart in
    let one : cond {A = ℕ} (q y) 1 0 ≡ cond {A = ℕ} (p y) 1 0 = rw both refl in
    let ih : count_by q ys + 1 ≡ count_by p ys = count_dropped p q (suc a) x ys tail (omega (arith, apart, head, low)) (omega (arith, high, long)) was is others in
    omega arith)
    (cases_eq y x)

at_most_one : (b : Bool) → cond {A = ℕ} b 1 0 ≤ 1
at_most_one true = omega arith
at_most_one false = omega arith

-- p, but not r
abbrev but : (ℕ → Bool) → ℕ → ℕ → Bool
but p r y = cond {A = Bool} (y == r) false (p y)

but_other : (p : ℕ → Bool) (r y : ℕ) → (y ≡ r → ⊥) → but p r y ≡ p y
but_other p r y apart = rw (ne_eqb y r apart) refl

-- at most one fewer passes if one number no longer does
count_but : (p : ℕ → Bool) (a r : ℕ) (xs : List ℕ) → AreFrom a xs → count_by p xs ≤ count_by (but p r) xs + 1
count_but p a r [] are = (let none : count_by p [] ≡ 0 = refl in omega arith)
count_but p a r (y ∷ ys) are =
    let head : y ≡ a = from_head a y ys are in
    let tail : AreFrom (suc a) ys = from_tail a y ys are in
    let first : count_by p (y ∷ ys) ≡ cond {A = ℕ} (p y) 1 0 + count_by p ys = count_cons p y ys in
    let second : count_by (but p r) (y ∷ ys) ≡ cond {A = ℕ} (but p r y) 1 0 + count_by (but p r) ys = count_cons (but p r) y ys in
    ⊎_elim
    (λ (e : y ≡ r).
    let one : cond {A = ℕ} (p y) 1 0 ≤ 1 = at_most_one (p y) in
    let same : count_by (but p r) ys ≡ count_by p ys =
    count_same p (but p r) ys (λ k d inside. but_other p r (slice_index_or ys k d)
    (λ h. (let at : slice_index_or ys k d ≡ suc a + k = tail k d inside in omega (arith, at, h, e, head)))) in
    omega arith)
    (λ (apart : y ≡ r → ⊥).
    let both : but p r y ≡ p y = but_other p r y apart in
    let one : cond {A = ℕ} (but p r y) 1 0 ≡ cond {A = ℕ} (p y) 1 0 = rw both refl in
    let ih : count_by p ys ≤ count_by (but p r) ys + 1 = count_but p (suc a) r ys tail in
    omega arith)
    (cases_eq y r)

-- those that pass are above low and up to high
count_between : (p : ℕ → Bool) (a low high : ℕ) (xs : List ℕ) → AreFrom a xs → ((y : ℕ) → a ≤ y → p y ≡ true → (low < y) × (y ≤ high)) → (count_by p xs ≤ high - low) × (count_by p xs ≤ high + 1 - a)
count_between p a low high [] are inside = (let none : count_by p [] ≡ 0 = refl in (omega arith, omega arith))
count_between p a low high (y ∷ ys) are inside =
    let head : y ≡ a = from_head a y ys are in
    let first : count_by p (y ∷ ys) ≡ cond {A = ℕ} (p y) 1 0 + count_by p ys = count_cons p y ys in
    let ih : (count_by p ys ≤ high - low) × (count_by p ys ≤ high + 1 - suc a) = count_between p (suc a) low high ys (from_tail a y ys are) (λ z from yes. inside z (omega (arith, from)) yes) in
    let small : count_by p ys ≤ high - low = ih.0 in
    let few : count_by p ys ≤ high + 1 - suc a = ih.1 in
    ⊎_elim
    (λ (passes : p y ≡ true).
    let one : cond {A = ℕ} (p y) 1 0 ≡ 1 = rw passes refl in
    let within : (low < y) × (y ≤ high) = inside y (omega arith) passes in
    let above : low < y = within.0 in
    let up : y ≤ high = within.1 in
    (omega arith, omega arith))
    (λ (fails : p y ≡ false).
    let none : cond {A = ℕ} (p y) 1 0 ≡ 0 = rw fails refl in
    (omega arith, omega arith))
    (cases_Bool (p y))

in_rest : (r : ℕ) (rs : List ℕ) (y k : ℕ) → k < length (r ∷ rs) → slice_index_or (r ∷ rs) k y ≡ y → (r ≡ y) ⊎ Contains rs y
in_rest r rs y zero low is = inl is
in_rest r rs y (suc k) low is = inr (k, (let h : suc k < suc (length rs) = low in omega arith), is)

-- those that pass are above low and up to high, or in a list
pub count_covered : (p : ℕ → Bool) (a low high : ℕ) (rs xs : List ℕ) → AreFrom a xs → ((y : ℕ) → a ≤ y → p y ≡ true → ((low < y) × (y ≤ high)) ⊎ Contains rs y) → count_by p xs ≤ high - low + length rs
count_covered p a low high [] xs are inside =
    let all : (count_by p xs ≤ high - low) × (count_by p xs ≤ high + 1 - a) = count_between p a low high xs are (λ y from yes. ⊎_elim
    (λ (between : (low < y) × (y ≤ high)). between)
    (λ (there : Contains {X = ℕ} [] y). absurd (let none : there.0 < 0 = there.1 in omega arith))
    (inside y from yes)) in
    let few : count_by p xs ≤ high - low = all.0 in
    omega arith
count_covered p a low high (r ∷ rs) xs are inside =
    let fewer : count_by p xs ≤ count_by (but p r) xs + 1 = count_but p a r xs are in
    let ih : count_by (but p r) xs ≤ high - low + length rs = count_covered (but p r) a low high rs xs are (λ y from yes. ⊎_elim
    (λ (e : y ≡ r). absurd (let none : but p r y ≡ false = rw (eq-eqb y r e) refl in cc))
    (λ (apart : y ≡ r → ⊥). ⊎_elim
    (λ (between : (low < y) × (y ≤ high)). inl between)
    (λ (there : Contains (r ∷ rs) y). ⊎_elim
    (λ (e : r ≡ y). absurd (apart (sym e)))
    (λ (later : Contains rs y). inr later)
    (in_rest r rs y there.0 there.1 there.2))
    (inside y from (sym (but_other p r y apart) ∙ yes)))
    (cases_eq y r)) in
    let long : length (r ∷ rs) ≡ suc (length rs) = refl in
    omega arith
