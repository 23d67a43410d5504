-- Which fences have fewer levels, and their order.
use Rattle.std.proofs.Common.{◌≡◌, ◌⊎◌, ℕ, zero, suc, ◌+◌, ◌<◌, ◌≤◌, ◌==◌, Bool, true, false, cond, List, [], ◌∷◌, ◌++◌, length, Contains, refl, sym, ap, ◌∙◌, subst, arith, inl, inr, append-nil}
use Rattle.std.specs.List.{filter, flat_map, range_with_len}
use Rattle.std.proofs.Math.Logic.{⊎_elim}
use Rattle.std.proofs.lemmas.Bool.{eqb-true}
use Rattle.std.proofs.lemmas.Bool.Decides.{nat_tests}
use Rattle.std.proofs.lemmas.Grind.{flat_map-append}
use Rattle.std.proofs.lemmas.List.Elements.{Contains-append_cases}
use Rattle.clause_core.specs.Holds.{contains_head, contains_tail, contains_cases, filter_get, range_contains, range_inside, flat_map_get, flat_map_make}
use Rattle.depth_theory.specs.Flatter.{has_levels, of_levels, by_levels}

-- ---- which

-- a head that passes the filter, or doesn't
kept_head : (p : List ℕ → Bool) (y x : List ℕ) (ys : List (List ℕ)) (b : Bool) → p y ≡ b → p x ≡ true → (y ≡ x) ⊎ Contains ys x → Contains (cond b (y ∷ ys) ys) x
kept_head p y x ys true is passes (inl here) = subst (Contains (y ∷ ys)) here (contains_head y ys)
kept_head p y x ys true is passes (inr later) = contains_tail y x ys later
kept_head p y x ys false is passes (inl here) = absurd (let other : p x ≡ false = sym (ap p here) ∙ is in cc)
kept_head p y x ys false is passes (inr later) = later

filter_has : (p : List ℕ → Bool) (xs : List (List ℕ)) (x : List ℕ) → Contains xs x → p x ≡ true → Contains (filter p xs) x
filter_has p [] x there passes = there
filter_has p (y ∷ ys) x there passes =
    kept_head p y x (filter p ys) (p y) refl passes
    (⊎_elim (λ (here : y ≡ x). inl here) (λ (later : Contains ys x). inr (filter_has p ys x later passes)) (contains_cases y x ys there))

head_passes : (p : List ℕ → Bool) (y x : List ℕ) (ys : List (List ℕ)) (b : Bool) → p y ≡ b → (Contains ys x → p x ≡ true) → Contains (cond b (y ∷ ys) ys) x → p x ≡ true
head_passes p y x ys true is rest there = ⊎_elim (λ (here : y ≡ x). sym (ap p here) ∙ is) rest (contains_cases y x ys there)
head_passes p y x ys false is rest there = rest there

filter_test : (p : List ℕ → Bool) (xs : List (List ℕ)) (x : List ℕ) → Contains (filter p xs) x → p x ≡ true
filter_test p [] x there = absurd (omega (arith, there.1))
filter_test p (y ∷ ys) x there = head_passes p y x (filter p ys) (p y) refl (filter_test p ys x) there

eq_same : (n : ℕ) → (n == n) ≡ true
eq_same n = grind (arith, nat_tests)

-- each fence with fewer levels is among them
pub flatter_has : (fences : List (List ℕ)) (d : ℕ) (f : List ℕ) → Contains fences f → length f < d → Contains (by_levels fences d) f
unfolding by_levels of_levels
flatter_has fences d f there low =
    flat_map_make (of_levels fences) (range_with_len 0 d) (length f) f
    (range_contains 0 d (length f) (omega arith) (omega arith))
    (filter_has (has_levels (length f)) fences f there (eq_same (length f)))

pub level_is : (fences : List (List ℕ)) (k : ℕ) (f : List ℕ) → Contains (of_levels fences k) f → length f ≡ k
unfolding of_levels
level_is fences k f there = eqb-true (length f) k (filter_test (has_levels k) fences f there)

-- and no other
pub flatter_is : (fences : List (List ℕ)) (d : ℕ) (f : List ℕ) → Contains (by_levels fences d) f → Contains fences f × (length f < d)
unfolding by_levels of_levels
flatter_is fences d f there =
    let from = flat_map_get (of_levels fences) (range_with_len 0 d) f there in
    let inside = range_inside 0 d from.source from.inside in
    (filter_get (has_levels from.source) fences f from.gives, omega (arith, inside.1, level_is fences from.source f from.gives))

-- ---- one level more

range_more : (a n : ℕ) → range_with_len a (n + 1) ≡ range_with_len a n ++ (a + n) ∷ []
range_more a zero = let same : a ≡ a + 0 = omega arith in ap (λ (k : ℕ). k ∷ []) same
range_more a (suc n) =
    let same : a + 1 + n ≡ a + suc n = omega arith in
    let next : suc n + 1 ≡ suc (n + 1) = omega arith in
    ap (range_with_len a) next
    ∙ ap (λ (xs : List ℕ). a ∷ xs) (range_more (a + 1) n ∙ ap (λ (k : ℕ). range_with_len (a + 1) n ++ k ∷ []) same)

pub by_levels_more : (fences : List (List ℕ)) (k : ℕ) → by_levels fences (k + 1) ≡ by_levels fences k ++ of_levels fences k
unfolding by_levels
by_levels_more fences k =
    let same : 0 + k ≡ k = omega arith in
    ap (flat_map (of_levels fences)) (range_more 0 k)
    ∙ flat_map-append (of_levels fences) (range_with_len 0 k) ((0 + k) ∷ [])
    ∙ ap (λ (xs : List (List ℕ)). flat_map (of_levels fences) (range_with_len 0 k) ++ xs) (append-nil (of_levels fences (0 + k)) ∙ ap (of_levels fences) same)

-- ---- in which order

-- each fence has at most as many levels as those after it
unfoldable pub AreRising : List (List ℕ) → Type 0
AreRising [] = Unit {0}
AreRising (f ∷ fs) = ((g : List ℕ) → Contains fs g → length f ≤ length g) × AreRising fs

rising_both : (xs ys : List (List ℕ)) → AreRising xs → AreRising ys → ((f g : List ℕ) → Contains xs f → Contains ys g → length f ≤ length g) → AreRising (xs ++ ys)
unfolding AreRising
rising_both [] ys one two low = two
rising_both (x ∷ xs) ys one two low = (
  λ g there.
      ⊎_elim
      (λ (here : Contains xs g). one.0 g here)
      (λ (later : Contains ys g). low x g (contains_head x xs) later)
      (Contains-append_cases xs ys g there),
  rising_both xs ys one.1 two (λ f g here later. low f g (contains_tail x f xs here) later),
)

-- fences with equally many levels
rising_even : (k : ℕ) (xs : List (List ℕ)) → ((f : List ℕ) → Contains xs f → length f ≡ k) → AreRising xs
unfolding AreRising
rising_even k [] same = tt
rising_even k (x ∷ xs) same = (
  λ g there. let own = same x (contains_head x xs) in let other = same g (contains_tail x g xs there) in omega arith,
  rising_even k xs (λ f there. same f (contains_tail x f xs there)),
)

rising_from : (fences : List (List ℕ)) (a n : ℕ) → AreRising (flat_map (of_levels fences) (range_with_len a n))
unfolding AreRising
rising_from fences a zero = tt
rising_from fences a (suc n) =
    rising_both (of_levels fences a) (flat_map (of_levels fences) (range_with_len (a + 1) n)) (rising_even a (of_levels fences a) (level_is fences a)) (rising_from fences (a + 1) n)
    (λ f g here later.
    let from = flat_map_get (of_levels fences) (range_with_len (a + 1) n) g later in
    let inside = range_inside (a + 1) n from.source from.inside in
    omega (arith, level_is fences a f here, inside.0, level_is fences from.source g from.gives))

-- they are sorted by levels
pub flatter_rise : (fences : List (List ℕ)) (d : ℕ) → AreRising (by_levels fences d)
unfolding by_levels
flatter_rise fences d = rising_from fences 0 d
