-- The computed list has exactly the listed fences, in lexicographic order.
use Rattle.std.proofs.Common.{◌≡◌, ◌⊎◌, ℕ, zero, suc, ◌+◌, ◌≤◌, ◌<◌, Bool, true, false, leb, List, [], ◌∷◌, ◌++◌, map, sum, All, Contains, refl, sym, ap, ◌∙◌, subst, arith, inl, inr, ⊎_elim}
use Rattle.std.specs.Prelude.{if◌then◌else◌}
use Rattle.std.specs.List.{filter}
use Rattle.std.proofs.lemmas.Bool.{cases_Bool, le-leb, leb-true, and_from, and_parts}
use Rattle.std.proofs.lemmas.List.Elements.{All-nil, All-cons, All-head, All-tail, All-append, All-map, All-weaker, Contains-get_or, Contains-append_left, Contains-append_right}
use Rattle.std.proofs.lemmas.List.Sums.{sum_by-cons}
use Rattle.fence_core.specs.Fence.{IsFence, IsListedFence, IsFenceOf, IsLexBefore, IsLexSorted, AreListed, one_more, filled_fences, fences_of_size, is_listed_fence, listed_fences}

pub sum-cons : (q : ℕ) (qs : List ℕ) → sum (q ∷ qs) ≡ q + sum qs
sum-cons q qs = sum_by-cons (λ (x : ℕ). x) q qs

-- ---- the rule as a test

pub listed_is : (m : ℕ) (f : List ℕ) → is_listed_fence m f ≡ true → IsListedFence m f
unfolding is_listed_fence
listed_is m [] passes = tt
listed_is m (q ∷ qs) passes =
    let both = and_parts (leb q (sum qs + m)) (is_listed_fence m qs) passes in
    (leb-true q (sum qs + m) both.0, listed_is m qs both.1)

pub is_listed_of : (m : ℕ) (f : List ℕ) → IsListedFence m f → is_listed_fence m f ≡ true
unfolding is_listed_fence
is_listed_of m [] listed = refl
is_listed_of m (q ∷ qs) (few, rest) = and_from (leb q (sum qs + m)) (is_listed_fence m qs) (le-leb q (sum qs + m) few) (is_listed_of m qs rest)

-- ---- elements

contains_head : {X : Type 0} (x : X) (xs : List X) → Contains (x ∷ xs) x
contains_head x xs = Contains-get_or (x ∷ xs) 0 x (omega arith)

contains_tail : {X : Type 0} (y x : X) (xs : List X) → Contains xs x → Contains (y ∷ xs) x
contains_tail y x xs (k, low, is) = (suc k, omega arith, is)

contains_cases : {X : Type 0} (y x : X) (xs : List X) → Contains (y ∷ xs) x → (y ≡ x) ⊎ Contains xs x
contains_cases y x xs (zero, low, is) = inl is
contains_cases y x xs (suc k, low, is) = inr (k, omega arith, is)

contains_map : {X Y : Type 0} (f : X → Y) (xs : List X) (x : X) → Contains xs x → Contains (map f xs) (f x)
contains_map f [] x c = absurd (omega (arith, c.1))
contains_map f (y ∷ ys) x c = ⊎_elim
    (λ (here : y ≡ x). subst (Contains (map f (y ∷ ys))) (ap f here) (contains_head (f y) (map f ys)))
    (λ (later : Contains ys x). contains_tail (f y) (f x) (map f ys) (contains_map f ys x later))
    (contains_cases y x ys c)

contains_kept : {X : Type 0} (p : X → Bool) (xs : List X) (x : X) → p x ≡ true → Contains xs x → Contains (filter p xs) x
contains_kept p [] x passes c = c
contains_kept p (y ∷ ys) x passes c = ⊎_elim
    (λ (here : y ≡ x). kept_head (p y) y x (filter p ys) here (ap p here ∙ passes))
    (λ (later : Contains ys x). kept_tail (p y) y x (filter p ys) (contains_kept p ys x passes later))
    (contains_cases y x ys c)
  where
    kept_head : {X : Type 0} (test : Bool) (y x : X) (kept : List X) → y ≡ x → test ≡ true → Contains (if test then y ∷ kept else kept) x
    kept_head true y x kept here e = subst (Contains (y ∷ kept)) here (contains_head y kept)
    kept_head false y x kept here e = absurd cc

    kept_tail : {X : Type 0} (test : Bool) (y x : X) (kept : List X) → Contains kept x → Contains (if test then y ∷ kept else kept) x
    kept_tail true y x kept c = contains_tail y x kept c
    kept_tail false y x kept c = c

all_kept : {X : Type 0} (P Q : X → Type 0) (p : X → Bool) → ((x : X) → P x → p x ≡ true → Q x) → (xs : List X) → All P xs → All Q (filter p xs)
all_kept P Q p each [] all = All-nil Q
all_kept P Q p each (x ∷ xs) all = ⊎_elim
    (λ (passes : p x ≡ true). kept (p x) passes (All-cons Q x (filter p xs) (each x (All-head P x xs all) passes) (all_kept P Q p each xs (All-tail P x xs all))))
    (λ (fails : p x ≡ false). left_out (p x) fails (all_kept P Q p each xs (All-tail P x xs all)))
    (cases_Bool (p x))
  where
    kept : (test : Bool) → test ≡ true → All Q (x ∷ filter p xs) → All Q (if test then x ∷ filter p xs else filter p xs)
    kept true e all = all
    kept false e all = absurd cc

    left_out : (test : Bool) → test ≡ false → All Q (filter p xs) → All Q (if test then x ∷ filter p xs else filter p xs)
    left_out true e all = absurd cc
    left_out false e all = all

-- ---- fences of a size

-- a fence of s steps
abbrev pub IsOfSize : ℕ → List ℕ → Type 0
IsOfSize r f = IsFence f × (sum f ≡ r)

with_one : (r : ℕ) (f : List ℕ) → IsOfSize r f → IsOfSize (r + 1) (1 ∷ f)
with_one r f (filled, whole) = (All-cons (λ (q : ℕ). 1 ≤ q) 1 f (omega arith) filled, omega (arith, sum-cons 1 f, whole))

with_more : (r : ℕ) (f : List ℕ) → IsOfSize (r + 1) f → IsOfSize (r + 2) (one_more f)
with_more r [] (filled, whole) = absurd (omega (arith, whole))
with_more r (q ∷ qs) (filled, whole) =
    (All-cons (λ (q : ℕ). 1 ≤ q) (q + 1) qs (omega arith) (All-tail (λ (q : ℕ). 1 ≤ q) q qs filled), omega (arith, sum-cons q qs, sum-cons (q + 1) qs, whole))

filled_are : (r : ℕ) → All (IsOfSize (r + 1)) (filled_fences r)
unfolding filled_fences
filled_are zero = All-cons (IsOfSize 1) (1 ∷ []) [] (All-cons (λ (q : ℕ). 1 ≤ q) 1 [] (omega arith) (All-nil (λ (q : ℕ). 1 ≤ q)), omega (arith, sum-cons 1 [])) (All-nil (IsOfSize 1))
filled_are (suc r) =
    let fewer : All (IsOfSize (r + 1)) (filled_fences r) = filled_are r in
    let size : suc r + 1 ≡ r + 2 = omega arith in
    let size' : suc r + 1 ≡ r + 1 + 1 = omega arith in
    subst (λ (n : ℕ). All (IsOfSize n) (map (λ f. 1 ∷ f) (filled_fences r) ++ map one_more (filled_fences r)))
    (sym size) (All-append (IsOfSize (r + 2)) (map (λ f. 1 ∷ f) (filled_fences r)) (map one_more (filled_fences r))
    (All-map (IsOfSize (r + 2)) (λ f. 1 ∷ f) (filled_fences r)
    (All-weaker (IsOfSize (r + 1)) (λ f. IsOfSize (r + 2) (1 ∷ f)) (λ f is.
    subst (λ (n : ℕ). IsOfSize n (1 ∷ f)) (let e : r + 1 + 1 ≡ r + 2 = omega arith in e) (with_one (r + 1) f is))
    (filled_fences r) fewer))
    (All-map (IsOfSize (r + 2)) one_more (filled_fences r) (All-weaker (IsOfSize (r + 1)) (λ f. IsOfSize (r + 2) (one_more f)) (λ f is. with_more r f is) (filled_fences r) fewer)))

pub all_of_size : (r : ℕ) → All (IsOfSize r) (fences_of_size r)
unfolding fences_of_size
all_of_size zero = All-cons (IsOfSize 0) [] [] (All-nil (λ (q : ℕ). 1 ≤ q), refl) (All-nil (IsOfSize 0))
all_of_size (suc r) = subst (λ (n : ℕ). All (IsOfSize n) (filled_fences r)) (let e : r + 1 ≡ suc r = omega arith in e) (filled_are r)

-- each fence of the size is in the list
filled_has : (r : ℕ) (f : List ℕ) → IsOfSize (r + 1) f → Contains (filled_fences r) f
unfolding filled_fences
filled_has r [] (filled, whole) = absurd (omega (arith, whole))
filled_has zero (q ∷ qs) (filled, whole) =
    let some : 1 ≤ q = All-head (λ (q : ℕ). 1 ≤ q) q qs filled in
    let total = sum-cons q qs in
    let none : sum qs ≡ 0 = omega arith in
    let one : q ≡ 1 = omega arith in
    subst (λ (f : List ℕ). Contains ((1 ∷ []) ∷ []) f) (sym (ap (λ (x : ℕ). x ∷ qs) one
    ∙ ap (λ (xs : List ℕ). 1 ∷ xs) (empty qs (All-tail (λ (q : ℕ). 1 ≤ q) q qs filled) none)))
    (contains_head (1 ∷ []) [])
  where
    empty : (qs : List ℕ) → IsFence qs → sum qs ≡ 0 → qs ≡ []
    empty [] filled none = refl
    empty (q ∷ qs) filled none = absurd (omega (arith, sum-cons q qs, none, All-head (λ (q : ℕ). 1 ≤ q) q qs filled))
filled_has (suc r) (zero ∷ qs) (filled, whole) = absurd (omega (arith, All-head (λ (q : ℕ). 1 ≤ q) 0 qs filled))
filled_has (suc r) (suc zero ∷ qs) (filled, whole) =
    let rest : IsOfSize (r + 1) qs = (All-tail (λ (q : ℕ). 1 ≤ q) 1 qs filled, omega (arith, sum-cons 1 qs, whole)) in
    Contains-append_left (map (λ f. 1 ∷ f) (filled_fences r)) (map one_more (filled_fences r)) (1 ∷ qs) (contains_map (λ f. 1 ∷ f) (filled_fences r) qs (filled_has r qs rest))
filled_has (suc r) (suc (suc q) ∷ qs) (filled, whole) =
    let fewer : IsOfSize (r + 1) ((q + 1) ∷ qs) = (
      All-cons (λ (q : ℕ). 1 ≤ q) (q + 1) qs (omega arith) (All-tail (λ (q : ℕ). 1 ≤ q) (suc (suc q)) qs filled),
      omega (arith, sum-cons (suc (suc q)) qs, sum-cons (q + 1) qs, whole),
    ) in
    let again : one_more ((q + 1) ∷ qs) ≡ suc (suc q) ∷ qs = ap (λ (x : ℕ). x ∷ qs) (let e : q + 1 + 1 ≡ suc (suc q) = omega arith in e) in
    Contains-append_right (map (λ f. 1 ∷ f) (filled_fences r)) (map one_more (filled_fences r)) (suc (suc q) ∷ qs)
    (subst (Contains (map one_more (filled_fences r))) again (contains_map one_more (filled_fences r) ((q + 1) ∷ qs)
    (filled_has r ((q + 1) ∷ qs) fewer)))

has_of_size : (r : ℕ) (f : List ℕ) → IsOfSize r f → Contains (fences_of_size r) f
unfolding fences_of_size
has_of_size zero [] is = contains_head [] []
has_of_size zero (q ∷ qs) (filled, whole) = absurd (omega (arith, sum-cons q qs, whole, All-head (λ (q : ℕ). 1 ≤ q) q qs filled))
has_of_size (suc r) f is = filled_has r f (subst (λ (n : ℕ). IsOfSize n f) (let e : suc r ≡ r + 1 = omega arith in e) is)

-- ---- their order

rising_append : (xs ys : List (List ℕ)) → IsLexSorted xs → IsLexSorted ys → All (λ x. All (IsLexBefore x) ys) xs → IsLexSorted (xs ++ ys)
rising_append [] ys rise later before = later
rising_append (x ∷ xs) ys (first, rise) later before =
    (All-append (IsLexBefore x) xs ys first (All-head (λ x. All (IsLexBefore x) ys) x xs before), rising_append xs ys rise later (All-tail (λ x. All (IsLexBefore x) ys) x xs before))

rising_map : (P : List ℕ → Type 0) (f : List ℕ → List ℕ) →
    ((x y : List ℕ) → P x → P y → IsLexBefore x y → IsLexBefore (f x) (f y)) → (xs : List (List ℕ)) → All P xs →
    IsLexSorted xs → IsLexSorted (map f xs)
rising_map P f keeps [] are rise = tt
rising_map P f keeps (x ∷ xs) are (first, rise) =
    let own : P x = All-head P x xs are in
    (All-map (IsLexBefore (f x)) f xs (λ k d low. keeps x _ own (All-tail P x xs are k d low) (first k d low)), rising_map P f keeps xs (All-tail P x xs are) rise)

rising_kept : (p : List ℕ → Bool) (xs : List (List ℕ)) → IsLexSorted xs → IsLexSorted (filter p xs)
rising_kept p [] rise = tt
rising_kept p (x ∷ xs) (first, rise) = kept (p x) (all_kept (IsLexBefore x) (IsLexBefore x) p (λ y before passes. before) xs first) (rising_kept p xs rise)
  where
    kept : (test : Bool) → All (IsLexBefore x) (filter p xs) → IsLexSorted (filter p xs) → IsLexSorted (if test then x ∷ filter p xs else filter p xs)
    kept true first rise = (first, rise)
    kept false first rise = rise

more_keeps : (r : ℕ) (x y : List ℕ) → IsOfSize (r + 1) x → IsOfSize (r + 1) y → IsLexBefore x y → IsLexBefore (one_more x) (one_more y)
more_keeps r x [] is_x is_y before = absurd (omega (arith, is_y.1))
more_keeps r [] (y ∷ ys) is_x is_y before = absurd (omega (arith, is_x.1))
more_keeps r (x ∷ xs) (y ∷ ys) is_x is_y before = ⊎_elim
    (λ (less : x < y). inl (omega arith))
    (λ (same : (x ≡ y) × IsLexBefore xs ys). inr (omega (arith, same.0), same.1))
    before

one_first : (r : ℕ) (f g : List ℕ) → IsOfSize (r + 1) g → IsLexBefore (1 ∷ f) (one_more g)
one_first r f [] is = absurd (omega (arith, is.1))
one_first r f (q ∷ qs) is = inl (omega (arith, All-head (λ (q : ℕ). 1 ≤ q) q qs is.0))

filled_rise : (r : ℕ) → IsLexSorted (filled_fences r)
unfolding filled_fences
filled_rise zero = (All-nil (IsLexBefore (1 ∷ [])), tt)
filled_rise (suc r) =
    let fences : List (List ℕ) = filled_fences r in
    let are : All (IsOfSize (r + 1)) fences = filled_are r in
    rising_append (map (λ f. 1 ∷ f) fences) (map one_more fences)
    (rising_map (IsOfSize (r + 1)) (λ f. 1 ∷ f) (λ x y is_x is_y before. inr (refl, before)) fences are (filled_rise r))
    (rising_map (IsOfSize (r + 1)) one_more (more_keeps r) fences are (filled_rise r))
    (All-map (λ x. All (IsLexBefore x) (map one_more fences)) (λ f. 1 ∷ f) fences (λ i c inside. All-map (IsLexBefore (1 ∷ _)) one_more fences (λ k d low. one_first r _ _ (are k d low))))

size_rises : (r : ℕ) → IsLexSorted (fences_of_size r)
unfolding fences_of_size
size_rises zero = (All-nil (IsLexBefore []), tt)
size_rises (suc r) = filled_rise r

-- The list has exactly the listed fences, in lexicographic order.
pub fences_are_listed : (r m : ℕ) → AreListed r m (listed_fences r m)
unfolding listed_fences
fences_are_listed r m = record {
  only = all_kept (IsOfSize r) (IsFenceOf r m) (is_listed_fence m) (λ f is passes. record { filled = is.0; whole = is.1; listed = listed_is m f passes }) (fences_of_size r) (all_of_size r);
  all = λ f is. contains_kept (is_listed_fence m) (fences_of_size r) f (is_listed_of m f is.listed) (has_of_size r f (is.filled, is.whole));
  order = rising_kept (is_listed_fence m) (fences_of_size r) (size_rises r);
}
