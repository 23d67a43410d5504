-- Names in lists, and distinct names.
use Rattle.std.specs.Prelude.{◌≡◌, ℕ, zero, suc, ◌<◌, true, false, not, ◌||◌, List, [], ◌∷◌, ◌++◌, length, slice_get, slice_index_or, map, All, Some, ◌⊎◌, refl}
use Rattle.std.specs.List.{list_any, flat_map}
use Rattle.std.specs.Cmp.Lexicographic.{bytes_decides}
use Rattle.std.proofs.Common.{arith, sym, ◌∙◌, ap, subst, inl, inr, ⊎_elim}
use Rattle.std.proofs.Math.Bool.{or_assoc}
use Rattle.std.proofs.lemmas.Bool.{and_parts, and_from, or_parts, or_cases, or_left, or_right, or_from, not-true, not_from_false, both_ways, false_from_ne_true}
use Rattle.net_theory.specs.Document.{Name, is_same, has, are_distinct}

pub same_name : (a b : Name) → is_same a b ≡ true → a ≡ b
same_name a b e = (bytes_decides a b).0 e

pub name_same : (a b : Name) → a ≡ b → is_same a b ≡ true
name_same a b e = (bytes_decides a b).1 e

pub same_itself : (a : Name) → is_same a a ≡ true
same_itself a = name_same a a refl

pub same_turned : (a b : Name) → is_same a b ≡ true → is_same b a ≡ true
same_turned a b e = name_same b a (sym (same_name a b e))

pub other_turned : (a b : Name) → is_same a b ≡ false → is_same b a ≡ false
other_turned a b e = false_from_ne_true (is_same b a) (λ h. both_ways (is_same a b) e (same_turned b a h))

-- ---- has

pub has_first : (n : Name) (ns : List Name) → has (n ∷ ns) n ≡ true
unfolding has
has_first n ns = or_left (is_same n n) (list_any (is_same n) ns) (same_itself n)

pub has_later : (m : Name) (ns : List Name) (n : Name) → has ns n ≡ true → has (m ∷ ns) n ≡ true
unfolding has
has_later m ns n e = or_right (is_same n m) (list_any (is_same n) ns) e

pub has_cases : (m : Name) (ns : List Name) (n : Name) → has (m ∷ ns) n ≡ true → (n ≡ m) ⊎ (has ns n ≡ true)
unfolding has
has_cases m ns n e = ⊎_elim (λ here. inl (same_name n m here)) (λ later. inr later) (or_cases (is_same n m) (list_any (is_same n) ns) e)

pub has_none : (n : Name) → has [] n ≡ true → ⊥
unfolding has
has_none n e = cc

pub has_neither : (m : Name) (ns : List Name) (n : Name) → has (m ∷ ns) n ≡ false → (is_same n m ≡ false) × (has ns n ≡ false)
unfolding has
has_neither m ns n e = or_parts (is_same n m) (list_any (is_same n) ns) e

pub has_append : (xs ys : List Name) (n : Name) → has (xs ++ ys) n ≡ (has xs n || has ys n)
unfolding has
has_append [] ys n = refl
has_append (x ∷ xs) ys n = ap (λ b. is_same n x || b) (has_append xs ys n) ∙ sym (or_assoc (is_same n x) (list_any (is_same n) xs) (list_any (is_same n) ys))

pub has_left : (xs ys : List Name) (n : Name) → has xs n ≡ true → has (xs ++ ys) n ≡ true
has_left xs ys n e = has_append xs ys n ∙ or_left (has xs n) (has ys n) e

pub has_right : (xs ys : List Name) (n : Name) → has ys n ≡ true → has (xs ++ ys) n ≡ true
has_right xs ys n e = has_append xs ys n ∙ or_right (has xs n) (has ys n) e

pub has_either : (xs ys : List Name) (n : Name) → has (xs ++ ys) n ≡ true → (has xs n ≡ true) ⊎ (has ys n ≡ true)
has_either xs ys n e = or_cases (has xs n) (has ys n) (sym (has_append xs ys n) ∙ e)

-- the index of a name
pub has_index : (ns : List Name) (n : Name) → has ns n ≡ true → (k : ℕ) × (slice_get ns k ≡ Some n)
has_index [] n e = absurd (has_none n e)
has_index (m ∷ ns) n e =
    ⊎_elim (λ here. (0, ap Some (sym here))) (λ later. let r = has_index ns n later in (suc r.0, r.1)) (has_cases m ns n e)

pub has_at : (ns : List Name) (k : ℕ) (n : Name) → slice_get ns k ≡ Some n → has ns n ≡ true
has_at [] k n e = absurd cc
has_at (m ∷ ns) zero n e = let same : m ≡ n = cc in subst (λ (x : Name). has (m ∷ ns) x ≡ true) same (has_first m ns)
has_at (m ∷ ns) (suc k) n e = has_later m ns n (has_at ns k n e)

-- a property of all names of a list holds of a name in it
pub all_has : (P : Name → Type 0) (ns : List Name) (n : Name) → All P ns → has ns n ≡ true → P n
all_has P [] n all e = absurd (has_none n e)
all_has P (m ∷ ns) n all e =
    ⊎_elim (λ here. subst P (sym here) (all 0 [] (omega arith))) (λ later. all_has P ns n (λ k d low. all (suc k) d (omega arith)) later) (has_cases m ns n e)

pub has_all : (P : Name → Type 0) (ns : List Name) → ((n : Name) → has ns n ≡ true → P n) → All P ns
has_all P [] each k d low = absurd (omega arith)
has_all P (m ∷ ns) each zero d low = each m (has_first m ns)
has_all P (m ∷ ns) each (suc k) d low = has_all P ns (λ n e. each n (has_later m ns n e)) k d (omega arith)

-- ---- distinct names

pub distinct_cons : (n : Name) (ns : List Name) → are_distinct (n ∷ ns) ≡ true → (has ns n ≡ false) × (are_distinct ns ≡ true)
unfolding are_distinct
distinct_cons n ns e = let parts = and_parts (not (has ns n)) (are_distinct ns) e in (not-true (has ns n) parts.0, parts.1)

pub cons_distinct : (n : Name) (ns : List Name) → has ns n ≡ false → are_distinct ns ≡ true → are_distinct (n ∷ ns) ≡ true
unfolding are_distinct
cons_distinct n ns none e = and_from (not (has ns n)) (are_distinct ns) (not_from_false (has ns n) none) e

pub distinct_left : (xs ys : List Name) → are_distinct (xs ++ ys) ≡ true → are_distinct xs ≡ true
unfolding are_distinct
distinct_left [] ys e = refl
distinct_left (x ∷ xs) ys e =
    let parts = distinct_cons x (xs ++ ys) e in
    cons_distinct x xs (or_parts (has xs x) (has ys x) (sym (has_append xs ys x) ∙ parts.0)).0 (distinct_left xs ys parts.1)

pub distinct_right : (xs ys : List Name) → are_distinct (xs ++ ys) ≡ true → are_distinct ys ≡ true
distinct_right [] ys e = e
distinct_right (x ∷ xs) ys e = distinct_right xs ys (distinct_cons x (xs ++ ys) e).1

-- a name of one list isn't in the other
pub distinct_apart : (xs ys : List Name) (n : Name) → are_distinct (xs ++ ys) ≡ true → has xs n ≡ true → has ys n ≡ false
distinct_apart [] ys n e h = absurd (has_none n h)
distinct_apart (x ∷ xs) ys n e h =
    let parts = distinct_cons x (xs ++ ys) e in
    ⊎_elim
    (λ here. subst (λ (y : Name). has ys y ≡ false) (sym here) (or_parts (has xs x) (has ys x) (sym (has_append xs ys x) ∙ parts.0)).1)
    (λ later. distinct_apart xs ys n parts.1 later)
    (has_cases x xs n h)

pub append_distinct : (xs ys : List Name) → are_distinct xs ≡ true → are_distinct ys ≡ true → ((n : Name) → has xs n ≡ true → has ys n ≡ false) → are_distinct (xs ++ ys) ≡ true
append_distinct [] ys ex ey apart = ey
append_distinct (x ∷ xs) ys ex ey apart =
    let parts = distinct_cons x xs ex in
    cons_distinct x (xs ++ ys) (has_append xs ys x ∙ or_from (has xs x) (has ys x) parts.0 (apart x (has_first x xs)))
    (append_distinct xs ys parts.1 ey (λ n h. apart n (has_later x xs n h)))

-- a name has one index
pub distinct_index : (ns : List Name) (i j : ℕ) (n : Name) → are_distinct ns ≡ true → slice_get ns i ≡ Some n → slice_get ns j ≡ Some n → i ≡ j
distinct_index [] i j n e at_i at_j = absurd cc
distinct_index (m ∷ ns) zero zero n e at_i at_j = refl
distinct_index (m ∷ ns) zero (suc j) n e at_i at_j =
    let same : n ≡ m = cc in
    absurd (both_ways (has ns m) (distinct_cons m ns e).0 (subst (λ (x : Name). has ns x ≡ true) same (has_at ns j n at_j)))
distinct_index (m ∷ ns) (suc i) zero n e at_i at_j =
    let same : n ≡ m = cc in
    absurd (both_ways (has ns m) (distinct_cons m ns e).0 (subst (λ (x : Name). has ns x ≡ true) same (has_at ns i n at_i)))
distinct_index (m ∷ ns) (suc i) (suc j) n e at_i at_j = ap suc (distinct_index ns i j n (distinct_cons m ns e).1 at_i at_j)

-- ---- names that a list's elements have

pub map_at : {A B : Type 0} (f : A → B) (xs : List A) (k : ℕ) (x : A) → slice_get xs k ≡ Some x → slice_get (map f xs) k ≡ Some (f x)
map_at f [] k x e = absurd cc
map_at f (y ∷ xs) zero x e = let same : y ≡ x = cc in ap (λ z. Some (f z)) same
map_at f (y ∷ xs) (suc k) x e = map_at f xs k x e

pub at_map : {A B : Type 0} (f : A → B) (xs : List A) (k : ℕ) (y : B) → slice_get (map f xs) k ≡ Some y → (x : A) × (slice_get xs k ≡ Some x) × (f x ≡ y)
at_map f [] k y e = absurd cc
at_map f (x ∷ xs) zero y e = (x, refl, cc)
at_map f (x ∷ xs) (suc k) y e = at_map f xs k y e

pub index_map : {A : Type 0} (f : A → A) (xs : List A) (k : ℕ) (d : A) → k < length xs → slice_index_or (map f xs) k d ≡ f (slice_index_or xs k d)
index_map f [] k d low = absurd (omega arith)
index_map f (x ∷ xs) zero d low = refl
index_map f (x ∷ xs) (suc k) d low = index_map f xs k d (omega arith)

pub has_map_at : {A : Type 0} (f : A → Name) (xs : List A) (k : ℕ) (x : A) → slice_get xs k ≡ Some x → has (map f xs) (f x) ≡ true
has_map_at f xs k x e = has_at (map f xs) k (f x) (map_at f xs k x e)

pub has_map_index : {A : Type 0} (f : A → Name) (xs : List A) (n : Name) → has (map f xs) n ≡ true → (k : ℕ) × (x : A) × (slice_get xs k ≡ Some x) × (f x ≡ n)
has_map_index f xs n e =
    let index = has_index (map f xs) n e in
    let r = at_map f xs index.0 n index.1 in
    (index.0, r.0, r.1, r.2)

pub has_flat_at : {A : Type 0} (f : A → List Name) (xs : List A) (k : ℕ) (x : A) (n : Name) → slice_get xs k ≡ Some x → has (f x) n ≡ true → has (flat_map f xs) n ≡ true
has_flat_at f [] k x n e h = absurd cc
has_flat_at f (y ∷ xs) zero x n e h =
    let same : y ≡ x = cc in
    has_left (f y) (flat_map f xs) n (subst (λ z. has (f z) n ≡ true) (sym same) h)
has_flat_at f (y ∷ xs) (suc k) x n e h = has_right (f y) (flat_map f xs) n (has_flat_at f xs k x n e h)

-- a property of all elements holds of the one at an index
pub all_at : {A : Type 0} (P : A → Type 0) (xs : List A) (k : ℕ) (x : A) → All P xs → slice_get xs k ≡ Some x → P x
all_at P [] k x all e = absurd cc
all_at P (y ∷ xs) zero x all e = let same : y ≡ x = cc in subst P same (all 0 y (omega arith))
all_at P (y ∷ xs) (suc k) x all e = all_at P xs k x (λ i d low. all (suc i) d (omega arith)) e

pub at_all : {A : Type 0} (P : A → Type 0) (xs : List A) → ((k : ℕ) (x : A) → slice_get xs k ≡ Some x → P x) → All P xs
at_all P [] each k d low = absurd (omega arith)
at_all P (y ∷ xs) each zero d low = each 0 y refl
at_all P (y ∷ xs) each (suc k) d low = at_all P xs (λ i x e. each (suc i) x e) k d (omega arith)
