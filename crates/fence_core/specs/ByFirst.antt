-- The listed fences, grouped by the number of steps on the first level.
use Rattle.std.proofs.Common.{◌≡◌, ℕ, zero, suc, ◌+◌, ◌-◌, ◌≤◌, Bool, true, false, ◌&&◌, leb, List, [], ◌∷◌, ◌++◌, map, All, refl, sym, ap, ◌∙◌, arith, append_assoc, append-nil}
use Rattle.std.specs.Prelude.{if◌then◌else◌}
use Rattle.std.specs.List.{filter, flat_map, range_with_len}
use Rattle.std.proofs.lemmas.List.{map-append}
use Rattle.std.proofs.lemmas.List.Elements.{All-head, All-tail, filter-append}
use Rattle.fence_core.specs.Fence.{one_more, filled_fences, fences_of_size, is_listed_fence, listed_fences}
use Rattle.fence_core.specs.Listing.{IsOfSize, all_of_size}

-- fences on top of the levels `below`
unfoldable pub stacked_on : List ℕ → List (List ℕ) → List (List ℕ)
stacked_on below fences = map (λ f. below ++ f) fences

-- The listed fences of r steps with q steps on the first level, on top of the levels `below`.
unfoldable pub fences_with : List ℕ → ℕ → ℕ → ℕ → List (List ℕ)
fences_with below r m q = if leb q (r - q + m) then stacked_on (below ++ q ∷ []) (listed_fences (r - q) m) else []

-- ---- fences of a size by their first level

-- the fences of r steps with q steps on the first level
unfoldable starting : ℕ → ℕ → List (List ℕ)
starting r q = map (λ f. q ∷ f) (fences_of_size (r - q))

flat_map-same : {X Y : Type 0} (f g : X → List Y) → ((x : X) → f x ≡ g x) → (xs : List X) → flat_map f xs ≡ flat_map g xs
flat_map-same f g same [] = refl
flat_map-same f g same (x ∷ xs) = ap (λ ys. ys ++ flat_map f xs) (same x) ∙ ap (λ ys. g x ++ ys) (flat_map-same f g same xs)

map-flat_map : {X Y Z : Type 0} (h : Y → Z) (f : X → List Y) (xs : List X) → map h (flat_map f xs) ≡ flat_map (λ x. map h (f x)) xs
map-flat_map h f [] = refl
map-flat_map h f (x ∷ xs) = map-append h (f x) (flat_map f xs) ∙ ap (λ ys. map h (f x) ++ ys) (map-flat_map h f xs)

filter-flat_map : {X Y : Type 0} (p : Y → Bool) (f : X → List Y) (xs : List X) → filter p (flat_map f xs) ≡ flat_map (λ x. filter p (f x)) xs
filter-flat_map p f [] = refl
filter-flat_map p f (x ∷ xs) = filter-append p (f x) (flat_map f xs) ∙ ap (λ ys. filter p (f x) ++ ys) (filter-flat_map p f xs)

flat_map-shift : {Y : Type 0} (f : ℕ → List Y) (a n : ℕ) → flat_map f (range_with_len (a + 1) n) ≡ flat_map (λ q. f (q + 1)) (range_with_len a n)
flat_map-shift f a zero = refl
flat_map-shift f a (suc n) = ap (λ ys. f (a + 1) ++ ys) (flat_map-shift f (a + 1) n)

map-map : {X Y Z : Type 0} (g : Y → Z) (f : X → Y) (xs : List X) → map g (map f xs) ≡ map (λ x. g (f x)) xs
map-map g f [] = refl
map-map g f (x ∷ xs) = ap (λ ys. g (f x) ∷ ys) (map-map g f xs)

filled_by_first : (r : ℕ) → filled_fences r ≡ flat_map (starting (r + 1)) (range_with_len 1 (r + 1))
unfolding filled_fences fences_of_size starting
filled_by_first zero = refl
filled_by_first (suc r) =
    let before : filled_fences r ≡ flat_map (starting (r + 1)) (range_with_len 1 (r + 1)) = filled_by_first r in
    let more : map one_more (filled_fences r) ≡ flat_map (starting (suc r + 1)) (range_with_len (1 + 1) (r + 1)) =
    ap (map one_more) before ∙ map-flat_map one_more (starting (r + 1)) (range_with_len 1 (r + 1))
    ∙ flat_map-same (λ q. map one_more (starting (r + 1) q)) (λ q. starting (suc r + 1) (q + 1))
    (λ q. map-map one_more (λ f. q ∷ f) (fences_of_size (r + 1 - q))
    ∙ ap (λ (s : ℕ). map (λ f. (q + 1) ∷ f) (fences_of_size s)) (let e : r + 1 - q ≡ suc r + 1 - (q + 1) =
    omega arith in e)) (range_with_len 1 (r + 1))
    ∙ sym (flat_map-shift (starting (suc r + 1)) 1 (r + 1)) in
    let size : suc r + 1 - 1 ≡ suc r = omega arith in
    let one : map (λ f. 1 ∷ f) (filled_fences r) ≡ starting (suc r + 1) 1 = ap (λ (s : ℕ). map (λ f. 1 ∷ f) (fences_of_size s)) (sym size) in
    let long : suc r + 1 ≡ suc (r + 1) = omega arith in
    ap (λ ys. ys ++ map one_more (filled_fences r)) one ∙ ap (λ ys. starting (suc r + 1) 1 ++ ys) more
    ∙ ap (λ (n : ℕ). flat_map (starting (suc r + 1)) (range_with_len 1 n)) (sym long)

-- ---- listed ones

-- a fence on top of one more level is listed where that level isn't too wide
listed_with : (m q s : ℕ) (fences : List (List ℕ)) → All (IsOfSize s) fences →
    filter (is_listed_fence m) (map (λ f. q ∷ f) fences) ≡
    (if leb q (s + m) then map (λ f. q ∷ f) (filter (is_listed_fence m) fences) else [])
unfolding is_listed_fence
listed_with m q s [] are = none (leb q (s + m))
  where
    none : (test : Bool) → ◌≡◌ {A = List (List ℕ)} [] (if test then [] else [])
    none true = refl
    none false = refl
listed_with m q s (f ∷ fences) are =
    let total = (All-head (IsOfSize s) f fences are).1 in
    let rest = listed_with m q s fences (All-tail (IsOfSize s) f fences are) in
    ap (λ (x : ℕ). if leb q (x + m) && is_listed_fence m f then (q ∷ f) ∷ filter (is_listed_fence m) (map (λ f. q ∷ f) fences) else filter (is_listed_fence m) (map (λ f. q ∷ f) fences)) total
    ∙ ap (λ (ys : List (List ℕ)). if leb q (s + m) && is_listed_fence m f then (q ∷ f) ∷ ys else ys) rest
    ∙ both (leb q (s + m)) (is_listed_fence m f)
  where
    both : (few listed : Bool) → (if few && listed then (q ∷ f) ∷
        (if few then map (λ f. q ∷ f) (filter (is_listed_fence m) fences) else []) else (if few then map (λ f. q ∷ f)
        (filter (is_listed_fence m) fences) else [])) ≡
        (if few then map (λ f. q ∷ f) (if listed then f ∷ filter (is_listed_fence m) fences else filter
        (is_listed_fence m) fences) else [])
    both true true = refl
    both true false = refl
    both false true = refl
    both false false = refl

stacked_on_one : (below : List ℕ) (q : ℕ) (fences : List (List ℕ)) → stacked_on below (map (λ f. q ∷ f) fences) ≡ stacked_on (below ++ q ∷ []) fences
unfolding stacked_on
stacked_on_one below q [] = refl
stacked_on_one below q (f ∷ fences) = ap (λ (g : List ℕ). g ∷ stacked_on below (map (λ f. q ∷ f) fences))
    (sym (append_assoc below (q ∷ []) f)) ∙ ap (λ ys. ((below ++ q ∷ []) ++ f) ∷ ys) (stacked_on_one below q fences)

stacked_on_if : (below : List ℕ) (test : Bool) (q : ℕ) (fences : List (List ℕ)) →
    stacked_on below (if test then map (λ f. q ∷ f) fences else []) ≡
    (if test then stacked_on (below ++ q ∷ []) fences else [])
unfolding stacked_on
stacked_on_if below true q fences = stacked_on_one below q fences
stacked_on_if below false q fences = refl

-- where there is a step, all fences are grouped by their first level
pub listed_by_first : (below : List ℕ) (r m : ℕ) → 1 ≤ r → flat_map (fences_with below r m) (range_with_len 1 r) ≡ stacked_on below (listed_fences r m)
unfolding fences_with listed_fences starting fences_of_size stacked_on
listed_by_first below zero m some = absurd (omega arith)
listed_by_first below (suc r) m some =
    let size : r + 1 ≡ suc r = omega arith in
    let by_first : fences_of_size (suc r) ≡ flat_map (starting (suc r)) (range_with_len 1 (suc r)) = filled_by_first r ∙ ap (λ (n : ℕ). flat_map (starting n) (range_with_len 1 n)) size in
    sym (ap (λ fences. stacked_on below (filter (is_listed_fence m) fences)) by_first
    ∙ ap (stacked_on below) (filter-flat_map (is_listed_fence m) (starting (suc r)) (range_with_len 1 (suc r)))
    ∙ map-flat_map (λ f. below ++ f) (λ q. filter (is_listed_fence m) (starting (suc r) q)) (range_with_len 1 (suc r))
    ∙ flat_map-same (λ q. stacked_on below (filter (is_listed_fence m) (starting (suc r) q))) (fences_with below (suc r) m)
    (λ q. ap (stacked_on below) (listed_with m q (suc r - q) (fences_of_size (suc r - q)) (all_of_size (suc r - q)))
    ∙ stacked_on_if below (leb q (suc r - q + m)) q (filter (is_listed_fence m) (fences_of_size (suc r - q))))
    (range_with_len 1 (suc r)))

-- without a step there is the one empty fence
pub listed_none : (below : List ℕ) (r m : ℕ) → r ≡ 0 → stacked_on below (listed_fences r m) ≡ below ∷ []
unfolding stacked_on listed_fences fences_of_size is_listed_fence
listed_none below zero m e = ap (λ (f : List ℕ). f ∷ []) (append-nil below)
listed_none below (suc r) m e = absurd (omega (arith, e))

-- on top of no levels, fences are unchanged
pub stacked_on_nothing : (fences : List (List ℕ)) → stacked_on [] fences ≡ fences
unfolding stacked_on
stacked_on_nothing [] = refl
stacked_on_nothing (f ∷ fences) = ap (λ ys. f ∷ ys) (stacked_on_nothing fences)
