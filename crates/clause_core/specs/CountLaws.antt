-- Bounds on the lengths of list comprehensions, and on the number of clauses added.
use Rattle.std.specs.Prelude.{ℕ, zero, suc, ◌+◌, ◌*◌, ◌≤◌, ◌<◌, ℤ, List, [], ◌∷◌, All, length, Some, None, Option}
use Rattle.std.specs.List.{range_with_len, flat_map}
use Rattle.std.proofs.Common.{arith, length-append}
use Rattle.std.proofs.Math.Nat.{mul-le-mul_left, mul-le-mul_right}
use Rattle.std.proofs.lemmas.List.Elements.{All-nil, All-append}
use Rattle.clause_core.specs.declared.raw.RawLit.{RawLit}
use Rattle.clause_core.specs.Clauses.{simplified, listed, written}

-- ---- lists made of pieces over a range

-- what holds of the elements of each piece holds of all
pub flat_map-each : {X : Type 0} (P : X → Type 0) (f : ℕ → List X) (a n : ℕ) → ((x : ℕ) → a ≤ x → x < a + n → All P (f x)) → All P (flat_map f (range_with_len a n))
flat_map-each {X} P f a zero each = All-nil P
flat_map-each {X} P f a (suc n) each = All-append P (f a) (flat_map f (range_with_len (a + 1) n))
    (each a (omega arith) (omega arith)) (flat_map-each P f (a + 1) n (λ x low high.
    each x (omega arith) (omega arith)))

-- pieces of at most k elements, n of them, have at most n * k elements
pub flat_map-few : {X : Type 0} (f : ℕ → List X) (k a n : ℕ) → ((x : ℕ) → a ≤ x → x < a + n → length (f x) ≤ k) → length (flat_map f (range_with_len a n)) ≤ n * k
flat_map-few {X} f k a zero each = omega arith
flat_map-few {X} f k a (suc n) each =
    let first : length (f a) ≤ k = each a (omega arith) (omega arith) in
    let rest : length (flat_map f (range_with_len (a + 1) n)) ≤ n * k = flat_map-few f k (a + 1) n (λ x low high. each x (omega arith) (omega arith)) in
    rw length-append (omega (arith, first, rest))

-- ---- lists made of pieces

pub pieces-few : {X Y : Type 0} (f : X → List Y) (k : ℕ) (xs : List X) → ((x : X) → length (f x) ≤ k) → length (flat_map f xs) ≤ length xs * k
pieces-few {X} {Y} f k [] each = omega arith
pieces-few {X} {Y} f k (x ∷ xs) each =
    let first : length (f x) ≤ k = each x in
    let rest : length (flat_map f xs) ≤ length xs * k = pieces-few f k xs each in
    rw length-append (omega (arith, first, rest))

listed-few : (o : Option (List ℤ)) → length (listed o) ≤ 1
listed-few None = omega arith
listed-few (Some lits) = omega arith

pub written-few : (raws : List RawLit) → length (written raws) ≤ 1
unfolding written
written-few raws = listed-few (simplified [] raws)

-- a product of numbers within bounds
pub times-few : (a b m k : ℕ) → a ≤ m → b ≤ k → a * b ≤ m * k
times-few a b m k ha hb = let one : a * b ≤ m * b = mul-le-mul_right b ha in let two : m * b ≤ m * k = mul-le-mul_left m hb in omega (arith, one, two)
