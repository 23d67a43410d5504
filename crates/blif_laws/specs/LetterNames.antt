-- A letter followed by a number is a valid name, and the name determines both.
use Rattle.std.specs.Prelude.{◌≡◌, ℕ, ◌+◌, ◌%◌, ◌^◌, ◌≤◌, ◌<◌, true, false, not, ◌&&◌, ◌==◌, nat_le, List, [], ◌∷◌, ◌++◌, length, decimal}
use Rattle.std.proofs.Common.{arith}
use Rattle.std.proofs.lemmas.Bool.{and_parts, and_from, not_from_false, le-leb, ne_eqb}
use Rattle.std.proofs.lemmas.Fmt.{decimal_by_steps, decimal_injective, length-decimal-le}
use Rattle.net_theory.specs.Document.{Name, IsName, is_name, is_name_byte}

name_push : (n : Name) (b : ℕ) → is_name n ≡ true → is_name_byte b ≡ true → (b == 92) ≡ false → is_name (n ++ b ∷ []) ≡ true
unfolding is_name
name_push [] b e good other = absurd cc
name_push (c ∷ []) b e good other =
    and_from (is_name_byte c) (is_name (b ∷ [])) (and_parts (is_name_byte c) (not (c == 92)) e).0
    (and_from (is_name_byte b) (not (b == 92)) good (not_from_false (b == 92) other))
name_push (c ∷ d ∷ bs) b e good other =
    let p = and_parts (is_name_byte c) (is_name (d ∷ bs)) e in
    and_from (is_name_byte c) (is_name (d ∷ bs ++ b ∷ [])) p.0 (name_push (d ∷ bs) b p.1 good other)

-- a byte from 36 to 126 that isn't `\`
byte_good : (b : ℕ) → 36 ≤ b → b ≤ 126 → is_name_byte b ≡ true
byte_good b low high =
    and_from (nat_le 33 b && nat_le b 126) (not (b == 35))
    (and_from (nat_le 33 b) (nat_le b 126) (le-leb 33 b (omega (arith, low))) (le-leb b 126 (omega (arith, high))))
    (not_from_false (b == 35) (ne_eqb b 35 (λ e. omega (arith, e, low))))

digit_good : (d : ℕ) → d < 10 → is_name_byte (48 + d) ≡ true
digit_good d low = byte_good (48 + d) (omega arith) (omega (arith, low))

digit_other : (d : ℕ) → d < 10 → ((48 + d) == 92) ≡ false
digit_other d low = ne_eqb (48 + d) 92 (λ e. omega (arith, e, low))

one_name : (l : ℕ) → 97 ≤ l → l ≤ 122 → is_name (l ∷ []) ≡ true
unfolding is_name
one_name l low high =
    and_from (is_name_byte l) (not (l == 92)) (byte_good l (omega (arith, low)) (omega (arith, high))) (not_from_false (l == 92) (ne_eqb l 92 (λ e. omega (arith, e, low))))

letter_spelled : (l k : ℕ) → 97 ≤ l → l ≤ 122 → k < 2 ^ 64 → is_name (l ∷ decimal k) ≡ true
letter_spelled l k from to low =
    decimal_by_steps
    (λ n ds. is_name (l ∷ ds) ≡ true)
    (λ n digit. name_push (l ∷ []) (48 + n) (one_name l from to) (digit_good n digit) (digit_other n digit))
    (λ n ds high prefix. let d : n % 10 < 10 = omega arith in name_push (l ∷ ds) (48 + n % 10) prefix (digit_good (n % 10) d) (digit_other (n % 10) d))
    k
    low

pub letter_short : (l k : ℕ) → k < 2 ^ 64 → length (l ∷ decimal k) ≤ 21
letter_short l k low = let size = length-decimal-le 20 k (omega arith) (omega (arith, low)) low in omega (arith, size)

pub letter_name : (l k : ℕ) → 97 ≤ l → l ≤ 122 → k < 2 ^ 64 → IsName (l ∷ decimal k)
letter_name l k from to low = record { spelled = letter_spelled l k from to low; short = omega (arith, letter_short l k low) }

pub letters_same : (l m j k : ℕ) → j < 2 ^ 64 → k < 2 ^ 64 → l ∷ decimal j ≡ m ∷ decimal k → (l ≡ m) × (j ≡ k)
letters_same l m j k low_j low_k e = (head_same (decimal j) (decimal k) e, decimal_injective j k low_j low_k (tail_same (decimal j) (decimal k) e)) where
  head_same : (xs ys : List ℕ) → l ∷ xs ≡ m ∷ ys → l ≡ m
  head_same xs ys f = cc

  tail_same : (xs ys : List ℕ) → l ∷ xs ≡ m ∷ ys → xs ≡ ys
  tail_same xs ys f = cc
