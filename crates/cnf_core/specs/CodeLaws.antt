-- Distinct literals have distinct table indices, and a table has room for all of them.
use Rattle.std.specs.Prelude.{◌≡◌, ℕ, zero, suc, ◌+◌, ◌-◌, ◌*◌, ◌/◌, ◌%◌, ◌<◌, ◌≤◌, ◌⊎◌, ◌<ℤ◌, ℤ, pos, negsuc, refl}
use Rattle.std.specs.Int.Bits.{bit_xor, xor_step, xor_zero_r}
use Rattle.std.proofs.Common.{◌∙◌, sym, subst, ap, arith, inl, inr, rules}
use Rattle.std.proofs.Math.Logic.{⊎_elim}
use Rattle.std.proofs.lemmas.Bool.{cases_lt}
use Rattle.sat_theory.specs.Formula.{variable, opposite}
use Rattle.cnf_core.specs.Codes.{code_of, literal_of}

-- distinct literals have distinct indices
pub code_of-same : (l m : ℤ) → code_of l ≡ code_of m → l ≡ m
code_of-same (pos a) (pos b) e = let h : 2 * a ≡ 2 * b = e in let same : a ≡ b = omega arith in ap (λ (n : ℕ). pos n) same
code_of-same (pos a) (negsuc b) e = let h : 2 * a ≡ 2 * suc b + 1 = e in absurd (omega arith)
code_of-same (negsuc a) (pos b) e = let h : 2 * suc a + 1 ≡ 2 * b = e in absurd (omega arith)
code_of-same (negsuc a) (negsuc b) e = let h : 2 * suc a + 1 ≡ 2 * suc b + 1 = e in let same : a ≡ b = omega arith in ap (λ (n : ℕ). negsuc n) same

-- an even index is that of a positive literal
literal_of-even : (n : ℕ) → n % 2 ≡ 0 → literal_of n ≡ pos (n / 2)
literal_of-even n even = rw even refl

-- an odd index is that of a negative one
literal_of-odd : (n : ℕ) → n % 2 ≡ 1 → literal_of n ≡ negsuc (n / 2 - 1)
literal_of-odd n odd = rw odd refl

parity : (n : ℕ) → (n % 2 ≡ 0) ⊎ (n % 2 ≡ 1)
parity n = ⊎_elim
    (λ (low : n % 2 < 1). inl (omega arith))
    (λ (high : 1 ≤ n % 2). inr (omega arith))
    (cases_lt (n % 2) 1)

-- the literal of an index has that index
pub code_of-literal_of : (n : ℕ) → 2 ≤ n → code_of (literal_of n) ≡ n
code_of-literal_of n some = ⊎_elim
    (λ (even : n % 2 ≡ 0). rw (literal_of-even n even) (let goal : 2 * (n / 2) ≡ n = omega arith in goal))
    (λ (odd : n % 2 ≡ 1). rw (literal_of-odd n odd) (let goal : 2 * suc (n / 2 - 1) + 1 ≡ n = omega arith in goal))
    (parity n)

-- the indices of literals begin at 2
pub code_of-from_2 : (l : ℤ) → 0 < variable l → 2 ≤ code_of l
code_of-from_2 (pos a) some = let h : 0 < a = some in let goal : 2 ≤ 2 * a = omega arith in goal
code_of-from_2 (negsuc a) some = let goal : 2 ≤ 2 * suc a + 1 = omega arith in goal

-- a literal is the literal of its index
pub literal_of-code_of : (l : ℤ) → 0 < variable l → literal_of (code_of l) ≡ l
literal_of-code_of l some = code_of-same (literal_of (code_of l)) l (code_of-literal_of (code_of l) (code_of-from_2 l some))

pub variable-literal_of : (n : ℕ) → 2 ≤ n → variable (literal_of n) ≡ n / 2
variable-literal_of n some = ⊎_elim
    (λ (even : n % 2 ≡ 0). rw (literal_of-even n even) refl)
    (λ (odd : n % 2 ≡ 1). rw (literal_of-odd n odd) (let goal : suc (n / 2 - 1) ≡ n / 2 = omega arith in goal))
    (parity n)

above : (k : ℕ) → 0 < k → pos 0 <ℤ pos k
above k some = Prim.search (arith, rules)

pub positive-even : (n : ℕ) → 2 ≤ n → n % 2 ≡ 0 → pos 0 <ℤ literal_of n
positive-even n some even = rw (literal_of-even n even) (above (n / 2) (omega arith))

pub even-positive : (n : ℕ) → 2 ≤ n → pos 0 <ℤ literal_of n → n % 2 ≡ 0
even-positive n some positive = ⊎_elim
    (λ (even : n % 2 ≡ 0). even)
    (λ (odd : n % 2 ≡ 1). let h : pos 0 <ℤ negsuc (n / 2 - 1) = subst (λ (l : ℤ). pos 0 <ℤ l) (literal_of-odd n odd) positive in absurd h.lt)
    (parity n)

opposite_code : (v : ℕ) → 0 < v → code_of (opposite (pos v)) ≡ 2 * v + 1
opposite_code zero some = let h : 0 < 0 = some in absurd (omega arith)
opposite_code (suc v) some = refl

xor_1-even : (n : ℕ) → n % 2 ≡ 0 → bit_xor n 1 ≡ n + 1
xor_1-even n even =
    let half : bit_xor (n / 2) 0 ≡ n / 2 = xor_zero_r (n / 2) in
    xor_step n 1 ∙ rw (even, half) (let goal : n / 2 * 2 + 1 ≡ n + 1 = omega arith in goal)

xor_1-odd : (n : ℕ) → n % 2 ≡ 1 → bit_xor n 1 ≡ n - 1
xor_1-odd n odd =
    let half : bit_xor (n / 2) 0 ≡ n / 2 = xor_zero_r (n / 2) in
    xor_step n 1 ∙ rw (odd, half) (let goal : n / 2 * 2 + 0 ≡ n - 1 = omega arith in goal)

opposite-even : (n : ℕ) → 2 ≤ n → n % 2 ≡ 0 → literal_of (bit_xor n 1) ≡ opposite (literal_of n)
opposite-even n some even =
    let beside : code_of (opposite (literal_of n)) ≡ bit_xor n 1 =
    rw (literal_of-even n even, xor_1-even n even) (opposite_code (n / 2) (omega arith)
    ∙ (let goal : 2 * (n / 2) + 1 ≡ n + 1 = omega arith in goal)) in
    code_of-same (literal_of (bit_xor n 1)) (opposite (literal_of n)) (code_of-literal_of (bit_xor n 1) (rw (xor_1-even n even) (omega arith)) ∙ sym beside)

opposite-odd : (n : ℕ) → 2 ≤ n → n % 2 ≡ 1 → literal_of (bit_xor n 1) ≡ opposite (literal_of n)
opposite-odd n some odd =
    let beside : code_of (opposite (literal_of n)) ≡ bit_xor n 1 = rw (literal_of-odd n odd, xor_1-odd n odd) (let goal : 2 * suc (n / 2 - 1) ≡ n - 1 = omega arith in goal) in
    code_of-same (literal_of (bit_xor n 1)) (opposite (literal_of n)) (code_of-literal_of (bit_xor n 1) (rw (xor_1-odd n odd) (omega arith)) ∙ sym beside)

-- the entry of the opposite is the neighbour of a literal's entry
pub opposite-literal_of : (n : ℕ) → 2 ≤ n → literal_of (bit_xor n 1) ≡ opposite (literal_of n)
opposite-literal_of n some = ⊎_elim (opposite-even n some) (opposite-odd n some) (parity n)
