-- The list of the keys of all steps, as one number.
use Rattle.std.proofs.Common.{◌≡◌, ℕ, zero, suc, ◌+◌, ◌*◌, ◌≤◌, ◌<◌, refl, ap, ◌∙◌, arith, ⊎_elim, subst}
use Rattle.std.proofs.lemmas.Bool.{cases_lt, cases_eq}
use Rattle.std.proofs.lemmas.Bool.Decides.{nat_tests}
use Rattle.std.proofs.Math.Nat.{mul-le-mul_right}
use Rattle.chain_theory.specs.Chain.{Step}
use Rattle.chain_laws.specs.Keys.{larger, smaller, ComesBefore}
use Rattle.chain_laws.specs.Decidable.{IsDecidable, decided_or, decided_and, decided_lt}

-- ---- numbers of two digits

block_less : (base x y u v : ℕ) → x < y → u < base → x * base + u < y * base + v
block_less base x y u v lt low =
    let next : suc x * base ≤ y * base = mul-le-mul_right base lt in
    omega (arith, next)

-- the key of a step as a number of two digits, where places are below the base
unfoldable pub key : ℕ → Step → ℕ
key base a = larger a * base + smaller a

pub smaller_low : (base : ℕ) (a : Step) → a.j < base → a.k < base → smaller a < base
smaller_low base a j_low k_low = grind (arith, nat_tests)

pub key_low : (base : ℕ) (a : Step) → a.j < base → a.k < base → key base a < base * base
unfolding key
key_low base a j_low k_low =
    let whole : larger a < base = omega arith in
    let next : suc (larger a) * base ≤ base * base = mul-le-mul_right base whole in
    omega (arith, next, smaller_low base a j_low k_low)

pub key_less : (base : ℕ) (a b : Step) → a.j < base → a.k < base → ComesBefore a b → key base a < key base b
unfolding key
key_less base a b j_low k_low before = ⊎_elim
    (λ (lower : larger a < larger b). block_less base (larger a) (larger b) (smaller a) (smaller b) lower (smaller_low base a j_low k_low))
    (λ (same : (larger a ≡ larger b) × (smaller a < smaller b)). let e : larger a * base ≡ larger b * base = ap (λ (x : ℕ). x * base) same.0 in omega (arith, e, same.1))
    before

pub decided_before : (a b : Step) → IsDecidable (ComesBefore a b)
decided_before a b = decided_or (larger a < larger b) ((larger a ≡ larger b) × (smaller a < smaller b)) (decided_lt (larger a) (larger b))
    (decided_and (larger a ≡ larger b) (smaller a < smaller b) (cases_eq (larger a) (larger b)) (decided_lt (smaller a) (smaller b)))

-- ---- numbers of many digits

-- the number whose digits are f 0, f 1, and so on, the first the most significant
unfoldable pub spelled : ℕ → (ℕ → ℕ) → ℕ → ℕ
spelled base f zero = 0
spelled base f (suc r) = spelled base f r * base + f r

pub spelled_same : (base : ℕ) (f g : ℕ → ℕ) (r : ℕ) → ((k : ℕ) → k < r → f k ≡ g k) → spelled base f r ≡ spelled base g r
unfolding spelled
spelled_same base f g zero same = refl
spelled_same base f g (suc r) same =
    ap (λ (x : ℕ). x * base + f r) (spelled_same base f g r (λ k low. same k (omega arith))) ∙ ap (λ (x : ℕ). spelled base g r * base + x) (same r (omega arith))

-- The first digit that differs decides.
pub spelled_less : (base : ℕ) (f g : ℕ → ℕ) (i r : ℕ) → i < r → ((k : ℕ) → k < r → f k < base) → ((k : ℕ) → k < i → f k ≡ g k) → f i < g i → spelled base f r < spelled base g r
unfolding spelled
spelled_less base f g i zero low small same less = absurd (omega arith)
spelled_less base f g i (suc r) low small same less = ⊎_elim
    (λ (before : i < r). block_less base (spelled base f r) (spelled base g r) (f r) (g r) (spelled_less base f g i r before (λ k k_low. small k (omega arith)) same less) (small r (omega arith)))
    (λ (past : r ≤ i).
    let e : i ≡ r = omega arith in
    let equal : spelled base f r * base ≡ spelled base g r * base = ap (λ (x : ℕ). x * base) (spelled_same base f g r (λ k k_low. same k (omega arith))) in
    let last : f r < g r = subst (λ (k : ℕ). f k < g k) e less in
    omega (arith, equal, last))
    (cases_lt i r)

-- ---- steps by the order of their pairs

-- All keys as one number: smaller where the first pair that differs comes before.
abbrev pub rank : ℕ → ℕ → (ℕ → Step) → ℕ
rank base r step = spelled (base * base) (λ k. key base (step k)) r

pub rank_less : (base r : ℕ) (f g : ℕ → Step) (i : ℕ) → i < r →
    ((k : ℕ) → k < r → ((f k).j < base) × ((f k).k < base)) → ((k : ℕ) → k < i → key base (f k) ≡ key base (g k)) →
    ComesBefore (f i) (g i) → rank base r f < rank base r g
rank_less base r f g i low small same before =
    spelled_less (base * base) (λ k. key base (f k)) (λ k. key base (g k)) i r low
    (λ k k_low. key_low base (f k) (small k k_low).0 (small k k_low).1)
    same
    (key_less base (f i) (g i) (small i low).0 (small i low).1 before)
