-- A list that was written is read again.
use Rattle.std.proofs.Common.{Fits, w32, get_or, ◌≡◌, ℕ, suc, ◌+◌, ◌-◌, ◌*◌, ◌/◌, ◌%◌, ◌<◌, ◌≤◌, ◌^◌, min, true, false, ℤ, pos, negsuc, List, [], ◌∷◌, length, refl, ap, sym, ◌∙◌, subst, arith, eq-eqb}
use Rattle.std.specs.Prelude.{All}
use Rattle.std.proofs.Math.Logic.{⊎_elim}
use Rattle.std.proofs.lemmas.Bool.{le-leb, lt-leb, ne_eqb, cases_lt}
use Rattle.std.proofs.lemmas.List.Elements.{All-head, All-tail}
use Rattle.std.proofs.lemmas.Grind.{get_or_default_zero}
use Rattle.sat_theory.specs.Formula.{signed}
use Rattle.cnf_core.specs.Bounds.{IsLit}
use Rattle.cnf_core.specs.Codes.{code_of}
use Rattle.log_core.specs.Numbers.{numbers_from}
use Rattle.log_core.specs.Lists.{step, stepped, ids_written, ids_from, variable_at, literal_at, literals_written, literals_from}
use Rattle.log_core.proofs.ReadNumbers.{written-read, numbers_from-none}
use Rattle.sat_theory.specs.Limits.{most_id}

step-up : (last id : ℕ) → last ≤ id → step last id ≡ 2 * (id - last)
unfolding step
step-up last id up = rw (le-leb last id up) refl

step-down : (last id : ℕ) → id < last → step last id ≡ 2 * (last - id) - 1
unfolding step
step-down last id down = rw (lt-leb last id down) refl

stepped-up : (last n : ℕ) → n % 2 ≡ 0 → stepped last n ≡ min (last + n / 2) most_id
unfolding stepped
stepped-up last n even = rw (eq-eqb (n % 2) 0 even) refl

stepped-down : (last n : ℕ) → (n % 2 ≡ 0 → ⊥) → stepped last n ≡ last - (n / 2 + 1)
unfolding stepped
stepped-down last n odd = rw (ne_eqb (n % 2) 0 odd) refl

-- decoding the difference gives the id back
pub stepped-step : (last id : ℕ) → id ≤ most_id → stepped last (step last id) ≡ id
stepped-step last id low = ⊎_elim
    (λ (down : id < last). rw (step-down last id down) (stepped-down last (2 * (last - id) - 1) (omega arith) ∙ (let back : last - ((2 * (last - id) - 1) / 2 + 1) ≡ id = omega arith in back)))
    (λ (up : last ≤ id). rw (step-up last id up) (stepped-up last (2 * (id - last)) (omega arith) ∙ (let back : min (last + 2 * (id - last) / 2) most_id ≡ id = omega arith in back)))
    (cases_lt id last)

pub step-le : (last id : ℕ) → last ≤ most_id → id ≤ most_id → step last id ≤ 17179869184
step-le last id last_low low = ⊎_elim
    (λ (down : id < last). rw (step-down last id down) (omega arith))
    (λ (up : last ≤ id). rw (step-up last id up) (omega arith))
    (cases_lt id last)

-- ids within 32 bits
abbrev pub AreIds : List ℕ → Type 0
AreIds ids = All (λ id. id ≤ most_id) ids

abbrev IsLow : ℕ → Type 0
IsLow id = id ≤ most_id

pub ids_read : (last : ℕ) (ids : List ℕ) → last ≤ most_id → AreIds ids → ids_from last (numbers_from 0 (ids_written last ids)) ≡ ids
unfolding ids_written ids_from
ids_read last [] low are = rw (numbers_from-none 0) refl
ids_read last (id ∷ ids) low are =
    let first : id ≤ most_id = All-head IsLow id ids are in
    let others : AreIds ids = All-tail IsLow id ids are in
    rw (written-read (step last id) (ids_written id ids) (step-le last id low first), stepped-step last id first) (ap (λ (xs : List ℕ). id ∷ xs) (ids_read id ids first others))

literal_at-even : (n : ℕ) → n % 2 ≡ 0 → literal_at n ≡ signed (variable_at (n / 2)) true
unfolding literal_at
literal_at-even n even = rw (eq-eqb (n % 2) 0 even) refl

literal_at-odd : (n : ℕ) → (n % 2 ≡ 0 → ⊥) → literal_at n ≡ signed (variable_at (n / 2)) false
unfolding literal_at
literal_at-odd n odd = rw (ne_eqb (n % 2) 0 odd) refl

variable_at-same : (n v : ℕ) → n ≡ v → 0 < v → v < 2 ^ 31 → variable_at n ≡ v
unfolding variable_at
variable_at-same n v same some small = omega arith

-- decoding the number of a literal gives the literal back
pub literal_at-code_of : (l : ℤ) → IsLit l → literal_at (code_of l) ≡ l
literal_at-code_of (pos a) is =
    let some : 0 < a = is.some in
    let small : a < 2 ^ 31 = is.small in
    literal_at-even (2 * a) (omega arith) ∙ ap (λ (v : ℕ). signed v true) (variable_at-same (2 * a / 2) a (omega arith) some small)
literal_at-code_of (negsuc a) is =
    let small : suc a < 2 ^ 31 = is.small in
    literal_at-odd (2 * suc a + 1) (omega arith) ∙ ap (λ (v : ℕ). signed v false) (variable_at-same ((2 * suc a + 1) / 2) (suc a) (omega arith) (omega arith) small)

code_of-le : (l : ℤ) → IsLit l → code_of l ≤ 17179869184
code_of-le (pos a) is = let small : a < 2 ^ 31 = is.small in let goal : 2 * a ≤ 17179869184 = omega arith in goal
code_of-le (negsuc a) is = let small : suc a < 2 ^ 31 = is.small in let goal : 2 * suc a + 1 ≤ 17179869184 = omega arith in goal

pub literals_read : (lits : List ℤ) → All IsLit lits → literals_from (numbers_from 0 (literals_written lits)) ≡ lits
unfolding literals_written literals_from
literals_read [] are = rw (numbers_from-none 0) refl
literals_read (l ∷ lits) are =
    let first : IsLit l = All-head IsLit l lits are in
    let others : All IsLit lits = All-tail IsLit l lits are in
    rw (written-read (code_of l) (literals_written lits) (code_of-le l first), literal_at-code_of l first) (ap (λ (xs : List ℤ). l ∷ xs) (literals_read lits others))

-- the numbers of a list of u32 are within 32 bits
pub ids_low : (ids : List ℕ) → ((i : ℕ) → Fits w32 (get_or ids i 0)) → AreIds ids
ids_low ids fits = λ (k : ℕ) (d : ℕ) (within : k < length ids). subst IsLow (sym (get_or_default_zero ids k d within)) (let low : Fits w32 (get_or ids k 0) = fits k in omega (arith, low))
