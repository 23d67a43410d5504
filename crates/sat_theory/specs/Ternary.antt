-- Clauses as numbers in base 3. Different clauses have different numbers.
use Rattle.std.specs.Prelude.{◌≡◌, ◌≢◌, ℕ, zero, suc, ◌+◌, ◌*◌, ◌^◌, ◌<◌, ◌≤◌, ◌⊎◌, if◌then◌else◌, ℤ, pos, negsuc, Bool, true, false, List, [], length, slice_index_or, Contains, All}
use Rattle.std.proofs.Common.{sym, ap, ◌∙◌, arith, refl}
use Rattle.std.proofs.Math.Logic.{⊎_elim}
use Rattle.std.proofs.lemmas.Bool.{cases_Bool, cases_eq, cases_order}
use Rattle.std.proofs.lemmas.List.{get_or_default}
use Rattle.std.proofs.lemmas.List.Elements.{Contains-get_or}
use Rattle.std.proofs.lemmas.Grind.{pow_more}
use Rattle.sat_theory.specs.Formula.{variable, IsClause, IsWithin}
use Rattle.sat_theory.specs.Holding.{among}
use Rattle.sat_theory.specs.Soundness.{Contains-from_among, among-from_Contains}

-- the digit of variable suc n: 1 if its positive literal is in the set, 2 if its negative literal is, else 0
abbrev value : Bool → Bool → ℕ
value a b = if a then 1 else (if b then 2 else 0)

abbrev digit : (ℤ → Bool) → ℕ → ℕ
digit set n = value (set (pos (suc n))) (set (negsuc n))

-- the clause as a number in base 3, over the variables 1 to n
unfoldable pub code : (ℤ → Bool) → ℕ → ℕ
code set zero = 0
code set (suc n) = 3 * code set n + digit set n

digit_low : (set : ℤ → Bool) (n : ℕ) → digit set n ≤ 2
digit_low set n = choose (set (pos (suc n))) (set (negsuc n))
  where
    choose : (a b : Bool) → value a b ≤ 2
    choose true b = omega arith
    choose false true = omega arith
    choose false false = omega arith

low_step : (a d p q : ℕ) → a < p → d ≤ 2 → q ≡ p * 3 → 3 * a + d < q
low_step a d p q less small is = omega arith

pub code_low : (set : ℤ → Bool) (n : ℕ) → code set n < 3 ^ n
unfolding code
code_low set zero = omega arith
code_low set (suc n) =
    let e : suc n ≡ n + 1 = omega arith in
    let p : 3 ^ suc n ≡ 3 ^ n * 3 = ap (λ (k : ℕ). 3 ^ k) e ∙ pow_more 3 n in
    low_step (code set n) (digit set n) (3 ^ n) (3 ^ suc n) (code_low set n) (digit_low set n) p

-- equal numbers have equal digits
same_digit : (a b : ℤ → Bool) (n k : ℕ) → code a n ≡ code b n → k < n → digit a k ≡ digit b k
unfolding code
same_digit a b zero k e low = absurd (omega arith)
same_digit a b (suc n) k e low =
    let da : digit a n ≤ 2 = digit_low a n in
    let db : digit b n ≤ 2 = digit_low b n in
    let whole : 3 * code a n + digit a n ≡ 3 * code b n + digit b n = e in
    let rest : code a n ≡ code b n = omega arith in
    ⊎_elim
    (λ (last : k ≡ n). (let here : digit a n ≡ digit b n = omega arith in rw last here))
    (λ (apart : k ≡ n → ⊥). same_digit a b n k rest (omega arith))
    (cases_eq k n)

digit_pos : (set : ℤ → Bool) (n : ℕ) → set (pos (suc n)) ≡ true → digit set n ≡ 1
digit_pos set n is = rw is refl

digit_neg : (set : ℤ → Bool) (n : ℕ) → set (pos (suc n)) ≡ false → set (negsuc n) ≡ true → digit set n ≡ 2
digit_neg set n other is = rw (other, is) refl

pos_digit : (set : ℤ → Bool) (n : ℕ) → digit set n ≡ 1 → set (pos (suc n)) ≡ true
pos_digit set n is = choose (set (pos (suc n))) (set (negsuc n)) is
  where
    choose : (a b : Bool) → value a b ≡ 1 → a ≡ true
    choose true b e = refl
    choose false true e = absurd (let h : 2 ≡ 1 = e in omega arith)
    choose false false e = absurd (let h : 0 ≡ 1 = e in omega arith)

neg_digit : (set : ℤ → Bool) (n : ℕ) → digit set n ≡ 2 → set (negsuc n) ≡ true
neg_digit set n is = choose (set (pos (suc n))) (set (negsuc n)) is
  where
    choose : (a b : Bool) → value a b ≡ 2 → b ≡ true
    choose true b e = absurd (let h : 1 ≡ 2 = e in omega arith)
    choose false true e = refl
    choose false false e = absurd (let h : 0 ≡ 2 = e in omega arith)

-- a clause doesn't have both literals of a variable
one_sign : (lits : List ℤ) (n : ℕ) → IsClause lits → among lits (negsuc n) ≡ true → among lits (pos (suc n)) ≡ false
one_sign lits n clause is = ⊎_elim (λ (both : among lits (pos (suc n)) ≡ true).
    absurd (no_both (Contains-from_among lits (negsuc n) is) (Contains-from_among lits (pos (suc n)) both)))
    (λ (off : among lits (pos (suc n)) ≡ false). off) (cases_Bool (among lits (pos (suc n))))
  where
    differs : (i j : ℕ) (l m : ℤ) → slice_index_or lits i l ≡ l → slice_index_or lits j m ≡ m → i < j → j < length lits → variable l ≡ variable m → ⊥
    differs i j l m at_i at_j order within same =
        let far : variable (slice_index_or lits i l) ≢ variable (slice_index_or lits j l) = clause.differ i j l order within in
        far (ap variable at_i ∙ same ∙ sym (ap variable (get_or_default lits j l m within ∙ at_j)))

    no_both : Contains lits (negsuc n) → Contains lits (pos (suc n)) → ⊥
    no_both (i, low_i, at_i) (j, low_j, at_j) =
        ⊎_elim
        (λ (same : i ≡ j). (let e : slice_index_or lits j (negsuc n) ≡ negsuc n = rw same at at_i in
        let f : slice_index_or lits j (negsuc n) ≡ pos (suc n) = get_or_default lits j (negsuc n) (pos (suc n)) low_j
        ∙ at_j in cc))
        (λ (order : (i < j) ⊎ (j < i)). ⊎_elim (λ (less : i < j).
        differs i j (negsuc n) (pos (suc n)) at_i at_j less low_j refl) (λ (more : j < i).
        differs j i (pos (suc n)) (negsuc n) at_j at_i more low_i refl) order)
        (cases_order i j)

-- Clauses with the same number have the same literals.
pub inside : (xs ys : List ℤ) (n : ℕ) → IsClause xs → IsWithin n xs → code (among xs) n ≡ code (among ys) n → All (Contains ys) xs
inside xs ys n clause within e = λ k d low. there (slice_index_or xs k d) (Contains-get_or xs k d low) (clause.literals k d low) (within k d low)
  where
    there : (l : ℤ) → Contains xs l → 0 < variable l → variable l ≤ n → Contains ys l
    there (pos zero) has some small = absurd (let h : 0 < 0 = some in omega arith)
    there (pos (suc k)) has some small =
        let low : k < n = (let h : suc k ≤ n = small in omega arith) in
        let same : digit (among xs) k ≡ digit (among ys) k = same_digit (among xs) (among ys) n k e low in
        let one : digit (among xs) k ≡ 1 = digit_pos (among xs) k (among-from_Contains xs (pos (suc k)) has) in
        Contains-from_among ys (pos (suc k)) (pos_digit (among ys) k (sym same ∙ one))
    there (negsuc k) has some small =
        let low : k < n = (let h : suc k ≤ n = small in omega arith) in
        let same : digit (among xs) k ≡ digit (among ys) k = same_digit (among xs) (among ys) n k e low in
        let is : among xs (negsuc k) ≡ true = among-from_Contains xs (negsuc k) has in
        let two : digit (among xs) k ≡ 2 = digit_neg (among xs) k (one_sign xs k clause is) is in
        Contains-from_among ys (negsuc k) (neg_digit (among ys) k (sym same ∙ two))

code_none : (n : ℕ) → code (among []) n ≡ 0
unfolding code
code_none zero = refl
code_none (suc n) = let ih : code (among []) n ≡ 0 = code_none n in rw ih refl

-- only the empty clause has the number 0
pub some_code : (lits : List ℤ) (n : ℕ) → IsClause lits → IsWithin n lits → 0 < length lits → code (among lits) n ≡ 0 → ⊥
some_code lits n clause within some e =
    let none : All (Contains []) lits = inside lits [] n clause within (e ∙ sym (code_none n)) in
    let has : Contains [] (slice_index_or lits 0 (pos 0)) = none 0 (pos 0) some in
    let low : has.0 < 0 = has.1 in
    omega arith
