-- Stamps that are current, and stamps of the past.
use Rattle.std.proofs.Common.{◌≡◌, ℕ, ◌+◌, ◌<◌, ◌≤◌, ℤ, true, false, ◌||◌, ◌==◌, List, length, slice_index_or, slice_set, replicate, refl, ap, arith}
use Rattle.std.specs.Ordering.{int_eq}
use Rattle.std.proofs.Math.Logic.{⊎_elim}
use Rattle.std.proofs.lemmas.Bool.{cases_eq, cases_lt, ne_eqb}
use Rattle.std.proofs.lemmas.Bool.Decides.{Decides-int_eq}
use Rattle.std.proofs.lemmas.Grind.{common_steps}
use Rattle.sat_theory.specs.Holding.{with_literal}
use Rattle.cnf_core.specs.Codes.{code_of}
use Rattle.cnf_core.specs.CodeLaws.{code_of-same}
use Rattle.lrat_check.specs.LiteralMarks.{AreStamps, marked}

same_literal : (l m : ℤ) → l ≡ m → int_eq l m ≡ true
same_literal l m e = (Decides-int_eq l m).1 e

other_literal : (l m : ℤ) → (l ≡ m → ⊥) → int_eq l m ≡ false
other_literal l m apart = grind (arith, Decides-int_eq l m)

stamp_set : (stamps : List ℕ) (time : ℕ) (l m : ℤ) → code_of l < length stamps →
    (slice_index_or (slice_set stamps (code_of l) time) (code_of m) 0 == time) ≡ (int_eq m l ||
    (slice_index_or stamps (code_of m) 0 == time))
stamp_set stamps time l m room =
    ⊎_elim
    (λ (same : code_of m ≡ code_of l). let e : int_eq m l ≡ true = same_literal m l (code_of-same m l same) in rw e (grind (arith, common_steps)))
    (λ (apart : code_of m ≡ code_of l → ⊥). let e : int_eq m l ≡ false = other_literal m l (λ same. apart (ap code_of same)) in rw e (grind (arith, common_steps)))
    (cases_eq (code_of m) (code_of l))

-- Setting the stamp of a literal adds it to the set.
pub marked-set : (stamps : List ℕ) (time : ℕ) (l : ℤ) → code_of l < length stamps →
    marked (record { stamps = slice_set stamps (code_of l) time; time = time }) ≡
    with_literal (marked (record { stamps = stamps; time = time })) l
unfolding marked
marked-set stamps time l room = λ i m. stamp_set stamps time l m room i

-- At the next time the set is empty.
pub marked-next : (stamps : List ℕ) (time : ℕ) (l : ℤ) → AreStamps (record { stamps = stamps; time = time }) → marked (record { stamps = stamps; time = time + 1 }) l ≡ false
unfolding marked
marked-next stamps time l are =
    ⊎_elim
    (λ (within : code_of l < length stamps). let old : slice_index_or stamps (code_of l) 0 ≤ time =
    are.past (code_of l) 0 within in ne_eqb (slice_index_or stamps (code_of l) 0) (time + 1)
    (λ e. omega (arith, e, old)))
    (λ (past : length stamps ≤ code_of l). let none : slice_index_or stamps (code_of l) 0 ≡ 0 = grind (arith, common_steps) in rw none (ne_eqb 0 (time + 1) (λ e. omega (arith, e))))
    (cases_lt (code_of l) (length stamps))

-- It is empty if all stamps are 0.
pub marked-fresh : (n : ℕ) (l : ℤ) → marked (record { stamps = replicate n 0; time = 1 }) l ≡ false
unfolding marked
marked-fresh n l =
    let zeros : List ℕ = replicate n 0 in
    ⊎_elim
    (λ (within : code_of l < n). let zero_ : slice_index_or zeros (code_of l) 0 ≡ 0 = grind (arith, common_steps) in rw zero_ refl)
    (λ (past : n ≤ code_of l). let zero_ : slice_index_or zeros (code_of l) 0 ≡ 0 = grind (arith, common_steps) in rw zero_ refl)
    (cases_lt (code_of l) n)

pub ruleset stamping = (common_steps, marked-set, marked-next, marked-fresh)
