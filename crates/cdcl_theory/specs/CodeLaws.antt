-- Tables over literals after an entry was written.
use Rattle.std.specs.Prelude.{◌≡◌, ℕ, zero, suc, ◌+◌, ◌*◌, ◌<◌, ◌≤◌, ◌⊎◌, ℤ, pos, negsuc, Bool, true, false, List, length, slice_index_or, slice_set, replicate, refl}
use Rattle.std.specs.Ordering.{int_eq}
use Rattle.std.proofs.Common.{ap, arith, inl, inr}
use Rattle.std.proofs.Math.Logic.{⊎_elim}
use Rattle.std.proofs.lemmas.Bool.{cases_lt, cases_Bool}
use Rattle.std.proofs.lemmas.Bool.Decides.{Decides-int_eq}
use Rattle.std.proofs.lemmas.Grind.{common_steps}
use Rattle.sat_theory.specs.Formula.{variable, opposite}
use Rattle.sat_theory.specs.Holding.{with_literal}
use Rattle.cnf_core.specs.Codes.{code_of}
use Rattle.cdcl_theory.specs.Codes.{position_in, with_position, marked_in, without_literal}
pub use Rattle.cnf_core.specs.CodeLaws.{code_of-same}

-- the entries of the variables 1 to n fit a table of 2 n + 2
pub code_of-room : (l : ℤ) (n : ℕ) → variable l ≤ n → code_of l < 2 * n + 2
code_of-room (pos a) n within = let h : a ≤ n = within in let goal : 2 * a < 2 * n + 2 = omega arith in goal
code_of-room (negsuc a) n within = let h : suc a ≤ n = within in let goal : 2 * suc a + 1 < 2 * n + 2 = omega arith in goal

pub opposite-opposite : (l : ℤ) → opposite (opposite l) ≡ l
opposite-opposite (pos zero) = refl
opposite-opposite (pos (suc n)) = refl
opposite-opposite (negsuc n) = refl

pub variable-opposite : (l : ℤ) → variable (opposite l) ≡ variable l
variable-opposite (pos zero) = refl
variable-opposite (pos (suc n)) = refl
variable-opposite (negsuc n) = refl

pub opposite-differs : (l : ℤ) → 0 < variable l → opposite l ≡ l → ⊥
opposite-differs (pos zero) some e = let h : 0 < 0 = some in omega arith
opposite-differs (pos (suc n)) some e = cc
opposite-differs (negsuc n) some e = cc

-- two literals of one variable
pub same_variable : (l m : ℤ) → variable l ≡ variable m → (l ≡ m) ⊎ (l ≡ opposite m)
same_variable (pos a) (pos b) e = let h : a ≡ b = e in inl (ap (λ (n : ℕ). pos n) h)
same_variable (pos a) (negsuc b) e = let h : a ≡ suc b = e in inr (ap (λ (n : ℕ). pos n) h)
same_variable (negsuc a) (pos zero) e = let h : suc a ≡ 0 = e in absurd (omega arith)
same_variable (negsuc a) (pos (suc b)) e = let h : suc a ≡ suc b = e in let same : a ≡ b = omega arith in inr (ap (λ (n : ℕ). negsuc n) same)
same_variable (negsuc a) (negsuc b) e = let h : suc a ≡ suc b = e in let same : a ≡ b = omega arith in inl (ap (λ (n : ℕ). negsuc n) same)

pub cases_literal : (l m : ℤ) → (l ≡ m) ⊎ (l ≡ m → ⊥)
cases_literal l m = ⊎_elim (λ (is : int_eq l m ≡ true). inl ((Decides-int_eq l m).0 is))
    (λ (other : int_eq l m ≡ false). inr (λ same. let is : int_eq l m ≡ true = (Decides-int_eq l m).1 same in
    absurd (cc))) (cases_Bool (int_eq l m))

pub int_eq-same : (l m : ℤ) → l ≡ m → int_eq l m ≡ true
int_eq-same l m e = (Decides-int_eq l m).1 e

pub int_eq-other : (l m : ℤ) → (l ≡ m → ⊥) → int_eq l m ≡ false
int_eq-other l m apart = grind (arith, Decides-int_eq l m)

-- the position of the literal that was written, and those of the others
pub with_position-same : (positions : ℤ → ℕ) (l m : ℤ) (p : ℕ) → m ≡ l → with_position positions l p m ≡ p
with_position-same positions l m p e = rw (int_eq-same m l e) refl

pub with_position-other : (positions : ℤ → ℕ) (l m : ℤ) (p : ℕ) → (m ≡ l → ⊥) → with_position positions l p m ≡ positions m
with_position-other positions l m p apart = rw (int_eq-other m l apart) refl

-- membership after a literal is added to a set, and after one is removed
pub with_literal-cases : (set : ℤ → Bool) (l m : ℤ) → with_literal set l m ≡ true → (m ≡ l) ⊎ (set m ≡ true)
with_literal-cases set l m is =
    ⊎_elim (λ (same : m ≡ l). inl same) (λ (apart : m ≡ l → ⊥). inr (let e : int_eq m l ≡ false = int_eq-other m l apart in rw e at is)) (cases_literal m l)

pub with_literal-old : (set : ℤ → Bool) (l m : ℤ) → set m ≡ true → with_literal set l m ≡ true
with_literal-old set l m is = ⊎_elim (λ (e : int_eq m l ≡ true). rw e refl) (λ (e : int_eq m l ≡ false). rw e is) (cases_Bool (int_eq m l))

pub with_literal-new : (set : ℤ → Bool) (l m : ℤ) → m ≡ l → with_literal set l m ≡ true
with_literal-new set l m e = rw (int_eq-same m l e) refl

pub without_literal-other : (set : ℤ → Bool) (l m : ℤ) → (m ≡ l → ⊥) → without_literal set l m ≡ set m
without_literal-other set l m apart = rw (int_eq-other m l apart) refl

pub without_literal-same : (set : ℤ → Bool) (l m : ℤ) → m ≡ l → without_literal set l m ≡ false
without_literal-same set l m e = rw (int_eq-same m l e) refl

read_same : {X : Type 0} (table : List X) (i j : ℕ) (y d : X) → j ≡ i → i < length table → slice_index_or (slice_set table i y) j d ≡ y
read_same table i j y d same room = grind (arith, common_steps)

read_other : {X : Type 0} (table : List X) (i j : ℕ) (y d : X) → (j ≡ i → ⊥) → slice_index_or (slice_set table i y) j d ≡ slice_index_or table j d
read_other table i j y d apart = grind (arith, common_steps)

place_set : (table : List ℕ) (l m : ℤ) (p : ℕ) → code_of l < length table → position_in (slice_set table (code_of l) p) m ≡ with_position (position_in table) l p m
unfolding position_in
place_set table l m p room =
    ⊎_elim
    (λ (same : m ≡ l). let e : int_eq m l ≡ true = int_eq-same m l same in rw e (read_same table (code_of l) (code_of m) p 0 (ap code_of same) room))
    (λ (apart : m ≡ l → ⊥). let e : int_eq m l ≡ false = int_eq-other m l apart in rw e (read_other table (code_of l) (code_of m) p 0 (λ same. apart (code_of-same m l same))))
    (cases_literal m l)

-- Writing an entry changes the function at its literal alone.
pub position_in-set : (table : List ℕ) (l : ℤ) (p : ℕ) → code_of l < length table → position_in (slice_set table (code_of l) p) ≡ with_position (position_in table) l p
position_in-set table l p room = λ i m. place_set table l m p room i

mark_set : (marks : List Bool) (l m : ℤ) → code_of l < length marks → marked_in (slice_set marks (code_of l) true) m ≡ with_literal (marked_in marks) l m
unfolding marked_in
mark_set marks l m room =
    ⊎_elim
    (λ (same : m ≡ l). let e : int_eq m l ≡ true = int_eq-same m l same in rw e (read_same marks (code_of l) (code_of m) true false (ap code_of same) room))
    (λ (apart : m ≡ l → ⊥). let e : int_eq m l ≡ false = int_eq-other m l apart in rw e (read_other marks (code_of l) (code_of m) true false (λ same. apart (code_of-same m l same))))
    (cases_literal m l)

mark_unset : (marks : List Bool) (l m : ℤ) → code_of l < length marks → marked_in (slice_set marks (code_of l) false) m ≡ without_literal (marked_in marks) l m
unfolding marked_in
mark_unset marks l m room =
    ⊎_elim
    (λ (same : m ≡ l). let e : int_eq m l ≡ true = int_eq-same m l same in rw e (read_same marks (code_of l) (code_of m) false false (ap code_of same) room))
    (λ (apart : m ≡ l → ⊥). let e : int_eq m l ≡ false = int_eq-other m l apart in rw e (read_other marks (code_of l) (code_of m) false false (λ same. apart (code_of-same m l same))))
    (cases_literal m l)

-- So setting a mark adds a literal to the set, and clearing it removes it.
pub marked_in-set : (marks : List Bool) (l : ℤ) → code_of l < length marks → marked_in (slice_set marks (code_of l) true) ≡ with_literal (marked_in marks) l
marked_in-set marks l room = λ i m. mark_set marks l m room i

pub marked_in-unset : (marks : List Bool) (l : ℤ) → code_of l < length marks → marked_in (slice_set marks (code_of l) false) ≡ without_literal (marked_in marks) l
marked_in-unset marks l room = λ i m. mark_unset marks l m room i

-- in tables of defaults no literal is false, and none is marked
pub position_in-none : (n : ℕ) (l : ℤ) → position_in (replicate n 0) l ≡ 0
unfolding position_in
position_in-none n l = ⊎_elim (λ (within : code_of l < n). grind (arith, common_steps)) (λ (past : n ≤ code_of l). grind (arith, common_steps)) (cases_lt (code_of l) n)

pub marked_in-none : (n : ℕ) (l : ℤ) → marked_in (replicate n false) l ≡ false
unfolding marked_in
marked_in-none n l = ⊎_elim (λ (within : code_of l < n). grind (arith, common_steps)) (λ (past : n ≤ code_of l). grind (arith, common_steps)) (cases_lt (code_of l) n)
