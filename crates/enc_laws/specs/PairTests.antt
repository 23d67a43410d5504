-- The tests of pairs in the constraints, and what they mean for a chain's steps.
use Rattle.std.proofs.Common.{◌≡◌, ◌⊎◌, ℕ, ◌^◌, ◌<◌, ◌==◌, Bool, true, false, not, ◌&&◌, ◌||◌, List, [], length, refl, sym, ap, ◌∙◌, subst, arith, inl, inr, ⊎_elim}
use Rattle.std.specs.Prelude.{ℤ, if◌then◌else◌, nat_lt}
use Rattle.std.specs.List.{range_with_len}
use Rattle.std.proofs.lemmas.Bool.{and_from, and_parts, or_left, or_right, or_cases, eqb-true, eq-eqb, ltb-true, both_ways, not-true, not_from_false, false_from_ne_true}
use Rattle.chain_theory.specs.Chain.{Step}
use Rattle.chain_laws.specs.Keys.{ComesBefore}
use Rattle.chain_laws.specs.NormalForm.{Reads, ReadsWithout, IsReapplication}
use Rattle.sat_theory.specs.Formula.{Assignment}
use Rattle.chain_theory.specs.declared.data.Cell.{Cell}
use Rattle.chain_theory.specs.declared.data.Cell.TheVariants as cells
use Rattle.tt_core.specs.Symmetry.{IsSymmetric, exchanged}
use Rattle.tt_core.specs.Words.{Words, specification, cell_of}
use Rattle.clause_core.specs.declared.raw.RawLit.{RawLit}
use Rattle.enc_theory.specs.declared.data.Dimensions.{Dimensions}
use Rattle.enc_theory.specs.declared.data.Slot.{Slot}
use Rattle.enc_theory.specs.Pairs.{StepSlots}
use Rattle.enc_theory.specs.Families.{operator_raw}
use Rattle.enc_theory.specs.Cuts.{reads, larger, smaller, comes_before, is_reapplication, same_cell, same_at, same_output, may_exchange, reads_without}
use Rattle.enc_laws.specs.Bounds.{f_positive}
use Rattle.clause_core.specs.Holds.{all_get, all_make, holds, raws_bit, ArePositive, range_contains, range_inside}
use Rattle.enc_laws.specs.Layouts.{IsSlotOf}

-- ---- tests of pairs

-- two variables that are never both true
pub never_both : (a b : Bool) → (a ≡ true → b ≡ true → ⊥) → (not a || (not b || false)) ≡ true
never_both true true never = absurd (never refl refl)
never_both true false never = refl
never_both false b never = refl

-- clauses that are listed only under a condition
pub if_holds : (v : Assignment) (test : Bool) (clauses : List (List ℤ)) → (test ≡ true → holds v clauses ≡ true) → holds v (if test then clauses else []) ≡ true
unfolding holds
if_holds v true clauses all = all refl
if_holds v false clauses all = refl

-- a variable that implies a bit
pub one_implies : (a b : Bool) → (a ≡ true → b ≡ true) → (not a || (b || false)) ≡ true
one_implies true true e = refl
one_implies true false e = e refl
one_implies false b e = refl

-- bits that aren't 0 and 1 if a variable is true
pub no_copy_bits : (s low high : Bool) → (s ≡ true → low ≡ false → high ≡ true → ⊥) → (not s || (low || (not high || false))) ≡ true
no_copy_bits false low high never = refl
no_copy_bits true true high never = refl
no_copy_bits true false true never = absurd (never refl refl refl)
no_copy_bits true false false never = refl

pub operator_positive : (z : Dimensions) (i op : ℕ) → ArePositive (operator_raw z i op)
unfolding operator_raw
operator_positive z i op = (f_positive z i false false, (f_positive z i false true, (f_positive z i true false, (f_positive z i true true, tt))))

-- the pair of one slot comes before that of another
pub slots_before : (u v : Slot) → comes_before u v ≡ true → (larger u < larger v) ⊎ ((larger u ≡ larger v) × (smaller u < smaller v))
unfolding comes_before
slots_before u v e = ⊎_elim
    (λ (less : nat_lt (larger u) (larger v) ≡ true). inl (ltb-true (larger u) (larger v) less))
    (λ (both : (larger u == larger v && nat_lt (smaller u) (smaller v)) ≡ true).
    let (same_, less) = and_parts (larger u == larger v) (nat_lt (smaller u) (smaller v)) both in
    inr (eqb-true (larger u) (larger v) same_, ltb-true (smaller u) (smaller v) less))
    (or_cases (nat_lt (larger u) (larger v)) (larger u == larger v && nat_lt (smaller u) (smaller v)) e)

pub steps_before : (u v : Slot) (a b : Step) → u.j ≡ a.j → u.k ≡ a.k → v.j ≡ b.j → v.k ≡ b.k → comes_before u v ≡ true → ComesBefore a b
steps_before u v a b uj uk vj vk e = rw (uj, uk, vj, vk) at (slots_before u v e)

pub reads_from : (u : Slot) (a : Step) (p : ℕ) → u.j ≡ a.j → u.k ≡ a.k → reads u p ≡ true → Reads a p
reads_from u a p j k e = ⊎_elim
    (λ (first : (u.j == p) ≡ true). inl (sym j ∙ eqb-true u.j p first))
    (λ (second : (u.k == p) ≡ true). inr (sym k ∙ eqb-true u.k p second))
    (or_cases (u.j == p) (u.k == p) e)

pub reads_test : (u : Slot) (a : Step) (p : ℕ) → u.j ≡ a.j → u.k ≡ a.k → Reads a p → reads u p ≡ true
reads_test u a p j k (inl e) = or_left (u.j == p) (u.k == p) (eq-eqb u.j p (j ∙ e))
reads_test u a p j k (inr e) = or_right (u.j == p) (u.k == p) (eq-eqb u.k p (k ∙ e))

pub steps_again : (p : ℕ) (u v : Slot) (a b : Step) → u.j ≡ a.j → u.k ≡ a.k → v.j ≡ b.j → v.k ≡ b.k → is_reapplication p u v ≡ true → IsReapplication p a b
unfolding is_reapplication
steps_again p u v a b uj uk vj vk e = ⊎_elim
    (λ (first : (v.j == p && reads u v.k) ≡ true).
    let (here, other) = and_parts (v.j == p) (reads u v.k) first in
    inl (sym vj ∙ eqb-true v.j p here, subst (Reads a) vk (reads_from u a v.k uj uk other)))
    (λ (second : (v.k == p && reads u v.j) ≡ true).
    let (here, other) = and_parts (v.k == p) (reads u v.j) second in
    inr (sym vk ∙ eqb-true v.k p here, subst (Reads a) vj (reads_from u a v.j uj uk other)))
    (or_cases (v.j == p && reads u v.k) (v.k == p && reads u v.j) e)

-- ---- symmetric inputs

pub same_cells : (a b : Cell) → same_cell a b ≡ true → a ≡ b
same_cells cells.Zero cells.Zero e = refl
same_cells cells.Zero cells.One e = absurd cc
same_cells cells.Zero cells.Free e = absurd cc
same_cells cells.One cells.Zero e = absurd cc
same_cells cells.One cells.One e = refl
same_cells cells.One cells.Free e = absurd cc
same_cells cells.Free cells.Zero e = absurd cc
same_cells cells.Free cells.One e = absurd cc
same_cells cells.Free cells.Free e = refl

pub same_cell_refl : (a : Cell) → same_cell a a ≡ true
same_cell_refl cells.Zero = refl
same_cell_refl cells.One = refl
same_cell_refl cells.Free = refl

-- the test succeeds exactly if the tables are symmetric
pub exchange_symmetric : (w : Words) (p q : ℕ) → may_exchange w p q ≡ true → IsSymmetric (specification w) p q
unfolding may_exchange same_output same_at
exchange_symmetric w p q may = λ h some low t row.
    same_cells (cell_of w h (exchanged w.n p q t)) (cell_of w h t)
    (all_get (same_at w p q h) (range_with_len 0 (2 ^ w.n)) t
    (all_get (same_output w p q) (range_with_len 1 (length w.on)) h may
    (range_contains 1 (length w.on) h some (omega arith))) (range_contains 0 (2 ^ w.n) t (omega arith) (omega arith)))

pub symmetric_exchange : (w : Words) (p q : ℕ) → IsSymmetric (specification w) p q → may_exchange w p q ≡ true
unfolding may_exchange same_output same_at
symmetric_exchange w p q symmetric =
    all_make (same_output w p q) (range_with_len 1 (length w.on)) (λ h in_outputs. all_make (same_at w p q h) (range_with_len 0 (2 ^ w.n)) (λ t in_rows.
    let (some, low) = range_inside 1 (length w.on) h in_outputs in
    let (start, row) = range_inside 0 (2 ^ w.n) t in_rows in
    ap (λ (x : Cell). same_cell x (cell_of w h t)) (symmetric h some (omega arith) t (omega arith)) ∙ same_cell_refl (cell_of w h t)))

pub without_from : (u : Slot) (a : Step) (p q : ℕ) → u.j ≡ a.j → u.k ≡ a.k → reads_without p q u ≡ true → ReadsWithout a p q
without_from u a p q j k e =
    let (one, none) = and_parts (reads u p) (not (reads u q)) e in
    (reads_from u a p j k one, λ other. both_ways (reads u q) (not-true (reads u q) none) (reads_test u a q j k other))

pub without_test : (u : Slot) (a : Step) (p q : ℕ) → u.j ≡ a.j → u.k ≡ a.k → ReadsWithout a p q → reads_without p q u ≡ true
without_test u a p q j k (one, none) = and_from (reads u p) (not (reads u q)) (reads_test u a p j k one)
    (not_from_false (reads u q) (false_from_ne_true (reads u q) (λ e. none (reads_from u a q j k e))))

-- if a step before the place has a pair with p and not q, one of the literals is true
pub record HasBefore (steps : List StepSlots) (v : Assignment) (p q place : ℕ) (before : List RawLit) : Type 0 where
  pub each : (s : StepSlots) (u : Slot) → IsSlotOf steps s u → s.place < place → reads_without p q u ≡ true → v u.var ≡ true → raws_bit v before ≡ true

pub implies_bit : (a b : Bool) → (a ≡ true → b ≡ true) → (not a || b) ≡ true
implies_bit true b e = e refl
implies_bit false b e = refl
