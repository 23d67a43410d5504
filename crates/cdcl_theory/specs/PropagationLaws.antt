-- Closed states: which clauses no live clause subsumes, and what keeps a state closed.
use Rattle.std.specs.Prelude.{◌≡◌, ℕ, ◌<◌, ◌≤◌, ◌⊎◌, ℤ, List, Contains, All, Option, Some, ◌==◌, Bool, true, false, if◌then◌else◌}
use Rattle.std.proofs.Common.{sym, ◌∙◌, subst, arith, inl, inr}
use Rattle.std.proofs.Math.Logic.{⊎_elim}
use Rattle.std.proofs.lemmas.List.Elements.{All-contains, All-weaker}
use Rattle.sat_theory.specs.Formula.{opposite}
use Rattle.sat_theory.specs.Log.{IsUnsubsumed}
use Rattle.sat_theory.specs.State.{with_clause}
use Rattle.cdcl_theory.specs.Propagation.{IsFalsifiedUpTo, HasNoValue, IsClosed, IsUnitUnder, Implies, SameFalsified, AllSettled}

-- No live clause subsumes a clause that is unit in a closed state, however it was found: a live clause that
-- does would be unit or falsified there too.
pub unit_is_unsubsumed : (live : ℕ → Option (List ℤ)) (falsified_at : ℤ → ℕ) (p : ℕ) (lits : List ℤ) (u : ℤ) → IsClosed live falsified_at p → IsUnitUnder falsified_at p lits u → IsUnsubsumed live lits
unit_is_unsubsumed live falsified_at p lits u closed unit id clause is inside =
    closed.excludes u unit.free id clause is (λ k d within. All-contains (λ l. (l ≡ u) ⊎ IsFalsifiedUpTo falsified_at p l) lits _ unit.others (inside k d within))

pub same_trans : (n : ℕ) (f g h : ℤ → ℕ) → SameFalsified n f g → SameFalsified n g h → SameFalsified n f h
same_trans n f g h a b = record {
  there = λ p l low is. b.there p l low (a.there p l low is);
  back = λ p l low is. a.back p l low (b.back p l low is);
}

pub same_less : (m n : ℕ) (f g : ℤ → ℕ) → m ≤ n → SameFalsified n f g → SameFalsified m f g
same_less m n f g less same = record {
  there = λ p l low is. same.there p l (omega arith) is;
  back = λ p l low is. same.back p l (omega arith) is;
}

pub same_self : (n : ℕ) (f : ℤ → ℕ) → SameFalsified n f f
same_self n f = record { there = λ p l low is. is; back = λ p l low is. is }

pub free_back : (n p : ℕ) (f g : ℤ → ℕ) (u : ℤ) → SameFalsified n f g → p ≤ n → HasNoValue g p u → HasNoValue f p u
free_back n p f g u same low free = record {
  not_false = λ is. free.not_false (same.there p u low is);
  not_true = λ is. free.not_true (same.there p (opposite u) low is);
}

all_moved : (clause : List ℤ) (u : ℤ) (P Q : ℤ → Type 0) → ((l : ℤ) → P l → Q l) → All (λ l. (l ≡ u) ⊎ P l) clause → All (λ l. (l ≡ u) ⊎ Q l) clause
all_moved clause u P Q move all = All-weaker (λ l. (l ≡ u) ⊎ P l) (λ l. (l ≡ u) ⊎ Q l) (λ l. ⊎_elim (λ (same : l ≡ u). inl same) (λ (is : P l). inr (move l is))) clause all

-- closed states stay closed, and reasons stay reasons
pub closed_kept : (live : ℕ → Option (List ℤ)) (n p : ℕ) (f g : ℤ → ℕ) → SameFalsified n f g → p ≤ n → IsClosed live f p → IsClosed live g p
closed_kept live n p f g same low closed = record {
  excludes = λ u free id clause is all. closed.excludes u (free_back n p f g u same low free) id clause is
      (all_moved clause u (IsFalsifiedUpTo g p) (IsFalsifiedUpTo f p) (λ l h. same.back p l low h) all);
}

pub implies_kept : (live : ℕ → Option (List ℤ)) (n p : ℕ) (f g : ℤ → ℕ) (l : ℤ) (id : ℕ) → SameFalsified n f g → p ≤ n → Implies live f p l id → Implies live g p l id
implies_kept live n p f g l id same low implies = record {
  clause = implies.clause;
  is_live = implies.is_live;
  there = implies.there;
  others = all_moved implies.clause l (IsFalsifiedUpTo f p) (IsFalsifiedUpTo g p) (λ m h. same.there p m low h) implies.others;
}

-- a state stays closed with fewer live clauses, and with further ones that are neither unit nor falsified
pub closed_less : (live less : ℕ → Option (List ℤ)) (falsified_at : ℤ → ℕ) (p : ℕ) →
    ((id : ℕ) (clause : List ℤ) → less id ≡ Some clause → live id ≡ Some clause) → IsClosed live falsified_at p →
    IsClosed less falsified_at p
closed_less live less falsified_at p inside closed = record { excludes = λ u free id clause is all. closed.excludes u free id clause (inside id clause is) all }

chosen : {A : Type 0} (b : Bool) (x y z : A) → (if b then x else y) ≡ z → (x ≡ z) ⊎ (y ≡ z)
chosen true x y z is = inl is
chosen false x y z is = inr is

-- Adding a clause with two literals that aren't false keeps a state closed.
pub closed_added : (live : ℕ → Option (List ℤ)) (falsified_at : ℤ → ℕ) (p id : ℕ) (lits : List ℤ) (a b : ℤ) →
    Contains lits a → Contains lits b → (a ≡ b → ⊥) → (IsFalsifiedUpTo falsified_at p a → ⊥) →
    (IsFalsifiedUpTo falsified_at p b → ⊥) → IsClosed live falsified_at p →
    IsClosed (with_clause live id lits) falsified_at p
closed_added live falsified_at p id lits a b a_in b_in differ a_up b_up closed = record {
  excludes = λ u free k clause is all.
      ⊎_elim
      (λ (new : Some lits ≡ Some clause). let same : lits ≡ clause = cc in both_out u (subst (λ (c : List ℤ). All (λ l. (l ≡ u) ⊎ IsFalsifiedUpTo falsified_at p l) c) (sym same) all))
      (λ (old : live k ≡ Some clause). closed.excludes u free k clause old all)
      (chosen (k == id) (Some lits) (live k) (Some clause) is);
}
  where
    both_out : (u : ℤ) → All (λ l. (l ≡ u) ⊎ IsFalsifiedUpTo falsified_at p l) lits → ⊥
    both_out u all =
        ⊎_elim
        (λ (at_a : a ≡ u). ⊎_elim (λ (at_b : b ≡ u). differ (at_a ∙ sym at_b))
        (λ (down : IsFalsifiedUpTo falsified_at p b). b_up down) (All-contains (λ l. (l ≡ u) ⊎
        IsFalsifiedUpTo falsified_at p l) lits b all b_in))
        (λ (down : IsFalsifiedUpTo falsified_at p a). a_up down)
        (All-contains (λ l. (l ≡ u) ⊎ IsFalsifiedUpTo falsified_at p l) lits a all a_in)

-- a reason stays a reason when clauses are added
pub implies_more : (live more : ℕ → Option (List ℤ)) (falsified_at : ℤ → ℕ) (p : ℕ) (l : ℤ) (id : ℕ) →
    ((k : ℕ) (clause : List ℤ) → live k ≡ Some clause → more k ≡ Some clause) → Implies live falsified_at p l id →
    Implies more falsified_at p l id
implies_more live more falsified_at p l id inside implies = record {
  clause = implies.clause;
  is_live = inside id implies.clause implies.is_live;
  there = implies.there;
  others = implies.others;
}

-- If all clauses are settled, the state of all assignments is closed.
pub settled_closed : (live : ℕ → Option (List ℤ)) (falsified_at : ℤ → ℕ) (n : ℕ) → ((l : ℤ) → falsified_at l ≤ n) → AllSettled live falsified_at → IsClosed live falsified_at n
settled_closed live falsified_at n within settled = record {
  excludes = λ u free id clause is all.
      (settled.each id clause is).not_unit u (none u free.not_false) (none (opposite u) free.not_true) (all_moved clause u (IsFalsifiedUpTo falsified_at n) (λ l. 0 < falsified_at l) (λ l h. h.0) all);
}
  where
    none : (l : ℤ) → (IsFalsifiedUpTo falsified_at n l → ⊥) → falsified_at l ≡ 0
    none l up = ⊎_elim (λ (zero_ : falsified_at l ≡ 0). zero_) (λ (some : 0 < falsified_at l). absurd (up (some, within l))) (let c : (falsified_at l ≡ 0) ⊎ (0 < falsified_at l) = grind arith in c)
