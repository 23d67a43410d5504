-- The assignment of every chain that implements the tables and has its pairs, extended by which of its steps differ on
-- each edge, makes the further clauses true: nothing is asked of the chain or the basis.
use Rattle.std.proofs.Common.{◌≡◌, ℕ, suc, ◌+◌, ◌*◌, ◌<◌, ◌≤◌, true, List, [], ◌∷◌, ◌++◌, length, get_or, Contains, refl, sym, ap, ◌∙◌, subst, arith, add-zero}
use Rattle.chain_theory.specs.Chain.{Chain}
use Rattle.sat_theory.specs.Formula.{Formula, Assignment, Satisfies}
use Rattle.tt_core.specs.Words.{Words}
use Rattle.clause_core.specs.Holds.{holds, holds_both, both_hold, contains_head, contains_tail, holds_satisfied, satisfied_holds}
use Rattle.clause_core.specs.WrittenLaws.{AreClauses}
use Rattle.enc_theory.specs.declared.data.Dimensions.{Dimensions}
use Rattle.enc_theory.specs.Numbering.{sizes_of, x_var, g_var, f_var}
use Rattle.enc_theory.specs.Pairs.{StepSlots}
use Rattle.enc_laws.specs.Bounds.{x_below, g_below, f_below}
use Rattle.enc_laws.specs.Layouts.{IsStepPlace}
use Rattle.enc_laws.specs.Complete.{assignment_of, HasStepOuts, IsOfChain, of_pairs, bits_are}
use Rattle.enc_laws.specs.Formulas.{HasRoom}
use Rattle.enc_laws.specs.Rests.{IsPlaced}
use Rattle.enc_laws.specs.Cuts.{has_pair, pair_slot}
use Rattle.strong_theory.specs.declared.data.Edge.{Edge}
use Rattle.strong_theory.specs.Edges.{edge, edges}
use Rattle.strong_theory.specs.Strong.{one_pair, d_var, edge_steps, differences, strengthened}
use Rattle.strong_laws.specs.Extended.{extended_by, extended_old, extended_new, holds_kept}
use Rattle.strong_laws.specs.EdgeLaws.{edges_are}
use Rattle.strong_laws.specs.Bits.{differs_on, edge_of, difference_bits, difference_bit}
use Rattle.strong_laws.specs.Said.{Says, one_pair_holds}
use Rattle.strong_laws.specs.OneEdge.{d_above, edge_holds}

-- the assignment of a chain, extended by which steps differ
abbrev pub strong_bits : Words → ℕ → List StepSlots → Chain → ℕ → Assignment
strong_bits w r steps c vars = extended_by vars (assignment_of (sizes_of w r) steps c) (difference_bits (sizes_of w r) c vars (edges w))

module _ (w : Words) (basis r : ℕ) (steps : List StepSlots) (c : Chain) (placed : IsPlaced w basis r steps c)
    (outs : HasStepOuts c (length w.on)) (vars : ℕ) (room : HasRoom vars (sizes_of w r) steps) where
  bits_old : (x : ℕ) → x ≤ vars → strong_bits w r steps c vars x ≡ assignment_of (sizes_of w r) steps c x
  bits_old x low = extended_old vars (assignment_of (sizes_of w r) steps c) (difference_bits (sizes_of w r) c vars (edges w)) x low

  d_bit : (k i : ℕ) → IsStepPlace (sizes_of w r) i → strong_bits w r steps c vars (d_var (sizes_of w r) (vars + k * r) i) ≡ differs_on c (edge_of (edges w) k) i
  d_bit k i is =
      extended_new vars (assignment_of (sizes_of w r) steps c) (difference_bits (sizes_of w r) c vars (edges w)) (d_var (sizes_of w r) (vars + k * r) i)
      (omega (arith, d_above (sizes_of w r) (vars + k * r) i is))
      ∙ difference_bit (sizes_of w r) c vars (edges w) k i is

  of_strong : IsOfChain w r c (strong_bits w r steps c vars)
  of_strong = record {
    values = λ i t is row. let common = room.common in
        bits_old (x_var (sizes_of w r) i t) (omega (arith, x_below (sizes_of w r) i t is row)) ∙ (of_pairs w basis r steps c).values i t is row;
    outs = λ h i some low is. let common = room.common in
        bits_old (g_var (sizes_of w r) h i) (omega (arith, g_below (sizes_of w r) h i some low is)) ∙ (of_pairs w basis r steps c).outs h i some low is;
    operators = λ i b b' is. let common = room.common in
        bits_old (f_var (sizes_of w r) i b b') (omega (arith, f_below (sizes_of w r) i b b' is)) ∙ (of_pairs w basis r steps c).operators i b b' is;
  }

  says : Says w r steps c (strong_bits w r steps c vars)
  says = record {
    bits = λ p t low row. bits_are w basis r c (strong_bits w r steps c vars) of_strong placed.is p t low row;
    pairs = λ s u slot true_. has_pair w basis r steps c placed s u slot (sym (bits_old u.var (room.slots s u slot)) ∙ true_);
    has = λ s in_steps.
        let (u, in_slots, j, k, true_) = pair_slot w basis r steps c placed s in_steps in
        (u, in_slots, j, k, bits_old u.var (room.slots s u (record { step = in_steps; slot = in_slots })) ∙ true_);
    positive = room.positive;
  }

  -- the edges from number k on
  differences_hold : (k : ℕ) (rest : List Edge) → ((m : ℕ) → m < length rest → get_or rest m (edge 0 0 0) ≡ edge_of (edges w) (k + m)) →
      ((e : Edge) → Contains rest e → Contains (edges w) e) → holds (strong_bits w r steps c vars) (differences (sizes_of w r) steps (vars + k * r) rest) ≡ true
  unfolding differences holds
  differences_hold k [] numbers inside = refl
  differences_hold k (e ∷ rest) numbers inside =
      let own : e ≡ edge_of (edges w) k = numbers 0 (omega arith) ∙ ap (edge_of (edges w)) (let n : k + 0 ≡ k = add-zero k in n) in
      let next : vars + k * r + r ≡ vars + suc k * r = omega arith in
      both_hold (strong_bits w r steps c vars) (edge_steps (sizes_of w r) steps e (vars + k * r)) (differences (sizes_of w r) steps (vars + k * r + r) rest)
      (edge_holds w basis r steps c (strong_bits w r steps c vars) placed outs says e (vars + k * r) (edges_are w e (inside e (contains_head e rest)))
      (λ i is. d_bit k i is ∙ ap (λ (x : Edge). differs_on c x i) (sym own)))
      (rw next (differences_hold (suc k) rest
      (λ m low. numbers (suc m) (omega arith) ∙ ap (edge_of (edges w)) (let n : k + suc m ≡ suc k + m = omega arith in n))
      (λ x d. inside x (contains_tail e x rest d))))

-- The clauses of the formula stay true, and the further ones are.
pub strengthened_holds : (w : Words) (basis r : ℕ) (steps : List StepSlots) (c : Chain) (f : Formula) → IsPlaced w basis r steps c → HasStepOuts c (length w.on) →
    HasRoom f.vars (sizes_of w r) steps → AreClauses f.vars f.clauses → holds (assignment_of (sizes_of w r) steps c) f.clauses ≡ true →
    Satisfies (strong_bits w r steps c f.vars) (strengthened w (sizes_of w r) steps f)
unfolding strengthened
strengthened_holds w basis r steps c f placed outs room are all =
    let v : Assignment = strong_bits w r steps c f.vars in
    let none : f.vars + 0 * r ≡ f.vars = omega arith in
    satisfied_holds v (strengthened w (sizes_of w r) steps f)
    (both_hold v f.clauses (one_pair steps ++ differences (sizes_of w r) steps f.vars (edges w))
    (holds_kept (assignment_of (sizes_of w r) steps c) v f.vars (λ x low. sym (bits_old w basis r steps c placed outs f.vars room x low)) f.clauses are all)
    (both_hold v (one_pair steps) (differences (sizes_of w r) steps f.vars (edges w))
    (one_pair_holds w r steps c v (says w basis r steps c placed outs f.vars room))
    (subst (λ (before : ℕ). holds v (differences (sizes_of w r) steps before (edges w)) ≡ true) none
    (differences_hold w basis r steps c placed outs f.vars room 0 (edges w) (λ m low. ap (edge_of (edges w)) (let n : m ≡ 0 + m = omega arith in n)) (λ e inside. inside)))))

-- An assignment that satisfies the strengthened formula satisfies the formula.
pub strengthened_has : (w : Words) (z : Dimensions) (steps : List StepSlots) (f : Formula) (v : Assignment) → Satisfies v (strengthened w z steps f) → Satisfies v f
unfolding strengthened
strengthened_has w z steps f v satisfies =
    let (first, more) = holds_both v f.clauses (one_pair steps ++ differences z steps f.vars (edges w)) (holds_satisfied v (strengthened w z steps f) satisfies) in
    satisfied_holds v f first
