-- The assignment of a chain that meets the exchange cut makes its clauses true, and they are clauses of a formula.
use Rattle.std.proofs.Common.{◌≡◌, ℕ, suc, ◌+◌, ◌-◌, ◌^◌, Bool, true, false, not, ◌&&◌}
use Rattle.std.proofs.Common.{List, [], ◌∷◌, ◌++◌, length, refl, sym, ap, ◌∙◌, subst, arith, ⊎_elim}
use Rattle.std.specs.List.{flat_map, range_with_len}
use Rattle.std.proofs.lemmas.Bool.{and_parts, or_cases, or_left, or_right}
use Rattle.chain_theory.specs.Chain.{Step, Chain}
use Rattle.chain_theory.specs.declared.data.Cell.{Cell}
use Rattle.op_basis.specs.Basis.{members}
use Rattle.op_basis.specs.Closed.{polarity_closed}
use Rattle.sat_theory.specs.Formula.{Formula, Assignment, Satisfies}
use Rattle.tt_core.specs.Words.{Words, specification, cell_of}
use Rattle.clause_core.specs.declared.raw.RawLit.{RawLit}
use Rattle.clause_core.specs.declared.raw.RawLit.TheVariants.{Var}
use Rattle.clause_core.specs.Clauses.{written}
use Rattle.clause_core.specs.Holds.{holds, holds_both, both_hold, each_holds, same, raw_value, raws_bit, holds-written, ArePositive, positive-append}
use Rattle.clause_core.specs.Holds.{contains_head, range_inside, range_contains, all_get, all_make, any_get, any_make, holds_satisfied, satisfied_holds}
use Rattle.clause_core.specs.WrittenLaws.{AreClauses, clauses_each}
use Rattle.enc_theory.specs.declared.data.Dimensions.{Dimensions}
use Rattle.enc_theory.specs.declared.data.Slot.{Slot}
use Rattle.enc_theory.specs.Numbering.{sizes_of}
use Rattle.enc_theory.specs.Pairs.{StepSlots}
use Rattle.enc_theory.specs.Cuts.{same_cell, may_exchange, reads_without, readers_without, exchange_slot, exchange_steps}
use Rattle.enc_laws.specs.Bounds.{slot_positive}
use Rattle.enc_laws.specs.Layouts.{IsStepPlace, IsSlotOf, IsLaid, laid_is_place}
use Rattle.enc_laws.specs.Complete.{step_at, assignment_of}
use Rattle.enc_laws.specs.Formulas.{HasRoom}
use Rattle.enc_laws.specs.CutClauses.{clauses_if, exchange_clauses}
use Rattle.enc_laws.specs.Rests.{IsRest, rest_all, rest_head, rest_tail, IsPlaced}
use Rattle.enc_laws.specs.PairTests.{if_holds, implies_bit, same_cells, same_cell_refl, without_from, without_test, HasBefore}
use Rattle.enc_laws.specs.Cuts.{is_step, step_slots, has_pair, pair_slot, without_positive, before_more}
use Rattle.npn_laws.specs.Exchange.{image, complemented_cell, IsKept, IsExchangeable}
use Rattle.npn_laws.specs.Least.{EarlierFirst, IsExchangeCut}
use Rattle.npn_strong.specs.Cut.{kept_at, kept_output, kept_outputs, kept_by, may_exchange_complemented, npn_pair, npn_with, npn_exchange, with_exchanges}

-- ---- the test

pub outputs_kept : (w : Words) (p q k : ℕ) (b : Bool) → kept_outputs w p q k b ≡ true → IsKept (specification w) p q k b
unfolding kept_outputs kept_output kept_at
outputs_kept w p q k b kept = λ h t some low row.
    same_cells (cell_of w h (image w.n p q k t)) (complemented_cell b (cell_of w h t))
    (all_get (kept_at w p q k b h) (range_with_len 0 (2 ^ w.n)) t
    (all_get (kept_output w p q k b) (range_with_len 1 (length w.on)) h kept
    (range_contains 1 (length w.on) h some (omega arith))) (range_contains 0 (2 ^ w.n) t (omega arith) (omega arith)))

pub kept_outputs_are : (w : Words) (p q k : ℕ) (b : Bool) → IsKept (specification w) p q k b → kept_outputs w p q k b ≡ true
unfolding kept_outputs kept_output kept_at
kept_outputs_are w p q k b kept =
    all_make (kept_output w p q k b) (range_with_len 1 (length w.on)) (λ h in_outputs. all_make (kept_at w p q k b h) (range_with_len 0 (2 ^ w.n)) (λ t in_rows.
    let (some, low) = range_inside 1 (length w.on) h in_outputs in
    let (start, row) = range_inside 0 (2 ^ w.n) t in_rows in
    ap (λ (x : Cell). same_cell x (complemented_cell b (cell_of w h t))) (kept h t some (omega arith) (omega arith))
    ∙ same_cell_refl (complemented_cell b (cell_of w h t))))

-- Inputs that pass it may be exchanged.
pub may_exchangeable : (w : Words) (p q : ℕ) → may_exchange_complemented w p q ≡ true → IsExchangeable (specification w) p q
unfolding may_exchange_complemented kept_by
may_exchangeable w p q may =
    let found = any_get (kept_by w p q) (range_with_len 0 (2 ^ w.n)) may in
    let k : ℕ = found.element in
    let row = range_inside 0 (2 ^ w.n) k found.inside in (
      k,
      omega (arith, row.1),
      ⊎_elim
          (λ (plain : kept_outputs w p q k false ≡ true). (false, outputs_kept w p q k false plain))
          (λ (other : kept_outputs w p q k true ≡ true). (true, outputs_kept w p q k true other))
          (or_cases (kept_outputs w p q k false) (kept_outputs w p q k true) found.passes),
    )

-- And only these do.
kept_by_one : (w : Words) (p q k : ℕ) (b : Bool) → IsKept (specification w) p q k b → kept_by w p q k ≡ true
unfolding kept_by
kept_by_one w p q k true kept = or_right (kept_outputs w p q k false) (kept_outputs w p q k true) (kept_outputs_are w p q k true kept)
kept_by_one w p q k false kept = or_left (kept_outputs w p q k false) (kept_outputs w p q k true) (kept_outputs_are w p q k false kept)

pub exchangeable_may : (w : Words) (p q : ℕ) → IsExchangeable (specification w) p q → may_exchange_complemented w p q ≡ true
unfolding may_exchange_complemented
exchangeable_may w p q may =
    any_make (kept_by w p q) (range_with_len 0 (2 ^ w.n)) may.0
    (range_contains 0 (2 ^ w.n) may.0 (omega arith) (omega (arith, may.1))) (kept_by_one w p q may.0 may.2.0 may.2.1)

-- ---- the clauses are true

module _ (w : Words) (basis r : ℕ) (steps : List StepSlots) (c : Chain) (placed : IsPlaced w basis r steps c)
    (p q : ℕ) (earlier : EarlierFirst c p q) where
  slot_holds : (before : List RawLit) (s : StepSlots) (u : Slot) → ArePositive before →
      HasBefore steps (assignment_of (sizes_of w r) steps c) p q s.place before → IsSlotOf steps s u →
      holds (assignment_of (sizes_of w r) steps c) (exchange_slot p q before u) ≡ true
  unfolding exchange_slot raws_bit raw_value same
  slot_holds before s u positive has slot =
      let v : Assignment = assignment_of (sizes_of w r) steps c in
      let at : IsStepPlace (sizes_of w r) s.place = laid_is_place (sizes_of w r) steps s placed.laid slot.step in
      let inputs = placed.is.agrees.inputs in
      let from = at.from in
      if_holds v (reads_without q p u) (written (Var u.var false ∷ before)) (λ test.
      holds-written v (Var u.var false ∷ before) (slot_positive (sizes_of w r) steps s u placed.laid slot, positive)
      ∙ implies_bit (v u.var) (raws_bit v before) (λ true_.
      let (j, k) = has_pair w basis r steps c placed s u slot true_ in
      let (i, a, low, at_i, without) = earlier (s.place - (c.n + 1)) (step_at c s.place) (is_step w basis r steps c placed s.place at)
      (without_from u (step_at c s.place) q p j k test) in
      let (s', in_steps, place, step) = step_slots w basis r steps c placed i a at_i in
      let (u', in_slots, j', k', true') = pair_slot w basis r steps c placed s' in_steps in
      has.each s' u' (record { step = in_steps; slot = in_slots }) (omega arith)
      (without_test u' a p q (j' ∙ ap (λ (x : Step). x.j) step) (k' ∙ ap (λ (x : Step). x.k) step) without) true'))

  steps_hold : (before : List RawLit) (later : List StepSlots) (place : ℕ) → ArePositive before →
      HasBefore steps (assignment_of (sizes_of w r) steps c) p q place before → IsRest steps later place →
      holds (assignment_of (sizes_of w r) steps c) (exchange_steps p q before later) ≡ true
  unfolding exchange_steps holds
  steps_hold before [] place positive has rest = refl
  steps_hold before (s ∷ later) place positive has rest =
      let v : Assignment = assignment_of (sizes_of w r) steps c in
      let in_steps = rest.inside s (contains_head s later) in
      let here = rest_head steps s later place rest in
      both_hold v (flat_map (exchange_slot p q before) s.slots) (exchange_steps p q (before ++ readers_without p q s) later)
      (each_holds v (exchange_slot p q before) s.slots (λ u in_slots.
      slot_holds before s u positive (subst (λ (x : ℕ). HasBefore steps v p q x before) (sym here) has) (record { step = in_steps; slot = in_slots })))
      (steps_hold (before ++ readers_without p q s) later (place + 1)
      (positive-append before (readers_without p q s) positive (without_positive w basis r steps c placed p q s in_steps))
      (before_more w basis r steps c placed p q place before s later rest has) (rest_tail steps s later place rest))

  pub pair_holds : holds (assignment_of (sizes_of w r) steps c) (exchange_steps p q [] steps) ≡ true
  pair_holds = steps_hold [] steps (w.n + 1) tt
      (record {
        each = λ s u slot low test true_. absurd (let at = laid_is_place (sizes_of w r) steps s placed.laid slot.step in let from =
            at.from in omega arith);
      })
      (rest_all (sizes_of w r) steps placed.laid)

-- A chain that meets the cut makes its clauses true.
pub npn_exchange_holds : (w : Words) (basis r : ℕ) (steps : List StepSlots) (c : Chain) → IsPlaced w basis r steps c →
    IsExchangeCut (members basis) (specification w) c → holds (assignment_of (sizes_of w r) steps c) (npn_exchange basis w steps) ≡ true
unfolding npn_exchange npn_with npn_pair
npn_exchange_holds w basis r steps c placed cut =
    let v : Assignment = assignment_of (sizes_of w r) steps c in
    let inputs = placed.is.agrees.inputs in
    if_holds v (polarity_closed (members basis)) (flat_map (npn_with w steps) (range_with_len 1 w.n)) (λ closed.
    each_holds v (npn_with w steps) (range_with_len 1 w.n) (λ p in_inputs.
    each_holds v (npn_pair w steps p) (range_with_len (suc p) (w.n - p)) (λ q in_later.
    let (some, p_low) = range_inside 1 w.n p in_inputs in
    let (less, q_low) = range_inside (suc p) (w.n - p) q in_later in
    if_holds v (may_exchange_complemented w p q && not (may_exchange w p q)) (exchange_steps p q [] steps) (λ test.
    pair_holds w basis r steps c placed p q
    (cut closed p q some (omega arith) (omega arith) (may_exchangeable w p q
    (and_parts (may_exchange_complemented w p q) (not (may_exchange w p q)) test).0))))))

-- ---- they are clauses

pub npn_exchange_clauses : (vars basis : ℕ) (w : Words) (z : Dimensions) (steps : List StepSlots) → HasRoom vars z steps → IsLaid z steps →
    AreClauses vars (npn_exchange basis w steps)
unfolding npn_exchange npn_with npn_pair
npn_exchange_clauses vars basis w z steps room laid =
    clauses_if vars (polarity_closed (members basis)) (flat_map (npn_with w steps) (range_with_len 1 w.n))
    (clauses_each vars (npn_with w steps) (range_with_len 1 w.n) (λ p in_inputs.
    clauses_each vars (npn_pair w steps p) (range_with_len (suc p) (w.n - p)) (λ q in_later.
    clauses_if vars (may_exchange_complemented w p q && not (may_exchange w p q)) (exchange_steps p q [] steps)
    (exchange_clauses vars basis w z steps room laid p q [] steps tt (λ s inside. inside)))))

-- ---- what satisfies the formula with them satisfies the formula

pub exchanges_have : (w : Words) (basis : ℕ) (steps : List StepSlots) (f : Formula) (v : Assignment) → Satisfies v (with_exchanges w basis steps f) →
    Satisfies v f
unfolding with_exchanges
exchanges_have w basis steps f v satisfies =
    satisfied_holds v f (holds_both v f.clauses (npn_exchange basis w steps) (holds_satisfied v (with_exchanges w basis steps f) satisfies)).0
