-- A chain in normal form satisfies the symmetry-breaking constraints.
use Rattle.std.proofs.Common.{◌≡◌, ℕ, suc, ◌+◌, ◌-◌, ◌<◌, ◌≤◌, ◌==◌, Bool, true, false, not, List, [], ◌∷◌, ◌++◌, length, map, get_or, Contains, refl, sym, ap, ◌∙◌, subst, arith, inl, inr, ⊎_elim}
use Rattle.std.specs.Prelude.{if◌then◌else◌}
use Rattle.std.specs.List.{flat_map, range_with_len}
use Rattle.std.proofs.lemmas.Bool.{cases_eq, or_left, or_right, eqb-true, eq-eqb, cases_lt}
use Rattle.std.proofs.lemmas.Option.{slice_get-get_or, slice_get_within, get_or_from_slice_get}
use Rattle.std.proofs.lemmas.List.Elements.{Contains-get_or}
use Rattle.chain_theory.specs.Chain.{Step, Chain}
use Rattle.op_basis.specs.Basis.{members}
use Rattle.op_basis.specs.Closed.{const_closed, reapply_closed}
use Rattle.chain_laws.specs.NormalForm.{IsStep, IsOut, IsRead, Reads, IsReapplication, IsNormalForm, NegatesBoth, IsNegation}
use Rattle.sat_theory.specs.Formula.{Assignment}
use Rattle.tt_core.specs.Symmetry.{IsSymmetric}
use Rattle.tt_core.specs.Words.{Words, specification}
use Rattle.clause_core.specs.declared.raw.RawLit.{RawLit}
use Rattle.clause_core.specs.declared.raw.RawLit.TheVariants.{Var}
use Rattle.enc_theory.specs.declared.data.Dimensions.{Dimensions}
use Rattle.enc_theory.specs.declared.data.Slot.{Slot}
use Rattle.clause_core.specs.Clauses.{written}
use Rattle.enc_theory.specs.Numbering.{sizes_of, outputs, f_var}
use Rattle.enc_theory.specs.Pairs.{StepSlots}
use Rattle.enc_theory.specs.Families.{chosen, operator_raw}
use Rattle.enc_theory.specs.Cuts.{drives, reads, reader, readers, used_by, used, not_idle, equal_raw, equal_slot}
use Rattle.enc_theory.specs.Cuts.{equal_pair, negation_raw, negations, not_trivial_at, not_trivial, comes_before}
use Rattle.enc_theory.specs.Cuts.{not_both, order_pair, order_slot, order_with, order, is_reapplication}
use Rattle.enc_theory.specs.Cuts.{no_reapplication_pair, no_reapplication_slot, has_place, reading}
use Rattle.enc_theory.specs.Cuts.{no_reapplication_later, no_reapplication_all, no_reapplication, may_exchange}
use Rattle.enc_theory.specs.Cuts.{reads_without, reader_without, readers_without, exchange_slot, exchange_steps}
use Rattle.enc_theory.specs.Cuts.{exchange_pair, exchange_with, exchange, row_0, cuts}
use Rattle.enc_laws.specs.Bounds.{f_positive, slot_positive}
use Rattle.clause_core.specs.Holds.{holds, both_hold, each_holds, same, raw_value, raws_bit, raws_bit-append, raws_make}
use Rattle.clause_core.specs.Holds.{holds-written, ArePositive, positive-append, positive-flat_map, contains_head}
use Rattle.clause_core.specs.Holds.{contains_cases, filter_get, flat_map_make, range_inside}
use Rattle.enc_laws.specs.Layouts.{IsStepPlace, IsSlotOf, laid_is_place}
use Rattle.enc_laws.specs.Solves.{differs_from}
use Rattle.enc_laws.specs.Complete.{step_at, assignment_of, pair_test, test_pair, slot_true, true_slot, IsOfChain, of_pairs, v_s, step_there, operator_is}
use Rattle.enc_laws.specs.OwnCuts.{step_index, drives_positive, drives_bit, idle_holds, row_0_holds}
use Rattle.enc_laws.specs.Rests.{IsRest, rest_all, rest_head, rest_tail, rest_place, IsPlaced}
use Rattle.enc_laws.specs.PairTests.{never_both, if_holds, one_implies, no_copy_bits, operator_positive, steps_before}
use Rattle.enc_laws.specs.PairTests.{reads_test, steps_again, exchange_symmetric, without_from, without_test, HasBefore}
use Rattle.enc_laws.specs.PairTests.{implies_bit}

module _ (w : Words) (basis r : ℕ) (steps : List StepSlots) (c : Chain) (placed : IsPlaced w basis r steps c) where
  -- a step of the layout is a step of the chain
  pub is_step : (i : ℕ) → IsStepPlace (sizes_of w r) i → IsStep c (i - (c.n + 1)) (step_at c i)
  is_step i place = step_there w basis r c placed.is i place

  index_place : (i : ℕ) → IsStepPlace (sizes_of w r) i → c.n + 1 + (i - (c.n + 1)) ≡ i
  index_place i place = step_index w basis r c placed.is i place

  of_pairs' : IsOfChain w r c (assignment_of (sizes_of w r) steps c)
  of_pairs' = of_pairs w basis r steps c

  -- and each step of the chain is one of the layout
  pub step_slots : (k : ℕ) (a : Step) → IsStep c k a → (s : StepSlots) × Contains steps s × (s.place ≡ c.n + 1 + k) × (step_at c s.place ≡ a)
  step_slots k a at =
      let low = slice_get_within c.steps k a at in
      let size = placed.is.size in
      let count = placed.laid.count in
      let inputs = placed.is.agrees.inputs in
      let none : StepSlots = record { place = 0; slots = [] } in
      let within : k < length steps = omega arith in
      let place = placed.laid.places k (get_or steps k (record { place = 0; slots = [] })) (slice_get-get_or steps k (record { place = 0; slots = [] }) within) in
      let index : (get_or steps k (record { place = 0; slots = [] })).place - (c.n + 1) ≡ k = omega arith in (
        get_or steps k (record { place = 0; slots = [] }),
        Contains-get_or steps k (record { place = 0; slots = [] }) within,
        omega arith,
        ap (λ (i : ℕ). get_or c.steps i (record { j = 1; k = 1; op = 0 })) index ∙ get_or_from_slice_get c.steps k a (record { j = 1; k = 1; op = 0 }) at,
      )

  -- a selection variable is true exactly if the slot has its step's pair
  pub has_pair : (s : StepSlots) (u : Slot) → IsSlotOf steps s u → assignment_of (sizes_of w r) steps c u.var ≡ true → (u.j ≡ (step_at c s.place).j) × (u.k ≡ (step_at c s.place).k)
  has_pair s u slot true_ = pair_test (step_at c s.place) u (true_slot steps c s u placed.pairs slot (sym (v_s w basis r steps c u.var (placed.laid.bits_after s u slot)) ∙ true_))

  pub pair_slot : (s : StepSlots) → Contains steps s → (u : Slot) × Contains s.slots u ×
      (u.j ≡ (step_at c s.place).j) × (u.k ≡ (step_at c s.place).k) × (assignment_of (sizes_of w r) steps c u.var ≡ true)
  pair_slot s in_steps =
      let has = placed.pairs.has s in_steps in
      let slot : IsSlotOf steps s has.slot = record { step = in_steps; slot = has.inside } in (
        has.slot,
        has.inside,
        has.is_j,
        has.is_k,
        v_s w basis r steps c has.slot.var (placed.laid.bits_after s has.slot slot)
            ∙ slot_true steps c s has.slot slot (test_pair (step_at c s.place) has.slot has.is_j has.is_k),
      )

  -- ---- all steps used

  reader_there : (p : ℕ) (u : Slot) → reads u p ≡ true → Contains (reader p u) (chosen u)
  unfolding reader
  reader_there p u e = rw e (contains_head (chosen u) [])

  readers_there : (p : ℕ) (later : List StepSlots) (s : StepSlots) (u : Slot) → Contains later s → Contains s.slots u → reads u p ≡ true → Contains (flat_map (readers p) later) (chosen u)
  unfolding readers
  readers_there p later s u in_later in_slots e = flat_map_make (readers p) later s (chosen u) in_later (flat_map_make (reader p) s.slots u (chosen u) in_slots (reader_there p u e))

  reader_positive : (p : ℕ) (s : StepSlots) (u : Slot) → IsSlotOf steps s u → ArePositive (reader p u)
  unfolding reader chosen
  reader_positive p s u slot = elim (reads u p) as (λ b. ArePositive (if b then Var u.var true ∷ [] else [])) [
    | true ↦ (slot_positive (sizes_of w r) steps s u placed.laid slot, tt)
    | false ↦ tt
  ]

  readers_positive : (p : ℕ) (later : List StepSlots) → ((s : StepSlots) → Contains later s → Contains steps s) → ArePositive (flat_map (readers p) later)
  unfolding readers
  readers_positive p later inside = positive-flat_map (readers p) later (λ s in_later.
      positive-flat_map (reader p) s.slots (λ u in_slots. reader_positive p s u record {
        step = inside s in_later;
        slot = in_slots;
      }))

  -- a step reads only lower places
  reads_below : (k : ℕ) (a : Step) (p : ℕ) → IsStep c k a → Reads a p → p < c.n + 1 + k
  reads_below k a p at (inl e) = let below = placed.is.is_chain.steps.each k a at in let j = below.j_below in omega arith
  reads_below k a p at (inr e) = let below = placed.is.is_chain.steps.each k a at in let k' = below.k_below in omega arith

  read_bit : (i : ℕ) (later : List StepSlots) → IsRest steps later (i + 1) → IsRead c i → raws_bit (assignment_of (sizes_of w r) steps c) (flat_map (readers i) later) ≡ true
  unfolding chosen raw_value same
  read_bit i later rest (k, a, at, reads_it) =
      let (s, in_steps, place, step) = step_slots k a at in
      let (u, in_slots, j, k', true_) = pair_slot s in_steps in
      let below = reads_below k a i at reads_it in
      raws_make (assignment_of (sizes_of w r) steps c) (flat_map (readers i) later) (chosen u)
      (readers_there i later s u (rest.has s in_steps (omega arith)) in_slots (reads_test u a i (j ∙ ap (λ (x : Step). x.j) step) (k' ∙ ap (λ (x : Step). x.k) step) reads_it))
      true_

  used_each : (normal_form : IsNormalForm (members basis) (specification w) c) (later : List StepSlots) (place : ℕ) →
      IsRest steps later place → holds (assignment_of (sizes_of w r) steps c) (used (sizes_of w r) later) ≡ true
  unfolding used used_by holds
  used_each normal_form [] place rest = refl
  used_each normal_form (s ∷ later) place rest =
      let v : Assignment = assignment_of (sizes_of w r) steps c in
      let at : IsStepPlace (sizes_of w r) s.place = laid_is_place (sizes_of w r) steps s placed.laid (rest.inside s (contains_head s later)) in
      let tail : IsRest steps later (s.place + 1) = subst (λ (x : ℕ). IsRest steps later (x + 1)) (sym (rest_head steps s later place rest)) (rest_tail steps s later place rest) in
      let outs : List RawLit = map (drives (sizes_of w r) s.place) (outputs (sizes_of w r)) in
      let reads : List RawLit = flat_map (readers s.place) later in
      both_hold v (written (outs ++ reads)) (used (sizes_of w r) later)
      (holds-written v (outs ++ reads) (positive-append outs reads (drives_positive (sizes_of w r) s.place at) (readers_positive s.place later tail.inside))
      ∙ raws_bit-append v outs reads
      ∙ ⊎_elim (λ (out : IsOut c (c.n + 1 + (s.place - (c.n + 1)))). or_left (raws_bit v outs) (raws_bit v reads)
      (drives_bit w basis r c v of_pairs' placed.is s.place at (subst (IsOut c) (index_place s.place at) out)))
      (λ (read : IsRead c (c.n + 1 + (s.place - (c.n + 1)))). or_right (raws_bit v outs) (raws_bit v reads) (read_bit s.place later tail (subst (IsRead c) (index_place s.place at) read)))
      (normal_form.used (s.place - (c.n + 1)) (step_at c s.place) (is_step s.place at)))
      (used_each normal_form later (place + 1) (rest_tail steps s later place rest))

  pub used_holds : IsNormalForm (members basis) (specification w) c → holds (assignment_of (sizes_of w r) steps c) (used (sizes_of w r) steps) ≡ true
  used_holds normal_form = used_each normal_form steps (w.n + 1) (rest_all (sizes_of w r) steps placed.laid)

  -- ---- co-lexicographic order: pairs never decrease

  not_both_holds : (s s' : StepSlots) (u u' : Slot) → IsSlotOf steps s u → IsSlotOf steps s' u'
      → (assignment_of (sizes_of w r) steps c u.var ≡ true → assignment_of (sizes_of w r) steps c u'.var ≡ true → ⊥) → holds (assignment_of (sizes_of w r) steps c) (not_both u u') ≡ true
  unfolding not_both raws_bit raw_value same
  not_both_holds s s' u u' slot slot' never =
      let v : Assignment = assignment_of (sizes_of w r) steps c in
      holds-written v (Var u.var false ∷ Var u'.var false ∷ []) (slot_positive (sizes_of w r) steps s u placed.laid slot, (slot_positive (sizes_of w r) steps s' u' placed.laid slot', tt))
      ∙ never_both (v u.var) (v u'.var) never

  order_pair_holds : (normal_form : IsNormalForm (members basis) (specification w) c) (s s' : StepSlots)
      (u u' : Slot) → s'.place ≡ s.place + 1 → IsSlotOf steps s u → IsSlotOf steps s' u' →
      holds (assignment_of (sizes_of w r) steps c) (order_pair u u') ≡ true
  unfolding order_pair holds
  order_pair_holds normal_form s s' u u' next slot slot' =
      if_holds (assignment_of (sizes_of w r) steps c) (comes_before u' u) (not_both u u') (λ before.
      not_both_holds s s' u u' slot slot' (λ true_ true'.
      let at : IsStepPlace (sizes_of w r) s.place = laid_is_place (sizes_of w r) steps s placed.laid slot.step in
      let at' : IsStepPlace (sizes_of w r) s'.place = laid_is_place (sizes_of w r) steps s' placed.laid slot'.step in
      let (j, k) = has_pair s u slot true_ in
      let (j', k') = has_pair s' u' slot' true' in
      let from = at.from in
      let inputs = placed.is.agrees.inputs in
      let index : s'.place - (c.n + 1) ≡ s.place - (c.n + 1) + 1 = omega arith in
      normal_form.in_order (s.place - (c.n + 1)) (step_at c s.place) (step_at c s'.place) (is_step s.place at)
      (subst (λ (i : ℕ). IsStep c i (step_at c s'.place)) index (is_step s'.place at'))
      (steps_before u' u (step_at c s'.place) (step_at c s.place) j' k' j k before)))

  order_each : (normal_form : IsNormalForm (members basis) (specification w) c) (later : List StepSlots) (place : ℕ) →
      IsRest steps later place → holds (assignment_of (sizes_of w r) steps c) (order later) ≡ true
  unfolding order order_with order_slot holds
  order_each normal_form [] place rest = refl
  order_each normal_form (s ∷ []) place rest = refl
  order_each normal_form (s ∷ (s' ∷ later)) place rest =
      let v : Assignment = assignment_of (sizes_of w r) steps c in
      let tail = rest_tail steps s (s' ∷ later) place rest in
      let here = rest_head steps s (s' ∷ later) place rest in
      let there = rest_head steps s' later (place + 1) tail in
      both_hold v (order_with s (s' ∷ later)) (order (s' ∷ later))
      (each_holds v (order_slot s'.slots) s.slots (λ u in_slots. each_holds v (order_pair u) s'.slots (λ u' in_slots'.
      order_pair_holds normal_form s s' u u' (omega arith)
      (record { step = rest.inside s (contains_head s (s' ∷ later)); slot = in_slots })
      (record { step = tail.inside s' (contains_head s' later); slot = in_slots' }))))
      (order_each normal_form (s' ∷ later) (place + 1) tail)

  pub order_holds : IsNormalForm (members basis) (specification w) c → holds (assignment_of (sizes_of w r) steps c) (order steps) ≡ true
  order_holds normal_form = order_each normal_form steps (w.n + 1) (rest_all (sizes_of w r) steps placed.laid)

  -- ---- no re-application

  no_reapplication_pair_holds : (normal_form : IsNormalForm (members basis) (specification w) c) (s s' : StepSlots)
      (u u' : Slot) → reapply_closed (members basis) ≡ true → s.place < s'.place → IsSlotOf steps s u →
      IsSlotOf steps s' u' → holds (assignment_of (sizes_of w r) steps c) (no_reapplication_pair s.place u u') ≡ true
  unfolding no_reapplication_pair holds
  no_reapplication_pair_holds normal_form s s' u u' closed next slot slot' =
      if_holds (assignment_of (sizes_of w r) steps c) (is_reapplication s.place u u') (not_both u u')
      (λ no_reapplication. not_both_holds s s' u u' slot slot' (λ true_ true'.
      let at : IsStepPlace (sizes_of w r) s.place = laid_is_place (sizes_of w r) steps s placed.laid slot.step in
      let at' : IsStepPlace (sizes_of w r) s'.place = laid_is_place (sizes_of w r) steps s' placed.laid slot'.step in
      let (j, k) = has_pair s u slot true_ in
      let (j', k') = has_pair s' u' slot' true' in
      let from = at.from in
      let inputs = placed.is.agrees.inputs in
      normal_form.not_again closed (s.place - (c.n + 1)) (s'.place - (c.n + 1)) (step_at c s.place) (step_at c s'.place) (omega arith) (is_step s.place at) (is_step s'.place at')
      (subst (λ (p : ℕ). IsReapplication p (step_at c s.place) (step_at c s'.place)) (sym (index_place s.place at))
      (steps_again s.place u u' (step_at c s.place) (step_at c s'.place) j k j' k' no_reapplication))))

  no_reapplication_each : (normal_form : IsNormalForm (members basis) (specification w) c) (later : List StepSlots)
      (place : ℕ) → reapply_closed (members basis) ≡ true → IsRest steps later place →
      holds (assignment_of (sizes_of w r) steps c) (no_reapplication_all later) ≡ true
  unfolding no_reapplication_all no_reapplication_later no_reapplication_slot holds
  no_reapplication_each normal_form [] place closed rest = refl
  no_reapplication_each normal_form (s ∷ later) place closed rest =
      let v : Assignment = assignment_of (sizes_of w r) steps c in
      let tail = rest_tail steps s later place rest in
      let here = rest_head steps s later place rest in
      both_hold v (flat_map (no_reapplication_later s) later) (no_reapplication_all later)
      (each_holds v (no_reapplication_later s) later (λ s' in_later.
      each_holds v (no_reapplication_slot s.place (reading s.place s'.slots)) s.slots (λ u in_slots.
      each_holds v (no_reapplication_pair s.place u) (reading s.place s'.slots) (λ u' in_reading.
      let bits_after = rest_place steps later (place + 1) s' tail in_later in
      no_reapplication_pair_holds normal_form s s' u u' closed (omega arith)
      (record { step = rest.inside s (contains_head s later); slot = in_slots })
      (record { step = tail.inside s' in_later; slot = filter_get (has_place s.place) s'.slots u' in_reading })))))
      (no_reapplication_each normal_form later (place + 1) closed tail)

  pub no_reapplication_holds : IsNormalForm (members basis) (specification w) c → holds (assignment_of (sizes_of w r) steps c) (no_reapplication basis steps) ≡ true
  unfolding no_reapplication
  no_reapplication_holds normal_form = if_holds (assignment_of (sizes_of w r) steps c) (reapply_closed (members basis))
      (no_reapplication_all steps) (λ closed. no_reapplication_each normal_form steps (w.n + 1) closed
      (rest_all (sizes_of w r) steps placed.laid))

  -- ---- non-trivial operators

  equal_pair_there : (u : Slot) → u.j ≡ u.k → Contains (equal_pair u) (chosen u)
  unfolding equal_pair
  equal_pair_there u e = rw (eq-eqb u.j u.k e) (contains_head (chosen u) [])

  equal_there : (s : StepSlots) → Contains steps s → (step_at c s.place).j ≡ (step_at c s.place).k → raws_bit (assignment_of (sizes_of w r) steps c) (flat_map equal_pair s.slots) ≡ true
  unfolding chosen raw_value same
  equal_there s in_steps equal =
      let (u, in_slots, j, k, true_) = pair_slot s in_steps in
      raws_make (assignment_of (sizes_of w r) steps c) (flat_map equal_pair s.slots) (chosen u) (flat_map_make equal_pair s.slots u (chosen u) in_slots (equal_pair_there u (j ∙ equal ∙ sym k))) true_

  equal_positive : (s : StepSlots) → Contains steps s → ArePositive (flat_map equal_pair s.slots)
  unfolding equal_pair chosen
  equal_positive s in_steps = positive-flat_map equal_pair s.slots (λ u in_slots. elim (u.j == u.k) as (λ b. ArePositive (if b then Var u.var true ∷ [] else [])) [
    | true ↦ (slot_positive (sizes_of w r) steps s u placed.laid (record { step = in_steps; slot = in_slots }), tt)
    | false ↦ tt
  ])

  equal_raw_holds : (normal_form : IsNormalForm (members basis) (specification w) c) (s : StepSlots) (u : Slot)
      (constants : Bool) → IsSlotOf steps s u → const_closed (members basis) ≡ constants → u.j ≡ u.k
      → holds (assignment_of (sizes_of w r) steps c) (equal_raw constants (sizes_of w r) s.place u) ≡ true
  unfolding equal_raw raws_bit raw_value same
  equal_raw_holds normal_form s u true slot closed equal =
      let v : Assignment = assignment_of (sizes_of w r) steps c in
      let at : IsStepPlace (sizes_of w r) s.place = laid_is_place (sizes_of w r) steps s placed.laid slot.step in
      let some = slot_positive (sizes_of w r) steps s u placed.laid slot in
      let negates : v u.var ≡ true → NegatesBoth (step_at c s.place).op = λ true_.
      let (j, k) = has_pair s u slot true_ in
      normal_form.equal_negate closed (s.place - (c.n + 1)) (step_at c s.place) (is_step s.place at) (sym j ∙ equal ∙ k) in
      both_hold v (written (Var u.var false ∷ Var (f_var (sizes_of w r) s.place false false) true ∷ [])) (written (Var u.var false ∷ Var (f_var (sizes_of w r) s.place true true) false ∷ []))
      (holds-written v (Var u.var false ∷ Var (f_var (sizes_of w r) s.place false false) true ∷ []) (some, (f_positive (sizes_of w r) s.place false false, tt))
      ∙ one_implies (v u.var) (v (f_var (sizes_of w r) s.place false false)) (λ e. of_pairs'.operators s.place false false at ∙ (negates e).0))
      (holds-written v (Var u.var false ∷ Var (f_var (sizes_of w r) s.place true true) false ∷ []) (some, (f_positive (sizes_of w r) s.place true true, tt))
      ∙ one_implies (v u.var) (not (v (f_var (sizes_of w r) s.place true true))) (λ e. ap not (of_pairs'.operators s.place true true at ∙ (negates e).1)))
  equal_raw_holds normal_form s u false slot closed equal =
      let v : Assignment = assignment_of (sizes_of w r) steps c in
      let at : IsStepPlace (sizes_of w r) s.place = laid_is_place (sizes_of w r) steps s placed.laid slot.step in
      let some = slot_positive (sizes_of w r) steps s u placed.laid slot in
      holds-written v (Var u.var false ∷ Var (f_var (sizes_of w r) s.place false false) true ∷ Var
      (f_var (sizes_of w r) s.place true true) false ∷ [])
      (some, (f_positive (sizes_of w r) s.place false false, (f_positive (sizes_of w r) s.place true true, tt)))
      ∙ no_copy_bits (v u.var) (v (f_var (sizes_of w r) s.place false false)) (v (f_var (sizes_of w r) s.place true true)) (λ true_ low high.
      let (j, k) = has_pair s u slot true_ in
      normal_form.equal_no_copy (s.place - (c.n + 1)) (step_at c s.place) (is_step s.place at) (sym j ∙ equal ∙ k)
      (sym (of_pairs'.operators s.place false false at) ∙ low, sym (of_pairs'.operators s.place true true at) ∙ high))

  negation_holds : (normal_form : IsNormalForm (members basis) (specification w) c) (s : StepSlots) (op : ℕ) →
      Contains steps s → op < 16 → IsNegation op →
      holds (assignment_of (sizes_of w r) steps c) (negation_raw basis (sizes_of w r) s op) ≡ true
  unfolding negation_raw
  negation_holds normal_form s op in_steps low negation =
      let v : Assignment = assignment_of (sizes_of w r) steps c in
      let z : Dimensions = sizes_of w r in
      let at : IsStepPlace (sizes_of w r) s.place = laid_is_place (sizes_of w r) steps s placed.laid in_steps in
      if_holds v (members basis op) (written (operator_raw z s.place op ++ flat_map equal_pair s.slots)) (λ member.
      holds-written v (operator_raw z s.place op ++
      flat_map equal_pair s.slots) (positive-append (operator_raw z s.place op) (flat_map equal_pair s.slots)
      (operator_positive z s.place op) (equal_positive s in_steps))
      ∙ raws_bit-append v (operator_raw z s.place op) (flat_map equal_pair s.slots)
      ∙ ⊎_elim
      (λ (is_op : (step_at c s.place).op ≡ op). or_right (raws_bit v (operator_raw z s.place op)) (raws_bit v (flat_map equal_pair s.slots))
      (equal_there s in_steps (normal_form.negation_of_equal (s.place - (c.n + 1)) (step_at c s.place) (is_step s.place at) (subst IsNegation (sym is_op) negation))))
      (λ (other : (step_at c s.place).op ≡ op → ⊥). or_left (raws_bit v (operator_raw z s.place op)) (raws_bit v (flat_map equal_pair s.slots))
      (sym (holds-written v (operator_raw z s.place op) (operator_positive z s.place op))
      ∙ differs_from z v s.place op low (λ e. other (operator_is w basis r c v of_pairs' placed.is s.place at
      ∙ sym e))))
      (cases_eq (step_at c s.place).op op))

  pub not_trivial_holds : IsNormalForm (members basis) (specification w) c → holds (assignment_of (sizes_of w r) steps c) (not_trivial basis (sizes_of w r) steps) ≡ true
  unfolding not_trivial not_trivial_at not_idle equal_slot negations holds
  not_trivial_holds normal_form =
      let v : Assignment = assignment_of (sizes_of w r) steps c in
      let z : Dimensions = sizes_of w r in
      each_holds v (not_trivial_at (const_closed (members basis)) basis z) steps (λ s in_steps.
      let at : IsStepPlace (sizes_of w r) s.place = laid_is_place (sizes_of w r) steps s placed.laid in_steps in
      both_hold v (not_idle (const_closed (members basis)) basis z s.place ++ flat_map (equal_slot (const_closed (members basis)) z s.place) s.slots) (negations basis z s)
      (both_hold v (not_idle (const_closed (members basis)) basis z s.place) (flat_map (equal_slot (const_closed (members basis)) z s.place) s.slots)
      (idle_holds w basis r c v of_pairs' placed.is normal_form s.place (const_closed (members basis)) at refl)
      (each_holds v (equal_slot (const_closed (members basis)) z s.place) s.slots (λ u in_slots. if_holds v (u.j == u.k) (equal_raw (const_closed (members basis)) z s.place u) (λ e.
      equal_raw_holds normal_form s u (const_closed (members basis)) (record { step = in_steps; slot = in_slots }) refl (eqb-true u.j u.k e)))))
      (both_hold v (negation_raw basis z s 10) (negation_raw basis z s 12 ++ []) (negation_holds normal_form s 10 in_steps (omega arith) (inr refl))
      (both_hold v (negation_raw basis z s 12) [] (negation_holds normal_form s 12 in_steps (omega arith) (inl refl)) refl)))

  -- ---- symmetric inputs

  pub without_positive : (p q : ℕ) (s : StepSlots) → Contains steps s → ArePositive (readers_without p q s)
  unfolding readers_without reader_without chosen
  without_positive p q s in_steps = positive-flat_map (reader_without p q) s.slots (λ u in_slots. elim (reads_without p q u) as (λ b. ArePositive (if b then Var u.var true ∷ [] else [])) [
    | true ↦ (slot_positive (sizes_of w r) steps s u placed.laid (record { step = in_steps; slot = in_slots }), tt)
    | false ↦ tt
  ])

  pub without_there : (p q : ℕ) (s : StepSlots) (u : Slot) → Contains s.slots u → reads_without p q u ≡ true →
      assignment_of (sizes_of w r) steps c u.var ≡ true →
      raws_bit (assignment_of (sizes_of w r) steps c) (readers_without p q s) ≡ true
  unfolding readers_without reader_without chosen raw_value same
  without_there p q s u in_slots e true_ =
      raws_make (assignment_of (sizes_of w r) steps c) (flat_map (reader_without p q) s.slots) (Var u.var true)
      (flat_map_make (reader_without p q) s.slots u (Var u.var true) in_slots (rw e (contains_head (Var u.var true) []))) true_

  exchange_slot_holds : (normal_form : IsNormalForm (members basis) (specification w) c) (p q : ℕ) (before : List RawLit) (s : StepSlots) (u : Slot)
      → 1 ≤ p → p < q → q ≤ w.n → IsSymmetric (specification w) p q → ArePositive before → HasBefore steps (assignment_of (sizes_of w r) steps c) p q s.place before → IsSlotOf steps s u
      → holds (assignment_of (sizes_of w r) steps c) (exchange_slot p q before u) ≡ true
  unfolding exchange_slot raws_bit raw_value same
  exchange_slot_holds normal_form p q before s u some less low symmetric positive has slot =
      let v : Assignment = assignment_of (sizes_of w r) steps c in
      let at : IsStepPlace (sizes_of w r) s.place = laid_is_place (sizes_of w r) steps s placed.laid slot.step in
      let inputs = placed.is.agrees.inputs in
      let from = at.from in
      if_holds v (reads_without q p u) (written (Var u.var false ∷ before)) (λ test.
      holds-written v (Var u.var false ∷ before) (slot_positive (sizes_of w r) steps s u placed.laid slot, positive)
      ∙ implies_bit (v u.var) (raws_bit v before) (λ true_.
      let (j, k) = has_pair s u slot true_ in
      let (i, a, earlier, at_i, without) = normal_form.earlier_first p q some less (omega arith) symmetric
      (s.place - (c.n + 1)) (step_at c s.place) (is_step s.place at)
      (without_from u (step_at c s.place) q p j k test) in
      let (s', in_steps, place, step) = step_slots i a at_i in
      let (u', in_slots, j', k', true') = pair_slot s' in_steps in
      has.each s' u' (record { step = in_steps; slot = in_slots }) (omega arith) (without_test u' a p q (j' ∙ ap (λ (x : Step). x.j) step) (k' ∙ ap (λ (x : Step). x.k) step) without) true'))

  pub before_more : (p q place : ℕ) (before : List RawLit) (s : StepSlots) (later : List StepSlots) →
      IsRest steps (s ∷ later) place → HasBefore steps (assignment_of (sizes_of w r) steps c) p q place before
      → HasBefore steps (assignment_of (sizes_of w r) steps c) p q (place + 1) (before ++ readers_without p q s)
  before_more p q place before s later rest has = record {
    each = λ s' u' slot' low test true_.
        let v : Assignment = assignment_of (sizes_of w r) steps c in
        raws_bit-append v before (readers_without p q s) ∙ ⊎_elim
        (λ (earlier : s'.place < place). or_left (raws_bit v before) (raws_bit v (readers_without p q s)) (has.each s' u' slot' earlier test true_))
        (λ (past : place ≤ s'.place). or_right (raws_bit v before) (raws_bit v (readers_without p q s)) (⊎_elim
        (λ (here : s ≡ s'). without_there p q s u' (subst (λ (x : StepSlots). Contains x.slots u') (sym here) slot'.slot) test true_)
        (λ (bits_after : Contains later s'). absurd (let far = rest_place steps later (place + 1) s' (rest_tail steps s later place rest) bits_after in omega arith))
        (contains_cases s s' later (rest.has s' slot'.step past))))
        (cases_lt s'.place place);
  }

  exchange_each : (normal_form : IsNormalForm (members basis) (specification w) c) (p q : ℕ) (before : List RawLit) (later : List StepSlots) (place : ℕ)
      → 1 ≤ p → p < q → q ≤ w.n → IsSymmetric (specification w) p q → ArePositive before → HasBefore steps (assignment_of (sizes_of w r) steps c) p q place before → IsRest steps later place
      → holds (assignment_of (sizes_of w r) steps c) (exchange_steps p q before later) ≡ true
  unfolding exchange_steps holds
  exchange_each normal_form p q before [] place some less low symmetric positive has rest = refl
  exchange_each normal_form p q before (s ∷ later) place some less low symmetric positive has rest =
      let v : Assignment = assignment_of (sizes_of w r) steps c in
      let in_steps = rest.inside s (contains_head s later) in
      let here = rest_head steps s later place rest in
      both_hold v (flat_map (exchange_slot p q before) s.slots) (exchange_steps p q (before ++ readers_without p q s) later)
      (each_holds v (exchange_slot p q before) s.slots (λ u in_slots.
      exchange_slot_holds normal_form p q before s u some less low symmetric positive (subst (λ (x : ℕ). HasBefore steps v p q x before) (sym here) has) (record { step = in_steps; slot = in_slots })))
      (exchange_each normal_form p q (before ++ readers_without p q s) later (place + 1) some less low symmetric
      (positive-append before (readers_without p q s) positive (without_positive p q s in_steps))
      (before_more p q place before s later rest has) (rest_tail steps s later place rest))

  pub exchange_holds : IsNormalForm (members basis) (specification w) c → holds (assignment_of (sizes_of w r) steps c) (exchange w steps) ≡ true
  unfolding exchange exchange_with exchange_pair
  exchange_holds normal_form =
      let v : Assignment = assignment_of (sizes_of w r) steps c in
      each_holds v (exchange_with w steps) (range_with_len 1 w.n) (λ p in_inputs. each_holds v (exchange_pair w steps p) (range_with_len (suc p) (w.n - p)) (λ q in_later.
      let (some, p_low) = range_inside 1 w.n p in_inputs in
      let (less, q_low) = range_inside (suc p) (w.n - p) q in_later in
      if_holds v (may_exchange w p q) (exchange_steps p q [] steps) (λ may.
      exchange_each normal_form p q [] steps (w.n + 1) some (omega arith) (omega arith) (exchange_symmetric w p q may) tt
      (record { each = λ s u slot low test true_. absurd (let at = laid_is_place (sizes_of w r) steps s placed.laid slot.step in let from = at.from in omega arith) })
      (rest_all (sizes_of w r) steps placed.laid))))

  -- ---- all constraints

  -- The assignment of a chain in normal form satisfies all constraints.
  pub cuts_hold : IsNormalForm (members basis) (specification w) c → holds (assignment_of (sizes_of w r) steps c) (cuts w basis (sizes_of w r) steps) ≡ true
  unfolding cuts
  cuts_hold normal_form =
      let v : Assignment = assignment_of (sizes_of w r) steps c in
      let z : Dimensions = sizes_of w r in
      both_hold v _ (row_0 basis z)
      (both_hold v _ (exchange w steps)
      (both_hold v _ (no_reapplication basis steps)
      (both_hold v _ (order steps)
      (both_hold v (used z steps) (not_trivial basis z steps) (used_holds normal_form) (not_trivial_holds normal_form))
      (order_holds normal_form))
      (no_reapplication_holds normal_form))
      (exchange_holds normal_form))
      (row_0_holds w basis r c v of_pairs' placed.is normal_form)
