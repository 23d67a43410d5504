-- Edges are of rows, and they, their variables and the further clauses are few enough for a formula.
use Rattle.std.specs.Prelude.{◌≡◌, ℕ, suc, ◌+◌, ◌-◌, ◌*◌, ◌^◌, ◌≤◌, ◌<◌, Bool, true, false, not, ◌&&◌, List, [], ◌∷◌, ◌++◌, All, length, if◌then◌else◌}
use Rattle.std.specs.List.{range_with_len, flat_map}
use Rattle.std.proofs.Common.{arith, length-append, subst, sym, get_or}
use Rattle.std.proofs.lemmas.List.Elements.{Contains-get_or}
use Rattle.op_basis.specs.Basis.{members}
use Rattle.op_basis.specs.Closed.{polarity_closed}
use Rattle.tt_core.specs.Words.{Words}
use Rattle.chain_theory.specs.Limits.{most_steps, most_inputs}
use Rattle.clause_core.specs.declared.raw.RawLit.{RawLit}
use Rattle.clause_core.specs.Clauses.{written}
use Rattle.clause_core.specs.CountLaws.{flat_map-few, pieces-few, written-few, times-few}
use Rattle.enc_theory.specs.declared.data.Dimensions.{Dimensions}
use Rattle.enc_theory.specs.declared.data.Slot.{Slot}
use Rattle.enc_theory.specs.Pairs.{StepSlots, slot_count}
use Rattle.enc_theory.specs.Families.{common}
use Rattle.enc_theory.specs.Cuts.{reads, reads_without, readers_without, not_both, may_exchange, exchange_slot, exchange_steps, cuts}
use Rattle.enc_base.specs.Room.{IsSmall, IsSlot, HasRoom, HasSlots}
use Rattle.enc_base.specs.BoundLaws.{rows_few}
use Rattle.enc_cuts.specs.Counts.{if-few, both-few}
use Rattle.strong_theory.specs.declared.data.Edge.{Edge}
use Rattle.strong_theory.specs.Edges.{edge, is_edge, raised, edge_at, edges_along, edges}
use Rattle.strong_theory.specs.Strong.{precedes, one_of, one_pair_slot, one_pair_step, one_pair, value_differs, values_differ}
use Rattle.strong_theory.specs.Strong.{operand_differs, sole_reader, or_others, edge_step, edge_steps, differences}
use Rattle.strong_laws.specs.EdgeLaws.{edges_are}
use Rattle.npn_strong.specs.Cut.{may_exchange_complemented, npn_pair, npn_with, npn_exchange}
use Rattle.enc_strong.specs.Room.{HasRows}

-- ---- edges

pub edges_rows : (w : Words) (z : Dimensions) → z.n ≡ w.n → All (HasRows z) (edges w)
edges_rows w z inputs = λ k d low.
    let is = edges_are w (get_or (edges w) k d) (Contains-get_or (edges w) k d low) in
    record {
      low = subst (λ (n : ℕ). (get_or (edges w) k d).low < 2 ^ n) (sym inputs) is.low;
      high = subst (λ (n : ℕ). (get_or (edges w) k d).high < 2 ^ n) (sym inputs) is.high;
    }

one-few : (test : Bool) (e : Edge) → length (if test then e ∷ [] else []) ≤ 1
one-few true e = omega arith
one-few false e = omega arith

pub edges-few : (w : Words) → w.n ≤ most_inputs → length (edges w) ≤ 384
unfolding edges edges_along edge_at
edges-few w low =
    let along : (j : ℕ) → length (edges_along w j) ≤ 64 = λ j.
    let all : length (flat_map (edge_at w j) (range_with_len 0 (2 ^ w.n))) ≤ 2 ^ w.n * 1 = flat_map-few (edge_at w j) 1 0 (2 ^ w.n) (λ t from to.
    one-few (is_edge w j t (raised w.n j t)) (edge j t (raised w.n j t))) in
    omega (arith, all, rows_few w.n low) in
    let all : length (flat_map (edges_along w) (range_with_len 1 w.n)) ≤ w.n * 64 = flat_map-few (edges_along w) 64 1 w.n (λ j from to. along j) in
    omega (arith, all)

-- ---- more variables

more_slot : (few many place : ℕ) (u : Slot) → few ≤ many → IsSlot few place u → IsSlot many place u
more_slot few many place u low is = record {
  j_from = is.j_from;
  j_below = is.j_below;
  k_from = is.k_from;
  k_below = is.k_below;
  var_from = is.var_from;
  var_within = let within = is.var_within in omega arith;
}

pub more_slots : (z : Dimensions) (few many : ℕ) (steps : List StepSlots) → few ≤ many → All (HasSlots z few) steps → All (HasSlots z many) steps
more_slots z few many steps low have = λ k d inside.
    let has = have k d inside in
    record { place = has.place; slots = λ i u within. more_slot few many (get_or steps k d).place (get_or (get_or steps k d).slots i u) low (has.slots i u within) }

pub more_room : (z : Dimensions) (few many : ℕ) → few ≤ many → many < 1000000000 → HasRoom z few → HasRoom z many
more_room z few many low below room = record { small = room.small; first = let first = room.first in omega arith; few = below }

-- the variables of at most so many edges of at most sixteen steps
pub edge_vars-few : (count r : ℕ) → count ≤ 384 → r ≤ most_steps → count * r ≤ 6144
edge_vars-few count r low few = omega (arith, times-few count r 384 16 low few)

-- ---- clauses of the exchange cut

exchange_slot-few : (p q : ℕ) (before : List RawLit) (u : Slot) → length (exchange_slot p q before u) ≤ 1
unfolding exchange_slot
exchange_slot-few p q before u = if-few (reads_without q p u) (written _) 1 (written-few _)

exchange_steps-few : (p q : ℕ) (before : List RawLit) (steps : List StepSlots) → length (exchange_steps p q before steps) ≤ slot_count steps
unfolding exchange_steps slot_count
exchange_steps-few p q before [] = omega arith
exchange_steps-few p q before (s ∷ later) =
    let own = pieces-few (exchange_slot p q before) 1 s.slots (λ u. exchange_slot-few p q before u) in
    rw length-append (omega (arith, own, exchange_steps-few p q (before ++ readers_without p q s) later))

npn_pair-few : (w : Words) (steps : List StepSlots) (p q : ℕ) → slot_count steps ≤ 16000 → length (npn_pair w steps p q) ≤ 16000
unfolding npn_pair
npn_pair-few w steps p q few = if-few (may_exchange_complemented w p q && not (may_exchange w p q)) (exchange_steps p q [] steps) 16000
    (omega (arith, exchange_steps-few p q [] steps))

npn_with-few : (w : Words) (steps : List StepSlots) (p : ℕ) → w.n ≤ most_inputs → slot_count steps ≤ 16000 → length (npn_with w steps p) ≤ 96000
unfolding npn_with
npn_with-few w steps p inputs few =
    let all : length (flat_map (npn_pair w steps p) (range_with_len (suc p) (w.n - p))) ≤ (w.n - p) * 16000 =
    flat_map-few (npn_pair w steps p) 16000 (suc p) (w.n - p) (λ q low high. npn_pair-few w steps p q few) in
    omega (arith, all)

npn_exchange-few : (basis : ℕ) (w : Words) (steps : List StepSlots) → w.n ≤ most_inputs → slot_count steps ≤ 16000 → length (npn_exchange basis w steps) ≤ 576000
unfolding npn_exchange
npn_exchange-few basis w steps inputs few =
    let all : length (flat_map (npn_with w steps) (range_with_len 1 w.n)) ≤ w.n * 96000 =
    flat_map-few (npn_with w steps) 96000 1 w.n (λ p low high. npn_with-few w steps p inputs few) in
    if-few (polarity_closed (members basis)) (flat_map (npn_with w steps) (range_with_len 1 w.n)) 576000 (omega (arith, all))

-- ---- further clauses

one_pair_step-few : (s : StepSlots) → length s.slots ≤ 16000 → length (one_pair_step s) ≤ length s.slots * 16000
unfolding one_pair_step one_pair_slot one_of not_both
one_pair_step-few s few = pieces-few (one_pair_slot s.slots) 16000 s.slots (λ u.
    let all = pieces-few (one_of u) 1 s.slots (λ v. if-few (precedes u v) (not_both u v) 1 (written-few _)) in omega (arith, all))

one_pair-few : (steps : List StepSlots) → slot_count steps ≤ 16000 → length (one_pair steps) ≤ slot_count steps * 16000
unfolding one_pair slot_count
one_pair-few [] few = omega arith
one_pair-few (s ∷ later) few = rw length-append (omega (arith, one_pair_step-few s (omega arith), one_pair-few later (omega arith)))

value-few : (z : Dimensions) (e : Edge) (before i : ℕ) (a b : Bool) → length (value_differs z e before i a b) ≤ 1
unfolding value_differs
value-few z e before i a b = written-few _

values-few : (z : Dimensions) (e : Edge) (before i : ℕ) → length (values_differ z e before i) ≤ 4
unfolding values_differ
values-few z e before i = rw (length-append, length-append, length-append) (omega (
  arith,
  value-few z e before i false false,
  value-few z e before i false true,
  value-few z e before i true false,
  value-few z e before i true true,
))

edge_step-few : (z : Dimensions) (steps : List StepSlots) (e : Edge) (before : ℕ) (s : StepSlots) → length (edge_step z steps e before s) ≤ 4 + length s.slots * 2
unfolding edge_step operand_differs sole_reader
edge_step-few z steps e before s =
    let operands = pieces-few (operand_differs z e before s.place) 1 s.slots (λ u. written-few _) in
    let soles = pieces-few (sole_reader e.input (or_others z steps e before s.place)) 1 s.slots (λ u. if-few (reads u e.input) (written _) 1 (written-few _)) in
    rw (length-append, length-append) (omega (arith, values-few z e before s.place, operands, soles))

edge_steps-few : (z : Dimensions) (all : List StepSlots) (e : Edge) (before : ℕ) (steps : List StepSlots) →
    length (flat_map (edge_step z all e before) steps) ≤ length steps * 4 + slot_count steps * 2
unfolding slot_count
edge_steps-few z all e before [] = omega arith
edge_steps-few z all e before (s ∷ later) = rw length-append (omega (arith, edge_step-few z all e before s, edge_steps-few z all e before later))

differences-few : (z : Dimensions) (steps : List StepSlots) (before : ℕ) (es : List Edge) → length steps ≤ most_steps → slot_count steps ≤ 16000 →
    length (differences z steps before es) ≤ length es * 32064
unfolding differences edge_steps
differences-few z steps before [] few slots = omega arith
differences-few z steps before (e ∷ es) few slots = rw length-append (omega (arith, edge_steps-few z steps e before steps, differences-few z steps (before + z.r) es few slots))

-- The clauses of a stronger formula are few enough.
pub strong-few : (w : Words) (basis : ℕ) (z : Dimensions) (steps : List StepSlots) (before : ℕ) → IsSmall z → w.n ≤ most_inputs → length steps ≤ most_steps →
    slot_count steps ≤ 16000 → length (common w basis z steps ++ cuts w basis z steps ++ npn_exchange basis w steps ++
    (one_pair steps ++ differences z steps before (edges w))) ≤ 1000000000
strong-few w basis z steps before small inputs few slots =
    let both : length (common w basis z steps) + length (cuts w basis z steps) ≤ 610000000 = rw length-append at (both-few w basis z steps small inputs few slots) in
    rw (length-append, length-append, length-append, length-append) (omega (
      arith,
      both,
      npn_exchange-few basis w steps inputs slots,
      one_pair-few steps slots,
      differences-few z steps before (edges w) few slots,
      edges-few w inputs,
    ))
