-- The numbers of clauses of the constraints are within the program's bounds.
use Rattle.std.specs.Prelude.{◌≡◌, ℕ, suc, ◌+◌, ◌-◌, ◌*◌, ◌≤◌, ◌==◌, ℤ, Bool, true, false, List, [], ◌∷◌, ◌++◌, map, length, if◌then◌else◌}
use Rattle.std.specs.List.{range_with_len, flat_map}
use Rattle.std.proofs.Common.{arith, length-append}
use Rattle.std.proofs.Math.Nat.{mul-add}
use Rattle.op_basis.specs.Basis.{members}
use Rattle.op_basis.specs.Closed.{const_closed, polarity_closed, reapply_closed}
use Rattle.tt_core.specs.Words.{Words}
use Rattle.clause_core.specs.declared.raw.RawLit.{RawLit}
use Rattle.clause_core.specs.declared.raw.RawLit.TheVariants.{Var}
use Rattle.enc_theory.specs.declared.data.Dimensions.{Dimensions}
use Rattle.enc_theory.specs.declared.data.Slot.{Slot}
use Rattle.clause_core.specs.Clauses.{written}
use Rattle.enc_theory.specs.Numbering.{places, outputs, f_var}
use Rattle.enc_theory.specs.Pairs.{StepSlots, slot_count}
use Rattle.enc_theory.specs.Families.{common}
use Rattle.enc_theory.specs.Cuts.{drives, readers, used_by, used, other_operator, not_idle, equal_raw, equal_slot}
use Rattle.enc_theory.specs.Cuts.{negation_raw, negations, not_trivial_at, not_trivial, comes_before, not_both}
use Rattle.enc_theory.specs.Cuts.{order_pair, order_slot, order_with, order, is_reapplication, no_reapplication_pair}
use Rattle.enc_theory.specs.Cuts.{no_reapplication_slot, has_place, reading, no_reapplication_later}
use Rattle.enc_theory.specs.Cuts.{no_reapplication_all, no_reapplication, may_exchange, reads_without, readers_without}
use Rattle.enc_theory.specs.Cuts.{exchange_slot, exchange_steps, exchange_pair, exchange_with, exchange, row_0_at}
use Rattle.enc_theory.specs.Cuts.{row_0, cuts}
use Rattle.enc_base.specs.Room.{IsSmall}
use Rattle.enc_base.specs.Counts.{common-few}
use Rattle.clause_core.specs.CountLaws.{flat_map-few, pieces-few, written-few, times-few}
use Rattle.chain_theory.specs.Limits.{most_steps, most_inputs}

-- clauses that are listed only under a condition
pub if-few : (test : Bool) (clauses : List (List ℤ)) (k : ℕ) → length clauses ≤ k → length (if test then clauses else []) ≤ k
if-few true clauses k few = few
if-few false clauses k few = omega arith

used-few : (z : Dimensions) (steps : List StepSlots) → length (used z steps) ≤ length steps
unfolding used used_by
used-few z [] = omega arith
used-few z (s ∷ later) = rw length-append (omega (arith, written-few (map (drives z s.place) (outputs z) ++ flat_map (readers s.place) later), used-few z later))

-- ---- trivial steps

other-few : (basis : ℕ) (z : Dimensions) (i op : ℕ) → length (other_operator basis z i op) ≤ 1
unfolding other_operator
other-few basis z i op = if-few (members basis op) (written _) 1 (written-few _)

pub idle-few : (constants : Bool) (basis : ℕ) (z : Dimensions) (i : ℕ) → length (not_idle constants basis z i) ≤ 4
unfolding not_idle
idle-few true basis z i = let all = pieces-few (other_operator basis z i) 1 (0 ∷ 3 ∷ 5 ∷ 15 ∷ []) (λ op. other-few basis z i op) in omega (arith, all)
idle-few false basis z i = let all = pieces-few (other_operator basis z i) 1 (3 ∷ 5 ∷ []) (λ op. other-few basis z i op) in omega (arith, all)

equal-few : (constants : Bool) (z : Dimensions) (i : ℕ) (u : Slot) → length (equal_raw constants z i u) ≤ 2
unfolding equal_raw
equal-few true z i u = rw length-append (omega (arith, written-few (Var u.var false ∷ Var (f_var z i false false) true ∷ []), written-few (Var u.var false ∷ Var (f_var z i true true) false ∷ [])))
equal-few false z i u = omega (arith, written-few (Var u.var false ∷ Var (f_var z i false false) true ∷ Var (f_var z i true true) false ∷ []))

negations-few : (basis : ℕ) (z : Dimensions) (s : StepSlots) → length (negations basis z s) ≤ 2
unfolding negations negation_raw
negations-few basis z s = let all = pieces-few (negation_raw basis z s) 1 (10 ∷ 12 ∷ []) (λ op. if-few (members basis op) (written _) 1 (written-few _)) in omega (arith, all)

trivial_at-few : (constants : Bool) (basis : ℕ) (z : Dimensions) (s : StepSlots) → length (not_trivial_at constants basis z s) ≤ 6 + length s.slots * 2
unfolding not_trivial_at equal_slot
trivial_at-few constants basis z s =
    let equals = pieces-few (equal_slot constants z s.place) 2 s.slots (λ u. if-few (u.j == u.k) (equal_raw constants z s.place u) 2 (equal-few constants z s.place u)) in
    rw (length-append, length-append) (omega (arith, idle-few constants basis z s.place, equals, negations-few basis z s))

trivial-few : (constants : Bool) (basis : ℕ) (z : Dimensions) (steps : List StepSlots) → length (flat_map (not_trivial_at constants basis z) steps) ≤ length steps * 6 + slot_count steps * 2
unfolding slot_count
trivial-few constants basis z [] = omega arith
trivial-few constants basis z (s ∷ later) = rw length-append (omega (arith, trivial_at-few constants basis z s, trivial-few constants basis z later))

-- ---- two pairs at a time

not_both-few : (u v : Slot) → length (not_both u v) ≤ 1
unfolding not_both
not_both-few u v = written-few _

order_slot-few : (next : List Slot) (u : Slot) → length next ≤ 16000 → length (order_slot next u) ≤ 16000
unfolding order_slot order_pair
order_slot-few next u few = let all = pieces-few (order_pair u) 1 next (λ v. if-few (comes_before v u) (not_both u v) 1 (not_both-few u v)) in omega (arith, all)

order_with-few : (s : StepSlots) (later : List StepSlots) → slot_count later ≤ 16000 → length (order_with s later) ≤ length s.slots * 16000
unfolding order_with slot_count
order_with-few s [] few = omega arith
order_with-few s (next ∷ later) few = pieces-few (order_slot next.slots) 16000 s.slots (λ u. order_slot-few next.slots u (omega arith))

order-few : (steps : List StepSlots) → slot_count steps ≤ 16000 → length (order steps) ≤ slot_count steps * 16000
unfolding order slot_count
order-few [] few = omega arith
order-few (s ∷ later) few = rw length-append (omega (arith, order_with-few s later (omega arith), order-few later (omega arith)))

reading-few : (p : ℕ) (slots : List Slot) → length (reading p slots) ≤ length slots
reading-few p [] = omega arith
reading-few p (u ∷ slots) = kept (has_place p u) u (reading p slots) (length slots) (reading-few p slots)
  where
    kept : (test : Bool) (u : Slot) (rest : List Slot) (k : ℕ) → length rest ≤ k → length (if test then u ∷ rest else rest) ≤ suc k
    kept true u rest k few = omega arith
    kept false u rest k few = omega arith

no_reapplication_slot-few : (p : ℕ) (slots : List Slot) (u : Slot) → length (no_reapplication_slot p slots u) ≤ length slots
unfolding no_reapplication_slot no_reapplication_pair
no_reapplication_slot-few p slots u = let all = pieces-few (no_reapplication_pair p u) 1 slots (λ v. if-few (is_reapplication p u v) (not_both u v) 1 (not_both-few u v)) in omega (arith, all)

no_reapplication_later-few : (s later : StepSlots) → length (no_reapplication_later s later) ≤ length s.slots * length later.slots
unfolding no_reapplication_later
no_reapplication_later-few s later = pieces-few (no_reapplication_slot s.place (reading s.place later.slots))
    (length later.slots) s.slots (λ u. omega (
      arith,
      no_reapplication_slot-few s.place (reading s.place later.slots) u,
      reading-few s.place later.slots,
    ))

no_reapplication_by-few : (s : StepSlots) (later : List StepSlots) → length (flat_map (no_reapplication_later s) later) ≤ length s.slots * slot_count later
unfolding slot_count
no_reapplication_by-few s [] = omega arith
no_reapplication_by-few s (next ∷ later) =
    let spread : length s.slots * (length next.slots + slot_count later) ≡
    length s.slots * length next.slots + length s.slots * slot_count later =
    mul-add (length s.slots) (length next.slots) (slot_count later) in
    rw length-append (omega (arith, no_reapplication_later-few s next, no_reapplication_by-few s later))

no_reapplication-few : (steps : List StepSlots) → slot_count steps ≤ 16000 → length (no_reapplication_all steps) ≤ slot_count steps * 16000
unfolding no_reapplication_all slot_count
no_reapplication-few [] few = omega arith
no_reapplication-few (s ∷ later) few =
    let own = times-few (length s.slots) (slot_count later) (length s.slots) 16000 (omega arith) (omega arith) in
    rw length-append (omega (arith, no_reapplication_by-few s later, own, no_reapplication-few later (omega arith)))

-- ---- symmetric inputs

exchange_slot-few : (p q : ℕ) (before : List RawLit) (u : Slot) → length (exchange_slot p q before u) ≤ 1
unfolding exchange_slot
exchange_slot-few p q before u = if-few (reads_without q p u) (written _) 1 (written-few _)

exchange_steps-few : (p q : ℕ) (before : List RawLit) (steps : List StepSlots) → length (exchange_steps p q before steps) ≤ slot_count steps
unfolding exchange_steps slot_count
exchange_steps-few p q before [] = omega arith
exchange_steps-few p q before (s ∷ later) =
    let own = pieces-few (exchange_slot p q before) 1 s.slots (λ u. exchange_slot-few p q before u) in
    rw length-append (omega (arith, own, exchange_steps-few p q (before ++ readers_without p q s) later))

exchange-few : (w : Words) (steps : List StepSlots) → w.n ≤ most_inputs → slot_count steps ≤ 16000 → length (exchange w steps) ≤ 576000
unfolding exchange exchange_with exchange_pair
exchange-few w steps inputs few =
    let one : (p q : ℕ) → length (exchange_pair w steps p q) ≤ 16000 = λ p q. if-few (may_exchange w p q) (exchange_steps p q [] steps) 16000 (omega (arith, exchange_steps-few p q [] steps)) in
    let row : (p : ℕ) → length (exchange_with w steps p) ≤ 96000 = λ p.
    let all : length (flat_map (exchange_pair w steps p) (range_with_len (suc p) (w.n - p))) ≤ (w.n - p) * 16000 =
    flat_map-few (exchange_pair w steps p) 16000 (suc p) (w.n - p) (λ q low high. one p q) in
    omega (arith, all) in
    let all : length (flat_map (exchange_with w steps) (range_with_len 1 w.n)) ≤ w.n * 96000 = flat_map-few (exchange_with w steps) 96000 1 w.n (λ p low high. row p) in
    omega (arith, all)

pub row_0-few : (basis : ℕ) (z : Dimensions) → IsSmall z → length (row_0 basis z) ≤ 16
unfolding row_0 row_0_at
row_0-few basis z small =
    let all : length (flat_map (row_0_at z) (range_with_len (z.n + 1) z.r)) ≤ z.r * 1 = flat_map-few (row_0_at z) 1 (z.n + 1) z.r (λ i low high. written-few _) in
    if-few (polarity_closed (members basis)) (flat_map (row_0_at z) (places z)) 16 (omega (arith, all, small.steps))

-- The constraints are few enough for a formula.
pub cuts-few : (w : Words) (basis : ℕ) (z : Dimensions) (steps : List StepSlots) → IsSmall z → w.n ≤ most_inputs →
    length steps ≤ most_steps → slot_count steps ≤ 16000 → length (cuts w basis z steps) ≤ 600000000
unfolding cuts not_trivial no_reapplication
cuts-few w basis z steps small inputs few slots =
    rw (length-append, length-append, length-append, length-append, length-append)
    (omega (
      arith,
      used-few z steps,
      trivial-few (const_closed (members basis)) basis z steps,
      order-few steps slots,
      if-few (reapply_closed (members basis)) (no_reapplication_all steps) (slot_count steps * 16000)
          (no_reapplication-few steps slots),
      exchange-few w steps inputs slots,
      row_0-few basis z small,
    ))

-- the clauses that define chains and the constraints together
pub both-few : (w : Words) (basis : ℕ) (z : Dimensions) (steps : List StepSlots) → IsSmall z → w.n ≤ most_inputs → length steps ≤ most_steps →
    slot_count steps ≤ 16000 → length (common w basis z steps ++ cuts w basis z steps) ≤ 610000000
both-few w basis z steps small inputs few slots = rw length-append (omega (arith, common-few w basis z steps small few slots, cuts-few w basis z steps small inputs few slots))
