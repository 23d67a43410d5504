-- The constraints are clauses of a formula.
use Rattle.std.proofs.Common.{ℕ, suc, ◌+◌, ◌-◌, ◌==◌, Bool, true, false, List, [], ◌∷◌, ◌++◌, map, Contains, arith}
use Rattle.std.specs.Prelude.{ℤ, if◌then◌else◌}
use Rattle.std.specs.List.{flat_map, range_with_len}
use Rattle.std.proofs.lemmas.Nat.{pow_pos}
use Rattle.op_basis.specs.Basis.{members}
use Rattle.op_basis.specs.Closed.{const_closed, polarity_closed, reapply_closed}
use Rattle.tt_core.specs.Words.{Words}
use Rattle.clause_core.specs.declared.raw.RawLit.{RawLit}
use Rattle.clause_core.specs.declared.raw.RawLit.TheVariants.{Var}
use Rattle.enc_theory.specs.declared.data.Dimensions.{Dimensions}
use Rattle.enc_theory.specs.declared.data.Slot.{Slot}
use Rattle.clause_core.specs.Clauses.{written}
use Rattle.enc_theory.specs.Numbering.{places, outputs, f_var, x_is}
use Rattle.enc_theory.specs.Pairs.{StepSlots}
use Rattle.enc_theory.specs.Families.{driver, chosen, operator_raw}
use Rattle.enc_theory.specs.Cuts.{drives, reads, reader, readers, used_by, used, other_operator, idle_operators}
use Rattle.enc_theory.specs.Cuts.{not_idle, equal_raw, equal_slot, equal_pair, negation_raw, negations, not_trivial_at}
use Rattle.enc_theory.specs.Cuts.{not_trivial, comes_before, not_both, order_pair, order_slot, order_with, order}
use Rattle.enc_theory.specs.Cuts.{is_reapplication, no_reapplication_pair, no_reapplication_slot, has_place, reading}
use Rattle.enc_theory.specs.Cuts.{no_reapplication_later, no_reapplication_all, no_reapplication, may_exchange}
use Rattle.enc_theory.specs.Cuts.{reads_without, reader_without, readers_without, exchange_slot, exchange_steps}
use Rattle.enc_theory.specs.Cuts.{exchange_pair, exchange_with, exchange, row_0_at, row_0, cuts}
use Rattle.enc_laws.specs.Bounds.{g_positive, f_positive, g_below, f_below}
use Rattle.clause_core.specs.Holds.{contains_head, contains_tail, filter_get, range_inside}
use Rattle.enc_laws.specs.Layouts.{IsStepPlace, IsLaid, laid_is_place}
use Rattle.clause_core.specs.WrittenLaws.{IsOf, AreOf, are_of-map, AreClauses, no_clauses, written_clauses, clauses_each, clauses_both}
use Rattle.enc_laws.specs.Formulas.{HasRoom, x_is_of}

pub are_of-append : (vars : ℕ) (xs ys : List RawLit) → AreOf vars xs → AreOf vars ys → AreOf vars (xs ++ ys)
are_of-append vars [] ys one two = two
are_of-append vars (x ∷ xs) ys one two = (one.0, are_of-append vars xs ys one.1 two)

pub are_of-flat_map : {X : Type 0} (vars : ℕ) (f : X → List RawLit) (xs : List X) → ((x : X) → Contains xs x → AreOf vars (f x)) → AreOf vars (flat_map f xs)
are_of-flat_map vars f [] each = tt
are_of-flat_map vars f (x ∷ xs) each = are_of-append vars (f x) (flat_map f xs) (each x (contains_head x xs)) (are_of-flat_map vars f xs (λ y c. each y (contains_tail x y xs c)))

-- clauses and literals that are listed only under a condition
pub clauses_if : (vars : ℕ) (test : Bool) (clauses : List (List ℤ)) → AreClauses vars clauses → AreClauses vars (if test then clauses else [])
clauses_if vars true clauses are = are
clauses_if vars false clauses are = no_clauses vars

one_if : (vars : ℕ) (test : Bool) (raw : RawLit) → IsOf vars raw → AreOf vars (if test then raw ∷ [] else [])
one_if vars true raw is = (is, tt)
one_if vars false raw is = tt

-- ---- clauses without pairs

module _ (vars basis : ℕ) (z : Dimensions) (steps : List StepSlots) (room : HasRoom vars z steps) where
  pub operator_of : (i : ℕ) (b c bit : Bool) → IsStepPlace z i → IsOf vars (Var (f_var z i b c) bit)
  operator_of i b c bit place = (f_positive z i b c, (let common = room.common in omega (arith, f_below z i b c place)))

  pub raw_of : (i op : ℕ) → IsStepPlace z i → AreOf vars (operator_raw z i op)
  unfolding operator_raw
  raw_of i op place = (operator_of i false false true place, (operator_of i false true true place, (operator_of i true false true place, (operator_of i true true true place, tt))))

  pub drives_of : (i : ℕ) → IsStepPlace z i → AreOf vars (map (drives z i) (outputs z))
  unfolding drives driver
  drives_of i place = are_of-map vars (drives z i) (outputs z) (λ h in_outputs.
      let (some, low) = range_inside 1 z.m h in_outputs in
      (g_positive z h i place, (let common = room.common in omega (arith, g_below z h i some (omega arith) place))))

  other_clauses : (i op : ℕ) → IsStepPlace z i → AreClauses vars (other_operator basis z i op)
  unfolding other_operator
  other_clauses i op place = clauses_if vars (members basis op) (written (operator_raw z i op)) (written_clauses vars (operator_raw z i op) (raw_of i op place))

  pub idle_clauses : (constants : Bool) (i : ℕ) → IsStepPlace z i → AreClauses vars (not_idle constants basis z i)
  unfolding not_idle
  idle_clauses constants i place = clauses_each vars (other_operator basis z i) (idle_operators constants) (λ op c. other_clauses i op place)

  pub row_0_clauses : AreClauses vars (row_0 basis z)
  unfolding row_0 row_0_at
  row_0_clauses = clauses_if vars (polarity_closed (members basis)) (flat_map (row_0_at z) (places z)) (clauses_each vars (row_0_at z) (places z) (λ i in_places.
      let (from, to) = range_inside (z.n + 1) z.r i in_places in
      written_clauses vars (x_is z i 0 false ∷ map (drives z i) (outputs z)) (x_is_of vars z steps i 0 false room to (pow_pos z.n), drives_of i (record { from = from; to = to }))))

-- ---- a layout with room for its variables

module _ (vars basis : ℕ) (w : Words) (z : Dimensions) (steps : List StepSlots) (room : HasRoom vars z steps) (laid : IsLaid z steps) where
  chosen_of : (s : StepSlots) (u : Slot) (bit : Bool) → Contains steps s → Contains s.slots u → IsOf vars (Var u.var bit)
  chosen_of s u bit in_steps in_slots = (room.positive s u record { step = in_steps; slot = in_slots }, room.slots s u record { step = in_steps; slot = in_slots })

  not_both_clauses : (s s' : StepSlots) (u u' : Slot) → Contains steps s → Contains s.slots u → Contains steps s' → Contains s'.slots u' → AreClauses vars (not_both u u')
  unfolding not_both
  not_both_clauses s s' u u' c d c' d' = written_clauses vars (Var u.var false ∷ Var u'.var false ∷ []) (chosen_of s u false c d, (chosen_of s' u' false c' d', tt))

  used_clauses : (later : List StepSlots) → ((s : StepSlots) → Contains later s → Contains steps s) → AreClauses vars (used z later)
  unfolding used used_by readers reader chosen
  used_clauses [] inside = no_clauses vars
  used_clauses (s ∷ later) inside =
      clauses_both vars (used_by z s later) (used z later)
      (written_clauses vars (map (drives z s.place) (outputs z) ++ flat_map (readers s.place) later)
      (are_of-append vars (map (drives z s.place) (outputs z)) (flat_map (readers s.place) later)
      (drives_of vars basis z steps room s.place (laid_is_place z steps s laid (inside s (contains_head s later))))
      (are_of-flat_map vars (readers s.place) later (λ s' in_later. are_of-flat_map vars (reader s.place) s'.slots (λ u in_slots.
      one_if vars (reads u s.place) (Var u.var true) (chosen_of s' u true (inside s' (contains_tail s s' later in_later)) in_slots))))))
      (used_clauses later (λ s' c. inside s' (contains_tail s s' later c)))

  equal_clauses : (constants : Bool) (s : StepSlots) (u : Slot) → Contains steps s → Contains s.slots u → AreClauses vars (equal_raw constants z s.place u)
  unfolding equal_raw
  equal_clauses true s u in_steps in_slots =
      let place : IsStepPlace z s.place = laid_is_place z steps s laid in_steps in
      clauses_both vars (written (Var u.var false ∷ Var (f_var z s.place false false) true ∷ [])) (written (Var u.var false ∷ Var (f_var z s.place true true) false ∷ []))
      (written_clauses vars (Var u.var false ∷ Var (f_var z s.place false false) true ∷ []) (
        chosen_of s u false in_steps in_slots,
        (
          operator_of vars basis z steps room s.place false false true place,
          tt,
        ),
      ))
      (written_clauses vars (Var u.var false ∷ Var (f_var z s.place true true) false ∷ []) (
        chosen_of s u false in_steps in_slots,
        (
          operator_of vars basis z steps room s.place true true false place,
          tt,
        ),
      ))
  equal_clauses false s u in_steps in_slots =
      let place : IsStepPlace z s.place = laid_is_place z steps s laid in_steps in
      written_clauses vars (Var u.var false ∷ Var (f_var z s.place false false) true ∷ Var (f_var z s.place true true) false ∷ [])
      (chosen_of s u false in_steps in_slots, (operator_of vars basis z steps room s.place false false true place, (operator_of vars basis z steps room s.place true true false place, tt)))

  negation_clauses : (s : StepSlots) (op : ℕ) → Contains steps s → AreClauses vars (negation_raw basis z s op)
  unfolding negation_raw equal_pair chosen
  negation_clauses s op in_steps = clauses_if vars (members basis op) (written (operator_raw z s.place op ++ flat_map equal_pair s.slots))
      (written_clauses vars (operator_raw z s.place op ++ flat_map equal_pair s.slots)
      (are_of-append vars (operator_raw z s.place op) (flat_map equal_pair s.slots) (raw_of vars basis z steps room s.place op (laid_is_place z steps s laid in_steps))
      (are_of-flat_map vars equal_pair s.slots (λ u in_slots. one_if vars (u.j == u.k) (Var u.var true) (chosen_of s u true in_steps in_slots)))))

  not_trivial_clauses : AreClauses vars (not_trivial basis z steps)
  unfolding not_trivial not_trivial_at equal_slot negations
  not_trivial_clauses = clauses_each vars (not_trivial_at (const_closed (members basis)) basis z) steps (λ s in_steps.
      clauses_both vars (not_idle (const_closed (members basis)) basis z s.place ++ flat_map (equal_slot (const_closed (members basis)) z s.place) s.slots) (negations basis z s)
      (clauses_both vars (not_idle (const_closed (members basis)) basis z s.place) (flat_map (equal_slot (const_closed (members basis)) z s.place) s.slots)
      (idle_clauses vars basis z steps room (const_closed (members basis)) s.place (laid_is_place z steps s laid in_steps))
      (clauses_each vars (equal_slot (const_closed (members basis)) z s.place) s.slots (λ u in_slots.
      clauses_if vars (u.j == u.k) (equal_raw (const_closed (members basis)) z s.place u)
      (equal_clauses (const_closed (members basis)) s u in_steps in_slots))))
      (clauses_each vars (negation_raw basis z s) (10 ∷ 12 ∷ []) (λ op c. negation_clauses s op in_steps)))

  order_clauses : (later : List StepSlots) → ((s : StepSlots) → Contains later s → Contains steps s) → AreClauses vars (order later)
  unfolding order order_with order_slot order_pair
  order_clauses [] inside = no_clauses vars
  order_clauses (s ∷ []) inside = no_clauses vars
  order_clauses (s ∷ (s' ∷ later)) inside =
      clauses_both vars (order_with s (s' ∷ later)) (order (s' ∷ later))
      (clauses_each vars (order_slot s'.slots) s.slots (λ u in_slots. clauses_each vars (order_pair u) s'.slots (λ u' in_slots'.
      clauses_if vars (comes_before u' u) (not_both u u')
      (not_both_clauses s s' u u' (inside s (contains_head s (s' ∷ later))) in_slots
      (inside s' (contains_tail s s' (s' ∷ later) (contains_head s' later))) in_slots'))))
      (order_clauses (s' ∷ later) (λ x c. inside x (contains_tail s x (s' ∷ later) c)))

  no_reapplication_clauses : (later : List StepSlots) → ((s : StepSlots) → Contains later s → Contains steps s) → AreClauses vars (no_reapplication_all later)
  unfolding no_reapplication_all no_reapplication_later no_reapplication_slot no_reapplication_pair
  no_reapplication_clauses [] inside = no_clauses vars
  no_reapplication_clauses (s ∷ later) inside =
      clauses_both vars (flat_map (no_reapplication_later s) later) (no_reapplication_all later)
      (clauses_each vars (no_reapplication_later s) later (λ s' in_later.
      clauses_each vars (no_reapplication_slot s.place (reading s.place s'.slots)) s.slots (λ u in_slots.
      clauses_each vars (no_reapplication_pair s.place u) (reading s.place s'.slots) (λ u' in_reading.
      clauses_if vars (is_reapplication s.place u u') (not_both u u')
      (not_both_clauses s s' u u' (inside s (contains_head s later)) in_slots
      (inside s' (contains_tail s s' later in_later)) (filter_get (has_place s.place) s'.slots u' in_reading))))))
      (no_reapplication_clauses later (λ x c. inside x (contains_tail s x later c)))

  pub exchange_clauses : (p q : ℕ) (before : List RawLit) (later : List StepSlots) → AreOf vars before →
      ((s : StepSlots) → Contains later s → Contains steps s) → AreClauses vars (exchange_steps p q before later)
  unfolding exchange_steps exchange_slot readers_without reader_without chosen
  exchange_clauses p q before [] are inside = no_clauses vars
  exchange_clauses p q before (s ∷ later) are inside =
      let in_steps = inside s (contains_head s later) in
      clauses_both vars (flat_map (exchange_slot p q before) s.slots) (exchange_steps p q (before ++ readers_without p q s) later)
      (clauses_each vars (exchange_slot p q before) s.slots (λ u in_slots.
      clauses_if vars (reads_without q p u) (written (Var u.var false ∷ before))
      (written_clauses vars (Var u.var false ∷ before) (chosen_of s u false in_steps in_slots, are))))
      (exchange_clauses p q (before ++ readers_without p q s) later
      (are_of-append vars before (readers_without p q s) are
      (are_of-flat_map vars (reader_without p q) s.slots (λ u in_slots.
      one_if vars (reads_without p q u) (Var u.var true) (chosen_of s u true in_steps in_slots))))
      (λ x c. inside x (contains_tail s x later c)))

  pub cuts_clauses : AreClauses vars (cuts w basis z steps)
  unfolding cuts no_reapplication exchange exchange_with exchange_pair
  cuts_clauses =
      clauses_both vars _ (row_0 basis z)
      (clauses_both vars _ (exchange w steps)
      (clauses_both vars _ (no_reapplication basis steps)
      (clauses_both vars _ (order steps)
      (clauses_both vars (used z steps) (not_trivial basis z steps) (used_clauses steps (λ s c. c)) not_trivial_clauses)
      (order_clauses steps (λ s c. c)))
      (clauses_if vars (reapply_closed (members basis)) (no_reapplication_all steps) (no_reapplication_clauses steps (λ s c. c))))
      (clauses_each vars (exchange_with w steps) (range_with_len 1 w.n) (λ p c. clauses_each vars (exchange_pair w steps p) (range_with_len (suc p) (w.n - p)) (λ q c'.
      clauses_if vars (may_exchange w p q) (exchange_steps p q [] steps) (exchange_clauses p q [] steps tt (λ s d. d))))))
      (row_0_clauses vars basis z steps room)
