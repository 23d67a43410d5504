-- The miter is satisfiable exactly if some assignment of the sources gives some sink two different values.
use Rattle.std.proofs.Common.{◌≡◌, ◌≢◌, ℕ, ◌+◌, ◌-◌, ◌≤◌, ◌<◌, Bool, true, false, [], length, slice_get, Some, refl, sym, ap, ◌∙◌, arith, ⊎_elim}
use Rattle.std.specs.Prelude.{nat_lt, if◌then◌else◌, slice_index_or}
use Rattle.std.specs.List.{flat_map, range_with_len}
use Rattle.std.proofs.lemmas.Bool.{lt-ltb, le-ltb, cases_lt}
use Rattle.std.proofs.lemmas.List.{get_or-map}
use Rattle.std.proofs.lemmas.Option.{slice_get-get_or, slice_get_within, get_or_from_slice_get}
use Rattle.sat_theory.specs.Formula.{Assignment, Satisfies}
use Rattle.clause_core.specs.declared.raw.RawLit.TheVariants.{Var}
use Rattle.clause_core.specs.Clauses.{written, IsSatisfiable}
use Rattle.clause_core.specs.Holds.{holds_satisfied, satisfied_holds, same, raw_value, raws_bit, raws_bit-map, any_get, any_make, range_contains, range_inside}
use Rattle.net_theory.specs.declared.data.Sig.{Sig}
use Rattle.net_theory.specs.declared.data.Sig.TheVariants.{Zero}
use Rattle.net_theory.specs.NameLaws.{all_at}
use Rattle.net_theory.specs.Net.{Net, IsNet, IsSigBelow, sig_value, value, end_of}
use Rattle.net_theory.specs.ValueLaws.{value-source, sig_value-same}
use Rattle.equiv_theory.specs.Miter.{first_variable, second_variable, first_difference, variables, gates_rows, sinks_rows, some_row, miter_rows, miter}
use Rattle.equiv_theory.specs.Counterexample.{sink_bit, AreComparable, DifferAt, Differ}
use Rattle.equiv_theory.specs.RowLaws.{are_true, written_true, true_both, both_true, true_first, first_true, none_true, seen_by, is_other}
use Rattle.equiv_theory.specs.GateLaws.{gates_true, gates_made, values_true, values_hold, sinks_true, AreSinkDifferences, sinks_made}
use Rattle.equiv_theory.specs.FormulaLaws.{variable_at-source, variable_at-gate, miter_positive}

-- ---- sinks

-- the bit of a sink is its signal's value
pub sink_bit_is : (n : Net) (given : ℕ → Bool) (i : ℕ) (u : Sig) → slice_get n.sinks i ≡ Some u → sink_bit n given i ≡ sig_value (value n given) u
sink_bit_is n given i u at =
    get_or-map (sig_value (value n given)) n.sinks i u false (slice_get_within n.sinks i u at)
    ∙ ap (sig_value (value n given)) (get_or_from_slice_get n.sinks i u u at)

-- the signal of a sink
abbrev sink_at : Net → ℕ → Sig
sink_at n i = slice_index_or n.sinks i Zero

sink_there : (n : Net) (i : ℕ) → i < length n.sinks → slice_get n.sinks i ≡ Some (sink_at n i)
sink_there n i low = slice_get-get_or n.sinks i Zero low

-- ---- a model of the miter shows a difference

-- some sink's variable is true
record HasTrueIn (v : Assignment) (d count : ℕ) : Type 0 where
  at : ℕ
  below : at < count
  is : v (d + at) ≡ true

var_true : (v : Assignment) (x : ℕ) → raw_value v (Var x true) ≡ v x
unfolding raw_value same
var_true v x = refl

some_true : (v : Assignment) (d count : ℕ) → raws_bit v (some_row d count) ≡ true → HasTrueIn v d count
unfolding some_row
some_true v d count is =
    let found = any_get (λ x. raw_value v (Var x true)) (range_with_len d count) (sym (raws_bit-map v (λ x. Var x true) (range_with_len d count)) ∙ is) in
    let inside = range_inside d count found.element found.inside in
    let e : d + (found.element - d) ≡ found.element = omega (arith, inside.0) in
    record { at = found.element - d; below = omega (arith, inside.0, inside.1); is = ap v e ∙ sym (var_true v found.element) ∙ found.passes }

-- all four parts of the miter are true
record AreParts (v : Assignment) (first second : Net) : Type 0 where
  ones : are_true v (gates_rows (first_variable first) (first.sources + 1) first.gates) ≡ true
  twos : are_true v (gates_rows (second_variable first second) (second.sources + 1) second.gates) ≡ true
  sinks : are_true v (sinks_rows (first_variable first) (second_variable first second) (first_difference first second) first.sinks second.sinks) ≡ true
  some : raws_bit v (some_row (first_difference first second) (length first.sinks)) ≡ true

parts_of : (v : Assignment) (first second : Net) → are_true v (miter_rows first second) ≡ true → AreParts v first second
unfolding miter_rows
parts_of v first second all =
    let one = true_both v (gates_rows (first_variable first) (first.sources + 1) first.gates) _ all in
    let two = true_both v (gates_rows (second_variable first second) (second.sources + 1) second.gates) _ one.1 in
    let three = true_both v (sinks_rows (first_variable first) (second_variable first second) (first_difference first second) first.sinks second.sinks) _ two.1 in
    let four = true_first v (some_row (first_difference first second) (length first.sinks)) [] three.1 in
    record { ones = one.0; twos = two.0; sinks = three.0; some = four.0 }

made_of : (v : Assignment) (first second : Net) → AreParts v first second → are_true v (miter_rows first second) ≡ true
unfolding miter_rows
made_of v first second parts =
    both_true v _ _ parts.ones (both_true v _ _ parts.twos (both_true v _ _ parts.sinks (first_true v _ [] parts.some (none_true v))))

miter_true : (v : Assignment) (first second : Net) → AreComparable first second → Satisfies v (miter first second) → AreParts v first second
unfolding miter
miter_true v first second are satisfied =
    parts_of v first second (sym (written_true v (miter_rows first second) (miter_positive first second are))
    ∙ holds_satisfied v (record {
      vars = variables first second;
      clauses = flat_map written (miter_rows first second);
    }) satisfied)

true_miter : (v : Assignment) (first second : Net) → AreComparable first second → AreParts v first second → Satisfies v (miter first second)
unfolding miter
true_miter v first second are parts =
    satisfied_holds v (record { vars = variables first second; clauses = flat_map written (miter_rows first second) })
    (written_true v (miter_rows first second) (miter_positive first second are) ∙ made_of v first second parts)

-- the value of a sink, from the variables
seen_sink : (n : Net) (given bits : ℕ → Bool) (i : ℕ) (u : Sig) → IsNet n → ((p : ℕ) → p < end_of n → value n given p ≡ bits p) → slice_get n.sinks i ≡ Some u → sink_bit n given i ≡ sig_value bits u
seen_sink n given bits i u is agree at =
    sink_bit_is n given i u at ∙ sig_value-same (value n given) bits u (end_of n) (all_at (IsSigBelow (end_of n)) n.sinks i u is.sinks at) agree

-- If an assignment satisfies the miter, the nets differ at some sink under its values of the sources.
pub satisfied_differ : (first second : Net) (v : Assignment) → AreComparable first second → Satisfies v (miter first second) → (i : ℕ) × DifferAt first second v i
satisfied_differ first second v are satisfied =
    let parts = miter_true v first second are satisfied in
    let where_true = some_true v (first_difference first second) (length first.sinks) parts.some in
    let here : slice_get first.sinks where_true.at ≡ Some (sink_at first where_true.at) = sink_there first where_true.at where_true.below in
    let there : slice_get second.sinks where_true.at ≡ Some (sink_at second where_true.at) = sink_there second where_true.at (omega (arith, where_true.below, are.sinks)) in
    let ones = values_true first v (seen_by v (first_variable first)) are.first_net (λ p low.
    ap v (variable_at-source first.sources 0 p low))
    (gates_true v (first_variable first) (first.sources + 1) first.gates parts.ones) in
    let twos = values_true second v (seen_by v (second_variable first second)) are.second_net (λ p low.
    ap v (variable_at-source second.sources (length first.gates) p low))
    (gates_true v (second_variable first second) (second.sources + 1) second.gates parts.twos) in
    let one = seen_sink first v (seen_by v (first_variable first)) where_true.at (sink_at first where_true.at) are.first_net ones here in
    let two = seen_sink second v (seen_by v (second_variable first second)) where_true.at (sink_at second where_true.at) are.second_net twos there in
    let apart = sinks_true v (first_variable first) (second_variable first second)
    (first_difference first second) first.sinks second.sinks parts.sinks where_true.at (sink_at first where_true.at)
    (sink_at second where_true.at) here there where_true.is in
    (where_true.at, record { below = where_true.below; differ = λ same. apart (sym one ∙ same ∙ two) })

-- ---- a difference gives a model

-- the values of the nodes of both nets, and which sinks differ
unfoldable pub assigned : Net → Net → (ℕ → Bool) → Assignment
assigned first second given x =
    if nat_lt x (end_of first) then value first given x else (if nat_lt x (first_difference first second) then value
    second given (x - length first.gates) else is_other (sink_bit first given (x - first_difference first second))
    (sink_bit second given (x - first_difference first second)))

assigned_first : (first second : Net) (given : ℕ → Bool) (x : ℕ) → x < end_of first → assigned first second given x ≡ value first given x
unfolding assigned
assigned_first first second given x low = rw (lt-ltb x (end_of first) low) refl

assigned_second : (first second : Net) (given : ℕ → Bool) (x : ℕ) → end_of first ≤ x → x < first_difference first second → assigned first second given x ≡ value second given (x - length first.gates)
unfolding assigned
assigned_second first second given x high low = rw (le-ltb x (end_of first) high, lt-ltb x (first_difference first second) low) refl

assigned_sink : (first second : Net) (given : ℕ → Bool) (i : ℕ) → assigned first second given (first_difference first second + i) ≡ is_other (sink_bit first given i) (sink_bit second given i)
unfolding assigned
assigned_sink first second given i =
    let e : first_difference first second + i - first_difference first second ≡ i = omega arith in
    rw (le-ltb (first_difference first second + i) (end_of first) (omega arith), le-ltb (first_difference first second + i) (first_difference first second) (omega arith), e) refl

seen_first : (first second : Net) (given : ℕ → Bool) (p : ℕ) → p < end_of first → seen_by (assigned first second given) (first_variable first) p ≡ value first given p
seen_first first second given p low =
    ⊎_elim
    (λ (high : first.sources < p). ap (assigned first second given) (variable_at-gate first.sources 0 p high ∙ (let e : p + 0 ≡ p = omega arith in e)) ∙ assigned_first first second given p low)
    (λ (small : p ≤ first.sources). ap (assigned first second given) (variable_at-source first.sources 0 p small) ∙ assigned_first first second given p low)
    (cases_lt first.sources p)

seen_second : (first second : Net) (given : ℕ → Bool) (p : ℕ) → first.sources ≡ second.sources → p < end_of second →
    seen_by (assigned first second given) (second_variable first second) p ≡ value second given p
seen_second first second given p sources low =
    ⊎_elim
    (λ (high : second.sources < p).
    ap (assigned first second given) (variable_at-gate second.sources (length first.gates) p high)
    ∙ assigned_second first second given (p + length first.gates) (omega (arith, sources)) (omega (arith, sources))
    ∙ ap (value second given) (let e : p + length first.gates - length first.gates ≡ p = omega arith in e))
    (λ (small : p ≤ second.sources).
    ap (assigned first second given) (variable_at-source second.sources (length first.gates) p small)
    ∙ assigned_first first second given p (omega (arith, sources))
    ∙ value-source given first.sources p first.gates (omega (arith, sources))
    ∙ sym (value-source given second.sources p second.gates small))
    (cases_lt second.sources p)

other_true : (x y : Bool) → x ≢ y → is_other x y ≡ true
other_true true true d = absurd (d refl)
other_true true false d = refl
other_true false true d = refl
other_true false false d = absurd (d refl)

-- If the nets differ, the values of their nodes satisfy the miter.
pub differ_satisfied : (first second : Net) (given : ℕ → Bool) (i : ℕ) → AreComparable first second → DifferAt first second given i → Satisfies (assigned first second given) (miter first second)
unfolding some_row
differ_satisfied first second given i are at = true_miter v first second are record {
  ones = gates_made v (first_variable first) (first.sources + 1) first.gates (values_hold first given (seen_by v (first_variable first)) are.first_net ones);
  twos = gates_made v (second_variable first second) (second.sources + 1) second.gates (values_hold second given (seen_by v (second_variable first second)) are.second_net twos);
  sinks = sinks_made v (first_variable first) (second_variable first second) d first.sinks second.sinks differences;
  some = raws_bit-map v (λ x. Var x true) (range_with_len d (length first.sinks))
      ∙ any_make (λ x. raw_value v (Var x true)) (range_with_len d (length first.sinks)) (d + i)
      (range_contains d (length first.sinks) (d + i) (omega arith) (omega (arith, at.below))) (var_true v (d + i)
      ∙ assigned_sink first second given i ∙ other_true (sink_bit first given i) (sink_bit second given i) at.differ);
} where
  v : Assignment
  v = assigned first second given

  d : ℕ
  d = first_difference first second

  ones : (p : ℕ) → p < end_of first → seen_by v (first_variable first) p ≡ value first given p
  ones p low = seen_first first second given p low

  twos : (p : ℕ) → p < end_of second → seen_by v (second_variable first second) p ≡ value second given p
  twos p low = seen_second first second given p are.sources low

  differences : AreSinkDifferences v (seen_by v (first_variable first)) (seen_by v (second_variable first second)) d first.sinks second.sinks
  differences j u w here there =
      assigned_sink first second given j
      ∙ ap (λ (x : Bool). is_other x (sink_bit second given j)) (seen_sink first given (seen_by v (first_variable first)) j u are.first_net (λ p low. sym (ones p low)) here)
      ∙ ap (λ (y : Bool). is_other (sig_value (seen_by v (first_variable first)) u) y)
      (seen_sink second given (seen_by v (second_variable first second)) j w are.second_net (λ p low.
      sym (twos p low)) there)

-- ---- the law

pub miter_sound : (first second : Net) → AreComparable first second → IsSatisfiable (miter first second) → Differ first second
miter_sound first second are (v, satisfied) = let found = satisfied_differ first second v are satisfied in (v, found.0, found.1)

pub miter_complete : (first second : Net) → AreComparable first second → Differ first second → IsSatisfiable (miter first second)
miter_complete first second are (given, i, at) = (assigned first second given, differ_satisfied first second given i are at)
