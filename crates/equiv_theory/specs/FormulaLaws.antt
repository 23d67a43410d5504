-- The miter is a formula: its variables are within bounds, and there are few clauses for each gate
-- and sink.
use Rattle.std.proofs.Common.{◌≡◌, ℕ, suc, ◌+◌, ◌*◌, ◌≤◌, ◌<◌, Bool, true, false, not, List, [], ◌∷◌, ◌++◌, All, length, slice_get, Some, Contains, refl, subst, arith, add-zero, length-append, ⊎_elim}
use Rattle.std.specs.List.{flat_map, range_with_len}
use Rattle.std.proofs.lemmas.Bool.{le-leb, lt-leb, cases_lt}
use Rattle.std.proofs.lemmas.List.Elements.{All-head, All-tail, Contains-append_cases}
use Rattle.sat_theory.specs.Formula.{IsFormula}
use Rattle.clause_core.specs.declared.raw.RawLit.{RawLit}
use Rattle.clause_core.specs.declared.raw.RawLit.TheVariants.{Fixed, Var}
use Rattle.clause_core.specs.Clauses.{written}
use Rattle.clause_core.specs.CountLaws.{pieces-few, written-few}
use Rattle.clause_core.specs.Holds.{contains_cases, range_inside, ArePositive, IsPositive}
use Rattle.clause_core.specs.WrittenLaws.{IsOf, AreOf, are_of-map, written_clauses, clauses_each, are_formula}
use Rattle.net_theory.specs.declared.data.Sig.{Sig}
use Rattle.net_theory.specs.declared.data.Sig.TheVariants.{Zero, One, Node}
use Rattle.net_theory.specs.declared.data.Gate.{Gate}
use Rattle.net_theory.specs.Net.{Net, IsGateAt, IsSigBelow, end_of}
use Rattle.net_theory.specs.ValueLaws.{below_later}
use Rattle.equiv_theory.specs.Miter.{variable_at, first_variable, second_variable, first_difference, variables}
use Rattle.equiv_theory.specs.Miter.{signal_is, gate_row, gate_rows, gates_rows, sink_row, sink_rows, sinks_rows}
use Rattle.equiv_theory.specs.Miter.{some_row, miter_rows, miter}
use Rattle.equiv_theory.specs.Counterexample.{AreComparable}

-- ---- variables of nodes

pub variable_at-source : (sources before p : ℕ) → p ≤ sources → variable_at sources before p ≡ p
unfolding variable_at
variable_at-source sources before p low = rw (le-leb p sources low) refl

pub variable_at-gate : (sources before p : ℕ) → sources < p → variable_at sources before p ≡ p + before
unfolding variable_at
variable_at-gate sources before p high = rw (lt-leb p sources high) refl

-- the nodes from 1 on and below a bound have variables from 1 to `vars`
abbrev pub VariablesWithin : ℕ → (ℕ → ℕ) → ℕ → Type 0
VariablesWithin vars var bound = (p : ℕ) → 1 ≤ p → p < bound → (1 ≤ var p) × (var p ≤ vars)

pub variables_within : (vars sources before bound : ℕ) → bound + before ≤ vars + 1 → VariablesWithin vars (variable_at sources before) bound
variables_within vars sources before bound room p some low =
    ⊎_elim
    (λ (high : sources < p). rw (variable_at-gate sources before p high) (omega arith, omega arith))
    (λ (low' : p ≤ sources). rw (variable_at-source sources before p low') (some, omega arith))
    (cases_lt sources p)

-- ---- clauses within bounds

-- the listed clauses have variables from 1 to `vars`
abbrev pub RowsWithin : ℕ → List (List RawLit) → Type 0
RowsWithin vars rows = (row : List RawLit) → Contains rows row → AreOf vars row

no_rows : (vars : ℕ) → RowsWithin vars []
no_rows vars row c = absurd (omega (arith, c.1))

more_rows : (vars : ℕ) (row : List RawLit) (rows : List (List RawLit)) → AreOf vars row → RowsWithin vars rows → RowsWithin vars (row ∷ rows)
more_rows vars row rows here later other c = ⊎_elim (λ (e : row ≡ other). subst (AreOf vars) e here) (λ (c' : Contains rows other). later other c') (contains_cases row other rows c)

both_within : (vars : ℕ) (xs ys : List (List RawLit)) → RowsWithin vars xs → RowsWithin vars ys → RowsWithin vars (xs ++ ys)
both_within vars xs ys one two row c = ⊎_elim (λ (c' : Contains xs row). one row c') (λ (c' : Contains ys row). two row c') (Contains-append_cases xs ys row c)

signal_of : (vars : ℕ) (var : ℕ → ℕ) (bound : ℕ) (s : Sig) (bit : Bool) → VariablesWithin vars var bound → IsSigBelow bound s → IsOf vars (signal_is var s bit)
signal_of vars var bound Zero bit within below = tt
signal_of vars var bound One bit within below = tt
signal_of vars var bound (Node p) bit within below = within p below.0 below.1

pub gate_row_of : (vars : ℕ) (var : ℕ → ℕ) (node bound : ℕ) (g : Gate) (a b : Bool) → 1 ≤ node → node < bound → VariablesWithin vars var bound → IsGateAt node g → AreOf vars (gate_row var node g a b)
unfolding gate_row
gate_row_of vars var node bound g a b some low within is = (
  signal_of vars var bound g.a (not a) within (below_later g.a node bound (omega arith) is.first),
  (
    signal_of vars var bound g.b (not b) within (below_later g.b node bound (omega arith) is.second),
    (within node some low, tt),
  ),
)

-- the four clauses of a gate, and the two of a sink
gate_rows_of : (vars : ℕ) (var : ℕ → ℕ) (node : ℕ) (g : Gate) → ((a b : Bool) → AreOf vars (gate_row var node g a b)) → RowsWithin vars (gate_rows var node g)
gate_rows_of vars var node g row =
    more_rows vars (gate_row var node g false false) (gate_row var node g false true ∷ gate_row var node g true false ∷ gate_row var node g true true ∷ []) (row false false)
    (more_rows vars (gate_row var node g false true) (gate_row var node g true false ∷ gate_row var node g true true ∷ []) (row false true)
    (more_rows vars (gate_row var node g true false) (gate_row var node g true true ∷ []) (row true false)
    (more_rows vars (gate_row var node g true true) [] (row true true) (no_rows vars))))

sink_rows_of : (vars : ℕ) (var other : ℕ → ℕ) (d : ℕ) (u w : Sig) → ((bit : Bool) → AreOf vars (sink_row var other d u w bit)) → RowsWithin vars (sink_rows var other d u w)
sink_rows_of vars var other d u w row =
    more_rows vars (sink_row var other d u w false) (sink_row var other d u w true ∷ []) (row false) (more_rows vars (sink_row var other d u w true) [] (row true) (no_rows vars))

gates_rows_of : (vars : ℕ) (var : ℕ → ℕ) (node bound : ℕ) (gs : List Gate) → 1 ≤ node → node + length gs ≤ bound →
    VariablesWithin vars var bound → ((i : ℕ) (h : Gate) → slice_get gs i ≡ Some h → IsGateAt (node + i) h) →
    RowsWithin vars (gates_rows var node gs)
unfolding gates_rows
gates_rows_of vars var node bound [] some room within are = no_rows vars
gates_rows_of vars var node bound (g ∷ gs) some room within are =
    let own : IsGateAt node g = subst (λ (q : ℕ). IsGateAt q g) (add-zero node) (are 0 g refl) in
    let later : (i : ℕ) (x : Gate) → slice_get gs i ≡ Some x → IsGateAt ((node + 1) + i) x = λ i x at. let e : node + suc i ≡ (node + 1) + i = omega arith in
    subst (λ (q : ℕ). IsGateAt q x) e (are (suc i) x at) in
    let row : (a b : Bool) → AreOf vars (gate_row var node g a b) = λ a b. gate_row_of vars var node bound g a b some (omega arith) within own in
    both_within vars (gate_rows var node g) (gates_rows var (node + 1) gs)
    (gate_rows_of vars var node g row)
    (gates_rows_of vars var (node + 1) bound gs (omega arith) (omega arith) within later)

pub sink_row_of : (vars : ℕ) (var other : ℕ → ℕ) (bound bound' d : ℕ) (u w : Sig) (bit : Bool) → 1 ≤ d → d ≤ vars →
    VariablesWithin vars var bound → VariablesWithin vars other bound' → IsSigBelow bound u → IsSigBelow bound' w →
    AreOf vars (sink_row var other d u w bit)
unfolding sink_row
sink_row_of vars var other bound bound' d u w bit some low within within' below below' =
    ((some, low), (signal_of vars var bound u bit within below, (signal_of vars other bound' w bit within' below', tt)))

sinks_rows_of : (vars : ℕ) (var other : ℕ → ℕ) (bound bound' d : ℕ) (us ws : List Sig) → 1 ≤ d →
    d + length us ≤ vars + 1 → VariablesWithin vars var bound → VariablesWithin vars other bound' →
    All (IsSigBelow bound) us → All (IsSigBelow bound') ws → RowsWithin vars (sinks_rows var other d us ws)
unfolding sinks_rows
sinks_rows_of vars var other bound bound' d [] ws some room within within' below below' = no_rows vars
sinks_rows_of vars var other bound bound' d (u ∷ us) [] some room within within' below below' = no_rows vars
sinks_rows_of vars var other bound bound' d (u ∷ us) (w ∷ ws) some room within within' below below' =
    let row : (bit : Bool) → AreOf vars (sink_row var other d u w bit) =
    λ bit. sink_row_of vars var other bound bound' d u w bit some (omega arith) within within'
    (All-head (IsSigBelow bound) u us below) (All-head (IsSigBelow bound') w ws below') in
    both_within vars (sink_rows var other d u w) (sinks_rows var other (d + 1) us ws)
    (sink_rows_of vars var other d u w row)
    (sinks_rows_of vars var other bound bound' (d + 1) us ws (omega arith) (omega arith) within within' (All-tail (IsSigBelow bound) u us below) (All-tail (IsSigBelow bound') w ws below'))

pub some_row_of : (vars d count : ℕ) → 1 ≤ d → d + count ≤ vars + 1 → AreOf vars (some_row d count)
unfolding some_row
some_row_of vars d count some room = are_of-map vars (λ x. Var x true) (range_with_len d count) (λ x c. let within = range_inside d count x c in (omega (arith, within.0), omega (arith, within.1)))

-- the variables of the two nets' nodes are variables of the miter
pub first_within : (first second : Net) → VariablesWithin (variables first second) (first_variable first) (end_of first)
first_within first second = variables_within (variables first second) first.sources 0 (end_of first) (omega arith)

pub second_within : (first second : Net) → first.sources ≡ second.sources → VariablesWithin (variables first second) (second_variable first second) (end_of second)
second_within first second sources = variables_within (variables first second) second.sources (length first.gates) (end_of second) (omega arith)

pub miter_within : (first second : Net) → AreComparable first second → RowsWithin (variables first second) (miter_rows first second)
unfolding miter_rows
miter_within first second are =
    both_within (variables first second) (gates_rows (first_variable first) (first.sources + 1) first.gates) _
    (gates_rows_of (variables first second) (first_variable first) (first.sources + 1) (end_of first) first.gates (omega arith) (omega arith) (first_within first second) are.first_net.gates.each)
    (both_within (variables first second) (gates_rows (second_variable first second) (second.sources + 1) second.gates) _
    (gates_rows_of (variables first second) (second_variable first second) (second.sources + 1)
    (end_of second) second.gates (omega arith) (omega arith)
    (second_within first second are.sources) are.second_net.gates.each)
    (both_within (variables first second) (sinks_rows (first_variable first) (second_variable first second) (first_difference first second) first.sinks second.sinks) _
    (sinks_rows_of (variables first second) (first_variable first) (second_variable first second) (end_of first)
    (end_of second) (first_difference first second) first.sinks second.sinks (omega arith) (omega arith)
    (first_within first second) (second_within first second are.sources) are.first_net.sinks are.second_net.sinks)
    (more_rows (variables first second) (some_row (first_difference first second) (length first.sinks)) []
    (some_row_of (variables first second) (first_difference first second) (length first.sinks) (omega arith)
    (omega arith)) (no_rows (variables first second)))))

pub miter_formula : (first second : Net) → AreComparable first second → IsFormula (miter first second)
unfolding miter
miter_formula first second are =
    are_formula (record { vars = variables first second; clauses = flat_map written (miter_rows first second) })
    (clauses_each (variables first second) written (miter_rows first second) (λ row c. written_clauses (variables first second) row (miter_within first second are row c)))

-- variables are numbered from 1
raw_positive : (vars : ℕ) (raw : RawLit) → IsOf vars raw → IsPositive raw
raw_positive vars (Fixed bit) is = tt
raw_positive vars (Var x bit) is = is.0

row_positive : (vars : ℕ) (row : List RawLit) → AreOf vars row → ArePositive row
row_positive vars [] are = tt
row_positive vars (raw ∷ row) are = (raw_positive vars raw are.0, row_positive vars row are.1)

pub miter_positive : (first second : Net) → AreComparable first second → (row : List RawLit) → Contains (miter_rows first second) row → ArePositive row
miter_positive first second are row c = row_positive (variables first second) row (miter_within first second are row c)

-- ---- how many clauses

gates_rows_length : (var : ℕ → ℕ) (node : ℕ) (gs : List Gate) → length (gates_rows var node gs) ≡ length gs * 4
unfolding gates_rows
gates_rows_length var node [] = refl
gates_rows_length var node (g ∷ gs) = let ih : length (gates_rows var (node + 1) gs) ≡ length gs * 4 = gates_rows_length var (node + 1) gs in omega arith

sinks_rows_length : (var other : ℕ → ℕ) (d : ℕ) (us ws : List Sig) → length (sinks_rows var other d us ws) ≤ length us * 2
unfolding sinks_rows
sinks_rows_length var other d [] ws = omega arith
sinks_rows_length var other d (u ∷ us) [] = omega arith
sinks_rows_length var other d (u ∷ us) (w ∷ ws) = let ih : length (sinks_rows var other (d + 1) us ws) ≤ length us * 2 = sinks_rows_length var other (d + 1) us ws in omega arith

miter_rows_length : (first second : Net) → length (miter_rows first second) ≤ length first.gates * 4 + length second.gates * 4 + length first.sinks * 2 + 1
unfolding miter_rows
miter_rows_length first second =
    let sinks : List (List RawLit) = sinks_rows (first_variable first) (second_variable first second) (first_difference first second) first.sinks second.sinks in
    let last : List (List RawLit) = some_row (first_difference first second) (length first.sinks) ∷ [] in
    let ones : List (List RawLit) = gates_rows (first_variable first) (first.sources + 1) first.gates in
    let twos : List (List RawLit) = gates_rows (second_variable first second) (second.sources + 1) second.gates in
    let one : length (ones ++ (twos ++ (sinks ++ last))) ≡ length ones + length (twos ++ (sinks ++ last)) = length-append ones (twos ++ (sinks ++ last)) in
    let two : length (twos ++ (sinks ++ last)) ≡ length twos + length (sinks ++ last) = length-append twos (sinks ++ last) in
    let three : length (sinks ++ last) ≡ length sinks + 1 = length-append sinks last in
    let a : length ones ≡ length first.gates * 4 = gates_rows_length (first_variable first) (first.sources + 1) first.gates in
    let b : length twos ≡ length second.gates * 4 = gates_rows_length (second_variable first second) (second.sources + 1) second.gates in
    let c : length sinks ≤ length first.sinks * 2 = sinks_rows_length (first_variable first) (second_variable first second) (first_difference first second) first.sinks second.sinks in
    omega arith

pub miter_few : (first second : Net) → length (miter first second).clauses ≤ length first.gates * 4 + length second.gates * 4 + length first.sinks * 2 + 1
unfolding miter
miter_few first second =
    let few : length (flat_map written (miter_rows first second)) ≤ length (miter_rows first second) * 1 = pieces-few written 1 (miter_rows first second) written-few in
    let rows = miter_rows_length first second in
    omega (arith, few, rows)
