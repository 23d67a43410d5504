-- The parts of the writer's document: the tables of gates, constants and outputs, and the latches.
use Rattle.std.specs.Prelude.{◌≡◌, ℕ, zero, suc, ◌+◌, ◌≤◌, ◌<◌, Bool, true, false, if◌then◌else◌, List, [], ◌∷◌, ◌++◌, length, map, slice_get, sum_by, All, Some, ◌⊎◌, refl}
use Rattle.std.specs.List.{list_any}
use Rattle.std.proofs.Common.{add-zero, arith, sym, ◌∙◌, ap, subst, inl, inr, ⊎_elim, drop}
use Rattle.std.proofs.lemmas.Bool.{both_ways, cond_both, cases_eq, false_from_ne_true, or_left, or_right}
use Rattle.std.proofs.lemmas.List.Elements.{All-nil, All-cons, All-head, All-tail}
use Rattle.std.proofs.lemmas.List.Sums.{sum_by-cons}
use Rattle.net_theory.specs.declared.data.Sig.{Sig}
use Rattle.net_theory.specs.declared.data.Sig.TheVariants.{Zero, One}
use Rattle.net_theory.specs.declared.data.Gate.{Gate}
use Rattle.net_theory.specs.Net.{IsSigBelow, IsGateAt, sig_value, gate_value}
use Rattle.net_theory.specs.Document.{Name, IsName, has, are_distinct, Table, Latch, LatchLine, table_output, latch_of, latch_input}
use Rattle.net_theory.specs.NameLaws.{has_none, has_first, has_later, has_cases, has_left, has_right, has_either, distinct_cons}
use Rattle.net_theory.specs.Behaviour.{HoldsIn}
use Rattle.net_theory.specs.Cost.{table_cost}
use Rattle.blif_core.specs.Written.{constant_table, gate_table, gate_tables, is_zero, is_one, table_if, latch_lines, output_table, output_tables}
use Rattle.blif_laws.specs.Spelled.{IsSpelledTable}
use Rattle.blif_laws.specs.Layers.{IsLayer, AreLayered}
use Rattle.blif_laws.proofs.GateTables.{AreNamesBelow, IsGateTable, gate_is, IsOutputTable, output_is, constant_is, constant_cost, constant_hold}

-- ---- gates

-- gates, of which the first is the node `node`, and their names
pub record AreToBeWritten (name : ℕ → Name) (node : ℕ) (gs : List Gate) (ns : List Name) : Type 0 where
  pub below : AreNamesBelow name node
  pub gates : (i : ℕ) (g : Gate) → slice_get gs i ≡ Some g → IsGateAt (node + i) g
  pub named : (i : ℕ) (n : Name) → slice_get ns i ≡ Some n → name (node + i) ≡ n
  pub names : (n : Name) → has ns n ≡ true → IsName n

next_written : (name : ℕ → Name) (node : ℕ) (g : Gate) (gs : List Gate) (n : Name) (ns : List Name) → AreToBeWritten name node (g ∷ gs) (n ∷ ns) → AreToBeWritten name (node + 1) gs ns
next_written name node g gs n ns are =
    let here : name node ≡ n = subst (λ (p : ℕ). name p ≡ n) (add-zero node) (are.named 0 n refl) in
    let later : (i : ℕ) → node + suc i ≡ node + 1 + i = λ i. omega arith in
    record {
      below = λ p low high. ⊎_elim (λ same. subst IsName (sym (ap name same ∙ here)) (are.names n (has_first n ns))) (λ other. are.below p low (omega (arith, high, other))) (cases_eq p node);
      gates = λ i h at. subst (λ (p : ℕ). IsGateAt p h) (later i) (are.gates (suc i) h at);
      named = λ i m at. subst (λ (p : ℕ). name p ≡ m) (later i) (are.named (suc i) m at);
      names = λ m there. are.names m (has_later n ns m there);
    }

first_gate : (name : ℕ → Name) (node : ℕ) (g : Gate) (gs : List Gate) (n : Name) (ns : List Name) → AreToBeWritten name node (g ∷ gs) (n ∷ ns) → IsGateTable name node n g (gate_table name n g)
first_gate name node g gs n ns are =
    gate_is name node n g are.below (are.names n (has_first n ns)) (subst (λ (p : ℕ). IsGateAt p g) (add-zero node) (are.gates 0 g refl))

pub gates_outputs : (name : ℕ → Name) (node : ℕ) (gs : List Gate) (ns : List Name) → AreToBeWritten name node gs ns → length ns ≡ length gs → map table_output (gate_tables name gs ns) ≡ ns
unfolding gate_tables
gates_outputs name node [] [] are same = refl
gates_outputs name node [] (n ∷ ns) are same = absurd (omega (arith, same))
gates_outputs name node (g ∷ gs) [] are same = absurd (omega (arith, same))
gates_outputs name node (g ∷ gs) (n ∷ ns) are same =
    ap (λ (m : Name). m ∷ map table_output (gate_tables name gs ns)) (first_gate name node g gs n ns are).drives
    ∙ ap (λ (ms : List Name). n ∷ ms) (gates_outputs name (node + 1) gs ns (next_written name node g gs n ns are) (omega (arith, same)))

pub gates_spelled : (name : ℕ → Name) (node : ℕ) (gs : List Gate) (ns : List Name) → AreToBeWritten name node gs ns → All IsSpelledTable (gate_tables name gs ns)
unfolding gate_tables
gates_spelled name node [] ns are = All-nil IsSpelledTable
gates_spelled name node (g ∷ gs) [] are = All-nil IsSpelledTable
gates_spelled name node (g ∷ gs) (n ∷ ns) are =
    All-cons IsSpelledTable (gate_table name n g) (gate_tables name gs ns) (first_gate name node g gs n ns are).table (gates_spelled name (node + 1) gs ns (next_written name node g gs n ns are))

pub gates_cost : (name : ℕ → Name) (node : ℕ) (gs : List Gate) (ns : List Name) → AreToBeWritten name node gs ns → sum_by table_cost (gate_tables name gs ns) ≤ length gs
unfolding gate_tables
gates_cost name node [] ns are = omega arith
gates_cost name node (g ∷ gs) [] are = omega arith
gates_cost name node (g ∷ gs) (n ∷ ns) are =
    omega (
      arith,
      sum_by-cons table_cost (gate_table name n g) (gate_tables name gs ns),
      (first_gate name node g gs n ns are).cost,
      gates_cost name (node + 1) gs ns (next_written name node g gs n ns are),
    )

pub gates_layered : (name : ℕ → Name) (before : List Name) (node : ℕ) (gs : List Gate) (ns : List Name) →
    AreToBeWritten name node gs ns → ((p : ℕ) → 1 ≤ p → p < node → has before (name p) ≡ true) →
    ((n : Name) → has ns n ≡ true → has before n ≡ false) → are_distinct ns ≡ true →
    AreLayered before (gate_tables name gs ns)
unfolding gate_tables
gates_layered name before node [] ns are known apart distinct = tt
gates_layered name before node (g ∷ gs) [] are known apart distinct = tt
gates_layered name before node (g ∷ gs) (n ∷ ns) are known apart distinct =
    let table = first_gate name node g gs n ns are in
    let parts = distinct_cons n ns distinct in
    let here : name node ≡ n = subst (λ (p : ℕ). name p ≡ n) (add-zero node) (are.named 0 n refl) in
    let rest : AreLayered (before ++ n ∷ []) (gate_tables name gs ns) = gates_layered name (before ++ n ∷ []) (node + 1) gs ns (next_written name node g gs n ns are)
    (λ p low high. ⊎_elim
    (λ same. has_right before (n ∷ []) (name p) (subst (λ (m : Name). has (n ∷ []) m ≡ true) (sym (ap name same ∙ here)) (has_first n [])))
    (λ other. has_left before (n ∷ []) (name p) (known p low (omega (arith, high, other))))
    (cases_eq p node))
    (λ m there. false_from_ne_true (has (before ++ n ∷ []) m) (λ had. ⊎_elim
    (λ old. both_ways (has before m) (apart m (has_later n ns m there)) old)
    (λ new. ⊎_elim (λ same. both_ways (has ns n) parts.0 (subst (λ (x : Name). has ns x ≡ true) same there)) (λ none. has_none m none) (has_cases n [] m new))
    (has_either before (n ∷ []) m had)))
    parts.1 in (
      record {
        fresh = subst (λ (m : Name). has before m ≡ false) (sym table.drives) (apart n (has_first n ns));
        inputs = λ m read. let r = table.inputs m read in subst (λ (x : Name). has before x ≡ true) (sym r.3) (known r.0 r.1 r.2);
      },
      subst (λ (m : Name). AreLayered (before ++ m ∷ []) (gate_tables name gs ns)) (sym table.drives) rest,
    )

pub gates_hold : (name : ℕ → Name) (node : ℕ) (gs : List Gate) (ns : List Name) (v : Name →
    Bool) (i : ℕ) (g : Gate) (n : Name) → AreToBeWritten name node gs ns → All (HoldsIn v) (gate_tables name gs ns) →
    slice_get gs i ≡ Some g → slice_get ns i ≡ Some n → v n ≡ gate_value (λ p. v (name p)) g
unfolding gate_tables
gates_hold name node [] ns v i g n are hold at_g at_n = absurd cc
gates_hold name node (h ∷ gs) [] v i g n are hold at_g at_n = absurd cc
gates_hold name node (h ∷ gs) (m ∷ ns) v zero g n are hold at_g at_n =
    let same_g : h ≡ g = cc in
    let same_n : m ≡ n = cc in
    let table = first_gate name node h gs m ns are in
    ap v (sym same_n)
    ∙ ap v (sym table.drives)
    ∙ All-head (HoldsIn v) (gate_table name m h) (gate_tables name gs ns) hold
    ∙ table.value v
    ∙ ap (gate_value (λ p. v (name p))) same_g
gates_hold name node (h ∷ gs) (m ∷ ns) v (suc i) g n are hold at_g at_n =
    gates_hold name (node + 1) gs ns v i g n (next_written name node h gs m ns are) (All-tail (HoldsIn v) (gate_table name m h) (gate_tables name gs ns) hold) at_g at_n

-- ---- constants

abbrev pub one_of : Bool → Name → Name → Name
one_of z first second = if z then second else first

abbrev pub constants : Bool → Bool → Name → Name → List Table
constants z o first second = table_if z (constant_table false first) ++ table_if o (constant_table true (one_of z first second))

-- two distinct new names
pub record AreSpare (before : List Name) (first second : Name) : Type 0 where
  pub first_name : IsName first
  pub second_name : IsName second
  pub first_fresh : has before first ≡ false
  pub second_fresh : has before second ≡ false
  pub apart : first ≡ second → ⊥

constant_layer : (before : List Name) (bit : Bool) (n : Name) → has before n ≡ false → IsLayer before (constant_table bit n)
constant_layer before bit n fresh = record { fresh = fresh; inputs = λ m read. absurd (has_none m read) }

pub constants_layered : (before : List Name) (z o : Bool) (first second : Name) → AreSpare before first second → AreLayered before (constants z o first second)
constants_layered before false false first second are = tt
constants_layered before false true first second are = (constant_layer before true first are.first_fresh, tt)
constants_layered before true false first second are = (constant_layer before false first are.first_fresh, tt)
constants_layered before true true first second are = (
  constant_layer before false first are.first_fresh,
  (
    constant_layer (before ++ first ∷ []) true second
        (false_from_ne_true (has (before ++ first ∷ []) second) (λ had. ⊎_elim
        (λ old. both_ways (has before second) are.second_fresh old)
        (λ new. ⊎_elim (λ same. are.apart (sym same)) (λ none. has_none second none) (has_cases first [] second new))
        (has_either before (first ∷ []) second had))),
    tt,
  ),
)

pub constants_outputs : (z o : Bool) (first second n : Name) → has (map table_output (constants z o first second)) n ≡ true → (n ≡ first) ⊎ (n ≡ second)
constants_outputs false false first second n e = absurd (has_none n e)
constants_outputs false true first second n e = inl (⊎_elim (λ same. same) (λ none. absurd (has_none n none)) (has_cases first [] n e))
constants_outputs true false first second n e = inl (⊎_elim (λ same. same) (λ none. absurd (has_none n none)) (has_cases first [] n e))
constants_outputs true true first second n e =
    ⊎_elim (λ same. inl same) (λ later. inr (⊎_elim (λ same. same) (λ none. absurd (has_none n none)) (has_cases second [] n later))) (has_cases first (second ∷ []) n e)

pub constants_spelled : (z o : Bool) (first second : Name) → IsName first → IsName second → All IsSpelledTable (constants z o first second)
constants_spelled false false first second one two = All-nil IsSpelledTable
constants_spelled false true first second one two = All-cons IsSpelledTable (constant_table true first) [] (constant_is true first one) (All-nil IsSpelledTable)
constants_spelled true false first second one two = All-cons IsSpelledTable (constant_table false first) [] (constant_is false first one) (All-nil IsSpelledTable)
constants_spelled true true first second one two =
    All-cons IsSpelledTable (constant_table false first) (constant_table true second ∷ [])
    (constant_is false first one) (All-cons IsSpelledTable (constant_table true second) []
    (constant_is true second two) (All-nil IsSpelledTable))

one_cost : (bit : Bool) (n : Name) → sum_by table_cost (constant_table bit n ∷ []) ≡ 0
one_cost bit n = omega (arith, sum_by-cons table_cost (constant_table bit n) [], constant_cost bit n)

pub constants_cost : (z o : Bool) (first second : Name) → sum_by table_cost (constants z o first second) ≡ 0
constants_cost false false first second = refl
constants_cost false true first second = one_cost true first
constants_cost true false first second = one_cost false first
constants_cost true true first second = omega (arith, sum_by-cons table_cost (constant_table false first) (constant_table true second ∷ []), constant_cost false first, one_cost true second)

-- if a constant is needed, its name is driven and has its value
pub constants_zero : (z o : Bool) (first second : Name) (v : Name → Bool) → z ≡ true → All (HoldsIn v) (constants z o first second) → v first ≡ false
constants_zero false o first second v e hold = absurd cc
constants_zero true o first second v e hold = constant_hold v false first (All-head (HoldsIn v) (constant_table false first) (table_if o (constant_table true second)) hold)

pub constants_one : (z o : Bool) (first second : Name) (v : Name → Bool) → o ≡ true → All (HoldsIn v) (constants z o first second) → v (one_of z first second) ≡ true
constants_one z false first second v e hold = absurd cc
constants_one false true first second v e hold = constant_hold v true first (All-head (HoldsIn v) (constant_table true first) [] hold)
constants_one true true first second v e hold =
    constant_hold v true second (All-head (HoldsIn v) (constant_table true second) [] (All-tail (HoldsIn v) (constant_table false first) (constant_table true second ∷ []) hold))

pub zero_driven : (z o : Bool) (first second : Name) → z ≡ true → has (map table_output (constants z o first second)) first ≡ true
zero_driven false o first second e = absurd cc
zero_driven true o first second e = has_first first (map table_output (table_if o (constant_table true second)))

pub one_driven : (z o : Bool) (first second : Name) → o ≡ true → has (map table_output (constants z o first second)) (one_of z first second) ≡ true
one_driven z false first second e = absurd cc
one_driven false true first second e = has_first first []
one_driven true true first second e = has_later first (second ∷ []) second (has_first second [])

-- ---- outputs

-- outputs and their sinks, with the names of nodes
pub record AreOutputs (name : ℕ → Name) (node : ℕ) (outs : List Name) (sinks : List Sig) : Type 0 where
  pub names : (n : Name) → has outs n ≡ true → IsName n
  pub below : (i : ℕ) (s : Sig) → slice_get sinks i ≡ Some s → IsSigBelow node s
  pub nodes : AreNamesBelow name node

next_outputs : (name : ℕ → Name) (node : ℕ) (o : Name) (os : List Name) (s : Sig) (ss : List Sig) → AreOutputs name node (o ∷ os) (s ∷ ss) → AreOutputs name node os ss
next_outputs name node o os s ss are = record { names = λ n there. are.names n (has_later o os n there); below = λ i x at. are.below (suc i) x at; nodes = are.nodes }

first_output : (name : ℕ → Name) (node : ℕ) (o : Name) (os : List Name) (s : Sig) (ss : List Sig) → AreOutputs name node (o ∷ os) (s ∷ ss) → IsOutputTable name node o s (output_table name o s)
first_output name node o os s ss are = output_is name node o s are.nodes (are.names o (has_first o os)) (are.below 0 s refl)

abbrev more_outputs : (ℕ → Name) → List Name → Name → List Name → Sig → List Sig → List Table
more_outputs name written o os s ss = output_table name o s ∷ output_tables name (written ++ o ∷ []) os ss

pub outputs_layered : (name : ℕ → Name) (node : ℕ) (written before : List Name) (outs : List Name) (sinks : List Sig) →
    AreOutputs name node outs sinks → ((n : Name) → has outs n ≡ true → has before n ≡ true → has written n ≡ true) →
    ((p : ℕ) → 1 ≤ p → p < node → has before (name p) ≡ true) →
    AreLayered before (output_tables name written outs sinks)
unfolding output_tables
outputs_layered name node written before [] sinks are known reach = tt
outputs_layered name node written before (o ∷ os) [] are known reach = tt
outputs_layered name node written before (o ∷ os) (s ∷ ss) are known reach =
    let table = first_output name node o os s ss are in
    cond_both (has written o) (output_tables name written os ss) (more_outputs name written o os s ss) (AreLayered before)
    (λ there. outputs_layered name node written before os ss (next_outputs name node o os s ss are) (λ n out old. known n (has_later o os n out) old) reach)
    (λ new.
    let rest : AreLayered (before ++ o ∷ []) (output_tables name (written ++ o ∷ []) os ss) =
    outputs_layered name node (written ++ o ∷ []) (before ++ o ∷ []) os ss (next_outputs name node o os s ss are)
    (λ n out old. ⊎_elim
    (λ was. has_left written (o ∷ []) n (known n (has_later o os n out) was))
    (λ is. has_right written (o ∷ []) n is)
    (has_either before (o ∷ []) n old))
    (λ p low high. has_left before (o ∷ []) (name p) (reach p low high)) in (
      record {
        fresh = subst (λ (m : Name). has before m ≡ false) (sym table.drives) (false_from_ne_true (has before o) (λ old. both_ways (has written o) new (known o (has_first o os) old)));
        inputs = λ m read. let r = table.inputs m read in subst (λ (x : Name). has before x ≡ true) (sym r.3) (reach r.0 r.1 r.2);
      },
      subst (λ (m : Name). AreLayered (before ++ m ∷ []) (output_tables name (written ++ o ∷ []) os ss)) (sym table.drives) rest,
    ))

pub outputs_spelled : (name : ℕ → Name) (node : ℕ) (written outs : List Name) (sinks : List Sig) → AreOutputs name node outs sinks → All IsSpelledTable (output_tables name written outs sinks)
unfolding output_tables
outputs_spelled name node written [] sinks are = All-nil IsSpelledTable
outputs_spelled name node written (o ∷ os) [] are = All-nil IsSpelledTable
outputs_spelled name node written (o ∷ os) (s ∷ ss) are =
    cond_both (has written o) (output_tables name written os ss) (more_outputs name written o os s ss) (All IsSpelledTable)
    (λ there. outputs_spelled name node written os ss (next_outputs name node o os s ss are))
    (λ new. All-cons IsSpelledTable (output_table name o s) (output_tables name (written ++ o ∷ []) os ss)
    (first_output name node o os s ss are).table (outputs_spelled name node (written ++
    o ∷ []) os ss (next_outputs name node o os s ss are)))

pub outputs_cost : (name : ℕ → Name) (node : ℕ) (written outs : List Name) (sinks : List Sig) → AreOutputs name node outs sinks → sum_by table_cost (output_tables name written outs sinks) ≡ 0
unfolding output_tables
outputs_cost name node written [] sinks are = refl
outputs_cost name node written (o ∷ os) [] are = refl
outputs_cost name node written (o ∷ os) (s ∷ ss) are =
    cond_both (has written o) (output_tables name written os ss) (more_outputs name written o os s ss) (λ (ts : List Table). sum_by table_cost ts ≡ 0)
    (λ there. outputs_cost name node written os ss (next_outputs name node o os s ss are))
    (λ new. omega (
      arith,
      sum_by-cons table_cost (output_table name o s) (output_tables name (written ++
          o ∷ []) os ss),
      (first_output name node o os s ss are).cost,
      outputs_cost name node (written ++
          o ∷ []) os ss (next_outputs name node o os s ss are),
    ))

-- each table drives an output that wasn't written before
pub outputs_new : (name : ℕ → Name) (node : ℕ) (written outs : List Name) (sinks : List Sig) (n : Name) →
    AreOutputs name node outs sinks → has (map table_output (output_tables name written outs sinks)) n ≡ true →
    (has outs n ≡ true) × (has written n ≡ false)
unfolding output_tables
outputs_new name node written [] sinks n are e = absurd (has_none n e)
outputs_new name node written (o ∷ os) [] n are e = absurd (has_none n e)
outputs_new name node written (o ∷ os) (s ∷ ss) n are e =
    cond_both (has written o) (output_tables name written os ss) (more_outputs name written o os s ss)
    (λ (ts : List Table). has (map table_output ts) n ≡ true → (has (o ∷ os) n ≡ true) × (has written n ≡ false))
    (λ there f. let r = outputs_new name node written os ss n (next_outputs name node o os s ss are) f in (has_later o os n r.0, r.1))
    (λ new f. ⊎_elim
    (λ here.
    let same : n ≡ o = here ∙ (first_output name node o os s ss are).drives in
    (subst (λ (m : Name). has (o ∷ os) m ≡ true) (sym same) (has_first o os), subst (λ (m : Name). has written m ≡ false) (sym same) new))
    (λ later.
    let r = outputs_new name node (written ++ o ∷ []) os ss n (next_outputs name node o os s ss are) later in
    (has_later o os n r.0, false_from_ne_true (has written n) (λ old. both_ways (has (written ++ o ∷ []) n) r.1 (has_left written (o ∷ []) n old))))
    (has_cases (output_table name o s).output (map table_output (output_tables name (written ++ o ∷ []) os ss)) n f))
    e

-- each output was written before, or one of the tables drives it
pub outputs_driven : (name : ℕ → Name) (node : ℕ) (written outs : List Name) (sinks : List Sig) (n : Name) →
    AreOutputs name node outs sinks → length outs ≤ length sinks → has outs n ≡ true → (has written n ≡ true) ⊎
    (has (map table_output (output_tables name written outs sinks)) n ≡ true)
unfolding output_tables
outputs_driven name node written [] sinks n are few e = absurd (has_none n e)
outputs_driven name node written (o ∷ os) [] n are few e = absurd (omega (arith, few))
outputs_driven name node written (o ∷ os) (s ∷ ss) n are few e =
    let table = first_output name node o os s ss are in
    cond_both (has written o) (output_tables name written os ss) (more_outputs name written o os s ss) (λ (ts : List Table). (has written n ≡ true) ⊎ (has (map table_output ts) n ≡ true))
    (λ there. ⊎_elim
    (λ here. inl (subst (λ (m : Name). has written m ≡ true) (sym here) there))
    (λ later. outputs_driven name node written os ss n (next_outputs name node o os s ss are) (omega (arith, few)) later)
    (has_cases o os n e))
    (λ new.
    let outs_first : has (map table_output (more_outputs name written o os s ss)) o ≡ true =
    subst (λ (m : Name). has (map table_output (more_outputs name written o os s ss)) m ≡ true) table.drives
    (has_first (output_table name o s).output (map table_output (output_tables name (written ++ o ∷ []) os ss))) in
    ⊎_elim
    (λ here. inr (subst (λ (m : Name). has (map table_output (more_outputs name written o os s ss)) m ≡ true) (sym here) outs_first))
    (λ later. ⊎_elim
    (λ there. ⊎_elim
    (λ old. inl old)
    (λ is. inr (⊎_elim (λ same. subst (λ (m : Name). has (map table_output (more_outputs name written o os s ss)) m ≡
    true) (sym same) outs_first) (λ none. absurd (has_none n none)) (has_cases o [] n is)))
    (has_either written (o ∷ []) n there))
    (λ driven. inr (has_later (output_table name o s).output (map table_output (output_tables name (written ++ o ∷ []) os ss)) n driven))
    (outputs_driven name node (written ++ o ∷ []) os ss n (next_outputs name node o os s ss are) (omega (arith, few)) later))
    (has_cases o os n e))

-- outputs with the same name have the same sink
abbrev pub HaveOneSink : List Name → List Sig → Type 0
HaveOneSink outs sinks = (i j : ℕ) (o : Name) (s t : Sig) → slice_get outs i ≡ Some o → slice_get outs j ≡ Some o → slice_get sinks i ≡ Some s → slice_get sinks j ≡ Some t → s ≡ t

-- the value of a sink, by the values of names
abbrev pub named_value : (ℕ → Name) → (Name → Bool) → Sig → Bool
named_value name v s = sig_value (λ p. v (name p)) s

first_holds : (name : ℕ → Name) (node : ℕ) (o : Name) (os : List Name) (s : Sig) (ss : List Sig) (v : Name → Bool) →
    AreOutputs name node (o ∷ os) (s ∷ ss) → HoldsIn v (output_table name o s) → v o ≡ named_value name v s
first_holds name node o os s ss v are hold =
    let table = first_output name node o os s ss are in
    ap v (sym table.drives) ∙ hold ∙ table.value v

-- Each output has its sink's value, if the outputs that were written before do.
pub outputs_hold : (name : ℕ → Name) (node : ℕ) (written outs : List Name) (sinks : List Sig) (v : Name → Bool) →
    AreOutputs name node outs sinks → All (HoldsIn v) (output_tables name written outs sinks) → HaveOneSink outs sinks →
    ((i : ℕ) (o : Name) (s : Sig) → slice_get outs i ≡ Some o → slice_get sinks i ≡ Some s → has written o ≡ true → v o ≡ named_value name v s) →
    (i : ℕ) (o : Name) (s : Sig) → slice_get outs i ≡ Some o → slice_get sinks i ≡ Some s → v o ≡ named_value name v s
unfolding output_tables
outputs_hold name node written [] sinks v are hold same old i o s at_o at_s = absurd cc
outputs_hold name node written (x ∷ os) [] v are hold same old i o s at_o at_s = absurd cc
outputs_hold name node written (x ∷ os) (y ∷ ss) v are hold same old zero o s at_o at_s =
    let here : x ≡ o = cc in
    let sink : y ≡ s = cc in
    cond_both (has written x) (output_tables name written os ss) (more_outputs name written x os y ss) (λ (ts : List Table). All (HoldsIn v) ts → v o ≡ named_value name v s)
    (λ there h. old 0 o s at_o at_s (subst (λ (n : Name). has written n ≡ true) here there))
    (λ new h. ap v (sym here) ∙ first_holds name node x os y ss v are (All-head (HoldsIn v) (output_table name x y) (output_tables name (written ++ x ∷ []) os ss) h) ∙ ap (named_value name v) sink)
    hold
outputs_hold name node written (x ∷ os) (y ∷ ss) v are hold same old (suc i) o s at_o at_s =
    cond_both (has written x) (output_tables name written os ss) (more_outputs name written x os y ss) (λ (ts : List Table). All (HoldsIn v) ts → v o ≡ named_value name v s)
    (λ there h. outputs_hold name node written os ss v (next_outputs name node x os y ss are) h
    (λ k j n a b at_k at_j sink_k sink_j. same (suc k) (suc j) n a b at_k at_j sink_k sink_j)
    (λ k n a at_k sink_k was. old (suc k) n a at_k sink_k was)
    i o s at_o at_s)
    (λ new h.
    let head = first_holds name node x os y ss v are (All-head (HoldsIn v) (output_table name x y) (output_tables name (written ++ x ∷ []) os ss) h) in
    outputs_hold name node (written ++ x ∷ []) os ss v (next_outputs name node x os y ss are) (All-tail (HoldsIn v) (output_table name x y) (output_tables name (written ++ x ∷ []) os ss) h)
    (λ k j n a b at_k at_j sink_k sink_j. same (suc k) (suc j) n a b at_k at_j sink_k sink_j)
    (λ k n a at_k sink_k was. ⊎_elim
    (λ long. old (suc k) n a at_k sink_k long)
    (λ now. ⊎_elim
    (λ is. ap v is ∙ head ∙ ap (named_value name v) (same 0 (suc k) n y a (ap Some (sym is)) at_k refl sink_k))
    (λ none. absurd (has_none n none))
    (has_cases x [] n now))
    (has_either written (x ∷ []) n was))
    i o s at_o at_s)
    hold

-- ---- latches

pub lines_latches : (name : Sig → Name) (ls : List Latch) (ss : List Sig) → length ls ≤ length ss → map latch_of (latch_lines name ls ss) ≡ ls
unfolding latch_lines
lines_latches name [] ss low = refl
lines_latches name (l ∷ ls) [] low = absurd (omega (arith, low))
lines_latches name (l ∷ ls) (s ∷ ss) low = ap (λ (xs : List Latch). l ∷ xs) (lines_latches name ls ss (omega (arith, low)))

-- the line of the latch at index `i`
pub record IsLineOf (name : Sig → Name) (ls : List Latch) (ss : List Sig) (i : ℕ) (l : LatchLine) : Type 0 where
  pub latch : slice_get ls i ≡ Some l.latch
  pub sink : Sig
  pub at : slice_get ss i ≡ Some sink
  pub input : l.input ≡ name sink

pub lines_at : (name : Sig → Name) (ls : List Latch) (ss : List Sig) (i : ℕ) (l : LatchLine) → slice_get (latch_lines name ls ss) i ≡ Some l → IsLineOf name ls ss i l
unfolding latch_lines
lines_at name [] ss i l e = absurd cc
lines_at name (x ∷ ls) [] i l e = absurd cc
lines_at name (x ∷ ls) (s ∷ ss) zero l e =
    let whole : record { input = name s; latch = x } ≡ l = line_same (record { input = name s; latch = x }) l e in
    record { latch = ap (λ (y : LatchLine). Some y.latch) whole; sink = s; at = refl; input = sym (ap (λ (y : LatchLine). y.input) whole) } where
      line_same : (a b : LatchLine) → Some a ≡ Some b → a ≡ b
      line_same a b f = cc
lines_at name (x ∷ ls) (s ∷ ss) (suc i) l e = let r = lines_at name ls ss i l e in record { latch = r.latch; sink = r.sink; at = r.at; input = r.input }

pub lines_values : (name : Sig → Name) (ls : List Latch) (ss : List Sig) (v : Name → Bool) (f : Sig → Bool) →
    length ls ≡ length ss → ((i : ℕ) (s : Sig) → slice_get ss i ≡ Some s → v (name s) ≡ f s) →
    map v (map latch_input (latch_lines name ls ss)) ≡ map f ss
unfolding latch_lines
lines_values name [] [] v f same each = refl
lines_values name [] (s ∷ ss) v f same each = absurd (omega (arith, same))
lines_values name (l ∷ ls) [] v f same each = absurd (omega (arith, same))
lines_values name (l ∷ ls) (s ∷ ss) v f same each =
    ap (λ b. b ∷ map v (map latch_input (latch_lines name ls ss))) (each 0 s refl)
    ∙ ap (λ bs. f s ∷ bs) (lines_values name ls ss v f (omega (arith, same)) (λ i x at. each (suc i) x at))

-- the values of the outputs, and of the other sinks
pub sinks_split : (outs : List Name) (sinks : List Sig) (v : Name → Bool) (f : Sig → Bool) →
    length outs ≤ length sinks → ((i : ℕ) (o : Name) (s : Sig) → slice_get outs i ≡ Some o →
    slice_get sinks i ≡ Some s → v o ≡ f s) → map v outs ++ map f (drop (length outs) sinks) ≡ map f sinks
sinks_split [] sinks v f low each = refl
sinks_split (o ∷ os) [] v f low each = absurd (omega (arith, low))
sinks_split (o ∷ os) (s ∷ ss) v f low each =
    ap (λ b. b ∷ (map v os ++ map f (drop (length os) ss))) (each 0 o s refl refl)
    ∙ ap (λ bs. f s ∷ bs) (sinks_split os ss v f (omega (arith, low)) (λ i x y at_o at_s. each (suc i) x y at_o at_s))

-- ---- constants among sinks

pub some_zero : (ss : List Sig) (i : ℕ) → slice_get ss i ≡ Some Zero → list_any is_zero ss ≡ true
some_zero [] i e = absurd cc
some_zero (s ∷ ss) zero e = let same : s ≡ Zero = cc in or_left (is_zero s) (list_any is_zero ss) (ap is_zero same)
some_zero (s ∷ ss) (suc i) e = or_right (is_zero s) (list_any is_zero ss) (some_zero ss i e)

pub some_one : (ss : List Sig) (i : ℕ) → slice_get ss i ≡ Some One → list_any is_one ss ≡ true
some_one [] i e = absurd cc
some_one (s ∷ ss) zero e = let same : s ≡ One = cc in or_left (is_one s) (list_any is_one ss) (ap is_one same)
some_one (s ∷ ss) (suc i) e = or_right (is_one s) (list_any is_one ss) (some_one ss i e)

pub drop_at : {A : Type 0} (k : ℕ) (xs : List A) (i : ℕ) (x : A) → slice_get (drop k xs) i ≡ Some x → slice_get xs (k + i) ≡ Some x
drop_at zero xs i x e = let same : i ≡ 0 + i = omega arith in subst (λ (j : ℕ). slice_get xs j ≡ Some x) same e
drop_at (suc k) [] i x e = absurd cc
drop_at (suc k) (y ∷ xs) i x e = let same : suc (k + i) ≡ suc k + i = omega arith in subst (λ (j : ℕ). slice_get (y ∷ xs) j ≡ Some x) same (drop_at k xs i x e)
