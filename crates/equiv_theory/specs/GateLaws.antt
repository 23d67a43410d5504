-- The clauses of all gates of a net are true exactly if the variables of the nodes have the nodes' values. The
-- clauses of all sinks are true only if the two values of a sink differ wherever its variable is true.
use Rattle.std.proofs.Common.{◌≡◌, ◌≢◌, ℕ, zero, suc, ◌+◌, ◌≤◌, ◌<◌, Bool, true, List, [], ◌∷◌, Some, length, slice_get, refl, sym, ap, ◌∙◌, subst, arith, add-zero, ⊎_elim}
use Rattle.std.proofs.lemmas.Bool.{cases_eq}
use Rattle.chain_theory.specs.Value.{extended}
use Rattle.chain_theory.specs.ValueLaws.{extended-same, extended-other}
use Rattle.sat_theory.specs.Formula.{Assignment}
use Rattle.net_theory.specs.declared.data.Sig.{Sig}
use Rattle.net_theory.specs.declared.data.Gate.{Gate}
use Rattle.net_theory.specs.Net.{Net, IsNet, IsGateAt, sig_value, gate_value, values_after, value, end_of}
use Rattle.net_theory.specs.ValueLaws.{values_after-gate, values_after-same, gate_value-same}
use Rattle.equiv_theory.specs.Miter.{gate_rows, gates_rows, sink_rows, sinks_rows}
use Rattle.equiv_theory.specs.RowLaws.{are_true, true_both, both_true, none_true, seen_by, gate_true, gate_made, sink_true, sink_made, is_other}

-- ---- gates

-- at each gate's node `bits` has the value of the gate's operator
abbrev pub GatesHold : (ℕ → Bool) → ℕ → List Gate → Type 0
GatesHold bits node gs = (i : ℕ) (g : Gate) → slice_get gs i ≡ Some g → bits (node + i) ≡ gate_value bits g

hold_later : (bits : ℕ → Bool) (node : ℕ) (g : Gate) (gs : List Gate) → GatesHold bits node (g ∷ gs) → GatesHold bits (node + 1) gs
hold_later bits node g gs hold i h at = let e : (node + 1) + i ≡ node + suc i = omega arith in ap bits e ∙ hold (suc i) h at

hold_first : (bits : ℕ → Bool) (node : ℕ) (g : Gate) (gs : List Gate) → GatesHold bits node (g ∷ gs) → bits node ≡ gate_value bits g
hold_first bits node g gs hold = ap bits (sym (add-zero node)) ∙ hold 0 g refl

pub gates_true : (v : Assignment) (var : ℕ → ℕ) (node : ℕ) (gs : List Gate) → are_true v (gates_rows var node gs) ≡ true → GatesHold (seen_by v var) node gs
unfolding gates_rows
gates_true v var node [] all i g at = absurd cc
gates_true v var node (h ∷ gs) all zero g at =
    let both = true_both v (gate_rows var node h) (gates_rows var (node + 1) gs) all in
    let same : h ≡ g = cc in
    ap (seen_by v var) (add-zero node) ∙ gate_true v var node h both.0 ∙ ap (gate_value (seen_by v var)) same
gates_true v var node (h ∷ gs) all (suc i) g at =
    let both = true_both v (gate_rows var node h) (gates_rows var (node + 1) gs) all in
    let e : node + suc i ≡ (node + 1) + i = omega arith in
    ap (seen_by v var) e ∙ gates_true v var (node + 1) gs both.1 i g at

pub gates_made : (v : Assignment) (var : ℕ → ℕ) (node : ℕ) (gs : List Gate) → GatesHold (seen_by v var) node gs → are_true v (gates_rows var node gs) ≡ true
unfolding gates_rows
gates_made v var node [] hold = none_true v
gates_made v var node (g ∷ gs) hold =
    both_true v (gate_rows var node g) (gates_rows var (node + 1) gs)
    (gate_made v var node g (hold_first (seen_by v var) node g gs hold))
    (gates_made v var (node + 1) gs (hold_later (seen_by v var) node g gs hold))

-- Such bits are the values of the gates.
pub determined : (bits : ℕ → Bool) (node : ℕ) (gs : List Gate) →
    ((i : ℕ) (h : Gate) → slice_get gs i ≡ Some h → IsGateAt (node + i) h) → GatesHold bits node gs → (p : ℕ) →
    p < node + length gs → values_after bits node gs p ≡ bits p
unfolding values_after
determined bits node [] are hold p low = refl
determined bits node (g ∷ gs) are hold p low =
    let later : (i : ℕ) (x : Gate) → slice_get gs i ≡ Some x → IsGateAt ((node + 1) + i) x = λ i x at. let e : node + suc i ≡ (node + 1) + i = omega arith in
    subst (λ (q : ℕ). IsGateAt q x) e (are (suc i) x at) in
    let own : bits node ≡ gate_value bits g = hold_first bits node g gs hold in
    let agree : (q : ℕ) → q < node + 1 → extended bits node (gate_value bits g) q ≡ bits q = λ q l. ⊎_elim
    (λ (here : q ≡ node). extended-same bits node q (gate_value bits g) here ∙ sym own ∙ ap bits (sym here))
    (λ other. extended-other bits node q (gate_value bits g) other)
    (cases_eq q node) in
    values_after-same (extended bits node (gate_value bits g)) bits (node + 1) gs later agree p (omega arith)
    ∙ determined bits (node + 1) gs later (hold_later bits node g gs hold) p (omega arith)

-- So if the net's clauses are true, the variables of its nodes have the nodes' values.
pub values_true : (n : Net) (given bits : ℕ → Bool) → IsNet n → ((p : ℕ) → p ≤ n.sources → bits p ≡ given p) →
    GatesHold bits (n.sources + 1) n.gates → (p : ℕ) → p < end_of n → value n given p ≡ bits p
values_true n given bits is agree hold p low =
    values_after-same given bits (n.sources + 1) n.gates is.gates.each (λ q l. sym (agree q (omega arith))) p low
    ∙ determined bits (n.sources + 1) n.gates is.gates.each hold p low

-- Conversely the values of a net's nodes satisfy each gate.
pub values_hold : (n : Net) (given bits : ℕ → Bool) → IsNet n → ((p : ℕ) → p < end_of n → bits p ≡ value n given p) → GatesHold bits (n.sources + 1) n.gates
values_hold n given bits is agree i g at =
    let there : IsGateAt (n.sources + 1 + i) g = is.gates.each i g at in
    let below : i < length n.gates = within n.gates i g at in
    agree (n.sources + 1 + i) (omega arith)
    ∙ values_after-gate given (n.sources + 1) i n.gates g at there
    ∙ gate_value-same (value n given) bits (n.sources + 1 + i) g there (λ p low. sym (agree p (omega arith))) where
      within : (gs : List Gate) (i : ℕ) (g : Gate) → slice_get gs i ≡ Some g → i < length gs
      within [] i g at = absurd cc
      within (h ∷ gs) zero g at = omega arith
      within (h ∷ gs) (suc i) g at = let less : i < length gs = within gs i g at in omega arith

-- ---- sinks

pub sinks_true : (v : Assignment) (var other : ℕ → ℕ) (d : ℕ) (us ws : List Sig) →
    are_true v (sinks_rows var other d us ws) ≡ true → (i : ℕ) (u w : Sig) → slice_get us i ≡ Some u →
    slice_get ws i ≡ Some w → v (d + i) ≡ true → sig_value (seen_by v var) u ≢ sig_value (seen_by v other) w
unfolding sinks_rows
sinks_true v var other d [] ws all i u w at at' is = absurd cc
sinks_true v var other d (x ∷ us) [] all i u w at at' is = absurd cc
sinks_true v var other d (x ∷ us) (y ∷ ws) all zero u w at at' is =
    let both = true_both v (sink_rows var other d x y) (sinks_rows var other (d + 1) us ws) all in
    let same : x ≡ u = cc in
    let same' : y ≡ w = cc in
    subst (λ (s : Sig). sig_value (seen_by v var) s ≢ sig_value (seen_by v other) w) same
    (subst (λ (s : Sig). sig_value (seen_by v var) x ≢ sig_value (seen_by v other) s) same'
    (sink_true v var other d x y both.0 (ap v (sym (add-zero d)) ∙ is)))
sinks_true v var other d (x ∷ us) (y ∷ ws) all (suc i) u w at at' is =
    let both = true_both v (sink_rows var other d x y) (sinks_rows var other (d + 1) us ws) all in
    let e : (d + 1) + i ≡ d + suc i = omega arith in
    sinks_true v var other (d + 1) us ws both.1 i u w at at' (ap v e ∙ is)

-- the variable of each sink is true exactly if its two signals differ
abbrev pub AreSinkDifferences : Assignment → (ℕ → Bool) → (ℕ → Bool) → ℕ → List Sig → List Sig → Type 0
AreSinkDifferences v f g d us ws = (i : ℕ) (u w : Sig) → slice_get us i ≡ Some u → slice_get ws i ≡ Some w → v (d + i) ≡ is_other (sig_value f u) (sig_value g w)

pub sinks_made : (v : Assignment) (var other : ℕ → ℕ) (d : ℕ) (us ws : List Sig) → AreSinkDifferences v (seen_by v var) (seen_by v other) d us ws → are_true v (sinks_rows var other d us ws) ≡ true
unfolding sinks_rows
sinks_made v var other d [] ws differences = none_true v
sinks_made v var other d (u ∷ us) [] differences = none_true v
sinks_made v var other d (u ∷ us) (w ∷ ws) differences =
    both_true v (sink_rows var other d u w) (sinks_rows var other (d + 1) us ws)
    (sink_made v var other d u w (ap v (sym (add-zero d)) ∙ differences 0 u w refl refl))
    (sinks_made v var other (d + 1) us ws (λ i x y at at'. let e : (d + 1) + i ≡ d + suc i = omega arith in ap v e ∙ differences (suc i) x y at at'))
