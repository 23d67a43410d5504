-- Where the chain implements the window's specification, all values stay.
use Rattle.std.specs.Prelude.{◌≡◌, ℕ, zero, suc, ◌+◌, ◌-◌, ◌≤◌, ◌<◌, ◌^◌, Bool, true, false, List, [], ◌∷◌, length, map, slice_get, slice_index_or, Some, refl}
use Rattle.std.proofs.Common.{arith, sym, ◌∙◌, ap, subst, ⊎_elim, add-zero}
use Rattle.std.proofs.lemmas.Bool.{cases_eq, cases_lt, cases_Bool}
use Rattle.std.proofs.lemmas.Option.{slice_get_within, get_or_from_slice_get}
use Rattle.chain_theory.specs.Specification.{Specification, input}
use Rattle.chain_theory.specs.Chain.{Step, Chain, IsChain, IsStepAt, NamesPlace}
use Rattle.chain_theory.specs.Value.{extended, step_value, values_after, out_value}
use Rattle.chain_theory.specs.ValueLaws.{extended-same, extended-other}
use Rattle.chain_theory.specs.Agreement.{output_value, is_met, Agrees}
use Rattle.chain_theory.specs.declared.data.Cell.{Cell}
use Rattle.chain_theory.specs.declared.data.Out.{Out}
use Rattle.chain_theory.specs.declared.data.Out.TheVariants as outs
use Rattle.net_theory.specs.declared.data.Sig.{Sig}
use Rattle.net_theory.specs.declared.data.Sig.TheVariants as sigs
use Rattle.net_theory.specs.Net.{Net, IsNet, IsSigBelow, end_of, sig_value, value, sink_values}
use Rattle.net_theory.specs.NameLaws.{all_at}
use Rattle.net_theory.specs.ValueLaws.{value-source}
use Rattle.window_theory.specs.Nodes.{among}
use Rattle.window_theory.specs.Paths.{IsGate}
use Rattle.window_theory.specs.Window.{Window, Belongs}
use Rattle.window_theory.specs.WindowLaws.{reads_low, gate_at}
use Rattle.window_theory.specs.Care.{HasRow, IsCareRow, cell_of, output_node, IsSpecificationOf}
use Rattle.window_theory.specs.CareLaws.{values_real, care_real}
use Rattle.window_theory.specs.FixedLaws.{with_source, with_fixed, with_gate, gate_same}
use Rattle.window_theory.specs.Rows.{has_row}
use Rattle.window_theory.specs.Substituted.{Fits, input_node, chain_bits, out_bit, substituted_bits, substituted_value}
use Rattle.window_theory.specs.PairLaws.{bits_other, IsSet, is_set}
use Rattle.window_theory.specs.SubstitutedLaws.{value_gate}

-- ---- a chain's values from the bits of its inputs

abbrev AreStepsFrom : ℕ → List Step → Type 0
AreStepsFrom node ss = (i : ℕ) (s : Step) → slice_get ss i ≡ Some s → IsStepAt (node + i) s

-- Bits that agree below the steps give them the same values.
steps_same : (f g : ℕ → Bool) (node : ℕ) (ss : List Step) → AreStepsFrom node ss →
    ((p : ℕ) → 1 ≤ p → p < node → f p ≡ g p) → (p : ℕ) → 1 ≤ p → p < node + length ss →
    values_after f node ss p ≡ values_after g node ss p
unfolding values_after
steps_same f g node [] are same p some low = same p some (omega arith)
steps_same f g node (s ∷ ss) are same p some low =
    let here : IsStepAt node s = subst (λ (q : ℕ). IsStepAt q s) (add-zero node) (are 0 s refl) in
    let own : step_value f s ≡ step_value g s = rw (same s.j here.j_from here.j_below, same s.k here.k_from here.k_below) refl in
    let later : AreStepsFrom (node + 1) ss = λ i r at. let e : node + suc i ≡ (node + 1) + i = omega arith in subst (λ (q : ℕ). IsStepAt q r) e (are (suc i) r at) in
    let agree : (q : ℕ) → 1 ≤ q → q < node + 1 → extended f node (step_value f s) q ≡ extended g node (step_value g s) q = λ q some_q l. ⊎_elim
    (λ is. extended-same f node q (step_value f s) is ∙ own ∙ sym (extended-same g node q (step_value g s) is))
    (λ other. extended-other f node q (step_value f s) other ∙ same q some_q (omega (arith, other, l)) ∙ sym (extended-other g node q (step_value g s) other))
    (cases_eq q node) in
    steps_same (extended f node (step_value f s)) (extended g node (step_value g s)) (node + 1) ss later agree p some (omega arith)

-- On a row, an output has the value that it has from the bits of a window's inputs where these are the row.
pub out_row : (n : Net) (w : Window) (c : Chain) (given : ℕ → Bool) (t : ℕ) (x : Out) → Fits w c →
    HasRow (value n given) w.inputs t → NamesPlace (c.n + length c.steps) x →
    out_value c t x ≡ out_bit (chain_bits n w c given) x
out_row n w c given t outs.Zero fits row names = refl
out_row n w c given t outs.One fits row names = refl
out_row n w c given t (outs.Place q) fits row names =
    steps_same (input c.n t) (λ j. value n given (input_node w j)) (c.n + 1) c.steps fits.chain.steps.each
    (λ p some low.
    let e : (p - 1) + 1 ≡ p = omega arith in
    ap (λ (k : ℕ). input k t p) fits.inputs ∙ ap (input (length w.inputs) t) (sym e) ∙ sym (row (p - 1) (omega (arith, some, low, fits.inputs))))
    q names.0 (omega (arith, names.1))

-- ---- outputs

-- a bit that meets the cell of another is equal to it
pub met_cell : (b bit : Bool) → is_met (cell_of b) bit ≡ true → bit ≡ b
met_cell true bit e = e
met_cell false true e = absurd cc
met_cell false false e = refl

-- Under every assignment a chain that implements the specification gives an output its own value.
output_real : (n : Net) (w : Window) (c : Chain) (s : Specification) (given : ℕ → Bool) (p i : ℕ) (x : Out) → IsNet n →
    Belongs n w → Fits w c → IsSpecificationOf n w s → Agrees c s → slice_get w.outputs i ≡ Some p →
    slice_get c.outs i ≡ Some x → out_bit (chain_bits n w c given) x ≡ value n given p
output_real n w c s given p i x net is fits spec agrees node at =
    let row = has_row (value n given) w.inputs in
    let low : i < length w.outputs = slice_get_within w.outputs i p node in
    let high : i + 1 ≤ length w.outputs = omega (arith, low) in
    let care : IsCareRow n w.inputs row.0 = care_real n w.inputs given row.0 net (λ p on. (is.within p on).1) row.2 in
    let index : (i + 1) - 1 ≡ i = omega arith in
    let own_node : output_node w (i + 1) ≡ p = ap (λ (k : ℕ). slice_index_or w.outputs k 0) index ∙ get_or_from_slice_get w.outputs i p 0 node in
    let cell : s.cell (i + 1) row.0 ≡ cell_of (value n given p) =
    spec.care (i + 1) row.0 (value n given) (omega arith) high row.1 care row.2
    ∙ ap cell_of (values_real n (among w.inputs) given (output_node w (i + 1)) net)
    ∙ ap (λ (q : ℕ). cell_of (value n given q)) own_node in
    let met : is_met (s.cell (i + 1) row.0) (output_value c (i + 1) row.0) ≡ true =
    agrees.cells (i + 1) row.0 (omega arith) (subst (λ (k : ℕ). i + 1 ≤ k) (sym spec.outputs) high)
    (subst (λ (k : ℕ). row.0 < 2 ^ k) (sym spec.inputs) row.1) in
    let out : output_value c (i + 1) row.0 ≡ out_value c row.0 x =
    ap (λ (k : ℕ). out_value c row.0 (slice_index_or c.outs k outs.Zero)) index
    ∙ ap (out_value c row.0) (get_or_from_slice_get c.outs i x outs.Zero at) in
    sym (out_row n w c given row.0 x fits row.2 (all_at (NamesPlace (c.n + length c.steps)) c.outs i x fits.chain.outs at))
    ∙ sym out
    ∙ met_cell (value n given p) (output_value c (i + 1) row.0) (ap (λ (k : Cell). is_met k (output_value c (i + 1) row.0)) (sym cell) ∙ met)

-- ---- all nodes

real_below : (n : Net) (w : Window) (c : Chain) (s : Specification) (given : ℕ → Bool) (bound p : ℕ) → IsNet n →
    Belongs n w → Fits w c → IsSpecificationOf n w s → Agrees c s → p < bound → p < end_of n →
    substituted_value n w c given p ≡ value n given p
real_below n w c s given zero p net is fits spec agrees low within = absurd (omega arith)
real_below n w c s given (suc bound) p net is fits spec agrees low within =
    ⊎_elim
    (λ on.
    let set : IsSet (λ q. sigs.Zero) given w.outputs c.outs (λ x. sigs.Zero) (out_bit (chain_bits n w c given)) p =
    is_set (λ q. sigs.Zero) given w.outputs c.outs (λ x. sigs.Zero) (out_bit (chain_bits n w c given)) p fits.outs on
    in
    with_fixed n (among w.outputs) (substituted_bits n w c given) p on
    ∙ set.has_bit
    ∙ output_real n w c s given p set.index set.out net is fits spec agrees set.node set.at)
    (λ off. ⊎_elim
    (λ (source : p < n.sources + 1).
    with_source n (among w.outputs) (substituted_bits n w c given) p (omega arith)
    ∙ bits_other given w.outputs (map (out_bit (chain_bits n w c given)) c.outs) p off
    ∙ sym (value-source given n.sources p n.gates (omega arith)))
    (λ (above : n.sources + 1 ≤ p).
    let gate : IsGate n p = gate_at n p above within in
    with_gate n (among w.outputs) (substituted_bits n w c given) p gate net off
    ∙ gate_same (substituted_value n w c given) (value n given) gate.gate
    (λ q reads.
    let below = reads_low n p q net (record { fanout = gate; reads = reads }) in
    real_below n w c s given bound q net is fits spec agrees (omega (arith, low, below.1)) (omega (arith, within, below.1)))
    ∙ sym (value_gate n given p gate net))
    (cases_lt p (n.sources + 1)))
    (cases_Bool (among w.outputs p))

sig_real : (n : Net) (w : Window) (c : Chain) (s : Specification) (given : ℕ → Bool) (x : Sig) → IsNet n →
    Belongs n w → Fits w c → IsSpecificationOf n w s → Agrees c s → IsSigBelow (end_of n) x →
    sig_value (substituted_value n w c given) x ≡ sig_value (value n given) x
sig_real n w c s given sigs.Zero net is fits spec agrees low = refl
sig_real n w c s given sigs.One net is fits spec agrees low = refl
sig_real n w c s given (sigs.Node p) net is fits spec agrees low = real_below n w c s given (suc p) p net is fits spec agrees (omega arith) low.1

map_same : (f g : Sig → Bool) (xs : List Sig) → ((i : ℕ) (x : Sig) → slice_get xs i ≡ Some x → f x ≡ g x) → map f xs ≡ map g xs
map_same f g [] same = refl
map_same f g (x ∷ xs) same = rw (same 0 x refl, map_same f g xs (λ i y e. same (suc i) y e)) refl

-- such a chain has the inputs and outputs of the window
pub agrees_fits : (n : Net) (w : Window) (s : Specification) (c : Chain) → IsChain c → IsSpecificationOf n w s → Agrees c s → Fits w c
agrees_fits n w s c chain spec agrees = record { chain = chain; inputs = agrees.inputs ∙ spec.inputs; outs = agrees.outputs ∙ spec.outputs }

-- The signals of a net keep their values.
pub signals_real : (n : Net) (w : Window) (s : Specification) (c : Chain) (given : ℕ → Bool) → IsNet n → Belongs n w →
    IsChain c → IsSpecificationOf n w s → Agrees c s → map (sig_value (substituted_value n w c given)) n.sinks ≡
    sink_values n given
signals_real n w s c given net is chain spec agrees =
    map_same (sig_value (substituted_value n w c given)) (sig_value (value n given)) n.sinks (λ i x at.
    sig_real n w c s given x net is (agrees_fits n w s c chain spec agrees) spec agrees
    (all_at (IsSigBelow (end_of n)) n.sinks i x net.sinks at))
