-- The values where the bits of some nodes are fixed, without recursion.
use Rattle.std.specs.Prelude.{◌≡◌, ℕ, zero, suc, ◌+◌, ◌≤◌, ◌<◌, Bool, true, false, if◌then◌else◌, List, [], ◌∷◌, slice_get, Some, refl}
use Rattle.std.proofs.Common.{arith, sym, ◌∙◌, ap, subst, inl, inr, ⊎_elim}
use Rattle.std.proofs.lemmas.Bool.{cond-true, cond-false, cases_eq, cases_Bool, both_ways, cases_lt}
use Rattle.chain_theory.specs.Value.{extended}
use Rattle.chain_theory.specs.ValueLaws.{extended-same, extended-other}
use Rattle.net_theory.specs.declared.data.Sig.{Sig}
use Rattle.net_theory.specs.declared.data.Sig.TheVariants.{Zero, One, Node}
use Rattle.net_theory.specs.declared.data.Gate.{Gate}
use Rattle.net_theory.specs.Net.{Net, IsNet, IsGateAt, sig_value, gate_value, end_of}
use Rattle.net_theory.specs.ValueLaws.{gate_value-same}
use Rattle.net_theory.specs.Reach.{ReadsNode}
use Rattle.window_theory.specs.Nodes.{among}
use Rattle.window_theory.specs.Paths.{IsGate, Reads}
use Rattle.window_theory.specs.Window.{Window, Belongs}
use Rattle.window_theory.specs.WindowLaws.{reads_low, gate_at}
use Rattle.window_theory.specs.Care.{fixed_after, values_with, IsGiven, IsEvaluatedPart}

-- ---- one node

-- gates don't change the bits of the nodes below them
fixed_below : (fixed given bits : ℕ → Bool) (node p : ℕ) (gs : List Gate) → p < node → fixed_after fixed given bits node gs p ≡ bits p
unfolding fixed_after
fixed_below fixed given bits node p [] low = refl
fixed_below fixed given bits node p (g ∷ gs) low =
    let bit : Bool = if fixed node then given node else gate_value bits g in
    fixed_below fixed given (extended bits node bit) (node + 1) p gs (omega arith) ∙ extended-other bits node p bit (omega arith)

-- a source has its given bit
pub with_source : (n : Net) (fixed given : ℕ → Bool) (p : ℕ) → p ≤ n.sources → values_with n fixed given p ≡ given p
with_source n fixed given p low = fixed_below fixed given given (n.sources + 1) p n.gates (omega arith)

fixed_holds : (fixed given bits : ℕ → Bool) (node p : ℕ) (gs : List Gate) → fixed p ≡ true → bits p ≡ given p → fixed_after fixed given bits node gs p ≡ given p
unfolding fixed_after
fixed_holds fixed given bits node p [] on same = same
fixed_holds fixed given bits node p (g ∷ gs) on same =
    let bit : Bool = if fixed node then given node else gate_value bits g in
    fixed_holds fixed given (extended bits node bit) (node + 1) p gs on
    (⊎_elim
    (λ own. extended-same bits node p bit own ∙ cond-true (fixed node) (given node) (gate_value bits g) (ap fixed (sym own) ∙ on) ∙ ap given (sym own))
    (λ other. extended-other bits node p bit other ∙ same)
    (cases_eq p node))

-- and so has a fixed node
pub with_fixed : (n : Net) (fixed given : ℕ → Bool) (p : ℕ) → fixed p ≡ true → values_with n fixed given p ≡ given p
with_fixed n fixed given p on = fixed_holds fixed given given (n.sources + 1) p n.gates on refl

fixed_gate : (fixed given bits : ℕ → Bool) (node i p : ℕ) (gs : List Gate) (g : Gate) → slice_get gs i ≡ Some g →
    p ≡ node + i → IsGateAt p g → fixed p ≡ false →
    fixed_after fixed given bits node gs p ≡ gate_value (fixed_after fixed given bits node gs) g
unfolding fixed_after
fixed_gate fixed given bits node i p [] g at own is off = cc
fixed_gate fixed given bits node zero p (h ∷ gs) g at own is off =
    let same : h ≡ g = cc in
    let here : p ≡ node = omega arith in
    let bit : Bool = if fixed node then given node else gate_value bits h in
    let first : ℕ → Bool = extended bits node bit in
    let after : ℕ → Bool = fixed_after fixed given first (node + 1) gs in
    fixed_below fixed given first (node + 1) p gs (omega arith)
    ∙ extended-same bits node p bit here
    ∙ cond-false (fixed node) (given node) (gate_value bits h) (ap fixed (sym here) ∙ off)
    ∙ ap (λ (x : Gate). gate_value bits x) same
    ∙ gate_value-same bits after p g is
    (λ q low. sym (fixed_below fixed given first (node + 1) q gs (omega arith) ∙ extended-other bits node q bit (omega arith)))
fixed_gate fixed given bits node (suc i) p (h ∷ gs) g at own is off =
    let bit : Bool = if fixed node then given node else gate_value bits h in
    fixed_gate fixed given (extended bits node bit) (node + 1) i p gs g at (omega arith) is off

-- Any other gate has its operator's value on its fanins.
pub with_gate : (n : Net) (fixed given : ℕ → Bool) (p : ℕ) (is : IsGate n p) → IsNet n → fixed p ≡ false → values_with n fixed given p ≡ gate_value (values_with n fixed given) is.gate
with_gate n fixed given p is net off =
    fixed_gate fixed given given (n.sources + 1) is.index p n.gates is.gate is.at (omega (arith, is.node)) (subst (λ (q : ℕ). IsGateAt q is.gate) is.node (net.gates.each is.index is.gate is.at)) off

-- ---- a part by itself

sig_same : (f g : ℕ → Bool) (s : Sig) → ((p : ℕ) → s ≡ Node p → f p ≡ g p) → sig_value f s ≡ sig_value g s
sig_same f g Zero same = refl
sig_same f g One same = refl
sig_same f g (Node p) same = same p refl

-- a gate has one value under bits that agree on its fanins
pub gate_same : (f g : ℕ → Bool) (x : Gate) → ((p : ℕ) → ReadsNode x p → f p ≡ g p) → gate_value f x ≡ gate_value g x
gate_same f g x same = rw (sig_same f g x.a (λ p e. same p (inl e)), sig_same f g x.b (λ p e. same p (inr e))) refl

given_value : (n : Net) (fixed given : ℕ → Bool) (p : ℕ) → IsGiven n fixed p → values_with n fixed given p ≡ given p
given_value n fixed given p is = ⊎_elim (λ on. with_fixed n fixed given p on) (λ source. with_source n fixed given p source) is

part_below : (n : Net) (fixed given inside bits : ℕ → Bool) (bound p : ℕ) → IsNet n → IsEvaluatedPart n fixed given inside bits → p < bound → inside p ≡ true → bits p ≡ values_with n fixed given p
part_below n fixed given inside bits zero p net part low e = absurd (omega arith)
part_below n fixed given inside bits (suc bound) p net part low e =
    ⊎_elim
    (λ is. is.1 ∙ sym (given_value n fixed given p is.0))
    (λ is.
    is.value
    ∙ gate_same bits (values_with n fixed given) is.gate.gate
    (λ q reads. let r : Reads n p q = record { fanout = is.gate; reads = reads } in
    part_below n fixed given inside bits bound q net part (omega (arith, low, (reads_low n p q net r).1))
    (is.reads q r))
    ∙ sym (with_gate n fixed given p is.gate net is.free))
    (part p e)

-- The bits of a part that is evaluated by itself are those of the whole net.
pub part_values : (n : Net) (fixed given inside bits : ℕ → Bool) (p : ℕ) → IsNet n → IsEvaluatedPart n fixed given inside bits → inside p ≡ true → bits p ≡ values_with n fixed given p
part_values n fixed given inside bits p net part e = part_below n fixed given inside bits (suc p) p net part (omega arith) e

-- ---- a window

-- a gate of a window isn't one of its inputs
pub inside_free : (n : Net) (w : Window) (p : ℕ) → Belongs n w → among w.gates p ≡ true → among w.inputs p ≡ false
inside_free n w p is inside =
    ⊎_elim (λ on. absurd (both_ways (among w.gates p) (is.apart p on).outside inside)) (λ off. off) (cases_Bool (among w.inputs p))

-- Bits that agree on a window's inputs give its gates the same values.
window_below : (n : Net) (w : Window) (f g : ℕ → Bool) (bound p : ℕ) → IsNet n → Belongs n w →
    ((q : ℕ) → among w.inputs q ≡ true → f q ≡ g q) → p < bound → among w.gates p ≡ true →
    values_with n (among w.inputs) f p ≡ values_with n (among w.inputs) g p
window_below n w f g zero p net is same low inside = absurd (omega arith)
window_below n w f g (suc bound) p net is same low inside =
    let gate : IsGate n p = is.gates p inside in
    let free : among w.inputs p ≡ false = inside_free n w p is inside in
    with_gate n (among w.inputs) f p gate net free
    ∙ gate_same (values_with n (among w.inputs) f) (values_with n (among w.inputs) g) gate.gate
    (λ q reads.
    let r : Reads n p q = record { fanout = gate; reads = reads } in
    ⊎_elim
    (λ within. window_below n w f g bound q net is same (omega (arith, low, (reads_low n p q net r).1)) within)
    (λ out.
    let input : among w.inputs q ≡ true = is.read q (record { outside = out; read = record { fanout = p; inside = inside; reads = r } }) in
    with_fixed n (among w.inputs) f q input ∙ same q input ∙ sym (with_fixed n (among w.inputs) g q input))
    (cases_Bool (among w.gates q)))
    ∙ sym (with_gate n (among w.inputs) g p gate net free)

pub window_same : (n : Net) (w : Window) (f g : ℕ → Bool) (p : ℕ) → IsNet n → Belongs n w →
    ((q : ℕ) → among w.inputs q ≡ true → f q ≡ g q) → among w.gates p ≡ true →
    values_with n (among w.inputs) f p ≡ values_with n (among w.inputs) g p
window_same n w f g p net is same inside = window_below n w f g (suc p) p net is same (omega arith) inside

-- ---- all nodes

same_below : (n : Net) (fixed f g : ℕ → Bool) (bound p : ℕ) → IsNet n → ((q : ℕ) → IsGiven n fixed q → f q ≡ g q) → p < bound → p < end_of n → values_with n fixed f p ≡ values_with n fixed g p
same_below n fixed f g zero p net same low within = absurd (omega arith)
same_below n fixed f g (suc bound) p net same low within =
    ⊎_elim
    (λ on. given_value n fixed f p (inl on) ∙ same p (inl on) ∙ sym (given_value n fixed g p (inl on)))
    (λ off. ⊎_elim
    (λ (source : p < n.sources + 1). let is : p ≤ n.sources = omega arith in given_value n fixed f p (inr is) ∙ same p (inr is) ∙ sym (given_value n fixed g p (inr is)))
    (λ (above : n.sources + 1 ≤ p).
    let gate : IsGate n p = gate_at n p above within in
    with_gate n fixed f p gate net off
    ∙ gate_same (values_with n fixed f) (values_with n fixed g) gate.gate
    (λ q reads. let below = reads_low n p q net (record { fanout = gate; reads = reads }) in same_below n fixed f g bound q net same (omega (arith, low, below.1)) (omega (arith, within, below.1)))
    ∙ sym (with_gate n fixed g p gate net off))
    (cases_lt p (n.sources + 1)))
    (cases_Bool (fixed p))

-- Bits that agree on sources and fixed nodes give all nodes the same values.
pub with_same : (n : Net) (fixed f g : ℕ → Bool) (p : ℕ) → IsNet n → ((q : ℕ) → IsGiven n fixed q → f q ≡ g q) → p < end_of n → values_with n fixed f p ≡ values_with n fixed g p
with_same n fixed f g p net same within = same_below n fixed f g (suc p) p net same (omega arith) within
