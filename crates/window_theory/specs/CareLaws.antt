-- Under every assignment of the sources the bits of nodes are a care row; so are those of a window's inputs.
use Rattle.std.specs.Prelude.{◌≡◌, ℕ, suc, ◌+◌, ◌<◌, ◌^◌, Bool, if◌then◌else◌, List, [], ◌∷◌, length, slice_get, slice_index_or, Some, refl}
use Rattle.std.proofs.Common.{arith, sym, ◌∙◌, ap, ⊎_elim, add-zero}
use Rattle.std.proofs.lemmas.Bool.{cond_both, cases_eq}
use Rattle.chain_theory.specs.Value.{extended}
use Rattle.chain_theory.specs.ValueLaws.{extended-same, extended-other}
use Rattle.net_theory.specs.declared.data.Sig.{Sig}
use Rattle.net_theory.specs.declared.data.Sig.TheVariants.{Zero, One, Node}
use Rattle.net_theory.specs.declared.data.Gate.{Gate}
use Rattle.net_theory.specs.Net.{Net, IsNet, sig_value, gate_value, value}
use Rattle.net_theory.specs.ValueLaws.{values_after-gate}
use Rattle.window_theory.specs.Nodes.{among}
use Rattle.window_theory.specs.Window.{Window, Belongs}
use Rattle.window_theory.specs.FaninConeLaws.{AreBelow, has_leaves}
use Rattle.window_theory.specs.Care.{fixed_after, values_with, HasRow, IsCareRow}
use Rattle.window_theory.specs.Rows.{has_row}

sig_same : (f g : ℕ → Bool) (s : Sig) → ((p : ℕ) → f p ≡ g p) → sig_value f s ≡ sig_value g s
sig_same f g Zero same = refl
sig_same f g One same = refl
sig_same f g (Node p) same = same p

gate_same : (f g : ℕ → Bool) (x : Gate) → ((p : ℕ) → f p ≡ g p) → gate_value f x ≡ gate_value g x
gate_same f g x same = rw (sig_same f g x.a same, sig_same f g x.b same) refl

-- Where nodes are fixed to the values that they have, all nodes keep their values.
fixed_real : (fixed real bits : ℕ → Bool) (node : ℕ) (gs : List Gate) →
    ((i : ℕ) (g : Gate) → slice_get gs i ≡ Some g → real (node + i) ≡ gate_value real g) →
    ((q : ℕ) → bits q ≡ real q) → (q : ℕ) → fixed_after fixed real bits node gs q ≡ real q
unfolding fixed_after
fixed_real fixed real bits node [] gates same q = same q
fixed_real fixed real bits node (g ∷ gs) gates same q =
    let bit : Bool = if fixed node then real node else gate_value bits g in
    let own : bit ≡ real node = cond_both (fixed node) (real node) (gate_value bits g) (λ (b : Bool). b ≡ real node)
    (λ on. refl) (λ off. gate_same bits real g same ∙ sym (gates 0 g refl) ∙ ap real (add-zero node)) in
    fixed_real fixed real (extended bits node bit) (node + 1) gs
    (λ i h at. let e : (node + 1) + i ≡ node + suc i = omega arith in ap real e ∙ gates (suc i) h at)
    (λ p. ⊎_elim (λ here. extended-same bits node p bit here ∙ own ∙ ap real (sym here)) (λ other. extended-other bits node p bit other ∙ same p) (cases_eq p node))
    q

pub values_real : (n : Net) (fixed given : ℕ → Bool) (q : ℕ) → IsNet n → values_with n fixed (value n given) q ≡ value n given q
values_real n fixed given q net =
    fixed_real fixed (value n given) (value n given) (n.sources + 1) n.gates (λ i g at. values_after-gate given (n.sources + 1) i n.gates g at (net.gates.each i g at)) (λ p. refl) q

pub care_real : (n : Net) (nodes : List ℕ) (given : ℕ → Bool) (t : ℕ) → IsNet n → AreBelow (n.sources + 1 + length n.gates) nodes → HasRow (value n given) nodes t → IsCareRow n nodes t
care_real n nodes given t net below row =
    let leaves = has_leaves n nodes net below in
    record {
      leaves = leaves.0;
      fanin_cone = leaves.1;
      given = value n given;
      bits = λ i low. values_real n (among leaves.0) given (slice_index_or nodes i 0) net ∙ row i low;
    }

pub window_real : (n : Net) (w : Window) (given : ℕ → Bool) → IsNet n → Belongs n w → (t : ℕ) × (t < 2 ^ length w.inputs) × HasRow (value n given) w.inputs t × IsCareRow n w.inputs t
window_real n w given net belongs =
    let row = has_row (value n given) w.inputs in
    (row.0, row.1, row.2, care_real n w.inputs given row.0 net (λ p on. (belongs.within p on).1) row.2)
