-- Levels, characterised without recursion.
use Rattle.std.specs.Prelude.{◌≡◌, ℕ, zero, suc, ◌+◌, ◌≤◌, ◌<◌, List, [], ◌∷◌, slice_get, Some, refl}
use Rattle.std.proofs.Common.{add-zero, arith, sym, ◌∙◌, ap, subst}
use Rattle.chain_theory.specs.Levels.{placed}
use Rattle.chain_theory.specs.LevelLaws.{placed-same, placed-other}
use Rattle.net_theory.specs.declared.data.Sig.{Sig}
use Rattle.net_theory.specs.declared.data.Sig.TheVariants.{Zero, One, Node}
use Rattle.net_theory.specs.declared.data.Gate.{Gate}
use Rattle.net_theory.specs.Net.{Net, IsNet, IsSigBelow, IsGateAt}
use Rattle.net_levels.specs.Levels.{sig_level, gate_level, levels_after, level, largest, levels_of}

-- ---- nodes

-- gates don't change the levels of the nodes below them
pub levels_after-below : (levels : ℕ → ℕ) (node p : ℕ) (gs : List Gate) → p < node → levels_after levels node gs p ≡ levels p
unfolding levels_after
levels_after-below levels node p [] low = refl
levels_after-below levels node p (g ∷ gs) low =
    levels_after-below (placed levels node (gate_level levels g)) (node + 1) p gs (omega arith)
    ∙ placed-other levels node p (gate_level levels g) (omega arith)

sig_level-same : (f g : ℕ → ℕ) (s : Sig) (node : ℕ) → IsSigBelow node s → ((p : ℕ) → p < node → f p ≡ g p) → sig_level f s ≡ sig_level g s
sig_level-same f g Zero node below same = refl
sig_level-same f g One node below same = refl
sig_level-same f g (Node p) node below same = same p below.1

gate_level-same : (f g : ℕ → ℕ) (node : ℕ) (x : Gate) → IsGateAt node x → ((p : ℕ) → p < node → f p ≡ g p) → gate_level f x ≡ gate_level g x
gate_level-same f g node x is same =
    rw (sig_level-same f g x.a node is.first same, sig_level-same f g x.b node is.second same) refl

-- the level of a gate is one more than the larger of its operands'
levels_after-gate : (levels : ℕ → ℕ) (node i : ℕ) (gs : List Gate) (g : Gate) → slice_get gs i ≡ Some g →
    IsGateAt (node + i) g → levels_after levels node gs (node + i) ≡ gate_level (levels_after levels node gs) g
unfolding levels_after
levels_after-gate levels node i [] g at is = absurd cc
levels_after-gate levels node zero (h ∷ gs) g at is =
    let same : h ≡ g = cc in
    let own : node + 0 ≡ node = add-zero node in
    let first : ℕ → ℕ = placed levels node (gate_level levels h) in
    let after : ℕ → ℕ = levels_after first (node + 1) gs in
    let here : IsGateAt node g = subst (λ (q : ℕ). IsGateAt q g) own is in
    ap after own
    ∙ levels_after-below first (node + 1) node gs (omega arith)
    ∙ placed-same levels node node (gate_level levels h) refl
    ∙ ap (λ (x : Gate). gate_level levels x) same
    ∙ gate_level-same levels after node g here
    (λ p low. sym (levels_after-below first (node + 1) p gs (omega arith) ∙ placed-other levels node p (gate_level levels h) (omega arith)))
levels_after-gate levels node (suc i) (h ∷ gs) g at is =
    let e : node + suc i ≡ (node + 1) + i = omega arith in
    let first : ℕ → ℕ = placed levels node (gate_level levels h) in
    let here : IsGateAt ((node + 1) + i) g = subst (λ (q : ℕ). IsGateAt q g) e is in
    subst (λ (q : ℕ). levels_after first (node + 1) gs q ≡ gate_level (levels_after first (node + 1) gs) g) (sym e) (levels_after-gate first (node + 1) i gs g at here)

pub level_source : (n : Net) (p : ℕ) → p ≤ n.sources → level n p ≡ 0
level_source n p low = levels_after-below (λ (q : ℕ). 0) (n.sources + 1) p n.gates (omega (arith, low))

pub level_gate : (n : Net) (i : ℕ) (g : Gate) → IsNet n → slice_get n.gates i ≡ Some g → level n (n.sources + 1 + i) ≡ gate_level (level n) g
level_gate n i g net at = levels_after-gate (λ (q : ℕ). 0) (n.sources + 1) i n.gates g at (net.gates.each i g at)

-- ---- sinks

at_most : (levels : ℕ → ℕ) (ss : List Sig) (i : ℕ) (s : Sig) → slice_get ss i ≡ Some s → sig_level levels s ≤ largest levels ss
unfolding largest
at_most levels [] i s at = absurd cc
at_most levels (t ∷ ss) zero s at = let same : t ≡ s = cc in omega (arith, ap (sig_level levels) same)
at_most levels (t ∷ ss) (suc i) s at = omega (arith, at_most levels ss i s at)

least_of : (levels : ℕ → ℕ) (ss : List Sig) (d : ℕ) → ((i : ℕ) (s : Sig) → slice_get ss i ≡ Some s → sig_level levels s ≤ d) → largest levels ss ≤ d
unfolding largest
least_of levels [] d each = omega arith
least_of levels (t ∷ ss) d each = omega (arith, each 0 t refl, least_of levels ss d (λ i s at. each (suc i) s at))

pub sink_level : (n : Net) (i : ℕ) (s : Sig) → slice_get n.sinks i ≡ Some s → sig_level (level n) s ≤ levels_of n
sink_level n i s at = at_most (level n) n.sinks i s at

pub levels_least : (n : Net) (d : ℕ) → ((i : ℕ) (s : Sig) → slice_get n.sinks i ≡ Some s → sig_level (level n) s ≤ d) → levels_of n ≤ d
levels_least n d each = least_of (level n) n.sinks d each
