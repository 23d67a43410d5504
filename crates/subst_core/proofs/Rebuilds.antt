-- The three copying loops of a substitution, put together.
use Rattle.std.proofs.Common.{◌≡◌, ℕ, ◌+◌, ◌≤◌, ◌<◌, ◌^◌, Bool, not, ◌&&◌, List, length, map, ◌∙◌, ap, arith}
use Rattle.net_theory.specs.declared.data.Sig.{Sig}
use Rattle.net_theory.specs.declared.data.Gate.{Gate}
use Rattle.net_theory.specs.Net.{Net, IsNet, end_of}
use Rattle.net_theory.specs.Moving.{Kept, moved, kept_after, marked_count, nothing_kept}
use Rattle.net_theory.specs.MovingLaws.{count_kept, marked_few}
use Rattle.net_core.specs.Marks.{set_of, nodes_of, kept}
use Rattle.chain_theory.specs.Chain.{Chain}
use Rattle.window_theory.specs.Nodes.{among}
use Rattle.window_theory.specs.Window.{Window, Belongs}
use Rattle.window_theory.specs.WindowLaws.{gate_high}
use Rattle.window_theory.specs.Substituted.{Fits, is_early, is_late, early_kept, late_start, all_kept, after_substitution}
use Rattle.window_theory.specs.ReplacementLaws.{substituted_is}
use Rattle.subst_core.specs.Lists.{AllBelow}
use Rattle.subst_core.proofs.Marking.{list_below}
use Rattle.subst_core.proofs.Placings.{kept_same, count_same}

-- ---- the nodes of a window

pub inputs_below : (n : Net) (w : Window) → Belongs n w → AllBelow (end_of n) w.inputs
inputs_below n w is = list_below (end_of n) w.inputs (λ p on. (is.within p on).1)

pub gates_below : (n : Net) (w : Window) → Belongs n w → AllBelow (end_of n) w.gates
gates_below n w is = list_below (end_of n) w.gates (λ p on. (gate_high n p (is.gates p on)).1)

pub outputs_below : (n : Net) (w : Window) → Belongs n w → AllBelow (end_of n) w.outputs
outputs_below n w is = list_below (end_of n) w.outputs (λ p on. (gate_high n p (is.gates p (is.outputs.only p on).inside)).1)

-- ---- what is late

abbrev pub AreTurned : Window → List Bool → List Bool → Type 0
AreTurned w old new = (p : ℕ) → p < length old → set_of new p ≡ (not (set_of old p) && not (among w.gates p))

late_agrees : (n : Net) (w : Window) (old new : List Bool) → length old ≡ end_of n → set_of old ≡ is_early n w →
    AreTurned w old new → (p : ℕ) → n.sources + 1 ≤ p → p < n.sources + 1 + length n.gates →
    set_of new p ≡ is_late n w p
late_agrees n w old new size early turned p low high =
    turned p (omega (arith, size, high)) ∙ ap (λ (m : ℕ → Bool). not (m p) && not (among w.gates p)) early

pub late_kept : (n : Net) (w : Window) (old new : List Bool) (k : Kept) → length old ≡ end_of n →
    set_of old ≡ is_early n w → AreTurned w old new → kept_after (set_of new) n.sources k (n.sources + 1) n.gates ≡
    kept_after (is_late n w) n.sources k (n.sources + 1) n.gates
late_kept n w old new k size early turned = kept_same (set_of new) (is_late n w) n.sources k (n.sources + 1) n.gates (late_agrees n w old new size early turned)

pub late_count : (n : Net) (w : Window) (old new : List Bool) → length old ≡ end_of n → set_of old ≡ is_early n w →
    AreTurned w old new → marked_count (set_of new) (n.sources + 1) n.gates ≡
    marked_count (is_late n w) (n.sources + 1) n.gates
late_count n w old new size early turned = count_same (set_of new) (is_late n w) (n.sources + 1) n.gates (late_agrees n w old new size early turned)

-- ---- there is room

pub early_few : (n : Net) (w : Window) → IsNet n → n.sources + length (early_kept n w).gates < 2 ^ 31
early_few n w net =
    omega (arith, count_kept (is_early n w) n.sources (nothing_kept n.sources) (n.sources + 1) n.gates, marked_few (is_early n w) (n.sources + 1) n.gates, net.nodes)

pub late_few : (n : Net) (w : Window) (c : Chain) → IsNet n → Belongs n w → Fits w c →
    n.sources + length n.gates + length c.steps < 2 ^ 31 + length w.gates →
    n.sources + length (late_start n w c).gates + marked_count (is_late n w) (n.sources + 1) n.gates < 2 ^ 31
unfolding after_substitution
late_few n w c net is fits few =
    let all : length (all_kept n w c).gates + length w.gates ≡ length n.gates + length c.steps = (substituted_is n w c net is fits few).gate_count in
    omega (arith, all, few, count_kept (is_late n w) n.sources (late_start n w c) (n.sources + 1) n.gates)

-- ---- the net

-- what the code puts together is the net after the substitution
pub made_is : (n : Net) (w : Window) (c : Chain) (nodes : List Sig) (sources : ℕ) (gates : List Gate)
    (sinks : List Sig) → kept nodes gates ≡ all_kept n w c → sources ≡ n.sources →
    sinks ≡ map (moved (nodes_of nodes)) n.sinks → record { sources = sources; gates = gates; sinks = sinks } ≡
    after_substitution n w c
unfolding after_substitution
made_is n w c nodes sources gates sinks is_kept same_sources same_sinks =
    let is_gates : gates ≡ (all_kept n w c).gates = ap (λ (k : Kept). k.gates) is_kept in
    let is_nodes : nodes_of nodes ≡ (all_kept n w c).nodes = ap (λ (k : Kept). k.nodes) is_kept in
    let is_sinks : sinks ≡ map (moved (all_kept n w c).nodes) n.sinks = same_sinks ∙ ap (λ (f : ℕ → Sig). map (moved f) n.sinks) is_nodes in
    let made : ℕ → List Gate → List Sig → Net = λ s g x. record { sources = s; gates = g; sinks = x } in
    ap (λ (s : ℕ). made s gates sinks) same_sources ∙ ap (λ (g : List Gate). made n.sources g sinks) is_gates ∙ ap (made n.sources (all_kept n w c).gates) is_sinks
