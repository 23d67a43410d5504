-- A cleanup keeps the levels.
use Rattle.std.specs.Prelude.{◌≡◌, ℕ, zero, suc, ◌+◌, ◌-◌, ◌≤◌, ◌<◌, true, List, [], ◌∷◌, length, map, slice_get, Some, ◌⊎◌, refl}
use Rattle.std.proofs.Common.{arith, sym, ◌∙◌, ap, subst, inl, inr, ⊎_elim}
use Rattle.std.proofs.lemmas.Bool.{cases_lt}
use Rattle.net_theory.specs.declared.data.Sig.{Sig}
use Rattle.net_theory.specs.declared.data.Sig.TheVariants.{Zero, One, Node}
use Rattle.net_theory.specs.declared.data.Gate.{Gate}
use Rattle.net_theory.specs.Net.{Net, IsNet, IsSigBelow, IsGateAt, end_of}
use Rattle.net_theory.specs.NameLaws.{all_at}
use Rattle.net_theory.specs.Reach.{ReadsNode, IsClosedFrom, is_sink, live}
use Rattle.net_theory.specs.ReachLaws.{sink_in, reach_closed}
use Rattle.net_theory.specs.Moving.{moved, moved_gate, nothing_kept}
use Rattle.net_theory.specs.MovingLaws.{Goes, kept_goes, nodes_low, source_stays, reads_below}
use Rattle.net_theory.specs.Dangling.{kept_gates, cleanup}
use Rattle.net_theory.specs.DanglingLaws.{cleanup_is}
use Rattle.net_levels.specs.Levels.{sig_level, level, largest, levels_of}
use Rattle.net_levels.specs.LevelLaws.{level_source, level_gate}

-- a node that is kept: a source, or a gate below the sinks
abbrev IsKept : Net → ℕ → Type 0
IsKept n p = (p < end_of n) × ((p ≤ n.sources) ⊎ (live n p ≡ true))

closed : (n : Net) → IsNet n → IsClosedFrom n (is_sink n) (live n)
closed n net = reach_closed n (is_sink n) net

there : {A : Type 0} (xs : List A) (i : ℕ) → i < length xs → (x : A) × (slice_get xs i ≡ Some x)
there [] i low = absurd (omega (arith, low))
there (x ∷ xs) zero low = (x, refl)
there (x ∷ xs) (suc i) low = there xs i (omega (arith, low))

-- the new signal of a kept node has its level
abbrev SameBelow : Net → ℕ → Type 0
SameBelow n bound = (p : ℕ) → p < bound → IsKept n p → sig_level (level (cleanup n)) ((kept_gates n).nodes p) ≡ level n p

source_same : (n : Net) (p : ℕ) → p ≤ n.sources → sig_level (level (cleanup n)) ((kept_gates n).nodes p) ≡ level n p
unfolding cleanup
source_same n p low =
    ap (sig_level (level (cleanup n))) (nodes_low (live n) n.sources (nothing_kept n.sources) (n.sources + 1) n.gates p (omega (arith, low)) ∙ source_stays n.sources p low)
    ∙ level_source (cleanup n) p low
    ∙ sym (level_source n p low)

operand_same : (n : Net) (node : ℕ) (s : Sig) → IsSigBelow node s → SameBelow n node → ((p : ℕ) → s ≡ Node p → IsKept n p) → sig_level (level (cleanup n)) (moved (kept_gates n).nodes s) ≡ sig_level (level n) s
operand_same n node Zero below same keeps = refl
operand_same n node One below same keeps = refl
operand_same n node (Node p) below same keeps = same p below.1 (keeps p refl)

operand_kept : (n : Net) (i : ℕ) (g : Gate) (p : ℕ) → IsNet n → slice_get n.gates i ≡ Some g → n.sources + 1 + i < end_of n → live n (n.sources + 1 + i) ≡ true → ReadsNode g p → IsKept n p
operand_kept n i g p net at high on reads =
    let low = reads_below (n.sources + 1 + i) p g (net.gates.each i g at) reads in
    (omega (arith, low.1, high), inr ((closed n net).gates i p g at reads on))

gate_same : (n : Net) (i : ℕ) (g : Gate) → IsNet n → slice_get n.gates i ≡ Some g → n.sources + 1 + i < end_of n → live n (n.sources + 1 + i) ≡ true → SameBelow n (n.sources + 1 + i) →
    sig_level (level (cleanup n)) ((kept_gates n).nodes (n.sources + 1 + i)) ≡ level n (n.sources + 1 + i)
unfolding cleanup
gate_same n i g net at high on same =
    let is : IsGateAt (n.sources + 1 + i) g = net.gates.each i g at in
    let goes : Goes n.sources (kept_gates n) (n.sources + 1 + i) g = kept_goes (live n) n.sources (nothing_kept n.sources) (n.sources + 1) n.gates i g at is on in
    let nodes : ℕ → Sig = (kept_gates n).nodes in
    let first : sig_level (level (cleanup n)) (moved nodes g.a) ≡ sig_level (level n) g.a = operand_same n (n.sources + 1 + i) g.a is.first same (λ p e. operand_kept n i g p net at high on (inl e)) in
    let second : sig_level (level (cleanup n)) (moved nodes g.b) ≡ sig_level (level n) g.b = operand_same n (n.sources + 1 + i) g.b is.second same (λ p e. operand_kept n i g p net at high on (inr e)) in
    ap (sig_level (level (cleanup n))) goes.went
    ∙ level_gate (cleanup n) goes.j (moved_gate nodes g) (cleanup_is n net).implements.net goes.at
    ∙ rw (first, second) refl
    ∙ sym (level_gate n i g net at)

all_same : (n : Net) (bound : ℕ) → IsNet n → SameBelow n bound
all_same n zero net p low kept = absurd (omega (arith, low))
all_same n (suc bound) net p low kept = ⊎_elim
    (λ (source : p < n.sources + 1). source_same n p (omega (arith, source)))
    (λ (above : n.sources + 1 ≤ p). ⊎_elim
    (λ source. source_same n p source)
    (λ on.
    let i : ℕ = p - (n.sources + 1) in
    let own : n.sources + 1 + i ≡ p = omega (arith, above) in
    let g = there n.gates i (omega (arith, above, kept.0)) in
    subst (λ (q : ℕ). sig_level (level (cleanup n)) ((kept_gates n).nodes q) ≡ level n q) own
    (gate_same n i g.0 net g.1 (omega (arith, own, kept.0)) (subst (λ (q : ℕ). live n q ≡ true) (sym own) on)
    (λ q less is. all_same n bound net q (omega (arith, less, own, low)) is)))
    kept.1)
    (cases_lt p (n.sources + 1))

sink_kept : (n : Net) (i : ℕ) (s : Sig) (p : ℕ) → IsNet n → slice_get n.sinks i ≡ Some s → s ≡ Node p → IsKept n p
sink_kept n i s p net at e =
    let low : IsSigBelow (end_of n) (Node p) = subst (IsSigBelow (end_of n)) e (all_at (IsSigBelow (end_of n)) n.sinks i s net.sinks at) in
    (low.1, inr ((closed n net).starts p (sink_in n i p (at ∙ ap Some e))))

largest_same : (f g : ℕ → ℕ) (move : Sig → Sig) (ss : List Sig) → ((i : ℕ) (s : Sig) → slice_get ss i ≡ Some s → sig_level f (move s) ≡ sig_level g s) → largest f (map move ss) ≡ largest g ss
unfolding largest
largest_same f g move [] same = refl
largest_same f g move (s ∷ ss) same = rw (same 0 s refl, largest_same f g move ss (λ i t at. same (suc i) t at)) refl

-- The cleanup of a net keeps its levels.
pub cleanup_levels : (n : Net) → IsNet n → levels_of (cleanup n) ≡ levels_of n
unfolding cleanup
cleanup_levels n net =
    largest_same (level (cleanup n)) (level n) (moved (kept_gates n).nodes) n.sinks (λ i s at.
    operand_same n (end_of n) s (all_at (IsSigBelow (end_of n)) n.sinks i s net.sinks at) (all_same n (end_of n) net)
    (λ p e. sink_kept n i s p net at e))
