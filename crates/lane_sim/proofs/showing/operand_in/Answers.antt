use Rattle.std.proofs.Common.{◌≡◌, ◌∙◌, ℕ, ◌+◌, ◌*◌, ◌<◌, List, length, Some, arith, ap, sym, subst}
use Rattle.std.specs.Prelude.{slice_get, slice_index_or}
use Rattle.std.proofs.lemmas.Option.{slice_get_within}
use Rattle.net_theory.specs.declared.data.Sig.{Sig}
use Rattle.net_theory.specs.declared.data.Gate.{Gate}
use Rattle.lane_sim.specs.declared.rows.Operand.TheVariants.{Row}
use Rattle.lane_sim.specs.Cone.{IsSigAmong, nodes, node_of}
use Rattle.lane_sim.specs.Rows.{IsOperandOf}
use Rattle.lane_sim.specs.PatternLaws.{leaf_operand, gate_operand, no_operand, row_room, nodes_count}
use Rattle.lane_sim.proofs.showing.operand_in.Goals as goal

pub overflow_mul-result : goal.overflow_mul-result
overflow_mul-result c =
    let at : slice_get c.args.cone.now.leaves c.in-Some.k ≡ Some c.in-Node.node = ap (λ (xs : List ℕ). slice_get xs c.in-Some.k) (sym c.leaves-leaves.ensures.value) ∙ c.in-Some.ensures.some in
    record {
      fits = row_room c.args.cone.now c.in-Some.k c.args.width
          (omega (
            arith,
            slice_get_within c.args.cone.now.leaves c.in-Some.k c.in-Node.node at,
            nodes_count c.args.cone.now,
          )) c.requires.room;
    }

pub returns-in-Some : goal.returns-in-Some
returns-in-Some c =
    let at : slice_get c.args.cone.now.leaves c.in-Some.k ≡ Some c.in-Node.node = ap (λ (xs : List ℕ). slice_get xs c.in-Some.k) (sym c.leaves-leaves.ensures.value) ∙ c.in-Some.ensures.some in
    subst (λ (s : Sig). IsOperandOf (nodes c.args.cone.now) c.args.width s (Row (c.in-Some.k * c.args.width)))
    (sym c.in-Node.is) (leaf_operand c.args.cone.now c.in-Node.node c.in-Some.k c.args.width at)

pub returns-in-Some-gate_at : goal.returns-in-Some-gate_at
returns-in-Some-gate_at c =
    let k = c.in-Some-gate_at.k in
    let at : (k < length c.args.cone.now.gates) × ((d : ℕ × Gate) → node_of (slice_index_or c.args.cone.now.gates k d) ≡ c.in-Node.node) =
    subst (λ (gs : List (ℕ × Gate)). (k < length gs) × ((d : ℕ × Gate) → node_of (slice_index_or gs k d) ≡ c.in-Node.node)) c.gates.ensures.value c.in-Some-gate_at.ensures.some in
    subst (λ (xs : List ℕ). IsOperandOf (nodes c.args.cone.now) c.args.width c.args.sig (Row ((length xs + k) * c.args.width))) (sym c.leaves-leaves.ensures.value)
    (subst (λ (s : Sig). IsOperandOf (nodes c.args.cone.now) c.args.width s
    (Row ((length c.args.cone.now.leaves + k) * c.args.width))) (sym c.in-Node.is)
    (gate_operand c.args.cone.now c.in-Node.node k c.args.width at.0 at.1))

pub returns-in-None : goal.returns-in-None
returns-in-None c =
    absurd (no_operand c.args.cone.now c.in-Node.node (subst (IsSigAmong (nodes c.args.cone.now)) c.in-Node.is c.requires.known)
    (subst (λ (xs : List ℕ). (i d : ℕ) → i < length xs → slice_index_or xs i d ≡ c.in-Node.node → ⊥) c.leaves-leaves.ensures.value c.in_default.ensures.none)
    (subst (λ (gs : List (ℕ × Gate)). (i : ℕ) (d : ℕ × Gate) → i < length gs → node_of (slice_index_or gs i d) ≡ c.in-Node.node → ⊥) c.gates.ensures.value c.in-None.ensures.none))
