-- The step for one more gate, and a gate that can't be expressed.
use Rattle.std.proofs.Common.{◌≡◌, ◌∙◌, ℕ, ◌+◌, List, length, vec_len, ap, subst, arith}
use Rattle.std.proofs.lemmas.List.{length-set}
use Rattle.op_basis.specs.Basis.{members}
use Rattle.net_theory.specs.declared.data.Sig.{Sig}
use Rattle.net_theory.specs.declared.data.Gate.{Gate}
use Rattle.net_theory.specs.Moving.{moved_gate}
use Rattle.net_core.specs.Marks.{nodes_of, kept}
use Rattle.net_basis.specs.OverBasis.{IsInexpressible, most_over}
use Rattle.net_basis.specs.Placing.{IsExpressed}
use Rattle.net_basis.specs.Conversion.{lengths_by, MayEndAt, IsGateAnswer}
use Rattle.net_basis.proofs.Placements.{nodes_put}
use Rattle.net_basis.proofs.Conversions.{converted_first, left_start, left_more, next_stands, next_within, gate_later}
use Rattle.net_basis.proofs.Conversions.{moved_at, converted_next, inexpressible_next, most_split}
use Rattle.net_basis.proofs.Locals.{moved_word}
use Rattle.net_basis.proofs.Lengths.{too_many_at, passed_at}
use Rattle.net_basis.proofs.converting.pass.Goals as goal

pub loop-gate-init : goal.loop-gate-init
loop-gate-init c =
    let first : c.sources-sources.result + 1 ≡ c.args.net.now.sources + 1 = ap (λ (s : ℕ). s + 1) c.sources-sources.ensures.sources in
    record {
      converted = converted_first (members c.args.basis) c.args.net.now (c.sources-sources.result + 1) c.args.nodes.now
          c.new-gates.result.items first c.requires.start c.new-gates.ensures.items;
      left = left_start c.args.net.now (c.sources-sources.result + 1) c.gates-left.result.now first c.gates-left.ensures.gates;
      nodes = c.requires.count;
      few = omega (arith, c.new-gates.ensures.len);
      room = omega (arith, c.new-gates.ensures.len, c.gates-left.ensures.net.nodes);
      fewer = omega (
        arith,
        c.new-gates.ensures.len,
        ap (most_over (lengths_by (members c.args.basis) c.args.recipes.now)) c.gates-left.ensures.gates,
      );
    }

pub moved_operands-mapped-requires : goal.moved_operands-mapped-requires
moved_operands-mapped-requires c =
    let split = c.in-Some.ensures.cases.0 in
    gate_later c.loop-gate.node (length c.loop-gate.nodes) c.in-Some.gate.now
    (omega (
      arith,
      next_within c.args.net.now c.loop-gate.node c.loop-gate.left.now c.in-Some.rest.now
          c.in-Some.gate.now split c.loop-gate.invariant.left,
      c.loop-gate.invariant.nodes,
    ))
    (next_stands c.args.net.now c.loop-gate.node c.loop-gate.left.now c.in-Some.rest.now c.in-Some.gate.now
    c.gates-left.ensures.net split c.loop-gate.invariant.left)

pub express-requires-clause-gate : goal.express-requires-clause-gate
express-requires-clause-gate c =
    rw (c.moved_operands-mapped.ensures, c.sources-sources.ensures.sources)
    (moved_at (members c.args.basis) c.args.net.now c.loop-gate.node (kept c.loop-gate.nodes c.loop-gate.gates.items)
    c.in-Some.gate.now c.loop-gate.invariant.converted
    (next_stands c.args.net.now c.loop-gate.node c.loop-gate.left.now c.in-Some.rest.now c.in-Some.gate.now
    c.gates-left.ensures.net c.in-Some.ensures.cases.0 c.loop-gate.invariant.left))

pub express-requires-clause-function : goal.express-requires-clause-function
express-requires-clause-function c =
    moved_word (nodes_of c.loop-gate.nodes) c.in-Some.gate.now c.moved_operands-mapped.result c.local_word-word.result
    c.local_word-word.ensures c.moved_operands-mapped.ensures

pub returns-in-Cannot-clause-answer : goal.returns-in-Cannot-clause-answer
returns-in-Cannot-clause-answer c =
    let is : IsInexpressible (members c.args.basis) c.local_word-word.result =
    subst (IsGateAnswer (members c.args.basis) c.local_word-word.result
    (lengths_by (members c.args.basis) c.args.recipes.now c.local_word-word.result)
    c.sources-sources.result c.loop-gate.gates.items c.express.new.gates.items c.moved_operands-mapped.result) c.in-Cannot.is c.in_ok-sig.ensures.answer in
    inexpressible_next (members c.args.basis) c.args.net.now c.loop-gate.node c.loop-gate.left.now c.in-Some.rest.now
    c.in-Some.gate.now c.in-Some.ensures.cases.0 c.loop-gate.invariant.left
    (subst (IsInexpressible (members c.args.basis)) c.local_word-word.ensures is)

pub loop-gate-preserved : goal.loop-gate-preserved
loop-gate-preserved c =
    let split = c.in-Some.ensures.cases.0 in
    let old : List Gate = c.loop-gate.gates.items in
    let new : List Gate = c.express.new.gates.items in
    let nodes : ℕ → Sig = nodes_of c.loop-gate.nodes in
    let lengths : ℕ → ℕ = lengths_by (members c.args.basis) c.args.recipes.now in
    let low = next_within c.args.net.now c.loop-gate.node c.loop-gate.left.now c.in-Some.rest.now c.in-Some.gate.now split
    c.loop-gate.invariant.left in
    let answer : IsExpressed (members c.args.basis) c.sources-sources.result old new c.moved_operands-mapped.result.a
    c.moved_operands-mapped.result.b c.moved_operands-mapped.result.op c.in-By.sig =
    subst (IsGateAnswer (members c.args.basis) c.local_word-word.result (lengths c.local_word-word.result)
    c.sources-sources.result old new c.moved_operands-mapped.result)
    c.in-By.is c.in_ok-sig.ensures.answer in
    let gate : Gate = moved_gate nodes c.in-Some.gate.now in
    let expressed : IsExpressed (members c.args.basis) c.args.net.now.sources old new gate.a gate.b gate.op c.in-By.sig =
    subst (λ (s : ℕ). IsExpressed (members c.args.basis) s old new gate.a gate.b gate.op c.in-By.sig)
    c.sources-sources.ensures.sources
    (subst (λ (g : Gate). IsExpressed (members c.args.basis) c.sources-sources.result old new g.a g.b g.op c.in-By.sig)
    c.moved_operands-mapped.ensures answer) in
    record {
      converted = converted_next (members c.args.basis) c.args.net.now c.loop-gate.node c.loop-gate.left.now
          c.in-Some.rest.now c.in-Some.gate.now (kept c.loop-gate.nodes old) (kept _ new) c.in-By.sig
          c.gates-left.ensures.net split c.loop-gate.invariant.left c.loop-gate.invariant.converted expressed
          (nodes_put c.loop-gate.nodes c.loop-gate.node c.in-By.sig (omega (arith, low, c.loop-gate.invariant.nodes)));
      left = left_more c.args.net.now c.loop-gate.node c.loop-gate.left.now c.in-Some.rest.now c.in-Some.gate.now split c.loop-gate.invariant.left;
      nodes = length-set c.loop-gate.nodes c.loop-gate.node c.in-By.sig ∙ c.loop-gate.invariant.nodes;
      few = c.in_ok-sig.ensures.few;
      room = omega (arith, c.in_ok-sig.ensures.room, c.sources-sources.ensures.sources);
      fewer = omega (
        arith,
        c.in_ok-sig.ensures.more,
        c.loop-gate.invariant.fewer,
        ap lengths c.local_word-word.ensures,
        most_split lengths c.loop-gate.left.now c.in-Some.rest.now c.in-Some.gate.now split,
      );
    }

pub returns-in-TooMany-clause-answer : goal.returns-in-TooMany-clause-answer
returns-in-TooMany-clause-answer c =
    let lengths : ℕ → ℕ = lengths_by (members c.args.basis) c.args.recipes.now in
    let ends : MayEndAt c.sources-sources.result (length c.loop-gate.gates.items)
    (lengths c.local_word-word.result) =
    subst (IsGateAnswer (members c.args.basis) c.local_word-word.result (lengths c.local_word-word.result)
    c.sources-sources.result c.loop-gate.gates.items c.express.new.gates.items c.moved_operands-mapped.result) c.in-TooMany.is
    c.in_ok-sig.ensures.answer in
    too_many_at (members c.args.basis) c.args.recipes.now c.args.net.now c.sources-sources.result
    (length c.loop-gate.gates.items) c.local_word-word.result c.in-Some.gate.now c.loop-gate.left.now
    c.in-Some.rest.now c.requires.recipes c.requires.other c.in-Some.ensures.cases.0 c.sources-sources.ensures.sources
    c.local_word-word.ensures
    (omega (arith, c.loop-gate.invariant.fewer, c.loop-gate.gates.ok.0)) ends

pub returns-clause-answer : goal.returns-clause-answer
returns-clause-answer c =
    let size : vec_len c.loop-gate.gates ≡ length c.loop-gate.gates.items = c.loop-gate.gates.ok.0 in
    passed_at (members c.args.basis) c.args.recipes.now c.args.net.now c.loop-gate.node c.loop-gate.left.now
    (kept c.loop-gate.nodes c.loop-gate.gates.items) c.requires.recipes c.in_default.ensures.cases
    c.loop-gate.invariant.left c.loop-gate.invariant.converted (omega (arith, size, c.loop-gate.invariant.few))
    (omega (arith, size, c.loop-gate.invariant.room)) (omega (arith, size, c.loop-gate.invariant.fewer))
