use Rattle.std.proofs.Common.{◌≡◌, ◌+◌, ◌∷◌, [], ℕ, ◌∙◌, length, length-append, get_or, sym, subst, ap, refl, arith}
use Rattle.std.proofs.lemmas.List.{length-set}
use Rattle.net_theory.specs.declared.data.Sig.TheVariants.{Zero}
use Rattle.subst_core.specs.Lists.{AllBelow}
use Rattle.subst_core.proofs.Marking.{prefix_below, last_below}
use Rattle.subst_core.proofs.Placings.{put_next, put_none}
use Rattle.subst_core.proofs.steps.put_sigs.Goals as goal

pub loop-node-preserved : goal.loop-node-preserved
loop-node-preserved c =
    let nodes = c.loop-node.nodes in
    let left = c.loop-node.left.now in
    let rest = c.in-Some.rest.now in
    let p = c.in-Some.node.now in
    let sigs = c.args.sigs.now in
    let e = c.in-Some.ensures.cases.0 in
    let size : length left ≡ length rest + 1 = ap (length {A = ℕ}) e ∙ length-append rest (p ∷ []) in
    record {
      nodes = put_next nodes sigs left rest p (get_or sigs (length rest) Zero) e
          (last_below (length nodes) left rest p e c.loop-node.invariant.below)
          (omega (arith, size, c.loop-node.invariant.few)) refl ∙ c.loop-node.invariant.nodes;
      below = subst (λ (n : ℕ). AllBelow n rest) (sym (length-set nodes p (get_or sigs (length rest) Zero))) (prefix_below (length nodes) left rest p e c.loop-node.invariant.below);
      few = omega (arith, size, c.loop-node.invariant.few);
    }

pub returns : goal.returns
returns c = put_none _ c.loop-node.left.now c.args.sigs.now c.in_default.ensures.cases ∙ c.loop-node.invariant.nodes
