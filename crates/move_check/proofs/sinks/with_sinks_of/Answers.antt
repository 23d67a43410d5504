use Rattle.std.proofs.Common.{ap, sym, ◌∙◌, subst, List}
use Rattle.std.specs.Prelude.{All, map}
use Rattle.net_theory.specs.declared.data.Sig.{Sig}
use Rattle.net_theory.specs.Net.{Net, IsSigBelow, end_of}
use Rattle.net_theory.specs.Moving.{moved}
use Rattle.net_core.specs.Marks.{nodes_of}
use Rattle.move_check.specs.Sinks.{IsSinkMap}
use Rattle.move_check.specs.SinkLaws.{sinks_below, has_sinks}
use Rattle.move_check.proofs.sinks.with_sinks_of.Goals as goal

pub with_sinks-requires : goal.with_sinks-requires
with_sinks-requires c =
    let is : IsSinkMap c.args.net.now.sources (end_of c.args.candidate) (nodes_of c.deref.result.now) =
    subst (λ (ps : List Sig). IsSinkMap c.args.net.now.sources (end_of c.args.candidate) (nodes_of ps))
    (sym c.deref.ensures.value) c.in_ok-nodes.ensures.map in
    subst (All (IsSigBelow (end_of c.args.candidate)))
    (sym (c.in_ok-sinks.ensures ∙ ap (λ (ss : List Sig). map (moved (nodes_of c.deref.result.now)) ss) c.sinks.ensures.sinks))
    (sinks_below c.args.net.now (end_of c.args.candidate) (nodes_of c.deref.result.now) c.sinks.ensures.net is)

pub returns-clause-sinks : goal.returns-clause-sinks
returns-clause-sinks c =
    let is : IsSinkMap c.args.net.now.sources (end_of c.args.candidate) (nodes_of c.deref.result.now) =
    subst (λ (ps : List Sig). IsSinkMap c.args.net.now.sources (end_of c.args.candidate) (nodes_of ps))
    (sym c.deref.ensures.value) c.in_ok-nodes.ensures.map in
    has_sinks c.args.net.now c.with_sinks.result (end_of c.args.candidate) (nodes_of c.deref.result.now)
    (ap (λ (n : Net). n.sources) c.with_sinks.ensures ∙ c.requires.sources)
    (ap (λ (n : Net). n.sinks) c.with_sinks.ensures ∙ c.in_ok-sinks.ensures ∙ ap (λ (ss : List Sig). map (moved (nodes_of c.deref.result.now)) ss) c.sinks.ensures.sinks)
    is
