use Rattle.std.proofs.Common.{◌∙◌, ◌++◌, ◌∷◌, [], List, ap, sym, map, take}
use Rattle.std.proofs.lemmas.List.{map_more}
use Rattle.net_theory.specs.declared.data.Sig.{Sig}
use Rattle.net_theory.specs.declared.data.Sig.TheVariants.{Zero}
use Rattle.net_theory.specs.Moving.{moved}
use Rattle.net_core.specs.Marks.{nodes_of}
use Rattle.net_core.proofs.keeping.moved_sinks.Goals as goal

pub loop-sink-preserved : goal.loop-sink-preserved
loop-sink-preserved c =
    c.in_ok-push.ensures.items
    ∙ ap (λ (xs : List Sig). xs ++ c.moved.result ∷ []) c.loop-sink.invariant
    ∙ ap (λ (s : Sig). map (moved (nodes_of c.args.nodes.now)) (take c.loop-sink.sink-index c.args.sinks.now) ++ s ∷ []) c.moved.ensures
    ∙ sym (map_more (moved (nodes_of c.args.nodes.now)) c.args.sinks.now c.loop-sink.sink-index Zero c.loop-sink-test.true)
