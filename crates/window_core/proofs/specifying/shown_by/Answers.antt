use Rattle.std.proofs.Common.{◌∙◌, List, sym, subst}
use Rattle.std.specs.Prelude.{All}
use Rattle.net_theory.specs.declared.data.Sig.{Sig}
use Rattle.lane_sim.specs.Cone.{IsSigAmong, nodes}
use Rattle.lane_sim.specs.Words.{ArePatterns}
use Rattle.window_core.proofs.specifying.shown_by.Goals as goal

pub patterns-requires-clause-known : goal.patterns-requires-clause-known
patterns-requires-clause-known c =
    subst (λ (ss : List Sig). All (IsSigAmong (nodes c.args.cone.now)) ss) (sym (c.deref.ensures.value ∙ c.in_ok-signals.ensures)) c.requires.known

pub returns : goal.returns
returns c = subst (λ (ss : List Sig). ArePatterns c.args.cone.now ss c.patterns.result) (c.deref.ensures.value ∙ c.in_ok-signals.ensures) c.patterns.ensures
