use Rattle.subst_core.specs.Lists.{window_of}
use Rattle.subst_core.specs.SubstitutionLaws.{agrees_keeps}
use Rattle.subst_core.proofs.substitution.substitute.Goals as goal

pub substitute_keeping-requires-clause-keeps : goal.substitute_keeping-requires-clause-keeps
substitute_keeping-requires-clause-keeps c =
    agrees_keeps c.args.net.now (window_of c.args.window.now) c.args.chain.now c.gates-gates.ensures.net c.requires.belongs c.requires.meets
