use Rattle.std.proofs.Common.{◌∙◌}
use Rattle.std.proofs.lemmas.Bool.{lt-ltb, ltb-true}
use Rattle.window_core.specs.SeenLaws.{more_seen, seen_more}
use Rattle.window_core.proofs.window_outputs.is_output.Goals as goal

pub returns-clause-yes : goal.returns-clause-yes
returns-clause-yes c = λ e.
    more_seen c.args.net.now c.args.gates.now c.args.node c.inside_uses-inside.result c.from.result
    c.inside_uses-inside.ensures.value c.inside_uses-inside.ensures.few (c.from.ensures
    ∙ c.uses_at-all.ensures) c.requires.inside
    (ltb-true c.inside_uses-inside.result c.from.result e)

pub returns-clause-no : goal.returns-clause-no
returns-clause-no c = λ is.
    lt-ltb c.inside_uses-inside.result c.from.result
    (seen_more c.args.net.now c.args.gates.now c.args.node c.inside_uses-inside.result c.from.result
    c.inside_uses-inside.ensures.value c.inside_uses-inside.ensures.few (c.from.ensures ∙ c.uses_at-all.ensures) is)
