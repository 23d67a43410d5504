use Rattle.std.proofs.Common.{sym, ◌∙◌}
use Rattle.front_guide.proofs.Runs.{hinted}
use Rattle.front_guide.proofs.guiding.guide.Goals as goal

-- a text for people came after the run
pub returns : goal.returns
returns g c =
    hinted _ _ _ _ _ _ _ _ _ _ _ c.serve-status.ensures (sym c.is_found.ensures ∙ c.if-is_found.false)
    c.write_hint.ensures.text c.write_hint.ensures.rises
