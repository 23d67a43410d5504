-- The first open fence has fewer levels than the chain.
use Rattle.std.proofs.Common.{◌≡◌, ◌<◌, Some, sym, ◌∙◌, arith}
use Rattle.depth_theory.specs.DepthCertificate.{open_levels}
use Rattle.depth_core.proofs.searching.verdict_of.Goals as goal

pub overflow_cast-result : goal.overflow_cast-result
overflow_cast-result c =
    let opened : open_levels c.args.subproblems.now ≡ Some c.in-Some.low = sym c.open_levels.ensures ∙ c.in-Some.is in
    let below : c.in-Some.low < c.args.levels = c.requires.below c.in-Some.low opened in
    omega (arith, below)
