use Rattle.std.proofs.Common.{ℕ, map, refl}
use Rattle.std.proofs.lemmas.Result.{IfOk-weaker}
use Rattle.net_theory.specs.declared.data.Sig.TheVariants as sigs
use Rattle.lane_sim.specs.Words.{ArePatterns}
use Rattle.window_core.specs.ConeLaws.{above_cone}
use Rattle.window_core.specs.Masking.{IsCareMask}
use Rattle.window_core.specs.MaskingLaws.{mask_is, signals_among}
use Rattle.window_core.proofs.specifying.care_rows.Goals as goal

pub shown_by-requires-clause-known : goal.shown_by-requires-clause-known
shown_by-requires-clause-known c =
    signals_among c.in_ok-cone.cone c.args.nodes.now (map sigs.Node c.args.nodes.now) c.in_ok-cone.ensures.covered refl

pub returns : goal.returns
returns c =
    IfOk-weaker c.shown_by.result (λ (mask : ℕ). ArePatterns c.in_ok-cone.cone (map sigs.Node c.args.nodes.now) mask) (λ (mask : ℕ). IsCareMask c.args.net.now c.args.nodes.now mask)
    (λ mask is.
    mask_is c.args.net.now c.args.nodes.now c.in_ok-cone.cone (map sigs.Node c.args.nodes.now) mask c.sources-sources.ensures.net
    (above_cone c.args.net.now c.in_ok-cone.cone.leaves c.in_ok-cone.cone.gates c.sources-sources.ensures.net c.in_ok-cone.ensures.gates)
    c.in_ok-cone.ensures.leaves c.in_ok-cone.ensures.gates c.in_ok-cone.ensures.covered refl is)
    c.shown_by.ensures
