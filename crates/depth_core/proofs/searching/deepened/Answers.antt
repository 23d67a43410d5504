-- The certificate, taken apart.
use Rattle.std.proofs.Common.{◌≡◌, Some, sym, subst}
use Rattle.cert_theory.specs.Certificate.{Certificate, IsValid}
use Rattle.cert_theory.specs.LiveBounds.{HaveLiveBounds}
use Rattle.depth_core.specs.Flattened.{minimum_of}
use Rattle.depth_core.proofs.LevelLogs.{is_searched, no_chain}
use Rattle.depth_core.proofs.searching.deepened.Goals as goal

pub least-requires-clause-searched : goal.least-requires-clause-searched
least-requires-clause-searched g c =
    let e = sym c.certificate.view_is in
    is_searched _ c.in-Some.chain c.args.size (subst IsValid e c.requires.valid)
    (subst (λ (b : Certificate). HaveLiveBounds b.header b.sections) e c.requires.live_bounds) c.in-Some.is
    (subst (λ (b : Certificate). minimum_of b.verdict ≡ Some c.args.size) e c.requires.minimum)

pub unreachable-requires : goal.unreachable-requires
unreachable-requires g c =
    let e = sym c.certificate.view_is in
    let none = no_chain _ (subst IsValid e c.requires.valid) c.in-None.is in
    let some = subst (λ (b : Certificate). minimum_of b.verdict ≡ Some c.args.size) e c.requires.minimum in
    cc (none, some)
