-- No minimum was found.
use Rattle.std.proofs.Common.{sym, ◌∙◌, subst}
use Rattle.cert_theory.specs.declared.data.Header.{Header}
use Rattle.cert_theory.specs.LiveBounds.{HaveLiveBounds}
use Rattle.depth_core.proofs.searching.least_depth.Goals as goal

pub returns-in-None : goal.returns-in-None
returns-in-None g c = record {
  header = c.in_ok-certificate.ensures.header;
  valid = c.in_ok-certificate.ensures.valid;
  live_bounds = subst (λ (h : Header). HaveLiveBounds h c.in_ok-certificate.certificate.sections) c.in_ok-certificate.ensures.header c.in_ok-certificate.ensures.live_bounds;
  no_minimum = sym c.minimum_in.ensures ∙ c.in-None.is;
}
