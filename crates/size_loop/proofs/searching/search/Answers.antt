use Rattle.std.proofs.Common.{◌≡◌, ◌≤◌, subst}
use Rattle.size_loop.specs.declared.advancing.Advance.{Advance}
use Rattle.size_loop.specs.Advancing.{IfSection, after_section}
use Rattle.cert_theory.specs.LiveBounds.{HasLiveBoundsIn}
use Rattle.size_loop.specs.SearchedLaws.{searched_more}
use Rattle.cert_theory.specs.Certificate.{IsSection}
use Rattle.size_loop.proofs.searching.search.Goals as goal

pub loop-sections-preserved : goal.loop-sections-preserved
loop-sections-preserved g c =
    let s = c.loop-sections.search in
    let within = subst (λ (step : Advance). IfSection step (λ rest section. s.next ≤ s.header.max)) c.in-Section.is c.in_ok-rest.ensures.within in
    let is_section = subst (λ (step : Advance). IfSection step (λ rest section. IsSection s.header s.next section)) c.in-Section.is c.in_ok-rest.ensures.section in
    let has_live_bounds = subst (λ (step : Advance). IfSection step (λ rest section. HasLiveBoundsIn s.header section)) c.in-Section.is c.in_ok-rest.ensures.live_bounds in
    let rest_is = subst (λ (step : Advance). IfSection step (λ rest section. rest ≡ after_section s section)) c.in-Section.is c.in_ok-rest.ensures.rest in
    let searched = searched_more s c.loop-sections.sections.items c.in-Section.section c.loop-sections.invariant.1 within is_section has_live_bounds in
    rw (rest_is, c.in_ok-push-in-Section.ensures.items) (c.loop-sections.invariant.0, searched)

pub returns-in-Ended-clause-live_bounds : goal.returns-in-Ended-clause-live_bounds
returns-in-Ended-clause-live_bounds g c = rw (c.in_ok-copied-in-Ended.ensures, ← c.loop-sections.invariant.0) c.loop-sections.invariant.1.live_bounds
