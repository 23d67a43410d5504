-- The result of one step of the search, with the text that it adds.
use Rattle.std.proofs.Common.{◌≡◌, ◌≤◌, ap, subst, rules}
use Rattle.std.proofs.lemmas.Grind.{common_steps}
use Rattle.cert_theory.specs.Certificate.{IsSection, IsTrailer}
use Rattle.size_loop.specs.declared.advancing.Advance.{Advance}
use Rattle.size_loop.specs.Advancing.{IfSection, IfEnded, after_section}
use Rattle.size_loop.specs.State.{State}
use Rattle.cert_theory.specs.LiveBounds.{HasLiveBoundsIn}
use Rattle.synth_core.proofs.InProgress.{section_more, ended}
use Rattle.synth_core.proofs.pieces.next_piece.Goals as goal

pub returns-in_ok-write_section-in-Section-clause-piece : goal.returns-in_ok-write_section-in-Section-clause-piece
returns-in_ok-write_section-in-Section-clause-piece g c = λ bytes settings before under.
    let s = c.args.search in
    let within = subst (λ (step : Advance). IfSection step (λ rest section. s.next ≤ s.header.max)) c.in-Section.is c.in_ok-rest.ensures.within in
    let is_section = subst (λ (step : Advance). IfSection step (λ rest section. IsSection s.header s.next section)) c.in-Section.is c.in_ok-rest.ensures.section in
    let has_live_bounds = subst (λ (step : Advance). IfSection step (λ rest section. HasLiveBoundsIn s.header section)) c.in-Section.is c.in_ok-rest.ensures.live_bounds in
    let rest_is = subst (λ (step : Advance). IfSection step (λ rest section. rest ≡ after_section s section)) c.in-Section.is c.in_ok-rest.ensures.rest in
    section_more bytes settings s c.in-Section.rest before _ c.in-Section.section under within is_section has_live_bounds rest_is (search (rules, common_steps))

pub returns-in_ok-write_section-in-Section-clause-up : goal.returns-in_ok-write_section-in-Section-clause-up
returns-in_ok-write_section-in-Section-clause-up g c =
    let s = c.args.search in
    let within = subst (λ (step : Advance). IfSection step (λ rest section. s.next ≤ s.header.max)) c.in-Section.is c.in_ok-rest.ensures.within in
    let rest_is = subst (λ (step : Advance). IfSection step (λ rest section. rest ≡ after_section s section)) c.in-Section.is c.in_ok-rest.ensures.rest in
    (within, ap (λ (t : State). t.next) rest_is, ap (λ (t : State). t.header) rest_is)

pub returns-in_ok-write_trailer-in-Ended-clause-piece : goal.returns-in_ok-write_trailer-in-Ended-clause-piece
returns-in_ok-write_trailer-in-Ended-clause-piece g c = λ bytes settings before under.
    let s = c.args.search in
    let trailer = subst (λ (step : Advance). IfEnded step (λ chain verdict. IsTrailer s.header s.next s.low chain verdict)) c.in-Ended.is c.in_ok-rest.ensures.trailer in
    ended bytes settings s before _ c.in-Ended.chain c.in-Ended.verdict under trailer (search (rules, common_steps))
