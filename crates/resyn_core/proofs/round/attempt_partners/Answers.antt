-- One more partner was attempted, or there is no other.
use Rattle.std.proofs.Common.{subst}
use Rattle.std.specs.Prelude.{ℕ, Option}
use Rattle.improve_theory.specs.Candidates.{IsNextPartner}
use Rattle.resyn_core.specs.Resynthesized.{loop_state}
use Rattle.resyn_core.specs.ResynthesizedLaws.{partners_start, partners_more, partners_end}
use Rattle.resyn_core.proofs.round.attempt_partners.Goals as goal

pub returns-in-None : goal.returns-in-None
returns-in-None g c =
    let n = g.T.Attempts.net_of c.loop-partner.attempts in
    partners_end
    (loop_state (g.T.Attempts.settings_of c.args.attempts.now) (g.T.Attempts.net_of c.args.attempts.now) c.args.round.now)
    (loop_state (g.T.Attempts.settings_of c.loop-partner.attempts) n c.loop-partner.round)
    c.args.root (g.T.Attempts.settings_of c.args.attempts.now).cap c.loop-partner.below
    (subst (λ (next : Option ℕ). IsNextPartner n c.args.root c.loop-partner.below next) c.in-None.is c.in_ok-next_partner.ensures)
    c.loop-partner.invariant

pub loop-partner-preserved : goal.loop-partner-preserved
loop-partner-preserved g c =
    let n = g.T.Attempts.net_of c.loop-partner.attempts in
    let first = g.T.Attempts.settings_of c.args.attempts.now in
    partners_more
    (loop_state first (g.T.Attempts.net_of c.args.attempts.now) c.args.round.now)
    (loop_state (g.T.Attempts.settings_of c.loop-partner.attempts) n c.loop-partner.round)
    (loop_state (g.T.Attempts.settings_of c.attempt_counts.new.attempts) (g.T.Attempts.net_of c.attempt_counts.new.attempts) c.attempt_counts.new.round)
    c.args.root c.loop-partner.below c.in-Some.partner
    (subst (λ (next : Option ℕ). IsNextPartner n c.args.root c.loop-partner.below next) c.in-Some.is c.in_ok-next_partner.ensures)
    c.loop-partner.invariant
    c.in_ok-attempt_counts-in-Some.ensures

pub loop-partner-init : goal.loop-partner-init
loop-partner-init g c = partners_start (loop_state (g.T.Attempts.settings_of c.args.attempts.now)
    (g.T.Attempts.net_of c.args.attempts.now) c.args.round.now) c.args.root
    (g.T.Attempts.settings_of c.args.attempts.now).cap
