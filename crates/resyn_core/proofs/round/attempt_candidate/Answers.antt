-- The window that stayed undecided joins those that are named.
use Rattle.std.specs.Prelude.{true}
use Rattle.std.proofs.Common.{subst, sym, refl, ap, ◌∙◌}
use Rattle.net_theory.specs.Net.{Net}
use Rattle.window_theory.specs.Paths.{IsGate}
use Rattle.resyn_core.specs.declared.attempts.Attempted.{Attempted}
use Rattle.resyn_core.specs.Outcomes.{IsAttempted}
use Rattle.improve_theory.specs.Candidates.{IsThis}
use Rattle.resyn_core.specs.Resynthesized.{Round}
use Rattle.resyn_core.specs.AttemptLaws.{resynthesized_gone, resynthesized_no_gain, resynthesized_open, resynthesized_late, resynthesized_accepted}
use Rattle.resyn_core.proofs.round.attempt_candidate.Goals as goal

pub returns-in_ok-push-in-Open : goal.returns-in_ok-push-in-Open
returns-in_ok-push-in-Open g c =
    let s = g.T.Attempts.settings_of c.args.attempts.now in
    let n = g.T.Attempts.net_of c.args.attempts.now in
    let m = g.T.Attempts.net_of c.attempt.new.self in
    let attempted = subst (λ (attempted : Attempted). IsAttempted s n m c.args.candidate attempted) c.in-Open.is c.in_ok-attempt.ensures.attempted in
    resynthesized_open s (g.T.Attempts.settings_of c.attempt.new.self) n m c.args.round.now c.round.inside.changed
    c.round.inside.named.items c.push.new.self.items (record {
      candidate = c.args.candidate;
      search = c.in-Open.search;
    }) c.in_ok-attempt.ensures.asked attempted.0 attempted.1
    (sym c.round.view_is) c.in_ok-push-in-Open.ensures.items

pub returns-then-not-has_gate : goal.returns-then-not-has_gate
returns-then-not-has_gate g c =
    resynthesized_gone (g.T.Attempts.settings_of c.args.attempts.now) (g.T.Attempts.net_of c.args.attempts.now) c.args.round.now c.args.candidate
    (subst (λ (n : Net). IsGate n c.args.candidate.root → ⊥) c.net.ensures (c.if-not-has_gate.ensures.none refl))

pub returns-in-NoGain : goal.returns-in-NoGain
returns-in-NoGain g c =
    let s = g.T.Attempts.settings_of c.args.attempts.now in
    let n = g.T.Attempts.net_of c.args.attempts.now in
    let m = g.T.Attempts.net_of c.attempt.new.self in
    let attempted = subst (λ (attempted : Attempted). IsAttempted s n m c.args.candidate attempted) c.in-NoGain.is c.in_ok-attempt.ensures.attempted in
    resynthesized_no_gain s (g.T.Attempts.settings_of c.attempt.new.self) n m c.args.round.now c.args.candidate c.in_ok-attempt.ensures.asked attempted

pub returns-then-round : goal.returns-then-round
returns-then-round g c =
    let s = g.T.Attempts.settings_of c.args.attempts.now in
    let n = g.T.Attempts.net_of c.args.attempts.now in
    let m = g.T.Attempts.net_of c.attempt.new.self in
    let attempted = subst (λ (attempted : Attempted). IsAttempted s n m c.args.candidate attempted) c.in-Open.is c.in_ok-attempt.ensures.attempted in
    resynthesized_late (IsThis c.args.candidate) s (g.T.Attempts.settings_of c.attempt.new.self) n m c.args.round.now
    c.in_ok-attempt.ensures.asked attempted.0 (sym (ap (λ (r : Round). r.changed) c.round.view_is) ∙ c.if-round.true)

pub returns-in-Accepted : goal.returns-in-Accepted
returns-in-Accepted g c =
    let s = g.T.Attempts.settings_of c.args.attempts.now in
    let n = g.T.Attempts.net_of c.args.attempts.now in
    let m = g.T.Attempts.net_of c.attempt.new.self in
    let attempted = subst (λ (attempted : Attempted). IsAttempted s n m c.args.candidate attempted) c.in-Accepted.is c.in_ok-attempt.ensures.attempted in
    resynthesized_accepted (IsThis c.args.candidate) s (g.T.Attempts.settings_of c.attempt.new.self) n m c.args.round.now
    (record { changed = true; named = c.clear.new.self.items }) c.args.candidate c.in_ok-attempt.ensures.asked attempted refl
