-- A subproblem without a chain has its log, as its search found.
use Rattle.std.proofs.Common.{◌≡◌, ◌∙◌, ap, subst}
use Rattle.cert_theory.specs.Certificate.{SubproblemLog, stops_after}
use Rattle.size_loop.specs.declared.trying.SubproblemOutcome.{SubproblemOutcome}
use Rattle.size_loop.specs.Outcomes.{IsTried}
use Rattle.size_loop.proofs.Tried.{tried_none, tried_more}
use Rattle.size_loop.proofs.sizes.search_subproblems.Goals as goal

pub loop-subproblem-init : goal.loop-subproblem-init
loop-subproblem-init g c = rw c.new-subproblems.ensures.items (tried_none c.args.header.now c.args.size)

pub loop-subproblem-preserved-in-Continue-branch-4 : goal.loop-subproblem-preserved-in-Continue-branch-4
loop-subproblem-preserved-in-Continue-branch-4 g c =
    let h = c.args.header.now in
    let subproblem = c.in-Some.subproblem in
    let tried = subst (λ (outcome : SubproblemOutcome). IsTried h c.args.size subproblem outcome) c.in-Logged.is c.in_ok-chain.ensures in
    let stops : c.stops_after-stopped.result ≡ stops_after h.method c.in-Logged.log.ended =
    c.stops_after-stopped.ensures ∙ ap (λ (p : SubproblemLog). stops_after h.method p.ended) c.log.view_is in
    let more = tried_more h c.args.size c.loop-subproblem.yielded c.loop-subproblem.subproblems.items c.loop-subproblem.stopped subproblem c.in-Logged.log
    c.stops_after-stopped.result c.loop-subproblem.invariant c.if-not-stopped.true tried.0 tried.1 tried.2 stops in
    rw c.in_ok-push-in-Logged.ensures.items more
