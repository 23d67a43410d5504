-- Each fence of the level has its log or a chain, as its search found.
use Rattle.std.proofs.Common.{◌≡◌, ℕ, List, Contains, length, sym, ap, ◌∙◌, subst}
use Rattle.std.proofs.lemmas.List.{map-id}
use Rattle.std.proofs.lemmas.Iterator.Adapters.{YieldsList-from_vec}
use Rattle.std.proofs.lemmas.Iterator.Consumers.{YieldsList-turn, YieldsList-end}
use Rattle.std.specs.List.{filter}
use Rattle.chain_theory.specs.Levels.{HasLevels}
use Rattle.enc_theory.specs.declared.subproblem.Subproblem.{Subproblem}
use Rattle.enc_theory.specs.Subproblems.{subproblems_for}
use Rattle.size_loop.specs.declared.trying.SubproblemOutcome.{SubproblemOutcome}
use Rattle.size_loop.specs.Outcomes.{AreLogged}
use Rattle.size_loop.specs.OutcomeLaws.{logged_more}
use Rattle.depth_core.specs.Flattened.{at_level, IsTriedLow}
use Rattle.depth_core.proofs.LevelLogs.{level_subproblem, level_all}
use Rattle.depth_core.proofs.levels.search_level.Goals as goal

pub loop-subproblem-preserved : goal.loop-subproblem-preserved
loop-subproblem-preserved g c =
    let h = c.args.header.now in
    let subproblem = c.in-Some.subproblem in
    let tried = subst (λ (outcome : SubproblemOutcome). IsTriedLow h c.args.size subproblem outcome) c.in-Logged.is c.in_ok-chain.ensures in
    let more = logged_more h c.args.size c.loop-subproblem.yielded c.loop-subproblem.logs.items subproblem c.in-Logged.log c.loop-subproblem.invariant tried.0 tried.1 tried.2 in
    rw c.in_ok-push-in-Logged.ensures.items more

pub try_fence-requires-clause-subproblem : goal.try_fence-requires-clause-subproblem
try_fence-requires-clause-subproblem g c =
    let h = c.args.header.now in
    let own : c.in_ok-own.own.items ≡ filter (at_level c.args.levels) (subproblems_for h.spec c.args.size) =
    c.in_ok-own.ensures ∙ ap (λ (ps : List Subproblem). filter (at_level c.args.levels) ps) c.requires.subproblems in
    let gives = c.into_iter-subproblem-iterator.ensures.into_iter_gives in
    let turn = YieldsList-turn (YieldsList-from_vec c.in_ok-own.own.items gives.0 (gives.1
    ∙ c.in_ok-own.own.ok.0)) c.loop-subproblem.yielded
    c.loop-subproblem.subproblem-iterator c.loop-subproblem.yielded_by c.next.result c.next.new.self
    c.in-Some.subproblem c.in-Some.is c.next.ensures.steps in
    let inside : Contains c.in_ok-own.own.items c.in-Some.subproblem = (length c.loop-subproblem.yielded, turn.0, sym turn.1) in
    (level_subproblem h.spec c.args.size c.args.levels c.in_ok-own.own.items c.in-Some.subproblem own inside).0

pub returns-in-Found : goal.returns-in-Found
returns-in-Found g c =
    let h = c.args.header.now in
    let own : c.in_ok-own.own.items ≡ filter (at_level c.args.levels) (subproblems_for h.spec c.args.size) =
    c.in_ok-own.ensures ∙ ap (λ (ps : List Subproblem). filter (at_level c.args.levels) ps) c.requires.subproblems in
    let gives = c.into_iter-subproblem-iterator.ensures.into_iter_gives in
    let turn = YieldsList-turn (YieldsList-from_vec c.in_ok-own.own.items gives.0 (gives.1
    ∙ c.in_ok-own.own.ok.0)) c.loop-subproblem.yielded
    c.loop-subproblem.subproblem-iterator c.loop-subproblem.yielded_by c.next.result c.next.new.self
    c.in-Some.subproblem c.in-Some.is c.next.ensures.steps in
    let inside : Contains c.in_ok-own.own.items c.in-Some.subproblem = (length c.loop-subproblem.yielded, turn.0, sym turn.1) in
    let picked = level_subproblem h.spec c.args.size c.args.levels c.in_ok-own.own.items c.in-Some.subproblem own inside in
    let tried = subst (λ (outcome : SubproblemOutcome). IsTriedLow h c.args.size c.in-Some.subproblem outcome) c.in-Found.is c.in_ok-chain.ensures in
    (tried.0, subst (λ (d : ℕ). HasLevels d c.in-Found.chain) picked.1 tried.1)

pub returns : goal.returns
returns g c =
    let h = c.args.header.now in
    let own : c.in_ok-own.own.items ≡ filter (at_level c.args.levels) (subproblems_for h.spec c.args.size) =
    c.in_ok-own.ensures ∙ ap (λ (ps : List Subproblem). filter (at_level c.args.levels) ps) c.requires.subproblems in
    let gives = c.into_iter-subproblem-iterator.ensures.into_iter_gives in
    let end = YieldsList-end (YieldsList-from_vec c.in_ok-own.own.items gives.0 (gives.1
    ∙ c.in_ok-own.own.ok.0)) c.loop-subproblem.yielded
    c.loop-subproblem.subproblem-iterator c.loop-subproblem.yielded_by c.next.result c.next.new.self c.in-None.is
    c.next.ensures.steps in
    let all : c.loop-subproblem.yielded ≡ c.in_ok-own.own.items = sym (map-id c.loop-subproblem.yielded) ∙ end.0 in
    level_all h c.args.size c.args.levels c.in_ok-own.own.items c.loop-subproblem.logs.items own
    (subst (λ (ps : List Subproblem). AreLogged h c.args.size ps c.loop-subproblem.logs.items) all c.loop-subproblem.invariant)
