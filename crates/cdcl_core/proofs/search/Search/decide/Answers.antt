use Rattle.std.proofs.Common.{◌≡◌, ◌∙◌, ◌++◌, ◌∷◌, [], ◌≤◌, ◌+◌, ℕ, length, sym, ap, arith}
use Rattle.std.proofs.lemmas.List.{length_push}
use Rattle.std.proofs.lemmas.List.Elements.{All-push}
use Rattle.sat_theory.specs.Log.{additions}
use Rattle.cdcl_core.proofs.Backjumps.{guarded_started}
use Rattle.cdcl_theory.specs.Trails.{TrailState, pushed}
use Rattle.clause_db.specs.Stored.{live_in}
use Rattle.cdcl_core.proofs.Layers.{layered_decided}
use Rattle.cdcl_core.proofs.Logging.{logged_chosen}
use Rattle.cdcl_core.proofs.search.Search.decide.Goals as goal

pub returns-clause-searching : goal.returns-clause-searching
returns-clause-searching c =
    let old : TrailState = c.args.self.now.trail in
    let is : c.push-2.new.self ≡ pushed old c.in-Some.lit 0 = c.in_ok-push-2.ensures.ok in
    let starts : c.push.new.self.items ≡ c.args.self.now.starts.items ++ length old.lits ∷ [] =
    c.in_ok-push.ensures.items ∙ ap (λ (n : ℕ). c.args.self.now.starts.items ++ n ∷ []) c.len.ensures.value in
    record {
      stored = c.requires.searching.stored;
      vars = c.requires.searching.vars ∙ sym (ap (λ (t : TrailState). t.vars) is);
      layered = rw is (layered_decided (live_in c.args.self.now.clauses) old c.args.self.now.starts.items
          c.push.new.self.items c.in-Some.lit c.requires.searching.layered c.requires.settled c.in-Some.ensures.over
          c.in-Some.ensures.free starts);
      ready = rw is c.requires.searching.ready;
      deciding = rw is (c.in-Some.ensures.deciding 0);
    }

pub returns-clause-visited : goal.returns-clause-visited
returns-clause-visited c =
    let s = c.args.self.now in
    let old : TrailState = s.trail in
    let is : c.push-2.new.self ≡ pushed old c.in-Some.lit 0 = c.in_ok-push-2.ensures.ok in
    let starts : c.push.new.self.items ≡ s.starts.items ++ length old.lits ∷ [] = c.in_ok-push.ensures.items ∙ ap (λ (n : ℕ). s.starts.items ++ n ∷ []) c.len.ensures.value in
    let long : length c.push-2.new.self.lits ≡ length old.lits + 1 = ap (λ (t : TrailState). length t.lits) is ∙ length_push old.lits c.in-Some.lit in
    record {
      guarded = rw is (guarded_started s.clauses old s.starts.items c.push.new.self.items s.head c.in-Some.lit 0
          c.requires.searching.layered.whole c.in-Some.ensures.over c.in-Some.ensures.free c.requires.all
          c.requires.visited.begun starts c.requires.visited.guarded);
      low = omega (arith, long, c.requires.all);
      begun = rw starts (All-push (λ x. x ≤ s.head) s.starts.items (length old.lits) c.requires.visited.begun (omega (arith, c.requires.all)));
    }

pub returns-in_default-clause-ended : goal.returns-in_default-clause-ended
returns-in_default-clause-ended c = λ f logged. record {
  vars = sym c.requires.searching.vars ∙ logged.log.vars;
  logged = logged_chosen f c.args.self.now c.pick_decision.new.self logged;
  values = c.in_default.ensures.none;
  settled = c.requires.settled;
}

pub returns-then-has_reached_budget-clause-ended : goal.returns-then-has_reached_budget-clause-ended
returns-then-has_reached_budget-clause-ended c = λ f logged.
    let enough : c.args.self.now.given + c.args.budget ≤ length c.args.self.now.clauses.clauses = c.has_reached_budget.ensures.0 c.if-has_reached_budget.true in
    let count : c.args.budget ≤ additions c.args.self.now.lines = omega (arith, enough, logged.given, logged.log.count) in
    record {
      logged = logged_chosen f c.args.self.now c.pick_decision.new.self logged;
      enough = count;
      least = omega (arith, count, c.requires.least);
    }
