use Rattle.std.proofs.Common.{◌≡◌, ◌∙◌, ◌++◌, ◌∷◌, [], ◌≤◌, ◌+◌, ℕ, length, sym, ap, arith}
use Rattle.std.proofs.lemmas.List.{length_push}
use Rattle.std.proofs.lemmas.List.Elements.{All-push}
use Rattle.cdcl_theory.specs.Trails.{TrailState, pushed}
use Rattle.clause_db.specs.Stored.{live_in}
use Rattle.trail_core.specs.Values.{IsOver, IsFree}
use Rattle.cdcl_core.proofs.Decisions.{choosing_pushed}
use Rattle.cdcl_core.proofs.Backjumps.{guarded_started}
use Rattle.cdcl_core.proofs.Layers.{layered_decided}
use Rattle.cdcl_core.proofs.search.Search.decide_assuming.Goals as goal

pub returns-clause-searching : goal.returns-clause-searching
returns-clause-searching c =
    let s = c.args.self.now in
    let old : TrailState = s.trail in
    let over : IsOver old.vars c.in-Some.lit = rw c.in-Some.is at c.in_ok-lit.ensures.over in
    let free : IsFree old c.in-Some.lit = rw c.in-Some.is at c.in_ok-lit.ensures.free in
    let is : c.push-2.new.self ≡ pushed old c.in-Some.lit 0 = c.in_ok-push-2.ensures.ok in
    let starts : c.push.new.self.items ≡ s.starts.items ++ length old.lits ∷ [] = c.in_ok-push.ensures.items ∙ ap (λ (n : ℕ). s.starts.items ++ n ∷ []) c.len.ensures.value in
    record {
      stored = c.requires.searching.stored;
      vars = c.requires.searching.vars ∙ sym (ap (λ (t : TrailState). t.vars) is);
      layered = rw is (layered_decided (live_in s.clauses) old s.starts.items c.push.new.self.items c.in-Some.lit c.requires.searching.layered c.requires.settled over free starts);
      ready = rw is c.requires.searching.ready;
      deciding = rw is (choosing_pushed old c.in-Some.lit 0 s.decision_heap c.requires.searching.layered.whole over.1 free c.requires.searching.deciding);
    }

pub returns-clause-visited : goal.returns-clause-visited
returns-clause-visited c =
    let s = c.args.self.now in
    let old : TrailState = s.trail in
    let over : IsOver old.vars c.in-Some.lit = rw c.in-Some.is at c.in_ok-lit.ensures.over in
    let free : IsFree old c.in-Some.lit = rw c.in-Some.is at c.in_ok-lit.ensures.free in
    let is : c.push-2.new.self ≡ pushed old c.in-Some.lit 0 = c.in_ok-push-2.ensures.ok in
    let starts : c.push.new.self.items ≡ s.starts.items ++ length old.lits ∷ [] = c.in_ok-push.ensures.items ∙ ap (λ (n : ℕ). s.starts.items ++ n ∷ []) c.len.ensures.value in
    let long : length c.push-2.new.self.lits ≡ length old.lits + 1 = ap (λ (t : TrailState). length t.lits) is ∙ length_push old.lits c.in-Some.lit in
    record {
      guarded = rw is (guarded_started s.clauses old s.starts.items c.push.new.self.items s.head c.in-Some.lit 0
          c.requires.searching.layered.whole over free c.requires.all c.requires.visited.begun starts
          c.requires.visited.guarded);
      low = omega (arith, long, c.requires.all);
      begun = rw starts (All-push (λ x. x ≤ s.head) s.starts.items (length old.lits) c.requires.visited.begun (omega (arith, c.requires.all)));
    }
