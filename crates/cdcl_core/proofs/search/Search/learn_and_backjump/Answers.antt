use Rattle.std.proofs.Common.{◌≡◌, ◌∙◌, ◌++◌, ◌∷◌, [], ◌<◌, ◌≤◌, ◌+◌, ◌-◌, ℕ, ℤ, pos, List, length, take, drop, All, slice_index_or, sym, ap, subst, arith, refl}
use Rattle.std.proofs.lemmas.List.{get_or_read, length_push}
use Rattle.std.proofs.lemmas.List.Elements.{All-take, All-drop}
use Rattle.sat_theory.specs.Formula.{IsWithin}
use Rattle.sat_theory.specs.Line as theory
use Rattle.cdcl_theory.specs.PropagationLaws.{unit_is_unsubsumed}
use Rattle.cdcl_theory.specs.Trails.{TrailState, falsified_at, pushed, IsLayered}
use Rattle.cdcl_theory.specs.TrailLaws.{layered_explained}
use Rattle.clause_db.specs.Stored.{Stored, live_in, added}
use Rattle.cdcl_core.specs.WatchInvariant.{KeepsWatchInvariant}
use Rattle.cdcl_core.proofs.Backjumps.{guarded_backjumped}
use Rattle.trail_core.specs.Values.{IsOver, IsFree}
use Rattle.conflict_core.specs.Learning.{IsReady, asserting}
use Rattle.cdcl_core.proofs.Layers.{closed_last, reasons_last, dropped_low, backjumped_free, backjumped_layers, learnt_falsified, learnt_over}
use Rattle.cdcl_core.proofs.Logging.{log_added, new_added, covered_added}
use Rattle.cdcl_core.specs.Deciding.{IsDecisionHeap}
use Rattle.cdcl_core.proofs.Decisions.{choosing_pushed}
use Rattle.cdcl_core.proofs.search.Search.learn_and_backjump.Goals as goal

pub learn-requires-clause-closed : goal.learn-requires-clause-closed
learn-requires-clause-closed c = closed_last (live_in c.args.self.now.clauses) c.args.self.now.trail c.args.self.now.starts.items c.args.start c.requires.searching.layered c.requires.level

pub learn-requires-clause-reasons : goal.learn-requires-clause-reasons
learn-requires-clause-reasons c = reasons_last (live_in c.args.self.now.clauses) c.args.self.now.trail c.args.self.now.starts.items c.args.start c.requires.searching.layered c.requires.level

pub learn-requires-clause-explained : goal.learn-requires-clause-explained
learn-requires-clause-explained c = layered_explained (live_in c.args.self.now.clauses) c.args.self.now.trail c.args.self.now.starts.items c.requires.searching.layered

pub bump_reasons-requires-clause-explained : goal.bump_reasons-requires-clause-explained
bump_reasons-requires-clause-explained c = layered_explained (live_in c.args.self.now.clauses) c.args.self.now.trail c.args.self.now.starts.items c.requires.searching.layered

pub bump_reasons-requires-clause-falsified : goal.bump_reasons-requires-clause-falsified
bump_reasons-requires-clause-falsified c =
    let s = c.args.self.now in
    let l = c.in_ok-learnt.learnt in
    let falsified : All (λ m. 0 < falsified_at s.trail m) l.lits.items = learnt_falsified (live_in s.clauses) s.trail c.args.start l.back l.lits.items l.hints.items c.in_ok-learnt.ensures.learnt in
    subst (λ (xs : List ℤ). All (λ m. 0 < falsified_at s.trail m) (take (length xs - 1) (drop 1 xs)))
    (sym c.deref-2.ensures.value) (All-take (λ m. 0 < falsified_at s.trail m) (length l.lits.items - 1)
    (drop 1 l.lits.items) (All-drop (λ m. 0 < falsified_at s.trail m) 1 l.lits.items falsified))

pub push-requires-clause-free : goal.push-requires-clause-free
push-requires-clause-free c =
    let s = c.args.self.now in
    let l = c.in_ok-learnt.learnt in
    let u : c.index-lit.result.now ≡ asserting l.lits.items = get_or_read l.lits.items 0 c.index-lit.result.now c.in_ok-learnt.ensures.learnt.some c.index-lit.ensures (pos 0) in
    let low = dropped_low s.starts.items c.drop_levels-end.new.starts.items c.args.start l.back
    c.drop_levels-end.result c.requires.searching.layered.rising c.requires.level.last c.drop_levels-end.ensures in
    rw u (backjumped_free (live_in s.clauses) s.trail c.backtrack.new.trail c.args.start c.drop_levels-end.result
    l.back l.lits.items l.hints.items c.requires.searching.layered.whole c.backtrack.ensures.whole
    c.in_ok-learnt.ensures.learnt low c.backtrack.ensures.back)

pub returns-clause-searching : goal.returns-clause-searching
returns-clause-searching c =
    let s = c.args.self.now in
    let l = c.in_ok-learnt.learnt in
    let clauses_are : c.add.new.self ≡ added s.clauses l.lits.items = c.in_ok-id.ensures.ok ∙ ap (λ (xs : List ℤ). added s.clauses xs) c.deref-3.ensures.value in
    let u : c.index-lit.result.now ≡ asserting l.lits.items = get_or_read l.lits.items 0 c.index-lit.result.now c.in_ok-learnt.ensures.learnt.some c.index-lit.ensures (pos 0) in
    let trail_is : c.push.new.self ≡ pushed c.backtrack.new.trail c.index-lit.result.now c.in_ok-id.id = c.in_ok-push.ensures.ok in
    let vars : c.backtrack.new.trail.vars ≡ s.trail.vars = c.backtrack.ensures.back.vars in
    let vars_now : c.push.new.self.vars ≡ s.trail.vars = ap (λ (t : TrailState). t.vars) trail_is ∙ vars in
    let within : IsWithin s.clauses.vars l.lits.items = subst (λ (n : ℕ). IsWithin n l.lits.items) (sym c.requires.searching.vars) c.in_ok-learnt.ensures.learnt.variables in
    let back : TrailState = c.backtrack.new.trail in
    let low = dropped_low s.starts.items c.drop_levels-end.new.starts.items c.args.start l.back
    c.drop_levels-end.result c.requires.searching.layered.rising c.requires.level.last c.drop_levels-end.ensures in
    let free : IsFree back c.index-lit.result.now =
    rw u (backjumped_free (live_in s.clauses) s.trail back c.args.start c.drop_levels-end.result l.back l.lits.items
    l.hints.items c.requires.searching.layered.whole c.backtrack.ensures.whole c.in_ok-learnt.ensures.learnt low
    c.backtrack.ensures.back) in
    let over : IsOver back.vars c.index-lit.result.now =
    rw (u, c.backtrack.ensures.back.vars) (learnt_over (live_in s.clauses) s.trail c.args.start l.back l.lits.items
    l.hints.items c.in_ok-learnt.ensures.learnt) in
    record {
      stored = c.in_ok-id.ensures.whole;
      vars = ap (λ (x : Stored). x.vars) clauses_are ∙ c.requires.searching.vars ∙ sym vars_now;
      layered = subst (λ (x : Stored). IsLayered (live_in x) c.push.new.self c.drop_levels-end.new.starts.items) (sym clauses_are)
          (subst (λ (t : TrailState). IsLayered (live_in (added s.clauses l.lits.items)) t c.drop_levels-end.new.starts.items) (sym trail_is)
          (backjumped_layers s.clauses s.trail c.backtrack.new.trail s.starts.items c.drop_levels-end.new.starts.items
          c.args.start c.drop_levels-end.result l.back c.in_ok-id.id l.lits.items l.hints.items
          c.index-lit.result.now c.requires.searching.layered c.in_ok-learnt.ensures.learnt c.requires.level
          c.drop_levels-end.ensures c.backtrack.ensures.whole c.backtrack.ensures.back c.in_ok-id.ensures.id u));
      ready = subst (λ (n : ℕ). IsReady n c.learn.new.self) (sym vars_now) c.in_ok-learnt.ensures.ready;
      deciding = subst (λ (t : TrailState). IsDecisionHeap t c.backtrack.new.self) (sym trail_is)
          (choosing_pushed back c.index-lit.result.now c.in_ok-id.id c.backtrack.new.self c.backtrack.ensures.whole over.1 free c.backtrack.ensures.deciding);
    }

pub returns-clause-logged : goal.returns-clause-logged
returns-clause-logged c = λ f logged.
    let s = c.args.self.now in
    let l = c.in_ok-learnt.learnt in
    let clauses_are : c.add.new.self ≡ added s.clauses l.lits.items = c.in_ok-id.ensures.ok ∙ ap (λ (xs : List ℤ). added s.clauses xs) c.deref-3.ensures.value in
    let lines_are = c.in_ok-add.ensures.ok
    ∙ ap (λ (xs : List ℤ). s.lines ++ theory.Add c.in_ok-id.id xs c.deref-5.result.now ∷ []) c.deref-4.ensures.value
    ∙ ap (λ (xs : List ℕ). s.lines ++ theory.Add c.in_ok-id.id l.lits.items xs ∷ []) c.deref-5.ensures.value in
    let within : IsWithin s.clauses.vars l.lits.items = subst (λ (n : ℕ). IsWithin n l.lits.items) (sym c.requires.searching.vars) c.in_ok-learnt.ensures.learnt.variables in
    let few : s.trail.vars < 1000000000 = c.requires.searching.layered.whole.few in
    let small : s.clauses.vars < 1000000000 = omega (arith, few, c.requires.searching.vars) in
    let closed = closed_last (live_in s.clauses) s.trail s.starts.items c.args.start c.requires.searching.layered c.requires.level in
    record {
      log = rw (clauses_are, lines_are)
          (log_added f s.clauses _ c.in_ok-id.id l.lits.items l.hints.items s.deleted s.least logged.log
          c.requires.searching.stored c.in_ok-learnt.ensures.learnt.clause within small c.in_ok-id.ensures.id
          c.in_ok-learnt.ensures.learnt.hold);
      new = rw lines_are
          (new_added f s c.in_ok-id.id l.lits.items l.hints.items logged
          (unit_is_unsubsumed (live_in s.clauses) (falsified_at s.trail) c.args.start l.lits.items
          (asserting l.lits.items) closed c.in_ok-learnt.ensures.learnt.unit) c.in_ok-learnt.ensures.learnt.some);
      given = logged.given;
      covered = covered_added f s _ l.lits.items logged.covered clauses_are refl refl;
    }

pub returns-clause-visited : goal.returns-clause-visited
returns-clause-visited c =
    let s = c.args.self.now in
    let l = c.in_ok-learnt.learnt in
    let fewer = c.drop_levels-end.new.starts.items in
    let end : ℕ = c.drop_levels-end.result in
    let back : TrailState = c.backtrack.new.trail in
    let u : c.index-lit.result.now ≡ asserting l.lits.items = get_or_read l.lits.items 0 c.index-lit.result.now c.in_ok-learnt.ensures.learnt.some c.index-lit.ensures (pos 0) in
    let clauses_are : c.add.new.self ≡ added s.clauses l.lits.items = c.in_ok-id.ensures.ok ∙ ap (λ (xs : List ℤ). added s.clauses xs) c.deref-3.ensures.value in
    let trail_is : c.push.new.self ≡ pushed back c.index-lit.result.now c.in_ok-id.id = c.in_ok-push.ensures.ok in
    let low = dropped_low s.starts.items fewer c.args.start l.back end c.requires.searching.layered.rising c.requires.level.last c.drop_levels-end.ensures in
    let free : IsFree back c.index-lit.result.now =
    rw u (backjumped_free (live_in s.clauses) s.trail back c.args.start end l.back l.lits.items l.hints.items
    c.requires.searching.layered.whole c.backtrack.ensures.whole c.in_ok-learnt.ensures.learnt low
    c.backtrack.ensures.back) in
    let over_old : IsOver s.trail.vars (asserting l.lits.items) = learnt_over (live_in s.clauses) s.trail c.args.start l.back l.lits.items l.hints.items c.in_ok-learnt.ensures.learnt in
    let over : IsOver back.vars c.index-lit.result.now = rw (u, c.backtrack.ensures.back.vars) over_old in
    let guarded : KeepsWatchInvariant (added s.clauses l.lits.items)
    (falsified_at (pushed back c.index-lit.result.now c.in_ok-id.id)) fewer end =
    guarded_backjumped s.clauses s.trail back s.starts.items fewer c.args.start end l.back c.in_ok-id.id s.head
    l.lits.items l.hints.items c.index-lit.result.now c.requires.searching.stored c.requires.visited.guarded
    c.requires.visited.begun c.in_ok-learnt.ensures.learnt c.drop_levels-end.ensures c.backtrack.ensures.whole
    c.backtrack.ensures.back over free u in
    let long : length c.push.new.self.lits ≡ length back.lits + 1 = ap (λ (t : TrailState). length t.lits) trail_is ∙ length_push back.lits c.index-lit.result.now in
    record {
      guarded = subst (λ (x : Stored). KeepsWatchInvariant x (falsified_at c.push.new.self) fewer end)
          (sym clauses_are) (subst (λ (t : TrailState). KeepsWatchInvariant (added s.clauses l.lits.items)
          (falsified_at t) fewer end) (sym trail_is) guarded);
      low = omega (arith, long, c.backtrack.ensures.back.short);
      begun = λ k d inside. (let below : slice_index_or fewer k d < l.back =
          c.drop_levels-end.ensures.low k d inside in let high : l.back ≤ end =
          c.drop_levels-end.ensures.high in omega (arith, below, high));
    }

pub backtrack-requires-clause-low : goal.backtrack-requires-clause-low
backtrack-requires-clause-low c =
    let s = c.args.self.now in
    let fewer = c.drop_levels-end.new.starts.items in
    let inside : slice_index_or s.starts.items (length fewer) 0 < length s.trail.lits = c.requires.searching.layered.inside (length fewer) 0 c.drop_levels-end.ensures.fewer in
    let at : slice_index_or s.starts.items (length fewer) 0 ≡ c.drop_levels-end.result = c.drop_levels-end.ensures.at 0 in
    omega (arith, inside, at)

pub bump-requires : goal.bump-requires
bump-requires c = rw c.requires.searching.deciding.vars (c.touched.ensures.within c.args.self.now.trail.vars c.in_ok-learnt.ensures.ready)

pub bump_reasons-requires-clause-deciding : goal.bump_reasons-requires-clause-deciding
bump_reasons-requires-clause-deciding c = c.bump.ensures c.args.self.now.trail c.requires.searching.deciding

pub backtrack-requires-clause-deciding : goal.backtrack-requires-clause-deciding
backtrack-requires-clause-deciding c = c.grow.ensures c.args.self.now.trail (c.bump_reasons.ensures c.args.self.now.trail (c.bump.ensures c.args.self.now.trail c.requires.searching.deciding))
