use Rattle.std.proofs.Common.{◌<◌, ◌∙◌, ℕ, subst, sym, arith}
use Rattle.cdcl_theory.specs.Trails.{TrailState}
use Rattle.clause_db.specs.Stored.{live_in}
use Rattle.conflict_core.specs.Learning.{IsReady}
use Rattle.cdcl_core.proofs.Restarting.{layered_bottom, guarded_bottom, first_inside}
use Rattle.cdcl_core.proofs.search.Search.backtrack_to_root.Goals as goal

pub backtrack-requires-clause-low : goal.backtrack-requires-clause-low
backtrack-requires-clause-low c =
    let s = c.args.self.now in
    let inside = first_inside (live_in s.clauses) s.trail s.starts.items c.args.first c.requires.searching.layered c.requires.level in
    omega (arith, inside)

pub returns-clause-searching : goal.returns-clause-searching
returns-clause-searching c =
    let s = c.args.self.now in
    let back : TrailState = c.backtrack.new.trail in
    record {
      stored = c.requires.searching.stored;
      vars = c.requires.searching.vars ∙ sym c.backtrack.ensures.back.vars;
      layered = layered_bottom (live_in s.clauses) s.trail back s.starts.items c.clear.new.self.items c.args.first
          c.requires.searching.layered c.requires.level c.clear.ensures.items c.backtrack.ensures.whole
          c.backtrack.ensures.back;
      ready = subst (λ (n : ℕ). IsReady n s.analysis) (sym c.backtrack.ensures.back.vars) c.requires.searching.ready;
      deciding = c.backtrack.ensures.deciding;
    }

pub returns-clause-visited : goal.returns-clause-visited
returns-clause-visited c =
    let s = c.args.self.now in
    record {
      guarded = guarded_bottom s.clauses s.trail c.backtrack.new.trail s.starts.items c.clear.new.self.items s.head
          c.args.first c.requires.level c.requires.visited.begun c.clear.ensures.items c.backtrack.ensures.back
          c.requires.visited.guarded;
      low = omega (arith, c.backtrack.ensures.back.short);
      begun = rw c.clear.ensures.items (λ k d (low : k < 0). absurd (omega (arith, low)));
    }
