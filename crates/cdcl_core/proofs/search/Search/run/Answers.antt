use Rattle.std.proofs.Common.{◌≡◌, ◌∙◌, ◌+◌, ◌<◌, ◌≤◌, length, sym, ap, arith}
use Rattle.clause_db.specs.Stored.{live_in}
use Rattle.cdcl_core.specs.declared.search.Search.{Search}
use Rattle.cdcl_core.specs.Searching.{HasDecided, HasResolvedConflicts}
use Rattle.cdcl_core.proofs.Counting.{trail_short}
use Rattle.cdcl_core.proofs.Settling.{measure_falls, logged_decided, starts_short, settled_few, settled_reduced, all_settled_reduced}
use Rattle.cdcl_core.proofs.search.Search.run.Goals as goal

pub loop-conflict-smaller : goal.loop-conflict-smaller
loop-conflict-smaller c =
    let a : Search = c.loop-conflict.self in
    let s : Search = c.resolve_conflicts.new.self in
    let b : Search = c.reduce_and_bound.new.self in
    let settled : HasResolvedConflicts a b = settled_reduced a s b c.in_ok-conflict.ensures.settled c.in_ok-reduce_and_bound.ensures.reduced in
    let d : Search = c.decide.new.self in
    let decided : HasDecided b d = rw c.in_default-2.is at c.in_ok-ending.ensures.decided in
    let under : length b.clauses.clauses < b.given + c.args.budget = rw c.in_default-2.is at c.in_ok-ending.ensures.under in
    let given : b.given ≡ c.args.self.now.given = settled.given ∙ c.loop-conflict.invariant.given in
    let vars : b.trail.vars ≡ c.args.self.now.trail.vars = settled.vars ∙ c.loop-conflict.invariant.vars in
    let short : length b.trail.lits ≤ b.trail.vars + 1 = trail_short b.trail c.in_ok-reduce_and_bound.ensures.searching.layered.whole in
    measure_falls (c.args.self.now.given + c.args.budget) c.args.self.now.trail.vars a b c.decide.new.self settled (omega (arith, under, given)) decided (omega (arith, vars, short))

pub loop-conflict-preserved : goal.loop-conflict-preserved
loop-conflict-preserved c =
    let a : Search = c.loop-conflict.self in
    let s : Search = c.resolve_conflicts.new.self in
    let b : Search = c.reduce_and_bound.new.self in
    let settled : HasResolvedConflicts a b = settled_reduced a s b c.in_ok-conflict.ensures.settled c.in_ok-reduce_and_bound.ensures.reduced in
    let d : Search = c.decide.new.self in
    let decided : HasDecided b d = rw c.in_default-2.is at c.in_ok-ending.ensures.decided in
    let under : length b.clauses.clauses < b.given + c.args.budget = rw c.in_default-2.is at c.in_ok-ending.ensures.under in
    let given : b.given ≡ c.args.self.now.given = settled.given ∙ c.loop-conflict.invariant.given in
    let short : length b.starts.items ≤ b.trail.vars + 1 = starts_short (live_in b.clauses) b.trail b.starts.items c.in_ok-reduce_and_bound.ensures.searching.layered in
    let clauses : length d.clauses.clauses ≡ length b.clauses.clauses = ap (λ s. length s.clauses) decided.clauses in
    let starts : length d.starts.items ≡ length b.starts.items + 1 = decided.starts in
    let vars : d.trail.vars ≡ b.trail.vars = decided.vars in
    record {
      searching = rw c.in_default-2.is at c.in_ok-ending.ensures.searching;
      visited = rw c.in_default-2.is at c.in_ok-ending.ensures.visited;
      logged = λ f log. logged_decided f b d (c.in_ok-reduce_and_bound.ensures.logged f (c.in_ok-conflict.ensures.logged f (c.loop-conflict.invariant.logged f log))) decided;
      given = decided.given ∙ given;
      least = decided.least ∙ settled.least ∙ c.loop-conflict.invariant.least;
      shorter = decided.shorter ∙ settled.shorter ∙ c.loop-conflict.invariant.shorter;
      few = omega (arith, clauses, starts, vars, short, under, given);
      vars = vars ∙ settled.vars ∙ c.loop-conflict.invariant.vars;
    }

pub decide-requires-clause-settled : goal.decide-requires-clause-settled
decide-requires-clause-settled c = all_settled_reduced c.resolve_conflicts.new.self c.reduce_and_bound.new.self
    c.in_ok-reduce_and_bound.ensures.reduced (rw c.in_default.is at c.in_ok-conflict.ensures.none)

pub decide-requires-clause-all : goal.decide-requires-clause-all
decide-requires-clause-all c =
    let all : c.resolve_conflicts.new.self.head ≡ length c.resolve_conflicts.new.self.trail.lits = rw c.in_default.is at c.in_ok-conflict.ensures.all in
    c.in_ok-reduce_and_bound.ensures.reduced.head ∙ all ∙ sym (ap (λ t. length t.lits) c.in_ok-reduce_and_bound.ensures.reduced.trail)

pub refute-requires-clause-few : goal.refute-requires-clause-few
refute-requires-clause-few c =
    let a : Search = c.loop-conflict.self in
    let few : length a.clauses.clauses + length a.starts.items ≤ c.args.self.now.given + c.args.budget + a.trail.vars + 1 = c.loop-conflict.invariant.few in
    let vars : a.trail.vars < 1000000000 = c.loop-conflict.invariant.searching.layered.whole.few in
    settled_few a c.resolve_conflicts.new.self c.in_ok-conflict.ensures.settled (omega (arith, few, vars, c.requires.room))
