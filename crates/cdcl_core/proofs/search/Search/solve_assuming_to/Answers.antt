use Rattle.std.proofs.Common.{◌≡◌, ◌∙◌, ◌+◌, ◌<◌, ◌≤◌, length, ap, subst, sym, arith}
use Rattle.clause_db.specs.Stored.{live_in}
use Rattle.cdcl_core.specs.declared.search.Search.{Search}
use Rattle.cdcl_core.specs.Searching.{IsLogged, HasDecided, HasResolvedConflicts}
use Rattle.cdcl_core.specs.Solving.{IsUnderWay}
use Rattle.cdcl_core.proofs.Counting.{trail_short}
use Rattle.cdcl_core.proofs.Settling.{measure_falls, logged_decided, starts_short, settled_few}
use Rattle.cdcl_core.proofs.UnderWay.{under_way_settled, logged_scoped}
use Rattle.cdcl_core.proofs.search.Search.solve_assuming_to.Goals as goal

pub loop-conflict-smaller : goal.loop-conflict-smaller
loop-conflict-smaller c =
    let a : Search = c.loop-conflict.self in
    let b : Search = c.resolve_conflicts.new.self in
    let d : Search = c.decide_assuming.new.self in
    let settled : HasResolvedConflicts a b = c.in_ok-conflict.ensures.settled in
    let decided : HasDecided b d = rw c.in_default-2.is at c.in_ok-outcome.ensures.decided in
    let under : length b.clauses.clauses < c.args.end = rw c.in_default-2.is at c.in_ok-outcome.ensures.under in
    let vars : b.trail.vars ≡ c.args.self.now.trail.vars = settled.vars ∙ c.loop-conflict.invariant.vars in
    let short : length b.trail.lits ≤ b.trail.vars + 1 = trail_short b.trail c.in_ok-conflict.ensures.searching.layered.whole in
    measure_falls c.args.end c.args.self.now.trail.vars a b d settled under decided (omega (arith, vars, short))

pub loop-conflict-preserved : goal.loop-conflict-preserved
loop-conflict-preserved c =
    let a : Search = c.loop-conflict.self in
    let b : Search = c.resolve_conflicts.new.self in
    let d : Search = c.decide_assuming.new.self in
    let settled : HasResolvedConflicts a b = c.in_ok-conflict.ensures.settled in
    let decided : HasDecided b d = rw c.in_default-2.is at c.in_ok-outcome.ensures.decided in
    let under : length b.clauses.clauses < c.args.end = rw c.in_default-2.is at c.in_ok-outcome.ensures.under in
    let way : IsUnderWay b = under_way_settled a b c.loop-conflict.invariant.way c.in_ok-conflict.ensures.searching c.in_ok-conflict.ensures.visited settled in
    let short : length b.starts.items ≤ b.trail.vars + 1 = starts_short (live_in b.clauses) b.trail b.starts.items way.searching.layered in
    let few : b.trail.vars < 1000000000 = way.searching.layered.whole.few in
    let same : b.trail.vars ≡ c.args.self.now.trail.vars = settled.vars ∙ c.loop-conflict.invariant.vars in
    let clauses : length d.clauses.clauses ≡ length b.clauses.clauses = ap (λ s. length s.clauses) decided.clauses in
    let starts : length d.starts.items ≡ length b.starts.items + 1 = decided.starts in
    record {
      way = record {
        searching = c.in_ok-outcome.ensures.searching;
        visited = c.in_ok-outcome.ensures.visited;
        given = omega (arith, way.given, clauses, decided.given);
        few = omega (arith, clauses, starts, short, few, under, c.requires.end);
        least = omega (arith, way.least, decided.least);
      };
      logged = λ f log. logged_decided f b d (c.in_ok-conflict.ensures.logged f (c.loop-conflict.invariant.logged f log)) decided;
      least = decided.least ∙ settled.least ∙ c.loop-conflict.invariant.least;
      vars = decided.vars ∙ settled.vars ∙ c.loop-conflict.invariant.vars;
      few = omega (arith, clauses, starts, short, under, same);
      given = decided.given ∙ settled.given ∙ c.loop-conflict.invariant.given;
    }

pub decide_assuming-requires-clause-settled : goal.decide_assuming-requires-clause-settled
decide_assuming-requires-clause-settled c = rw c.in_default.is at c.in_ok-conflict.ensures.none

pub decide_assuming-requires-clause-all : goal.decide_assuming-requires-clause-all
decide_assuming-requires-clause-all c = rw c.in_default.is at c.in_ok-conflict.ensures.all

pub resolve_conflicts-requires-clause-few : goal.resolve_conflicts-requires-clause-few
resolve_conflicts-requires-clause-few c = omega (arith, c.loop-conflict.invariant.way.few)

pub refute-requires-clause-few : goal.refute-requires-clause-few
refute-requires-clause-few c =
    let a : Search = c.loop-conflict.self in
    settled_few a c.resolve_conflicts.new.self c.in_ok-conflict.ensures.settled (omega (arith, c.loop-conflict.invariant.way.few))

pub returns-in-Some-2-clause-logged : goal.returns-in-Some-2-clause-logged
returns-in-Some-2-clause-logged c = λ f log.
    let same : c.decide_assuming.new.self ≡ record c.resolve_conflicts.new.self { scope = c.decide_assuming.new.self.scope } = rw c.in-Some-2.is at c.in_ok-outcome.ensures.same in
    subst (λ (x : Search). IsLogged f x) (sym same)
    (logged_scoped f c.resolve_conflicts.new.self c.decide_assuming.new.self.scope
    (c.in_ok-conflict.ensures.logged f (c.loop-conflict.invariant.logged f log)))

pub returns-in-Some-clause-few : goal.returns-in-Some-clause-few
returns-in-Some-clause-few c = omega (arith, c.loop-conflict.invariant.few, c.in_ok-conflict.ensures.settled.starts, c.in_ok-refute.ensures.one)

pub returns-in-Some-clause-given : goal.returns-in-Some-clause-given
returns-in-Some-clause-given c = c.in_ok-refute.ensures.given ∙ c.in_ok-conflict.ensures.settled.given ∙ c.loop-conflict.invariant.given

pub returns-in-Some-2-clause-few : goal.returns-in-Some-2-clause-few
returns-in-Some-2-clause-few c =
    let b : Search = c.resolve_conflicts.new.self in
    let d : Search = c.decide_assuming.new.self in
    let same : d ≡ record b { scope = d.scope } = rw c.in-Some-2.is at c.in_ok-outcome.ensures.same in
    let clauses : length d.clauses.clauses ≡ length b.clauses.clauses = ap (λ (x : Search). length x.clauses.clauses) same in
    omega (arith, c.loop-conflict.invariant.few, c.in_ok-conflict.ensures.settled.starts, clauses)

pub returns-in-Some-2-clause-given : goal.returns-in-Some-2-clause-given
returns-in-Some-2-clause-given c =
    let b : Search = c.resolve_conflicts.new.self in
    let d : Search = c.decide_assuming.new.self in
    let same : d ≡ record b { scope = d.scope } = rw c.in-Some-2.is at c.in_ok-outcome.ensures.same in
    ap (λ (x : Search). x.given) same ∙ c.in_ok-conflict.ensures.settled.given ∙ c.loop-conflict.invariant.given
