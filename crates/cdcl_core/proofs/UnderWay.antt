-- The decision variables are irrelevant, and a call under assumptions keeps the invariant.
use Rattle.std.proofs.Common.{◌≡◌, ◌≤◌, length, Option, ap, arith, refl}
use Rattle.sat_theory.specs.Formula.{Formula}
use Rattle.clause_db.specs.Stored.{Stored}
use Rattle.cdcl_core.specs.declared.search.Search.{Search}
use Rattle.cdcl_core.specs.declared.scope.Scope.{Scope}
use Rattle.cdcl_core.specs.Searching.{IsSearching, HasWatchInvariant, IsLogged, HasRestarted, HasResolvedConflicts}
use Rattle.cdcl_core.specs.Solving.{IsUnderWay}
use Rattle.cdcl_core.proofs.Logging.{covered_same}

pub searching_scoped : (s : Search) (x : Option Scope) → IsSearching s → IsSearching (record s { scope = x })
searching_scoped s x searching = record {
  stored = searching.stored;
  vars = searching.vars;
  layered = searching.layered;
  ready = searching.ready;
  deciding = searching.deciding;
}

pub visited_scoped : (s : Search) (x : Option Scope) → HasWatchInvariant s → HasWatchInvariant (record s { scope = x })
visited_scoped s x visited = record {
  guarded = visited.guarded;
  low = visited.low;
  begun = visited.begun;
}

pub restarted_scoped : (s t : Search) (x : Option Scope) → HasRestarted s t → HasRestarted s (record t { scope = x })
restarted_scoped s t x restarted = record {
  vars = restarted.vars;
  given = restarted.given;
  least = restarted.least;
  lines = restarted.lines;
  deleted = restarted.deleted;
  clauses = restarted.clauses;
  starts = restarted.starts;
  shorter = restarted.shorter;
}

pub logged_scoped : (f : Formula) (s : Search) (x : Option Scope) → IsLogged f s → IsLogged f (record s { scope = x })
logged_scoped f s x logged = record {
  log = logged.log;
  new = logged.new;
  given = logged.given;
  covered = covered_same f s (record s { scope = x }) logged.covered refl refl refl;
}

-- A search that backtracked to level 0 keeps it,
pub under_way_restarted : (a b : Search) → IsUnderWay a → IsSearching b → HasWatchInvariant b → HasRestarted a b → IsUnderWay b
under_way_restarted a b way searching visited restarted =
    let clauses : length b.clauses.clauses ≡ length a.clauses.clauses = ap (λ (x : Stored). length x.clauses) restarted.clauses in
    let starts : length b.starts.items ≤ length a.starts.items = restarted.starts in
    record {
      searching = searching;
      visited = visited;
      given = omega (arith, way.given, clauses, restarted.given);
      few = omega (arith, way.few, clauses, starts);
      least = omega (arith, way.least, restarted.least);
    }

-- and so does one that resolved its conflicts.
pub under_way_settled : (a b : Search) → IsUnderWay a → IsSearching b → HasWatchInvariant b → HasResolvedConflicts a b → IsUnderWay b
under_way_settled a b way searching visited settled = record {
  searching = searching;
  visited = visited;
  given = omega (arith, way.given, settled.more, settled.given);
  few = omega (arith, way.few, settled.starts);
  least = omega (arith, way.least, settled.least);
}
