-- The invariants of a search, and what its steps change.
use Rattle.std.specs.Prelude.{◌≡◌, ◌⊎◌, ℕ, ◌+◌, ◌*◌, ◌<◌, ◌≤◌, ℤ, List, length, slice_index_or, All, Contains, Option, Some}
use Rattle.sat_theory.specs.Formula.{Formula}
use Rattle.sat_theory.specs.Line as theory
use Rattle.sat_theory.specs.State.{State, by_id, start}
use Rattle.sat_theory.specs.Log.{after, EachLine, IsStep, AddsUnsubsumed, added_ids, additions, live_additions, SparesFormula}
use Rattle.sat_theory.specs.FewAdditions.{AddsSome}
use Rattle.cdcl_theory.specs.Trails.{IsLayered, falsified_at}
use Rattle.clause_db.specs.Sorted.{sorted}
use Rattle.clause_db.specs.Stored.{Stored, live_in, IsStored}
use Rattle.conflict_core.specs.Learning.{IsReady}
use Rattle.cdcl_core.specs.declared.search.Search.{Search}
use Rattle.cdcl_core.specs.Deciding.{IsDecisionHeap}
use Rattle.cdcl_core.specs.WatchInvariant.{KeepsWatchInvariant}
use Rattle.cdcl_core.specs.Visiting.{IsRest}

-- the parts of the search agree with one another
pub record IsSearching (s : Search) : Type 0 where
  pub stored : IsStored s.clauses
  pub vars : s.clauses.vars ≡ s.trail.vars
  pub layered : IsLayered (live_in s.clauses) s.trail s.starts.items
  pub ready : IsReady s.trail.vars s.analysis
  pub deciding : IsDecisionHeap s.trail s.decision_heap

-- The entry is a clause, and contracts of the clause database see it as `shown`: its literals in the order of
-- their codes.
pub record IsShownAs (entry : Option (List ℤ)) (shown : List ℤ) : Type 0 where
  pub given : List ℤ
  pub is : entry ≡ Some given
  pub order : shown ≡ sorted given

-- The state of the log has exactly the live clauses, up to the order of their literals, and those of the
-- formula; the last id is its greatest.
pub record IsStateOf (f : Formula) (clauses : Stored) (state : State) : Type 0 where
  pub vars : state.vars ≡ f.vars
  pub greatest : state.greatest ≡ length clauses.clauses
  pub inside : (id : ℕ) (clause : List ℤ) → live_in clauses id ≡ Some clause → IsShownAs (state.live id) clause
  pub formula : (id : ℕ) (clause : List ℤ) → by_id f.clauses id ≡ Some clause → state.live id ≡ Some clause
  pub only : (id : ℕ) (clause : List ℤ) → state.live id ≡ Some clause → (by_id f.clauses id ≡ Some clause) ⊎ (live_in clauses id ≡ Some (sorted clause))

-- The lines are a log over the formula whose state is that of the live clauses: each line holds, and
-- deletions name additions alone, so a clause of the formula that the search has deleted is still live in the
-- log. Ids are consecutive, so those above the formula's are the additions'. `deleted` of the additions are
-- deleted, at most half of all, or of `least`, the number of additions that an undecided log has at least.
pub record IsLog (f : Formula) (clauses : Stored) (lines : List theory.Line) (deleted least : ℕ) : Type 0 where
  pub vars : clauses.vars ≡ f.vars
  pub holds : EachLine IsStep (start f) lines
  pub state : IsStateOf f clauses (after (start f) lines)
  pub count : length clauses.clauses ≡ length f.clauses + additions lines
  pub spares : All (SparesFormula f) lines
  pub ids : (k d : ℕ) → k < additions lines → slice_index_or (added_ids lines) k d ≡ length f.clauses + 1 + k
  pub gone : live_additions (after (start f) lines) lines + deleted ≡ additions lines
  pub half : (2 * deleted ≤ least) ⊎ (2 * deleted ≤ additions lines)

-- each addition is a nonempty clause that no live clause subsumed when it was added
pub record AreUnsubsumed (f : Formula) (lines : List theory.Line) : Type 0 where
  pub fresh : EachLine AddsUnsubsumed (start f) lines
  pub some : All AddsSome lines

-- The clause with this id is irredundant, and so never deleted by a reduction: it is one of the formula, or
-- one of the strengthened clauses.
abbrev pub IsIrredundant : Search → ℕ → Type 0
IsIrredundant s id = (id ≤ s.given) ⊎ ((s.shorter.low < id) × (id ≤ s.shorter.high))

-- a live irredundant clause subsumes the clause
pub record IsCovered (s : Search) (clause : List ℤ) : Type 0 where
  pub by : ℕ
  pub cover : List ℤ
  pub is_live : live_in s.clauses by ≡ Some cover
  pub inside : All (Contains clause) cover
  pub stays : IsIrredundant s by

-- The search has each clause of the formula, or an irredundant one that subsumes it.
abbrev pub AreCovered : Formula → Search → Type 0
AreCovered f s = (id : ℕ) (clause : List ℤ) → by_id f.clauses id ≡ Some clause → IsCovered s clause

-- IsLog of the search's lines and clauses
pub record IsAccounted (f : Formula) (s : Search) : Type 0 where
  pub log : IsLog f s.clauses s.lines s.deleted s.least
  pub given : s.given ≡ length f.clauses

-- moreover the log hasn't added the empty clause, and the live clauses imply the formula's
pub record IsLogged (f : Formula) (s : Search) : Type 0 where
  pub log : IsLog f s.clauses s.lines s.deleted s.least
  pub new : AreUnsubsumed f s.lines
  pub given : s.given ≡ length f.clauses
  pub covered : AreCovered f s

-- The watch invariant holds for the trail literals before `head`.
pub record HasWatchInvariant (s : Search) : Type 0 where
  pub guarded : KeepsWatchInvariant s.clauses (falsified_at s.trail) s.starts.items s.head
  pub low : s.head ≤ length s.trail.lits
  pub begun : All (λ x. x ≤ s.head) s.starts.items

-- The trail grew, and nothing else changed.
pub record HasBegun (old new : Search) : Type 0 where
  pub vars : new.trail.vars ≡ old.trail.vars
  pub given : new.given ≡ old.given
  pub least : new.least ≡ old.least
  pub shorter : new.shorter ≡ old.shorter
  pub lines : new.lines ≡ old.lines
  pub deleted : new.deleted ≡ old.deleted
  pub clauses : new.clauses ≡ old.clauses
  pub starts : new.starts ≡ old.starts

-- The trail grew, and clauses may watch other literals.
pub record HasPropagated (old new : Search) : Type 0 where
  pub rest : IsRest old.clauses new.clauses old.trail new.trail
  pub given : new.given ≡ old.given
  pub least : new.least ≡ old.least
  pub shorter : new.shorter ≡ old.shorter
  pub lines : new.lines ≡ old.lines
  pub deleted : new.deleted ≡ old.deleted
  pub starts : new.starts ≡ old.starts

-- One clause was learnt, and at least one level was dropped.
pub record HasBackjumped (old new : Search) : Type 0 where
  pub vars : new.trail.vars ≡ old.trail.vars
  pub given : new.given ≡ old.given
  pub least : new.least ≡ old.least
  pub shorter : new.shorter ≡ old.shorter
  pub clauses : length new.clauses.clauses ≡ length old.clauses.clauses + 1
  pub starts : length new.starts.items < length old.starts.items

-- Levels may have been dropped; the clauses and the log are the same.
pub record HasRestarted (old new : Search) : Type 0 where
  pub vars : new.trail.vars ≡ old.trail.vars
  pub given : new.given ≡ old.given
  pub least : new.least ≡ old.least
  pub shorter : new.shorter ≡ old.shorter
  pub lines : new.lines ≡ old.lines
  pub deleted : new.deleted ≡ old.deleted
  pub clauses : new.clauses ≡ old.clauses
  pub starts : length new.starts.items ≤ length old.starts.items

-- For each learnt clause at least one level was dropped; if none was learnt the trail is no shorter.
pub record HasResolvedConflicts (old new : Search) : Type 0 where
  pub vars : new.trail.vars ≡ old.trail.vars
  pub given : new.given ≡ old.given
  pub least : new.least ≡ old.least
  pub shorter : new.shorter ≡ old.shorter
  pub more : length old.clauses.clauses ≤ length new.clauses.clauses
  pub starts : length new.clauses.clauses + length new.starts.items ≤ length old.clauses.clauses + length old.starts.items
  pub longer : length new.clauses.clauses ≡ length old.clauses.clauses → length old.trail.lits ≤ length new.trail.lits

-- A level was begun.
pub record HasDecided (old new : Search) : Type 0 where
  pub vars : new.trail.vars ≡ old.trail.vars
  pub given : new.given ≡ old.given
  pub least : new.least ≡ old.least
  pub shorter : new.shorter ≡ old.shorter
  pub lines : new.lines ≡ old.lines
  pub deleted : new.deleted ≡ old.deleted
  pub clauses : new.clauses ≡ old.clauses
  pub starts : length new.starts.items ≡ length old.starts.items + 1
  pub lits : length new.trail.lits ≡ length old.trail.lits + 1

-- The search went on: it has at most as many clauses as the budget allows, and one for each level that it may
-- have dropped since.
pub record HasRun (budget : ℕ) (old new : Search) : Type 0 where
  pub vars : new.trail.vars ≡ old.trail.vars
  pub given : new.given ≡ old.given
  pub least : new.least ≡ old.least
  pub shorter : new.shorter ≡ old.shorter
  pub few : length new.clauses.clauses ≤ new.given + budget + new.trail.vars + 1
