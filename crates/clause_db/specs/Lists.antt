-- Watch lists as ids and as blocking literals: an entry has a blocking literal and the start of its clause's
-- literals, which determines the id.
use Rattle.std.specs.Prelude.{ℕ, ◌-◌, ◌<◌, ◌≤◌, ℤ, pos, List, [], map, length, slice_index_or, All}
use Rattle.clause_db.specs.declared.lists.Watch.{Watch}
use Rattle.clause_db.specs.ArenaRanges.{ArenaState, id_in, IsStart}

-- the entries of a literal's watch list
abbrev pub WatchEntries : Type 0
WatchEntries = List Watch

abbrev pub no_entries : WatchEntries
no_entries = []

-- the default entry
abbrev pub no_watch : Watch
no_watch = record { blocker = pos 1; start = 0 }

-- the entry with its blocking literal replaced
abbrev pub blocked_by : Watch → ℤ → Watch
blocked_by w l = record { blocker = l; start = w.start }

-- the ids alone, by the starts of the lists; the blocking literals alone
abbrev pub ids_of : List ℕ → WatchEntries → List ℕ
ids_of starts entries = map (λ (w : Watch). id_in starts w.start) entries

abbrev pub blockers_of : WatchEntries → List ℤ
blockers_of entries = map (λ (w : Watch). w.blocker) entries

-- the lists of ids of all literals
unfoldable pub lists_of : List ℕ → List WatchEntries → List (List ℕ)
lists_of starts all = map (λ (e : WatchEntries). ids_of starts e) all

-- the rows of blocking literals of all literals
unfoldable pub rows_of : List WatchEntries → List (List ℤ)
rows_of all = map (λ (e : WatchEntries). blockers_of e) all

-- The start of an entry is that of a list in the arena.
abbrev pub IsDirect : ArenaState → Watch → Type 0
IsDirect b w = IsStart b w.start

abbrev pub AreDirect : ArenaState → List WatchEntries → Type 0
AreDirect b all = All (All (IsDirect b)) all

-- An entry with the id of its clause instead of the start, and one with the start instead of the id.
abbrev pub named : List ℕ → Watch → Watch
named starts w = record { blocker = w.blocker; start = id_in starts w.start }

abbrev pub placed : List ℕ → Watch → Watch
placed starts w = record { blocker = w.blocker; start = slice_index_or starts (w.start - 1) 0 }

-- The entry has the id of a list instead of its start.
abbrev pub IsNamed : ArenaState → Watch → Type 0
IsNamed b w = (0 < w.start) × (w.start ≤ length b.lists)

abbrev pub AreNamed : ArenaState → List WatchEntries → Type 0
AreNamed b all = All (All (IsNamed b)) all
