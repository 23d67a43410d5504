-- The entries of all lists have the starts of their clauses, and by these their ids.
use Rattle.std.proofs.Common.{◌≡◌, ◌↔◌, IsTrue, nat_eq, ℕ, ◌+◌, ◌-◌, ◌<◌, ◌≤◌, ℤ, List, [], ◌∷◌, ◌++◌, length, take, slice_index_or, slice_set, All, refl, sym, ap, ◌∙◌, subst, arith}
use Rattle.std.specs.List.{swap_remove, swap}
use Rattle.std.proofs.lemmas.List.{length-map, length-append, length-set, get_or-map}
use Rattle.std.proofs.lemmas.List.Elements.{All-get_or, All-head, All-tail, All-set, All-take, All-weaker}
use Rattle.std.proofs.lemmas.Bool.{eq-eqb, eqb-true}
use Rattle.std.proofs.lemmas.Grind.{common_steps}
use Rattle.cdcl_theory.specs.Codes.{code_of}
use Rattle.clause_db.specs.declared.lists.Watch.{Watch}
use Rattle.clause_db.specs.ArenaRanges.{ArenaState, id_in, IsStart, KeepsIds}
use Rattle.clause_db.specs.Lists.{WatchEntries, no_watch, blocked_by, ids_of, lists_of, rows_of, IsDirect, AreDirect}
use Rattle.clause_db.specs.Watching.{watch_list_in}
use Rattle.clause_db.specs.Arranging.{Arranged, block_at, exchanged_at}
use Rattle.clause_db.specs.Deleting.{arranged_without}
use Rattle.clause_db.proofs.WatchEntries.{shown_lists, shown_list, watch_id, ids_inside, lists_room}

shown_room : (b : ArenaState) (all : List WatchEntries) (w : Arranged) (l : ℤ) (k : ℕ) → shown_lists b all ≡ w → k ≡ code_of l → code_of l < length w.lists → k < length all
shown_room b all w l k view at room =
    let long : length w.lists ≡ length all = ap (λ (x : Arranged). length x.lists) (sym view) ∙ lists_room b.starts all in
    omega (arith, long, room, at)

-- the entries of one list
pub direct_read : (b : ArenaState) (all : List WatchEntries) (w : Arranged) (l : ℤ) (k : ℕ) (e : WatchEntries) →
    shown_lists b all ≡ w → k ≡ code_of l → code_of l < length w.lists → e ≡ slice_index_or all k e → AreDirect b all →
    All (IsDirect b) e
direct_read b all w l k e view at room is are = subst (All (IsDirect b)) (sym is) (All-get_or (All (IsDirect b)) all k e (shown_room b all w l k view at room) are)

-- An index of a list is one of its entries,
pub entry_inside : (b : ArenaState) (all : List WatchEntries) (w : Arranged) (l : ℤ) (k : ℕ) (e : WatchEntries)
    (index : ℕ) → shown_lists b all ≡ w → k ≡ code_of l → code_of l < length w.lists → e ≡ slice_index_or all k e →
    index < length (watch_list_in w.lists l) → index < length e
entry_inside b all w l k e index view at room is inside = ids_inside b.starts e (watch_list_in w.lists l) index (shown_list b all w l k e view at room is) inside

-- which has the start of a clause,
pub entry_direct : (b : ArenaState) (all : List WatchEntries) (w : Arranged) (l : ℤ) (k : ℕ) (e : WatchEntries)
    (index : ℕ) (watch : Watch) → shown_lists b all ≡ w → k ≡ code_of l → code_of l < length w.lists →
    e ≡ slice_index_or all k e → index < length (watch_list_in w.lists l) → slice_index_or e index no_watch ≡ watch →
    AreDirect b all → IsDirect b watch
entry_direct b all w l k e index watch view at room is inside here are =
    subst (IsDirect b) here (All-get_or (IsDirect b) e index no_watch (entry_inside b all w l k e index view at room is inside) (direct_read b all w l k e view at room is are))

-- whose id is the one in the list of ids.
pub entry_id : (b : ArenaState) (all : List WatchEntries) (w : Arranged) (l : ℤ) (k : ℕ) (e : WatchEntries) (index : ℕ)
    (watch : Watch) → shown_lists b all ≡ w → k ≡ code_of l → code_of l < length w.lists → e ≡ slice_index_or all k e →
    index < length (watch_list_in w.lists l) → slice_index_or e index no_watch ≡ watch →
    id_in b.starts watch.start ≡ slice_index_or (watch_list_in w.lists l) index 0
entry_id b all w l k e index watch view at room is inside here = ap (λ (x : Watch). id_in b.starts x.start) (sym here)
    ∙ watch_id b.starts e (watch_list_in w.lists l) index no_watch (shown_list b all w l k e view at room is) inside

-- What is read by the start is the list of the id.
pub read_direct : (b : ArenaState) (arranged : List (List ℤ)) (s id : ℕ) (result : List ℤ) → b.lists ≡ arranged →
    id_in b.starts s ≡ id → result ≡ block_at b.lists (id_in b.starts s) → result ≡ block_at arranged id
read_direct b arranged s id result same id_is read = read ∙ ap (block_at b.lists) id_is ∙ ap (λ (ls : List (List ℤ)). block_at ls id) same

-- The start of an id is that of a clause, and has the id.
pub start_id : (id n : ℕ) → 0 < id → n ≡ id - 1 + 1 → n ≡ id
start_id id n some is = omega (arith, some, is)

pub start_direct : (b : ArenaState) (arranged : List (List ℤ)) (id s : ℕ) → b.lists ≡ arranged → 0 < id →
    id ≤ length arranged → slice_index_or b.starts (id - 1) 0 ≡ s → id_in b.starts s ≡ id - 1 + 1 → IsStart b s
start_direct b arranged id s same some given there is =
    let its : id_in b.starts s ≡ id = start_id id (id_in b.starts s) some is in
    record {
      some = omega (arith, some, its);
      given = omega (arith, given, its, ap length same);
      is = ap (λ (n : ℕ). slice_index_or b.starts (n - 1) 0) its ∙ there;
    }

-- An entry has an id exactly where it has the start of that id.
pub is_at : (b : ArenaState) (s start id own : ℕ) → IsStart b s → id_in b.starts s ≡ own → slice_index_or b.starts (id - 1) 0 ≡ start → id_in b.starts start ≡ id → IsTrue (nat_eq s start) ↔ (own ≡ id)
is_at b s start id own direct is there its = (
  λ same. sym is ∙ ap (id_in b.starts) (eqb-true s start same) ∙ its,
  λ (same : own ≡ id). eq-eqb s start (sym direct.is ∙ ap (λ (n : ℕ). slice_index_or b.starts (n - 1) 0) (is ∙ same) ∙ there),
)

-- One watch list is written.
pub direct_set : (b : ArenaState) (all : List WatchEntries) (k : ℕ) (new : WatchEntries) → AreDirect b all → All (IsDirect b) new → AreDirect b (slice_set all k new)
direct_set b all k new are is = All-set (All (IsDirect b)) all k new is are

pub direct_swap : (b : ArenaState) (e : WatchEntries) (i : ℕ) → i < length e → All (IsDirect b) e → All (IsDirect b) (swap_remove e i no_watch)
direct_swap b e i low are = All-take (IsDirect b) (length e - 1)
    (slice_set e i (slice_index_or e (length e - 1) no_watch))
    (All-set (IsDirect b) e i (slice_index_or e (length e - 1) no_watch)
    (All-get_or (IsDirect b) e (length e - 1) no_watch (omega (arith, low)) are) are)

pub direct_put : (b : ArenaState) (e : WatchEntries) (i : ℕ) (m : ℤ) → i < length e → All (IsDirect b) e → All (IsDirect b) (slice_set e i (blocked_by (slice_index_or e i no_watch) m))
direct_put b e i m low are = All-set (IsDirect b) e i (blocked_by (slice_index_or e i no_watch) m) (All-get_or (IsDirect b) e i no_watch low are) are

-- The clauses of the first n ids keep their starts and ids, and all entries are of these, so the entries stay
-- valid, with their ids.
abbrev IsKeptStart : ArenaState → ℕ → Watch → Type 0
IsKeptStart b n w = IsDirect b w × (id_in b.starts w.start ≤ n)

abbrev pub AreKeptStarts : ArenaState → ℕ → List WatchEntries → Type 0
AreKeptStarts b n all = All (All (IsKeptStart b n)) all

pub kept_direct : (b new : ArenaState) (all : List WatchEntries) (n : ℕ) → KeepsIds b new n → AreKeptStarts b n all → AreDirect new all
kept_direct b new all n kept are = All-weaker (All (IsKeptStart b n)) (All (IsDirect new)) (λ e. All-weaker (IsKeptStart b n) (IsDirect new) (λ w both. (kept w.start both.0 both.1).0) e) all are

kept_ids : (b new : ArenaState) (e : WatchEntries) (n : ℕ) → KeepsIds b new n → All (IsKeptStart b n) e → ids_of new.starts e ≡ ids_of b.starts e
kept_ids b new [] n kept are = refl
kept_ids b new (w ∷ ws) n kept are =
    let first : IsKeptStart b n w = All-head (IsKeptStart b n) w ws are in
    let head : id_in new.starts w.start ≡ id_in b.starts w.start = (kept w.start first.0 first.1).1 in
    let tail : ids_of new.starts ws ≡ ids_of b.starts ws = kept_ids b new ws n kept (All-tail (IsKeptStart b n) w ws are) in
    ap (λ (m : ℕ). m ∷ ids_of new.starts ws) head ∙ ap (λ (xs : List ℕ). id_in b.starts w.start ∷ xs) tail

pub kept_lists : (b new : ArenaState) (all : List WatchEntries) (n : ℕ) → KeepsIds b new n → AreKeptStarts b n all → lists_of new.starts all ≡ lists_of b.starts all
unfolding lists_of
kept_lists b new [] n kept are = refl
kept_lists b new (e ∷ es) n kept are =
    let head : ids_of new.starts e ≡ ids_of b.starts e = kept_ids b new e n kept (All-head (All (IsKeptStart b n)) e es are) in
    let tail : lists_of new.starts es ≡ lists_of b.starts es = kept_lists b new es n kept (All-tail (All (IsKeptStart b n)) e es are) in
    ap (λ (xs : List ℕ). xs ∷ lists_of new.starts es) head ∙ ap (λ (ls : List (List ℕ)). ids_of b.starts e ∷ ls) tail

-- So they stay valid when a clause is appended,
all_kept : (b : ArenaState) (all : List WatchEntries) → AreDirect b all → AreKeptStarts b (length b.lists) all
all_kept b all are = All-weaker (All (IsDirect b)) (All (IsKeptStart b (length b.lists))) (λ e. All-weaker (IsDirect b) (IsKeptStart b (length b.lists)) (λ w is. (is, is.given)) e) all are

pub more_lists : (b new : ArenaState) (all : List WatchEntries) → KeepsIds b new (length b.lists) → AreDirect b all → lists_of new.starts all ≡ lists_of b.starts all
more_lists b new all kept are = kept_lists b new all (length b.lists) kept (all_kept b all are)

abbrev shown_of : List (List ℤ) → List (List ℕ) → List (List ℤ) → Arranged
shown_of arena lists rows = record { arena = arena; lists = lists; rows = rows }

pub shown_more : (b new : ArenaState) (all : List WatchEntries) (a : Arranged) (lits : List ℤ) →
    KeepsIds b new (length b.lists) → AreDirect b all → new.lists ≡ b.lists ++ lits ∷ [] → shown_lists b all ≡ a →
    shown_lists new all ≡ record { arena = a.arena ++ lits ∷ []; lists = a.lists; rows = a.rows }
shown_more b new all a lits kept are more view =
    ap (λ (ls : List (List ℕ)). shown_of new.lists ls (rows_of all)) (more_lists b new all kept are)
    ∙ ap (λ (ls : List (List ℤ)). shown_of ls (lists_of b.starts all) (rows_of all)) more
    ∙ ap (λ (x : Arranged). shown_of (x.arena ++ lits ∷ []) x.lists x.rows) view

-- and removed again, where the ids are those of before.
back_kept : (old new : ArenaState) (lits : List ℤ) (before all : List WatchEntries) → new.lists ≡ old.lists ++
    lits ∷ [] → lists_of new.starts all ≡ lists_of old.starts before → AreDirect old before → AreDirect new all →
    AreKeptStarts new (length new.lists - 1) all
unfolding lists_of
back_kept old new lits before all more same was are k d low i e inside = (is, omega (arith, low_id, count_new))
  where
    list : WatchEntries
    list = slice_index_or all k d

    w : Watch
    w = slice_index_or list i e

    is : IsDirect new w
    is = are k d low i e inside

    long : length all ≡ length before
    long = sym (length-map all (λ (x : WatchEntries). ids_of new.starts x)) ∙ ap length same ∙ length-map before (λ (x : WatchEntries). ids_of old.starts x)

    old_list : WatchEntries
    old_list = slice_index_or before k d

    ids : ids_of new.starts list ≡ ids_of old.starts old_list
    ids = sym (get_or-map (λ (x : WatchEntries). ids_of new.starts x) all k d [] low)
        ∙ ap (λ (xs : List (List ℕ)). slice_index_or xs k []) same
        ∙ get_or-map (λ (x : WatchEntries). ids_of old.starts x) before k d [] (omega (arith, low, long))

    within : i < length old_list
    within = (let count : length list ≡ length old_list =
        sym (length-map list (λ (x : Watch). id_in new.starts x.start)) ∙ ap length ids
        ∙ length-map old_list (λ (x : Watch). id_in old.starts x.start) in omega (arith, inside, count))

    id : id_in new.starts w.start ≡ id_in old.starts (slice_index_or old_list i e).start
    id = sym (get_or-map (λ (x : Watch). id_in new.starts x.start) list i e 0 inside)
        ∙ ap (λ (xs : List ℕ). slice_index_or xs i 0) ids
        ∙ get_or-map (λ (x : Watch). id_in old.starts x.start) old_list i e 0 within

    low_id : id_in new.starts w.start ≤ length old.lists
    low_id = (let was_low : id_in old.starts (slice_index_or old_list i e).start ≤ length old.lists = (was k d (omega (arith, low, long)) i e within).given in omega (arith, was_low, id))

    count_new : length new.lists ≡ length old.lists + 1
    count_new = ap length more ∙ length-append old.lists (lits ∷ [])

pub direct_back : (old new back : ArenaState) (lits : List ℤ) (before all : List WatchEntries) →
    new.lists ≡ old.lists ++ lits ∷ [] → KeepsIds new back (length new.lists - 1) →
    lists_of new.starts all ≡ lists_of old.starts before → AreDirect old before → AreDirect new all → AreDirect back all
direct_back old new back lits before all more kept same was are = kept_direct new back all (length new.lists - 1) kept (back_kept old new lits before all more same was are)

pub shown_back : (old new back : ArenaState) (lits : List ℤ) (before all : List WatchEntries) (a now : Arranged) →
    new.lists ≡ old.lists ++ lits ∷ [] → back.lists ≡ take (length new.lists - 1) new.lists →
    KeepsIds new back (length new.lists - 1) → lists_of new.starts all ≡ lists_of old.starts before →
    AreDirect old before → AreDirect new all → shown_lists old before ≡ now → shown_lists new all ≡ a →
    a.rows ≡ now.rows → shown_lists back all ≡ now
shown_back old new back lits before all a now more back_is kept same was are view view_new rows =
    ap (λ (ls : List (List ℕ)). shown_of back.lists ls (rows_of all))
    (kept_lists new back all (length new.lists - 1) kept (back_kept old new lits before all more same was are) ∙ same
    ∙ ap (λ (x : Arranged). x.lists) view)
    ∙ ap (λ (ls : List (List ℤ)). shown_of ls now.lists (rows_of all)) (back_is ∙ ap (λ (ls : List (List ℤ)). take (length ls - 1) ls) more ∙ front ∙ ap (λ (x : Arranged). x.arena) view)
    ∙ ap (shown_of now.arena now.lists) (ap (λ (x : Arranged). x.rows) view_new ∙ rows)
  where
    front : take (length (old.lists ++ lits ∷ []) - 1) (old.lists ++ lits ∷ []) ≡ old.lists
    front = grind (arith, common_steps)

-- Two literals of a clause, by its start, change places.
abbrev pub IsExchange : ArenaState → ArenaState → ℕ → ℕ → ℕ → Type 0
IsExchange b new s low high = new.lists ≡ slice_set b.lists (id_in b.starts s - 1) (swap (block_at b.lists (id_in b.starts s)) low high)

pub exchanged_shown : (b new : ArenaState) (all : List WatchEntries) (a : Arranged) (s id low high : ℕ) →
    shown_lists b all ≡ a → id_in b.starts s ≡ id → IsExchange b new s low high → new.starts ≡ b.starts →
    shown_lists new all ≡ exchanged_at a id low high
exchanged_shown b new all a s id low high view id_is exchanged starts =
    ap (λ (ss : List ℕ). shown_of new.lists (lists_of ss all) (rows_of all)) starts
    ∙ ap (λ (ls : List (List ℤ)). shown_of ls (lists_of b.starts all) (rows_of all)) exchanged
    ∙ ap (λ (n : ℕ). exchanged_at (shown_lists b all) n low high) id_is
    ∙ ap (λ (x : Arranged). exchanged_at x id low high) view

-- The starts stay, and as many lists.
pub direct_same : (b new : ArenaState) (all : List WatchEntries) → length new.lists ≡ length b.lists → new.starts ≡ b.starts → AreDirect b all → AreDirect new all
direct_same b new all long starts are = All-weaker (All (IsDirect b)) (All (IsDirect new)) (λ e. All-weaker (IsDirect b) (IsDirect new) (λ w its. one w.start its) e) all are
  where
    one : (t : ℕ) → IsStart b t → IsStart new t
    one t its = record {
      some = rw starts its.some;
      given = rw (starts, long) its.given;
      is = rw starts its.is;
    }

pub direct_exchanged : (b new : ArenaState) (all : List WatchEntries) (s low high : ℕ) → IsExchange b new s low high → new.starts ≡ b.starts → AreDirect b all → AreDirect new all
direct_exchanged b new all s low high exchanged starts are =
    direct_same b new all (ap length exchanged ∙ length-set b.lists (id_in b.starts s - 1) (swap (block_at b.lists (id_in b.starts s)) low high)) starts are

-- The literals of an id are emptied.
pub direct_without : (b new : ArenaState) (all : List WatchEntries) (index : ℕ) → new.lists ≡ slice_set b.lists index [] → new.starts ≡ b.starts → AreDirect b all → AreDirect new all
direct_without b new all index lists starts are = direct_same b new all (ap length lists ∙ length-set b.lists index []) starts are

pub shown_without : (b new : ArenaState) (all : List WatchEntries) (a : Arranged) (id : ℕ) → shown_lists b all ≡ a →
    new.lists ≡ slice_set b.lists (id - 1) [] → new.starts ≡ b.starts → shown_lists new all ≡ arranged_without a id
shown_without b new all a id view lists starts =
    ap (λ (ss : List ℕ). shown_of new.lists (lists_of ss all) (rows_of all)) starts
    ∙ ap (λ (ls : List (List ℤ)). shown_of ls (lists_of b.starts all) (rows_of all)) lists
    ∙ ap (λ (x : Arranged). arranged_without x id) view
