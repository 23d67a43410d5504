-- Watch lists as ids and as blocking literals.
use Rattle.std.proofs.Common.{◌≡◌, ℕ, zero, suc, ◌+◌, ◌-◌, ◌<◌, ◌≤◌, ℤ, Contains, pos, List, [], ◌∷◌, ◌++◌, map, length, take, slice_index_or, slice_set, replicate, refl, sym, ap, ◌∙◌, subst, arith}
use Rattle.std.specs.List.{swap_remove}
use Rattle.std.proofs.lemmas.List.{length-map, map-append, map-set, get_or-map, take-map, set-get_or, get_or_default}
use Rattle.std.proofs.Math.Logic.{⊎_elim}
use Rattle.std.proofs.lemmas.Bool.{cases_eq, cases_lt}
use Rattle.std.proofs.lemmas.Grind.{common_steps}
use Rattle.cdcl_theory.specs.Codes.{code_of}
use Rattle.clause_db.specs.declared.lists.Watch.{Watch}
use Rattle.clause_db.specs.ArenaRanges.{ArenaState, id_in}
use Rattle.clause_db.specs.Lists.{WatchEntries, no_entries, no_watch, blocked_by, ids_of, blockers_of, lists_of, rows_of}
use Rattle.clause_db.specs.Watching.{watch_list_in}
use Rattle.clause_db.specs.WatchingLaws.{listed_whole}
use Rattle.clause_db.specs.Blockers.{row_of, with_row}
use Rattle.clause_db.specs.Arranging.{Arranged}

-- the last one in the place of another, in a list and in what is read of it
map_swap : {A B : Type 0} (f : A → B) (xs : List A) (i : ℕ) (d : A) (e : B) → i < length xs → map f (swap_remove xs i d) ≡ swap_remove (map f xs) i e
map_swap f xs i d e low =
    let long : length (map f xs) ≡ length xs = length-map xs f in
    let last : slice_index_or (map f xs) (length xs - 1) e ≡ f (slice_index_or xs (length xs - 1) d) = get_or-map f xs (length xs - 1) d e (omega (arith, low)) in
    sym (take-map f (length xs - 1) (slice_set xs i (slice_index_or xs (length xs - 1) d)))
    ∙ ap (take (length xs - 1)) (map-set f xs i (slice_index_or xs (length xs - 1) d)) ∙ sym (rw (long, last) refl)

-- the default entry doesn't matter
pub swap_default : (entries : WatchEntries) (i : ℕ) (d : Watch) → i < length entries → swap_remove entries i d ≡ swap_remove entries i no_watch
swap_default entries i d low = ap (λ (w : Watch). take (length entries - 1) (slice_set entries i w)) (get_or_default entries (length entries - 1) d no_watch (omega (arith, low)))

pub set_read : (entries : WatchEntries) (i : ℕ) (w : Watch) (b : ℤ) → i < length entries →
    w ≡ slice_index_or entries i w → slice_set entries i (record { blocker = b; start = w.start }) ≡
    slice_set entries i (blocked_by (slice_index_or entries i no_watch) b)
set_read entries i w b low is = ap (λ (x : Watch). slice_set entries i (blocked_by x b)) (is ∙ get_or_default entries i w no_watch low)

-- An entry is pushed, taken off, taken out, and written.
pub ids_push : (starts : List ℕ) (entries : WatchEntries) (w : Watch) → ids_of starts (entries ++ w ∷ []) ≡ ids_of starts entries ++ id_in starts w.start ∷ []
ids_push starts entries w = map-append (λ (x : Watch). id_in starts x.start) entries (w ∷ [])

pub blockers_push : (entries : WatchEntries) (w : Watch) → blockers_of (entries ++ w ∷ []) ≡ blockers_of entries ++ w.blocker ∷ []
blockers_push entries w = map-append (λ (x : Watch). x.blocker) entries (w ∷ [])

pub ids_front : (starts : List ℕ) (entries : WatchEntries) → ids_of starts (take (length entries - 1) entries) ≡ take (length (ids_of starts entries) - 1) (ids_of starts entries)
ids_front starts entries = rw (length-map entries (λ (x : Watch). id_in starts x.start)) (sym (take-map (λ (x : Watch). id_in starts x.start) (length entries - 1) entries))

pub blockers_front : (entries : WatchEntries) → blockers_of (take (length entries - 1) entries) ≡ take (length (blockers_of entries) - 1) (blockers_of entries)
blockers_front entries = rw (length-map entries (λ (x : Watch). x.blocker)) (sym (take-map (λ (x : Watch). x.blocker) (length entries - 1) entries))

pub ids_swap : (starts : List ℕ) (entries : WatchEntries) (i : ℕ) → i < length entries → ids_of starts (swap_remove entries i no_watch) ≡ swap_remove (ids_of starts entries) i 0
ids_swap starts entries i low = map_swap (λ (x : Watch). id_in starts x.start) entries i no_watch 0 low

pub blockers_swap : (entries : WatchEntries) (i : ℕ) → i < length entries → blockers_of (swap_remove entries i no_watch) ≡ swap_remove (blockers_of entries) i (pos 1)
blockers_swap entries i low = map_swap (λ (x : Watch). x.blocker) entries i no_watch (pos 1) low

pub ids_set : (starts : List ℕ) (entries : WatchEntries) (i : ℕ) (b : ℤ) → i < length entries →
    ids_of starts (slice_set entries i (blocked_by (slice_index_or entries i no_watch) b)) ≡ ids_of starts entries
ids_set starts entries i b low =
    map-set (λ (x : Watch). id_in starts x.start) entries i (blocked_by (slice_index_or entries i no_watch) b)
    ∙ ap (λ (n : ℕ). slice_set (ids_of starts entries) i n)
    (sym (get_or-map (λ (x : Watch). id_in starts x.start) entries i no_watch 0 low))
    ∙ set-get_or (ids_of starts entries) i 0

pub blockers_set : (entries : WatchEntries) (i : ℕ) (b : ℤ) → blockers_of (slice_set entries i (blocked_by (slice_index_or entries i no_watch) b)) ≡ slice_set (blockers_of entries) i b
blockers_set entries i b = map-set (λ (x : Watch). x.blocker) entries i (blocked_by (slice_index_or entries i no_watch) b)

-- the length of a list, by its ids and by its blocking literals
pub ids_inside : (starts : List ℕ) (entries : WatchEntries) (ids : List ℕ) (i : ℕ) → ids_of starts entries ≡ ids → i < length ids → i < length entries
ids_inside starts entries ids i is low = rw length-map at (subst (λ (xs : List ℕ). i < length xs) (sym is) low)

pub blockers_inside : (entries : WatchEntries) (row : List ℤ) (i : ℕ) → blockers_of entries ≡ row → i < length row → i < length entries
blockers_inside entries row i is low = rw length-map at (subst (λ (xs : List ℤ). i < length xs) (sym is) low)

-- the id of an entry
pub watch_id : (starts : List ℕ) (entries : WatchEntries) (ids : List ℕ) (index : ℕ) (d : Watch) →
    ids_of starts entries ≡ ids → index < length ids → id_in starts (slice_index_or entries index d).start ≡
    slice_index_or ids index 0
watch_id starts entries ids index d is inside =
    sym (get_or-map (λ (w : Watch). id_in starts w.start) entries index d 0 (ids_inside starts entries ids index is inside)) ∙ ap (λ (xs : List ℕ). slice_index_or xs index 0) is

-- A list that has an id isn't empty.
pub some_there : (ids : List ℕ) (id : ℕ) → Contains ids id → 0 < length ids
some_there ids id (k, inside, at) = omega (arith, inside)

-- Where an id is found in a list.
pub found : (ids : List ℕ) (id index : ℕ) → Contains ids id → index < length ids →
    ((k : ℕ) → k < index → slice_index_or ids k 0 ≡ id → ⊥) →
    (index + 1 < length ids → slice_index_or ids index 0 ≡ id) → slice_index_or ids index 0 ≡ id
found ids id index (k, inside, at) low before last =
    let read : slice_index_or ids k 0 ≡ id = get_or_default ids k 0 id inside ∙ at in
    ⊎_elim
    (λ (early : k < index). absurd (before k early read))
    (λ (late : index ≤ k). ⊎_elim
    (λ (e : index ≡ k). ap (λ (n : ℕ). slice_index_or ids n 0) e ∙ read)
    (λ (apart : index ≡ k → ⊥). last (omega (arith, late, apart, inside)))
    (cases_eq index k))
    (cases_lt k index)

pub lists_room : (starts : List ℕ) (all : List WatchEntries) → length (lists_of starts all) ≡ length all
unfolding lists_of
lists_room starts all = length-map all (λ (e : WatchEntries). ids_of starts e)

pub rows_room : (all : List WatchEntries) → length (rows_of all) ≡ length all
unfolding rows_of
rows_room all = length-map all (λ (e : WatchEntries). blockers_of e)

pub lists-set : (starts : List ℕ) (all : List WatchEntries) (k : ℕ) (e : WatchEntries) → lists_of starts (slice_set all k e) ≡ slice_set (lists_of starts all) k (ids_of starts e)
unfolding lists_of
lists-set starts all k e = map-set (λ (x : WatchEntries). ids_of starts x) all k e

pub rows-set : (all : List WatchEntries) (k : ℕ) (e : WatchEntries) → rows_of (slice_set all k e) ≡ slice_set (rows_of all) k (blockers_of e)
unfolding rows_of
rows-set all k e = map-set (λ (x : WatchEntries). blockers_of x) all k e

same_again : {B : Type 0} (f : WatchEntries → B) (n : ℕ) → map f (replicate n no_entries) ≡ replicate n (f no_entries)
same_again f zero = refl
same_again f (suc n) = ap (λ xs. f no_entries ∷ xs) (same_again f n)

pub lists_none : (starts : List ℕ) (n : ℕ) → lists_of starts (replicate n no_entries) ≡ replicate n []
unfolding lists_of
lists_none starts n = same_again (λ (e : WatchEntries). ids_of starts e) n

pub rows_none : (n : ℕ) → rows_of (replicate n no_entries) ≡ replicate n []
unfolding rows_of
rows_none n = same_again (λ (e : WatchEntries). blockers_of e) n

-- the list and the row of a literal
pub list_read : (starts : List ℕ) (all : List WatchEntries) (l : ℤ) (e : WatchEntries) → code_of l < length all →
    e ≡ slice_index_or all (code_of l) e → ids_of starts e ≡ watch_list_in (lists_of starts all) l
unfolding lists_of watch_list_in
list_read starts all l e room is = sym (get_or-map (λ (x : WatchEntries). ids_of starts x) all (code_of l) e [] room ∙ ap (λ (x : WatchEntries). ids_of starts x) (sym is))

pub row_read : (all : List WatchEntries) (l : ℤ) (e : WatchEntries) → code_of l < length all → e ≡ slice_index_or all (code_of l) e → blockers_of e ≡ row_of (rows_of all) l
unfolding rows_of row_of
row_read all l e room is = sym (get_or-map (λ (x : WatchEntries). blockers_of x) all (code_of l) e [] room ∙ ap (λ (x : WatchEntries). blockers_of x) (sym is))

-- what the lists show
abbrev pub shown_lists : ArenaState → List WatchEntries → Arranged
shown_lists b all = record { arena = b.lists; lists = lists_of b.starts all; rows = rows_of all }

-- one of them was written
pub shown_set : (b : ArenaState) (all : List WatchEntries) (w : Arranged) (k : ℕ) (e : WatchEntries) →
    shown_lists b all ≡ w → shown_lists b (slice_set all k e) ≡
    record w { lists = slice_set w.lists k (ids_of b.starts e); rows = slice_set w.rows k (blockers_of e) }
shown_set b all w k e view = subst (λ (x : Arranged). shown_lists b (slice_set all k e) ≡
    record x { lists = slice_set x.lists k (ids_of b.starts e); rows = slice_set x.rows k (blockers_of e) }) view
    (rw (lists-set b.starts all k e, rows-set all k e) refl)

-- the list and the row that are read through what is shown
pub shown_list : (b : ArenaState) (all : List WatchEntries) (w : Arranged) (l : ℤ) (k : ℕ) (e : WatchEntries) →
    shown_lists b all ≡ w → k ≡ code_of l → code_of l < length w.lists → e ≡ slice_index_or all k e →
    ids_of b.starts e ≡ watch_list_in w.lists l
shown_list b all w l k e view at room is =
    let long : length w.lists ≡ length all = ap (λ (x : Arranged). length x.lists) (sym view) ∙ lists_room b.starts all in
    list_read b.starts all l e (omega (arith, long, room)) (is ∙ ap (λ (n : ℕ). slice_index_or all n e) at) ∙ ap (λ (x : Arranged). watch_list_in x.lists l) view

pub shown_row : (b : ArenaState) (all : List WatchEntries) (w : Arranged) (l : ℤ) (k : ℕ) (e : WatchEntries) →
    shown_lists b all ≡ w → k ≡ code_of l → code_of l < length w.lists → e ≡ slice_index_or all k e →
    blockers_of e ≡ row_of w.rows l
shown_row b all w l k e view at room is =
    let long : length w.lists ≡ length all = ap (λ (x : Arranged). length x.lists) (sym view) ∙ lists_room b.starts all in
    row_read all l e (omega (arith, long, room)) (is ∙ ap (λ (n : ℕ). slice_index_or all n e) at) ∙ ap (λ (x : Arranged). row_of x.rows l) view

-- and that are written
pub changed : (F : List ℕ → List ℕ) (G : List ℤ → List ℤ) (b : ArenaState) (all : List WatchEntries) (w : Arranged)
    (l : ℤ) (k : ℕ) (e new : WatchEntries) → shown_lists b all ≡ w → k ≡ code_of l → code_of l < length w.lists →
    e ≡ slice_index_or all k e → ids_of b.starts new ≡ F (ids_of b.starts e) → blockers_of new ≡ G (blockers_of e)
    → shown_lists b (slice_set all k new) ≡ record w { lists = slice_set w.lists (code_of l) (F (watch_list_in w.lists l)); rows = with_row w.rows l (G (row_of w.rows l)) }
changed F G b all w l k e new view at room is ids_is blockers_is =
    let ids : ids_of b.starts new ≡ F (watch_list_in w.lists l) = ids_is ∙ ap F (shown_list b all w l k e view at room is) in
    let blockers : blockers_of new ≡ G (row_of w.rows l) = blockers_is ∙ ap G (shown_row b all w l k e view at room is) in
    shown_set b all w k new view ∙ rw (at, ids, blockers) refl

-- A row alone is written.
pub row_changed : (G : List ℤ → List ℤ) (b : ArenaState) (all : List WatchEntries) (w : Arranged) (l : ℤ) (k : ℕ)
    (e new : WatchEntries) → shown_lists b all ≡ w → k ≡ code_of l → code_of l < length w.lists →
    e ≡ slice_index_or all k e → ids_of b.starts new ≡ ids_of b.starts e → blockers_of new ≡ G (blockers_of e)
    → shown_lists b (slice_set all k new) ≡ record w { rows = with_row w.rows l (G (row_of w.rows l)) }
row_changed G b all w l k e new view at room is ids_is blockers_is =
    changed (λ xs. xs) G b all w l k e new view at room is ids_is blockers_is
    ∙ ap (λ (xs : List (List ℕ)). (let x : Arranged = record {
      arena = w.arena;
      lists = xs;
      rows = with_row w.rows l (G (row_of w.rows l));
    } in x)) (listed_whole w.lists l)

pub ruleset entries = (common_steps, swap_default, set_read, length-map)

pub ruleset listing = (common_steps, lists_room, rows_room, lists-set, rows-set, lists_none, rows_none)
