-- A watch moves from one list to another: its entry is read and appended to the second list, two literals of
-- the clause are swapped, and the entry is removed from the first list.
use Rattle.std.proofs.Common.{◌≡◌, ℕ, ◌<◌, ℤ, pos, List, [], ◌∷◌, ◌++◌, length, slice_index_or, slice_set, All, refl, sym, ap, ◌∙◌, subst}
use Rattle.std.specs.List.{swap_remove}
use Rattle.std.proofs.lemmas.List.{length-set}
use Rattle.std.proofs.lemmas.List.Elements.{All-push}
use Rattle.cdcl_theory.specs.Codes.{code_of}
use Rattle.clause_db.specs.declared.lists.Watch.{Watch}
use Rattle.clause_db.specs.ArenaRanges.{ArenaState, id_in, IsStart}
use Rattle.clause_db.specs.Lists.{WatchEntries, no_watch, ids_of, blockers_of, IsDirect, AreDirect}
use Rattle.clause_db.specs.Watching.{watch_list_in, with_id}
use Rattle.clause_db.specs.Blockers.{with_blocker}
use Rattle.clause_db.specs.Arranging.{Arranged, block_at, exchanged_at}
use Rattle.clause_db.specs.Deleting.{arranged_left}
use Rattle.clause_db.proofs.WatchEntries.{shown_lists, shown_list, ids_push, blockers_push, ids_swap, blockers_swap, ids_inside, changed}
use Rattle.clause_db.proofs.Direct.{entry_id, entry_direct, read_direct, direct_read, direct_set, direct_swap, IsExchange, exchanged_shown, direct_exchanged}
use Rattle.clause_db.proofs.Arranging.{pushed_list}

-- What is read of an entry: its start is that of the clause whose id is in the list of ids, and the
-- literals are those of that id.
abbrev pub IsEntryOf : ArenaState → Arranged → ℕ → ℕ → List ℤ → Type 0
IsEntryOf b w s id block = (id_in b.starts s ≡ id) × IsStart b s × (block ≡ block_at w.arena id)

pub entry_read : (b : ArenaState) (all : List WatchEntries) (w : Arranged) (l : ℤ) (k : ℕ) (e : WatchEntries) (index : ℕ) (watch : Watch) (block : List ℤ)
    → shown_lists b all ≡ w → k ≡ code_of l → code_of l < length w.lists → e ≡ slice_index_or all k e → index < length (watch_list_in w.lists l)
    → slice_index_or e index no_watch ≡ watch → block ≡ block_at b.lists (id_in b.starts watch.start) → AreDirect b all
    → IsEntryOf b w watch.start (slice_index_or (watch_list_in w.lists l) index 0) block
entry_read b all w l k e index watch block view at room is inside here read are =
    let id : ℕ = slice_index_or (watch_list_in w.lists l) index 0 in
    let its : id_in b.starts watch.start ≡ id = entry_id b all w l k e index watch view at room is inside here in (
      its,
      entry_direct b all w l k e index watch view at room is inside here are,
      read_direct b w.arena watch.start id block (ap (λ (x : Arranged). x.arena) view) its read,
    )

-- an entry with a start and a blocking literal
abbrev pub entry : ℕ → ℤ → Watch
entry s m = record { blocker = m; start = s }

-- the lists with an entry more in one of them
abbrev pub arranged_pushed : Arranged → ℤ → ℕ → ℤ → Arranged
arranged_pushed w l id m = record { arena = w.arena; lists = with_id w.lists l id; rows = with_blocker w.rows l m }

pushed_shown : (b : ArenaState) (all : List WatchEntries) (w : Arranged) (l m : ℤ) (k s id : ℕ) (e new : WatchEntries) → shown_lists b all ≡ w → k ≡ code_of l
    → code_of l < length w.lists → e ≡ slice_index_or all k e → new ≡ e ++ entry s m ∷ [] → id_in b.starts s ≡ id
    → shown_lists b (slice_set all k new) ≡ arranged_pushed w l id m
pushed_shown b all w l m k s id e new view at room is pushed its =
    changed (λ (xs : List ℕ). xs ++ id ∷ []) (λ (ys : List ℤ). ys ++ m ∷ []) b all w l k e new view at room is
    (ap (ids_of b.starts) pushed ∙ ids_push b.starts e (entry s m) ∙ ap (λ (n : ℕ). ids_of b.starts e ++ n ∷ []) its) (ap blockers_of pushed ∙ blockers_push e (entry s m))

pushed_direct : (b : ArenaState) (all : List WatchEntries) (w : Arranged) (l m : ℤ) (k s : ℕ) (e new : WatchEntries) → shown_lists b all ≡ w → k ≡ code_of l → code_of l < length w.lists
    → e ≡ slice_index_or all k e → new ≡ e ++ entry s m ∷ [] → IsStart b s → AreDirect b all → AreDirect b (slice_set all k new)
pushed_direct b all w l m k s e new view at room is pushed start are =
    direct_set b all k new are (subst (All (IsDirect b)) (sym pushed) (All-push (IsDirect b) e (entry s m) (direct_read b all w l k e view at room is are) start))

taken_shown : (b : ArenaState) (all : List WatchEntries) (w : Arranged) (l : ℤ) (k index : ℕ) (e new : WatchEntries) → shown_lists b all ≡ w → k ≡ code_of l → code_of l < length w.lists
    → e ≡ slice_index_or all k e → index < length e → new ≡ swap_remove e index no_watch → shown_lists b (slice_set all k new) ≡ arranged_left w l index
taken_shown b all w l k index e new view at room is inside taken =
    changed (λ (xs : List ℕ). swap_remove xs index 0) (λ (ys : List ℤ). swap_remove ys index (pos 1)) b all w l k e new view at room is
    (ap (ids_of b.starts) taken ∙ ids_swap b.starts e index inside) (ap blockers_of taken ∙ blockers_swap e index inside)

taken_direct : (b : ArenaState) (all : List WatchEntries) (w : Arranged) (l : ℤ) (k index : ℕ) (e new : WatchEntries) → shown_lists b all ≡ w → k ≡ code_of l
    → code_of l < length w.lists → e ≡ slice_index_or all k e → index < length e → new ≡ swap_remove e index no_watch → AreDirect b all
    → AreDirect b (slice_set all k new)
taken_direct b all w l k index e new view at room is inside taken are =
    direct_set b all k new are (subst (All (IsDirect b)) (sym taken) (direct_swap b e index inside (direct_read b all w l k e view at room is are)))

-- the list that the clause leaves, as it is before
pub leaving_inside : (b new : ArenaState) (all : List WatchEntries) (w : Arranged) (from to m : ℤ) (k_to k_from s id index low high : ℕ) (e_to more e : WatchEntries)
    → shown_lists b all ≡ w → k_to ≡ code_of to → k_from ≡ code_of from → (code_of from < length w.lists) × (code_of to < length w.lists) → (from ≡ to → ⊥)
    → e_to ≡ slice_index_or all k_to e_to → more ≡ e_to ++ entry s m ∷ [] → id_in b.starts s ≡ id → IsExchange b new s low high → new.starts ≡ b.starts
    → e ≡ slice_index_or (slice_set all k_to more) k_from e → index < length (watch_list_in w.lists from) → index < length e
leaving_inside b new all w from to m k_to k_from s id index low high e_to more e view at_to at_from rooms apart is_to pushed its exchanged starts is inside =
    let a : Arranged = arranged_pushed w to id m in
    let shown : shown_lists b (slice_set all k_to more) ≡ a = pushed_shown b all w to m k_to s id e_to more view at_to rooms.1 is_to pushed its in
    let after : shown_lists new (slice_set all k_to more) ≡ exchanged_at a id low high = exchanged_shown b new (slice_set all k_to more) a s id low high shown its exchanged starts in
    let room : code_of from < length a.lists = rw length-set rooms.0 in
    ids_inside new.starts e (watch_list_in a.lists from) index (shown_list new (slice_set all k_to more) (exchanged_at a id low high) from k_from e after at_from room is)
    (subst (λ (xs : List ℕ). index < length xs) (sym (pushed_list w a from to m id refl apart)) inside)

-- the lists, and what they show, when all is done
pub handed_on : (b new : ArenaState) (all : List WatchEntries) (w : Arranged) (from to m : ℤ) (k_to k_from s id index low high : ℕ) (e_to more e less : WatchEntries)
    → shown_lists b all ≡ w → k_to ≡ code_of to → k_from ≡ code_of from → (code_of from < length w.lists) × (code_of to < length w.lists) → (from ≡ to → ⊥)
    → e_to ≡ slice_index_or all k_to e_to → more ≡ e_to ++ entry s m ∷ [] → id_in b.starts s ≡ id → IsExchange b new s low high → new.starts ≡ b.starts
    → e ≡ slice_index_or (slice_set all k_to more) k_from e → index < length (watch_list_in w.lists from)
    → less ≡ swap_remove e index no_watch → IsStart b s → AreDirect b all
    → AreDirect new (slice_set (slice_set all k_to more) k_from less) ×
    (shown_lists new (slice_set (slice_set all k_to more) k_from less) ≡
    exchanged_at (arranged_left (arranged_pushed w to id m) from index) id low high)
handed_on b new all w from to m k_to k_from s id index low high e_to more e less view at_to at_from rooms apart is_to pushed its exchanged starts is inside taken start are =
    let a : Arranged = arranged_pushed w to id m in
    let shown : shown_lists b (slice_set all k_to more) ≡ a = pushed_shown b all w to m k_to s id e_to more view at_to rooms.1 is_to pushed its in
    let after : shown_lists new (slice_set all k_to more) ≡ exchanged_at a id low high = exchanged_shown b new (slice_set all k_to more) a s id low high shown its exchanged starts in
    let direct : AreDirect new (slice_set all k_to more) =
    direct_exchanged b new (slice_set all k_to more) s low high exchanged starts
    (pushed_direct b all w to m k_to s e_to more view at_to rooms.1 is_to pushed start are) in
    let room : code_of from < length a.lists = rw length-set rooms.0 in
    let low_index : index < length e = leaving_inside b new all w from to m k_to k_from s id index low high e_to more e view at_to at_from rooms apart is_to pushed its exchanged starts is inside in (
      taken_direct new (slice_set all k_to more) (exchanged_at a id low high) from k_from index e less after at_from room is low_index taken direct,
      taken_shown new (slice_set all k_to more) (exchanged_at a id low high) from k_from index e less after at_from room is low_index taken,
    )
