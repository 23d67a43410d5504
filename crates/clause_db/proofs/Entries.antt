-- The entries of all watch lists while clauses move in the arena: ids instead of starts, and then the new
-- starts.
use Rattle.std.proofs.Common.{◌≡◌, ℕ, ◌+◌, ◌-◌, ◌<◌, ◌≤◌, ℤ, List, [], ◌∷◌, map, length, slice_index_or, All, refl, sym, ap, ◌∙◌, subst, arith}
use Rattle.std.proofs.lemmas.List.{length-map, get_or-map, same_lists}
use Rattle.std.proofs.lemmas.List.Elements.{All-head, All-tail, All-map, All-weaker}
use Rattle.clause_db.specs.declared.lists.Watch.{Watch}
use Rattle.clause_db.specs.ArenaRanges.{ArenaState, id_in, AreIds}
use Rattle.clause_db.specs.Lists.{WatchEntries, ids_of, blockers_of, lists_of, rows_of, named, placed, IsDirect, AreDirect, IsNamed, AreNamed}
use Rattle.clause_db.specs.Arranging.{Arranged}
use Rattle.clause_db.proofs.WatchEntries.{shown_lists}

-- The elements below an index are mapped, and the others are as they were.
pub record IsMapped {A : Type 0} (f : A → A) (old now : List A) (n : ℕ) : Type 0 where
  pub long : length now ≡ length old
  pub before : (k : ℕ) (d : A) → k < n → k < length old → slice_index_or now k d ≡ f (slice_index_or old k d)
  pub after : (k : ℕ) (d : A) → n ≤ k → slice_index_or now k d ≡ slice_index_or old k d

pub mapped_all : {A : Type 0} (f : A → A) (old now : List A) (n : ℕ) → IsMapped f old now n → length old ≤ n → now ≡ map f old
mapped_all f old now n mapped all = same_lists now (map f old) (mapped.long ∙ sym (length-map old f)) (λ k d at.
    let low : k < length old = omega (arith, at, mapped.long) in
    mapped.before k d (omega (arith, low, all)) low ∙ sym (get_or-map f old k d d low))

-- Where each entry is that of a list, the ids that are put there are those of lists.
named_all : (b new : ArenaState) (all : List WatchEntries) → length new.lists ≡ length b.lists → AreDirect b all → AreNamed new (map (map (named b.starts)) all)
named_all b new all long are = All-map (All (IsNamed new)) (map (named b.starts)) all
    (All-weaker (All (IsDirect b)) (λ e. All (IsNamed new) (map (named b.starts) e)) (λ e direct.
    All-map (IsNamed new) (named b.starts) e (All-weaker (IsDirect b) (λ w. IsNamed new (named b.starts w)) (λ w is.
    one w is) e direct)) all are)
  where
    one : (w : Watch) → IsDirect b w → IsNamed new (named b.starts w)
    one w is = (let given : id_in b.starts w.start ≤ length b.lists = is.given in (is.some, omega (arith, given, long)))

-- an entry with its id, and with its new start
abbrev again : ArenaState → ArenaState → Watch → Watch
again b new w = placed new.starts (named b.starts w)

its_id : (b new : ArenaState) (w : Watch) → length new.lists ≡ length b.lists → AreIds new → IsDirect b w → id_in new.starts (again b new w).start ≡ id_in b.starts w.start
its_id b new w long ids is =
    let some : 0 < id_in b.starts w.start = is.some in
    let given : id_in b.starts w.start ≤ length b.lists = is.given in
    let back : id_in b.starts w.start - 1 + 1 ≡ id_in b.starts w.start = omega (arith, some) in
    ids (id_in b.starts w.start - 1) (omega (arith, some, given, long)) ∙ back

its_start : (b new : ArenaState) (w : Watch) → length new.lists ≡ length b.lists → AreIds new → IsDirect b w → IsDirect new (again b new w)
its_start b new w long ids is =
    let id : id_in new.starts (again b new w).start ≡ id_in b.starts w.start = its_id b new w long ids is in
    let some : 0 < id_in b.starts w.start = is.some in
    let given : id_in b.starts w.start ≤ length b.lists = is.given in
    record {
      some = omega (arith, some, id);
      given = omega (arith, given, long, id);
      is = ap (λ (n : ℕ). slice_index_or new.starts (n - 1) 0) id;
    }

-- The ids, and the blocking literals, are what they were.
ids_again : (b new : ArenaState) (e : WatchEntries) → length new.lists ≡ length b.lists → AreIds new →
    All (IsDirect b) e → ids_of new.starts (map (placed new.starts) (map (named b.starts) e)) ≡ ids_of b.starts e
ids_again b new [] long ids are = refl
ids_again b new (w ∷ ws) long ids are =
    let head : id_in new.starts (again b new w).start ≡ id_in b.starts w.start = its_id b new w long ids (All-head (IsDirect b) w ws are) in
    let tail : ids_of new.starts (map (placed new.starts) (map (named b.starts) ws)) ≡ ids_of b.starts ws = ids_again b new ws long ids (All-tail (IsDirect b) w ws are) in
    ap (λ (n : ℕ). n ∷ ids_of new.starts (map (placed new.starts) (map (named b.starts) ws))) head ∙ ap (λ (xs : List ℕ). id_in b.starts w.start ∷ xs) tail

lists_again : (b new : ArenaState) (all : List WatchEntries) → length new.lists ≡ length b.lists → AreIds new →
    AreDirect b all → lists_of new.starts (map (map (placed new.starts)) (map (map (named b.starts)) all)) ≡
    lists_of b.starts all
unfolding lists_of
lists_again b new [] long ids are = refl
lists_again b new (e ∷ es) long ids are =
    let head : ids_of new.starts (map (placed new.starts) (map (named b.starts) e)) ≡ ids_of b.starts e = ids_again b new e long ids (All-head (All (IsDirect b)) e es are) in
    let tail : lists_of new.starts (map (map (placed new.starts)) (map (map (named b.starts)) es)) ≡ lists_of b.starts es = lists_again b new es long ids (All-tail (All (IsDirect b)) e es are) in
    ap (λ (xs : List ℕ). xs ∷ lists_of new.starts (map (map (placed new.starts)) (map (map (named b.starts)) es))) head ∙ ap (λ (ls : List (List ℕ)). ids_of b.starts e ∷ ls) tail

blockers_again : (b new : ArenaState) (e : WatchEntries) → blockers_of (map (placed new.starts) (map (named b.starts) e)) ≡ blockers_of e
blockers_again b new [] = refl
blockers_again b new (w ∷ ws) = ap (λ (xs : List ℤ). w.blocker ∷ xs) (blockers_again b new ws)

rows_again : (b new : ArenaState) (all : List WatchEntries) → rows_of (map (map (placed new.starts)) (map (map (named b.starts)) all)) ≡ rows_of all
unfolding rows_of
rows_again b new [] = refl
rows_again b new (e ∷ es) =
    ap (λ (xs : List ℤ). xs ∷ rows_of (map (map (placed new.starts)) (map (map (named b.starts)) es))) (blockers_again b new e) ∙ ap (λ (ls : List (List ℤ)). blockers_of e ∷ ls) (rows_again b new es)

direct_again : (b new : ArenaState) (all : List WatchEntries) → length new.lists ≡ length b.lists → AreIds new →
    AreDirect b all → AreDirect new (map (map (placed new.starts)) (map (map (named b.starts)) all))
direct_again b new all long ids are =
    All-map (All (IsDirect new)) (map (placed new.starts)) (map (map (named b.starts)) all)
    (All-map (λ e. All (IsDirect new) (map (placed new.starts) e)) (map (named b.starts)) all
    (All-weaker (All (IsDirect b)) (λ e. All (IsDirect new) (map (placed new.starts) (map (named b.starts) e))) (λ e direct. list e direct) all are))
  where
    list : (e : WatchEntries) → All (IsDirect b) e → All (IsDirect new) (map (placed new.starts) (map (named b.starts) e))
    list e direct = All-map (IsDirect new) (placed new.starts) (map (named b.starts) e)
        (All-map (λ w. IsDirect new (placed new.starts w)) (named b.starts) e
        (All-weaker (IsDirect b) (λ w. IsDirect new (placed new.starts (named b.starts w))) (λ w is.
        its_start b new w long ids is) e direct))

-- So contracts see the same after the row was packed.
pub all_named : (b new : ArenaState) (all names : List WatchEntries) → new.lists ≡ b.lists → AreDirect b all → names ≡ map (map (named b.starts)) all → AreNamed new names
all_named b new all names same are is = subst (AreNamed new) (sym is) (named_all b new all (ap length same) are)

pub all_again : (b new : ArenaState) (all names now : List WatchEntries) (a : Arranged) → new.lists ≡ b.lists →
    AreIds new → AreDirect b all → names ≡ map (map (named b.starts)) all → now ≡ map (map (placed new.starts)) names →
    shown_lists b all ≡ a → AreDirect new now × (shown_lists new now ≡ a)
all_again b new all names now a same ids are names_is is view =
    let both : now ≡ map (map (placed new.starts)) (map (map (named b.starts)) all) = is ∙ ap (map (map (placed new.starts))) names_is in
    let long : length new.lists ≡ length b.lists = ap length same in
    rw both (direct_again b new all long ids are, rw (same, lists_again b new all long ids are, rows_again b new all) view)
