-- The literals of each clause in their stored order.
use Rattle.std.proofs.Common.{◌≡◌, ◌≢◌, ℕ, ◌-◌, ◌<◌, ◌≤◌, ◌⊎◌, ℤ, pos, List, [], ◌∷◌, map, length, take, slice_index_or, slice_set, refl, sym, ap, ◌∙◌, subst, arith, inl, inr}
use Rattle.std.specs.List.{swap, swap_remove}
use Rattle.std.specs.List.Sorted.{IsPermutation}
use Rattle.std.proofs.Math.Logic.{⊎_elim}
use Rattle.std.proofs.lemmas.Bool.{cases_eq, cases_lt}
use Rattle.std.proofs.lemmas.Grind.{common_steps}
use Rattle.std.proofs.lemmas.List.{map-append, map-set, get_or-map, get_or-set_same, get_or-set_other, get_or_read}
use Rattle.std.proofs.lemmas.List.Edits.{swapped_from_swap, Swapped}
use Rattle.std.proofs.lemmas.List.Sorted.{IsPermutation-refl, IsPermutation-swap}
use Rattle.cdcl_theory.specs.Codes.{code_of}
use Rattle.cdcl_theory.specs.CodeLaws.{int_eq-same, int_eq-other}
use Rattle.clause_db.specs.declared.watches.WatchedPair.{WatchedPair}
use Rattle.clause_db.specs.Watching.{Watching, watch_list_in, pair_at, pair_of, with_id, with_ids, watching_more, watching_moved, replaced}
use Rattle.clause_db.specs.WatchingLaws.{listed-other, listed_back}
use Rattle.clause_db.specs.Blockers.{row_of, with_row, with_blocker, rows_moved, other_watch}
use Rattle.clause_db.proofs.Beside.{row-other, row_back}
use Rattle.clause_db.specs.Arranging.{Arranged, block_at, watching_of, arranged_more, ArePermuted, IsNoneOf}

-- an id that was put into a list, and removed when the next push failed
pub both_back : (w a b : Arranged) (l m : ℤ) (id : ℕ) → a ≡ record w { lists = with_id w.lists l id; rows = with_blocker w.rows l m }
    → b ≡ record a {
      lists = slice_set a.lists (code_of l)
          (take (length (watch_list_in a.lists l) - 1) (watch_list_in a.lists l));
      rows =
          with_row a.rows l (take (length (row_of a.rows l) - 1) (row_of a.rows l));
    } → b ≡ w
both_back w a b l m id pushed taken =
    let lists : a.lists ≡ with_id w.lists l id = ap (λ (x : Arranged). x.lists) pushed in
    let rows : a.rows ≡ with_blocker w.rows l m = ap (λ (x : Arranged). x.rows) pushed in
    let arena : a.arena ≡ w.arena = ap (λ (x : Arranged). x.arena) pushed in
    rw (taken, lists, rows, arena) (again (listed_back w.lists l id) (row_back w.rows l m))
  where
    again : {xs : List (List ℕ)} {ys : List (List ℤ)} → xs ≡ w.lists → ys ≡ w.rows → (let x : Arranged = record { arena = w.arena; lists = xs; rows = ys } in x) ≡ w
    again e f = rw (e, f) refl

-- the watched pair of an id
pub pair_block : (a : Arranged) (id : ℕ) → pair_at (watching_of a) id ≡ pair_of (block_at a.arena id)
pair_block a id = pair_in_blocks a.arena (id - 1)
  where
    pair_in_blocks : (arena : List (List ℤ)) (k : ℕ) → slice_index_or (map pair_of arena) k (record { first = pos 1; second = pos 1 }) ≡ pair_of (slice_index_or arena k [])
    pair_in_blocks arena k = ⊎_elim
        (λ (low : k < length arena). get_or-map pair_of arena k [] (record { first = pos 1; second = pos 1 }) low)
        (λ (past : length arena ≤ k). grind (arith, common_steps))
        (cases_lt k (length arena))

-- A clause that is added watches its first two literals.
pub more_is : (a : Arranged) (lits : List ℤ) (id : ℕ) → watching_of (arranged_more a lits id) ≡ watching_more (watching_of a) lits id
more_is a lits id = ap (λ (ps : List WatchedPair). (let w : Watching = record { pairs = ps; lists = with_ids a.lists lits id } in w)) (map-append pair_of a.arena (lits ∷ []))

-- the index of a literal that isn't watched
after_watched : (lits : List ℤ) (l : ℤ) (k : ℕ) → ((d : ℤ) → slice_index_or lits k d ≡ l) → IsNoneOf (pair_of lits) l → 2 ≤ k
after_watched lits l k at other = ⊎_elim
    (λ (low : k < 2). absurd (⊎_elim
    (λ (e : k ≡ 0). other (inl (sym (at (pos 1)) ∙ ap (λ (n : ℕ). slice_index_or lits n (pos 1)) e)))
    (λ (apart : k ≡ 0 → ⊥). other (inr (sym (at (pos 1)) ∙ ap (λ (n : ℕ). slice_index_or lits n (pos 1)) (let e : k ≡ 1 = omega (arith, low, apart) in e))))
    (cases_eq k 0)))
    (λ (high : 2 ≤ k). high)
    (cases_lt k 2)

-- the index of the literal to give up, and that of its replacement
abbrev pub IsFound : List ℤ → ℤ → ℕ → Type 0
IsFound lits from low = (low ≡ 0) × ((pair_of lits).first ≡ from) ⊎ (low ≡ 1) × ((pair_of lits).first ≢ from)

pub low_high : (lits : List ℤ) (from to : ℤ) (low high : ℕ) → IsFound lits from low → ((d : ℤ) → slice_index_or lits high d ≡ to) → IsNoneOf (pair_of lits) to → low < high
low_high lits from to low high found at other =
    let following : 2 ≤ high = after_watched lits to high at other in
    ⊎_elim (λ (first : (low ≡ 0) × ((pair_of lits).first ≡ from)). omega (arith, following, first.0)) (λ (second : (low ≡ 1) × ((pair_of lits).first ≢ from)). omega (arith, following, second.0)) found

-- The replacement takes the place of the other literal.
swapped_pair : (lits : List ℤ) (from to : ℤ) (low high : ℕ) → IsFound lits from low → high < length lits →
    ((d : ℤ) → slice_index_or lits high d ≡ to) → IsNoneOf (pair_of lits) to →
    pair_of (swap lits low high) ≡ replaced (pair_of lits) from to
swapped_pair lits from to low high found inside at other =
    let following : 2 ≤ high = after_watched lits to high at other in
    let under : low < high = low_high lits from to low high found at other in
    let swapped : Swapped (λ k. slice_index_or lits k (pos 1)) (λ k. slice_index_or (swap lits low high) k (pos 1)) low
    high = swapped_from_swap lits (swap lits low high) low high (pos 1) (omega (arith, under, inside)) inside refl in
    ⊎_elim
    (λ (first : (low ≡ 0) × ((pair_of lits).first ≡ from)).
    let taken : slice_index_or (swap lits low high) 0 (pos 1) ≡ to = ap (λ (n : ℕ). slice_index_or (swap lits low high) n (pos 1)) (sym first.0) ∙ swapped.0 ∙ at (pos 1) in
    let kept : slice_index_or (swap lits low high) 1 (pos 1) ≡ slice_index_or lits 1 (pos 1) = swapped.2 1 (λ e. omega (arith, e, first.0)) (λ e. omega (arith, e, following)) in
    rw (int_eq-same (pair_of lits).first from first.1, taken, kept) refl)
    (λ (second : (low ≡ 1) × ((pair_of lits).first ≢ from)).
    let taken : slice_index_or (swap lits low high) 1 (pos 1) ≡ to = ap (λ (n : ℕ). slice_index_or (swap lits low high) n (pos 1)) (sym second.0) ∙ swapped.0 ∙ at (pos 1) in
    let kept : slice_index_or (swap lits low high) 0 (pos 1) ≡ slice_index_or lits 0 (pos 1) = swapped.2 0 (λ e. omega (arith, e, second.0)) (λ e. omega (arith, e, following)) in
    rw (int_eq-other (pair_of lits).first from second.1, taken, kept) refl)
    found

pub arranged_pairs : (arena new : List (List ℤ)) (id : ℕ) (from to : ℤ) (low high : ℕ) →
    IsFound (block_at arena id) from low → high < length (block_at arena id) →
    ((d : ℤ) → slice_index_or (block_at arena id) high d ≡ to) → IsNoneOf (pair_of (block_at arena id)) to →
    new ≡ slice_set arena (id - 1) (swap (block_at arena id) low high)
    → map pair_of new ≡ slice_set (map pair_of arena) (id - 1) (replaced (pair_of (block_at arena id)) from to)
arranged_pairs arena new id from to low high found inside at other is =
    ap (map pair_of) is ∙ map-set pair_of arena (id - 1) (swap (block_at arena id) low high)
    ∙ ap (slice_set (map pair_of arena) (id - 1))
    (swapped_pair (block_at arena id) from to low high found inside at other)

-- Only the order changes.
pub arranged_order : (arena new : List (List ℤ)) (id low high : ℕ) → id - 1 < length arena → low < high →
    high < length (block_at arena id) → new ≡ slice_set arena (id - 1) (swap (block_at arena id) low high) →
    ArePermuted arena new
arranged_order arena new id low high given under inside is = record {
  each = λ k. rw is (⊎_elim
      (λ (e : k - 1 ≡ id - 1). subst (λ (n : ℕ). IsPermutation (slice_index_or arena n []) (slice_index_or (slice_set arena (id - 1) (swap (block_at arena id) low high)) n [])) (sym e)
      (IsPermutation-swap (block_at arena id) (slice_index_or
      (slice_set arena (id - 1) (swap (block_at arena id) low high)) (id - 1) []) low high
      (omega (arith, under, inside)) inside (get_or-set_same arena (id - 1)
      (swap (block_at arena id) low high) [] given)))
      (λ (apart : k - 1 ≡ id - 1 → ⊥). subst (λ (xs : List ℤ). IsPermutation (block_at arena k) xs)
      (sym (get_or-set_other arena (id - 1) (k - 1) (swap (block_at arena id) low high) [] apart))
      (IsPermutation-refl (block_at arena k)))
      (cases_eq (k - 1) (id - 1)));
}

-- A watch is moved: its entry is pushed to one list and removed from the other, and two literals of the
-- clause are swapped. The code swaps before it removes, with the same result.
pub moved_is : (w a b c : Arranged) (from to m : ℤ) (id index low high : ℕ) →
    a ≡ record w { lists = with_id w.lists to id; rows = with_blocker w.rows to m } →
    b ≡ record a {
      lists = slice_set a.lists (code_of from) (swap_remove (watch_list_in a.lists from) index 0);
      rows = with_row a.rows from (swap_remove (row_of a.rows from) index (pos 1));
    }
    → c ≡ record b { arena = slice_set b.arena (id - 1) (swap (block_at b.arena id) low high) } → (from ≡ to → ⊥)
    → c ≡ record {
      arena = slice_set w.arena (id - 1) (swap (block_at w.arena id) low high);
      lists = slice_set (with_id w.lists to id) (code_of from) (swap_remove (watch_list_in w.lists from) index 0);
      rows = rows_moved w.rows from to index m;
    }
moved_is w a b c from to m id index low high pushed taken exchanged apart =
    let lists : a.lists ≡ with_id w.lists to id = ap (λ (x : Arranged). x.lists) pushed in
    let rows : a.rows ≡ with_blocker w.rows to m = ap (λ (x : Arranged). x.rows) pushed in
    let arena : a.arena ≡ w.arena = ap (λ (x : Arranged). x.arena) pushed in
    let list : watch_list_in (with_id w.lists to id) from ≡ watch_list_in w.lists from = listed-other w.lists to from _ apart in
    let row : row_of (with_blocker w.rows to m) from ≡ row_of w.rows from = row-other w.rows to from _ apart in
    rw (exchanged, taken, lists, rows, arena, list, row) refl

-- what the clauses then watch
pub moved_watching : (w c : Arranged) (from to : ℤ) (id index low high : ℕ) (rows : List (List ℤ)) →
    c ≡ record {
      arena = slice_set w.arena (id - 1) (swap (block_at w.arena id) low high);
      lists = slice_set (with_id w.lists to id) (code_of from) (swap_remove (watch_list_in w.lists from) index 0);
      rows =
          rows;
    }
    → IsFound (block_at w.arena id) from low → high < length (block_at w.arena id) →
    ((d : ℤ) → slice_index_or (block_at w.arena id) high d ≡ to) → IsNoneOf (pair_of (block_at w.arena id)) to →
    watching_of c ≡ watching_moved (watching_of w) id from to index
moved_watching w c from to id index low high rows is found inside at other =
    let pairs : map pair_of c.arena ≡ slice_set (map pair_of w.arena) (id - 1)
    (replaced (pair_of (block_at w.arena id)) from to) =
    arranged_pairs w.arena c.arena id from to low high found inside at other (ap (λ (x : Arranged). x.arena) is) in
    let lists : c.lists ≡ slice_set (with_id w.lists to id) (code_of from) (swap_remove (watch_list_in w.lists from) index 0) = ap (λ (x : Arranged). x.lists) is in
    rw (pairs, lists, pair_block w id) refl

-- the literal that stays watched
pub besides_is : (lits : List ℤ) (from m : ℤ) (low : ℕ) → IsFound lits from low → 2 ≤ length lits → m ≡ slice_index_or lits (1 - low) m → m ≡ other_watch (pair_of lits) from
besides_is lits from m low found two is = ⊎_elim
    (λ (first : (low ≡ 0) × ((pair_of lits).first ≡ from)).
    let at : m ≡ slice_index_or lits 1 (pos 1) = get_or_read lits 1 m (omega (arith, two)) (is ∙ ap (λ (k : ℕ). slice_index_or lits (1 - k) m) first.0) (pos 1) in
    rw (int_eq-same (pair_of lits).first from first.1) at)
    (λ (second : (low ≡ 1) × ((pair_of lits).first ≢ from)).
    let at : m ≡ slice_index_or lits 0 (pos 1) = get_or_read lits 0 m (omega (arith, two)) (is ∙ ap (λ (k : ℕ). slice_index_or lits (1 - k) m) second.0) (pos 1) in
    rw (int_eq-other (pair_of lits).first from second.1) at)
    found

-- The blocking literals of the list that the clause leaves are unchanged.
pub pushed_list : (w a : Arranged) (from to m : ℤ) (id : ℕ) →
    a ≡ record w { lists = with_id w.lists to id; rows = with_blocker w.rows to m } → (from ≡ to → ⊥) →
    watch_list_in a.lists from ≡ watch_list_in w.lists from
pushed_list w a from to m id pushed apart = ap (λ (x : Arranged). watch_list_in x.lists from) pushed ∙ listed-other w.lists to from _ apart

-- All changes when a clause watches another literal: its pair and two lists, their blocking literals, and the
-- order of its literals.
abbrev pub IsMoved : Arranged → Arranged → ℕ → ℤ → ℤ → ℕ → Type 0
IsMoved w c id from to index =
    (watching_of c ≡ watching_moved (watching_of w) id from to index)
    × (c.rows ≡ rows_moved w.rows from to index (other_watch (pair_of (block_at w.arena id)) from))
    × ArePermuted w.arena c.arena

pub all_moved : (w a b c : Arranged) (from to m : ℤ) (block : List ℤ) (id index low high : ℕ)
    → a ≡ record w { lists = with_id w.lists to id; rows = with_blocker w.rows to m }
    → b ≡ record a { lists = slice_set a.lists (code_of from) (swap_remove (watch_list_in a.lists from) index 0); rows = with_row a.rows from (swap_remove (row_of a.rows from) index (pos 1)) }
    → c ≡ record b { arena = slice_set b.arena (id - 1) (swap (block_at b.arena id) low high) } → (from ≡ to → ⊥)
    → (0 < id) × (id ≤ length w.arena) → block ≡ block_at w.arena id → IsFound block from low → high < length block → ((d : ℤ) → slice_index_or block high d ≡ to)
    → 2 ≤ length (block_at w.arena id) → m ≡ slice_index_or block (1 - low) m → IsNoneOf (pair_of (block_at w.arena id)) to → IsMoved w c id from to index
all_moved w a b c from to m block id index low high pushed taken exchanged apart given block_is found_in inside_in at_in two m_is other =
    let found : IsFound (block_at w.arena id) from low = subst (λ (xs : List ℤ). IsFound xs from low) block_is found_in in
    let inside : high < length (block_at w.arena id) = subst (λ (xs : List ℤ). high < length xs) block_is inside_in in
    let at : (d : ℤ) → slice_index_or (block_at w.arena id) high d ≡ to = subst (λ (xs : List ℤ). (d : ℤ) → slice_index_or xs high d ≡ to) block_is at_in in
    let kept : m ≡ slice_index_or (block_at w.arena id) (1 - low) m = subst (λ (xs : List ℤ). m ≡ slice_index_or xs (1 - low) m) block_is m_is in
    let is = moved_is w a b c from to m id index low high pushed taken exchanged apart in
    let arena : c.arena ≡ slice_set w.arena (id - 1) (swap (block_at w.arena id) low high) = ap (λ (x : Arranged). x.arena) is in
    let rows : c.rows ≡ rows_moved w.rows from to index m = ap (λ (x : Arranged). x.rows) is in (
      moved_watching w c from to id index low high _ is found inside at other,
      rows ∙ ap (λ (x : ℤ). rows_moved w.rows from to index x) (besides_is (block_at w.arena id) from m low found two kept),
      arranged_order w.arena c.arena id low high (omega (arith, given.0, given.1)) (low_high (block_at w.arena id) from to low high found at other) inside arena,
    )
