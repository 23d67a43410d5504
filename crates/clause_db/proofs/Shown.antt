-- The clauses that blocks show: of each id that is live, the literals in the order of their codes.
use Rattle.std.proofs.Common.{◌≡◌, ℕ, zero, suc, ◌+◌, ◌-◌, ◌<◌, ◌≤◌, ◌==◌, ◌↔◌, ℤ, Bool, true, false, if◌then◌else◌, List, []}
use Rattle.std.proofs.Common.{◌∷◌, ◌++◌, map, length, slice_get, slice_index_or, slice_set, Option, Some, None, IsSome, IsTrue, refl, sym, ap, ◌∙◌, subst, arith}
use Rattle.std.specs.Option.{option_flatten}
use Rattle.std.specs.List.Sorted.{IsPermutation}
use Rattle.std.proofs.lemmas.Bool.{ne_eqb}
use Rattle.std.proofs.lemmas.List.{length-map, length-set, get_or_read}
use Rattle.std.proofs.lemmas.Grind.{common_steps}
use Rattle.std.proofs.lemmas.List.Sorted.{IsPermutation-sym}
use Rattle.clause_db.specs.Watching.{Watching, pair_of, watching_more, watching_moved}
use Rattle.clause_db.specs.Sorted.{sorted}
use Rattle.clause_db.specs.SortedLaws.{sorted_permutes, sorted_same}
use Rattle.clause_db.specs.Stored.{Stored, live_at, live_in, added, rewatched}
use Rattle.clause_db.specs.StoredLaws.{live_inside}
use Rattle.clause_db.specs.Arranging.{Arranged, block_at, clauses_of, shown, watching_of, arranged_more, ArePermuted}
use Rattle.clause_db.proofs.Arranging.{more_is}

pub clauses_none : (arena : List (List ℤ)) → clauses_of [] arena ≡ []
unfolding clauses_of
clauses_none arena = refl

pub clauses_long : (live : List Bool) (arena : List (List ℤ)) → length live ≡ length arena → length (clauses_of live arena) ≡ length live
unfolding clauses_of
clauses_long [] arena same = refl
clauses_long (l ∷ ls) [] same = absurd (omega (arith, same))
clauses_long (l ∷ ls) (b ∷ bs) same = let tail : length (clauses_of ls bs) ≡ length ls = clauses_long ls bs (omega (arith, same)) in ap (λ (n : ℕ). suc n) tail

-- one clause more
clauses_push : (live : List Bool) (arena : List (List ℤ)) (lits : List ℤ) → length live ≡ length arena →
    clauses_of (live ++ true ∷ []) (arena ++ lits ∷ []) ≡ clauses_of live arena ++ Some (sorted lits) ∷ []
unfolding clauses_of
clauses_push [] [] lits same = refl
clauses_push [] (b ∷ bs) lits same = absurd (omega (arith, same))
clauses_push (l ∷ ls) [] lits same = absurd (omega (arith, same))
clauses_push (l ∷ ls) (b ∷ bs) lits same = ap (λ (cs : List (Option (List ℤ))). (if l then Some (sorted b) else None) ∷ cs) (clauses_push ls bs lits (omega (arith, same)))

-- one clause less
pub clauses_set : (live : List Bool) (arena : List (List ℤ)) (k : ℕ) → clauses_of (slice_set live k false) (slice_set arena k []) ≡ slice_set (clauses_of live arena) k None
unfolding clauses_of
clauses_set [] arena k = refl
clauses_set (l ∷ ls) [] zero = refl
clauses_set (l ∷ ls) [] (suc k) = refl
clauses_set (l ∷ ls) (b ∷ bs) zero = refl
clauses_set (l ∷ ls) (b ∷ bs) (suc k) = ap (λ (cs : List (Option (List ℤ))). (if l then Some (sorted b) else None) ∷ cs) (clauses_set ls bs k)

-- The order of the literals doesn't show.
clauses_same : (live : List Bool) (arena new : List (List ℤ)) → length arena ≡ length new →
    ((k : ℕ) → IsPermutation (slice_index_or arena k []) (slice_index_or new k [])) →
    clauses_of live arena ≡ clauses_of live new
unfolding clauses_of
clauses_same [] arena new same each = refl
clauses_same (l ∷ ls) [] [] same each = refl
clauses_same (l ∷ ls) [] (n ∷ ns) same each = absurd (omega (arith, same))
clauses_same (l ∷ ls) (b ∷ bs) [] same each = absurd (omega (arith, same))
clauses_same (l ∷ ls) (b ∷ bs) (n ∷ ns) same each =
    let head : sorted b ≡ sorted n = sorted_same b n (each 0) in
    ap (λ (x : List ℤ). (if l then Some x else None) ∷ clauses_of ls bs) head
    ∙ ap (λ (cs : List (Option (List ℤ))). (if l then Some (sorted n) else None) ∷ cs)
    (clauses_same ls bs ns (omega (arith, same)) (λ k. each (suc k)))

pub clauses_permuted : (live : List Bool) (arena new : List (List ℤ)) → length arena ≡ length new → ArePermuted arena new → clauses_of live arena ≡ clauses_of live new
clauses_permuted live arena new same order = clauses_same live arena new same each
  where
    each : (k : ℕ) → IsPermutation (slice_index_or arena k []) (slice_index_or new k [])
    each k = (let index : suc k - 1 ≡ k = omega arith in subst (λ (n : ℕ). IsPermutation (slice_index_or arena n []) (slice_index_or new n [])) index (order.each (suc k)))

-- the entry at an index
entry_of : (live : List Bool) (arena : List (List ℤ)) (k : ℕ) → length live ≡ length arena
    → option_flatten (slice_get (clauses_of live arena) k) ≡ (if slice_index_or live k false then Some (sorted (slice_index_or arena k [])) else None)
unfolding clauses_of
entry_of [] [] zero same = refl
entry_of [] [] (suc k) same = refl
entry_of [] (b ∷ bs) k same = absurd (omega (arith, same))
entry_of (l ∷ ls) [] k same = absurd (omega (arith, same))
entry_of (l ∷ ls) (b ∷ bs) zero same = refl
entry_of (l ∷ ls) (b ∷ bs) (suc k) same = entry_of ls bs k (omega (arith, same))

live_given : (live : List Bool) (arena : List (List ℤ)) (id : ℕ) → length live ≡ length arena → 0 < id →
    live_at (clauses_of live arena) id ≡ (if slice_index_or live (id - 1) false then Some
    (sorted (block_at arena id)) else None)
live_given live arena id same some = let test : (id == 0) ≡ false = ne_eqb id 0 (λ e. omega (arith, some, e)) in rw test (entry_of live arena (id - 1) same)

chosen_is : (b : Bool) (block clause : List ℤ) → (if b then Some (sorted block) else None) ≡ Some clause → sorted block ≡ clause
chosen_is true block clause is = cc
chosen_is false block clause is = absurd (cc)

-- The clause of a live id is its literals in the order of their codes,
pub live_sorted : (live : List Bool) (arena : List (List ℤ)) (id : ℕ) (clause : List ℤ) → length live ≡ length arena →
    live_at (clauses_of live arena) id ≡ Some clause → sorted (block_at arena id) ≡ clause
live_sorted live arena zero clause same is = absurd (cc)
live_sorted live arena (suc k) clause same is =
    chosen_is (slice_index_or live (suc k - 1) false) (block_at arena (suc k)) clause (sym (live_given live arena (suc k) same (omega arith)) ∙ is)

-- so these are the clause in some order.
pub live_permuted : (live : List Bool) (arena : List (List ℤ)) (id : ℕ) (clause : List ℤ) →
    length live ≡ length arena → live_at (clauses_of live arena) id ≡ Some clause →
    IsPermutation clause (block_at arena id)
live_permuted live arena id clause same is =
    let block : List ℤ = block_at arena id in
    subst (λ (c : List ℤ). IsPermutation c block) (live_sorted live arena id clause same is) (IsPermutation-sym block (sorted block) (sorted_permutes block))

-- Whether an id is live is its mark.
chosen_some : (b : Bool) (clause : List ℤ) → IsTrue b ↔ IsSome (if b then Some clause else None)
chosen_some true clause = ((λ _. refl), (λ _. refl))
chosen_some false clause = ((λ h. absurd (cc)), (λ h. absurd (cc)))

pub live_marked : (live : List Bool) (arena : List (List ℤ)) (id : ℕ) → length live ≡ length arena → 0 < id → IsTrue (slice_index_or live (id - 1) false) ↔ IsSome (live_at (clauses_of live arena) id)
live_marked live arena id same some = rw (live_given live arena id same some) (chosen_some (slice_index_or live (id - 1) false) (sorted (block_at arena id)))

-- what contracts see where a clause was added
pub shown_added : (vars : ℕ) (live : List Bool) (a : Arranged) (lits : List ℤ) (id : ℕ) →
    length live ≡ length a.arena → id ≡ length live + 1 → shown vars (live ++ true ∷ []) (arranged_more a lits id) ≡
    added (shown vars live a) lits
shown_added vars live a lits id same id_is =
    let count : length (clauses_of live a.arena) ≡ length live = clauses_long live a.arena same in
    let watches : watching_of (arranged_more a lits id) ≡ watching_more (watching_of a) lits (length (clauses_of live a.arena) + 1) =
    more_is a lits id ∙ ap (watching_more (watching_of a) lits) (id_is ∙ ap (λ (n : ℕ). n + 1) (sym count)) in
    ap (λ (cs : List (Option (List ℤ))). (let s : Stored = record { vars = vars; clauses = cs; watches = watching_of (arranged_more a lits id) } in s)) (clauses_push live a.arena lits same)
    ∙ ap (λ (w : Watching). (let s : Stored = record { vars = vars; clauses = clauses_of live a.arena ++ Some (sorted lits) ∷ []; watches = w } in s)) watches

-- and where a clause watches another literal
pub moved_long : (a new : Arranged) (id : ℕ) (from to : ℤ) (index : ℕ) → watching_of new ≡ watching_moved (watching_of a) id from to index → length a.arena ≡ length new.arena
moved_long a new id from to index is =
    sym (length-map a.arena pair_of) ∙ sym (length-set (map pair_of a.arena) (id - 1) _) ∙ sym (ap (λ (w : Watching). length w.pairs) is) ∙ length-map new.arena pair_of

pub shown_moved : (vars : ℕ) (live : List Bool) (a new : Arranged) (id : ℕ) (from to : ℤ) (index : ℕ) → watching_of new ≡ watching_moved (watching_of a) id from to index
    → ArePermuted a.arena new.arena → shown vars live new ≡ rewatched (shown vars live a) id from to index
shown_moved vars live a new id from to index is order =
    ap (λ (cs : List (Option (List ℤ))). (let s : Stored = record {
      vars = vars;
      clauses = cs;
      watches = watching_of new;
    } in s)) (sym (clauses_permuted live a.arena new.arena
    (moved_long a new id from to index is) order))
    ∙ ap (λ (w : Watching). (let s : Stored = record { vars = vars; clauses = clauses_of live a.arena; watches = w } in s)) is

-- whether an id is live, as the code reads it
pub live_read : (vars : ℕ) (live : List Bool) (a : Arranged) (now : Stored) (id : ℕ) (mark : Bool) → shown vars live a ≡ now → length live ≡ length a.arena → 0 < id
    → id - 1 < length live → mark ≡ slice_index_or live (id - 1) mark → IsTrue mark ↔ IsSome (live_in now id)
live_read vars live a now id mark view same some low is =
    let mark_is : mark ≡ slice_index_or live (id - 1) false = get_or_read live (id - 1) mark low is false in
    subst (λ (s : Stored). IsTrue mark ↔ IsSome (live_in s id)) view (subst (λ (b : Bool). IsTrue b ↔ IsSome (live_in (shown vars live a) id)) (sym mark_is) (live_marked live a.arena id same some))

pub live_beyond : (vars : ℕ) (live : List Bool) (a : Arranged) (now : Stored) (id : ℕ) → shown vars live a ≡ now →
    length live ≡ length a.arena → 0 < id → length live ≤ id - 1 → IsTrue false ↔ IsSome (live_in now id)
live_beyond vars live a now id view same some past =
    let none : slice_index_or live (id - 1) false ≡ false = grind (arith, common_steps, past) in
    subst (λ (s : Stored). IsTrue false ↔ IsSome (live_in s id)) view (subst (λ (b : Bool). IsTrue b ↔ IsSome (live_in (shown vars live a) id)) none (live_marked live a.arena id same some))

-- The id of a live clause has a mark.
pub live_room : (vars : ℕ) (live : List Bool) (a : Arranged) (now : Stored) (id : ℕ) (clause : List ℤ) →
    shown vars live a ≡ now → length live ≡ length a.arena → live_in now id ≡ Some clause → id - 1 < length live
live_room vars live a now id clause view same is =
    let low : (0 < id) × (id ≤ length (clauses_of live a.arena)) = live_inside (shown vars live a) id clause (subst (λ (s : Stored). live_in s id ≡ Some clause) (sym view) is) in
    let long : length (clauses_of live a.arena) ≡ length live = clauses_long live a.arena same in
    omega (arith, low.0, low.1, long)
