-- Watch lists after changes.
use Rattle.std.specs.Prelude.{◌≡◌, ◌≢◌, ℕ, ◌+◌, ◌-◌, ◌<◌, ◌≤◌, ◌⊎◌, ℤ, pos, List, [], ◌∷◌, ◌++◌, length, take, slice_index_or, slice_set, replicate, Contains, AllPairs, refl}
use Rattle.std.specs.List.{swap_remove}
use Rattle.std.proofs.Common.{sym, ap, ◌∙◌, arith, inl, inr}
use Rattle.std.proofs.Math.Logic.{⊎_elim}
use Rattle.std.proofs.lemmas.Bool.{cases_eq, cases_lt, lt-ltb, le-ltb}
use Rattle.std.proofs.lemmas.Grind.{common_steps}
use Rattle.std.proofs.lemmas.List.{get_or-set_same, get_or-set_other, length-set, set-set, set-get_or, set_past, length-take-le, get_or-take, get_or_push, get_or_append_left}
use Rattle.cdcl_theory.specs.Codes.{code_of}
use Rattle.cdcl_theory.specs.CodeLaws.{code_of-same, cases_literal}
use Rattle.clause_db.specs.Watching.{Watching, watch_list_in, list_of, pair_at, pair_of, with_id, with_ids, watching_more, watching_moved, replaced}

-- the list that was written, and the others
pub listed-same : (lists : List (List ℕ)) (l m : ℤ) (xs : List ℕ) → code_of l < length lists → m ≡ l → watch_list_in (slice_set lists (code_of l) xs) m ≡ xs
unfolding watch_list_in
listed-same lists l m xs room e = ap (λ (k : ℤ). slice_index_or (slice_set lists (code_of l) xs) (code_of k) []) e ∙ get_or-set_same lists (code_of l) xs [] room

pub listed-other : (lists : List (List ℕ)) (l m : ℤ) (xs : List ℕ) → (m ≡ l → ⊥) → watch_list_in (slice_set lists (code_of l) xs) m ≡ watch_list_in lists m
unfolding watch_list_in
listed-other lists l m xs apart = get_or-set_other lists (code_of l) (code_of m) xs [] (λ e. apart (code_of-same m l e))

pub listed_whole : (lists : List (List ℕ)) (l : ℤ) → slice_set lists (code_of l) (watch_list_in lists l) ≡ lists
unfolding watch_list_in
listed_whole lists l = set-get_or lists (code_of l) []

-- an id that is appended to a list and then removed
pub listed_back : (lists : List (List ℕ)) (l : ℤ) (id : ℕ) →
    slice_set (with_id lists l id) (code_of l) (take (length (watch_list_in (with_id lists l id) l) - 1)
    (watch_list_in (with_id lists l id) l)) ≡ lists
listed_back lists l id = ⊎_elim
    (λ (room : code_of l < length lists).
    let is : watch_list_in (with_id lists l id) l ≡ watch_list_in lists l ++ id ∷ [] = listed-same lists l l (watch_list_in lists l ++ id ∷ []) room refl in
    let front : take (length (watch_list_in (with_id lists l id) l) - 1) (watch_list_in (with_id lists l id) l) ≡ watch_list_in lists l = rw is (grind (arith, common_steps)) in
    ap (λ (xs : List ℕ). slice_set (with_id lists l id) (code_of l) xs) front ∙ set-set lists (code_of l) (watch_list_in lists l ++ id ∷ []) (watch_list_in lists l) ∙ listed_whole lists l)
    (λ (past : length lists ≤ code_of l).
    ap (λ (xs : List (List ℕ)). slice_set xs (code_of l) (take (length (watch_list_in xs l) - 1) (watch_list_in xs l)))
    (set_past lists (code_of l) (watch_list_in lists l ++ id ∷ []) past) ∙ set_past lists (code_of l) _ past)
    (cases_lt (code_of l) (length lists))

-- in a list of different numbers, the last one takes the place of another: they still differ
differ_at : (xs : List ℕ) (i j d e : ℕ) → AllPairs (λ a b. a ≢ b) xs → i < length xs → j < length xs → (i ≡ j → ⊥) → slice_index_or xs i d ≡ slice_index_or xs j e → ⊥
differ_at xs i j d e once low_i low_j apart same =
    let at_i : slice_index_or xs i d ≡ slice_index_or xs i e = grind (arith, common_steps) in
    ⊎_elim
    (λ (less : i < j). once i j e less low_j (sym at_i ∙ same))
    (λ (more : j ≤ i). once j i e (omega (arith, more, apart)) low_i (sym same ∙ at_i))
    (cases_lt i j)

pub swap_length : {A : Type 0} (xs : List A) (i : ℕ) (d : A) → i < length xs → length (swap_remove xs i d) ≡ length xs - 1
swap_length xs i d low = length-take-le (length xs - 1) (slice_set xs i (slice_index_or xs (length xs - 1) d)) (rw length-set (omega arith))

pub swap_at : {A : Type 0} (xs : List A) (i : ℕ) (d : A) (k : ℕ) (e : A) → i < length xs → k < length xs - 1 → k ≡ i → slice_index_or (swap_remove xs i d) k e ≡ slice_index_or xs (length xs - 1) d
swap_at xs i d k e low inside same =
    get_or-take (length xs - 1) (slice_set xs i (slice_index_or xs (length xs - 1) d)) k e inside
    ∙ ap (λ (j : ℕ). slice_index_or (slice_set xs i (slice_index_or xs (length xs - 1) d)) j e) same
    ∙ get_or-set_same xs i (slice_index_or xs (length xs - 1) d) e low

pub swap_other : {A : Type 0} (xs : List A) (i : ℕ) (d : A) (k : ℕ) (e : A) → k < length xs - 1 → (k ≡ i → ⊥) → slice_index_or (swap_remove xs i d) k e ≡ slice_index_or xs k e
swap_other xs i d k e inside apart = get_or-take (length xs - 1) (slice_set xs i (slice_index_or xs (length xs - 1) d))
    k e inside ∙ get_or-set_other xs i k (slice_index_or xs (length xs - 1) d) e apart

pub swap_keeps : (xs : List ℕ) (i d y : ℕ) → i < length xs → (y ≡ slice_index_or xs i d → ⊥) → Contains xs y → Contains (swap_remove xs i d) y
swap_keeps xs i d y low apart (k, within, at) =
    let not_i : k ≡ i → ⊥ = λ e. apart (sym at ∙ ap (λ (j : ℕ). slice_index_or xs j y) e ∙ grind (arith, common_steps)) in
    ⊎_elim
    (λ (less : k < length xs - 1). (k, rw (swap_length xs i d low) less, swap_other xs i d k y less not_i ∙ at))
    (λ (last : length xs - 1 ≤ k).
    let e : length xs - 1 ≡ k = omega (arith, last, within) in
    let under : i < length xs - 1 = omega (arith, e, low, not_i) in (
      i,
      rw (swap_length xs i d low) under,
      swap_at xs i d i y low under refl ∙ ap (λ (j : ℕ). slice_index_or xs j d) e
          ∙ (let same : slice_index_or xs k d ≡ slice_index_or xs k y = grind (arith, common_steps) in same) ∙ at,
    ))
    (cases_lt k (length xs - 1))

pub swap_only : (xs : List ℕ) (i d y : ℕ) → i < length xs → AllPairs (λ a b. a ≢ b) xs → Contains (swap_remove xs i d) y → Contains xs y × (y ≡ slice_index_or xs i d → ⊥)
swap_only xs i d y low once (k, within, at) =
    let less : k < length xs - 1 = rw (swap_length xs i d low) at within in
    ⊎_elim
    (λ (e : k ≡ i).
    let is : slice_index_or xs (length xs - 1) d ≡ y = sym (swap_at xs i d k y low less e) ∙ at in (
      (
        length xs - 1,
        omega (arith, less),
        (let same : slice_index_or xs (length xs - 1) y ≡
            slice_index_or xs (length xs - 1) d = grind (arith, common_steps) in same) ∙ is,
      ),
      λ same.
          differ_at xs (length xs - 1) i d d once (omega (arith, less)) low (λ h. omega (arith, h, less, e)) (is ∙ same),
    ))
    (λ (apart : k ≡ i → ⊥).
    let is : slice_index_or xs k y ≡ y = sym (swap_other xs i d k y less apart) ∙ at in
    ((k, omega (arith, less), is), λ same. differ_at xs k i y d once (omega (arith, less)) low apart (is ∙ same)))
    (cases_eq k i)

pub swap_once : (xs : List ℕ) (i d : ℕ) → i < length xs → AllPairs (λ a b. a ≢ b) xs → AllPairs (λ a b. a ≢ b) (swap_remove xs i d)
swap_once xs i d low once a b e order within same =
    let less : b < length xs - 1 = rw (swap_length xs i d low) at within in
    ⊎_elim
    (λ (at_i : a ≡ i). differ_at xs (length xs - 1) b d e once (omega (arith, less)) (omega (arith, less))
    (λ h. omega (arith, h, less)) (sym (swap_at xs i d a e low (omega (arith, order, less)) at_i) ∙ same
    ∙ swap_other xs i d b e less (λ h. omega (arith, h, at_i, order))))
    (λ (apart : a ≡ i → ⊥). ⊎_elim
    (λ (at_i : b ≡ i). differ_at xs a (length xs - 1) e d once (omega (arith, order, less)) (omega (arith, less))
    (λ h. omega (arith, h, order, less)) (sym (swap_other xs i d a e (omega (arith, order, less)) apart) ∙ same
    ∙ swap_at xs i d b e low less at_i))
    (λ (other : b ≡ i → ⊥). differ_at xs a b e e once (omega (arith, order, less)) (omega (arith, less))
    (λ h. omega (arith, h, order)) (sym (swap_other xs i d a e (omega (arith, order, less)) apart) ∙ same
    ∙ swap_other xs i d b e less other))
    (cases_eq b i))
    (cases_eq a i)

-- the pair of an id after another one was added, and after one was replaced
pub pair_new : (w : Watching) (lits : List ℤ) (id : ℕ) → length w.pairs + 1 ≡ id → pair_at (watching_more w lits id) id ≡ pair_of lits
pair_new w lits id is = get_or_push w.pairs (pair_of lits) (record { first = pos 1; second = pos 1 }) (id - 1) (omega (arith, is))

pub pair_old : (w : Watching) (lits : List ℤ) (id k : ℕ) → 0 < k → k ≤ length w.pairs → pair_at (watching_more w lits id) k ≡ pair_at w k
pair_old w lits id k some low = get_or_append_left w.pairs (pair_of lits ∷ []) (record { first = pos 1; second = pos 1 }) (k - 1) (omega (arith, some, low))

pub pair_moved : (w : Watching) (id : ℕ) (from to : ℤ) (index : ℕ) → 0 < id → id ≤ length w.pairs → pair_at (watching_moved w id from to index) id ≡ replaced (pair_at w id) from to
pair_moved w id from to index some low = get_or-set_same w.pairs (id - 1) (replaced (pair_at w id) from to) (record { first = pos 1; second = pos 1 }) (omega (arith, some, low))

pub pair_kept : (w : Watching) (id : ℕ) (from to : ℤ) (index k : ℕ) → 0 < id → 0 < k → (k ≡ id → ⊥) → pair_at (watching_moved w id from to index) k ≡ pair_at w k
pair_kept w id from to index k some some_k apart =
    get_or-set_other w.pairs (id - 1) (k - 1) (replaced (pair_at w id) from to) (record {
      first = pos 1;
      second = pos 1;
    }) (λ e. apart (omega (arith, e, some, some_k)))

-- the lists after a clause was added
pub lists_more : (w : Watching) (lits : List ℤ) (id : ℕ) (l : ℤ) → code_of (pair_of lits).first < length w.lists →
    code_of (pair_of lits).second < length w.lists → ((pair_of lits).first ≡ (pair_of lits).second → ⊥)
    → ((2 ≤ length lits) × ((l ≡ (pair_of lits).first) ⊎ (l ≡ (pair_of lits).second)) ×
    (list_of (watching_more w lits id) l ≡ list_of w l ++ id ∷ [])) ⊎
    (((2 ≤ length lits → (l ≡ (pair_of lits).first) ⊎ (l ≡ (pair_of lits).second) → ⊥)) ×
    (list_of (watching_more w lits id) l ≡ list_of w l))
lists_more w lits id l room_a room_b differ =
    ⊎_elim
    (λ (short : length lits < 2). inr (λ long h. omega (arith, long, short), rw (lt-ltb (length lits) 2 short) refl))
    (λ (long : 2 ≤ length lits).
    let a : ℤ = (pair_of lits).first in
    let b : ℤ = (pair_of lits).second in
    let both : with_ids w.lists lits id ≡ with_id (with_id w.lists a id) b id = rw (le-ltb (length lits) 2 long) refl in
    let room : code_of b < length (with_id w.lists a id) = rw length-set room_b in
    ⊎_elim
    (λ (is : l ≡ b). inl (
      long,
      inr is,
      ap (λ (xs : List (List ℕ)). watch_list_in xs l) both ∙ listed-same (with_id w.lists a id) b l _ room is
          ∙ ap (λ (xs : List ℕ). xs ++ id ∷ []) (listed-other w.lists a b _ (λ e. differ (sym e)) ∙ ap (watch_list_in w.lists) (sym is)),
    ))
    (λ (not_b : l ≡ b → ⊥). ⊎_elim
    (λ (is : l ≡ a). inl (
      long,
      inl is,
      ap (λ (xs : List (List ℕ)). watch_list_in xs l) both
          ∙ listed-other (with_id w.lists a id) b l _ not_b ∙ listed-same w.lists a l _ room_a is
          ∙ ap (λ (m : ℤ). watch_list_in w.lists m ++ id ∷ []) (sym is),
    ))
    (λ (not_a : l ≡ a → ⊥). inr (
      λ _ h. ⊎_elim not_a not_b h,
      ap (λ (xs : List (List ℕ)). watch_list_in xs l) both
          ∙ listed-other (with_id w.lists a id) b l _ not_b ∙ listed-other w.lists a l _ not_a,
    ))
    (cases_literal l a))
    (cases_literal l b))
    (cases_lt (length lits) 2)

pub short_lists : (w : Watching) (lits : List ℤ) (id : ℕ) (l : ℤ) → length lits < 2 → list_of (watching_more w lits id) l ≡ list_of w l
short_lists w lits id l short = rw (lt-ltb (length lits) 2 short) refl

pub with_ids_room : (w : Watching) (lits : List ℤ) (id : ℕ) → length (with_ids w.lists lits id) ≡ length w.lists
with_ids_room w lits id = ⊎_elim
    (λ (short : length lits < 2). rw (lt-ltb (length lits) 2 short) refl)
    (λ (long : 2 ≤ length lits). rw (le-ltb (length lits) 2 long) (length-set (with_id w.lists (pair_of lits).first id)
    (code_of (pair_of lits).second) _ ∙ length-set w.lists (code_of (pair_of lits).first) _))
    (cases_lt (length lits) 2)

pub listed_none : (n : ℕ) (l : ℤ) → watch_list_in (replicate n []) l ≡ []
unfolding watch_list_in
listed_none n l = ⊎_elim (λ (within : code_of l < n). grind (arith, common_steps)) (λ (past : n ≤ code_of l). grind (arith, common_steps)) (cases_lt (code_of l) n)

-- the lists after a watch was moved
pub list_from : (w : Watching) (id : ℕ) (from to : ℤ) (index : ℕ) (l : ℤ) → code_of from < length w.lists → l ≡ from →
    list_of (watching_moved w id from to index) l ≡ swap_remove (list_of w from) index 0
list_from w id from to index l room is = listed-same (with_id w.lists to id) from l _ (rw length-set room) is

pub list_to : (w : Watching) (id : ℕ) (from to : ℤ) (index : ℕ) (l : ℤ) → code_of to < length w.lists →
    (l ≡ from → ⊥) → l ≡ to → list_of (watching_moved w id from to index) l ≡ list_of w to ++ id ∷ []
list_to w id from to index l room apart is = listed-other (with_id w.lists to id) from l _ apart ∙ listed-same w.lists to l _ room is

pub list_else : (w : Watching) (id : ℕ) (from to : ℤ) (index : ℕ) (l : ℤ) → (l ≡ from → ⊥) → (l ≡ to → ⊥) → list_of (watching_moved w id from to index) l ≡ list_of w l
list_else w id from to index l apart other = listed-other (with_id w.lists to id) from l _ apart ∙ listed-other w.lists to l _ other
