-- Lists in one row of literals, by where they begin: the id and the length of each are before it.
use Rattle.std.proofs.Common.{◌≡◌, ℕ, zero, suc, ◌+◌, ◌-◌, ◌<◌, ◌≤◌, ℤ, pos, List, [], ◌∷◌, ◌++◌, length, slice_index_or, slice_set, refl, ap, ◌∙◌, sym, subst, arith, take, append_assoc}
use Rattle.std.specs.List.{slice_range, swap}
use Rattle.std.proofs.Math.Logic.{⊎_elim}
use Rattle.std.proofs.lemmas.Bool.{cases_eq, cases_lt}
use Rattle.std.proofs.lemmas.List.{length-map, length-append, map-append, take-map, get_or-take, get_or_append_left, get_or_at, get_or-map, get_or_default, length-take-le}
use Rattle.std.proofs.lemmas.List.Edits.{length-swap, swapped_from_swap, Swapped}
use Rattle.sat_theory.specs.Formula.{variable}
use Rattle.clause_db.specs.ArenaRanges.{ArenaState, Range, count_at, number_at, range_at, ranges_of, list_in, lists_in, id_in, IsStart, KeepsIds, AreRanges, AreNumbered, AreLaid}
use Rattle.clause_db.specs.Arranging.{block_at}
use Rattle.clause_db.proofs.Ids.{id_front, id_cut, id_found}
use Rattle.clause_db.proofs.Ranges.{range_long, lists_swapped, lists_written, ranges_written, ranges_added, lists_added, ranges_cut, lists_cut}

-- what contracts see of blocks
abbrev pub shown : List ℤ → List ℕ → ArenaState
shown row starts = record { lists = lists_in row (ranges_of row starts); starts = starts }

-- the start at an index
abbrev pub start_at : List ℕ → ℕ → ℕ
start_at starts k = slice_index_or starts k 0

pub range_of : (row : List ℤ) (starts : List ℕ) (k : ℕ) (d : Range) → k < length starts → slice_index_or (ranges_of row starts) k d ≡ range_at row (start_at starts k)
range_of row starts k d low = get_or-map (range_at row) starts k 0 d low

pub room_of : (row : List ℤ) (starts : List ℕ) → length (ranges_of row starts) ≡ length starts
room_of row starts = length-map starts (range_at row)

-- What is before a list lies in the row, and after the lists before it.
pub headed_at : (row : List ℤ) (starts : List ℕ) (k : ℕ) → AreRanges row (ranges_of row starts) → k < length starts → 1 < start_at starts k
headed_at row starts k are low = subst (λ (r : Range). 1 < r.start) (range_of row starts k (range_at row 0) low) (are.headed k (range_at row 0) (rw (room_of row starts) low))

pub inside_at : (row : List ℤ) (starts : List ℕ) (k : ℕ) → AreRanges row (ranges_of row starts) → k < length starts → start_at starts k + count_at row (start_at starts k) ≤ length row
inside_at row starts k are low = (subst (λ (r : Range). (r.start ≤ r.end) ×
    (r.end ≤ length row)) (range_of row starts k (range_at row 0) low)
    (are.inside k (range_at row 0) (rw (room_of row starts) low))).1

pub after_at : (row : List ℤ) (starts : List ℕ) (i k : ℕ) → AreRanges row (ranges_of row starts) → i < k →
    k < length starts → start_at starts i + count_at row (start_at starts i) + 1 < start_at starts k
after_at row starts i k are order low =
    let d : Range = range_at row 0 in
    let early : i < length starts = omega (arith, order, low) in
    let late : k < length (ranges_of row starts) = rw (room_of row starts) low in
    rw (range_of row starts i d early, range_of row starts k d low) at (are.following i k d order late)

-- There are fewer lists than entries of the row.
start_least : (row : List ℤ) (starts : List ℕ) (k : ℕ) → AreRanges row (ranges_of row starts) → k < length starts → k + 1 < start_at starts k
start_least row starts zero are low = headed_at row starts 0 are low
start_least row starts (suc k) are low =
    let before : k + 1 < start_at starts k = start_least row starts k are (omega (arith, low)) in
    let following : start_at starts k + count_at row (start_at starts k) + 1 < start_at starts (suc k) = after_at row starts k (suc k) are (omega arith) low in
    omega (arith, before, following)

pub starts_few : (row : List ℤ) (starts : List ℕ) → AreRanges row (ranges_of row starts) → length starts ≤ length row
starts_few row starts are = ⊎_elim
    (λ (some : 0 < length starts).
    let low : length starts - 1 < length starts = omega (arith, some) in
    let least : length starts - 1 + 1 < start_at starts (length starts - 1) = start_least row starts (length starts - 1) are low in
    let end : start_at starts (length starts - 1) + count_at row (start_at starts (length starts - 1)) ≤ length row = inside_at row starts (length starts - 1) are low in
    omega (arith, some, least, end))
    (λ (none : length starts ≤ 0). omega (arith, none))
    (cases_lt 0 (length starts))

-- Two rows that agree on the two entries before each list have the same ranges and ids.
abbrev AgreeBefore : List ℤ → List ℤ → List ℕ → Type 0
AgreeBefore row new starts = (k j : ℕ) → k < length starts → 0 < j → j ≤ 2 → slice_index_or new (start_at starts k - j) (pos 1) ≡ slice_index_or row (start_at starts k - j) (pos 1)

abbrev headed_range : ℕ → ℤ → Range
headed_range s head = record { start = s; end = s + (variable head - 1) }

ranges_same : (row new : List ℤ) (starts : List ℕ) → AgreeBefore row new starts → ranges_of new starts ≡ ranges_of row starts
ranges_same row new [] same = refl
ranges_same row new (s ∷ rest) same =
    let head : range_at new s ≡ range_at row s = ap (headed_range s) (same 0 1 (omega arith) (omega arith) (omega arith)) in
    let tail : ranges_of new rest ≡ ranges_of row rest = ranges_same row new rest (λ k j low. same (suc k) j (omega arith)) in
    ap (λ (r : Range). r ∷ ranges_of new rest) head ∙ ap (λ (rs : List Range). range_at row s ∷ rs) tail

numbers_same : (row new : List ℤ) (starts : List ℕ) → AgreeBefore row new starts → AreNumbered row starts → AreNumbered new starts
numbers_same row new starts same are k low = ap (λ (l : ℤ). variable l - 1) (same k 2 low (omega arith) (omega arith)) ∙ are k low

-- More literals are appended to the row.
agree_written : (row new more : List ℤ) (starts : List ℕ) → new ≡ row ++ more → AreRanges row (ranges_of row starts) → AgreeBefore row new starts
agree_written row new more starts is are k j low some few =
    let head : 1 < start_at starts k = headed_at row starts k are low in
    let end : start_at starts k + count_at row (start_at starts k) ≤ length row = inside_at row starts k are low in
    rw is (get_or_append_left row more (pos 1) (start_at starts k - j) (omega (arith, head, end, some, few)))

pub starts_written : (row new more : List ℤ) (starts : List ℕ) → new ≡ row ++ more → AreRanges row (ranges_of row starts) → ranges_of new starts ≡ ranges_of row starts
starts_written row new more starts is are = ranges_same row new starts (agree_written row new more starts is are)

pub shown_written : (b : ArenaState) (row new more : List ℤ) (starts same : List ℕ) → new ≡ row ++ more →
    same ≡ starts → AreRanges row (ranges_of row starts) → shown row starts ≡ b → shown new same ≡ b
shown_written b row new more starts same is kept are view =
    let lists : lists_in new (ranges_of new starts) ≡ lists_in row (ranges_of row starts) =
    ap (lists_in new) (starts_written row new more starts is are)
    ∙ lists_written row new more (ranges_of row starts) is are in
    ap (shown new) kept ∙ ap (λ (ls : List (List ℤ)). shown_of ls starts) lists ∙ view
  where
    shown_of : List (List ℤ) → List ℕ → ArenaState
    shown_of ls ss = record { lists = ls; starts = ss }

pub are_written : (row new more : List ℤ) (starts same : List ℕ) → new ≡ row ++ more → same ≡ starts → AreLaid row starts → AreLaid new same
are_written row new more starts same is kept laid = rw kept (
  subst (AreRanges new) (sym (starts_written row new more starts is laid.0)) (ranges_written row new more (ranges_of row starts) is laid.0),
  numbers_same row new starts (agree_written row new more starts is laid.0) laid.1,
)

-- what is written one after the other
pub written_twice : (row headed new more lits : List ℤ) → headed ≡ row ++ more → new ≡ headed ++ lits → new ≡ row ++ (more ++ lits)
written_twice row headed new more lits first is = is ∙ ap (λ (xs : List ℤ). xs ++ lits) first ∙ append_assoc row more lits

-- A list is appended to the row, with its id and its length before it.
heads_long : (row : List ℤ) (id head : ℤ) → length (row ++ id ∷ head ∷ []) ≡ length row + 2
heads_long row id head = length-append row (id ∷ head ∷ [])

added_range : (row new lits : List ℤ) (id head : ℤ) (s : ℕ) → new ≡ (row ++ id ∷ head ∷ []) ++ lits → variable head ≡ length lits + 1 → s ≡ length row + 2 → count_at new s ≡ length lits
added_range row new lits id head s is count at =
    let here : s - 1 ≡ length row + 1 = omega (arith, at) in
    let long : length (row ++ id ∷ []) ≡ length row + 1 = length-append row (id ∷ []) in
    let last : slice_index_or (row ++ id ∷ head ∷ []) (length row + 1) (pos 1) ≡ head =
    ap (λ (xs : List ℤ). slice_index_or xs (length row + 1) (pos 1)) (sym (append_assoc row (id ∷ []) (head ∷ [])))
    ∙ get_or_at (row ++ id ∷ []) head [] (pos 1) (length row + 1) long in
    let read : slice_index_or new (s - 1) (pos 1) ≡ head = rw (is, here) (get_or_append_left (row ++ id ∷ head ∷ []) lits (pos 1) (length row + 1) (omega (arith, heads_long row id head)) ∙ last) in
    rw read (omega (arith, count))

added_number : (row new lits : List ℤ) (id head : ℤ) (s n : ℕ) → new ≡ (row ++ id ∷ head ∷ []) ++ lits → variable id ≡ n + 1 → s ≡ length row + 2 → number_at new s ≡ n
added_number row new lits id head s n is number at =
    let here : s - 2 ≡ length row = omega (arith, at) in
    let read : slice_index_or new (s - 2) (pos 1) ≡ id =
    rw (is, here) (get_or_append_left (row ++ id ∷ head ∷ []) lits (pos 1) (length row)
    (omega (arith, heads_long row id head)) ∙ get_or_at row id (head ∷ []) (pos 1) (length row) refl) in
    rw read (omega (arith, number))

after_heads : (row new lits : List ℤ) (id head : ℤ) → new ≡ (row ++ id ∷ head ∷ []) ++ lits → new ≡ row ++ (id ∷ head ∷ [] ++ lits)
after_heads row new lits id head is = is ∙ append_assoc row (id ∷ head ∷ []) lits

more_ranges : (row new lits : List ℤ) (id head : ℤ) (starts : List ℕ) (s : ℕ) → new ≡ (row ++ id ∷ head ∷ []) ++ lits →
    AreRanges row (ranges_of row starts) → ranges_of new (starts ++ s ∷ []) ≡ ranges_of row starts ++
    range_at new s ∷ []
more_ranges row new lits id head starts s is are =
    map-append (range_at new) starts (s ∷ []) ∙ ap (λ (rs : List Range). rs ++ range_at new s ∷ []) (starts_written row new (id ∷ head ∷ [] ++ lits) starts (after_heads row new lits id head is) are)

more_numbers : (row new lits : List ℤ) (id head : ℤ) (starts : List ℕ) (s : ℕ) → new ≡ (row ++ id ∷ head ∷ []) ++
    lits → variable id ≡ length starts + 1 + 1 → s ≡ length row + 2 → AreLaid row starts →
    AreNumbered new (starts ++ s ∷ [])
more_numbers row new lits id head starts s is number at laid k low =
    let long : length (starts ++ s ∷ []) ≡ length starts + 1 = length-append starts (s ∷ []) in
    ⊎_elim
    (λ (early : k < length starts). ap (number_at new) (get_or_append_left starts (s ∷ []) 0 k early)
    ∙ numbers_same row new starts (agree_written row new (id ∷ head ∷ [] ++
    lits) starts (after_heads row new lits id head is) laid.0) laid.1 k early)
    (λ (late : length starts ≤ k).
    let last : k ≡ length starts = omega (arith, late, low, long) in
    ap (number_at new) (get_or_at starts s [] 0 k (sym last)) ∙ added_number row new lits id head s (length starts + 1) is number at ∙ ap (λ (n : ℕ). n + 1) (sym last))
    (cases_lt k (length starts))

pub are_added : (row new lits : List ℤ) (id head : ℤ) (starts more : List ℕ) (s : ℕ) → new ≡ (row ++ id ∷ head ∷ []) ++
    lits → more ≡ starts ++ s ∷ [] → variable id ≡ length starts + 1 + 1 → variable head ≡ length lits + 1 →
    s ≡ length row + 2
    → AreLaid row starts → AreLaid new more
are_added row new lits id head starts more s is kept number count at laid =
    let long : count_at new s ≡ length lits = added_range row new lits id head s is count at in
    rw kept (
      subst (AreRanges new) (sym (more_ranges row new lits id head starts s is laid.0))
          (ranges_added row new lits id head (ranges_of row starts) (range_at new s) is at
          (omega (arith, at, long)) laid.0),
      more_numbers row new lits id head starts s is number at laid,
    )

pub shown_added : (lists : List (List ℤ)) (row new lits : List ℤ) (id head : ℤ) (starts more : List ℕ) (s : ℕ) →
    lists_in row (ranges_of row starts) ≡ lists → new ≡ (row ++ id ∷ head ∷ []) ++ lits → more ≡ starts ++ s ∷ []
    → variable head ≡ length lits + 1 → s ≡ length row + 2 → AreRanges row (ranges_of row starts) → lists_in new (ranges_of new more) ≡ lists ++ lits ∷ []
shown_added lists row new lits id head starts more s view is kept count at are =
    let long : count_at new s ≡ length lits = added_range row new lits id head s is count at in
    ap (λ (ss : List ℕ). lists_in new (ranges_of new ss)) kept ∙ ap (lists_in new) (more_ranges row new lits id head starts s is are)
    ∙ lists_added row new lits id head (ranges_of row starts) (range_at new s) is at (omega (arith, at, long)) are ∙ ap (λ (ls : List (List ℤ)). ls ++ lits ∷ []) view

-- There are as many lists as starts.
pub lists_room : (b : ArenaState) (row : List ℤ) (starts : List ℕ) → shown row starts ≡ b → length b.lists ≡ length starts
lists_room b row starts view = ap (λ (x : ArenaState). length x.lists) (sym view) ∙ length-map (ranges_of row starts) (list_in row) ∙ room_of row starts

-- The lists before one that is appended keep their starts and ids,
pub kept_added : (b new : ArenaState) (row now : List ℤ) (starts more : List ℕ) (s : ℕ) → shown row starts ≡ b → shown now more ≡ new → more ≡ starts ++ s ∷ [] → KeepsIds b new (length b.lists)
kept_added b new row now starts more s view view_new is t start low =
    let same_starts : starts ≡ b.starts = ap (λ (x : ArenaState). x.starts) view in
    let starts_new : new.starts ≡ b.starts ++ s ∷ [] = ap (λ (x : ArenaState). x.starts) (sym view_new) ∙ is ∙ ap (λ (ss : List ℕ). ss ++ s ∷ []) same_starts in
    let some : 0 < id_in b.starts t = start.some in
    let same : id_in new.starts t ≡ id_in b.starts t = ap (λ (ss : List ℕ). id_in ss t) starts_new ∙ id_front b.starts (s ∷ []) t some start.is in
    let long_b : length b.lists ≡ length starts = lists_room b row starts view in
    let long_new : length new.lists ≡ length more = lists_room new now more view_new in
    let long : length more ≡ length starts + 1 = ap length is ∙ length-append starts (s ∷ []) in
    let within : id_in b.starts t - 1 < length b.starts = omega (arith, some, low, long_b, ap length same_starts) in (
      record {
        some = omega (arith, some, same);
        given = omega (arith, low, same, long_b, long_new, long);
        is = ap (λ (n : ℕ). start_at new.starts (n - 1)) same
            ∙ ap (λ (ss : List ℕ). start_at ss (id_in b.starts t - 1)) starts_new
            ∙ get_or_append_left b.starts (s ∷ []) 0 (id_in b.starts t - 1) within ∙ start.is;
      },
      same,
    )

-- and so do those before the last one, which is removed with its id and its length.
pub kept_front : (b new : ArenaState) (row now : List ℤ) (starts front : List ℕ) (n : ℕ) → shown row starts ≡ b →
    shown now front ≡ new → front ≡ take n starts → n + 1 ≡ length starts → KeepsIds b new (length b.lists - 1)
kept_front b new row now starts front n view view_new is all t start low =
    let same_starts : starts ≡ b.starts = ap (λ (x : ArenaState). x.starts) view in
    let starts_new : new.starts ≡ take n b.starts = ap (λ (x : ArenaState). x.starts) (sym view_new) ∙ is ∙ ap (take n) same_starts in
    let some : 0 < id_in b.starts t = start.some in
    let long_b : length b.lists ≡ length starts = lists_room b row starts view in
    let few : id_in b.starts t ≤ n = omega (arith, low, long_b, all) in
    let same : id_in new.starts t ≡ id_in b.starts t = ap (λ (ss : List ℕ). id_in ss t) starts_new ∙ id_cut b.starts n t few in
    let long_new : length new.lists ≡ length front = lists_room new now front view_new in
    let long : length front ≡ n = ap length is ∙ length-take-le n starts (omega (arith, all)) in (
      record {
        some = omega (arith, some, same);
        given = omega (arith, few, same, long_new, long);
        is = ap (λ (m : ℕ). start_at new.starts (m - 1)) same
            ∙ ap (λ (ss : List ℕ). start_at ss (id_in b.starts t - 1)) starts_new
            ∙ get_or-take n b.starts (id_in b.starts t - 1) 0 (omega (arith, some, few)) ∙ start.is;
      },
      same,
    )

pub last_headed : (row : List ℤ) (starts : List ℕ) (n s : ℕ) → AreRanges row (ranges_of row starts) → n + 1 ≡ length starts → s ≡ start_at starts n → 1 < s
last_headed row starts n s are all is = subst (λ (m : ℕ). 1 < m) (sym is) (headed_at row starts n are (omega (arith, all)))

agree_cut : (row : List ℤ) (starts : List ℕ) (n s : ℕ) → AreRanges row (ranges_of row starts) → n + 1 ≡ length starts → s ≡ start_at starts n → AgreeBefore row (take (s - 2) row) (take n starts)
agree_cut row starts n s are all is k j at more few =
    let low : k < n = omega (arith, at, length-take-le n starts (omega (arith, all))) in
    let head : 1 < start_at starts k = headed_at row starts k are (omega (arith, low, all)) in
    let following : start_at starts k + count_at row (start_at starts k) + 1 < start_at starts n = after_at row starts k n are low (omega (arith, all)) in
    rw (get_or-take n starts k 0 low) (get_or-take (s - 2) row (start_at starts k - j) (pos 1) (omega (arith, head, following, is, more)))

cut_ranges : (row : List ℤ) (starts : List ℕ) (n s : ℕ) → AreRanges row (ranges_of row starts) →
    n + 1 ≡ length starts → s ≡ start_at starts n → ranges_of (take (s - 2) row) (take n starts) ≡
    take n (ranges_of row starts)
cut_ranges row starts n s are all is = ranges_same row (take (s - 2) row) (take n starts) (agree_cut row starts n s are all is) ∙ sym (take-map (range_at row) n starts)

numbers_front : (row : List ℤ) (starts : List ℕ) (n : ℕ) → n ≤ length starts → AreNumbered row starts → AreNumbered row (take n starts)
numbers_front row starts n all are k at =
    let low : k < n = omega (arith, at, length-take-le n starts all) in
    ap (number_at row) (get_or-take n starts k 0 low) ∙ are k (omega (arith, low, all))

last_range : (row : List ℤ) (starts : List ℕ) (n s : ℕ) (d : Range) → n + 1 ≡ length starts → s ≡ start_at starts n → range_at row s ≡ slice_index_or (ranges_of row starts) n d
last_range row starts n s d all is = ap (range_at row) is ∙ sym (range_of row starts n d (omega (arith, all)))

pub are_cut : (row new : List ℤ) (starts front : List ℕ) (n s : ℕ) → AreLaid row starts → n + 1 ≡ length starts →
    s ≡ start_at starts n → front ≡ take n starts → new ≡ take (s - 2) row → AreLaid new front
are_cut row new starts front n s laid all is front_is new_is =
    let cut : AreRanges (take (s - 2) row) (take n (ranges_of row starts)) =
    ranges_cut row (ranges_of row starts) n (range_at row s) laid.0 (rw (room_of row starts) all)
    (λ d. last_range row starts n s d all is) in
    rw (front_is, new_is) (
      subst (AreRanges (take (s - 2) row)) (sym (cut_ranges row starts n s laid.0 all is)) cut,
      numbers_same row (take (s - 2) row) (take n starts) (agree_cut row starts n s laid.0 all is) (numbers_front row starts n (omega (arith, all)) laid.1),
    )

pub shown_cut : (b : ArenaState) (row new : List ℤ) (starts front : List ℕ) (n s : ℕ) → shown row starts ≡ b →
    AreRanges row (ranges_of row starts) → n + 1 ≡ length starts → s ≡ start_at starts n → front ≡ take n starts
    → new ≡ take (s - 2) row → lists_in new (ranges_of new front) ≡ take (length b.lists - 1) b.lists
shown_cut b row new starts front n s view are all is front_is new_is =
    let count : n ≡ length b.lists - 1 = omega (arith, lists_room b row starts view, all) in
    let cut : lists_in (take (s - 2) row) (take n (ranges_of row starts)) ≡ take n (lists_in row (ranges_of row starts)) =
    lists_cut row (ranges_of row starts) n (range_at row s) are (rw (room_of row starts) all) (λ d. last_range row starts n s d all is) in
    rw (front_is, new_is) (ap (lists_in (take (s - 2) row)) (cut_ranges row starts n s are all is) ∙ cut ∙ ap (λ (x : ArenaState). take n x.lists) view ∙ ap (λ (m : ℕ). take m b.lists) count)

-- The list that begins at a position is read,
its_list : (b : ArenaState) (row : List ℤ) (starts : List ℕ) (index s : ℕ) → shown row starts ≡ b →
    index < length b.lists → start_at b.starts index ≡ s →
    slice_index_or b.lists index [] ≡ list_in row (range_at row s)
its_list b row starts index s view low at =
    let inside : index < length starts = omega (arith, low, lists_room b row starts view) in
    ap (λ (x : ArenaState). slice_index_or x.lists index []) (sym view) ∙ get_or-map (list_in row) (ranges_of row starts) index (range_at row 0) [] (rw (room_of row starts) inside)
    ∙ ap (list_in row) (range_of row starts index (range_at row 0) inside)
    ∙ ap (λ (x : ArenaState). list_in row (range_at row (start_at x.starts index))) view
    ∙ ap (λ (n : ℕ). list_in row (range_at row n)) at

-- which has an index,
abbrev IsBegun : ArenaState → ℕ → Type 0
IsBegun b s = (index : ℕ) × (index < length b.lists) × (start_at b.starts index ≡ s)

begun_low : (b : ArenaState) (s : ℕ) → IsStart b s → id_in b.starts s - 1 < length b.lists
begun_low b s start = (let some : 0 < id_in b.starts s = start.some in let given : id_in b.starts s ≤ length b.lists = start.given in omega (arith, some, given))

begun : (b : ArenaState) (s : ℕ) → IsStart b s → IsBegun b s
begun b s start = (id_in b.starts s - 1, begun_low b s start, start.is)

-- and lies within the row, with two entries before it.
inside_begun : (b : ArenaState) (row : List ℤ) (starts : List ℕ) (s : ℕ) → shown row starts ≡ b → AreRanges row (ranges_of row starts) → IsBegun b s → (1 < s) × (s + count_at row s ≤ length row)
inside_begun b row starts s view are (index, low, at) =
    let inside : index < length starts = omega (arith, low, lists_room b row starts view) in
    let same : start_at starts index ≡ s = ap (λ (x : ArenaState). start_at x.starts index) view ∙ at in
    (subst (λ (n : ℕ). 1 < n) same (headed_at row starts index are inside), subst (λ (n : ℕ). n + count_at row n ≤ length row) same (inside_at row starts index are inside))

pub start_inside : (b : ArenaState) (row : List ℤ) (starts : List ℕ) (s : ℕ) → shown row starts ≡ b → AreRanges row (ranges_of row starts) → IsStart b s → (1 < s) × (s + count_at row s ≤ length row)
start_inside b row starts s view are start = inside_begun b row starts s view are (begun b s start)

-- The starts rise, so the id of a start is 1 + its index.
pub id_at_start : (b : ArenaState) (row : List ℤ) (starts : List ℕ) (index s : ℕ) → shown row starts ≡ b →
    AreRanges row (ranges_of row starts) → index < length b.lists → s ≡ slice_index_or starts index s →
    id_in b.starts s ≡ index + 1
id_at_start b row starts index s view are low here =
    let inside : index < length starts = omega (arith, low, lists_room b row starts view) in
    let at : start_at starts index ≡ s = sym (here ∙ get_or_default starts index s 0 inside) in
    ap (λ (x : ArenaState). id_in x.starts s) (sym view)
    ∙ id_found starts index s inside at (λ i early e. let following : start_at starts i + count_at row
    (start_at starts i) + 1 < start_at starts index = after_at row starts i index are early inside in
    omega (arith, following, e, at))

-- It is read two entries before the list,
pub read_id : (b : ArenaState) (row : List ℤ) (starts : List ℕ) (s : ℕ) (head : ℤ) (number : ℕ) →
    shown row starts ≡ b → AreLaid row starts → IsStart b s → head ≡ slice_index_or row (s - 2) head →
    number ≡ variable head → id_in b.starts s ≡ number - 1
read_id b row starts s head number view laid start here is =
    let within : (1 < s) × (s + count_at row s ≤ length row) = start_inside b row starts s view laid.0 start in
    let some : 1 < s = within.0 in
    let end : s + count_at row s ≤ length row = within.1 in
    let first : 0 < id_in b.starts s = start.some in
    let given : id_in b.starts s ≤ length b.lists = start.given in
    let low : id_in b.starts s - 1 < length starts = omega (arith, first, given, lists_room b row starts view) in
    let same : start_at starts (id_in b.starts s - 1) ≡ s = ap (λ (x : ArenaState). start_at x.starts (id_in b.starts s - 1)) view ∙ start.is in
    let its : number_at row s ≡ id_in b.starts s - 1 + 1 = subst (λ (n : ℕ). number_at row n ≡ id_in b.starts s - 1 + 1) same (laid.1 (id_in b.starts s - 1) low) in
    let read : number - 1 ≡ number_at row s = ap (λ (n : ℕ). n - 1) is ∙ ap (λ (l : ℤ). variable l - 1) (here ∙ get_or_default row (s - 2) head (pos 1) (omega (arith, some, end))) in
    omega (arith, first, its, read)

-- the length one entry before it, and then the list.
pub read_count : (row : List ℤ) (s : ℕ) (head : ℤ) (count : ℕ) → (1 < s) × (s + count_at row s ≤ length row) →
    head ≡ slice_index_or row (s - 1) head → count ≡ variable head → count - 1 ≡ count_at row s
read_count row s head count (some, end) here is = ap (λ (n : ℕ). n - 1) is ∙ ap (λ (l : ℤ). variable l - 1) (here ∙ get_or_default row (s - 1) head (pos 1) (omega (arith, some, end)))

pub read_list : (b : ArenaState) (row same : List ℤ) (starts : List ℕ) (s : ℕ) (head : ℤ) (count : ℕ) → shown row starts ≡ b → AreRanges row (ranges_of row starts) → IsStart b s
    → head ≡ slice_index_or row (s - 1) head → count ≡ variable head → same ≡ row → slice_range same s (s + (count - 1)) ≡ block_at b.lists (id_in b.starts s)
read_list b row same starts s head count view are start here is kept =
    ap (λ (xs : List ℤ). slice_range xs s (s + (count - 1))) kept ∙ ap (λ (n : ℕ). slice_range row s (s + n)) (read_count row s head count (start_inside b row starts s view are start) here is)
    ∙ sym (its_list b row starts (id_in b.starts s - 1) s view (begun_low b s start) start.is)

-- Two literals of a list are exchanged. Its id and length aren't among them.
agree_swapped : (row : List ℤ) (starts : List ℕ) (index i j : ℕ) → AreRanges row (ranges_of row starts) →
    index < length starts → start_at starts index ≤ i → i < start_at starts index + count_at row (start_at starts index)
    → start_at starts index ≤ j → j < start_at starts index + count_at row (start_at starts index) → AgreeBefore row (swap row i j) starts
agree_swapped row starts index i j are within from_i to_i from_j to_j k m low some few = swapped.2 (start_at starts k - m) (apart i from_i to_i) (apart j from_j to_j)
  where
    s : ℕ
    s = start_at starts index

    end : s + count_at row s ≤ length row
    end = inside_at row starts index are within

    swapped : Swapped (λ n. slice_index_or row n (pos 1)) (λ n. slice_index_or (swap row i j) n (pos 1)) i j
    swapped = swapped_from_swap row (swap row i j) i j (pos 1) (omega (arith, to_i, end)) (omega (arith, to_j, end)) refl

    apart : (n : ℕ) → s ≤ n → n < s + count_at row s → start_at starts k - m ≡ n → ⊥
    apart n from to e = ⊎_elim
        (λ (before : k < index). let following : start_at starts k + count_at row (start_at starts k) + 1 < s = after_at row starts k index are before within in omega (arith, following, from, e))
        (λ (after : index ≤ k). ⊎_elim
        (λ (same : k ≡ index). let head : 1 < s = headed_at row starts index are within in
        let here : start_at starts k ≡ s = ap (start_at starts) same in omega (arith, head, here, from, e, some, few))
        (λ (differ : k ≡ index → ⊥). let following : s + count_at row s + 1 < start_at starts k =
        after_at row starts index k are (omega (arith, after, differ)) low in omega (arith, following, to, e, few))
        (cases_eq k index))
        (cases_lt k index)

list_long : (b : ArenaState) (row : List ℤ) (starts : List ℕ) (s : ℕ) → shown row starts ≡ b →
    AreRanges row (ranges_of row starts) → IsStart b s → length (block_at b.lists (id_in b.starts s)) ≡ count_at row s
list_long b row starts s view are start =
    ap length (its_list b row starts (id_in b.starts s - 1) s view (begun_low b s start) start.is)
    ∙ range_long row s (s + count_at row s) (omega arith) (start_inside b row starts s view are start).1 ∙ omega arith

pub places_inside : (b : ArenaState) (row : List ℤ) (starts : List ℕ) (low high s : ℕ) → shown row starts ≡ b →
    AreRanges row (ranges_of row starts) → IsStart b s → high < length (block_at b.lists (id_in b.starts s)) →
    low < high
    → (s + low < length row) × (s + high < length row)
places_inside b row starts low high s view are start places order =
    let end : s + count_at row s ≤ length row = (start_inside b row starts s view are start).1 in
    let long : length (block_at b.lists (id_in b.starts s)) ≡ count_at row s = list_long b row starts s view are start in
    (omega (arith, order, places, end, long), omega (arith, places, end, long))

agree_exchanged : (b : ArenaState) (row : List ℤ) (starts : List ℕ) (low high s : ℕ) → shown row starts ≡ b →
    AreRanges row (ranges_of row starts) → IsStart b s → low < high →
    high < length (block_at b.lists (id_in b.starts s)) → AgreeBefore row (swap row (s + low) (s + high)) starts
agree_exchanged b row starts low high s view are start order places =
    let index : ℕ = id_in b.starts s - 1 in
    let within : index < length b.lists = begun_low b s start in
    let inside : index < length starts = omega (arith, within, lists_room b row starts view) in
    let same : start_at starts index ≡ s = ap (λ (x : ArenaState). start_at x.starts index) view ∙ start.is in
    let long : length (block_at b.lists (id_in b.starts s)) ≡ count_at row s = list_long b row starts s view are start in
    let kept : AgreeBefore row (swap row (start_at starts index + low) (start_at starts index + high)) starts =
    agree_swapped row starts index (start_at starts index + low) (start_at starts index + high) are inside
    (omega arith) (rw same (omega (arith, order, places, long))) (omega arith)
    (rw same (omega (arith, places, long))) in
    subst (λ (n : ℕ). AgreeBefore row (swap row (n + low) (n + high)) starts) same kept

pub shown_exchanged : (b : ArenaState) (row new : List ℤ) (starts : List ℕ) (low high s : ℕ) → shown row starts ≡ b →
    AreRanges row (ranges_of row starts) → IsStart b s → low < high →
    high < length (block_at b.lists (id_in b.starts s))
    → new ≡ swap row (s + low) (s + high) → lists_in new (ranges_of new starts) ≡ slice_set b.lists (id_in b.starts s - 1) (swap (block_at b.lists (id_in b.starts s)) low high)
shown_exchanged b row new starts low high s view are start order places is =
    let index : ℕ = id_in b.starts s - 1 in
    let within : index < length b.lists = begun_low b s start in
    let inside : index < length starts = omega (arith, within, lists_room b row starts view) in
    let same : s ≡ start_at starts index = sym (ap (λ (x : ArenaState). start_at x.starts index) view ∙ start.is) in
    let range : range_at row s ≡ slice_index_or (ranges_of row starts) index (range_at row s) = ap (range_at row) same ∙ sym (range_of row starts index (range_at row s) inside) in
    ap (λ (xs : List ℤ). lists_in new (ranges_of xs starts)) is
    ∙ ap (lists_in new) (ranges_same row (swap row (s + low) (s + high)) starts
    (agree_exchanged b row starts low high s view are start order places))
    ∙ lists_swapped b.lists row new (ranges_of row starts) index low high (range_at row s) (ap (λ (x : ArenaState). x.lists) view) are range within order places is

pub are_exchanged : (b : ArenaState) (row new : List ℤ) (starts : List ℕ) (low high s : ℕ) → shown row starts ≡ b →
    AreLaid row starts → IsStart b s → low < high → high < length (block_at b.lists (id_in b.starts s))
    → new ≡ swap row (s + low) (s + high) → AreLaid new starts
are_exchanged b row new starts low high s view laid start order places is =
    let long : length (swap row (s + low) (s + high)) ≡ length row = length-swap row (s + low) (s + high) in
    let agree : AgreeBefore row (swap row (s + low) (s + high)) starts = agree_exchanged b row starts low high s view laid.0 start order places in
    let kept : ranges_of new starts ≡ ranges_of row starts = ap (λ (xs : List ℤ). ranges_of xs starts) is ∙ ranges_same row (swap row (s + low) (s + high)) starts agree in (
      subst (AreRanges new) (sym kept) (record {
        headed = laid.0.headed;
        inside = λ k d low. (let fine = laid.0.inside k d low in (fine.0, (let end : (slice_index_or (ranges_of row starts) k d).end ≤ length row = fine.1 in rw is (omega (arith, end, long)))));
        following = laid.0.following;
      }),
      rw is (numbers_same row (swap row (s + low) (s + high)) starts agree laid.1),
    )
