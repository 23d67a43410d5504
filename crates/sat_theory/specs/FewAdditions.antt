-- How many additions of a log can be live: fewer than 3 ^ vars, if each is of an unsubsumed clause and none is of
-- the empty clause. No live addition is a subset of a later one, so all live additions are different clauses.
use Rattle.std.specs.Prelude.{◌≡◌, ◌≢◌, ℕ, suc, ◌+◌, ◌*◌, ◌^◌, ◌<◌, ◌≤◌, ◌==◌, if◌then◌else◌, ℤ, Bool, true, false}
use Rattle.std.specs.Prelude.{List, [], ◌∷◌, length, slice_index_or, Contains, All, Any, AllPairs, count_by, cond}
use Rattle.std.specs.Prelude.{Option, Some, None, is_some}
use Rattle.std.proofs.Common.{sym, subst, ap, ◌∙◌, arith, inr, refl}
use Rattle.std.proofs.lemmas.Bool.{ne_eqb, eq-eqb}
use Rattle.std.proofs.lemmas.List.Elements.{All-cons, All-head, All-tail, All-weaker, All-contains, Contains-get_or}
use Rattle.std.proofs.lemmas.List.Kept.{AllPairs-cons}
use Rattle.std.proofs.lemmas.List.Sums.{sum_by-cons}
use Rattle.sat_theory.specs.Formula.{Formula, IsClause, IsWithin}
use Rattle.sat_theory.specs.Line.{Line, Add, Delete, IsAdding}
use Rattle.sat_theory.specs.State.{State, start, next, is_listed}
use Rattle.sat_theory.specs.Holding.{among}
use Rattle.sat_theory.specs.Log.{after, EachLine, IsStep, AddsUnsubsumed, IsUnsubsumed, AddsEmpty, added_ids, additions, live_additions, ReachesBudget, KeepsHalf, DeletesNothing}
use Rattle.sat_theory.specs.Pigeonholes.{different_below}
use Rattle.sat_theory.specs.Ternary.{code, code_low, inside, some_code}

-- an addition of a clause with a literal
abbrev pub AddsSome : Line → Type 0
AddsSome (Add id lits hints) = 0 < length lits
AddsSome (Delete id ids) = Unit {0}

some_or_empty : (l : Line) → (AddsEmpty l → ⊥) → AddsSome l
some_or_empty (Add id [] hints) none = absurd (none refl)
some_or_empty (Add id (x ∷ xs) hints) none = (let h : 0 < suc (length xs) = omega arith in h)
some_or_empty (Delete id ids) none = tt

-- if no line adds the empty clause, each addition has a literal
pub adds_some : (lines : List Line) → (Any AddsEmpty lines → ⊥) → All AddsSome lines
adds_some lines none = λ k d low. some_or_empty (slice_index_or lines k d) (λ is. (let x = Contains-get_or lines k d low in none (x.0, slice_index_or lines k d, x.1, x.2, is)))

-- a clause that was added: its variables are 1 to vars, and it isn't empty
record IsAdded (vars : ℕ) (clause : List ℤ) : Type 0 where
  is_clause : IsClause clause
  within : IsWithin vars clause
  some : 0 < length clause

-- If both are live, the clause of the earlier id doesn't subsume that of the later one.
abbrev IsApart : State → ℕ → ℕ → Type 0
IsApart s later earlier = (c e : List ℤ) → s.live later ≡ Some c → s.live earlier ≡ Some e → All (Contains c) e → ⊥

-- the ids of additions, the last one first
record AreApart (s : State) (ids : List ℕ) : Type 0 where
  given : All (λ id. id ≤ s.greatest) ids
  added : All (λ id. (clause : List ℤ) → s.live id ≡ Some clause → IsAdded s.vars clause) ids
  apart : AllPairs (IsApart s) ids

abbrev with_code : ℕ → Option (List ℤ) → List ℕ → List ℕ
with_code v None ns = ns
with_code v (Some clause) ns = code (among clause) v ∷ ns

-- the base-3 numbers of the live clauses with these ids
unfoldable codes : State → List ℕ → List ℕ
codes s [] = []
codes s (id ∷ ids) = with_code s.vars (s.live id) (codes s ids)

-- n is the base-3 number of the live clause with one of these ids
record IsCode (s : State) (ids : List ℕ) (n : ℕ) : Type 0 where
  id : ℕ
  there : Contains ids id
  clause : List ℤ
  is_live : s.live id ≡ Some clause
  is : code (among clause) s.vars ≡ n

contains_later : (id k : ℕ) (ids : List ℕ) → Contains ids k → Contains (id ∷ ids) k
contains_later id k ids (i, inside_it, at) = (suc i, (let h : suc i < suc (length ids) = omega arith in h), at)

code_later : (s : State) (id : ℕ) (ids : List ℕ) (n : ℕ) → IsCode s ids n → IsCode s (id ∷ ids) n
code_later s id ids n found = record {
  id = found.id;
  there = contains_later id found.id ids found.there;
  clause = found.clause;
  is_live = found.is_live;
  is = found.is;
}

codes_cons : (s : State) (id : ℕ) (ids ns : List ℕ) (o : Option (List ℤ)) → s.live id ≡ o → All (IsCode s ids) ns → All (IsCode s (id ∷ ids)) (with_code s.vars o ns)
codes_cons s id ids ns None is all = All-weaker (IsCode s ids) (IsCode s (id ∷ ids)) (λ n found. code_later s id ids n found) ns all
codes_cons s id ids ns (Some clause) is all =
    All-cons (IsCode s (id ∷ ids)) (code (among clause) s.vars) ns
    (record { id = id; there = (0, (let h : 0 < suc (length ids) = omega arith in h), refl); clause = clause; is_live = is; is = refl })
    (All-weaker (IsCode s ids) (IsCode s (id ∷ ids)) (λ n found. code_later s id ids n found) ns all)

codes_are : (s : State) (ids : List ℕ) → All (IsCode s ids) (codes s ids)
unfolding codes
codes_are s [] = λ k d (low : k < 0). absurd (omega arith)
codes_are s (id ∷ ids) = codes_cons s id ids (codes s ids) (s.live id) refl (codes_are s ids)

-- the number of a clause differs from those of earlier clauses that don't subsume it
code_differs : (s : State) (id : ℕ) (ids : List ℕ) (clause : List ℤ) (n : ℕ) → s.live id ≡ Some clause → AreApart s (id ∷ ids) → IsCode s ids n → code (among clause) s.vars ≡ n → ⊥
code_differs s id ids clause n is_live all found same =
    let at : slice_index_or ids found.there.0 found.id ≡ found.id = found.there.2 in
    let low : found.there.0 < length ids = found.there.1 in
    let between : IsApart s id (slice_index_or ids found.there.0 found.id) = all.apart 0 (suc found.there.0) found.id (omega arith) (let h : suc found.there.0 < suc (length ids) = omega arith in h) in
    let known : IsAdded s.vars found.clause = All-contains (λ k. (c : List ℤ) → s.live k ≡ Some c →
    IsAdded s.vars c) (id ∷ ids) found.id all.added (contains_later id found.id ids found.there) found.clause
    found.is_live in
    between clause found.clause is_live (rw at found.is_live) (inside found.clause clause s.vars known.is_clause known.within (found.is ∙ sym same))

apart_rest : (s : State) (id : ℕ) (ids : List ℕ) → AreApart s (id ∷ ids) → AreApart s ids
apart_rest s id ids all = record {
  given = All-tail (λ k. k ≤ s.greatest) id ids all.given;
  added = All-tail (λ k. (c : List ℤ) → s.live k ≡ Some c → IsAdded s.vars c) id ids all.added;
  apart = λ i j d order within. all.apart (suc i) (suc j) d (omega arith) (let low : j < length ids = within in let h : suc j < suc (length ids) = omega arith in h);
}

differ_cons : (s : State) (id : ℕ) (ids ns : List ℕ) (o : Option (List ℤ)) → s.live id ≡ o → AreApart s (id ∷ ids) →
    All (IsCode s ids) ns → AllPairs (λ a b. a ≢ b) ns → AllPairs (λ a b. a ≢ b) (with_code s.vars o ns)
differ_cons s id ids ns None is all are differ = differ
differ_cons s id ids ns (Some clause) is all are differ =
    AllPairs-cons (λ a b. a ≢ b) (code (among clause) s.vars) ns
    (All-weaker (IsCode s ids) (λ n. code (among clause) s.vars ≢ n) (λ n found same. code_differs s id ids clause n is all found same) ns are)
    differ

codes_differ : (s : State) (ids : List ℕ) → AreApart s ids → AllPairs (λ a b. a ≢ b) (codes s ids)
unfolding codes
codes_differ s [] all = λ i j d order (within : j < 0). absurd (omega arith)
codes_differ s (id ∷ ids) all = differ_cons s id ids (codes s ids) (s.live id) refl all (codes_are s ids) (codes_differ s ids (apart_rest s id ids all))

abbrev is_live_in : State → ℕ → Bool
is_live_in s id = is_some (s.live id)

pub count_cons : (p : ℕ → Bool) (x : ℕ) (xs : List ℕ) → count_by p (x ∷ xs) ≡ cond {A = ℕ} (p x) 1 0 + count_by p xs
count_cons p x xs = sum_by-cons (λ (y : ℕ). cond {A = ℕ} (p y) 1 0) x xs

long_cons : (v : ℕ) (o : Option (List ℤ)) (ns : List ℕ) → length (with_code v o ns) ≡ cond {A = ℕ} (is_some o) 1 0 + length ns
long_cons v None ns = omega arith
long_cons v (Some clause) ns = (let h : suc (length ns) ≡ 1 + length ns = omega arith in h)

codes_long : (s : State) (ids : List ℕ) → length (codes s ids) ≡ count_by (is_live_in s) ids
unfolding codes
codes_long s [] = refl
codes_long s (id ∷ ids) =
    let ih : length (codes s ids) ≡ count_by (is_live_in s) ids = codes_long s ids in
    let long : length (with_code s.vars (s.live id) (codes s ids)) ≡ cond {A = ℕ} (is_some (s.live id)) 1 0 + length (codes s ids) = long_cons s.vars (s.live id) (codes s ids) in
    let more : count_by (is_live_in s) (id ∷ ids) ≡ cond {A = ℕ} (is_some (s.live id)) 1 0 + count_by (is_live_in s) ids = count_cons (is_live_in s) id ids in
    omega arith

-- fewer than 3 ^ vars clauses are live
live_few : (s : State) (ids : List ℕ) → AreApart s ids → count_by (is_live_in s) ids < 3 ^ s.vars
live_few s ids all =
    let room : 0 < 3 ^ s.vars = (let h : code (among []) s.vars < 3 ^ s.vars = code_low (among []) s.vars in omega arith) in
    let below : All (λ n. n < 3 ^ s.vars) (codes s ids) =
    All-weaker (IsCode s ids) (λ n. n < 3 ^ s.vars) (λ n found. subst (λ (m : ℕ). m < 3 ^ s.vars) found.is
    (code_low (among found.clause) s.vars)) (codes s ids) (codes_are s ids) in
    let some : All (λ n. 0 ≢ n) (codes s ids) = All-weaker (IsCode s ids) (λ n. 0 ≢ n) (λ n found same. nonzero n found same) (codes s ids) (codes_are s ids) in
    let zeros : List ℕ = 0 ∷ codes s ids in
    let few : length zeros ≤ 3 ^ s.vars = different_below (3 ^ s.vars) zeros
    (All-cons (λ n. n < 3 ^ s.vars) 0 (codes s ids) room below)
    (AllPairs-cons (λ a b. a ≢ b) 0 (codes s ids) some (codes_differ s ids all)) in
    let long : length zeros ≡ suc (length (codes s ids)) = refl in
    let count : length (codes s ids) ≡ count_by (is_live_in s) ids = codes_long s ids in
    omega arith
  where
    nonzero : (n : ℕ) → IsCode s ids n → 0 ≡ n → ⊥
    nonzero n found same =
        let known : IsAdded s.vars found.clause = All-contains (λ k. (c : List ℤ) → s.live k ≡ Some c → IsAdded s.vars c) ids found.id all.added found.there found.clause found.is_live in
        some_code found.clause s.vars known.is_clause known.within known.some (found.is ∙ sym same)

still_live : (b : Bool) (o : Option (List ℤ)) (c : List ℤ) → (if b then None else o) ≡ Some c → o ≡ Some c
still_live true o c is = absurd (cc)
still_live false o c is = is

apart_deleted : (s : State) (id : ℕ) (gone ids : List ℕ) → AreApart s ids → AreApart (next s (Delete id gone)) ids
apart_deleted s id gone ids all = record {
  given = all.given;
  added = λ k d low c is. all.added k d low c (still_live (is_listed gone (slice_index_or ids k d)) (s.live (slice_index_or ids k d)) c is);
  apart = λ i j d order within c e is_c is_e. all.apart i j d order within c e
      (still_live (is_listed gone (slice_index_or ids i d)) (s.live (slice_index_or ids i d)) c is_c)
      (still_live (is_listed gone (slice_index_or ids j d)) (s.live (slice_index_or ids j d)) e is_e);
}

-- an id that is already in use keeps its clause
before_added : (s : State) (id : ℕ) (lits : List ℤ) (hints : List ℕ) (k : ℕ) → s.greatest < id → k ≤ s.greatest → (next s (Add id lits hints)).live k ≡ s.live k
before_added s id lits hints k greater given = (let other : (k == id) ≡ false = ne_eqb k id (λ e. omega arith) in rw other refl)

now_added : (s : State) (id : ℕ) (lits : List ℤ) (hints : List ℕ) → (next s (Add id lits hints)).live id ≡ Some lits
now_added s id lits hints = (let same : (id == id) ≡ true = eq-eqb id id refl in rw same refl)

is_the : (lits clause : List ℤ) (o : Option (List ℤ)) → o ≡ Some lits → o ≡ Some clause → lits ≡ clause
is_the lits clause o one other = cc

apart_added : (s : State) (id : ℕ) (lits : List ℤ) (hints ids : List ℕ) → s.greatest < id → IsAdded s.vars lits →
    IsUnsubsumed s.live lits → AreApart s ids → AreApart (next s (Add id lits hints)) (id ∷ ids)
apart_added s id lits hints ids greater known new all = record {
  given = All-cons (λ k. k ≤ id) id ids (omega arith) (All-weaker (λ k. k ≤ s.greatest) (λ k. k ≤ id) (λ k h. omega (arith, h, greater)) ids all.given);
  added = All-cons (λ k. (c : List ℤ) → after_it.live k ≡ Some c → IsAdded s.vars c) id ids
      (λ c is. subst (λ (x : List ℤ). IsAdded s.vars x) (is_the lits c (after_it.live id) (now_added s id lits hints) is) known)
      (λ k d low c is. all.added k d low c (sym (same k d low) ∙ is));
  apart = AllPairs-cons (IsApart after_it) id ids
      (λ k d low c e is_c is_e inside_it. new (slice_index_or ids k d) e (sym (same k d low)
      ∙ is_e) (subst (λ (x : List ℤ). All (Contains x) e)
      (sym (is_the lits c (after_it.live id) (now_added s id lits hints) is_c)) inside_it))
      (λ i j d order within c e is_c is_e. all.apart i j d order within c e (sym (same i d (omega arith)) ∙ is_c) (sym (same j d within) ∙ is_e));
}
  where
    after_it : State
    after_it = next s (Add id lits hints)

    same : (k d : ℕ) → k < length ids → after_it.live (slice_index_or ids k d) ≡ s.live (slice_index_or ids k d)
    same k d low = before_added s id lits hints (slice_index_or ids k d) greater (all.given k d low)

-- the live additions of a log, together with the clauses that were live before it
live_added : (s : State) (lines : List Line) (ids : List ℕ) → EachLine IsStep s lines →
    EachLine AddsUnsubsumed s lines → All AddsSome lines → AreApart s ids →
    count_by (is_live_in (after s lines)) ids + count_by (is_live_in (after s lines)) (added_ids lines) < 3 ^ s.vars
unfolding EachLine after added_ids
live_added s [] ids steps fresh some all = (let few : count_by (is_live_in s) ids < 3 ^ s.vars = live_few s ids all in let none : count_by (is_live_in s) [] ≡ 0 = refl in omega arith)
live_added s (Delete id gone ∷ lines) ids steps fresh some all =
    live_added (next s (Delete id gone)) lines ids steps.1 fresh.1 (All-tail AddsSome (Delete id gone) lines some)
    (apart_deleted s id gone ids all)
live_added s (Add id lits hints ∷ lines) ids steps fresh some all =
    let t : State = next s (Add id lits hints) in
    let p : ℕ → Bool = is_live_in (after t lines) in
    let known : IsAdded s.vars lits = record { is_clause = steps.0.is_line.clause; within = steps.0.holds.variables; some = All-head AddsSome (Add id lits hints) lines some } in
    let ih : count_by p (id ∷ ids) + count_by p (added_ids lines) < 3 ^ s.vars =
    live_added t lines (id ∷ ids) steps.1 fresh.1 (All-tail AddsSome (Add id lits hints) lines some)
    (apart_added s id lits hints ids steps.0.holds.greater known fresh.0 all) in
    let first : count_by p (id ∷ ids) ≡ cond {A = ℕ} (p id) 1 0 + count_by p ids = count_cons p id ids in
    let second : count_by p (id ∷ added_ids lines) ≡ cond {A = ℕ} (p id) 1 0 + count_by p (added_ids lines) = count_cons p id (added_ids lines) in
    omega arith

none_apart : (s : State) → AreApart s []
none_apart s = record {
  given = λ k d (low : k < 0). absurd (omega arith);
  added = λ k d (low : k < 0). absurd (omega arith);
  apart = λ i j d order (within : j < 0). absurd (omega arith);
}

-- A log of unsubsumed additions that doesn't add the empty clause has fewer than 3 ^ vars live additions.
pub few_live : (f : Formula) (lines : List Line) → EachLine IsStep (start f) lines →
    EachLine AddsUnsubsumed (start f) lines → All AddsSome lines →
    live_additions (after (start f) lines) lines < 3 ^ f.vars
few_live f lines steps fresh some =
    let few : count_by (is_live_in (after (start f) lines)) [] + live_additions (after (start f) lines) lines < 3 ^ f.vars = live_added (start f) lines [] steps fresh some (none_apart (start f)) in
    let none : count_by (is_live_in (after (start f) lines)) [] ≡ 0 = refl in
    omega arith

count_all : (p : ℕ → Bool) (xs : List ℕ) → All (λ x. p x ≡ true) xs → count_by p xs ≡ length xs
count_all p [] all = refl
count_all p (x ∷ xs) all =
    let first : p x ≡ true = All-head (λ y. p y ≡ true) x xs all in
    let one : cond {A = ℕ} (p x) 1 0 ≡ 1 = rw first refl in
    let more : count_by p (x ∷ xs) ≡ cond {A = ℕ} (p x) 1 0 + count_by p xs = count_cons p x xs in
    let ih : count_by p xs ≡ length xs = count_all p xs (All-tail (λ y. p y ≡ true) x xs all) in
    let long : length (x ∷ xs) ≡ suc (length xs) = refl in
    omega arith

-- the id is in use and live
abbrev IsThere : State → ℕ → Type 0
IsThere s id = (id ≤ s.greatest) × (is_some (s.live id) ≡ true)

there_added : (s : State) (id : ℕ) (lits : List ℤ) (hints ids : List ℕ) → s.greatest < id → All (IsThere s) ids → All (IsThere (next s (Add id lits hints))) (id ∷ ids)
there_added s id lits hints ids greater there =
    All-cons (IsThere (next s (Add id lits hints))) id ids (omega arith, ap (λ (o : Option (List ℤ)). is_some o) (now_added s id lits hints))
    (All-weaker (IsThere s) (IsThere (next s (Add id lits hints)))
    (λ k h. (
      (let low : k ≤ s.greatest = h.0 in omega (arith, low, greater)),
      ap (λ (o : Option (List ℤ)). is_some o) (before_added s id lits hints k greater h.0) ∙ h.1,
    )) ids there)

all_added : (s : State) (lines : List Line) (ids : List ℕ) → EachLine IsStep s lines → DeletesNothing lines →
    All (IsThere s) ids → count_by (is_live_in (after s lines)) ids + count_by (is_live_in (after s lines))
    (added_ids lines) ≡ length ids + length (added_ids lines)
unfolding EachLine after added_ids
all_added s [] ids steps adding there = (let all : count_by (is_live_in s) ids ≡ length ids =
    count_all (is_live_in s) ids (All-weaker (IsThere s) (λ k. is_some (s.live k) ≡ true) (λ k h. h.1) ids there) in
    let none : count_by (is_live_in s) [] ≡ 0 = refl in let zero_ : length {A = ℕ} [] ≡ 0 = refl in omega arith)
all_added s (Delete id gone ∷ lines) ids steps adding there = absurd (All-head IsAdding (Delete id gone) lines adding)
all_added s (Add id lits hints ∷ lines) ids steps adding there =
    let t : State = next s (Add id lits hints) in
    let p : ℕ → Bool = is_live_in (after t lines) in
    let ih : count_by p (id ∷ ids) + count_by p (added_ids lines) ≡ length (id ∷ ids) + length (added_ids lines) =
    all_added t lines (id ∷ ids) steps.1 (All-tail IsAdding (Add id lits hints) lines adding)
    (there_added s id lits hints ids steps.0.holds.greater there) in
    let first : count_by p (id ∷ ids) ≡ cond {A = ℕ} (p id) 1 0 + count_by p ids = count_cons p id ids in
    let second : count_by p (id ∷ added_ids lines) ≡ cond {A = ℕ} (p id) 1 0 + count_by p (added_ids lines) = count_cons p id (added_ids lines) in
    let long : length (id ∷ ids) ≡ suc (length ids) = refl in
    let longer : length (id ∷ added_ids lines) ≡ suc (length (added_ids lines)) = refl in
    omega arith

-- If nothing is deleted, all additions are live.
pub all_live : (f : Formula) (lines : List Line) → EachLine IsStep (start f) lines → DeletesNothing lines → live_additions (after (start f) lines) lines ≡ additions lines
all_live f lines steps adding =
    let all : count_by (is_live_in (after (start f) lines)) [] + live_additions (after (start f) lines) lines ≡
    length {A = ℕ} [] + additions lines = all_added (start f) lines [] steps adding (λ k d (low : k < 0).
    absurd (omega arith)) in
    let none : count_by (is_live_in (after (start f) lines)) [] ≡ 0 = refl in
    let zero_ : length {A = ℕ} [] ≡ 0 = refl in
    omega arith

-- If a log reaches a budget with at least half of its additions live, the budget is below 2 * 3 ^ vars.
pub budget_kept : (f : Formula) (lines : List Line) (budget : ℕ) → ReachesBudget f lines budget → KeepsHalf f lines → budget < 2 * 3 ^ f.vars
budget_kept f lines budget spent kept =
    let few : live_additions (after (start f) lines) lines < 3 ^ f.vars = few_live f lines spent.holds spent.fresh (adds_some lines (λ there. spent.open_yet (inr there))) in
    let half : additions lines ≤ 2 * live_additions (after (start f) lines) lines = kept in
    let enough : budget ≤ additions lines = spent.enough in
    omega arith

-- If a log reaches a budget without deletions, the budget is below 3 ^ vars.
pub budget_undeleted : (f : Formula) (lines : List Line) (budget : ℕ) → ReachesBudget f lines budget → DeletesNothing lines → budget < 3 ^ f.vars
budget_undeleted f lines budget spent adding =
    let few : live_additions (after (start f) lines) lines < 3 ^ f.vars = few_live f lines spent.holds spent.fresh (adds_some lines (λ there. spent.open_yet (inr there))) in
    let all : live_additions (after (start f) lines) lines ≡ additions lines = all_live f lines spent.holds adding in
    let enough : budget ≤ additions lines = spent.enough in
    omega arith
