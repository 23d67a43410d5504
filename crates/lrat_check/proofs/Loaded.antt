-- Clauses that are inserted from the last to the first.
use Rattle.std.proofs.Common.{◌≡◌, ℕ, ◌<◌, ◌+◌, ◌-◌, ◌==◌, nat_le, if◌then◌else◌, ℤ, true, false, List, [], ◌∷◌, ◌++◌}
use Rattle.std.proofs.Common.{length, length-append, append_assoc, suc, get_or, take, drop, Option, Some, None}
use Rattle.std.proofs.Common.{slice_get, refl, sym, ap, ◌∙◌, arith}
use Rattle.std.proofs.Math.Logic.{⊎_elim}
use Rattle.std.specs.FinMap as map
use Rattle.std.proofs.lemmas.Bool.{cases_Bool}
use Rattle.std.proofs.lemmas.Bool.Decides.{nat_tests}
use Rattle.std.proofs.lemmas.Grind.{common_steps}
use Rattle.std.proofs.lemmas.Option.{slice_get_past, slice_get_read}
use Rattle.std.proofs.lemmas.List.{take-append-drop}
use Rattle.std.proofs.Math.Seq.{get_or-append_seam, take-append_seam}
use Rattle.std.specs.Ordering.{nat_cmp}
use Rattle.sat_theory.specs.State.{by_id, with_clause}
use Rattle.lrat_check.specs.Live.{live_at}

-- the clauses of a list with ids above a number
unfoldable pub live_after : ℕ → List (List ℤ) → ℕ → Option (List ℤ)
live_after n clauses id = if nat_le id n then None else by_id clauses id

-- above the length of the list there is none
after_last : (clauses : List (List ℤ)) (id : ℕ) → None ≡ live_after (length clauses) clauses id
unfolding live_after
after_last clauses id =
    ⊎_elim
    (λ (low : nat_le id (length clauses) ≡ true). rw low refl)
    (λ (high : nat_le id (length clauses) ≡ false).
    let above : length clauses < id = grind (arith, nat_tests) in
    let some : (id == 0) ≡ false = grind (arith, nat_tests) in
    rw (high, some) (sym (slice_get_past clauses (id - 1) (omega arith))))
    (cases_Bool (nat_le id (length clauses)))

pub live_after-last : (clauses : List (List ℤ)) → live_at map.empty ≡ live_after (length clauses) clauses
live_after-last clauses = λ i id. (map.get-empty nat_cmp id ∙ after_last clauses id) i

-- above 0 there are all
after_first : (clauses : List (List ℤ)) (id : ℕ) → live_after 0 clauses id ≡ by_id clauses id
unfolding live_after
after_first clauses id =
    ⊎_elim
    (λ (low : nat_le id 0 ≡ true). let none : (id == 0) ≡ true = grind (arith, nat_tests) in rw (low, none) refl)
    (λ (high : nat_le id 0 ≡ false). rw high refl)
    (cases_Bool (nat_le id 0))

pub live_after-0 : (clauses : List (List ℤ)) → live_after 0 clauses ≡ by_id clauses
live_after-0 clauses = λ i id. after_first clauses id i

-- above a number there is one more than above the next number
after_next : (n : ℕ) (clauses prefix : List (List ℤ)) (clause : List ℤ) (id : ℕ) → slice_get clauses n ≡ Some clause →
    with_clause (live_after (n + 1) clauses) (n + 1) clause id ≡ live_after n clauses id
unfolding live_after
after_next n clauses prefix clause id at =
    ⊎_elim
    (λ (same : (id == (n + 1)) ≡ true).
    let e : id ≡ n + 1 = grind (arith, nat_tests) in
    let high : nat_le id n ≡ false = grind (arith, nat_tests) in
    let some : (id == 0) ≡ false = grind (arith, nat_tests) in
    let place : id - 1 ≡ n = omega arith in
    rw (same, high, some, place, at) refl)
    (λ (other : (id == (n + 1)) ≡ false).
    ⊎_elim
    (λ (low : nat_le id n ≡ true). let lower : nat_le id (n + 1) ≡ true = grind (arith, nat_tests) in rw (other, low, lower) refl)
    (λ (high : nat_le id n ≡ false). let higher : nat_le id (n + 1) ≡ false = grind (arith, nat_tests) in rw (other, high, higher) refl)
    (cases_Bool (nat_le id n)))
    (cases_Bool (id == (n + 1)))

pub live_after-next : (n : ℕ) (clauses : List (List ℤ)) (clause : List ℤ) → slice_get clauses n ≡ Some clause → with_clause (live_after (n + 1) clauses) (n + 1) clause ≡ live_after n clauses
live_after-next n clauses clause at = λ i id. after_next n clauses [] clause id at i

-- taking the last clause of a prefix of a list
pub record IsLast (list new : List (List ℤ)) (clause : List ℤ) : Type 0 where
  pub at : slice_get list (length new) ≡ Some clause
  pub prefix : new ≡ take (length new) list
  pub within : length new < length list

pub is_last : (list old new : List (List ℤ)) (clause : List ℤ) → old ≡ take (length old) list → old ≡ new ++ clause ∷ [] → IsLast list new clause
is_last list old new clause prefix popped =
    let rest : List (List ℤ) = drop (length old) list in
    let split : take (length old) list ++ rest ≡ list = take-append-drop (length old) list in
    let whole : list ≡ new ++ clause ∷ rest = sym split ∙ ap (λ (xs : List (List ℤ)). xs ++ rest) (sym prefix ∙ popped) ∙ append_assoc new (clause ∷ []) rest in
    let long : length list ≡ length new + suc (length rest) = ap length whole ∙ length-append new (clause ∷ rest) in
    let below : length new < length list = omega arith in
    record {
      at = slice_get_read list (length list) (length new) clause refl below (sym (ap (λ (xs : List (List ℤ)). get_or xs (length new) clause) whole ∙ get_or-append_seam new clause rest clause));
      prefix = sym (ap (take (length new)) whole ∙ take-append_seam new (clause ∷ rest));
      within = below;
    }

pub ruleset loaded = (common_steps, live_after-last, live_after-0, live_after-next)
