-- The places of latches by name.
use Rattle.std.specs.Prelude.{◌≡◌, ℕ, suc, ◌+◌, ◌<◌, true, false, if◌then◌else◌, List, [], ◌∷◌, ◌++◌, length, drop, slice_get, Option, Some, None, refl}
use Rattle.std.specs.List.{cons_option}
use Rattle.std.proofs.Common.{arith, ap, ◌∙◌, sym, ⊎_elim, append_assoc, append-nil, length-append}
use Rattle.std.proofs.lemmas.Bool.{cond-true, cond-false, cases_Bool}
use Rattle.std.proofs.lemmas.Grind.{common_steps}
use Rattle.net_theory.specs.Document.{Name, is_same, LatchLine}
use Rattle.match_core.specs.Matched.{line_named}
use Rattle.match_core.specs.ListedLaws.{place_from, place_of, with_place}

-- ---- maps

by_names : {A : Type 0} (f g : Name → A) → ((n : Name) → f n ≡ g n) → f ≡ g
by_names f g same = λ i n. same n i

pub place_set : (old new : Name → Option ℕ) (name : Name) (place : ℕ) →
    ((n : Name) → new n ≡ (if is_same name n then Some place else old n)) → new ≡ with_place old name place
place_set old new name place h = by_names new (with_place old name place) h

pub ruleset updates = (common_steps, place_set)

pub place_none : (place : ℕ) → (λ (n : Name). None) ≡ place_from place []
unfolding place_from
place_none place = refl

pub ruleset places = (common_steps, place_none)

-- ---- from the last latch to the first

drop_prefix : {A : Type 0} (xs ys : List A) → drop (length xs) (xs ++ ys) ≡ ys
drop_prefix [] ys = refl
drop_prefix (x ∷ xs) ys = drop_prefix xs ys

pub record IsCut (lines rest : List LatchLine) (l : LatchLine) (after : List LatchLine) : Type 0 where
  pub here : drop (length rest) lines ≡ l ∷ after
  pub whole : rest ++ drop (length rest) lines ≡ lines

pub cut_last : (lines left rest : List LatchLine) (l : LatchLine) (after : List LatchLine) → left ≡ rest ++ l ∷ [] →
    left ++ after ≡ lines → IsCut lines rest l after
cut_last lines left rest l after e whole =
    let all : lines ≡ rest ++ (l ∷ after) = sym whole ∙ ap (λ (xs : List LatchLine). xs ++ after) e ∙ append_assoc rest (l ∷ []) after in
    let here : drop (length rest) lines ≡ l ∷ after =
    ap (λ (xs : List LatchLine). drop (length rest) xs) all ∙ drop_prefix rest (l ∷ after) in
    record { here = here; whole = ap (λ (xs : List LatchLine). rest ++ xs) here ∙ sym all }

place_more : (place : ℕ) (l : LatchLine) (ls : List LatchLine) →
    with_place (place_from (place + 1) ls) l.latch.output place ≡ place_from place (l ∷ ls)
unfolding place_from
place_more place l ls = refl

pub place_step : (lines left rest : List LatchLine) (l : LatchLine) (place : ℕ) (old new : Name → Option ℕ) →
    left ≡ rest ++ l ∷ [] → left ++ drop (length left) lines ≡ lines →
    old ≡ place_from (length left) (drop (length left) lines) → place ≡ length rest → new ≡ with_place old l.latch.output place →
    new ≡ place_from (length rest) (drop (length rest) lines)
place_step lines left rest l place old new e whole before number set =
    let cut : IsCut lines rest l (drop (length left) lines) = cut_last lines left rest l (drop (length left) lines) e whole in
    let count : length left ≡ length rest + 1 = ap (length {A = LatchLine}) e ∙ length-append rest (l ∷ []) in
    set
    ∙ ap (λ (k : ℕ). with_place old l.latch.output k) number
    ∙ ap (λ (f : Name → Option ℕ). with_place f l.latch.output (length rest))
    (before ∙ ap (λ (k : ℕ). place_from k (drop (length left) lines)) count)
    ∙ place_more (length rest) l (drop (length left) lines)
    ∙ ap (λ (ls : List LatchLine). place_from (length rest) ls) (sym cut.here)

-- ---- what stands at a place

found_from : (start : ℕ) (ls : List LatchLine) (n : Name) (p : ℕ) → place_from start ls n ≡ Some p →
    (i : ℕ) × (p ≡ start + i) × (line_named ls n ≡ slice_get ls i) × (i < length ls)
unfolding place_from line_named
found_from start [] n p e = absurd cc
found_from start (l ∷ ls) n p e =
    ⊎_elim
    (λ (same : is_same l.latch.output n ≡ true).
    let is : Some start ≡ Some p = sym (cond-true (is_same l.latch.output n) (Some start) (place_from (start + 1) ls n) same) ∙ e in
    let number : start ≡ p = cc in
    (0, omega (arith, number), cond-true (is_same l.latch.output n) (Some l) (line_named ls n) same, omega arith))
    (λ (other : is_same l.latch.output n ≡ false).
    let rest = found_from (start + 1) ls n p
    (sym (cond-false (is_same l.latch.output n) (Some start) (place_from (start + 1) ls n) other) ∙ e) in (
      suc rest.0,
      omega (arith, rest.1),
      cond-false (is_same l.latch.output n) (Some l) (line_named ls n) other ∙ rest.2,
      omega (arith, rest.3),
    ))
    (cases_Bool (is_same l.latch.output n))

none_from : (start : ℕ) (ls : List LatchLine) (n : Name) → place_from start ls n ≡ None → line_named ls n ≡ None
unfolding place_from line_named
none_from start [] n e = refl
none_from start (l ∷ ls) n e =
    ⊎_elim
    (λ (same : is_same l.latch.output n ≡ true).
    let is : Some start ≡ None = sym (cond-true (is_same l.latch.output n) (Some start) (place_from (start + 1) ls n) same) ∙ e in
    absurd cc)
    (λ (other : is_same l.latch.output n ≡ false).
    cond-false (is_same l.latch.output n) (Some l) (line_named ls n) other
    ∙ none_from (start + 1) ls n (sym (cond-false (is_same l.latch.output n) (Some start) (place_from (start + 1) ls n) other) ∙ e))
    (cases_Bool (is_same l.latch.output n))

pub place_within : (ls : List LatchLine) (n : Name) (p : ℕ) → place_of ls n ≡ Some p → p < length ls
place_within ls n p e = let found = found_from 0 ls n p e in omega (arith, found.1, found.3)

pub place_line : (ls : List LatchLine) (n : Name) (p : ℕ) → place_of ls n ≡ Some p → line_named ls n ≡ slice_get ls p
place_line ls n p e = let found = found_from 0 ls n p e in
    let same : found.0 ≡ p = omega (arith, found.1) in found.2 ∙ ap (slice_get ls) same

pub place_nowhere : (ls : List LatchLine) (n : Name) → place_of ls n ≡ None → line_named ls n ≡ None
place_nowhere ls n e = none_from 0 ls n e

-- ---- a place that was looked up

pub found_within : (ls : List LatchLine) (places : Name → Option ℕ) (n : Name) (r : Option ℕ) (p : ℕ) →
    places ≡ place_of ls → r ≡ places n → r ≡ Some p → p < length ls
found_within ls places n r p all is some = place_within ls n p (ap (λ (f : Name → Option ℕ). f n) (sym all) ∙ sym is ∙ some)

pub found_line : (ls : List LatchLine) (places : Name → Option ℕ) (n : Name) (r : Option ℕ) (p : ℕ) (l : LatchLine)
    (old new : List LatchLine) → places ≡ place_of ls → r ≡ places n → r ≡ Some p → slice_get ls p ≡ Some l →
    new ≡ old ++ l ∷ [] → new ≡ old ++ cons_option (line_named ls n) []
found_line ls places n r p l old new all is some at pushed =
    pushed
    ∙ ap (λ (x : Option LatchLine). old ++ cons_option x [])
    (sym (place_line ls n p (ap (λ (f : Name → Option ℕ). f n) (sym all) ∙ sym is ∙ some) ∙ at))

pub found_nowhere : (ls : List LatchLine) (places : Name → Option ℕ) (n : Name) (r : Option ℕ) (old : List LatchLine) →
    places ≡ place_of ls → r ≡ places n → r ≡ None → old ≡ old ++ cons_option (line_named ls n) []
found_nowhere ls places n r old all is none =
    sym (append-nil old)
    ∙ ap (λ (x : Option LatchLine). old ++ cons_option x [])
    (sym (place_nowhere ls n (ap (λ (f : Name → Option ℕ). f n) (sym all) ∙ sym is ∙ none)))
