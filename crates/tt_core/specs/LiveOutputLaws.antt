-- The list of live outputs: its order, and what it contains.
use Rattle.std.proofs.Common.{◌≡◌, ◌⊎◌, ℕ, zero, suc, ◌+◌, ◌<◌, ◌≤◌, Bool, true, false, List, [], ◌∷◌, ◌++◌, length, get_or, Contains, All, refl, sym, ap, ◌∙◌, subst, arith, inl, inr}
use Rattle.std.specs.Prelude.{if◌then◌else◌}
use Rattle.std.specs.List.Sorted.{IsStrictlyIncreasing}
use Rattle.std.proofs.lemmas.Bool.{cases_lt}
use Rattle.std.proofs.lemmas.List.{length_push, get_or_append_left, get_or_push}
use Rattle.std.proofs.lemmas.List.Elements.{Contains-get_or, Contains-append_left, Contains-push, Contains-push_cases}
use Rattle.chain_theory.specs.Specification.{Specification}
use Rattle.tt_core.specs.Live.{is_live, live_among, live_outputs}

-- an element of a list to which a number is added where a test holds
added_cases : (test : Bool) (xs : List ℕ) (y x : ℕ) → Contains (if test then xs ++ y ∷ [] else xs) x → Contains xs x ⊎ ((test ≡ true) × (y ≡ x))
added_cases true xs y x c = elim (Contains-push_cases xs y x c) [
  | inl old ↦ inl old
  | inr new ↦ inr (refl, new)
]
added_cases false xs y x c = inl c

-- the list keeps its elements
added_keeps : (test : Bool) (xs : List ℕ) (y x : ℕ) → Contains xs x → Contains (if test then xs ++ y ∷ [] else xs) x
added_keeps true xs y x c = Contains-append_left xs (y ∷ []) x c
added_keeps false xs y x c = c

-- and contains the number where the test holds
added_has : (test : Bool) (xs : List ℕ) (y : ℕ) → test ≡ true → Contains (if test then xs ++ y ∷ [] else xs) y
added_has true xs y e = Contains-push xs y
added_has false xs y e = absurd cc

-- each number among the first k live outputs is a live output's
pub among_live : (s : Specification) (k h : ℕ) → Contains (live_among s k) h → (1 ≤ h) × (h ≤ k) × (is_live s h ≡ true)
unfolding live_among
among_live s zero h c = absurd (omega (arith, c.1))
among_live s (suc k) h c = elim (added_cases (is_live s (suc k)) (live_among s k) (suc k) h c) [
  | inl old ↦ let before = among_live s k h old in (before.0, omega (arith, before.1), before.2)
  | inr new ↦ (omega (arith, new.1), omega (arith, new.1), ap (is_live s) (sym new.1) ∙ new.0)
]

-- and each live output's is among them
pub live_is_among : (s : Specification) (k h : ℕ) → 1 ≤ h → h ≤ k → is_live s h ≡ true → Contains (live_among s k) h
unfolding live_among
live_is_among s zero h some low live = absurd (omega arith)
live_is_among s (suc k) h some low live = elim (cases_lt h (suc k)) [
  | inl before ↦ added_keeps (is_live s (suc k)) (live_among s k) (suc k) h (live_is_among s k h some (omega arith) live)
  | inr last ↦
      let same : h ≡ suc k = omega arith in
      let is : is_live s (suc k) ≡ true = ap (is_live s) (sym same) ∙ live in
      subst (Contains (live_among s (suc k))) (sym same) (added_has (is_live s (suc k)) (live_among s k) (suc k) is)
]

-- an increasing list followed by a greater number is increasing
rising_push : (xs : List ℕ) (y : ℕ) → IsStrictlyIncreasing xs → All (λ x. x < y) xs → IsStrictlyIncreasing (xs ++ y ∷ [])
rising_push xs y rising low k within =
    let long = length_push xs y in
    let prefix : get_or (xs ++ y ∷ []) k 0 ≡ get_or xs k 0 = get_or_append_left xs (y ∷ []) 0 k (omega arith) in
    elim (cases_lt (k + 1) (length xs)) [
      | inl inside ↦ rw (prefix, get_or_append_left xs (y ∷ []) 0 (k + 1) inside) (rising k inside)
      | inr past ↦ rw (prefix, get_or_push xs y 0 (k + 1) (omega arith)) (low k 0 (omega arith))
    ]

added_rises : (test : Bool) (xs : List ℕ) (y : ℕ) → IsStrictlyIncreasing xs → All (λ x. x < y) xs → IsStrictlyIncreasing (if test then xs ++ y ∷ [] else xs)
added_rises true xs y rising low = rising_push xs y rising low
added_rises false xs y rising low = rising

-- the live outputs among the first k are increasing
pub among_rises : (s : Specification) (k : ℕ) → IsStrictlyIncreasing (live_among s k)
unfolding live_among
among_rises s zero = λ i within. absurd (omega arith)
among_rises s (suc k) =
    added_rises (is_live s (suc k)) (live_among s k) (suc k) (among_rises s k) (λ i d within. let low =
    among_live s k (get_or (live_among s k) i d) (Contains-get_or (live_among s k) i d within) in
    omega (arith, low.1))

-- a number is a live output's exactly where the list contains it
pub contained_live : (s : Specification) (h : ℕ) → Contains (live_outputs s) h → (1 ≤ h) × (h ≤ s.outputs) × (is_live s h ≡ true)
contained_live s h c = among_live s s.outputs h c

pub live_contained : (s : Specification) (h : ℕ) → (1 ≤ h) × (h ≤ s.outputs) × (is_live s h ≡ true) → Contains (live_outputs s) h
live_contained s h live = live_is_among s s.outputs h live.0 live.1 live.2
