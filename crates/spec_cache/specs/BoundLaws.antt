-- Proved bounds of keys.
use Rattle.std.proofs.Common.{◌≡◌, ℕ, nat_eq, arith, true, cond, List, [], ◌∷◌, ◌++◌, length, Some, refl, sym, ap, ◌∙◌, subst, inl, inr}
use Rattle.std.proofs.lemmas.Grind.{common_steps}
use Rattle.std.proofs.lemmas.Bool.{cases_Bool, cond-true, cond-false}
use Rattle.std.proofs.lemmas.List.{length-append}
use Rattle.std.specs.Prelude.{slice_index}
use Rattle.std.specs.Cmp.Lexicographic.{pointwise, bytes_decides}
use Rattle.std.specs.Map.{lookup}
use Rattle.chain_theory.specs.Operator.{Basis}
use Rattle.chain_theory.specs.Agreement.{NoneBelow}
use Rattle.op_basis.specs.Basis.{members}
use Rattle.tt_core.specs.Words.{Words, IsSpec, specification}
use Rattle.spec_cache.specs.declared.cache.Found.{Found}
use Rattle.spec_cache.specs.ProvedBounds.{CacheContents, spelled, IsProvedBound, HasProvedBounds}

-- ---- keys

abbrev rest : List ℕ → List ℕ
rest [] = []
rest (x ∷ xs) = xs

parts_same : (xs ys us vs : List ℕ) → length xs ≡ length ys → xs ++ us ≡ ys ++ vs → (xs ≡ ys) × (us ≡ vs)
parts_same [] [] us vs long e = (refl, e)
parts_same [] (y ∷ ys) us vs long e = absurd (omega (arith, long))
parts_same (x ∷ xs) [] us vs long e = absurd (omega (arith, long))
parts_same (x ∷ xs) (y ∷ ys) us vs long e =
    let after = parts_same xs ys us vs (omega (arith, long)) (ap rest e) in
    (ap (λ (z : ℕ). z ∷ xs) (ap (λ (zs : List ℕ). slice_index zs 0) e) ∙ ap (λ (zs : List ℕ). y ∷ zs) after.0, after.1)

abbrev words : ℕ → List ℕ → List ℕ → Words
words n on care = record { n = n; on = on; care = care }

-- a key determines the specification
spelled_once : (v w : Words) → IsSpec v → IsSpec w → spelled v ≡ spelled w → v ≡ w
spelled_once v w is_v is_w e =
    let long : length v.on ≡ length w.on = omega (arith, ap (λ (zs : List ℕ). length zs) e, length-append (v.n ∷ v.on) v.care, length-append (w.n ∷ w.on) w.care, is_v.together, is_w.together) in
    let parts = parts_same (v.n ∷ v.on) (w.n ∷ w.on) v.care w.care (omega (arith, long)) e in
    ap (λ (n : ℕ). words n v.on v.care) (ap (λ (zs : List ℕ). slice_index zs 0) parts.0)
    ∙ ap (λ (on : List ℕ). words w.n on v.care) (ap rest parts.0)
    ∙ ap (λ (care : List ℕ). words w.n w.on care) parts.1

pub known_bound : (basis : Basis) (v : Words) (fewest : ℕ) → IsSpec v → NoneBelow (specification v) basis fewest → IsProvedBound basis (spelled v) fewest
known_bound basis v fewest is none = λ w spec same. subst (λ (x : Words). NoneBelow (specification x) basis fewest) (spelled_once v w is spec (sym same)) none

-- the bound 0 is always true
pub nothing_known : (basis : Basis) (key : List ℕ) (fewest : ℕ) → fewest ≡ 0 → IsProvedBound basis key fewest
nothing_known basis key fewest none = λ w spec same q low has. absurd (omega (arith, low, none))

-- ---- the cache

abbrev pub cached : ℕ → List (List ℕ × Found) → CacheContents
cached basis entries = record { basis = basis; entries = entries }

some_same : (x y : Found) → Some x ≡ Some y → x ≡ y
some_same x y e = cc

same_key : (a b : List ℕ) → pointwise nat_eq a b ≡ true → a ≡ b
same_key a b e = (bytes_decides a b).0 e

-- each key has the entry that an update gives it
abbrev pub Updated : List (List ℕ × Found) → List (List ℕ × Found) → List ℕ → Found → Type 0
Updated old new key found = (q : List ℕ) → lookup (pointwise nat_eq q) new ≡ cond (pointwise nat_eq key q) (Some found) (lookup (pointwise nat_eq q) old)

pub noted_bounds : (basis : ℕ) (old new : List (List ℕ × Found)) (key : List ℕ) (found : Found) →
    HasProvedBounds (cached basis old) → IsProvedBound (members basis) key found.fewest → Updated old new key found →
    HasProvedBounds (cached basis new)
noted_bounds basis old new key found bounds bound updates = λ other seen at. elim (cases_Bool (pointwise nat_eq key other)) [
  | inl same ↦
      let there : Some found ≡ Some seen = sym (cond-true (pointwise nat_eq key other) (Some found) (lookup (pointwise nat_eq other) old) same) ∙ sym (updates other) ∙ at in
      subst (λ (k : List ℕ). IsProvedBound (members basis) k seen.fewest) (same_key key other same)
      (subst (λ (f : Found). IsProvedBound (members basis) key f.fewest) (some_same found seen there) bound)
  | inr apart ↦ bounds other seen (sym (cond-false (pointwise nat_eq key other) (Some found) (lookup (pointwise nat_eq other) old) apart) ∙ sym (updates other) ∙ at)
]

pub ruleset caching = (common_steps, nothing_known)
