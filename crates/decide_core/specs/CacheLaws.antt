-- What the cache and a checked chain prove about a header.
use Rattle.std.proofs.Common.{◌≡◌, ℕ, ◌≤◌, ◌<◌, true, List, ◌∷◌, ◌++◌, length, Option, Some, None, refl, sym, ap, ◌∙◌, subst, arith, inl, inr}
use Rattle.std.specs.Prelude.{All, max, slice_index_or}
use Rattle.std.proofs.Math.Seq.{get_or-append_seam}
use Rattle.std.proofs.lemmas.Bool.{cases_lt, true≢false}
use Rattle.std.proofs.lemmas.List.{length-append}
use Rattle.chain_theory.specs.Chain.{Step, Chain}
use Rattle.chain_theory.specs.Operator.{Basis}
use Rattle.chain_theory.specs.Specification.{Specification}
use Rattle.chain_theory.specs.Agreement.{IsOver, Agrees, NoneBelow}
use Rattle.chain_theory.specs.Difference.{IsFirstDifference, IsComparison}
use Rattle.tt_core.specs.Words.{specification}
use Rattle.op_basis.specs.Basis.{members}
use Rattle.chain_core.specs.Steps.{IsSmallChain}
use Rattle.chain_core.specs.Outside.{IsFirstOutside, IsBasisCheck}
use Rattle.cert_theory.specs.declared.data.Header.{Header}
use Rattle.cert_theory.specs.Certificate.{IsHeader}
use Rattle.spec_cache.specs.ProvedBounds.{spelled, IsProvedBound}
use Rattle.spec_cache.specs.BoundLaws.{known_bound}
use Rattle.decide_core.specs.declared.deciding.SizeResult.{SizeResult}
use Rattle.decide_core.specs.declared.deciding.SizeResult.TheVariants as sizes
use Rattle.decide_core.specs.declared.deciding.Searched.{Searched}
use Rattle.decide_core.specs.declared.deciding.Searched.TheVariants as searches
use Rattle.decide_core.specs.Decided.{Fewer, HasNone, IsShorter, IsSearched, IsSized}
use Rattle.decide_core.specs.DecidedLaws.{deciding}

-- ---- chains that are judged

pub judged_over : (basis : Basis) (c : Chain) (o : Option ℕ) → IsBasisCheck basis c o → o ≡ None → IsOver basis c
judged_over basis c o is e = subst (λ (x : Option ℕ). IsBasisCheck basis c x) e is

pub compared_agrees : (c : Chain) (s : Specification) (o : Option (ℕ × ℕ)) → IsComparison c s o → o ≡ None → Agrees c s
compared_agrees c s o is e = subst (λ (x : Option (ℕ × ℕ)). IsComparison c s x) e is

judged_apart : (basis : Basis) (c : Chain) (place : ℕ) → IsFirstOutside basis c place → IsOver basis c → ⊥
judged_apart basis c place is over =
    let at : ℕ = length is.prefix in
    let inside : at < length (is.prefix ++ is.step ∷ is.following) = omega (arith, length-append is.prefix (is.step ∷ is.following)) in
    let member : basis (slice_index_or (is.prefix ++ is.step ∷ is.following) at is.step).op ≡ true =
    (subst (λ (ss : List Step). All (λ (s : Step). basis s.op ≡ true) ss) is.steps over) at is.step inside in
    true≢false (sym member ∙ ap (λ (s : Step). basis s.op) (get_or-append_seam is.prefix is.step is.following is.step) ∙ is.outside)

pub judged_outside : (basis : Basis) (c : Chain) (o : Option ℕ) (place : ℕ) → IsBasisCheck basis c o → o ≡ Some place → IsOver basis c → ⊥
judged_outside basis c o place is e over = let outside : IsBasisCheck basis c (Some place) = subst (λ (x : Option ℕ). IsBasisCheck basis c x) e is in judged_apart basis c place outside over

pub compared_differs : (c : Chain) (s : Specification) (o : Option (ℕ × ℕ)) (at : ℕ × ℕ) → IsComparison c s o → o ≡ Some at → Agrees c s → ⊥
compared_differs c s o at is e agrees =
    let differs : IsComparison c s (Some at) = subst (λ (x : Option (ℕ × ℕ)). IsComparison c s x) e is in
    missed_none differs
  where
    missed_none : IsFirstDifference c s at.0 at.1 → ⊥
    missed_none differs = true≢false (sym (agrees.cells at.0 at.1 differs.output_from differs.output differs.row) ∙ differs.missed)

-- ---- the properties of a solution

pub shorter_inputs : (h : Header) (c : Chain) → (c.n ≡ h.spec.n → ⊥) → IsShorter h c → ⊥
shorter_inputs h c other short = other short.found.agrees.inputs

pub shorter_outputs : (h : Header) (c : Chain) → (length c.outs ≡ length h.spec.on → ⊥) → IsShorter h c → ⊥
shorter_outputs h c other short = other short.found.agrees.outputs

pub shorter_few : (h : Header) (c : Chain) → h.max < length c.steps → IsShorter h c → ⊥
shorter_few h c many short = omega (arith, many, short.found.size_is, short.found.size_to)

pub shorter_over : (h : Header) (c : Chain) → (IsOver (members h.basis) c → ⊥) → IsShorter h c → ⊥
shorter_over h c not_over short = not_over short.found.over

pub shorter_agrees : (h : Header) (c : Chain) → (Agrees c (specification h.spec) → ⊥) → IsShorter h c → ⊥
shorter_agrees h c differs short = differs short.found.agrees

pub judged_shorter : (h : Header) (c : Chain) → IsSmallChain c → length c.steps ≤ h.max → IsOver (members h.basis) c → Agrees c (specification h.spec) → IsShorter h c
judged_shorter h c small few over agrees = record {
  size = length c.steps;
  found = record { chain = small.chain; size_is = refl; size_to = few; over = over; agrees = agrees };
}

-- ---- proved bounds

pub found_in_cache : (h : Header) (basis fewest : ℕ) (key : List ℕ) → IsHeader h → basis ≡ h.basis → key ≡ spelled h.spec → IsProvedBound (members basis) key fewest → Fewer h fewest
found_in_cache h basis fewest key header same spells bound = subst (λ (b : ℕ). NoneBelow (specification h.spec) (members b) fewest) same (bound h.spec header.tables (sym spells))

-- the greater of two lower bounds
pub fewer_both : (h : Header) (counted known : ℕ) → Fewer h counted → Fewer h known → Fewer h (max counted known)
fewer_both h counted known first second q low has = elim (cases_lt q counted) [
  | inl less ↦ first q less has
  | inr most ↦ second q (omega (arith, low, most)) has
]

pub noted : (h : Header) (basis fewest : ℕ) (key : List ℕ) → IsHeader h → basis ≡ h.basis → key ≡ spelled h.spec → Fewer h fewest → IsProvedBound (members basis) key fewest
noted h basis fewest key header same spells none =
    subst (λ (b : ℕ). IsProvedBound (members b) key fewest) (sym same)
    (subst (λ (k : List ℕ). IsProvedBound (members h.basis) k fewest) (sym spells) (known_bound (members h.basis) h.spec fewest header.tables none))

-- ---- what a search finds

pub found_low : (h : Header) (s : SizeResult) (c : Chain) (low : ℕ) → IsSized h s → s ≡ sizes.Found c low → Fewer h low
found_low h s c low is e = let found : IsSized h (sizes.Found c low) = subst (IsSized h) e is in found.1

pub found_open : (h : Header) (s : SizeResult) (low : ℕ) → IsSized h s → s ≡ sizes.Open low → Fewer h low
found_open h s low is e = subst (IsSized h) e is

pub found_shorter : (h : Header) (s : SizeResult) (c : Chain) (low : ℕ) → IsSized h s → s ≡ sizes.Found c low → IsShorter h c
found_shorter h s c low is e = let found : IsSized h (sizes.Found c low) = subst (IsSized h) e is in found.0

pub whole_least : (h : Header) (s : Searched) → IsSearched h s → s ≡ searches.Nothing → HasNone h
whole_least h s is e = subst (IsSearched h) e is

pub whole_shorter : (h : Header) (s : Searched) (c : Chain) (fewest : ℕ) → IsSearched h s → s ≡ searches.Found c fewest → IsShorter h c
whole_shorter h s c fewest is e = let found : IsSearched h (searches.Found c fewest) = subst (IsSearched h) e is in found.0

pub whole_fewest : (h : Header) (s : Searched) (c : Chain) (fewest : ℕ) → IsSearched h s → s ≡ searches.Found c fewest → Fewer h fewest
whole_fewest h s c fewest is e = let found : IsSearched h (searches.Found c fewest) = subst (IsSearched h) e is in found.1

pub found_none : (h : Header) (s : SizeResult) → IsSized h s → s ≡ sizes.Nothing → HasNone h
found_none h s is e = subst (IsSized h) e is

pub ruleset caching = (
  deciding,
  judged_over,
  judged_outside,
  compared_agrees,
  compared_differs,
  judged_shorter,
  shorter_inputs,
  shorter_outputs,
  shorter_few,
  shorter_over,
  shorter_agrees,
  found_in_cache,
)
