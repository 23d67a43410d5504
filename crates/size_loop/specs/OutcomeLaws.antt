-- The logs of subproblems, one after the other, and chains found without a formula.
use Rattle.std.proofs.Common.{◌≡◌, ℕ, ◌≤◌, List, [], ◌∷◌, ◌++◌, length, map, Option, Some, None, refl, ap, ◌∙◌, subst, arith}
use Rattle.std.proofs.lemmas.Grind.{common_steps}
use Rattle.std.proofs.lemmas.List.{map-append}
use Rattle.std.proofs.lemmas.List.Elements.{All-nil, All-push}
use Rattle.chain_theory.specs.Chain.{Chain}
use Rattle.tt_core.specs.Words.{specification}
use Rattle.op_basis.specs.Basis.{members}
use Rattle.step_core.specs.LeastChains.{IsChainWithin, IsLeastAnswer}
use Rattle.std.specs.Prelude.{IfSome}
use Rattle.enc_theory.specs.declared.subproblem.Subproblem.{Subproblem}
use Rattle.cert_theory.specs.declared.data.Header.{Header}
use Rattle.cert_theory.specs.Certificate.{SubproblemLog, IsSubproblemLog, subproblem_of, IsFound, IsTrailer, found as found_at}
use Rattle.cert_theory.specs.LiveBounds.{HasLiveBounds}
use Rattle.size_loop.specs.Outcomes.{AreLogged, IsKnown, HasSize}

-- without subproblems there are no logs
pub logged_none : (h : Header) (size : ℕ) → AreLogged h size [] []
logged_none h size = record { subproblems_are = refl; ends = All-nil (IsSubproblemLog h size); live_bounds = All-nil (HasLiveBounds h size) }

subproblems_more : (subproblems : List Subproblem) (logs : List SubproblemLog) (subproblem : Subproblem)
    (p : SubproblemLog) → map subproblem_of logs ≡ subproblems → p.subproblem ≡ subproblem →
    map subproblem_of (logs ++ p ∷ []) ≡ subproblems ++ subproblem ∷ []
subproblems_more subproblems logs subproblem p are same =
    map-append subproblem_of logs (p ∷ [])
    ∙ ap (λ (xs : List Subproblem). xs ++ p.subproblem ∷ []) are
    ∙ ap (λ (x : Subproblem). subproblems ++ x ∷ []) same

-- one more subproblem with its log
pub logged_more : (h : Header) (size : ℕ) (subproblems : List Subproblem) (logs : List SubproblemLog)
    (subproblem : Subproblem) (p : SubproblemLog) → AreLogged h size subproblems logs → p.subproblem ≡ subproblem →
    IsSubproblemLog h size p → HasLiveBounds h size p → AreLogged h size (subproblems ++ subproblem ∷ []) (logs ++
    p ∷ [])
logged_more h size subproblems logs subproblem p are same is live_bounds = record {
  subproblems_are = subproblems_more subproblems logs subproblem p are.subproblems_are same;
  ends = All-push (IsSubproblemLog h size) logs p are.ends is;
  live_bounds = All-push (HasLiveBounds h size) logs p are.live_bounds live_bounds;
}

-- the result of an enumeration is kept
pub enumerated_few : (h : Header) (most : ℕ) (found : Option Chain) → IsLeastAnswer (specification h.spec) (members h.basis) most found → most ≤ h.max → IsKnown h found
enumerated_few h most None answer room = tt
enumerated_few h most (Some c) short room = record { chain = short.small.chain; size_is = refl; size_to = omega (arith, short.few, room); over = short.over; agrees = short.agrees }

-- so is the result of a walk
pub walked_within : (h : Header) (found : Option Chain) → IfSome found (λ c. IsChainWithin (specification h.spec) (members h.basis) h.max c) → IsKnown h found
walked_within h None within = tt
walked_within h (Some c) within = record { chain = within.small.chain; size_is = refl; size_to = within.few; over = within.over; agrees = within.agrees }

-- its size is the number of its steps
pub known_found : (h : Header) (size : ℕ) (c : Chain) → IsFound h (length c.steps) c → length c.steps ≡ size → IsFound h size c
known_found h size c is count = subst (λ (n : ℕ). IsFound h n c) count is

-- and it ends the search at that size
pub known_ending : (h : Header) (next : ℕ) (low : Option ℕ) (found : Option Chain) → IsKnown h found → HasSize next found → IsTrailer h next low found (found_at next low)
known_ending h next low None is has = absurd has
known_ending h next low (Some c) is has = (known_found h next c is has, refl)

pub ruleset knowing = (common_steps, enumerated_few, walked_within, known_found, known_ending)
