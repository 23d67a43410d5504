-- The subproblems of a size that are tried.
use Rattle.std.proofs.Common.{◌≡◌, ℕ, Bool, true, false, cond, List, [], ◌∷◌, ◌++◌, map, refl, sym, ap, ◌∙◌, subst, append_assoc, append-nil}
use Rattle.std.proofs.lemmas.List.{map-append}
use Rattle.std.proofs.lemmas.List.Elements.{All-nil, All-push}
use Rattle.settings.specs.declared.methods.Method.{Method}
use Rattle.enc_theory.specs.declared.subproblem.Subproblem.{Subproblem}
use Rattle.cert_theory.specs.declared.data.Header.{Header}
use Rattle.cert_theory.specs.Certificate.{SubproblemLog, IsSubproblemLog, subproblem_of, subproblems_of, IsSection, stops_after, tried}
use Rattle.cert_theory.specs.LiveBounds.{HasLiveBounds, HasLiveBoundsIn}
use Rattle.size_loop.specs.Outcomes.{GoesOn, HasTried, AreTried}

-- before the first subproblem
pub tried_none : (h : Header) (size : ℕ) → AreTried h size [] [] false
unfolding GoesOn
tried_none h size = record { tried_so_far = (refl, tt); ends = All-nil (IsSubproblemLog h size); live_bounds = All-nil (HasLiveBounds h size) }

goes_more : (method : Method) (logs : List SubproblemLog) (p : SubproblemLog) → GoesOn method logs → stops_after method p.ended ≡ false → GoesOn method (logs ++ p ∷ [])
unfolding GoesOn
goes_more method [] p goes last = (last, tt)
goes_more method (q ∷ qs) p goes last = (goes.0, goes_more method qs p goes.1 last)

-- all are tried where the search goes on after each
tried_whole : (method : Method) (logs : List SubproblemLog) → GoesOn method logs → map subproblem_of logs ≡ tried method (map subproblem_of logs) logs
unfolding GoesOn tried
tried_whole method [] goes = refl
tried_whole method (q ∷ qs) goes =
    ap (λ (xs : List Subproblem). q.subproblem ∷ xs) (tried_whole method qs goes.1)
    ∙ ap (λ (t : Bool). q.subproblem ∷ tried method (cond t [] (map subproblem_of qs)) qs) (sym goes.0)

-- and none after a log that stops it
tried_stopped : (method : Method) (logs : List SubproblemLog) (p : SubproblemLog) (later : List Subproblem) → GoesOn method logs → stops_after method p.ended ≡ true
    → map subproblem_of (logs ++ p ∷ []) ≡ tried method (map subproblem_of logs ++ p.subproblem ∷ later) (logs ++ p ∷ [])
unfolding GoesOn tried
tried_stopped method [] p later goes stops = ap (λ (t : Bool). p.subproblem ∷ cond t [] later) (sym stops)
tried_stopped method (q ∷ qs) p later goes stops =
    ap (λ (xs : List Subproblem). q.subproblem ∷ xs) (tried_stopped method qs p later goes.1 stops)
    ∙ ap (λ (t : Bool). q.subproblem ∷ tried method (cond t [] (map subproblem_of qs ++ p.subproblem ∷ later)) (qs ++ p ∷ [])) (sym goes.0)

one_more : (method : Method) (subproblems : List Subproblem) (logs : List SubproblemLog) (p : SubproblemLog) (stopped : Bool) → stopped ≡ stops_after method p.ended
    → map subproblem_of logs ≡ subproblems → GoesOn method logs → HasTried method (subproblems ++ p.subproblem ∷ []) (logs ++ p ∷ []) stopped
one_more method subproblems logs p false is are goes =
    (map-append subproblem_of logs (p ∷ []) ∙ ap (λ (xs : List Subproblem). xs ++ p.subproblem ∷ []) are, goes_more method logs p goes (sym is))
one_more method subproblems logs p true is are goes = λ later.
    tried_stopped method logs p later goes (sym is)
    ∙ ap (λ (xs : List Subproblem). tried method (xs ++ p.subproblem ∷ later) (logs ++ p ∷ [])) are
    ∙ ap (λ (xs : List Subproblem). tried method xs (logs ++ p ∷ [])) (sym (append_assoc subproblems (p.subproblem ∷ []) later))

by_flag : (method : Method) (subproblems : List Subproblem) (logs : List SubproblemLog) (before : Bool) → before ≡ false → HasTried method subproblems logs before → (map subproblem_of logs ≡ subproblems) × GoesOn method logs
by_flag method subproblems logs before is tried_so_far = subst (HasTried method subproblems logs) is tried_so_far

-- one more subproblem with its log
pub tried_more : (h : Header) (size : ℕ) (subproblems : List Subproblem) (logs : List SubproblemLog) (before : Bool) (subproblem : Subproblem) (p : SubproblemLog) (stopped : Bool)
    → AreTried h size subproblems logs before → before ≡ false → p.subproblem ≡ subproblem → IsSubproblemLog h size p → HasLiveBounds h size p
    → stopped ≡ stops_after h.method p.ended → AreTried h size (subproblems ++ subproblem ∷ []) (logs ++ p ∷ []) stopped
tried_more h size subproblems logs before subproblem p stopped are goes same is live_bounds stops =
    let both = by_flag h.method subproblems logs before goes are.tried_so_far in
    record {
      tried_so_far = subst (λ (x : Subproblem). HasTried h.method (subproblems ++ x ∷ []) (logs ++ p ∷ []) stopped) same (one_more h.method subproblems logs p stopped stops both.0 both.1);
      ends = All-push (IsSubproblemLog h size) logs p are.ends is;
      live_bounds = All-push (HasLiveBounds h size) logs p are.live_bounds live_bounds;
    }

passed_over : (method : Method) (subproblems : List Subproblem) (logs : List SubproblemLog) (stopped : Bool) (subproblem : Subproblem) → stopped ≡ true → HasTried method subproblems logs stopped
    → HasTried method (subproblems ++ subproblem ∷ []) logs stopped
passed_over method subproblems logs false subproblem is so_far = absurd cc
passed_over method subproblems logs true subproblem is so_far = λ later.
    so_far (subproblem ∷ later) ∙ ap (λ (xs : List Subproblem). tried method xs logs) (sym (append_assoc subproblems (subproblem ∷ []) later))

-- one more subproblem after the search of the size stopped
pub tried_passed : (h : Header) (size : ℕ) (subproblems : List Subproblem) (logs : List SubproblemLog) (stopped : Bool) (subproblem : Subproblem)
    → AreTried h size subproblems logs stopped → stopped ≡ true → AreTried h size (subproblems ++ subproblem ∷ []) logs stopped
tried_passed h size subproblems logs stopped subproblem are is = record {
  tried_so_far = passed_over h.method subproblems logs stopped subproblem is are.tried_so_far;
  ends = are.ends;
  live_bounds = are.live_bounds;
}

tried_all : (method : Method) (subproblems : List Subproblem) (logs : List SubproblemLog) (stopped : Bool) → HasTried method subproblems logs stopped → map subproblem_of logs ≡ tried method subproblems logs
tried_all method subproblems logs false so_far =
    tried_whole method logs so_far.1 ∙ ap (λ (xs : List Subproblem). tried method xs logs) so_far.0
tried_all method subproblems logs true so_far = so_far [] ∙ ap (λ (xs : List Subproblem). tried method xs logs) (append-nil subproblems)

-- the logs of all are a section
pub tried_section : (h : Header) (size : ℕ) (subproblems : List Subproblem) (logs : List SubproblemLog) (stopped : Bool) → AreTried h size subproblems logs stopped → subproblems ≡ subproblems_of h size
    → IsSection h size (record { size = size; subproblems = logs }) × HasLiveBoundsIn h (record { size = size; subproblems = logs })
tried_section h size subproblems logs stopped are same = (
  record {
    size_is = refl;
    subproblems_are = tried_all h.method subproblems logs stopped are.tried_so_far ∙ ap (λ (xs : List Subproblem). tried h.method xs logs) same;
    logs = are.ends;
  },
  record { logs = are.live_bounds },
)

pub ruleset trying = (tried_none, tried_more, tried_passed, tried_section)
