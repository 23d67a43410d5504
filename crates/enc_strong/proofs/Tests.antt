-- Tests of all numbers of a range, and of some, one at a time.
use Rattle.std.proofs.Common.{◌≡◌, ℕ, suc, ◌+◌, ◌-◌, ◌^◌, ◌<◌, ◌≤◌, Bool, true, false, ◌&&◌, ◌||◌, List, [], ◌∷◌, ◌++◌, length, refl, sym, subst, ap, ◌∙◌, arith}
use Rattle.std.specs.List.{range_with_len, list_all, list_any}
use Rattle.std.proofs.lemmas.Bool.{lt-ltb, le-ltb}
use Rattle.std.proofs.lemmas.Grind.{common_steps}
use Rattle.std.proofs.lemmas.List.Folds.{list_all-append, list_any-append}
use Rattle.clause_core.specs.RangeLaws.{range_push}
use Rattle.tt_core.specs.Words.{Words, IsSpec}
use Rattle.strong_theory.specs.declared.data.Edge.{Edge}
use Rattle.strong_theory.specs.Edges.{agree_but, some_output_differs, is_edge, edges}
use Rattle.enc_strong.specs.Bounds.{edges-few}

last_all : (x y : Bool) → (x && (y && true)) ≡ (x && y)
last_all true true = refl
last_all true false = refl
last_all false y = refl

last_any : (x y : Bool) → (x || (y || false)) ≡ (x || y)
last_any true y = refl
last_any false true = refl
last_any false false = refl

range_to : (a j : ℕ) → a ≤ j → range_with_len a (j + 1 - a) ≡ range_with_len a (j - a) ++ j ∷ []
range_to a j low =
    let n : ℕ = j - a in
    let e : j + 1 - a ≡ suc n = omega arith in
    let last : a + n ≡ j = omega arith in
    rw e (range_push a n ∙ ap (λ (k : ℕ). range_with_len a n ++ k ∷ []) last)

pub all-turn : (f : ℕ → Bool) (a j : ℕ) → a ≤ j → list_all f (range_with_len a (j + 1 - a)) ≡ (list_all f (range_with_len a (j - a)) && f j)
all-turn f a j low = ap (list_all f) (range_to a j low) ∙ list_all-append f (range_with_len a (j - a)) (j ∷ []) ∙ last_all (list_all f (range_with_len a (j - a))) (f j)

pub any-turn : (f : ℕ → Bool) (a j : ℕ) → a ≤ j → list_any f (range_with_len a (j + 1 - a)) ≡ (list_any f (range_with_len a (j - a)) || f j)
any-turn f a j low = ap (list_any f) (range_to a j low) ∙ list_any-append f (range_with_len a (j - a)) (j ∷ []) ∙ last_any (list_any f (range_with_len a (j - a))) (f j)

pub ruleset tests = (common_steps, all-turn, any-turn)

-- the test of an edge, whose second row is one
pub edge_of_row : (w : Words) (j a b : ℕ) → b < 2 ^ w.n → is_edge w j a b ≡ (agree_but w.n j a b && some_output_differs w a b)
unfolding is_edge
edge_of_row w j a b row = rw (lt-ltb b (2 ^ w.n) row) refl

pub edge_of_none : (w : Words) (j a b : ℕ) → 2 ^ w.n ≤ b → is_edge w j a b ≡ false
unfolding is_edge
edge_of_none w j a b past = rw (le-ltb b (2 ^ w.n) past) refl

pub ruleset edge_tests = (common_steps, edge_of_row, edge_of_none)

-- the listed edges are few
pub few_edges : (w : Words) (es : List Edge) → IsSpec w → es ≡ edges w → length es ≤ 384
few_edges w es is all = subst (λ (xs : List Edge). length xs ≤ 384) (sym all) (edges-few w is.inputs)

pub ruleset listing = (common_steps, few_edges)
