-- What the listed edges are.
use Rattle.std.proofs.Common.{◌≡◌, ℕ, ◌^◌, ◌<◌, ◌≤◌, ◌==◌, Bool, true, false, not, ◌&&◌, ◌||◌, [], ◌∷◌, length, Contains, refl, subst, arith, ⊎_elim}
use Rattle.std.specs.Prelude.{if◌then◌else◌, nat_lt}
use Rattle.std.specs.List.{range_with_len}
use Rattle.std.proofs.lemmas.Bool.{and_parts, ltb-true}
use Rattle.chain_theory.specs.Specification.{input}
use Rattle.tt_core.specs.Words.{Words, cell_of}
use Rattle.clause_core.specs.Holds.{all_get, any_get, contains_cases, flat_map_get, range_contains, range_inside}
use Rattle.strong_theory.specs.declared.data.Edge.{Edge}
use Rattle.strong_theory.specs.Edges.{edge, same_at, agree_but, opposite, output_differs, some_output_differs, is_edge, raised, edge_at, edges_along, edges}

-- two rows that agree on all inputs but one, with an output that has to differ
pub record IsEdge (w : Words) (e : Edge) : Type 0 where
  pub input_from : 1 ≤ e.input
  pub input_to : e.input ≤ w.n
  pub low : e.low < 2 ^ w.n
  pub high : e.high < 2 ^ w.n
  pub others : (p : ℕ) → 1 ≤ p → p ≤ w.n → (p == e.input) ≡ false → input w.n e.low p ≡ input w.n e.high p
  pub output : ℕ
  pub output_from : 1 ≤ output
  pub output_to : output ≤ length w.on
  pub differs : opposite (cell_of w output e.low) (cell_of w output e.high) ≡ true

same_bits : (x y : Bool) → (if x then y else not y) ≡ true → x ≡ y
same_bits true true e = refl
same_bits true false e = absurd cc
same_bits false true e = absurd cc
same_bits false false e = refl

other_same : (t x y : Bool) → t ≡ false → (t || (if x then y else not y)) ≡ true → x ≡ y
other_same true x y e same = absurd cc
other_same false x y e same = same_bits x y same

tested_edge : (w : Words) (j a b : ℕ) → 1 ≤ j → j ≤ w.n → a < 2 ^ w.n → is_edge w j a b ≡ true → IsEdge w (edge j a b)
unfolding is_edge agree_but same_at some_output_differs output_differs
tested_edge w j a b from to row is =
    let (below, rest) = and_parts (nat_lt b (2 ^ w.n)) (agree_but w.n j a b && some_output_differs w a b) is in
    let (agree, some) = and_parts (agree_but w.n j a b) (some_output_differs w a b) rest in
    let found = any_get (output_differs w a b) (range_with_len 1 (length w.on)) some in
    let (h_from, h_to) = range_inside 1 (length w.on) found.element found.inside in
    record {
      input_from = from;
      input_to = to;
      low = row;
      high = ltb-true b (2 ^ w.n) below;
      others = λ p some low other. other_same (p == j) (input w.n a p) (input w.n b p) other
          (all_get (same_at w.n j a b) (range_with_len 1 w.n) p agree (range_contains 1 w.n p some (omega arith)));
      output = found.element;
      output_from = h_from;
      output_to = omega arith;
      differs = found.passes;
    }

only_if : {X : Type 0} (test : Bool) (x y : X) → Contains (if test then x ∷ [] else []) y → (test ≡ true) × (x ≡ y)
only_if true x y c = (refl, ⊎_elim (λ (e : x ≡ y). e) (λ (none : Contains [] y). absurd (omega (arith, none.1))) (contains_cases x y [] c))
only_if false x y c = absurd (omega (arith, c.1))

pub edges_are : (w : Words) (e : Edge) → Contains (edges w) e → IsEdge w e
unfolding edges edges_along edge_at
edges_are w e c =
    let by_input = flat_map_get (edges_along w) (range_with_len 1 w.n) e c in
    let j : ℕ = by_input.source in
    let (from, to) = range_inside 1 w.n by_input.source by_input.inside in
    let by_row = flat_map_get (edge_at w by_input.source) (range_with_len 0 (2 ^ w.n)) e by_input.gives in
    let (start, row) = range_inside 0 (2 ^ w.n) by_row.source by_row.inside in
    let (is, same) = only_if (is_edge w by_input.source by_row.source (raised w.n by_input.source by_row.source))
    (edge by_input.source by_row.source (raised w.n by_input.source by_row.source)) e by_row.gives in
    subst (IsEdge w) same (tested_edge w by_input.source by_row.source (raised w.n by_input.source by_row.source) from (omega arith) (omega arith) is)
