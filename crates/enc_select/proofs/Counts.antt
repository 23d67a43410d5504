-- The numbers of clauses are within the program's bounds.
use Rattle.std.specs.Prelude.{ℕ, ◌+◌, ◌-◌, ◌*◌, ◌^◌, ◌≤◌, ◌<◌, ◌==◌, ◌&&◌, ℤ, Bool, true, false, List, [], ◌∷◌, ◌++◌, map, length, nat_lt, min, max, if◌then◌else◌}
use Rattle.std.specs.List.{range_with_len, flat_map}
use Rattle.std.proofs.Common.{arith, length-append}
use Rattle.op_basis.specs.Basis.{members}
use Rattle.op_basis.specs.Closed.{swap_closed, const_closed, reapply_closed}
use Rattle.tt_core.specs.Words.{Words}
use Rattle.enc_theory.specs.declared.data.Side.{Side}
use Rattle.enc_theory.specs.declared.data.Side.TheVariants.{First, Second}
use Rattle.enc_theory.specs.declared.data.Dimensions.{Dimensions}
use Rattle.clause_core.specs.Clauses.{written}
use Rattle.clause_core.specs.declared.raw.RawLit.TheVariants.{Var}
use Rattle.enc_theory.specs.Numbering.{places, rows, f_var}
use Rattle.enc_theory.specs.Select.{below, chooses, not_these, choice_exists, choices_exist, operands_exist, copy_raw}
use Rattle.enc_theory.specs.Select.{copy_row, copy_place, copy_step, copies, result_raw, result_clause, result_bit}
use Rattle.enc_theory.specs.Select.{result_row, result_step, results, chosen_chain, rising_pair, rising_from}
use Rattle.enc_theory.specs.Select.{rising_step, rising, used_step, used_steps, equal_choice, negation_pair}
use Rattle.enc_theory.specs.Select.{negation_from, negation_step, trivial_step, trivial_steps, falling_pair}
use Rattle.enc_theory.specs.Select.{falling_from, falling_step, not_falling, different, no_reapplication_operand}
use Rattle.enc_theory.specs.Select.{no_reapplication_operands, no_reapplication_from, no_reapplication_after}
use Rattle.enc_theory.specs.Select.{no_reapplication_step, no_reapplication_steps, chosen_cuts}
use Rattle.enc_base.specs.Room.{IsSmall}
use Rattle.clause_core.specs.CountLaws.{flat_map-few, pieces-few, written-few, times-few}
use Rattle.enc_base.specs.Counts.{out_exists-few, out_values-few, operators-few}
use Rattle.enc_base.specs.BoundLaws.{rows_few}
use Rattle.enc_cuts.specs.Counts.{if-few, idle-few, row_0-few}

-- over all places below one, and over all steps
below-few : {X : Type 0} (f : ℕ → List X) (k i : ℕ) → i ≤ 23 → ((j : ℕ) → j < i → length (f j) ≤ k) → length (flat_map f (below i)) ≤ 22 * k
below-few {X} f k i low each =
    let all : length (flat_map f (range_with_len 1 (i - 1))) ≤ (i - 1) * k = flat_map-few f k 1 (i - 1) (λ j from to. each j (omega arith)) in
    let most : (i - 1) * k ≤ 22 * k = times-few (i - 1) k 22 k (omega arith) (omega arith) in
    omega arith

steps-few : {X : Type 0} (f : ℕ → List X) (k a r : ℕ) → r ≤ 16 → a + r ≤ 23 → ((i : ℕ) → i ≤ 22 → length (f i) ≤ k) → length (flat_map f (range_with_len a r)) ≤ 16 * k
steps-few {X} f k a r few low each =
    let all : length (flat_map f (range_with_len a r)) ≤ r * k = flat_map-few f k a r (λ i from to. each i (omega arith)) in
    let most : r * k ≤ 16 * k = times-few r k 16 k few (omega arith) in
    omega arith

rows-few : {X : Type 0} (f : ℕ → List X) (k : ℕ) (z : Dimensions) → IsSmall z → ((t : ℕ) → length (f t) ≤ k) → length (flat_map f (rows z)) ≤ 64 * k
rows-few {X} f k z small each =
    let all : length (flat_map f (range_with_len 0 (2 ^ z.n))) ≤ 2 ^ z.n * k = flat_map-few f k 0 (2 ^ z.n) (λ t from to. each t) in
    let most : 2 ^ z.n * k ≤ 64 * k = times-few (2 ^ z.n) k 64 k (rows_few z.n small.inputs) (omega arith) in
    omega arith

all_steps-few : {X : Type 0} (f : ℕ → List X) (k : ℕ) (z : Dimensions) → IsSmall z → ((i : ℕ) → i ≤ 22 → length (f i) ≤ k) → length (flat_map f (places z)) ≤ 16 * k
all_steps-few {X} f k z small each = let n = small.inputs in let r = small.steps in steps-few f k (z.n + 1) z.r r (omega arith) each

unless-few : (test : Bool) (clauses : List (List ℤ)) (k : ℕ) → length clauses ≤ k → length (if test then [] else clauses) ≤ k
unless-few true clauses k few = omega arith
unless-few false clauses k few = few

-- ---- the clauses that define chains

operands-few : (z : Dimensions) → IsSmall z → length (operands_exist z) ≤ 32
unfolding operands_exist choices_exist choice_exists
operands-few z small =
    let all = all_steps-few (choices_exist z) 2 z small (λ i low.
    rw length-append (omega (
      arith,
      written-few (map (chooses z First i) (below i)),
      written-few (map (chooses z Second i) (below i)),
    ))) in
    omega (arith, all)

copy_row-few : (z : Dimensions) (side : Side) (i j t : ℕ) → length (copy_row z side i j t) ≤ 2
unfolding copy_row
copy_row-few z side i j t = rw length-append (omega (arith, written-few (copy_raw z side i j t false), written-few (copy_raw z side i j t true)))

copies-few : (z : Dimensions) (side : Side) → IsSmall z → length (copies z side) ≤ 45056
unfolding copies copy_step copy_place
copies-few z side small =
    let all = all_steps-few (copy_step z side) 2816 z small (λ i low. let own =
    below-few (copy_place z side i) 128 i (omega arith) (λ j less.
    rows-few (copy_row z side i j) 2 z small (λ t. copy_row-few z side i j t)) in omega (arith, own)) in
    omega (arith, all)

result_bit-few : (z : Dimensions) (i t : ℕ) (a : Bool) → length (result_bit z i t a) ≤ 4
unfolding result_bit result_clause
result_bit-few z i t a = rw (length-append, length-append, length-append)
    (omega (
      arith,
      written-few (result_raw z i t a false false),
      written-few (result_raw z i t a false true),
      written-few (result_raw z i t a true false),
      written-few (result_raw z i t a true true),
    ))

results-few : (z : Dimensions) → IsSmall z → length (results z) ≤ 8192
unfolding results result_step result_row
results-few z small =
    let all = all_steps-few (result_step z) 512 z small (λ i low. rows-few (result_row z i) 8 z small (λ t. rw length-append (omega (arith, result_bit-few z i t false, result_bit-few z i t true)))) in
    omega (arith, all)

chain-few : (w : Words) (basis : ℕ) (z : Dimensions) → IsSmall z → length (chosen_chain w basis z) ≤ 1000000
unfolding chosen_chain
chain-few w basis z small =
    rw (length-append, length-append, length-append, length-append, length-append, length-append)
    (omega (arith, out_exists-few z small, out_values-few w z small, operands-few z small, copies-few z First small, copies-few z Second small, results-few z small, operators-few basis z small))

-- ---- constraints

rising-few : (basis : ℕ) (z : Dimensions) → IsSmall z → length (rising basis z) ≤ 7744
unfolding rising rising_step rising_from rising_pair
rising-few basis z small = if-few (swap_closed (members basis)) (flat_map (rising_step z) (places z)) 7744
    (let all = all_steps-few (rising_step z) 484 z small (λ i low. let own =
    below-few (rising_from z i) 22 i (omega arith) (λ j less. let row =
    below-few (rising_pair z i j) 1 j (omega arith) (λ k less'. written-few _) in omega (arith, row)) in
    omega (arith, own)) in omega (arith, all))

used-few : (z : Dimensions) → IsSmall z → length (used_steps z) ≤ 16
unfolding used_steps used_step
used-few z small = let all = all_steps-few (used_step z) 1 z small (λ i low. written-few _) in omega (arith, all)

equal-few : (constants : Bool) (z : Dimensions) (i j : ℕ) → length (equal_choice constants z i j) ≤ 2
unfolding equal_choice
equal-few true z i j = rw length-append (omega (
  arith,
  written-few (not_these z i j j ++
      Var (f_var z i false false) true ∷ []),
  written-few (not_these z i j j ++ Var (f_var z i true true) false ∷ []),
))
equal-few false z i j = omega (arith, written-few (not_these z i j j ++ Var (f_var z i false false) true ∷ Var (f_var z i true true) false ∷ []))

negation-few : (basis : ℕ) (z : Dimensions) (i op : ℕ) → i ≤ 22 → length (negation_step basis z i op) ≤ 484
unfolding negation_step negation_from negation_pair
negation-few basis z i op low = if-few (members basis op) (flat_map (negation_from z i op) (below i)) 484
    (let all = below-few (negation_from z i op) 22 i (omega arith) (λ j less. let row =
    below-few (negation_pair z i op j) 1 i (omega arith) (λ k less'.
    unless-few (j == k) (written _) 1 (written-few _)) in omega (arith, row)) in omega (arith, all))

trivial-few : (basis : ℕ) (z : Dimensions) → IsSmall z → length (trivial_steps basis z) ≤ 16256
unfolding trivial_steps trivial_step
trivial-few basis z small =
    let constants : Bool = const_closed (members basis) in
    let all = all_steps-few (trivial_step constants basis z) 1016 z small (λ i low.
    let equals = below-few (equal_choice constants z i) 2 i (omega arith) (λ j less. equal-few constants z i j) in
    let negations = pieces-few (negation_step basis z i) 484 (10 ∷ 12 ∷ []) (λ op. negation-few basis z i op low) in
    rw (length-append, length-append) (omega (arith, idle-few constants basis z i, equals, negations))) in
    omega (arith, all)

not_falling-few : (basis : ℕ) (z : Dimensions) → IsSmall z → length (not_falling basis z) ≤ 7744
unfolding not_falling falling_step falling_from falling_pair
not_falling-few basis z small = if-few (swap_closed (members basis)) (flat_map (falling_step z) (range_with_len (z.n + 1) (z.r - 1))) 7744
    (let n = small.inputs in let r = small.steps in
    let all = steps-few (falling_step z) 484 (z.n + 1) (z.r - 1) (omega arith) (omega arith) (λ i low. let own =
    below-few (falling_from z i) 22 i (omega arith) (λ k less. let row =
    below-few (falling_pair z i k) 1 k (omega arith) (λ l less'. written-few _) in omega (arith, row)) in
    omega (arith, own)) in
    omega (arith, all))

no_reapplication_operand-few : (ordered : Bool) (z : Dimensions) (i l j k o : ℕ) → length (no_reapplication_operand ordered z i l j k o) ≤ 2
unfolding no_reapplication_operand
no_reapplication_operand-few ordered z i l j k o =
    let second = unless-few ordered (written (not_these z i j k ++ not_these z l i o)) 1 (written-few (not_these z i j k ++ not_these z l i o)) in
    rw length-append (omega (arith, written-few (not_these z i j k ++ not_these z l o i), second))

different-few : (j k : ℕ) → length (different j k) ≤ 2
different-few j k = (elim (j == k) as (λ b. length (if b then j ∷ [] else min j k ∷ max j k ∷ []) ≤ 2) [ true ↦ omega arith | false ↦ omega arith ])

no_reapplication_operands-few : (ordered : Bool) (z : Dimensions) (i l j k : ℕ) → length (no_reapplication_operands ordered z i l j k) ≤ 4
unfolding no_reapplication_operands
no_reapplication_operands-few ordered z i l j k = unless-few (ordered && nat_lt k j) (flat_map (no_reapplication_operand ordered z i l j k) (different j k)) 4
    (let all = pieces-few (no_reapplication_operand ordered z i l j k) 2 (different j k) (λ o. no_reapplication_operand-few ordered z i l j k o) in
    omega (arith, all, different-few j k))

no_reapplication-few : (basis : ℕ) (z : Dimensions) → IsSmall z → length (no_reapplication_steps basis z) ≤ 495616
unfolding no_reapplication_steps no_reapplication_step no_reapplication_after no_reapplication_from
no_reapplication-few basis z small =
    let ordered : Bool = swap_closed (members basis) in
    if-few (reapply_closed (members basis)) (flat_map (no_reapplication_step ordered z) (places z)) 495616
    (let n = small.inputs in let r = small.steps in
    let after : (i l : ℕ) → i ≤ 22 → length (no_reapplication_after ordered z i l) ≤ 1936 = λ i l low.
    let own = below-few (no_reapplication_from ordered z i l) 88 i (omega arith) (λ j less. let row =
    below-few (no_reapplication_operands ordered z i l j) 4 i (omega arith) (λ k less'.
    no_reapplication_operands-few ordered z i l j k) in omega (arith, row)) in
    omega (arith, own) in
    let all : length (flat_map (no_reapplication_step ordered z) (range_with_len (z.n + 1) z.r)) ≤ z.r * 30976 = flat_map-few (no_reapplication_step ordered z) 30976 (z.n + 1) z.r (λ i from to.
    let own = steps-few (no_reapplication_after ordered z i) 1936 (i + 1) (z.n + z.r - i) (omega arith) (omega arith) (λ l low. after i l (omega arith)) in omega (arith, own)) in
    omega (arith, all))

cuts-few : (basis : ℕ) (z : Dimensions) → IsSmall z → length (chosen_cuts basis z) ≤ 1000000
unfolding chosen_cuts
cuts-few basis z small =
    rw (length-append, length-append, length-append, length-append, length-append)
    (omega (arith, rising-few basis z small, used-few z small, trivial-few basis z small, not_falling-few basis z small, no_reapplication-few basis z small, row_0-few basis z small))

-- The clauses are few enough for a formula.
pub both-few : (w : Words) (basis : ℕ) (z : Dimensions) → IsSmall z → length (chosen_chain w basis z ++ chosen_cuts basis z) ≤ 2000000
both-few w basis z small = rw length-append (omega (arith, chain-few w basis z small, cuts-few basis z small))
