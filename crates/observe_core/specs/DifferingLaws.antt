-- The words of the assignments that distinguish two values of the outputs.
use Rattle.std.proofs.Common.{◌≡◌, ◌∙◌, ℕ, zero, suc, ◌+◌, ◌-◌, ◌*◌, ◌%◌, ◌^◌, ◌≤◌, ◌<◌, Bool, true, false, List, []}
use Rattle.std.proofs.Common.{◌∷◌, ◌++◌, length, set, get_or, Some, refl, ap, sym, subst, arith, inl, inr, ◌⊎◌, ⊎_elim}
use Rattle.std.proofs.Common.{length-set, get_or-set_same, get_or-set_other, length-append, replicate, take}
use Rattle.std.proofs.Common.{mul-le-mul_left}
use Rattle.std.specs.Prelude.{slice_get, slice_index_or, bit_or, bit_xor, if◌then◌else◌}
use Rattle.std.proofs.lemmas.Bool.{cases_lt, both_ways, cond-true, cond-false}
use Rattle.std.proofs.lemmas.Option.{slice_get_within, slice_get-get_or}
use Rattle.std.proofs.lemmas.List.{get_or-replicate, length-replicate}
use Rattle.std.proofs.lemmas.Nat.{one_shl}
use Rattle.chain_theory.specs.Operator.{digit}
use Rattle.net_theory.specs.declared.data.Gate.{Gate}
use Rattle.net_theory.specs.Net.{Net, IsNet}
use Rattle.lane_sim.specs.Above.{with_gates}
use Rattle.lane_sim.specs.Combining.{differ}
use Rattle.lane_sim.specs.Cone.{Cone, IsCone, nodes, value_in}
use Rattle.lane_sim.specs.ConeLaws.{cone_leaf}
use Rattle.lane_sim.specs.PatternLaws.{at_after, nodes_count}
use Rattle.lane_sim.specs.SeenLaws.{digit_or, digit_or_left, digit_or_right, no_digit, above_zero}
use Rattle.lane_sim.specs.WordLaws.{digit_xor}
use Rattle.lane_sim.specs.Words.{Words, AreWords, width_of}
use Rattle.window_theory.specs.Nodes.{among, IsRising}
use Rattle.window_theory.specs.PairLaws.{among_at}
use Rattle.window_theory.specs.Care.{HasRow}
use Rattle.window_theory.specs.Rows.{has_row}
use Rattle.window_core.specs.Expanding.{gate_nodes}
use Rattle.window_core.specs.ConeLaws.{among_get, get_among, rising_apart}
use Rattle.window_core.specs.ExpandingLaws.{among_left}
use Rattle.observe_core.specs.Putting.{ArePutGates, IsAbove, IsPutCone}
use Rattle.observe_core.specs.PuttingLaws.{put_values, put_is_cone, all_nodes}
use Rattle.observe_core.specs.Differing.{bit_in, IsDifferenceAdded, RowsDiffer, AreAdded, put_bits, IsDistinguished, ArePutWords, AreDistinguished, AreDistinguishing}
use Rattle.net_theory.specs.Limits.{most_leaves}
use Rattle.chain_theory.specs.Limits.{most_outputs}

-- ---- bits

differ_on : (a b : Bool) → differ a b ≡ true → a ≡ b → ⊥
differ_on true true e same = let f : false ≡ true = e in cc
differ_on true false e same = cc
differ_on false true e same = cc
differ_on false false e same = let f : false ≡ true = e in cc

differ_off : (a b : Bool) → differ a b ≡ false → a ≡ b
differ_off true true e = refl
differ_off true false e = absurd (let f : true ≡ false = e in cc)
differ_off false true e = absurd (let f : true ≡ false = e in cc)
differ_off false false e = refl

was_off : (b : Bool) → (b ≡ true → ⊥) → b ≡ false
was_off true none = absurd (none refl)
was_off false none = refl

grown_on : (old x y t : ℕ) → digit (bit_or old (bit_xor x y)) t ≡ true → (digit old t ≡ true) ⊎ (digit x t ≡ digit y t → ⊥)
grown_on old x y t e =
    ⊎_elim
    (λ was. inl was)
    (λ more. inr (differ_on (digit x t) (digit y t) (sym (digit_xor x y t) ∙ more)))
    (digit_or old (bit_xor x y) t e)

grown_off : (old x y t : ℕ) → digit (bit_or old (bit_xor x y)) t ≡ false → (digit old t ≡ false) × (digit x t ≡ digit y t)
grown_off old x y t e = (
  was_off (digit old t) (λ on. both_ways (digit (bit_or old (bit_xor x y)) t) e (digit_or_left old (bit_xor x y) t on)),
  differ_off (digit x t) (digit y t) (sym (digit_xor x y t) ∙ was_off (digit (bit_xor x y) t) (λ on. both_ways (digit (bit_or old (bit_xor x y)) t) e (digit_or_right old (bit_xor x y) t on))),
)

-- ---- one row

pub row_more : (first second : List ℕ) (start j : ℕ) (old now new : List ℕ) → j < length now →
    new ≡ set now j (bit_or (get_or now j 0) (bit_xor (get_or first (start + j) 0) (get_or second (start + j) 0))) →
    IsDifferenceAdded first second start j old now → IsDifferenceAdded first second start (j + 1) old new
row_more first second start j old now new room is was =
    let x : ℕ = get_or first (start + j) 0 in
    let y : ℕ = get_or second (start + j) 0 in
    let w : ℕ = bit_or (get_or now j 0) (bit_xor x y) in
    let here : get_or (set now j w) j 0 ≡ bit_or (get_or old j 0) (bit_xor x y) = get_or-set_same now j w 0 room ∙ ap (λ (k : ℕ). bit_or k (bit_xor x y)) (was.later j (omega arith)) in
    subst (IsDifferenceAdded first second start (j + 1) old) (sym is)
    (record {
      size = length-set now j w ∙ was.size;
      later = λ i low. get_or-set_other now j i w 0 (λ e. omega (arith, e, low)) ∙ was.later i (omega (arith, low));
      only = λ i t low on. ⊎_elim
          (λ (before : i < j). was.only i t before (ap (λ (k : ℕ). digit k t) (sym (get_or-set_other now j i w 0 (λ e. omega (arith, e, before)))) ∙ on))
          (λ (past : j ≤ i).
          let same : j ≡ i = omega (arith, past, low) in
          subst (λ (k : ℕ). (bit_in old k t ≡ true) ⊎ (bit_in first (start + k) t ≡ bit_in second (start + k) t → ⊥)) same
          (grown_on (get_or old j 0) x y t (ap (λ (k : ℕ). digit k t) (sym here) ∙ ap (λ (k : ℕ). digit (get_or (set now j w) k 0) t) same ∙ on)))
          (cases_lt i j);
      none = λ i t low off. ⊎_elim
          (λ (before : i < j). was.none i t before (ap (λ (k : ℕ). digit k t) (sym (get_or-set_other now j i w 0 (λ e. omega (arith, e, before)))) ∙ off))
          (λ (past : j ≤ i).
          let same : j ≡ i = omega (arith, past, low) in
          subst (λ (k : ℕ). (bit_in old k t ≡ false) × (bit_in first (start + k) t ≡ bit_in second (start + k) t)) same
          (grown_off (get_or old j 0) x y t (ap (λ (k : ℕ). digit k t) (sym here) ∙ ap (λ (k : ℕ). digit (get_or (set now j w) k 0) t) same ∙ off)))
          (cases_lt i j);
    })

-- ---- all rows

-- and no index of a row is too great
pub row_fits : (start i count width size : ℕ) → 1 ≤ width → i < count → (start + count) * width ≤ size → size < 2 ^ 63 → start + i < 2 ^ 64
row_fits start i count width size some low room small =
    let more : (start + count) * 1 ≤ (start + count) * width = mul-le-mul_left (start + count) some in
    let one : (start + count) * 1 ≡ start + count = omega arith in
    omega (arith, more, one, room, small, low)

-- ---- values

-- the word of a gate of the fanout cone
fanout_cone_bit : (n : Net) (outputs : List ℕ) (bits : ℕ) (s c : Cone) (fanout_cone : List ℕ) (w : Words)
    (width k p j t : ℕ) → IsPutCone n outputs bits s fanout_cone c → AreWords c w →
    width ≡ width_of (2 ^ length s.leaves) → slice_get fanout_cone k ≡ Some p → t < 64 →
    64 * j + t < 2 ^ length s.leaves → bit_in w.lanes ((length (nodes s) + k) * width + j) t ≡ value_in c (64 * j + t) p
fanout_cone_bit n outputs bits s c fanout_cone w width k p j t is are width_is at few low =
    let all : nodes c ≡ nodes s ++ fanout_cone = ap (λ (ls : List ℕ). ls ++ gate_nodes c.gates) is.leaves
    ∙ ap (λ (gs : List (ℕ × Gate)). s.leaves ++ gate_nodes gs) is.gates
    ∙ all_nodes s is.put fanout_cone is.put_are.nodes in
    let there : slice_get (nodes c) (length (nodes s) + k) ≡ Some p = ap (λ (ps : List ℕ). slice_get ps (length (nodes s) + k)) all ∙ at_after (nodes s) fanout_cone k p at in
    let rows : w.rows ≡ 2 ^ length s.leaves = are.rows ∙ ap (λ (ls : List ℕ). 2 ^ length ls) is.leaves in
    let wide : width_of w.rows ≡ width = ap (λ (r : ℕ). width_of r) rows ∙ sym width_is in
    ap (λ (x : ℕ). bit_in w.lanes ((length (nodes s) + k) * x + j) t) (sym wide)
    ∙ are.values (length (nodes s) + k) p j t there few (subst (λ (r : ℕ). 64 * j + t < r) (sym rows) low)

-- the rows of the fanout cone end with the words
pub put_room : (n : Net) (outputs : List ℕ) (bits : ℕ) (s c : Cone) (fanout_cone : List ℕ) (w : Words) (width a b : ℕ)
    (lanes : List ℕ) → IsPutCone n outputs bits s fanout_cone c → AreWords c w →
    width ≡ width_of (2 ^ length s.leaves) → a ≡ length s.leaves → b ≡ length s.gates → lanes ≡ w.lanes →
    (a + b + length fanout_cone) * width ≤ length lanes
put_room n outputs bits s c fanout_cone w width a b lanes is are width_is a_is b_is lanes_is =
    let all : nodes c ≡ nodes s ++ fanout_cone = ap (λ (ls : List ℕ). ls ++ gate_nodes c.gates) is.leaves
    ∙ ap (λ (gs : List (ℕ × Gate)). s.leaves ++ gate_nodes gs) is.gates
    ∙ all_nodes s is.put fanout_cone is.put_are.nodes in
    let count : length (nodes c) ≡ a + b + length fanout_cone = ap (length {A = ℕ}) all ∙ length-append (nodes s) fanout_cone ∙ omega (arith, nodes_count s, a_is, b_is) in
    let rows : w.rows ≡ 2 ^ length s.leaves = are.rows ∙ ap (λ (ls : List ℕ). 2 ^ length ls) is.leaves in
    let wide : width_of w.rows ≡ width = ap (λ (r : ℕ). width_of r) rows ∙ sym width_is in
    let size : length lanes ≡ (a + b + length fanout_cone) * width =
    ap (length {A = ℕ}) lanes_is ∙ are.size ∙ ap (λ (k : ℕ). k * width_of w.rows) count
    ∙ ap (λ (k : ℕ). (a + b + length fanout_cone) * k) wide in
    omega (arith, size)

-- there is a word
pub some_word : (k width : ℕ) → width ≡ width_of (2 ^ k) → 1 ≤ width
some_word k width is = omega (arith, is, above_zero k)

-- some bits give the leaves one row and the outputs another
pub some_bits : (leaves outputs : List ℕ) (row bits : ℕ) → IsRising leaves → length leaves ≤ most_leaves → IsRising outputs →
    length outputs ≤ most_leaves → ((q : ℕ) → among leaves q ≡ true → among outputs q ≡ false) → (f : ℕ → Bool) ×
    HasRow f leaves row × HasRow f outputs bits
some_bits leaves outputs row bits rising_l few_l rising_o few_o beside =
    let f : ℕ → Bool = λ q. if among outputs q then value_in (directly_observable outputs) bits q else value_in (directly_observable leaves) row q in (
      f,
      λ i low. cond-false (among outputs (slice_index_or leaves i 0))
          (value_in (directly_observable outputs) bits (slice_index_or leaves i 0))
          (value_in (directly_observable leaves) row (slice_index_or leaves i 0))
          (beside (slice_index_or leaves i 0) (among_at leaves i 0 low)) ∙ own leaves row i rising_l few_l low,
      λ i low. cond-true (among outputs (slice_index_or outputs i 0))
          (value_in (directly_observable outputs) bits (slice_index_or outputs i 0))
          (value_in (directly_observable leaves) row (slice_index_or outputs i 0)) (among_at outputs i 0 low)
          ∙ own outputs bits i rising_o few_o low,
    )
  where
    directly_observable : List ℕ → Cone
    directly_observable ps = record { leaves = ps; gates = [] }

    none_after : (xs : List ℕ) → xs ++ [] ≡ xs
    none_after [] = refl
    none_after (x ∷ xs) = ap (λ (ys : List ℕ). x ∷ ys) (none_after xs)

    own : (ps : List ℕ) (r i : ℕ) → IsRising ps → length ps ≤ most_leaves → i < length ps → value_in (directly_observable ps) r (slice_index_or ps i 0) ≡ digit r (length ps - (i + 1))
    own ps r i rising few low =
        let cone : IsCone (directly_observable ps) = record {
          few = few;
          apart = λ a b p ea eb. rising_apart ps rising a b p (ap (λ (xs : List ℕ). slice_get xs a) (sym (none_after ps)) ∙ ea) (ap (λ (xs : List ℕ). slice_get xs b) (sym (none_after ps)) ∙ eb);
          gates = λ k x at. absurd cc;
        } in
        let node : length ps - 1 - i ≡ length ps - (i + 1) = omega arith in
        cone_leaf (directly_observable ps) r i (slice_index_or ps i 0) cone (slice_get-get_or ps i 0 low) ∙ ap (digit r) node

-- The words of a fanin cone with the forced gates above it.
pub put_words : (n : Net) (outputs : List ℕ) (bits : ℕ) (s : Cone) (fanout_cone : List ℕ) (put : List (ℕ × Gate))
    (w : Words) → IsNet n → IsCone s → IsAbove n outputs s fanout_cone → ArePutGates n outputs bits fanout_cone put →
    AreWords (with_gates s put) w → ArePutWords n outputs bits s fanout_cone w
put_words n outputs bits s fanout_cone put w net cone above gates are =
    record {
      cone = with_gates s put;
      is = record { leaves = refl; put = put; gates = refl; put_are = gates; cone = put_is_cone n outputs bits s fanout_cone put net cone above gates };
      are = are;
    }

-- One more value of the outputs.
pub distinguished_more : (n : Net) (outputs : List ℕ) (bits : ℕ) (s c : Cone) (fanout_cone cone_outputs : List ℕ)
    (none w : Words) (start : ℕ) (old new : List ℕ) → IsNet n → IsAbove n outputs s fanout_cone → length outputs ≤ most_leaves →
    ArePutWords n outputs 0 s fanout_cone none → IsPutCone n outputs bits s fanout_cone c → AreWords c w →
    start ≡ length (nodes s) → length old ≡ width_of (2 ^ length s.leaves) →
    ((p : ℕ) → among cone_outputs p ≡ true → among fanout_cone p ≡ true)
    → AreAdded none.lanes w.lanes start fanout_cone cone_outputs (length fanout_cone) old new →
    AreDistinguished n outputs s cone_outputs bits old → AreDistinguished n outputs s cone_outputs (bits + 1) new
distinguished_more n outputs bits s c fanout_cone cone_outputs none w start old new net above few first is are start_is size inside added was =
    record {
      only = λ j t low few_t within on. ⊎_elim
          (λ before. was.only j t (back j low) few_t within before)
          (λ rows. distinguished j t few_t within rows)
          (added.only j t (back j low) on);
      none = λ j t b p f g low few_t within off below f_row g_row f_zero g_bits cone_output.
          let r = added.none j t (back j low) off in
          ⊎_elim
          (λ (before : b < bits). was.none j t b p f g (back j low) few_t within r.0 before f_row g_row f_zero g_bits cone_output)
          (λ (past : bits ≤ b).
          let same : b ≡ bits = omega (arith, past, below) in
          let k = among_get fanout_cone p (inside p cone_output) in
          let row : ℕ = 64 * j + t in
          let one : bit_in none.lanes ((start + k.0) * length old + j) t ≡ put_bits n s.leaves outputs f p = zero_bit j t k.0 p f few_t within k.1 f_row f_zero in
          let other : bit_in w.lanes ((start + k.0) * length old + j) t ≡ put_bits n s.leaves outputs g p = own_bit j t k.0 p g few_t within k.1 g_row (subst (HasRow g outputs) same g_bits) in
          sym one ∙ r.1 k.0 p (slice_get_within fanout_cone k.0 p k.1) k.1 cone_output ∙ other)
          (cases_lt b bits);
    }
  where
    back : (j : ℕ) → j < length new → j < length old
    back j low = omega (arith, low, added.size)

    zero_bit : (j t k p : ℕ) (f : ℕ → Bool) → t < 64 → 64 * j + t < 2 ^ length s.leaves →
        slice_get fanout_cone k ≡ Some p → HasRow f s.leaves (64 * j + t) → HasRow f outputs 0 →
        bit_in none.lanes ((start + k) * length old + j) t ≡ put_bits n s.leaves outputs f p
    zero_bit j t k p f few_t within at row bits_are =
        ap (λ (x : ℕ). bit_in none.lanes ((x + k) * length old + j) t) start_is
        ∙ fanout_cone_bit n outputs 0 s first.cone fanout_cone none (length old) k p j t first.is first.are size at few_t within
        ∙ put_values n outputs 0 s first.cone fanout_cone (64 * j + t) f p net above first.is row bits_are (get_among fanout_cone k p at)

    own_bit : (j t k p : ℕ) (f : ℕ → Bool) → t < 64 → 64 * j + t < 2 ^ length s.leaves →
        slice_get fanout_cone k ≡ Some p → HasRow f s.leaves (64 * j + t) → HasRow f outputs bits →
        bit_in w.lanes ((start + k) * length old + j) t ≡ put_bits n s.leaves outputs f p
    own_bit j t k p f few_t within at row bits_are =
        ap (λ (x : ℕ). bit_in w.lanes ((x + k) * length old + j) t) start_is
        ∙ fanout_cone_bit n outputs bits s c fanout_cone w (length old) k p j t is are size at few_t within
        ∙ put_values n outputs bits s c fanout_cone (64 * j + t) f p net above is row bits_are (get_among fanout_cone k p at)

    distinguished : (j t : ℕ) → t < 64 → 64 * j + t < 2 ^ length s.leaves →
        RowsDiffer none.lanes w.lanes start (length old) fanout_cone cone_outputs j t →
        IsDistinguished n s.leaves outputs cone_outputs (64 * j + t)
    distinguished j t few_t within rows =
        let free : (q : ℕ) → among s.leaves q ≡ true → among outputs q ≡ false = λ q leaf. above.beside q (among_left s.leaves (gate_nodes s.gates) q leaf) in
        let f = some_bits s.leaves outputs (64 * j + t) 0 above.own.leaves_rising above.own.few above.outputs_rising few free in
        let g = some_bits s.leaves outputs (64 * j + t) bits above.own.leaves_rising above.own.few above.outputs_rising few free in
        record {
          one = f.0;
          other = g.0;
          node = rows.node;
          one_row = f.1;
          other_row = g.1;
          cone_output = rows.cone_output;
          differ = λ same. rows.differ
              (zero_bit j t rows.index rows.node f.0 few_t within rows.at f.1 f.2 ∙ same ∙ sym (own_bit j t rows.index rows.node g.0 few_t within rows.at g.1 g.2));
        }

-- the same by the code's own lists
pub distinguished_code : (n : Net) (outputs : List ℕ) (bits : ℕ) (s c : Cone) (fanout_cone cone_outputs : List ℕ)
    (none w : Words) (first second : List ℕ) (a b : ℕ) (old new : List ℕ) → IsNet n → IsAbove n outputs s fanout_cone →
    length outputs ≤ most_outputs → ArePutWords n outputs 0 s fanout_cone none → IsPutCone n outputs bits s fanout_cone c →
    AreWords c w → first ≡ none.lanes → second ≡ w.lanes → a ≡ length s.leaves → b ≡ length s.gates →
    length old ≡ width_of (2 ^ length s.leaves) → ((p : ℕ) → among cone_outputs p ≡ true → among fanout_cone p ≡ true)
    → AreAdded first second (a + b) fanout_cone cone_outputs (length fanout_cone) old new →
    AreDistinguished n outputs s cone_outputs bits old → AreDistinguished n outputs s cone_outputs (bits + 1) new
distinguished_code n outputs bits s c fanout_cone cone_outputs none w first second a b old new net above few words is are first_is second_is a_is b_is size inside added was =
    distinguished_more n outputs bits s c fanout_cone cone_outputs none w (a + b) old new net above (omega (arith, few)) words is are (omega (arith, nodes_count s, a_is, b_is)) size inside
    (subst (λ (xs : List ℕ). AreAdded xs w.lanes (a + b) fanout_cone cone_outputs (length fanout_cone) old new)
    first_is (subst (λ (ys : List ℕ). AreAdded first ys (a + b) fanout_cone cone_outputs
    (length fanout_cone) old new) second_is added)) was

-- Before any value but 0, nothing differs.
pub distinguished_start : (n : Net) (outputs : List ℕ) (s : Cone) (fanout_cone cone_outputs : List ℕ) (none : Words)
    (differ : List ℕ) → IsNet n → IsAbove n outputs s fanout_cone → ArePutWords n outputs 0 s fanout_cone none →
    ((p : ℕ) → among cone_outputs p ≡ true → among fanout_cone p ≡ true) →
    ((j : ℕ) → j < length differ → get_or differ j 0 ≡ 0) → AreDistinguished n outputs s cone_outputs 1 differ
distinguished_start n outputs s fanout_cone cone_outputs none differ net above first inside empty =
    record {
      only = λ j t low few_t within on. absurd (no_digit t (ap (λ (x : ℕ). digit x t) (sym (empty j low)) ∙ on));
      none = λ j t b p f g low few_t within off below f_row g_row f_zero g_bits cone_output.
          let same : b ≡ 0 = omega (arith, below) in
          sym (put_values n outputs 0 s first.cone fanout_cone (64 * j + t) f p net above first.is f_row f_zero (inside p cone_output))
          ∙ put_values n outputs 0 s first.cone fanout_cone (64 * j + t) g p net above first.is g_row (subst (HasRow g outputs) same g_bits) (inside p cone_output);
    }

-- In the end all values were simulated.
pub distinguished_end : (n : Net) (outputs : List ℕ) (s : Cone) (fanout_cone cone_outputs : List ℕ) (differ : List ℕ) →
    IsAbove n outputs s fanout_cone → length outputs ≤ most_leaves →
    AreDistinguished n outputs s cone_outputs (2 ^ length outputs) differ →
    AreDistinguishing n s.leaves outputs cone_outputs differ
distinguished_end n outputs s fanout_cone cone_outputs differ above few was =
    record {
      only = was.only;
      none = λ j t p f g low few_t within off f_row g_row cone_output.
          let free : (q : ℕ) → among s.leaves q ≡ true → among outputs q ≡ false = λ q leaf. above.beside q (among_left s.leaves (gate_nodes s.gates) q leaf) in
          let z = some_bits s.leaves outputs (64 * j + t) 0 above.own.leaves_rising above.own.few above.outputs_rising few free in
          let f_bits = has_row f outputs in
          let g_bits = has_row g outputs in
          sym (was.none j t f_bits.0 p z.0 f low few_t within off f_bits.1 z.1 f_row z.2 f_bits.2 cone_output)
          ∙ was.none j t g_bits.0 p z.0 g low few_t within off g_bits.1 z.1 g_row z.2 g_bits.2 cone_output;
    }

-- ---- the code's indices and lists

pub all_numbers : (k : ℕ) → k ≤ 8 → 1 * 2 ^ k % 4294967296 ≡ 2 ^ k
all_numbers k few = one_shl k 32 (omega (arith, few))

pub all_zero : (xs : List ℕ) (k : ℕ) → xs ≡ replicate k 0 → (j : ℕ) → j < length xs → get_or xs j 0 ≡ 0
all_zero xs k is j low =
    let size : length xs ≡ k = ap (length {A = ℕ}) is ∙ length-replicate {A = ℕ} k 0 in
    ap (λ (ys : List ℕ). get_or ys j 0) is ∙ get_or-replicate k j 0 0 (omega (arith, low, size))

pub take_prefix : (xs ys : List ℕ) (n : ℕ) → length xs ≡ n → take n (xs ++ ys) ≡ xs
take_prefix [] ys zero e = refl
take_prefix [] ys (suc n) e = absurd (omega (arith, e))
take_prefix (x ∷ xs) ys zero e = absurd (omega (arith, e))
take_prefix (x ∷ xs) ys (suc n) e = ap (λ (zs : List ℕ). x ∷ zs) (take_prefix xs ys n (omega (arith, e)))
