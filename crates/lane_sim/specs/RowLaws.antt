-- Writing rows word by word, and four words at a time.
use Rattle.std.proofs.Common.{◌≡◌, ◌∙◌, ℕ, ◌+◌, ◌-◌, ◌≤◌, ◌<◌, List, length, refl, ap, sym, arith, get_or, set, length-set, get_or-set_same, get_or-set_other, length-append, ⊎_elim, ◌*◌, Bool, ◌++◌}
use Rattle.std.specs.Prelude.{replicate, bit_and, bit_xor}
use Rattle.std.proofs.lemmas.Bool.{cases_lt}
use Rattle.std.proofs.lemmas.Grind.{common_steps}
use Rattle.std.proofs.lemmas.List.{get_or_append_left}
use Rattle.std.specs.Simd.Lanes.{zip2, put_chunk}
use Rattle.std.proofs.lemmas.Simd.{length-chunk, get_or-chunk, get_or-put_chunk_below, get_or-put_chunk_at, length-put_chunk, length-zip2, get_or-zip2, length-replicate, get_or-replicate}
use Rattle.op_basis.specs.declared.words.Masks.{Masks}
use Rattle.lane_sim.specs.declared.rows.Operand.{Operand}
use Rattle.lane_sim.specs.declared.rows.Operand.TheVariants.{Zero, One, Row}
use Rattle.op_basis.specs.WordOperator.{combined}
use Rattle.lane_sim.specs.Combining.{operand_word, operand_four, EndsBefore, combined_four}
use Rattle.chain_theory.specs.Operator.{digit}
use Rattle.lane_sim.specs.Rows.{IsGateRowWritten, IsRowWritten, IsRowAppended}

-- ---- four words

zip_length : (f : ℕ → ℕ → ℕ) (xs ys : List ℕ) → length xs ≡ 4 → length ys ≡ 4 → length (zip2 f xs ys) ≡ 4
zip_length f xs ys ex ey = length-zip2 f xs ys (ex ∙ sym ey) ∙ ex

zip_at : (f : ℕ → ℕ → ℕ) (xs ys : List ℕ) (k : ℕ) → length xs ≡ 4 → length ys ≡ 4 → k < 4 → get_or (zip2 f xs ys) k 0 ≡ f (get_or xs k 0) (get_or ys k 0)
zip_at f xs ys k ex ey low = get_or-zip2 f xs ys k 0 0 0 (omega (arith, ex)) (omega (arith, ey))

-- a mask on four words
masked_length : (x : ℕ) (ys : List ℕ) → length ys ≡ 4 → length (zip2 bit_and (replicate 4 x) ys) ≡ 4
masked_length x ys ey = zip_length bit_and (replicate 4 x) ys (length-replicate 4 x) ey

masked_at : (x : ℕ) (ys : List ℕ) (k : ℕ) → length ys ≡ 4 → k < 4 → get_or (zip2 bit_and (replicate 4 x) ys) k 0 ≡ bit_and x (get_or ys k 0)
masked_at x ys k ey low = zip_at bit_and (replicate 4 x) ys k (length-replicate 4 x) ey low ∙ ap (λ (w : ℕ). bit_and w (get_or ys k 0)) (get_or-replicate 4 k x 0 low)

pub combined_four_length : (m : Masks) (a b : List ℕ) → length a ≡ 4 → length b ≡ 4 → length (combined_four m a b) ≡ 4
unfolding combined_four
combined_four_length m a b ea eb =
    let s0 : List ℕ = replicate 4 m.none in
    let p1 : List ℕ = zip2 bit_and (replicate 4 m.first) a in
    let p2 : List ℕ = zip2 bit_and (replicate 4 m.second) b in
    let both : List ℕ = zip2 bit_and a b in
    let p3 : List ℕ = zip2 bit_and (replicate 4 m.both) both in
    zip_length bit_xor (zip2 bit_xor (zip2 bit_xor s0 p1) p2) p3
    (zip_length bit_xor (zip2 bit_xor s0 p1) p2 (zip_length bit_xor s0 p1 (length-replicate 4 m.none) (masked_length m.first a ea)) (masked_length m.second b eb))
    (masked_length m.both both (zip_length bit_and a b ea eb))

pub combined_four_at : (m : Masks) (a b : List ℕ) (k : ℕ) → length a ≡ 4 → length b ≡ 4 → k < 4 → get_or (combined_four m a b) k 0 ≡ combined m (get_or a k 0) (get_or b k 0)
unfolding combined_four combined
combined_four_at m a b k ea eb low =
    let s0 : List ℕ = replicate 4 m.none in
    let p1 : List ℕ = zip2 bit_and (replicate 4 m.first) a in
    let p2 : List ℕ = zip2 bit_and (replicate 4 m.second) b in
    let both : List ℕ = zip2 bit_and a b in
    let p3 : List ℕ = zip2 bit_and (replicate 4 m.both) both in
    let l0 : length s0 ≡ 4 = length-replicate 4 m.none in
    let l1 : length p1 ≡ 4 = masked_length m.first a ea in
    let l2 : length p2 ≡ 4 = masked_length m.second b eb in
    let lb : length both ≡ 4 = zip_length bit_and a b ea eb in
    let l3 : length p3 ≡ 4 = masked_length m.both both lb in
    let s1 : List ℕ = zip2 bit_xor s0 p1 in
    let s2 : List ℕ = zip2 bit_xor s1 p2 in
    let e1 : get_or s1 k 0 ≡ bit_xor m.none (bit_and m.first (get_or a k 0)) =
    zip_at bit_xor s0 p1 k l0 l1 low
    ∙ ap (λ (w : ℕ). bit_xor w (get_or p1 k 0)) (get_or-replicate 4 k m.none 0 low)
    ∙ ap (bit_xor m.none) (masked_at m.first a k ea low) in
    let e2 : get_or s2 k 0 ≡ bit_xor (bit_xor m.none (bit_and m.first (get_or a k 0))) (bit_and m.second (get_or b k 0)) =
    zip_at bit_xor s1 p2 k (zip_length bit_xor s0 p1 l0 l1) l2 low
    ∙ ap (λ (w : ℕ). bit_xor w (get_or p2 k 0)) e1
    ∙ ap (bit_xor (bit_xor m.none (bit_and m.first (get_or a k 0)))) (masked_at m.second b k eb low) in
    zip_at bit_xor s2 p3 k (zip_length bit_xor s1 p2 (zip_length bit_xor s0 p1 l0 l1) l2) l3 low
    ∙ ap (λ (w : ℕ). bit_xor w (get_or p3 k 0)) e2
    ∙ ap (bit_xor (bit_xor (bit_xor m.none (bit_and m.first (get_or a k 0))) (bit_and m.second (get_or b k 0))))
    (masked_at m.both both k lb low ∙ ap (bit_and m.both) (zip_at bit_and a b k ea eb low))

-- ---- operands

pub ends_less : (end count count' : ℕ) (o : Operand) → count' ≤ count → EndsBefore end count o → EndsBefore end count' o
ends_less end count count' Zero less ends = tt
ends_less end count count' One less ends = tt
ends_less end count count' (Row s) less ends = omega (arith, ends)

four_length : (xs : List ℕ) (o : Operand) (j : ℕ) → EndsBefore (length xs) (j + 4) o → length (operand_four xs o j) ≡ 4
four_length xs Zero j ends = length-replicate {A = ℕ} 4 0
four_length xs One j ends = length-replicate {A = ℕ} 4 18446744073709551615
four_length xs (Row s) j ends = length-chunk (s + j) 4 xs (omega (arith, ends))

four_at : (xs : List ℕ) (o : Operand) (j k : ℕ) → k < 4 → get_or (operand_four xs o j) k 0 ≡ operand_word xs o (j + k)
four_at xs Zero j k low = get_or-replicate {A = ℕ} 4 k 0 0 low
four_at xs One j k low = get_or-replicate {A = ℕ} 4 k 18446744073709551615 0 low
four_at xs (Row s) j k low =
    let node : s + j + k ≡ s + (j + k) = omega arith in
    get_or-chunk (s + j) 4 xs k 0 low ∙ ap (λ (i : ℕ). get_or xs i 0) node

-- writing a row doesn't change the words before it, so its operands keep theirs
kept_word : (m : Masks) (a b : Operand) (start count : ℕ) (old new : List ℕ) (o : Operand) (j : ℕ) →
    IsGateRowWritten m a b start count old new → EndsBefore start (j + 1) o →
    operand_word new o j ≡ operand_word old o j
kept_word m a b start count old new Zero j is ends = refl
kept_word m a b start count old new One j is ends = refl
kept_word m a b start count old new (Row s) j is ends = is.before (s + j) (omega (arith, ends))

-- ---- rows

pub written_none : (m : Masks) (a b : Operand) (start : ℕ) (old : List ℕ) → IsGateRowWritten m a b start 0 old old
written_none m a b start old = record { size = refl; here = λ j low. absurd (omega arith); before = λ k low. refl }

pub written_one : (m : Masks) (a b : Operand) (start j : ℕ) (old new : List ℕ) →
    IsGateRowWritten m a b start j old new → start + j < length old → EndsBefore start (j + 1) a →
    EndsBefore start (j + 1) b
    → IsGateRowWritten m a b start (j + 1) old (set new (start + j) (combined m (operand_word new a j) (operand_word new b j)))
written_one m a b start j old new is room first second =
    let w : ℕ = combined m (operand_word new a j) (operand_word new b j) in
    let same : w ≡ combined m (operand_word old a j) (operand_word old b j) =
    ap (λ (x : ℕ). combined m x (operand_word new b j)) (kept_word m a b start j old new a j is first)
    ∙ ap (combined m (operand_word old a j)) (kept_word m a b start j old new b j is second) in
    record {
      size = length-set new (start + j) w ∙ is.size;
      here = λ i low.
          ⊎_elim
          (λ (before : i < j). get_or-set_other new (start + j) (start + i) w 0 (λ e. omega (arith, e)) ∙ is.here i before)
          (λ (past : j ≤ i).
          let here : i ≡ j = omega arith in
          ap (λ (x : ℕ). get_or (set new (start + j) w) (start + x) 0) here
          ∙ get_or-set_same new (start + j) w 0 (omega (arith, is.size))
          ∙ same
          ∙ ap (λ (x : ℕ). combined m (operand_word old a x) (operand_word old b x)) (sym here))
          (cases_lt i j);
      before = λ k low. get_or-set_other new (start + j) k w 0 (λ e. omega (arith, e)) ∙ is.before k low;
    }

ends_later : (end end' count : ℕ) (o : Operand) → end ≤ end' → EndsBefore end count o → EndsBefore end' count o
ends_later end end' count Zero more ends = tt
ends_later end end' count One more ends = tt
ends_later end end' count (Row s) more ends = omega (arith, ends)

-- one of the four written words
four_here : (m : Masks) (a b : Operand) (start j k i : ℕ) (old new : List ℕ) → IsGateRowWritten m a b start j old new →
    length (operand_four new a j) ≡ 4 → length (operand_four new b j) ≡ 4 →
    length (combined_four m (operand_four new a j) (operand_four new b j)) ≡ 4
    → EndsBefore start (j + 4) a → EndsBefore start (j + 4) b → start + j + 4 ≤ length new → k < 4 → i ≡ j + k
    → get_or (put_chunk (start + j) new (combined_four m (operand_four new a j) (operand_four new b j))) (start + i) 0 ≡ combined m (operand_word old a i) (operand_word old b i)
four_here m a b start j k i old new is la lb lw first second room low at =
    let fa : List ℕ = operand_four new a j in
    let fb : List ℕ = operand_four new b j in
    let ws : List ℕ = combined_four m fa fb in
    let node : start + i ≡ start + j + k = omega (arith, at) in
    let a_is : get_or fa k 0 ≡ operand_word old a i =
    four_at new a j k low ∙ kept_word m a b start j old new a (j + k) is (ends_less start (j + 4) (j + k + 1) a (omega arith) first) ∙ ap (operand_word old a) (sym at) in
    let b_is : get_or fb k 0 ≡ operand_word old b i =
    four_at new b j k low ∙ kept_word m a b start j old new b (j + k) is (ends_less start (j + 4) (j + k + 1) b (omega arith) second) ∙ ap (operand_word old b) (sym at) in
    ap (λ (x : ℕ). get_or (put_chunk (start + j) new ws) x 0) node
    ∙ get_or-put_chunk_at (start + j) new ws k 0 (omega (arith, lw)) (omega (arith, lw))
    ∙ combined_four_at m fa fb k la lb low
    ∙ ap (λ (x : ℕ). combined m x (get_or fb k 0)) a_is
    ∙ ap (combined m (operand_word old a i)) b_is

pub written_four : (m : Masks) (a b : Operand) (start j : ℕ) (old new : List ℕ) →
    IsGateRowWritten m a b start j old new → start + j + 4 ≤ length old → EndsBefore start (j + 4) a →
    EndsBefore start (j + 4) b
    → IsGateRowWritten m a b start (j + 4) old (put_chunk (start + j) new (combined_four m (operand_four new a j) (operand_four new b j)))
written_four m a b start j old new is room first second =
    let fa : List ℕ = operand_four new a j in
    let fb : List ℕ = operand_four new b j in
    let ws : List ℕ = combined_four m fa fb in
    let low_a : EndsBefore (length new) (j + 4) a = ends_later start (length new) (j + 4) a (omega (arith, is.size)) first in
    let low_b : EndsBefore (length new) (j + 4) b = ends_later start (length new) (j + 4) b (omega (arith, is.size)) second in
    let la : length fa ≡ 4 = four_length new a j low_a in
    let lb : length fb ≡ 4 = four_length new b j low_b in
    let lw : length ws ≡ 4 = combined_four_length m fa fb la lb in
    record {
      size = length-put_chunk (start + j) new ws ∙ is.size;
      here = λ i low.
          ⊎_elim
          (λ (before : i < j). get_or-put_chunk_below (start + j) new ws (start + i) 0 (omega arith) ∙ is.here i before)
          (λ (past : j ≤ i). four_here m a b start j (i - j) i old new is la lb lw first second (omega (arith, is.size)) (omega arith) (omega arith))
          (cases_lt i j);
      before = λ k low. get_or-put_chunk_below (start + j) new ws k 0 (omega arith) ∙ is.before k low;
    }

pub ruleset writing = (common_steps, written_none, written_one, written_four, ends_less)

-- ---- rows with given bits

pub row_none : (right : ℕ → Bool) (start : ℕ) (old : List ℕ) → IsRowWritten right start 0 old old
row_none right start old = record { size = refl; here = λ j b low_j low. absurd (omega arith); before = λ k low. refl }

pub row_more : (right : ℕ → Bool) (start j w : ℕ) (old new : List ℕ) → IsRowWritten right start j old new →
    start + j < length old → ((b : ℕ) → b < 64 → digit w b ≡ right (64 * j + b)) →
    IsRowWritten right start (j + 1) old (set new (start + j) w)
row_more right start j w old new is room reported =
    record {
      size = length-set new (start + j) w ∙ is.size;
      here = λ i b low_i low.
          ⊎_elim
          (λ (before : i < j). ap (λ (x : ℕ). digit x b) (get_or-set_other new (start + j) (start + i) w 0 (λ e. omega (arith, e))) ∙ is.here i b before low)
          (λ (past : j ≤ i).
          let here : i ≡ j = omega arith in
          ap (λ (x : ℕ). digit (get_or (set new (start + j) w) (start + x) 0) b) here
          ∙ ap (λ (x : ℕ). digit x b) (get_or-set_same new (start + j) w 0 (omega (arith, is.size)))
          ∙ reported b low
          ∙ ap (λ (x : ℕ). right (64 * x + b)) (sym here))
          (cases_lt i j);
      before = λ k low. get_or-set_other new (start + j) k w 0 (λ e. omega (arith, e)) ∙ is.before k low;
    }

pub row_put : (right : ℕ → Bool) (width : ℕ) (old more new : List ℕ) → length more ≡ width → IsRowWritten right (length old) width (old ++ more) new → IsRowAppended right width old new
row_put right width old more new long is =
    record {
      size = is.size ∙ length-append old more ∙ ap (λ (n : ℕ). length old + n) long;
      here = is.here;
      before = λ k low. is.before k low ∙ get_or_append_left old more 0 k low;
    }

pub ruleset filling = (common_steps, row_none, row_more)
