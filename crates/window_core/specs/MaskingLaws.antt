-- The words of a window's specification are what the definition says.
use Rattle.std.specs.Prelude.{◌≡◌, ℕ, zero, suc, ◌+◌, ◌-◌, ◌*◌, ◌≤◌, ◌<◌, ◌^◌, ◌==◌, Bool, true, false, ◌&&◌}
use Rattle.std.specs.Prelude.{if◌then◌else◌, List, [], ◌∷◌, ◌++◌, length, map, drop, slice_get, slice_index}
use Rattle.std.specs.Prelude.{slice_index_or, Some, bit_and, refl}
use Rattle.std.specs.Int.{bit_at}
use Rattle.std.proofs.Common.{arith, sym, ◌∙◌, ap, subst, inl, inr, ⊎_elim}
use Rattle.std.proofs.Math.Pow.{pow_mono}
use Rattle.std.proofs.lemmas.Bool.{cond-true, cond-false, cases_Bool, cases_lt, both_ways, and_parts}
use Rattle.std.proofs.lemmas.List.{length-append, length-map}
use Rattle.std.proofs.lemmas.Nat.Bits.{bit_at-lt, bit_at-zero, bit_at_above, bit_at_cat_low, bit_at_cat_high, same_from_bits_below}
use Rattle.std.proofs.lemmas.Option.{slice_get_within, slice_get-get_or}
use Rattle.chain_theory.specs.Operator.{digit}
use Rattle.chain_theory.specs.declared.data.Cell.{Cell}
use Rattle.chain_theory.specs.declared.data.Cell.TheVariants.{Zero, One, Free}
use Rattle.net_theory.specs.declared.data.Sig.{Sig}
use Rattle.net_theory.specs.declared.data.Sig.TheVariants as sigs
use Rattle.net_theory.specs.declared.data.Gate.{Gate}
use Rattle.net_theory.specs.Net.{Net, IsNet, sig_value}
use Rattle.tt_core.specs.Words as tables
use Rattle.tt_core.specs.Words.{IsSpec, specification}
use Rattle.lane_sim.specs.Cone.{Cone, IsCone, IsSigAmong, nodes, value_in}
use Rattle.lane_sim.specs.ConeLaws.{cone_leaf}
use Rattle.lane_sim.specs.PatternLaws.{at_after, pattern_low}
use Rattle.lane_sim.specs.SeenLaws.{above_zero}
use Rattle.lane_sim.specs.WordLaws.{digit_and}
use Rattle.lane_sim.specs.Words.{Words, AreWords, ArePatterns, width_of, pattern}
use Rattle.window_theory.specs.Nodes.{among, IsRising}
use Rattle.window_theory.specs.Window.{Window, Belongs}
use Rattle.window_theory.specs.FaninCone.{ExpandsTo}
use Rattle.window_theory.specs.Rows.{has_row}
use Rattle.window_theory.specs.Care.{HasRow, IsSpecificationOf, values_with, cell_of}
use Rattle.window_theory.specs.CarePartLaws.{row_shown, row_found}
use Rattle.window_theory.specs.FixedLaws.{part_values}
use Rattle.window_core.specs.Gates.{IsGateOf}
use Rattle.window_core.specs.Expanding.{gate_nodes, AreAbove, AreLeavesOrGates}
use Rattle.window_core.specs.Masking.{IsCareMask, AreNumbered, HasGateValues, AreMasked}
use Rattle.window_core.specs.GrowingLaws.{of_reads}
use Rattle.window_core.specs.NotingLaws.{at_last}
use Rattle.window_core.specs.ExpandingLaws.{among_left, among_right}
use Rattle.window_core.specs.ConeLaws.{among_get, get_among, cone_part, above_cone}
use Rattle.chain_theory.specs.Limits.{most_inputs, most_outputs}

some_same : {A : Type 0} (x y : A) → Some x ≡ Some y → x ≡ y
some_same x y e = cc

-- the element at an index, read with a default
pub get_is : (xs : List ℕ) (k x : ℕ) → slice_get xs k ≡ Some x → slice_index_or xs k 0 ≡ x
get_is xs k x e = some_same (slice_index_or xs k 0) x (sym (slice_get-get_or xs k 0 (slice_get_within xs k x e)) ∙ e)

-- ---- patterns and rows

abbrev pub named_bits : (ℕ → Bool) → List ℕ → ℕ
named_bits bits ps = pattern (sig_value bits) (map sigs.Node ps)

pub pattern_under_power : (bits : ℕ → Bool) (ps : List ℕ) → named_bits bits ps < 2 ^ length ps
pattern_under_power bits ps = subst (λ (n : ℕ). named_bits bits ps < 2 ^ n) (length-map ps sigs.Node) (pattern_low (sig_value bits) (map sigs.Node ps))

first_digit : (b : Bool) (k r : ℕ) → r < 2 ^ k → digit ((if b then 2 ^ k else 0) + r) k ≡ b
first_digit true k r low =
    let e : 2 ^ k + r ≡ 1 * 2 ^ k + r = omega arith in
    let z : k - k ≡ 0 = omega arith in
    ap (λ (x : ℕ). bit_at x k == 1) e ∙ ap (λ (x : ℕ). x == 1) (bit_at_cat_high 1 k r k low (omega arith) ∙ ap (bit_at 1) z)
first_digit false k r low =
    let e : 0 + r ≡ r = omega arith in
    ap (λ (x : ℕ). bit_at x k == 1) e ∙ ap (λ (x : ℕ). x == 1) (bit_at_above r k k low (omega arith))

later_digit : (b : Bool) (k r i : ℕ) → i < k → digit ((if b then 2 ^ k else 0) + r) i ≡ digit r i
later_digit true k r i low =
    let e : 2 ^ k + r ≡ 1 * 2 ^ k + r = omega arith in
    ap (λ (x : ℕ). bit_at x i == 1) e ∙ ap (λ (x : ℕ). x == 1) (bit_at_cat_low 1 k r i low)
later_digit false k r i low =
    let e : 0 + r ≡ r = omega arith in
    ap (λ (x : ℕ). bit_at x i == 1) e

-- the digits of a pattern are the bits of the nodes
pattern_digit : (bits : ℕ → Bool) (ps : List ℕ) (i : ℕ) → i < length ps → digit (named_bits bits ps) (length ps - (i + 1)) ≡ bits (slice_index_or ps i 0)
unfolding pattern
pattern_digit bits [] i low = absurd (omega (arith, low))
pattern_digit bits (p ∷ ps) zero low =
    let count : length (map sigs.Node ps) ≡ length ps = length-map ps sigs.Node in
    let node : length (p ∷ ps) - (0 + 1) ≡ length (map sigs.Node ps) = omega (arith, count) in
    ap (digit (named_bits bits (p ∷ ps))) node ∙ first_digit (bits p) (length (map sigs.Node ps)) (named_bits bits ps) (pattern_low (sig_value bits) (map sigs.Node ps))
pattern_digit bits (p ∷ ps) (suc i) low =
    let count : length (map sigs.Node ps) ≡ length ps = length-map ps sigs.Node in
    let node : length (p ∷ ps) - (suc i + 1) ≡ length ps - (i + 1) = omega arith in
    ap (digit (named_bits bits (p ∷ ps))) node
    ∙ later_digit (bits p) (length (map sigs.Node ps)) (named_bits bits ps) (length ps - (i + 1)) (omega (arith, count, low))
    ∙ pattern_digit bits ps i (omega (arith, low))

-- nodes have the bits of the row that is their pattern
pub pattern_row : (bits : ℕ → Bool) (ps : List ℕ) (t : ℕ) → named_bits bits ps ≡ t → HasRow bits ps t
pattern_row bits ps t e i low = sym (pattern_digit bits ps i low) ∙ ap (λ (x : ℕ). digit x (length ps - (i + 1))) e

same_bit : (x y : ℕ) → x < 2 → y < 2 → (x == 1) ≡ (y == 1) → x ≡ y
same_bit zero zero a b e = refl
same_bit zero (suc zero) a b e = absurd cc
same_bit (suc zero) zero a b e = absurd cc
same_bit (suc zero) (suc zero) a b e = refl
same_bit zero (suc (suc y)) a b e = absurd (omega (arith, b))
same_bit (suc zero) (suc (suc y)) a b e = absurd (omega (arith, b))
same_bit (suc (suc x)) y a b e = absurd (omega (arith, a))

pub row_pattern : (bits : ℕ → Bool) (ps : List ℕ) (t : ℕ) → t < 2 ^ length ps → HasRow bits ps t → named_bits bits ps ≡ t
row_pattern bits ps t low row =
    same_from_bits_below (length ps) (named_bits bits ps) t (pattern_under_power bits ps) low
    (λ j within.
    let i : ℕ = length ps - (j + 1) in
    let back : length ps - (i + 1) ≡ j = omega (arith, within) in
    let same : digit (named_bits bits ps) (length ps - (i + 1)) ≡ digit t (length ps - (i + 1)) = pattern_digit bits ps i (omega (arith, within)) ∙ row i (omega (arith, within)) in
    same_bit (bit_at (named_bits bits ps) j) (bit_at t j) (bit_at-lt (named_bits bits ps) j) (bit_at-lt t j) (subst (λ (k : ℕ). digit (named_bits bits ps) k ≡ digit t k) back same))

-- ---- values of cones

-- leaves have the bits of an assignment
pub leaf_value : (c : Cone) (row : ℕ) (given : ℕ → Bool) (q : ℕ) → IsCone c → HasRow given c.leaves row → among c.leaves q ≡ true → value_in c row q ≡ given q
leaf_value c row given q cone has e =
    let r = among_get c.leaves q e in
    let low : r.0 < length c.leaves = slice_get_within c.leaves r.0 q r.1 in
    let node : length c.leaves - 1 - r.0 ≡ length c.leaves - (r.0 + 1) = omega arith in
    cone_leaf c row r.0 q cone r.1 ∙ ap (digit row) node ∙ sym (has r.0 low) ∙ ap given (get_is c.leaves r.0 q r.1)

pub inside_of_cone : (c : Cone) (ps : List ℕ) → AreLeavesOrGates c.leaves c.gates ps → (p : ℕ) → among ps p ≡ true → among (nodes c) p ≡ true
inside_of_cone c ps covered p e = ⊎_elim (λ leaf. among_left c.leaves (gate_nodes c.gates) p leaf) (λ inside. among_right c.leaves (gate_nodes c.gates) p inside) (covered p e)

-- ---- care rows

pub mask_is : (n : Net) (ps : List ℕ) (c : Cone) (signals : List Sig) (mask : ℕ) → IsNet n → IsCone c →
    ExpandsTo n ps c.leaves → AreAbove n c.leaves c.gates → AreLeavesOrGates c.leaves c.gates ps →
    signals ≡ map sigs.Node ps → ArePatterns c signals mask → IsCareMask n ps mask
mask_is n ps c signals mask net cone expands_to above covered is shown =
    let low : (t : ℕ) → digit mask t ≡ true → t < 2 ^ length ps = λ t e.
    let r = shown.only t e in
    subst (λ (x : ℕ). x < 2 ^ length ps) (ap (pattern (sig_value (value_in c r.0))) (sym is) ∙ r.2) (pattern_under_power (value_in c r.0) ps) in
    record {
      low = low;
      only = λ t e.
          let r = shown.only t e in
          let bits : ℕ → Bool = value_in c r.0 in
          row_shown n ps c.leaves bits (among (nodes c)) bits t net expands_to (cone_part n c r.0 bits net cone above (λ q l. refl)) (inside_of_cone c ps covered)
          (pattern_row bits ps t (ap (pattern (sig_value bits)) (sym is) ∙ r.2));
      all = λ t within care.
          let row = has_row care.given c.leaves in
          let bits : ℕ → Bool = value_in c row.0 in
          let part = cone_part n c row.0 care.given net cone above (λ q l. leaf_value c row.0 care.given q cone row.2 l) in
          let has : HasRow bits ps t = row_found n ps c.leaves (among (nodes c)) bits t care net expands_to part (inside_of_cone c ps covered) in
          let is_t : pattern (sig_value bits) signals ≡ t = ap (pattern (sig_value bits)) is ∙ row_pattern bits ps t within has in
          ap (digit mask) (sym is_t) ∙ shown.all row.0 row.1;
    }

pub signals_among : (c : Cone) (ps : List ℕ) (signals : List Sig) → AreLeavesOrGates c.leaves c.gates ps →
    signals ≡ map sigs.Node ps → (k : ℕ) (d : Sig) → k < length signals →
    IsSigAmong (nodes c) (slice_index_or signals k d)
signals_among c ps signals covered is k d low = subst (λ (ss : List Sig). k < length ss →
    IsSigAmong (nodes c) (slice_index_or ss k d)) (sym is) (at ps (λ p e. inside_of_cone c ps covered p e) k) low where
      at : (qs : List ℕ) → ((p : ℕ) → among qs p ≡ true → among (nodes c) p ≡ true) → (j : ℕ) → j < length (map sigs.Node qs) → IsSigAmong (nodes c) (slice_index_or (map sigs.Node qs) j d)
      at [] all j l = absurd (omega (arith, l))
      at (q ∷ qs) all zero l = among_get (nodes c) q (all q (first q qs)) where
        first : (x : ℕ) (xs : List ℕ) → among (x ∷ xs) x ≡ true
        first x xs = get_among (x ∷ xs) 0 x refl
      at (q ∷ qs) all (suc j) l = at qs (λ p e. all p (later p q qs e)) j (omega (arith, l)) where
        later : (p x : ℕ) (xs : List ℕ) → among xs p ≡ true → among (x ∷ xs) p ≡ true
        later p x xs e = let r = among_get xs p e in get_among (x ∷ xs) (suc r.0) p r.1

-- ---- gates with their nodes

one_after : (gates : List (ℕ × Gate)) (x : ℕ × Gate) (rest : List ℕ) → gate_nodes (gates ++ x ∷ []) ++ rest ≡ gate_nodes gates ++ (x.0 ∷ rest)
one_after [] x rest = refl
one_after (g ∷ gates) x rest = ap (λ (ps : List ℕ). g.0 ∷ ps) (one_after gates x rest)

pub numbered_more : (n : Net) (ps left : List ℕ) (p : ℕ) (rest : List ℕ) (g : Gate) (gates new : List (ℕ × Gate)) →
    left ≡ p ∷ rest → IsGateOf n p g → new ≡ gates ++ (p, g) ∷ [] → AreNumbered n ps left gates →
    AreNumbered n ps rest new
numbered_more n ps left p rest g gates new parts of is was =
    subst (AreNumbered n ps rest) (sym is) (record {
      parts = one_after gates (p, g) rest ∙ ap (λ (xs : List ℕ). gate_nodes gates ++ xs) (sym parts) ∙ was.parts;
      own = λ i x at. ⊎_elim (λ there. was.own i x there) (λ r. subst (λ (y : ℕ × Gate). IsGateOf n y.0 y.1) r.1 of) (at_last gates (p, g) i x at);
    })

pub nothing_after : (xs : List ℕ) → xs ++ [] ≡ xs
nothing_after [] = refl
nothing_after (x ∷ xs) = ap (λ (ys : List ℕ). x ∷ ys) (nothing_after xs)

pub numbered_nodes : (n : Net) (ps : List ℕ) (gates : List (ℕ × Gate)) → AreNumbered n ps [] gates → gate_nodes gates ≡ ps
numbered_nodes n ps gates are = sym (nothing_after (gate_nodes gates)) ∙ are.parts

-- the gates of a window are above its inputs
pub inner_above : (n : Net) (w : Window) (inputs : List ℕ) (gates : List (ℕ × Gate)) → Belongs n w →
    inputs ≡ w.inputs → length w.inputs ≤ most_inputs → AreNumbered n w.gates [] gates → AreAbove n inputs gates
inner_above n w inputs gates is same few are =
    let own : gate_nodes gates ≡ w.gates = numbered_nodes n w.gates gates are in
    let inside : (p : ℕ) → among (gate_nodes gates) p ≡ true → among w.gates p ≡ true = λ p e. ap (λ (xs : List ℕ). among xs p) (sym own) ∙ e in
    subst (λ (xs : List ℕ). AreAbove n xs gates) (sym same) (record {
      few = omega (arith, few);
      leaves_rising = is.inputs_rising;
      gates_rising = subst IsRising (sym own) is.rising;
      apart = λ p e f. both_ways (among w.gates p) (is.apart p e).outside (inside p f);
      own = are.own;
      reads = λ i q x at reads.
          let fanout : among w.gates x.0 ≡ true = inside x.0 (numbered gates i x at) in
          ⊎_elim
          (λ within. inr (ap (λ (xs : List ℕ). among xs q) own ∙ within))
          (λ out. inl (is.read q (record { outside = out; read = record { fanout = x.0; inside = fanout; reads = of_reads n x.0 q x.1 (are.own i x at) reads } })))
          (cases_Bool (among w.gates q));
    })
  where
    numbered : (gs : List (ℕ × Gate)) (j : ℕ) (y : ℕ × Gate) → slice_get gs j ≡ Some y → among (gate_nodes gs) y.0 ≡ true
    numbered [] j y e = absurd cc
    numbered (g ∷ gs) zero y e = let f : g ≡ y = cc in subst (λ (z : ℕ × Gate). among (gate_nodes (g ∷ gs)) z.0 ≡ true) f (get_among (gate_nodes (g ∷ gs)) 0 g.0 refl)
    numbered (g ∷ gs) (suc j) y e = let r = among_get (gate_nodes gs) y.0 (numbered gs j y e) in get_among (gate_nodes (g ∷ gs)) (suc r.0) y.0 r.1

-- ---- words of a window's gates

pub index_there : (xs : List ℕ) (i p : ℕ) → among (drop i xs) p ≡ true → i < length xs
index_there [] zero p e = absurd (let f : false ≡ true = e in cc)
index_there [] (suc i) p e = absurd (let f : false ≡ true = e in cc)
index_there (x ∷ xs) zero p e = omega arith
index_there (x ∷ xs) (suc i) p e = omega (arith, index_there xs i p e)

pub index_found : (xs : List ℕ) (i p : ℕ) → among (drop i xs) p ≡ true → slice_index_or xs i 0 ≡ p → slice_get xs i ≡ Some p
index_found xs i p there is = slice_get-get_or xs i 0 (index_there xs i p there) ∙ ap Some is

one_word : (k : ℕ) → k ≤ most_inputs → width_of (2 ^ k) ≡ 1
one_word k few = let most : 2 ^ k ≤ 2 ^ 6 = pow_mono few in omega (arith, most, above_zero k)

pub word_index : (c : Cone) (w : Words) (inputs gates : List ℕ) (i p : ℕ) → AreWords c w → c.leaves ≡ inputs →
    gate_nodes c.gates ≡ gates → length inputs ≤ most_inputs → slice_get gates i ≡ Some p → length inputs + i < length w.lanes
word_index c w inputs gates i p words leaves own few at =
    let rows : w.rows ≡ 2 ^ length inputs = words.rows ∙ ap (λ (xs : List ℕ). 2 ^ length xs) leaves in
    let width : width_of w.rows ≡ 1 = ap (λ (r : ℕ). width_of r) rows ∙ one_word (length inputs) few in
    let count : length (nodes c) ≡ length inputs + length gates = length-append c.leaves (gate_nodes c.gates)
    ∙ ap (λ (xs : List ℕ). length xs + length (gate_nodes c.gates)) leaves
    ∙ ap (λ (xs : List ℕ). length inputs + length xs) own in
    let size : length w.lanes ≡ length (nodes c) * 1 = words.size ∙ ap (λ (k : ℕ). length (nodes c) * k) width in
    omega (arith, count, size, slice_get_within gates i p at)

pub word_values : (c : Cone) (w : Words) (inputs gates : List ℕ) (i p : ℕ) → AreWords c w → c.leaves ≡ inputs →
    gate_nodes c.gates ≡ gates → length inputs ≤ most_inputs → slice_get gates i ≡ Some p →
    HasGateValues c p (slice_index_or w.lanes (length inputs + i) 0)
word_values c w inputs gates i p words leaves own few at t low =
    let rows : w.rows ≡ 2 ^ length inputs = words.rows ∙ ap (λ (xs : List ℕ). 2 ^ length xs) leaves in
    let width : width_of w.rows ≡ 1 = ap (λ (r : ℕ). width_of r) rows ∙ one_word (length inputs) few in
    let below : t < w.rows = subst (λ (r : ℕ). t < r) (sym words.rows) low in
    let most : 2 ^ length inputs ≤ 2 ^ 6 = pow_mono few in
    let here : slice_get (nodes c) (length inputs + i) ≡ Some p =
    ap (λ (k : ℕ). slice_get (nodes c) (k + i)) (ap (length {A = ℕ}) (sym leaves)) ∙ at_after c.leaves (gate_nodes c.gates) i p (ap (λ (xs : List ℕ). slice_get xs i) own ∙ at) in
    let k : ℕ = length inputs + i in
    let node : k * width_of w.rows + 0 ≡ k = ap (λ (x : ℕ). k * x + 0) width ∙ omega arith in
    let same : 64 * 0 + t ≡ t = omega arith in
    ap (λ (x : ℕ). digit (slice_index_or w.lanes x 0) t) (sym node)
    ∙ words.values k p 0 t here (omega (arith, below, rows, most)) (omega (arith, below))
    ∙ ap (λ (x : ℕ). value_in c x p) same

-- ---- all outputs

more_parts : (xs : List ℕ) (x : ℕ) (rest : List ℕ) → (xs ++ x ∷ []) ++ rest ≡ xs ++ (x ∷ rest)
more_parts [] x rest = refl
more_parts (y ∷ ys) x rest = ap (λ (zs : List ℕ). y ∷ zs) (more_parts ys x rest)

pub masked_more : (c : Cone) (mask : ℕ) (outputs left : List ℕ) (x : ℕ) (rest on care next more : List ℕ) (word : ℕ) →
    left ≡ x ∷ rest → HasGateValues c x word → next ≡ on ++ bit_and word mask ∷ [] → more ≡ care ++ mask ∷ [] →
    AreMasked c mask outputs left on care → AreMasked c mask outputs rest next more
masked_more c mask outputs left x rest on care next more word parts values is also was =
    subst (λ (xs : List ℕ). AreMasked c mask outputs rest xs more) (sym is) (subst (AreMasked c mask outputs rest (on ++ bit_and word mask ∷ [])) (sym also) (record {
      done = was.done ++ x ∷ [];
      parts = more_parts was.done x rest ∙ ap (λ (xs : List ℕ). was.done ++ xs) (sym parts) ∙ was.parts;
      size = length-append on (bit_and word mask ∷ []) ∙ ap (λ (k : ℕ). k + 1) was.size ∙ sym (length-append was.done (x ∷ []));
      care_size = length-append care (mask ∷ []) ∙ ap (λ (k : ℕ). k + 1) was.care_size ∙ sym (length-append was.done (x ∷ []));
      each = λ i p w at_p at_w.
          ⊎_elim
          (λ there_p. ⊎_elim
          (λ there_w. was.each i p w there_p there_w)
          (λ r. absurd (omega (arith, r.0, was.size, slice_get_within was.done i p there_p)))
          (at_last on (bit_and word mask) i w at_w))
          (λ r. ⊎_elim
          (λ there_w. absurd (omega (arith, r.0, was.size, slice_get_within on i w there_w)))
          (λ s. (word, sym s.1, subst (λ (q : ℕ). HasGateValues c q word) r.1 values))
          (at_last on (bit_and word mask) i w at_w))
          (at_last was.done x i p at_p);
      masks = λ i m at. ⊎_elim (λ there. was.masks i m there) (λ r. sym r.1) (at_last care mask i m at);
    }))

no_length : (xs : List ℕ) → length xs ≡ 0 → xs ≡ []
no_length [] e = refl
no_length (x ∷ xs) e = absurd (omega (arith, e))

pub masked_end : (c : Cone) (mask : ℕ) (outputs left on care : List ℕ) → length left ≡ 0 → AreMasked c mask outputs left on care → AreMasked c mask outputs [] on care
masked_end c mask outputs left on care none was = subst (λ (xs : List ℕ). AreMasked c mask outputs xs on care) (no_length left none) was

all_done : (c : Cone) (mask : ℕ) (outputs on care : List ℕ) (are : AreMasked c mask outputs [] on care) → are.done ≡ outputs
all_done c mask outputs on care are = sym (nothing_after are.done) ∙ are.parts

past_end : (xs : List ℕ) (i : ℕ) → length xs ≤ i → slice_index xs i ≡ 0
past_end [] i low = refl
past_end (x ∷ xs) zero low = absurd (omega (arith, low))
past_end (x ∷ xs) (suc i) low = past_end xs i (omega (arith, low))

no_digit : (t : ℕ) → digit 0 t ≡ true → ⊥
no_digit t e = both_ways (digit 0 t) (ap (λ (x : ℕ). x == 1) (bit_at-zero t)) e

pub masked_spec : (c : Cone) (mask n : ℕ) (outputs on care : List ℕ) → AreMasked c mask outputs [] on care → n ≤ most_inputs →
    length outputs ≤ most_outputs → ((t : ℕ) → digit mask t ≡ true → t < 2 ^ n) → IsSpec (record { n = n; on = on; care = care })
masked_spec c mask n outputs on care are few_in few_out low =
    let count : length on ≡ length outputs = are.size ∙ ap (length {A = ℕ}) (all_done c mask outputs on care are) in
    record {
      inputs = few_in;
      outputs = omega (arith, count, few_out);
      together = are.care_size ∙ sym are.size;
      inside = λ i t e.
          ⊎_elim
          (λ (within : i < length on).
          let at_w : slice_get on i ≡ Some (slice_index on i) = slice_get-get_or on i 0 within in
          let at_p : slice_get are.done i ≡ Some (slice_index are.done i) = slice_get-get_or are.done i 0 (omega (arith, within, are.size)) in
          let at_m : slice_get care i ≡ Some (slice_index care i) = slice_get-get_or care i 0 (omega (arith, within, are.size, are.care_size)) in
          let r = are.each i (slice_index are.done i) (slice_index on i) at_p at_w in
          let both : (digit r.0 t && digit mask t) ≡ true = sym (digit_and r.0 mask t) ∙ ap (λ (x : ℕ). digit x t) (sym r.1) ∙ e in
          ap (λ (x : ℕ). digit x t) (are.masks i (slice_index care i) at_m) ∙ (and_parts (digit r.0 t) (digit mask t) both).1)
          (λ (past : length on ≤ i). absurd (no_digit t (ap (λ (x : ℕ). digit x t) (sym (past_end on i past)) ∙ e)))
          (cases_lt i (length on));
      rows = λ i t high.
          ⊎_elim
          (λ (on_is : digit (slice_index care i) t ≡ true).
          ⊎_elim
          (λ (within : i < length care).
          let at_m : slice_get care i ≡ Some (slice_index care i) = slice_get-get_or care i 0 within in
          let below : t < 2 ^ n = low t (ap (λ (x : ℕ). digit x t) (sym (are.masks i (slice_index care i) at_m)) ∙ on_is) in
          absurd (omega (arith, below, high)))
          (λ (past : length care ≤ i). absurd (no_digit t (ap (λ (x : ℕ). digit x t) (sym (past_end care i past)) ∙ on_is)))
          (cases_lt i (length care)))
          (λ off. off)
          (cases_Bool (digit (slice_index care i) t));
    }

-- ---- the specification

-- the value of a window's gate under the bits of a row
gate_value_is : (n : Net) (w : Window) (c : Cone) (t : ℕ) (given : ℕ → Bool) (p : ℕ) → IsNet n → c.leaves ≡ w.inputs →
    gate_nodes c.gates ≡ w.gates → AreAbove n c.leaves c.gates → HasRow given w.inputs t → among w.gates p ≡ true →
    value_in c t p ≡ values_with n (among w.inputs) given p
gate_value_is n w c t given p net leaves own above has inside =
    let cone : IsCone c = above_cone n c.leaves c.gates net above in
    let row : HasRow given c.leaves t = subst (λ (xs : List ℕ). HasRow given xs t) (sym leaves) has in
    let there : among (nodes c) p ≡ true = among_right c.leaves (gate_nodes c.gates) p (ap (λ (xs : List ℕ). among xs p) own ∙ inside) in
    part_values n (among c.leaves) given (among (nodes c)) (value_in c t) p net (cone_part n c t given net cone above (λ q l. leaf_value c t given q cone row l)) there
    ∙ ap (λ (xs : List ℕ). values_with n (among xs) given p) leaves

pub specification_is : (n : Net) (w : Window) (c : Cone) (mask : ℕ) (s : tables.Words) → IsNet n → Belongs n w →
    c.leaves ≡ w.inputs → gate_nodes c.gates ≡ w.gates → AreAbove n c.leaves c.gates → IsCareMask n w.inputs mask →
    s.n ≡ length w.inputs → AreMasked c mask w.outputs [] s.on s.care → IsSpecificationOf n w (specification s)
specification_is n w c mask s net is leaves own above care_mask inputs are =
    let done : are.done ≡ w.outputs = all_done c mask w.outputs s.on s.care are in
    let count : length s.on ≡ length w.outputs = are.size ∙ ap (length {A = ℕ}) done in
    let mask_at : (i t : ℕ) → i < length w.outputs → digit (slice_index s.care i) t ≡ digit mask t = λ i t within.
    ap (λ (x : ℕ). digit x t) (are.masks i (slice_index s.care i) (slice_get-get_or s.care i 0 (omega (arith, within, are.care_size, ap (length {A = ℕ}) done)))) in
    record {
      inputs = inputs;
      outputs = count;
      care = λ h t given some few low care has.
          let i : ℕ = h - 1 in
          let within : i < length w.outputs = omega (arith, some, few) in
          let p : ℕ = slice_index_or w.outputs i 0 in
          let at_p : slice_get are.done i ≡ Some p = ap (λ (xs : List ℕ). slice_get xs i) done ∙ slice_get-get_or w.outputs i 0 within in
          let at_w : slice_get s.on i ≡ Some (slice_index s.on i) = slice_get-get_or s.on i 0 (omega (arith, within, count)) in
          let r = are.each i p (slice_index s.on i) at_p at_w in
          let on : digit mask t ≡ true = care_mask.all t low care in
          let rows : t < 2 ^ length c.leaves = subst (λ (xs : List ℕ). t < 2 ^ length xs) (sym leaves) low in
          let output : among w.gates p ≡ true = (is.outputs.only p (get_among w.outputs i p (slice_get-get_or w.outputs i 0 within))).inside in
          let bit : digit (slice_index s.on i) t ≡ values_with n (among w.inputs) given p =
          ap (λ (x : ℕ). digit x t) r.1 ∙ digit_and r.0 mask t ∙ ap (λ (b : Bool). digit r.0 t && b) on
          ∙ and_on (digit r.0 t) ∙ r.2 t rows ∙ gate_value_is n w c t given p net leaves own above has output in
          cond-true (digit (slice_index s.care i) t) (if digit (slice_index s.on i) t then One else Zero) Free (mask_at i t within ∙ on) ∙ ap {B = Cell} cell_of bit;
      free = λ h t some few low none.
          let i : ℕ = h - 1 in
          let within : i < length w.outputs = omega (arith, some, few) in
          let off : digit mask t ≡ false = ⊎_elim (λ on. absurd (none (care_mask.only t on))) (λ o. o) (cases_Bool (digit mask t)) in
          cond-false (digit (slice_index s.care i) t) (if digit (slice_index s.on i) t then One else Zero) Free (mask_at i t within ∙ off);
    }
  where
    and_on : (b : Bool) → (b && true) ≡ b
    and_on true = refl
    and_on false = refl
