-- Which rows are observable.
use Rattle.std.specs.Prelude.{◌≡◌, ℕ, ◌+◌, ◌*◌, ◌/◌, ◌%◌, ◌≤◌, ◌<◌, ◌^◌, ◌==◌, Bool, true, false, List, [], ◌∷◌, ◌++◌, length, map, slice_index_or}
use Rattle.std.proofs.Common.{arith, sym, ◌∙◌, ap, subst, inl, inr, ⊎_elim}
use Rattle.std.proofs.Math.Pow.{pow_mono}
use Rattle.std.proofs.lemmas.Bool.{cases_Bool, both_ways}
use Rattle.std.proofs.lemmas.Nat.Bits.{bit_at_ones}
use Rattle.chain_theory.specs.Operator.{digit}
use Rattle.net_theory.specs.declared.data.Sig.{Sig}
use Rattle.net_theory.specs.declared.data.Sig.TheVariants as sigs
use Rattle.net_theory.specs.Net.{Net, IsNet, end_of, sig_value}
use Rattle.lane_sim.specs.Cone.{Cone, IsCone, nodes, value_in}
use Rattle.lane_sim.specs.Words.{ArePatternsOf, pattern, pattern_under, width_of}
use Rattle.window_theory.specs.Nodes.{among, IsRising, AreJust}
use Rattle.window_theory.specs.NodeLaws.{among_cases, among_first, among_later, just_same}
use Rattle.window_theory.specs.Paths.{IsGate, HasPath, at_once, by_way_of}
use Rattle.window_theory.specs.Window.{Window, IsOutsideFanout, Belongs}
use Rattle.window_theory.specs.FaninCone.{ExpandsTo}
use Rattle.window_theory.specs.FaninConeLaws.{leaves_one}
use Rattle.window_theory.specs.Care.{values_with, HasRow}
use Rattle.window_theory.specs.FixedLaws.{part_values}
use Rattle.window_theory.specs.PairLaws.{among_at}
use Rattle.window_theory.specs.Rows.{has_row}
use Rattle.window_core.specs.Rising.{put}
use Rattle.window_core.specs.RisingLaws.{put_rising, put_own, put_only, put_kept}
use Rattle.window_core.specs.Expanding.{gate_nodes, AreAbove, AreLeavesOrGates, IsInFanin}
use Rattle.window_core.specs.ConeLaws.{among_get, cone_part}
use Rattle.window_core.specs.MaskingLaws.{get_is, pattern_row, row_pattern, leaf_value}
use Rattle.std.proofs.lemmas.Option.{slice_get_within}
use Rattle.observe_theory.specs.FanoutCone.{AreFollowing, AreFanoutCone, FanoutCone, IsFanoutCone}
use Rattle.observe_theory.specs.FanoutConeLaws.{side_input_apart}
use Rattle.observe_theory.specs.ApartLaws.{AreFree, apart_read, leaves_free, read_within, not_output}
use Rattle.observe_theory.specs.Unobservable.{IsConeRoot, IsUnobservable}
use Rattle.observe_theory.specs.JoinedLaws.{in_prefix, in_back, in_parts, is_off}
use Rattle.observe_core.specs.TakingLaws.{fanout_cone_outside}
use Rattle.observe_core.specs.Putting.{IsAbove}
use Rattle.observe_core.specs.Differing.{bit_in, IsDistinguished, AreDistinguishing}
use Rattle.observe_core.specs.Observing.{IsEither, ArePutTogether, IsObservingCone, IsObservableMask}
use Rattle.net_theory.specs.Limits.{most_leaves}
use Rattle.chain_theory.specs.Limits.{most_inputs}

-- ---- the fanout cone depends on the window

taken_gate : (n : Net) (gates taken : List ℕ) (p : ℕ) → AreFollowing n gates taken → among taken p ≡ true → IsGate n p
unfolding AreFollowing
taken_gate n gates [] p are on = absurd (let e : false ≡ true = on in cc)
taken_gate n gates (q ∷ before) p are on =
    ⊎_elim
    (λ (same : p ≡ q). subst (IsGate n) (sym same) are.0.follower.reads.fanout)
    (λ later. taken_gate n gates before p are.1 later)
    (among_cases q p before on)

pub fanout_cone_gate : (n : Net) (gates fanout_cone : List ℕ) (p : ℕ) → AreFanoutCone n gates fanout_cone → among fanout_cone p ≡ true → IsGate n p
fanout_cone_gate n gates fanout_cone p are on = taken_gate n gates are.taken p are.following (are.just.only p on)

-- from some gate of the window a path leads to each gate of the fanout cone
taken_up : (n : Net) (gates taken : List ℕ) (p : ℕ) → AreFollowing n gates taken → among taken p ≡ true → (g : ℕ) × (among gates g ≡ true) × HasPath n g p
unfolding AreFollowing
taken_up n gates [] p are on = absurd (let e : false ≡ true = on in cc)
taken_up n gates (q ∷ before) p are on =
    ⊎_elim
    (λ (same : p ≡ q).
    let own : (g : ℕ) × (among gates g ≡ true) × HasPath n g q = ⊎_elim
    (λ old. let r = taken_up n gates before are.0.follower.node are.1 old in (r.0, r.1, by_way_of r.0 are.0.follower.node q r.2 are.0.follower.reads))
    (λ gate. (are.0.follower.node, gate, at_once are.0.follower.node q are.0.follower.reads))
    (in_parts before gates are.0.follower.node are.0.follower.inside) in
    (own.0, own.1, subst (HasPath n own.0) (sym same) own.2))
    (λ later. taken_up n gates before p are.1 later)
    (among_cases q p before on)

-- so no node that doesn't depend on the window is a gate of the fanout cone
apart_fanout_cone : (n : Net) (gates fanout_cone : List ℕ) (p : ℕ) → AreFanoutCone n gates fanout_cone → IsOutsideFanout n gates p → among fanout_cone p ≡ true → ⊥
apart_fanout_cone n gates fanout_cone p are apart on = let up = taken_up n gates are.taken p are.following (are.just.only p on) in apart.above up.0 up.1 up.2

-- ---- the first leaves

pub together_start : (one other both : List ℕ) → IsRising one → both ≡ one → ArePutTogether one other other both
together_start one other both rising same =
    subst (ArePutTogether one other other) (sym same) (record {
      within = λ p e. e;
      rising = rising;
      only = λ p e. inl e;
      first = λ p e. e;
      second = λ p e. inr e;
    })

pub together_more : (one other left : List ℕ) (x : ℕ) (rest both next : List ℕ) → left ≡ x ∷ rest → next ≡ put x both → ArePutTogether one other left both → ArePutTogether one other rest next
together_more one other left x rest both next parts new was =
    let at : (p : ℕ) → among (x ∷ rest) p ≡ true → among left p ≡ true = λ p e. ap (λ (xs : List ℕ). among xs p) parts ∙ e in
    subst (ArePutTogether one other rest) (sym new) (record {
      within = λ p e. was.within p (at p (among_later x p rest e));
      rising = put_rising x both was.rising;
      only = λ p e. ⊎_elim
          (λ (same : p ≡ x). inr (subst (λ (q : ℕ). among other q ≡ true) (sym same) (was.within x (at x (among_first x rest)))))
          (λ old. was.only p old)
          (put_only x p both e);
      first = λ p e. put_kept x p both (was.first p e);
      second = λ p e. ⊎_elim
          (λ old. inl (put_kept x p both old))
          (λ here. ⊎_elim
          (λ (same : p ≡ x). inl (subst (λ (q : ℕ). among (put x both) q ≡ true) (sym same) (put_own x both)))
          (λ later. inr later)
          (among_cases x p rest (ap (λ (xs : List ℕ). among xs p) (sym parts) ∙ here)))
          (was.second p e);
    })

pub together_end : (one other left both : List ℕ) → length left ≡ 0 → ArePutTogether one other left both → AreJust (IsEither one other) both
together_end one other left both none are =
    record {
      rising = are.rising;
      only = are.only;
      all = λ p from. ⊎_elim
          (λ a. are.first p a)
          (λ b. ⊎_elim (λ there. there) (λ here. absurd (none_left left p none here)) (are.second p b))
          from;
    }
  where
    none_left : (xs : List ℕ) (p : ℕ) → length xs ≡ 0 → among xs p ≡ true → ⊥
    none_left [] p e on = let x : false ≡ true = on in absurd cc
    none_left (x ∷ xs) p e on = absurd (omega arith)

-- all of them are nodes of the net
pub first_within : (n : Net) (w : Window) (t : FanoutCone) (p : ℕ) → IsNet n → Belongs n w → IsFanoutCone n w t → IsConeRoot w t p → p < end_of n
first_within n w t p net is fanout_cone from =
    ⊎_elim
    (λ a. (is.within p a).1)
    (λ b. let side_input = fanout_cone.side_inputs.only p b in read_within n side_input.read.fanout p net side_input.read.reads)
    from

-- ---- the fanout cone above the observing fanin cone

first_apart : (n : Net) (w : Window) (t : FanoutCone) (p : ℕ) → IsNet n → Belongs n w → IsFanoutCone n w t → IsConeRoot w t p → IsOutsideFanout n w.gates p
first_apart n w t p net is fanout_cone from = ⊎_elim (λ a. is.apart p a) (λ b. side_input_apart n w t p net fanout_cone b) from

up_apart : (n : Net) (gates : List ℕ) (p f : ℕ) → HasPath n p f → IsOutsideFanout n gates f → IsOutsideFanout n gates p
up_apart n gates _ _ (at_once p f reads) apart = apart_read n gates f p apart reads
up_apart n gates _ _ (by_way_of p m f before reads) apart = up_apart n gates p m before (apart_read n gates f m apart reads)

fanin_cone_apart : (n : Net) (w : Window) (t : FanoutCone) (c : Cone) (p : ℕ) → IsNet n → Belongs n w →
    IsFanoutCone n w t → IsObservingCone n w t c → among (nodes c) p ≡ true → IsOutsideFanout n w.gates p
fanin_cone_apart n w t c p net is fanout_cone cone on =
    ⊎_elim
    (λ leaf.
    let free : AreFree n w.gates c.leaves = leaves_free n w.gates cone.first c.leaves net
    (record { apart = λ q e. first_apart n w t q net is fanout_cone (cone.just.only q e); within = λ q e. first_within n w t q net is fanout_cone (cone.just.only q e) })
    cone.expands_to in
    free.apart p leaf)
    (λ inside.
    let in_fanin : IsInFanin n cone.first p = cone.in_fanin p inside in
    let apart : IsOutsideFanout n w.gates in_fanin.node = first_apart n w t in_fanin.node net is fanout_cone (cone.just.only in_fanin.node in_fanin.inside) in
    ⊎_elim (λ same. subst (IsOutsideFanout n w.gates) (sym same) apart) (λ up. up_apart n w.gates p in_fanin.node up apart) in_fanin.why)
    (in_parts c.leaves (gate_nodes c.gates) p on)

pub fanout_cone_above : (n : Net) (w : Window) (t : FanoutCone) (c : Cone) → IsNet n → Belongs n w → IsFanoutCone n w t → IsObservingCone n w t c → IsAbove n w.outputs c t.gates
fanout_cone_above n w t c net is fanout_cone cone =
    record {
      own = cone.above;
      rising = fanout_cone.gates.just.rising;
      are = λ p on. fanout_cone_gate n w.gates t.gates p fanout_cone.gates on;
      apart = λ p there on. apart_fanout_cone n w.gates t.gates p fanout_cone.gates (fanin_cone_apart n w t c p net is fanout_cone cone there) on;
      reads = λ p q on reads.
          let outside : among w.gates p ≡ false = fanout_cone_outside n w.gates t.gates p fanout_cone.gates on in
          ⊎_elim
          (λ inside. inl (is.outputs.all q (record { inside = inside; seen = inl (record { fanout = p; outside = outside; reads = reads }) })))
          (λ off. inr (⊎_elim
          (λ within. inr within)
          (λ out.
          let beyond : among (t.gates ++ w.gates) q ≡ false =
          is_off (t.gates ++ w.gates) q (λ e. ⊎_elim (λ a. both_ways (among t.gates q) out a)
          (λ b. both_ways (among w.gates q) off b) (in_parts t.gates w.gates q e)) in
          let side_input : among t.side_inputs q ≡ true = fanout_cone.side_inputs.all q (record { outside = beyond; read = record { fanout = p; inside = on; reads = reads } }) in
          inl (⊎_elim (λ leaf. in_prefix c.leaves (gate_nodes c.gates) q leaf) (λ gate. in_back c.leaves (gate_nodes c.gates) q gate) (cone.covered q (cone.just.all q (inr side_input)))))
          (cases_Bool (among t.gates q))))
          (cases_Bool (among w.gates q));
      outputs_rising = is.outputs.rising;
      beside = λ p there. not_output n w p is (fanin_cone_apart n w t c p net is fanout_cone cone there).outside;
      fanout_cone_beside = λ p on. not_output n w p is (fanout_cone_outside n w.gates t.gates p fanout_cone.gates on);
    }

-- ---- rows

-- bits that give the leaves one row agree on them
rows_agree : (leaves : List ℕ) (row : ℕ) (f g : ℕ → Bool) (q : ℕ) → HasRow f leaves row → HasRow g leaves row → among leaves q ≡ true → g q ≡ f q
rows_agree leaves row f g q a b on =
    let k = among_get leaves q on in
    let low : k.0 < length leaves = slice_get_within leaves k.0 q k.1 in
    let own : slice_index_or leaves k.0 0 ≡ q = get_is leaves k.0 q k.1 in
    ap g (sym own) ∙ b k.0 low ∙ sym (a k.0 low) ∙ ap f own

agree_rows : (leaves : List ℕ) (row : ℕ) (f g : ℕ → Bool) → HasRow f leaves row → ((q : ℕ) → among leaves q ≡ true → g q ≡ f q) → HasRow g leaves row
agree_rows leaves row f g a same i low = same (slice_index_or leaves i 0) (among_at leaves i 0 low) ∙ a i low

-- the fanin cone by itself gives the window's inputs the values that they have
input_values : (n : Net) (w : Window) (t : FanoutCone) (c : Cone) (row : ℕ) (f : ℕ → Bool) (i : ℕ) → IsNet n →
    IsCone c → IsObservingCone n w t c → HasRow f c.leaves row → i < length w.inputs →
    value_in c row (slice_index_or w.inputs i 0) ≡ values_with n (among c.leaves) f (slice_index_or w.inputs i 0)
input_values n w t c row f i net is cone has low =
    let q : ℕ = slice_index_or w.inputs i 0 in
    let there : among (nodes c) q ≡ true = ⊎_elim (λ leaf. in_prefix c.leaves (gate_nodes c.gates) q leaf) (λ gate.
    in_back c.leaves (gate_nodes c.gates) q gate)
    (cone.covered q (cone.just.all q (inl (among_at w.inputs i 0 low)))) in
    part_values n (among c.leaves) f (among (nodes c)) (value_in c row) q net (cone_part n c row f net is cone.above (λ x leaf. leaf_value c row f x is has leaf)) there

-- an assignment by its word and its bit
word_of : (row : ℕ) → 64 * (row / 64) + row % 64 ≡ row
word_of row = omega arith

pub mask_is : (n : Net) (w : Window) (t : FanoutCone) (c : Cone) (signals : List Sig) (differ : List ℕ) (mask : ℕ) →
    IsNet n → IsCone c → t.directly_observable ≡ false → IsObservingCone n w t c → signals ≡ map sigs.Node w.inputs →
    length differ ≡ width_of (2 ^ length c.leaves) → AreDistinguishing n c.leaves w.outputs t.cone_outputs differ
    → ArePatternsOf c signals (λ row. digit (slice_index_or differ (row / 64) 0) (row % 64)) mask → IsObservableMask n w t mask
mask_is n w t c signals differ mask net is hidden cone signals_are size distinguishing shown =
    record {
      seen = λ row low on unobservable.
          let r = shown.only row on in
          let a : ℕ = r.0 in
          let within : 64 * (a / 64) + a % 64 < 2 ^ length c.leaves = omega (arith, r.1) in
          let distinguished : IsDistinguished n c.leaves w.outputs t.cone_outputs (64 * (a / 64) + a % 64) =
          distinguishing.only (a / 64) (a % 64) (omega (arith, r.1, size)) (omega arith) within r.2 in
          let one_row : HasRow distinguished.one c.leaves a = subst (HasRow distinguished.one c.leaves) (word_of a) distinguished.one_row in
          let other_row : HasRow distinguished.other c.leaves a = subst (HasRow distinguished.other c.leaves) (word_of a) distinguished.other_row in
          let leaves_are : unobservable.leaves ≡ c.leaves =
          leaves_one n cone.first unobservable.leaves c.leaves
          (subst (λ (xs : List ℕ). ExpandsTo n xs unobservable.leaves)
          (just_same (IsConeRoot w t) unobservable.observing.first cone.first unobservable.observing.just cone.just)
          unobservable.observing.fanin_cone) cone.expands_to in
          let inputs_row : HasRow (value_in c a) w.inputs row = pattern_row (value_in c a) w.inputs row (ap (pattern (sig_value (value_in c a))) (sym signals_are) ∙ r.3) in
          let has : HasRow (values_with n (among c.leaves) distinguished.one) w.inputs row =
          λ i below. sym (input_values n w t c a distinguished.one i net is cone one_row below)
          ∙ inputs_row i below in
          let same = unobservable.same distinguished.one distinguished.other distinguished.node
          (subst (λ (ls : List ℕ). HasRow (values_with n (among ls) distinguished.one) w.inputs row) (sym leaves_are) has)
          (λ q leaf. rows_agree c.leaves a distinguished.one distinguished.other q one_row other_row (ap (λ (ls : List ℕ). among ls q) (sym leaves_are) ∙ leaf))
          distinguished.cone_output in
          distinguished.differ (sym (subst (λ (ls : List ℕ).
          values_with n (among (ls ++ w.outputs)) distinguished.other distinguished.node ≡
          values_with n (among (ls ++ w.outputs)) distinguished.one distinguished.node) leaves_are same));
      unobservable = λ row low off. record {
        hidden = hidden;
        leaves = c.leaves;
        observing = record { first = cone.first; just = cone.just; few = cone.few; fanin_cone = cone.expands_to };
        same = λ f g p has agree cone_output.
            let r = has_row f c.leaves in
            let a : ℕ = r.0 in
            let few : a % 64 < 64 = omega arith in
            let within : 64 * (a / 64) + a % 64 < 2 ^ length c.leaves = omega (arith, r.1) in
            let low_word : a / 64 < length differ = omega (arith, r.1, size) in
            let f_row : HasRow f c.leaves (64 * (a / 64) + a % 64) = subst (HasRow f c.leaves) (sym (word_of a)) r.2 in
            let g_row : HasRow g c.leaves (64 * (a / 64) + a % 64) = agree_rows c.leaves (64 * (a / 64) + a % 64) f g f_row agree in
            let inputs_row : HasRow (value_in c a) w.inputs row = λ i below. input_values n w t c a f i net is cone r.2 below ∙ has i below in
            let is_row : pattern_under c signals a ≡ row = ap (pattern (sig_value (value_in c a))) signals_are ∙ row_pattern (value_in c a) w.inputs row low inputs_row in
            ⊎_elim
            (λ on. absurd (both_ways (digit mask row) off (ap (digit mask) (sym is_row) ∙ shown.all a r.1 on)))
            (λ none. distinguishing.none (a / 64) (a % 64) p g f low_word few within none g_row f_row cone_output)
            (cases_Bool (bit_in differ (a / 64) (a % 64)));
      };
    }

-- where no row is unobservable the mask has all bits
all_ones : (k row : ℕ) → k ≤ most_inputs → row < 2 ^ k → digit 18446744073709551615 row ≡ true
all_ones k row few low =
    let wide : 2 ^ k ≤ 2 ^ 6 = pow_mono few in
    ap (λ (x : ℕ). x == 1) (bit_at_ones 64 row (omega (arith, low, wide)))

pub all_seen : (n : Net) (w : Window) (t : FanoutCone) → length w.inputs ≤ most_inputs → ((row : ℕ) → IsUnobservable n w t row → ⊥) → IsObservableMask n w t 18446744073709551615
all_seen n w t few none =
    record {
      seen = λ row low on unobservable. none row unobservable;
      unobservable = λ row low off. absurd (both_ways (digit 18446744073709551615 row) off (all_ones (length w.inputs) row few low));
    }

pub directly_observable_seen : (n : Net) (w : Window) (t : FanoutCone) (row : ℕ) → t.directly_observable ≡ true → IsUnobservable n w t row → ⊥
directly_observable_seen n w t row directly_observable unobservable = both_ways t.directly_observable unobservable.hidden directly_observable

pub many_seen : (n : Net) (w : Window) (t : FanoutCone) (first : List ℕ) (row : ℕ) → AreJust (IsConeRoot w t) first → most_leaves < length first → IsUnobservable n w t row → ⊥
many_seen n w t first row just many unobservable =
    let same : unobservable.observing.first ≡ first = just_same (IsConeRoot w t) unobservable.observing.first first unobservable.observing.just just in
    omega (arith, ap (length {A = ℕ}) same, unobservable.observing.few, many)

-- the observing fanin cone by the code's own list of first leaves
pub observing_code : (n : Net) (w : Window) (t : FanoutCone) (c : Cone) (first list : List ℕ) → list ≡ first →
    AreJust (IsConeRoot w t) first → length first ≤ most_leaves → ExpandsTo n list c.leaves → AreAbove n c.leaves c.gates →
    AreLeavesOrGates c.leaves c.gates list → ((p : ℕ) → among (gate_nodes c.gates) p ≡ true → IsInFanin n list p) →
    IsObservingCone n w t c
observing_code n w t c first list same just few expands_to above covered in_fanin =
    record {
      first = first;
      just = just;
      few = few;
      expands_to = subst (λ (xs : List ℕ). ExpandsTo n xs c.leaves) same expands_to;
      above = above;
      covered = subst (AreLeavesOrGates c.leaves c.gates) same covered;
      in_fanin = λ p on. subst (λ (xs : List ℕ). IsInFanin n xs p) same (in_fanin p on);
    }
