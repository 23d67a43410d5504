-- How the gates of a fanout cone are taken, and what its parts are.
use Rattle.std.specs.Prelude.{◌≡◌, ℕ, Bool, ◌+◌, ◌≤◌, true, false, List, [], ◌∷◌, ◌++◌, length, refl}
use Rattle.std.proofs.Common.{arith, sym, ◌∙◌, ap, subst, inl, inr, ⊎_elim}
use Rattle.std.proofs.lemmas.Bool.{cases_Bool, both_ways}
use Rattle.net_theory.specs.Net.{Net, IsNet}
use Rattle.window_theory.specs.Nodes.{among, IsRising, AreJust}
use Rattle.window_theory.specs.NodeLaws.{among_cases, among_first, among_later}
use Rattle.window_theory.specs.Paths.{IsGate}
use Rattle.window_theory.specs.Window.{Window, IsReadBy, IsInput, IsOutput}
use Rattle.window_core.specs.Rising.{put}
use Rattle.window_core.specs.RisingLaws.{put_own, put_kept, put_only, put_rising, put_longer}
use Rattle.window_core.specs.PartnerSearchLaws.{among_end, end_among, prefix_among, rising_end}
use Rattle.observe_theory.specs.FanoutCone.{IsFollower, IsLeastFollower, AreFollowing, AreFanoutCone, IsSideInput, IsConeOutput, IsDirectlyObservable, IsFanoutCone}
use Rattle.observe_theory.specs.FanoutConeLaws.{follower_high}
use Rattle.observe_theory.specs.JoinedLaws.{in_prefix, in_back, in_parts, is_off, out_back}
use Rattle.observe_core.specs.Following.{IsNextFollower, HaveSame, IsConeTaking, HasFanoutCone}
use Rattle.observe_core.specs.Kept.{IsBoth, HasSome}
use Rattle.window_theory.specs.Limits.{most_of_fanout_cone}

-- ---- lists with the same nodes

pub follower_same : (n : Net) (xs ys : List ℕ) (p : ℕ) → HaveSame xs ys → IsFollower n xs p → IsFollower n ys p
follower_same n xs ys p same is = record { outside = sym (same p) ∙ is.outside; node = is.node; inside = sym (same is.node) ∙ is.inside; reads = is.reads }

pub output_same : (n : Net) (xs ys : List ℕ) (p : ℕ) → HaveSame xs ys → IsOutput n xs p → IsOutput n ys p
output_same n xs ys p same is =
    record {
      inside = sym (same p) ∙ is.inside;
      seen = ⊎_elim
          (λ read. inl (record { fanout = read.fanout; outside = sym (same read.fanout) ∙ read.outside; reads = read.reads }))
          (λ sink. inr sink)
          is.seen;
    }

-- lists have the same nodes where each has those of the other
both_same : (xs ys : List ℕ) → ((q : ℕ) → among xs q ≡ true → among ys q ≡ true) → ((q : ℕ) → among ys q ≡ true → among xs q ≡ true) → HaveSame xs ys
both_same xs ys there back q =
    ⊎_elim
    (λ on. on ∙ sym (there q on))
    (λ off. off ∙ sym (is_off ys q (λ on. both_ways (among xs q) off (back q on))))
    (cases_Bool (among xs q))

turned : (xs ys : List ℕ) → HaveSame xs ys → HaveSame ys xs
turned xs ys same q = sym (same q)

-- ---- taking

pub taking_start : (n : Net) (gates all fanout_cone : List ℕ) → all ≡ gates → IsRising all → ((p : ℕ) → among all p ≡ true → IsGate n p) → fanout_cone ≡ [] → IsConeTaking n gates 0 all fanout_cone
unfolding AreFollowing IsRising
taking_start n gates all fanout_cone same rising are none =
    record {
      taken = [];
      following = tt;
      size = refl;
      just = subst (AreJust (λ (p : ℕ). among [] p ≡ true)) (sym none) (record { rising = tt; only = λ p e. e; all = λ p e. e });
      rising = rising;
      same = λ q. ap (λ (xs : List ℕ). among xs q) same;
      few = omega (arith, ap (length {A = ℕ}) same);
      are = are;
    }

pub taking_more : (n : Net) (gates all fanout_cone new next : List ℕ) (count p : ℕ) → IsNet n → (p ≡ 0 → ⊥) →
    IsNextFollower n all p → new ≡ put p all → next ≡ fanout_cone ++ p ∷ [] →
    IsConeTaking n gates count all fanout_cone → IsConeTaking n gates (count + 1) new next
unfolding AreFollowing
taking_more n gates all fanout_cone new next count p net some follower new_is next_is was =
    let taken : List ℕ = was.taken in
    let first : IsFollower n all p = ⊎_elim (λ none. absurd (some none)) (λ f. f) follower.found in
    let own : IsFollower n (taken ++ gates) p = follower_same n all (taken ++ gates) p was.same first in
    let least : IsLeastFollower n (taken ++ gates) p =
    record {
      follower = own;
      least = λ q is. (follower.most q (follower_same n (taken ++
          gates) all q (turned all (taken ++ gates) was.same) is)).1;
    } in
    subst (λ (xs : List ℕ). IsConeTaking n gates (count + 1) xs next) (sym new_is)
    (subst (λ (ts : List ℕ). IsConeTaking n gates (count + 1) (put p all) ts) (sym next_is)
    (record {
      taken = p ∷ taken;
      following = (least, was.following);
      size = omega (arith, was.size);
      just = record {
        rising = rising_end fanout_cone p was.just.rising (λ q e. follower_high n gates taken p q net was.following own (was.just.only q e));
        only = λ q e. ⊎_elim (λ there. among_later p q taken (was.just.only q there)) (λ (same : q ≡ p).
            subst (λ (z : ℕ). among (p ∷ taken) z ≡ true) (sym same) (among_first p taken)) (among_end fanout_cone p q e);
        all = λ q e. ⊎_elim
            (λ (same : q ≡ p). subst (λ (z : ℕ). among (fanout_cone ++ p ∷ []) z ≡ true) (sym same) (end_among fanout_cone p))
            (λ later. prefix_among fanout_cone p q (was.just.all q later))
            (among_cases p q taken e);
      };
      rising = put_rising p all was.rising;
      same = both_same (put p all) (p ∷ (taken ++ gates))
          (λ q e. ⊎_elim (λ (same : q ≡ p). subst (λ (z : ℕ). among (p ∷ (taken ++ gates)) z ≡ true) (sym same)
          (among_first p (taken ++ gates))) (λ there. among_later p q (taken ++ gates) (sym (was.same q) ∙ there))
          (put_only p q all e))
          (λ q e. ⊎_elim (λ (same : q ≡ p). subst (λ (z : ℕ). among (put p all) z ≡ true) (sym same) (put_own p all))
          (λ there. put_kept p q all (was.same q ∙ there)) (among_cases p q (taken ++ gates) e));
      few = omega (arith, was.few, (put_longer p all was.rising).1);
      are = λ q e. ⊎_elim (λ (same : q ≡ p). subst (IsGate n) (sym same) first.reads.fanout) (λ there. was.are q there) (put_only p q all e);
    }))

-- the window's gates with the fanout cone
joined : (n : Net) (gates all fanout_cone : List ℕ) (count : ℕ) → (w : IsConeTaking n gates count all fanout_cone) → HaveSame all (fanout_cone ++ gates)
joined n gates all fanout_cone count w =
    both_same all (fanout_cone ++ gates)
    (λ q e. ⊎_elim (λ a. in_prefix fanout_cone gates q (w.just.all q a)) (λ b. in_back fanout_cone gates q b) (in_parts w.taken gates q (sym (w.same q) ∙ e)))
    (λ q e. w.same q ∙ ⊎_elim (λ a. in_prefix w.taken gates q (w.just.only q a)) (λ b. in_back w.taken gates q b) (in_parts fanout_cone gates q e))

pub taking_none : (n : Net) (gates all fanout_cone : List ℕ) (count p : ℕ) → count ≤ most_of_fanout_cone → p ≡ 0 →
    IsNextFollower n all p → IsConeTaking n gates count all fanout_cone → HasFanoutCone n gates all fanout_cone
taking_none n gates all fanout_cone count p low none follower was =
    record {
      is = record {
        taken = was.taken;
        following = was.following;
        few = omega (arith, was.size, low);
        all = λ less x is. let most = follower.most x (follower_same n (was.taken ++ gates) all x (turned all (was.taken ++ gates) was.same) is) in omega (arith, most.0, none);
        just = was.just;
      };
      rising = was.rising;
      same = joined n gates all fanout_cone count was;
      few = omega (arith, was.few, low);
      are = was.are;
    }

pub taking_end : (n : Net) (gates all fanout_cone : List ℕ) (count : ℕ) → count ≡ most_of_fanout_cone → IsConeTaking n gates count all fanout_cone → HasFanoutCone n gates all fanout_cone
taking_end n gates all fanout_cone count full was =
    record {
      is = record {
        taken = was.taken;
        following = was.following;
        few = omega (arith, was.size, full);
        all = λ less x is. absurd (omega (arith, less, was.size, full));
        just = was.just;
      };
      rising = was.rising;
      same = joined n gates all fanout_cone count was;
      few = omega (arith, was.few, full);
      are = was.are;
    }

-- ---- its parts

taken_outside : (n : Net) (gates taken : List ℕ) (p : ℕ) → AreFollowing n gates taken → among taken p ≡ true → among gates p ≡ false
unfolding AreFollowing
taken_outside n gates [] p are on = absurd (let e : false ≡ true = on in cc)
taken_outside n gates (q ∷ before) p are on =
    ⊎_elim
    (λ (same : p ≡ q). subst (λ (z : ℕ). among gates z ≡ false) (sym same) (out_back before gates q are.0.follower.outside))
    (λ later. taken_outside n gates before p are.1 later)
    (among_cases q p before on)

pub fanout_cone_outside : (n : Net) (gates fanout_cone : List ℕ) (p : ℕ) → AreFanoutCone n gates fanout_cone → among fanout_cone p ≡ true → among gates p ≡ false
fanout_cone_outside n gates fanout_cone p are on = taken_outside n gates are.taken p are.following (are.just.only p on)

pub side_inputs_are : (n : Net) (gates all fanout_cone inputs side_inputs : List ℕ) →
    HasFanoutCone n gates all fanout_cone → AreJust (IsInput n all) inputs →
    AreJust (IsBoth (IsReadBy n fanout_cone) inputs) side_inputs → AreJust (IsSideInput n gates fanout_cone) side_inputs
side_inputs_are n gates all fanout_cone inputs side_inputs has are kept =
    record {
      rising = kept.rising;
      only = λ p e. let both = kept.only p e in record { outside = sym (has.same p) ∙ (are.only p both.0).outside; read = both.1 };
      all = λ p side_input. kept.all p (
        are.all p (record {
          outside = has.same p ∙ side_input.outside;
          read = record {
            fanout = side_input.read.fanout;
            inside = has.same side_input.read.fanout
                ∙ in_prefix fanout_cone gates side_input.read.fanout side_input.read.inside;
            reads =
                side_input.read.reads;
          };
        }),
        side_input.read,
      );
    }

pub cone_outputs_are : (n : Net) (gates all fanout_cone outputs cone_outputs : List ℕ) →
    HasFanoutCone n gates all fanout_cone → AreJust (IsOutput n all) outputs →
    AreJust (IsBoth (λ p. among gates p ≡ false) outputs) cone_outputs →
    AreJust (IsConeOutput n gates fanout_cone) cone_outputs
cone_outputs_are n gates all fanout_cone outputs cone_outputs has are kept =
    record {
      rising = kept.rising;
      only = λ p e.
          let both = kept.only p e in
          let seen : IsOutput n (fanout_cone ++ gates) p = output_same n all (fanout_cone ++ gates) p has.same (are.only p both.0) in
          record { inside = ⊎_elim (λ a. a) (λ b. absurd (both_ways (among gates p) both.1 b)) (in_parts fanout_cone gates p seen.inside); seen = seen };
      all = λ p cone_output. kept.all p
          (are.all p (output_same n (fanout_cone ++ gates) all p (turned all (fanout_cone ++ gates) has.same) cone_output.seen), fanout_cone_outside n gates fanout_cone p has.is cone_output.inside);
    }

pub some_directly_observable : (n : Net) (gates all fanout_cone outputs : List ℕ) →
    HasFanoutCone n gates all fanout_cone → AreJust (IsOutput n all) outputs → HasSome gates outputs →
    IsDirectlyObservable n gates fanout_cone
some_directly_observable n gates all fanout_cone outputs has are some =
    record { node = some.node; inside = some.inside; seen = output_same n all (fanout_cone ++ gates) some.node has.same (are.only some.node some.there) }

pub directly_observable_some : (n : Net) (gates all fanout_cone outputs : List ℕ) →
    HasFanoutCone n gates all fanout_cone → AreJust (IsOutput n all) outputs →
    IsDirectlyObservable n gates fanout_cone → HasSome gates outputs
directly_observable_some n gates all fanout_cone outputs has are directly_observable =
    record {
      node = directly_observable.node;
      inside = directly_observable.inside;
      there = are.all directly_observable.node (output_same n (fanout_cone ++ gates) all directly_observable.node
          (turned all (fanout_cone ++ gates) has.same) directly_observable.seen);
    }

-- all of it
pub fanout_cone_is : (n : Net) (w : Window) (start all fanout_cone inputs side_inputs outputs cone_outputs : List ℕ)
    (directly_observable : Bool) → start ≡ w.gates → HasFanoutCone n start all fanout_cone →
    AreJust (IsInput n all) inputs → AreJust (IsBoth (IsReadBy n fanout_cone) inputs) side_inputs →
    AreJust (IsOutput n all) outputs → AreJust (IsBoth (λ p. among w.gates p ≡ false) outputs) cone_outputs →
    (directly_observable ≡ true → HasSome w.gates outputs) → (HasSome w.gates outputs → directly_observable ≡ true) →
    IsFanoutCone n w (record {
      gates = fanout_cone;
      side_inputs = side_inputs;
      cone_outputs = cone_outputs;
      directly_observable = directly_observable;
    })
fanout_cone_is n w start all fanout_cone inputs side_inputs outputs cone_outputs directly_observable same has_start
    inputs_are kept_side_inputs outputs_are kept_cone_outputs directly_observable_on directly_observable_off =
    let has : HasFanoutCone n w.gates all fanout_cone = subst (λ (gs : List ℕ). HasFanoutCone n gs all fanout_cone) same has_start in
    record {
      gates = has.is;
      side_inputs = side_inputs_are n w.gates all fanout_cone inputs side_inputs has inputs_are kept_side_inputs;
      cone_outputs = cone_outputs_are n w.gates all fanout_cone outputs cone_outputs has outputs_are kept_cone_outputs;
      directly_observable = λ on. some_directly_observable n w.gates all fanout_cone outputs has outputs_are (directly_observable_on on);
      hidden = λ off is. both_ways directly_observable off (directly_observable_off (directly_observable_some n w.gates all fanout_cone outputs has outputs_are is));
    }

-- and by the code's own lists
pub fanout_cone_code : (n : Net) (w : Window) (start all fanout_cone inputs side_inputs outputs cone_outputs all_a ins
    tl all_b outs_a gs_a gs_b outs_b : List ℕ) (directly_observable : Bool) → start ≡ w.gates →
    HasFanoutCone n start all fanout_cone → all_a ≡ all → AreJust (IsInput n all_a) inputs → ins ≡ inputs →
    tl ≡ fanout_cone → AreJust (IsBoth (IsReadBy n tl) ins) side_inputs → all_b ≡ all →
    AreJust (IsOutput n all_b) outputs → outs_a ≡ outputs → gs_a ≡ w.gates →
    AreJust (IsBoth (λ p. among gs_a p ≡ false) outs_a) cone_outputs → gs_b ≡ w.gates → outs_b ≡ outputs →
    (directly_observable ≡ true → HasSome gs_b outs_b) → (HasSome gs_b outs_b → directly_observable ≡ true) →
    IsFanoutCone n w (record {
      gates = fanout_cone;
      side_inputs = side_inputs;
      cone_outputs = cone_outputs;
      directly_observable = directly_observable;
    })
fanout_cone_code n w start all fanout_cone inputs side_inputs outputs cone_outputs all_a ins tl all_b outs_a gs_a gs_b
    outs_b directly_observable same has all_a_is inputs_are ins_is tl_is kept_side_inputs all_b_is outputs_are
    outs_a_is gs_a_is kept_cone_outputs gs_b_is outs_b_is directly_observable_on directly_observable_off =
    fanout_cone_is n w start all fanout_cone inputs side_inputs outputs cone_outputs directly_observable same has
    (subst (λ (xs : List ℕ). AreJust (IsInput n xs) inputs) all_a_is inputs_are)
    (subst (λ (xs : List ℕ). AreJust (IsBoth (IsReadBy n fanout_cone) xs) side_inputs) ins_is (subst (λ (ys : List ℕ). AreJust (IsBoth (IsReadBy n ys) ins) side_inputs) tl_is kept_side_inputs))
    (subst (λ (xs : List ℕ). AreJust (IsOutput n xs) outputs) all_b_is outputs_are)
    (subst (λ (xs : List ℕ). AreJust (IsBoth (λ p. among w.gates p ≡ false) xs) cone_outputs) outs_a_is
    (subst (λ (ys : List ℕ). AreJust (IsBoth (λ p. among ys p ≡ false) outs_a) cone_outputs) gs_a_is
    kept_cone_outputs))
    (λ on. subst (λ (xs : List ℕ). HasSome xs outputs) gs_b_is (subst (λ (ys : List ℕ). HasSome gs_b ys) outs_b_is (directly_observable_on on)))
    (λ some. directly_observable_off (subst (λ (xs : List ℕ). HasSome xs outs_b) (sym gs_b_is) (subst (λ (ys : List ℕ). HasSome w.gates ys) (sym outs_b_is) some)))
