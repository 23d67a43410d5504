use Rattle.std.proofs.Common.{◌≡◌, ◌∙◌, ℕ, List, drop, length, ap, sym, subst, arith}
use Rattle.lane_sim.specs.Above.{BeginsWithWords}
use Rattle.lane_sim.specs.Cone.{nodes}
use Rattle.window_core.specs.ConeLaws.{rising_apart, apart_join}
use Rattle.observe_core.specs.Differing.{AreDistinguishing}
use Rattle.observe_core.specs.DifferingLaws.{distinguished_start, distinguished_end, all_zero, take_prefix}
use Rattle.observe_core.proofs.output_differences.distinguishing.Goals as goal

pub index_of-requires : goal.index_of-requires
index_of-requires c = apart_join (nodes c.args.fanin_cone.now) c.args.fanout_cone.now
    c.leaves-leaves.ensures.whole.apart (rising_apart c.args.fanout_cone.now c.requires.above.rising)
    c.requires.above.apart

pub add_all_bits-requires-clause-words : goal.add_all_bits-requires-clause-words
add_all_bits-requires-clause-words c = subst (BeginsWithWords c.args.fanin_cone.now) (sym c.in_ok-other.ensures) c.in_ok-zero.ensures.below

pub add_all_bits-requires-clause-distinguished : goal.add_all_bits-requires-clause-distinguished
add_all_bits-requires-clause-distinguished c =
    distinguished_start c.args.net.now c.args.outputs.now c.args.fanin_cone.now c.args.fanout_cone.now
    c.args.cone_outputs.now c.in_ok-zero.zero c.deref_mut.result.now c.sources-sources.ensures.net c.requires.above
    c.in_ok-zero.ensures.put c.requires.cone_outputs
    (all_zero c.deref_mut.result.now _ (c.deref_mut.ensures.value ∙ c.in_ok-differ.ensures.items_if_clones_equal (λ y e. e)))

pub returns-clause-distinguishing : goal.returns-clause-distinguishing
returns-clause-distinguishing c =
    let new : List ℕ = c.add_all_bits.new.differ in
    let size : length new ≡ c.in_ok-differ.differ.len = omega (arith, c.in_ok-add_all_bits.ensures.size, ap (length {A = ℕ}) c.deref_mut.ensures.value, c.in_ok-differ.differ.ok.0) in
    subst (AreDistinguishing c.args.net.now c.args.fanin_cone.now.leaves c.args.outputs.now c.args.cone_outputs.now)
    (sym (take_prefix new (drop (length new) c.in_ok-differ.differ.items) c.in_ok-differ.differ.len size))
    (distinguished_end c.args.net.now c.args.outputs.now c.args.fanin_cone.now c.args.fanout_cone.now
    c.args.cone_outputs.now new c.requires.above
    (omega (arith, c.requires.few)) c.in_ok-add_all_bits.ensures.distinguished)
