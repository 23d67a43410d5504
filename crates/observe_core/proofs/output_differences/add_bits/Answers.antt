use Rattle.std.proofs.Common.{ℕ, ap, length}
use Rattle.net_theory.specs.declared.data.Gate.{Gate}
use Rattle.observe_core.specs.DifferingLaws.{put_room, some_word, distinguished_code}
use Rattle.observe_core.proofs.output_differences.add_bits.Goals as goal

pub add_cone_outputs-requires-clause-some : goal.add_cone_outputs-requires-clause-some
add_cone_outputs-requires-clause-some c = some_word (length c.args.forced.fanin_cone.now.leaves) (length c.args.differ.now) c.requires.size

pub add_cone_outputs-requires-clause-one : goal.add_cone_outputs-requires-clause-one
add_cone_outputs-requires-clause-one c =
    put_room c.args.forced.net.now c.args.forced.outputs.now 0 c.args.forced.fanin_cone.now c.requires.zero.cone
    c.args.forced.fanout_cone.now c.args.zero.now (length c.args.differ.now) (length c.leaves.result.now)
    (length c.gates.result.now) c.lanes_of.result.now
    c.requires.zero.is c.requires.zero.are c.requires.size (ap (length {A = ℕ}) c.leaves.ensures.value) (ap (length {A = ℕ × Gate}) c.gates.ensures.value) c.lanes_of.ensures.value

pub add_cone_outputs-requires-clause-two : goal.add_cone_outputs-requires-clause-two
add_cone_outputs-requires-clause-two c =
    put_room c.args.forced.net.now c.args.forced.outputs.now c.args.bits c.args.forced.fanin_cone.now
    c.in_ok-put_words.ensures.put.cone c.args.forced.fanout_cone.now c.put_words.new.words (length c.args.differ.now)
    (length c.leaves.result.now) (length c.gates.result.now) c.lanes_of-2.result.now
    c.in_ok-put_words.ensures.put.is c.in_ok-put_words.ensures.put.are c.requires.size
    (ap (length {A = ℕ}) c.leaves.ensures.value) (ap (length {A = ℕ × Gate}) c.gates.ensures.value)
    c.lanes_of-2.ensures.value

pub returns-clause-distinguished : goal.returns-clause-distinguished
returns-clause-distinguished c =
    distinguished_code c.args.forced.net.now c.args.forced.outputs.now c.args.bits c.args.forced.fanin_cone.now
    c.in_ok-put_words.ensures.put.cone c.args.forced.fanout_cone.now c.args.forced.cone_outputs.now c.args.zero.now
    c.put_words.new.words c.lanes_of.result.now c.lanes_of-2.result.now (length c.leaves.result.now)
    (length c.gates.result.now) c.args.differ.now c.add_cone_outputs.new.differ
    c.sources-sources.ensures.net c.requires.above c.args.forced.few c.requires.zero c.in_ok-put_words.ensures.put.is
    c.in_ok-put_words.ensures.put.are c.lanes_of.ensures.value c.lanes_of-2.ensures.value
    (ap (length {A = ℕ}) c.leaves.ensures.value) (ap (length {A = ℕ × Gate}) c.gates.ensures.value) c.requires.size
    c.args.forced.outputs_within
    c.add_cone_outputs.ensures c.requires.distinguished
