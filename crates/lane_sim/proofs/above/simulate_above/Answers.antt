use Rattle.std.proofs.Common.{◌∙◌, ◌*◌, ℕ, length, take, refl, ap}
use Rattle.lane_sim.specs.Above.{with_gates}
use Rattle.lane_sim.specs.AboveLaws.{base_done, few_words, done_all, words_below}
use Rattle.lane_sim.specs.Cone.{nodes}
use Rattle.lane_sim.specs.Words.{Words, AreWords, width_of}
use Rattle.lane_sim.proofs.above.simulate_above.Goals as goal

pub simulate_rest-requires-clause-width : goal.simulate_rest-requires-clause-width
simulate_rest-requires-clause-width c =
    few_words (length c.args.cone.now.leaves) c.words.inside.rows c.width_of-width.result
    c.gates-gates.ensures.whole.few (ap (λ (w : Words). w.rows) c.words.view_is
    ∙ c.requires.words.rows) c.width_of-width.ensures

pub simulate_rest-requires-clause-base : goal.simulate_rest-requires-clause-base
simulate_rest-requires-clause-base c =
    let width = c.width_of-width.result in
    let kept : ℕ = length (nodes c.args.cone.now) * width in
    base_done c.args.cone.now c.args.above.now c.args.words.now width kept (take kept c.words.inside.lanes.items) c.requires.words
    (c.width_of-width.ensures ∙ ap (λ (w : Words). width_of w.rows) c.words.view_is) refl
    (ap (λ (w : Words). take kept w.lanes) c.words.view_is)

pub returns-clause-below : goal.returns-clause-below
returns-clause-below c =
    let w : Words = record { lanes = c.simulate_rest.new.lanes.items; rows = c.words.inside.rows } in
    let are : AreWords (with_gates c.args.cone.now c.args.above.now) w =
    done_all (with_gates c.args.cone.now c.args.above.now) c.width_of-width.result c.simulate_rest.new.lanes.items w
    c.in_ok-simulate_rest.ensures refl (ap (λ (x : Words). x.rows) c.words.view_is
    ∙ c.requires.words.rows) c.width_of-width.ensures in
    words_below c.args.cone.now c.args.above.now w c.requires.cone are
