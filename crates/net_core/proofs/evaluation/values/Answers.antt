use Rattle.std.proofs.Common.{ℕ, ◌+◌, ◌∙◌, Bool, List, length, arith, ap}
use Rattle.net_theory.specs.declared.data.Gate.{Gate}
use Rattle.net_theory.specs.Net.{bit_of, values_of}
use Rattle.net_theory.specs.ValueLaws.{values_after-same}
use Rattle.net_core.proofs.evaluation.values.Goals as goal

pub returns : goal.returns
returns c = λ p from low.
    let mid : ℕ → Bool = bit_of c.sources_into.new.nodes in
    ap (λ (f : ℕ → Bool). f p) c.gates_into.ensures
    ∙ ap (λ (gs : List Gate). values_of mid (length c.args.sources.now) gs p) c.gates.ensures.gates
    ∙ ap (λ k. values_of mid k c.args.net.now.gates p) c.requires.sources
    ∙ values_after-same mid (bit_of c.args.sources.now) (c.args.net.now.sources + 1) c.args.net.now.gates c.gates.ensures.net.gates.each (λ q l. c.sources_into.ensures q (omega arith)) p low
