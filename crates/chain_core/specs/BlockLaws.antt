-- Reading the lines of a block, one after another.
use Rattle.std.proofs.Common.{◌≡◌, List, [], ◌∷◌, length, Ok, arith}
use Rattle.std.proofs.lemmas.Grind.{common_steps}
use Rattle.text_core.specs.Lines.{Line}
use Rattle.text_core.specs.Rest.{whole_rest, rest_of_rest}
use Rattle.chain_theory.specs.declared.data.Out.{Out}
use Rattle.chain_theory.specs.Chain as chain
use Rattle.chain_core.specs.declared.frame.Frame.{Frame}
use Rattle.chain_core.specs.Block.{steps_from, outs_from}
use Rattle.chain_core.specs.StepLaws.{steps_push}

pub ruleset resting = (common_steps, whole_rest, rest_of_rest)

-- enough steps were read: no further line is read
pub steps_done : (f : Frame) (steps : List chain.Step) (ls : List Line) → length steps ≡ f.steps → steps_from f steps ls ≡ Ok (steps, ls)
unfolding steps_from
steps_done f steps [] e = grind (arith, common_steps)
steps_done f steps (l ∷ ls) e = grind (arith, common_steps)

-- enough outs were read: no further line is read
pub outs_done : (f : Frame) (os : List Out) (ls : List Line) → length os ≡ f.outputs → outs_from f os ls ≡ Ok (os, ls)
unfolding outs_from
outs_done f os [] e = grind (arith, common_steps)
outs_done f os (l ∷ ls) e = grind (arith, common_steps)

pub ruleset steps_loop = (common_steps, whole_rest, rest_of_rest, steps_done)

pub ruleset outs_loop = (common_steps, whole_rest, rest_of_rest, outs_done)

pub ruleset more_steps = (common_steps, steps_push)
