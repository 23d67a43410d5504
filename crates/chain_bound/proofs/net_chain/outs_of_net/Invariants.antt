-- The outs so far name places, and they are few.
use Rattle.std.proofs.Common.{◌≤◌, length, All}
use Rattle.chain_theory.specs.Chain.{NamesPlace}
use Rattle.chain_bound.proofs.net_chain.outs_of_net.Given as goal

abbrev pub invariant-loop-literal : goal.invariant-loop-literal
invariant-loop-literal l = All (NamesPlace l.last) l.outs.items × (length l.outs.items ≤ 8)
