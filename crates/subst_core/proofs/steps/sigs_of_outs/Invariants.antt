use Rattle.std.proofs.Common.{◌≡◌, map, take}
use Rattle.window_theory.specs.Substituted.{out_sig}
use Rattle.net_core.specs.Marks.{nodes_of}
use Rattle.subst_core.specs.Placing.{chain_sig}
use Rattle.subst_core.proofs.steps.sigs_of_outs.Given as goal

abbrev pub invariant-loop-out : goal.invariant-loop-out
invariant-loop-out l = l.sigs.items ≡ map (out_sig (chain_sig (nodes_of l.nodes) l.inputs l.first)) (take l.out-index l.outs)
