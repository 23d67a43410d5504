use Rattle.std.proofs.Common.{ℕ, ◌<◌, ◌≤◌, ◌^◌, arith}
use Rattle.std.proofs.Math.Nat.{one-le-pow}
use Rattle.var_heap.proofs.Holding.{heap_divided, heap_whole}
use Rattle.var_heap.proofs.var_heap.VarHeap.divide.Goals as goal

some : (power : ℕ) → 0 < 2 ^ power
some power = let h : 1 ≤ 2 ^ power = one-le-pow power 2 (omega arith) in omega arith

pub invariant_of-self : goal.invariant_of-self
invariant_of-self c = heap_divided (2 ^ c.args.power) c.self.inside.vars c.self.inside.scores.items
    c.divide_all.new.scores.items c.self.inside.array (some c.args.power) c.divide_all.ensures c.self.invariant

pub returns-clause-whole : goal.returns-clause-whole
returns-clause-whole c = heap_whole c.self.inside.vars c.divide_all.new.scores.items c.self.inside.array
    (heap_divided (2 ^ c.args.power) c.self.inside.vars c.self.inside.scores.items c.divide_all.new.scores.items
    c.self.inside.array (some c.args.power) c.divide_all.ensures c.self.invariant)
