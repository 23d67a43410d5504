use Rattle.std.proofs.Common.{◌≡◌, ◌<◌, ℤ, length, IfSome, Any}
use Rattle.cnf_core.specs.Codes.{code_of}
use Rattle.lrat_check.proofs.index.OccurrenceIndex.shortest.Given as goal

abbrev pub invariant-loop-lit : goal.invariant-loop-lit
invariant-loop-lit l = IfSome l.best (λ b. Any (λ (z : ℤ). code_of z ≡ b.0) l.lits × (b.0 < length l.self-inside.heads.items))
