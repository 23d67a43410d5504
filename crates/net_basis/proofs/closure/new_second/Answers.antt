use Rattle.std.proofs.Common.{◌∙◌, sym, ap}
use Rattle.op_basis.specs.Basis.{members}
use Rattle.net_basis.specs.declared.join.Join.{Join}
use Rattle.net_basis.specs.Joins.{has_joined}
use Rattle.net_basis.proofs.Every.{every_more}
use Rattle.net_basis.proofs.Closures.{new_join, old_join}
use Rattle.net_basis.proofs.closure.new_second.Goals as goal

pub returns-then-is_new-clause-some : goal.returns-then-is_new-clause-some
returns-then-is_new-clause-some c = new_join _ _ _ (sym c.is_new.ensures ∙ c.if-is_new.true)

pub loop-word-preserved : goal.loop-word-preserved
loop-word-preserved c =
    let join : Join = record { op = c.args.op; first = c.args.first; second = c.new.result } in
    every_more (has_joined (members c.args.known) c.args.op c.args.first) c.loop-word.word c.loop-word.invariant
    (ap (has_joined (members c.args.known) c.args.op c.args.first) (sym c.new.ensures)
    ∙ old_join (members c.args.basis) (members c.args.known) join c.requires (sym c.is_new.ensures ∙ c.if-is_new.false))
