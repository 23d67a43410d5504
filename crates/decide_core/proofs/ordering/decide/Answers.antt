-- What the lower bound proves.
use Rattle.std.proofs.Common.{sym, subst, arith}
use Rattle.op_basis.specs.Basis.{members}
use Rattle.cert_theory.specs.declared.data.Header.{Header}
use Rattle.decide_core.specs.Decided.{Fewer}
use Rattle.decide_core.proofs.ordering.decide.Goals as goal

pub returns-then-header-counted-clause-decided : goal.returns-then-header-counted-clause-decided
returns-then-header-counted-clause-decided g c = λ q low has. c.lower_bound-counted.ensures.none_below (members c.args.header.now.basis) q (omega (arith, low, c.if-header-counted.true)) has

pub decide_permuted-requires-clause-fewer : goal.decide_permuted-requires-clause-fewer
decide_permuted-requires-clause-fewer g c =
    subst (λ (h : Header). Fewer h c.lower_bound-counted.result) (sym c.new-2.ensures)
    (λ q low has. c.lower_bound-counted.ensures.none_below (members c.args.header.now.basis) q low has)
