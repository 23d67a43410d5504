use Rattle.std.proofs.Common.{ℤ, List, subst, rules}
use Rattle.std.specs.Prelude.{All}
use Rattle.std.proofs.lemmas.List.{take_all}
use Rattle.std.proofs.lemmas.List.Elements.{All-more}
use Rattle.cnf_core.specs.Bounds.{IsLit}
use Rattle.log_core.proofs.After.{packed}
use Rattle.log_core.proofs.packing.put_literals.Goals as goal

pub loop-lit-preserved : goal.loop-lit-preserved
loop-lit-preserved c = record {
  all = search (rules, packed);
  whole = All-more IsLit c.args.lits.now c.loop-lit.lit-index c.lit-item.result c.loop-lit-test.true c.loop-lit.invariant.whole (subst IsLit c.lit-item.is c.number_of.ensures.whole);
  few = search rules;
  capacity = search rules;
}

pub returns-clause-whole : goal.returns-clause-whole
returns-clause-whole c = subst (λ (lits : List ℤ). All IsLit lits) (take_all c.loop-lit.lit-index c.args.lits.now c.loop-lit-test.false) c.loop-lit.invariant.whole
