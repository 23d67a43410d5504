use Rattle.std.proofs.Common.{ℤ, List, not, Contains, All, sym, subst}
use Rattle.sat_theory.specs.Formula.{IsClause}
use Rattle.sat_theory.specs.Holding.{among}
use Rattle.subsume_core.proofs.Sets.{filter_inside, filter_clause}
use Rattle.subsume_core.proofs.holding.keep_others.Goals as goal

pub returns-clause-inside : goal.returns-clause-inside
returns-clause-inside c = subst (λ (xs : List ℤ). All (Contains c.args.lits.now) xs) (sym c.in_ok-copy_others.ensures) (filter_inside (λ l. not (among c.args.gone.now l)) c.args.lits.now)

pub returns-clause-clause : goal.returns-clause-clause
returns-clause-clause c = λ clause. subst IsClause (sym c.in_ok-copy_others.ensures) (filter_clause (λ l. not (among c.args.gone.now l)) c.args.lits.now clause)
