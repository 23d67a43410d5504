use Rattle.lrat_text.proofs.repeats.comes_again.Goals as goal

pub returns-then-fresh-clause-marked : goal.returns-then-fresh-clause-marked
returns-then-fresh-clause-marked c = c.mark-fresh.ensures.marked c.args.lits.now c.requires.marked

pub returns-then-lits-lt-FEW-clause-marked : goal.returns-then-lits-lt-FEW-clause-marked
returns-then-lits-lt-FEW-clause-marked c = c.mark-fresh.ensures.marked c.args.lits.now c.requires.marked

pub returns-in_err-insert_all-clause-marked : goal.returns-in_err-insert_all-clause-marked
returns-in_err-insert_all-clause-marked c = c.mark-fresh.ensures.marked c.args.lits.now c.requires.marked

pub returns-in_err-insert-clause-marked : goal.returns-in_err-insert-clause-marked
returns-in_err-insert-clause-marked c = c.mark-fresh.ensures.marked c.args.lits.now c.requires.marked

pub returns-clause-marked : goal.returns-clause-marked
returns-clause-marked c = c.mark-fresh.ensures.marked c.args.lits.now c.requires.marked
