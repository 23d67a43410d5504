use Rattle.enc_theory.specs.Select.{choice_var}
use Rattle.enc_laws.specs.SelectVars.{choice_positive}
use Rattle.enc_select.proofs.Numbers.{choice_low}
use Rattle.enc_select.proofs.vars.choice_var.Goals as goal

pub returns-clause-within : goal.returns-clause-within
unfolding choice_var
returns-clause-within c =
    rw (c.choice_first.ensures.value, c.operand_count.ensures.value)
    (choice_positive c.args.z c.args.side c.args.i c.args.j, choice_low c.args.z c.args.side c.args.i c.args.j c.requires.place c.requires.operand.0 c.requires.operand.1)
