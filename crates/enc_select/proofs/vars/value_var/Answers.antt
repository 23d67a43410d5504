use Rattle.enc_theory.specs.Select.{value_var}
use Rattle.enc_laws.specs.SelectVars.{value_positive}
use Rattle.enc_select.proofs.Numbers.{value_low}
use Rattle.enc_select.proofs.vars.value_var.Goals as goal

pub returns-clause-within : goal.returns-clause-within
unfolding value_var
returns-clause-within c =
    rw (c.value_first.ensures.value, c.rows.ensures.value)
    (value_positive c.args.z c.args.side c.args.i c.args.t, value_low c.args.z c.args.side c.args.i c.args.t c.requires.place c.requires.row)
