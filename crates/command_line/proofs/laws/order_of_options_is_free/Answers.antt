use Rattle.command_line.proofs.Spellings.{order_is_free}
use Rattle.command_line.proofs.laws.order_of_options_is_free.Goals as goal

pub returns : goal.returns
returns c name pairs other command = order_is_free name pairs other command
