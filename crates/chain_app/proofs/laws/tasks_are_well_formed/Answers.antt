use Rattle.chain_app.proofs.Commands.{is_task}
use Rattle.chain_app.proofs.laws.tasks_are_well_formed.Goals as goal

pub returns : goal.returns
returns c = is_task
