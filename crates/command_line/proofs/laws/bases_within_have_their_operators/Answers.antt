use Rattle.command_line.specs.WithinLaws.{within_members, members_within}
use Rattle.command_line.proofs.laws.bases_within_have_their_operators.Goals as goal

pub returns : goal.returns
returns c set all = (within_members set all, members_within set all)
