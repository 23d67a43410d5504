use Rattle.command_line.proofs.Spellings.{asks_are_spelled, spelled_are_asked}
use Rattle.command_line.proofs.laws.words_are_a_name_and_pairs.Goals as goal

pub returns : goal.returns
returns c words command = (asks_are_spelled words command, spelled_are_asked words command)
