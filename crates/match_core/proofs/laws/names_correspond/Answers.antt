use Rattle.match_core.specs.MatchedLaws.{matched_well}
use Rattle.match_core.specs.ByNamesLaws.{by_names}
use Rattle.match_core.proofs.laws.names_correspond.Goals as goal

pub returns-clause-well : goal.returns-clause-well
returns-clause-well c = matched_well

pub returns-clause-decided : goal.returns-clause-decided
returns-clause-decided c = by_names
