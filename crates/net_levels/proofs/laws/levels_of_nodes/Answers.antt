use Rattle.net_levels.specs.LevelLaws.{level_source, level_gate, sink_level, levels_least}
use Rattle.net_levels.proofs.laws.levels_of_nodes.Goals as goal

pub returns-clause-source : goal.returns-clause-source
returns-clause-source c = level_source

pub returns-clause-gate : goal.returns-clause-gate
returns-clause-gate c = level_gate

pub returns-clause-sink : goal.returns-clause-sink
returns-clause-sink c = sink_level

pub returns-clause-least : goal.returns-clause-least
returns-clause-least c = levels_least
