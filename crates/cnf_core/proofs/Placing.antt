-- A literal is stored as its index in tables.
use Rattle.std.proofs.lemmas.Grind.{common_steps}
use Rattle.cnf_core.specs.CodeLaws.{code_of-literal_of, literal_of-code_of, variable-literal_of, opposite-literal_of, positive-even, even-positive}

pub ruleset placing = (common_steps, code_of-literal_of, literal_of-code_of, variable-literal_of, opposite-literal_of, positive-even, even-positive)
