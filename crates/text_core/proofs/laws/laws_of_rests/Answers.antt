use Rattle.text_core.specs.Rest.{rest_of_rest, whole_rest}
use Rattle.text_core.proofs.laws.laws_of_rests.Goals as goal

pub returns-clause-whole : goal.returns-clause-whole
returns-clause-whole c = whole_rest

pub returns-clause-onward : goal.returns-clause-onward
returns-clause-onward c = rest_of_rest
