use Rattle.subst_core.specs.ListsLaws.{same_belongs, same_fits, same_specification, same_meets, same_substitution}
use Rattle.subst_core.proofs.laws.roots_do_not_matter.Goals as goal

pub returns-clause-belong : goal.returns-clause-belong
returns-clause-belong c = same_belongs

pub returns-clause-fit : goal.returns-clause-fit
returns-clause-fit c = same_fits

pub returns-clause-specification : goal.returns-clause-specification
returns-clause-specification c = same_specification

pub returns-clause-meet : goal.returns-clause-meet
returns-clause-meet c = same_meets

pub returns-clause-rebuild_substituted : goal.returns-clause-rebuild_substituted
returns-clause-rebuild_substituted c = same_substitution
