use Rattle.cert_theory.specs.PrefixLaws.{whole_is_prefix, header_begins, section_goes_on}
use Rattle.cert_theory.proofs.laws.prefixes_grow.Goals as goal

pub returns-clause-whole : goal.returns-clause-whole
returns-clause-whole c = whole_is_prefix

pub returns-clause-header : goal.returns-clause-header
returns-clause-header c = header_begins

pub returns-clause-section : goal.returns-clause-section
returns-clause-section c = section_goes_on
