use Rattle.aiger_text.specs.ListingLaws.{listed_by}
use Rattle.aiger_text.proofs.listing.listed_of.Goals as goal

pub returns-clause-listed : goal.returns-clause-listed
returns-clause-listed c = listed_by c.args.file.now c.in_ok-listed.listed c.requires c.in_ok-listed.ensures
