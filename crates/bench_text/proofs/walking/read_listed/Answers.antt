use Rattle.bench_text.specs.ListingLaws.{texts_list}
use Rattle.bench_text.proofs.walking.read_listed.Goals as goal

pub returns-clause-listed : goal.returns-clause-listed
returns-clause-listed c = texts_list c.args.bytes.now c.in_ok-listed.listed c.in_ok-listed.ensures
