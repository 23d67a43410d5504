use Rattle.aiger_text.specs.FileLaws.{file_is}
use Rattle.aiger_text.proofs.walking.read_ascii.Goals as goal

pub returns-clause-aig : goal.returns-clause-aig
returns-clause-aig c = file_is c.args.bytes.now c.in_ok-file.file c.in_ok-file.ensures
