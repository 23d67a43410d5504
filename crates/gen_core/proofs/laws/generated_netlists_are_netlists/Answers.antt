use Rattle.gen_core.proofs.WellMade.{is_netlist}
use Rattle.gen_core.proofs.laws.generated_netlists_are_netlists.Goals as goal

pub returns : goal.returns
returns c blocks few = is_netlist c.documents_are_read_back.ensures blocks few
