use Rattle.frame_core.specs.Outside.{port_state}
use Rattle.frame_core.specs.Run.{before_after}
use Rattle.file_io.specs.Files.{files_state}
use Rattle.file_io.specs.Texts.{text_in}
use Rattle.front_at.proofs.Pairs.{named_opened}
use Rattle.front_at.proofs.pairing.pair_named.Goals as goal

pub returns : goal.returns
returns g c =
    named_opened c.args.name.now (text_in c.args.second) (g.K.OverText.does c.args.work.now)
    (files_state g.W.Outside.holds g.W.Outside.faults c.args.outside.now) (files_state g.W.Outside.holds g.W.Outside.faults c.open.new.self) (files_state g.W.Outside.holds g.W.Outside.faults c.pair_input.new.outside)
    (port_state g.W.Input.Source.left g.W.Input.Source.faults c.in-Ok.input)
    (port_state g.W.Input.Source.left g.W.Input.Source.faults c.pair_input.new.input)
    (before_after g.S.Source.left g.S.Source.faults c.args.source.now c.pair_input.new.source)
    (before_after g.O.Sink.written g.O.Sink.faults c.args.out.now c.pair_input.new.out)
    (before_after g.N.Sink.written g.N.Sink.faults c.args.note.now c.pair_input.new.note)
    c.pair_input.result c.in-Ok.ensures.unchanged c.in-Ok.ensures.shows c.pair_input.ensures
