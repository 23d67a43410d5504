use Rattle.std.proofs.Common.{ℕ, ◌≤◌, subst}
use Rattle.net_theory.specs.Limits.{most_of_netlist}
use Rattle.frame_core.specs.Outside.{port_state}
use Rattle.frame_core.specs.Run.{before_after}
use Rattle.file_io.specs.Files.{files_state, files_before_after}
use Rattle.file_io.specs.Texts.{text_in}
use Rattle.front_core.proofs.Pairs.{standard_refused, standard_compared}
use Rattle.front_core.proofs.pairing.pair_standard.Goals as goal

pub returns : goal.returns
returns g c =
    standard_compared (text_in c.args.second) (g.P.Program.compares c.args.budget)
    (files_before_after g.W.Outside.holds g.W.Outside.faults c.args.outside.now c.read_input.new.outside)
    (port_state g.S.Source.left g.S.Source.faults c.args.source.now)
    (port_state g.S.Source.left g.S.Source.faults c.read_all.new.source)
    (port_state g.S.Source.left g.S.Source.faults c.read_input.new.source)
    (before_after g.O.Sink.written g.O.Sink.faults c.args.out.now c.read_input.new.out)
    (before_after g.N.Sink.written g.N.Sink.faults c.args.note.now c.read_input.new.note)
    c.read_input.result c.in-Ok.text.items c.in-Ok.ensures.all
    (subst (λ (n : ℕ). n ≤ most_of_netlist) c.in-Ok.text.ok.0 c.in-Ok.ensures.within)
    c.in-Ok.ensures.to_the_end (c.in-Ok.ensures.faultless (λ of. cc)) c.read_input.ensures

pub returns-in-Err : goal.returns-in-Err
returns-in-Err g c =
    standard_refused (text_in c.args.second) (g.P.Program.compares c.args.budget)
    (files_state g.W.Outside.holds g.W.Outside.faults c.args.outside.now)
    (port_state g.S.Source.left g.S.Source.faults c.args.source.now)
    (port_state g.S.Source.left g.S.Source.faults c.read_all.new.source)
    (port_state g.O.Sink.written g.O.Sink.faults c.args.out.now)
    (port_state g.N.Sink.written g.N.Sink.faults c.args.note.now)
    (port_state g.N.Sink.written g.N.Sink.faults c.report_first.new.note)
    c.report_first.result c.in-Err.error c.in-Err.ensures.only_if_rose c.in-Err.ensures.too_long
    c.report_first.ensures.line c.report_first.ensures.status
