-- The output failed in the header.
use Rattle.std.proofs.Common.{List, ℕ, subst}
use Rattle.port_io.specs.Bytes.{AppendsPrefix}
use Rattle.frame_core.specs.Outside.{PortState, port_state}
use Rattle.cmd_synth.proofs.Writing.{header_truncated}
use Rattle.cmd_synth.proofs.synth.write_certificate.Goals as goal

pub returns-in-Err-WriteFault : goal.returns-in-Err-WriteFault
returns-in-Err-WriteFault g c = λ settings bytes within under.
    let first : PortState = port_state g.O.Sink.written g.O.Sink.faults c.args.out.now in
    let new : PortState = port_state g.O.Sink.written g.O.Sink.faults c.write_all.new.sink in
    let prefix : AppendsPrefix first.bytes new.bytes c.args.begun.text.items = subst (λ (t : List ℕ). AppendsPrefix first.bytes new.bytes t) c.deref.ensures.value c.write_all.ensures.prefix in
    header_truncated settings bytes c.args.begun.text.items c.args.begun.search first new within under prefix c.in-Err-WriteFault.ensures.only_if_rose
