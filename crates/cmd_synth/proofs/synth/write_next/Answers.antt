-- One more piece of a certificate is written.
use Rattle.std.proofs.Common.{List, ℕ, subst}
use Rattle.port_io.specs.Bytes.{Appends, AppendsPrefix}
use Rattle.frame_core.specs.Outside.{PortState, port_state}
use Rattle.cmd_synth.proofs.Writing.{under_next, certified_by, out_more, section_truncated, trailer_truncated, all_out}
use Rattle.cmd_synth.proofs.synth.write_next.Goals as goal

pub returns-in-Ok-write_all-clause-comes : goal.returns-in-Ok-write_all-clause-comes
returns-in-Ok-write_all-clause-comes g c = λ settings bytes first within out.
    let now : PortState = port_state g.O.Sink.written g.O.Sink.faults c.args.out.now in
    let new : PortState = port_state g.O.Sink.written g.O.Sink.faults c.write_all.new.sink in
    let whole : Appends now.bytes new.bytes c.in-Section.text.items = subst (λ (t : List ℕ). Appends now.bytes new.bytes t) c.deref.ensures.value c.in-Ok-write_all.ensures.all in
    out_more settings bytes c.in-Section.text.items c.args.search c.in-Section.search first now new out
    (under_next settings bytes out.text c.args.search c.in-Section.search c.in-Ok.piece c.in-Section.text c.in-Ok.ensures.piece c.in-Section.is out.in_progress)
    whole c.in-Ok-write_all.ensures.faultless

pub returns-in-Section-clause-comes : goal.returns-in-Section-clause-comes
returns-in-Section-clause-comes g c = λ settings bytes first within out.
    let now : PortState = port_state g.O.Sink.written g.O.Sink.faults c.args.out.now in
    let new : PortState = port_state g.O.Sink.written g.O.Sink.faults c.write_all.new.sink in
    let prefix : AppendsPrefix now.bytes new.bytes c.in-Section.text.items = subst (λ (t : List ℕ). AppendsPrefix now.bytes new.bytes t) c.deref.ensures.value c.write_all.ensures.prefix in
    section_truncated settings bytes c.in-Section.text.items c.args.search c.in-Section.search first now new within out
    (under_next settings bytes out.text c.args.search c.in-Section.search c.in-Ok.piece c.in-Section.text c.in-Ok.ensures.piece c.in-Section.is out.in_progress)
    prefix c.in-Err-WriteFault.ensures.only_if_rose

pub returns-in-Ok-write_all-2-clause-comes : goal.returns-in-Ok-write_all-2-clause-comes
returns-in-Ok-write_all-2-clause-comes g c = λ settings bytes first within out.
    let now : PortState = port_state g.O.Sink.written g.O.Sink.faults c.args.out.now in
    let new : PortState = port_state g.O.Sink.written g.O.Sink.faults c.write_all-in-Trailer.new.sink in
    let whole : Appends now.bytes new.bytes c.in-Trailer.text.items = subst (λ (t : List ℕ). Appends now.bytes new.bytes t) c.deref-in-Trailer.ensures.value c.in-Ok-write_all-2.ensures.all in
    all_out settings bytes c.in-Trailer.text.items c.args.search c.in-Trailer.verdict c.verdict_status.result first now new within out
    (certified_by settings bytes out.text c.args.search c.in-Trailer.verdict c.in-Ok.piece c.in-Trailer.text c.in-Ok.ensures.piece c.in-Trailer.is out.in_progress)
    c.verdict_status.ensures whole c.in-Ok-write_all-2.ensures.faultless

pub returns-clause-comes : goal.returns-clause-comes
returns-clause-comes g c = λ settings bytes first within out.
    let now : PortState = port_state g.O.Sink.written g.O.Sink.faults c.args.out.now in
    let new : PortState = port_state g.O.Sink.written g.O.Sink.faults c.write_all-in-Trailer.new.sink in
    let prefix : AppendsPrefix now.bytes new.bytes c.in-Trailer.text.items =
    subst (λ (t : List ℕ). AppendsPrefix now.bytes new.bytes t) c.deref-in-Trailer.ensures.value
    c.write_all-in-Trailer.ensures.prefix in
    trailer_truncated settings bytes c.in-Trailer.text.items c.args.search c.in-Trailer.verdict first now new within out
    (certified_by settings bytes out.text c.args.search c.in-Trailer.verdict c.in-Ok.piece c.in-Trailer.text c.in-Ok.ensures.piece c.in-Trailer.is out.in_progress)
    prefix c.in-Err-WriteFault-write_all.ensures.only_if_rose
