use Rattle.std.specs.Prelude.{Option}
use Rattle.std.specs.Option.{option_map}
use Rattle.std.proofs.Common.{refl, sym, subst}
use Rattle.frame_core.specs.declared.replies.Report.{Report}
use Rattle.frame_core.specs.Outside.{port_state}
use Rattle.frame_core.specs.Run.{Reports, ReportsPrefix}
use Rattle.frame_core.specs.Views.{report_text, reply_value}
use Rattle.frame_core.specs.PerformingLaws.{text_truncated, all_sent, report_truncated}
use Rattle.frame_core.proofs.sending.send.Goals as goal

pub returns-in-Err-WriteFault : goal.returns-in-Err-WriteFault
returns-in-Err-WriteFault g c =
    text_truncated (reply_value c.args.reply.now) _ _ _ c.deref.ensures.value c.write_all.ensures.prefix c.in-Err-WriteFault.ensures.only_if_rose refl

pub returns-in_default-report : goal.returns-in_default-report
returns-in_default-report g c =
    all_sent (reply_value c.args.reply.now) _ _ _ c.deref.ensures.value c.in_default.ensures.all c.in_default.ensures.faultless
    (subst (λ (o : Option Report). Reports (port_state g.N.Sink.written g.N.Sink.faults c.args.note.now)
    (port_state g.N.Sink.written g.N.Sink.faults c.args.note.now) (option_map report_text o))
    (sym c.in_default-report.is) refl)
    refl

pub returns-in-Ok : goal.returns-in-Ok
returns-in-Ok g c =
    all_sent (reply_value c.args.reply.now) _ _ _ c.deref.ensures.value c.in_default.ensures.all c.in_default.ensures.faultless
    (subst (λ (o : Option Report). Reports (port_state g.N.Sink.written g.N.Sink.faults c.args.note.now)
    (port_state g.N.Sink.written g.N.Sink.faults c.write_report.new.note) (option_map report_text o))
    (sym c.in-Some.is) c.in-Ok.ensures.all)
    c.in-Ok.ensures.faultless

pub returns-in-Err-WriteFault-write_report : goal.returns-in-Err-WriteFault-write_report
returns-in-Err-WriteFault-write_report g c =
    report_truncated (reply_value c.args.reply.now) _ _ _ c.deref.ensures.value c.in_default.ensures.all c.in_default.ensures.faultless
    (subst (λ (o : Option Report). ReportsPrefix (port_state g.N.Sink.written g.N.Sink.faults c.args.note.now)
    (port_state g.N.Sink.written g.N.Sink.faults c.write_report.new.note) (option_map report_text o))
    (sym c.in-Some.is) (
      (c.in-Err-WriteFault-write_report).ensures.prefix,
      (c.in-Err-WriteFault-write_report).ensures.only_if_rose,
    ))
    c.write_report.ensures.never_falls
