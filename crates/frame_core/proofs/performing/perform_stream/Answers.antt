use Rattle.frame_core.specs.Outside.{port_state}
use Rattle.frame_core.specs.PerformingLaws.{is_run}
use Rattle.frame_core.specs.KeepingLaws.{promised}
use Rattle.frame_core.proofs.performing.perform_stream.Goals as goal

pub returns : goal.returns
returns g c = record {
  run = λ words. is_run (g.J.StreamJob.task c.args.job.now) words c.attempt-ended.result c.status.result _ _ _
      (port_state g.N.Sink.written g.N.Sink.faults c.attempt-ended.new.note) _ c.attempt-ended.ensures c.status.ensures
      c.report_end.ensures.line c.report_end.ensures.never_falls;
  promise = λ words is_task.
      let ran = is_run (g.J.StreamJob.task c.args.job.now) words c.attempt-ended.result c.status.result _ _ _
      (port_state g.N.Sink.written g.N.Sink.faults c.attempt-ended.new.note) _ c.attempt-ended.ensures
      c.status.ensures c.report_end.ensures.line c.report_end.ensures.never_falls in
      promised (g.J.StreamJob.task c.args.job.now) _ ran.0 is_task ran.1;
}
