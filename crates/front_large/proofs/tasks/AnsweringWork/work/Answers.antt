-- The answers are those of the commands.
use Rattle.front_large.proofs.Performing.{part_performed, steps_performed, levels_performed}
use Rattle.front_large.proofs.tasks.AnsweringWork.work.Goals as goal

pub returns-in-Part : goal.returns-in-Part
returns-in-Part g c =
    part_performed c.args.self.now.0 c.in-Part.part _ _ _ _ c.perform.result c.in-Part.is c.perform.ensures

pub returns-in-Steps : goal.returns-in-Steps
returns-in-Steps g c =
    steps_performed c.args.self.now.0 c.in-Steps.most _ _ _ _ c.perform_stream.result c.in-Steps.is
    c.perform_stream.ensures

pub returns-in-Levels : goal.returns-in-Levels
returns-in-Levels g c =
    levels_performed c.args.self.now.0 c.in-Levels.most _ _ _ _ c.perform_stream-in-Levels.result c.in-Levels.is
    c.perform_stream-in-Levels.ensures
