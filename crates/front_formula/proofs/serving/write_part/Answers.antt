use Rattle.file_words.specs.Lines.{line_value}
use Rattle.cmd_formula.specs.WordValues.{asked_value}
use Rattle.front_formula.proofs.Runs.{part_written}
use Rattle.front_formula.proofs.serving.write_part.Goals as goal

pub returns : goal.returns
returns g c = part_written (line_value c.args.line.now) (asked_value c.args.asked.now) c.asked-part.result.size
    c.asked-part.result.part _ _ _ _ _ _ _ c.write_output.result c.asked-part.ensures.size c.asked-part.ensures.part
    c.input_of-input.ensures c.output_of-output.ensures c.log_of.ensures c.write_output.ensures
