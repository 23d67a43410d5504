use Rattle.file_words.specs.Lines.{line_value}
use Rattle.front_at.proofs.Runs.{answered}
use Rattle.front_at.proofs.serving.serve_values.Goals as goal

pub returns : goal.returns
returns g c =
    answered c.args.formats (line_value c.args.asked.now.line) c.args.asked.now.bits.items c.deref.result.now _ _ _ _ _ _
    c.serve_outputs.result c.deref.ensures.value c.input_of-first.ensures c.second_of-second.ensures
    c.serve_outputs.ensures
