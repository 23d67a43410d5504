use Rattle.command_line.specs.CommandLine.{spelled}
use Rattle.format_names.specs.declared.formats.NetFormat.TheVariants.{Blif, Bench, Aiger}
use Rattle.front_app.proofs.Fronting.{in_first}
use Rattle.front_app.proofs.serving.guide_formats.Goals as goal

pub returns-in-Blif : goal.returns-in-Blif
returns-in-Blif g c = in_first g.M.KnownWay.way c.args.formats Blif (spelled c.args.words.now) _ _ _ _
    c.guide_second.result c.in-Blif.is c.guide_second.ensures

pub returns-in-Bench : goal.returns-in-Bench
returns-in-Bench g c = in_first g.M.KnownWay.way c.args.formats Bench (spelled c.args.words.now) _ _ _ _
    c.guide_second-in-Bench.result c.in-Bench.is c.guide_second-in-Bench.ensures

pub returns-in-Aiger : goal.returns-in-Aiger
returns-in-Aiger g c = in_first g.M.KnownWay.way c.args.formats Aiger (spelled c.args.words.now) _ _ _ _
    c.guide_second-in-Aiger.result c.in-Aiger.is c.guide_second-in-Aiger.ensures
