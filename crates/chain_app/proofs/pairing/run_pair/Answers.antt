use Rattle.std.proofs.Common.{arith, refl}
use Rattle.command_line.specs.CommandLine.{spelled}
use Rattle.frame_core.specs.Reported.{usage}
use Rattle.frame_core.specs.Views.{line_value}
use Rattle.frame_core.specs.PerformingLaws.{named_as}
use Rattle.cmd_equiv.specs.WithLaws.{with_is_task}
use Rattle.chain_app.specs.Pair.{first_too_long}
use Rattle.chain_app.proofs.Pairs.{pair_refused, pair_too_long, pair_compared}
use Rattle.chain_app.proofs.pairing.run_pair.Goals as goal

-- words that ask for no comparison
pub returns-in_default : goal.returns-in_default
unfolding usage
returns-in_default g c =
    pair_refused c.args.first.now _ c.in_default.ensures
    (record {
      status_is = refl;
      on_out = refl;
      on_note = named_as _ _ (line_value c.plain.result) usage c.plain.ensures c.report_error.ensures.line;
    })

-- a first text that is too long
pub returns-then-first-gt-MOST_OF_NETLIST : goal.returns-then-first-gt-MOST_OF_NETLIST
unfolding first_too_long
returns-then-first-gt-MOST_OF_NETLIST g c =
    pair_too_long c.args.first.now _ c.in-Some.budget c.in-Some.ensures (omega (arith, c.if-first-gt-MOST_OF_NETLIST.true))
    (record {
      status_is = refl;
      on_out = refl;
      on_note = named_as _ _ (line_value c.first_too_long.result) first_too_long.named c.first_too_long.ensures
          c.report_error-then-first-gt-MOST_OF_NETLIST.ensures.line;
    })

-- two texts
pub returns : goal.returns
returns g c =
    pair_compared c.args.first.now _ c.in-Some.budget c.in-Some.ensures (omega (arith, c.if-first-gt-MOST_OF_NETLIST.false))
    (c.perform.ensures.promise (spelled c.args.words.now) (with_is_task c.in-Some.budget c.args.first.now))
