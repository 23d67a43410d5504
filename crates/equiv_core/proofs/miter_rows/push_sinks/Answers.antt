use Rattle.std.proofs.Common.{◌≡◌, suc, ap, length, arith, subst, sym}
use Rattle.clause_core.specs.ListLaws.{all_rest}
use Rattle.net_theory.specs.declared.data.Sig.{Sig}
use Rattle.net_theory.specs.Net.{IsSigBelow}
use Rattle.equiv_core.specs.Rows.{HasRoom}
use Rattle.equiv_core.specs.RowLaws.{sinks_more, sinks_none, others_none}
use Rattle.equiv_core.proofs.miter_rows.push_sinks.Goals as goal

pub returns-in_default-split_first : goal.returns-in_default-split_first
returns-in_default-split_first c = c.loop-signal.invariant.added c.loop-signal.list
    (others_none c.args.numberings.0 c.args.numberings.1 c.loop-signal.difference c.loop-signal.left.now
    c.loop-signal.right.now c.loop-signal.list c.in_default-split_first.ensures.cases)

pub loop-signal-preserved : goal.loop-signal-preserved
loop-signal-preserved c =
    let size : length c.loop-signal.left.now ≡ suc (length c.in-Some.signals.now) = ap (length {A = Sig}) c.in-Some.ensures.cases.0 in
    record {
      first = subst (HasRoom c.args.numberings.0) (sym c.in_ok-push_sink.ensures.vars) c.loop-signal.invariant.first;
      second = subst (HasRoom c.args.numberings.1) (sym c.in_ok-push_sink.ensures.vars) c.loop-signal.invariant.second;
      some = omega arith;
      room = omega (arith, size, c.loop-signal.invariant.room, c.in_ok-push_sink.ensures.vars);
      signals = all_rest (IsSigBelow c.args.numberings.0.end) c.loop-signal.left.now c.in-Some.signals.now c.in-Some.signal.now c.in-Some.ensures.cases.0 c.loop-signal.invariant.signals;
      others = all_rest (IsSigBelow c.args.numberings.1.end) c.loop-signal.right.now c.in-Some-split_first.after.now
          c.in-Some-split_first.other.now c.in-Some-split_first.ensures.cases.0 c.loop-signal.invariant.others;
      added = λ f more. c.loop-signal.invariant.added f
          (sinks_more c.args.numberings.0 c.args.numberings.1 c.loop-signal.difference _ _ _ _ _ _ _ _ f
          c.in-Some.ensures.cases.0 c.in-Some-split_first.ensures.cases.0 c.in_ok-push_sink.ensures more);
    }

pub returns : goal.returns
returns c = c.loop-signal.invariant.added c.loop-signal.list
    (sinks_none c.args.numberings.0 c.args.numberings.1 c.loop-signal.difference c.loop-signal.left.now
    c.loop-signal.right.now c.loop-signal.list c.in_default.ensures.cases)
