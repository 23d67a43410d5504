use Rattle.std.proofs.Common.{◌∙◌, sym, ap}
use Rattle.equiv_run.specs.Split.{is_known_end}
use Rattle.equiv_run.specs.ScanLaws.{taken_line, nothing_left, scanned_start, scanned_on, scanned_past, scanned_end}
use Rattle.equiv_run.specs.ScanLaws.{scanned_whole, scanned_none, split_start, split_on, split_past, split_end}
use Rattle.equiv_run.specs.ScanLaws.{split_whole, split_none}
use Rattle.equiv_run.proofs.splitting.split.Goals as goal

pub loop-line-init : goal.loop-line-init
loop-line-init c = record { scanned = scanned_start c.args.bytes.now; same = split_start c.args.bytes.now }

pub returns-then-is_end-clause-place : goal.returns-then-is_end-clause-place
returns-then-is_end-clause-place c =
    scanned_end c.args.bytes.now c.loop-line.left.now c.in-Some.rest.now c.loop-line.first (record { text = c.in-Some.line.now; ended = c.in-Some.ended })
    (taken_line c.loop-line.left.now c.in-Some.rest.now c.in-Some.line.now c.in-Some.ended c.in-Some.ensures.some c.in-Some.ensures.size c.in-Some.ensures.rest)
    (sym (rw c.content_of-said.ensures at c.in_default-without_last.ensures))
    (ap is_known_end (sym (rw c.content_of-said.ensures at c.first_of.ensures)) ∙ sym c.is_end.ensures ∙ c.if-is_end.true)
    c.loop-line.invariant.scanned

pub loop-line-preserved-in_default-without_last : goal.loop-line-preserved-in_default-without_last
loop-line-preserved-in_default-without_last c = record {
  scanned = scanned_past c.args.bytes.now c.loop-line.left.now c.in-Some.rest.now c.loop-line.first (record { text = c.in-Some.line.now; ended = c.in-Some.ended })
      (taken_line c.loop-line.left.now c.in-Some.rest.now c.in-Some.line.now c.in-Some.ended c.in-Some.ensures.some c.in-Some.ensures.size c.in-Some.ensures.rest)
      (sym (rw c.content_of-said.ensures at c.in_default-without_last.ensures))
      (ap is_known_end (sym (rw c.content_of-said.ensures at c.first_of.ensures)) ∙ sym c.is_end.ensures ∙ c.if-is_end.false)
      c.loop-line.invariant.scanned;
  same = split_past c.args.bytes.now c.loop-line.left.now c.in-Some.rest.now c.loop-line.first (record { text = c.in-Some.line.now; ended = c.in-Some.ended })
      (taken_line c.loop-line.left.now c.in-Some.rest.now c.in-Some.line.now c.in-Some.ended c.in-Some.ensures.some c.in-Some.ensures.size c.in-Some.ensures.rest)
      c.loop-line.invariant.scanned.room (sym (rw c.content_of-said.ensures at c.in_default-without_last.ensures))
      (ap is_known_end (sym (rw c.content_of-said.ensures at c.first_of.ensures)) ∙ sym c.is_end.ensures ∙ c.if-is_end.false)
      c.loop-line.invariant.same;
}

pub loop-line-preserved : goal.loop-line-preserved
loop-line-preserved c = record {
  scanned = rw c.first_of-first.ensures (scanned_on c.args.bytes.now c.loop-line.left.now c.in-Some.rest.now
      c.loop-line.first (record { text = c.in-Some.line.now; ended = c.in-Some.ended }) c.in-Some-without_last.front.now
      (taken_line c.loop-line.left.now c.in-Some.rest.now c.in-Some.line.now c.in-Some.ended c.in-Some.ensures.some c.in-Some.ensures.size c.in-Some.ensures.rest)
      (sym (rw c.content_of-said.ensures at c.in-Some-without_last.ensures))
      c.loop-line.invariant.scanned);
  same = rw c.first_of-first.ensures (split_on c.args.bytes.now c.loop-line.left.now c.in-Some.rest.now
      c.loop-line.first (record { text = c.in-Some.line.now; ended = c.in-Some.ended }) c.in-Some-without_last.front.now
      (taken_line c.loop-line.left.now c.in-Some.rest.now c.in-Some.line.now c.in-Some.ended c.in-Some.ensures.some c.in-Some.ensures.size c.in-Some.ensures.rest)
      c.loop-line.invariant.scanned.room (sym (rw c.content_of-said.ensures at c.in-Some-without_last.ensures))
      c.loop-line.invariant.same);
}

pub returns-then-is_end-2-clause-place : goal.returns-then-is_end-2-clause-place
returns-then-is_end-2-clause-place c = scanned_whole c.args.bytes.now c.loop-line.left.now c.loop-line.first
    (nothing_left c.loop-line.left.now c.in_default.ensures.none) (sym c.is_end-2.ensures
    ∙ c.if-is_end-2.true) c.loop-line.invariant.scanned

pub returns-else-is_end-2-clause-none : goal.returns-else-is_end-2-clause-none
returns-else-is_end-2-clause-none c = scanned_none c.args.bytes.now c.loop-line.left.now c.loop-line.first
    (nothing_left c.loop-line.left.now c.in_default.ensures.none) (sym c.is_end-2.ensures
    ∙ c.if-is_end-2.false) c.loop-line.invariant.scanned

pub returns-then-is_end-clause-exact : goal.returns-then-is_end-clause-exact
returns-then-is_end-clause-exact c =
    split_end c.args.bytes.now c.loop-line.left.now c.in-Some.rest.now c.loop-line.first (record { text = c.in-Some.line.now; ended = c.in-Some.ended })
    (taken_line c.loop-line.left.now c.in-Some.rest.now c.in-Some.line.now c.in-Some.ended c.in-Some.ensures.some c.in-Some.ensures.size c.in-Some.ensures.rest)
    c.loop-line.invariant.scanned.room (sym (rw c.content_of-said.ensures at c.in_default-without_last.ensures))
    (ap is_known_end (sym (rw c.content_of-said.ensures at c.first_of.ensures)) ∙ sym c.is_end.ensures ∙ c.if-is_end.true)
    c.loop-line.invariant.same

pub returns-then-is_end-2-clause-exact : goal.returns-then-is_end-2-clause-exact
returns-then-is_end-2-clause-exact c = split_whole c.args.bytes.now c.loop-line.left.now c.loop-line.first
    c.in_default.ensures.none (sym c.is_end-2.ensures ∙ c.if-is_end-2.true) c.loop-line.invariant.same

pub returns-else-is_end-2-clause-exact : goal.returns-else-is_end-2-clause-exact
returns-else-is_end-2-clause-exact c = split_none c.args.bytes.now c.loop-line.left.now c.loop-line.first
    c.in_default.ensures.none (sym c.is_end-2.ensures ∙ c.if-is_end-2.false) c.loop-line.invariant.same
