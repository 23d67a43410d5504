use Rattle.std.proofs.Common.{◌≡◌, ◌-◌, ◌<◌, map, length}
use Rattle.std.specs.List.{range_with_len}
use Rattle.tt_core.specs.Live.{live_among}
use Rattle.tt_core.specs.Words.{specification}
use Rattle.enc_theory.specs.Decode.{restored_at}
use Rattle.enc_base.proofs.decoding.restored.Given as goal

abbrev pub invariant-loop-h : goal.invariant-loop-h
invariant-loop-h l = record {
  outs : l.outs.items ≡ map (restored_at (specification l.spec) l.live) (range_with_len 1 (l.h - 1));
  next : l.next ≡ length (live_among (specification l.spec) (l.h - 1));
  few : l.next < l.h;
}
