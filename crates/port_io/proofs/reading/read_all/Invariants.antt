use Rattle.std.proofs.Common.{◌≡◌, ◌≤◌, vec_len}
use Rattle.port_io.specs.Bytes.{Consumes}
use Rattle.port_io.proofs.reading.read_all.Given as goal

-- What this call consumed is what it has kept, and every iteration consumed at least one byte.
abbrev pub invariant-loop-turn : goal.invariant-loop-turn
invariant-loop-turn g l =
    record {
      taken : Consumes (g.S.Source.left l.initial.source) (g.S.Source.left l.source) l.all.items;
      turns : l._turn ≤ vec_len l.all;
      within : vec_len l.all ≤ l.limit;
      never_falls : g.S.Source.faults l.initial.source ≤ g.S.Source.faults l.source;
      faultless : g.S.Source.faults l.source ≡ g.S.Source.faults l.initial.source;
    }
