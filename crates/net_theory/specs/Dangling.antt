-- Dangling gates: those outside the transitive fanin of the sinks. A cleanup removes them.
use Rattle.std.specs.Prelude.{◌+◌, map}
use Rattle.net_theory.specs.Net.{Net}
use Rattle.net_theory.specs.Reach.{live}
use Rattle.net_theory.specs.Moving.{Kept, moved, kept_after, nothing_kept}

abbrev pub kept_gates : Net → Kept
kept_gates n = kept_after (live n) n.sources (nothing_kept n.sources) (n.sources + 1) n.gates

-- The net without its dangling gates; the others keep their order.
-- Example: of two gates over two sources, where the one sink is `Node 4`, the second remains, as node 3.
unfoldable pub cleanup : Net → Net
cleanup n = record {
  sources = n.sources;
  gates = (kept_gates n).gates;
  sinks = map (moved (kept_gates n).nodes) n.sinks;
}
