-- In the writer's document the latches' initial values have one digit.
use Rattle.std.proofs.Common.{List, [], ◌∷◌}
use Rattle.std.specs.Prelude.{All}
use Rattle.std.proofs.lemmas.List.Elements.{All-nil, All-cons, All-head, All-tail}
use Rattle.net_theory.specs.declared.data.Sig.{Sig}
use Rattle.net_theory.specs.Document.{Name, Latch}
use Rattle.net_theory.specs.WellFormed.{IsLatch}
use Rattle.net_theory.specs.Circuit.{Circuit, IsProper}
use Rattle.blif_core.specs.Written.{latch_lines, sig_name, next_states, written}
use Rattle.blif_core.specs.Spelling.{HasInit}

lines_init : (name : Sig → Name) (ls : List Latch) (sinks : List Sig) → All IsLatch ls → All HasInit (latch_lines name ls sinks)
unfolding latch_lines
lines_init name [] sinks all = All-nil HasInit
lines_init name (l ∷ ls) [] all = All-nil HasInit
lines_init name (l ∷ ls) (s ∷ sinks) all = All-cons HasInit (record { input = name s; latch = l })
    (latch_lines name ls sinks) (All-head IsLatch l ls all).init (lines_init name ls sinks (All-tail IsLatch l ls all))

pub written_init : (c : Circuit) → IsProper c → All HasInit (written c).latches
unfolding written
written_init c is = lines_init (sig_name c) c.latches (next_states c) is.latches
