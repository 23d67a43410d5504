-- Lines of sinks, one after the other.
use Rattle.std.specs.Prelude.{◌≡◌, ℕ, ◌+◌, Bool, List, [], ◌∷◌, ◌++◌, refl}
use Rattle.std.proofs.lemmas.Grind.{common_steps}
use Rattle.net_theory.specs.Document.{Name, Latch}
use Rattle.equiv_values.specs.Lines.{sink_line}
use Rattle.cmd_at.specs.AtText.{sink_lines}

pub sinks_none : (outputs : List Name) (latches : List Latch) (before : ℕ) (others : List Bool) →
    sink_lines outputs latches before [] others ≡ []
unfolding sink_lines
sinks_none outputs latches before others = refl

pub sinks_bare : (outputs : List Name) (latches : List Latch) (before : ℕ) (one : Bool) (ones : List Bool) →
    sink_lines outputs latches before (one ∷ ones) [] ≡ []
unfolding sink_lines
sinks_bare outputs latches before one ones = refl

pub sinks_more : (outputs : List Name) (latches : List Latch) (before : ℕ) (one other : Bool) (ones others : List Bool) →
    sink_lines outputs latches before (one ∷ ones) (other ∷ others) ≡
    sink_line outputs latches (before + 1) one other ++ sink_lines outputs latches (before + 1) ones others
unfolding sink_lines
sinks_more outputs latches before one other ones others = refl

pub ruleset of_sinks = (common_steps, sinks_none, sinks_bare, sinks_more)
