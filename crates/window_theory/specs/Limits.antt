-- The limits of windows. The most gates of a window are among the settings.
use Rattle.std.specs.Prelude.{ℕ}

-- the most partners of a gate: each gives windows of its own, and a signal may have thousands of readers
abbrev pub most_partners : ℕ
most_partners = 8

-- the most gates of a fanout cone: gates near the sources reach most of the net
abbrev pub most_of_fanout_cone : ℕ
most_of_fanout_cone = 16

-- the most gates of a window and its fanout cone together
abbrev pub most_gates_in_both : ℕ
most_gates_in_both = 24
