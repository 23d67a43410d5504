-- The function of a gate's different signals.
use Rattle.std.specs.Prelude.{ℕ, Bool, false, ◌==◌, if◌then◌else◌}
use Rattle.net_theory.specs.declared.data.Sig.{Sig}
use Rattle.net_theory.specs.declared.data.Sig.TheVariants.{Zero, One, Node}
use Rattle.net_theory.specs.declared.data.Gate.{Gate}
use Rattle.net_basis.specs.Joins.{joined}

-- the first operand as a function of a and b: a constant, or a
abbrev pub first_word : Sig → ℕ
first_word Zero = 0
first_word One = 15
first_word (Node p) = 3

abbrev pub is_node : Sig → ℕ → Bool
is_node Zero q = false
is_node One q = false
is_node (Node p) q = p == q

-- the second one: a constant, or a where it is the first one, or else b
abbrev pub second_word : Sig → Sig → ℕ
second_word a Zero = 0
second_word a One = 15
second_word a (Node q) = if is_node a q then 3 else 5

-- The gate's function of its different signals: constant operands have their values, and an equal second operand is the
-- first one.
-- Example: NAND of one signal twice is NOT of it (1100), and XOR with the constant 1 too.
abbrev pub local_word : Gate → ℕ
local_word g = joined g.op (first_word g.a) (second_word g.a g.b)
