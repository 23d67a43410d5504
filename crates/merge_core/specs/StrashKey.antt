-- The key of a gate for structural hashing.
use Rattle.std.specs.Prelude.{ℕ, ◌+◌, nat_le, if◌then◌else◌}
use Rattle.op_basis.specs.Closed.{swapped}
use Rattle.net_theory.specs.declared.data.Sig.{Sig}
use Rattle.net_theory.specs.declared.data.Sig.TheVariants.{Zero, One, Node}
use Rattle.net_theory.specs.declared.data.Gate.{Gate}
use Rattle.merge_core.specs.declared.key.StrashKey.{StrashKey}

-- a signal as a number: the constants, then the nodes
abbrev pub code : Sig → ℕ
code Zero = 0
code One = 1
code (Node p) = 2 + p

-- The operator, and the operands as numbers in ascending order. If the operands are swapped, so are the values
-- of the operator at (0,1) and (1,0).
-- Example: AND of the nodes 3 and 2 and AND of 2 and 3 have the key 1, 4, 5; `3 and not 2` and `not 2 and 3`
-- have the key 4, 4, 5.
unfoldable pub key_of : Gate → StrashKey
key_of g =
    if nat_le (code g.a) (code g.b)
    then record { word = g.op; low = code g.a; high = code g.b }
    else record { word = swapped g.op; low = code g.b; high = code g.a }
