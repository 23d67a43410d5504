use Rattle.std.proofs.Common.{◌≡◌, ◌∷◌, length}
use Rattle.net_theory.specs.Document.{is_name}
use Rattle.net_document.proofs.name_bytes.is_name.Given as goal

abbrev pub invariant-loop-next : goal.invariant-loop-next
invariant-loop-next l = is_name (l.byte ∷ l.left) ≡ is_name l.fn.bytes

abbrev pub decreases-loop-next : goal.decreases-loop-next
decreases-loop-next l = length l.left
