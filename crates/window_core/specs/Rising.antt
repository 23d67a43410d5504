-- Ascending lists that grow by a node.
use Rattle.std.specs.Prelude.{ℕ, if◌then◌else◌, nat_eq, nat_lt, List, [], ◌∷◌}
use Rattle.net_theory.specs.declared.data.Sig.{Sig}
use Rattle.window_theory.specs.Nodes.{among}
use Rattle.net_theory.specs.declared.data.Sig.TheVariants.{Zero, One, Node}

-- The ascending list with the node inserted, unless it is there already.
-- Example: 4 put into 2, 7 is 2, 4, 7, and 7 put into it is 2, 7.
unfoldable pub put : ℕ → List ℕ → List ℕ
put p [] = p ∷ []
put p (q ∷ qs) = if nat_eq p q then q ∷ qs else (if nat_lt p q then p ∷ (q ∷ qs) else q ∷ put p qs)

-- the node that a signal names is put
abbrev pub put_sig : Sig → List ℕ → List ℕ
put_sig Zero nodes = nodes
put_sig One nodes = nodes
put_sig (Node p) nodes = put p nodes

-- the node that a signal names is put, unless it is one of the gates
abbrev pub put_outside : List ℕ → Sig → List ℕ → List ℕ
put_outside gates Zero nodes = nodes
put_outside gates One nodes = nodes
put_outside gates (Node p) nodes = if among gates p then nodes else put p nodes
