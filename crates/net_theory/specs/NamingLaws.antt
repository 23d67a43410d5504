-- The names of gates depend only on the outputs that the gates drive.
use Rattle.std.specs.Prelude.{◌≡◌, ℕ, ◌+◌, ◌-◌, ◌≤◌, ◌<◌, List, [], ◌∷◌, length, Option, refl}
use Rattle.std.proofs.Common.{arith, ◌∙◌, ap}
use Rattle.net_theory.specs.declared.data.Gate.{Gate}
use Rattle.net_theory.specs.Document.{Name}
use Rattle.net_theory.specs.Naming.{Naming, named, names_after}

-- the names depend only on the outputs at the gates' nodes
pub names_after-same : (f g : ℕ → Option Name) (n : Naming) (node : ℕ) (gs : List Gate) → ((p : ℕ) → node ≤ p → p < node + length gs → f p ≡ g p) → names_after f n node gs ≡ names_after g n node gs
unfolding names_after
names_after-same f g n node [] same = refl
names_after-same f g n node (h ∷ gs) same =
    ap (λ o. names_after f (named n o) (node + 1) gs) (same node (omega arith) (omega arith))
    ∙ names_after-same f g (named n (g node)) (node + 1) gs (λ p from low. same p (omega arith) (omega arith))
