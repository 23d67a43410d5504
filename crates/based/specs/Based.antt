-- Circuits over a basis, made of what isn't dangling in another.
use Rattle.std.specs.Prelude.{◌≡◌, ℕ, ◌+◌, ◌-◌, List, [], slice_get, Option, None, Some}
use Rattle.chain_theory.specs.Operator.{Basis}
use Rattle.net_theory.specs.Circuit.{Circuit, IsProper}
use Rattle.net_theory.specs.Dangling.{cleanup}
use Rattle.net_theory.specs.Document.{Name}
use Rattle.net_theory.specs.ExchangeLaws.{with_net}
use Rattle.net_theory.specs.Naming.{gate_names}
use Rattle.net_document.specs.Equivalence.{AreEquivalentCircuits}
use Rattle.net_basis.specs.OverBasis.{IsNetOver, IsInexpressibleAt}
use Rattle.based.specs.declared.answer.Based.{Based}
use Rattle.based.specs.declared.answer.Based.TheVariants.{Base, Cannot, TooMany}

-- ---- what isn't dangling

-- c without its dangling gates
abbrev pub left_of : Circuit → Circuit
left_of c = with_net c (cleanup c.net)

-- ---- names

abbrev pub or_nothing : Option Name → Name
or_nothing None = []
or_nothing (Some name) = name

-- the name of a gate, by the names of a net's gates and the number of its sources
unfoldable pub name_at : List Name → ℕ → ℕ → Name
name_at names sources node = or_nothing (slice_get names (node - (sources + 1)))

-- the name by which the gate of a node is written
abbrev pub gate_name : Circuit → ℕ → Name
gate_name c node = name_at (gate_names c) c.net.sources node

-- ---- answers

-- b is c over the basis. It is equivalent to c and has its names. Its gates have operators of the basis, and are no
-- more than take the place of the gates of c that aren't dangling.
pub record IsBasedOn (basis : Basis) (c b : Circuit) : Type 0 where
  pub same : b ≡ with_net c b.net
  pub proper : IsProper b
  pub equivalent : AreEquivalentCircuits c b
  pub over : IsNetOver basis (cleanup c.net) b.net

-- The gate of c that is written by this name has an operator that no chain over the basis computes.
pub record IsInexpressibleBy (basis : Basis) (c : Circuit) (name : Name) : Type 0 where
  pub node : ℕ
  pub inexpressible : IsInexpressibleAt basis c.net node
  pub named : name ≡ gate_name c node

abbrev pub IfBase : Based → (Circuit → Type 0) → Type 0
IfBase (Base b) P = P b
IfBase (Cannot name) P = Unit {0}
IfBase TooMany P = Unit {0}

abbrev pub IfCannot : Based → (Name → Type 0) → Type 0
IfCannot (Base b) P = Unit {0}
IfCannot (Cannot name) P = P name.items
IfCannot TooMany P = Unit {0}

abbrev pub IfTooMany : Based → Type 0 → Type 0
IfTooMany (Base b) P = Unit {0}
IfTooMany (Cannot name) P = Unit {0}
IfTooMany TooMany P = P

-- there is no circuit
abbrev pub IfNone : Based → Type 0 → Type 0
IfNone (Base b) P = Unit {0}
IfNone (Cannot name) P = P
IfNone TooMany P = P
