-- The specification of a window: its local function with satisfiability don't-cares (SDC).
use Rattle.std.specs.Prelude.{◌≡◌, ℕ, ◌+◌, ◌≤◌, ◌<◌, ◌^◌, ◌-◌, Bool, true, false, if◌then◌else◌, List, [], ◌∷◌, length}
use Rattle.std.specs.Prelude.{slice_index_or, ◌⊎◌}
use Rattle.chain_theory.specs.Operator.{Basis}
use Rattle.chain_theory.specs.Agreement.{NoneBelow}
use Rattle.chain_theory.specs.Specification.{Specification, input}
use Rattle.chain_theory.specs.Value.{extended}
use Rattle.chain_theory.specs.declared.data.Cell.{Cell}
use Rattle.chain_theory.specs.declared.data.Cell.TheVariants.{Zero, One, Free}
use Rattle.net_theory.specs.declared.data.Gate.{Gate}
use Rattle.net_theory.specs.Net.{Net, gate_value}
use Rattle.window_theory.specs.Nodes.{among}
use Rattle.window_theory.specs.Paths.{IsGate, Reads}
use Rattle.window_theory.specs.Window.{Window}
use Rattle.window_theory.specs.FaninCone.{ExpandsTo}

-- ---- values where the bits of some nodes are fixed

unfoldable pub fixed_after : (ℕ → Bool) → (ℕ → Bool) → (ℕ → Bool) → ℕ → List Gate → ℕ → Bool
fixed_after fixed given bits node [] = bits
fixed_after fixed given bits node (g ∷ gs) = fixed_after fixed given (extended bits node (if fixed node then given node
    else gate_value bits g)) (node + 1) gs

-- The bits of the nodes where the sources and the nodes of `fixed` have the bits of `given`, and each other
-- gate has its operator's value.
-- Example: with XOR of two sources at node 3, NOT of it at node 4, and node 3 fixed to 1, node 4 has 0,
-- whatever the bits of the sources are.
abbrev pub values_with : Net → (ℕ → Bool) → (ℕ → Bool) → ℕ → Bool
values_with n fixed given = fixed_after fixed given given (n.sources + 1) n.gates

-- ---- a part of a net by itself

-- a node whose bit is given: a source, or one of `fixed`
abbrev pub IsGiven : Net → (ℕ → Bool) → ℕ → Type 0
IsGiven n fixed p = (fixed p ≡ true) ⊎ (p ≤ n.sources)

-- a gate with its operator's value, whose fanins are in `inside`
pub record IsComputed (n : Net) (fixed inside bits : ℕ → Bool) (p : ℕ) : Type 0 where
  pub free : fixed p ≡ false
  pub gate : IsGate n p
  pub reads : (q : ℕ) → Reads n p q → inside q ≡ true
  pub value : bits p ≡ gate_value bits gate.gate

-- `bits` are those of the part `inside`: each of its nodes is either given or computed from nodes of the
-- part.
-- Example: gate 4 reads gate 3 and the source 1. With 3 fixed, the nodes 1, 3 and 4 are a part.
abbrev pub IsEvaluatedPart : Net → (ℕ → Bool) → (ℕ → Bool) → (ℕ → Bool) → (ℕ → Bool) → Type 0
IsEvaluatedPart n fixed given inside bits = (p : ℕ) → inside p ≡ true → (IsGiven n fixed p × (bits p ≡ given p)) ⊎
    IsComputed n fixed inside bits p

-- ---- rows

-- the nodes have the bits of row t, with the first node as the most significant bit
abbrev pub HasRow : (ℕ → Bool) → List ℕ → ℕ → Type 0
HasRow bits nodes t = (i : ℕ) → i < length nodes → bits (slice_index_or nodes i 0) ≡ input (length nodes) t (i + 1)

-- ---- care rows (minterms)

-- A row of k nodes, a number below 2 ^ k, is a care row where an assignment of the leaves of their fanin cone
-- gives the nodes these bits; the other rows are satisfiability don't-cares. (Of a number from 2 ^ k on only
-- the last k digits count, but no use of this goes beyond rows.)
-- Example: for gate 3 = AND(1, 2) and gate 4 = OR(1, 2) the row 10 is no care row, since no bits of 1 and 2
-- give it.
pub record IsCareRow (n : Net) (nodes : List ℕ) (t : ℕ) : Type 0 where
  pub leaves : List ℕ
  pub fanin_cone : ExpandsTo n nodes leaves
  pub given : ℕ → Bool
  pub bits : HasRow (values_with n (among leaves) given) nodes t

abbrev pub cell_of : Bool → Cell
cell_of b = if b then One else Zero

-- the node of output h, where outputs are numbered from 1
abbrev pub output_node : Window → ℕ → ℕ
output_node w h = slice_index_or w.outputs (h - 1) 0

-- The specification of a window: on a care row of its inputs the cells are the values of its outputs, and on
-- all other rows they are don't-cares.
pub record IsSpecificationOf (n : Net) (w : Window) (s : Specification) : Type 0 where
  pub inputs : s.inputs ≡ length w.inputs
  pub outputs : s.outputs ≡ length w.outputs
  pub care : (h t : ℕ) (given : ℕ → Bool) → 1 ≤ h → h ≤ length w.outputs → t < 2 ^ length w.inputs →
      IsCareRow n w.inputs t → HasRow given w.inputs t →
      s.cell h t ≡ cell_of (values_with n (among w.inputs) given (output_node w h))
  pub free : (h t : ℕ) → 1 ≤ h → h ≤ length w.outputs → t < 2 ^ length w.inputs → (IsCareRow n w.inputs t → ⊥) →
      s.cell h t ≡ Free

-- No chain over the basis of fewer than `count` steps implements the window. It doesn't matter for which
-- specification of the window this holds, since the same chains implement all of them (a law says so).
-- Example: where XOR of two sources is a sink, the window of this one gate has no chain of fewer than 1 steps
-- over any basis. (A dangling gate gives a window without outputs, which needs no step.)
pub record HasNoFewer (n : Net) (basis : Basis) (w : Window) (count : ℕ) : Type 0 where
  pub specification : Specification
  pub is : IsSpecificationOf n w specification
  pub none : NoneBelow specification basis count
