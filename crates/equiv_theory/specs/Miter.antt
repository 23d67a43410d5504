-- The miter of two nets (Brand, "Verification of large synthesized designs", 1993): a formula, the Tseitin
-- encoding of both nets, that asks for an assignment of the sources under which some sink has two different
-- values.
use Rattle.std.specs.Prelude.{ℕ, ◌+◌, nat_le, if◌then◌else◌, Bool, true, false, not, List, [], ◌∷◌, ◌++◌, length, map}
use Rattle.std.specs.List.{flat_map, range_with_len}
use Rattle.chain_theory.specs.Operator.{apply}
use Rattle.sat_theory.specs.Formula.{Formula}
use Rattle.clause_core.specs.declared.raw.RawLit.{RawLit}
use Rattle.clause_core.specs.declared.raw.RawLit.TheVariants.{Fixed, Var}
use Rattle.clause_core.specs.Clauses.{written}
use Rattle.net_theory.specs.declared.data.Sig.{Sig}
use Rattle.net_theory.specs.declared.data.Sig.TheVariants.{Zero, One, Node}
use Rattle.net_theory.specs.declared.data.Gate.{Gate}
use Rattle.net_theory.specs.Net.{Net}

-- ---- variables

-- The variable of a node of one of the nets. A source has its own number, so the nets share the sources. The gates
-- come after them, and after the `before` gates of the other net.
-- Example: with two sources and three gates before, the nodes 1, 2 and 3 have the variables 1, 2 and 6.
unfoldable pub variable_at : ℕ → ℕ → ℕ → ℕ
variable_at sources before node = if nat_le node sources then node else node + before

-- the gates of the first net come first, and those of the second after them
abbrev pub first_variable : Net → ℕ → ℕ
first_variable first node = variable_at first.sources 0 node

abbrev pub second_variable : Net → Net → ℕ → ℕ
second_variable first second node = variable_at second.sources (length first.gates) node

-- the variable of the first sink, true only if the nets differ there; those of the other sinks follow
abbrev pub first_difference : Net → Net → ℕ
first_difference first second = first.sources + length first.gates + length second.gates + 1

abbrev pub variables : Net → Net → ℕ
variables first second = first.sources + length first.gates + length second.gates + length first.sinks

-- ---- clauses, as they are listed

-- the literal that is true exactly if a signal has the value `bit`
abbrev pub signal_is : (ℕ → ℕ) → Sig → Bool → RawLit
signal_is var Zero bit = Fixed (not bit)
signal_is var One bit = Fixed bit
signal_is var (Node p) bit = Var (var p) bit

-- if the operands of the gate at node `node` have the values a and b, the gate has its operator's value
unfoldable pub gate_row : (ℕ → ℕ) → ℕ → Gate → Bool → Bool → List RawLit
gate_row var node g a b = signal_is var g.a (not a) ∷ signal_is var g.b (not b) ∷ Var (var node) (apply g.op a b) ∷ []

abbrev pub gate_rows : (ℕ → ℕ) → ℕ → Gate → List (List RawLit)
gate_rows var node g = gate_row var node g false false ∷ gate_row var node g false true ∷ gate_row var node g true
    false ∷ gate_row var node g true true ∷ []

-- the gates in order, the first at node `node`
unfoldable pub gates_rows : (ℕ → ℕ) → ℕ → List Gate → List (List RawLit)
gates_rows var node [] = []
gates_rows var node (g ∷ gs) = gate_rows var node g ++ gates_rows var (node + 1) gs

-- if the variable d of a sink is true, its two signals don't both have the value `not bit`
unfoldable pub sink_row : (ℕ → ℕ) → (ℕ → ℕ) → ℕ → Sig → Sig → Bool → List RawLit
sink_row var other d u w bit = Var d false ∷ signal_is var u bit ∷ signal_is other w bit ∷ []

abbrev pub sink_rows : (ℕ → ℕ) → (ℕ → ℕ) → ℕ → Sig → Sig → List (List RawLit)
sink_rows var other d u w = sink_row var other d u w false ∷ sink_row var other d u w true ∷ []

-- the sinks in order, the first with the variable d
unfoldable pub sinks_rows : (ℕ → ℕ) → (ℕ → ℕ) → ℕ → List Sig → List Sig → List (List RawLit)
sinks_rows var other d [] ws = []
sinks_rows var other d (u ∷ us) [] = []
sinks_rows var other d (u ∷ us) (w ∷ ws) = sink_rows var other d u w ++ sinks_rows var other (d + 1) us ws

-- some sink differs, among `count` sinks with the variables from d on
unfoldable pub some_row : ℕ → ℕ → List RawLit
some_row d count = map (λ x. Var x true) (range_with_len d count)

-- The clauses of the first net's gates, of the second net's gates, of the sinks, and the clause that some sink
-- differs.
unfoldable pub miter_rows : Net → Net → List (List RawLit)
miter_rows first second =
    gates_rows (first_variable first) (first.sources + 1) first.gates
    ++ (gates_rows (second_variable first second) (second.sources + 1) second.gates
    ++ (sinks_rows (first_variable first) (second_variable first second)
    (first_difference first second) first.sinks second.sinks
    ++ (some_row (first_difference first second) (length first.sinks) ∷ [])))

-- The miter: its clauses as they are written, where false literals are left out and clauses with a true literal
-- are dropped.
-- Example: for AND and for the constant 0 on two sources, each with one sink, it is the formula over the variables
-- 1 to 4 with the clauses 1 2 -3, 1 -2 -3, -1 2 -3, -1 -2 3, -4 3, and 4. The assignment 1 1 1 1 satisfies it.
unfoldable pub miter : Net → Net → Formula
miter first second = record { vars = variables first second; clauses = flat_map written (miter_rows first second) }
