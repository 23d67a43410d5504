-- The AIGER file that the writer makes of a circuit: AND gates with complements. AND and OR, with complements of their
-- operands and of their results, are one gate each, and constants, copies and complements none; XOR and XNOR can't be
-- written. `aiger_write` makes it, and no clause of the reader rests on it; `aiger_laws` proves what it lists.
use Rattle.std.specs.Prelude.{ℕ, zero, suc, ◌+◌, ◌-◌, ◌*◌, ◌%◌, Bool, true, false, ◌||◌, ◌==◌, nat_le, if◌then◌else◌, List, [], ◌∷◌, ◌++◌}
use Rattle.std.specs.Prelude.{length, map, Option, Some, None, slice_index_or}
use Rattle.std.proofs.Common.{drop, take}
use Rattle.net_theory.specs.declared.data.Sig.{Sig}
use Rattle.net_theory.specs.declared.data.Sig.TheVariants.{Zero, One, Node}
use Rattle.net_theory.specs.declared.data.Gate.{Gate}
use Rattle.net_theory.specs.Document.{Name, is_same, Latch, latch_output}
use Rattle.net_theory.specs.Net.{Net}
use Rattle.net_theory.specs.Circuit.{Circuit}
use Rattle.aiger_text.specs.declared.file.Reset.{Reset}
use Rattle.aiger_text.specs.declared.file.Reset.TheVariants as resets
use Rattle.aiger_text.specs.declared.file.AigLatch.{AigLatch}
use Rattle.aiger_text.specs.declared.file.AigGate.{AigGate}
use Rattle.aiger_text.specs.declared.file.PortKind.{PortKind}
use Rattle.aiger_text.specs.declared.file.PortKind.TheVariants as kinds
use Rattle.aiger_text.specs.declared.file.Symbol.{Symbol}
use Rattle.aiger_text.specs.File.{AigFile}
use Rattle.aiger_text.specs.Naming.{numbered}
use Rattle.aiger_text.specs.Spelling.{kind_byte}

-- ---- literals

-- the complement of a literal
abbrev pub complement : ℕ → ℕ
complement lit = if lit % 2 == 0 then lit + 1 else lit - 1

abbrev pub flipped : Bool → ℕ → ℕ
flipped b lit = if b then complement lit else lit

-- the literals of the nodes from 0 on, of which node 0 doesn't exist
abbrev pub sig_literal : List ℕ → Sig → ℕ
sig_literal literals Zero = 0
sig_literal literals One = 1
sig_literal literals (Node p) = slice_index_or literals p 0

-- ---- gates

-- the gates so far, and the literal of the last AND
pub record Anded : Type 0 where
  pub gates : List AigGate
  pub literal : ℕ

-- the literal of the next gate, after `sources` inputs and latches
abbrev pub next_literal : ℕ → List AigGate → ℕ
next_literal sources gates = (sources + length gates + 1) * 2

-- the gate of a literal, its greater fanin first
abbrev pub and_gate : ℕ → ℕ → ℕ → AigGate
and_gate lit a b = if nat_le b a then record { literal = lit; first = a; second = b }
    else record { literal = lit; first = b; second = a }

abbrev pub with_and : ℕ → List AigGate → ℕ → ℕ → Anded
with_and sources gates a b = record {
  gates = gates ++ and_gate (next_literal sources gates) a b ∷ [];
  literal = next_literal sources gates;
}

abbrev pub without : List AigGate → ℕ → Anded
without gates lit = record { gates = gates; literal = lit }

-- AND of two literals; a new gate unless it is a constant or one of the two
unfoldable pub anded : ℕ → List AigGate → ℕ → ℕ → Anded
anded sources gates a b = if a == 0 || b == 0 || a == complement b then without gates 0 else (if a == 1 then without gates b
    else (if b == 1 || a == b then without gates a else with_and sources gates a b))

abbrev pub flipped_out : Bool → Anded → Anded
flipped_out b r = record { gates = r.gates; literal = flipped b r.literal }

-- AND with complements of the operands and of the result
abbrev pub anded_with : ℕ → List AigGate → ℕ → ℕ → Bool → Bool → Bool → Anded
anded_with sources gates a b flip_a flip_b flip = flipped_out flip (anded sources gates (flipped flip_a a) (flipped flip_b b))

-- whether a gate with the operator can be written: all but XOR and XNOR
unfoldable pub is_and_word : ℕ → Bool
is_and_word op = op == 1 || op == 2 || op == 4 || op == 8 || op == 14 || op == 13 || op == 11 || op == 7 || op == 3 ||
    op == 5 || op == 12 || op == 10 || op == 15 || op == 0

-- a gate, by its operator
unfoldable pub operated : ℕ → List AigGate → ℕ → ℕ → ℕ → Anded
operated sources gates op a b = if op == 1 then anded_with sources gates a b false false false
    else (if op == 2 then anded_with sources gates a b false true false
    else (if op == 4 then anded_with sources gates a b true false false
    else (if op == 8 then anded_with sources gates a b true true false
    else (if op == 14 then anded_with sources gates a b false false true
    else (if op == 13 then anded_with sources gates a b false true true
    else (if op == 11 then anded_with sources gates a b true false true
    else (if op == 7 then anded_with sources gates a b true true true
    else (if op == 3 then without gates a
    else (if op == 5 then without gates b
    else (if op == 12 then without gates (complement a)
    else (if op == 10 then without gates (complement b)
    else (if op == 15 then without gates 1 else without gates 0))))))))))))

-- the gates so far, and the literals of the nodes so far
pub record Mapped : Type 0 where
  pub gates : List AigGate
  pub literals : List ℕ

abbrev pub mapped_by : List ℕ → Anded → Mapped
mapped_by literals r = record { gates = r.gates; literals = literals ++ r.literal ∷ [] }

abbrev pub with_node : ℕ → Mapped → Gate → Mapped
with_node sources m g = mapped_by m.literals
    (operated sources m.gates g.op (sig_literal m.literals g.a) (sig_literal m.literals g.b))

unfoldable pub mapped_from : ℕ → Mapped → List Gate → Mapped
mapped_from sources m [] = m
mapped_from sources m (g ∷ gs) = mapped_from sources (with_node sources m g) gs

-- the literals of the sources: 2, 4 and so on, after that of no node
unfoldable pub even_from : ℕ → ℕ → List ℕ
even_from from zero = []
even_from from (suc n) = from * 2 ∷ even_from (from + 1) n

abbrev pub mapped : Net → Mapped
mapped n = mapped_from n.sources (record { gates = []; literals = even_from 0 (n.sources + 1) }) n.gates

-- ---- latches and symbols

-- the initial value of a latch; one that isn't given, don't-care or unknown is undefined
abbrev pub reset_of : Option ℕ → Reset
reset_of None = resets.Undefined
reset_of (Some init) = if init == 0 then resets.Zero else (if init == 1 then resets.One else resets.Undefined)

-- the latches, the first of which is the node `node`, with their next states
unfoldable pub latches_from : ℕ → List Latch → List ℕ → List AigLatch
latches_from node [] nexts = []
latches_from node (l ∷ ls) [] = []
latches_from node (l ∷ ls) (next ∷ nexts) = record { literal = node * 2; next = next; reset = reset_of l.init } ∷
    latches_from (node + 1) ls nexts

-- the name that the reader gives an input, a latch or an output without a symbol
-- Example: that of the first input is `i0`.
abbrev pub default_name : PortKind → ℕ → Name
default_name kind at = numbered (kind_byte kind ∷ []) at

-- the symbol of a name at a position; none if it is the name that the reader gives without one
unfoldable pub symbol_of : PortKind → ℕ → Name → List Symbol
symbol_of kind at n = if is_same n (default_name kind at) then []
    else record { kind = kind; position = at; name = n } ∷ []

-- the symbols of names, the first of which has the position `at`
unfoldable pub symbols_from : PortKind → ℕ → List Name → List Symbol
symbols_from kind at [] = []
symbols_from kind at (n ∷ ns) = symbol_of kind at n ++ symbols_from kind (at + 1) ns

-- ---- circuits

abbrev pub file_by : Circuit → Mapped → List ℕ → AigFile
file_by c m sinks = record {
  variables = c.net.sources + length m.gates;
  inputs = even_from 1 (length c.inputs);
  latches = latches_from (1 + length c.inputs) c.latches (drop (length c.outputs) sinks);
  outputs = take (length c.outputs) sinks;
  gates = m.gates;
  symbols = symbols_from kinds.Input 0 c.inputs ++ symbols_from kinds.Latch 0 (map latch_output c.latches) ++
      symbols_from kinds.Output 0 c.outputs;
}

-- The file of a circuit: the inputs have the literals 2, 4 and so on, then come the latches and the gates, in the order
-- of their nodes. Inputs, latches and outputs have symbols, except where the reader gives their names without one.
unfoldable pub file_of : Circuit → AigFile
file_of c = file_by c (mapped c.net) (map (sig_literal (mapped c.net).literals) c.net.sinks)
