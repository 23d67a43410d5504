-- The decomposition of a table into two-input gates.
use Rattle.std.specs.Prelude.{ℕ, ◌+◌, ◌*◌, ◌-◌, Bool, true, false, not, ◌&&◌, ◌||◌, ◌==◌, if◌then◌else◌, List, [], ◌∷◌}
use Rattle.std.specs.Prelude.{◌++◌, length, map}
use Rattle.std.specs.List.{list_any, list_all}
use Rattle.net_theory.specs.Cover.{Cover, cover_value}
use Rattle.net_theory.specs.declared.data.Sig.{Sig}
use Rattle.net_theory.specs.declared.data.Sig.TheVariants.{Zero, One, Node}
use Rattle.net_theory.specs.declared.data.Gate.{Gate}
use Rattle.net_theory.specs.declared.data.Signed.{Signed}

-- the gates so far, and the signal of the table
pub record Built : Type 0 where
  pub gates : List Gate
  pub sig : Sig

-- the gates so far, and a signal with a sign (complemented or not)
pub record Joined : Type 0 where
  pub gates : List Gate
  pub out : Signed

abbrev pub gate_of : ℕ → Sig → Sig → Gate
gate_of op a b = record { op = op; a = a; b = b }

-- the gates with one more appended, and its node
abbrev pub with_gate : ℕ → List Gate → Gate → Built
with_gate sources gates g = record { gates = gates ++ g ∷ []; sig = Node (sources + 1 + length gates) }

abbrev pub constant_sig : Bool → Sig
constant_sig true = One
constant_sig false = Zero

-- ---- tables of one or two inputs, by their truth table

abbrev pub digit_of : Bool → ℕ
digit_of true = 1
digit_of false = 0

-- the truth table of one input: the values at 0 and 1
abbrev pub unary_word : Cover → ℕ
unary_word c = 2 * digit_of (cover_value c (false ∷ [])) + digit_of (cover_value c (true ∷ []))

-- the truth table of two inputs: the values at (0,0), (0,1), (1,0) and (1,1)
abbrev pub binary_word : Cover → ℕ
binary_word c = 8 * digit_of (cover_value c (false ∷ false ∷ [])) + 4 * digit_of
    (cover_value c (false ∷ true ∷ [])) + 2 * digit_of (cover_value c (true ∷ false ∷ [])) + digit_of
    (cover_value c (true ∷ true ∷ []))

-- NOT of a signal is the operator NAND (1110) on it twice.
abbrev pub with_not : ℕ → List Gate → Sig → Built
with_not sources gates a = with_gate sources gates (gate_of 14 a a)

-- A table of one input: a constant and a copy need no gate.
unfoldable pub unary_built : ℕ → List Gate → ℕ → Sig → Built
unary_built sources gates word a = if word == 0 then record {
  gates = gates;
  sig = Zero;
} else (if word == 3 then record {
  gates = gates;
  sig = One;
} else (if word == 1 then record { gates = gates; sig = a } else with_not sources gates a))

-- A table of two inputs: a constant and a copy need no gate, and NOT of one input reads that input twice.
-- Every other function is one gate with the truth table as operator and the inputs as operands, in order.
unfoldable pub binary_built : ℕ → List Gate → ℕ → Sig → Sig → Built
binary_built sources gates word a b = if word == 0 then record {
  gates = gates;
  sig = Zero;
} else (if word == 15 then record {
  gates = gates;
  sig = One;
} else (if word == 3 then record {
  gates = gates;
  sig = a;
} else (if word == 5 then record {
  gates = gates;
  sig = b;
} else (if word == 12 then with_not sources gates a
    else (if word == 10 then with_not sources gates b else with_gate sources gates (gate_of word a b))))))

-- ---- tables of more inputs, by their cubes

-- the operator of AND on two signals, each complemented or not
abbrev pub and_word : Bool → Bool → ℕ
and_word false false = 1
and_word false true = 2
and_word true false = 4
and_word true true = 8

-- that of OR
abbrev pub or_word : Bool → Bool → ℕ
or_word false false = 7
or_word false true = 11
or_word true false = 13
or_word true true = 14

-- one gate joins the next signal to the result so far; its operator takes in both polarities
abbrev pub joined : (Bool → Bool → ℕ) → ℕ → Joined → Signed → Joined
joined word sources j s = record {
  gates = j.gates ++ gate_of (word j.out.turned s.turned) j.out.sig s.sig ∷ [];
  out = record { sig = Node (sources + 1 + length j.gates); turned = false };
}

-- that of XOR
abbrev pub xor_word : Bool → Bool → ℕ
xor_word false false = 6
xor_word false true = 9
xor_word true false = 9
xor_word true true = 6

-- joins signals from the left, as a left-deep chain of gates
unfoldable pub join_from : (Bool → Bool → ℕ) → ℕ → Joined → List Signed → Joined
join_from word sources j [] = j
join_from word sources j (s ∷ ss) = join_from word sources (joined word sources j s) ss

abbrev pub signed : Sig → Bool → Signed
signed sig turned = record { sig = sig; turned = turned }

-- joins all signals of a nonempty list; a single signal needs no gate
unfoldable pub join_all : (Bool → Bool → ℕ) → ℕ → List Gate → List Signed → Joined
join_all word sources gates [] = record { gates = gates; out = signed Zero false }
join_all word sources gates (s ∷ ss) = join_from word sources (record { gates = gates; out = s }) ss

-- the literals of a cube from the left: the inputs with a `1`, and those with a `0` complemented
unfoldable pub literals : List ℕ → List Sig → List Signed
literals [] inputs = []
literals (c ∷ cube) [] = []
literals (c ∷ cube) (a ∷ inputs) = if c == 49 then signed a false ∷ literals cube inputs
    else (if c == 48 then signed a true ∷ literals cube inputs else literals cube inputs)

-- the gates so far, and the signals of the cubes
pub record Terms : Type 0 where
  pub gates : List Gate
  pub outs : List Signed

-- each cube is the AND of its literals
unfoldable pub terms_from : ℕ → List Sig → Terms → List (List ℕ) → Terms
terms_from sources inputs t [] = t
terms_from sources inputs t (c ∷ cubes) = terms_from sources inputs
    (record {
      gates = (join_all and_word sources t.gates (literals c inputs)).gates;
      outs = t.outs ++
          (join_all and_word sources t.gates (literals c inputs)).out ∷ [];
    }) cubes

-- the OR of all cubes
abbrev pub or_built : ℕ → Terms → Joined
or_built sources t = join_all or_word sources t.gates t.outs

-- the complement of an operator
abbrev pub complemented : Gate → Gate
complemented g = gate_of (15 - g.op) g.a g.b

unfoldable pub last_complemented : List Gate → List Gate
last_complemented [] = []
last_complemented (g ∷ []) = complemented g ∷ []
last_complemented (g ∷ h ∷ gs) = g ∷ last_complemented (h ∷ gs)

-- A complement is pushed into the operator of the table's last gate, or, if the table has no gate, becomes a
-- NOT gate.
unfoldable pub finished : ℕ → ℕ → List Gate → Sig → Bool → Built
finished sources before gates a turned = if turned then (if length gates == before then with_not sources gates a
    else record { gates = last_complemented gates; sig = a }) else record { gates = gates; sig = a }

-- whether a cube has no literal, so that it covers every minterm
unfoldable pub has_no_literal : List ℕ → Bool
has_no_literal cube = list_all (λ b. not (b == 48 || b == 49)) cube

abbrev pub is_empty_cover : List (List ℕ) → Bool
is_empty_cover [] = true
is_empty_cover (c ∷ cubes) = false

-- whether the cover is recognized as constant: no cubes, or a cube without literals
abbrev pub is_constant_cover : List (List ℕ) → Bool
is_constant_cover cubes = is_empty_cover cubes || list_any has_no_literal cubes

-- the result, complemented if the cover describes the off-set
abbrev pub finished_by : ℕ → ℕ → Bool → Joined → Built
finished_by sources before on j = finished sources before j.gates j.out.sig (if on then j.out.turned
    else not j.out.turned)

unfoldable pub cover_built : ℕ → List Gate → Cover → List Sig → Built
cover_built sources gates c inputs = if is_constant_cover c.cubes then record {
  gates = gates;
  sig = constant_sig (c.on && not (is_empty_cover c.cubes));
} else finished_by sources (length gates) c.on
    (or_built sources (terms_from sources inputs (record { gates = gates; outs = [] }) c.cubes))

-- the inputs, none complemented
unfoldable pub unsigned : List Sig → List Signed
unsigned inputs = map (λ a. signed a false) inputs

-- A parity is XOR of its inputs from the left; if `on` is false, the last gate is XNOR.
unfoldable pub parity_built : ℕ → List Gate → Bool → List Sig → Built
parity_built sources gates on inputs = finished_by sources (length gates) on
    (join_all xor_word sources gates (unsigned inputs))

unfoldable pub wide_built : ℕ → List Gate → Cover → List Sig → Built
wide_built sources gates c inputs = if c.parity then parity_built sources gates c.on inputs
    else cover_built sources gates c inputs

-- Appends the gates of a table whose inputs are the given signals, and gives the table's signal. Inputs
-- count as distinct, even if two signals are equal or one is constant.
-- Example: `1-0 1` and `-11 1` over a, b, c become AND of a and not c, AND of b and c, and OR of these.
abbrev pub expanded : ℕ → List Gate → Cover → List Sig → Built
expanded sources gates c [] = record { gates = gates; sig = constant_sig (cover_value c []) }
expanded sources gates c (a ∷ []) = unary_built sources gates (unary_word c) a
expanded sources gates c (a ∷ b ∷ []) = binary_built sources gates (binary_word c) a b
expanded sources gates c (a ∷ b ∷ d ∷ inputs) = wide_built sources gates c (a ∷ b ∷ d ∷ inputs)
