-- The names of a file's inputs, latches, outputs and gates. A symbol names an input, a latch or an output; the others
-- are `i0`, `l0` and `o0`, and so on, by their positions. A gate has its literal as a name, after `&`, with which no
-- symbol begins. A name that then stands for two variables is driven twice.
use Rattle.std.specs.Prelude.{ℕ, zero, suc, ◌+◌, ◌*◌, ◌/◌, Bool, true, false, if◌then◌else◌, List, [], ◌∷◌, ◌++◌}
use Rattle.std.specs.Prelude.{length, map, decimal, codes, slice_index_or, slice_set}
use Rattle.net_theory.specs.Document.{Name}
use Rattle.aiger_text.specs.declared.file.AigLatch.{AigLatch}
use Rattle.aiger_text.specs.declared.file.PortKind.{PortKind}
use Rattle.aiger_text.specs.declared.file.PortKind.TheVariants.{Input, Latch, Output}
use Rattle.aiger_text.specs.declared.file.Symbol.{Symbol}
use Rattle.aiger_text.specs.File.{AigFile}

abbrev pub numbered : List ℕ → ℕ → Name
numbered prefix k = prefix ++ decimal k

-- `n` numbered names, from number `from` on
unfoldable pub numbered_from : List ℕ → ℕ → ℕ → List Name
numbered_from prefix from zero = []
numbered_from prefix from (suc n) = numbered prefix from ∷ numbered_from prefix (from + 1) n

-- the name of a variable that is neither an input nor a latch: its literal after `&`
abbrev pub gate_name : ℕ → Name
gate_name variable = numbered (codes "&") (variable * 2)

-- the names of `n` variables, from variable `from` on
unfoldable pub gate_names_from : ℕ → ℕ → List Name
gate_names_from from zero = []
gate_names_from from (suc n) = gate_name from ∷ gate_names_from (from + 1) n

abbrev pub is_kind : PortKind → PortKind → Bool
is_kind Input Input = true
is_kind Latch Latch = true
is_kind Output Output = true
is_kind Input Latch = false
is_kind Input Output = false
is_kind Latch Input = false
is_kind Latch Output = false
is_kind Output Input = false
is_kind Output Latch = false

-- names by position, those of the symbols of a kind replaced
unfoldable pub with_symbols : PortKind → List Name → List Symbol → List Name
with_symbols kind names [] = names
with_symbols kind names (s ∷ ss) = with_symbols kind
    (if is_kind kind s.kind then slice_set names s.position s.name else names) ss

abbrev pub input_names : AigFile → List Name
input_names f = with_symbols Input (numbered_from (codes "i") 0 (length f.inputs)) f.symbols

abbrev pub latch_names : AigFile → List Name
latch_names f = with_symbols Latch (numbered_from (codes "l") 0 (length f.latches)) f.symbols

abbrev pub output_names : AigFile → List Name
output_names f = with_symbols Output (numbered_from (codes "o") 0 (length f.outputs)) f.symbols

-- names by variable, with those of the variables of some literals replaced
unfoldable pub with_names : List Name → List ℕ → List Name → List Name
with_names names [] ns = names
with_names names (lit ∷ lits) [] = names
with_names names (lit ∷ lits) (n ∷ ns) = with_names (slice_set names (lit / 2) n) lits ns

abbrev pub literal_of : AigLatch → ℕ
literal_of l = l.literal

-- `&0` for the constant variable, and for each variable its literal after `&`
abbrev pub gate_names : AigFile → List Name
gate_names f = gate_names_from 0 (f.variables + 1)

-- the names of the variables from 0 on
-- Example: of `aag 3 2 0 1 1`, `2`, `4`, `7`, `6 2 4` and `i1 b` they are `&0`, `i0`, `b` and `&6`.
unfoldable pub variable_names : AigFile → List Name
variable_names f = with_names (with_names (gate_names f) f.inputs (input_names f)) (map literal_of f.latches)
    (latch_names f)

-- the name of a literal's variable
abbrev pub name_at : List Name → ℕ → Name
name_at names lit = slice_index_or names (lit / 2) (codes "&")
