-- A netlist of any number of blocks, of three kinds in turn. The blocks cost 3, 3 and 4 gates; 1, 2 and 3 gates
-- are enough.
use Rattle.std.specs.Prelude.{ℕ, zero, suc, ◌%◌, true, false, ◌==◌, if◌then◌else◌, List, [], ◌∷◌, ◌++◌, length, map}
use Rattle.std.specs.Prelude.{Option, Some, None, option_to_list, codes, decimal}
use Rattle.net_theory.specs.Document.{Name, Table, Document}
use Rattle.blif_core.specs.Spelling.{spelled}

-- the name of a letter in a block: `a0`, `p12`
abbrev pub name_of : ℕ → ℕ → Name
name_of block letter = letter ∷ decimal block

abbrev pub names_of : ℕ → List ℕ → List Name
names_of block letters = map (name_of block) letters

-- a table by the letters of its inputs and its output, with one cube or two of the on-set
abbrev pub table_of : ℕ → List ℕ → ℕ → List ℕ → Option (List ℕ) → Table
table_of block inputs output first second = record {
  inputs = names_of block inputs;
  output = name_of block output;
  cover = record { width = length inputs; cubes = first ∷ option_to_list second; on = true; parity = false };
}

-- y is XOR of a and b, from `a and not b` and `b and not a`.
abbrev pub exclusive : ℕ → List Table
exclusive block = table_of block (codes "ab") 112 (codes "10") None ∷ table_of block (codes "ab") 113
    (codes "01") None ∷ table_of block (codes "pq") 121 (codes "1-") (Some (codes "-1")) ∷ []

-- y is AND of a, b and c, from `a and b` and `a and c`.
abbrev pub conjunction : ℕ → List Table
conjunction block = table_of block (codes "ab") 112 (codes "11") None ∷ table_of block (codes "ac") 113
    (codes "11") None ∷ table_of block (codes "pq") 121 (codes "11") None ∷ []

-- y is b where a is 1, else c: a multiplexer.
abbrev pub choice : ℕ → List Table
choice block = table_of block (codes "a") 112 (codes "0") None ∷ table_of block (codes "ab") 113
    (codes "11") None ∷ table_of block (codes "pc") 114 (codes "11") None ∷ table_of block (codes "qr") 121
    (codes "1-") (Some (codes "-1")) ∷ []

abbrev pub block_inputs : ℕ → List Name
block_inputs block = if block % 3 == 0 then names_of block (codes "ab") else names_of block (codes "abc")

abbrev pub block_outputs : ℕ → List Name
block_outputs block = name_of block 121 ∷ []

abbrev pub block_tables : ℕ → List Table
block_tables block = if block % 3 == 0 then exclusive block
    else (if block % 3 == 1 then conjunction block else choice block)

-- the concatenation of the lists of n blocks, block 0 first
unfoldable pub of_blocks : {A : Type 0} → (ℕ → List A) → ℕ → List A
of_blocks f zero = []
of_blocks f (suc n) = of_blocks f n ++ f n

-- Example: with one block it has the inputs a0 and b0, the output y0 and three tables.
unfoldable pub generated : ℕ → Document
generated blocks = record {
  model = codes "gen";
  inputs = of_blocks block_inputs blocks;
  outputs = of_blocks block_outputs blocks;
  clocks = [];
  latches = [];
  tables = of_blocks block_tables blocks;
}

-- its BLIF text
abbrev pub generated_text : ℕ → List ℕ
generated_text blocks = spelled (generated blocks)
