-- The number of two-input gates into which a table, or a whole netlist, is decomposed.
use Rattle.std.specs.Prelude.{ℕ, ◌+◌, ◌-◌, Bool, true, false, ◌&&◌, ◌||◌, ◌==◌, if◌then◌else◌, List, [], ◌∷◌, ◌++◌}
use Rattle.std.specs.Prelude.{sum_by, count_by}
use Rattle.net_theory.specs.Cover.{Cover, cover_value}
use Rattle.net_theory.specs.Document.{Name, is_same, Table, Document}
use Rattle.net_theory.specs.Expansion.{unary_word, binary_word, is_constant_cover}

-- ---- tables with two inputs of the same name

abbrev pub byte_if : Bool → ℕ → List (List ℕ)
byte_if true b = (b ∷ []) ∷ []
byte_if false b = []

-- the cover of one input, by its values at 0 and 1
abbrev pub unary_cover : Bool → Bool → Cover
unary_cover at_zero at_one = record {
  width = 1;
  cubes = byte_if at_zero 48 ++ byte_if at_one 49;
  on = true;
  parity = false;
}

abbrev pub merged : Table → List Name → Table
merged t (a ∷ b ∷ []) = if is_same a b then record {
  inputs = a ∷ [];
  output = t.output;
  cover = unary_cover (cover_value t.cover (false ∷ false ∷ [])) (cover_value t.cover (true ∷ true ∷ []));
} else t
merged t other = t

-- A table of two inputs with the same name is replaced by a table of one input.
-- Example: `.names a a y` with `10 1` is constantly 0.
unfoldable pub merged_table : Table → Table
merged_table t = merged t t.inputs

-- ---- costs

-- a function of one input costs one gate if it is NOT, else none
abbrev pub unary_cost : ℕ → ℕ
unary_cost word = if word == 2 then 1 else 0

-- a function of two inputs costs one gate, but none if it is constant or a copy
abbrev pub binary_cost : ℕ → ℕ
binary_cost word = if word == 0 || word == 15 || word == 3 || word == 5 then 0 else 1

-- the number of literals of a cube
abbrev pub literal_count : List ℕ → ℕ
literal_count cube = count_by (λ b. b == 48 || b == 49) cube

abbrev pub literal_sum : List (List ℕ) → ℕ
literal_sum cubes = sum_by literal_count cubes

-- whether the cover is a single literal that makes it NOT of an input
abbrev pub is_not : Bool → List (List ℕ) → Bool
is_not on (cube ∷ []) = (literal_count cube == 1) &&
    (if on then count_by (λ b. b == 48) cube == 1 else count_by (λ b. b == 48) cube == 0)
is_not on other = false

-- A cover of more than two inputs costs one gate less than it has literals, and one more if it is NOT of an
-- input. It costs none if it is recognized as constant (`is_constant_cover`).
unfoldable pub cubes_cost : Cover → ℕ
cubes_cost c = if is_constant_cover c.cubes then 0 else (literal_sum c.cubes - 1) + (if is_not c.on c.cubes then 1 else 0)

-- A parity costs one gate less than it has inputs.
unfoldable pub wide_cost : Cover → ℕ
wide_cost c = if c.parity then c.width - 1 else cubes_cost c

abbrev pub cover_cost : {A : Type 0} → Cover → List A → ℕ
cover_cost c [] = 0
cover_cost c (a ∷ []) = unary_cost (unary_word c)
cover_cost c (a ∷ b ∷ []) = binary_cost (binary_word c)
cover_cost c (a ∷ b ∷ d ∷ inputs) = wide_cost c

-- the number of gates into which a table is decomposed
-- Example: `1-0 1` and `-11 1` cost 3; NOT and XOR cost 1, a copy costs 0, and XOR of five inputs 4.
unfoldable pub table_cost : Table → ℕ
table_cost t = cover_cost (merged_table t).cover (merged_table t).inputs

unfoldable pub cost : Document → ℕ
cost d = sum_by table_cost d.tables
