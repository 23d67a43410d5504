-- The covers of AND, OR and parity of n inputs, and of their complements.
use Rattle.std.specs.Prelude.{ℕ, zero, suc, Bool, true, false, not, if◌then◌else◌, List, [], ◌∷◌, map}
use Rattle.net_theory.specs.Cover.{Cover}

-- the cube with a `1` for each input
abbrev pub ones : ℕ → List ℕ
ones zero = []
ones (suc width) = 49 ∷ ones width

-- the cube with a `-` for each input
abbrev pub dashes : ℕ → List ℕ
dashes zero = []
dashes (suc width) = 45 ∷ dashes width

-- for each input the cube whose only literal is that input
abbrev pub single_ones : ℕ → List (List ℕ)
single_ones zero = []
single_ones (suc width) = (49 ∷ dashes width) ∷ map (λ cube. 45 ∷ cube) (single_ones width)

-- AND, or NAND where on is false
abbrev pub and_cover : ℕ → Bool → Cover
and_cover width on = record { width = width; cubes = ones width ∷ []; on = on; parity = false }

-- OR, or NOR where on is false
-- Example: over three inputs its cubes are `1--`, `-1-` and `--1`.
abbrev pub or_cover : ℕ → Bool → Cover
or_cover width on = record { width = width; cubes = single_ones width; on = on; parity = false }

-- XOR, or XNOR where on is false
abbrev pub xor_cover : ℕ → Bool → Cover
xor_cover width on = record { width = width; cubes = []; on = on; parity = true }

-- ---- values

abbrev pub itself : Bool → Bool
itself b = b

-- a bit, or its complement where `on` is false
abbrev pub value_where : Bool → Bool → Bool
value_where on b = if on then b else not b
