-- Covers: sums of products (SOPs) as lists of cubes (the Berkeley BLIF manual), and parities, which have no
-- short SOP.
use Rattle.std.specs.Prelude.{◌≡◌, ℕ, Bool, true, false, not, ◌&&◌, ◌||◌, ◌==◌, if◌then◌else◌, List, [], ◌∷◌, length}
use Rattle.std.specs.Prelude.{All}
use Rattle.std.specs.List.{list_any, list_all}

-- A cube has one byte for each input, in order: `0`, `1` or `-`. The cubes describe the on-set if `on` is
-- true, else the off-set. A parity has no cubes: it is XOR of its inputs if `on` is true, else XNOR.
-- Examples: `1-0 1` is the cube 49 45 48 of a cover with on = true. XOR is a parity with on = true.
pub record Cover : Type 0 where
  pub width : ℕ
  pub cubes : List (List ℕ)
  pub on : Bool
  pub parity : Bool

-- whether a byte is `0`, `1` or `-`
abbrev pub is_cube_byte : ℕ → Bool
is_cube_byte b = b == 48 || b == 49 || b == 45

-- whether a list of bytes is a cube of `width` inputs
abbrev pub is_cube : ℕ → List ℕ → Bool
is_cube width cube = length cube == width && list_all is_cube_byte cube

pub record IsCover (c : Cover) : Type 0 where
  pub cubes : All (λ cube. is_cube c.width cube ≡ true) c.cubes
  pub parity : c.parity ≡ true → c.cubes ≡ []

-- `1` requires the bit 1, `0` the bit 0, and `-` matches both
abbrev pub is_asked : ℕ → Bool → Bool
is_asked byte bit = if byte == 49 then bit else (if byte == 48 then not bit else true)

-- whether a cube covers a minterm: each byte matches its bit
-- Example: 1-0 matches 100 and 110 and nothing else.
unfoldable pub matches : List ℕ → List Bool → Bool
matches [] bits = true
matches (c ∷ cube) [] = true
matches (c ∷ cube) (b ∷ bits) = is_asked c b && matches cube bits

-- whether some cube of a list covers the minterm
abbrev pub is_matched : List (List ℕ) → List Bool → Bool
is_matched cubes bits = list_any (λ cube. matches cube bits) cubes

abbrev pub value_by : Bool → List (List ℕ) → List Bool → Bool
value_by on [] bits = false
value_by true (c ∷ cubes) bits = is_matched (c ∷ cubes) bits
value_by false (c ∷ cubes) bits = not (is_matched (c ∷ cubes) bits)

-- whether an odd number of the bits is 1
abbrev pub is_odd : List Bool → Bool
is_odd [] = false
is_odd (b ∷ bits) = if b then not (is_odd bits) else is_odd bits

abbrev pub parity_value : Bool → List Bool → Bool
parity_value on bits = if on then is_odd bits else not (is_odd bits)

-- The value of a cover at a minterm. If `on` is true it is 1 exactly on the minterms that some cube covers;
-- if `on` is false it is 0 exactly there. A cover without cubes is 0, unless it is a parity.
-- Example: `00 0` over two inputs is OR.
unfoldable pub cover_value : Cover → List Bool → Bool
cover_value c bits = if c.parity then parity_value c.on bits else value_by c.on c.cubes bits
