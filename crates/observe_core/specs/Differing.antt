-- The assignments of a fanin cone's leaves under which the fanout cone's outputs depend on the bits that the
-- window's outputs are forced to.
use Rattle.std.specs.Prelude.{◌≡◌, ℕ, ◌+◌, ◌*◌, ◌≤◌, ◌<◌, ◌^◌, Bool, true, false, List, ◌++◌, length, slice_get, slice_index_or, Some, ◌⊎◌}
use Rattle.chain_theory.specs.Operator.{digit}
use Rattle.net_theory.specs.Net.{Net}
use Rattle.lane_sim.specs.Cone.{Cone}
use Rattle.lane_sim.specs.Words.{Words, AreWords}
use Rattle.window_theory.specs.Nodes.{among}
use Rattle.window_theory.specs.Care.{values_with, HasRow}
use Rattle.observe_core.specs.Putting.{IsPutCone}

-- ---- words

-- bit t of a word of a list
abbrev pub bit_in : List ℕ → ℕ → ℕ → Bool
bit_in words j t = digit (slice_index_or words j 0) t

-- The first `count` words were ORed with the bits in which two rows differ.
pub record IsDifferenceAdded (first second : List ℕ) (start count : ℕ) (old new : List ℕ) : Type 0 where
  pub size : length new ≡ length old
  pub later : (j : ℕ) → count ≤ j → slice_index_or new j 0 ≡ slice_index_or old j 0
  pub only : (j t : ℕ) → j < count → bit_in new j t ≡ true → (bit_in old j t ≡ true) ⊎ (bit_in first (start + j) t ≡ bit_in second (start + j) t → ⊥)
  pub none : (j t : ℕ) → j < count → bit_in new j t ≡ false → (bit_in old j t ≡ false) × (bit_in first (start + j) t ≡ bit_in second (start + j) t)

-- the rows of some output of the fanout cone differ in a bit
pub record RowsDiffer (first second : List ℕ) (start width : ℕ) (fanout_cone cone_outputs : List ℕ) (j t : ℕ) : Type 0 where
  pub index : ℕ
  pub node : ℕ
  pub at : slice_get fanout_cone index ≡ Some node
  pub cone_output : among cone_outputs node ≡ true
  pub differ : bit_in first ((start + index) * width + j) t ≡ bit_in second ((start + index) * width + j) t → ⊥

-- The words were ORed with the bits in which the rows of the fanout cone's outputs differ, for those among
-- its first `count` gates.
pub record AreAdded (first second : List ℕ) (start : ℕ) (fanout_cone cone_outputs : List ℕ) (count : ℕ) (old new : List ℕ) : Type 0 where
  pub size : length new ≡ length old
  pub only : (j t : ℕ) → j < length old → bit_in new j t ≡ true → (bit_in old j t ≡ true) ⊎ RowsDiffer first second start (length old) fanout_cone cone_outputs j t
  pub none : (j t : ℕ) → j < length old → bit_in new j t ≡ false → (bit_in old j t ≡ false) ×
      ((k p : ℕ) → k < count → slice_get fanout_cone k ≡ Some p → among cone_outputs p ≡ true →
      bit_in first ((start + k) * length old + j) t ≡ bit_in second ((start + k) * length old + j) t)

-- ---- values

-- the values where the leaves and the outputs have given bits
abbrev pub put_bits : Net → List ℕ → List ℕ → (ℕ → Bool) → ℕ → Bool
put_bits n leaves outputs = values_with n (among (leaves ++ outputs))

-- Under an assignment of the leaves some output of the fanout cone has two values.
pub record IsDistinguished (n : Net) (leaves outputs cone_outputs : List ℕ) (row : ℕ) : Type 0 where
  pub one : ℕ → Bool
  pub other : ℕ → Bool
  pub node : ℕ
  pub one_row : HasRow one leaves row
  pub other_row : HasRow other leaves row
  pub cone_output : among cone_outputs node ≡ true
  pub differ : put_bits n leaves outputs one node ≡ put_bits n leaves outputs other node → ⊥

-- words of both cones, with the outputs forced to the bits
pub record ArePutWords (n : Net) (outputs : List ℕ) (bits : ℕ) (fanin_cone : Cone) (fanout_cone : List ℕ) (words : Words) : Type 0 where
  pub cone : Cone
  pub is : IsPutCone n outputs bits fanin_cone fanout_cone cone
  pub are : AreWords cone words

-- The bits of the words are the assignments that distinguish some value below `count` of the window's outputs
-- from 0.
pub record AreDistinguished (n : Net) (outputs : List ℕ) (fanin_cone : Cone) (cone_outputs : List ℕ) (count : ℕ) (differ : List ℕ) : Type 0 where
  pub only : (j t : ℕ) → j < length differ → t < 64 → 64 * j + t < 2 ^ length fanin_cone.leaves → bit_in differ j t ≡ true → IsDistinguished n fanin_cone.leaves outputs cone_outputs (64 * j + t)
  pub none : (j t b p : ℕ) (f g : ℕ → Bool) → j < length differ → t < 64 → 64 * j + t < 2 ^ length fanin_cone.leaves →
      bit_in differ j t ≡ false → b < count → HasRow f fanin_cone.leaves (64 * j + t) →
      HasRow g fanin_cone.leaves (64 * j + t) → HasRow f outputs 0 → HasRow g outputs b → among cone_outputs p ≡ true →
      put_bits n fanin_cone.leaves outputs f p ≡ put_bits n fanin_cone.leaves outputs g p

-- The bits of the words are exactly the assignments that distinguish two values of the window's outputs.
pub record AreDistinguishing (n : Net) (leaves outputs cone_outputs : List ℕ) (differ : List ℕ) : Type 0 where
  pub only : (j t : ℕ) → j < length differ → t < 64 → 64 * j + t < 2 ^ length leaves → bit_in differ j t ≡ true → IsDistinguished n leaves outputs cone_outputs (64 * j + t)
  pub none : (j t p : ℕ) (f g : ℕ → Bool) → j < length differ → t < 64 → 64 * j + t < 2 ^ length leaves →
      bit_in differ j t ≡ false → HasRow f leaves (64 * j + t) → HasRow g leaves (64 * j + t) →
      among cone_outputs p ≡ true → put_bits n leaves outputs f p ≡ put_bits n leaves outputs g p
