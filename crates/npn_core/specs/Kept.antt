-- An output that an exchange keeps.
use Rattle.std.specs.Prelude.{◌≡◌, ℕ, ◌^◌, ◌<◌, Bool}
use Rattle.chain_theory.specs.Specification.{Specification}
use Rattle.npn_laws.specs.Exchange.{image, complemented_cell}

-- the output's cell on the image of the row is its cell on the row, complemented where the flag is set
abbrev pub IsKeptCell : Specification → ℕ → ℕ → ℕ → Bool → ℕ → ℕ → Type 0
IsKeptCell s p q k b h t = s.cell h (image s.inputs p q k t) ≡ complemented_cell b (s.cell h t)

-- on each row
abbrev pub IsKeptOutput : Specification → ℕ → ℕ → ℕ → Bool → ℕ → Type 0
IsKeptOutput s p q k b h = (t : ℕ) → t < 2 ^ s.inputs → IsKeptCell s p q k b h t
