-- The edges of tables: pairs of rows that differ in one input, with an output that has to differ there.
use Rattle.std.specs.Prelude.{ℕ, ◌+◌, ◌-◌, ◌^◌, Bool, true, false, not, ◌&&◌, ◌||◌, ◌==◌, nat_lt, List, [], ◌∷◌, length, if◌then◌else◌}
use Rattle.std.specs.List.{range_with_len, flat_map, list_all, list_any}
use Rattle.chain_theory.specs.Specification.{input}
use Rattle.chain_theory.specs.declared.data.Cell.{Cell}
use Rattle.chain_theory.specs.declared.data.Cell.TheVariants.{Zero, One}
use Rattle.tt_core.specs.Words.{Words, cell_of}
use Rattle.strong_theory.specs.declared.data.Edge.{Edge}

abbrev pub edge : ℕ → ℕ → ℕ → Edge
edge j low high = record { input = j; low = low; high = high }

-- input p is j, or has one bit on both rows
unfoldable pub same_at : ℕ → ℕ → ℕ → ℕ → ℕ → Bool
same_at n j a b p = p == j || (if input n a p then input n b p else not (input n b p))

-- The rows a and b of n inputs agree but for input j, which they may have in common too.
-- Example: of three inputs, the rows 1 and 5 agree but for input 1.
unfoldable pub agree_but : ℕ → ℕ → ℕ → ℕ → Bool
agree_but n j a b = list_all (same_at n j a b) (range_with_len 1 n)

-- one cell is 0 and the other is 1
abbrev pub opposite : Cell → Cell → Bool
opposite Zero One = true
opposite One Zero = true
opposite _ _ = false

-- output h has to differ on the two rows
unfoldable pub output_differs : Words → ℕ → ℕ → ℕ → Bool
output_differs w a b h = opposite (cell_of w h a) (cell_of w h b)

unfoldable pub some_output_differs : Words → ℕ → ℕ → Bool
some_output_differs w a b = list_any (output_differs w a b) (range_with_len 1 (length w.on))

unfoldable pub is_edge : Words → ℕ → ℕ → ℕ → Bool
is_edge w j a b = nat_lt b (2 ^ w.n) && (agree_but w.n j a b && some_output_differs w a b)

-- Row t with the weight of input j added: where it is 0 on row t, this is the row with 1 in its place, and else the
-- sum is no row or differs in further inputs.
abbrev pub raised : ℕ → ℕ → ℕ → ℕ
raised n j t = t + 2 ^ (n - j)

unfoldable pub edge_at : Words → ℕ → ℕ → List Edge
edge_at w j t = if is_edge w j t (raised w.n j t) then edge j t (raised w.n j t) ∷ [] else []

unfoldable pub edges_along : Words → ℕ → List Edge
edges_along w j = flat_map (edge_at w j) (range_with_len 0 (2 ^ w.n))

-- The edges, by rising inputs, and those of an input by rising rows.
-- Example: AND of two inputs has those from row 1 to row 3 (input 1) and from row 2 to row 3 (input 2).
unfoldable pub edges : Words → List Edge
edges w = flat_map (edges_along w) (range_with_len 1 w.n)
