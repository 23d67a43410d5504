-- Pieces of bytes in memory.
use Rattle.std.proofs.Common.{◌≡◌, ℕ, ◌+◌, List, ◌++◌, take, drop, drop-drop, sym, ap, ◌∙◌}
use Rattle.std.proofs.lemmas.List.{take-append-drop}

-- A piece of the rest, and then what is left, is the rest.
pub piece_taken : (bytes : List ℕ) (at count : ℕ) → take count (drop at bytes) ++ drop (at + count) bytes ≡ drop at bytes
piece_taken bytes at count = ap (λ rest. take count (drop at bytes) ++ rest) (sym (drop-drop count at bytes)) ∙ take-append-drop count (drop at bytes)
