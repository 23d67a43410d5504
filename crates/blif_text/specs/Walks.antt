-- The results of loops over a text, as values of the definitions.
use Rattle.std.specs.Prelude.{ℕ, List, [], ◌∷◌, Option, Some, None}
use Rattle.std.specs.Borrow.{Bor}
use Rattle.blif_text.specs.Logical.{Logical, logical_of}
use Rattle.blif_text.specs.Words.{words_of}

-- the logical lines of a result: the first one, then those of the rest
abbrev pub logical_in : Option (Logical × ℕ × Bor (List ℕ)) → List Logical
logical_in None = []
logical_in (Some x) = x.0 ∷ logical_of x.1 x.2.now

-- the words of a result: the first one, then those of the rest
abbrev pub words_in : Option (Bor (List ℕ) × Bor (List ℕ)) → List (List ℕ)
words_in None = []
words_in (Some x) = x.0.now ∷ words_of x.1.now
