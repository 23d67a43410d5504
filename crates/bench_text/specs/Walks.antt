-- The results of loops over a line, as values of the definitions.
use Rattle.std.specs.Prelude.{ℕ, List, [], ◌∷◌, Option, Some, None}
use Rattle.std.specs.Borrow.{Bor}
use Rattle.bench_text.specs.Items.{items_of}

-- the items of a result: the first one, then those of the rest
abbrev pub items_in : Option (Bor (List ℕ) × Bor (List ℕ)) → List (List ℕ)
items_in None = []
items_in (Some x) = x.0.now ∷ items_of x.1.now
