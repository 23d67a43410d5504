-- The rest of a list after an item.
use Rattle.std.specs.Prelude.{ℕ, ◌+◌, List, [], length, Option, Some, None}
use Rattle.std.specs.Borrow.{Bor}
use Rattle.op_basis.specs.Text.{items_of}

-- the items that are left; none where the list ended with the item
abbrev pub items_left : Option (Bor (List ℕ)) → List (List ℕ)
items_left None = []
items_left (Some text) = items_of text.now

-- a measure that falls with each item: 0 where the list ended, else 1 + the length of the rest
abbrev pub size_left : Option (Bor (List ℕ)) → ℕ
size_left None = 0
size_left (Some text) = length text.now + 1
