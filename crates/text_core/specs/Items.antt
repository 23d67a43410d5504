-- The items of a line: what is between its blanks.
use Rattle.std.specs.Prelude.{ℕ, ◌+◌, List, [], ◌∷◌, ◌++◌, length, Option, Some, None, ◌==◌, if◌then◌else◌}
use Rattle.std.specs.Borrow.{Bor}

-- the first item, and the others
pub record Split : Type 0 where
  pub first : List ℕ
  pub more : List (List ℕ)

-- the items of an unfinished item, which has no blank (byte 32), followed by a text
unfoldable pub split_from : List ℕ → List ℕ → Split
split_from prefix [] = record { first = prefix; more = [] }
split_from prefix (b ∷ bs) = if b == 32 then record {
  first = prefix;
  more = (split_from [] bs).first ∷ (split_from [] bs).more;
} else split_from (prefix ++ b ∷ []) bs

-- the items of a text, one more than it has blanks: between two adjacent blanks there is an empty
-- item
abbrev pub items_of : List ℕ → List (List ℕ)
items_of text = (split_from [] text).first ∷ (split_from [] text).more

-- the items of the text after an item; there are none if the text ended with that item
abbrev pub items_left : Option (Bor (List ℕ)) → List (List ℕ)
items_left None = []
items_left (Some text) = items_of text.now

-- the termination measure of reading items: 0 at the end of the text; each item takes at least one byte
abbrev pub size_left : Option (Bor (List ℕ)) → ℕ
size_left None = 0
size_left (Some text) = length text.now + 1
