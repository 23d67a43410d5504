-- The limits of lines and words of a netlist.
use Rattle.std.specs.Prelude.{ℕ, Bool, nat_lt, List, length}
use Rattle.net_theory.specs.Limits.{most_name_bytes, most_line_bytes}

-- a line of this length is too long; its CR and its comment are counted, its LF isn't
abbrev pub is_long_line : ℕ → Bool
is_long_line size = nat_lt most_line_bytes size

-- a word is too long, whether or not it is a name
abbrev pub is_long_word : List ℕ → Bool
is_long_word word = nat_lt most_name_bytes (length word)
