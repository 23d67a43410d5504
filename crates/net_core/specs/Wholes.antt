-- The covers of tables that are AND, OR or XOR of all their inputs.
use Rattle.std.specs.Prelude.{ℕ, ◌<◌, Bool, List}
use Rattle.std.specs.List.{list_any, list_all}
use Rattle.net_theory.specs.Cover.{Cover, IsCover, is_odd}
use Rattle.net_theory.specs.Whole.{and_cover, or_cover, xor_cover, itself}
use Rattle.net_core.specs.declared.joining.Connective.{Connective}
use Rattle.net_core.specs.declared.joining.Connective.TheVariants.{And, Or, Xor}
use Rattle.net_core.specs.declared.whole.Whole.{Whole}
use Rattle.net_core.specs.declared.whole.Body.{Body}
use Rattle.net_core.specs.declared.whole.Body.TheVariants.{Cubes, Joined}

abbrev pub joined_cover : Connective → ℕ → Bool → Cover
joined_cover And width on = and_cover width on
joined_cover Or width on = or_cover width on
joined_cover Xor width on = xor_cover width on

abbrev pub whole_cover : Whole → Cover
whole_cover w = joined_cover w.connective w.width w.on

-- the cover that a body represents
abbrev pub cover_of : Body → Cover
cover_of (Cubes c) = c
cover_of (Joined w) = whole_cover w

-- a body that joins inputs has at least one
abbrev pub JoinsSome : Body → Type 0
JoinsSome (Cubes c) = Unit {0}
JoinsSome (Joined w) = 0 < w.width

-- a cover with cubes of its width, or at least one input to join
abbrev pub IsBody : Body → Type 0
IsBody (Cubes c) = IsCover c
IsBody (Joined w) = 0 < w.width

-- AND, OR or XOR of a list of bits
abbrev pub joined_bits : Connective → List Bool → Bool
joined_bits And bits = list_all itself bits
joined_bits Or bits = list_any itself bits
joined_bits Xor bits = is_odd bits
