-- Characters of bits, one after the other.
use Rattle.std.proofs.Common.{◌≡◌, Bool, List, [], ◌∷◌, length, refl, arith}
use Rattle.std.proofs.lemmas.Grind.{common_steps}
use Rattle.equiv_run.specs.Texts.{character, characters, bits_text}

pub characters_none : characters [] ≡ []
unfolding characters
characters_none = refl

pub characters_more : (b : Bool) (bs : List Bool) → characters (b ∷ bs) ≡ character b ∷ characters bs
unfolding characters
characters_more b bs = refl

pub ruleset bits = (common_steps, characters_none, characters_more)

pub no_bits : (bits : List Bool) → length bits ≡ 0 → bits_text bits ≡ 45 ∷ []
unfolding bits_text
no_bits [] none = refl
no_bits (b ∷ bs) none = absurd (omega arith)

pub some_bits : (bits : List Bool) → (length bits ≡ 0 → ⊥) → bits_text bits ≡ characters bits
unfolding bits_text
some_bits [] some = absurd (some refl)
some_bits (b ∷ bs) some = refl
