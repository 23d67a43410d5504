-- Bytes that stand for a text.
use Rattle.std.proofs.Common.{◌≡◌, ℕ, ◌∙◌, true, false, List, sym}
use Rattle.std.proofs.lemmas.Bool.{cond-true, cond-false}
use Rattle.std.proofs.lemmas.Grind.{common_steps}
use Rattle.aiger_binary.specs.Ascii.{is_binary, ascii_of, ascii_in}

pub stand_for : (bytes text : List ℕ) → is_binary bytes ≡ true → is_binary text ≡ false → ascii_of bytes ≡ text →
    ascii_in bytes ≡ ascii_in text
stand_for bytes text binary other same =
    cond-true (is_binary bytes) (ascii_of bytes) bytes binary ∙ same ∙ sym (cond-false (is_binary text) (ascii_of text) text other)

pub ruleset standing = (common_steps, stand_for)
