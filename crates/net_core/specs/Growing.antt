-- Appending gates: the records of the definitions, from the lists in the code.
use Rattle.std.specs.Prelude.{◌≡◌, ℕ, Bool, List, length}
use Rattle.std.proofs.Common.{take}
use Rattle.net_theory.specs.declared.data.Sig.{Sig}
use Rattle.net_theory.specs.declared.data.Gate.{Gate}
use Rattle.net_theory.specs.declared.data.Signed.{Signed}
use Rattle.net_theory.specs.Expansion.{Built, Joined, Terms, and_word, or_word, xor_word}
use Rattle.net_core.specs.declared.joining.Connective.{Connective}
use Rattle.net_core.specs.declared.joining.Connective.TheVariants.{And, Or, Xor}

abbrev pub built : List Gate → Sig → Built
built gates sig = record { gates = gates; sig = sig }

abbrev pub joint : List Gate → Signed → Joined
joint gates out = record { gates = gates; out = out }

abbrev pub terms : List Gate → List Signed → Terms
terms gates outs = record { gates = gates; outs = outs }

-- the operators of AND, OR and XOR, by the polarities of the operands
abbrev pub word_of : Connective → Bool → Bool → ℕ
word_of And = and_word
word_of Or = or_word
word_of Xor = xor_word

-- `old` is a prefix of `new`
pub record IsPrefixOfGates (old new : List Gate) : Type 0 where
  pub same : take (length old) new ≡ old
