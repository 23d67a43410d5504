use Rattle.std.proofs.Common.{◌≡◌, ◌++◌, length}
use Rattle.cert_text.specs.Texts.{sections_text}
use Rattle.cert_text.proofs.whole.push_sections.Given as goal

abbrev pub invariant-loop-section : goal.invariant-loop-section
invariant-loop-section l = l.text.items ++ sections_text l.left ≡ l.initial.text.items ++ sections_text l.sections

abbrev pub decreases-loop-section : goal.decreases-loop-section
decreases-loop-section l = length l.left
