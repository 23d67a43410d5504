use Rattle.std.proofs.Common.{◌≡◌, ◌≤◌, length}
use Rattle.text_core.specs.Numbers.{number_from}
use Rattle.lrat_text.specs.Numerals.{first_of, after_first}
use Rattle.lrat_text.proofs.numbers.digits.Given as goal

abbrev pub invariant-loop-byte : goal.invariant-loop-byte
invariant-loop-byte l = record {
  number : number_from l.limit l.value (first_of l.left) ≡ number_from l.limit 0 (first_of l.text);
  after : after_first l.left ≡ after_first l.text;
  within : l.value ≤ l.limit;
  shorter : length l.left ≤ length l.text;
}

abbrev pub decreases-loop-byte : goal.decreases-loop-byte
decreases-loop-byte l = length l.left
