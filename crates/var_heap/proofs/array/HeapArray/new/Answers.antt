use Rattle.std.proofs.Common.{◌≡◌, ℕ, List, ◌+◌, length, replicate, refl, ap, ◌∙◌, arith, rules}
use Rattle.std.proofs.lemmas.Grind.{common_steps}
use Rattle.var_heap.specs.Entries.{entry}
use Rattle.var_heap.proofs.Filling.{empty_row, zero_entry}
use Rattle.var_heap.proofs.array.HeapArray.new.Goals as goal

pub loop-before-init : goal.loop-before-init
loop-before-init c =
    let places : c.in_ok-vec-2.field-0.items ≡ replicate (c.args.vars + 1) 0 = search rules in
    let heap : c.in_ok-vec.field-0.items ≡ replicate (c.args.vars + 2) 0 = search rules in
    record {
      array = empty_row _ c.args.vars refl heap places c.ranges.vars.fits;
      room = ap length places ∙ grind (arith, common_steps);
      len = refl;
      held = λ v low. (ap (λ (xs : List ℕ). entry xs v) places ∙ zero_entry (c.args.vars + 1) v ∙ omega (arith, low));
      free = λ v some. ap (λ (xs : List ℕ). entry xs v) places ∙ zero_entry (c.args.vars + 1) v;
    }
