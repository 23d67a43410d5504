use Rattle.std.proofs.Common.{◌≡◌, ◌+◌, ℕ, List, length, take, drop, ◌++◌, ap, subst, sym, ◌∙◌, arith}
use Rattle.std.specs.Prelude.{slice_index_or}
use Rattle.net_theory.specs.declared.data.Gate.{Gate}
use Rattle.window_core.specs.Fanouts.{IsLater}
use Rattle.window_core.specs.NotingLaws.{take_prefix}
use Rattle.window_core.specs.AfterLaws.{first_from}
use Rattle.window_core.proofs.fanouts.fanouts_of.Goals as goal

pub returns : goal.returns
returns c =
    let noted = c.in_ok-note_later.ensures.first in
    let count : length c.note_later.new.first ≡ c.in_ok-first.first.len =
    omega (
      arith,
      noted.size,
      c.in_ok-first.ensures.len,
      c.sources-2.ensures.sources,
      ap (length {A = Gate}) c.gates-gates.ensures.gates,
    ) in
    let same : take c.in_ok-first.first.len (c.note_later.new.first ++ drop (length c.note_later.new.first) c.in_ok-first.first.items) ≡ c.note_later.new.first =
    take_prefix c.note_later.new.first (drop (length c.note_later.new.first) c.in_ok-first.first.items) c.in_ok-first.first.len count in
    record {
      size = c.in_ok-uses.ensures.size;
      uses = c.in_ok-uses.ensures.each;
      earlier = c.in_ok-note_gates.ensures;
      later = c.in_ok-note_later.ensures.later;
      first_size = ap (length {A = ℕ}) same ∙ noted.size;
      first = λ p low. subst (λ (xs : List ℕ). IsLater c.args.net.now (c.args.net.now.sources + 1) p
          (slice_index_or xs p 0)) (sym same) (first_from c.args.net.now p (slice_index_or c.note_later.new.first p 0)
          (noted.each p low));
    }
