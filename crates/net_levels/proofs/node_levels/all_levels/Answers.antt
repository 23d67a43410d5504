use Rattle.std.proofs.Common.{ℕ, ◌+◌, ◌≤◌, ◌∙◌, List, arith, ap, subst, sym}
use Rattle.net_theory.specs.declared.data.Gate.{Gate}
use Rattle.net_levels.specs.Levels.{levels_after}
use Rattle.net_levels.specs.LevelRows.{row_levels}
use Rattle.net_levels.proofs.LevelRuns.{nothing_yet, nothing_is_high, lent_row}
use Rattle.net_levels.proofs.node_levels.all_levels.Goals as goal

pub levels_into-requires-clause-low : goal.levels_into-requires-clause-low
levels_into-requires-clause-low c = λ p.
    subst (λ (row : List ℕ). row_levels row p ≤ c.sources.result + 1)
    (sym (c.deref_mut.ensures.value ∙ c.in_ok-levels.ensures.items_if_clones_equal (λ y e. e)))
    (nothing_is_high _ (c.sources.result + 1) p)

pub returns : goal.returns
returns c =
    lent_row c.levels_into.new.levels c.in_ok-levels.levels.items c.in_ok-levels.levels.len
    (omega (arith, c.levels_into.auto.levels, c.deref_mut.ensures.len))
    ∙ c.levels_into.ensures
    ∙ ap (λ (row : List ℕ). levels_after (row_levels row) (c.sources.result + 1) c.gates-gates.result.now)
    (c.deref_mut.ensures.value ∙ c.in_ok-levels.ensures.items_if_clones_equal (λ y e. e))
    ∙ ap (λ (f : ℕ → ℕ). levels_after f (c.sources.result + 1) c.gates-gates.result.now) (nothing_yet _)
    ∙ ap (λ (gs : List Gate). levels_after (λ (p : ℕ). 0) (c.sources.result + 1) gs) c.gates-gates.ensures.gates
    ∙ ap (λ (s : ℕ). levels_after (λ (p : ℕ). 0) (s + 1) c.args.net.now.gates) c.sources.ensures.sources
