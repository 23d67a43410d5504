use Rattle.std.proofs.Common.{ℕ, List, [], ◌∷◌, ap, ◌∙◌, sym, take, slice_index_or, Option, ℤ}
use Rattle.std.proofs.lemmas.List.{take_more}
use Rattle.sat_theory.specs.State.{without}
use Rattle.lrat_check.specs.Live.{live_at}
use Rattle.lrat_check.proofs.Kept.{without-push}
use Rattle.lrat_check.proofs.checker.remove_all.Goals as goal

pub loop-id-preserved : goal.loop-id-preserved
loop-id-preserved c =
    let ids : List ℕ = c.args.ids.now in
    let i : ℕ = c.loop-id.id-index in
    let live : ℕ → Option (List ℤ) = live_at c.args.clauses.now in
    c.remove.ensures
    ∙ ap (λ (f : ℕ → Option (List ℤ)). without f (slice_index_or ids i 0 ∷ [])) c.loop-id.invariant
    ∙ without-push live (take i ids) (slice_index_or ids i 0)
    ∙ ap (without live) (sym (take_more ids i 0 c.loop-id-test.true))
