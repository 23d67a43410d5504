use Rattle.std.proofs.Common.{◌≡◌, ◌+◌, ◌≤◌, ◌∙◌, ℤ, List, ◌∷◌, [], ◌++◌, length, ap, refl, rules}
use Rattle.std.proofs.lemmas.Result.{err_from_is_err_and}
use Rattle.sat_theory.specs.Formula.{variable}
use Rattle.clause_db.specs.ArenaRanges.{ArenaState}
use Rattle.clause_db.proofs.Starts.{starts_few, shown_written, are_written, are_added, shown_added, kept_added, written_twice}
use Rattle.clause_db.proofs.arena.Arena.push.Goals as goal

pub written-requires : goal.written-requires
written-requires c =
    let few : length c.self.inside.starts.items ≤ length c.self.inside.row.items = starts_few c.self.inside.row.items c.self.inside.starts.items c.self.invariant.0 in
    search rules

pub invariant_of-self-in_err-push-2 : goal.invariant_of-self-in_err-push-2
invariant_of-self-in_err-push-2 c =
    are_written c.self.inside.row.items _ (c.written.result ∷ []) c.self.inside.starts.items _ (c.in_err-push-2.ensures.items ∙ c.in_ok-push.ensures.items) refl c.self.invariant

pub returns-in_err-push-2-clause-err : goal.returns-in_err-push-2-clause-err
returns-in_err-push-2-clause-err c =
    let p = err_from_is_err_and c.from_residual-in_err-push-2.result c.from_residual-in_err-push-2.ensures.1 in
    rw p.1 (shown_written c.args.self.now c.self.inside.row.items _ (c.written.result ∷ []) c.self.inside.starts.items
    _ (c.in_err-push-2.ensures.items ∙ c.in_ok-push.ensures.items) refl c.self.invariant.0 c.self.view_is)

pub invariant_of-self-in_err-extend_from_slice : goal.invariant_of-self-in_err-extend_from_slice
invariant_of-self-in_err-extend_from_slice c =
    let row : List ℤ = c.self.inside.row.items in
    let heads : c.push-2.new.self.items ≡ row ++ c.written.result ∷ c.written-2.result ∷ [] =
    written_twice row c.push.new.self.items _ (c.written.result ∷ [])
    (c.written-2.result ∷ []) c.in_ok-push.ensures.items c.in_ok-push-2.ensures.items in
    are_written row _ (c.written.result ∷ c.written-2.result ∷ []) c.self.inside.starts.items _ (c.in_err-extend_from_slice.ensures.items ∙ heads) refl c.self.invariant

pub returns-in_err-extend_from_slice-clause-err : goal.returns-in_err-extend_from_slice-clause-err
returns-in_err-extend_from_slice-clause-err c =
    let row : List ℤ = c.self.inside.row.items in
    let p = err_from_is_err_and c.from_residual-in_err-extend_from_slice.result c.from_residual-in_err-extend_from_slice.ensures.1 in
    let heads : c.push-2.new.self.items ≡ row ++ c.written.result ∷ c.written-2.result ∷ [] =
    written_twice row c.push.new.self.items _ (c.written.result ∷ [])
    (c.written-2.result ∷ []) c.in_ok-push.ensures.items c.in_ok-push-2.ensures.items in
    rw p.1 (shown_written c.args.self.now row _ (c.written.result ∷ c.written-2.result ∷ []) c.self.inside.starts.items
    _ (c.in_err-extend_from_slice.ensures.items ∙ heads) refl c.self.invariant.0 c.self.view_is)

pub invariant_of-self-in_err-push-3 : goal.invariant_of-self-in_err-push-3
invariant_of-self-in_err-push-3 c =
    let row : List ℤ = c.self.inside.row.items in
    let heads : c.push-2.new.self.items ≡ row ++ c.written.result ∷ c.written-2.result ∷ [] =
    written_twice row c.push.new.self.items _ (c.written.result ∷ [])
    (c.written-2.result ∷ []) c.in_ok-push.ensures.items c.in_ok-push-2.ensures.items in
    let written : c.extend_from_slice.new.self.items ≡ row ++
    (c.written.result ∷ c.written-2.result ∷ [] ++ c.args.lits.now) =
    written_twice row c.push-2.new.self.items _ (c.written.result ∷ c.written-2.result ∷ []) c.args.lits.now heads
    c.in_ok-extend_from_slice.ensures.items in
    are_written row _ _ c.self.inside.starts.items _ written c.in_err-push-3.ensures.items c.self.invariant

pub returns-in_err-push-3-clause-err : goal.returns-in_err-push-3-clause-err
returns-in_err-push-3-clause-err c =
    let row : List ℤ = c.self.inside.row.items in
    let p = err_from_is_err_and c.from_residual-in_err-push-3.result c.from_residual-in_err-push-3.ensures.1 in
    let heads : c.push-2.new.self.items ≡ row ++ c.written.result ∷ c.written-2.result ∷ [] =
    written_twice row c.push.new.self.items _ (c.written.result ∷ [])
    (c.written-2.result ∷ []) c.in_ok-push.ensures.items c.in_ok-push-2.ensures.items in
    let written : c.extend_from_slice.new.self.items ≡ row ++
    (c.written.result ∷ c.written-2.result ∷ [] ++ c.args.lits.now) =
    written_twice row c.push-2.new.self.items _ (c.written.result ∷ c.written-2.result ∷ []) c.args.lits.now heads
    c.in_ok-extend_from_slice.ensures.items in
    rw (p.1, p.2) (shown_written c.args.self.now row _ _ c.self.inside.starts.items _ written c.in_err-push-3.ensures.items c.self.invariant.0 c.self.view_is)

pub invariant_of-self-2 : goal.invariant_of-self-2
invariant_of-self-2 c =
    let row : List ℤ = c.self.inside.row.items in
    let start : c.len-start.result + 2 ≡ length row + 2 = search rules in
    let id : variable c.written.result ≡ length c.self.inside.starts.items + 1 + 1 = search rules in
    let count : variable c.written-2.result ≡ length c.args.lits.now + 1 = search rules in
    let heads : c.push-2.new.self.items ≡ row ++ c.written.result ∷ c.written-2.result ∷ [] =
    written_twice row c.push.new.self.items _ (c.written.result ∷ [])
    (c.written-2.result ∷ []) c.in_ok-push.ensures.items c.in_ok-push-2.ensures.items in
    are_added row _ c.args.lits.now c.written.result c.written-2.result c.self.inside.starts.items _ _
    (c.in_ok-extend_from_slice.ensures.items ∙ ap (λ xs. xs ++ c.args.lits.now) heads) c.in_ok-push-3.ensures.items
    id count start c.self.invariant

pub returns-clause-ok : goal.returns-clause-ok
returns-clause-ok c =
    let row : List ℤ = c.self.inside.row.items in
    let start : c.len-start.result + 2 ≡ length row + 2 = search rules in
    let count : variable c.written-2.result ≡ length c.args.lits.now + 1 = search rules in
    let heads : c.push-2.new.self.items ≡ row ++ c.written.result ∷ c.written-2.result ∷ [] =
    written_twice row c.push.new.self.items _ (c.written.result ∷ [])
    (c.written-2.result ∷ []) c.in_ok-push.ensures.items c.in_ok-push-2.ensures.items in
    shown_added c.args.self.now.lists row _ c.args.lits.now c.written.result c.written-2.result
    c.self.inside.starts.items _ _ (ap (λ (b : ArenaState). b.lists) c.self.view_is)
    (c.in_ok-extend_from_slice.ensures.items ∙ ap (λ xs. xs ++ c.args.lits.now) heads) c.in_ok-push-3.ensures.items
    count start c.self.invariant.0

pub returns-clause-kept : goal.returns-clause-kept
returns-clause-kept c = kept_added c.args.self.now _ c.self.inside.row.items _ c.self.inside.starts.items _ _ c.self.view_is refl c.in_ok-push-3.ensures.items
