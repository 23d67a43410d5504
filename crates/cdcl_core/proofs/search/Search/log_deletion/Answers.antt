use Rattle.std.proofs.Common.{◌∙◌, ◌++◌, ◌∷◌, [], ℕ, length, ap, sym}
use Rattle.sat_theory.specs.Line as theory
use Rattle.cdcl_core.proofs.Gone.{gone_some}
use Rattle.cdcl_core.proofs.search.Search.log_deletion.Goals as goal

pub returns-clause-lines : goal.returns-clause-lines
returns-clause-lines c =
    let s = c.args.self.now in
    c.in_ok-delete.ensures.ok
    ∙ ap (λ (n : ℕ). s.lines ++ theory.Delete n c.args.gone.now ∷ []) c.last.ensures.value
    ∙ sym (gone_some s.lines (length s.clauses.clauses) c.args.gone.now (sym c.is_empty.ensures ∙ c.if-is_empty.false))
