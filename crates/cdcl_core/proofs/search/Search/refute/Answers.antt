use Rattle.std.proofs.Common.{◌∙◌, ◌++◌, ◌∷◌, [], ◌<◌, ℕ, List, ap, arith}
use Rattle.sat_theory.specs.Line as theory
use Rattle.cdcl_core.proofs.Logging.{log_refuted, log_reaches}
use Rattle.cdcl_core.proofs.search.Search.refute.Goals as goal

pub returns-clause-refuted : goal.returns-clause-refuted
returns-clause-refuted c = λ f logged.
    let s = c.args.self.now in
    let few : s.trail.vars < 1000000000 = c.requires.searching.layered.whole.few in
    let small : s.clauses.vars < 1000000000 = omega (arith, few, c.requires.searching.vars) in
    let lines_are = c.in_ok-add.ensures.ok ∙ ap (λ (xs : List ℕ). s.lines ++ theory.Add c.in_ok-id.id [] xs ∷ []) c.deref.ensures.value in
    record {
      accounted = record {
        log = rw (c.in_ok-id.ensures.ok, lines_are)
            (log_refuted f s.clauses s.lines c.in_ok-id.id c.in_ok-hints.hints.items s.deleted s.least logged.log
            c.requires.searching.stored small c.in_ok-id.ensures.id c.in_ok-hints.ensures.hints);
        given = logged.given;
      };
      reaches = rw lines_are (log_reaches f s.lines c.in_ok-id.id c.in_ok-hints.hints.items);
    }
