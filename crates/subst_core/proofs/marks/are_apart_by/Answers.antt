use Rattle.std.proofs.Common.{ℕ, Bool, ap, sym, ◌∙◌, ⊎_elim}
use Rattle.std.proofs.lemmas.Bool.{both_ways, cases_Bool}
use Rattle.net_core.specs.Marks.{set_of}
use Rattle.window_theory.specs.Nodes.{among}
use Rattle.window_theory.specs.EarlyLaws.{apart_outside, outside_apart}
use Rattle.subst_core.proofs.marks.are_apart_by.Goals as goal

pub returns-clause-yes : goal.returns-clause-yes
returns-clause-yes c = λ yes p on.
    outside_apart c.args.net.now c.args.gates.now c.args.nodes.now p c.gates-gates.ensures.net
    (λ g e. ap (λ (m : ℕ → Bool). m g) (sym c.mark_early.ensures) ∙ c.are_unmarked.ensures.yes yes g e) on

pub returns-clause-no : goal.returns-clause-no
returns-clause-no c = λ apart.
    c.are_unmarked.ensures.no (λ g e. ⊎_elim
    (λ on. absurd (both_ways (among c.args.gates.now g) (apart_outside c.args.net.now c.args.gates.now c.args.nodes.now g apart (ap (λ (m : ℕ → Bool). m g) (sym c.mark_early.ensures) ∙ on)) e))
    (λ off. off)
    (cases_Bool (set_of c.mark_early.new.marks g)))
