use Rattle.std.proofs.Common.{◌≡◌, ◌-◌, ◌∙◌, [], ap, sym, arith, true, false}
use Rattle.net_theory.specs.Document.{has}
use Rattle.net_theory.specs.Naming.{numbered, free_names, first_free, rest_free}
use Rattle.net_core.proofs.NamingLemmas.{free_names-taken, free_names-free, free_names-none}
use Rattle.net_core.proofs.naming.next_free.Goals as goal

pub returns-then-not-is_taken-clause-first : goal.returns-then-not-is_taken-clause-first
returns-then-not-is_taken-clause-first c =
    let free : has c.args.taken.now.keys (numbered c.loop-number.number) ≡ false = sym (c.if-not-is_taken.ensures ∙ ap (has c.args.taken.now.keys) c.in_ok-name.ensures) in
    c.in_ok-name.ensures ∙ ap first_free (sym (free_names-free c.args.taken.now.keys c.loop-number.number c.args.end (omega arith) free) ∙ c.loop-number.invariant)

pub returns-then-not-is_taken-clause-rest : goal.returns-then-not-is_taken-clause-rest
returns-then-not-is_taken-clause-rest c =
    let free : has c.args.taken.now.keys (numbered c.loop-number.number) ≡ false = sym (c.if-not-is_taken.ensures ∙ ap (has c.args.taken.now.keys) c.in_ok-name.ensures) in
    ap rest_free (sym (free_names-free c.args.taken.now.keys c.loop-number.number c.args.end (omega arith) free) ∙ c.loop-number.invariant)

pub loop-number-preserved : goal.loop-number-preserved
loop-number-preserved c =
    let taken : has c.args.taken.now.keys (numbered c.loop-number.number) ≡ true = sym (c.if-not-is_taken.ensures ∙ ap (has c.args.taken.now.keys) c.in_ok-name.ensures) in
    free_names-taken c.args.taken.now.keys c.loop-number.number c.args.end (omega arith) taken ∙ c.loop-number.invariant

pub returns-clause-first : goal.returns-clause-first
returns-clause-first c =
    let none : free_names c.args.taken.now.keys c.args.next (c.args.end - c.args.next) ≡ [] =
    sym c.loop-number.invariant ∙ free_names-none c.args.taken.now.keys c.loop-number.number c.args.end
    (omega arith) in
    rw none (c.new-2.ensures ∙ c.new.ensures.items)

pub returns-clause-rest : goal.returns-clause-rest
returns-clause-rest c =
    let none : free_names c.args.taken.now.keys c.args.next (c.args.end - c.args.next) ≡ [] =
    sym c.loop-number.invariant ∙ free_names-none c.args.taken.now.keys c.loop-number.number c.args.end
    (omega arith) in
    rw none (free_names-none c.args.taken.now.keys c.args.end c.args.end (omega arith))
