-- The searches are the comparisons.
use Rattle.std.proofs.Common.{◌∙◌, ap, Option, Some, None, ℕ}
use Rattle.op_basis.specs.Basis.{members}
use Rattle.tt_core.specs.Words.{specification}
use Rattle.cert_theory.specs.Difference.{difference_of}
use Rattle.cert_theory.specs.Judging.{or_outside, or_differs, chain_judged}
use Rattle.cert_laws.specs.DifferenceLaws.{outside_is, difference_is}
use Rattle.cert_file.proofs.trailer.chain_judged.Goals as goal

pub returns-in-Some : goal.returns-in-Some
unfolding chain_judged
returns-in-Some c =
    ap (λ (x : Option ℕ). or_outside x (or_differs
    (difference_of c.args.chain.now (specification c.args.header.now.spec))))
    (outside_is (members c.args.header.now.basis) c.args.chain.now (Some c.in-Some.place) c.in-Some.ensures)

pub returns-in-Some-first_difference : goal.returns-in-Some-first_difference
unfolding chain_judged
returns-in-Some-first_difference c =
    ap (λ (x : Option ℕ). or_outside x (or_differs
    (difference_of c.args.chain.now (specification c.args.header.now.spec))))
    (outside_is (members c.args.header.now.basis) c.args.chain.now None c.in_default.ensures)
    ∙ ap or_differs (difference_is c.args.chain.now (specification c.args.header.now.spec)
    (Some (c.in-Some-first_difference.output, c.in-Some-first_difference.row)) c.requires.inputs c.requires.outputs
    c.in-Some-first_difference.ensures)

pub returns : goal.returns
unfolding chain_judged
returns c =
    ap (λ (x : Option ℕ). or_outside x (or_differs
    (difference_of c.args.chain.now (specification c.args.header.now.spec))))
    (outside_is (members c.args.header.now.basis) c.args.chain.now None c.in_default.ensures)
    ∙ ap or_differs (difference_is c.args.chain.now (specification c.args.header.now.spec) None c.requires.inputs c.requires.outputs c.in_default-first_difference.ensures)
