use Rattle.std.proofs.Common.{sym, arith}
use Rattle.equiv_run.specs.SmallLaws.{small_circuit}
use Rattle.equiv_run.specs.PairLaws.{answer_of, error_other, error_second}
use Rattle.equiv_run.proofs.reading.compare_texts.Goals as goal

pub compare_circuits-requires-clause-small : goal.compare_circuits-requires-clause-small
compare_circuits-requires-clause-small g c = small_circuit _ c.in_ok-first.first
    (omega (arith, c.split_at.ensures.front_len, c.in-Some.ensures.within, c.requires.small))
    c.in_ok-first.ensures.circuit

pub compare_circuits-requires-clause-other : goal.compare_circuits-requires-clause-other
compare_circuits-requires-clause-other g c = small_circuit _ c.in_ok-second.second
    (omega (arith, c.split_at.ensures.back_len, c.in-Some.ensures.within, c.requires.small))
    c.in_ok-second.ensures.circuit

pub returns-clause-answer : goal.returns-clause-answer
returns-clause-answer g c =
    answer_of c.args.conflicts c.args.bytes.now c.in-Some.place c.in_ok-first.first c.in_ok-second.second _ _ (sym c.in-Some.ensures.exact)
    (rw c.split_at.ensures.front at c.in_ok-first.ensures.circuit) (rw c.split_at.ensures.back at c.in_ok-second.ensures.circuit) c.in_ok-compared.ensures.reported

pub returns-in_err-compared-clause-refused : goal.returns-in_err-compared-clause-refused
returns-in_err-compared-clause-refused g c =
    error_other c.args.bytes.now c.in-Some.place c.in_ok-first.first c.in_ok-second.second
    c.from_residual-in_err-compared.result c.in_err-compared.field-0.0 c.from_residual-in_err-compared.ensures.1
    (sym c.in-Some.ensures.exact)
    (rw c.split_at.ensures.front at c.in_ok-first.ensures.circuit) (rw c.split_at.ensures.back at c.in_ok-second.ensures.circuit) c.in_err-compared.ensures.refused

pub returns-in_err-second-clause-refused : goal.returns-in_err-second-clause-refused
returns-in_err-second-clause-refused g c =
    error_second c.args.bytes.now c.in-Some.place c.in_ok-first.first
    c.from_residual-in_err-second.result c.in_err-second.field-0.0 c.from_residual-in_err-second.ensures.1
    (sym c.in-Some.ensures.exact)
    (rw c.split_at.ensures.front at c.in_ok-first.ensures.circuit) (rw c.split_at.ensures.back at c.in_err-second.ensures.refused)
