use Rattle.chain_theory.proofs.PlainAgreement.{split_off_first, agrees-more, agrees-first, agrees-others}
use Rattle.chain_theory.proofs.plain.+agrees.Goals as goal

pub returns-then-not-meets_rows-clause-differs : goal.returns-then-not-meets_rows-clause-differs
returns-then-not-meets_rows-clause-differs t c = λ e all.
    let split = split_off_first _ _ _ _ _ _ _ c.requires.inputs c.in-Some.ensures.cases.0 c.split_at.ensures.by_index.0 c.split_at.ensures.front_len in
    c.meets_rows.ensures.misses c.if-not-meets_rows.true (agrees-first _ _ _ _ _ _ _ _ split all)

pub returns-clause-agrees : goal.returns-clause-agrees
returns-clause-agrees t c = λ e.
    let split = split_off_first _ _ _ _ _ _ _ c.requires.inputs c.in-Some.ensures.cases.0 c.split_at.ensures.by_index.0 c.split_at.ensures.front_len in
    agrees-more _ _ _ _ _ _ _ _ split (c.meets_rows.ensures.meets c.if-not-meets_rows.false) (c.agrees.ensures.agrees e)

pub returns-clause-differs : goal.returns-clause-differs
returns-clause-differs t c = λ e all.
    let split = split_off_first _ _ _ _ _ _ _ c.requires.inputs c.in-Some.ensures.cases.0 c.split_at.ensures.by_index.0 c.split_at.ensures.front_len in
    c.agrees.ensures.differs e (agrees-others _ _ _ _ _ _ _ _ split all)
