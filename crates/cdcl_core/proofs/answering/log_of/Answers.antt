use Rattle.cdcl_core.proofs.Closing.{refuted_thin, spent_thin, kept_thin, many_thin}
use Rattle.cdcl_core.proofs.answering.log_of.Goals as goal

pub returns-clause-refutes : goal.returns-clause-refutes
returns-clause-refutes c = λ f refuted. rw c.replace.ensures.value
    (refuted_thin f c.args.search.now c.meet_final_bound.new.self refuted c.in_ok-meet_final_bound.ensures.gone
    (c.in_ok-meet_final_bound.ensures.accounted f refuted.accounted))

pub returns-clause-spent : goal.returns-clause-spent
returns-clause-spent c = λ f budget spent none. rw c.replace.ensures.value
    (spent_thin f budget c.args.search.now c.meet_final_bound.new.self spent c.in_ok-meet_final_bound.ensures.gone
    (c.in_ok-meet_final_bound.ensures.accounted f (record { log = spent.logged.log; given = spent.logged.given })) none)

pub returns-clause-kept : goal.returns-clause-kept
returns-clause-kept c = λ f budget spent. rw c.replace.ensures.value
    (kept_thin f budget c.args.search.now c.meet_final_bound.new.self spent c.in_ok-meet_final_bound.ensures.gone
    c.in_ok-meet_final_bound.ensures.least (c.in_ok-meet_final_bound.ensures.accounted f
    (record { log = spent.logged.log; given = spent.logged.given })))

pub returns-clause-live_bounded : goal.returns-clause-live_bounded
returns-clause-live_bounded c = λ f accounted. rw c.replace.ensures.value (c.in_ok-meet_final_bound.ensures.live_bounded f accounted)

pub returns-clause-as_many : goal.returns-clause-as_many
returns-clause-as_many c = rw c.replace.ensures.value
    (many_thin c.args.search.now c.meet_final_bound.new.self c.in_ok-meet_final_bound.ensures.gone)
