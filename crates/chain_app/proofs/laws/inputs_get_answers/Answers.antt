use Rattle.cmd_agree.specs.Obligations.{agree_must_answer}
use Rattle.cmd_recheck.specs.Obligations.{recheck_must_answer, recheck_depth_must_answer}
use Rattle.cmd_synth.specs.Obligations.{synth_must_answer, least_depth_must_answer}
use Rattle.cmd_improve.specs.Obligations.{improve_must_answer}
use Rattle.cmd_equiv.specs.Obligations.{equiv_must_answer}
use Rattle.cmd_gen.specs.Obligations.{gen_must_answer}
use Rattle.chain_app.proofs.Ends.{must_answer}
use Rattle.chain_app.proofs.laws.inputs_get_answers.Goals as goal

pub returns-clause-agree : goal.returns-clause-agree
returns-clause-agree c r promises = agree_must_answer r promises.agree

pub returns-clause-recheck : goal.returns-clause-recheck
returns-clause-recheck c r promises = recheck_must_answer r promises.recheck

pub returns-clause-recheck_depth : goal.returns-clause-recheck_depth
returns-clause-recheck_depth c r promises = recheck_depth_must_answer r promises.recheck_depth

pub returns-clause-synth : goal.returns-clause-synth
returns-clause-synth c r asked promises = synth_must_answer r asked promises.synth

pub returns-clause-least_depth : goal.returns-clause-least_depth
returns-clause-least_depth c r asked promises = least_depth_must_answer r asked promises.least_depth

pub returns-clause-improve : goal.returns-clause-improve
returns-clause-improve c r format asked promises = improve_must_answer r format asked promises.improve

pub returns-clause-equiv : goal.returns-clause-equiv
returns-clause-equiv c r budget promises = equiv_must_answer r budget promises.equiv

pub returns-clause-generated : goal.returns-clause-generated
returns-clause-generated c r blocks action promises = gen_must_answer r blocks action promises.gen

pub returns-clause-each : goal.returns-clause-each
returns-clause-each c r command input promises asks has can steady = must_answer r command input promises asks has can steady
