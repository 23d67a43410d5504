use Rattle.std.proofs.Common.{sym, subst}
use Rattle.lane_sim.specs.Above.{BeginsWithWords}
use Rattle.lane_sim.specs.AboveLaws.{words_begin}
use Rattle.observe_core.proofs.output_differences.zero_words.Goals as goal

pub put_words-requires-clause-words : goal.put_words-requires-clause-words
put_words-requires-clause-words c = subst (BeginsWithWords c.args.forced.fanin_cone.now) (sym c.in_ok-zero.ensures) (words_begin c.args.forced.fanin_cone.now c.args.words.now c.requires.words)
