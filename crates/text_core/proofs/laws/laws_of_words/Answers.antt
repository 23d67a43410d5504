use Rattle.std.proofs.Common.{ap, ◌∙◌}
use Rattle.text_core.specs.ReadBack.{word_back, word_spells}
use Rattle.text_core.specs.Words.{after}
use Rattle.text_core.proofs.laws.laws_of_words.Goals as goal

pub returns : goal.returns
returns c = λ word text rest. (word_spells word text rest, λ written. ap (after word) written ∙ word_back word rest)
