-- The definitions of `Differing.antt` for outputs that are forced.
use Rattle.std.specs.Prelude.{ℕ, List}
use Rattle.lane_sim.specs.Words.{Words}
use Rattle.observe_core.specs.Putting.{IsAbove}
use Rattle.observe_core.specs.Differing.{ArePutWords, AreDistinguished}
use Rattle.observe_core.specs.declared.forced_outputs.Forced.{Forced}

-- the fanout cone is above the fanin cone
abbrev pub StandsAbove : Forced → Type 0
StandsAbove f = IsAbove f.net.now f.outputs.now f.fanin_cone.now f.fanout_cone.now

-- the words of both cones where the outputs have bits
abbrev pub HaveBits : Forced → ℕ → Words → Type 0
HaveBits f bits words = ArePutWords f.net.now f.outputs.now bits f.fanin_cone.now f.fanout_cone.now words

-- the words of the assignments that distinguish some value below `count` of the outputs from 0
abbrev pub Distinguish : Forced → ℕ → List ℕ → Type 0
Distinguish f count differ = AreDistinguished f.net.now f.outputs.now f.fanin_cone.now f.cone_outputs.now count differ
