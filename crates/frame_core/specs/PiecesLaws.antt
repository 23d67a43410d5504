-- Texts that are written one after the other.
use Rattle.std.proofs.Common.{◌≡◌, ℕ, List, [], ◌∷◌, length, Option, sym, subst, arith}
use Rattle.std.proofs.lemmas.Grind.{common_steps}
use Rattle.port_io.specs.Bytes.{Appends, AppendsPrefix}
use Rattle.port_io.specs.TextLaws.{appended-none, prefix_none, prefix_whole, prefix_one, prefix_two, appends_two}
use Rattle.port_io.specs.CountLaws.{counts}
use Rattle.frame_core.specs.Reported.{joined}

-- Of the texts to be written after `first`, `left` remain to be written.
pub record IsWriting (first now : Option (List ℕ)) (texts left : List (List ℕ)) : Type 0 where
  pub whole : (later : Option (List ℕ)) → Appends now later (joined left) → Appends first later (joined texts)
  pub prefix : (later : Option (List ℕ)) → AppendsPrefix now later (joined left) → AppendsPrefix first later (joined texts)

pub all_left : (first : Option (List ℕ)) (texts : List (List ℕ)) → IsWriting first first texts texts
all_left first texts = record { whole = λ later all. all; prefix = λ later prefix. prefix }

-- One more was written.
pub one_written : (first now next : Option (List ℕ)) (texts left rest : List (List ℕ)) (text : List ℕ) →
    left ≡ text ∷ rest → IsWriting first now texts left → Appends now next text → IsWriting first next texts rest
unfolding joined
one_written first now next texts left rest text are writing more = record {
  whole = λ later all. writing.whole later (subst (λ (ts : List (List ℕ)). Appends now later (joined ts)) (sym are) (appends_two now next later text (joined rest) more all));
  prefix = λ later prefix. writing.prefix later (subst (λ (ts : List (List ℕ)). AppendsPrefix now later (joined ts)) (sym are) (prefix_two now next later text (joined rest) more prefix));
}

-- One is truncated.
pub one_truncated : (first now next : Option (List ℕ)) (texts left rest : List (List ℕ)) (text : List ℕ) →
    left ≡ text ∷ rest → IsWriting first now texts left → AppendsPrefix now next text →
    AppendsPrefix first next (joined texts)
unfolding joined
one_truncated first now next texts left rest text are writing truncated =
    writing.prefix next (subst (λ (ts : List (List ℕ)). AppendsPrefix now next (joined ts)) (sym are) (prefix_one now next text (joined rest) truncated))

-- None of the remaining texts was written.
pub some_left : (first now : Option (List ℕ)) (texts left : List (List ℕ)) → IsWriting first now texts left → AppendsPrefix first now (joined texts)
some_left first now texts left writing = writing.prefix now (prefix_none now (joined left))

-- All were written.
pub none_left : (first now : Option (List ℕ)) (texts left : List (List ℕ)) → length left ≡ 0 → IsWriting first now texts left → Appends first now (joined texts)
unfolding joined
none_left first now texts [] none writing = writing.whole now (sym (appended-none now))
none_left first now texts (t ∷ ts) none writing = absurd (omega arith)

pub ruleset texts_left = (common_steps, all_left, one_written, one_truncated, some_left, none_left, prefix_whole, counts)
