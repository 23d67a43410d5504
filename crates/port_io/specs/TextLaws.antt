-- Lemmas on texts that are appended to known bytes, or prepended to them.
use Rattle.std.proofs.Common.{◌≡◌, ℕ, ◌+◌, ◌≤◌, List, [], ◌++◌, Option, None, Some, is_some, take, drop, length, refl, ap, sym, ◌∙◌, append_assoc, length-append, arith}
use Rattle.std.proofs.Math.Seq.{take-add, take-append-add}
use Rattle.std.proofs.lemmas.List.{take_all, take-append-le}
use Rattle.std.proofs.lemmas.Grind.{common_steps}
use Rattle.port_io.specs.Bytes.{appended, prepended, Consumes, Appends, AppendsPrefix, IsAtEnd, TakesPrefix}

-- Appending one text and then another appends their concatenation.
pub appended-twice : (old : Option (List ℕ)) (a b : List ℕ) → appended (appended old a) b ≡ appended old (a ++ b)
unfolding appended
appended-twice None a b = refl
appended-twice (Some before) a b = ap (λ x. Some x) (append_assoc before a b)

-- Appending the empty text changes nothing.
pub appended-none : (old : Option (List ℕ)) → appended old [] ≡ old
unfolding appended
appended-none None = refl
appended-none (Some before) = grind (arith, common_steps)

-- One more piece of the text was written.
pub appends_more : (old mid new : Option (List ℕ)) (text : List ℕ) (at count : ℕ) → Appends old mid (take at text) →
    Appends mid new (take count (drop at text)) → Appends old new (take (at + count) text)
appends_more old mid new text at count a b = b ∙ ap (λ x. appended x (take count (drop at text))) a ∙ appended-twice old _ _ ∙ ap (λ x. appended old x) (sym (take-add at count text))

-- Prepending one text and then another prepends their concatenation.
pub prepended-twice : (a b : List ℕ) (new : Option (List ℕ)) → prepended a (prepended b new) ≡ prepended (a ++ b) new
unfolding prepended
prepended-twice a b None = refl
prepended-twice a b (Some after) = ap (λ x. Some x) (sym (append_assoc a b after))

-- Prepending the empty text changes nothing.
pub prepended-none : (new : Option (List ℕ)) → prepended [] new ≡ new
unfolding prepended
prepended-none None = refl
prepended-none (Some after) = refl

-- Prepending a text doesn't change whether the bytes are known.
pub is_some-prepended : (text : List ℕ) (new : Option (List ℕ)) → is_some (prepended text new) ≡ is_some new
unfolding prepended
is_some-prepended text None = refl
is_some-prepended text (Some after) = refl

-- If nothing is left after a text was consumed, the text was the whole input.
pub all_taken : (old new : Option (List ℕ)) (text input : List ℕ) → Consumes old new text → IsAtEnd new → old ≡ Some input → text ≡ input
unfolding prepended
all_taken old None text input taken end known = cc
all_taken old (Some rest) text input taken end known = let e = end rest refl in grind (arith, common_steps)

-- If the source is at its end after a text was consumed, nothing is left.
pub none_left : (old new : Option (List ℕ)) (text input : List ℕ) → Consumes old new text → IsAtEnd new → old ≡ Some input → new ≡ Some []
unfolding prepended
none_left old None text input taken end known = cc
none_left old (Some rest) text input taken end known = ap (λ x. Some x) (end rest refl)

-- A text that was consumed is a prefix of what was left.
pub takes_prefix : (old new : Option (List ℕ)) (text : List ℕ) → Consumes old new text → TakesPrefix old new
takes_prefix old new text taken = record { taken = text; consumes = taken }

-- What was consumed is no longer than what was left.
pub length_taken : (old new : Option (List ℕ)) (text input : List ℕ) → Consumes old new text → old ≡ Some input → length text ≤ length input
unfolding prepended
length_taken old None text input taken known = cc
length_taken old (Some rest) text input taken known = grind (arith, common_steps)

-- Two texts that are written one after the other: their concatenation was written.
pub appends_two : (old mid new : Option (List ℕ)) (a b : List ℕ) → Appends old mid a → Appends mid new b → Appends old new (a ++ b)
appends_two old mid new a b first second = second ∙ ap (λ x. appended x b) first ∙ appended-twice old a b

-- If nothing was written, that is a prefix of any text.
pub prefix_none : (old : Option (List ℕ)) (text : List ℕ) → AppendsPrefix old old text
prefix_none old text = record { count = 0; within = omega arith; appends = sym (appended-none old) }

-- A whole text is a prefix of itself.
pub prefix_whole : (old new : Option (List ℕ)) (text : List ℕ) → Appends old new text → AppendsPrefix old new text
prefix_whole old new text whole = record { count = length text; within = omega arith; appends = whole ∙ ap (λ x. appended old x) (sym (take_all (length text) text (omega arith))) }

-- A prefix of a text is a prefix of its concatenation with another text.
pub prefix_one : (old new : Option (List ℕ)) (a b : List ℕ) → AppendsPrefix old new a → AppendsPrefix old new (a ++ b)
prefix_one old new a b prefix = record {
  count = prefix.count;
  within = omega (arith, length-append a b, prefix.within);
  appends = prefix.appends ∙ ap (λ x. appended old x) (sym (take-append-le prefix.count a b prefix.within));
}

-- A text and then a prefix of another text are a prefix of their concatenation.
pub prefix_two : (old mid new : Option (List ℕ)) (a b : List ℕ) → Appends old mid a → AppendsPrefix mid new b → AppendsPrefix old new (a ++ b)
prefix_two old mid new a b whole prefix = record {
  count = length a + prefix.count;
  within = omega (arith, length-append a b, prefix.within);
  appends = appends_two old mid new a (take prefix.count b) whole prefix.appends ∙ ap (λ x. appended old x) (sym (take-append-add a b prefix.count));
}

pub ruleset taking = (common_steps, prepended-twice, prepended-none, is_some-prepended, takes_prefix)

pub ruleset writing = (common_steps, appended-none, appends_more)

-- lemmas on output that is written as several texts
pub ruleset texts = (common_steps, appends_two, prefix_one, prefix_two)
