use Rattle.std.proofs.Common.{◌≡◌, ℕ, suc, ◌+◌, ◌<◌, ◌≤◌, List, length, ap, arith}
use Rattle.blif_text.specs.Words.{words_of}
use Rattle.blif_text.proofs.words.count_words.Goals as goal

one_more : (count left rest all : ℕ) → left ≡ suc rest → count + left ≡ all → count + 1 + rest ≡ all
one_more count left rest all is was = omega arith

still_within : (count left rest all : ℕ) → rest < left → count + left ≤ all → count + 1 + rest ≤ all
still_within count left rest all less was = omega arith

none_left : (count left all : ℕ) → left ≡ 0 → count + left ≡ all → count ≡ all
none_left count left all none was = omega arith

pub loop-rest-preserved : goal.loop-rest-preserved
loop-rest-preserved c = record {
  count = one_more c.loop-rest.count (length (words_of c.loop-rest.left.now)) (length (words_of c.in-Some.rest.now))
      (length (words_of c.args.text.now)) (ap (length {A = List ℕ}) c.in-Some.ensures.words) c.loop-rest.invariant.count;
  within = still_within c.loop-rest.count (length c.loop-rest.left.now) (length c.in-Some.rest.now) (length c.args.text.now) c.in-Some.ensures.shorter c.loop-rest.invariant.within;
}

pub returns : goal.returns
returns c = none_left c.loop-rest.count (length (words_of c.loop-rest.left.now)) (length (words_of c.args.text.now)) (ap (length {A = List ℕ}) c.in_default.ensures.words) c.loop-rest.invariant.count
