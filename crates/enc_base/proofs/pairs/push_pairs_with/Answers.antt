use Rattle.std.proofs.Common.{◌≡◌, ℕ, ◌+◌, ◌-◌, ◌≤◌, List, [], ◌∷◌, ◌++◌, ap, ◌∙◌, append_assoc, arith}
use Rattle.std.specs.List.{range_with_len, flat_map}
use Rattle.clause_core.specs.RangeLaws.{flat_map-turn_from}
use Rattle.enc_theory.specs.declared.data.Pair.{Pair}
use Rattle.enc_theory.specs.Pairs.{pairs_of, pairs_with}
use Rattle.enc_base.proofs.pairs.push_pairs_with.Goals as goal

-- One more iteration appends its pairs to those of the iterations before.
one_more : (f : ℕ → List Pair) (j : ℕ) (start old new : List Pair) → 1 ≤ j → old ≡ start ++
    flat_map f (range_with_len 1 (j - 1)) → new ≡ old ++ f j → new ≡ start ++ flat_map f (range_with_len 1 (j + 1 - 1))
one_more f j start old new low walked more = rw (flat_map-turn_from f 1 j low) (more ∙ ap (λ (ps : List Pair). ps ++ f j) walked ∙ append_assoc start (flat_map f (range_with_len 1 (j - 1))) (f j))

-- After the last iteration the first pair and those of all iterations are appended.
all_there : (f : ℕ → List Pair) (j large : ℕ) (first : Pair) (old start new : List Pair) → j ≡ large → start ≡ old ++
    first ∷ [] → new ≡ start ++ flat_map f (range_with_len 1 (j - 1)) → new ≡ old ++
    (first ∷ flat_map f (range_with_len 1 (large - 1)))
all_there f j large first old start new end begun walked =
    rw (← end) (walked ∙ ap (λ (ps : List Pair). ps ++ flat_map f (range_with_len 1 (j - 1))) begun
    ∙ append_assoc old (first ∷ []) (flat_map f (range_with_len 1 (j - 1))))

pub loop-small-preserved : goal.loop-small-preserved
loop-small-preserved c = one_more (pairs_of c.args.ordered c.args.large) c.loop-small.small _ _ _ (omega arith) c.loop-small.invariant c.in_ok-push_pairs_of.ensures

pub returns : goal.returns
unfolding pairs_with
returns c = all_there (pairs_of c.args.ordered c.args.large) c.loop-small.small c.args.large _ _ _ _ (omega arith) c.in_ok-push.ensures.items c.loop-small.invariant
