-- Each iteration consumes one more piece, and after the last nothing is left.
use Rattle.std.proofs.Common.{◌≡◌, ℕ, ◌≤◌, List, [], ◌∷◌, Result, Ok, Err, IsErrAnd, IsErrOf, refl, length, rules, subst, sym, arith, ap, ◌∙◌}
use Rattle.port_io.specs.Bytes.{Consumes}
use Rattle.port_io.specs.declared.reading.ReadError.TheVariants.{TooLong}
use Rattle.frame_core.proofs.Streams.{taking_none, taking_more, taking_all, taking_long}
use Rattle.frame_core.proofs.streaming.read_pieces.Goals as goal

nothing : (xs : List ℕ) → length xs ≡ 0 → xs ≡ []
nothing [] none = refl
nothing (x ∷ xs) none = absurd (omega (arith, none))

some : (xs : List ℕ) → (length xs ≡ 0 → ⊥) → 1 ≤ length xs
some [] full = absurd (full refl)
some (x ∷ xs) full = omega arith

-- the error that is passed on
error_is : {A E : Type 0} (r : Result A E) (e f : E) → IsErrAnd r (λ d. d ≡ e) → IsErrOf r f → e ≡ f
error_is (Ok x) e f is of = absurd is
error_is (Err d) e f is of = let same : d ≡ f = cc in sym is ∙ same

pub loop-turn-init : goal.loop-turn-init
loop-turn-init g c = record {
  taking = taking_none c.args.most _ _ c.begin-kept.ensures.holds;
  whole = c.begin-kept.ensures.whole;
  turns = omega arith;
  counted = let none = c.begin-kept.ensures.count in omega (arith, none);
  never_falls = omega arith;
  faultless = refl;
}

pub returns-in_err-piece-clause-too_long : goal.returns-in_err-piece-clause-too_long
returns-in_err-piece-clause-too_long g c = λ input reported of.
    let more = c.in_err-piece.ensures.too_long (ap Err (error_is c.from_residual.result c.in_err-piece.field-0.0 TooLong c.from_residual.ensures.1 of)) in
    taking_long c.args.most c.loop-turn.room _ (g.S.Source.left c.loop-turn.source)
    (g.S.Source.left c.read_piece.new.source) more.taken input _ more.consumes more.beyond
    c.loop-turn.invariant.taking reported

pub returns-then-is_empty-clause-taken : goal.returns-then-is_empty-clause-taken
returns-then-is_empty-clause-taken g c =
    let none : length c.in_ok-piece.piece.now ≡ 0 = search rules in
    taking_all c.args.most c.loop-turn.room _ (g.S.Source.left c.loop-turn.source) (g.S.Source.left c.read_piece.new.source) _
    (subst (λ (xs : List ℕ). Consumes (g.S.Source.left c.loop-turn.source) (g.S.Source.left c.read_piece.new.source) xs) (nothing c.in_ok-piece.piece.now none) c.in_ok-piece.ensures.taken)
    (c.in_ok-piece.ensures.end none)
    c.loop-turn.invariant.taking

pub loop-turn-preserved : goal.loop-turn-preserved
loop-turn-preserved g c =
    let piece : List ℕ = c.in_ok-piece.piece.now in
    let fits : length piece ≤ c.loop-turn.room = c.in_ok-piece.ensures.within in
    let more : 1 ≤ length piece = some piece (search rules) in
    record {
      taking =
          taking_more c.args.most c.loop-turn.room (length piece) _ (g.S.Source.left c.loop-turn.source) (g.S.Source.left c.read_piece.new.source) piece _ _
          c.in_ok-piece.ensures.taken refl fits c.in_ok-kept.ensures.holds c.loop-turn.invariant.taking;
      whole = c.in_ok-kept.ensures.whole;
      turns = let before = c.loop-turn.invariant.turns in omega (arith, before, fits, more);
      counted = let before = c.loop-turn.invariant.counted in let next = c.in_ok-kept.ensures.count in omega (arith, before, next, fits);
      never_falls = let before = c.loop-turn.invariant.never_falls in let next = c.read_piece.ensures.never_falls in omega (arith, before, next);
      faultless = c.in_ok-piece.ensures.faultless (λ of. cc) ∙ c.loop-turn.invariant.faultless;
    }
