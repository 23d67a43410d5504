use Rattle.std.proofs.Common.{◌≡◌, ℕ, ◌+◌, ◌-◌, ◌<◌, ◌≤◌, List, [], ◌∷◌, ◌++◌, Option, Some, Result, Ok, Err, IsErrAnd, IsErrOf, length, rules, arith, sym, ap, ◌∙◌, length-append}
use Rattle.port_io.specs.Bytes.{Consumes, TakesBeyond, prepended}
use Rattle.port_io.specs.TextLaws.{all_taken, none_left, length_taken, prepended-none, prepended-twice}
use Rattle.port_io.specs.declared.reading.ReadError.TheVariants.{TooLong}
use Rattle.port_io.proofs.reading.read_all.Goals as goal

-- if more bytes came than there was room for, the input is too long
beyond : (old mid new : Option (List ℕ)) (text input : List ℕ) (room limit : ℕ) → Consumes old mid text →
    TakesBeyond room mid new → limit ≤ length text + room → old ≡ Some input → limit < length input
beyond old mid new text input room limit taken more full known =
    let both : Consumes old new (text ++ more.taken) = taken ∙ ap (prepended text) more.consumes ∙ prepended-twice text more.taken new in
    let least = length_taken old new (text ++ more.taken) input both known in
    omega (arith, least, length-append text more.taken, more.beyond, full)

-- the error that is handed on
error_is : {A E : Type 0} (r : Result A E) (e f : E) → IsErrAnd r (λ d. d ≡ e) → IsErrOf r f → e ≡ f
error_is (Ok x) e f is of = absurd is
error_is (Err d) e f is of = let same : d ≡ f = cc in sym is ∙ same

-- an empty piece takes nothing
ended : (old mid new : Option (List ℕ)) (text piece : List ℕ) → Consumes old mid text → length piece ≡ 0 → Consumes mid new piece → Consumes old new text
ended old mid new text [] taken none last = taken ∙ ap (prepended text) (last ∙ prepended-none new)
ended old mid new text (x ∷ xs) taken none last = absurd (omega (arith, none))

pub returns-in_err-piece-clause-too_long : goal.returns-in_err-piece-clause-too_long
returns-in_err-piece-clause-too_long g c = λ input known of.
    let long : c.len.result ≡ length c.loop-turn.all.items = search rules in
    let within = c.loop-turn.invariant.within in
    beyond _ _ _ c.loop-turn.all.items input (c.args.limit - c.len.result) c.args.limit c.loop-turn.invariant.taken
    (c.in_err-piece.ensures.too_long (ap Err (error_is c.from_residual.result c.in_err-piece.field-0.0 TooLong c.from_residual.ensures.1 of)))
    (omega (arith, long, within)) known

pub returns-then-is_empty-clause-all : goal.returns-then-is_empty-clause-all
returns-then-is_empty-clause-all g c = λ input known.
    let none : length c.in_ok-piece.piece.now ≡ 0 = search rules in
    all_taken _ _ c.loop-turn.all.items input (ended _ _ _ c.loop-turn.all.items c.in_ok-piece.piece.now
    c.loop-turn.invariant.taken none c.in_ok-piece.ensures.taken) (c.in_ok-piece.ensures.end none) known

pub returns-then-is_empty-clause-to_the_end : goal.returns-then-is_empty-clause-to_the_end
returns-then-is_empty-clause-to_the_end g c = λ input known.
    let none : length c.in_ok-piece.piece.now ≡ 0 = search rules in
    none_left _ _ c.loop-turn.all.items input (ended _ _ _ c.loop-turn.all.items c.in_ok-piece.piece.now
    c.loop-turn.invariant.taken none c.in_ok-piece.ensures.taken) (c.in_ok-piece.ensures.end none) known
