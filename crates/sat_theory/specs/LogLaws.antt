-- A log with one more line at its end.
use Rattle.std.specs.Prelude.{◌≡◌, ℕ, ℤ, List, [], ◌∷◌, ◌++◌, refl}
use Rattle.std.proofs.Common.{ap}
use Rattle.sat_theory.specs.Line.{Line, Add, Delete}
use Rattle.sat_theory.specs.State.{State, next}
use Rattle.sat_theory.specs.Log.{after, EachLine, added_ids}

-- the state after the line
pub after-push : (s : State) (ls : List Line) (l : Line) → after s (ls ++ l ∷ []) ≡ next (after s ls) l
unfolding after
after-push s [] l = refl
after-push s (m ∷ ls) l = after-push (next s m) ls l

-- what holds for each line before, and for the last one, holds for each
pub EachLine-push : (P : State → Line → Type 0) (s : State) (ls : List Line) (l : Line) → EachLine P s ls → P (after s ls) l → EachLine P s (ls ++ l ∷ [])
unfolding after EachLine
EachLine-push P s [] l each last = (last, tt)
EachLine-push P s (m ∷ ls) l each last = (each.0, EachLine-push P (next s m) ls l each.1 last)

-- and conversely
pub EachLine-front : (P : State → Line → Type 0) (s : State) (ls : List Line) (l : Line) → EachLine P s (ls ++ l ∷ []) → EachLine P s ls
unfolding after EachLine
EachLine-front P s [] l each = tt
EachLine-front P s (m ∷ ls) l each = (each.0, EachLine-front P (next s m) ls l each.1)

pub EachLine-last : (P : State → Line → Type 0) (s : State) (ls : List Line) (l : Line) → EachLine P s (ls ++ l ∷ []) → P (after s ls) l
unfolding after EachLine
EachLine-last P s [] l each = each.0
EachLine-last P s (m ∷ ls) l each = EachLine-last P (next s m) ls l each.1

-- the ids of the additions
pub added_ids-add : (ls : List Line) (id : ℕ) (lits : List ℤ) (hints : List ℕ) → added_ids (ls ++ Add id lits hints ∷ []) ≡ added_ids ls ++ id ∷ []
unfolding added_ids
added_ids-add [] id lits hints = refl
added_ids-add (Add k ms hs ∷ ls) id lits hints = ap (λ (ids : List ℕ). k ∷ ids) (added_ids-add ls id lits hints)
added_ids-add (Delete k ids ∷ ls) id lits hints = added_ids-add ls id lits hints

pub added_ids-delete : (ls : List Line) (id : ℕ) (ids : List ℕ) → added_ids (ls ++ Delete id ids ∷ []) ≡ added_ids ls
unfolding added_ids
added_ids-delete [] id ids = refl
added_ids-delete (Add k ms hs ∷ ls) id ids = ap (λ (js : List ℕ). k ∷ js) (added_ids-delete ls id ids)
added_ids-delete (Delete k js ∷ ls) id ids = added_ids-delete ls id ids
