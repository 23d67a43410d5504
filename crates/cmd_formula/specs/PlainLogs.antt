-- The text of a log, with the line that names the empty clause where the text is empty.
use Rattle.std.proofs.Common.{◌≡◌, ℕ, ◌<◌, List, [], ◌∷◌, length, refl, arith}
use Rattle.std.proofs.lemmas.List.{length-append}
use Rattle.sat_theory.specs.Formula.{Formula}
use Rattle.sat_theory.specs.Line.{Line}
use Rattle.lrat_text.specs.Spelling.{line_body, line_text}
use Rattle.cmd_formula.specs.Dimacs.{lrat_text, plain_log}

-- a text, or the line that names the formula's empty clause
abbrev pub or_naming : Formula → List ℕ → List ℕ
or_naming f [] = lrat_text (plain_log f [])
or_naming f (b ∷ bs) = b ∷ bs

kept : (f : Formula) (text : List ℕ) → 0 < length text → or_naming f text ≡ text
kept f [] some = absurd (omega arith)
kept f (b ∷ bs) some = refl

pub plain_is : (f : Formula) (log : List Line) → or_naming f (lrat_text log) ≡ lrat_text (plain_log f log)
plain_is f [] = refl
plain_is f (l ∷ log) =
    let all = length-append (line_text l) (lrat_text log) in
    let first = length-append (line_body l) (10 ∷ []) in
    kept f (lrat_text (l ∷ log)) (omega (arith, all, first))
