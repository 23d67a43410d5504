-- The shown lines of a text, line by line.
use Rattle.std.specs.Prelude.{◌≡◌, ℕ, Bool, true, false, List, [], ◌∷◌, ◌++◌, if◌then◌else◌}
use Rattle.std.proofs.Common.{sym, ◌∙◌, ap, append_assoc, append-nil}
use Rattle.std.proofs.lemmas.Grind.{common_steps}
use Rattle.text_core.specs.Lines.{Line, line_bytes}
use Rattle.shown_lines.specs.Shown.{is_shown, shown_of}

-- a line that has no end, and one that has
pub unended : (old new text : List ℕ) (ended : Bool) → ended ≡ false → new ≡ old ++ text →
    new ≡ old ++ line_bytes (record { text = text; ended = ended })
unended old new text ended not is =
    is ∙ ap (λ (b : Bool). old ++ (if b then text ++ 10 ∷ [] else text)) (sym not)

pub written : (old between new text : List ℕ) (ended : Bool) → ended ≡ true → between ≡ old ++ text →
    new ≡ between ++ 10 ∷ [] → new ≡ old ++ line_bytes (record { text = text; ended = ended })
written old between new text ended has first then_is =
    then_is ∙ ap (λ (x : List ℕ). x ++ 10 ∷ []) first ∙ append_assoc old text (10 ∷ []) ∙
    ap (λ (b : Bool). old ++ (if b then text ++ 10 ∷ [] else text)) (sym has)

pub ruleset writing = (common_steps, unended, written)

pub hidden : (shown : List ℕ) (l : Line) (lines ls all : List Line) → is_shown l.text ≡ false →
    shown_of all ≡ shown ++ shown_of lines → lines ≡ l ∷ ls → shown_of all ≡ shown ++ shown_of ls
unfolding shown_of
hidden shown l lines ls all not stands are =
    stands ∙ ap (λ (x : List Line). shown ++ shown_of x) are ∙
    ap (λ (b : Bool). shown ++ ((if b then line_bytes l else []) ++ shown_of ls)) not

pub more : (shown next : List ℕ) (l : Line) (lines ls all : List Line) → is_shown l.text ≡ true →
    next ≡ shown ++ line_bytes l → shown_of all ≡ shown ++ shown_of lines → lines ≡ l ∷ ls →
    shown_of all ≡ next ++ shown_of ls
unfolding shown_of
more shown next l lines ls all is longer stands are =
    stands ∙ ap (λ (x : List Line). shown ++ shown_of x) are ∙
    ap (λ (b : Bool). shown ++ ((if b then line_bytes l else []) ++ shown_of ls)) is ∙
    sym (append_assoc shown (line_bytes l) (shown_of ls)) ∙ ap (λ (x : List ℕ). x ++ shown_of ls) (sym longer)

-- at the end they are the whole text
pub at_last : (shown : List ℕ) (all : List Line) → shown_of all ≡ shown ++ shown_of [] → shown ≡ shown_of all
unfolding shown_of
at_last shown all stands = sym (stands ∙ append-nil shown)

pub ruleset showing = (common_steps, hidden, more, at_last)
