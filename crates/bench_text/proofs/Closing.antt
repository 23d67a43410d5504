-- The loop over operands.
use Rattle.std.proofs.Common.{◌≡◌, ℕ, true, false, List, [], ◌∷◌, ◌++◌, ap, sym, ◌∙◌}
use Rattle.std.specs.Prelude.{codes}
use Rattle.std.proofs.lemmas.Bool.{cond-true, cond-false}
use Rattle.net_theory.specs.Document.{Name, is_same}
use Rattle.bench_text.specs.Items.{is_mark_item}
use Rattle.bench_text.specs.Statements.{operands_from}

pub going_on : (names new : List Name) (items later rest : List (List ℕ)) (w m : List ℕ) → items ≡ w ∷ later →
    later ≡ m ∷ rest → is_mark_item w ≡ false → is_same m (codes ")") ≡ false → is_same m (codes ",") ≡ true →
    new ≡ names ++ w ∷ [] → operands_from new rest ≡ operands_from names items
unfolding operands_from
going_on names new items later rest w m e f word open_still comma same =
    ap (λ (ns : List Name). operands_from ns rest) same
    ∙ sym (ap (operands_from names) (e ∙ ap (λ (ws : List (List ℕ)). w ∷ ws) f)
    ∙ cond-false _ _ _ word
    ∙ cond-false _ _ _ open_still
    ∙ cond-true _ _ _ comma)
