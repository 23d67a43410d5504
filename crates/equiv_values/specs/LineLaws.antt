-- The lines of sources, one after the other.
use Rattle.std.specs.Prelude.{◌≡◌, ℕ, ◌≤◌, Bool, List, [], ◌∷◌, ◌++◌, length, take, drop, refl}
use Rattle.std.proofs.Common.{sym, ap, ◌∙◌, arith, append_assoc}
use Rattle.std.proofs.lemmas.Grind.{common_steps}
use Rattle.net_theory.specs.Document.{Name}
use Rattle.equiv_values.specs.Lines.{source_line, source_lines}

pub sources_none : (bits : List Bool) → source_lines [] bits ≡ []
unfolding source_lines
sources_none bits = refl

pub sources_bare : (n : Name) (ns : List Name) → source_lines (n ∷ ns) [] ≡ []
unfolding source_lines
sources_bare n ns = refl

pub sources_more : (n : Name) (ns : List Name) (b : Bool) (bs : List Bool) →
    source_lines (n ∷ ns) (b ∷ bs) ≡ source_line n b ++ source_lines ns bs
unfolding source_lines
sources_more n ns b bs = refl

pub ruleset of_sources = (common_steps, sources_none, sources_bare, sources_more)

-- the lines of two lists of sources, one after the other
pub sources_both : (ns ms : List Name) (bits : List Bool) → length ns ≤ length bits →
    source_lines (ns ++ ms) bits ≡ source_lines ns (take (length ns) bits) ++ source_lines ms (drop (length ns) bits)
unfolding source_lines
sources_both [] ms bits long = refl
sources_both (n ∷ ns) ms [] long = absurd (omega (arith, long))
sources_both (n ∷ ns) ms (b ∷ bs) long =
    ap (λ (xs : List ℕ). source_line n b ++ xs) (sources_both ns ms bs (omega (arith, long)))
    ∙ sym (append_assoc (source_line n b) (source_lines ns (take (length ns) bs)) (source_lines ms (drop (length ns) bs)))

pub sources_written : (ns ms : List Name) (bits front back : List Bool) (old middle new : List ℕ) →
    length ns ≤ length bits → front ≡ take (length ns) bits → back ≡ drop (length ns) bits →
    middle ≡ old ++ source_lines ns front → new ≡ middle ++ source_lines ms back →
    new ≡ old ++ source_lines (ns ++ ms) bits
sources_written ns ms bits front back old middle new long f b first second =
    second ∙ ap (λ (xs : List ℕ). xs ++ source_lines ms back) first
    ∙ append_assoc old (source_lines ns front) (source_lines ms back)
    ∙ ap (λ (xs : List Bool). old ++ (source_lines ns xs ++ source_lines ms back)) f
    ∙ ap (λ (xs : List Bool). old ++ (source_lines ns (take (length ns) bits) ++ source_lines ms xs)) b
    ∙ ap (λ (xs : List ℕ). old ++ xs) (sym (sources_both ns ms bits long))

pub ruleset joined = (common_steps, sources_written)
