-- An ASCII text with a plain text and sections.
use Rattle.std.proofs.Common.{◌≡◌, ℕ, ◌∙◌, true, false, List, ap}
use Rattle.std.specs.Prelude.{◌&&◌, ◌==◌}
use Rattle.std.proofs.lemmas.Bool.{and_parts, cond-false, eqb-true}
use Rattle.std.proofs.lemmas.Grind.{common_steps}
use Rattle.aiger_binary.specs.Ascii.{is_binary, ascii_of, ascii_in}
use Rattle.aiger_sections.specs.declared.header.Sections.{Sections}
use Rattle.aiger_sections.specs.Plain.{plain_of, plain_in, sections_of, sections_in, are_same}

ascii_plain : (bytes : List ℕ) → is_binary bytes ≡ false → ascii_in bytes ≡ bytes
ascii_plain bytes other = cond-false (is_binary bytes) (ascii_of bytes) bytes other

pub plain_is : (bytes text : List ℕ) → is_binary bytes ≡ false → plain_of bytes ≡ text → plain_in bytes ≡ text
plain_is bytes text other same = ap plain_of (ascii_plain bytes other) ∙ same

pub sections_are : (bytes : List ℕ) (s : Sections) → is_binary bytes ≡ false → sections_of bytes ≡ s → sections_in bytes ≡ s
sections_are bytes s other same = ap sections_of (ascii_plain bytes other) ∙ same

abbrev made : ℕ → ℕ → ℕ → Sections
made o b c = record { outputs = o; bads = b; constraints = c }

pub same_are : (s t : Sections) → are_same s t ≡ true → s ≡ t
unfolding are_same
same_are s t e =
    let more = and_parts (s.outputs == t.outputs && s.bads == t.bads) (s.constraints == t.constraints) e in
    let both = and_parts (s.outputs == t.outputs) (s.bads == t.bads) more.0 in
    ap (λ (n : ℕ). made n s.bads s.constraints) (eqb-true s.outputs t.outputs both.0)
    ∙ ap (λ (n : ℕ). made t.outputs n s.constraints) (eqb-true s.bads t.bads both.1)
    ∙ ap (λ (n : ℕ). made t.outputs t.bads n) (eqb-true s.constraints t.constraints more.1)

pub ruleset fitting = (common_steps, plain_is, sections_are, same_are)
