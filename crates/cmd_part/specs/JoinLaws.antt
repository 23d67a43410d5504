-- The parts of a size, one after the other, are its section.
use Rattle.std.specs.Prelude.{◌≡◌, ℕ, List, [], ◌∷◌, ◌++◌, map, All}
use Rattle.std.specs.List.{flat_map}
use Rattle.std.proofs.Common.{refl, ap, ◌∙◌, append-nil}
use Rattle.std.proofs.lemmas.Grind.{common_steps, flat_map-append}
use Rattle.text_core.specs.Lines.{line_bytes}
use Rattle.chain_core.specs.Spelling.{line}
use Rattle.cert_theory.specs.declared.data.Header.{Header}
use Rattle.cert_theory.specs.Certificate.{Section, SubproblemLog, IsSection, IsSubproblemLog, subproblem_of, subproblems_of, tried}
use Rattle.cert_theory.specs.Spelling.{size_line, subproblem_lines, section_lines, text_of}
use Rattle.cmd_part.specs.PartReport.{log_text}

pub parts_section : (h : Header) (size : ℕ) (logs : List SubproblemLog) →
    map subproblem_of logs ≡ tried h.method (subproblems_of h size) logs →
    All (IsSubproblemLog h size) logs → IsSection h size (record { size = size; subproblems = logs })
parts_section h size logs are ends = record { size_is = refl; subproblems_are = are; logs = ends }

texts_joined : (logs : List SubproblemLog) → text_of (flat_map subproblem_lines logs) ≡ flat_map log_text logs
texts_joined [] = refl
texts_joined (p ∷ ps) =
    flat_map-append line_bytes (subproblem_lines p) (flat_map subproblem_lines ps)
    ∙ ap (λ (xs : List ℕ). log_text p ++ xs) (texts_joined ps)

pub parts_text : (s : Section) → text_of (section_lines s) ≡ text_of (line (size_line s.size) ∷ []) ++ flat_map log_text s.subproblems
unfolding section_lines
parts_text s =
    flat_map-append line_bytes (line (size_line s.size) ∷ []) (flat_map subproblem_lines s.subproblems)
    ∙ ap (λ (xs : List ℕ). text_of (line (size_line s.size) ∷ []) ++ xs) (texts_joined s.subproblems)

-- one log alone
pub one_text : (p : SubproblemLog) → text_of (flat_map subproblem_lines (p ∷ [])) ≡ log_text p
one_text p = texts_joined (p ∷ []) ∙ append-nil (log_text p)

pub ruleset joining = (common_steps, parts_section, parts_text)
