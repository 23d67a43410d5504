-- The line of levels in a report.
use Rattle.std.specs.Prelude.{◌≡◌, ℕ, ◌+◌, ◌≤◌, Bool, List, ◌++◌, length, drop}
use Rattle.std.specs.List.{flat_map}
use Rattle.std.proofs.Common.{arith, sym, ◌∙◌, ap, length-append}
use Rattle.std.proofs.lemmas.Grind.{common_steps}
use Rattle.std.proofs.Math.Seq.{drop-append_seam}
use Rattle.net_theory.specs.Document.{Name}
use Rattle.improve_theory.specs.Undecided.{Undecided}
use Rattle.improve_windows.specs.Report.{first_line, last_line, window_text, report_text}
use Rattle.wish_names.specs.declared.wishes.LevelsAsked.TheVariants.{Tell}
use Rattle.improve_wishes.specs.LevelsReport.{short_report, wished_report}

whole_is : (first windows last : List ℕ) → first ++ windows ++ last ≡ first ++ (windows ++ last)
whole_is first windows last = grind (arith, common_steps)

rest_is : (first windows last : List ℕ) → drop (length first) (first ++ windows ++ last) ≡ windows ++ last
rest_is first windows last =
    ap (drop (length first)) (whole_is first windows last) ∙ drop-append_seam first (windows ++ last)

joined_is : (short first windows last : List ℕ) →
    short ++ drop (length first) (first ++ windows ++ last) ≡ short ++ windows ++ last
joined_is short first windows last =
    ap (λ (t : List ℕ). short ++ t) (rest_is first windows last) ∙ sym (whole_is short windows last)

-- the line of gates is the beginning of a report
pub room_for_first : (names : List Name) (sources before after : ℕ) (settled : Bool) (named : List Undecided)
    (first whole : List ℕ) → first ≡ first_line before after →
    whole ≡ report_text names sources before after settled named → length first ≤ length whole
room_for_first names sources before after settled named first whole is all =
    let rest = flat_map (window_text names sources) named ++ last_line settled in
    let size : length whole ≡ length first + length rest =
    ap (length {A = ℕ}) (all ∙ whole_is (first_line before after) (flat_map (window_text names sources) named) (last_line settled))
    ∙ length-append (first_line before after) rest ∙ ap (λ (t : List ℕ). length t + length rest) (sym is) in
    omega (arith, size)

pub told : (names : List Name) (sources before after levels_before levels_after : ℕ) (settled : Bool)
    (named : List Undecided) (first short whole text : List ℕ) → first ≡ first_line before after →
    short ≡ short_report before after levels_before levels_after →
    whole ≡ report_text names sources before after settled named → text ≡ short ++ drop (length first) whole →
    text ≡ wished_report Tell names sources before after levels_before levels_after settled named
told names sources before after levels_before levels_after settled named first short whole text is s all t =
    let windows = flat_map (window_text names sources) named in
    let last = last_line settled in
    t ∙ ap (λ (x : List ℕ). short ++ drop (length x) whole) is
    ∙ ap (λ (w : List ℕ). short ++ drop (length (first_line before after)) w) all
    ∙ joined_is short (first_line before after) windows last
    ∙ ap (λ (x : List ℕ). x ++ windows ++ last) s

pub ruleset telling = (common_steps, room_for_first, told)
