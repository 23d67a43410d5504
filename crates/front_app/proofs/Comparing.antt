-- A comparison keeps its promise.
use Rattle.std.specs.Prelude.{◌≡◌, ℕ, List, []}
use Rattle.std.proofs.Common.{ap, ◌∙◌, subst}
use Rattle.std.proofs.lemmas.Grind.{common_steps}
use Rattle.format_names.specs.declared.formats.NetFormat.{NetFormat}
use Rattle.format_names.specs.declared.formats.FormatPair.{FormatPair}
use Rattle.frame_core.specs.declared.status.Status.{Status}
use Rattle.frame_core.specs.Outside.{PortState}
use Rattle.frame_core.specs.Performed.{IsPerformed}
use Rattle.frame_core.specs.Task.{IsTask}
use Rattle.cmd_formats.specs.FormatsLaws.{formats_is_task}
use Rattle.cmd_match.specs.MatchLaws.{match_is_task}
use Rattle.front_app.specs.declared.formats.CompareBy.{CompareBy}
use Rattle.front_app.specs.declared.formats.CompareBy.TheVariants.{Order, Names}
use Rattle.front_app.specs.Comparison.{pair_of, compare_task, KeepsComparison}

is_task : (way : CompareBy) (formats : FormatPair) (budget : ℕ) (text : List ℕ) → IsTask (compare_task way formats budget text)
is_task Order formats budget text = formats_is_task formats budget text
is_task Names formats budget text = match_is_task formats budget text

compared : (way : CompareBy) (formats : FormatPair) (budget : ℕ) (text : List ℕ) (source out note : PortState × PortState) (status : Status) →
    IsPerformed (compare_task way formats budget text) source out note status → KeepsComparison way formats budget text source out note status
compared way formats budget text source out note status performed = performed.promise [] (is_task way formats budget text)

pub compared_by : (way own : CompareBy) (formats : FormatPair) (budget : ℕ) (text : List ℕ) (source out note : PortState × PortState) (status : Status) →
    own ≡ way → IsPerformed (compare_task own formats budget text) source out note status →
    KeepsComparison way formats budget text source out note status
compared_by way own formats budget text source out note status is performed =
    subst (λ (m : CompareBy). KeepsComparison m formats budget text source out note status) is
    (compared own formats budget text source out note status performed)

-- the formats that are known by types
pub compared_in : (way own_way : CompareBy) (first second own other : NetFormat) (budget : ℕ) (text : List ℕ)
    (source out note : PortState × PortState) (status : Status) → own_way ≡ way → own ≡ first → other ≡ second →
    KeepsComparison own_way (pair_of own other) budget text source out note status →
    KeepsComparison way (pair_of first second) budget text source out note status
compared_in way own_way first second own other budget text source out note status w f s kept =
    subst (λ (p : FormatPair). KeepsComparison way p budget text source out note status)
    (ap (λ (x : NetFormat). pair_of x other) f ∙ ap (λ (x : NetFormat). pair_of first x) s)
    (subst (λ (m : CompareBy). KeepsComparison m (pair_of own other) budget text source out note status) w kept)

pub ruleset comparing = (common_steps, compared_by, compared_in)
