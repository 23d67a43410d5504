-- The header of a search, and numbered subproblems.
use Rattle.std.specs.Prelude.{◌≡◌, ℕ, ◌≤◌, ◌<◌, List, length, None, Contains, slice_get, slice_index_or}
use Rattle.std.proofs.Common.{refl, arith, sym, ap, ◌∙◌, subst}
use Rattle.std.proofs.lemmas.Grind.{common_steps}
use Rattle.std.proofs.lemmas.Option.{slice_get_read, slice_get_past}
use Rattle.sat_theory.specs.Formula.{Formula}
use Rattle.tt_core.specs.Words.{Words, IsSpec}
use Rattle.enc_theory.specs.declared.subproblem.Subproblem.{Subproblem}
use Rattle.settings.specs.declared.synth.SynthSettings.{SynthSettings}
use Rattle.settings.specs.Synth.{IsInRange}
use Rattle.cert_theory.specs.declared.data.Header.{Header}
use Rattle.cert_theory.specs.Certificate.{IsHeader, subproblems_of}
use Rattle.cert_theory.specs.Coding.{coding_of}
use Rattle.size_loop.specs.declared.trying.SubproblemOutcome.{SubproblemOutcome}
use Rattle.size_loop.specs.Coded.{IsCodedBy}
use Rattle.size_loop.specs.Outcomes.{IsTried}
use Rattle.synth_core.specs.SettingsHeader.{header_of}
use Rattle.cmd_part.specs.PartReport.{IsPart, part_at}

pub settings_header : (w : Words) (s : SynthSettings) → IsSpec w → s.basis < 65536 → IsInRange s → IsHeader (header_of w s)
settings_header w s spec below range = record {
  tables = spec;
  basis_below = below;
  settings = record {
    basis_from = range.basis_from;
    max_to = range.max_to;
    conflicts_from = range.conflicts_from;
    conflicts_to = range.conflicts_to;
    effort_to = omega arith;
  };
}

pub same_header : (w : Words) (s : SynthSettings) (h : Header) → h ≡ header_of w s → IsHeader (header_of w s) → IsHeader h
same_header w s h same is = subst IsHeader (sym same) is

-- a subproblem that was taken out is one of those of the size
pub taken_among : (xs ss : List Subproblem) (i : ℕ) (s : Subproblem) → xs ≡ ss → i < length xs →
    s ≡ slice_index_or xs i s → Contains ss s
taken_among xs ss i s same low is = subst (λ (ys : List Subproblem). Contains ys s) same (i, low, sym is)

abbrev Listing : Type 0
Listing = Words → ℕ → List Subproblem

abbrev Writing : Type 0
Writing = Words → ℕ → ℕ → Subproblem → Formula

listed : (h : Header) (size : ℕ) (xs : List Subproblem) (listing : Listing) (formula : Writing) →
    IsCodedBy (coding_of h.method) listing formula → xs ≡ listing h.spec size → subproblems_of h size ≡ xs
listed h size xs listing formula coded same = sym (same ∙ coded.subproblems_are h.spec size)

-- its result is that of the part
pub taken_part : (h : Header) (size before : ℕ) (xs : List Subproblem) (s : Subproblem) (outcome : SubproblemOutcome)
    (listing : Listing) (formula : Writing) → IsCodedBy (coding_of h.method) listing formula →
    xs ≡ listing h.spec size → before < length xs → s ≡ slice_index_or xs before s → IsTried h size s outcome →
    IsPart h size before outcome
taken_part h size before xs s outcome listing formula coded same low is tried = record {
  subproblem = s;
  part_is = ap (λ (ys : List Subproblem). slice_get ys before) (listed h size xs listing formula coded same) ∙ slice_get_read xs (length xs) before s refl low is;
  tried = tried;
}

-- there is no such part
pub no_part_there : (h : Header) (size before : ℕ) (xs : List Subproblem) (listing : Listing) (formula : Writing) →
    IsCodedBy (coding_of h.method) listing formula → xs ≡ listing h.spec size → length xs ≤ before →
    part_at h size before ≡ None
no_part_there h size before xs listing formula coded same past =
    ap (λ (ys : List Subproblem). slice_get ys before) (listed h size xs listing formula coded same) ∙ slice_get_past xs before past

pub ruleset trying = (common_steps, settings_header, same_header, taken_among, taken_part, no_part_there)
