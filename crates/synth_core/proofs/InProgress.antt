-- A certificate with one more piece.
use Rattle.std.proofs.Common.{◌≡◌, ℕ, ◌≤◌, ◌<◌, List, [], ◌∷◌, ◌++◌, length, Option, None, refl, sym, ap, subst, ◌∙◌, append_assoc, arith}
use Rattle.std.specs.List.{flat_map}
use Rattle.std.proofs.lemmas.Grind.{common_steps, flat_map-append}
use Rattle.text_core.specs.Lines.{lines_of, line_bytes}
use Rattle.tt_core.specs.Words.{specification}
use Rattle.tt_core.specs.Spelling.{SpellsTables}
use Rattle.chain_theory.specs.Chain.{Chain}
use Rattle.cert_theory.specs.declared.data.Header.{Header}
use Rattle.cert_theory.specs.declared.data.Verdict.{Verdict}
use Rattle.cert_theory.specs.Certificate.{Section, Certificate, IsHeader, IsSection, IsTrailer}
use Rattle.cert_theory.specs.Spelling.{header_lines, section_lines, trailer_lines, text_of, cert_text}
use Rattle.cert_theory.specs.Prefix.{begun_lines}
use Rattle.cert_theory.specs.PrefixLaws.{header_begins, section_goes_on}
use Rattle.size_loop.specs.State.{State}
use Rattle.cert_theory.specs.LiveBounds.{HasLiveBoundsIn}
use Rattle.size_loop.specs.SearchedLaws.{searched_none, searched_more, searched_valid}
use Rattle.size_loop.specs.Advancing.{after_section}
use Rattle.settings.specs.declared.methods.MethodChoice.{MethodChoice}
use Rattle.settings.specs.declared.synth.SynthSettings.{SynthSettings}
use Rattle.settings.specs.Synth.{IsInRange}
use Rattle.synth_core.specs.SettingsHeader.{header_of}
use Rattle.synth_core.specs.Certifying.{IsCertificate}
use Rattle.synth_core.specs.Pieces.{IsInProgress}

-- the settings of a certificate are in their ranges, whatever the method and the effort
pub header_range : (s : SynthSettings) (choice : MethodChoice) → IsInRange s → IsInRange (record { basis = s.basis; method = choice; max = s.max; conflicts = s.conflicts; effort = 0 })
header_range s choice range = record { basis_from = range.basis_from; max_to = range.max_to; conflicts_from = range.conflicts_from; conflicts_to = range.conflicts_to; effort_to = omega arith }

-- before the first size
begun_by : (bytes : List ℕ) (settings : SynthSettings) (h : Header) (s : State) (text : List ℕ) →
    s ≡ record { header = h; next = 0; low = None } → h ≡ header_of h.spec settings → IsHeader h →
    0 < length h.spec.on → SpellsTables (specification h.spec) (lines_of bytes) [] → text ≡ text_of (header_lines h) →
    IsInProgress bytes settings s text
begun_by bytes settings h s text is same header output tables spelled =
    subst (λ (t : State). IsInProgress bytes settings t text) (sym is)
    (subst (λ (xs : List ℕ). IsInProgress bytes settings (record { header = h; next = 0; low = None }) xs) (sym spelled)
    (record { header_is = same; tables = tables; sections = []; searched = searched_none h; begun = header_begins h header output }))

state_is : (s : State) (h : Header) → s.header ≡ h → s.next ≡ 0 → s.low ≡ None → s ≡ record { header = h; next = 0; low = None }
state_is s h header next low = λ i. record { header = header i; next = next i; low = low i }

pub begun : (bytes : List ℕ) (settings : SynthSettings) (h : Header) (s : State) (text : List ℕ) → s.header ≡ h →
    s.next ≡ 0 → s.low ≡ None → h ≡ header_of h.spec settings → IsHeader h → 0 < length h.spec.on →
    SpellsTables (specification h.spec) (lines_of bytes) [] → text ≡ text_of (header_lines h) →
    IsInProgress bytes settings s text
begun bytes settings h s text header next low same is_header output tables spelled =
    begun_by bytes settings h s text (state_is s h header next low) same is_header output tables spelled

-- with a section
section_joins : (bytes : List ℕ) (settings : SynthSettings) (s : State) (before : List ℕ) (section : Section) →
    IsInProgress bytes settings s before → s.next ≤ s.header.max → IsSection s.header s.next section →
    HasLiveBoundsIn s.header section → IsInProgress bytes settings (after_section s section) (before ++
    text_of (section_lines section))
section_joins bytes settings s before section under within is_section live_bounds =
    let next = under.searched.next_is in
    record {
      header_is = under.header_is;
      tables = under.tables;
      sections = under.sections ++ section ∷ [];
      searched = searched_more s under.sections section under.searched within is_section live_bounds;
      begun = section_goes_on s.header under.sections before section under.begun
          (subst (λ (k : ℕ). IsSection s.header k section) next is_section)
          (subst (λ (k : ℕ). k ≤ s.header.max) next within);
    }

pub section_more : (bytes : List ℕ) (settings : SynthSettings) (s rest : State) (before text : List ℕ)
    (section : Section) → IsInProgress bytes settings s before → s.next ≤ s.header.max →
    IsSection s.header s.next section → HasLiveBoundsIn s.header section → rest ≡ after_section s section →
    text ≡ text_of (section_lines section) → IsInProgress bytes settings rest (before ++ text)
section_more bytes settings s rest before text section under within is_section live_bounds is spelled =
    subst (λ (t : State). IsInProgress bytes settings t (before ++ text)) (sym is)
    (subst (λ (xs : List ℕ). IsInProgress bytes settings (after_section s section) (before ++ xs)) (sym spelled) (section_joins bytes settings s before section under within is_section live_bounds))

-- with a trailer
whole_text : (h : Header) (sections : List Section) (before : List ℕ) (chain : Option Chain) (verdict : Verdict) →
    before ≡ text_of (begun_lines h sections) → before ++
    text_of (trailer_lines chain verdict) ≡ cert_text (record {
      header = h;
      sections = sections;
      chain = chain;
      verdict = verdict;
    })
whole_text h sections before chain verdict is =
    ap (λ (xs : List ℕ). xs ++ text_of (trailer_lines chain verdict)) is
    ∙ sym (flat_map-append line_bytes (begun_lines h sections) (trailer_lines chain verdict))
    ∙ ap text_of (append_assoc (header_lines h) (flat_map section_lines sections) (trailer_lines chain verdict))

pub ended : (bytes : List ℕ) (settings : SynthSettings) (s : State) (before text : List ℕ) (chain : Option Chain)
    (verdict : Verdict) → IsInProgress bytes settings s before → IsTrailer s.header s.next s.low chain verdict →
    text ≡ text_of (trailer_lines chain verdict) → IsCertificate bytes settings (before ++ text) verdict
ended bytes settings s before text chain verdict under trailer spelled =
    let certificate : Certificate = record { header = s.header; sections = under.sections; chain = chain; verdict = verdict } in
    record {
      certificate = certificate;
      is_certificate = record {
        valid = searched_valid s under.sections chain verdict under.begun.header under.searched trailer;
        output = under.begun.output;
        text = ap (λ (xs : List ℕ). before ++ xs) spelled ∙ whole_text s.header under.sections before chain verdict under.begun.text;
      };
      verdict_is = refl;
      header_is = under.header_is;
      tables = under.tables;
      live_bounds = under.searched.live_bounds;
    }

pub ruleset in_progress = (common_steps, header_range, begun, section_more, ended)
