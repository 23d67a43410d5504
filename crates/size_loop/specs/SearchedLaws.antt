-- The laws for callers of `advance`: before the first size there is no section, each step adds one, and with a
-- trailer they are a certificate.
use Rattle.std.proofs.Common.{◌≡◌, ℕ, ◌+◌, ◌≤◌, List, [], ◌∷◌, ◌++◌, length, Option, None, refl, subst, sym, arith, zero-add, ◌∙◌}
use Rattle.std.proofs.lemmas.Grind.{common_steps}
use Rattle.std.proofs.lemmas.List.Elements.{All-push}
use Rattle.chain_theory.specs.Chain.{Chain}
use Rattle.cert_theory.specs.declared.data.Header.{Header}
use Rattle.cert_theory.specs.declared.data.Verdict.{Verdict}
use Rattle.cert_theory.specs.Certificate.{Section, IsHeader, IsSection, AreSections, first_open, IsTrailer, IsValid}
use Rattle.cert_theory.specs.SectionLaws.{AreSections-push}
use Rattle.cert_theory.specs.LiveBounds.{HasLiveBoundsIn}
use Rattle.size_loop.specs.State.{State}
use Rattle.size_loop.specs.Searched.{HasSearched}
use Rattle.size_loop.specs.Advancing.{open_with, after_section}

first_open-push : (ss : List Section) (s : Section) → first_open (ss ++ s ∷ []) ≡ open_with (first_open ss) s
first_open-push [] s = grind (arith, common_steps)
first_open-push (x ∷ xs) s = grind (arith, common_steps, first_open-push xs s)

-- before the first size there is no section
pub searched_none : (h : Header) → HasSearched (record { header = h; next = 0; low = None }) []
unfolding AreSections
searched_none h = record { are_sections = tt; next_is = refl; next_to = omega arith; low_is = refl; live_bounds = λ k d inside. absurd (omega (arith, inside)) }

-- the section of the next size is appended
pub searched_more : (s : State) (ss : List Section) (section : Section) → HasSearched s ss → s.next ≤ s.header.max →
    IsSection s.header s.next section → HasLiveBoundsIn s.header section →
    HasSearched (after_section s section) (ss ++ section ∷ [])
searched_more s ss section searched within is_section has_live_bounds =
    record {
      are_sections = AreSections-push s.header 0 ss section searched.are_sections (let e : s.next ≡ 0 + length ss =
          searched.next_is ∙ sym (zero-add (length ss)) in subst (λ (k : ℕ). IsSection s.header k section) e is_section);
      next_is = grind (arith, common_steps, searched.next_is);
      next_to = omega (arith, within);
      low_is = rw searched.low_is (sym (first_open-push ss section));
      live_bounds = All-push (HasLiveBoundsIn s.header) ss section searched.live_bounds has_live_bounds;
    }

-- with a trailer they are a valid certificate
pub searched_valid : (s : State) (ss : List Section) (chain : Option Chain) (verdict : Verdict) → IsHeader s.header →
    HasSearched s ss → IsTrailer s.header s.next s.low chain verdict →
    IsValid (record { header = s.header; sections = ss; chain = chain; verdict = verdict })
searched_valid s ss chain verdict is_header searched trailer =
    record {
      header = is_header;
      sections = searched.are_sections;
      sizes_to = subst (λ (k : ℕ). k ≤ s.header.max + 1) searched.next_is searched.next_to;
      trailer = subst (λ (low : Option ℕ). IsTrailer s.header (length ss) low chain verdict) searched.low_is (subst (λ (k : ℕ). IsTrailer s.header k s.low chain verdict) searched.next_is trailer);
    }

pub ruleset steps = (common_steps, searched_none, searched_more, searched_valid)
