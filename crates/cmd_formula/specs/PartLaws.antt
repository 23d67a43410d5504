-- The parts of a valid certificate by its header and its chain are those by its sections.
use Rattle.std.proofs.Common.{◌≡◌, ℕ, zero, suc, ◌+◌, ◌-◌, ◌<◌, ◌≤◌, Bool, true, false, cond, List, [], ◌∷◌}
use Rattle.std.proofs.Common.{length, Option, Some, None, refl, sym, ap, ◌∙◌, subst, arith}
use Rattle.std.specs.Prelude.{nat_lt, slice_get, option_and_then}
use Rattle.std.specs.Option.{option_map}
use Rattle.std.proofs.lemmas.Bool.Decides.{nat_tests}
use Rattle.text_core.specs.Lines.{lines_of}
use Rattle.chain_theory.specs.Chain.{Chain}
use Rattle.chain_theory.specs.Limits.{most_steps}
use Rattle.sat_theory.specs.Formula.{Formula}
use Rattle.enc_theory.specs.declared.subproblem.Subproblem.{Subproblem}
use Rattle.cert_theory.specs.declared.data.Header.{Header}
use Rattle.cert_theory.specs.declared.data.Verdict.{Verdict}
use Rattle.cert_theory.specs.Certificate.{Certificate, Section, SubproblemLog, AreSections, IsSection}
use Rattle.cert_theory.specs.Certificate.{IsTrailer, IsValid, formula_of, subproblems_of, first_open}
use Rattle.cert_theory.specs.Spelling.{text_of, certificate_lines, IsCertificateText}
use Rattle.cert_laws.specs.CertificatesAgain.{lines_again}
use Rattle.cert_file.specs.Claims.{IsClaim}
use Rattle.cert_file.specs.ClaimLaws.{own_claim, one_certificate}
use Rattle.cert_file.specs.declared.claim.Claim.{Claim}
use Rattle.cmd_formula.specs.Claimed.{IsClaimed, IsFound}
use Rattle.cmd_formula.specs.Dimacs.{lrat_text}
use Rattle.cmd_formula.specs.LogCounts.{log_found, log_missing}
use Rattle.cmd_formula.specs.LogLines.{log_lines}
use Rattle.cmd_formula.specs.Parts.{numbered, size_asked, size_in, Part, log_or_none, log_in, part_by, part_in, part_of, count_of, formula_at}

-- ---- elements of lists

got_none : {X : Type 0} (xs : List X) (i : ℕ) → length xs ≤ i → slice_get xs i ≡ None
got_none [] i high = refl
got_none (x ∷ xs) zero high = absurd (omega arith)
got_none (x ∷ xs) (suc i) high = got_none xs i (omega arith)

-- ---- sizes

lt_is : (a b : ℕ) → nat_lt a b ≡ true → a < b
lt_is a b e = grind (arith, nat_tests)

lt_isnt : (a b : ℕ) → nat_lt a b ≡ false → b ≤ a
lt_isnt a b e = grind (arith, nat_tests)

chosen_some : {X : Type 0} (b : Bool) (x y : X) → cond b (Some x) None ≡ Some y → (b ≡ true) × (x ≡ y)
chosen_some true x y e = (refl, cc)
chosen_some false x y e = absurd cc

chosen_none : {X : Type 0} (b : Bool) (x : X) → cond b (Some x) None ≡ None → b ≡ false
chosen_none true x e = absurd cc
chosen_none false x e = refl

size_found : (count : ℕ) (size : Option ℕ) (r : ℕ) → size_in count size ≡ Some r → (size_asked count size ≡ r) × (r < count)
size_found count size r e =
    let is = chosen_some (nat_lt (size_asked count size) count) (size_asked count size) r e in
    let low : size_asked count size < count = lt_is (size_asked count size) count is.0 in
    (is.1, omega (arith, low, is.1))

size_none : (count : ℕ) (size : Option ℕ) → size_in count size ≡ None → count ≤ size_asked count size
size_none count size e = lt_isnt (size_asked count size) count (chosen_none (nat_lt (size_asked count size) count) (size_asked count size) e)

count_by : (h : Header) (count : ℕ) (low : Option ℕ) (o : Option Chain) (v : Verdict) → IsTrailer h count low o v → count_of h o ≡ count
count_by h count low None v is = sym is.0
count_by h count low (Some c) v is = is.0.size_is

count_is : (b : Certificate) → IsValid b → count_of b.header b.chain ≡ length b.sections
count_is b valid = count_by b.header (length b.sections) (first_open b.sections) b.chain b.verdict valid.trailer

few_sections : (b : Certificate) → IsValid b → length b.sections ≤ most_steps + 1
few_sections b valid = omega (arith, valid.sizes_to, valid.header.settings.max_to)

-- ---- the section of a size

record HasSection (h : Header) (size : ℕ) (o : Option Section) : Type 0 where
  section : Section
  got : o ≡ Some section
  is : IsSection h size section

section_at : (h : Header) (k : ℕ) (ss : List Section) (i : ℕ) → AreSections h k ss → i < length ss → HasSection h (k + i) (slice_get ss i)
unfolding AreSections
section_at h k [] i are low = absurd (omega arith)
section_at h k (s ∷ ss) zero are low =
    let same : k ≡ k + 0 = omega arith in
    record { section = s; got = refl; is = subst (λ (n : ℕ). IsSection h n s) same are.0 }
section_at h k (s ∷ ss) (suc i) are low =
    let same : k + 1 + i ≡ k + suc i = omega arith in
    subst (λ (n : ℕ). HasSection h n (slice_get ss i)) same (section_at h (k + 1) ss i are.1 (omega arith))

section_of : (b : Certificate) (r : ℕ) → IsValid b → r < length b.sections → HasSection b.header r (slice_get b.sections r)
section_of b r valid low =
    let same : 0 + r ≡ r = omega arith in
    subst (λ (n : ℕ). HasSection b.header n (slice_get b.sections r)) same (section_at b.header 0 b.sections r valid.sections low)

-- ---- the part of a size

-- a certificate has a part with this formula, and the lines of its log are these
pub record HasBoth (b : Certificate) (size : Option ℕ) (part r : ℕ) (f : Formula) : Type 0 where
  pub found : Part
  pub is_part : part_of b size part ≡ Some found
  pub formula : found.formula ≡ f
  pub log : text_of (log_lines r (part - 1) (certificate_lines b)) ≡ lrat_text found.log

got_high : {X : Type 0} (xs : List X) (i : ℕ) → slice_get xs i ≡ None → length xs ≤ i
got_high [] i none = omega arith
got_high (x ∷ xs) zero none = absurd cc
got_high (x ∷ xs) (suc i) none = let high = got_high xs i none in omega (arith, high)

got_low : {X : Type 0} (xs : List X) (i : ℕ) (x : X) → slice_get xs i ≡ Some x → i < length xs
got_low [] i x is = absurd cc
got_low (y ∷ ys) zero x is = omega arith
got_low (y ∷ ys) (suc i) x is = let low = got_low ys i x is in omega (arith, low)

log_by : (b : Certificate) (r : ℕ) (s : Section) (j : ℕ) (o : Option SubproblemLog) → IsValid b → r ≤ most_steps → slice_get b.sections r ≡ Some s →
    slice_get s.subproblems j ≡ o → text_of (log_lines r j (certificate_lines b)) ≡ lrat_text (log_or_none o)
log_by b r s j None valid small got is = log_missing b r s j valid small got (got_high s.subproblems j is)
log_by b r s j (Some q) valid small got is = log_found b r s j q valid small got is (got_low s.subproblems j q is)

log_of_part : (b : Certificate) (r : ℕ) (s : Section) (part : ℕ) (x : Subproblem) → IsValid b → r ≤ most_steps → slice_get b.sections r ≡ Some s →
    numbered part (subproblems_of b.header s.size) ≡ Some x
    → text_of (log_lines r (part - 1) (certificate_lines b)) ≡ lrat_text (log_in part s)
log_of_part b r s zero x valid small got is = absurd cc
log_of_part b r s (suc j) x valid small got is =
    let same : suc j - 1 ≡ j = omega arith in
    ap (λ (n : ℕ). text_of (log_lines r n (certificate_lines b))) same
    ∙ log_by b r s j (slice_get s.subproblems j) valid small got refl

part_here : (b : Certificate) (size : Option ℕ) (part r : ℕ) (s : Section) → size_asked (length b.sections) size ≡ r → slice_get b.sections r ≡ Some s →
    part_of b size part ≡ part_in b.header part s
part_here b size part r s same got =
    ap (λ (n : ℕ). option_and_then (part_in b.header part) (slice_get b.sections n)) same
    ∙ ap (option_and_then (part_in b.header part)) got

both_by : (b : Certificate) (size : Option ℕ) (part r : ℕ) (s : Section) (f : Formula) (o : Option Subproblem) → IsValid b → r ≤ most_steps →
    slice_get b.sections r ≡ Some s
    → IsSection b.header r s → part_of b size part ≡ part_in b.header part s → numbered part (subproblems_of b.header s.size) ≡ o
    → option_map (formula_of b.header r) o ≡ Some f → HasBoth b size part r f
both_by b size part r s f None valid small got is here numb e = absurd cc
both_by b size part r s f (Some x) valid small got is here numb e = record {
  found = part_by b.header part s x;
  is_part = here ∙ ap (option_map (part_by b.header part s)) numb;
  formula = ap (λ (n : ℕ). formula_of b.header n x) is.size_is ∙ one (formula_of b.header r x) f e;
  log = log_of_part b r s part x valid small got numb;
}
  where
    one : (y z : Formula) → Some y ≡ Some z → y ≡ z
    one y z same = cc

-- the formula of a size, by the size of its section
by_section : (h : Header) (part r : ℕ) (s : Section) → IsSection h r s →
    option_map (formula_of h r) (numbered part (subproblems_of h s.size)) ≡ formula_at h part r
by_section h part r s is = ap (λ (n : ℕ). option_map (formula_of h r) (numbered part (subproblems_of h n))) is.size_is

found_part : (b : Certificate) (size : Option ℕ) (part r : ℕ) (f : Formula) → IsValid b → size_in (length b.sections) size ≡ Some r →
    formula_at b.header part r ≡ Some f → HasBoth b size part r f
found_part b size part r f valid at is =
    let sized = size_found (length b.sections) size r at in
    let has = section_of b r valid sized.1 in
    let few = few_sections b valid in
    both_by b size part r has.section f (numbered part (subproblems_of b.header has.section.size)) valid (omega (arith, few, sized.1)) has.got has.is
    (part_here b size part r has.section sized.0 has.got) refl (by_section b.header part r has.section has.is ∙ is)

none_by : (h : Header) (part r : ℕ) (s : Section) (o : Option Subproblem) → numbered part (subproblems_of h s.size) ≡ o
    → option_map (formula_of h r) o ≡ None → part_in h part s ≡ None
none_by h part r s None numb e = ap (option_map (part_by h part s)) numb
none_by h part r s (Some x) numb e = absurd cc

none_found : (b : Certificate) (size : Option ℕ) (part r : ℕ) → IsValid b → size_in (length b.sections) size ≡ Some r → formula_at b.header part r ≡ None →
    part_of b size part ≡ None
none_found b size part r valid at is =
    let sized = size_found (length b.sections) size r at in
    let has = section_of b r valid sized.1 in
    part_here b size part r has.section sized.0 has.got
    ∙ none_by b.header part r has.section (numbered part (subproblems_of b.header has.section.size)) refl (by_section b.header part r has.section has.is ∙ is)

none_sized : (b : Certificate) (size : Option ℕ) (part : ℕ) → size_in (length b.sections) size ≡ None → part_of b size part ≡ None
none_sized b size part at = ap (option_and_then (part_in b.header part)) (got_none b.sections (size_asked (length b.sections) size) (size_none (length b.sections) size at))

-- ---- what was read

claimed_count : (bytes : List ℕ) (t : Claim) (is : IsClaimed bytes t) → count_of t.header t.chain ≡ length is.certificate.sections
claimed_count bytes t is =
    (λ i. count_of (is.is_claim.header i) (is.is_claim.chain i)) ∙ count_is is.certificate is.is_certificate.valid

pub claimed_few : (bytes : List ℕ) (t : Claim) → IsClaimed bytes t → count_of t.header t.chain ≤ most_steps + 1
claimed_few bytes t is = omega (arith, claimed_count bytes t is, few_sections is.certificate is.is_certificate.valid)

pub claimed_basis : (bytes : List ℕ) (t : Claim) → IsClaimed bytes t → 0 < t.header.basis
claimed_basis bytes t is = subst (λ (h : Header). 0 < h.basis) (sym is.is_claim.header) is.is_certificate.valid.header.settings.basis_from

pub claimed_none : (bytes : List ℕ) (t : Claim) (size : Option ℕ) (part : ℕ) (is : IsClaimed bytes t) → size_in (count_of t.header t.chain) size ≡ None →
    part_of is.certificate size part ≡ None
claimed_none bytes t size part is at = none_sized is.certificate size part (ap (λ (n : ℕ). size_in n size) (sym (claimed_count bytes t is)) ∙ at)

pub claimed_no_formula : (bytes : List ℕ) (t : Claim) (size : Option ℕ) (part r : ℕ) (is : IsClaimed bytes t) → size_in (count_of t.header t.chain) size ≡ Some r →
    formula_at t.header part r ≡ None
    → part_of is.certificate size part ≡ None
claimed_no_formula bytes t size part r is at none =
    none_found is.certificate size part r is.is_certificate.valid (ap (λ (n : ℕ). size_in n size) (sym (claimed_count bytes t is)) ∙ at)
    (ap (λ (h : Header). formula_at h part r) (sym is.is_claim.header) ∙ none)

pub found_both : (bytes : List ℕ) (size : Option ℕ) (part r : ℕ) (f : Formula) (is : IsFound size part bytes r f) → HasBoth is.claimed.certificate size part r f
found_both bytes size part r f is =
    let t = is.claim in
    found_part is.claimed.certificate size part r f is.claimed.is_certificate.valid
    (ap (λ (n : ℕ). size_in n size) (sym (claimed_count bytes t is.claimed)) ∙ is.size_is)
    (ap (λ (h : Header). formula_at h part r) (sym is.claimed.is_claim.header) ∙ is.formula_is)

pub log_bytes_found : (bytes : List ℕ) (size : Option ℕ) (part r : ℕ) (f : Formula) (is : IsFound size part bytes r f)
    → text_of (log_lines r (part - 1) (lines_of bytes)) ≡ lrat_text (found_both bytes size part r f is).found.log
log_bytes_found bytes size part r f is =
    let b = is.claimed.certificate in
    ap (λ (xs : List ℕ). text_of (log_lines r (part - 1) (lines_of xs))) is.claimed.is_certificate.text
    ∙ ap (λ ls. text_of (log_lines r (part - 1) ls)) (lines_again b is.claimed.is_certificate.valid)
    ∙ (found_both bytes size part r f is).log

-- ---- one part

not_both_parts : (o : Option Part) (p : Part) → o ≡ Some p → o ≡ None → ⊥
not_both_parts o p one none = cc

same_place : (b c : Certificate) (size : Option ℕ) (part : ℕ) (p : Part) (at : Option ℕ) → IsValid b → IsValid c → c.header ≡ b.header →
    length b.sections ≡ length c.sections
    → part_of b size part ≡ Some p → part_of c size part ≡ None → size_in (length b.sections) size ≡ at → ⊥
same_place b c size part p None valid other header count is none at = not_both_parts (part_of b size part) p is (none_sized b size part at)
same_place b c size part p (Some r) valid other header count is none at = by_formula (formula_at b.header part r) refl
  where
    by_formula : (o : Option Formula) → formula_at b.header part r ≡ o → ⊥
    by_formula None e = not_both_parts (part_of b size part) p is (none_found b size part r valid at e)
    by_formula (Some f) e =
        let has = found_part c size part r f other (ap (λ (n : ℕ). size_in n size) (sym count) ∙ at) (ap (λ (h : Header). formula_at h part r) header ∙ e) in
        not_both_parts (part_of c size part) has.found has.is_part none

-- two certificates of one text both have a part, or neither has
pub one_place : (bytes : List ℕ) (b c : Certificate) (size : Option ℕ) (part : ℕ) (p : Part) → IsCertificateText bytes b → IsCertificateText bytes c
    → part_of b size part ≡ Some p → part_of c size part ≡ None → ⊥
one_place bytes b c size part p is other has none =
    let same : IsClaim c (own_claim b) = one_certificate bytes b c is other in
    let counts : count_of b.header b.chain ≡ count_of c.header c.chain = λ i. count_of (same.header i) (same.chain i) in
    same_place b c size part p (size_in (length b.sections) size) is.valid other.valid (sym same.header)
    (sym (count_is b is.valid) ∙ counts ∙ count_is c other.valid) has none refl
