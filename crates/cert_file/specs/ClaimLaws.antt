-- The header, chain and verdict that are returned are those of the certificate, and no text has two.
use Rattle.std.proofs.Common.{◌≡◌, ℕ, suc, ◌+◌, ◌<◌, List, [], ◌∷◌, ◌++◌, length, map, Option, Some, None, Result, Ok, refl, sym, ap, ◌∙◌, subst, arith, append_assoc}
use Rattle.std.specs.Prelude.{option_and_then}
use Rattle.std.specs.List.{flat_map}
use Rattle.std.specs.Option.{option_map}
use Rattle.std.proofs.lemmas.List.{length-append}
use Rattle.text_core.specs.Lines.{Line, lines_of}
use Rattle.chain_theory.specs.Chain.{Chain, Step}
use Rattle.chain_theory.specs.declared.data.Out.{Out}
use Rattle.tt_core.specs.Tables as tables
use Rattle.tt_core.specs.ReadBack.{tables_again}
use Rattle.chain_core.specs.Block as block
use Rattle.chain_core.specs.Spelling.{line, step_lines, out_line, chain_lines}
use Rattle.chain_core.specs.WrittenBlockLaws.{lines_read}
use Rattle.cert_theory.specs.declared.data.CertificateError.{CertificateError}
use Rattle.cert_theory.specs.declared.data.Header.{Header}
use Rattle.cert_theory.specs.declared.data.Verdict.{Verdict}
use Rattle.cert_theory.specs.Certificate.{Certificate, IsHeader, first_open, found, not_found, IsFound, IsTrailer, IsValid}
use Rattle.cert_theory.specs.Judging.{certificate_of}
use Rattle.cert_theory.specs.Spelling.{tables_lines, basis_line, method_line, conflicts_line, max_line, header_lines}
use Rattle.cert_theory.specs.Spelling.{section_lines, verdict_line, end_text, trailer_lines, certificate_lines}
use Rattle.cert_theory.specs.Spelling.{IsCertificateText}
use Rattle.cert_laws.specs.LinesAgain.{basis_again, method_again, conflicts_again, max_again}
use Rattle.cert_laws.specs.CertificatesAgain.{spells_tables, basis_lower, lines_again, text_again}
use Rattle.cert_laws.specs.SectionsAgain.{small_chain}
use Rattle.cert_file.specs.HeaderLines.{with_max, with_conflicts, with_method, with_basis, header_by, header_in}
use Rattle.cert_file.specs.Claims.{chain_read, IsHeld, HasEnded, HasClaim, IsClaim}
use Rattle.cert_file.specs.declared.claim.Claim.{Claim}

read_lines : (bytes : List ℕ) (b : Certificate) → IsCertificateText bytes b → lines_of bytes ≡ certificate_lines b
read_lines bytes b is = ap lines_of is.text ∙ lines_again b is.valid

-- ---- the header

four_again : (h : Header) (rest : List Line) → IsHeader h →
    with_basis h.spec (line (basis_line h.basis) ∷ line (method_line h.method) ∷ line
    (conflicts_line h.conflicts) ∷ line (max_line h.max) ∷ rest) ≡ Some h
unfolding with_basis with_method with_conflicts with_max
four_again h rest is =
    let m = line (method_line h.method) in
    let c = line (conflicts_line h.conflicts) in
    let x = line (max_line h.max) in
    ap (option_and_then (λ basis. with_method h.spec basis (m ∷ c ∷ x ∷ rest))) (basis_again h.basis is.settings.basis_from is.basis_below)
    ∙ ap (option_and_then (λ method. with_conflicts h.spec h.basis method (c ∷ x ∷ rest))) (method_again h.method)
    ∙ ap (option_and_then (λ conflicts. with_max h.spec h.basis h.method conflicts (x ∷ rest))) (conflicts_again h.conflicts is.settings.conflicts_from is.settings.conflicts_to)
    ∙ ap (option_map (λ max. record { spec = h.spec; basis = h.basis; method = h.method; conflicts = h.conflicts; max = max })) (max_again h.max is.settings.max_to)

header_again : (h : Header) (rest : List Line) → IsHeader h → 0 < length h.spec.on → header_in (header_lines h ++ rest) ≡ Some h
unfolding header_in header_by
header_again h rest is output =
    let others = line (method_line h.method) ∷ line (conflicts_line h.conflicts) ∷ line (max_line h.max) ∷ rest in
    ap (λ (ls : List Line). header_by (tables.tables_of ls))
    (append_assoc (tables_lines h.spec) (line (basis_line h.basis) ∷ line (method_line h.method) ∷ line
    (conflicts_line h.conflicts) ∷ line (max_line h.max) ∷ []) rest)
    ∙ ap header_by (tables_again h.spec (tables_lines h.spec ++ line (basis_line h.basis) ∷ others)
    (line (basis_line h.basis) ∷ others) is.tables (spells_tables h.spec (line (basis_line h.basis)) others output
    (basis_lower h.basis)))
    ∙ four_again h rest is

header_is : (bytes : List ℕ) (b : Certificate) → IsCertificateText bytes b → header_in (lines_of bytes) ≡ Some b.header
header_is bytes b is = ap header_in (read_lines bytes b is) ∙ header_again b.header (flat_map section_lines b.sections ++ trailer_lines b.chain b.verdict) is.valid.header is.output

header_same : (bytes : List ℕ) (b : Certificate) (h : Header) → IsCertificateText bytes b → header_in (lines_of bytes) ≡ Some h → h ≡ b.header
header_same bytes b h is read = let e : Some h ≡ Some b.header = sym read ∙ header_is bytes b is in cc

-- ---- the chain

count_steps : (place : ℕ) (ss : List Step) → length (step_lines place ss) ≡ length ss
unfolding step_lines
count_steps place [] = refl
count_steps place (s ∷ ss) = ap (λ (n : ℕ). suc n) (count_steps (place + 1) ss)

count_outs : (os : List Out) → length (map out_line os) ≡ length os
count_outs [] = refl
count_outs (o ∷ os) = ap (λ (n : ℕ). suc n) (count_outs os)

tail_is : (x y : Line) (xs ys : List Line) → x ∷ xs ≡ y ∷ ys → xs ≡ ys
tail_is x y xs ys e = cc

same_after : (xs ys us vs : List Line) → xs ++ us ≡ ys ++ vs → length xs ≡ length ys → us ≡ vs
same_after [] [] us vs e count = e
same_after [] (y ∷ ys) us vs e count = absurd (omega (arith, count))
same_after (x ∷ xs) [] us vs e count = absurd (omega (arith, count))
same_after (x ∷ xs) (y ∷ ys) us vs e count = same_after xs ys us vs (tail_is x y (xs ++ us) (ys ++ vs) e) (omega (arith, count))

some_same : (c d : Chain) → Some c ≡ Some d → c ≡ d
some_same c d e = cc

chain_of_certificate : (b : Certificate) (c : Chain) → IsValid b → b.chain ≡ Some c → IsFound b.header (length b.sections) c
chain_of_certificate b c valid is = (subst (λ (o : Option Chain). IsTrailer b.header (length b.sections) (first_open b.sections) o b.verdict) is valid.trailer).0

certificate_with : (b : Certificate) (c : Chain) → b.chain ≡ Some c →
    certificate_lines b ≡ (header_lines b.header ++ flat_map section_lines b.sections) ++
    (chain_lines c ++ line (verdict_line b.verdict) ∷ line end_text ∷ [])
certificate_with b c is =
    ap (λ (o : Option Chain). header_lines b.header ++ (flat_map section_lines b.sections ++ trailer_lines o b.verdict)) is
    ∙ sym (append_assoc (header_lines b.header) (flat_map section_lines b.sections) (chain_lines c ++ line (verdict_line b.verdict) ∷ line end_text ∷ []))

count_block : (xs : List Line) (c : Chain) (v e : Line) → length (xs ++ (chain_lines c ++ v ∷ e ∷ [])) ≡ length xs + (length c.steps + (length c.outs + 3))
count_block xs c v e =
    let steps = step_lines (c.n + 1) c.steps in
    let outs = map out_line c.outs in
    let total : length (xs ++ (chain_lines c ++ v ∷ e ∷ [])) ≡ length xs + length (chain_lines c ++ v ∷ e ∷ []) = length-append xs (chain_lines c ++ v ∷ e ∷ []) in
    let following : length ((steps ++ outs) ++ v ∷ e ∷ []) ≡ length (steps ++ outs) + 2 = length-append (steps ++ outs) (v ∷ e ∷ []) in
    let both : length (steps ++ outs) ≡ length steps + length outs = length-append steps outs in
    omega (arith, total, following, both, count_steps (c.n + 1) c.steps, count_outs c.outs)

-- The chain that was read begins where the certificate's begins, so it is that one.
chain_is : (b : Certificate) (h : Header) (c own : Chain) (all : List Line) → IsValid b → all ≡ certificate_lines b →
    h ≡ b.header → b.chain ≡ Some own → length c.steps ≡ length own.steps → IsHeld h c 2 (length all + 1) all → c ≡ own
chain_is b h c own all valid lines same is steps held =
    let found = chain_of_certificate b own valid is in
    let xs = header_lines b.header ++ flat_map section_lines b.sections in
    let v = line (verdict_line b.verdict) in
    let e = line end_text in
    let inputs : c.n ≡ own.n = held.inputs ∙ ap (λ (x : Header). x.spec.n) same ∙ sym found.agrees.inputs in
    let outs : length c.outs ≡ length own.outs = held.outputs ∙ ap (λ (x : Header). length x.spec.on) same ∙ sym found.agrees.outputs in
    let both : held.prefix ++ held.lines ≡ xs ++ (chain_lines own ++ v ∷ e ∷ []) = sym held.all_is ∙ lines ∙ certificate_with b own is in
    let total : length all ≡ length xs + (length own.steps + (length own.outs + 3)) = ap (λ (ls : List Line). length ls) (lines ∙ certificate_with b own is) ∙ count_block xs own v e in
    let place : length held.prefix ≡ length xs = omega (arith, total, held.number_is, steps, outs) in
    let following : held.lines ≡ chain_lines own ++ v ∷ e ∷ [] = same_after held.prefix xs held.lines (chain_lines own ++ v ∷ e ∷ []) both place in
    let read : chain_read (block.chain_of (length held.prefix + 1) own.n (length own.outs) (chain_lines own ++ v ∷ e ∷ [])) ≡ Some own =
    ap chain_read (lines_read (length held.prefix + 1) own (v ∷ e ∷ []) (small_chain b.header (length b.sections) own valid.header found)) in
    some_same c own (sym held.read_is ∙ (λ i. chain_read (block.chain_of (length held.prefix + 1) (inputs i) (outs i) (following i))) ∙ read)

-- ---- the verdict says whether there is a chain

size_found : (m n : ℕ) (low most : Option ℕ) → found m low ≡ found n most → m ≡ n
size_found m n None None e = cc
size_found m n None (Some l) e = absurd cc
size_found m n (Some l) None e = absurd cc
size_found m n (Some l) (Some k) e = cc

found_not : (m max : ℕ) (low most : Option ℕ) → found m low ≡ not_found max most → ⊥
found_not m max None None e = cc
found_not m max None (Some l) e = cc
found_not m max (Some l) None e = cc
found_not m max (Some l) (Some k) e = cc

chain_claim : (b : Certificate) (h : Header) (o own : Option Chain) (v : Verdict) (all : List Line) → IsValid b →
    all ≡ certificate_lines b → h ≡ b.header → b.chain ≡ own → v ≡ b.verdict → HasEnded h o v 2 (length all + 1) all →
    IsTrailer b.header (length b.sections) (first_open b.sections) own b.verdict → o ≡ own
chain_claim b h None None v all valid lines same is verdict ended trailer = refl
chain_claim b h None (Some d) v all valid lines same is verdict ended trailer =
    absurd (found_not (length b.sections) h.max (first_open b.sections) ended.0 (sym trailer.1 ∙ sym verdict ∙ ended.1))
chain_claim b h (Some c) None v all valid lines same is verdict ended trailer =
    absurd (found_not (length c.steps) b.header.max ended.1.0 (first_open b.sections) (sym ended.1.1 ∙ verdict ∙ trailer.1))
chain_claim b h (Some c) (Some d) v all valid lines same is verdict ended trailer =
    let steps : length c.steps ≡ length d.steps = size_found (length c.steps) (length b.sections) ended.1.0 (first_open b.sections) (sym ended.1.1 ∙ verdict ∙ trailer.1) ∙ sym trailer.0.size_is in
    ap (λ (x : Chain). let p : Option Chain = Some x in p) (chain_is b h c d all valid lines same is steps ended.0)

-- ---- the whole

verdict_same : (v w : Verdict) (r : Result Verdict CertificateError) → r ≡ Ok v → r ≡ Ok w → v ≡ w
verdict_same v w r one two = cc

pub claim_is : (bytes : List ℕ) (b : Certificate) (t : Claim) → certificate_of (lines_of bytes) ≡ Ok t.verdict → IsCertificateText bytes b → HasClaim t (lines_of bytes) → IsClaim b t
claim_is bytes b t read is claim =
    let header = header_same bytes b t.header is claim.asks in
    let verdict = verdict_same t.verdict b.verdict (certificate_of (lines_of bytes)) read (text_again bytes b is) in
    record {
      header = header;
      chain = chain_claim b t.header t.chain b.chain t.verdict (lines_of bytes) is.valid (read_lines bytes b is) header refl verdict claim.ended is.valid.trailer;
      verdict = verdict;
    }

-- ---- one certificate

abbrev pub own_claim : Certificate → Claim
own_claim b = record { header = b.header; chain = b.chain; verdict = b.verdict }

own_ended : (b : Certificate) (o : Option Chain) (v : Verdict) (low : Option ℕ) (all : List Line) → IsValid b →
    all ≡ certificate_lines b → b.chain ≡ o → IsTrailer b.header (length b.sections) low o v →
    HasEnded b.header o v 2 (length all + 1) all
own_ended b None v low all valid lines is trailer = (low, trailer.1)
own_ended b (Some c) v low all valid lines is trailer =
    let own = chain_of_certificate b c valid is in
    let xs = header_lines b.header ++ flat_map section_lines b.sections in
    let v_line = line (verdict_line b.verdict) in
    let e = line end_text in
    let total : length all ≡ length xs + (length c.steps + (length c.outs + 3)) = ap (λ (ls : List Line). length ls) (lines ∙ certificate_with b c is) ∙ count_block xs c v_line e in (
      record {
        prefix = xs;
        lines = chain_lines c ++ v_line ∷ e ∷ [];
        all_is = lines ∙ certificate_with b c is;
        read_is = ap chain_read (lines_read (length xs + 1) c (v_line ∷ e ∷ []) (small_chain b.header (length b.sections) c valid.header own));
        inputs = own.agrees.inputs;
        outputs = own.agrees.outputs;
        number_is = omega (arith, total);
      },
      (low, trailer.1 ∙ ap (λ (n : ℕ). found n low) (sym own.size_is)),
    )

own_is_claim : (bytes : List ℕ) (b : Certificate) → IsCertificateText bytes b → HasClaim (own_claim b) (lines_of bytes)
own_is_claim bytes b is = record {
  asks = header_is bytes b is;
  ended = own_ended b b.chain b.verdict (first_open b.sections) (lines_of bytes) is.valid (read_lines bytes b is) refl is.valid.trailer;
}

-- Two certificates with the same text have the same header, chain and verdict.
pub one_certificate : (bytes : List ℕ) (b c : Certificate) → IsCertificateText bytes b → IsCertificateText bytes c → IsClaim c (own_claim b)
one_certificate bytes b c is other = claim_is bytes c (own_claim b) (text_again bytes b is) other (own_is_claim bytes b is)
