-- What the lower bound, the search of a size and a whole search prove about chains.
use Rattle.std.proofs.Common.{◌≡◌, ℕ, ◌+◌, ◌<◌, ◌≤◌, true, false, All, ap, List, [], ◌∷◌, length, Option, Some, None, refl, sym, subst, arith, ◌∙◌}
use Rattle.std.proofs.lemmas.Grind.{common_steps}
use Rattle.chain_theory.specs.Chain.{Step, Chain, IsChain}
use Rattle.chain_theory.specs.Operator.{Basis}
use Rattle.chain_theory.specs.Specification.{Specification}
use Rattle.chain_theory.specs.Agreement.{NoneBelow}
use Rattle.tt_core.specs.Words.{specification}
use Rattle.op_basis.specs.Basis.{members}
use Rattle.cert_theory.specs.declared.data.Header.{Header}
use Rattle.cert_theory.specs.declared.data.Verdict.{Verdict}
use Rattle.cert_theory.specs.declared.data.Verdict.TheVariants as verdicts
use Rattle.cert_theory.specs.Certificate.{Section, Certificate, IsHeader, IsSection, AreSections, is_open, first_open, IsFound, IsTrailer, IsValid}
use Rattle.cert_theory.specs.Meaning.{Means}
use Rattle.cert_laws.specs.CodingLaws.{method_is_coding}
use Rattle.cert_laws.specs.Meanings.{all_refuted, verdict_true}
use Rattle.cert_theory.specs.LiveBounds.{HaveLiveBounds}
use Rattle.decide_core.specs.Decided.{Fewer, HasNone, IsShorter, IsOpenVerdict, IsLeftOpen}

-- ---- sizes

pub size_found : (h : Header) (size : ℕ) (c : Chain) → IsFound h size c → IsShorter h c
size_found h size c found = record { size = size; found = found }

one_section : (h : Header) (size : ℕ) (s : Section) → IsSection h size s → AreSections h size (s ∷ [])
unfolding AreSections
one_section h size s is = (is, tt)

none_open : (s : Section) → is_open s ≡ false → first_open (s ∷ []) ≡ None
none_open s e = rw e refl

pub size_refuted : (h : Header) (size : ℕ) (s : Section) → IsHeader h → size ≤ h.max → IsSection h size s → is_open s ≡ false → Fewer h size → Fewer h (size + 1)
size_refuted h size s header few is refuted fewer =
    all_refuted h (s ∷ []) size header (method_is_coding h.method) (one_section h size s is) (omega (arith, few)) (none_open s refuted) fewer

pub fewer_none : (h : Header) → Fewer h 0
fewer_none h q low has = absurd (omega (arith, low))

-- what the lower bound proves
pub fewer_below : (h : Header) (from : ℕ) → h.max < from → Fewer h from → HasNone h
fewer_below h from high fewer q low has = fewer q (omega (arith, high, low)) has

-- ---- whole searches

same_header : (h k : Header) → k ≡ h → HasNone k → HasNone h
same_header h k same none = subst HasNone same none

least_by : (h : Header) (count : ℕ) (low : Option ℕ) (v : Verdict) → (IsOpenVerdict v → ⊥) → IsTrailer h count low None v → v ≡ verdicts.NoChain h.max
least_by h count None v closed trailer = trailer.1
least_by h count (Some low) v closed trailer = absurd (closed (record { low = low; verdict_is = trailer.1 }))

none_by : (h : Header) (v : Verdict) → v ≡ verdicts.NoChain h.max → Means (specification h.spec) (members h.basis) v → HasNone h
none_by h v e means q low has =
    let none : Means (specification h.spec) (members h.basis) (verdicts.NoChain h.max) = subst (λ (x : Verdict). Means (specification h.spec) (members h.basis) x) e means in
    none q (omega (arith, low)) has

trailer_of : (b : Certificate) (o : Option Chain) → b.chain ≡ o → IsValid b → IsTrailer b.header (length b.sections) (first_open b.sections) o b.verdict
trailer_of b o e valid = subst (λ (x : Option Chain). IsTrailer b.header (length b.sections) (first_open b.sections) x b.verdict) e valid.trailer

pub whole_none : (h : Header) (b : Certificate) → b.header ≡ h → IsValid b → (IsOpenVerdict b.verdict → ⊥) → b.chain ≡ None → HasNone h
whole_none h b same valid closed none =
    same_header h b.header same (none_by b.header b.verdict (least_by b.header (length b.sections) (first_open b.sections) b.verdict closed (trailer_of b None none valid)) (verdict_true b valid))

pub whole_found : (h : Header) (b : Certificate) (c : Chain) → b.header ≡ h → IsValid b → b.chain ≡ Some c → IsShorter h c
whole_found h b c same valid has = record { size = length b.sections; found = subst (λ (k : Header). IsFound k (length b.sections) c) same (trailer_of b (Some c) has valid).0 }

-- the lower bound that each verdict proves
pub minimum_fewest : (s : Specification) (basis : Basis) (v : Verdict) (r : ℕ) → v ≡ verdicts.Minimum r → Means s basis v → NoneBelow s basis r
minimum_fewest s basis v r e means =
    let least : Means s basis (verdicts.Minimum r) = subst (Means s basis) e means in
    least.none_fewer

pub nothing_fewest : (s : Specification) (basis : Basis) (v : Verdict) (most : ℕ) → v ≡ verdicts.NoChain most → Means s basis v → NoneBelow s basis most
nothing_fewest s basis v most e means q low has =
    let none : Means s basis (verdicts.NoChain most) = subst (Means s basis) e means in
    none q (omega (arith, low)) has

pub bounded_fewest : (s : Specification) (basis : Basis) (v : Verdict) (low r : ℕ) → v ≡ verdicts.Bounded low r → Means s basis v → NoneBelow s basis low
bounded_fewest s basis v low r e means =
    let bound : Means s basis (verdicts.Bounded low r) = subst (Means s basis) e means in
    bound.1

pub open_fewest : (s : Specification) (basis : Basis) (v : Verdict) (low : ℕ) → v ≡ verdicts.Open low → Means s basis v → NoneBelow s basis low
open_fewest s basis v low e means = subst (Means s basis) e means

pub whole_fewer : (h : Header) (b : Certificate) (fewest : ℕ) → b.header ≡ h → IsValid b → ((s : Specification) (basis : Basis) → Means s basis b.verdict → NoneBelow s basis fewest) → Fewer h fewest
whole_fewer h b fewest same valid rules =
    subst (λ (k : Header). Fewer k fewest) same (rules (specification b.header.spec) (members b.header.basis) (verdict_true b valid))

pub whole_open : (h : Header) (b : Certificate) → b.header ≡ h → 0 < length h.spec.on → IsValid b → HaveLiveBounds b.header b.sections → IsOpenVerdict b.verdict → IsLeftOpen h b
whole_open h b same output valid live_bounds verdict =
    record {
      header = same;
      valid = valid;
      output = subst (λ (k : Header). 0 < length k.spec.on) (sym same) output;
      live_bounds = live_bounds;
      verdict = verdict;
    }

-- ---- nothing is asked

none_over : (basis : Basis) (steps : List Step) → steps ≡ [] → All (λ (s : Step). basis s.op ≡ true) steps
none_over basis steps e = subst (λ (ss : List Step). All (λ (s : Step). basis s.op ≡ true) ss) (sym e) (λ k d low. absurd (omega (arith, low)))

pub nothing_asked : (h : Header) (c : Chain) → IsChain c → c.n ≡ h.spec.n → c.steps ≡ [] → length c.outs ≡ 0 → length h.spec.on ≡ 0 → IsShorter h c
nothing_asked h c chain inputs steps outs none = record {
  size = 0;
  found = record {
    chain = chain;
    size_is = ap (λ (ss : List Step). length ss) steps;
    size_to = omega arith;
    over = none_over (members h.basis) c.steps steps;
    agrees = record {
      inputs = inputs;
      outputs = outs ∙ sym none;
      cells = λ k t low high row. absurd (omega (arith, low, high, none));
    };
  };
}

pub ruleset deciding = (
  common_steps,
  size_found,
  size_refuted,
  fewer_none,
  fewer_below,
  whole_none,
  whole_found,
  whole_fewer,
  minimum_fewest,
  nothing_fewest,
  bounded_fewest,
  open_fewest,
  whole_open,
  nothing_asked,
)
