-- Lines that are accepted as a trailer spell it.
use Rattle.cert_theory.specs.declared.data.CertificateError.TheVariants.{NotRefuted}
use Rattle.cert_theory.specs.Coding.{has_fence_names}
use Rattle.std.proofs.Common.{◌≡◌, ℕ, ◌+◌, ◌≤◌, ◌&&◌, ◌==◌, Bool, true, false, List, [], ◌∷◌, ◌++◌, length, Option, Some, None, Result, Ok, refl, sym, ap, ◌∙◌, subst, arith, cond, Err}
use Rattle.std.specs.Prelude.{codes, decimal, option_and_then, nat_le, nat_lt}
use Rattle.std.specs.List.{join_with_byte}
use Rattle.std.specs.Option.{option_map}
use Rattle.std.proofs.Math.Logic.{⊎_elim}
use Rattle.std.proofs.lemmas.Bool.{eqb-true}
use Rattle.std.proofs.lemmas.Bool.Decides.{nat_tests}
use Rattle.std.proofs.lemmas.Grind.{common_steps}
use Rattle.std.proofs.lemmas.Option.{option_and_then_some}
use Rattle.text_core.specs.Lines.{Line}
use Rattle.text_core.specs.Items.{items_of}
use Rattle.text_core.specs.ReadBack.{number_spells, items_spell}
use Rattle.chain_theory.specs.Chain.{Chain}
use Rattle.chain_theory.specs.Agreement.{Agrees, IsOver}
use Rattle.chain_theory.specs.Difference.{IsComparison}
use Rattle.tt_core.specs.Words.{specification}
use Rattle.op_basis.specs.Basis.{members}
use Rattle.chain_core.specs.declared.frame.Frame.{Frame}
use Rattle.chain_core.specs.Block.{number_in, counted, count_at, body_from, chain_of}
use Rattle.text_core.specs.Words.{after}
use Rattle.chain_core.specs.Outside.{outside_from}
use Rattle.chain_core.specs.Spelling.{line, count_text, chain_lines}
use Rattle.chain_core.specs.OutsideLaws.{judged}
use Rattle.chain_core.specs.WrittenBlockLaws.{lines_spelled}
use Rattle.chain_core.specs.WrittenLineLaws.{count_back}
use Rattle.cert_theory.specs.declared.data.Header.{Header}
use Rattle.cert_theory.specs.declared.data.Verdict.{Verdict}
use Rattle.cert_theory.specs.declared.data.Verdict.TheVariants as verdicts
use Rattle.cert_theory.specs.declared.data.CertificateError.{CertificateError}
use Rattle.cert_theory.specs.Certificate.{found, not_found, IsTrailer}
use Rattle.cert_theory.specs.Spelling.{verdict_line, end_text, trailer_lines}
use Rattle.cert_theory.specs.Gives.{◌>>=◌}
use Rattle.cert_theory.specs.SubproblemLines.{is_line}
use Rattle.cert_theory.specs.Judging.{or_syntax, as_syntax, begins, value_of, is_same, number_after, both, bounded_in}
use Rattle.cert_theory.specs.Judging.{numbered_in, found_in, not_found_in, follows, nothing_after, end_of, after_chain}
use Rattle.cert_theory.specs.Judging.{chain_place, steps_at, frame_of, or_differs, or_outside, chain_judged, with_block}
use Rattle.cert_theory.specs.Judging.{chain_at, no_chain_at, trailer_at, is_fence_name}
use Rattle.cert_theory.specs.GivesLaws.{bind_ok, test_ok, read_ok}
use Rattle.cert_laws.specs.BlockReads.{chain_read}
use Rattle.cert_laws.specs.DifferenceLaws.{difference_compares}
use Rattle.cert_laws.specs.LineSpellings.{chosen, both_true, some_is, as_ok, is_line_spells, value_spells, number_at}
use Rattle.text_core.specs.Limits.{most_number}
use Rattle.chain_theory.specs.Limits.{most_steps}

-- ---- verdicts

pub map_some : {A B : Type 0} (f : A → B) (o : Option A) (y : B) → option_map f o ≡ Some y → (x : A) × (o ≡ Some x) × (f x ≡ y)
map_some f None y e = absurd cc
map_some f (Some x) y e = (x, refl, some_is (f x) y e)

pub number_spelled : (word : List ℕ) (l : Line) (n : ℕ) → number_after word l ≡ Some n → l ≡ line (word ++ decimal n)
number_spelled word l n e = (number_at most_number word l n (omega arith) e).1

both_some : {V : Type 0} (bounded : ℕ → ℕ → V) (a b : Option ℕ) (v : V) → both bounded a b ≡ Some v → (low : ℕ) × (r : ℕ) × (a ≡ Some low) × (b ≡ Some r) × (bounded low r ≡ v)
both_some bounded (Some low) (Some r) v e = (low, r, refl, refl, some_is (bounded low r) v e)
both_some bounded (Some low) None v e = absurd cc
both_some bounded None b v e = absurd cc

bounded_some : {V : Type 0} (bounded : ℕ → ℕ → V) (items : List (List ℕ)) (v : V) → bounded_in bounded items ≡ Some v →
    (low : ℕ) × (r : ℕ) × (items ≡ decimal low ∷ decimal r ∷ []) × (bounded low r ≡ v)
bounded_some bounded [] v e = absurd cc
bounded_some bounded (a ∷ []) v e = absurd cc
bounded_some bounded (a ∷ b ∷ []) v e =
    let halves = both_some bounded (number_in a) (number_in b) v e in
    let first = number_spells most_number halves.0 a (omega arith) halves.2 in
    let second = number_spells most_number halves.1 b (omega arith) halves.3 in
    (halves.0, halves.1, (λ i. first.1 i ∷ second.1 i ∷ []), halves.4)
bounded_some bounded (a ∷ b ∷ c ∷ ws) v e = absurd cc

-- A verdict of one or two numbers has one spelling.
pub numbered_spells : {V : Type 0} (one : ℕ → V) (bounded : ℕ → ℕ → V) (first second : List ℕ) (text : V →
    List ℕ) (l : Line) (v : V) → ((r : ℕ) → text (one r) ≡ first ++ decimal r) →
    ((low r : ℕ) → text (bounded low r) ≡ second ++ (decimal low ++ 32 ∷ decimal r)) →
    numbered_in one bounded first second l ≡ Some v → l ≡ line (text v)
numbered_spells {V} one bounded first second text l v spells_one spells_two e =
    ⊎_elim
    (λ (least : (begins first l ≡ true) × (option_map one (number_after first l) ≡ Some v)).
    let halves = map_some one (number_after first l) v least.1 in
    number_spelled first l halves.0 halves.1 ∙ ap (λ (ds : List ℕ). line ds) (sym (spells_one halves.0)) ∙ ap (λ (w : V). line (text w)) halves.2)
    (λ (rest : (begins first l ≡ false) × (option_and_then (λ pair. bounded_in bounded (items_of pair)) (value_of second l) ≡ Some v)).
    option_and_then_some (λ pair. bounded_in bounded (items_of pair)) (value_of second l) v rest.1 (λ pair following is.
    let halves = bounded_some bounded (items_of pair) v is in
    let spelled : pair ≡ decimal halves.0 ++ 32 ∷ decimal halves.1 = sym (items_spell pair) ∙ ap (join_with_byte 32) halves.2 in
    value_spells second l pair following ∙ ap (λ (ds : List ℕ). line (second ++ ds)) spelled
    ∙ ap (λ (ds : List ℕ). line ds) (sym (spells_two halves.0 halves.1)) ∙ ap (λ (w : V). line (text w)) halves.3))
    (chosen (begins first l) (option_map one (number_after first l)) (option_and_then (λ pair. bounded_in bounded (items_of pair)) (value_of second l)) (Some v) e)

pub found_spells : (l : Line) (v : Verdict) → found_in l ≡ Some v → l ≡ line (verdict_line v)
unfolding found_in verdict_line
found_spells l v e = numbered_spells (λ r. verdicts.Minimum r) (λ low r. verdicts.Bounded low r) (codes "minimum ") (codes "bounded ") verdict_line l v (λ r. refl) (λ low r. refl) e

pub not_found_spells : (l : Line) (v : Verdict) → not_found_in l ≡ Some v → l ≡ line (verdict_line v)
unfolding not_found_in verdict_line
not_found_spells l v e =
    ⊎_elim
    (λ (none : (begins (codes "none ") l ≡ true) × (option_map (λ x. verdicts.NoChain x) (number_after (codes "none ") l) ≡ Some v)).
    let halves = map_some (λ (x : ℕ). verdicts.NoChain x) (number_after (codes "none ") l) v none.1 in
    number_spelled (codes "none ") l halves.0 halves.1 ∙ ap (λ (w : Verdict). line (verdict_line w)) halves.2)
    (λ (rest : (begins (codes "none ") l ≡ false) × (option_map (λ low. verdicts.Open low) (number_after (codes "open ") l) ≡ Some v)).
    let halves = map_some (λ (low : ℕ). verdicts.Open low) (number_after (codes "open ") l) v rest.1 in
    number_spelled (codes "open ") l halves.0 halves.1 ∙ ap (λ (w : Verdict). line (verdict_line w)) halves.2)
    (chosen (begins (codes "none ") l) (option_map (λ x. verdicts.NoChain x) (number_after (codes "none ") l)) (option_map (λ low. verdicts.Open low) (number_after (codes "open ") l)) (Some v) e)

pub same_is : (v w : Verdict) → is_same v w ≡ true → v ≡ w
same_is (verdicts.Minimum r) (verdicts.Minimum q) e = ap (λ (n : ℕ). verdicts.Minimum n) (eqb-true r q e)
same_is (verdicts.Minimum r) (verdicts.NoChain q) e = absurd cc
same_is (verdicts.Minimum r) (verdicts.Bounded low q) e = absurd cc
same_is (verdicts.Minimum r) (verdicts.Open low) e = absurd cc
same_is (verdicts.NoChain r) (verdicts.Minimum q) e = absurd cc
same_is (verdicts.NoChain r) (verdicts.NoChain q) e = ap (λ (n : ℕ). verdicts.NoChain n) (eqb-true r q e)
same_is (verdicts.NoChain r) (verdicts.Bounded low q) e = absurd cc
same_is (verdicts.NoChain r) (verdicts.Open low) e = absurd cc
same_is (verdicts.Bounded l r) (verdicts.Minimum q) e = absurd cc
same_is (verdicts.Bounded l r) (verdicts.NoChain q) e = absurd cc
same_is (verdicts.Bounded l r) (verdicts.Bounded low q) e =
    let halves = both_true (l == low) (r == q) e in
    ap (λ (n : ℕ). verdicts.Bounded n r) (eqb-true l low halves.0) ∙ ap (λ (n : ℕ). verdicts.Bounded low n) (eqb-true r q halves.1)
same_is (verdicts.Bounded l r) (verdicts.Open low) e = absurd cc
same_is (verdicts.Open l) (verdicts.Minimum q) e = absurd cc
same_is (verdicts.Open l) (verdicts.NoChain q) e = absurd cc
same_is (verdicts.Open l) (verdicts.Bounded low q) e = absurd cc
same_is (verdicts.Open l) (verdicts.Open low) e = ap (λ (n : ℕ). verdicts.Open n) (eqb-true l low e)

-- ---- the last lines

nothing_is : (number : ℕ) (v w : Verdict) (ls : List Line) → nothing_after number v ls ≡ Ok w → (ls ≡ []) × (v ≡ w)
nothing_is number v w [] e = (refl, cc)
nothing_is number v w (l ∷ ls) e = absurd cc

end_spells : (number : ℕ) (v w : Verdict) (ls : List Line) → end_of number v ls ≡ Ok w → (ls ≡ line end_text ∷ []) × (v ≡ w)
unfolding end_of
end_spells number v w [] e = absurd cc
end_spells number v w (l ∷ ls) e =
    let tests = test_ok (is_line (codes "end") l) (nothing_after (number + 1) v ls) _ w e in
    let rest = nothing_is (number + 1) v w ls tests.1 in
    ((λ i. is_line_spells (codes "end") l tests.0 i ∷ rest.0 i), rest.1)

-- the line of the verdict, and the last line
record IsLast (ls : List Line) (due v : Verdict) : Type 0 where
  verdict_is : v ≡ due
  lines : ls ≡ line (verdict_line v) ∷ line end_text ∷ []

last_by : (number : ℕ) (complete : Bool) (due v : Verdict) (l : Line) (ls : List Line) (o : Option Verdict) →
    ((w : Verdict) → o ≡ Some w → l ≡ line (verdict_line w)) →
    (or_syntax number o >>= λ read. follows number complete due read >>= λ w. end_of (number + 1) w ls) ≡ Ok v →
    (complete ≡ true) × IsLast (l ∷ ls) due v
last_by number complete due v l ls o spells e =
    let read = bind_ok (or_syntax number o) _ v e in
    let next = bind_ok (follows number complete due read.0) _ v read.2 in
    let tests = test_ok (complete && is_same read.0 due) (Ok read.0) _ next.0 next.1 in
    let each = both_true complete (is_same read.0 due) tests.0 in
    let end = end_spells (number + 1) next.0 v ls next.2 in
    let first : read.0 ≡ v = read_is read.0 next.0 tests.1 ∙ end.1 in (
      each.0,
      record {
        verdict_is = sym first ∙ same_is read.0 due each.1;
        lines = λ i. (spells read.0 (read_ok number o read.0 read.1) ∙ ap (λ (w : Verdict). line (verdict_line w)) first) i ∷ end.0 i;
      },
    )
  where
    done_with : Verdict → Result Verdict CertificateError
    done_with x = Ok x

    read_is : (x y : Verdict) → done_with x ≡ Ok y → x ≡ y
    read_is x y is = cc

-- ---- without a chain

-- the name of a fence isn't a verdict
no_name : (b : Bool) (d : CertificateError) (read : Result Verdict CertificateError) (next : Verdict →
    Result Verdict CertificateError) (v : Verdict) → (cond b (Err d) read >>= next) ≡ Ok v → (read >>= next) ≡ Ok v
no_name true d read next v e = absurd cc
no_name false d read next v e = e

not_found_ends : (h : Header) (number size : ℕ) (low : Option ℕ) (l : Line) (ls : List Line) (v : Verdict) →
    no_chain_at h number size low l ls ≡ Ok v → IsTrailer h size low None v × (l ∷ ls ≡ trailer_lines None v)
not_found_ends h number size low l ls v e =
    let read = no_name (has_fence_names h.method && nat_lt 0 size && is_fence_name l) (NotRefuted number)
    (or_syntax number (not_found_in l)) (λ read. follows number (size == h.max + 1) (not_found h.max low) read >>=
    λ w. end_of (number + 1) w ls) v e in
    let last = last_by number (size == h.max + 1) (not_found h.max low) v l ls (not_found_in l) (not_found_spells l) read in
    ((eqb-true size (h.max + 1) last.0, last.1.verdict_is), last.1.lines)

-- ---- with a chain

differs_ok : (o : Option (ℕ × ℕ)) → or_differs o ≡ Ok tt → o ≡ None
differs_ok None e = refl
differs_ok (Some at) e = absurd cc

outside_ok : (o : Option ℕ) (next : Result (Unit {0}) CertificateError) → or_outside o next ≡ Ok tt → (o ≡ None) × (next ≡ Ok tt)
outside_ok None next e = (refl, e)
outside_ok (Some place) next e = absurd cc

pub judged_ok : (h : Header) (c : Chain) → c.n ≡ h.spec.n → length c.outs ≡ length h.spec.on → chain_judged h c ≡ Ok tt → IsOver (members h.basis) c × Agrees c (specification h.spec)
unfolding chain_judged
judged_ok h c inputs outputs e =
    let halves = outside_ok (outside_from (members h.basis) (c.n + 1) c.steps) _ e in (
      judged (members h.basis) c None halves.0,
      subst (λ (o : Option (ℕ × ℕ)). IsComparison c (specification h.spec) o)
          (differs_ok _ halves.1) (difference_compares c (specification h.spec) inputs outputs),
    )

pub record IsEnded (h : Header) (size : ℕ) (low : Option ℕ) (ls : List Line) (v : Verdict) : Type 0 where
  pub chain : Option Chain
  pub trailer : IsTrailer h size low chain v
  pub lines : ls ≡ trailer_lines chain v

counted_is : (number k r : ℕ) → counted number (Some k) ≡ Ok r → k ≡ r
counted_is number k r e = grind (arith, common_steps)

head_is : (l : Line) (ls : List Line) (m : Line) (ms : List Line) → l ∷ ls ≡ m ∷ ms → l ≡ m
head_is l ls m ms e = cc

le_is : (a b : ℕ) → nat_le a b ≡ true → a ≤ b
le_is a b e = grind (arith, nat_tests)

unit_ok : (r : Result (Unit {0}) CertificateError) (x : Unit {0}) → r ≡ Ok x → r ≡ Ok tt
unit_ok r x e = e

-- the verdict after a chain
following_are : (number size : ℕ) (low : Option ℕ) (ls : List Line) (v : Verdict) → after_chain number size low ls ≡ Ok v → IsLast ls (found size low) v
unfolding after_chain
following_are number size low [] v e = absurd cc
following_are number size low (l ∷ ls) v e = (last_by number true (found size low) v l ls (found_in l) (found_spells l) e).1

-- the number of steps on the first line
count_is : (number k r : ℕ) → k ≤ most_steps → count_at number (line (count_text k)) ≡ Ok r → k ≡ r
unfolding count_at
count_is number k r few e =
    let read : option_and_then number_in (after (codes "chain ") (count_text k)) ≡ Some k = count_back k few in
    let reported : counted number (Some k) ≡ Ok r = sym (ap (counted number) read) ∙ e in
    counted_is number k r reported

pub chain_ends : (h : Header) (number size : ℕ) (low : Option ℕ) (l : Line) (ls : List Line) (v : Verdict) → chain_at h number size low l ls ≡ Ok v → IsEnded h size low (l ∷ ls) v
unfolding steps_at with_block
chain_ends h number size low l ls v e =
    let steps = bind_ok (steps_at h number size l) _ v e in
    let stated = bind_ok (as_syntax chain_place (count_at number l)) _ steps.0 steps.1 in
    let counted : count_at number l ≡ Ok stated.0 = as_ok chain_place (count_at number l) stated.0 stated.1 in
    let tests = test_ok ((stated.0 == size) && nat_le stated.0 h.max) (done_with stated.0) _ steps.0 stated.2 in
    let each = both_true (stated.0 == size) (nat_le stated.0 h.max) tests.0 in
    let size_is : stated.0 ≡ size = eqb-true stated.0 size each.0 in
    let same : stated.0 ≡ steps.0 = ok_is stated.0 steps.0 tests.1 in
    let f : Frame = frame_of h number steps.0 in
    let read = bind_ok (as_syntax chain_place (body_from f ls)) _ v steps.2 in
    let block : chain_of number h.spec.n (length h.spec.on) (l ∷ ls) ≡ Ok read.0 = chain_read f l ls read.0 (counted ∙ ap done_with same) (as_ok chain_place (body_from f ls) read.0 read.1) in
    let lines = lines_spelled number h.spec.n (length h.spec.on) (l ∷ ls) read.0 block in
    let good = bind_ok (chain_judged h read.0.chain) _ v read.2 in
    let judged' = judged_ok h read.0.chain lines.inputs lines.outputs (unit_ok (chain_judged h read.0.chain) good.0 good.1) in
    let last = following_are (number + 1 + steps.0 + length h.spec.on) steps.0 low read.0.rest v good.2 in
    let first : l ≡ line (count_text (length read.0.chain.steps)) = head_is l ls _ _ lines.lines in
    let count : length read.0.chain.steps ≡ stated.0 = count_is number (length read.0.chain.steps) stated.0 lines.steps (sym (ap (count_at number) first) ∙ counted) in
    record {
      chain = Some read.0.chain;
      trailer = (
        record {
          chain = lines.chain;
          size_is = count ∙ size_is;
          size_to = subst (λ (n : ℕ). n ≤ h.max) size_is (le_is stated.0 h.max each.1);
          over = judged'.0;
          agrees =
              judged'.1;
        },
        last.verdict_is ∙ ap (λ (n : ℕ). found n low) (sym same ∙ size_is),
      );
      lines = lines.lines ∙ ap (λ (xs : List Line). chain_lines read.0.chain ++ xs) last.lines;
    }
  where
    done_with : {E : Type 0} → ℕ → Result ℕ E
    done_with x = Ok x

    ok_is : (x y : ℕ) → done_with {E = CertificateError} x ≡ Ok y → x ≡ y
    ok_is x y is = cc

-- ---- the trailer

pub trailer_spells : (h : Header) (number size : ℕ) (low : Option ℕ) (l : Line) (ls : List Line) (v : Verdict) → trailer_at h number size low l ls ≡ Ok v → IsEnded h size low (l ∷ ls) v
trailer_spells h number size low l ls v e =
    ⊎_elim
    (λ (yes_ : (begins (codes "chain ") l ≡ true) × (chain_at h number size low l ls ≡ Ok v)). chain_ends h number size low l ls v yes_.1)
    (λ (no_ : (begins (codes "chain ") l ≡ false) × (no_chain_at h number size low l ls ≡ Ok v)).
    let last = not_found_ends h number size low l ls v no_.1 in
    record { chain = None; trailer = last.0; lines = last.1 })
    (chosen (begins (codes "chain ") l) (chain_at h number size low l ls) (no_chain_at h number size low l ls) (Ok v) e)
