-- Single lines that were written are parsed back.
use Rattle.std.proofs.Common.{◌≡◌, ℕ, ◌<◌, ◌≤◌, ◌==◌, Bool, true, false, cond, List, [], ◌∷◌, ◌++◌, Option, Some, None, Result, Ok, refl, sym, ap, ◌∙◌, arith}
use Rattle.std.specs.Prelude.{codes, decimal, option_and_then, nat_le}
use Rattle.std.specs.Str.{bytes_eq}
use Rattle.std.specs.Option.{option_map}
use Rattle.std.proofs.lemmas.Grind.{common_steps}
use Rattle.std.proofs.lemmas.Bool.Decides.{nat_tests}
use Rattle.std.proofs.lemmas.Slice.Eq.{bytes_eq-Decides}
use Rattle.text_core.specs.Items.{items_of, split_from}
use Rattle.text_core.specs.Words.{after}
use Rattle.text_core.specs.Numbers.{number_from}
use Rattle.text_core.specs.ReadBack.{number_back, item_back, last_item_back, free_decimal}
use Rattle.sat_theory.specs.Line as theory
use Rattle.sat_theory.specs.Line.{IsLine}
use Rattle.lrat_text.specs.Reading.{line_in}
use Rattle.lrat_text.specs.Spelling.{line_body}
use Rattle.lrat_text.specs.WholeLines.{line_back}
use Rattle.op_basis.specs.Text.{basis_of, basis_text}
use Rattle.op_basis.specs.declared.error.BasisError.{BasisError}
use Rattle.op_basis.specs.ReadBack.{basis_back}
use Rattle.chain_core.specs.Block.{number_in}
use Rattle.chain_core.specs.Spelling.{line}
use Rattle.settings.specs.declared.methods.Method.{Method}
use Rattle.settings.specs.declared.methods.Method.TheVariants.{Plain, Ssv, Select, Fence, Strong, StrongFence}
use Rattle.cert_theory.specs.declared.data.Header.{Header}
use Rattle.cert_theory.specs.declared.data.LogEnd.{LogEnd}
use Rattle.cert_theory.specs.declared.data.LogEnd.TheVariants as ends
use Rattle.cert_theory.specs.declared.data.Verdict.{Verdict}
use Rattle.cert_theory.specs.declared.data.Verdict.TheVariants as verdicts
use Rattle.settings.specs.Methods.{method_text, method_named}
use Rattle.sat_theory.specs.Limits.{most_conflicts}
use Rattle.chain_theory.specs.Limits.{most_steps}
use Rattle.cert_theory.specs.Spelling.{basis_line, method_line, conflicts_line, max_line, size_line, ended_text, log_line, verdict_line}
use Rattle.cert_theory.specs.SubproblemLines.{is_line, ended_in, or_misspelled, spelled_in}
use Rattle.cert_theory.specs.Judging.{begins, spelled, basis_in, method_in, from_one, conflicts_in, max_in, size_at, is_same, number_after, both, bounded_in, found_in, not_found_in}
use Rattle.cert_laws.specs.LineSpellings.{value_back, number_at_back}
use Rattle.text_core.specs.Limits.{most_number}

eq_same : (n : ℕ) → (n == n) ≡ true
eq_same n = grind (arith, nat_tests)

le_back : (a b : ℕ) → a ≤ b → nat_le a b ≡ true
le_back a b low = grind (arith, nat_tests)

pub basis_again : (b : ℕ) → 0 < b → b < 65536 → basis_in (line (basis_line b)) ≡ Some b
unfolding basis_in basis_line
basis_again b some low =
    ap (option_and_then (λ word. spelled word (basis_of word))) (value_back (codes "basis ") (basis_text b))
    ∙ ap (λ (r : Result ℕ BasisError). spelled (basis_text b) r) (basis_back b some low)
    ∙ ap (λ (t : Bool). let o : Option ℕ = cond t (Some b) None in o) ((bytes_eq-Decides (basis_text b) (basis_text b)).1 refl)

pub method_again : (m : Method) → method_in (line (method_line m)) ≡ Some m
unfolding method_in method_line
method_again Plain = ap (option_and_then method_named) (value_back (codes "method ") (method_text Plain)) ∙ refl
method_again Ssv = ap (option_and_then method_named) (value_back (codes "method ") (method_text Ssv)) ∙ refl
method_again Select = ap (option_and_then method_named) (value_back (codes "method ") (method_text Select)) ∙ refl
method_again Fence = ap (option_and_then method_named) (value_back (codes "method ") (method_text Fence)) ∙ refl
method_again Strong = ap (option_and_then method_named) (value_back (codes "method ") (method_text Strong)) ∙ refl
method_again StrongFence = ap (option_and_then method_named) (value_back (codes "method ") (method_text StrongFence)) ∙ refl

one_again : (k : ℕ) → 1 ≤ k → from_one k ≡ Some k
one_again k some = grind (arith, common_steps)

pub conflicts_again : (k : ℕ) → 1 ≤ k → k ≤ most_conflicts → conflicts_in (line (conflicts_line k)) ≡ Some k
unfolding conflicts_in conflicts_line
conflicts_again k some fits = ap (option_and_then from_one) (number_at_back most_conflicts (codes "conflicts ") k (omega arith) fits) ∙ one_again k some

pub max_again : (x : ℕ) → x ≤ most_steps → max_in (line (max_line x)) ≡ Some x
unfolding max_in max_line
max_again x fits = number_at_back most_steps (codes "max ") x (omega arith) fits

pub size_again : (h : Header) (number size : ℕ) → size ≤ h.max → size ≤ most_steps → size_at h number size (line (size_line size)) ≡ Ok tt
unfolding size_at size_line
size_again h number size fits few =
    rw (number_at_back most_number (codes "size ") size (omega arith) (omega arith)) (rw (eq_same size, le_back size h.max fits) refl)

pub size_begins : (size : ℕ) → begins (codes "size ") (line (size_line size)) ≡ true
unfolding size_line after
size_begins size = refl

pub ended_again : (ended : LogEnd) → ended_in (line (ended_text ended)) ≡ Some ended
unfolding ended_in
ended_again ends.Refuted = refl
ended_again ends.Open = refl

-- a line of a log isn't `done`
not_done_by : (x : theory.Line) (b : Bool) → IsLine x → bytes_eq (line_body x) (codes "done") ≡ b → b ≡ false
unfolding number_from split_from
not_done_by x true is e =
    let same : line_body x ≡ codes "done" = (bytes_eq-Decides (line_body x) (codes "done")).0 e in
    let read : line_in (codes "done") ≡ Ok x = sym (ap line_in same) ∙ line_back x is in
    absurd cc
not_done_by x false is e = refl

pub not_done : (x : theory.Line) → IsLine x → is_line (codes "done") (log_line x) ≡ false
not_done x is = not_done_by x (bytes_eq (line_body x) (codes "done")) is refl

pub log_again : (x : theory.Line) → IsLine x → spelled_in (log_line x) ≡ Ok x
unfolding spelled_in
log_again x is = ap or_misspelled (line_back x is)

-- ---- verdicts

pub number_again : (word : List ℕ) (n : ℕ) → n < 1000000000 → number_after word (line (word ++ decimal n)) ≡ Some n
number_again word n short = number_at_back most_number word n (omega arith) (omega arith)

pub two_items : (low r : ℕ) → low < 1000000000 → r < 1000000000 → items_of (decimal low ++ 32 ∷ decimal r) ≡ decimal low ∷ decimal r ∷ []
two_items low r short little =
    item_back (decimal low) (decimal r) (free_decimal 32 low (omega arith) (omega arith))
    ∙ ap (λ (xs : List (List ℕ)). decimal low ∷ xs) (last_item_back (decimal r) (free_decimal 32 r (omega arith) (omega arith)))

pub two_again : {V : Type 0} (bounded : ℕ → ℕ → V) (low r : ℕ) → low < 1000000000 → r < 1000000000 → bounded_in bounded (items_of (decimal low ++ 32 ∷ decimal r)) ≡ Some (bounded low r)
two_again bounded low r short little =
    ap (bounded_in bounded) (two_items low r short little)
    ∙ ap (λ (o : Option ℕ). both bounded o (number_in (decimal r))) (number_back most_number low (omega arith) (omega arith))
    ∙ ap (λ (o : Option ℕ). both bounded (Some low) o) (number_back most_number r (omega arith) (omega arith))

pub minimum_again : (r : ℕ) → r < 1000000000 → found_in (line (verdict_line (verdicts.Minimum r))) ≡ Some (verdicts.Minimum r)
unfolding found_in verdict_line after
minimum_again r short = ap (option_map (λ n. verdicts.Minimum n)) (number_again (codes "minimum ") r short)

pub bounded_again : (low r : ℕ) → low < 1000000000 → r < 1000000000 → found_in (line (verdict_line (verdicts.Bounded low r))) ≡ Some (verdicts.Bounded low r)
unfolding found_in verdict_line after
bounded_again low r short little =
    two_again verdicts.Bounded low r short little

pub none_again : (x : ℕ) → x < 1000000000 → not_found_in (line (verdict_line (verdicts.NoChain x))) ≡ Some (verdicts.NoChain x)
unfolding not_found_in verdict_line after
none_again x short = ap (option_map (λ n. verdicts.NoChain n)) (number_again (codes "none ") x short)

pub open_again : (low : ℕ) → low < 1000000000 → not_found_in (line (verdict_line (verdicts.Open low))) ≡ Some (verdicts.Open low)
unfolding not_found_in verdict_line after
open_again low short = ap (option_map (λ n. verdicts.Open n)) (number_again (codes "open ") low short)

pub same_again : (v : Verdict) → is_same v v ≡ true
same_again (verdicts.Minimum r) = eq_same r
same_again (verdicts.NoChain x) = eq_same x
same_again (verdicts.Bounded low r) = rw (eq_same low, eq_same r) refl
same_again (verdicts.Open low) = eq_same low
