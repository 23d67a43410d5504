-- Single lines: what is parsed is what is spelled.
use Rattle.std.proofs.Common.{◌≡◌, ◌⊎◌, ℕ, zero, suc, ◌^◌, ◌<◌, ◌≤◌, ◌&&◌, Bool, true, false, cond, List, ◌++◌, Option, Some, None, Result, Ok, Err, refl, sym, ap, ◌∙◌, subst, arith, inl, inr}
use Rattle.std.specs.Prelude.{codes, decimal, option_and_then}
use Rattle.std.specs.Str.{bytes_eq}
use Rattle.std.proofs.Math.Logic.{⊎_elim}
use Rattle.std.proofs.lemmas.Grind.{common_steps}
use Rattle.std.proofs.lemmas.Bool.{eqb-true}
use Rattle.std.proofs.lemmas.Bool.Decides.{nat_tests}
use Rattle.std.proofs.lemmas.Option.{option_and_then_some}
use Rattle.std.proofs.lemmas.Slice.Eq.{bytes_eq-Decides}
use Rattle.text_core.specs.Lines.{Line}
use Rattle.text_core.specs.Words.{after}
use Rattle.text_core.specs.Numbers.{number_up_to}
use Rattle.text_core.specs.ReadBack.{word_spells, word_back, number_spells, number_back}
use Rattle.sat_theory.specs.Line as theory
use Rattle.sat_theory.specs.Line.{IsLine}
use Rattle.lrat_text.specs.Reading.{line_in}
use Rattle.lrat_text.specs.declared.error.LineError.{LineError}
use Rattle.lrat_text.specs.Spelling.{line_body}
use Rattle.lrat_text.specs.WholeLines.{line_spells}
use Rattle.op_basis.specs.Text.{basis_of, basis_text, begins_letter, named, listed}
use Rattle.op_basis.specs.Text as bases
use Rattle.op_basis.specs.declared.error.BasisError.{BasisError}
use Rattle.op_basis.specs.ListLaws.{basis_some}
use Rattle.op_basis.specs.MemberLaws.{set_below}
use Rattle.chain_core.specs.Block.{number_in}
use Rattle.chain_core.specs.Spelling.{line}
use Rattle.chain_core.specs.WrittenListLaws.{line_is}
use Rattle.settings.specs.declared.methods.Method.{Method}
use Rattle.settings.specs.declared.methods.Method.TheVariants.{Plain, Ssv, Select, Fence, Strong, StrongFence}
use Rattle.cert_theory.specs.declared.data.LogEnd.{LogEnd}
use Rattle.cert_theory.specs.declared.data.LogEnd.TheVariants as ends
use Rattle.cert_theory.specs.declared.data.SubproblemError.TheVariants as subproblem_errors
use Rattle.cert_theory.specs.declared.data.Header.{Header}
use Rattle.settings.specs.Methods.{method_text, method_named}
use Rattle.sat_theory.specs.Limits.{most_conflicts}
use Rattle.chain_theory.specs.Limits.{most_steps}
use Rattle.cert_theory.specs.Spelling.{basis_line, method_line, conflicts_line, max_line, size_line, ended_text, log_line}
use Rattle.cert_theory.specs.SubproblemLines.{is_line, ended_in, or_misspelled, spelled_in}
use Rattle.cert_theory.specs.Judging.{or_syntax, as_syntax, value_of, spelled, basis_in, method_in, from_one, conflicts_in, max_in, size_at}
use Rattle.cert_theory.specs.GivesLaws.{bind_ok, test_ok, read_ok}
use Rattle.text_core.specs.Limits.{most_number}

pub both_true : (a b : Bool) → (a && b) ≡ true → (a ≡ true) × (b ≡ true)
both_true true b e = (refl, e)
both_true false b e = absurd cc

pub chosen : {A : Type 0} (b : Bool) (x y z : A) → cond b x y ≡ z → ((b ≡ true) × (x ≡ z)) ⊎ ((b ≡ false) × (y ≡ z))
chosen true x y z e = inl (refl, e)
chosen false x y z e = inr (refl, e)

pub some_is : {A : Type 0} (x y : A) → Some x ≡ Some y → x ≡ y
some_is x y e = cc

-- ---- words

pub is_line_spells : (text : List ℕ) (l : Line) → is_line text l ≡ true → l ≡ line text
is_line_spells text l e =
    let halves = both_true l.ended (bytes_eq l.text text) e in
    line_is l text halves.0 ((bytes_eq-Decides l.text text).0 halves.1)

pub is_line_back : (text : List ℕ) → is_line text (line text) ≡ true
is_line_back text = (bytes_eq-Decides text text).1 refl

pub value_spells : (word : List ℕ) (l : Line) (rest : List ℕ) → value_of word l ≡ Some rest → l ≡ line (word ++ rest)
value_spells word l rest e =
    ⊎_elim
    (λ (yes_ : (l.ended ≡ true) × (after word l.text ≡ Some rest)). line_is l (word ++ rest) yes_.0 (word_spells word l.text rest yes_.1))
    (λ (no_ : (l.ended ≡ false) × (None ≡ Some rest)). absurd (let f = no_.1 in cc))
    (chosen l.ended (after word l.text) None (Some rest) e)

pub value_back : (word rest : List ℕ) → value_of word (line (word ++ rest)) ≡ Some rest
value_back word rest = word_back word rest

-- a number after a word
pub number_at : (limit : ℕ) (word : List ℕ) (l : Line) (n : ℕ) → limit < 2 ^ 64 → option_and_then (number_up_to limit) (value_of word l) ≡ Some n → (n ≤ limit) × (l ≡ line (word ++ decimal n))
number_at limit word l n narrow e =
    option_and_then_some (number_up_to limit) (value_of word l) n e (λ digits following is.
    let halves = number_spells limit n digits narrow is in
    (halves.0, value_spells word l digits following ∙ ap (λ (ds : List ℕ). line (word ++ ds)) halves.1))

pub number_at_back : (limit : ℕ) (word : List ℕ) (n : ℕ) → n < 2 ^ 64 → n ≤ limit → option_and_then (number_up_to limit) (value_of word (line (word ++ decimal n))) ≡ Some n
number_at_back limit word n narrow fits = ap (option_and_then (number_up_to limit)) (value_back word (decimal n)) ∙ number_back limit n narrow fits

-- ---- the header

spelled_is : (word : List ℕ) (r : Result ℕ BasisError) (b : ℕ) → spelled word r ≡ Some b → (r ≡ Ok b) × (word ≡ basis_text b)
spelled_is word (Ok x) b e =
    ⊎_elim
    (λ (yes_ : (bytes_eq word (basis_text x) ≡ true) × (Some x ≡ Some b)).
    let same : x ≡ b = some_is x b yes_.1 in
    (ap (λ (y : ℕ). let r : Result ℕ BasisError = Ok y in r) same, (bytes_eq-Decides word (basis_text x)).0 yes_.0 ∙ ap basis_text same))
    (λ (no_ : (bytes_eq word (basis_text x) ≡ false) × (None ≡ Some b)). absurd (let f = no_.1 in cc))
    (chosen (bytes_eq word (basis_text x)) (Some x) None (Some b) e)
spelled_is word (Err d) b e = absurd cc

named_below : (word : List ℕ) (set : ℕ) → named word ≡ Ok set → set < 65536
unfolding named
named_below word set e = grind (arith, common_steps)

set_low : (word : List ℕ) (set : ℕ) (b : Bool) → begins_letter word ≡ b → basis_of word ≡ Ok set → set < 65536
set_low word set true is e = named_below word set (sym (ap (λ (t : Bool). cond t (named word) (listed 0 (bases.items_of word))) is) ∙ e)
set_low word set false is e = set_below word set is e

pub basis_spells : (l : Line) (b : ℕ) → basis_in l ≡ Some b → (l ≡ line (basis_line b)) × (0 < b) × (b < 65536)
unfolding basis_in basis_line
basis_spells l b e =
    option_and_then_some (λ word. spelled word (basis_of word)) (value_of (codes "basis ") l) b e (λ word value is.
    let halves = spelled_is word (basis_of word) b is in
    (value_spells (codes "basis ") l word value ∙ ap (λ (w : List ℕ). line (codes "basis " ++ w)) halves.1, basis_some word b halves.0, set_low word b (begins_letter word) refl halves.0))

-- a word is compared with one name after the other
named_or : (word : List ℕ) (m first : Method) (later : Option Method) → (later ≡ Some m → word ≡ method_text m) →
    cond (bytes_eq word (method_text first)) (Some first) later ≡ Some m → word ≡ method_text m
named_or word m first later next e =
    ⊎_elim
    (λ (yes_ : (bytes_eq word (method_text first) ≡ true) × (Some first ≡ Some m)).
    (bytes_eq-Decides word (method_text first)).0 yes_.0 ∙ ap method_text (some_is first m yes_.1))
    (λ (no_ : (bytes_eq word (method_text first) ≡ false) × (later ≡ Some m)). next no_.1)
    (chosen (bytes_eq word (method_text first)) (Some first) later (Some m) e)

none_named : (word : List ℕ) (m : Method) → None ≡ Some m → word ≡ method_text m
none_named word m e = absurd cc

named_method_is : (word : List ℕ) (m : Method) → method_named word ≡ Some m → word ≡ method_text m
named_method_is word m e = named_or word m Plain _ (named_or word m Ssv _ (named_or word m Select _ (named_or word m Fence _
    (named_or word m Strong _ (named_or word m StrongFence None (none_named word m)))))) e

pub method_spells : (l : Line) (m : Method) → method_in l ≡ Some m → l ≡ line (method_line m)
unfolding method_in method_line
method_spells l m e =
    option_and_then_some method_named (value_of (codes "method ") l) m e (λ word value is.
    value_spells (codes "method ") l word value ∙ ap (λ (w : List ℕ). line (codes "method " ++ w)) (named_method_is word m is))

from_one_is : (n k : ℕ) → from_one n ≡ Some k → (n ≡ k) × (1 ≤ k)
from_one_is zero k e = absurd cc
from_one_is (suc n) k e = (grind (arith, common_steps), grind (arith, common_steps))

pub conflicts_spells : (l : Line) (k : ℕ) → conflicts_in l ≡ Some k → (l ≡ line (conflicts_line k)) × (1 ≤ k) × (k ≤ most_conflicts)
unfolding conflicts_in conflicts_line
conflicts_spells l k e =
    option_and_then_some from_one (option_and_then (number_up_to most_conflicts) (value_of (codes "conflicts ") l)) k e (λ n read is.
    let one = from_one_is n k is in
    let halves = number_at most_conflicts (codes "conflicts ") l k (omega arith) (read ∙ ap (λ (x : ℕ). Some x) one.0) in
    (halves.1, one.1, halves.0))

pub max_spells : (l : Line) (x : ℕ) → max_in l ≡ Some x → (l ≡ line (max_line x)) × (x ≤ most_steps)
unfolding max_in max_line
max_spells l x e = let halves = number_at most_steps (codes "max ") l x (omega arith) e in (halves.1, halves.0)

-- ---- sections

pub size_spells : (h : Header) (number size : ℕ) (l : Line) → size_at h number size l ≡ Ok tt → (l ≡ line (size_line size)) × (size ≤ h.max)
unfolding size_at size_line
size_spells h number size l e =
    let read = bind_ok (or_syntax number (option_and_then number_in (value_of (codes "size ") l))) _ tt e in
    let halves = number_at most_number (codes "size ") l read.0 (omega arith) (read_ok number (option_and_then number_in (value_of (codes "size ") l)) read.0 read.1) in
    let tests = test_ok _ _ _ tt read.2 in
    let each = both_true _ _ tests.0 in
    let same : read.0 ≡ size = eqb-true _ _ each.0 in
    (halves.1 ∙ ap (λ (n : ℕ). line (codes "size " ++ decimal n)) same, subst (λ (n : ℕ). n ≤ h.max) same (grind (arith, nat_tests)))

pub ended_spells : (l : Line) (ended : LogEnd) → ended_in l ≡ Some ended → l ≡ line (ended_text ended)
unfolding ended_in
ended_spells l ended e =
    ⊎_elim
    (λ (refuted : (is_line (codes "refuted") l ≡ true) × (Some ends.Refuted ≡ Some ended)). is_line_spells
    (codes "refuted") l refuted.0 ∙ ap (λ (x : LogEnd). line (ended_text x)) (some_is ends.Refuted ended refuted.1))
    (λ (rest : (is_line (codes "refuted") l ≡ false) × (cond (is_line (codes "open") l) (Some ends.Open) None ≡ Some ended)).
    ⊎_elim
    (λ (opened : (is_line (codes "open") l ≡ true) × (Some ends.Open ≡ Some ended)). is_line_spells
    (codes "open") l opened.0 ∙ ap (λ (x : LogEnd). line (ended_text x)) (some_is ends.Open ended opened.1))
    (λ (neither : (is_line (codes "open") l ≡ false) × (None ≡ Some ended)). absurd (let e = neither.1 in cc))
    (chosen (is_line (codes "open") l) (Some ends.Open) None (Some ended) rest.1))
    (chosen (is_line (codes "refuted") l) (Some ends.Refuted) (cond (is_line (codes "open") l) (Some ends.Open) None) (Some ended) e)

pub as_ok : {A E : Type 0} (place : E → ℕ) (r : Result A E) (x : A) → as_syntax place r ≡ Ok x → r ≡ Ok x
as_ok place (Ok y) x e = cc
as_ok place (Err d) x e = absurd cc

spelled_ok : (r : Result theory.Line LineError) (x : theory.Line) → or_misspelled r ≡ Ok x → r ≡ Ok x
spelled_ok (Ok y) x e = cc
spelled_ok (Err d) x e = absurd cc

pub log_spells : (l : Line) (x : theory.Line) → spelled_in l ≡ Ok x → IsLine x × (l ≡ log_line x)
unfolding spelled_in
log_spells l x e =
    let ended = test_ok l.ended (or_misspelled (line_in l.text)) subproblem_errors.Syntax x e in
    let halves = line_spells l.text x (spelled_ok (line_in l.text) x ended.1) in
    (halves.0, line_is l (line_body x) ended.0 halves.1)
