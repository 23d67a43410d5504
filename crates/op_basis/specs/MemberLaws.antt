-- A list that is read gives the set of the operators whose words are its items.
use Rattle.std.proofs.Common.{◌≡◌, ◌≢◌, ℕ, zero, suc, ◌^◌, ◌<◌, ◌==◌, Bool, true, false, cond, List, [], ◌∷◌, length}
use Rattle.std.proofs.Common.{bit_or, max, Option, Some, None, Result, Ok, Err, refl, sym, ap, ◌∙◌, arith, inl, inr}
use Rattle.std.proofs.Common.{eqb-true, Contains, ◌⊎◌, ◌↔◌}
use Rattle.std.proofs.lemmas.Grind.{common_steps}
use Rattle.std.proofs.lemmas.Bool.{eqb-false}
use Rattle.std.proofs.lemmas.List.Elements.{Contains-append_right, Contains-append_cases}
use Rattle.std.proofs.lemmas.Map.Keys.{IsDistinct-cons}
use Rattle.std.proofs.lemmas.Nat.{or_lt}
use Rattle.std.proofs.lemmas.Nat.Bits.{bit_at_or, bit_at-lt, bit_at-zero, bit_at-pow_other}
use Rattle.std.proofs.Math.Pow.{pow-lt}
use Rattle.std.specs.Int.{bit_at}
use Rattle.std.specs.List.{IsDistinct, AllByRecursion}
use Rattle.std.specs.Cmp.Lexicographic.{bytes_decides}
use Rattle.op_basis.specs.declared.error.BasisError.{BasisError}
use Rattle.op_basis.specs.Basis.{members}
use Rattle.op_basis.specs.Closed.{of_values}
use Rattle.op_basis.specs.Laws.{operator_values, operator_low}
use Rattle.op_basis.specs.ReadBack.{operator_back}
use Rattle.op_basis.specs.Text.{◌>>=◌, same_text, items_of, with_operator, with_item, listed, begins_letter, basis_of}
use Rattle.op_basis.specs.Word.{bit_in, of_bits, operator_in, character, word_text}
use Rattle.op_basis.specs.ListLaws.{or_has}

-- ---- sets with one more operator

max_none : (a : ℕ) → a < 2 → max a 0 ≡ a
max_none zero low = refl
max_none (suc zero) low = refl
max_none (suc (suc a)) low = absurd (omega arith)

-- the operator that is added is a member, and membership of the others is as before
new_member : (set p : ℕ) → members (bit_or set (2 ^ p)) p ≡ true
new_member set p = ap (λ (x : ℕ). x == 1) (or_has set p)

old_member : (set p op : ℕ) → op ≢ p → members (bit_or set (2 ^ p)) op ≡ members set op
old_member set p op other = ap (λ (x : ℕ). x == 1) (bit_at_or set (2 ^ p) op ∙ rw (bit_at-pow_other p op other) (max_none (bit_at set op) (bit_at-lt set op)))

kept_by : (set p op : ℕ) (same : Bool) → (op == p) ≡ same → members set op ≡ true → members (bit_or set (2 ^ p)) op ≡ true
kept_by set p op true e is = let same : op ≡ p = eqb-true op p e in ap (λ (x : ℕ). members (bit_or set (2 ^ p)) x) same ∙ new_member set p
kept_by set p op false e is = old_member set p op (eqb-false op p e) ∙ is

from_by : (set p op : ℕ) (same : Bool) → (op == p) ≡ same → members (bit_or set (2 ^ p)) op ≡ true → (members set op ≡ true) ⊎ (op ≡ p)
from_by set p op true e is = inr (eqb-true op p e)
from_by set p op false e is = inl (sym (old_member set p op (eqb-false op p e)) ∙ is)

-- ---- items that are words of operators

character_is : (c : ℕ) (bit : Bool) → bit_in c ≡ Some bit → c ≡ character bit
character_is c true e = grind (arith, common_steps)
character_is c false e = grind (arith, common_steps)

at_each : (w x y z : Bool) → Bool → Bool → Bool
at_each w x y z false false = w
at_each w x y z false true = x
at_each w x y z true false = y
at_each w x y z true true = z

values_word : (w x y z : Bool) → word_text (of_values w x y z) ≡ character w ∷ character x ∷ character y ∷ character z ∷ []
unfolding at_each word_text
values_word w x y z =
    let f : Bool → Bool → Bool = at_each w x y z in
    rw (operator_values f false false, operator_values f false true, operator_values f true false, operator_values f true true) refl

values_low : (w x y z : Bool) → of_values w x y z < 16
unfolding at_each
values_low w x y z = operator_low (at_each w x y z)

-- an item is the word of an operator
pub record IsWordOf (item : List ℕ) (op : ℕ) : Type 0 where
  pub word : item ≡ word_text op
  pub low : op < 16

spelled_by : (a b c d op : ℕ) (at_00 at_01 at_10 at_11 : Option Bool) → bit_in a ≡ at_00 → bit_in b ≡ at_01 →
    bit_in c ≡ at_10 → bit_in d ≡ at_11 → of_bits at_00 at_01 at_10 at_11 ≡ Some op → IsWordOf (a ∷ b ∷ c ∷ d ∷ []) op
spelled_by a b c d op None y z w ea eb ec ed e = absurd cc
spelled_by a b c d op (Some x) None z w ea eb ec ed e = absurd cc
spelled_by a b c d op (Some x) (Some y) None w ea eb ec ed e = absurd cc
spelled_by a b c d op (Some x) (Some y) (Some z) None ea eb ec ed e = absurd cc
spelled_by a b c d op (Some x) (Some y) (Some z) (Some w) ea eb ec ed e =
    let is : of_values x y z w ≡ op = cc in
    record {
      word = rw (character_is a x ea, character_is b y eb, character_is c z ec, character_is d w ed) (sym (values_word x y z w) ∙ ap word_text is);
      low = rw is at (values_low x y z w);
    }

-- an item that is read as an operator is its word
pub item_spelled : (item : List ℕ) (op : ℕ) → operator_in item ≡ Some op → IsWordOf item op
unfolding operator_in
item_spelled [] op e = absurd cc
item_spelled (a ∷ []) op e = absurd cc
item_spelled (a ∷ b ∷ []) op e = absurd cc
item_spelled (a ∷ b ∷ c ∷ []) op e = absurd cc
item_spelled (a ∷ b ∷ c ∷ d ∷ []) op e = spelled_by a b c d op _ _ _ _ refl refl refl refl e
item_spelled (a ∷ b ∷ c ∷ d ∷ x ∷ xs) op e = absurd cc

some_same : (a b : ℕ) → Some a ≡ Some b → a ≡ b
some_same a b e = cc

-- operators with equal words are equal
same_operator : (a b : ℕ) → a < 16 → b < 16 → word_text a ≡ word_text b → a ≡ b
same_operator a b low below e = some_same a b (sym (operator_back a low) ∙ ap operator_in e ∙ operator_back b below)

-- the set with one more item: the item is the word of an operator that wasn't a member
pub record AddsItem (set : ℕ) (item : List ℕ) (more : ℕ) : Type 0 where
  pub op : ℕ
  pub spelled : IsWordOf item op
  pub fresh : members set op ≡ false
  pub sum : bit_or set (2 ^ op) ≡ more

added_by : (is : Bool) (set op more : ℕ) (item : List ℕ) (error : BasisError) → members set op ≡ is →
    IsWordOf item op → cond is (Err error) (Ok (bit_or set (2 ^ op))) ≡ Ok more → AddsItem set item more
added_by true set p more item error is spell e = absurd cc
added_by false set p more item error is spell e = record { op = p; spelled = spell; fresh = is; sum = cc }

operator_adds : (set more : ℕ) (item : List ℕ) (found : Option ℕ) → operator_in item ≡ found → with_operator set found ≡ Ok more → AddsItem set item more
operator_adds set more item None is e = absurd cc
operator_adds set more item (Some op) is e = added_by (members set op) set op more item _ refl (item_spelled item op is) e

unless_adds : (is : Bool) (set more : ℕ) (item : List ℕ) (error : BasisError) → cond is (Err error) (with_operator set (operator_in item)) ≡ Ok more → AddsItem set item more
unless_adds true set more item error e = absurd cc
unless_adds false set more item error e = operator_adds set more item (operator_in item) refl e

item_adds : (set more : ℕ) (item : List ℕ) → with_item set item ≡ Ok more → AddsItem set item more
unfolding with_item
item_adds set more item e = unless_adds (length item == 0) set more item _ e

-- ---- lists

contains_here : (y x : List ℕ) (xs : List (List ℕ)) → y ≡ x → Contains (y ∷ xs) x
contains_here y x xs e = (0, omega arith, e)

contains_later : (y x : List ℕ) (xs : List (List ℕ)) → Contains xs x → Contains (y ∷ xs) x
contains_later y x xs h = Contains-append_right (y ∷ []) xs x h

only_one : (y x : List ℕ) → Contains (y ∷ []) x → y ≡ x
only_one y x (zero, low, e) = e
only_one y x (suc k, low, e) = absurd (omega arith)

contains_none : (x : List ℕ) → Contains [] x → ⊥
contains_none x (k, low, e) = omega arith

contains_cases : (y x : List ℕ) (xs : List (List ℕ)) → Contains (y ∷ xs) x → (y ≡ x) ⊎ Contains xs x
contains_cases y x xs h = elim (Contains-append_cases (y ∷ []) xs x h) [
  | inl here ↦ inl (only_one y x here)
  | inr later ↦ inr later
]

not_true : (b : Bool) → (b ≡ true → ⊥) → b ≡ false
not_true true never = absurd (never refl)
not_true false never = refl

-- an item that isn't in a list differs from each item of the list
all_differ : (x : List ℕ) (xs : List (List ℕ)) → (Contains xs x → ⊥) → AllByRecursion (λ y. same_text x y ≡ false) xs
all_differ x [] never = tt
all_differ x (y ∷ xs) never = (not_true (same_text x y) (λ e. never (contains_here y x xs (sym ((bytes_decides x y).0 e)))), all_differ x xs (λ h. never (contains_later y x xs h)))

-- how a list that is read changes the set
pub record ReadsItems (set more : ℕ) (items : List (List ℕ)) : Type 0 where
  pub kept : (op : ℕ) → members set op ≡ true → members more op ≡ true
  pub put : (op : ℕ) → op < 16 → Contains items (word_text op) → members more op ≡ true
  pub came : (op : ℕ) → members more op ≡ true → (members set op ≡ true) ⊎ Contains items (word_text op)
  pub fresh : (op : ℕ) → op < 16 → Contains items (word_text op) → members set op ≡ false
  pub words : (item : List ℕ) → Contains items item → (op : ℕ) × IsWordOf item op
  pub once : IsDistinct same_text items
  pub below : set < 2 ^ 16 → more < 2 ^ 16

none_distinct : IsDistinct same_text []
unfolding IsDistinct
none_distinct = tt

reads_none : (set : ℕ) → ReadsItems set set []
reads_none set = record {
  kept = λ op is. is;
  put = λ op low has. absurd (contains_none (word_text op) has);
  came = λ op is. inl is;
  fresh = λ op low has. absurd (contains_none (word_text op) has);
  words = λ item has. absurd (contains_none item has);
  once = none_distinct;
  below = λ low. low;
}

clash : (b : Bool) → b ≡ true → b ≡ false → ⊥
clash b yes_it no_it = cc

-- the first item is the operator `adds.op`
first_is : (set middle : ℕ) (item : List ℕ) (adds : AddsItem set item middle) (op : ℕ) → op < 16 → item ≡ word_text op → op ≡ adds.op
first_is set middle item adds op low e = same_operator op adds.op low adds.spelled.low (sym e ∙ adds.spelled.word)

grown_kept : (set middle : ℕ) (item : List ℕ) → AddsItem set item middle → (op : ℕ) → members set op ≡ true → members middle op ≡ true
grown_kept set middle item adds op is = ap (λ (s : ℕ). members s op) (sym adds.sum) ∙ kept_by set adds.op op (op == adds.op) refl is

grown_put : (set middle : ℕ) (item : List ℕ) (adds : AddsItem set item middle) (op : ℕ) → op ≡ adds.op → members middle op ≡ true
grown_put set middle item adds op e = ap (λ (x : ℕ). members middle x) e ∙ ap (λ (s : ℕ). members s adds.op) (sym adds.sum) ∙ new_member set adds.op

grown_came : (set middle : ℕ) (item : List ℕ) (adds : AddsItem set item middle) (op : ℕ) → members middle op ≡ true → (members set op ≡ true) ⊎ (item ≡ word_text op)
grown_came set middle item adds op is = elim (from_by set adds.op op (op == adds.op) refl (ap (λ (s : ℕ). members s op) adds.sum ∙ is)) [
  | inl before ↦ inl before
  | inr e ↦ inr (adds.spelled.word ∙ ap word_text (sym e))
]

grown_below : (set middle : ℕ) (item : List ℕ) → AddsItem set item middle → set < 2 ^ 16 → middle < 2 ^ 16
grown_below set middle item adds low = rw adds.sum at (or_lt 16 set (2 ^ adds.op) low (pow-lt adds.spelled.low))

step_put : (set middle more : ℕ) (item : List ℕ) (items : List (List ℕ)) → AddsItem set item middle →
    ReadsItems middle more items → (op : ℕ) → op < 16 → Contains (item ∷ items) (word_text op) → members more op ≡ true
step_put set middle more item items adds rest op low has = elim (contains_cases item (word_text op) items has) [
  | inl here ↦ rest.kept op (grown_put set middle item adds op (first_is set middle item adds op low here))
  | inr later ↦ rest.put op low later
]

step_came : (set middle more : ℕ) (item : List ℕ) (items : List (List ℕ)) → AddsItem set item middle →
    ReadsItems middle more items → (op : ℕ) → members more op ≡ true → (members set op ≡ true) ⊎
    Contains (item ∷ items) (word_text op)
step_came set middle more item items adds rest op is = elim (rest.came op is) [
  | inl before ↦ elim (grown_came set middle item adds op before) [
    | inl first ↦ inl first
    | inr here ↦ inr (contains_here item (word_text op) items here)
  ]
  | inr later ↦ inr (contains_later item (word_text op) items later)
]

step_fresh : (set middle more : ℕ) (item : List ℕ) (items : List (List ℕ)) → AddsItem set item middle →
    ReadsItems middle more items → (op : ℕ) → op < 16 → Contains (item ∷ items) (word_text op) → members set op ≡ false
step_fresh set middle more item items adds rest op low has = elim (contains_cases item (word_text op) items has) [
  | inl here ↦ ap (λ (x : ℕ). members set x) (first_is set middle item adds op low here) ∙ adds.fresh
  | inr later ↦ not_true (members set op) (λ is. clash (members middle op) (grown_kept set middle item adds op is) (rest.fresh op low later))
]

step_words : (set middle more : ℕ) (item : List ℕ) (items : List (List ℕ)) → AddsItem set item middle →
    ReadsItems middle more items → (x : List ℕ) → Contains (item ∷ items) x → (op : ℕ) × IsWordOf x op
step_words set middle more item items adds rest x has = elim (contains_cases item x items has) [
  | inl here ↦ (adds.op, record { word = sym here ∙ adds.spelled.word; low = adds.spelled.low })
  | inr later ↦ rest.words x later
]

not_again : (set middle more : ℕ) (item : List ℕ) (items : List (List ℕ)) → AddsItem set item middle → ReadsItems middle more items → Contains items item → ⊥
not_again set middle more item items adds rest has =
    let same : Contains items (word_text adds.op) = rw adds.spelled.word at has in
    clash (members middle adds.op) (grown_put set middle item adds adds.op refl) (rest.fresh adds.op adds.spelled.low same)

reads_step : (set middle more : ℕ) (item : List ℕ) (items : List (List ℕ)) → AddsItem set item middle → ReadsItems middle more items → ReadsItems set more (item ∷ items)
reads_step set middle more item items adds rest = record {
  kept = λ op is. rest.kept op (grown_kept set middle item adds op is);
  put = step_put set middle more item items adds rest;
  came = step_came set middle more item items adds rest;
  fresh = step_fresh set middle more item items adds rest;
  words = step_words set middle more item items adds rest;
  once = IsDistinct-cons same_text item items (all_differ item items (not_again set middle more item items adds rest)) rest.once;
  below = λ low. rest.below (grown_below set middle item adds low);
}

bind_reads : (r : Result ℕ BasisError) (set more : ℕ) (item : List ℕ) (items : List (List ℕ)) →
    ((m : ℕ) → r ≡ Ok m → listed m items ≡ Ok more → ReadsItems set more (item ∷ items)) →
    (r >>= λ m. listed m items) ≡ Ok more → ReadsItems set more (item ∷ items)
bind_reads (Ok m) set more item items each e = each m refl e
bind_reads (Err error) set more item items each e = absurd cc

same_none : (set more : ℕ) → set ≡ more → ReadsItems set more []
same_none set more e = rw e (reads_none more)

listed_reads : (set more : ℕ) (items : List (List ℕ)) → listed set items ≡ Ok more → ReadsItems set more items
unfolding listed
listed_reads set more [] e = same_none set more cc
listed_reads set more (item ∷ items) e = bind_reads (with_item set item) set more item items (λ m here rest.
    reads_step set m more item items (item_adds set m item here) (listed_reads m more items rest)) e

-- ---- words of lists

list_read : (is : Bool) (word : List ℕ) (set : ℕ) (other : Result ℕ BasisError) → is ≡ false → cond is other (listed 0 (items_of word)) ≡ Ok set → ReadsItems 0 set (items_of word)
list_read true word set other digit e = absurd cc
list_read false word set other digit e = listed_reads 0 set (items_of word) e

word_reads : (word : List ℕ) (set : ℕ) → begins_letter word ≡ false → basis_of word ≡ Ok set → ReadsItems 0 set (items_of word)
word_reads word set digit e = list_read (begins_letter word) word set _ digit e

no_zero_member : (op : ℕ) → members 0 op ≡ true → ⊥
no_zero_member op is = clash (members 0 op) is (ap (λ (x : ℕ). x == 1) (bit_at-zero op))

among : (word : List ℕ) (set op : ℕ) → ReadsItems 0 set (items_of word) → members set op ≡ true → Contains (items_of word) (word_text op)
among word set op reads is = elim (reads.came op is) [
  | inl before ↦ absurd (no_zero_member op before)
  | inr has ↦ has
]

-- an operator is a member exactly where its word is an item
pub members_among : (word : List ℕ) (set op : ℕ) → begins_letter word ≡ false → basis_of word ≡ Ok set → op < 16 → (members set op ≡ true) ↔ Contains (items_of word) (word_text op)
members_among word set op digit e low = let reads = word_reads word set digit e in (among word set op reads, reads.put op low)

-- each item is the word of an operator
pub items_spelled : (word item : List ℕ) (set : ℕ) → begins_letter word ≡ false → basis_of word ≡ Ok set → Contains (items_of word) item → (op : ℕ) × (op < 16) × (item ≡ word_text op)
items_spelled word item set digit e has =
    let reads = word_reads word set digit e in
    let found = reads.words item has in
    (found.0, found.1.low, found.1.word)

pub items_once : (word : List ℕ) (set : ℕ) → begins_letter word ≡ false → basis_of word ≡ Ok set → IsDistinct same_text (items_of word)
items_once word set digit e = let reads = word_reads word set digit e in reads.once

pub set_below : (word : List ℕ) (set : ℕ) → begins_letter word ≡ false → basis_of word ≡ Ok set → set < 65536
set_below word set digit e = let reads = word_reads word set digit e in reads.below (omega arith)
