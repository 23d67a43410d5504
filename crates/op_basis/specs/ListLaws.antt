-- The sets that are read from names and lists.
use Rattle.std.proofs.Common.{◌≡◌, ℕ, zero, suc, ◌^◌, ◌<◌, ◌==◌, Bool, true, false, cond, List, [], ◌∷◌, length, bit_or}
use Rattle.std.proofs.Common.{max, Option, Some, None, Result, Ok, Err, IfOk, refl, sym, ap, ◌∙◌, arith, inl, inr}
use Rattle.std.proofs.lemmas.Bool.{cases_lt}
use Rattle.std.proofs.lemmas.Nat.Bits.{bit_at_or, bit_at-lt, bit_at-zero, bit_at-pow_same}
use Rattle.std.specs.Int.{bit_at}
use Rattle.op_basis.specs.declared.error.BasisError.{BasisError}
use Rattle.op_basis.specs.Basis.{members}
use Rattle.op_basis.specs.ReadBack.{has_item}
use Rattle.op_basis.specs.Text.{◌>>=◌, all_set, u2_set, bench_set, nand_set, items_of, with_operator, with_item, listed, begins_letter, named, basis_of}
use Rattle.op_basis.specs.Word.{operator_in}

-- ---- no set that is read is empty

max_one : (a : ℕ) → a < 2 → max a 1 ≡ 1
max_one zero low = refl
max_one (suc zero) low = refl
max_one (suc (suc a)) low = absurd (omega arith)

-- the operator that is added is a member
pub or_has : (set op : ℕ) → bit_at (bit_or set (2 ^ op)) op ≡ 1
or_has set op = bit_at_or set (2 ^ op) op ∙ rw (bit_at-pow_same op) (max_one (bit_at set op) (bit_at-lt set op))

no_member : (set op : ℕ) → set ≡ 0 → bit_at set op ≡ 1 → ⊥
no_member set op e one = absurd (omega (arith, sym one ∙ ap (λ (s : ℕ). bit_at s op) e ∙ bit_at-zero op))

or_some : (set op : ℕ) → 0 < bit_or set (2 ^ op)
or_some set op = elim (cases_lt 0 (bit_or set (2 ^ op))) [
  | inl some ↦ some
  | inr none ↦ absurd (no_member (bit_or set (2 ^ op)) op (omega arith) (or_has set op))
]

added_some : (is : Bool) (set op more : ℕ) (error : BasisError) → cond is (Err error) (Ok (bit_or set (2 ^ op))) ≡ Ok more → 0 < more
added_some true set op more error e = absurd cc
added_some false set op more error e = let same : bit_or set (2 ^ op) ≡ more = cc in rw same at (or_some set op)

operator_some : (set more : ℕ) (op : Option ℕ) → with_operator set op ≡ Ok more → 0 < more
operator_some set more None e = absurd cc
operator_some set more (Some op) e = added_some (members set op) set op more _ e

unless_some : (is : Bool) (set more : ℕ) (op : Option ℕ) (error : BasisError) → cond is (Err error) (with_operator set op) ≡ Ok more → 0 < more
unless_some true set more op error e = absurd cc
unless_some false set more op error e = operator_some set more op e

item_some : (set more : ℕ) (item : List ℕ) → with_item set item ≡ Ok more → 0 < more
unfolding with_item
item_some set more item e = unless_some (length item == 0) set more (operator_in item) _ e

bind_some : (r : Result ℕ BasisError) (more : ℕ) (items : List (List ℕ)) → ((m : ℕ) → r ≡ Ok m → listed m items ≡ Ok more → 0 < more) → (r >>= λ m. listed m items) ≡ Ok more → 0 < more
bind_some (Ok m) more items each e = each m refl e
bind_some (Err error) more items each e = absurd cc

grown_some : (set more : ℕ) (items : List (List ℕ)) → 0 < set → listed set items ≡ Ok more → 0 < more
unfolding listed
grown_some set more [] some e = let same : set ≡ more = cc in rw same at some
grown_some set more (item ∷ items) some e = bind_some (with_item set item) more items (λ m here rest. grown_some m more items (item_some set m item here) rest) e

-- the set of a nonempty list has a member
listed_some : (set more : ℕ) (items : List (List ℕ)) → 0 < length items → listed set items ≡ Ok more → 0 < more
unfolding listed
listed_some set more [] some e = absurd (omega arith)
listed_some set more (item ∷ items) some e = bind_some (with_item set item) more items (λ m here rest. grown_some m more items (item_some set m item here) rest) e

if_some : (is : Bool) (set more : ℕ) (rest : Result ℕ BasisError) → 0 < set → (rest ≡ Ok more → 0 < more) → cond is (Ok set) rest ≡ Ok more → 0 < more
if_some true set more rest some other e = let same : set ≡ more = cc in rw same at some
if_some false set more rest some other e = other e

none_named : (more : ℕ) (error : BasisError) → Err error ≡ Ok more → 0 < more
none_named more error e = absurd cc

-- the set of a name has a member
named_some : (word : List ℕ) (more : ℕ) → named word ≡ Ok more → 0 < more
unfolding named
named_some word more e =
    if_some _ all_set more _ (omega arith)
    (if_some _ u2_set more _ (omega arith)
    (if_some _ bench_set more _ (omega arith)
    (if_some _ nand_set more _ (omega arith) (none_named more _)))) e

word_some : (is : Bool) (word : List ℕ) (more : ℕ) → cond is (named word) (listed 0 (items_of word)) ≡ Ok more → 0 < more
word_some true word more e = named_some word more e
word_some false word more e = listed_some 0 more (items_of word) (has_item word) e

-- the set of a text has a member
pub basis_some : (word : List ℕ) (set : ℕ) → basis_of word ≡ Ok set → 0 < set
basis_some word set e = word_some (begins_letter word) word set e

if_ok : (r : Result ℕ BasisError) → ((set : ℕ) → r ≡ Ok set → 0 < set) → IfOk r (λ set. 0 < set)
if_ok (Ok set) each = each set refl
if_ok (Err error) each = tt

pub read_named : (word : List ℕ) → IfOk (named word) (λ set. 0 < set)
read_named word = if_ok (named word) (named_some word)

pub read_listed : (word : List ℕ) → IfOk (listed 0 (items_of word)) (λ set. 0 < set)
read_listed word = if_ok (listed 0 (items_of word)) (λ set e. listed_some 0 set (items_of word) (has_item word) e)
