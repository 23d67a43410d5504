-- Texts of bases: a name, or words of operators with commas between them.
use Rattle.std.specs.Prelude.{ℕ, zero, suc, ◌+◌, ◌^◌, Bool, false, List, [], ◌∷◌, ◌++◌, length, codes, bit_or, nat_eq}
use Rattle.std.specs.Prelude.{Option, Some, None, Result, Ok, Err, ◌==◌, if◌then◌else◌}
use Rattle.std.specs.List.{slice_split}
use Rattle.std.specs.Char.{is_ascii_alphabetic}
use Rattle.std.specs.Cmp.Lexicographic.{pointwise}
use Rattle.op_basis.specs.declared.error.BasisError.{BasisError}
use Rattle.op_basis.specs.declared.error.BasisError.TheVariants.{UnknownName, BadOperator, Empty, Repeated}
use Rattle.op_basis.specs.Basis.{members}
use Rattle.op_basis.specs.Word.{operator_in, word_text}

-- monadic bind: the function is applied to a value, and an error stays
infixl 10 ◌>>=◌
abbrev pub ◌>>=◌ : {A B : Type 0} → Result A BasisError → (A → Result B BasisError) → Result B BasisError
(Ok x) >>= f = f x
(Err e) >>= f = Err e

-- ---- the bases that have names

abbrev pub all_set : ℕ
all_set = 65535

-- the operators that depend on both operands, except XOR and its complement:
-- 0001 0010 0100 0111 1000 1011 1101 1110
abbrev pub u2_set : ℕ
u2_set = 2 ^ 1 + 2 ^ 2 + 2 ^ 4 + 2 ^ 7 + 2 ^ 8 + 2 ^ 11 + 2 ^ 13 + 2 ^ 14

-- AND, XOR, OR and their complements: 0001 0110 0111 1000 1001 1110
abbrev pub bench_set : ℕ
bench_set = 2 ^ 1 + 2 ^ 6 + 2 ^ 7 + 2 ^ 8 + 2 ^ 9 + 2 ^ 14

-- NAND alone: 1110
abbrev pub nand_set : ℕ
nand_set = 2 ^ 14

abbrev pub same_text : List ℕ → List ℕ → Bool
same_text = pointwise nat_eq

-- the basis of a name
unfoldable pub named : List ℕ → Result ℕ BasisError
named word =
    if same_text word (codes "all") then Ok all_set
    else (if same_text word (codes "u2") then Ok u2_set
    else (if same_text word (codes "bench") then Ok bench_set
    else (if same_text word (codes "nand") then Ok nand_set
    else Err UnknownName)))

-- the name of a basis, where it has one
unfoldable pub name_of : ℕ → Option (List ℕ)
name_of set =
    if set == all_set then Some (codes "all")
    else (if set == u2_set then Some (codes "u2")
    else (if set == bench_set then Some (codes "bench")
    else (if set == nand_set then Some (codes "nand")
    else None)))

-- ---- lists of operators

abbrev pub is_comma : ℕ → Bool
is_comma b = b == 44

-- the items between the commas
unfoldable pub items_of : List ℕ → List (List ℕ)
items_of word = slice_split is_comma word

-- the set with one more operator, which must be there and not yet be a member
abbrev pub with_operator : ℕ → Option ℕ → Result ℕ BasisError
with_operator set None = Err BadOperator
with_operator set (Some op) = if members set op then Err Repeated else Ok (bit_or set (2 ^ op))

-- the set with the operator of one more item
unfoldable pub with_item : ℕ → List ℕ → Result ℕ BasisError
with_item set item = if length item == 0 then Err Empty else with_operator set (operator_in item)

-- the set with the operators of all items, or the first error from the left
unfoldable pub listed : ℕ → List (List ℕ) → Result ℕ BasisError
listed set [] = Ok set
listed set (item ∷ items) = with_item set item >>= λ more. listed more items

abbrev pub begins_letter : List ℕ → Bool
begins_letter [] = false
begins_letter (b ∷ bs) = is_ascii_alphabetic b

-- The basis of a text, or the error.
-- Example: `nand` and `1110` are both the set of NAND alone; `0110,1110,` has an empty item at its end.
abbrev pub basis_of : List ℕ → Result ℕ BasisError
basis_of word = if begins_letter word then named word else listed 0 (items_of word)

-- ---- how a basis is written

-- a word appended to a list, after a comma unless the list is empty
abbrev pub with_word : List ℕ → List ℕ → List ℕ
with_word [] word = word
with_word (b ∷ bs) word = (b ∷ bs) ++ 44 ∷ word

-- the words of the members below k, in increasing order, with commas
unfoldable pub list_below : ℕ → ℕ → List ℕ
list_below set zero = []
list_below set (suc k) = if members set k then with_word (list_below set k) (word_text k) else list_below set k

abbrev pub text_with : Option (List ℕ) → List ℕ → List ℕ
text_with None list = list
text_with (Some name) list = name

-- The one spelling of a basis: its name where it has one, else the words of its members in increasing order.
-- Example: the set of XOR and its complement is `0110,1001`.
abbrev pub basis_text : ℕ → List ℕ
basis_text set = text_with (name_of set) (list_below set 16)
