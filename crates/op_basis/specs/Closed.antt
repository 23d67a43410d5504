-- Five closure properties of a basis, in terms of the functions of two bits that its operators are.
use Rattle.std.specs.Prelude.{ℕ, zero, suc, ◌+◌, ◌*◌, Bool, true, false, ◌&&◌, ◌||◌, not, ◌==◌, if◌then◌else◌}
use Rattle.chain_theory.specs.Operator.{apply, Basis}

-- ---- operators by their values

abbrev pub number : Bool → ℕ
number bit = if bit then 1 else 0

-- the operator with the four values at (0,0), (0,1), (1,0) and (1,1)
abbrev pub of_values : Bool → Bool → Bool → Bool → ℕ
of_values at_00 at_01 at_10 at_11 = 8 * number at_00 + 4 * number at_01 + 2 * number at_10 + number at_11

-- the operator with the values of a function of two bits
-- Example: operator_of (λ a b. a && b) is 1, the operator 0001.
abbrev pub operator_of : (Bool → Bool → Bool) → ℕ
operator_of f = of_values (f false false) (f false true) (f true false) (f true true)

-- the operator with its operands exchanged
-- Example: 0010, a and not b, becomes 0100, b and not a.
unfoldable pub swapped : ℕ → ℕ
swapped op = operator_of (λ a b. apply op b a)

-- the complement of the operator, and the operator with one operand complemented
unfoldable pub complement : ℕ → ℕ
complement op = operator_of (λ a b. not (apply op a b))

unfoldable pub first_complemented : ℕ → ℕ
first_complemented op = operator_of (λ a b. apply op (not a) b)

unfoldable pub second_complemented : ℕ → ℕ
second_complemented op = operator_of (λ a b. apply op a (not b))

-- ---- tests of all operators

-- the test passes at each number below k
unfoldable pub every_below : ℕ → (ℕ → Bool) → Bool
every_below zero test = true
every_below (suc k) test = every_below k test && test k

-- the test passes at each of the sixteen operators
abbrev pub every : (ℕ → Bool) → Bool
every test = every_below 16 test

abbrev pub implies : Bool → Bool → Bool
implies a b = not a || b

-- ---- exchanged operands

unfoldable pub swaps : Basis → ℕ → Bool
swaps basis op = implies (basis op) (basis (swapped op))

-- Each member is a member with its operands exchanged, too.
abbrev pub swap_closed : Basis → Bool
swap_closed basis = every (swaps basis)

-- ---- negation

-- on equal operands the operator is a negation
unfoldable pub negates_both : ℕ → Bool
negates_both op = apply op false false && not (apply op true true)

unfoldable pub has_no_negation_at : Basis → ℕ → Bool
has_no_negation_at basis op = implies (basis op) (not (negates_both op))

-- Some member has the value 1 at (0,0) and 0 at (1,1).
abbrev pub has_negation : Basis → Bool
has_negation basis = not (every (has_no_negation_at basis))

-- ---- constants

abbrev pub is_complement : Bool → Bool → Bool
is_complement at_0 at_1 = at_0 && not at_1

-- with one operand fixed to 0 or to 1, the operator is the complement of the other operand
unfoldable pub negates_one : ℕ → Bool
negates_one op =
    is_complement (apply op false false) (apply op false true)
    || is_complement (apply op true false) (apply op true true)
    || is_complement (apply op false false) (apply op true false)
    || is_complement (apply op false true) (apply op true true)

unfoldable pub keeps_constants : Basis → ℕ → Bool
keeps_constants basis op = implies (basis op) (not (negates_one op))

-- Constant steps can be left out: some member is a negation on equal operands, or no member is the
-- complement of one operand when the other is fixed to a constant.
abbrev pub const_closed : Basis → Bool
const_closed basis = has_negation basis || every (keeps_constants basis)

-- ---- complements

unfoldable pub has_complements : Basis → ℕ → Bool
has_complements basis op = implies (basis op) (basis (complement op) && basis (first_complemented op) &&
    basis (second_complemented op))

-- For each member, its complement and the operators with one operand complemented are members.
abbrev pub polarity_closed : Basis → Bool
polarity_closed basis = every (has_complements basis)

-- ---- re-application: an operator applied to another one and one of its operands

-- A step with this operator can be one step over the basis, or be left out: the operator is a member,
-- with its operands exchanged or not; or one of its operands; or a constant, if constants can be left
-- out; or the complement of an operand, if there is a negation.
unfoldable pub is_allowed : Basis → ℕ → Bool
is_allowed basis op =
    (basis op || basis (swapped op))
    || (op == operator_of (λ a b. a) || op == operator_of (λ a b. b))
    || ((op == operator_of (λ a b. false) || op == operator_of (λ a b. true)) && const_closed basis)
    || ((op == operator_of (λ a b. not a) || op == operator_of (λ a b. not b)) && has_negation basis)

-- q applied to the value of p and one operand of p, in the four possible ways
unfoldable pub left_on_first : ℕ → ℕ → ℕ
left_on_first p q = operator_of (λ a b. apply q (apply p a b) a)

unfoldable pub left_on_second : ℕ → ℕ → ℕ
left_on_second p q = operator_of (λ a b. apply q (apply p a b) b)

unfoldable pub right_on_first : ℕ → ℕ → ℕ
right_on_first p q = operator_of (λ a b. apply q a (apply p a b))

unfoldable pub right_on_second : ℕ → ℕ → ℕ
right_on_second p q = operator_of (λ a b. apply q b (apply p a b))

unfoldable pub reapplies : Basis → ℕ → ℕ → Bool
reapplies basis p q = implies (basis q) (is_allowed basis (left_on_first p q) &&
    is_allowed basis (left_on_second p q) && is_allowed basis (right_on_first p q) &&
    is_allowed basis (right_on_second p q))

unfoldable pub reapplies_all : Basis → ℕ → Bool
reapplies_all basis p = implies (basis p) (every (reapplies basis p))

-- For all members p and q the four operators q(p(a,b), a), q(p(a,b), b), q(a, p(a,b)) and
-- q(b, p(a,b)) of (a, b) are allowed.
abbrev pub reapply_closed : Basis → Bool
reapply_closed basis = every (reapplies_all basis)
