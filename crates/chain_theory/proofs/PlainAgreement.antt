-- Agreement as `plain` computes it: output by output, from the first.
use Rattle.std.proofs.Common.{◌≡◌, ℕ, zero, suc, ◌+◌, ◌-◌, ◌*◌, ◌%◌, ◌^◌, ◌<◌, ◌≤◌, true, List, [], ◌∷◌, ◌++◌, length, get_or, refl, sym, ◌∙◌, ap, ap₂, subst, arith, pow_mono}
use Rattle.std.proofs.lemmas.List.{get_or_append_left, get_or-append-add}
use Rattle.chain_theory.specs.Agreement.{is_met, output_value, Agrees}
use Rattle.chain_theory.specs.Value.{out_value}
use Rattle.chain_theory.specs.Plain.{chain_of, MeetsRows, flat_specification}
use Rattle.chain_theory.specs.declared.data.Cell.{Cell}
use Rattle.chain_theory.specs.declared.data.Cell.TheVariants.{Free}
use Rattle.chain_theory.specs.declared.data.Out.{Out}
use Rattle.chain_theory.specs.declared.data.Out.TheVariants.{Zero, One, Place}
use Rattle.chain_theory.specs.declared.plain.PlainStep.{PlainStep}

-- the chain with these outs agrees with these cells
abbrev pub AgreesFlat : ℕ → List PlainStep → List Out → List Cell → Type 0
AgreesFlat n steps outs cells = Agrees (chain_of n steps outs) (flat_specification n (length outs) cells)

-- the outs are split into the first one and the others, and the cells into its own and the later ones
pub record IsSplit (n : ℕ) (outs : List Out) (cells : List Cell) (out : Out) (others : List Out) (own following : List Cell) : Type 0 where
  pub outs_are : outs ≡ out ∷ others
  pub cells_are : cells ≡ own ++ following
  pub count : length own ≡ 2 ^ n

-- a shift by fewer than 32 places keeps its bit in a word
shifted : (n : ℕ) → n < 32 → (1 * 2 ^ n) % 18446744073709551616 ≡ 2 ^ n
shifted n low = let few : n ≤ 31 = omega arith in let most : 2 ^ n ≤ 2 ^ 31 = pow_mono few in omega (arith, most)

-- the split after the first out and its cells
pub split_off_first : (n : ℕ) (outs : List Out) (cells : List Cell) (out : Out) (others : List Out)
    (own following : List Cell) → n < 32 → outs ≡ out ∷ others → cells ≡ own ++ following →
    length own ≡ (1 * 2 ^ n) % 18446744073709551616 → IsSplit n outs cells out others own following
split_off_first n outs cells out others own following low outs_are cells_are count = record { outs_are = outs_are; cells_are = cells_are; count = count ∙ shifted n low }

-- The value of an out is the same whatever outs the chain has.
any_outs : (n t : ℕ) (steps : List PlainStep) (xs ys : List Out) (out : Out) → out_value (chain_of n steps xs) t out ≡ out_value (chain_of n steps ys) t out
any_outs n t steps xs ys Zero = refl
any_outs n t steps xs ys One = refl
any_outs n t steps xs ys (Place p) = refl

-- the cells of the first output
first_cell : (n t : ℕ) (own following : List Cell) → length own ≡ 2 ^ n → t < 2 ^ n → get_or (own ++ following) ((1 - 1) * 2 ^ n + t) Free ≡ get_or own t Free
first_cell n t own following count low =
    let place : (1 - 1) * 2 ^ n + t ≡ t = omega arith in
    ap (λ (i : ℕ). get_or (own ++ following) i Free) place ∙ get_or_append_left own following Free t (omega (arith, count))

-- the cells of the others
other_cell : (n h t : ℕ) (own following : List Cell) → length own ≡ 2 ^ n → get_or (own ++ following) ((suc (suc h) - 1) * 2 ^ n + t) Free ≡ get_or following ((suc h - 1) * 2 ^ n + t) Free
other_cell n h t own following count =
    let next : suc (suc h) - 1 ≡ suc h = omega arith in
    let this : suc h - 1 ≡ h = omega arith in
    let place : (suc (suc h) - 1) * 2 ^ n + t ≡ length own + ((suc h - 1) * 2 ^ n + t) = rw (count, next, this) (omega arith) in
    ap (λ (i : ℕ). get_or (own ++ following) i Free) place ∙ get_or-append-add own following ((suc h - 1) * 2 ^ n + t) Free

-- a cell of a later output is met in the whole lists exactly where it is met in the lists without the
-- first output
same_met : (n h t : ℕ) (steps : List PlainStep) (out : Out) (others : List Out) (own following : List Cell) →
    length own ≡ 2 ^ n → is_met (get_or (own ++ following) ((suc (suc h) - 1) * 2 ^ n + t) Free)
    (output_value (chain_of n steps (out ∷ others)) (suc (suc h)) t) ≡
    is_met (get_or following ((suc h - 1) * 2 ^ n + t) Free) (output_value (chain_of n steps others) (suc h) t)
same_met n h t steps out others own following count =
    let next : suc (suc h) - 1 ≡ suc h = omega arith in
    let this : suc h - 1 ≡ h = omega arith in
    let same : output_value (chain_of n steps (out ∷ others)) (suc (suc h)) t ≡
    output_value (chain_of n steps others) (suc h) t =
    rw (next, this) (any_outs n t steps (out ∷ others) others (get_or others h Zero)) in
    ap₂ is_met (other_cell n h t own following count) same

-- a cell of the first output is met in the whole lists exactly where its out meets it
first_met : (n t : ℕ) (steps : List PlainStep) (out : Out) (others : List Out) (own following : List Cell) →
    length own ≡ 2 ^ n → t < 2 ^ n → is_met (get_or (own ++ following) ((1 - 1) * 2 ^ n + t) Free)
    (output_value (chain_of n steps (out ∷ others)) 1 t) ≡
    is_met (get_or own t Free) (out_value (chain_of n steps []) t out)
first_met n t steps out others own following count low =
    ap₂ is_met (first_cell n t own following count low) (any_outs n t steps (out ∷ others) [] out)

all_met : (n : ℕ) (steps : List PlainStep) (out : Out) (others : List Out) (own following : List Cell) →
    length own ≡ 2 ^ n → MeetsRows n steps out own → AgreesFlat n steps others following → (h t : ℕ) → 1 ≤ h →
    h ≤ suc (length others) → t < 2 ^ n → is_met (get_or (own ++ following) ((h - 1) * 2 ^ n + t) Free)
    (output_value (chain_of n steps (out ∷ others)) h t) ≡ true
all_met n steps out others own following count first rest zero t from to low = absurd (omega arith)
all_met n steps out others own following count first rest (suc zero) t from to low = first_met n t steps out others own following count low ∙ first t low
all_met n steps out others own following count first rest (suc (suc h)) t from to low = same_met n h t steps out others own following count ∙ rest.cells (suc h) t (omega arith) (omega arith) low

others_met : (n : ℕ) (steps : List PlainStep) (out : Out) (others : List Out) (own following : List Cell) →
    length own ≡ 2 ^ n → AgreesFlat n steps (out ∷ others) (own ++ following) → (h t : ℕ) → 1 ≤ h → h ≤ length others →
    t < 2 ^ n → is_met (get_or following ((h - 1) * 2 ^ n + t) Free) (output_value (chain_of n steps others) h t) ≡ true
others_met n steps out others own following count all zero t from to low = absurd (omega arith)
others_met n steps out others own following count all (suc h) t from to low = sym (same_met n h t steps out others own following count) ∙ all.cells (suc (suc h)) t (omega arith) (omega arith) low

-- where the first out meets its cells and the others agree with theirs, all agree
put_together : (n : ℕ) (steps : List PlainStep) (outs : List Out) (cells : List Cell) (out : Out) (others : List Out)
    (own following : List Cell) → IsSplit n outs cells out others own following →
    AgreesFlat n steps (out ∷ others) (own ++ following) → AgreesFlat n steps outs cells
put_together n steps outs cells out others own following split all =
    subst (λ (os : List Out). AgreesFlat n steps os cells) (sym split.outs_are) (subst (λ (cs : List Cell). AgreesFlat n steps (out ∷ others) cs) (sym split.cells_are) all)

taken_apart : (n : ℕ) (steps : List PlainStep) (outs : List Out) (cells : List Cell) (out : Out) (others : List Out)
    (own following : List Cell) → IsSplit n outs cells out others own following → AgreesFlat n steps outs cells →
    AgreesFlat n steps (out ∷ others) (own ++ following)
taken_apart n steps outs cells out others own following split all =
    subst (λ (cs : List Cell). AgreesFlat n steps (out ∷ others) cs) split.cells_are (subst (λ (os : List Out). AgreesFlat n steps os cells) split.outs_are all)

-- A chain agrees where its first out meets its cells and the others agree with theirs.
pub agrees-more : (n : ℕ) (steps : List PlainStep) (outs : List Out) (cells : List Cell) (out : Out)
    (others : List Out) (own following : List Cell) → IsSplit n outs cells out others own following →
    MeetsRows n steps out own → AgreesFlat n steps others following → AgreesFlat n steps outs cells
agrees-more n steps outs cells out others own following split first rest =
    put_together n steps outs cells out others own following split record { inputs = refl; outputs = refl; cells = all_met n steps out others own following split.count first rest }

-- Where a chain agrees, its first out meets its cells.
pub agrees-first : (n : ℕ) (steps : List PlainStep) (outs : List Out) (cells : List Cell) (out : Out)
    (others : List Out) (own following : List Cell) → IsSplit n outs cells out others own following →
    AgreesFlat n steps outs cells → MeetsRows n steps out own
agrees-first n steps outs cells out others own following split all t low =
    let whole = taken_apart n steps outs cells out others own following split all in
    sym (first_met n t steps out others own following split.count low) ∙ whole.cells 1 t (omega arith) (omega arith) low

-- Where a chain agrees, its other outs agree with their cells.
pub agrees-others : (n : ℕ) (steps : List PlainStep) (outs : List Out) (cells : List Cell) (out : Out)
    (others : List Out) (own following : List Cell) → IsSplit n outs cells out others own following →
    AgreesFlat n steps outs cells → AgreesFlat n steps others following
agrees-others n steps outs cells out others own following split all =
    record { inputs = refl; outputs = refl; cells = others_met n steps out others own following split.count (taken_apart n steps outs cells out others own following split all) }
