-- The recipes give the numbers of gates that take the place of one.
use Rattle.std.specs.Prelude.{◌≡◌, ℕ, zero, suc, ◌+◌, ◌≤◌, ◌<◌, ◌^◌, ◌⊎◌, if◌then◌else◌}
use Rattle.std.specs.Prelude.{Bool, true, false, List, [], ◌∷◌, length}
use Rattle.std.specs.Prelude.{slice_get, Some, Option, None, Result, Ok, Err, IfOk, OnOk, refl}
use Rattle.std.proofs.Common.{arith, sym, ◌∙◌, ap, subst, inl, inr, ⊎_elim}
use Rattle.std.proofs.lemmas.Bool.{cond-true, cond-false}
use Rattle.chain_theory.specs.Operator.{Basis}
use Rattle.net_theory.specs.declared.data.Gate.{Gate}
use Rattle.net_theory.specs.Net.{Net}
use Rattle.net_theory.specs.Limits.{default_gates}
use Rattle.net_theory.specs.Moving.{Kept}
use Rattle.net_basis.specs.declared.join.Join.{Join}
use Rattle.net_basis.specs.declared.recipe.Recipe.{Recipe}
use Rattle.net_basis.specs.declared.expressing.Expressed.{Expressed}
use Rattle.net_basis.specs.declared.expressing.Expressed.TheVariants as gates
use Rattle.net_basis.specs.Joins.{operands, makes}
use Rattle.net_basis.specs.LocalWord.{local_word}
use Rattle.net_basis.specs.OverBasis.{IsInexpressible, HasChainOf, AreLengths, MayHaveTooMany, most_for_one, most_over}
use Rattle.net_basis.specs.Placing.{IsRecipe, AreRecipes, IsConverted, AreLeft}
use Rattle.net_basis.specs.Conversion.{are_in, steps_of, lengths_by, MayEndAt, IsGateAnswer, IsPassed}
use Rattle.net_basis.proofs.Conversions.{all_in, most_split, most_none}

pub differ : {A : Type 0} (b : Bool) → b ≡ true → b ≡ false → A
differ b on off = absurd cc

-- ---- the number of a function

pub length_free : (basis : Basis) (rs : List Recipe) (word : ℕ) → operands word ≡ true → lengths_by basis rs word ≡ 0
unfolding lengths_by
length_free basis rs word is = cond-true (operands word) 0 (if basis word then 1 else steps_of (slice_get rs word)) is

pub length_member : (basis : Basis) (rs : List Recipe) (word : ℕ) → operands word ≡ false → basis word ≡ true →
    lengths_by basis rs word ≡ 1
unfolding lengths_by
length_member basis rs word isnt is =
    cond-false (operands word) 0 (if basis word then 1 else steps_of (slice_get rs word)) isnt
    ∙ cond-true (basis word) 1 (steps_of (slice_get rs word)) is

pub length_other : (basis : Basis) (rs : List Recipe) (word : ℕ) → operands word ≡ false → basis word ≡ false →
    lengths_by basis rs word ≡ steps_of (slice_get rs word)
unfolding lengths_by
length_other basis rs word isnt other =
    cond-false (operands word) 0 (if basis word then 1 else steps_of (slice_get rs word)) isnt
    ∙ cond-false (basis word) 1 (steps_of (slice_get rs word)) other

-- ---- recipes

pub steps_made : (r : Recipe) → r.is_made ≡ true → steps_of (Some r) ≡ length r.joins.items
steps_made r made = cond-true r.is_made (length r.joins.items) most_for_one made

steps_unmade : (r : Recipe) → r.is_made ≡ false → steps_of (Some r) ≡ most_for_one
steps_unmade r none = cond-false r.is_made (length r.joins.items) most_for_one none

-- the steps of a function that needs a gate are some
some_steps : (basis : Basis) (js : List Join) (word : ℕ) → makes basis operands js word ≡ true →
    operands word ≡ false → 1 ≤ length js
unfolding makes
some_steps basis [] word made isnt = differ (operands word) made isnt
some_steps basis (j ∷ js) word made isnt = omega arith

steps_long : (basis : Basis) (word : ℕ) (r : Recipe) (made : Bool) → IsRecipe basis word r → operands word ≡ false →
    r.is_made ≡ made → 1 ≤ steps_of (Some r)
steps_long basis word r true is isnt made =
    omega (arith, steps_made r made, some_steps basis r.joins.items word (is.chain made).made isnt)
steps_long basis word r false is isnt none = omega (arith, steps_unmade r none)

steps_few : (basis : Basis) (word : ℕ) (r : Recipe) (made : Bool) → IsRecipe basis word r → r.is_made ≡ made →
    steps_of (Some r) ≤ most_for_one
steps_few basis word r true is made = omega (arith, steps_made r made, is.few)
steps_few basis word r false is none = omega (arith, steps_unmade r none)

found_long : (basis : Basis) (rs : List Recipe) (word : ℕ) (found : Option Recipe) → AreRecipes basis rs →
    operands word ≡ false → slice_get rs word ≡ found → 1 ≤ steps_of found
found_long basis rs word None are isnt at = omega arith
found_long basis rs word (Some r) are isnt at = steps_long basis word r r.is_made (are.each word r at) isnt refl

found_few : (basis : Basis) (rs : List Recipe) (word : ℕ) (found : Option Recipe) → AreRecipes basis rs →
    slice_get rs word ≡ found → steps_of found ≤ most_for_one
found_few basis rs word None are at = omega arith
found_few basis rs word (Some r) are at = steps_few basis word r r.is_made (are.each word r at) refl

-- a function that needs a gate has a number above 0
pub length_some : (basis : Basis) (rs : List Recipe) (word : ℕ) (member : Bool) → AreRecipes basis rs →
    operands word ≡ false → basis word ≡ member → 1 ≤ lengths_by basis rs word
length_some basis rs word true are isnt is = omega (arith, length_member basis rs word isnt is)
length_some basis rs word false are isnt other =
    omega (arith, length_other basis rs word isnt other, found_long basis rs word (slice_get rs word) are isnt refl)

lengths_few : (basis : Basis) (rs : List Recipe) (word : ℕ) (free member : Bool) → AreRecipes basis rs →
    operands word ≡ free → basis word ≡ member → lengths_by basis rs word ≤ most_for_one
lengths_few basis rs word true member are is e = omega (arith, length_free basis rs word is)
lengths_few basis rs word false true are isnt is = omega (arith, length_member basis rs word isnt is)
lengths_few basis rs word false false are isnt other =
    omega (arith, length_other basis rs word isnt other, found_few basis rs word (slice_get rs word) are refl)

get_at : (rs : List Recipe) (i : ℕ) → i < length rs → (r : Recipe) × (slice_get rs i ≡ Some r)
get_at [] i low = absurd (omega (arith, low))
get_at (r ∷ rs) zero low = (r, refl)
get_at (r ∷ rs) (suc i) low = get_at rs i (omega (arith, low))

chain_by : (basis : Basis) (rs : List Recipe) (word : ℕ) (r : Recipe) (made : Bool) → AreRecipes basis rs →
    operands word ≡ false → basis word ≡ false → slice_get rs word ≡ Some r → r.is_made ≡ made →
    HasChainOf basis word (lengths_by basis rs word) ⊎ IsInexpressible basis word
chain_by basis rs word r true are isnt other at made = inl (record {
  joins = r.joins.items;
  made = ((are.each word r at).chain made).made;
  size = sym (steps_made r made) ∙ sym (ap steps_of at) ∙ sym (length_other basis rs word isnt other);
})
chain_by basis rs word r false are isnt other at none = inr ((are.each word r at).none none)

-- no chain is shorter than that of the recipe
least_by : (basis : Basis) (rs : List Recipe) (word : ℕ) (joins : List Join) (r : Recipe) (made : Bool) → AreRecipes basis rs →
    operands word ≡ false → basis word ≡ false → slice_get rs word ≡ Some r → r.is_made ≡ made →
    makes basis operands joins word ≡ true → lengths_by basis rs word ≤ length joins
least_by basis rs word joins r true are isnt other at made is = omega (
  arith,
  length_other basis rs word isnt other,
  ap steps_of at,
  steps_made r made,
  ((are.each word r at).chain made).least joins is,
)
least_by basis rs word joins r false are isnt other at none is = absurd ((are.each word r at).never none joins is)

least_at : (basis : Basis) (rs : List Recipe) (word : ℕ) (joins : List Join) (free member : Bool) → AreRecipes basis rs →
    word < 16 → operands word ≡ free → basis word ≡ member → makes basis operands joins word ≡ true →
    lengths_by basis rs word ≤ length joins
least_at basis rs word joins true member are low is e made = omega (arith, length_free basis rs word is)
least_at basis rs word joins false true are low isnt is made =
    omega (arith, length_member basis rs word isnt is, some_steps basis joins word made isnt)
least_at basis rs word joins false false are low isnt other made =
    let r = get_at rs word (omega (arith, low, are.count)) in
    least_by basis rs word joins r.0 r.0.is_made are isnt other r.1 refl made

pub are_lengths : (basis : Basis) (rs : List Recipe) → AreRecipes basis rs → AreLengths basis (lengths_by basis rs)
are_lengths basis rs are = record {
  free = λ word is. length_free basis rs word is;
  member = λ word isnt is. length_member basis rs word isnt is;
  chain = λ word low isnt other.
      let r = get_at rs word (omega (arith, low, are.count)) in
      chain_by basis rs word r.0 r.0.is_made are isnt other r.1 refl;
  least = λ word joins low made. least_at basis rs word joins (operands word) (basis word) are low refl refl made;
  few = λ word. lengths_few basis rs word (operands word) (basis word) are refl refl;
}

-- ---- a gate

-- the recipe of a function that is no longer than that of another one
pub steps_shorter : (rs : List Recipe) (simple word count most : ℕ) (short own : Recipe) →
    slice_get rs simple ≡ Some short → slice_get rs word ≡ Some own → short.is_made ≡ true →
    count ≡ length short.joins.items → most ≡ steps_of (Some own) → count ≤ most →
    steps_of (slice_get rs simple) ≤ steps_of (slice_get rs word)
steps_shorter rs simple word count most short own at_short at_own made count_is most_is low =
    omega (arith, ap steps_of at_short, ap steps_of at_own, steps_made short made, count_is, most_is, low)

-- one more step than there is room for
pub more_later : (sources count less more : ℕ) → less ≤ more → MayEndAt sources count less → MayEndAt sources count more
more_later sources count less more low ends = ⊎_elim
    (λ many. inl (omega (arith, many, low)))
    (λ nodes. inr (omega (arith, nodes, low)))
    ends

pub answer_later : (basis : Basis) (word less more sources : ℕ) (old new : List Gate) (g : Gate) (e : Expressed) →
    less ≤ more → IsGateAnswer basis word less sources old new g e → IsGateAnswer basis word more sources old new g e
answer_later basis word less more sources old new g (gates.By s) low is = is
answer_later basis word less more sources old new g gates.Cannot low is = is
answer_later basis word less more sources old new g gates.TooMany low is =
    more_later sources (length old) less more low is

pub answer_on : {E : Type 0} (basis : Basis) (word less more sources : ℕ) (old new : List Gate) (g : Gate)
    (found : Result Expressed E) → less ≤ more → IfOk found (IsGateAnswer basis word less sources old new g) →
    IfOk found (IsGateAnswer basis word more sources old new g)
answer_on basis word less more sources old new g (Ok e) low is =
    answer_later basis word less more sources old new g e low is
answer_on basis word less more sources old new g (Err e) low is = tt

pub more_on : {E : Type 0} (before after less more : ℕ) (found : Result Expressed E) → less ≤ more →
    OnOk found (after ≤ before + less) → OnOk found (after ≤ before + more)
more_on before after less more (Ok e) low few = omega (arith, low, few)
more_on before after less more (Err e) low few = tt

pub too_many_at : (basis : Basis) (rs : List Recipe) (n : Net) (sources count word : ℕ) (g : Gate)
    (left rest : List Gate) → AreRecipes basis rs → are_in basis n.gates ≡ false → left ≡ g ∷ rest → sources ≡ n.sources → word ≡ local_word g →
    count + most_over (lengths_by basis rs) left ≤ most_over (lengths_by basis rs) n.gates →
    MayEndAt sources count (lengths_by basis rs word) → MayHaveTooMany basis n
too_many_at basis rs n sources count word g left rest are other split same_sources same fewer ends =
    let lengths : ℕ → ℕ = lengths_by basis rs in
    let here : lengths word ≡ lengths (local_word g) = ap lengths same in
    let parts : most_over lengths left ≡ lengths (local_word g) + most_over lengths rest = most_split lengths left rest g split in
    record {
      other = λ all. differ (are_in basis n.gates) (all_in basis n.gates all) other;
      lengths = lengths;
      are_lengths = are_lengths basis rs are;
      many = ⊎_elim
          (λ many. inl (omega (arith, many, fewer, here, parts)))
          (λ nodes. inr (omega (arith, nodes, fewer, here, parts, same_sources)))
          ends;
    }

-- ---- all gates

pub passed_at : (basis : Basis) (rs : List Recipe) (n : Net) (node : ℕ) (left : List Gate) (k : Kept) →
    AreRecipes basis rs → length left ≡ 0 → AreLeft n node left → IsConverted basis n node k →
    length k.gates ≤ default_gates → n.sources + length k.gates < 2 ^ 31 →
    length k.gates + most_over (lengths_by basis rs) left ≤ most_over (lengths_by basis rs) n.gates → IsPassed basis n k
passed_at basis rs n node left k are none is_left converted few room fewer = record {
  converted = subst (λ (q : ℕ). IsConverted basis n q k) (omega (arith, is_left.all, none)) converted;
  few = few;
  room = room;
  fewer = record {
    lengths = lengths_by basis rs;
    are_lengths = are_lengths basis rs are;
    few = few;
    fewer = omega (arith, fewer, most_none (lengths_by basis rs) left none);
  };
}
