-- Parsing the numbers of a verdict commutes with functions of the numbers.
use Rattle.std.specs.Prelude.{◌≡◌, ℕ, Bool, true, false, List, [], ◌∷◌, cond, Option, Some, None}
use Rattle.std.specs.Option.{option_map}
use Rattle.std.specs.Prelude.{option_and_then}
use Rattle.std.proofs.Common.{refl, ap, ◌∙◌}
use Rattle.text_core.specs.Lines.{Line}
use Rattle.text_core.specs.Items.{items_of}
use Rattle.chain_core.specs.Block.{number_in}
use Rattle.cert_theory.specs.Judging.{begins, value_of, number_after, both, bounded_in, numbered_in}

one_as : {U V : Type 0} (f : U → V) (one : ℕ → U) (o : Option ℕ) → option_map f (option_map one o) ≡ option_map (λ n. f (one n)) o
one_as {U} {V} f one None = refl
one_as {U} {V} f one (Some n) = refl

both_as : {U V : Type 0} (f : U → V) (two : ℕ → ℕ → U) (low most : Option ℕ) → option_map f (both two low most) ≡ both (λ a b. f (two a b)) low most
both_as {U} {V} f two (Some a) (Some b) = refl
both_as {U} {V} f two (Some a) None = refl
both_as {U} {V} f two None most = refl

bounded_as : {U V : Type 0} (f : U → V) (two : ℕ → ℕ → U) (items : List (List ℕ)) → option_map f (bounded_in two items) ≡ bounded_in (λ a b. f (two a b)) items
bounded_as {U} {V} f two [] = refl
bounded_as {U} {V} f two (x ∷ []) = refl
bounded_as {U} {V} f two (x ∷ y ∷ []) = both_as f two (number_in x) (number_in y)
bounded_as {U} {V} f two (x ∷ y ∷ z ∷ more) = refl

after_as : {U V : Type 0} (f : U → V) (two : ℕ → ℕ → U) (text : Option (List ℕ)) →
    option_map f (option_and_then (λ pair. bounded_in two (items_of pair)) text) ≡
    option_and_then (λ pair. bounded_in (λ a b. f (two a b)) (items_of pair)) text
after_as {U} {V} f two None = refl
after_as {U} {V} f two (Some pair) = bounded_as f two (items_of pair)

chosen_as : {U V : Type 0} (f : U → V) (test : Bool) (a b : Option U) (c d : Option V) → option_map f a ≡ c → option_map f b ≡ d → option_map f (cond test a b) ≡ cond test c d
chosen_as {U} {V} f true a b c d one two = one
chosen_as {U} {V} f false a b c d one two = two

numbered_as : {U V : Type 0} (f : U → V) (one : ℕ → U) (two : ℕ → ℕ → U) (first second : List ℕ) (l : Line) →
    option_map f (numbered_in one two first second l) ≡ numbered_in (λ n. f (one n)) (λ a b. f (two a b)) first second l
numbered_as {U} {V} f one two first second l =
    chosen_as f (begins first l) (option_map one (number_after first l))
    (option_and_then (λ pair. bounded_in two (items_of pair)) (value_of second l))
    (option_map (λ n. f (one n)) (number_after first l))
    (option_and_then (λ pair. bounded_in (λ a b. f (two a b)) (items_of pair)) (value_of second l))
    (one_as f one (number_after first l)) (after_as f two (value_of second l))

-- the parsed numbers under a function
pub numbered_is : {U V : Type 0} (f : U → V) (one : ℕ → U) (two : ℕ → ℕ → U) (first second : List ℕ) (l : Line)
    (o : Option U) → o ≡ numbered_in one two first second l →
    option_map f o ≡ numbered_in (λ n. f (one n)) (λ a b. f (two a b)) first second l
numbered_is {U} {V} f one two first second l o is = ap (option_map f) is ∙ numbered_as f one two first second l
