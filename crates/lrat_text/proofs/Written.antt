-- A line as its writer builds it.
use Rattle.std.proofs.Common.{◌≡◌, ℕ, ℤ, List, [], ◌∷◌, ◌++◌, map, refl, ap, ◌∙◌, append_assoc}
use Rattle.std.specs.Prelude.{decimal, codes}
use Rattle.std.specs.Fmt.{signed_decimal}
use Rattle.std.specs.List.{flat_map, join_with_byte}
use Rattle.std.proofs.lemmas.Grind.{common_steps}
use Rattle.sat_theory.specs.Line.{Add, Delete}
use Rattle.lrat_text.specs.Spelling.{id_item, literal_item, line_body, line_text}

-- a list of items before others
joined_prefix : {X : Type 0} (f : X → List ℕ) (xs : List X) (y : List ℕ) (ys : List (List ℕ)) → join_with_byte 32 (map f xs ++ y ∷ ys) ≡ flat_map (λ x. f x ++ 32 ∷ []) xs ++ join_with_byte 32 (y ∷ ys)
joined_prefix f [] y ys = refl
joined_prefix f (x ∷ []) y ys = simp append_assoc
joined_prefix f (x ∷ z ∷ xs) y ys = ap (λ (t : List ℕ). f x ++ 32 ∷ t) (joined_prefix f (z ∷ xs) y ys) ∙ simp append_assoc

-- one item before others
joined_more : (x : List ℕ) (zs : List (List ℕ)) (y : List ℕ) (ys : List (List ℕ)) → join_with_byte 32 (x ∷ (zs ++ y ∷ ys)) ≡ x ++ 32 ∷ join_with_byte 32 (zs ++ y ∷ ys)
joined_more x [] y ys = refl
joined_more x (z ∷ zs) y ys = refl

abbrev nought : List ℕ
nought = 48 ∷ []

-- an item, a list and the 0 that ends it
list_body : {X : Type 0} (x : List ℕ) (f : X → List ℕ) (xs : List X) (ys : List (List ℕ)) →
    join_with_byte 32 (x ∷ (map f xs ++ nought ∷ ys)) ≡ x ++
    32 ∷ (flat_map (λ y. f y ++ 32 ∷ []) xs ++ join_with_byte 32 (nought ∷ ys))
list_body x f xs ys = joined_more x (map f xs) nought ys ∙ ap (λ (t : List ℕ). x ++ 32 ∷ t) (joined_prefix f xs nought ys)

addition_body : (id : ℕ) (lits : List ℤ) (hints : List ℕ) → line_body (Add id lits hints) ≡ decimal id ++ 32 ∷ (flat_map literal_item lits ++ 48 ∷ 32 ∷ (flat_map id_item hints ++ nought))
addition_body id lits hints =
    list_body (decimal id) signed_decimal lits (map decimal hints ++ nought ∷ [])
    ∙ ap (λ (t : List ℕ). decimal id ++ 32 ∷ (flat_map literal_item lits ++ t)) (list_body nought decimal hints [])

deletion_body : (id : ℕ) (ids : List ℕ) → line_body (Delete id ids) ≡ decimal id ++ 32 ∷ 100 ∷ 32 ∷ (flat_map id_item ids ++ nought)
deletion_body id ids = ap (λ (t : List ℕ). decimal id ++ 32 ∷ t) (list_body (codes "d") decimal ids [])

-- the pieces of an addition, one after the other
pub written_addition : (old : List ℕ) (id : ℕ) (lits : List ℤ) (hints : List ℕ) →
    ((((((old ++ decimal id) ++ 32 ∷ []) ++ flat_map literal_item lits) ++ 48 ∷ 32 ∷ []) ++ flat_map id_item hints) ++
    48 ∷ 10 ∷ []) ≡ old ++ line_text (Add id lits hints)
written_addition old id lits hints = rw (addition_body id lits hints) (simp append_assoc)

-- and those of a deletion
pub written_deletion : (old : List ℕ) (id : ℕ) (ids : List ℕ) → ((((old ++ decimal id) ++ 32 ∷ 100 ∷ 32 ∷ []) ++ flat_map id_item ids) ++ 48 ∷ 10 ∷ []) ≡ old ++ line_text (Delete id ids)
written_deletion old id ids = rw (deletion_body id ids) (simp append_assoc)

pub ruleset written = (common_steps, written_addition, written_deletion)
