-- A line as its writer builds it, from the bytes of its lists.
use Rattle.std.proofs.Common.{◌≡◌, ℕ, ℤ, List, [], ◌∷◌, ◌++◌, map, refl, ap, ◌∙◌, append_assoc}
use Rattle.std.specs.Prelude.{decimal, codes}
use Rattle.std.specs.Fmt.{signed_decimal}
use Rattle.std.specs.List.{flat_map, join_with_byte}
use Rattle.std.proofs.lemmas.Grind.{common_steps}
use Rattle.sat_theory.specs.Line.{Add, Delete}
use Rattle.lrat_text.specs.Spelling.{id_item, literal_item, line_text}
use Rattle.log_core.proofs.ReadRows.{begins-same, begins-on, lines-none, lines-first, first-size, split-first}
use Rattle.log_core.proofs.Taken.{ids_from-more, ids_from-none, literals_from-more, literals_from-none}

-- items, each followed by a blank, before others
items_prefix : {X : Type 0} (f : X → List ℕ) (xs : List X) (y : List ℕ) (ys : List (List ℕ)) → join_with_byte 32 (map f xs ++ y ∷ ys) ≡ flat_map (λ x. f x ++ 32 ∷ []) xs ++ join_with_byte 32 (y ∷ ys)
items_prefix f [] y ys = refl
items_prefix f (x ∷ []) y ys = simp append_assoc
items_prefix f (x ∷ z ∷ xs) y ys = ap (λ (t : List ℕ). f x ++ 32 ∷ t) (items_prefix f (z ∷ xs) y ys) ∙ simp append_assoc

-- the same after a first item
items_after : {X : Type 0} (x : List ℕ) (f : X → List ℕ) (xs : List X) (y : List ℕ) (ys : List (List ℕ)) →
    join_with_byte 32 (x ∷ (map f xs ++ y ∷ ys)) ≡ x ++
    32 ∷ (flat_map (λ z. f z ++ 32 ∷ []) xs ++ join_with_byte 32 (y ∷ ys))
items_after x f [] y ys = refl
items_after x f (z ∷ zs) y ys = ap (λ (t : List ℕ). x ++ 32 ∷ t) (items_prefix f (z ∷ zs) y ys)

addition_text : (id : ℕ) (lits : List ℤ) (hints : List ℕ) →
    line_text (Add id lits hints) ≡ (decimal id ++
    32 ∷ (flat_map literal_item lits ++ 48 ∷ 32 ∷ (flat_map id_item hints ++ 48 ∷ []))) ++ 10 ∷ []
addition_text id lits hints =
    ap (λ (t : List ℕ). t ++ 10 ∷ []) (items_after (decimal id) signed_decimal lits (codes "0") (map decimal hints ++ codes "0" ∷ [])
    ∙ ap (λ (t : List ℕ). decimal id ++ 32 ∷ (flat_map literal_item lits ++ t)) (items_after (codes "0") decimal hints (codes "0") []))

deletion_text : (id : ℕ) (ids : List ℕ) → line_text (Delete id ids) ≡ (decimal id ++ 32 ∷ 100 ∷ 32 ∷ (flat_map id_item ids ++ 48 ∷ [])) ++ 10 ∷ []
deletion_text id ids = ap (λ (t : List ℕ). (decimal id ++ 32 ∷ t) ++ 10 ∷ []) (items_after (codes "d") decimal ids (codes "0") [])

-- the pieces of an addition, one after the other
pub addition_pieces : (old : List ℕ) (id : ℕ) (lits : List ℤ) (hints : List ℕ) →
    ((((old ++ id_item id) ++ flat_map literal_item lits) ++ 48 ∷ 32 ∷ []) ++ flat_map id_item hints) ++
    48 ∷ 10 ∷ [] ≡ old ++ line_text (Add id lits hints)
addition_pieces old id lits hints = rw (addition_text id lits hints) (simp append_assoc)

-- and those of a deletion
pub deletion_pieces : (old : List ℕ) (id : ℕ) (ids : List ℕ) → (((old ++ id_item id) ++ 100 ∷ 32 ∷ []) ++ flat_map id_item ids) ++ 48 ∷ 10 ∷ [] ≡ old ++ line_text (Delete id ids)
deletion_pieces old id ids = rw (deletion_text id ids) (simp append_assoc)

pub ruleset spelled = (common_steps, ids_from-more, ids_from-none, literals_from-more, literals_from-none)

pub ruleset pieces = (common_steps, addition_pieces, deletion_pieces)

pub ruleset lines = (common_steps, begins-same, begins-on, lines-none, lines-first, first-size, split-first)
