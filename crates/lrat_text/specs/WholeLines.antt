-- Round trips of whole lines: what is read was written that way, and what was written is read.
use Rattle.std.specs.Prelude.{◌≡◌, ◌≢◌, ℕ, suc, ◌-◌, ◌<◌, ◌≤◌, ◌^◌, ℤ, pos, negsuc, Bool, true, false, if◌then◌else◌, List, [], ◌∷◌, ◌++◌, map, All, Option, Some, None, Ok, Err, decimal, codes, refl}
use Rattle.std.specs.Fmt.{signed_decimal}
use Rattle.std.specs.List.{join_with_byte}
use Rattle.std.proofs.Common.{ap, sym, ◌∙◌, subst, arith, append_assoc}
use Rattle.std.proofs.Math.Logic.{⊎_elim}
use Rattle.std.proofs.lemmas.List.Elements.{All-head, All-tail}
use Rattle.std.proofs.lemmas.Bool.{ne_eqb}
use Rattle.text_core.specs.Numbers.{number_from}
use Rattle.text_core.specs.Items.{items_of}
use Rattle.text_core.specs.Lines.{lines_of}
use Rattle.text_core.specs.ReadBack.{item_back, last_item_back, items_spell, free_decimal, free_both}
use Rattle.text_core.specs.ReadBack.{line_back as ended_line_back}
use Rattle.text_core.specs.Words.{is_free}
use Rattle.sat_theory.specs.Formula.{variable, IsClause, IsWithin}
use Rattle.sat_theory.specs.Line.{Line, Add, Delete, IsId, IsLine}
use Rattle.lrat_text.specs.declared.error.LineError.TheVariants.{BadNumber}
use Rattle.lrat_text.specs.Numerals.{id_in, literal_in, is_letter_d}
use Rattle.lrat_text.specs.Reading.{item_then, lits_of, ids_of, after_id, line_in_items, line_in}
use Rattle.lrat_text.specs.Spelling.{line_items, line_body, line_text}
use Rattle.lrat_text.specs.ReadBack.{nought, if_cases, letter_first, literal_back, literal_end_back, id_spells, id_back}
use Rattle.lrat_text.specs.ReadBack.{item_ok, hint_items, addition_items, ids_spell, ids_back, lits_spell, lits_back}

-- ---- what is read

-- l was read from the items ws
record SpellsLine (ws : List (List ℕ)) (l : Line) : Type 0 where
  is_line : IsLine l
  text : ws ≡ line_items l

after_spells : (id : ℕ) (w : List ℕ) (ws : List (List ℕ)) (l : Line) → IsId id → w ≡ decimal id → after_id id ws ≡ Ok l → SpellsLine (w ∷ ws) l
after_spells id w [] l own w_is is = absurd cc
after_spells id w (v ∷ vs) l own w_is is =
    ⊎_elim
    (λ (deletion : (is_letter_d v ≡ true) × (ids_of id [] vs ≡ Ok l)).
    let found = ids_spell id [] vs l deletion.1 in
    let v_is : v ≡ codes "d" = letter_is v deletion.0 in
    let vs_is : vs ≡ hint_items found.more = found.text in
    let l_is : l ≡ Delete id found.more = found.line in
    let deleted : SpellsLine (w ∷ v ∷ vs) (Delete id found.more) = record { is_line = record { own_id = own; deleted_ids = found.are_ids }; text = cc } in
    subst (λ (k : Line). SpellsLine (w ∷ v ∷ vs) k) (sym l_is) deleted)
    (λ (addition : (is_letter_d v ≡ false) × (lits_of id [] (v ∷ vs) ≡ Ok l)).
    let found = lits_spell id [] (v ∷ vs) l addition.1 in
    let vs_is : v ∷ vs ≡ addition_items found.more found.hints = found.text in
    let l_is : l ≡ Add id found.more found.hints = found.line in
    let clause : IsClause found.more = found.clause empty_clause in
    let added : SpellsLine (w ∷ v ∷ vs) (Add id found.more found.hints) = record { is_line = record { own_id = own; clause = clause; variables = found.within; hint_ids = found.ids }; text = cc } in
    subst (λ (k : Line). SpellsLine (w ∷ v ∷ vs) k) (sym l_is) added)
    (if_cases (is_letter_d v) (ids_of id [] vs) (lits_of id [] (v ∷ vs)) (Ok l) is)
  where
    letter_is : (v : List ℕ) → is_letter_d v ≡ true → v ≡ codes "d"
    letter_is v yes_ = ⊎_elim (λ (same : v ≡ codes "d"). same) (λ (other : is_letter_d v ≡ false). absurd cc) (letter_first v)

    empty_clause : IsClause []
    empty_clause = record { literals = λ k d (within : k < 0). absurd (omega arith); differ = λ i j d low (within : j < 0). absurd (omega arith) }

items_spelled : (ws : List (List ℕ)) (l : Line) → line_in_items ws ≡ Ok l → SpellsLine ws l
items_spelled [] l is = absurd cc
items_spelled (w ∷ ws) l is =
    ⊎_elim
    (λ (at_end : (id_in w ≡ Some None) × (Err BadNumber ≡ Ok l)). let no_ : Err BadNumber ≡ Ok l = at_end.1 in absurd cc)
    (λ (found : (id : ℕ) × (id_in w ≡ Some (Some id)) × (after_id id ws ≡ Ok l)).
    let spelled = id_spells w found.0 found.1 in
    after_spells found.0 w ws l spelled.0 spelled.1 found.2)
    (item_ok (id_in w) (Err BadNumber) (λ id. after_id id ws) l is)

-- a line that is read can be written, and the text is its spelling
pub line_spells : (text : List ℕ) (l : Line) → line_in text ≡ Ok l → IsLine l × (text ≡ line_body l)
line_spells text l is =
    let found = items_spelled (items_of text) l is in
    (found.is_line, sym (items_spell text) ∙ ap (join_with_byte 32) found.text)

-- ---- what is written

abbrev AreFree : ℕ → List (List ℕ) → Type 0
AreFree byte [] = Unit {0}
AreFree byte (w ∷ ws) = (is_free byte w ≡ true) × AreFree byte ws

free_joined : (byte : ℕ) (ws vs : List (List ℕ)) → AreFree byte ws → AreFree byte vs → AreFree byte (ws ++ vs)
free_joined byte [] vs one two = two
free_joined byte (w ∷ ws) vs one two = (one.0, free_joined byte ws vs one.1 two)

free_one : (byte c : ℕ) → c ≢ byte → is_free byte (c ∷ []) ≡ true
unfolding is_free
free_one byte c apart = rw (ne_eqb c byte apart) refl

free_ids : (byte : ℕ) (ids : List ℕ) → byte < 45 → All IsId ids → AreFree byte (map decimal ids)
free_ids byte [] low are = tt
free_ids byte (k ∷ ks) low are =
    let first : IsId k = All-head IsId k ks are in
    (free_decimal byte k (omega arith) (omega (arith, first.1)), free_ids byte ks low (All-tail IsId k ks are))

free_literal : (byte : ℕ) (z : ℤ) → byte < 45 → variable z < 2 ^ 31 → is_free byte (signed_decimal z) ≡ true
free_literal byte (pos n) low small = free_decimal byte n (omega arith) (omega (arith, small))
free_literal byte (negsuc n) low small = free_both byte (45 ∷ []) (decimal (suc n)) (free_one byte 45 (λ e. omega (arith, e))) (free_decimal byte (suc n) (omega arith) (omega (arith, small)))

free_literals : (byte : ℕ) (lits : List ℤ) → byte < 45 → IsWithin (2 ^ 31 - 1) lits → AreFree byte (map signed_decimal lits)
free_literals byte [] low within = tt
free_literals byte (m ∷ ms) low within =
    let first : variable m ≤ 2 ^ 31 - 1 = All-head (λ (x : ℤ). variable x ≤ 2 ^ 31 - 1) m ms within in
    (free_literal byte m low (omega (arith, first)), free_literals byte ms low (All-tail (λ (x : ℤ). variable x ≤ 2 ^ 31 - 1) m ms within))

free_hints : (byte : ℕ) (ids : List ℕ) → byte < 45 → All IsId ids → AreFree byte (hint_items ids)
free_hints byte ids low are = free_joined byte (map decimal ids) (nought ∷ []) (free_ids byte ids low are) (free_one byte 48 (λ e. omega (arith, e)), tt)

-- no item of a line contains a blank or an LF
free_line : (byte : ℕ) (l : Line) → byte < 45 → IsLine l → AreFree byte (line_items l)
free_line byte (Add id lits hints) low is = (
  free_decimal byte id (omega arith) (omega (arith, is.own_id.1)),
  free_joined byte (map signed_decimal lits) (nought ∷ hint_items hints) (free_literals byte lits low is.variables) (free_one byte 48 (λ e. omega (arith, e)), free_hints byte hints low is.hint_ids),
)
free_line byte (Delete id ids) low is = (
  free_decimal byte id (omega arith) (omega (arith, is.own_id.1)),
  (free_one byte 100 (λ e. omega (arith, e)), free_hints byte ids low is.deleted_ids),
)

joined_back : (w : List ℕ) (ws : List (List ℕ)) → AreFree 32 (w ∷ ws) → items_of (join_with_byte 32 (w ∷ ws)) ≡ w ∷ ws
joined_back w [] free = last_item_back w free.0
joined_back w (v ∷ vs) free = item_back w (join_with_byte 32 (v ∷ vs)) free.0 ∙ ap (λ (us : List (List ℕ)). w ∷ us) (joined_back v vs free.1)

no_letter : (w : List ℕ) (r : Option ℤ) → literal_in w ≡ Some r → is_letter_d w ≡ false
unfolding number_from
no_letter w r is = ⊎_elim (λ (same : w ≡ codes "d"). let none : literal_in w ≡ None = ap literal_in same in absurd cc) (λ (other : is_letter_d w ≡ false). other) (letter_first w)

addition_back : (id : ℕ) (lits : List ℤ) (hints : List ℕ) → IsClause lits → IsWithin (2 ^ 31 - 1) lits → All IsId hints → after_id id (addition_items lits hints) ≡ Ok (Add id lits hints)
addition_back id [] hints clause within ids =
    ap (λ (b : Bool). if b then ids_of id [] (hint_items hints) else lits_of id [] (nought ∷ hint_items hints)) (no_letter nought None literal_end_back) ∙ lits_back id [] [] hints clause within ids
addition_back id (m ∷ ms) hints clause within ids =
    let low : variable m ≤ 2 ^ 31 - 1 = All-head (λ (x : ℤ). variable x ≤ 2 ^ 31 - 1) m ms within in
    let some : 0 < variable m = All-head (λ (x : ℤ). 0 < variable x) m ms clause.literals in
    ap (λ (b : Bool). if b then ids_of id [] (addition_items ms hints) else lits_of id []
    (signed_decimal m ∷ addition_items ms hints))
    (no_letter (signed_decimal m) (Some m) (literal_back m some (omega (arith, low))))
    ∙ lits_back id [] (m ∷ ms) hints clause within ids

items_back : (l : Line) → IsLine l → line_in_items (line_items l) ≡ Ok l
items_back (Add id lits hints) is =
    ap (λ (o : Option (Option ℕ)). item_then o (Err BadNumber) (λ k. after_id k (addition_items lits hints))) (id_back id is.own_id)
    ∙ addition_back id lits hints is.clause is.variables is.hint_ids
items_back (Delete id ids) is =
    ap (λ (o : Option (Option ℕ)). item_then o (Err BadNumber) (λ k. after_id k (codes "d" ∷ hint_items ids))) (id_back id is.own_id)
    ∙ ids_back id [] ids is.deleted_ids

-- A line that can be written is read again.
pub line_back : (l : Line) → IsLine l → line_in (line_body l) ≡ Ok l
line_back (Add id lits hints) is =
    ap line_in_items (joined_back (decimal id) (addition_items lits hints) (free_line 32 (Add id lits hints) (omega arith) is)) ∙ items_back (Add id lits hints) is
line_back (Delete id ids) is =
    ap line_in_items (joined_back (decimal id) (codes "d" ∷ hint_items ids) (free_line 32 (Delete id ids) (omega arith) is)) ∙ items_back (Delete id ids) is

joined_free : (w : List ℕ) (ws : List (List ℕ)) → AreFree 10 (w ∷ ws) → is_free 10 (join_with_byte 32 (w ∷ ws)) ≡ true
joined_free w [] free = free.0
joined_free w (v ∷ vs) free = free_both 10 w (32 ∷ join_with_byte 32 (v ∷ vs)) free.0
    (free_both 10 (32 ∷ []) (join_with_byte 32 (v ∷ vs)) (free_one 10 32 (λ e. omega (arith, e)))
    (joined_free v vs free.1))

body_free : (l : Line) → IsLine l → is_free 10 (line_body l) ≡ true
body_free (Add id lits hints) is = joined_free (decimal id) (addition_items lits hints) (free_line 10 (Add id lits hints) (omega arith) is)
body_free (Delete id ids) is = joined_free (decimal id) (codes "d" ∷ hint_items ids) (free_line 10 (Delete id ids) (omega arith) is)

-- In a text a written line is one line, whatever follows.
pub text_back : (l : Line) (rest : List ℕ) → IsLine l → lines_of (line_text l ++ rest) ≡ record { text = line_body l; ended = true } ∷ lines_of rest
text_back l rest is = ap lines_of (append_assoc (line_body l) (10 ∷ []) rest) ∙ ended_line_back (line_body l) rest (body_free l is)
