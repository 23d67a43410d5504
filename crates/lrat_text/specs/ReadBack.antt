-- Round trips: what is read was written that way, and what was written is read.
use Rattle.std.specs.Prelude.{◌≡◌, ◌≢◌, ℕ, zero, suc, ◌-◌, ◌<◌, ◌≤◌, ◌^◌, ◌⊎◌, ◌==◌, ℤ, pos, negsuc, Bool, true, false}
use Rattle.std.specs.Prelude.{if◌then◌else◌, List, [], ◌∷◌, ◌++◌, map, All, Option, Some, None, Result, Ok, Err}
use Rattle.std.specs.Prelude.{decimal, codes, refl, length, get_or}
use Rattle.std.specs.Fmt.{signed_decimal}
use Rattle.std.proofs.Common.{ap, sym, ◌∙◌, subst, arith, inl, inr, append_assoc, append-nil}
use Rattle.std.proofs.Math.Logic.{⊎_elim}
use Rattle.std.proofs.Math.Seq.{get_or-append_seam}
use Rattle.std.proofs.lemmas.List.{get_or_append_left}
use Rattle.std.proofs.Common.{length-append}
use Rattle.std.proofs.lemmas.Fmt.{first_decimal, decimal_digit}
use Rattle.std.proofs.lemmas.List.Elements.{All-nil, All-cons, All-push, All-head, All-tail}
use Rattle.std.proofs.lemmas.List.Quantifiers.{all_pairs_push}
use Rattle.std.proofs.lemmas.List.Folds.{list_any_at, list_any_none}
use Rattle.std.proofs.lemmas.Bool.{eqb-true, eq-eqb, ne_eqb, cases_Bool}
use Rattle.std.proofs.lemmas.Bool.Decides.{nat_tests}
use Rattle.text_core.specs.Numbers.{number_up_to}
use Rattle.text_core.specs.ReadBack.{number_spells, number_back}
use Rattle.sat_theory.specs.Formula.{variable, opposite, IsClause, IsWithin}
use Rattle.sat_theory.specs.Line.{Line, Add, Delete, IsId}
use Rattle.lrat_text.specs.declared.error.LineError.{LineError}
use Rattle.lrat_text.specs.declared.error.LineError.TheVariants.{RatHint, RepeatedVariable}
use Rattle.lrat_text.specs.Numerals.{or_end, id_in, positive, negative, literal_in, begins_minus, is_letter_d}
use Rattle.lrat_text.specs.Reading.{item_then, end_of, is_repeated, hints_of, lits_of, ids_of}
use Rattle.sat_theory.specs.Limits.{most_id, most_variable}

-- ---- numbers

abbrev pub nought : List ℕ
nought = 48 ∷ []

decimal_0 : decimal 0 ≡ nought
decimal_0 = decimal_digit 0 (omega arith)

-- both cases of an if
pub if_cases : {A : Type 0} (b : Bool) (x y z : A) → (if b then x else y) ≡ z → ((b ≡ true) × (x ≡ z)) ⊎ ((b ≡ false) × (y ≡ z))
if_cases true x y z is = inl (refl, is)
if_cases false x y z is = inr (refl, is)

above_0 : (n : ℕ) → (n == 0) ≡ false → 0 < n
above_0 n is = grind (arith, nat_tests)

not_0 : (n : ℕ) → 0 < n → (n == 0) ≡ false
not_0 n some = ne_eqb n 0 (λ e. omega arith)

-- the cases of an id: the end of a list, or an id
or_end_cases : (o : Option ℕ) (r : Option ℕ) → or_end o ≡ Some r → ((o ≡ Some 0) × (r ≡ None)) ⊎ ((n : ℕ) × (0 < n) × (o ≡ Some n) × (r ≡ Some n))
or_end_cases None r is = absurd cc
or_end_cases (Some n) r is =
    let chosen : (if n == 0 then None else Some n) ≡ r = cc in
    ⊎_elim
    (λ (none : ((n == 0) ≡ true) × (None ≡ r)). inl (ap (λ (k : ℕ). Some k) (eqb-true n 0 none.0), sym none.1))
    (λ (one : ((n == 0) ≡ false) × (Some n ≡ r)). inr (n, above_0 n one.0, refl, sym one.1))
    (if_cases (n == 0) None (Some n) r chosen)

id_ends : (w : List ℕ) → id_in w ≡ Some None → w ≡ nought
id_ends w is =
    ⊎_elim
    (λ (at_end : (number_up_to most_id w ≡ Some 0) × (None ≡ None)). (number_spells most_id 0 w (omega arith) at_end.0).1 ∙ decimal_0)
    (λ (found : (n : ℕ) × (0 < n) × (number_up_to most_id w ≡ Some n) × (None ≡ Some n)). let n : ℕ = found.0 in let no_ : None ≡ Some n = found.3 in absurd cc)
    (or_end_cases (number_up_to most_id w) None is)

pub id_spells : (w : List ℕ) (n : ℕ) → id_in w ≡ Some (Some n) → IsId n × (w ≡ decimal n)
id_spells w n is =
    ⊎_elim
    (λ (at_end : (number_up_to most_id w ≡ Some 0) × (Some n ≡ None)). let no_ : Some n ≡ None = at_end.1 in absurd cc)
    (λ (found : (m : ℕ) × (0 < m) × (number_up_to most_id w ≡ Some m) × (Some n ≡ Some m)).
    let m : ℕ = found.0 in
    let same : Some n ≡ Some m = found.3 in
    let equal : m ≡ n = cc in
    let spelled = number_spells most_id m w (omega arith) found.2 in
    let above : 0 < n = rw (← equal) found.1 in
    let below : n < 2 ^ 32 = rw (← equal) (omega (arith, spelled.0)) in
    ((above, below), spelled.1 ∙ ap decimal equal))
    (or_end_cases (number_up_to most_id w) (Some n) is)

pub id_back : (n : ℕ) → IsId n → id_in (decimal n) ≡ Some (Some n)
id_back n is = ap or_end (number_back most_id n (omega (arith, is.1)) (omega (arith, is.1))) ∙ rw (not_0 n is.0) refl

id_end_back : id_in nought ≡ Some None
id_end_back = ap id_in (sym decimal_0) ∙ ap or_end (number_back most_id 0 (omega arith) (omega arith))

-- the first byte of a number is a digit
minus_first : (w : List ℕ) → 48 < get_or w 0 0 → begins_minus w ≡ false
minus_first [] high = refl
minus_first (b ∷ bs) high = ne_eqb b 45 (λ e. omega (arith, high))

number_minus : (n : ℕ) → 0 < n → n < 2 ^ 32 → begins_minus (decimal n) ≡ false
number_minus n some small = minus_first (decimal n) (first_decimal n some (omega arith))

pub letter_first : (w : List ℕ) → w ≡ codes "d" ⊎ (is_letter_d w ≡ false)
letter_first [] = inr refl
letter_first (b ∷ []) = ⊎_elim (λ (same : (b == 100) ≡ true). inl (ap (λ (c : ℕ). c ∷ []) (eqb-true b 100 same))) (λ (other : (b == 100) ≡ false). inr other) (cases_Bool (b == 100))
letter_first (b ∷ c ∷ bs) = inr refl

-- ---- literals

negative_cases : (o : Option ℕ) (r : Option ℤ) → negative o ≡ Some r → (n : ℕ) × (0 < n) × (o ≡ Some n) × (r ≡ Some (opposite (pos n)))
negative_cases None r is = absurd cc
negative_cases (Some n) r is =
    ⊎_elim
    (λ (none : ((n == 0) ≡ true) × (None ≡ Some r)). let no_ : None ≡ Some r = none.1 in absurd cc)
    (λ (one : ((n == 0) ≡ false) × (Some (Some (opposite (pos n))) ≡ Some r)). let same : Some (Some (opposite (pos n))) ≡ Some r = one.1 in (n, above_0 n one.0, refl, cc))
    (if_cases (n == 0) None (Some (Some (opposite (pos n)))) (Some r) is)

positive_cases : (o : Option ℕ) (r : Option ℤ) → positive o ≡ Some r → ((o ≡ Some 0) × (r ≡ None)) ⊎ ((n : ℕ) × (0 < n) × (o ≡ Some n) × (r ≡ Some (pos n)))
positive_cases None r is = absurd cc
positive_cases (Some n) r is =
    let chosen : (if n == 0 then None else Some (pos n)) ≡ r = cc in
    ⊎_elim
    (λ (none : ((n == 0) ≡ true) × (None ≡ r)). inl (ap (λ (k : ℕ). Some k) (eqb-true n 0 none.0), sym none.1))
    (λ (one : ((n == 0) ≡ false) × (Some (pos n) ≡ r)). inr (n, above_0 n one.0, refl, sym one.1))
    (if_cases (n == 0) None (Some (pos n)) r chosen)

opposite_text : (n : ℕ) → 0 < n → signed_decimal (opposite (pos n)) ≡ 45 ∷ decimal n
opposite_text zero some = absurd (omega (arith, some))
opposite_text (suc n) some = refl

opposite_variable : (n : ℕ) → variable (opposite (pos n)) ≡ n
opposite_variable zero = refl
opposite_variable (suc n) = refl

-- w is the item of the literal z
record SpellsLiteral (w : List ℕ) (z : ℤ) : Type 0 where
  some : 0 < variable z
  small : variable z < 2 ^ 31
  text : w ≡ signed_decimal z

negative_spells : (bs : List ℕ) (z : ℤ) → negative (number_up_to most_variable bs) ≡ Some (Some z) → SpellsLiteral (45 ∷ bs) z
negative_spells bs z is =
    let found = negative_cases (number_up_to most_variable bs) (Some z) is in
    let n : ℕ = found.0 in
    let some : 0 < n = found.1 in
    let spelled = number_spells most_variable n bs (omega arith) found.2 in
    let same : Some z ≡ Some (opposite (pos n)) = found.3 in
    let e : z ≡ opposite (pos n) = cc in
    let v : variable z ≡ n = ap variable e ∙ opposite_variable n in
    record {
      some = rw v some;
      small = rw v (omega (arith, spelled.0));
      text = ap (λ (t : List ℕ). 45 ∷ t) spelled.1 ∙ sym (ap signed_decimal e ∙ opposite_text n some);
    }

positive_spells : (w : List ℕ) (z : ℤ) → positive (number_up_to most_variable w) ≡ Some (Some z) → SpellsLiteral w z
positive_spells w z is =
    ⊎_elim
    (λ (none : (number_up_to most_variable w ≡ Some 0) × (Some z ≡ None)). let no_ : Some z ≡ None = none.1 in absurd cc)
    (λ (found : (n : ℕ) × (0 < n) × (number_up_to most_variable w ≡ Some n) × (Some z ≡ Some (pos n))).
    let n : ℕ = found.0 in
    let some : 0 < n = found.1 in
    let spelled = number_spells most_variable n w (omega arith) found.2 in
    let same : Some z ≡ Some (pos n) = found.3 in
    let e : z ≡ pos n = cc in
    let v : variable z ≡ n = ap variable e in
    record { some = rw v some; small = rw v (omega (arith, spelled.0)); text = spelled.1 ∙ sym (ap signed_decimal e) })
    (positive_cases (number_up_to most_variable w) (Some z) is)

literal_spells : (w : List ℕ) (z : ℤ) → literal_in w ≡ Some (Some z) → SpellsLiteral w z
literal_spells [] z is = absurd cc
literal_spells (b ∷ bs) z is =
    ⊎_elim
    (λ (minus : ((b == 45) ≡ true) × (negative (number_up_to most_variable bs) ≡ Some (Some z))). rw (eqb-true b 45 minus.0) (negative_spells bs z minus.1))
    (λ (plain : ((b == 45) ≡ false) × (positive (number_up_to most_variable (b ∷ bs)) ≡ Some (Some z))). positive_spells (b ∷ bs) z plain.1)
    (if_cases (b == 45) (negative (number_up_to most_variable bs)) (positive (number_up_to most_variable (b ∷ bs))) (Some (Some z)) is)

literal_ends : (w : List ℕ) → literal_in w ≡ Some None → w ≡ nought
literal_ends [] is = absurd cc
literal_ends (b ∷ bs) is =
    ⊎_elim
    (λ (minus : ((b == 45) ≡ true) × (negative (number_up_to most_variable bs) ≡ Some None)). let found =
    negative_cases (number_up_to most_variable bs) None minus.1 in let no_ : None ≡ Some (opposite (pos found.0)) =
    found.3 in absurd cc)
    (λ (plain : ((b == 45) ≡ false) × (positive (number_up_to most_variable (b ∷ bs)) ≡ Some None)).
    ⊎_elim
    (λ (at_end : (number_up_to most_variable (b ∷ bs) ≡ Some 0) × (None ≡ None)). (number_spells most_variable 0 (b ∷ bs) (omega arith) at_end.0).1 ∙ decimal_0)
    (λ (found : (n : ℕ) × (0 < n) × (number_up_to most_variable (b ∷ bs) ≡ Some n) × (None ≡ Some (pos n))). let no_ : None ≡ Some (pos found.0) = found.3 in absurd cc)
    (positive_cases (number_up_to most_variable (b ∷ bs)) None plain.1))
    (if_cases (b == 45) (negative (number_up_to most_variable bs)) (positive (number_up_to most_variable (b ∷ bs))) (Some None) is)

literal_plain : (w : List ℕ) → begins_minus w ≡ false → literal_in w ≡ positive (number_up_to most_variable w)
literal_plain [] is = refl
literal_plain (b ∷ bs) is = rw is refl

pub literal_back : (z : ℤ) → 0 < variable z → variable z < 2 ^ 31 → literal_in (signed_decimal z) ≡ Some (Some z)
literal_back (pos n) some small =
    literal_plain (decimal n) (number_minus n some (omega (arith, small)))
    ∙ ap positive (number_back most_variable n (omega (arith, small)) (omega (arith, small)))
    ∙ rw (not_0 n some) refl
literal_back (negsuc n) some small = ap negative (number_back most_variable (suc n) (omega (arith, small)) (omega (arith, small))) ∙ rw (not_0 (suc n) (omega arith)) refl

pub literal_end_back : literal_in nought ≡ Some None
literal_end_back = ap literal_in (sym decimal_0) ∙ ap literal_in decimal_0 ∙ ap positive (ap (number_up_to most_variable) (sym decimal_0) ∙ number_back most_variable 0 (omega arith) (omega arith))

-- ---- lists

abbrev pub Lines : Type 0
Lines = Result Line LineError

-- the cases in which item_then succeeds
pub item_ok : {X : Type 0} (o : Option (Option X)) (end : Lines) (next : X → Lines) (l : Line) →
    item_then o end next ≡ Ok l → ((o ≡ Some None) × (end ≡ Ok l)) ⊎ ((x : X) × (o ≡ Some (Some x)) × (next x ≡ Ok l))
item_ok None end next l is = absurd cc
item_ok (Some None) end next l is = inl (refl, is)
item_ok (Some (Some x)) end next l is = inr (x, refl, is)

end_ok : (line l : Line) (ws : List (List ℕ)) → end_of line ws ≡ Ok l → (l ≡ line) × (ws ≡ [])
end_ok line l [] is = (cc, refl)
end_ok line l (w ∷ ws) is = absurd cc

-- the items of hints and of the 0 that ends them
abbrev pub hint_items : List ℕ → List (List ℕ)
hint_items hs = map decimal hs ++ nought ∷ []

-- the line l was read from the items ws, after these hints had been read
pub record SpellsHints (id : ℕ) (lits : List ℤ) (hints : List ℕ) (ws : List (List ℕ)) (l : Line) : Type 0 where
  pub more : List ℕ
  pub line : l ≡ Add id lits (hints ++ more)
  pub ids : All IsId more
  pub text : ws ≡ hint_items more

hints_spell : (id : ℕ) (lits : List ℤ) (hints : List ℕ) (ws : List (List ℕ)) (l : Line) → hints_of id lits hints ws ≡ Ok l → SpellsHints id lits hints ws l
unfolding hints_of
hints_spell id lits hints [] l is = absurd cc
hints_spell id lits hints (w ∷ ws) l is =
    let next : ℕ → Lines = λ h. hints_of id lits (hints ++ h ∷ []) ws in
    ⊎_elim
    (λ (minus : (begins_minus w ≡ true) × (Err RatHint ≡ Ok l)). let no_ : Err RatHint ≡ Ok l = minus.1 in absurd cc)
    (λ (plain : (begins_minus w ≡ false) × (item_then (id_in w) (end_of (Add id lits hints) ws) next ≡ Ok l)).
    ⊎_elim
    (λ (at_end : (id_in w ≡ Some None) × (end_of (Add id lits hints) ws ≡ Ok l)).
    let done = end_ok (Add id lits hints) l ws at_end.1 in
    let w_is : w ≡ nought = id_ends w at_end.0 in
    let ws_is : ws ≡ [] = done.1 in
    let r : SpellsHints id lits hints (w ∷ ws) l = record { more = []; line = done.0 ∙ ap (λ (hs : List ℕ). Add id lits hs) (sym (append-nil hints)); ids = All-nil IsId; text = cc } in r)
    (λ (found : (h : ℕ) × (id_in w ≡ Some (Some h)) × (next h ≡ Ok l)).
    let h : ℕ = found.0 in
    let spelled = id_spells w h found.1 in
    let rest = hints_spell id lits (hints ++ h ∷ []) ws l found.2 in
    let w_is : w ≡ decimal h = spelled.1 in
    let ws_is : ws ≡ hint_items rest.more = rest.text in
    let r : SpellsHints id lits hints (w ∷ ws) l =
    record {
      more = h ∷ rest.more;
      line = rest.line
          ∙ ap (λ (hs : List ℕ). Add id lits hs) (append_assoc hints (h ∷ []) rest.more);
      ids =
          All-cons IsId h rest.more spelled.0 rest.ids;
      text = cc;
    } in
    r)
    (item_ok (id_in w) (end_of (Add id lits hints) ws) next l plain.1))
    (if_cases (begins_minus w) (Err RatHint) (item_then (id_in w) (end_of (Add id lits hints) ws) next) (Ok l) is)

hints_back : (id : ℕ) (lits : List ℤ) (hints more : List ℕ) → All IsId more → hints_of id lits hints (hint_items more) ≡ Ok (Add id lits (hints ++ more))
unfolding hints_of
hints_back id lits hints [] ids =
    ap (λ (o : Option (Option ℕ)). item_then o (end_of (Add id lits hints) []) (λ h. hints_of id lits (hints ++ h ∷ []) [])) id_end_back
    ∙ ap (λ (hs : List ℕ). Ok (Add id lits hs)) (sym (append-nil hints))
hints_back id lits hints (h ∷ hs) ids =
    let first : IsId h = All-head IsId h hs ids in
    let next : ℕ → Lines = λ k. hints_of id lits (hints ++ k ∷ []) (hint_items hs) in
    ap (λ (b : Bool). if b then Err RatHint else item_then (id_in (decimal h)) (end_of (Add id lits hints) (hint_items hs)) next) (number_minus h first.0 first.1)
    ∙ ap (λ (o : Option (Option ℕ)). item_then o (end_of (Add id lits hints) (hint_items hs)) next) (id_back h first)
    ∙ hints_back id lits (hints ++ h ∷ []) hs (All-tail IsId h hs ids)
    ∙ ap (λ (js : List ℕ). Ok (Add id lits js)) (append_assoc hints (h ∷ []) hs)

-- as SpellsHints, for the ids of a deletion
pub record SpellsIds (id : ℕ) (ids : List ℕ) (ws : List (List ℕ)) (l : Line) : Type 0 where
  pub more : List ℕ
  pub line : l ≡ Delete id (ids ++ more)
  pub are_ids : All IsId more
  pub text : ws ≡ hint_items more

pub ids_spell : (id : ℕ) (ids : List ℕ) (ws : List (List ℕ)) (l : Line) → ids_of id ids ws ≡ Ok l → SpellsIds id ids ws l
unfolding ids_of
ids_spell id ids [] l is = absurd cc
ids_spell id ids (w ∷ ws) l is =
    let next : ℕ → Lines = λ k. ids_of id (ids ++ k ∷ []) ws in
    ⊎_elim
    (λ (at_end : (id_in w ≡ Some None) × (end_of (Delete id ids) ws ≡ Ok l)).
    let done = end_ok (Delete id ids) l ws at_end.1 in
    let w_is : w ≡ nought = id_ends w at_end.0 in
    let ws_is : ws ≡ [] = done.1 in
    let r : SpellsIds id ids (w ∷ ws) l = record { more = []; line = done.0 ∙ ap (λ (ks : List ℕ). Delete id ks) (sym (append-nil ids)); are_ids = All-nil IsId; text = cc } in r)
    (λ (found : (k : ℕ) × (id_in w ≡ Some (Some k)) × (next k ≡ Ok l)).
    let k : ℕ = found.0 in
    let spelled = id_spells w k found.1 in
    let rest = ids_spell id (ids ++ k ∷ []) ws l found.2 in
    let w_is : w ≡ decimal k = spelled.1 in
    let ws_is : ws ≡ hint_items rest.more = rest.text in
    let r : SpellsIds id ids (w ∷ ws) l = record {
      more = k ∷ rest.more;
      line = rest.line
          ∙ ap (λ (ks : List ℕ). Delete id ks) (append_assoc ids (k ∷ []) rest.more);
      are_ids =
          All-cons IsId k rest.more spelled.0 rest.are_ids;
      text = cc;
    } in
    r)
    (item_ok (id_in w) (end_of (Delete id ids) ws) next l is)

pub ids_back : (id : ℕ) (ids more : List ℕ) → All IsId more → ids_of id ids (hint_items more) ≡ Ok (Delete id (ids ++ more))
unfolding ids_of
ids_back id ids [] are =
    ap (λ (o : Option (Option ℕ)). item_then o (end_of (Delete id ids) []) (λ k. ids_of id (ids ++ k ∷ []) [])) id_end_back
    ∙ ap (λ (ks : List ℕ). Ok (Delete id ks)) (sym (append-nil ids))
ids_back id ids (k ∷ ks) are =
    let next : ℕ → Lines = λ j. ids_of id (ids ++ j ∷ []) (hint_items ks) in
    ap (λ (o : Option (Option ℕ)). item_then o (end_of (Delete id ids) (hint_items ks)) next) (id_back k (All-head IsId k ks are))
    ∙ ids_back id (ids ++ k ∷ []) ks (All-tail IsId k ks are)
    ∙ ap (λ (js : List ℕ). Ok (Delete id js)) (append_assoc ids (k ∷ []) ks)

-- a literal of another variable can be appended to a clause
clause_pushed : (lits : List ℤ) (l : ℤ) → IsClause lits → is_repeated lits l ≡ false → 0 < variable l → IsClause (lits ++ l ∷ [])
clause_pushed lits l clause new some = record {
  literals = All-push (λ (m : ℤ). 0 < variable m) lits l clause.literals some;
  differ = all_pairs_push (λ (a b : ℤ). variable a ≢ variable b) lits l clause.differ (λ k d within same.
      let again : is_repeated lits l ≡ true = list_any_at (λ (m : ℤ). variable m == variable l) lits k d within
      (eq-eqb (variable (get_or lits k d)) (variable l) same) in not_both again new);
}
  where
    not_both : is_repeated lits l ≡ true → is_repeated lits l ≡ false → ⊥
    not_both again_ new_ = cc

-- in a clause no literal repeats the variable of an earlier one
clause_new : (lits : List ℤ) (m : ℤ) (ms : List ℤ) → IsClause (lits ++ m ∷ ms) → is_repeated lits m ≡ false
clause_new lits m ms clause =
    list_any_none (λ (x : ℤ). variable x == variable m) lits (λ k d within.
    ne_eqb (variable (get_or lits k d)) (variable m) (λ same.
    let one : get_or (lits ++ m ∷ ms) k d ≡ get_or lits k d = get_or_append_left lits (m ∷ ms) d k within in
    let two : get_or (lits ++ m ∷ ms) (length lits) d ≡ m = get_or-append_seam lits m ms d in
    let both : variable (get_or (lits ++ m ∷ ms) k d) ≡ variable (get_or (lits ++ m ∷ ms) (length lits) d) = ap variable one ∙ same ∙ sym (ap variable two) in
    clause.differ k (length lits) d within (rw length-append (omega arith)) both))

-- the items of an addition's literals and hints
abbrev pub addition_items : List ℤ → List ℕ → List (List ℕ)
addition_items ms hs = map signed_decimal ms ++ nought ∷ hint_items hs

pub record SpellsLits (id : ℕ) (lits : List ℤ) (ws : List (List ℕ)) (l : Line) : Type 0 where
  pub more : List ℤ
  pub hints : List ℕ
  pub line : l ≡ Add id (lits ++ more) hints
  pub clause : IsClause lits → IsClause (lits ++ more)
  pub within : IsWithin (2 ^ 31 - 1) more
  pub ids : All IsId hints
  pub text : ws ≡ addition_items more hints

pub lits_spell : (id : ℕ) (lits : List ℤ) (ws : List (List ℕ)) (l : Line) → lits_of id lits ws ≡ Ok l → SpellsLits id lits ws l
unfolding lits_of
lits_spell id lits [] l is = absurd cc
lits_spell id lits (w ∷ ws) l is =
    let next : ℤ → Lines = λ m. if is_repeated lits m then Err RepeatedVariable else lits_of id (lits ++ m ∷ []) ws in
    ⊎_elim
    (λ (at_end : (literal_in w ≡ Some None) × (hints_of id lits [] ws ≡ Ok l)).
    let done = hints_spell id lits [] ws l at_end.1 in
    let w_is : w ≡ nought = literal_ends w at_end.0 in
    let ws_is : ws ≡ hint_items done.more = done.text in
    let none : lits ++ [] ≡ lits = append-nil lits in
    let r : SpellsLits id lits (w ∷ ws) l = record {
      more = [];
      hints = done.more;
      line = done.line
          ∙ ap (λ (ms : List ℤ). Add id ms done.more) (sym none);
      clause = λ c. rw none c;
      within =
          All-nil (λ (m : ℤ). variable m ≤ 2 ^ 31 - 1);
      ids = done.ids;
      text = cc;
    } in
    r)
    (λ (found : (m : ℤ) × (literal_in w ≡ Some (Some m)) × (next m ≡ Ok l)).
    let m : ℤ = found.0 in
    let spelled = literal_spells w m found.1 in
    ⊎_elim
    (λ (again : (is_repeated lits m ≡ true) × (Err RepeatedVariable ≡ Ok l)). let no_ : Err RepeatedVariable ≡ Ok l = again.1 in absurd cc)
    (λ (new : (is_repeated lits m ≡ false) × (lits_of id (lits ++ m ∷ []) ws ≡ Ok l)).
    let rest = lits_spell id (lits ++ m ∷ []) ws l new.1 in
    let w_is : w ≡ signed_decimal m = spelled.text in
    let ws_is : ws ≡ addition_items rest.more rest.hints = rest.text in
    let grown : (lits ++ m ∷ []) ++ rest.more ≡ lits ++ m ∷ rest.more = append_assoc lits (m ∷ []) rest.more in
    let low : variable m ≤ 2 ^ 31 - 1 = omega (arith, spelled.small) in
    let r : SpellsLits id lits (w ∷ ws) l = record {
      more = m ∷ rest.more;
      hints = rest.hints;
      line = rest.line ∙ ap (λ (ms : List ℤ). Add id ms rest.hints) grown;
      clause = λ c. subst (λ (ms : List ℤ). IsClause ms) grown (rest.clause (clause_pushed lits m c new.0 spelled.some));
      within = All-cons (λ (x : ℤ). variable x ≤ 2 ^ 31 - 1) m rest.more low rest.within;
      ids = rest.ids;
      text = cc;
    } in r)
    (if_cases (is_repeated lits m) (Err RepeatedVariable) (lits_of id (lits ++ m ∷ []) ws) (Ok l) found.2))
    (item_ok (literal_in w) (hints_of id lits [] ws) next l is)

pub lits_back : (id : ℕ) (lits more : List ℤ) (hints : List ℕ) → IsClause (lits ++ more) → IsWithin (2 ^ 31 - 1) more →
    All IsId hints → lits_of id lits (addition_items more hints) ≡ Ok (Add id (lits ++ more) hints)
unfolding lits_of
lits_back id lits [] hints clause within ids =
    ap (λ (o : Option (Option ℤ)). item_then o (hints_of id lits [] (hint_items hints))
    (λ m. if is_repeated lits m then Err RepeatedVariable else lits_of id (lits ++ m ∷ []) (hint_items hints)))
    literal_end_back
    ∙ hints_back id lits [] hints ids
    ∙ ap (λ (ms : List ℤ). Ok (Add id ms hints)) (sym (append-nil lits))
lits_back id lits (m ∷ ms) hints clause within ids =
    let next : ℤ → Lines = λ x. if is_repeated lits x then Err RepeatedVariable else lits_of id (lits ++ x ∷ []) (addition_items ms hints) in
    let grown : (lits ++ m ∷ []) ++ ms ≡ lits ++ m ∷ ms = append_assoc lits (m ∷ []) ms in
    let low : variable m ≤ 2 ^ 31 - 1 = All-head (λ (x : ℤ). variable x ≤ 2 ^ 31 - 1) m ms within in
    let some : 0 < variable m = subst (λ (x : ℤ). 0 < variable x) (get_or-append_seam lits m ms m) (clause.literals (length lits) m (rw length-append (omega arith))) in
    ap (λ (o : Option (Option ℤ)). item_then o (hints_of id lits [] (addition_items ms hints)) next) (literal_back m some (omega (arith, low)))
    ∙ ap (λ (b : Bool). if b then Err RepeatedVariable else lits_of id (lits ++ m ∷ []) (addition_items ms hints)) (clause_new lits m ms clause)
    ∙ lits_back id (lits ++ m ∷ []) ms hints (subst (λ (xs : List ℤ). IsClause xs) (sym grown) clause) (All-tail (λ (x : ℤ). variable x ≤ 2 ^ 31 - 1) m ms within) ids
    ∙ ap (λ (xs : List ℤ). Ok (Add id xs hints)) grown
