-- How the lines of a table change the parser state: its names, then its rows.
use Rattle.std.specs.Prelude.{◌≡◌, ℕ, ◌+◌, ◌≤◌, ◌<◌, Bool, true, false, ◌==◌, nat_le}
use Rattle.std.specs.Prelude.{nat_lt, List, [], ◌∷◌, ◌++◌, length, map, All, Some, Result}
use Rattle.std.specs.Prelude.{Ok, codes, refl}
use Rattle.std.specs.List.{flat_map, list_all}
use Rattle.std.proofs.Common.{arith, sym, ◌∙◌, ap, subst, append_assoc, append-nil, length-append}
use Rattle.std.proofs.lemmas.Bool.{and_parts, cond-true, cond-false, eq-eqb, eqb-true, false_from_ne_true, lt-leb, le-ltb}
use Rattle.std.proofs.lemmas.List.Elements.{All-head, All-tail}
use Rattle.net_theory.specs.Cover.{is_cube, is_cube_byte}
use Rattle.net_theory.specs.Document.{Name, IsName, Table, Document}
use Rattle.net_theory.specs.WellFormed.{IsTable}
use Rattle.net_core.specs.declared.error.NetError.{NetError}
use Rattle.blif_text.specs.Reading.{◌>>=◌}
use Rattle.blif_text.specs.Rows.{bit_in, cover_line_in, row_with, agrees, with_row, row_of}
use Rattle.blif_text.specs.Statements.{Said, closed, are_names, prefix_of, last_of, empty_table}
use Rattle.blif_text.specs.Statements.{table_of, with_table, directed, begins_dot, keyword_of}
use Rattle.blif_core.specs.Spelling.{digit_text}
use Rattle.blif_laws.specs.Spelled.{IsSpelledTable}
use Rattle.net_theory.specs.Limits.{most_table_inputs, most_cubes}
use Rattle.blif_laws.proofs.Saying.{WordLine, line, Says, says_none, says_one, says_then, Has, names_are, directs, has_same}
use Rattle.blif_laws.proofs.Saying.{all_push, one_name}

abbrev pub names_line : Table → WordLine
names_line t = line (codes ".names") (t.inputs ++ t.output ∷ [])

-- a cover line; in a table without inputs it has only the output value
abbrev pub row_line : Bool → List ℕ → WordLine
row_line on [] = line (digit_text on ∷ []) []
row_line on (b ∷ bs) = line (b ∷ bs) ((digit_text on ∷ []) ∷ [])

abbrev pub table_lines : Table → List WordLine
table_lines t = names_line t ∷ map (row_line t.cover.on) t.cover.cubes

-- what is known of `on` after lines with these cubes
abbrev known_on : Bool → List (List ℕ) → Bool
known_on on [] = true
known_on on (c ∷ cs) = on

-- a table with the given cubes of the on-set or the off-set
abbrev with_cubes : Bool → Table → List (List ℕ) → Table
with_cubes on t cubes = record {
  inputs = t.inputs;
  output = t.output;
  cover = record { width = t.cover.width; cubes = cubes; on = known_on on cubes; parity = false };
}

prefix_back : (w : Name) (ws : List Name) (output : Name) → prefix_of w (ws ++ output ∷ []) ≡ w ∷ ws
unfolding prefix_of
prefix_back w [] output = refl
prefix_back w (v ∷ ws) output = ap (λ (xs : List Name). w ∷ xs) (prefix_back v ws output)

last_back : (w : Name) (ws : List Name) (output : Name) → last_of w (ws ++ output ∷ []) ≡ output
unfolding last_of
last_back w [] output = refl
last_back w (v ∷ ws) output = last_back v ws output

table_back : (n : ℕ) (inputs : List Name) (output : Name) → All IsName inputs → IsName output → length inputs ≤ most_table_inputs → table_of n (inputs ++ output ∷ []) ≡ Ok (empty_table inputs output)
unfolding table_of prefix_of last_of
table_back n [] output all is narrow = cond-true (are_names (output ∷ [])) _ _ (names_are (output ∷ []) (one_name output is))
table_back n (w ∷ ws) output all is narrow =
    cond-false (nat_lt most_table_inputs (length (ws ++ output ∷ []))) _ _ (le-ltb most_table_inputs (length (ws ++ output ∷ [])) (omega (arith, narrow, length-append ws (output ∷ []))))
    ∙ cond-true (are_names (w ∷ (ws ++ output ∷ []))) _ _ (names_are (w ∷ (ws ++ output ∷ [])) (all_push (w ∷ ws) output all is))
    ∙ ap (λ (xs : List Name). Ok (empty_table xs (last_of w (ws ++ output ∷ [])))) (prefix_back w ws output)
    ∙ ap (λ (o : Name). Ok (empty_table (w ∷ ws) o)) (last_back w ws output)

cube_no_dot : (width b : ℕ) (bs : List ℕ) → is_cube width (b ∷ bs) ≡ true → begins_dot (b ∷ bs) ≡ false
cube_no_dot width b bs is =
    false_from_ne_true (b == 46) (λ dot.
    let parts = and_parts (length (b ∷ bs) == width) (list_all is_cube_byte (b ∷ bs)) is in
    let first = (and_parts (is_cube_byte b) (list_all is_cube_byte bs) parts.1).0 in
    let same : b ≡ 46 = eqb-true b 46 dot in
    let no : false ≡ true = subst (λ (x : ℕ). is_cube_byte x ≡ true) same first in
    cc)

digit_back : (on : Bool) → bit_in (digit_text on ∷ []) ≡ Some on
unfolding bit_in
digit_back true = refl
digit_back false = refl

row_words_back : (width : ℕ) (on : Bool) (cube : List ℕ) → is_cube width cube ≡ true →
    cover_line_in width ((row_line on cube).first ∷ (row_line on cube).rest) ≡ Some (record { cube = cube; on = on })
unfolding cover_line_in
row_words_back width on [] is =
    let parts = and_parts (0 == width) true is in
    let none : 0 ≡ width = eqb-true 0 width parts.0 in
    cond-true (width == 0) _ _ (eq-eqb width 0 (sym none)) ∙ ap (row_with []) (digit_back on)
row_words_back width on (b ∷ bs) is = cond-true (is_cube width (b ∷ bs)) _ _ is ∙ ap (row_with (b ∷ bs)) (digit_back on)

agrees_itself : (on : Bool) → agrees on on ≡ true
agrees_itself true = refl
agrees_itself false = refl

row_added : (n : ℕ) (on : Bool) (t : Table) (done : List (List ℕ)) (cube : List ℕ) → length done < most_cubes →
    with_row n (with_cubes on t done) (Some (record { cube = cube; on = on })) ≡ Ok (with_cubes on t (done ++ cube ∷ []))
row_added n on t [] cube room = refl
row_added n on t (d ∷ ds) cube room =
    cond-false (nat_le most_cubes (length (d ∷ ds))) _ _ (lt-leb most_cubes (length (d ∷ ds)) room)
    ∙ cond-true (agrees on on) _ _ (agrees_itself on)

row_back : (n : ℕ) (on : Bool) (t : Table) (done : List (List ℕ)) (cube : List ℕ) →
    is_cube t.cover.width cube ≡ true → length done < most_cubes →
    row_of n (with_cubes on t done) ((row_line on cube).first ∷ (row_line on cube).rest) ≡
    Ok (with_cubes on t (done ++ cube ∷ []))
unfolding row_of
row_back n on t done cube is room =
    ap (with_row n (with_cubes on t done)) (row_words_back t.cover.width on cube is) ∙ row_added n on t done cube room

digit_dot : (on : Bool) → begins_dot (digit_text on ∷ []) ≡ false
digit_dot true = refl
digit_dot false = refl

row_dot : (width : ℕ) (on : Bool) (cube : List ℕ) → is_cube width cube ≡ true → begins_dot (row_line on cube).first ≡ false
row_dot width on [] is = digit_dot on
row_dot width on (b ∷ bs) is = cube_no_dot width b bs is

abbrev open_table : Said → Table → Said
open_table s t = record s { current = Some t }

row_said : (n : ℕ) (s : Said) (on : Bool) (t : Table) (done : List (List ℕ)) (cube : List ℕ) → s.is_ended ≡ false →
    is_cube t.cover.width cube ≡ true → length done < most_cubes →
    Says n (row_line on cube ∷ []) (open_table s (with_cubes on t done))
    (λ u. u ≡ open_table s (with_cubes on t (done ++ cube ∷ [])))
row_said n s on t done cube going is room =
    says_one n (row_line on cube) (open_table s (with_cubes on t done)) (open_table s (with_cubes on t (done ++ cube ∷ [])))
    (λ u. u ≡ open_table s (with_cubes on t (done ++ cube ∷ [])))
    (cond-false s.is_ended _ _ going
    ∙ cond-false (begins_dot (row_line on cube).first) _ _ (row_dot t.cover.width on cube is)
    ∙ ap (λ (r : Result Table NetError). r >>= λ u. Ok (open_table s u)) (row_back n on t done cube is room))
    refl

rows_said : (n : ℕ) (s : Said) (on : Bool) (t : Table) (done cubes : List (List ℕ)) → s.is_ended ≡ false →
    All (λ cube. is_cube t.cover.width cube ≡ true) cubes → length done + length cubes ≤ most_cubes →
    Says n (map (row_line on) cubes) (open_table s (with_cubes on t done))
    (λ u. u ≡ open_table s (with_cubes on t (done ++ cubes)))
rows_said n s on t done [] going all room =
    says_none n (open_table s (with_cubes on t done)) (λ u. u ≡ open_table s (with_cubes on t (done ++ [])))
    (ap (λ (cs : List (List ℕ)). open_table s (with_cubes on t cs)) (sym (append-nil done)))
rows_said n s on t done (cube ∷ cubes) going all room =
    subst (λ (cs : List (List ℕ)). Says n (row_line on cube ∷ map (row_line on) cubes) (open_table s (with_cubes on t done)) (λ u. u ≡
    open_table s (with_cubes on t cs))) (append_assoc done (cube ∷ []) cubes)
    (says_then n (row_line on cube ∷ []) (map (row_line on) cubes) (open_table s (with_cubes on t done)) (λ u. u ≡
    open_table s (with_cubes on t (done ++ cube ∷ []))) (λ u. u ≡
    open_table s (with_cubes on t ((done ++ cube ∷ []) ++ cubes)))
    (row_said n s on t done cube going (All-head (λ (c : List ℕ). is_cube t.cover.width c ≡ true) cube cubes all) (omega (arith, room)))
    (λ m u same. subst (λ (v : Said). Says m (map (row_line on) cubes) v (λ w. w ≡ open_table s (with_cubes on t ((done ++ cube ∷ []) ++ cubes)))) (sym same)
    (rows_said m s on t (done ++ cube ∷ []) cubes going (All-tail (λ (c : List ℕ). is_cube t.cover.width c ≡ true) cube cubes all) (omega (arith, room, length-append done (cube ∷ []))))))

abbrev pub add_tables : List Table → Document → Document
add_tables ts d = record d { tables = d.tables ++ ts }

names_said : (n : ℕ) (on : Bool) (t : Table) (s : Said) (d : Document) → IsTable t → Has d s →
    Says n (names_line t ∷ []) s (λ u. u ≡ open_table (with_table (closed s) t)
    (with_cubes on (empty_table t.inputs t.output) []))
unfolding directed keyword_of
names_said n on t s d is has =
    says_one n (names_line t) s (with_table (closed s) (empty_table t.inputs t.output)) (λ u. u ≡ open_table (with_table (closed s) t) (with_cubes on (empty_table t.inputs t.output) []))
    (directs n s (codes ".names") (t.inputs ++ t.output ∷ []) has.going refl has.begun
    ∙ ap (λ (r : Result Table NetError). r >>= λ u. Ok (with_table (closed s) u))
    (table_back n t.inputs t.output is.inputs is.output is.narrow))
    refl

on_known : (on : Bool) (cubes : List (List ℕ)) → (cubes ≡ [] → on ≡ true) → known_on on cubes ≡ on
on_known on [] none = sym (none refl)
on_known on (c ∷ cs) none = refl

table_whole : (t : Table) → IsSpelledTable t → with_cubes t.cover.on (empty_table t.inputs t.output) t.cover.cubes ≡ t
table_whole t is =
    ap (λ (w : ℕ). let u : Table = record {
      inputs = t.inputs;
      output = t.output;
      cover = record { width = w; cubes = t.cover.cubes; on = known_on t.cover.on t.cover.cubes; parity = false };
    } in
    u) (sym is.table.width)
    ∙ ap (λ (on : Bool). let u : Table = record {
      inputs = t.inputs;
      output = t.output;
      cover = record { width = t.cover.width; cubes = t.cover.cubes; on = on; parity = false };
    } in
    u) (on_known t.cover.on t.cover.cubes is.on)
    ∙ ap (λ (p : Bool). let u : Table = record {
      inputs = t.inputs;
      output = t.output;
      cover = record { width = t.cover.width; cubes = t.cover.cubes; on = t.cover.on; parity = p };
    } in
    u) (sym is.cubes)

opened_has : (d : Document) (s : Said) (t : Table) → Has d s → Has (add_tables (t ∷ []) d) (open_table (with_table (closed s) t) t)
opened_has d s t has = record {
  document = ap (add_tables (t ∷ [])) has.document;
  begun = refl;
  going = has.going;
}

table_said : (n : ℕ) (t : Table) (d : Document) (s : Said) → IsSpelledTable t → Has d s → Says n (table_lines t) s (Has (add_tables (t ∷ []) d))
table_said n t d s is has =
    let empty = empty_table t.inputs t.output in
    let on = t.cover.on in
    let cubes = subst (λ (w : ℕ). All (λ cube. is_cube w cube ≡ true) t.cover.cubes) is.table.width is.table.cover.cubes in
    says_then n (names_line t ∷ []) (map (row_line on) t.cover.cubes) s (λ u. u ≡ open_table (with_table (closed s) t) (with_cubes on empty [])) (Has (add_tables (t ∷ []) d))
    (names_said n on t s d is.table has)
    (λ m u same. subst (λ (v : Said). Says m (map (row_line on) t.cover.cubes) v (Has (add_tables (t ∷ []) d))) (sym same)
    (let rows = rows_said m (with_table (closed s) t) on empty [] t.cover.cubes has.going cubes (omega (arith, is.table.few)) in
    record {
      next = rows.next;
      end = rows.end;
      good = subst (Has (add_tables (t ∷ []) d)) (sym (rows.good ∙ ap (open_table (with_table (closed s) t)) (table_whole t is))) (opened_has d s t has);
      says = rows.says;
    }))

pub tables_said : (n : ℕ) (ts : List Table) (d : Document) (s : Said) → All IsSpelledTable ts → Has d s → Says n (flat_map table_lines ts) s (Has (add_tables ts d))
tables_said n [] d s all has =
    says_none n s (Has (add_tables [] d)) (subst (λ (e : Document). Has e s) (ap (λ (ts : List Table). let e : Document = record d { tables = ts } in e) (sym (append-nil d.tables))) has)
tables_said n (t ∷ ts) d s all has =
    has_same (add_tables ts (add_tables (t ∷ []) d)) (add_tables (t ∷ ts) d)
    (ap (λ (xs : List Table). let e : Document = record d { tables = xs } in e) (append_assoc d.tables (t ∷ []) ts))
    n (flat_map table_lines (t ∷ ts)) s
    (says_then n (table_lines t) (flat_map table_lines ts) s (Has (add_tables (t ∷ []) d)) (Has (add_tables ts (add_tables (t ∷ []) d)))
    (table_said n t d s (All-head IsSpelledTable t ts all) has)
    (λ m u h. tables_said m ts (add_tables (t ∷ []) d) u (All-tail IsSpelledTable t ts all) h))
