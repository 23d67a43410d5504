-- The lines of a block: each spelling is read, and each line that is read is a spelling.
use Rattle.std.proofs.Common.{◌≡◌, ℕ, ◌≤◌, ◌<◌, Bool, true, false, List, [], ◌∷◌, ◌++◌, Option, Some, None, refl, sym, ap, ◌∙◌, arith, subst}
use Rattle.std.specs.Prelude.{codes, decimal, option_and_then, ◌&&◌, if◌then◌else◌}
use Rattle.std.specs.Option.{option_map}
use Rattle.std.proofs.lemmas.Bool.{eqb-true}
use Rattle.std.specs.List.{join_with_byte}
use Rattle.std.proofs.lemmas.Grind.{common_steps}
use Rattle.std.proofs.lemmas.Option.{option_and_then_some}
use Rattle.text_core.specs.Items.{items_of}
use Rattle.text_core.specs.Words.{after, is_free}
use Rattle.text_core.specs.ReadBack.{item_back, last_item_back, items_spell, word_back, word_spells, number_back, number_spells, free_both, free_decimal}
use Rattle.chain_theory.specs.declared.data.Out.{Out}
use Rattle.chain_theory.specs.declared.data.Out.TheVariants as outs
use Rattle.chain_theory.specs.Chain.{Step, IsStepAt, NamesPlace}
use Rattle.op_basis.specs.Word.{operator_in, word_text}
use Rattle.op_basis.specs.ReadBack.{operator_back}
use Rattle.op_basis.specs.MemberLaws.{item_spelled}
use Rattle.chain_core.specs.Block.{number_in, place_in, step_from, step_in, is_byte, named_in, out_in}
use Rattle.chain_core.specs.Spelling.{place_text, step_text, named_text, out_text, count_text}
use Rattle.text_core.specs.Limits.{most_number}
use Rattle.chain_theory.specs.Limits.{most_steps}

-- ---- places

-- the spelling of a place is read
pub place_back : (p : ℕ) → p < 1000000000 → place_in (place_text p) ≡ Some p
unfolding place_in
place_back p fits = rw (word_back (codes "x") (decimal p)) (number_back most_number p (omega arith) (omega arith))

-- an item that is read as a place is its spelling
pub place_spells : (item : List ℕ) (p : ℕ) → place_in item ≡ Some p → (p < 1000000000) × (item ≡ place_text p)
unfolding place_in
place_spells item p e =
    option_and_then_some number_in (after (codes "x") item) p e (λ digits following is.
    let parts = number_spells most_number p digits (omega arith) is in
    (omega (arith, parts.0), word_spells (codes "x") item digits following ∙ ap (λ (ds : List ℕ). codes "x" ++ ds) parts.1))

-- the letter before a place isn't below the digits
free_x : (byte : ℕ) → byte < 48 → is_free byte (codes "x") ≡ true
unfolding is_free
free_x byte low = grind (arith, common_steps)

-- no blank or LF is in a place
pub free_place : (byte p : ℕ) → byte < 48 → p < 1000000000 → is_free byte (place_text p) ≡ true
free_place byte p low fits = free_both byte (codes "x") (decimal p) (free_x byte low) (free_decimal byte p low (omega arith))

-- ---- operators

-- both of two tests that are true together
pub both_true : (a b : Bool) → a && b ≡ true → (a ≡ true) × (b ≡ true)
both_true true true e = (refl, refl)
both_true true false e = absurd cc
both_true false b e = absurd cc

-- an item that is read as an operator is its word
pub operator_spells : (item : List ℕ) (op : ℕ) → operator_in item ≡ Some op → (op < 16) × (item ≡ word_text op)
operator_spells item op e = let is = item_spelled item op e in (is.low, is.word)

-- no blank or LF is in an operator
pub free_operator : (byte op : ℕ) → byte < 48 → is_free byte (word_text op) ≡ true
unfolding is_free word_text
free_operator byte op low = grind (arith, common_steps)

-- ---- steps

-- four items with a blank between each two
four_items : (a b c d : List ℕ) → is_free 32 a ≡ true → is_free 32 b ≡ true → is_free 32 c ≡ true → is_free 32 d ≡ true → items_of (join_with_byte 32 (a ∷ b ∷ c ∷ d ∷ [])) ≡ a ∷ b ∷ c ∷ d ∷ []
four_items a b c d fa fb fc fd =
    let one = last_item_back d fd in
    let two = item_back c d fc ∙ ap (λ (items : List (List ℕ)). c ∷ items) one in
    let three = item_back b (c ++ 32 ∷ d) fb ∙ ap (λ (items : List (List ℕ)). b ∷ items) two in
    item_back a (b ++ 32 ∷ (c ++ 32 ∷ d)) fa ∙ ap (λ (items : List (List ℕ)). a ∷ items) three

-- no LF is in two parts with a blank between them
free_line : (item rest : List ℕ) → is_free 10 item ≡ true → is_free 10 rest ≡ true → is_free 10 (item ++ 32 ∷ rest) ≡ true
unfolding is_free
free_line item rest prefix following = free_both 10 item (32 ∷ rest) prefix following

-- no LF is in four items with a blank between each two
four_free : (a b c d : List ℕ) → is_free 10 a ≡ true → is_free 10 b ≡ true → is_free 10 c ≡ true → is_free 10 d ≡ true → is_free 10 (join_with_byte 32 (a ∷ b ∷ c ∷ d ∷ [])) ≡ true
four_free a b c d fa fb fc fd = free_line a (b ++ 32 ∷ (c ++ 32 ∷ d)) fa (free_line b (c ++ 32 ∷ d) fb (free_line c d fc fd))

-- four items that are read one by one are read as a step's
step_in_four : (i j k o : List ℕ) (place : ℕ) (s : Step) → place_in i ≡ Some place → place_in j ≡ Some s.j →
    place_in k ≡ Some s.k → operator_in o ≡ Some s.op → step_in (i ∷ j ∷ k ∷ o ∷ []) ≡ Some (place, s)
unfolding step_in
step_in_four i j k o place s ei ej ek eo = rw (ei, ej, ek, eo) refl

-- the spelling of a step is read
pub step_back : (place : ℕ) (s : Step) → place < 1000000000 → IsStepAt place s → step_in (items_of (step_text place s)) ≡ Some (place, s)
unfolding step_text
step_back place s fits at =
    let j : s.j < 1000000000 = omega (arith, at.j_below) in
    let k : s.k < 1000000000 = omega (arith, at.k_below) in
    let low : 32 < 48 = omega arith in
    ap step_in (four_items (place_text place) (place_text s.j) (place_text s.k) (word_text s.op)
    (free_place 32 place low fits) (free_place 32 s.j low j) (free_place 32 s.k low k) (free_operator 32 s.op low))
    ∙ step_in_four (place_text place) (place_text s.j) (place_text s.k) (word_text s.op) place s
    (place_back place fits) (place_back s.j j) (place_back s.k k) (operator_back s.op at.op_below)

-- no LF is in a step
pub free_step : (place : ℕ) (s : Step) → place < 1000000000 → IsStepAt place s → is_free 10 (step_text place s) ≡ true
unfolding step_text
free_step place s fits at =
    let j : s.j < 1000000000 = omega (arith, at.j_below) in
    let k : s.k < 1000000000 = omega (arith, at.k_below) in
    let low : 10 < 48 = omega arith in
    four_free (place_text place) (place_text s.j) (place_text s.k) (word_text s.op) (free_place 10 place low fits) (free_place 10 s.j low j) (free_place 10 s.k low k) (free_operator 10 s.op low)

-- the places and the operator of the items of a step
record Names (i j k o : Option ℕ) (place : ℕ) (s : Step) : Type 0 where
  own : i ≡ Some place
  first : j ≡ Some s.j
  second : k ≡ Some s.k
  operator : o ≡ Some s.op

-- equal results have equal contents
pub some_is : {A : Type 0} (x y : A) → Some x ≡ Some y → x ≡ y
some_is x y e = cc

-- where a step is read, each of its items is read
step_from_some : (i j k o : Option ℕ) (place : ℕ) (s : Step) → step_from i j k o ≡ Some (place, s) → Names i j k o place s
step_from_some (Some i) (Some j) (Some k) (Some o) place s e =
    let same = some_is _ _ e in
    record {
      own = ap (λ (x : ℕ × Step). Some x.0) same;
      first = ap (λ (x : ℕ × Step). Some x.1.j) same;
      second = ap (λ (x : ℕ × Step). Some x.1.k) same;
      operator = ap (λ (x : ℕ × Step). Some x.1.op) same;
    }
step_from_some None j k o place s e = absurd cc
step_from_some (Some i) None k o place s e = absurd cc
step_from_some (Some i) (Some j) None o place s e = absurd cc
step_from_some (Some i) (Some j) (Some k) None place s e = absurd cc

-- items that are read as a step are its spelling
step_items : (items : List (List ℕ)) (place : ℕ) (s : Step) → step_in items ≡ Some (place, s) → (s.op < 16) × (items ≡ place_text place ∷ place_text s.j ∷ place_text s.k ∷ word_text s.op ∷ [])
unfolding step_in
step_items [] place s e = absurd cc
step_items (i ∷ []) place s e = absurd cc
step_items (i ∷ j ∷ []) place s e = absurd cc
step_items (i ∷ j ∷ k ∷ []) place s e = absurd cc
step_items (i ∷ j ∷ k ∷ o ∷ []) place s e =
    let names = step_from_some (place_in i) (place_in j) (place_in k) (operator_in o) place s e in
    let operator = operator_spells o s.op names.operator in
    (operator.0, rw ((place_spells i place names.own).1, (place_spells j s.j names.first).1, (place_spells k s.k names.second).1, operator.1) refl)
step_items (i ∷ j ∷ k ∷ o ∷ other ∷ items) place s e = absurd cc

-- a text that is read as a step is its spelling
pub step_spells : (text : List ℕ) (place : ℕ) (s : Step) → step_in (items_of text) ≡ Some (place, s) → (s.op < 16) × (text ≡ step_text place s)
unfolding step_text
step_spells text place s e =
    let parts = step_items (items_of text) place s e in
    (parts.0, sym (items_spell text) ∙ ap (join_with_byte 32) parts.1)

-- ---- outs

-- an item that begins with x isn't a constant
is_byte_x : (byte : ℕ) (text : List ℕ) → byte < 120 → is_byte byte (120 ∷ text) ≡ false
is_byte_x byte [] low = grind (arith, common_steps)
is_byte_x byte (b ∷ text) low = refl

-- an item that is one byte is that byte
is_byte_spells : (byte : ℕ) (item : List ℕ) → is_byte byte item ≡ true → item ≡ byte ∷ []
is_byte_spells byte [] e = absurd cc
is_byte_spells byte (b ∷ []) e = ap (λ (c : ℕ). c ∷ []) (eqb-true b byte e)
is_byte_spells byte (b ∷ c ∷ item) e = absurd cc

-- the spelling of what an out's line names is read
named_back : (o : Out) (last : ℕ) → last < 1000000000 → NamesPlace last o → named_in (named_text o) ≡ Some o
unfolding named_in
named_back outs.Zero last fits named = refl
named_back outs.One last fits named = refl
named_back (outs.Place p) last fits named =
    let no_constant = is_byte_x 48 (decimal p) (omega arith) in
    rw (no_constant, place_back p (omega (arith, named.1))) refl

-- the spelling of an out is read
pub out_back : (o : Out) (last : ℕ) → last < 1000000000 → NamesPlace last o → out_in (out_text o) ≡ Some o
unfolding out_in out_text
out_back o last fits named = rw (word_back (codes "out ") (named_text o)) (named_back o last fits named)

-- an out that is a place was read as a place
place_named : (x : Option ℕ) (o : Out) → option_map (λ p. outs.Place p) x ≡ Some o → (p : ℕ) × (x ≡ Some p) × (outs.Place p ≡ o)
place_named None o e = absurd cc
place_named (Some p) o e = (p, refl, some_is _ _ e)

-- the same, by the two tests for constants
named_by : (zero one : Bool) (item : List ℕ) (o : Out) → is_byte 48 item ≡ zero → is_byte 49 item ≡ one →
    (if zero then Some outs.Zero else (if one then Some outs.One else option_map (λ p. outs.Place p) (place_in item)))
    ≡ Some o → item ≡ named_text o
named_by true one item o is_zero is_one e = let same : outs.Zero ≡ o = some_is _ _ e in subst (λ (x : Out). item ≡ named_text x) same (is_byte_spells 48 item is_zero)
named_by false true item o is_zero is_one e = let same : outs.One ≡ o = some_is _ _ e in subst (λ (x : Out). item ≡ named_text x) same (is_byte_spells 49 item is_one)
named_by false false item o is_zero is_one e =
    let found = place_named (place_in item) o e in
    subst (λ (x : Out). item ≡ named_text x) found.2 (place_spells item found.0 found.1).1

-- an item that is read as an out is its spelling
named_spells : (item : List ℕ) (o : Out) → named_in item ≡ Some o → item ≡ named_text o
unfolding named_in
named_spells item o e = named_by (is_byte 48 item) (is_byte 49 item) item o refl refl e

-- a text that is read as an out is its spelling
pub out_spells : (text : List ℕ) (o : Out) → out_in text ≡ Some o → text ≡ out_text o
unfolding out_in out_text
out_spells text o e =
    option_and_then_some named_in (after (codes "out ") text) o e (λ item following is.
    word_spells (codes "out ") text item following ∙ ap (λ (rest : List ℕ). codes "out " ++ rest) (named_spells item o is))

-- no LF is in the name of an out
free_named : (o : Out) (last : ℕ) → last < 1000000000 → NamesPlace last o → is_free 10 (named_text o) ≡ true
unfolding is_free
free_named outs.Zero last fits named = refl
free_named outs.One last fits named = refl
free_named (outs.Place p) last fits named = free_place 10 p (omega arith) (omega (arith, named.1))

-- nor in the word before it
free_out_word : is_free 10 (codes "out ") ≡ true
unfolding is_free
free_out_word = refl

-- no LF is in the line of an out
pub free_out : (o : Out) (last : ℕ) → last < 1000000000 → NamesPlace last o → is_free 10 (out_text o) ≡ true
unfolding out_text
free_out o last fits named = free_both 10 (codes "out ") (named_text o) free_out_word (free_named o last fits named)

-- ---- the first line

-- the spelling of a number of steps is read
pub count_back : (r : ℕ) → r ≤ most_steps → option_and_then number_in (after (codes "chain ") (count_text r)) ≡ Some r
unfolding count_text
count_back r few = rw (word_back (codes "chain ") (decimal r)) (number_back most_number r (omega arith) (omega arith))

-- a text that is read as a number of steps is its spelling
pub count_spells : (text : List ℕ) (r : ℕ) → option_and_then number_in (after (codes "chain ") text) ≡ Some r → text ≡ count_text r
unfolding count_text
count_spells text r e =
    option_and_then_some number_in (after (codes "chain ") text) r e (λ digits following is.
    word_spells (codes "chain ") text digits following ∙ ap (λ (rest : List ℕ). codes "chain " ++ rest) (number_spells most_number r digits (omega arith) is).1)

-- no LF is in the word before a number of steps
free_chain_word : is_free 10 (codes "chain ") ≡ true
unfolding is_free
free_chain_word = refl

-- no LF is in the line of a number of steps
pub free_count : (r : ℕ) → r ≤ most_steps → is_free 10 (count_text r) ≡ true
unfolding count_text
free_count r few = free_both 10 (codes "chain ") (decimal r) free_chain_word (free_decimal 10 r (omega arith) (omega arith))
