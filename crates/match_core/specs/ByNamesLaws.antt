-- The second netlist in the order of the first is equivalent to the first exactly if the two are equivalent by names.
use Rattle.std.specs.Prelude.{◌≡◌, ◌↔◌, ℕ, zero, suc, Bool, true, false, List, [], ◌∷◌, ◌++◌, length, map, slice_get, Option, Some, refl}
use Rattle.std.specs.List.{cons_option}
use Rattle.std.proofs.Common.{arith, sym, ◌∙◌, ap, subst, ⊎_elim}
use Rattle.std.proofs.lemmas.Simd.{map-map}
use Rattle.net_theory.specs.Document.{Name, has, are_distinct, LatchLine, Document, latch_of, latches_of, latch_output, latch_input, table_output, source_names, driven_names}
use Rattle.net_theory.specs.NameLaws.{has_first, has_later, has_cases, has_none, has_all, all_has, map_at, distinct_left, distinct_right, distinct_index}
use Rattle.net_theory.specs.Behaviour.{IsValuationOf, HasOneValuation, IsEquivalent}
use Rattle.net_theory.specs.WellFormed.{IsWellFormed}
use Rattle.match_core.specs.Matched.{ShareNames, line_named, matched, AgreeOn, IsEquivalentByNames}
use Rattle.match_core.specs.MatchedLaws.{names_of, line_found, picked, matched_same, driven_same}

-- ---- valuations don't depend on the order

pub valued_there : (d e : Document) (given v : Name → Bool) → ShareNames d e → IsValuationOf (matched d e) given v → IsValuationOf e given v
valued_there d e given v share is = record {
  sources = has_all (λ (n : Name). v n ≡ given n) (source_names e) (λ n at.
      all_has (λ (m : Name). v m ≡ given m) (source_names (matched d e)) n is.sources (matched_same d e share n ∙ at));
  tables = is.tables;
}

pub valued_back : (d e : Document) (given v : Name → Bool) → ShareNames d e → IsValuationOf e given v → IsValuationOf (matched d e) given v
valued_back d e given v share is = record {
  sources = has_all (λ (n : Name). v n ≡ given n) (source_names (matched d e)) (λ n at.
      all_has (λ (m : Name). v m ≡ given m) (source_names e) n is.sources (sym (matched_same d e share n) ∙ at));
  tables = is.tables;
}

pub one_there : (d e : Document) (given : Name → Bool) → ShareNames d e → HasOneValuation (matched d e) given → HasOneValuation e given
one_there d e given share has_one = record {
  some = (has_one.some.0, valued_there d e given has_one.some.0 share has_one.some.1);
  one = λ v w x y. has_all (λ (n : Name). v n ≡ w n) (driven_names e) (λ n at.
      all_has (λ (m : Name). v m ≡ w m) (driven_names (matched d e)) n
      (has_one.one v w (valued_back d e given v share x) (valued_back d e given w share y)) (driven_same d e share n ∙ at));
}

pub one_back : (d e : Document) (given : Name → Bool) → ShareNames d e → HasOneValuation e given → HasOneValuation (matched d e) given
one_back d e given share has_one = record {
  some = (has_one.some.0, valued_back d e given has_one.some.0 share has_one.some.1);
  one = λ v w x y. has_all (λ (n : Name). v n ≡ w n) (driven_names (matched d e)) (λ n at.
      all_has (λ (m : Name). v m ≡ w m) (driven_names e) n
      (has_one.one v w (valued_there d e given v share x) (valued_there d e given w share y)) (sym (driven_same d e share n) ∙ at));
}

-- ---- lists

-- equal lists of values are equal name by name, before and after the same names
head_same : {A : Type 0} (x y : A) (xs ys : List A) → x ∷ xs ≡ y ∷ ys → (x ≡ y) × (xs ≡ ys)
head_same x y xs ys e = (cc, cc)

front_same : (v w : Name → Bool) (ns xs ys : List Name) → map v (ns ++ xs) ≡ map w (ns ++ ys) → (n : Name) → has ns n ≡ true → v n ≡ w n
front_same v w [] xs ys e n at = absurd (has_none n at)
front_same v w (m ∷ ns) xs ys e n at =
    let parts = head_same (v m) (w m) (map v (ns ++ xs)) (map w (ns ++ ys)) e in
    ⊎_elim (λ (same : n ≡ m). subst (λ (x : Name). v x ≡ w x) (sym same) parts.0)
    (λ later. front_same v w ns xs ys parts.1 n later) (has_cases m ns n at)

back_same : (v w : Name → Bool) (ns xs ys : List Name) → map v (ns ++ xs) ≡ map w (ns ++ ys) → map v xs ≡ map w ys
back_same v w [] xs ys e = e
back_same v w (m ∷ ns) xs ys e = back_same v w ns xs ys (head_same (v m) (w m) (map v (ns ++ xs)) (map w (ns ++ ys)) e).1

both_same : (v w : Name → Bool) (ns xs ys : List Name) → ((n : Name) → has ns n ≡ true → v n ≡ w n) → map v xs ≡ map w ys →
    map v (ns ++ xs) ≡ map w (ns ++ ys)
both_same v w [] xs ys each e = e
both_same v w (m ∷ ns) xs ys each e =
    ap (λ (b : Bool). b ∷ map v (ns ++ xs)) (each m (has_first m ns))
    ∙ ap (λ (bs : List Bool). w m ∷ bs) (both_same v w ns xs ys (λ n at. each n (has_later m ns n at)) e)

-- elements at one place of lists with equal images
some_same : {A : Type 0} (r : Option A) (x y : A) → r ≡ Some x → r ≡ Some y → x ≡ y
some_same r x y a b = cc

place_same : {A B C : Type 0} (f : A → C) (g : B → C) (xs : List A) (ys : List B) (i : ℕ) (x : A) (y : B) → map f xs ≡ map g ys →
    slice_get xs i ≡ Some x → slice_get ys i ≡ Some y → f x ≡ g y
place_same f g xs ys i x y e at_x at_y =
    some_same (slice_get (map g ys) i) (f x) (g y) (ap (λ zs. slice_get zs i) (sym e) ∙ map_at f xs i x at_x) (map_at g ys i y at_y)

images_same : {A B C : Type 0} (f : A → C) (g : B → C) (xs : List A) (ys : List B) → length xs ≡ length ys →
    ((i : ℕ) (x : A) (y : B) → slice_get xs i ≡ Some x → slice_get ys i ≡ Some y → f x ≡ g y) → map f xs ≡ map g ys
images_same f g [] [] long each = refl
images_same f g [] (y ∷ ys) long each = absurd (omega (arith, long))
images_same f g (x ∷ xs) [] long each = absurd (omega (arith, long))
images_same f g (x ∷ xs) (y ∷ ys) long each =
    ap (λ z. z ∷ map f xs) (each 0 x y refl refl)
    ∙ ap (λ zs. g y ∷ zs) (images_same f g xs ys (omega (arith, long)) (λ i a b at_a at_b. each (suc i) a b at_a at_b))

-- ---- latches of one name

more : (es : List LatchLine) (k : LatchLine) (ls : List LatchLine) (m : LatchLine) → line_named es k.latch.output ≡ Some m →
    picked es (names_of (k ∷ ls)) ≡ m ∷ picked es (names_of ls)
more es k ls m is = ap (λ (r : Option LatchLine). cons_option r (picked es (names_of ls))) is

-- the latch of the second that stands at the place of one of the first
record IsPartner (es ms : List LatchLine) (i : ℕ) (l m : LatchLine) : Type 0 where
  at : slice_get ms i ≡ Some m
  output : m.latch.output ≡ l.latch.output
  place : ℕ
  from : slice_get es place ≡ Some m

partner : (es ls : List LatchLine) → ((n : Name) → has (names_of ls) n ≡ true → has (names_of es) n ≡ true) → (i : ℕ) (l : LatchLine) →
    slice_get ls i ≡ Some l → (m : LatchLine) × IsPartner es (picked es (names_of ls)) i l m
partner es [] each i l at = absurd cc
partner es (k ∷ ls) each zero l at =
    let found = line_found es k.latch.output (each k.latch.output (has_first k.latch.output (names_of ls))) in
    let same : k ≡ l = cc in (
      found.0,
      record {
        at = ap (λ (ms : List LatchLine). slice_get ms 0) (more es k ls found.0 found.1.is);
        output = found.1.output ∙ ap (λ (x : LatchLine). x.latch.output) same;
        place = found.1.place;
        from = found.1.at;
      },
    )
partner es (k ∷ ls) each (suc i) l at =
    let found = line_found es k.latch.output (each k.latch.output (has_first k.latch.output (names_of ls))) in
    let rest = partner es ls (λ n there. each n (has_later k.latch.output (names_of ls) n there)) i l at in (
      rest.0,
      record {
        at = ap (λ (ms : List LatchLine). slice_get ms (suc i)) (more es k ls found.0 found.1.is) ∙ rest.1.at;
        output = rest.1.output;
        place = rest.1.place;
        from = rest.1.from;
      },
    )

length-picked : (es ls : List LatchLine) → ((n : Name) → has (names_of ls) n ≡ true → has (names_of es) n ≡ true) →
    length ls ≡ length (picked es (names_of ls))
length-picked es [] each = refl
length-picked es (k ∷ ls) each =
    let found = line_found es k.latch.output (each k.latch.output (has_first k.latch.output (names_of ls))) in
    ap suc (length-picked es ls (λ n there. each n (has_later k.latch.output (names_of ls) n there)))
    ∙ sym (ap length (more es k ls found.0 found.1.is))

-- latches of a well-formed netlist with one name are one
latch_one : (e : Document) (i j : ℕ) (l m : LatchLine) → IsWellFormed e → slice_get e.latches i ≡ Some l →
    slice_get e.latches j ≡ Some m → l.latch.output ≡ m.latch.output → l ≡ m
latch_one e i j l m well at_l at_m same =
    let distinct : are_distinct (names_of e.latches) ≡ true =
    distinct_right e.inputs (names_of e.latches) (distinct_left (source_names e) (map table_output e.tables) well.driven_once) in
    let one = map_at latch_output (latches_of e) i l.latch (map_at latch_of e.latches i l at_l) in
    let other = map_at latch_output (latches_of e) j m.latch (map_at latch_of e.latches j m at_m) in
    let place : i ≡ j = distinct_index (names_of e.latches) i j m.latch.output distinct (one ∙ ap Some same) other in
    some_same (slice_get e.latches j) l m (ap (slice_get e.latches) (sym place) ∙ at_l) at_m

-- ---- both directions

there : (d e : Document) → ShareNames d e → (n : Name) → has (names_of d.latches) n ≡ true → has (names_of e.latches) n ≡ true
there d e share n at = sym (share.latches n) ∙ at

agree : (d e : Document) (given v w : Name → Bool) (i j : ℕ) (l m : LatchLine) → IsWellFormed e → ShareNames d e →
    IsEquivalent d (matched d e) → IsValuationOf d given v → IsValuationOf e given w → slice_get d.latches i ≡ Some l →
    slice_get e.latches j ≡ Some m → l.latch.output ≡ m.latch.output → AgreeOn v w l m
agree d e given v w i j l m well share is maps_v maps_w at_l at_m same =
    let found = partner e.latches d.latches (there d e share) i l at_l in
    let one : found.0 ≡ m = latch_one e found.1.place j found.0 m well found.1.from at_m (found.1.output ∙ same) in
    let at : slice_get (matched d e).latches i ≡ Some m = found.1.at ∙ ap Some one in
    let sinks = back_same v w d.outputs (map latch_input d.latches) (map latch_input (matched d e).latches)
    (is.sinks given v w maps_v (valued_back d e given w share maps_w)) in
    record {
      same = place_same latch_of latch_of d.latches (matched d e).latches i l m is.latches at_l at;
      next = some_same (slice_get (map w (map latch_input (matched d e).latches)) i) (v l.input) (w m.input)
          (ap (λ (bs : List Bool). slice_get bs i) (sym sinks)
          ∙ map_at v (map latch_input d.latches) i l.input (map_at latch_input d.latches i l at_l))
          (map_at w (map latch_input (matched d e).latches) i m.input (map_at latch_input (matched d e).latches i m at));
    }

named : (d e : Document) → IsWellFormed e → ShareNames d e → IsEquivalent d (matched d e) → IsEquivalentByNames d e
named d e well share is = record {
  names = share;
  clocks = is.clocks;
  first_has_one = is.first_has_one;
  second_has_one = λ given. one_there d e given share (is.second_has_one given);
  outputs = λ given v w maps_v maps_w n at. front_same v w d.outputs (map latch_input d.latches)
      (map latch_input (matched d e).latches) (is.sinks given v w maps_v (valued_back d e given w share maps_w)) n at;
  latches = λ given v w maps_v maps_w i j l m at_l at_m same.
      agree d e given v w i j l m well share is maps_v maps_w at_l at_m same;
}

-- the latches of the first agree with those at their places
partners_agree : (d e : Document) (given v w : Name → Bool) → ShareNames d e → IsEquivalentByNames d e → IsValuationOf d given v →
    IsValuationOf e given w → (i : ℕ) (l m : LatchLine) → slice_get d.latches i ≡ Some l →
    slice_get (matched d e).latches i ≡ Some m → AgreeOn v w l m
partners_agree d e given v w share is maps_v maps_w i l m at_l at_m =
    let found = partner e.latches d.latches (there d e share) i l at_l in
    let one : found.0 ≡ m = some_same (slice_get (matched d e).latches i) found.0 m found.1.at at_m in
    is.latches given v w maps_v maps_w i found.1.place l m at_l (found.1.from ∙ ap Some one)
    (sym found.1.output ∙ ap (λ (x : LatchLine). x.latch.output) one)

ordered_equal : (d e : Document) → ShareNames d e → IsEquivalentByNames d e → IsEquivalent d (matched d e)
ordered_equal d e share is =
    let long : length d.latches ≡ length (matched d e).latches = length-picked e.latches d.latches (there d e share) in
    let given : Name → Bool = λ n. false in
    let v = (is.first_has_one given).some in
    let w = (is.second_has_one given).some in
    record {
      inputs = refl;
      outputs = refl;
      clocks = is.clocks;
      latches = images_same latch_of latch_of d.latches (matched d e).latches long (λ i l m at_l at_m.
          (partners_agree d e given v.0 w.0 share is v.1 w.1 i l m at_l at_m).same);
      first_has_one = is.first_has_one;
      second_has_one = λ g. one_back d e g share (is.second_has_one g);
      sinks = λ g x y maps_x maps_y. both_same x y d.outputs (map latch_input d.latches) (map latch_input (matched d e).latches)
          (λ n at. is.outputs g x y maps_x (valued_there d e g y share maps_y) n at)
          (inputs_same d e g x y long share is maps_x (valued_there d e g y share maps_y));
    } where
      inputs_same : (d e : Document) (g x y : Name → Bool) → length d.latches ≡ length (matched d e).latches → ShareNames d e →
          IsEquivalentByNames d e → IsValuationOf d g x → IsValuationOf e g y →
          map x (map latch_input d.latches) ≡ map y (map latch_input (matched d e).latches)
      inputs_same d e g x y long share is maps_x maps_y =
          map-map x latch_input d.latches
          ∙ images_same (λ (l : LatchLine). x l.input) (λ (m : LatchLine). y m.input) d.latches (matched d e).latches long
          (λ i l m at_l at_m. (partners_agree d e g x y share is maps_x maps_y i l m at_l at_m).next)
          ∙ sym (map-map y latch_input (matched d e).latches)

pub by_names : (d e : Document) → IsWellFormed d → IsWellFormed e → ShareNames d e → IsEquivalent d (matched d e) ↔ IsEquivalentByNames d e
by_names d e one other share = (named d e other share, ordered_equal d e share)
