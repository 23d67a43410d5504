-- Each key is looked up before a gate is appended, so no two gates of the result have the same key.
use Rattle.std.specs.Prelude.{◌≡◌, ℕ, zero, suc, ◌&&◌, not, Bool, true, false, List, [], ◌∷◌, ◌++◌, map, slice_get, Some, nat_eq, refl, if◌then◌else◌, ◌⊎◌}
use Rattle.std.specs.List.{list_any}
use Rattle.std.proofs.Common.{sym, ◌∙◌, ap, subst, inl, inr, ⊎_elim, eqb-true, eq-eqb}
use Rattle.std.proofs.lemmas.Bool.{both_ways, and_parts, and_from, or_left, or_right, cond-true, cond-false}
use Rattle.std.proofs.lemmas.List.{map-append}
use Rattle.net_theory.specs.declared.data.Gate.{Gate}
use Rattle.net_theory.specs.NameLaws.{map_at, at_map}
use Rattle.net_theory.specs.ValueLaws.{at_push}
use Rattle.merge_core.specs.declared.key.StrashKey.{StrashKey}
use Rattle.merge_core.specs.StrashKey.{key_of}
use Rattle.merge_core.specs.Merging.{HaveDistinctKeys, IsFoundOrAppended, AreKeys}

-- ---- keys

abbrev made : ℕ → ℕ → ℕ → StrashKey
made word low high = record { word = word; low = low; high = high }

abbrev pub key_eq : StrashKey → StrashKey → Bool
key_eq x y = nat_eq x.word y.word && (nat_eq x.low y.low && nat_eq x.high y.high)

key_same : (x y : StrashKey) → key_eq x y ≡ true → x ≡ y
key_same x y e =
    let word = and_parts (nat_eq x.word y.word) (nat_eq x.low y.low && nat_eq x.high y.high) e in
    let rest = and_parts (nat_eq x.low y.low) (nat_eq x.high y.high) word.1 in
    ap (λ (w : ℕ). made w x.low x.high) (eqb-true x.word y.word word.0)
    ∙ ap (λ (l : ℕ). made y.word l x.high) (eqb-true x.low y.low rest.0)
    ∙ ap (made y.word y.low) (eqb-true x.high y.high rest.1)

key_itself : (x : StrashKey) → key_eq x x ≡ true
key_itself x =
    and_from (nat_eq x.word x.word) (nat_eq x.low x.low && nat_eq x.high x.high) (eq-eqb x.word x.word refl)
    (and_from (nat_eq x.low x.low) (nat_eq x.high x.high) (eq-eqb x.low x.low refl) (eq-eqb x.high x.high refl))

-- a key of the table is found
found : (keys : List StrashKey) (f : StrashKey) (i : ℕ) → slice_get keys i ≡ Some f → list_any (key_eq f) keys ≡ true
found [] f i at = absurd cc
found (x ∷ keys) f zero at =
    let same : x ≡ f = cc in
    or_left (key_eq f x) (list_any (key_eq f) keys) (subst (λ (y : StrashKey). key_eq f y ≡ true) (sym same) (key_itself f))
found (x ∷ keys) f (suc i) at = or_right (key_eq f x) (list_any (key_eq f) keys) (found keys f i at)

-- ---- appended gates

nothing_there : {G : Type 0} (i : ℕ) (g : Gate) → slice_get [] i ≡ Some g → G
nothing_there i g at = absurd cc

-- the empty table
pub keys_none : (keys : List StrashKey) (gates : List Gate) → keys ≡ [] → gates ≡ [] → AreKeys keys gates
keys_none keys gates no_keys none = record {
  keys_are = no_keys ∙ sym (ap (λ (gs : List Gate). map key_of gs) none);
  apart = record { apart = λ i j g h at. nothing_there i g (ap (λ (gs : List Gate). slice_get gs i) (sym none) ∙ at) };
}

-- a gate with a new key is appended
apart_push : (gates : List Gate) (g : Gate) → HaveDistinctKeys gates → list_any (key_eq (key_of g)) (map key_of gates) ≡ false → HaveDistinctKeys (gates ++ g ∷ [])
apart_push gates g are none =
    let new : (i : ℕ) (h : Gate) → slice_get gates i ≡ Some h → key_of h ≡ key_of g → ⊥ = λ i h at same.
    both_ways (list_any (key_eq (key_of g)) (map key_of gates)) none (found (map key_of gates) (key_of g) i (map_at key_of gates i h at ∙ ap Some same)) in
    record {
      apart = λ i j x y at_i at_j same. ⊎_elim
          (λ old_i. ⊎_elim
          (λ old_j. are.apart i j x y old_i old_j same)
          (λ last_j. absurd (new i x old_i (same ∙ ap key_of (sym last_j.1))))
          (at_push gates g y j at_j))
          (λ last_i. ⊎_elim
          (λ old_j. absurd (new j y old_j (sym same ∙ ap key_of (sym last_i.1))))
          (λ last_j. last_i.0 ∙ sym last_j.0)
          (at_push gates g y j at_j))
          (at_push gates g x i at_i);
    }

abbrev inserted : List StrashKey → StrashKey → List StrashKey
inserted keys f = if list_any (key_eq f) keys then keys else keys ++ f ∷ []

-- ---- a key that is found

not_false : (b : Bool) → false ≡ not b → b ≡ true
not_false true e = refl
not_false false e = absurd cc

not_true : (b : Bool) → true ≡ not b → b ≡ false
not_true true e = absurd cc
not_true false e = refl

after_known : (before after : List StrashKey) (f : StrashKey) (is_new : Bool) → after ≡ inserted before f → is_new ≡ not (list_any (key_eq f) before) → is_new ≡ false → after ≡ before
after_known before after f is_new e added old = e ∙ cond-true (list_any (key_eq f) before) before (before ++ f ∷ []) (not_false (list_any (key_eq f) before) (sym old ∙ added))

stored_put : (after : List StrashKey) (gates all : List Gate) (g : Gate) (index : ℕ) (f k : StrashKey) →
    (all ≡ gates) ⊎ (all ≡ gates ++ g ∷ []) → after ≡ map key_of all → f ≡ key_of g → slice_get after index ≡ Some k →
    key_eq f k ≡ true → IsFoundOrAppended g gates all index
stored_put after gates all g index f k grown are key at same =
    let there = at_map key_of all index k (sym (ap (λ (fs : List StrashKey). slice_get fs index) are) ∙ at) in
    record { grown = grown; there = there.0; at = there.1; same = there.2 ∙ sym (key_same f k same) ∙ key }

pub put_known : (before after : List StrashKey) (gates : List Gate) (g : Gate) (index : ℕ) (f k : StrashKey)
    (is_new : Bool) → AreKeys before gates → f ≡ key_of g → after ≡ inserted before f →
    is_new ≡ not (list_any (key_eq f) before) → is_new ≡ false → slice_get after index ≡ Some k → key_eq f k ≡ true →
    IsFoundOrAppended g gates gates index
put_known before after gates g index f k is_new are key e added old at same =
    stored_put after gates gates g index f k (inl refl) (after_known before after f is_new e added old ∙ are.keys_are) key at same

-- ---- a new key

after_new : (before after : List StrashKey) (gates all : List Gate) (g : Gate) (f : StrashKey) (is_new : Bool) →
    AreKeys before gates → all ≡ gates ++ g ∷ [] → f ≡ key_of g → after ≡ inserted before f →
    is_new ≡ not (list_any (key_eq f) before) → is_new ≡ true → after ≡ map key_of all
after_new before after gates all g f is_new are more key e added new =
    e
    ∙ cond-false (list_any (key_eq f) before) before (before ++ f ∷ []) (not_true (list_any (key_eq f) before) (sym new ∙ added))
    ∙ ap (λ (fs : List StrashKey). fs ++ f ∷ []) are.keys_are
    ∙ ap (λ (x : StrashKey). map key_of gates ++ x ∷ []) key
    ∙ sym (map-append key_of gates (g ∷ []))
    ∙ sym (ap (λ (gs : List Gate). map key_of gs) more)

pub keys_new : (before after : List StrashKey) (gates all : List Gate) (g : Gate) (f : StrashKey) (is_new : Bool) →
    AreKeys before gates → all ≡ gates ++ g ∷ [] → f ≡ key_of g → after ≡ inserted before f →
    is_new ≡ not (list_any (key_eq f) before) → is_new ≡ true → AreKeys after all
keys_new before after gates all g f is_new are more key e added new =
    let none : list_any (key_eq f) before ≡ false = not_true (list_any (key_eq f) before) (sym new ∙ added) in
    record {
      keys_are = after_new before after gates all g f is_new are more key e added new;
      apart = subst HaveDistinctKeys (sym more) (apart_push gates g are.apart
          (subst (λ (x : StrashKey). list_any (key_eq x) (map key_of gates) ≡ false) key
          (subst (λ (fs : List StrashKey). list_any (key_eq f) fs ≡ false) are.keys_are none)));
    }

pub put_new : (before after : List StrashKey) (gates all : List Gate) (g : Gate) (index : ℕ) (f k : StrashKey)
    (is_new : Bool) → AreKeys before gates → all ≡ gates ++ g ∷ [] → f ≡ key_of g → after ≡ inserted before f →
    is_new ≡ not (list_any (key_eq f) before) → is_new ≡ true → slice_get after index ≡ Some k → key_eq f k ≡ true →
    IsFoundOrAppended g gates all index
put_new before after gates all g index f k is_new are more key e added new at same =
    stored_put after gates all g index f k (inr more) (after_new before after gates all g f is_new are more key e added new) key at same
