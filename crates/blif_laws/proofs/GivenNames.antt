-- Each gate has the name of its first output, or a free name.
use Rattle.std.specs.Prelude.{◌≡◌, ℕ, zero, suc, ◌+◌, ◌≤◌, true, false, List, [], ◌∷◌, ◌++◌, length, slice_get, Option, Some, None, ◌⊎◌, refl}
use Rattle.std.proofs.Common.{arith, sym, ◌∙◌, ap, subst, inl, inr, ⊎_elim, append_assoc, append-nil}
use Rattle.std.proofs.lemmas.Bool.{both_ways, false_from_ne_true}
use Rattle.net_theory.specs.declared.data.Gate.{Gate}
use Rattle.net_theory.specs.Document.{Name, has, are_distinct}
use Rattle.net_theory.specs.NameLaws.{has_index, has_first, has_later, has_left, cons_distinct, distinct_cons}
use Rattle.net_theory.specs.Naming.{Naming, named, names_after}

-- the outputs of nodes: their names are taken, and each name belongs to one node
pub record AreSeated (output_at : ℕ → Option Name) (taken : List Name) : Type 0 where
  pub had : (p : ℕ) (o : Name) → output_at p ≡ Some o → has taken o ≡ true
  pub once : (p q : ℕ) (o : Name) → output_at p ≡ Some o → output_at q ≡ Some o → p ≡ q

-- free names are distinct, and none is taken
pub record MayBeGiven (taken free : List Name) : Type 0 where
  pub apart : (n : Name) → has free n ≡ true → has taken n ≡ false
  pub distinct : are_distinct free ≡ true

abbrev naming : List Name → List Name → Naming
naming names free = record { names = names; free = free }

-- the names given to gates, of which the first is the node `node`
pub record Given (output_at : ℕ → Option Name) (free : List Name) (node : ℕ) (gs : List Gate) (done : List Name) (r : Naming) : Type 0 where
  pub new : List Name
  pub names : r.names ≡ done ++ new
  pub count : length new ≡ length gs
  pub used : List Name
  pub split : free ≡ used ++ r.free
  pub few : length used ≤ length gs
  pub each : (i : ℕ) (n : Name) → slice_get new i ≡ Some n → (output_at (node + i) ≡ Some n) ⊎ ((output_at (node + i) ≡ None) × (has used n ≡ true))
  pub distinct : are_distinct new ≡ true

no_names : are_distinct [] ≡ true
unfolding are_distinct
no_names = refl

rest_free : (taken : List Name) (m : Name) (free : List Name) → MayBeGiven taken (m ∷ free) → MayBeGiven taken free
rest_free taken m free may = record { apart = λ n there. may.apart n (has_later m free n there); distinct = (distinct_cons m free may.distinct).1 }

shifted : (node i : ℕ) → node + 1 + i ≡ node + suc i
shifted node i = omega arith

with_output : (f : ℕ → Option Name) (taken free : List Name) (node : ℕ) (g : Gate) (gs : List Gate) (done : List Name)
    (o : Name) (r : Naming) → AreSeated f taken → MayBeGiven taken free → f node ≡ Some o →
    Given f free (node + 1) gs (done ++ o ∷ []) r → Given f free node (g ∷ gs) done r
with_output f taken free node g gs done o r seated may e is = record {
  new = o ∷ is.new;
  names = is.names ∙ append_assoc done (o ∷ []) is.new;
  count = ap suc is.count;
  used = is.used;
  split = is.split;
  few = omega (arith, is.few);
  each = each;
  distinct = cons_distinct o is.new (false_from_ne_true (has is.new o) (λ there.
      let at = has_index is.new o there in
      ⊎_elim
      (λ sits. let same = seated.once node (node + 1 + at.0) o e sits in omega (arith, same))
      (λ free_one. both_ways (has taken o) (may.apart o (subst (λ (xs : List Name). has xs o ≡ true) (sym is.split) (has_left is.used r.free o free_one.1))) (seated.had node o e))
      (is.each at.0 o at.1))) is.distinct;
} where
  each : (i : ℕ) (n : Name) → slice_get (o ∷ is.new) i ≡ Some n → (f (node + i) ≡ Some n) ⊎ ((f (node + i) ≡ None) × (has is.used n ≡ true))
  each zero n at = let same : o ≡ n = cc in let here : node ≡ node + 0 = omega arith in inl (subst (λ (p : ℕ). f p ≡ Some n) here (e ∙ ap Some same))
  each (suc i) n at = subst (λ (p : ℕ). (f p ≡ Some n) ⊎ ((f p ≡ None) × (has is.used n ≡ true))) (shifted node i) (is.each i n at)

with_free : (f : ℕ → Option Name) (taken : List Name) (m : Name) (free : List Name) (node : ℕ) (g : Gate)
    (gs : List Gate) (done : List Name) (r : Naming) → AreSeated f taken → MayBeGiven taken (m ∷ free) →
    f node ≡ None → Given f free (node + 1) gs (done ++ m ∷ []) r → Given f (m ∷ free) node (g ∷ gs) done r
with_free f taken m free node g gs done r seated may e is = record {
  new = m ∷ is.new;
  names = is.names ∙ append_assoc done (m ∷ []) is.new;
  count = ap suc is.count;
  used = m ∷ is.used;
  split = ap (λ (xs : List Name). m ∷ xs) is.split;
  few = omega (arith, is.few);
  each = each;
  distinct = cons_distinct m is.new (false_from_ne_true (has is.new m) (λ there.
      let at = has_index is.new m there in
      ⊎_elim
      (λ sits. both_ways (has taken m) (may.apart m (has_first m free)) (seated.had (node + 1 + at.0) m sits))
      (λ free_one. both_ways (has free m) (distinct_cons m free may.distinct).0 (subst (λ (xs : List Name). has xs m ≡ true) (sym is.split) (has_left is.used r.free m free_one.1)))
      (is.each at.0 m at.1))) is.distinct;
} where
  each : (i : ℕ) (n : Name) → slice_get (m ∷ is.new) i ≡ Some n → (f (node + i) ≡ Some n) ⊎ ((f (node + i) ≡ None) × (has (m ∷ is.used) n ≡ true))
  each zero n at =
      let same : m ≡ n = cc in
      let here : node ≡ node + 0 = omega arith in
      inr (subst (λ (p : ℕ). f p ≡ None) here e, subst (λ (x : Name). has (m ∷ is.used) x ≡ true) same (has_first m is.used))
  each (suc i) n at =
      subst (λ (p : ℕ). (f p ≡ Some n) ⊎ ((f p ≡ None) × (has (m ∷ is.used) n ≡ true))) (shifted node i)
      (⊎_elim (λ sits. inl sits) (λ free_one. inr (free_one.0, has_later m is.used n free_one.1)) (is.each i n at))

given_by : (f : ℕ → Option Name) (taken free : List Name) (node : ℕ) (g : Gate) (gs : List Gate) (done : List Name)
    (o : Option Name) → AreSeated f taken → MayBeGiven taken free → length (g ∷ gs) ≤ length free → f node ≡ o →
    ((more new : List Name) → MayBeGiven taken more → length gs ≤ length more →
    Given f more (node + 1) gs new (names_after f (naming new more) (node + 1) gs)) →
    Given f free node (g ∷ gs) done (names_after f (named (naming done free) o) (node + 1) gs)
given_by f taken free node g gs done (Some o) seated may room e rest =
    with_output f taken free node g gs done o _ seated may e (rest free (done ++ o ∷ []) may (omega (arith, room)))
given_by f taken [] node g gs done None seated may room e rest = absurd (omega (arith, room))
given_by f taken (m ∷ free) node g gs done None seated may room e rest =
    with_free f taken m free node g gs done _ seated may e (rest free (done ++ m ∷ []) (rest_free taken m free may) (omega (arith, room)))

pub given_all : (f : ℕ → Option Name) (taken free : List Name) (node : ℕ) (gs : List Gate) (done : List Name) →
    AreSeated f taken → MayBeGiven taken free → length gs ≤ length free →
    Given f free node gs done (names_after f (naming done free) node gs)
unfolding names_after
given_all f taken free node [] done seated may room = record {
  new = [];
  names = sym (append-nil done);
  count = refl;
  used = [];
  split = refl;
  few = omega arith;
  each = λ i n at. absurd cc;
  distinct = no_names;
}
given_all f taken free node (g ∷ gs) done seated may room =
    given_by f taken free node g gs done (f node) seated may room refl
    (λ more new may_more enough. given_all f taken more (node + 1) gs new seated may_more enough)
