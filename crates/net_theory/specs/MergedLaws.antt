-- Merging the two equal inputs of a table keeps its function.
use Rattle.std.specs.Prelude.{◌≡◌, ℕ, zero, suc, ◌<◌, Bool, true, false, if◌then◌else◌, List, [], ◌∷◌, length, map, refl}
use Rattle.std.proofs.Common.{arith, sym, ◌∙◌, ap, subst, ⊎_elim}
use Rattle.std.proofs.lemmas.Bool.{cond_both}
use Rattle.net_theory.specs.Cover.{Cover, IsCover, is_cube, matches, cover_value}
use Rattle.net_theory.specs.Document.{Name, is_same, has, Table}
use Rattle.net_theory.specs.NameLaws.{same_name, has_cases, has_first, has_none}
use Rattle.net_theory.specs.Cost.{unary_cover, merged, merged_table, cover_cost}

unary_cover_value : (at_zero at_one x : Bool) → cover_value (unary_cover at_zero at_one) (x ∷ []) ≡ (if x then at_one else at_zero)
unfolding cover_value matches
unary_cover_value false false false = refl
unary_cover_value false false true = refl
unary_cover_value false true false = refl
unary_cover_value false true true = refl
unary_cover_value true false false = refl
unary_cover_value true false true = refl
unary_cover_value true true false = refl
unary_cover_value true true true = refl

unary_cover_is : (at_zero at_one : Bool) → IsCover (unary_cover at_zero at_one)
unary_cover_is false false = record { cubes = λ k d low. absurd (omega arith); parity = λ e. absurd cc }
unary_cover_is false true = record { cubes = one; parity = λ e. absurd cc } where
  one : (k : ℕ) (d : List ℕ) → k < 1 → is_cube 1 (Rattle.std.specs.Prelude.slice_index_or ((49 ∷ []) ∷ []) k d) ≡ true
  one zero d low = refl
  one (suc k) d low = absurd (omega arith)
unary_cover_is true false = record { cubes = one; parity = λ e. absurd cc } where
  one : (k : ℕ) (d : List ℕ) → k < 1 → is_cube 1 (Rattle.std.specs.Prelude.slice_index_or ((48 ∷ []) ∷ []) k d) ≡ true
  one zero d low = refl
  one (suc k) d low = absurd (omega arith)
unary_cover_is true true = record { cubes = two; parity = λ e. absurd cc } where
  two : (k : ℕ) (d : List ℕ) → k < 2 → is_cube 1 (Rattle.std.specs.Prelude.slice_index_or ((48 ∷ []) ∷ (49 ∷ []) ∷ []) k d) ≡ true
  two zero d low = refl
  two (suc zero) d low = refl
  two (suc (suc k)) d low = absurd (omega arith)

-- the merged table m has the output and the function of t, and only inputs of t
pub record IsMergedTable (t m : Table) : Type 0 where
  pub output : m.output ≡ t.output
  pub cover : IsCover m.cover
  pub width : m.cover.width ≡ length m.inputs
  pub inputs : (n : Name) → has m.inputs n ≡ true → has t.inputs n ≡ true
  pub value : (f : Name → Bool) → cover_value m.cover (map f m.inputs) ≡ cover_value t.cover (map f t.inputs)

merged_itself : (t : Table) → IsCover t.cover → t.cover.width ≡ length t.inputs → IsMergedTable t t
merged_itself t is wide = record { output = refl; cover = is; width = wide; inputs = λ n h. h; value = λ f. refl }

at_both : (t : Table) (x : Bool) → (if x then cover_value t.cover (true ∷ true ∷ []) else cover_value t.cover (false ∷ false ∷ [])) ≡ cover_value t.cover (x ∷ x ∷ [])
at_both t false = refl
at_both t true = refl

merged_by : (t : Table) (ns : List Name) → t.inputs ≡ ns → IsCover t.cover → t.cover.width ≡ length t.inputs → IsMergedTable t (merged t ns)
merged_by t [] e is wide = merged_itself t is wide
merged_by t (a ∷ []) e is wide = merged_itself t is wide
merged_by t (a ∷ b ∷ []) e is wide =
    cond_both (is_same a b) _ t (IsMergedTable t)
    (λ same. record {
      output = refl;
      cover = unary_cover_is _ _;
      width = refl;
      inputs = λ n h. subst (λ (xs : List Name). has xs n ≡ true) (sym e)
          (⊎_elim (λ here. subst (λ (x : Name). has (a ∷ b ∷ []) x ≡ true) (sym here) (has_first a (b ∷ []))) (λ none.
          absurd (has_none n none)) (has_cases a [] n h));
      value = λ f.
          unary_cover_value (cover_value t.cover (false ∷ false ∷ [])) (cover_value t.cover (true ∷ true ∷ [])) (f a)
          ∙ at_both t (f a)
          ∙ ap (λ (x : Name). cover_value t.cover (f a ∷ f x ∷ [])) (same_name a b same)
          ∙ ap (λ (xs : List Name). cover_value t.cover (map f xs)) (sym e);
    })
    (λ other. merged_itself t is wide)
merged_by t (a ∷ b ∷ c ∷ ns) e is wide = merged_itself t is wide

pub merged_is : (t : Table) → IsCover t.cover → t.cover.width ≡ length t.inputs → IsMergedTable t (merged_table t)
unfolding merged_table
merged_is t is wide = merged_by t t.inputs refl is wide

-- the cost depends on the number of inputs alone
pub cover_cost-map : {A B : Type 0} (f : A → B) (c : Cover) (xs : List A) → cover_cost c (map f xs) ≡ cover_cost c xs
cover_cost-map f c [] = refl
cover_cost-map f c (a ∷ []) = refl
cover_cost-map f c (a ∷ b ∷ []) = refl
cover_cost-map f c (a ∷ b ∷ d ∷ xs) = refl
