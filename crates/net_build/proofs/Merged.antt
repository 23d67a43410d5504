-- Tables with two inputs of the same name, and costs.
use Rattle.std.proofs.Common.{◌≡◌, ◌≢◌, Bool, true, false, ◌≤◌, List, [], ◌∷◌, length, Option, refl, sym, subst, arith}
use Rattle.std.proofs.lemmas.Grind.{common_steps}
use Rattle.std.proofs.lemmas.Bool.{cond_both}
use Rattle.net_theory.specs.Cover.{Cover, IsCover, cover_value}
use Rattle.net_theory.specs.Document.{Name, is_same, Table}
use Rattle.net_theory.specs.WellFormed.{IsTable}
use Rattle.net_theory.specs.Cost.{unary_cover, merged, merged_table}
use Rattle.net_theory.specs.MergedLaws.{merged_is}
use Rattle.net_core.specs.declared.whole.Body.{Body}
use Rattle.net_core.specs.declared.whole.Body.TheVariants.{Cubes, Joined}
use Rattle.net_core.specs.Wholes.{cover_of, IsBody, JoinsSome}
use Rattle.net_build.specs.Parts.{merged_by}
use Rattle.net_theory.specs.Limits.{most_cubes}

-- a body is valid if its cover is and it joins at least one input
pub body_good : (b : Body) → JoinsSome b → IsCover (cover_of b) → IsBody b
body_good (Cubes c) some is = is
body_good (Joined w) some is = some

pub merged-other : (t : Table) (ns : List Name) → length ns ≢ 2 → merged t ns ≡ t
merged-other t [] h = refl
merged-other t (a ∷ []) h = refl
merged-other t (a ∷ b ∷ []) h = absurd (h refl)
merged-other t (a ∷ b ∷ c ∷ ns) h = refl

pub merged_cover : (t : Table) (c : Option Cover) → IsTable t → merged_by t c ≡ merged_table t → IsCover (merged_by t c).cover
merged_cover t c is e = subst (λ (m : Table). IsCover m.cover) (sym e) (merged_is t is.cover is.width).cover

pub merged_width : (t : Table) (c : Option Cover) → IsTable t → merged_by t c ≡ merged_table t → (merged_by t c).cover.width ≡ length (merged_by t c).inputs
merged_width t c is e = subst (λ (m : Table). m.cover.width ≡ length m.inputs) (sym e) (merged_is t is.cover is.width).width

few_by : (t : Table) (ns : List Name) → length t.cover.cubes ≤ most_cubes → length (merged t ns).cover.cubes ≤ most_cubes
few_by t [] few = few
few_by t (a ∷ []) few = few
few_by t (a ∷ b ∷ []) few =
    cond_both (is_same a b) (record {
      inputs = a ∷ [];
      output = t.output;
      cover = unary_cover (cover_value t.cover (false ∷ false ∷ [])) (cover_value t.cover (true ∷ true ∷ []));
    }) t
    (λ (m : Table). length m.cover.cubes ≤ most_cubes)
    (λ same. two (cover_value t.cover (false ∷ false ∷ [])) (cover_value t.cover (true ∷ true ∷ [])))
    (λ other. few) where
      two : (x y : Bool) → length (unary_cover x y).cubes ≤ most_cubes
      two true true = omega arith
      two true false = omega arith
      two false true = omega arith
      two false false = omega arith
few_by t (a ∷ b ∷ c ∷ ns) few = few

pub merged_few : (t : Table) (c : Option Cover) → IsTable t → merged_by t c ≡ merged_table t → length (merged_by t c).cover.cubes ≤ most_cubes
unfolding merged_table
merged_few t c is e = subst (λ (m : Table). length m.cover.cubes ≤ most_cubes) (sym e) (few_by t t.inputs is.few)

pub ruleset merges = (common_steps, merged-other)

pub ruleset costs = (common_steps, merged_cover, merged_width, merged_few)
