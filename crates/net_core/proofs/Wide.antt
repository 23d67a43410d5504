-- Tables of more than two inputs, cube by cube.
use Rattle.std.proofs.Common.{◌≡◌, ℕ, ◌+◌, ◌-◌, ◌<◌, List, [], ◌∷◌, length, set, get_or, ap, ◌∙◌, refl, arith, zero, suc, if◌then◌else◌, true, false, not, ◌&&◌}
use Rattle.std.proofs.lemmas.Grind.{common_steps}
use Rattle.std.proofs.lemmas.List.Sums.{sum_by-cons}
use Rattle.net_theory.specs.declared.data.Gate.{Gate}
use Rattle.std.proofs.lemmas.Bool.{cond-true, cond-false}
use Rattle.net_theory.specs.Cover.{Cover}
use Rattle.net_theory.specs.Cost.{literal_count, literal_sum, is_not, cubes_cost, wide_cost}
use Rattle.net_theory.specs.declared.data.Sig.{Sig}
use Rattle.net_theory.specs.Expansion.{is_empty_cover, is_constant_cover, last_complemented, complemented, constant_sig, finished_by, or_built, terms_from, parity_built, cover_built, wide_built}
use Rattle.net_theory.specs.ExpansionLaws.{cover_terms}
use Rattle.net_theory.specs.WideLaws.{literals_count}
use Rattle.net_core.proofs.Prefixes.{prefix_itself, prefix_push, prefix_more}

pub sum_first : (cubes rest : List (List ℕ)) (c : List ℕ) → cubes ≡ c ∷ rest → literal_sum cubes ≡ literal_count c + literal_sum rest
sum_first cubes rest c e = ap literal_sum e ∙ sum_by-cons literal_count c rest

pub ruleset terms_loop = (common_steps, prefix_itself, prefix_push, prefix_more, sum_first, literals_count)

pub last_complemented-none : (gs : List Gate) → length gs ≡ 0 → gs ≡ last_complemented gs
unfolding last_complemented
last_complemented-none [] e = refl
last_complemented-none (g ∷ gs) e = absurd (omega arith)

-- writing the last gate
pub last_complemented-set : (gs : List Gate) (i : ℕ) (x : Gate) → i + 1 ≡ length gs → x ≡ get_or gs i x → set gs i (complemented x) ≡ last_complemented gs
unfolding last_complemented
last_complemented-set [] i x e is = absurd (omega arith)
last_complemented-set (g ∷ []) zero x e is = ap (λ (y : Gate). complemented y ∷ []) is
last_complemented-set (g ∷ []) (suc i) x e is = absurd (omega arith)
last_complemented-set (g ∷ h ∷ gs) zero x e is = absurd (omega arith)
last_complemented-set (g ∷ h ∷ gs) (suc i) x e is = ap (λ (ys : List Gate). g ∷ ys) (last_complemented-set (h ∷ gs) i x (omega arith) is)

pub ruleset last_gate = (common_steps, last_complemented-none)

-- the cost of a cover that isn't recognized as constant
pub wide_cost-some : (c : Cover) → c.parity ≡ false → is_constant_cover c.cubes ≡ false → wide_cost c ≡ (literal_sum c.cubes - 1) + (if is_not c.on c.cubes then 1 else 0)
unfolding wide_cost cubes_cost
wide_cost-some c cubed e = cond-false c.parity (c.width - 1) (cubes_cost c) cubed ∙ cond-false (is_constant_cover c.cubes) 0 _ e

-- expanding a table given by cubes
pub wide_built-plain : (sources : ℕ) (gates : List Gate) (c : Cover) (inputs : List Sig) → c.parity ≡ false →
    is_constant_cover c.cubes ≡ true → wide_built sources gates c inputs ≡ record {
      gates = gates;
      sig = constant_sig (c.on && not (is_empty_cover c.cubes));
    }
unfolding wide_built cover_built
wide_built-plain sources gates c inputs cubed e =
    cond-false c.parity (parity_built sources gates c.on inputs) (cover_built sources gates c inputs) cubed ∙ cond-true (is_constant_cover c.cubes) _ _ e

pub wide_built-some : (sources : ℕ) (gates : List Gate) (c : Cover) (inputs : List Sig) → c.parity ≡ false →
    is_constant_cover c.cubes ≡ false → wide_built sources gates c inputs ≡
    finished_by sources (length gates) c.on (or_built sources
    (terms_from sources inputs (record { gates = gates; outs = [] }) c.cubes))
unfolding wide_built cover_built
wide_built-some sources gates c inputs cubed e =
    cond-false c.parity (parity_built sources gates c.on inputs) (cover_built sources gates c inputs) cubed ∙ cond-false (is_constant_cover c.cubes) _ _ e

pub some_cubes : (cubes : List (List ℕ)) → is_constant_cover cubes ≡ false → 0 < length cubes
some_cubes [] e = absurd cc
some_cubes (c ∷ cubes) e = omega arith

pub ruleset wide_table = (common_steps, prefix_itself, prefix_push, prefix_more, cover_terms, wide_cost-some, wide_built-plain, wide_built-some, some_cubes)
