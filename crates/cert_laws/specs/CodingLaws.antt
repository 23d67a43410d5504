-- The laws of a method's formulas that make its verdicts true.
use Rattle.std.specs.Prelude.{◌≡◌, ℕ, ◌≤◌, ◌<◌, ◌^◌, List, [], ◌∷◌, All, Contains, slice_index_or, sum, length, map, refl}
use Rattle.std.proofs.Common.{zero, suc, subst, arith, ap, sym}
use Rattle.chain_theory.specs.Agreement.{IsMinimum}
use Rattle.sat_theory.specs.Formula.{IsFormula}
use Rattle.tt_core.specs.Words.{Words, specification}
use Rattle.op_basis.specs.Basis.{members}
use Rattle.clause_core.specs.Clauses.{IsSatisfiable}
use Rattle.settings.specs.declared.methods.Method.{Method}
use Rattle.settings.specs.declared.methods.Method.TheVariants.{Plain, Ssv, Select, Fence, Strong, StrongFence}
use Rattle.enc_laws.specs.Laws.{plain_complete, plain_is_formula}
use Rattle.enc_laws.specs.Ssv.{ssv_complete, ssv_is_formula}
use Rattle.enc_laws.specs.Select.{select_complete, select_is_formula}
use Rattle.enc_laws.specs.Fence.{fence_is_formula}
use Rattle.npn_strong.specs.Whole.{npn_complete, npn_is_formula}
use Rattle.npn_strong.specs.Fences.{npn_fence_is_formula, npn_is_complete}
use Rattle.fence_core.specs.Fence.{IsFenceOf, listed_fences}
use Rattle.fence_core.specs.Listing.{sum-cons, fences_are_listed}
use Rattle.tt_core.specs.Live.{live_words}
use Rattle.enc_theory.specs.Subproblems.{subproblems_for, fence_in}
use Rattle.enc_laws.specs.FenceLaws.{is_complete}
use Rattle.enc_laws.specs.WholeLaws.{the_whole, only_whole}
use Rattle.std.specs.List.{AllByRecursion}
use Rattle.std.proofs.lemmas.List.Elements.{All-from_recursion, recursion_from_All}
use Rattle.enc_theory.specs.declared.subproblem.Subproblem.{Subproblem}
use Rattle.enc_theory.specs.declared.subproblem.Subproblem.TheVariants.{Whole, Levels}
use Rattle.cert_theory.specs.Coding.{Coding, plain_coding, ssv_coding, select_coding, fence_coding}
use Rattle.cert_theory.specs.Coding.{strong_coding, strong_fence_coding, coding_of}
use Rattle.chain_theory.specs.Limits.{most_steps}

-- the numbers of a subproblem's name have at most nine digits
unfoldable pub HasShortName : Subproblem → Type 0
HasShortName Whole = Unit {0}
HasShortName (Levels sizes) = All (λ size. size < 2 ^ 64) sizes

-- The names of a size's subproblems can be read, and their formulas are well-formed; if the size is the
-- minimum, one of the formulas is satisfiable.
pub record IsCoding (c : Coding) : Type 0 where
  pub fence_names : (w : Words) (r : ℕ) (subproblem : Subproblem) → r ≤ most_steps → Contains (c.subproblems w r) subproblem → HasShortName subproblem
  pub formulas : (w : Words) (basis r : ℕ) (subproblem : Subproblem) → Contains (c.subproblems w r) subproblem → IsFormula (c.formula w basis r subproblem)
  pub complete : (w : Words) (basis r : ℕ) → IsMinimum (specification w) (members basis) r →
      (subproblem : Subproblem) × Contains (c.subproblems w r) subproblem × IsSatisfiable (c.formula w basis r subproblem)

whole_name : (subproblem : Subproblem) → Contains (Whole ∷ []) subproblem → HasShortName subproblem
unfolding HasShortName
whole_name subproblem there = subst (λ (p : Subproblem). HasShortName p) (sym (only_whole subproblem there)) tt

pub plain_is_coding : IsCoding plain_coding
plain_is_coding = record {
  fence_names = λ w r subproblem few there. whole_name subproblem there;
  formulas = λ w basis r subproblem there. plain_is_formula w basis r;
  complete = λ w basis r minimum. (Whole, the_whole, plain_complete w basis r minimum.reached);
}

pub ssv_is_coding : IsCoding ssv_coding
ssv_is_coding = record {
  fence_names = λ w r subproblem few there. whole_name subproblem there;
  formulas = λ w basis r subproblem there. ssv_is_formula w basis r;
  complete = λ w basis r minimum. (Whole, the_whole, ssv_complete w basis r minimum);
}

pub select_is_coding : IsCoding select_coding
select_is_coding = record {
  fence_names = λ w r subproblem few there. whole_name subproblem there;
  formulas = λ w basis r subproblem there. select_is_formula w basis r;
  complete = λ w basis r minimum. (Whole, the_whole, select_complete w basis r minimum);
}

pub strong_is_coding : IsCoding strong_coding
strong_is_coding = record {
  fence_names = λ w r subproblem few there. whole_name subproblem there;
  formulas = λ w basis r subproblem there. npn_is_formula w basis r;
  complete = λ w basis r minimum. (Whole, the_whole, npn_complete w basis r minimum);
}

-- the levels of a fence have no more steps than the fence
short_levels : (fence : List ℕ) (r : ℕ) → r ≤ most_steps → sum fence ≤ r → AllByRecursion (λ size. size < 2 ^ 64) fence
short_levels [] r few within = tt
short_levels (q ∷ qs) r few within =
    let total = sum-cons q qs in
    (omega arith, short_levels qs r few (omega arith))

short_fences : (r m : ℕ) (fences : List (List ℕ)) → r ≤ most_steps → AllByRecursion (IsFenceOf r m) fences →
    (subproblem : Subproblem) (k : ℕ) → k < length fences → slice_index_or (map Levels fences) k subproblem ≡
    subproblem → HasShortName subproblem
unfolding HasShortName
short_fences r m [] few all subproblem k low at = absurd (omega arith)
short_fences r m (f ∷ fences) few all subproblem zero low at =
    subst (λ (p : Subproblem). HasShortName p) at (All-from_recursion (λ size. size < 2 ^ 64) f (short_levels f r few (omega (arith, all.0.whole))))
short_fences r m (f ∷ fences) few all subproblem (suc k) low at = short_fences r m fences few all.1 subproblem k (omega arith) at

same_count : (fences : List (List ℕ)) → length (map Levels fences) ≡ length fences
same_count [] = refl
same_count (f ∷ fences) = ap (λ (n : ℕ). suc n) (same_count fences)

fence_name : (w : Words) (r : ℕ) (subproblem : Subproblem) → r ≤ most_steps → Contains (subproblems_for w r) subproblem → HasShortName subproblem
unfolding subproblems_for
fence_name w r subproblem few there =
    let m : ℕ = length (live_words w).on in
    let fences = listed_fences r m in
    let count = same_count fences in
    short_fences r m fences few (recursion_from_All (IsFenceOf r m) fences (fences_are_listed r m).only) subproblem there.0 (omega (arith, there.1)) there.2

pub fence_is_coding : IsCoding fence_coding
fence_is_coding = record {
  fence_names = λ w r subproblem few there. fence_name w r subproblem few there;
  formulas = λ w basis r subproblem there. fence_is_formula w basis r (fence_in subproblem);
  complete = λ w basis r minimum. is_complete w basis r minimum;
}

pub strong_fence_is_coding : IsCoding strong_fence_coding
strong_fence_is_coding = record {
  fence_names = λ w r subproblem few there. fence_name w r subproblem few there;
  formulas = λ w basis r subproblem there. npn_fence_is_formula w basis r (fence_in subproblem);
  complete = λ w basis r minimum. npn_is_complete w basis r minimum;
}

-- so the verdicts of each method are true
pub method_is_coding : (method : Method) → IsCoding (coding_of method)
unfolding coding_of
method_is_coding Plain = plain_is_coding
method_is_coding Ssv = ssv_is_coding
method_is_coding Select = select_is_coding
method_is_coding Fence = fence_is_coding
method_is_coding Strong = strong_is_coding
method_is_coding StrongFence = strong_fence_is_coding
