-- The subproblems and formulas of each method.
use Rattle.std.specs.Prelude.{ℕ, Bool, true, false, List, [], ◌∷◌}
use Rattle.sat_theory.specs.Formula.{Formula}
use Rattle.tt_core.specs.Words.{Words}
use Rattle.enc_theory.specs.Plain.{plain_formula}
use Rattle.enc_theory.specs.Ssv.{ssv_formula}
use Rattle.enc_theory.specs.Select.{select_formula}
use Rattle.enc_theory.specs.Fence.{fence_formula}
use Rattle.enc_theory.specs.Subproblems.{subproblems_for, fence_in}
use Rattle.npn_strong.specs.Cut.{npn_formula, npn_fence_formula}
use Rattle.enc_theory.specs.declared.subproblem.Subproblem.{Subproblem}
use Rattle.enc_theory.specs.declared.subproblem.Subproblem.TheVariants.{Whole}
use Rattle.settings.specs.declared.methods.Method.{Method}
use Rattle.settings.specs.declared.methods.Method.TheVariants.{Plain, Ssv, Select, Fence, Strong, StrongFence}

-- The subproblems in which the size `r` is searched, in order, and the formula of a subproblem: for tables, the
-- set of operators `basis`, and `r` steps.
pub record Coding : Type 0 where
  pub subproblems : Words → ℕ → List Subproblem
  pub formula : Words → ℕ → ℕ → Subproblem → Formula

abbrev pub plain_coding : Coding
plain_coding = record { subproblems = λ w r. Whole ∷ []; formula = λ w basis r subproblem. plain_formula w basis r }

abbrev pub ssv_coding : Coding
ssv_coding = record { subproblems = λ w r. Whole ∷ []; formula = λ w basis r subproblem. ssv_formula w basis r }

abbrev pub select_coding : Coding
select_coding = record { subproblems = λ w r. Whole ∷ []; formula = λ w basis r subproblem. select_formula w basis r }

-- one subproblem for each listed fence
abbrev pub fence_coding : Coding
fence_coding = record {
  subproblems = λ w r. subproblems_for w r;
  formula = λ w basis r subproblem. fence_formula w basis r (fence_in subproblem);
}

abbrev pub strong_coding : Coding
strong_coding = record { subproblems = λ w r. Whole ∷ []; formula = λ w basis r subproblem. npn_formula w basis r }

abbrev pub strong_fence_coding : Coding
strong_fence_coding = record {
  subproblems = λ w r. subproblems_for w r;
  formula = λ w basis r subproblem. npn_fence_formula w basis r (fence_in subproblem);
}

-- only the methods by fences name their subproblems
abbrev pub has_fence_names : Method → Bool
has_fence_names Plain = false
has_fence_names Ssv = false
has_fence_names Select = false
has_fence_names Fence = true
has_fence_names Strong = false
has_fence_names StrongFence = true

-- By `strong-fence` a size isn't searched further once one of its fences is left open.
abbrev pub stops_when_open : Method → Bool
stops_when_open Plain = false
stops_when_open Ssv = false
stops_when_open Select = false
stops_when_open Fence = false
stops_when_open Strong = false
stops_when_open StrongFence = true

-- the encoding of a method
unfoldable pub coding_of : Method → Coding
coding_of Plain = plain_coding
coding_of Ssv = ssv_coding
coding_of Select = select_coding
coding_of Fence = fence_coding
coding_of Strong = strong_coding
coding_of StrongFence = strong_fence_coding
