-- An undecided window has at least six gates, so with a smaller cap there is none.
use Rattle.std.specs.Prelude.{◌≡◌, ℕ, ◌≤◌, Bool, true, List, [], ◌∷◌, ◌++◌, All, refl}
use Rattle.std.specs.List.{flat_map}
use Rattle.std.proofs.Common.{arith, ◌∙◌, ap, subst, append-nil}
use Rattle.net_theory.specs.Net.{Net}
use Rattle.net_theory.specs.Naming.{gate_names}
use Rattle.net_document.specs.Format.{Format}
use Rattle.settings.specs.declared.improve.ImproveSettings.{ImproveSettings}
use Rattle.improve_theory.specs.Settled.{IsSettled}
use Rattle.improve_theory.specs.Undecided.{Undecided, candidates, IsUndecided}
use Rattle.improve_theory.specs.Improvement.{IsImprovementBy}
use Rattle.improve_windows.specs.Report.{window_text, first_line, last_line}
use Rattle.improve_windows.specs.Improving.{IsReported}

none_undecided : (s : ImproveSettings) (m : Net) (undecided : List Undecided) → s.cap ≤ 5 → All (IsUndecided m s) undecided → undecided ≡ []
none_undecided s m [] few are = refl
none_undecided s m (u ∷ us) few are =
    let is : IsUndecided m s u = are 0 u (omega arith) in
    absurd (omega (arith, few, is.large, is.listed.to))

pub small_named : (s : ImproveSettings) (n m : Net) (settled : Bool) (undecided : List Undecided) → s.cap ≤ 5 → IsImprovementBy s n m settled undecided → undecided ≡ []
small_named s n m settled undecided few left = none_undecided s m undecided few left.undecided_are

pub small_settled : (s : ImproveSettings) (n m : Net) (undecided : List Undecided) → s.cap ≤ 5 → IsImprovementBy s n m true undecided → IsSettled s m []
small_settled s n m undecided few left =
    subst (λ (us : List Undecided). IsSettled s m (candidates us)) (small_named s n m true undecided few left) (left.settled_is refl)

pub small_report : (f : Format) (s : ImproveSettings) (bytes text report : List ℕ) → s.cap ≤ 5 →
    IsReported f s bytes text report → (before : ℕ) × (after : ℕ) × (settled : Bool) ×
    (report ≡ first_line before after ++ last_line settled)
small_report f s bytes text report few is =
    let named : is.undecided ≡ [] = small_named s is.improved.first is.circuit.net is.settled is.undecided few is.improved.left in (
      is.before,
      is.after,
      is.settled,
      is.all_reported ∙ ap (λ (us : List Undecided). first_line is.before is.after ++
          flat_map (window_text (gate_names is.circuit) is.circuit.net.sources) us ++ last_line is.settled) named
          ∙ without_windows (first_line is.before is.after) (last_line is.settled),
    )
  where
    without_windows : (xs ys : List ℕ) → xs ++ [] ++ ys ≡ xs ++ ys
    without_windows xs ys = ap (λ (zs : List ℕ). zs ++ ys) (append-nil xs)
