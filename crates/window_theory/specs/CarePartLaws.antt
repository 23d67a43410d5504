-- Care rows are found by evaluating a part of the net by itself.
use Rattle.std.specs.Prelude.{◌≡◌, ℕ, Bool, true, List, slice_index_or}
use Rattle.std.proofs.Common.{sym, ◌∙◌, ap}
use Rattle.net_theory.specs.Net.{Net, IsNet}
use Rattle.window_theory.specs.Nodes.{among}
use Rattle.window_theory.specs.FaninCone.{ExpandsTo}
use Rattle.window_theory.specs.FaninConeLaws.{leaves_one}
use Rattle.window_theory.specs.Care.{values_with, IsEvaluatedPart, HasRow, IsCareRow}
use Rattle.window_theory.specs.FixedLaws.{part_values}
use Rattle.window_theory.specs.PairLaws.{among_at}

-- the nodes are in the part
abbrev pub AreInside : (ℕ → Bool) → List ℕ → Type 0
AreInside inside nodes = (p : ℕ) → among nodes p ≡ true → inside p ≡ true

-- A row that occurs in a part is a care row.
pub row_shown : (n : Net) (nodes leaves : List ℕ) (given inside bits : ℕ → Bool) (t : ℕ) → IsNet n →
    ExpandsTo n nodes leaves → IsEvaluatedPart n (among leaves) given inside bits → AreInside inside nodes →
    HasRow bits nodes t → IsCareRow n nodes t
row_shown n nodes leaves given inside bits t net fanin_cone part within row =
    record {
      leaves = leaves;
      fanin_cone = fanin_cone;
      given = given;
      bits = λ i low. sym (part_values n (among leaves) given inside bits (slice_index_or nodes i 0) net part (within (slice_index_or nodes i 0) (among_at nodes i 0 low))) ∙ row i low;
    }

-- A care row occurs in each part whose leaves have the row's assignment.
pub row_found : (n : Net) (nodes leaves : List ℕ) (inside bits : ℕ → Bool) (t : ℕ) (care : IsCareRow n nodes t) →
    IsNet n → ExpandsTo n nodes leaves → IsEvaluatedPart n (among leaves) care.given inside bits →
    AreInside inside nodes → HasRow bits nodes t
row_found n nodes leaves inside bits t care net fanin_cone part within i low =
    let same : leaves ≡ care.leaves = leaves_one n nodes leaves care.leaves fanin_cone care.fanin_cone in
    part_values n (among leaves) care.given inside bits (slice_index_or nodes i 0) net part (within (slice_index_or nodes i 0) (among_at nodes i 0 low))
    ∙ ap (λ (ls : List ℕ). values_with n (among ls) care.given (slice_index_or nodes i 0)) same
    ∙ care.bits i low
