-- Tables by the number of their inputs.
use Rattle.std.proofs.Common.{◌≡◌, ℕ, suc, ◌+◌, ◌<◌, ◌^◌, List, [], ◌∷◌, length, map, refl, sym, subst, arith}
use Rattle.std.specs.List.{All}
use Rattle.std.proofs.lemmas.Grind.{common_steps}
use Rattle.net_theory.specs.declared.data.Sig.{Sig}
use Rattle.net_theory.specs.declared.data.Gate.{Gate}
use Rattle.net_theory.specs.Net.{Net, IsNet, IsSigBelow, end_of, sig_value, values_of}
use Rattle.net_theory.specs.ValueLaws.{below_later}
use Rattle.net_theory.specs.NameLaws.{all_at, at_all}
use Rattle.net_theory.specs.BuiltLaws.{IsBuilt}
use Rattle.net_theory.specs.WideLaws.{AreSigsBelow}
use Rattle.net_theory.specs.ExpansionLaws.{expanded_is}
use Rattle.net_core.specs.Growing.{built}
use Rattle.net_theory.specs.Cover.{Cover, IsCover, cover_value}
use Rattle.net_theory.specs.Cost.{cover_cost, wide_cost}
use Rattle.net_theory.specs.Expansion.{wide_built, expanded}

-- more than two inputs
pub cover_cost-wide : (c : Cover) (inputs : List Sig) → 2 < length inputs → cover_cost c inputs ≡ wide_cost c
cover_cost-wide c [] many = absurd (omega arith)
cover_cost-wide c (a ∷ []) many = absurd (omega arith)
cover_cost-wide c (a ∷ b ∷ []) many = absurd (omega arith)
cover_cost-wide c (a ∷ b ∷ d ∷ inputs) many = refl

pub expanded-wide : (sources : ℕ) (gates : List Gate) (c : Cover) (inputs : List Sig) → 2 < length inputs → expanded sources gates c inputs ≡ wide_built sources gates c inputs
expanded-wide sources gates c [] many = absurd (omega arith)
expanded-wide sources gates c (a ∷ []) many = absurd (omega arith)
expanded-wide sources gates c (a ∷ b ∷ []) many = absurd (omega arith)
expanded-wide sources gates c (a ∷ b ∷ d ∷ inputs) many = refl

pub ruleset tables = (common_steps, cover_cost-wide, expanded-wide)

-- ---- appending to a net

sigs_below : (node : ℕ) (ss : List Sig) → All (IsSigBelow node) ss → AreSigsBelow node ss
sigs_below node [] all = tt
sigs_below node (s ∷ ss) all = (all 0 s (omega arith), sigs_below node ss (λ k d low. all (suc k) d (omega arith)))

-- expanding a table satisfies `IsBuilt`
pub expanded_built : (n : Net) (c : Cover) (inputs : List Sig) (new : List Gate) (sig : Sig) → IsNet n → IsCover c →
    c.width ≡ length inputs → All (IsSigBelow (end_of n)) inputs →
    built new sig ≡ expanded n.sources n.gates c inputs →
    IsBuilt n.sources n.gates (cover_cost c inputs) (λ given.
    cover_value c (map (sig_value (values_of given n.sources n.gates)) inputs)) (built new sig)
expanded_built n c inputs new sig net is wide below e =
    subst (IsBuilt n.sources n.gates (cover_cost c inputs) (λ given.
    cover_value c (map (sig_value (values_of given n.sources n.gates)) inputs))) (sym e)
    (expanded_is n.sources n.gates c inputs net.gates (sigs_below (end_of n) inputs below) is wide)

-- and the net stays valid
pub expanded_net : (n : Net) (c : Cover) (inputs : List Sig) (new : List Gate) (sig : Sig) → IsNet n → IsCover c →
    c.width ≡ length inputs → All (IsSigBelow (end_of n)) inputs →
    n.sources + length n.gates + cover_cost c inputs < 2 ^ 31 → built new sig ≡ expanded n.sources n.gates c inputs →
    IsNet (record { sources = n.sources; gates = new; sinks = n.sinks })
expanded_net n c inputs new sig net is wide below room e =
    let b : IsBuilt n.sources n.gates (cover_cost c inputs) (λ given.
    cover_value c (map (sig_value (values_of given n.sources n.gates)) inputs)) (built new sig) =
    expanded_built n c inputs new sig net is wide below e in
    record {
      gates = b.grown.gates;
      sinks = at_all (IsSigBelow (n.sources + 1 + length new)) n.sinks (λ k s at.
          below_later s (end_of n) (n.sources + 1 + length new) (omega (arith, b.grown.longer))
          (all_at (IsSigBelow (end_of n)) n.sinks k s net.sinks at));
      nodes = omega (arith, b.count, room);
    }
