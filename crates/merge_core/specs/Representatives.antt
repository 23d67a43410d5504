-- The representatives of nodes: functionally equal signals.
use Rattle.std.specs.Prelude.{◌≡◌, ℕ, ◌+◌, ◌-◌, ◌*◌, ◌≤◌, ◌<◌, Bool, List, length, slice_get, slice_index_or, Option, Some}
use Rattle.net_theory.specs.declared.data.Sig.{Sig}
use Rattle.net_theory.specs.declared.data.Sig.TheVariants.{Zero, One, Node}
use Rattle.net_theory.specs.Net.{Net, IsSigBelow, end_of, sig_value, value}

-- word j of a signal's signature; the nodes' signatures follow one another, node 1 first
abbrev pub word_of : List ℕ → ℕ → Sig → ℕ → ℕ
word_of lanes width Zero j = 0
word_of lanes width One j = 18446744073709551615
word_of lanes width (Node p) j = slice_index_or lanes ((p - 1) * width + j) 0

-- two signals have the same signature
abbrev pub HaveSameWords : List ℕ → ℕ → Sig → Sig → Type 0
HaveSameWords lanes width s t = (j : ℕ) → j < width → word_of lanes width s j ≡ word_of lanes width t j

-- s is a constant or an earlier node, with the signature of the node `node`
pub record IsRepresentativeIn (lanes : List ℕ) (width node : ℕ) (s : Sig) : Type 0 where
  pub below : IsSigBelow node s
  pub same : HaveSameWords lanes width s (Node node)

-- for each node below `end` a constant or an earlier node with the same signature, or none
pub record HaveRepresentatives (lanes : List ℕ) (width end : ℕ) (representatives : List (Option Sig)) : Type 0 where
  pub count : length representatives ≡ end
  pub each : (p : ℕ) (s : Sig) → slice_get representatives p ≡ Some (Some s) → (1 ≤ p) × IsRepresentativeIn lanes width p s

-- s is a constant or an earlier node that is functionally equal to the node: it has the same value under every
-- assignment of the sources.
-- Example: if the nodes 3 and 4 are both XOR of 1 and 2, the first represents the second.
pub record IsRepresentative (n : Net) (node : ℕ) (s : Sig) : Type 0 where
  pub below : IsSigBelow node s
  pub same : (given : ℕ → Bool) → sig_value (value n given) s ≡ value n given node

-- for each node a representative, or none
pub record AreRepresentatives (n : Net) (representatives : List (Option Sig)) : Type 0 where
  pub count : length representatives ≡ end_of n
  pub each : (p : ℕ) (s : Sig) → slice_get representatives p ≡ Some (Some s) → IsRepresentative n p s
