-- A signal with the signature of a node is functionally equal to it.
use Rattle.std.specs.Prelude.{◌≡◌, ℕ, ◌+◌, ◌-◌, ◌*◌, ◌/◌, ◌%◌, ◌^◌, ◌≤◌, ◌<◌, Bool, true, false, List, [], ◌∷◌, ◌++◌, length, slice_get, Option, Some, IfSome}
use Rattle.std.proofs.Common.{arith, sym, ◌∙◌, ap, subst, ⊎_elim, suc-mul, mul-le-mul_right, length-append}
use Rattle.std.proofs.lemmas.Option.{slice_get_within}
use Rattle.chain_theory.specs.Operator.{digit}
use Rattle.chain_theory.specs.Rows.{row_of, row_low}
use Rattle.op_basis.specs.WordOperatorLaws.{digit_spread}
use Rattle.net_theory.specs.declared.data.Sig.{Sig}
use Rattle.net_theory.specs.declared.data.Sig.TheVariants.{Zero, One, Node}
use Rattle.net_theory.specs.Net.{Net, IsNet, IsSigBelow, end_of, sig_value, value}
use Rattle.net_theory.specs.ValueLaws.{at_push}
use Rattle.lane_sim.specs.Cone.{nodes, value_in}
use Rattle.lane_sim.specs.Words.{Words, AreWords, width_of}
use Rattle.merge_core.specs.Whole.{cone_of}
use Rattle.merge_core.specs.WholeLaws.{count_at, count_length, whole_nodes, whole_value}
use Rattle.merge_core.specs.Representatives.{word_of, IsRepresentativeIn, HaveRepresentatives, IsRepresentative, AreRepresentatives}
use Rattle.net_theory.specs.Limits.{most_leaves}

-- ---- the order of signatures

row_ends : (k count width : ℕ) → k < count → k * width + width ≤ count * width
row_ends k count width low = omega (arith, suc-mul k width, mul-le-mul_right width low)

-- the signature of a node lies within the words
pub row_within : (p count width : ℕ) → 1 ≤ p → p ≤ count → (p - 1) * width + width ≤ count * width
row_within p count width some low = row_ends (p - 1) count width (omega (arith, some, low))

-- ---- bits

node_at : (n : Net) (p : ℕ) → 1 ≤ p → p < end_of n → slice_get (nodes (cone_of n)) (p - 1) ≡ Some p
node_at n p some within =
    let here : 1 + (p - 1) ≡ p = omega (arith, some) in
    ap (λ (ps : List ℕ). slice_get ps (p - 1)) (whole_nodes n)
    ∙ count_at 1 (n.sources + length n.gates) (p - 1) (omega (arith, some, within))
    ∙ ap Some here

-- a bit of a signal's signature is its value under an assignment
signal_bit : (n : Net) (w : Words) (given : ℕ → Bool) (s : Sig) (j b : ℕ) → IsNet n → n.sources ≤ most_leaves →
    AreWords (cone_of n) w → 64 * j + b ≡ row_of n.sources given → b < 64 → row_of n.sources given < w.rows →
    IsSigBelow (end_of n) s → digit (word_of w.lanes (width_of w.rows) s j) b ≡ sig_value (value n given) s
signal_bit n w given Zero j b net few words row low within below = digit_spread false b low
signal_bit n w given One j b net few words row low within below = digit_spread true b low
signal_bit n w given (Node p) j b net few words row low within below =
    words.values (p - 1) p j b (node_at n p below.0 below.1) low (omega (arith, row, within))
    ∙ ap (λ (r : ℕ). value_in (cone_of n) r p) row
    ∙ whole_value n given p net few below.0 below.1

all_rows : (n : Net) (w : Words) → AreWords (cone_of n) w → w.rows ≡ 2 ^ n.sources
all_rows n w words = words.rows ∙ ap (λ (k : ℕ). 2 ^ k) (count_length 1 n.sources)

below_end : (node end : ℕ) (s : Sig) → node ≤ end → IsSigBelow node s → IsSigBelow end s
below_end node end Zero low below = tt
below_end node end One low below = tt
below_end node end (Node p) low below = (below.0, omega (arith, low, below.1))

-- Each assignment has a bit in the signature, so equal signatures mean equal values under every assignment.
pub words_representative : (n : Net) (w : Words) (node : ℕ) (s : Sig) → IsNet n → n.sources ≤ most_leaves →
    AreWords (cone_of n) w → 1 ≤ node → node < end_of n → IsRepresentativeIn w.lanes (width_of w.rows) node s →
    IsRepresentative n node s
words_representative n w node s net few words some within is = record {
  below = is.below;
  same = λ given.
      let row : ℕ = row_of n.sources given in
      let low : row < w.rows = subst (λ (r : ℕ). row < r) (sym (all_rows n w words)) (row_low given n.sources) in
      let whole : 64 * (row / 64) + row % 64 ≡ row = omega arith in
      sym (signal_bit n w given s (row / 64) (row % 64) net few words whole (omega arith) low (below_end node (end_of n) s (omega (arith, within)) is.below))
      ∙ ap (λ (x : ℕ). digit x (row % 64)) (is.same (row / 64) (omega (arith, low)))
      ∙ signal_bit n w given (Node node) (row / 64) (row % 64) net few words whole (omega arith) low (some, within);
}

-- ---- all nodes

-- one more node
pub words_more : (lanes : List ℕ) (width node : ℕ) (representatives new : List (Option Sig)) (o : Option Sig) →
    HaveRepresentatives lanes width node representatives → IfSome o (IsRepresentativeIn lanes width node) → 1 ≤ node →
    new ≡ representatives ++ o ∷ [] → HaveRepresentatives lanes width (node + 1) new
words_more lanes width node representatives new o have is some more = record {
  count = omega (arith, have.count, ap (length {A = Option Sig}) more, length-append representatives (o ∷ []));
  each = λ p s at. ⊎_elim
      (λ was. have.each p s was)
      (λ last.
      let here : node ≡ p = omega (arith, last.0, have.count) in
      subst (λ (q : ℕ). (1 ≤ q) × IsRepresentativeIn lanes width q s) here (some, subst (λ (x : Option Sig). IfSome x (IsRepresentativeIn lanes width node)) last.1 is))
      (at_push representatives o (Some s) p (ap (λ (xs : List (Option Sig)). slice_get xs p) (sym more) ∙ at));
}

nodes_count : (n : Net) → length (nodes (cone_of n)) ≡ n.sources + length n.gates
nodes_count n = ap (length {A = ℕ}) (whole_nodes n) ∙ count_length 1 (n.sources + length n.gates)

same_width : (n : Net) (w : Words) (width sources : ℕ) → AreWords (cone_of n) w → sources ≡ n.sources → width ≡ width_of (2 ^ sources) → width ≡ width_of w.rows
same_width n w width sources words same is =
    is ∙ ap (λ (k : ℕ). width_of (2 ^ k)) same ∙ ap (λ (r : ℕ). width_of r) (sym (all_rows n w words))

pub words_room : (n : Net) (w : Words) (lanes : List ℕ) (end width sources : ℕ) → AreWords (cone_of n) w →
    end ≡ end_of n → sources ≡ n.sources → width ≡ width_of (2 ^ sources) → lanes ≡ w.lanes →
    (end - 1) * width ≤ length lanes
words_room n w lanes end width sources words last same is own =
    let count : length (nodes (cone_of n)) ≡ end - 1 = omega (arith, last, nodes_count n) in
    let size : length lanes ≡ (end - 1) * width =
    ap (length {A = ℕ}) own
    ∙ words.size
    ∙ ap (λ (k : ℕ). k * width_of w.rows) count
    ∙ ap (λ (k : ℕ). (end - 1) * k) (sym (same_width n w width sources words same is)) in
    omega (arith, size)

pub representatives_all : (n : Net) (w : Words) (lanes : List ℕ) (end width sources : ℕ)
    (representatives : List (Option Sig)) → IsNet n → n.sources ≤ most_leaves → AreWords (cone_of n) w → end ≡ end_of n →
    sources ≡ n.sources → width ≡ width_of (2 ^ sources) → lanes ≡ w.lanes →
    HaveRepresentatives lanes width end representatives → AreRepresentatives n representatives
representatives_all n w lanes end width sources representatives net few words last same is own have = record {
  count = have.count ∙ last;
  each = λ p s at.
      let found = have.each p s at in
      words_representative n w p s net few words found.0 (omega (arith, slice_get_within representatives p (Some s) at, have.count, last))
      (subst (λ (k : ℕ). IsRepresentativeIn w.lanes k p s) (same_width n w width sources words same is)
      (subst (λ (ls : List ℕ). IsRepresentativeIn ls width p s) own found.1));
}
