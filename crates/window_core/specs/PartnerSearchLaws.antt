-- How partners are found from the greatest on.
use Rattle.std.specs.Prelude.{◌≡◌, ℕ, ◌+◌, ◌-◌, ◌≤◌, ◌<◌, max, true, false, List, [], ◌∷◌, ◌++◌, length, slice_get, slice_index_or, Some, ◌⊎◌, refl}
use Rattle.std.proofs.Common.{arith, sym, ◌∙◌, ap, subst, inl, inr, ⊎_elim, ◌≢◌}
use Rattle.std.proofs.lemmas.Bool.{cases_eq, cases_lt}
use Rattle.std.proofs.lemmas.Option.{slice_get-get_or}
use Rattle.net_theory.specs.declared.data.Sig.{Sig}
use Rattle.net_theory.specs.declared.data.Sig.TheVariants as sigs
use Rattle.net_theory.specs.declared.data.Gate.{Gate}
use Rattle.net_theory.specs.Net.{Net, IsNet}
use Rattle.window_theory.specs.Nodes.{among, IsFalling, IsRising}
use Rattle.window_theory.specs.NodeLaws.{among_cases, among_first, among_later}
use Rattle.window_theory.specs.Paths.{IsGate, Reads}
use Rattle.window_theory.specs.Partner.{SharesBelow, ArePartners}
use Rattle.window_theory.specs.WindowLaws.{reads_low, gate_high}
use Rattle.window_core.specs.declared.fanouts.Nearest.{Nearest}
use Rattle.window_core.specs.Gates.{IsGateOf}
use Rattle.window_core.specs.Fanouts.{node_of, IsEarlier, IsEarlierOf, AreEarlier}
use Rattle.window_core.specs.PartnerSearch.{IsPartnerSearch}
use Rattle.window_core.specs.GrowingLaws.{reads_of, of_reads}
use Rattle.window_theory.specs.Limits.{most_partners}

-- ---- one more node at the end

pub among_end : (xs : List ℕ) (x q : ℕ) → among (xs ++ x ∷ []) q ≡ true → (among xs q ≡ true) ⊎ (q ≡ x)
among_end [] x q e = ⊎_elim (λ (own : q ≡ x). inr own) (λ later. absurd (let f : false ≡ true = later in cc)) (among_cases x q [] e)
among_end (y ∷ ys) x q e =
    ⊎_elim
    (λ (own : q ≡ y). inl (subst (λ (z : ℕ). among (z ∷ ys) q ≡ true) own (among_first q ys)))
    (λ later. ⊎_elim (λ there. inl (among_later y q ys there)) (λ same. inr same) (among_end ys x q later))
    (among_cases y q (ys ++ x ∷ []) e)

pub end_among : (xs : List ℕ) (x : ℕ) → among (xs ++ x ∷ []) x ≡ true
end_among [] x = among_first x []
end_among (y ∷ ys) x = among_later y x (ys ++ x ∷ []) (end_among ys x)

pub prefix_among : (xs : List ℕ) (x q : ℕ) → among xs q ≡ true → among (xs ++ x ∷ []) q ≡ true
prefix_among [] x q e = absurd (let f : false ≡ true = e in cc)
prefix_among (y ∷ ys) x q e =
    ⊎_elim
    (λ (own : q ≡ y). subst (λ (z : ℕ). among (z ∷ (ys ++ x ∷ [])) q ≡ true) own (among_first q (ys ++ x ∷ [])))
    (λ later. among_later y q (ys ++ x ∷ []) (prefix_among ys x q later))
    (among_cases y q ys e)

pub falling_end : (xs : List ℕ) (x : ℕ) → IsFalling xs → ((q : ℕ) → among xs q ≡ true → x < q) → IsFalling (xs ++ x ∷ [])
unfolding IsFalling
falling_end [] x falling low = (λ q e. absurd (let f : false ≡ true = e in cc), tt)
falling_end (y ∷ ys) x falling low = (
  λ q e. ⊎_elim (λ there. falling.0 q there) (λ (same : q ≡ x). omega (arith, same, low y (among_first y ys))) (among_end ys x q e),
  falling_end ys x falling.1 (λ q e. low q (among_later y q ys e)),
)

pub rising_end : (xs : List ℕ) (x : ℕ) → IsRising xs → ((q : ℕ) → among xs q ≡ true → q < x) → IsRising (xs ++ x ∷ [])
unfolding IsRising
rising_end [] x rising high = (λ q e. absurd (let f : false ≡ true = e in cc), tt)
rising_end (y ∷ ys) x rising high = (
  λ q e. ⊎_elim (λ there. rising.0 q there) (λ (same : q ≡ x). omega (arith, same, high y (among_first y ys))) (among_end ys x q e),
  rising_end ys x rising.1 (λ q e. high q (among_later y q ys e)),
)

-- ---- fanins

-- `node_of` of a signal is the node that it names
named : (s : Sig) (p : ℕ) → s ≡ sigs.Node p → node_of s ≡ p
named s p e = ap node_of e

-- a node above 0 is named by the signal whose node it is
names : (s : Sig) (p : ℕ) → node_of s ≡ p → 1 ≤ p → s ≡ sigs.Node p
names sigs.Zero p e some = absurd (omega (arith, e, some))
names sigs.One p e some = absurd (omega (arith, e, some))
names (sigs.Node q) p e some = ap sigs.Node e

-- ---- one step back

pub onward_stays : (n : Net) (bound node fanout found : ℕ) → IsEarlier n bound node fanout → fanout ≤ found → found < bound → fanout ≢ found → IsEarlier n found node fanout
onward_stays n bound node fanout found was low within other =
    record {
      found = ⊎_elim (λ none. inl none) (λ r. inr (r.0, omega (arith, low, other))) was.found;
      most = λ x r below. was.most x r (omega (arith, below, within));
    }

-- ---- the search

pub walk_start : (n : Net) (root : ℕ) (g : Gate) (e : Nearest) (partners : List ℕ) → IsGateOf n root g → IsEarlierOf n root g e → partners ≡ [] → IsPartnerSearch n root e.first e.second partners
unfolding IsFalling
walk_start n root g e partners is of none =
    subst (IsPartnerSearch n root e.first e.second) (sym none) (record {
      bound = root;
      gate = g;
      is = is;
      to = omega arith;
      falling = tt;
      from = λ q x. absurd (let f : false ≡ true = x in cc);
      share = λ q x. absurd (let f : false ≡ true = x in cc);
      all = λ h s. inr s.below;
      first = of.first;
      second = of.second;
    })

-- a fanout of an operand of the root below the bound shares it
shares : (n : Net) (root a b next found : ℕ) (partners : List ℕ) (w : IsPartnerSearch n root a b partners) (s : Sig) →
    IsNet n → ((p : ℕ) → s ≡ sigs.Node p → (w.gate.a ≡ sigs.Node p) ⊎ (w.gate.b ≡ sigs.Node p)) →
    IsEarlier n w.bound (node_of s) found → found ≡ next → next ≢ 0 → SharesBelow n root next × (next < w.bound)
shares n root a b next found partners w s net operand is same some =
    ⊎_elim
    (λ (none : found ≡ 0). absurd (some (omega (arith, none, same))))
    (λ r.
    let p : ℕ = node_of s in
    let reads : Reads n next p = subst (λ (y : ℕ). Reads n y p) same r.0 in
    let low = reads_low n next p net reads in
    let below : next < w.bound = omega (arith, same, r.1) in
    (record { below = omega (arith, below, w.to); shared = p; first = of_reads n root p w.gate w.is (operand p (names s p refl low.0)); second = reads }, below))
    is.found

-- the greater of the two fanouts
pub walk_next : (n : Net) (root a b next : ℕ) (partners : List ℕ) (w : IsPartnerSearch n root a b partners) → IsNet n → next ≡ max a b → next ≢ 0 → SharesBelow n root next × (next < w.bound)
walk_next n root a b next partners w net is some =
    ⊎_elim
    (λ (low : a < b). shares n root a b next b partners w w.gate.b net (λ p e. inr e) w.second (omega (arith, low, is)) some)
    (λ (high : b ≤ a). shares n root a b next a partners w w.gate.a net (λ p e. inl e) w.first (omega (arith, high, is)) some)
    (cases_lt a b)

-- a gate that shares a fanin with the root and is below the bound is at most the greater of the two fanouts
fanout_high : (n : Net) (root a b h : ℕ) (partners : List ℕ) (w : IsPartnerSearch n root a b partners) → SharesBelow n root h → h < w.bound → h ≤ max a b
fanout_high n root a b h partners w s low =
    ⊎_elim
    (λ first_is. let most : h ≤ a = w.first.most h (subst (Reads n h) (sym (named w.gate.a s.shared first_is)) s.second) low in omega (arith, most))
    (λ second_is. let most : h ≤ b = w.second.most h (subst (Reads n h) (sym (named w.gate.b s.shared second_is)) s.second) low in omega (arith, most))
    (reads_of n root s.shared w.gate w.is s.first)

pub walk_more : (n : Net) (root a b next x y first second : ℕ) (partners new : List ℕ)
    (w : IsPartnerSearch n root a b partners) → IsNet n → next ≡ max a b → next ≢ 0 → first ≡ node_of w.gate.a →
    second ≡ node_of w.gate.b
    → ((bound : ℕ) → IsEarlier n bound first a → a ≤ next → next < bound → IsEarlier n next first x) →
    ((bound : ℕ) → IsEarlier n bound second b → b ≤ next → next < bound → IsEarlier n next second y) →
    new ≡ partners ++ next ∷ [] → IsPartnerSearch n root x y new
walk_more n root a b next x y first second partners new w net is some first_is second_is on_a on_b new_is =
    let found = walk_next n root a b next partners w net is some in
    let a_next : IsEarlier n next first x = on_a w.bound (subst (λ (p : ℕ). IsEarlier n w.bound p a) (sym first_is) w.first) (omega (arith, is)) found.1 in
    let b_next : IsEarlier n next second y = on_b w.bound (subst (λ (p : ℕ). IsEarlier n w.bound p b) (sym second_is) w.second) (omega (arith, is)) found.1 in
    subst (IsPartnerSearch n root x y) (sym new_is) (record {
      bound = next;
      gate = w.gate;
      is = w.is;
      to = omega (arith, found.1, w.to);
      falling = falling_end partners next w.falling (λ q e. omega (arith, w.from q e, found.1));
      from = λ q e. ⊎_elim (λ there. omega (arith, w.from q there, found.1)) (λ (same : q ≡ next). omega (arith, same)) (among_end partners next q e);
      share = λ q e. ⊎_elim (λ there. w.share q there) (λ same. subst (SharesBelow n root) (sym same) found.0) (among_end partners next q e);
      all = λ h s.
          ⊎_elim
          (λ there. inl (prefix_among partners next h there))
          (λ low.
          let high : h ≤ max a b = fanout_high n root a b h partners w s low in
          ⊎_elim
          (λ (same : h ≡ next). inl (subst (λ (z : ℕ). among (partners ++ next ∷ []) z ≡ true) (sym same) (end_among partners next)))
          (λ other. inr (omega (arith, high, is, other)))
          (cases_eq h next))
          (w.all h s);
      first = subst (λ (p : ℕ). IsEarlier n next p x) first_is a_next;
      second = subst (λ (p : ℕ). IsEarlier n next p y) second_is b_next;
    })

pub walk_none : (n : Net) (root a b next count : ℕ) (partners : List ℕ) → IsPartnerSearch n root a b partners →
    next ≡ max a b → next ≡ 0 → length partners ≡ count → count ≤ most_partners → ArePartners n root partners
walk_none n root a b next count partners w is none size few =
    record {
      falling = w.falling;
      share = w.share;
      few = omega (arith, size, few);
      others = λ h s.
          ⊎_elim
          (λ there. inl there)
          (λ low. absurd (omega (arith, fanout_high n root a b h partners w s low, is, none, (gate_high n h s.second.fanout).0)))
          (w.all h s);
    }

pub walk_full : (n : Net) (root a b count : ℕ) (partners : List ℕ) → IsPartnerSearch n root a b partners → length partners ≡ count → count ≡ most_partners → ArePartners n root partners
walk_full n root a b count partners w size full =
    record {
      falling = w.falling;
      share = w.share;
      few = omega (arith, size, full);
      others = λ h s.
          ⊎_elim
          (λ there. inl there)
          (λ (low : h < w.bound). inr (omega (arith, size, full), λ q e. omega (arith, w.from q e, low)))
          (w.all h s);
    }

-- ---- looking up

pub earlier_code : (n : Net) (list : List Nearest) (node index : ℕ) (e : Nearest) → AreEarlier n list →
    index ≡ node - n.sources - 1 → index < length list → slice_get list index ≡ Some e → (g : Gate) →
    IsGateOf n node g → IsEarlierOf n node g e
earlier_code n list node index e are is low at g of =
    let same : of.index ≡ index = omega (arith, of.node, is) in
    subst (λ (p : ℕ). IsEarlierOf n p g e) (ap (λ (k : ℕ). n.sources + 1 + k) (sym same) ∙ of.node)
    (are.each index g e (ap (slice_get n.gates) (sym same) ∙ of.at) at)

pub earlier_at : (n : Net) (list items : List Nearest) (node sources : ℕ) (e : Nearest) → AreEarlier n list →
    items ≡ list → sources ≡ n.sources → IsGate n node → e ≡ slice_index_or items (node - sources - 1) e → (g : Gate) →
    IsGateOf n node g → IsEarlierOf n node g e
earlier_at n list items node sources e are same sources_is gate is =
    let high = gate_high n node gate in
    let low : node - sources - 1 < length items = omega (arith, high.0, high.1, sources_is, are.size, ap (length {A = Nearest}) same) in
    earlier_code n list node (node - sources - 1) e are (omega (arith, sources_is)) (omega (arith, low, ap (length {A = Nearest}) same))
    (ap (λ (xs : List Nearest). slice_get xs (node - sources - 1)) (sym same) ∙ slice_get-get_or items (node - sources - 1) e low ∙ ap Some (sym is))
