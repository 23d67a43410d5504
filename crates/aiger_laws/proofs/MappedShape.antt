-- The AND gates of a circuit: each is one variable after the sources and reads literals below its own; each gate of the
-- net adds at most one.
use Rattle.std.proofs.Common.{◌≡◌, ℕ, suc, ◌+◌, ◌-◌, ◌*◌, ◌/◌, ◌%◌, ◌≤◌, ◌<◌, Bool, true, false, List, [], ◌∷◌, ◌++◌, length, refl, ap, ◌∙◌, sym, subst, arith, length-append, inl, inr, ⊎_elim, ◌⊎◌}
use Rattle.std.specs.Prelude.{◌||◌, ◌==◌, nat_le, if◌then◌else◌, slice_get, slice_index_or, Some}
use Rattle.std.proofs.lemmas.Bool.{both_ways, cond_both, eqb-true, eq-eqb, cases_lt}
use Rattle.std.proofs.lemmas.List.{get_or_append_left, get_or_push}
use Rattle.net_theory.specs.declared.data.Sig.{Sig}
use Rattle.net_theory.specs.declared.data.Sig.TheVariants.{Zero, One, Node}
use Rattle.net_theory.specs.declared.data.Gate.{Gate}
use Rattle.net_theory.specs.Net.{IsSigBelow}
use Rattle.net_theory.specs.ValueLaws.{at_push}
use Rattle.aiger_text.specs.declared.file.AigGate.{AigGate}
use Rattle.aiger_core.specs.Written.{complement, flipped, sig_literal, Anded, next_literal, and_gate, with_and, without}
use Rattle.aiger_core.specs.Written.{anded, flipped_out, anded_with, is_and_word, operated, Mapped, mapped_by, with_node, mapped_from}
use Rattle.aiger_laws.proofs.MappedValues.{by_word, IsAndAt, here_and, node_gate}

-- one more than the greatest literal of the sources and gates
abbrev pub bound : ℕ → List AigGate → ℕ
bound sources gates = (sources + 1 + length gates) * 2

-- the gate is that of variable v, and its fanins are below it
pub record IsGateOf (v : ℕ) (g : AigGate) : Type 0 where
  pub literal : g.literal ≡ v * 2
  pub first : g.first < v * 2
  pub second : g.second < v * 2

-- no new gate, and a literal that is there; or a new gate, and its literal or the complement
abbrev pub Grows : ℕ → List AigGate → Anded → Type 0
Grows sources gates r = ((r.gates ≡ gates) × (r.literal < bound sources gates)) ⊎
    ((g : AigGate) × (r.gates ≡ gates ++ g ∷ []) × IsGateOf (sources + 1 + length gates) g × (r.literal / 2 ≡ sources + 1 + length gates))

pub even_or_odd : (lit : ℕ) → (complement lit ≡ lit + 1) × (lit % 2 ≡ 0) ⊎ (complement lit + 1 ≡ lit) × (lit % 2 ≡ 1)
even_or_odd lit =
    cond_both (lit % 2 == 0) (lit + 1) (lit - 1) (λ (c : ℕ). (c ≡ lit + 1) × (lit % 2 ≡ 0) ⊎ (c + 1 ≡ lit) × (lit % 2 ≡ 1))
    (λ e. inl (refl, eqb-true (lit % 2) 0 e))
    (λ e. let odd : lit % 2 ≡ 1 = odd_of lit e in inr (omega (arith, odd), odd)) where
      odd_of : (lit : ℕ) → (lit % 2 == 0) ≡ false → lit % 2 ≡ 1
      odd_of lit e = ⊎_elim (λ low. absurd (let zero : lit % 2 ≡ 0 = omega (arith, low) in both_ways (lit % 2 == 0) e (eq-eqb (lit % 2) 0 zero))) (λ high. omega (arith, high)) (cases_lt (lit % 2) 1)

-- a complement is a literal of the same variable
pub complement_half : (lit : ℕ) → complement lit / 2 ≡ lit / 2
complement_half lit = ⊎_elim (λ even. omega (arith, even.0, even.1)) (λ odd. omega (arith, odd.0, odd.1)) (even_or_odd lit)

pub complement_below : (lit k : ℕ) → lit < k * 2 → complement lit < k * 2
complement_below lit k low = ⊎_elim (λ even. omega (arith, low, even.0, even.1)) (λ odd. omega (arith, low, odd.0)) (even_or_odd lit)

flipped_below : (b : Bool) (lit k : ℕ) → lit < k * 2 → flipped b lit < k * 2
flipped_below true lit k low = complement_below lit k low
flipped_below false lit k low = low

flipped_half : (b : Bool) (lit : ℕ) → flipped b lit / 2 ≡ lit / 2
flipped_half true lit = complement_half lit
flipped_half false lit = refl

and_gate_is : (v lit a b : ℕ) → lit ≡ v * 2 → a < v * 2 → b < v * 2 → IsGateOf v (and_gate lit a b)
and_gate_is v lit a b place low_a low_b =
    cond_both (nat_le b a) (record { literal = lit; first = a; second = b }) (record { literal = lit; first = b; second = a }) (IsGateOf v)
    (λ e. record { literal = place; first = low_a; second = low_b })
    (λ e. record { literal = place; first = low_b; second = low_a })

anded_grows : (s : ℕ) (gates : List AigGate) (a b : ℕ) → a < bound s gates → b < bound s gates → Grows s gates (anded s gates a b)
unfolding anded
anded_grows s gates a b low_a low_b =
    cond_both (a == 0 || b == 0 || a == complement b) (without gates 0) (if a == 1 then without gates b else (if b == 1 || a == b then without gates a else with_and s gates a b)) (Grows s gates)
    (λ e. inl (refl, omega arith))
    (λ e. cond_both (a == 1) (without gates b) (if b == 1 || a == b then without gates a else with_and s gates a b) (Grows s gates)
    (λ one. inl (refl, low_b))
    (λ other. cond_both (b == 1 || a == b) (without gates a) (with_and s gates a b) (Grows s gates)
    (λ e1. inl (refl, low_a))
    (λ e1. let place : next_literal s gates ≡ (s + 1 + length gates) * 2 = omega arith in
    let half : next_literal s gates / 2 ≡ s + 1 + length gates = omega (arith, place) in
    inr (and_gate (next_literal s gates) a b, refl, and_gate_is (s + 1 + length gates) (next_literal s gates) a b place low_a low_b, half))))

flipped_grows : (b : Bool) (s : ℕ) (gates : List AigGate) (r : Anded) → Grows s gates r → Grows s gates (flipped_out b r)
flipped_grows b s gates r (inl same) = inl (same.0, flipped_below b r.literal (s + 1 + length gates) same.1)
flipped_grows b s gates r (inr more) = inr (more.0, more.1, more.2, flipped_half b r.literal ∙ more.3)

with_grows : (s : ℕ) (gates : List AigGate) (a b : ℕ) (fa fb f : Bool) → a < bound s gates → b < bound s gates → Grows s gates (anded_with s gates a b fa fb f)
with_grows s gates a b fa fb f low_a low_b =
    flipped_grows f s gates (anded s gates (flipped fa a) (flipped fb b))
    (anded_grows s gates (flipped fa a) (flipped fb b) (flipped_below fa a (s + 1 + length gates) low_a) (flipped_below fb b (s + 1 + length gates) low_b))

abbrev OperatedGrows : ℕ → List AigGate → ℕ → ℕ → ℕ → Type 0
OperatedGrows s gates a b op = Grows s gates (operated s gates op a b)

pub operated_grows : (s : ℕ) (gates : List AigGate) (a b op : ℕ) → is_and_word op ≡ true → a < bound s gates → b < bound s gates → OperatedGrows s gates a b op
unfolding operated
operated_grows s gates a b op word low_a low_b =
    by_word (OperatedGrows s gates a b)
    (with_grows s gates a b false false false low_a low_b)
    (with_grows s gates a b false true false low_a low_b)
    (with_grows s gates a b true false false low_a low_b)
    (with_grows s gates a b true true false low_a low_b)
    (with_grows s gates a b false false true low_a low_b)
    (with_grows s gates a b false true true low_a low_b)
    (with_grows s gates a b true false true low_a low_b)
    (with_grows s gates a b true true true low_a low_b)
    (inl (refl, low_a))
    (inl (refl, low_b))
    (inl (refl, complement_below a (s + 1 + length gates) low_a))
    (inl (refl, complement_below b (s + 1 + length gates) low_b))
    (inl (refl, omega arith))
    (inl (refl, omega arith))
    op word

-- ---- nets

-- the state after the gates before `node`: at most `spent` gates, in order; and the literals of the nodes
pub record IsShaped (s node spent : ℕ) (m : Mapped) : Type 0 where
  pub gates : (i : ℕ) (g : AigGate) → slice_get m.gates i ≡ Some g → IsGateOf (s + 1 + i) g
  pub count : length m.literals ≡ node
  pub literals : (p : ℕ) → p < node → slice_index_or m.literals p 0 < bound s m.gates
  pub few : length m.gates ≤ spent

sig_below : (s node spent : ℕ) (m : Mapped) (sig : Sig) → IsShaped s node spent m → IsSigBelow node sig → sig_literal m.literals sig < bound s m.gates
sig_below s node spent m Zero is below = omega arith
sig_below s node spent m One is below = omega arith
sig_below s node spent m (Node p) is below = is.literals p below.1

pub sig_bounded : (s node spent : ℕ) (m : Mapped) (sig : Sig) → IsShaped s node spent m → IsSigBelow node sig → sig_literal m.literals sig < bound s m.gates
sig_bounded = sig_below

-- a literal more
literals_push : (node k : ℕ) (literals : List ℕ) (lit : ℕ) → length literals ≡ node → ((p : ℕ) → p < node → slice_index_or literals p 0 < k) → lit < k →
    (p : ℕ) → p < node + 1 → slice_index_or (literals ++ lit ∷ []) p 0 < k
literals_push node k literals lit count low new p high =
    ⊎_elim
    (λ before. subst (λ (n : ℕ). n < k) (sym (get_or_append_left literals (lit ∷ []) 0 p (omega (arith, before, count)))) (low p before))
    (λ last. let same : length literals ≡ p = omega (arith, last, high, count) in subst (λ (n : ℕ). n < k) (sym (get_or_push literals lit 0 p same)) new)
    (cases_lt p node)

shaped_same : (s node spent : ℕ) (m : Mapped) (r : Anded) → IsShaped s node spent m → r.gates ≡ m.gates → r.literal < bound s m.gates →
    IsShaped s (node + 1) (spent + 1) (mapped_by m.literals r)
shaped_same s node spent m r is same low = record {
  gates = λ i g at. is.gates i g (ap (λ (gs : List AigGate). slice_get gs i) (sym same) ∙ at);
  count = length-append m.literals (r.literal ∷ []) ∙ ap (λ (n : ℕ). n + 1) is.count;
  literals = subst (λ (gs : List AigGate). (p : ℕ) → p < node + 1 → slice_index_or (m.literals ++ r.literal ∷ []) p 0 < bound s gs) (sym same)
      (literals_push node (bound s m.gates) m.literals r.literal is.count is.literals low);
  few = subst (λ (gs : List AigGate). length gs ≤ spent + 1) (sym same) (omega (arith, is.few));
}

gate_pushed : (s : ℕ) (gates : List AigGate) (h : AigGate) → ((i : ℕ) (g : AigGate) → slice_get gates i ≡ Some g → IsGateOf (s + 1 + i) g) →
    IsGateOf (s + 1 + length gates) h → (i : ℕ) (g : AigGate) → slice_get (gates ++ h ∷ []) i ≡ Some g → IsGateOf (s + 1 + i) g
gate_pushed s gates h each new i g at =
    ⊎_elim
    (λ old. each i g old)
    (λ last. subst (IsGateOf (s + 1 + i)) last.1 (subst (λ (n : ℕ). IsGateOf (s + 1 + n) h) (sym last.0) new))
    (at_push gates h g i at)

shaped_more : (s node spent : ℕ) (m : Mapped) (r : Anded) (h : AigGate) → IsShaped s node spent m → r.gates ≡ m.gates ++ h ∷ [] →
    IsGateOf (s + 1 + length m.gates) h → r.literal / 2 ≡ s + 1 + length m.gates → IsShaped s (node + 1) (spent + 1) (mapped_by m.literals r)
shaped_more s node spent m r h is same new half =
    let size : length (m.gates ++ h ∷ []) ≡ length m.gates + 1 = length-append m.gates (h ∷ []) in
    let wide : bound s (m.gates ++ h ∷ []) ≡ bound s m.gates + 2 = omega (arith, size) in
    record {
      gates = subst (λ (gs : List AigGate). (i : ℕ) (g : AigGate) → slice_get gs i ≡ Some g → IsGateOf (s + 1 + i) g) (sym same)
          (gate_pushed s m.gates h is.gates new);
      count = length-append m.literals (r.literal ∷ []) ∙ ap (λ (n : ℕ). n + 1) is.count;
      literals = subst (λ (gs : List AigGate). (p : ℕ) → p < node + 1 → slice_index_or (m.literals ++ r.literal ∷ []) p 0 < bound s gs) (sym same)
          (literals_push node (bound s (m.gates ++ h ∷ [])) m.literals r.literal is.count
          (λ p low. omega (arith, is.literals p low, wide)) (omega (arith, half, size)));
      few = subst (λ (gs : List AigGate). length gs ≤ spent + 1) (sym same) (omega (arith, is.few, size));
    }

abbrev pub node_grows : ℕ → Mapped → Gate → Type 0
node_grows s m g = Grows s m.gates (node_gate s m g)

pub node_grown : (s node spent : ℕ) (m : Mapped) (g : Gate) → IsShaped s node spent m → IsAndAt node g → node_grows s m g
node_grown s node spent m g is good =
    operated_grows s m.gates (sig_literal m.literals g.a) (sig_literal m.literals g.b) g.op good.word
    (sig_below s node spent m g.a is good.gate.first) (sig_below s node spent m g.b is good.gate.second)

pub shaped_by : (s node spent : ℕ) (m : Mapped) (r : Anded) → IsShaped s node spent m → Grows s m.gates r → IsShaped s (node + 1) (spent + 1) (mapped_by m.literals r)
shaped_by s node spent m r is (inl same) = shaped_same s node spent m r is same.0 same.1
shaped_by s node spent m r is (inr more) = shaped_more s node spent m r more.0 is more.1 more.2 more.3

abbrev pub AreAndsAt : ℕ → List Gate → Type 0
AreAndsAt node gs = (i : ℕ) (g : Gate) → slice_get gs i ≡ Some g → IsAndAt (node + i) g

pub later_ands : (node : ℕ) (g : Gate) (gs : List Gate) → AreAndsAt node (g ∷ gs) → AreAndsAt (node + 1) gs
later_ands node g gs good i h at = let place : node + suc i ≡ node + 1 + i = omega arith in subst (λ (n : ℕ). IsAndAt n h) place (good (suc i) h at)

pub mapped_shaped : (s node spent : ℕ) (m : Mapped) (gs : List Gate) → IsShaped s node spent m → AreAndsAt node gs →
    IsShaped s (node + length gs) (spent + length gs) (mapped_from s m gs)
unfolding mapped_from
mapped_shaped s node spent m [] is good =
    let nodes : node ≡ node + 0 = omega arith in
    let spents : spent ≡ spent + 0 = omega arith in
    subst (λ (n : ℕ). IsShaped s n (spent + 0) m) nodes (subst (λ (k : ℕ). IsShaped s node k m) spents is)
mapped_shaped s node spent m (g ∷ gs) is good =
    let next : IsShaped s (node + 1) (spent + 1) (with_node s m g) = shaped_by s node spent m (node_gate s m g) is (node_grown s node spent m g is (here_and node g (good 0 g refl))) in
    let rest = mapped_shaped s (node + 1) (spent + 1) (with_node s m g) gs next (later_ands node g gs good) in
    let nodes : node + 1 + length gs ≡ node + suc (length gs) = omega arith in
    let spents : spent + 1 + length gs ≡ spent + suc (length gs) = omega arith in
    subst (λ (n : ℕ). IsShaped s n (spent + suc (length gs)) (mapped_from s (with_node s m g) gs)) nodes
    (subst (λ (n : ℕ). IsShaped s (node + 1 + length gs) n (mapped_from s (with_node s m g) gs)) spents rest)
