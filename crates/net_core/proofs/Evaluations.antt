-- Simulation writes the bits of nodes one by one.
use Rattle.std.proofs.Common.{◌≡◌, ◌≢◌, ℕ, suc, ◌+◌, ◌-◌, ◌<◌, Bool, false, List, [], ◌∷◌, length, set, get_or, add-zero, refl, ◌∙◌, ap, sym, subst, arith, ⊎_elim, ◌==◌}
use Rattle.std.specs.List.{slice_get}
use Rattle.std.proofs.lemmas.Bool.{cases_eq, cond-false, ne_eqb}
use Rattle.std.proofs.lemmas.List.{get_or-set_same, get_or-set_other}
use Rattle.chain_theory.specs.Value.{extended}
use Rattle.chain_theory.specs.ValueLaws.{extended-same, extended-other}
use Rattle.net_theory.specs.declared.data.Gate.{Gate}
use Rattle.net_core.specs.Marks.{AreAt}
use Rattle.net_theory.specs.Net.{IsGateAt, bit_of, gate_value, values_after}

bit_some : (bits : List Bool) (p : ℕ) → p ≢ 0 → bit_of bits p ≡ get_or bits (p - 1) false
bit_some bits p some = cond-false (p == 0) false (get_or bits (p - 1) false) (ne_eqb p 0 some)

bit_of-set_at : (bits : List Bool) (node : ℕ) (v : Bool) (p : ℕ) → node < length bits → bit_of (set bits node v) p ≡ extended (bit_of bits) (node + 1) v p
bit_of-set_at bits node v p low =
    ⊎_elim
    (λ zero_. subst (λ (q : ℕ). bit_of (set bits node v) q ≡ extended (bit_of bits) (node + 1) v q) (sym zero_) (sym (extended-other (bit_of bits) (node + 1) 0 v (omega arith))))
    (λ some. ⊎_elim
    (λ here. let at : p - 1 ≡ node = omega arith in bit_some (set bits node v) p some
    ∙ ap (λ (k : ℕ). get_or (set bits node v) k false) at ∙ get_or-set_same bits node v false low
    ∙ sym (extended-same (bit_of bits) (node + 1) p v here))
    (λ other. bit_some (set bits node v) p some ∙ get_or-set_other bits node (p - 1) v false
    (omega (arith, some, other)) ∙ sym (bit_some bits p some)
    ∙ sym (extended-other (bit_of bits) (node + 1) p v other))
    (cases_eq p (node + 1)))
    (cases_eq p 0)

-- one write sets the bit of one node
pub bit_of-set : (bits : List Bool) (node : ℕ) (v : Bool) → node < length bits → bit_of (set bits node v) ≡ extended (bit_of bits) (node + 1) v
bit_of-set bits node v low = λ i p. bit_of-set_at bits node v p low i

-- the operands of the first gate are below it
pub first_at : (node : ℕ) (gs rest : List Gate) (g : Gate) → gs ≡ g ∷ rest → AreAt node gs → IsGateAt node g
first_at node gs rest g e are = subst (λ (q : ℕ). IsGateAt q g) (add-zero node) (are.each 0 g (ap (λ (xs : List Gate). slice_get xs 0) e))

-- and so are the others
pub rest_at : (node : ℕ) (gs rest : List Gate) (g : Gate) → gs ≡ g ∷ rest → AreAt node gs → AreAt (node + 1) rest
rest_at node gs rest g e are =
    record {
      each = λ i h at. let shift : node + suc i ≡ (node + 1) + i = omega arith in
          subst (λ (q : ℕ). IsGateAt q h) shift (are.each (suc i) h (ap (λ (xs : List Gate). slice_get xs (suc i)) e
          ∙ at));
    }

-- without gates no bit is set
pub values_after-none : (bits : ℕ → Bool) (node : ℕ) (gs : List Gate) → length gs ≡ 0 → values_after bits node gs ≡ bits
unfolding values_after
values_after-none bits node [] e = refl
values_after-none bits node (g ∷ gs) e = absurd (omega arith)

-- the first gate's bit is written
pub values_after-write : (bits : List Bool) (node : ℕ) (gs rest : List Gate) (g : Gate) (v : Bool) → gs ≡ g ∷ rest →
    node < length bits → v ≡ gate_value (bit_of bits) g → values_after (bit_of (set bits node v)) (node + 1 + 1) rest ≡
    values_after (bit_of bits) (node + 1) gs
unfolding values_after
values_after-write bits node gs rest g v e low is =
    ap (λ (f : ℕ → Bool). values_after f (node + 1 + 1) rest) (bit_of-set bits node v low)
    ∙ ap (λ (x : Bool). values_after (extended (bit_of bits) (node + 1) x) (node + 1 + 1) rest) is
    ∙ ap (values_after (bit_of bits) (node + 1)) (sym e)
