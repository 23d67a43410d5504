-- Gates with the same key have the same value: structural hashing is sound.
use Rattle.std.specs.Prelude.{◌≡◌, ℕ, ◌+◌, ◌-◌, ◌==◌, nat_le, if◌then◌else◌, Bool, true, false, refl}
use Rattle.std.proofs.Common.{arith, sym, ◌∙◌, ap}
use Rattle.std.proofs.lemmas.Bool.{cond_both, cond-false, ne_eqb}
use Rattle.chain_theory.specs.Operator.{apply}
use Rattle.op_basis.specs.Closed.{swapped}
use Rattle.op_basis.specs.Laws.{operator_values}
use Rattle.net_theory.specs.declared.data.Sig.{Sig}
use Rattle.net_theory.specs.declared.data.Sig.TheVariants.{Zero, One, Node}
use Rattle.net_theory.specs.declared.data.Gate.{Gate}
use Rattle.net_theory.specs.Net.{sig_value, gate_value}
use Rattle.merge_core.specs.declared.key.StrashKey.{StrashKey}
use Rattle.merge_core.specs.StrashKey.{code, key_of}

-- the value of a signal by its number
abbrev code_value : (ℕ → Bool) → ℕ → Bool
code_value bits k = if k == 0 then false else if k == 1 then true else bits (k - 2)

abbrev key_value : (ℕ → Bool) → StrashKey → Bool
key_value bits f = apply f.word (code_value bits f.low) (code_value bits f.high)

code_is : (bits : ℕ → Bool) (s : Sig) → code_value bits (code s) ≡ sig_value bits s
code_is bits Zero = refl
code_is bits One = refl
code_is bits (Node p) =
    cond-false (2 + p == 0) false (if 2 + p == 1 then true else bits ((2 + p) - 2)) (ne_eqb (2 + p) 0 (λ (none : 2 + p ≡ 0). omega (arith, none)))
    ∙ cond-false (2 + p == 1) true (bits ((2 + p) - 2)) (ne_eqb (2 + p) 1 (λ (none : 2 + p ≡ 1). omega (arith, none)))
    ∙ ap bits (omega arith)

exchanged_is : (op : ℕ) (a b : Bool) → apply (swapped op) b a ≡ apply op a b
unfolding swapped
exchanged_is op a b = operator_values (λ x y. apply op y x) b a

key_is : (bits : ℕ → Bool) (g : Gate) → key_value bits (key_of g) ≡ gate_value bits g
unfolding key_of
key_is bits g =
    cond_both (nat_le (code g.a) (code g.b)) (record { word = g.op; low = code g.a; high = code g.b })
    (record { word = swapped g.op; low = code g.b; high = code g.a }) (λ (f : StrashKey). key_value bits f ≡
    gate_value bits g)
    (λ on. rw (code_is bits g.a, code_is bits g.b) refl)
    (λ off. rw (code_is bits g.a, code_is bits g.b) (exchanged_is g.op (sig_value bits g.a) (sig_value bits g.b)))

pub key_values : (bits : ℕ → Bool) (g h : Gate) → key_of g ≡ key_of h → gate_value bits g ≡ gate_value bits h
key_values bits g h same = sym (key_is bits g) ∙ ap (key_value bits) same ∙ key_is bits h
