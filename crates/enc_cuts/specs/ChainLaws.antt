-- Chains that assignments spell.
use Rattle.std.proofs.Common.{◌≡◌, ℕ, ◌≤◌, Result, Ok, Err, IfOk, arith}
use Rattle.chain_theory.specs.Chain.{Chain}
use Rattle.chain_core.specs.Steps.{IsSmallChain}
use Rattle.tt_core.specs.Words.{Words, IsSpec}
use Rattle.enc_laws.specs.Decoded.{IsFor}
use Rattle.chain_theory.specs.Limits.{most_steps}

-- if P implies Q, an Ok result with P has Q
pub if_ok : {X E : Type 0} (P Q : X → Type 0) (r : Result X E) → ((x : X) → P x → Q x) → IfOk r P → IfOk r Q
if_ok P Q (Ok x) each holds = each x holds
if_ok P Q (Err e) each holds = tt

-- a chain for tables within the program's bounds is within them
pub small_chain : (w : Words) (basis r : ℕ) (c : Chain) → IsSpec w → r ≤ most_steps → c.n ≡ w.n → IsFor w basis r c → IsSmallChain c
small_chain w basis r c spec low inputs is = record {
  chain = is.is_chain;
  inputs = rw inputs spec.inputs;
  steps = omega (arith, is.size);
  outs = omega (arith, is.agrees.outputs, spec.outputs);
}
