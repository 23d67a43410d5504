-- Bounds of variable numbers: from 1 on, and below the selection variables.
use Rattle.std.proofs.Common.{◌≡◌, ℕ, ◌+◌, ◌-◌, ◌*◌, ◌^◌, ◌<◌, ◌≤◌, Bool, true, false, List, arith}
use Rattle.std.proofs.Math.Nat.{mul_comm}
use Rattle.std.proofs.lemmas.Nat.{mul-add-lt}
use Rattle.enc_theory.specs.declared.data.Dimensions.{Dimensions}
use Rattle.enc_theory.specs.Numbering.{x_var, g_var, bits_word, f_var, s_first}
use Rattle.enc_theory.specs.declared.data.Slot.{Slot}
use Rattle.enc_theory.specs.Pairs.{StepSlots}
use Rattle.enc_laws.specs.Layouts.{IsStepPlace, IsSlotOf, IsLaid}

pub x_positive : (z : Dimensions) (i t : ℕ) → 1 ≤ x_var z i t
unfolding x_var
x_positive z i t = omega arith

pub g_positive : (z : Dimensions) (h i : ℕ) → IsStepPlace z i → 1 ≤ g_var z h i
unfolding g_var
g_positive z h i is = let from = is.from in omega arith

pub f_positive : (z : Dimensions) (i : ℕ) (b c : Bool) → 1 ≤ f_var z i b c
unfolding f_var
f_positive z i b c = omega arith

pub s_positive : (z : Dimensions) → 1 ≤ s_first z
unfolding s_first
s_positive z = omega arith

pub slot_positive : (z : Dimensions) (steps : List StepSlots) (s : StepSlots) (u : Slot) → IsLaid z steps → IsSlotOf steps s u → 1 ≤ u.var
slot_positive z steps s u laid is = omega (arith, s_positive z, laid.bits_after s u is)

pub x_below : (z : Dimensions) (i t : ℕ) → IsStepPlace z i → t < 2 ^ z.n → x_var z i t < s_first z
unfolding x_var s_first
x_below z i t is row =
    let from = is.from in
    let to = is.to in
    let within = mul-add-lt (i - (z.n + 1)) (2 ^ z.n) t z.r (omega arith) row in
    let turned : 2 ^ z.n * z.r ≡ z.r * 2 ^ z.n = mul_comm (2 ^ z.n) z.r in
    omega arith

pub g_below : (z : Dimensions) (h i : ℕ) → 1 ≤ h → h ≤ z.m → IsStepPlace z i → g_var z h i < s_first z
unfolding g_var s_first
g_below z h i some low is =
    let from = is.from in
    let to = is.to in
    let within = mul-add-lt (h - 1) z.r (i - (z.n + 1)) z.m (omega arith) (omega arith) in
    let turned : z.r * z.m ≡ z.m * z.r = mul_comm z.r z.m in
    omega arith

pub word_low : (b c : Bool) → bits_word b c < 4
word_low true true = omega arith
word_low true false = omega arith
word_low false true = omega arith
word_low false false = omega arith

pub f_below : (z : Dimensions) (i : ℕ) (b c : Bool) → IsStepPlace z i → f_var z i b c < s_first z
unfolding f_var s_first
f_below z i b c is =
    let from = is.from in
    let to = is.to in
    let low = word_low b c in
    omega arith
