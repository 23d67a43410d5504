-- An assignment with given values of its variables: division gives the kind and the indices of a variable from
-- its number.
use Rattle.std.proofs.Common.{◌≡◌, ℕ, ◌+◌, ◌-◌, ◌*◌, ◌/◌, ◌%◌, ◌^◌, ◌<◌, ◌≤◌, ◌==◌, Bool, true, false, refl, ◌∙◌, arith}
use Rattle.std.specs.Prelude.{if◌then◌else◌, nat_lt}
use Rattle.std.proofs.lemmas.Bool.{lt-ltb, le-ltb}
use Rattle.std.proofs.Math.Nat.{mul_comm}
use Rattle.std.proofs.lemmas.Nat.{div-mul-add, mod-mul-add, mul-add-lt}
use Rattle.sat_theory.specs.Formula.{Assignment}
use Rattle.enc_theory.specs.declared.data.Dimensions.{Dimensions}
use Rattle.enc_theory.specs.Numbering.{x_var, g_var, f_first, bits_word, f_var, s_first}
use Rattle.enc_laws.specs.Bounds.{word_low}
use Rattle.enc_laws.specs.Layouts.{IsStepPlace}

-- the number of the last variable before those of outputs
abbrev pub x_count : Dimensions → ℕ
x_count z = z.r * 2 ^ z.n

-- given values by place and row, outputs by output and place, operators by place and two bits, and later
-- variables by number
unfoldable pub built : Dimensions → (ℕ → ℕ → Bool) → (ℕ → ℕ → Bool) → (ℕ → Bool → Bool → Bool) → (ℕ → Bool) → Assignment
built z value out operator rest x =
    if nat_lt x (x_count z + 1) then value ((x - 1) / 2 ^ z.n + (z.n + 1)) ((x - 1) % 2 ^ z.n)
    else (if nat_lt x (f_first z) then out ((x - (x_count z + 1)) / z.r + 1) ((x - (x_count z + 1)) % z.r + (z.n + 1))
    else (if nat_lt x (s_first z) then operator ((x - f_first z) / 4 + (z.n + 1)) ((x - f_first z) % 4 / 2 == 1) ((x - f_first z) % 4 % 2 == 1)
    else rest x))

abbrev in_value : Dimensions → (ℕ → ℕ → Bool) → ℕ → Bool
in_value z value x = value ((x - 1) / 2 ^ z.n + (z.n + 1)) ((x - 1) % 2 ^ z.n)

abbrev in_out : Dimensions → (ℕ → ℕ → Bool) → ℕ → Bool
in_out z out x = out ((x - (x_count z + 1)) / z.r + 1) ((x - (x_count z + 1)) % z.r + (z.n + 1))

abbrev in_operator : Dimensions → (ℕ → Bool → Bool → Bool) → ℕ → Bool
in_operator z operator x = operator ((x - f_first z) / 4 + (z.n + 1)) ((x - f_first z) % 4 / 2 == 1) ((x - f_first z) % 4 % 2 == 1)

-- the word of two bits spells them
word_bits : (f : Bool → Bool → Bool) (b c : Bool) → f (bits_word b c / 2 == 1) (bits_word b c % 2 == 1) ≡ f b c
word_bits f true true = refl
word_bits f true false = refl
word_bits f false true = refl
word_bits f false false = refl

module _ (z : Dimensions) (value : ℕ → ℕ → Bool) (out : ℕ → ℕ → Bool) (operator : ℕ → Bool → Bool → Bool) (rest : ℕ → Bool) where
  by_x : (x : ℕ) → x < x_count z + 1 → built z value out operator rest x ≡ in_value z value x
  unfolding built
  by_x x low = rw (lt-ltb x (x_count z + 1) low) refl

  by_g : (x : ℕ) → x_count z + 1 ≤ x → x < f_first z → built z value out operator rest x ≡ in_out z out x
  unfolding built
  by_g x high low = rw (le-ltb x (x_count z + 1) high, lt-ltb x (f_first z) low) refl

  by_f : (x : ℕ) → f_first z ≤ x → x < s_first z → built z value out operator rest x ≡ in_operator z operator x
  unfolding built
  by_f x high low = let above : x_count z + 1 ≤ x = omega arith in rw (le-ltb x (x_count z + 1) above, le-ltb x (f_first z) high, lt-ltb x (s_first z) low) refl

  pub built_s : (x : ℕ) → s_first z ≤ x → built z value out operator rest x ≡ rest x
  unfolding built s_first
  built_s x bits_after =
      let above_g : f_first z ≤ x = omega arith in
      let above_x : x_count z + 1 ≤ x = omega arith in
      rw (le-ltb x (x_count z + 1) above_x, le-ltb x (f_first z) above_g, le-ltb x (f_first z + 4 * z.r) bits_after) refl

  pub built_x : (i t : ℕ) → IsStepPlace z i → t < 2 ^ z.n → built z value out operator rest (x_var z i t) ≡ value i t
  unfolding x_var
  built_x i t is row =
      let from = is.from in
      let to = is.to in
      let within = mul-add-lt (i - (z.n + 1)) (2 ^ z.n) t z.r (omega arith) row in
      let turned : 2 ^ z.n * z.r ≡ z.r * 2 ^ z.n = mul_comm (2 ^ z.n) z.r in
      let back : (i - (z.n + 1)) * 2 ^ z.n + t + 1 - 1 ≡ (i - (z.n + 1)) * 2 ^ z.n + t = omega arith in
      let place : i - (z.n + 1) + (z.n + 1) ≡ i = omega arith in
      by_x ((i - (z.n + 1)) * 2 ^ z.n + t + 1) (omega arith)
      ∙ rw (back, div-mul-add (i - (z.n + 1)) (2 ^ z.n) t row, mod-mul-add (i - (z.n + 1)) (2 ^ z.n) t row, place) refl

  pub built_g : (h i : ℕ) → 1 ≤ h → h ≤ z.m → IsStepPlace z i → built z value out operator rest (g_var z h i) ≡ out h i
  unfolding g_var
  built_g h i some low is =
      let from = is.from in
      let to = is.to in
      let inside : i - (z.n + 1) < z.r = omega arith in
      let within = mul-add-lt (h - 1) z.r (i - (z.n + 1)) z.m (omega arith) inside in
      let turned : z.r * z.m ≡ z.m * z.r = mul_comm z.r z.m in
      let back : x_count z + (h - 1) * z.r + (i - z.n) - (x_count z + 1) ≡ (h - 1) * z.r + (i - (z.n + 1)) = omega arith in
      let place : i - (z.n + 1) + (z.n + 1) ≡ i = omega arith in
      let output : h - 1 + 1 ≡ h = omega arith in
      by_g (x_count z + (h - 1) * z.r + (i - z.n)) (omega arith) (omega arith)
      ∙ rw (back, div-mul-add (h - 1) z.r (i - (z.n + 1)) inside, mod-mul-add (h - 1) z.r (i - (z.n + 1)) inside, place, output) refl

  pub built_f : (i : ℕ) (b c : Bool) → IsStepPlace z i → built z value out operator rest (f_var z i b c) ≡ operator i b c
  unfolding f_var s_first
  built_f i b c is =
      let from = is.from in
      let to = is.to in
      let low = word_low b c in
      let back : f_first z + 4 * (i - (z.n + 1)) + bits_word b c - f_first z ≡ (i - (z.n + 1)) * 4 + bits_word b c = omega arith in
      let place : i - (z.n + 1) + (z.n + 1) ≡ i = omega arith in
      by_f (f_first z + 4 * (i - (z.n + 1)) + bits_word b c) (omega arith) (omega arith)
      ∙ rw (back, div-mul-add (i - (z.n + 1)) 4 (bits_word b c) low, mod-mul-add (i - (z.n + 1)) 4 (bits_word b c) low, place) (word_bits (operator i) b c)
