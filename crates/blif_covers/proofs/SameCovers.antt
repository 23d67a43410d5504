-- The least cover of a table that the writer makes has the same values.
use Rattle.std.specs.Prelude.{◌≡◌, ℕ, ◌≤◌, Bool, true, false, List, [], ◌∷◌, ◌++◌, length, All, refl}
use Rattle.std.proofs.Common.{arith}
use Rattle.std.proofs.lemmas.List.Elements.{All-nil, All-cons}
use Rattle.chain_theory.specs.Operator.{apply}
use Rattle.net_theory.specs.Cover.{Cover, IsCover, is_cube, matches, cover_value}
use Rattle.net_theory.specs.Document.{Name, has, Table}
use Rattle.blif_core.specs.Written.{row_if, constant_table, unary_table, binary_cubes, binary_table}
use Rattle.blif_covers.specs.Least.{other_rows, least_cover}

-- e has the values of c, and no more cubes
pub record IsSameCover (c e : Cover) : Type 0 where
  pub width : e.width ≡ c.width
  pub cover : IsCover c → IsCover e
  pub few : length e.cubes ≤ length c.cubes
  pub parity : e.parity ≡ false
  pub on : e.cubes ≡ [] → e.on ≡ true
  pub value : (bits : List Bool) → length bits ≡ c.width → cover_value e bits ≡ cover_value c bits

-- the least cover of the table is the same
abbrev pub IsKept : Table → Type 0
IsKept t = IsSameCover t.cover (least_cover t.cover)

itself : (c : Cover) → c.on ≡ true → c.parity ≡ false → IsSameCover c c
itself c on parity = record {
  width = refl;
  cover = λ is. is;
  few = omega arith;
  parity = parity;
  on = λ e. on;
  value = λ bits size. refl;
}

-- ---- two inputs

two_bits : (P : List Bool → Type 0) (bits : List Bool) → ((x y : Bool) → P (x ∷ y ∷ [])) → length bits ≡ 2 → P bits
two_bits P [] each size = absurd (omega (arith, size))
two_bits P (x ∷ []) each size = absurd (omega (arith, size))
two_bits P (x ∷ y ∷ []) each size = each x y
two_bits P (x ∷ y ∷ z ∷ bits) each size = absurd (omega (arith, size))

abbrev pair_cover : Bool → List (List ℕ) → Cover
pair_cover on cubes = record { width = 2; cubes = cubes; on = on; parity = false }

one_cube : (row : List ℕ) → is_cube 2 row ≡ true → All (λ cube. is_cube 2 cube ≡ true) (row ∷ [])
one_cube row is =
    All-cons (λ (cube : List ℕ). is_cube 2 cube ≡ true) row [] is (All-nil (λ (cube : List ℕ). is_cube 2 cube ≡ true))

fourth : (row : List ℕ) (rows : List (List ℕ)) → is_cube 2 row ≡ true → length rows ≡ 3 →
    ((x y : Bool) → cover_value (pair_cover false (row ∷ [])) (x ∷ y ∷ []) ≡
    cover_value (pair_cover true rows) (x ∷ y ∷ [])) →
    IsSameCover (pair_cover true rows) (pair_cover false (row ∷ []))
fourth row rows is three each = record {
  width = refl;
  cover = λ cover. record { cubes = one_cube row is; parity = λ e. absurd cc };
  few = omega (arith, three);
  parity = refl;
  on = λ e. absurd cc;
  value = λ bits size. two_bits (λ (bs : List Bool). cover_value (pair_cover false (row ∷ [])) bs ≡
      cover_value (pair_cover true rows) bs) bits each size;
}

abbrev row00 : List ℕ
row00 = 48 ∷ 48 ∷ []

abbrev row01 : List ℕ
row01 = 48 ∷ 49 ∷ []

abbrev row10 : List ℕ
row10 = 49 ∷ 48 ∷ []

abbrev row11 : List ℕ
row11 = 49 ∷ 49 ∷ []

without00 : (x y : Bool) → cover_value (pair_cover false (row00 ∷ [])) (x ∷ y ∷ []) ≡
    cover_value (pair_cover true (row01 ∷ row10 ∷ row11 ∷ [])) (x ∷ y ∷ [])
unfolding cover_value matches
without00 false false = refl
without00 false true = refl
without00 true false = refl
without00 true true = refl

without01 : (x y : Bool) → cover_value (pair_cover false (row01 ∷ [])) (x ∷ y ∷ []) ≡
    cover_value (pair_cover true (row00 ∷ row10 ∷ row11 ∷ [])) (x ∷ y ∷ [])
unfolding cover_value matches
without01 false false = refl
without01 false true = refl
without01 true false = refl
without01 true true = refl

without10 : (x y : Bool) → cover_value (pair_cover false (row10 ∷ [])) (x ∷ y ∷ []) ≡
    cover_value (pair_cover true (row00 ∷ row01 ∷ row11 ∷ [])) (x ∷ y ∷ [])
unfolding cover_value matches
without10 false false = refl
without10 false true = refl
without10 true false = refl
without10 true true = refl

without11 : (x y : Bool) → cover_value (pair_cover false (row11 ∷ [])) (x ∷ y ∷ []) ≡
    cover_value (pair_cover true (row00 ∷ row01 ∷ row10 ∷ [])) (x ∷ y ∷ [])
unfolding cover_value matches
without11 false false = refl
without11 false true = refl
without11 true false = refl
without11 true true = refl

abbrev four : Bool → Bool → Bool → Bool → Cover
four a b c d = pair_cover true (row_if a row00 ++ row_if b row01 ++ row_if c row10 ++ row_if d row11)

four_kept : (a b c d : Bool) → IsSameCover (four a b c d) (least_cover (four a b c d))
unfolding least_cover other_rows has
four_kept false false false false = itself (four false false false false) refl refl
four_kept false false false true = itself (four false false false true) refl refl
four_kept false false true false = itself (four false false true false) refl refl
four_kept false false true true = itself (four false false true true) refl refl
four_kept false true false false = itself (four false true false false) refl refl
four_kept false true false true = itself (four false true false true) refl refl
four_kept false true true false = itself (four false true true false) refl refl
four_kept false true true true = fourth row00 (row01 ∷ row10 ∷ row11 ∷ []) refl refl without00
four_kept true false false false = itself (four true false false false) refl refl
four_kept true false false true = itself (four true false false true) refl refl
four_kept true false true false = itself (four true false true false) refl refl
four_kept true false true true = fourth row01 (row00 ∷ row10 ∷ row11 ∷ []) refl refl without01
four_kept true true false false = itself (four true true false false) refl refl
four_kept true true false true = fourth row10 (row00 ∷ row01 ∷ row11 ∷ []) refl refl without10
four_kept true true true false = fourth row11 (row00 ∷ row01 ∷ row10 ∷ []) refl refl without11
four_kept true true true true = itself (four true true true true) refl refl

-- ---- tables

pub constant_kept : (bit : Bool) (output : Name) → IsKept (constant_table bit output)
unfolding least_cover
constant_kept bit output = itself (constant_table bit output).cover refl refl

pub unary_kept : (at_zero at_one : Bool) (input output : Name) → IsKept (unary_table at_zero at_one input output)
unfolding least_cover
unary_kept at_zero at_one input output = itself (unary_table at_zero at_one input output).cover refl refl

pub binary_kept : (op : ℕ) (first second output : Name) → IsKept (binary_table op first second output)
unfolding binary_cubes
binary_kept op first second output =
    four_kept (apply op false false) (apply op false true) (apply op true false) (apply op true true)
