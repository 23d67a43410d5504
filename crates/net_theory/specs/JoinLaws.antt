-- Joining signals by gates: cubes as AND of literals, covers as OR of cubes, and parities as XOR.
use Rattle.std.specs.Prelude.{◌≡◌, ℕ, suc, ◌+◌, ◌<◌, Bool, true, false, not, ◌&&◌, ◌||◌, if◌then◌else◌, List, [], ◌∷◌, ◌++◌, length, map, ◌⊎◌, refl}
use Rattle.std.proofs.Common.{arith, sym, ◌∙◌, ap, subst, inl, inr, ⊎_elim, length-append}
use Rattle.chain_theory.specs.Operator.{apply}
use Rattle.net_theory.specs.declared.data.Sig.TheVariants.{Node}
use Rattle.net_theory.specs.declared.data.Gate.{Gate}
use Rattle.net_theory.specs.declared.data.Signed.{Signed}
use Rattle.net_theory.specs.Net.{IsSigBelow, IsGateAt, AreGates, sig_value, values_of}
use Rattle.net_theory.specs.Expansion.{gate_of, Joined, joined, join_from, join_all, and_word, or_word, xor_word}
use Rattle.net_theory.specs.ValueLaws.{ExtendsGates, grown_none, grown_push, grown_more, grown_sig, grown_below, value-last}

-- ---- polarities

abbrev pub turn : Bool → Bool → Bool
turn false b = b
turn true b = not b

abbrev pub signed_value : (ℕ → Bool) → Signed → Bool
signed_value bits s = turn s.turned (sig_value bits s.sig)

abbrev pub IsSignedBelow : ℕ → Signed → Type 0
IsSignedBelow node s = IsSigBelow node s.sig

abbrev pub AreSignedBelow : ℕ → List Signed → Type 0
AreSignedBelow node [] = Unit {0}
AreSignedBelow node (s ∷ ss) = IsSignedBelow node s × AreSignedBelow node ss

-- for any two polarities, the operator `word` is f on the values with these polarities
pub record Joins (word : Bool → Bool → ℕ) (f : Bool → Bool → Bool) : Type 0 where
  pub low : (ta tb : Bool) → word ta tb < 16
  pub same : (ta tb a b : Bool) → apply (word ta tb) a b ≡ f (turn ta a) (turn tb b)

abbrev and_of : Bool → Bool → Bool
and_of a b = a && b

abbrev or_of : Bool → Bool → Bool
or_of a b = a || b

and_low : (ta tb : Bool) → and_word ta tb < 16
and_low false false = omega arith
and_low false true = omega arith
and_low true false = omega arith
and_low true true = omega arith

and_same : (ta tb a b : Bool) → apply (and_word ta tb) a b ≡ (turn ta a && turn tb b)
and_same false false false false = refl
and_same false false false true = refl
and_same false false true false = refl
and_same false false true true = refl
and_same false true false false = refl
and_same false true false true = refl
and_same false true true false = refl
and_same false true true true = refl
and_same true false false false = refl
and_same true false false true = refl
and_same true false true false = refl
and_same true false true true = refl
and_same true true false false = refl
and_same true true false true = refl
and_same true true true false = refl
and_same true true true true = refl

pub and_joins : Joins and_word and_of
and_joins = record { low = and_low; same = and_same }

or_low : (ta tb : Bool) → or_word ta tb < 16
or_low false false = omega arith
or_low false true = omega arith
or_low true false = omega arith
or_low true true = omega arith

or_same : (ta tb a b : Bool) → apply (or_word ta tb) a b ≡ (turn ta a || turn tb b)
or_same false false false false = refl
or_same false false false true = refl
or_same false false true false = refl
or_same false false true true = refl
or_same false true false false = refl
or_same false true false true = refl
or_same false true true false = refl
or_same false true true true = refl
or_same true false false false = refl
or_same true false false true = refl
or_same true false true false = refl
or_same true false true true = refl
or_same true true false false = refl
or_same true true false true = refl
or_same true true true false = refl
or_same true true true true = refl

pub or_joins : Joins or_word or_of
or_joins = record { low = or_low; same = or_same }

abbrev pub xor_of : Bool → Bool → Bool
xor_of a b = if b then not a else a

xor_low : (ta tb : Bool) → xor_word ta tb < 16
xor_low false false = omega arith
xor_low false true = omega arith
xor_low true false = omega arith
xor_low true true = omega arith

xor_same : (ta tb a b : Bool) → apply (xor_word ta tb) a b ≡ xor_of (turn ta a) (turn tb b)
xor_same false false false false = refl
xor_same false false false true = refl
xor_same false false true false = refl
xor_same false false true true = refl
xor_same false true false false = refl
xor_same false true false true = refl
xor_same false true true false = refl
xor_same false true true true = refl
xor_same true false false false = refl
xor_same true false false true = refl
xor_same true false true false = refl
xor_same true false true true = refl
xor_same true true false false = refl
xor_same true true false true = refl
xor_same true true true false = refl
xor_same true true true true = refl

pub xor_joins : Joins xor_word xor_of
xor_joins = record { low = xor_low; same = xor_same }

-- ---- joining

-- f from the left
unfoldable pub fold_from : (Bool → Bool → Bool) → Bool → List Bool → Bool
fold_from f b [] = b
fold_from f b (x ∷ xs) = fold_from f (f b x) xs

-- The result of joining: `more` gates appended to `old`, and a signal with the value `bit`, which is the last
-- gate unless `more` is 0.
pub record IsJoinedSignal (sources : ℕ) (old : List Gate) (more : ℕ) (bit : (ℕ → Bool) → Bool) (j : Joined) : Type 0 where
  pub grown : ExtendsGates sources old j.gates
  pub count : length j.gates ≡ length old + more
  pub below : IsSignedBelow (sources + 1 + length j.gates) j.out
  pub value : (given : ℕ → Bool) → signed_value (values_of given sources j.gates) j.out ≡ bit given
  pub last : (more ≡ 0) ⊎ (j.out.sig ≡ Node (sources + length j.gates))

pub grown_signed : (sources : ℕ) (old new : List Gate) (s : Signed) (given : ℕ → Bool) → ExtendsGates sources old new →
    IsSignedBelow (sources + 1 + length old) s → signed_value (values_of given sources new) s ≡
    signed_value (values_of given sources old) s
grown_signed sources old new s given grown below = ap (turn s.turned) (grown_sig sources old new s.sig given grown below)

-- nothing was joined yet
joined_none : (sources : ℕ) (old : List Gate) (s : Signed) → AreGates sources old →
    IsSignedBelow (sources + 1 + length old) s →
    IsJoinedSignal sources old 0 (λ given. signed_value (values_of given sources old) s) (record {
      gates = old;
      out = s;
    })
joined_none sources old s are below =
    record { grown = grown_none sources old are; count = omega arith; below = below; value = λ given. refl; last = inl refl }

-- one more signal
joined_one : (word : Bool → Bool → ℕ) (f : Bool → Bool → Bool) (sources : ℕ) (old : List Gate) (more : ℕ)
    (bit : (ℕ → Bool) → Bool) (j : Joined) (s : Signed) → Joins word f → IsJoinedSignal sources old more bit j →
    IsSignedBelow (sources + 1 + length old) s →
    IsJoinedSignal sources old (more + 1) (λ given. f (bit given) (signed_value (values_of given sources old) s))
    (joined word sources j s)
joined_one word f sources old more bit j s joins is below =
    let g : Gate = gate_of (word j.out.turned s.turned) j.out.sig s.sig in
    let second : IsSignedBelow (sources + 1 + length j.gates) s = grown_below sources old j.gates s.sig is.grown below in
    let here : IsGateAt (sources + 1 + length j.gates) g = record { operator = joins.low j.out.turned s.turned; first = is.below; second = second } in
    let size : length (j.gates ++ g ∷ []) ≡ length j.gates + 1 = length-append j.gates (g ∷ []) in
    record {
      grown = grown_more sources old j.gates (j.gates ++ g ∷ []) is.grown (grown_push sources j.gates g is.grown.gates here);
      count = omega (arith, size, is.count);
      below = (omega arith, omega (arith, size));
      value = λ given.
          value-last given sources j.gates g
          ∙ joins.same j.out.turned s.turned (sig_value (values_of given sources j.gates) j.out.sig) (sig_value (values_of given sources j.gates) s.sig)
          ∙ rw (is.value given, grown_signed sources old j.gates s given is.grown below) refl;
      last = let e : sources + 1 + length j.gates ≡ sources + length (j.gates ++ g ∷ []) = omega (arith, size) in inr (ap Node e);
    }

-- the value of what is joined to a first signal
abbrev pub bit_from : (Bool → Bool → Bool) → ℕ → List Gate → ((ℕ → Bool) → Bool) → List Signed → (ℕ → Bool) → Bool
bit_from f sources old bit ss given = fold_from f (bit given) (map (signed_value (values_of given sources old)) ss)

-- several more
pub joined_more : (word : Bool → Bool → ℕ) (f : Bool → Bool → Bool) (sources : ℕ) (old : List Gate) (more : ℕ)
    (bit : (ℕ → Bool) → Bool) (j : Joined) (ss : List Signed) → Joins word f → IsJoinedSignal sources old more bit j →
    AreSignedBelow (sources + 1 + length old) ss →
    IsJoinedSignal sources old (more + length ss) (bit_from f sources old bit ss) (join_from word sources j ss)
unfolding join_from fold_from
joined_more word f sources old more bit j [] joins is below = subst (λ (k : ℕ). IsJoinedSignal sources old k bit j) (omega arith) is
joined_more word f sources old more bit j (s ∷ ss) joins is below =
    let e : (more + 1) + length ss ≡ more + suc (length ss) = omega arith in
    subst (λ (k : ℕ). IsJoinedSignal sources old k (bit_from f sources old bit (s ∷ ss)) (join_from word sources (joined word sources j s) ss)) e
    (joined_more word f sources old (more + 1) (λ given. f (bit given) (signed_value (values_of given sources old) s))
    (joined word sources j s) ss joins (joined_one word f sources old more bit j s joins is below.0) below.1)

-- all of a list that isn't empty, where `unit` is neutral for f
pub joined_all : (word : Bool → Bool → ℕ) (f : Bool → Bool → Bool) (unit : Bool) (sources : ℕ) (old : List Gate)
    (s : Signed) (ss : List Signed) → Joins word f → ((b : Bool) → f unit b ≡ b) → AreGates sources old →
    AreSignedBelow (sources + 1 + length old) (s ∷ ss) →
    IsJoinedSignal sources old (length ss) (bit_from f sources old (λ given. unit) (s ∷ ss))
    (join_all word sources old (s ∷ ss))
unfolding join_all fold_from
joined_all word f unit sources old s ss joins unit_is are below =
    let is : IsJoinedSignal sources old (0 + length ss)
    (bit_from f sources old (λ given. signed_value (values_of given sources old) s) ss)
    (join_from word sources (record { gates = old; out = s }) ss) =
    joined_more word f sources old 0 (λ given. signed_value (values_of given sources old) s) (record {
      gates = old;
      out = s;
    }) ss joins (joined_none sources old s are below.0) below.1 in
    record {
      grown = is.grown;
      count = omega (arith, is.count);
      below = is.below;
      value = λ given. is.value given ∙ ap (λ (b : Bool). fold_from f b (map (signed_value (values_of given sources old)) ss)) (sym (unit_is (signed_value (values_of given sources old) s)));
      last = ⊎_elim (λ none. inl (omega (arith, none))) (λ l. inr l) is.last;
    }
