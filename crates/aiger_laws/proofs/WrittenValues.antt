-- In each valuation of a file's document literals have bits: those of gates are AND, and those of outputs and next states
-- are the bits of their names.
use Rattle.std.proofs.Common.{◌≡◌, ℕ, zero, suc, ◌+◌, ◌*◌, ◌/◌, ◌%◌, ◌≤◌, Bool, true, false, [], ◌∷◌, refl, ap, ◌∙◌, sym, subst, arith, ⊎_elim}
use Rattle.std.specs.Prelude.{not, ◌&&◌, ◌||◌, ◌==◌, if◌then◌else◌, codes, slice_index_or}
use Rattle.std.proofs.lemmas.Bool.{both_ways, cond-false, and_from, not_from_false}
use Rattle.net_theory.specs.Cover.{Cover, is_asked, matches, cover_value}
use Rattle.net_theory.specs.Document.{Name}
use Rattle.net_theory.specs.Behaviour.{HoldsIn}
use Rattle.aiger_text.specs.declared.file.AigGate.{AigGate}
use Rattle.aiger_text.specs.Naming.{numbered, name_at}
use Rattle.aiger_text.specs.Meaning.{bit_at, Signals, is_complement, byte_of, gate_table, sink_name, needs_not, not_table}
use Rattle.aiger_core.specs.Written.{complement}
use Rattle.aiger_laws.proofs.MappedValues.{AreBits, Holds, flip}
use Rattle.aiger_laws.proofs.MappedShape.{even_or_odd, complement_half}

-- the bit of a literal
abbrev pub val : Signals → (Name → Bool) → ℕ → Bool
val s v lit = flip (is_complement s lit) (v (name_at s.names lit))

-- the constant 0 is a variable with the bit 0
pub record HasZero (s : Signals) (v : Name → Bool) : Type 0 where
  pub turned : bit_at s.turns 0 ≡ false
  pub bit : v (name_at s.names 0) ≡ false

-- ---- complements

turn_even : (t : Bool) (x y : ℕ) → x ≡ 0 → y ≡ 1 → (if t then y == 0 else y == 1) ≡ not (if t then x == 0 else x == 1)
turn_even true x y e f = ap (λ (n : ℕ). n == 0) f ∙ sym (ap (λ (n : ℕ). not (n == 0)) e)
turn_even false x y e f = ap (λ (n : ℕ). n == 1) f ∙ sym (ap (λ (n : ℕ). not (n == 1)) e)

turn_odd : (t : Bool) (x y : ℕ) → x ≡ 1 → y ≡ 0 → (if t then y == 0 else y == 1) ≡ not (if t then x == 0 else x == 1)
turn_odd true x y e f = ap (λ (n : ℕ). n == 0) f ∙ sym (ap (λ (n : ℕ). not (n == 0)) e)
turn_odd false x y e f = ap (λ (n : ℕ). n == 1) f ∙ sym (ap (λ (n : ℕ). not (n == 1)) e)

complement_turns : (s : Signals) (lit : ℕ) → is_complement s (complement lit) ≡ not (is_complement s lit)
unfolding is_complement
complement_turns s lit =
    ap (λ (k : ℕ). if bit_at s.turns k then complement lit % 2 == 0 else complement lit % 2 == 1) (complement_half lit)
    ∙ ⊎_elim
    (λ even. let next : complement lit % 2 ≡ 1 = omega (arith, even.0, even.1) in turn_even (bit_at s.turns (lit / 2)) (lit % 2) (complement lit % 2) even.1 next)
    (λ odd. let next : complement lit % 2 ≡ 0 = omega (arith, odd.0, odd.1) in turn_odd (bit_at s.turns (lit / 2)) (lit % 2) (complement lit % 2) odd.1 next)
    (even_or_odd lit)

flip_not : (b x : Bool) → flip (not b) x ≡ not (flip b x)
flip_not true true = refl
flip_not true false = refl
flip_not false true = refl
flip_not false false = refl

zero_complement : (s : Signals) → bit_at s.turns 0 ≡ false → is_complement s 0 ≡ false
unfolding is_complement
zero_complement s e = cond-false (bit_at s.turns 0) (0 == 0) (0 == 1) e

pub val_bits : (s : Signals) (v : Name → Bool) → HasZero s v → AreBits (val s v)
val_bits s v is = record {
  zero = ap (λ (b : Bool). flip b (v (name_at s.names 0))) (zero_complement s is.turned) ∙ is.bit;
  turn = λ lit. ap (λ (k : ℕ). flip (is_complement s (complement lit)) (v (slice_index_or s.names k (codes "&")))) (complement_half lit)
      ∙ ap (λ (b : Bool). flip b (v (name_at s.names lit))) (complement_turns s lit)
      ∙ flip_not (is_complement s lit) (v (name_at s.names lit));
}

-- ---- gates

asked_by : (c x : Bool) → is_asked (if c then 48 else 49) x ≡ flip c x
asked_by true x = refl
asked_by false x = refl

tidy : (a b : Bool) → (a && (b && true) || false) ≡ (a && b)
tidy true true = refl
tidy true false = refl
tidy false true = refl
tidy false false = refl

abbrev pair_cover : ℕ → ℕ → Bool → Cover
pair_cover b1 b2 on = record { width = 2; cubes = (b1 ∷ b2 ∷ []) ∷ []; on = on; parity = false }

pair_value : (t : Bool) (b1 b2 : ℕ) (x y : Bool) → cover_value (pair_cover b1 b2 (not t)) (x ∷ y ∷ []) ≡ flip t (is_asked b1 x && is_asked b2 y)
unfolding cover_value matches
pair_value true b1 b2 x y = ap not (tidy (is_asked b1 x) (is_asked b2 y))
pair_value false b1 b2 x y = tidy (is_asked b1 x) (is_asked b2 y)

even_complement : (s : Signals) (lit : ℕ) → lit % 2 ≡ 0 → is_complement s lit ≡ bit_at s.turns (lit / 2)
unfolding is_complement
even_complement s lit e = by (bit_at s.turns (lit / 2)) where
  by : (t : Bool) → (if t then lit % 2 == 0 else lit % 2 == 1) ≡ t
  by true = ap (λ (n : ℕ). n == 0) e
  by false = ap (λ (n : ℕ). n == 1) e

flip_twice : (b x : Bool) → flip b (flip b x) ≡ x
flip_twice true true = refl
flip_twice true false = refl
flip_twice false x = refl

pub gate_holds : (s : Signals) (v : Name → Bool) (g : AigGate) → g.literal % 2 ≡ 0 → HoldsIn v (gate_table s g) → Holds (val s v) g
gate_holds s v g even holds =
    let t = bit_at s.turns (g.literal / 2) in
    let x = v (name_at s.names g.first) in
    let y = v (name_at s.names g.second) in
    ap (λ (b : Bool). flip b (v (name_at s.names g.literal))) (even_complement s g.literal even)
    ∙ ap (flip t) (holds ∙ pair_value t (byte_of s g.first) (byte_of s g.second) x y)
    ∙ flip_twice t (is_asked (byte_of s g.first) x && is_asked (byte_of s g.second) y)
    ∙ ap (λ (b : Bool). b && is_asked (byte_of s g.second) y) (asked_by (is_complement s g.first) x)
    ∙ ap (λ (b : Bool). val s v g.first && b) (asked_by (is_complement s g.second) y)

-- ---- outputs and next states

abbrev unary_cover : ℕ → Cover
unary_cover byte = record { width = 1; cubes = (byte ∷ []) ∷ []; on = true; parity = false }

not_value : (x : Bool) → cover_value (unary_cover 48) (x ∷ []) ≡ not x
unfolding cover_value matches
not_value true = refl
not_value false = refl

pub copy_value : (x : Bool) → cover_value (unary_cover 49) (x ∷ []) ≡ x
unfolding cover_value matches
copy_value true = refl
copy_value false = refl

-- the complements of variables have their tables, and no variable that is listed as its complement is marked
pub record HasNots (s : Signals) (v : Name → Bool) (last : ℕ) : Type 0 where
  pub one : v (numbered (codes "&") 1) ≡ true
  pub nots : (w : ℕ) → 1 ≤ w → w ≤ last → needs_not s w ≡ true → HoldsIn v (not_table s w)
  pub unmarked : (w : ℕ) → bit_at s.turns w ≡ true → bit_at s.marks (w * 2) ≡ false

-- a marked literal that is a complement is odd, and its variable isn't listed as its complement
pub odd_marked : (s : Signals) (lit : ℕ) → ((w : ℕ) → bit_at s.turns w ≡ true → bit_at s.marks (w * 2) ≡ false) → bit_at s.marks lit ≡ true → is_complement s lit ≡ true →
    (lit % 2 ≡ 1) × (bit_at s.turns (lit / 2) ≡ false)
unfolding is_complement
odd_marked s lit unmarked marked c =
    ⊎_elim
    (λ even. absurd (both_ways (bit_at s.marks lit) (let whole : lit / 2 * 2 ≡ lit = omega (arith, even.1) in
    subst (λ (n : ℕ). bit_at s.marks n ≡ false) whole (unmarked (lit / 2) (sym (turned_by (bit_at s.turns (lit / 2)) (lit % 2) even.1) ∙ c))) marked))
    (λ odd. (odd.1, flat_by (bit_at s.turns (lit / 2)) (lit % 2) odd.1 c))
    (even_or_odd lit) where
      turned_by : (t : Bool) (n : ℕ) → n ≡ 0 → (if t then n == 0 else n == 1) ≡ t
      turned_by true n e = ap (λ (k : ℕ). k == 0) e
      turned_by false n e = ap (λ (k : ℕ). k == 1) e

      flat_by : (t : Bool) (n : ℕ) → n ≡ 1 → (if t then n == 0 else n == 1) ≡ true → t ≡ false
      flat_by true n e h = absurd (both_ways (n == 0) (ap (λ (k : ℕ). k == 0) e) h)
      flat_by false n e h = refl

not_bit : (s : Signals) (v : Name → Bool) (last lit w : ℕ) → HasZero s v → HasNots s v last → lit ≡ w * 2 + 1 → w ≤ last → bit_at s.marks lit ≡ true → bit_at s.turns w ≡ false →
    v (numbered (codes "&") (w * 2 + 1)) ≡ not (v (name_at s.names (w * 2)))
not_bit s v last lit zero has nots e low marked flat = nots.one ∙ sym (ap not has.bit)
not_bit s v last lit (suc w) has nots e low marked flat =
    nots.nots (suc w) (omega arith) low
    (and_from (bit_at s.marks (suc w * 2 + 1)) (not (bit_at s.turns (suc w))) (subst (λ (n : ℕ). bit_at s.marks n ≡ true) e marked) (not_from_false (bit_at s.turns (suc w)) flat))
    ∙ not_value (v (name_at s.names (suc w * 2)))

pub sink_bit : (s : Signals) (v : Name → Bool) (last lit : ℕ) → HasZero s v → HasNots s v last → lit ≤ last * 2 + 1 → bit_at s.marks lit ≡ true →
    v (sink_name s lit) ≡ val s v lit
sink_bit s v last lit has nots low marked =
    let name = name_at s.names lit in
    by name (is_complement s lit) (λ c.
    let parts = odd_marked s lit nots.unmarked marked c in
    let whole : lit ≡ lit / 2 * 2 + 1 = omega (arith, parts.0) in
    let half : lit / 2 * 2 / 2 ≡ lit / 2 = omega arith in
    ap (λ (n : ℕ). v (numbered (codes "&") n)) whole
    ∙ not_bit s v last lit (lit / 2) has nots whole (omega (arith, low)) marked parts.1
    ∙ ap (λ (k : ℕ). not (v (slice_index_or s.names k (codes "&")))) half) where
      by : (n : Name) (c : Bool) → (c ≡ true → v (numbered (codes "&") lit) ≡ not (v n)) → v (if c then numbered (codes "&") lit else n) ≡ flip c (v n)
      by n true h = h refl
      by n false h = refl
