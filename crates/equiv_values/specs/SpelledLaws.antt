-- The bits of a counterexample are read back from its answer.
use Rattle.std.specs.Prelude.{◌≡◌, ℕ, ◌+◌, ◌-◌, ◌≤◌, Bool, true, false, List, [], ◌∷◌, ◌++◌, length, map, take, drop, codes, refl}
use Rattle.std.proofs.Common.{arith, ap, sym, ◌∙◌, append_assoc, length-append}
use Rattle.std.proofs.lemmas.List.{length-map}
use Rattle.std.proofs.Math.Seq.{take-append_seam, drop-append_seam}
use Rattle.net_theory.specs.Document.{Name, Latch}
use Rattle.equiv_run.specs.Texts.{character, characters, bits_text, sink_text, differ_text}
use Rattle.equiv_values.specs.Spelled.{is_one, spelled_bits}

pub spelled_ones : (bits : List Bool) → map is_one (characters bits) ≡ bits
unfolding characters
spelled_ones [] = refl
spelled_ones (true ∷ bs) = ap (λ (xs : List Bool). true ∷ xs) (spelled_ones bs)
spelled_ones (false ∷ bs) = ap (λ (xs : List Bool). false ∷ xs) (spelled_ones bs)

length-characters : (bits : List Bool) → length (characters bits) ≡ length bits
unfolding characters
length-characters bits = length-map bits character

-- what comes before the bits
abbrev front_text : List Name → List Latch → ℕ → List ℕ
front_text outputs latches sink = codes "differ " ++ (sink_text outputs latches sink ++ codes "\nat ")

parted : (a b c d : List ℕ) → a ++ (b ++ (c ++ d)) ≡ (a ++ (b ++ c)) ++ d
parted a b c d = ap (λ (xs : List ℕ). a ++ xs) (sym (append_assoc b c d)) ∙ sym (append_assoc a (b ++ c) d)

differ_parted : (outputs : List Name) (latches : List Latch) (sink : ℕ) (bits : List Bool) →
    differ_text outputs latches sink bits ≡ front_text outputs latches sink ++ (bits_text bits ++ codes "\n")
unfolding differ_text
differ_parted outputs latches sink bits =
    parted (codes "differ ") (sink_text outputs latches sink) (codes "\nat ") (bits_text bits ++ codes "\n")

-- the bits before the last byte
ending : (front word : List ℕ) (count : ℕ) → length word ≡ count →
    take count (drop (length (front ++ (word ++ codes "\n")) - (count + 1)) (front ++ (word ++ codes "\n"))) ≡ word
ending front word count long =
    let whole : length (front ++ (word ++ codes "\n")) ≡ length front + (length word + 1) =
    length-append front (word ++ codes "\n") ∙ ap (λ (n : ℕ). length front + n) (length-append word (codes "\n")) in
    let place : length (front ++ (word ++ codes "\n")) - (count + 1) ≡ length front = omega (arith, whole, long) in
    ap (λ (n : ℕ). take count (drop n (front ++ (word ++ codes "\n")))) place
    ∙ ap (take count) (drop-append_seam front (word ++ codes "\n"))
    ∙ ap (λ (n : ℕ). take n (word ++ codes "\n")) (sym long)
    ∙ take-append_seam word (codes "\n")

pub spelled_back : (outputs : List Name) (latches : List Latch) (sink : ℕ) (bits : List Bool) (count : ℕ) →
    length bits ≡ count → spelled_bits (differ_text outputs latches sink bits) count ≡ bits
unfolding bits_text
spelled_back outputs latches sink [] count long =
    ap (λ (n : ℕ). map is_one (take n (drop (length (differ_text outputs latches sink []) - (count + 1)) (differ_text outputs latches sink [])))) (sym long)
spelled_back outputs latches sink (b ∷ bs) count long =
    ap (λ (xs : List ℕ). spelled_bits xs count) (differ_parted outputs latches sink (b ∷ bs))
    ∙ ap (map is_one) (ending (front_text outputs latches sink) (characters (b ∷ bs)) count (length-characters (b ∷ bs) ∙ long))
    ∙ spelled_ones (b ∷ bs)

some_characters : (bits : List Bool) → length bits ≤ length (bits_text bits)
unfolding bits_text
some_characters [] = omega arith
some_characters (b ∷ bs) = omega (arith, length-characters (b ∷ bs))

-- the answer has room for them
pub differ_long : (outputs : List Name) (latches : List Latch) (sink : ℕ) (bits : List Bool) →
    length bits + 1 ≤ length (differ_text outputs latches sink bits)
differ_long outputs latches sink bits =
    let one = ap length (differ_parted outputs latches sink bits) in
    let two = length-append (front_text outputs latches sink) (bits_text bits ++ codes "\n") in
    let three = length-append (bits_text bits) (codes "\n") in
    omega (arith, one, two, three, some_characters bits)
