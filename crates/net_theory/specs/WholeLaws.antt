-- The covers of `Whole` compute AND, OR and parity, and with n > 2 inputs they decompose into n - 1 gates.
use Rattle.std.specs.Prelude.{◌≡◌, ℕ, zero, suc, ◌+◌, ◌-◌, ◌≤◌, ◌<◌, Bool, true, false, not, ◌&&◌, ◌||◌, ◌==◌, if◌then◌else◌, List, [], ◌∷◌, ◌++◌, length, map, count_by, refl}
use Rattle.std.specs.List.{list_any, list_all, AllByRecursion}
use Rattle.std.proofs.Common.{arith, sym, ◌∙◌, ap, append-nil, append_assoc}
use Rattle.std.proofs.lemmas.Bool.{cond-false, eqb-true, eq-eqb, ne_eqb, and_from, and_parts}
use Rattle.std.proofs.lemmas.List.Elements.{All-from_recursion}
use Rattle.std.proofs.lemmas.List.Sums.{sum_by-cons}
use Rattle.net_theory.specs.declared.data.Sig.{Sig}
use Rattle.net_theory.specs.declared.data.Gate.{Gate}
use Rattle.net_theory.specs.declared.data.Signed.{Signed}
use Rattle.net_theory.specs.Cover.{IsCover, is_cube, is_cube_byte, matches, is_matched, is_odd, value_by, cover_value}
use Rattle.net_theory.specs.Cost.{literal_count, literal_sum, cubes_cost, wide_cost}
use Rattle.net_theory.specs.Expansion.{Joined, Terms, signed, unsigned, literals, join_from, join_all, and_word}
use Rattle.net_theory.specs.Expansion.{or_word, xor_word, terms_from, or_built, has_no_literal, is_constant_cover, finished_by}
use Rattle.net_theory.specs.Expansion.{cover_built, parity_built, wide_built}
use Rattle.net_theory.specs.Whole.{ones, dashes, single_ones, and_cover, or_cover, xor_cover, itself, value_where}

-- ---- they are covers

length-ones : (n : ℕ) → length (ones n) ≡ n
length-ones zero = refl
length-ones (suc n) = ap suc (length-ones n)

length-dashes : (n : ℕ) → length (dashes n) ≡ n
length-dashes zero = refl
length-dashes (suc n) = ap suc (length-dashes n)

ones_bytes : (n : ℕ) → list_all is_cube_byte (ones n) ≡ true
ones_bytes zero = refl
ones_bytes (suc n) = ones_bytes n

dashes_bytes : (n : ℕ) → list_all is_cube_byte (dashes n) ≡ true
dashes_bytes zero = refl
dashes_bytes (suc n) = dashes_bytes n

ones_cube : (n : ℕ) → is_cube n (ones n) ≡ true
ones_cube n = and_from (length (ones n) == n) (list_all is_cube_byte (ones n)) (eq-eqb (length (ones n)) n (length-ones n)) (ones_bytes n)

first_cube : (n : ℕ) → is_cube (suc n) (49 ∷ dashes n) ≡ true
first_cube n = and_from (suc (length (dashes n)) == suc n) (list_all is_cube_byte (dashes n)) (eq-eqb (suc (length (dashes n))) (suc n) (ap suc (length-dashes n))) (dashes_bytes n)

more_cubes : (n : ℕ) (cubes : List (List ℕ)) → AllByRecursion (λ cube. is_cube n cube ≡ true) cubes → AllByRecursion (λ cube. is_cube (suc n) cube ≡ true) (map (λ cube. 45 ∷ cube) cubes)
more_cubes n [] are = tt
more_cubes n (c ∷ cubes) are =
    let parts = and_parts (length c == n) (list_all is_cube_byte c) are.0 in
    (and_from (suc (length c) == suc n) (list_all is_cube_byte c) (eq-eqb (suc (length c)) (suc n) (ap suc (eqb-true (length c) n parts.0))) parts.1, more_cubes n cubes are.1)

single_cubes : (n : ℕ) → AllByRecursion (λ cube. is_cube n cube ≡ true) (single_ones n)
single_cubes zero = tt
single_cubes (suc n) = (first_cube n, more_cubes n (single_ones n) (single_cubes n))

pub and_cover_is : (width : ℕ) (on : Bool) → IsCover (and_cover width on)
and_cover_is width on =
    record { cubes = All-from_recursion (λ cube. is_cube width cube ≡ true) (ones width ∷ []) (ones_cube width, tt); parity = λ e. absurd cc }

pub or_cover_is : (width : ℕ) (on : Bool) → IsCover (or_cover width on)
or_cover_is width on =
    record { cubes = All-from_recursion (λ cube. is_cube width cube ≡ true) (single_ones width) (single_cubes width); parity = λ e. absurd cc }

pub xor_cover_is : (width : ℕ) (on : Bool) → IsCover (xor_cover width on)
xor_cover_is width on =
    record { cubes = All-from_recursion (λ cube. is_cube width cube ≡ true) [] tt; parity = λ e. refl }

-- ---- their values

ones_match : (bits : List Bool) → matches (ones (length bits)) bits ≡ list_all itself bits
unfolding matches
ones_match [] = refl
ones_match (b ∷ bits) = ap (λ (x : Bool). b && x) (ones_match bits)

dashes_match : (n : ℕ) (bits : List Bool) → matches (dashes n) bits ≡ true
unfolding matches
dashes_match zero bits = refl
dashes_match (suc n) [] = refl
dashes_match (suc n) (b ∷ bits) = dashes_match n bits

more_match : (b : Bool) (bits : List Bool) (cubes : List (List ℕ)) → is_matched (map (λ cube. 45 ∷ cube) cubes) (b ∷ bits) ≡ is_matched cubes bits
unfolding matches
more_match b bits [] = refl
more_match b bits (c ∷ cubes) = ap (λ (x : Bool). matches c bits || x) (more_match b bits cubes)

and_true : (b : Bool) → (b && true) ≡ b
and_true true = refl
and_true false = refl

or_false : (b : Bool) → (b || false) ≡ b
or_false true = refl
or_false false = refl

single_match : (bits : List Bool) → is_matched (single_ones (length bits)) bits ≡ list_any itself bits
unfolding matches
single_match [] = refl
single_match (b ∷ bits) =
    ap (λ (x : Bool). (b && x) || is_matched (map (λ cube. 45 ∷ cube) (single_ones (length bits))) (b ∷ bits)) (dashes_match (length bits) bits)
    ∙ ap (λ (x : Bool). x || is_matched (map (λ cube. 45 ∷ cube) (single_ones (length bits))) (b ∷ bits)) (and_true b)
    ∙ ap (λ (x : Bool). b || x) (more_match b bits (single_ones (length bits)) ∙ single_match bits)

one_cube : (on : Bool) (cube : List ℕ) (bits : List Bool) → value_by on (cube ∷ []) bits ≡ value_where on (matches cube bits)
one_cube true cube bits = or_false (matches cube bits)
one_cube false cube bits = ap not (or_false (matches cube bits))

some_cubes : (on : Bool) (c : List ℕ) (cubes : List (List ℕ)) (bits : List Bool) → value_by on (c ∷ cubes) bits ≡ value_where on (is_matched (c ∷ cubes) bits)
some_cubes true c cubes bits = refl
some_cubes false c cubes bits = refl

pub and_value : (on : Bool) (bits : List Bool) → cover_value (and_cover (length bits) on) bits ≡ value_where on (list_all itself bits)
unfolding cover_value
and_value on bits = one_cube on (ones (length bits)) bits ∙ ap (value_where on) (ones_match bits)

pub or_value : (on : Bool) (bits : List Bool) → 0 < length bits → cover_value (or_cover (length bits) on) bits ≡ value_where on (list_any itself bits)
unfolding cover_value
or_value on [] some = absurd (omega arith)
or_value on (b ∷ bits) some =
    some_cubes on (49 ∷ dashes (length bits)) (map (λ cube. 45 ∷ cube) (single_ones (length bits))) (b ∷ bits) ∙ ap (value_where on) (single_match (b ∷ bits))

pub xor_value : (width : ℕ) (on : Bool) (bits : List Bool) → cover_value (xor_cover width on) bits ≡ value_where on (is_odd bits)
unfolding cover_value
xor_value width on bits = refl

-- ---- their gates

ones_literals : (inputs : List Sig) → literals (ones (length inputs)) inputs ≡ unsigned inputs
unfolding literals unsigned
ones_literals [] = refl
ones_literals (a ∷ inputs) = ap (λ (ss : List Signed). signed a false ∷ ss) (ones_literals inputs)

dashes_literals : (n : ℕ) (inputs : List Sig) → literals (dashes n) inputs ≡ []
unfolding literals
dashes_literals zero inputs = refl
dashes_literals (suc n) [] = refl
dashes_literals (suc n) (a ∷ inputs) = dashes_literals n inputs

-- each cube has one literal, an input that isn't complemented
abbrev AreSingle : List Sig → List (List ℕ) → List Sig → Type 0
AreSingle inputs [] [] = Unit {0}
AreSingle inputs [] (s ∷ ss) = ⊥
AreSingle inputs (c ∷ cubes) [] = ⊥
AreSingle inputs (c ∷ cubes) (s ∷ ss) = (literals c inputs ≡ signed s false ∷ []) × AreSingle inputs cubes ss

more_single : (a : Sig) (inputs : List Sig) (cubes : List (List ℕ)) (ss : List Sig) → AreSingle inputs cubes ss → AreSingle (a ∷ inputs) (map (λ cube. 45 ∷ cube) cubes) ss
unfolding literals
more_single a inputs [] [] are = tt
more_single a inputs [] (s ∷ ss) are = are
more_single a inputs (c ∷ cubes) [] are = are
more_single a inputs (c ∷ cubes) (s ∷ ss) are = (are.0, more_single a inputs cubes ss are.1)

single_literals : (inputs : List Sig) → AreSingle inputs (single_ones (length inputs)) inputs
unfolding literals
single_literals [] = tt
single_literals (a ∷ inputs) =
    (ap (λ (ss : List Signed). signed a false ∷ ss) (dashes_literals (length inputs) inputs), more_single a inputs (single_ones (length inputs)) inputs (single_literals inputs))

abbrev made : List Gate → List Signed → Terms
made gates outs = record { gates = gates; outs = outs }

-- a cube of one literal needs no gate
single_terms : (sources : ℕ) (inputs : List Sig) (gates : List Gate) (outs : List Signed) (cubes : List (List ℕ))
    (ss : List Sig) → AreSingle inputs cubes ss → terms_from sources inputs (made gates outs) cubes ≡
    made gates (outs ++ unsigned ss)
unfolding terms_from unsigned join_all join_from
single_terms sources inputs gates outs [] [] are = ap (made gates) (sym (append-nil outs))
single_terms sources inputs gates outs [] (s ∷ ss) are = absurd are
single_terms sources inputs gates outs (c ∷ cubes) [] are = absurd are
single_terms sources inputs gates outs (c ∷ cubes) (s ∷ ss) are =
    ap (λ (ls : List Signed). terms_from sources inputs (made (join_all and_word sources gates ls).gates (outs ++ (join_all and_word sources gates ls).out ∷ [])) cubes) are.0
    ∙ single_terms sources inputs gates (outs ++ signed s false ∷ []) cubes ss are.1
    ∙ ap (made gates) (append_assoc outs (signed s false ∷ []) (unsigned ss))

or_joins_inputs : (sources : ℕ) (gates : List Gate) (inputs : List Sig) →
    or_built sources (terms_from sources inputs (made gates []) (single_ones (length inputs))) ≡
    join_all or_word sources gates (unsigned inputs)
or_joins_inputs sources gates inputs =
    ap (or_built sources) (single_terms sources inputs gates [] (single_ones (length inputs)) inputs (single_literals inputs))

and_joins_inputs : (sources : ℕ) (gates : List Gate) (inputs : List Sig) →
    or_built sources (terms_from sources inputs (made gates []) (ones (length inputs) ∷ [])) ≡
    join_all and_word sources gates (unsigned inputs)
unfolding terms_from join_all join_from
and_joins_inputs sources gates inputs =
    ap (λ (ls : List Signed). let j : Joined = join_all and_word sources gates ls in j) (ones_literals inputs)

-- these covers aren't recognized as constant
ones_ask : (n : ℕ) → is_constant_cover (ones (suc n) ∷ []) ≡ false
unfolding has_no_literal
ones_ask n = refl

more_ask : (cubes : List (List ℕ)) → list_any has_no_literal (map (λ cube. 45 ∷ cube) cubes) ≡ list_any has_no_literal cubes
unfolding has_no_literal
more_ask [] = refl
more_ask (c ∷ cubes) = ap (λ (x : Bool). has_no_literal c || x) (more_ask cubes)

singles_ask : (n : ℕ) → list_any has_no_literal (single_ones n) ≡ false
unfolding has_no_literal
singles_ask zero = refl
singles_ask (suc n) = more_ask (single_ones n) ∙ singles_ask n

pub and_built : (sources : ℕ) (gates : List Gate) (on : Bool) (inputs : List Sig) → 0 < length inputs →
    wide_built sources gates (and_cover (length inputs) on) inputs ≡
    finished_by sources (length gates) on (join_all and_word sources gates (unsigned inputs))
unfolding wide_built cover_built
and_built sources gates on [] some = absurd (omega arith)
and_built sources gates on (a ∷ inputs) some =
    cond-false (is_constant_cover (ones (suc (length inputs)) ∷ [])) _ _ (ones_ask (length inputs))
    ∙ ap (finished_by sources (length gates) on) (and_joins_inputs sources gates (a ∷ inputs))

pub or_built_wide : (sources : ℕ) (gates : List Gate) (on : Bool) (inputs : List Sig) → 0 < length inputs →
    wide_built sources gates (or_cover (length inputs) on) inputs ≡
    finished_by sources (length gates) on (join_all or_word sources gates (unsigned inputs))
unfolding wide_built cover_built
or_built_wide sources gates on [] some = absurd (omega arith)
or_built_wide sources gates on (a ∷ inputs) some =
    cond-false (is_constant_cover (single_ones (suc (length inputs)))) _ _ (singles_ask (suc (length inputs)))
    ∙ ap (finished_by sources (length gates) on) (or_joins_inputs sources gates (a ∷ inputs))

pub xor_built : (sources : ℕ) (gates : List Gate) (on : Bool) (inputs : List Sig) →
    wide_built sources gates (xor_cover (length inputs) on) inputs ≡
    finished_by sources (length gates) on (join_all xor_word sources gates (unsigned inputs))
unfolding wide_built parity_built
xor_built sources gates on inputs = refl

-- ---- their costs

ones_count : (n : ℕ) → literal_count (ones n) ≡ n
ones_count zero = refl
ones_count (suc n) = omega (arith, sum_by-cons (λ b. if b == 48 || b == 49 then 1 else 0) 49 (ones n), ones_count n)

dashes_count : (n : ℕ) → literal_count (dashes n) ≡ 0
dashes_count zero = refl
dashes_count (suc n) = omega (arith, sum_by-cons (λ b. if b == 48 || b == 49 then 1 else 0) 45 (dashes n), dashes_count n)

more_sum : (cubes : List (List ℕ)) → literal_sum (map (λ cube. 45 ∷ cube) cubes) ≡ literal_sum cubes
more_sum [] = refl
more_sum (c ∷ cubes) =
    omega (arith, sum_by-cons literal_count (45 ∷ c) (map (λ cube. 45 ∷ cube) cubes), sum_by-cons literal_count c cubes, sum_by-cons (λ b. if b == 48 || b == 49 then 1 else 0) 45 c, more_sum cubes)

singles_sum : (n : ℕ) → literal_sum (single_ones n) ≡ n
singles_sum zero = refl
singles_sum (suc n) =
    omega (
      arith,
      sum_by-cons literal_count (49 ∷ dashes n) (map (λ cube. 45 ∷ cube) (single_ones n)),
      sum_by-cons (λ b. if b == 48 || b == 49 then 1 else 0) 49 (dashes n),
      dashes_count n,
      more_sum (single_ones n),
      singles_sum n,
    )

pub and_cost : (n : ℕ) (on : Bool) → 2 ≤ n → wide_cost (and_cover n on) ≡ n - 1
unfolding wide_cost cubes_cost
and_cost zero on two = absurd (omega arith)
and_cost (suc n) on two =
    let count : literal_count (ones (suc n)) ≡ suc n = ones_count (suc n) in
    let other : (literal_count (ones (suc n)) == 1) ≡ false = ne_eqb (literal_count (ones (suc n))) 1 (λ e. omega arith) in
    cond-false (is_constant_cover (ones (suc n) ∷ [])) 0 _ (ones_ask n)
    ∙ ap (λ (t : Bool). (literal_sum (ones (suc n) ∷ []) - 1) + (if t && (if on then count_by (λ b. b == 48) (ones (suc n)) == 1 else count_by (λ b. b == 48) (ones (suc n)) == 0) then 1 else 0)) other
    ∙ omega (arith, sum_by-cons literal_count (ones (suc n)) [], count)

pub or_cost : (n : ℕ) (on : Bool) → 2 ≤ n → wide_cost (or_cover n on) ≡ n - 1
unfolding wide_cost cubes_cost
or_cost zero on two = absurd (omega arith)
or_cost (suc zero) on two = absurd (omega arith)
or_cost (suc (suc n)) on two =
    cond-false (is_constant_cover (single_ones (suc (suc n)))) 0 _ (singles_ask (suc (suc n)))
    ∙ omega (arith, singles_sum (suc (suc n)))

pub xor_cost : (n : ℕ) (on : Bool) → wide_cost (xor_cover n on) ≡ n - 1
unfolding wide_cost
xor_cost n on = refl
