-- Tables of more than two inputs: the values and the number of their gates.
use Rattle.std.specs.Prelude.{◌≡◌, ℕ, suc, ◌+◌, ◌-◌, ◌≤◌, ◌<◌, Bool, true, false, not, ◌&&◌, ◌||◌, ◌==◌, if◌then◌else◌, List, [], ◌∷◌, ◌++◌, length, map, count_by, refl}
use Rattle.std.proofs.Common.{arith, sym, ◌∙◌, ap, subst, inl, inr, ⊎_elim, append_assoc, length-append}
use Rattle.std.proofs.Math.Bool.{and_assoc, or_assoc}
use Rattle.std.proofs.lemmas.Bool.Decides.{nat_tests}
use Rattle.std.proofs.lemmas.Grind.{common_steps}
use Rattle.std.proofs.lemmas.List.{map-append}
use Rattle.std.proofs.lemmas.List.Sums.{sum_by-cons}
use Rattle.net_theory.specs.declared.data.Sig.{Sig}
use Rattle.net_theory.specs.declared.data.Gate.{Gate}
use Rattle.net_theory.specs.declared.data.Signed.{Signed}
use Rattle.net_theory.specs.Net.{IsSigBelow, AreGates, sig_value, values_of}
use Rattle.net_theory.specs.Cover.{matches, is_matched}
use Rattle.net_theory.specs.Cost.{literal_count, literal_sum}
use Rattle.net_theory.specs.Expansion.{join_from, join_all, signed, literals, and_word, or_word, Terms, terms_from, or_built}
use Rattle.net_theory.specs.ValueLaws.{ExtendsGates, grown_none, grown_more, grown_sig, below_later}
use Rattle.net_theory.specs.JoinLaws.{signed_value, IsSignedBelow, AreSignedBelow, and_joins, or_joins, fold_from, IsJoinedSignal, grown_signed, joined_all, bit_from}

-- ---- literals

abbrev pub AreSigsBelow : ℕ → List Sig → Type 0
AreSigsBelow node [] = Unit {0}
AreSigsBelow node (s ∷ ss) = IsSigBelow node s × AreSigsBelow node ss

pub sigs_below_later : (ss : List Sig) (p q : ℕ) → p ≤ q → AreSigsBelow p ss → AreSigsBelow q ss
sigs_below_later [] p q low b = tt
sigs_below_later (s ∷ ss) p q low b = (below_later s p q low b.0, sigs_below_later ss p q low b.1)

pub signed_below_later : (ss : List Signed) (p q : ℕ) → p ≤ q → AreSignedBelow p ss → AreSignedBelow q ss
signed_below_later [] p q low b = tt
signed_below_later (s ∷ ss) p q low b = (below_later s.sig p q low b.0, signed_below_later ss p q low b.1)

abbrev with_literal : Bool → Bool → Sig → List Signed → List Signed
with_literal is_one is_zero a rest = if is_one then signed a false ∷ rest else (if is_zero then signed a true ∷ rest else rest)

below_step : (is_one is_zero : Bool) (node : ℕ) (a : Sig) (rest : List Signed) → IsSigBelow node a → AreSignedBelow node rest → AreSignedBelow node (with_literal is_one is_zero a rest)
below_step true z node a rest b r = (b, r)
below_step false true node a rest b r = (b, r)
below_step false false node a rest b r = r

literals_below : (node : ℕ) (cube : List ℕ) (inputs : List Sig) → AreSigsBelow node inputs → AreSignedBelow node (literals cube inputs)
unfolding literals
literals_below node [] inputs b = tt
literals_below node (c ∷ cube) [] b = tt
literals_below node (c ∷ cube) (a ∷ inputs) b = below_step (c == 49) (c == 48) node a (literals cube inputs) b.0 (literals_below node cube inputs b.1)

abbrev and_of : Bool → Bool → Bool
and_of a b = a && b

value_step : (is_one is_zero : Bool) (bits : ℕ → Bool) (a : Sig) (rest : List Signed) (b m : Bool) →
    ((x : Bool) → fold_from and_of x (map (signed_value bits) rest) ≡ (x && m)) →
    fold_from and_of b (map (signed_value bits) (with_literal is_one is_zero a rest)) ≡
    (b && ((if is_one then sig_value bits a else (if is_zero then not (sig_value bits a) else true)) && m))
unfolding fold_from
value_step true z bits a rest b m ih = ih (b && sig_value bits a) ∙ and_assoc b (sig_value bits a) m
value_step false true bits a rest b m ih = ih (b && not (sig_value bits a)) ∙ and_assoc b (not (sig_value bits a)) m
value_step false false bits a rest b m ih = ih b

and_true : (b : Bool) → b ≡ (b && true)
and_true true = refl
and_true false = refl

-- AND of the literals is 1 exactly if the cube covers the minterm.
literals_value : (bits : ℕ → Bool) (cube : List ℕ) (inputs : List Sig) (b : Bool) →
    fold_from and_of b (map (signed_value bits) (literals cube inputs)) ≡
    (b && matches cube (map (sig_value bits) inputs))
unfolding literals matches fold_from
literals_value bits [] inputs b = and_true b
literals_value bits (c ∷ cube) [] b = and_true b
literals_value bits (c ∷ cube) (a ∷ inputs) b =
    value_step (c == 49) (c == 48) bits a (literals cube inputs) b (matches cube (map (sig_value bits) inputs)) (literals_value bits cube inputs)

count_step : (is_one is_zero : Bool) (a : Sig) (rest : List Signed) (n : ℕ) → length rest ≡ n → length (with_literal is_one is_zero a rest) ≡ (if is_zero || is_one then 1 else 0) + n
count_step true true a rest n e = omega arith
count_step true false a rest n e = omega arith
count_step false true a rest n e = omega arith
count_step false false a rest n e = omega arith

pub literals_count : (cube : List ℕ) (inputs : List Sig) → length cube ≡ length inputs → length (literals cube inputs) ≡ literal_count cube
unfolding literals
literals_count [] inputs e = refl
literals_count (c ∷ cube) [] e = absurd (omega arith)
literals_count (c ∷ cube) (a ∷ inputs) e =
    count_step (c == 49) (c == 48) a (literals cube inputs) (literal_count cube) (literals_count cube inputs (omega arith))
    ∙ sym (sum_by-cons (λ b. if b == 48 || b == 49 then 1 else 0) c cube)

abbrev pub turned_count : List Signed → ℕ
turned_count ss = count_by (λ (s : Signed). s.turned) ss

turned_step : (is_one is_zero : Bool) (a : Sig) (rest : List Signed) (n : ℕ) → (is_one ≡ true → is_zero ≡ false) →
    turned_count rest ≡ n → turned_count (with_literal is_one is_zero a rest) ≡ (if is_zero then 1 else 0) + n
turned_step true true a rest n one e = absurd (let h : true ≡ false = one refl in cc)
turned_step true false a rest n one e = sum_by-cons (λ (s : Signed). if s.turned then 1 else 0) (signed a false) rest ∙ ap (λ k. 0 + k) e
turned_step false true a rest n one e = sum_by-cons (λ (s : Signed). if s.turned then 1 else 0) (signed a true) rest ∙ ap (λ k. 1 + k) e
turned_step false false a rest n one e = omega arith

one_not_zero : (c : ℕ) → (c == 49) ≡ true → (c == 48) ≡ false
one_not_zero c e = grind (arith, nat_tests)

-- as many literals are complemented as the cube has zeros
pub literals_turned : (cube : List ℕ) (inputs : List Sig) → length cube ≡ length inputs → turned_count (literals cube inputs) ≡ count_by (λ b. b == 48) cube
unfolding literals
literals_turned [] inputs e = refl
literals_turned (c ∷ cube) [] e = absurd (omega arith)
literals_turned (c ∷ cube) (a ∷ inputs) e =
    turned_step (c == 49) (c == 48) a (literals cube inputs) (count_by (λ b. b == 48) cube) (one_not_zero c) (literals_turned cube inputs (omega arith))
    ∙ sym (sum_by-cons (λ b. if b == 48 then 1 else 0) c cube)

-- ---- cubes

abbrev pub matched_at : ℕ → List Gate → List Sig → List ℕ → (ℕ → Bool) → Bool
matched_at sources gates inputs cube given = matches cube (map (sig_value (values_of given sources gates)) inputs)

cube_joined_by : (sources : ℕ) (old : List Gate) (inputs : List Sig) (cube : List ℕ) (ls : List Signed) →
    literals cube inputs ≡ ls → length ls ≡ literal_count cube → 0 < literal_count cube → AreGates sources old →
    AreSignedBelow (sources + 1 + length old) ls →
    IsJoinedSignal sources old (literal_count cube - 1) (matched_at sources old inputs cube)
    (join_all and_word sources old ls)
cube_joined_by sources old inputs cube [] e size some are below = absurd (omega arith)
cube_joined_by sources old inputs cube (s ∷ ss) e size some are below =
    let is : IsJoinedSignal sources old (length ss) (bit_from and_of sources old (λ given. true) (s ∷ ss))
    (join_all and_word sources old (s ∷ ss)) =
    joined_all and_word and_of true sources old s ss and_joins (λ b. refl) are below in
    let more : length ss ≡ literal_count cube - 1 = omega arith in
    record {
      grown = is.grown;
      count = omega (arith, is.count);
      below = is.below;
      value = λ given. is.value given
          ∙ ap (λ (xs : List Signed). fold_from and_of true (map (signed_value (values_of given sources old)) xs)) (sym e)
          ∙ literals_value (values_of given sources old) cube inputs true;
      last = ⊎_elim (λ none. inl (omega arith)) (λ l. inr l) is.last;
    }

-- a cube with a literal
pub cube_joined : (sources : ℕ) (old : List Gate) (inputs : List Sig) (cube : List ℕ) → length cube ≡ length inputs →
    0 < literal_count cube → AreGates sources old → AreSigsBelow (sources + 1 + length old) inputs →
    IsJoinedSignal sources old (literal_count cube - 1) (matched_at sources old inputs cube)
    (join_all and_word sources old (literals cube inputs))
cube_joined sources old inputs cube wide some are below =
    cube_joined_by sources old inputs cube (literals cube inputs) refl (literals_count cube inputs wide) some are (literals_below (sources + 1 + length old) cube inputs below)

-- ---- several cubes

-- each cube is `width` bytes wide and has a literal
abbrev pub AreTerms : ℕ → List (List ℕ) → Type 0
AreTerms width [] = Unit {0}
AreTerms width (c ∷ cubes) = (length c ≡ width) × (0 < literal_count c) × AreTerms width cubes

-- the number of gates of the cubes before they are joined
abbrev pub term_gates : List (List ℕ) → ℕ
term_gates [] = 0
term_gates (c ∷ cubes) = (literal_count c - 1) + term_gates cubes

pub term_gates_sum : (width : ℕ) (cubes : List (List ℕ)) → AreTerms width cubes → term_gates cubes + length cubes ≡ literal_sum cubes
term_gates_sum width [] are = refl
term_gates_sum width (c ∷ cubes) are =
    omega (arith, term_gates_sum width cubes are.2, are.1, sum_by-cons literal_count c cubes)

abbrev pub matches_of : ℕ → List Gate → List Sig → List (List ℕ) → (ℕ → Bool) → List Bool
matches_of sources gates inputs cubes given = map (λ c. matched_at sources gates inputs c given) cubes

pub record AreBuilt (sources : ℕ) (old : List Gate) (inputs : List Sig) (done : List (List ℕ)) (more : ℕ) (t : Terms) : Type 0 where
  pub grown : ExtendsGates sources old t.gates
  pub count : length t.gates ≡ length old + more
  pub size : length t.outs ≡ length done
  pub below : AreSignedBelow (sources + 1 + length t.gates) t.outs
  pub values : (given : ℕ → Bool) → map (signed_value (values_of given sources t.gates)) t.outs ≡ matches_of sources old inputs done given

same_values : (sources : ℕ) (old new : List Gate) (inputs : List Sig) (given : ℕ → Bool) →
    ExtendsGates sources old new → AreSigsBelow (sources + 1 + length old) inputs →
    map (sig_value (values_of given sources new)) inputs ≡ map (sig_value (values_of given sources old)) inputs
same_values sources old new [] given grown below = refl
same_values sources old new (a ∷ inputs) given grown below =
    rw (grown_sig sources old new a given grown below.0, same_values sources old new inputs given grown below.1) refl

same_signed : (sources : ℕ) (old new : List Gate) (ss : List Signed) (given : ℕ → Bool) →
    ExtendsGates sources old new → AreSignedBelow (sources + 1 + length old) ss →
    map (signed_value (values_of given sources new)) ss ≡ map (signed_value (values_of given sources old)) ss
same_signed sources old new [] given grown below = refl
same_signed sources old new (s ∷ ss) given grown below =
    rw (grown_signed sources old new s given grown below.0, same_signed sources old new ss given grown below.1) refl

below_push : (node : ℕ) (ss : List Signed) (s : Signed) → AreSignedBelow node ss → IsSignedBelow node s → AreSignedBelow node (ss ++ s ∷ [])
below_push node [] s b is = (is, tt)
below_push node (r ∷ ss) s b is = (b.0, below_push node ss s b.1 is)

-- one more cube
cube_built : (sources : ℕ) (old : List Gate) (inputs : List Sig) (done : List (List ℕ)) (more : ℕ) (t : Terms)
    (c : List ℕ) → AreBuilt sources old inputs done more t → AreSigsBelow (sources + 1 + length old) inputs →
    length c ≡ length inputs → 0 < literal_count c →
    AreBuilt sources old inputs (done ++ c ∷ []) (more + (literal_count c - 1))
    (record {
      gates = (join_all and_word sources t.gates (literals c inputs)).gates;
      outs = t.outs ++
          (join_all and_word sources t.gates (literals c inputs)).out ∷ [];
    })
cube_built sources old inputs done more t c is below wide some =
    let later : AreSigsBelow (sources + 1 + length t.gates) inputs = sigs_below_later inputs (sources + 1 + length old) (sources + 1 + length t.gates) (omega (arith, is.grown.longer)) below in
    let j : IsJoinedSignal sources t.gates (literal_count c - 1) (matched_at sources t.gates inputs c)
    (join_all and_word sources t.gates (literals c inputs)) =
    cube_joined sources t.gates inputs c wide some is.grown.gates later in
    let new : List Gate = (join_all and_word sources t.gates (literals c inputs)).gates in
    let out : Signed = (join_all and_word sources t.gates (literals c inputs)).out in
    record {
      grown = grown_more sources old t.gates new is.grown j.grown;
      count = omega (arith, is.count, j.count);
      size = omega (arith, is.size, length-append t.outs (out ∷ []), length-append done (c ∷ []));
      below = below_push (sources + 1 + length new) t.outs out (signed_below_later t.outs (sources + 1 + length t.gates) (sources + 1 + length new) (omega (arith, j.grown.longer)) is.below) j.below;
      values = λ given.
          map-append (signed_value (values_of given sources new)) t.outs (out ∷ [])
          ∙ ap (λ (xs : List Bool). xs ++ signed_value (values_of given sources new) out ∷ []) (same_signed sources t.gates new t.outs given j.grown is.below ∙ is.values given)
          ∙ ap (λ (x : Bool). matches_of sources old inputs done given ++ x ∷ []) (j.value given
          ∙ ap (λ (bits : List Bool). matches c bits) (same_values sources old t.gates inputs given is.grown below))
          ∙ sym (map-append (λ x. matched_at sources old inputs x given) done (c ∷ []));
    }

-- the rest of them
pub cubes_built : (sources : ℕ) (old : List Gate) (inputs : List Sig) (done : List (List ℕ)) (more : ℕ) (t : Terms)
    (cubes : List (List ℕ)) → AreBuilt sources old inputs done more t →
    AreSigsBelow (sources + 1 + length old) inputs → AreTerms (length inputs) cubes →
    AreBuilt sources old inputs (done ++ cubes) (more + term_gates cubes) (terms_from sources inputs t cubes)
unfolding terms_from
cubes_built sources old inputs done more t [] is below are =
    grind (arith, common_steps)
cubes_built sources old inputs done more t (c ∷ cubes) is below are =
    let next : Terms = record { gates = (join_all and_word sources t.gates (literals c inputs)).gates; outs = t.outs ++ (join_all and_word sources t.gates (literals c inputs)).out ∷ [] } in
    let e : (more + (literal_count c - 1)) + term_gates cubes ≡ more + ((literal_count c - 1) + term_gates cubes) = omega arith in
    let rest : AreBuilt sources old inputs ((done ++ c ∷ []) ++
    cubes) ((more + (literal_count c - 1)) + term_gates cubes) (terms_from sources inputs next cubes) =
    cubes_built sources old inputs (done ++ c ∷ []) (more + (literal_count c - 1)) next cubes
    (cube_built sources old inputs done more t c is below are.0 are.1) below are.2 in
    let counted : AreBuilt sources old inputs ((done ++ c ∷ []) ++
    cubes) (more + ((literal_count c - 1) + term_gates cubes)) (terms_from sources inputs next cubes) =
    subst (λ (k : ℕ). AreBuilt sources old inputs ((done ++ c ∷ []) ++
    cubes) k (terms_from sources inputs next cubes)) e rest in
    subst (λ (xs : List (List ℕ)). AreBuilt sources old inputs xs (more + ((literal_count c - 1) + term_gates cubes)) (terms_from sources inputs next cubes)) (append_assoc done (c ∷ []) cubes) counted

-- ---- the OR of the cubes

abbrev or_of : Bool → Bool → Bool
or_of a b = a || b

or_false : (b : Bool) → b ≡ (b || false)
or_false true = refl
or_false false = refl

fold_or : (bits : List Bool) (cubes : List (List ℕ)) (b : Bool) → fold_from or_of b (map (λ c. matches c bits) cubes) ≡ (b || is_matched cubes bits)
unfolding fold_from
fold_or bits [] b = or_false b
fold_or bits (c ∷ cubes) b = fold_or bits cubes (b || matches c bits) ∙ or_assoc b (matches c bits) (is_matched cubes bits)

-- whether some cube covers the minterm
abbrev pub any_matched : ℕ → List Gate → List Sig → List (List ℕ) → (ℕ → Bool) → Bool
any_matched sources gates inputs cubes given = is_matched cubes (map (sig_value (values_of given sources gates)) inputs)

or_joined_by : (sources : ℕ) (old : List Gate) (inputs : List Sig) (cubes : List (List ℕ)) (more : ℕ) (t : Terms)
    (outs : List Signed) → t.outs ≡ outs → AreBuilt sources old inputs cubes more t → 1 < length cubes →
    IsJoinedSignal sources old (more + (length cubes - 1)) (any_matched sources old inputs cubes)
    (join_all or_word sources t.gates outs)
or_joined_by sources old inputs cubes more t [] e is some = absurd (omega (arith, is.size, ap (length {A = Signed}) e))
or_joined_by sources old inputs cubes more t (s ∷ []) e is some = absurd (omega (arith, is.size, ap (length {A = Signed}) e))
or_joined_by sources old inputs cubes more t (s ∷ r ∷ ss) e is some =
    let size : suc (length (r ∷ ss)) ≡ length cubes = ap (length {A = Signed}) (sym e) ∙ is.size in
    let below : AreSignedBelow (sources + 1 + length t.gates) (s ∷ r ∷ ss) = subst (λ (xs : List Signed). AreSignedBelow (sources + 1 + length t.gates) xs) e is.below in
    let j : IsJoinedSignal sources t.gates (length (r ∷ ss))
    (bit_from or_of sources t.gates (λ given. false) (s ∷ r ∷ ss)) (join_all or_word sources t.gates (s ∷ r ∷ ss)) =
    joined_all or_word or_of false sources t.gates s (r ∷ ss) or_joins (λ b. refl) is.grown.gates below in
    record {
      grown = grown_more sources old t.gates (join_all or_word sources t.gates (s ∷ r ∷ ss)).gates is.grown j.grown;
      count = omega (arith, is.count, j.count, size);
      below = j.below;
      value = λ given. j.value given
          ∙ ap (λ (xs : List Signed). fold_from or_of false (map (signed_value (values_of given sources t.gates)) xs)) (sym e)
          ∙ ap (fold_from or_of false) (is.values given)
          ∙ fold_or (map (sig_value (values_of given sources old)) inputs) cubes false;
      last = ⊎_elim (λ none. absurd (omega arith)) (λ l. inr l) j.last;
    }

abbrev pub no_terms : List Gate → Terms
no_terms gates = record { gates = gates; outs = [] }

none_built : (sources : ℕ) (old : List Gate) (inputs : List Sig) → AreGates sources old → AreBuilt sources old inputs [] 0 (no_terms old)
none_built sources old inputs are =
    record { grown = grown_none sources old are; count = omega arith; size = refl; below = tt; values = λ given. refl }

-- The OR of all cubes.
pub cover_joined : (sources : ℕ) (old : List Gate) (inputs : List Sig) (cubes : List (List ℕ)) → AreGates sources old →
    AreSigsBelow (sources + 1 + length old) inputs → AreTerms (length inputs) cubes → 0 < length cubes →
    IsJoinedSignal sources old (literal_sum cubes - 1) (any_matched sources old inputs cubes)
    (or_built sources (terms_from sources inputs (no_terms old) cubes))
unfolding terms_from join_all join_from
cover_joined sources old inputs [] are below terms some = absurd (omega arith)
cover_joined sources old inputs (c ∷ []) are below terms some =
    let is : IsJoinedSignal sources old (literal_count c - 1) (matched_at sources old inputs c)
    (join_all and_word sources old (literals c inputs)) =
    cube_joined sources old inputs c terms.0 terms.1 are below in
    let e : literal_count c - 1 ≡ literal_sum (c ∷ []) - 1 = omega (arith, sum_by-cons literal_count c []) in
    record {
      grown = is.grown;
      count = omega (arith, is.count);
      below = is.below;
      value = λ given. is.value given ∙ or_false (matched_at sources old inputs c given);
      last = ⊎_elim (λ none. inl (omega arith)) (λ l. inr l) is.last;
    }
cover_joined sources old inputs (c ∷ d ∷ cubes) are below terms some =
    let t : Terms = terms_from sources inputs (no_terms old) (c ∷ d ∷ cubes) in
    let built : AreBuilt sources old inputs (c ∷ d ∷ cubes) (0 + term_gates (c ∷ d ∷ cubes)) t =
    cubes_built sources old inputs [] 0 (no_terms old) (c ∷ d ∷ cubes)
    (none_built sources old inputs are) below terms in
    let is : IsJoinedSignal sources old ((0 + term_gates (c ∷ d ∷ cubes)) + (length (c ∷ d ∷ cubes) - 1))
    (any_matched sources old inputs (c ∷ d ∷ cubes)) (join_all or_word sources t.gates t.outs) =
    or_joined_by sources old inputs (c ∷ d ∷ cubes) (0 + term_gates (c ∷ d ∷ cubes)) t t.outs refl built
    (omega arith) in
    let e : (0 + term_gates (c ∷ d ∷ cubes)) + (length (c ∷ d ∷ cubes) - 1) ≡ literal_sum (c ∷ d ∷ cubes) - 1 = omega (arith, term_gates_sum (length inputs) (c ∷ d ∷ cubes) terms) in
    subst (λ (k : ℕ). IsJoinedSignal sources old k (any_matched sources old inputs (c ∷ d ∷ cubes)) (join_all or_word sources t.gates t.outs)) e is
