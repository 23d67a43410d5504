-- The tables of a circuit's document in their order: each reads only names that are driven before it, and drives a new one.
use Rattle.std.proofs.Common.{◌≡◌, ℕ, zero, suc, ◌+◌, ◌-◌, ◌*◌, ◌/◌, ◌%◌, ◌^◌, ◌≤◌, ◌<◌, true, false, List, []}
use Rattle.std.proofs.Common.{◌∷◌, ◌++◌, length, map, refl, ap, ◌∙◌, sym, subst, arith, append_assoc, append-nil, inl, inr, ⊎_elim, ◌⊎◌}
use Rattle.std.specs.Prelude.{◌==◌, All, decimal, codes, slice_get, slice_index_or, Some}
use Rattle.std.proofs.lemmas.Bool.{both_ways, cond_both, false_from_ne_true, eqb-true, eq-eqb, cases_lt}
use Rattle.std.proofs.lemmas.Fmt.{decimal_injective}
use Rattle.std.proofs.lemmas.List.Elements.{All-head, All-tail}
use Rattle.net_theory.specs.Document.{Name, has, Table, table_output}
use Rattle.net_theory.specs.NameLaws.{has_first, has_later, has_cases, has_none, has_index, has_left, has_right, has_either, all_has}
use Rattle.aiger_text.specs.declared.file.AigGate.{AigGate}
use Rattle.aiger_text.specs.Naming.{numbered, name_at}
use Rattle.aiger_text.specs.Meaning.{Signals, gate_table, sink_name, needs_not, not_table, not_tables, is_driver, output_tables, unary_table}
use Rattle.aiger_laws.specs.Writable.{IsFreeName}
use Rattle.aiger_laws.proofs.MappedShape.{IsGateOf}
use Rattle.aiger_laws.proofs.WrittenSignals.{AreGatesFrom, later_gates}
use Rattle.blif_laws.specs.Layers.{IsLayer, AreLayered}

-- ---- reserved names

abbrev pub reserved : ℕ → Name
reserved k = numbered (codes "&") k

pub reserved_same : (j k : ℕ) → j < 2 ^ 64 → k < 2 ^ 64 → reserved j ≡ reserved k → j ≡ k
reserved_same j k low_j low_k e = decimal_injective j k low_j low_k (tail_same (decimal j) (decimal k) e) where
  tail_same : (xs ys : List ℕ) → 38 ∷ xs ≡ 38 ∷ ys → xs ≡ ys
  tail_same xs ys f = cc

-- a reserved name isn't free
pub never_free : (k : ℕ) → IsFreeName (reserved k) → ⊥
never_free k e = absurd cc

-- which reserved names may be driven before the even variable e and the odd one o
abbrev pub Taken : ℕ → ℕ → ℕ → Type 0
Taken e o k = (k ≤ 1) ⊎ (((k % 2 ≡ 0) × (k < e * 2)) ⊎ ((k % 2 ≡ 1) × (k < o * 2)))

-- ---- the names driven so far

-- the sources, the constants, the variables below e and the complements below o
pub record AreBefore (s : Signals) (sources : List Name) (e o : ℕ) (bs : List Name) : Type 0 where
  pub small : (e < 2 ^ 32) × (o < 2 ^ 32)
  pub one : has bs (reserved 1) ≡ true
  pub had : (w : ℕ) → w < e → has bs (slice_index_or s.names w (codes "&")) ≡ true
  pub nots : (w : ℕ) → 1 ≤ w → w < o → needs_not s w ≡ true → has bs (reserved (w * 2 + 1)) ≡ true
  pub from : (n : Name) → has bs n ≡ true → (has sources n ≡ true) ⊎ ((k : ℕ) × (n ≡ reserved k) × Taken e o k)

taken_low : (e o k : ℕ) → e < 2 ^ 32 → o < 2 ^ 32 → Taken e o k → k < 2 ^ 64
taken_low e o k low_e low_o (inl small) = omega (arith, small)
taken_low e o k low_e low_o (inr (inl even)) = omega (arith, even.1, low_e)
taken_low e o k low_e low_o (inr (inr odd)) = omega (arith, odd.1, low_o)

-- a reserved name that can't be driven yet isn't
fresh_name : (s : Signals) (sources : List Name) (e o k : ℕ) (bs : List Name) → AreBefore s sources e o bs → All IsFreeName sources → k < 2 ^ 64 →
    (Taken e o k → ⊥) → has bs (reserved k) ≡ false
fresh_name s sources e o k bs is free low never =
    false_from_ne_true (has bs (reserved k)) (λ there. ⊎_elim
    (λ source. never_free k (all_has IsFreeName sources (reserved k) free source))
    (λ other. let same : k ≡ other.0 = reserved_same k other.0 low (taken_low e o other.0 is.small.0 is.small.1 other.2) other.1 in
    never (subst (Taken e o) (sym same) other.2))
    (is.from (reserved k) there))

push_cases : (bs : List Name) (m n : Name) → has (bs ++ m ∷ []) n ≡ true → (has bs n ≡ true) ⊎ (n ≡ m)
push_cases bs m n e = ⊎_elim (λ old. inl old) (λ new. ⊎_elim (λ here. inr here) (λ none. absurd (has_none n none)) (has_cases m [] n new)) (has_either bs (m ∷ []) n e)

pushed : (bs : List Name) (n : Name) → has (bs ++ n ∷ []) n ≡ true
pushed bs n = has_right bs (n ∷ []) n (has_first n [])

-- ---- gates

even_more : (e o k : ℕ) → Taken e o k → Taken (e + 1) o k
even_more e o k (inl small) = inl small
even_more e o k (inr (inl even)) = inr (inl (even.0, omega (arith, even.1)))
even_more e o k (inr (inr odd)) = inr (inr odd)

gate_before : (s : Signals) (sources : List Name) (e o : ℕ) (bs : List Name) → AreBefore s sources e o bs → slice_index_or s.names e (codes "&") ≡ reserved (e * 2) →
    e + 1 < 2 ^ 32 → AreBefore s sources (e + 1) o (bs ++ reserved (e * 2) ∷ [])
gate_before s sources e o bs is name low = record {
  small = (low, is.small.1);
  one = has_left bs (reserved (e * 2) ∷ []) (reserved 1) is.one;
  had = λ w high. cond_both (w == e) 0 0 (λ (z : ℕ). has (bs ++ reserved (e * 2) ∷ []) (slice_index_or s.names w (codes "&")) ≡ true)
      (λ same. subst (λ (m : Name). has (bs ++ reserved (e * 2) ∷ []) m ≡ true) (sym (ap (λ (k : ℕ). slice_index_or s.names k (codes "&")) (eqb-true w e same) ∙ name)) (pushed bs (reserved (e * 2))))
      (λ other. has_left bs (reserved (e * 2) ∷ []) (slice_index_or s.names w (codes "&")) (is.had w (below w e other high)));
  nots = λ w from to needs. has_left bs (reserved (e * 2) ∷ []) (reserved (w * 2 + 1)) (is.nots w from to needs);
  from = λ n there. ⊎_elim
      (λ old. ⊎_elim (λ source. inl source) (λ other. inr (other.0, other.1, even_more e o other.0 other.2)) (is.from n old))
      (λ new. let even : e * 2 % 2 ≡ 0 = omega arith in inr (e * 2, new, inr (inl (even, omega arith))))
      (push_cases bs (reserved (e * 2)) n there);
} where
  below : (w e : ℕ) → (w == e) ≡ false → w < e + 1 → w < e
  below w e other high = ⊎_elim (λ lt. lt) (λ ge. absurd (let same : w ≡ e = omega (arith, ge, high) in both_ways (w == e) other (eq-eqb w e same))) (cases_lt w e)

-- the names of variables from e on are those of gates
abbrev pub AreGateNames : Signals → ℕ → ℕ → Type 0
AreGateNames s e n = (w : ℕ) → e ≤ w → w < e + n → slice_index_or s.names w (codes "&") ≡ reserved (w * 2)

-- gates, each of which is the variable after the one before it
pub gates_layered : (s : Signals) (sources : List Name) (e : ℕ) (bs : List Name) (gs : List AigGate) → AreBefore s sources e 1 bs → All IsFreeName sources → 1 ≤ e →
    e + length gs < 2 ^ 32 → AreGatesFrom e gs → AreGateNames s e (length gs) →
    AreLayered bs (map (gate_table s) gs) × AreBefore s sources (e + length gs) 1 (bs ++ map table_output (map (gate_table s) gs))
gates_layered s sources e bs [] is free some low each names =
    let size : e ≡ e + 0 = omega arith in
    (tt, subst (λ (k : ℕ). AreBefore s sources k 1 (bs ++ [])) size (subst (AreBefore s sources e 1) (sym (append-nil bs)) is))
gates_layered s sources e bs (g ∷ gs) is free some low each names =
    let here : IsGateOf (e + 0) g = each 0 g refl in
    let literal : g.literal / 2 ≡ e = omega (arith, here.literal) in
    let name : slice_index_or s.names e (codes "&") ≡ reserved (e * 2) = names e (omega arith) (omega arith) in
    let output : name_at s.names g.literal ≡ reserved (e * 2) = ap (λ (k : ℕ). slice_index_or s.names k (codes "&")) literal ∙ name in
    let next : AreBefore s sources (e + 1) 1 (bs ++ reserved (e * 2) ∷ []) = gate_before s sources e 1 bs is name (omega (arith, low)) in
    let size : e + 1 + length gs ≡ e + suc (length gs) = omega arith in
    let rest = gates_layered s sources (e + 1) (bs ++ reserved (e * 2) ∷ []) gs next free (omega arith) (omega (arith, low)) (later_gates e g gs each)
    (λ w from to. names w (omega (arith, from)) (omega (arith, to))) in
    let layer : IsLayer bs (gate_table s g) = record {
      fresh = ap (has bs) output ∙ fresh_name s sources e 1 (e * 2) bs is free (omega (arith, low)) (new e some);
      inputs = λ n read. ⊎_elim
          (λ first. subst (λ (m : Name). has bs m ≡ true) (sym first) (is.had (g.first / 2) (omega (arith, here.first))))
          (λ more. ⊎_elim
          (λ second. subst (λ (m : Name). has bs m ≡ true) (sym second) (is.had (g.second / 2) (omega (arith, here.second))))
          (λ none. absurd (has_none n none))
          (has_cases (name_at s.names g.second) [] n more))
          (has_cases (name_at s.names g.first) (name_at s.names g.second ∷ []) n read);
    } in (
      (layer, subst (λ (m : Name). AreLayered (bs ++ m ∷ []) (map (gate_table s) gs)) (sym output) rest.0),
      subst (λ (k : ℕ). AreBefore s sources k 1 (bs ++ map table_output (map (gate_table s) (g ∷ gs)))) size
          (subst (AreBefore s sources (e + 1 + length gs) 1)
          (append_assoc bs (reserved (e * 2) ∷ []) (map table_output (map (gate_table s) gs))
          ∙ ap (λ (m : Name). bs ++ m ∷ map table_output (map (gate_table s) gs)) (sym output)) rest.1),
    ) where
      new : (e : ℕ) → 1 ≤ e → Taken e 1 (e * 2) → ⊥
      new e some (inl small) = absurd (omega (arith, some, small))
      new e some (inr (inl even)) = absurd (omega (arith, even.1))
      new e some (inr (inr odd)) = absurd (omega (arith, odd.0))

-- ---- complements

odd_more : (e o k : ℕ) → Taken e o k → Taken e (o + 1) k
odd_more e o k (inl small) = inl small
odd_more e o k (inr (inl even)) = inr (inl even)
odd_more e o k (inr (inr odd)) = inr (inr (odd.0, omega (arith, odd.1)))

not_before : (s : Signals) (sources : List Name) (e o : ℕ) (bs : List Name) → AreBefore s sources e o bs → o + 1 < 2 ^ 32 →
    AreBefore s sources e (o + 1) (bs ++ reserved (o * 2 + 1) ∷ [])
not_before s sources e o bs is low = record {
  small = (is.small.0, low);
  one = has_left bs (reserved (o * 2 + 1) ∷ []) (reserved 1) is.one;
  had = λ w high. has_left bs (reserved (o * 2 + 1) ∷ []) (slice_index_or s.names w (codes "&")) (is.had w high);
  nots = λ w from to needs. cond_both (w == o) 0 0 (λ (z : ℕ). has (bs ++ reserved (o * 2 + 1) ∷ []) (reserved (w * 2 + 1)) ≡ true)
      (λ same. subst (λ (k : ℕ). has (bs ++ reserved (o * 2 + 1) ∷ []) (reserved (k * 2 + 1)) ≡ true) (sym (eqb-true w o same)) (pushed bs (reserved (o * 2 + 1))))
      (λ other. has_left bs (reserved (o * 2 + 1) ∷ []) (reserved (w * 2 + 1)) (is.nots w from (below w o other to) needs));
  from = λ n there. ⊎_elim
      (λ old. ⊎_elim (λ source. inl source) (λ other. inr (other.0, other.1, odd_more e o other.0 other.2)) (is.from n old))
      (λ new. let odd : (o * 2 + 1) % 2 ≡ 1 = omega arith in inr (o * 2 + 1, new, inr (inr (odd, omega arith))))
      (push_cases bs (reserved (o * 2 + 1)) n there);
} where
  below : (w e : ℕ) → (w == e) ≡ false → w < e + 1 → w < e
  below w e other high = ⊎_elim (λ lt. lt) (λ ge. absurd (let same : w ≡ e = omega (arith, ge, high) in both_ways (w == e) other (eq-eqb w e same))) (cases_lt w e)

none_before : (s : Signals) (sources : List Name) (e o : ℕ) (bs : List Name) → AreBefore s sources e o bs → o + 1 < 2 ^ 32 → needs_not s o ≡ false →
    AreBefore s sources e (o + 1) bs
none_before s sources e o bs is low none = record {
  small = (is.small.0, low);
  one = is.one;
  had = is.had;
  nots = λ w from to needs. cond_both (w == o) 0 0 (λ (z : ℕ). has bs (reserved (w * 2 + 1)) ≡ true)
      (λ same. absurd (both_ways (needs_not s o) none (subst (λ (k : ℕ). needs_not s k ≡ true) (eqb-true w o same) needs)))
      (λ other. is.nots w from (below w o other to) needs);
  from = λ n there. ⊎_elim (λ source. inl source) (λ other. inr (other.0, other.1, odd_more e o other.0 other.2)) (is.from n there);
} where
  below : (w e : ℕ) → (w == e) ≡ false → w < e + 1 → w < e
  below w e other high = ⊎_elim (λ lt. lt) (λ ge. absurd (let same : w ≡ e = omega (arith, ge, high) in both_ways (w == e) other (eq-eqb w e same))) (cases_lt w e)

abbrev NotsLayered : Signals → List Name → ℕ → ℕ → List Name → List Table → Type 0
NotsLayered s sources e o bs ts = AreLayered bs ts × AreBefore s sources e o (bs ++ map table_output ts)

pub nots_layered : (s : Signals) (sources : List Name) (e o n : ℕ) (bs : List Name) → AreBefore s sources e o bs → All IsFreeName sources → 1 ≤ o → o + n ≤ e →
    NotsLayered s sources e (o + n) bs (not_tables s o n)
unfolding not_tables
nots_layered s sources e o zero bs is free some low =
    let size : o ≡ o + 0 = omega arith in
    (tt, subst (λ (k : ℕ). AreBefore s sources e k (bs ++ [])) size (subst (AreBefore s sources e o) (sym (append-nil bs)) is))
nots_layered s sources e o (suc n) bs is free some low =
    let size : o + 1 + n ≡ o + suc n = omega arith in
    let room : o + 1 < 2 ^ 32 = omega (arith, low, is.small.0) in
    cond_both (needs_not s o) (not_table s o ∷ not_tables s (o + 1) n) (not_tables s (o + 1) n) (NotsLayered s sources e (o + suc n) bs)
    (λ needs.
    let next = not_before s sources e o bs is room in
    let rest = nots_layered s sources e (o + 1) n (bs ++ reserved (o * 2 + 1) ∷ []) next free (omega arith) (omega (arith, low)) in
    let half : o * 2 / 2 ≡ o = omega arith in
    let layer : IsLayer bs (not_table s o) = record {
      fresh = fresh_name s sources e o (o * 2 + 1) bs is free (omega (arith, room)) (new e o some);
      inputs = λ m read. ⊎_elim
          (λ here. subst (λ (x : Name). has bs x ≡ true) (sym (here ∙ ap (λ (k : ℕ). slice_index_or s.names k (codes "&")) half)) (is.had o (omega (arith, low))))
          (λ none. absurd (has_none m none))
          (has_cases (name_at s.names (o * 2)) [] m read);
    } in (
      (layer, rest.0),
      subst (λ (k : ℕ). AreBefore s sources e k (bs ++ map table_output (not_table s o ∷ not_tables s (o + 1) n))) size
          (subst (AreBefore s sources e (o + 1 + n)) (append_assoc bs (reserved (o * 2 + 1) ∷ []) (map table_output (not_tables s (o + 1) n))) rest.1),
    ))
    (λ none.
    let rest = nots_layered s sources e (o + 1) n bs (none_before s sources e o bs is room none) free (omega arith) (omega (arith, low)) in
    (rest.0, subst (λ (k : ℕ). AreBefore s sources e k (bs ++ map table_output (not_tables s (o + 1) n))) size rest.1)) where
      new : (e o : ℕ) → 1 ≤ o → Taken e o (o * 2 + 1) → ⊥
      new e o some (inl small) = absurd (omega (arith, some, small))
      new e o some (inr (inl even)) = absurd (omega (arith, even.0))
      new e o some (inr (inr odd)) = absurd (omega (arith, odd.1))

-- ---- outputs

-- a free name that is driven is a source, or an output before
abbrev pub AreFreeFrom : List Name → List Name → List Name → Type 0
AreFreeFrom sources done bs = (n : Name) → IsFreeName n → has bs n ≡ true → (has sources n ≡ true) ⊎ (has done n ≡ true)

pub free_from : (s : Signals) (sources : List Name) (e o : ℕ) (bs : List Name) → AreBefore s sources e o bs → AreFreeFrom sources [] bs
free_from s sources e o bs is n free there =
    ⊎_elim (λ source. inl source) (λ other. absurd (never_free other.0 (subst IsFreeName other.1 free))) (is.from n there)

-- outputs with one name are sources
abbrev pub AreApart : List Name → List Name → Type 0
AreApart sources os = (i j : ℕ) (n : Name) → i < j → slice_get os i ≡ Some n → slice_get os j ≡ Some n → has sources n ≡ true

pub outputs_layered : (s : Signals) (sources done bs : List Name) (lits : List ℕ) (os : List Name) → length lits ≡ length os → AreFreeFrom sources done bs →
    All IsFreeName os → AreApart sources os → ((n : Name) → has done n ≡ true → has os n ≡ true → has sources n ≡ true) →
    ((i lit : ℕ) (o : Name) → slice_get lits i ≡ Some lit → slice_get os i ≡ Some o → has sources o ≡ true → is_driver s.names lit o ≡ true) →
    ((i lit : ℕ) → slice_get lits i ≡ Some lit → has bs (sink_name s lit) ≡ true) → AreLayered bs (output_tables s lits os)
unfolding output_tables
outputs_layered s sources done bs [] [] size from free apart before drives had = tt
outputs_layered s sources done bs [] (o ∷ os) size from free apart before drives had = tt
outputs_layered s sources done bs (lit ∷ lits) [] size from free apart before drives had = tt
outputs_layered s sources done bs (lit ∷ lits) (o ∷ os) size from free apart before drives had =
    let later_apart : AreApart sources os = λ i j n low at_i at_j. apart (suc i) (suc j) n (omega (arith, low)) at_i at_j in
    let later_free = All-tail IsFreeName o os free in
    cond_both (is_driver s.names lit o) (output_tables s lits os) (unary_table (sink_name s lit) 49 o ∷ output_tables s lits os) (AreLayered bs)
    (λ driver. outputs_layered s sources done bs lits os (omega (arith, size)) from later_free later_apart
    (λ n old there. before n old (has_later o os n there))
    (λ i l n at_l at_o source. drives (suc i) l n at_l at_o source)
    (λ i l at. had (suc i) l at))
    (λ other.
    let apart_o : has sources o ≡ false = false_from_ne_true (has sources o) (λ source. both_ways (is_driver s.names lit o) other (drives 0 lit o refl refl source)) in
    let fresh : has bs o ≡ false = false_from_ne_true (has bs o) (λ there. ⊎_elim
    (λ source. both_ways (has sources o) apart_o source)
    (λ old. both_ways (has sources o) apart_o (before o old (has_first o os)))
    (from o (All-head IsFreeName o os free) there)) in
    let layer : IsLayer bs (unary_table (sink_name s lit) 49 o) = record {
      fresh = fresh;
      inputs = λ n read. ⊎_elim
          (λ here. subst (λ (x : Name). has bs x ≡ true) (sym here) (had 0 lit refl))
          (λ none. absurd (has_none n none))
          (has_cases (sink_name s lit) [] n read);
    } in (
      layer,
      outputs_layered s sources (done ++ o ∷ []) (bs ++ o ∷ []) lits os (omega (arith, size))
          (λ n is there. ⊎_elim
          (λ old. ⊎_elim (λ source. inl source) (λ earlier. inr (has_left done (o ∷ []) n earlier)) (from n is old))
          (λ new. inr (subst (λ (x : Name). has (done ++ o ∷ []) x ≡ true) (sym new) (pushed done o)))
          (push_cases bs o n there))
          later_free later_apart
          (λ n old there. ⊎_elim
          (λ earlier. before n earlier (has_later o os n there))
          (λ new. let at = has_index os n there in apart 0 (suc at.0) n (omega arith) (ap Some (sym new)) at.1)
          (push_cases done o n old))
          (λ i l n at_l at_o source. drives (suc i) l n at_l at_o source)
          (λ i l at. has_left bs (o ∷ []) (sink_name s l) (had (suc i) l at)),
    ))

-- an output that no table drives is a source
pub outputs_driven : (s : Signals) (sources : List Name) (lits : List ℕ) (os : List Name) (n : Name) → length lits ≡ length os →
    ((i lit : ℕ) (o : Name) → slice_get lits i ≡ Some lit → slice_get os i ≡ Some o → is_driver s.names lit o ≡ true → has sources o ≡ true) →
    has os n ≡ true → (has sources n ≡ true) ⊎ (has (map table_output (output_tables s lits os)) n ≡ true)
unfolding output_tables
outputs_driven s sources [] [] n size drives there = absurd (has_none n there)
outputs_driven s sources [] (o ∷ os) n size drives there = absurd (omega (arith, size))
outputs_driven s sources (lit ∷ lits) [] n size drives there = absurd (has_none n there)
outputs_driven s sources (lit ∷ lits) (o ∷ os) n size drives there =
    let P : List Table → Type 0 = λ ts. (has sources n ≡ true) ⊎ (has (map table_output ts) n ≡ true) in
    let later : has os n ≡ true → P (output_tables s lits os) = λ more. outputs_driven s sources lits os n (omega (arith, size)) (λ i l m at_l at_o d. drives (suc i) l m at_l at_o d) more in
    cond_both (is_driver s.names lit o) (output_tables s lits os) (unary_table (sink_name s lit) 49 o ∷ output_tables s lits os) P
    (λ driver. ⊎_elim
    (λ here. inl (subst (λ (x : Name). has sources x ≡ true) (sym here) (drives 0 lit o refl refl driver)))
    (λ more. later more)
    (has_cases o os n there))
    (λ other. ⊎_elim
    (λ here. inr (subst (λ (x : Name). has (o ∷ map table_output (output_tables s lits os)) x ≡ true) (sym here) (has_first o (map table_output (output_tables s lits os)))))
    (λ more. ⊎_elim (λ source. inl source) (λ table. inr (has_later o (map table_output (output_tables s lits os)) n table)) (later more))
    (has_cases o os n there))
