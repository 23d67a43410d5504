-- There are enough free numbered names, and they are valid and distinct.
use Rattle.std.specs.Prelude.{◌≡◌, ℕ, zero, suc, ◌+◌, ◌^◌, ◌≤◌, ◌<◌, Bool, true, false, not, if◌then◌else◌, List, [], ◌∷◌, length, map, filter, count_by, refl}
use Rattle.std.specs.List.{range_with_len}
use Rattle.std.proofs.Common.{arith, sym, ◌∙◌, ap, subst, ⊎_elim}
use Rattle.std.proofs.lemmas.Bool.{cases_Bool, cond_both, not-true, not_from_true, not_from_false, false_from_ne_true, both_ways}
use Rattle.std.proofs.lemmas.List.{length-map}
use Rattle.std.proofs.lemmas.List.Elements.{filter_passes}
use Rattle.std.proofs.lemmas.List.Sums.{sum_by-cons, length-filter}
use Rattle.net_theory.specs.Document.{Name, IsName, is_same, has, are_distinct}
use Rattle.net_theory.specs.NameLaws.{has_none, has_cases, has_first, has_later, all_has, cons_distinct, distinct_cons, name_same}
use Rattle.net_theory.specs.Naming.{numbered, free_names}
use Rattle.net_document.specs.Listed.{times}
use Rattle.net_document.specs.TimesLaws.{distinct_times}
use Rattle.blif_laws.specs.LetterNames.{letter_name, letters_same}

-- ---- numbered names are valid

pub numbered_name : (k : ℕ) → k < 2 ^ 64 → IsName (numbered k)
numbered_name k low = letter_name 103 k (omega arith) (omega arith) low

numbered_same : (j k : ℕ) → j < 2 ^ 64 → k < 2 ^ 64 → numbered j ≡ numbered k → j ≡ k
numbered_same j k low_j low_k e = (letters_same 103 103 j k low_j low_k e).1

-- ---- and distinct

abbrev numbered_from : ℕ → ℕ → List Name
numbered_from from count = map numbered (range_with_len from count)

numbered_within : (from count : ℕ) (n : Name) → has (numbered_from from count) n ≡ true → (k : ℕ) × (from ≤ k) × (k < from + count) × (n ≡ numbered k)
numbered_within from zero n e = absurd (has_none n e)
numbered_within from (suc count) n e =
    ⊎_elim
    (λ here. (from, omega arith, omega arith, here))
    (λ later. let r = numbered_within (from + 1) count n later in (r.0, omega (arith, r.1), omega (arith, r.2), r.3))
    (has_cases (numbered from) (numbered_from (from + 1) count) n e)

numbered_distinct : (from count : ℕ) → from + count ≤ 2 ^ 64 → are_distinct (numbered_from from count) ≡ true
unfolding are_distinct
numbered_distinct from zero low = refl
numbered_distinct from (suc count) low =
    cons_distinct (numbered from) (numbered_from (from + 1) count)
    (false_from_ne_true (has (numbered_from (from + 1) count) (numbered from)) (λ there.
    let r = numbered_within (from + 1) count (numbered from) there in
    let same = numbered_same from r.0 (omega (arith, low)) (omega (arith, low, r.2)) r.3 in
    omega (arith, same, r.1)))
    (numbered_distinct (from + 1) count (omega (arith, low)))

-- ---- filters

kept_had : (test : Name → Bool) (ns : List Name) (n : Name) → has (filter test ns) n ≡ true → has ns n ≡ true
kept_had test [] n e = e
kept_had test (m ∷ ns) n e =
    cond_both (test m) (m ∷ filter test ns) (filter test ns) (λ (xs : List Name). has xs n ≡ true → has (m ∷ ns) n ≡ true)
    (λ kept h. ⊎_elim (λ here. subst (λ (x : Name). has (m ∷ ns) x ≡ true) (sym here) (has_first m ns)) (λ later. has_later m ns n (kept_had test ns n later)) (has_cases m (filter test ns) n h))
    (λ passed h. has_later m ns n (kept_had test ns n h))
    e

kept_distinct : (test : Name → Bool) (ns : List Name) → are_distinct ns ≡ true → are_distinct (filter test ns) ≡ true
kept_distinct test [] e = e
kept_distinct test (m ∷ ns) e =
    let parts = distinct_cons m ns e in
    cond_both (test m) (m ∷ filter test ns) (filter test ns) (λ (xs : List Name). are_distinct xs ≡ true)
    (λ kept. cons_distinct m (filter test ns) (false_from_ne_true (has (filter test ns) m) (λ there. both_ways (has ns m) parts.0 (kept_had test ns m there))) (kept_distinct test ns parts.1))
    (λ passed. kept_distinct test ns parts.1)

-- ---- the number of names of a list that are in another list

count_cons : (p : Name → Bool) (n : Name) (ns : List Name) → count_by p (n ∷ ns) ≡ (if p n then 1 else 0) + count_by p ns
count_cons p n ns = sum_by-cons (λ (x : Name). if p x then 1 else 0) n ns

count_yes : (p : Name → Bool) (n : Name) (ns : List Name) → p n ≡ true → count_by p (n ∷ ns) ≡ 1 + count_by p ns
count_yes p n ns e = count_cons p n ns ∙ ap (λ (b : Bool). (if b then 1 else 0) + count_by p ns) e

count_no : (p : Name → Bool) (n : Name) (ns : List Name) → p n ≡ false → count_by p (n ∷ ns) ≡ 0 + count_by p ns
count_no p n ns e = count_cons p n ns ∙ ap (λ (b : Bool). (if b then 1 else 0) + count_by p ns) e

count_other : (p : Name → Bool) (ns : List Name) → count_by (λ n. not (p n)) ns + count_by p ns ≡ length ns
count_other p [] = refl
count_other p (n ∷ ns) =
    ⊎_elim
    (λ is. omega (arith, count_yes p n ns is, count_no (λ m. not (p m)) n ns (not_from_true (p n) is), count_other p ns))
    (λ no. omega (arith, count_no p n ns no, count_yes (λ m. not (p m)) n ns (not_from_false (p n) no), count_other p ns))
    (cases_Bool (p n))

times_is : (m : Name) (ns : List Name) → count_by (is_same m) ns ≡ times m ns
unfolding times
times_is m ns = refl

-- one more counted name
count_more : (m : Name) (ms ns : List Name) → count_by (has (m ∷ ms)) ns ≤ count_by (has ms) ns + count_by (is_same m) ns
count_more m ms [] = omega arith
count_more m ms (n ∷ ns) =
    let rest = count_more m ms ns in
    ⊎_elim
    (λ is. ⊎_elim
    (λ here. omega (arith, rest, count_yes (has (m ∷ ms)) n ns is, count_yes (is_same m) n ns (name_same m n (sym here)), count_low (has ms) n ns))
    (λ later. omega (arith, rest, count_yes (has (m ∷ ms)) n ns is, count_yes (has ms) n ns later, count_low (is_same m) n ns))
    (has_cases m ms n is))
    (λ no. omega (arith, rest, count_no (has (m ∷ ms)) n ns no, count_low (has ms) n ns, count_low (is_same m) n ns))
    (cases_Bool (has (m ∷ ms) n)) where
      count_low : (p : Name → Bool) (x : Name) (xs : List Name) → count_by p xs ≤ count_by p (x ∷ xs)
      count_low p x xs = ⊎_elim (λ is. omega (arith, count_yes p x xs is)) (λ no. omega (arith, count_no p x xs no)) (cases_Bool (p x))

no_count : (ns : List Name) → count_by (has []) ns ≡ 0
no_count [] = refl
no_count (n ∷ ns) = omega (arith, count_no (has []) n ns (false_from_ne_true (has [] n) (λ e. has_none n e)), no_count ns)

-- a list has at most as many of distinct names as it has elements
count_few : (ms ns : List Name) → are_distinct ns ≡ true → count_by (has ms) ns ≤ length ms
count_few [] ns e = omega (arith, no_count ns)
count_few (m ∷ ms) ns e = omega (arith, count_more m ms ns, times_is m ns, distinct_times ns m e, count_few ms ns e)

-- ---- free names

range_length : (from count : ℕ) → length (range_with_len from count) ≡ count
range_length from zero = refl
range_length from (suc count) = ap suc (range_length (from + 1) count)

-- free names are valid and distinct, and none is taken
pub record AreControlsFree (taken free : List Name) : Type 0 where
  pub names : (n : Name) → has free n ≡ true → IsName n
  pub apart : (n : Name) → has free n ≡ true → has taken n ≡ false
  pub distinct : are_distinct free ≡ true

pub free_are : (taken : List Name) (from count : ℕ) → from + count ≤ 2 ^ 64 → AreControlsFree taken (free_names taken from count)
unfolding free_names
free_are taken from count low =
    let test : Name → Bool = λ n. not (has taken n) in
    record {
      names = λ n there.
          let r = numbered_within from count n (kept_had test (numbered_from from count) n there) in
          subst IsName (sym r.3) (numbered_name r.0 (omega (arith, r.2, low)));
      apart = λ n there. not-true (has taken n) (all_has (λ (m : Name). test m ≡ true) (filter test (numbered_from from count)) n (filter_passes test (numbered_from from count)) there);
      distinct = kept_distinct test (numbered_from from count) (numbered_distinct from count low);
    }

pub free_enough : (taken : List Name) (from count : ℕ) → from + count ≤ 2 ^ 64 → count ≤ length (free_names taken from count) + length taken
unfolding free_names
free_enough taken from count low =
    let xs = numbered_from from count in
    omega (
      arith,
      length-filter (λ (n : Name). not (has taken n)) xs,
      count_other (has taken) xs,
      count_few taken xs (numbered_distinct from count low),
      length-map (range_with_len from count) numbered,
      range_length from count,
    )
