-- How often names occur in lists.
use Rattle.std.specs.Prelude.{◌≡◌, ◌+◌, ◌≤◌, Bool, true, false, if◌then◌else◌, List, [], ◌∷◌, ◌++◌, Some, None, refl}
use Rattle.std.proofs.Common.{sym, ◌∙◌, ap, subst, ⊎_elim, arith, append_assoc, append-nil}
use Rattle.std.proofs.lemmas.Bool.{cases_Bool, false_from_ne_true, cond-true, cond-false}
use Rattle.std.proofs.lemmas.List.Sums.{sum_by-append, sum_by-cons}
use Rattle.net_theory.specs.Document.{Name, is_same, has, are_distinct}
use Rattle.net_theory.specs.NameLaws.{has_neither, has_first, has_later, has_cases, has_none, cons_distinct, distinct_cons, append_distinct, same_name, name_same}
use Rattle.net_document.specs.Listed.{times}
use Rattle.net_document.specs.Refusals.{repeated, missing}

pub times-none : (n : Name) → times n [] ≡ 0
unfolding times
times-none n = refl

pub times-cons : (n m : Name) (ns : List Name) → times n (m ∷ ns) ≡ (if is_same n m then 1 else 0) + times n ns
unfolding times
times-cons n m ns = sum_by-cons (λ (x : Name). if is_same n x then 1 else 0) m ns

times-here : (n m : Name) (ns : List Name) → is_same n m ≡ true → times n (m ∷ ns) ≡ 1 + times n ns
times-here n m ns e = times-cons n m ns ∙ ap (λ (b : Bool). (if b then 1 else 0) + times n ns) e

times-other : (n m : Name) (ns : List Name) → is_same n m ≡ false → times n (m ∷ ns) ≡ 0 + times n ns
times-other n m ns e = times-cons n m ns ∙ ap (λ (b : Bool). (if b then 1 else 0) + times n ns) e

pub times-append : (n : Name) (xs ys : List Name) → times n (xs ++ ys) ≡ times n xs + times n ys
unfolding times
times-append n xs ys = sum_by-append (λ (x : Name). if is_same n x then 1 else 0) xs ys

-- a name of the list has a count of at least 1
pub has_times : (ns : List Name) (n : Name) → has ns n ≡ true → 1 ≤ times n ns
has_times [] n h = absurd (has_none n h)
has_times (m ∷ ns) n h =
    ⊎_elim
    (λ here. omega (arith, times-here n m ns (name_same n m here)))
    (λ later. omega (arith, times-cons n m ns, has_times ns n later))
    (has_cases m ns n h)

-- and a name with such a count is in the list
pub times_has : (ns : List Name) (n : Name) → 1 ≤ times n ns → has ns n ≡ true
times_has [] n h = absurd (omega (arith, times-none n))
times_has (m ∷ ns) n h =
    ⊎_elim
    (λ same. subst (λ (x : Name). has (m ∷ ns) x ≡ true) (sym (same_name n m same)) (has_first m ns))
    (λ other. has_later m ns n (times_has ns n (omega (arith, h, times-other n m ns other))))
    (cases_Bool (is_same n m))

-- a name that isn't in the list has count 0
pub times_missing : (ns : List Name) (n : Name) → has ns n ≡ false → times n ns ≡ 0
times_missing [] n h = times-none n
times_missing (m ∷ ns) n h =
    let apart = has_neither m ns n h in
    omega (arith, times-other n m ns apart.0, times_missing ns n apart.1)

-- in a list of distinct names each count is at most 1
pub distinct_times : (ns : List Name) (n : Name) → are_distinct ns ≡ true → times n ns ≤ 1
distinct_times [] n d = omega (arith, times-none n)
distinct_times (m ∷ ns) n d =
    let apart = distinct_cons m ns d in
    ⊎_elim
    (λ same. omega (arith, times-here n m ns same, times_missing ns n (subst (λ (x : Name). has ns x ≡ false) (sym (same_name n m same)) apart.0)))
    (λ other. omega (arith, times-other n m ns other, distinct_times ns n apart.1))
    (cases_Bool (is_same n m))

more : (n m : Name) (ns : List Name) → times n ns ≤ times n (m ∷ ns)
more n m ns = ⊎_elim (λ same. omega (arith, times-here n m ns same)) (λ other. omega (arith, times-other n m ns other)) (cases_Bool (is_same n m))

no_names : are_distinct [] ≡ true
unfolding are_distinct
no_names = refl

no_name : (n : Name) → has [] n ≡ false
unfolding has
no_name n = refl

pub times_distinct : (ns : List Name) → ((n : Name) → times n ns ≤ 1) → are_distinct ns ≡ true
times_distinct [] few = no_names
times_distinct (m ∷ ns) few =
    ⊎_elim
    (λ there. absurd (omega (arith, few m, times-here m m ns (name_same m m refl), has_times ns m there)))
    (λ apart. cons_distinct m ns apart (times_distinct ns (λ n. omega (arith, few n, more n m ns))))
    (cases_Bool (has ns m))

repeated_reported : (before : List Name) (n : Name) (ns : List Name) → has before n ≡ true → repeated before (n ∷ ns) ≡ None → ⊥
unfolding repeated
repeated_reported before n ns there e = let f : Some n ≡ None = sym (cond-true _ _ _ there) ∙ e in cc

repeated_passed : (before : List Name) (n : Name) (ns : List Name) → has before n ≡ false → repeated before (n ∷ ns) ≡ repeated (before ++ n ∷ []) ns
unfolding repeated
repeated_passed before n ns apart = cond-false _ _ _ apart

-- appending a new name keeps the names distinct
distinct_more : (before : List Name) (n : Name) → are_distinct before ≡ true → has before n ≡ false → are_distinct (before ++ n ∷ []) ≡ true
distinct_more before n d apart = append_distinct before (n ∷ []) d (cons_distinct n [] (no_name n) no_names) only where
  only : (m : Name) → has before m ≡ true → has (n ∷ []) m ≡ false
  only m h = false_from_ne_true (has (n ∷ []) m)
      (λ t. ⊎_elim (λ same. let f : has before n ≡ true = subst (λ (x : Name). has before x ≡ true) same h in
      let g : true ≡ false = sym f ∙ apart in cc) (λ no. has_none m no) (has_cases n [] m t))

-- if `repeated` finds none, the names are distinct
pub repeated_distinct : (before ns : List Name) → are_distinct before ≡ true → repeated before ns ≡ None → are_distinct (before ++ ns) ≡ true
repeated_distinct before [] d e = subst (λ (xs : List Name). are_distinct xs ≡ true) (sym (append-nil before)) d
repeated_distinct before (n ∷ ns) d e =
    ⊎_elim
    (λ there. absurd (repeated_reported before n ns there e))
    (λ apart. subst (λ (xs : List Name). are_distinct xs ≡ true) (append_assoc before (n ∷ []) ns)
    (repeated_distinct (before ++ n ∷ []) ns (distinct_more before n d apart)
    (sym (repeated_passed before n ns apart) ∙ e)))
    (cases_Bool (has before n))

missing_reported : (driven : List Name) (m : Name) (ns : List Name) → has driven m ≡ false → missing driven (m ∷ ns) ≡ None → ⊥
unfolding missing
missing_reported driven m ns apart e = let f : Some m ≡ None = sym (cond-false _ _ _ apart) ∙ e in cc

missing_passed : (driven : List Name) (m : Name) (ns : List Name) → has driven m ≡ true → missing driven (m ∷ ns) ≡ missing driven ns
unfolding missing
missing_passed driven m ns there = cond-true _ _ _ there

-- if `missing` finds none, each name is driven
pub missing_driven : (driven ns : List Name) (n : Name) → missing driven ns ≡ None → has ns n ≡ true → has driven n ≡ true
missing_driven driven [] n e h = absurd (has_none n h)
missing_driven driven (m ∷ ns) n e h =
    ⊎_elim
    (λ there. ⊎_elim (λ same. subst (λ (x : Name). has driven x ≡ true) (sym same) there) (λ later. missing_driven driven ns n (sym (missing_passed driven m ns there) ∙ e) later) (has_cases m ns n h))
    (λ apart. absurd (missing_reported driven m ns apart e))
    (cases_Bool (has driven m))
