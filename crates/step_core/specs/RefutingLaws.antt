-- How the refutation of a state follows from those of its branches.
use Rattle.std.proofs.Common.{◌≡◌, ℕ, suc, ◌+◌, ◌-◌, ◌≤◌, ◌<◌, ◌⊎◌, true, false, Bool, ◌||◌, not, List, [], ◌∷◌, ◌++◌, length, refl, sym, ap, ◌∙◌, subst, arith, inl, inr}
use Rattle.std.specs.Prelude.{min, take}
use Rattle.std.proofs.lemmas.Bool.{cases_lt, cases_eq, cases_Bool, or_left, or_right, or_cases, both_ways}
use Rattle.std.proofs.lemmas.Grind.{common_steps}
use Rattle.std.proofs.lemmas.List.{length_push}
use Rattle.chain_theory.specs.Operator.{Basis, digit}
use Rattle.chain_theory.specs.Chain.{Step, IsStepAt}
use Rattle.chain_laws.specs.Keys.{larger}
use Rattle.chain_laws.specs.Follow.{with_own, own_has, other_has}
use Rattle.op_basis.specs.Closed.{swap_closed}
use Rattle.op_basis.specs.WordOperator.{on_words}
use Rattle.tt_core.specs.Words.{Words}
use Rattle.bound_core.specs.Counts.{count_below}
use Rattle.step_core.specs.Steps.{word_in, is_met, is_missing}
use Rattle.step_core.specs.StepStacks.{StackView}
use Rattle.step_core.specs.Pruning.{due, gives_some}
use Rattle.step_core.specs.Waits.{is_at, has_read, is_later}
use Rattle.step_core.specs.Enumeration.{NoneFrom, NoneWith, HasLarger, HasPair, HasOperands, IsGivenStep}
use Rattle.step_core.specs.Reads.{IsFreshSolution, ReadExactly, NoneReading, NoneReadingWith, reads_after, missing, IsMissingMask, IsOpen, IsRefuting, IsAfter, IsRefutation}
use Rattle.step_core.specs.StackLaws.{word_last}
use Rattle.step_core.specs.PruningLaws.{too_few}
use Rattle.step_core.specs.NormalFormLaws.{must_rise}
use Rattle.step_core.specs.OutcomeLaws.{append_one, step_among, member_among, this_step}
use Rattle.step_core.specs.WaitLaws.{is_at_is, at_is}
use Rattle.step_core.specs.ReadCountLaws.{count_weaker, too_many_reads, middle_word}

-- ---- what is ruled out after a step

-- no fresh solution goes on from here in one case: `first` and `second` say whether the operands j and k of the last
-- step are read again, and `own` whether its own place is read
abbrev pub NoneAfter : Words → Basis → List Step → ℕ → (ℕ → Bool) → ℕ → ℕ → Bool → Bool → Bool → Type 0
NoneAfter w basis prefix left reads j k first second own = NoneReading w basis prefix left (reads_after reads j k (w.n + length prefix) first second own)

-- nor in the four cases with this `own`
pub record NoneOwn (w : Words) (basis : Basis) (prefix : List Step) (left : ℕ) (reads : ℕ → Bool) (j k : ℕ) (own : Bool) : Type 0 where
  pub none : (first second : Bool) → NoneAfter w basis prefix left reads j k first second own

-- nor in any case, except that an own place may be unread only if the last step has the values of a new output
pub record NoneGiven (w : Words) (basis : Basis) (prefix : List Step) (left : ℕ) (reads : ℕ → Bool) (j k : ℕ) (gives : Bool) : Type 0 where
  pub none : (first second own : Bool) → (own ≡ true) ⊎ (gives ≡ true) → NoneAfter w basis prefix left reads j k first second own

-- ---- sets with the same members

pub same_reads : (w : Words) (basis : Basis) (prefix : List Step) (left : ℕ) (f g : ℕ → Bool) → ((i : ℕ) → f i ≡ g i) →
    NoneReading w basis prefix left f → NoneReading w basis prefix left g
same_reads w basis prefix left f g same is = record {
  none = λ rest count target read. is.none rest count target (record { each = λ i low. read.each i low ∙ sym (same i) });
}

put_twice : (f g : ℕ → Bool) (p i : ℕ) (own : Bool) → ((x : ℕ) → f x ≡ g x) → with_own f p own i ≡ with_own g p own i
put_twice f g p i own same = elim (cases_eq i p) [
  | inl here ↦ own_has f p i own here ∙ sym (own_has g p i own here)
  | inr other ↦ other_has f p i own other ∙ same i ∙ sym (other_has g p i own other)
]

pub case_done : (w : Words) (basis : Basis) (prefix : List Step) (left reads one two all j k n place : ℕ) (first second own : Bool) →
    n ≡ w.n → place ≡ n + length prefix →
    ((i : ℕ) → digit one i ≡ with_own (digit reads) (j - 1) first i) →
    ((i : ℕ) → digit two i ≡ with_own (digit one) (k - 1) second i) →
    ((i : ℕ) → digit all i ≡ with_own (digit two) (place - 1) own i) →
    NoneReading w basis prefix left (digit all) → NoneAfter w basis prefix left (digit reads) j k first second own
case_done w basis prefix left reads one two all j k n place first second own inputs at a b c is =
    let here : place - 1 ≡ w.n + length prefix - 1 = omega (arith, inputs, at) in
    same_reads w basis prefix left (digit all) (reads_after (digit reads) j k (w.n + length prefix) first second own)
    (λ i. c i ∙ put_twice (digit two) (with_own (with_own (digit reads) (j - 1) first) (k - 1) second) (place - 1) i own
    (λ x. b x ∙ put_twice (digit one) (with_own (digit reads) (j - 1) first) (k - 1) x second a)
    ∙ ap (λ (p : ℕ). with_own (with_own (with_own (digit reads) (j - 1) first) (k - 1) second) p own i) here)
    is

-- ---- all cases

pub own_done : (w : Words) (basis : Basis) (prefix : List Step) (left : ℕ) (reads : ℕ → Bool) (j k : ℕ) (own : Bool) →
    NoneAfter w basis prefix left reads j k false false own → NoneAfter w basis prefix left reads j k false true own →
    NoneAfter w basis prefix left reads j k true false own → NoneAfter w basis prefix left reads j k true true own →
    NoneOwn w basis prefix left reads j k own
own_done w basis prefix left reads j k own a b c d = record { none = λ first second. pick first second }
  where
    pick : (first second : Bool) → NoneAfter w basis prefix left reads j k first second own
    pick false false = a
    pick false true = b
    pick true false = c
    pick true true = d

pub given_done : (w : Words) (basis : Basis) (prefix : List Step) (left : ℕ) (reads : ℕ → Bool) (j k : ℕ) (gives : Bool) →
    (gives ≡ true → NoneOwn w basis prefix left reads j k false) → NoneOwn w basis prefix left reads j k true →
    NoneGiven w basis prefix left reads j k gives
given_done w basis prefix left reads j k gives unread read = record { none = λ first second own allowed. pick first second own allowed }
  where
    pick : (first second own : Bool) → (own ≡ true) ⊎ (gives ≡ true) → NoneAfter w basis prefix left reads j k first second own
    pick first second true allowed = read.none first second
    pick first second false (inl e) = absurd cc
    pick first second false (inr e) = (unread e).none first second

-- the rest after the step reads the places that one of the cases says
after_reads : (w : Words) (prefix rest : List Step) (s : Step) (reads : ℕ → Bool) → IsStepAt (w.n + 1 + length prefix) s →
    ReadExactly (s ∷ rest) (w.n + length prefix) reads →
    ReadExactly rest (w.n + length (prefix ++ s ∷ [])) (reads_after reads s.j s.k (w.n + length (prefix ++ s ∷ []))
    (is_later rest (s.j - 1)) (is_later rest (s.k - 1)) (is_later rest (w.n + length prefix)))
unfolding is_later has_read
after_reads w prefix rest s reads at read = record {
  each = λ i low.
      let last : w.n + length (prefix ++ s ∷ []) - 1 ≡ w.n + length prefix = omega (arith, length_push prefix s) in
      let one : ℕ → Bool = with_own reads (s.j - 1) (is_later rest (s.j - 1)) in
      let two : ℕ → Bool = with_own one (s.k - 1) (is_later rest (s.k - 1)) in
      let own : Bool = is_later rest (w.n + length prefix) in
      elim (cases_eq i (w.n + length (prefix ++ s ∷ []) - 1)) [
        | inl here ↦ ap (is_later rest) (here ∙ last) ∙ sym (own_has two (w.n + length (prefix ++ s ∷ []) - 1) i own here)
        | inr old ↦ elim (cases_eq i (s.k - 1)) [
          | inl second ↦ ap (is_later rest) second ∙ sym (other_has two (w.n + length (prefix ++ s ∷ []) - 1) i own old ∙ own_has one (s.k - 1) i (is_later rest (s.k - 1)) second)
          | inr not_second ↦ elim (cases_eq i (s.j - 1)) [
            | inl first ↦ ap (is_later rest) first
                ∙ sym (other_has two (w.n + length (prefix ++ s ∷ []) - 1) i own old
                ∙ other_has one (s.k - 1) i (is_later rest (s.k - 1)) not_second
                ∙ own_has reads (s.j - 1) i (is_later rest (s.j - 1)) first)
            | inr not_first ↦
                let unread : has_read s i ≡ false = neither s i at.j_from at.k_from not_first not_second in
                ap (λ (x : Bool). x || is_later rest i) (sym unread)
                ∙ read.each i (omega (arith, low, old, length_push prefix s))
                ∙ sym (other_has two (w.n + length (prefix ++ s ∷ []) - 1) i own old
                ∙ other_has one (s.k - 1) i (is_later rest (s.k - 1)) not_second
                ∙ other_has reads (s.j - 1) i (is_later rest (s.j - 1)) not_first)
          ]
        ]
      ];
}
  where
    neither : (s : Step) (i : ℕ) → 1 ≤ s.j → 1 ≤ s.k → (i ≡ s.j - 1 → ⊥) → (i ≡ s.k - 1 → ⊥) → (is_at s.j i || is_at s.k i) ≡ false
    neither s i j_from k_from not_first not_second = elim (cases_Bool (is_at s.j i || is_at s.k i)) [
      | inr e ↦ e
      | inl e ↦ elim (or_cases (is_at s.j i) (is_at s.k i) e) [
        | inl a ↦ absurd (not_first (omega (arith, is_at_is s.j i a)))
        | inr b ↦ absurd (not_second (omega (arith, is_at_is s.k i b)))
      ]
    ]

-- all cases after a step are ruled out, so the step is
pub step_done : (w : Words) (basis : Basis) (old pushed : StackView) (s : Step) (left less word : ℕ) (reads : ℕ → Bool) (gives : Bool) →
    pushed.steps ≡ old.steps ++ s ∷ [] → less ≡ left - 1 → old.n ≡ w.n →
    word ≡ on_words s.op (word_in old.n old.steps s.j) (word_in old.n old.steps s.k) → gives ≡ gives_some w old.steps word →
    NoneGiven w basis pushed.steps less reads s.j s.k gives →
    NoneReadingWith w basis old.steps left reads (IsGivenStep s)
step_done w basis old pushed s left less word reads gives grown count inputs made gives_is is = record {
  none = λ this rest same length_is target read. fails this rest same length_is target read;
}
  where
    fails : (this : Step) (rest : List Step) → this ≡ s → suc (length rest) ≡ left → IsFreshSolution w basis (old.steps ++ this ∷ rest) →
        ReadExactly (this ∷ rest) (w.n + length old.steps) reads → ⊥
    fails this rest same length_is target read =
        let prefix : List Step = old.steps in
        let whole : IsFreshSolution w basis (prefix ++ s ∷ rest) = subst (λ (x : Step). IsFreshSolution w basis (prefix ++ x ∷ rest)) same target in
        let reading : ReadExactly (s ∷ rest) (w.n + length prefix) reads = subst (λ (x : Step). ReadExactly (x ∷ rest) (w.n + length prefix) reads) same read in
        let at : IsStepAt (w.n + 1 + length prefix) s = step_among prefix rest s w.n whole.normal.solution.are in
        let none : NoneGiven w basis (prefix ++ s ∷ []) less reads s.j s.k gives = subst (λ (ss : List Step). NoneGiven w basis ss less reads s.j s.k gives) grown is in
        let moved : IsFreshSolution w basis ((prefix ++ s ∷ []) ++ rest) = subst (IsFreshSolution w basis) (sym (append_one prefix s rest)) whole in
        let seen : word ≡ word_in w.n (prefix ++ s ∷ []) (w.n + 1 + length prefix) =
        made ∙ ap (λ (n : ℕ). on_words s.op (word_in n prefix s.j) (word_in n prefix s.k)) inputs ∙ sym (word_last w.n prefix s (w.n + 1 + length prefix) refl) in
        let allowed : (is_later rest (w.n + length prefix) ≡ true) ⊎ (gives ≡ true) = elim (whole.each prefix rest s refl) [
          | inl later ↦ inl later
          | inr given ↦ inr (gives_is ∙ ap (gives_some w prefix) (seen ∙ sym (middle_word w prefix rest s)) ∙ given)
        ] in
        (none.none (is_later rest (s.j - 1)) (is_later rest (s.k - 1)) (is_later rest (w.n + length prefix)) allowed).none rest
        (omega (arith, count, length_is)) moved (after_reads w prefix rest s reads at reading)

-- ---- next steps

-- a rule of the normal form
pub by_rule : (w : Words) (basis : Basis) (prefix : List Step) (left : ℕ) (reads : ℕ → Bool) (P : Step → Type 0) → NoneWith w basis prefix left P → NoneReadingWith w basis prefix left reads P
by_rule w basis prefix left reads P is = record { none = λ s rest has count target read. is.none s rest has count target.normal }

pub by_size : (w : Words) (basis : Basis) (prefix : List Step) (left : ℕ) (reads : ℕ → Bool) → NoneFrom w basis prefix left → NoneReading w basis prefix left reads
by_size w basis prefix left reads is = record { none = λ rest count target read. is.none rest count target.normal }

reads_larger : (s : Step) (rest : List Step) (i : ℕ) → larger s ≡ i + 1 → is_later (s ∷ rest) i ≡ true
unfolding is_later has_read
reads_larger s rest i e = elim (cases_lt s.j s.k) [
  | inl rises ↦ or_left (is_at s.j i || is_at s.k i) (is_later rest i) (or_right (is_at s.j i) (is_at s.k i) (at_is s.k i (omega (arith, e, rises))))
  | inr falls ↦ or_left (is_at s.j i || is_at s.k i) (is_later rest i) (or_left (is_at s.j i) (is_at s.k i) (at_is s.j i (omega (arith, e, falls))))
]

reads_smaller : (s : Step) (rest : List Step) (i : ℕ) → min s.j s.k ≡ i + 1 → is_later (s ∷ rest) i ≡ true
unfolding is_later has_read
reads_smaller s rest i e = elim (cases_lt s.j s.k) [
  | inl rises ↦ or_left (is_at s.j i || is_at s.k i) (is_later rest i) (or_left (is_at s.j i) (is_at s.k i) (at_is s.j i (omega (arith, e, rises))))
  | inr falls ↦ or_left (is_at s.j i || is_at s.k i) (is_later rest i) (or_right (is_at s.j i) (is_at s.k i) (at_is s.k i (omega (arith, e, falls))))
]

-- a place outside the set isn't read
pub larger_unread : (w : Words) (basis : Basis) (prefix : List Step) (left i mask : ℕ) (member : Bool) →
    i < w.n + length prefix → member ≡ digit mask i → member ≡ false →
    NoneReadingWith w basis prefix left (digit mask) (HasLarger (i + 1))
larger_unread w basis prefix left i mask member low is e = record {
  none = λ s rest has count target read. both_ways (digit mask i) (sym is ∙ e) (sym (read.each i low) ∙ reads_larger s rest i has);
}

pub smaller_unread : (w : Words) (basis : Basis) (prefix : List Step) (left i high mask : ℕ) (member : Bool) →
    i < w.n + length prefix → member ≡ digit mask i → member ≡ false →
    NoneReadingWith w basis prefix left (digit mask) (HasPair (i + 1) high)
smaller_unread w basis prefix left i high mask member low is e = record {
  none = λ s rest has count target read. both_ways (digit mask i) (sym is ∙ e) (sym (read.each i low) ∙ reads_smaller s rest i has.0);
}

pub by_larger : (w : Words) (basis : Basis) (prefix : List Step) (left : ℕ) (reads : ℕ → Bool) → 1 ≤ left →
    ((m : ℕ) → m < w.n + length prefix → NoneReadingWith w basis prefix left reads (HasLarger (m + 1))) →
    NoneReading w basis prefix left reads
by_larger w basis prefix left reads some each = record { none = λ rest count target read. next rest count target read }
  where
    next : (rest : List Step) → length rest ≡ left → IsFreshSolution w basis (prefix ++ rest) → ReadExactly rest (w.n + length prefix) reads → ⊥
    next [] count target read = omega (arith, some, count)
    next (s ∷ rest) count target read =
        let at : IsStepAt (w.n + 1 + length prefix) s = step_among prefix rest s w.n target.normal.solution.are in
        (each (larger s - 1) (omega (arith, at.j_from, at.j_below, at.k_below))).none s rest (omega (arith, at.j_from)) count target read

pub by_pair : (w : Words) (basis : Basis) (prefix : List Step) (left high : ℕ) (reads : ℕ → Bool) →
    ((m : ℕ) → m < high → NoneReadingWith w basis prefix left reads (HasPair (m + 1) high)) →
    NoneReadingWith w basis prefix left reads (HasLarger high)
by_pair w basis prefix left high reads each = record {
  none = λ s rest is count target read.
      let at : IsStepAt (w.n + 1 + length prefix) s = step_among prefix rest s w.n target.normal.solution.are in
      (each (min s.j s.k - 1) (omega (arith, is, at.j_from, at.k_from))).none s rest (omega (arith, at.j_from, at.k_from), is) count target read;
}

pub by_order : (w : Words) (basis : Basis) (prefix : List Step) (left low high : ℕ) (reads : ℕ → Bool) →
    NoneReadingWith w basis prefix left reads (HasOperands low high) →
    NoneReadingWith w basis prefix left reads (HasOperands high low) →
    NoneReadingWith w basis prefix left reads (HasPair low high)
by_order w basis prefix left low high reads rising falling = record {
  none = λ s rest is count target read. elim (cases_lt s.k s.j) [
    | inl falls ↦ falling.none s rest (omega (arith, is.0, is.1, falls), omega (arith, is.0, is.1, falls)) count target read
    | inr rises ↦ rising.none s rest (omega (arith, is.0, is.1, rises), omega (arith, is.0, is.1, rises)) count target read
  ];
}

pub by_equal : (w : Words) (basis : Basis) (prefix : List Step) (left low high : ℕ) (reads : ℕ → Bool) → low ≡ high →
    NoneReadingWith w basis prefix left reads (HasOperands low high) →
    NoneReadingWith w basis prefix left reads (HasPair low high)
by_equal w basis prefix left low high reads same is = record {
  none = λ s rest has count target read. is.none s rest (omega (arith, has.0, has.1, same), omega (arith, has.0, has.1, same)) count target read;
}

pub by_rising : (w : Words) (basis : Basis) (prefix : List Step) (left low high : ℕ) (reads : ℕ → Bool) (rises : Bool) →
    low ≤ high → (low ≡ high → ⊥) → rises ≡ swap_closed basis → rises ≡ true →
    NoneReadingWith w basis prefix left reads (HasOperands low high) →
    NoneReadingWith w basis prefix left reads (HasPair low high)
by_rising w basis prefix left low high reads rises le apart is e rising =
    by_order w basis prefix left low high reads rising
    (by_rule w basis prefix left reads (HasOperands high low) (must_rise w basis prefix left low high (sym is ∙ e) (omega (arith, le, apart))))

pub by_operator : (w : Words) (basis : Basis) (prefix : List Step) (left j k : ℕ) (reads : ℕ → Bool) →
    ((op : ℕ) → op < 16 → basis op ≡ true → NoneReadingWith w basis prefix left reads (IsGivenStep (record { j = j; k = k; op = op }))) →
    NoneReadingWith w basis prefix left reads (HasOperands j k)
by_operator w basis prefix left j k reads each = record {
  none = λ s rest is count target read.
      let at : IsStepAt (w.n + 1 + length prefix) s = step_among prefix rest s w.n target.normal.solution.are in
      (each s.op at.op_below (member_among prefix rest s basis target.normal.solution.over)).none s rest (this_step s j k s.op is.0 is.1 refl) count target read;
}

-- ---- loops

-- what is ruled out of each number below the bound
pub record AllBelow (None : ℕ → Type 0) (bound : ℕ) : Type 0 where
  pub each : (m : ℕ) → m < bound → None m

-- the stack is as it was at first, and this is ruled out so far
pub record IsRuledOut (first now : StackView) (None : Type 0) : Type 0 where
  pub same : now ≡ first
  pub none : None

pub all_none : (None : ℕ → Type 0) (t : StackView) → IsRuledOut t t (AllBelow None 0)
all_none None t = record { same = refl; none = record { each = λ m low. absurd (omega (arith, low)) } }

pub all_more : (None : ℕ → Type 0) (bound : ℕ) (first now new : StackView) → IsRuledOut first now (AllBelow None bound) →
    new ≡ now → None bound → IsRuledOut first new (AllBelow None (bound + 1))
all_more None bound first now new is same one = record {
  same = same ∙ is.same;
  none = record {
    each = λ m low. elim (cases_lt m bound) [
      | inl below ↦ is.none.each m below
      | inr last ↦ let here : bound ≡ m = omega (arith, last, low) in subst None here one
    ];
  };
}

-- ---- outcomes

pub refuted_by : (old new : StackView) (None : Type 0) → new ≡ old → None → IsRefutation old new None true
refuted_by old new None same none = record { same = λ e. same; none = λ e. none }

pub unrefuted : (old new : StackView) (None : Type 0) → IsRefutation old new None false
unrefuted old new None = record { same = λ e. absurd cc; none = λ e. absurd cc }

pub passed_on : (old new : StackView) (None More : Type 0) (refuted : Bool) → (None → More) → IsRefutation old new None refuted → IsRefutation old new More refuted
passed_on old new None More refuted to is = record { same = is.same; none = λ e. to (is.none e) }

-- after another refutation from the same stack
pub passed_over : (old mid new : StackView) (None : StackView → Type 0) (More : Type 0) (refuted : Bool) → mid ≡ old →
    IsRefutation mid new (None mid) refuted → (None old → More) → IsRefutation old new More refuted
passed_over old mid new None More refuted same is to = record { same = λ e. is.same e ∙ same; none = λ e. to (subst None same (is.none e)) }

pub moved_open : (w : Words) (old mid : StackView) (left count : ℕ) → mid ≡ old → IsOpen w old left count → IsOpen w mid left count
moved_open w old mid left count same is = subst (λ (t : StackView). IsOpen w t left count) (sym same) is

pub moved_refuting : (w : Words) (old mid : StackView) (left count mask : ℕ) → mid ≡ old → IsRefuting w old left count mask → IsRefuting w mid left count mask
moved_refuting w old mid left count mask same is = subst (λ (t : StackView). IsRefuting w t left count mask) (sym same) is

pub moved_after : (w : Words) (old mid : StackView) (left j k : ℕ) → mid ≡ old → IsAfter w old left j k → IsAfter w mid left j k
moved_after w old mid left j k same is = subst (λ (t : StackView). IsAfter w t left j k) (sym same) is

pub same_places : (old mid : StackView) → mid ≡ old → mid.n + length mid.steps ≡ old.n + length old.steps
same_places old mid same = ap (λ (t : StackView). t.n + length t.steps) same

-- the stack after a push
pub pushed_after : (w : Words) (old new : StackView) (s : Step) (left less count : ℕ) → new.n ≡ old.n →
    new.steps ≡ old.steps ++ s ∷ [] → less ≡ left - 1 → IsOpen w old left count →
    IsStepAt (old.n + 1 + length old.steps) s → IsAfter w new less s.j s.k
pushed_after w old new s left less count inputs grown lesser is at =
    let longer : length new.steps ≡ length old.steps + 1 = ap (λ (ss : List Step). length ss) grown ∙ length_push old.steps s in
    record {
      inputs = inputs ∙ is.inputs;
      room = omega (arith, is.room, longer, lesser, is.some);
      first_from = at.j_from;
      first = omega (arith, at.j_below, longer, inputs);
      second_from = at.k_from;
      second = omega (arith, at.k_below, longer, inputs);
    }

pub after_refuting : (w : Words) (t : StackView) (left j k count mask : ℕ) → IsAfter w t left j k → count ≡ due w t.steps → IsMissingMask w t.steps mask → IsRefuting w t left count mask
after_refuting w t left j k count mask is counted masked = record { inputs = is.inputs; room = is.room; due = counted; missing = masked }

take_all : (xs : List Step) (x : Step) → take (length xs) (xs ++ x ∷ []) ≡ xs
take_all [] x = refl
take_all (y ∷ xs) x = ap (λ (ys : List Step). y ∷ ys) (take_all xs x)

take_pushed : (xs : List Step) (x : Step) → take (length (xs ++ x ∷ []) - 1) (xs ++ x ∷ []) ≡ xs
take_pushed xs x =
    let e : length (xs ++ x ∷ []) - 1 ≡ length xs = omega (arith, length_push xs x) in
    ap (λ (k : ℕ). take k (xs ++ x ∷ [])) e ∙ take_all xs x

whole : (a b : StackView) → b.n ≡ a.n → b.steps ≡ a.steps → b ≡ a
whole a b n steps =
    ap {B = StackView} (λ (m : ℕ). record { n = m; steps = b.steps }) n ∙ ap {B = StackView} (λ (ss : List Step). record { n = a.n; steps = ss }) steps

-- the stack after a push, what was refuted on it, and a pop
pub popped_back : (old pushed mid new : StackView) (s : Step) → pushed.n ≡ old.n → pushed.steps ≡ old.steps ++ s ∷ [] →
    mid ≡ pushed → new.n ≡ mid.n → new.steps ≡ take (length mid.steps - 1) mid.steps → new ≡ old
popped_back old pushed mid new s inputs grown same kept cut =
    let steps : new.steps ≡ old.steps = cut ∙ ap (λ (t : StackView). take (length t.steps - 1) t.steps) same
    ∙ ap (λ (ss : List Step). take (length ss - 1) ss) grown ∙ take_pushed old.steps s in
    let n : new.n ≡ old.n = kept ∙ ap (λ (t : StackView). t.n) same ∙ inputs in
    whole old new n steps

-- ---- masks of outputs

pub missing_more : (w : Words) (steps : List Step) (mask more output : ℕ) (member : Bool) →
    ((i : ℕ) → i < output → digit mask i ≡ is_missing w steps i) →
    ((i : ℕ) → digit more i ≡ with_own (digit mask) output member i) → member ≡ is_missing w steps output →
    (i : ℕ) → i < output + 1 → digit more i ≡ is_missing w steps i
missing_more w steps mask more output member before made last i low = elim (cases_lt i output) [
  | inl below ↦ made i ∙ other_has (digit mask) output i member (λ e. omega (arith, e, below)) ∙ before i below
  | inr past ↦
      let here : i ≡ output = omega (arith, past, low) in
      made i ∙ own_has (digit mask) output i member here ∙ last ∙ ap (is_missing w steps) (sym here)
]

-- the count of the mask is the number of missing outputs
pub missing_count : (w : Words) (steps : List Step) (mask bound : ℕ) → IsMissingMask w steps mask → bound ≡ length w.on → count_below (digit mask) bound ≡ missing w steps
missing_count w steps mask bound is e = ap (count_below (digit mask)) e ∙ count_same (digit mask) (is_missing w steps) (length w.on) is.each
  where
    count_same : (a b : ℕ → Bool) (k : ℕ) → ((i : ℕ) → i < k → a i ≡ b i) → count_below a k ≡ count_below b k
    count_same a b k each = omega (arith, count_weaker a b k (λ i low x. sym (each i low) ∙ x), count_weaker b a k (λ i low x. each i low ∙ x))

pub mask_whole : (w : Words) (steps : List Step) (mask bound : ℕ) → ((i : ℕ) → i < bound → digit mask i ≡ is_missing w steps i) → bound ≡ length w.on → IsMissingMask w steps mask
mask_whole w steps mask bound each e = record { each = λ i low. each i (omega (arith, low, e)) }

-- ---- tests of a state

pub by_count : (w : Words) (basis : Basis) (t : StackView) (left count mask reads n read bound most : ℕ) →
    IsRefuting w t left count mask → n ≡ t.n + length t.steps → read ≡ count_below (digit reads) n →
    bound ≡ length w.on → most ≡ left + count_below (digit mask) bound → most < read →
    NoneReading w basis t.steps left (digit reads)
by_count w basis t left count mask reads n read bound most is places counted outputs sum many =
    let same : count_below (digit reads) n ≡ count_below (digit reads) (w.n + length t.steps) = ap (count_below (digit reads)) (omega (arith, places, is.inputs)) in
    too_many_reads w basis t.steps left (digit reads) (omega (arith, many, sum, counted, same, missing_count w t.steps mask bound is.missing outputs))

pub by_due : (w : Words) (basis : Basis) (t : StackView) (left count mask reads : ℕ) → IsRefuting w t left count mask → left < count → NoneReading w basis t.steps left (digit reads)
by_due w basis t left count mask reads is many = by_size w basis t.steps left (digit reads) (too_few w basis t.steps left (omega (arith, many, is.due)))

pub opened : (w : Words) (t : StackView) (left count mask : ℕ) → IsRefuting w t left count mask → 1 ≤ left → IsOpen w t left count
opened w t left count mask is some = record { inputs = is.inputs; room = is.room; some = some; due = is.due }

pub missing_is : (w : Words) (steps : List Step) (i : ℕ) (met : Bool) → met ≡ is_met w steps i → not met ≡ is_missing w steps i
unfolding is_missing
missing_is w steps i met e = ap not e

pub ruleset finding = (common_steps, missing_more, missing_is, mask_whole)

pub ruleset refuting = (common_steps, unrefuted)
