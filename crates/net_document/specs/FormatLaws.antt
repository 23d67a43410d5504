-- A text has at most one fault, and none where it lists a well-formed document.
use Rattle.std.specs.Prelude.{◌≡◌, ℕ, ◌≤◌, true, false, nat_lt, List, [], ◌∷◌, ◌++◌, slice_get, Option, Some, None, Result, Ok, Err, ◌⊎◌, refl}
use Rattle.std.proofs.Common.{arith, sym, ◌∙◌, ap, subst, inl, inr, ⊎_elim, append_assoc}
use Rattle.std.proofs.lemmas.Bool.{both_ways, cond-true, cond-false, false_from_ne_true, le-ltb, ltb-false, cases_Bool, cases_order}
use Rattle.net_theory.specs.Document.{Name, Table, Document, has, are_distinct, driven_names, used_names}
use Rattle.net_theory.specs.NameLaws.{has_first, has_later, distinct_apart, all_has}
use Rattle.net_theory.specs.Cost.{cost}
use Rattle.net_theory.specs.Dependence.{IsFirstCyclic}
use Rattle.net_theory.specs.WellFormed.{IsWellFormed}
use Rattle.net_theory.specs.Circuit.{Circuit}
use Rattle.net_core.specs.declared.error.NetError.{NetError}
use Rattle.net_core.specs.declared.error.NetError.TheVariants.{Syntax, NotSupported, MixedCover, TooWide, TooManyGates, DrivenTwice, Undriven, Cycle, LineTooLong, TooManyRows, NameTooLong, Memory}
use Rattle.net_document.specs.Listed.{Listed, IsWellListed, times}
use Rattle.net_document.specs.Refusals.{repeated, missing, undriven_in, twice_or, fault_of, IsRefusedListing}
use Rattle.net_document.specs.TimesLaws.{has_times, times_has, distinct_times, times_distinct}
use Rattle.net_document.specs.Format.{Format, up_to, IsNetlist, IsCircuitOfText, IsReported, IsRefusedText, HasNetFault}
use Rattle.net_document.specs.Format.{IsTextOf, ListsWell, IsFormat}

-- ---- documents without a fault

repeated_none : (before ns : List Name) → are_distinct (before ++ ns) ≡ true → repeated before ns ≡ None
unfolding repeated
repeated_none before [] e = refl
repeated_none before (n ∷ ns) e =
    let apart : has before n ≡ false = false_from_ne_true (has before n) (λ there. both_ways (has (n ∷ ns) n) (distinct_apart before (n ∷ ns) n e there) (has_first n ns)) in
    cond-false (has before n) _ _ apart
    ∙ repeated_none (before ++ n ∷ []) ns (subst (λ (xs : List Name). are_distinct xs ≡ true) (sym (append_assoc before (n ∷ []) ns)) e)

missing_none : (driven ns : List Name) → ((n : Name) → has ns n ≡ true → has driven n ≡ true) → missing driven ns ≡ None
unfolding missing
missing_none driven [] each = refl
missing_none driven (n ∷ ns) each =
    cond-true (has driven n) _ _ (each n (has_first n ns)) ∙ missing_none driven ns (λ m there. each m (has_later n ns m there))

-- each used name is driven, by the lists of names
listed_driven : (l : Listed) → IsWellListed l → IsWellFormed l.document → (n : Name) → has (l.used ++ l.document.outputs) n ≡ true → has l.driven n ≡ true
listed_driven l is well n there =
    let used : 1 ≤ times n (used_names l.document) = omega (arith, has_times (l.used ++ l.document.outputs) n there, is.used n) in
    let driven = all_has (λ (m : Name). has (driven_names l.document) m ≡ true) (used_names l.document) n well.used_driven (times_has (used_names l.document) n used) in
    times_has l.driven n (omega (arith, has_times (driven_names l.document) n driven, is.driven n))

-- a well-formed document within the limit has no fault
pub fault_none : (most : ℕ) (l : Listed) → IsWellListed l → IsWellFormed l.document → cost l.document ≤ most →
    fault_of most l ≡ None
unfolding fault_of
fault_none most l is well few =
    let distinct : are_distinct l.driven ≡ true = times_distinct l.driven (λ n. omega (arith, is.driven n, distinct_times (driven_names l.document) n well.driven_once)) in
    cond-false (nat_lt most (cost l.document)) _ _ (le-ltb most (cost l.document) few)
    ∙ ap (λ (r : Option Name). twice_or r (undriven_in (missing l.driven (l.used ++ l.document.outputs)))) (repeated_none [] l.driven distinct)
    ∙ ap undriven_in (missing_none l.driven (l.used ++ l.document.outputs) (listed_driven l is well))

-- and one without a fault is within the limit
pub within_limit : (most : ℕ) (l : Listed) → fault_of most l ≡ None → cost l.document ≤ most
unfolding fault_of
within_limit most l e =
    ⊎_elim
    (λ many. absurd (let f : Some (TooManyGates (cost l.document)) ≡ None = sym (cond-true _ _ _ many) ∙ e in cc))
    (λ few. ltb-false most (cost l.document) few)
    (cases_Bool (nat_lt most (cost l.document)))

-- ---- the fault of a document

-- the fault of a document; a combinational loop is reported only if there is no other
abbrev Faults : ℕ → Listed → NetError → Type 0
Faults most l e = (fault_of most l ≡ Some e) ⊎ ((fault_of most l ≡ None) × ((name : Name) × (e ≡ Cycle name) × IsFirstCyclic l.document name))

refused_faults : (most : ℕ) (l : Listed) (e : NetError) → (e ≡ Memory → ⊥) → IsRefusedListing most l e → Faults most l e
refused_faults most l Memory never h = absurd (never refl)
refused_faults most l (Cycle name) never h = inr (h.0, (name, refl, h.1))
refused_faults most l (Syntax line) never h = inl h
refused_faults most l (NotSupported line word) never h = inl h
refused_faults most l (MixedCover line) never h = inl h
refused_faults most l (TooWide line) never h = inl h
refused_faults most l (TooManyGates count) never h = inl h
refused_faults most l (DrivenTwice name) never h = inl h
refused_faults most l (Undriven name) never h = inl h
refused_faults most l (LineTooLong line) never h = inl h
refused_faults most l (TooManyRows line) never h = inl h
refused_faults most l (NameTooLong line) never h = inl h

fault_apart : {A : Type 0} (f : Option NetError) (a : NetError) → f ≡ Some a → f ≡ None → A
fault_apart f a x y = absurd (let e : Some a ≡ None = sym x ∙ y in cc)

-- a well-formed document within the limit has no fault at all
faultless : (most : ℕ) (l : Listed) (e : NetError) → IsWellListed l → IsWellFormed l.document → cost l.document ≤ most →
    Faults most l e → ⊥
faultless most l e is well few (inl reported) = fault_apart (fault_of most l) e reported (fault_none most l is well few)
faultless most l e is well few (inr cycle) = well.acyclic cycle.1.2.node cycle.1.2.cyclic

-- the first table that depends on itself is unique
cyclic_one : (d : Document) (a b : Name) → IsFirstCyclic d a → IsFirstCyclic d b → a ≡ b
cyclic_one d a b x y =
    ⊎_elim
    (λ same. let table : Some x.table ≡ Some y.table = sym x.at ∙ ap (λ (k : ℕ). slice_get d.tables k) same ∙ y.at in
    sym x.output ∙ ap (λ (t : Table). t.output) (some_same x.table y.table table) ∙ y.output)
    (λ other. ⊎_elim (λ lt. absurd (y.first x.node lt x.cyclic)) (λ gt. absurd (x.first y.node gt y.cyclic)) other)
    (cases_order x.node y.node) where
      some_same : (t u : Table) → Some t ≡ Some u → t ≡ u
      some_same t u e = cc

fault_same : (f : Option NetError) (a b : NetError) → f ≡ Some a → f ≡ Some b → a ≡ b
fault_same f a b x y = cc

faults_one : (most : ℕ) (l : Listed) (a b : NetError) → Faults most l a → Faults most l b → a ≡ b
faults_one most l a b (inl x) (inl y) = fault_same (fault_of most l) a b x y
faults_one most l a b (inl x) (inr y) = fault_apart (fault_of most l) a x y.0
faults_one most l a b (inr x) (inl y) = fault_apart (fault_of most l) b y x.0
faults_one most l a b (inr x) (inr y) = x.1.1 ∙ ap Cycle (cyclic_one l.document x.1.0 y.1.0 x.1.2 y.1.2) ∙ sym y.1.1

-- ---- the fault of a text

fault_reported : (f : Format) (bytes : List ℕ) (e : NetError) → (e ≡ Memory → ⊥) → IsRefusedText f bytes e → IsReported f bytes e
fault_reported f bytes Memory never h = absurd (never refl)
fault_reported f bytes (Cycle name) never h = h
fault_reported f bytes (Syntax line) never h = h
fault_reported f bytes (NotSupported line word) never h = h
fault_reported f bytes (MixedCover line) never h = h
fault_reported f bytes (TooWide line) never h = h
fault_reported f bytes (TooManyGates count) never h = h
fault_reported f bytes (DrivenTwice name) never h = h
fault_reported f bytes (Undriven name) never h = h
fault_reported f bytes (LineTooLong line) never h = h
fault_reported f bytes (TooManyRows line) never h = h
fault_reported f bytes (NameTooLong line) never h = h

ok_same : (r : Result Listed NetError) (k l : Listed) → r ≡ Ok k → r ≡ Ok l → k ≡ l
ok_same r k l e f = cc

err_same : (r : Result Listed NetError) (c d : NetError) → r ≡ Err c → r ≡ Err d → c ≡ d
err_same r c d e f = cc

ok_err : (r : Result Listed NetError) (l : Listed) (e : NetError) → r ≡ Ok l → r ≡ Err e → ⊥
ok_err r l e x y = let f : Ok l ≡ Err e = sym x ∙ y in cc

reported_one : (f : Format) (bytes : List ℕ) (a b : NetError) → (a ≡ Memory → ⊥) → (b ≡ Memory → ⊥) → IsReported f bytes a → IsReported f bytes b → a ≡ b
reported_one f bytes a b na nb (inl x) (inl y) = err_same (f.listed bytes) a b x y
reported_one f bytes a b na nb (inl x) (inr y) = absurd (ok_err (f.listed bytes) y.0 a y.1 x)
reported_one f bytes a b na nb (inr x) (inl y) = absurd (ok_err (f.listed bytes) x.0 b x.1 y)
reported_one f bytes a b na nb (inr x) (inr y) =
    faults_one f.most y.0 a b
    (refused_faults f.most y.0 a na (subst (λ (l : Listed). IsRefusedListing f.most l a) (ok_same (f.listed bytes) x.0 y.0 x.1 y.1) x.2))
    (refused_faults f.most y.0 b nb y.2)

reported_never : (f : Format) (bytes : List ℕ) (l : Listed) (e : NetError) → ListsWell f → f.listed bytes ≡ Ok l → IsWellFormed l.document → cost l.document ≤ f.most →
    (e ≡ Memory → ⊥) → IsReported f bytes e → ⊥
reported_never f bytes l e is said well few never (inl err) = ok_err (f.listed bytes) l e said err
reported_never f bytes l e is said well few never (inr m) =
    let refused : IsRefusedListing f.most l e = subst (λ (x : Listed). IsRefusedListing f.most x e) (ok_same (f.listed bytes) m.0 l m.1 said) m.2 in
    faultless f.most l e (is bytes l said) well few (refused_faults f.most l e never refused)

-- a text has at most one fault
pub fault_one : (f : Format) (bytes : List ℕ) (a b : NetError) → HasNetFault f bytes a → HasNetFault f bytes b → a ≡ b
fault_one f bytes a b x y = reported_one f bytes a b x.1 y.1 (fault_reported f bytes a x.1 x.0) (fault_reported f bytes b y.1 y.0)

-- and none if it is a netlist
pub fault_never : (f : Format) (bytes : List ℕ) (e : NetError) → ListsWell f → IsNetlist f bytes → HasNetFault f bytes e → ⊥
fault_never f bytes e is netlist h = reported_never f bytes netlist.listed e is netlist.said netlist.well netlist.within h.1 (fault_reported f bytes e h.1 h.0)

is_memory : (e : NetError) → ((e ≡ Memory → ⊥) → ⊥) → e ≡ Memory
is_memory Memory h = refl
is_memory (Cycle name) h = absurd (h (λ e. cc))
is_memory (Syntax line) h = absurd (h (λ e. cc))
is_memory (NotSupported line word) h = absurd (h (λ e. cc))
is_memory (MixedCover line) h = absurd (h (λ e. cc))
is_memory (TooWide line) h = absurd (h (λ e. cc))
is_memory (TooManyGates count) h = absurd (h (λ e. cc))
is_memory (DrivenTwice name) h = absurd (h (λ e. cc))
is_memory (Undriven name) h = absurd (h (λ e. cc))
is_memory (LineTooLong line) h = absurd (h (λ e. cc))
is_memory (TooManyRows line) h = absurd (h (λ e. cc))
is_memory (NameTooLong line) h = absurd (h (λ e. cc))

-- so the only error of a netlist is out of memory
pub refused_memory : (f : Format) (bytes : List ℕ) (e : NetError) → ListsWell f → IsNetlist f bytes → IsRefusedText f bytes e → e ≡ Memory
refused_memory f bytes e is netlist refused = is_memory e (λ never. fault_never f bytes e is netlist (refused, never))

-- ---- other limits of gates

-- the circuit of a text, whose document is within the limit
pub text_within : (f : Format) (bytes : List ℕ) (c : Circuit) (is : IsCircuitOfText f bytes c) → cost is.listed.document ≤ f.most
text_within f bytes c is = within_limit f.most is.listed is.good

-- so it is a netlist
pub text_netlist : (f : Format) (bytes : List ℕ) (c : Circuit) → IsCircuitOfText f bytes c → IsNetlist f bytes
text_netlist f bytes c is = record { listed = is.listed; said = is.said; within = text_within f bytes c is; well = is.well }

-- a format has its own limit
pub own_limit : (f : Format) (bytes : List ℕ) (c : Circuit) → IsCircuitOfText f bytes c → IsCircuitOfText (up_to f.most f) bytes c
own_limit f bytes c is = record { listed = is.listed; said = is.said; good = is.good; well = is.well; circuit = is.circuit }

same_limit : (f : Format) (first second : ℕ) (bytes : List ℕ) (c : Circuit) → IsCircuitOfText (up_to second (up_to first f)) bytes c → IsCircuitOfText (up_to second f) bytes c
same_limit f first second bytes c is = record { listed = is.listed; said = is.said; good = is.good; well = is.well; circuit = is.circuit }

text_limit : (f : Format) (gates : ℕ) (bytes : List ℕ) (c : Circuit) → IsTextOf f bytes c → IsTextOf (up_to gates f) bytes c
text_limit f gates bytes c is = record {
  listed = is.listed;
  said = is.said;
  document = is.document;
  good = is.good;
  well = is.well;
  model = is.model;
  describes = is.describes;
  cheap = is.cheap;
}

-- and with another limit it is a format too
pub other_limit : (f : Format) (Can : Circuit → Type 0) (gates : ℕ) → IsFormat f Can → IsFormat (up_to gates f) Can
other_limit f Can gates is = record {
  lists = is.lists;
  proper = is.proper;
  read_back = λ c can. text_limit f gates (f.text c) c (is.read_back c can);
  kept = λ limit bytes c of_text room. is.kept limit bytes c (same_limit f gates limit bytes c of_text) room;
  exchanged = is.exchanged;
}
