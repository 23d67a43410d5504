-- Slots that are filled with one literal after the other.
use Rattle.std.proofs.Common.{◌≡◌, ℕ, ◌+◌, ◌%◌, ◌<◌, ◌≤◌, ◌⊎◌, get_or, take, ◌==◌, ◌++◌, ◌∷◌, [], ℤ, cond, List, length}
use Rattle.std.proofs.Common.{Contains, replicate, slice_index_or, slice_set, refl, sym, ap, ◌∙◌, inl, inr, arith}
use Rattle.std.proofs.Common.{subst, ◌↔◌, IsTrue}
use Rattle.std.proofs.Math.Logic.{⊎_elim}
use Rattle.std.proofs.lemmas.Bool.{cases_eq, cases_lt, eqb-true, eq-eqb, ne_eqb}
use Rattle.std.proofs.lemmas.Grind.{common_steps}
use Rattle.std.proofs.lemmas.Nat.{mod_below}
use Rattle.std.proofs.lemmas.List.{take_more}
use Rattle.std.proofs.lemmas.List.Elements.{Contains-push, Contains-push_cases, Contains-append_left}
use Rattle.cnf_core.specs.Codes.{code_of}
use Rattle.cnf_core.specs.CodeLaws.{code_of-same}
use Rattle.lrat_check.specs.OccurrenceIndex.{HasLiteral}
use Rattle.lrat_check.specs.Slots.{slot_of, slot_at, with_slot, AreSlots}

abbrev slot_in : List ℕ → ℕ → ℕ
slot_in slots k = slice_index_or slots k 0

zeros : (n k : ℕ) → slot_in (replicate n 0) k ≡ 0
zeros n k =
    let zs : List ℕ = replicate n 0 in
    ⊎_elim
    (λ (within : k < n). let none : slice_index_or zs k 0 ≡ 0 = grind (arith, common_steps) in none)
    (λ (past : n ≤ k). let none : slice_index_or zs k 0 ≡ 0 = grind (arith, common_steps) in none)
    (cases_lt k n)

-- The slots of an empty list.
pub none_filled : AreSlots (replicate 1024 0) []
none_filled = record {
  each = λ l there. absurd (let within : there.0 < 0 = there.1 in omega arith);
  only = λ l is. absurd (let none : slot_at (replicate 1024 0) l ≡ 0 = zeros 1024 (slot_of l) in omega arith);
  room = refl;
}

set_same : (slots : List ℕ) (p q v : ℕ) → p < length slots → q ≡ p → slice_index_or (slice_set slots p v) q 0 ≡ v
set_same slots p q v within same = rw same (grind (arith, common_steps))

set_other : (slots : List ℕ) (p q v : ℕ) → p < length slots → (q ≡ p → ⊥) → slice_index_or (slice_set slots p v) q 0 ≡ slice_index_or slots q 0
set_other slots p q v within apart = grind (arith, common_steps)

fresh_entry : (slot code : ℕ) → slot ≡ 0 → cond (slot == 0) (code + 2) 1 ≡ code + 2
fresh_entry slot code none = rw (eq-eqb slot 0 none) refl

used_entry : (slot code : ℕ) → (slot ≡ 0 → ⊥) → cond (slot == 0) (code + 2) 1 ≡ 1
used_entry slot code some = rw (ne_eqb slot 0 some) refl

-- The slots of a list with one more literal.
pub filled : (slots : List ℕ) (lits : List ℤ) (l : ℤ) → AreSlots slots lits → AreSlots (with_slot slots l) (lits ++ l ∷ [])
filled slots lits l are = record {
  each = λ m there.
      ⊎_elim
      (λ (before : Contains lits m).
      ⊎_elim
      (λ (same : slot_of m ≡ slot_of l).
      let old : slot_at slots m ≡ slot_at slots l = ap (λ (p : ℕ). slice_index_or slots p 0) same in
      let some : slot_at slots l ≡ 0 → ⊥ = λ none. ⊎_elim (λ (own : slot_at slots m ≡ code_of m + 2). let e : 0 ≡
      code_of m + 2 = sym none ∙ sym old ∙ own in omega (arith, e)) (λ (several : slot_at slots m ≡ 1). let e : 0 ≡
      1 = sym none ∙ sym old ∙ several in omega (arith, e)) (are.each m before) in
      inr (now m same ∙ used_entry (slot_at slots l) (code_of l) some))
      (λ (apart : slot_of m ≡ slot_of l → ⊥). subst (λ (n : ℕ). (n ≡ code_of m + 2) ⊎ (n ≡ 1)) (sym (as_before m apart)) (are.each m before))
      (cases_eq (slot_of m) (slot_of l)))
      (λ (own : l ≡ m).
      let same : slot_of m ≡ slot_of l = ap slot_of (sym own) in
      ⊎_elim
      (λ (none : slot_at slots l ≡ 0). inl (now m same ∙ fresh_entry (slot_at slots l) (code_of l) none ∙ ap (λ (x : ℤ). code_of x + 2) own))
      (λ (some : slot_at slots l ≡ 0 → ⊥). inr (now m same ∙ used_entry (slot_at slots l) (code_of l) some))
      (cases_eq (slot_at slots l) 0))
      (Contains-push_cases lits l m there);
  only = λ m is.
      ⊎_elim
      (λ (same : slot_of m ≡ slot_of l).
      let value : cond (slot_at slots l == 0) (code_of l + 2) 1 ≡ code_of m + 2 = sym (now m same) ∙ is in
      ⊎_elim
      (λ (none : slot_at slots l ≡ 0).
      let both : code_of l + 2 ≡ code_of m + 2 = sym (fresh_entry (slot_at slots l) (code_of l) none) ∙ value in
      let code : code_of l ≡ code_of m = omega (arith, both) in
      subst (λ (x : ℤ). Contains (lits ++ l ∷ []) x) (code_of-same l m code) (Contains-push lits l))
      (λ (some : slot_at slots l ≡ 0 → ⊥). let one : 1 ≡ code_of m + 2 = sym (used_entry (slot_at slots l) (code_of l) some) ∙ value in absurd (omega (arith, one)))
      (cases_eq (slot_at slots l) 0))
      (λ (apart : slot_of m ≡ slot_of l → ⊥). Contains-append_left lits (l ∷ []) m (are.only m (sym (as_before m apart) ∙ is)))
      (cases_eq (slot_of m) (slot_of l));
  room = grind (arith, common_steps, are.room);
}
  where
    within : slot_of l < length slots
    within = rw are.room (mod_below (code_of l) 1024 (omega arith))

    now : (m : ℤ) → slot_of m ≡ slot_of l → slot_at (with_slot slots l) m ≡ cond (slot_at slots l == 0) (code_of l + 2) 1
    now m same = set_same slots (slot_of l) (slot_of m) (cond (slot_at slots l == 0) (code_of l + 2) 1) within same

    as_before : (m : ℤ) → (slot_of m ≡ slot_of l → ⊥) → slot_at (with_slot slots l) m ≡ slot_at slots m
    as_before m apart = set_other slots (slot_of l) (slot_of m) (cond (slot_at slots l == 0) (code_of l + 2) 1) within apart

-- One literal further in a list, and the whole list.
pub filled_more : (slots new : List ℕ) (lits : List ℤ) (i : ℕ) (l : ℤ) → i < length lits → l ≡ get_or lits i l →
    AreSlots slots (take i lits) → new ≡ with_slot slots l → AreSlots new (take (i + 1) lits)
filled_more slots new lits i l within at are is =
    let more : take (i + 1) lits ≡ take i lits ++ l ∷ [] = take_more lits i l within ∙ ap (λ (x : ℤ). take i lits ++ x ∷ []) (sym at) in
    subst (λ (ss : List ℕ). AreSlots ss (take (i + 1) lits)) (sym is) (subst (λ (ls : List ℤ). AreSlots (with_slot slots l) ls) (sym more) (filled slots (take i lits) l are))

pub filled_all : (slots : List ℕ) (lits : List ℤ) (i : ℕ) → length lits ≤ i → AreSlots slots (take i lits) → AreSlots slots lits
filled_all slots lits i past are =
    let all : take i lits ≡ lits = grind (arith, common_steps, past) in
    subst (λ (ls : List ℤ). AreSlots slots ls) all are

-- A slot that isn't shared decides membership.
pub slot_reports : (slots : List ℕ) (lits : List ℤ) (l : ℤ) (code : ℕ) → AreSlots slots lits → code ≡ code_of l →
    (slice_index_or slots (code % 1024) 0 ≡ 1 → ⊥) →
    IsTrue (slice_index_or slots (code % 1024) 0 == (code + 2)) ↔ HasLiteral lits l
unfolding HasLiteral
slot_reports slots lits l code are is one = (
  λ yes_. are.only l (subst (λ (k : ℕ). slice_index_or slots (k % 1024) 0 ≡ k + 2) is (eqb-true (slice_index_or slots (code % 1024) 0) (code + 2) yes_)),
  λ there. eq-eqb (slice_index_or slots (code % 1024) 0) (code + 2)
      (subst (λ (k : ℕ). slice_index_or slots (k % 1024) 0 ≡ k + 2) (sym is)
      (⊎_elim (λ (own : slot_at slots l ≡ code_of l + 2). own) (λ (several : slot_at slots l ≡ 1).
      absurd (one (subst (λ (k : ℕ). slice_index_or slots (k % 1024) 0 ≡ 1) (sym is) several))) (are.each l there))),
)

pub ruleset filling = (common_steps, none_filled, filled)
