-- The table of signs during the simplification of a clause.
use Rattle.std.proofs.Common.{◌≡◌, ◌≢◌, ℕ, zero, suc, ◌+◌, ◌≤◌, ◌<◌, ℤ, pos, negsuc, neg_ℤ, Bool, true, false, not}
use Rattle.std.proofs.Common.{◌||◌, List, [], ◌∷◌, ◌++◌, Option, Some, None, get_or, set, take, All, length, refl, ap}
use Rattle.std.proofs.Common.{ap₂, sym, ◌∙◌, subst, arith, inl, inr, ◌⊎◌}
use mathlib.Core.Bool.{beq}
use Rattle.std.proofs.Math.Logic.{⊎_elim}
use Rattle.std.proofs.Math.Seq.{take-append_seam}
use Rattle.std.proofs.lemmas.Bool.{cases_order, cases_lt}
use Rattle.std.proofs.lemmas.Bool.Decides.{Decides-int_eq}
use Rattle.std.proofs.lemmas.Cmp.{int_eq_equiv}
use Rattle.std.proofs.lemmas.List.{get_or-set_same, get_or-set_other, length-set}
use Rattle.std.proofs.lemmas.List.Elements.{All-nil, All-push}
use Rattle.std.proofs.lemmas.List.Folds.{list_any-append, Any-from_list_any}
use Rattle.std.specs.Ordering.{int_eq}
use Rattle.std.specs.List.{list_any}
use Rattle.sat_theory.specs.Formula.{signed, variable, IsClause, IsWithin, IsFormula}
use Rattle.clause_core.specs.declared.raw.RawLit.{RawLit}
use Rattle.clause_core.specs.declared.raw.RawLit.TheVariants.{Var}
use Rattle.clause_core.specs.Clauses.{has, simplified}
use Rattle.clause_core.specs.Seen.{going, same_bit, is_known, IsSeen, IsBlank, HoldsList}
use Rattle.clause_core.proofs.Simplified.{simplified-opposite, simplified-again, simplified-new, variable-signed, clause_push}

same_or_other : (a b : ℕ) → (a ≡ b) ⊎ (a ≢ b)
same_or_other a b = ⊎_elim (λ (e : a ≡ b). inl e) (λ (apart : (a < b) ⊎ (b < a)). ⊎_elim (λ (low : a < b). inr (λ e. omega arith)) (λ (high : b < a). inr (λ e. omega arith)) apart) (cases_order a b)

-- ---- literals

int_ne : (x y : ℤ) → (x ≡ y → ⊥) → int_eq x y ≡ false
int_ne x y other = elim (int_eq x y) as (λ b. int_eq x y ≡ b → int_eq x y ≡ false) [ true ↦ λ e. absurd (other ((Decides-int_eq x y).0 e)) | false ↦ λ e. e ] refl

same_sign : (v : ℕ) (b c : Bool) → 1 ≤ v → int_eq (signed v c) (signed v b) ≡ same_bit b c
same_sign v true true some = int_eq_equiv.refl (pos v)
same_sign v false false some = int_eq_equiv.refl (neg_ℤ (pos v))
same_sign zero true false some = absurd (omega arith)
same_sign (suc v) true false some = int_ne (negsuc v) (pos (suc v)) (λ e. cc)
same_sign zero false true some = absurd (omega arith)
same_sign (suc v) false true some = int_ne (pos (suc v)) (negsuc v) (λ e. cc)

other_variable : (v w : ℕ) (b c : Bool) → w ≢ v → int_eq (signed w c) (signed v b) ≡ false
other_variable v w b c other = int_ne (signed w c) (signed v b) (λ e. other (sym (variable-signed w c) ∙ ap variable e ∙ variable-signed v b))

or_false : (b : Bool) → (b || false) ≡ b
or_false true = refl
or_false false = refl

has-push : (lits : List ℤ) (l m : ℤ) → has (lits ++ l ∷ []) m ≡ (has lits m || int_eq m l)
unfolding has
has-push lits l m = list_any-append (int_eq m) lits (l ∷ []) ∙ ap (λ b. list_any (int_eq m) lits || b) (or_false (int_eq m l))

-- ---- variables that occurred

pub blank_seen : (seen : List (Option Bool)) → IsBlank seen → IsSeen seen []
unfolding has
blank_seen seen blank = record {
  known = λ v bit some low. rw (blank.none v) refl;
  zero = blank.none 0;
  within = All-nil (λ l. variable l < length seen);
}

-- a variable that occurred: its literal is there, or the clause is true
pub seen_again : (seen : List (Option Bool)) (lits : List ℤ) (v : ℕ) (known bit : Bool) (raws : List RawLit) →
    IsSeen seen lits → 1 ≤ v → v < length seen → get_or seen v None ≡ Some known →
    simplified lits (Var v bit ∷ raws) ≡ going (same_bit known bit) lits raws
seen_again seen lits v true true raws is some low at = simplified-again lits v true raws (is.known v false some low ∙ rw at refl) (is.known v true some low ∙ rw at refl)
seen_again seen lits v false false raws is some low at = simplified-again lits v false raws (is.known v true some low ∙ rw at refl) (is.known v false some low ∙ rw at refl)
seen_again seen lits v true false raws is some low at = simplified-opposite lits v false raws (is.known v true some low ∙ rw at refl)
seen_again seen lits v false true raws is some low at = simplified-opposite lits v true raws (is.known v false some low ∙ rw at refl)

-- one that didn't occur: its literal is added
pub seen_new : (seen : List (Option Bool)) (lits : List ℤ) (v : ℕ) (bit : Bool) (raws : List RawLit) →
    IsSeen seen lits → 1 ≤ v → v < length seen → get_or seen v None ≡ None →
    simplified lits (Var v bit ∷ raws) ≡ simplified (lits ++ signed v bit ∷ []) raws
seen_new seen lits v bit raws is some low at = simplified-new lits v bit raws (is.known v (not bit) some low ∙ rw at refl) (is.known v bit some low ∙ rw at refl)

pub seen_clause : (seen : List (Option Bool)) (lits : List ℤ) (v : ℕ) (bit : Bool) → IsSeen seen lits → 1 ≤ v →
    v < length seen → get_or seen v None ≡ None → IsClause lits → IsClause (lits ++ signed v bit ∷ [])
seen_clause seen lits v bit is some low at clause = clause_push lits v bit clause some (is.known v (not bit) some low ∙ rw at refl) (is.known v bit some low ∙ rw at refl)

-- then the table has its sign
pub seen_push : (seen : List (Option Bool)) (lits : List ℤ) (v : ℕ) (bit : Bool) → IsSeen seen lits → 1 ≤ v →
    v < length seen → get_or seen v None ≡ None → IsSeen (set seen v (Some bit)) (lits ++ signed v bit ∷ [])
seen_push seen lits v bit is some low at = record {
  known = λ w c from to.
      let to_old : w < length seen = rw (← length-set seen v (Some bit)) to in
      has-push lits (signed v bit) (signed w c)
      ∙ ⊎_elim
      (λ (same : w ≡ v).
      let own : has lits (signed w c) ≡ false = is.known w c from to_old ∙ ap (λ o. is_known o c) (ap (λ (k : ℕ). get_or seen k None) same ∙ at) in
      let sign : int_eq (signed w c) (signed v bit) ≡ same_bit bit c = subst (λ (k : ℕ). int_eq (signed k c) (signed v bit) ≡ same_bit bit c) (sym same) (same_sign v bit c some) in
      let now : get_or (set seen v (Some bit)) w None ≡ Some bit = subst (λ (k : ℕ). get_or (set seen v (Some bit)) k None ≡ Some bit) (sym same) (get_or-set_same seen v (Some bit) None low) in
      ap₂ (λ a b. a || b) own sign ∙ sym (ap (λ o. is_known o c) now))
      (λ (other : w ≢ v).
      let sign : int_eq (signed w c) (signed v bit) ≡ false = other_variable v w bit c other in
      ap (λ b. has lits (signed w c) || b) sign ∙ or_false (has lits (signed w c)) ∙ is.known w c from to_old ∙ sym (ap (λ o. is_known o c) (get_or-set_other seen v w (Some bit) None other)))
      (same_or_other w v);
  zero = get_or-set_other seen v 0 (Some bit) None (λ e. omega arith) ∙ is.zero;
  within = rw length-set (All-push (λ l. variable l < length seen) lits (signed v bit) is.within (rw variable-signed low));
}

-- ---- clearing

same_is : (b : Bool) → same_bit b b ≡ true
same_is true = refl
same_is false = refl

-- an entry is cleared, or it is unchanged and none of the literals has its variable
pub record Cleared (lits : List ℤ) (at : ℕ) (first now : List (Option Bool)) : Type 0 where
  pub each : (v : ℕ) → (get_or now v None ≡ None) ⊎ ((get_or now v None ≡ get_or first v None) × ((k : ℕ) (d : ℤ) → k < at → variable (get_or lits k d) ≢ v))
  pub size : length now ≡ length first

-- after the end of a list an entry is the default
after : {X : Type 0} (xs : List X) (k : ℕ) (d : X) → length xs ≤ k → get_or xs k d ≡ d
after {X} [] k d low = refl
after {X} (x ∷ xs) zero d low = absurd (omega arith)
after {X} (x ∷ xs) (suc k) d low = after xs k d (omega arith)

-- a literal that lits has is at some index, with its variable
there : {A : Type 0} (lits : List ℤ) (l : ℤ) → has lits l ≡ true → ((k : ℕ) (d : ℤ) → k < length lits → variable (get_or lits k d) ≢ variable l) → A
unfolding has
there {A} lits l is none =
    let found = Any-from_list_any (int_eq l) lits is in
    let x : ℤ = found.1 in
    let same : l ≡ x = (Decides-int_eq l x).0 found.4 in
    absurd (none found.0 x found.2 (ap variable (found.3 ∙ sym same)))

-- a variable of none of the literals has no sign
unknown : (lits : List ℤ) (at : ℕ) (seen : List (Option Bool)) → IsSeen seen lits → (v : ℕ) → ((k : ℕ) (d : ℤ) → k < at → variable (get_or lits k d) ≢ v) → length lits ≤ at → get_or seen v None ≡ None
unknown lits at seen is zero none all = is.zero
unknown lits at seen is (suc v) none all =
    ⊎_elim
    (λ (low : suc v < length seen).
    elim (get_or seen (suc v) None) as (λ (o : Option Bool). get_or seen (suc v) None ≡ o → get_or seen (suc v) None ≡ None) [
      | None ↦ λ e. e
      | Some b ↦ λ e. there lits (signed (suc v) b) (is.known (suc v) b (omega arith) low ∙ ap (λ o. is_known o b) e
          ∙ same_is b) (λ k d inside. λ same. none k d (omega (arith, inside, all)) (same ∙ variable-signed (suc v) b))
    ] refl)
    (λ (high : length seen ≤ suc v). after seen (suc v) None high)
    (cases_lt (suc v) (length seen))

pub cleared_all : (lits : List ℤ) (at : ℕ) (first now : List (Option Bool)) → IsSeen first lits → Cleared lits at first now → length lits ≤ at → IsBlank now
cleared_all lits at first now seen is all = record {
  none = λ v. ⊎_elim
      (λ (gone : get_or now v None ≡ None). gone)
      (λ (stays : (get_or now v None ≡ get_or first v None) × ((k : ℕ) (d : ℤ) → k < at → variable (get_or lits k d) ≢ v)). stays.0 ∙ unknown lits at first seen v stays.1 all)
      (is.each v);
}

-- ---- the list

-- A clause over a formula's variables can be added to it.
pub list_pushed : (vars : ℕ) (old new : List (List ℤ)) (seen : List (Option Bool)) (clause : List ℤ) → new ≡ old ++
    clause ∷ [] → IsFormula (record { vars = vars; clauses = old }) → vars < 1000000000 → length seen ≡ vars + 1 →
    IsBlank seen → IsClause clause → All (λ l. variable l < length seen) clause →
    HoldsList (record { vars = vars; clauses = new }) seen
list_pushed vars old new seen clause is before few room blank is_clause within = rw is (record {
  formula = record {
    clauses = All-push IsClause old clause before.clauses is_clause;
    variables = All-push (IsWithin vars) old clause before.variables (λ k d low. omega (arith, within k d low, room));
  };
  few = few;
  room = room;
  blank = blank;
})

pub empty_clause : IsClause []
empty_clause = record { literals = λ k d low. absurd (omega arith); differ = λ i j d before low. absurd (omega arith) }

pub beq_is : (a b : Bool) → beq a b ≡ same_bit a b
beq_is true true = refl
beq_is true false = refl
beq_is false true = refl
beq_is false false = refl

-- a whole slice of a vector after it was written
pub viewed : {X : Type 0} (xs ys : List X) (n : ℕ) → length xs ≡ n → take n (xs ++ ys) ≡ xs
viewed {X} xs ys n e = rw (← e) (take-append_seam xs ys)
