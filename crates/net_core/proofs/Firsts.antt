-- The first output of each node, recorded from the last output to the first.
use Rattle.std.proofs.Common.{◌≡◌, ℕ, zero, suc, ◌+◌, ◌-◌, ◌≤◌, ◌<◌, ◌==◌, if◌then◌else◌, List, [], ◌∷◌, length, drop}
use Rattle.std.proofs.Common.{set, get_or, replicate, Option, Some, None, refl, ap, ◌∙◌, sym, arith, ⊎_elim, length-set}
use Rattle.std.specs.Prelude.{option_and_then}
use Rattle.std.specs.List.{slice_get, slice_index_or}
use Rattle.std.proofs.lemmas.Grind.{common_steps}
use Rattle.std.proofs.lemmas.Option.{gets}
use Rattle.std.proofs.lemmas.Bool.{cases_eq, cond-true, cond-false, eq-eqb, ne_eqb}
use Rattle.std.proofs.lemmas.List.{get_or-set_same, get_or-set_other}
use Rattle.net_theory.specs.declared.data.Sig.{Sig}
use Rattle.net_theory.specs.declared.data.Sig.TheVariants.{Zero, One, Node}
use Rattle.net_theory.specs.declared.data.Gate.{Gate}
use Rattle.net_theory.specs.Net.{Net, IsSigBelow}
use Rattle.net_theory.specs.NamingLaws.{names_after-same}
use Rattle.net_theory.specs.Document.{Name}
use Rattle.net_theory.specs.Naming.{is_at, output_on, free_names, names_after, enough, names_in, Naming}
use Rattle.net_core.specs.Names.{naming, first_name, noted, AreFirsts}

-- ---- one look-up

pub found_some : (firsts : List (Option ℕ)) (outputs : List Name) (p i : ℕ) → slice_index_or firsts p None ≡ Some i → slice_get outputs i ≡ first_name firsts outputs p
unfolding first_name
found_some firsts outputs p i e = sym (ap (option_and_then (slice_get outputs)) e)

pub found_none : (firsts : List (Option ℕ)) (outputs : List Name) (p : ℕ) → slice_index_or firsts p None ≡ None → None ≡ first_name firsts outputs p
unfolding first_name
found_none firsts outputs p e = sym (ap (option_and_then (slice_get outputs)) e)

pub ruleset found = (common_steps, gets, found_some, found_none)

-- ---- recording

at_drop : {A : Type 0} (xs : List A) (j : ℕ) (x : A) → slice_get xs j ≡ Some x → drop j xs ≡ x ∷ drop (suc j) xs
at_drop [] j x e = absurd cc
at_drop (y ∷ xs) zero x e = let same : y ≡ x = cc in ap (λ z. z ∷ xs) same
at_drop (y ∷ xs) (suc j) x e = at_drop xs j x e

-- the signal of an output, and the others
output_on-next : (outputs : List Name) (sinks : List Sig) (j p : ℕ) (o : Name) (s : Sig) →
    slice_get outputs j ≡ Some o → slice_get sinks j ≡ Some s → output_on (drop j outputs) (drop j sinks) p ≡
    (if is_at s p then Some o else output_on (drop (suc j) outputs) (drop (suc j) sinks) p)
unfolding output_on
output_on-next outputs sinks j p o s at_o at_s =
    ap (λ os. output_on os (drop j sinks) p) (at_drop outputs j o at_o) ∙ ap (λ ss. output_on (o ∷ drop (suc j) outputs) ss p) (at_drop sinks j s at_s)

first_name-set : (firsts : List (Option ℕ)) (outputs : List Name) (j q p : ℕ) (o : Name) →
    slice_get outputs j ≡ Some o → q < length firsts → first_name (set firsts q (Some j)) outputs p ≡
    (if q == p then Some o else first_name firsts outputs p)
unfolding first_name
first_name-set firsts outputs j q p o at low =
    ⊎_elim
    (λ same. ap (λ x. option_and_then (slice_get outputs) (get_or (set firsts q (Some j)) x None)) (sym same)
    ∙ ap (option_and_then (slice_get outputs)) (get_or-set_same firsts q (Some j) None low) ∙ at
    ∙ sym (cond-true (q == p) _ _ (eq-eqb q p same)))
    (λ other. ap (option_and_then (slice_get outputs)) (get_or-set_other firsts q p (Some j) None (λ e. other (sym e))) ∙ sym (cond-false (q == p) _ _ (ne_eqb q p other)))
    (cases_eq q p)

note_by : (firsts : List (Option ℕ)) (outputs : List Name) (j p : ℕ) (o : Name) (s : Sig) →
    slice_get outputs j ≡ Some o → IsSigBelow (length firsts) s →
    first_name (noted firsts s j) outputs p ≡ (if is_at s p then Some o else first_name firsts outputs p)
note_by firsts outputs j p o Zero at below = refl
note_by firsts outputs j p o One at below = refl
note_by firsts outputs j p o (Node q) at below = first_name-set firsts outputs j q p o at below.1

length-noted : (firsts : List (Option ℕ)) (s : Sig) (j : ℕ) → length (noted firsts s j) ≡ length firsts
length-noted firsts Zero j = refl
length-noted firsts One j = refl
length-noted firsts (Node q) j = length-set firsts q (Some j)

-- one more output is recorded
pub firsts_next : (firsts : List (Option ℕ)) (outputs : List Name) (sinks : List Sig) (i : ℕ) (o : Name) (s : Sig) →
    0 < i → slice_get outputs (i - 1) ≡ Some o → slice_get sinks (i - 1) ≡ Some s → IsSigBelow (length firsts) s →
    AreFirsts firsts outputs i sinks → AreFirsts (noted firsts s (i - 1)) outputs (i - 1) sinks
firsts_next firsts outputs sinks i o s some at_o at_s below are =
    let e : i ≡ suc (i - 1) = omega arith in
    record {
      each = λ p low.
          note_by firsts outputs (i - 1) p o s at_o below
          ∙ ap (λ x. if is_at s p then Some o else x) (are.each p (omega (arith, length-noted firsts s (i - 1))) ∙ ap (λ k. output_on (drop k outputs) (drop k sinks) p) e)
          ∙ sym (output_on-next outputs sinks (i - 1) p o s at_o at_s);
    }

nothing_noted : (n : ℕ) (outputs : List Name) (p : ℕ) → first_name (replicate n None) outputs p ≡ None
unfolding first_name
nothing_noted zero outputs p = refl
nothing_noted (suc n) outputs zero = refl
nothing_noted (suc n) outputs (suc p) = nothing_noted n outputs p

drop_all : {A : Type 0} (xs : List A) → drop (length xs) xs ≡ []
drop_all [] = refl
drop_all (x ∷ xs) = drop_all xs

none_left : (sinks : List Sig) (p : ℕ) → output_on [] sinks p ≡ None
unfolding output_on
none_left sinks p = refl

-- before any output is recorded
pub firsts_none : (n : ℕ) (outputs : List Name) (sinks : List Sig) → AreFirsts (replicate n None) outputs (length outputs) sinks
firsts_none n outputs sinks =
    record { each = λ p low. nothing_noted n outputs p ∙ sym (ap (λ os. output_on os (drop (length outputs) sinks) p) (drop_all outputs) ∙ none_left (drop (length outputs) sinks) p) }

-- ---- all names

pub names_are : (taken outputs : List Name) (n : Net) (firsts : List (Option ℕ)) (end : ℕ) (sources : ℕ)
    (gates : List Gate) (names free : List Name) → AreFirsts firsts outputs 0 n.sinks →
    length firsts ≡ n.sources + 1 + length n.gates → end ≡ length n.gates + 3 + length taken → sources ≡ n.sources →
    gates ≡ n.gates → naming names free ≡ names_after (first_name firsts outputs)
    (naming [] (free_names taken 1 (end - 1))) (sources + 1) gates → naming names free ≡ names_in taken outputs n
unfolding names_in
names_are taken outputs n firsts end sources gates names free are size last same_sources same_gates e =
    let count : end - 1 ≡ enough taken n = omega (arith, last) in
    let nodes : (p : ℕ) → n.sources + 1 ≤ p → p < n.sources + 1 + length n.gates → first_name firsts outputs p ≡ output_on outputs n.sinks p = λ p from low. are.each p (omega (arith, size)) in
    e
    ∙ ap (λ s. names_after (first_name firsts outputs) (naming [] (free_names taken 1 (end - 1))) (s + 1) gates) same_sources
    ∙ ap (λ gs. names_after (first_name firsts outputs) (naming [] (free_names taken 1 (end - 1))) (n.sources + 1) gs) same_gates
    ∙ ap (λ k. names_after (first_name firsts outputs) (naming [] (free_names taken 1 k)) (n.sources + 1) n.gates) count
    ∙ names_after-same (first_name firsts outputs) (output_on outputs n.sinks) (naming [] (free_names taken 1 (enough taken n))) (n.sources + 1) n.gates nodes

pub parts_free : (names free : List Name) (m : Naming) → naming names free ≡ m → free ≡ m.free
parts_free names free m e = ap (λ (x : Naming). x.free) e

pub ruleset spares = (common_steps, parts_free)
