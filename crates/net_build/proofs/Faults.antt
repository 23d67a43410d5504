-- Undriven names, and why a document without faults is well formed.
use Rattle.std.proofs.Common.{◌≡◌, ℕ, ◌≤◌, true, List, [], ◌∷◌, ◌++◌, map, Option, Some, None, refl, ◌∙◌, sym, ⊎_elim, arith}
use Rattle.std.specs.Prelude.{nat_lt, All}
use Rattle.std.proofs.lemmas.Grind.{common_steps}
use Rattle.std.proofs.lemmas.Bool.{cases_Bool, cond-true, cond-false}
use Rattle.net_theory.specs.Document.{Name, has, are_distinct, table_output, source_names, driven_names, used_names}
use Rattle.net_theory.specs.NameLaws.{has_all, distinct_right}
use Rattle.net_theory.specs.Cost.{cost}
use Rattle.net_theory.specs.WellFormed.{IsWellFormed}
use Rattle.graph_core.specs.Visit.{order_of}
use Rattle.net_theory.specs.NetOf.{graph_of}
use Rattle.net_theory.specs.GraphLaws.{order_acyclic}
use Rattle.net_theory.specs.Limits.{most_gates}
use Rattle.net_core.specs.declared.error.NetError.{NetError}
use Rattle.net_core.specs.declared.error.NetError.TheVariants.{TooManyGates}
use Rattle.net_document.specs.Listed.{Listed, IsWellListed, AreControlsFree}
use Rattle.net_document.specs.Refusals.{repeated, missing, twice_or, undriven_in, fault_of}
use Rattle.net_document.specs.TimesLaws.{has_times, times_has, distinct_times, times_distinct, repeated_distinct, missing_driven}

-- an undriven name of the first list comes first
pub missing-some : (driven xs ys : List Name) (n : Name) → missing driven xs ≡ Some n → missing driven (xs ++ ys) ≡ Some n
unfolding missing
missing-some driven [] ys n e = absurd cc
missing-some driven (x ∷ xs) ys n e =
    ⊎_elim
    (λ there. cond-true _ _ _ there ∙ missing-some driven xs ys n (sym (cond-true _ _ _ there) ∙ e))
    (λ apart. cond-false _ _ _ apart ∙ sym (cond-false _ _ _ apart) ∙ e)
    (cases_Bool (has driven x))

pub missing-none : (driven xs ys : List Name) → missing driven xs ≡ None → missing driven (xs ++ ys) ≡ missing driven ys
unfolding missing
missing-none driven [] ys e = refl
missing-none driven (x ∷ xs) ys e =
    ⊎_elim
    (λ there. cond-true _ _ _ there ∙ missing-none driven xs ys (sym (cond-true _ _ _ there) ∙ e))
    (λ apart. absurd (let f : Some x ≡ None = sym (cond-false _ _ _ apart) ∙ e in cc))
    (cases_Bool (has driven x))

pub ruleset missings = (common_steps, missing-some, missing-none)

-- ---- no faults

pub record HasNoFault (most : ℕ) (l : Listed) : Type 0 where
  pub gates : cost l.document ≤ most
  pub once : repeated [] l.driven ≡ None
  pub driven : missing l.driven (l.used ++ l.document.outputs) ≡ None

twice_none : (r : Option Name) (next : Option NetError) → twice_or r next ≡ None → (r ≡ None) × (next ≡ None)
twice_none None next e = (refl, e)
twice_none (Some n) next e = absurd cc

undriven_none : (r : Option Name) → undriven_in r ≡ None → r ≡ None
undriven_none None e = refl
undriven_none (Some n) e = absurd cc

pub no_fault : (most : ℕ) (l : Listed) → fault_of most l ≡ None → HasNoFault most l
unfolding fault_of
no_fault most l e =
    ⊎_elim
    (λ many. absurd (let f : Some (TooManyGates (cost l.document)) ≡ None = sym (cond-true _ _ _ many) ∙ e in cc))
    (λ few.
    let t = twice_none (repeated [] l.driven) (undriven_in (missing l.driven (l.used ++ l.document.outputs))) (sym (cond-false _ _ _ few) ∙ e) in
    record { gates = grind (arith, common_steps, few); once = t.0; driven = undriven_none (missing l.driven (l.used ++ l.document.outputs)) t.1 })
    (cases_Bool (nat_lt most (cost l.document)))

no_names : are_distinct [] ≡ true
unfolding are_distinct
no_names = refl

driven_distinct : (most : ℕ) (l : Listed) → IsWellListed l → HasNoFault most l → are_distinct (driven_names l.document) ≡ true
driven_distinct most l is free =
    let once : are_distinct l.driven ≡ true = repeated_distinct [] l.driven no_names free.once in
    times_distinct (driven_names l.document) (λ n. omega (arith, is.driven n, distinct_times l.driven n once))

used_driven : (most : ℕ) (l : Listed) → IsWellListed l → HasNoFault most l → All (λ n. has (driven_names l.document) n ≡ true) (used_names l.document)
used_driven most l is free =
    has_all (λ n. has (driven_names l.document) n ≡ true) (used_names l.document) (λ n h.
    let used : has (l.used ++ l.document.outputs) n ≡ true = times_has (l.used ++ l.document.outputs) n (omega (arith, is.used n, has_times (used_names l.document) n h)) in
    let driven : has l.driven n ≡ true = missing_driven l.driven (l.used ++ l.document.outputs) n free.driven used in
    times_has (driven_names l.document) n (omega (arith, is.driven n, has_times l.driven n driven)))

-- the outputs of tables are distinct
pub outputs_distinct : (most : ℕ) (l : Listed) → IsWellListed l → fault_of most l ≡ None → are_distinct (map table_output l.document.tables) ≡ true
outputs_distinct most l is e =
    distinct_right (source_names l.document) (map table_output l.document.tables) (driven_distinct most l is (no_fault most l e))

-- a listed document without a fault whose tables have a topological order is well formed
pub listed_well : (most : ℕ) (l : Listed) (order : List ℕ) → most ≤ most_gates → IsWellListed l → AreControlsFree l.document →
    fault_of most l ≡ None → order_of (graph_of l.document.tables) ≡ Some order → IsWellFormed l.document
listed_well most l order low is free e ordered = record {
  model = is.model;
  inputs = is.inputs;
  outputs = is.outputs;
  clocks = is.clocks;
  latches = is.latches;
  tables = is.tables;
  controls = free;
  gates = omega (arith, low, (no_fault most l e).gates);
  driven_once = driven_distinct most l is (no_fault most l e);
  used_driven = used_driven most l is (no_fault most l e);
  acyclic = order_acyclic l.document order (outputs_distinct most l is e) ordered;
}
