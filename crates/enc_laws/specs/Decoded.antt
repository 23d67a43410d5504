-- The chain that an assignment spells, for tables with trivial outputs, which need no steps.
use Rattle.std.proofs.Common.{◌≡◌, ℕ, true, List, length, map, refl, sym, ap, subst}
use Rattle.chain_theory.specs.Chain.{Step, Chain, IsChain}
use Rattle.chain_theory.specs.Agreement.{Agrees, IsOver, HasChain}
use Rattle.chain_theory.specs.declared.data.Out.{Out}
use Rattle.op_basis.specs.Basis.{members}
use Rattle.sat_theory.specs.Formula.{Assignment}
use Rattle.tt_core.specs.Words.{Words, specification}
use Rattle.tt_core.specs.Live.{live_words}
use Rattle.enc_theory.specs.declared.data.Dimensions.{Dimensions}
use Rattle.enc_theory.specs.Numbering.{sizes_of, places}
use Rattle.enc_theory.specs.Pairs.{StepSlots}
use Rattle.enc_theory.specs.Families.{common}
use Rattle.enc_theory.specs.Decode.{first_driver, decoded_step, restored, with_outs, decoded}
use Rattle.clause_core.specs.Holds.{holds}
use Rattle.enc_laws.specs.Layouts.{IsLaid}
use Rattle.enc_laws.specs.Live.{whole_chain, restored_is_chain, restored_agrees}
use Rattle.enc_laws.specs.Solves.{Solves, solves_from}
use Rattle.enc_laws.specs.Sound.{spelled, spelled_outs, IsSpelled, spelled_is_chain, spelled_agrees, solved_spells, solved_is_over, decoded_outs}

-- a chain of r steps over the basis that implements the tables
pub record IsFor (w : Words) (basis r : ℕ) (c : Chain) : Type 0 where
  pub is_chain : IsChain c
  pub size : length c.steps ≡ r
  pub is_over : IsOver (members basis) c
  pub agrees : Agrees c (specification w)

pub for_is_there : (w : Words) (basis r : ℕ) (c : Chain) → IsFor w basis r c → HasChain (specification w) (members basis) r
for_is_there w basis r c is = record { chain = c; is_chain = is.is_chain; size = is.size; is_over = is.is_over; agrees = is.agrees }

-- the steps that are spelled, and the drivers of live outputs
abbrev pub live_chain : Dimensions → List Step → Assignment → Chain
live_chain z steps v = spelled z steps (λ h. first_driver z v h (places z))

spelled_is_whole : (w : Words) (r : ℕ) (steps : List Step) (v : Assignment) → with_outs w (sizes_of (live_words w) r) steps v ≡ whole_chain w (live_chain (sizes_of (live_words w) r) steps v)
spelled_is_whole w r steps v = ap (λ (outs : List Out). record { n = w.n; steps = steps; outs = restored (specification w) outs }) (decoded_outs (sizes_of (live_words w) r) v)

-- A chain of spelled steps implements the tables, in whatever encoding the steps are spelled.
pub spelled_is_for : (w : Words) (basis r : ℕ) (steps : List Step) (v : Assignment) →
    IsSpelled (live_words w) (sizes_of (live_words w) r) v steps
    (λ h. first_driver (sizes_of (live_words w) r) v h (places (sizes_of (live_words w) r)))
    → ((outs : List Out) → IsOver (members basis) (record { n = w.n; steps = steps; outs = outs })) → IsFor w basis r (with_outs w (sizes_of (live_words w) r) steps v)
spelled_is_for w basis r steps v is over =
    let z : Dimensions = sizes_of (live_words w) r in
    let agrees : Agrees (live_chain z steps v) (specification (live_words w)) = spelled_agrees (live_words w) z v steps (λ h. first_driver z v h (places z)) refl refl is in
    subst (IsFor w basis r) (sym (spelled_is_whole w r steps v)) record {
      is_chain = restored_is_chain w (live_chain z steps v) (spelled_is_chain (live_words w) z v steps (λ h. first_driver z v h (places z)) is) refl agrees.outputs;
      size = is.count;
      is_over = over (restored (specification w) (spelled_outs (λ h. first_driver z v h (places z)) z));
      agrees = restored_agrees w (live_chain z steps v) agrees;
    }

-- The chain spelled by an assignment that satisfies the clauses implements the tables, whatever pairs the steps
-- may have.
pub decoded_is_for : (w : Words) (basis r : ℕ) (steps : List StepSlots) (v : Assignment) →
    IsLaid (sizes_of (live_words w) r) steps → holds v (common (live_words w) basis (sizes_of (live_words w) r) steps)
    ≡ true → IsFor w basis r (decoded w (sizes_of (live_words w) r) steps v)
unfolding decoded
decoded_is_for w basis r steps v laid all =
    let z : Dimensions = sizes_of (live_words w) r in
    let solves : Solves (live_words w) basis z steps v = solves_from (live_words w) basis z steps v laid all in
    spelled_is_for w basis r (map (decoded_step z v) steps) v (solved_spells (live_words w) basis z steps v laid solves) (λ outs. solved_is_over (live_words w) basis z steps v outs laid solves)
