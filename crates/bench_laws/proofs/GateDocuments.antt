-- Replacing the tables of a document by gates keeps its behaviour.
use Rattle.std.proofs.Common.{◌≡◌, true, map, subst, ⊎_elim}
use Rattle.std.specs.Prelude.{All}
use Rattle.net_theory.specs.Document.{Name, IsName, has, Table, Document, latch_of, latch_output, latches_of, source_names}
use Rattle.net_theory.specs.NameLaws.{has_either, has_map_index, all_has, all_at, at_all, at_map}
use Rattle.net_theory.specs.WellFormed.{IsLatchLine, IsTable, IsWellFormed}
use Rattle.net_theory.specs.Cost.{cost}
use Rattle.net_theory.specs.Circuit.{Circuit, Describes}
use Rattle.bench_core.specs.Gates.{line_of, line_table, as_gates}
use Rattle.bench_laws.specs.Spelled.{CanSpell}
use Rattle.bench_laws.proofs.AsGates.{DoesLike, DoLike, cost_same, well_like, describes_like}
use Rattle.bench_laws.proofs.LikeTables.{like_is}

source_named : (d : Document) (n : Name) → IsWellFormed d → has (source_names d) n ≡ true → IsName n
source_named d n well there =
    ⊎_elim
    (λ input. all_has IsName d.inputs n well.inputs input)
    (λ latch.
    let a = has_map_index latch_output (latches_of d) n latch in
    let b = at_map latch_of d.latches a.0 a.1 a.2 in
    let is : IsLatchLine b.0 = all_at IsLatchLine d.latches a.0 b.0 well.latches b.1 in
    subst IsName a.3 (subst (λ l. IsName (latch_output l)) b.2 is.latch.output))
    (has_either d.inputs (map latch_output (latches_of d)) n there)

do_like : (source : Name) (d : Document) → IsWellFormed d → All CanSpell d.tables → has (source_names d) source ≡ true → DoLike source (λ t. line_table (line_of source t)) d
do_like source d well can is =
    at_all (λ (t : Table). DoesLike source t (line_table (line_of source t))) d.tables
    (λ k t e. like_is source t (source_named d source well is) (all_at IsTable d.tables k t well.tables e) (all_at CanSpell d.tables k t can e))

pub gates_well : (source : Name) (d : Document) → IsWellFormed d → All CanSpell d.tables → has (source_names d) source ≡ true → IsWellFormed (as_gates source d)
gates_well source d well can is = well_like source (λ t. line_table (line_of source t)) d (do_like source d well can is) is well

pub gates_describe : (source : Name) (d : Document) (c : Circuit) → IsWellFormed d → All CanSpell d.tables → has (source_names d) source ≡ true → Describes d c → Describes (as_gates source d) c
gates_describe source d c well can is describes = describes_like source (λ t. line_table (line_of source t)) d c (do_like source d well can is) describes

pub gates_cost : (source : Name) (d : Document) → IsWellFormed d → All CanSpell d.tables → has (source_names d) source ≡ true → cost (as_gates source d) ≡ cost d
gates_cost source d well can is = cost_same source (λ t. line_table (line_of source t)) d (do_like source d well can is)
