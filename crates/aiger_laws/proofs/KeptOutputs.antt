-- Two outputs of a well-formed file with one name are a source.
use Rattle.std.proofs.Common.{◌≡◌, ℕ, zero, suc, ◌+◌, ◌/◌, ◌%◌, ◌<◌, true, false, List, [], ◌∷◌, ◌++◌, length, map, refl, sym, subst, arith}
use Rattle.std.specs.Prelude.{◌==◌, slice_get, Some}
use Rattle.std.proofs.lemmas.Bool.{both_ways, cond_both, and_parts}
use Rattle.std.proofs.lemmas.List.{map-append}
use Rattle.net_theory.specs.Document.{Name, has, is_same, are_distinct, Table, Document, table_output, source_names}
use Rattle.net_theory.specs.NameLaws.{same_name, has_first, has_later, distinct_cons, distinct_right, all_at}
use Rattle.net_theory.specs.WellFormed.{IsWellFormed}
use Rattle.aiger_text.specs.File.{AigFile}
use Rattle.aiger_text.specs.Valid.{IsAig}
use Rattle.aiger_text.specs.Naming.{output_names, variable_names, name_at}
use Rattle.aiger_text.specs.Meaning.{Signals, signals_of, zero_table, one_table, gate_table, unary_table, not_tables, sink_name, is_driver, output_tables, tables_of, document_by}
use Rattle.aiger_laws.specs.Writable.{IsFreeName}
use Rattle.aiger_laws.proofs.KeptNames.{file_sources, outputs_free, outputs_size, free_source}

abbrev pub meant : AigFile → Document
meant f = document_by (signals_of f) (output_names f) f

-- ---- which outputs have tables

-- an output has a table, or the name of the variable that it is
driver_or_table : (s : Signals) (lits : List ℕ) (os : List Name) (j : ℕ) (n : Name) → length lits ≡ length os → slice_get os j ≡ Some n → (P : Type 0) →
    ((k lit : ℕ) → slice_get lits k ≡ Some lit → is_driver s.names lit n ≡ true → P) → (has (map table_output (output_tables s lits os)) n ≡ true → P) → P
unfolding output_tables
driver_or_table s [] [] j n size at P found table = absurd cc
driver_or_table s [] (o ∷ os) j n size at P found table = absurd (omega (arith, size))
driver_or_table s (lit ∷ lits) [] j n size at P found table = absurd cc
driver_or_table s (lit ∷ lits) (o ∷ os) zero n size at P found table =
    let same : o ≡ n = cc in
    let rest = map table_output (output_tables s lits os) in
    cond_both (is_driver s.names lit o) (output_tables s lits os) (unary_table (sink_name s lit) 49 o ∷ output_tables s lits os)
    (λ (ts : List Table). (has (map table_output ts) n ≡ true → P) → P)
    (λ driver other. found 0 lit refl (subst (λ (m : Name). is_driver s.names lit m ≡ true) same driver))
    (λ none other. other (subst (λ (m : Name). has (o ∷ rest) m ≡ true) same (has_first o rest)))
    table
driver_or_table s (lit ∷ lits) (o ∷ os) (suc j) n size at P found table =
    let rest = map table_output (output_tables s lits os) in
    driver_or_table s lits os j n (omega (arith, size)) at P (λ k x at_k driver. found (suc k) x at_k driver)
    (λ there. cond_both (is_driver s.names lit o) (output_tables s lits os) (unary_table (sink_name s lit) 49 o ∷ output_tables s lits os)
    (λ (ts : List Table). (has (map table_output ts) n ≡ true → P) → P)
    (λ driver other. other there)
    (λ none other. other (has_later o rest n there))
    table)

-- of two outputs with one name, one has the name of the variable that it is
outputs_once : (s : Signals) (lits : List ℕ) (os : List Name) (i j : ℕ) (n : Name) → length lits ≡ length os → i < j → slice_get os i ≡ Some n → slice_get os j ≡ Some n →
    are_distinct (map table_output (output_tables s lits os)) ≡ true → (P : Type 0) → ((k lit : ℕ) → slice_get lits k ≡ Some lit → is_driver s.names lit n ≡ true → P) → P
unfolding output_tables
outputs_once s [] [] i j n size low at_i at_j distinct P found = absurd cc
outputs_once s [] (o ∷ os) i j n size low at_i at_j distinct P found = absurd (omega (arith, size))
outputs_once s (lit ∷ lits) [] i j n size low at_i at_j distinct P found = absurd cc
outputs_once s (lit ∷ lits) (o ∷ os) i zero n size low at_i at_j distinct P found = absurd (omega (arith, low))
outputs_once s (lit ∷ lits) (o ∷ os) zero (suc j) n size low at_i at_j distinct P found =
    let same : o ≡ n = cc in
    let rest = map table_output (output_tables s lits os) in
    cond_both (is_driver s.names lit o) (output_tables s lits os) (unary_table (sink_name s lit) 49 o ∷ output_tables s lits os)
    (λ (ts : List Table). are_distinct (map table_output ts) ≡ true → P)
    (λ driver d. found 0 lit refl (subst (λ (m : Name). is_driver s.names lit m ≡ true) same driver))
    (λ none d. driver_or_table s lits os j n (omega (arith, size)) at_j P (λ k x at_k driver. found (suc k) x at_k driver)
    (λ there. absurd (both_ways (has rest n) (subst (λ (m : Name). has rest m ≡ false) same (distinct_cons o rest d).0) there)))
    distinct
outputs_once s (lit ∷ lits) (o ∷ os) (suc i) (suc j) n size low at_i at_j distinct P found =
    let rest = map table_output (output_tables s lits os) in
    let later : are_distinct rest ≡ true → P =
    λ d. outputs_once s lits os i j n (omega (arith, size)) (omega (arith, low)) at_i at_j d P (λ k x at_k driver. found (suc k) x at_k driver) in
    cond_both (is_driver s.names lit o) (output_tables s lits os) (unary_table (sink_name s lit) 49 o ∷ output_tables s lits os)
    (λ (ts : List Table). are_distinct (map table_output ts) ≡ true → P)
    (λ driver d. later d)
    (λ none d. later (distinct_cons o rest d).1)
    distinct

-- ---- the outputs of a file

outputs_distinct : (f : AigFile) → IsWellFormed (meant f) → are_distinct (map table_output (output_tables (signals_of f) f.outputs (output_names f))) ≡ true
unfolding tables_of
outputs_distinct f well =
    let s = signals_of f in
    let outs = output_tables s f.outputs (output_names f) in
    let most = zero_table ∷ one_table ∷ [] ++ map (gate_table s) f.gates ++ not_tables s 1 f.variables in
    let all : are_distinct (map table_output (most ++ outs)) ≡ true = distinct_right (source_names (meant f)) (map table_output (most ++ outs)) well.driven_once in
    distinct_right (map table_output most) (map table_output outs) (subst (λ (ns : List Name). are_distinct ns ≡ true) (map-append table_output most outs) all)

driver_name : (names : List Name) (lit : ℕ) (n : Name) → is_driver names lit n ≡ true → name_at names lit ≡ n
unfolding is_driver
driver_name names lit n driver = same_name (name_at names lit) n (and_parts (lit % 2 == 0) (is_same (name_at names lit) n) driver).1

pub outputs_apart : (f : AigFile) (i j : ℕ) (n : Name) → IsAig f → IsWellFormed (meant f) → i < j → slice_get (output_names f) i ≡ Some n → slice_get (output_names f) j ≡ Some n →
    has (file_sources f) n ≡ true
outputs_apart f i j n is well low at_i at_j =
    let free : IsFreeName n = all_at IsFreeName (output_names f) i n (outputs_free f is) at_i in
    outputs_once (signals_of f) f.outputs (output_names f) i j n (sym (outputs_size f)) low at_i at_j (outputs_distinct f well) (has (file_sources f) n ≡ true)
    (λ k lit at driver. let same : name_at (variable_names f) lit ≡ n = driver_name (variable_names f) lit n driver in
    subst (λ (m : Name). has (file_sources f) m ≡ true) same (free_source f (lit / 2) (subst IsFreeName (sym same) free)))
