-- Tables in topological order, each of which reads only names driven before it: they have exactly one valuation,
-- and none depends on itself.
use Rattle.std.specs.Prelude.{◌≡◌, ℕ, zero, suc, ◌<◌, Bool, true, false, if◌then◌else◌, List, [], ◌∷◌, ◌++◌, map, slice_get, All, Some, refl}
use Rattle.std.specs.List.{flat_map}
use Rattle.std.proofs.Common.{arith, sym, ◌∙◌, ap, subst, ⊎_elim, append_assoc, append-nil}
use Rattle.std.proofs.lemmas.Bool.{both_ways, cond-true, cond-false, false_from_ne_true}
use Rattle.std.proofs.lemmas.List.Elements.{All-nil, All-cons, All-head, All-tail}
use Rattle.net_theory.specs.Cover.{cover_value}
use Rattle.net_theory.specs.Document.{Name, has, are_distinct, is_same, Table, Document, table_output, table_inputs, source_names, driven_names}
use Rattle.net_theory.specs.NameLaws.{has_none, has_first, has_cases, has_left, has_right, has_either, has_map_at}
use Rattle.net_theory.specs.NameLaws.{has_all, all_has, same_name, same_itself, cons_distinct, distinct_apart}
use Rattle.net_theory.specs.NameLaws.{append_distinct}
use Rattle.net_theory.specs.NetLaws.{map_same}
use Rattle.net_theory.specs.Behaviour.{HoldsIn, HasOneValuation}
use Rattle.net_theory.specs.Dependence.{ReadsTable, DependsOn, at_once, by_way_of, IsAcyclic}

-- the table reads only names of `before` and drives a new name
pub record IsLayer (before : List Name) (t : Table) : Type 0 where
  pub fresh : has before t.output ≡ false
  pub inputs : (n : Name) → has t.inputs n ≡ true → has before n ≡ true

abbrev pub AreLayered : List Name → List Table → Type 0
AreLayered before [] = Unit {0}
AreLayered before (t ∷ ts) = IsLayer before t × AreLayered (before ++ t.output ∷ []) ts

pub layered_append : (before : List Name) (xs ys : List Table) → AreLayered before xs → AreLayered (before ++ map table_output xs) ys → AreLayered before (xs ++ ys)
layered_append before [] ys a b = subst (λ (ns : List Name). AreLayered ns ys) (append-nil before) b
layered_append before (x ∷ xs) ys a b =
    (a.0, layered_append (before ++ x.output ∷ []) xs ys a.1 (subst (λ (ns : List Name). AreLayered ns ys) (sym (append_assoc before (x.output ∷ []) (map table_output xs))) b))

no_names : are_distinct [] ≡ true
unfolding are_distinct
no_names = refl

no_name : (n : Name) → has [] n ≡ false
unfolding has
no_name n = refl

-- appending a new name keeps the names distinct
pub distinct_push : (before : List Name) (n : Name) → are_distinct before ≡ true → has before n ≡ false → are_distinct (before ++ n ∷ []) ≡ true
distinct_push before n d apart =
    append_distinct before (n ∷ []) d (cons_distinct n [] (no_name n) no_names)
    (λ m h. false_from_ne_true (has (n ∷ []) m) (λ there.
    ⊎_elim (λ same. both_ways (has before n) apart (subst (λ (x : Name). has before x ≡ true) same h)) (λ none.
    has_none m none) (has_cases n [] m there)))

pub layered_distinct : (before : List Name) (ts : List Table) → are_distinct before ≡ true → AreLayered before ts → are_distinct (before ++ map table_output ts) ≡ true
layered_distinct before [] d a = subst (λ (ns : List Name). are_distinct ns ≡ true) (sym (append-nil before)) d
layered_distinct before (t ∷ ts) d a =
    subst (λ (ns : List Name). are_distinct ns ≡ true) (append_assoc before (t.output ∷ []) (map table_output ts))
    (layered_distinct (before ++ t.output ∷ []) ts (distinct_push before t.output d a.0.fresh) a.1)

-- every name that the tables read is driven
pub layered_inputs : (before : List Name) (ts : List Table) (n : Name) → AreLayered before ts → has (flat_map table_inputs ts) n ≡ true → has (before ++ map table_output ts) n ≡ true
layered_inputs before [] n a e = absurd (has_none n e)
layered_inputs before (t ∷ ts) n a e =
    ⊎_elim
    (λ here. has_left before (t.output ∷ map table_output ts) n (a.0.inputs n here))
    (λ later. subst (λ (ns : List Name). has ns n ≡ true) (append_assoc before (t.output ∷ []) (map table_output ts)) (layered_inputs (before ++ t.output ∷ []) ts n a.1 later))
    (has_either t.inputs (flat_map table_inputs ts) n e)

-- ---- no table depends on itself

reads_earlier : (before : List Name) (ts : List Table) (i j : ℕ) (t u : Table) →
    are_distinct (before ++ map table_output ts) ≡ true → AreLayered before ts → slice_get ts i ≡ Some t →
    slice_get ts j ≡ Some u → has t.inputs u.output ≡ true → j < i
reads_earlier before [] i j t u d a at_i at_j read = absurd cc
reads_earlier before (x ∷ xs) zero j t u d a at_i at_j read =
    let same : x ≡ t = cc in
    let had = a.0.inputs u.output (subst (λ (y : Table). has y.inputs u.output ≡ true) (sym same) read) in
    absurd (both_ways (has (map table_output (x ∷ xs)) u.output) (distinct_apart before (map table_output (x ∷ xs)) u.output d had) (has_map_at table_output (x ∷ xs) j u at_j))
reads_earlier before (x ∷ xs) (suc i) zero t u d a at_i at_j read = omega arith
reads_earlier before (x ∷ xs) (suc i) (suc j) t u d a at_i at_j read =
    let rest = reads_earlier (before ++ x.output ∷ []) xs i j t u (subst (λ (ns : List Name). are_distinct ns ≡ true)
    (sym (append_assoc before (x.output ∷ []) (map table_output xs))) d) a.1 at_i at_j read in
    omega (arith, rest)

depends_earlier : (d : Document) → ((i j : ℕ) → ReadsTable d i j → j < i) → (i j : ℕ) → DependsOn d i j → j < i
depends_earlier d earlier _ _ (at_once i j r) = earlier i j r
depends_earlier d earlier _ _ (by_way_of i j k r more) =
    let first = earlier i j r in
    let rest = depends_earlier d earlier j k more in
    omega (arith, first, rest)

pub layered_acyclic : (d : Document) → are_distinct (source_names d) ≡ true → AreLayered (source_names d) d.tables → IsAcyclic d
layered_acyclic d distinct a i depends =
    let low = depends_earlier d (λ x y r. reads_earlier (source_names d) d.tables x y r.reader r.driver
    (layered_distinct (source_names d) d.tables distinct a) a r.is_reader r.is_driver r.read) i i depends in
    omega (arith, low)

-- ---- there is exactly one valuation

abbrev with_bit : (Name → Bool) → Name → Bool → Name → Bool
with_bit v name bit n = if is_same name n then bit else v n

unfoldable values_by : (Name → Bool) → List Table → Name → Bool
values_by v [] = v
values_by v (t ∷ ts) = values_by (with_bit v t.output (cover_value t.cover (map v t.inputs))) ts

with_other : (v : Name → Bool) (name : Name) (bit : Bool) (n : Name) (before : List Name) → has before name ≡ false → has before n ≡ true → with_bit v name bit n ≡ v n
with_other v name bit n before fresh had =
    cond-false (is_same name n) _ _ (false_from_ne_true (is_same name n) (λ same. both_ways (has before name) fresh (subst (λ (x : Name). has before x ≡ true) (sym (same_name name n same)) had)))

values_keep : (before : List Name) (ts : List Table) (v : Name → Bool) (n : Name) → AreLayered before ts → has before n ≡ true → values_by v ts n ≡ v n
unfolding values_by
values_keep before [] v n a had = refl
values_keep before (t ∷ ts) v n a had =
    let w : Name → Bool = with_bit v t.output (cover_value t.cover (map v t.inputs)) in
    values_keep (before ++ t.output ∷ []) ts w n a.1 (has_left before (t.output ∷ []) n had)
    ∙ with_other v t.output (cover_value t.cover (map v t.inputs)) n before a.0.fresh had

values_hold : (before : List Name) (ts : List Table) (v : Name → Bool) → AreLayered before ts → All (HoldsIn (values_by v ts)) ts
unfolding values_by
values_hold before [] v a = All-nil (HoldsIn v)
values_hold before (t ∷ ts) v a =
    let bit : Bool = cover_value t.cover (map v t.inputs) in
    let w : Name → Bool = with_bit v t.output bit in
    All-cons (HoldsIn (values_by w ts)) t ts
    (values_keep (before ++ t.output ∷ []) ts w t.output a.1 (has_right before (t.output ∷ []) t.output (has_first t.output []))
    ∙ cond-true (is_same t.output t.output) _ _ (same_itself t.output)
    ∙ ap (cover_value t.cover) (map_same v (values_by w ts) t.inputs (λ n read. sym (values_keep before (t ∷ ts) v n a (a.0.inputs n read)))))
    (values_hold (before ++ t.output ∷ []) ts w a.1)

one_map : (before : List Name) (ts : List Table) (v w : Name → Bool) → AreLayered before ts → All (HoldsIn v) ts →
    All (HoldsIn w) ts → ((n : Name) → has before n ≡ true → v n ≡ w n) → (n : Name) →
    has (before ++ map table_output ts) n ≡ true → v n ≡ w n
one_map before [] v w a hv hw same n had = same n (subst (λ (ns : List Name). has ns n ≡ true) (append-nil before) had)
one_map before (t ∷ ts) v w a hv hw same n had =
    let head : v t.output ≡ w t.output =
    All-head (HoldsIn v) t ts hv
    ∙ ap (cover_value t.cover) (map_same v w t.inputs (λ m read. same m (a.0.inputs m read)))
    ∙ sym (All-head (HoldsIn w) t ts hw) in
    let more : (m : Name) → has (before ++ t.output ∷ []) m ≡ true → v m ≡ w m = λ m there.
    ⊎_elim
    (λ old. same m old)
    (λ new. ⊎_elim (λ here. ap v here ∙ head ∙ ap w (sym here)) (λ none. absurd (has_none m none)) (has_cases t.output [] m new))
    (has_either before (t.output ∷ []) m there) in
    one_map (before ++ t.output ∷ []) ts v w a.1 (All-tail (HoldsIn v) t ts hv) (All-tail (HoldsIn w) t ts hw) more n
    (subst (λ (ns : List Name). has ns n ≡ true) (sym (append_assoc before (t.output ∷ []) (map table_output ts))) had)

pub layered_map : (d : Document) (given : Name → Bool) → AreLayered (source_names d) d.tables → HasOneValuation d given
layered_map d given a = record {
  some = (
    values_by given d.tables,
    record {
      sources = has_all (λ n. values_by given d.tables n ≡ given n) (source_names d) (λ n had. values_keep (source_names d) d.tables given n a had);
      tables = values_hold (source_names d) d.tables given a;
    },
  );
  one = λ v w maps_v maps_w. has_all (λ n. v n ≡ w n) (driven_names d) (λ n had.
      one_map (source_names d) d.tables v w a maps_v.tables maps_w.tables
      (λ m source. all_has (λ x. v x ≡ given x) (source_names d) m maps_v.sources source ∙ sym (all_has (λ x. w x ≡ given x) (source_names d) m maps_w.sources source))
      n had);
}
