-- A depth-first search gives a topological order, unless a node is on a cycle.
use Rattle.std.specs.Prelude.{◌≡◌, ℕ, zero, suc, ◌+◌, ◌≤◌, ◌<◌, true, false, ◌||◌, nat_eq, if◌then◌else◌, List, [], ◌∷◌, ◌++◌, length, Option, Some, None, ◌⊎◌, refl}
use Rattle.std.specs.List.{list_any, range_with_len, AllByRecursion, IsDistinct}
use Rattle.std.proofs.Common.{arith, sym, ◌∙◌, ap, subst, inl, inr, ⊎_elim, eqb, append_assoc, append-nil}
use Rattle.std.proofs.Math.Bool.{or_assoc}
use Rattle.std.proofs.lemmas.Bool.{cond_both, cases_eq, eqb-true, eq-eqb, or_parts, or_cases, or_left, or_right, cases_Bool, both_ways}
use Rattle.std.proofs.lemmas.Map.Steps.{length-le_from_distinct_below}
use Rattle.graph_core.specs.Visit.{Graph, fanins_of, has_ended, each, put_last, visit, order_of}

-- ---- lists of nodes

pub ended_append : (xs ys : List ℕ) (t : ℕ) → has_ended (xs ++ ys) t ≡ (has_ended xs t || has_ended ys t)
ended_append [] ys t = refl
ended_append (x ∷ xs) ys t = ap (λ b. nat_eq t x || b) (ended_append xs ys t) ∙ sym (or_assoc (nat_eq t x) (has_ended xs t) (has_ended ys t))

pub ended_left : (xs ys : List ℕ) (t : ℕ) → has_ended xs t ≡ true → has_ended (xs ++ ys) t ≡ true
ended_left xs ys t e = ended_append xs ys t ∙ or_left (has_ended xs t) (has_ended ys t) e

pub ended_right : (xs ys : List ℕ) (t : ℕ) → has_ended ys t ≡ true → has_ended (xs ++ ys) t ≡ true
ended_right xs ys t e = ended_append xs ys t ∙ or_right (has_ended xs t) (has_ended ys t) e

pub ended_itself : (t : ℕ) (xs : List ℕ) → has_ended (t ∷ xs) t ≡ true
ended_itself t xs = or_left (nat_eq t t) (has_ended xs t) (eq-eqb t t refl)

pub ended_last : (xs : List ℕ) (t : ℕ) → has_ended (xs ++ t ∷ []) t ≡ true
ended_last xs t = ended_right xs (t ∷ []) t (ended_itself t [])

-- an element of a list with one more appended is of the list or is the new one
pub ended_cases : (xs : List ℕ) (t u : ℕ) → has_ended (xs ++ t ∷ []) u ≡ true → (has_ended xs u ≡ true) ⊎ (u ≡ t)
ended_cases xs t u e =
    ⊎_elim (λ l. inl l) (λ r. ⊎_elim (λ here. inr (eqb-true u t here)) (λ none. absurd cc)
    (or_cases (nat_eq u t) false r)) (or_cases (has_ended xs u) (has_ended (t ∷ []) u)
    (sym (ended_append xs (t ∷ []) u) ∙ e))

-- ---- orders

-- node `t` may finish next: it isn't finished, and its fanins are
pub record MayFinishNext (g : Graph) (n : ℕ) (done : List ℕ) (t : ℕ) : Type 0 where
  pub low : t < n
  pub fresh : has_ended done t ≡ false
  pub ready : (u : ℕ) → has_ended (fanins_of g t) u ≡ true → has_ended done u ≡ true

-- each node of the list, in turn, may finish next
abbrev pub IsFinishOrder : Graph → ℕ → List ℕ → List ℕ → Type 0
IsFinishOrder g n done [] = Unit {0}
IsFinishOrder g n done (t ∷ ts) = MayFinishNext g n done t × IsFinishOrder g n (done ++ t ∷ []) ts

run_push : (g : Graph) (n : ℕ) (done order : List ℕ) (t : ℕ) → IsFinishOrder g n done order → MayFinishNext g n (done ++ order) t → IsFinishOrder g n done (order ++ t ∷ [])
run_push g n done [] t run comes = (subst (λ (xs : List ℕ). MayFinishNext g n xs t) (append-nil done) comes, tt)
run_push g n done (u ∷ order) t run comes =
    (run.0, run_push g n (done ++ u ∷ []) order t run.1 (subst (λ (xs : List ℕ). MayFinishNext g n xs t) (sym (append_assoc done (u ∷ []) order)) comes))

-- every fanin is below `n`
abbrev pub IsClosedGraph : Graph → ℕ → Type 0
IsClosedGraph g n = (t u : ℕ) → has_ended (fanins_of g t) u ≡ true → u < n

-- a visit extends the order `old` to `new` by nodes that may finish next
pub record IsVisitOf (g : Graph) (n : ℕ) (old new : List ℕ) : Type 0 where
  pub run : IsFinishOrder g n [] new
  pub keeps : (t : ℕ) → has_ended old t ≡ true → has_ended new t ≡ true

-- the contract of a visit of one node, and of several
abbrev DoesVisit : Graph → ℕ → (List ℕ → ℕ → Option (List ℕ)) → Type 0
DoesVisit g n step = (old new : List ℕ) (t : ℕ) → t < n → IsFinishOrder g n [] old → step old t ≡ Some new → IsVisitOf g n old new × (has_ended new t ≡ true)

abbrev AreVisited : Graph → ℕ → List ℕ → List ℕ → List ℕ → Type 0
AreVisited g n old new ts = IsVisitOf g n old new × ((t : ℕ) → has_ended ts t ≡ true → has_ended new t ≡ true)

each_none : (step : List ℕ → ℕ → Option (List ℕ)) (ts : List ℕ) → each step None ts ≡ None
unfolding each
each_none step [] = refl
each_none step (t ∷ ts) = refl

visited_none : (g : Graph) (n : ℕ) (old new : List ℕ) → old ≡ new → IsFinishOrder g n [] old → IsVisitOf g n old new
visited_none g n old new same run =
    record { run = subst (λ (xs : List ℕ). IsFinishOrder g n [] xs) same run; keeps = λ t h. subst (λ (xs : List ℕ). has_ended xs t ≡ true) same h }

each_by : (g : Graph) (n : ℕ) (step : List ℕ → ℕ → Option (List ℕ)) → DoesVisit g n step →
    (old new ts : List ℕ) (t : ℕ) → t < n → IsFinishOrder g n [] old →
    ((mid : List ℕ) → IsFinishOrder g n [] mid → each step (Some mid) ts ≡ Some new → AreVisited g n mid new ts) →
    (r : Option (List ℕ)) → step old t ≡ r → each step r ts ≡ Some new → AreVisited g n old new (t ∷ ts)
each_by g n step does old new ts t low run next None f h =
    absurd (let none : None ≡ Some new = sym (each_none step ts) ∙ h in cc)
each_by g n step does old new ts t low run next (Some mid) f h =
    let one : IsVisitOf g n old mid × (has_ended mid t ≡ true) = does old mid t low run f in
    let rest : AreVisited g n mid new ts = next mid one.0.run h in (
      record { run = rest.0.run; keeps = λ u i. rest.0.keeps u (one.0.keeps u i) },
      λ u i.
          ⊎_elim (λ here. rest.0.keeps u (subst (λ (x : ℕ). has_ended mid x ≡ true) (sym (eqb-true u t here)) one.1))
          (λ later. rest.1 u later) (or_cases (nat_eq u t) (has_ended ts u) i),
    )

each_does : (g : Graph) (n : ℕ) (step : List ℕ → ℕ → Option (List ℕ)) → DoesVisit g n step → (old new ts : List ℕ) →
    ((t : ℕ) → has_ended ts t ≡ true → t < n) → IsFinishOrder g n [] old → each step (Some old) ts ≡ Some new →
    AreVisited g n old new ts
unfolding each
each_does g n step does old new [] low run e =
    let same : old ≡ new = cc in
    (visited_none g n old new same run, λ t h. absurd cc)
each_does g n step does old new (t ∷ ts) low run e =
    each_by g n step does old new ts t (low t (ended_itself t ts)) run
    (λ mid runs h. each_does g n step does mid new ts (λ u i. low u (or_right (nat_eq u t) (has_ended ts u) i)) runs h)
    (step old t) refl e

abbrev EndsVisit : Graph → ℕ → List ℕ → List ℕ → ℕ → Type 0
EndsVisit g n old new t = IsVisitOf g n old new × (has_ended new t ≡ true)

-- a finished node is skipped
ends_at_once : (g : Graph) (n : ℕ) (old new : List ℕ) (t : ℕ) → IsFinishOrder g n [] old → has_ended old t ≡ true → Some old ≡ Some new → EndsVisit g n old new t
ends_at_once g n old new t run ended e =
    let same : old ≡ new = cc in
    (visited_none g n old new same run, subst (λ (xs : List ℕ). has_ended xs t ≡ true) same ended)

-- a node finishes after its fanins
ends_last : (g : Graph) (n : ℕ) (old mid new : List ℕ) (t : ℕ) → t < n → AreVisited g n old mid (fanins_of g t) → (if has_ended mid t then mid else mid ++ t ∷ []) ≡ new → EndsVisit g n old new t
ends_last g n old mid new t low reads e =
    cond_both (has_ended mid t) mid (mid ++ t ∷ []) (λ (xs : List ℕ). xs ≡ new → EndsVisit g n old new t)
    (λ ended same. (
      record {
        run = subst (λ (xs : List ℕ). IsFinishOrder g n [] xs) same reads.0.run;
        keeps = λ u h. subst (λ (xs : List ℕ). has_ended xs u ≡ true) same (reads.0.keeps u h);
      },
      subst (λ (xs : List ℕ). has_ended xs t ≡ true) same ended,
    ))
    (λ fresh same. (
      record {
        run = subst (λ (xs : List ℕ). IsFinishOrder g n [] xs) same (run_push g n [] mid t reads.0.run (record { low = low; fresh = fresh; ready = reads.1 }));
        keeps = λ u h. subst (λ (xs : List ℕ). has_ended xs u ≡ true) same (ended_left mid (t ∷ []) u (reads.0.keeps u h));
      },
      subst (λ (xs : List ℕ). has_ended xs t ≡ true) same (ended_last mid t),
    ))
    e

put_by : (g : Graph) (n : ℕ) (old new : List ℕ) (t : ℕ) → t < n → (r : Option (List ℕ)) →
    ((mid : List ℕ) → r ≡ Some mid → AreVisited g n old mid (fanins_of g t)) → put_last t r ≡ Some new →
    EndsVisit g n old new t
put_by g n old new t low None reads e = absurd cc
put_by g n old new t low (Some mid) reads e = ends_last g n old mid new t low (reads mid refl) cc

visit_does : (g : Graph) (n depth : ℕ) → IsClosedGraph g n → DoesVisit g n (visit g depth)
unfolding visit
visit_does g n zero closed old new t low run e =
    cond_both (has_ended old t) (Some old) None (λ (r : Option (List ℕ)). r ≡ Some new → EndsVisit g n old new t)
    (λ ended h. ends_at_once g n old new t run ended h)
    (λ fresh h. absurd cc)
    e
visit_does g n (suc depth) closed old new t low run e =
    cond_both (has_ended old t) (Some old) (put_last t (each (visit g depth) (Some old) (fanins_of g t))) (λ (r : Option (List ℕ)). r ≡ Some new → EndsVisit g n old new t)
    (λ ended h. ends_at_once g n old new t run ended h)
    (λ fresh h. put_by g n old new t low (each (visit g depth) (Some old) (fanins_of g t)) (λ mid is.
    each_does g n (visit g depth) (visit_does g n depth closed) old mid (fanins_of g t) (closed t) run is) h)
    e

-- ---- all nodes

range_in : (a n t : ℕ) → a ≤ t → t < a + n → has_ended (range_with_len a n) t ≡ true
range_in a zero t from to = absurd (omega arith)
range_in a (suc n) t from to =
    ⊎_elim
    (λ here. or_left (nat_eq t a) (has_ended (range_with_len (a + 1) n) t) (eq-eqb t a here))
    (λ other. or_right (nat_eq t a) (has_ended (range_with_len (a + 1) n) t) (range_in (a + 1) n t (omega (arith, other)) (omega arith)))
    (cases_eq t a)

range_out : (a n t : ℕ) → has_ended (range_with_len a n) t ≡ true → t < a + n
range_out a zero t e = absurd cc
range_out a (suc n) t e =
    ⊎_elim
    (λ here. omega (arith, eqb-true t a here))
    (λ later. omega (arith, range_out (a + 1) n t later))
    (or_cases (nat_eq t a) (has_ended (range_with_len (a + 1) n) t) e)

-- a topological order: all nodes, each after its fanins
pub record IsTopologicalOrder (g : Graph) (order : List ℕ) : Type 0 where
  pub run : IsFinishOrder g (length g) [] order
  pub whole : (t : ℕ) → t < length g → has_ended order t ≡ true

pub order_is : (g : Graph) (order : List ℕ) → IsClosedGraph g (length g) → order_of g ≡ Some order → IsTopologicalOrder g order
unfolding order_of
order_is g order closed e =
    let all : AreVisited g (length g) [] order (range_with_len 0 (length g)) =
    each_does g (length g) (visit g (length g)) (visit_does g (length g) (length g) closed) [] order
    (range_with_len 0 (length g)) (λ t i. omega (arith, range_out 0 (length g) t i)) tt e in
    record { run = all.0.run; whole = λ t low. all.1 t (range_in 0 (length g) t (omega arith) (omega arith)) }

-- ---- cycles

-- there is a path of one or more edges, from a node to its fanins, from the first node to the second
pub data HasPath (g : Graph) : ℕ → ℕ → Type 0 where
  at_once : (t u : ℕ) → has_ended (fanins_of g t) u ≡ true → HasPath g t u
  by_way_of : (t u v : ℕ) → has_ended (fanins_of g t) u ≡ true → HasPath g u v → HasPath g t v

-- In a topological order a node reaches only earlier nodes.
record Ends (g : Graph) (done : List ℕ) : Type 0 where
  closed : (t u : ℕ) → has_ended done t ≡ true → has_ended (fanins_of g t) u ≡ true → has_ended done u ≡ true
  apart : (t : ℕ) → has_ended done t ≡ true → HasPath g t t → ⊥

reaches_itself : (g : Graph) (done : List ℕ) (t u : ℕ) → Ends g done → has_ended done t ≡ true → HasPath g t u → has_ended done u ≡ true
reaches_itself g done _ _ ends h (at_once t u r) = ends.closed t u h r
reaches_itself g done _ _ ends h (by_way_of t u v r more) = reaches_itself g done u v ends (ends.closed t u h r) more

came : (done : List ℕ) (t : ℕ) → has_ended done t ≡ false → has_ended done t ≡ true → ⊥
came done t f e = both_ways (has_ended done t) f e

not_back : (g : Graph) (n : ℕ) (done : List ℕ) (t u : ℕ) → Ends g done → MayFinishNext g n done t → HasPath g t u → t ≡ u → ⊥
not_back g n done _ _ ends comes (at_once t u r) same =
    came done t comes.fresh (subst (λ (x : ℕ). has_ended done x ≡ true) (sym same) (comes.ready u r))
not_back g n done _ _ ends comes (by_way_of t u v r more) same =
    came done t comes.fresh (subst (λ (x : ℕ). has_ended done x ≡ true) (sym same) (reaches_itself g done u v ends (comes.ready u r) more))

ends_push : (g : Graph) (n : ℕ) (done : List ℕ) (t : ℕ) → Ends g done → MayFinishNext g n done t → Ends g (done ++ t ∷ [])
ends_push g n done t ends comes =
    record {
      closed = λ u v h r. ⊎_elim
          (λ before. ended_left done (t ∷ []) v (ends.closed u v before r))
          (λ here. ended_left done (t ∷ []) v (comes.ready v (subst (λ (x : ℕ). has_ended (fanins_of g x) v ≡ true) here r)))
          (ended_cases done t u h);
      apart = λ u h leads. ⊎_elim
          (λ before. ends.apart u before leads)
          (λ here. not_back g n done t t ends comes (subst (λ (x : ℕ). HasPath g x x) here leads) refl)
          (ended_cases done t u h);
    }

ends_run : (g : Graph) (n : ℕ) (done order : List ℕ) → Ends g done → IsFinishOrder g n done order → Ends g (done ++ order)
ends_run g n done [] ends run = subst (λ (xs : List ℕ). Ends g xs) (sym (append-nil done)) ends
ends_run g n done (t ∷ order) ends run =
    subst (λ (xs : List ℕ). Ends g xs) (append_assoc done (t ∷ []) order) (ends_run g n (done ++ t ∷ []) order (ends_push g n done t ends run.0) run.1)

leads_from : (g : Graph) (t u : ℕ) → HasPath g t u → (v : ℕ) × (has_ended (fanins_of g t) v ≡ true)
leads_from g _ _ (at_once t u r) = (u, r)
leads_from g _ _ (by_way_of t u v r more) = (u, r)

reads_low : (g : Graph) (t u : ℕ) → has_ended (fanins_of g t) u ≡ true → t < length g
reads_low [] t u e = absurd cc
reads_low (r ∷ g) zero u e = omega arith
reads_low (r ∷ g) (suc t) u e = omega (arith, reads_low g t u e)

-- If there is a topological order, no node is on a cycle.
pub order_apart : (g : Graph) (order : List ℕ) (t : ℕ) → IsTopologicalOrder g order → HasPath g t t → ⊥
order_apart g order t is leads =
    let from = leads_from g t t leads in
    let ends : Ends g order = ends_run g (length g) [] order (record { closed = λ u v h r. absurd cc; apart = λ u h l. absurd cc }) is.run in
    ends.apart t (is.whole t (reads_low g t from.0 from.1)) leads

-- ---- paths

-- each node of the path reads the next
abbrev IsPath : Graph → ℕ → List ℕ → Type 0
IsPath g t [] = Unit {0}
IsPath g t (u ∷ us) = (has_ended (fanins_of g t) u ≡ true) × IsPath g u us

each_fails : (step : List ℕ → ℕ → Option (List ℕ)) (old ts : List ℕ) → each step (Some old) ts ≡ None → (u : ℕ) × (done : List ℕ) × (has_ended ts u ≡ true) × (step done u ≡ None)
unfolding each
each_fails step old [] e = absurd cc
each_fails step old (t ∷ ts) e = by_first (step old t) refl e (λ mid h. each_fails step mid ts h) where
  by_first : (r : Option (List ℕ)) → step old t ≡ r → each step r ts ≡ None →
      ((mid : List ℕ) → each step (Some mid) ts ≡ None → (u : ℕ) × (done : List ℕ) × (has_ended ts u ≡ true) ×
      (step done u ≡ None)) → (u : ℕ) × (done : List ℕ) × (has_ended (t ∷ ts) u ≡ true) × (step done u ≡ None)
  by_first None f h next = (t, old, ended_itself t ts, f)
  by_first (Some mid) f h next = let r = next mid h in (r.0, r.1, or_right (nat_eq r.0 t) (has_ended ts r.0) r.2, r.3)

put_fails : (t : ℕ) (r : Option (List ℕ)) → put_last t r ≡ None → r ≡ None
put_fails t None e = refl
put_fails t (Some order) e = absurd cc

-- If a visit fails, there is a path of more nodes than its depth.
visit_fails : (g : Graph) (depth : ℕ) (order : List ℕ) (t : ℕ) → visit g depth order t ≡ None → (us : List ℕ) × (length us ≡ depth) × IsPath g t us
unfolding visit
visit_fails g zero order t e = ([], refl, tt)
visit_fails g (suc depth) order t e =
    cond_both (has_ended order t) (Some order) (put_last t (each (visit g depth) (Some order) (fanins_of g t)))
    (λ (r : Option (List ℕ)). r ≡ None → (us : List ℕ) × (length us ≡ suc depth) × IsPath g t us)
    (λ ended h. absurd cc)
    (λ fresh h.
    let u = each_fails (visit g depth) order (fanins_of g t) (put_fails t (each (visit g depth) (Some order) (fanins_of g t)) h) in
    let rest = visit_fails g depth u.1 u.0 u.3 in
    (u.0 ∷ rest.0, ap suc rest.1, (u.2, rest.2)))
    e

path_leads : (g : Graph) (t u : ℕ) (us : List ℕ) → IsPath g t us → has_ended us u ≡ true → HasPath g t u
path_leads g t u [] path e = absurd cc
path_leads g t u (v ∷ us) path e =
    ⊎_elim
    (λ here. at_once t u (subst (λ (x : ℕ). has_ended (fanins_of g t) x ≡ true) (sym (eqb-true u v here)) path.0))
    (λ later. by_way_of t v u path.0 (path_leads g v u us path.1 later))
    (or_cases (nat_eq u v) (has_ended us u) e)

none_same : (t : ℕ) (us : List ℕ) → has_ended us t ≡ false → AllByRecursion (λ u. eqb t u ≡ false) us
none_same t [] e = tt
none_same t (u ∷ us) e = let parts = or_parts (nat_eq t u) (has_ended us t) e in (parts.0, none_same t us parts.1)

-- the nodes of a path are distinct, or some node is on a cycle
path_apart : (g : Graph) (t : ℕ) (us : List ℕ) → IsPath g t us → IsDistinct eqb (t ∷ us) ⊎ ((u : ℕ) × HasPath g u u)
unfolding IsDistinct
path_apart g t [] path = inl (tt, tt)
path_apart g t (u ∷ us) path =
    ⊎_elim
    (λ back. inr (t, path_leads g t t (u ∷ us) path back))
    (λ none. ⊎_elim (λ rest. inl (none_same t (u ∷ us) none, rest)) (λ found. inr found) (path_apart g u us path.1))
    (cases_Bool (has_ended (u ∷ us) t))

path_low : (g : Graph) (n t : ℕ) (us : List ℕ) → IsClosedGraph g n → t < n → IsPath g t us → (u : ℕ) → list_any (eqb u) (t ∷ us) ≡ true → u < n
path_low g n t [] closed low path u e = ⊎_elim (λ here. omega (arith, eqb-true u t here)) (λ none. absurd cc) (or_cases (eqb u t) false e)
path_low g n t (v ∷ us) closed low path u e =
    ⊎_elim (λ here. omega (arith, eqb-true u t here)) (λ later. path_low g n v us closed (closed t v path.0) path.1 u later) (or_cases (eqb u t) (list_any (eqb u) (v ∷ us)) e)

-- If there is no topological order, some node is on a cycle.
pub no_order : (g : Graph) → IsClosedGraph g (length g) → order_of g ≡ None → (t : ℕ) × HasPath g t t
unfolding order_of
no_order g closed e =
    let u = each_fails (visit g (length g)) [] (range_with_len 0 (length g)) e in
    let path = visit_fails g (length g) u.1 u.0 u.3 in
    let low : u.0 < length g = omega (arith, range_out 0 (length g) u.0 u.2) in
    ⊎_elim
    (λ apart. absurd (let few : length (u.0 ∷ path.0) ≤ length g = length-le_from_distinct_below (u.0 ∷ path.0)
    (length g) apart (path_low g (length g) u.0 path.0 closed low path.2) in omega (arith, few, path.1)))
    (λ found. found)
    (path_apart g u.0 path.0 path.2)
