-- Truth of clauses as a bit; a simplified clause has the truth value of its raw clause, and a list
-- comprehension of clauses is true where all its members are.
use Rattle.std.proofs.Common.{◌≡◌, ◌⊎◌, ℕ, zero, suc, ◌+◌, ◌-◌, ◌<◌, ◌≤◌, Bool, true, false, not, ◌&&◌, ◌||◌, List, []}
use Rattle.std.proofs.Common.{◌∷◌, ◌++◌, map, get_or, Option, Some, None, Contains, refl, sym, ap, ◌∙◌, subst, arith}
use Rattle.std.proofs.Common.{inl, inr, ⊎_elim}
use Rattle.std.specs.Prelude.{ℤ, if◌then◌else◌}
use Rattle.std.specs.List.{list_any, list_all, flat_map, filter, range_with_len}
use Rattle.std.specs.Ordering.{int_eq}
use Rattle.std.proofs.lemmas.Grind.{common_steps}
use Rattle.std.proofs.lemmas.Bool.{cases_Bool, or_left, or_right, or_cases, and_from, and_parts}
use Rattle.std.proofs.lemmas.Bool.Decides.{Decides-int_eq}
use Rattle.std.proofs.lemmas.List.Folds.{list_all-append, list_any-append, Any-from_list_any, list_any-from_Any}
use Rattle.std.proofs.lemmas.List.Elements.{Contains-get_or, All-contains, Contains-append_left, Contains-append_right, Contains-append_cases}
use Rattle.std.proofs.lemmas.List.FromFn.{length-range_with_len, get_or-range_with_len}
use Rattle.sat_theory.specs.Formula.{signed, Formula, Assignment, literal_value, IsTrueClause, Satisfies}
use Rattle.clause_core.specs.declared.raw.RawLit.{RawLit}
use Rattle.clause_core.specs.declared.raw.RawLit.TheVariants.{Fixed, Var}
use Rattle.clause_core.specs.Clauses.{has, simplified, listed, written}

-- ---- lists

-- what a list contains
pub contains_head : {X : Type 0} (x : X) (xs : List X) → Contains (x ∷ xs) x
contains_head x xs = Contains-get_or (x ∷ xs) 0 x (omega arith)

pub contains_tail : {X : Type 0} (y x : X) (xs : List X) → Contains xs x → Contains (y ∷ xs) x
contains_tail y x xs (k, low, is) = (suc k, omega arith, is)

pub contains_cases : {X : Type 0} (y x : X) (xs : List X) → Contains (y ∷ xs) x → (y ≡ x) ⊎ Contains xs x
contains_cases y x xs (zero, low, is) = inl is
contains_cases y x xs (suc k, low, is) = inr (k, omega arith, is)

pub contains_map : {X Y : Type 0} (f : X → Y) (xs : List X) (x : X) → Contains xs x → Contains (map f xs) (f x)
contains_map f [] x c = absurd (omega (arith, c.1))
contains_map f (y ∷ ys) x c = ⊎_elim
    (λ (here : y ≡ x). subst (Contains (map f (y ∷ ys))) (ap f here) (contains_head (f y) (map f ys)))
    (λ (later : Contains ys x). contains_tail (f y) (f x) (map f ys) (contains_map f ys x later))
    (contains_cases y x ys c)

-- a test of all elements, and of some
pub all_get : {X : Type 0} (p : X → Bool) (xs : List X) (x : X) → list_all p xs ≡ true → Contains xs x → p x ≡ true
all_get p [] x all c = absurd (omega (arith, c.1))
all_get p (y ∷ ys) x all c =
    let both = and_parts (p y) (list_all p ys) all in
    ⊎_elim (λ (e : y ≡ x). ap p (sym e) ∙ both.0) (λ (more : Contains ys x). all_get p ys x both.1 more) (contains_cases y x ys c)

pub all_make : {X : Type 0} (p : X → Bool) (xs : List X) → ((x : X) → Contains xs x → p x ≡ true) → list_all p xs ≡ true
all_make p [] each = refl
all_make p (y ∷ ys) each = and_from (p y) (list_all p ys) (each y (contains_head y ys)) (all_make p ys (λ x c. each x (contains_tail y x ys c)))

-- an element that passes
pub record Passes {X : Type 0} (p : X → Bool) (xs : List X) : Type 0 where
  pub element : X
  pub inside : Contains xs element
  pub passes : p element ≡ true

pub any_get : {X : Type 0} (p : X → Bool) (xs : List X) → list_any p xs ≡ true → Passes p xs
any_get p [] any = absurd cc
any_get p (y ∷ ys) any = ⊎_elim (λ (e : p y ≡ true). record { element = y; inside = contains_head y ys; passes = e })
    (λ (e : list_any p ys ≡ true). let more = any_get p ys e in record { element = more.element; inside = contains_tail y more.element ys more.inside; passes = more.passes })
    (or_cases (p y) (list_any p ys) any)

pub any_make : {X : Type 0} (p : X → Bool) (xs : List X) (x : X) → Contains xs x → p x ≡ true → list_any p xs ≡ true
any_make p [] x c e = absurd (omega (arith, c.1))
any_make p (y ∷ ys) x c e =
    ⊎_elim (λ (same : y ≡ x). or_left (p y) (list_any p ys) (ap p same ∙ e)) (λ (more : Contains ys x). or_right (p y) (list_any p ys) (any_make p ys x more e)) (contains_cases y x ys c)

pub list_any-map : {X Y : Type 0} (p : Y → Bool) (f : X → Y) (xs : List X) → list_any p (map f xs) ≡ list_any (λ x. p (f x)) xs
list_any-map p f [] = refl
list_any-map p f (x ∷ xs) = ap (λ (b : Bool). p (f x) || b) (list_any-map p f xs)

-- what a filter keeps was in the list
kept_cases : {X : Type 0} (test : Bool) (y x : X) (xs kept : List X) → (Contains kept x → Contains xs x) → Contains (if test then y ∷ kept else kept) x → Contains (y ∷ xs) x
kept_cases true y x xs kept more c = ⊎_elim (λ (e : y ≡ x). subst (Contains (y ∷ xs)) e (contains_head y xs)) (λ (c' : Contains kept x). contains_tail y x xs (more c')) (contains_cases y x kept c)
kept_cases false y x xs kept more c = contains_tail y x xs (more c)

pub filter_get : {X : Type 0} (p : X → Bool) (xs : List X) (x : X) → Contains (filter p xs) x → Contains xs x
filter_get p [] x c = c
filter_get p (y ∷ ys) x c = kept_cases (p y) y x ys (filter p ys) (filter_get p ys x) c

-- a range
pub range_contains : (a n i : ℕ) → a ≤ i → i < a + n → Contains (range_with_len a n) i
range_contains a n i from to =
    (i - a, omega (arith, length-range_with_len a n), (let e : a + (i - a) ≡ i = omega arith in get_or-range_with_len a n (i - a) i (omega arith) ∙ e))

pub range_inside : (a n i : ℕ) → Contains (range_with_len a n) i → (a ≤ i) × (i < a + n)
range_inside a n i (k, low, is) =
    let long = length-range_with_len a n in
    let at = get_or-range_with_len a n k i (omega arith) in
    (omega arith, omega arith)

-- an element of a comprehension
pub record ComesFrom {X Y : Type 0} (f : X → List Y) (xs : List X) (y : Y) : Type 0 where
  pub source : X
  pub inside : Contains xs source
  pub gives : Contains (f source) y

pub flat_map_get : {X Y : Type 0} (f : X → List Y) (xs : List X) (y : Y) → Contains (flat_map f xs) y → ComesFrom f xs y
flat_map_get f [] y c = absurd (omega (arith, c.1))
flat_map_get f (x ∷ xs) y c =
    ⊎_elim (λ (here : Contains (f x) y). record { source = x; inside = contains_head x xs; gives = here })
    (λ (later : Contains (flat_map f xs) y). let more = flat_map_get f xs y later in record { source = more.source; inside = contains_tail x more.source xs more.inside; gives = more.gives })
    (Contains-append_cases (f x) (flat_map f xs) y c)

pub flat_map_make : {X Y : Type 0} (f : X → List Y) (xs : List X) (x : X) (y : Y) → Contains xs x → Contains (f x) y → Contains (flat_map f xs) y
flat_map_make f [] x y c e = absurd (omega (arith, c.1))
flat_map_make f (z ∷ zs) x y c e =
    ⊎_elim (λ (same : z ≡ x). Contains-append_left (f z) (flat_map f zs) y (subst (λ (u : _). Contains (f u) y) (sym same) e))
    (λ (later : Contains zs x). Contains-append_right (f z) (flat_map f zs) y (flat_map_make f zs x y later e))
    (contains_cases z x zs c)

-- ---- clauses

-- a clause is true where one of its literals is
unfoldable pub clause_bit : Assignment → List ℤ → Bool
clause_bit v lits = list_any (literal_value v) lits

-- all clauses are true
unfoldable pub holds : Assignment → List (List ℤ) → Bool
holds v clauses = list_all (clause_bit v) clauses

pub holds-append : (v : Assignment) (xs ys : List (List ℤ)) → holds v (xs ++ ys) ≡ (holds v xs && holds v ys)
unfolding holds
holds-append v xs ys = list_all-append (clause_bit v) xs ys

pub holds_both : (v : Assignment) (xs ys : List (List ℤ)) → holds v (xs ++ ys) ≡ true → (holds v xs ≡ true) × (holds v ys ≡ true)
holds_both v xs ys all = and_parts (holds v xs) (holds v ys) (sym (holds-append v xs ys) ∙ all)

pub both_hold : (v : Assignment) (xs ys : List (List ℤ)) → holds v xs ≡ true → holds v ys ≡ true → holds v (xs ++ ys) ≡ true
both_hold v xs ys one two = holds-append v xs ys ∙ and_from (holds v xs) (holds v ys) one two

-- the clauses written for an element of a comprehension are true where all are
pub holds_each : {X : Type 0} (v : Assignment) (f : X → List (List ℤ)) (xs : List X) (x : X) → holds v (flat_map f xs) ≡ true → Contains xs x → holds v (f x) ≡ true
holds_each v f [] x all c = absurd (omega (arith, c.1))
holds_each v f (y ∷ ys) x all c =
    let both = holds_both v (f y) (flat_map f ys) all in
    ⊎_elim (λ (e : y ≡ x). ap (λ (u : _). holds v (f u)) (sym e) ∙ both.0) (λ (more : Contains ys x). holds_each v f ys x both.1 more) (contains_cases y x ys c)

pub each_holds : {X : Type 0} (v : Assignment) (f : X → List (List ℤ)) (xs : List X) → ((x : X) → Contains xs x → holds v (f x) ≡ true) → holds v (flat_map f xs) ≡ true
unfolding holds
each_holds v f [] each = refl
each_holds v f (y ∷ ys) each = both_hold v (f y) (flat_map f ys) (each y (contains_head y ys)) (each_holds v f ys (λ x c. each x (contains_tail y x ys c)))

-- an assignment satisfies a formula exactly where all clauses are true
pub holds_satisfied : (v : Assignment) (f : Formula) → Satisfies v f → holds v f.clauses ≡ true
unfolding holds clause_bit IsTrueClause
holds_satisfied v f true_ = all_make (clause_bit v) f.clauses (λ lits c. list_any-from_Any (literal_value v) lits (All-contains (IsTrueClause v) f.clauses lits true_ c))

pub satisfied_holds : (v : Assignment) (f : Formula) → holds v f.clauses ≡ true → Satisfies v f
unfolding holds clause_bit IsTrueClause
satisfied_holds v f all = λ k d low. Any-from_list_any (literal_value v) (get_or f.clauses k d) (all_get (clause_bit v) f.clauses (get_or f.clauses k d) all (Contains-get_or f.clauses k d low))

-- ---- listed clauses

-- the value of a literal of a variable with this value
unfoldable pub same : Bool → Bool → Bool
same bit true = bit
same bit false = not bit

unfoldable pub raw_value : Assignment → RawLit → Bool
raw_value v (Fixed bit) = bit
raw_value v (Var x bit) = same (v x) bit

-- one of the raw literals is true
unfoldable pub raws_bit : Assignment → List RawLit → Bool
raws_bit v raws = list_any (raw_value v) raws

-- variables are numbered from 1
abbrev pub IsPositive : RawLit → Type 0
IsPositive (Fixed bit) = Unit {0}
IsPositive (Var x bit) = 1 ≤ x

abbrev pub ArePositive : List RawLit → Type 0
ArePositive [] = Unit {0}
ArePositive (raw ∷ raws) = IsPositive raw × ArePositive raws

signed_value : (v : Assignment) (x : ℕ) (bit : Bool) → 1 ≤ x → literal_value v (signed x bit) ≡ same (v x) bit
unfolding same
signed_value v zero bit some = absurd (omega arith)
signed_value v (suc x) true some = refl
signed_value v (suc x) false some = refl

has_bit : (v : Assignment) (lits : List ℤ) (lit : ℤ) → has lits lit ≡ true → literal_value v lit ≡ true → clause_bit v lits ≡ true
unfolding has clause_bit
has_bit v lits lit there true_ =
    let found = any_get (int_eq lit) lits there in
    let is : lit ≡ found.element = (Decides-int_eq lit found.element).0 found.passes in
    any_make (literal_value v) lits found.element found.inside (ap (literal_value v) (sym is) ∙ true_)

abbrev option_bit : Assignment → Option (List ℤ) → Bool
option_bit v None = true
option_bit v (Some lits) = clause_bit v lits

pushed_bit : (v : Assignment) (lits : List ℤ) (lit : ℤ) → clause_bit v (lits ++ lit ∷ []) ≡ (clause_bit v lits || (literal_value v lit || false))
unfolding clause_bit
pushed_bit v lits lit = list_any-append (literal_value v) lits (lit ∷ [])

-- the effect of one more literal: none if the clause already has it, and truth if it has the opposite
opposite_there : (c x bit rest : Bool) → (same x (not bit) ≡ true → c ≡ true) → true ≡ (c || (same x bit || rest))
unfolding same
opposite_there true x bit rest e = refl
opposite_there false true true rest e = refl
opposite_there false true false rest e = absurd (let bad = e refl in cc)
opposite_there false false true rest e = absurd (let bad = e refl in cc)
opposite_there false false false rest e = refl

there_already : (c x rest : Bool) → (x ≡ true → c ≡ true) → (c || rest) ≡ (c || (x || rest))
there_already true x rest e = refl
there_already false true rest e = absurd (let bad = e refl in cc)
there_already false false rest e = refl

put_after : (c x rest : Bool) → ((c || (x || false)) || rest) ≡ (c || (x || rest))
put_after true x rest = refl
put_after false true rest = refl
put_after false false rest = refl

true_there : (c rest : Bool) → true ≡ (c || (true || rest))
true_there true rest = refl
true_there false rest = refl

-- A simplified clause is true exactly where the raw clause is; a tautology counts as true.
simplified_bit : (v : Assignment) (raws : List RawLit) (lits : List ℤ) → ArePositive raws → option_bit v (simplified lits raws) ≡ (clause_bit v lits || raws_bit v raws)
unfolding simplified raws_bit raw_value
simplified_bit v [] lits positive = grind (arith, common_steps)
simplified_bit v (Fixed true ∷ raws) lits positive = true_there (clause_bit v lits) (raws_bit v raws)
simplified_bit v (Fixed false ∷ raws) lits positive = simplified_bit v raws lits positive.1
simplified_bit v (Var x bit ∷ raws) lits positive =
    ⊎_elim (λ (e : has lits (signed x (not bit)) ≡ true).
    rw e (opposite_there (clause_bit v lits) (v x) bit (raws_bit v raws)
    (λ t. has_bit v lits (signed x (not bit)) e (signed_value v x (not bit) positive.0 ∙ t))))
    (λ (e : has lits (signed x (not bit)) ≡ false). rw e (⊎_elim
    (λ (e : has lits (signed x bit) ≡ true). rw e (simplified_bit v raws lits positive.1
    ∙ there_already (clause_bit v lits) (same (v x) bit) (raws_bit v raws)
    (λ t. has_bit v lits (signed x bit) e (signed_value v x bit positive.0 ∙ t))))
    (λ (e : has lits (signed x bit) ≡ false). rw e (simplified_bit v raws (lits ++ signed x bit ∷ []) positive.1
    ∙ ap (λ (c : Bool). c || raws_bit v raws) (pushed_bit v lits (signed x bit) ∙ ap (λ (c : Bool). clause_bit v lits || (c || false)) (signed_value v x bit positive.0))
    ∙ put_after (clause_bit v lits) (same (v x) bit) (raws_bit v raws)))
    (cases_Bool (has lits (signed x bit)))))
    (cases_Bool (has lits (signed x (not bit))))

listed_bit : (v : Assignment) (o : Option (List ℤ)) → holds v (listed o) ≡ option_bit v o
unfolding holds
listed_bit v None = refl
listed_bit v (Some lits) = grind (arith, common_steps)

nothing_more : (v : Assignment) (rest : Bool) → (clause_bit v [] || rest) ≡ rest
unfolding clause_bit
nothing_more v rest = refl

-- The clauses that a raw clause adds are true exactly where it is.
pub holds-written : (v : Assignment) (raws : List RawLit) → ArePositive raws → holds v (written raws) ≡ raws_bit v raws
unfolding written
holds-written v raws positive = listed_bit v (simplified [] raws) ∙ simplified_bit v raws [] positive ∙ nothing_more v (raws_bit v raws)

-- a clause of two parts
pub raws_bit-append : (v : Assignment) (xs ys : List RawLit) → raws_bit v (xs ++ ys) ≡ (raws_bit v xs || raws_bit v ys)
unfolding raws_bit
raws_bit-append v xs ys = list_any-append (raw_value v) xs ys

pub raws_make : (v : Assignment) (raws : List RawLit) (raw : RawLit) → Contains raws raw → raw_value v raw ≡ true → raws_bit v raws ≡ true
unfolding raws_bit
raws_make v raws raw c true_ = any_make (raw_value v) raws raw c true_

pub positive-append : (xs ys : List RawLit) → ArePositive xs → ArePositive ys → ArePositive (xs ++ ys)
positive-append [] ys one two = two
positive-append (x ∷ xs) ys one two = (one.0, positive-append xs ys one.1 two)

pub positive-flat_map : {X : Type 0} (f : X → List RawLit) (xs : List X) → ((x : X) → Contains xs x → ArePositive (f x)) → ArePositive (flat_map f xs)
positive-flat_map f [] each = tt
positive-flat_map f (x ∷ xs) each = positive-append (f x) (flat_map f xs) (each x (contains_head x xs)) (positive-flat_map f xs (λ y c. each y (contains_tail x y xs c)))

-- a clause over a list
pub raws_bit-map : {X : Type 0} (v : Assignment) (f : X → RawLit) (xs : List X) → raws_bit v (map f xs) ≡ list_any (λ x. raw_value v (f x)) xs
unfolding raws_bit
raws_bit-map v f xs = list_any-map (raw_value v) f xs

pub positive-map : {X : Type 0} (f : X → RawLit) (xs : List X) → ((x : X) → Contains xs x → IsPositive (f x)) → ArePositive (map f xs)
positive-map f [] each = tt
positive-map f (x ∷ xs) each = (each x (contains_head x xs), positive-map f xs (λ y c. each y (contains_tail x y xs c)))
