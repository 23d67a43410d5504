-- The table that drives a name.
use Rattle.std.proofs.Common.{◌≡◌, ℕ, ◌+◌, List, [], ◌∷◌, ◌++◌, length, drop, map, Option, None, refl, ap, ◌∙◌, sym, append_assoc, length-append}
use Rattle.std.specs.List.{filter_map}
use Rattle.std.proofs.lemmas.Grind.{common_steps}
use Rattle.net_theory.specs.Document.{Name, Table}
use Rattle.net_theory.specs.NetOf.{driver_from, driver_of, graph_of}
use Rattle.net_build.specs.Parts.{graph_by, with_driver}

-- a list without its prefix
drop_prefix : {A : Type 0} (xs ys : List A) → drop (length xs) (xs ++ ys) ≡ ys
drop_prefix [] ys = refl
drop_prefix (x ∷ xs) ys = drop_prefix xs ys

pub record IsCut (tables rest : List Table) (t : Table) (after : List Table) : Type 0 where
  pub here : drop (length rest) tables ≡ t ∷ after
  pub whole : rest ++ drop (length rest) tables ≡ tables

pub cut_last : (tables left rest : List Table) (t : Table) (after : List Table) → left ≡ rest ++ t ∷ [] → left ++ after ≡ tables → IsCut tables rest t after
cut_last tables left rest t after e whole =
    let all : tables ≡ rest ++ (t ∷ after) = sym whole ∙ ap (λ (xs : List Table). xs ++ after) e ∙ append_assoc rest (t ∷ []) after in
    let here : drop (length rest) tables ≡ t ∷ after = ap (λ (xs : List Table). drop (length rest) xs) all ∙ drop_prefix rest (t ∷ after) in
    record { here = here; whole = ap (λ (xs : List Table). rest ++ xs) here ∙ sym all }

driver_more : (number : ℕ) (t : Table) (ts : List Table) → with_driver (driver_from (number + 1) ts) t.output number ≡ driver_from number (t ∷ ts)
unfolding driver_from
driver_more number t ts = refl

pub driver_none : (number : ℕ) → (λ (n : Name). None) ≡ driver_from number []
unfolding driver_from
driver_none number = refl

pub driver_step : (tables left rest : List Table) (t : Table) (v : ℕ) (old new : Name → Option ℕ) → left ≡ rest ++
    t ∷ [] → left ++ drop (length left) tables ≡ tables → old ≡ driver_from (length left) (drop (length left) tables) →
    v ≡ length rest → new ≡ with_driver old t.output v → new ≡ driver_from (length rest) (drop (length rest) tables)
driver_step tables left rest t v old new e whole before number set =
    let cut : IsCut tables rest t (drop (length left) tables) = cut_last tables left rest t (drop (length left) tables) e whole in
    let count : length left ≡ length rest + 1 = ap (length {A = Table}) e ∙ length-append rest (t ∷ []) in
    let there : old ≡ driver_from (length rest + 1) (drop (length left) tables) = before ∙ ap (λ (k : ℕ). driver_from k (drop (length left) tables)) count in
    let one : new ≡ with_driver old t.output (length rest) = set ∙ ap (λ (k : ℕ). with_driver old t.output k) number in
    let two : new ≡ with_driver (driver_from (length rest + 1) (drop (length left) tables)) t.output (length rest) = one ∙ ap (λ (f : Name → Option ℕ). with_driver f t.output (length rest)) there in
    let three : new ≡ driver_from (length rest) (t ∷ drop (length left) tables) = two ∙ driver_more (length rest) t (drop (length left) tables) in
    three ∙ ap (λ (ts : List Table). driver_from (length rest) ts) (sym cut.here)

pub graph_by-drivers : (f : Name → Option ℕ) (ts : List Table) → graph_by f ts ≡ map (λ t. filter_map f t.inputs) ts
unfolding graph_by
graph_by-drivers f [] = refl
graph_by-drivers f (t ∷ ts) = ap (λ (g : List (List ℕ)). filter_map f t.inputs ∷ g) (graph_by-drivers f ts)

pub graph_by-tables : (f : Name → Option ℕ) (ts : List Table) → f ≡ driver_of ts → graph_by f ts ≡ graph_of ts
unfolding graph_of
graph_by-tables f ts e = ap (λ (g : Name → Option ℕ). graph_by g ts) e ∙ graph_by-drivers (driver_of ts) ts

pub ruleset drivers = (common_steps, driver_none)

pub ruleset graphs = (common_steps, graph_by-tables)
