-- The first source of a circuit.
use Rattle.std.proofs.Common.{◌≡◌, List, [], ◌∷◌, ◌++◌, map, refl, ap}
use Rattle.std.specs.Prelude.{slice_index_or}
use Rattle.std.proofs.lemmas.Grind.{common_steps}
use Rattle.net_theory.specs.Document.{Name, Latch, latch_output}

pub first-input : (inputs : List Name) (latches : List Latch) (n : Name) (ns : List Name) → inputs ≡ n ∷ ns → slice_index_or (inputs ++ map latch_output latches) 0 [] ≡ n
first-input [] latches n ns e = absurd cc
first-input (m ∷ ms) latches n ns e = cc

pub first-latch : (inputs : List Name) (latches : List Latch) (l : Latch) (ls : List Latch) → inputs ≡ [] → latches ≡ l ∷ ls → slice_index_or (inputs ++ map latch_output latches) 0 [] ≡ l.output
first-latch [] [] l ls e f = absurd cc
first-latch [] (k ∷ ks) l ls e f = let same : k ≡ l = cc in ap latch_output same
first-latch (m ∷ ms) latches l ls e f = absurd cc

pub first-none : (inputs : List Name) (latches : List Latch) → inputs ≡ [] → latches ≡ [] → slice_index_or (inputs ++ map latch_output latches) 0 [] ≡ []
first-none [] [] e f = refl
first-none [] (k ∷ ks) e f = absurd cc
first-none (m ∷ ms) latches e f = absurd cc

pub ruleset firsts = (common_steps, first-input, first-latch, first-none)
