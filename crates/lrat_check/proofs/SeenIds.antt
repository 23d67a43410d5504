-- Ids in a set.
use Rattle.std.proofs.Common.{◌≡◌, ℕ, Bool, true, false, not, ◌||◌, ◌==◌, cond, nat_eq, List, [], refl, ap, ◌∙◌, arith}
use Rattle.std.specs.HashSet.{contains}
use Rattle.std.specs.List.{list_any}
use Rattle.std.proofs.lemmas.Grind.{common_steps}
use Rattle.std.proofs.lemmas.Bool.Decides.{nat_tests}
use Rattle.lrat_check.specs.Seen.{Numbers, seen_in}
use Rattle.lrat_check.specs.Judging.{no_ids, with_id}

pub seen_in-empty : (s : Numbers) → s.keys ≡ [] → seen_in s ≡ no_ids
unfolding seen_in
seen_in-empty s none = λ i k. ap (λ (ks : List ℕ). list_any (nat_eq k) ks) none i

turned : (a b : ℕ) → (a == b) ≡ (b == a)
turned a b = grind (arith, nat_tests)

or_is : (b c : Bool) → cond b true c ≡ (b || c)
or_is true c = refl
or_is false c = refl

seen_one : (old new : Numbers) (id k : ℕ) → contains nat_eq new k ≡ cond (nat_eq id k) true (contains nat_eq old k) → seen_in new k ≡ with_id (seen_in old) id k
unfolding seen_in
seen_one old new id k is = is ∙ or_is (id == k) (contains nat_eq old k) ∙ ap (λ (b : Bool). b || contains nat_eq old k) (turned id k)

pub seen_in-insert : (old new : Numbers) (id : ℕ) → ((q : ℕ) → contains nat_eq new q ≡ cond (nat_eq id q) true (contains nat_eq old q)) → seen_in new ≡ with_id (seen_in old) id
seen_in-insert old new id each = λ i k. seen_one old new id k (each k) i

-- what inserting answers
pub seen_in-again : (s : Numbers) (id : ℕ) (added : Bool) → added ≡ not (contains nat_eq s id) → not added ≡ seen_in s id
unfolding seen_in
seen_in-again s id added is = ap not is ∙ twice (contains nat_eq s id)
  where
    twice : (b : Bool) → not (not b) ≡ b
    twice true = refl
    twice false = refl

pub ruleset seeing = (common_steps, seen_in-empty)
