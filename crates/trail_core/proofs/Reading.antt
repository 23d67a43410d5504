-- The entries of a trail's tables, and the assignments read from them.
use Rattle.std.proofs.Common.{◌≡◌, ℕ, zero, suc, ◌+◌, ◌-◌, ◌<◌, ◌≤◌, ◌==◌, ℤ, pos, negsuc, Bool, true, false, nat_lt}
use Rattle.std.proofs.Common.{List, [], ◌∷◌, ◌++◌, length, slice_set, slice_index_or, subst, sym, ap, ◌∙◌, arith, refl}
use Rattle.std.proofs.lemmas.Bool.{ne_eqb, lt-ltb, le-ltb}
use Rattle.std.proofs.lemmas.Grind.{common_steps}
use Rattle.sat_theory.specs.Formula.{variable, opposite, bits_of, literal_value}
use Rattle.cdcl_theory.specs.Codes.{code_of}
use Rattle.cdcl_theory.specs.CodeLaws.{code_of-room}
use Rattle.cdcl_theory.specs.Trails.{TrailState, falsified_at, IsTrail, IsBacktracked}
use Rattle.cdcl_theory.specs.TrailLaws.{trail_push, trail_pop, back_pop, trail_none}
use Rattle.trail_core.specs.Values.{IsFree, Follows}

-- the tables as the code writes them are those of `pushed`
pub trail_pushed : (t now : TrailState) (l : ℤ) (lits : List ℤ) (reason code place v : ℕ) → t ≡ now → IsTrail t →
    lits ≡ t.lits ++ l ∷ [] → code ≡ code_of (opposite l) → place ≡ length lits → v ≡ variable l → 0 < v →
    variable l ≤ now.vars → IsFree now l → IsTrail (record {
      vars = t.vars;
      lits = lits;
      table = slice_set t.table code place;
      reasons = slice_set t.reasons v reason;
    })
trail_pushed t now l lits reason code place v view trail is at long var some small free =
    let same : place ≡ length t.lits + 1 = long ∙ grind (arith, common_steps) in
    let here : IsFree t l = subst (λ (x : TrailState). IsFree x l) (sym view) free in
    let low : variable l ≤ t.vars = subst (λ (x : TrailState). variable l ≤ x.vars) (sym view) small in
    rw (is, at, same, var) (trail_push t l reason trail (omega arith) low here.0 here.1)

pub trail_popped : (t : TrailState) (l : ℤ) (lits : List ℤ) (code : ℕ) → IsTrail t → t.lits ≡ lits ++ l ∷ [] →
    code ≡ code_of (opposite l) → IsTrail (record {
      vars = t.vars;
      lits = lits;
      table = slice_set t.table code 0;
      reasons = t.reasons;
    })
trail_popped t l lits code trail is at = rw at (trail_pop t lits l trail is)

pub back_popped : (t now : TrailState) (l : ℤ) (lits : List ℤ) (code : ℕ) → t ≡ now → IsTrail t → t.lits ≡ lits ++
    l ∷ [] → code ≡ code_of (opposite l) → IsBacktracked (length now.lits - 1) now (record {
      vars = t.vars;
      lits = lits;
      table = slice_set t.table code 0;
      reasons = t.reasons;
    })
back_popped t now l lits code view trail is at =
    let long : length t.lits ≡ length lits + 1 = ap length is ∙ grind (arith, common_steps) in
    let same : length t.lits - 1 ≡ length lits = omega arith in
    rw (at, ← view, same) (back_pop t lits l trail is)

-- bits that are true exactly where the negative literal is false follow the trail
pub follows : (t : TrailState) (bits : List Bool) → IsTrail t → length bits ≡ t.vars →
    ((k : ℕ) (d : Bool) → k < t.vars → slice_index_or bits k d ≡ nat_lt 0 (falsified_at t (negsuc k))) → Follows t bits
follows t bits trail long reported = record { long = long; values = λ l over falsified. value l over.0 over.1 falsified; others = λ v some low free. other v some low free }
  where
    bit : (n : ℕ) → suc n ≤ t.vars → bits_of bits (suc n) ≡ nat_lt 0 (falsified_at t (negsuc n))
    bit n low =
        let some : (suc n == 0) ≡ false = ne_eqb (suc n) 0 (λ e. omega arith) in
        let index : suc n - 1 ≡ n = omega arith in
        rw (some, index) (reported n false (omega arith))

    value : (l : ℤ) → 0 < variable l → variable l ≤ t.vars → 0 < falsified_at t (opposite l) → literal_value (bits_of bits) l ≡ true
    value (pos zero) some low falsified = absurd (let h : 0 < 0 = some in omega arith)
    value (pos (suc n)) some low falsified = bit n low ∙ lt-ltb 0 (falsified_at t (negsuc n)) falsified
    value (negsuc n) some low falsified =
        let none : falsified_at t (negsuc n) ≡ 0 = trail.positions.one_side (pos (suc n)) falsified in
        let off : bits_of bits (suc n) ≡ false = bit n low ∙ le-ltb 0 (falsified_at t (negsuc n)) (omega arith) in
        rw off refl

    other : (v : ℕ) → 0 < v → v ≤ t.vars → IsFree t (pos v) → bits_of bits v ≡ false
    other zero some low free = absurd (let h : 0 < 0 = some in omega arith)
    other (suc n) some low free =
        let none : falsified_at t (negsuc n) ≡ 0 = free.1 in
        bit n low ∙ le-ltb 0 (falsified_at t (negsuc n)) (omega arith)

pub ruleset reading = (common_steps, code_of-room, trail_none, follows)
