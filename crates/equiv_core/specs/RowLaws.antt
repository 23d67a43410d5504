-- Clauses that are added one after the other, with their variables in range.
use Rattle.std.proofs.Common.{◌≡◌, ℕ, ◌+◌, ◌≤◌, ◌<◌, suc, Bool, true, false, not, List, [], ◌∷◌, ◌++◌, All, length, slice_get, refl, sym, ap, subst, add-zero, ◌∙◌, arith, append_assoc, append-nil}
use Rattle.std.specs.List.{flat_map}
use Rattle.std.proofs.lemmas.Grind.{flat_map-append}
use Rattle.std.proofs.lemmas.List.Elements.{All-nil, All-cons}
use Rattle.sat_theory.specs.Formula.{Formula}
use Rattle.clause_core.specs.declared.raw.RawLit.{RawLit}
use Rattle.clause_core.specs.declared.raw.RawLit.TheVariants.{Fixed, Var}
use Rattle.clause_core.specs.Clauses.{Appends, written, IsWithin}
use Rattle.clause_core.specs.WrittenLaws.{IsOf, AreOf}
use Rattle.net_theory.specs.declared.data.Sig.{Sig}
use Rattle.net_theory.specs.declared.data.Gate.{Gate}
use Rattle.net_theory.specs.Net.{IsGateAt, IsSigBelow}
use Rattle.net_core.specs.Marks.{AreAt}
use Rattle.chain_theory.specs.Operator.{apply}
use Rattle.equiv_theory.specs.Miter.{signal_is, gate_row, gate_rows, gates_rows, sink_row, sink_rows, sinks_rows}
use Rattle.equiv_theory.specs.FormulaLaws.{VariablesWithin, variables_within, gate_row_of, sink_row_of}
use Rattle.equiv_core.specs.declared.numbering.NetNumbering.{NetNumbering}
use Rattle.equiv_core.specs.Rows.{numbered, HasRoom, IsAdded}

-- ---- added clauses

pub added_none : (f : Formula) → IsAdded f f []
added_none f = record { vars = refl; clauses = sym (append-nil f.clauses) }

pub added_one : (f g : Formula) (row : List RawLit) → Appends f g (written row) → IsAdded f g (row ∷ [])
added_one f g row is = record { vars = ap (λ (x : Formula). x.vars) is; clauses = ap (λ (x : Formula). x.clauses) is ∙ ap (λ (xs : List (List _)). f.clauses ++ xs) (sym (append-nil (written row))) }

pub added_both : (f g h : Formula) (xs ys : List (List RawLit)) → IsAdded f g xs → IsAdded g h ys → IsAdded f h (xs ++ ys)
added_both f g h xs ys one two = record {
  vars = two.vars ∙ one.vars;
  clauses = two.clauses ∙ ap (λ (cs : List (List _)). cs ++ flat_map written ys) one.clauses
      ∙ append_assoc f.clauses (flat_map written xs) (flat_map written ys)
      ∙ ap (λ (cs : List (List _)). f.clauses ++ cs) (sym (flat_map-append written xs ys));
}

-- ---- variables within

raw_within : (vars : ℕ) (raw : RawLit) → IsOf vars raw → IsWithin vars raw
unfolding IsWithin
raw_within vars (Fixed bit) is = tt
raw_within vars (Var x bit) is = is

pub row_within : (vars : ℕ) (row : List RawLit) → AreOf vars row → All (IsWithin vars) row
row_within vars [] are = All-nil (IsWithin vars)
row_within vars (raw ∷ row) are = All-cons (IsWithin vars) raw row (raw_within vars raw are.0) (row_within vars row are.1)

pub numbered_within : (n : NetNumbering) (vars : ℕ) → HasRoom n vars → VariablesWithin vars (numbered n) n.end
numbered_within n vars room = variables_within vars n.sources n.before n.end room.room

pub gate_within : (n : NetNumbering) (vars node : ℕ) (g : Gate) (a b : Bool) → HasRoom n vars → 1 ≤ node → node < n.end → IsGateAt node g → All (IsWithin vars) (gate_row (numbered n) node g a b)
gate_within n vars node g a b room some low is = row_within vars (gate_row (numbered n) node g a b) (gate_row_of vars (numbered n) node n.end g a b some low (numbered_within n vars room) is)

pub sink_within : (n m : NetNumbering) (vars d : ℕ) (u w : Sig) (bit : Bool) → HasRoom n vars → HasRoom m vars →
    1 ≤ d → d ≤ vars → IsSigBelow n.end u → IsSigBelow m.end w →
    All (IsWithin vars) (sink_row (numbered n) (numbered m) d u w bit)
sink_within n m vars d u w bit room room' some low below below' =
    row_within vars (sink_row (numbered n) (numbered m) d u w bit)
    (sink_row_of vars (numbered n) (numbered m) n.end m.end d u w bit some low (numbered_within n vars room)
    (numbered_within m vars room') below below')

-- the same for each literal
pub gate_literals : (n : NetNumbering) (vars node : ℕ) (g : Gate) (a b : Bool) (x y z : RawLit) → HasRoom n vars →
    (1 ≤ node) × (node < n.end) → IsGateAt node g → x ≡ signal_is (numbered n) g.a (not a) →
    y ≡ signal_is (numbered n) g.b (not b) → z ≡ Var (numbered n node) (apply g.op a b) →
    All (IsWithin vars) (x ∷ y ∷ z ∷ [])
unfolding gate_row
gate_literals n vars node g a b x y z room low is ex ey ez = rw (ex, ey, ez) (gate_within n vars node g a b room low.0 low.1 is)

pub sink_literals : (n m : NetNumbering) (vars d : ℕ) (u w : Sig) (bit : Bool) (x y z : RawLit) → HasRoom n vars →
    HasRoom m vars → (1 ≤ d) × (d ≤ vars) → IsSigBelow n.end u → IsSigBelow m.end w → x ≡ Var d false →
    y ≡ signal_is (numbered n) u bit → z ≡ signal_is (numbered m) w bit → All (IsWithin vars) (x ∷ y ∷ z ∷ [])
unfolding sink_row
sink_literals n m vars d u w bit x y z room room' low below below' ex ey ez = rw (ex, ey, ez) (sink_within n m vars d u w bit room room' low.0 low.1 below below')

-- ---- gates and sinks

pub gate_added : (n : NetNumbering) (node : ℕ) (g : Gate) (a b c d e : Formula) →
    IsAdded a b (gate_row (numbered n) node g false false ∷ []) →
    IsAdded b c (gate_row (numbered n) node g false true ∷ []) →
    IsAdded c d (gate_row (numbered n) node g true false ∷ []) →
    IsAdded d e (gate_row (numbered n) node g true true ∷ []) → IsAdded a e (gate_rows (numbered n) node g)
gate_added n node g a b c d e one two three four = added_both a b e _ _ one (added_both b c e _ _ two (added_both c d e _ _ three four))

-- one more gate in front of those that are added
pub gates_more : (n : NetNumbering) (node : ℕ) (gs rest : List Gate) (g : Gate) (a b c : Formula) → gs ≡ g ∷ rest →
    IsAdded a b (gate_rows (numbered n) node g) → IsAdded b c (gates_rows (numbered n) (node + 1) rest) →
    IsAdded a c (gates_rows (numbered n) node gs)
unfolding gates_rows
gates_more n node gs rest g a b c is one two = rw is (added_both a b c (gate_rows (numbered n) node g) (gates_rows (numbered n) (node + 1) rest) one two)

pub gates_none : (n : NetNumbering) (node : ℕ) (gs : List Gate) (f : Formula) → length gs ≡ 0 → IsAdded f f (gates_rows (numbered n) node gs)
unfolding gates_rows
gates_none n node [] f none = added_none f
gates_none n node (g ∷ gs) f none = absurd (omega arith)

-- ---- gates at their nodes

pub gate_at : (node : ℕ) (gs rest : List Gate) (g : Gate) → gs ≡ g ∷ rest → AreAt node gs → IsGateAt node g
gate_at node gs rest g is are = subst (λ (q : ℕ). IsGateAt q g) (add-zero node) (are.each 0 g (ap (λ (xs : List Gate). slice_get xs 0) is))

pub gates_after : (node : ℕ) (gs rest : List Gate) (g : Gate) → gs ≡ g ∷ rest → AreAt node gs → AreAt (node + 1) rest
gates_after node gs rest g is are = record {
  each = λ i h at. let shift : node + suc i ≡ (node + 1) + i = omega arith in subst (λ (q : ℕ). IsGateAt q h) shift (are.each (suc i) h (ap (λ (xs : List Gate). slice_get xs (suc i)) is ∙ at));
}

-- ---- sinks

pub sink_added : (n m : NetNumbering) (d : ℕ) (u w : Sig) (a b c : Formula) →
    IsAdded a b (sink_row (numbered n) (numbered m) d u w false ∷ []) →
    IsAdded b c (sink_row (numbered n) (numbered m) d u w true ∷ []) →
    IsAdded a c (sink_rows (numbered n) (numbered m) d u w)
sink_added n m d u w a b c one two = added_both a b c _ _ one two

pub sinks_more : (n m : NetNumbering) (d : ℕ) (us us' ws ws' : List Sig) (u w : Sig) (a b c : Formula) → us ≡ u ∷ us' →
    ws ≡ w ∷ ws' → IsAdded a b (sink_rows (numbered n) (numbered m) d u w) →
    IsAdded b c (sinks_rows (numbered n) (numbered m) (d + 1) us' ws') →
    IsAdded a c (sinks_rows (numbered n) (numbered m) d us ws)
unfolding sinks_rows
sinks_more n m d us us' ws ws' u w a b c is is' one two = rw (is, is') (added_both a b c (sink_rows (numbered n) (numbered m) d u w) (sinks_rows (numbered n) (numbered m) (d + 1) us' ws') one two)

pub sinks_none : (n m : NetNumbering) (d : ℕ) (us ws : List Sig) (f : Formula) → length us ≡ 0 → IsAdded f f (sinks_rows (numbered n) (numbered m) d us ws)
unfolding sinks_rows
sinks_none n m d [] ws f none = added_none f
sinks_none n m d (u ∷ us) ws f none = absurd (omega arith)

pub others_none : (n m : NetNumbering) (d : ℕ) (us ws : List Sig) (f : Formula) → length ws ≡ 0 → IsAdded f f (sinks_rows (numbered n) (numbered m) d us ws)
unfolding sinks_rows
others_none n m d [] ws f none = added_none f
others_none n m d (u ∷ us) [] f none = added_none f
others_none n m d (u ∷ us) (w ∷ ws) f none = absurd (omega arith)
