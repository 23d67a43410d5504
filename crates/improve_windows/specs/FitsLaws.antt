-- The operators of the basis `bench` are those that gates have in BENCH.
use Rattle.std.specs.Prelude.{◌≡◌, ℕ, ◌≤◌, ◌==◌, Bool, true, false, refl}
use Rattle.std.proofs.Common.{arith, ap, subst, inl, inr}
use Rattle.std.proofs.lemmas.Bool.{cases_lt}
use Rattle.std.proofs.lemmas.Nat.Bits.{bit_at_above}
use Rattle.op_basis.specs.Basis.{members}
use Rattle.op_basis.specs.Closed.{every_below, every, implies}
use Rattle.op_basis.specs.Laws.{every_each}
use Rattle.op_basis.specs.Text.{bench_set}
use Rattle.bench_core.specs.Bench.{is_gate_word, bench_format}
use Rattle.settings.specs.declared.improve.ImproveSettings.{ImproveSettings}
use Rattle.improve_windows.specs.Improving.{FitsFormat}

abbrev is_gate_where_member : ℕ → Bool
is_gate_where_member op = implies (members bench_set op) (is_gate_word op)

each_is : every is_gate_where_member ≡ true
unfolding every_below is_gate_word
each_is = refl

implied : (a b : Bool) → implies a b ≡ true → a ≡ true → b ≡ true
implied true b e has = e
implied false b e has = absurd cc

not_above : (op : ℕ) → 16 ≤ op → members bench_set op ≡ false
not_above op high = ap (λ (n : ℕ). n == 1) (bit_at_above bench_set 16 op (omega arith) high)

beyond : {A : Type 0} (b : Bool) → b ≡ false → b ≡ true → A
beyond b isnt has = absurd cc

gates_are : (op : ℕ) → members bench_set op ≡ true → is_gate_word op ≡ true
gates_are op has = elim (cases_lt op 16) [
  | inl low ↦ implied (members bench_set op) (is_gate_word op) (every_each is_gate_where_member each_is op low) has
  | inr high ↦ beyond (members bench_set op) (not_above op (omega arith)) has
]

-- A basis whose operators are all in `bench` fits BENCH.
pub fits_bench : (s : ImproveSettings) → ((op : ℕ) → members s.basis op ≡ true → members bench_set op ≡ true) → FitsFormat bench_format s
fits_bench s within op has = gates_are op (within op has)

pub all_fit : (s : ImproveSettings) → s.basis ≡ bench_set → FitsFormat bench_format s
all_fit s same = fits_bench s (λ op has. subst (λ (b : ℕ). members b op ≡ true) same has)
