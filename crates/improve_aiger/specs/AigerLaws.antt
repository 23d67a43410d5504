-- An improved circuit of an AIGER text can be written in AIGER, and its text is that of an improved netlist. The operators
-- of a basis without XOR and its complement are those of AND gates.
use Rattle.std.specs.Prelude.{◌≡◌, ℕ, ◌+◌, ◌-◌, ◌*◌, ◌^◌, ◌≤◌, ◌<◌, ◌==◌, Bool, true, false, List, length, All, refl}
use Rattle.std.proofs.Common.{arith, ◌∙◌, ap, inl, inr}
use Rattle.std.proofs.lemmas.Grind.{common_steps}
use Rattle.std.proofs.lemmas.Bool.{cases_lt}
use Rattle.std.proofs.lemmas.Nat.Bits.{bit_at_above}
use Rattle.op_basis.specs.Basis.{members}
use Rattle.op_basis.specs.Closed.{every_below, every, implies}
use Rattle.op_basis.specs.Laws.{every_each}
use Rattle.net_theory.specs.Document.{Document}
use Rattle.net_theory.specs.WellFormed.{IsTable}
use Rattle.net_theory.specs.Cost.{cost}
use Rattle.net_theory.specs.Naming.{gate_names}
use Rattle.net_theory.specs.NetOf.{source_count}
use Rattle.net_theory.specs.Circuit.{Circuit}
use Rattle.net_core.specs.Names.{HasRoomForNames}
use Rattle.net_document.specs.Listed.{Listed, IsWellListed}
use Rattle.net_document.specs.Format.{IsCircuitOfText, IsTextOf, IsFormat}
use Rattle.blif_core.specs.Blif.{blif_format}
use Rattle.aiger_text.specs.File.{AigFile}
use Rattle.aiger_text.specs.Meaning.{document_of, listed_with, listed}
use Rattle.aiger_text.specs.Spelling.{spelled}
use Rattle.aiger_core.specs.Written.{is_and_word, file_of}
use Rattle.aiger_core.specs.Aiger.{aiger_format}
use Rattle.aiger_forms.specs.Forms.{aiger_forms}
use Rattle.aiger_laws.specs.Writable.{CanWriteAiger}
use Rattle.settings.specs.declared.improve.ImproveSettings.{ImproveSettings}
use Rattle.improve_theory.specs.Undecided.{Undecided}
use Rattle.improve_windows.specs.Report.{report_text}
use Rattle.improve_windows.specs.Improving.{FitsFormat, IsBetter, IsReported}
use Rattle.improve_windows.specs.ImprovingLaws.{improved_is, writable}

-- ---- the cost of a text

listed_document : (d : Document) → (listed_with d).document ≡ d
unfolding listed_with
listed_document d = refl

pub cost_of_file : (f : AigFile) (l : Listed) (n : ℕ) → l ≡ listed f → n ≡ cost l.document → n ≡ cost (document_of f)
cost_of_file f l n same is = is ∙ ap (λ (x : Listed). cost x.document) same ∙ ap cost (listed_document (document_of f))

pub tables_are : (l : Listed) → IsWellListed l → All IsTable l.document.tables
tables_are l is = is.tables

pub cost_small : (d : Document) → 2 * source_count d + cost d < 2 ^ 31 → cost d < 2 ^ 32
cost_small d small = omega (arith, small)

pub cheap_file : (c : Circuit) (n : ℕ) → IsTextOf aiger_format (spelled (file_of c)) c → n ≡ cost (document_of (file_of c)) → n ≤ length c.net.gates
cheap_file c n text is = omega (arith, text.cheap, is, ap cost text.document)

pub ruleset costing = (common_steps, cost_of_file, tables_are, cost_small, cheap_file)

-- ---- improved circuits

pub aiger_can : (s : ImproveSettings) (bytes : List ℕ) (c k : Circuit) (before after : ℕ) (settled : Bool)
    (named : List Undecided) → IsFormat aiger_forms CanWriteAiger → FitsFormat aiger_forms s →
    IsCircuitOfText aiger_forms bytes c → k ≡ record c { net = k.net } →
    IsBetter blif_format s c k before after settled named → HasRoomForNames k → CanWriteAiger k
aiger_can s bytes c k before after settled named format fits is same better room =
    writable aiger_forms CanWriteAiger s bytes c k settled named format is fits same better.left room

-- the same circuit with its cost as an AIGER text
better_counted : (s : ImproveSettings) (c k : Circuit) (before blif_after after : ℕ) (settled : Bool)
    (named : List Undecided) → IsBetter blif_format s c k before blif_after settled named →
    after ≡ cost (document_of (file_of k)) → after ≤ length k.net.gates →
    IsBetter aiger_forms s c k before after settled named
better_counted s c k before blif_after after settled named better is cheap = record {
  proper = better.proper;
  model = better.model;
  equivalent = better.equivalent;
  left = better.left;
  before_is = better.before_is;
  after_is = is;
  fewer = omega (arith, cheap, better.before_is, better.left.cleaned_up.implements.fewer);
}

pub aiger_improved : (s : ImproveSettings) (bytes text report : List ℕ) (c k : Circuit) (before blif_after after : ℕ)
    (settled : Bool) (named : List Undecided) → IsFormat aiger_forms CanWriteAiger → FitsFormat aiger_forms s →
    IsCircuitOfText aiger_forms bytes c → k ≡ record c { net = k.net } →
    IsBetter blif_format s c k before blif_after settled named → HasRoomForNames k → text ≡ spelled (file_of k) →
    after ≡ cost (document_of (file_of k)) → after ≤ length k.net.gates →
    report ≡ report_text (gate_names k) k.net.sources before after settled named →
    IsReported aiger_forms s bytes text report
aiger_improved s bytes text report c k before blif_after after settled named format fits is same better room spells costs cheap all_reported =
    let can = aiger_can s bytes c k before blif_after settled named format fits is same better room in
    let counted = better_counted s c k before blif_after after settled named better costs cheap in
    let improved = improved_is aiger_forms CanWriteAiger s bytes c k before after settled named format is counted can in
    record {
      circuit = k;
      before = before;
      after = after;
      settled = settled;
      undecided = named;
      improved = rw spells improved;
      all_reported = all_reported;
    }

-- ---- bases

-- all operators but XOR and its complement
abbrev pub and_set : ℕ
and_set = 65535 - 2 ^ 6 - 2 ^ 9

abbrev is_and_where_member : ℕ → Bool
is_and_where_member op = implies (members and_set op) (is_and_word op)

each_is : every is_and_where_member ≡ true
unfolding every_below is_and_word
each_is = refl

implied : (a b : Bool) → implies a b ≡ true → a ≡ true → b ≡ true
implied true b e has = e
implied false b e has = absurd cc

not_above : (op : ℕ) → 16 ≤ op → members and_set op ≡ false
not_above op high = ap (λ (n : ℕ). n == 1) (bit_at_above and_set 16 op (omega arith) high)

beyond : {A : Type 0} (b : Bool) → b ≡ false → b ≡ true → A
beyond b isnt has = absurd cc

ands_are : (op : ℕ) → members and_set op ≡ true → is_and_word op ≡ true
ands_are op has = elim (cases_lt op 16) [
  | inl low ↦ implied (members and_set op) (is_and_word op) (every_each is_and_where_member each_is op low) has
  | inr high ↦ beyond (members and_set op) (not_above op (omega arith)) has
]

-- A basis whose operators are all among these fits AIGER.
pub fits_aiger : (s : ImproveSettings) → ((op : ℕ) → members s.basis op ≡ true → members and_set op ≡ true) → FitsFormat aiger_forms s
fits_aiger s within op has = ands_are op (within op has)
