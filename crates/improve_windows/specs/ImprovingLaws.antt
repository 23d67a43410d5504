-- An improved circuit is equivalent, is no larger, and its text is read back.
use Rattle.std.specs.Prelude.{◌≡◌, ℕ, ◌≤◌, Bool, List, length, All, Result, Ok, Err, IfErr, refl}
use Rattle.std.specs.Result.{IsErrAnd}
use Rattle.std.proofs.Common.{arith, sym, ◌∙◌, ap, subst, inl, inr, ⊎_elim}
use Rattle.std.proofs.lemmas.Grind.{common_steps}
use Rattle.op_basis.specs.Basis.{members}
use Rattle.net_theory.specs.Cost.{cost}
use Rattle.net_theory.specs.Net.{Net}
use Rattle.net_theory.specs.Naming.{gate_names}
use Rattle.net_theory.specs.Circuit.{Circuit, IsProper}
use Rattle.net_theory.specs.ExchangeLaws.{exchanged_proper}
use Rattle.net_document.specs.Format.{Format, IsNetlist, IsCircuitOfText, CanOperate, IsFormat}
use Rattle.net_document.specs.EquivalenceLaws.{equivalent_same, equivalent_exchanged, describes_equivalent}
use Rattle.net_document.specs.FormatLaws.{text_within, own_limit}
use Rattle.net_core.specs.declared.error.NetError.{NetError}
use Rattle.net_core.specs.declared.error.NetError.TheVariants.{Memory}
use Rattle.net_core.specs.Names.{HasRoomForNames}
use Rattle.blif_core.specs.Written.{written}
use Rattle.blif_core.specs.Spelling.{circuit_text}
use Rattle.blif_core.specs.Blif.{blif_format, CanWriteBlif}
use Rattle.bench_core.specs.Gates.{bench_written}
use Rattle.bench_core.specs.Spelling as gates
use Rattle.bench_core.specs.Bench.{bench_format}
use Rattle.bench_core.specs.Writable.{IsBenchCircuit}
use Rattle.bench_laws.specs.Spelled as bench
use Rattle.settings.specs.declared.improve.ImproveSettings.{ImproveSettings}
use Rattle.net_theory.specs.Operators.{HasOperatorsWithin}
use Rattle.improve_theory.specs.Undecided.{Undecided, IsUndecided}
use Rattle.improve_theory.specs.Improvement.{IsImprovementBy}
use Rattle.improve_windows.specs.Report.{report_text}
use Rattle.improve_windows.specs.ReportLaws.{CanBeWritten}
use Rattle.improve_windows.specs.Improving.{FitsFormat, IsBetter, IsImproved, IsReported}

-- ---- improving a circuit

pub left_proper : (s : ImproveSettings) (c k : Circuit) (settled : Bool) (named : List Undecided) → k ≡ record c { net = k.net } → IsProper c → IsImprovementBy s c.net k.net settled named → IsProper k
left_proper s c k settled named same is left = subst IsProper (sym same) (exchanged_proper c k.net is left.cleaned_up.implements)

better_at : (f : Format) (s : ImproveSettings) (c : Circuit) (m : Net) (before after : ℕ) (settled : Bool)
    (named : List Undecided) → IsProper c → IsImprovementBy s c.net m settled named → before ≡ length c.net.gates →
    after ≡ cost (f.written (record c { net = m })) → after ≤ length m.gates →
    IsBetter f s c (record c { net = m }) before after settled named
better_at f s c m before after settled named is left before_is after_is cheap =
    record {
      proper = exchanged_proper c m is left.cleaned_up.implements;
      model = refl;
      equivalent = equivalent_exchanged c m left.cleaned_up.implements;
      left = left;
      before_is = before_is;
      after_is = after_is;
      fewer = omega (arith, cheap, before_is, left.cleaned_up.implements.fewer);
    }

pub better : (f : Format) (s : ImproveSettings) (c k : Circuit) (m : Net) (before after : ℕ) (settled : Bool)
    (named : List Undecided) → IsProper c → k ≡ record c { net = m } → IsImprovementBy s c.net m settled named →
    before ≡ length c.net.gates → after ≡ cost (f.written k) → after ≤ length k.net.gates →
    IsBetter f s c k before after settled named
better f s c k m before after settled named is same left before_is after_is cheap =
    subst (λ (x : Circuit). IsBetter f s c x before after settled named) (sym same)
    (better_at f s c m before after settled named is left before_is (after_is ∙ ap (λ (x : Circuit). cost (f.written x)) same)
    (subst (λ (x : Circuit). after ≤ length x.net.gates) same cheap))

-- ---- certificates

pub named_can : (m : Net) (s : ImproveSettings) (named : List Undecided) → All (IsUndecided m s) named → All CanBeWritten named
named_can m s named are = λ k d low. let is = are k d low in record { valid = is.valid; output = is.output }

-- ---- improving a text

pub improved_is : (f : Format) (Can : Circuit → Type 0) (s : ImproveSettings) (bytes : List ℕ) (c k : Circuit)
    (before after : ℕ) (settled : Bool) (named : List Undecided) → IsFormat f Can → IsCircuitOfText f bytes c →
    IsBetter f s c k before after settled named → Can k → IsImproved f s bytes (f.text k) k before after settled named
improved_is f Can s bytes c k before after settled named format is better can =
    let text = format.read_back k can in
    record {
      read = is.listed;
      said = is.said;
      within = text_within f bytes c is;
      well = is.well;
      proper = better.proper;
      model = is.circuit.model ∙ better.model;
      describes = describes_equivalent is.listed.document c k is.circuit.describes better.equivalent;
      spelled = refl;
      first = c.net;
      first_is = is.circuit.net;
      left = better.left;
      again = text.listed;
      said_again = text.said;
      well_again = text.well;
      same = equivalent_same is.listed.document text.listed.document c k is.circuit.describes text.describes better.equivalent;
      before_is = better.before_is ∙ sym is.circuit.gates;
      after_is = better.after_is ∙ ap cost (sym text.document);
      fewer = better.fewer;
    }

-- ---- circuits that can be written

can_operate : (f : Format) (s : ImproveSettings) (n m : Net) → FitsFormat f s → HasOperatorsWithin (members s.basis) n m → CanOperate f n m
can_operate f s n m fits within = record {
  each = λ j h at. ⊎_elim (λ is. inl (fits h.op is)) (λ has. inr has) (within.each j h at);
}

-- An improved circuit of a text can be written in its format, where gates may have the operators of the
-- basis.
pub writable : (f : Format) (Can : Circuit → Type 0) (s : ImproveSettings) (bytes : List ℕ) (c k : Circuit)
    (settled : Bool) (named : List Undecided) → IsFormat f Can → IsCircuitOfText f bytes c → FitsFormat f s →
    k ≡ record c { net = k.net } → IsImprovementBy s c.net k.net settled named → HasRoomForNames k → Can k
writable f Can s bytes c k settled named format is fits same left room =
    let before : HasRoomForNames c = subst HasRoomForNames same room in
    subst Can (sym same) (format.exchanged c k.net (format.kept f.most bytes c (own_limit f bytes c is) before) left.cleaned_up.implements (can_operate f s c.net k.net fits left.operators))

-- If another format has the same costs, the circuit is improved there too.
pub better_there : (f g : Format) (s : ImproveSettings) (c k : Circuit) (before after : ℕ) (settled : Bool)
    (named : List Undecided) → cost (g.written k) ≡ cost (f.written k) → IsBetter f s c k before after settled named →
    IsBetter g s c k before after settled named
better_there f g s c k before after settled named same better = record {
  proper = better.proper;
  model = better.model;
  equivalent = better.equivalent;
  left = better.left;
  before_is = better.before_is;
  after_is = better.after_is ∙ sym same;
  fewer = better.fewer;
}

-- ---- texts with their reports

reported : (f : Format) (Can : Circuit → Type 0) (s : ImproveSettings) (bytes text report : List ℕ) (c k : Circuit)
    (before after : ℕ) (settled : Bool) (named : List Undecided) → IsFormat f Can → IsCircuitOfText f bytes c →
    IsBetter f s c k before after settled named → Can k → text ≡ f.text k →
    report ≡ report_text (gate_names k) k.net.sources before after settled named → IsReported f s bytes text report
reported f Can s bytes text report c k before after settled named format is better can spelled all_reported = record {
  circuit = k;
  before = before;
  after = after;
  settled = settled;
  undecided = named;
  improved = subst (λ (t : List ℕ). IsImproved f s bytes t k before after settled named) (sym spelled) (improved_is f Can s bytes c k before after settled named format is better can);
  all_reported = all_reported;
}

pub blif_improved : (s : ImproveSettings) (bytes text report : List ℕ) (c k : Circuit) (before after : ℕ)
    (settled : Bool) (named : List Undecided) → IsFormat blif_format CanWriteBlif →
    IsCircuitOfText blif_format bytes c → IsBetter blif_format s c k before after settled named → HasRoomForNames k →
    text ≡ circuit_text k → report ≡ report_text (gate_names k) k.net.sources before after settled named →
    IsReported blif_format s bytes text report
blif_improved s bytes text report c k before after settled named format is better room spelled all_reported =
    reported blif_format CanWriteBlif s bytes text report c k before after settled named format is better (better.proper, room) spelled all_reported

-- an improved circuit of a text is one that BENCH can express
pub bench_fits : (s : ImproveSettings) (bytes : List ℕ) (c k : Circuit) (before after : ℕ) (settled : Bool)
    (named : List Undecided) → IsFormat bench_format bench.CanWriteBench → FitsFormat bench_format s →
    IsCircuitOfText bench_format bytes c → k ≡ record c { net = k.net } →
    IsBetter blif_format s c k before after settled named → HasRoomForNames k → IsBenchCircuit k
bench_fits s bytes c k before after settled named format fits is same better room =
    (writable bench_format bench.CanWriteBench s bytes c k settled named format is fits same better.left
    room).writable.fits

pub bench_improved : (s : ImproveSettings) (bytes text report : List ℕ) (c k : Circuit) (before after : ℕ)
    (settled : Bool) (named : List Undecided) → IsFormat bench_format bench.CanWriteBench →
    ((x : Circuit) → bench.IsWritable x → cost (bench_written x) ≡ cost (written x)) → FitsFormat bench_format s →
    IsCircuitOfText bench_format bytes c → k ≡ record c { net = k.net } →
    IsBetter blif_format s c k before after settled named → HasRoomForNames k → text ≡ gates.circuit_text k →
    report ≡ report_text (gate_names k) k.net.sources before after settled named →
    IsReported bench_format s bytes text report
bench_improved s bytes text report c k before after settled named format same_cost fits is same better room spelled all_reported =
    let can = writable bench_format bench.CanWriteBench s bytes c k settled named format is fits same better.left room in
    reported bench_format bench.CanWriteBench s bytes text report c k before after settled named format is
    (better_there blif_format bench_format s c k before after settled named (same_cost k can.writable) better) can
    spelled all_reported

pub text_proper : (f : Format) (bytes : List ℕ) (c : Circuit) → IsCircuitOfText f bytes c → IsProper c
text_proper f bytes c is = is.circuit.proper

-- an error that is passed on
pub err_complete : {A : Type 0} (f : Format) (bytes : List ℕ) (r : Result A NetError) (e : NetError) →
    IsErrAnd r (λ d. d ≡ e) → (IsNetlist f bytes → e ≡ Memory) → IfErr r (λ d. IsNetlist f bytes → d ≡ Memory)
err_complete f bytes (Ok x) e is complete = absurd is
err_complete f bytes (Err d) e is complete = λ netlist. is ∙ complete netlist

pub ruleset improving = (common_steps, left_proper, better, named_can, text_proper)
