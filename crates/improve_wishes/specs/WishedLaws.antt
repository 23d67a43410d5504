-- A circuit that was improved by wishes can be written, and its text is that of a netlist which was improved so.
use Rattle.std.specs.Prelude.{◌≡◌, ℕ, ◌≤◌, Bool, true, false, List, [], ◌∷◌, length, All, refl}
use Rattle.std.proofs.Common.{arith, sym, ◌∙◌, ap, subst, inl, inr, ⊎_elim}
use Rattle.std.proofs.lemmas.Grind.{common_steps}
use Rattle.chain_theory.specs.Operator.{Basis}
use Rattle.op_basis.specs.Basis.{members}
use Rattle.net_theory.specs.declared.data.Gate.{Gate}
use Rattle.net_theory.specs.declared.data.Sig.{Sig}
use Rattle.net_theory.specs.Cost.{cost}
use Rattle.net_theory.specs.Document.{Document}
use Rattle.net_theory.specs.Net.{Net}
use Rattle.net_theory.specs.NameLaws.{all_at, at_all}
use Rattle.net_theory.specs.Naming.{gate_names}
use Rattle.net_theory.specs.Circuit.{Circuit, sources_of, IsProper, Describes}
use Rattle.net_theory.specs.Dangling.{cleanup}
use Rattle.net_theory.specs.DanglingLaws.{cleanup_is}
use Rattle.net_theory.specs.ExchangeLaws.{with_net}
use Rattle.net_theory.specs.Implements.{IsCleanedUp}
use Rattle.net_theory.specs.Operators.{HasOperatorsWithin}
use Rattle.net_core.specs.Names.{HasRoomForNames}
use Rattle.net_document.specs.Format.{Format, IsCircuitOfText, CanOperate, IsFormat}
use Rattle.net_document.specs.EquivalenceLaws.{equivalent_same, describes_equivalent}
use Rattle.net_document.specs.FormatLaws.{text_within, own_limit}
use Rattle.blif_core.specs.Blif.{blif_format, CanWriteBlif}
use Rattle.bench_core.specs.Bench.{bench_format}
use Rattle.bench_core.specs.Gates.{first_source}
use Rattle.bench_core.specs.Writable.{HasGateWord}
use Rattle.bench_laws.specs.Spelled.{IsGateWord, CanWriteBench}
use Rattle.settings.specs.declared.improve.ImproveSettings.{ImproveSettings}
use Rattle.wish_names.specs.declared.wishes.Wishes.{Wishes}
use Rattle.wish_names.specs.declared.wishes.CoversAsked.{CoversAsked}
use Rattle.wish_names.specs.declared.wishes.CoversAsked.TheVariants.{Rows, Least}
use Rattle.wish_names.specs.declared.wishes.LevelsAsked.{LevelsAsked}
use Rattle.wish_names.specs.declared.wishes.LevelsAsked.TheVariants.{Untold, Tell, Keep, Most}
use Rattle.net_levels.specs.Levels.{levels_of}
use Rattle.net_basis.specs.DocumentOver.{IsDocumentOver}
use Rattle.net_basis.specs.OverBasis.{HaveOperatorsIn}
use Rattle.net_basis.specs.OverBasisLaws.{within_over}
use Rattle.improve_theory.specs.Undecided.{Undecided}
use Rattle.improve_windows.specs.Improving.{FitsFormat, IsBetter}
use Rattle.improve_windows.specs.ImprovingLaws.{named_can}
use Rattle.improve_windows.specs.ReportLaws.{CanBeWritten}
use Rattle.improve_levels.specs.Within.{IsBetterWithin}
use Rattle.basis_laws.specs.WrittenOver.{written_over, least_over, gates_written_over}
use Rattle.improve_wishes.specs.Covers.{blif_in}
use Rattle.improve_wishes.specs.LevelsReport.{wished_report}
use Rattle.improve_wishes.specs.Wished.{IsBaseNet, IsOverIf, IsReached, IsBetterBy, IsBase, IsTextBy, IsWished}

-- ---- operators

-- what the format writes of a circuit over a basis is over it
abbrev pub WritesOver : Format → (Circuit → Type 0) → Type 0
WritesOver f Can = (basis : Basis) (k : Circuit) → Can k → HaveOperatorsIn basis k.net.gates →
    IsDocumentOver basis (f.written k)

-- where it is wished for
abbrev pub OverWhere : Bool → Format → (Circuit → Type 0) → Type 0
OverWhere false f Can = Unit {0}
OverWhere true f Can = WritesOver f Can

pub over_where : (only : Bool) (f : Format) (Can : Circuit → Type 0) → WritesOver f Can → OverWhere only f Can
over_where false f Can writes = tt
over_where true f Can writes = writes

pub over_nowhere : (only : Bool) (f : Format) (Can : Circuit → Type 0) → only ≡ false → OverWhere only f Can
over_nowhere only f Can no_wish = subst (λ (o : Bool). OverWhere o f Can) (sym no_wish) tt

over_if : (f : Format) (Can : Circuit → Type 0) (only : Bool) (s : ImproveSettings) (n b : Net) (k : Circuit)
    (d : Document) → OverWhere only f Can → IsBaseNet only s n b → HasOperatorsWithin (members s.basis) b k.net →
    Can k → d ≡ f.written k → IsOverIf only s d
over_if f Can false s n b k d writes is within can same = tt
over_if f Can true s n b k d writes is within can same =
    subst (IsDocumentOver (members s.basis)) (sym same)
    (writes (members s.basis) k can (within_over (members s.basis) b k.net is.operators within))

-- ---- improving a circuit

-- by exact windows
windowed : (s : ImproveSettings) (levels : LevelsAsked) (c k : Circuit) (before after : ℕ) (settled : Bool)
    (named : List Undecided) → k ≡ record c { net = k.net } → IsBetter blif_format s c k before after settled named →
    IsReached levels s c.net k.net settled named →
    IsBetterBy blif_format s levels c k before after settled named
windowed s levels c k before after settled named same better reached = record {
  proper = better.proper;
  same = same;
  equivalent = better.equivalent;
  implements = better.left.cleaned_up.implements;
  operators = better.left.operators;
  reached = reached;
  before_is = better.before_is;
  after_is = better.after_is;
  fewer = better.fewer;
}

pub by_windows : (s : ImproveSettings) (levels : LevelsAsked) (c k : Circuit) (before after : ℕ) (settled : Bool)
    (named : List Undecided) → levels ≡ Untold → k ≡ record c { net = k.net } →
    IsBetter blif_format s c k before after settled named → IsBetterBy blif_format s levels c k before after settled named
by_windows s levels c k before after settled named is same better =
    subst (λ (l : LevelsAsked). IsBetterBy blif_format s l c k before after settled named) (sym is)
    (windowed s Untold c k before after settled named same better better.left)

pub by_told_windows : (s : ImproveSettings) (levels : LevelsAsked) (c k : Circuit) (before after : ℕ) (settled : Bool)
    (named : List Undecided) → levels ≡ Tell → k ≡ record c { net = k.net } →
    IsBetter blif_format s c k before after settled named → IsBetterBy blif_format s levels c k before after settled named
by_told_windows s levels c k before after settled named is same better =
    subst (λ (l : LevelsAsked). IsBetterBy blif_format s l c k before after settled named) (sym is)
    (windowed s Tell c k before after settled named same better better.left)

pub windows_can : (s : ImproveSettings) (c k : Circuit) (before after : ℕ) (settled : Bool) (named : List Undecided) →
    IsBetter blif_format s c k before after settled named → All CanBeWritten named
windows_can s c k before after settled named better = named_can k.net s named better.left.undecided_are

-- under a limit of levels
limited : (s : ImproveSettings) (levels : LevelsAsked) (most : ℕ) (c k : Circuit) (before after : ℕ) (settled : Bool)
    (named : List Undecided) → k ≡ record c { net = k.net } → IsBetterWithin blif_format s most c k before after →
    IsReached levels s c.net k.net settled named → IsBetterBy blif_format s levels c k before after settled named
limited s levels most c k before after settled named same better reached = record {
  proper = better.proper;
  same = same;
  equivalent = better.equivalent;
  implements = better.within.cleaned_up.implements;
  operators = better.within.operators;
  reached = reached;
  before_is = better.before_is;
  after_is = better.after_is;
  fewer = better.fewer;
}

pub by_levels_kept : (s : ImproveSettings) (levels : LevelsAsked) (c k : Circuit) (before after : ℕ) (settled : Bool)
    (named : List Undecided) → levels ≡ Keep → k ≡ record c { net = k.net } →
    IsBetterWithin blif_format s 0 c k before after → IsBetterBy blif_format s levels c k before after settled named
by_levels_kept s levels c k before after settled named is same better =
    subst (λ (l : LevelsAsked). IsBetterBy blif_format s l c k before after settled named) (sym is)
    (limited s Keep 0 c k before after settled named same better better.within)

pub by_most_levels : (s : ImproveSettings) (levels : LevelsAsked) (most : ℕ) (c k : Circuit) (before after : ℕ)
    (settled : Bool) (named : List Undecided) → levels ≡ Most most → k ≡ record c { net = k.net } →
    IsBetterWithin blif_format s most c k before after → IsBetterBy blif_format s levels c k before after settled named
by_most_levels s levels most c k before after settled named is same better =
    subst (λ (l : LevelsAsked). IsBetterBy blif_format s l c k before after settled named) (sym is)
    (limited s (Most most) most c k before after settled named same better better.within)

pub none_can : (named : List Undecided) → length named ≡ 0 → All CanBeWritten named
none_can named none = λ k d low. absurd (omega (arith, none, low))

pub ruleset reaching = (common_steps, by_windows, by_told_windows, windows_can, by_levels_kept, by_most_levels, none_can)

-- with the cost in another format
pub better_as : (f g : Format) (s : ImproveSettings) (levels : LevelsAsked) (c k : Circuit) (before after : ℕ)
    (settled : Bool) (named : List Undecided) → cost (g.written k) ≡ cost (f.written k) →
    IsBetterBy f s levels c k before after settled named → IsBetterBy g s levels c k before after settled named
better_as f g s levels c k before after settled named same better = record {
  proper = better.proper;
  same = better.same;
  equivalent = better.equivalent;
  implements = better.implements;
  operators = better.operators;
  reached = better.reached;
  before_is = better.before_is;
  after_is = better.after_is ∙ sym same;
  fewer = better.fewer;
}

-- with the cost of its file
pub better_counted : (f g : Format) (s : ImproveSettings) (levels : LevelsAsked) (c k : Circuit)
    (before blif_after after : ℕ) (settled : Bool) (named : List Undecided) →
    IsBetterBy f s levels c k before blif_after settled named → after ≡ cost (g.written k) →
    after ≤ length k.net.gates → IsBetterBy g s levels c k before after settled named
better_counted f g s levels c k before blif_after after settled named better is cheap = record {
  proper = better.proper;
  same = better.same;
  equivalent = better.equivalent;
  implements = better.implements;
  operators = better.operators;
  reached = better.reached;
  before_is = better.before_is;
  after_is = is;
  fewer = omega (arith, cheap, better.before_is, better.implements.fewer);
}

-- ---- circuits that can be written

can_operate : (f : Format) (s : ImproveSettings) (n m : Net) → FitsFormat f s →
    HasOperatorsWithin (members s.basis) n m → CanOperate f n m
can_operate f s n m fits within = record {
  each = λ j h at. ⊎_elim (λ is. inl (fits h.op is)) (λ has. inr has) (within.each j h at);
}

-- a circuit that can be written where it has room for names
abbrev pub CanIfRoom : (Circuit → Type 0) → Circuit → Type 0
CanIfRoom Can b = HasRoomForNames b → Can b

pub writable : (f g : Format) (Can : Circuit → Type 0) (s : ImproveSettings) (levels : LevelsAsked) (b k : Circuit)
    (before after : ℕ) (settled : Bool) (named : List Undecided) → IsFormat f Can → FitsFormat f s → CanIfRoom Can b →
    IsBetterBy g s levels b k before after settled named → HasRoomForNames k → Can k
writable f g Can s levels b k before after settled named format fits can better room =
    let before_room : HasRoomForNames b = subst HasRoomForNames better.same room in
    subst Can (sym better.same)
    (format.exchanged b k.net (can before_room) better.implements (can_operate f s b.net k.net fits better.operators))

-- what can be written of a circuit can be written of what is improved of it
abbrev pub KeepsWriting : (Circuit → Type 0) → Bool → ImproveSettings → Type 0
KeepsWriting Can only s = (c b : Circuit) → IsBase only s c b → Can c → Can b

pub base_can : (f : Format) (Can : Circuit → Type 0) (only : Bool) (s : ImproveSettings) (bytes : List ℕ)
    (c b : Circuit) → IsFormat f Can → KeepsWriting Can only s → IsCircuitOfText f bytes c → IsBase only s c b →
    CanIfRoom Can b
base_can f Can only s bytes c b format keeps is base =
    λ room. keeps c b base (format.kept f.most bytes c (own_limit f bytes c is)
    (subst HasRoomForNames base.same room))

-- ---- texts

-- a text with its report
pub text_by : (f : Format) (Can : Circuit → Type 0) (s : ImproveSettings) (levels : LevelsAsked) (b k : Circuit)
    (base_levels before after : ℕ) (settled : Bool) (named : List Undecided) (text report : List ℕ) →
    IsBetterBy f s levels b k before after settled named → Can k → text ≡ f.text k → base_levels ≡ levels_of b.net →
    report ≡ wished_report levels (gate_names k) k.net.sources before after base_levels (levels_of k.net) settled named →
    IsTextBy f Can s levels b text report
text_by f Can s levels b k base_levels before after settled named text report better can spells told reported = record {
  circuit = k;
  before = before;
  after = after;
  settled = settled;
  undecided = named;
  better = better;
  writes = can;
  spelled = spells;
  reported = reported ∙ ap (λ (n : ℕ). wished_report levels (gate_names k) k.net.sources before after n
      (levels_of k.net) settled named) told;
}

pub wished : (f : Format) (Can : Circuit → Type 0) (s : ImproveSettings) (w : Wishes) (bytes text report : List ℕ)
    (c b : Circuit) → IsFormat f Can → OverWhere w.only f Can → IsCircuitOfText f bytes c → IsBase w.only s c b →
    IsTextBy f Can s w.levels b text report → IsWished f s w bytes text report
wished f Can s w bytes text report c b format writes is base by =
    let k = by.circuit in
    let better = by.better in
    let back = format.read_back k by.writes in
    let of_base : Describes is.listed.document b = describes_equivalent is.listed.document c b is.circuit.describes base.equivalent in
    record {
      read = is.listed;
      said = is.said;
      within = text_within f bytes c is;
      well = is.well;
      first = c.net;
      first_is = is.circuit.net;
      base = b;
      base_is = base.net;
      base_describes = of_base;
      circuit = k;
      proper = better.proper;
      model = is.circuit.model ∙ sym (ap (λ (x : Circuit). x.model) base.same) ∙ sym (ap (λ (x : Circuit). x.model) better.same);
      describes = describes_equivalent is.listed.document b k of_base better.equivalent;
      spelled = by.spelled;
      operators = better.operators;
      again = back.listed;
      said_again = ap f.listed by.spelled ∙ back.said;
      well_again = back.well;
      over = over_if f Can w.only s c.net b.net k back.listed.document writes base.net better.operators by.writes back.document;
      same = equivalent_same is.listed.document back.listed.document b k of_base back.describes better.equivalent;
      before = by.before;
      after = by.after;
      settled = by.settled;
      undecided = by.undecided;
      reached = better.reached;
      before_is = better.before_is;
      after_is = better.after_is ∙ ap cost (sym back.document);
      fewer = better.fewer;
      reported = by.reported;
    }

-- ---- each format

pub keeps_blif : (only : Bool) (s : ImproveSettings) → KeepsWriting CanWriteBlif only s
keeps_blif only s c b base can = (base.proper, subst HasRoomForNames (sym base.same) can.1)

-- ---- what is written over the basis

pub blif_writes : (covers : CoversAsked) → WritesOver (blif_in covers) CanWriteBlif
blif_writes Rows basis k can over = written_over basis k can.0 over
blif_writes Least basis k can over = least_over basis k can.0 over

pub bench_writes : WritesOver bench_format CanWriteBench
bench_writes basis k can over =
    gates_written_over basis (first_source k) k can.writable.fits.proper over can.operators

-- the gates of what is improved have operators of the format
gates_of : (f : Format) (only : Bool) (s : ImproveSettings) (n b : Net) → FitsFormat f s → IsBaseNet only s n b →
    All (λ (g : Gate). f.operators g.op ≡ true) n.gates → All (λ (g : Gate). f.operators g.op ≡ true) b.gates
gates_of f false s n b fits is all = subst (λ (m : Net). All (λ (g : Gate). f.operators g.op ≡ true) m.gates) (sym is) all
gates_of f true s n b fits is all =
    at_all (λ (g : Gate). f.operators g.op ≡ true) b.gates (λ j h at. fits h.op (is.operators.each j h at))

gate_words : (gs : List Gate) → All IsGateWord gs → All HasGateWord gs
gate_words gs all = at_all HasGateWord gs (λ j h at. λ p q a b apart. all_at IsGateWord gs j h all at)

sources_same : (c b : Circuit) → IsProper c → IsProper b → b ≡ with_net c b.net → b.net.sources ≡ c.net.sources
sources_same c b is is_b same =
    is_b.source_count ∙ ap (λ (x : Circuit). length (sources_of x)) same ∙ sym is.source_count

-- a net without gates stays so
empty : {A : Type 0} (xs : List A) → length xs ≤ 0 → xs ≡ []
empty [] none = refl
empty (x ∷ xs) none = absurd (omega (arith, none))

none_in : (basis : Basis) (gs : List Gate) → gs ≡ [] → HaveOperatorsIn basis gs
none_in basis gs none = subst (HaveOperatorsIn basis) (sym none) (record { each = λ i g at. absurd cc })

no_gates : (only : Bool) (s : ImproveSettings) (c b : Circuit) → IsProper c → IsBaseNet only s c.net b.net →
    c.net.gates ≡ [] → b.net.gates ≡ []
no_gates false s c b is same none = ap (λ (n : Net). n.gates) same ∙ none
no_gates true s c b is over none =
    let left : IsCleanedUp c.net (cleanup c.net) = cleanup_is c.net is.net in
    let all : (cleanup c.net).gates ≡ [] =
    empty (cleanup c.net).gates (omega (arith, left.implements.fewer, ap (length {A = Gate}) none)) in
    ap (λ (n : Net). n.gates) (over.itself (none_in (members s.basis) (cleanup c.net).gates all)) ∙ all

no_sinks : (only : Bool) (s : ImproveSettings) (c b : Circuit) → IsProper c → IsBaseNet only s c.net b.net →
    c.net.sinks ≡ [] → b.net.sinks ≡ []
no_sinks false s c b is same none = ap (λ (n : Net). n.sinks) same ∙ none
no_sinks true s c b is over none =
    let left : IsCleanedUp c.net (cleanup c.net) = cleanup_is c.net is.net in
    empty b.net.sinks (omega (arith, over.behaves.sink_count, left.implements.sink_count, ap (length {A = Sig}) none))

bench_with : (only : Bool) (s : ImproveSettings) (c b : Circuit) → FitsFormat bench_format s → IsBase only s c b →
    CanWriteBench c → CanWriteBench (with_net c b.net)
bench_with only s c b fits base can =
    let words : All IsGateWord b.net.gates = gates_of bench_format only s c.net b.net fits base.net can.operators in
    record {
      writable = record {
        fits = record {
          proper = subst IsProper base.same base.proper;
          model = can.writable.fits.model;
          inputs = can.writable.fits.inputs;
          outputs = can.writable.fits.outputs;
          clocks = can.writable.fits.clocks;
          latches = can.writable.fits.latches;
          operators = gate_words b.net.gates words;
          source = ⊎_elim (λ some. inl (omega (arith, some, sources_same c b can.writable.fits.proper base.proper base.same))) (λ none.
              inr (
                no_gates only s c b can.writable.fits.proper base.net none.0,
                no_sinks only s c b can.writable.fits.proper base.net none.1,
              )) can.writable.fits.source;
        };
        room = can.writable.room;
      };
      operators = words;
    }

pub keeps_bench : (only : Bool) (s : ImproveSettings) → FitsFormat bench_format s → KeepsWriting CanWriteBench only s
keeps_bench only s fits c b base can = subst CanWriteBench (sym base.same) (bench_with only s c b fits base can)
