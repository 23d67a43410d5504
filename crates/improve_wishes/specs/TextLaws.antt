-- The texts of each format.
use Rattle.std.specs.Prelude.{◌≡◌, ℕ, Bool, true, List, Vec}
use Rattle.std.specs.Global.{Global}
use Rattle.std.proofs.Common.{subst}
use Rattle.std.proofs.lemmas.Grind.{common_steps}
use Rattle.op_basis.specs.Basis.{members}
use Rattle.net_theory.specs.Circuit.{Circuit, IsProper}
use Rattle.net_theory.specs.Dangling.{cleanup}
use Rattle.net_document.specs.Format.{Format, IsCircuitOfText, IsFormat}
use Rattle.net_document.specs.FormatLaws.{own_limit}
use Rattle.bench_core.specs.Bench.{bench_format}
use Rattle.bench_laws.specs.Spelled.{CanWriteBench}
use Rattle.aiger_forms.specs.Forms.{aiger_forms}
use Rattle.aiger_laws.specs.Writable.{CanWriteAiger}
use Rattle.settings.specs.declared.improve.ImproveSettings.{ImproveSettings}
use Rattle.wish_names.specs.declared.wishes.Wishes.{Wishes}
use Rattle.improve_windows.specs.Improving.{FitsFormat}
use Rattle.improve_windows.specs.ImprovingLaws.{text_proper}
use Rattle.net_basis.specs.OverBasis.{MayHaveTooMany}
use Rattle.based.specs.declared.answer.Based.{Based}
use Rattle.based.specs.declared.answer.Based.TheVariants.{Base, Cannot, TooMany}
use Rattle.based.specs.Based.{left_of, IsInexpressibleBy, IfBase, IfCannot, IfTooMany, IfNone}
use Rattle.improve_wishes.specs.Wished.{IsBase, IsCannotExpress, IsTooLarge}
use Rattle.improve_wishes.specs.WishedLaws.{CanIfRoom, base_can, keeps_bench}

-- ---- what was found

pub base_at : (only : Bool) (s : ImproveSettings) (c b : Circuit) (found : Based) → found ≡ Base b →
    IfBase found (IsBase only s c) → IsBase only s c b
base_at only s c b found is has = subst (λ (x : Based). IfBase x (IsBase only s c)) is has

pub base_proper : (only : Bool) (s : ImproveSettings) (c b : Circuit) (found : Based) → found ≡ Base b →
    IfBase found (IsBase only s c) → IsProper b
base_proper only s c b found is has = (base_at only s c b found is has).proper

pub bench_can : (only : Bool) (s : ImproveSettings) (bytes : List ℕ) (c b : Circuit) (found : Based) →
    IsFormat bench_format CanWriteBench → FitsFormat bench_format s → IsCircuitOfText bench_format bytes c →
    found ≡ Base b → IfBase found (IsBase only s c) → CanIfRoom CanWriteBench b
bench_can only s bytes c b found format fits of_text is has =
    base_can bench_format CanWriteBench only s bytes c b format (keeps_bench only s fits) of_text (base_at only s c b found is has)

-- what AIGER improves is the circuit that was read
pub aiger_can : (bytes : List ℕ) (c : Circuit) → IsFormat aiger_forms CanWriteAiger →
    IsCircuitOfText aiger_forms bytes c → CanIfRoom CanWriteAiger c
aiger_can bytes c format is = λ room. format.kept aiger_forms.most bytes c (own_limit aiger_forms bytes c is) room

-- ---- no text

pub cannot_express : (f : Format) (s : ImproveSettings) (w : Wishes) (bytes : List ℕ) (c : Circuit) (found : Based)
    (name : Vec ℕ Global) → IsCircuitOfText f bytes c → found ≡ Cannot name → IfNone found (w.only ≡ true) →
    IfCannot found (IsInexpressibleBy (members s.basis) (left_of c)) → IsCannotExpress f s w bytes name.items
cannot_express f s w bytes c found name of_text is wish by = record {
  wish = subst (λ (x : Based). IfNone x (w.only ≡ true)) is wish;
  circuit = c;
  of_text = of_text;
  gate = subst (λ (x : Based). IfCannot x (IsInexpressibleBy (members s.basis) (left_of c))) is by;
}

pub too_large : (f : Format) (s : ImproveSettings) (w : Wishes) (bytes : List ℕ) (c : Circuit) (found : Based) →
    IsCircuitOfText f bytes c → found ≡ TooMany → IfNone found (w.only ≡ true) →
    IfTooMany found (MayHaveTooMany (members s.basis) (cleanup c.net)) → IsTooLarge f s w bytes
too_large f s w bytes c found of_text is wish large = record {
  wish = subst (λ (x : Based). IfNone x (w.only ≡ true)) is wish;
  circuit = c;
  of_text = of_text;
  large = subst (λ (x : Based). IfTooMany x (MayHaveTooMany (members s.basis) (cleanup c.net))) is large;
}

pub ruleset texts = (common_steps, text_proper, base_proper, bench_can, aiger_can, cannot_express, too_large)
