-- What was written over a basis has no gate that the basis can't express, when it is read again.
use Rattle.std.specs.Prelude.{◌≡◌, ℕ, Bool, true, List, Result, Ok}
use Rattle.std.proofs.Common.{sym, ◌∙◌, subst}
use Rattle.op_basis.specs.Basis.{members}
use Rattle.net_theory.specs.Dangling.{cleanup}
use Rattle.net_theory.specs.DanglingLaws.{cleanup_is}
use Rattle.net_theory.specs.Document.{Name}
use Rattle.net_theory.specs.Implements.{IsCleanedUp}
use Rattle.net_core.specs.declared.error.NetError.{NetError}
use Rattle.net_document.specs.Format.{Format}
use Rattle.net_document.specs.Listed.{Listed}
use Rattle.settings.specs.declared.improve.ImproveSettings.{ImproveSettings}
use Rattle.wish_names.specs.declared.wishes.Wishes.{Wishes}
use Rattle.net_basis.specs.DocumentOver.{IsDocumentOver}
use Rattle.basis_laws.specs.AgainLaws.{document_expressed}
use Rattle.improve_wishes.specs.Wished.{IsOverIf, IsWished, IsCannotExpress}

listed_same : (r : Result Listed NetError) (a b : Listed) → r ≡ Ok a → r ≡ Ok b → a ≡ b
listed_same r a b e f = ok_same a b (sym e ∙ f)
  where
    ok_same : (x y : Listed) → ◌≡◌ {A = Result Listed NetError} (Ok x) (Ok y) → x ≡ y
    ok_same x y g = cc

pub again_expressed : (f : Format) (s : ImproveSettings) (w later : Wishes) (bytes text report : List ℕ) (name : Name) →
    w.only ≡ true → IsWished f s w bytes text report → IsCannotExpress f s later text name → ⊥
again_expressed f s w later bytes text report name wish is cannot =
    let of_text = cannot.of_text in
    let same : is.again ≡ of_text.listed = listed_same (f.listed text) is.again of_text.listed is.said_again of_text.said in
    let over : IsDocumentOver (members s.basis) of_text.listed.document =
    subst (λ (l : Listed). IsDocumentOver (members s.basis) l.document) same
    (subst (λ (only : Bool). IsOverIf only s is.again.document) wish is.over) in
    let left : IsCleanedUp cannot.circuit.net (cleanup cannot.circuit.net) =
    cleanup_is cannot.circuit.net of_text.circuit.proper.net in
    document_expressed (members s.basis) of_text.listed.document cannot.circuit.net cannot.gate.node over
    of_text.circuit.net left.implements.net cannot.gate.inexpressible
