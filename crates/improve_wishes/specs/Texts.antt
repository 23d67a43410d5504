-- What becomes of a text by wishes.
use Rattle.std.specs.Prelude.{ℕ, List}
use Rattle.net_document.specs.Format.{Format}
use Rattle.settings.specs.declared.improve.ImproveSettings.{ImproveSettings}
use Rattle.wish_names.specs.declared.wishes.Wishes.{Wishes}
use Rattle.improve_wishes.specs.declared.texts.WishedText.{WishedText}
use Rattle.improve_wishes.specs.declared.texts.WishedText.TheVariants.{Text, Cannot, TooMany}
use Rattle.improve_wishes.specs.Wished.{IsWished, IsCannotExpress, IsTooLarge}

-- It is improved by the wishes; or the basis can't express a gate, or there would be too many gates over it.
abbrev pub IsWishedText : Format → ImproveSettings → Wishes → List ℕ → WishedText → Type 0
IsWishedText f s w bytes (Text i) = IsWished f s w bytes i.text.items i.report.items
IsWishedText f s w bytes (Cannot name) = IsCannotExpress f s w bytes name.items
IsWishedText f s w bytes TooMany = IsTooLarge f s w bytes
