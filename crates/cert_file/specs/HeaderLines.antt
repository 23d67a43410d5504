-- The header of a certificate, by its lines alone.
use Rattle.std.specs.Prelude.{ℕ, List, [], ◌∷◌, Option, None, Result, Ok, Err, option_and_then}
use Rattle.std.specs.Option.{option_map}
use Rattle.text_core.specs.Lines.{Line}
use Rattle.tt_core.specs.Words.{Words}
use Rattle.tt_core.specs.Tables as tables
use Rattle.tt_core.specs.declared.error.SpecError.{SpecError}
use Rattle.settings.specs.declared.methods.Method.{Method}
use Rattle.cert_theory.specs.declared.data.Header.{Header}
use Rattle.cert_theory.specs.Judging.{basis_in, method_in, conflicts_in, max_in}

-- the header by the line of the greatest size, where all lines before have been read
unfoldable pub with_max : Words → ℕ → Method → ℕ → List Line → Option Header
with_max w basis method conflicts [] = None
with_max w basis method conflicts (l ∷ ls) = option_map (λ max. record { spec = w; basis = basis; method = method; conflicts = conflicts; max = max }) (max_in l)

unfoldable pub with_conflicts : Words → ℕ → Method → List Line → Option Header
with_conflicts w basis method [] = None
with_conflicts w basis method (l ∷ ls) = option_and_then (λ conflicts. with_max w basis method conflicts ls) (conflicts_in l)

unfoldable pub with_method : Words → ℕ → List Line → Option Header
with_method w basis [] = None
with_method w basis (l ∷ ls) = option_and_then (λ method. with_conflicts w basis method ls) (method_in l)

unfoldable pub with_basis : Words → List Line → Option Header
with_basis w [] = None
with_basis w (l ∷ ls) = option_and_then (λ basis. with_method w basis ls) (basis_in l)

unfoldable pub header_by : Result tables.Read SpecError → Option Header
header_by (Ok read) = with_basis read.words read.rest
header_by (Err e) = None

-- The header of a certificate's lines: the tables follow the first line, and then come the basis, the method,
-- the conflict limit and the greatest size.
unfoldable pub header_in : List Line → Option Header
header_in [] = None
header_in (l ∷ ls) = header_by (tables.tables_of ls)
