-- The text of the report.
use Rattle.std.specs.Prelude.{ℕ, ◌+◌, ◌-◌, Bool, true, false, List, [], ◌∷◌, ◌++◌, slice_get, Option, None, Some, codes}
use Rattle.std.specs.Prelude.{decimal}
use Rattle.std.specs.List.{flat_map}
use Rattle.net_theory.specs.Document.{Name}
use Rattle.cert_theory.specs.Spelling.{cert_text}
use Rattle.improve_theory.specs.Undecided.{Undecided}

abbrev pub or_nothing : Option Name → Name
or_nothing None = []
or_nothing (Some name) = name

-- The name of a gate, by the names of a net's gates and the number of its sources.
unfoldable pub name_at : List Name → ℕ → ℕ → Name
name_at names sources node = or_nothing (slice_get names (node - (sources + 1)))

-- a blank and the partner's name, if there is a partner
unfoldable pub partner_text : List Name → ℕ → Option ℕ → List ℕ
partner_text names sources None = []
partner_text names sources (Some partner) = 32 ∷ name_at names sources partner

-- The line of a window that stayed undecided, and then the certificate of its search.
-- Example: `undecided y 4`, or `undecided y g1 4` where the gate g1 is its partner.
unfoldable pub window_text : List Name → ℕ → Undecided → List ℕ
window_text names sources u =
    codes "undecided " ++ name_at names sources u.candidate.root ++ partner_text names sources u.candidate.partner ++
    codes " " ++ decimal u.candidate.count ++ codes "\n" ++ cert_text u.search

unfoldable pub last_line : Bool → List ℕ
last_line true = codes "settled\n"
last_line false = codes "stopped\n"

-- the cost of the netlist before and after
unfoldable pub first_line : ℕ → ℕ → List ℕ
first_line before after = codes "gates " ++ decimal before ++ codes " -> " ++ decimal after ++ codes "\n"

-- Example: `gates 3 -> 1` and `settled`.
abbrev pub report_text : List Name → ℕ → ℕ → ℕ → Bool → List Undecided → List ℕ
report_text names sources before after settled undecided =
    first_line before after ++ flat_map (window_text names sources) undecided ++ last_line settled
