-- The ASCII text of a file.
use Rattle.std.specs.Prelude.{ℕ, List, [], ◌∷◌, ◌++◌, decimal, codes}
use Rattle.std.specs.List.{flat_map}
use Rattle.aiger_text.specs.declared.file.Counts.{Counts}
use Rattle.aiger_text.specs.declared.file.Reset.{Reset}
use Rattle.aiger_text.specs.declared.file.Reset.TheVariants.{Zero, One, Undefined}
use Rattle.aiger_text.specs.declared.file.AigLatch.{AigLatch}
use Rattle.aiger_text.specs.declared.file.AigGate.{AigGate}
use Rattle.aiger_text.specs.declared.file.PortKind.{PortKind}
use Rattle.aiger_text.specs.declared.file.PortKind.TheVariants.{Input, Latch, Output}
use Rattle.aiger_text.specs.declared.file.Symbol.{Symbol}
use Rattle.aiger_text.specs.File.{AigFile}
use Rattle.aiger_text.specs.Valid.{counts_of}

-- a blank and a number
abbrev pub number_text : ℕ → List ℕ
number_text n = 32 ∷ decimal n

-- numbers with a blank between each two
abbrev pub numbers_text : List ℕ → List ℕ
numbers_text [] = []
numbers_text (n ∷ ns) = decimal n ++ flat_map number_text ns

-- a line of numbers
unfoldable pub numbers_line : List ℕ → List ℕ
numbers_line ns = numbers_text ns ++ 10 ∷ []

abbrev pub header_numbers : Counts → List ℕ
header_numbers c = c.variables ∷ c.inputs ∷ c.latches ∷ c.outputs ∷ c.gates ∷ []

abbrev pub literal_line : ℕ → List ℕ
literal_line lit = numbers_line (lit ∷ [])

-- a reset value of 0 is left out
abbrev pub latch_numbers : ℕ → ℕ → Reset → List ℕ
latch_numbers lit next Zero = lit ∷ next ∷ []
latch_numbers lit next One = lit ∷ next ∷ 1 ∷ []
latch_numbers lit next Undefined = lit ∷ next ∷ lit ∷ []

abbrev pub latch_text : AigLatch → List ℕ
latch_text l = numbers_line (latch_numbers l.literal l.next l.reset)

abbrev pub gate_text : AigGate → List ℕ
gate_text g = numbers_line (g.literal ∷ g.first ∷ g.second ∷ [])

abbrev pub kind_byte : PortKind → ℕ
kind_byte Input = 105
kind_byte Latch = 108
kind_byte Output = 111

-- Example: `i0 a[3]`.
unfoldable pub symbol_text : Symbol → List ℕ
symbol_text s = kind_byte s.kind ∷ decimal s.position ++ 32 ∷ s.name ++ 10 ∷ []

-- the header, inputs, latches, outputs, gates and symbols, each on a line of its own
unfoldable pub spelled : AigFile → List ℕ
spelled f = codes "aag " ++ numbers_line (header_numbers (counts_of f)) ++ flat_map literal_line f.inputs ++
    flat_map latch_text f.latches ++ flat_map literal_line f.outputs ++ flat_map gate_text f.gates ++
    flat_map symbol_text f.symbols
