-- The task of `improve` for AIGER.
use Rattle.std.specs.Prelude.{◌≡◌, ℕ, ◌≤◌, List, length, Bool, true, false}
use Rattle.net_theory.specs.Limits.{most_of_netlist}
use Rattle.net_core.specs.declared.error.NetError.{NetError}
use Rattle.net_document.specs.Format.{HasNetFault}
use Rattle.aiger_binary.specs.Ascii.{is_binary}
use Rattle.aiger_sections.specs.Plain.{plain_in, sections_in}
use Rattle.aiger_forms.specs.Forms.{aiger_forms}
use Rattle.command_line.specs.Options.{is_within}
use Rattle.settings.specs.declared.improve.ImproveSettings.{ImproveSettings}
use Rattle.equiv_run.specs.Two.{is_bare}
use Rattle.improve_windows.specs.Improving.{IsReported}
use Rattle.improve_aiger.specs.AigerLaws.{and_set}
use Rattle.frame_core.specs.Task.{Task, at_once}
use Rattle.cmd_improve.specs.ImproveReport.{Improvement, improve_reply}
use Rattle.cmd_improve.specs.NamedReport.{NamedFault, Empty, Faulty, IsEmpty, named_refusal}

-- The basis has only operators of gates that AIGER can express: neither XOR nor its complement.
abbrev pub has_and_gates : ℕ → Bool
has_and_gates basis = is_within basis and_set

abbrev pub HasAndGates : ℕ → Type 0
HasAndGates basis = has_and_gates basis ≡ true

-- The text isn't empty, and is an AIGER file. The plain text of the answer is that of an equivalent one with no more gates,
-- within the settings, and the report is that of `improve`. The answer has as many outputs, bad states and constraints, and
-- an ASCII file is answered by an ASCII file.
pub record IsAigerImprovement (settings : ImproveSettings) (bytes : List ℕ) (i : Improvement) : Type 0 where
  pub within : length bytes ≤ most_of_netlist
  pub said : is_bare bytes ≡ false
  pub reported : IsReported aiger_forms settings bytes (plain_in i.text) i.report
  pub sections : sections_in i.text ≡ sections_in bytes
  pub form : is_binary bytes ≡ false → is_binary i.text ≡ false

-- The text isn't an AIGER file, and this is its first fault.
pub record IsFaulty (bytes : List ℕ) (error : NetError) : Type 0 where
  pub within : length bytes ≤ most_of_netlist
  pub said : is_bare bytes ≡ false
  pub fault : HasNetFault aiger_forms bytes error

-- An empty text is reported before any other fault.
abbrev pub HasAigerFault : List ℕ → NamedFault → Type 0
HasAigerFault bytes Empty = IsEmpty bytes
HasAigerFault bytes (Faulty error) = IsFaulty bytes error

-- Examples of refusals: `Empty`, `Syntax 3`
abbrev pub aiger_task : ImproveSettings → Task
aiger_task settings = at_once most_of_netlist Improvement (IsAigerImprovement settings) improve_reply NamedFault HasAigerFault named_refusal
