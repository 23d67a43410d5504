-- The line of a call on a file that failed, and the status that goes with it.
use Rattle.std.specs.Prelude.{◌==◌, nat_lt, ℕ, List, ◌∷◌, [], ◌++◌, map, codes, if◌then◌else◌}
use Rattle.frame_core.specs.declared.status.Status.{Status}
use Rattle.frame_core.specs.declared.status.Status.TheVariants as statuses
use Rattle.frame_core.specs.Reported.{joined}
use Rattle.file_io.specs.declared.calls.Call.{Call}
use Rattle.file_io.specs.declared.calls.Call.TheVariants.{Open}

abbrev pub fault_word : Call → List ℕ
fault_word Open = codes "error: ReadFault "
fault_word call = codes "error: WriteFault "

abbrev pub fault_status : Call → Status
fault_status Open = statuses.ReadFault
fault_status call = statuses.WriteFault

-- A byte of a name: `\n` for LF, `\\` for a backslash, and `?` for any other control character.
unfoldable pub escaped_byte : ℕ → List ℕ
escaped_byte b =
    if b == 10 then codes "\\n"
    else if b == 92 then codes "\\\\"
    else if nat_lt b 32 then codes "?"
    else b ∷ []

-- A name on one line.
abbrev pub escaped : List ℕ → List ℕ
escaped name = joined (map escaped_byte name)

unfoldable pub told_line : List ℕ → List ℕ → List ℕ → List ℕ
told_line what name reason = what ++ (escaped name ++ (codes ": " ++ (reason ++ codes "\n")))

-- Example: `error: ReadFault a.blif: No such file or directory`
abbrev pub fault_line : Call → List ℕ → List ℕ → List ℕ
fault_line call name reason = told_line (fault_word call) name reason
