-- What contracts see of a draft.
use Rattle.std.specs.Prelude.{ℕ}
use Rattle.port_io.specs.Ports.{output_faults}
use Rattle.system_files.specs.declared.files.SystemDraft.{SystemDraft}

-- how many writes to it have failed
abbrev pub draft_faults : {T : Type 0} → SystemDraft T → ℕ
draft_faults draft = output_faults draft.port
