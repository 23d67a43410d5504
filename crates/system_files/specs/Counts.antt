-- How many calls on files have failed.
use Rattle.std.specs.Prelude.{ℕ}
use Rattle.file_io.specs.declared.calls.Call.TheVariants.{Open, Create, Keep}
use Rattle.file_io.specs.Files.{Faults}
use Rattle.system_files.specs.declared.files.SystemFiles.{SystemFiles}

abbrev pub faults_of : ℕ → ℕ → ℕ → Faults
faults_of unopened uncreated unkept Open = unopened
faults_of unopened uncreated unkept Create = uncreated
faults_of unopened uncreated unkept Keep = unkept

abbrev pub files_faults : {T : Type 0} → SystemFiles T → Faults
files_faults files = faults_of files.unopened files.uncreated files.unkept
