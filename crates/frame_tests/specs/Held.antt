-- What files in memory hold, and how many calls on them have failed.
use Rattle.std.specs.Prelude.{◌≡◌, ℕ, List, [], ◌∷◌, Option, None, Some, if◌then◌else◌}
use Rattle.std.specs.Prelude.{bytes_eq}
use Rattle.file_io.specs.declared.calls.Call.TheVariants.{Open, Create, Keep}
use Rattle.file_io.specs.Names.{Holding, Absent, File, Names}
use Rattle.file_io.specs.Files.{Faults}
use Rattle.frame_tests.specs.declared.files.MemoryFile.{MemoryFile}
use Rattle.frame_tests.specs.declared.files.MemoryFiles.{MemoryFiles}

-- the bytes of the first file with this name
abbrev pub found : List MemoryFile → List ℕ → Option (List ℕ)
found [] name = None
found (file ∷ files) name = if bytes_eq file.name.items name then Some file.bytes.items else found files name

abbrev pub holding : Option (List ℕ) → Holding
holding None = Absent
holding (Some bytes) = File bytes

abbrev pub names_of : List MemoryFile → Names
names_of files name = holding (found files name)

abbrev pub faults_of : ℕ → ℕ → ℕ → Faults
faults_of unopened uncreated unkept Open = unopened
faults_of unopened uncreated unkept Create = uncreated
faults_of unopened uncreated unkept Keep = unkept

abbrev pub files_faults : MemoryFiles → Faults
files_faults files = faults_of files.unopened files.uncreated files.unkept

-- Bytes got a name: a file with both stands before the others.
pub record IsGiven (name bytes : List ℕ) (old new : List MemoryFile) : Type 0 where
  pub file : MemoryFile
  pub are : new ≡ file ∷ old
  pub name_is : file.name.items ≡ name
  pub bytes_are : file.bytes.items ≡ bytes
