-- Files in memory: what is opened, what is kept, and calls that fail.
use Rattle.std.specs.Prelude.{◌≡◌, ◌≢◌, ℕ, List, [], ◌∷◌, Bool, true, false, Option, None, Some, if◌then◌else◌, insert, refl}
use Rattle.std.proofs.Common.{sym, ◌∙◌, ap, subst}
use Rattle.std.specs.Prelude.{bytes_eq}
use Rattle.std.proofs.lemmas.Grind.{common_steps}
use Rattle.std.proofs.lemmas.Slice.Eq.{bytes_eq-Decides}
use Rattle.port_io.specs.Faults.{Rose}
use Rattle.file_io.specs.declared.calls.Call.{Call}
use Rattle.file_io.specs.declared.calls.Call.TheVariants.{Open, Create, Keep}
use Rattle.file_io.specs.Names.{Names, File, Shows, Begun}
use Rattle.file_io.specs.Files.{Fails, IsReplaced}
use Rattle.file_io.specs.ServedLaws.{still}
use Rattle.frame_tests.specs.declared.files.MemoryFile.{MemoryFile}
use Rattle.frame_tests.specs.Held.{found, names_of, holding, faults_of, IsGiven}

-- ---- what names hold

pub shown : (files : List MemoryFile) (name bytes left : List ℕ) → Some bytes ≡ found files name → left ≡ bytes →
    Shows (names_of files name) (Some left)
shown files name bytes left is same =
    subst (λ o. Shows (holding o) (Some left)) is (ap (λ (b : List ℕ). Some b) same)

new_draft : (o : Option (List ℕ)) → Begun (holding o) (Some [])
new_draft None = refl
new_draft (Some bytes) = refl

pub begun : (files : List MemoryFile) (name : List ℕ) → Begun (names_of files name) (Some [])
begun files name = new_draft (found files name)

at_first : (file : MemoryFile) (files : List MemoryFile) → insert files 0 file ≡ file ∷ files
at_first file [] = refl
at_first file (f ∷ fs) = refl

pub given : (answer ok : Bool) (file : MemoryFile) (old new : List MemoryFile) (name bytes : List ℕ) → answer ≡ ok →
    new ≡ (if ok then insert old 0 file else old) → file.name.items ≡ name → file.bytes.items ≡ bytes → answer ≡ true →
    IsGiven name bytes old new
given answer true file old new name bytes same are name_is bytes_are is = record {
  file = file;
  are = are ∙ at_first file old;
  name_is = name_is;
  bytes_are = bytes_are;
}
given answer false file old new name bytes same are name_is bytes_are is = absurd cc

differs : (x y : List ℕ) (t : Bool) → y ≢ x → bytes_eq x y ≡ t → t ≡ false
differs x y true not is = absurd (not (sym ((bytes_eq-Decides x y).0 is)))
differs x y false not is = refl

given_here : (file : MemoryFile) (files : List MemoryFile) (name bytes : List ℕ) → file.name.items ≡ name →
    file.bytes.items ≡ bytes → names_of (file ∷ files) name ≡ File bytes
given_here file files name bytes is are =
    ap (λ (t : Bool). holding (if t then Some file.bytes.items else found files name))
    ((bytes_eq-Decides file.name.items name).1 is) ∙ ap (λ (b : List ℕ). File b) are

given_other : (file : MemoryFile) (files : List MemoryFile) (name other : List ℕ) → file.name.items ≡ name →
    other ≢ name → names_of (file ∷ files) other ≡ names_of files other
given_other file files name other is not =
    ap (λ (t : Bool). holding (if t then Some file.bytes.items else found files other))
    (differs file.name.items other (bytes_eq file.name.items other) (λ same. not (same ∙ is)) refl)

pub replaced : (old new : List MemoryFile) (name bytes : List ℕ) (a b c : ℕ) → IsGiven name bytes old new →
    IsReplaced name (Some bytes) (record { holds = names_of old; faults = faults_of a b c })
    (record { holds = names_of new; faults = faults_of a b c })
replaced old new name bytes a b c given = record {
  here = ap (λ (fs : List MemoryFile). names_of fs name) given.are ∙
      given_here given.file old name bytes given.name_is given.bytes_are;
  others = λ other not. ap (λ (fs : List MemoryFile). names_of fs other) given.are ∙
      given_other given.file old name other given.name_is not;
  faultless = λ call. refl;
}

-- ---- calls that fail

others_open : (a a' b c : ℕ) (other : Call) → other ≢ Open → faults_of a' b c other ≡ faults_of a b c other
others_open a a' b c Open not = absurd (not refl)
others_open a a' b c Create not = refl
others_open a a' b c Keep not = refl

others_create : (a b b' c : ℕ) (other : Call) → other ≢ Create → faults_of a b' c other ≡ faults_of a b c other
others_create a b b' c Open not = refl
others_create a b b' c Create not = absurd (not refl)
others_create a b b' c Keep not = refl

others_keep : (a b c c' : ℕ) (other : Call) → other ≢ Keep → faults_of a b c' other ≡ faults_of a b c other
others_keep a b c c' Open not = refl
others_keep a b c c' Create not = refl
others_keep a b c c' Keep not = absurd (not refl)

pub not_opened : (holds : Names) (a a' b c : ℕ) → Rose a a' →
    Fails Open (record { holds = holds; faults = faults_of a b c }) (record { holds = holds; faults = faults_of a' b c })
not_opened holds a a' b c rose = record { same = λ name. refl; rose = rose; others = others_open a a' b c }

pub not_created : (holds : Names) (a b b' c : ℕ) → Rose b b' →
    Fails Create (record { holds = holds; faults = faults_of a b c }) (record { holds = holds; faults = faults_of a b' c })
not_created holds a b b' c rose = record { same = λ name. refl; rose = rose; others = others_create a b b' c }

pub not_kept : (old new : List MemoryFile) (a b c c' : ℕ) → new ≡ old → Rose c c' →
    Fails Keep (record { holds = names_of old; faults = faults_of a b c })
    (record { holds = names_of new; faults = faults_of a b c' })
not_kept old new a b c c' same rose = record {
  same = λ name. ap (λ (fs : List MemoryFile). names_of fs name) same;
  rose = rose;
  others = others_keep a b c c';
}

pub ruleset holding_rules = (common_steps, still, shown, begun, replaced, not_opened, not_created, not_kept)
