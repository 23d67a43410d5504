-- A call that fails raises the count of its kind, and no other.
use Rattle.std.specs.Prelude.{◌≡◌, ◌≢◌, ℕ, refl}
use Rattle.std.proofs.lemmas.Grind.{common_steps}
use Rattle.port_io.specs.Faults.{Rose}
use Rattle.file_io.specs.declared.calls.Call.{Call}
use Rattle.file_io.specs.declared.calls.Call.TheVariants.{Open, Create, Keep}
use Rattle.file_io.specs.Names.{Names}
use Rattle.file_io.specs.Files.{Fails}
use Rattle.file_io.specs.ServedLaws.{still}
use Rattle.system_files.specs.Counts.{faults_of}

others_open : (a a' b c : ℕ) (other : Call) → other ≢ Open → faults_of a' b c other ≡ faults_of a b c other
others_open a a' b c Open not = absurd (not refl)
others_open a a' b c Create not = refl
others_open a a' b c Keep not = refl

others_create : (a b b' c : ℕ) (other : Call) → other ≢ Create → faults_of a b' c other ≡ faults_of a b c other
others_create a b b' c Open not = refl
others_create a b b' c Create not = absurd (not refl)
others_create a b b' c Keep not = refl

others_keep : (a b c c' : ℕ) (other : Call) → other ≢ Keep → faults_of a b c' other ≡ faults_of a b c other
others_keep a b c c' Open not = refl
others_keep a b c c' Create not = refl
others_keep a b c c' Keep not = absurd (not refl)

pub not_opened : (holds : Names) (a a' b c : ℕ) → Rose a a' →
    Fails Open (record { holds = holds; faults = faults_of a b c }) (record { holds = holds; faults = faults_of a' b c })
not_opened holds a a' b c rose = record { same = λ name. refl; rose = rose; others = others_open a a' b c }

pub not_created : (holds : Names) (a b b' c : ℕ) → Rose b b' →
    Fails Create (record { holds = holds; faults = faults_of a b c }) (record { holds = holds; faults = faults_of a b' c })
not_created holds a b b' c rose = record { same = λ name. refl; rose = rose; others = others_create a b b' c }

pub not_kept : (holds : Names) (a b c c' : ℕ) → Rose c c' →
    Fails Keep (record { holds = holds; faults = faults_of a b c }) (record { holds = holds; faults = faults_of a b c' })
not_kept holds a b c c' rose = record { same = λ name. refl; rose = rose; others = others_keep a b c c' }

pub ruleset failures = (common_steps, still, not_opened, not_created, not_kept)
