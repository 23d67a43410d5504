-- A BLIF text lists no more names than it has bytes.
use Rattle.std.specs.Prelude.{◌≡◌, ℕ, ◌≤◌, List, length, map, Option, Some, None, Result, Ok, Err}
use Rattle.std.proofs.Common.{arith, refl, subst}
use Rattle.net_theory.specs.Limits.{most_of_two}
use Rattle.net_theory.specs.Document.{table_output}
use Rattle.net_core.specs.declared.error.NetError.{NetError}
use Rattle.net_document.specs.Listed.{Listed}
use Rattle.blif_text.specs.Reading.{◌>>=◌}
use Rattle.blif_text.specs.Statements.{Said, said_of, control_fault, unless, listed_by, listed_of}
use Rattle.blif_text.specs.ListingLaws.{IsSaidBy, text_small, text_named}
use Rattle.net_formats.specs.Few.{IsFew}

unless_ok : (f : Option NetError) (k l : Listed) → unless f k ≡ Ok l → k ≡ l
unless_ok None k l e = cc
unless_ok (Some f) k l e = absurd cc

content_parts : (bytes : List ℕ) (l : Listed) (r : Result Said NetError) → said_of bytes ≡ r →
    (r >>= λ s. unless (control_fault (map table_output s.tables) s.controls) (listed_by s)) ≡ Ok l → IsSaidBy bytes l
content_parts bytes l (Ok s) e f = record { state = s; said = e; same = unless_ok (control_fault (map table_output s.tables) s.controls) (listed_by s) l f }
content_parts bytes l (Err x) e f = absurd cc

content_by : (bytes : List ℕ) (l : Listed) → listed_of bytes ≡ Ok l → IsSaidBy bytes l
unfolding listed_of
content_by bytes l e = content_parts bytes l (said_of bytes) refl e

said_few : (bytes : List ℕ) (s : Said) → said_of bytes ≡ Ok s → length bytes ≤ most_of_two → IsFew (listed_by s).document
said_few bytes s said short = record {
  sources = omega (arith, text_small bytes s said, short);
  outputs = omega (arith, text_named bytes s said, short);
}

pub blif_few : (bytes : List ℕ) (l : Listed) → listed_of bytes ≡ Ok l → length bytes ≤ most_of_two → IsFew l.document
blif_few bytes l e short =
    let s = content_by bytes l e in
    subst (λ (x : Listed). IsFew x.document) s.same (said_few bytes s.state s.said short)
