-- The names of a circuit's gates in the written text.
use Rattle.std.specs.Prelude.{ℕ, ◌+◌, ◌-◌, Bool, false, not, ◌==◌, if◌then◌else◌, nat_le, List, [], ◌∷◌, ◌++◌, length}
use Rattle.std.specs.Prelude.{map, filter, slice_index_or, Option, Some, None, decimal}
use Rattle.std.specs.List.{filter_map, range_with_len}
use Rattle.std.specs.Option.{option_map}
use Rattle.net_theory.specs.declared.data.Sig.{Sig}
use Rattle.net_theory.specs.declared.data.Sig.TheVariants.{Zero, One, Node}
use Rattle.net_theory.specs.declared.data.Gate.{Gate}
use Rattle.net_theory.specs.declared.data.Trigger.{Trigger}
use Rattle.net_theory.specs.Document.{Name, has, Latch, latch_output}
use Rattle.net_theory.specs.Net.{Net}
use Rattle.net_theory.specs.Circuit.{Circuit, sources_of}

abbrev pub second_of : Trigger × Name → Name
second_of c = c.1

abbrev pub control_of : Latch → Option Name
control_of l = option_map second_of l.control

-- the names that numbered names must avoid: inputs, outputs, latches' outputs, clocks and controls
abbrev pub taken_names : Circuit → List Name
taken_names c = c.inputs ++ c.outputs ++ map latch_output c.latches ++ c.clocks ++ filter_map control_of c.latches

-- `seen` with the names of a list appended, each once
unfoldable pub each_once : List Name → List Name → List Name
each_once seen [] = seen
each_once seen (n ∷ ns) = each_once (if has seen n then seen else seen ++ n ∷ []) ns

abbrev pub taken_set : Circuit → List Name
taken_set c = each_once [] (taken_names c)

-- `g1`, `g2` and so on
abbrev pub numbered : ℕ → Name
numbered k = 103 ∷ decimal k

-- those of the `count` numbered names from number `from` on that aren't taken
unfoldable pub free_names : List Name → ℕ → ℕ → List Name
free_names taken from count = filter (λ n. not (has taken n)) (map numbered (range_with_len from count))

abbrev pub is_at : Sig → ℕ → Bool
is_at Zero p = false
is_at One p = false
is_at (Node q) p = q == p

-- the first output that is the signal of the node p
unfoldable pub output_on : List Name → List Sig → ℕ → Option Name
output_on [] sinks p = None
output_on (o ∷ os) [] p = None
output_on (o ∷ os) (s ∷ sinks) p = if is_at s p then Some o else output_on os sinks p

-- the names given so far, and the free names not yet used
pub record Naming : Type 0 where
  pub names : List Name
  pub free : List Name

abbrev pub first_free : List Name → Name
first_free [] = []
first_free (n ∷ ns) = n

abbrev pub rest_free : List Name → List Name
rest_free [] = []
rest_free (n ∷ ns) = ns

-- A gate that drives outputs gets the name of the first of them, and any other gate the next free name.
abbrev pub named : Naming → Option Name → Naming
named n (Some o) = record { names = n.names ++ o ∷ []; free = n.free }
named n None = record { names = n.names ++ first_free n.free ∷ []; free = rest_free n.free }

-- names the gates from the node `node` on; `output_at` gives the first output that a node drives
unfoldable pub names_after : (ℕ → Option Name) → Naming → ℕ → List Gate → Naming
names_after output_at n node [] = n
names_after output_at n node (g ∷ gs) = names_after output_at (named n (output_at node)) (node + 1) gs

-- so many numbered names that enough of them are free for all gates and two constants
abbrev pub enough : List Name → Net → ℕ
enough taken n = length n.gates + 2 + length taken

-- the names of the gates of n; they avoid the names `taken`, and `outputs` are the names of the first sinks
unfoldable pub names_in : List Name → List Name → Net → Naming
names_in taken outputs n = names_after (output_on outputs n.sinks)
    (record { names = []; free = free_names taken 1 (enough taken n) }) (n.sources + 1) n.gates

abbrev pub all_named : Circuit → Naming
all_named c = names_in (taken_set c) c.outputs c.net

-- the names of the gates in order
-- Example: of three gates the second is the outputs y and y2; the names are g1, y and g2.
abbrev pub gate_names : Circuit → List Name
gate_names c = (all_named c).names

-- the next two free names, for the constants
abbrev pub first_spare : Circuit → Name
first_spare c = first_free (all_named c).free

abbrev pub second_spare : Circuit → Name
second_spare c = first_free (rest_free (all_named c).free)

-- the name of a node
unfoldable pub node_name : Circuit → ℕ → Name
node_name c p = if nat_le p c.net.sources then slice_index_or (sources_of c) (p - 1) []
    else slice_index_or (gate_names c) (p - c.net.sources - 1) []
