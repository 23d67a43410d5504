-- The net of a document (its elaboration): the gates of its tables, in topological order.
use Rattle.std.specs.Prelude.{ℕ, ◌+◌, if◌then◌else◌, List, [], ◌∷◌, length, map, Option, Some, None, unwrap_or}
use Rattle.std.specs.Prelude.{slice_get}
use Rattle.std.specs.List.{filter_map}
use Rattle.std.specs.Option.{option_map}
use Rattle.net_theory.specs.declared.data.Sig.{Sig}
use Rattle.net_theory.specs.declared.data.Sig.TheVariants.{Zero, Node}
use Rattle.net_theory.specs.declared.data.Gate.{Gate}
use Rattle.net_theory.specs.Net.{Net}
use Rattle.net_theory.specs.Document.{Name, is_same, Table, Document, source_names, sink_names}
use Rattle.net_theory.specs.Cost.{merged_table}
use Rattle.net_theory.specs.Expansion.{Built, expanded}
use Rattle.graph_core.specs.Visit.{Graph, order_of}

-- ---- fanins of tables

-- the index of the first table that drives a name; the first table of the list has index `number`
unfoldable pub driver_from : ℕ → List Table → Name → Option ℕ
driver_from number [] name = None
driver_from number (t ∷ ts) name = if is_same t.output name then Some number else driver_from (number + 1) ts name

abbrev pub driver_of : List Table → Name → Option ℕ
driver_of tables name = driver_from 0 tables name

-- for each table its fanins: the tables that drive its inputs, in order
unfoldable pub graph_of : List Table → Graph
graph_of tables = map (λ t. filter_map (driver_of tables) t.inputs) tables

-- ---- signals of names

abbrev pub Signals : Type 0
Signals = Name → Option Sig

abbrev pub with_signal : Signals → Name → Sig → Signals
with_signal signals name sig n = if is_same name n then Some sig else signals n

-- the sources are the nodes 1, 2 and so on
unfoldable pub with_sources : Signals → ℕ → List Name → Signals
with_sources signals node [] = signals
with_sources signals node (n ∷ ns) = with_sources (with_signal signals n (Node node)) (node + 1) ns

abbrev pub signal_of : Signals → Name → Sig
signal_of signals name = unwrap_or (signals name) Zero

-- ---- the net

-- the gates so far, and the map from names to signals
pub record Growth : Type 0 where
  pub gates : List Gate
  pub signals : Signals

abbrev pub table_built : ℕ → Growth → Table → Built
table_built sources g t = expanded sources g.gates t.cover (map (signal_of g.signals) t.inputs)

abbrev pub grown_by : Growth → Name → Built → Growth
grown_by g output b = record { gates = b.gates; signals = with_signal g.signals output b.sig }

-- adds the gates of a table
unfoldable pub with_table : ℕ → Growth → Table → Growth
with_table sources g t = grown_by g t.output (table_built sources g (merged_table t))

abbrev pub with_table_at : ℕ → Growth → Option Table → Growth
with_table_at sources g None = g
with_table_at sources g (Some t) = with_table sources g t

-- adds the gates of the tables with the given indices, in order
unfoldable pub with_tables : ℕ → List Table → Growth → List ℕ → Growth
with_tables sources tables g [] = g
with_tables sources tables g (t ∷ order) = with_tables sources tables
    (with_table_at sources g (slice_get tables t)) order

-- the state before the first table
abbrev pub sources_only : Document → Growth
sources_only d = record { gates = []; signals = with_sources (λ n. None) 1 (source_names d) }

abbrev pub source_count : Document → ℕ
source_count d = length (source_names d)

unfoldable pub net_in_order : Document → List ℕ → Net
net_in_order d order =
    let g = with_tables (source_count d) d.tables (sources_only d) order in
    record { sources = source_count d; gates = g.gates; sinks = map (signal_of g.signals) (sink_names d) }

-- The net of a document; None if some table depends on itself.
-- Example: `.inputs a b`, `.outputs y` and `.names a b y` with `10 1` and `01 1` give the net of one XOR
-- gate on the nodes 1 and 2, whose sink is the node 3.
unfoldable pub net_of : Document → Option Net
net_of d = option_map (net_in_order d) (order_of (graph_of d.tables))
