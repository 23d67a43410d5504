use Rattle.std.proofs.Common.{◌≡◌, List, []}
use Rattle.std.specs.Prelude.{None, codes, false}
use Rattle.net_theory.specs.Document.{Name, Table, LatchLine}
use Rattle.blif_text.specs.Statements.{Control, Said, nothing}
use Rattle.blif_text.proofs.reading.Reading.new.Goals as goal

nothing_said : (model : Name) (inputs outputs clocks driven used : List Name) (latches : List LatchLine)
    (tables : List Table) (controls : List Control) → model ≡ codes "top" → inputs ≡ [] → outputs ≡ [] → clocks ≡ [] →
    driven ≡ [] → used ≡ [] → latches ≡ [] → tables ≡ [] → controls ≡ []
    → ◌≡◌ {A = Said} (record {
      model = model;
      inputs = inputs;
      outputs = outputs;
      clocks = clocks;
      latches = latches;
      tables = tables;
      current = None;
      driven = driven;
      used = used;
      controls = controls;
      has_model = false;
      is_begun =
          false;
      is_ended = false;
    }) nothing
nothing_said model inputs outputs clocks driven used latches tables controls m i o c d u l t s =
    λ k. record {
      model = m k;
      inputs = i k;
      outputs = o k;
      clocks = c k;
      latches = l k;
      tables = t k;
      current = None;
      driven = d k;
      used = u k;
      controls = s k;
      has_model = false;
      is_begun = false;
      is_ended = false;
    }

pub returns : goal.returns
returns c =
    nothing_said c.in_ok-of.field-0 c.new.result.items c.new-2.result.items c.new-3.result.items c.new-6.result.items
    c.new-7.result.items c.new-4.result.items c.new-5.result.items c.new-8.result.items
    c.in_ok-of.ensures c.new.ensures.items c.new-2.ensures.items c.new-3.ensures.items c.new-6.ensures.items c.new-7.ensures.items c.new-4.ensures.items c.new-5.ensures.items c.new-8.ensures.items
