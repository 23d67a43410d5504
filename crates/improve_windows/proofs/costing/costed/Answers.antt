use Rattle.improve_windows.specs.CostLaws.{written_tables, written_small}
use Rattle.improve_windows.proofs.costing.costed.Goals as goal

pub document_cost-requires-clause-tables : goal.document_cost-requires-clause-tables
document_cost-requires-clause-tables c = written_tables c.args.circuit.now c.in_ok-document.document
    c.blif_is_a_format.ensures c.in_ok-document.ensures.written c.requires c.in_ok-document.ensures.room

pub document_cost-requires-clause-small : goal.document_cost-requires-clause-small
document_cost-requires-clause-small c = written_small c.args.circuit.now c.in_ok-document.document c.blif_is_a_format.ensures c.in_ok-document.ensures.written c.requires c.in_ok-document.ensures.room
