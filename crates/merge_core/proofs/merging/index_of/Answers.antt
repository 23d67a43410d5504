-- The key is found, or it and its gate are appended.
use Rattle.merge_core.specs.ApartLaws.{keys_new, put_known, put_new}
use Rattle.merge_core.proofs.merging.index_of.Goals as goal

pub returns-then-not-is_new-clause-put : goal.returns-then-not-is_new-clause-put
returns-then-not-is_new-clause-put c =
    put_known c.args.keys.now.keys c.insert_full.new.self.keys c.args.gates.now.items c.args.gate.now c.in_ok-index.index c.key_of.result c.in_ok-index.ensures.stored.0 c.in_ok-index.is_new
    c.requires.keys c.key_of.ensures c.in_ok-index.ensures.keys c.in_ok-index.ensures.added c.if-not-is_new.true c.in_ok-index.ensures.stored.1 c.in_ok-index.ensures.stored.2

pub returns-clause-keys : goal.returns-clause-keys
returns-clause-keys c =
    keys_new c.args.keys.now.keys c.insert_full.new.self.keys c.args.gates.now.items c.push.new.self.items c.args.gate.now c.key_of.result c.in_ok-index.is_new
    c.requires.keys c.in_ok-push.ensures.items c.key_of.ensures c.in_ok-index.ensures.keys c.in_ok-index.ensures.added c.if-not-is_new.false

pub returns-clause-put : goal.returns-clause-put
returns-clause-put c =
    put_new c.args.keys.now.keys c.insert_full.new.self.keys c.args.gates.now.items c.push.new.self.items
    c.args.gate.now c.in_ok-index.index c.key_of.result c.in_ok-index.ensures.stored.0 c.in_ok-index.is_new
    c.requires.keys c.in_ok-push.ensures.items c.key_of.ensures c.in_ok-index.ensures.keys c.in_ok-index.ensures.added
    c.if-not-is_new.false c.in_ok-index.ensures.stored.1 c.in_ok-index.ensures.stored.2
