use Rattle.std.proofs.Common.{◌≡◌, ◌-◌, ◌≤◌, ℕ, List, length, subst}
use Rattle.std.specs.Prelude.{slice_index_or}
use Rattle.window_core.specs.RisingLaws.{put_found, put_code}
use Rattle.window_core.proofs.ascending.put.Goals as goal

pub returns-then-is_last : goal.returns-then-is_last
returns-then-is_last c =
    let last = c.is_last.ensures.yes c.if-is_last.true in
    put_found c.args.node c.rank-count.result c.args.nodes.now.items c.requires (subst (λ (xs : List ℕ). c.rank-count.result ≤ length xs) c.deref.ensures.value c.rank-count.ensures.within) last.0
    (subst (λ (xs : List ℕ). slice_index_or xs (c.rank-count.result - 1) 0 ≡ c.args.node) c.deref-2.ensures.value last.1)

pub returns : goal.returns
returns c =
    put_code c.args.node c.rank-count.result c.args.nodes.now.items c.deref.result.now c.deref-2.result.now c.insert.new.self.items c.requires c.deref.ensures.value c.deref-2.ensures.value
    c.rank-count.ensures.within c.rank-count.ensures.above c.rank-count.ensures.below (c.is_last.ensures.no c.if-is_last.false) c.in_ok-insert.ensures.items
