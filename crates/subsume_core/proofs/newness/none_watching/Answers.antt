use Rattle.std.proofs.Common.{◌≡◌, ℕ, ℤ, Bool, true, false, slice_index_or, Contains, List, All, Some, arith}
use borrow.Author.Count.{below_more}
use Rattle.std.proofs.lemmas.List.Elements.{All-weaker, All-contains}
use Rattle.cdcl_theory.specs.Codes.{marked_in}
use Rattle.clause_db.specs.Watching.{list_of}
use Rattle.clause_db.specs.Stored.{live_in}
use Rattle.subsume_core.specs.Inside.{NotInside}
use Rattle.subsume_core.proofs.Subsuming.{not_inside_of, none_at}
use Rattle.subsume_core.proofs.newness.none_watching.Goals as goal

pub loop-index-preserved : goal.loop-index-preserved
loop-index-preserved c = λ lits marked.
    let list : List ℕ = list_of c.args.clauses.now.watches c.args.lit in
    let index : ℕ = c.loop-index.index in
    let id : ℕ = slice_index_or list index 0 in
    let block : List ℤ = c.arranged_at.result.now in
    let same : (clause : List ℤ) → live_in c.args.clauses.now id ≡ Some clause → (l : ℤ) → Contains block l →
    Contains clause l = λ clause is l there. (c.arranged_at.ensures.same clause is l).0 there in
    let P : ℤ → Type 0 = λ (l : ℤ). marked_in c.args.marks.now l ≡ true in
    let out : All (Contains lits) block → ⊥ = λ inside.
    not_both c.covers.result (c.covers.ensures.1
    (All-weaker (Contains lits) P (λ l there. All-contains P lits l marked there) block inside)) c.if-covers.false in
    below_more (λ (k : ℕ). NotInside c.args.clauses.now lits (slice_index_or list k 0)) index (c.loop-index.invariant lits marked) (not_inside_of c.args.clauses.now lits block id same out)
  where
    not_both : (b : Bool) → b ≡ true → b ≡ false → ⊥
    not_both b on off = cc

pub returns : goal.returns
returns c = λ lits marked _. none_at c.args.clauses.now lits c.args.lit (λ id watches.
    (c.watching-count.ensures.exact id).1 watches) (λ k low.
    c.loop-index.invariant lits marked k (omega (arith, low, c.loop-index-test.false, c.watching-count.ensures.long)))
