use Rattle.std.proofs.Common.{refl, arith}
use Rattle.var_heap.proofs.Standing.{read_standing, standing_inside, place_low, swapped_at, swapped_moved, swapped_row}
use Rattle.var_heap.proofs.array.HeapArray.swap.Goals as goal

pub overflow_cast-a : goal.overflow_cast-a
overflow_cast-a c = let low = place_low c.args.self.now c.args.a c.requires.array c.requires.first.0 c.requires.first.1 in omega (arith, low, c.requires.array.few)

pub overflow_cast-b : goal.overflow_cast-b
overflow_cast-b c = let low = place_low c.args.self.now c.args.b c.requires.array c.requires.second.0 c.requires.second.1 in omega (arith, low, c.requires.array.few)

pub index_mut-requires-3 : goal.index_mut-requires-3
index_mut-requires-3 c =
    let low = standing_inside c.args.self.now c.args.b c.index-second.result.now c.requires.array c.requires.second.0 c.requires.second.1 c.index-second.ensures in
    omega (arith, low, c.args.self.now.places.ok.0)

pub index_mut-requires-4 : goal.index_mut-requires-4
index_mut-requires-4 c =
    let low = standing_inside c.args.self.now c.args.a c.index-first.result.now c.requires.array c.requires.first.0 c.requires.first.1 c.index-first.ensures in
    omega (arith, low, c.args.self.now.places.ok.0)

pub returns-clause-array : goal.returns-clause-array
returns-clause-array c = swapped_row c.args.self.now _ c.args.a c.args.b c.index-first.result.now c.index-second.result.now c.requires.array (record {
  heap = refl;
  places = refl;
  len = refl;
  first = read_standing c.args.self.now c.args.a c.index-first.result.now c.requires.array c.requires.first.0 c.requires.first.1 c.index-first.ensures;
  second = read_standing c.args.self.now c.args.b c.index-second.result.now c.requires.array c.requires.second.0 c.requires.second.1 c.index-second.ensures;
  inside_first = c.requires.first;
  inside_second = c.requires.second;
  apart = c.requires.apart;
})

pub returns-clause-moved : goal.returns-clause-moved
returns-clause-moved c = swapped_moved c.args.self.now _ c.args.a c.args.b c.index-first.result.now c.index-second.result.now c.requires.array (record {
  heap = refl;
  places = refl;
  len = refl;
  first = read_standing c.args.self.now c.args.a c.index-first.result.now c.requires.array c.requires.first.0 c.requires.first.1 c.index-first.ensures;
  second = read_standing c.args.self.now c.args.b c.index-second.result.now c.requires.array c.requires.second.0 c.requires.second.1 c.index-second.ensures;
  inside_first = c.requires.first;
  inside_second = c.requires.second;
  apart = c.requires.apart;
})

pub returns-clause-swapped : goal.returns-clause-swapped
returns-clause-swapped c = swapped_at c.args.self.now c.args.a c.args.b c.index-first.result.now c.index-second.result.now c.requires.array c.requires.first c.requires.second
    (read_standing c.args.self.now c.args.a c.index-first.result.now c.requires.array c.requires.first.0 c.requires.first.1 c.index-first.ensures)
    (read_standing c.args.self.now c.args.b c.index-second.result.now c.requires.array c.requires.second.0 c.requires.second.1 c.index-second.ensures)
