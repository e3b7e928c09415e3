use Rattle.std.proofs.Common.{rules, sym}
use Rattle.stack_lists.specs.Held.{shape_of}
use Rattle.stack_lists.proofs.Heaps.{counts_no_cells, counts_no_globals, counts_no_locals, counts_no_under}
use Rattle.stack_lists.proofs.held.stored_counts.Goals as goal

pub returns-then-not-are_values : goal.returns-then-not-are_values
returns-then-not-are_values c = record {
  counts = counts_no_under c.args.globals c.args.locals c.in-Some.globals (shape_of c.args.heap.now c.args.held) (sym c.in-Some.ensures.count)
      (c.are_values.ensures.none (search rules));
}

pub returns-then-not-are_values-2 : goal.returns-then-not-are_values-2
returns-then-not-are_values-2 c = record {
  counts = counts_no_cells c.args.globals c.args.locals c.in-Some.globals c.in-Some-cell_count.locals (shape_of c.args.heap.now c.args.held)
      (sym c.in-Some.ensures.count) (sym c.in-Some-cell_count.ensures.count) (c.are_values-in-Some-cell_count.ensures.none (search rules));
}

pub returns-in-None : goal.returns-in-None
returns-in-None c = record {
  counts = counts_no_globals c.args.globals c.args.locals (shape_of c.args.heap.now c.args.held) (sym c.in-None.ensures.count);
}

pub returns-in-None-cell_count : goal.returns-in-None-cell_count
returns-in-None-cell_count c = record {
  counts = counts_no_locals c.args.globals c.args.locals (shape_of c.args.heap.now c.args.held) (sym c.in-None-cell_count.ensures.count);
}
