use Rattle.saved_state.specs.declared.cell.Cell.TheVariants.{Value as ValueCell}
use Rattle.saved_state.proofs.Folds.{seen_folded, seen_plain, seen_same}
use Rattle.saved_state.proofs.stack.Stack.fold_near.Goals as goal

pub fold_near-requires : goal.fold_near-requires
fold_near-requires c = record {
  plain = seen_plain c.self.inside.cells c.self.inside.bp c.args.self.now c.args.y c.self.view_is c.requires.upper;
}

pub returns : goal.returns
returns c = record {
  folded = λ done.
      seen_folded c.self.inside.cells c.fold_near.new.self c.self.inside.bp c.args.self.now (ValueCell c.args.value)
      c.self.view_is (c.fold_near.ensures.two done) (c.fold_near.ensures.folded done);
  same = λ none. seen_same c.self.inside.cells c.fold_near.new.self c.self.inside.bp c.args.self.now c.self.view_is (c.fold_near.ensures.same none);
}
