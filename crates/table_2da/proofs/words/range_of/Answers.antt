use Rattle.std.proofs.Common.{◌+◌, length, take, drop, ap, ◌∙◌}
use Rattle.table_2da.specs.Fronts.{plain}
use Rattle.table_2da.proofs.RangeLemmas.{text_there}
use Rattle.table_2da.proofs.words.range_of.Goals as goal

pub returns : goal.returns
returns c = record {
  text = λ file s.
      ap (λ t. take (length t) (drop (c.args.place + c.place_of-start.result) file)) c.text_in-text.ensures.text
      ∙ text_there file c.args.line.now c.args.part (plain c.args.word) c.args.place c.place_of-start.result s c.place_of-start.ensures.stands;
}
