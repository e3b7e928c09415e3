use Rattle.std.proofs.Common.{w32}
use Rattle.std.proofs.lemmas.Int.{to_z-of_z}
use Rattle.message_types.proofs.Members.{number_behind}
use Rattle.message_types.proofs.sentences.put_again.Goals as goal

pub returns : goal.returns
returns c = record {
  appends = number_behind c.put_int.result _ _ _ _ c.args.value _ (to_z-of_z w32 c.args.value c.ranges.value) c.in_ok-put_sentence.ensures.appends c.put_int.ensures.appends;
}
