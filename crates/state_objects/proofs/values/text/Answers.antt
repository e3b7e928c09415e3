use Rattle.state_objects.proofs.Short.{text_whole}
use Rattle.state_objects.proofs.values.text.Goals as goal

pub returns : goal.returns
returns c = record { same = text_whole c.of.result c.args.bytes.now c.as_slice.result.now c.requires.short c.as_slice.ensures.items c.of.ensures.ok }
