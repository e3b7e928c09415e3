use Rattle.nwq_outside.proofs.MemoryLemmas.{added_keeps}
use Rattle.nwq_outside.proofs.memory.MemFilesFiles.write.Goals as goal

-- src/memory.rt:190:5
pub returns-in-Ok-clause-others : goal.returns-in-Ok-clause-others
returns-in-Ok-clause-others c =
    added_keeps c.args.self.now c.begins_call.new.self c.add.new.self _ c.args.name.now c.args.bytes.now c.begins_call.ensures.after c.in-Ok.ensures.ok
