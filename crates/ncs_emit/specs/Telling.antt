-- The line that a call of an emitter adds.
use Rattle.ncs_code.specs.Plain.{plain}
use Rattle.ncs_emit.specs.declared.told.Note.{Note}
use Rattle.ncs_emit.specs.declared.told.Note.TheVariants as note
use Rattle.ncs_emit.specs.Labelled.{Line, Instruction, JumpTo, Label}

abbrev pub line_of : Note → Line
line_of (note.Instruction op) = Instruction (plain op.now)
line_of (note.Jump kind label) = JumpTo kind label
line_of (note.Label label) = Label label
