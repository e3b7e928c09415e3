-- What is noted of a put.
use Rattle.std.specs.Prelude.{ℕ, List, []}
use Rattle.nwq_outside.specs.declared.answer.Done.{Done}
use Rattle.nwq_outside.specs.declared.answer.Done.TheVariants as done
use Rattle.telling_sink.specs.declared.telling.Put.{Put}

-- the bytes of a piece, where the answer is that it was taken whole
abbrev pub taken_of : List ℕ → Done → List ℕ
taken_of piece done.Ok = piece
taken_of piece done.Failed = []
taken_of piece done.NoMemory = []

abbrev pub noted_of : Put → List ℕ
noted_of put = taken_of put.piece.now put.answer
