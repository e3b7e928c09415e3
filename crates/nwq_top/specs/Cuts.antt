-- What is put and left where a failed call or want of memory cuts a work, against what the work
-- comes to where none does.
use Rattle.std.specs.Prelude.{ℕ, List, Result}
use Rattle.nwq_outside.specs.Outside.{Contents}
use Rattle.command_work.specs.declared.status.Status.{Status}
use Rattle.command_work.specs.Work.{Work, Finished}
use Rattle.command_work.specs.Amounts.{Write, AmountsTo, IsFront}

-- Where no call fails, the work makes these writes in order, and puts this text. What is left is as
-- after a front of those writes, and what is put is a prefix of that text.
unfoldable pub IsFrontOf : Work Finished → Contents → List ℕ → Contents → List ℕ → Type 0
IsFrontOf w c t c' t' =
    (s : Result Finished Status) (writes : List Write) (text : List ℕ) → AmountsTo w c s writes text
    → IsFront writes text c t c' t'
