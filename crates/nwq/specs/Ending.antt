-- How the program ends, by its words.
use Rattle.std.specs.Prelude.{◌≡◌, ◌≢◌, ℕ, String, Result, Ok, Err}
use Rattle.std.specs.Global.{Global}
use Rattle.std.specs.IoError.{error_kind}
use Rattle.std.specs.Vec.Iter.{into_iter_items}
use Rattle.std.specs.declared.io.Error.{Error}
use Rattle.std.specs.declared.io.ErrorKind.TheVariants.{OutOfMemory}
use Rattle.std.specs.declared.vec.IntoIter.{IntoIter}
use Rattle.command_work.specs.declared.status.Status.TheVariants.{Memory}
use Rattle.command_words.specs.Words.{Form, NoForm, form_of}
use Rattle.nwq_top.specs.Program.{status_number, words_of}
use Rattle.nwq.specs.declared.end.Words.{Words}
use Rattle.nwq.specs.declared.end.Words.TheVariants.{All, NoText, NoMemory}

-- What the words are, by the host's answer: all that it hands in, or none where there is no memory
-- for them. Where it fails otherwise, some of them are no text.
abbrev pub AreHandedIn : Result (IntoIter (String Global) Global) Error → Words → Type 0
AreHandedIn (Ok given) (All all) = all.items ≡ into_iter_items given
AreHandedIn (Ok given) (NoText word) = ⊥
AreHandedIn (Ok given) NoMemory = Unit {0}
AreHandedIn (Err error) (All all) = ⊥
AreHandedIn (Err error) (NoText word) = error_kind error ≢ OutOfMemory
AreHandedIn (Err error) NoMemory = error_kind error ≡ OutOfMemory

-- the form of its words; words that are no text, or for which there was no memory, are none
abbrev pub form_in : Words → Form
form_in (All all) = form_of (words_of all.items)
form_in (NoText word) = NoForm
form_in NoMemory = NoForm

-- where there was no memory for the words, it ends with the number of want of memory
abbrev pub EndsWanting : Words → ℕ → Type 0
EndsWanting NoMemory number = number ≡ status_number Memory
EndsWanting (All all) number = Unit {0}
EndsWanting (NoText word) number = Unit {0}
