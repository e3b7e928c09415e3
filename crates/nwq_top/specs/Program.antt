-- With which number the program ends.
use Rattle.std.specs.Prelude.{ℕ, ◌==◌, if◌then◌else◌, List, drop, map, String, string_bytes, Result, Ok, Err}
use Rattle.command_work.specs.declared.status.Status.{Status}
use Rattle.command_work.specs.declared.status.Status.TheVariants.{Done, Words, Script, Code, Area, Limit, Missing, Fault, Memory, Long}

-- the number of a status
abbrev pub status_number : Status → ℕ
status_number Done = 0
status_number Words = 1
status_number Script = 2
status_number Code = 3
status_number Area = 4
status_number Limit = 5
status_number Missing = 6
status_number Fault = 7
status_number Memory = 8
status_number Long = 9

-- the status of a number
abbrev pub status_numbered : ℕ → Status
status_numbered n =
    if n == 0 then Done
    else if n == 1 then Words
    else if n == 2 then Script
    else if n == 3 then Code
    else if n == 4 then Area
    else if n == 5 then Limit
    else if n == 6 then Missing
    else if n == 7 then Fault
    else if n == 8 then Memory
    else Long

-- an answer, where the number of a status tells that there is none
abbrev pub by_status : {A : Type 0} → Result A ℕ → Result A Status
by_status (Ok a) = Ok a
by_status (Err n) = Err (status_numbered n)

-- the words of the command are all but the program's name
abbrev pub words_of : {A : Type 0} → List (String A) → List (List ℕ)
words_of all = map string_bytes (drop 1 all)
