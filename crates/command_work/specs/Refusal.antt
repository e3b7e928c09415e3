-- Why a command refuses what it was given: its line and its status are functions of it. A further
-- line form is one more constructor.
use Rattle.std.specs.Prelude.{ℕ, List, ◌++◌, codes, decimal}
use Rattle.nwq_text.specs.Escape.{escaped}
use Rattle.command_work.specs.declared.cause.Cause.{Cause}
use Rattle.command_work.specs.declared.cause.Cause.TheVariants as cause
use Rattle.command_work.specs.declared.flaw.CodeFlaw.{CodeFlaw}
use Rattle.command_work.specs.declared.flaw.AreaFlaw.{AreaFlaw}
use Rattle.command_work.specs.declared.status.Status.{Status}
use Rattle.command_work.specs.declared.status.Status.TheVariants as status
use Rattle.command_work.specs.Flaws.{code_flaw_text, area_flaw_text}

pub data Refusal : Type 0 where
  NoForm : Refusal  -- the words are no form of a command
  Absent : (name : List ℕ) → Refusal
  TooLong : (name : List ℕ) → Refusal
  At : (name : List ℕ) (line place : ℕ) (cause : Cause) → Refusal  -- a script's or header's text, in this file
  BadCode : (name : List ℕ) (flaw : CodeFlaw) → Refusal  -- a file of bytecode, or an assembler text
  BadArea : (name : List ℕ) (flaw : AreaFlaw) → Refusal  -- a GFF file, the area in it, a plan, a table or a list of tables, a state

abbrev pub cause_word : Cause → List ℕ
cause_word cause.Bad = codes "bad"
cause_word cause.Tokens = codes "tokens"
cause_word cause.Include = codes "include"
cause_word cause.Nested = codes "nested"
cause_word cause.Syntax = codes "syntax"
cause_word cause.RefusedType = codes "refusedtype"
cause_word cause.Unknown = codes "unknown"
cause_word cause.Redeclared = codes "redeclared"
cause_word cause.Arity = codes "arity"
cause_word cause.NotConst = codes "notconst"
cause_word cause.NotPlace = codes "notplace"
cause_word cause.Outside = codes "outside"
cause_word cause.Mismatch = codes "mismatch"
cause_word cause.NoReturn = codes "noreturn"
cause_word cause.Cells = codes "cells"
cause_word cause.Entry = codes "entry"
cause_word cause.Large = codes "large"
cause_word cause.Header = codes "header"
cause_word cause.Twice = codes "twice"
cause_word cause.Many = codes "many"

-- the line that is put
abbrev pub line_of : Refusal → List ℕ
line_of NoForm = codes "refused words\n"
line_of (Absent name) = codes "missing " ++ escaped name ++ codes "\n"
line_of (TooLong name) = codes "long " ++ escaped name ++ codes "\n"
line_of (At name line place why) =
    codes "refused " ++ escaped name ++ codes " " ++ decimal line ++ codes " " ++ decimal place
    ++ codes " " ++ cause_word why ++ codes "\n"
line_of (BadCode name flaw) = codes "refused " ++ escaped name ++ codes " " ++ code_flaw_text flaw
    ++ codes "\n"
line_of (BadArea name flaw) = codes "refused " ++ escaped name ++ codes " " ++ area_flaw_text flaw
    ++ codes "\n"

-- the status with which the command ends
abbrev pub status_of : Refusal → Status
status_of NoForm = status.Words
status_of (Absent name) = status.Missing
status_of (TooLong name) = status.Long
status_of (At name line place why) = status.Script
status_of (BadCode name flaw) = status.Code
status_of (BadArea name flaw) = status.Area
