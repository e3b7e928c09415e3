-- That a line of the trace is one line of text.
use Rattle.std.specs.Prelude.{◌≡◌, ℕ, ◌==◌, List, [], ◌∷◌, ◌++◌, count_by}
use Rattle.std.specs.List.{AllByRecursion}
use Rattle.nwq_value.specs.declared.engine.Routine.{Routine}
use Rattle.nwq_value.specs.Engine.{EngineTable}
use Rattle.nwq_text.specs.Cuts.{IsFree}
use Rattle.world_rules.specs.declared.data.Line.{Line}
use Rattle.world_rules.specs.declared.data.Told.{Told}
use Rattle.world_rules.specs.declared.data.Told.TheVariants.{Print, Speak, Call, NoScript, Deep, Divide, Apply, Remove, Expire}
use Rattle.world_rules.specs.Trace.{line_text}

-- a text with one newline, which is at its end
pub record IsOneLine (text : List ℕ) : Type 0 where
  pub front : List ℕ
  pub is : text ≡ front ++ 10 ∷ []
  pub free : IsFree 10 front

-- how many newlines are in a text
abbrev pub newlines : List ℕ → ℕ
newlines text = count_by (λ b. b == 10) text

-- No newline comes into a line but by a routine's name, which is the one text that isn't escaped.
abbrev pub HasPlainName : Told → Type 0
HasPlainName (Print v) = Unit {0}
HasPlainName (Speak bytes) = Unit {0}
HasPlainName (Call name values) = IsFree 10 name
HasPlainName (NoScript name) = Unit {0}
HasPlainName (Deep name) = Unit {0}
HasPlainName Divide = Unit {0}
HasPlainName (Apply duration e) = Unit {0}
HasPlainName (Remove e) = Unit {0}
HasPlainName (Expire e) = Unit {0}

abbrev pub ArePlain : List Line → Type 0
ArePlain lines = AllByRecursion (λ (l : Line). HasPlainName l.told) lines

-- no routine of a header has a newline in its name
abbrev pub HasPlainNames : EngineTable → Type 0
HasPlainNames table = AllByRecursion (λ (r : Routine). IsFree 10 r.name) table.routines

-- each of the lines is one line of text
abbrev pub AreOneLines : List Line → Type 0
AreOneLines lines = AllByRecursion (λ l. IsOneLine (line_text l)) lines
