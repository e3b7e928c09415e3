-- A unit while it is read: the files that are open, the innermost first, and what is left to come
-- of them. No public contract names this.
use Rattle.std.specs.Prelude.{◌≡◌, ℕ, ◌+◌, ◌-◌, ◌*◌, ◌<◌, ◌≤◌, Bool, IsTrue, List, [], ◌∷◌, ◌++◌, length, slice_get, take, Option, Some, None, IsSomeAnd}
use Rattle.std.specs.List.{AllByRecursion}
use Rattle.nwq_value.specs.Limits.{file_limit, text_limit, token_limit}
use Rattle.nss_lexer.specs.Splitting.{Lexeme}
use Rattle.nss_include.specs.declared.fault.GatherFault.{GatherFault}
use Rattle.nss_include.specs.declared.fault.GatherFault.TheVariants.{Missing, Fault, Long, Bad, Tokens, Include, NoMemory}
use Rattle.nss_include.specs.declared.file.Source.{Source}
use Rattle.nss_include.specs.declared.opened.Open.{Open}
use Rattle.nss_include.specs.declared.gatherer.Gatherer.{Gatherer}
use Rattle.nss_include.specs.declared.step.Step.{Step}
use Rattle.nss_include.specs.Names.{file_name}
use Rattle.nss_include.specs.Steps.{IsStep, IsWithin}
use Rattle.nss_include.specs.Units.{Lookup, source, HaveDistinctNames}
use Rattle.nss_include.specs.View.{Gathered, bytes_of}
use Rattle.nss_include.specs.Gather.{HoldsFiles, Claims}
use Rattle.nss_include.specs.Walks.{Walks}

-- what is left to come of open files: up to the end of all, or up to a fault
pub data Rest (lookup : Lookup) : List Open → List Source → ℕ → List Lexeme → List Source → ℕ
    → Option GatherFault → Type 0 where
  closed : (files : List Source) (count : ℕ) → Rest lookup [] files count [] files count None
  stops : (here : Open) (stack : List Open) (files : List Source) (count : ℕ) (tokens : List Lexeme)
      (last : List Source) (total : ℕ)
      (fault : GatherFault) → Walks lookup here.file here.at files count tokens last total
      (Some fault)
      → Rest lookup (here ∷ stack) files count tokens last total (Some fault)
  goes : (here : Open) (stack : List Open) (files : List Source) (count : ℕ) (inner : List Lexeme)
      (between : List Source) (counted : ℕ)
      (tokens : List Lexeme) (last : List Source) (total : ℕ) (ending : Option GatherFault)
      → Walks lookup here.file here.at files count inner between counted None
      → Rest lookup stack between counted tokens last total ending
      → Rest lookup (here ∷ stack) files count (inner ++ tokens) last total ending

-- a reading ends with these tokens, its own among them, and with these files and this count
pub record Ends (lookup : Lookup) (r : Gatherer) (tokens : List Lexeme) (last : List Source)
    (total : ℕ) (ending : Option GatherFault) : Type 0 where
  pub left : List Lexeme
  pub parts : tokens ≡ r.unit.tokens ++ left
  pub rest : Rest lookup r.stack r.unit.files r.count left last total ending

-- whatever a later reading ends with, the earlier one ends with
abbrev pub Leads : Lookup → Gatherer → Gatherer → Type 0
Leads lookup old new =
    (tokens : List Lexeme) (last : List Source) (total : ℕ) (ending : Option GatherFault)
    → Ends lookup new tokens last total ending
    → Ends lookup old tokens last total ending

-- where a fault comes of what is under a name, that is so
abbrev pub Explains : Lookup → GatherFault → Type 0
Explains lookup (Missing name) = lookup name ≡ None
Explains lookup (Long name) = IsSomeAnd (lookup name) (λ bytes. file_limit < length bytes)
Explains lookup Fault = Unit {0}
Explains lookup (Bad spot) = Unit {0}
Explains lookup (Tokens spot) = Unit {0}
Explains lookup (Include spot) = Unit {0}
Explains lookup NoMemory = Unit {0}

-- an open file is one of these, and goes on inside it
pub record IsOpen (files : List Source) (here : Open) : Type 0 where
  pub file : here.file < length files
  pub place : here.at ≤ length (bytes_of (slice_get files here.file))

-- the open files are of the unit, each of its tokens was counted, and each file but the script was
-- paid for by a directive; no two files have one name
pub record IsOrderly (r : Gatherer) : Type 0 where
  pub places : AllByRecursion (IsOpen r.unit.files) r.stack
  pub few : r.count ≤ token_limit
  pub counted : length r.unit.tokens ≤ r.count
  pub paid : 3 * length r.unit.files ≤ r.count + 3
  pub distinct : HaveDistinctNames r.unit.files

-- these files are the others with some more behind them
abbrev pub Extends : List Source → List Source → Type 0
Extends old new = (more : List Source) × (new ≡ old ++ more)

-- a reading with one more file open
abbrev pub reopened : Open → Gatherer → Gatherer
reopened here r = record r { stack = here ∷ r.stack }

-- what falls with each step of a reading
abbrev pub steps_left : Gatherer → ℕ
steps_left r = 2 * (token_limit - r.count) + length r.stack

-- the unit's file in which one goes on here goes on so, within its bounds
pub record HasStep (r : Gatherer) (here : Open) (s : Step) : Type 0 where
  pub file : Source
  pub is : slice_get r.unit.files here.file ≡ Some file
  pub step : IsStep file.bytes here.file here.at s
  pub within : IsWithin file.bytes here.file s

-- a reading ends with this fault and what it has so far
abbrev pub Stops : Lookup → Gatherer → GatherFault → Type 0
Stops lookup r fault = Ends lookup r r.unit.tokens r.unit.files r.count (Some fault)

-- the unit has one more file, of this name and of no more bytes than a file has
pub record Opens (old new : Gathered) (name : List ℕ) : Type 0 where
  pub bytes : List ℕ
  pub size : length bytes ≤ file_limit
  pub is : new ≡ record { files = old.files ++ source name bytes ∷ []; tokens = old.tokens }

-- and where files are told, it is what is under its name
pub record Reads (tells : Bool) (outside : Lookup) (old new : Gathered)
    (name : List ℕ) : Type 0 where
  pub opens : Opens old new name
  pub told : IsTrue tells → outside name ≡ Some opens.bytes

-- a fault of reading this name
abbrev pub IsReadFault : List ℕ → GatherFault → Type 0
IsReadFault name (Missing given) = given ≡ take text_limit name
IsReadFault name (Long given) = given ≡ take text_limit name
IsReadFault name Fault = Unit {0}
IsReadFault name (Bad spot) = ⊥
IsReadFault name (Tokens spot) = ⊥
IsReadFault name (Include spot) = ⊥
IsReadFault name NoMemory = Unit {0}

-- where a fault of reading this name comes of what is under it, that is so
abbrev pub ExplainsRead : Lookup → List ℕ → GatherFault → Type 0
ExplainsRead lookup name (Missing given) = lookup name ≡ None
ExplainsRead lookup name (Long given) = IsSomeAnd (lookup name) (λ bytes. file_limit < length bytes)
ExplainsRead lookup name Fault = Unit {0}
ExplainsRead lookup name (Bad spot) = Unit {0}
ExplainsRead lookup name (Tokens spot) = Unit {0}
ExplainsRead lookup name (Include spot) = Unit {0}
ExplainsRead lookup name NoMemory = Unit {0}

-- a read of this name failed so
pub record ReadFails (tells : Bool) (outside : Lookup) (name : List ℕ)
    (fault : GatherFault) : Type 0 where
  pub is : IsReadFault name fault
  pub told : IsTrue tells → ExplainsRead outside name fault

-- a directive behind which the file goes on was passed
abbrev pub passed : Gatherer → Open → ℕ → Gatherer
passed r here after = record r {
  stack = record { file = here.file; at = after } ∷ r.stack;
  count = r.count + 3;
}

-- a directive was passed, and the file that it names is open
pub record Includes (tells : Bool) (outside : Lookup) (old new : Gatherer) (here : Open)
    (name : List ℕ) (after : ℕ) : Type 0 where
  pub reads : Reads tells outside old.unit new.unit name
  pub stack : new.stack ≡ record {
    file = length old.unit.files;
    at = 0;
  } ∷ record { file = here.file; at = after } ∷ old.stack
  pub count : new.count ≡ old.count + 3

-- a fault of counting, or want of memory
abbrev pub IsOwnFault : GatherFault → Type 0
IsOwnFault (Missing name) = ⊥
IsOwnFault (Long name) = ⊥
IsOwnFault Fault = ⊥
IsOwnFault (Bad spot) = ⊥
IsOwnFault (Tokens spot) = Unit {0}
IsOwnFault (Include spot) = ⊥
IsOwnFault NoMemory = Unit {0}

-- from here a reading comes to this fault
pub record ComesTo (lookup : Lookup) (r : Gatherer) (fault : GatherFault) : Type 0 where
  pub tokens : List Lexeme
  pub last : List Source
  pub total : ℕ
  pub ends : Ends lookup r tokens last total (Some fault)

-- a reading that begins with the file of a script
pub record BeginsWithScript (tells : Bool) (outside : Lookup) (r : Gatherer)
    (script : List ℕ) : Type 0 where
  pub bytes : List ℕ
  pub size : length bytes ≤ file_limit
  pub unit : r.unit ≡ record { files = source (file_name script) bytes ∷ []; tokens = [] }
  pub stack : r.stack ≡ record { file = 0; at = 0 } ∷ []
  pub count : r.count ≡ 0
  pub holds : IsTrue tells → HoldsFiles outside r.unit.files

-- what a reading has come to, where files are told or not
pub record RunSoFar (tells : Bool) (outside : Lookup) (first now : Gatherer) : Type 0 where
  pub ready : IsOrderly now
  pub leads : (lookup : Lookup) → HoldsFiles lookup now.unit.files → Leads lookup first now
  pub keeps : (lookup : Lookup) → HoldsFiles lookup now.unit.files
      → HoldsFiles lookup first.unit.files
  pub holds : IsTrue tells → HoldsFiles outside first.unit.files → HoldsFiles outside now.unit.files
  pub grows : Extends first.unit.files now.unit.files

-- a reading came on by a step
pub record Advances (tells : Bool) (outside : Lookup) (old new : Gatherer) : Type 0 where
  pub so : RunSoFar tells outside old new
  pub falls : steps_left new < steps_left old

-- a reading stops with this fault, whatever the files are that explain it
abbrev pub StopsBy : Gatherer → GatherFault → Type 0
StopsBy r fault = Claims fault ((lookup : Lookup) → Explains lookup fault → Stops lookup r fault)

-- and where files are told, they explain it
pub record Halts (tells : Bool) (outside : Lookup) (r : Gatherer)
    (fault : GatherFault) : Type 0 where
  pub stops : StopsBy r fault
  pub told : IsTrue tells → Explains outside fault
