-- The plan of a text, or the first of its lines that has no reading.
use Rattle.std.specs.Prelude.{◌≡◌, ℕ, ◌+◌, ◌<◌, ◌≤◌, max, Bool, true, false, nat_lt, IsTrue, List, [], ◌∷◌, ◌++◌, length, codes, bytes_eq, if◌then◌else◌, Option, None, Some, Result, Ok, Err, ◌⊎◌}
use Rattle.std.specs.List.{list_any, AllByRecursion}
use Rattle.nwq_text.specs.Escape.{IsTextual, escaped}
use Rattle.nwq_text.specs.Lines.{lines_of}
use Rattle.nwq_text.specs.Names.{is_script_name}
use Rattle.nwq_value.specs.Limits.{time_limit, random_limit, event_limit, script_limit, instruction_limit, entry_limit, default_instruction_limit, default_entry_limit, default_until}
use Rattle.plan_text.specs.declared.plan.Script.{Script}
use Rattle.plan_text.specs.declared.plan.Line.{Line}
use Rattle.plan_text.specs.declared.plan.Line.TheVariants.{Event, Start, Free}
use Rattle.plan_text.specs.declared.plan.Plan.{Plan}
use Rattle.plan_text.specs.declared.fault.PlanFault.{PlanFault}
use Rattle.plan_text.specs.declared.fault.PlanFault.TheVariants.{Line as BadLine, NoMemory}
use Rattle.plan_text.specs.Fields.{parted, number_between, is_label, greatest_nth, greatest_random}
use Rattle.plan_text.specs.Words as word
use Rattle.plan_text.specs.Words.{Word, spelled}

-- ---- what lines say

-- what the lines so far have given
pub record Draft : Type 0 where
  pub version : ℕ
  pub limit : Option ℕ
  pub entries : Option ℕ
  pub until : Option ℕ
  pub random : List ℕ
  pub scripts : List Script
  pub events : List Line

-- a script of this name is listed
abbrev pub is_listed : List ℕ → List Script → Bool
is_listed name scripts = list_any (λ s. bytes_eq s.name name) scripts

-- a number that no line gave before
abbrev pub given_once : Option ℕ → Option ℕ → Option ℕ
given_once None number = number
given_once (Some old) number = None

-- the random numbers and one more, which is below 2^32
abbrev pub with_number : List ℕ → Option ℕ → Option (List ℕ)
with_number numbers None = None
with_number numbers (Some n) = if nat_lt (length numbers) random_limit then Some
    (numbers ++ n ∷ []) else None

abbrev pub one_more : List ℕ → List ℕ → Option (List ℕ)
one_more numbers digits = with_number numbers (number_between 0 greatest_random digits)

-- numbers parted by one space are added to the random numbers
pub data Adds : List ℕ → List ℕ → List ℕ → Type 0 where
  one : (numbers digits after : List ℕ) → one_more numbers digits ≡ Some after
      → Adds numbers digits after
  more : (numbers digits between rest after : List ℕ) → one_more numbers digits ≡ Some between
      → Adds between rest after
      → Adds numbers (parted digits rest) after

-- the text's escaped spelling is this
pub record Spells (tag text : List ℕ) : Type 0 where
  pub textual : IsTextual text
  pub is : tag ≡ escaped text

-- an event for the object of a tag
pub record IsEvent (rest : List ℕ) (line : Line) : Type 0 where
  pub due : List ℕ
  pub nth : List ℕ
  pub label : List ℕ
  pub tag : List ℕ
  pub at : ℕ
  pub number : ℕ
  pub text : List ℕ
  pub spells : rest ≡ parted due (parted nth (parted label tag))
  pub time : number_between 0 time_limit due ≡ Some at
  pub count : number_between 0 greatest_nth nth ≡ Some number
  pub labels : IsTrue (is_label label)
  pub tags : Spells tag text
  pub is : line ≡ Event at number label text

-- a script that begins for the object of a tag
pub record IsStart (rest : List ℕ) (line : Line) : Type 0 where
  pub due : List ℕ
  pub nth : List ℕ
  pub name : List ℕ
  pub tag : List ℕ
  pub at : ℕ
  pub number : ℕ
  pub text : List ℕ
  pub spells : rest ≡ parted due (parted nth (parted name tag))
  pub time : number_between 0 time_limit due ≡ Some at
  pub count : number_between 0 greatest_nth nth ≡ Some number
  pub names : IsTrue (is_script_name name)
  pub tags : Spells tag text
  pub is : line ≡ Start at number name text

-- a script that begins for no object
pub record IsFreeStart (rest : List ℕ) (line : Line) : Type 0 where
  pub due : List ℕ
  pub name : List ℕ
  pub at : ℕ
  pub spells : rest ≡ parted due (parted (codes "-") name)
  pub time : number_between 0 time_limit due ≡ Some at
  pub names : IsTrue (is_script_name name)
  pub is : line ≡ Free at name

-- one more event or start
pub record Plans (d : Draft) (line : Line) (after : Draft) : Type 0 where
  pub room : length d.events < event_limit
  pub is : after ≡ record d { events = d.events ++ line ∷ [] }

-- one more script, whose name is new
pub record Lists (d : Draft) (script : Script) (after : Draft) : Type 0 where
  pub named : IsTrue (is_script_name script.name)
  pub fresh : is_listed script.name d.scripts ≡ false
  pub room : length d.scripts < script_limit
  pub is : after ≡ record d { scripts = d.scripts ++ script ∷ [] }

-- what a line gives by its word and what follows that
abbrev pub ReadsBehind : Word → Draft → List ℕ → Draft → Type 0
ReadsBehind word.Limit d rest after =
    (n : ℕ) × (given_once d.limit (number_between 1 instruction_limit rest) ≡ Some n)
    × (after ≡ record d { limit = Some n })
ReadsBehind word.Entries d rest after =
    (n : ℕ) × (given_once d.entries (number_between 1 entry_limit rest) ≡ Some n)
    × (after ≡ record d { entries = Some n })
ReadsBehind word.Until d rest after =
    (n : ℕ) × (given_once d.until (number_between 0 time_limit rest) ≡ Some n)
    × (after ≡ record d { until = Some n })
ReadsBehind word.Random d rest after = (numbers : List ℕ) × Adds d.random rest numbers
    × (after ≡ record d { random = numbers })
ReadsBehind word.Script d rest after = Lists d (record { name = rest; binary = false }) after
ReadsBehind word.Binary d rest after = Lists d (record { name = rest; binary = true }) after
ReadsBehind word.Event d rest after = (line : Line) × IsEvent rest line × Plans d line after
ReadsBehind word.Start d rest after = (line : Line) × (IsStart rest line ⊎ IsFreeStart rest line)
    × Plans d line after

-- what the lines so far give goes on to what they give with this one
pub data Reads (d : Draft) : List ℕ → Draft → Type 0 where
  empty : Reads d [] d
  remark : (text : List ℕ) → Reads d (codes ";" ++ text) d
  says : (w : Word) (rest : List ℕ) (after : Draft) → ReadsBehind w d rest after
      → Reads d (parted (spelled w) rest) after

-- no line goes on from here by this one
abbrev pub Baffles : Draft → List ℕ → Type 0
Baffles d line = (after : Draft) → Reads d line after → ⊥

-- the lines from the n-th give this, or one of this number is the first without a reading
pub data Comes : ℕ → Draft → List (List ℕ) → Result Draft ℕ → Type 0 where
  whole : (n : ℕ) (d : Draft) → Comes n d [] (Ok d)
  more : (n : ℕ) (d next : Draft) (line : List ℕ) (lines : List (List ℕ)) (end : Result Draft ℕ)
      → Reads d line next
      → Comes (n + 1) next lines end → Comes n d (line ∷ lines) end
  stops : (n : ℕ) (d : Draft) (line : List ℕ) (lines : List (List ℕ)) → Baffles d line
      → Comes n d (line ∷ lines) (Err n)

-- ---- the plan

-- no line has given anything but the version
abbrev pub nothing : ℕ → Draft
nothing version = record {
  version = version;
  limit = None;
  entries = None;
  until = None;
  random = [];
  scripts = [];
  events = [];
}

abbrev pub or_default : Option ℕ → ℕ → ℕ
or_default None default = default
or_default (Some n) default = n

-- the plan of what all lines give
abbrev pub plan_of : Draft → Plan
plan_of d = record {
  version = d.version;
  limit = or_default d.limit default_instruction_limit;
  entries = or_default d.entries default_entry_limit;
  until = or_default d.until default_until;
  random = d.random;
  scripts = d.scripts;
  events = d.events;
}

-- the line that a plan of this version begins with
abbrev pub heading : ℕ → List ℕ
heading version = codes "NWQ PLAN " ++ (48 + version) ∷ []

abbrev pub IsVersion : ℕ → Type 0
IsVersion version = (version ≡ 1) ⊎ (version ≡ 2)

-- the first of the lines is a heading
abbrev pub IsHeaded : List (List ℕ) → Type 0
IsHeaded [] = ⊥
IsHeaded (line ∷ lines) = (version : ℕ) × IsVersion version × (line ≡ heading version)

-- a text gives this, or its line of this number is the first without a reading
pub data Gives (bytes : List ℕ) : Result Draft ℕ → Type 0 where
  headed : (version : ℕ) (lines : List (List ℕ)) (end : Result Draft ℕ) → IsVersion version
      → lines_of bytes ≡ heading version ∷ lines
      → Comes 2 (nothing version) lines end → Gives bytes end
  headless : (IsHeaded (lines_of bytes) → ⊥) → Gives bytes (Err 1)

-- the text has this plan
abbrev pub HasPlan : List ℕ → Plan → Type 0
HasPlan bytes plan = (d : Draft) × Gives bytes (Ok d) × (plan ≡ plan_of d)

-- the text has no plan, and this is its fault
abbrev pub IsFaulty : List ℕ → PlanFault → Type 0
IsFaulty bytes (BadLine n) = Gives bytes (Err n)
IsFaulty bytes NoMemory = Unit {0}

-- a text has one plan or one first bad line
pub record OnePlan : Type 0 where
  pub one_plan : (bytes : List ℕ) (a b : Plan) → HasPlan bytes a → HasPlan bytes b → a ≡ b
  pub one_fault : (bytes : List ℕ) (n m : ℕ) → IsFaulty bytes (BadLine n)
      → IsFaulty bytes (BadLine m) → n ≡ m
  pub not_both : (bytes : List ℕ) (a : Plan) (n : ℕ) → HasPlan bytes a
      → IsFaulty bytes (BadLine n) → ⊥

-- ---- what every plan keeps

abbrev pub IsBetween : ℕ → ℕ → ℕ → Type 0
IsBetween low high n = (low ≤ n) × (n ≤ high)

abbrev pub AreRandoms : List ℕ → Type 0
AreRandoms numbers = AllByRecursion (λ n. n ≤ greatest_random) numbers

-- each has the name of a script, and no two have the same
abbrev pub AreListed : List Script → Type 0
AreListed [] = Unit {0}
AreListed (s ∷ ss) = IsTrue (is_script_name s.name) × (is_listed s.name ss ≡ false) × AreListed ss

abbrev pub IsLine : Line → Type 0
IsLine (Event due nth label tag) = (due ≤ time_limit) × (nth ≤ greatest_nth)
    × IsTrue (is_label label) × IsTextual tag
IsLine (Start due nth name tag) = (due ≤ time_limit) × (nth ≤ greatest_nth)
    × IsTrue (is_script_name name) × IsTextual tag
IsLine (Free due name) = (due ≤ time_limit) × IsTrue (is_script_name name)

-- how far a play may go: instructions an entry, entries in all, and until when
abbrev pub Limits : Type 0
Limits = ℕ × ℕ × ℕ

abbrev pub limits_of : Plan → Limits
limits_of plan = (plan.limit, plan.entries, plan.until)

pub record IsPlan (plan : Plan) : Type 0 where
  pub version : IsVersion plan.version
  pub limit : IsBetween 1 instruction_limit plan.limit
  pub entries : IsBetween 1 entry_limit plan.entries
  pub until : IsBetween 0 time_limit plan.until
  pub few_randoms : length plan.random ≤ random_limit
  pub randoms : AreRandoms plan.random
  pub few_scripts : length plan.scripts ≤ script_limit
  pub scripts : AreListed plan.scripts
  pub few_events : length plan.events ≤ event_limit
  pub events : AllByRecursion IsLine plan.events

-- every plan of a text keeps its limits
abbrev pub PlansKeep : Type 0
PlansKeep = (bytes : List ℕ) (plan : Plan) → HasPlan bytes plan → IsPlan plan

-- the first bad line is a line of the text, or the first one where there is none
abbrev pub IsLineOf : List ℕ → ℕ → Type 0
IsLineOf bytes n = IsBetween 1 (max 1 (length (lines_of bytes))) n

abbrev pub FaultsLieInside : Type 0
FaultsLieInside = (bytes : List ℕ) (n : ℕ) → IsFaulty bytes (BadLine n) → IsLineOf bytes n
