-- The work of a command in order, and what it is to do it.
use Rattle.std.specs.Prelude.{◌≡◌, ℕ, nat_lt, Bool, true, false, ◌⊎◌, List, ◌++◌, length, Option, Some, None, Result, Ok, Err}
use Rattle.nwq_value.specs.Limits.{file_limit}
use Rattle.nwq_outside.specs.Outside.{Contents, KeepsOthers, TookPrefix, with_content, content}
use Rattle.command_work.specs.declared.status.Status.{Status}
use Rattle.command_work.specs.declared.status.Status.TheVariants.{Done, Fault, Memory}
use Rattle.command_work.specs.Refusal.{Refusal, Absent, TooLong, line_of, status_of}

-- The work of a command, or of a part of one that gives an A. What it needs to know of the files it
-- finds: some value for which a relation holds of their contents at that point. So it goes on by
-- what is read, also where that is known by a relation alone.
pub data Work (A : Type 0) : Type 1 where
  Gives : (a : A) → Work A
  Refused : (refusal : Refusal) → Work A  -- puts the line of the refusal, and ends with its status
  Ends : (status : Status) → Work A  -- ends without a line of its own
  Writes : (name bytes : List ℕ) → Work A → Work A
  Puts : (text : List ℕ) → Work A → Work A
  Finds : {B : Type 0} → (P : Contents → B → Type 0) → (next : B → Work A) → Work A

-- one part after another; where the first ends, so does the whole
abbrev pub then : {A B : Type 0} → Work A → (A → Work B) → Work B
then (Gives a) f = f a
then (Refused refusal) f = Refused refusal
then (Ends status) f = Ends status
then (Writes name bytes rest) f = Writes name bytes (then rest f)
then (Puts text rest) f = Puts text (then rest f)
then (Finds P next) f = Finds P (λ b. then (next b) f)

-- the two statuses that cut a work short: a call outside failed, or memory was wanted
abbrev pub CutsShort : Status → Type 0
CutsShort Fault = Unit {0}
CutsShort Memory = Unit {0}
CutsShort _ = ⊥

abbrev pub IsCut : {A : Type 0} → Result A Status → Type 0
IsCut (Ok a) = ⊥
IsCut (Err status) = CutsShort status

-- nothing changed and nothing was taken
abbrev pub Stays : Contents → Contents → List ℕ → List ℕ → Type 0
Stays c c' t t' = (c' ≡ c) × (t' ≡ t)

-- a value of this kind is found, and one goes on by it
pub record Found {B : Type 0} (P : B → Type 0) (Goes : B → Type 0) : Type 0 where
  pub found : B
  pub is : P found
  pub goes : Goes found

-- From contents c and taken bytes t the work answers r and leaves c' and t'. It may be cut where it
-- still has something to find, to write or to put; where nothing is left to do, it ends as it says.
abbrev pub Does : {A : Type 0} → Work A → Contents → List ℕ → Result A Status → Contents → List ℕ
    → Type 0
Does (Gives a) c t r c' t' = (r ≡ Ok a) × Stays c c' t t'
Does (Refused refusal) c t r c' t' =
    (((r ≡ Err (status_of refusal)) × (t' ≡ t ++ line_of refusal))
    ⊎ (IsCut r × TookPrefix (line_of refusal) t t')) × (c' ≡ c)
Does (Ends status) c t r c' t' = (r ≡ Err status) × Stays c c' t t'
Does (Writes name bytes rest) c t r c' t' =
    (IsCut r × KeepsOthers name c c' × (t' ≡ t)) ⊎ Does rest (with_content c name bytes) t r c' t'
Does (Puts text rest) c t r c' t' = (IsCut r × (c' ≡ c) × TookPrefix text t t')
    ⊎ Does rest c (t ++ text) r c' t'
Does (Finds P next) c t r c' t' = (IsCut r × Stays c c' t t')
    ⊎ Found (P c) (λ b. Does (next b) c t r c' t')

-- something is still to be found, written or put as the work begins, so it may be cut there
abbrev pub MayBeCut : {A : Type 0} → Work A → Type 0
MayBeCut (Gives a) = ⊥
MayBeCut (Ends status) = ⊥
MayBeCut work = Unit {0}

-- ---- the parts that every command has

-- A value that has to be made: memory may be wanted for it. Where it is made, it is found.
abbrev pub makes : {A : Type 0} → A → Work A
makes a = Finds (λ c made. made ≡ a) Gives

-- a whole command gives nothing but that it is done
abbrev pub Finished : Type 0
Finished = Unit {0}

-- how a status tells the end of a whole command
abbrev pub ending : Status → Result Finished Status
ending Done = Ok tt
ending status = Err status

-- a text that is put last
unfoldable pub puts : List ℕ → Work Finished
puts text = Puts text (Gives tt)

-- a file that is written last
unfoldable pub writes : List ℕ → List ℕ → Work Finished
writes name bytes = Writes name bytes (Gives tt)

abbrev pub by_size : Bool → List ℕ → List ℕ → Work (List ℕ)
by_size true name bytes = Refused (TooLong name)
by_size false name bytes = Gives bytes

-- a file's bytes, by what is under its name
abbrev pub bytes_of : List ℕ → Option (List ℕ) → Work (List ℕ)
bytes_of name None = Refused (Absent name)
bytes_of name (Some bytes) = by_size (nat_lt file_limit (length bytes)) name bytes

-- the file of this name is read
unfoldable pub file_named : List ℕ → Work (List ℕ)
file_named name = Finds (λ c found. found ≡ content c name) (bytes_of name)
