-- What a node's typing is made of, whatever the node is: its parts' answers, its rule, and the rows
-- of the table of kinds that may be true of it. And the least of some faults.
use Rattle.std.specs.Prelude.{◌≡◌, ◌≤◌, ℕ, ◌==◌, nat_lt, Bool, true, false, List, [], ◌∷◌, Option, None, Some, if◌then◌else◌, ◌⊎◌}
use Rattle.typing_rules.specs.declared.fault.Fault.{Fault}
use Rattle.typing_rules.specs.declared.fault.FaultKind.{FaultKind}
use Rattle.typing_rules.specs.declared.fault.FaultKind.TheVariants.{RefusedType, Unknown, Redeclared, Arity, NotConst, NotPlace, Outside, Mismatch, NoReturn, Cells, Entry}

-- ---- kinds, and their order

abbrev pub rank : FaultKind → ℕ
rank RefusedType = 0
rank Unknown = 1
rank Redeclared = 2
rank Arity = 3
rank NotConst = 4
rank NotPlace = 5
rank Outside = 6
rank Mismatch = 7
rank NoReturn = 8
rank Cells = 9
rank Entry = 10

-- Rows: which kinds are true of a node.
abbrev pub Rows : Type 0
Rows = FaultKind → Bool

abbrev pub no_row : Rows
no_row k = false

-- the row of kind k is true where b is, and the other rows as they are
abbrev pub row : FaultKind → Bool → Rows → Rows
row k b more j = if rank k == rank j then b else more j

abbrev pub only : FaultKind → Rows
only k = row k true no_row

abbrev pub first_in : List FaultKind → Rows → FaultKind
first_in [] r = Entry
first_in (k ∷ ks) r = if r k then k else first_in ks r

abbrev pub kinds : List FaultKind
kinds = RefusedType ∷ Unknown ∷ Redeclared ∷ Arity ∷ NotConst ∷ NotPlace ∷ Outside ∷ Mismatch ∷ NoReturn ∷ Cells ∷ Entry ∷ []

-- the first kind in order whose row is true; for rows of which none is true this says nothing
abbrev pub first_kind : Rows → FaultKind
first_kind r = first_in kinds r

-- ---- verdicts

pub data Verdict (A : Type 0) : Type 0 where
  -- typed
  Fine : A → Verdict A
  -- its parts are typed, and no rule fits it
  Wrong : FaultKind → Verdict A
  -- a part isn't typed
  Open : Verdict A

abbrev pub fine : {A : Type 0} → Verdict A → Option A
fine (Fine a) = Some a
fine (Wrong k) = None
fine Open = None

abbrev pub ruled : {A : Type 0} → FaultKind → Option A → Verdict A
ruled k (Some a) = Fine a
ruled k None = Wrong k

-- the verdict on a node with these rows and this rule, by the answers of its parts
abbrev pub asked : {A B : Type 0} → (A → Rows) → (A → Option B) → Option A → Verdict B
asked rows rule None = Open
asked rows rule (Some a) = ruled (first_kind (rows a)) (rule a)

-- the verdict on what is typed as soon as its parts are
abbrev pub passed : {A B : Type 0} → (A → B) → Option A → Verdict B
passed f None = Open
passed f (Some a) = Fine (f a)

-- the answers of several parts as one
abbrev pub two : {A B : Type 0} → Option A → Option B → Option (A × B)
two (Some a) (Some b) = Some (a, b)
two (Some a) None = None
two None o = None

abbrev pub three : {A B C : Type 0} → Option A → Option B → Option C → Option (A × B × C)
three (Some a) (Some b) (Some c) = Some (a, b, c)
three (Some a) (Some b) None = None
three (Some a) None o = None
three None o p = None

abbrev pub four : {A B C D : Type 0} → Option A → Option B → Option C → Option D
    → Option (A × B × C × D)
four (Some a) (Some b) (Some c) (Some d) = Some (a, b, c, d)
four (Some a) (Some b) (Some c) None = None
four (Some a) (Some b) None o = None
four (Some a) None o p = None
four None o p q = None

-- a node without parts
abbrev pub no_parts : Option (Unit {0})
no_parts = Some tt

-- a part that may be absent
abbrev pub present_if : {B : Type 0} → Option B → Option (Option B)
present_if None = None
present_if (Some b) = Some (Some b)

abbrev pub if_there : {A B : Type 0} → (A → Option B) → Option A → Option (Option B)
if_there f None = Some None
if_there f (Some a) = present_if (f a)

-- ---- the meaning: typed by its rule, and at fault

-- a node with these parts is typed so by its rule
pub record Fits {A B : Type 0} (Parts : A → Type 0) (rule : A → Option B) (b : B) : Type 0 where
  pub typed : A
  pub parts : Parts typed
  pub gives : rule typed ≡ Some b

-- A node is at fault where its parts are typed and its rule doesn't fit; the kind is that of the
-- first row that is true of it.
pub record AtFault {A B : Type 0} (Parts : A → Type 0) (rule : A → Option B) (rows : A → Rows)
    (k : FaultKind) : Type 0 where
  pub typed : A
  pub parts : Parts typed
  pub misfit : rule typed ≡ None
  pub true_of : rows typed k ≡ true
  pub first : (j : FaultKind) → rows typed j ≡ true → rank k ≤ rank j

-- it is at fault, with this kind, and the fault is at its token
pub record Own {A B : Type 0} (n : ℕ) (Parts : A → Type 0) (rule : A → Option B) (rows : A → Rows)
    (f : Fault) : Type 0 where
  pub fault : AtFault Parts rule rows f.kind
  pub token : n ≡ f.token

pub data There {A B : Type 0} (P : A → B → Type 0) : Option A → Option B → Type 0 where
  absent : There P None None
  present : {a : A} {b : B} → P a b → There P (Some a) (Some b)

-- an absent part has no fault
abbrev pub FaultThere : {A : Type 0} → (A → Fault → Type 0) → Option A → Fault → Type 0
FaultThere P None f = ⊥
FaultThere P (Some a) f = P a f

-- ---- lists of faults

abbrev pub at : {A : Type 0} → ℕ → Verdict A → List Fault
at n (Fine a) = []
at n (Wrong k) = record { kind = k; token = n } ∷ []
at n Open = []

abbrev pub faults_there : {A : Type 0} → (A → List Fault) → Option A → List Fault
faults_there f None = []
faults_there f (Some a) = f a

abbrev pub Among : Fault → List Fault → Type 0
Among f [] = ⊥
Among f (g ∷ gs) = (g ≡ f) ⊎ Among f gs

-- the one of two whose token is less; of equal ones the first
abbrev pub earlier : Option Fault → Fault → Option Fault
earlier None f = Some f
earlier (Some g) f = if nat_lt f.token g.token then Some f else Some g

-- the least of a list of faults and one kept before
abbrev pub kept : Option Fault → List Fault → Option Fault
kept o [] = o
kept o (f ∷ fs) = kept (earlier o f) fs

-- one of these faults, and none of them has a lesser token
pub record IsLeast (Faults : Fault → Type 0) (f : Fault) : Type 0 where
  pub is : Faults f
  pub least : (g : Fault) → Faults g → f.token ≤ g.token
