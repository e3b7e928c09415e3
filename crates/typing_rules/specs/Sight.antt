-- What is in sight where a node stands, and what the names there mean.
use Rattle.std.specs.Prelude.{ℕ, ℤ, suc, ◌+◌, min, nat_lt, Bool, true, false, not, ◌&&◌, ◌||◌, List, [], ◌∷◌, ◌++◌, length, drop, Option, None, Some, is_some, bytes_eq, slice_get, if◌then◌else◌}
use Rattle.std.specs.Option.{option_map, option_and_then}
use Rattle.nss_tree.specs.declared.constants.TypeName.{TypeName}
use Rattle.nss_tree.specs.declared.constants.TypeName.TheVariants as spelled
use Rattle.nwq_value.specs.declared.value.Ty.{Ty}
use Rattle.nwq_value.specs.declared.value.Ty.TheVariants as ty
use Rattle.nwq_value.specs.declared.engine.Const.{Const}
use Rattle.nwq_value.specs.declared.engine.Const.TheVariants as k
use Rattle.nwq_value.specs.declared.engine.Param.{Param}
use Rattle.nwq_value.specs.declared.engine.Role.{Role}
use Rattle.nwq_value.specs.declared.engine.Role.TheVariants.{Uncallable}
use Rattle.nwq_value.specs.declared.engine.Routine.{Routine}
use Rattle.nwq_value.specs.Engine.{EngineTable, routine_named, constant_named}
use Rattle.nwq_value.specs.Limits.{frame_cell_limit, global_cell_limit}
use Rattle.typing_rules.specs.declared.places.Callee.{Callee}
use Rattle.typing_rules.specs.declared.places.Callee.TheVariants.{Unit as InUnit, Engine}
use Rattle.typing_rules.specs.Types.{is_void}

-- ---- declarations. One that isn't typed stays in sight, without what it means: what uses it is
-- then not typed either.

pub data Meaning : Type 0 where
  -- its number, and whether it is a parameter or a variable of a function
  variable : ℕ → Bool → Ty → Meaning
  constant : Const → Meaning

-- a declared name
pub record Entry : Type 0 where
  pub called : List ℕ
  pub means : Option Meaning

-- a field, and how many cells of the struct stand before it
pub record Member : Type 0 where
  pub called : List ℕ
  pub ty : Ty
  pub before : ℕ

pub record Members : Type 0 where
  pub fields : List Member
  pub cells : ℕ

pub record Structure : Type 0 where
  pub called : List ℕ
  pub members : Option Members

-- the types of a function's parameters with their defaults, and of its result
pub record Signature : Type 0 where
  pub params : List Param
  pub result : Ty

-- One declaration of a function. A function may be declared several times; the first one decides.
pub record Head : Type 0 where
  pub called : List ℕ
  pub types : Option Signature
  pub has_body : Bool

-- ---- the labels of a switch so far

pub record Labels : Type 0 where
  pub cases : List ℤ
  pub has_default : Bool
  -- a declaration stood directly in the switch
  pub is_late : Bool

abbrev pub no_labels : Labels
no_labels = record { cases = []; has_default = false; is_late = false }

-- ---- what is in sight

pub record Sight : Type 0 where
  pub table : EngineTable
  -- oldest first, so that the last one of a name is the innermost
  pub names : List Entry
  -- how many of them stand outside the scope
  pub scope : ℕ
  -- the number of the next variable
  pub next : ℕ
  -- the cells of the frame, or of the globals, counted to one past the limit
  pub frame : ℕ
  pub structs : List Structure
  -- the declarations of functions so far
  pub seen : List Head
  -- outside all functions
  pub at_file : Bool
  -- the result of the function, where it is typed
  pub result : Option Ty
  -- `continue` may stand here, `break` may stand here
  pub in_loop : Bool
  pub may_break : Bool
  -- of the switch whose body this is directly
  pub labels : Option Labels

-- at the beginning of a unit
abbrev pub start : EngineTable → Sight
start table = record {
  table = table;
  names = [];
  scope = 0;
  next = 0;
  frame = 0;
  structs = [];
  seen = [];
  at_file = true;
  result = None;
  in_loop = false;
  may_break = false;
  labels = None;
}

-- ---- names

abbrev pub find_from : Option Entry → List ℕ → List Entry → Option Entry
find_from found x [] = found
find_from found x (e ∷ es) = find_from (if bytes_eq x e.called then Some e else found) x es

-- the innermost declaration of a name
abbrev pub find : List ℕ → List Entry → Option Entry
find x es = find_from None x es

-- What a name means, maybe nothing; None where its declaration isn't typed. Names of the unit stand
-- before the header's.
abbrev pub entry_means : EngineTable → List ℕ → Option Entry → Option (Option Meaning)
entry_means table x None = Some (option_map constant (constant_named x table.constants))
entry_means table x (Some e) = option_map Some e.means

abbrev pub name_means : Sight → List ℕ → Option (Option Meaning)
name_means c x = entry_means c.table x (find x c.names)

abbrev pub has_routine : List ℕ → EngineTable → Bool
has_routine x table = is_some (routine_named x table.routines)

abbrev pub has_constant : List ℕ → EngineTable → Bool
has_constant x table = is_some (constant_named x table.constants)

-- a name of the header
abbrev pub is_of_header : List ℕ → EngineTable → Bool
is_of_header x table = has_routine x table || has_constant x table

abbrev pub has_head : List ℕ → List Head → Bool
has_head x [] = false
has_head x (h ∷ hs) = if bytes_eq x h.called then true else has_head x hs

abbrev pub has_body : List ℕ → List Head → Bool
has_body x [] = false
has_body x (h ∷ hs) = if bytes_eq x h.called && h.has_body then true else has_body x hs

abbrev pub find_head : List ℕ → List Head → Option Head
find_head x [] = None
find_head x (h ∷ hs) = if bytes_eq x h.called then Some h else find_head x hs

-- the number of a function's body among the bodies
abbrev pub body_number : List ℕ → List Head → ℕ
body_number x [] = 0
body_number x (h ∷ hs) =
    if h.has_body then (if bytes_eq x h.called then 0 else suc
    (body_number x hs)) else body_number x hs

-- A declared name stood before in its scope; at file level functions and the names of the header
-- count too.
abbrev pub is_taken : Sight → List ℕ → Bool
is_taken c x =
    if c.at_file then (is_some (find x c.names) || (has_head x c.seen || is_of_header x c.table))
    else is_some (find x (drop c.scope c.names))

-- a function's name stood before as another thing's
abbrev pub is_taken_by_other : Sight → List ℕ → Bool
is_taken_by_other c x = is_some (find x c.names) || is_of_header x c.table

-- ---- types

-- what a type as it is written means
pub data Meant : Type 0 where
  IsRefused : Meant
  IsMissing : Meant
  Is : Ty → Meant

abbrev pub is_of_struct : ℕ → Option Members → Option Meant
is_of_struct n None = None
is_of_struct n (Some m) = Some (Is (ty.Struct n))

-- the first struct of a name decides; the number counts those before it
abbrev pub struct_means : ℕ → List ℕ → List Structure → Option Meant
struct_means n x [] = Some IsMissing
struct_means n x (s ∷ ss) = if bytes_eq x s.called then is_of_struct n s.members else struct_means
    (n + 1) x ss

abbrev pub has_struct : List ℕ → List Structure → Bool
has_struct x [] = false
has_struct x (s ∷ ss) = if bytes_eq x s.called then true else has_struct x ss

-- None where it is a struct whose declaration isn't typed
abbrev pub type_means : List Structure → TypeName → Option Meant
type_means structs spelled.Void = Some (Is ty.Void)
type_means structs spelled.Int = Some (Is ty.Int)
type_means structs spelled.Float = Some IsRefused
type_means structs spelled.String = Some (Is ty.Text)
type_means structs spelled.Object = Some (Is ty.Object)
type_means structs spelled.Vector = Some IsRefused
type_means structs spelled.Location = Some IsRefused
type_means structs spelled.Effect = Some (Is ty.Effect)
type_means structs spelled.Event = Some (Is ty.Event)
type_means structs spelled.Talent = Some IsRefused
type_means structs spelled.ItemProperty = Some IsRefused
type_means structs spelled.Action = Some IsRefused
type_means structs (spelled.Struct x) = struct_means 0 x structs

-- the type of a value that may be declared with it: none of a function that gives nothing
abbrev pub value_type : Meant → Option Ty
value_type (Is t) = if is_void t then None else Some t
value_type IsRefused = None
value_type IsMissing = None

-- the type of what a line declares, or of a parameter
abbrev pub declared_type : List Structure → TypeName → Option Ty
declared_type structs t = option_and_then value_type (type_means structs t)

-- the type of a function's result
abbrev pub any_type : Meant → Option Ty
any_type (Is t) = Some t
any_type IsRefused = None
any_type IsMissing = None

abbrev pub result_type : List Structure → TypeName → Option Ty
result_type structs t = option_and_then any_type (type_means structs t)

abbrev pub members_of : Option Structure → Option Members
members_of None = None
members_of (Some s) = s.members

abbrev pub members_in : List Structure → Ty → Option Members
members_in structs (ty.Struct n) = members_of (slice_get structs n)
members_in structs _ = None

abbrev pub find_member : List ℕ → List Member → Option Member
find_member x [] = None
find_member x (m ∷ ms) = if bytes_eq x m.called then Some m else find_member x ms

abbrev pub cells_of_members : Option Members → ℕ
cells_of_members None = 0
cells_of_members (Some m) = m.cells

-- the cells of a value
abbrev pub cells : List Structure → Ty → ℕ
cells structs ty.Void = 0
cells structs (ty.Struct n) = cells_of_members (members_of (slice_get structs n))
cells structs _ = 1

-- ---- cells, counted to one past a limit

abbrev pub counted_to_limit : ℕ → ℕ → ℕ → ℕ
counted_to_limit limit before more = min (before + more) (limit + 1)

-- the limit is passed here, and wasn't before
abbrev pub crosses : ℕ → ℕ → ℕ → Bool
crosses limit before now = not (nat_lt limit before) && nat_lt limit now

abbrev pub cells_if : List Structure → Option Ty → ℕ
cells_if structs None = 0
cells_if structs (Some t) = cells structs t

abbrev pub cell_limit : Sight → ℕ
cell_limit c = if c.at_file then global_cell_limit else frame_cell_limit

-- with so many cells more
abbrev pub frame_with : Sight → ℕ → ℕ
frame_with c n = counted_to_limit (cell_limit c) c.frame n

abbrev pub crosses_with : Sight → ℕ → Bool
crosses_with c n = crosses (cell_limit c) c.frame (frame_with c n)

-- ---- callees

pub record Called : Type 0 where
  pub callee : Callee
  pub params : List Param
  pub result : Ty
  pub is_callable : Bool

abbrev pub is_callable_role : Role → Bool
is_callable_role Uncallable = false
is_callable_role _ = true

abbrev pub of_routine : ℕ → Option Routine → Option Called
of_routine n None = None
of_routine n (Some r) =
    Some (record {
      callee = Engine n;
      params = r.params;
      result = r.result;
      is_callable = is_callable_role r.role;
    })

abbrev pub routine_called : List Routine → Option ℕ → Option Called
routine_called routines None = None
routine_called routines (Some n) = of_routine n (slice_get routines n)

abbrev pub of_signature : ℕ → Signature → Called
of_signature n s = record {
  callee = InUnit n;
  params = s.params;
  result = s.result;
  is_callable = true;
}

-- the types of a function's first declaration, maybe no declaration; None where it isn't typed
abbrev pub types_of_head : Option Head → Option (Option Signature)
types_of_head None = Some None
types_of_head (Some h) = option_map Some h.types

abbrev pub first_types : List ℕ → List Head → Option (Option Signature)
first_types x hs = types_of_head (find_head x hs)

-- What a call of this name calls, maybe nothing: a function of the unit with a body, by its first
-- declaration, and else a routine of the header. None where that declaration isn't typed.
abbrev pub callee : List Head → EngineTable → List ℕ → Option (Option Called)
callee hs table x =
    if has_body x hs then option_map (option_map (of_signature (body_number x hs)))
    (first_types x hs)
    else Some (routine_called table.routines (routine_named x table.routines))

-- the types of the parameters, where there are any
abbrev pub types_wanted : Option (Option Called) → List Param
types_wanted None = []
types_wanted (Some None) = []
types_wanted (Some (Some d)) = d.params

abbrev pub wanted : List Head → EngineTable → List ℕ → List Param
wanted hs table x = types_wanted (callee hs table x)

-- ---- what nodes do to it

-- a name declared with this type
abbrev pub variable_of : Sight → Ty → Meaning
variable_of c t = variable c.next (not c.at_file) t

abbrev pub declared : Sight → List ℕ → Option Ty → Sight
declared c x t = record c {
  names = c.names ++ record { called = x; means = option_map (variable_of c) t } ∷ [];
  next = c.next + 1;
  frame = frame_with c (cells_if c.structs t);
}

-- a scope begins
abbrev pub scope_entered : Sight → Sight
scope_entered c = record c { scope = length c.names; labels = None }

-- the statement of an `if`
abbrev pub inside : Sight → Sight
inside c = record c { labels = None }

-- and that of a loop
abbrev pub looped : Sight → Sight
looped c = record c { in_loop = true; may_break = true; labels = None }

-- the body of a switch, whose value has one cell
abbrev pub switched : Sight → Sight
switched c = record c {
  scope = length c.names;
  may_break = true;
  frame = frame_with c 1;
  labels = Some no_labels;
}

-- after something that is left all is as before it, but for the numbers of variables
abbrev pub left : Sight → Sight → Sight
left c d = record c { next = d.next }

abbrev pub with_case : Labels → Option Const → Labels
with_case l (Some (k.Int v)) = record l { cases = l.cases ++ v ∷ [] }
with_case l _ = l

abbrev pub with_default : Labels → Labels
with_default l = record l { has_default = true }

abbrev pub with_declaration : Labels → Labels
with_declaration l = record l { is_late = true }

abbrev pub case_seen : Sight → Option Const → Sight
case_seen c v = record c { labels = option_map (λ l. with_case l v) c.labels }

abbrev pub default_seen : Sight → Sight
default_seen c = record c { labels = option_map with_default c.labels }

abbrev pub declaration_seen : Sight → Sight
declaration_seen c = record c { labels = option_map with_declaration c.labels }

-- the scope of a function's parameters and body begins
abbrev pub function_begun : Sight → Option Ty → Sight
function_begun c result = record c {
  scope = length c.names;
  frame = 0;
  at_file = false;
  result = result;
  in_loop = false;
  may_break = false;
  labels = None;
}
