-- What is in sight is typed: then a name, a callee and a type mean something.
use Rattle.std.proofs.Common.{◌≡◌, refl, ap, ℕ, ◌+◌, Bool, true, false, if◌then◌else◌, List, [], ◌∷◌, ◌++◌, bytes_eq, Option, None, Some, option_map}
use Rattle.std.proofs.lemmas.Option.{none-some}
use Rattle.nss_tree.specs.declared.constants.TypeName.{TypeName}
use Rattle.nss_tree.specs.declared.constants.TypeName.TheVariants as spelled
use Rattle.nss_tree.specs.Source.{SourceDeclared}
use Rattle.nwq_value.specs.declared.value.Ty.{Ty}
use Rattle.nwq_value.specs.declared.value.Ty.TheVariants as ty
use Rattle.nwq_value.specs.Engine.{EngineTable, routine_named, constant_named}
use Rattle.typing_rules.specs.Sight.{constant, Entry, Members, Structure, Signature, Head, Sight, Meant, IsRefused, IsMissing, Is, Called, find_from, find, entry_means, name_means, has_body}
use Rattle.typing_rules.specs.Sight.{find_head, types_of_head, first_types, body_number, is_of_struct, struct_means, type_means, of_signature, routine_called, callee, declared}
use Rattle.typing_rules.specs.Verdicts.{after_names}

abbrev pub Each : {A : Type 0} → (A → Type 0) → List A → Type 0
Each P [] = Unit {0}
Each P (x ∷ xs) = P x × Each P xs

pub each_last : {A : Type 0} (P : A → Type 0) (xs : List A) (x : A) → Each P xs → P x → Each P (xs ++ x ∷ [])
each_last P [] x h k = (k, tt)
each_last P (y ∷ ys) x h k = (h.0, each_last P ys x h.1 k)

abbrev pub IsThere : {A : Type 0} → Option A → Type 0
IsThere {A} o = (a : A) × (o ≡ Some a)

abbrev pub EntryTyped : Entry → Type 0
EntryTyped e = IsThere e.means

abbrev pub StructTyped : Structure → Type 0
StructTyped s = IsThere s.members

abbrev pub HeadTyped : Head → Type 0
HeadTyped h = IsThere h.types

-- the names and the structs in sight are typed
abbrev pub Sighted : Sight → Type 0
Sighted c = Each EntryTyped c.names × Each StructTyped c.structs

-- the functions of the unit too
abbrev pub Valued : List Head → Sight → Type 0
Valued hs c = Each HeadTyped hs × Sighted c

-- and the result of the function
abbrev pub Scoped : List Head → Sight → Type 0
Scoped hs c = Valued hs c × IsThere c.result

-- ---- names

abbrev FoundTyped : Option Entry → Type 0
FoundTyped None = Unit {0}
FoundTyped (Some e) = EntryTyped e

pick : (b : Bool) (e : Entry) (found : Option Entry) → EntryTyped e → FoundTyped found → FoundTyped (if b then Some e else found)
pick true e found h k = h
pick false e found h k = k

found_typed : (found : Option Entry) (x : List ℕ) (es : List Entry) → FoundTyped found → Each EntryTyped es → FoundTyped (find_from found x es)
found_typed found x [] h k = h
found_typed found x (e ∷ es) h k =
    found_typed (if bytes_eq x e.called then Some e else found) x es (pick (bytes_eq x e.called) e found k.0 h) k.1

means_there : (table : EngineTable) (x : List ℕ) (o : Option Entry) → FoundTyped o → IsThere (entry_means table x o)
means_there table x None h = (option_map constant (constant_named x table.constants), refl)
means_there table x (Some e) h = (Some h.0, ap (option_map Some) h.1)

pub name_there : (c : Sight) (x : List ℕ) → Each EntryTyped c.names → IsThere (name_means c x)
name_there c x h = means_there c.table x (find x c.names) (found_typed None x c.names tt h)

-- ---- functions

abbrev HeadFound : Option Head → Type 0
HeadFound None = Unit {0}
HeadFound (Some h) = HeadTyped h

head_pick : (b : Bool) (h : Head) (o : Option Head) → HeadTyped h → HeadFound o → HeadFound (if b then Some h else o)
head_pick true h o k l = k
head_pick false h o k l = l

head_found : (x : List ℕ) (hs : List Head) → Each HeadTyped hs → HeadFound (find_head x hs)
head_found x [] k = tt
head_found x (h ∷ hs) k = head_pick (bytes_eq x h.called) h (find_head x hs) k.0 (head_found x hs k.1)

types_there : (o : Option Head) → HeadFound o → IsThere (types_of_head o)
types_there None k = (None, refl)
types_there (Some h) k = (Some k.0, ap (option_map Some) k.1)

pub first_there : (x : List ℕ) (hs : List Head) → Each HeadTyped hs → IsThere (first_types x hs)
first_there x hs k = types_there (find_head x hs) (head_found x hs k)

callee_by : (b : Bool) (f : Option Signature → Option Called) (o : Option (Option Signature)) (r : Option Called) → IsThere o
    → IsThere (if b then option_map f o else Some r)
callee_by true f o r h = (f h.0, ap (option_map f) h.1)
callee_by false f o r h = (r, refl)

pub callee_there : (hs : List Head) (table : EngineTable) (x : List ℕ) → Each HeadTyped hs → IsThere (callee hs table x)
callee_there hs table x k =
    callee_by (has_body x hs) (option_map (of_signature (body_number x hs))) (first_types x hs) (routine_called table.routines (routine_named x table.routines))
    (first_there x hs k)

-- ---- types

of_struct : (n : ℕ) (o : Option Members) → IsThere o → IsThere (is_of_struct n o)
of_struct n None h = absurd (none-some h.0 h.1)
of_struct n (Some m) h = (Is (ty.Struct n), refl)

struct_pick : (b : Bool) (o p : Option Meant) → IsThere o → IsThere p → IsThere (if b then o else p)
struct_pick true o p h k = h
struct_pick false o p h k = k

struct_there : (n : ℕ) (x : List ℕ) (ss : List Structure) → Each StructTyped ss → IsThere (struct_means n x ss)
struct_there n x [] k = (IsMissing, refl)
struct_there n x (s ∷ ss) k =
    struct_pick (bytes_eq x s.called) (is_of_struct n s.members) (struct_means (n + 1) x ss) (of_struct n s.members k.0) (struct_there (n + 1) x ss k.1)

pub type_there : (structs : List Structure) (t : TypeName) → Each StructTyped structs → IsThere (type_means structs t)
type_there structs spelled.Void k = (Is ty.Void, refl)
type_there structs spelled.Int k = (Is ty.Int, refl)
type_there structs spelled.Float k = (IsRefused, refl)
type_there structs spelled.String k = (Is ty.Text, refl)
type_there structs spelled.Object k = (Is ty.Object, refl)
type_there structs spelled.Vector k = (IsRefused, refl)
type_there structs spelled.Location k = (IsRefused, refl)
type_there structs spelled.Effect k = (Is ty.Effect, refl)
type_there structs spelled.Event k = (Is ty.Event, refl)
type_there structs spelled.Talent k = (IsRefused, refl)
type_there structs spelled.ItemProperty k = (IsRefused, refl)
type_there structs spelled.Action k = (IsRefused, refl)
type_there structs (spelled.Struct x) k = struct_there 0 x structs k

-- ---- declarations with a type

pub declared_sighted : (c : Sight) (x : List ℕ) (t : Option Ty) → IsThere t → Sighted c → Sighted (declared c x t)
declared_sighted c x None h k = absurd (none-some h.0 h.1)
declared_sighted c x (Some t) h k = (each_last EntryTyped c.names _ k.0 (_, refl), k.1)

pub names_sighted : (c : Sight) (t : Option Ty) (ds : List SourceDeclared) → IsThere t → Sighted c → Sighted (after_names c t ds)
names_sighted c t [] h k = k
names_sighted c t (d ∷ ds) h k = names_sighted (declared c d.name t) t ds h (declared_sighted c d.name t h k)

-- the declared names leave the result of the function as it is
pub names_result : (c : Sight) (t : Option Ty) (ds : List SourceDeclared) → (after_names c t ds).result ≡ c.result
names_result c t [] = refl
names_result c t (d ∷ ds) = names_result (declared c d.name t) t ds
