-- The role of a routine, by its name and types alone.
use Rattle.std.specs.Prelude.{◌≡◌, ◌+◌, slice_get, ℕ, Bool, true, false, ◌&&◌, ◌||◌, List, [], ◌∷◌, Option, None, Some, map, unwrap_or, if◌then◌else◌, nat_eq}
use Rattle.std.specs.List.{list_any}
use Rattle.std.specs.Str.{bytes_eq}
use Rattle.nwq_value.specs.declared.value.Ty.{Ty}
use Rattle.nwq_value.specs.declared.value.Ty.TheVariants.{Void, Int, Text, Object, Effect, Event, Action, Struct, Refused}
use Rattle.nwq_value.specs.declared.engine.Param.{Param}
use Rattle.nwq_value.specs.declared.engine.Role.{Role}
use Rattle.nwq_value.specs.declared.engine.Role.TheVariants.{Built, Pure, World, Uncallable}
use Rattle.nwq_value.specs.Header.{HeaderRoutine, header_routines}

-- the test of two types for equality
unfoldable pub ty_eq : Ty → Ty → Bool
ty_eq Void Void = true
ty_eq Int Int = true
ty_eq Text Text = true
ty_eq Object Object = true
ty_eq Effect Effect = true
ty_eq Event Event = true
ty_eq Action Action = true
ty_eq (Struct m) (Struct n) = nat_eq m n
ty_eq Refused Refused = true
ty_eq _ _ = false

unfoldable pub tys_eq : List Ty → List Ty → Bool
tys_eq [] [] = true
tys_eq (t ∷ ts) (u ∷ us) = ty_eq t u && tys_eq ts us
tys_eq _ _ = false

-- what tells routines apart, with the role of the row
pub record Signature : Type 0 where
  pub name : List ℕ
  pub gives : Ty
  pub takes : List Ty
  pub role : Option Role

abbrev pub signature : HeaderRoutine → Signature
signature h = record {
  name = h.name;
  gives = h.word.ty;
  takes = map (λ p. p.word.ty) h.params;
  role = h.role;
}

-- whether a routine with this name, this result and these parameter types has the signature
unfoldable pub has_signature : List ℕ → Ty → List Ty → Signature → Bool
has_signature name gives takes s = bytes_eq name s.name && ty_eq gives s.gives
    && tys_eq takes s.takes

-- the role of the first row with this signature
unfoldable pub role_of_row : List Signature → List ℕ → Ty → List Ty → Option Role
role_of_row [] name gives takes = None
role_of_row (s ∷ rest) name gives takes =
    if has_signature name gives takes s then s.role else role_of_row rest name gives takes

-- a type that no call can pass or give
abbrev pub is_barred_type : Ty → Bool
is_barred_type Refused = true
is_barred_type Action = true
is_barred_type _ = false

-- the role where the engine has no row: a function with a barred type can't be called, and each
-- other is a world function
unfoldable pub role_without_row : Ty → List Ty → Role
role_without_row gives takes = if is_barred_type gives
    || list_any is_barred_type takes then Uncallable else World

-- the role of a routine with this name, this result and these parameter types
unfoldable pub engine_role : List ℕ → Ty → List Ty → Role
engine_role name gives takes = unwrap_or
    (role_of_row (map signature header_routines) name gives takes) (role_without_row gives takes)

-- the types of parameters
abbrev pub types_of : List Param → List Ty
types_of [] = []
types_of (p ∷ ps) = p.ty ∷ types_of ps

-- the signatures of the built-in header by number
abbrev pub header_signatures : List Signature
header_signatures = map signature header_routines

-- a Built role is that of the header's function of its number, with its name and types
abbrev pub BuiltAsHeader : Type 0
BuiltAsHeader = (name : List ℕ) (gives : Ty) (takes : List Ty) (n : ℕ)
    → engine_role name gives takes ≡ Built n
    → slice_get header_signatures n
    ≡ Some (record { name = name; gives = gives; takes = takes; role = Some (Built n) })

-- a Pure role is that of the function which stands as many places after `abs`, with its name and
-- types
abbrev pub PureAsHeader : Type 0
PureAsHeader = (name : List ℕ) (gives : Ty) (takes : List Ty) (k : ℕ)
    → engine_role name gives takes ≡ Pure k
    → slice_get header_signatures (28 + k)
    ≡ Some (record { name = name; gives = gives; takes = takes; role = Some (Pure k) })

-- a routine with the name and types of row n has that row's role, or where the row has none, the
-- one that its types give
abbrev pub HeaderAsRole : Type 0
HeaderAsRole = (n : ℕ) (s : Signature) → slice_get header_signatures n ≡ Some s
    → engine_role s.name s.gives s.takes ≡ unwrap_or s.role (role_without_row s.gives s.takes)

-- a world function passes and gives values that a call can pass and give
abbrev pub WorldIsCallable : Type 0
WorldIsCallable = (name : List ℕ) (gives : Ty) (takes : List Ty)
    → engine_role name gives takes ≡ World
    → list_any is_barred_type (gives ∷ takes) ≡ false

-- an uncallable function would pass or give one that no call can
abbrev pub UncallableIsBarred : Type 0
UncallableIsBarred = (name : List ℕ) (gives : Ty) (takes : List Ty)
    → engine_role name gives takes ≡ Uncallable
    → list_any is_barred_type (gives ∷ takes) ≡ true
