-- What stands in sight keeps bounds, whatever the tree is: types are of values, constants are
-- within theirs.
use Rattle.std.proofs.Common.{◌≡◌, ℕ, ◌+◌, ◌≤◌, Bool, true, false, if◌then◌else◌, List, [], ◌∷◌, Option, None, Some, option_map, bytes_eq, refl, sym, subst}
use Rattle.std.proofs.lemmas.Option.{same_Some, none-some}
use Rattle.std.proofs.lemmas.Int.{wrapping_neg_is, SFits-int_wrap}
use Rattle.std.specs.Prelude.{FitsSigned, ℤ, neg_ℤ}
use Rattle.std.specs.Int.{w32}
use Rattle.std.specs.List.{AllByRecursion}
use Rattle.nwq_value.specs.declared.value.Ty.{Ty}
use Rattle.nwq_value.specs.declared.value.Ty.TheVariants as ty
use Rattle.nwq_value.specs.declared.engine.Const.{Const}
use Rattle.nwq_value.specs.Engine.{EngineTable, Constant, IsTable, IsConstant, AreConstants, constant_named}
use Rattle.nwq_value.specs.Limits.{struct_cell_limit}
use Rattle.nss_tree.specs.declared.constants.Constant.{Constant as Written}
use Rattle.nss_tree.specs.declared.constants.Constant.TheVariants as spelled
use Rattle.nss_tree.specs.declared.constants.TypeName.{TypeName}
use Rattle.nss_tree.specs.declared.constants.TypeName.TheVariants as word
use Rattle.nss_tree.specs.Source.{SourceDeclared, SourceStmt, SourceParameter}
use Rattle.nss_tree.specs.Statements as stmt
use Rattle.typing_rules.specs.Types.{is_void}
use Rattle.typing_rules.specs.Sight.{Meaning, variable, constant, Entry, Member, Members, Structure, Sight, Meant, IsRefused, IsMissing, Is, find_from, find, entry_means, name_means, struct_means}
use Rattle.typing_rules.specs.Sight.{is_of_struct, type_means, value_type, any_type, declared_type, variable_of, declared}
use Rattle.typing_rules.specs.Rules.{ConstantMeant, Value, IsFloat, NoName, NoConstant, constant_means, constant_rule, constant_rows, constant_named as as_constant, line_rows}
use Rattle.typing_rules.specs.Verdicts.{line_type, constant_value, after_names, after, parameter_declared, after_params}
use Rattle.nss_parser.specs.Sizes.{IsKnownConstant}
use Rattle.typing_laws.proofs.Lists.{Holds, holds_of, all_last, then_is, asked_is}

-- neither an action nor one of the types whose values are left out
abbrev pub IsValue : Ty → Type 0
IsValue ty.Action = ⊥
IsValue ty.Refused = ⊥
IsValue _ = Unit {0}

abbrev pub IsMeaning : Meaning → Type 0
IsMeaning (variable n is_local t) = IsValue t
IsMeaning (constant k) = IsConstant k

abbrev pub IsEntry : Entry → Type 0
IsEntry e = Holds IsMeaning e.means

abbrev pub IsMember : Member → Type 0
IsMember m = IsValue m.ty × (m.before ≤ struct_cell_limit)

abbrev pub IsStructure : Structure → Type 0
IsStructure s = Holds (λ m. AllByRecursion IsMember m.fields) s.members

pub record InBounds (c : Sight) : Type 0 where
  pub table : IsTable c.table
  pub names : AllByRecursion IsEntry c.names
  pub structs : AllByRecursion IsStructure c.structs

-- ---- names

pick : (b : Bool) (e : Entry) (found : Option Entry) → IsEntry e → Holds IsEntry found → Holds IsEntry (if b then Some e else found)
pick true e found h k = h
pick false e found h k = k

found_bounds : (found : Option Entry) (x : List ℕ) (es : List Entry) → Holds IsEntry found → AllByRecursion IsEntry es → Holds IsEntry (find_from found x es)
found_bounds found x [] h k = h
found_bounds found x (e ∷ es) h k =
    found_bounds (if bytes_eq x e.called then Some e else found) x es (pick (bytes_eq x e.called) e found k.0 h) k.1

header_pick : (b : Bool) (c : Constant) (o : Option Const) → IsConstant c.value → Holds IsConstant o → Holds IsConstant (if b then Some c.value else o)
header_pick true c o h k = h
header_pick false c o h k = k

pub header_bounds : (x : List ℕ) (cs : List Constant) → AreConstants cs → Holds IsConstant (constant_named x cs)
unfolding constant_named
header_bounds x [] h = tt
header_bounds x (c ∷ cs) h = header_pick (bytes_eq x c.name) c (constant_named x cs) h.0 (header_bounds x cs h.1)

as_meaning : (o : Option Const) → Holds IsConstant o → Holds IsMeaning (option_map constant o)
as_meaning None h = tt
as_meaning (Some k) h = h

some_meaning : (o : Option Meaning) → Holds IsMeaning o → Holds (Holds IsMeaning) (option_map Some o)
some_meaning None h = tt
some_meaning (Some m) h = h

entry_bounds : (table : EngineTable) (x : List ℕ) (o : Option Entry) → AreConstants table.constants → Holds IsEntry o → Holds (Holds IsMeaning) (entry_means table x o)
entry_bounds table x None all h = as_meaning (constant_named x table.constants) (header_bounds x table.constants all)
entry_bounds table x (Some e) all h = some_meaning e.means h

pub name_bounds : (c : Sight) (x : List ℕ) → InBounds c → Holds (Holds IsMeaning) (name_means c x)
name_bounds c x h = entry_bounds c.table x (find x c.names) h.table.constants (found_bounds None x c.names tt h.names)

-- ---- constants as they are written

abbrev IsMeantConstant : ConstantMeant → Type 0
IsMeantConstant (Value k) = IsConstant k
IsMeantConstant IsFloat = Unit {0}
IsMeantConstant NoName = Unit {0}
IsMeantConstant NoConstant = Unit {0}

signed_bounds : (negated : Bool) (n : ℕ) (v : ℤ) (c : Sight) → FitsSigned w32 v → Holds IsMeantConstant (constant_means c (spelled.Int n negated v))
signed_bounds false n v c h = h
signed_bounds true n v c h = subst (FitsSigned w32) (sym (wrapping_neg_is w32 v h)) (SFits-int_wrap w32 (neg_ℤ v))

named_constant : (o : Option Meaning) → Holds IsMeaning o → IsMeantConstant (as_constant o)
named_constant None h = tt
named_constant (Some (constant k)) h = h
named_constant (Some (variable n is_local t)) h = tt

all_named : (o : Option (Option Meaning)) → Holds (Holds IsMeaning) o → Holds IsMeantConstant (option_map as_constant o)
all_named None h = tt
all_named (Some m) h = named_constant m h

meant_bounds : (c : Sight) (k : Written) → InBounds c → IsKnownConstant k → Holds IsMeantConstant (constant_means c k)
meant_bounds c (spelled.Int n negated v) h known = signed_bounds negated n v c known
meant_bounds c (spelled.Float n negated) h known = tt
meant_bounds c (spelled.Text n v) h known = known
meant_bounds c (spelled.Name n x) h known = all_named (name_means c x) (name_bounds c x h)
meant_bounds c (spelled.ObjectSelf n) h known = tt
meant_bounds c (spelled.ObjectInvalid n) h known = tt

ruled_bounds : (m : ConstantMeant) (v : Const) → IsMeantConstant m → constant_rule m ≡ Some v → IsConstant v
ruled_bounds (Value k) v h e = subst IsConstant (same_Some k v e) h
ruled_bounds IsFloat v h e = absurd (none-some v e)
ruled_bounds NoName v h e = absurd (none-some v e)
ruled_bounds NoConstant v h e = absurd (none-some v e)

-- one that is typed by these parts
pub typed_constant : (c : Sight) (k : Written) (m : ConstantMeant) (v : Const) → InBounds c → IsKnownConstant k → constant_means c k ≡ Some m → constant_rule m ≡ Some v
    → IsConstant v
typed_constant c k m v h known is gives = ruled_bounds m v (holds_of IsMeantConstant (constant_means c k) m (meant_bounds c k h known) is) gives

pub constant_bounds : (c : Sight) (k : Written) (v : Const) → InBounds c → IsKnownConstant k → constant_value c k ≡ Some v → IsConstant v
constant_bounds c k v h known e =
    let a = asked_is constant_rows constant_rule (constant_means c k) v e in typed_constant c k a.0 v h known a.1 a.2

-- ---- types of lines

abbrev IsMeantType : Meant → Type 0
IsMeantType (Is t) = IsValue t
IsMeantType IsRefused = Unit {0}
IsMeantType IsMissing = Unit {0}

of_struct : (n : ℕ) (o : Option Members) → Holds IsMeantType (is_of_struct n o)
of_struct n None = tt
of_struct n (Some m) = tt

struct_pick : (b : Bool) (o p : Option Meant) → Holds IsMeantType o → Holds IsMeantType p → Holds IsMeantType (if b then o else p)
struct_pick true o p h k = h
struct_pick false o p h k = k

struct_meant : (n : ℕ) (x : List ℕ) (ss : List Structure) → Holds IsMeantType (struct_means n x ss)
struct_meant n x [] = tt
struct_meant n x (s ∷ ss) =
    struct_pick (bytes_eq x s.called) (is_of_struct n s.members) (struct_means (n + 1) x ss) (of_struct n s.members) (struct_meant (n + 1) x ss)

type_meant : (structs : List Structure) (t : TypeName) → Holds IsMeantType (type_means structs t)
type_meant structs word.Void = tt
type_meant structs word.Int = tt
type_meant structs word.Float = tt
type_meant structs word.String = tt
type_meant structs word.Object = tt
type_meant structs word.Vector = tt
type_meant structs word.Location = tt
type_meant structs word.Effect = tt
type_meant structs word.Event = tt
type_meant structs word.Talent = tt
type_meant structs word.ItemProperty = tt
type_meant structs word.Action = tt
type_meant structs (word.Struct x) = struct_meant 0 x structs

any_is : (m : Meant) (t : Ty) → IsMeantType m → any_type m ≡ Some t → IsValue t
any_is (Is s) t h e = subst IsValue (same_Some s t e) h
any_is IsRefused t h e = absurd (none-some t e)
any_is IsMissing t h e = absurd (none-some t e)

value_pick : (b : Bool) (s t : Ty) → IsValue s → (if b then None else Some s) ≡ Some t → IsValue t
value_pick true s t h e = absurd (none-some t e)
value_pick false s t h e = subst IsValue (same_Some s t e) h

value_is : (m : Meant) (t : Ty) → IsMeantType m → value_type m ≡ Some t → IsValue t
value_is (Is s) t h e = value_pick (is_void s) s t h e
value_is IsRefused t h e = absurd (none-some t e)
value_is IsMissing t h e = absurd (none-some t e)

pub any_bounds : (structs : List Structure) (n : TypeName) (m : Meant) (t : Ty) → type_means structs n ≡ Some m → any_type m ≡ Some t → IsValue t
any_bounds structs n m t is gives = any_is m t (holds_of IsMeantType (type_means structs n) m (type_meant structs n) is) gives

pub value_bounds : (structs : List Structure) (n : TypeName) (m : Meant) (t : Ty) → type_means structs n ≡ Some m → value_type m ≡ Some t → IsValue t
value_bounds structs n m t is gives = value_is m t (holds_of IsMeantType (type_means structs n) m (type_meant structs n) is) gives

pub as_holds : {A : Type 0} (P : A → Type 0) (o : Option A) → ((a : A) → o ≡ Some a → P a) → Holds P o
as_holds P None h = tt
as_holds P (Some a) h = h a refl

pub line_bounds : (structs : List Structure) (n : TypeName) → Holds IsValue (line_type structs n)
line_bounds structs n = as_holds IsValue (line_type structs n) (λ t e.
    let a = asked_is line_rows value_type (type_means structs n) t e in value_bounds structs n a.0 t a.1 a.2)

pub declared_bounds : (structs : List Structure) (n : TypeName) → Holds IsValue (declared_type structs n)
declared_bounds structs n = as_holds IsValue (declared_type structs n) (λ t e.
    let a = then_is value_type (type_means structs n) t e in value_bounds structs n a.0 t a.1 a.2)

-- ---- what nodes do to it

meaning_of : (c : Sight) (t : Option Ty) → Holds IsValue t → Holds IsMeaning (option_map (variable_of c) t)
meaning_of c None h = tt
meaning_of c (Some t) h = h

pub declared_keeps : (c : Sight) (x : List ℕ) (t : Option Ty) → Holds IsValue t → InBounds c → InBounds (declared c x t)
declared_keeps c x t k h = record {
  table = h.table;
  names = all_last IsEntry c.names (record { called = x; means = option_map (variable_of c) t }) h.names (meaning_of c t k);
  structs = h.structs;
}

pub names_keep : (c : Sight) (t : Option Ty) (ds : List SourceDeclared) → Holds IsValue t → InBounds c → InBounds (after_names c t ds)
names_keep c t [] k h = h
names_keep c t (d ∷ ds) k h = names_keep (declared c d.name t) t ds k (declared_keeps c d.name t k h)

pub params_keep : (c : Sight) (ps : List SourceParameter) → InBounds c → InBounds (after_params c ps)
params_keep c [] h = h
params_keep c (p ∷ ps) h =
    params_keep (parameter_declared c p) ps (declared_keeps c p.name (declared_type c.structs p.ty) (declared_bounds c.structs p.ty) h)

-- what has the same table, names and structs
pub same_keeps : (c d : Sight) → d.table ≡ c.table → d.names ≡ c.names → d.structs ≡ c.structs → InBounds c → InBounds d
same_keeps c d a b e h = record {
  table = subst IsTable (sym a) h.table;
  names = subst (AllByRecursion IsEntry) (sym b) h.names;
  structs = subst (AllByRecursion IsStructure) (sym e) h.structs;
}

-- after a statement
pub stmt_keeps : (c : Sight) (x : SourceStmt) → InBounds c → InBounds (after c x)
stmt_keeps c (stmt.block n xs) h = same_keeps c (after c (stmt.block n xs)) refl refl refl h
stmt_keeps c (stmt.empty n) h = h
stmt_keeps c (stmt.expression n e) h = h
stmt_keeps c (stmt.if_only n e a) h = same_keeps c (after c (stmt.if_only n e a)) refl refl refl h
stmt_keeps c (stmt.if_else n e a b) h = same_keeps c (after c (stmt.if_else n e a b)) refl refl refl h
stmt_keeps c (stmt.while_loop n e a) h = same_keeps c (after c (stmt.while_loop n e a)) refl refl refl h
stmt_keeps c (stmt.do_loop n a e) h = same_keeps c (after c (stmt.do_loop n a e)) refl refl refl h
stmt_keeps c (stmt.for_loop n x y z a) h = same_keeps c (after c (stmt.for_loop n x y z a)) refl refl refl h
stmt_keeps c (stmt.switch n e xs) h = same_keeps c (after c (stmt.switch n e xs)) refl refl refl h
stmt_keeps c (stmt.break_off n) h = h
stmt_keeps c (stmt.continue_on n) h = h
stmt_keeps c (stmt.return_from n e) h = h
stmt_keeps c (stmt.declaration n t ds) h =
    same_keeps (after_names c (line_type c.structs t) ds) (after c (stmt.declaration n t ds)) refl refl refl
    (names_keep c (line_type c.structs t) ds (line_bounds c.structs t) h)
stmt_keeps c (stmt.case_label n k) h = same_keeps c (after c (stmt.case_label n k)) refl refl refl h
stmt_keeps c (stmt.default_label n) h = same_keeps c (after c (stmt.default_label n)) refl refl refl h
