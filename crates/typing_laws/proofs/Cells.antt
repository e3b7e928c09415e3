-- Cells that are counted up to a limit: where the limit isn't crossed, the count is the sum.
use Rattle.std.proofs.Common.{◌≡◌, ℕ, zero, suc, ◌+◌, ◌*◌, ◌≤◌, Bool, true, false, not, nat_lt, List, [], ◌∷◌, ◌++◌, length, Option, None, Some, refl, sym, ap, subst, ◌∙◌, arith, length-append}
use Rattle.std.proofs.lemmas.Option.{same_Some, none-some}
use Rattle.std.proofs.lemmas.Bool.{true≢false, and_parts}
use Rattle.std.proofs.lemmas.Bool.Decides.{nat_tests}
use Rattle.std.specs.Prelude.{◌&&◌, min}
use Rattle.std.specs.Option.{option_and_then}
use Rattle.std.specs.List.{AllByRecursion, flat_map}
use Rattle.nwq_value.specs.declared.value.Ty.{Ty}
use Rattle.nwq_value.specs.declared.value.Ty.TheVariants as ty
use Rattle.nwq_value.specs.declared.engine.Const.{Const}
use Rattle.nwq_value.specs.declared.engine.Const.TheVariants as const
use Rattle.nwq_value.specs.Engine.{IsConstant}
use Rattle.nwq_value.specs.Limits.{struct_cell_limit, frame_cell_limit}
use Rattle.nss_tree.specs.declared.constants.Constant.{Constant as Written}
use Rattle.nss_tree.specs.declared.units.Identifier.{Identifier}
use Rattle.nss_tree.specs.Source.{SourceLine, SourceParameter}
use Rattle.nss_tree.specs.Counts.{one_if}
use Rattle.typing_rules.specs.Nodes.{fine, two, if_there, present_if}
use Rattle.typing_rules.specs.Typed.{TypedLine, TypedParameter}
use Rattle.typing_rules.specs.Sight.{Members, Structure, Sight, Meant, type_means, value_type, declared_type, cells, cells_if, cells_of_members, counted_to_limit, crosses, cell_limit, crosses_with}
use Rattle.typing_rules.specs.Sight.{is_taken}
use Rattle.typing_rules.specs.Rules.{Fields, is_among, fields_with, crosses_fields, field_rule, field_rows, default_fits, is_behind, parameter_of, parameter_rule, parameter_rows, params_of}
use Rattle.typing_rules.specs.Verdicts.{line_type, constant_value, field_added, field_verdict, after_fields, fields_fine, line_of, line_fine, after_line, lines_fine, members_of_line, members_of_lines}
use Rattle.typing_rules.specs.Verdicts.{parameter_verdict, parameter_declared, late_after, params_fine}
use Rattle.typing_rules.specs.Cells.{Structs, cell_types, line_cells}
use Rattle.emission_rules.specs.Bounds.{IsCell}
use Rattle.emission_rules.specs.Layout.{params_cells}
use Rattle.nss_parser.specs.Sizes.{IsKnownDefault, AreKnownParams}
use Rattle.typing_laws.proofs.Lists.{Holds, holds_of, all_last, map_is, then_is, when_is, one_more_is, two_is, asked_is}
use Rattle.typing_laws.proofs.InSight.{IsValue, IsMember, InBounds, line_bounds, value_bounds, declared_bounds, declared_keeps, constant_bounds}
use Rattle.typing_laws.proofs.Callees.{AreDefaults, count_defaults}
use Rattle.typing_laws.proofs.Expressions.{AreStructs, type_cells}

-- ---- counts

pub record Counts (limit before more : ℕ) : Type 0 where
  pub within : before + more ≤ limit
  pub count_is : counted_to_limit limit before more ≡ before + more

counts_by : (limit before more : ℕ) (b : Bool) → nat_lt limit (min (before + more) (limit + 1)) ≡ b → (not (nat_lt limit before) && b) ≡ false → before ≤ limit → Counts limit before more
counts_by limit before more true is none le =
    let a : nat_lt limit before ≡ false = grind (arith, nat_tests) in
    let t : (not (nat_lt limit before) && true) ≡ true = rw a refl in
    absurd (true≢false (sym t ∙ none))
counts_by limit before more false is none le =
    let a : min (before + more) (limit + 1) ≤ limit = grind (arith, nat_tests) in
    let b : before + more ≤ limit = omega (arith, a) in
    record { within = b; count_is = omega (arith, b) }

pub counts : (limit before more : ℕ) → crosses limit before (counted_to_limit limit before more) ≡ false → before ≤ limit → Counts limit before more
counts limit before more none le = counts_by limit before more (nat_lt limit (counted_to_limit limit before more)) refl none le

not_true : (b : Bool) → not b ≡ true → b ≡ false
not_true true e = absurd (true≢false (sym e))
not_true false e = refl

-- ---- the fields of a struct

-- so many for each element
abbrev pub times : {A : Type 0} → ℕ → List A → ℕ
times k [] = 0
times k (x ∷ xs) = k + times k xs

abbrev pub lines_cells : List Structure → List TypedLine → ℕ
lines_cells structs [] = 0
lines_cells structs (u ∷ us) = times (cells structs u.ty) u.names + lines_cells structs us

pub record FieldsCount (structs : List Structure) (s : Fields) (t : Option Ty) (xs : List Identifier) (n : ℕ) : Type 0 where
  pub within : s.count + n ≤ struct_cell_limit
  pub count_is : (after_fields structs s t xs).count ≡ s.count + n

fields_count : (structs : List Structure) (s : Fields) (t : Option Ty) (u : Ty) (xs ys : List Identifier) → t ≡ Some u → s.count ≤ struct_cell_limit
    → fields_fine structs s t xs ≡ Some ys → FieldsCount structs s t xs (times (cells structs u) ys)
fields_count structs s t u [] ys is le e =
    subst (λ zs. FieldsCount structs s t [] (times (cells structs u) zs)) (same_Some [] ys e) (record { within = omega (arith, le); count_is = omega arith })
fields_count structs s t u (x ∷ xs) ys is le e =
    let m = one_more_is (fine (field_verdict structs s t x)) (fields_fine structs (field_added structs s t x) t xs) ys e in
    let a = asked_is (field_rows structs s x) (field_rule structs s x) t m.0 m.2 in
    let w = when_is (not (is_among x.name s.names) && not (crosses_fields s (cells structs a.0))) x m.0 a.2 in
    let free = (and_parts (not (is_among x.name s.names)) (not (crosses_fields s (cells structs a.0))) w.0).1 in
    let same : a.0 ≡ u = same_Some a.0 u (sym a.1 ∙ is) in
    let none : crosses_fields s (cells structs u) ≡ false = subst (λ v. crosses_fields s (cells structs v) ≡ false) same (not_true (crosses_fields s (cells structs a.0)) free) in
    let k = counts struct_cell_limit s.count (cells structs u) none le in
    let added : (field_added structs s t x).count ≡ s.count + cells structs u = ap (λ (o : Option Ty). fields_with s (cells_if structs o)) is ∙ k.count_is in
    let room = k.within in
    let rest = fields_count structs (field_added structs s t x) t u xs m.1 is (omega (arith, added, room)) m.3 in
    let p = rest.within in let q = rest.count_is in
    subst (λ zs. FieldsCount structs s t (x ∷ xs) (times (cells structs u) zs)) m.4 (record { within = omega (arith, added, p); count_is = omega (arith, added, q) })

pub record LinesCount (structs : List Structure) (s : Fields) (us : List TypedLine) : Type 0 where
  pub within : s.count + lines_cells structs us ≤ struct_cell_limit
  pub values : AllByRecursion (λ u. IsValue u.ty) us

pub lines_count : (structs : List Structure) (s : Fields) (ls : List SourceLine) (us : List TypedLine) → s.count ≤ struct_cell_limit → lines_fine structs s ls ≡ Some us
    → LinesCount structs s us
lines_count structs s [] us le e = subst (LinesCount structs s) (same_Some [] us e) (record { within = omega (arith, le); values = tt })
lines_count structs s (l ∷ ls) us le e =
    let m = one_more_is (line_fine structs s l) (lines_fine structs (after_line structs s l) ls) us e in
    let i = map_is (line_of l.token) (two (line_type structs l.ty) (fields_fine structs s (line_type structs l.ty) l.names)) m.0 m.2 in
    let p = two_is (line_type structs l.ty) (fields_fine structs s (line_type structs l.ty) l.names) i.0 i.1 in
    let f = fields_count structs s (line_type structs l.ty) i.0.0 l.names i.0.1 p.0 le p.1 in
    let a = f.within in let b = f.count_is in
    let rest = lines_count structs (after_line structs s l) ls m.1 (omega (arith, a, b)) m.3 in
    let v = holds_of IsValue (line_type structs l.ty) i.0.0 (line_bounds structs l.ty) p.0 in
    let d = rest.within in
    let one : LinesCount structs s (line_of l.token i.0 ∷ m.1) = record { within = omega (arith, a, b, d); values = (v, rest.values) } in
    subst (LinesCount structs s) (ap (λ u. u ∷ m.1) i.2 ∙ m.4) one

-- the members of a struct, and where they stand in it
pub record MembersKeep (n : ℕ) (m : Members) : Type 0 where
  pub fields : AllByRecursion IsMember m.fields
  pub cells : m.cells ≡ n

line_members : (structs : List Structure) (t : Ty) (m : Members) (xs : List Identifier) (n : ℕ) → IsValue t → MembersKeep n m → n + times (cells structs t) xs ≤ struct_cell_limit
    → MembersKeep (n + times (cells structs t) xs) (members_of_line structs t m xs)
line_members structs t m [] n v h le = let a = h.cells in record { fields = h.fields; cells = omega (arith, a) }
line_members structs t m (x ∷ xs) n v h le =
    let a = h.cells in
    let next : Members = record { fields = m.fields ++ record { called = x.name; ty = t; before = m.cells } ∷ []; cells = m.cells + cells structs t } in
    let b : MembersKeep (n + cells structs t) next = record {
      fields = all_last IsMember m.fields (record { called = x.name; ty = t; before = m.cells }) h.fields (v, omega (arith, a, le));
      cells = omega (arith, a);
    } in
    let r = line_members structs t next xs (n + cells structs t) v b (omega (arith, le)) in
    let d = r.cells in record { fields = r.fields; cells = omega (arith, d) }

pub lines_members : (structs : List Structure) (m : Members) (us : List TypedLine) (n : ℕ) → AllByRecursion (λ u. IsValue u.ty) us → MembersKeep n m
    → n + lines_cells structs us ≤ struct_cell_limit → MembersKeep (n + lines_cells structs us) (members_of_lines structs m us)
lines_members structs m [] n v h le = let a = h.cells in record { fields = h.fields; cells = omega (arith, a) }
lines_members structs m (u ∷ us) n v h le =
    let a = line_members structs u.ty m u.names n v.0 h (omega (arith, le)) in
    let b = lines_members structs (members_of_line structs u.ty m u.names) us (n + times (cells structs u.ty) u.names) v.1 a (omega (arith, le)) in
    let d = b.cells in record { fields = b.fields; cells = omega (arith, d) }

-- ---- the same structs in a layout

abbrev pub Agree : List Structure → Structs → Type 0
Agree [] [] = Unit {0}
Agree (s ∷ ss) (k ∷ ks) = (cells_of_members s.members ≡ length k) × Agree ss ks
Agree [] (k ∷ ks) = ⊥
Agree (s ∷ ss) [] = ⊥

pub agree_last : (ss : List Structure) (ks : Structs) (s : Structure) (k : List Ty) → Agree ss ks → cells_of_members s.members ≡ length k → Agree (ss ++ s ∷ []) (ks ++ k ∷ [])
agree_last [] [] s k h e = (e, tt)
agree_last (x ∷ xs) (y ∷ ys) s k h e = (h.0, agree_last xs ys s k h.1 e)
agree_last [] (y ∷ ys) s k h e = absurd h
agree_last (x ∷ xs) [] s k h e = absurd h

all_join : {A : Type 0} (P : A → Type 0) (xs ys : List A) → AllByRecursion P xs → AllByRecursion P ys → AllByRecursion P (xs ++ ys)
all_join P [] ys h k = k
all_join P (x ∷ xs) ys h k = (h.0, all_join P xs ys h.1 k)

struct_agrees : (ss : List Structure) (ks : Structs) (n : ℕ) → Agree ss ks → cells ss (ty.Struct n) ≡ length (cell_types ks (ty.Struct n))
struct_agrees [] [] n h = refl
struct_agrees (s ∷ ss) (k ∷ ks) zero h = h.0
struct_agrees (s ∷ ss) (k ∷ ks) (suc n) h = struct_agrees ss ks n h.1
struct_agrees [] (k ∷ ks) n h = absurd h
struct_agrees (s ∷ ss) [] n h = absurd h

pub type_agrees : (ss : List Structure) (ks : Structs) (t : Ty) → Agree ss ks → cells ss t ≡ length (cell_types ks t)
type_agrees ss ks ty.Void h = refl
type_agrees ss ks ty.Int h = refl
type_agrees ss ks ty.Text h = refl
type_agrees ss ks ty.Object h = refl
type_agrees ss ks ty.Effect h = refl
type_agrees ss ks ty.Event h = refl
type_agrees ss ks ty.Action h = refl
type_agrees ss ks (ty.Struct n) h = struct_agrees ss ks n h
type_agrees ss ks ty.Refused h = refl

-- what a list of lines of a struct comes to in cells
pub record LineCells (n : ℕ) (ts : List Ty) : Type 0 where
  pub count_is : length ts ≡ n
  pub cells : AllByRecursion IsCell ts

joined : (n m : ℕ) (xs ys : List Ty) → LineCells n xs → LineCells m ys → LineCells (n + m) (xs ++ ys)
joined n m xs ys h k =
    let a = h.count_is in let b = k.count_is in let e = length-append xs ys in
    record { count_is = omega (arith, a, b, e); cells = all_join IsCell xs ys h.cells k.cells }

names_cells : (n : ℕ) (ts : List Ty) (xs : List Identifier) → LineCells n ts → LineCells (times n xs) (flat_map (λ x. ts) xs)
names_cells n ts [] h = record { count_is = refl; cells = tt }
names_cells n ts (x ∷ xs) h = joined n (times n xs) ts (flat_map (λ y. ts) xs) h (names_cells n ts xs h)

pub struct_lines : (ss : List Structure) (ks : Structs) (us : List TypedLine) → Agree ss ks → AreStructs ks → AllByRecursion (λ u. IsValue u.ty) us
    → LineCells (lines_cells ss us) (flat_map (line_cells ks) us)
struct_lines ss ks [] h good v = record { count_is = refl; cells = tt }
struct_lines ss ks (u ∷ us) h good v =
    let one : LineCells (cells ss u.ty) (cell_types ks u.ty) = record { count_is = sym (type_agrees ss ks u.ty h); cells = (type_cells ks u.ty good v.0).1 } in
    joined (times (cells ss u.ty) u.names) (lines_cells ss us) (line_cells ks u) (flat_map (line_cells ks) us)
    (names_cells (cells ss u.ty) (cell_types ks u.ty) u.names one) (struct_lines ss ks us h good v.1)

-- ---- the parameters of a function

present_is : {B : Type 0} (o : Option B) (q : Option B) → present_if o ≡ Some q → (b : B) × (o ≡ Some b) × (Some b ≡ q)
present_is None q e = absurd (none-some q e)
present_is (Some b) q e = (b, refl, same_Some _ _ e)

default_bounds : (c : Sight) (o : Option Written) (v : Option Const) → InBounds c → IsKnownDefault o → if_there (constant_value c) o ≡ Some v → Holds IsConstant v
default_bounds c None v h known e = subst (Holds IsConstant) (same_Some None v e) tt
default_bounds c (Some k) v h known e =
    let p = present_is (constant_value c k) v e in subst (Holds IsConstant) p.2 (constant_bounds c k p.0 h known p.1)

-- a default takes a cell
default_cell : (structs : List Structure) (t : Ty) (v : Option Const) → default_fits t v ≡ true → one_if v ≤ cells structs t
default_cell structs t None e = omega arith
default_cell structs ty.Void (Some (const.Int n)) e = absurd (true≢false (sym e))
default_cell structs ty.Void (Some (const.Text bytes)) e = absurd (true≢false (sym e))
default_cell structs ty.Void (Some const.SelfObject) e = absurd (true≢false (sym e))
default_cell structs ty.Void (Some const.InvalidObject) e = absurd (true≢false (sym e))
default_cell structs ty.Int (Some k) e = omega arith
default_cell structs ty.Text (Some k) e = omega arith
default_cell structs ty.Object (Some k) e = omega arith
default_cell structs ty.Effect (Some k) e = omega arith
default_cell structs ty.Event (Some k) e = omega arith
default_cell structs ty.Action (Some k) e = omega arith
default_cell structs (ty.Struct n) (Some (const.Int m)) e = absurd (true≢false (sym e))
default_cell structs (ty.Struct n) (Some (const.Text bytes)) e = absurd (true≢false (sym e))
default_cell structs (ty.Struct n) (Some const.SelfObject) e = absurd (true≢false (sym e))
default_cell structs (ty.Struct n) (Some const.InvalidObject) e = absurd (true≢false (sym e))
default_cell structs ty.Refused (Some k) e = omega arith

pub record ParamsKeep (frame n : ℕ) (ts : List TypedParameter) : Type 0 where
  pub values : AllByRecursion (λ p. IsValue p.ty) ts
  pub defaults : AreDefaults (params_of ts)
  pub few : frame + count_defaults (params_of ts) ≤ frame_cell_limit
  pub count_is : length ts ≡ n

record ParamKeeps (c : Sight) (p : SourceParameter) (t : TypedParameter) : Type 0 where
  value : IsValue t.ty
  default : Holds IsConstant t.default
  room : (parameter_declared c p).frame ≤ frame_cell_limit
  takes : c.frame + one_if t.default ≤ (parameter_declared c p).frame

param_by : (c : Sight) (p : SourceParameter) (late : Bool) (m : Meant) (v : Option Const) (s : Ty) (t : TypedParameter) → Holds IsConstant v → c.at_file ≡ false
    → c.frame ≤ frame_cell_limit → type_means c.structs p.ty ≡ Some m → value_type m ≡ Some s → parameter_of c late p v s ≡ Some t → ParamKeeps c p t
param_by c p late m v s t h inner le is has e =
    let made : TypedParameter = record { token = p.token; ty = s; name = record { number = c.next; ty = s }; default = v } in
    let w = when_is (not (is_taken c p.name) && (not (is_behind late v) && (default_fits s v && not (crosses_with c (cells c.structs s))))) made t e in
    let a = (and_parts (not (is_taken c p.name)) (not (is_behind late v) && (default_fits s v && not (crosses_with c (cells c.structs s)))) w.0).1 in
    let b = (and_parts (not (is_behind late v)) (default_fits s v && not (crosses_with c (cells c.structs s))) a).1 in
    let d = and_parts (default_fits s v) (not (crosses_with c (cells c.structs s))) b in
    let limit : cell_limit c ≡ frame_cell_limit = rw inner refl in
    let none : crosses frame_cell_limit c.frame (counted_to_limit frame_cell_limit c.frame (cells c.structs s)) ≡ false =
    subst (λ k. crosses k c.frame (counted_to_limit k c.frame (cells c.structs s)) ≡ false) limit (not_true (crosses_with c (cells c.structs s)) d.1) in
    let k = counts frame_cell_limit c.frame (cells c.structs s) none le in
    let type_is : declared_type c.structs p.ty ≡ Some s = ap (option_and_then value_type) is ∙ has in
    let frame_is : (parameter_declared c p).frame ≡ c.frame + cells c.structs s =
    ap (λ (o : Option Ty). counted_to_limit (cell_limit c) c.frame (cells_if c.structs o)) type_is ∙ (ap (λ (n : ℕ). counted_to_limit n c.frame (cells c.structs s)) limit ∙ k.count_is) in
    let one = default_cell c.structs s v d.0 in
    let room = k.within in
    subst (ParamKeeps c p) w.1 (record {
      value = value_bounds c.structs p.ty m s is has;
      default = h;
      room = omega (arith, frame_is, room);
      takes = omega (arith, frame_is, one);
    })

param_keeps : (c : Sight) (late : Bool) (p : SourceParameter) (t : TypedParameter) → InBounds c → IsKnownDefault p.default → c.at_file ≡ false → c.frame ≤ frame_cell_limit
    → fine (parameter_verdict c late p) ≡ Some t → ParamKeeps c p t
param_keeps c late p t h known inner le e =
    let a = asked_is (parameter_rows c late p) (parameter_rule c late p) (two (type_means c.structs p.ty) (if_there (constant_value c) p.default)) t e in
    let q = two_is (type_means c.structs p.ty) (if_there (constant_value c) p.default) a.0 a.1 in
    let s = then_is (parameter_of c late p a.0.1) (value_type a.0.0) t a.2 in
    param_by c p late a.0.0 a.0.1 s.0 t (default_bounds c p.default a.0.1 h known q.1) inner le q.0 s.1 s.2

pub params_good : (c : Sight) (late : Bool) (ps : List SourceParameter) (ts : List TypedParameter) → InBounds c → AreKnownParams ps → c.at_file ≡ false → c.frame ≤ frame_cell_limit
    → params_fine c late ps ≡ Some ts → ParamsKeep c.frame (length ps) ts
params_good c late [] ts h known inner le e =
    subst (ParamsKeep c.frame 0) (same_Some [] ts e) (record { values = tt; defaults = tt; few = omega (arith, le); count_is = refl })
params_good c late (p ∷ ps) ts h known inner le e =
    let m = one_more_is (fine (parameter_verdict c late p)) (params_fine (parameter_declared c p) (late_after late p) ps) ts e in
    let k = param_keeps c late p m.0 h known.0 inner le m.2 in
    let r = params_good (parameter_declared c p) (late_after late p) ps m.1 (declared_keeps c p.name (declared_type c.structs p.ty) (declared_bounds c.structs p.ty) h) known.1 inner k.room m.3 in
    let a = k.takes in let b = r.few in let d = r.count_is in
    let one : ParamsKeep c.frame (suc (length ps)) (m.0 ∷ m.1) =
    record { values = (k.value, r.values); defaults = (k.default, r.defaults); few = omega (arith, a, b); count_is = omega (arith, d) } in
    subst (ParamsKeep c.frame (suc (length ps))) m.4 one

-- parameters have so many cells at most
pub params_few : (ks : Structs) (ts : List TypedParameter) → AreStructs ks → AllByRecursion (λ p. IsValue p.ty) ts → params_cells ks ts ≤ 64 * length ts
params_few ks [] good v = omega arith
params_few ks (p ∷ ts) good v = let a = (type_cells ks p.ty good v.0).0 in let b = params_few ks ts good v.1 in omega (arith, a, b)
