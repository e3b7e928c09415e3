-- The functions of a typed unit are fine: what stands in sight where each begins, and where its
-- variables stand.
use Rattle.std.proofs.Common.{arith, ◌≡◌, ◌≤◌, ◌<◌, ◌+◌, ◌⊎◌, inl, inr, ℕ, zero, suc, List, [], ◌∷◌, ◌++◌, length, map, get_or, Option, Some, None, Bool, true, false, sym, subst, ◌∙◌, ap, refl}
use Rattle.std.proofs.Common.{append_assoc}
use Rattle.std.specs.Prelude.{not, slice_get, is_some}
use Rattle.std.specs.List.{AllByRecursion, flat_map}
use Rattle.std.specs.Option.{option_map, option_and_then}
use Rattle.std.proofs.lemmas.List.{length-append, append-nil, length-map}
use Rattle.std.proofs.lemmas.Option.{none-some, same_Some}
use Rattle.nss_tree.specs.Source.{SourceStmts, SourceDeclared, SourceLine, SourceParameter, SourceItem}
use Rattle.nss_tree.specs.declared.constants.TypeName.{TypeName}
use Rattle.nss_tree.specs.declared.units.Identifier.{Identifier}
use Rattle.nss_tree.specs.declared.constants.Constant.{Constant}
use Rattle.nss_tree.specs.Units as unit
use Rattle.nwq_value.specs.declared.value.Ty.{Ty}
use Rattle.nwq_value.specs.declared.value.Ty.TheVariants.{Void, Int, Text, Object, Effect, Event, Action, Struct, Refused}
use Rattle.nwq_value.specs.declared.engine.Const.{Const}
use Rattle.nwq_value.specs.declared.engine.Routine.{Routine}
use Rattle.nwq_value.specs.Engine.{EngineTable, IsRoutine, IsTable}
use Rattle.typing_rules.specs.Numbers.{number_of, number_of_parameter, body_numbers, all_numbers, item_numbers, items_numbers}
use Rattle.typing_rules.specs.Types.{is_void}
use Rattle.typing_rules.specs.Typed.{TypedName, TypedStmts, TypedLine, TypedParameter, TypedItem}
use Rattle.typing_rules.specs.Nodes.{fine, Fits, There, absent, present}
use Rattle.typing_rules.specs.Sight.{Meaning, variable, constant, Entry, Structure, Head, Sight, value_type, any_type, result_type, declared_type, variable_of, declared, is_callable_role}
use Rattle.typing_rules.specs.Rules.{no_fields, Fields, struct_rule, gives, TypedHead}
use Rattle.typing_rules.specs.Meaning.{TypesNames, TypesFields, TypesLines, TypesParams, TypesItem, TypesItems}
use Rattle.typing_rules.specs.Meaning as rules
use Rattle.typing_rules.specs.Verdicts.{after_names, line_type, struct_verdict, struct_members, constant_meaning, constant_name_verdict, parameter_declared, late_after, after_params, in_function}
use Rattle.typing_rules.specs.Verdicts.{in_body, after_item}
use Rattle.typing_rules.specs.Laws.{ItemsAreRight}
use Rattle.typing_rules.specs.Cells.{Structs, cell_types, cells, line_cells, structs_from}
use Rattle.emission_rules.specs.Bounds.{IsCell}
use Rattle.emission_rules.specs.Layout.{params_cells, names_cells, item_cells, params_positions, names_positions, all_positions, body_positions, item_positions, items_positions, position}
use Rattle.stack_shape.specs.Calls.{action_count}
use Rattle.source_meaning.specs.Fields.{field_types, struct_fields}
use Rattle.source_meaning.specs.Scripts.{Function, functions, global_names, parameter_names}
use Rattle.source_laws.specs.Kept.{Site, In}
use Rattle.source_laws.specs.Carries.{type_of_name, type_of_parameter, all_declared_types, body_types, item_types, items_types}
use Rattle.source_laws.specs.FineStatements.{AreFineNames, AreFineStmts}
use Rattle.source_meaning.specs.Statements.{after_names as scope_after}
use Rattle.source_laws.specs.FunctionsRun.{AreParameters}
use Rattle.source_laws.specs.Starts.{making}
use Rattle.typed_laws.proofs.Grammar.{HasName, HasField, IsMadeBody, AreMadeItems}
use Rattle.typed_laws.proofs.Types.{IsValueType, IsStruct, AreStructs, IsDeclared, declared_is, result_is, void_is, struct_of, all_last}
use Rattle.typed_laws.proofs.Bodies.{when_is, AreHeads, AreBodies, IsDeclaredHead, head_is, parameter_is}
use Rattle.typed_laws.proofs.Expressions.{IsMeaning, IsSeen, Sees}
use Rattle.typed_laws.proofs.Statements.{all_positions_many, all_types_many, split_map, line_value, names_seen, all_fine}

-- ---- the structs of a unit, and those before an item

pub record Grows (known : Structs) (all : Structs) : Type 0 where
  pub more : Structs
  pub is : all ≡ known ++ more

pub grown : (known : Structs) (is : List TypedItem) → Grows known (structs_from known is)
grown known [] = record { more = []; is = sym (append-nil known) }
grown known (unit.structure n x ls ∷ is) =
    let own = flat_map (line_cells known) ls in
    let g = grown (known ++ own ∷ []) is in
    record { more = own ∷ g.more; is = g.is ∙ append_assoc known (own ∷ []) g.more }
grown known (unit.constant n t x k ∷ is) = let g = grown known is in record { more = g.more; is = g.is }
grown known (unit.global n t us ∷ is) = let g = grown known is in record { more = g.more; is = g.is }
grown known (unit.function n t x ps body ∷ is) = let g = grown known is in record { more = g.more; is = g.is }

at_middle : (before behind : Structs) (c : List Ty) → get_or (before ++ c ∷ behind) (length before) [] ≡ c
at_middle [] behind c = refl
at_middle (b ∷ before) behind c = at_middle before behind c

early : (known more : Structs) (n : ℕ) → n < length known → get_or (known ++ more) n [] ≡ get_or known n []
early [] more n h = absurd (omega arith)
early (k ∷ known) more zero h = refl
early (k ∷ known) more (suc n) h = early known more n (omega (arith, h))

early_type : (structs known : Structs) (ss : List Structure) (t : Ty) → Grows known structs → length known ≡ length ss → IsDeclared structs ss t → cell_types known t ≡ cell_types structs t
early_type structs known ss Void g e d = refl
early_type structs known ss Int g e d = refl
early_type structs known ss Text g e d = refl
early_type structs known ss Object g e d = refl
early_type structs known ss Effect g e d = refl
early_type structs known ss Event g e d = refl
early_type structs known ss Action g e d = refl
early_type structs known ss (Struct n) g e d =
    let w = d.within n refl in
    sym (early known g.more n (omega (arith, w, e))) ∙ ap (λ (all : Structs). get_or all n []) (sym g.is)
early_type structs known ss Refused g e d = refl

abbrev AreLines : Structs → List Structure → List TypedLine → Type 0
AreLines structs ss ls = AllByRecursion (λ (l : TypedLine). IsDeclared structs ss l.ty) ls

early_lines : (structs known : Structs) (ss : List Structure) (ls : List TypedLine) → Grows known structs
    → length known ≡ length ss → AreLines structs ss ls
    → flat_map (line_cells known) ls ≡ flat_map (line_cells structs) ls
early_lines structs known ss [] g e d = refl
early_lines structs known ss (l ∷ ls) g e d =
    ap (λ (part : List Ty). flat_map (λ (x : Identifier). part) l.names ++ flat_map (line_cells known) ls) (early_type structs known ss l.ty g e d.0)
    ∙ ap (λ (rest : List Ty). line_cells structs l ++ rest) (early_lines structs known ss ls g e d.1)

lines_declared : (structs : Structs) (fields_of : List (List Ty)) (ss : List Structure)
    → AreStructs structs fields_of ss → (s : Fields) (ls : List SourceLine) (us : List TypedLine)
    → TypesLines ss s ls us → AreLines structs ss us
lines_declared structs fields_of ss known s ls us (rules.TypesLines.none z) = tt
lines_declared structs fields_of ss known s ls us (rules.TypesLines.more z {l = l} {ls = ms} {u = u} {us = vs} h k) =
    (declared_is structs fields_of ss known l.ty h.line.typed u.ty h.line.parts h.line.gives, lines_declared structs fields_of ss known _ ms vs k)

names_long : (structs : Structs) (t : Ty) (ss : List Structure) (s : Fields) (o : Option Ty) (xs ys : List Identifier) → TypesFields ss s o xs ys → HasName xs → 0 < length (cell_types structs t)
    → 0 < length (flat_map (λ (x : Identifier). cell_types structs t) ys)
names_long structs t ss s o xs ys (rules.TypesFields.none z p) has some = absurd has
names_long structs t ss s o xs ys (rules.TypesFields.more z p {y = y} {ys = zs} f k) has some =
    let l = length-append (cell_types structs t) (flat_map (λ (x : Identifier). cell_types structs t) zs) in
    omega (arith, l, some)

lines_long : (structs : Structs) (ss : List Structure) (s : Fields) (ls : List SourceLine) (us : List TypedLine)
    → TypesLines ss s ls us → HasField ls → AreLines structs ss us → 0 < length (flat_map (line_cells structs) us)
lines_long structs ss s ls us (rules.TypesLines.none z) has d = absurd has
lines_long structs ss s ls us (rules.TypesLines.more z {l = l} {u = u} {us = vs} h k) has d =
    let l1 = length-append (line_cells structs u) (flat_map (line_cells structs) vs) in
    let some = names_long structs u.ty ss s (line_type ss l.ty) l.names u.names h.fields has d.0.value.some in
    omega (arith, l1, some)

one_more : {A : Type 0} (xs : List A) (a : A) (n : ℕ) (b : A) → slice_get (xs ++ a ∷ []) n ≡ Some b → (slice_get xs n ≡ Some b) ⊎ ((n ≡ length xs) × (a ≡ b))
one_more [] a zero b h = inr (refl, same_Some _ _ h)
one_more [] a (suc n) b h = absurd (none-some b h)
one_more (x ∷ xs) a zero b h = inl h
one_more (x ∷ xs) a (suc n) b h = later (one_more xs a n b h)
  where
    later : (slice_get xs n ≡ Some b) ⊎ ((n ≡ length xs) × (a ≡ b)) → (slice_get xs n ≡ Some b) ⊎ ((suc n ≡ suc (length xs)) × (a ≡ b))
    later (inl e) = inl e
    later (inr e) = inr (ap suc e.0, e.1)

-- ---- in sight at file level

pub record Files (x : Site) (table : EngineTable) (scope : List ℕ) (c : Sight) (known : Structs) : Type 0 where
  pub sees : Sees (making x) table Void true scope c
  pub count : length known ≡ length c.structs
  pub within : (n : ℕ) → In n scope → In n x.globals

abbrev structure_item : ℕ → List ℕ → List TypedLine → TypedItem
structure_item n x ls = unit.structure n x ls

same_structure : (n m : ℕ) (x y : List ℕ) (ls us : List TypedLine) → structure_item n x ls ≡ structure_item m y us → ls ≡ us
same_structure n m x y ls us e = cc

abbrev structure_with : List ℕ → List Structure → Option (List TypedLine) → Structure
structure_with y ss o = record { called = y; members = option_map (struct_members ss) o }

-- the structs among the items that come, with what is known in front, are those of the site, and so
-- are the types of their fields
abbrev Ahead : Site → Structs → List TypedItem → Type 0
Ahead x known ts = (done : List (List Ty)) × (structs_from known ts ≡ x.layout.structs) × (x.fields ≡ done ++ struct_fields ts) × (length done ≡ length known)

at_front : (before : List (List Ty)) (ts : List Ty) (more : List (List Ty)) → slice_get (before ++ ts ∷ more) (length before) ≡ Some ts
at_front [] ts more = refl
at_front (b ∷ before) ts more = at_front before ts more

struct_listed : (x : Site) (known : Structs) (n : ℕ) (y : List ℕ) (us : List TypedLine) (ts : List TypedItem) → (a : Ahead x known (unit.structure n y us ∷ ts)) → (count : ℕ) → length known ≡ count
    → slice_get x.fields count ≡ Some (field_types us)
struct_listed x known n y us ts a count same =
    ap (λ (all : List (List Ty)). slice_get all count) a.2 ∙ ap (slice_get (a.0 ++ field_types us ∷ struct_fields ts)) (sym (a.3 ∙ same)) ∙ at_front a.0 (field_types us) (struct_fields ts)

-- behind a struct
ahead_on : (x : Site) (known : Structs) (n : ℕ) (y : List ℕ) (us : List TypedLine) (ts : List TypedItem)
    → Ahead x known (unit.structure n y us ∷ ts) → Ahead x (known ++ flat_map (line_cells known) us ∷ []) ts
ahead_on x known n y us ts a =
    let own = flat_map (line_cells known) us in
    let one = length-append a.0 (field_types us ∷ []) in
    let two = length-append known (own ∷ []) in
    let same = a.3 in
    (a.0 ++ field_types us ∷ [], a.1, a.2 ∙ sym (append_assoc a.0 (field_types us ∷ []) (struct_fields ts)), omega (arith, one, two, same))

-- a struct
struct_seen : ItemsAreRight
    → (x : Site) (table : EngineTable) (hs : List Head) (scope : List ℕ) (known : Structs) (c : Sight)
    → Files x table scope c known → (n : ℕ) (y : List ℕ) (ls : List SourceLine) (us : List TypedLine)
    → TypesItem hs c (unit.structure n y ls) (unit.structure n y us) → Fits (TypesLines c.structs no_fields ls) (struct_rule c.structs y) us → HasField ls
    → Grows (known ++ flat_map (line_cells known) us ∷ []) x.layout.structs → slice_get x.fields (length c.structs) ≡ Some (field_types us)
    → Files x table scope (after_item c (unit.structure n y ls)) (known ++ flat_map (line_cells known) us ∷ [])
struct_seen right x table hs scope known c s n y ls us h f has g listed =
    let structs = x.layout.structs in
    let verdict = fine (struct_verdict c.structs y ls) in
    let complete = (right hs c (unit.structure n y ls) (unit.structure n y us)).1 h in
    let own = flat_map (line_cells known) us in
    let w = when_is _ f.typed us f.gives in
    let lines : TypesLines c.structs no_fields ls us = subst (TypesLines c.structs no_fields ls) w.1 f.parts in
    let before : Grows known structs = record { more = own ∷ g.more; is = g.is ∙ append_assoc known (own ∷ []) g.more } in
    let d = lines_declared structs x.fields c.structs s.sees.structs no_fields ls us lines in
    let same = early_lines structs known c.structs us before s.count d in
    let place : cell_types structs (Struct (length c.structs)) ≡ flat_map (line_cells structs) us =
    ap (λ (k : ℕ). get_or structs k []) (sym s.count) ∙ ap (λ (all : Structs). get_or all (length known) []) before.is ∙ at_middle known g.more own ∙ same in
    let made = struct_of structs x.fields c.structs (length c.structs) y us d place (lines_long structs c.structs no_fields ls us lines has d) listed in
    let longer = length-append known (own ∷ []) in
    let longer' = length-append c.structs (structure_with y c.structs verdict ∷ []) in
    let count = s.count in
    record {
      sees = record {
        names = s.sees.names;
        structs = λ m r e. of_index m r (one_more c.structs (structure_with y c.structs verdict) m r e) made (verdict_is verdict complete);
        table_is = s.sees.table_is;
        inside = s.sees.inside;
        gives = s.sees.gives;
      };
      count = omega (arith, longer, longer', count);
      within = s.within;
    }
  where
    verdict_is : (o : Option (List TypedLine)) → option_map (λ (vs : List TypedLine). structure_item n y vs) o ≡ Some (structure_item n y us) → o ≡ Some us
    verdict_is None e = absurd (none-some _ e)
    verdict_is (Some vs) e = ap Some (same_structure n n y y vs us (same_Some _ _ e))

    of_index : (m : ℕ) (r : Structure) → (slice_get c.structs m ≡ Some r) ⊎ ((m ≡ length c.structs) × (structure_with y c.structs (fine (struct_verdict c.structs y ls)) ≡ r))
        → IsStruct x.layout.structs x.fields (length c.structs) (structure_with y c.structs (Some us)) → fine (struct_verdict c.structs y ls) ≡ Some us → IsStruct x.layout.structs x.fields m r
    of_index m r (inl e) made is = s.sees.structs m r e
    of_index m r (inr e) made is =
        subst (λ (k : ℕ). IsStruct x.layout.structs x.fields k r) (sym e.0)
        (subst (IsStruct x.layout.structs x.fields (length c.structs)) (ap (structure_with y c.structs) (sym is) ∙ e.1) made)

-- a constant
constant_seen : (x : Site) (table : EngineTable) (scope : List ℕ) (known : Structs) (c : Sight)
    → Files x table scope c known → (n : ℕ) (t : TypeName) (y : Identifier) (k : Constant)
    → Files x table scope (after_item c (unit.constant n t y k)) known
constant_seen x table scope known c s n t y k = record {
  sees = record {
    names = all_last (IsSeen (making x) true scope) c.names (record { called = y.name; means = option_map constant_meaning (fine (constant_name_verdict c t y.name k)) }) s.sees.names
        (λ m e. of_meaning (fine (constant_name_verdict c t y.name k)) m e);
    structs = s.sees.structs;
    table_is = s.sees.table_is;
    inside = s.sees.inside;
    gives = s.sees.gives;
  };
  count = s.count;
  within = s.within;
}
  where
    of_meaning : (o : Option (Ty × Const)) (m : Meaning) → option_map constant_meaning o ≡ Some m → IsMeaning (making x) true scope m
    of_meaning None m e = absurd (none-some m e)
    of_meaning (Some p) m e = subst (IsMeaning (making x) true scope) (same_Some _ _ e) tt

-- ---- where the variables of items stand

params_as_many : (structs : Structs) (ps : List TypedParameter) → length (params_positions structs ps) ≡ length (map number_of_parameter ps)
params_as_many structs [] = refl
params_as_many structs (p ∷ ps) = ap suc (params_as_many structs ps)

names_as_many : (structs : Structs) (d : ℕ) (us : List TypedName) → length (names_positions structs d us) ≡ length (map number_of us)
names_as_many structs d [] = refl
names_as_many structs d (u ∷ us) = ap suc (names_as_many structs (d + cells structs u.name.ty) us)

body_as_many : (structs : Structs) (d : ℕ) (o : Option TypedStmts) → length (body_positions structs d o) ≡ length (body_numbers o)
body_as_many structs d None = refl
body_as_many structs d (Some ts) = all_positions_many structs d ts

item_as_many : (structs : Structs) (g : ℕ) (i : TypedItem) → length (item_positions structs g i) ≡ length (item_numbers i)
item_as_many structs g (unit.structure n x ls) = refl
item_as_many structs g (unit.constant n t x k) = refl
item_as_many structs g (unit.global n t us) = names_as_many structs g us
item_as_many structs g (unit.function n t x ps body) =
    let a = length-append (params_positions structs ps) (body_positions structs (params_cells structs ps) body) in
    let b = length-append (map number_of_parameter ps) (body_numbers body) in
    let e = params_as_many structs ps in
    let f = body_as_many structs (params_cells structs ps) body in
    omega (arith, a, b, e, f)

body_types_many : (o : Option TypedStmts) → length (body_types o) ≡ length (body_numbers o)
body_types_many None = refl
body_types_many (Some ts) = all_types_many ts

pub item_types_many : (i : TypedItem) → length (item_types i) ≡ length (item_numbers i)
item_types_many (unit.structure n x ls) = refl
item_types_many (unit.constant n t x k) = refl
item_types_many (unit.global n t us) = length-map us type_of_name ∙ sym (length-map us number_of)
item_types_many (unit.function n t x ps body) =
    let a = length-append (map type_of_parameter ps) (body_types body) in
    let b = length-append (map number_of_parameter ps) (body_numbers body) in
    let e = length-map ps type_of_parameter in
    let f = length-map ps number_of_parameter in
    let g = body_types_many body in
    omega (arith, a, b, e, f, g)

pub record ItemsLaid (x : Site) (globals : ℕ) (ts : List TypedItem) : Type 0 where
  pub places : map (position x.layout) (items_numbers ts) ≡ items_positions x.layout.structs globals ts
  pub types : map x.types (items_numbers ts) ≡ items_types ts

pub record ItemLaid (x : Site) (globals : ℕ) (t : TypedItem) : Type 0 where
  pub places : map (position x.layout) (item_numbers t) ≡ item_positions x.layout.structs globals t
  pub types : map x.types (item_numbers t) ≡ item_types t

laid_item : (x : Site) (g : ℕ) (t : TypedItem) (ts : List TypedItem) → ItemsLaid x g (t ∷ ts) → ItemLaid x g t × ItemsLaid x (g + item_cells x.layout.structs t) ts
laid_item x g t ts l =
    let p = split_map (position x.layout) (item_numbers t) (items_numbers ts) (item_positions x.layout.structs g t)
    (items_positions x.layout.structs (g + item_cells x.layout.structs t) ts) l.places
    (item_as_many x.layout.structs g t) in
    let q = split_map x.types (item_numbers t) (items_numbers ts) (item_types t) (items_types ts) l.types (item_types_many t) in
    (record { places = p.0; types = q.0 }, record { places = p.1; types = q.1 })

-- ---- parameters

are_parameters : (x : Site) (ps : List TypedParameter)
    → map (position x.layout) (map number_of_parameter ps) ≡ params_positions x.layout.structs ps
    → map x.types (map number_of_parameter ps) ≡ map type_of_parameter ps → AreParameters x ps
are_parameters x [] places types = tt
are_parameters x (p ∷ ps) places types =
    let place : position x.layout p.name.number ≡ params_cells x.layout.structs ps = cc in
    let places' : map (position x.layout) (map number_of_parameter ps) ≡ params_positions x.layout.structs ps = cc in
    let type : x.types p.name.number ≡ p.ty = cc in
    let types' : map x.types (map number_of_parameter ps) ≡ map type_of_parameter ps = cc in
    (place, type, are_parameters x ps places' types')

params_seen : (x : Site) (table : EngineTable) (result : Ty) (scope : List ℕ) (c : Sight)
    → Sees x table result false scope c → (late : Bool) (ps : List SourceParameter) (us : List TypedParameter)
    → TypesParams c late ps us → AreParameters x us
    → ((n : ℕ) → In n (parameter_names us) → In n scope) → Sees x table result false scope (after_params c ps)
params_seen x table result scope c s late ps us (rules.TypesParams.none d l) are within = s
params_seen x table result scope c s late ps us (rules.TypesParams.more d l {p = p} {ps = qs} {t = t} {ts = ts} f k) are within =
    let i = parameter_is c late p t f in
    let v = (declared_is x.layout.structs x.fields c.structs s.structs p.ty i.meant t.ty i.means i.type).value in
    let type : declared_type c.structs p.ty ≡ Some t.ty = ap (option_and_then value_type) i.means ∙ i.type in
    let there : In c.next scope = subst (λ n. In n scope) (sym i.number) (within t.name.number (inl refl)) in
    let known : x.types c.next ≡ t.ty = ap x.types i.number ∙ are.1 in
    params_seen x table result scope (parameter_declared c p) (one_more_seen type v known there) (late_after late p) qs ts k are.2 (λ n j. within n (inr j))
  where
    one_more_seen : {y : Ty} → declared_type c.structs p.ty ≡ Some y → IsValueType x.layout.structs y → x.types c.next ≡ y → In c.next scope → Sees x table result false scope (parameter_declared c p)
    one_more_seen {y = y} is v type there = record {
      names = all_last (IsSeen x false scope) c.names (record { called = p.name; means = option_map (variable_of c) (declared_type c.structs p.ty) }) s.names (λ m e.
          let whole : Some (variable_of c y) ≡ Some m = sym (ap (option_map (variable_of c)) is) ∙ e in
          let here : variable c.next true y ≡ m = ap (λ (b : Bool). variable c.next (not b) y) (sym s.inside) ∙ same_Some _ _ whole in
          subst (IsMeaning x false scope) here (v, type, there));
      structs = s.structs;
      table_is = s.table_is;
      inside = s.inside;
      gives = s.gives;
    }

-- ---- functions

in_left : (n : ℕ) (us vs : List TypedName) → In n (map number_of us) → In n (map number_of (us ++ vs))
in_left n [] vs i = absurd i
in_left n (u ∷ us) vs (inl e) = inl e
in_left n (u ∷ us) vs (inr i) = inr (in_left n us vs i)

in_right : (n : ℕ) (us vs : List TypedName) → In n (map number_of vs) → In n (map number_of (us ++ vs))
in_right n [] vs i = i
in_right n (u ∷ us) vs i = inr (in_right n us vs i)

-- what is in sight behind declarations was so before, or is declared by them
in_names : (n : ℕ) (us : List TypedName) (scope : List ℕ) → In n (scope_after us scope) → In n (map number_of us) ⊎ In n scope
in_names n [] scope i = inr i
in_names n (u ∷ us) scope i = on (in_names n us (u.name.number ∷ scope) i)
  where
    on : In n (map number_of us) ⊎ In n (u.name.number ∷ scope) → In n (map number_of (u ∷ us)) ⊎ In n scope
    on (inl j) = inl (inr j)
    on (inr (inl e)) = inl (inl e)
    on (inr (inr j)) = inr j

more_scope : (x : Site) (scope own : List ℕ) → ((n : ℕ) → In n scope → In n x.globals) → (m : Meaning) → IsMeaning (making x) true scope m → IsMeaning x false own m
more_scope x scope own within (variable n true t) h = absurd h.2
more_scope x scope own within (variable n false t) h = (h.0, h.1, within n h.2)
more_scope x scope own within (constant k) h = tt

all_more : (x : Site) (scope own : List ℕ) → ((n : ℕ) → In n scope → In n x.globals) → (es : List Entry) → AllByRecursion (IsSeen (making x) true scope) es → AllByRecursion (IsSeen x false own) es
all_more x scope own within [] h = tt
all_more x scope own within (e ∷ es) h = ((λ m same. more_scope x scope own within m (h.0 m same)), all_more x scope own within es h.1)

-- the body of a function is fine
pub record IsBody (table : EngineTable) (fs : List Function) (x : Site) (fn : Function) : Type 0 where
  pub parameters : AreParameters x fn.parameters
  pub fine : AreFineStmts table fs x fn.result false false (params_cells x.layout.structs fn.parameters) (parameter_names fn.parameters) fn.body
  pub cells : AllByRecursion IsCell (cell_types x.layout.structs fn.result)

-- ---- globals

names_structs : (c : Sight) (t : Option Ty) (ds : List SourceDeclared) → (after_names c t ds).structs ≡ c.structs
names_structs c t [] = refl
names_structs c t (d ∷ ds) = names_structs (declared c d.name t) t ds

-- one line of globals is fine, and what it declares comes into sight
pub record IsLine (x : Site) (table : EngineTable) (depth : ℕ) (scope : List ℕ) (us : List TypedName) (known : Structs) (c : Sight) : Type 0 where
  pub are : AreFineNames table [] (making x) Void depth scope us
  pub seen : Files x table (scope_after us scope) c known

module _ (x : Site) (table : EngineTable) (kept : IsTable table) (few : (r : Routine) → IsRoutine r → is_callable_role r.role ≡ true → action_count r.params ≤ 1)
    (hs : List Head) (heads : AreHeads hs) where
  not_inside : {A : Type 0} → true ≡ false → A
  not_inside h = absurd cc

  pub globals_are : (scope : List ℕ) (known : Structs) (c : Sight) → Files x table scope c known
      → (g n : ℕ) (t : TypeName) (ds : List SourceDeclared) (u : Ty) (us : List TypedName)
      → TypesNames hs c (line_type c.structs t) ds us
      → ItemLaid x g (unit.global n u us) → ((n : ℕ) → In n (map number_of us) → In n x.globals) → IsLine x table g scope us known (after_names c (line_type c.structs t) ds)
  globals_are scope known c s g n t ds u us h l within =
      let value = line_value (making x) table kept few [] hs heads true not_inside not_inside Void c scope s.sees t in
      let d = names_seen (making x) table kept few [] hs heads true not_inside not_inside Void scope g c s.sees (line_type c.structs t) value ds us h l.places l.types in
      record {
        are = d.are;
        seen = record {
          sees = d.seen;
          count = s.count ∙ ap length (sym (names_structs c (line_type c.structs t) ds));
          within = λ k i. on k (in_names k us scope i);
        };
      }
    where
      on : (k : ℕ) → In k (map number_of us) ⊎ In k scope → In k x.globals
      on k (inl i) = within k i
      on k (inr i) = s.within k i

module _ (right : ItemsAreRight) (x : Site) (table : EngineTable) (kept : IsTable table)
    (few : (r : Routine) → IsRoutine r → is_callable_role r.role ≡ true → action_count r.params ≤ 1)
    (fs : List Function) (hs : List Head) (heads : AreHeads hs) (all : AreBodies fs hs) (made : x.layout.globals ≡ x.bp) where
  function_is : (scope : List ℕ) (known : Structs) (c : Sight) → Files x table scope c known
      → (g n : ℕ) (t : TypeName) (y : List ℕ) (ps : List SourceParameter) (xs : SourceStmts) (h : TypedHead)
      (ts : TypedStmts)
      → IsDeclaredHead c t y ps true h → IsMadeBody (Some xs) → rules.TypesStmts hs (in_body c t ps) xs ts → ItemLaid x g (unit.function n h.result y h.params (Some ts))
      → IsBody table fs x (record { result = h.result; parameters = h.params; body = ts })
  function_is scope known c s g n t y ps xs h ts d made_body typed l =
      let structs = x.layout.structs in
      let size = params_cells structs h.params in
      let p = split_map (position x.layout) (map number_of_parameter h.params) (all_numbers ts)
      (params_positions structs h.params) (all_positions structs size ts) l.places
      (params_as_many structs h.params) in
      let q = split_map x.types (map number_of_parameter h.params) (all_numbers ts) (map type_of_parameter h.params)
      (all_declared_types ts) l.types
      (length-map h.params type_of_parameter ∙ sym (length-map h.params number_of_parameter)) in
      let are = are_parameters x h.params p.0 q.0 in
      let own = parameter_names h.params in
      let gives : result_type c.structs t ≡ Some h.result = ap (option_and_then any_type) d.means ∙ d.result in
      let begun : Sees x table h.result false own (in_function c t) = record {
        names = all_more x scope own s.within c.names s.sees.names;
        structs = s.sees.structs;
        table_is = s.sees.table_is;
        inside = refl;
        gives = λ f. gives;
      } in
      let seen = params_seen x table h.result own (in_function c t) begun false ps h.params d.params are (λ k i. i) in
      let value : is_void h.result ≡ false → IsValueType structs h.result = λ isnt. (result_is structs x.fields c.structs s.sees.structs t d.meant h.result d.means d.result isnt).value in
      let body = all_fine x table kept few fs hs heads false (λ f. all) (λ f. made) h.result refl value own size (in_body c t ps) seen made_body typed (record { places = p.1; types = q.1 }) in
      let exits = exits_are ps (in_function c t) in
      record {
        parameters = are;
        fine = subst (λ (b : Bool). AreFineStmts table fs x h.result b false size own ts) exits.0
            (subst (λ (b : Bool). AreFineStmts table fs x h.result (in_body c t ps).may_break b size own ts) exits.1 body);
        cells = by_void (is_void h.result) refl value;
      }
    where
      exits_are : (ps : List SourceParameter) (c : Sight) → ((after_params c ps).may_break ≡ c.may_break) × ((after_params c ps).in_loop ≡ c.in_loop)
      exits_are [] c = (refl, refl)
      exits_are (p ∷ ps) c = exits_are ps (parameter_declared c p)

      by_void : (b : Bool) → is_void h.result ≡ b → (is_void h.result ≡ false → IsValueType x.layout.structs h.result) → AllByRecursion IsCell (cell_types x.layout.structs h.result)
      by_void true e value = subst (λ (u : Ty). AllByRecursion IsCell (cell_types x.layout.structs u)) (sym (void_is h.result e)) tt
      by_void false e value = (value e).kinds

  pub bodies_are : (scope : List ℕ) (known : Structs) (c : Sight) → Files x table scope c known
      → (g : ℕ) (is : List SourceItem) (ts : List TypedItem) → AreMadeItems is → TypesItems hs c is ts
      → Ahead x known ts
      → ItemsLaid x g ts → ((n : ℕ) → In n (map number_of (global_names ts)) → In n x.globals) → (f : ℕ) (fn : Function) → slice_get (functions ts) f ≡ Some fn → IsBody table fs x fn
  bodies_are scope known c s g is ts m (rules.TypesItems.none e) all_structs l within f fn there = absurd (none-some fn there)
  bodies_are scope known c s g is ts m (rules.TypesItems.more e {i = unit.structure n y ls} {is = js} {ts = us} (rules.TypesItem.structure k z {us = vs} h) r) all_structs l within f fn there =
      let own = flat_map (line_cells known) vs in
      let grows = grown (known ++ own ∷ []) us in
      let now = struct_seen right x table hs scope known c s n y ls vs (rules.TypesItem.structure k z h) h m.0
      (record { more = grows.more; is = sym all_structs.1 ∙ grows.is })
      (struct_listed x known n y vs us all_structs (length c.structs) s.count) in
      bodies_are scope (known ++ own ∷ []) (after_item c (unit.structure n y ls)) now (g + 0) js us m.1 r
      (ahead_on x known n y vs us all_structs) (laid_item x g (unit.structure n y vs) us l).1 within f fn there
  bodies_are scope known c s g is ts m
      (rules.TypesItems.more e {i = unit.constant n t y v} {is = js} {ts = us}
      (rules.TypesItem.constant k w z o {s = u} {v = b} h) r) all_structs l within f fn there =
      bodies_are scope known (after_item c (unit.constant n t y v)) (constant_seen x table scope known c s n t y v)
      (g + 0) js us m.1 r all_structs (laid_item x g (unit.constant n u y b) us l).1 within f fn there
  bodies_are scope known c s g is ts m (rules.TypesItems.more e {i = unit.global n t ds} {is = js} {ts = us} (rules.TypesItem.global k w {s = u} {us = vs} h o) r) all_structs l within f fn there =
      let here = laid_item x g (unit.global n u vs) us l in
      let line = globals_are x table kept few hs heads scope known c s g n t ds u vs o here.0 (λ i j. within i (in_left i vs (global_names us) j)) in
      bodies_are (scope_after vs scope) known (after_item c (unit.global n t ds)) line.seen
      (g + item_cells x.layout.structs (unit.global n u vs)) js us m.1 r all_structs here.1
      (λ i j. within i (in_right i vs (global_names us) j)) f fn there
  bodies_are scope known c s g is ts m
      (rules.TypesItems.more e {i = unit.function n t y ps body} {is = js} {t = v} {ts = us}
      (rules.TypesItem.function k w z qs o h) r) all_structs l within f fn there =
      let p = h.typed in
      let w1 = when_is (gives p.0.result p.1) (unit.function n p.0.result y p.0.params p.1) v h.gives in
      let now : Files x table scope (after_item c (unit.function n t y ps body)) known =
      record { sees = record { names = s.sees.names; structs = s.sees.structs; table_is = s.sees.table_is; inside = s.sees.inside; gives = s.sees.gives }; count = s.count; within = s.within } in
      of_body body p.1 h.parts.1 (head_is c t y ps (is_some body) p.0 h.parts.0) m.0
      (subst (λ (i : TypedItem). Ahead x known (i ∷ us)) (sym w1.1) all_structs)
      (subst (λ (i : TypedItem). ItemsLaid x g (i ∷ us)) (sym w1.1) l)
      (subst (λ (i : TypedItem). (n : ℕ) → In n (map number_of (global_names (i ∷ us))) → In n x.globals) (sym w1.1) within)
      (λ d wi q j. bodies_are scope known (after_item c (unit.function n t y ps body)) now (g + 0) js us m.1 r d wi q j fn)
      (subst (λ (i : TypedItem). slice_get (functions (i ∷ us)) f ≡ Some fn) (sym w1.1) there)
    where
      of_body : (a : Option SourceStmts) (b : Option TypedStmts) → There (rules.TypesStmts hs (in_body c t ps)) a b → IsDeclaredHead c t y ps (is_some a) h.typed.0 → IsMadeBody a
          → Ahead x known (unit.function n h.typed.0.result y h.typed.0.params b ∷ us) → ItemsLaid x g (unit.function n h.typed.0.result y h.typed.0.params b ∷ us)
          → ((i : ℕ) → In i (map number_of (global_names (unit.function n h.typed.0.result y h.typed.0.params b ∷ us))) → In i x.globals)
          → (Ahead x known us → ItemsLaid x (g + 0) us → ((i : ℕ) → In i (map number_of (global_names us)) → In i x.globals) → (j : ℕ) → slice_get (functions us) j ≡ Some fn → IsBody table fs x fn)
          → slice_get (functions (unit.function n h.typed.0.result y h.typed.0.params b ∷ us)) f ≡ Some fn → IsBody table fs x fn
      of_body None None absent d made' e1 l1 w2 rest at = rest e1 (laid_item x g (unit.function n h.typed.0.result y h.typed.0.params None) us l1).1 w2 f at
      of_body None (Some zs) h d made' e1 l1 w2 rest at = elim h [ ]
      of_body (Some xs) None h d made' e1 l1 w2 rest at = elim h [ ]
      of_body (Some xs) (Some zs) (present typed) d made' e1 l1 w2 rest at = by_number f at
        where
          here : ItemLaid x g (unit.function n h.typed.0.result y h.typed.0.params (Some zs)) × ItemsLaid x (g + 0) us
          here = laid_item x g (unit.function n h.typed.0.result y h.typed.0.params (Some zs)) us l1

          by_number : (j : ℕ) → slice_get (functions (unit.function n h.typed.0.result y h.typed.0.params (Some zs) ∷ us)) j ≡ Some fn → IsBody table fs x fn
          by_number zero e = subst (IsBody table fs x) (same_Some _ _ e) (function_is scope known c s g n t y ps xs h.typed.0 zs d made' typed here.0)
          by_number (suc j) e = rest e1 here.1 w2 j e

-- ---- all globals

fine_joined : (x : Site) (table : EngineTable) (depth : ℕ) (scope : List ℕ) (us vs : List TypedName) → AreFineNames table [] (making x) Void depth scope us
    → AreFineNames table [] (making x) Void (depth + names_cells x.layout.structs us) (scope_after us scope) vs → AreFineNames table [] (making x) Void depth scope (us ++ vs)
fine_joined x table depth scope [] vs h k = let e : depth + 0 ≡ depth = omega arith in subst (λ d. AreFineNames table [] (making x) Void d scope vs) e k
fine_joined x table depth scope (u ∷ us) vs h k =
    let one = cells x.layout.structs u.name.ty in
    let e : depth + (one + names_cells x.layout.structs us) ≡ depth + one + names_cells x.layout.structs us = omega arith in
    (h.0, h.1, h.2, fine_joined x table (depth + one) (u.name.number ∷ scope) us vs h.3 (subst (λ d. AreFineNames table [] (making x) Void d (scope_after us (u.name.number ∷ scope)) vs) e k))

same_depth : (x : Site) (table : EngineTable) (g : ℕ) (scope : List ℕ) (us : List TypedName) → AreFineNames table [] (making x) Void (g + 0) scope us → AreFineNames table [] (making x) Void g scope us
same_depth x table g scope us h = let e : g + 0 ≡ g = omega arith in subst (λ d. AreFineNames table [] (making x) Void d scope us) e h

module _ (right : ItemsAreRight) (x : Site) (table : EngineTable) (kept : IsTable table)
    (few : (r : Routine) → IsRoutine r → is_callable_role r.role ≡ true → action_count r.params ≤ 1)
    (hs : List Head) (heads : AreHeads hs) where
  pub all_globals : (scope : List ℕ) (known : Structs) (c : Sight) → Files x table scope c known
      → (g : ℕ) (is : List SourceItem) (ts : List TypedItem) → AreMadeItems is → TypesItems hs c is ts
      → Ahead x known ts
      → ItemsLaid x g ts → ((n : ℕ) → In n (map number_of (global_names ts)) → In n x.globals) → AreFineNames table [] (making x) Void g scope (global_names ts)
  all_globals scope known c s g is ts m (rules.TypesItems.none e) all_structs l within = tt
  all_globals scope known c s g is ts m (rules.TypesItems.more e {i = unit.structure n y ls} {is = js} {ts = us} (rules.TypesItem.structure k z {us = vs} h) r) all_structs l within =
      let own = flat_map (line_cells known) vs in
      let grows = grown (known ++ own ∷ []) us in
      let now = struct_seen right x table hs scope known c s n y ls vs (rules.TypesItem.structure k z h) h m.0
      (record { more = grows.more; is = sym all_structs.1 ∙ grows.is })
      (struct_listed x known n y vs us all_structs (length c.structs) s.count) in
      same_depth x table g scope (global_names us)
      (all_globals scope (known ++ own ∷ []) (after_item c (unit.structure n y ls)) now (g + 0) js us m.1 r
      (ahead_on x known n y vs us all_structs) (laid_item x g (unit.structure n y vs) us l).1 within)
  all_globals scope known c s g is ts m (rules.TypesItems.more e {i = unit.constant n t y v} {is = js} {ts = us} (rules.TypesItem.constant k w z o {s = u} {v = b} h) r) all_structs l within =
      same_depth x table g scope (global_names us)
      (all_globals scope known (after_item c (unit.constant n t y v))
      (constant_seen x table scope known c s n t y v) (g + 0) js us m.1 r all_structs
      (laid_item x g (unit.constant n u y b) us l).1 within)
  all_globals scope known c s g is ts m (rules.TypesItems.more e {i = unit.global n t ds} {is = js} {ts = us} (rules.TypesItem.global k w {s = u} {us = vs} h o) r) all_structs l within =
      let here = laid_item x g (unit.global n u vs) us l in
      let line = globals_are x table kept few hs heads scope known c s g n t ds u vs o here.0 (λ i j. within i (in_left i vs (global_names us) j)) in
      fine_joined x table g scope vs (global_names us) line.are
      (all_globals (scope_after vs scope) known (after_item c (unit.global n t ds)) line.seen
      (g + item_cells x.layout.structs (unit.global n u vs)) js us m.1 r all_structs here.1
      (λ i j. within i (in_right i vs (global_names us) j)))
  all_globals scope known c s g is ts m (rules.TypesItems.more e {i = unit.function n t y ps body} {is = js} {t = v} {ts = us} (rules.TypesItem.function k w z qs o h) r) all_structs l within =
      let p = h.typed in
      let w1 = when_is (gives p.0.result p.1) (unit.function n p.0.result y p.0.params p.1) v h.gives in
      let now : Files x table scope (after_item c (unit.function n t y ps body)) known =
      record { sees = record { names = s.sees.names; structs = s.sees.structs; table_is = s.sees.table_is; inside = s.sees.inside; gives = s.sees.gives }; count = s.count; within = s.within } in
      let l1 = subst (λ (i : TypedItem). ItemsLaid x g (i ∷ us)) (sym w1.1) l in
      subst (λ (i : TypedItem). AreFineNames table [] (making x) Void g scope (global_names (i ∷ us))) w1.1
      (same_depth x table g scope (global_names us) (all_globals scope known (after_item c (unit.function n t y ps body)) now (g + 0) js us m.1 r
      (subst (λ (i : TypedItem). Ahead x known (i ∷ us)) (sym w1.1) all_structs)
      (laid_item x g (unit.function n p.0.result y p.0.params p.1) us l1).1
      (subst (λ (i : TypedItem). (n : ℕ) → In n (map number_of (global_names (i ∷ us))) → In n x.globals) (sym w1.1) within)))
