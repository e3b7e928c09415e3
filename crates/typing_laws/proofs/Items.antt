-- The items of a typed unit: what each puts in sight, the cells of the structs, and the bounds of
-- globals and functions.
use Rattle.std.proofs.Common.{◌≡◌, ℕ, ◌+◌, ◌*◌, ◌≤◌, Bool, false, if◌then◌else◌, not, List, [], ◌∷◌, ◌++◌, length, Option, None, Some, is_some, option_map, refl, sym, ap, subst, ◌∙◌, arith}
use Rattle.std.proofs.lemmas.Option.{same_Some, none-some}
use Rattle.std.specs.Prelude.{◌&&◌}
use Rattle.std.specs.List.{AllByRecursion, flat_map}
use Rattle.nwq_value.specs.declared.value.Ty.{Ty}
use Rattle.nwq_value.specs.Engine.{EngineTable, IsTable, const_type}
use Rattle.nwq_value.specs.Limits.{frame_cell_limit, struct_cell_limit, token_limit}
use Rattle.nss_tree.specs.declared.constants.Constant.{Constant as Written}
use Rattle.nss_tree.specs.declared.constants.TypeName.{TypeName}
use Rattle.nss_tree.specs.Source.{SourceDeclared, SourceStmts, SourceItem, SourceLine, SourceParameter}
use Rattle.nss_tree.specs.Units as item
use Rattle.typing_rules.specs.Types.{same_type}
use Rattle.typing_rules.specs.Nodes.{fine, two, three, present_if, absent, present}
use Rattle.typing_rules.specs.Typed.{TypedStmts, TypedLine, TypedParameter, TypedItem}
use Rattle.typing_rules.specs.Sight.{Structure, Head, Sight, cells_of_members, is_taken, has_struct, type_means, any_type, first_types, callee, declared}
use Rattle.typing_rules.specs.Rules.{no_fields, struct_rule, struct_rows, constant_name_rule, constant_name_rows, TypedHead, signature_of, may_declare, head_of, head_rule, head_rows, gives}
use Rattle.typing_rules.specs.Rules.{function_rule, function_rows}
use Rattle.typing_rules.specs.Verdicts.{line_type, constant_line_verdict, constant_value, after_names, names_fine, stmts_fine, lines_fine, struct_verdict, struct_members, no_members, params_fine}
use Rattle.typing_rules.specs.Verdicts.{in_function, in_body, head_verdict, head, body_fine, constant_parts, constant_name_verdict, constant_item, global_item, constant_meaning, after_item}
use Rattle.typing_rules.specs.Verdicts.{after_items, item_fine, items_fine}
use Rattle.typing_rules.specs.Meaning.{TypesBody, TypesItem}
use Rattle.typing_rules.specs.Meaning as rules
use Rattle.typing_rules.specs.Laws.{ItemsAreRight}
use Rattle.typing_rules.specs.Cells.{Structs, line_cells, structs_from}
use Rattle.emission_rules.specs.Bounds.{globals_weight, AreItems}
use Rattle.emission_rules.specs.Layout.{Layout}
use Rattle.emission_rules.specs.Units.{body_count, functions_labels, globals_labels}
use Rattle.nss_parser.specs.Sizes.{names_size, body_size, item_size, items_size, IsKnownConstant, IsKnownBody, IsKnownItem, AreKnownItems, AreKnownNames, AreKnownParams}
use Rattle.typing_laws.proofs.LabelLaws.{names_few}
use Rattle.typing_laws.proofs.Lists.{Holds, all_last, map_is, then_is, when_is, one_more_is, two_is, three_is, asked_is}
use Rattle.typing_laws.proofs.InSight.{IsMeaning, IsEntry, IsMember, IsStructure, InBounds, any_bounds, line_bounds, constant_bounds, names_keep, params_keep, same_keeps, as_holds}
use Rattle.typing_laws.proofs.Callees.{IsSignature, IsHead, IsCalled, bodies_in}
use Rattle.typing_laws.proofs.Expressions.{AreCells, AreStructs}
use Rattle.typing_laws.proofs.Statements.{params_loops, names, statements, other_flags}
use Rattle.typing_laws.proofs.Cells.{LinesCount, lines_cells, lines_count, MembersKeep, lines_members, Agree, agree_last, struct_lines, ParamsKeep, params_good, params_few}

-- ---- structs and constants in sight

struct_is : (structs : List Structure) (x : List ℕ) (ls : List SourceLine) (us : List TypedLine) → fine (struct_verdict structs x ls) ≡ Some us → LinesCount structs no_fields us
struct_is structs x ls us e =
    let a = asked_is struct_rows (struct_rule structs x) (lines_fine structs no_fields ls) us e in
    let w = when_is (not (has_struct x structs)) a.0 us a.2 in
    let room : 0 ≤ struct_cell_limit = omega arith in
    subst (LinesCount structs no_fields) w.1 (lines_count structs no_fields ls a.0 room a.1)

members_are : (structs : List Structure) (us : List TypedLine) → LinesCount structs no_fields us → MembersKeep (lines_cells structs us) (struct_members structs us)
members_are structs us h =
    let a = h.within in
    let m = lines_members structs no_members us 0 h.values (record { fields = tt; cells = refl }) (omega (arith, a)) in
    let b = m.cells in record { fields = m.fields; cells = omega (arith, b) }

struct_bounds : (structs : List Structure) (x : List ℕ) (ls : List SourceLine)
    → Holds (λ m. AllByRecursion IsMember m.fields)
    (option_map (struct_members structs) (fine (struct_verdict structs x ls)))
struct_bounds structs x ls = as_holds (λ m. AllByRecursion IsMember m.fields) (option_map (struct_members structs) (fine (struct_verdict structs x ls))) (λ m e.
    let i = map_is (struct_members structs) (fine (struct_verdict structs x ls)) m e in
    subst (λ k. AllByRecursion IsMember k.fields) i.2 (members_are structs i.0 (struct_is structs x ls i.0 i.1)).fields)

constant_entry : (c : Sight) (t : TypeName) (x : List ℕ) (k : Written) → InBounds c → IsKnownConstant k
    → Holds IsMeaning (option_map constant_meaning (fine (constant_name_verdict c t x k)))
constant_entry c t x k h known = as_holds IsMeaning (option_map constant_meaning (fine (constant_name_verdict c t x k))) (λ m e.
    let i = map_is constant_meaning (fine (constant_name_verdict c t x k)) m e in
    let a = asked_is (constant_name_rows c x) (constant_name_rule c x) (constant_parts c t k) i.0 i.1 in
    let w = when_is (not (is_taken c x) && same_type a.0.0 (const_type a.0.1)) a.0 i.0 a.2 in
    let p = two_is (fine (constant_line_verdict c.structs t)) (constant_value c k) a.0 a.1 in
    subst IsMeaning (ap constant_meaning w.1 ∙ i.2) (constant_bounds c k a.0.1 h known p.1))

pub item_keeps : (c : Sight) (i : SourceItem) → InBounds c → IsKnownItem i → InBounds (after_item c i)
item_keeps c (item.structure n x ls) h known = record {
  table = h.table;
  names = h.names;
  structs = all_last IsStructure c.structs (record { called = x; members = option_map (struct_members c.structs) (fine (struct_verdict c.structs x ls)) }) h.structs
      (struct_bounds c.structs x ls);
}
item_keeps c (item.constant n t x k) h known = record {
  table = h.table;
  names = all_last IsEntry c.names (record { called = x.name; means = option_map constant_meaning (fine (constant_name_verdict c t x.name k)) }) h.names
      (constant_entry c t x.name k h known);
  structs = h.structs;
}
item_keeps c (item.global n t ds) h known = names_keep c (line_type c.structs t) ds (line_bounds c.structs t) h
item_keeps c (item.function n t x ps body) h known = same_keeps c (after_item c (item.function n t x ps body)) refl refl refl h

-- ---- heads

record HeadGood (ps : List SourceParameter) (d : TypedHead) : Type 0 where
  signature : IsSignature (signature_of d)
  params : ParamsKeep 0 (length ps) d.params

head_good : (c : Sight) (t : TypeName) (x : List ℕ) (ps : List SourceParameter) (b : Bool) (d : TypedHead) → InBounds c → AreKnownParams ps
    → fine (head_verdict c t x ps b) ≡ Some d → HeadGood ps d
head_good c t x ps b d h known e =
    let a = asked_is head_rows (head_rule c x b) (three (params_fine (in_function c t) false ps) (type_means c.structs t) (first_types x c.seen)) d e in
    let p = three_is (params_fine (in_function c t) false ps) (type_means c.structs t) (first_types x c.seen) a.0 a.1 in
    let r = then_is (λ s. head_of c x b a.0.2 (record { params = a.0.0; result = s })) (any_type a.0.1) d a.2 in
    let made : TypedHead = record { params = a.0.0; result = r.0 } in
    let w = when_is (may_declare c x b a.0.2 made) made d r.2 in
    let room : 0 ≤ frame_cell_limit = omega arith in
    let k = params_good (in_function c t) false ps a.0.0 (same_keeps c (in_function c t) refl refl refl h) known refl room p.0 in
    let few = k.few in
    subst (HeadGood ps) w.1 (record {
      signature = record { result = any_bounds c.structs t a.0.1 r.0 p.1 r.1; defaults = k.defaults; few = omega (arith, few) };
      params = k;
    })

head_bounds : (c : Sight) (t : TypeName) (x : List ℕ) (ps : List SourceParameter) (b : Bool) → InBounds c → AreKnownParams ps → IsHead (head c t x ps b)
head_bounds c t x ps b h known = as_holds IsSignature (option_map signature_of (fine (head_verdict c t x ps b))) (λ s e.
    let i = map_is signature_of (fine (head_verdict c t x ps b)) s e in
    subst IsSignature i.2 (head_good c t x ps b i.0 h known i.1).signature)

names_seen : (c : Sight) (t : Option Ty) (ds : List SourceDeclared) → ((after_names c t ds).seen ≡ c.seen) × ((after_names c t ds).structs ≡ c.structs)
names_seen c t [] = (refl, refl)
names_seen c t (d ∷ ds) = names_seen (declared c d.name t) t ds

bodies_last : (hs : List Head) (h : Head) → bodies_in (hs ++ h ∷ []) ≡ bodies_in hs + (if h.has_body then 1 else 0)
bodies_last [] h = omega arith
bodies_last (x ∷ hs) h = let a = bodies_last hs h in omega (arith, a)

pub item_heads : (c : Sight) (i : SourceItem) → InBounds c → IsKnownItem i → AllByRecursion IsHead c.seen → AllByRecursion IsHead (after_item c i).seen
item_heads c (item.structure n x ls) h known all = all
item_heads c (item.constant n t x k) h known all = all
item_heads c (item.global n t ds) h known all = subst (AllByRecursion IsHead) (sym (names_seen c (line_type c.structs t) ds).0) all
item_heads c (item.function n t x ps body) h known all =
    all_last IsHead c.seen (head c t x ps (is_some body)) all (head_bounds c t x ps (is_some body) h known.0)

pub items_heads : (c : Sight) (is : List SourceItem) → InBounds c → AreKnownItems is → AllByRecursion IsHead c.seen → AllByRecursion IsHead (after_items c is).seen
items_heads c [] h known all = all
items_heads c (i ∷ is) h known all = items_heads (after_item c i) is (item_keeps c i h known.0) known.1 (item_heads c i h known.0 all)

-- ---- typed items

-- how many bodies an item has
abbrev bodies_of : SourceItem → ℕ
bodies_of (item.function n t x ps body) = if is_some body then 1 else 0
bodies_of _ = 0

item_bodies : (c : Sight) (i : SourceItem) → bodies_in (after_item c i).seen ≡ bodies_in c.seen + bodies_of i
item_bodies c (item.structure n x ls) = omega arith
item_bodies c (item.constant n t x k) = omega arith
item_bodies c (item.global n t ds) = let e = ap bodies_in (names_seen c (line_type c.structs t) ds).0 in omega (arith, e)
item_bodies c (item.function n t x ps body) = bodies_last c.seen (head c t x ps (is_some body))

pub record ItemsGood (bodies : ℕ) (l : Layout) (n : ℕ) (ts : List TypedItem) : Type 0 where
  pub items : AreItems bodies l ts
  pub globals : globals_weight ts ≤ 2048 * n
  pub few : body_count ts + globals_labels ts + functions_labels ts ≤ 2048 * n

-- what a function is typed as
record FunctionIs (hs : List Head) (c : Sight) (n : ℕ) (t : TypeName) (x : List ℕ) (ps : List SourceParameter) (body : Option SourceStmts) (u : TypedItem) : Type 0 where
  declaration : TypedHead
  declared_as : fine (head_verdict c t x ps (is_some body)) ≡ Some declaration
  own : Option TypedStmts
  own_is : body_fine hs (in_body c t ps) body ≡ Some own
  item_is : item.function n declaration.result x declaration.params own ≡ u

function_is : (hs : List Head) (c : Sight) (n : ℕ) (t : TypeName) (x : List ℕ) (ps : List SourceParameter) (body : Option SourceStmts) (u : TypedItem)
    → item_fine hs c (item.function n t x ps body) ≡ Some u → FunctionIs hs c n t x ps body u
function_is hs c n t x ps body u e =
    let a = asked_is function_rows (function_rule n x) (two (fine (head_verdict c t x ps (is_some body))) (body_fine hs (in_body c t ps) body)) u e in
    let p = two_is (fine (head_verdict c t x ps (is_some body))) (body_fine hs (in_body c t ps) body) a.0 a.1 in
    let w = when_is (gives a.0.0.result a.0.1) (item.function n a.0.0.result x a.0.0.params a.0.1) u a.2 in
    record { declaration = a.0.0; declared_as = p.0; own = a.0.1; own_is = p.1; item_is = w.1 }

present_is : {B : Type 0} (o : Option B) (q : Option B) → present_if o ≡ Some q → (b : B) × (o ≡ Some b) × (Some b ≡ q)
present_is None q e = absurd (none-some q e)
present_is (Some b) q e = (b, refl, same_Some _ _ e)

count_by : (n : ℕ) (r : Ty) (x : List ℕ) (hs : List Head) (c : Sight) (d : TypedHead) (body : Option SourceStmts) (own : Option TypedStmts) (rest : List TypedItem)
    → body_fine hs c body ≡ Some own → body_count (item.function n r x d.params own ∷ rest) ≡ (if is_some body then 1 else 0) + body_count rest
count_by n r x hs c d None own rest e = subst (λ o. body_count (item.function n r x d.params o ∷ rest) ≡ 0 + body_count rest) (same_Some None own e) (omega arith)
count_by n r x hs c d (Some xs) own rest e =
    let p = present_is (stmts_fine hs c xs) own e in
    subst (λ o. body_count (item.function n r x d.params o ∷ rest) ≡ 1 + body_count rest) p.2 refl

pub item_count : (hs : List Head) (c : Sight) (i : SourceItem) (u : TypedItem) (rest : List TypedItem) → item_fine hs c i ≡ Some u → body_count (u ∷ rest) ≡ bodies_of i + body_count rest
item_count hs c (item.structure n x ls) u rest e =
    let i = map_is (item.structure n x) (fine (struct_verdict c.structs x ls)) u e in subst (λ v. body_count (v ∷ rest) ≡ 0 + body_count rest) i.2 (omega arith)
item_count hs c (item.constant n t x k) u rest e =
    let i = map_is (constant_item n x) (fine (constant_name_verdict c t x.name k)) u e in subst (λ v. body_count (v ∷ rest) ≡ 0 + body_count rest) i.2 (omega arith)
item_count hs c (item.global n t ds) u rest e =
    let i = map_is (global_item n) (two (line_type c.structs t) (names_fine hs c (line_type c.structs t) ds)) u e in
    subst (λ v. body_count (v ∷ rest) ≡ 0 + body_count rest) i.2 (omega arith)
item_count hs c (item.function n t x ps body) u rest e =
    let f = function_is hs c n t x ps body u e in
    subst (λ v. body_count (v ∷ rest) ≡ bodies_of (item.function n t x ps body) + body_count rest) f.item_is
    (count_by n f.declaration.result x hs (in_body c t ps) f.declaration body f.own rest f.own_is)

pub items_count : (hs : List Head) (c : Sight) (is : List SourceItem) (ts : List TypedItem) → items_fine hs c is ≡ Some ts
    → bodies_in (after_items c is).seen ≡ bodies_in c.seen + body_count ts
items_count hs c [] ts e = subst (λ us. bodies_in c.seen ≡ bodies_in c.seen + body_count us) (same_Some [] ts e) (omega arith)
items_count hs c (i ∷ is) ts e =
    let m = one_more_is (item_fine hs c i) (items_fine hs (after_item c i) is) ts e in
    let a = items_count hs (after_item c i) is m.1 m.3 in
    let b = item_bodies c i in
    let d = item_count hs c i m.0 m.1 m.2 in
    subst (λ us. bodies_in (after_items c (i ∷ is)).seen ≡ bodies_in c.seen + body_count us) m.4 (omega (arith, a, b, d))

-- ---- the cells of structs

pub structs_keep : (hs : List Head) (c : Sight) (ks : Structs) (is : List SourceItem) (ts : List TypedItem) → InBounds c → AreKnownItems is → Agree c.structs ks → AreStructs ks
    → items_fine hs c is ≡ Some ts → AreStructs (structs_from ks ts)
structs_keep hs c ks [] ts h known same good e = subst (λ us. AreStructs (structs_from ks us)) (same_Some [] ts e) good
structs_keep hs c ks (item.structure n x ls ∷ is) ts h known same good e =
    let m = one_more_is (item_fine hs c (item.structure n x ls)) (items_fine hs (after_item c (item.structure n x ls)) is) ts e in
    let i = map_is (item.structure n x) (fine (struct_verdict c.structs x ls)) m.0 m.2 in
    let us = i.0 in
    let count = struct_is c.structs x ls us i.1 in
    let lines = struct_lines c.structs ks us same good count.values in
    let members = members_are c.structs us count in
    let a = count.within in let b = lines.count_is in
    let cells_are : cells_of_members (option_map (struct_members c.structs) (fine (struct_verdict c.structs x ls))) ≡ length (flat_map (line_cells ks) us) =
    ap (λ o. cells_of_members (option_map (struct_members c.structs) o)) i.1 ∙ (members.cells ∙ sym b) in
    let next = structs_keep hs (after_item c (item.structure n x ls)) (ks ++ flat_map (line_cells ks) us ∷ []) is m.1
    (item_keeps c (item.structure n x ls) h known.0) known.1
    (agree_last c.structs ks (record { called = x; members = option_map (struct_members c.structs) (fine (struct_verdict c.structs x ls)) }) (flat_map (line_cells ks) us) same cells_are)
    (all_last AreCells ks (flat_map (line_cells ks) us) good (omega (arith, a, b), lines.cells)) m.3 in
    subst (λ vs. AreStructs (structs_from ks vs)) (ap (λ v. v ∷ m.1) i.2 ∙ m.4) next
structs_keep hs c ks (item.constant n t x k ∷ is) ts h known same good e =
    let m = one_more_is (item_fine hs c (item.constant n t x k)) (items_fine hs (after_item c (item.constant n t x k)) is) ts e in
    let i = map_is (constant_item n x) (fine (constant_name_verdict c t x.name k)) m.0 m.2 in
    let next = structs_keep hs (after_item c (item.constant n t x k)) ks is m.1 (item_keeps c (item.constant n t x k) h known.0) known.1 same good m.3 in
    subst (λ vs. AreStructs (structs_from ks vs)) (ap (λ v. v ∷ m.1) i.2 ∙ m.4) next
structs_keep hs c ks (item.global n t ds ∷ is) ts h known same good e =
    let m = one_more_is (item_fine hs c (item.global n t ds)) (items_fine hs (after_item c (item.global n t ds)) is) ts e in
    let i = map_is (global_item n) (two (line_type c.structs t) (names_fine hs c (line_type c.structs t) ds)) m.0 m.2 in
    let next = structs_keep hs (after_item c (item.global n t ds)) ks is m.1 (item_keeps c (item.global n t ds) h known.0) known.1
    (subst (λ ss. Agree ss ks) (sym (names_seen c (line_type c.structs t) ds).1) same) good m.3 in
    subst (λ vs. AreStructs (structs_from ks vs)) (ap (λ v. v ∷ m.1) i.2 ∙ m.4) next
structs_keep hs c ks (item.function n t x ps body ∷ is) ts h known same good e =
    let m = one_more_is (item_fine hs c (item.function n t x ps body)) (items_fine hs (after_item c (item.function n t x ps body)) is) ts e in
    let f = function_is hs c n t x ps body m.0 m.2 in
    let next = structs_keep hs (after_item c (item.function n t x ps body)) ks is m.1 (item_keeps c (item.function n t x ps body) h known.0) known.1 same good m.3 in
    subst (λ vs. AreStructs (structs_from ks vs)) (ap (λ v. v ∷ m.1) f.item_is ∙ m.4) next

-- ---- globals and functions

abbrev function_item : ℕ → Ty → List ℕ → List TypedParameter → Option TypedStmts → TypedItem
function_item n r x ps body = item.function n r x ps body

same_body : (n m : ℕ) (r s : Ty) (x y : List ℕ) (ps qs : List TypedParameter) (b d : Option TypedStmts) → function_item n r x ps b ≡ function_item m s y qs d → b ≡ d
same_body n m r s x y ps qs b d e = cc

-- what a function's body is typed as
body_typed : (hs : List Head) (c : Sight) (n : ℕ) (t : TypeName) (x : List ℕ) (ps : List SourceParameter) (body : Option SourceStmts) (u : TypedItem)
    → (f : FunctionIs hs c n t x ps body u) → TypesItem hs c (item.function n t x ps body) u → TypesBody hs (in_body c t ps) body f.own
body_typed hs c n t x ps body u f (rules.TypesItem.function m s y qs b h) =
    let p = h.typed in
    let w = when_is (gives p.0.result p.1) (item.function n p.0.result x p.0.params p.1) u h.gives in
    subst (TypesBody hs (in_body c t ps) body)
    (same_body n n p.0.result f.declaration.result x x p.0.params f.declaration.params p.1 f.own (w.1 ∙ sym f.item_is)) h.parts.1

module _ (right : ItemsAreRight) (bodies : ℕ) (l : Layout) (good : AreStructs l.structs) (hs : List Head)
    (calls : (table : EngineTable) (x : List ℕ) → IsTable table → Holds (Holds (IsCalled bodies)) (callee hs table x)) where
  function_good : (n : ℕ) (x : List ℕ) (ps : List SourceParameter) (d : TypedHead) (c : Sight) (body : Option SourceStmts) (own : Option TypedStmts) (k : ℕ) (rest : List TypedItem)
      → HeadGood ps d → InBounds c → c.may_break ≡ false → c.in_loop ≡ false → IsKnownBody body → TypesBody hs c body own → length ps + body_size body ≤ token_limit
      → ItemsGood bodies l k rest → ItemsGood bodies l (1 + (length ps + body_size body) + k) (item.function n d.result x d.params own ∷ rest)
  function_good n x ps d c body own k rest decl h breaks continues known absent small g =
      let a = g.globals in let b = g.few in record { items = g.items; globals = omega (arith, a); few = omega (arith, b) }
  function_good n x ps d c body own k rest decl h breaks continues known (present {a = xs} {b = ts} typed) small g =
      let s = other_flags bodies l false false c.may_break c.in_loop (body_size (Some xs)) ts breaks continues (statements bodies l good hs calls c h known typed) in
      let few = params_few l.structs d.params good decl.params.values in
      let count = decl.params.count_is in
      let w = s.light in let v = s.few in let a = g.globals in let b = g.few in
      record {
        items = (s.kept, omega (arith, few, count, w, small), g.items);
        globals = omega (arith, a);
        few = omega (arith, b, v);
      }

  global_good : (c : Sight) (n : ℕ) (t : TypeName) (ds : List SourceDeclared) (u : TypedItem) (k : ℕ) (rest : List TypedItem) → InBounds c → AreKnownNames ds
      → TypesItem hs c (item.global n t ds) u → ItemsGood bodies l k rest → ItemsGood bodies l (1 + names_size ds + k) (u ∷ rest)
  global_good c n t ds u k rest h known (rules.TypesItem.global m s {us = us} line typed) g =
      let s = names bodies l good hs calls c (line_type c.structs t) (line_bounds c.structs t) h known typed in
      let a = g.globals in let b = g.few in let w = s.light in let y = names_few us in
      record { items = (s.kept, g.items); globals = omega (arith, a, w); few = omega (arith, b, w, y) }

  item_good : (c : Sight) (i : SourceItem) (u : TypedItem) (k : ℕ) (rest : List TypedItem) → InBounds c → IsKnownItem i → item_fine hs c i ≡ Some u → item_size i ≤ token_limit
      → ItemsGood bodies l k rest → ItemsGood bodies l (item_size i + k) (u ∷ rest)
  item_good c (item.structure n x ls) u k rest h known e small g =
      let i = map_is (item.structure n x) (fine (struct_verdict c.structs x ls)) u e in
      let a = g.globals in let b = g.few in
      subst (λ v. ItemsGood bodies l (0 + k) (v ∷ rest)) i.2 (record { items = g.items; globals = omega (arith, a); few = omega (arith, b) })
  item_good c (item.constant n t x w) u k rest h known e small g =
      let i = map_is (constant_item n x) (fine (constant_name_verdict c t x.name w)) u e in
      let a = g.globals in let b = g.few in
      subst (λ v. ItemsGood bodies l (0 + k) (v ∷ rest)) i.2 (record { items = g.items; globals = omega (arith, a); few = omega (arith, b) })
  item_good c (item.global n t ds) u k rest h known e small g = global_good c n t ds u k rest h known ((right hs c (item.global n t ds) u).0 e) g
  item_good c (item.function n t x ps body) u k rest h known e small g =
      let f = function_is hs c n t x ps body u e in
      let decl = head_good c t x ps (is_some body) f.declaration h known.0 f.declared_as in
      let same = params_loops (in_function c t) ps in
      subst (λ v. ItemsGood bodies l (1 + (length ps + body_size body) + k) (v ∷ rest)) f.item_is
      (function_good n x ps f.declaration (in_body c t ps) body f.own k rest decl
      (params_keep (in_function c t) ps (same_keeps c (in_function c t) refl refl refl h)) same.breaks same.continues known.1
      (body_typed hs c n t x ps body u f ((right hs c (item.function n t x ps body) u).0 e)) (omega (arith, small)) g)

  pub items_good : (c : Sight) (is : List SourceItem) (ts : List TypedItem) → InBounds c → AreKnownItems is → items_fine hs c is ≡ Some ts → items_size is ≤ token_limit
      → ItemsGood bodies l (items_size is) ts
  items_good c [] ts h known e small =
      subst (ItemsGood bodies l 0) (same_Some [] ts e) (record { items = tt; globals = omega arith; few = omega arith })
  items_good c (i ∷ is) ts h known e small =
      let m = one_more_is (item_fine hs c i) (items_fine hs (after_item c i) is) ts e in
      let rest = items_good (after_item c i) is m.1 (item_keeps c i h known.0) known.1 m.3 (omega (arith, small)) in
      subst (ItemsGood bodies l (item_size i + items_size is)) m.4 (item_good c i m.0 (items_size is) m.1 h known.0 m.2 (omega (arith, small)) rest)
