-- Every typed unit has code.
use Rattle.std.proofs.Common.{◌≡◌, ℕ, ◌<◌, ◌≤◌, Bool, true, false, if◌then◌else◌, List, [], codes, None, Some, refl, subst, arith}
use Rattle.std.proofs.lemmas.Option.{same_Some, none-some}
use Rattle.std.proofs.lemmas.Bool.{and_parts}
use Rattle.std.specs.List.{AllByRecursion}
use Rattle.nwq_value.specs.declared.value.Ty.{Ty}
use Rattle.nwq_value.specs.declared.value.Ty.TheVariants as ty
use Rattle.nwq_value.specs.Engine.{EngineTable, IsTable}
use Rattle.nwq_value.specs.Limits.{token_limit}
use Rattle.nss_tree.specs.Source.{SourceTree}
use Rattle.typing_rules.specs.declared.places.EntryPoint.{EntryPoint}
use Rattle.typing_rules.specs.declared.places.EntryPoint.TheVariants.{Main, Conditional}
use Rattle.typing_rules.specs.Nodes.{fine, two, no_parts}
use Rattle.typing_rules.specs.Sight.{Head, start, has_body, body_number, first_types}
use Rattle.typing_rules.specs.Rules.{is_plain, begins, entry_rule, entry_rows}
use Rattle.typing_rules.specs.Verdicts.{items_fine, heads, entry_verdict, unit_of}
use Rattle.typing_rules.specs.Typed.{TypedUnit}
use Rattle.typing_rules.specs.Laws.{ItemsAreRight, VerdictsAreRight}
use Rattle.typing_rules.specs.Cells.{structs_from}
use Rattle.emission_rules.specs.Bounds.{AreItems, IsEntry}
use Rattle.emission_rules.specs.Layout.{layout_of}
use Rattle.emission_rules.specs.Units.{body_count, has_globals}
use Rattle.nss_parser.specs.Sizes.{items_size, AreKnownItems, EachTreeIsKnown}
use Rattle.typing_laws.specs.Laws.{HasCode, EachTypedTreeHasCode, EachTypedUnitHasCode}
use Rattle.typing_laws.proofs.LabelLaws.{start_few}
use Rattle.typing_laws.proofs.Lists.{map_is, two_is, asked_is}
use Rattle.typing_laws.proofs.InSight.{InBounds}
use Rattle.typing_laws.proofs.Callees.{IsHead, RolesTell, bodies_in, body_below, callee_bounds}
use Rattle.typing_laws.proofs.Expressions.{AreStructs}
use Rattle.typing_laws.proofs.Items.{ItemsGood, items_heads, items_count, structs_keep, items_good}

begins_below : (x : List ℕ) (t : Ty) (hs : List Head) → begins x t hs ≡ true → body_number x hs < bodies_in hs
begins_below x t hs e = body_below x hs (and_parts (has_body x hs) (is_plain t (first_types x hs)) e).0

entry_by : (hs : List Head) (a b : Bool) (e : EntryPoint) → (a ≡ true → body_number (codes "main") hs < bodies_in hs) → (b ≡ true → body_number (codes "StartingConditional") hs < bodies_in hs)
    → (if a then Some (Main (body_number (codes "main") hs)) else (if b then Some (Conditional (body_number (codes "StartingConditional") hs)) else None)) ≡ Some e
    → IsEntry (bodies_in hs) e
entry_by hs true b e f g is = subst (IsEntry (bodies_in hs)) (same_Some _ e is) (f refl)
entry_by hs false true e f g is = subst (IsEntry (bodies_in hs)) (same_Some _ e is) (g refl)
entry_by hs false false e f g is = absurd (none-some e is)

entry_good : (hs : List Head) (e : EntryPoint) → fine (entry_verdict hs) ≡ Some e → IsEntry (bodies_in hs) e
entry_good hs e is =
    let a = asked_is entry_rows (entry_rule hs) no_parts e is in
    entry_by hs (begins (codes "main") ty.Void hs) (begins (codes "StartingConditional") ty.Int hs) e
    (λ h. begins_below (codes "main") ty.Void hs h) (λ h. begins_below (codes "StartingConditional") ty.Int hs h) a.2

start_bounds : (table : EngineTable) → IsTable table → InBounds (start table)
start_bounds table h = record { table = h; names = tt; structs = tt }

unit_good : ItemsAreRight → RolesTell → (table : EngineTable) (u : SourceTree) (t : TypedUnit) → IsTable table → AreKnownItems u.items → items_size u.items ≤ token_limit
    → items_fine (heads table u.items) (start table) u.items ≡ Some t.items → fine (entry_verdict (heads table u.items)) ≡ Some t.entry → HasCode t
unit_good right tell table u t is known small typed entered =
    let hs = heads table u.items in
    let h = start_bounds table is in
    let all : AllByRecursion IsHead hs = items_heads (start table) u.items h known tt in
    let all_count = items_count hs (start table) u.items t.items typed in
    let count : bodies_in hs ≡ body_count t.items = omega (arith, all_count) in
    let structs : AreStructs (structs_from [] t.items) = structs_keep hs (start table) [] u.items t.items h known tt tt typed in
    let g : ItemsGood (bodies_in hs) (layout_of t) (items_size u.items) t.items =
    items_good right (bodies_in hs) (layout_of t) structs hs (λ other x kept. callee_bounds tell hs other x all kept) (start table) u.items t.items h known typed small in
    let a = g.globals in let b = g.few in let d = start_few (has_globals t.items) t.items in
    record {
      bounded = record {
        items = subst (λ n. AreItems n (layout_of t) t.items) count g.items;
        globals = omega (arith, a, small);
        entry = subst (λ n. IsEntry n t.entry) count (entry_good hs t.entry entered);
      };
      few = omega (arith, b, d, small);
    }

pub each_typed_tree_has_code : VerdictsAreRight → ItemsAreRight → RolesTell → EachTypedTreeHasCode
each_typed_tree_has_code verdicts right tell table u t is known few types =
    let size = known.size in
    let i = map_is unit_of (two (items_fine (heads table u.items) (start table) u.items) (fine (entry_verdict (heads table u.items)))) t
    ((verdicts table u t).1 types) in
    let p = two_is (items_fine (heads table u.items) (start table) u.items) (fine (entry_verdict (heads table u.items))) i.0 i.1 in
    subst HasCode i.2 (unit_good right tell table u (unit_of i.0) is known.items (omega (arith, size, few)) p.0 p.1)

pub each_typed_unit_has_code : EachTreeIsKnown → EachTypedTreeHasCode → EachTypedUnitHasCode
each_typed_unit_has_code known tree tokens table u t few literals is parses types =
    let count = parses.count in tree table u t is (known tokens u literals parses) (omega (arith, count, few)) types
