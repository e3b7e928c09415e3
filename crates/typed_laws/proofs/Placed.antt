-- Each function of a typed unit is placed.
use Rattle.std.proofs.Common.{arith, ◌≡◌, ◌≤◌, ◌⊎◌, inl, inr, true, ℕ, zero, suc, ◌+◌, List, [], ◌∷◌, ◌++◌, length, map, get_or, Some, sym, ◌∙◌, ap, refl, append_assoc}
use Rattle.std.specs.Prelude.{slice_get}
use Rattle.std.proofs.lemmas.List.{length-append}
use Rattle.std.proofs.lemmas.Option.{none-some}
use Rattle.nss_tree.specs.Counts.{in_all, variables_of}
use Rattle.nwq_value.specs.declared.value.Ty.{Ty}
use Rattle.nwq_value.specs.declared.value.Ty.TheVariants.{Void, Int}
use Rattle.nwq_value.specs.declared.engine.Routine.{Routine}
use Rattle.nwq_value.specs.Engine.{EngineTable, IsRoutine, IsTable}
use Rattle.nwq_value.specs.Roles.{BuiltAsHeader, PureAsHeader, WorldIsCallable}
use Rattle.nss_tree.specs.Source.{SourceTree}
use Rattle.nss_symbols.specs.Symbols.{Symbol}
use Rattle.nss_parser.specs.Sentence.{Parses}
use Rattle.typing_rules.specs.Numbers.{items_numbers, item_numbers, numbers_from, NumberedInOrder}
use Rattle.typing_rules.specs.declared.places.EntryPoint.{EntryPoint}
use Rattle.typing_rules.specs.declared.places.EntryPoint.TheVariants.{Main, Conditional}
use Rattle.typing_rules.specs.Meaning.{TypesUnit}
use Rattle.typing_rules.specs.Laws.{ItemsAreRight}
use Rattle.typing_rules.specs.Sight.{Head, start, is_callable_role}
use Rattle.typing_rules.specs.Typed.{TypedItem, TypedUnit}
use Rattle.typing_rules.specs.Verdicts.{heads}
use Rattle.emission_rules.specs.Laws.{PositionsByNumber}
use Rattle.machine_rules.specs.Frames.{Frame}
use Rattle.stack_shape.specs.Calls.{action_count}
use Rattle.source_laws.specs.Kept.{Site}
use Rattle.source_laws.specs.FineStatements.{AreFineNames}
use Rattle.source_meaning.specs.Scripts.{Function, functions, global_names}
use Rattle.source_laws.specs.Carries.{item_types, items_types, variable_type, unit_site}
use Rattle.source_laws.specs.Placing.{FunctionsStand}
use Rattle.source_laws.specs.Starts.{making, BeginsWith}
use Rattle.typed_laws.specs.Laws.{HasEntry, FunctionsArePlaced, GlobalsAreFine, UnitsAreReady}
use Rattle.typed_laws.proofs.Grammar.{items_made}
use Rattle.typed_laws.proofs.Bodies.{Declared, after_all}
use Rattle.typed_laws.proofs.Items.{Files, ItemsLaid, item_types_many, IsBody, bodies_are, all_globals}
use Rattle.typed_laws.proofs.Actions.{few_actions}
use Rattle.typed_laws.proofs.Entries.{entries_are_plain}

-- ---- the types of variables by their numbers

types_many : (is : List TypedItem) → length (items_types is) ≡ length (items_numbers is)
types_many [] = refl
types_many (i ∷ is) =
    let a = length-append (item_types i) (items_types is) in
    let b = length-append (item_numbers i) (items_numbers is) in
    let e = item_types_many i in
    let f = types_many is in
    omega (arith, a, b, e, f)

length_from : (n k : ℕ) → length (numbers_from n k) ≡ k
length_from n zero = refl
length_from n (suc k) = ap suc (length_from (n + 1) k)

at_middle : (before behind : List Ty) (t : Ty) → get_or (before ++ t ∷ behind) (length before) Void ≡ t
at_middle [] behind t = refl
at_middle (b ∷ before) behind t = at_middle before behind t

by_index : (before ts : List Ty) → map (λ n. get_or (before ++ ts) n Void) (numbers_from (length before) (length ts)) ≡ ts
by_index before [] = refl
by_index before (t ∷ ts) =
    let moved : before ++ (t ∷ ts) ≡ (before ++ t ∷ []) ++ ts = sym (append_assoc before (t ∷ []) ts) in
    let next : length before + 1 ≡ length (before ++ t ∷ []) = omega (arith, length-append before (t ∷ [])) in
    let rest : map (λ n. get_or (before ++ (t ∷ ts)) n Void) (numbers_from (length before + 1) (length ts)) ≡ ts =
    ap (λ (all : List Ty). map (λ n. get_or all n Void) (numbers_from (length before + 1) (length ts))) moved
    ∙ ap (λ m. map (λ n. get_or ((before ++ t ∷ []) ++ ts) n Void) (numbers_from m (length ts))) next
    ∙ by_index (before ++ t ∷ []) ts in
    ap (λ (y : Ty). y ∷ map (λ n. get_or (before ++ (t ∷ ts)) n Void) (numbers_from (length before + 1) (length ts))) (at_middle before ts t)
    ∙ ap (λ (ys : List Ty). t ∷ ys) rest

types_by_number : (u : TypedUnit) (count : ℕ) → items_numbers u.items ≡ numbers_from 0 count → map (variable_type u) (items_numbers u.items) ≡ items_types u.items
types_by_number u count is =
    let same : count ≡ length (items_types u.items) = sym (types_many u.items ∙ ap length is ∙ length_from 0 count) in
    ap (map (variable_type u)) (is ∙ ap (numbers_from 0) same) ∙ by_index [] (items_types u.items)

module _ (right : ItemsAreRight) (numbered : NumberedInOrder) (positions : PositionsByNumber) (built : BuiltAsHeader) (pures : PureAsHeader) (worlds : WorldIsCallable)
    (table : EngineTable) (tokens : List Symbol) (tree : SourceTree) (u : TypedUnit) (kept : IsTable table) (parses : Parses tokens tree) (typed : TypesUnit table tree u)
    (script self : ℕ) (waiting : List Frame) where
  abbrev x : Site
  x = unit_site script u self waiting

  abbrev hs : List Head
  hs = heads table tree.items

  all_declared : Declared (functions u.items) hs
  all_declared = after_all right hs [] (start table) tree.items u.items typed.items (record { heads = tt; are = λ y s has e. absurd cc; count = refl })

  few : (r : Routine) → IsRoutine r → is_callable_role r.role ≡ true → action_count r.params ≤ 1
  few = few_actions built pures worlds

  at_start : Files x table [] (start table) []
  at_start = record {
    sees = record { names = tt; structs = λ n s e. absurd (none-some s e); table_is = refl; inside = refl; gives = λ f. absurd cc };
    count = refl;
    within = λ n i. absurd i;
  }

  laid : ItemsLaid x 0 u.items
  laid = record { places = positions table tree u typed; types = types_by_number u (in_all variables_of tree.items) (numbered table tree u typed) }

  pub body_is : (f : ℕ) (fn : Function) → slice_get (functions u.items) f ≡ Some fn → IsBody table (functions u.items) x fn
  body_is f fn there = bodies_are right x table kept few
      (functions u.items) hs all_declared.heads all_declared.are refl [] [] (start table) at_start 0 tree.items u.items
      (items_made parses.items) typed.items ([], refl, refl, refl) laid (λ n i. i) f fn there

  pub globals_fine : AreFineNames table [] (making x) Void 0 [] (global_names u.items)
  globals_fine = all_globals right x table kept few hs all_declared.heads [] [] (start table) at_start 0 tree.items u.items (items_made parses.items) typed.items ([], refl, refl, refl) laid (λ n i. i)

pub functions_are_placed : ItemsAreRight → NumberedInOrder → PositionsByNumber → FunctionsStand → BuiltAsHeader → PureAsHeader → WorldIsCallable → FunctionsArePlaced
functions_are_placed right numbered positions stand built pures worlds table tokens tree u kept parses typed script self waiting f fn there =
    let b = body_is right numbered positions built pures worlds table tokens tree u kept parses typed script self waiting f fn there in
    let s = stand u f fn there in
    record { label = s.label; stands = s.stands; parameters = b.parameters; fine = b.fine; cells = b.cells }

pub globals_are_fine : ItemsAreRight → NumberedInOrder → PositionsByNumber → BuiltAsHeader → PureAsHeader → WorldIsCallable → GlobalsAreFine
globals_are_fine right numbered positions built pures worlds table tokens tree u kept parses typed script self waiting =
    globals_fine right numbered positions built pures worlds table tokens tree u kept parses typed script self waiting

pub units_are_ready : ItemsAreRight → NumberedInOrder → PositionsByNumber → FunctionsStand → BuiltAsHeader → PureAsHeader → WorldIsCallable → UnitsAreReady
units_are_ready right numbered positions stand built pures worlds table tokens tree u kept parses typed script self waiting = by u.entry refl
  where
    begins_with : (begin : ℕ → EntryPoint) (t : Ty) (entry : ℕ) → u.entry ≡ begin entry → HasEntry (functions u.items) entry t → BeginsWith begin t table u (unit_site script u self waiting)
    begins_with begin t entry is h = record {
      entry = entry;
      begins = is;
      main = h.main;
      is = h.is;
      parameters = h.parameters;
      result = h.result;
      made = globals_are_fine right numbered positions built pures worlds table tokens tree u kept parses typed script self waiting;
      placed = λ f fn there. functions_are_placed right numbered positions stand built pures worlds table tokens tree u kept parses typed script self waiting f fn there;
    }

    by : (e : EntryPoint) → u.entry ≡ e → BeginsWith Main Void table u (unit_site script u self waiting) ⊎ BeginsWith Conditional Int table u (unit_site script u self waiting)
    by (Main entry) is = inl (begins_with Main Void entry is ((entries_are_plain right table tree u typed entry).0 is))
    by (Conditional entry) is = inr (begins_with Conditional Int entry is ((entries_are_plain right table tree u typed entry).1 is))
