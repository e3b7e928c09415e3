-- The fields of a struct that is typed have no more cells than a struct may have.
use Rattle.std.proofs.Common.{◌≡◌, ◌≤◌, ◌<◌, ℕ, suc, ◌+◌, min, Bool, true, false, not, ◌&&◌, nat_lt, List, [], ◌∷◌, ◌++◌, length, get_or, drop, drop-cons, Option, None, Some, refl, sym, ap, subst}
use Rattle.std.proofs.Common.{◌∙◌, arith}
use Rattle.std.specs.Prelude.{IfSome}
use Rattle.std.specs.Option.{option_map}
use Rattle.std.proofs.lemmas.Option.{same_Some, none-some}
use Rattle.std.proofs.lemmas.Bool.{true≢false, and_parts}
use Rattle.std.proofs.lemmas.Bool.Decides.{nat_tests}
use Rattle.nwq_value.specs.Limits.{struct_cell_limit}
use Rattle.nwq_value.specs.declared.value.Ty.{Ty}
use Rattle.nss_tree.specs.declared.units.Identifier.{Identifier}
use Rattle.nss_tree.specs.Source.{SourceLine}
use Rattle.typing_rules.specs.declared.fault.FaultKind.{FaultKind}
use Rattle.typing_rules.specs.Nodes.{Rows, first_kind, fine, ruled, asked, two}
use Rattle.typing_rules.specs.Typed.{TypedLine}
use Rattle.typing_rules.specs.Sight.{Members, Structure, cells, cells_if, counted_to_limit, has_struct}
use Rattle.typing_rules.specs.Rules.{Fields, crosses_fields, field_rows, field_rule, fields_with, is_among, no_fields, struct_rows, struct_rule, when}
use Rattle.typing_rules.specs.Verdicts.{after_fields, after_line, field_added, field_verdict, fields_fine, line_fine, line_of, line_type, lines_fine, members_of_line, members_of_lines, no_members}
use Rattle.typing_rules.specs.Verdicts.{one_more, struct_members, struct_verdict}

-- ---- what answers were made of

map_is : {A B : Type 0} (f : A → B) (o : Option A) (b : B) → option_map f o ≡ Some b → (a : A) × (o ≡ Some a) × (f a ≡ b)
map_is f None b e = absurd (none-some b e)
map_is f (Some a) b e = (a, refl, same_Some _ _ e)

when_is : {A : Type 0} (b : Bool) (x y : A) → when b x ≡ Some y → (b ≡ true) × (x ≡ y)
when_is true x y e = (refl, same_Some _ _ e)
when_is false x y e = absurd (none-some y e)

one_more_is : {A : Type 0} (o : Option A) (rest : Option (List A)) (ts : List A) → one_more o rest ≡ Some ts
    → (t : A) × (us : List A) × (o ≡ Some t) × (rest ≡ Some us) × (t ∷ us ≡ ts)
one_more_is (Some a) (Some us) ts e = (a, us, refl, refl, same_Some _ _ e)
one_more_is (Some a) None ts e = absurd (none-some ts e)
one_more_is None rest ts e = absurd (none-some ts e)

two_is : {A B : Type 0} (o : Option A) (p : Option B) (q : A × B) → two o p ≡ Some q → (o ≡ Some q.0) × (p ≡ Some q.1)
two_is (Some a) (Some b) q e = let h = same_Some _ _ e in (ap (λ r. Some r.0) h, ap (λ r. Some r.1) h)
two_is (Some a) None q e = absurd (none-some q e)
two_is None p q e = absurd (none-some q e)

ruled_is : {B : Type 0} (k : FaultKind) (o : Option B) (b : B) → fine (ruled k o) ≡ Some b → o ≡ Some b
ruled_is k (Some c) b e = e
ruled_is k None b e = absurd (none-some b e)

asked_is : {A B : Type 0} (rows : A → Rows) (rule : A → Option B) (o : Option A) (b : B) → fine (asked rows rule o) ≡ Some b
    → (a : A) × (o ≡ Some a) × (rule a ≡ Some b)
asked_is rows rule None b e = absurd (none-some b e)
asked_is rows rule (Some a) b e = (a, refl, ruled_is (first_kind (rows a)) (rule a) b e)

-- ---- a count that doesn't cross its limit is the sum

not_true : (b : Bool) → not b ≡ true → b ≡ false
not_true true e = absurd (true≢false (sym e))
not_true false e = refl

record Sums (limit before more : ℕ) : Type 0 where
  within : before + more ≤ limit
  is : counted_to_limit limit before more ≡ before + more

sums_by : (limit before more : ℕ) (b : Bool) → nat_lt limit (min (before + more) (limit + 1)) ≡ b → (not (nat_lt limit before) && b) ≡ false → before ≤ limit → Sums limit before more
sums_by limit before more true is none le =
    let a : nat_lt limit before ≡ false = grind (arith, nat_tests) in
    let t : (not (nat_lt limit before) && true) ≡ true = rw a refl in
    absurd (true≢false (sym t ∙ none))
sums_by limit before more false is none le =
    let a : min (before + more) (limit + 1) ≤ limit = grind (arith, nat_tests) in
    let b : before + more ≤ limit = omega (arith, a) in
    record { within = b; is = omega (arith, b) }

-- ---- fields, as they are counted and as they stand in a value

record Agrees (s : Fields) (m : Members) : Type 0 where
  few : s.count ≤ struct_cell_limit
  same : m.cells ≡ s.count

fields_agree : (structs : List Structure) (s : Fields) (m : Members) (t : Option Ty) (u : Ty) (xs ys : List Identifier) → t ≡ Some u → Agrees s m → fields_fine structs s t xs ≡ Some ys
    → Agrees (after_fields structs s t xs) (members_of_line structs u m ys)
fields_agree structs s m t u [] ys is h e = subst (λ zs. Agrees s (members_of_line structs u m zs)) (same_Some [] ys e) h
fields_agree structs s m t u (x ∷ xs) ys is h e =
    let o = one_more_is (fine (field_verdict structs s t x)) (fields_fine structs (field_added structs s t x) t xs) ys e in
    let a = asked_is (field_rows structs s x) (field_rule structs s x) t o.0 o.2 in
    let w = when_is (not (is_among x.name s.names) && not (crosses_fields s (cells structs a.0))) x o.0 a.2 in
    let free = (and_parts (not (is_among x.name s.names)) (not (crosses_fields s (cells structs a.0))) w.0).1 in
    let same : a.0 ≡ u = same_Some a.0 u (sym a.1 ∙ is) in
    let none : crosses_fields s (cells structs u) ≡ false = subst (λ v. crosses_fields s (cells structs v) ≡ false) same (not_true (crosses_fields s (cells structs a.0)) free) in
    let k : Sums struct_cell_limit s.count (cells structs u) = sums_by struct_cell_limit s.count (cells structs u) (nat_lt struct_cell_limit (fields_with s (cells structs u))) refl none h.few in
    let added : (field_added structs s t x).count ≡ s.count + cells structs u = ap (λ (p : Option Ty). fields_with s (cells_if structs p)) is ∙ k.is in
    let next : Members = record { fields = m.fields ++ record { called = o.0.name; ty = u; before = m.cells } ∷ []; cells = m.cells + cells structs u } in
    let agree : Agrees (field_added structs s t x) next = record { few = omega (arith, added, k.within); same = omega (arith, added, h.same) } in
    subst (λ zs. Agrees (after_fields structs (field_added structs s t x) t xs) (members_of_line structs u m zs)) o.4
    (fields_agree structs (field_added structs s t x) next t u xs o.1 is agree o.3)

lines_agree : (structs : List Structure) (s : Fields) (m : Members) (ls : List SourceLine) (us : List TypedLine) → Agrees s m → lines_fine structs s ls ≡ Some us
    → (members_of_lines structs m us).cells ≤ struct_cell_limit
lines_agree structs s m [] us h e = subst (λ vs. (members_of_lines structs m vs).cells ≤ struct_cell_limit) (same_Some [] us e) (omega (arith, h.few, h.same))
lines_agree structs s m (l ∷ ls) us h e =
    let o = one_more_is (line_fine structs s l) (lines_fine structs (after_line structs s l) ls) us e in
    let i = map_is (line_of l.token) (two (line_type structs l.ty) (fields_fine structs s (line_type structs l.ty) l.names)) o.0 o.2 in
    let p = two_is (line_type structs l.ty) (fields_fine structs s (line_type structs l.ty) l.names) i.0 i.1 in
    let f = fields_agree structs s m (line_type structs l.ty) i.0.0 l.names i.0.1 p.0 h p.1 in
    subst (λ vs. (members_of_lines structs m vs).cells ≤ struct_cell_limit) (ap (λ u. u ∷ o.1) i.2 ∙ o.4)
    (lines_agree structs (after_line structs s l) (members_of_line structs i.0.0 m i.0.1) ls o.1 f o.3)

fine_few : (structs : List Structure) (x : List ℕ) (ls : List SourceLine) (us : List TypedLine) → fine (struct_verdict structs x ls) ≡ Some us → (struct_members structs us).cells ≤ struct_cell_limit
fine_few structs x ls us e =
    let a = asked_is struct_rows (struct_rule structs x) (lines_fine structs no_fields ls) us e in
    let w = when_is (not (has_struct x structs)) a.0 us a.2 in
    lines_agree structs no_fields no_members ls us (record { few = omega arith; same = refl }) (a.1 ∙ ap Some w.1)

pub typed_few : (structs : List Structure) (x : List ℕ) (ls : List SourceLine) (typed : Option (List TypedLine)) → typed ≡ fine (struct_verdict structs x ls)
    → IfSome typed (λ us. (struct_members structs us).cells ≤ struct_cell_limit)
typed_few structs x ls None is = tt
typed_few structs x ls (Some us) is = fine_few structs x ls us (sym is)

-- ---- cells that are added up

line_grows : (structs : List Structure) (t : Ty) (m : Members) (xs : List Identifier) → m.cells ≤ (members_of_line structs t m xs).cells
line_grows structs t m [] = omega arith
line_grows structs t m (x ∷ xs) =
    omega (arith, line_grows structs t (record { fields = m.fields ++ record { called = x.name; ty = t; before = m.cells } ∷ []; cells = m.cells + cells structs t }) xs)

lines_grow : (structs : List Structure) (m : Members) (us : List TypedLine) → m.cells ≤ (members_of_lines structs m us).cells
lines_grow structs m [] = omega arith
lines_grow structs m (u ∷ us) = omega (arith, line_grows structs u.ty m u.names, lines_grow structs (members_of_line structs u.ty m u.names) us)

next : {A : Type 0} (xs : List A) (i : ℕ) (x : A) → i < length xs → x ≡ get_or xs i x → drop i xs ≡ x ∷ drop (suc i) xs
next xs i x lt is = drop-cons xs i x lt ∙ ap (λ y. y ∷ drop (suc i) xs) (sym is)

pub field_fits : (structs : List Structure) (t : Ty) (m whole : Members) (xs : List Identifier) (i : ℕ) (x : Identifier) → i < length xs → x ≡ get_or xs i x
    → members_of_line structs t m (drop i xs) ≡ whole → m.cells + cells structs t ≤ whole.cells
field_fits structs t m whole xs i x lt is turn =
    let all = ap (λ (n : Members). n.cells) (ap (members_of_line structs t m) (sym (next xs i x lt is)) ∙ turn) in
    omega (
      arith,
      all,
      line_grows structs t (record { fields = m.fields ++ record { called = x.name; ty = t; before = m.cells } ∷ []; cells = m.cells + cells structs t }) (drop (suc i) xs),
    )

pub line_fits : (structs : List Structure) (m whole : Members) (us : List TypedLine) (i : ℕ) (u : TypedLine) → i < length us → u ≡ get_or us i u
    → members_of_lines structs m (drop i us) ≡ whole → (members_of_line structs u.ty m u.names).cells ≤ whole.cells
line_fits structs m whole us i u lt is turn =
    let all = ap (λ (n : Members). n.cells) (ap (members_of_lines structs m) (sym (next us i u lt is)) ∙ turn) in
    omega (arith, all, lines_grow structs (members_of_line structs u.ty m u.names) (drop (suc i) us))
