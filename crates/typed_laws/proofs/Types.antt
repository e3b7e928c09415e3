-- The types that declarations may have, and the cells of structs.
use Rattle.std.proofs.Common.{arith, ◌≡◌, ◌≤◌, ◌<◌, ◌+◌, ◌⊎◌, inl, inr, ℕ, suc, List, [], ◌∷◌, ◌++◌, length, map, take, drop, Option, Some, None, Bool, true, false, sym, subst, ◌∙◌, ap, refl}
use Rattle.std.proofs.Common.{append_assoc}
use Rattle.std.specs.Prelude.{slice_get, bytes_eq, if◌then◌else◌}
use Rattle.std.specs.List.{AllByRecursion, flat_map}
use Rattle.std.proofs.lemmas.Bool.Decides.{Decides-eqb}
use Rattle.std.proofs.lemmas.List.{length-append, append-nil}
use Rattle.std.proofs.lemmas.Option.{none-some, same_Some, slice_get_within}
use Rattle.nss_tree.specs.declared.constants.TypeName.{TypeName}
use Rattle.nss_tree.specs.declared.constants.TypeName.TheVariants as spelled
use Rattle.nss_tree.specs.declared.units.Identifier.{Identifier}
use Rattle.nwq_value.specs.declared.value.Ty.{Ty}
use Rattle.nwq_value.specs.declared.value.Ty.TheVariants.{Void, Int, Text, Object, Effect, Event, Action, Struct, Refused}
use Rattle.typing_rules.specs.Sight.{Member, Members, Structure, Meant, IsRefused, IsMissing, Is, is_of_struct, struct_means, type_means, value_type, any_type, members_of, find_member}
use Rattle.typing_rules.specs.Sight.{cells_of_members}
use Rattle.typing_rules.specs.Sight as sight
use Rattle.typing_rules.specs.Types.{is_void, is_int, is_action, same_type}
use Rattle.typing_rules.specs.Typed.{TypedLine}
use Rattle.typing_rules.specs.Verdicts.{members_of_line, members_of_lines, no_members, struct_members}
use Rattle.typing_rules.specs.Cells.{Structs, cell_types, line_cells}
use Rattle.emission_rules.specs.Bounds.{IsCell}
use Rattle.source_meaning.specs.Fields.{line_types, field_types, fields_cells}

-- ---- types

pub same_type_is : (s t : Ty) → same_type s t ≡ true → s ≡ t
same_type_is Void Void h = refl
same_type_is Int Int h = refl
same_type_is Text Text h = refl
same_type_is Object Object h = refl
same_type_is Effect Effect h = refl
same_type_is Event Event h = refl
same_type_is Action Action h = refl
same_type_is (Struct m) (Struct n) h = ap Struct ((Decides-eqb m n).0 h)
same_type_is Refused Refused h = refl
same_type_is s t h = absurd cc

pub int_is : (t : Ty) → is_int t ≡ true → t ≡ Int
int_is Int h = refl
int_is t h = absurd cc

pub void_is : (t : Ty) → is_void t ≡ true → t ≡ Void
void_is Void h = refl
void_is t h = absurd cc

pub action_is : (t : Ty) → is_action t ≡ true → t ≡ Action
action_is Action h = refl
action_is t h = absurd cc

-- a type that a value may have
pub record IsValueType (structs : Structs) (t : Ty) : Type 0 where
  pub some : 0 < length (cell_types structs t)
  pub kinds : AllByRecursion IsCell (cell_types structs t)
  pub no_action : is_action t ≡ false
  pub no_void : is_void t ≡ false

-- the parts of a struct's field stand among its cells, behind those of the fields in front of it
pub record IsField (structs : Structs) (types : List Ty) (all : List Ty) (m : Member) : Type 0 where
  pub front : List Ty
  pub back : List Ty
  pub types_are : types ≡ front ++ m.ty ∷ back
  pub offset : m.before ≡ length (fields_cells structs front)
  pub are : take (length (cell_types structs m.ty)) (drop m.before all) ≡ cell_types structs m.ty
  pub inside : m.before + length (cell_types structs m.ty) ≤ length all
  pub some : 0 < length (cell_types structs m.ty)

-- a struct of this number, among those with fields of these types
pub record IsStruct (structs : Structs) (fields_of : List (List Ty)) (n : ℕ) (s : Structure) : Type 0 where
  pub types : List Ty
  pub listed : slice_get fields_of n ≡ Some types
  pub cells : cell_types structs (Struct n) ≡ fields_cells structs types
  pub members : Members
  pub is : s.members ≡ Some members
  pub count : members.cells ≡ length (cell_types structs (Struct n))
  pub fields : AllByRecursion (IsField structs types (cell_types structs (Struct n))) members.fields
  pub some : 0 < length (cell_types structs (Struct n))
  pub kinds : AllByRecursion IsCell (cell_types structs (Struct n))

abbrev pub AreStructs : Structs → List (List Ty) → List Structure → Type 0
AreStructs structs fields_of ss = (n : ℕ) (s : Structure) → slice_get ss n ≡ Some s → IsStruct structs fields_of n s

-- a declared type, among structs
pub record IsDeclared (structs : Structs) (ss : List Structure) (t : Ty) : Type 0 where
  pub value : IsValueType structs t
  pub cells : sight.cells ss t ≡ length (cell_types structs t)
  pub within : (n : ℕ) → t ≡ Struct n → n < length ss

abbrev FoundStruct : ℕ → List Structure → Meant → Type 0
FoundStruct k ss m = (m ≡ IsMissing) ⊎ ((j : ℕ) × (s : Structure) × (slice_get ss j ≡ Some s) × (m ≡ Is (Struct (k + j))))

found_later : (k : ℕ) (s : Structure) (ss : List Structure) (m : Meant) → FoundStruct (k + 1) ss m → FoundStruct k (s ∷ ss) m
found_later k s ss m (inl missing) = inl missing
found_later k s ss m (inr f) = let z : k + 1 + f.0 ≡ k + suc f.0 = omega arith in inr (suc f.0, f.1, f.2, f.3 ∙ ap (λ n. Is (Struct n)) z)

found_by : (k : ℕ) (s : Structure) (ss : List Structure) (m : Meant) (r : Option Meant)
    → (r ≡ Some m → FoundStruct (k + 1) ss m) → (b : Bool) (o : Option Members)
    → (if b then is_of_struct k o else r) ≡ Some m → FoundStruct k (s ∷ ss) m
found_by k s ss m r later true None e = absurd (none-some _ e)
found_by k s ss m r later true (Some p) e = let z : k ≡ k + 0 = omega arith in inr (0, s, refl, sym (same_Some _ _ e) ∙ ap (λ n. Is (Struct n)) z)
found_by k s ss m r later false o e = found_later k s ss m (later e)

struct_found : (k : ℕ) (x : List ℕ) (ss : List Structure) (m : Meant) → struct_means k x ss ≡ Some m → FoundStruct k ss m
struct_found k x [] m h = inl (sym (same_Some _ _ h))
struct_found k x (s ∷ ss) m h = found_by k s ss m (struct_means (k + 1) x ss) (λ e. struct_found (k + 1) x ss m e) (bytes_eq x s.called) s.members h

-- what a spelled type means: a struct of the list, or a plain type that is no action
module _ (ss : List Structure) where
  record Spelled (m : Meant) : Type 0 where
    structs_are : (n : ℕ) → m ≡ Is (Struct n) → (s : Structure) × (slice_get ss n ≡ Some s)
    no_action : m ≡ Is Action → ⊥
    no_refused : m ≡ Is Refused → ⊥

  of_struct_named : (x : List ℕ) (m : Meant) → struct_means 0 x ss ≡ Some m → Spelled m
  of_struct_named x m h = on (struct_found 0 x ss m h)
    where
      on : (m ≡ IsMissing) ⊎ ((j : ℕ) × (s : Structure) × (slice_get ss j ≡ Some s) × (m ≡ Is (Struct (0 + j)))) → Spelled m
      on (inl e) = record { structs_are = λ n f. absurd cc; no_action = λ f. absurd cc; no_refused = λ f. absurd cc }
      on (inr f) = record {
        structs_are = λ n g.
            let e : Is (Struct (0 + f.0)) ≡ Is (Struct n) = sym f.3 ∙ g in
            let i : 0 + f.0 ≡ n = cc in
            let same : f.0 ≡ n = omega (arith, i) in
            (f.1, subst (λ k. slice_get ss k ≡ Some f.1) same f.2);
        no_action = λ g. let e : Is (Struct (0 + f.0)) ≡ Is Action = sym f.3 ∙ g in absurd cc;
        no_refused = λ g. let e : Is (Struct (0 + f.0)) ≡ Is Refused = sym f.3 ∙ g in absurd cc;
      }

  plain_spelled : (m w : Meant) → Some w ≡ Some m → ((n : ℕ) → w ≡ Is (Struct n) → ⊥) → (w ≡ Is Action → ⊥) → (w ≡ Is Refused → ⊥) → Spelled m
  plain_spelled m w e s a r =
      let same = same_Some _ _ e in
      record { structs_are = λ n f. absurd (s n (same ∙ f)); no_action = λ f. a (same ∙ f); no_refused = λ f. r (same ∙ f) }

  spelled_is : (t : TypeName) (m : Meant) → type_means ss t ≡ Some m → Spelled m
  spelled_is spelled.Void m e = plain_spelled m (Is Void) e (λ n f. absurd cc) (λ f. absurd cc) (λ f. absurd cc)
  spelled_is spelled.Int m e = plain_spelled m (Is Int) e (λ n f. absurd cc) (λ f. absurd cc) (λ f. absurd cc)
  spelled_is spelled.Float m e = plain_spelled m IsRefused e (λ n f. absurd cc) (λ f. absurd cc) (λ f. absurd cc)
  spelled_is spelled.String m e = plain_spelled m (Is Text) e (λ n f. absurd cc) (λ f. absurd cc) (λ f. absurd cc)
  spelled_is spelled.Object m e = plain_spelled m (Is Object) e (λ n f. absurd cc) (λ f. absurd cc) (λ f. absurd cc)
  spelled_is spelled.Vector m e = plain_spelled m IsRefused e (λ n f. absurd cc) (λ f. absurd cc) (λ f. absurd cc)
  spelled_is spelled.Location m e = plain_spelled m IsRefused e (λ n f. absurd cc) (λ f. absurd cc) (λ f. absurd cc)
  spelled_is spelled.Effect m e = plain_spelled m (Is Effect) e (λ n f. absurd cc) (λ f. absurd cc) (λ f. absurd cc)
  spelled_is spelled.Event m e = plain_spelled m (Is Event) e (λ n f. absurd cc) (λ f. absurd cc) (λ f. absurd cc)
  spelled_is spelled.Talent m e = plain_spelled m IsRefused e (λ n f. absurd cc) (λ f. absurd cc) (λ f. absurd cc)
  spelled_is spelled.ItemProperty m e = plain_spelled m IsRefused e (λ n f. absurd cc) (λ f. absurd cc) (λ f. absurd cc)
  spelled_is spelled.Action m e = plain_spelled m IsRefused e (λ n f. absurd cc) (λ f. absurd cc) (λ f. absurd cc)
  spelled_is (spelled.Struct x) m e = of_struct_named x m e

  -- no value is declared as an action
  pub no_action_declared : (t : TypeName) (m : Meant) (u : Ty) → type_means ss t ≡ Some m → value_type m ≡ Some u → is_action u ≡ false
  no_action_declared t m u e h = by (is_action u) refl
    where
      is_value : (w : Meant) → value_type w ≡ Some u → w ≡ Is u
      is_value IsRefused g = absurd (none-some u g)
      is_value IsMissing g = absurd (none-some u g)
      is_value (Is v) g = of_void (is_void v) g
        where
          of_void : (b : Bool) → (if b then None else Some v) ≡ Some u → Is v ≡ Is u
          of_void true f = absurd (none-some u f)
          of_void false f = ap Is (same_Some _ _ f)

      by : (b : Bool) → is_action u ≡ b → is_action u ≡ false
      by false same = same
      by true same = absurd ((spelled_is t m e).no_action (is_value m h ∙ ap Is (action_is u same)))

-- what a value type is that a spelled type means
module _ (structs : Structs) (fields_of : List (List Ty)) (ss : List Structure) (known : AreStructs structs fields_of ss) where
  of_struct : (n : ℕ) (s : Structure) → slice_get ss n ≡ Some s → IsDeclared structs ss (Struct n)
  of_struct n s h =
      let k = known n s h in
      record {
        value = record { some = k.some; kinds = k.kinds; no_action = refl; no_void = refl };
        cells = ap (λ o. cells_of_members (members_of o)) h ∙ ap cells_of_members k.is ∙ k.count;
        within = λ m e. let i : n ≡ m = cc in subst (λ j. j < length ss) i (slice_get_within ss n s h);
      }

  of_meant : (m : Meant) (t : Ty) → ((n : ℕ) → m ≡ Is (Struct n) → (s : Structure) × (slice_get ss n ≡ Some s))
      → (m ≡ Is Action → ⊥) → (m ≡ Is Refused → ⊥) → value_type m ≡ Some t → IsDeclared structs ss t
  of_meant IsRefused t f a r h = absurd (none-some t h)
  of_meant IsMissing t f a r h = absurd (none-some t h)
  of_meant (Is Void) t f a r h = absurd (none-some t h)
  of_meant (Is Int) t f a r h = subst (IsDeclared structs ss) (same_Some _ _ h)
      (record {
        value = record { some = omega arith; kinds = (tt, tt); no_action = refl; no_void = refl };
        cells = refl;
        within = λ n e. absurd cc;
      })
  of_meant (Is Text) t f a r h = subst (IsDeclared structs ss) (same_Some _ _ h)
      (record {
        value = record { some = omega arith; kinds = (tt, tt); no_action = refl; no_void = refl };
        cells = refl;
        within = λ n e. absurd cc;
      })
  of_meant (Is Object) t f a r h = subst (IsDeclared structs ss) (same_Some _ _ h)
      (record {
        value = record { some = omega arith; kinds = (tt, tt); no_action = refl; no_void = refl };
        cells = refl;
        within = λ n e. absurd cc;
      })
  of_meant (Is Effect) t f a r h = subst (IsDeclared structs ss) (same_Some _ _ h)
      (record {
        value = record { some = omega arith; kinds = (tt, tt); no_action = refl; no_void = refl };
        cells = refl;
        within = λ n e. absurd cc;
      })
  of_meant (Is Event) t f a r h = subst (IsDeclared structs ss) (same_Some _ _ h)
      (record {
        value = record { some = omega arith; kinds = (tt, tt); no_action = refl; no_void = refl };
        cells = refl;
        within = λ n e. absurd cc;
      })
  of_meant (Is Action) t f a r h = absurd (a refl)
  of_meant (Is (Struct n)) t f a r h = let s = f n refl in subst (IsDeclared structs ss) (same_Some _ _ h) (of_struct n s.0 s.1)
  of_meant (Is Refused) t f a r h = absurd (r refl)

  -- a type with which values are declared
  pub declared_is : (t : TypeName) (m : Meant) (u : Ty) → type_means ss t ≡ Some m → value_type m ≡ Some u → IsDeclared structs ss u
  declared_is t m u e h = let s = spelled_is ss t m e in of_meant m u s.structs_are s.no_action s.no_refused h

  -- the type of a function's result: none, or such a type
  pub result_is : (t : TypeName) (m : Meant) (u : Ty) → type_means ss t ≡ Some m → any_type m ≡ Some u → is_void u ≡ false → IsDeclared structs ss u
  result_is t IsRefused u e h isnt = absurd (none-some u h)
  result_is t IsMissing u e h isnt = absurd (none-some u h)
  result_is t (Is v) u e h isnt =
      let same : v ≡ u = same_Some _ _ h in
      let not_void : is_void v ≡ false = ap is_void same ∙ isnt in
      declared_is t (Is v) u e (ap (λ (b : Bool). if b then None else Some v) not_void ∙ h)

-- ---- members

member_by : (P : Member → Type 0) (n m : Member) (r : Option Member) → P n → (r ≡ Some m → P m) → (b : Bool) → (if b then Some n else r) ≡ Some m → P m
member_by P n m r h later true e = subst P (same_Some _ _ e) h
member_by P n m r h later false e = later e

pub all_found : (P : Member → Type 0) (x : List ℕ) (ms : List Member) (m : Member) → AllByRecursion P ms → find_member x ms ≡ Some m → P m
all_found P x [] m all h = absurd (none-some m h)
all_found P x (n ∷ ms) m all h = member_by P n m (find_member x ms) all.0 (λ e. all_found P x ms m all.1 e) (bytes_eq x n.called) h

-- ---- how a struct's members are counted

pub all_last : {A : Type 0} (P : A → Type 0) (xs : List A) (x : A) → AllByRecursion P xs → P x → AllByRecursion P (xs ++ x ∷ [])
all_last P [] x all h = (h, tt)
all_last P (y ∷ xs) x all h = (all.0, all_last P xs x all.1 h)

all_both : {A : Type 0} (P : A → Type 0) (xs ys : List A) → AllByRecursion P xs → AllByRecursion P ys → AllByRecursion P (xs ++ ys)
all_both P [] ys h k = k
all_both P (x ∷ xs) ys h k = (h.0, all_both P xs ys h.1 k)

taken : {A : Type 0} (before part after : List A) → take (length part) (drop (length before) (before ++ (part ++ after))) ≡ part
taken [] [] after = refl
taken [] (x ∷ part) after = ap (λ t. x ∷ t) (taken [] part after)
taken (x ∷ before) part after = taken before part after

fields_together : (structs : Structs) (ts us : List Ty) → fields_cells structs (ts ++ us) ≡ fields_cells structs ts ++ fields_cells structs us
fields_together structs [] us = refl
fields_together structs (t ∷ ts) us =
    ap (λ (r : List Ty). cell_types structs t ++ r) (fields_together structs ts us) ∙ sym (append_assoc (cell_types structs t) (fields_cells structs ts) (fields_cells structs us))

module _ (structs : Structs) (ss : List Structure) (types all : List Ty) where
  -- so many members stand before, of these types, with these cells, and others behind
  record Counts (m : Members) (before done : List Ty) : Type 0 where
    cells : m.cells ≡ length before
    are : before ≡ fields_cells structs done
    fields : AllByRecursion (IsField structs types all) m.fields

  counts_none : (m : Members) (before done : List Ty) → Counts m before done → Counts m (before ++ []) (done ++ [])
  counts_none m before done c = subst (λ (b : List Ty). Counts m b (done ++ [])) (sym (append-nil before)) (subst (λ (d : List Ty). Counts m before d) (sym (append-nil done)) c)

  counts_line : (t : Ty) (names : List Identifier) (m : Members) (before after done rest : List Ty) → IsDeclared structs ss t → Counts m before done
      → all ≡ before ++ (flat_map (λ (x : Identifier). cell_types structs t) names ++ after) → types ≡ done ++ (map (λ (x : Identifier). t) names ++ rest)
      → Counts (members_of_line ss t m names) (before ++ flat_map (λ (x : Identifier). cell_types structs t) names) (done ++ map (λ (x : Identifier). t) names)
  counts_line t [] m before after done rest d c is types_are = counts_none m before done c
  counts_line t (x ∷ names) m before after done rest d c is types_are =
      let part = cell_types structs t in
      let more = flat_map (λ (y : Identifier). cell_types structs t) names in
      let ts = map (λ (y : Identifier). t) names in
      let cells = c.cells in
      let whole : all ≡ before ++ (part ++ (more ++ after)) = is ∙ ap (λ r. before ++ r) (append_assoc part more after) in
      let here : take (length part) (drop m.cells all)
      ≡ part = ap (λ n. take (length part) (drop n all)) c.cells
      ∙ ap (λ r. take (length part) (drop (length before) r)) whole ∙ taken before part (more ++ after) in
      let long = ap length whole ∙ length-append before (part ++ (more ++ after)) in
      let behind = length-append part (more ++ after) in
      let added = length-append before part in
      let size = d.cells in
      let field : Member = record { called = x.name; ty = t; before = m.cells } in
      let next_members : Members = record { fields = m.fields ++ field ∷ []; cells = m.cells + sight.cells ss t } in
      let next : Counts next_members (before ++ part) (done ++ t ∷ []) = record {
        cells = omega (arith, cells, size, added);
        are = ap (λ (b : List Ty). b ++ part) c.are ∙ ap (λ (r : List Ty). fields_cells structs done ++ r) (sym (append-nil part)) ∙ sym (fields_together structs done (t ∷ []));
        fields = all_last (IsField structs types all) m.fields field c.fields (record {
          front = done;
          back = ts ++ rest;
          types_are = types_are;
          offset = c.cells ∙ ap length c.are;
          are = here;
          inside = omega (arith, cells, long, behind);
          some = d.value.some;
        });
      } in
      subst (λ (b : List Ty). Counts (members_of_line ss t m (x ∷ names)) b (done ++ t ∷ ts)) (append_assoc before part more)
      (subst (λ (e : List Ty). Counts (members_of_line ss t m (x ∷ names)) ((before ++ part) ++ more) e) (append_assoc done (t ∷ []) ts)
      (counts_line t names next_members (before ++ part) after (done ++ t ∷ []) rest d next
      (whole ∙ sym (append_assoc before part (more ++ after)))
      (types_are ∙ sym (append_assoc done (t ∷ []) (ts ++ rest)))))

  abbrev AreLines : List TypedLine → Type 0
  AreLines ls = AllByRecursion (λ (l : TypedLine). IsDeclared structs ss l.ty) ls

  counts_lines : (ls : List TypedLine) (m : Members) (before done : List Ty) → AreLines ls → Counts m before done → all ≡ before ++ flat_map (line_cells structs) ls → types ≡ done ++ field_types ls
      → Counts (members_of_lines ss m ls) (before ++ flat_map (line_cells structs) ls) (done ++ field_types ls)
  counts_lines [] m before done d c is types_are = counts_none m before done c
  counts_lines (l ∷ ls) m before done d c is types_are =
      let one = line_cells structs l in
      let more = flat_map (line_cells structs) ls in
      subst (λ (b : List Ty). Counts (members_of_lines ss m (l ∷ ls)) b (done ++ field_types (l ∷ ls))) (append_assoc before one more)
      (subst (λ (e : List Ty). Counts (members_of_lines ss m (l ∷ ls)) ((before ++ one) ++ more) e) (append_assoc done (line_types l) (field_types ls))
      (counts_lines ls (members_of_line ss l.ty m l.names) (before ++ one) (done ++ line_types l) d.1 (counts_line l.ty l.names m before more done (field_types ls) d.0 c is types_are)
      (is ∙ sym (append_assoc before one more)) (types_are ∙ sym (append_assoc done (line_types l) (field_types ls)))))

line_kinds : (structs : Structs) (t : Ty) (names : List Identifier) → AllByRecursion IsCell (cell_types structs t) → AllByRecursion IsCell (flat_map (λ (x : Identifier). cell_types structs t) names)
line_kinds structs t [] k = tt
line_kinds structs t (x ∷ names) k = all_both IsCell (cell_types structs t) _ k (line_kinds structs t names k)

lines_kinds : (structs : Structs) (ss : List Structure) (ls : List TypedLine)
    → AllByRecursion (λ (l : TypedLine). IsDeclared structs ss l.ty) ls
    → AllByRecursion IsCell (flat_map (line_cells structs) ls)
lines_kinds structs ss [] d = tt
lines_kinds structs ss (l ∷ ls) d = all_both IsCell (line_cells structs l) _ (line_kinds structs l.ty l.names d.0.value.kinds) (lines_kinds structs ss ls d.1)

-- the struct of these lines
pub struct_of : (structs : Structs) (fields_of : List (List Ty)) (ss : List Structure) (n : ℕ) (x : List ℕ) (ls : List TypedLine) → AllByRecursion (λ (l : TypedLine). IsDeclared structs ss l.ty) ls
    → cell_types structs (Struct n) ≡ flat_map (line_cells structs) ls → 0 < length (flat_map (line_cells structs) ls) → slice_get fields_of n ≡ Some (field_types ls)
    → IsStruct structs fields_of n (record { called = x; members = Some (struct_members ss ls) })
struct_of structs fields_of ss n x ls d is some listed =
    let all = cell_types structs (Struct n) in
    let c = counts_lines structs ss (field_types ls) all ls no_members [] [] d (record { cells = refl; are = refl; fields = tt }) is refl in
    record {
      types = field_types ls;
      listed = listed;
      cells = is ∙ c.are;
      members = struct_members ss ls;
      is = refl;
      count = c.cells ∙ sym (ap length is);
      fields = c.fields;
      some = subst (λ r. 0 < length r) (sym is) some;
      kinds = subst (AllByRecursion IsCell) (sym is) (lines_kinds structs ss ls d);
    }
