-- A tree that goes back breaks no rule and tells the same area.
use Rattle.std.proofs.Common.{◌≡◌, ◌+◌, ◌==◌, ℕ, ℤ, zero, suc, Bool, true, false, cond, not, ◌||◌, List, [], ◌∷◌, ◌++◌, map, filter, length, take, drop, Option, None, Some, refl, sym, ap, subst, ◌∙◌}
use Rattle.std.proofs.Common.{append_assoc}
use Rattle.std.specs.Prelude.{codes}
use Rattle.std.specs.List.{list_any, IsDistinct, AllByRecursion}
use Rattle.std.specs.Str.{bytes_eq}
use Rattle.std.proofs.lemmas.List.{take-append-drop}
use Rattle.std.proofs.lemmas.Cmp.{nat_list_eq_equiv}
use Rattle.std.proofs.lemmas.Slice.Eq.{bytes_eq-Decides}
use Rattle.gff_tree.specs.Tree.{PlainNode, PlainLeaf, PlainField, Holds, Child, Children, nodes_in, nodes_from}
use Rattle.gff_tree.specs.Fields.{kind_of, fields_of, list_from, found, replaced, appended}
use Rattle.local_variables.specs.Variables.{Variable, IntVar, TextVar, same_variable, matching}
use Rattle.area_rules.specs.Objects.{AreaObject, Entry, Broken, Unread, Tells, dword_in, int_in, string_in, int_entry, text_entry, typed_entry, entry_of, with_entry, variables_in, structs_in, tag_in}
use Rattle.area_rules.specs.Objects.{with_script, scripts_in, object_of, list_labels, objects_under}
use Rattle.area_rules.specs.Broken.{Place, entry_places, with_later, entries_places, tag_places, table_places, member_places, members_places, list_places, lists_places}
use Rattle.area_back.specs.Back.{value_of, new_entry, with_value, entries_back, others, table_back, fields_back, member_back, members_back, objects_back, list_back, lists_back}
use Rattle.area_rules.specs.Area.{bare, top_of, HaveDistinct}
use Rattle.area_back.specs.Laws.{AreAlike, AllAlike, BackIsRead}
use Rattle.area_back.proofs.SoundLemmas.{back_sound}
use Rattle.area_back.proofs.UnchangedLaws.{Laws, none_parts, entry_value, found_any, one_back, entries_one, some_back}

-- ---- what is found after a change

found_put_at : (b : Bool) (label : List ℕ) (old leaf : PlainLeaf) (field : PlainField) (fields : List PlainField)
    → bytes_eq label field.label ≡ b → cond b (Some field.leaf) (found label fields) ≡ Some old →
    (found label fields ≡ Some old → found label (replaced label leaf fields) ≡ Some leaf)
    → found label (cond b (record field { leaf = leaf } ∷ fields) (field ∷ replaced label leaf fields)) ≡ Some leaf
found_put_at true label old leaf field fields at is more = rw at refl
found_put_at false label old leaf field fields at is more = rw at (more is)

pub found_put : (label : List ℕ) (old leaf : PlainLeaf) (fields : List PlainField) → found label fields ≡ Some old → found label (replaced label leaf fields) ≡ Some leaf
found_put label old leaf [] is = absurd cc
found_put label old leaf (field ∷ fields) is = found_put_at (bytes_eq label field.label) label old leaf field fields refl is (found_put label old leaf fields)

found_other_at : (b c : Bool) (other label : List ℕ) (leaf : PlainLeaf) (field : PlainField) (fields : List PlainField)
    → bytes_eq other label ≡ false → bytes_eq label field.label ≡ b → bytes_eq other field.label ≡ c →
    found other (replaced label leaf fields) ≡ found other fields →
    found other (cond b (record field { leaf = leaf } ∷ fields) (field ∷ replaced label leaf fields)) ≡ cond c (Some field.leaf) (found other fields)
found_other_at true true other label leaf field fields apart here there more =
    let joined : bytes_eq other label ≡ bytes_eq field.label label = nat_list_eq_equiv.congr other field.label label there in
    let same : false ≡ true = sym apart ∙ (joined ∙ (nat_list_eq_equiv.symm field.label label ∙ here)) in
    absurd cc
found_other_at true false other label leaf field fields apart here there more = rw there refl
found_other_at false true other label leaf field fields apart here there more = rw there refl
found_other_at false false other label leaf field fields apart here there more = rw there more

pub found_other : (other label : List ℕ) (leaf : PlainLeaf) (fields : List PlainField) → bytes_eq other label ≡ false → found other (replaced label leaf fields) ≡ found other fields
found_other other label leaf [] apart = refl
found_other other label leaf (field ∷ fields) apart =
    found_other_at (bytes_eq label field.label) (bytes_eq other field.label) other label leaf field fields apart refl refl (found_other other label leaf fields apart)

found_behind : (other label : List ℕ) (leaf : PlainLeaf) (fields : List PlainField) → bytes_eq other label ≡ false → found other (appended label leaf fields) ≡ found other fields
found_behind other label leaf [] apart = rw apart refl
found_behind other label leaf (field ∷ fields) apart = ap (cond (bytes_eq other field.label) (Some field.leaf)) (found_behind other label leaf fields apart)

found_last : (label : List ℕ) (leaf : PlainLeaf) (fields : List PlainField) → found label fields ≡ None → found label (appended label leaf fields) ≡ Some leaf
found_last label leaf [] is = rw (nat_list_eq_equiv.refl label) refl
found_last label leaf (field ∷ fields) is = by_test (bytes_eq label field.label) is (found_last label leaf fields)
  where
    by_test : (b : Bool) → cond b (Some field.leaf) (found label fields) ≡ None → (found label fields ≡ None → found label (appended label leaf fields) ≡ Some leaf) →
        cond b (Some field.leaf) (found label (appended label leaf fields)) ≡ Some leaf
    by_test true h more = absurd cc
    by_test false h more = more h

-- ---- the names of resources aren't touched

scripts_put_at : (b : Bool) (label : List ℕ) (old new : List PlainNode) (field : PlainField) (fields : List PlainField) → cond b (Some field.leaf) (found label fields) ≡ Some (list_from old) →
    (found label fields ≡ Some (list_from old) → scripts_in (replaced label (list_from new) fields) ≡ scripts_in fields) →
    scripts_in (cond b (record field { leaf = list_from new } ∷ fields) (field ∷ replaced label (list_from new) fields)) ≡ scripts_in (field ∷ fields)
scripts_put_at true label old new field fields is more = let held : list_from old ≡ field.leaf = cc in ap (λ (l : PlainLeaf). with_script field.label l (scripts_in fields)) held
scripts_put_at false label old new field fields is more = ap (with_script field.label field.leaf) (more is)

scripts_put : (label : List ℕ) (old new : List PlainNode) (fields : List PlainField)
    → found label fields ≡ Some (list_from old) → scripts_in (replaced label (list_from new) fields) ≡ scripts_in fields
scripts_put label old new [] is = refl
scripts_put label old new (field ∷ fields) is = scripts_put_at (bytes_eq label field.label) label old new field fields is (scripts_put label old new fields)

scripts_behind : (label : List ℕ) (new : List PlainNode) (fields : List PlainField) → scripts_in (appended label (list_from new) fields) ≡ scripts_in fields
scripts_behind label new [] = refl
scripts_behind label new (field ∷ fields) = ap (with_script field.label field.leaf) (scripts_behind label new fields)

-- ---- an entry with another value

int_again : (name : Option (List ℕ)) (n : Option ℤ) (v w : Variable) → int_entry name n ≡ Tells v → same_variable v w ≡ true → int_entry name (int_in (Some (value_of w))) ≡ Tells w
int_again None n v w e same = absurd cc
int_again (Some name) None v w e same = absurd cc
int_again (Some name) (Some n) v (IntVar other m) e same =
    let told : v ≡ IntVar name n = cc in
    let names : name ≡ other = (bytes_eq-Decides name other).0 (sym (ap (λ (x : Variable). same_variable x (IntVar other m)) told) ∙ same) in
    ap (λ (k : List ℕ). Tells (IntVar k m)) names
int_again (Some name) (Some n) v (TextVar other text) e same =
    let told : v ≡ IntVar name n = cc in
    let apart : false ≡ true = sym (ap (λ (x : Variable). same_variable x (TextVar other text)) told) ∙ same in
    absurd cc

text_again : (name t : Option (List ℕ)) (v w : Variable) → text_entry name t ≡ Tells v → same_variable v w ≡ true → text_entry name (string_in (Some (value_of w))) ≡ Tells w
text_again None t v w e same = absurd cc
text_again (Some name) None v w e same = absurd cc
text_again (Some name) (Some t) v (TextVar other m) e same =
    let told : v ≡ TextVar name t = cc in
    let names : name ≡ other = (bytes_eq-Decides name other).0 (sym (ap (λ (x : Variable). same_variable x (TextVar other m)) told) ∙ same) in
    ap (λ (k : List ℕ). Tells (TextVar k m)) names
text_again (Some name) (Some t) v (IntVar other n) e same =
    let told : v ≡ TextVar name t = cc in
    let apart : false ≡ true = sym (ap (λ (x : Variable). same_variable x (IntVar other n)) told) ∙ same in
    absurd cc

again_by_type : (b d : Bool) (name value : Option PlainLeaf) (v w : Variable)
    → cond b (int_entry (string_in name) (int_in value)) (cond d (text_entry (string_in name) (string_in value)) Unread)
    ≡ Tells v → same_variable v w ≡ true →
    cond b (int_entry (string_in name) (int_in (Some (value_of w)))) (cond d (text_entry (string_in name) (string_in (Some (value_of w)))) Unread) ≡ Tells w
again_by_type true d name value v w e same = int_again (string_in name) (int_in value) v w e same
again_by_type false true name value v w e same = text_again (string_in name) (string_in value) v w e same
again_by_type false false name value v w e same = absurd cc

tells_again : (type : Option ℕ) (name value : Option PlainLeaf) (v w : Variable) → typed_entry type name value ≡ Tells v
    → same_variable v w ≡ true → typed_entry type name (Some (value_of w)) ≡ Tells w
tells_again None name value v w e same = absurd cc
tells_again (Some t) name value v w e same = again_by_type (t == 1) (t == 3) name value v w e same

pub entry_again : Laws → (entry : PlainNode) (v w : Variable) → entry_of entry ≡ Tells v → same_variable v w ≡ true → entry_of (with_value (Some w) entry) ≡ Tells w
entry_again law entry v w is same =
    let fields = fields_of entry in
    let new = replaced (codes "Value") (value_of w) fields in
    ap (λ (fs : List PlainField). typed_entry (dword_in (found (codes "Type") fs)) (found (codes "Name") fs) (found (codes "Value") fs)) (law.tree.fields (kind_of entry) new)
    ∙ (rw (
      found_other (codes "Type") (codes "Value") (value_of w) fields refl,
      found_other (codes "Name")
          (codes "Value") (value_of w) fields refl,
      found_put (codes "Value") (value_of v) (value_of w) fields
          (entry_value entry v is),
    )
    (tells_again (dword_in (found (codes "Type") fields)) (found (codes "Name") fields) (found (codes "Value") fields) v w is same))

-- ---- what a table tells on the way back

pub matching_same : (v w : Variable) (vars : List Variable) → matching v vars ≡ Some w → same_variable v w ≡ true
matching_same v w [] e = absurd cc
matching_same v w (x ∷ vars) e = by_test (same_variable v x) refl e (matching_same v w vars)
  where
    by_test : (b : Bool) → same_variable v x ≡ b → cond b (Some x) (matching v vars) ≡ Some w → (matching v vars ≡ Some w → same_variable v w ≡ true) → same_variable v w ≡ true
    by_test true at h more = let is : x ≡ w = cc in sym (ap (same_variable v) is) ∙ at
    by_test false at h more = more h

matching_like : Laws → (x v : Variable) (vars : List Variable) → same_variable x v ≡ true → matching x vars ≡ matching v vars
matching_like law x v [] same = refl
matching_like law x v (w ∷ vars) same = rw (law.same.congr x v w same, matching_like law x v vars same) refl

any_like : Laws → (x v : Variable) (vars : List Variable) → same_variable x v ≡ true → list_any (same_variable x) vars ≡ list_any (same_variable v) vars
any_like law x v [] same = refl
any_like law x v (w ∷ vars) same = rw (law.same.congr x v w same, any_like law x v vars same) refl

none_found : (v : Variable) (vars : List Variable) → matching v vars ≡ None → list_any (same_variable v) vars ≡ false
none_found v [] e = refl
none_found v (w ∷ vars) e = by_test (same_variable v w) e (none_found v vars)
  where
    by_test : (b : Bool) → cond b (Some w) (matching v vars) ≡ None → (matching v vars ≡ None → list_any (same_variable v) vars ≡ false) → (b || list_any (same_variable v) vars) ≡ false
    by_test true h more = absurd cc
    by_test false h more = more h

-- the variables of these types and names that are among others
abbrev pub kept_told : Option Variable → List Variable → List Variable
kept_told None more = more
kept_told (Some w) more = w ∷ more

abbrev pub told : List Variable → List Variable → List Variable
told vars [] = []
told vars (v ∷ some) = kept_told (matching v vars) (told vars some)

told_entry : Laws → (vars : List Variable) (entry : PlainNode) (rest : List PlainNode) (some : List Variable) (e : Entry) → entry_of entry ≡ e → variables_in rest ≡ told vars some →
    variables_in (one_back vars e entry rest) ≡ told vars (with_entry e some)
told_entry law vars entry rest some Broken is more = ap (λ (e : Entry). with_entry e (variables_in rest)) is ∙ more
told_entry law vars entry rest some Unread is more = ap (λ (e : Entry). with_entry e (variables_in rest)) is ∙ more
told_entry law vars entry rest some (Tells v) is more = by_match (matching v vars) refl
  where
    by_match : (o : Option Variable) → matching v vars ≡ o → variables_in (cond (list_any (same_variable v) vars) (with_value o entry ∷ rest) rest) ≡ kept_told o (told vars some)
    by_match None at = rw (none_found v vars at) more
    by_match (Some w) at =
        rw (found_any v w vars at) (ap (λ (e : Entry). with_entry e (variables_in rest)) (entry_again law entry v w is (matching_same v w vars at)) ∙ ap (λ (vs : List Variable). w ∷ vs) more)

told_entries : Laws → (vars : List Variable) (entries : List PlainNode) → variables_in (entries_back vars entries) ≡ told vars (variables_in entries)
told_entries law vars [] = refl
told_entries law vars (entry ∷ entries) =
    ap variables_in (entries_one vars entry entries) ∙ told_entry law vars entry (entries_back vars entries) (variables_in entries) (entry_of entry) refl (told_entries law vars entries)

told_new : (vars : List Variable) → variables_in (map new_entry vars) ≡ vars
told_new [] = refl
told_new (IntVar name n ∷ vars) = ap (λ (vs : List Variable). IntVar name n ∷ vs) (told_new vars)
told_new (TextVar name text ∷ vars) = ap (λ (vs : List Variable). TextVar name text ∷ vs) (told_new vars)

joined_entry : (e : Entry) (vars more : List Variable) → with_entry e (vars ++ more) ≡ with_entry e vars ++ more
joined_entry Broken vars more = refl
joined_entry Unread vars more = refl
joined_entry (Tells v) vars more = refl

told_joined : (first rest : List PlainNode) → variables_in (first ++ rest) ≡ variables_in first ++ variables_in rest
told_joined [] rest = refl
told_joined (entry ∷ first) rest = ap (with_entry (entry_of entry)) (told_joined first rest) ∙ joined_entry (entry_of entry) (variables_in first) (variables_in rest)

-- the variables of a table on the way back
abbrev pub table_told : List Variable → List PlainNode → List Variable
table_told vars entries = told vars (variables_in entries) ++ others vars entries

told_table : Laws → (vars : List Variable) (entries : List PlainNode) → variables_in (table_back vars entries) ≡ table_told vars entries
told_table law vars entries =
    told_joined (entries_back vars entries) (map new_entry (others vars entries)) ∙ rw (told_entries law vars entries, told_new (others vars entries)) refl

matching_told : Laws → (x : Variable) (vars some : List Variable) → matching x (told vars some) ≡ cond (list_any (same_variable x) some) (matching x vars) None
matching_told law x vars [] = refl
matching_told law x vars (v ∷ some) = by_match (matching v vars) refl (same_variable x v) refl (list_any (same_variable x) some) (matching_told law x vars some)
  where
    by_match : (o : Option Variable) → matching v vars ≡ o → (b : Bool) → same_variable x v ≡ b → (any : Bool) → matching x (told vars some) ≡ cond any (matching x vars) None →
        matching x (kept_told o (told vars some)) ≡ cond (b || any) (matching x vars) None
    by_match None at true same true more = more
    by_match None at true same false more = more ∙ sym (matching_like law x v vars same ∙ at)
    by_match None at false same any more = more
    by_match (Some w) at true same any more =
        rw (law.same.symm x w ∙ (sym (law.same.congr v w x (matching_same v w vars at)) ∙ (law.same.symm v x ∙ same))) (sym (matching_like law x v vars same ∙ at))
    by_match (Some w) at false same any more =
        rw (law.same.symm x w ∙ (sym (law.same.congr v w x (matching_same v w vars at)) ∙ (law.same.symm v x ∙ same))) more

matching_others : Laws → (x : Variable) (some vars : List Variable)
    → matching x (filter (λ v. not (list_any (same_variable v) some)) vars)
    ≡ cond (list_any (same_variable x) some) None (matching x vars)
matching_others law x some [] = by_test (list_any (same_variable x) some)
  where
    nothing : Option Variable
    nothing = None

    by_test : (b : Bool) → nothing ≡ cond b nothing nothing
    by_test true = refl
    by_test false = refl
matching_others law x some (w ∷ vars) =
    by_test (list_any (same_variable w) some) refl (same_variable x w) refl (list_any (same_variable x) some) refl (matching_others law x some vars)
  where
    by_test : (b : Bool) → list_any (same_variable w) some ≡ b → (c : Bool) → same_variable x w ≡ c → (any : Bool) → list_any (same_variable x) some ≡ any →
        matching x (filter (λ v. not (list_any (same_variable v) some)) vars) ≡ cond any None (matching x vars) →
        matching x (cond (not b) (w ∷ filter (λ v. not (list_any (same_variable v) some)) vars)
        (filter (λ v. not (list_any (same_variable v) some)) vars))
        ≡ cond any None (cond c (Some w) (matching x vars))
    by_test true here true same true is more = more
    by_test true here true same false is more = let e : false ≡ true = sym is ∙ (any_like law x w some same ∙ here) in absurd cc
    by_test true here false same any is more = more
    by_test false here true same true is more = let e : true ≡ false = sym is ∙ (any_like law x w some same ∙ here) in absurd cc
    by_test false here true same false is more = rw same refl
    by_test false here false same any is more = rw same more

abbrev pub either : Option Variable → Option Variable → Option Variable
either None o = o
either (Some v) o = Some v

matching_joined : (x : Variable) (first rest : List Variable) → matching x (first ++ rest) ≡ either (matching x first) (matching x rest)
matching_joined x [] rest = refl
matching_joined x (v ∷ first) rest = by_test (same_variable x v) (matching_joined x first rest)
  where
    by_test : (b : Bool) → matching x (first ++ rest) ≡ either (matching x first) (matching x rest)
        → cond b (Some v) (matching x (first ++ rest)) ≡ either (cond b (Some v) (matching x first)) (matching x rest)
    by_test true more = refl
    by_test false more = more

one_of : (b : Bool) (o : Option Variable) → either (cond b o None) (cond b None o) ≡ o
one_of true None = refl
one_of true (Some v) = refl
one_of false o = refl

matching_table : Laws → (x : Variable) (vars : List Variable) (entries : List PlainNode) → matching x (table_told vars entries) ≡ matching x vars
matching_table law x vars entries =
    matching_joined x (told vars (variables_in entries)) (others vars entries)
    ∙ (rw (matching_told law x vars (variables_in entries), matching_others law x (variables_in entries) vars) (one_of (list_any (same_variable x) (variables_in entries)) (matching x vars)))

-- ---- its variables are distinct, and no entry is broken

all_told : (P : Variable → Type 0) (vars some : List Variable) → ((v w : Variable) → same_variable v w ≡ true → P v → P w) → AllByRecursion P some → AllByRecursion P (told vars some)
all_told P vars [] like all = tt
all_told P vars (v ∷ some) like all = by_match (matching v vars) refl (all_told P vars some like all.1)
  where
    by_match : (o : Option Variable) → matching v vars ≡ o → AllByRecursion P (told vars some) → AllByRecursion P (kept_told o (told vars some))
    by_match None at more = more
    by_match (Some w) at more = (like v w (matching_same v w vars at) all.0, more)

-- what is apart from a variable is apart from one of the same type and name
pub apart_like : Laws → (u v w : Variable) → same_variable v w ≡ true → same_variable u v ≡ false → same_variable u w ≡ false
apart_like law u v w same apart = law.same.symm u w ∙ (sym (law.same.congr v w u same) ∙ (law.same.symm v u ∙ apart))

like_apart : Laws → (y v w : Variable) → same_variable v w ≡ true → same_variable v y ≡ false → same_variable w y ≡ false
like_apart law y v w same apart = sym (law.same.congr v w y same) ∙ apart

told_distinct : Laws → (vars some : List Variable) → IsDistinct same_variable some → IsDistinct same_variable (told vars some)
unfolding IsDistinct
told_distinct law vars [] d = tt
told_distinct law vars (v ∷ some) d = by_match (matching v vars) refl (told_distinct law vars some d.1)
  where
    apart_from : (u w : Variable) (xs : List Variable) → same_variable u w ≡ true → AllByRecursion (λ y. same_variable u y ≡ false) xs → AllByRecursion (λ y. same_variable w y ≡ false) xs
    apart_from u w [] same all = tt
    apart_from u w (x ∷ xs) same all = (like_apart law x u w same all.0, apart_from u w xs same all.1)

    by_match : (o : Option Variable) → matching v vars ≡ o → IsDistinct same_variable (told vars some) → IsDistinct same_variable (kept_told o (told vars some))
    by_match None at more = more
    by_match (Some w) at more =
        (apart_from v w (told vars some) (matching_same v w vars at) (all_told (λ y. same_variable v y ≡ false) vars some (λ x y same apart. apart_like law v x y same apart) d.0), more)

distinct_joined : (first rest : List Variable) → IsDistinct same_variable first → IsDistinct same_variable rest → AllByRecursion (λ v. AllByRecursion (λ y. same_variable v y ≡ false) rest) first →
    IsDistinct same_variable (first ++ rest)
unfolding IsDistinct
distinct_joined [] rest d e apart = e
distinct_joined (v ∷ first) rest d e apart = (both first d.0, distinct_joined first rest d.1 e apart.1)
  where
    both : (xs : List Variable) → AllByRecursion (λ y. same_variable v y ≡ false) xs → AllByRecursion (λ y. same_variable v y ≡ false) (xs ++ rest)
    both [] all = apart.0
    both (x ∷ xs) all = (all.0, both xs all.1)

-- the others are apart from each variable of the table
others_apart : Laws → (v : Variable) (some vars : List Variable) → list_any (same_variable v) some ≡ true
    → AllByRecursion (λ y. same_variable v y ≡ false) (filter (λ x. not (list_any (same_variable x) some)) vars)
others_apart law v some [] in_some = tt
others_apart law v some (w ∷ vars) in_some = by_test (list_any (same_variable w) some) refl (same_variable v w) refl (others_apart law v some vars in_some)
  where
    by_test : (b : Bool) → list_any (same_variable w) some ≡ b → (c : Bool) → same_variable v w ≡ c
        → AllByRecursion (λ y. same_variable v y ≡ false) (filter (λ x. not (list_any (same_variable x) some)) vars) →
        AllByRecursion (λ y. same_variable v y ≡ false) (cond (not b) (w ∷ filter (λ x. not (list_any (same_variable x) some)) vars) (filter (λ x. not (list_any (same_variable x) some)) vars))
    by_test true is c same more = more
    by_test false is true same more = let e : false ≡ true = sym is ∙ (sym (any_like law v w some same) ∙ in_some) in absurd cc
    by_test false is false same more = (same, more)

all_others_apart : Laws → (some vars few : List Variable) → AllByRecursion (λ v. list_any (same_variable v) some ≡ true) few →
    AllByRecursion (λ v. AllByRecursion (λ y. same_variable v y ≡ false) (filter (λ x. not (list_any (same_variable x) some)) vars)) few
all_others_apart law some vars [] all = tt
all_others_apart law some vars (v ∷ few) all = (others_apart law v some vars all.0, all_others_apart law some vars few all.1)

all_any : Laws → (first rest : List Variable) → AllByRecursion (λ v. list_any (same_variable v) (first ++ rest) ≡ true) rest
all_any law first [] = tt
all_any law first (v ∷ rest) = (
  here first,
  subst (λ (xs : List Variable). AllByRecursion (λ w. list_any (same_variable w) xs ≡ true) rest)
      (append_assoc first (v ∷ []) rest) (all_any law (first ++ v ∷ []) rest),
)
  where
    one : (b : Bool) → (b || true) ≡ true
    one true = refl
    one false = refl

    here : (xs : List Variable) → list_any (same_variable v) (xs ++ v ∷ rest) ≡ true
    here [] = rw (law.same.refl v) refl
    here (x ∷ xs) = rw (here xs) (one (same_variable v x))

told_any : Laws → (vars some all : List Variable) → AllByRecursion (λ v. list_any (same_variable v) all ≡ true) some → AllByRecursion (λ v. list_any (same_variable v) all ≡ true) (told vars some)
told_any law vars some all are = all_told (λ v. list_any (same_variable v) all ≡ true) vars some (λ v w same is. sym (any_like law v w all same) ∙ is) are

table_told_distinct : Laws → (vars : List Variable) (entries : List PlainNode) → IsDistinct same_variable vars
    → IsDistinct same_variable (variables_in entries) → IsDistinct same_variable (table_told vars entries)
table_told_distinct law vars entries d e =
    let some = variables_in entries in
    distinct_joined (told vars some) (others vars entries) (told_distinct law vars some e) (law.filter (λ v. not (list_any (same_variable v) some)) vars d)
    (all_others_apart law some vars (told vars some) (told_any law vars some some (all_any law [] some)))

-- an entry has a form
abbrev pub HasForm : Entry → Type 0
HasForm Broken = ⊥
HasForm Unread = Unit {0}
HasForm (Tells v) = Unit {0}

abbrev pub HaveForm : List PlainNode → Type 0
HaveForm entries = AllByRecursion (λ entry. HasForm (entry_of entry)) entries

one_form : (place : Place) (earlier : List Variable) (e : Entry) → entry_places place earlier e ≡ [] → HasForm e
one_form place earlier Broken none = absurd cc
one_form place earlier Unread none = tt
one_form place earlier (Tells v) none = tt

have_form : (n m e : ℕ) (earlier : List Variable) (entries : List PlainNode) → entries_places n m e earlier entries ≡ [] → HaveForm entries
have_form n m e earlier [] none = tt
have_form n m e earlier (entry ∷ entries) none =
    let place : Place = record { list = n; member = m; entry = e } in
    let parts = none_parts (entry_places place earlier (entry_of entry)) (entries_places n m (e + 1) (with_later earlier (entry_of entry)) entries) none in
    (one_form place earlier (entry_of entry) parts.0, have_form n m (e + 1) (with_later earlier (entry_of entry)) entries parts.1)

form_back : Laws → (vars : List Variable) (entry : PlainNode) (rest : List PlainNode) (e : Entry) → entry_of entry ≡ e → HasForm e → HaveForm rest → HaveForm (one_back vars e entry rest)
form_back law vars entry rest Broken is form more = absurd form
form_back law vars entry rest Unread is form more = (subst HasForm (sym is) tt, more)
form_back law vars entry rest (Tells v) is form more = by_match (matching v vars) refl
  where
    by_match : (o : Option Variable) → matching v vars ≡ o → HaveForm (cond (list_any (same_variable v) vars) (with_value o entry ∷ rest) rest)
    by_match None at = rw (none_found v vars at) more
    by_match (Some w) at = rw (found_any v w vars at) (subst HasForm (sym (entry_again law entry v w is (matching_same v w vars at))) tt, more)

forms_back : Laws → (vars : List Variable) (entries : List PlainNode) → HaveForm entries → HaveForm (entries_back vars entries)
forms_back law vars [] all = tt
forms_back law vars (entry ∷ entries) all =
    subst HaveForm (sym (entries_one vars entry entries)) (form_back law vars entry (entries_back vars entries) (entry_of entry) refl all.0 (forms_back law vars entries all.1))

forms_new : (vars : List Variable) → HaveForm (map new_entry vars)
forms_new [] = tt
forms_new (IntVar name n ∷ vars) = (tt, forms_new vars)
forms_new (TextVar name text ∷ vars) = (tt, forms_new vars)

forms_joined : (first rest : List PlainNode) → HaveForm first → HaveForm rest → HaveForm (first ++ rest)
forms_joined [] rest p q = q
forms_joined (entry ∷ first) rest p q = (p.0, forms_joined first rest p.1 q)

apart_earlier : Laws → (earlier : List Variable) (v : Variable) (more : List Variable) → IsDistinct same_variable (earlier ++ v ∷ more) → list_any (same_variable v) earlier ≡ false
unfolding IsDistinct
apart_earlier law [] v more d = refl
apart_earlier law (w ∷ earlier) v more d = rw (law.same.symm v w ∙ at earlier d.0) (apart_earlier law earlier v more d.1)
  where
    at : (xs : List Variable) → AllByRecursion (λ y. same_variable w y ≡ false) (xs ++ v ∷ more) → same_variable w v ≡ false
    at [] all = all.0
    at (x ∷ xs) all = at xs all.1

entry_whole : Laws → (place : Place) (earlier more : List Variable) (e : Entry) → HasForm e → IsDistinct same_variable (earlier ++ with_entry e more) → entry_places place earlier e ≡ []
entry_whole law place earlier more Broken form d = absurd form
entry_whole law place earlier more Unread form d = refl
entry_whole law place earlier more (Tells v) form d = rw (apart_earlier law earlier v more d) refl

later_is : (earlier more : List Variable) (e : Entry) → with_later earlier e ++ more ≡ earlier ++ with_entry e more
later_is earlier more Broken = refl
later_is earlier more Unread = refl
later_is earlier more (Tells v) = append_assoc earlier (v ∷ []) more

entries_whole : Laws → (n m e : ℕ) (earlier : List Variable) (entries : List PlainNode) → HaveForm entries
    → IsDistinct same_variable (earlier ++ variables_in entries) → entries_places n m e earlier entries ≡ []
entries_whole law n m e earlier [] all d = refl
entries_whole law n m e earlier (entry ∷ entries) all d =
    rw (entry_whole law (record { list = n; member = m; entry = e }) earlier (variables_in entries) (entry_of entry) all.0 d)
    (entries_whole law n m (e + 1) (with_later earlier (entry_of entry)) entries all.1 (subst (IsDistinct same_variable) (sym (later_is earlier (variables_in entries) (entry_of entry))) d))

-- ---- members

nodes_there : Laws → (nodes : List PlainNode) → nodes_in (nodes_from nodes) ≡ nodes
nodes_there law nodes = some_is (nodes_in (nodes_from nodes)) nodes (law.tree.nodes nodes)
  where
    some_is : (xs ys : List PlainNode) → Some xs ≡ Some ys → xs ≡ ys
    some_is xs ys e = cc

-- what an object's fields tell after the way back
record FieldsRead (n m : ℕ) (vars : List Variable) (before after : List PlainField) : Type 0 where
  tag : found (codes "Tag") after ≡ found (codes "Tag") before
  scripts : scripts_in after ≡ scripts_in before
  places : table_places n m (found (codes "VarTable") after) ≡ []
  told : (v : Variable) → matching v (variables_in (structs_in (found (codes "VarTable") after))) ≡ matching v vars

table_whole : Laws → (n m : ℕ) (vars : List Variable) (entries : List PlainNode) → IsDistinct same_variable vars → IsDistinct same_variable (variables_in entries) → HaveForm entries →
    table_places n m (Some (list_from (table_back vars entries))) ≡ []
table_whole law n m vars entries d e forms =
    ap (entries_places n m 1 []) (nodes_there law (table_back vars entries))
    ∙ entries_whole law n m 1 [] (table_back vars entries)
    (forms_joined (entries_back vars entries) (map new_entry (others vars entries)) (forms_back law vars entries forms) (forms_new (others vars entries)))
    (subst (IsDistinct same_variable) (sym (told_table law vars entries)) (table_told_distinct law vars entries d e))

table_matches : Laws → (vars : List Variable) (entries : List PlainNode) (v : Variable) → matching v (variables_in (nodes_in (nodes_from (table_back vars entries)))) ≡ matching v vars
table_matches law vars entries v =
    ap (λ (ns : List PlainNode). matching v (variables_in ns)) (nodes_there law (table_back vars entries)) ∙ (ap (matching v) (told_table law vars entries) ∙ matching_table law v vars entries)

nothing_read : (n m : ℕ) (fields : List PlainField) → found (codes "VarTable") fields ≡ None → FieldsRead n m [] fields fields
nothing_read n m fields is = record {
  tag = refl;
  scripts = refl;
  places = ap (table_places n m) is;
  told = λ v. ap (λ (o : Option PlainLeaf). matching v (variables_in (structs_in o))) is;
}

appended_read : Laws → (n m : ℕ) (vars : List Variable) (fields : List PlainField) → found (codes "VarTable") fields ≡ None → IsDistinct same_variable vars →
    FieldsRead n m vars fields (appended (codes "VarTable") (list_from (table_back vars [])) fields)
unfolding IsDistinct
appended_read law n m vars fields is d =
    let there = found_last (codes "VarTable") (list_from (table_back vars [])) fields is in
    record {
      tag = found_behind (codes "Tag") (codes "VarTable") (list_from (table_back vars [])) fields refl;
      scripts = scripts_behind (codes "VarTable") (table_back vars []) fields;
      places = ap (table_places n m) there ∙ table_whole law n m vars [] d tt tt;
      told = λ v. ap (λ (o : Option PlainLeaf). matching v (variables_in (structs_in o))) there ∙ table_matches law vars [] v;
    }

replaced_read : Laws → (n m : ℕ) (vars : List Variable) (entries : List PlainNode) (fields : List PlainField)
    → found (codes "VarTable") fields ≡ Some (list_from entries) → IsDistinct same_variable vars →
    IsDistinct same_variable (variables_in entries) → HaveForm entries → FieldsRead n m vars fields (replaced (codes "VarTable") (list_from (table_back vars entries)) fields)
replaced_read law n m vars entries fields is d e forms =
    let there = found_put (codes "VarTable") (list_from entries) (list_from (table_back vars entries)) fields is in
    record {
      tag = found_other (codes "Tag") (codes "VarTable") (list_from (table_back vars entries)) fields refl;
      scripts = scripts_put (codes "VarTable") entries (table_back vars entries) fields is;
      places = ap (table_places n m) there ∙ table_whole law n m vars entries d e forms;
      told = λ v. ap (λ (o : Option PlainLeaf). matching v (variables_in (structs_in o))) there ∙ table_matches law vars entries v;
    }

fields_read : Laws → (n m : ℕ) (vars : List Variable) (table : Option PlainLeaf) (fields : List PlainField)
    → found (codes "VarTable") fields ≡ table → table_places n m table ≡ [] → IsDistinct same_variable vars →
    FieldsRead n m vars fields (fields_back vars table fields)
fields_read law n m [] None fields is none d = nothing_read n m fields is
fields_read law n m (v ∷ vars) None fields is none d = appended_read law n m (v ∷ vars) fields is d
fields_read law n m vars (Some (Holds scalar)) fields is none d = absurd cc
fields_read law n m vars (Some (Child node)) fields is none d = absurd cc
fields_read law n m vars (Some (Children entries)) fields is none d =
    let listed : Children entries ≡ list_from (nodes_in entries) = sym (law.tree.list (Children entries) (nodes_in entries) refl) in
    subst (FieldsRead n m vars fields) (sym (some_back vars (Children entries) fields))
    (replaced_read law n m vars (nodes_in entries) fields (is ∙ ap (λ (l : PlainLeaf). Some l) listed) d (law.tables n m (Some (Children entries)) none) (have_form n m 1 [] (nodes_in entries) none))

member_read : Laws → (n m : ℕ) (object : AreaObject) (node : PlainNode) → bare object ≡ bare (object_of node) → IsDistinct same_variable object.vars → member_places n m node ≡ [] →
    (member_places n m (member_back object.vars node) ≡ []) × AreAlike (object_of (member_back object.vars node)) object
member_read law n m object node same d none =
    let fields = fields_of node in
    let table = found (codes "VarTable") fields in
    let new = fields_back object.vars table fields in
    let parts = none_parts (tag_places n m (found (codes "Tag") fields)) (table_places n m table) none in
    let there : fields_of (member_back object.vars node) ≡ new = law.tree.fields (kind_of node) new in
    let read = fields_read law n m object.vars table fields refl parts.1 d in (
      ap (λ (fs : List PlainField). tag_places n m (found (codes "Tag") fs) ++ table_places n m (found (codes "VarTable") fs)) there ∙ rw (read.tag, parts.0, read.places) refl,
      record {
        tag = ap (λ (fs : List PlainField). tag_in (found (codes "Tag") fs)) there ∙ (ap tag_in read.tag ∙ sym (ap (λ (o : AreaObject). o.tag) same));
        scripts = ap scripts_in there ∙ (read.scripts ∙ sym (ap (λ (o : AreaObject). o.scripts) same));
        vars = λ v. ap (λ (fs : List PlainField). matching v (variables_in (structs_in (found (codes "VarTable") fs)))) there ∙ read.told v;
      },
    )

members_read : Laws → (n m : ℕ) (objects : List AreaObject) (nodes : List PlainNode) → map bare objects ≡ map bare (map object_of nodes) → HaveDistinct objects → members_places n m nodes ≡ [] →
    (members_places n m (members_back objects nodes) ≡ []) × AllAlike (map object_of (members_back objects nodes)) objects
members_read law n m [] [] same d none = (refl, tt)
members_read law n m [] (node ∷ nodes) same d none = absurd cc
members_read law n m (o ∷ objects) [] same d none = absurd cc
members_read law n m (o ∷ objects) (node ∷ nodes) same d none =
    let parts = none_parts (member_places n m node) (members_places n (m + 1) nodes) none in
    let first : bare o ≡ bare (object_of node) = cc in
    let later : map bare objects ≡ map bare (map object_of nodes) = cc in
    let here = member_read law n m o node first d.0 parts.0 in
    let more = members_read law n (m + 1) objects nodes later d.1 parts.1 in
    (rw (here.0, more.0) refl, (here.1, more.1))

-- ---- lists

list_read : Laws → (n : ℕ) (label : List ℕ) (objects : List AreaObject) (leaf : Option PlainLeaf)
    (fields : List PlainField) → found label fields ≡ leaf
    → map bare objects ≡ map bare (map object_of (structs_in leaf)) →
    HaveDistinct objects → list_places n leaf ≡ [] →
    (list_places n (found label (list_back label objects leaf fields)) ≡ []) × AllAlike (map object_of (structs_in (found label (list_back label objects leaf fields)))) objects
list_read law n label [] None fields is same d none = rw is (refl, tt)
list_read law n label (o ∷ objects) None fields is same d none = absurd cc
list_read law n label objects (Some (Holds scalar)) fields is same d none = absurd cc
list_read law n label objects (Some (Child node)) fields is same d none = absurd cc
list_read law n label objects (Some (Children nodes)) fields is same d none =
    let new = members_back objects (nodes_in nodes) in
    let read = members_read law n 1 objects (nodes_in nodes) same d none in
    let there : found label (replaced label (list_from new) fields) ≡ Some (list_from new) = found_put label (Children nodes) (list_from new) fields is in
    rw there (ap (members_places n 1) (nodes_there law new) ∙ read.0, subst (λ (ns : List PlainNode). AllAlike (map object_of ns) objects) (sym (nodes_there law new)) read.1)

list_other : (other label : List ℕ) (objects : List AreaObject) (leaf : Option PlainLeaf) (fields : List PlainField)
    → bytes_eq other label ≡ false → found other (list_back label objects leaf fields) ≡ found other fields
list_other other label objects None fields apart = refl
list_other other label objects (Some leaf) fields apart = found_other other label (objects_back objects leaf) fields apart

-- labels that are all others than this one
abbrev pub AllOther : List ℕ → List (List ℕ) → Type 0
AllOther label labels = AllByRecursion (λ l. bytes_eq label l ≡ false) labels

lists_other : (other : List ℕ) (labels : List (List ℕ)) (objects : List AreaObject) (fields : List PlainField)
    → AllOther other labels → found other (lists_back labels objects fields) ≡ found other fields
lists_other other [] objects fields apart = refl
lists_other other (label ∷ labels) objects fields apart =
    let k = length (structs_in (found label fields)) in
    lists_other other labels (drop k objects) (list_back label (take k objects) (found label fields) fields) apart.1 ∙ list_other other label (take k objects) (found label fields) fields apart.0

pub under_same : (label : List ℕ) (labels : List (List ℕ)) (objects : List AreaObject) (leaf : Option PlainLeaf) (fields : List PlainField) → AllOther label labels →
    objects_under labels (list_back label objects leaf fields) ≡ objects_under labels fields
under_same label [] objects leaf fields apart = refl
under_same label (l ∷ labels) objects leaf fields apart =
    rw (list_other l label objects leaf fields (nat_list_eq_equiv.symm l label ∙ apart.0), under_same label labels objects leaf fields apart.1) refl

pub places_same : (n : ℕ) (label : List ℕ) (labels : List (List ℕ)) (objects : List AreaObject) (leaf : Option PlainLeaf) (fields : List PlainField) → AllOther label labels →
    lists_places n labels (list_back label objects leaf fields) ≡ lists_places n labels fields
places_same n label [] objects leaf fields apart = refl
places_same n label (l ∷ labels) objects leaf fields apart =
    rw (list_other l label objects leaf fields (nat_list_eq_equiv.symm l label ∙ apart.0), places_same (n + 1) label labels objects leaf fields apart.1) refl

-- the objects of the first list, and the others
split_same : (nodes : List PlainNode) (objects rest : List AreaObject) → map bare objects ≡ map bare (map object_of nodes ++ rest) →
    (map bare (take (length nodes) objects) ≡ map bare (map object_of nodes)) × (map bare (drop (length nodes) objects) ≡ map bare rest)
split_same [] objects rest same = (refl, same)
split_same (node ∷ nodes) [] rest same = absurd cc
split_same (node ∷ nodes) (o ∷ objects) rest same =
    let first : bare o ≡ bare (object_of node) = cc in
    let later : map bare objects ≡ map bare (map object_of nodes ++ rest) = cc in
    let more = split_same nodes objects rest later in
    (rw (first, more.0) refl, more.1)

taken_distinct : (k : ℕ) (objects : List AreaObject) → HaveDistinct objects → HaveDistinct (take k objects)
taken_distinct zero objects d = tt
taken_distinct (suc k) [] d = tt
taken_distinct (suc k) (o ∷ objects) d = (d.0, taken_distinct k objects d.1)

dropped_distinct : (k : ℕ) (objects : List AreaObject) → HaveDistinct objects → HaveDistinct (drop k objects)
dropped_distinct zero objects d = d
dropped_distinct (suc k) [] d = tt
dropped_distinct (suc k) (o ∷ objects) d = dropped_distinct k objects d.1

alike_joined : (first rest xs ys : List AreaObject) → AllAlike first xs → AllAlike rest ys → AllAlike (first ++ rest) (xs ++ ys)
alike_joined [] rest [] ys p q = q
alike_joined [] rest (x ∷ xs) ys p q = absurd p
alike_joined (o ∷ first) rest [] ys p q = absurd p
alike_joined (o ∷ first) rest (x ∷ xs) ys p q = (p.0, alike_joined first rest xs ys p.1 q)

lists_read : Laws → (n : ℕ) (labels : List (List ℕ)) (objects : List AreaObject) (fields : List PlainField)
    → IsDistinct bytes_eq labels → map bare objects ≡ map bare (objects_under labels fields) → HaveDistinct objects →
    lists_places n labels fields ≡ [] →
    (lists_places n labels (lists_back labels objects fields) ≡ []) × AllAlike (objects_under labels (lists_back labels objects fields)) objects
unfolding IsDistinct
lists_read law n [] [] fields apart same d none = (refl, tt)
lists_read law n [] (o ∷ objects) fields apart same d none = absurd cc
lists_read law n (label ∷ labels) objects fields apart same d none =
    let nodes = structs_in (found label fields) in
    let k = length nodes in
    let first = take k objects in
    let rest = drop k objects in
    let parts = none_parts (list_places n (found label fields)) (lists_places (n + 1) labels fields) none in
    let split = split_same nodes objects (objects_under labels fields) same in
    let new = list_back label first (found label fields) fields in
    let here = list_read law n label first (found label fields) fields refl split.0 (taken_distinct k objects d) parts.0 in
    let more = lists_read law (n + 1) labels rest new apart.1 (split.1 ∙ sym (ap (map bare) (under_same label labels first (found label fields) fields apart.0))) (dropped_distinct k objects d)
    (places_same (n + 1) label labels first (found label fields) fields apart.0 ∙ parts.1) in
    let there : found label (lists_back labels rest new) ≡ found label new = lists_other label labels rest new apart.0 in (
      rw (there, here.0) more.0,
      subst (AllAlike (objects_under (label ∷ labels) (lists_back labels rest new))) (take-append-drop k objects)
          (rw there (alike_joined (map object_of (structs_in (found label new))) (objects_under labels (lists_back labels rest new)) first rest here.1 more.1)),
    )

pub labels_distinct : IsDistinct bytes_eq list_labels
unfolding IsDistinct
labels_distinct = ((refl, (refl, (refl, (refl, tt)))), ((refl, (refl, (refl, tt))), ((refl, (refl, tt)), ((refl, tt), (tt, tt)))))

pub back_is_read : Laws → BackIsRead
back_is_read law area is =
    let top = top_of area in
    let read = lists_read law 0 list_labels area.objects (fields_of top) labels_distinct is.same is.distinct is.whole in
    let there = law.tree.fields (kind_of top) (lists_back list_labels area.objects (fields_of top)) in
    record {
      sound = back_sound law.tree area.objects top is.sound;
      whole = ap (lists_places 0 list_labels) there ∙ read.0;
      alike = subst (λ (fs : List PlainField). AllAlike (objects_under list_labels fs) area.objects) (sym there) read.1;
    }
