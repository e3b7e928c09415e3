use Rattle.std.proofs.Common.{◌≡◌, ◌≢◌, ◌<◌, ℕ, All, Bool, true, false, cond, List, [], ◌∷◌, map, Option, Some, None, refl, sym, ap, subst, ◌∙◌}
use Rattle.std.proofs.lemmas.Option.{same_Some}
use Rattle.std.proofs.lemmas.Cmp.{nat_list_cmp_total, nat_list_eq_equiv}
use Rattle.std.proofs.lemmas.Map.Lookups.{exact_bytes}
use Rattle.std.proofs.lemmas.Slice.Eq.{bytes_eq-Decides}
use Rattle.std.proofs.lemmas.Map.Text.{is_eq-slice_cmp, btree_map_updates_text}
use Rattle.std.specs.BTreeMap.{BTreeMap, Updates, get_by_text, is_at}
use Rattle.std.specs.Cmp.Lexicographic.{slice_cmp}
use Rattle.std.specs.FinMap.{get, insert, empty, find, same_map, get-from_entries, get-insert, get-empty}
use Rattle.std.specs.Map.{lookup}
use Rattle.std.specs.Ordering.{nat_cmp, is_eq}
use Rattle.std.specs.Prelude.{String}
use Rattle.std.specs.Str.{bytes_eq}
use Rattle.std.specs.String.{string_bytes, string_cmp}
use Rattle.nwq_outside.specs.Memory.{Memory, contents_of, counted}
use Rattle.nwq_outside.specs.Outside.{Held, ContentsAreBytes, KeepsOthers, plain}
use Rattle.nwq_outside.specs.ContentLemmas.{write_keeps, same_keeps}

find_held : {A : Type 0} (es : List (String A × List ℕ)) (name : List ℕ)
    → find (slice_cmp nat_cmp) name (map (λ (e : String A × List ℕ). (string_bytes e.0, e.1)) es) ≡ lookup (is_at (λ k. slice_cmp nat_cmp name (string_bytes k))) es
find_held [] name = refl
find_held (e ∷ es) name = ap (cond (is_at (λ k. slice_cmp nat_cmp name (string_bytes k)) e.0) (Some e.1)) (find_held es name)

-- what a name holds is what the map has under it
pub get_held : {A : Type 0} (held : BTreeMap (String A) (List ℕ)) (name : List ℕ) → get (contents_of held) name ≡ get_by_text held name
get_held held name = get-from_entries nat_list_cmp_total _ name ∙ find_held held.entries name

same_at : {A : Type 0} (before after : BTreeMap (String A) (List ℕ)) (key : String A) (name bytes : List ℕ)
    → string_bytes key ≡ name → Updates string_cmp before after key (Some bytes) → (q : List ℕ)
    → get (contents_of after) q ≡ get (insert (contents_of before) name bytes) q
same_at before after key name bytes is put q =
    get_held after q
    ∙ btree_map_updates_text (string_bytes key) before after (Some bytes) put q
    ∙ ap (λ b. cond b (Some bytes) (get_by_text before q)) (ap (λ n. bytes_eq n q) is ∙ nat_list_eq_equiv.symm name q ∙ sym (is_eq-slice_cmp q name))
    ∙ ap (λ o. cond (is_eq (slice_cmp nat_cmp q name)) (Some bytes) o) (sym (get_held before q))
    ∙ sym (get-insert nat_list_cmp_total (contents_of before) name bytes q)

-- an entry that is put into the map is put into what it holds
pub insert_held : {A : Type 0} (before after : BTreeMap (String A) (List ℕ)) (key : String A) (name bytes : List ℕ)
    → string_bytes key ≡ name → Updates string_cmp before after key (Some bytes)
    → contents_of after ≡ insert (contents_of before) name bytes
insert_held before after key name bytes is put =
    same_map nat_list_cmp_total exact_bytes (contents_of after) (insert (contents_of before) name bytes) (λ q. same_at before after key name bytes is put q)

-- what is put under a name leaves every other name what it held
pub insert_keeps : (before after : Held) (name bytes : List ℕ) → after ≡ insert before name bytes → KeepsOthers name (plain before) (plain after)
insert_keeps before after name bytes put = subst (λ h. KeepsOthers name (plain before) (plain h)) (sym put) (write_keeps (plain before) name bytes)

pub stay_keeps : (before after : Held) (name : List ℕ) → after ≡ before → KeepsOthers name (plain before) (plain after)
stay_keeps before after name same = same_keeps name (plain before) (plain after) (ap plain same)

-- a call changes nothing of what is held
counted_held : (m : Memory) (fails : Bool) → (counted m fails).contents ≡ m.contents
counted_held m true = refl
counted_held m false = refl

pub added_keeps : (before mid after : Memory) (fails : Bool) (name bytes : List ℕ) → mid ≡ counted before fails
    → after ≡ record mid { contents = insert mid.contents name bytes } → KeepsOthers name (plain before.contents) (plain after.contents)
added_keeps before mid after fails name bytes call added =
    insert_keeps before.contents after.contents name bytes
    (ap (λ (m : Memory). m.contents) added ∙ ap (λ h. insert h name bytes) (ap (λ (m : Memory). m.contents) call ∙ counted_held before fails))

pub ruleset keeps = (added_keeps, stay_keeps)

-- ---- what is held are bytes

either_bytes : (b : Bool) (bytes other : List ℕ) (content : Option (List ℕ)) → All (λ x. x < 256) bytes
    → (content ≡ Some other → All (λ x. x < 256) other) → cond b (Some bytes) content ≡ Some other → All (λ x. x < 256) other
either_bytes true bytes other content all else is = subst (All (λ x. x < 256)) (same_Some bytes other is) all
either_bytes false bytes other content all else is = else is

pub bytes_put : (before after : Held) (name bytes : List ℕ) → after ≡ insert before name bytes → ContentsAreBytes (plain before) → All (λ x. x < 256) bytes
    → ContentsAreBytes (plain after)
unfolding ContentsAreBytes
bytes_put before after name bytes put held all other content is =
    either_bytes (is_eq (slice_cmp nat_cmp other name)) bytes content (get before other) all (held other content)
    (sym (get-insert nat_list_cmp_total before name bytes other) ∙ ap (λ c. get c other) (sym put) ∙ is)

pub bytes_stay : (before after : Held) → after ≡ before → ContentsAreBytes (plain before) → ContentsAreBytes (plain after)
bytes_stay before after same held = subst (λ h. ContentsAreBytes (plain h)) (sym same) held

nothing_there : (none : Held) (name : List ℕ) → none ≡ empty → get none name ≡ None
nothing_there none name is = subst (λ (c : Held). get c name ≡ None) (sym is) (get-empty (slice_cmp nat_cmp) name)

pub no_bytes : (none : Held) → none ≡ empty → ContentsAreBytes (plain none)
unfolding ContentsAreBytes
no_bytes none is name bytes held = let nothing = nothing_there none name is in cc

pub ruleset bytes_are = (bytes_put, bytes_stay, no_bytes)
