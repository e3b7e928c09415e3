-- What a name is made of, and which names may follow others.
use Rattle.std.proofs.Common.{◌≡◌, ℕ, zero, suc, ◌<◌, ◌≤◌, Bool, true, false, true≢false, cond, ◌&&◌, ◌||◌, not, nat_lt, nat_le, List, [], ◌∷◌, ◌++◌, length, take, get_or, map, Some, None, refl, sym}
use Rattle.std.proofs.Common.{ap, ◌∙◌, arith, lit<}
use Rattle.std.proofs.lemmas.Bool.{and_parts}
use Rattle.std.proofs.lemmas.Bool.Decides.{nat_tests}
use Rattle.std.proofs.lemmas.List.{take_all}
use Rattle.std.proofs.lemmas.Str.{IsUtf8-from_ascii}
use Rattle.std.specs.List.{list_all, list_any, AllByRecursion}
use Rattle.std.specs.Str.{IsUtf8}
use Rattle.nwq_value.specs.Limits.{text_limit}
use Rattle.nwq_text.specs.Names.{is_script_name, is_script_byte}
use Rattle.table_2da.specs.Look.{same_name, table_named}
use Rattle.table_2da.specs.declared.tables.Named.{Named}
use Rattle.command_tables.specs.Lists.{may_follow, table_limit, AreNames}

-- ---- the bytes of a name

script_byte_small : (b : ℕ) → is_script_byte b ≡ true → b < 128
script_byte_small b h = grind (arith, nat_tests)

all_small : (name : List ℕ) → list_all is_script_byte name ≡ true → AllByRecursion (λ b. b < 128) name
all_small [] h = tt
all_small (b ∷ bs) h =
    let parts = and_parts (is_script_byte b) (list_all is_script_byte bs) h in (script_byte_small b parts.0, all_small bs parts.1)

small_at : (xs : List ℕ) → AllByRecursion (λ x. x < 128) xs → (i : ℕ) → get_or xs i 0 < 128
small_at [] all i = lit< tt
small_at (x ∷ xs) all zero = all.0
small_at (x ∷ xs) all (suc i) = small_at xs all.1 i

pub name_plain : (name : List ℕ) → is_script_name name ≡ true → IsUtf8 name
unfolding is_script_name
name_plain name h =
    let parts = and_parts (nat_lt 0 (length name) && nat_le (length name) 16) (list_all is_script_byte name) h
    in IsUtf8-from_ascii name (small_at name (all_small name parts.1))

short_enough : (n : ℕ) → nat_le n 16 ≡ true → n ≤ text_limit
short_enough n h = grind (arith, nat_tests)

pub name_short : (name : List ℕ) → is_script_name name ≡ true → take text_limit name ≡ name
unfolding is_script_name
name_short name h =
    let parts = and_parts (nat_lt 0 (length name) && nat_le (length name) 16) (list_all is_script_byte name) h in
    let few = and_parts (nat_lt 0 (length name)) (nat_le (length name) 16) parts.0 in
    take_all text_limit name (short_enough (length name) few.1)

-- ---- names that follow others

pub follows_named : (names : List (List ℕ)) (name : List ℕ) → may_follow names name ≡ true → is_script_name name ≡ true
unfolding may_follow
follows_named names name h =
    let parts = and_parts (is_script_name name && not (list_any (λ other. same_name other name) names)) (nat_lt (length names) table_limit) h
    in (and_parts (is_script_name name) (not (list_any (λ other. same_name other name) names)) parts.0).0

not_false : (b : Bool) → not b ≡ true → b ≡ false
not_false true h = absurd (true≢false (sym h))
not_false false h = refl

follows_new : (names : List (List ℕ)) (name : List ℕ) → may_follow names name ≡ true → list_any (λ other. same_name other name) names ≡ false
unfolding may_follow
follows_new names name h =
    let parts = and_parts (is_script_name name && not (list_any (λ other. same_name other name) names)) (nat_lt (length names) table_limit) h
    in not_false (list_any (λ other. same_name other name) names)
    (and_parts (is_script_name name) (not (list_any (λ other. same_name other name) names)) parts.0).1

or_parts : (a b : Bool) → (a || b) ≡ false → (a ≡ false) × (b ≡ false)
or_parts true b h = absurd (true≢false h)
or_parts false b h = (refl, h)

find_none : (name : List ℕ) (t : Named) (tables : List Named) → same_name t.name name ≡ false → table_named name tables ≡ None
    → table_named name (t ∷ tables) ≡ None
find_none name t tables other rest = ap (λ b. cond b (Some t) (table_named name tables)) other ∙ rest

-- where a name is none of those of tables, there is no such table
unnamed : (name : List ℕ) (tables : List Named) → list_any (λ other. same_name other name) (map (λ t. t.name) tables) ≡ false
    → table_named name tables ≡ None
unnamed name [] h = refl
unnamed name (t ∷ tables) h =
    let parts = or_parts (same_name t.name name) (list_any (λ other. same_name other name) (map (λ t. t.name) tables)) h
    in find_none name t tables parts.0 (unnamed name tables parts.1)

-- ---- the next of names, behind those of the tables that there are

module _ (names : List (List ℕ)) (tables : List Named) (name : List ℕ) (others : List (List ℕ)) where
  next_follows : AreNames names → map (λ t. t.name) tables ++ name ∷ others ≡ names → may_follow (map (λ t. t.name) tables) name ≡ true
  next_follows are is = are (map (λ t. t.name) tables) others name (sym is)

  pub next_named : AreNames names → map (λ t. t.name) tables ++ name ∷ others ≡ names → is_script_name name ≡ true
  next_named are is = follows_named (map (λ t. t.name) tables) name (next_follows are is)

  pub next_new : AreNames names → map (λ t. t.name) tables ++ name ∷ others ≡ names → table_named name tables ≡ None
  next_new are is = unnamed name tables (follows_new (map (λ t. t.name) tables) name (next_follows are is))
