-- Where labels stand in a table, and what one more makes of it.
use Rattle.std.proofs.Common.{◌≡◌, ◌≢◌, ℕ, ◌+◌, ◌<◌, ◌==◌, suc, Bool, true, false, cond, ◌||◌, nat_lt, if◌then◌else◌, List, [], ◌∷◌, ◌++◌, length, Option, Some, None, is_some, refl, sym, ap, subst}
use Rattle.std.proofs.Common.{◌∙◌, arith}
use Rattle.std.proofs.lemmas.Bool.{eqb-true}
use Rattle.std.proofs.lemmas.Bool.Decides.{nat_tests}
use Rattle.std.proofs.lemmas.Cmp.{nat_list_eq_equiv}
use Rattle.std.proofs.lemmas.List.{length_push}
use Rattle.std.specs.Cmp.Lexicographic.{bytes_decides}
use Rattle.std.specs.List.{list_any, AllByRecursion}
use Rattle.std.specs.Map.{keys_of, values_of}
use Rattle.std.specs.Option.{option_map}
use Rattle.std.specs.Str.{bytes_eq}
use Rattle.indexmap.specs.IndexMap.{insert_entry}
use Rattle.nwq_value.specs.Index.{number_under, first_place, Puts}
use Rattle.gff_write.specs.File.{label_index, with_label}
use Rattle.gff_write.specs.Labels.{IsTable}

turn : (b any : Bool) (k n : ℕ) → any ≡ nat_lt k n → (b || any) ≡ nat_lt (if b then 0 else 1 + k) (suc n)
turn true any k n same = grind (arith, nat_tests)
turn false any k n same = same ∙ grind (arith, nat_tests)

-- a label is in the table exactly where its place is below the length
pub found_below : (table : List (List ℕ)) (label : List ℕ) → list_any (bytes_eq label) table ≡ nat_lt (label_index table label) (length table)
found_below [] label = refl
found_below (x ∷ xs) label =
    ap (λ (b : Bool). b || list_any (bytes_eq label) xs) (nat_list_eq_equiv.symm label x)
    ∙ turn (bytes_eq x label) (list_any (bytes_eq label) xs) (label_index xs label) (length xs) (found_below xs label)

-- ---- the number of a label is its place

abbrev pub or_else : Option ℕ → ℕ → ℕ
or_else None n = n
or_else (Some i) n = i

pub place_is : (label : List ℕ) (table : List (List ℕ)) → or_else (first_place label table) (length table) ≡ label_index table label
place_is label [] = refl
place_is label (x ∷ xs) = by (bytes_eq label x) (first_place label xs) (place_is label xs) ∙ ap (λ (b : Bool). if b then 0 else 1 + label_index xs label) (nat_list_eq_equiv.symm label x)
  where
    by : (b : Bool) (o : Option ℕ) → or_else o (length xs) ≡ label_index xs label → or_else (if b then Some 0 else option_map suc o) (suc (length xs)) ≡ (if b then 0 else 1 + label_index xs label)
    by true o h = refl
    by false None h = omega (arith, h)
    by false (Some i) h = omega (arith, h)

is_there : (label : List ℕ) (table : List (List ℕ)) → is_some (first_place label table) ≡ list_any (bytes_eq label) table
is_there label [] = refl
is_there label (x ∷ xs) = by (bytes_eq label x) (first_place label xs) (is_there label xs)
  where
    by : (b : Bool) (o : Option ℕ) → is_some o ≡ list_any (bytes_eq label) xs → is_some (if b then Some 0 else option_map suc o) ≡ (b || list_any (bytes_eq label) xs)
    by true o h = refl
    by false None h = h
    by false (Some i) h = h

-- a table keeps a label that it has, and takes one that it lacks
pub has_label : (label : List ℕ) (table : List (List ℕ)) → is_some (first_place label table) ≡ true → table ≡ with_label table label
has_label label table has = ap (λ (b : Bool). if b then table else table ++ label ∷ []) (sym has ∙ is_there label table ∙ found_below table label)

pub lacks_label : (label : List ℕ) (table : List (List ℕ)) → is_some (first_place label table) ≡ false → table ++ label ∷ [] ≡ with_label table label
lacks_label label table lacks = ap (λ (b : Bool). if b then table else table ++ label ∷ []) (sym lacks ∙ is_there label table ∙ found_below table label)

-- ---- one label more

abbrev either : Option ℕ → Option ℕ → Option ℕ
either None o = o
either (Some n) o = Some n

first_more : (x : List ℕ) (table : List (List ℕ)) (label : List ℕ) → first_place x (table ++ label ∷ []) ≡ either (first_place x table) (cond (bytes_eq x label) (Some (length table)) None)
first_more x [] label = refl
first_more x (y ∷ ys) label = by (bytes_eq x y) (first_place x ys) (bytes_eq x label) (first_more x ys label)
  where
    by : (b : Bool) (o : Option ℕ) (c : Bool) → first_place x (ys ++ label ∷ []) ≡ either o (cond c (Some (length ys)) None)
        → (if b then Some 0 else option_map suc (first_place x (ys ++ label ∷ []))) ≡ either (if b then Some 0 else option_map suc o) (cond c (Some (suc (length ys))) None)
    by true o c h = refl
    by false None true h = rw h refl
    by false None false h = rw h refl
    by false (Some n) c h = rw h refl

not_eq : (n g : ℕ) → n ≢ g → (n == g) ≡ false
not_eq n g other = by_test (n == g) refl
  where
    by_test : (b : Bool) → (n == g) ≡ b → b ≡ false
    by_test true e = absurd (other (eqb-true n g e))
    by_test false e = refl

module _ (label : List ℕ) where
  -- a number above all others is put last
  put_new : (rows : List (ℕ × List ℕ)) (n : ℕ) → AllByRecursion (λ (k : ℕ). k < n) (keys_of rows) → insert_entry ◌==◌ rows n label ≡ rows ++ (n, label) ∷ []
  put_new [] n below = refl
  put_new (e ∷ rows) n below = rw (not_eq n e.0 (λ same. omega (arith, same, below.0))) (ap (λ (es : List (ℕ × List ℕ)). e ∷ es) (put_new rows n below.1))

  values_last : (rows : List (ℕ × List ℕ)) (n : ℕ) → values_of (rows ++ (n, label) ∷ []) ≡ values_of rows ++ label ∷ []
  values_last [] n = refl
  values_last (e ∷ rows) n = ap (λ (vs : List (List ℕ)). e.1 ∷ vs) (values_last rows n)

  below_last : (rows : List (ℕ × List ℕ)) (n m : ℕ) → n < m → AllByRecursion (λ (k : ℕ). k < n) (keys_of rows) → AllByRecursion (λ (k : ℕ). k < m) (keys_of (rows ++ (n, label) ∷ []))
  below_last [] n m lt below = (lt, tt)
  below_last (e ∷ rows) n m lt below = (omega (arith, below.0, lt), below_last rows n m lt below.1)

pub as_many : (rows : List (ℕ × List ℕ)) → length (values_of rows) ≡ length rows
as_many [] = refl
as_many (e ∷ rows) = ap suc (as_many rows)

pub no_labels : (rows : List (ℕ × List ℕ)) (numbers : List (List ℕ × ℕ)) → rows ≡ [] → numbers ≡ [] → IsTable rows numbers
no_labels rows numbers p q = rw (p, q) (record { below = tt; places = λ label. refl })

module _ (rows : List (ℕ × List ℕ)) (numbers : List (List ℕ × ℕ)) (label : List ℕ) (table : IsTable rows numbers) where
  pub values_grow : (grown : List (ℕ × List ℕ)) (n : ℕ) → n ≡ length rows → grown ≡ insert_entry ◌==◌ rows n label → values_of grown ≡ values_of rows ++ label ∷ []
  values_grow grown n len is = ap values_of (is ∙ put_new label rows n (subst (λ (m : ℕ). AllByRecursion (λ (k : ℕ). k < m) (keys_of rows)) (sym len) table.below)) ∙ values_last label rows n

  pub table_grows : (grown : List (ℕ × List ℕ)) (new : List (List ℕ × ℕ)) (n : ℕ) → n ≡ length rows
      → grown ≡ insert_entry ◌==◌ rows n label → number_under label numbers ≡ None → Puts label (Some n) numbers new
      → IsTable grown new
  table_grows grown new n len is lacks put = record {
    below =
        let last = is ∙ put_new label rows n (subst (λ (m : ℕ). AllByRecursion (λ (k : ℕ). k < m) (keys_of rows)) (sym len) table.below) in
        let longer : n < length grown = omega (arith, len, length_push rows (n, label), ap length last) in
        subst (λ (es : List (ℕ × List ℕ)). AllByRecursion (λ (k : ℕ). k < length grown) (keys_of es)) (sym last)
        (below_last label rows n (length grown) longer (subst (λ (m : ℕ). AllByRecursion (λ (k : ℕ). k < m) (keys_of rows)) (sym len) table.below));
    places = λ x.
        put x ∙ ap (λ o. if bytes_eq x label then Some n else o) (table.places x) ∙ by x (first_place x (values_of rows)) refl (bytes_eq x label) refl
        ∙ sym (ap (first_place x) (values_grow grown n len is) ∙ first_more x (values_of rows) label);
  }
    where
      long : n ≡ length (values_of rows)
      long = len ∙ sym (as_many rows)

      by : (x : List ℕ) (o : Option ℕ) → first_place x (values_of rows) ≡ o → (c : Bool) → bytes_eq x label ≡ c → (if c then Some n else o) ≡ either o (cond c (Some (length (values_of rows))) None)
      by x None at true same = ap Some long
      by x None at false same = refl
      by x (Some i) at false same = refl
      by x (Some i) at true same =
          let there : None ≡ Some i = sym lacks ∙ ap (λ y. number_under y numbers) (sym ((bytes_decides x label).0 same)) ∙ table.places x ∙ at in
          cc
