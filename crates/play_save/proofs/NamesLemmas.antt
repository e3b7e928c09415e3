-- Names of scripts, and counts, tested one by one.
use Rattle.std.proofs.Common.{◌≡◌, ◌<◌, ◌≤◌, ℕ, zero, suc, ◌+◌, ◌-◌, List, [], ◌∷◌, length, take, drop, get_or, map, sym, ap, refl, ◌∙◌, subst, arith}
use Rattle.std.specs.Prelude.{Bool, true, false, not, nat_lt, ◌↔◌, IsTrue}
use Rattle.std.specs.List.{AllByRecursion, IsDistinct, list_all}
use Rattle.std.specs.Str.{bytes_eq}
use Rattle.std.proofs.lemmas.Bool.Decides.{nat_tests}
use Rattle.nwq_text.specs.Names.{is_script_name}
use Rattle.state_format.specs.declared.parts.Entry.{Entry}
use Rattle.state_format.specs.declared.parts.Script.{Script}
use Rattle.state_parts.specs.KeepingLemmas.{drop_at}
use Rattle.play_save.specs.Rules.{AreNamed, count_limit}
use Rattle.play_save.proofs.Lists.{tests_all, rest_whole}

-- ---- counts

below_is : (n : ℕ) → IsTrue (nat_lt n count_limit) ↔ (n < count_limit)
below_is n = ((λ t. grind (arith, nat_tests, t)), (λ h. grind (arith, nat_tests, h)))

pub soon_all : (es : List Entry) (b : Bool) → b ≡ list_all (λ (e : Entry). nat_lt e.due count_limit) es → IsTrue b ↔ AllByRecursion (λ (e : Entry). e.due < count_limit) es
soon_all es b is =
    subst (λ x. IsTrue x ↔ AllByRecursion (λ (e : Entry). e.due < count_limit) es) (sym is)
    (tests_all (λ (e : Entry). nat_lt e.due count_limit) (λ (e : Entry). e.due < count_limit) es (λ e. below_is e.due))

-- ---- names

not_false : (b : Bool) → IsTrue (not b) ↔ (b ≡ false)
not_false true = ((λ t. absurd cc), (λ e. absurd cc))
not_false false = ((λ t. refl), (λ e. refl))

all_names : (P : List ℕ → Type 0) (xs : List Script) → AllByRecursion (λ (x : Script). P x.name) xs ↔ AllByRecursion P (map (λ (x : Script). x.name) xs)
all_names P [] = ((λ t. tt), (λ t. tt))
all_names P (x ∷ xs) = ((λ all. (all.0, (all_names P xs).0 all.1)), (λ all. (all.0, (all_names P xs).1 all.1)))

-- a name is none of theirs
new_is : (n : List ℕ) (xs : List Script) → IsTrue (list_all (λ (x : Script). not (bytes_eq n x.name)) xs) ↔ AllByRecursion (λ (m : List ℕ). bytes_eq n m ≡ false) (map (λ (x : Script). x.name) xs)
new_is n xs =
    let tests = tests_all (λ (x : Script). not (bytes_eq n x.name)) (λ (x : Script). bytes_eq n x.name ≡ false) xs (λ x. not_false (bytes_eq n x.name)) in
    let names = all_names (λ (m : List ℕ). bytes_eq n m ≡ false) xs in
    ((λ t. names.0 (tests.0 t)), (λ all. tests.1 (names.1 all)))

pub named_none : (n : ℕ) (xs : List Script) → length xs ≤ n → AreNamed (drop n xs)
unfolding IsDistinct
named_none zero [] h = record { names = tt; distinct = tt }
named_none (suc n) [] h = record { names = tt; distinct = tt }
named_none zero (x ∷ xs) h = absurd (omega arith)
named_none (suc n) (x ∷ xs) h = named_none n xs (omega arith)

named_more : (x : Script) (xs : List Script) → IsTrue (is_script_name x.name) → IsTrue (list_all (λ (y : Script). not (bytes_eq x.name y.name)) xs) → AreNamed xs → AreNamed (x ∷ xs)
unfolding IsDistinct
named_more x xs is new rest = record { names = (is, rest.names); distinct = ((new_is x.name xs).0 new, rest.distinct) }

named_tail : (x : Script) (xs : List Script) → AreNamed (x ∷ xs) → AreNamed xs
unfolding IsDistinct
named_tail x xs all = record { names = all.names.1; distinct = all.distinct.1 }

named_drop : (xs : List Script) (i : ℕ) → AreNamed xs → AreNamed (drop i xs)
named_drop xs zero all = all
named_drop [] (suc i) all = all
named_drop (x ∷ xs) (suc i) all = named_drop xs i (named_tail x xs all)

named_new : (x : Script) (xs : List Script) → AreNamed (x ∷ xs) → IsTrue (list_all (λ (y : Script). not (bytes_eq x.name y.name)) xs)
unfolding IsDistinct
named_new x xs all = (new_is x.name xs).1 all.distinct.0

named_step : (xs : List Script) (i k : ℕ) (x : Script) → IsTrue (is_script_name x.name) → IsTrue (list_all (λ (y : Script). not (bytes_eq x.name y.name)) (drop (i + 1) xs))
    → AreNamed (drop k xs) → k ≡ i + 1 → i < length xs → x ≡ get_or xs i x → AreNamed (drop i xs)
named_step xs i k x is new rest same h at =
    subst AreNamed (sym (drop_at xs i x h at)) (named_more x (drop (i + 1) xs) is new (subst (λ n. AreNamed (drop n xs)) same rest))

-- what each of them has
record IsNamed (x : Script) (rest : List Script) : Type 0 where
  pub name : IsTrue (is_script_name x.name)
  pub new : IsTrue (list_all (λ (y : Script). not (bytes_eq x.name y.name)) rest)

named_at : (xs : List Script) (i : ℕ) (x : Script) → AreNamed xs → i < length xs → x ≡ get_or xs i x → IsNamed x (drop (i + 1) xs)
named_at xs i x all h at =
    let here : AreNamed (x ∷ drop (i + 1) xs) = subst AreNamed (drop_at xs i x h at) (named_drop xs i all) in
    record { name = here.names.0; new = named_new x (drop (i + 1) xs) here }

-- what was tested of one name: whether it is one, and whether it is new
pub record IsTested (xs : List Script) (i : ℕ) (x : Script) (n : List ℕ) (named fresh : Bool) : Type 0 where
  pub name : n ≡ x.name
  pub is : named ≡ is_script_name n
  pub new : fresh ≡ list_all (λ (y : Script). not (bytes_eq n y.name)) (take (length xs - (i + 1)) (drop (i + 1) xs))
  pub inside : i < length xs
  pub at : x ≡ get_or xs i x

tested_new : (xs : List Script) (i : ℕ) (x : Script) (n : List ℕ) (is new : Bool) → IsTested xs i x n is new → new ≡ list_all (λ (y : Script). not (bytes_eq n y.name)) (drop (i + 1) xs)
tested_new xs i x n is new t = t.new ∙ ap (λ (l : List Script). list_all (λ (y : Script). not (bytes_eq n y.name)) l) (rest_whole (i + 1) xs)

-- one name more, before those that were tested
pub tested_more : (xs : List Script) (i k : ℕ) (x : Script) (n : List ℕ) (is new : Bool) → IsTested xs i x n is new → IsTrue is → IsTrue new → AreNamed (drop k xs) → k ≡ i + 1
    → AreNamed (drop i xs)
tested_more xs i k x n is new t named fresh rest same =
    named_step xs i k x (subst (λ (m : List ℕ). IsTrue (is_script_name m)) t.name (subst (λ (b : Bool). IsTrue b) t.is named))
    (subst (λ (m : List ℕ). IsTrue (list_all (λ (y : Script). not (bytes_eq m y.name)) (drop (i + 1) xs))) t.name
    (subst (λ (b : Bool). IsTrue b) (tested_new xs i x n is new t) fresh)) rest same t.inside t.at

never_true : (b : Bool) → b ≡ false → IsTrue b → ⊥
never_true true e t = absurd cc
never_true false e t = absurd cc

pub tested_none : (xs : List Script) (i : ℕ) (x : Script) (n : List ℕ) (is new : Bool) → IsTested xs i x n is new → is ≡ false → IsTrue false ↔ AreNamed xs
tested_none xs i x n is new t none = (
  (λ f. absurd (never_true false refl f)),
  (λ all. absurd (never_true is none (subst (λ (b : Bool). IsTrue b) (sym t.is) (subst (λ (m : List ℕ). IsTrue (is_script_name m)) (sym t.name) (named_at xs i x all t.inside t.at).name)))),
)

pub tested_old : (xs : List Script) (i : ℕ) (x : Script) (n : List ℕ) (is new : Bool) → IsTested xs i x n is new → new ≡ false → IsTrue false ↔ AreNamed xs
tested_old xs i x n is new t none = (
  (λ f. absurd (never_true false refl f)),
  (λ all. absurd (never_true new none (subst (λ (b : Bool). IsTrue b) (sym (tested_new xs i x n is new t))
      (subst (λ (m : List ℕ). IsTrue (list_all (λ (y : Script). not (bytes_eq m y.name)) (drop (i + 1) xs))) (sym t.name) (named_at xs i x all t.inside t.at).new)))),
)
