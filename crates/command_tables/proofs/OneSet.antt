-- One set of tables comes of a list.
use Rattle.std.proofs.Common.{◌≡◌, ℕ, suc, ◌+◌, ◌⊎◌, inl, inr, false, true≢false, List, [], ◌∷◌, ◌++◌, length, None, Some, refl, sym, ap, ◌∙◌}
use Rattle.table_2da.specs.Grammar.{OneTable}
use Rattle.table_2da.specs.declared.tables.Named.{Named}
use Rattle.command_work.specs.Work.{makes, file_named}
use Rattle.command_work.specs.Outcomes.{IsSure, sure_then, sure_file, sure_makes}
use Rattle.command_tables.specs.Lists as list
use Rattle.command_tables.specs.Lists.{may_follow, AreNames, HasNames, HasBadLine, ListFate, IsListFate, names_by, names_in, names_listed}
use Rattle.command_tables.specs.Tables as table
use Rattle.command_tables.specs.Tables.{TableFate, IsTableFate, table_by, table_in, table_in_file, table_file, with_table, one_more, all_behind, tables_listed}
use Rattle.command_tables.specs.Laws.{SureTables}

-- ---- one bad line

heads_same : (x y : List ℕ) (xs ys : List (List ℕ)) → x ∷ xs ≡ y ∷ ys → x ≡ y
heads_same x y xs ys e = cc

tails_same : (x y : List ℕ) (xs ys : List (List ℕ)) → x ∷ xs ≡ y ∷ ys → xs ≡ ys
tails_same x y xs ys e = cc

-- Of a list that is parted at two lines: they are the same, or one lies in the part before the
-- other.
abbrev PartedTwice : List (List ℕ) → List ℕ → List (List ℕ) → List ℕ → Type 0
PartedTwice before line other next =
    (length before ≡ length other)
    ⊎ (((more : List (List ℕ)) × (other ≡ before ++ line ∷ more)) ⊎ ((more : List (List ℕ)) × (before ≡ other ++ next ∷ more)))

parted_more : (b o : List ℕ) (before other : List (List ℕ)) (line next : List ℕ) → b ≡ o → PartedTwice before line other next
    → PartedTwice (b ∷ before) line (o ∷ other) next
parted_more b o before other line next same (inl p) = inl (ap (λ n. suc n) p)
parted_more b o before other line next same (inr (inl p)) = inr (inl (p.0, ap (λ x. x ∷ other) (sym same) ∙ ap (λ xs. b ∷ xs) p.1))
parted_more b o before other line next same (inr (inr p)) = inr (inr (p.0, ap (λ x. x ∷ before) same ∙ ap (λ xs. o ∷ xs) p.1))

parted_twice : (before after other rest : List (List ℕ)) (line next : List ℕ) → before ++ line ∷ after ≡ other ++ next ∷ rest
    → PartedTwice before line other next
parted_twice [] after [] rest line next e = inl refl
parted_twice [] after (o ∷ other) rest line next e = inr (inl (other, ap (λ x. x ∷ other) (sym (heads_same line o after (other ++ next ∷ rest) e))))
parted_twice (b ∷ before) after [] rest line next e = inr (inr (before, ap (λ x. x ∷ before) (heads_same b next (before ++ line ∷ after) rest e)))
parted_twice (b ∷ before) after (o ∷ other) rest line next e =
    parted_more b o before other line next (heads_same b o (before ++ line ∷ after) (other ++ next ∷ rest) e)
    (parted_twice before after other rest line next (tails_same b o (before ++ line ∷ after) (other ++ next ∷ rest) e))

same_number : (before other : List (List ℕ)) (line next : List ℕ) → AreNames before → AreNames other → may_follow before line ≡ false
    → may_follow other next ≡ false → PartedTwice before line other next → length before ≡ length other
same_number before other line next are also bad wrong (inl p) = p
same_number before other line next are also bad wrong (inr (inl p)) = absurd (true≢false (sym (also before p.0 line p.1) ∙ bad))
same_number before other line next are also bad wrong (inr (inr p)) = absurd (true≢false (sym (are other p.0 next p.1) ∙ wrong))

module _ (bytes : List ℕ) where
  one_bad : (n m : ℕ) → HasBadLine bytes n → HasBadLine bytes m → n ≡ m
  one_bad n m x y =
      let parts : PartedTwice x.before x.line y.before y.line =
      parted_twice x.before x.after y.before y.after x.line y.line
      (sym x.lines ∙ y.lines)
      in x.is ∙ (ap (λ k. k + 1) (same_number x.before y.before x.line y.line x.are y.are x.bad y.bad parts) ∙ sym y.is)

  not_both : (names : List (List ℕ)) (n : ℕ) → HasNames bytes names → HasBadLine bytes n → ⊥
  not_both names n x y =
      let same : names ≡ y.before ++ y.line ∷ y.after = sym x.lines ∙ y.lines
      in true≢false (sym (x.are y.before y.after y.line same) ∙ y.bad)

  one_list : {a b : ListFate} → IsListFate bytes a → IsListFate bytes b → a ≡ b
  one_list (list.whole x h) (list.whole y k) = ap list.Whole (sym h.lines ∙ k.lines)
  one_list (list.whole x h) (list.faulty n k) = absurd (not_both x n h k)
  one_list (list.faulty n h) (list.whole y k) = absurd (not_both y n k h)
  one_list (list.faulty n h) (list.faulty m k) = ap list.Faulty (one_bad n m h k)

module _ (one : OneTable) (bytes : List ℕ) where
  one_table : {a b : TableFate} → IsTableFate bytes a → IsTableFate bytes b → a ≡ b
  one_table (table.whole x h) (table.whole y k) = ap table.Whole (one.one_table bytes x y h k)
  one_table (table.whole x h) (table.faulty n k) = absurd (one.not_both bytes x n h k)
  one_table (table.faulty n h) (table.whole y k) = absurd (one.not_both bytes y n k h)
  one_table (table.faulty n h) (table.faulty m k) = ap table.Faulty (one.one_fault bytes n m h k)

-- ---- each part has one outcome

sure_names_by : (name : List ℕ) (fate : ListFate) → IsSure (names_by name fate)
sure_names_by name (list.Whole names) = tt
sure_names_by name (list.Faulty n) = tt

sure_table_by : (file : List ℕ) (fate : TableFate) → IsSure (table_by file fate)
sure_table_by file (table.Whole t) = tt
sure_table_by file (table.Faulty n) = tt

sure_names_in : (name bytes : List ℕ) → IsSure (names_in name bytes)
unfolding names_in
sure_names_in name bytes = (λ c a b p q. one_list bytes p q, sure_names_by name)

sure_names : (name : List ℕ) → IsSure (names_listed name)
unfolding names_listed
sure_names name = sure_then (file_named name) (names_in name) (sure_file name) (sure_names_in name)

module _ (one : OneTable) where
  sure_table_in : (file bytes : List ℕ) → IsSure (table_in file bytes)
  unfolding table_in
  sure_table_in file bytes = (λ c a b p q. one_table one bytes p q, sure_table_by file)

  sure_table : (file : List ℕ) → IsSure (table_in_file file)
  unfolding table_in_file
  sure_table file = sure_then (file_named file) (table_in file) (sure_file file) (sure_table_in file)

  sure_more : (tables : List Named) (name : List ℕ) → IsSure (one_more tables name)
  unfolding one_more
  sure_more tables name = sure_then (table_in_file (table_file name)) (λ t. makes (with_table tables name t)) (sure_table (table_file name))
      (λ t. sure_makes (with_table tables name t))

  sure_all : (names : List (List ℕ)) (tables : List Named) → IsSure (all_behind tables names)
  unfolding all_behind
  sure_all [] tables = tt
  sure_all (name ∷ names) tables =
      sure_then (one_more tables name) (λ more. all_behind more names) (sure_more tables name) (λ more. sure_all names more)

module _ (one : OneTable) where
  sure_listed : (name : List ℕ) → IsSure (tables_listed name)
  unfolding tables_listed
  sure_listed name = sure_then (names_listed name) (all_behind []) (sure_names name) (λ names. sure_all one names [])

  pub sure_tables : SureTables
  sure_tables None = tt
  sure_tables (Some name) = sure_listed name
