-- The tables that a command is given: it can't be that they come to no end. Their cells are bytes.
use Rattle.std.proofs.Common.{◌≡◌, ◌⊎◌, inl, inr, ℕ, ◌+◌, ◌<◌, Bool, true, false, IsTrue, List, [], ◌∷◌, ◌++◌, length, take, drop, get_or, Option, Some, None, Result, Ok, Err, refl, sym, ap, subst}
use Rattle.std.proofs.Common.{◌∙◌, arith, take_at, length-append, take-append-drop, append_assoc}
use Rattle.std.proofs.lemmas.List.{drop_more, length-take-le}
use Rattle.std.specs.List.{AllByRecursion}
use Rattle.std.proofs.lemmas.List.Elements.{recursion_from_All}
use Rattle.nwq_outside.specs.Outside.{Contents, ContentsAreBytes}
use Rattle.nwq_text.specs.Lines.{lines_of}
use Rattle.table_2da.specs.declared.tables.Named.{Named}
use Rattle.table_2da.specs.Grammar.{GivesOf}
use Rattle.table_2da.specs.Table.{PlainTable}
use Rattle.command_work.specs.Work.{makes, file_named}
use Rattle.command_work.specs.Reading.{IsRead}
use Rattle.command_tables.specs.Lists.{may_follow, AreNames, ListFate, Whole, Faulty, IsListFate, whole, faulty, names_by, names_in, names_listed}
use Rattle.command_tables.specs.Tables.{TableFate, IsTableFate, table_by, table_in, table_in_file, table_file, with_table, one_more, all_behind, tables_listed, tables_given}
use Rattle.command_tables.specs.Tables as tables
use Rattle.nwq_top.proofs.Undeniable.{Undeniable, surely, by_it, with_it, either_way, Least, least_one}
use Rattle.nwq_top.proofs.Going.{Goes, Still, goes_both, file_goes}
use Rattle.nwq_top.proofs.TableFates.{table_comes}
use Rattle.nwq_top.proofs.TableCells.{HasByteCells, HaveByteCells, table_cells}

-- ---- a list of names

module _ (lines : List (List ℕ)) where
  -- the line of this number, from 0, may not follow those before it
  record IsBad (k : ℕ) : Type 0 where
    inside : k < length lines
    bad : may_follow (take k lines) (get_or lines k []) ≡ false

  -- what is said of a line among those before and behind it
  here : (before after : List (List ℕ)) (name : List ℕ) → lines ≡ before ++ name ∷ after
      → (length before < length lines) × (take (length before) lines ≡ before)
      × (get_or lines (length before) [] ≡ name)
  here before after name e = (
    omega (arith, ap length e, length-append before (name ∷ after)),
    ap (take (length before)) e ∙ take_at before (name ∷ after) (length before) refl,
    ap (λ ls. get_or ls (length before) []) e ∙ at_seam before,
  )
    where
      at_seam : (xs : List (List ℕ)) → get_or (xs ++ name ∷ after) (length xs) [] ≡ name
      at_seam [] = refl
      at_seam (x ∷ xs) = at_seam xs

  good : (before : List (List ℕ)) (name : List ℕ) (k : ℕ) → take k lines ≡ before → get_or lines k [] ≡ name → (may_follow (take k lines) (get_or lines k []) ≡ false → ⊥)
      → IsTrue (may_follow before name)
  good before name k e f fine = by_case (may_follow before name) refl
    where
      by_case : (b : Bool) → may_follow before name ≡ b → may_follow before name ≡ true
      by_case true h = h
      by_case false h = absurd (fine (subst (λ bs. may_follow bs (get_or lines k []) ≡ false) (sym e) (subst (λ n. may_follow before n ≡ false) (sym f) h)))

  all_names : ((k : ℕ) × IsBad k → ⊥) → AreNames lines
  all_names none before after name e =
      let h = here before after name e in
      good before name (length before) h.1 h.2 (λ bad. none (length before, record { inside = h.0; bad = bad }))

  first_bad : (l : Least IsBad) → AreNames (take l.number lines)
  first_bad l before after name e =
      let k = l.number in
      let whole : lines ≡ before ++ name ∷ (after ++ drop k lines) =
      sym (take-append-drop k lines) ∙ ap (λ xs. xs ++ drop k lines) e ∙ append_assoc before (name ∷ after) (drop k lines) in
      let h = here before (after ++ drop k lines) name whole in
      let less : length before < k =
      omega (arith, ap length e, length-append before (name ∷ after), length-take-le k lines (omega (arith, l.is.inside))) in
      good before name (length before) h.1 h.2 (λ bad. l.below (length before) less (record { inside = h.0; bad = bad }))

module _ (bytes : List ℕ) where
  abbrev Listed : Type 0
  Listed = (fate : ListFate) × IsListFate bytes fate

  bad_listed : Least (IsBad (lines_of bytes)) → Listed
  bad_listed l =
      let k = l.number in
      let ls = lines_of bytes in (
        Faulty (length (take k ls) + 1),
        faulty (length (take k ls) + 1) (record {
          before = take k ls;
          line = get_or ls k [];
          after = drop (k + 1) ls;
          lines = sym (take-append-drop k ls) ∙ ap (λ xs. take k ls ++ xs) (drop_more ls k [] l.is.inside);
          are = first_bad ls l;
          bad = l.is.bad;
          is = refl;
        }),
      )

  listed_by : ((k : ℕ) × IsBad (lines_of bytes) k) ⊎ ((k : ℕ) × IsBad (lines_of bytes) k → ⊥) → Undeniable Listed
  listed_by (inl bad) = with_it (least_one (IsBad (lines_of bytes)) bad.0 bad.1) bad_listed
  listed_by (inr none) = surely (Whole (lines_of bytes), whole (lines_of bytes) (record { lines = refl; are = all_names (lines_of bytes) none }))

  list_fated : Undeniable Listed
  list_fated = by_it (either_way ((k : ℕ) × IsBad (lines_of bytes) k)) listed_by

names_go : (list : List ℕ) (c : Contents) → Undeniable (Goes (names_listed list) c (λ names d. d ≡ c))
unfolding names_listed names_in
names_go list c =
    goes_both (file_named list) (names_in list) c (Still c (IsRead c list)) (λ names d. d ≡ c) (surely (file_goes list c))
    (λ bytes d is. with_it (list_fated bytes) (λ f. (f.0, f.1, by_fate f.0 d is.0)))
  where
    by_fate : (fate : ListFate) (d : Contents) → d ≡ c → Goes (names_by list fate) d (λ names e. e ≡ c)
    by_fate (Whole names) d same = same
    by_fate (Faulty number) d same = tt

-- ---- tables

table_fated : (bytes : List ℕ) → (r : Result PlainTable ℕ) → GivesOf bytes r → (fate : TableFate) × IsTableFate bytes fate
table_fated bytes (Ok table) h = (tables.Whole table, tables.whole table h)
table_fated bytes (Err line) h = (tables.Faulty line, tables.faulty line h)

read_bytes : (c : Contents) (file bytes : List ℕ) → ContentsAreBytes c → IsRead c file bytes → AllByRecursion (λ b. b < 256) bytes
unfolding ContentsAreBytes
read_bytes c file bytes held is = recursion_from_All (λ b. b < 256) bytes (held file bytes is.held)

cells_more : (before : List Named) (name : List ℕ) (table : PlainTable) → HaveByteCells before → HasByteCells table → HaveByteCells (with_table before name table)
cells_more [] name table all has = (has, tt)
cells_more (t ∷ before) name table all has = (all.0, cells_more before name table all.1 has)

module _ (c : Contents) (held : ContentsAreBytes c) where
  one_goes : (file : List ℕ) → Undeniable (Goes (table_in_file file) c (Still c HasByteCells))
  unfolding table_in_file table_in
  one_goes file =
      goes_both (file_named file) (table_in file) c (Still c (IsRead c file)) (Still c HasByteCells) (surely (file_goes file c))
      (λ bytes d is. with_it (table_comes bytes) (λ k. let f = table_fated bytes k.0 k.1 in (f.0, f.1, by_fate bytes (read_bytes c file bytes held is.1) f.0 f.1 d is.0)))
    where
      by_fate : (bytes : List ℕ) → AllByRecursion (λ b. b < 256) bytes → (fate : TableFate) → IsTableFate bytes fate → (d : Contents) → d ≡ c
          → Goes (table_by file fate) d (Still c HasByteCells)
      by_fate bytes are (tables.Whole table) (tables.whole _ has) d same = (same, table_cells bytes table are has)
      by_fate bytes are (tables.Faulty line) h d same = tt

  -- one more is read, whatever tables are there by now
  more_goes : (before : List Named) (name : List ℕ) (d : Contents) → d ≡ c → HaveByteCells before → Undeniable (Goes (one_more before name) d (Still c HaveByteCells))
  unfolding one_more
  more_goes before name d same all =
      subst (λ x. Undeniable (Goes (one_more before name) x (Still c HaveByteCells))) (sym same)
      (goes_both (table_in_file (table_file name)) (λ table. makes (with_table before name table)) c (Still c HasByteCells) (Still c HaveByteCells) (one_goes (table_file name))
      (λ table e is. surely (with_table before name table, refl, (is.0, cells_more before name table all is.1))))

  all_go : (names : List (List ℕ)) (before : List Named) (d : Contents) → d ≡ c → HaveByteCells before → Undeniable (Goes (all_behind before names) d (Still c HaveByteCells))
  unfolding all_behind
  all_go [] before d same all = surely (same, all)
  all_go (name ∷ names) before d same all =
      goes_both (one_more before name) (λ more. all_behind more names) d (Still c HaveByteCells) (Still c HaveByteCells) (more_goes before name d same all)
      (λ more e is. all_go names more e is.0 is.1)

  pub given_go : (list : Option (List ℕ)) → Undeniable (Goes (tables_given list) c (Still c HaveByteCells))
  unfolding tables_listed
  given_go None = surely (refl, tt)
  given_go (Some list) =
      goes_both (names_listed list) (all_behind []) c (λ names d. d ≡ c) (Still c HaveByteCells) (names_go list c) (λ names d is. all_go names [] d is tt)
