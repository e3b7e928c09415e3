-- The work that reads tables, and the tables that are there.
use Rattle.std.proofs.Common.{◌≡◌, inl, inr, ℕ, List, [], ◌∷◌, ◌++◌, Option, Some, None, Result, Ok, Err, sym, refl, subst, ap, ◌∙◌, append_assoc}
use Rattle.std.proofs.lemmas.List.{append-nil}
use Rattle.nwq_outside.specs.Outside.{Contents}
use Rattle.table_2da.specs.declared.tables.Named.{Named}
use Rattle.table_2da.specs.Table.{PlainTable}
use Rattle.command_work.specs.declared.flaw.AreaFlaw.TheVariants as flaw
use Rattle.command_work.specs.declared.status.Status.{Status}
use Rattle.command_work.specs.Refusal.{Refusal, BadArea, line_of, status_of}
use Rattle.command_work.specs.Work.{Gives, makes, Does, file_named}
use Rattle.command_work.specs.Parts.{then_ok, then_err, makes_does}
use Rattle.command_work.specs.Reading.{IsRead, IsUnread}
use Rattle.command_work.specs.Comes.{Came, gave, stopped, cut, gives_does, refused_does, given_comes, made_comes, refusal_comes, then_comes, read_does, unread_does, file_comes}
use Rattle.command_tables.specs.Lists as lists
use Rattle.command_tables.specs.Lists.{names_in, names_listed}
use Rattle.command_tables.specs.Tables as tables_of
use Rattle.command_tables.specs.Tables.{table_file, table_in, table_in_file, with_table, one_more, all_behind, tables_listed, tables_given}
use Rattle.nwq_top.specs.GivenTables as given
use Rattle.nwq_top.specs.GivenTables.{ReadsList, RefusesList, ReadsTable, RefusesTable, HasTables, RefusesTables, GivesTables, RefusesGiven}

-- ---- the list

module _ (c : Contents) (t : List ℕ) (list : List ℕ) where
  list_does : (names : List (List ℕ)) → ReadsList c list names → Does (names_listed list) c t (Ok names) c t
  unfolding names_listed names_in
  list_does names h =
      then_ok (file_named list) (names_in list) h.bytes c c c t t t (Ok names) (read_does c t list h.bytes h.read)
      (inr (record { found = lists.Whole names; is = lists.whole names h.has; goes = gives_does names c t }))

  list_refuses : (why : Refusal) → RefusesList c list why → Does (names_listed list) c t (Err (status_of why)) c (t ++ line_of why)
  unfolding names_listed names_in
  list_refuses why (given.unread _ is) = then_err (file_named list) (names_in list) (status_of why) c c t (t ++ line_of why) (unread_does c t list why is)
  list_refuses why (given.faulty bytes read number is) =
      then_ok (file_named list) (names_in list) bytes c c c t t (t ++ line_of why) (Err (status_of why)) (read_does c t list bytes read)
      (inr (record { found = lists.Faulty number; is = lists.faulty number is; goes = refused_does (BadArea list (flaw.Line number)) c t }))

  module _ (r : Result (List (List ℕ)) Status) (c' : Contents) (t' : List ℕ) where
    abbrev ListComes : Type 0
    ListComes = Came (ReadsList c list) (RefusesList c list) c t r c' t'

    names_by : (bytes : List ℕ) → IsRead c list bytes → (fate : lists.ListFate) → lists.IsListFate bytes fate → Does (lists.names_by list fate) c t r c' t' → ListComes
    names_by bytes read (lists.Whole names) (lists.whole _ has) does =
        given_comes (ReadsList c list) (RefusesList c list) c t r c' t' names (record { bytes = bytes; read = read; has = has }) does
    names_by bytes read (lists.Faulty number) (lists.faulty _ is) does =
        refusal_comes (ReadsList c list) (RefusesList c list) c t r c' t' (BadArea list (flaw.Line number)) (given.faulty bytes read number is) does

    names_come : (bytes : List ℕ) → IsRead c list bytes → Does (names_in list bytes) c t r c' t' → ListComes
    unfolding names_in
    names_come bytes read (inl x) = cut x.0
    names_come bytes read (inr h) = names_by bytes read h.found h.is h.goes

    list_comes : Does (names_listed list) c t r c' t' → ListComes
    unfolding names_listed
    list_comes does =
        then_comes (file_named list) (names_in list) (IsRead c list) (IsUnread c list) (ReadsList c list) (RefusesList c list) c t r c' t'
        (file_comes c t list) names_come given.unread does

-- ---- one table

-- the table of this name stands behind these
record IsMore (c : Contents) (before : List Named) (name : List ℕ) (all : List Named) : Type 0 where
  table : PlainTable
  reads : ReadsTable c name table
  are : all ≡ with_table before name table

module _ (c : Contents) (t : List ℕ) (name : List ℕ) where
  table_does : (table : PlainTable) → ReadsTable c name table → Does (table_in_file (table_file name)) c t (Ok table) c t
  unfolding table_in_file table_in
  table_does table h =
      then_ok (file_named (table_file name)) (table_in (table_file name)) h.bytes c c c t t t (Ok table) (read_does c t (table_file name) h.bytes h.read)
      (inr (record { found = tables_of.Whole table; is = tables_of.whole table h.has; goes = gives_does table c t }))

  table_refuses : (why : Refusal) → RefusesTable c name why → Does (table_in_file (table_file name)) c t (Err (status_of why)) c (t ++ line_of why)
  unfolding table_in_file table_in
  table_refuses why (given.unread _ is) =
      then_err (file_named (table_file name)) (table_in (table_file name)) (status_of why) c c t (t ++ line_of why) (unread_does c t (table_file name) why is)
  table_refuses why (given.faulty bytes read number is) =
      then_ok (file_named (table_file name)) (table_in (table_file name)) bytes c c c t t (t ++ line_of why) (Err (status_of why))
      (read_does c t (table_file name) bytes read)
      (inr (record { found = tables_of.Faulty number; is = tables_of.faulty number is; goes = refused_does (BadArea (table_file name) (flaw.Line number)) c t }))

  module _ (r : Result PlainTable Status) (c' : Contents) (t' : List ℕ) where
    abbrev TableComes : Type 0
    TableComes = Came (ReadsTable c name) (RefusesTable c name) c t r c' t'

    table_by : (bytes : List ℕ) → IsRead c (table_file name) bytes → (fate : tables_of.TableFate) → tables_of.IsTableFate bytes fate
        → Does (tables_of.table_by (table_file name) fate) c t r c' t' → TableComes
    table_by bytes read (tables_of.Whole table) (tables_of.whole _ has) does =
        given_comes (ReadsTable c name) (RefusesTable c name) c t r c' t' table (record { bytes = bytes; read = read; has = has }) does
    table_by bytes read (tables_of.Faulty number) (tables_of.faulty _ is) does =
        refusal_comes (ReadsTable c name) (RefusesTable c name) c t r c' t' (BadArea (table_file name) (flaw.Line number)) (given.faulty bytes read number is) does

    table_in_comes : (bytes : List ℕ) → IsRead c (table_file name) bytes → Does (table_in (table_file name) bytes) c t r c' t' → TableComes
    unfolding table_in
    table_in_comes bytes read (inl x) = cut x.0
    table_in_comes bytes read (inr h) = table_by bytes read h.found h.is h.goes

    table_comes : Does (table_in_file (table_file name)) c t r c' t' → TableComes
    unfolding table_in_file
    table_comes does =
        then_comes (file_named (table_file name)) (table_in (table_file name)) (IsRead c (table_file name)) (IsUnread c (table_file name)) (ReadsTable c name)
        (RefusesTable c name) c t r c' t' (file_comes c t (table_file name)) table_in_comes given.unread does

  -- behind these
  module _ (before : List Named) where
    more_does : (table : PlainTable) → ReadsTable c name table → Does (one_more before name) c t (Ok (with_table before name table)) c t
    unfolding one_more
    more_does table h =
        then_ok (table_in_file (table_file name)) (λ x. makes (with_table before name x)) table c c c t t t (Ok (with_table before name table)) (table_does table h)
        (makes_does (with_table before name table) (with_table before name table) c c t t refl refl refl)

    more_refuses : (why : Refusal) → RefusesTable c name why → Does (one_more before name) c t (Err (status_of why)) c (t ++ line_of why)
    unfolding one_more
    more_refuses why is =
        then_err (table_in_file (table_file name)) (λ x. makes (with_table before name x)) (status_of why) c c t (t ++ line_of why) (table_refuses why is)

    more_comes : (r : Result (List Named) Status) (c' : Contents) (t' : List ℕ) → Does (one_more before name) c t r c' t'
        → Came (IsMore c before name) (RefusesTable c name) c t r c' t'
    unfolding one_more
    more_comes r c' t' does =
        then_comes (table_in_file (table_file name)) (λ x. makes (with_table before name x)) (ReadsTable c name) (RefusesTable c name) (IsMore c before name)
        (RefusesTable c name) c t r c' t' table_comes
        (λ x h next. made_comes (IsMore c before name) (RefusesTable c name) c t r c' t' (with_table before name x) (record { table = x; reads = h; are = refl }) next)
        (λ why is. is) does

-- ---- tables in order

abbrev named : List ℕ → PlainTable → Named
named name table = record { name = name; table = table }

tables_do : (c : Contents) (t : List ℕ) (names : List (List ℕ)) (before tables : List Named) → HasTables c names tables
    → Does (all_behind before names) c t (Ok (before ++ tables)) c t
unfolding all_behind
tables_do c t names before tables given.none =
    subst (λ (xs : List Named). Does (Gives before) c t (Ok xs) c t) (sym (append-nil before)) (gives_does before c t)
tables_do c t names before tables (given.more name rest table others h hs) =
    then_ok (one_more before name) (λ more. all_behind more rest) (with_table before name table) c c c t t t (Ok (before ++ named name table ∷ others))
    (more_does c t name before table h)
    (subst (λ (xs : List Named). Does (all_behind (with_table before name table) rest) c t (Ok xs) c t) (append_assoc before (named name table ∷ []) others)
    (tables_do c t rest (with_table before name table) others hs))

tables_refuse : (c : Contents) (t : List ℕ) (names : List (List ℕ)) (why : Refusal) (before : List Named) → RefusesTables c names why
    → Does (all_behind before names) c t (Err (status_of why)) c (t ++ line_of why)
unfolding all_behind
tables_refuse c t names why before (given.here name rest _ is) =
    then_err (one_more before name) (λ more. all_behind more rest) (status_of why) c c t (t ++ line_of why) (more_refuses c t name before why is)
tables_refuse c t names why before (given.later name rest table _ h hs) =
    then_ok (one_more before name) (λ more. all_behind more rest) (with_table before name table) c c c t t (t ++ line_of why) (Err (status_of why))
    (more_does c t name before table h) (tables_refuse c t rest why (with_table before name table) hs)

-- the tables of these names stand behind these
record AreBehind (c : Contents) (before : List Named) (names : List (List ℕ)) (all : List Named) : Type 0 where
  tables : List Named
  has : HasTables c names tables
  are : all ≡ before ++ tables

module _ (c : Contents) (t : List ℕ) (r : Result (List Named) Status) (c' : Contents) (t' : List ℕ) where
  rest_comes : (before : List Named) (name : List ℕ) (names : List (List ℕ)) (more : List Named) → IsMore c before name more
      → Came (AreBehind c more names) (RefusesTables c names) c t r c' t' → Came (AreBehind c before (name ∷ names)) (RefusesTables c (name ∷ names)) c t r c' t'
  rest_comes before name names more h (gave all k is p q) =
      gave all (record {
        tables = named name h.table ∷ k.tables;
        has = given.more name names h.table k.tables h.reads k.has;
        are = k.are ∙ (ap (λ (xs : List Named). xs ++ k.tables) h.are ∙ append_assoc before (named name h.table ∷ []) k.tables);
      }) is p q
  rest_comes before name names more h (stopped why refuses is p q) = stopped why (given.later name names h.table why h.reads refuses) is p q
  rest_comes before name names more h (cut x) = cut x

  tables_come : (names : List (List ℕ)) (before : List Named) → Does (all_behind before names) c t r c' t'
      → Came (AreBehind c before names) (RefusesTables c names) c t r c' t'
  unfolding all_behind
  tables_come [] before does =
      given_comes (AreBehind c before []) (RefusesTables c []) c t r c' t' before (record { tables = []; has = given.none; are = sym (append-nil before) }) does
  tables_come (name ∷ names) before does =
      then_comes (one_more before name) (λ more. all_behind more names) (IsMore c before name) (RefusesTable c name) (AreBehind c before (name ∷ names))
      (RefusesTables c (name ∷ names)) c t r c' t' (more_comes c t name before)
      (λ more h next. rest_comes before name names more h (tables_come names more next)) (λ why is. given.here name names why is) does

-- ---- the tables that words give

pub given_do : (c : Contents) (t : List ℕ) (list : Option (List ℕ)) (tables : List Named) → GivesTables c list tables → Does (tables_given list) c t (Ok tables) c t
unfolding tables_listed
given_do c t list tables given.none = gives_does {A = List Named} [] c t
given_do c t list tables (given.listed name names _ h hs) =
    then_ok (names_listed name) (all_behind []) names c c c t t t (Ok tables) (list_does c t name names h) (tables_do c t names [] tables hs)

pub given_refuse : (c : Contents) (t : List ℕ) (list : Option (List ℕ)) (why : Refusal) → RefusesGiven c list why
    → Does (tables_given list) c t (Err (status_of why)) c (t ++ line_of why)
unfolding tables_listed
given_refuse c t list why (given.of_list name _ is) =
    then_err (names_listed name) (all_behind []) (status_of why) c c t (t ++ line_of why) (list_refuses c t name why is)
given_refuse c t list why (given.of_table name names _ h hs) =
    then_ok (names_listed name) (all_behind []) names c c c t t (t ++ line_of why) (Err (status_of why)) (list_does c t name names h)
    (tables_refuse c t names why [] hs)

module _ (c : Contents) (t : List ℕ) (r : Result (List Named) Status) (c' : Contents) (t' : List ℕ) where
  listed_come : (name : List ℕ) (names : List (List ℕ)) → ReadsList c name names → Came (AreBehind c [] names) (RefusesTables c names) c t r c' t'
      → Came (GivesTables c (Some name)) (RefusesGiven c (Some name)) c t r c' t'
  listed_come name names h (gave all k is p q) =
      gave all (subst (GivesTables c (Some name)) (sym k.are) (given.listed name names k.tables h k.has)) is p q
  listed_come name names h (stopped why refuses is p q) = stopped why (given.of_table name names why h refuses) is p q
  listed_come name names h (cut x) = cut x

  pub given_come : (list : Option (List ℕ)) → Does (tables_given list) c t r c' t' → Came (GivesTables c list) (RefusesGiven c list) c t r c' t'
  unfolding tables_listed
  given_come None does = given_comes (GivesTables c None) (RefusesGiven c None) c t r c' t' [] given.none does
  given_come (Some name) does =
      then_comes (names_listed name) (all_behind []) (ReadsList c name) (RefusesList c name) (GivesTables c (Some name)) (RefusesGiven c (Some name)) c t r c' t'
      (list_comes c t name) (λ names h next. listed_come name names h (tables_come c t r c' t' names [] next)) (λ why is. given.of_list name why is) does
