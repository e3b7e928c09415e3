-- Headers that are read.
use Rattle.std.proofs.Common.{◌≡◌, inl, inr, Bool, true, false, ℕ, List, ◌++◌, Result, Ok, Err, codes, bytes_eq, refl}
use Rattle.nwq_value.specs.Engine.{EngineTable, IsTable}
use Rattle.nwq_value.specs.HeaderTable.{header_table}
use Rattle.nwq_text.specs.Line.{line_number}
use Rattle.nwq_outside.specs.Outside.{Contents, ContentsAreBytes}
use Rattle.engine_table.specs.KeptTables.{HeadersHaveTables, BuiltInIsTable}
use Rattle.command_work.specs.declared.status.Status.{Status}
use Rattle.command_work.specs.Refusal.{Refusal, At, line_of, status_of}
use Rattle.command_work.specs.Work.{Gives, then, Does, file_named}
use Rattle.command_work.specs.Parts.{then_ok, then_err, makes_does}
use Rattle.command_work.specs.Reading.{IsRead, IsUnread}
use Rattle.command_work.specs.Comes.{Came, cut, gives_does, refused_does, given_comes, made_comes, refusal_comes, then_comes, read_does, unread_does, file_comes}
use Rattle.command_sources.specs.Headers.{HeaderFate, Whole, Faulty, IsHeaderFate, whole, table_by, table_in, table_named, table_unless, table_of_word}
use Rattle.command_save.specs.declared.inputs.HeaderFile.{HeaderFile}
use Rattle.command_save.specs.Inputs as inputs
use Rattle.command_save.specs.Inputs.{header_file, header_in, header_named, header_unless, header_of}
use Rattle.nwq_top.specs.Accepting.{HasHeader, built_in, read}
use Rattle.nwq_top.specs.Saves as saves
use Rattle.nwq_top.specs.Saves.{HasHeaderFile}
use Rattle.nwq_top.specs.Refusing.{RefusesHeader, unread, faulty}

module _ (c : Contents) (t : List ℕ) (word : List ℕ) where
  unless_built : (b : Bool) → b ≡ true → Does (table_unless b word) c t (Ok header_table) c t
  unless_built true e = makes_does header_table header_table c c t t refl refl refl
  unless_built false e = absurd cc

  unless_named : (r : Result EngineTable Status) (c' : Contents) (t' : List ℕ) (b : Bool) → b ≡ false → Does (table_named word) c t r c' t'
      → Does (table_unless b word) c t r c' t'
  unless_named r c' t' true e does = absurd cc
  unless_named r c' t' false e does = does

  pub header_does : (table : EngineTable) → HasHeader c word table → Does (table_of_word word) c t (Ok table) c t
  unfolding table_of_word table_named table_in
  header_does table (built_in e) = unless_built (bytes_eq word (codes "-")) e
  header_does table (read e bytes is _ has) =
      unless_named (Ok table) c t (bytes_eq word (codes "-")) e
      (then_ok (file_named word) (table_in word) bytes c c c t t t (Ok table) (read_does c t word bytes is)
      (inr (record { found = Whole table; is = whole table has; goes = gives_does table c t })))

  pub header_refuses : (why : Refusal) → RefusesHeader c word why → Does (table_of_word word) c t (Err (status_of why)) c (t ++ line_of why)
  unfolding table_of_word table_named table_in
  header_refuses why (unread e _ is) =
      unless_named (Err (status_of why)) c (t ++ line_of why) (bytes_eq word (codes "-")) e
      (then_err (file_named word) (table_in word) (status_of why) c c t (t ++ line_of why) (unread_does c t word why is))
  header_refuses why (faulty e bytes is cause place fate) =
      unless_named (Err (status_of why)) c (t ++ line_of why) (bytes_eq word (codes "-")) e
      (then_ok (file_named word) (table_in word) bytes c c c t t (t ++ line_of why) (Err (status_of why)) (read_does c t word bytes is)
      (inr (record { found = Faulty cause place; is = fate; goes = refused_does (At word (line_number bytes place) place cause) c t })))

  module _ (r : Result EngineTable Status) (c' : Contents) (t' : List ℕ) where
    abbrev HeaderComes : Type 0
    HeaderComes = Came (HasHeader c word) (RefusesHeader c word) c t r c' t'

    fate_comes : bytes_eq word (codes "-") ≡ false → (bytes : List ℕ) → IsRead c word bytes → (fate : HeaderFate) → IsHeaderFate bytes fate
        → Does (table_by word bytes fate) c t r c' t' → HeaderComes
    fate_comes e bytes is (Whole table) (whole _ has) does =
        given_comes (HasHeader c word) (RefusesHeader c word) c t r c' t' table (read e bytes is table has) does
    fate_comes e bytes is (Faulty cause place) fate does =
        refusal_comes (HasHeader c word) (RefusesHeader c word) c t r c' t' (At word (line_number bytes place) place cause) (faulty e bytes is cause place fate) does

    table_comes : bytes_eq word (codes "-") ≡ false → (bytes : List ℕ) → IsRead c word bytes → Does (table_in word bytes) c t r c' t' → HeaderComes
    unfolding table_in
    table_comes e bytes is (inl x) = cut x.0
    table_comes e bytes is (inr h) = fate_comes e bytes is h.found h.is h.goes

    word_comes : (b : Bool) → bytes_eq word (codes "-") ≡ b → Does (table_unless b word) c t r c' t' → HeaderComes
    unfolding table_named
    word_comes true e does = made_comes (HasHeader c word) (RefusesHeader c word) c t r c' t' header_table (built_in e) does
    word_comes false e does =
        then_comes (file_named word) (table_in word) (IsRead c word) (IsUnread c word) (HasHeader c word) (RefusesHeader c word) c t r c' t'
        (file_comes c t word) (table_comes e) (unread e) does

    pub header_comes : Does (table_of_word word) c t r c' t' → HeaderComes
    unfolding table_of_word
    header_comes does = word_comes (bytes_eq word (codes "-")) refl does

-- ---- with the bytes of its file

module _ (c : Contents) (t : List ℕ) (word : List ℕ) where
  file_unless_built : (b : Bool) → b ≡ true → Does (header_unless b word) c t (Ok inputs.built_in) c t
  file_unless_built true e = makes_does inputs.built_in inputs.built_in c c t t refl refl refl
  file_unless_built false e = absurd cc

  file_unless_named : (r : Result HeaderFile Status) (c' : Contents) (t' : List ℕ) (b : Bool) → b ≡ false → Does (header_named word) c t r c' t'
      → Does (header_unless b word) c t r c' t'
  file_unless_named r c' t' true e does = absurd cc
  file_unless_named r c' t' false e does = does

  pub header_file_does : (h : HeaderFile) → HasHeaderFile c word h → Does (header_of word) c t (Ok h) c t
  unfolding header_of header_named header_in table_in
  header_file_does h (saves.built_in e) = file_unless_built (bytes_eq word (codes "-")) e
  header_file_does h (saves.read e bytes is table has) =
      file_unless_named (Ok h) c t (bytes_eq word (codes "-")) e
      (then_ok (file_named word) (header_in word) bytes c c c t t t (Ok h) (read_does c t word bytes is)
      (inr (record { found = Whole table; is = whole table has; goes = gives_does (header_file bytes table) c t })))

  pub header_file_refuses : (why : Refusal) → RefusesHeader c word why → Does (header_of word) c t (Err (status_of why)) c (t ++ line_of why)
  unfolding header_of header_named header_in table_in
  header_file_refuses why (unread e _ is) =
      file_unless_named (Err (status_of why)) c (t ++ line_of why) (bytes_eq word (codes "-")) e
      (then_err (file_named word) (header_in word) (status_of why) c c t (t ++ line_of why) (unread_does c t word why is))
  header_file_refuses why (faulty e bytes is cause place fate) =
      file_unless_named (Err (status_of why)) c (t ++ line_of why) (bytes_eq word (codes "-")) e
      (then_ok (file_named word) (header_in word) bytes c c c t t (t ++ line_of why) (Err (status_of why)) (read_does c t word bytes is)
      (inr (record { found = Faulty cause place; is = fate; goes = refused_does (At word (line_number bytes place) place cause) c t })))

  module _ (r : Result HeaderFile Status) (c' : Contents) (t' : List ℕ) where
    abbrev HeaderFileComes : Type 0
    HeaderFileComes = Came (HasHeaderFile c word) (RefusesHeader c word) c t r c' t'

    file_fate_comes : bytes_eq word (codes "-") ≡ false → (bytes : List ℕ) → IsRead c word bytes → (fate : HeaderFate) → IsHeaderFate bytes fate
        → Does (then (table_by word bytes fate) (λ table. Gives (header_file bytes table))) c t r c' t' → HeaderFileComes
    file_fate_comes e bytes is (Whole table) (whole _ has) does =
        given_comes (HasHeaderFile c word) (RefusesHeader c word) c t r c' t' (header_file bytes table) (saves.read e bytes is table has) does
    file_fate_comes e bytes is (Faulty cause place) fate does =
        refusal_comes (HasHeaderFile c word) (RefusesHeader c word) c t r c' t' (At word (line_number bytes place) place cause) (faulty e bytes is cause place fate) does

    file_in_comes : bytes_eq word (codes "-") ≡ false → (bytes : List ℕ) → IsRead c word bytes → Does (header_in word bytes) c t r c' t' → HeaderFileComes
    unfolding header_in table_in
    file_in_comes e bytes is (inl x) = cut x.0
    file_in_comes e bytes is (inr h) = file_fate_comes e bytes is h.found h.is h.goes

    file_word_comes : (b : Bool) → bytes_eq word (codes "-") ≡ b → Does (header_unless b word) c t r c' t' → HeaderFileComes
    unfolding header_named
    file_word_comes true e does = made_comes (HasHeaderFile c word) (RefusesHeader c word) c t r c' t' inputs.built_in (saves.built_in e) does
    file_word_comes false e does =
        then_comes (file_named word) (header_in word) (IsRead c word) (IsUnread c word) (HasHeaderFile c word) (RefusesHeader c word) c t r c' t'
        (file_comes c t word) (file_in_comes e) (unread e) does

    pub header_file_comes : Does (header_of word) c t r c' t' → HeaderFileComes
    unfolding header_of
    header_file_comes does = file_word_comes (bytes_eq word (codes "-")) refl does

-- something is there that has this table
pub record HasTableIn {H : Type 0} (table_in : H → EngineTable) (Has : H → Type 0) (table : EngineTable) : Type 0 where
  pub header : H
  pub has : Has header
  pub same : table_in header ≡ table

-- it is the header that the word names, and one that the word names has its bytes
pub header_of_file : (c : Contents) (word : List ℕ) (h : HeaderFile) → HasHeaderFile c word h → HasHeader c word h.table
header_of_file c word h (saves.built_in e) = built_in e
header_of_file c word h (saves.read e bytes is table has) = read e bytes is table has

pub file_of_header : (c : Contents) (word : List ℕ) (table : EngineTable) → HasHeader c word table → HasTableIn (λ (h : HeaderFile). h.table) (HasHeaderFile c word) table
file_of_header c word table (built_in e) = record { header = inputs.built_in; has = saves.built_in e; same = refl }
file_of_header c word table (read e bytes is _ has) = record { header = header_file bytes table; has = saves.read e bytes is table has; same = refl }

-- the table of a header keeps what every table keeps
pub is_table : HeadersHaveTables → BuiltInIsTable → (c : Contents) (word : List ℕ) (table : EngineTable) → ContentsAreBytes c → HasHeader c word table → IsTable table
unfolding ContentsAreBytes
is_table reads own c word table held (built_in e) = own
is_table reads own c word table held (read e bytes is _ has) = reads bytes table (held word bytes is.held) has
