-- What the commands do that read one file and tell or write it in another form.
use Rattle.std.proofs.Common.{inl, inr, ℕ, List, ◌++◌, length, Result, Ok, Err, refl}
use Rattle.nwq_value.specs.Engine.{EngineTable}
use Rattle.nwq_outside.specs.Outside.{Contents, with_content}
use Rattle.gff_text.specs.Text.{tree_text}
use Rattle.ncs_code.specs.Plain.{PlainOp}
use Rattle.ncs_text.specs.Listing.{listing}
use Rattle.command_work.specs.declared.status.Status.{Status}
use Rattle.command_work.specs.Refusal.{Refusal, NoForm, BadCode, line_of, status_of}
use Rattle.command_work.specs.Work.{Work, Refused, then, puts, writes, file_named, IsCut, Does, Finished}
use Rattle.command_work.specs.Parts.{then_ok, then_err}
use Rattle.command_work.specs.Outcomes.{IsSure, agree}
use Rattle.command_work.specs.Reading.{IsRead, IsUnread}
use Rattle.command_work.specs.Comes.{Came, cut, gives_does, refused_does, refusal_not_cut, Follows, follows, ends, cuts, then_follows, given_comes, refusal_comes, then_comes, read_does, unread_does}
use Rattle.command_work.specs.Comes.{file_comes}
use Rattle.command_sources.specs.Headers.{table_of_word}
use Rattle.command_files.specs.Assemblies as assemblies
use Rattle.command_files.specs.Assemblies.{assembly_in, assembly_named}
use Rattle.command_files.specs.Trees.{tree_named}
use Rattle.command_files.specs.Codes.{code_named}
use Rattle.command_files.specs.Checks.{checked_named, passed_line, puts_passed, checks_under, checks}
use Rattle.command_files.specs.CheckLaws.{SureChecks}
use Rattle.command_files.specs.Commands.{puts_tree, shows_tree, writes_and_puts, writes_listing, disassembles, writes_assembly, assembles}
use Rattle.command_files.specs.Laws.{SureCommands}
use Rattle.command_files.specs.Texts.{disassembled_line, assembled_line}
use Rattle.nwq_top.specs.Accepting.{HasHeader, HasCode, ReadsTree, ReadsCode, ReadsAssembly}
use Rattle.nwq_top.specs.Refusing.{RefusesHeader, RefusesTree, RefusesCode, RefusesBinary, RefusesAssembly, broken, IsRefused}
use Rattle.nwq_top.specs.Refusing as refusing
use Rattle.nwq_top.specs.FileCommands.{Comes, has, refuses, MeansRead, IsPut, IsWritten, MeansTree, PassesCheck, RefusesCheck, of_header, of_code, MeansCheck, MeansDisassemble, MeansAssemble}
use Rattle.nwq_top.proofs.Headers.{header_does, header_refuses, header_comes}
use Rattle.nwq_top.proofs.Sources.{ops_do, ops_refuse, ops_come, binary_does, binary_refuses, binary_comes}
use Rattle.nwq_top.proofs.PlansAndAreas.{tree_does, tree_refuses, tree_comes}
use Rattle.nwq_top.proofs.Running.{as_refused}

-- ---- an assembler text

module _ (c : Contents) (t : List ℕ) (name : List ℕ) where
  assembly_does : (file : List ℕ) → ReadsAssembly c name file → Does (assembly_named name) c t (Ok file) c t
  unfolding assembly_named assembly_in
  assembly_does file h =
      then_ok (file_named name) (assembly_in name) h.text c c c t t t (Ok file) (read_does c t name h.text h.read)
      (inr (record { found = assemblies.Whole file; is = assemblies.whole file h.is; goes = gives_does file c t }))

  assembly_refuses : (why : Refusal) → RefusesAssembly c name why → Does (assembly_named name) c t (Err (status_of why)) c (t ++ line_of why)
  unfolding assembly_named assembly_in
  assembly_refuses why (refusing.unread _ is) = then_err (file_named name) (assembly_in name) (status_of why) c c t (t ++ line_of why) (unread_does c t name why is)
  assembly_refuses why (broken text read flaw fate) =
      then_ok (file_named name) (assembly_in name) text c c c t t (t ++ line_of why) (Err (status_of why)) (read_does c t name text read)
      (inr (record { found = assemblies.Faulty flaw; is = fate; goes = refused_does (BadCode name flaw) c t }))

  module _ (r : Result (List ℕ) Status) (c' : Contents) (t' : List ℕ) where
    abbrev AssemblyComes : Type 0
    AssemblyComes = Came (ReadsAssembly c name) (RefusesAssembly c name) c t r c' t'

    assembly_by : (text : List ℕ) → IsRead c name text → (fate : assemblies.AssemblyFate) → assemblies.IsAssemblyFate text fate
        → Does (assemblies.assembly_by name fate) c t r c' t' → AssemblyComes
    assembly_by text read (assemblies.Whole file) (assemblies.whole _ is) does =
        given_comes (ReadsAssembly c name) (RefusesAssembly c name) c t r c' t' file (record { text = text; read = read; is = is }) does
    assembly_by text read (assemblies.Faulty why) fate does =
        refusal_comes (ReadsAssembly c name) (RefusesAssembly c name) c t r c' t' (BadCode name why) (broken text read why fate) does

    assembly_in_comes : (text : List ℕ) → IsRead c name text → Does (assembly_in name text) c t r c' t' → AssemblyComes
    unfolding assembly_in
    assembly_in_comes text read (inl x) = cut x.0
    assembly_in_comes text read (inr h) = assembly_by text read h.found h.is h.goes

    assembly_comes : Does (assembly_named name) c t r c' t' → AssemblyComes
    unfolding assembly_named
    assembly_comes does =
        then_comes (file_named name) (assembly_in name) (IsRead c name) (IsUnread c name) (ReadsAssembly c name) (RefusesAssembly c name) c t r c' t'
        (file_comes c t name) assembly_in_comes refusing.unread does

-- ---- a text that is put, and a file that is written

put_does : (text : List ℕ) (c : Contents) (t : List ℕ) → Does (puts text) c t (Ok tt) c (t ++ text)
unfolding puts
put_does text c t = inr (refl, (refl, refl))

write_does : (name bytes line : List ℕ) (c : Contents) (t : List ℕ) → Does (writes_and_puts name bytes line) c t (Ok tt) (with_content c name bytes) (t ++ line)
unfolding writes_and_puts writes puts
write_does name bytes line c t = inr (inr (refl, (refl, refl)))

-- ---- one part that reads, and one that tells

module _ {A : Type 0} (w : Work A) (f : A → Work Finished) (sure : IsSure (then w f)) (Has : A → Type 0) (Refuses : Refusal → Type 0) (c : Contents) (t : List ℕ)
    (r : Result Finished Status) (c' : Contents) (t' : List ℕ) (whole : IsCut r → ⊥)
    (come : (s : Result A Status) (d : Contents) (k : List ℕ) → Does w c t s d k → Came Has Refuses c t s d k)
    (reads : (a : A) → Has a → Does w c t (Ok a) c t)
    (refused : (why : Refusal) → Refuses why → Does w c t (Err (status_of why)) c (t ++ line_of why)) where
  one_comes : Follows f Has Refuses c t r c' t' → Comes Has Refuses
  one_comes (follows a h does) = has a h
  one_comes (ends why is e p q) = refuses why is
  one_comes (cuts x) = absurd (whole x)

  -- it is told, and no file has changed
  reads_and_puts : (text : A → List ℕ) → ((a : A) → Does (f a) c t (Ok tt) c (t ++ text a)) → Does (then w f) c t r c' t'
      → MeansRead Has Refuses (λ a. IsPut (text a) c t r c' t') c t r c' t'
  reads_and_puts text puts does = record {
    comes = one_comes (then_follows f Has Refuses c t r c' t' w come does);
    refused = λ why is. as_refused (then w f) sure why c c c' t t' r whole (refusal_not_cut why) (then_err w f (status_of why) c c t (t ++ line_of why) (refused why is)) does;
    done = λ a h.
        let same = agree (then w f) sure r (Ok tt) c c' c t t' (t ++ text a) whole (λ x. x) does (then_ok w f a c c c t t (t ++ text a) (Ok tt) (reads a h) (puts a)) in
        record { answer = same.answer; taken = same.taken; contents = same.contents };
  }

  -- a file is written, and told
  reads_and_writes : (to : List ℕ) (bytes line : A → List ℕ) → ((a : A) → Does (f a) c t (Ok tt) (with_content c to (bytes a)) (t ++ line a)) → Does (then w f) c t r c' t'
      → MeansRead Has Refuses (λ a. IsWritten to (bytes a) (line a) c t r c' t') c t r c' t'
  reads_and_writes to bytes line writes does = record {
    comes = one_comes (then_follows f Has Refuses c t r c' t' w come does);
    refused = λ why is. as_refused (then w f) sure why c c c' t t' r whole (refusal_not_cut why) (then_err w f (status_of why) c c t (t ++ line_of why) (refused why is)) does;
    done = λ a h.
        let same = agree (then w f) sure r (Ok tt) c c' (with_content c to (bytes a)) t t' (t ++ line a) whole (λ x. x) does
        (then_ok w f a c c (with_content c to (bytes a)) t t (t ++ line a) (Ok tt) (reads a h) (writes a)) in
        record { answer = same.answer; taken = same.taken; contents = same.contents };
  }

-- ---- the commands

module _ (files : SureCommands) (c : Contents) (t : List ℕ) (r : Result Finished Status) (c' : Contents) (t' : List ℕ) (whole : IsCut r → ⊥) where
  pub tree_means : (file : List ℕ) → Does (shows_tree file) c t r c' t' → MeansTree file c t r c' t'
  unfolding shows_tree
  tree_means file does =
      reads_and_puts (tree_named file) puts_tree (files.tree file) (ReadsTree c file) (RefusesTree c file) c t r c' t' whole
      (tree_comes c t file) (tree_does c t file) (tree_refuses c t file) tree_text (λ tree. put_does (tree_text tree) c t) does

  pub disassembles_mean : (file to : List ℕ) → Does (disassembles file to) c t r c' t' → MeansDisassemble file to c t r c' t'
  unfolding disassembles
  disassembles_mean file to does =
      reads_and_writes (code_named file) (writes_listing to) (files.disassembled file to) (ReadsCode c file) (RefusesCode c file) c t r c' t' whole
      (ops_come c t file) (ops_do c t file) (ops_refuse c t file) to (λ ops. listing ops) (λ ops. disassembled_line to (length ops))
      (λ ops. write_does to (listing ops) (disassembled_line to (length ops)) c t) does

  pub assembles_mean : (file to : List ℕ) → Does (assembles file to) c t r c' t' → MeansAssemble file to c t r c' t'
  unfolding assembles
  assembles_mean file to does =
      reads_and_writes (assembly_named file) (writes_assembly to) (files.assembled file to) (ReadsAssembly c file) (RefusesAssembly c file) c t r c' t' whole
      (assembly_comes c t file) (assembly_does c t file) (assembly_refuses c t file) to (λ bytes. bytes) (λ bytes. assembled_line to (length bytes))
      (λ bytes. write_does to bytes (assembled_line to (length bytes)) c t) does

module _ (sure : SureChecks) (header file : List ℕ) (c : Contents) (t : List ℕ) (r : Result Finished Status) (c' : Contents) (t' : List ℕ) (whole : IsCut r → ⊥) where
  abbrev CheckComes : Type 0
  CheckComes = Comes (PassesCheck header file c) (RefusesCheck header file c)

  code_comes : (table : EngineTable) → HasHeader c header table → Follows puts_passed (HasCode table c file) (RefusesBinary table c file) c t r c' t' → CheckComes
  code_comes table has_header (follows ops h does) = has ops (record { table = table; has_header = has_header; code = h })
  code_comes table has_header (ends why is e p q) = refuses why (of_code table why has_header is)
  code_comes table has_header (cuts x) = absurd (whole x)

  table_comes : Follows (checks_under file) (HasHeader c header) (RefusesHeader c header) c t r c' t' → CheckComes
  unfolding checks_under
  table_comes (follows table h does) =
      code_comes table h (then_follows puts_passed (HasCode table c file) (RefusesBinary table c file) c t r c' t' (checked_named table file) (binary_comes table c t file) does)
  table_comes (ends why is e p q) = refuses why (of_header why is)
  table_comes (cuts x) = absurd (whole x)

  check_refuses : (why : Refusal) → RefusesCheck header file c why → Does (checks header file) c t (Err (status_of why)) c (t ++ line_of why)
  unfolding checks checks_under
  check_refuses why (of_header _ is) = then_err (table_of_word header) (checks_under file) (status_of why) c c t (t ++ line_of why) (header_refuses c t header why is)
  check_refuses why (of_code table _ has_header is) =
      then_ok (table_of_word header) (checks_under file) table c c c t t (t ++ line_of why) (Err (status_of why)) (header_does c t header table has_header)
      (then_err (checked_named table file) puts_passed (status_of why) c c t (t ++ line_of why) (binary_refuses table c t file why is))

  check_passes : (ops : List PlainOp) → PassesCheck header file c ops → Does (checks header file) c t (Ok tt) c (t ++ passed_line (length ops))
  unfolding checks checks_under
  check_passes ops h =
      then_ok (table_of_word header) (checks_under file) h.table c c c t t (t ++ passed_line (length ops)) (Ok tt) (header_does c t header h.table h.has_header)
      (then_ok (checked_named h.table file) puts_passed ops c c c t t (t ++ passed_line (length ops)) (Ok tt) (binary_does h.table c t file ops h.code)
      (put_does (passed_line (length ops)) c t))

  check_comes : Does (checks header file) c t r c' t' → CheckComes
  unfolding checks
  check_comes does = table_comes (then_follows (checks_under file) (HasHeader c header) (RefusesHeader c header) c t r c' t' (table_of_word header) (header_comes c t header) does)

  pub check_means : Does (checks header file) c t r c' t' → MeansCheck header file c t r c' t'
  check_means does = record {
    comes = check_comes does;
    refused = λ why is. as_refused (checks header file) (sure header file) why c c c' t t' r whole (refusal_not_cut why) (check_refuses why is) does;
    done = λ ops h.
        let same = agree (checks header file) (sure header file) r (Ok tt) c c' c t t' (t ++ passed_line (length ops)) whole (λ x. x) does (check_passes ops h) in
        record { answer = same.answer; taken = same.taken; contents = same.contents };
  }

-- words that are no form
pub no_form_means : (c : Contents) (t : List ℕ) (r : Result Finished Status) (c' : Contents) (t' : List ℕ) → (IsCut r → ⊥) → Does {A = Finished} (Refused NoForm) c t r c' t'
    → IsRefused NoForm c t r c' t'
no_form_means c t r c' t' whole (inl e, s) = record { answer = e.0; taken = e.1; contents = s }
no_form_means c t r c' t' whole (inr x, s) = absurd (whole x.0)
