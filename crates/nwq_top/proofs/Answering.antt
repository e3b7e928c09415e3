-- Each form of words comes to an end that is no cut.
use Rattle.std.proofs.Common.{◌≡◌, ℕ, ◌≤◌, nat_le, ◌&&◌, Bool, true, false, cond, List, [], ◌∷◌, codes, bytes_eq, Option, None, Some, refl, sym, subst, leb-true}
use Rattle.std.specs.List.{list_any}
use Rattle.nwq_value.specs.Limits.{entry_limit}
use Rattle.nwq_text.specs.Number.{number_of}
use Rattle.nwq_text.specs.Names.{is_script_name}
use Rattle.nwq_outside.specs.Outside.{Contents, ContentsAreBytes}
use Rattle.nss_lexer.specs.Splitting.{SomeSplit}
use Rattle.nss_parser.specs.Sentence.{TreeOrPlace}
use Rattle.engine_table.specs.Headers.{OneHeader}
use Rattle.engine_table.specs.KeptTables.{HeadersHaveTables, BuiltInIsTable}
use Rattle.typing_rules.specs.Laws.{VerdictsAreRight, NoneKeptIsTyped}
use Rattle.ncs_code.specs.Laws.{SpellingLaws, SizeLaws, PlaceLaws}
use Rattle.generator_laws.specs.Scripts.{SourcesCompile}
use Rattle.plan_text.specs.Plans.{PlansKeep}
use Rattle.play_room.specs.Kept.{CellsAreBytes}
use Rattle.play_save.specs.Written.{CodeIsBytes}
use Rattle.play_states.specs.Resting.{FirstEntriesHaveStates}
use Rattle.play_generator.specs.Made.{number_limit}
use Rattle.world_rules.specs.Pure.{CellLookup}
use Rattle.table_2da.specs.Look.{cell_of}
use Rattle.command_tables.specs.Tables.{tables_given}
use Rattle.command_meaning.specs.Units.{UnitsPass}
use Rattle.command_meaning.specs.Scripts.{ScriptsHaveUnits}
use Rattle.command_words.specs.Words.{Form, Run, Compile, Tree, Check, Disassemble, Assemble, Play, Generate, Save, Resume, NoForm, is_option, run_form, compile_form, generate_form, save_form}
use Rattle.command_words.specs.Words.{command_form, form_of, list_of}
use Rattle.nwq_top.specs.Command.{work_of, work_with, whole_work}
use Rattle.nwq_top.specs.Answers.{EachHasOutcome, EachWholeHasOutcome, IsPlainForm, PlainHaveOutcomes}
use Rattle.nwq_top.proofs.Undeniable.{Undeniable, surely}
use Rattle.nwq_top.proofs.Going.{Goes, Anything, Still, goes_both, has_outcome}
use Rattle.nwq_top.proofs.TreeFates.{TreeLaws}
use Rattle.nwq_top.proofs.TableCells.{HaveByteCells, cells_are_bytes}
use Rattle.nwq_top.proofs.GoesSources.{run_goes, compile_goes, generate_goes}
use Rattle.nwq_top.proofs.GoesFiles.{files_of_bytes, shows_tree_goes, disassemble_goes, check_goes, assemble_goes}
use Rattle.nwq_top.proofs.GoesPlays.{play_goes, resume_goes}
use Rattle.nwq_top.proofs.GoesSaves.{save_goes}
use Rattle.nwq_top.proofs.GoesTables.{given_go}

-- ---- numbers of plays

-- the number of a play that is made is one that has a play
abbrev IsNumbered : Form → Type 0
IsNumbered (Generate number) = number ≤ number_limit
IsNumbered _ = Unit {0}

one_of : (b : Bool) (x y : Form) → IsNumbered x → IsNumbered y → IsNumbered (cond b x y)
one_of true x y h k = h
one_of false x y h k = k

generated : (o : Option ℕ) → IsNumbered (generate_form o)
generated None = tt
generated (Some n) = by_test (nat_le n number_limit) refl
  where
    by_test : (b : Bool) → nat_le n number_limit ≡ b → IsNumbered (cond b (Generate n) NoForm)
    by_test true e = leb-true n number_limit e
    by_test false e = tt

saved : (header area plan : List ℕ) (o : Option ℕ) (state : List ℕ) (list : Option (List ℕ)) → IsNumbered (save_form header area plan o state list)
saved header area plan None state list = tt
saved header area plan (Some n) state list = one_of (nat_le 1 n && nat_le n entry_limit) (Save header area plan n state list) NoForm tt tt

command_numbered : (words : List (List ℕ)) → IsNumbered (command_form words)
command_numbered [] = tt
command_numbered (command ∷ []) = tt
command_numbered (command ∷ word ∷ []) =
    one_of (bytes_eq command (codes "tree")) (Tree word) _ tt
    (one_of (bytes_eq command (codes "generate")) (generate_form (number_of word)) NoForm (generated (number_of word)) tt)
command_numbered (command ∷ a ∷ b ∷ []) =
    one_of (bytes_eq command (codes "run")) (run_form a b) _ (one_of (is_script_name b) (Run a b) NoForm tt tt)
    (one_of (bytes_eq command (codes "compile")) (compile_form a b) _ (one_of (is_script_name b) (Compile a b) NoForm tt tt)
    (one_of (bytes_eq command (codes "check")) (Check a b) _ tt
    (one_of (bytes_eq command (codes "dis")) (Disassemble a b) _ tt
    (one_of (bytes_eq command (codes "asm")) (Assemble a b) _ tt
    (one_of (bytes_eq command (codes "resume")) (Resume a b None) NoForm tt tt)))))
command_numbered (command ∷ a ∷ b ∷ c ∷ []) = one_of (bytes_eq command (codes "resume")) (Resume a b (Some c)) NoForm tt tt
command_numbered (command ∷ a ∷ b ∷ c ∷ d ∷ []) = one_of (bytes_eq command (codes "play")) (Play a b c d None) NoForm tt tt
command_numbered (command ∷ a ∷ b ∷ c ∷ d ∷ e ∷ []) =
    one_of (bytes_eq command (codes "play")) (Play a b c d (Some e)) _ tt
    (one_of (bytes_eq command (codes "save")) (save_form a b c (number_of d) e None) NoForm (saved a b c (number_of d) e None) tt)
command_numbered (command ∷ a ∷ b ∷ c ∷ d ∷ e ∷ f ∷ []) =
    one_of (bytes_eq command (codes "save")) (save_form a b c (number_of d) e (Some f)) NoForm (saved a b c (number_of d) e (Some f)) tt
command_numbered (command ∷ a ∷ b ∷ c ∷ d ∷ e ∷ f ∷ g ∷ more) = tt

numbered : (words : List (List ℕ)) → IsNumbered (form_of words)
numbered words = one_of (list_any is_option words) NoForm (command_form words) tt (command_numbered words)

-- ---- the forms

module _ (header : OneHeader) (some : SomeSplit) (trees : TreeOrPlace) (right : VerdictsAreRight) (settled : NoneKeptIsTyped) (pass : UnitsPass) (have : ScriptsHaveUnits)
    (reads : HeadersHaveTables) (own : BuiltInIsTable) (made : SourcesCompile) (spells : SpellingLaws) (sizes : SizeLaws) (places : PlaceLaws) (laws : TreeLaws)
    (code : CodeIsBytes) (states : FirstEntriesHaveStates) (plans : PlansKeep) where
  plain_goes : (cell : CellLookup) (form : Form) → IsNumbered form → IsPlainForm form → (c : Contents) → ContentsAreBytes c → Goes (work_of cell form) c Anything
  plain_goes cell (Run word script) small plain c held = run_goes header some trees right settled pass have reads own cell word script c held
  plain_goes cell (Compile word script) small plain c held = compile_goes header some trees right settled pass have reads own word script c
  plain_goes cell (Tree file) small plain c held = shows_tree_goes laws file c
  plain_goes cell (Check word file) small plain c held = absurd plain
  plain_goes cell (Disassemble file to) small plain c held = disassemble_goes sizes places file to c (files_of_bytes c held)
  plain_goes cell (Assemble file to) small plain c held = assemble_goes sizes places spells file to c
  plain_goes cell (Play word area plan to list) small plain c held = absurd plain
  plain_goes cell (Generate number) small plain c held = generate_goes header some trees right settled pass have reads own made cell number small c
  plain_goes cell (Save word area plan entries state list) small plain c held = absurd plain
  plain_goes cell (Resume state to list) small plain c held = absurd plain
  plain_goes cell NoForm small plain c held = tt

  pub plain_have_outcomes : PlainHaveOutcomes
  plain_have_outcomes cell words c t held plain =
      has_outcome (work_of cell (form_of words)) c t Anything (plain_goes cell (form_of words) (numbered words) plain c held)

  form_goes : (cell : CellLookup) → CellsAreBytes cell → (form : Form) → IsNumbered form → (c : Contents) → ContentsAreBytes c → Undeniable (Goes (work_of cell form) c Anything)
  form_goes cell cells (Run word script) small c held = surely (plain_goes cell (Run word script) tt tt c held)
  form_goes cell cells (Compile word script) small c held = surely (plain_goes cell (Compile word script) tt tt c held)
  form_goes cell cells (Tree file) small c held = surely (shows_tree_goes laws file c)
  form_goes cell cells (Check word file) small c held = check_goes sizes places header word file c (files_of_bytes c held)
  form_goes cell cells (Disassemble file to) small c held = surely (plain_goes cell (Disassemble file to) tt tt c held)
  form_goes cell cells (Assemble file to) small c held = surely (plain_goes cell (Assemble file to) tt tt c held)
  form_goes cell cells (Play word area plan to list) small c held =
      play_goes header some trees right settled pass have reads own sizes places code laws cell word area to c held plan
  form_goes cell cells (Generate number) small c held = surely (plain_goes cell (Generate number) small tt c held)
  form_goes cell cells (Save word area plan entries state list) small c held =
      save_goes header some trees right settled pass have reads own sizes places laws code states plans cell cells word area plan entries state c held
  form_goes cell cells (Resume state to list) small c held = resume_goes cell state to c
  form_goes cell cells NoForm small c held = surely tt

  pub each_has_outcome : EachHasOutcome
  each_has_outcome cell words c t cells held none =
      form_goes cell cells (form_of words) (numbered words) c held (λ g. none (has_outcome (work_of cell (form_of words)) c t Anything g))

  whole_goes : (form : Form) → IsNumbered form → (c : Contents) → ContentsAreBytes c → Undeniable (Goes (whole_work form) c Anything)
  unfolding whole_work
  whole_goes form small c held =
      goes_both (tables_given (list_of form)) (work_with form) c (Still c HaveByteCells) Anything (given_go c held (list_of form))
      (λ tables d is.
      subst (λ x. Undeniable (Goes (work_with form tables) x Anything)) (sym is.0) (form_goes (cell_of tables) (cells_are_bytes tables is.1) form small c held))

  pub each_whole_has_outcome : EachWholeHasOutcome
  each_whole_has_outcome words c t held none =
      whole_goes (form_of words) (numbered words) c held (λ g. none (has_outcome (whole_work (form_of words)) c t Anything g))
