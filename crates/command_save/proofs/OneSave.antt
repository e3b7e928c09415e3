-- One thing comes of a play that is saved, and of one that is resumed.
use Rattle.std.proofs.Common.{◌≡◌, ◌≤◌, ℕ, Bool, true, false, List, length, Option, Some, None, refl, sym, subst, ◌∙◌, ltb-false, le-ltb}
use Rattle.std.specs.Prelude.{nat_lt, codes, bytes_eq}
use Rattle.nwq_value.specs.Limits.{file_limit}
use Rattle.area_back.specs.Back.{tree_back}
use Rattle.area_rules.specs.Area.{PlainArea}
use Rattle.plan_text.specs.declared.plan.Plan.{Plan}
use Rattle.saved_state.specs.declared.saved.Saved.{Saved}
use Rattle.world_rules.specs.Pure.{CellLookup}
use Rattle.world_rules.specs.Plays as plays
use Rattle.world_rules.specs.Plays.{PlayEnd, Progress, Played}
use Rattle.machine_rules.specs.Machine.{Script}
use Rattle.module_player.specs.CodePlays.{code_end_text}
use Rattle.state_format.specs.declared.parts.Parts.{Parts}
use Rattle.state_format.specs.Fields.{parts_bytes}
use Rattle.command_work.specs.Work.{Work, then, by_size, bytes_of, file_named, puts, writes}
use Rattle.command_work.specs.Outcomes.{IsSure, sure_then, sure_makes, sure_puts}
use Rattle.command_sources.specs.Headers.{table_in, table_named, table_unless, table_of_word}
use Rattle.command_sources.specs.Laws.{SureTables}
use Rattle.command_files.specs.Trees.{tree_in, tree_named}
use Rattle.play_inputs.specs.Areas as inputs
use Rattle.play_inputs.specs.Areas.{area_of_bytes}
use Rattle.play_inputs.specs.Finals.{final_written}
use Rattle.play_inputs.specs.Plans.{plan_named}
use Rattle.play_inputs.specs.Listings.{scripts_listed}
use Rattle.play_inputs.specs.Laws.{SureAreas, SurePlans, SureFinals}
use Rattle.play_inputs.specs.ListingLaws.{SureListed}
use Rattle.command_play.specs.Games.{ends_by, tells}
use Rattle.command_save.specs.declared.inputs.HeaderFile.{HeaderFile}
use Rattle.command_save.specs.declared.inputs.AreaFile.{AreaFile}
use Rattle.command_save.specs.Inputs.{built_in, header_in, header_named, header_unless, header_of, area_in, area_named}
use Rattle.command_save.specs.Saves.{saved_line, state_by as written_by, state_told, state_written, saves_at, saves_by, saves_plan, saves_area, saves_scripts, saves_under, saves}
use Rattle.command_save.specs.Resumes.{StateFate, Whole, Stops, Unfit, state_by, state_in, state_named, Going, played_rest, resumes_from, resumes_state, resumes}
use Rattle.command_save.specs.Laws.{SureSaves, SureResumes}
use Rattle.command_save.proofs.OneState.{OneLaws, one_saved, one_fate, one_going}

-- ---- a file that is read, and what is found in its bytes

module _ {A : Type 0} (name : List ℕ) (f : List ℕ → Work A) where
  sized : (bytes : List ℕ) (long : Bool) → (long ≡ false → IsSure (f bytes)) → IsSure (then (by_size long name bytes) f)
  sized bytes true each = tt
  sized bytes false each = each refl

  found : ((bytes : List ℕ) → length bytes ≤ file_limit → IsSure (f bytes)) → (content : Option (List ℕ)) → IsSure (then (bytes_of name content) f)
  found each None = tt
  found each (Some bytes) = sized bytes (nat_lt file_limit (length bytes)) (λ e. each bytes (ltb-false file_limit (length bytes) e))

  pub sure_small : ((bytes : List ℕ) → length bytes ≤ file_limit → IsSure (f bytes)) → IsSure (then (file_named name) f)
  unfolding file_named
  sure_small each = (λ c a b p q. p ∙ sym q, found each)

  pub small_sure : IsSure (then (file_named name) f) → (bytes : List ℕ) → length bytes ≤ file_limit → IsSure (f bytes)
  unfolding file_named
  small_sure sure bytes small =
      subst (λ (long : Bool). IsSure (then (by_size long name bytes) f)) (le-ltb file_limit (length bytes) small) (sure.1 (Some bytes))

-- ---- the header

sure_text : (name text : List ℕ) → IsSure (table_in name text) → IsSure (header_in name text)
unfolding header_in
sure_text name text sure = sure_then (table_in name text) _ sure (λ table. tt)

sure_word : (word : List ℕ) (dash : Bool) → IsSure (table_unless dash word) → IsSure (header_unless dash word)
unfolding table_named header_named
sure_word word true sure = sure_makes built_in
sure_word word false sure = sure_small word (header_in word) (λ text small. sure_text word text (small_sure word (table_in word) sure text small))

pub sure_header : SureTables → (word : List ℕ) → IsSure (header_of word)
unfolding header_of table_of_word
sure_header tables word = sure_word word (bytes_eq word (codes "-")) (tables word)

-- ---- the area

-- the bytes of an area's file decide what comes of them
sure_bytes : SureAreas → (name bytes : List ℕ) → length bytes ≤ file_limit → IsSure (area_of_bytes name bytes)
unfolding file_named tree_named inputs.area_named area_of_bytes
sure_bytes areas name bytes small =
    subst (λ (long : Bool). IsSure (then (then (by_size long name bytes) (tree_in name)) (inputs.area_in name))) (le-ltb file_limit (length bytes) small)
    ((areas name).1 (Some bytes))

sure_file : (name bytes : List ℕ) → IsSure (area_of_bytes name bytes) → IsSure (area_in name bytes)
unfolding area_in
sure_file name bytes sure = sure_then (area_of_bytes name bytes) _ sure (λ area. tt)

pub sure_area : SureAreas → (name : List ℕ) → IsSure (area_named name)
unfolding area_named
sure_area areas name = sure_small name (area_in name) (λ bytes small. sure_file name bytes (sure_bytes areas name bytes small))

-- ---- a play that is saved

sure_write : (long : Bool) (name bytes : List ℕ) (entries : ℕ) → IsSure (written_by long name bytes entries)
unfolding state_told writes
sure_write true name bytes entries = tt
sure_write false name bytes entries = sure_puts (saved_line name entries)

sure_written : (name : List ℕ) (s : Parts) → IsSure (state_written name s)
unfolding state_written
sure_written name s = sure_write (nat_lt file_limit (length (parts_bytes s))) name (parts_bytes s) s.taken

module _ (laws : OneLaws) (header : HeaderFile) (file : List ℕ) (plan : Plan) (scripts : List Script) (name : List ℕ) where
  sure_at : (p : Progress Saved) → IsSure (saves_at header file plan scripts name p)
  unfolding saves_at
  sure_at p = (λ c s t a b. one_saved laws header file plan scripts p s t a b, sure_written name)

  sure_by : (ending : PlayEnd) (p : Played Saved) → IsSure (saves_by ending header file plan scripts name p)
  sure_by plays.StoppedInside p = tt
  sure_by plays.Done p = sure_at p.last
  sure_by plays.OutOfEntries p = sure_at p.last
  sure_by plays.Paused p = sure_at p.last

module _ (laws : OneLaws) (tables : SureTables) (listed : SureListed) (areas : SureAreas) (plans : SurePlans) (cell : CellLookup) (n : ℕ) (name : List ℕ) where
  sure_plan : (header : HeaderFile) (plan : Plan) (scripts : List Script) (area : AreaFile) → IsSure (saves_plan cell header plan scripts n name area)
  unfolding saves_plan
  sure_plan header plan scripts area = sure_by laws header area.bytes plan scripts name _ _

  sure_saves_area : (header : HeaderFile) (area : List ℕ) (plan : Plan) (scripts : List Script) → IsSure (saves_area cell header area plan n name scripts)
  unfolding saves_area
  sure_saves_area header area plan scripts = sure_then (area_named area) (saves_plan cell header plan scripts n name) (sure_area areas area) (sure_plan header plan scripts)

  sure_scripts : (area : List ℕ) (plan : Plan) (header : HeaderFile) → IsSure (saves_scripts cell area plan n name header)
  unfolding saves_scripts
  sure_scripts area plan header =
      sure_then (scripts_listed header.table plan.scripts) (saves_area cell header area plan n name) (listed header.table plan.scripts) (sure_saves_area header area plan)

  sure_under : (header area : List ℕ) (plan : Plan) → IsSure (saves_under cell header area n name plan)
  unfolding saves_under
  sure_under header area plan = sure_then (header_of header) (saves_scripts cell area plan n name) (sure_header tables header) (sure_scripts area plan)

  sure_all : (header area plan : List ℕ) → IsSure (saves cell header area plan n name)
  unfolding saves
  sure_all header area plan = sure_then (plan_named plan) (saves_under cell header area n name) (plans plan) (sure_under header area)

pub sure_saves : OneLaws → SureTables → SureListed → SureAreas → SurePlans → SureSaves
sure_saves laws tables listed areas plans cell header area plan n name = sure_all laws tables listed areas plans cell n name header area plan

-- ---- a play that is resumed

sure_end : SureFinals → (ending : PlayEnd) (to : List ℕ) (area : PlainArea) (text : List ℕ) → IsSure (ends_by ending to area text)
sure_end finals plays.Done to area text = sure_then (final_written to (tree_back area)) (λ done. puts text) (finals to (tree_back area)) (λ done. sure_puts text)
sure_end finals plays.OutOfEntries to area text = tt
sure_end finals plays.StoppedInside to area text = tt
sure_end finals plays.Paused to area text = sure_puts text

sure_tells : SureFinals → (to : List ℕ) (scripts : List Script) (p : Played Saved) → IsSure (tells to scripts p)
sure_tells finals to scripts p = sure_end finals p.ending to p.last.world.area (code_end_text scripts p)

sure_fate : (name : List ℕ) (fate : StateFate) → IsSure (state_by name fate)
sure_fate name (Whole s) = tt
sure_fate name (Stops place) = tt
sure_fate name (Unfit rule) = tt

sure_in : OneLaws → (name bytes : List ℕ) → IsSure (state_in name bytes)
unfolding state_in
sure_in laws name bytes = (λ c f g a b. one_fate laws bytes f g a b, sure_fate name)

pub sure_state : OneLaws → (name : List ℕ) → IsSure (state_named name)
unfolding state_named
sure_state laws name = sure_small name (state_in name) (λ bytes small. sure_in laws name bytes)

sure_from : SureFinals → (cell : CellLookup) (to : List ℕ) (s : Parts) (g : Going) → IsSure (resumes_from cell to s g)
unfolding resumes_from
sure_from finals cell to s g = sure_tells finals to g.scripts (played_rest cell s g)

sure_rest : OneLaws → SureFinals → (cell : CellLookup) (to : List ℕ) (s : Parts) → IsSure (resumes_state cell to s)
unfolding resumes_state
sure_rest laws finals cell to s = (λ c g h a b. one_going laws s g h a b, sure_from finals cell to s)

pub sure_resumes : OneLaws → SureFinals → SureResumes
unfolding resumes
sure_resumes laws finals cell name to = sure_then (state_named name) (resumes_state cell to) (sure_state laws name) (sure_rest laws finals cell to)
