-- The command `save`: where cells of tables are bytes, it can't be that it comes to no end.
use Rattle.std.proofs.Common.{◌≡◌, ◌≢◌, ℕ, nat_lt, Bool, true, false, List, [], ◌∷◌, length, codes, bytes_eq, refl, sym, subst}
use Rattle.nwq_value.specs.Limits.{file_limit}
use Rattle.nwq_value.specs.Engine.{IsTable}
use Rattle.nwq_outside.specs.Outside.{Contents, ContentsAreBytes}
use Rattle.gff_tree.specs.Whole.{PlainGff}
use Rattle.gff_read.specs.Stands.{Stands}
use Rattle.area_rules.specs.Broken.{Place, broken_places}
use Rattle.nss_lexer.specs.Splitting.{SomeSplit}
use Rattle.nss_parser.specs.Sentence.{TreeOrPlace}
use Rattle.engine_table.specs.Headers.{OneHeader}
use Rattle.engine_table.specs.KeptTables.{HeadersHaveTables, BuiltInIsTable}
use Rattle.typing_rules.specs.Laws.{VerdictsAreRight, NoneKeptIsTyped}
use Rattle.ncs_code.specs.Laws.{SizeLaws, PlaceLaws}
use Rattle.plan_text.specs.declared.plan.Plan.{Plan}
use Rattle.plan_text.specs.Plans.{PlansKeep}
use Rattle.play_room.specs.Kept.{CellsAreBytes}
use Rattle.play_save.specs.Written.{CodeIsBytes}
use Rattle.play_states.specs.Resting.{FirstEntriesHaveStates}
use Rattle.machine_rules.specs.Machine.{Script}
use Rattle.saved_state.specs.declared.saved.Saved.{Saved}
use Rattle.state_format.specs.declared.parts.Parts.{Parts}
use Rattle.state_format.specs.Fields.{parts_bytes}
use Rattle.world_rules.specs.Pure.{CellLookup}
use Rattle.world_rules.specs.Plays.{PlayEnd, Played}
use Rattle.world_rules.specs.Plays as plays
use Rattle.play_worlds.specs.Worlds.{plan_world}
use Rattle.command_work.specs.Work.{Gives, then, file_named, puts, writes}
use Rattle.command_work.specs.Reading.{IsRead}
use Rattle.command_sources.specs.Headers.{HeaderFate, IsHeaderFate, table_by, table_in}
use Rattle.command_sources.specs.Headers as headers
use Rattle.command_files.specs.Trees.{TreeFate, IsTreeFate, tree_by, tree_in}
use Rattle.command_files.specs.Trees as trees_of
use Rattle.play_inputs.specs.Areas as areas
use Rattle.play_inputs.specs.Areas.{AreaFate, IsAreaFate, area_by, area_in, area_of_bytes}
use Rattle.play_inputs.specs.Plans.{plan_named}
use Rattle.play_inputs.specs.Listings.{scripts_listed}
use Rattle.command_plays.specs.Plays.{played_first}
use Rattle.command_save.specs.declared.inputs.HeaderFile.{HeaderFile}
use Rattle.command_save.specs.Inputs as inputs
use Rattle.command_save.specs.Inputs.{header_file, header_in, header_named, header_unless, header_of}
use Rattle.command_save.specs.Saves.{IsStateAt, state_told, state_by, state_written, saves_at, saves_by, saves_plan, saves_area, saves_scripts, saves_under, saves}
use Rattle.command_meaning.specs.Units.{UnitsPass}
use Rattle.command_meaning.specs.Scripts.{ScriptsHaveUnits}
use Rattle.nwq_top.specs.Accepting.{HasScripts, ReadsPlan}
use Rattle.nwq_top.specs.Saves as saving
use Rattle.nwq_top.specs.Saves.{HasHeaderFile, HasAreaFile, AcceptsSave}
use Rattle.nwq_top.proofs.SaveStates.{state_there}
use Rattle.nwq_top.proofs.Headers.{header_of_file, is_table}
use Rattle.nwq_top.proofs.Undeniable.{Undeniable, surely, with_it}
use Rattle.nwq_top.proofs.Going.{Goes, Anything, Still, goes_next, goes_both, file_goes}
use Rattle.nwq_top.proofs.GoesSources.{header_fated}
use Rattle.nwq_top.proofs.TreeFates.{TreeLaws}
use Rattle.nwq_top.proofs.GoesFiles.{tree_fated}
use Rattle.nwq_top.proofs.GoesPlays.{plan_goes, listed_goes, fine_bytes}

-- ---- a header and an area, with the bytes of their files

module _ (header : OneHeader) (word : List ℕ) (c : Contents) where
  fate_goes : bytes_eq word (codes "-") ≡ false → (bytes : List ℕ) → IsRead c word bytes → (fate : HeaderFate) → IsHeaderFate bytes fate
      → Goes (then (table_by word bytes fate) (λ table. Gives (header_file bytes table))) c (Still c (HasHeaderFile c word))
  fate_goes e bytes is (headers.Whole table) (headers.whole _ has) = (refl, saving.read e bytes is table has)
  fate_goes e bytes is (headers.Faulty why place) h = tt

  in_goes : bytes_eq word (codes "-") ≡ false → (bytes : List ℕ) (d : Contents) → Still c (IsRead c word) bytes d
      → Goes (header_in word bytes) d (Still c (HasHeaderFile c word))
  unfolding header_in table_in
  in_goes e bytes d is =
      let f = header_fated header bytes in (
        f.0,
        f.1,
        subst (λ x. Goes (then (table_by word bytes f.0) (λ table. Gives (header_file bytes table))) x (Still c (HasHeaderFile c word))) (sym is.0)
            (fate_goes e bytes is.1 f.0 f.1),
      )

  unless_goes : (b : Bool) → bytes_eq word (codes "-") ≡ b → Goes (header_unless b word) c (Still c (HasHeaderFile c word))
  unfolding header_named
  unless_goes true e = (inputs.built_in, refl, (refl, saving.built_in e))
  unless_goes false e =
      goes_next (file_named word) (header_in word) c (Still c (IsRead c word)) (Still c (HasHeaderFile c word)) (file_goes word c) (in_goes e)

  header_file_goes : Goes (header_of word) c (Still c (HasHeaderFile c word))
  unfolding header_of
  header_file_goes = unless_goes (bytes_eq word (codes "-")) refl

module _ (laws : TreeLaws) (name : List ℕ) (c : Contents) (bytes : List ℕ) (read : IsRead c name bytes) (d : Contents) where
  places_go : (tree : PlainGff) → Stands bytes tree → (places : List Place) → broken_places tree.top ≡ places
      → (fate : AreaFate) × IsAreaFate tree.top fate × Goes (then (area_by name tree fate) (λ area. Gives (inputs.area_file bytes area))) d (λ a e. HasAreaFile c name a)
  places_go tree stands [] e = (areas.Whole, areas.whole e, record { read = read; tree = tree; stands = stands; whole = e; is = refl })
  places_go tree stands (place ∷ others) e = (areas.Broken place, areas.broken place others e, tt)

  tree_part_goes : (fate : TreeFate) → IsTreeFate bytes fate
      → Goes (then (then (tree_by name fate) (area_in name)) (λ area. Gives (inputs.area_file bytes area))) d (λ a e. HasAreaFile c name a)
  unfolding area_in
  tree_part_goes (trees_of.Whole tree) (trees_of.whole _ stands) = places_go tree stands (broken_places tree.top) refl
  tree_part_goes (trees_of.Faulty why) h = tt

  area_part_goes : Goes (inputs.area_in name bytes) d (λ a e. HasAreaFile c name a)
  unfolding inputs.area_in area_of_bytes tree_in
  area_part_goes = let f = tree_fated laws bytes in (f.0, f.1, tree_part_goes f.0 f.1)

area_file_goes : TreeLaws → (name : List ℕ) (c : Contents) → Goes (inputs.area_named name) c (λ a d. HasAreaFile c name a)
unfolding inputs.area_named
area_file_goes laws name c =
    goes_next (file_named name) (inputs.area_in name) c (Still c (IsRead c name)) (λ a d. HasAreaFile c name a) (file_goes name c)
    (λ bytes d is. area_part_goes laws name c bytes is.1 d)

-- ---- the state

-- it is refuted that there is none from which the play can go on as it stands at its end
abbrev StateIsThere : HeaderFile → List ℕ → Plan → List Script → Played Saved → Type 0
StateIsThere header file plan scripts played = ((s : Parts) × IsStateAt header file plan scripts played.last s → ⊥) → ⊥

written_goes : (name : List ℕ) (s : Parts) (c : Contents) → Goes (state_written name s) c Anything
unfolding state_written state_told writes puts
written_goes name s c = by_size (nat_lt file_limit (length (parts_bytes s)))
  where
    by_size : (long : Bool) → Goes (state_by long name (parts_bytes s) s.taken) c Anything
    by_size true = tt
    by_size false = tt

module _ (h : HeaderFile) (file : List ℕ) (p : Plan) (scripts : List Script) (name : List ℕ) (c : Contents) where
  at_goes : (played : Played Saved) → StateIsThere h file p scripts played → Undeniable (Goes (saves_at h file p scripts name played.last) c Anything)
  unfolding saves_at
  at_goes played there = with_it there (λ k. (k.0, k.1, written_goes name k.0 c))

  saved_goes : (e : PlayEnd) (played : Played Saved) → (e ≢ plays.StoppedInside → StateIsThere h file p scripts played)
      → Undeniable (Goes (saves_by e h file p scripts name played) c Anything)
  saved_goes plays.StoppedInside played there = surely (λ x. x)
  saved_goes plays.Done played there = at_goes played (there (λ same. absurd cc))
  saved_goes plays.OutOfEntries played there = at_goes played (there (λ same. absurd cc))
  saved_goes plays.Paused played there = at_goes played (there (λ same. absurd cc))

-- ---- the command

module _ (header : OneHeader) (some : SomeSplit) (trees : TreeOrPlace) (right : VerdictsAreRight) (settled : NoneKeptIsTyped) (pass : UnitsPass) (have : ScriptsHaveUnits)
    (reads : HeadersHaveTables) (own : BuiltInIsTable) (sizes : SizeLaws) (places : PlaceLaws) (laws : TreeLaws) (code : CodeIsBytes) (states : FirstEntriesHaveStates)
    (plans : PlansKeep) (cell : CellLookup) (cells : CellsAreBytes cell) (word area plan : List ℕ) (n : ℕ) (name : List ℕ) (c : Contents) (held : ContentsAreBytes c) where
  area_saves : (p : Plan) → ReadsPlan c plan p → (h : HeaderFile) → HasHeaderFile c word h → (scripts : List Script) (left : Contents) → HasScripts h.table p.scripts c scripts left
      → Undeniable (Goes (saves_area cell h area p n name scripts) left Anything)
  unfolding saves_area saves_plan
  area_saves p is_plan h is_header scripts left listed =
      goes_both (inputs.area_named area) (saves_plan cell h p scripts n name) left (λ a d. HasAreaFile left area a) Anything (surely (area_file_goes laws area left))
      (λ a d is_area.
      saved_goes h a.bytes p scripts name d (played_first cell h.table p scripts n (plan_world a.area p)).ending (played_first cell h.table p scripts n (plan_world a.area p))
      (λ whole none.
      let all : AcceptsSave word area plan c h p scripts a left = record { reads_plan = is_plan; has_header = is_header; lists = listed; reads_area = is_area } in
      none (state_there code states plans reads own cell cells word area plan n c held h p scripts a left all whole)))

  scripts_save : (p : Plan) → ReadsPlan c plan p → (h : HeaderFile) → HasHeaderFile c word h → Undeniable (Goes (saves_scripts cell area p n name h) c Anything)
  unfolding saves_scripts
  scripts_save p is_plan h is_header =
      let kept : IsTable h.table = is_table reads own c word h.table held (header_of_file c word h is_header) in
      goes_both (scripts_listed h.table p.scripts) (saves_area cell h area p n name) c (λ scripts d. HasScripts h.table p.scripts c scripts d) Anything
      (listed_goes header some trees right settled pass have reads own sizes places code h.table kept p.scripts c (fine_bytes c held)) (area_saves p is_plan h is_header)

  header_saves : (p : Plan) (d : Contents) → Still c (ReadsPlan c plan) p d → Undeniable (Goes (saves_under cell word area n name p) d Anything)
  unfolding saves_under
  header_saves p d is =
      subst (λ x. Undeniable (Goes (saves_under cell word area n name p) x Anything)) (sym is.0)
      (goes_both (header_of word) (saves_scripts cell area p n name) c (Still c (HasHeaderFile c word)) Anything (surely (header_file_goes header word c))
      (λ h e k. subst (λ x. Undeniable (Goes (saves_scripts cell area p n name h) x Anything)) (sym k.0) (scripts_save p is.1 h k.1)))

  pub save_goes : Undeniable (Goes (saves cell word area plan n name) c Anything)
  unfolding saves
  save_goes = goes_both (plan_named plan) (saves_under cell word area n name) c (Still c (ReadsPlan c plan)) Anything (plan_goes plan c) header_saves
