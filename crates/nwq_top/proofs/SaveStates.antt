-- There is a state of each play that `save` accepts.
use Rattle.std.proofs.Common.{arith, ◌≡◌, ◌≢◌, ◌<◌, ℕ, suc, Bool, true, false, List, [], ◌∷◌, length, map, Some, refl, sym, ap, ap₂, ◌∙◌, subst}
use Rattle.std.proofs.lemmas.Cmp.{nat_list_eq_equiv}
use Rattle.std.proofs.lemmas.List.Elements.{recursion_from_All}
use Rattle.std.specs.Prelude.{IsTrue, ◌||◌}
use Rattle.std.specs.List.{AllByRecursion, IsDistinct}
use Rattle.std.specs.Str.{bytes_eq}
use Rattle.nwq_value.specs.Engine.{EngineTable}
use Rattle.nwq_text.specs.Names.{is_script_name}
use Rattle.nwq_outside.specs.Outside.{Contents, ContentsAreBytes, content}
use Rattle.engine_table.specs.KeptTables.{HeadersHaveTables, BuiltInIsTable}
use Rattle.area_rules.specs.Area.{PlainArea}
use Rattle.emission_rules.specs.Units.{unit_file}
use Rattle.ncs_code.specs.File.{IsCode}
use Rattle.plan_text.specs.declared.plan.Plan.{Plan}
use Rattle.plan_text.specs.declared.plan.Script.{Script as ScriptLine}
use Rattle.plan_text.specs.Plans as plan_rules
use Rattle.plan_text.specs.Plans.{is_listed, IsPlan, PlansKeep}
use Rattle.saved_state.specs.declared.saved.Saved.{Saved}
use Rattle.machine_rules.specs.Machine.{Script}
use Rattle.world_rules.specs.Pure.{CellLookup}
use Rattle.world_rules.specs.Plays.{Played, StoppedInside}
use Rattle.state_format.specs.declared.parts.Parts.{Parts}
use Rattle.state_format.specs.Parts.{IsBlob, IsMaybe}
use Rattle.play_save.specs.Rules.{IsHeaderOf}
use Rattle.play_room.specs.Kept.{CellsAreBytes}
use Rattle.play_save.specs.Written.{AreListed, CodeIsBytes}
use Rattle.play_states.specs.Resting.{FirstEntriesHaveStates}
use Rattle.play_inputs.specs.Listings.{line_names}
use Rattle.play_worlds.specs.Worlds.{plan_world}
use Rattle.command_work.specs.Reading.{IsRead}
use Rattle.command_compile.specs.Files.{code_name}
use Rattle.command_meaning.specs.Units.{code_of}
use Rattle.command_plays.specs.Plays.{played_first}
use Rattle.command_save.specs.declared.inputs.HeaderFile.{HeaderFile}
use Rattle.command_save.specs.declared.inputs.AreaFile.{AreaFile}
use Rattle.command_save.specs.Saves.{IsStateAt}
use Rattle.nwq_top.specs.Accepting as accepting
use Rattle.nwq_top.specs.Accepting.{HasLine, HasScripts}
use Rattle.nwq_top.specs.Saves as saving
use Rattle.nwq_top.specs.Saves.{HasHeaderFile, AcceptsSave}
use Rattle.nwq_top.proofs.Headers.{header_of_file, is_table}
use Rattle.nwq_top.proofs.Held.{held_after}
use Rattle.nwq_top.proofs.NoFaults.{lines_are_stacked}

-- ---- what the files hold is bytes

abbrev ByteList : List ℕ → Type 0
ByteList bytes = AllByRecursion (λ b. b < 256) bytes

abbrev AllBytes : Contents → Type 0
AllBytes c = (name bytes : List ℕ) → content c name ≡ Some bytes → ByteList bytes

all_bytes : (c : Contents) → ContentsAreBytes c → AllBytes c
unfolding ContentsAreBytes
all_bytes c held name bytes is = recursion_from_All (λ b. b < 256) bytes (held name bytes is)

read_blob : (c : Contents) (name bytes : List ℕ) → AllBytes c → IsRead c name bytes → IsBlob bytes
read_blob c name bytes held is = (let small = is.small in omega (arith, small), held name bytes is.held)

-- ---- names

neither : (a b : Bool) → (a || b) ≡ false → (a ≡ false) × (b ≡ false)
neither true b e = absurd cc
neither false b e = (refl, e)

none_listed : (name : List ℕ) (lines : List ScriptLine) → is_listed name lines ≡ false
    → AllByRecursion (λ (m : List ℕ). bytes_eq name m ≡ false) (line_names lines)
none_listed name [] e = tt
none_listed name (line ∷ lines) e =
    let both = neither (bytes_eq line.name name) (is_listed name lines) e in
    (nat_list_eq_equiv.symm name line.name ∙ both.0, none_listed name lines both.1)

distinct_lines : (lines : List ScriptLine) → plan_rules.AreListed lines → IsDistinct bytes_eq (line_names lines)
unfolding IsDistinct
distinct_lines [] all = tt
distinct_lines (line ∷ lines) all = (none_listed line.name lines all.1, distinct_lines lines all.2)

-- ---- listed scripts

module _ (code : CodeIsBytes) (table : EngineTable) where
  name_is : (line : ScriptLine) (c d : Contents) (script : Script) → HasLine table c line script d → script.name ≡ line.name
  name_is line c d script (accepting.source e unit h) = refl
  name_is line c d script (accepting.binary e ops h) = refl

  code_is : (line : ScriptLine) (c d : Contents) (script : Script) → HasLine table c line script d → IsCode script.code
  code_is line c d script (accepting.source e unit h) = h.passes.loads
  code_is line c d script (accepting.binary e ops h) = h.code

  line_bytes : (line : ScriptLine) (c d : Contents) (script : Script) → HasLine table c line script d → AllBytes c → AllBytes d
  line_bytes line c d script (accepting.source e unit h) held = λ other bytes is.
      held_after ByteList c (code_name line.name) (unit_file unit) (code (code_of unit) h.passes.loads) other bytes (held other bytes) is
  line_bytes line c d script (accepting.binary e ops h) held = held

  record IsListing (lines : List ScriptLine) (c : Contents) (scripts : List Script) (d : Contents) : Type 0 where
    count : length scripts ≡ length lines
    names : map (λ (s : Script). s.name) scripts ≡ line_names lines
    named : plan_rules.AreListed lines → AllByRecursion (λ (s : Script). IsTrue (is_script_name s.name)) scripts
    codes : AllByRecursion (λ (s : Script). IsCode s.code) scripts
    bytes : AllBytes c → AllBytes d

  listing : (lines : List ScriptLine) (c d : Contents) (scripts : List Script) → HasScripts table lines c scripts d → IsListing lines c scripts d
  listing [] c d scripts (accepting.none _) = record { count = refl; names = refl; named = λ all. tt; codes = tt; bytes = λ held. held }
  listing (line ∷ lines) c d scripts (accepting.more _ _ _ e _ script others h k) =
      let rest = listing lines e d others k in
      let name : script.name ≡ line.name = name_is line c e script h in
      record {
        count = ap suc rest.count;
        names = ap₂ (λ (x : List ℕ) (l : List (List ℕ)). x ∷ l) name rest.names;
        named = λ all. (subst (λ x. IsTrue (is_script_name x)) (sym name) all.0, rest.named all.2);
        codes = (code_is line c e script h, rest.codes);
        bytes = λ held. rest.bytes (line_bytes line c e script h held);
      }

-- ---- the state

module _ (code : CodeIsBytes) (states : FirstEntriesHaveStates) (plans : PlansKeep) (reads : HeadersHaveTables) (own : BuiltInIsTable)
    (cell : CellLookup) (cells : CellsAreBytes cell) (word area plan : List ℕ) (n : ℕ) (c : Contents) (held : ContentsAreBytes c) where
  record IsHeaded (h : HeaderFile) : Type 0 where
    headed : IsHeaderOf h.text h.table
    text : IsMaybe IsBlob h.text

  headed_by : (h : HeaderFile) → HasHeaderFile c word h → IsHeaded h
  headed_by h (saving.built_in e) = record { headed = refl; text = tt }
  headed_by h (saving.read e bytes is table has) = record { headed = (is.small, has); text = read_blob c word bytes (all_bytes c held) is }

  abbrev Ends : HeaderFile → Plan → List Script → PlainArea → Played Saved
  Ends h p scripts x = played_first cell h.table p scripts n (plan_world x p)

  pub state_there : (h : HeaderFile) (p : Plan) (scripts : List Script) (a : AreaFile) (left : Contents) → AcceptsSave word area plan c h p scripts a left
      → (played_first cell h.table p scripts n (plan_world a.area p)).ending ≢ StoppedInside
      → (s : Parts) × IsStateAt h a.bytes p scripts (played_first cell h.table p scripts n (plan_world a.area p)).last s
  state_there h p scripts a left k =
      subst (λ x. (Ends h p scripts x).ending ≢ StoppedInside → (s : Parts) × IsStateAt h a.bytes p scripts (Ends h p scripts x).last s)
      (sym k.reads_area.is) (λ whole.
      let made = states cell h.text scripts listed a.bytes k.reads_area.tree p n cells (is_table reads own c word h.table held (header_of_file c word h k.has_header)) kept
      (record { small = k.reads_area.read.small; stands = k.reads_area.stands; whole = k.reads_area.whole })
      (read_blob left area a.bytes (lines.bytes (all_bytes c held)) k.reads_area.read) whole in
      (made.state, record { form = made.form; accepted = made.accepted; play = made.play; spelled = lines.codes; come = made.come; world = made.world }))
    where
      kept : IsPlan p
      kept = plans k.reads_plan.bytes p k.reads_plan.is

      lines : IsListing code h.table p.scripts c scripts left
      lines = listing code h.table p.scripts c left scripts k.lists

      listed : AreListed h.text scripts
      listed = record {
        table = h.table;
        headed = (headed_by h k.has_header).headed;
        text = (headed_by h k.has_header).text;
        few = (let few = kept.few_scripts in omega (arith, few, lines.count));
        names = lines.named kept.scripts;
        distinct = subst (IsDistinct bytes_eq) (sym lines.names) (distinct_lines p.scripts kept.scripts);
        code = lines.codes;
        stacked = lines_are_stacked h.table p.scripts c left scripts k.lists;
      }
