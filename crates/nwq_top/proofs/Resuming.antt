-- What `resume` does.
use Rattle.std.proofs.lemmas.List.Elements.{All-from_recursion}
use Rattle.std.proofs.Common.{◌≡◌, ◌<◌, ℕ, List, ◌++◌, Option, None, Some, Result, Ok, Err, inl, inr, refl, sym, subst}
use Rattle.nwq_value.specs.Engine.{EngineTable, IsTable}
use Rattle.nwq_outside.specs.Outside.{Contents}
use Rattle.engine_table.specs.KeptTables.{HeadersHaveTables, BuiltInIsTable}
use Rattle.world_rules.specs.Pure.{CellLookup}
use Rattle.state_format.specs.declared.parts.Parts.{Parts}
use Rattle.state_format.specs.Parts.{IsBlob, IsMaybe}
use Rattle.state_format.specs.Place.{StateOf}
use Rattle.play_save.specs.Rules.{IsHeaderOf}
use Rattle.module_player.specs.CodePlays.{played_before}
use Rattle.command_work.specs.declared.flaw.AreaFlaw.TheVariants as flaw
use Rattle.command_work.specs.declared.status.Status.{Status}
use Rattle.command_work.specs.Refusal.{Refusal, BadArea, line_of, status_of}
use Rattle.command_work.specs.Work.{IsCut, Does, Finished, file_named}
use Rattle.command_work.specs.Parts.{then_ok, then_err}
use Rattle.command_work.specs.Reading.{IsRead, IsUnread}
use Rattle.command_work.specs.Sequences.{then_known}
use Rattle.command_work.specs.Comes.{Came, cut, Follows, follows, ends, cuts, then_follows, then_comes, given_comes, refusal_comes, refusal_not_cut, gives_does, refused_does, read_does, unread_does}
use Rattle.command_work.specs.Comes.{file_comes}
use Rattle.command_meaning.specs.CodeEnds.{CheckedPlaysGoOn}
use Rattle.command_play.specs.Games.{tells}
use Rattle.command_save.specs.Resumes as resuming
use Rattle.command_save.specs.Resumes.{StateFate, IsStateFate, state_by, state_in, state_named, Going, GoesFrom, played_rest, resumes_from, resumes_state, resumes}
use Rattle.command_save.specs.Laws.{SureStates, SureResumes, StatesGoSafely, OneGoing, SavedPlaysGoOn}
use Rattle.nwq_top.specs.Refusing.{IsRefused}
use Rattle.nwq_top.specs.Saves.{ReadsState, RefusesState, unread, stops, unfit, StateComes, refused, accepted, rest_entries, MeansResume}
use Rattle.nwq_top.specs.WordLaws.{ResumesMean}
use Rattle.nwq_top.proofs.Running.{as_refused}

-- ---- a state that is read

module _ (c : Contents) (t : List ℕ) (name : List ℕ) where
  state_does : (s : Parts) → ReadsState c name s → Does (state_named name) c t (Ok s) c t
  unfolding state_named state_in
  state_does s h =
      then_ok (file_named name) (state_in name) h.bytes c c c t t t (Ok s) (read_does c t name h.bytes h.read)
      (inr (record { found = resuming.Whole s; is = resuming.whole s h.is h.accepted; goes = gives_does s c t }))

  pub state_refuses : (why : Refusal) → RefusesState c name why → Does (state_named name) c t (Err (status_of why)) c (t ++ line_of why)
  unfolding state_named state_in
  state_refuses why (unread _ is) = then_err (file_named name) (state_in name) (status_of why) c c t (t ++ line_of why) (unread_does c t name why is)
  state_refuses why (stops bytes read place is) =
      then_ok (file_named name) (state_in name) bytes c c c t t (t ++ line_of why) (Err (status_of why)) (read_does c t name bytes read)
      (inr (record { found = resuming.Stops place; is = resuming.stops place is; goes = refused_does (BadArea name (flaw.State place)) c t }))
  state_refuses why (unfit bytes read s rule of is) =
      then_ok (file_named name) (state_in name) bytes c c c t t (t ++ line_of why) (Err (status_of why)) (read_does c t name bytes read)
      (inr (record { found = resuming.Unfit rule; is = resuming.unfit s rule of is; goes = refused_does (BadArea name (flaw.Unfit rule)) c t }))

  module _ (r : Result Parts Status) (c' : Contents) (t' : List ℕ) where
    abbrev Comes : Type 0
    Comes = Came (ReadsState c name) (RefusesState c name) c t r c' t'

    fate_comes : (bytes : List ℕ) → IsRead c name bytes → (fate : StateFate) → IsStateFate bytes fate → Does (state_by name fate) c t r c' t' → Comes
    fate_comes bytes read (resuming.Whole s) (resuming.whole _ of keeps) does =
        given_comes (ReadsState c name) (RefusesState c name) c t r c' t' s (record { bytes = bytes; read = read; is = of; accepted = keeps }) does
    fate_comes bytes read (resuming.Stops place) (resuming.stops _ is) does =
        refusal_comes (ReadsState c name) (RefusesState c name) c t r c' t' (BadArea name (flaw.State place)) (stops bytes read place is) does
    fate_comes bytes read (resuming.Unfit rule) (resuming.unfit s _ of is) does =
        refusal_comes (ReadsState c name) (RefusesState c name) c t r c' t' (BadArea name (flaw.Unfit rule)) (unfit bytes read s rule of is) does

    in_comes : (bytes : List ℕ) → IsRead c name bytes → Does (state_in name bytes) c t r c' t' → Comes
    unfolding state_in
    in_comes bytes read (inl x) = cut x.0
    in_comes bytes read (inr h) = fate_comes bytes read h.found h.is h.goes

    pub state_comes : Does (state_named name) c t r c' t' → Comes
    unfolding state_named
    state_comes does =
        then_comes (file_named name) (state_in name) (IsRead c name) (IsUnread c name) (ReadsState c name) (RefusesState c name) c t r c' t'
        (file_comes c t name) in_comes unread does

-- ---- what it goes on from

-- the table of a state's header keeps what every table keeps
state_table : HeadersHaveTables → BuiltInIsTable → (bytes : List ℕ) (s : Parts) (header : Option (List ℕ)) (table : EngineTable) → StateOf bytes s → s.header ≡ header
    → IsHeaderOf header table → IsTable table
state_table reads own bytes s None table of same is = subst IsTable (sym is) own
state_table reads own bytes s (Some text) table of same is =
    let blob : IsMaybe IsBlob (Some text) = subst (IsMaybe IsBlob) same of.form.header in reads text table (All-from_recursion (λ b. b < 256) text blob.1) is.1

-- ---- the command

module _ (states : SureStates) (sure : SureResumes) (one : OneGoing) (safe : StatesGoSafely) (go_on : CheckedPlaysGoOn) (unbroken : SavedPlaysGoOn) (reads : HeadersHaveTables) (own : BuiltInIsTable)
    (cell : CellLookup) (name to : List ℕ) (c : Contents) (t : List ℕ) (r : Result Finished Status) (c' : Contents) (t' : List ℕ) (whole : IsCut r → ⊥) where
  state_goes : (s : Parts) → ReadsState c name s → Does (resumes_state cell to s) c t r c' t' → StateComes c name
  unfolding resumes_state
  state_goes s has (inl x) = absurd (whole x.0)
  state_goes s has (inr h) = accepted s h.found has h.is

  comes_of : Follows (resumes_state cell to) (ReadsState c name) (RefusesState c name) c t r c' t' → StateComes c name
  comes_of (follows s has does) = state_goes s has does
  comes_of (ends why is e p q) = refused why is
  comes_of (cuts x) = absurd (whole x)

  resume_comes : Does (resumes cell name to) c t r c' t' → StateComes c name
  unfolding resumes
  resume_comes does = comes_of (then_follows (resumes_state cell to) (ReadsState c name) (RefusesState c name) c t r c' t' (state_named name) (state_comes c t name) does)

  resume_refused : (why : Refusal) → RefusesState c name why → Does (resumes cell name to) c t r c' t' → IsRefused why c t r c' t'
  unfolding resumes
  resume_refused why is does =
      as_refused (resumes cell name to) (sure cell name to) why c c c' t t' r whole (refusal_not_cut why)
      (then_err (state_named name) (resumes_state cell to) (status_of why) c c t (t ++ line_of why) (state_refuses c t name why is)) does

  found_goes : (s : Parts) (g : Going) → GoesFrom s g → Does (resumes_state cell to s) c t r c' t' → Does (tells to g.scripts (played_rest cell s g)) c t r c' t'
  unfolding resumes_state resumes_from
  found_goes s g from (inl x) = absurd (whole x.0)
  found_goes s g from (inr h) =
      subst (λ (x : Going). Does (tells to x.scripts (played_rest cell s x)) c t r c' t') (one s h.found g h.is from) h.goes

  resume_goes : (s : Parts) (g : Going) → ReadsState c name s → GoesFrom s g → Does (resumes cell name to) c t r c' t'
      → Does (tells to g.scripts (played_rest cell s g)) c t r c' t'
  unfolding resumes
  resume_goes s g has from does =
      found_goes s g from (then_known (state_named name) (resumes_state cell to) (states name) s c c c' t t t' r whole (state_does c t name s has) does)

  pub resume_means : Does (resumes cell name to) c t r c' t' → MeansResume cell name to c t r c' t'
  resume_means does = record {
    comes = resume_comes does;
    refused = λ why is. resume_refused why is does;
    played = λ s g has from. resume_goes s g has from does;
    no_fault = λ s g has from.
        let k = safe s g has.accepted from in
        go_on cell g.table g.scripts k.tables s.limit (rest_entries s) (played_before s.taken s.done g.world)
        (state_table reads own has.bytes s s.header g.table has.is refl from.header) k.meet k.fit;
    unbroken = λ header area plan n first left all k told full done s saved same played uncut.
        unbroken cell header area plan name to n first left c c' all k told t t' full done r s saved same does whole played uncut;
  }

pub resumes_mean : SureStates → SureResumes → OneGoing → StatesGoSafely → CheckedPlaysGoOn → SavedPlaysGoOn → HeadersHaveTables → BuiltInIsTable → ResumesMean
resumes_mean states sure one safe go_on unbroken reads own cell name to c t r c' t' whole does =
    resume_means states sure one safe go_on unbroken reads own cell name to c t r c' t' whole does
