-- What may end the program before a command begins: the tables are refused, or there is no memory
-- for the hooks.
use Rattle.std.proofs.Common.{◌≡◌, ℕ, List, Option, None, Result, Ok, Err, sym, refl, subst}
use Rattle.table_2da.specs.declared.tables.Named.{Named}
use Rattle.command_work.specs.declared.status.Status.{Status}
use Rattle.command_work.specs.declared.status.Status.TheVariants.{Done, Words, Script, Code, Area, Limit, Missing, Fault, Memory, Long}
use Rattle.hook_table.specs.declared.hook.Known.{Known}
use Rattle.world_core.specs.Calls.{cells_of, tables_of}
use Rattle.nwq_outside.specs.Outside.{Contents}
use Rattle.command_work.specs.Work.{Does, CutsShort, Finished, ending}
use Rattle.command_work.specs.Counts.{StopsArea, Counts, Tallies, TalliesEnd}
use Rattle.command_work.specs.Parts.{cut_here, then_ok, then_err}
use Rattle.command_tables.specs.Tables.{tables_given}
use Rattle.table_2da.specs.Look.{cell_of}
use Rattle.command_words.specs.Words.{Form, Run, Compile, Tree, Check, Disassemble, Assemble, Play, Generate, Save, Resume, NoForm, list_of}
use Rattle.nwq_top.specs.Begins.{command_may, whole_may}
use Rattle.nwq_top.specs.Command.{work_of, work_with, whole_work}
use Rattle.nwq_top.specs.Endings.{ComesOf}

-- memory may be wanted for every form of words
pub memory_comes : (form : Form) → ComesOf form Memory
memory_comes (Run header script) = tt
memory_comes (Compile header script) = tt
memory_comes (Tree file) = tt
memory_comes (Check header file) = tt
memory_comes (Disassemble file to) = tt
memory_comes (Assemble file to) = tt
memory_comes (Play header area plan to list) = tt
memory_comes (Generate number) = tt
memory_comes (Save header area plan entries state list) = tt
memory_comes (Resume state to list) = tt
memory_comes NoForm = tt

play_comes : (header area plan to : List ℕ) (list : Option (List ℕ)) (status : Status) → StopsArea status → ComesOf (Play header area plan to list) status
play_comes header area plan to list Done h = absurd h
play_comes header area plan to list Words h = absurd h
play_comes header area plan to list Script h = absurd h
play_comes header area plan to list Code h = absurd h
play_comes header area plan to list Area h = tt
play_comes header area plan to list Limit h = absurd h
play_comes header area plan to list Missing h = tt
play_comes header area plan to list Fault h = tt
play_comes header area plan to list Memory h = tt
play_comes header area plan to list Long h = tt

resume_comes : (state to : List ℕ) (list : Option (List ℕ)) (status : Status) → StopsArea status → ComesOf (Resume state to list) status
resume_comes state to list Done h = absurd h
resume_comes state to list Words h = absurd h
resume_comes state to list Script h = absurd h
resume_comes state to list Code h = absurd h
resume_comes state to list Area h = tt
resume_comes state to list Limit h = absurd h
resume_comes state to list Missing h = tt
resume_comes state to list Fault h = tt
resume_comes state to list Memory h = tt
resume_comes state to list Long h = tt

abbrev IsGiven : Result (List Named) ℕ → List Named → Type 0
IsGiven r tables = r ≡ Ok tables

abbrev Gave : Result (List Named) ℕ → Type 0
Gave (Ok tables) = Unit {0}
Gave (Err number) = ⊥

-- tables that were refused aren't given
pub none_refused : (number : ℕ) (tables : List Named) → IsGiven (Err number) tables → ⊥
none_refused number tables given = subst Gave (sym given) tt

-- only words that give a list have tables that may be refused
pub refusal_comes : (form : Form) (status : Status) → (list_of form ≡ None → ⊥) → StopsArea status → ComesOf form status
refusal_comes (Run header script) status list h = absurd (list refl)
refusal_comes (Compile header script) status list h = absurd (list refl)
refusal_comes (Tree file) status list h = absurd (list refl)
refusal_comes (Check header file) status list h = absurd (list refl)
refusal_comes (Disassemble file to) status list h = absurd (list refl)
refusal_comes (Assemble file to) status list h = absurd (list refl)
refusal_comes (Play header area plan to given) status list h = play_comes header area plan to given status h
refusal_comes (Generate number) status list h = absurd (list refl)
refusal_comes (Save header area plan entries state given) status list h = play_comes header area plan state given status h
refusal_comes (Resume state to given) status list h = resume_comes state to given status h
refusal_comes NoForm status list h = absurd (list refl)

-- a refusal of tables is no end of a command that did its work
pub refusal_ends : (status : Status) → StopsArea status → ending status ≡ Err status
refusal_ends Done h = absurd h
refusal_ends Words h = refl
refusal_ends Script h = refl
refusal_ends Code h = refl
refusal_ends Area h = refl
refusal_ends Limit h = refl
refusal_ends Missing h = refl
refusal_ends Fault h = refl
refusal_ends Memory h = refl
refusal_ends Long h = refl

-- ---- the works

-- hooks that have these tables look cells up in them
pub same_cells : (form : Form) (hooks : List Known) (tables : List Named) (r : Result Finished Status) (c c' : Contents) (t t' : List ℕ)
    → tables_of hooks ≡ tables → Does (work_of (cells_of hooks) form) c t r c' t' → Does (work_with form tables) c t r c' t'
same_cells form hooks tables r c c' t t' same does = subst (λ ts. Does (work_of (cell_of ts) form) c t r c' t') same does

-- the work of the words goes on with the tables that were read
pub whole_goes_on : (form : Form) (tables : List Named) (r : Result Finished Status) (c c1 c2 : Contents) (t t1 t2 : List ℕ)
    → Does (tables_given (list_of form)) c t (Ok tables) c1 t1 → Does (work_with form tables) c1 t1 r c2 t2 → Does (whole_work form) c t r c2 t2
unfolding whole_work
whole_goes_on form tables r c c1 c2 t t1 t2 read does = then_ok (tables_given (list_of form)) (work_with form) tables c c1 c2 t t1 t2 r read does

-- and ends where they are refused
pub whole_ends : (form : Form) (status : Status) (c c' : Contents) (t t' : List ℕ) → StopsArea status
    → Does (tables_given (list_of form)) c t (Err status) c' t' → Does (whole_work form) c t (ending status) c' t'
unfolding whole_work
whole_ends form status c c' t t' stops read =
    subst (λ r. Does (whole_work form) c t r c' t') (sym (refusal_ends status stops))
    (then_err (tables_given (list_of form)) (work_with form) status c c' t t' read)

pub refusal_tallies : (status : Status) (before now : Counts) → StopsArea status → TalliesEnd status before now → Tallies (ending status) before now
refusal_tallies status before now stops tally = subst (λ r. Tallies r before now) (sym (refusal_ends status stops)) tally

-- the hooks, or the words themselves, are still to be made
pub command_cut : (form : Form) (tables : List Named) (e : Status) (c c' : Contents) (t t' : List ℕ) → CutsShort e → c' ≡ c → t' ≡ t
    → Does (work_with form tables) c t (Err e) c' t'
command_cut form tables e c c' t t' cut p q = cut_here (work_with form tables) e c c' t t' (command_may (cell_of tables) form) cut p q

pub whole_cut : (form : Form) (e : Status) (c c' : Contents) (t t' : List ℕ) → CutsShort e → c' ≡ c → t' ≡ t
    → Does (whole_work form) c t (Err e) c' t'
whole_cut form e c c' t t' cut p q = cut_here (whole_work form) e c c' t t' (whole_may form) cut p q

pub ruleset program_ends = (memory_comes, refusal_comes, whole_goes_on, whole_ends, refusal_tallies)
