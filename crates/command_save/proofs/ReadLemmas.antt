-- What a play that is saved found of its header and its area, a play finds too.
use Rattle.std.proofs.Common.{◌≡◌, ℕ, Bool, true, false, inl, inr, List, Some, Ok, refl, ap, sym, subst, ◌∙◌}
use Rattle.std.specs.Prelude.{codes, bytes_eq}
use Rattle.nwq_value.specs.Engine.{EngineTable}
use Rattle.nwq_value.specs.HeaderTable.{header_table}
use Rattle.nwq_text.specs.Line.{line_number}
use Rattle.nwq_outside.specs.Outside.{Contents, content, with_content}
use Rattle.nwq_outside.specs.ContentLemmas.{written_under}
use Rattle.engine_table.specs.Headers.{HasTable}
use Rattle.play_save.specs.Rules.{IsHeaderOf}
use Rattle.command_work.specs.declared.cause.Cause.TheVariants as cause
use Rattle.command_work.specs.Refusal.{Refusal, At, status_of}
use Rattle.command_work.specs.Work.{Work, Gives, Refused, then, makes, Does, file_named}
use Rattle.command_work.specs.Parts.{value_or, ok_not_err, makes_does, then_ok}
use Rattle.command_work.specs.Sequences.{Parts, GoesOn, ends_first, goes_on, parts}
use Rattle.command_work.specs.Reading.{IsRead, IsUnread}
use Rattle.command_work.specs.Comes.{Came, gave, stopped, cut, file_comes}
use Rattle.command_sources.specs.Headers as headers
use Rattle.command_sources.specs.Headers.{HeaderFate, IsHeaderFate, table_by, table_in, table_named, table_unless, table_of_word}
use Rattle.command_files.specs.Trees.{tree_in, tree_named}
use Rattle.play_inputs.specs.Areas as inputs
use Rattle.play_inputs.specs.Areas.{area_of_bytes}
use Rattle.command_save.specs.declared.inputs.HeaderFile.{HeaderFile}
use Rattle.command_save.specs.declared.inputs.AreaFile.{AreaFile}
use Rattle.command_save.specs.Inputs.{built_in, header_file, header_in, header_named, header_unless, header_of, area_file, area_in, area_named}

-- ---- parts that gave a value

-- a work that was done whole did both its parts
pub went_on : {A B : Type 0} (w : Work A) (f : A → Work B) (b : B) (c c' : Contents) (t t' : List ℕ) → Does (then w f) c t (Ok b) c' t' → GoesOn w f c t (Ok b) c' t'
went_on w f b c c' t t' does = by_parts (parts w f c c' t t' (Ok b) does)
  where
    by_parts : Parts w f c t (Ok b) c' t' → GoesOn w f c t (Ok b) c' t'
    by_parts (ends_first h) = absurd (ok_not_err b h.status h.is)
    by_parts (goes_on h) = h

-- what is given is the value, and nothing was done
pub record IsGiven {A : Type 0} (a b : A) (c c' : Contents) (t t' : List ℕ) : Type 0 where
  pub value : b ≡ a
  pub contents : c' ≡ c
  pub taken : t' ≡ t

pub given : {A : Type 0} (a b : A) (c c' : Contents) (t t' : List ℕ) → Does (Gives a) c t (Ok b) c' t' → IsGiven a b c c' t t'
given a b c c' t t' (is, s) = record { value = ap (value_or a) is; contents = s.0; taken = s.1 }

pub made : {A : Type 0} (a b : A) (c c' : Contents) (t t' : List ℕ) → Does (makes a) c t (Ok b) c' t' → IsGiven a b c c' t t'
made a b c c' t t' (inl x) = absurd x.0
made a b c c' t t' (inr h) =
    let is = given h.found b c c' t t' h.goes in record { value = is.value ∙ h.is; contents = is.contents; taken = is.taken }

-- the file that was read is there
pub was_read : (c c' : Contents) (t t' : List ℕ) (name bytes : List ℕ) → Does (file_named name) c t (Ok bytes) c' t' → IsRead c name bytes
was_read c c' t t' name bytes does = by_came (file_comes c t name (Ok bytes) c' t' does)
  where
    by_came : Came (IsRead c name) (IsUnread c name) c t (Ok bytes) c' t' → IsRead c name bytes
    by_came (gave a has is p q) = subst (IsRead c name) (sym (ap (value_or bytes) is)) has
    by_came (stopped why lacks is p q) = absurd (ok_not_err bytes (status_of why) is)
    by_came (cut x) = absurd x

-- ---- what is written is there

pub held_here : (c d : Contents) (name bytes : List ℕ) → d ≡ with_content c name bytes → content d name ≡ Some bytes
held_here c d name bytes is = ap (λ (x : Contents). content x name) is ∙ written_under c name bytes name refl

-- ---- the header

pub record FoundHeader (word : List ℕ) (h : HeaderFile) (c c' : Contents) (t t' : List ℕ) : Type 0 where
  pub table : Does (table_of_word word) c t (Ok h.table) c' t'
  pub is : IsHeaderOf h.text h.table

refused_gives : {A : Type 0} (why : Refusal) (a : A) (c c' : Contents) (t t' : List ℕ) → Does {A = A} (Refused why) c t (Ok a) c' t' → ⊥
refused_gives why a c c' t t' (inl p, s) = ok_not_err a (status_of why) p.0
refused_gives why a c c' t t' (inr x, s) = x.0

fate_has : (name text : List ℕ) (fate : HeaderFate) (table : EngineTable) (c c' : Contents) (t t' : List ℕ) → IsHeaderFate text fate
    → Does (table_by name text fate) c t (Ok table) c' t' → HasTable text table
fate_has name text fate table c c' t t' (headers.whole own has) does = subst (HasTable text) (sym (given own table c c' t t' does).value) has
fate_has name text fate table c c' t t' (headers.bad place fails) does = absurd (refused_gives (At name (line_number text place) place cause.Bad) table c c' t t' does)
fate_has name text fate table c c' t t' (headers.header place fails) does = absurd (refused_gives (At name (line_number text place) place cause.Header) table c c' t t' does)
fate_has name text fate table c c' t t' (headers.twice place fails) does = absurd (refused_gives (At name (line_number text place) place cause.Twice) table c c' t t' does)
fate_has name text fate table c c' t t' (headers.many place fails) does = absurd (refused_gives (At name (line_number text place) place cause.Many) table c c' t t' does)

text_has : (name text : List ℕ) (table : EngineTable) (c c' : Contents) (t t' : List ℕ) → Does (table_in name text) c t (Ok table) c' t' → HasTable text table
unfolding table_in
text_has name text table c c' t t' (inl x) = absurd x.0
text_has name text table c c' t t' (inr h) = fate_has name text h.found table c c' t t' h.is h.goes

file_found : (name : List ℕ) (h : HeaderFile) (c c' : Contents) (t t' : List ℕ) → Does (header_named name) c t (Ok h) c' t' → Does (table_named name) c t (Ok h.table) c' t' × IsHeaderOf h.text h.table
unfolding header_named header_in table_named
file_found name h c c' t t' does =
    let first = went_on (file_named name) (header_in name) h c c' t t' does in
    let text = first.value in
    let small = (was_read c first.between t first.taken name text first.first).small in
    let next = went_on (table_in name text) (λ table. Gives (header_file text table)) h first.between c' first.taken t' first.second in
    let is = given (header_file text next.value) h next.between c' next.taken t' next.second in
    let table : Does (table_in name text) first.between first.taken (Ok next.value) c' t' =
    subst (λ (x : Contents). Does (table_in name text) first.between first.taken (Ok next.value) x t') (sym is.contents)
    (subst (λ (x : List ℕ). Does (table_in name text) first.between first.taken (Ok next.value) next.between x) (sym is.taken) next.first) in
    let has = text_has name text next.value first.between c' first.taken t' table in
    subst (λ (x : HeaderFile). Does (then (file_named name) (table_in name)) c t (Ok x.table) c' t' × IsHeaderOf x.text x.table) (sym is.value)
    (then_ok (file_named name) (table_in name) text c first.between c' t first.taken t' (Ok next.value) first.first table, (small, has))

word_found : (word : List ℕ) (dash : Bool) (h : HeaderFile) (c c' : Contents) (t t' : List ℕ) → Does (header_unless dash word) c t (Ok h) c' t'
    → Does (table_unless dash word) c t (Ok h.table) c' t' × IsHeaderOf h.text h.table
word_found word true h c c' t t' does =
    let is = made built_in h c c' t t' does in
    (makes_does header_table h.table c c' t t' (ap (λ (x : HeaderFile). x.table) is.value) is.contents is.taken, subst (λ (x : HeaderFile). IsHeaderOf x.text x.table) (sym is.value) refl)
word_found word false h c c' t t' does = file_found word h c c' t t' does

pub header_found : (word : List ℕ) (h : HeaderFile) (c c' : Contents) (t t' : List ℕ) → Does (header_of word) c t (Ok h) c' t' → FoundHeader word h c c' t t'
unfolding header_of table_of_word
header_found word h c c' t t' does =
    let found = word_found word (bytes_eq word (codes "-")) h c c' t t' does in
    record { table = found.0; is = found.1 }

-- ---- the area

pub area_found : (name : List ℕ) (a : AreaFile) (c c' : Contents) (t t' : List ℕ) → Does (area_named name) c t (Ok a) c' t'
    → Does (inputs.area_named name) c t (Ok a.area) c' t'
unfolding area_named area_in area_of_bytes inputs.area_named tree_named
area_found name a c c' t t' does =
    let first = went_on (file_named name) (area_in name) a c c' t t' does in
    let bytes = first.value in
    let next = went_on (then (tree_in name bytes) (inputs.area_in name)) (λ area. Gives (area_file bytes area)) a first.between c' first.taken t' first.second in
    let is = given (area_file bytes next.value) a next.between c' next.taken t' next.second in
    let tree = went_on (tree_in name bytes) (inputs.area_in name) next.value first.between next.between first.taken next.taken next.first in
    let named : Does (then (file_named name) (tree_in name)) c t (Ok tree.value) tree.between tree.taken =
    then_ok (file_named name) (tree_in name) bytes c first.between tree.between t first.taken tree.taken (Ok tree.value) first.first tree.first in
    let whole : Does (then (then (file_named name) (tree_in name)) (inputs.area_in name)) c t (Ok next.value) next.between next.taken =
    then_ok (then (file_named name) (tree_in name)) (inputs.area_in name) tree.value c tree.between next.between t tree.taken next.taken (Ok next.value) named tree.second in
    subst (λ (x : AreaFile). Does (then (then (file_named name) (tree_in name)) (inputs.area_in name)) c t (Ok x.area) c' t') (sym is.value)
    (subst (λ (x : Contents). Does (then (then (file_named name) (tree_in name)) (inputs.area_in name)) c t (Ok next.value) x t') (sym is.contents)
    (subst (λ (x : List ℕ). Does (then (then (file_named name) (tree_in name)) (inputs.area_in name)) c t (Ok next.value) next.between x) (sym is.taken) whole))
