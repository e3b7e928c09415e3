-- The work of the whole program does what it means.
use Rattle.std.proofs.Common.{ℕ, List, ◌++◌, Result, Ok, Err, ap, ◌∙◌}
use Rattle.nwq_outside.specs.Outside.{Contents, ContentsAreBytes}
use Rattle.table_2da.specs.Look.{cell_of}
use Rattle.command_work.specs.declared.status.Status.{Status}
use Rattle.command_work.specs.Refusal.{Refusal, line_of, status_of}
use Rattle.command_work.specs.Work.{then, IsCut, Does, Finished}
use Rattle.command_work.specs.Parts.{status_or}
use Rattle.command_work.specs.Outcomes.{agree}
use Rattle.command_work.specs.Sequences.{then_known}
use Rattle.command_work.specs.Comes.{refusal_not_cut, Follows, follows, ends, cuts, then_follows}
use Rattle.command_tables.specs.Tables.{tables_given}
use Rattle.command_tables.specs.Laws.{SureTables}
use Rattle.nwq_top.specs.Refusing.{IsRefused}
use Rattle.command_words.specs.Words.{Form, list_of}
use Rattle.nwq_top.specs.Command.{work_with, whole_work}
use Rattle.nwq_top.specs.GivenTables.{GivesTables, RefusesGiven, TablesCome, refused, accepted}
use Rattle.nwq_top.specs.Meaning.{MeansWhole, WorkMeans, WholeMeans}
use Rattle.nwq_top.proofs.GivenTables.{given_do, given_refuse, given_come}

module _ (works : WorkMeans) (sure : SureTables) (form : Form) (c : Contents) (t : List ℕ) (r : Result Finished Status) (c' : Contents) (t' : List ℕ)
    (held : ContentsAreBytes c) (whole : IsCut r → ⊥) where
  abbrev Goes : Type 0
  Goes = Follows (work_with form) (GivesTables c (list_of form)) (RefusesGiven c (list_of form)) c t r c' t'

  tables_come : Goes → TablesCome c (list_of form)
  tables_come (follows tables gives does) = accepted tables gives
  tables_come (ends why is e p q) = refused why is
  tables_come (cuts x) = absurd (whole x)

  -- what is refused is refused for one cause
  refused_so : (why : Refusal) → RefusesGiven c (list_of form) why → Goes → IsRefused why c t r c' t'
  refused_so why is (follows tables gives does) =
      let same = agree (tables_given (list_of form)) (sure (list_of form)) (Ok tables) (Err (status_of why)) c c c t t (t ++ line_of why) (λ x. x) (refusal_not_cut why)
      (given_do c t (list_of form) tables gives) (given_refuse c t (list_of form) why is) in
      let apart = same.answer in absurd cc
  refused_so why is (ends other so e p q) =
      let same = agree (tables_given (list_of form)) (sure (list_of form)) (Err (status_of other)) (Err (status_of why)) c c c t (t ++ line_of other) (t ++ line_of why)
      (refusal_not_cut other) (refusal_not_cut why) (given_refuse c t (list_of form) other so) (given_refuse c t (list_of form) why is) in
      record { answer = e ∙ ap Err (ap (status_or (status_of why)) same.answer); taken = q ∙ same.taken; contents = p }
  refused_so why is (cuts x) = absurd (whole x)

  in_parts : Does (then (tables_given (list_of form)) (work_with form)) c t r c' t' → MeansWhole form c t r c' t'
  in_parts does =
      let goes : Goes =
      then_follows (work_with form) (GivesTables c (list_of form)) (RefusesGiven c (list_of form)) c t r c' t' (tables_given (list_of form))
      (λ s d k read. given_come c t s d k (list_of form) read) does in
      record {
        comes = tables_come goes;
        refused = λ why is. refused_so why is goes;
        meant = λ tables gives.
            works (cell_of tables) form c t r c' t' held whole
            (then_known (tables_given (list_of form)) (work_with form) (sure (list_of form)) tables c c c' t t t' r whole (given_do c t (list_of form) tables gives) does);
      }

pub whole_means : WorkMeans → SureTables → WholeMeans
unfolding whole_work
whole_means works sure form c t r c' t' held whole does = in_parts works sure form c t r c' t' held whole does
