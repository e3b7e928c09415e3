-- What the whole program reads: first the tables, then what the command reads.
use Rattle.std.proofs.Common.{◌≡◌, ℕ, inl, inr, List, [], Option, None, Some, Result, Ok, Err, refl, sym, subst, append-nil}
use Rattle.nwq_outside.specs.Outside.{Contents}
use Rattle.command_work.specs.declared.status.Status.{Status}
use Rattle.command_work.specs.Work.{CutsShort, Finished, ending}
use Rattle.command_work.specs.Counts.{StopsArea}
use Rattle.command_tables.specs.Reads.{ReadsTables, ReadsSomeTables, some}
use Rattle.command_words.specs.Words.{Form, NoForm, list_of}
use Rattle.nwq_top.specs.Reads.{ReadsOnce, ReadsWhole, goes_on, stops}
use Rattle.nwq.specs.Reads.{ReadsOrNone}
use Rattle.nwq.proofs.EndLemmas.{refusal_ends}

-- all are some
some_of : (list : Option (List ℕ)) (c : Contents) (before now : ℕ) → ReadsTables list c before now → ReadsSomeTables list c before now
some_of None c before now h = h
some_of (Some list) c before now h =
    some h.names h.lists (record { front = h.names; rest = []; parts = sym (append-nil h.names); once = h.once })

pub were_read : (form : Form) (r : Result Finished Status) (c : Contents) (before now : ℕ) → ReadsOnce form r c before now → ReadsOrNone form r c before now
were_read form r c before now h = inl h

-- no memory for the hooks
pub none_left : (form : Form) (status : Status) (c : Contents) (before now : ℕ) → CutsShort status → now ≡ before → ReadsOrNone form (Err status) c before now
none_left form status c before now cut is = inr (cut, is)

pub ruleset or_none = (were_read, none_left)

pub whole_reads : (form : Form) (r : Result Finished Status) (c d : Contents) (before mid now : ℕ) → d ≡ c → ReadsTables (list_of form) c before mid
    → ReadsOrNone form r d mid now → ReadsWhole form r c before now
whole_reads form r c d before mid now same tables (inl h) = goes_on mid tables (subst (λ x. ReadsOnce form r x mid now) same h)
whole_reads form (Ok done) c d before mid now same tables (inr h) = absurd h.0
whole_reads form (Err status) c d before mid now same tables (inr h) =
    stops status refl (subst (λ n. ReadsSomeTables (list_of form) c before n) (sym h.1) (some_of (list_of form) c before mid tables))

-- the tables are refused
pub refused_reads : (form : Form) (status : Status) (c : Contents) (before now : ℕ) → StopsArea status → ReadsSomeTables (list_of form) c before now
    → ReadsWhole form (ending status) c before now
refused_reads form status c before now stays h = stops status (refusal_ends status stays) h

-- words that are no form lead to no file
pub none_read : (r : Result Finished Status) (c : Contents) (count : ℕ) → ReadsWhole NoForm r c count count
none_read r c count = goes_on count refl refl
