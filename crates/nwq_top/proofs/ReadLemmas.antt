-- What is said of reads is said of equal words, and by the status with which the work ends.
use Rattle.std.proofs.Common.{◌≡◌, ℕ, List, map, String, Global, string_bytes, Result, Err, sym, subst}
use Rattle.nwq_outside.specs.Outside.{Contents}
use Rattle.command_work.specs.declared.status.Status.{Status}
use Rattle.command_work.specs.declared.status.Status.TheVariants.{Done, Words, Script, Code, Area, Limit, Missing, Fault, Memory, Long}
use Rattle.command_work.specs.Work.{Finished, ending}
use Rattle.command_work.specs.Counts.{Counts, TalliesEnd}
use Rattle.command_words.specs.Words.{Form, form_of}
use Rattle.nwq_top.specs.Reads.{ReadsOnce}

pub form_reads : (form same : Form) (r : Result Finished Status) (c : Contents) (before now : ℕ) → form ≡ same → ReadsOnce same r c before now
    → ReadsOnce form r c before now
form_reads form same r c before now is h = subst (λ f. ReadsOnce f r c before now) (sym is) h

-- a status that stops the work is none with which it is done
pub stop_reads : (status : Status) (before now : Counts) (form : Form) (c : Contents) (n m : ℕ) → TalliesEnd status before now
    → ReadsOnce form (Err status) c n m → ReadsOnce form (ending status) c n m
stop_reads Done before now form c n m tally h = absurd tally
stop_reads Words before now form c n m tally h = h
stop_reads Script before now form c n m tally h = h
stop_reads Code before now form c n m tally h = h
stop_reads Area before now form c n m tally h = h
stop_reads Limit before now form c n m tally h = h
stop_reads Missing before now form c n m tally h = h
stop_reads Fault before now form c n m tally h = h
stop_reads Memory before now form c n m tally h = h
stop_reads Long before now form c n m tally h = h

pub same_reads : (words all : List (String Global)) (told status : Status) (c : Contents) (before now : ℕ) → words ≡ all → told ≡ status
    → ReadsOnce (form_of (map string_bytes words)) (ending told) c before now → ReadsOnce (form_of (map string_bytes all)) (ending status) c before now
same_reads words all told status c before now same is h =
    subst (λ s. ReadsOnce (form_of (map string_bytes all)) (ending s) c before now) is
    (subst (λ ws. ReadsOnce (form_of (map string_bytes ws)) (ending told) c before now) same h)
