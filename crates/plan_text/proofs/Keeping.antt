-- What every plan keeps, from what each line gives.
use Rattle.std.proofs.Common.{◌≡◌, ℕ, ◌+◌, ◌<◌, ◌≤◌, ◌⊎◌, inl, inr, Bool, true, false, ◌||◌, cond, nat_lt, IsTrue, List, [], ◌∷◌, ◌++◌, length, Option, Some, None, Result, Ok, Err, refl, sym, ap}
use Rattle.std.proofs.Common.{◌∙◌, subst, arith, length-append}
use Rattle.std.proofs.lemmas.Bool.Decides.{nat_tests}
use Rattle.std.proofs.lemmas.Option.{none-some}
use Rattle.std.proofs.lemmas.Slice.Eq.{bytes_eq-Decides}
use Rattle.std.specs.List.{AllByRecursion}
use Rattle.std.specs.Str.{bytes_eq}
use Rattle.nwq_value.specs.Limits.{time_limit, random_limit, event_limit, script_limit, instruction_limit, entry_limit, default_instruction_limit, default_entry_limit, default_until}
use Rattle.plan_text.specs.declared.plan.Script.{Script}
use Rattle.plan_text.specs.declared.plan.Line.{Line}
use Rattle.plan_text.specs.Words as word
use Rattle.plan_text.specs.Words.{Word}
use Rattle.plan_text.specs.Fields.{within, number_between, greatest_nth, greatest_random}
use Rattle.nwq_text.specs.Names.{is_script_name}
use Rattle.nwq_text.specs.Number.{number_of}
use Rattle.plan_text.specs.Plans.{Draft, Adds, one, more, one_more, with_number, given_once, IsEvent, IsStart, IsFreeStart, Plans, Lists, is_listed, ReadsBehind, Reads, empty, remark, says}
use Rattle.plan_text.specs.Plans.{Comes, whole, more, stops, Gives, headed, headless, nothing, plan_of, or_default, IsVersion, IsBetween, AreRandoms, AreListed, IsLine, IsPlan, PlansKeep}
use Rattle.plan_text.specs.Plans.{IsLineOf, FaultsLieInside}
use Rattle.plan_text.specs.Plans as plans

-- ---- one line

between : (low high : ℕ) (o : Option ℕ) (n : ℕ) → within low high o ≡ Some n → IsBetween low high n
between low high None n e = absurd (none-some n e)
between low high (Some m) n e = grind (arith, nat_tests)

between_digits : (low high : ℕ) (digits : List ℕ) (n : ℕ) → number_between low high digits ≡ Some n → IsBetween low high n
between_digits low high digits n e = between low high (number_of digits) n e

given : (o p : Option ℕ) (n : ℕ) → given_once o p ≡ Some n → p ≡ Some n
given None p n e = e
given (Some m) p n e = absurd (none-some n e)

each_last : {A : Type 0} (P : A → Type 0) (xs : List A) (x : A) → AllByRecursion P xs → P x → AllByRecursion P (xs ++ x ∷ [])
each_last P [] x h p = (p, tt)
each_last P (y ∷ ys) x h p = (h.0, each_last P ys x h.1 p)

one_longer : {A : Type 0} (xs : List A) (x : A) (n : ℕ) → length xs < n → length (xs ++ x ∷ []) ≤ n
one_longer xs x n h = rw length-append (omega arith)

-- ---- random numbers

record FewRandoms (numbers : List ℕ) : Type 0 where
  few : length numbers ≤ random_limit
  each : AreRandoms numbers

room_of : (t : Bool) (xs after : List ℕ) → cond t (Some xs) None ≡ Some after → (t ≡ true) × (xs ≡ after)
room_of true xs after e = (refl, cc)
room_of false xs after e = absurd (none-some after e)

with_one : (numbers after : List ℕ) (o : Option ℕ) → ((n : ℕ) → o ≡ Some n → n ≤ greatest_random) → with_number numbers o ≡ Some after → FewRandoms numbers
    → FewRandoms after
with_one numbers after None small e h = absurd (none-some after e)
with_one numbers after (Some n) small e h =
    let room = room_of (nat_lt (length numbers) random_limit) (numbers ++ n ∷ []) after e
    in let fits : length numbers < random_limit = grind (arith, nat_tests, room.0)
    in subst FewRandoms room.1 (record {
      few = one_longer numbers n random_limit fits;
      each = each_last (λ m. m ≤ greatest_random) numbers n h.each (small n refl);
    })

one_added : (numbers digits after : List ℕ) → one_more numbers digits ≡ Some after → FewRandoms numbers → FewRandoms after
one_added numbers digits after e h =
    with_one numbers after (number_between 0 greatest_random digits) (λ n is. (between_digits 0 greatest_random digits n is).1) e h

added : (numbers digits after : List ℕ) → Adds numbers digits after → FewRandoms numbers → FewRandoms after
added numbers digits after (one n d a e) h = one_added n d a e h
added numbers digits after (more n d between rest a e on) h = added between rest a on (one_added n d between e h)

-- ---- scripts

other_way : (a b : List ℕ) → bytes_eq a b ≡ false → bytes_eq b a ≡ false
other_way a b e = by_test (bytes_eq b a) refl
  where
    by_test : (t : Bool) → bytes_eq b a ≡ t → bytes_eq b a ≡ false
    by_test false is = is
    by_test true is = let same : bytes_eq a b ≡ true = (bytes_eq-Decides a b).1 (sym ((bytes_eq-Decides b a).0 is)) in absurd cc

neither_listed : (a b : Bool) → (a || b) ≡ false → (a ≡ false) × (b ≡ false)
neither_listed true b e = absurd cc
neither_listed false b e = (refl, e)

listed_last : (name : List ℕ) (scripts : List Script) (s : Script) → is_listed name scripts ≡ false → bytes_eq s.name name ≡ false
    → is_listed name (scripts ++ s ∷ []) ≡ false
listed_last name [] s h e = ap (λ t. t || false) e
listed_last name (x ∷ xs) s h e =
    let parts = neither_listed (bytes_eq x.name name) (is_listed name xs) h
    in ap (λ t. t || is_listed name (xs ++ s ∷ [])) parts.0 ∙ listed_last name xs s parts.1 e

are_listed_last : (scripts : List Script) (s : Script) → AreListed scripts → IsTrue (is_script_name s.name) → is_listed s.name scripts ≡ false
    → AreListed (scripts ++ s ∷ [])
are_listed_last [] s h named fresh = (named, refl, tt)
are_listed_last (x ∷ xs) s h named fresh =
    let parts = neither_listed (bytes_eq x.name s.name) (is_listed s.name xs) fresh
    in (h.0, listed_last x.name xs s h.1 (other_way x.name s.name parts.0), are_listed_last xs s h.2 named parts.1)

-- ---- events and starts

event_line : (rest : List ℕ) (line : Line) → IsEvent rest line → IsLine line
event_line rest line e =
    subst IsLine (sym e.is) ((between_digits 0 time_limit e.due e.at e.time).1, (between_digits 0 greatest_nth e.nth e.number e.count).1, e.labels, e.tags.textual)

start_line : (rest : List ℕ) (line : Line) → IsStart rest line ⊎ IsFreeStart rest line → IsLine line
start_line rest line (inl e) =
    subst IsLine (sym e.is) ((between_digits 0 time_limit e.due e.at e.time).1, (between_digits 0 greatest_nth e.nth e.number e.count).1, e.names, e.tags.textual)
start_line rest line (inr e) = subst IsLine (sym e.is) ((between_digits 0 time_limit e.due e.at e.time).1, e.names)

-- ---- what the lines so far give

abbrev Given : ℕ → ℕ → Option ℕ → Type 0
Given low high None = Unit {0}
Given low high (Some n) = IsBetween low high n

record IsDraft (d : Draft) : Type 0 where
  version : IsVersion d.version
  limit : Given 1 instruction_limit d.limit
  entries : Given 1 entry_limit d.entries
  until : Given 0 time_limit d.until
  randoms : FewRandoms d.random
  few_scripts : length d.scripts ≤ script_limit
  scripts : AreListed d.scripts
  few_events : length d.events ≤ event_limit
  events : AllByRecursion IsLine d.events

keeps_plan : (d after : Draft) (line : Line) → IsDraft d → IsLine line → Plans d line after → IsDraft after
keeps_plan d after line h l p =
    subst IsDraft (sym p.is) (record {
      version = h.version;
      limit = h.limit;
      entries = h.entries;
      until = h.until;
      randoms = h.randoms;
      few_scripts = h.few_scripts;
      scripts = h.scripts;
      few_events = one_longer d.events line event_limit p.room;
      events = each_last IsLine d.events line h.events l;
    })

keeps_list : (d after : Draft) (s : Script) → IsDraft d → Lists d s after → IsDraft after
keeps_list d after s h l =
    subst IsDraft (sym l.is) (record {
      version = h.version;
      limit = h.limit;
      entries = h.entries;
      until = h.until;
      randoms = h.randoms;
      few_scripts = one_longer d.scripts s script_limit l.room;
      scripts = are_listed_last d.scripts s h.scripts l.named l.fresh;
      few_events = h.few_events;
      events = h.events;
    })

keeps_behind : (w : Word) (d : Draft) (rest : List ℕ) (after : Draft) → IsDraft d → ReadsBehind w d rest after → IsDraft after
keeps_behind word.Limit d rest after h r =
    let inside = between_digits 1 instruction_limit rest r.0 (given d.limit (number_between 1 instruction_limit rest) r.0 r.1)
    in subst IsDraft (sym r.2) (record {
      version = h.version;
      limit = inside;
      entries = h.entries;
      until = h.until;
      randoms = h.randoms;
      few_scripts = h.few_scripts;
      scripts = h.scripts;
      few_events = h.few_events;
      events = h.events;
    })
keeps_behind word.Entries d rest after h r =
    let inside = between_digits 1 entry_limit rest r.0 (given d.entries (number_between 1 entry_limit rest) r.0 r.1)
    in subst IsDraft (sym r.2) (record {
      version = h.version;
      limit = h.limit;
      entries = inside;
      until = h.until;
      randoms = h.randoms;
      few_scripts = h.few_scripts;
      scripts = h.scripts;
      few_events = h.few_events;
      events = h.events;
    })
keeps_behind word.Until d rest after h r =
    let inside = between_digits 0 time_limit rest r.0 (given d.until (number_between 0 time_limit rest) r.0 r.1)
    in subst IsDraft (sym r.2) (record {
      version = h.version;
      limit = h.limit;
      entries = h.entries;
      until = inside;
      randoms = h.randoms;
      few_scripts = h.few_scripts;
      scripts = h.scripts;
      few_events = h.few_events;
      events = h.events;
    })
keeps_behind word.Random d rest after h r =
    subst IsDraft (sym r.2) (record {
      version = h.version;
      limit = h.limit;
      entries = h.entries;
      until = h.until;
      randoms = added d.random rest r.0 r.1 h.randoms;
      few_scripts = h.few_scripts;
      scripts = h.scripts;
      few_events = h.few_events;
      events = h.events;
    })
keeps_behind word.Script d rest after h r = keeps_list d after (record { name = rest; binary = false }) h r
keeps_behind word.Binary d rest after h r = keeps_list d after (record { name = rest; binary = true }) h r
keeps_behind word.Event d rest after h r = keeps_plan d after r.0 h (event_line rest r.0 r.1) r.2
keeps_behind word.Start d rest after h r = keeps_plan d after r.0 h (start_line rest r.0 r.1) r.2

keeps_line : (d : Draft) (line : List ℕ) (after : Draft) → IsDraft d → Reads d line after → IsDraft after
keeps_line d line after h empty = h
keeps_line d line after h (remark text) = h
keeps_line d line after h (says w rest a r) = keeps_behind w d rest a h r

abbrev EndKeeps : Result Draft ℕ → Type 0
EndKeeps (Ok d) = IsDraft d
EndKeeps (Err n) = Unit {0}

keeps_lines : (n : ℕ) (d : Draft) (lines : List (List ℕ)) (end : Result Draft ℕ) → IsDraft d → Comes n d lines end → EndKeeps end
keeps_lines n d lines end h (whole m e) = h
keeps_lines n d lines end h (plans.more m e next line rest f r on) = keeps_lines (m + 1) next rest f (keeps_line e line next h r) on
keeps_lines n d lines end h (stops m e line rest b) = tt

keeps_nothing : (version : ℕ) → IsVersion version → IsDraft (nothing version)
keeps_nothing version known = record {
  version = known;
  limit = tt;
  entries = tt;
  until = tt;
  randoms = record { few = omega arith; each = tt };
  few_scripts = omega arith;
  scripts = tt;
  few_events = omega arith;
  events = tt;
}

keeps_text : (bytes : List ℕ) (end : Result Draft ℕ) → Gives bytes end → EndKeeps end
keeps_text bytes end (headed v lines e known l on) = keeps_lines 2 (nothing v) lines e (keeps_nothing v known) on
keeps_text bytes end (headless other) = tt

or_inside : (low high default : ℕ) (o : Option ℕ) → IsBetween low high default → Given low high o → IsBetween low high (or_default o default)
or_inside low high default None d h = d
or_inside low high default (Some n) d h = h

plan_keeps : (d : Draft) → IsDraft d → IsPlan (plan_of d)
plan_keeps d h = record {
  version = h.version;
  limit = or_inside 1 instruction_limit default_instruction_limit d.limit (omega arith, omega arith) h.limit;
  entries = or_inside 1 entry_limit default_entry_limit d.entries (omega arith, omega arith) h.entries;
  until = or_inside 0 time_limit default_until d.until (omega arith, omega arith) h.until;
  few_randoms = h.randoms.few;
  randoms = h.randoms.each;
  few_scripts = h.few_scripts;
  scripts = h.scripts;
  few_events = h.few_events;
  events = h.events;
}

pub plans_keep : PlansKeep
plans_keep bytes plan h = subst IsPlan (sym h.2) (plan_keeps h.0 (keeps_text bytes (Ok h.0) h.1))

-- ---- where a fault lies

abbrev Inside : ℕ → List (List ℕ) → Result Draft ℕ → Type 0
Inside n lines (Ok d) = Unit {0}
Inside n lines (Err m) = (n ≤ m) × (m < n + length lines)

lies : (n : ℕ) (d : Draft) (lines : List (List ℕ)) (end : Result Draft ℕ) → Comes n d lines end → Inside n lines end
lies n d lines end (whole m e) = tt
lies n d lines end (plans.more m e next line rest f r on) = further m rest line f (lies (m + 1) next rest f on)
  where
    further : (m : ℕ) (rest : List (List ℕ)) (line : List ℕ) (f : Result Draft ℕ) → Inside (m + 1) rest f → Inside m (line ∷ rest) f
    further m rest line (Ok d) h = tt
    further m rest line (Err k) h = (omega arith, omega arith)
lies n d lines end (stops m e line rest b) = (omega arith, omega arith)

line_of_end : (bytes : List ℕ) (end : Result Draft ℕ) (n : ℕ) → end ≡ Err n → Gives bytes end → IsLineOf bytes n
line_of_end bytes end n is (headed v lines e known l on) =
    let inside = subst (Inside 2 lines) is (lies 2 (nothing v) lines e on)
    in let count = ap length l in (omega (arith, count), omega (arith, count))
line_of_end bytes end n is (headless other) = let one : 1 ≡ n = cc in (omega arith, omega arith)

pub faults_lie_inside : FaultsLieInside
faults_lie_inside bytes n h = line_of_end bytes (Err n) n refl h
