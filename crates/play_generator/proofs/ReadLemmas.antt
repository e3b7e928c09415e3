-- The text of a play's plan has the plan of its rounds and creatures.
use Rattle.std.proofs.Common.{◌≡◌, ℕ, zero, suc, ◌+◌, ◌*◌, ◌<◌, ◌≤◌, true, false, List, [], ◌∷◌, ◌++◌, map, length, codes, Some, Result, Ok, refl, sym, ap, subst, ◌∙◌, append_assoc}
use Rattle.std.proofs.Common.{length-append, arith, inl}
use Rattle.std.specs.List.{flat_map, list_all, range_with_len, AllByRecursion}
use Rattle.std.specs.Fmt.{decimal}
use Rattle.std.proofs.lemmas.List.{append-nil, length-map}
use Rattle.std.proofs.lemmas.List.FromFn.{length-range_with_len}
use Rattle.nwq_text.specs.Laws.{lines_none, lines_ended}
use Rattle.nwq_text.specs.Lines.{lines_of}
use Rattle.nwq_text.specs.Names.{is_script_name}
use Rattle.nwq_text.specs.Number.{number_of}
use Rattle.plan_text.specs.declared.plan.Line.{Line}
use Rattle.plan_text.specs.Fields.{is_label}
use Rattle.plan_text.specs.Words as word
use Rattle.plan_text.specs.Plans.{Draft, Reads, says, Comes, whole, more, Gives, headed, HasPlan, IsEvent, nothing}
use Rattle.play_generator.specs.Made.{creatures_of, rounds_of, below, tag_of, event_line, round_lines, lines_text, plan_lines, plan_text}
use Rattle.play_generator.specs.Reads.{event, round_events, plan_made, PlanIsRead}
use Rattle.play_generator.proofs.DigitLemmas.{prints, prints_joined, decimal_prints, tag_prints, tag_spells, due_is_read, no_newline, no_return}

-- ---- lines

abbrev Print : List (List ℕ) → Type 0
Print lines = AllByRecursion (λ line. list_all prints line ≡ true) lines

lines_are : (lines : List (List ℕ)) → Print lines → lines_of (lines_text lines) ≡ lines
lines_are [] p = lines_none
lines_are (line ∷ lines) p =
    ap lines_of (append_assoc line (10 ∷ []) (lines_text lines)) ∙ lines_ended line (lines_text lines) (no_newline line p.0)
    ∙ ap (λ first. first ∷ lines_of (lines_text lines)) (no_return line p.0) ∙ ap (λ others. line ∷ others) (lines_are lines p.1)

-- ---- rounds and creatures in pairs

pairs : List ℕ → List ℕ → List (ℕ × ℕ)
pairs rounds creatures = flat_map (λ round. map (λ creature. (round, creature)) creatures) rounds

abbrev line_at : ℕ × ℕ → List ℕ
line_at p = event_line p.0 p.1

abbrev event_at : ℕ × ℕ → Line
event_at p = event p.0 p.1

round_paired : {X : Type 0} (f : ℕ × ℕ → X) (round : ℕ) (creatures : List ℕ) (rest : List (ℕ × ℕ))
    → map f (map (λ creature. (round, creature)) creatures ++ rest) ≡ map (λ creature. f (round, creature)) creatures ++ map f rest
round_paired f round [] rest = refl
round_paired f round (creature ∷ creatures) rest = ap (λ l. f (round, creature) ∷ l) (round_paired f round creatures rest)

paired : {X : Type 0} (f : ℕ × ℕ → X) (creatures rounds : List ℕ) → map f (pairs rounds creatures) ≡ flat_map (λ round. map (λ creature. f (round, creature)) creatures) rounds
unfolding pairs
paired f creatures [] = refl
paired f creatures (round ∷ rounds) =
    round_paired f round creatures (pairs rounds creatures) ∙ ap (λ l. map (λ creature. f (round, creature)) creatures ++ l) (paired f creatures rounds)

record Inside (p : ℕ × ℕ) : Type 0 where
  round : p.0 < 60
  creature : p.1 < 1000

all_below : (a n bound : ℕ) → a + n ≤ bound → AllByRecursion (λ i. i < bound) (range_with_len a n)
all_below a zero bound h = tt
all_below a (suc n) bound h = (omega arith, all_below (a + 1) n bound (omega arith))

round_inside : (round : ℕ) (creatures : List ℕ) (rest : List (ℕ × ℕ)) → round < 60 → AllByRecursion (λ i. i < 1000) creatures → AllByRecursion Inside rest
    → AllByRecursion Inside (map (λ creature. (round, creature)) creatures ++ rest)
round_inside round [] rest h cs r = r
round_inside round (creature ∷ creatures) rest h cs r = (record { round = h; creature = cs.0 }, round_inside round creatures rest h cs.1 r)

pairs_inside : (rounds creatures : List ℕ) → AllByRecursion (λ i. i < 60) rounds → AllByRecursion (λ i. i < 1000) creatures → AllByRecursion Inside (pairs rounds creatures)
unfolding pairs
pairs_inside [] creatures rs cs = tt
pairs_inside (round ∷ rounds) creatures rs cs = round_inside round creatures (pairs rounds creatures) rs.0 cs (pairs_inside rounds creatures rs.1 cs)

pairs_few : (rounds creatures : List ℕ) → length creatures ≤ 1000 → length (pairs rounds creatures) ≤ length rounds * 1000
unfolding pairs
pairs_few [] creatures h = omega arith
pairs_few (round ∷ rounds) creatures h =
    omega (
      arith,
      length-append (map (λ creature. (round, creature)) creatures) (pairs rounds creatures),
      length-map {B = ℕ × ℕ} creatures (λ creature. (round, creature)),
      pairs_few rounds creatures h,
    )

-- ---- an event

line_parted : (round creature : ℕ) → event_line round creature ≡ codes "event " ++ (decimal (1000 * round) ++ (codes " 0 ScriptHeartbeat " ++ tag_of creature))
line_parted round creature =
    append_assoc (codes "event " ++ decimal (1000 * round)) (codes " 0 ScriptHeartbeat ") (tag_of creature)
    ∙ append_assoc (codes "event ") (decimal (1000 * round)) (codes " 0 ScriptHeartbeat " ++ tag_of creature)

line_prints : (p : ℕ × ℕ) → Inside p → list_all prints (line_at p) ≡ true
line_prints p h =
    ap (list_all prints) (line_parted p.0 p.1)
    ∙ prints_joined (decimal (1000 * p.0)) (codes " 0 ScriptHeartbeat " ++ tag_of p.1) (decimal_prints (1000 * p.0) (omega (arith, h.round))) (tag_prints p.1 (omega (arith, h.creature)))

lines_print : (ps : List (ℕ × ℕ)) → AllByRecursion Inside ps → Print (map line_at ps)
lines_print [] h = tt
lines_print (p ∷ ps) h = (line_prints p h.0, lines_print ps h.1)

is_event : (p : ℕ × ℕ) → Inside p → IsEvent (decimal (1000 * p.0) ++ (codes " 0 ScriptHeartbeat " ++ tag_of p.1)) (event_at p)
unfolding number_of is_label
is_event p h = record {
  due = decimal (1000 * p.0);
  nth = codes "0";
  label = codes "ScriptHeartbeat";
  tag = tag_of p.1;
  at = 1000 * p.0;
  number = 0;
  text = tag_of p.1;
  spells = refl;
  time = due_is_read (1000 * p.0) (omega (arith, h.round));
  count = refl;
  labels = refl;
  tags = tag_spells p.1 h.creature;
  is = refl;
}

abbrev with_event : Draft → ℕ × ℕ → Draft
with_event d p = record d { events = d.events ++ event_at p ∷ [] }

reads_event : (d : Draft) (p : ℕ × ℕ) → Inside p → length d.events < 65536 → Reads d (line_at p) (with_event d p)
reads_event d p h room =
    subst (λ (line : List ℕ). Reads d line (with_event d p)) (sym (line_parted p.0 p.1))
    (says word.Event (decimal (1000 * p.0) ++ (codes " 0 ScriptHeartbeat " ++ tag_of p.1)) (with_event d p) (event_at p, is_event p h, record { room = room; is = refl }))

comes_events : (ps : List (ℕ × ℕ)) → AllByRecursion Inside ps → (n : ℕ) (d : Draft) → length d.events + length ps ≤ 65536
    → Comes n d (map line_at ps) (Ok (record d { events = d.events ++ map event_at ps }))
comes_events [] h n d room = subst (λ (es : List Line). Comes n d [] (Ok (record d { events = es }))) (sym (append-nil d.events)) (whole n d)
comes_events (p ∷ ps) h n d room =
    more n d (with_event d p) (line_at p) (map line_at ps) _ (reads_event d p h.0 (omega arith))
    (subst (λ (es : List Line). Comes (n + 1) (with_event d p) (map line_at ps) (Ok (record d { events = es }))) (append_assoc d.events (event_at p ∷ []) (map event_at ps))
    (comes_events ps h.1 (n + 1) (with_event d p) (omega (arith, length-append d.events (event_at p ∷ [])))))

-- ---- the whole

with_entries : Draft
with_entries = record (nothing 1) { entries = Some 1000000 }

with_until : Draft
with_until = record (nothing 1) { entries = Some 1000000; until = Some 4294967295 }

with_script : Draft
with_script = record (nothing 1) { entries = Some 1000000; until = Some 4294967295; scripts = record { name = codes "beat"; binary = false } ∷ [] }

comes : (lines : List (List ℕ)) (end : Result Draft ℕ) → Comes 5 with_script lines end
    → Comes 2 (nothing 1) (codes "entries 1000000" ∷ codes "until 4294967295" ∷ codes "script beat" ∷ lines) end
unfolding with_entries with_until with_script number_of is_script_name
comes lines end rest =
    more 2 (nothing 1) with_entries (codes "entries 1000000") (codes "until 4294967295" ∷ codes "script beat" ∷ lines) end (says word.Entries (codes "1000000") with_entries (1000000, refl, refl))
    (more 3 with_entries with_until (codes "until 4294967295") (codes "script beat" ∷ lines) end (says word.Until (codes "4294967295") with_until (4294967295, refl, refl))
    (more 4 with_until with_script (codes "script beat") lines end
    (says word.Script (codes "beat") with_script (record { named = refl; fresh = refl; room = omega arith; is = refl })) rest))

has_plan : (rounds creatures : ℕ) → rounds ≤ 60 → creatures ≤ 1000 → HasPlan (plan_text rounds creatures) (plan_made rounds creatures)
unfolding plan_text with_script
has_plan rounds creatures few small =
    let ps : List (ℕ × ℕ) = pairs (below rounds) (below creatures) in
    let inside : AllByRecursion Inside ps = pairs_inside (below rounds) (below creatures) (all_below 0 rounds 60 (omega arith)) (all_below 0 creatures 1000 (omega arith)) in
    let room : length ps ≤ 65536 = omega (
      arith,
      length-range_with_len 0 rounds,
      length-range_with_len 0 creatures,
      pairs_few (below rounds)
          (below creatures) (omega (arith, length-range_with_len 0 creatures)),
    ) in
    let lines : map line_at ps ≡ flat_map (round_lines creatures) (below rounds) = paired line_at (below creatures) (below rounds) in
    let events : map event_at ps ≡ flat_map (round_events creatures) (below rounds) = paired event_at (below creatures) (below rounds) in
    let printed : Print (flat_map (round_lines creatures) (below rounds)) = subst Print lines (lines_print ps inside) in
    let come : Comes 5 with_script (flat_map (round_lines creatures) (below rounds)) (Ok (record with_script { events = flat_map (round_events creatures) (below rounds) })) =
    subst (λ (x : List (List ℕ) × List Line). Comes 5 with_script x.0 (Ok (record with_script { events = x.1 })))
    (λ i. (lines i, events i)) (comes_events ps inside 5 with_script (omega (arith, room)))
    in
    let given : Gives (plan_text rounds creatures) (Ok (record with_script { events = flat_map (round_events creatures) (below rounds) })) =
    headed 1 (codes "entries 1000000" ∷ codes "until 4294967295" ∷ codes "script beat" ∷ flat_map (round_lines creatures) (below rounds)) _ (inl refl)
    (lines_are (plan_lines rounds creatures) (refl, (refl, (refl, (refl, printed))))) (comes _ _ come)
    in
    (record with_script { events = flat_map (round_events creatures) (below rounds) }, given, refl)

pub plan_is_read : PlanIsRead
plan_is_read n h = has_plan (rounds_of n) (creatures_of n) (omega arith) (omega arith)
