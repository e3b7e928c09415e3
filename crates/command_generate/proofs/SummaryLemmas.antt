-- The summary of a play, and how its command ends.
use Rattle.std.proofs.Common.{◌≡◌, ◌≤◌, ◌<◌, ◌^◌, ℕ, ◌*◌, arith, inl, inr, List, [], ◌∷◌, ◌++◌, length, codes, IfErr, Result, Ok, Err, refl, subst, sym, ap, ◌∙◌, append_assoc}
use Rattle.std.proofs.lemmas.Nat.{mul-le}
use Rattle.nwq_outside.specs.Outside.{Contents, TookPrefix}
use Rattle.saved_state.specs.declared.saved.Saved.{Saved}
use Rattle.world_rules.specs.Trace.{trace_text}
use Rattle.world_rules.specs.World.{World}
use Rattle.world_rules.specs.Plays.{PlayEnd, Played}
use Rattle.world_rules.specs.EndText.{end_line}
use Rattle.play_generator.specs.Made.{creatures_of, rounds_of}
use Rattle.module_player.specs.Answers.{EndsAs}
use Rattle.module_player.specs.EndTexts.{IsEnding}
use Rattle.module_player.specs.declared.played.Played.{Played as Answer}
use Rattle.command_work.specs.declared.status.Status.{Status}
use Rattle.command_work.specs.declared.status.Status.TheVariants.{Limit}
use Rattle.command_work.specs.Work.{Does, CutsShort, Finished}
use Rattle.command_work.specs.Counts.{Counts, Tallies, TalliesEnd, Refusing}
use Rattle.command_plays.specs.Plays.{ends_by}
use Rattle.trace_lines.specs.Lines.{newlines}
use Rattle.command_generate.specs.Generated.{numbered_words, made_line, summary, tells}

-- ---- the first line

three : (out a b c : List ℕ) → ((out ++ a) ++ b) ++ c ≡ out ++ (a ++ (b ++ c))
three out a b c = append_assoc (out ++ a) b c ∙ append_assoc out a (b ++ c)

regroup : (out a b c d e : List ℕ) → ((((out ++ a) ++ b) ++ c) ++ d) ++ e ≡ out ++ (a ++ (b ++ (c ++ (d ++ e))))
regroup out a b c d e = three ((out ++ a) ++ b) c d e ∙ three out a b (c ++ (d ++ e))

pub line_is : (creatures events lines bytes k l m : ℕ) (out first second third fourth now : List ℕ) → k ≡ creatures → l ≡ events → m ≡ lines
    → first ≡ out ++ numbered_words (codes "generated creatures ") k → second ≡ first ++ numbered_words (codes " events ") l
    → third ≡ second ++ numbered_words (codes " lines ") m → fourth ≡ third ++ numbered_words (codes " bytes ") bytes → now ≡ fourth ++ 10 ∷ []
    → now ≡ out ++ made_line creatures events lines bytes
unfolding made_line
line_is creatures events lines bytes k l m out first second third fourth now ks ls ms a b c d e =
    let one = numbered_words (codes "generated creatures ") creatures in
    let two = numbered_words (codes " events ") events in
    let third_one = numbered_words (codes " lines ") lines in
    let four = numbered_words (codes " bytes ") bytes in
    let firsts : first ≡ out ++ one = a ∙ ap (λ x. out ++ numbered_words (codes "generated creatures ") x) ks in
    let seconds : second ≡ (out ++ one) ++ two = b ∙ (ap (λ x. first ++ numbered_words (codes " events ") x) ls ∙ ap (λ x. x ++ two) firsts) in
    let thirds : third ≡ ((out ++ one) ++ two) ++ third_one = c ∙ (ap (λ x. second ++ numbered_words (codes " lines ") x) ms ∙ ap (λ x. x ++ third_one) seconds) in
    e ∙ (ap (λ x. x ++ 10 ∷ []) (d ∙ ap (λ x. x ++ four) thirds) ∙ regroup out one two third_one four (10 ∷ []))

-- ---- the whole

module _ (n : ℕ) (p : Played Saved) (w : World Saved) (answer : Answer) (clock creatures rounds events : ℕ) (trace made : List ℕ) where
  made_is : creatures ≡ creatures_of n → rounds ≡ rounds_of n → events ≡ creatures * rounds → trace ≡ trace_text p.last.trace
      → newlines (trace_text p.last.trace) ≡ length p.last.trace
      → made_line creatures events (newlines trace) (length trace) ≡ made_line (creatures_of n) (creatures_of n * rounds_of n) (length p.last.trace) (length (trace_text p.last.trace))
  made_is c r e told lines =
      ap (λ x. made_line creatures x (newlines trace) (length trace)) (e ∙ (ap (λ x. x * rounds) c ∙ ap (λ x. creatures_of n * x) r))
      ∙ (ap (λ x. made_line x (creatures_of n * rounds_of n) (newlines trace) (length trace)) c
      ∙ (ap (λ x. made_line (creatures_of n) (creatures_of n * rounds_of n) (newlines x) (length x)) told
      ∙ ap (λ x. made_line (creatures_of n) (creatures_of n * rounds_of n) x (length (trace_text p.last.trace))) lines))

  end_is : IsEnding answer p w → clock ≡ w.clock
      → end_line p.ending clock answer.entries answer.instructions ≡ end_line p.ending p.last.world.clock p.last.entries p.last.count
  end_is ends at =
      ap (λ x. end_line p.ending x answer.entries answer.instructions) (at ∙ ap (λ (v : World Saved). v.clock) ends.world)
      ∙ (ap (λ x. end_line p.ending p.last.world.clock x answer.instructions) ends.entries
      ∙ ap (λ x. end_line p.ending p.last.world.clock p.last.entries x) ends.instructions)

  pub summary_is : (start out : List ℕ) → IsEnding answer p w → trace ≡ trace_text p.last.trace → newlines (trace_text p.last.trace) ≡ length p.last.trace → clock ≡ w.clock
      → creatures ≡ creatures_of n → rounds ≡ rounds_of n → events ≡ creatures * rounds → start ≡ [] → made ≡ start ++ made_line creatures events (newlines trace) (length trace)
      → ((ending : PlayEnd) → EndsAs answer.how ending → out ≡ made ++ end_line ending clock answer.entries answer.instructions)
      → out ≡ summary n p
  unfolding summary
  summary_is start out ends told lines at c r e none first last =
      last p.ending ends.ending
      ∙ ap (λ m. m ++ end_line p.ending clock answer.entries answer.instructions)
      (first ∙ (ap (λ s. s ++ made_line creatures events (newlines trace) (length trace)) none
      ∙ made_is c r e told lines))
      ∙ ap (λ x. made_line (creatures_of n) (creatures_of n * rounds_of n) (length p.last.trace) (length (trace_text p.last.trace)) ++ x) (end_is ends at)

-- the most events are 60,000
pub events_fit : (creatures rounds : ℕ) → creatures ≤ 1000 → rounds ≤ 60 → creatures * rounds < 2 ^ 32
events_fit creatures rounds few most = let all : creatures * rounds ≤ 1000 * 60 = mul-le creatures rounds 1000 60 few most in omega (arith, all)

-- ---- the summary, and the end

module _ (n : ℕ) (p : Played Saved) (c : Contents) (t t1 : List ℕ) where
  pub told_whole : (r : Result Finished Status) → t1 ≡ t ++ summary n p → Does (ends_by p.ending) c t1 r c t1 → Does (tells n p) c t r c t1
  told_whole r taken does = inr (subst (λ x. Does (ends_by p.ending) c x r c t1) taken does)

  pub told_cut : (cut : Status) → CutsShort cut × TookPrefix (summary n p) t t1 → Does (tells n p) c t (Err cut) c t1
  told_cut cut h = inl (h.0, refl, h.1)

pub limit_refuses : (s : Status) → s ≡ Limit → Refusing Limit s
limit_refuses s is = inl is

pub cut_refuses : (s : Status) → CutsShort s → Refusing Limit s
cut_refuses s cut = inr cut

-- the counts stay where the summary is put
pub limit_counts : (r : Result Finished Status) (before now : Counts) → IfErr r (λ s. s ≡ Limit) → now ≡ before → Tallies r before now
limit_counts (Ok done) before now only same = same
limit_counts (Err s) before now only same = subst (λ x. TalliesEnd x before now) (sym only) same

pub ruleset tellings = (told_whole, limit_refuses, cut_refuses)
