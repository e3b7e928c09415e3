-- A play that was put keeps all rules, and tells its world.
use Rattle.std.proofs.Common.{◌≡◌, ◌<◌, ℕ, List, length, map, sym, ap, refl, ◌∙◌, subst, arith}
use Rattle.std.specs.Prelude.{Option}
use Rattle.std.specs.Option.{option_map}
use Rattle.std.specs.List.{AllByRecursion}
use Rattle.nwq_value.specs.Limits.{file_limit}
use Rattle.ncs_code.specs.File.{IsCode}
use Rattle.area_rules.specs.Area.{PlainArea, IsArea}
use Rattle.saved_state.specs.declared.saved.Saved.{Saved}
use Rattle.world_rules.specs.World.{World}
use Rattle.world_rules.specs.Kept.{IsWorld}
use Rattle.world_parts.specs.declared.saved.WorldParts.{WorldParts}
use Rattle.world_parts.specs.Saved.{put_together}
use Rattle.ncs_machine.specs.declared.scripts.Loaded.{Loaded}
use Rattle.plan_text.specs.Plans.{Limits}
use Rattle.state_format.specs.Parts.{HasForm}
use Rattle.state_format.specs.Fields.{parts_bytes}
use Rattle.state_format.specs.declared.fault.SaveFault.{SaveFault}
use Rattle.state_format.specs.declared.fault.SaveFault.TheVariants as unsaved
use Rattle.state_format.specs.declared.parts.Parts.{Parts}
use Rattle.play_save.specs.declared.told.Resting.{Resting}
use Rattle.play_save.specs.States.{resting, MayLimit, MayList, MayRest, MayCount, IsPlayOf, IsStateFor, IsLargeState, IsWrittenState}
use Rattle.play_save.specs.Scripts.{script_parts}
use Rattle.play_save.specs.Keeping.{Tells, IsKept}
use Rattle.play_save.specs.Telling.{resting_parts, IsTold, IsToldAs}
use Rattle.play_save.proofs.CapturedLemmas.{Laws}
use Rattle.play_save.proofs.Saving.{accepted, world_is}

-- it can be written
pub told_form : (p : Resting) → IsTold p → HasForm (resting_parts p)
told_form p told =
    let n = told.front.numbers in
    record {
      header = told.front.header;
      scripts = told.front.scripts;
      area = told.front.file;
      version = n.version;
      limit = n.limit;
      entries = n.entries;
      until = n.until;
      clock = n.clock;
      taken = n.taken;
      done = n.done;
      next = n.next;
      random = told.back.random;
      objects = (told.back.few_objects, told.back.objects.form);
      agenda = (told.back.few_entries, told.back.entries.form);
    }

-- it tells a world with the same objects, entries and numbers
pub told_world : (p : Resting) (w : World Saved) → IsTold p → p.numbers.clock ≡ w.clock → p.numbers.version ≡ w.version → p.random.now ≡ w.random → p.numbers.next ≡ w.agenda.next
    → p.entries.now ≡ w.agenda.entries → p.things.now ≡ w.things → p.area.now.objects ≡ w.area.objects → Tells (resting_parts p) w
told_world p w told clock version random next entries things area = record {
  clock = clock;
  version = version;
  random = random;
  next = next;
  entries = told.back.entries.same ∙ entries;
  short = told.back.entries.short;
  objects = record {
    kept = told.back.objects.told.kept ∙ things;
    variables = told.back.objects.told.variables ∙ ap (λ (l : List _). map (λ o. o.vars) l) area;
    short = told.back.objects.told.short;
  };
}

pub kept_state : (s : Parts) (header : Option (List ℕ)) (scripts : List Loaded) (file area : List ℕ) (limits : Limits)
    (taken done : ℕ) (w : World Saved) (objects : PlainArea) (parts : WorldParts Saved)
    → Laws → file ≡ area → IsKept header scripts file limits taken done (put_together objects parts) s → MayLimit limits → MayList header scripts → MayRest scripts area w
    → MayCount limits w taken done → IsArea objects → IsWorld w → put_together objects parts ≡ resting w → IsStateFor header scripts area limits taken done w s
kept_state s header scripts file area limits taken done w objects parts laws lent kept limited listed rests counted is world same =
    let play : IsPlayOf s header (script_parts scripts) area limits = record {
      header = kept.play.header;
      scripts = kept.play.scripts;
      area = kept.play.area ∙ lent;
      limit = kept.play.limit;
      entries = kept.play.entries;
      until = kept.play.until;
    } in
    record {
      form = kept.form;
      accepted = accepted s header scripts area limits taken done w objects parts laws play kept.come limited listed rests counted kept.code is world same kept.tells;
      play = play;
      come = kept.come;
      world = world_is s scripts area w objects parts (kept.play.area ∙ lent) rests is same kept.tells;
      code = kept.code;
    }

-- ---- what was counted or written

-- the pieces that were lent are those of a play in this world
pub record AreLent (p : Resting) (header : Option (List ℕ)) (scripts : List Loaded) (file : List ℕ) (limits : Limits) (taken done : ℕ) (w : World Saved) : Type 0 where
  pub headed : option_map (λ text. text.items) p.header.now ≡ header
  pub listed : p.scripts.now ≡ scripts
  pub filed : p.file.now ≡ file
  pub limit : p.numbers.limit ≡ limits.0
  pub entries : p.numbers.entries ≡ limits.1
  pub until : p.numbers.until ≡ limits.2
  pub took : p.numbers.taken ≡ taken
  pub did : p.numbers.done ≡ done
  pub clock : p.numbers.clock ≡ w.clock
  pub version : p.numbers.version ≡ w.version
  pub random : p.random.now ≡ w.random
  pub next : p.numbers.next ≡ w.agenda.next
  pub waiting : p.entries.now ≡ w.agenda.entries
  pub things : p.things.now ≡ w.things
  pub objects : p.area.now.objects ≡ w.area.objects

resting_kept : (p : Resting) (header : Option (List ℕ)) (scripts : List Loaded) (file : List ℕ) (limits : Limits) (taken done : ℕ) (w : World Saved)
    → AreLent p header scripts file limits taken done w → (s : Parts) → IsToldAs p s → IsKept header scripts file limits taken done w s
resting_kept p header scripts file limits taken done w lent s alike =
    subst (IsKept header scripts file limits taken done w) (sym alike.is) (record {
      form = told_form p alike.told;
      play = record { header = lent.headed; scripts = ap script_parts lent.listed; area = lent.filed; limit = lent.limit; entries = lent.entries; until = lent.until };
      come = record { taken = lent.took; done = lent.did };
      tells = told_world p w alike.told lent.clock lent.version lent.random lent.next lent.waiting lent.things lent.objects;
      code = subst (AllByRecursion (λ (l : Loaded). IsCode l.code.code)) lent.listed alike.told.front.code;
    })

-- the outcome stands first: it tells which pieces are meant
pub kept_written : {p : Resting} (header : Option (List ℕ)) (scripts : List Loaded) (file : List ℕ) (limits : Limits) (taken done : ℕ) (w : World Saved) (v : List ℕ)
    → IsWrittenState (IsToldAs p) v → AreLent p header scripts file limits taken done w → IsWrittenState (IsKept header scripts file limits taken done w) v
kept_written header scripts file limits taken done w v found lent =
    (found.0, resting_kept _ header scripts file limits taken done w lent found.0 found.1, found.2)

pub kept_large : {p : Resting} (header : Option (List ℕ)) (scripts : List Loaded) (file : List ℕ) (limits : Limits) (taken done : ℕ) (w : World Saved) (e : SaveFault)
    → IsLargeState (IsToldAs p) e → AreLent p header scripts file limits taken done w → IsLargeState (IsKept header scripts file limits taken done w) e
kept_large header scripts file limits taken done w (unsaved.Large size) found lent =
    (found.0, resting_kept _ header scripts file limits taken done w lent found.0 found.1, found.2)
kept_large header scripts file limits taken done w unsaved.NoMemory found lent = tt

pub told_written : (p : Resting) (v : List ℕ) (size : ℕ) → IsTold p → v ≡ parts_bytes (resting_parts p) → size ≡ length (parts_bytes (resting_parts p)) → (file_limit < size → ⊥)
    → IsWrittenState (IsToldAs p) v
told_written p v size told is count few =
    (resting_parts p, record { told = told; is = refl }, (record { form = told_form p told; is = is }, (let here = ap (λ (l : List ℕ). length l) is in omega (arith, here, count, few))))

pub told_large : (p : Resting) (size : ℕ) → IsTold p → size ≡ length (parts_bytes (resting_parts p)) → file_limit < size → IsLargeState (IsToldAs p) (unsaved.Large size)
told_large p size told count many = (resting_parts p, record { told = told; is = refl }, (subst (λ (n : ℕ). file_limit < n) count many, count))

pub written_so : {P Q : Parts → Type 0} (f : (s : Parts) → P s → Q s) (v : List ℕ) → IsWrittenState P v → IsWrittenState Q v
written_so f v found = (found.0, f found.0 found.1, found.2)

pub large_so : {P Q : Parts → Type 0} (f : (s : Parts) → P s → Q s) (e : SaveFault) → IsLargeState P e → IsLargeState Q e
large_so f (unsaved.Large size) found = (found.0, f found.0 found.1, found.2)
large_so f unsaved.NoMemory found = tt
