-- What captured states hold that fit, and what files hold that are no area's.
use Rattle.std.proofs.Common.{◌≡◌, ℕ, List, [], ◌∷◌, length, sym, ap, refl, ◌∙◌, subst}
use Rattle.std.specs.Prelude.{Ok}
use Rattle.std.specs.List.{AllByRecursion}
use Rattle.gff_tree.specs.Whole.{PlainGff}
use Rattle.gff_read.specs.declared.fault.TreeFault.{TreeFault}
use Rattle.gff_read.specs.declared.fault.TreeFault.TheVariants as fault
use Rattle.gff_read.specs.Rows.{TreeFails}
use Rattle.gff_read.specs.Stands.{Stands, OneTree}
use Rattle.area_rules.specs.Area.{PlainArea, area_of}
use Rattle.area_rules.specs.declared.fault.AreaFault.{AreaFault}
use Rattle.area_rules.specs.declared.fault.AreaFault.TheVariants as unread
use Rattle.area_rules.specs.Broken.{IsFirst, broken_places}
use Rattle.action_queue.specs.declared.queue.Item.{Item}
use Rattle.action_queue.specs.declared.queue.Item.TheVariants.{Do, Wait, Speak}
use Rattle.delay_agenda.specs.declared.entry.Entry.{Entry}
use Rattle.delay_agenda.specs.declared.entry.Kind.{Kind}
use Rattle.delay_agenda.specs.declared.entry.Kind.TheVariants.{Event, Stored, Turn, Unapply}
use Rattle.saved_state.specs.declared.cell.Cell.{Cell}
use Rattle.saved_state.specs.declared.cell.Cell.TheVariants.{Value as Holds, Base}
use Rattle.saved_state.specs.declared.saved.Saved.{Saved}
use Rattle.machine_rules.specs.Machine.{Script}
use Rattle.stack_rules.specs.Fits.{AllValues, FitsOne, Tables}
use Rattle.stack_rules.specs.Laws.{FittingHoldsValues}
use Rattle.world_rules.specs.declared.data.Things.{Things}
use Rattle.world_rules.specs.World.{World}
use Rattle.world_parts.specs.declared.saved.WorldParts.{WorldParts}
use Rattle.world_parts.specs.Saved.{put_together}
use Rattle.ncs_machine.specs.Stored.{KindFits, ItemFits, StatesFit}
use Rattle.play_save.specs.Rules.{IsAreaOf}
use Rattle.play_save.specs.States.{resting}
use Rattle.play_save.specs.Breaking.{IsReadFrom}
use Rattle.state_parts.specs.Keeping.{HoldsValue, HasCells, HasValues, KindHasValues}
use Rattle.play_save.specs.Keeping.{QueuesHaveValues}

-- ---- captured states

each_holds : (cells : List Cell) → AllValues cells → AllByRecursion HoldsValue cells
each_holds [] all = tt
each_holds (Holds v ∷ cells) all = (record { value = v; is = refl }, each_holds cells all)
each_holds (Base bp ∷ cells) all = absurd all

has_cells : (scripts : List Script) (tables : Tables) (s : Saved) → FittingHoldsValues → FitsOne scripts tables s → HasCells s
has_cells scripts tables s law fits =
    let held = law (tables s.script) s fits.fits in
    record { globals = each_holds s.globals held.globals; locals = each_holds s.locals held.locals }

item_has : (scripts : List Script) (tables : Tables) (i : Item Saved) → FittingHoldsValues → ItemFits scripts tables i → HasValues i
item_has scripts tables (Do s) law fits = has_cells scripts tables s law fits
item_has scripts tables (Wait ms) law fits = tt
item_has scripts tables (Speak text) law fits = tt

kind_has : (scripts : List Script) (tables : Tables) (k : Kind Saved) → FittingHoldsValues → KindFits scripts tables k → KindHasValues k
kind_has scripts tables (Event o script user) law fits = tt
kind_has scripts tables (Stored o s) law fits = has_cells scripts tables s law fits
kind_has scripts tables (Turn o) law fits = tt
kind_has scripts tables (Unapply o) law fits = tt

all_so : {A : Type 0} {P Q : A → Type 0} (f : (x : A) → P x → Q x) (xs : List A) → AllByRecursion P xs → AllByRecursion Q xs
all_so f [] all = tt
all_so f (x ∷ xs) all = (f x all.0, all_so f xs all.1)

-- a world's queues hold values alone, and so does its agenda
pub queues_hold : (scripts : List Script) (tables : Tables) (w : World Saved) (area : PlainArea) (parts : WorldParts Saved) → FittingHoldsValues → put_together area parts ≡ resting w
    → StatesFit scripts tables w → QueuesHaveValues parts.objects
queues_hold scripts tables w area parts law same fit =
    subst (λ (l : List (Things Saved)). QueuesHaveValues l) (sym (ap (λ (x : World Saved). x.things) same))
    (all_so (λ (t : Things Saved) fits. all_so (λ (i : Item Saved) is. item_has scripts tables i law is) t.queue.actions fits) w.things fit.queues)

pub entries_hold : (scripts : List Script) (tables : Tables) (w : World Saved) (area : PlainArea) (parts : WorldParts Saved) → FittingHoldsValues → put_together area parts ≡ resting w
    → StatesFit scripts tables w → AllByRecursion (λ (e : Entry Saved). KindHasValues e.kind) parts.agenda.waiting.entries
entries_hold scripts tables w area parts law same fit =
    subst (λ (l : List (Entry Saved)). AllByRecursion (λ (e : Entry Saved). KindHasValues e.kind) l) (sym (ap (λ (x : World Saved). x.agenda.entries) same))
    (all_so (λ (e : Entry Saved) is. kind_has scripts tables e.kind law is) w.agenda.entries fit.agenda)

-- ---- areas

-- bytes that aren't read stand for no tree
pub no_tree : (bytes seen : List ℕ) (f : TreeFault) → seen ≡ bytes → ((gff : PlainGff) → Stands seen gff → TreeFails f (Ok gff)) → (f ≡ fault.NoMemory → ⊥)
    → ((tree : PlainGff) × IsAreaOf tree bytes) → ⊥
no_tree bytes seen f same only other has = refused f (only has.0 (subst (λ (l : List ℕ). Stands l has.0) (sym same) has.1.stands)) other
  where
    refused : (g : TreeFault) → TreeFails g (Ok has.0) → (g ≡ fault.NoMemory → ⊥) → ⊥
    refused (fault.Range range) is other = absurd cc
    refused (fault.Kind n) is other = absurd cc
    refused (fault.Shared n) is other = absurd cc
    refused (fault.Deep n) is other = absurd cc
    refused (fault.Label n) is other = absurd cc
    refused fault.NoMemory is other = other refl

-- a tree that breaks a rule is no area's
pub no_area : (bytes : List ℕ) (tree : PlainGff) (objects : ℕ) (e : AreaFault) (list member entry : ℕ) → OneTree → Stands bytes tree → e ≡ unread.Shape list member entry
    → IsFirst e (broken_places tree.top) → ((area : PlainArea) × IsReadFrom bytes objects area) → ⊥
no_area bytes tree objects e list member entry one stands is first has =
    let same : has.1.tree ≡ tree = one bytes has.1.tree tree has.1.of.stands stands in
    let whole : broken_places tree.top ≡ [] = subst (λ (t : PlainGff). broken_places t.top ≡ []) same has.1.of.whole in
    let found : IsFirst (unread.Shape list member entry) (broken_places tree.top) = subst (λ (f : AreaFault). IsFirst f (broken_places tree.top)) is first in
    absurd (let here = sym whole ∙ found.1 in cc)

-- nor is it one with another count of objects
pub other_count : (bytes : List ℕ) (tree : PlainGff) (objects count : ℕ) (area : PlainArea) → OneTree → Stands bytes tree → area ≡ area_of tree → count ≡ length area.objects
    → (count ≡ objects → ⊥) → ((read : PlainArea) × IsReadFrom bytes objects read) → ⊥
other_count bytes tree objects count area one stands is counted other has =
    let same : has.1.tree ≡ tree = one bytes has.1.tree tree has.1.of.stands stands in
    other
    (counted ∙ ap (λ (a : PlainArea). length a.objects) (is ∙ ap area_of (sym same) ∙ sym has.1.area) ∙ sym has.1.counted)
