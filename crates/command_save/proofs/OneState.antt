-- One state is saved, one thing comes of the bytes of a state, and a state goes on from one world.
use Rattle.std.proofs.Common.{arith, ◌≡◌, ◌≤◌, ℕ, zero, suc, List, [], ◌∷◌, length, drop, map, Option, Some, None, refl, ap, sym, subst, ◌∙◌}
use Rattle.nwq_value.specs.Engine.{EngineTable}
use Rattle.engine_table.specs.Headers.{OneHeader}
use Rattle.ncs_code.specs.Plain.{PlainOp}
use Rattle.ncs_code.specs.File.{IsCode, file_bytes, header_size, spellings}
use Rattle.ncs_code.specs.Spelling.{four}
use Rattle.ncs_code.specs.Reading.{ops_of}
use Rattle.ncs_code.specs.Laws.{SpellingLaws}
use Rattle.gff_tree.specs.Whole.{PlainGff}
use Rattle.gff_read.specs.Stands.{OneTree}
use Rattle.area_rules.specs.Objects.{objects_of}
use Rattle.plan_text.specs.declared.plan.Plan.{Plan}
use Rattle.saved_state.specs.declared.saved.Saved.{Saved}
use Rattle.world_rules.specs.World.{World}
use Rattle.world_rules.specs.Plays.{Progress}
use Rattle.machine_rules.specs.Machine.{Script}
use Rattle.state_format.specs.declared.parts.Script.{Script as ScriptPart}
use Rattle.state_format.specs.declared.parts.Object.{Object}
use Rattle.state_format.specs.declared.parts.Entry.{Entry}
use Rattle.state_format.specs.declared.parts.Parts.{Parts}
use Rattle.state_format.specs.Place.{StateOf, StateStopsAt, BytesAreOne}
use Rattle.state_parts.specs.World.{world_of}
use Rattle.play_save.specs.Rules.{IsHeaderOf, IsAreaOf, IsAccepted, IsUnfit, IsFirstBroken, KeepsAll, Rule, rules}
use Rattle.play_save.specs.States.{IsWorldOf}
use Rattle.command_save.specs.declared.inputs.HeaderFile.{HeaderFile}
use Rattle.command_save.specs.Saves.{file_of, AreSpelled, IsStateAt}
use Rattle.command_save.specs.Resumes.{StateFate, Whole, Stops, Unfit, IsStateFate, whole, stops, unfit, Going, GoesFrom}
use Rattle.command_save.proofs.BackLemmas.{same_told}

-- what others say of the parts of a state
pub record OneLaws : Type 0 where
  pub headers : OneHeader
  pub spellings : SpellingLaws
  pub trees : OneTree
  pub states : BytesAreOne

-- ---- one state is saved

abbrev made : Option (List ℕ) → List ScriptPart → List ℕ → ℕ → ℕ → ℕ → ℕ → ℕ → ℕ → ℕ → ℕ → List ℕ → List Object → List Entry → Parts
made header scripts area version limit entries until clock taken done next random objects agenda = record {
  header = header;
  scripts = scripts;
  area = area;
  version = version;
  limit = limit;
  entries = entries;
  until = until;
  clock = clock;
  taken = taken;
  done = done;
  next = next;
  random = random;
  objects = objects;
  agenda = agenda;
}

parts_same : (s t : Parts) → s.header ≡ t.header → s.scripts ≡ t.scripts → s.area ≡ t.area → s.version ≡ t.version → s.limit ≡ t.limit → s.entries ≡ t.entries
    → s.until ≡ t.until → s.clock ≡ t.clock → s.taken ≡ t.taken → s.done ≡ t.done → s.next ≡ t.next → s.random ≡ t.random → s.objects ≡ t.objects
    → s.agenda ≡ t.agenda → s ≡ t
parts_same s t header scripts area version limit entries until clock taken done next random objects agenda =
    let same : made s.header s.scripts s.area s.version s.limit s.entries s.until s.clock s.taken s.done s.next s.random s.objects s.agenda
    ≡ made t.header t.scripts t.area t.version t.limit t.entries t.until t.clock t.taken t.done t.next t.random t.objects t.agenda = cc in
    same

-- a state has as many objects as the area of the tree that its bytes stand for
counted_by : (laws : OneLaws) (s : Parts) (tree : PlainGff) → IsAccepted s → IsAreaOf tree s.area → length s.objects ≡ length (objects_of tree.top)
counted_by laws s tree accepted is =
    let own = accepted.1.1.0 in
    own.counted ∙ ap (λ (g : PlainGff). length (objects_of g.top)) (laws.trees s.area own.tree tree own.area.stands is.stands)

pub one_saved : OneLaws → (header : HeaderFile) (file : List ℕ) (plan : Plan) (scripts : List Script) (p : Progress Saved) (s t : Parts)
    → IsStateAt header file plan scripts p s → IsStateAt header file plan scripts p t → s ≡ t
one_saved laws header file plan scripts p s t a b =
    let told = same_told a.world.tree b.world.tree s t (counted_by laws s a.world.tree a.accepted a.world.area) (counted_by laws t b.world.tree b.accepted b.world.area)
    (sym a.world.world ∙ b.world.world) in
    parts_same s t (a.play.header ∙ sym b.play.header) (a.play.scripts ∙ sym b.play.scripts) (a.play.area ∙ sym b.play.area) told.version
    (a.play.limit ∙ sym b.play.limit) (a.play.entries ∙ sym b.play.entries) (a.play.until ∙ sym b.play.until) told.clock
    (a.come.taken ∙ sym b.come.taken) (a.come.done ∙ sym b.come.done) told.next told.random told.objects told.agenda

-- ---- a state goes on from one world

pub one_table : OneLaws → (header : Option (List ℕ)) (a b : EngineTable) → IsHeaderOf header a → IsHeaderOf header b → a ≡ b
one_table laws None a b x y = x ∙ sym y
one_table laws (Some bytes) a b x y = laws.headers.one_table bytes a b x.1 y.1

-- the magic and the length stand in front of the spellings
spelled_after : (ops : List PlainOp) → drop header_size (file_bytes ops) ≡ spellings ops
unfolding four
spelled_after ops = refl

pub one_code : SpellingLaws → (a b : List PlainOp) → IsCode a → IsCode b → file_bytes a ≡ file_bytes b → a ≡ b
one_code laws a b x y files =
    let same : spellings a ≡ spellings b = sym (spelled_after a) ∙ ap (drop header_size) files ∙ spelled_after b in
    let shorter : length (spellings b) ≤ length (spellings a) = omega (arith, ap length same) in
    sym (laws.listed (length (spellings a)) a x.each (omega arith)) ∙ ap (ops_of (length (spellings a))) same
    ∙ laws.listed (length (spellings a)) b y.each shorter

one_list : SpellingLaws → (xs ys : List Script) → AreSpelled xs → AreSpelled ys → map file_of xs ≡ map file_of ys → xs ≡ ys
one_list laws [] [] p q files = refl
one_list laws [] (y ∷ ys) p q files = absurd cc
one_list laws (x ∷ xs) [] p q files = absurd cc
one_list laws (x ∷ xs) (y ∷ ys) p q files =
    let first : file_of x ≡ file_of y = cc in
    let rest : map file_of xs ≡ map file_of ys = cc in
    let code : x.code ≡ y.code = one_code laws x.code y.code p.0 q.0 (ap (λ (f : ScriptPart). f.code) first) in
    let name : x.name ≡ y.name = ap (λ (f : ScriptPart). f.name) first in
    ap (λ (n : List ℕ). record { name = n; code = x.code } ∷ xs) name ∙ ap (λ (c : List PlainOp). record { name = y.name; code = c } ∷ xs) code
    ∙ ap (λ (l : List Script). y ∷ l) (one_list laws xs ys p.1 q.1 rest)

pub one_world : OneLaws → (s : Parts) (v w : World Saved) → IsWorldOf s v → IsWorldOf s w → v ≡ w
one_world laws s v w a b = a.world ∙ ap (λ (tree : PlainGff). world_of tree s) (laws.trees s.area a.tree b.tree a.area.stands b.area.stands) ∙ sym b.world

pub one_going : OneLaws → (s : Parts) (g h : Going) → GoesFrom s g → GoesFrom s h → g ≡ h
one_going laws s g h a b =
    let table = one_table laws s.header g.table h.table a.header b.header in
    let scripts = one_list laws.spellings g.scripts h.scripts a.spelled b.spelled (sym a.scripts ∙ b.scripts) in
    let world = one_world laws s g.world h.world a.world b.world in
    ap (λ (t : EngineTable). record g { table = t }) table ∙ ap (λ (l : List Script). record { table = h.table; scripts = l; world = g.world }) scripts
    ∙ ap (λ (w : World Saved). record h { world = w }) world

-- ---- one thing comes of bytes

first_broken : (left : List Rule) (m n : ℕ) (s : Parts) → IsFirstBroken m left s → IsFirstBroken n left s → m ≡ n
first_broken [] m n s a b = absurd a
first_broken (rule ∷ rest) zero n s a b = absurd a
first_broken (rule ∷ rest) (suc m) zero s a b = absurd b
first_broken (rule ∷ rest) (suc zero) (suc zero) s a b = refl
first_broken (rule ∷ rest) (suc zero) (suc (suc n)) s a b = absurd (a b.0)
first_broken (rule ∷ rest) (suc (suc m)) (suc zero) s a b = absurd (b a.0)
first_broken (rule ∷ rest) (suc (suc m)) (suc (suc n)) s a b = ap suc (first_broken rest (suc m) (suc n) s a.1 b.1)

none_broken : (left : List Rule) (n : ℕ) (s : Parts) → KeepsAll left s → IsFirstBroken n left s → ⊥
none_broken [] n s all broken = broken
none_broken (rule ∷ rest) zero s all broken = broken
none_broken (rule ∷ rest) (suc zero) s all broken = broken all.0
none_broken (rule ∷ rest) (suc (suc n)) s all broken = none_broken rest (suc n) s all.1 broken.1

one_place : (bytes : List ℕ) (m n : ℕ) → StateStopsAt bytes m → StateStopsAt bytes n → m ≡ n
one_place bytes m n a b =
    let low = b.farthest m a.begins in
    let high = a.farthest n b.begins in
    omega (arith, low, high)

module _ (laws : OneLaws) (bytes : List ℕ) where
  accepts_unfit : (s t : Parts) (n : ℕ) → StateOf bytes s → StateOf bytes t → IsAccepted s → IsUnfit n t → ⊥
  accepts_unfit s t n a b accepted broken =
      none_broken rules n t (subst (λ (x : Parts). KeepsAll rules x) (laws.states bytes s t a b) accepted) broken

  pub one_fate : (f g : StateFate) → IsStateFate bytes f → IsStateFate bytes g → f ≡ g
  one_fate f g (whole s a p) (whole t b q) = ap Whole (laws.states bytes s t a b)
  one_fate f g (whole s a p) (stops n b) = absurd (b.none s a)
  one_fate f g (whole s a p) (unfit t n b q) = absurd (accepts_unfit s t n a b p q)
  one_fate f g (stops m a) (whole t b q) = absurd (a.none t b)
  one_fate f g (stops m a) (stops n b) = ap Stops (one_place bytes m n a b)
  one_fate f g (stops m a) (unfit t n b q) = absurd (a.none t b)
  one_fate f g (unfit s m a p) (whole t b q) = absurd (accepts_unfit t s m b a q p)
  one_fate f g (unfit s m a p) (stops n b) = absurd (b.none s a)
  one_fate f g (unfit s m a p) (unfit t n b q) =
      ap Unfit (first_broken rules m n t (subst (λ (x : Parts). IsFirstBroken m rules x) (laws.states bytes s t a b) p) q)
