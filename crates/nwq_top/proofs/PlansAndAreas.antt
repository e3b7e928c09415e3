-- Plans and areas that are read.
use Rattle.std.proofs.Common.{inl, inr, ℕ, List, ◌++◌, Result, Ok, Err, sym, subst, refl}
use Rattle.nwq_outside.specs.Outside.{Contents}
use Rattle.gff_tree.specs.Whole.{PlainGff}
use Rattle.area_rules.specs.Area.{PlainArea, area_of}
use Rattle.plan_text.specs.declared.plan.Plan.{Plan}
use Rattle.command_work.specs.declared.flaw.AreaFlaw.TheVariants as flaw
use Rattle.command_work.specs.declared.status.Status.{Status}
use Rattle.command_work.specs.Refusal.{Refusal, BadArea, line_of, status_of}
use Rattle.command_work.specs.Work.{Gives, then, Does, file_named}
use Rattle.command_work.specs.Parts.{then_ok, then_err}
use Rattle.command_work.specs.Reading.{IsRead, IsUnread}
use Rattle.command_work.specs.Comes.{Came, cut, gives_does, refused_does, given_comes, refusal_comes, then_comes, read_does, unread_does, file_comes}
use Rattle.command_files.specs.Trees as trees
use Rattle.command_files.specs.Trees.{tree_in, tree_named}
use Rattle.play_inputs.specs.Plans as plans
use Rattle.play_inputs.specs.Plans.{plan_in, plan_named}
use Rattle.play_inputs.specs.Areas as areas
use Rattle.play_inputs.specs.Areas.{area_in, area_named, area_of_bytes, place_flaw}
use Rattle.gff_read.specs.Stands.{Stands}
use Rattle.command_save.specs.declared.inputs.AreaFile.{AreaFile}
use Rattle.command_save.specs.Inputs as inputs
use Rattle.nwq_top.specs.Accepting.{ReadsPlan, ReadsTree, ReadsArea}
use Rattle.nwq_top.specs.Saves.{HasAreaFile}
use Rattle.nwq_top.specs.Refusing.{RefusesPlan, RefusesTree, RefusesArea, none}
use Rattle.nwq_top.specs.Refusing as refusing

-- ---- a plan

module _ (c : Contents) (t : List ℕ) (name : List ℕ) where
  pub plan_does : (plan : Plan) → ReadsPlan c name plan → Does (plan_named name) c t (Ok plan) c t
  unfolding plan_named plan_in
  plan_does plan h =
      then_ok (file_named name) (plan_in name) h.bytes c c c t t t (Ok plan) (read_does c t name h.bytes h.read)
      (inr (record { found = plans.Whole plan; is = plans.whole plan h.is; goes = gives_does plan c t }))

  pub plan_refuses : (why : Refusal) → RefusesPlan c name why → Does (plan_named name) c t (Err (status_of why)) c (t ++ line_of why)
  unfolding plan_named plan_in
  plan_refuses why (refusing.unread _ is) = then_err (file_named name) (plan_in name) (status_of why) c c t (t ++ line_of why) (unread_does c t name why is)
  plan_refuses why (refusing.faulty bytes read line is) =
      then_ok (file_named name) (plan_in name) bytes c c c t t (t ++ line_of why) (Err (status_of why)) (read_does c t name bytes read)
      (inr (record { found = plans.Faulty line; is = plans.faulty line is; goes = refused_does (BadArea name (flaw.Line line)) c t }))

  module _ (r : Result Plan Status) (c' : Contents) (t' : List ℕ) where
    abbrev PlanComes : Type 0
    PlanComes = Came (ReadsPlan c name) (RefusesPlan c name) c t r c' t'

    plan_by : (bytes : List ℕ) → IsRead c name bytes → (fate : plans.PlanFate) → plans.IsPlanFate bytes fate → Does (plans.plan_by name fate) c t r c' t' → PlanComes
    plan_by bytes read (plans.Whole plan) (plans.whole _ has) does =
        given_comes (ReadsPlan c name) (RefusesPlan c name) c t r c' t' plan (record { bytes = bytes; read = read; is = has }) does
    plan_by bytes read (plans.Faulty line) (plans.faulty _ is) does =
        refusal_comes (ReadsPlan c name) (RefusesPlan c name) c t r c' t' (BadArea name (flaw.Line line)) (refusing.faulty bytes read line is) does

    plan_in_comes : (bytes : List ℕ) → IsRead c name bytes → Does (plan_in name bytes) c t r c' t' → PlanComes
    unfolding plan_in
    plan_in_comes bytes read (inl x) = cut x.0
    plan_in_comes bytes read (inr h) = plan_by bytes read h.found h.is h.goes

    pub plan_comes : Does (plan_named name) c t r c' t' → PlanComes
    unfolding plan_named
    plan_comes does =
        then_comes (file_named name) (plan_in name) (IsRead c name) (IsUnread c name) (ReadsPlan c name) (RefusesPlan c name) c t r c' t'
        (file_comes c t name) plan_in_comes refusing.unread does

-- ---- a tree

module _ (c : Contents) (t : List ℕ) (name : List ℕ) where
  pub tree_does : (tree : PlainGff) → ReadsTree c name tree → Does (tree_named name) c t (Ok tree) c t
  unfolding tree_named tree_in
  tree_does tree h =
      then_ok (file_named name) (tree_in name) h.bytes c c c t t t (Ok tree) (read_does c t name h.bytes h.read)
      (inr (record { found = trees.Whole tree; is = trees.whole tree h.stands; goes = gives_does tree c t }))

  pub tree_refuses : (why : Refusal) → RefusesTree c name why → Does (tree_named name) c t (Err (status_of why)) c (t ++ line_of why)
  unfolding tree_named tree_in
  tree_refuses why (refusing.unread _ is) = then_err (file_named name) (tree_in name) (status_of why) c c t (t ++ line_of why) (unread_does c t name why is)
  tree_refuses why (none bytes read cause fate) =
      then_ok (file_named name) (tree_in name) bytes c c c t t (t ++ line_of why) (Err (status_of why)) (read_does c t name bytes read)
      (inr (record { found = trees.Faulty cause; is = fate; goes = refused_does (BadArea name cause) c t }))

  module _ (r : Result PlainGff Status) (c' : Contents) (t' : List ℕ) where
    abbrev TreeComes : Type 0
    TreeComes = Came (ReadsTree c name) (RefusesTree c name) c t r c' t'

    tree_by : (bytes : List ℕ) → IsRead c name bytes → (fate : trees.TreeFate) → trees.IsTreeFate bytes fate → Does (trees.tree_by name fate) c t r c' t' → TreeComes
    tree_by bytes read (trees.Whole tree) (trees.whole _ stands) does =
        given_comes (ReadsTree c name) (RefusesTree c name) c t r c' t' tree (record { bytes = bytes; read = read; stands = stands }) does
    tree_by bytes read (trees.Faulty why) fate does =
        refusal_comes (ReadsTree c name) (RefusesTree c name) c t r c' t' (BadArea name why) (none bytes read why fate) does

    tree_in_comes : (bytes : List ℕ) → IsRead c name bytes → Does (tree_in name bytes) c t r c' t' → TreeComes
    unfolding tree_in
    tree_in_comes bytes read (inl x) = cut x.0
    tree_in_comes bytes read (inr h) = tree_by bytes read h.found h.is h.goes

    pub tree_comes : Does (tree_named name) c t r c' t' → TreeComes
    unfolding tree_named
    tree_comes does =
        then_comes (file_named name) (tree_in name) (IsRead c name) (IsUnread c name) (ReadsTree c name) (RefusesTree c name) c t r c' t'
        (file_comes c t name) tree_in_comes refusing.unread does

-- ---- an area

module _ (c : Contents) (t : List ℕ) (name : List ℕ) where
  pub area_does : (area : PlainArea) → ReadsArea c name area → Does (area_named name) c t (Ok area) c t
  unfolding area_named area_in
  area_does area h =
      then_ok (tree_named name) (area_in name) h.tree c c c t t t (Ok area)
      (tree_does c t name h.tree (record { bytes = h.bytes; read = h.read; stands = h.stands }))
      (inr (record {
        found = areas.Whole;
        is = areas.whole h.whole;
        goes = subst (λ a. Does (Gives (area_of h.tree)) c t (Ok a) c t) (sym h.is) (gives_does (area_of h.tree) c t);
      }))

  pub area_refuses : (why : Refusal) → RefusesArea c name why → Does (area_named name) c t (Err (status_of why)) c (t ++ line_of why)
  unfolding area_named area_in
  area_refuses why (refusing.unread _ is) =
      then_err (tree_named name) (area_in name) (status_of why) c c t (t ++ line_of why) (tree_refuses c t name why (refusing.unread why is))
  area_refuses why (refusing.faulty bytes read cause fate) =
      then_err (tree_named name) (area_in name) (status_of why) c c t (t ++ line_of why) (tree_refuses c t name why (none bytes read cause fate))
  area_refuses why (refusing.broken bytes read tree stands place others is) =
      then_ok (tree_named name) (area_in name) tree c c c t t (t ++ line_of why) (Err (status_of why))
      (tree_does c t name tree (record { bytes = bytes; read = read; stands = stands }))
      (inr (record { found = areas.Broken place; is = areas.broken place others is; goes = refused_does (BadArea name (place_flaw place)) c t }))

  denied : (why : Refusal) → RefusesTree c name why → RefusesArea c name why
  denied why (refusing.unread _ is) = refusing.unread why is
  denied why (none bytes read cause fate) = refusing.faulty bytes read cause fate

  module _ (r : Result PlainArea Status) (c' : Contents) (t' : List ℕ) where
    abbrev AreaComes : Type 0
    AreaComes = Came (ReadsArea c name) (RefusesArea c name) c t r c' t'

    area_by : (tree : PlainGff) → ReadsTree c name tree → (fate : areas.AreaFate) → areas.IsAreaFate tree.top fate → Does (areas.area_by name tree fate) c t r c' t' → AreaComes
    area_by tree h areas.Whole (areas.whole unbroken) does =
        given_comes (ReadsArea c name) (RefusesArea c name) c t r c' t' (area_of tree)
        (record { bytes = h.bytes; read = h.read; tree = tree; stands = h.stands; whole = unbroken; is = refl }) does
    area_by tree h (areas.Broken place) (areas.broken _ others is) does =
        refusal_comes (ReadsArea c name) (RefusesArea c name) c t r c' t' (BadArea name (place_flaw place))
        (refusing.broken h.bytes h.read tree h.stands place others is) does

    area_in_comes : (tree : PlainGff) → ReadsTree c name tree → Does (area_in name tree) c t r c' t' → AreaComes
    unfolding area_in
    area_in_comes tree h (inl x) = cut x.0
    area_in_comes tree h (inr k) = area_by tree h k.found k.is k.goes

    pub area_comes : Does (area_named name) c t r c' t' → AreaComes
    unfolding area_named
    area_comes does =
        then_comes (tree_named name) (area_in name) (ReadsTree c name) (RefusesTree c name) (ReadsArea c name) (RefusesArea c name) c t r c' t'
        (tree_comes c t name) area_in_comes denied does

-- ---- an area with the bytes of its file

module _ (c : Contents) (t : List ℕ) (name : List ℕ) where
  pub area_file_does : (a : AreaFile) → HasAreaFile c name a → Does (inputs.area_named name) c t (Ok a) c t
  unfolding inputs.area_named inputs.area_in area_of_bytes tree_in area_in
  area_file_does a h =
      then_ok (file_named name) (inputs.area_in name) a.bytes c c c t t t (Ok a) (read_does c t name a.bytes h.read)
      (inr (record {
        found = trees.Whole h.tree;
        is = trees.whole h.tree h.stands;
        goes = inr (record {
          found = areas.Whole;
          is = areas.whole h.whole;
          goes = subst (λ x. Does (Gives (inputs.area_file a.bytes x)) c t (Ok a) c t) h.is (gives_does a c t);
        });
      }))

  pub area_file_refuses : (why : Refusal) → RefusesArea c name why → Does (inputs.area_named name) c t (Err (status_of why)) c (t ++ line_of why)
  unfolding inputs.area_named inputs.area_in area_of_bytes tree_in area_in
  area_file_refuses why (refusing.unread _ is) =
      then_err (file_named name) (inputs.area_in name) (status_of why) c c t (t ++ line_of why) (unread_does c t name why is)
  area_file_refuses why (refusing.faulty bytes read cause fate) =
      then_ok (file_named name) (inputs.area_in name) bytes c c c t t (t ++ line_of why) (Err (status_of why)) (read_does c t name bytes read)
      (inr (record { found = trees.Faulty cause; is = fate; goes = refused_does (BadArea name cause) c t }))
  area_file_refuses why (refusing.broken bytes read tree stands place others is) =
      then_ok (file_named name) (inputs.area_in name) bytes c c c t t (t ++ line_of why) (Err (status_of why)) (read_does c t name bytes read)
      (inr (record {
        found = trees.Whole tree;
        is = trees.whole tree stands;
        goes = inr (record { found = areas.Broken place; is = areas.broken place others is; goes = refused_does (BadArea name (place_flaw place)) c t });
      }))

  module _ (r : Result AreaFile Status) (c' : Contents) (t' : List ℕ) where
    abbrev AreaFileComes : Type 0
    AreaFileComes = Came (HasAreaFile c name) (RefusesArea c name) c t r c' t'

    area_file_by : (bytes : List ℕ) → IsRead c name bytes → (tree : PlainGff) → Stands bytes tree → (fate : areas.AreaFate) → areas.IsAreaFate tree.top fate
        → Does (then (areas.area_by name tree fate) (λ a. Gives (inputs.area_file bytes a))) c t r c' t' → AreaFileComes
    area_file_by bytes read tree stands areas.Whole (areas.whole unbroken) does =
        given_comes (HasAreaFile c name) (RefusesArea c name) c t r c' t' (inputs.area_file bytes (area_of tree))
        (record { read = read; tree = tree; stands = stands; whole = unbroken; is = refl }) does
    area_file_by bytes read tree stands (areas.Broken place) (areas.broken _ others is) does =
        refusal_comes (HasAreaFile c name) (RefusesArea c name) c t r c' t' (BadArea name (place_flaw place))
        (refusing.broken bytes read tree stands place others is) does

    tree_file_by : (bytes : List ℕ) → IsRead c name bytes → (fate : trees.TreeFate) → trees.IsTreeFate bytes fate
        → Does (then (then (trees.tree_by name fate) (area_in name)) (λ a. Gives (inputs.area_file bytes a))) c t r c' t' → AreaFileComes
    unfolding area_in
    tree_file_by bytes read (trees.Whole tree) (trees.whole _ stands) (inl x) = cut x.0
    tree_file_by bytes read (trees.Whole tree) (trees.whole _ stands) (inr h) = area_file_by bytes read tree stands h.found h.is h.goes
    tree_file_by bytes read (trees.Faulty why) fate does =
        refusal_comes (HasAreaFile c name) (RefusesArea c name) c t r c' t' (BadArea name why) (refusing.faulty bytes read why fate) does

    area_bytes_come : (bytes : List ℕ) → IsRead c name bytes → Does (inputs.area_in name bytes) c t r c' t' → AreaFileComes
    unfolding inputs.area_in area_of_bytes tree_in
    area_bytes_come bytes read (inl x) = cut x.0
    area_bytes_come bytes read (inr h) = tree_file_by bytes read h.found h.is h.goes

    pub area_file_comes : Does (inputs.area_named name) c t r c' t' → AreaFileComes
    unfolding inputs.area_named
    area_file_comes does =
        then_comes (file_named name) (inputs.area_in name) (IsRead c name) (IsUnread c name) (HasAreaFile c name) (RefusesArea c name) c t r c' t'
        (file_comes c t name) area_bytes_come refusing.unread does
