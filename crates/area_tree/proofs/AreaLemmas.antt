-- An area where one object is changed.
use Rattle.std.proofs.Common.{◌≡◌, true, ◌<◌, ◌≤◌, ◌-◌, ℕ, ℤ, zero, suc, cond, List, [], ◌∷◌, map, length, get_or, set, Result, Ok, Err, refl, sym, ap, subst, ◌∙◌, arith}
use Rattle.std.specs.Result.{OnOk, OnErr}
use Rattle.std.specs.List.{IsDistinct}
use Rattle.std.specs.Str.{bytes_eq}
use Rattle.nwq_value.specs.declared.memory.NoMemory.{NoMemory}
use Rattle.gff_tree.specs.Tree.{is_sound}
use Rattle.gff_tree.specs.Whole.{PlainGff}
use Rattle.local_variables.specs.Variables.{Variable, IntVar, put, same_variable}
use Rattle.area_rules.specs.Objects.{AreaObject}
use Rattle.area_rules.specs.Area.{PlainArea, empty_tree, object_at, tagged, with_vars, variables_changed_at, bare, HaveDistinct, IsArea}
use Rattle.area_tree.specs.Index.{Places, Lists, Indexes}

pub empty_sound : is_sound empty_tree.top ≡ true
unfolding is_sound
empty_sound = refl

pub object_read : (objects : List AreaObject) (i : ℕ) (object : AreaObject) → i < length objects → object ≡ get_or objects i object → object_at objects i ≡ object
object_read [] i object lt is = absurd (omega (arith, lt))
object_read (o ∷ objects) zero object lt is = sym is
object_read (o ∷ objects) (suc i) object lt is = object_read objects i object (omega (arith, lt)) is

pub object_changed : (objects : List AreaObject) (i : ℕ) (old new : AreaObject) (change : List Variable → List Variable)
    → i < length objects → old ≡ get_or objects i old → new ≡ with_vars change old →
    set objects i new ≡ variables_changed_at i change objects
object_changed [] i old new change lt is made = absurd (omega (arith, lt))
object_changed (o ∷ objects) zero old new change lt is made = ap (λ (x : AreaObject). x ∷ objects) (made ∙ ap (λ (x : AreaObject). with_vars change x) is)
object_changed (o ∷ objects) (suc i) old new change lt is made = ap (λ (os : List AreaObject). o ∷ os) (object_changed objects i old new change (omega (arith, lt)) is made)

bare_changed : (objects : List AreaObject) (i : ℕ) (change : List Variable → List Variable) → map bare (variables_changed_at i change objects) ≡ map bare objects
bare_changed [] i change = refl
bare_changed (o ∷ objects) zero change = refl
bare_changed (o ∷ objects) (suc i) change = ap (λ (os : List AreaObject). bare o ∷ os) (bare_changed objects i change)

long_changed : (objects : List AreaObject) (i : ℕ) (change : List Variable → List Variable) → length (variables_changed_at i change objects) ≡ length objects
long_changed [] i change = refl
long_changed (o ∷ objects) zero change = refl
long_changed (o ∷ objects) (suc i) change = ap suc (long_changed objects i change)

tagged_changed : (tag : List ℕ) (n : ℕ) (objects : List AreaObject) (i : ℕ) (change : List Variable → List Variable) → tagged tag n (variables_changed_at i change objects) ≡ tagged tag n objects
tagged_changed tag n [] i change = refl
tagged_changed tag n (o ∷ objects) zero change = refl
tagged_changed tag n (o ∷ objects) (suc i) change = ap (λ (ns : List ℕ). cond (bytes_eq tag o.tag) (n ∷ ns) ns) (tagged_changed tag (suc n) objects i change)

distinct_changed : (objects : List AreaObject) (i : ℕ) (change : List Variable → List Variable) → ((vars : List Variable) → IsDistinct same_variable vars → IsDistinct same_variable (change vars)) →
    HaveDistinct objects → HaveDistinct (variables_changed_at i change objects)
distinct_changed [] i change keeps all = tt
distinct_changed (o ∷ objects) zero change keeps all = (keeps o.vars all.0, all.1)
distinct_changed (o ∷ objects) (suc i) change keeps all = (all.0, distinct_changed objects i change keeps all.1)

-- the facts of an area with these objects
abbrev pub Facts : PlainGff → List AreaObject → Type 0
Facts tree objects = IsArea (record { tree = tree; objects = objects })

pub facts_changed : (tree : PlainGff) (objects : List AreaObject) (i : ℕ) (change : List Variable → List Variable)
    → ((vars : List Variable) → IsDistinct same_variable vars → IsDistinct same_variable (change vars)) →
    Facts tree objects → Facts tree (variables_changed_at i change objects)
facts_changed tree objects i change keeps area = record {
  sound = area.sound;
  whole = area.whole;
  same = bare_changed objects i change ∙ area.same;
  distinct = distinct_changed objects i change keeps area.distinct;
  few = omega (arith, area.few, long_changed objects i change);
}

-- what a change of one object leaves of an area's fields
abbrev pub Leaves : PlainGff → List AreaObject → List AreaObject → Type 0
Leaves tree before after = Facts tree after × ((tag : List ℕ) → tagged tag 1 after ≡ tagged tag 1 before)

pub index_left : (places : Places) (lists : Lists) (before after : List AreaObject) → Indexes places lists before
    → ((tag : List ℕ) → tagged tag 1 after ≡ tagged tag 1 before) → Indexes places lists after
index_left places lists before after indexes same = λ tag. indexes tag ∙ sym (same tag)

pub object_left : (tree : PlainGff) (objects : List AreaObject) (i : ℕ) (old new : AreaObject)
    (change : List Variable → List Variable)
    → ((vars : List Variable) → IsDistinct same_variable vars → IsDistinct same_variable (change vars)) →
    Facts tree objects → i < length objects → old ≡ get_or objects i old → new ≡ with_vars change old → Leaves tree objects (set objects i new)
object_left tree objects i old new change keeps area lt is made =
    subst (Leaves tree objects) (sym (object_changed objects i old new change lt is made)) (facts_changed tree objects i change keeps area, λ tag. tagged_changed tag 1 objects i change)

same_left : (tree : PlainGff) (objects : List AreaObject) (i : ℕ) (old new : AreaObject) → Facts tree objects
    → i < length objects → old ≡ get_or objects i old → new ≡ old → Leaves tree objects (set objects i new)
same_left tree objects i old new area lt is made = object_left tree objects i old new (λ vars. vars) (λ vars d. d) area lt is made

-- a change that may have found no memory
pub tried_left : (tree : PlainGff) (objects : List AreaObject) (i : ℕ) (old new : AreaObject) (change : List Variable → List Variable) (r : Result (Unit {0}) NoMemory) →
    ((vars : List Variable) → IsDistinct same_variable vars → IsDistinct same_variable (change vars)) → Facts tree objects → i < length objects → old ≡ get_or objects i old →
    OnOk r (new ≡ with_vars change old) → OnErr r (new ≡ old) → Leaves tree objects (set objects i new)
tried_left tree objects i old new change (Ok u) keeps area lt is made same = object_left tree objects i old new change keeps area lt is made
tried_left tree objects i old new change (Err e) keeps area lt is made same = same_left tree objects i old new area lt is same

pub tried_ok : (tree : PlainGff) (objects : List AreaObject) (i : ℕ) (old new : AreaObject) (change : List Variable → List Variable) (area : PlainArea) (r : Result (Unit {0}) NoMemory) →
    record { tree = tree; objects = objects } ≡ area → i < length objects → old ≡ get_or objects i old → OnOk r (new ≡ with_vars change old) →
    OnOk r (record { tree = tree; objects = set objects i new } ≡ record area { objects = variables_changed_at i change area.objects })
tried_ok tree objects i old new change area (Ok u) view lt is made =
    ap (λ (os : List AreaObject). record { tree = tree; objects = os })
    (object_changed objects i old new change lt is made)
    ∙ ap (λ (a : PlainArea). record a { objects = variables_changed_at i change a.objects }) view
tried_ok tree objects i old new change area (Err e) view lt is made = tt

pub tried_err : (tree : PlainGff) (objects : List AreaObject) (i : ℕ) (old new : AreaObject) (area : PlainArea) (r : Result (Unit {0}) NoMemory) →
    record { tree = tree; objects = objects } ≡ area → i < length objects → old ≡ get_or objects i old → OnErr r (new ≡ old) → OnErr r (record { tree = tree; objects = set objects i new } ≡ area)
tried_err tree objects i old new area (Ok u) view lt is same = tt
tried_err tree objects i old new area (Err e) view lt is same =
    ap (λ (os : List AreaObject). record { tree = tree; objects = os }) (object_changed objects i old new (λ vars. vars) lt is same ∙ unchanged objects i) ∙ view
  where
    unchanged : (os : List AreaObject) (k : ℕ) → variables_changed_at k (λ vars. vars) os ≡ os
    unchanged [] k = refl
    unchanged (o ∷ os) zero = refl
    unchanged (o ∷ os) (suc k) = ap (λ (rest : List AreaObject). o ∷ rest) (unchanged os k)

pub made_view : (tree : PlainGff) (objects : List AreaObject) (i : ℕ) (old new : AreaObject) (change : List Variable → List Variable) (area : PlainArea) →
    record { tree = tree; objects = objects } ≡ area → i < length objects → old ≡ get_or objects i old → new ≡ with_vars change old →
    record { tree = tree; objects = set objects i new } ≡ record area { objects = variables_changed_at i change area.objects }
made_view tree objects i old new change area view lt is made = tried_ok tree objects i old new change area (Ok tt) view lt is made

-- where an object stands among those of an area
pub place_of : (o : ℕ) (objects seen : List AreaObject) → objects ≡ seen → 1 ≤ o → o ≤ length seen → o - 1 < length objects
place_of o objects seen is first within = let same : length objects ≡ length seen = ap length is in omega (arith, first, within, same)

pub object_seen : (o : ℕ) (tree : PlainGff) (objects : List AreaObject) (area : PlainArea) (object : AreaObject)
    → record { tree = tree; objects = objects } ≡ area → o - 1 < length objects
    → object ≡ get_or objects (o - 1) object →
    object ≡ object_at area.objects (o - 1)
object_seen o tree objects area object view lt is = sym (object_read objects (o - 1) object lt is) ∙ ap (λ (a : PlainArea). object_at a.objects (o - 1)) view

-- a number that was passed on is the one that was given
pub ok_number : (name : List ℕ) (new old : AreaObject) (m n : ℤ) (r : Result (Unit {0}) NoMemory) → m ≡ n
    → OnOk r (new ≡ with_vars (put (IntVar name m)) old) → OnOk r (new ≡ with_vars (put (IntVar name n)) old)
ok_number name new old m n (Ok u) is made = made ∙ ap (λ (k : ℤ). with_vars (put (IntVar name k)) old) is
ok_number name new old m n (Err e) is made = tt
