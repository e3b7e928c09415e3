-- Objects of a world that are made parts one by one.
use Rattle.std.proofs.Common.{◌≡◌, ◌<◌, ◌≤◌, ℕ, zero, suc, ◌+◌, List, [], ◌∷◌, ◌++◌, length, take, get_or, map, sym, ap, refl, ◌∙◌, add-one, subst, arith}
use Rattle.std.specs.Prelude.{IsTrue}
use Rattle.std.proofs.lemmas.List.{take_all}
use Rattle.area_rules.specs.Objects.{AreaObject}
use Rattle.area_rules.specs.Area.{PlainArea, object_at, object}
use Rattle.world_rules.specs.declared.data.Things.{Things}
use Rattle.saved_state.specs.declared.saved.Saved.{Saved}
use Rattle.state_format.specs.Parts.{IsObject}
use Rattle.state_format.specs.declared.parts.Object.{Object}
use Rattle.state_parts.specs.World.{things_of, variables_of}
use Rattle.state_parts.specs.ShortTexts.{has_short_items}
use Rattle.state_parts.specs.KeepingLemmas.{all_behind, test_behind}
use Rattle.play_save.specs.Keeping.{AreObjectsOf}

map_last : {A B : Type 0} (f : B → A) (ps : List B) (p : B) → map f (ps ++ p ∷ []) ≡ map f ps ++ f p ∷ []
map_last f [] p = refl
map_last f (q ∷ ps) p = ap (λ (l : List _). f q ∷ l) (map_last f ps p)

taken_object : (os : List AreaObject) (i : ℕ) → i < length os
    → map (λ (o : AreaObject). o.vars) (take (suc i) os) ≡ map (λ (o : AreaObject). o.vars) (take i os) ++ (object_at os i).vars ∷ []
taken_object [] i h = absurd (omega arith)
taken_object (o ∷ os) zero h = refl
taken_object (o ∷ os) (suc i) h = ap (λ (l : List _). o.vars ∷ l) (taken_object os i (omega arith))

taken_things : {A : Type 0} (ts : List A) (i : ℕ) (t : A) → i < length ts → t ≡ get_or ts i t → take (suc i) ts ≡ take i ts ++ t ∷ []
taken_things [] i t h at = absurd (omega arith)
taken_things (x ∷ ts) zero t h at = ap (λ z. z ∷ []) (sym at)
taken_things (x ∷ ts) (suc i) t h at = ap (λ (l : List _). x ∷ l) (taken_things ts i t (omega arith) at)

pub objects_more : (os : List AreaObject) (ts : List (Things Saved)) (i : ℕ) (t : Things Saved) (old new : List Object) (p : Object) → AreObjectsOf (take i os) (take i ts) old
    → new ≡ old ++ p ∷ [] → things_of p ≡ t → variables_of p ≡ (object_at os i).vars → IsObject p → IsTrue (has_short_items p) → i < length os → i < length ts → t ≡ get_or ts i t
    → AreObjectsOf (take (i + 1) os) (take (i + 1) ts) new
objects_more os ts i t old new p before grown things variables form short ho ht at =
    subst (λ (k : ℕ). AreObjectsOf (take k os) (take k ts) new) (sym (add-one i)) (subst (AreObjectsOf (take (suc i) os) (take (suc i) ts)) (sym grown) (record {
      told = record {
        kept = map_last things_of old p ∙ ap (λ (l : List (Things Saved)). l ++ things_of p ∷ []) before.told.kept
            ∙ ap (λ z. take i ts ++ z ∷ []) things ∙ sym (taken_things ts i t ht at);
        variables = map_last variables_of old p ∙ ap (λ (l : List (List _)). l ++ variables_of p ∷ []) before.told.variables
            ∙ ap (λ z. map (λ (o : AreaObject). o.vars) (take i os) ++ z ∷ []) variables ∙ sym (taken_object os i ho);
        short = test_behind has_short_items old p before.told.short short;
      };
      form = all_behind IsObject old p before.form form;
    }))

pub objects_end : (os : List AreaObject) (ts : List (Things Saved)) (i : ℕ) (ps : List Object) → AreObjectsOf (take i os) (take i ts) ps → length os ≤ i → length ts ≤ i
    → AreObjectsOf os ts ps
objects_end os ts i ps before ho ht = subst (λ (l : List AreaObject). AreObjectsOf l ts ps) (take_all i os ho)
    (subst (λ (l : List (Things Saved)). AreObjectsOf (take i os) l ps) (take_all i ts ht) before)

pub none_kept : AreObjectsOf [] [] []
none_kept = record { told = record { kept = refl; variables = refl; short = refl }; form = tt }

pub object_here : (area : PlainArea) (i : ℕ) → (object area (i + 1)).vars ≡ (object_at area.objects i).vars
object_here area i = ap (λ (k : ℕ). (object_at area.objects k).vars) (omega arith)
