-- The queue of an object, action by action.
use Rattle.std.proofs.Common.{◌≡◌, ◌<◌, ℕ, ◌+◌, List, [], ◌∷◌, ◌++◌, length, take, get_or, map, ap, refl, ◌∙◌}
use Rattle.std.specs.Prelude.{Bool}
use Rattle.action_queue.specs.Queued.{Queued}
use Rattle.action_queue.specs.declared.queue.Item.{Item}
use Rattle.state_parts.specs.KeepingLemmas.{map_more}

-- one action more
pub queue_more : {A X : Type 0} (f : A → Item X) (busy : Bool) (xs : List A) (i : ℕ) (x : A) (y : Item X) (old new : Queued X)
    → old ≡ record { actions = map f (take i xs); busy = busy } → new ≡ record old { actions = old.actions ++ y ∷ [] } → y ≡ f x → i < length xs → x ≡ get_or xs i x
    → new ≡ record { actions = map f (take (i + 1) xs); busy = busy }
queue_more f busy xs i x y old new before grown is h at =
    grown ∙ ap (λ (q : Queued _). record q { actions = q.actions ++ y ∷ [] }) before
    ∙ ap (λ (l : List _). record { actions = l; busy = busy }) (map_more f xs i x y (map f (take i xs)) (map f (take i xs) ++ y ∷ []) refl refl is h at)
