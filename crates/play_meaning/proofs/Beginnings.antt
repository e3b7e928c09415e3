-- Lists that are beginnings of others.
use Rattle.std.proofs.Common.{List, [], ◌++◌, sym, ap, ◌∙◌, refl, append_assoc}
use Rattle.std.proofs.lemmas.List.{append-nil}
use Rattle.play_meaning.specs.Together.{IsFirstPartOf}

pub whole_begins : {A : Type 0} (a : List A) → IsFirstPartOf a a
whole_begins a = record { more = []; is = sym (append-nil a) }

pub longer_begins : {A : Type 0} (a more : List A) → IsFirstPartOf a (a ++ more)
longer_begins a more = record { more = more; is = refl }

pub begins_then : {A : Type 0} {a b c : List A} → IsFirstPartOf a b → IsFirstPartOf b c → IsFirstPartOf a c
begins_then {a = a} h k = record { more = h.more ++ k.more; is = k.is ∙ ap (λ l. l ++ k.more) h.is ∙ append_assoc a h.more k.more }

pub behind_begins : {A : Type 0} (front : List A) {a b : List A} → IsFirstPartOf a b → IsFirstPartOf (front ++ a) (front ++ b)
behind_begins front {a = a} h = record { more = h.more; is = ap (λ l. front ++ l) h.is ∙ sym (append_assoc front a h.more) }
