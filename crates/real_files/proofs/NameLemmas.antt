-- Names beside names, and where the links of a name lead.
use Rattle.std.proofs.Common.{◌≡◌, ℕ, zero, suc, ◌-◌, ◌<◌, ◌++◌, Bool, true, false, true≢false, cond, List, [], ◌∷◌, Some, None, bytes_eq, refl, sym, ap, ◌∙◌, arith, append_assoc}
use Rattle.std.specs.Prelude.{◌||◌, decimal}
use Rattle.std.specs.FinMap.{get}
use Rattle.std.proofs.lemmas.Slice.Eq.{bytes_eq-Decides}
use Rattle.nwq_outside.specs.Outside.{Held}
use Rattle.real_files.specs.Disk.{beside, folder_of, is_from_root, next_of, follow, ends_in, own_ending, is_own_name}
use Rattle.real_files.specs.Writing.{new_name}

or_true : (b : Bool) → (b || true) ≡ true
or_true true = refl
or_true false = refl

true_or : (a b : Bool) → a ≡ true → (a || b) ≡ true
true_or true b is = refl
true_or false b is = absurd (true≢false (sym is))

ends_whole : (ending : List ℕ) → ends_in ending ending ≡ true
ends_whole [] = refl
ends_whole (byte ∷ bytes) = true_or _ _ ((bytes_eq-Decides (byte ∷ bytes) (byte ∷ bytes)).1 refl)

ends_after : (front ending : List ℕ) → ends_in ending (front ++ ending) ≡ true
ends_after [] ending = ends_whole ending
ends_after (byte ∷ front) ending = ap (λ b. bytes_eq ending (byte ∷ (front ++ ending)) || b) (ends_after front ending) ∙ or_true _

own_from : (from_root : Bool) (folder digits : List ℕ) → is_own_name (cond from_root (digits ++ own_ending) (folder ++ (digits ++ own_ending))) ≡ true
own_from true folder digits = ends_after digits own_ending
own_from false folder digits = ap is_own_name (sym (append_assoc folder digits own_ending)) ∙ ends_after (folder ++ digits) own_ending

-- each new name is one of a write's own
pub new_is_own : (number : ℕ) (name : List ℕ) → is_own_name (new_name number name) ≡ true
new_is_own number name = own_from (is_from_root (decimal number ++ own_ending)) (folder_of name) (decimal number)

-- ---- where links lead

-- what is no link leads to itself
pub stays : (links : ℕ) (held : Held) (name : List ℕ) → get held name ≡ None → follow links held name ≡ name
unfolding follow
stays zero held name none = refl
stays (suc links) held name none = ap (λ text. next_of text name (follow links held)) none

-- and a link leads where what it leads to leads by fewer links
pub leads : (links : ℕ) (held : Held) (name text : List ℕ) → get held name ≡ Some text → 0 < links
    → follow links held name ≡ follow (links - 1) held (beside name text)
unfolding follow
leads zero held name text is some = absurd (omega arith)
leads (suc links) held name text is some =
    ap (λ next. next_of next name (follow links held)) is ∙ ap (λ n. follow n held (beside name text)) {x = links} {y = suc links - 1} (omega arith)

pub ruleset places = (stays, leads)
