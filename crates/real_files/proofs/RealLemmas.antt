-- What files over a disk tell, where the disk tells its names, and where it doesn't.
use Rattle.std.proofs.Common.{◌≡◌, ◌≢◌, ◌<◌, ◌≤◌, ◌+◌, ℕ, Bool, true, false, List, take, length, All, Option, Some, None, IsSomeAnd, true≢false, refl, sym, ap, subst, ◌∙◌, arith, take_all}
use Rattle.std.proofs.Common.{length-take}
use Rattle.std.specs.Prelude.{IsTrue}
use Rattle.std.specs.FinMap.{get, empty}
use Rattle.nwq_value.specs.Limits.{file_limit}
use Rattle.nwq_outside.specs.Outside.{ContentsAreBytes, KeepsOthers, content, with_content, plain}
use Rattle.nwq_outside.specs.ContentLemmas.{write_keeps, same_keeps}
use Rattle.real_files.specs.Disk.{Names, SameKind, contents_in, place_in, follow, link_limit, is_own_name, told}
use Rattle.real_files.specs.Writing.{Replaces, FallsShort}

untold : {A : Type 0} → IsTrue false → A
untold is = absurd (true≢false (sym is))

-- ---- what is read: the whole content where it fits, and a front of one that is too long

read_whole : (held : Option (List ℕ)) (bytes : List ℕ) (most : ℕ) → most ≡ file_limit + 1 → IsSomeAnd held (λ whole. bytes ≡ take most whole)
    → length bytes ≤ file_limit → held ≡ Some bytes
read_whole None bytes most is front fits = absurd front
read_whole (Some whole) bytes most is front fits =
    let long : length bytes ≡ length (take most whole) = ap length front in
    ap Some (sym (take_all most whole (omega (arith, is, long, fits, length-take most whole)))) ∙ ap Some (sym front)

read_long : (held : Option (List ℕ)) (bytes : List ℕ) (most : ℕ) → IsSomeAnd held (λ whole. bytes ≡ take most whole)
    → file_limit < length bytes → IsSomeAnd held (λ whole. file_limit < length whole)
read_long None bytes most front over = front
read_long (Some whole) bytes most front over =
    let long : length bytes ≡ length (take most whole) = ap length front in
    omega (arith, long, over, length-take most whole)

module _ (t : Bool) (names : Names) (name : List ℕ) where
  told_content : IsTrue t → content (told t names) name ≡ get names.files (place_in names name)
  told_content tells = ap (λ b. content (told b names) name) tells

  pub told_read : (held : Names) (bytes : List ℕ) (most : ℕ) → IsTrue t → held ≡ names
      → IsSomeAnd (get held.files (place_in held name)) (λ whole. bytes ≡ take most whole) → most ≡ file_limit + 1 → length bytes ≤ file_limit
      → content (told t names) name ≡ Some bytes
  told_read held bytes most tells same front is fits =
      told_content tells
      ∙ read_whole _ bytes most is (subst (λ n. IsSomeAnd (get n.files (place_in n name)) (λ whole. bytes ≡ take most whole)) same front) fits

  pub told_long : (held : Names) (bytes : List ℕ) (most : ℕ) → IsTrue t → held ≡ names
      → IsSomeAnd (get held.files (place_in held name)) (λ whole. bytes ≡ take most whole) → file_limit < length bytes
      → IsSomeAnd (content (told t names) name) (λ whole. file_limit < length whole)
  told_long held bytes most tells same front over =
      subst (λ o. IsSomeAnd o (λ whole. file_limit < length whole)) (sym (told_content tells))
      (read_long _ bytes most (subst (λ n. IsSomeAnd (get n.files (place_in n name)) (λ whole. bytes ≡ take most whole)) same front) over)

  pub told_missing : IsTrue t → get names.files (place_in names name) ≡ None → content (told t names) name ≡ None
  told_missing tells none = told_content tells ∙ none

module _ (before after : Names) where
  same_places : SameKind before after → place_in after ≡ place_in before
  same_places kind = ap (λ links. follow link_limit links) kind.links

  module _ (name bytes : List ℕ) where
    whole_in : Replaces before after (place_in before name) bytes → contents_in after ≡ with_content (contents_in before) name bytes
    whole_in whole = λ i. record { held = whole.files i; place = same_places whole.kind i; spare = is_own_name }

    short_in : FallsShort before after (place_in before name) bytes → KeepsOthers name (contents_in before) (contents_in after)
    short_in short = record {
      ways = record { place = same_places short.kind; spare = refl };
      others = λ other apart. ap (λ places. get after.files (places other)) (same_places short.kind) ∙ short.others (place_in before other) apart.place apart.own;
    }

    -- what a write tells that was done
    pub told_whole : (t : Bool) → IsTrue t → Replaces before after (place_in before name) bytes → told t after ≡ with_content (told t before) name bytes
    told_whole true tells whole = whole_in whole
    told_whole false tells whole = untold tells

    -- and that it leaves the other names alone, done or not
    pub others_whole : (t : Bool) → (IsTrue t → Replaces before after (place_in before name) bytes) → KeepsOthers name (told t before) (told t after)
    others_whole true whole =
        subst (KeepsOthers name (contents_in before)) (sym (whole_in (whole refl))) (write_keeps (contents_in before) name bytes)
    others_whole false whole = same_keeps name (plain empty) (plain empty) refl

    pub others_short : (t : Bool) → (IsTrue t → FallsShort before after (place_in before name) bytes) → KeepsOthers name (told t before) (told t after)
    others_short true short = short_in (short refl)
    others_short false short = same_keeps name (plain empty) (plain empty) refl

-- what a disk holds are bytes, where it tells it
pub told_bytes : (t : Bool) (names : Names) → (IsTrue t → (name bytes : List ℕ) → get names.files name ≡ Some bytes → All (λ b. b < 256) bytes)
    → IsTrue t → ContentsAreBytes (told t names)
unfolding ContentsAreBytes
told_bytes true names are tells name bytes is = are refl (place_in names name) bytes is
told_bytes false names are tells name bytes is = untold tells

pub ruleset reads = (told_read, told_long, told_missing)

pub ruleset tells = (told_whole, others_whole, others_short)
