-- What is told of a member by what it is asked of.
use Rattle.std.proofs.Common.{◌≡◌, ℕ, ℤ, Bool, true, false, not, List, [], ◌++◌, codes, Result, Ok, Err, is_some, sym, ap, refl, ◌∙◌, append_assoc, append-nil, true≢false}
use Rattle.std.specs.Fmt.{signed_decimal}
use Rattle.std.specs.Result.{OnOk}
use Rattle.nwq_value.specs.declared.value.Ty.{Ty}
use Rattle.nwq_value.specs.declared.value.Ty.TheVariants.{Void, Int, Text, Object, Effect, Event, Action, Struct, Refused}
use Rattle.expression_reasons.specs.declared.reason.Reason.TheVariants.{NoMember}
use Rattle.message_sentences.specs.Template.{filled}
use Rattle.message_types.specs.Sentences.{or_nothing, said, type_word}

nothing : (t : List ℕ) (of : Ty) → is_some (said t (NoMember of)) ≡ false → or_nothing (said t (NoMember of)) ≡ []
nothing t Void h = absurd (true≢false h)
nothing t Int h = absurd (true≢false h)
nothing t Text h = absurd (true≢false h)
nothing t Object h = absurd (true≢false h)
nothing t Effect h = absurd (true≢false h)
nothing t Event h = absurd (true≢false h)
nothing t Action h = absurd (true≢false h)
nothing t (Struct n) h = refl
nothing t Refused h = absurd (true≢false h)

something : (t : List ℕ) (of : Ty) → is_some (said t (NoMember of)) ≡ true → or_nothing (said t (NoMember of)) ≡ filled t (codes "what stands before `%` is no struct: ") ++ type_word of
something t Void h = refl
something t Int h = refl
something t Text h = refl
something t Object h = refl
something t Effect h = refl
something t Event h = refl
something t Action h = refl
something t (Struct n) h = absurd (true≢false (sym h))
something t Refused h = refl

pub of_struct : (t before : List ℕ) (of : Ty) (b : Bool) → ((p : List ℕ) → not b ≡ is_some (said p (NoMember of))) → b ≡ true → before ≡ before ++ or_nothing (said t (NoMember of))
of_struct t before of b test is = sym (ap (λ text. before ++ text) (nothing t of (sym (test t) ∙ ap not is)) ∙ append-nil before)

pub of_other : {T E : Type 0} (result : Result T E) (t before after : List ℕ) (of : Ty) (b : Bool) → ((p : List ℕ) → not b ≡ is_some (said p (NoMember of))) → b ≡ false
    → OnOk result (after ≡ before ++ (filled t (codes "what stands before `%` is no struct: ") ++ type_word of)) → OnOk result (after ≡ before ++ or_nothing (said t (NoMember of)))
of_other (Err e) t before after of b test is put = tt
of_other (Ok x) t before after of b test is put = put ∙ ap (λ text. before ++ text) (sym (something t of (sym (test t) ∙ ap not is)))

-- a number that is put behind a text that was appended
pub number_behind : {T E : Type 0} (result : Result T E) (before text middle after : List ℕ) (n m : ℤ) → m ≡ n → middle ≡ before ++ text
    → OnOk result (after ≡ middle ++ signed_decimal m) → OnOk result (after ≡ before ++ (text ++ signed_decimal n))
number_behind (Err e) before text middle after n m same one two = tt
number_behind (Ok x) before text middle after n m same one two =
    two ∙ ap (λ v. middle ++ signed_decimal v) same ∙ ap (λ k. k ++ signed_decimal n) one ∙ append_assoc before text (signed_decimal n)
