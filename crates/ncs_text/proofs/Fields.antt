-- A text of arguments stands for one list of bytes.
use Rattle.std.proofs.Common.{◌≡◌, ℕ, List, [], ◌∷◌, ◌++◌, length, Option, Some, Bool, true, false, None, refl, sym, ap, ◌∙◌, subst, append_assoc}
use Rattle.std.proofs.lemmas.Option.{none-some, some_pair_parts}
use Rattle.ncs_code.specs.Spelling.{two}
use Rattle.ncs_text.specs.declared.argument.Argument.{Argument}
use Rattle.ncs_text.specs.declared.argument.Argument.TheVariants.{Signed, Byte, Short, Word, Place, Float, Text}
use Rattle.nwq_text.specs.Cuts.{IsFree, cut_at, CutParts}
use Rattle.nwq_text.specs.Laws.{cut_parts, cut_free}
use Rattle.ncs_text.specs.Arguments.{IsArgument, AreFields, AreArguments, IsString, IsParted}
use Rattle.ncs_text.specs.Steps.{Appends}
use Rattle.ncs_text.proofs.Strings.{quotes_apart}

same_bytes : (a b : List ℕ) (o : Option (List ℕ)) → o ≡ Some a → o ≡ Some b → a ≡ b
same_bytes a b o x y = let e : Some a ≡ Some b = sym x ∙ y in cc

one_string : (text b c : List ℕ) → IsString text b → IsString text c → b ≡ c
one_string text b c x y =
    let same : x.string ≡ y.string = quotes_apart x.string y.string x.each y.each (sym x.written ∙ y.written)
    in x.spelled ∙ ap (λ s. two (length s) ++ s) same ∙ sym y.spelled

one_argument : (at : ℕ) (argument : Argument) (text b c : List ℕ) → IsArgument at argument text b → IsArgument at argument text c → b ≡ c
one_argument at Signed text b c x y = same_bytes b c _ x y
one_argument at Byte text b c x y = same_bytes b c _ x y
one_argument at Short text b c x y = same_bytes b c _ x y
one_argument at Word text b c x y = same_bytes b c _ x y
one_argument at Place text b c x y = same_bytes b c _ x y
one_argument at Float text b c x y = same_bytes b c _ x y
one_argument at Text text b c x y = one_string text b c x y

tail : (x y : List ℕ) → 32 ∷ x ≡ 32 ∷ y → x ≡ y
tail x y e = cc

-- where a text is parted at its first space
pub one_cut : (field other rest last : List ℕ) → IsFree 32 field → IsFree 32 other → field ++ 32 ∷ rest ≡ other ++ 32 ∷ last → (field ≡ other) × (rest ≡ last)
one_cut field other rest last f g e =
    some_pair_parts field other rest last (sym (cut_free 32 field rest f) ∙ ap (cut_at 32) e ∙ cut_free 32 other last g)

one_fields : (at : ℕ) (argument : Argument) (others : List Argument) (text b c : List ℕ) → AreFields at argument others text b → AreFields at argument others text c → b ≡ c
one_fields at argument [] text b c x y = one_argument at argument text b c x y
one_fields at argument (following ∷ others) text b c x y =
    let parts = one_cut x.field y.field x.rest y.rest x.free y.free (sym x.written ∙ y.written)
    in let first : x.front ≡ y.front = one_argument at argument y.field x.front y.front (subst (λ t. IsArgument at argument t x.front) parts.0 x.first) y.first
    in let more : x.others ≡ y.others
    = one_fields at following others y.rest x.others y.others (subst (λ t. AreFields at following others t x.others) parts.1 x.behind) y.behind
    in x.spelled ∙ ap (λ f. f ++ x.others) first ∙ ap (λ o. y.front ++ o) more ∙ sym y.spelled

pub one_arguments : (at : ℕ) (arguments : List Argument) (text b c : List ℕ) → AreArguments at arguments text b → AreArguments at arguments text c → b ≡ c
one_arguments at [] text b c x y = x.1 ∙ sym y.1
one_arguments at (argument ∷ others) text b c x y =
    let same : x.0 ≡ y.0 = tail x.0 y.0 (sym x.1 ∙ y.1)
    in one_fields at argument others y.0 b c (subst (λ t. AreFields at argument others t b) same x.2) y.2

-- ---- reading them

-- A text that is cut there is parted so.
pub cut_is : (at : ℕ) (text field rest : List ℕ) → cut_at at text ≡ Some (field, rest) → (text ≡ field ++ at ∷ rest) × IsFree at field
cut_is at text field rest e = subst (CutParts at text) e (cut_parts at text)

cut_again : (text : List ℕ) (First Others : List ℕ → List ℕ → Type 0) (bytes : List ℕ) (p : IsParted First Others text bytes) → cut_at 32 text ≡ Some (p.field, p.rest)
cut_again text First Others bytes p = ap (cut_at 32) p.written ∙ cut_free 32 p.field p.rest p.free

pub uncut : (at : ℕ) (argument following : Argument) (others more : List Argument) (text : List ℕ) → others ≡ following ∷ more → cut_at 32 text ≡ None
    → (bytes : List ℕ) → AreFields at argument others text bytes → ⊥
uncut at argument following others more text is e bytes h =
    let p : IsParted (IsArgument at argument) (AreFields at following more) text bytes = subst (λ os. AreFields at argument os text bytes) is h
    in absurd (none-some (p.field, p.rest) (sym e ∙ cut_again text _ _ bytes p))

pub unread : (at : ℕ) (argument following : Argument) (others more : List Argument) (text field rest : List ℕ) → others ≡ following ∷ more → cut_at 32 text ≡ Some (field, rest)
    → ((bytes : List ℕ) → IsArgument at argument field bytes → ⊥) → (bytes : List ℕ) → AreFields at argument others text bytes → ⊥
unread at argument following others more text field rest is e none bytes h =
    let p : IsParted (IsArgument at argument) (AreFields at following more) text bytes = subst (λ os. AreFields at argument os text bytes) is h
    in let same = some_pair_parts p.field field p.rest rest (sym (cut_again text _ _ bytes p) ∙ e)
    in none p.front (subst (λ f. IsArgument at argument f p.front) same.0 p.first)

no_more : (at : ℕ) (argument following : Argument) (others more : List Argument) (text field rest : List ℕ) → others ≡ following ∷ more → cut_at 32 text ≡ Some (field, rest)
    → ((bytes : List ℕ) → AreFields at following more rest bytes → ⊥) → (bytes : List ℕ) → AreFields at argument others text bytes → ⊥
no_more at argument following others more text field rest is e none bytes h =
    let p : IsParted (IsArgument at argument) (AreFields at following more) text bytes = subst (λ os. AreFields at argument os text bytes) is h
    in let same = some_pair_parts p.field field p.rest rest (sym (cut_again text _ _ bytes p) ∙ e)
    in none p.others (subst (λ r. AreFields at following more r p.others) same.1 p.behind)

pub fields_more : (at : ℕ) (argument following : Argument) (others more : List Argument) (text field rest before between now : List ℕ) (took : Bool) → others ≡ following ∷ more
    → cut_at 32 text ≡ Some (field, rest) → Appends (IsArgument at argument field) before true between
    → Appends (AreFields at following more rest) between took now → Appends (AreFields at argument others text) before took now
fields_more at argument following others more text field rest before between now true is e first h =
    let parts = cut_is 32 text field rest e
    in (
      first.0 ++ h.0,
      h.1 ∙ ap (λ b. b ++ h.0) first.1 ∙ append_assoc before first.0 h.0,
      subst (λ os. AreFields at argument os text (first.0 ++ h.0)) (sym is) (record {
        field = field;
        rest = rest;
        front = first.0;
        others = h.0;
        free = parts.1;
        written = parts.0;
        spelled = refl;
        first = first.2;
        behind = h.2;
      }),
    )
fields_more at argument following others more text field rest before between now false is e first h = no_more at argument following others more text field rest is e h
