-- The bytes of a row, and the instruction that they spell.
use Rattle.std.proofs.Common.{◌≡◌, ℕ, List, [], ◌∷◌, ◌++◌, true, Option, Some, None, refl, sym, ap, ◌∙◌, subst, append_assoc}
use Rattle.ncs_text.specs.declared.argument.Argument.{Argument}
use Rattle.ncs_text.specs.Arguments.{arguments, AreArguments}
use Rattle.ncs_text.specs.Steps.{Appends, IsRow, PutsSome, SpelledWhole}
use Rattle.ncs_text.proofs.Fields.{one_arguments}

-- what was appended, and what it spells
pub row_puts : (at code kind : ℕ) (text before first now spelled : List ℕ) (args : List Argument) (size : Option ℕ) → args ≡ arguments code kind
    → first ≡ before ++ code ∷ kind ∷ [] → Appends (AreArguments at args text) first true now → ((bytes : List ℕ) → now ≡ before ++ bytes → spelled ≡ bytes)
    → SpelledWhole spelled size → PutsSome (IsRow at code kind text) before now size
row_puts at code kind text before first now spelled args size is begun more taken whole =
    let both : now ≡ before ++ code ∷ kind ∷ more.0 = more.1 ∙ ap (λ f. f ++ more.0) begun ∙ append_assoc before (code ∷ kind ∷ []) more.0
    in let fields : AreArguments at (arguments code kind) text more.0 = subst (λ os. AreArguments at os text more.0) is more.2
    in by_size size (code ∷ kind ∷ more.0) both fields (taken (code ∷ kind ∷ more.0) both) refl whole
  where
    by_size : (o : Option ℕ) (bytes : List ℕ) → now ≡ before ++ bytes → AreArguments at (arguments code kind) text more.0 → spelled ≡ bytes → bytes ≡ code ∷ kind ∷ more.0
        → SpelledWhole spelled o → PutsSome (IsRow at code kind text) before now o
    by_size (Some n) bytes both fields same parts s = record {
      op = s.op;
      holds = record { is_op = s.is_op; bytes = more.0; spelled = sym s.is ∙ same ∙ parts; fields = fields };
      appended = both ∙ ap (λ b. before ++ b) (sym same ∙ s.is);
      size_is = s.size_is;
    }
    by_size None bytes both fields same parts none = λ op row.
        let alike : more.0 ≡ row.bytes = one_arguments at (arguments code kind) text more.0 row.bytes fields row.fields
        in none op row.is_op (same ∙ parts ∙ ap (λ b. code ∷ kind ∷ b) alike ∙ sym row.spelled)
