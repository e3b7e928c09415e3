-- What is told of a broken rule.
use Rattle.std.proofs.Common.{◌≡◌, ℕ, List, ◌++◌, codes, None, Some, Result, Ok, Err, OnOk, ap, ◌∙◌}
use Rattle.nwq_text.specs.Number.{number_of}
use Rattle.message_sentences.specs.Rules.{rule_text, unfit_text}

pub rule_told : {T E : Type 0} (result : Result T E) (digits text before after : List ℕ) (n : ℕ) → Some n ≡ number_of digits → text ≡ rule_text n
    → OnOk result (after ≡ before ++ text) → OnOk result (after ≡ before ++ unfit_text (number_of digits))
rule_told (Err e) digits text before after n is rule put = tt
rule_told (Ok x) digits text before after n is rule put = put ∙ ap (λ t. before ++ t) (rule ∙ ap unfit_text is)

pub none_told : {T E : Type 0} (result : Result T E) (digits before after : List ℕ) → None ≡ number_of digits
    → OnOk result (after ≡ before ++ codes "?") → OnOk result (after ≡ before ++ unfit_text (number_of digits))
none_told (Err e) digits before after is put = tt
none_told (Ok x) digits before after is put = put ∙ ap (λ o. before ++ unfit_text o) is
