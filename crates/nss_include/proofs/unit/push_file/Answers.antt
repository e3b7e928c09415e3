use Rattle.std.proofs.Common.{◌≡◌, Some, ◌++◌, ◌∷◌, [], ◌∙◌, ap, sym, subst}
use Rattle.nwq_value.specs.Index.{Puts}
use Rattle.nss_include.specs.View.{HasNames}
use Rattle.nss_include.proofs.UnitLemmas.{names_more}
use Rattle.nss_include.proofs.unit.push_file.Goals as goal

pub returns-clause-names : goal.returns-clause-names
returns-clause-names c =
    let grown : c.push.new.self.items ≡ c.args.files.now.items ++ c.args.file ∷ [] = c.in_ok-push.ensures.items ∙ ap (λ files. files ++ c.args.file ∷ []) c.in_ok-reserve.ensures.items in
    let puts = subst (λ name. Puts name (Some c.len.result) c.args.names.now c.set.new.self) c.as_slice.ensures.items c.in_ok-set.ensures.ok in
    subst (λ files. HasNames files c.set.new.self) (sym grown) (names_more c.args.files.now.items c.args.file c.len.result c.args.names.now c.set.new.self c.requires.names puts)
