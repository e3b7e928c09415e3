use Rattle.std.proofs.Common.{◌≡◌, ◌∙◌, ap, take}
use Rattle.nwq_value.specs.Limits.{text_limit}
use Rattle.hook_table.specs.Standard.{function_numbered}
use Rattle.nwq_hooks.proofs.HookLemmas.{name_kept, same_answer}
use Rattle.nwq_hooks.proofs.put_hook.Goals as goal

pub new-requires-2-clause-answers : goal.new-requires-2-clause-answers
new-requires-2-clause-answers g c = λ args v types post.
    let bytes : c.as_bytes.result.now ≡ (function_numbered c.args.n).name = c.as_bytes.ensures.value ∙ c.name_of.ensures.name in
    let named : c.in_ok-name.name ≡ (function_numbered c.args.n).name = c.in_ok-name.ensures.ok ∙ ap (take text_limit) bytes ∙ name_kept c.args.n in
    same_answer c.new.result c.in_ok-name.name (function_numbered c.args.n).name c.result_of.result (function_numbered c.args.n).result args.now v
    c.new.ensures.empty named c.result_of.ensures.result
    (c.requires.answers args v (types ∙ (c.in_ok-params.ensures.ok ∙ c.params_of.ensures.params)) post)
