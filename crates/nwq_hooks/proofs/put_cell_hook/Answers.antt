use Rattle.std.proofs.Common.{◌≡◌, ◌∙◌, ap, take}
use Rattle.nwq_value.specs.Limits.{text_limit}
use Rattle.hook_table.specs.Standard.{function_numbered}
use Rattle.hook_table.specs.InHooks.{known_by}
use Rattle.hook_table.specs.declared.hook.Known.{Known}
use Rattle.nwq_hooks.proofs.HookLemmas.{name_kept, like_answer, cell_first, cell_tables}
use Rattle.nwq_hooks.proofs.put_cell_hook.Goals as goal

pub new-requires-clause-callable : goal.new-requires-clause-callable
new-requires-clause-callable g c = λ args types. c.requires.callable args (types ∙ (c.in_ok-params.ensures.ok ∙ c.params_of.ensures.params))

pub new-requires-clause-answers : goal.new-requires-clause-answers
new-requires-clause-answers g c = λ args v types post.
    let bytes : c.as_bytes.result.now ≡ (function_numbered 9).name = c.as_bytes.ensures.value ∙ c.name_of.ensures.name in
    let named : c.in_ok-name.name ≡ (function_numbered 9).name = c.in_ok-name.ensures.ok ∙ ap (take text_limit) bytes ∙ name_kept 9 in
    like_answer c.args.tables c.in_ok-name.name (function_numbered 9).name c.result_of.result (function_numbered 9).result args.now v
    named c.result_of.ensures.result
    (c.requires.answers args v (types ∙ (c.in_ok-params.ensures.ok ∙ c.params_of.ensures.params)) post)

pub returns-clause-next : goal.returns-clause-next
returns-clause-next g c =
    let bytes : c.as_bytes.result.now ≡ (function_numbered 9).name = c.as_bytes.ensures.value ∙ c.name_of.ensures.name in
    let named : c.in_ok-name.name ≡ (function_numbered 9).name = c.in_ok-name.ensures.ok ∙ ap (take text_limit) bytes ∙ name_kept 9 in
    cell_first c.standard_hooks_are_put_one_by_one.ensures.grow c.push.result (known_by c.args.hooks.now)
    (known_by c.push.new.self) c.new.result.known c.requires.first c.push.ensures.known
    (ap (λ (k : Known). k.name) c.new.ensures.known ∙ named)
    (ap (λ (k : Known). k.params) c.new.ensures.known ∙ (c.in_ok-params.ensures.ok ∙ c.params_of.ensures.params))
    (ap (λ (k : Known). k.result) c.new.ensures.known ∙ c.result_of.ensures.result)

pub returns-clause-tables : goal.returns-clause-tables
returns-clause-tables g c =
    cell_tables c.push.result (known_by c.args.hooks.now) (known_by c.push.new.self) c.new.result.known c.args.tables
    c.requires.first c.push.ensures.known (ap (λ (k : Known). k.tables) c.new.ensures.known)
