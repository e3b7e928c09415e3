use Rattle.std.proofs.Common.{◌∙◌, ◌++◌, ◌&&◌, Bool, Option, false, is_some, sym, ap, refl}
use Rattle.std.specs.Option.{option_map}
use Rattle.nss_tree.specs.Reading.{plain_stmts}
use Rattle.nss_tree.specs.Units as unit
use Rattle.typing_rules.specs.Nodes.{asked, at, fine, kept, three, two}
use Rattle.typing_rules.specs.Rules.{TypedHead, function_rows, function_rule, head_rows, signature_of}
use Rattle.typing_rules.specs.Sight.{Head, function_begun, first_types, has_body, is_taken_by_other, type_means}
use Rattle.typing_rules.specs.UnitReading.{typed_item, typed_stmts}
use Rattle.typing_rules.specs.Verdicts.{after_body, after_params, body_faults, body_fine, function_verdict, head, head_verdict, in_body, in_function, item_faults, params_faults, params_fine}
use Rattle.nss_scopes.specs.Entries.{head_of, meant_of}
use Rattle.nss_types.specs.Heads.{head_rule_by}
use Rattle.nss_expressions.specs.Views.{heads_in, sight_in}
use Rattle.nss_types.specs.Heads.{typed_head}
use Rattle.nss_expressions.specs.Kept.{kept_append}
use Rattle.nss_types.proofs.FunctionLemmas.{function_adds, head_is, seen_after, there_is}
use Rattle.nss_expressions.specs.Walked.{two_least, two_value}
use Rattle.nss_types.proofs.function.function.Goals as goal

pub returns-in-Ok-clause-value : goal.returns-in-Ok-clause-value
returns-in-Ok-clause-value c =
    two_value typed_item (λ (u : Unit {0}). function_verdict (heads_in c.args.given.now)
    (sight_in c.args.given.now c.args.c.now) c.args.token c.args.ty.now c.args.name.now c.args.ps.now
    (option_map plain_stmts c.args.body.now))
    (λ (u : Unit {0}). item_faults (heads_in c.args.given.now) (sight_in c.args.given.now c.args.c.now)
    (unit.function c.args.token c.args.ty.now c.args.name.now c.args.ps.now
    (option_map plain_stmts c.args.body.now))) c.args.token c.close.result tt tt refl
    (λ y z. asked function_rows (function_rule c.args.token c.in_ok-copied.copied) (two y z))
    (option_map typed_head c.in-Ok.walked.head)
    (fine (head_verdict (sight_in c.args.given.now c.args.c.now) c.args.ty.now c.args.name.now c.args.ps.now
    (is_some (option_map plain_stmts c.args.body.now)))) (option_map (option_map typed_stmts) c.in-Ok.walked.body)
    (body_fine (heads_in c.args.given.now)
    (in_body (sight_in c.args.given.now c.args.c.now) c.args.ty.now c.args.ps.now)
    (option_map plain_stmts c.args.body.now))
    (c.in-Ok.ensures.head ∙ ap fine
    (head_is c.is_taken_by_other.result
    (is_taken_by_other (sight_in c.args.given.now c.args.c.now) c.args.name.now) c.is_second.result
    (is_some (option_map plain_stmts c.args.body.now) && has_body c.args.name.now c.args.c.now.seen)
    (params_fine (sight_in c.args.given.now c.begin-mark.new.self) false c.args.ps.now)
    (params_fine (in_function (sight_in c.args.given.now c.args.c.now) c.args.ty.now) false c.args.ps.now)
    (option_map meant_of c.type_means.result) (type_means c.args.c.now.structs c.args.ty.now)
    (first_types c.args.name.now c.begin-mark.new.self.seen) (first_types c.args.name.now c.args.c.now.seen)
    (c.is_taken_by_other.ensures.taken ∙ ap (is_taken_by_other (sight_in c.args.given.now c.args.c.now)) c.bytes.ensures.same)
    (c.is_second.ensures ∙ (ap (λ y. c.is_some.result && has_body y c.args.c.now.seen) c.bytes-2.ensures.same
    ∙ ap (λ y. y && has_body c.args.name.now c.args.c.now.seen)
    (c.is_some.ensures ∙ there_is plain_stmts c.args.body.now)))
    (ap (λ k. params_fine k false c.args.ps.now)
    (c.begin-mark.ensures.begun c.args.given.now.table.now
    ∙ ap (function_begun (sight_in c.args.given.now c.args.c.now)) c.result_type-ty.ensures.typed)) c.type_means.ensures.meaning
    (ap (λ k. first_types c.args.name.now k.seen) (c.begin-mark.ensures.begun c.args.given.now.table.now ∙ ap (function_begun (sight_in c.args.given.now c.args.c.now))
    c.result_type-ty.ensures.typed))))
    (c.in-Ok.ensures.body ∙ ap
    (λ k. body_fine (heads_in c.args.given.now) (after_params k c.args.ps.now)
    (option_map plain_stmts c.args.body.now))
    (c.begin-mark.ensures.begun c.args.given.now.table.now
    ∙ ap (function_begun (sight_in c.args.given.now c.args.c.now)) c.result_type-ty.ensures.typed))
    (ap (λ y. asked function_rows (function_rule c.args.token y)
    (two (fine (head_verdict (sight_in c.args.given.now c.args.c.now) c.args.ty.now c.args.name.now c.args.ps.now
    (is_some (option_map plain_stmts c.args.body.now))))
    (body_fine (heads_in c.args.given.now)
    (in_body (sight_in c.args.given.now c.args.c.now) c.args.ty.now c.args.ps.now)
    (option_map plain_stmts c.args.body.now)))) (sym c.in_ok-copied.ensures.ok)) c.close.ensures.value

pub returns-in-Ok-clause-least : goal.returns-in-Ok-clause-least
returns-in-Ok-clause-least c =
    two_least typed_item (λ (u : Unit {0}). function_verdict (heads_in c.args.given.now)
    (sight_in c.args.given.now c.args.c.now) c.args.token c.args.ty.now c.args.name.now c.args.ps.now
    (option_map plain_stmts c.args.body.now))
    (λ (u : Unit {0}). item_faults (heads_in c.args.given.now) (sight_in c.args.given.now c.args.c.now)
    (unit.function c.args.token c.args.ty.now c.args.name.now c.args.ps.now
    (option_map plain_stmts c.args.body.now))) c.args.token c.close.result tt tt refl
    (λ y z. asked function_rows (function_rule c.args.token c.in_ok-copied.copied) (two y z))
    (option_map typed_head c.in-Ok.walked.head)
    (fine (head_verdict (sight_in c.args.given.now c.args.c.now) c.args.ty.now c.args.name.now c.args.ps.now
    (is_some (option_map plain_stmts c.args.body.now)))) (option_map (option_map typed_stmts) c.in-Ok.walked.body)
    (body_fine (heads_in c.args.given.now)
    (in_body (sight_in c.args.given.now c.args.c.now) c.args.ty.now c.args.ps.now)
    (option_map plain_stmts c.args.body.now))
    c.args.least.now (kept (kept c.args.least.now
    (params_faults (in_function (sight_in c.args.given.now c.args.c.now) c.args.ty.now) false c.args.ps.now))
    (at c.args.token (head_verdict
    (sight_in c.args.given.now c.args.c.now) c.args.ty.now c.args.name.now c.args.ps.now
    (is_some (option_map plain_stmts c.args.body.now))))) c.parts-walked.new.least c.close.new.least
    ((params_faults (in_function (sight_in c.args.given.now c.args.c.now) c.args.ty.now) false c.args.ps.now)
    ++ at c.args.token (head_verdict
    (sight_in c.args.given.now c.args.c.now) c.args.ty.now c.args.name.now c.args.ps.now
    (is_some (option_map plain_stmts c.args.body.now))))
    (body_faults (heads_in c.args.given.now)
    (in_body (sight_in c.args.given.now c.args.c.now) c.args.ty.now c.args.ps.now)
    (option_map plain_stmts c.args.body.now))
    (c.in-Ok.ensures.head ∙ ap fine
    (head_is c.is_taken_by_other.result
    (is_taken_by_other (sight_in c.args.given.now c.args.c.now) c.args.name.now) c.is_second.result
    (is_some (option_map plain_stmts c.args.body.now) && has_body c.args.name.now c.args.c.now.seen)
    (params_fine (sight_in c.args.given.now c.begin-mark.new.self) false c.args.ps.now)
    (params_fine (in_function (sight_in c.args.given.now c.args.c.now) c.args.ty.now) false c.args.ps.now)
    (option_map meant_of c.type_means.result) (type_means c.args.c.now.structs c.args.ty.now)
    (first_types c.args.name.now c.begin-mark.new.self.seen) (first_types c.args.name.now c.args.c.now.seen)
    (c.is_taken_by_other.ensures.taken ∙ ap (is_taken_by_other (sight_in c.args.given.now c.args.c.now)) c.bytes.ensures.same)
    (c.is_second.ensures ∙ (ap (λ y. c.is_some.result && has_body y c.args.c.now.seen) c.bytes-2.ensures.same
    ∙ ap (λ y. y && has_body c.args.name.now c.args.c.now.seen)
    (c.is_some.ensures ∙ there_is plain_stmts c.args.body.now)))
    (ap (λ k. params_fine k false c.args.ps.now)
    (c.begin-mark.ensures.begun c.args.given.now.table.now
    ∙ ap (function_begun (sight_in c.args.given.now c.args.c.now)) c.result_type-ty.ensures.typed)) c.type_means.ensures.meaning
    (ap (λ k. first_types c.args.name.now k.seen) (c.begin-mark.ensures.begun c.args.given.now.table.now ∙ ap (function_begun (sight_in c.args.given.now c.args.c.now))
    c.result_type-ty.ensures.typed))))
    (c.in-Ok.ensures.body ∙ ap
    (λ k. body_fine (heads_in c.args.given.now) (after_params k c.args.ps.now)
    (option_map plain_stmts c.args.body.now))
    (c.begin-mark.ensures.begun c.args.given.now.table.now
    ∙ ap (function_begun (sight_in c.args.given.now c.args.c.now)) c.result_type-ty.ensures.typed))
    (ap (λ y. (((params_faults
    (in_function (sight_in c.args.given.now c.args.c.now) c.args.ty.now) false c.args.ps.now)
    ++ at c.args.token (head_verdict
    (sight_in c.args.given.now c.args.c.now) c.args.ty.now c.args.name.now c.args.ps.now
    (is_some (option_map plain_stmts c.args.body.now))))
    ++ (body_faults (heads_in c.args.given.now)
    (in_body (sight_in c.args.given.now c.args.c.now) c.args.ty.now c.args.ps.now)
    (option_map plain_stmts c.args.body.now)))
    ++ at c.args.token (asked function_rows (function_rule c.args.token y)
    (two (fine (head_verdict (sight_in c.args.given.now c.args.c.now) c.args.ty.now c.args.name.now c.args.ps.now
    (is_some (option_map plain_stmts c.args.body.now))))
    (body_fine (heads_in c.args.given.now)
    (in_body (sight_in c.args.given.now c.args.c.now) c.args.ty.now c.args.ps.now)
    (option_map plain_stmts c.args.body.now))))) (sym c.in_ok-copied.ensures.ok))
    (sym (kept_append c.args.least.now
    (params_faults (in_function (sight_in c.args.given.now c.args.c.now) c.args.ty.now) false c.args.ps.now)
    (at c.args.token (head_verdict
    (sight_in c.args.given.now c.args.c.now) c.args.ty.now c.args.name.now c.args.ps.now
    (is_some (option_map plain_stmts c.args.body.now))))))
    (c.in-Ok.ensures.least ∙ (ap
    (λ k. kept (kept (kept c.args.least.now (params_faults k false c.args.ps.now))
    (at c.args.token (asked head_rows (head_rule_by c.is_taken_by_other.result c.is_second.result)
    (three (params_fine (sight_in c.args.given.now c.begin-mark.new.self) false c.args.ps.now)
    (option_map meant_of c.type_means.result) (first_types c.args.name.now c.begin-mark.new.self.seen)))))
    (body_faults (heads_in c.args.given.now) (after_params k c.args.ps.now)
    (option_map plain_stmts c.args.body.now)))
    (c.begin-mark.ensures.begun c.args.given.now.table.now
    ∙ ap (function_begun (sight_in c.args.given.now c.args.c.now)) c.result_type-ty.ensures.typed)
    ∙ ap (λ v. kept (kept (kept c.args.least.now
    (params_faults (in_function (sight_in c.args.given.now c.args.c.now) c.args.ty.now) false c.args.ps.now))
    (at c.args.token v)) (body_faults (heads_in c.args.given.now)
    (in_body (sight_in c.args.given.now c.args.c.now) c.args.ty.now c.args.ps.now)
    (option_map plain_stmts c.args.body.now)))
    (head_is c.is_taken_by_other.result
    (is_taken_by_other (sight_in c.args.given.now c.args.c.now) c.args.name.now) c.is_second.result
    (is_some (option_map plain_stmts c.args.body.now) && has_body c.args.name.now c.args.c.now.seen)
    (params_fine (sight_in c.args.given.now c.begin-mark.new.self) false c.args.ps.now)
    (params_fine (in_function (sight_in c.args.given.now c.args.c.now) c.args.ty.now) false c.args.ps.now)
    (option_map meant_of c.type_means.result) (type_means c.args.c.now.structs c.args.ty.now)
    (first_types c.args.name.now c.begin-mark.new.self.seen) (first_types c.args.name.now c.args.c.now.seen)
    (c.is_taken_by_other.ensures.taken ∙ ap (is_taken_by_other (sight_in c.args.given.now c.args.c.now)) c.bytes.ensures.same)
    (c.is_second.ensures ∙ (ap (λ y. c.is_some.result && has_body y c.args.c.now.seen) c.bytes-2.ensures.same
    ∙ ap (λ y. y && has_body c.args.name.now c.args.c.now.seen)
    (c.is_some.ensures ∙ there_is plain_stmts c.args.body.now)))
    (ap (λ k. params_fine k false c.args.ps.now)
    (c.begin-mark.ensures.begun c.args.given.now.table.now
    ∙ ap (function_begun (sight_in c.args.given.now c.args.c.now)) c.result_type-ty.ensures.typed)) c.type_means.ensures.meaning
    (ap (λ k. first_types c.args.name.now k.seen) (c.begin-mark.ensures.begun c.args.given.now.table.now ∙ ap (function_begun (sight_in c.args.given.now c.args.c.now))
    c.result_type-ty.ensures.typed))))) c.close.ensures.least

pub returns-in-Ok-clause-sight : goal.returns-in-Ok-clause-sight
returns-in-Ok-clause-sight c =
    seen_after c.close.result c.args.given.now.table.now c.leave.new.self c.close.new.c
    (sight_in c.args.given.now c.args.c.now)
    (after_body (in_body (sight_in c.args.given.now c.args.c.now) c.args.ty.now c.args.ps.now)
    (option_map plain_stmts c.args.body.now)) (head_of c.in-Ok.walked.declared)
    (head (sight_in c.args.given.now c.args.c.now) c.args.ty.now c.args.name.now c.args.ps.now
    (is_some (option_map plain_stmts c.args.body.now)))
    (c.scopes_are_left.ensures.left c.args.given.now.table.now c.args.c.now c.parts-walked.new.c c.leave.new.self c.begin-mark.result
    (in_function (sight_in c.args.given.now c.args.c.now) c.args.ty.now) (after_body (in_body (sight_in c.args.given.now c.args.c.now) c.args.ty.now c.args.ps.now)
    (option_map plain_stmts c.args.body.now)) refl refl refl refl
    (function_adds c.scopes_only_add.ensures.parameters c.scopes_only_add.ensures.statements
    (in_function (sight_in c.args.given.now c.args.c.now) c.args.ty.now) c.args.ps.now
    (option_map plain_stmts c.args.body.now)) c.leave.ensures.left c.begin-mark.ensures.mark
    (c.in-Ok.ensures.sight ∙ ap
    (λ k. after_body (after_params k c.args.ps.now) (option_map plain_stmts c.args.body.now))
    (c.begin-mark.ensures.begun c.args.given.now.table.now
    ∙ ap (function_begun (sight_in c.args.given.now c.args.c.now)) c.result_type-ty.ensures.typed)))
    c.close.ensures.sight (c.in-Ok.ensures.declared
    ∙ (ap {A = Option TypedHead} {B = Head}
    (λ h. record {
      called = c.args.name.now;
      types = option_map signature_of h;
      has_body = is_some c.args.body.now;
    })
    (c.in-Ok.ensures.head ∙ ap fine
    (head_is c.is_taken_by_other.result
    (is_taken_by_other (sight_in c.args.given.now c.args.c.now) c.args.name.now) c.is_second.result
    (is_some (option_map plain_stmts c.args.body.now) && has_body c.args.name.now c.args.c.now.seen)
    (params_fine (sight_in c.args.given.now c.begin-mark.new.self) false c.args.ps.now)
    (params_fine (in_function (sight_in c.args.given.now c.args.c.now) c.args.ty.now) false c.args.ps.now)
    (option_map meant_of c.type_means.result) (type_means c.args.c.now.structs c.args.ty.now)
    (first_types c.args.name.now c.begin-mark.new.self.seen) (first_types c.args.name.now c.args.c.now.seen)
    (c.is_taken_by_other.ensures.taken ∙ ap (is_taken_by_other (sight_in c.args.given.now c.args.c.now)) c.bytes.ensures.same)
    (c.is_second.ensures ∙ (ap (λ y. c.is_some.result && has_body y c.args.c.now.seen) c.bytes-2.ensures.same
    ∙ ap (λ y. y && has_body c.args.name.now c.args.c.now.seen)
    (c.is_some.ensures ∙ there_is plain_stmts c.args.body.now)))
    (ap (λ k. params_fine k false c.args.ps.now)
    (c.begin-mark.ensures.begun c.args.given.now.table.now
    ∙ ap (function_begun (sight_in c.args.given.now c.args.c.now)) c.result_type-ty.ensures.typed)) c.type_means.ensures.meaning
    (ap (λ k. first_types c.args.name.now k.seen) (c.begin-mark.ensures.begun c.args.given.now.table.now ∙ ap (function_begun (sight_in c.args.given.now c.args.c.now))
    c.result_type-ty.ensures.typed))))
    ∙ ap {A = Bool} {B = Head}
    (λ w. record {
      called = c.args.name.now;
      types = option_map signature_of
          (fine (head_verdict (sight_in c.args.given.now c.args.c.now) c.args.ty.now c.args.name.now c.args.ps.now
          (is_some (option_map plain_stmts c.args.body.now))));
      has_body = w;
    }) (there_is plain_stmts c.args.body.now)))
