use Rattle.std.proofs.Common.{◌++◌, ◌∙◌, ap}
use Rattle.world_rules.specs.EndText.{by_object, standing_lines}
use Rattle.ncs_machine.specs.Host.{scripts_of}
use Rattle.module_player.specs.EndTexts.{closing_line}
use Rattle.module_player.proofs.EndLemmas.{text_is}
use Rattle.module_player.proofs.closing.text_of.Goals as goal

pub returns-clause-text : goal.returns-clause-text
returns-clause-text c = λ p h.
    text_is (scripts_of c.args.scripts.now) c.args.played.now p c.args.world.now.world _ _ _ _ c.end_word-word.result.now h
    (c.in_ok-put_effects.ensures.lines ∙ ap (λ x. x ++ by_object standing_lines 1 c.args.world.now.world.things) c.new-out.ensures.items)
    c.in_ok-put_queues.ensures.lines c.in_ok-put_agenda.ensures.lines c.end_word-word.ensures.word
    (c.in_ok-put_end.ensures.line
    ∙ ap (λ k. c.put_agenda.new.out.items
    ++ closing_line c.end_word-word.result.now k c.args.played.now.entries c.args.played.now.instructions) c.clock-clock.ensures.clock)
