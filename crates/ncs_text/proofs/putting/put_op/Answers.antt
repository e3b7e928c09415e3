use Rattle.std.proofs.Common.{sym, ◌∙◌, ap, ◌∷◌, arith, length}
use Rattle.ncs_text.proofs.Ops.{uncut_line, unnamed, too_short, untyped, op_puts}
use Rattle.ncs_text.proofs.putting.put_op.Goals as goal

pub returns-in_default-clause-puts : goal.returns-in_default-clause-puts
returns-in_default-clause-puts c = uncut_line c.one_name.ensures.code _ _ (sym (c.in_default.ensures {u = tt}).cut)

pub returns-in_default-opcode_named-clause-puts : goal.returns-in_default-opcode_named-clause-puts
returns-in_default-opcode_named-clause-puts c =
    unnamed c.one_name.ensures.code _ _ c.in-Some.name.now c.in-Some.rest.now (sym (c.in-Some.ensures {u = tt}).cut) (c.in_default-opcode_named.ensures.opcode)

pub returns-in_default-split_first-clause-puts : goal.returns-in_default-split_first-clause-puts
returns-in_default-split_first-clause-puts c =
    too_short c.one_name.ensures.code _ _ c.in-Some.name.now c.in-Some.rest.now (sym (c.in-Some.ensures {u = tt}).cut) (omega (arith, (c.in_default-split_first.ensures {u = tt}).cases))

pub returns-in_default-split_first-2-clause-puts : goal.returns-in_default-split_first-2-clause-puts
returns-in_default-split_first-2-clause-puts c =
    too_short c.one_name.ensures.code _ _ c.in-Some.name.now c.in-Some.rest.now (sym (c.in-Some.ensures {u = tt}).cut)
    (omega (arith, ap length (c.in-Some-split_first.ensures {u = tt}).cases.0, (c.in_default-split_first-2.ensures {u = tt}).cases))

pub returns-in_default-hex_byte-clause-puts : goal.returns-in_default-hex_byte-clause-puts
returns-in_default-hex_byte-clause-puts c =
    untyped c.one_name.ensures.code _ _ c.in-Some.name.now c.in-Some.rest.now c.in-Some-split_first-2.text.now c.in-Some-split_first.high.now c.in-Some-split_first-2.low.now
    (sym (c.in-Some.ensures {u = tt}).cut)
    ((c.in-Some-split_first.ensures {u = tt}).cases.0 ∙ ap (λ r. c.in-Some-split_first.high.now ∷ r) (c.in-Some-split_first-2.ensures {u = tt}).cases.0)
    (sym (c.in_default-hex_byte.ensures {u = tt}))

pub returns-clause-puts : goal.returns-clause-puts
returns-clause-puts c =
    op_puts c.one_name.ensures.code _ _ c.in-Some.name.now c.in-Some.rest.now c.in-Some-split_first-2.text.now _ _ c.in-Some-opcode_named.code c.in-Some-hex_byte.kind
    c.in-Some-split_first.high.now c.in-Some-split_first-2.low.now c.in_ok-size.size
    (sym (c.in-Some.ensures {u = tt}).cut) (c.in-Some-opcode_named.ensures.opcode)
    ((c.in-Some-split_first.ensures {u = tt}).cases.0 ∙ ap (λ r. c.in-Some-split_first.high.now ∷ r) (c.in-Some-split_first-2.ensures {u = tt}).cases.0)
    (sym (c.in-Some-hex_byte.ensures {u = tt})) (c.in_ok-size.ensures {u = tt}).puts
