use Rattle.std.proofs.Common.{[], length, ap, sym, ◌∙◌, append-nil}
use Rattle.ncs_code.specs.Spelling.{spelling}
use Rattle.ncs_text.proofs.putting.size_of.Goals as goal

pub returns-in-Err-clause-whole : goal.returns-in-Err-clause-whole
returns-in-Err-clause-whole c op is_op e = c.in-Err.ensures.only op [] is_op (e ∙ sym (append-nil (spelling op)))

pub returns-else-size-bytes-clause-whole : goal.returns-else-size-bytes-clause-whole
returns-else-size-bytes-clause-whole c op is_op e =
    let same = c.in-Ok.ensures.only op [] is_op (e ∙ sym (append-nil (spelling op)))
    in c.if-size-bytes.false (same.1 ∙ c.size_laws.ensures.sizes.op op ∙ sym (ap length e))
