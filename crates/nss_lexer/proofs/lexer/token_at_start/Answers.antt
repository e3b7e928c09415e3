use Rattle.nss_lexer.proofs.FirstLaws.{comment_stuck, lexeme_found}
use Rattle.std.proofs.Common.{sym, ◌∙◌}
use Rattle.nss_lexer.proofs.lexer.token_at_start.Goals as goal

pub returns-then-begins_comment : goal.returns-then-begins_comment
returns-then-begins_comment c =
    comment_stuck c.args.bytes.now c.requires.some c.requires.stops (sym c.begins_comment.ensures ∙ c.if-begins_comment.true)

pub returns : goal.returns
returns c =
    lexeme_found c.args.bytes.now c.scan.result c.requires.some c.requires.stops (sym c.begins_comment.ensures ∙ c.if-begins_comment.false)
    c.scan.ensures
