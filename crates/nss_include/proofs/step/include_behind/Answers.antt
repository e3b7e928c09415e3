use Rattle.std.proofs.Common.{sym, ◌∙◌, refl}
use Rattle.nss_lexer.specs.Splitting.{Found, AtEnd, BadAt, plain}
use Rattle.nss_include.specs.Steps.{no_hash, no_include, include}
use Rattle.nss_include.proofs.step.include_behind.Goals as goal

pub returns-then-not-reads-clause-behind : goal.returns-then-not-reads-clause-behind
returns-then-not-reads-clause-behind c = no_hash (sym c.reads.ensures ∙ c.if-not-reads.true)

pub returns-then-reads-clause-behind : goal.returns-then-reads-clause-behind
returns-then-reads-clause-behind c = include (plain c.in-Token.word) (sym c.reads.ensures ∙ c.if-not-reads.false) c.in-Token.ensures.first (sym c.reads-in-Token.ensures ∙ c.if-reads.true)

pub returns-else-reads-clause-behind : goal.returns-else-reads-clause-behind
returns-else-reads-clause-behind c = no_include (Found (plain c.in-Token.word)) c.in-Token.ensures.first (sym c.reads-in-Token.ensures ∙ c.if-reads.false)

pub returns-in-End-clause-behind : goal.returns-in-End-clause-behind
returns-in-End-clause-behind c = no_include AtEnd c.in-End.ensures.first refl

pub returns-in-Bad-clause-behind : goal.returns-in-Bad-clause-behind
returns-in-Bad-clause-behind c = no_include (BadAt c.in-Bad.field-0) c.in-Bad.ensures.first refl
