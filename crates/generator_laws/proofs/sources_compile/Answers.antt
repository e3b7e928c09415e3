use Rattle.generator_laws.proofs.Compiles.{sources_compile}
use Rattle.generator_laws.proofs.sources_compile.Goals as goal

pub returns : goal.returns
returns c = record { compile = sources_compile c.computed_tokens.ensures.tokens c.reading_gives_tree.ensures.read c.verdicts_are_right.ensures.typed c.size_laws.ensures.sizes }
