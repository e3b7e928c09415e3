use Rattle.std.proofs.Common.{◌∷◌, [], ◌++◌, ◌<◌, List, length, ap, sym, subst}
use Rattle.nss_lexer.specs.Splitting.{Lexeme}
use Rattle.nss_include.specs.Units.{source}
use Rattle.nss_include.specs.View.{Gathered, IsSound, file_count_limit}
use Rattle.nss_include.proofs.UnitLemmas.{lexemes_stay, sound_more}
use Rattle.nss_include.proofs.unit.Unit.open.Goals as goal

pub returns-clause-ok : goal.returns-clause-ok
returns-clause-ok c =
    let seen : List Lexeme → Gathered = λ (tokens : List Lexeme). record { files = c.self.inside.files.items ++ source c.args.name c.args.bytes ∷ []; tokens = tokens }
    in rw (c.in_ok-push_file.ensures.ok, ← c.self.view_is) (ap seen (lexemes_stay c.self.inside.files.items (source c.args.name c.args.bytes ∷ []) c.self.inside.spans c.self.invariant.0.inside))

pub invariant_of-self-2 : goal.invariant_of-self-2
invariant_of-self-2 c = (
  subst (λ files. IsSound files c.self.inside.spans) (sym c.in_ok-push_file.ensures.ok)
      (sound_more c.self.inside.files.items (source c.args.name c.args.bytes) c.self.inside.spans c.requires.size
      (subst (λ files. length files < file_count_limit)
      (sym (ap (λ u. u.files) c.self.view_is)) c.requires.few) c.self.invariant.0),
  c.push_file.ensures.names,
)
