use Rattle.std.proofs.Common.{ℕ, List, ◌≡◌, ◌++◌, ◌∷◌, [], ap, ◌∙◌}
use Rattle.nss_include.specs.Units.{source}
use Rattle.nss_include.specs.View.{Gathered}
use Rattle.nss_include.proofs.gatherer.read_into.Goals as goal

pub returns-in_ok-open-in-Bytes-clause-reads : goal.returns-in_ok-open-in-Bytes-clause-reads
returns-in_ok-open-in-Bytes-clause-reads g c =
    let grown : List ℕ → List ℕ → Gathered = λ (name bytes : List ℕ). record { files = c.args.unit.now.files ++ source name bytes ∷ []; tokens = c.args.unit.now.tokens }
    in let named : c.in_ok-copy-in-Bytes.copy ≡ c.args.name.now = c.in_ok-copy-in-Bytes.ensures.ok ∙ c.as_bytes-in-Bytes.ensures.value
    in record {
      opens = record {
        bytes = c.in-Bytes.bytes.items;
        size = c.in-Bytes.ensures.size;
        is = c.in_ok-open-in-Bytes.ensures.ok ∙ ap (λ name. grown name c.of_vec.result) named ∙ ap (grown c.args.name.now) c.of_vec.ensures.items;
      };
      told = c.in-Bytes.ensures.content;
    }
