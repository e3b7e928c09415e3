use Rattle.std.proofs.Common.{subst, Option, Vec, Global, ℕ}
use Rattle.std.specs.Option.{option_map}
use Rattle.nwq_text.specs.Unescape.{Unescapes}
use Rattle.std.proofs.Common.{false}
use Rattle.nwq_text.proofs.EscapeLemmas.{no_text}
use Rattle.nwq_text.proofs.escape.read_text.Goals as goal

pub returns-in-None : goal.returns-in-None
returns-in-None c = record {
  reads = no_text _ (subst (λ (read : Option (Vec ℕ Global)). Unescapes false c.args.text.now (option_map (λ bytes. bytes.items) read)) c.in-None.is c.in_ok-bytes.ensures);
}
