use Rattle.shared_bytes.proofs.Takes.{takes_all}
use Rattle.shared_bytes.proofs.shared.text_of.Goals as goal

pub returns : goal.returns
returns c = record { ok = takes_all c.args.bytes.now c.in_ok-text.text c.requires.few c.in_ok-text.ensures.ok }
