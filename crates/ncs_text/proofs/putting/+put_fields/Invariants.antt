use Rattle.std.proofs.Common.{length}
use Rattle.ncs_text.proofs.putting.+put_fields.Given as goal

abbrev pub decreases-put_fields : goal.decreases-put_fields
decreases-put_fields l = length l.others.now
