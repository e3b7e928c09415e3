use Rattle.nss_parser.proofs.OpenBodies as bodies
use Rattle.nss_parser.proofs.laws.open_bodies_alike.Goals as goal

pub returns : goal.returns
returns c = record { alike = bodies.open_bodies_alike }
