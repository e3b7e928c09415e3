use Rattle.std.proofs.Common.{◌≡◌, Ok, IfOk, Global, String, Vec, refl, sym, subst}
use Rattle.std.specs.Vec.Iter.{into_iter_items}
use Rattle.std.proofs.lemmas.Iterator.{items_from_collect}
use Rattle.std.proofs.lemmas.Iterator.Adapters.{YieldsList-from_vec}
use Rattle.nwq.specs.declared.end.Words.TheVariants.{All}
use Rattle.nwq.specs.Ending.{AreHandedIn}
use Rattle.nwq.proofs.words_by.Goals as goal

pub returns-in-Ok-collect : goal.returns-in-Ok-collect
returns-in-Ok-collect c = record {
  handed = subst (λ given. AreHandedIn given (All c.in-Ok-collect.all)) (sym c.in-Ok.is)
      (subst (λ r. IfOk r (λ (w : Vec (String Global) Global). w.items ≡ into_iter_items c.in-Ok.all)) c.in-Ok-collect.is
      (items_from_collect c.collect.result c.collect.ensures.ran (YieldsList-from_vec (into_iter_items c.in-Ok.all) refl c.in-Ok.all.rest.ok.0)));
}
