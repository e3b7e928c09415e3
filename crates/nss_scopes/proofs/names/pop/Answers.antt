use Rattle.std.proofs.Common.{◌∙◌, ap, subst, if◌then◌else◌}
use Rattle.std.specs.Str.{bytes_eq}
use Rattle.nwq_value.specs.Index.{number_under}
use Rattle.nss_scopes.specs.Slots.{HasLast}
use Rattle.nss_scopes.proofs.NameLemmas.{has_it, has_last_less}
use Rattle.nss_scopes.proofs.names.pop.Goals as goal

pub put_back-requires : goal.put_back-requires
put_back-requires c = record {
  there = rw c.bytes.ensures.same (has_it c.pop.new.self.items c.in-Some.slot c.args.last.now
      (subst (λ ss. HasLast ss c.args.last.now) c.in-Some.ensures.items c.requires.index));
}

pub returns-in-Some-clause-index : goal.returns-in-Some-clause-index
returns-in-Some-clause-index c =
    has_last_less c.pop.new.self.items c.in-Some.slot c.args.last.now c.put_back.new.last
    (subst (λ ss. HasLast ss c.args.last.now) c.in-Some.ensures.items c.requires.index)
    (λ x. c.put_back.ensures x ∙ ap (λ k. if bytes_eq x k then c.in-Some.slot.hidden else number_under x c.args.last.now) c.bytes.ensures.same)
