use Rattle.std.proofs.Common.{◌∙◌, None, Some, map, IsSome, refl, sym, subst}
use Rattle.nwq_value.specs.Index.{entry, number_under}
use Rattle.nwq_value.proofs.HashLemmas.{in_index, puts_in, same_puts, none_from_not_some, stays_out}
use Rattle.nwq_value.proofs.index.NameIndex.replace.Goals as goal

pub invariant_of-self : goal.invariant_of-self
invariant_of-self c = c.renumber.ensures.0

pub replace-requires : goal.replace-requires
replace-requires c =
    let own = c.self.inside in
    let none = none_from_not_some c.first_of.result (sym c.is_some.ensures ∙ c.if-is_some.false) in
    record {
      there = subst IsSome (sym (in_index c.args.name.now own.first own.others c.args.self.now None c.self.view_is c.self.invariant
          (sym none ∙ c.first_of.ensures))) c.requires.there;
    }

pub returns-then-is_some : goal.returns-then-is_some
returns-then-is_some c =
    let own = c.self.inside in
    record {
      put = puts_in c.args.name.now (Some c.args.number) (number_under c.args.name.now (map entry own.others.entries)) (Some c.args.number)
          own.first c.renumber.new.first own.others own.others c.args.self.now
          c.self.view_is c.self.invariant c.renumber.ensures (same_puts c.args.name.now (map entry own.others.entries)) refl;
    }

pub returns-else-is_some : goal.returns-else-is_some
returns-else-is_some c =
    let own = c.self.inside in
    let none = none_from_not_some c.first_of.result (sym c.is_some.ensures ∙ c.if-is_some.false) in
    record {
      put = puts_in c.args.name.now None (Some c.args.number) (Some c.args.number)
          own.first own.first own.others c.replace.new.others c.args.self.now
          c.self.view_is c.self.invariant (stays_out c.args.name.now own.first c.self.invariant (sym c.first_of.ensures ∙ none)) c.replace.ensures refl;
    }
