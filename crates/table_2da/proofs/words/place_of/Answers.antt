use Rattle.std.proofs.Common.{◌-◌, length, ap, sym}
use Rattle.table_2da.specs.Fronts.{plain}
use Rattle.table_2da.specs.Words.{name_of}
use Rattle.table_2da.proofs.RangeLemmas.{closing, word_there}
use Rattle.table_2da.proofs.words.place_of.Goals as goal

pub returns-in-Quoted-clause-stands : goal.returns-in-Quoted-clause-stands
returns-in-Quoted-clause-stands c =
    word_there c.args.line.now c.args.rest.now (plain c.args.word) _ c.requires.begins
    (sym (ap (λ w. length c.args.line.now - length c.args.rest.now - closing (plain w) - length (name_of (plain w))) c.in-Quoted.is))
