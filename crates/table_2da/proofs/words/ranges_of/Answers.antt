use Rattle.std.proofs.Common.{refl, subst, ◌∙◌, ◌≤◌, ◌<◌, length}
use Rattle.table_2da.specs.Fronts.{plain}
use Rattle.table_2da.proofs.RangeLemmas.{no_ranges_yet, one_range_more, too_many_ranges, all_ranges, open_ranges}
use Rattle.table_2da.proofs.words.ranges_of.Goals as goal

pub words-init : goal.words-init
words-init c = no_ranges_yet c.args.part c.args.most c.args.place c.args.line.now c.new-ranges.result c.new-ranges.ensures.empty

pub returns-in-Nothing : goal.returns-in-Nothing
returns-in-Nothing c = record {
  said = λ file s.
      all_ranges c.args.part c.args.most c.args.place c.args.line.now c.words.at c.words.rest.now c.words.ranges c.words.invariant c.in-Nothing.ensures.front _
      (c.in_ok-of_slice-in-Nothing.ensures.ok ∙ c.as_slice.ensures.items) file s;
}

pub returns-in-Open : goal.returns-in-Open
returns-in-Open c = record {
  said = λ file s.
      open_ranges c.args.part c.args.most c.args.place c.args.line.now c.words.at c.words.rest.now c.words.ranges c.words.invariant c.in-Open.ensures.front file s;
}

pub returns-then-len-most : goal.returns-then-len-most
returns-then-len-most c =
    let many : c.args.most ≤ length c.words.ranges = subst (λ n. c.args.most ≤ n) c.len.ensures.len c.if-len-most.true in
    record {
      said = λ file s.
          too_many_ranges c.args.part c.args.most c.args.place c.args.line.now c.words.at c.words.rest.now c.words.ranges c.words.invariant
          (plain c.in-Begins.word) c.in-Begins.after.now c.in-Begins.ensures.front many file s;
    }

pub words-preserved : goal.words-preserved
words-preserved c =
    let room : length c.words.ranges < c.args.most = subst (λ n. n < c.args.most) c.len.ensures.len c.if-len-most.false in
    one_range_more c.args.part c.args.most c.args.place c.args.line.now c.words.at c.words.rest.now c.words.ranges c.words.invariant
    (plain c.in-Begins.word) c.in-Begins.after.now c.in-Begins.ensures.front c.range_of.result c.push.new.self _ c.range_of.ensures.text room
    c.in_ok-push-in-Begins.ensures.ok refl
