use Rattle.std.proofs.Common.{◌≡◌, ◌<◌, ◌++◌, ℕ, suc, List, drop, length}
use Rattle.area_rules.specs.Area.{tagged}
use Rattle.area_tree.specs.Index.{numbers_under, ArePlaces}
use Rattle.area_tree.proofs.tags.add_all.Given as goal

abbrev pub invariant-loop-object : goal.invariant-loop-object
invariant-loop-object l = record {
  number : l.number ≡ l.object-index;
  few : l.number < 4294967296;
  places : ArePlaces l.places (length l.numbers.items);
  numbers : (tag : List ℕ) → numbers_under tag l.places l.numbers.items ++ tagged tag (suc l.number) (drop l.object-index l.objects) ≡ tagged tag 1 l.objects;
}
