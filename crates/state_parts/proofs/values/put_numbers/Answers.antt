use Rattle.std.proofs.Common.{ℤ, pos, List, ◌++◌, get_or, ap, refl, ◌∙◌, subst}
use Rattle.std.specs.List.{flat_map, AllByRecursion}
use Rattle.state_format.specs.Parts.{IsSigned}
use Rattle.state_format.specs.Fields.{joined, signed_fields}
use Rattle.state_parts.specs.Keeping.{any_text}
use Rattle.state_parts.specs.KeepingLemmas.{map_same}
use Rattle.state_parts.specs.PuttingLemmas.{asked_by, put_none, put_got, put_end, parts_end}
use Rattle.state_parts.proofs.values.put_numbers.Goals as goal

pub loop-n-init : goal.loop-n-init
loop-n-init g c = put_none (λ (n : ℤ). n) IsSigned any_text signed_fields (λ (n : ℤ). n) c.args.ints.now (g.W.Writer.taken c.args.out.now)

pub loop-n-preserved : goal.loop-n-preserved
loop-n-preserved g c = put_got (λ (n : ℤ). n) IsSigned any_text signed_fields (λ (n : ℤ). n) c.args.ints.now (g.W.Writer.taken c.args.out.now) c.loop-n.n-index
    (get_or c.args.ints.now c.loop-n.n-index (pos 0)) (g.W.Writer.taken c.loop-n.out) (g.W.Writer.taken c.put_listed.new.out) c.loop-n.invariant c.in_ok-put_listed.ensures.put
    (record { same = refl; form = c.in_ok-put_listed.ensures.form; short = refl }) (asked_by c.args.ints.now c.loop-n.n-index (pos 0) c.loop-n-test.true)

pub returns : goal.returns
returns g c =
    let end = put_end (λ (n : ℤ). n) IsSigned any_text signed_fields (λ (n : ℤ). n) c.args.ints.now (g.W.Writer.taken c.args.out.now) c.loop-n.n-index (g.W.Writer.taken c.loop-n.out)
    c.loop-n.invariant c.loop-n-test.false in
    let parts = parts_end (λ (n : ℤ). n) IsSigned any_text signed_fields (λ (n : ℤ). n) c.args.ints.now (g.W.Writer.taken c.args.out.now) c.loop-n.n-index (g.W.Writer.taken c.loop-n.out)
    c.loop-n.invariant c.loop-n-test.false in
    record {
      put = end ∙ ap (λ (l : List ℤ). g.W.Writer.taken c.args.out.now ++ joined (flat_map signed_fields l)) (map_same c.args.ints.now);
      form = subst (AllByRecursion IsSigned) (map_same c.args.ints.now) parts.form;
    }
