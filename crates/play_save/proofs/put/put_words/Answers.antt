use Rattle.std.proofs.Common.{ℕ, List, ◌++◌, get_or, ap, refl, ◌∙◌, subst}
use Rattle.std.specs.List.{flat_map, AllByRecursion}
use Rattle.state_format.specs.Fields.{joined, number_fields}
use Rattle.state_format.specs.Parts.{IsNumber}
use Rattle.state_parts.specs.Keeping.{any_text}
use Rattle.state_parts.specs.KeepingLemmas.{map_same}
use Rattle.state_parts.specs.PuttingLemmas.{asked_by, put_none, put_got, put_end, parts_end}
use Rattle.play_save.proofs.put.put_words.Goals as goal

pub loop-n-init : goal.loop-n-init
loop-n-init g c = put_none (λ (n : ℕ). n) (IsNumber 4) any_text (number_fields 4) (λ (n : ℕ). n) c.args.words.now (g.W.Writer.taken c.args.out.now)

pub loop-n-preserved : goal.loop-n-preserved
loop-n-preserved g c = put_got (λ (n : ℕ). n) (IsNumber 4) any_text (number_fields 4) (λ (n : ℕ). n) c.args.words.now
    (g.W.Writer.taken c.args.out.now) c.loop-n.n-index (get_or c.args.words.now c.loop-n.n-index 0)
    (g.W.Writer.taken c.loop-n.out)
    (g.W.Writer.taken c.put_random.new.out) c.loop-n.invariant c.in_ok-put_random.ensures.put (record { same = refl; form = c.in_ok-put_random.ensures.form; short = refl })
    (asked_by c.args.words.now c.loop-n.n-index 0 c.loop-n-test.true)

pub returns : goal.returns
returns g c =
    let end = put_end (λ (n : ℕ). n) (IsNumber 4) any_text (number_fields 4) (λ (n : ℕ). n) c.args.words.now
    (g.W.Writer.taken c.args.out.now) c.loop-n.n-index
    (g.W.Writer.taken c.loop-n.out) c.loop-n.invariant c.loop-n-test.false in
    let parts = parts_end (λ (n : ℕ). n) (IsNumber 4) any_text (number_fields 4) (λ (n : ℕ). n) c.args.words.now
    (g.W.Writer.taken c.args.out.now) c.loop-n.n-index
    (g.W.Writer.taken c.loop-n.out) c.loop-n.invariant c.loop-n-test.false in
    record {
      put = end ∙ ap (λ (l : List ℕ). g.W.Writer.taken c.args.out.now ++ joined (flat_map (number_fields 4) l)) (map_same c.args.words.now);
      form = subst (AllByRecursion (IsNumber 4)) (map_same c.args.words.now) parts.form;
    }
