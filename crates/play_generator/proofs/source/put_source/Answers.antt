use Rattle.play_generator.proofs.SourceLemmas.{grown}
use Rattle.play_generator.proofs.source.put_source.Goals as goal

pub returns : goal.returns
returns c =
    record {
      source = grown c.args.n c.args.creatures _ _ c.args.out.now.items _ _ _ _ _ c.from.ensures c.from-2.ensures c.in_ok-extend_from_slice.ensures.items
          c.in_ok-put_count.ensures.ok c.in_ok-extend_from_slice-2.ensures.items c.in_ok-put_count-2.ensures.ok c.in_ok-extend_from_slice-3.ensures.items;
    }
