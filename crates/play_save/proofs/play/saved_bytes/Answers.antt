use Rattle.std.proofs.Common.{◌∙◌, List, length, ap, sym, refl, subst}
use Rattle.std.proofs.lemmas.Result.{MatchResult-weaker}
use Rattle.std.specs.List.{AllByRecursion}
use Rattle.std.specs.Option.{option_map}
use Rattle.delay_agenda.specs.declared.entry.Entry.{Entry}
use Rattle.saved_state.specs.declared.saved.Saved.{Saved}
use Rattle.world_rules.specs.declared.data.Things.{Things}
use Rattle.world_parts.specs.Saved.{put_together}
use Rattle.module_player.specs.Limits.{limits_in}
use Rattle.state_parts.specs.Keeping.{KindHasValues}
use Rattle.play_save.specs.Keeping.{QueuesHaveValues}
use Rattle.play_save.proofs.Outcomes.{kept_written, kept_large}
use Rattle.play_save.proofs.play.saved_bytes.Goals as goal

pub state_bytes-requires : goal.state_bytes-requires
state_bytes-requires c = record {
  counted = ap (λ (l : List (Things Saved)). length l) c.as_slice-beside.ensures.items ∙ c.requires.counted;
  queues = subst (λ (l : List (Things Saved)). QueuesHaveValues l) (sym c.as_slice-beside.ensures.items) c.requires.queues;
  entries = subst (λ (l : List (Entry Saved)). AllByRecursion (λ (e : Entry Saved). KindHasValues e.kind) l)
      (sym (c.as_slice-waits.ensures.items ∙ c.in_ok-waiting.ensures.entries)) c.requires.entries;
}

pub returns : goal.returns
returns c =
    let header = option_map (λ text. text.items) c.args.header.now in
    let w = put_together c.args.area.now c.args.saved in
    let waits = c.as_slice-waits.ensures.items ∙ c.in_ok-waiting.ensures.entries in
    record {
      exact = MatchResult-weaker c.state_bytes.result c.state_bytes.ensures.exact
          (λ v found.
          kept_written header c.args.scripts.now c.args.file.now (limits_in c.args.limits) c.args.counts.taken c.args.counts.done w v.items found (record {
            headed = refl;
            listed = c.as_slice-listed.ensures.items;
            filed = refl;
            limit = refl;
            entries = refl;
            until = refl;
            took = refl;
            did = refl;
            clock = refl;
            version = refl;
            random = c.as_slice-left.ensures.items;
            next = c.next_number-next.ensures.next;
            waiting = waits;
            things = c.as_slice-beside.ensures.items;
            objects = refl;
          }))
          (λ e found.
          kept_large header c.args.scripts.now c.args.file.now (limits_in c.args.limits) c.args.counts.taken c.args.counts.done w e found (record {
            headed = refl;
            listed = c.as_slice-listed.ensures.items;
            filed = refl;
            limit = refl;
            entries = refl;
            until = refl;
            took = refl;
            did = refl;
            clock = refl;
            version = refl;
            random = c.as_slice-left.ensures.items;
            next = c.next_number-next.ensures.next;
            waiting = waits;
            things = c.as_slice-beside.ensures.items;
            objects = refl;
          }));
    }
