-- Drafts and words as code holds them. Private clauses and proofs alone need this.
use Rattle.plan_text.specs.declared.draft.Draft.{Draft as HeldDraft}
use Rattle.plan_text.specs.declared.words.Word.{Word as HeldWord}
use Rattle.plan_text.specs.declared.words.Word.TheVariants as held
use Rattle.plan_text.specs.Plans.{Draft}
use Rattle.plan_text.specs.Words as word
use Rattle.plan_text.specs.Words.{Word}

abbrev pub plain_draft : HeldDraft → Draft
plain_draft d = record {
  version = d.version;
  limit = d.limit;
  entries = d.entries;
  until = d.until;
  random = d.random;
  scripts = d.scripts;
  events = d.events;
}

abbrev pub plain_word : HeldWord → Word
plain_word held.Limit = word.Limit
plain_word held.Entries = word.Entries
plain_word held.Until = word.Until
plain_word held.Random = word.Random
plain_word held.Script = word.Script
plain_word held.Binary = word.Binary
plain_word held.Event = word.Event
plain_word held.Start = word.Start
