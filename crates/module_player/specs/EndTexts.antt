-- What is put of a text at a play's end, piece by piece.
use Rattle.std.specs.Prelude.{◌≡◌, ℕ, List, [], ◌∷◌, ◌++◌, codes}
use Rattle.std.specs.Fmt.{decimal}
use Rattle.std.specs.List.{flat_map}
use Rattle.nwq_text.specs.Values.{effect_text, object_text}
use Rattle.nwq_value.specs.Effect.{Effect}
use Rattle.action_queue.specs.declared.queue.Item.{Item}
use Rattle.world_rules.specs.declared.data.Stood.{Stood}
use Rattle.world_rules.specs.World.{World}
use Rattle.saved_state.specs.declared.saved.Saved.{Saved}
use Rattle.world_rules.specs.Plays as plays
use Rattle.world_rules.specs.EndText.{item_line}
use Rattle.module_player.specs.declared.played.How.{How}
use Rattle.module_player.specs.declared.played.How.TheVariants.{Done, InstrStop, EntryStop, Pause, Fault, NoMemory}
use Rattle.module_player.specs.declared.played.Played.{Played}
use Rattle.module_player.specs.Answers.{EndsAs}

abbrev pub standing_text : ℕ → Effect → List ℕ
standing_text o e = codes "effect " ++ object_text o ++ 32 ∷ effect_text e ++ 10 ∷ []

abbrev pub effects_text : ℕ → List Stood → List ℕ
effects_text o effects = flat_map (λ s. standing_text o s.effect) effects

abbrev pub actions_text : (Saved → List ℕ) → ℕ → List (Item Saved) → List ℕ
actions_text name_of o items = flat_map (item_line name_of o) items

-- the play that an answer tells, where it ended in this world
pub record IsEnding (answer : Played) (p : plays.Played Saved) (w : World Saved) : Type 0 where
  pub ending : EndsAs answer.how p.ending
  pub entries : answer.entries ≡ p.last.entries
  pub instructions : answer.instructions ≡ p.last.count
  pub world : w ≡ p.last.world

-- there is a text of a play's end unless it is broken off or was cut short
abbrev pub HasText : How → Type 0
HasText Done = Unit {0}
HasText InstrStop = Unit {0}
HasText EntryStop = Unit {0}
HasText Pause = ⊥
HasText Fault = ⊥
HasText NoMemory = ⊥

-- the last line, with this word for how the play ended
abbrev pub closing_line : List ℕ → ℕ → ℕ → ℕ → List ℕ
closing_line word clock entries count =
    codes "end " ++ word ++ codes " clock " ++ decimal clock ++ codes " entries " ++ decimal entries
    ++ codes " instructions " ++ decimal count ++ 10 ∷ []
