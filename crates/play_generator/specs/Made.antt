-- The play that is made from a number: how many creatures and rounds it has, its source, its plan
-- and its area.
use Rattle.std.specs.Prelude.{ℕ, ◌+◌, ◌*◌, ◌/◌, ◌%◌, List, [], ◌∷◌, ◌++◌, map, codes}
use Rattle.std.specs.List.{flat_map, range_with_len}
use Rattle.std.specs.Fmt.{decimal}
use Rattle.gff_tree.specs.Tree.{PlainNode, Holds, Str, Res}
use Rattle.gff_tree.specs.Fields.{node_from, list_from}
use Rattle.gff_tree.specs.Whole.{PlainGff}

-- the greatest number from which a play is made
abbrev pub number_limit : ℕ
number_limit = 1000000

abbrev pub creatures_of : ℕ → ℕ
creatures_of n = 1 + n % 1000

abbrev pub rounds_of : ℕ → ℕ
rounds_of n = 1 + (n / 1000) % 60

-- the numbers below this, in order
abbrev pub below : ℕ → List ℕ
below n = range_with_len 0 n

-- a line with the newline at its end, and lines in a row
abbrev pub ended : List ℕ → List ℕ
ended line = line ++ 10 ∷ []

abbrev pub lines_text : List (List ℕ) → List ℕ
lines_text lines = flat_map ended lines

-- the tag of a creature: `c` and its number
abbrev pub tag_of : ℕ → List ℕ
tag_of creature = codes "c" ++ decimal creature

-- ---- the source

-- the lines of `beat.nss`, for a number and so many creatures
abbrev pub source_lines : ℕ → ℕ → List (List ℕ)
source_lines n creatures =
    (codes "int g = " ++ decimal n ++ codes ";") ∷
    codes "int F(int k) { if (k < 2) return k; return F(k - 1) + F(k - 2); }" ∷
    codes "void Tell(int k) { PrintInteger(g + k); }" ∷
    codes "void main() {" ∷
    codes "int n = GetLocalInt(OBJECT_SELF, \"n\") + 1;" ∷
    codes "SetLocalInt(OBJECT_SELF, \"n\", n);" ∷
    codes "g = g + n;" ∷
    codes "ActionWait(50);" ∷
    codes "ActionDoCommand(Tell(F(n % 8)));" ∷
    codes "DelayCommand(n * 100, Tell(0 - n));" ∷
    (codes "AssignCommand(GetObjectByTag(\"c\" + IntToString(g % " ++ decimal creatures
    ++ codes ")), Tell(n));") ∷
    codes "}" ∷
    []

unfoldable pub source_text : ℕ → ℕ → List ℕ
source_text n creatures = lines_text (source_lines n creatures)

-- ---- the plan

-- in a round each creature has one event, and rounds are a second apart
abbrev pub event_line : ℕ → ℕ → List ℕ
event_line round creature = codes "event " ++ decimal (1000 * round) ++ codes " 0 ScriptHeartbeat "
    ++ tag_of creature

-- the events of a round, by the creatures in order
abbrev pub round_lines : ℕ → ℕ → List (List ℕ)
round_lines creatures round = map (event_line round) (below creatures)

abbrev pub plan_lines : ℕ → ℕ → List (List ℕ)
plan_lines rounds creatures =
    codes "NWQ PLAN 1" ∷
    codes "entries 1000000" ∷
    codes "until 4294967295" ∷
    codes "script beat" ∷
    flat_map (round_lines creatures) (below rounds)

unfoldable pub plan_text : ℕ → ℕ → List ℕ
plan_text rounds creatures = lines_text (plan_lines rounds creatures)

-- ---- the area

-- a creature: its tag, and the script of its heartbeat
abbrev pub creature_node : ℕ → PlainNode
creature_node creature = node_from 4 (
    record { label = codes "Tag"; leaf = Holds (Str (tag_of creature)) } ∷
    record { label = codes "ScriptHeartbeat"; leaf = Holds (Res (codes "beat")) } ∷
    [])

unfoldable pub area_tree : ℕ → PlainGff
area_tree creatures = record {
  file_type = codes "GIT ";
  top = node_from 4294967295
      (record {
        label = codes "Creature List";
        leaf = list_from (map creature_node (below creatures));
      } ∷ []);
}

-- ---- the whole

-- what is made: how many creatures the area has, the source of the one script and the text of the
-- plan
pub record Play : Type 0 where
  pub creatures : ℕ
  pub source : List ℕ
  pub plan : List ℕ

abbrev pub play_of : ℕ → Play
play_of n = record {
  creatures = creatures_of n;
  source = source_text n (creatures_of n);
  plan = plan_text (rounds_of n) (creatures_of n);
}
