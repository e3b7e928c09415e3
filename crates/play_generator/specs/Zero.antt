-- The play of the number 0, written out.
use Rattle.std.specs.Prelude.{◌≡◌, List, ◌++◌, ℕ, codes}
use Rattle.gff_tree.specs.Tree.{Struct, MoreFields, NoField, MoreNodes, NoNode, Children, Holds, Str, Res}
use Rattle.gff_tree.specs.Whole.{PlainGff}
use Rattle.play_generator.specs.Made.{play_of, area_tree}

abbrev pub source_of_zero : List ℕ
source_of_zero =
    codes "int g = 0;\n"
    ++ (codes "int F(int k) { if (k < 2) return k; return F(k - 1) + F(k - 2); }\n"
    ++ (codes "void Tell(int k) { PrintInteger(g + k); }\n"
    ++ (codes "void main() {\n"
    ++ (codes "int n = GetLocalInt(OBJECT_SELF, \"n\") + 1;\n"
    ++ (codes "SetLocalInt(OBJECT_SELF, \"n\", n);\n"
    ++ (codes "g = g + n;\n"
    ++ (codes "ActionWait(50);\n"
    ++ (codes "ActionDoCommand(Tell(F(n % 8)));\n"
    ++ (codes "DelayCommand(n * 100, Tell(0 - n));\n"
    ++ (codes "AssignCommand(GetObjectByTag(\"c\" + IntToString(g % 1)), Tell(n));\n"
    ++ (codes "}\n")))))))))))

abbrev pub plan_of_zero : List ℕ
plan_of_zero = codes "NWQ PLAN 1\nentries 1000000\nuntil 4294967295\nscript beat\nevent 0 0 ScriptHeartbeat c0\n"

abbrev pub area_of_one : PlainGff
area_of_one = record {
  file_type = codes "GIT ";
  top = Struct 4294967295 (MoreFields (codes "Creature List") (Children (MoreNodes
      (Struct 4 (MoreFields (codes "Tag") (Holds (Str (codes "c0")))
      (MoreFields (codes "ScriptHeartbeat") (Holds (Res (codes "beat"))) NoField)))
      NoNode)) NoField);
}

abbrev pub PlayOfZero : Type 0
PlayOfZero = play_of 0 ≡ record { creatures = 1; source = source_of_zero; plan = plan_of_zero }

abbrev pub AreaOfOne : Type 0
AreaOfOne = area_tree 1 ≡ area_of_one
