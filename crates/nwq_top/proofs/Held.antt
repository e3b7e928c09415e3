-- What the files hold once a file was written.
use Rattle.std.proofs.Common.{◌≡◌, ◌<◌, ℕ, Bool, true, false, cond, All, List, Option, Some, sym, subst, ◌∙◌}
use Rattle.std.proofs.lemmas.Cmp.{nat_list_cmp_total}
use Rattle.std.proofs.lemmas.List.Elements.{All-from_recursion}
use Rattle.std.proofs.lemmas.Option.{same_Some}
use Rattle.std.specs.Cmp.Lexicographic.{slice_cmp}
use Rattle.std.specs.FinMap.{get-insert}
use Rattle.std.specs.Ordering.{nat_cmp, is_eq}
use Rattle.nwq_outside.specs.Outside.{Contents, content, with_content}
use Rattle.typing_rules.specs.Typed.{TypedUnit}
use Rattle.emission_rules.specs.Units.{unit_file}
use Rattle.ncs_code.specs.File.{IsCode}
use Rattle.nss_include.specs.Names.{file_name}
use Rattle.play_save.specs.Written.{CodeIsBytes}
use Rattle.command_compile.specs.Files.{code_name}
use Rattle.command_meaning.specs.Units.{code_of}
use Rattle.command_meaning.specs.Scripts.{HoldBytes}
use Rattle.nwq_top.specs.Accepting.{with_file}

module _ (P : List ℕ → Type 0) (c : Contents) (name file : List ℕ) (written : P file) where
  by_place : (there : Bool) (bytes : List ℕ) (before : Option (List ℕ)) → (before ≡ Some bytes → P bytes) → cond there (Some file) before ≡ Some bytes → P bytes
  by_place true bytes before held is = subst P (same_Some file bytes is) written
  by_place false bytes before held is = held is

  -- what is under a name then is the file, or what was there
  pub held_after : (other bytes : List ℕ) → (content c other ≡ Some bytes → P bytes) → content (with_content c name file) other ≡ Some bytes → P bytes
  held_after other bytes held is =
      by_place (is_eq (slice_cmp nat_cmp (c.place other) (c.place name))) bytes (content c other) held
      (sym (get-insert nat_list_cmp_total c.held (c.place name) file (c.place other)) ∙ is)

-- source texts stay bytes where a file of bytecode is written, since that is bytes
pub still_bytes : CodeIsBytes → (c : Contents) (script : List ℕ) (unit : TypedUnit) → IsCode (code_of unit) → HoldBytes c → HoldBytes (with_file c script unit)
still_bytes bytes_of c script unit loads held name bytes is =
    held_after (All (λ b. b < 256)) c (code_name script) (unit_file unit) (All-from_recursion (λ b. b < 256) (unit_file unit) (bytes_of (code_of unit) loads))
    (file_name name) bytes (held name bytes) is
