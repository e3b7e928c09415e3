-- Names of scripts, includes and files, and places in files.
use Rattle.std.specs.Prelude.{ℕ, Bool, ◌&&◌, nat_lt, nat_le, List, ◌++◌, length, map, take, codes}
use Rattle.std.specs.List.{list_all}
use Rattle.std.specs.Char.{to_ascii_lowercase}
use Rattle.nwq_value.specs.Limits.{text_limit}
use Rattle.nss_lexer.specs.Bytes.{is_name_byte}
use Rattle.nwq_text.specs.Line.{line_number}
use Rattle.nss_include.specs.declared.file.Source.{Source}
use Rattle.nss_include.specs.declared.fault.Spot.{Spot}

-- the file of a script or include: its name with the letters A to Z in lower case, and `.nss`
unfoldable pub file_name : List ℕ → List ℕ
file_name name = map to_ascii_lowercase name ++ codes ".nss"

-- bytes of the name of an include
abbrev pub include_name_limit : ℕ
include_name_limit = 16

-- a name that an include may have: letters, digits and `_`, one at least
unfoldable pub is_include_name : List ℕ → Bool
is_include_name name = nat_lt 0 (length name) && nat_le (length name) include_name_limit
    && list_all is_name_byte name

-- a place of a file: the file's name, cut as texts are, the place's line and the place
abbrev pub spot_in : Source → ℕ → Spot
spot_in file at = record {
  name = take text_limit file.name;
  line = line_number file.bytes at;
  at = at;
}
