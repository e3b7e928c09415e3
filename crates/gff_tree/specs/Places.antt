-- Where the first field of a label stands.
use Rattle.std.specs.Prelude.{ℕ, suc, if◌then◌else◌, List, [], ◌∷◌, Option, None, Some}
use Rattle.std.specs.Option.{option_map}
use Rattle.std.specs.Str.{bytes_eq}
use Rattle.gff_tree.specs.Tree.{PlainField}

abbrev pub place_of_field : List ℕ → List PlainField → Option ℕ
place_of_field label [] = None
place_of_field label (field ∷ fields) = if bytes_eq label field.label then Some 0 else option_map suc (place_of_field label fields)
