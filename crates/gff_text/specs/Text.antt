-- The text of a GFF tree, line by line.
use Rattle.std.specs.Prelude.{ℕ, ◌+◌, ◌/◌, ◌%◌, List, [], ◌∷◌, ◌++◌, length, replicate, reverse, codes}
use Rattle.std.specs.List.{flat_map}
use Rattle.std.specs.Fmt.{decimal, signed_decimal}
use Rattle.nwq_text.specs.Escape.{hex_digit, escaped, quoted}
use Rattle.gff_tree.specs.declared.tree.LocPart.{LocPart}
use Rattle.gff_tree.specs.Tree.{Scalar, Byte, Char, Word, Short, Dword, Int, Dword64, Int64, Float, Double, Str, Res, Localized, Void, PlainNode, PlainFields, PlainLeaf, PlainNodes, Struct, NoField, MoreFields, Holds, Child, Children, NoNode, MoreNodes, nodes_in}
use Rattle.gff_tree.specs.Whole.{PlainGff}

-- so many spaces, the text, and a newline
abbrev pub line : ℕ → List ℕ → List ℕ
line depth text = replicate depth 32 ++ text ++ 10 ∷ []

-- two hexadecimal digits for each byte
abbrev pub byte_digits : ℕ → List ℕ
byte_digits b = hex_digit (b / 16) ∷ hex_digit (b % 16) ∷ []

abbrev pub digits : List ℕ → List ℕ
digits bytes = flat_map byte_digits bytes

-- the bits of a number, most significant digit first; a tree has the least significant byte first
abbrev pub number_digits : List ℕ → List ℕ
number_digits bytes = digits (reverse bytes)

-- the type of what a field holds, and its value
abbrev pub scalar_text : Scalar → List ℕ
scalar_text (Byte n) = codes "byte " ++ decimal n
scalar_text (Char n) = codes "char " ++ signed_decimal n
scalar_text (Word n) = codes "word " ++ decimal n
scalar_text (Short n) = codes "short " ++ signed_decimal n
scalar_text (Dword n) = codes "dword " ++ decimal n
scalar_text (Int n) = codes "int " ++ signed_decimal n
scalar_text (Dword64 n) = codes "dword64 " ++ decimal n
scalar_text (Int64 n) = codes "int64 " ++ signed_decimal n
scalar_text (Float bits) = codes "float " ++ number_digits bits
scalar_text (Double bits) = codes "double " ++ number_digits bits
scalar_text (Str text) = codes "string " ++ quoted text
scalar_text (Res name) = codes "resref " ++ quoted name
scalar_text (Localized loc) = codes "locstring " ++ decimal loc.str_ref
    ++ 32 ∷ decimal (length loc.parts)
scalar_text (Void bytes) = codes "void " ++ digits bytes

-- a struct has no value, and a list the number of its structs
abbrev pub leaf_text : PlainLeaf → List ℕ
leaf_text (Holds scalar) = scalar_text scalar
leaf_text (Child node) = codes "struct"
leaf_text (Children nodes) = codes "list " ++ decimal (length (nodes_in nodes))

-- a text in one language
abbrev pub part_line : ℕ → LocPart → List ℕ
part_line depth part = line depth (signed_decimal part.id ++ 32 ∷ quoted part.text)

abbrev pub scalar_lines : ℕ → Scalar → List ℕ
scalar_lines depth (Localized loc) = flat_map (part_line depth) loc.parts
scalar_lines depth _ = []

abbrev mutual
  -- a struct: its type, and its fields two spaces deeper
  pub struct_lines : ℕ → PlainNode → List ℕ
  struct_lines depth (Struct kind fields) = line depth (codes "struct " ++ decimal kind)
      ++ field_lines (depth + 2) fields

  -- a field, what stands in it two spaces deeper, and the other fields
  pub field_lines : ℕ → PlainFields → List ℕ
  field_lines depth NoField = []
  field_lines depth (MoreFields label leaf rest) =
      line depth (escaped label ++ 32 ∷ leaf_text leaf)
      ++ (lines_below (depth + 2) leaf ++ field_lines depth rest)

  pub lines_below : ℕ → PlainLeaf → List ℕ
  lines_below depth (Holds scalar) = scalar_lines depth scalar
  lines_below depth (Child node) = struct_lines depth node
  lines_below depth (Children nodes) = list_lines depth nodes

  pub list_lines : ℕ → PlainNodes → List ℕ
  list_lines depth NoNode = []
  list_lines depth (MoreNodes node rest) = struct_lines depth node ++ list_lines depth rest

-- the type of the file, and the top struct
abbrev pub tree_text : PlainGff → List ℕ
tree_text tree = line 0 (codes "gff " ++ quoted tree.file_type) ++ struct_lines 0 tree.top
