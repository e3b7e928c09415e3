-- The law that a written file stands for its tree.
use Rattle.std.specs.Prelude.{◌≡◌, ◌≤◌, ◌<◌, ℕ, List, [], ◌∷◌, length, slice_index, false, IsTrue}
use Rattle.std.specs.Int.{w8, w16, w32, w64}
use Rattle.std.specs.Int.RustNames.{FitsSigned}
use Rattle.gff_tree.specs.declared.tree.LocPart.{LocPart}
use Rattle.gff_tree.specs.Label.{has_zero}
use Rattle.gff_tree.specs.Tree as tree
use Rattle.gff_tree.specs.Tree.{Scalar, PlainNode, PlainFields, PlainLeaf, PlainNodes, Struct, NoField, MoreFields, Holds, Child, Children, NoNode, MoreNodes, is_sound}
use Rattle.gff_tree.specs.Whole.{PlainGff}
use Rattle.gff_read.specs.Stands.{Stands}
use Rattle.nwq_value.specs.Limits.{file_limit}
use Rattle.gff_write.specs.File.{written}

-- each number of a list is a byte; past its end the list reads 0
abbrev pub AreBytesByPlace : List ℕ → Type 0
AreBytesByPlace bytes = (i : ℕ) → slice_index bytes i < 256

abbrev pub IsLabel : List ℕ → Type 0
IsLabel label = (length label ≤ 16) × (has_zero label ≡ false)

abbrev pub AreParts : List LocPart → Type 0
AreParts [] = Unit {0}
AreParts (part ∷ parts) = FitsSigned w32 part.id × AreParts parts

-- a value in the range of its type; a float has the bytes of its width
abbrev pub IsScalar : Scalar → Type 0
IsScalar (tree.Byte n) = n < 256
IsScalar (tree.Char n) = FitsSigned w8 n
IsScalar (tree.Word n) = n < 65536
IsScalar (tree.Short n) = FitsSigned w16 n
IsScalar (tree.Dword n) = n < 4294967296
IsScalar (tree.Int n) = FitsSigned w32 n
IsScalar (tree.Dword64 n) = n < 18446744073709551616
IsScalar (tree.Int64 n) = FitsSigned w64 n
IsScalar (tree.Float bits) = (length bits ≡ 4) × AreBytesByPlace bits
IsScalar (tree.Double bits) = length bits ≡ 8
IsScalar (tree.Str text) = Unit {0}
IsScalar (tree.Res text) = Unit {0}
IsScalar (tree.Localized loc) = (loc.str_ref < 4294967296) × AreParts loc.parts
IsScalar (tree.Void bytes) = Unit {0}

-- each number of a struct in the range of its type, and each label one of at most 16 bytes without
-- a zero byte
abbrev mutual
  pub IsNode : PlainNode → Type 0
  IsNode (Struct kind fields) = (kind < 4294967296) × AreFields fields

  pub AreFields : PlainFields → Type 0
  AreFields NoField = Unit {0}
  AreFields (MoreFields label holds rest) = IsLabel label × IsLeaf holds × AreFields rest

  pub IsLeaf : PlainLeaf → Type 0
  IsLeaf (Holds scalar) = IsScalar scalar
  IsLeaf (Child node) = IsNode node
  IsLeaf (Children nodes) = AreNodes nodes

  pub AreNodes : PlainNodes → Type 0
  AreNodes NoNode = Unit {0}
  AreNodes (MoreNodes node rest) = IsNode node × AreNodes rest

-- a tree as a program can have it
pub record IsTree (gff : PlainGff) : Type 0 where
  pub file_type : length gff.file_type ≡ 4
  pub ranges : IsNode gff.top
  pub sound : IsTrue (is_sound gff.top)

-- the file of each tree stands for the tree, where it is no larger than a file may be
abbrev pub WrittenStands : Type 0
WrittenStands = (gff : PlainGff) → IsTree gff → length (written gff) ≤ file_limit
    → Stands (written gff) gff
