-- How the walk through a file stands to the tree that its bytes stand for, and what such a tree is.
use Rattle.std.specs.Prelude.{◌≡◌, ◌≤◌, ℕ, true, List, None, Ok}
use Rattle.gff_bytes.specs.File.{open_fault}
use Rattle.gff_tree.specs.Count.{node_count}
use Rattle.gff_tree.specs.Tree.{is_sound}
use Rattle.gff_tree.specs.Whole.{PlainGff}
use Rattle.gff_read.specs.Walk.{struct_count, tree_of}
use Rattle.gff_read.specs.Stands.{Stands}

-- the walk reads the tree that bytes stand for
abbrev pub TreesAreRead : Type 0
TreesAreRead = (bytes : List ℕ) (gff : PlainGff) → Stands bytes gff → tree_of bytes ≡ Ok gff

-- where the sections lie right, bytes stand for the tree that is read
abbrev pub ReadTreesStand : Type 0
ReadTreesStand = (bytes : List ℕ) (gff : PlainGff) → open_fault bytes ≡ None
    → tree_of bytes ≡ Ok gff → Stands bytes gff

-- a tree that bytes stand for can be written, and has no more structs than they
abbrev pub TreesAreSound : Type 0
TreesAreSound = (bytes : List ℕ) (gff : PlainGff) → Stands bytes gff → is_sound gff.top ≡ true

abbrev pub TreesAreFew : Type 0
TreesAreFew = (bytes : List ℕ) (gff : PlainGff) → Stands bytes gff
    → node_count gff.top ≤ struct_count bytes
