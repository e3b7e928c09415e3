-- What a disk in memory holds, and what its names tell of it.
use Rattle.std.specs.Prelude.{◌≡◌, ◌<◌, ℕ, zero, suc, Bool, true, false, not, ◌||◌, ◌==◌, bit_and, List, [], map, All, Option, Some, None, is_some, unwrap_or, refl}
use Rattle.std.specs.Coded.{Coded, code_by, coded×, coded_ℕ, coded_list}
use Rattle.std.specs.FinMap as names
use Rattle.std.specs.Option.{option_and_then}
use Rattle.std.specs.List.{list_any}
use Rattle.std.specs.Cmp.Lexicographic.{slice_cmp}
use Rattle.std.specs.Ordering.{nat_cmp}
use Rattle.std.specs.Str.{bytes_eq}
use Rattle.nwq_outside.specs.Outside.{Held}
use Rattle.real_files.specs.Disk.{Names, Modes, folder_of}
use Rattle.memory_disk.specs.declared.node.Node.{Node}
use Rattle.memory_disk.specs.declared.node.Node.TheVariants.{File, Link, Device}

-- what stands under each name
abbrev pub Nodes : Type 0
Nodes = names.FinMap (slice_cmp nat_cmp) Node

abbrev pub node_of : ℕ → ℕ → List ℕ → Node
node_of zero mode bytes = File mode bytes
node_of (suc zero) mode bytes = Link bytes
node_of (suc (suc more)) mode bytes = Device bytes

abbrev pub parts_of : Node → ℕ × (ℕ × List ℕ)
parts_of (File mode bytes) = (0, (mode, bytes))
parts_of (Link text) = (1, (0, text))
parts_of (Device bytes) = (2, (0, bytes))

abbrev pub parts_back : (node : Node)
    → node_of (parts_of node).0 (parts_of node).1.0 (parts_of node).1.1 ≡ node
parts_back (File mode bytes) = refl
parts_back (Link text) = refl
parts_back (Device bytes) = refl

-- what stands under a name is told from other things by a number of its kind, its mode and its bytes
abbrev pub node_code : Coded Node
node_code =
    code_by (ℕ × (ℕ × List ℕ)) (coded× coded_ℕ (coded× coded_ℕ (coded_list coded_ℕ))) parts_of
    (λ p. node_of p.0 p.1.0 p.1.1) parts_back

abbrev pub nodes_code : Coded Nodes
nodes_code = names.code (coded_list coded_ℕ) node_code

-- the bytes that a read gives, of what is no link
abbrev pub bytes_in : Node → Option (List ℕ)
bytes_in (File mode bytes) = Some bytes
bytes_in (Link text) = None
bytes_in (Device bytes) = Some bytes

-- the mode of a regular file
abbrev pub mode_in : Node → Option ℕ
mode_in (File mode bytes) = Some mode
mode_in (Link text) = None
mode_in (Device bytes) = None

-- the text of a link
abbrev pub text_in : Node → Option (List ℕ)
text_in (File mode bytes) = None
text_in (Link text) = Some text
text_in (Device bytes) = None

-- the names of which something is so, each with what that is
unfoldable pub each : {X : Type 0} → (Node → Option X) → X → Nodes
    → names.FinMap (slice_cmp nat_cmp) X
each get other nodes =
    names.retain_keys (names.from_entries
    (map (λ e. (e.0, unwrap_or (get e.1) other)) (names.entries nodes)))
    (λ name. is_some (option_and_then get (names.get nodes name)))

abbrev pub files_of : Nodes → Held
files_of nodes = each bytes_in [] nodes

abbrev pub modes_of : Nodes → Modes
modes_of nodes = each mode_in 0 nodes

abbrev pub links_of : Nodes → Held
links_of nodes = each text_in [] nodes

-- what is read of each name are bytes
unfoldable pub AreBytes : Nodes → Type 0
AreBytes nodes = (name bytes : List ℕ) → names.get (files_of nodes) name ≡ Some bytes
    → All (λ b. b < 256) bytes

-- a disk in memory: what stands under its names, which of them and which folders are marked so that
-- they stay as they are, how many bytes there is room for, which contents it was told to have for
-- good, and which folders since a file was taken out, which calls fail, which of these break off,
-- and how many calls there were
pub record Drive : Type 0 where
  pub nodes : Nodes
  pub marked : List (List ℕ)
  pub closed : List (List ℕ)
  pub room : ℕ
  pub written : List (List ℕ)
  pub listed : List (List ℕ)
  pub failing : List ℕ
  pub breaking : List ℕ
  pub calls : ℕ

abbrev pub coded_names : Coded (List (List ℕ))
coded_names = coded_list (coded_list coded_ℕ)

-- a disk is told from others as the tuple of its fields
abbrev pub drive_code : Coded Drive
drive_code =
    code_by (Nodes × (List (List ℕ)
    × (List (List ℕ) × (ℕ × (List (List ℕ) × (List (List ℕ) × (List ℕ × (List ℕ × ℕ))))))))
    (coded× nodes_code (coded× coded_names
    (coded× coded_names (coded× coded_ℕ (coded× coded_names (coded× coded_names
    (coded× (coded_list coded_ℕ) (coded× (coded_list coded_ℕ) coded_ℕ))))))))
    (λ d. (
      d.nodes,
      (
        d.marked,
        (d.closed, (d.room, (d.written, (d.listed, (d.failing, (d.breaking, d.calls)))))),
      ),
    ))
    (λ p. record {
      nodes = p.0;
      marked = p.1.0;
      closed = p.1.1.0;
      room = p.1.1.1.0;
      written = p.1.1.1.1.0;
      listed = p.1.1.1.1.1.0;
      failing = p.1.1.1.1.1.1.0;
      breaking = p.1.1.1.1.1.1.1.0;
      calls = p.1.1.1.1.1.1.1.1;
    })
    (λ _. refl)

-- whether a name is among these
abbrev pub is_among : List (List ℕ) → List ℕ → Bool
is_among list name = list_any (λ other. bytes_eq other name) list

-- whether what has a name can't be replaced: it is marked, or its folder is closed
abbrev pub is_fixed : (marked closed : List (List ℕ)) → List ℕ → Bool
is_fixed marked closed name = is_among marked name || is_among closed (folder_of name)

-- whether a file of this mode may be written by its owner
abbrev pub may_write : Option ℕ → Bool
may_write None = false
may_write (Some mode) = not (bit_and mode 128 == 0)

-- whether these are bytes that are among those
abbrev pub is_held : List (List ℕ) → Option (List ℕ) → Bool
is_held contents None = false
is_held contents (Some bytes) = is_among contents bytes

-- what the disk tells of its names
abbrev pub names_of : Drive → Names
names_of d = record {
  files = files_of d.nodes;
  modes = modes_of d.nodes;
  links = links_of d.nodes;
  fixed = is_fixed d.marked d.closed;
  writable = λ name. may_write (names.get (modes_of d.nodes) name);
  has_modes = true;
  written = λ name. is_held d.written (names.get (files_of d.nodes) name);
  listed = λ name. is_among d.listed (folder_of name);
}
