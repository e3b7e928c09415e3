-- What each change of the disk leaves, as its names tell it.
use Rattle.std.proofs.Common.{◌≡◌, ◌≢◌, ◌∙◌, ℕ, Bool, true, false, true≢false, List, [], ◌∷◌, ◌++◌, bytes_eq, Option, None, Some, refl, sym, ap, subst}
use Rattle.std.proofs.lemmas.Slice.Eq.{bytes_eq-Decides}
use Rattle.std.specs.FinMap as names
use Rattle.std.specs.FinMap.{insert, remove}
use Rattle.std.specs.Option.{option_and_then, unwrap_or}
use Rattle.nwq_outside.specs.ContentLemmas.{put_there}
use Rattle.real_files.specs.Disk.{Names, SameKind, SameOthers, HasMode, MakesWhole, MakesPart, Renames, Removes, Syncs, WritesInto, WritesPart, folder_of}
use Rattle.memory_disk.proofs.EachLemmas.{bytes_at, mode_at, link_at, put_at, put_apart, put_same, put_inserts, out_at, out_apart, out_same}
use Rattle.memory_disk.specs.Drive.{Nodes, Drive, bytes_in, mode_in, text_in, files_of, modes_of, links_of, is_among, is_held, names_of}
use Rattle.memory_disk.specs.declared.node.Node.{Node}
use Rattle.memory_disk.specs.declared.node.Node.TheVariants.{File, Link, Device}

-- what has no mode, and no bytes, is nothing or a link; what has a mode or bytes is no link
no_link_of_mode : (o : Option Node) (mode : ℕ) → option_and_then mode_in o ≡ Some mode → None ≡ option_and_then text_in o
no_link_of_mode None mode is = refl
no_link_of_mode (Some (File m bytes)) mode is = refl
no_link_of_mode (Some (Link text)) mode is = cc
no_link_of_mode (Some (Device bytes)) mode is = refl

no_link_of_bytes : (o : Option Node) (bytes : List ℕ) → option_and_then bytes_in o ≡ Some bytes → None ≡ option_and_then text_in o
no_link_of_bytes None bytes is = refl
no_link_of_bytes (Some (File m other)) bytes is = refl
no_link_of_bytes (Some (Link text)) bytes is = cc
no_link_of_bytes (Some (Device other)) bytes is = refl

-- a regular file or a device that is put where no link is
module _ (before : Drive) (name : List ℕ) (node : Node) (room : ℕ) where
  abbrev put_into : Drive
  put_into = record before { nodes = insert before.nodes name node; room = room }

  put_kind : text_in node ≡ None → None ≡ names.get (links_of before.nodes) name → SameKind (names_of before) (names_of put_into)
  put_kind no_text no_link = record { links = put_same text_in [] before.nodes name node (no_text ∙ no_link); fixed = refl; has_modes = refl }

  put_others : text_in node ≡ None → None ≡ names.get (links_of before.nodes) name → SameOthers (names_of before) (names_of put_into) name
  put_others no_text no_link = record {
    kind = put_kind no_text no_link;
    files = λ other apart. put_apart bytes_in [] before.nodes name node other apart;
    modes = λ other apart. put_apart mode_in 0 before.nodes name node other apart;
  }

-- ---- a new file

module _ (before after : Drive) (name : List ℕ) (mode : ℕ) (bytes : List ℕ) (room : ℕ) (none : names.get before.nodes name ≡ None)
    (put : after ≡ record before { nodes = insert before.nodes name (File mode bytes); room = room }) where
  no_file : names.get (files_of before.nodes) name ≡ None
  no_file = bytes_at before.nodes name ∙ ap (option_and_then bytes_in) none

  no_link : None ≡ names.get (links_of before.nodes) name
  no_link = sym (link_at before.nodes name ∙ ap (option_and_then text_in) none)

  pub makes_part : MakesPart (names_of before) (names_of after) name
  makes_part =
      subst (λ d. MakesPart (names_of before) (names_of d) name) (sym put)
      (record { was_none = no_file; others = put_others before name (File mode bytes) room refl no_link })

  has_mode : (like : Option ℕ) (other : ℕ) → mode ≡ unwrap_or like other → HasMode (names_of (put_into before name (File mode bytes) room)) name like
  has_mode None other is = tt
  has_mode (Some asked) other is = λ _. put_at mode_in 0 before.nodes name (File mode bytes) ∙ ap Some is

  pub makes_whole : (like : Option ℕ) (other : ℕ) → mode ≡ unwrap_or like other → MakesWhole (names_of before) (names_of after) name like bytes false
  makes_whole like other is =
      subst (λ d. MakesWhole (names_of before) (names_of d) name like bytes false) (sym put)
      (record {
        was_none = no_file;
        files = put_inserts bytes_in [] before.nodes name (File mode bytes) bytes refl;
        mode = has_mode like other is;
        written = λ lasts. absurd (true≢false (sym lasts));
        others = put_others before name (File mode bytes) room refl no_link;
      })

-- ---- what the disk has for good

among_last : (list : List (List ℕ)) (bytes : List ℕ) → is_among (list ++ bytes ∷ []) bytes ≡ true
among_last [] bytes = rw ((bytes_eq-Decides bytes bytes).1 refl) refl
among_last (first ∷ list) bytes = by_test (bytes_eq first bytes) refl (among_last list bytes)
  where
    by_test : (t : Bool) → bytes_eq first bytes ≡ t → is_among (list ++ bytes ∷ []) bytes ≡ true → is_among (first ∷ (list ++ bytes ∷ [])) bytes ≡ true
    by_test true is rest = rw is refl
    by_test false is rest = rw is rest

still_mode : (d : Drive) (more : List (List ℕ)) (name : List ℕ) (like : Option ℕ) → HasMode (names_of d) name like
    → HasMode (names_of (record d { written = more })) name like
still_mode d more name None has = tt
still_mode d more name (Some mode) has = has

module _ (before mid after : Drive) (new bytes : List ℕ) (like : Option ℕ) (made : MakesWhole (names_of before) (names_of mid) new like bytes false) where
  pub bytes_kept : (lasting : Bool) → after ≡ record mid { written = mid.written ++ bytes ∷ [] }
      → MakesWhole (names_of before) (names_of after) new like bytes lasting
  bytes_kept lasting kept =
      subst (λ d. MakesWhole (names_of before) (names_of d) new like bytes lasting) (sym kept)
      (record {
        was_none = made.was_none;
        files = made.files;
        mode = still_mode mid (mid.written ++ bytes ∷ []) new like made.mode;
        written = λ lasts.
            ap (λ held. is_held (mid.written ++ bytes ∷ []) (names.get held new)) made.files
            ∙ ap (is_held (mid.written ++ bytes ∷ [])) (put_there (files_of before.nodes) new bytes)
            ∙ among_last mid.written bytes;
        others = record { kind = record { links = made.others.kind.links; fixed = made.others.kind.fixed; has_modes = refl }; files = made.others.files; modes = made.others.modes };
      })

  pub bytes_lost : after ≡ mid → MakesPart (names_of before) (names_of after) new
  bytes_lost same =
      subst (λ d. MakesPart (names_of before) (names_of d) new) (sym same)
      (record { was_none = made.was_none; others = made.others })

  pub bytes_brief : (lasting : Bool) → lasting ≡ false → MakesWhole (names_of before) (names_of mid) new like bytes lasting
  bytes_brief lasting is = subst (MakesWhole (names_of before) (names_of mid) new like bytes) (sym is) made

pub folder_kept : (before after : Drive) (name : List ℕ) → after ≡ record before { listed = before.listed ++ folder_of name ∷ [] }
    → Syncs (names_of before) (names_of after) name
folder_kept before after name kept =
    subst (λ d. Syncs (names_of before) (names_of d) name) (sym kept)
    (record { same = refl; listed = among_last before.listed (folder_of name) })

-- ---- a file under another name

module _ (before mid after : Drive) (from to : List ℕ) (mode : ℕ) (bytes : List ℕ) (room less : ℕ)
    (is : names.get before.nodes from ≡ Some (File mode bytes)) (no_link_there : names.get (links_of before.nodes) to ≡ None) (apart : from ≢ to)
    (put : mid ≡ record before { nodes = insert before.nodes to (File mode bytes); room = room })
    (out : after ≡ record mid { nodes = remove mid.nodes from; room = less; listed = [] }) where
  abbrev put_nodes : Nodes
  put_nodes = insert before.nodes to (File mode bytes)

  back : to ≢ from
  back same = apart (sym same)

  links_put : links_of put_nodes ≡ links_of before.nodes
  links_put = put_same text_in [] before.nodes to (File mode bytes) (sym no_link_there)

  no_link_here : None ≡ names.get (links_of put_nodes) from
  no_link_here = sym (ap (λ l. names.get l from) links_put ∙ link_at before.nodes from ∙ ap (option_and_then text_in) is)

  abbrev renamed : Drive
  renamed = record before { nodes = remove put_nodes from; room = less; listed = [] }

  same : after ≡ renamed
  same = out ∙ ap (λ (d : Drive). record d { nodes = remove d.nodes from; room = less; listed = [] }) put

  moved_bytes : names.get (files_of renamed.nodes) to ≡ names.get (files_of before.nodes) from
  moved_bytes =
      out_apart bytes_in [] put_nodes from to back ∙ put_at bytes_in [] before.nodes to (File mode bytes)
      ∙ sym (bytes_at before.nodes from ∙ ap (option_and_then bytes_in) is)

  renames_so : Renames (names_of before) (names_of renamed) from to
  renames_so = record {
    kind = record { links = out_same text_in [] put_nodes from no_link_here ∙ links_put; fixed = refl; has_modes = refl };
    moved = moved_bytes;
    written = ap (is_held before.written) moved_bytes;
    mode = out_apart mode_in 0 put_nodes from to back ∙ put_at mode_in 0 before.nodes to (File mode bytes)
        ∙ sym (mode_at before.nodes from ∙ ap (option_and_then mode_in) is);
    gone = λ _. out_at bytes_in [] put_nodes from;
    files = λ other a b. out_apart bytes_in [] put_nodes from other a ∙ put_apart bytes_in [] before.nodes to (File mode bytes) other b;
    modes = λ other a b. out_apart mode_in 0 put_nodes from other a ∙ put_apart mode_in 0 before.nodes to (File mode bytes) other b;
  }

  pub renames_apart : Renames (names_of before) (names_of after) from to
  renames_apart = subst (λ d. Renames (names_of before) (names_of d) from to) (sym same) renames_so

stays : (n : Names) → SameKind n n
stays n = record { links = refl; fixed = refl; has_modes = refl }

pub renames_same : (d : Drive) (from to : List ℕ) → from ≡ to → Renames (names_of d) (names_of d) from to
renames_same d from to same = record {
  kind = stays (names_of d);
  moved = ap (names.get (files_of d.nodes)) (sym same);
  mode = ap (names.get (modes_of d.nodes)) (sym same);
  written = ap (λ name. is_held d.written (names.get (files_of d.nodes) name)) (sym same);
  gone = λ apart. absurd (apart same);
  files = λ other a b. refl;
  modes = λ other a b. refl;
}

-- ---- a file that is taken out

module _ (before after : Drive) (name : List ℕ) (mode room : ℕ) (is : names.get (modes_of before.nodes) name ≡ Some mode)
    (out : after ≡ record before { nodes = remove before.nodes name; room = room; listed = [] }) where
  no_link_out : None ≡ names.get (links_of before.nodes) name
  no_link_out = no_link_of_mode (names.get before.nodes name) mode (sym (mode_at before.nodes name) ∙ is) ∙ sym (link_at before.nodes name)

  pub removes : Removes (names_of before) (names_of after) name
  removes =
      subst (λ d. Removes (names_of before) (names_of d) name) (sym out)
      (record {
        gone = out_at bytes_in [] before.nodes name;
        others = record {
          kind = record { links = out_same text_in [] before.nodes name no_link_out; fixed = refl; has_modes = refl };
          files = λ other apart. out_apart bytes_in [] before.nodes name other apart;
          modes = λ other apart. out_apart mode_in 0 before.nodes name other apart;
        };
      })

-- ---- what is written into

pub part_stays : (before after : Drive) (name : List ℕ) → after ≡ before → WritesPart (names_of before) (names_of after) name
part_stays before after name same =
    subst (λ d. WritesPart (names_of before) (names_of d) name) (sym same)
    (record { kind = stays (names_of before); files = λ other apart. refl; modes = refl })

module _ (before after : Drive) (name : List ℕ) (mode : ℕ) (bytes : List ℕ) (room : ℕ) (is : names.get (modes_of before.nodes) name ≡ Some mode)
    (put : after ≡ record before { nodes = insert before.nodes name (File mode bytes); room = room }) where
  no_link_file : None ≡ names.get (links_of before.nodes) name
  no_link_file = no_link_of_mode (names.get before.nodes name) mode (sym (mode_at before.nodes name) ∙ is) ∙ sym (link_at before.nodes name)

  pub file_part : WritesPart (names_of before) (names_of after) name
  file_part =
      subst (λ d. WritesPart (names_of before) (names_of d) name) (sym put)
      (record {
        files = λ other apart. put_apart bytes_in [] before.nodes name (File mode bytes) other apart;
        modes = put_same mode_in 0 before.nodes name (File mode bytes) (sym is);
        kind = put_kind before name (File mode bytes) room refl no_link_file;
      })

  pub file_written : WritesInto (names_of before) (names_of after) name bytes
  file_written =
      subst (λ d. WritesInto (names_of before) (names_of d) name bytes) (sym put)
      (record {
        files = put_inserts bytes_in [] before.nodes name (File mode bytes) bytes refl;
        modes = put_same mode_in 0 before.nodes name (File mode bytes) (sym is);
        kind = put_kind before name (File mode bytes) room refl no_link_file;
      })

module _ (before after : Drive) (name bytes held : List ℕ) (none : names.get (modes_of before.nodes) name ≡ None)
    (is : names.get (files_of before.nodes) name ≡ Some held) (put : after ≡ record before { nodes = insert before.nodes name (Device bytes) }) where
  no_link_device : None ≡ names.get (links_of before.nodes) name
  no_link_device = no_link_of_bytes (names.get before.nodes name) held (sym (bytes_at before.nodes name) ∙ is) ∙ sym (link_at before.nodes name)

  pub device_written : WritesInto (names_of before) (names_of after) name bytes
  device_written =
      subst (λ d. WritesInto (names_of before) (names_of d) name bytes) (sym put)
      (record {
        files = put_inserts bytes_in [] before.nodes name (Device bytes) bytes refl;
        modes = put_same mode_in 0 before.nodes name (Device bytes) (sym none);
        kind = put_kind before name (Device bytes) before.room refl no_link_device;
      })

pub ruleset renames = (renames_apart, renames_same)

pub ruleset writes_file = (file_part, file_written, part_stays)

pub ruleset writes_device = (device_written, part_stays)

pub ruleset breaks = (file_part, part_stays)
