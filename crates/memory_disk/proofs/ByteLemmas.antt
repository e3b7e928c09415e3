-- What is read of the names are bytes.
use Rattle.std.proofs.Common.{◌≡◌, ◌∙◌, ◌<◌, ℕ, All, Bool, true, false, cond, List, [], Option, Some, None, refl, sym, ap, subst}
use Rattle.std.proofs.lemmas.Option.{same_Some}
use Rattle.std.specs.Cmp.Lexicographic.{slice_cmp}
use Rattle.std.specs.FinMap.{get, insert, remove, empty, get-empty}
use Rattle.std.specs.Option.{option_and_then}
use Rattle.std.specs.Ordering.{nat_cmp}
use Rattle.std.specs.Str.{bytes_eq}
use Rattle.memory_disk.proofs.EachLemmas.{each_put, each_out, bytes_at}
use Rattle.memory_disk.specs.Drive.{Nodes, AreBytes, bytes_in, files_of}
use Rattle.memory_disk.specs.declared.node.Node.{Node}
use Rattle.memory_disk.specs.declared.node.Node.TheVariants.{File, Link, Device}

nothing : {P : Type 0} (bytes : List ℕ) → None ≡ Some bytes → P
nothing bytes is = cc

either_bytes : (b : Bool) (bytes : List ℕ) (o held : Option (List ℕ)) → (o ≡ Some bytes → All (λ x. x < 256) bytes)
    → (held ≡ Some bytes → All (λ x. x < 256) bytes) → cond b o held ≡ Some bytes → All (λ x. x < 256) bytes
either_bytes true bytes o held new old is = new is
either_bytes false bytes o held new old is = old is

put_bytes : (before after : Nodes) (name : List ℕ) (node : Node) → after ≡ insert before name node → AreBytes before
    → ((bytes : List ℕ) → bytes_in node ≡ Some bytes → All (λ b. b < 256) bytes) → AreBytes after
unfolding AreBytes
put_bytes before after name node put held new other bytes is =
    either_bytes (bytes_eq other name) bytes (bytes_in node) (get (files_of before) other) (new bytes) (held other bytes)
    (sym (each_put bytes_in [] before name node other) ∙ ap (λ (n : Nodes). get (files_of n) other) (sym put) ∙ is)

pub file_bytes : (before after : Nodes) (name : List ℕ) (mode : ℕ) (bytes : List ℕ) → after ≡ insert before name (File mode bytes) → AreBytes before
    → All (λ b. b < 256) bytes → AreBytes after
file_bytes before after name mode bytes put held all =
    put_bytes before after name (File mode bytes) put held (λ other is. subst (All (λ x. x < 256)) (same_Some bytes other is) all)

pub device_bytes : (before after : Nodes) (name bytes : List ℕ) → after ≡ insert before name (Device bytes) → AreBytes before
    → All (λ b. b < 256) bytes → AreBytes after
device_bytes before after name bytes put held all =
    put_bytes before after name (Device bytes) put held (λ other is. subst (All (λ x. x < 256)) (same_Some bytes other is) all)

pub link_bytes : (before after : Nodes) (name text : List ℕ) → after ≡ insert before name (Link text) → AreBytes before → AreBytes after
link_bytes before after name text put held = put_bytes before after name (Link text) put held (λ other is. nothing other is)

pub out_bytes : (before after : Nodes) (name : List ℕ) → after ≡ remove before name → AreBytes before → AreBytes after
unfolding AreBytes
out_bytes before after name out held other bytes is =
    either_bytes (bytes_eq other name) bytes None (get (files_of before) other) (nothing bytes) (held other bytes)
    (sym (each_out bytes_in [] before name other) ∙ ap (λ (n : Nodes). get (files_of n) other) (sym out) ∙ is)

pub stay_bytes : (before after : Nodes) → after ≡ before → AreBytes before → AreBytes after
stay_bytes before after same held = subst AreBytes (sym same) held

pub no_bytes : (none : Nodes) → none ≡ empty → AreBytes none
unfolding AreBytes
no_bytes none is name bytes held =
    nothing bytes (sym (bytes_at none name ∙ ap (option_and_then bytes_in) (ap (λ (n : Nodes). get n name) is ∙ get-empty (slice_cmp nat_cmp) name)) ∙ held)

pub ruleset bytes_are = (file_bytes, device_bytes, link_bytes, out_bytes, stay_bytes, no_bytes)
