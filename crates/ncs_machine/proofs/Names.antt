-- Scripts by their names.
use Rattle.std.proofs.Common.{◌≡◌, ℕ, List, [], ◌∷◌, length, map, Option, ap, ◌∙◌, refl, sym}
use Rattle.std.specs.Prelude.{not}
use Rattle.std.specs.Char.{to_ascii_lowercase}
use Rattle.std.specs.List.{position, position_from, prefix_len}
use Rattle.std.specs.Str.{bytes_eq}
use Rattle.std.proofs.lemmas.Iterator.Adapters.{position_from-zero}
use Rattle.machine_rules.specs.Machine.{script_named}
use Rattle.ncs_machine.specs.declared.scripts.Loaded.{Loaded}
use Rattle.ncs_machine.specs.Host.{scripts_of}

length_of : (scripts : List Loaded) → length (scripts_of scripts) ≡ length scripts
length_of [] = refl
length_of (l ∷ scripts) = rw (length_of scripts) refl

front_of : (name : List ℕ) (scripts : List Loaded) → prefix_len (λ s. not (bytes_eq (map to_ascii_lowercase name) s.name)) (scripts_of scripts)
    ≡ prefix_len (λ l. not (bytes_eq (map to_ascii_lowercase name) l.name)) scripts
front_of name [] = refl
front_of name (l ∷ scripts) = rw (front_of name scripts) refl

named_is : (name : List ℕ) (scripts : List Loaded) → position (λ l. bytes_eq (map to_ascii_lowercase name) l.name) scripts ≡ script_named (scripts_of scripts) name
named_is name scripts = rw (front_of name scripts, length_of scripts) refl

pub position_is : (name : List ℕ) (scripts : List Loaded) → position_from (λ l. bytes_eq (map to_ascii_lowercase name) l.name) 0 scripts ≡ script_named (scripts_of scripts) name
position_is name scripts = sym (position_from-zero (λ l. bytes_eq (map to_ascii_lowercase name) l.name) scripts) ∙ named_is name scripts

pub named_by : (name own : List ℕ) (scripts slice : List Loaded) (n : Option ℕ) → own ≡ name → slice ≡ scripts
    → n ≡ position_from (λ l. bytes_eq (map to_ascii_lowercase own) l.name) 0 slice → n ≡ script_named (scripts_of scripts) name
named_by name own scripts slice n a b e =
    e ∙ ap (λ own. position_from (λ l. bytes_eq (map to_ascii_lowercase own) l.name) 0 slice) a
    ∙ ap (position_from (λ l. bytes_eq (map to_ascii_lowercase name) l.name) 0) b
    ∙ position_is name scripts
