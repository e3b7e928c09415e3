-- How the declarations that code holds are seen as those of the definitions, and what is kept
-- beside them.
use Rattle.std.specs.Prelude.{◌≡◌, ◌≤◌, ◌<◌, ◌^◌, ℕ, List, [], ◌∷◌, length, map, if◌then◌else◌}
use Rattle.std.specs.Option.{option_map}
use Rattle.nss_scopes.specs.declared.structs.Member.{Member}
use Rattle.nss_scopes.specs.declared.structs.Members.{Members}
use Rattle.nss_scopes.specs.declared.structs.Structure.{Structure}
use Rattle.nss_scopes.specs.declared.structs.Meant.{Meant}
use Rattle.nss_scopes.specs.declared.structs.Meant.TheVariants.{Refused, Missing, Is}
use Rattle.nss_scopes.specs.declared.heads.Signature.{Signature}
use Rattle.nss_scopes.specs.declared.heads.Head.{Head}
use Rattle.typing_rules.specs.Sight as sight

abbrev pub member_of : Member → sight.Member
member_of m = record { called = m.called; ty = m.ty; before = m.before }

abbrev pub members_of : Members → sight.Members
members_of m = record { fields = map member_of m.fields; cells = m.cells }

abbrev pub structure_of : Structure → sight.Structure
structure_of s = record { called = s.called; members = option_map members_of s.members }

abbrev pub meant_of : Meant → sight.Meant
meant_of Refused = sight.IsRefused
meant_of Missing = sight.IsMissing
meant_of (Is t) = sight.Is t

abbrev pub signature_of : Signature → sight.Signature
signature_of s = record { params = s.params; result = s.result }

abbrev pub head_of : Head → sight.Head
head_of h = record {
  called = h.called;
  types = option_map signature_of h.types;
  has_body = h.has_body;
}

-- ---- what is kept of structs and of declarations of functions, with the places of their names

abbrev pub struct_name : Structure → List ℕ
struct_name s = s.called

abbrev pub head_name : Head → List ℕ
head_name h = h.called

-- the budgets: how many structs, declarations of functions and variables of a unit are kept. A
-- struct has a number of 16 bits, a declaration and a variable one of 32 bits.
abbrev pub struct_limit : ℕ
struct_limit = 65536

abbrev pub head_limit : ℕ
head_limit = 4294967295

abbrev pub variable_limit : ℕ
variable_limit = 4294967295

pub record AreStructs (all : List Structure) (places : List (List ℕ)) : Type 0 where
  pub names : places ≡ map struct_name all
  pub few : length all ≤ struct_limit

-- the names of those with a body
abbrev pub bodies_in : List Head → List (List ℕ)
bodies_in [] = []
bodies_in (h ∷ hs) = if h.has_body then h.called ∷ bodies_in hs else bodies_in hs

pub record AreHeads (all : List Head) (places bodies : List (List ℕ)) : Type 0 where
  pub names : places ≡ map head_name all
  pub with_body : bodies ≡ bodies_in all
  pub few : length all < 2 ^ 32
