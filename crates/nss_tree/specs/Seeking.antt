-- Going over nodes to the one of a given number: how many are still to be passed, or the token
-- found.
use Rattle.std.specs.Prelude.{ℕ, zero, suc, List, [], ◌∷◌, Option, None, Some}
use Rattle.nss_tree.specs.declared.places.Seek.{Seek}
use Rattle.nss_tree.specs.declared.places.Seek.TheVariants.{Ahead, Found}

abbrev pub passed : ℕ → Seek → Seek
passed token (Found t) = Found t
passed token (Ahead zero) = Found token
passed token (Ahead (suc n)) = Ahead n

unfoldable pub sought : List ℕ → Seek → Seek
sought [] seek = seek
sought (token ∷ tokens) seek = sought tokens (passed token seek)

abbrev pub token_found : Seek → Option ℕ
token_found (Ahead n) = None
token_found (Found t) = Some t
