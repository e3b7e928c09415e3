-- Lines and names that were worked out by hand.
use Rattle.std.proofs.Common.{◌≡◌, true, false, [], ◌∷◌, codes, refl}
use Rattle.nwq_text.specs.Lines.{lines_of}
use Rattle.nwq_text.specs.Names.{is_script_name}

-- a carriage return before a newline goes, and one in the midst of a line or at the end of the text
-- stays
returns : lines_of (codes "a\r\nb\rc\n\nd\r") ≡ codes "a" ∷ codes "b\rc" ∷ [] ∷ codes "d\r" ∷ []
unfolding lines_of
returns = refl

-- one carriage return goes, and no second one
two_returns : lines_of (codes "a\r\r\n") ≡ codes "a\r" ∷ []
unfolding lines_of
two_returns = refl

-- a newline at the end begins no further line
ended : lines_of (codes "a\n") ≡ codes "a" ∷ []
unfolding lines_of
ended = refl

unended : lines_of (codes "a\nb") ≡ codes "a" ∷ codes "b" ∷ []
unfolding lines_of
unended = refl

empty : lines_of (codes "\n") ≡ [] ∷ []
unfolding lines_of
empty = refl

sixteen : is_script_name (codes "nw_s0_burnhand01") ≡ true
unfolding is_script_name
sixteen = refl

seventeen : is_script_name (codes "nw_s0_burnhand001") ≡ false
unfolding is_script_name
seventeen = refl

capital : is_script_name (codes "Beat") ≡ false
unfolding is_script_name
capital = refl
