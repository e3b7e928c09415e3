-- A name fits a text.
use Rattle.std.proofs.Common.{◌≡◌, ◌≤◌, ℕ, List, length, take, arith}
use Rattle.std.proofs.lemmas.List as lists
use Rattle.nwq_value.specs.Limits.{name_limit, text_limit}

pub take_name : (xs : List ℕ) → length xs ≤ name_limit → take text_limit xs ≡ xs
take_name xs h = lists.take_all text_limit xs (omega arith)
