use Rattle.std.specs.Prelude.{ℕ, ◌+◌, ◌==◌, List, take, count_by}

-- the number of the line in which the place stands, counted from 1: one more than the newlines
-- before it
unfoldable pub line_number : List ℕ → ℕ → ℕ
line_number bytes at = 1 + count_by (λ b. b == 10) (take at bytes)
