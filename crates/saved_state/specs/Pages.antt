-- How lists of cells are kept: as pieces of pages, which several lists may share. No public clause
-- speaks of it.
use Rattle.std.specs.Prelude.{◌≡◌, ℕ, ◌+◌, ◌<◌, ◌≤◌, List, [], ◌∷◌, ◌++◌, length, take, get_or}
use Rattle.saved_state.specs.declared.cell.Cell.{Cell}

-- how many cells a page has at most
abbrev pub page_limit : ℕ
page_limit = 64

-- a piece: its cells, and how many cells of the list lie beneath it
pub record Part : Type 0 where
  pub cells : List Cell
  pub start : ℕ

-- so many cells from the first one used are on the page, which isn't too long
pub record IsOnPage (first count : ℕ) (page : List Cell) : Type 0 where
  pub within : first + count ≤ length page
  pub small : length page ≤ page_limit

-- the list that pieces in a row stand for
abbrev pub flat : List Part → List Cell
flat [] = []
flat (part ∷ parts) = part.cells ++ flat parts

-- each piece knows how many cells lie beneath it, where so many lie beneath the first
abbrev pub AreStacked : ℕ → List Part → Type 0
AreStacked beneath [] = Unit {0}
AreStacked beneath (part ∷ parts) = (part.start ≡ beneath)
    × AreStacked (beneath + length part.cells) parts

-- the cell at a place of the list is in piece k
pub record IsInPiece (place k : ℕ) (parts : List Part) : Type 0 where
  pub inside : k < length parts
  pub beneath : length (flat (take k parts)) ≤ place
  pub above : place < length (flat (take (k + 1) parts))

-- the same with the number of the piece's cells beneath that one
pub record IsPlace (place k i : ℕ) (parts : List Part) : Type 0 where
  pub inside : k < length parts
  pub beneath : length (flat (take k parts)) + i ≡ place
  pub above : (part : Part) → part ≡ get_or parts k part → i < length part.cells

-- what is kept of a list of so many cells
pub record IsRow (len : ℕ) (parts : List Part) : Type 0 where
  pub stacked : AreStacked 0 parts
  pub count : length (flat parts) ≡ len

-- piece k is the last one, and a page has room for more than its cells
pub record IsTopWithRoom (k : ℕ) (parts : List Part) : Type 0 where
  pub last : k + 1 ≡ length parts
  pub room : (part : Part) → part ≡ get_or parts k part → length part.cells < page_limit

-- the last page has no room for more cells
abbrev pub IsFull : List Part → Type 0
IsFull parts = (k : ℕ) (part : Part) → k + 1 ≡ length parts → part ≡ get_or parts k part
    → page_limit ≤ length part.cells
