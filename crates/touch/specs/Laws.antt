-- What is proved of where touches go, in words that say nothing of a search. Definitions only.
use Rattle.std.specs.Prelude.{◌≡◌, ℕ, ◌<◌, true, false, List, length, get_or}
use Rattle.geometry.specs.declared.Point.{Point}
use Rattle.panel_file.specs.declared.Record.{Record}
use Rattle.shape.specs.Refusal.{refused}
use Rattle.touch.specs.Touch.{button, nowhere, shapes_of, takes, place_among}

-- the shape of a file's button of index i takes the touch at p, or does not; none stands past the last button
abbrev pub Takes : List Record → Point → ℕ → Type 0
Takes rs p i = (i < length (shapes_of rs)) × (takes (get_or (shapes_of rs) i (refused 0)) p ≡ true)

abbrev pub Leaves : List Record → Point → ℕ → Type 0
Leaves rs p i = takes (get_or (shapes_of rs) i (refused 0)) p ≡ false

-- A touch that goes to a button goes to one that takes it, and no button behind that one in file order does.
abbrev pub GoesToTheLast : Type 0
GoesToTheLast = (rs : List Record) (p : Point) (i : ℕ) → place_among rs p ≡ button i
    → Takes rs p i × ((j : ℕ) → i < j → Leaves rs p j)

-- a touch that goes nowhere is taken by no button
abbrev pub GoesNowhereIfLeft : Type 0
GoesNowhereIfLeft = (rs : List Record) (p : Point) (i : ℕ) → place_among rs p ≡ nowhere → Leaves rs p i
