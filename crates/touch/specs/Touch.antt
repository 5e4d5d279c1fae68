-- Which button of a panel file a touch goes to, counted from 0 over the button records. Definitions only.
use Rattle.std.specs.Prelude.{ℕ, suc, Bool, true, false, List, [], ◌∷◌, ◌++◌, map, length, drop, Option, Some, None, Result, Ok, Err, if◌then◌else◌, ◌==◌}
use Rattle.geometry.specs.declared.Point.{Point}
use Rattle.panel_file.specs.declared.Broken.{Broken}
use Rattle.panel_file.specs.declared.Button.{Button}
use Rattle.panel_file.specs.declared.Record.{Record}
use Rattle.panel_file.specs.Panel.{Answer, done, refused, broken, on_done, records_of, buttons_of, touches_of}
use Rattle.shape.specs.Refusal.{ShapeOutcome, new_of}
use Rattle.shape.specs.Refusal.{made as Made, refused as Refused}
use Rattle.containment.specs.Contains.{contains_of}

-- a button's shape, or the number of the cause that refuses it
unfoldable pub shape_of : Button → ShapeOutcome
shape_of b =
    new_of
    (record { min = b.min; max = b.max })
    (record {
      top_left = b.top_left;
      top_right = b.top_right;
      bottom_left = b.bottom_left;
      bottom_right = b.bottom_right;
    })

-- the shapes of a file's buttons, made or refused, in file order
unfoldable pub shapes_of : List Record → List ShapeOutcome
shapes_of rs = map shape_of (buttons_of rs)

-- a shape takes a touch that it contains; a refused one takes none
unfoldable pub takes : ShapeOutcome → Point → Bool
takes (Made s) p = contains_of s p
takes (Refused n) p = false

-- where a touch goes
pub data Place : Type 0 where
  button : ℕ → Place
  nowhere : Place

-- Where a touch goes at the button of index k, after what was found on top of it: a button on top keeps the touch. This
-- definition alone chooses among the buttons that take a touch.
unfoldable pub top_hit : Place → ℕ → Bool → Place
top_hit (button i) k b = button i
top_hit nowhere k true = button k
top_hit nowhere k false = nowhere

-- where a touch goes among the shapes from index k on: those behind a shape in file order lie on top of it
unfoldable pub place_from : Point → ℕ → List ShapeOutcome → Place
place_from p k [] = nowhere
place_from p k (s ∷ ss) = top_hit (place_from p (suc k) ss) k (takes s p)

-- where a touch goes among a file's records, wherever among them the touch stands
unfoldable pub place_among : List Record → Point → Place
place_among rs p = place_from p 0 (shapes_of rs)

unfoldable pub touch_of : List ℕ → Point → Answer Place
touch_of file p = on_done (λ rs. place_among rs p) (records_of file)

-- a button's index, or none, as a place
unfoldable pub place_of_index : Option ℕ → Place
place_of_index (Some i) = button i
place_of_index None = nowhere

-- what `touch` answers
unfoldable pub touch_answer : Result (Option ℕ) Broken → Answer Place
touch_answer (Ok found) = done (place_of_index found)
touch_answer (Err b) = broken b.offset

-- ---- all touches of a file at once

-- a place as a number of 32 bits: the button's index, or the largest such number
abbrev pub nowhere_code : ℕ
nowhere_code = 0xffff_ffff

unfoldable pub code_of : Place → ℕ
code_of (button i) = i
code_of nowhere = nowhere_code

unfoldable pub place_of : ℕ → Place
place_of n = if n == nowhere_code then nowhere else button n

-- what `touch_all` answers and what it leaves in the results
pub data ResultsLeft : Type 0 where
  results_left : Answer ℕ → List ℕ → ResultsLeft

-- the answers of `touch` for each touch of the file, in file order
unfoldable pub places_of : List Record → List ℕ
places_of rs = map (λ p. code_of (place_among rs p)) (touches_of rs)

-- The number of touches, and the results with their places in front. A refusal leaves the results as they were.
unfoldable pub results_left_of : List ℕ → Answer (List Record) → ResultsLeft
results_left_of results (done rs) =
    results_left (done (length (touches_of rs))) (places_of rs ++ drop (length (touches_of rs)) results)
results_left_of results (refused n o) = results_left (refused n o) results

unfoldable pub touch_all_of : List ℕ → List ℕ → ResultsLeft
touch_all_of file results = results_left_of results (records_of file)

-- what `touch_all` answers
unfoldable pub count_answer : Result ℕ Broken → Answer ℕ
count_answer (Ok n) = done n
count_answer (Err b) = broken b.offset
