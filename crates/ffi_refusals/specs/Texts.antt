-- The texts of the numbers that the exported functions return. Those of the refusals 1 to 5 are the texts of the
-- library's errors, and those of 6 and 7 are theirs without the place. Definitions only.
use Rattle.std.specs.Prelude.{ℕ, ◌-◌, List, ◌++◌, length, replicate, Option, Some, None, if◌then◌else◌, ◌==◌, codes}
use Rattle.ffi_floats.specs.Boundary.{wrong_length, none}
use Rattle.stream.specs.Stream.{bad_record_number, bad_record_text}
use Rattle.shape.specs.declared.ShapeError.TheVariants.{BeyondLimit, NegativeRadius, Inverted}
use Rattle.shape.specs.Refusal.{number_of, refusal_text}
use Rattle.calls.specs.Calls.{no_room_number, no_room_text}
use Rattle.reader.specs.Reading.{malformed_number, unread_after}
use Rattle.panel_file.specs.Panel.{broken_number, broken_text}

-- a verb, whichever, cannot be read
abbrev pub malformed_text : List ℕ
malformed_text = codes "a verb" ++ unread_after

abbrev pub wrong_length_text : List ℕ
wrong_length_text = codes "a slice does not have the length that the header gives"

abbrev pub none_text : List ℕ
none_text = codes "there is none: no point, no button or no such number"

-- by the number; 0 is no refusal
unfoldable pub text_of : ℕ → Option (List ℕ)
text_of n =
    if n == bad_record_number then Some bad_record_text
    else (if n == number_of BeyondLimit then Some (refusal_text BeyondLimit)
    else (if n == number_of NegativeRadius then Some (refusal_text NegativeRadius)
    else (if n == number_of Inverted then Some (refusal_text Inverted)
    else (if n == no_room_number then Some no_room_text
    else (if n == malformed_number then Some malformed_text
    else (if n == broken_number then Some broken_text
    else (if n == wrong_length then Some wrong_length_text
    else (if n == none then Some none_text
    else None))))))))

-- ---- what is left in the lent bytes, which are 64

abbrev pub room : ℕ
room = 64

-- the number that is returned, and the bytes
pub data TextLeft : Type 0 where
  text_left : ℕ → List ℕ → TextLeft

-- a text, then zeros to the end
abbrev pub padded : List ℕ → List ℕ
padded text = text ++ replicate (room - length text) 0

unfoldable pub told : Option (List ℕ) → List ℕ → TextLeft
told (Some text) bytes = text_left 0 (padded text)
told None bytes = text_left none bytes

-- the text of a number; the bytes keep what they had where there is none, or their length is another
unfoldable pub told_of : ℕ → List ℕ → TextLeft
told_of n bytes = if length bytes == room then told (text_of n) bytes else text_left wrong_length bytes
