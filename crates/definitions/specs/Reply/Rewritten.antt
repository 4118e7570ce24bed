-- Document 02, job 1, "a case rewritten with numbers": a site or picks without labels.
use Rattle.std.specs.Prelude.{◌||◌, List, [], ◌∷◌, map, if◌then◌else◌}
use Rattle.std.proofs.Math.Option.{none}
use Rattle.definitions.specs.Lists.{Text, same, option, flat_map}
use Rattle.definitions.specs.Sheet.Text.{bytes, decimal, Line, lines, fields}
use Rattle.definitions.specs.Sheet.Sheets.{element, Label, element_of}
use Rattle.definitions.specs.Reply.Desk.{is_record, print_line}

-- an element field with the number of the element that it means; what means none stays
unfoldable pub field_in_numbers : List Label → Text → Text
field_in_numbers labels f = option (option (element f) none (element_of labels)) f decimal

-- a line's fields: in `member`, `fact` and `pick` lines those after the name are elements
unfoldable pub fields_in_numbers : List Label → List Text → List Text
fields_in_numbers labels [] = []
fields_in_numbers labels (w ∷ []) = w ∷ []
fields_in_numbers labels (w ∷ name ∷ fs) = w ∷ name ∷ (if same w (bytes "member") || same w (bytes "fact") || same w (bytes "pick") then map (field_in_numbers labels) fs else fs)

-- a line, and a text of ended lines; `label` lines are left out
unfoldable pub line_in_numbers : List Label → Line → Text
line_in_numbers labels l = if is_record (bytes "label") (fields l) then [] else print_line (fields_in_numbers labels (fields l))

unfoldable pub in_numbers : List Label → Text → Text
in_numbers labels text = flat_map (line_in_numbers labels) (lines text)
