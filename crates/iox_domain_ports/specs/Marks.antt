-- Which values in the slots of a publisher are written.
use Rattle.std.specs.Prelude.{Bool, true, false, List, [], ◌∷◌, length, replicate}
use Rattle.iox_domain_ports.specs.declared.messages.marks.Marking.{Marking}
use Rattle.iox_domain_ports.specs.declared.messages.marks.Marking.TheVariants.{Unwritten, Written, EachMarked}

-- The marks of the values of one slot; `row` has those that are kept one by one.
abbrev pub marks_of : Marking → List Bool → List Bool
marks_of Unwritten row = replicate (length row) false
marks_of Written row = replicate (length row) true
marks_of EachMarked row = row

-- The marks of the values of all slots.
abbrev pub all_marks : List Marking → List (List Bool) → List (List Bool)
all_marks [] rows = rows
all_marks (marking ∷ markings) [] = []
all_marks (marking ∷ markings) (row ∷ rows) = marks_of marking row ∷ all_marks markings rows
