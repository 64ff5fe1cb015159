-- The texts of a string's errors.
use Rattle.std.specs.Prelude.{ℕ, List, codes}
use Rattle.iox_container.specs.declared.string.error.StringModificationError.{StringModificationError}
use Rattle.iox_container.specs.declared.string.error.StringModificationError.TheVariants.{InsertWouldExceedCapacity, InvalidCharacter}

-- The text of a string's error: the names of the type and of the variant.
abbrev pub string_error_text : StringModificationError → List ℕ
string_error_text InsertWouldExceedCapacity = codes "StringModificationError::InsertWouldExceedCapacity"
string_error_text InvalidCharacter = codes "StringModificationError::InvalidCharacter"
