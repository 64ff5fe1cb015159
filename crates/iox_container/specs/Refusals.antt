-- The texts of a semantic string's errors, and which of them an error of the underlying string becomes.
use Rattle.std.specs.Prelude.{ℕ, List, codes}
use Rattle.iox_container.specs.declared.string.error.StringModificationError.{StringModificationError}
use Rattle.iox_container.specs.declared.string.error.StringModificationError.TheVariants as changing
use Rattle.iox_container.specs.declared.semantic_strings.error.SemanticStringError.{SemanticStringError}
use Rattle.iox_container.specs.declared.semantic_strings.error.SemanticStringError.TheVariants.{InvalidContent, ExceedsMaximumLength}

-- The text of a semantic string's error: the names of the type and of the variant.
abbrev pub error_text : SemanticStringError → List ℕ
error_text InvalidContent = codes "SemanticStringError::InvalidContent"
error_text ExceedsMaximumLength = codes "SemanticStringError::ExceedsMaximumLength"

-- The error of a semantic string for an error of the underlying string.
abbrev pub refusal_of : StringModificationError → SemanticStringError
refusal_of changing.InsertWouldExceedCapacity = ExceedsMaximumLength
refusal_of changing.InvalidCharacter = InvalidContent
