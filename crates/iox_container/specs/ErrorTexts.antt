-- The texts of a vector's errors.
use Rattle.std.specs.Prelude.{ℕ, List, codes}
use Rattle.iox_container.specs.declared.vector.error.VectorModificationError.{VectorModificationError}
use Rattle.iox_container.specs.declared.vector.error.VectorModificationError.TheVariants.{InsertWouldExceedCapacity, OutOfBounds}
use Rattle.iox_container.specs.declared.vector.error.VectorModificationError.TheVariants.{OutOfMemory}

-- The text of a vector's error: the names of the type and of the variant.
abbrev pub vector_error_text : VectorModificationError → List ℕ
vector_error_text OutOfBounds = codes "VectorModificationError::OutOfBounds"
vector_error_text InsertWouldExceedCapacity = codes "VectorModificationError::InsertWouldExceedCapacity"
vector_error_text OutOfMemory = codes "VectorModificationError::OutOfMemory"
