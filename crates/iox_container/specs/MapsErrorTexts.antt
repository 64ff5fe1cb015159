-- The texts of a flat map's errors.
use Rattle.std.specs.Prelude.{ℕ, List, codes}
use Rattle.iox_container.specs.declared.flat_map.error.FlatMapError.{FlatMapError}
use Rattle.iox_container.specs.declared.flat_map.error.FlatMapError.TheVariants.{KeyAlreadyExists, IsFull}

-- The text of a flat map's error: the names of the type and of the variant.
abbrev pub flat_map_error_text : FlatMapError → List ℕ
flat_map_error_text KeyAlreadyExists = codes "FlatMapError::KeyAlreadyExists"
flat_map_error_text IsFull = codes "FlatMapError::IsFull"
