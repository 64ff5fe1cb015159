-- The text of the error of closing a factory: the name of the type, `::` and the variant.
use Rattle.std.specs.Prelude.{ℕ, List, ◌++◌, codes}
use Rattle.iox_negotiate_base.specs.declared.errors.close.CloseError.{CloseError}
use Rattle.iox_negotiate_base.specs.declared.errors.close.CloseError.TheVariants as closing

-- The name of the variant.
abbrev pub close_name : CloseError → List ℕ
close_name closing.NotThisStorage = codes "NotThisStorage"
close_name closing.UnableToRemoveDescription = codes "UnableToRemoveDescription"
close_name closing.UnableToRemoveSegment = codes "UnableToRemoveSegment"
close_name closing.StillInUse = codes "StillInUse"

-- The text of the error: the name of the type, `::` and the variant.
abbrev pub close_text : CloseError → List ℕ
close_text error = codes "CloseError::" ++ close_name error
