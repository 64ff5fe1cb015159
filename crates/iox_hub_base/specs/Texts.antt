-- What errors display as.
use Rattle.std.specs.Prelude.{ℕ, List, codes}
use Rattle.iox_hub_base.specs.declared.taking.TakeError.{TakeError}
use Rattle.iox_hub_base.specs.declared.taking.TakeError.TheVariants.{DomainIsOut}

-- The text of a `TakeError`: the type's name, `::` and the variant.
abbrev pub take_text : TakeError → List ℕ
take_text DomainIsOut = codes "TakeError::DomainIsOut"

-- The text of a `DomainIsForeign`: the type's name.
abbrev pub foreign_text : List ℕ
foreign_text = codes "DomainIsForeign"
