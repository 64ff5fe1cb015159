use Rattle.std.proofs.Common.{codes, arith, refl}
use Rattle.iox_domain.proofs.Names.{are_bytes}
use Rattle.iox_domain.proofs.settings.custom.CustomHeaderMarkerZeroCopySend.type_detail.Goals as goal

pub unwrap-requires : goal.unwrap-requires
unwrap-requires c = c.new.ensures.accepted.1 ((omega arith, omega arith, are_bytes (codes "CustomHeaderMarker") refl), omega arith)
