use Rattle.iox_container.proofs.Texts.{FindsFirst-from_search}
use Rattle.iox_container.proofs.string.string_trait.String.find.Goals as goal

pub returns : goal.returns
returns g c = rw (← c.as_bytes.ensures.value) (FindsFirst-from_search _ c.args.bytes.now c.find.result c.find.ensures)
