use Rattle.iox_container.proofs.Texts.{FindsLast-from_search}
use Rattle.iox_container.proofs.string.string_trait.String.rfind.Goals as goal

pub returns : goal.returns
returns g c = rw (← c.as_bytes.ensures.value) (FindsLast-from_search _ c.args.bytes.now c.rfind.result c.rfind.ensures)
