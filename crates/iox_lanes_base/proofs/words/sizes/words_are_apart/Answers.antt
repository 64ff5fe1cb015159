use Rattle.iox_lanes_base.proofs.Numbering as numbering
use Rattle.iox_lanes_base.proofs.words.sizes.words_are_apart.Goals as goal

pub returns : goal.returns
returns c = numbering.apart
