use Rattle.iox_lanes_sound.proofs.Sound as lemmas
use Rattle.iox_lanes_sound.proofs.standing_ports_are_sound.Goals as goal

pub returns : goal.returns
returns g c = lemmas.standing_ports_are_sound
