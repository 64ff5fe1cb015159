use Rattle.iox_lanes_threads_ports.proofs.Listing as lemmas
use Rattle.iox_lanes_threads_ports.proofs.laws.listed_words_stay.Goals as goal

pub returns : goal.returns
returns c = lemmas.listed_words_stay
