-- What a load returns of a word that its port has loaded before.
use Rattle.std.specs.Prelude.{ℕ, ◌≡◌, slice_get, Some}
use Rattle.iox_lanes_machine.specs.LanesBase.declared.words.word.SharedWord.{SharedWord}
use Rattle.iox_lanes_threads_rule.specs.Acts.{StandsAt}
use Rattle.iox_lanes_threads_rule.specs.Lanes.{IsEarly, as_table}
use Rattle.iox_lanes_threads_rule.specs.Rule.{held}
use Rattle.iox_lanes_threads_rule.specs.declared.view.Port.{Port}

-- A load of a word that a port's view lists as loaded finds what the view knows of it, if no write position was 2^64 - 1.
abbrev pub LoadsGiveTheKnown : Type 0
LoadsGiveTheKnown = (p : Port) (w : SharedWord) (found place : ℕ) (moment : StandsAt p w found)
    → IsEarly (as_table p.service moment.words) → slice_get p.seen place ≡ Some w
    → held p.service p.known w ≡ found
