-- One access of a port to the words that threads share: when it may be made, what it reports, and what the port knows afterwards.
use Rattle.std.specs.Prelude.{ℕ, ◌≡◌, ◌<◌, ◌≤◌, ◌^◌, List, [], ◌∷◌, set}
use mathlib.Core.Option.{some}
use lib.ListN.{get_elem?}
use Rattle.atomic_table.specs.Table.{State, Me, Step}
use Rattle.iox_lanes_parties.specs.LanesBase.Numbers.{number_of, IsWord}
use Rattle.iox_lanes_parties.specs.LanesBase.declared.words.access.SharedAccess.{SharedAccess}
use Rattle.iox_lanes_parties.specs.LanesBase.declared.words.access.SharedAccess.TheVariants.{Load, Store, Exchange, Local}
use Rattle.iox_lanes_parties.specs.LanesBase.declared.words.word.SharedWord.{SharedWord}
use Rattle.iox_lanes_parties.specs.Keeping.{new_subscriber}
use Rattle.iox_lanes_parties.specs.declared.call.CallName.TheVariants as name
use Rattle.iox_lanes_parties.specs.declared.call.Party.TheVariants.{Publisher}
use Rattle.iox_lanes_threads_rule.specs.Lanes.{IsBacked}
use Rattle.iox_lanes_threads_rule.specs.Rule.{held, Fits, Ruled, one}
use Rattle.iox_lanes_threads_rule.specs.Steps.{saw, learned, known_exchanged, Told, MayStore, MayExchange}
use Rattle.iox_lanes_threads_rule.specs.declared.service.Service.{Service}
use Rattle.iox_lanes_threads_rule.specs.declared.view.Port.{Port}
use Rattle.iox_lanes_threads_rule.specs.declared.view.PortParty.{PortParty}
use Rattle.iox_lanes_threads_rule.specs.declared.view.PortParty.TheVariants as party
use Rattle.iox_lanes_threads_rule.specs.declared.view.View.{View}

-- Words and ports of some service fit, and, as long as no write position is 2^64 - 1, they are those of some lanes.
abbrev pub FitSome : List ℕ → List Port → Type 0
FitSome words ports = (s : Service) × Fits s words ports × IsBacked s words ports

-- The rule of the words, as threads keep it.
abbrev pub Holds : State ℕ View → Type 0
Holds state = Ruled FitSome state

-- A service without ports and words.
abbrev pub no_service : Service
no_service = record {
  sizes = record { connections = 0; submission_cells = 0; completion_cells = 0; slots = 0; user_header_words = 0; payload_words = 0 };
  lines = [];
  ranges = [];
}

-- A party that fills the place of a party where there is none.
abbrev pub no_party : PortParty
no_party = party.Subscriber (record {
  port = new_subscriber [] 0 (record { user_header_words = 0; payload_words = 0 }) 0 0;
  call = name.Receive;
  first = 0;
})

-- A port that fills the place of a port where there is none.
abbrev pub no_port : Port
no_port = record { number = 0; name = Publisher 0; service = no_service; known = []; accesses = 0; party = no_party; seen = [] }

-- The first of these ports; `no_port` if there is none.
abbrev pub first_port : List Port → Port
first_port [] = no_port
first_port (p ∷ ps) = p

-- The port of a seat that has one.
abbrev pub port_of : Me ℕ View → Port
port_of me = first_port me.0.ports

-- A seat with one port.
abbrev pub single : Port → Me ℕ View
single p = (one p, [])

-- The port may make the access.
abbrev pub MayAct : Port → SharedAccess → Type 0
MayAct p (Load w) = IsWord p.service.sizes w
MayAct p (Store w new) = MayStore p.service p w new
MayAct p (Exchange w old new) = MayExchange p.service p w old new
MayAct p Local = Unit {0}

-- A moment at which the port loads the word and finds this value: words and ports fit, and, as long as no write position is 2^64 - 1, they
-- are those of some lanes. The port is one of these ports, and the word has the value.
pub record StandsAt (p : Port) (w : SharedWord) (found : ℕ) : Type 0 where
  pub words : List ℕ
  pub ports : List Port
  pub fit : Fits p.service words ports
  pub backed : IsBacked p.service words ports
  pub there : get_elem? ports p.number ≡ some p
  pub holds : held p.service words w ≡ found

-- What the answer of an access reports; stores and local steps are answered 0.
abbrev pub ToldBy : Port → SharedAccess → ℕ → Type 0
ToldBy p (Load w) answer = Told p.service p w answer × StandsAt p w answer
ToldBy p (Store w new) answer = answer ≡ 0
ToldBy p (Exchange w old new) answer = (answer < 2 ^ 64) × (held p.service p.known w ≤ answer)
ToldBy p Local answer = answer ≡ 0

-- The port after an access; what a local step changes becomes known with the port's next access.
abbrev pub stepped : Port → SharedAccess → ℕ → (ℕ → PortParty) → Port
stepped p (Load w) answer after = learned (saw p w) (set p.known (number_of p.service.sizes w) answer) (after answer)
stepped p (Store w new) answer after = learned p (set p.known (number_of p.service.sizes w) new) (after answer)
stepped p (Exchange w old new) answer after
    = learned p (known_exchanged p.name p.known (number_of p.service.sizes w) old new answer) (after answer)
stepped p Local answer after = p

-- What a load of the word with this number reports to a seat that had only this port before. A second report of the same load adds nothing.
abbrev pub loaded : Port → (ℕ → PortParty) → Step ℕ → Me ℕ View → ℕ → Me ℕ View → Type 0
loaded p after step before found me = (before ≡ single p)
    × ((w : SharedWord) → IsWord p.service.sizes w → number_of p.service.sizes w ≡ step.word
    → (me ≡ single (learned (saw p w) (set p.known step.word found) (after found))) × Told p.service p w found × StandsAt p w found)

-- What a store reports to a seat that had only this port before.
abbrev pub stored : Port → (ℕ → PortParty) → Step ℕ → Me ℕ View → ℕ → Me ℕ View → Type 0
stored p after step before found me = (before ≡ single p) × (me ≡ single (learned p (set p.known step.word step.first) (after 0)))

-- What an exchange reports to a seat that had only this port before.
abbrev pub exchanged : Port → (ℕ → PortParty) → Step ℕ → Me ℕ View → ℕ → Me ℕ View → Type 0
exchanged p after step before found me
    = (before ≡ single p) × (me ≡ single (learned p (known_exchanged p.name p.known step.word step.first step.second found) (after found)))
    × (found < 2 ^ 64)
    × ((w : SharedWord) → IsWord p.service.sizes w → number_of p.service.sizes w ≡ step.word → held p.service p.known w ≤ found)
