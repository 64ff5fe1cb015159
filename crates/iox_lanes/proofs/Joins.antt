-- Lanes that hold what a domain has go with it.
use Rattle.std.proofs.Common.{arith, ℕ, ◌≡◌, ◌+◌, ◌<◌, List, length, get_or, slice_get, Option, None, Some, option_map, refl, sym, ap, ◌∙◌}
use Rattle.std.proofs.Common.{Bool}
use Rattle.std.proofs.Common.{subst}
use Rattle.std.proofs.lemmas.Option.{slice_get-get_or}
use Rattle.iox_domain.specs.DomainValues.declared.backpressure.BackpressureDecision.{BackpressureDecision}
use Rattle.iox_domain.specs.DomainPorts.Publishers.{port_of}
use Rattle.iox_domain.specs.DomainPorts.declared.publisher_port.PublisherPort.{PublisherPort}
use Rattle.iox_domain.specs.declared.domain.Domain.{Domain}
use Rattle.iox_lanes_machine.specs.Fixed.{fixed_slots}
use Rattle.iox_lanes_machine.specs.LanesParties.Parties.{PublisherLaneState}
use Rattle.iox_lanes_machine.specs.World.{World}
use Rattle.iox_lanes_opening.specs.Refusals.{first_reason}
use Rattle.iox_lanes.specs.Holding.{port_if, IsLaneIf, LanesHold}
use Rattle.iox_lanes.specs.Joined.{HasSlotsIf, IsJoined, SenderJoins}
use Rattle.iox_lanes.specs.Sized.{AreSized}
use Rattle.iox_lanes.specs.Spelling.{Spelling}
use Rattle.iox_lanes.specs.Tied.{AreTies}
use Rattle.iox_lanes.proofs.Joint.{link_joins}
use Rattle.iox_lanes.proofs.Presence.{rested}
use Rattle.iox_lanes.proofs.Sound.{first_listed, fits, publishers_once, subscribers_once}

module _ {T U B D : Type 0} (decision : B → Option BackpressureDecision) (asks : D → Bool) (spelling : Spelling T U)
    (domain : Domain T U B D) (lanes : World) (publishers subscribers indices : List ℕ)
    (none : first_reason decision asks domain ≡ None)
    (sized : AreSized domain.state.ports.sizes (length publishers) (length subscribers) spelling.payload_count spelling.middle_count lanes)
    (hold : LanesHold spelling domain lanes publishers subscribers indices) where
  abbrev ports : List (ℕ × PublisherPort T U)
  ports = domain.state.ports.publishers

  slots_joined : (place number : ℕ) (port : Option (PublisherPort T U)) (lane : Option PublisherLaneState)
      → port_of number ports ≡ port → slice_get lanes.publishers place ≡ lane
      → IsLaneIf spelling lanes.table port lane → HasSlotsIf port (option_map fixed_slots lane)
  slots_joined place number None lane found there is = is
  slots_joined place number (Some port) None found there is = is
  slots_joined place number (Some port) (Some lane) found there is =
      let fit = fits decision asks domain none number port found in
      record {
        rested = rested decision asks domain number port none found;
        first = fit.first;
        slots = is.slots ∙ ap (λ n. n + port.sender.uses.size) fit.first ∙ omega arith;
        kept = sized.kept place lane there ∙ sym fit.kept;
      }

  sender_joins : (place : ℕ) → place < length publishers → SenderJoins ports lanes publishers place
  sender_joins place below =
      let listed = slice_get-get_or publishers place 0 below in
      record {
        slots = subst (λ at. HasSlotsIf (port_if ports at) (option_map fixed_slots (slice_get lanes.publishers place))) (sym listed)
            (slots_joined place (get_or publishers place 0) (port_of (get_or publishers place 0) ports)
            (slice_get lanes.publishers place) refl refl
            (subst (λ at. IsLaneIf spelling lanes.table (port_if ports at) (slice_get lanes.publishers place)) listed
            (hold.sending place below)));
        alone = first_listed publishers place (publishers_once decision asks domain none publishers hold.publishers) below;
      }

  pub are_joined : (places : ℕ) → 0 < places → AreTies domain.state.ports publishers subscribers indices
      → IsJoined spelling places lanes ports publishers (length subscribers) indices
  are_joined places some ties = record {
    some = some;
    payload = hold.payload;
    user_header = hold.user_header;
    publisher_count = hold.publisher_count;
    link_count = hold.link_count;
    index_count = ties.count;
    sending = sender_joins;
    linking = λ publisher below subscriber beneath.
        link_joins decision asks spelling domain lanes publishers subscribers indices none hold ties
        (subscribers_once decision asks domain none subscribers hold.subscribers) publisher subscriber below beneath;
  }
