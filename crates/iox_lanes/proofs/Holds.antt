-- Lanes that are built of a domain hold what it has.
use Rattle.std.proofs.Common.{ℕ, ◌≡◌, List, None, Option, Bool}
use Rattle.iox_domain.specs.DomainValues.declared.backpressure.BackpressureDecision.{BackpressureDecision}
use Rattle.iox_domain.specs.declared.domain.Domain.{Domain}
use Rattle.iox_lanes_machine.specs.World.{World}
use Rattle.iox_lanes_opening.specs.Refusals.{first_reason}
use Rattle.iox_lanes.specs.Built.{AreBuilt}
use Rattle.iox_lanes.specs.Holding.{numbers_of, LanesHold}
use Rattle.iox_lanes.specs.Spelling.{Spelling}
use Rattle.iox_lanes.specs.Tied.{AreTies}
use Rattle.iox_lanes.proofs.Counting.{are_counted, leads_at}
use Rattle.iox_lanes.proofs.Histories.{links_wait, senders_keep}
use Rattle.iox_lanes.proofs.Readers.{reader_holds}
use Rattle.iox_lanes.proofs.Tied.{are_tied}
use Rattle.iox_lanes.proofs.Whole.{link_whole, sender_whole}

pub lanes_hold : {T U B D : Type 0} (decision : B → Option BackpressureDecision) (asks : D → Bool) (spelling : Spelling T U)
    (domain : Domain T U B D) (publishers subscribers indices : List ℕ) (lanes : World)
    → AreBuilt decision spelling domain publishers subscribers lanes
    → first_reason decision asks domain ≡ None → publishers ≡ numbers_of (λ entry. entry.publisher) domain.state.ports.publisher_list.places
    → subscribers ≡ numbers_of (λ entry. entry.subscriber) domain.state.ports.subscriber_list.places
    → AreTies domain.state.ports publishers subscribers indices
    → LanesHold spelling domain lanes publishers subscribers indices
lanes_hold decision asks spelling domain publishers subscribers indices lanes built none numbered read ties =
    let counted = are_counted _ _ _ _ _ _ built.sized in
    record {
      moments = counted.moments;
      payload = counted.payload;
      user_header = counted.user_header;
      publishers = numbered;
      subscribers = read;
      publisher_count = counted.publisher_count;
      subscriber_count = counted.subscriber_count;
      link_count = counted.link_count;
      sending = λ place below. sender_whole decision asks spelling domain publishers subscribers lanes built
          none place (senders_keep decision asks spelling domain publishers subscribers lanes built none numbered read place below);
      linking = λ publisher subscriber below beneath.
          link_whole decision asks spelling domain publishers subscribers lanes built none indices publisher subscriber beneath read
          (links_wait decision asks spelling domain publishers subscribers lanes built none numbered read indices ties publisher subscriber
          below beneath)
          (leads_at _ _ _ _ _ _ built.sized publisher subscriber beneath)
          (are_tied decision asks domain none publishers subscribers indices numbered ties publisher subscriber beneath);
      receiving = λ place below.
          reader_holds decision asks spelling domain publishers subscribers lanes built built.sized none numbered read place below;
    }
