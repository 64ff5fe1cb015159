-- A service that is roomy is so after each call.
use Rattle.std.proofs.Common.{arith, ◌≡◌, ◌≢◌, ◌∙◌, ◌+◌, ◌-◌, ◌≤◌, ◌<◌, ◌⊎◌, ◌∷◌, [], ℕ, zero, suc, Bool, true, false, not, List, get_or}
use Rattle.std.proofs.Common.{set, replicate, Option, None, Some, Result, Ok, Err, if◌then◌else◌, refl, sym, ap, subst, inl, inr}
use Rattle.std.proofs.lemmas.Bool.{cases_eq}
use Rattle.std.proofs.lemmas.List.{get_or-set_other, get_or-set_same}
use Rattle.std.proofs.lemmas.List.Elements.{All-nil}
use Rattle.std.specs.Cmp.{nat_cmp_is}
use Rattle.std.specs.List.{All}
use Rattle.std.specs.Map.{keys_of, remove_entry}
use Rattle.std.specs.Ordering.{is_eq}
use Rattle.std.specs.declared.alloc.AllocError.{AllocError}
use Rattle.std.specs.declared.cmp.Ordering.TheVariants.{Equal}
use Rattle.iox_domain.specs.Container.declared.container.Member.{Member}
use Rattle.iox_domain.specs.Calls.{PortCall, PublisherComes, SubscriberComes, Lends, Writes, GivesLoanUp, PublisherUpdates, Sends}
use Rattle.iox_domain.specs.Calls.{Retries, GivesSendUp, PublisherLeaves, SubscriberUpdates, AsksForSamples, Receives, Releases}
use Rattle.iox_domain.specs.Calls.{SubscriberLeaves, Happens}
use Rattle.iox_domain.specs.Lending.{LoansOne}
use Rattle.iox_domain.specs.Container.SlotTable.{value_at}
use Rattle.iox_domain.specs.Making.{slots_needed, publisher_place, subscriber_place, identity_of, sender_config, AddsPublisher}
use Rattle.iox_domain.specs.Making.{sequence_before, CreatesPublisher, CreatesSubscriber}
use Rattle.iox_domain.specs.Ports.{no_ports, AtPublisher, AtSubscriber, with_publisher, with_both}
use Rattle.iox_domain.specs.PortsPublishing.{is_free}
use Rattle.iox_domain.specs.PortsPublishing as publishing
use Rattle.iox_domain.specs.Rolls.{left, entered}
use Rattle.iox_domain.specs.Subscribers as members
use Rattle.iox_domain.specs.Subscribers.{subscriber_of, with_subscriber, subscriber_added, is_over_in}
use Rattle.iox_domain.specs.PortsSubscribing as subscribing
use Rattle.iox_domain.specs.declared.ports.making.PublisherConfig.{PublisherConfig}
use Rattle.iox_domain.specs.declared.ports.service_ports.ServicePorts.{ServicePorts}
use Rattle.iox_domain.specs.DomainPorts.Leaving.{new_port, departed}
use Rattle.iox_domain.specs.DomainPorts.Ports.{detached_at}
use Rattle.iox_domain.specs.DomainPorts.Writing.{changed_if, given_up}
use Rattle.iox_domain.specs.DomainPorts.declared.publisher_port.PublisherPort.{PublisherPort}
use Rattle.iox_domain.specs.DomainPorts.declared.subscriber_entry.SubscriberEntry.{SubscriberEntry}
use Rattle.iox_domain.specs.DomainPorts.Arriving.{new_subscriber}
use Rattle.iox_domain.specs.DomainPorts.Publishers as publishers
use Rattle.iox_domain.specs.DomainPorts.Publishers.{port_of, with_port, changed, settled, stands_in, connection_in}
use Rattle.iox_domain.specs.DomainPorts.Reading.{place_of}
use Rattle.iox_domain.specs.DomainPorts.Receiving.{left_at, left_all}
use Rattle.iox_domain.specs.DomainPorts.Subscribing.{ended_ports}
use Rattle.iox_domain.specs.DomainPorts.declared.attached.Attached.{Attached}
use Rattle.iox_domain.specs.DomainPorts.declared.attached.Taken.{Taken}
use Rattle.iox_domain.specs.DomainPorts.declared.publisher_entry.PublisherEntry.{PublisherEntry}
use Rattle.iox_domain.specs.DomainPorts.declared.subscriber_port.SubscriberPort.{SubscriberPort}
use Rattle.iox_domain.specs.DomainValues.Sizes.{buffer_of}
use Rattle.iox_domain.specs.DomainValues.declared.backpressure.BackpressureDecision.{BackpressureDecision}
use Rattle.iox_domain.specs.DomainValues.declared.backpressure.BackpressureInfo.{BackpressureInfo}
use Rattle.iox_domain.specs.DomainValues.declared.connection_failure.ConnectionFailure.{ConnectionFailure}
use Rattle.iox_domain.specs.DomainValues.declared.create_error.PublisherCreateError.{PublisherCreateError}
use Rattle.iox_domain.specs.DomainValues.declared.create_error.SubscriberCreateError.{SubscriberCreateError}
use Rattle.iox_domain.specs.DomainValues.declared.degradation.DegradationAction.{DegradationAction}
use Rattle.iox_domain.specs.DomainValues.declared.degradation.DegradationInfo.{DegradationInfo}
use Rattle.iox_domain.specs.DomainValues.declared.port_error.ReceiveError.{ReceiveError}
use Rattle.iox_domain.specs.DomainValues.declared.port_owner.PortOwner.{PortOwner}
use Rattle.iox_domain.specs.DomainValues.declared.service_sizes.ServiceSizes.{ServiceSizes}
use Rattle.iox_domain.specs.PortLawsLaws.{IsTiedWell, IsSoundEntry}
use Rattle.iox_domain.specs.NumberLaws.{IsNumbered, NumbersStay}
use Rattle.iox_domain.specs.Tries.{how_often}
use Rattle.iox_domain.proofs.PortLawsApart.{stays_apart, new_apart, new_well}
use Rattle.iox_domain.proofs.Carrying.{carry_loans, carry_changed, carry_given_up, carry_retries, carry_gives_up}
use Rattle.iox_domain.proofs.GivenOut.{numbers_stay}
use Rattle.iox_domain.proofs.Held.{held_stays}
use Rattle.iox_domain.proofs.Keyed.{keys_stay}
use Rattle.iox_domain.proofs.Keys.{adds_same, adds_other}
use Rattle.iox_domain.proofs.ListKeeps.{number_found}
use Rattle.iox_domain.proofs.Numbered.{at_number, number_is, found_of_all, other_came, all_then, all_gone}
use Rattle.iox_domain.proofs.Roomy.{well_of}
use Rattle.iox_domain.proofs.Sized.{sizes_agree}
use Rattle.iox_domain.proofs.TiedWell.{Alike}
use Rattle.iox_domain.specs.Roomy.{IsListOnce, IsReadBy, IsAttached, LeadsOn, LeadsOnEntry, ReadsApart, ReadsApartEntry, AreRoomy}
use Rattle.iox_domain.proofs.Attached.{Reads, Done, done_updates, done_receives}
use Rattle.iox_domain.proofs.Entries.{all_set_once, all_came_at, often_set, often_gone, often_came, none_below}
use Rattle.iox_domain.proofs.Listed.{entered_cases, free_none, left_other, left_less, list_left, list_entered, list_later, nobody_listed}
use Rattle.iox_domain.proofs.Listed.{list_new}
use Rattle.iox_domain.proofs.Listening.{Listens, listens_alike, listens_updates_one, listens_sends_one, lead_updates}
use Rattle.iox_domain.proofs.Naming.{reads_same}
use Rattle.iox_domain.proofs.Reading.{alike_carries, read_alike, lead_alike, attached_changed, leads_changed, read_departed}
use Rattle.iox_domain.proofs.Reading.{lead_departed, attached_with, attached_settled, leads_found, leads_with, leads_settled}
use Rattle.iox_domain.proofs.Reading.{attached_ended, leads_ended, attached_detached, leads_detached, attached_released, leads_released}

-- What the law of a roomy service adds to the other laws.
record Stays {T U : Type 0} (ports : ServicePorts T U) : Type 0 where
  list : IsListOnce ports.next_port ports.publisher_list.places
  lead : All LeadsOnEntry ports.publishers
  once : (number : ℕ) → how_often number (keys_of ports.subscribers) ≤ 1
  apart : All (ReadsApartEntry ports) ports.subscribers

stays_same : {T U : Type 0} (old new : ServicePorts T U) → new ≡ old → AreRoomy old → Stays new
stays_same {T} {U} old new is roomy
    = subst (λ (one : ServicePorts T U). Stays one) (sym is)
    (record { list = roomy.list; lead = roomy.lead; once = roomy.once; apart = roomy.apart })

stays_to : {T U : Type 0} (new other : ServicePorts T U) → new ≡ other → Stays other → Stays new
stays_to {T} {U} new other is stays = subst (λ (one : ServicePorts T U). Stays one) (sym is) stays

-- What sees to it that a subscriber reads apart still: it is listed where it was, reads where it did, and no publisher is listed
-- at another place.
record Around {T U : Type 0} (old new : ServicePorts T U) (number : ℕ) (port : SubscriberPort) : Type 0 where
  listed : (member : Member SubscriberEntry) → get_or old.subscriber_list.places port.place None ≡ Some member
      → member.value.subscriber ≡ number → get_or new.subscriber_list.places port.place None ≡ Some member
  attached : (one : Attached) → IsAttached number one old.publishers → IsAttached number one new.publishers
  placed : (place : ℕ) (member : Member PublisherEntry) → get_or new.publisher_list.places place None ≡ Some member
      → (get_or old.publisher_list.places place None ≡ Some member)
      ⊎ ((one : Attached) → IsAttached number one old.publishers → one.publisher ≢ member.value.publisher)

reads_on : {T U : Type 0} (old new : ServicePorts T U) (number : ℕ) (port : SubscriberPort) → Around old new number port
    → ReadsApart old number port → ReadsApart new number port
reads_on old new number port around reads = record {
  named = reads.named;
  listed = (reads.listed.0, around.listed reads.listed.0 reads.listed.1 reads.listed.2, reads.listed.2);
  reads = λ key attached is. around.attached attached (reads.reads key attached is);
  apart = reads.apart;
  placed = λ key place attached member is listed same. elim (around.placed place member listed) [
    | inl before ↦ reads.placed key place attached member is before same
    | inr none ↦ absurd (none attached (reads.reads key attached is) same)
  ];
}

all_on : {T U : Type 0} (old new : ServicePorts T U) (entries : List (ℕ × SubscriberPort))
    → ((number : ℕ) (port : SubscriberPort) → ReadsApart old number port → Around old new number port)
    → All (ReadsApartEntry old) entries → All (ReadsApartEntry new) entries
all_on old new entries around all = all_then (ReadsApartEntry old) (ReadsApartEntry new) entries
    (λ one entry stands. reads_on old new one.0 one.1 (around one.0 one.1 (entry stands)) (entry stands)) all

-- a step of a publisher
kept_listening : {T U : Type 0} (places : List (Option (Member SubscriberEntry))) (number subscriber at : ℕ)
    (member : Member SubscriberEntry) (ports : List (ℕ × PublisherPort T U)) (port after : PublisherPort T U) (attached : Attached)
    → port_of number ports ≡ Some port
    → Listens places port after → get_or places at None ≡ Some member → member.value.subscriber ≡ subscriber
    → IsAttached subscriber attached ports → IsAttached subscriber attached (settled number (with_port number ports after))
kept_listening places number subscriber at member ports port after attached there listens listed named reads =
    attached_settled subscriber attached number (with_port number ports after)
    (attached_with subscriber attached number ports port after there
    (λ same was. subst (λ n. IsReadBy n attached.index after) named
    (listens.reads at member listed attached.index (subst (λ n. IsReadBy n attached.index port) (sym named) was))) reads)

stepped : {T U : Type 0} (number : ℕ) (port after : PublisherPort T U) (old : ServicePorts T U)
    → port_of number old.publishers ≡ Some port → Listens old.subscriber_list.places port after → AreRoomy old
    → Stays (with_publisher number after old)
stepped number port after old there listens roomy = record {
  list = roomy.list;
  lead = leads_settled number (with_port number old.publishers after)
      (leads_with number old.publishers after (listens.lead (leads_found number old.publishers port roomy.lead there)) roomy.lead);
  once = roomy.once;
  apart = all_on old (with_publisher number after old) old.subscribers (λ subscriber one reads. record {
    listed = λ member is named. is;
    attached = λ attached was. kept_listening old.subscriber_list.places number subscriber one.place reads.listed.0 old.publishers port
        after attached there listens reads.listed.1 reads.listed.2 was;
    placed = λ place member is. inl is;
  }) roomy.apart;
}

by_publisher : {T U A : Type 0} (number : ℕ) (step : PublisherPort T U → Option A → PublisherPort T U → Type 0)
    (found : Option (PublisherPort T U)) (old new : ServicePorts T U) (answer : Option A)
    → ((port after : PublisherPort T U) (answer : Option A) → port_of number old.publishers ≡ Some port → step port answer after
    → Listens old.subscriber_list.places port after) → port_of number old.publishers ≡ found → AreRoomy old
    → AtPublisher number step found old answer new → Stays new
by_publisher number step None old new answer listens there roomy happens = stays_same old new happens.1 roomy
by_publisher number step (Some port) old new None listens there roomy happens = stays_same old new happens.2 roomy
by_publisher number step (Some port) old new (Some value) listens there roomy (after, one, is) =
    stays_to new (with_publisher number after old) is
    (stepped number port after old there (listens port after (Some value) there one) roomy)

listens_departed : {T U : Type 0} (places : List (Option (Member SubscriberEntry))) (port : PublisherPort T U)
    → Listens places port (departed port)
listens_departed places port = record
    { reads = λ at member is index. read_departed member.value.subscriber index port; lead = lead_departed port }

publisher_leaves : {T U : Type 0} (number : ℕ) (found : Option (PublisherPort T U)) (old new : ServicePorts T U) (answer : Bool)
    → port_of number old.publishers ≡ found → AreRoomy old → publishing.LeavesAt number found old answer new → Stays new
publisher_leaves number None old new answer there roomy leaves = stays_same old new leaves.1 roomy
publisher_leaves {T} {U} number (Some port) old new answer there roomy leaves = at (is_free port) leaves
  where
    at : (free : Bool) → publishing.LeavesPortIf free number port old answer new → Stays new
    at false leaves = stays_same old new leaves.1 roomy
    at true leaves =
        let between : ServicePorts T U = with_publisher number (departed port) old in
        let after : ServicePorts T U = record between { publisher_list = left port.place old.publisher_list } in
        let one = stepped number port (departed port) old there (listens_departed old.subscriber_list.places port) roomy in
        stays_to new after leaves.1 (record {
          list = list_left old.next_port port.place old.publisher_list roomy.list;
          lead = one.lead;
          once = one.once;
          apart = all_on between after old.subscribers (λ subscriber one reads. record {
            listed = λ member is named. is;
            attached = λ attached was. was;
            placed = λ place member is. inl (left_less port.place place old.publisher_list member is);
          }) one.apart;
        })

-- the publishers changed, and each subscriber reads on
listed_stays : {T U : Type 0} (old : ServicePorts T U) (publishers : List (ℕ × PublisherPort T U)) → All LeadsOnEntry publishers
    → ((subscriber : ℕ) (attached : Attached) → IsAttached subscriber attached old.publishers
    → IsAttached subscriber attached publishers) → AreRoomy old
    → Stays (record old { publishers = publishers })
listed_stays old publishers lead reads roomy = record {
  list = roomy.list;
  lead = lead;
  once = roomy.once;
  apart = all_on old (record old { publishers = publishers }) old.subscribers (λ subscriber one was. record {
    listed = λ member is named. is;
    attached = λ attached read. reads subscriber attached read;
    placed = λ place member is. inl is;
  }) roomy.apart;
}

-- a publisher comes
attached_below : {T U : Type 0} (next subscriber : ℕ) (attached : Attached) (ports : List (ℕ × PublisherPort T U))
    → All (IsSoundEntry next) ports → IsAttached subscriber attached ports → attached.publisher < next
attached_below next subscriber attached ports sound (port, there, reads) = number_found next attached.publisher ports port sound there

publisher_comes : {T U : Type 0} (overrides : ℕ → ℕ → Type 0) (may : DegradationInfo → DegradationAction → Type 0)
    (config : PublisherConfig) (user_header : U) (needed place : Option ℕ) (old new : ServicePorts T U)
    (answer : Result ℕ PublisherCreateError)
    → AreRoomy old → CreatesPublisher overrides may config user_header needed place old answer new → Stays new
publisher_comes overrides may config user_header None place old new answer roomy creates = stays_same old new creates.1 roomy
publisher_comes overrides may config user_header (Some needed) None old new answer roomy creates = stays_same old new creates.1 roomy
publisher_comes {T} {U} overrides may config user_header (Some needed) (Some place) old new answer roomy creates
    = adds _ creates.2 creates.3
  where
    adds : (slots : ℕ) (outcome : Result ℕ AllocError) → AddsPublisher may config user_header place slots old outcome new → Stays new
    adds slots (Err error) step = stays_same old new step roomy
    adds slots (Ok number) (listed, is_list, outcome, port, updates, is_number, is_new) =
        let first : PublisherPort T U = new_port (identity_of config.owner place old) old.sizes.max_subscribers config.allocation
        config.unit (sequence_before config old) (sender_config config slots old) user_header in
        let well : IsTiedWell old.next_port old.subscriber_list.places first
        = new_well old.next_port old.subscriber_list.places first refl refl refl (omega (arith, roomy.tied.places)) in
        let lead : LeadsOn port = lead_updates old.next_port old.subscriber_list may listed first port outcome roomy.tied.list is_list
        well updates in
        let came : Member PublisherEntry = record
        { number = old.publisher_list.changes + 1; owner = 1; value = record { publisher = old.next_port } } in
        let after : ServicePorts T U = record old {
          next_port = old.next_port + 1;
          publisher_list = entered place (record { publisher = old.next_port }) old.publisher_list;
          publishers = publishers.added old.next_port port old.publishers;
        } in
        stays_to new after is_new (record {
          list = list_entered old.next_port place old.publisher_list.places came refl roomy.list;
          lead = all_came_at LeadsOnEntry old.next_port old.publishers port lead roomy.lead;
          once = roomy.once;
          apart = all_on old after old.subscribers (λ subscriber one was. record {
            listed = λ member is named. is;
            attached = λ attached (found, there, reads).
                let below = number_found old.next_port attached.publisher old.publishers found roomy.sound there in (
                  found,
                  other_came old.next_port attached.publisher old.publishers port (λ same. absurd (omega (arith, same, below))) ∙
                      there,
                  reads,
                );
            placed = λ at member is. elim (entered_cases old.publisher_list.places place at came member is) [
              | inl here ↦ inr (λ attached reads same.
                  absurd (omega (
                    arith,
                    attached_below old.next_port subscriber attached old.publishers roomy.sound reads,
                    same,
                    ap
                        (λ (m : Member PublisherEntry). m.value.publisher) here.1,
                  )))
              | inr elsewhere ↦ inl elsewhere.1
            ];
          }) roomy.apart;
        })

-- The effect of a call of a subscriber: each other subscriber still reads, and it reads at connections of its own if it exists.
record Followed {T U : Type 0} (number : ℕ) (old : ServicePorts T U) (port after : SubscriberPort)
    (ports_after : List (ℕ × PublisherPort T U)) : Type 0 where
  lead : All LeadsOnEntry ports_after
  others : (other : ℕ) (attached : Attached) → other ≢ number → IsAttached other attached old.publishers
      → IsAttached other attached ports_after
  own : after.stands ≡ true → Reads number old.publisher_list.places after ports_after × (after.place ≡ port.place) × (port.stands ≡ true)

own_number : (number : ℕ) → at_number number number ≡ true
own_number number = ap is_eq (sym (nat_cmp_is number number Equal refl))

pub entry_found : {T U : Type 0} (number : ℕ) (port : SubscriberPort) (old : ServicePorts T U)
    → subscriber_of number old.subscribers ≡ Some port → AreRoomy old → ReadsApartEntry old (number, port)
entry_found number port old there roomy =
    let found = found_of_all (ReadsApartEntry old) (at_number number) old.subscribers port roomy.apart there in
    subst (λ n. ReadsApartEntry old (n, port)) (sym (number_is number found.key found.passes)) found.holds

reads_of : {T U : Type 0} (number : ℕ) (port : SubscriberPort) (old : ServicePorts T U) → AreRoomy old → ReadsApart old number port
    → Reads number old.publisher_list.places port old.publishers
reads_of number port old roomy reads
    = record { named = reads.named; lead = roomy.lead; reads = reads.reads; apart = reads.apart; placed = reads.placed }

served : {T U : Type 0} (number : ℕ) (port after : SubscriberPort) (ports_after : List (ℕ × PublisherPort T U)) (old : ServicePorts T U)
    → subscriber_of number old.subscribers ≡ Some port → Followed number old port after ports_after → AreRoomy old
    → Stays (with_both number after ports_after old)
served {T} {U} number port after ports_after old there followed roomy =
    let new : ServicePorts T U = with_both number after ports_after old in
    record {
      list = roomy.list;
      lead = followed.lead;
      once = λ one. omega (arith, roomy.once one, often_set one (at_number number) old.subscribers after);
      apart = all_set_once (ReadsApartEntry old) (ReadsApartEntry new) number old.subscribers after (own_number number) (roomy.once number)
          (λ stands.
          let now = followed.own stands in
          let entry = entry_found number port old there roomy now.2 in
          record {
            named = now.0.named;
            listed = (entry.listed.0, ap (λ place. get_or old.subscriber_list.places place None) now.1 ∙ entry.listed.1, entry.listed.2);
            reads = now.0.reads;
            apart = now.0.apart;
            placed = now.0.placed;
          })
          (λ key one not entry stands. reads_on old new key one (record {
            listed = λ member is named. is;
            attached = λ attached was. followed.others key attached not was;
            placed = λ place member is. inl is;
          }) (entry stands)) roomy.apart;
    }

by_subscriber : {T U A : Type 0} (number : ℕ)
    (step : SubscriberPort → List (ℕ × PublisherPort T U) → Option A → SubscriberPort → List (ℕ × PublisherPort T U) → Type 0)
    (found : Option SubscriberPort) (old new : ServicePorts T U) (answer : Option A)
    → ((port after : SubscriberPort) (ports_after : List (ℕ × PublisherPort T U)) (answer : Option A)
    → subscriber_of number old.subscribers ≡ Some port → step port old.publishers answer after ports_after
    → Followed number old port after ports_after)
    → subscriber_of number old.subscribers ≡ found → AreRoomy old → AtSubscriber number step found old answer new → Stays new
by_subscriber number step None old new answer follows there roomy happens = stays_same old new happens.1 roomy
by_subscriber number step (Some port) old new None follows there roomy happens = stays_same old new happens.3 roomy
by_subscriber number step (Some port) old new (Some value) follows there roomy (after, ports_after, one, is) =
    stays_to new (with_both number after ports_after old) is
    (served number port after ports_after old there (follows port after ports_after (Some value) there one) roomy)

-- one that left does nothing
followed_left : {T U : Type 0} (number : ℕ) (old : ServicePorts T U) (port after : SubscriberPort)
    (ports_after : List (ℕ × PublisherPort T U)) → AreRoomy old → port.stands ≡ false → after ≡ port → ports_after ≡ old.publishers
    → Followed number old port after ports_after
followed_left number old port after ports_after roomy left is are = rw are (record {
  lead = roomy.lead;
  others = λ other attached not reads. reads;
  own = λ stands. let no : true ≡ false = sym stands ∙ ap (λ one. one.stands) is ∙ left in absurd (cc);
})

followed_done : {T U : Type 0} (number : ℕ) (old : ServicePorts T U) (port after : SubscriberPort)
    (ports_after : List (ℕ × PublisherPort T U)) → port.stands ≡ true
    → Done number old.publisher_list.places port old.publishers after ports_after
    → Followed number old port after ports_after
followed_done number old port after ports_after stands done
    = record { lead = done.state.lead; others = done.others; own = λ on. (done.state, done.place, stands) }

update_follows : {T U : Type 0} (stands : Bool) (number : ℕ) (may : DegradationInfo → DegradationAction → Type 0)
    (old : ServicePorts T U) (port after : SubscriberPort) (ports_after : List (ℕ × PublisherPort T U))
    (answer : Option (Result (Unit {0}) ConnectionFailure))
    → port.stands ≡ stands → subscriber_of number old.subscribers ≡ Some port → AreRoomy old
    → subscribing.UpdatesIf stands may old.publisher_list port old.publishers answer after ports_after
    → Followed number old port after ports_after
update_follows false number may old port after ports_after answer stands there roomy updates
    = followed_left number old port after ports_after roomy stands updates.1 updates.2
update_follows true number may old port after ports_after answer stands there roomy (listed, is_list, outcome, updates, is) =
    followed_done number old port after ports_after stands
    (done_updates number old.next_port old.publisher_list may listed port after old.publishers ports_after outcome roomy.list is_list
    updates (reads_of number port old roomy (entry_found number port old there roomy stands)))

has_follows : {T U : Type 0} (stands : Bool) (number : ℕ) (may : DegradationInfo → DegradationAction → Type 0) (old : ServicePorts T U)
    (port after : SubscriberPort) (ports_after : List (ℕ × PublisherPort T U)) (answer : Option (Result Bool ConnectionFailure))
    → port.stands ≡ stands → subscriber_of number old.subscribers ≡ Some port → AreRoomy old
    → subscribing.HasSamplesIf stands may old.publisher_list port old.publishers answer after ports_after
    → Followed number old port after ports_after
has_follows false number may old port after ports_after answer stands there roomy has
    = followed_left number old port after ports_after roomy stands has.1 has.2
has_follows true number may old port after ports_after answer stands there roomy (listed, is_list, outcome, has, is) =
    followed_done number old port after ports_after stands
    (done_updates number old.next_port old.publisher_list may listed port after old.publishers ports_after has.0 roomy.list is_list
    has.1 (reads_of number port old roomy (entry_found number port old there roomy stands)))

followed_counted : {T U : Type 0} (number : ℕ) (old : ServicePorts T U) (outcome : Result (Option Taken) ReceiveError)
    (port received : SubscriberPort) (ports_after : List (ℕ × PublisherPort T U)) → Followed number old port received ports_after
    → Followed number old port (subscribing.counted_by outcome received) ports_after
followed_counted number old (Ok (Some taken)) port received ports_after followed = record {
  lead = followed.lead;
  others = followed.others;
  own = λ stands.
      let now = followed.own stands in
      (record { named = now.0.named; lead = now.0.lead; reads = now.0.reads; apart = now.0.apart; placed = now.0.placed }, now.1, now.2);
}
followed_counted number old (Ok None) port received ports_after followed = followed
followed_counted number old (Err error) port received ports_after followed = followed

receive_follows : {T U : Type 0} (stands : Bool) (number : ℕ) (may : DegradationInfo → DegradationAction → Type 0)
    (old : ServicePorts T U) (port after : SubscriberPort) (ports_after : List (ℕ × PublisherPort T U))
    (answer : Option (Result (Option Taken) ReceiveError))
    → port.stands ≡ stands → subscriber_of number old.subscribers ≡ Some port → AreRoomy old
    → subscribing.ReceivesIf stands may old.publisher_list port old.publishers answer after ports_after
    → Followed number old port after ports_after
receive_follows false number may old port after ports_after answer stands there roomy receives
    = followed_left number old port after ports_after roomy stands receives.1 receives.2
receive_follows true number may old port after ports_after answer stands there roomy
    (listed, is_list, outcome, received, receives, is_after, is) =
    let done = done_receives number old.next_port old.publisher_list may listed port received old.publishers ports_after outcome
    roomy.list is_list receives (reads_of number port old roomy (entry_found number port old there roomy stands)) in
    rw is_after (followed_counted number old outcome port received ports_after
    (followed_done number old port received ports_after stands done))

-- a subscriber comes
no_values : (n key : ℕ) (attached : Attached) → value_at (replicate n None) key ≡ Some attached → ⊥
no_values n key attached is = nobody_listed n key attached is

subscriber_comes : {T U : Type 0} (may : DegradationInfo → DegradationAction → Type 0) (owner : PortOwner)
    (buffer_size : Result ℕ SubscriberCreateError) (found : Option ℕ) (old new : ServicePorts T U) (answer : Result ℕ SubscriberCreateError)
    → subscriber_place old ≡ found → AreRoomy old → CreatesSubscriber may owner buffer_size found old answer new → Stays new
subscriber_comes may owner (Err refusal) found old new answer is_place roomy creates = stays_same old new creates.1 roomy
subscriber_comes may owner (Ok buffer_size) None old new answer is_place roomy creates = stays_same old new creates.1 roomy
subscriber_comes may owner (Ok buffer_size) (Some place) old new answer is_place roomy (Err error, step, is_answer)
    = stays_same old new step roomy
subscriber_comes {T} {U} may owner (Ok buffer_size) (Some place) old new answer is_place roomy
    (Ok number, (between, (listed, is_list, outcome, after, ports_after, updates, followed), is_number, is_new), is_answer) =
    let next : ℕ = old.next_port in
    let first : SubscriberPort = new_subscriber (identity_of owner place old) buffer_size old.sizes.max_publishers
    old.sizes.expired_connections in
    let n : ℕ = old.sizes.max_publishers + old.sizes.expired_connections in
    let inserted : List (ℕ × SubscriberPort) = subscriber_added next first old.subscribers in
    let came : Member SubscriberEntry = record
    { number = old.subscriber_list.changes + 1; owner = 1; value = record { subscriber = next; buffer_size = buffer_size } } in
    let last : ServicePorts T U = record (with_both next after ports_after (record old { subscribers = inserted })) {
      next_port = next + 1;
      subscriber_list = entered place (record { subscriber = next; buffer_size = buffer_size }) old.subscriber_list;
    } in
    let begun : Reads next old.publisher_list.places first old.publishers = record {
      named = refl;
      lead = roomy.lead;
      reads = λ key attached is. absurd (no_values n key attached is);
      apart = λ key other one two is. absurd (no_values n key one is);
      placed = λ key at attached member is. absurd (no_values n key attached is);
    } in
    let done = done_updates next next old.publisher_list may listed first after old.publishers ports_after outcome roomy.list is_list
    updates begun in
    let free = free_none old.subscriber_list old place is_place in
    let none = none_below next (keys_of old.subscribers) roomy.numbered.1 in
    let R : ℕ × SubscriberPort → Type 0 = λ one. one.0 ≢ next → ReadsApartEntry old one in
    let all : All R inserted = all_came_at R next old.subscribers first (λ not. absurd (not refl))
    (all_then (ReadsApartEntry old) R old.subscribers (λ one entry not. entry) roomy.apart) in
    let once : (one : ℕ) → how_often one (keys_of inserted) ≤ 1 = λ one. elim (cases_eq one next) [
      | inl same ↦ omega (
        arith,
        often_came one next old.subscribers first,
        adds_same one next same,
        ap
            (λ k. how_often k (keys_of old.subscribers)) same,
        none,
      )
      | inr not ↦ omega (arith, often_came one next old.subscribers first, adds_other one next not, roomy.once one)
    ] in
    stays_to new last
    (is_new ∙ ap (λ (one : ServicePorts T U). record one {
      next_port = next + 1;
      subscriber_list
          = entered place (record { subscriber = next; buffer_size = buffer_size }) old.subscriber_list;
    }) followed) (record {
      list = list_later next old.publisher_list.places roomy.list;
      lead = done.state.lead;
      once = λ one. omega (arith, once one, often_set one (at_number next) inserted after);
      apart = all_set_once R (ReadsApartEntry last) next inserted after (own_number next) (once next)
          (λ stands. record {
            named = done.state.named;
            listed = (
              came,
              ap (λ at. get_or (set old.subscriber_list.places place (Some came)) at None) done.place ∙ get_or-set_same
                  old.subscriber_list.places place (Some came) None free.0,
              refl,
            );
            reads = done.state.reads;
            apart = done.state.apart;
            placed = done.state.placed;
          })
          (λ key one not entry stands. reads_on old last key one (record {
            listed = λ member is named.
                get_or-set_other old.subscriber_list.places place one.place (Some came) None
                (λ same. let no : None ≡ Some member
                = sym free.1 ∙ ap (λ at. get_or old.subscriber_list.places at None) (sym same) ∙ is in cc) ∙ is;
            attached = λ attached was. done.others key attached not was;
            placed = λ at member is. inl is;
          }) (entry not stands)) all;
    })

-- a subscriber leaves
left_one : {T U : Type 0} (stands : Bool) (other : ℕ) (attached gone : Attached) (ports : List (ℕ × PublisherPort T U))
    → attached ≢ gone → IsAttached other attached ports
    → IsAttached other attached (if stands then changed gone.publisher (detached_at gone.index) ports else ended_ports (Some gone) ports)
left_one true other attached gone ports not reads = attached_detached other attached gone ports not reads
left_one false other attached gone ports not reads = attached_ended other attached gone ports not reads

lead_one : {T U : Type 0} (stands : Bool) (gone : Attached) (ports : List (ℕ × PublisherPort T U)) → All LeadsOnEntry ports
    → All LeadsOnEntry (if stands then changed gone.publisher (detached_at gone.index) ports else ended_ports (Some gone) ports)
lead_one true gone ports lead = leads_detached gone ports lead
lead_one false gone ports lead = leads_ended gone ports lead

left_kept : {T U : Type 0} (other : ℕ) (attached : Attached) (found : Option Attached) (ports : List (ℕ × PublisherPort T U))
    → ((gone : Attached) → found ≡ Some gone → attached ≢ gone) → IsAttached other attached ports
    → IsAttached other attached (left_at found ports)
left_kept other attached None ports not reads = reads
left_kept other attached (Some gone) ports not reads
    = left_one (stands_in gone.publisher ports) other attached gone ports (not gone refl) reads

left_leads : {T U : Type 0} (found : Option Attached) (ports : List (ℕ × PublisherPort T U)) → All LeadsOnEntry ports
    → All LeadsOnEntry (left_at found ports)
left_leads None ports lead = lead
left_leads (Some gone) ports lead = lead_one (stands_in gone.publisher ports) gone ports lead

all_kept : {T U : Type 0} (other : ℕ) (attached : Attached) (values : List (Option Attached)) (ports : List (ℕ × PublisherPort T U))
    → ((key : ℕ) (gone : Attached) → value_at values key ≡ Some gone → attached ≢ gone) → IsAttached other attached ports
    → IsAttached other attached (left_all values ports)
all_kept other attached [] ports not reads = reads
all_kept other attached (x ∷ xs) ports not reads
    = all_kept other attached xs (left_at x ports) (λ key gone is. not (suc key) gone is)
    (left_kept other attached x ports (λ gone is. not zero gone is) reads)

all_lead : {T U : Type 0} (values : List (Option Attached)) (ports : List (ℕ × PublisherPort T U)) → All LeadsOnEntry ports
    → All LeadsOnEntry (left_all values ports)
all_lead [] ports lead = lead
all_lead (x ∷ xs) ports lead = all_lead xs (left_at x ports) (left_leads x ports lead)

gone_all : {X : Type 0} (P : ℕ × X → Type 0) (over : Bool) (test : ℕ → Bool) (entries : List (ℕ × X)) → All P entries
    → All P (if over then remove_entry test entries else entries)
gone_all P true test entries all = all_gone P test entries all
gone_all P false test entries all = all

subscriber_leaves : {T U : Type 0} (number : ℕ) (found : Option SubscriberPort) (old new : ServicePorts T U) (answer : Bool)
    → subscriber_of number old.subscribers ≡ found → AreRoomy old → subscribing.LeavesAt number found old answer new → Stays new
subscriber_leaves number None old new answer there roomy leaves = stays_same old new leaves.1 roomy
subscriber_leaves {T} {U} number (Some port) old new answer there roomy leaves = at port.stands refl leaves
  where
    at : (stands : Bool) → port.stands ≡ stands → subscribing.LeavesPortIf stands number port old answer new → Stays new
    at false stands leaves = stays_same old new leaves.1 roomy
    at true stands leaves =
        let entry = entry_found number port old there roomy stands in
        let after : SubscriberPort = record port { stands = false } in
        let ports_after : List (ℕ × PublisherPort T U) = left_all port.connections.values old.publishers in
        let subscribers : List (ℕ × SubscriberPort) = with_subscriber number old.subscribers after in
        let over : Bool = is_over_in number subscribers in
        let last : ServicePorts T U
        = record old {
          subscribers = members.settled number subscribers;
          publishers = ports_after;
          subscriber_list
              = left port.place old.subscriber_list;
        } in
        stays_to new last leaves.1 (record {
          list = roomy.list;
          lead = all_lead port.connections.values old.publishers roomy.lead;
          once = λ one. omega (
            arith,
            roomy.once one,
            often_set one (at_number number) old.subscribers after,
            often_gone one over
                (at_number number) subscribers,
          );
          apart = gone_all (ReadsApartEntry last) over (at_number number) subscribers
              (all_set_once (ReadsApartEntry old) (ReadsApartEntry last) number old.subscribers after (own_number number)
              (roomy.once number)
              (λ on. let no : false ≡ true = on in absurd (cc))
              (λ key one not was on.
              let reads = was on in
              reads_on old last key one (record {
                listed = λ member is named.
                    left_other port.place one.place old.subscriber_list (λ same.
                    let both : Some member ≡ Some entry.listed.0
                    = sym is ∙ ap (λ place. get_or old.subscriber_list.places place None) same ∙ entry.listed.1 in
                    let own : member ≡ entry.listed.0 = cc in
                    not (sym named ∙ ap (λ (m : Member SubscriberEntry). m.value.subscriber) own ∙ entry.listed.2)) ∙ is;
                attached = λ attached was. all_kept key attached port.connections.values old.publishers
                    (λ at gone is same. not (reads_same key number gone old.publishers
                    (subst (λ a. IsAttached key a old.publishers) same was) (entry.reads at gone is))) was;
                placed = λ place member is. inl is;
              }) reads) roomy.apart);
        })

-- a sample is released
let_go_stays : {T U : Type 0} (number : ℕ) (found : Option SubscriberPort) (old : ServicePorts T U)
    (ports_after : List (ℕ × PublisherPort T U)) → subscriber_of number old.subscribers ≡ found → All LeadsOnEntry ports_after
    → ((subscriber : ℕ) (attached : Attached) → IsAttached subscriber attached old.publishers
    → IsAttached subscriber attached ports_after) → AreRoomy old
    → Stays (record old {
      publishers = ports_after;
      subscribers
          = members.settled number (subscribing.let_go_at number found old.subscribers);
    })
let_go_stays {T} {U} number None old ports_after there lead reads roomy =
    let over : Bool = is_over_in number old.subscribers in
    let last : ServicePorts T U = record old { publishers = ports_after; subscribers = members.settled number old.subscribers } in
    let one = listed_stays old ports_after lead reads roomy in
    record {
      list = roomy.list;
      lead = lead;
      once = λ n. omega (arith, roomy.once n, often_gone n over (at_number number) old.subscribers);
      apart = gone_all (ReadsApartEntry last) over (at_number number) old.subscribers
          (all_on (record old { publishers = ports_after }) last old.subscribers (λ n port was. same_around n port) one.apart);
    }
  where
    same_around : (n : ℕ) (port : SubscriberPort)
        → Around (record old { publishers = ports_after })
        (record old { publishers = ports_after; subscribers = members.settled number old.subscribers }) n port
    same_around n port = record { listed = λ member is named. is; attached = λ attached was. was; placed = λ place member is. inl is }
let_go_stays {T} {U} number (Some port) old ports_after there lead reads roomy =
    let after : SubscriberPort = record port { held = port.held - 1 } in
    let subscribers : List (ℕ × SubscriberPort) = with_subscriber number old.subscribers after in
    let over : Bool = is_over_in number subscribers in
    let last : ServicePorts T U = record old { publishers = ports_after; subscribers = members.settled number subscribers } in
    let around : (n : ℕ) (one : SubscriberPort)
    → Around old last n one = λ n one. record
    { listed = λ member is named. is; attached = λ attached was. reads n attached was; placed = λ place member is. inl is } in
    record {
      list = roomy.list;
      lead = lead;
      once = λ n. omega (
        arith,
        roomy.once n,
        often_set n (at_number number) old.subscribers after,
        often_gone n over (at_number number)
            subscribers,
      );
      apart = gone_all (ReadsApartEntry last) over (at_number number) subscribers
          (all_set_once (ReadsApartEntry old) (ReadsApartEntry last) number old.subscribers after (own_number number) (roomy.once number)
          (λ stands.
          let now = reads_on old last number port (around number port) (entry_found number port old there roomy stands) in
          record { named = now.named; listed = now.listed; reads = now.reads; apart = now.apart; placed = now.placed })
          (λ key one not was stands. reads_on old last key one (around key one) (was stands)) roomy.apart);
    }

released_at : {T U : Type 0} (number : ℕ) (sample : Taken) (place : Option ℕ) (old new : ServicePorts T U) (answer : Bool)
    → AreRoomy old → subscribing.ReleasesAt number sample place old answer new → Stays new
released_at number sample None old new answer roomy releases = stays_same old new releases.1 roomy
released_at number sample (Some at) old new answer roomy releases =
    stays_to new _ releases.1
    (let_go_stays number (subscriber_of number old.subscribers) old
    (publishers.released sample.publisher sample.index (Some at) old.publishers) refl
    (leads_released sample.publisher sample.index at old.publishers roomy.lead)
    (λ subscriber attached reads. attached_released subscriber attached sample.publisher sample.index at old.publishers reads) roomy)

released_of : {T U : Type 0} (found : Option SubscriberPort) (number : ℕ) (sample : Taken) (old new : ServicePorts T U) (answer : Bool)
    → AreRoomy old → subscribing.ReleasesOf found number sample old answer new → Stays new
released_of None number sample old new answer roomy releases = stays_same old new releases.1 roomy
released_of (Some port) number sample old new answer roomy releases
    = released_at number sample (place_of sample.slot (connection_in sample.publisher sample.index old.publishers)) old new answer roomy
    releases

-- a loan is written, or given up
alike_stays : {T U : Type 0} (number : ℕ) (step : PublisherPort T U → PublisherPort T U) (old : ServicePorts T U)
    → ((port : PublisherPort T U) → Alike port (step port)) → AreRoomy old
    → Stays (record old { publishers = changed number step old.publishers })
alike_stays number step old alike roomy =
    listed_stays old (changed number step old.publishers)
    (leads_changed number step (port_of number old.publishers) old.publishers refl
    (λ port. lead_alike port (step port) (alike port)) roomy.lead)
    (λ subscriber attached reads. attached_changed subscriber attached number step (port_of number old.publishers) old.publishers refl
    (λ port same. read_alike subscriber attached.index port (step port) (alike port)) reads) roomy

settled_stays : {T U : Type 0} (number : ℕ) (step : PublisherPort T U → PublisherPort T U) (old : ServicePorts T U)
    → ((port : PublisherPort T U) → Alike port (step port)) → AreRoomy old
    → Stays (record old { publishers = settled number (changed number step old.publishers) })
settled_stays number step old alike roomy =
    listed_stays old (settled number (changed number step old.publishers))
    (leads_settled number (changed number step old.publishers)
    (leads_changed number step (port_of number old.publishers) old.publishers refl
    (λ port. lead_alike port (step port) (alike port)) roomy.lead))
    (λ subscriber attached reads. attached_settled subscriber attached number (changed number step old.publishers)
    (attached_changed subscriber attached number step (port_of number old.publishers) old.publishers refl
    (λ port same. read_alike subscriber attached.index port (step port) (alike port)) reads)) roomy

calls_stay : {T U : Type 0} (overrides : ℕ → ℕ → Type 0) (may : DegradationInfo → DegradationAction → Type 0)
    (decide : BackpressureInfo → BackpressureDecision → Type 0) (call : PortCall T U) (old new : ServicePorts T U)
    → Happens overrides may decide call old new
    → AreRoomy old → Stays new
calls_stay overrides may decide (PublisherComes config user_header answer) old new happens roomy
    = publisher_comes overrides may config user_header (slots_needed config old) (publisher_place old) old new answer roomy happens
calls_stay overrides may decide (SubscriberComes owner buffer_size answer) old new happens roomy
    = subscriber_comes may owner (buffer_of buffer_size old.sizes) (subscriber_place old) old new answer refl roomy happens
calls_stay overrides may decide (Lends number values elements answer) old new happens roomy =
    by_publisher number (LoansOne values elements) (port_of number old.publishers) old new answer
    (λ port after answer there loans. listens_alike old.subscriber_list.places port after
    (carry_loans alike_carries values elements port after answer loans)) refl roomy happens
calls_stay overrides may decide (Writes number slot test change) old new happens roomy =
    stays_to new _ happens (alike_stays number (λ port. changed_if (test port) slot change port) old
    (λ port. carry_changed alike_carries (test port) slot change port) roomy)
calls_stay overrides may decide (GivesLoanUp number slot) old new happens roomy
    = stays_to new _ happens (settled_stays number (given_up slot) old (λ port. carry_given_up alike_carries slot port) roomy)
calls_stay overrides may decide (PublisherUpdates number answer) old new happens roomy =
    by_publisher number (publishing.UpdatesOne may old.subscriber_list) (port_of number old.publishers) old new answer
    (λ port after answer there updates. listens_updates_one old.next_port old.subscriber_list may port after answer roomy.tied.list
    (well_of old number port roomy.tied there) updates) refl roomy happens
calls_stay overrides may decide (Sends number slot answer) old new happens roomy =
    by_publisher number (publishing.SendsOne may decide old.subscriber_list slot) (port_of number old.publishers) old new answer
    (λ port after answer there sends. listens_sends_one old.next_port old.subscriber_list may decide slot port after answer
    roomy.tied.list (well_of old number port roomy.tied there) sends) refl roomy happens
calls_stay overrides may decide (Retries number elapsed answer) old new happens roomy =
    by_publisher number (publishing.RetriesOne decide elapsed) (port_of number old.publishers) old new answer
    (λ port after answer there retries. listens_alike old.subscriber_list.places port after
    (carry_retries alike_carries decide elapsed port after answer retries)) refl roomy happens
calls_stay overrides may decide (GivesSendUp number answer) old new happens roomy =
    by_publisher number publishing.GivesUpOne (port_of number old.publishers) old new answer
    (λ port after answer there gives. listens_alike old.subscriber_list.places port after
    (carry_gives_up alike_carries port after answer gives)) refl roomy happens
calls_stay overrides may decide (PublisherLeaves number answer) old new happens roomy
    = publisher_leaves number (port_of number old.publishers) old new answer refl roomy happens
calls_stay overrides may decide (SubscriberUpdates number answer) old new happens roomy =
    by_subscriber number (subscribing.UpdatesOne may old.publisher_list) (subscriber_of number old.subscribers) old new answer
    (λ port after ports_after answer there updates. update_follows port.stands number may old port after ports_after answer refl there
    roomy updates) refl roomy happens
calls_stay overrides may decide (AsksForSamples number answer) old new happens roomy =
    by_subscriber number (subscribing.HasSamplesOne may old.publisher_list) (subscriber_of number old.subscribers) old new answer
    (λ port after ports_after answer there has. has_follows port.stands number may old port after ports_after answer refl there roomy
    has) refl roomy happens
calls_stay overrides may decide (Receives number answer) old new happens roomy =
    by_subscriber number (subscribing.ReceivesOne may old.publisher_list) (subscriber_of number old.subscribers) old new answer
    (λ port after ports_after answer there receives. receive_follows port.stands number may old port after ports_after answer refl there
    roomy receives) refl roomy happens
calls_stay overrides may decide (Releases number sample answer) old new happens roomy
    = released_of (subscribing.taker_of number sample old.subscribers) number sample old new answer roomy happens
calls_stay overrides may decide (SubscriberLeaves number answer) old new happens roomy
    = subscriber_leaves number (subscriber_of number old.subscribers) old new answer refl roomy happens

-- each number that was given out stays below the next
calls_numbered : {T U : Type 0} (overrides : ℕ → ℕ → Type 0) (may : DegradationInfo → DegradationAction → Type 0)
    (decide : BackpressureInfo → BackpressureDecision → Type 0) → NumbersStay T U overrides may decide
    → (call : PortCall T U) (old new : ServicePorts T U)
    → Happens overrides may decide call old new → IsNumbered old → IsNumbered new
calls_numbered overrides may decide law (PublisherComes config user_header answer) old new happens numbered
    = law.create_publisher config user_header (slots_needed config old) (publisher_place old) old new answer numbered happens
calls_numbered overrides may decide law (SubscriberComes owner buffer_size answer) old new happens numbered
    = law.create_subscriber owner (buffer_of buffer_size old.sizes) (subscriber_place old) old new answer numbered happens
calls_numbered overrides may decide law (Lends number values elements answer) old new happens numbered
    = law.loan number values elements old new answer numbered happens
calls_numbered {T} {U} overrides may decide law (Writes number slot test change) old new happens numbered
    = subst (λ (one : ServicePorts T U). IsNumbered one) (sym happens) (law.write number slot test change old numbered)
calls_numbered {T} {U} overrides may decide law (GivesLoanUp number slot) old new happens numbered
    = subst (λ (one : ServicePorts T U). IsNumbered one) (sym happens) (law.drop_loan number slot old numbered)
calls_numbered overrides may decide law (PublisherUpdates number answer) old new happens numbered
    = law.update_publisher number old new answer numbered happens
calls_numbered overrides may decide law (Sends number slot answer) old new happens numbered
    = law.send number slot old new answer numbered happens
calls_numbered overrides may decide law (Retries number elapsed answer) old new happens numbered
    = law.retry number elapsed old new answer numbered happens
calls_numbered overrides may decide law (GivesSendUp number answer) old new happens numbered
    = law.give_up number old new answer numbered happens
calls_numbered overrides may decide law (PublisherLeaves number answer) old new happens numbered
    = law.leave_publisher number old new answer numbered happens
calls_numbered overrides may decide law (SubscriberUpdates number answer) old new happens numbered
    = law.update_subscriber number old new answer numbered happens
calls_numbered overrides may decide law (AsksForSamples number answer) old new happens numbered
    = law.has_samples number old new answer numbered happens
calls_numbered overrides may decide law (Receives number answer) old new happens numbered
    = law.receive number old new answer numbered happens
calls_numbered overrides may decide law (Releases number sample answer) old new happens numbered
    = law.release number sample old new answer numbered happens
calls_numbered overrides may decide law (SubscriberLeaves number answer) old new happens numbered
    = law.leave_subscriber number old new answer numbered happens

pub stay_roomy : {T U : Type 0} (overrides : ℕ → ℕ → Type 0) (may : DegradationInfo → DegradationAction → Type 0)
    (decide : BackpressureInfo → BackpressureDecision → Type 0) (call : PortCall T U) (old new : ServicePorts T U)
    → Happens overrides may decide call old new
    → AreRoomy old → AreRoomy new
stay_roomy {T} {U} overrides may decide call old new happens roomy =
    let stays = calls_stay overrides may decide call old new happens roomy in
    record {
      sound = (held_stays {T = T} {U = U} overrides may decide).goes_on call old new happens roomy.sound;
      allowed = (sizes_agree {T = T} {U = U} overrides may decide).goes_on call old new happens roomy.allowed;
      keyed = (keys_stay {T = T} {U = U} overrides may decide).goes_on call old new happens roomy.keyed;
      tied = stays_apart overrides may decide call old new happens roomy.tied;
      list = stays.list;
      lead = stays.lead;
      once = stays.once;
      numbered = calls_numbered overrides may decide (numbers_stay overrides may decide) call old new happens roomy.numbered;
      apart = stays.apart;
    }

pub new_roomy : {T U : Type 0} (overrides : ℕ → ℕ → Type 0) (may : DegradationInfo → DegradationAction → Type 0)
    (decide : BackpressureInfo → BackpressureDecision → Type 0) (service : ℕ) (sizes : ServiceSizes)
    → AreRoomy {T = T} {U = U} (no_ports service sizes)
new_roomy {T} {U} overrides may decide service sizes = record {
  sound = (held_stays {T = T} {U = U} overrides may decide).begins service sizes (no_ports service sizes) refl;
  allowed = (sizes_agree {T = T} {U = U} overrides may decide).begins service sizes;
  keyed = (keys_stay {T = T} {U = U} overrides may decide).begins service sizes;
  tied = new_apart service sizes (no_ports service sizes) refl;
  list = list_new 1 sizes.max_publishers;
  lead = All-nil LeadsOnEntry;
  once = λ number. omega arith;
  numbered = (numbers_stay {T = T} {U = U} overrides may decide).new service sizes;
  apart = All-nil (ReadsApartEntry (no_ports service sizes));
}
