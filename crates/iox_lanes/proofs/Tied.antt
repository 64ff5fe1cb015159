-- Of a domain that nothing keeps from becoming lanes each listed publisher has a connection to each listed subscriber, which goes on.
use Rattle.std.proofs.Common.{ℕ, zero, suc, ◌≡◌, ◌+◌, ◌*◌, ◌<◌, ◌==◌, ◌++◌, ◌&&◌, ◌||◌, Bool, true, false, not, List, [], ◌∷◌}
use Rattle.std.proofs.Common.{length, get_or}
use Rattle.std.proofs.Common.{slice_get, is_some, unwrap_or, option_map, Option, Some, None, refl, sym, ap, ◌∙◌, subst, arith, zero-add}
use Rattle.std.proofs.lemmas.Bool.{cond-true, cond-false, eqb-true}
use Rattle.std.proofs.lemmas.List.{length-append, length-map}
use Rattle.std.proofs.lemmas.Option.{slice_get-get_or, slice_get-map, slice_get_within}
use Rattle.std.specs.BTreeMap.{is_at}
use Rattle.std.specs.List.{list_any}
use Rattle.std.specs.Map.{lookup}
use Rattle.std.specs.Ordering.{nat_cmp}
use Rattle.iox_domain.specs.DomainValues.declared.backpressure.BackpressureDecision.{BackpressureDecision}
use Rattle.iox_domain.specs.Container.declared.container.Member.{Member}
use Rattle.iox_domain.specs.DomainPorts.Ports.{connection_of, goes_on, is_live}
use Rattle.iox_domain.specs.DomainPorts.Publishers.{port_of}
use Rattle.iox_domain.specs.DomainPorts.declared.publisher_entry.PublisherEntry.{PublisherEntry}
use Rattle.iox_domain.specs.DomainPorts.declared.publisher_port.PublisherPort.{PublisherPort}
use Rattle.iox_domain.specs.DomainPorts.declared.reader.Reader.{Reader}
use Rattle.iox_domain.specs.DomainPorts.declared.subscriber_entry.SubscriberEntry.{SubscriberEntry}
use Rattle.iox_domain.specs.DomainPorts.declared.subscriber_port.SubscriberPort.{SubscriberPort}
use Rattle.iox_domain.specs.DomainSlots.declared.stage.Stage.{Stage}
use Rattle.iox_domain.specs.DomainSlots.declared.stage.Stage.TheVariants as stage
use Rattle.iox_domain.specs.Subscribers.{subscriber_of}
use Rattle.iox_domain.specs.declared.domain.Domain.{Domain}
use Rattle.iox_domain.specs.declared.ports.service_ports.ServicePorts.{ServicePorts}
use Rattle.iox_lanes_machine.proofs.Ends.{some_is}
use Rattle.iox_lanes_opening.specs.Deciding.{has_handlers, is_retrying}
use Rattle.iox_lanes_opening.specs.Lingering.{has_left_over, is_lingering, is_listed_subscriber, publisher_lingers, subscriber_lingers}
use Rattle.iox_lanes_opening.specs.Listed.{holds_at, is_member, of_each_listed}
use Rattle.iox_lanes_opening.specs.Refusals.{first_reason, has_growing, is_blocked}
use Rattle.iox_lanes_opening.specs.UpToDate.{has_stray_tie, is_connected, is_current_port, is_current_publisher, is_current_subscriber}
use Rattle.iox_lanes_opening.specs.UpToDate.{is_joined_if}
use Rattle.iox_lanes_opening.specs.UpToDate.{is_read_by, is_reader, is_up_to_date, reads_from, shares}
use Rattle.iox_lanes.specs.Holding.{numbers_of, port_if, reader_if}
use Rattle.iox_lanes_opening.specs.Restored.{place_of}
use Rattle.iox_lanes.specs.Joined.{row_of, AreListedOnce}
use Rattle.iox_lanes.specs.Tied.{tie_for, ties_for, AreTied, AreTies, IsTied}
use Rattle.iox_lanes.proofs.Numbers.{same_key}
use Rattle.iox_lanes.proofs.PortsLeft.{first_place, row_get}
use Rattle.iox_lanes.proofs.Presence.{both, is_current, neither, no_reason, not_no}
use Rattle.iox_lanes.proofs.Rows.{next_row}

-- what holds of each port that is listed holds of the one at a place
pub each_at : {V : Type 0} (holds : ℕ → V → Bool) (first at : ℕ) (places : List (Option (Member V))) (member : Member V)
    → of_each_listed holds first places ≡ true
    → get_or places at None ≡ Some member → holds (first + at) member.value ≡ true
each_at holds first at [] member all there = absurd (cc there)
each_at holds first zero (None ∷ rest) member all there = absurd (cc there)
each_at holds first zero (Some other ∷ rest) member all there =
    let this = both (holds first other.value) (of_each_listed holds (first + 1) rest) all in
    let same : first ≡ first + 0 = omega arith in
    subst (λ n. holds n member.value ≡ true) same (subst (λ (m : Member _). holds first m.value ≡ true) (some_is other member there) this.0)
each_at holds first (suc at) (place ∷ rest) member all there =
    let this = both (holds_at holds first place) (of_each_listed holds (first + 1) rest) all in
    let same : first + 1 + at ≡ first + suc at = omega arith in
    subst (λ n. holds n member.value ≡ true) same (each_at holds (first + 1) at rest member this.1 there)

-- each listed publisher has followed the list of subscribers
listed_current : {T U : Type 0} (ports : ServicePorts T U) (first : ℕ) (places : List (Option (Member PublisherEntry))) (at number : ℕ)
    → of_each_listed (is_current_publisher ports) first places ≡ true
    → slice_get (numbers_of (λ entry. entry.publisher) places) at ≡ Some number → (place : ℕ)
    × (is_current_port ports place number (port_of number ports.publishers) ≡ true)
listed_current ports first [] at number all there = absurd (cc there)
listed_current ports first (None ∷ rest) at number all there = listed_current ports (first + 1) rest at number all there
listed_current ports first (Some member ∷ rest) zero number all there =
    let this = both (is_current_publisher ports first member.value) (of_each_listed (is_current_publisher ports) (first + 1) rest) all in (
      first,
      subst (λ n. is_current_port ports first n (port_of n ports.publishers) ≡ true) (some_is member.value.publisher number there)
          this.0,
    )
listed_current ports first (Some member ∷ rest) (suc at) number all there =
    let this = both (is_current_publisher ports first member.value) (of_each_listed (is_current_publisher ports) (first + 1) rest) all in
    listed_current ports (first + 1) rest at number this.1 there

-- what is found by a number passes no test that nothing there passes
pub none_at : {V : Type 0} (fails : ℕ × V → Bool) (number : ℕ) (entries : List (ℕ × V)) (value : V) → list_any fails entries ≡ false
    → lookup (is_at (nat_cmp number)) entries ≡ Some value → fails (number, value) ≡ false
none_at fails number [] value none there = absurd (cc there)
none_at {V} fails number ((key, first) ∷ rest) value none there
    = by (is_at (nat_cmp number) key) refl (none_at fails number rest value apart.1)
  where
    apart : (fails (key, first) ≡ false) × (list_any fails rest ≡ false)
    apart = neither (fails (key, first)) (list_any fails rest) none

    by : (here : Bool) → is_at (nat_cmp number) key ≡ here
        → (lookup (is_at (nat_cmp number)) rest ≡ Some value → fails (number, value) ≡ false) → fails (number, value) ≡ false
    by true here beyond =
        subst (λ n. fails (n, value) ≡ false) (same_key number key here)
        (subst (λ (v : V). fails (key, v) ≡ false)
        (some_is first value (sym (cond-true (is_at (nat_cmp number) key) (Some first) (lookup (is_at (nat_cmp number)) rest) here)
        ∙ there)) apart.0)
    by false here beyond = beyond (sym (cond-false (is_at (nat_cmp number) key) (Some first) (lookup (is_at (nat_cmp number)) rest)
        here) ∙ there)

-- a subscriber is listed at its place
listed_there : (number : ℕ) (at : Option (Member SubscriberEntry)) → is_member (λ entry. entry.subscriber) number at ≡ true
    → (member : Member SubscriberEntry) × (at ≡ Some member) × (member.value.subscriber ≡ number)
listed_there number None is = absurd (cc is)
listed_there number (Some member) is = (member, refl, eqb-true member.value.subscriber number is)

live_of : (now : Stage) → goes_on now ≡ true → now ≡ stage.Live
live_of stage.Vacant is = absurd (cc is)
live_of stage.Live is = refl
live_of stage.Ended is = absurd (cc is)

tied_by : {T U : Type 0} (place number : ℕ) (port : PublisherPort T U) (reader : ℕ) (subscriber : SubscriberPort) (tie : Option ℕ)
    → shares place number port reader subscriber tie ≡ true
    → (tie ≡ Some (unwrap_or tie 0)) × ((connection_of (unwrap_or tie 0) port).stage ≡ stage.Live)
    × (is_reader reader (get_or port.readers (unwrap_or tie 0) None) ≡ true)
tied_by place number port reader subscriber None is = absurd (cc is)
tied_by place number port reader subscriber (Some index) is =
    let read = both (is_read_by reader port index) (reads_from number index subscriber (get_or subscriber.places.items place None)) is in
    let own = both (is_live index port) (is_reader reader (get_or port.readers index None)) read.0 in
    (refl, live_of (connection_of index port).stage own.0, own.1)

-- one connection has one reader
one_reader : (one other : ℕ) (at : Option Reader) → is_reader one at ≡ true → is_reader other at ≡ true → one ≡ other
one_reader one other None reads too = absurd (cc reads)
one_reader one other (Some reader) reads too =
    sym (eqb-true reader.subscriber one (both (reader.subscriber == one) reader.attached reads).0) ∙ eqb-true reader.subscriber other
    (both (reader.subscriber == other) reader.attached too).0

-- a listed publisher's messages for a listed subscriber go to a connection that goes on
module _ {T U B D : Type 0} (decision : B → Option BackpressureDecision) (asks : D → Bool)
    (domain : Domain T U B D) (none : first_reason decision asks domain ≡ None) where
  abbrev ports : ServicePorts T U
  ports = domain.state.ports

  pub lingers : is_lingering ports ≡ false
  lingers =
      let blocked = no_reason (is_blocked ports) _ _ none in
      let current = no_reason (not (is_up_to_date ports)) _ _ blocked.1 in
      let growing = no_reason (has_growing ports) _ _ current.1 in
      let handled = no_reason (has_handlers decision asks domain) _ _ growing.1 in
      let retrying = no_reason (is_retrying decision domain) _ _ handled.1 in
      (no_reason (is_lingering ports) _ _ retrying.1).0

  stands_listed : (reader : ℕ) (subscriber : SubscriberPort) → subscriber_of reader ports.subscribers ≡ Some subscriber
      → is_listed_subscriber ports.subscriber_list reader subscriber ≡ true
  stands_listed reader subscriber found =
      let left = neither (list_any (publisher_lingers ports.publisher_list) ports.publishers)
      (list_any (subscriber_lingers ports.subscriber_list ports.publishers) ports.subscribers) lingers in
      let apart = none_at (subscriber_lingers ports.subscriber_list ports.publishers) reader ports.subscribers subscriber left.1 found in
      let stays = neither (not subscriber.stands)
      (not (is_listed_subscriber ports.subscriber_list reader subscriber) || has_left_over ports.publishers subscriber) apart in
      not_no (is_listed_subscriber ports.subscriber_list reader subscriber)
      (neither (not (is_listed_subscriber ports.subscriber_list reader subscriber)) (has_left_over ports.publishers subscriber)
      stays.1).0

  pub goes_there : (at number reader : ℕ) (port : PublisherPort T U) (subscriber : SubscriberPort)
      → slice_get (numbers_of (λ entry. entry.publisher) ports.publisher_list.places) at ≡ Some number
      → port_of number ports.publishers ≡ Some port → subscriber_of reader ports.subscribers ≡ Some subscriber
      → (get_or port.ties.items subscriber.place None ≡ Some (tie_for port (Some subscriber)))
      × ((connection_of (tie_for port (Some subscriber)) port).stage ≡ stage.Live)
      × (is_reader reader (get_or port.readers (tie_for port (Some subscriber)) None) ≡ true)
  goes_there at number reader port subscriber listed found read =
      let current = both (of_each_listed (is_current_publisher ports) 0 ports.publisher_list.places)
      (of_each_listed (λ place entry. is_current_subscriber ports entry) 0 ports.subscriber_list.places) (is_current decision asks domain
      none) in
      let (place, follows) = listed_current ports 0 ports.publisher_list.places at number current.0 listed in
      let follows_all = both ((port.seen == ports.subscriber_list.changes)
      && of_each_listed (is_connected place number port ports.subscribers) 0 ports.subscriber_list.places)
      (not (has_stray_tie ports.subscriber_list port))
      (subst (λ (p : Option (PublisherPort T U)). is_current_port ports place number p ≡ true) found follows) in
      let connected = both (port.seen == ports.subscriber_list.changes)
      (of_each_listed (is_connected place number port ports.subscribers) 0 ports.subscriber_list.places) follows_all.0 in
      let (member, stands, same) = listed_there reader (get_or ports.subscriber_list.places subscriber.place None)
      (stands_listed reader subscriber read) in
      let joined = each_at (is_connected place number port ports.subscribers) 0 subscriber.place ports.subscriber_list.places member
      connected.1 stands in
      let here : is_connected place number port ports.subscribers subscriber.place member.value ≡ true =
      subst (λ n. is_connected place number port ports.subscribers n member.value ≡ true) (zero-add subscriber.place) joined in
      let of_this : is_joined_if place number port subscriber.place reader (subscriber_of reader ports.subscribers) ≡ true =
      subst (λ n. is_joined_if place number port subscriber.place n (subscriber_of n ports.subscribers) ≡ true) same here in
      tied_by place number port reader subscriber (get_or port.ties.items subscriber.place None)
      (subst (λ (s : Option SubscriberPort). is_joined_if place number port subscriber.place reader s ≡ true) read of_this)

  module _ (publishers subscribers indices : List ℕ)
      (numbered : publishers ≡ numbers_of (λ entry. entry.publisher) ports.publisher_list.places)
      (ties : AreTies ports publishers subscribers indices) where
    -- the index of a connection is its publisher's tie to its subscriber
    pub index_is : (place other number reader : ℕ) (port : PublisherPort T U) → slice_get publishers place ≡ Some number
        → port_of number ports.publishers ≡ Some port
        → slice_get subscribers other ≡ Some reader
        → slice_get indices (place * length subscribers + other) ≡ Some (tie_for port (subscriber_of reader ports.subscribers))
    index_is place other number reader port listed found there =
        row_get (length subscribers) place other (tie_for port (subscriber_of reader ports.subscribers)) indices
        (ap (λ line. slice_get line other) (ties.rows place number port listed found)
        ∙ slice_get-map (λ n. tie_for port (subscriber_of n ports.subscribers)) subscribers other
        ∙ ap (option_map (λ n. tie_for port (subscriber_of n ports.subscribers))) there)

    by_index : (place number reader : ℕ) (port : PublisherPort T U) (subscriber : SubscriberPort) (at : Option ℕ)
        → slice_get publishers place ≡ Some number → port_of number ports.publishers ≡ Some port
        → subscriber_of reader ports.subscribers ≡ Some subscriber → at ≡ Some (tie_for port (Some subscriber))
        → IsTied (Some port) (Some subscriber) at
    by_index place number reader port subscriber at listed found read is =
        let goes = goes_there place number reader port subscriber (ap (λ numbers. slice_get numbers place) (sym numbered) ∙ listed)
        found read in
        subst (λ (o : Option ℕ). IsTied (Some port) (Some subscriber) o) (sym is)
        (goes.0, goes.1)

    by_reader : (place other number reader : ℕ) (port : PublisherPort T U) (subscriber : Option SubscriberPort)
        → slice_get publishers place ≡ Some number → port_of number ports.publishers ≡ Some port
        → slice_get subscribers other ≡ Some reader → subscriber_of reader ports.subscribers ≡ subscriber
        → IsTied (Some port) subscriber (slice_get indices (place * length subscribers + other))
    by_reader place other number reader port None listed found there read = tt
    by_reader place other number reader port (Some subscriber) listed found there read =
        by_index place number reader port subscriber (slice_get indices (place * length subscribers + other)) listed found read
        (index_is place other number reader port listed found there ∙ ap (λ s. Some (tie_for port s)) read)

    by_place : (place other number : ℕ) (port : PublisherPort T U) (reader : Option ℕ) → slice_get publishers place ≡ Some number
        → port_of number ports.publishers ≡ Some port
        → slice_get subscribers other ≡ reader
        → IsTied (Some port) (reader_if ports.subscribers reader) (slice_get indices (place * length subscribers + other))
    by_place place other number port None listed found there = tt
    by_place place other number port (Some reader) listed found there
        = by_reader place other number reader port (subscriber_of reader ports.subscribers) listed found there refl

    by_port : (place other number : ℕ) (port : Option (PublisherPort T U)) → slice_get publishers place ≡ Some number
        → port_of number ports.publishers ≡ port
        → IsTied port (reader_if ports.subscribers (slice_get subscribers other)) (slice_get indices (place * length subscribers + other))
    by_port place other number None listed found = tt
    by_port place other number (Some port) listed found = by_place place other number port (slice_get subscribers other) listed found refl

    by_number : (place other : ℕ) (number : Option ℕ) → slice_get publishers place ≡ number
        → IsTied (port_if ports.publishers number) (reader_if ports.subscribers (slice_get subscribers other))
        (slice_get indices (place * length subscribers + other))
    by_number place other None listed = tt
    by_number place other (Some number) listed = by_port place other number (port_of number ports.publishers) listed refl

    -- so do those of the publishers whose ties these are
    pub are_tied : AreTied ports publishers subscribers indices
    are_tied = λ place other below. by_number place other (slice_get publishers place) refl

    -- of subscribers that are listed once no two have one connection of a publisher: its index is first in its row at their place
    pub alone_in_row : (once : AreListedOnce subscribers) (place other number reader : ℕ) (port : PublisherPort T U)
        (subscriber : SubscriberPort) → slice_get publishers place ≡ Some number
        → port_of number ports.publishers ≡ Some port → slice_get subscribers other ≡ Some reader
        → subscriber_of reader ports.subscribers ≡ Some subscriber
        → ((at at_number : ℕ) → slice_get subscribers at ≡ Some at_number → is_some (subscriber_of at_number ports.subscribers) ≡ true)
        → place_of (tie_for port (Some subscriber)) (row_of (length subscribers) indices place) ≡ Some other
    alone_in_row once place other number reader port subscriber listed found there read stand =
        first_place line other index (ap (λ l. slice_get l other) line_is ∙ mapped other reader subscriber there read)
        (λ at less same. before at less same)
      where
        index : ℕ
        index = tie_for port (Some subscriber)

        line : List ℕ
        line = row_of (length subscribers) indices place

        line_is : line ≡ ties_for ports.subscribers subscribers port
        line_is = ties.rows place number port listed found

        mapped : (at at_number : ℕ) (own : SubscriberPort) → slice_get subscribers at ≡ Some at_number
            → subscriber_of at_number ports.subscribers ≡ Some own
            → slice_get (ties_for ports.subscribers subscribers port) at ≡ Some (tie_for port (Some own))
        mapped at at_number own is found_own =
            slice_get-map (λ n. tie_for port (subscriber_of n ports.subscribers)) subscribers at
            ∙ ap (option_map (λ n. tie_for port (subscriber_of n ports.subscribers))) is ∙ ap (λ o. Some (tie_for port o)) found_own

        reads : (at_number : ℕ) (own : SubscriberPort) → subscriber_of at_number ports.subscribers ≡ Some own
            → is_reader at_number (get_or port.readers (tie_for port (Some own)) None) ≡ true
        reads at_number own found_own = (goes_there place number at_number port own
            (ap (λ numbers. slice_get numbers place) (sym numbered) ∙ listed) found found_own).2

        apart : (at at_number : ℕ) (own : Option SubscriberPort) → at < other → slice_get line at ≡ Some index
            → slice_get subscribers at ≡ Some at_number → subscriber_of at_number ports.subscribers ≡ own → is_some own ≡ true → ⊥
        apart at at_number None less same here found_own some = absurd (cc some)
        apart at at_number (Some own) less same here found_own some =
            let equal : tie_for port (Some own) ≡ index
            = some_is (tie_for port (Some own)) index
            (sym (mapped at at_number own here found_own) ∙ ap (λ l. slice_get l at) (sym line_is) ∙ same) in
            let numbers : at_number ≡ reader =
            one_reader at_number reader (get_or port.readers index None)
            (subst (λ n. is_reader at_number (get_or port.readers n None) ≡ true) equal (reads at_number own found_own))
            (reads reader subscriber read) in
            let places : at ≡ other = once at other reader (here ∙ ap Some numbers) there in
            absurd (omega (arith, places, less))

        before : (at : ℕ) → at < other → slice_get line at ≡ Some index → ⊥
        before at less same =
            let here : slice_get subscribers at ≡ Some (get_or subscribers at 0)
            = slice_get-get_or subscribers at 0 (omega (arith, less, slice_get_within subscribers other reader there)) in
            apart at (get_or subscribers at 0) (subscriber_of (get_or subscribers at 0) ports.subscribers) less same here refl
            (stand at (get_or subscribers at 0) here)

-- the ties of one publisher more are the next row
pub ties_next : {T U : Type 0} (ports : ServicePorts T U) (publishers subscribers before after : List ℕ) (place number : ℕ)
    (port : PublisherPort T U) → slice_get publishers place ≡ Some number
    → port_of number ports.publishers ≡ Some port → length before ≡ place * length subscribers
    → after ≡ before ++ ties_for ports.subscribers subscribers port
    → ((at : ℕ) → at < place → (other : ℕ) (found : PublisherPort T U) → slice_get publishers at ≡ Some other
    → port_of other ports.publishers ≡ Some found
    → row_of (length subscribers) before at ≡ ties_for ports.subscribers subscribers found)
    → (length after ≡ (place + 1) * length subscribers)
    × ((at : ℕ) → at < place + 1 → (other : ℕ) (found : PublisherPort T U) → slice_get publishers at ≡ Some other
    → port_of other ports.publishers ≡ Some found → row_of (length subscribers) after at ≡ ties_for ports.subscribers subscribers found)
ties_next {T} {U} ports publishers subscribers before after place number port listed there long grown rows = (
  omega (arith, ap length grown, length-append before added, wide, long),
  λ at below other found stands is. next_row (length subscribers) place at before added after
      (ties_for ports.subscribers subscribers found) long wide grown below
      (λ earlier. rows at earlier other found stands is)
      (λ last. ap (ties_for ports.subscribers subscribers)
      (some_is port found (sym there ∙ ap (λ n. port_of n ports.publishers) (same other at last stands) ∙ is))),
)
  where
    added : List ℕ
    added = ties_for ports.subscribers subscribers port

    wide : length added ≡ length subscribers
    wide = length-map subscribers (λ n. tie_for port (subscriber_of n ports.subscribers))

    same : (other at : ℕ) → at ≡ place → slice_get publishers at ≡ Some other → number ≡ other
    same other at last stands = some_is number other (sym listed ∙ ap (slice_get publishers) (sym last) ∙ stands)
