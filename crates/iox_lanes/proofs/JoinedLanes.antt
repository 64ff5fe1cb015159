-- Lanes that go with the publishers of a domain.
use Rattle.std.proofs.Common.{arith, ◌≡◌, ◌+◌, ◌*◌, ◌^◌, ◌<◌, ◌≤◌, ℕ, Bool, true, List, length, slice_get, get_or, Option, None, Some}
use Rattle.std.proofs.Common.{refl, sym, subst, ap, inl, inr, ◌∙◌}
use Rattle.std.proofs.lemmas.Bool.Decides.{eqb_tells}
use Rattle.std.proofs.lemmas.Nat.{row_fits}
use Rattle.std.proofs.lemmas.Option.{get_or_from_slice_get, slice_get-get_or, slice_get_within}
use Rattle.iox_domain.specs.DomainPorts.Publishers.{port_of}
use Rattle.iox_domain.specs.DomainPorts.declared.publisher_port.PublisherPort.{PublisherPort}
use Rattle.iox_lanes_machine.specs.Fixed.{slots_at}
use Rattle.iox_lanes_machine.proofs.Ends.{some_is}
use Rattle.iox_lanes_machine.specs.LanesBase.Publishing.{publisher_is_idle}
use Rattle.iox_lanes_machine.specs.LanesBase.Subscribing.{subscriber_is_idle}
use Rattle.iox_lanes_machine.specs.LanesParties.Parties.{PublisherLaneState, SubscriberLaneState}
use Rattle.iox_lanes_machine.specs.Resting.{AllBetween}
use Rattle.iox_lanes_machine.specs.World.{World, publisher_stage, subscriber_stage}
use Rattle.iox_domain.specs.DomainPorts.declared.subscriber_port.SubscriberPort.{SubscriberPort}
use Rattle.iox_lanes_machine.specs.LanesBase.Table.{TableWords}
use Rattle.iox_lanes_machine.specs.Links.{LinkState}
use Rattle.iox_lanes.specs.Holding.{port_if, IsLinkIf, Leads}
use Rattle.iox_lanes_opening.specs.Restored.{place_of}
use Rattle.iox_lanes.specs.Joined.{place_if, row_of, HasSlotsIf, IsLinkToIf, IsJoined, JoinedStays}
use Rattle.iox_lanes.specs.Spelling.{ReadingBack, Spelling}
use Rattle.iox_lanes.specs.Tied.{IsTied}
use Rattle.iox_lanes.specs.Returning.{AllRest, ArePortsLeft, IsLeftAt, IsPortLeftIf, JoinsAt}
use Rattle.iox_lanes.proofs.PortsLeft.{first_is}

between_sender : (m : World) (place : ℕ) (at : Option PublisherLaneState) → AllBetween m → slice_get m.publishers place ≡ at
    → publisher_is_idle (publisher_stage at) ≡ true
between_sender m place None between found = refl
between_sender m place (Some lane) between found =
    subst (λ (l : PublisherLaneState). publisher_is_idle l.port.call ≡ true) (get_or_from_slice_get m.publishers place lane lane found)
    (between.publishers place lane (slice_get_within m.publishers place lane found))

between_receiver : (m : World) (place : ℕ) (at : Option SubscriberLaneState) → AllBetween m → slice_get m.subscribers place ≡ at
    → subscriber_is_idle (subscriber_stage at) ≡ true
between_receiver m place None between found = refl
between_receiver m place (Some lane) between found =
    subst (λ (l : SubscriberLaneState). subscriber_is_idle l.port.call ≡ true)
    (get_or_from_slice_get m.subscribers place lane lane found)
    (between.subscribers place lane (slice_get_within m.subscribers place lane found))

-- where no party is in a call, each connection is at rest
pub all_rest : (m : World) → AllBetween m → m.moments ≤ 2 ^ 63 → AllRest m
all_rest m between few connection = record {
  few = few;
  sender = λ link found. between_sender m link.publisher (slice_get m.publishers link.publisher) between refl;
  receiver = λ link found. between_receiver m link.subscriber (slice_get m.subscribers link.subscriber) between refl;
}

-- steps leave what is joined
pub joined_stays : (T U : Type 0) → JoinedStays T U
joined_stays T U spelling places before after ports senders readers indices joined stays = record {
  some = joined.some;
  payload = ap (λ sizes. sizes.payload_words) stays.sizes ∙ joined.payload;
  user_header = ap (λ sizes. sizes.user_header_words) stays.sizes ∙ joined.user_header;
  publisher_count = stays.publisher_count ∙ joined.publisher_count;
  link_count = ap length stays.links ∙ joined.link_count;
  index_count = joined.index_count;
  sending = λ place below. record {
    slots = subst (HasSlotsIf (port_if ports (slice_get senders place))) (sym (stays.publishers place)) (joined.sending place below).slots;
    alone = (joined.sending place below).alone;
  };
  linking = λ publisher below subscriber beneath.
      subst (λ links. IsLinkToIf (port_if ports (slice_get senders publisher)) publisher subscriber (row_of readers indices publisher)
      (slice_get indices (publisher * readers + subscriber)) (slice_get links (publisher * readers + subscriber)))
      (sym stays.links) (joined.linking publisher below subscriber beneath);
}

-- the publisher at a place joins
pub joins_at : {T U : Type 0} (spelling : Spelling T U) (places : ℕ) (lanes : World) (ports : List (ℕ × PublisherPort T U))
    (senders : List ℕ) (readers : ℕ) (indices : List ℕ) (place number : ℕ)
    → IsJoined spelling places lanes ports senders readers indices → place < length senders
    → slice_get senders place ≡ Some number → JoinsAt lanes (port_of number ports) place readers indices
joins_at spelling places lanes ports senders readers indices place number joined below is = record {
  slots = subst (λ at. HasSlotsIf (port_if ports at) (slots_at lanes place)) is (joined.sending place below).slots;
  link_count = omega (arith, joined.link_count, row_fits place readers (length senders) readers below (omega arith));
  index_count = omega (arith, joined.index_count, row_fits place readers (length senders) readers below (omega arith));
  linking = λ subscriber beneath.
      subst (λ at. IsLinkToIf (port_if ports at) place subscriber (row_of readers indices place)
      (slice_get indices (place * readers + subscriber)) (slice_get lanes.links (place * readers + subscriber))) is
      (joined.linking place below subscriber beneath);
}

-- the publishers at the first places are as the lanes leave them, each other one is as it was
pub record LeftSoFar {T U : Type 0} (reading : ReadingBack T U) (lanes : World) (senders : List ℕ) (readers : ℕ)
    (indices : List ℕ) (start now : List (ℕ × PublisherPort T U)) (count : ℕ) : Type 0 where
  pub done : (number place : ℕ) → place_of number senders ≡ Some place → place < count
      → IsPortLeftIf reading lanes (place * readers) (row_of readers indices place) (slice_get lanes.publishers place)
      (port_of number start) (port_of number now)
  pub rest : (number : ℕ) → ((place : ℕ) → place_of number senders ≡ Some place → count ≤ place) → port_of number now ≡ port_of number start

one_place : (one other : ℕ) → Some one ≡ Some other → one ≡ other
one_place one other same = cc same

module _ {T U : Type 0} (reading : ReadingBack T U) (spelling : Spelling T U) (places : ℕ) (lanes : World)
    (senders : List ℕ) (readers : ℕ) (indices : List ℕ) (start : List (ℕ × PublisherPort T U))
    (joined : IsJoined spelling places lanes start senders readers indices) where
  abbrev Left : ℕ → Option (PublisherPort T U) → Option (PublisherPort T U) → Type 0
  Left place old new = IsPortLeftIf reading lanes (place * readers) (row_of readers indices place)
      (slice_get lanes.publishers place) old new

  pub one_left : (now next : List (ℕ × PublisherPort T U)) (count : ℕ) → count < length senders
      → LeftSoFar reading lanes senders readers indices start now count
      → ((other : ℕ) → (other ≡ get_or senders count 0 → ⊥) → port_of other next ≡ port_of other now)
      → (JoinsAt lanes (port_of (get_or senders count 0) now) count readers indices
      → Left count (port_of (get_or senders count 0) now) (port_of (get_or senders count 0) next))
      → LeftSoFar reading lanes senders readers indices start next (count + 1)
  one_left now next count below so_far others this = record {
    done = λ number place is few. elim (eqb_tells place count) [
      | inl same ↦
          let at : place_of number senders ≡ Some count = is ∙ ap Some same.1 in
          let number_is : number ≡ n = one_place number n (sym (first_is senders number count at).has ∙ here) in
          subst (λ p. Left p (port_of number start) (port_of number next)) (sym same.1)
          (subst (λ m. Left count (port_of m start) (port_of m next)) (sym number_is) mine)
      | inr apart ↦
          let other : number ≡ n → ⊥ = λ number_is. apart.1
          (one_place place count (sym is ∙ ap (λ m. place_of m senders) number_is ∙ alone)) in
          subst (λ port. Left place (port_of number start) port) (sym (others number other))
          (so_far.done number place is (omega (arith, few, apart.1)))
    ];
    rest = λ number beyond.
        let other : number ≡ n → ⊥ = λ number_is. absurd (omega (arith, beyond count (ap (λ m. place_of m senders) number_is ∙ alone))) in
        others number other ∙ so_far.rest number (λ place is. omega (arith, beyond place is));
  }
    where
      n : ℕ
      n = get_or senders count 0

      here : slice_get senders count ≡ Some n
      here = slice_get-get_or senders count 0 below

      alone : place_of n senders ≡ Some count
      alone = subst (λ at. place_if at senders ≡ Some count) here (joined.sending count below).alone

      untouched : port_of n now ≡ port_of n start
      untouched = so_far.rest n (λ place is. let same : place ≡ count = one_place place count (sym is ∙ alone) in omega (arith, same))

      mine : Left count (port_of n start) (port_of n next)
      mine = subst (λ port. Left count port (port_of n next)) untouched
          (this (subst (λ port. JoinsAt lanes port count readers indices) (sym untouched)
          (joins_at spelling places lanes start senders readers indices count n joined below here)))

  -- before the first
  pub none_left : LeftSoFar reading lanes senders readers indices start start 0
  none_left = record {
    done = λ number place is few. absurd (omega (arith, few));
    rest = λ number beyond. refl;
  }

  -- after the last
  pub all_left : (now : List (ℕ × PublisherPort T U)) (count : ℕ) → length senders ≤ count
      → LeftSoFar reading lanes senders readers indices start now count
      → ArePortsLeft reading lanes senders readers indices start now
  all_left now count past so_far number = by (place_of number senders) refl
    where
      by : (at : Option ℕ) → place_of number senders ≡ at
          → IsLeftAt reading lanes readers indices at (port_of number start) (port_of number now)
      by None is = so_far.rest number (λ place there. absurd (cc (sym is ∙ there)))
      by (Some place) is = so_far.done number place is (omega (arith, past, (first_is senders number place is).below))

-- a link of lanes that hold what a domain has, whose index no connection of the publisher before it has joins
pub joined_if : {T U : Type 0} (spelling : Spelling T U) (table : TableWords) (overflows : Bool)
    (publisher subscriber : ℕ) (line : List ℕ) (port : Option (PublisherPort T U))
    (reader : Option SubscriberPort) (lane : Option PublisherLaneState) (index : Option ℕ) (link : Option LinkState) (number : ℕ)
    → Leads overflows publisher subscriber link → IsLinkIf spelling table port reader lane index link → IsTied port reader index
    → index ≡ Some number → place_of number line ≡ Some subscriber
    → IsLinkToIf port publisher subscriber line index link
joined_if spelling table overflows publisher subscriber line None reader lane index link number leads is tied there alone = is
joined_if spelling table overflows publisher subscriber line (Some port) None lane index link number leads is tied there alone = absurd is
joined_if spelling table overflows publisher subscriber line (Some port) (Some reader) None index link number leads is tied there alone
    = absurd is
joined_if spelling table overflows publisher subscriber line (Some port) (Some reader) (Some lane) None link number leads is tied there
    alone = is
joined_if spelling table overflows publisher subscriber line (Some port) (Some reader) (Some lane) (Some index) None number leads is tied
    there alone = is
joined_if spelling table overflows publisher subscriber line (Some port) (Some reader) (Some lane) (Some index) (Some link) number leads
    is tied there alone = record {
      from = leads.0;
      live = tied.1;
      limit = is.limit;
      alone = subst (λ (n : ℕ). place_of n line ≡ Some subscriber) (some_is number index (sym there)) alone;
    }
