-- Lanes that are built of a domain have the histories of its publishers, and what waits at their connections.
use Rattle.std.proofs.Common.{arith, ℕ, zero, suc, ◌≡◌, ◌+◌, ◌*◌, ◌<◌, ◌≤◌, Bool, List, [], length, map, slice_get, slice_index, get_or}
use Rattle.std.proofs.Common.{◌==◌, ◌&&◌, ◌||◌, false, nat_lt, true, is_some, option_map, Option, None, Some, refl, sym, ap, ◌∙◌, subst}
use Rattle.std.proofs.Common.{inl, inr}
use Rattle.std.proofs.lemmas.Bool.{eqb-false, ltb-false}
use Rattle.std.proofs.lemmas.Bool.Decides.{eqb_tells}
use Rattle.std.proofs.lemmas.Nat.{row_fits}
use Rattle.std.proofs.lemmas.List.{length-map, length-replicate, take-replicate}
use Rattle.std.proofs.lemmas.Option.{get_or_from_slice_get, slice_get-get_or, slice_get-map, slice_get_within}
use Rattle.iox_domain.specs.DomainValues.declared.backpressure.BackpressureDecision.{BackpressureDecision}
use Rattle.iox_domain.specs.DomainPorts.Messages.{Message}
use Rattle.iox_domain.specs.DomainPorts.Ports.{connection_of}
use Rattle.iox_domain.specs.DomainPorts.Publishers.{port_of}
use Rattle.iox_domain.specs.DomainPorts.declared.publisher_port.PublisherPort.{PublisherPort}
use Rattle.iox_domain.specs.DomainPorts.declared.subscriber_port.SubscriberPort.{SubscriberPort}
use Rattle.iox_domain.specs.DomainSlots.Uses.{is_open, is_there, Connection}
use Rattle.iox_domain.specs.Kept.{kept_under}
use Rattle.iox_domain.specs.Subscribers.{subscriber_of}
use Rattle.iox_domain.specs.declared.domain.Domain.{Domain}
use Rattle.iox_lanes_machine.specs.LanesBase.declared.words.sizes.TableSizes.{TableSizes}
use Rattle.iox_lanes_machine.specs.LanesParties.Parties.{PublisherLaneState}
use Rattle.iox_lanes_machine.specs.Made.{link_at, publisher_at, start, table_sizes}
use Rattle.iox_lanes_machine.specs.Stored.{between}
use Rattle.iox_lanes_machine.specs.TakenIn.{number_if, slot_if}
use Rattle.iox_lanes_machine.specs.World.{World}
use Rattle.iox_lanes_machine.specs.declared.found.Found.{Found}
use Rattle.iox_lanes_machine.specs.declared.found.Found.TheVariants as found
use Rattle.iox_lanes_machine.proofs.Ends.{some_is}
use Rattle.iox_lanes_machine.proofs.Start.{listed_at, start_back}
use Rattle.iox_lanes_machine.proofs.StartUses.{start_kept}
use Rattle.iox_lanes_opening.specs.Deciding.{would_fail}
use Rattle.iox_lanes_opening.specs.Refusals.{first_reason}
use Rattle.iox_lanes_opening.specs.Soundness.{has_twice}
use Rattle.iox_lanes.specs.Behind.{behind_findings, behind_finding}
use Rattle.iox_lanes.specs.Built.{AreBuilt}
use Rattle.iox_lanes.specs.Holding.{numbers_of, port_if, KeepsIf, LinkWaits, SenderKeeps, WaitsIf}
use Rattle.iox_lanes.specs.Laid.{first_slot, flat_listed, history_findings, link_findings, message_findings, messages_behind}
use Rattle.iox_lanes.specs.Laid.{waiting_findings}
use Rattle.iox_lanes.specs.Laid.{publisher_behind, sender_behind, slot_in, slots_in}
use Rattle.iox_lanes.specs.Lying.{AreSlotsOf, IsSlotOf}
use Rattle.iox_lanes.specs.Spelling.{Spelling}
use Rattle.iox_lanes.specs.Tied.{tie_for, AreTies}
use Rattle.iox_lanes.proofs.Apart.{not_same, slots_apart}
use Rattle.iox_lanes.proofs.Behind.{behind_both, behind_first, behind_none}
use Rattle.iox_lanes.proofs.Booked.{booked_history, booked_stays, IsBooked, LeavesBook}
use Rattle.iox_lanes.proofs.Each.{each_flat_listed, each_history, each_leaves, each_of, each_waiting, each_word, readers_leave, Each}
use Rattle.iox_lanes.proofs.Linked.{both_stay, linked_buffer, linked_stays, linked_waiting, start_leads, Both, IsLinked, LeavesLink}
use Rattle.iox_lanes.proofs.Placing.{all_slots, below_width, so_far, steady_behind, IsLaidOf}
use Rattle.iox_lanes.proofs.Presence.{are_there, neither, readers_there}
use Rattle.iox_lanes.proofs.Saying.{counted, few_slots}
use Rattle.iox_lanes.proofs.Settling.{introduced, introduces, settle}
use Rattle.iox_lanes.proofs.Sound.{fits, IsFit}
use Rattle.iox_lanes.proofs.Tied.{goes_there, index_is}
use Rattle.iox_lanes.proofs.Wording.{steady_on, AreSteady}

positive : (n : ℕ) → (n ≡ 0 → ⊥) → 0 < n
positive zero apart = absurd (apart refl)
positive (suc n) apart = omega arith

-- these are the slots of messages, one by one
pub slots_of_all : {T U : Type 0} (first : ℕ) (messages : List (Message T U)) (laid : List ℕ)
    → laid ≡ map (λ message. first + message.slot) messages → AreSlotsOf first laid messages
slots_of_all {T} {U} first messages laid are = record {
  as_many = ap length are ∙ length-map messages (λ message. first + message.slot);
  each = λ at. by at (slice_get messages at) refl;
}
  where
    by : (at : ℕ) (there : Option (Message T U)) → slice_get messages at ≡ there → IsSlotOf first (slice_get laid at) there
    by at None is = tt
    by at (Some message) is = ap (λ xs. slice_get xs at) are ∙ slice_get-map (λ message. first + message.slot) messages at ∙ ap
        (option_map (λ message. first + message.slot)) is

module _ {T U B D : Type 0} (decision : B → Option BackpressureDecision) (spelling : Spelling T U) (domain : Domain T U B D)
    (publishers subscribers : List ℕ) (lanes : World)
    (built : AreBuilt decision spelling domain publishers subscribers lanes)
    (place number : ℕ) (port : PublisherPort T U) (listed : slice_get publishers place ≡ Some number)
    (found_port : port_of number domain.state.ports.publishers ≡ Some port) (fit : IsFit domain.state.ports.sizes port)
    (goes : (other : ℕ) → other < length subscribers
    → is_there (connection_of (tie_for port (subscriber_of (slice_index subscribers other) domain.state.ports.subscribers)) port) ≡ true)
  where
    abbrev width : ℕ
    width = ((built.sized).sizes).slots

    abbrev table : TableSizes
    table = table_sizes (built.sized).sizes

    abbrev ports : List (ℕ × PublisherPort T U)
    ports = domain.state.ports.publishers

    abbrev size : ℕ
    size = port.sender.uses.first + port.sender.uses.size

    abbrev kept_slots : List ℕ
    kept_slots = map (λ message. place * width + message.slot) port.sender.uses.history

    abbrev tie : PublisherPort T U → ℕ → ℕ
    tie own other = tie_for own (subscriber_of (slice_index subscribers other) domain.state.ports.subscribers)

    abbrev Booked : World → Type 0
    Booked m = IsBooked table place (place * width) size ((built.sized).sizes).history kept_slots m

    abbrev at_tie : ℕ → Connection (Message T U)
    at_tie other = connection_of (tie port other) port

    abbrev mail_slots : ℕ → List ℕ
    mail_slots other = map (λ message. place * width + message.slot) (at_tie other).waiting

    abbrev Linked : ℕ → List ℕ → ℕ → World → Type 0
    Linked other waiting limit m = IsLinked (built.sized).sizes place other waiting limit m

    of_sizes : (other : ℕ) → other < length subscribers → other < ((built.sized).sizes).subscribers
    of_sizes other below = omega (arith, below, ((built.sized).are_agreed).as_many_subscribers)

    within : place < length publishers
    within = slice_get_within publishers place number listed

    -- lanes after the first n publishers: if this one is among them, its history is the domain's, and so is what waits at its
    -- connections; if it isn't, nothing waits there
    record IsBookedTo (m : World) (reached : ℕ) : Type 0 where
      pub steady : AreSteady table m
      pub booked : place < reached → Booked m
      pub fresh : (other : ℕ) → other < length subscribers → reached ≤ place → Linked other [] ((built.sized).sizes).buffer m
      pub linked : (other : ℕ) → other < length subscribers → place < reached → Linked other (mail_slots other) (at_tie other).limit m

    linked_behind : (other : ℕ) → other < length subscribers → (fs : List Found) (m : World) (waiting : List ℕ) (limit : ℕ)
        → Each (LeavesLink place other) fs → Linked other waiting limit m → Linked other waiting limit (behind_findings m fs)
    linked_behind other below fs m waiting limit leave linked =
        each_leaves (LeavesLink place other) (Linked other waiting limit)
        (λ n f leaves is. linked_stays (built.sized).sizes place other (of_sizes other below) n f waiting limit leaves is) fs m leave linked

    link_words : (other at : ℕ) (own : PublisherPort T U) (message : Message T U)
        → Each (LeavesLink place other) (message_findings spelling (at * width) own message)
    link_words other at own message =
        each_word spelling (LeavesLink place other) (slot_in (at * width) message.slot)
        own.owner.node_id own.number message.elements (message.sequence, message.user_header) message.values tt tt tt
        (λ word below. tt) (λ word below value there. tt)

    link_leave_other : (other at : ℕ) (own : PublisherPort T U) → (at ≡ place → ⊥)
        → Each (LeavesLink place other) (history_findings spelling at (at * width) own own.sender.uses.history)
        × Each (LeavesLink place other) (flat_listed
        (λ reader. link_findings spelling at reader (at * width) own (tie own reader)) (length subscribers))
    link_leave_other other at own apart =
        each_of spelling (LeavesLink place other) at (at * width) own (tie own) (length subscribers)
        (λ k message is. link_words other at own message) (λ reader below k message is. link_words other at own message)
        (λ slot. tt) (λ reader slot row same. absurd (apart row)) (λ reader messages row same. absurd (apart row))

    link_history : (other : ℕ) → Each (LeavesLink place other)
        (history_findings spelling place (place * width) port port.sender.uses.history)
    link_history other =
        each_history spelling (LeavesLink place other) place (place * width) port
        port.sender.uses.history (λ k message is. link_words other place port message) (λ slot. tt)

    -- the connection to a subscriber is fit for what is agreed
    record MailIsFit (connection : Connection (Message T U)) : Type 0 where
      pub some : 0 < connection.limit
      pub small : connection.limit ≤ ((built.sized).sizes).buffer
      pub few : length connection.waiting ≤ connection.limit
      pub once : has_twice connection.waiting ≡ false

    and_false : (a b : Bool) → (a && b) ≡ false → a ≡ true → b ≡ false
    and_false true b none holds = none
    and_false false b none holds = absurd (cc holds)

    mail_fits : (other : ℕ) → other < length subscribers → MailIsFit (at_tie other)
    mail_fits other below =
        let connection = at_tie other in
        let most = domain.state.ports.sizes.subscriber_max_buffer_size in
        let whole = and_false (is_there connection) ((connection.limit == 0) || (nat_lt most connection.limit
        || (nat_lt connection.limit (length connection.waiting) || has_twice connection.waiting))) (fit.waiting (tie port other))
        (goes other below) in
        let some = neither (connection.limit == 0) (nat_lt most connection.limit
        || (nat_lt connection.limit (length connection.waiting) || has_twice connection.waiting)) whole in
        let small = neither (nat_lt most connection.limit) (nat_lt connection.limit (length connection.waiting)
        || has_twice connection.waiting) some.1 in
        let few = neither (nat_lt connection.limit (length connection.waiting)) (has_twice connection.waiting) small.1 in
        let agreed = ltb-false most connection.limit small.0 in
        record {
          some = positive connection.limit (λ none. eqb-false connection.limit 0 some.0 none);
          small = omega (arith, agreed, ((built.sized).are_agreed).buffer);
          few = ltb-false connection.limit (length connection.waiting) few.0;
          once = few.1;
        }

    abbrev reader_findings : ℕ → List Found
    reader_findings other = link_findings spelling place other (place * width) port (tie port other)

    abbrev BothAt : (other : ℕ) → other < length subscribers → List ℕ → ℕ → World → Type 0
    BothAt other below waiting limit m
        = Both (built.sized).sizes place other (of_sizes other below) (place * width) size ((built.sized).sizes).history
        kept_slots waiting limit m

    -- the findings of another connection of this publisher leave both
    reader_leaves : (other : ℕ) (below : other < length subscribers) (reader : ℕ) → (reader ≡ other → ⊥)
        → Each (λ f. LeavesBook place f × LeavesLink place other f) (reader_findings reader)
    reader_leaves other below reader apart = (
      ((refl, refl), λ row same. absurd (apart same)),
      each_waiting spelling (λ f. LeavesBook place f × LeavesLink place other f) place (place * width) port reader (at_tie reader).waiting
          (λ k message is. each_word spelling (λ f. LeavesBook place f × LeavesLink place other f) (slot_in (place * width) message.slot)
          port.owner.node_id port.number message.elements (message.sequence, message.user_header) message.values ((refl, refl), tt)
          ((refl, refl), tt)
          ((refl, refl), tt) (λ word within. ((refl, refl), tt)) (λ word within value there. ((refl, refl), tt)))
          (λ slot. ((refl, refl), λ row same. absurd (apart same))),
    )

    inside_of : (message : Message T U) → IsLaidOf decision spelling domain publishers subscribers lanes built port message
        → message.slot < size
        → (slot_in (place * width) message.slot ≡ place * width + message.slot) × (message.slot < size)
    inside_of message laid small =
        let beneath = below_width decision spelling domain publishers subscribers lanes built place number port message listed found_port
        laid in (
          (all_slots decision spelling domain publishers subscribers lanes built place message.slot within beneath).1,
          small,
        )

    -- its own come to wait there
    own_reader : (other : ℕ) (below : other < length subscribers) (w : World) → BothAt other below [] ((built.sized).sizes).buffer w
        → BothAt other below (mail_slots other) (at_tie other).limit (behind_findings w (reader_findings other))
    own_reader other below w both =
        let mail = mail_fits other below in
        let beneath = of_sizes other below in
        let buffer = found.Buffer place other (at_tie other).limit in
        let waits = waiting_findings spelling place other (place * width) port (at_tie other).waiting in
        let begun : BothAt other below [] (at_tie other).limit (behind_finding w buffer) = (
          booked_stays table place (place * width) size ((built.sized).sizes).history w buffer kept_slots (refl, refl) both.0,
          linked_buffer (built.sized).sizes place other beneath w (both.0).lane (at_tie other).limit ((built.sized).sizes).buffer
              (both.0).there
              mail.some mail.small both.1,
        ) in
        subst (BothAt other below (mail_slots other) (at_tie other).limit) (sym (behind_first w buffer waits))
        (linked_waiting (built.sized).sizes place other beneath (place * width) size ((built.sized).sizes).history kept_slots
        spelling port (at_tie other).waiting [] (at_tie other).limit (behind_finding w buffer)
        (λ at message there. inside_of message (inr (other, at, below, there))
        ((built.alone place number port listed found_port).waiting other below at message there).inside)
        (slots_apart (at_tie other).waiting (place * width) mail.once) (omega (arith, mail.few)) mail.small begun)

    -- of the first n connections, this one has what waits if it is among them
    record IsLinkedTo (other : ℕ) (below : other < length subscribers) (m : World) (reached : ℕ) : Type 0 where
      pub before : reached ≤ other → BothAt other below [] ((built.sized).sizes).buffer m
      pub behind : other < reached → BothAt other below (mail_slots other) (at_tie other).limit m

    own_readers : (other : ℕ) (below : other < length subscribers) (w : World) → BothAt other below [] ((built.sized).sizes).buffer w
        → (reached : ℕ) → IsLinkedTo other below (behind_findings w (flat_listed reader_findings reached)) reached
    own_readers other below w both zero = record {
      before = λ few. subst (BothAt other below [] ((built.sized).sizes).buffer) (sym (behind_none w)) both;
      behind = λ less. absurd (omega (arith, less));
    }
    own_readers other below w both (suc reached) =
        let sofar = own_readers other below w both reached in
        let there : World = behind_findings w (flat_listed reader_findings reached) in
        subst (λ n. IsLinkedTo other below n (suc reached)) (sym (behind_both w (flat_listed reader_findings reached)
        (reader_findings reached))) (record {
          before = λ few. leave other below reached (λ same. absurd (omega (arith, few, same))) there [] ((built.sized).sizes).buffer
              (sofar.before (omega (arith, few)));
          behind = λ less. elim (eqb_tells reached other) [
            | inl same ↦ subst (λ k. BothAt other below (mail_slots other) (at_tie other).limit (behind_findings there (reader_findings k)))
                (sym same.1) (own_reader other below there (sofar.before (omega (arith, same.1))))
            | inr apart ↦ leave other below reached apart.1 there (mail_slots other) (at_tie other).limit
                (sofar.behind (omega (arith, less, apart.1)))
          ];
        })
      where
        leave : (other : ℕ) (below : other < length subscribers) (reader : ℕ) → (reader ≡ other → ⊥) → (n : World) (waiting : List ℕ)
            (limit : ℕ) → BothAt other below waiting limit n → BothAt other below waiting limit (behind_findings n (reader_findings reader))
        leave other below reader apart n waiting limit both =
            each_leaves (λ f. LeavesBook place f × LeavesLink place other f) (BothAt other below waiting limit)
            (λ k f leaves is. both_stay (built.sized).sizes place other (of_sizes other below) (place * width) size
            ((built.sized).sizes).history kept_slots
            k f waiting limit leaves is) (reader_findings reader) n (reader_leaves other below reader apart) both

    words : (at : ℕ) (own : PublisherPort T U) (message : Message T U)
        → Each (LeavesBook place) (message_findings spelling (at * width) own message)
    words at own message =
        each_word spelling (LeavesBook place) (slot_in (at * width) message.slot)
        own.owner.node_id own.number message.elements (message.sequence, message.user_header) message.values (refl, refl) (refl, refl)
        (refl, refl)
        (λ word below. (refl, refl)) (λ word below value there. (refl, refl))

    leave_other : (at : ℕ) (own : PublisherPort T U) → (at ≡ place → ⊥)
        → Each (LeavesBook place) (history_findings spelling at (at * width) own own.sender.uses.history)
        × Each (LeavesBook place) (flat_listed
        (λ other. link_findings spelling at other (at * width) own (tie own other)) (length subscribers))
    leave_other at own apart =
        each_of spelling (LeavesBook place) at (at * width) own (tie own) (length subscribers)
        (λ k message is. words at own message) (λ reader below k message is. words at own message)
        (λ slot. (refl, ap (λ b. slot_if b slot) (not_same at place apart))) (λ reader slot. (refl, refl)) (λ reader messages. (refl, refl))

    links_leave : Each (LeavesBook place) (flat_listed
        (λ other. link_findings spelling place other (place * width) port (tie port other)) (length subscribers))
    links_leave = each_flat_listed (LeavesBook place)
        (λ other. link_findings spelling place other (place * width) port (tie port other)) (length subscribers) (λ other below. (
          (refl, refl),
          each_waiting spelling (LeavesBook place) place (place * width) port other (connection_of (tie port other) port).waiting
              (λ k message is. words place port message) (λ slot. (refl, refl)),
        ))

    lay_one : (m : World) (reached : ℕ) (own : Option (PublisherPort T U)) → reached < length publishers
        → port_of (slice_index publishers reached) ports ≡ own
        → m.moments ≡ 0 → slice_get m.publishers reached ≡ slice_get (start (built.sized).sizes).publishers reached → IsBookedTo m reached
        → IsBookedTo (publisher_behind spelling domain.state.ports.subscribers subscribers m reached
        (would_fail decision (kept_under (slice_index publishers reached) domain.state.publisher_handlers)) own) (suc reached)
    lay_one m reached None below is fresh rest sofar = record {
      steady = sofar.steady;
      booked = λ less. elim (eqb_tells place reached) [
        | inl same ↦ absurd (cc (sym is ∙ ap (λ n. port_of (slice_index publishers n) ports) (sym same.1) ∙ ap (λ n. port_of n ports)
            (get_or_from_slice_get publishers place number 0 listed) ∙ found_port))
        | inr apart ↦ sofar.booked (omega (arith, less, apart.1))
      ];
      fresh = λ other beneath few. sofar.fresh other beneath (omega (arith, few));
      linked = λ other beneath less. elim (eqb_tells place reached) [
        | inl same ↦ absurd (cc (sym is ∙ ap (λ n. port_of (slice_index publishers n) ports) (sym same.1) ∙ ap (λ n. port_of n ports)
            (get_or_from_slice_get publishers place number 0 listed) ∙ found_port))
        | inr apart ↦ sofar.linked other beneath (omega (arith, less, apart.1))
      ];
    }
    lay_one m reached (Some own) below is fresh rest sofar =
        subst (λ n. IsBookedTo (messages_behind spelling domain.state.ports.subscribers
        subscribers reached own n begun) (suc reached)) (sym first_is) (record {
          steady = steady_behind table (behind_findings begun kept) links (steady_behind table begun kept begun_steady);
          booked = λ less. elim (eqb_tells place reached) [
            | inl same ↦ subst (λ n. Left n own) same.1 (subst (λ p. Left place p) (sym (same_port same.1)) (own_booked same.1))
            | inr apart ↦
                let leaves = leave_other reached own (λ same. apart.1 (sym same)) in
                each_leaves (LeavesBook place) Booked (λ n f leave is. stays n f leave is) links (behind_findings begun kept) leaves.1
                (each_leaves (LeavesBook place) Booked (λ n f leave is. stays n f leave is) kept begun leaves.0
                (begun_booked (λ same. apart.1 (sym same)) (omega (arith, less, apart.1))))
          ];
          fresh = λ other beneath few. passes other beneath [] ((built.sized).sizes).buffer (λ same. absurd (omega (arith, few, same)))
              (begun_linked other beneath [] ((built.sized).sizes).buffer (sofar.fresh other beneath (omega (arith, few))));
          linked = λ other beneath less. elim (eqb_tells place reached) [
            | inl same ↦ subst (λ n. LeftAt other n own) same.1
                (subst (λ p. LeftAt other place p) (sym (same_port same.1)) (own_linked other beneath same.1))
            | inr apart ↦ passes other beneath (mail_slots other) (at_tie other).limit (λ same. apart.1 (sym same))
                (begun_linked other beneath (mail_slots other) (at_tie other).limit
                (sofar.linked other beneath (omega (arith, less, apart.1))))
          ];
        })
      where
        stays : (n : World) (f : Found) → LeavesBook place f → Booked n → Booked (behind_finding n f)
        stays n f leave is = booked_stays table place (place * width) size ((built.sized).sizes).history n f kept_slots leave is

        fails : Bool
        fails = would_fail decision (kept_under (slice_index publishers reached) domain.state.publisher_handlers)

        sized : World
        sized = behind_finding m (found.Slots reached (slots_in own) own.sender.uses.most_loans)

        begun : World
        begun = sender_behind m reached fails own

        here : slice_get publishers reached ≡ Some (slice_index publishers reached)
        here = slice_get-get_or publishers reached 0 below

        intro : slice_get begun.publishers reached ≡ Some (introduced (built.sized).sizes reached fails own)
        intro = (introduces (built.sized).sizes m reached fails own fresh
            (rest ∙ listed_at (publisher_at (built.sized).sizes) ((built.sized).sizes).publishers reached
            (omega (arith, below, ((built.sized).are_agreed).as_many_publishers)))
            (built.room reached (slice_index publishers reached) own here is)).here

        first_is : first_slot (slice_get begun.publishers reached) ≡ reached * width
        first_is = ap first_slot intro

        begun_steady : AreSteady table begun
        begun_steady = steady_on table sized (found.Sender reached own.owner.node_id own.number fails own.last_sequence)
            (steady_on table m (found.Slots reached (slots_in own) own.sender.uses.most_loans) sofar.steady)

        begun_booked : (reached ≡ place → ⊥) → place < reached → Booked begun
        begun_booked apart less =
            stays sized (found.Sender reached own.owner.node_id own.number fails own.last_sequence) (refl, refl)
            (stays m (found.Slots reached (slots_in own) own.sender.uses.most_loans)
            (ap (λ b. number_if b (slots_in own)) (not_same reached place apart), refl) (sofar.booked less))

        kept : List Found
        kept = history_findings spelling reached (reached * width) own own.sender.uses.history

        links : List Found
        links = flat_listed (λ other. link_findings spelling reached other (reached * width) own (tie own other)) (length subscribers)

        same_port : place ≡ reached → own ≡ port
        same_port same = some_is own port (sym is ∙ ap (λ n. port_of (slice_index publishers n) ports) (sym same) ∙ ap
            (λ n. port_of n ports) (get_or_from_slice_get publishers place number 0 listed) ∙ found_port)

        Left : ℕ → PublisherPort T U → Type 0
        Left at of_it = Booked (messages_behind spelling domain.state.ports.subscribers subscribers at of_it (at * width) begun)

        whole : slots_in own ≡ own.sender.uses.first + own.sender.uses.size
        whole = counted own width (built.room reached (slice_index publishers reached) own here is)
            (few_slots (built.sized).sizes (omega (arith, below, ((built.sized).are_agreed).as_many_publishers)) built.small)

        lane : PublisherLaneState
        lane = introduced (built.sized).sizes reached fails own

        long : length lane.port.book.uses ≡ own.sender.uses.first + own.sender.uses.size
        long = ap length (take-replicate (slots_in own) width 0 (built.room reached (slice_index publishers reached) own here is)) ∙
            length-replicate (slots_in own) 0 ∙ whole

        empty_booked : place ≡ reached → IsBooked table place (place * width) size ((built.sized).sizes).history [] begun
        empty_booked same = record {
          steady = begun_steady;
          lane = lane;
          there = ap (slice_get begun.publishers) same ∙ intro;
          from = ap (λ n. n * width) (sym same);
          many = long ∙ ap (λ (p : PublisherPort T U). p.sender.uses.first + p.sender.uses.size) (same_port same);
          most = refl;
          keeps = refl;
        }

        history_booked : place ≡ reached → Booked (behind_findings begun (history_findings spelling place (place * width) port
            port.sender.uses.history))
        history_booked same =
            booked_history table place (place * width) size ((built.sized).sizes).history spelling port port.sender.uses.history [] begun
            (λ at message there. inside_of message (inl (at, there))
            ((built.alone place number port listed found_port).remembered at message there).inside)
            (slots_apart port.sender.uses.history (place * width) fit.once)
            (omega (arith, fit.few, ((built.sized).are_agreed).history)) (empty_booked same)

        own_booked : place ≡ reached → Left place port
        own_booked same =
            each_leaves (LeavesBook place) Booked (λ n f leave is. stays n f leave is)
            (flat_listed (λ other. link_findings spelling place other (place * width) port (tie port other)) (length subscribers))
            (behind_findings begun (history_findings spelling place (place * width) port
            port.sender.uses.history)) links_leave (history_booked same)

        begun_linked : (other : ℕ) → other < length subscribers → (waiting : List ℕ) (limit : ℕ) → Linked other waiting limit m
            → Linked other waiting limit begun
        begun_linked other beneath waiting limit linked =
            linked_stays (built.sized).sizes place other (of_sizes other beneath) sized
            (found.Sender reached own.owner.node_id own.number fails own.last_sequence) waiting limit tt
            (linked_stays (built.sized).sizes place other (of_sizes other beneath) m
            (found.Slots reached (slots_in own) own.sender.uses.most_loans) waiting limit tt linked)

        passes : (other : ℕ) → other < length subscribers → (waiting : List ℕ) (limit : ℕ) → (reached ≡ place → ⊥)
            → Linked other waiting limit begun → Linked other waiting limit (behind_findings (behind_findings begun kept) links)
        passes other beneath waiting limit apart linked =
            let leaves = link_leave_other other reached own apart in
            linked_behind other beneath links (behind_findings begun kept) waiting limit leaves.1
            (linked_behind other beneath kept begun waiting limit leaves.0 linked)

        LeftAt : ℕ → ℕ → PublisherPort T U → Type 0
        LeftAt other at of_it = Linked other (mail_slots other) (at_tie other).limit
            (messages_behind spelling domain.state.ports.subscribers subscribers at of_it (at * width) begun)

        own_linked : (other : ℕ) → other < length subscribers → place ≡ reached → LeftAt other place port
        own_linked other beneath same =
            let linked = begun_linked other beneath [] ((built.sized).sizes).buffer (sofar.fresh other beneath (omega (arith, same))) in
            let history = history_findings spelling place (place * width) port port.sender.uses.history in
            let both : BothAt other beneath [] ((built.sized).sizes).buffer (behind_findings begun history) = (
              history_booked same,
              linked_behind other beneath history begun [] ((built.sized).sizes).buffer (link_history other) linked,
            ) in
            ((own_readers other beneath (behind_findings begun history) both (length subscribers)).behind beneath).1

    start_linked : (other : ℕ) → other < length subscribers → Linked other [] ((built.sized).sizes).buffer (start (built.sized).sizes)
    start_linked other below =
        let readers = of_sizes other below in
        let one : place < ((built.sized).sizes).publishers = omega (arith, within, ((built.sized).are_agreed).as_many_publishers) in
        let row = row_fits place ((built.sized).sizes).subscribers ((built.sized).sizes).publishers ((built.sized).sizes).subscribers one
        (omega arith) in
        let beneath : place * ((built.sized).sizes).subscribers + other < ((built.sized).sizes).publishers *
        ((built.sized).sizes).subscribers
        = omega (arith, row, readers) in
        record {
          steady = record {
            moments = refl;
            table = refl;
            kept = start_kept (built.sized).sizes ((built.sized).found).some ((built.sized).found).ports ((built.sized).found).small;
          };
          leads = start_leads (built.sized).sizes;
          link = link_at (built.sized).sizes (place * ((built.sized).sizes).subscribers + other);
          connects = listed_at (link_at (built.sized).sizes) (((built.sized).sizes).publishers * ((built.sized).sizes).subscribers)
              (place * ((built.sized).sizes).subscribers + other) beneath;
          waits = refl;
          limits = refl;
          back = ap between (start_back (built.sized).sizes (place * ((built.sized).sizes).subscribers + other) beneath);
        }

    lay_all : (reached : ℕ) → reached ≤ length publishers
        → IsBookedTo (so_far decision spelling domain publishers subscribers lanes built reached) reached
    lay_all zero few = record {
      steady = record {
        moments = refl;
        table = refl;
        kept = start_kept (built.sized).sizes ((built.sized).found).some ((built.sized).found).ports ((built.sized).found).small;
      };
      booked = λ less. absurd (omega (arith, less));
      fresh = λ other below few. start_linked other below;
      linked = λ other below less. absurd (omega (arith, less));
    }
    lay_all (suc reached) few =
        let settled = settle decision spelling domain publishers subscribers (built.sized).sizes
        ((built.sized).are_agreed).as_many_publishers built.room reached (omega (arith, few)) in
        lay_one (so_far decision spelling domain publishers subscribers lanes built reached) reached
        (port_of (slice_index publishers reached) ports) (omega (arith, few)) refl settled.moments (settled.rest reached (omega arith))
        (lay_all reached (omega (arith, few)))

    ends_booked : Booked lanes
    ends_booked =
        let laid = lay_all (length publishers) (omega arith) in
        subst Booked (sym built.behind) (readers_leave Booked
        (λ m who one other is. booked_stays table place (place * width) size ((built.sized).sizes).history m (found.Swapped who one other)
        kept_slots (refl, refl) is) publishers domain.state.ports.subscribers subscribers
        (so_far decision spelling domain publishers subscribers lanes built (length publishers)) (length subscribers) (laid.booked within))

    ends_linked : (other : ℕ) → other < length subscribers → Linked other (mail_slots other) (at_tie other).limit lanes
    ends_linked other below =
        let laid = lay_all (length publishers) (omega arith) in
        subst (Linked other (mail_slots other) (at_tie other).limit) (sym built.behind)
        (readers_leave (Linked other (mail_slots other) (at_tie other).limit)
        (λ m who one two is. linked_stays (built.sized).sizes place other (of_sizes other below) m (found.Swapped who one two)
        (mail_slots other) (at_tie other).limit tt is) publishers domain.state.ports.subscribers subscribers
        (so_far decision spelling domain publishers subscribers lanes built (length publishers))
        (length subscribers) (laid.linked other below within))

    -- what waits at its connections is what waits there in the domain
    pub waits_all : (other : ℕ) → other < length subscribers
        → WaitsIf (Some port) (slice_get lanes.publishers place) (Some (tie port other))
        (slice_get lanes.links (place * length subscribers + other))
    waits_all other below =
        let linked = ends_linked other below in
        let connects : slice_get lanes.links (place * length subscribers + other) ≡ Some linked.link =
        ap (λ n. slice_get lanes.links (place * n + other)) (sym ((built.sized).are_agreed).as_many_subscribers) ∙ linked.connects in
        subst (λ l. WaitsIf (Some port) l (Some (tie port other)) (slice_get lanes.links (place * length subscribers + other)))
        (sym ends_booked.there)
        (subst (WaitsIf (Some port) (Some ends_booked.lane) (Some (tie port other))) (sym connects) (
          linked.limits,
          subst (λ first. AreSlotsOf first (linked.link).found (at_tie other).waiting) (sym ends_booked.from)
              (slots_of_all (place * width) (at_tie other).waiting (linked.link).found linked.waits),
        ))

    -- its history is the domain's
    pub keeps_all : KeepsIf (Some port) (slice_get lanes.publishers place)
    keeps_all = subst (KeepsIf (Some port)) (sym ends_booked.there)
        (subst (λ first. AreSlotsOf first (ends_booked.lane).port.book.history port.sender.uses.history) (sym ends_booked.from)
        (slots_of_all (place * width) port.sender.uses.history (ends_booked.lane).port.book.history ends_booked.keeps))

module _ {T U B D : Type 0} (decision : B → Option BackpressureDecision) (asks : D → Bool) (spelling : Spelling T U)
    (domain : Domain T U B D) (publishers subscribers : List ℕ) (lanes : World)
    (built : AreBuilt decision spelling domain publishers subscribers lanes) (none : first_reason decision asks domain ≡ None)
    (numbered : publishers ≡ numbers_of (λ entry. entry.publisher) domain.state.ports.publisher_list.places)
    (read : subscribers ≡ numbers_of (λ entry. entry.subscriber) domain.state.ports.subscriber_list.places) where
  -- a publisher's messages for each subscriber go to a connection that is there
  goes_on : (place number : ℕ) (port : PublisherPort T U) → slice_get publishers place ≡ Some number
      → port_of number domain.state.ports.publishers ≡ Some port → (other : ℕ) → other < length subscribers
      → is_there (connection_of (tie_for port (subscriber_of (slice_index subscribers other) domain.state.ports.subscribers)) port) ≡ true
  goes_on place number port listed found other below = by (subscriber_of (slice_index subscribers other) domain.state.ports.subscribers)
      refl (readers_there decision asks domain subscribers none read other (slice_index subscribers other) (slice_get-get_or subscribers
      other 0 below))
    where
      by : (reader : Option SubscriberPort)
          → subscriber_of (slice_index subscribers other) domain.state.ports.subscribers ≡ reader → is_some reader ≡ true
          → is_there (connection_of (tie_for port reader) port) ≡ true
      by None is some = absurd (cc some)
      by (Some reader) is some =
          let goes = goes_there decision asks domain none place number (slice_index subscribers other) port reader
          (ap (λ numbers. slice_get numbers place) (sym numbered) ∙ listed) found is in
          ap is_open goes.1

  keeps_by : (place number : ℕ) (port : Option (PublisherPort T U)) → slice_get publishers place ≡ Some number
      → port_of number domain.state.ports.publishers ≡ port → is_some port ≡ true → KeepsIf port (slice_get lanes.publishers place)
  keeps_by place number None listed found some = absurd (cc some)
  keeps_by place number (Some port) listed found some =
      keeps_all decision spelling domain publishers subscribers lanes built place number port listed
      found (fits decision asks domain none number port found) (goes_on place number port listed found)

  -- each publisher's history is the domain's
  pub senders_keep : (place : ℕ) → place < length publishers → SenderKeeps domain lanes publishers place
  senders_keep place below =
      let listed = slice_get-get_or publishers place 0 below in
      let number = get_or publishers place 0 in
      subst (λ at. KeepsIf (port_if domain.state.ports.publishers at) (slice_get lanes.publishers place)) (sym listed)
      (keeps_by place number (port_of number domain.state.ports.publishers) listed refl
      (are_there decision asks domain publishers none numbered place number listed))

  waits_by : (indices : List ℕ) → AreTies domain.state.ports publishers subscribers indices → (place other number : ℕ)
      (port : Option (PublisherPort T U)) → other < length subscribers → slice_get publishers place ≡ Some number
      → port_of number domain.state.ports.publishers ≡ port → is_some port ≡ true
      → WaitsIf port (slice_get lanes.publishers place) (slice_get indices (place * length subscribers + other))
      (slice_get lanes.links (place * length subscribers + other))
  waits_by indices ties place other number None below listed found some = absurd (cc some)
  waits_by indices ties place other number (Some port) below listed found some =
      subst (λ index. WaitsIf (Some port) (slice_get lanes.publishers place) index
      (slice_get lanes.links (place * length subscribers + other)))
      (sym (index_is decision asks domain none publishers subscribers indices numbered ties place other number (slice_index subscribers
      other) port
      listed found (slice_get-get_or subscribers other 0 below)))
      (waits_all decision spelling domain publishers subscribers lanes built place number port listed
      found (fits decision asks domain none number port found) (goes_on place number port listed found) other below)

  -- and what waits at each connection
  pub links_wait : (indices : List ℕ) → AreTies domain.state.ports publishers subscribers indices → (place other : ℕ)
      → place < length publishers → other < length subscribers → LinkWaits domain lanes publishers subscribers indices place other
  links_wait indices ties place other within below =
      let listed = slice_get-get_or publishers place 0 within in
      let number = get_or publishers place 0 in
      subst (λ at. WaitsIf (port_if domain.state.ports.publishers at) (slice_get lanes.publishers place)
      (slice_get indices (place * length subscribers + other)) (slice_get lanes.links (place * length subscribers + other))) (sym listed)
      (waits_by indices ties place other number (port_of number domain.state.ports.publishers) below listed refl
      (are_there decision asks domain publishers none numbered place number listed))
