-- A user header that is written leaves a hub standing for what it stood for, and a header tells what the machine answers.
use Rattle.std.proofs.Common.{◌≡◌, ◌≤◌, ◌+◌, ◌*◌, ◌++◌, ◌∷◌, [], ℕ, Bool, true, cond, List, Option, None, Some, refl, sym, ap, subst}
use Rattle.std.proofs.Common.{inl, inr, arith, ◌∙◌}
use Rattle.std.proofs.Math.Logic.{⊎_elim}
use Rattle.std.proofs.lemmas.Bool.Decides.{eqb_tells}
use Rattle.std.specs.Map.{keys_of}
use Rattle.std.specs.Option.{option_map_or}
use Rattle.std.specs.Prelude.{option_and_then, option_map}
use Rattle.iox_command.specs.DomainValues.declared.backpressure.BackpressureDecision.{BackpressureDecision}
use Rattle.iox_command.specs.DomainValues.declared.backpressure.BackpressureInfo.{BackpressureInfo}
use Rattle.iox_command.specs.DomainValues.declared.degradation.DegradationAction.{DegradationAction}
use Rattle.iox_command.specs.DomainValues.declared.degradation.DegradationCause.{DegradationCause}
use Rattle.iox_command.specs.DomainValues.declared.degradation.DegradationInfo.{DegradationInfo}
use Rattle.iox_command.specs.NegotiateBase.DescribeBase.declared.message_type.MessageTypeDetails.{MessageTypeDetails}
use Rattle.iox_command.specs.NegotiateBase.DescribeBase.declared.pattern.MessagingPattern.{MessagingPattern}
use Rattle.iox_command.specs.NegotiateBase.DescribeBase.declared.type_detail.TypeVariant.{TypeVariant}
use Rattle.iox_command.specs.declared.command.Command.TheVariants as command
use Rattle.iox_command.specs.declared.reply.Reply.TheVariants as reply
use Rattle.iox_delivery.specs.Holding.{message_found}
use Rattle.iox_delivery.specs.Publishing.{changed_at}
use Rattle.iox_delivery.specs.Subscribing.{header_found}
use Rattle.iox_delivery.specs.declared.port_id.PortId.{PortId}
use Rattle.iox_domain.specs.Calls as calls
use Rattle.iox_domain.specs.DescribeBase.declared.header.Header.{Header}
use Rattle.iox_domain.specs.DomainPorts.Messages.{Message, write_user_header}
use Rattle.iox_domain.specs.DomainPorts.MessagesSending.{has_loan}
use Rattle.iox_domain.specs.DomainPorts.Publishers.{port_of}
use Rattle.iox_domain.specs.DomainPorts.declared.attached.Taken.{Taken}
use Rattle.iox_domain.specs.DomainPorts.declared.publisher_port.PublisherPort.{PublisherPort}
use Rattle.iox_domain.specs.Fitting.{asked_types}
use Rattle.iox_domain.specs.Lending.{written_in}
use Rattle.iox_domain.specs.Reading.{header_at_port, header_of, sample_at_port}
use Rattle.iox_domain.specs.Tries.{how_often}
use Rattle.iox_domain.specs.declared.domain_id.DomainId.{DomainId}
use Rattle.iox_domain.specs.declared.ports.service_ports.ServicePorts.{ServicePorts}
use Rattle.iox_domain_machine.proofs.Found.{never_some, same_everywhere, same_some}
use Rattle.iox_domain_machine.proofs.Headers.{header_matches, user_header_stands}
use Rattle.iox_domain_machine.proofs.Reading.{message_there, sample_there}
use Rattle.iox_domain_machine.proofs.SentHeaders.{is_told}
use Rattle.iox_domain_machine.proofs.Services.{joined, parted}
use Rattle.iox_domain_machine.specs.Naming.{Naming}
use Rattle.iox_domain_machine.specs.SentHeaders.{headed_by, own_numbers}
use Rattle.iox_domain_machine.specs.Services.{DomainsStandFor, StandInTurn, those_of}
use Rattle.iox_domain_machine.specs.Standing.{StandsFor}
use Rattle.iox_domain_machine.specs.Tables.{sample_as}
use Rattle.iox_hub_base.specs.AsHome.{hub_ports, with_hub_ports}
use Rattle.iox_hub_base.specs.declared.hub.Hub.{Hub}
use Rattle.iox_hub_commands.proofs.Agreeing.{same_factories}
use Rattle.iox_hub_commands.proofs.Grown.{Moves, by_call, changed_moves}
use Rattle.iox_hub_commands.proofs.Measures.{Counts, call_steps, changed_counts, steps_as}
use Rattle.iox_hub_commands.proofs.ServicesAgree.{kept_agrees}
use Rattle.iox_hub_commands.specs.Reading.{sequence_under}
use Rattle.iox_hub_commands.specs.Replies.{sequence_reply}
use Rattle.iox_hub_commands.specs.Terms.{Terms}
use Rattle.iox_hub_commands.specs.declared.numbered_hub.NumberedHub.{NumberedHub}
use Rattle.iox_hub_commands.specs.declared.ports.made.MadeSample.{MadeSample}
use Rattle.iox_hub_machine.proofs.Going.{sample_goes, some_place}
use Rattle.iox_hub_machine.proofs.Lifted.{alike_themselves, rested}
use Rattle.iox_hub_machine.proofs.Moving as moving
use Rattle.iox_hub_machine.proofs.PortMeasure.{port_measure}
use Rattle.iox_hub_machine.proofs.Resting.{Rests, changed_rests}
use Rattle.iox_hub_machine.proofs.RunsOn.{all_fine, from_rising, to_rising}
use Rattle.iox_hub_machine.proofs.TypedSteps.{by_step}
use Rattle.iox_hub_machine.specs.ClosingLaws.{IsCome}
use Rattle.iox_hub_machine.specs.Ran.{AreRising, RanAtMost, StandsAfter}
use Rattle.iox_hub_machine.specs.Services.{HubStandsFor}
use Rattle.iox_hub_machine.specs.Standing.{PortsStandFor, held_in, lent_in}
use Rattle.iox_hub_machine.specs.TypedHeaders.{ChangesUserHeader, HeaderIsStep, HeaderNamesPublisher, HeaderReadAsSent}
use Rattle.iox_hub_machine.specs.TypedHeaders.{UserHeadersKeepStanding, UserHeadersNeedNoCommand}
use Rattle.iox_hub_machine.specs.TypedTerms.{asked_terms}
use Rattle.iox_machine.specs.Choices.{Choices}
use Rattle.iox_machine.specs.Run.{Runs}
use Rattle.iox_machine.specs.Service.{Service}
use Rattle.iox_machine.specs.State.{State, new_state}
use Rattle.iox_negotiate.proofs.Agreements.{no-past}

module _ {T U B D : Type 0} (types : MessageTypeDetails) (choices : Choices T)
    (degrades : B → DegradationCause → DegradationInfo → DegradationAction → Type 0)
    (decides : B → BackpressureInfo → BackpressureDecision → Type 0)
    (reader_degrades : D → DegradationCause → DegradationInfo → DegradationAction → Type 0) where
  -- ---- the ports of one domain are others, and stand for the same service

  module _ (naming : ℕ → Naming) (order : List (ℕ × ServicePorts T U)) (old : NumberedHub T U B D) (state : State T)
      (stands : PortsStandFor choices degrades decides reader_degrades naming order old state) (id : DomainId)
      (ports after : ServicePorts T U) (found : hub_ports id old.hub ≡ Some ports)
      (alike : (service : Service T)
      → StandsFor (naming id.service) (those_of id.service (lent_in old.made)) (those_of id.service (held_in old.made))
      old.hub.expired_connection_buffer ports service
      → StandsFor (naming id.service) (those_of id.service (lent_in old.made)) (those_of id.service (held_in old.made))
      old.hub.expired_connection_buffer after service) where
    abbrev new : NumberedHub T U B D
    new = record old { hub = with_hub_ports id after old.hub }

    abbrev order_then : List (ℕ × ServicePorts T U)
    order_then = moving.order_then degrades decides reader_degrades types choices naming order old new state command.Node reply.Done id
        ports after (naming id.service) stands found refl refl refl

    abbrev naming_then : ℕ → Naming
    naming_then = moving.naming_then degrades decides reader_degrades types choices naming order old new state command.Node reply.Done id
        ports after (naming id.service) stands found refl refl refl

    abbrev Standing : (ℕ → Naming) → List (ℕ × ServicePorts T U) → Type 0
    Standing names domains = DomainsStandFor names (lent_in old.made) (held_in old.made) old.hub.expired_connection_buffer domains
        state.services

    same_naming : naming ≡ naming_then
    same_naming = same_everywhere naming naming_then
        (λ other. ⊎_elim
        (λ same. ap naming same.1 ∙ sym (ap (λ (b : Bool). cond b (naming id.service) (naming other)) same.0))
        (λ off. sym (ap (λ (b : Bool). cond b (naming id.service) (naming other)) off.0)) (eqb_tells other id.service))

    domains_then : Standing naming order_then
    domains_then =
        let between = moving.between degrades decides reader_degrades types choices naming order old new state command.Node reply.Done id
        ports after (naming id.service) stands found refl refl refl in
        let before : Standing naming (between.before ++ (id.service, ports) ∷ between.behind) =
        subst (Standing naming)
        (moving.ports_before degrades decides reader_degrades types choices naming order old new state command.Node reply.Done id ports
        after (naming id.service) stands found refl refl refl) stands.domains in
        let (first, service, last, are, stand_before, its, stand_behind) = parted naming (lent_in old.made) (held_in old.made)
        old.hub.expired_connection_buffer between.before between.behind (id.service, ports) state.services before.each in record {
          each = subst (StandInTurn naming (lent_in old.made) (held_in old.made) old.hub.expired_connection_buffer order_then) (sym are)
              (joined naming (lent_in old.made) (held_in old.made) old.hub.expired_connection_buffer between.before between.behind
              (id.service, after) first service last stand_before (alike service its) stand_behind);
          once = λ number. subst (λ (keys : List ℕ). how_often number keys ≤ 1) (sym between.keys) (stands.domains.once number);
          loans = stands.domains.loans;
          samples = stands.domains.samples;
          publishers = stands.domains.publishers;
          subscribers = stands.domains.subscribers;
        }

    same_keys : keys_of order_then ≡ keys_of order
    same_keys = (moving.between degrades decides reader_degrades types choices naming order old new state command.Node reply.Done id ports
        after (naming id.service) stands found refl refl refl).keys

    ports_kept : PortsStandFor choices degrades decides reader_degrades naming order_then new state
    ports_kept =
        subst (λ (names : ℕ → Naming). PortsStandFor choices degrades decides reader_degrades names order_then new state)
        (sym same_naming)
        (moving.stands_then degrades decides reader_degrades types choices naming order old new state command.Node reply.Done id ports
        after (naming id.service) stands found refl refl refl state.services
        (record { publishers = λ number. refl; subscribers = λ number. refl })
        (subst (λ (names : ℕ → Naming). Standing names order_then) same_naming domains_then)
        refl refl stands.numbers stands.loans stands.samples)

  -- ---- a user header is written

  module _ (id : DomainId) (number slot : ℕ) (test : PublisherPort T U → Bool) (written : U) (old : NumberedHub T U B D) where
    abbrev writing : ServicePorts T U → ServicePorts T U
    writing = written_in number test slot (write_user_header written)

    abbrev hub_then : Option (ServicePorts T U) → Hub T U B D
    hub_then found = changed_at (λ after. with_hub_ports id after old.hub) writing found old.hub

    abbrev its : Hub T U B D
    its = hub_then (hub_ports id old.hub)

    rests : Rests old.hub its
    rests = changed_rests id writing (hub_ports id old.hub) old.hub

    moves : Moves id old.hub its
    moves = changed_moves id writing
        (λ ports. by_call (calls.Writes number slot test (write_user_header written)) ports (writing ports) refl) old.hub

    counts : Counts port_measure 0 0 old.hub its
    counts = changed_counts port_measure 0 id writing
        (λ ports. steps_as port_measure 0 (0 + 0) 0 0 ports (writing ports) (omega arith)
        (call_steps port_measure (calls.Writes number slot test (write_user_header written)) ports (writing ports) refl)) old.hub

    ran_kept : (most : ℕ) → RanAtMost most old → RanAtMost most (record old { hub = its })
    ran_kept most on =
        let few = counts (all_fine old.hub.services.domains) in
        let fewer = few.1 in
        let before = on.ports in record {
          grown = moves.1 on.grown;
          rise = on.rise;
          agreed = kept_agrees old.factories.made old.factories.made old.hub its (no-past old.hub.table its.table moves.2.0)
              (same_factories old.factories.made old.factories.made refl) moves.2.1 on.agreed;
          services = from_rising its.services.domains (rests.rising (to_rising old.hub.services.domains on.services));
          counts = subst (λ (it : Hub T U B D). AreRising it.factory_counts) (sym rests.rest) on.counts;
          nodes = subst (λ (it : Hub T U B D). it.nodes ≤ most) (sym rests.rest) on.nodes;
          numbers = on.numbers;
          locks = subst (λ (it : Hub T U B D). it.table.next ≤ 1 + 17 * most) (sym rests.rest) on.locks;
          ports = omega (arith, fewer, before);
        }

    -- the ports of a domain stand for the same service
    alike : (naming : ℕ → Naming) (ports : ServicePorts T U) (service : Service T)
        → StandsFor (naming id.service) (those_of id.service (lent_in old.made)) (those_of id.service (held_in old.made))
        old.hub.expired_connection_buffer ports service
        → StandsFor (naming id.service) (those_of id.service (lent_in old.made)) (those_of id.service (held_in old.made))
        old.hub.expired_connection_buffer (writing ports) service
    alike naming ports service stands =
        user_header_stands T U (naming id.service) (those_of id.service (lent_in old.made)) (those_of id.service (held_in old.made))
        old.hub.expired_connection_buffer ports service number slot test written stands

    hub_kept : (names : List (List ℕ)) (taken : MessagingPattern → List ℕ → List ℕ) (naming : ℕ → Naming)
        (order : List (ℕ × ServicePorts T U)) (state : State T) (found : Option (ServicePorts T U)) → hub_ports id old.hub ≡ found
        → Rests old.hub (hub_then found)
        → HubStandsFor choices degrades decides reader_degrades names taken naming order old state
        → (order_after : List (ℕ × ServicePorts T U))
        × HubStandsFor choices degrades decides reader_degrades names taken naming order_after (record old { hub = hub_then found }) state
    hub_kept names taken naming order state None none same stands = (order, stands)
    hub_kept names taken naming order state (Some ports) there same stands = (
      order_then naming order old state stands.ports id ports (writing ports) there (alike naming ports),
      rested choices degrades decides reader_degrades names taken naming naming order
          (order_then naming order old state stands.ports id ports (writing ports) there (alike naming ports)) old
          (record old { hub = with_hub_ports id (writing ports) old.hub }) state state.made state.services stands same refl refl refl
          (same_keys naming order old state stands.ports id ports (writing ports) there (alike naming ports))
          (alike_themselves state.services)
          (ports_kept naming order old state stands.ports id ports (writing ports) there (alike naming ports)),
    )

    pub header_keeps : (names : List (List ℕ)) (most : ℕ) (state : State T)
        → StandsAfter types choices degrades decides reader_degrades names most old state
        → StandsAfter types choices degrades decides reader_degrades names most (record old { hub = its }) state
    header_keeps names most state it =
        let kept = hub_kept names it.taken it.naming it.order state (hub_ports id old.hub) refl rests it.stands in record {
          taken = it.taken;
          naming = it.naming;
          order = kept.0;
          stands = kept.1;
          came = subst (λ (n : ℕ). IsCome types choices n state)
              (sym (ap (λ (one : Hub T U B D). one.expired_connection_buffer) rests.rest)) it.came;
          ran = ran_kept most it.ran;
        }

    pub header_buffer : its.expired_connection_buffer ≡ old.hub.expired_connection_buffer
    header_buffer = ap (λ (one : Hub T U B D). one.expired_connection_buffer) rests.rest

-- ---- what a header tells

sequence_by_message : {T U : Type 0} (port : PublisherPort T U) (header : Header) (found : Option (Message T U))
    → option_map (header_of port) found ≡ Some header → option_map (λ (message : Message T U). message.sequence) found
    ≡ Some header.sequence
sequence_by_message port header None is = never_some header is
sequence_by_message port header (Some message) is = ap (λ (it : Header). Some it.sequence) (same_some (header_of port message) header is)

sequence_by_port : {T U : Type 0} (taken : Taken) (header : Header) (found : Option (PublisherPort T U))
    → header_at_port taken found ≡ Some header
    → option_map (λ (message : Message T U). message.sequence) (sample_at_port taken found) ≡ Some header.sequence
sequence_by_port taken header None is = never_some header is
sequence_by_port taken header (Some port) is = sequence_by_message port header (sample_at_port taken (Some port)) is

sequence_told : {T U : Type 0} (taken : Taken) (header : Header) (found : Option (ServicePorts T U))
    → header_found taken found ≡ Some header
    → option_map (λ (message : Message T U). message.sequence) (message_found taken found) ≡ Some header.sequence
sequence_told taken header None is = never_some header is
sequence_told taken header (Some ports) is = sequence_by_port taken header (port_of taken.publisher ports.publishers) is

-- ---- the laws

module _ {T U B D : Type 0} (variant : TypeVariant) (terms : Terms T U B D) (choices : Choices T) where
  -- the terms of a hub whose messages are values, or slices of them
  abbrev terms_so : Terms T U B D
  terms_so = asked_terms variant terms

  -- the types of the messages: values, or slices of them
  abbrev types : MessageTypeDetails
  types = asked_types variant terms.payload terms.user_header

  -- the publishers of which a user header is written, if the slot is lent, or in any case
  its_test : (lender : PortId) (slot : ℕ) (written : U) (old later : Hub T U B D)
      → ChangesUserHeader terms_so choices lender slot written old later
      → (test : PublisherPort T U → Bool)
      × (later ≡ changed_at (λ after. with_hub_ports lender.domain after old)
      (written_in lender.number test slot (write_user_header written)) (hub_ports lender.domain old) old)
  its_test lender slot written old later (inl writes) = ((λ publisher. has_loan slot publisher.sender.uses), writes)
  its_test lender slot written old later (inr is) = ((λ publisher. true), is)

  pub user_headers_keep : UserHeadersKeepStanding terms_so choices
  user_headers_keep slot lender written old hub names most state changes it =
      let (test, is) = its_test lender slot written old.hub hub changes in
      subst (λ (one : Hub T U B D). StandsAfter types choices terms.degrades terms.decides terms.reader_degrades names
      most (record old { hub = one }) state) (sym is)
      (header_keeps types choices terms.degrades terms.decides terms.reader_degrades lender.domain lender.number slot
      test written old names most state it)

  pub user_headers_need_none : UserHeadersNeedNoCommand terms_so choices
  user_headers_need_none slot lender written old hub names asked answers changes called =
      let (test, is) = its_test lender slot written old.hub hub changes in record {
        state = called.state;
        run = subst (λ (n : ℕ). Runs types choices n asked new_state answers called.state)
            (sym (ap (λ (one : Hub T U B D). one.expired_connection_buffer) is
            ∙ header_buffer types choices terms.degrades terms.decides terms.reader_degrades lender.domain lender.number
            slot test written old)) called.run;
        stands = user_headers_keep slot lender written old hub names _ called.state changes called.stands;
      }

  pub header_names : HeaderNamesPublisher terms_so choices
  header_names names most hub state number made header it there found =
      let goes = sample_goes choices terms.degrades terms.decides terms.reader_degrades it.naming it.order hub state
      it.stands.ports number made there in
      let id = made.port.domain in
      let placed = some_place choices terms.degrades terms.decides terms.reader_degrades it.naming it.order hub state
      it.stands.ports id goes.ports goes.found in
      let (sample, has, tells) = header_matches T U (it.naming id.service) (those_of id.service (lent_in hub.made))
      (those_of id.service (held_in hub.made)) hub.hub.expired_connection_buffer goes.ports placed.service number made.taken placed.stands
      goes.mine in
      let same : tells.header ≡ header =
      same_some tells.header header (sym tells.found ∙ (sym (ap (header_found made.taken) goes.found) ∙ found)) in (
        sample,
        placed.samples number made.taken goes.goes ∙ has,
        sym (ap (λ (one : Header). one.sequence) same) ∙ tells.sequence,
        (λ publisher port port_there same_domain same_id.
            sym tells.publisher
            ∙ ap (it.naming id.service).publisher (ap (λ (one : Header). one.publisher_id) same ∙ sym same_id)
            ∙ ap (λ (n : ℕ). (it.naming n).publisher port.number) (sym same_domain)
            ∙ (it.stands.ports.publishers.known publisher port port_there).0),
      )

  pub header_read_as_sent : HeaderReadAsSent terms_so choices
  header_read_as_sent names most hub state number made sent it there tell =
      let goes = sample_goes choices terms.degrades terms.decides terms.reader_degrades it.naming it.order hub state
      it.stands.ports number made there in
      let id = made.port.domain in
      let ports = goes.ports in
      let found = goes.found in
      let placed = some_place choices terms.degrades terms.decides terms.reader_degrades it.naming it.order hub state
      it.stands.ports id ports found in
      let lent = those_of id.service (lent_in hub.made) in
      let held = those_of id.service (held_in hub.made) in
      let (message, is) = message_there (it.naming id.service) lent held hub.hub.expired_connection_buffer ports placed.service number
      made.taken placed.stands goes.mine in
      let told = is_told own_numbers sent ports made.taken message (tell ports found) is in
      let own : told.port.number ≡ made.taken.publisher = placed.stands.numbered made.taken.publisher told.port told.there in (
        sample_as (it.naming id.service) ports made.taken,
        placed.samples number made.taken goes.goes
            ∙ sample_there (it.naming id.service) lent held hub.hub.expired_connection_buffer ports placed.service number made.taken
            placed.stands goes.mine,
        headed_by own_numbers (header_of told.port message) message,
        told.among,
        sym (ap (λ (one : Option (Message T U)). option_map_or (λ (it : Message T U). it.values) one []) is),
        sym (ap (option_and_then (λ (it : Message T U). it.sequence)) is),
        ap (header_found made.taken) found ∙ told.header,
        ap (λ (one : Option (ServicePorts T U)). option_map (λ (it : Message T U). it.user_header) (message_found made.taken one)) found
            ∙ ap (option_map (λ (it : Message T U). it.user_header)) is,
        (λ publisher port port_there same_domain same_id.
            ap (it.naming id.service).publisher (sym own ∙ sym same_id)
            ∙ ap (λ (n : ℕ). (it.naming n).publisher port.number) (sym same_domain)
            ∙ (it.stands.ports.publishers.known publisher port port_there).0),
      )

  pub header_is_step : HeaderIsStep terms_so choices
  header_is_step number made old header there found =
      by_step variant terms choices (command.Sequence number) tt old old (reply.Sequence header.sequence) (λ names most state it. (
        sym (ap (λ (one : Option MadeSample). sequence_reply (sequence_under hub_ports one old.hub)) there
            ∙ ap sequence_reply (sequence_told made.taken header (hub_ports made.port.domain old.hub) found)),
        refl,
      ))
