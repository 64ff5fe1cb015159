-- Nodes outside the hub do steps: what the hub has stands.
use Rattle.std.proofs.Common.{◌≡◌, ℕ, ◌+◌, ◌^◌, ◌<◌, Bool, true, false, cond, ◌&&◌, nat_lt, List, [], ◌∷◌, length, map, fold, take}
use Rattle.std.proofs.Common.{Result, Ok, Err, refl, sym, ap, subst, ◌∙◌, inl, inr, arith}
use Rattle.std.proofs.lemmas.Bool.{lt-ltb}
use Rattle.std.specs.List.{AllByRecursion, IsAmong}
use Rattle.std.specs.declared.alloc.AllocError.{AllocError}
use Rattle.iox_command.specs.DomainValues.declared.backpressure.BackpressureDecision.{BackpressureDecision}
use Rattle.iox_command.specs.DomainValues.declared.backpressure.BackpressureInfo.{BackpressureInfo}
use Rattle.iox_command.specs.DomainValues.declared.degradation.DegradationAction.{DegradationAction}
use Rattle.iox_command.specs.DomainValues.declared.degradation.DegradationCause.{DegradationCause}
use Rattle.iox_command.specs.DomainValues.declared.degradation.DegradationInfo.{DegradationInfo}
use Rattle.iox_command.specs.NegotiateBase.DescribeBase.Hash.{service_hash_of}
use Rattle.iox_command.specs.NegotiateBase.DescribeBase.declared.message_type.MessageTypeDetails.{MessageTypeDetails}
use Rattle.iox_command.specs.NegotiateBase.DescribeBase.declared.pattern.MessagingPattern.{MessagingPattern}
use Rattle.iox_command.specs.NegotiateBase.declared.request.Opened.{Opened}
use Rattle.iox_command.specs.declared.command.Command.TheVariants as command
use Rattle.iox_command.specs.declared.refusal.HubError.TheVariants.{OutOfMemory}
use Rattle.iox_command.specs.declared.refusal.Refusal.TheVariants as refusal
use Rattle.iox_command.specs.declared.reply.Reply.{Reply}
use Rattle.iox_command.specs.declared.reply.Reply.TheVariants as reply
use Rattle.iox_command.specs.declared.step.ForeignStep.{ForeignStep}
use Rattle.iox_domain.specs.declared.ports.service_ports.ServicePorts.{ServicePorts}
use Rattle.iox_domain_machine.specs.Naming.{Naming}
use Rattle.iox_hub_base.specs.Foreign.{told}
use Rattle.iox_hub_base.specs.declared.hub.Hub.{Hub}
use Rattle.iox_hub_commands.specs.CommandSteps as hub
use Rattle.iox_hub_commands.specs.AgreementLaws.{carried_by}
use Rattle.iox_hub_commands.specs.Replies.{foreign_reply}
use Rattle.iox_hub_commands.specs.ServicesTables.{parts_of, pattern_in}
use Rattle.iox_hub_commands.specs.declared.numbered_hub.NumberedHub.{NumberedHub}
use Rattle.iox_hub_commands.specs.declared.services.made.MadeFactory.{MadeFactory}
use Rattle.iox_hub_machine.proofs.Meantime.{same_numbers, seats_stay, service_stays}
use Rattle.iox_hub_machine.proofs.PortsStay.{ports_stay}
use Rattle.iox_hub_commands.specs.Steps.{PublishesInForm}
use Rattle.iox_hub_commands.specs.Terms.{Terms}
use Rattle.iox_hub_machine.proofs.Formed.{all_formed}
use Rattle.iox_hub_machine.proofs.SameSteps.{same_list}
use Rattle.iox_hub_base.proofs.SameTable.{acts-keep}
use Rattle.iox_hub_machine.specs.Seats.{seats_in}
use Rattle.iox_hub_machine.specs.ServiceLaws.{ForeignMatches, IsFollowed}
use Rattle.iox_hub_machine.specs.Services.{FactoryStands, HubStandsFor}
use Rattle.iox_machine.specs.Choices.{Choices}
use Rattle.iox_machine.specs.AgreementLaws.{life_of}
use Rattle.iox_machine.specs.Phase.{Phase, acted, same_pattern}
use Rattle.iox_machine.specs.Run as machine
use Rattle.iox_machine.specs.State.{State, with_phase}
use Rattle.std.specs.Prelude.{bytes_eq}
use Rattle.iox_negotiate_machine.proofs.Acted.{all-stand, goes-on, later, left-none, named, steps-match}
use Rattle.iox_negotiate_machine.specs.CallLaws.{IsServiceIn}
use Rattle.iox_negotiate_machine.specs.Laws.{GoOn, HasStepForm, HaveOwnHashes, table_step_of}
use Rattle.iox_negotiate_machine.specs.Standing.{TableStands}
use Rattle.iox_negotiate_table.specs.Contents.{Contents}
use Rattle.iox_negotiate_table.specs.Stepped.{ActsAll}
use Rattle.iox_negotiate_table.specs.declared.step.ForeignStep.{ForeignStep as TableStep}

-- ---- a phase after some steps

module _ {T : Type 0} (names : List (List ℕ)) (own : HaveOwnHashes names) (types : MessageTypeDetails) (pattern : MessagingPattern)
    (name : List ℕ) (asked : IsAmong names name) (taken : MessagingPattern → List ℕ → List ℕ) (steps : List ForeignStep)
    (state : State T) where
  -- the phase that the steps lead to
  abbrev pub next_phase : Phase
  next_phase = fold (acted types pattern) (state.phases pattern name) steps

  -- the machine after them
  abbrev pub after_steps : State T
  after_steps = with_phase pattern name next_phase state

  by_name : (P : MessagingPattern → List ℕ → Phase → Type 0) (one : MessagingPattern) (other : List ℕ)
      → P pattern name next_phase → P one other (state.phases one other) → P one other (after_steps.phases one other)
  by_name P one other here there = tested (same_pattern one pattern && bytes_eq other name) refl
    where
      tested : (b : Bool) → (same_pattern one pattern && bytes_eq other name) ≡ b
          → P one other (cond b next_phase (state.phases one other))
      tested true is =
          let same = named names own pattern name asked taken one other is in
          subst (λ (p : MessagingPattern). P p other next_phase) (sym same.0)
          (subst (λ (n : List ℕ). P pattern n next_phase) (sym same.1) here)
      tested false is = there

  seats_then : (one : MessagingPattern) (other : List ℕ) (node : ℕ)
      → seats_in node (after_steps.phases one other) ≡ seats_in node (state.phases one other)
  seats_then one other node =
      by_name (λ p n phase. seats_in node phase ≡ seats_in node (state.phases p n)) one other
      (seats_stay types pattern node (state.phases pattern name) steps) refl

  service_then : (one : MessagingPattern) (other : List ℕ) (node : ℕ) (opened : Opened)
      → IsServiceIn node one other (state.phases one other) (taken one other) opened
      → (life_of (after_steps.phases one other) ≡ life_of (state.phases one other))
      × IsServiceIn node one other (after_steps.phases one other) (taken one other) opened
  service_then one other node opened =
      by_name (λ p n phase. IsServiceIn node p n (state.phases p n) (taken p n) opened
      → (life_of phase ≡ life_of (state.phases p n)) × IsServiceIn node p n phase (taken p n) opened) one other
      (service_stays types pattern node name (taken pattern name) opened (state.phases pattern name) steps)
      (λ is. (refl, is))

  -- ---- the hub

  module _ {U B D : Type 0} (choices : Choices T) (degrades : B → DegradationCause → DegradationInfo → DegradationAction → Type 0)
      (decides : B → BackpressureInfo → BackpressureDecision → Type 0)
      (reader_degrades : D → DegradationCause → DegradationInfo → DegradationAction → Type 0)
      (naming : ℕ → Naming) (order : List (ℕ × ServicePorts T U)) (hub : NumberedHub T U B D) (table : Contents)
      (stands : HubStandsFor choices degrades decides reader_degrades names taken naming order hub state) (id : table.id ≡ hub.hub.table.id)
      (since : MessagingPattern → List ℕ → List ℕ) (goes_on : GoOn taken since)
      (stands_then : TableStands names since table after_steps) where
    factory_then : (number : ℕ) (made : MadeFactory) → FactoryStands names taken hub.hub.table state number made
        → FactoryStands names since table after_steps number made
    factory_then number made it =
        let one = pattern_in made in
        let other = (carried_by made).name in
        let is = service_then one other (parts_of made).0.node (parts_of made).0.service it.serves in
        record {
          asked = it.asked;
          owner = it.owner;
          storage = it.storage ∙ sym id;
          serves = subst (λ (numbers : List ℕ). IsServiceIn (parts_of made).0.node one other (after_steps.phases one other) numbers
              (parts_of made).0.service)
              (sym (same_numbers one other hub.hub.table table (taken one other) (since one other) (state.phases one other)
              (after_steps.phases one other) (stands.table.phases one other it.asked) (stands_then.phases one other it.asked) is.0
              (goes_on one other)))
              is.1;
        }

    pub hub_then : HubStandsFor choices degrades decides reader_degrades names since naming order
        (record hub { hub = record hub.hub { table = table } }) after_steps
    hub_then = record {
      nodes = stands.nodes;
      table = stands_then;
      id = stands.id ∙ sym id;
      factories = record {
        numbers = stands.factories.numbers;
        owners = stands.factories.owners;
        same = stands.factories.same;
        each = λ number made found. factory_then number made (stands.factories.each number made found);
        seats = λ one other node among. seats_then one other node ∙ stands.factories.seats one other node among;
        counts = stands.factories.counts;
        opened = stands.factories.opened;
      };
      served = stands.served;
      ports = ports_stay choices degrades decides reader_degrades naming order hub state table hub.hub.nodes state.made.nodes hub.factories
          hub.pledged
          after_steps.phases stands.ports;
    }

some_steps : (steps : List ForeignStep) → (steps ≡ [] → ⊥) → nat_lt 0 (length steps) ≡ true
some_steps [] some = absurd (some refl)
some_steps (one ∷ steps) some = lt-ltb 0 (length (one ∷ steps)) (omega arith)

module _ {T U B D : Type 0} (terms : Terms T U B D) (choices : Choices T) where
  module _ (names : List (List ℕ)) (pattern : MessagingPattern) (name : List ℕ) (steps : List ForeignStep) (asked : IsAmong names name)
      (taken : MessagingPattern → List ℕ → List ℕ) (naming : ℕ → Naming)
      (order : List (ℕ × ServicePorts T U)) (old new : NumberedHub T U B D) (state : State T) (answer : Reply T) (own : HaveOwnHashes names)
      (room : old.hub.table.next + length steps < 2 ^ 64)
      (stands : HubStandsFor choices terms.degrades terms.decides terms.reader_degrades names taken naming order old state) where
    -- the machine after some of the steps
    abbrev after : List ForeignStep → State T
    after some = after_steps names own terms.types pattern name asked taken some state

    -- what is shown where some of the steps were done
    settled : (table : Contents) (some : List ForeignStep) → new ≡ record old { hub = record old.hub { table = table } }
        → table.id ≡ old.hub.table.id
        → (since : MessagingPattern → List ℕ → List ℕ) → GoOn taken since → TableStands names since table (after some)
        → machine.Step terms.types choices old.hub.expired_connection_buffer (command.Foreign pattern name steps) state answer
        (after some)
        → IsFollowed terms choices names (command.Foreign pattern name steps) old new state answer
    settled table some is id since goes_on stands_then step = record {
      taken = since;
      naming = naming;
      order = order;
      after = after some;
      step = step;
      stands = subst (λ (hub : NumberedHub T U B D). HubStandsFor choices terms.degrades terms.decides terms.reader_degrades names since
          naming order hub (after some)) (sym is)
          (hub_then names own terms.types pattern name asked taken some state choices terms.degrades terms.decides terms.reader_degrades
          naming order old table stands id since goes_on stands_then);
    }

    acted_then : (happened : Result (Unit {0}) AllocError) → answer ≡ foreign_reply (told happened)
        → AllByRecursion (HasStepForm terms.types name) steps
        → ActsAll (service_hash_of pattern name) (map (table_step_of terms.types name) steps) old.hub.table happened new.hub.table
        → new ≡ record old { hub = record old.hub { table = new.hub.table } }
        → IsFollowed terms choices names (command.Foreign pattern name steps) old new state answer
    acted_then (Ok done) replied form did is =
        let all = steps-match T names terms.types pattern name steps taken old.hub.table new.hub.table (Ok done) state own asked form room
        stands.table did in
        settled new.hub.table steps is (acts-keep _ _ old.hub.table new.hub.table (Ok done) did) all.0 all.1 all.2 (inl (replied, refl))
    acted_then (Err lacking) replied form did is =
        let all = steps-match T names terms.types pattern name steps taken old.hub.table new.hub.table (Err lacking) state own asked form
        room stands.table did in
        settled new.hub.table (take all.2.0 steps) is (acts-keep _ _ old.hub.table new.hub.table (Err lacking) did) all.0 all.1 all.2.2
        (inr (all.2.0, lt-ltb _ _ all.2.1, (replied, refl)))

    -- where no memory was found for the list of steps none is done
    none_done : (steps ≡ [] → ⊥) → answer ≡ reply.Refused (refusal.Hub OutOfMemory) → new ≡ old
        → IsFollowed terms choices names (command.Foreign pattern name steps) old new state answer
    none_done some replied is =
        settled old.hub.table [] is refl (later names own pattern name asked taken []) (goes-on names own pattern name asked taken [])
        (all-stand names own pattern name asked taken old.hub.table old.hub.table state stands.table
        (left-none (service_hash_of pattern name) old.hub.table old.hub.table stands.table.reached refl) [] (state.phases pattern name)
        (stands.table.phases pattern name asked))
        (inr (0, some_steps steps some, (replied, refl)))

    pub followed : hub.Step (record terms { is_default = choices.is_default }) (command.Foreign pattern name steps) old (Ok answer) new
        → IsFollowed terms choices names (command.Foreign pattern name steps) old new state answer
    followed (acted, inl (((happened, did, is), same), forms), other, replied) =
        acted_then happened (replied ∙ ap foreign_reply is)
        (all_formed terms.types name steps (subst (AllByRecursion PublishesInForm) (same_list name terms.types steps) forms))
        (subst (λ (list : List TableStep). ActsAll (service_hash_of pattern name) list old.hub.table happened new.hub.table)
        (same_list name terms.types steps) did) (other ∙ ap (λ (h : Hub T U B D). record old { hub = h }) same)
    followed (acted, inr (some, is, same), other, replied) =
        none_done some (replied ∙ ap foreign_reply is) (other ∙ ap (λ (h : Hub T U B D). record old { hub = h }) same)

  pub foreign_matches : ForeignMatches terms choices
  foreign_matches names pattern name steps asked own taken naming order old new state answer room stands does =
      followed names pattern name steps asked taken naming order old new state answer own room stands does
