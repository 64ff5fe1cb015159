-- A publisher follows the list of subscribers, place by place.
use Rattle.std.proofs.Common.{◌≡◌, ◌≤◌, ◌<◌, ◌+◌, ◌-◌, ◌∷◌, [], ℕ, zero, suc, true, List, get_or, length, map, Option, None, Some, Result}
use Rattle.std.proofs.Common.{refl, sym, ap, subst, ◌∙◌, arith}
use Rattle.std.specs.Prelude.{is_ok, option_map, zip}
use Rattle.iox_domain.specs.Container.declared.container.Member.{Member}
use Rattle.iox_domain.specs.DomainPorts.MessagesSending.{slots_of}
use Rattle.iox_domain.specs.DomainPorts.PublisherUpdating.{FollowsAll, untied_from}
use Rattle.iox_domain.specs.DomainPorts.PublisherUpdating as domain
use Rattle.iox_domain.specs.DomainPorts.declared.publisher_port.PublisherPort.{PublisherPort}
use Rattle.iox_domain.specs.DomainPorts.declared.subscriber_entry.SubscriberEntry.{SubscriberEntry}
use Rattle.iox_domain.specs.DomainSlots.Counting.{times}
use Rattle.iox_domain.specs.DomainValues.declared.degradation.DegradationInfo.{DegradationInfo}
use Rattle.iox_domain_machine.proofs.FollowAnswer.{AnswersFrom, answer_on}
use Rattle.iox_domain_machine.proofs.FollowMidway.{FollowsList, Midway, named_by}
use Rattle.iox_domain_machine.proofs.FollowPlace.{FollowsOne, follows_place}
use Rattle.iox_command.specs.DomainValues.declared.connection_failure.ConnectionFailure.{ConnectionFailure}
use Rattle.iox_command.specs.DomainValues.declared.degradation.DegradationAction.{DegradationAction}
use Rattle.iox_machine.specs.Mailbox.{Mailbox}
use Rattle.iox_machine.specs.PublisherUpdate.{failure_at}
use Rattle.iox_machine.specs.Service.{Subscriber}

module _ {T U : Type 0} (name subscriber_name : ℕ → ℕ) (next most : ℕ) (places : List (Option (Member SubscriberEntry)))
    (subscribers : List (ℕ × Subscriber)) (begun : PublisherPort T U) (first_reader : ℕ → ℕ) (first_boxes : ℕ → Option (Mailbox T))
    (follows : FollowsList subscriber_name next most places subscribers) (standing : begun.stands ≡ true)
    (silent : begun.sender.uses.sending ≡ None) (most_waiting : begun.sender.uses.most_waiting ≡ most)
    (once : (slot : ℕ) → times slot (slots_of begun.sender).history ≤ 1)
    (may : DegradationInfo → DegradationAction → Type 0) (May : DegradationAction → Type 0)
    (over : (info : DegradationInfo) (told : DegradationAction) → may info told → May told) where
  abbrev Mid : ℕ → ℕ → PublisherPort T U → (ℕ → ℕ) → (ℕ → Option (Mailbox T)) → Type 0
  Mid = Midway name subscriber_name next places subscribers begun first_reader first_boxes

  -- The effect at the remaining places.
  pub record FollowedAll (first : ℕ) (listed : List (Option (Member SubscriberEntry))) (found : Option ConnectionFailure)
      (port after : PublisherPort T U) (reader : ℕ → ℕ) (answer : Result (Unit {0}) ConnectionFailure) : Type 0 where
    pub new_reader : ℕ → ℕ
    pub new_boxes : ℕ → Option (Mailbox T)
    pub midway : Mid (length places) (length places) after new_reader new_boxes
    pub still : (place : ℕ) → place < first
        → option_map new_reader (get_or after.ties.items place None) ≡ option_map reader (get_or port.ties.items place None)
    pub answered : (connected : List (Option ℕ)) → length connected ≡ length listed
        → ((place : ℕ) → place < length listed
        → get_or connected place None ≡ option_map new_reader (get_or after.ties.items (first + place) None))
        → AnswersFrom May found (zip (map (named_by subscriber_name) listed) connected) answer

  answer_is : (found : Option ConnectionFailure) (answer : Result (Unit {0}) ConnectionFailure) → answer ≡ domain.update_answer found
      → AnswersFrom May found [] answer
  answer_is None answer is = is
  answer_is (Some failure) answer is = is

  untied_none_left : (count place : ℕ) (port : PublisherPort T U) → count ≡ 0 → untied_from count place port ≡ port
  untied_none_left zero place port is = refl
  untied_none_left (suc count) place port is = absurd (omega (arith, is))

  pub follows_all : (first : ℕ) (listed : List (Option (Member SubscriberEntry))) (found : Option ConnectionFailure)
      (port after : PublisherPort T U) (reader : ℕ → ℕ) (boxes : ℕ → Option (Mailbox T)) (answer : Result (Unit {0}) ConnectionFailure)
      → length places ≡ first + length listed → ((place : ℕ) → get_or places (first + place) None ≡ get_or listed place None)
      → Mid first first port reader boxes → FollowsAll may first listed found port answer after
      → FollowedAll first listed found port after reader answer
  follows_all first [] found port after reader boxes answer long same midway is =
      let all : first ≡ length places = omega (arith, long) in
      let stays : after ≡ port = is.1 ∙ untied_none_left (length port.ties.items - first) first port (omega (arith, long, midway.size)) in
      record {
        new_reader = reader;
        new_boxes = boxes;
        midway = subst (λ (one : PublisherPort T U). Mid (length places) (length places) one reader boxes) (sym stays)
            (subst (λ n. Mid n n port reader boxes) all midway);
        still = λ place below. ap (λ (one : PublisherPort T U). option_map reader (get_or one.ties.items place None)) stays;
        answered = λ connected none each. answer_is found answer is.0;
      }
  follows_all first (item ∷ listed) found port after reader boxes answer long same midway (outcome, between, met, one, asks, further) =
      let here : get_or places first None ≡ item = ap (λ n. get_or places n None) (omega arith) ∙ same zero in
      let step : FollowsOne name subscriber_name next most places subscribers begun first_reader first_boxes follows standing silent
      most_waiting once first item (is_ok outcome) port between reader =
      follows_place name subscriber_name next most places subscribers begun first_reader first_boxes follows standing silent most_waiting
      once first (omega (arith, long)) port reader boxes midway item between outcome here one in
      let rest = follows_all (first + 1) listed met between after step.new_reader step.new_boxes answer (omega (arith, long))
      (λ place. ap (λ n. get_or places n None) (omega arith) ∙ same (suc place)) step.midway further in
      record {
        new_reader = rest.new_reader;
        new_boxes = rest.new_boxes;
        midway = rest.midway;
        still = λ place below. rest.still place (omega (arith, below)) ∙ step.still place (omega (arith, below));
        answered = λ connected as_long each. by step rest connected as_long each;
      }
    where
      by : (step : FollowsOne name subscriber_name next most places subscribers begun first_reader first_boxes follows standing silent
          most_waiting once first item (is_ok outcome) port between reader)
          (rest : FollowedAll (first + 1) listed met between after step.new_reader answer) (connected : List (Option ℕ))
          → length connected ≡ length (item ∷ listed)
          → ((place : ℕ) → place < length (item ∷ listed)
          → get_or connected place None ≡ option_map rest.new_reader (get_or after.ties.items (first + place) None))
          → AnswersFrom May found (zip (map (named_by subscriber_name) (item ∷ listed)) connected) answer
      by step rest [] as_long each = absurd (omega (arith, as_long))
      by step rest (connected_here ∷ connected) as_long each =
          let same : connected_here ≡ option_map step.new_reader (get_or between.ties.items first None) =
          each zero (omega arith) ∙ ap (λ n. option_map rest.new_reader (get_or after.ties.items n None)) (omega arith)
          ∙ rest.still first (omega arith) in
          answer_on may May over item between found met (is_ok outcome) (named_by subscriber_name item) connected_here
          (zip (map (named_by subscriber_name) listed) connected) answer asks
          (ap (λ one. failure_at (named_by subscriber_name item) one) same ∙ step.failure) step.listed
          (rest.answered connected (omega (arith, as_long))
          (λ place below. each (suc place) (omega (arith, below))
          ∙ ap (λ n. option_map rest.new_reader (get_or after.ties.items n None)) (omega arith)))
