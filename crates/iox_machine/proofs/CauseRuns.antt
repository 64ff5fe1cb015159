-- In every run what a subscriber is due to get from a publisher was received, is on its way, or was lost for a cause.
use Rattle.std.proofs.Common.{◌≡◌, ◌⊎◌, ◌+◌, ◌<◌, ℕ, Bool, true, false, cond, ◌&&◌, List, [], ◌∷◌, ◌++◌, length, map, set, take, Option}
use Rattle.std.proofs.Common.{None, Some, refl, sym, ap, subst, inl, inr, arith, ◌∙◌, append-nil}
use Rattle.std.proofs.lemmas.Bool.{cases_Bool, eqb-true, eqb-false, true≢false}
use Rattle.std.specs.Global.{Vec}
use Rattle.std.specs.List.{AllByRecursion, IsDistinct}
use Rattle.std.specs.Option.{option_map_or}
use Rattle.std.specs.Prelude.{◌==◌, find, fold, is_some, nat_lt, option_and_then}
use Rattle.std.specs.Vec.{vec_items}
use Rattle.iox_machine.specs.Arriving.{PublisherArrives, SubscriberArrives, new_publisher, new_subscriber}
use Rattle.iox_machine.specs.Choices.{Choices}
use Rattle.iox_machine.specs.LossLaws.{IsDropped, IsLostBy, IsPassedOver, StaysOff}
use Rattle.iox_machine.specs.Mailbox.{Mailbox}
use Rattle.iox_machine.specs.Message.{Loan, Message, Sample}
use Rattle.iox_machine.specs.MessageLaws.{begun_by, received_by, received_from, sent_by}
use Rattle.iox_machine.specs.Phase.{acted}
use Rattle.iox_machine.specs.PortList.{those}
use Rattle.iox_machine.specs.Ports.{LendsLoan, Releases, Writes, publisher_in, subscriber_in}
use Rattle.iox_machine.specs.PublisherUpdate as publishing
use Rattle.iox_machine.specs.Receiving.{has_samples}
use Rattle.iox_machine.specs.Run.{Runs, Step}
use Rattle.iox_machine.specs.Sending.{GoesOn}
use Rattle.iox_machine.specs.Service.{Publisher, Send, Service, Subscriber, mailbox}
use Rattle.iox_machine.specs.State.{AtOne, Factory, Made, State, counted, is_service_of, new_state, replaced, with_phase}
use Rattle.iox_machine.specs.SubscriberUpdate as subscribing
use Rattle.iox_machine.specs.Table.{at, contains, removed}
use Rattle.iox_machine.proofs.Cases.{by-option, never-some}
use Rattle.iox_machine.proofs.Causes.{Due, Fate, Splits, none-among, splits-due, splits-weaker, way_in}
use Rattle.iox_machine.proofs.CauseCalls.{gives-own, receive-due, retry-own, update-own}
use Rattle.iox_machine.proofs.CauseCommands.{LostThen, alike-due, are-due-on, blocked-due, due-on, free-due, lends-loan-due, fresh-due}
use Rattle.iox_machine.proofs.CauseCommands.{put-due, quiet-due, send-due, still-lost, subscriber-due}
use Rattle.iox_machine.proofs.CauseSteps.{AreDue, Comes, HasDue, distinct-front, has-one, has_p, way-at}
use Rattle.iox_machine.proofs.Lists.{all-weaker}
use Rattle.iox_machine.specs.SequenceLaws.{has_message, on_way, still_brought}
use Rattle.iox_command.specs.NegotiateBase.DescribeSettings.declared.static_config.publish_subscribe.StaticConfig.{StaticConfig}
use Rattle.iox_machine.proofs.CauseUpdates.{DueOf, follows-due}
use Rattle.iox_machine.proofs.Frames.{ByPublisher, BySubscriber, by-goes-on, by-lends-loan, by-publisher-arrives, by-set, by-updates}
use Rattle.iox_machine.proofs.Frames.{publisher-comes, soft-followed, soft-given, subscriber-comes}
use Rattle.iox_machine.proofs.Losses.{Anything}
use Rattle.iox_machine.proofs.Moving.{IsClosed, IsNegotiated, at-one, closed, closed-keeps, creates, negotiated-keeps, opens}
use Rattle.iox_machine.proofs.Moving.{opens-or-creates, replaced-keeps, replaced-same}
use Rattle.iox_machine.proofs.Order.{BetweenOf, follows-publishers}
use Rattle.iox_machine.proofs.OrderCommands.{step-ordered}
use Rattle.iox_machine.proofs.OrderLaws.{fresh-numbers, noted-more}
use Rattle.iox_machine.proofs.OrderPorts.{all-lack, those-none}
use Rattle.iox_machine.proofs.OrderSteps.{Alike, IsOfOne, IsOrdered, Lacks, alike-by, alike-soft, noted}
use Rattle.iox_machine.proofs.Parts.{Once, part-none}
use Rattle.iox_machine.proofs.Runs.{AnyMessage, AreSound, Numbered, all-found, runs-numbered}
use Rattle.iox_machine.proofs.Shorthands.{factory_of, left, registered, IsRefused, IsSkipped, with_publisher, with_subscriber}
use Rattle.iox_machine.proofs.Tables.{at-appended, at-changed}
use Rattle.iox_command.specs.NegotiateBase.DescribeBase.declared.message_type.MessageTypeDetails.{MessageTypeDetails}
use Rattle.iox_command.specs.declared.command.Command.{Command}
use Rattle.iox_command.specs.declared.command.Command.TheVariants as command
use Rattle.iox_command.specs.declared.port.PortNumber.TheVariants as port
use Rattle.iox_command.specs.declared.port.PublisherOptions.{PublisherOptions}
use Rattle.iox_command.specs.declared.refusal.HubError.TheVariants.{OutOfMemory}
use Rattle.iox_command.specs.declared.refusal.Refusal.{Refusal}
use Rattle.iox_command.specs.declared.refusal.Refusal.TheVariants as refusal
use Rattle.iox_command.specs.declared.reply.Reply.{Reply}
use Rattle.iox_machine.specs.RunLaws.{is_written}
use Rattle.iox_command.specs.declared.reply.Reply.TheVariants as reply

module _ {T : Type 0} (p s : ℕ) where
  -- ---- the publisher itself comes

  comes-due : (D : Message T → Type 0) (made : Made) (factory : ℕ) (options : PublisherOptions) (old : Service T) (place : ℕ)
      (after : Publisher T) (mid new : Service T)
      → publishing.Follows p (new_publisher factory options old.settings)
      (record old { publishers = old.publishers ++ (p, new_publisher factory options old.settings) ∷ [] }) after mid
      → new ≡ record mid { publisher_list = registered place p mid.publisher_list }
      → Lacks p s made.subscribers old → Comes p s D [] [] new
  comes-due D made factory options old place after mid new came is lacks =
      let one : Publisher T = new_publisher factory options old.settings in
      let more : Service T = record old { publishers = old.publishers ++ (p, one) ∷ [] } in
      let found : at p more.publishers ≡ Some one = at-appended p one old.publishers lacks.0 in
      let none : those one.connected ≡ [] = those-none old.settings.max_subscribers in
      let b : BetweenOf p s [] [] made.subscribers one more = record {
        numbered_so = (tt, refl);
        kept = part-none [];
        waits = lacks.1;
        listed_once = lacks.2;
        connected_once = subst (λ (l : List ℕ). Once s l) (sym none) tt;
        has_box = λ is_so. absurd (true≢false (sym is_so ∙ ap (λ (l : List ℕ). contains l s) none));
        unmet = λ may not_so. (refl, lacks.1);
        unlisted = λ early. (lacks.3 early, ap (λ (l : List ℕ). contains l s) none);
        under = tt;
      } in
      let due : DueOf p s D [] [] one more = record {
        older = [];
        kept = refl;
        last = [];
        early = [];
        due = [];
        after = [];
        split = (refl, refl, tt);
        so = inr (ap (λ (l : List ℕ). contains l s) none, ap (λ (l : List (Message T)). l ++ []) lacks.1);
      } in
      let done : DueOf p s D [] [] after mid = (follows-due p s D [] [] made.subscribers one more after mid refl came b due).0 in (
        after,
        ap (λ (it : Service T). at p it.publishers) is ∙ follows-publishers p s one more after mid found came,
        subst (λ (it : Service T). DueOf p s D [] [] after it) (sym is) done,
      )

  module _ (D E : Message T → Type 0) (on : (x : Message T) → D x → E x) (sent received : List (Message T)) where
    abbrev has_factory : Factory → Service T → Bool
    has_factory of_it service = is_some (cond (is_service_of of_it service) (Some service) None)

    pub publisher-due : (factory : ℕ) (of_it : Factory) (options : PublisherOptions) (old : State T) (answer : Reply T) (new : State T)
        → AtOne (λ (service : Service T). cond (is_service_of of_it service) (Some service) None)
        (λ (service : Service T) (it : Service T) (told : Reply T) (after : Service T). PublisherArrives (old.made.publishers + 1)
        (new_publisher factory options it.settings) it told after) old answer new
        → IsOrdered p s (Anything p s) sent received old → AreDue p s D sent received old → AreDue p s E sent received new
    publisher-due factory of_it options old answer new h ordered due = elim (cases_Bool ((old.made.publishers + 1) == p)) [
      | inr other ↦ quiet-due p s D E on sent received (λ (service : Service T). cond (is_service_of of_it service) (Some service) None)
          (λ (service : Service T) (it : Service T) (told : Reply T) (after : Service T). PublisherArrives (old.made.publishers + 1)
          (new_publisher factory options it.settings) it told after) old answer new
          (λ service one after first is did came has. alike-due p s D E on sent received service after
          (alike-by p s (old.made.publishers + 1) service after (λ e. eqb-false (old.made.publishers + 1) p other (sym e))
          (by-publisher-arrives (old.made.publishers + 1) (new_publisher factory options service.settings) service answer after
          did)) has)
          h due
      | inl is ↦ elim (at-one (λ (service : Service T). cond (is_service_of of_it service) (Some service) None)
          (λ (service : Service T) (it : Service T) (told : Reply T) (after : Service T). PublisherArrives (old.made.publishers + 1)
          (new_publisher factory options it.settings) it told after) old answer new h) [
            | inl skipped ↦ are-due-on p s D E on sent received old new (ap (λ (state : State T). state.services) skipped.1) due
            | inr w ↦ comes (sym (eqb-true (old.made.publishers + 1) p is)) w.0 w.2 w.3 w.5 w.6
          ]
    ]
      where
        early : p ≡ old.made.publishers + 1 → old.made.publishers < p
        early is = omega (arith, is)

        comes : p ≡ old.made.publishers + 1 → (service after : Service T) → find (has_factory of_it) old.services ≡ Some service
            → PublisherArrives (old.made.publishers + 1) (new_publisher factory options service.settings) service answer after
            → new ≡ record old { made = counted answer old.made; services = replaced (has_factory of_it) after old.services }
            → AreDue p s E sent received new
        comes next service after first did came =
            elim (publisher-comes (old.made.publishers + 1) (new_publisher factory options service.settings) service answer after did) [
              | inl same ↦ are-due-on p s D E on sent received old new
                  (ap (λ (it : State T). it.services) came
                  ∙ (ap (λ (it : Service T). replaced (has_factory of_it) it old.services) same ∙ replaced-same (has_factory of_it)
                  service old.services first)) due
              | inr w ↦
                  let none : (sent ≡ []) × (received ≡ []) = ordered.1 (early next) in
                  let lack : AllByRecursion (Lacks p s old.made.subscribers) old.services =
                  all-lack p s (Anything p s) old.made sent received (early next) old.services ordered.0 in
                  let it : Comes p s E [] [] after =
                  comes-due E old.made factory options service w.0 w.1 w.2 after (at_p w.1 w.2 w.3) (at_end w.0 w.2 w.4)
                  (all-found (Lacks p s old.made.subscribers) (has_factory of_it) old.services service first lack) in
                  subst (λ (l : List (Message T)). AreDue p s E l received new) (sym none.0)
                  (subst (λ (l : List (Message T)). AreDue p s E [] l new) (sym none.1) (
                    splits-due p s E [] [] it.0.history it.0.connected it.0.blocked (after.mailboxes p s) it.2,
                    subst (λ (state : State T). AllByRecursion (HasDue p s E [] []) state.services) (sym came)
                        (replaced-keeps (Lacks p s old.made.subscribers) (HasDue p s E [] []) (has_factory of_it) service after old.services
                        (λ other lacks one there. never-some one (sym lacks.0 ∙ there))
                        (λ lacks. has-one p s E [] [] after it.0 it.1 it.2) first lack),
                  ))
            ]
          where
            at_p : (now : Publisher T) (mid : Service T)
                → publishing.Follows (old.made.publishers + 1) (new_publisher factory options service.settings)
                (record service {
                  publishers = service.publishers ++ (old.made.publishers + 1, new_publisher factory options service.settings) ∷ [];
                }) now mid
                → publishing.Follows p (new_publisher factory options service.settings)
                (record service { publishers = service.publishers ++ (p, new_publisher factory options service.settings) ∷ [] }) now mid
            at_p now mid h =
                subst (λ (n : ℕ). publishing.Follows n (new_publisher factory options service.settings)
                (record service { publishers = service.publishers ++ (n, new_publisher factory options service.settings) ∷ [] }) now mid)
                (sym next) h

            at_end : (place : ℕ) (mid : Service T)
                → after ≡ record mid { publisher_list = registered place (old.made.publishers + 1) mid.publisher_list }
                → after ≡ record mid { publisher_list = registered place p mid.publisher_list }
            at_end place mid e =
                subst (λ (n : ℕ). after ≡ record mid { publisher_list = registered place n mid.publisher_list }) (sym next) e

    pub arrival-due : (buffer number : ℕ) (one : Subscriber) (old : Service T) (answer : Reply T) (new : Service T)
        → SubscriberArrives buffer number one old answer new → HasDue p s D sent received old → HasDue p s E sent received new
    arrival-due buffer number one old answer new h has =
        elim (subscriber-comes buffer number one old answer new h) [
          | inl same ↦ subst (λ (service : Service T). HasDue p s E sent received service) (sym same)
              (due-on p s D E on sent received old has)
          | inr w ↦ comes w.0 w.1 w.2 w.3 w.4
        ]
      where
        comes : (place : ℕ) (after : Subscriber) (mid : Service T) → subscribing.Follows buffer number one
            (record old { subscribers = old.subscribers ++ (number, one) ∷ [] }) after mid
            → new ≡ record mid { subscriber_list = registered place number mid.subscriber_list } → HasDue p s E sent received new
        comes place after mid came is =
            let more : Service T = record old { subscribers = old.subscribers ++ (number, one) ∷ [] } in
            let soft : BySubscriber (with_subscriber number after more) mid = (soft-followed buffer number one more after mid came).0 in
            let a : Alike p s old mid = alike-soft p s (with_subscriber number after more) mid soft in
            let done : HasDue p s E sent received mid = alike-due p s D E on sent received old mid a has in
            subst (λ (service : Service T). HasDue p s E sent received service) (sym is) done

    -- ---- what doesn't concern it

    written-due : (service after : Service T) (answer : Reply T) (loan : ℕ) (one : Loan T) (fit : Bool) (values : List (Option T))
        → Writes loan one fit values service answer after → HasDue p s D sent received service → HasDue p s E sent received after
    written-due service after answer loan one true values h has =
        subst (λ (it : Service T). HasDue p s E sent received it) (sym h.1) (due-on p s D E on sent received service has)
    written-due service after answer loan one false values h has =
        subst (λ (it : Service T). HasDue p s E sent received it) (sym h.1) (due-on p s D E on sent received service has)

    same-due : (service after : Service T) → after ≡ service → HasDue p s D sent received service → HasDue p s E sent received after
    same-due service after same has =
        subst (λ (it : Service T). HasDue p s E sent received it) (sym same) (due-on p s D E on sent received service has)

    refused-due : (why : Refusal) (old mid : State T) (answer : Reply T) (new : State T) → mid.services ≡ old.services
        → IsRefused why mid answer new → AreDue p s D sent received old → AreDue p s E sent received new
    refused-due why old mid answer new same refused due =
        are-due-on p s D E on sent received old new (ap (λ (state : State T). state.services) refused.1 ∙ same) due

    negotiated-due : (factory : Factory) (old : State T) (answer : Reply T) (new : State T) → IsNegotiated factory old answer new
        → AreDue p s D sent received old → AreDue p s E sent received new
    negotiated-due factory old answer new h due =
        let now : AreDue p s E sent received old = are-due-on p s D E on sent received old old refl due in (
          now.0,
          (negotiated-keeps (HasDue p s E sent received) factory (λ c. fresh-due p s D E on sent received factory.name c) old answer new h
              now.1).0,
        )

    closed-due : (number : ℕ) (old : State T) (answer : Reply T) (new : State T) → IsClosed number old answer new
        → AreDue p s D sent received old → AreDue p s E sent received new
    closed-due number old answer new h due =
        let now : AreDue p s E sent received old = are-due-on p s D E on sent received old old refl due in
        (now.0, (closed-keeps (HasDue p s E sent received) number old answer new h now.1).0)

  module _ (D : Message T → Type 0) (sent received : List (Message T)) (types : MessageTypeDetails) (choices : Choices T) (buffer : ℕ) where
    -- After each step what is due was received, is on its way, or was lost for a cause.
    pub step-due : (asked : Command T) (old : State T) (answer : Reply T) (new : State T)
        → IsOrdered p s (Anything p s) sent received old
        → AllByRecursion (λ (other : Service T). at (old.made.samples + 1) other.samples ≡ None) old.services
        → IsDistinct (λ one other. one == other) (map (λ (x : Message T). x.number) (noted sent (begun_by p asked old answer)))
        → Step types choices buffer asked old answer new → AreDue p s D sent received old
        → AreDue p s (LostThen p s D sent received asked old answer new) (noted sent (begun_by p asked old answer))
        (noted received (received_by p s asked answer new)) new
    step-due command.Node old answer new ordered fresh apart (inl (told, came)) due =
        are-due-on p s D (LostThen p s D sent received command.Node old answer new)
        (still-lost p s D sent received command.Node old answer new) sent received old new
        (ap (λ (it : State T). it.services) came) due
    step-due command.Node old answer new ordered fresh apart (inr refused) due =
        refused-due D (LostThen p s D sent received command.Node old answer new)
        (still-lost p s D sent received command.Node old answer new) sent received (refusal.Hub OutOfMemory) old old answer new refl
        refused due
    step-due (command.Create node name options attributes steps) old answer new ordered fresh apart h due =
        negotiated-due D (LostThen p s D sent received (command.Create node name options attributes steps) old answer new)
        (still-lost p s D sent received (command.Create node name options attributes steps) old answer new) sent received
        (factory_of node name options) old answer new
        (creates types steps (factory_of node name options) old answer new options attributes h) due
    step-due (command.Open node name options required steps) old answer new ordered fresh apart h due =
        negotiated-due D (LostThen p s D sent received (command.Open node name options required steps) old answer new)
        (still-lost p s D sent received (command.Open node name options required steps) old answer new) sent received
        (factory_of node name options) old answer new
        (opens types steps (factory_of node name options) old answer new options required h) due
    step-due (command.OpenOrCreate node name options required steps) old answer new ordered fresh apart h due =
        negotiated-due D (LostThen p s D sent received (command.OpenOrCreate node name options required steps) old answer new)
        (still-lost p s D sent received (command.OpenOrCreate node name options required steps) old answer new) sent received
        (factory_of node name options) old answer new
        (opens-or-creates types steps (factory_of node name options) old answer new options required h) due
    step-due (command.Foreign pattern name steps) old answer new ordered fresh apart (inl (told, came)) due =
        are-due-on p s D (LostThen p s D sent received (command.Foreign pattern name steps) old answer new)
        (still-lost p s D sent received (command.Foreign pattern name steps) old answer new) sent received old new
        (ap (λ (it : State T). it.services) came) due
    step-due (command.Foreign pattern name steps) old answer new ordered fresh apart (inr (done, few, refused)) due =
        refused-due D (LostThen p s D sent received (command.Foreign pattern name steps) old answer new)
        (still-lost p s D sent received (command.Foreign pattern name steps) old answer new) sent received (refusal.Hub OutOfMemory) old
        (with_phase pattern name (fold (acted types pattern) (old.phases pattern name) (take done steps)) old) answer new refl refused due
    step-due (command.Close factory) old answer new ordered fresh apart h due =
        closed-due D (LostThen p s D sent received (command.Close factory) old answer new)
        (still-lost p s D sent received (command.Close factory) old answer new) sent received factory old answer new
        (closed factory old answer new h) due
    step-due (command.Publisher factory options) old answer new ordered fresh apart h due =
        elim (by-option (at factory old.factories) (IsSkipped old answer new)
        (λ of_it. AtOne (λ (service : Service T). cond (is_service_of of_it service) (Some service) None)
        (λ (service : Service T) (it : Service T) (told : Reply T) (after : Service T). PublisherArrives (old.made.publishers + 1)
        (new_publisher factory options it.settings) it told after) old answer new) h) [
          | inl w ↦ are-due-on p s D (LostThen p s D sent received (command.Publisher factory options) old answer new)
              (still-lost p s D sent received (command.Publisher factory options) old answer new) sent received old new
              (ap (λ (it : State T). it.services) w.1.1) due
          | inr w ↦ publisher-due D (LostThen p s D sent received (command.Publisher factory options) old answer new)
              (still-lost p s D sent received (command.Publisher factory options) old answer new) sent received factory w.0 options old
              answer new w.2 ordered due
        ]
    step-due (command.Subscriber factory options) old answer new ordered fresh apart h due =
        elim (by-option (at factory old.factories) (IsSkipped old answer new)
        (λ of_it. AtOne (λ (service : Service T). cond (is_service_of of_it service) (Some service) None)
        (λ (service : Service T) (it : Service T) (told : Reply T) (after : Service T). SubscriberArrives buffer (old.made.subscribers + 1)
        (new_subscriber factory options it.settings) it told after) old answer new) h) [
          | inl w ↦ are-due-on p s D (LostThen p s D sent received (command.Subscriber factory options) old answer new)
              (still-lost p s D sent received (command.Subscriber factory options) old answer new) sent received old new
              (ap (λ (it : State T). it.services) w.1.1) due
          | inr w ↦ quiet-due p s D (LostThen p s D sent received (command.Subscriber factory options) old answer new)
              (still-lost p s D sent received (command.Subscriber factory options) old answer new) sent received
              (λ (service : Service T). cond (is_service_of w.0 service) (Some service) None)
              (λ (service : Service T) (it : Service T) (told : Reply T) (after : Service T).
              SubscriberArrives buffer (old.made.subscribers + 1) (new_subscriber factory options it.settings) it told after) old answer new
              (λ service one after first is did came has.
              arrival-due D (LostThen p s D sent received (command.Subscriber factory options) old answer new)
              (still-lost p s D sent received (command.Subscriber factory options) old answer new) sent received buffer
              (old.made.subscribers + 1) (new_subscriber factory options service.settings) service answer after did has) w.2 due
        ]
    step-due (command.Loan publisher count) old answer new ordered fresh apart (value, is, h) due =
        free-due p s D (LostThen p s D sent received (command.Loan publisher count) old answer new)
        (still-lost p s D sent received (command.Loan publisher count) old answer new) sent received publisher
        (LendsLoan (old.made.loans + 1) publisher count (Some value)) old answer new
        (λ one service after did. by-lends-loan (old.made.loans + 1) publisher count (Some value) one service answer after did)
        (λ one service after same first found free did has.
        lends-loan-due p s D sent received (LostThen p s D sent received (command.Loan publisher count) old answer new)
        (still-lost p s D sent received (command.Loan publisher count) old answer new) (old.made.loans + 1) count (Some value) one service
        answer after found (subst (λ (k : ℕ). LendsLoan (old.made.loans + 1) k count (Some value) one service answer after) same did) has)
        h due
    step-due (command.LoanUninit publisher count) old answer new ordered fresh apart h due =
        free-due p s D (LostThen p s D sent received (command.LoanUninit publisher count) old answer new)
        (still-lost p s D sent received (command.LoanUninit publisher count) old answer new) sent received publisher
        (LendsLoan (old.made.loans + 1) publisher count None) old answer new
        (λ one service after did. by-lends-loan (old.made.loans + 1) publisher count None one service answer after did)
        (λ one service after same first found free did has.
        lends-loan-due p s D sent received (LostThen p s D sent received (command.LoanUninit publisher count) old answer new)
        (still-lost p s D sent received (command.LoanUninit publisher count) old answer new) (old.made.loans + 1) count None one service
        answer after found (subst (λ (k : ℕ). LendsLoan (old.made.loans + 1) k count None one service answer after) same did) has)
        h due
    step-due (command.Set loan place value) old answer new ordered fresh apart h due =
        quiet-due p s D (LostThen p s D sent received (command.Set loan place value) old answer new)
        (still-lost p s D sent received (command.Set loan place value) old answer new) sent received
        (λ (service : Service T). at loan service.loans)
        (λ (one : Loan T). Writes loan one (is_written one && nat_lt place (length one.values))
        (set one.values place (Some value))) old answer new
        (λ service one after first is did came has.
        written-due D (LostThen p s D sent received (command.Set loan place value) old answer new)
        (still-lost p s D sent received (command.Set loan place value) old answer new) sent received service after answer loan one
        (is_written one && nat_lt place (length one.values)) (set one.values place (Some value)) did has) h due
    step-due (command.Fill loan values) old answer new ordered fresh apart h due =
        quiet-due p s D (LostThen p s D sent received (command.Fill loan values) old answer new)
        (still-lost p s D sent received (command.Fill loan values) old answer new) sent received
        (λ (service : Service T). at loan service.loans)
        (λ (one : Loan T). Writes loan one (length values == length one.values) (map Some values)) old answer new
        (λ service one after first is did came has.
        written-due D (LostThen p s D sent received (command.Fill loan values) old answer new)
        (still-lost p s D sent received (command.Fill loan values) old answer new) sent received service after answer loan one
        (length values == length one.values) (map Some values) did has) h due
    step-due (command.Drop loan) old answer new ordered fresh apart h due =
        quiet-due p s D (LostThen p s D sent received (command.Drop loan) old answer new)
        (still-lost p s D sent received (command.Drop loan) old answer new) sent received
        (λ (service : Service T). at loan service.loans)
        (λ (one : Loan T) (service : Service T) (answered : Reply T) (after : Service T). (answered ≡ reply.Done)
        × (after ≡ record service { loans = removed loan service.loans })) old answer new
        (λ service one after first is did came has.
        subst (λ (it : Service T). HasDue p s (LostThen p s D sent received (command.Drop loan) old answer new) sent received it)
        (sym did.1)
        (due-on p s D (LostThen p s D sent received (command.Drop loan) old answer new)
        (still-lost p s D sent received (command.Drop loan) old answer new) sent received service has)) h due
    step-due (command.Send loan) old answer new ordered fresh apart h due =
        send-due p s D sent received choices loan old answer new ordered apart h due
    step-due (command.Put publisher values) old answer new ordered fresh apart h due =
        put-due p s D sent received choices publisher values old answer new ordered apart h due
    step-due (command.Retry publisher nanoseconds) old answer new ordered fresh apart h due =
        blocked-due p s D (LostThen p s D sent received (command.Retry publisher nanoseconds) old answer new)
        (still-lost p s D sent received (command.Retry publisher nanoseconds) old answer new) sent received publisher
        (λ (one : Publisher T) (send : Send T). GoesOn choices publisher one
        (record send { retries = send.retries + 1; elapsed = nanoseconds })) old answer new
        (λ one send service after did. by-goes-on choices publisher one (record send { retries = send.retries + 1; elapsed = nanoseconds })
        service answer after did)
        (λ one send service after same first found waits did came has.
        retry-own p s D sent received choices publisher nanoseconds old answer new ordered one send service after same first found waits
        did came has) h due
    step-due (command.GiveUp publisher) old answer new ordered fresh apart h due =
        blocked-due p s D (LostThen p s D sent received (command.GiveUp publisher) old answer new)
        (still-lost p s D sent received (command.GiveUp publisher) old answer new) sent received publisher
        (λ (one : Publisher T) (send : Send T) (service : Service T) (answered : Reply T) (after : Service T).
        (answered ≡ reply.Delivered send.delivered) × (after ≡ with_publisher publisher (record one { blocked = None }) service))
        old answer new
        (λ one send service after did. subst (λ (it : Service T). ByPublisher publisher service it) (sym did.1)
        (by-set publisher (record one { blocked = None }) service))
        (λ one send service after same first found waits did came has.
        gives-own p s D sent received choices publisher 0 old answer new ordered one send service after same first found waits did.1 came
        has) h due
    step-due (command.Receive subscriber) old answer new ordered fresh apart h due =
        receive-due p s D sent received choices buffer subscriber old answer new ordered fresh h due
    step-due (command.Read sample) old answer new ordered fresh apart h due =
        quiet-due p s D (LostThen p s D sent received (command.Read sample) old answer new)
        (still-lost p s D sent received (command.Read sample) old answer new) sent received
        (λ (service : Service T). at sample service.samples)
        (λ (one : Sample T) (service : Service T) (answered : Reply T) (after : Service T). (values : Vec T) ×
        (vec_items values ≡ one.message.values) × (answered ≡ reply.Values values) × (after ≡ service)) old answer new
        (λ service one after first is did came has.
        same-due D (LostThen p s D sent received (command.Read sample) old answer new)
        (still-lost p s D sent received (command.Read sample) old answer new) sent received service after did.3 has) h due
    step-due (command.Sequence sample) old answer new ordered fresh apart h due =
        quiet-due p s D (LostThen p s D sent received (command.Sequence sample) old answer new)
        (still-lost p s D sent received (command.Sequence sample) old answer new) sent received
        (λ (service : Service T). at sample service.samples)
        (λ (one : Sample T) (service : Service T) (answered : Reply T) (after : Service T).
        (answered ≡ reply.Sequence one.message.sequence) × (after ≡ service)) old answer new
        (λ service one after first is did came has.
        same-due D (LostThen p s D sent received (command.Sequence sample) old answer new)
        (still-lost p s D sent received (command.Sequence sample) old answer new) sent received service after did.1 has) h due
    step-due (command.Release sample) old answer new ordered fresh apart h due =
        quiet-due p s D (LostThen p s D sent received (command.Release sample) old answer new)
        (still-lost p s D sent received (command.Release sample) old answer new) sent received
        (λ (service : Service T). at sample service.samples) (Releases sample) old answer new
        (λ service one after first is did came has.
        alike-due p s D (LostThen p s D sent received (command.Release sample) old answer new)
        (still-lost p s D sent received (command.Release sample) old answer new) sent received service after
        (subst (λ (it : Service T). Alike p s service it) (sym did.1)
        (refl, refl, refl, refl, soft-given one.message.number one.publisher one.subscriber service p s)) has) h due
    step-due (command.Update (port.Publisher number)) old answer new ordered fresh apart h due =
        free-due p s D (LostThen p s D sent received (command.Update (port.Publisher number)) old answer new)
        (still-lost p s D sent received (command.Update (port.Publisher number)) old answer new) sent received number
        (publishing.UpdatesFirst choices number refusal.Connection
        (λ (one : Publisher T) (service : Service T) (answered : Reply T) (after : Service T). (answered ≡ reply.Done) × (after ≡ service)))
        old answer new
        (λ one service after did. by-updates choices (ByPublisher number service after) number refusal.Connection
        (λ (it : Publisher T) (mid : Service T) (answered : Reply T) (end : Service T). (answered ≡ reply.Done) × (end ≡ mid)) one service
        answer after
        (λ it mid by done. subst (λ (end : Service T). ByPublisher number service end) (sym done.1) by)
        (λ why mid by refused. subst (λ (end : Service T). ByPublisher number service end) (sym refused.1) by) did)
        (λ one service after same first found free did has.
        update-own p s D sent received choices (LostThen p s D sent received (command.Update (port.Publisher number)) old answer new)
        (still-lost p s D sent received (command.Update (port.Publisher number)) old answer new) number old answer ordered
        (λ (other : Service T). is_some (publisher_in number other)) one service after same first found free did has) h due
    step-due (command.Update (port.Subscriber number)) old answer new ordered fresh apart h due =
        subscriber-due p s D (LostThen p s D sent received (command.Update (port.Subscriber number)) old answer new)
        (still-lost p s D sent received (command.Update (port.Subscriber number)) old answer new) sent received choices buffer number
        refusal.Connection
        (λ (one : Subscriber) (service : Service T) (answered : Reply T) (after : Service T). (answered ≡ reply.Done) × (after ≡ service))
        old answer new (λ one service after did. did.1) h due
    step-due (command.Leave (port.Publisher number)) old answer new ordered fresh apart h due =
        free-due p s D (LostThen p s D sent received (command.Leave (port.Publisher number)) old answer new)
        (still-lost p s D sent received (command.Leave (port.Publisher number)) old answer new) sent received number
        (λ (one : Publisher T) (service : Service T) (answered : Reply T) (after : Service T). (answered ≡ reply.Done)
        × (after ≡ with_publisher number (record one { stands = false })
        (record service { publisher_list = left number service.publisher_list }))) old answer new
        (λ one service after did. subst (λ (it : Service T). ByPublisher number service it) (sym did.1)
        (by-set number (record one { stands = false }) (record service { publisher_list = left number service.publisher_list })))
        (λ one service after same first found free did has.
        subst (λ (it : Service T). HasDue p s (LostThen p s D sent received (command.Leave (port.Publisher number)) old answer new) sent
        received it) (sym did.1)
        (subst (λ (k : ℕ). HasDue p s (LostThen p s D sent received (command.Leave (port.Publisher number)) old answer new) sent received
        (with_publisher k (record one { stands = false })
        (record service { publisher_list = left number service.publisher_list }))) (sym same)
        (due-on p s D (LostThen p s D sent received (command.Leave (port.Publisher number)) old answer new)
        (still-lost p s D sent received (command.Leave (port.Publisher number)) old answer new) sent received
        (with_publisher p (record one { stands = false }) (record service { publisher_list = left number service.publisher_list }))
        (has-one p s D sent received
        (with_publisher p (record one { stands = false }) (record service { publisher_list = left number service.publisher_list }))
        (record one { stands = false }) (at-changed p (record one { stands = false }) one service.publishers found) has)))) h due
    step-due (command.Leave (port.Subscriber number)) old answer new ordered fresh apart h due =
        quiet-due p s D (LostThen p s D sent received (command.Leave (port.Subscriber number)) old answer new)
        (still-lost p s D sent received (command.Leave (port.Subscriber number)) old answer new) sent received (subscriber_in number)
        (λ (one : Subscriber) (service : Service T) (answered : Reply T) (after : Service T). (answered ≡ reply.Done)
        × (after ≡ with_subscriber number (record one { stands = false })
        (record service { subscriber_list = left number service.subscriber_list }))) old answer new
        (λ service one after first is did came has.
        subst (λ (it : Service T). HasDue p s (LostThen p s D sent received (command.Leave (port.Subscriber number)) old answer new) sent
        received it) (sym did.1)
        (due-on p s D (LostThen p s D sent received (command.Leave (port.Subscriber number)) old answer new)
        (still-lost p s D sent received (command.Leave (port.Subscriber number)) old answer new) sent received service has)) h due
    step-due (command.Has subscriber) old answer new ordered fresh apart h due =
        subscriber-due p s D (LostThen p s D sent received (command.Has subscriber) old answer new)
        (still-lost p s D sent received (command.Has subscriber) old answer new) sent received choices buffer subscriber
        refusal.Connection
        (λ (one : Subscriber) (service : Service T) (answered : Reply T) (after : Service T).
        (answered ≡ reply.Has (has_samples subscriber one service)) × (after ≡ service)) old answer new
        (λ one service after did. did.1) h due

  -- ---- a whole run

  -- where none has the publisher, and else the first that has it
  first-or-none : (G : List ℕ → StaticConfig → Message T → Type 0) (made : Made) (sent received : List (Message T))
      (services : List (Service T)) → IsOfOne p s G made sent received services
      → (find (has_p p s) services ≡ None)
      ⊎ ((it : Service T) × (one : Publisher T) × (find (has_p p s) services ≡ Some it) × (at p it.publishers ≡ Some one))
  first-or-none G made sent received [] one = inl refl
  first-or-none G made sent received (it ∷ more) (inl (lacks, rest)) = elim (first-or-none G made sent received more rest) [
    | inl none ↦ inl (past more ∙ none)
    | inr w ↦ inr (w.0, w.1, past more ∙ w.2, w.3)
  ]
    where
      past : (xs : List (Service T)) → find (has_p p s) (it ∷ xs) ≡ find (has_p p s) xs
      past xs = ap (λ (o : Option (Publisher T)). cond (is_some o) (Some it) (find (has_p p s) xs)) lacks.0
  first-or-none G made sent received (it ∷ more) (inr (fits, all)) = inr (
    it,
    fits.0.0,
    ap (λ (o : Option (Publisher T)). cond (is_some o) (Some it) (find (has_p p s) more)) fits.0.1,
    fits.0.1,
  )

  module _ (D : Message T → Type 0) (sent received way : List (Message T)) where
    -- It was lost, and isn't on its way.
    abbrev pub LostOff : Message T → Type 0
    LostOff x = D x × (has_message way x ≡ false)

    due-off : (history : List (Message T)) (connected : List (Option ℕ)) (blocked : Option (Send T)) (box : Option (Mailbox T))
        → way ≡ way_in p s blocked box → Due p s D sent received history connected blocked box
        → Due p s LostOff sent received history connected blocked box
    due-off history connected blocked box same d = record {
      older = d.older;
      kept = d.kept;
      last = d.last;
      early = d.early;
      due = d.due;
      after = d.after;
      split = (
        d.split.0,
        d.split.1,
        all-weaker (Fate p s D (received ++ d.last)) (Fate p s LostOff (received ++ d.last))
            (λ x it. elim it [
              | inl is ↦ inl is
              | inr lost ↦ inr (lost.0, (lost.1, off x lost.0))
            ]) d.due d.split.2,
      );
      so = d.so;
    }
      where
        off : (x : Message T) → has_message (received ++ d.last) x ≡ false → has_message way x ≡ false
        off x gone = elim d.so [
          | inl live ↦ ap (λ (l : List (Message T)). has_message l x) (same ∙ sym live.2) ∙ (none-among x received d.last gone).1
          | inr apart ↦ ap (λ (l : List (Message T)). has_message l x) (same ∙ apart.1)
        ]

    services-off : (made : Made) (services : List (Service T)) → IsOfOne p s (Anything p s) made sent received services
        → ((it : Service T) (one : Publisher T) → find (has_p p s) services ≡ Some it → at p it.publishers ≡ Some one
        → way ≡ way_in p s one.blocked (it.mailboxes p s))
        → AllByRecursion (HasDue p s D sent received) services → AllByRecursion (HasDue p s LostOff sent received) services
    services-off made [] of_one ways all = tt
    services-off made (it ∷ more) (inl (lacks, rest)) ways all = (
      (λ one there. never-some one (sym lacks.0 ∙ there)),
      services-off made more rest (λ other one first. ways other one
          (ap (λ (o : Option (Publisher T)). cond (is_some o) (Some it) (find (has_p p s) more)) lacks.0 ∙ first)) all.1,
    )
    services-off made (it ∷ more) (inr (fits, lack)) ways all = (
      (λ one there. due-off one.history one.connected one.blocked (it.mailboxes p s)
          (ways it one (ap (λ (o : Option (Publisher T)). cond (is_some o) (Some it) (find (has_p p s) more)) fits.0.1) there)
          (all.0 one there)),
      all-weaker (Lacks p s made.subscribers) (HasDue p s LostOff sent received)
          (λ other lacks one there. never-some one (sym lacks.0 ∙ there)) more lack,
    )

  -- what is lost isn't on its way
  are-off : (D : Message T → Type 0) (sent received : List (Message T)) (state : State T)
      → IsOrdered p s (Anything p s) sent received state → AreDue p s D sent received state
      → AreDue p s (LostOff D sent received (on_way p s state)) sent received state
  are-off D sent received state ordered due =
      let way : List (Message T) = on_way p s state in
      let all : AllByRecursion (HasDue p s (LostOff D sent received way) sent received) state.services =
      services-off D sent received way state.made state.services ordered.0
      (λ it one first there. way-at p s state it one first there) due.1 in
      elim (first-or-none (Anything p s) state.made sent received state.services ordered.0) [
        | inl none ↦ (
          splits-weaker p s D (LostOff D sent received way)
              (λ x lost. (lost, ap (λ (l : List (Message T)). has_message l x) (no-way state none))) sent received due.0,
          all,
        )
        | inr w ↦
            let it : DueOf p s (LostOff D sent received way) sent received w.1 w.0 =
            all-found (HasDue p s (LostOff D sent received way) sent received) (has_p p s) state.services w.0 w.2 all w.1 w.3 in
            (splits-due p s (LostOff D sent received way) sent received w.1.history w.1.connected w.1.blocked (w.0.mailboxes p s) it, all)
      ]
    where
      no-way : (it : State T) → find (has_p p s) it.services ≡ None → on_way p s it ≡ []
      no-way it none =
          ap (λ (o : Option (Service T)). option_map_or (λ (service : Service T). (mailbox p s service).waiting) o []
          ++ option_map_or (λ (one : Publisher T). still_brought s one.blocked)
          (option_and_then (λ (service : Service T). at p service.publishers) o) []) none

  module _ (types : MessageTypeDetails) (choices : Choices T) (buffer : ℕ) where
    -- It was lost before a run, and stays off its way; or it is dropped, or passed over in the run.
    abbrev pub LostIn : (Message T → Type 0) → (asked : List (Command T)) (old : State T) (answers : List (Reply T)) (new : State T)
        → Runs types choices buffer asked old answers new → Message T → Type 0
    LostIn D asked old answers new run x =
        (D x × StaysOff types choices buffer p s x asked old answers new run)
        ⊎ (IsLostBy types choices buffer IsDropped p s x asked old answers new run
        ⊎ IsLostBy types choices buffer IsPassedOver p s x asked old answers new run)

    pub run-due : (D : Message T → Type 0) (sent received : List (Message T)) (asked : List (Command T)) (old : State T)
        (answers : List (Reply T)) (new : State T) (run : Runs types choices buffer asked old answers new)
        → AreSound AnyMessage (Numbered types choices buffer old) old → IsOrdered p s (Anything p s) sent received old
        → IsDistinct (λ one other. one == other)
        (map (λ (x : Message T). x.number) (sent ++ sent_by types choices buffer p asked old answers new run))
        → AreDue p s D sent received old
        → Splits p s (LostIn D asked old answers new run) (sent ++ sent_by types choices buffer p asked old answers new run)
        (received ++ received_from types choices buffer p s asked old answers new run)
    run-due D sent received [] old answers new run sound ordered apart due =
        subst (λ (l : List (Message T)). Splits p s (LostIn D [] old answers new run) l (received ++ [])) (sym (append-nil sent))
        (subst (λ (l : List (Message T)). Splits p s (LostIn D [] old answers new run) sent l) (sym (append-nil received))
        (splits-weaker p s (LostOff D sent received (on_way p s old)) (LostIn D [] old answers new run) (λ x lost. inl lost) sent received
        (are-off D sent received old ordered due).0))
    run-due D sent received (one ∷ more) old answers new run sound ordered apart due =
        let sending : Option (Message T) = begun_by p one old run.0 in
        let receiving : Option (Message T) = received_by p s one run.0 run.1 in
        let Off : Message T → Type 0 = LostOff D sent received (on_way p s old) in
        let Next : Message T → Type 0 = LostThen p s Off sent received one old run.0 run.1 in
        let fresh : AllByRecursion (λ (other : Service T). at (old.made.samples + 1) other.samples ≡ None) old.services =
        fresh-numbers p s types choices buffer old sound in
        let mid : IsOrdered p s (Anything p s) (noted sent sending) (noted received receiving) run.1 =
        step-ordered p s (Anything p s) sent received types choices buffer one old run.0 run.1
        (λ message it begins first. tt) fresh run.3 ordered in
        let apart_on : IsDistinct (λ one other. one == other)
        (map (λ (x : Message T). x.number) (noted sent sending ++ sent_by types choices buffer p more run.1 run.2 new run.4)) =
        subst (λ (l : List (Message T)). IsDistinct (λ one other. one == other) (map (λ (x : Message T). x.number) l))
        (sym (noted-more sent sending (sent_by types choices buffer p more run.1 run.2 new run.4))) apart in
        let mid_due : AreDue p s Next (noted sent sending) (noted received receiving) run.1 =
        step-due Off sent received types choices buffer one old run.0 run.1 ordered fresh
        (distinct-front p s (noted sent sending) (sent_by types choices buffer p more run.1 run.2 new run.4) apart_on) run.3
        (are-off D sent received old ordered due) in
        let numbered_on : AreSound AnyMessage (Numbered types choices buffer run.1) run.1 =
        runs-numbered types choices buffer (one ∷ []) old (run.0 ∷ []) run.1 (run.0, run.1, [], run.3, (refl, refl), refl) sound in
        let rest : Splits p s (LostIn Next more run.1 run.2 new run.4)
        (noted sent sending ++ sent_by types choices buffer p more run.1 run.2 new run.4)
        (noted received receiving ++ received_from types choices buffer p s more run.1 run.2 new run.4) =
        run-due Next (noted sent sending) (noted received receiving) more run.1 run.2 new run.4 numbered_on mid apart_on mid_due in
        subst (λ (l : List (Message T)). Splits p s (LostIn D (one ∷ more) old answers new run) l
        (received ++ received_from types choices buffer p s (one ∷ more) old answers new run))
        (noted-more sent sending (sent_by types choices buffer p more run.1 run.2 new run.4))
        (subst (λ (l : List (Message T)). Splits p s (LostIn D (one ∷ more) old answers new run)
        (noted sent sending ++ sent_by types choices buffer p more run.1 run.2 new run.4) l)
        (noted-more received receiving (received_from types choices buffer p s more run.1 run.2 new run.4))
        (splits-weaker p s (LostIn Next more run.1 run.2 new run.4) (LostIn D (one ∷ more) old answers new run)
        (λ x lost. elim lost [
          | inl now ↦ elim now.0 [
            | inl was ↦ inl (was.0, (was.1, now.1))
            | inr here ↦ elim here [
              | inl dropped ↦ inr (inl (inl (dropped, now.1)))
              | inr passed ↦ inr (inr (inl (passed, now.1)))
            ]
          ]
          | inr later ↦ elim later [
            | inl dropped ↦ inr (inl (inr dropped))
            | inr passed ↦ inr (inr (inr passed))
          ]
        ])
        (noted sent sending ++ sent_by types choices buffer p more run.1 run.2 new run.4)
        (noted received receiving ++ received_from types choices buffer p s more run.1 run.2 new run.4) rest))

    pub new-due : (asked : List (Command T)) (answers : List (Reply T)) (new : State T)
        (run : Runs types choices buffer asked new_state answers new)
        → IsDistinct (λ one other. one == other)
        (map (λ (x : Message T). x.number) (sent_by types choices buffer p asked new_state answers new run))
        → Splits p s (LostIn (λ x. ⊥) asked new_state answers new run)
        (sent_by types choices buffer p asked new_state answers new run)
        (received_from types choices buffer p s asked new_state answers new run)
    new-due asked answers new run apart =
        run-due (λ x. ⊥) [] [] asked new_state answers new run tt (tt, (λ early. (refl, refl)), refl, (false, tt)) apart
        (([], [], [], [], (refl, refl, tt)), tt)
