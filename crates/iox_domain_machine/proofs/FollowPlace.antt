-- A publisher follows the list of subscribers at one place.
use Rattle.std.proofs.Common.{◌≡◌, ◌≢◌, ◌≤◌, ◌<◌, ◌+◌, ℕ, Bool, true, false, List, get_or, length, map, min, ◌||◌, nat_le, Option, None}
use Rattle.std.proofs.Common.{Some, Result, Ok, Err, refl, sym, ap, subst, inl, inr, ◌∙◌, arith}
use Rattle.std.proofs.lemmas.Bool.{cases_eq, eq-eqb, leb-true}
use Rattle.std.specs.Prelude.{is_some, is_none, is_ok, option_map, if◌then◌else◌}
use Rattle.std.specs.declared.alloc.AllocError.{AllocError}
use Rattle.iox_domain.proofs.TiedUpdates.{follows_well, ok_same}
use Rattle.iox_domain.specs.Container.declared.container.Member.{Member}
use Rattle.iox_domain.specs.DomainPorts.Messages.{Message}
use Rattle.iox_domain.specs.DomainPorts.MessagesSending.{slots_of}
use Rattle.iox_domain.specs.DomainPorts.Places.{leads_to}
use Rattle.iox_domain.specs.DomainPorts.Ports.{connection_to, Joins}
use Rattle.iox_domain.specs.DomainPorts.PublisherUpdating.{is_tie_to, untied, within_reach, tied, may_fail, Ties, Follows, FollowsTo}
use Rattle.iox_domain.specs.DomainPorts.declared.publisher_port.PublisherPort.{PublisherPort}
use Rattle.iox_domain.specs.DomainPorts.declared.reader.Reader.{Reader}
use Rattle.iox_domain.specs.DomainPorts.declared.subscriber_entry.SubscriberEntry.{SubscriberEntry}
use Rattle.iox_domain.specs.DomainSlots.Counting.{times}
use Rattle.iox_domain.specs.PortLawsLaws.{IsTiedWell}
use Rattle.iox_domain_machine.specs.Naming.{message_as, with_name}
use Rattle.iox_domain_machine.proofs.FollowJoined.{led_to, no_mailbox, joined_there, joined_new}
use Rattle.iox_domain_machine.proofs.FollowMidway.{FollowsList, HasFailed, HasTied, HasBecome, Midway, WasTied, named_by, midway_later}
use Rattle.iox_domain_machine.proofs.FollowMidway.{midway_done, midway_on, still_connected}
use Rattle.iox_domain_machine.proofs.FollowSteps.{IsUnlisted}
use Rattle.iox_domain_machine.proofs.FollowTied.{greeting, greeted_name, JoinedAt, tied_steps}
use Rattle.iox_domain_machine.proofs.FollowUntied.{lost_at, untied_isn't, untied_none, untied_steps}
use Rattle.iox_domain_machine.proofs.Found.{same_some, never_some, never_true}
use Rattle.iox_domain_machine.proofs.GivingUp.{some_of}
use Rattle.iox_domain_machine.proofs.ReleasePort.{differ}
use Rattle.iox_machine.specs.Mailbox.{Mailbox}
use Rattle.iox_machine.specs.PublisherUpdate.{failure_at}
use Rattle.iox_machine.specs.Service.{Subscriber}
use Rattle.iox_machine.specs.Table.{at}
use Rattle.iox_command.specs.DomainValues.declared.connection_failure.ZeroCopyCreationError.TheVariants.{OutOfMemory}

module _ {T U : Type 0} (name subscriber_name : ℕ → ℕ) (next most : ℕ) (places : List (Option (Member SubscriberEntry)))
    (subscribers : List (ℕ × Subscriber)) (begun : PublisherPort T U) (first_reader : ℕ → ℕ) (first_boxes : ℕ → Option (Mailbox T))
    (follows : FollowsList subscriber_name next most places subscribers) (standing : begun.stands ≡ true)
    (silent : begun.sender.uses.sending ≡ None) (most_waiting : begun.sender.uses.most_waiting ≡ most)
    (once : (slot : ℕ) → times slot (slots_of begun.sender).history ≤ 1) where
  abbrev Mid : ℕ → ℕ → PublisherPort T U → (ℕ → ℕ) → (ℕ → Option (Mailbox T)) → Type 0
  Mid = Midway name subscriber_name next places subscribers begun first_reader first_boxes

  abbrev Is : ℕ → Option (Member SubscriberEntry) → PublisherPort T U → (ℕ → ℕ) → (ℕ → Option (Mailbox T)) → Type 0
  Is = HasBecome name subscriber_name next places subscribers begun first_reader first_boxes

  -- A place was untied, if it was tied.
  record Untied (place : ℕ) (port after : PublisherPort T U) (reader : ℕ → ℕ) (boxes : ℕ → Option (Mailbox T)) : Type 0 where
    new_boxes : ℕ → Option (Mailbox T)
    midway : Mid place (place + 1) after reader new_boxes
    none : get_or after.ties.items place None ≡ None
    still : (other : ℕ) → other ≢ place
        → option_map reader (get_or after.ties.items other None) ≡ option_map reader (get_or port.ties.items other None)
    same : (member : Member SubscriberEntry) → get_or places place None ≡ Some member
        → new_boxes (subscriber_name member.value.subscriber) ≡ first_boxes (subscriber_name member.value.subscriber)

  module _ (place : ℕ) (port : PublisherPort T U) (reader : ℕ → ℕ) (boxes : ℕ → Option (Mailbox T))
      (midway : Mid place place port reader boxes) where
    -- whose tie is let go of isn't listed
    unlisted : (index : ℕ) (to : Reader) → get_or port.ties.items place None ≡ Some index → get_or port.readers index None ≡ Some to
        → subscriber_name to.subscriber ≢ 0
        → ((member : Member SubscriberEntry) → get_or places place None ≡ Some member
        → is_tie_to member.value.subscriber (get_or port.ties.items place None) port ≡ false)
        → IsUnlisted subscriber_name places (subscriber_name to.subscriber)
    unlisted index to tie reads some not_its other member listed same =
        let it : to.subscriber ≡ member.value.subscriber = follows.apart to.subscriber member.value.subscriber some (sym same) in
        let leads : is_tie_to member.value.subscriber (get_or port.ties.items place None) port ≡ true =
        ap (λ one. is_tie_to member.value.subscriber one port) tie ∙ ap (leads_to member.value.subscriber) reads
        ∙ eq-eqb to.subscriber member.value.subscriber it in
        elim (cases_eq place other) [
          | inl same_place ↦
              differ (sym leads ∙ not_its member (ap (λ n. get_or places n None) same_place ∙ listed))
          | inr off ↦ differ (sym leads ∙ midway.well.alone other place member listed off)
        ]

    unties : (tie : Option ℕ) → get_or port.ties.items place None ≡ tie
        → ((member : Member SubscriberEntry) → get_or places place None ≡ Some member
        → is_tie_to member.value.subscriber (get_or port.ties.items place None) port ≡ false)
        → Untied place port (untied place port) reader boxes
    unties None tie not_its = subst (λ (one : PublisherPort T U). Untied place port one reader boxes) (sym (untied_isn't place port tie))
        (record {
          new_boxes = boxes;
          midway = midway_later name subscriber_name next places subscribers begun first_reader first_boxes place place port reader boxes
              midway;
          none = tie;
          still = λ other off. refl;
          same = λ member listed. midway.untouched place member (omega arith) listed;
        })
    unties (Some index) tie not_its =
        let live = midway.well.live place index tie in
        let to = some_of (get_or port.readers index None) (midway.boxes_stand.led index live) in
        let is_name = midway.boxes_stand.read index to.0 to.1 in
        let gone = unlisted index to.0 tie to.1 is_name.1 not_its in
        let step = untied_steps name subscriber_name reader next places subscribers place index port boxes tie midway.well
        midway.boxes_stand (ap (λ (one : PublisherPort T U). one.sender.uses.sending) midway.only ∙ silent) midway.size follows.apart
        to.0 to.1 (follows.left to.0.subscriber is_name.1 gone) in
        record {
          new_boxes = lost_at (reader index) boxes;
          midway = midway_on name subscriber_name next places subscribers begun first_reader first_boxes place index place port
              (untied place port) reader reader boxes (lost_at (reader index) boxes) step midway (omega arith);
          none = untied_none place index port tie live;
          still = λ other off. still_connected name subscriber_name next places subscribers begun first_reader first_boxes place index
              place port (untied place port) reader reader boxes (lost_at (reader index) boxes) step other off;
          same = λ member listed. step.change.others (subscriber_name member.value.subscriber)
              (λ same. gone place member listed (same ∙ is_name.0)) ∙ midway.untouched place member (omega arith) listed;
        }

  -- The effect of following one place.
  pub record FollowsOne (place : ℕ) (item : Option (Member SubscriberEntry)) (made : Bool) (port after : PublisherPort T U)
      (reader : ℕ → ℕ) : Type 0 where
    pub new_reader : ℕ → ℕ
    pub new_boxes : ℕ → Option (Mailbox T)
    pub midway : Mid (place + 1) (place + 1) after new_reader new_boxes
    pub still : (other : ℕ) → other ≢ place
        → option_map new_reader (get_or after.ties.items other None) ≡ option_map reader (get_or port.ties.items other None)
    pub failure : failure_at (named_by subscriber_name item) (option_map new_reader (get_or after.ties.items place None))
        ≡ (if made then None else Some OutOfMemory)
    pub listed : made ≡ false → is_some item ≡ true

  no_failure : (its_name other : ℕ) → other ≡ its_name → failure_at (Some its_name) (Some other) ≡ None
  no_failure its_name other same = rw (eq-eqb other its_name same) refl

  module _ (place : ℕ) (within : place < length places) (port : PublisherPort T U) (reader : ℕ → ℕ)
      (boxes : ℕ → Option (Mailbox T)) (midway : Mid place place port reader boxes) where
    -- a place that lists nobody
    follows_none : (next_port : PublisherPort T U) → get_or places place None ≡ None → next_port ≡ untied place port
        → FollowsOne place None true port next_port reader
    follows_none next_port nobody is = subst (λ (one : PublisherPort T U). FollowsOne place None true port one reader) (sym is)
        (let gone = unties place port reader boxes midway (get_or port.ties.items place None) refl
        (λ member listed. never_some member (sym nobody ∙ listed)) in
        record {
          new_reader = reader;
          new_boxes = gone.new_boxes;
          midway = midway_done name subscriber_name next places subscribers begun first_reader first_boxes place (untied place port) reader
              gone.new_boxes gone.midway (subst (λ item. Is place item (untied place port) reader gone.new_boxes) (sym nobody) gone.none);
          still = gone.still;
          failure = refl;
          listed = λ failed. differ failed;
        })

    module _ (member : Member SubscriberEntry) (listed : get_or places place None ≡ Some member) where
      abbrev subscriber : ℕ
      subscriber = member.value.subscriber

      abbrev its_name : ℕ
      its_name = subscriber_name subscriber

      -- who was tied there before the update
      was_so : (b : Bool) → is_tie_to subscriber (get_or port.ties.items place None) port ≡ b
          → WasTied name subscriber_name next places subscribers begun first_reader first_boxes place subscriber b
      was_so b is = by (get_or begun.ties.items place None) refl
        where
          by : (tie : Option ℕ) → get_or begun.ties.items place None ≡ tie → is_tie_to subscriber (get_or begun.ties.items place None)
              begun ≡ b
          by None tie =
              ap (λ one. is_tie_to subscriber one begun) tie
              ∙ sym (ap (λ one. is_tie_to subscriber one port) (midway.ahead place (omega arith) ∙ tie)) ∙ is
          by (Some index) tie =
              ap (λ one. is_tie_to subscriber one begun) tie
              ∙ ap (leads_to subscriber) (sym (midway.tied place index (omega arith) tie).0)
              ∙ sym (ap (λ one. is_tie_to subscriber one port) (midway.ahead place (omega arith) ∙ tie)) ∙ is

      -- a tie to it stays
      stays_by : (tie : Option ℕ) → get_or port.ties.items place None ≡ tie → is_tie_to subscriber tie port ≡ true
          → FollowsOne place (Some member) true port port reader
      stays_by None tie leads = never_true leads
      stays_by (Some index) tie leads =
          let to = led_to subscriber (get_or port.readers index None) leads in
          let called : reader index ≡ its_name = (midway.boxes_stand.read index to.0 to.1).0 ∙ ap subscriber_name to.2 in
          let done : HasTied name subscriber_name next places subscribers begun first_reader first_boxes place subscriber port reader
          boxes =
          record {
            index = index;
            tie = tie;
            called = called;
            box = inl (
              was_so true (ap (λ one. is_tie_to subscriber one port) tie ∙ leads),
              midway.untouched place member (omega arith) listed,
            );
          } in
          record {
            new_reader = reader;
            new_boxes = boxes;
            midway = midway_done name subscriber_name next places subscribers begun first_reader first_boxes place port reader boxes
                (midway_later name subscriber_name next places subscribers begun first_reader first_boxes place place port reader boxes
                midway)
                (subst (λ item. Is place item port reader boxes) (sym listed) (inr done));
            still = λ other off. refl;
            failure = ap (λ one. failure_at (Some its_name) (option_map reader one)) tie ∙ no_failure its_name (reader index) called;
            listed = λ failed. differ failed;
          }

      module _ (isn't_tie : is_tie_to subscriber (get_or port.ties.items place None) port ≡ false) where
        abbrev cleared : PublisherPort T U
        cleared = untied place port

        gone : Untied place port cleared reader boxes
        gone = unties place port reader boxes midway (get_or port.ties.items place None) refl
            (λ other is_listed.
            let same : other ≡ member = same_some other member (sym is_listed ∙ listed) in
            ap (λ (one : Member SubscriberEntry). is_tie_to one.value.subscriber (get_or port.ties.items place None) port) same
            ∙ isn't_tie)

        abbrev one : (one : Subscriber) × (at its_name subscribers ≡ Some one) × (one.stands ≡ true)
            × (one.buffer_size ≡ member.value.buffer_size) × (member.value.buffer_size ≤ most)
        one = follows.stands place member listed

        stands_now : cleared.stands ≡ true
        stands_now = ap (λ (one : PublisherPort T U). one.stands) gone.midway.only ∙ standing

        no_box : connection_to subscriber cleared ≡ None → gone.new_boxes its_name ≡ None
        no_box none = no_mailbox name subscriber_name reader subscribers cleared gone.new_boxes gone.midway.boxes_stand stands_now
            follows.apart subscriber one.0 one.1 one.2 none

        -- no connection leads to it where it fails
        none_there : may_fail place subscriber cleared ≡ true → connection_to subscriber cleared ≡ None
        none_there may = by (connection_to subscriber cleared) (nat_le cleared.ties.room place) refl may
          where
            by : (found : Option ℕ) (past : Bool) → nat_le cleared.ties.room place ≡ past → (past || is_none found) ≡ true → found ≡ None
            by found true past may =
                absurd (omega (arith, within, gone.midway.well.room, leb-true cleared.ties.room place past))
            by None false past may = refl
            by (Some index) false past may = never_true may

        fails : (next_port : PublisherPort T U) → may_fail place subscriber cleared ≡ true → next_port ≡ cleared
            → FollowsOne place (Some member) false port next_port reader
        fails next_port may is = subst (λ (one : PublisherPort T U). FollowsOne place (Some member) false port one reader) (sym is)
            (let without = no_box (none_there may) in
            let done : HasFailed name subscriber_name next places subscribers begun first_reader first_boxes place its_name cleared
            gone.new_boxes =
            record { none = gone.none; without = without; before = sym (gone.same member listed) ∙ without } in
            record {
              new_reader = reader;
              new_boxes = gone.new_boxes;
              midway = midway_done name subscriber_name next places subscribers begun first_reader first_boxes place cleared reader
                  gone.new_boxes gone.midway (subst (λ item. Is place item cleared reader gone.new_boxes) (sym listed) (inl done));
              still = gone.still;
              failure = ap (λ one. failure_at (Some its_name) (option_map reader one)) gone.none;
              listed = λ failed. refl;
            })

        -- a new tie
        ties_by : (index : ℕ) (joined next_port : PublisherPort T U) (new_reader : ℕ → ℕ)
            → JoinedAt name subscriber_name subscribers place index cleared joined reader new_reader gone.new_boxes subscriber
            → IsTiedWell next places (tied place index joined) → next_port ≡ tied place index joined
            → FollowsOne place (Some member) true port next_port reader
        ties_by index joined next_port new_reader is_joined well is =
            subst (λ (one : PublisherPort T U). FollowsOne place (Some member) true port one reader) (sym is)
            (let called : new_reader index ≡ its_name = is_joined.its ∙ ap subscriber_name is_joined.whose in
            let same_history = ap (λ (one : PublisherPort T U). one.sender.uses.history) gone.midway.only in
            let steps = tied_steps name subscriber_name reader new_reader next places subscribers place index cleared joined gone.new_boxes
            member is_joined within gone.none gone.midway.boxes_stand
            (ap (λ (one : PublisherPort T U). one.sender.uses.sending) gone.midway.only ∙ silent) gone.midway.size
            (λ slot. subst (λ (all : List (Message T U)). times slot (map (λ (message : Message T U). message.slot) all) ≤ 1)
            (sym same_history) (once slot))
            (ap (λ n. is_some (at n subscribers)) called ∙ ap is_some one.1)
            (λ other it is_listed same. follows.list.apart other place it member is_listed listed
            (follows.apart it.value.subscriber subscriber (follows.some other it is_listed) (same ∙ called)))
            listed well in
            let new_boxes = greeted_name (map (message_as name) cleared.sender.uses.history) subscribers (new_reader index)
            gone.new_boxes in
            let box : new_boxes its_name
            ≡ Some (greeting (map (message_as name) begun.sender.uses.history) subscribers its_name (first_boxes its_name)) =
            ap new_boxes (sym called)
            ∙ ap (λ b. if b then Some (greeting (map (message_as name) cleared.sender.uses.history) subscribers (new_reader index)
            (gone.new_boxes (new_reader index))) else gone.new_boxes (new_reader index))
            (eq-eqb (new_reader index) (new_reader index) refl)
            ∙ ap (λ n. Some (greeting (map (message_as name) cleared.sender.uses.history) subscribers n (gone.new_boxes n))) called
            ∙ ap (λ (all : List (Message T U)). Some (greeting (map (message_as name) all) subscribers its_name
            (gone.new_boxes its_name))) same_history
            ∙ ap (λ found. Some (greeting (map (message_as name) begun.sender.uses.history) subscribers its_name found))
            (gone.same member listed) in
            let after : PublisherPort T U = tied place index joined in
            let done : HasTied name subscriber_name next places subscribers begun first_reader first_boxes place subscriber after new_reader
            new_boxes =
            record { index = index; tie = steps.1; called = called; box = inr (was_so false isn't_tie, box) } in
            record {
              new_reader = new_reader;
              new_boxes = new_boxes;
              midway = midway_done name subscriber_name next places subscribers begun first_reader first_boxes place after new_reader
                  new_boxes (midway_on name subscriber_name next places subscribers begun first_reader first_boxes place index (place + 1)
                  cleared after reader new_reader gone.new_boxes new_boxes steps.0 gone.midway (omega arith))
                  (subst (λ item. Is place item after new_reader new_boxes) (sym listed) (inr done));
              still = λ other off. still_connected name subscriber_name next places subscribers begun first_reader first_boxes place index
                  (place + 1) cleared after reader new_reader gone.new_boxes new_boxes steps.0 other off ∙ gone.still other off;
              failure = ap (λ one. failure_at (Some its_name) (option_map new_reader one)) steps.1
                  ∙ no_failure its_name (new_reader index) called;
              listed = λ failed. differ failed;
            })

        joins : (index : ℕ) (joined next_port : PublisherPort T U) (found : Option ℕ) → connection_to subscriber cleared ≡ found
            → Joins subscriber (min member.value.buffer_size cleared.sender.uses.most_waiting) found (within_reach place cleared)
            (Ok index) joined → IsTiedWell next places next_port → next_port ≡ tied place index joined
            → FollowsOne place (Some member) true port next_port reader
        joins index joined next_port (Some there) found made well is =
            let same : there ≡ index = ok_same index there (Ok index) refl made.0 in
            ties_by index joined next_port reader
            (subst (λ (one : PublisherPort T U). JoinedAt name subscriber_name subscribers place index cleared one reader reader
            gone.new_boxes subscriber) (sym made.1)
            (joined_there name subscriber_name reader subscribers cleared gone.new_boxes gone.midway.boxes_stand stands_now follows.apart
            subscriber one.0 one.1 one.2 next places gone.midway.well place member listed refl gone.none (follows.some place member listed)
            member.value.buffer_size one.3 index (found ∙ ap (λ n. Some n) same)))
            (subst (λ (one : PublisherPort T U). IsTiedWell next places one) is well) is
        joins index joined next_port None found made well is =
            let limit : ℕ = min member.value.buffer_size cleared.sender.uses.most_waiting in
            let waiting = ap (λ (one : PublisherPort T U). one.sender.uses.most_waiting) gone.midway.only in
            ties_by index joined next_port (with_name index its_name reader)
            (joined_new name subscriber_name reader subscribers cleared gone.new_boxes gone.midway.boxes_stand stands_now follows.apart
            subscriber one.0 one.1 one.2 next places gone.midway.well place member listed refl gone.none (follows.some place member listed)
            limit (omega (arith, waiting, most_waiting, one.3, one.4)) index joined found made)
            (subst (λ (one : PublisherPort T U). IsTiedWell next places one) is well) is

        ties : (next_port : PublisherPort T U) (outcome : Result (Unit {0}) AllocError) → Ties place member.value cleared outcome next_port
            → IsTiedWell next places next_port → FollowsOne place (Some member) (is_ok outcome) port next_port reader
        ties next_port (Err error) is well = fails next_port is.0 is.1
        ties next_port (Ok done) is well = joins is.0 is.1 next_port (connection_to subscriber cleared) refl is.2 well is.3

      follows_to : (next_port : PublisherPort T U) (outcome : Result (Unit {0}) AllocError) (is_tie : Bool)
          → is_tie_to subscriber (get_or port.ties.items place None) port ≡ is_tie
          → FollowsTo place member.value is_tie port outcome next_port → IsTiedWell next places next_port
          → FollowsOne place (Some member) (is_ok outcome) port next_port reader
      follows_to next_port outcome true is is_so well =
          subst (λ answer. FollowsOne place (Some member) (is_ok answer) port next_port reader) (sym is_so.0)
          (subst (λ (one : PublisherPort T U). FollowsOne place (Some member) true port one reader) (sym is_so.1)
          (stays_by (get_or port.ties.items place None) refl is))
      follows_to next_port outcome false is is_so well = ties is next_port outcome is_so well

    follows_item : (item : Option (Member SubscriberEntry)) (next_port : PublisherPort T U) (outcome : Result (Unit {0}) AllocError)
        → get_or places place None ≡ item → Follows place item port outcome next_port → IsTiedWell next places next_port
        → FollowsOne place item (is_ok outcome) port next_port reader
    follows_item None next_port outcome nobody is well =
        subst (λ answer. FollowsOne place None (is_ok answer) port next_port reader) (sym is.0) (follows_none next_port nobody is.1)
    follows_item (Some member) next_port outcome listed is well =
        follows_to member listed next_port outcome (is_tie_to member.value.subscriber (get_or port.ties.items place None) port) refl is well

    -- a place is followed
    pub follows_place : (item : Option (Member SubscriberEntry)) (next_port : PublisherPort T U)
        (outcome : Result (Unit {0}) AllocError) → get_or places place None ≡ item → Follows place item port outcome next_port
        → FollowsOne place item (is_ok outcome) port next_port reader
    follows_place item next_port outcome listed is =
        follows_item item next_port outcome listed is
        (follows_well next places place item port next_port outcome follows.list listed midway.well is).1
