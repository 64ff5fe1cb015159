-- What is true of a publisher in the middle of an update: of the places that it followed, and of the remaining ones.
use Rattle.std.proofs.Common.{◌≡◌, ◌≢◌, ◌≤◌, ◌<◌, ◌+◌, ◌⊎◌, [], ℕ, Bool, true, false, List, get_or, length, map, Option, None, Some, refl}
use Rattle.std.proofs.Common.{sym, ap, subst, inl, inr, ◌∙◌, arith}
use Rattle.std.proofs.Math.Logic.{⊎_elim}
use Rattle.std.proofs.lemmas.Bool.{cases_eq}
use Rattle.std.specs.Prelude.{option_map}
use Rattle.iox_domain.specs.Container.declared.container.Member.{Member}
use Rattle.iox_domain.specs.DomainPorts.Messages.{Message}
use Rattle.iox_domain.specs.DomainPorts.MessagesSending.{slots_of}
use Rattle.iox_domain.specs.DomainPorts.Ports.{connection_of, with_connections}
use Rattle.iox_domain.specs.DomainPorts.PublisherUpdating.{is_tie_to}
use Rattle.iox_domain.specs.DomainPorts.declared.publisher_port.PublisherPort.{PublisherPort}
use Rattle.iox_domain.specs.DomainPorts.declared.reader.Reader.{Reader}
use Rattle.iox_domain.specs.DomainPorts.declared.subscriber_entry.SubscriberEntry.{SubscriberEntry}
use Rattle.iox_domain.specs.DomainSlots.Counting.{times}
use Rattle.iox_domain.specs.DomainSlots.Uses.{Connection, held_by}
use Rattle.iox_domain.specs.PortLawsLaws.{IsListApart, IsTiedWell}
use Rattle.iox_domain_machine.specs.Mailboxes.{MailboxesStandFor, times_held}
use Rattle.iox_domain_machine.specs.Naming.{message_as}
use Rattle.iox_domain_machine.proofs.FollowBoxes.{everywhere}
use Rattle.iox_domain_machine.proofs.FollowSteps.{emptied, IsUnlisted, OnlyTied, StepsAt}
use Rattle.iox_domain_machine.proofs.FollowTied.{greeting}
use Rattle.iox_machine.specs.Mailbox.{Mailbox}
use Rattle.iox_machine.specs.Message as machine
use Rattle.iox_machine.specs.Service.{Subscriber}
use Rattle.iox_machine.specs.Table.{at}

-- the name of a subscriber that is listed
abbrev pub named_by : (ℕ → ℕ) → Option (Member SubscriberEntry) → Option ℕ
named_by name item = option_map (λ (member : Member SubscriberEntry). name member.value.subscriber) item

-- The list that a publisher follows, compared with the subscribers of the machine: each listed subscriber exists, is at one place,
-- and may have as many waiting messages as the list says; a subscriber that isn't listed left; and each has a name of its own.
pub record FollowsList (subscriber_name : ℕ → ℕ) (next most : ℕ) (places : List (Option (Member SubscriberEntry)))
    (subscribers : List (ℕ × Subscriber)) : Type 0 where
  pub list : IsListApart next places
  pub stands : (place : ℕ) (member : Member SubscriberEntry) → get_or places place None ≡ Some member
      → (one : Subscriber) × (at (subscriber_name member.value.subscriber) subscribers ≡ Some one) × (one.stands ≡ true)
      × (one.buffer_size ≡ member.value.buffer_size) × (member.value.buffer_size ≤ most)
  pub left : (subscriber : ℕ) → subscriber_name subscriber ≢ 0 → IsUnlisted subscriber_name places (subscriber_name subscriber)
      → (one : Subscriber) → at (subscriber_name subscriber) subscribers ≡ Some one → one.stands ≡ false
  pub apart : (one other : ℕ) → subscriber_name one ≢ 0 → subscriber_name one ≡ subscriber_name other → one ≡ other
  pub some : (place : ℕ) (member : Member SubscriberEntry) → get_or places place None ≡ Some member
      → subscriber_name member.value.subscriber ≢ 0

module _ {T U : Type 0} (name subscriber_name : ℕ → ℕ) (next : ℕ) (places : List (Option (Member SubscriberEntry)))
    (subscribers : List (ℕ × Subscriber)) (begun : PublisherPort T U) (first_reader : ℕ → ℕ) (first_boxes : ℕ → Option (Mailbox T)) where
  abbrev pub history : List (machine.Message T)
  history = map (message_as name) begun.sender.uses.history

  -- whether a place was tied to a subscriber before the update
  abbrev pub WasTied : ℕ → ℕ → Bool → Type 0
  WasTied place subscriber tied = is_tie_to subscriber (get_or begun.ties.items place None) begun ≡ tied

  -- No connection to a subscriber could be made: it has no mailbox.
  pub record HasFailed (place its_name : ℕ) (port : PublisherPort T U) (boxes : ℕ → Option (Mailbox T)) : Type 0 where
    pub none : get_or port.ties.items place None ≡ None
    pub without : boxes its_name ≡ None
    pub before : first_boxes its_name ≡ None

  -- A place is tied to the connection of a subscriber, whose mailbox is as it was before the update if it was tied then, and that of a new
  -- subscriber else.
  pub record HasTied (place subscriber : ℕ) (port : PublisherPort T U) (reader : ℕ → ℕ) (boxes : ℕ → Option (Mailbox T)) : Type 0 where
    pub index : ℕ
    pub tie : get_or port.ties.items place None ≡ Some index
    pub called : reader index ≡ subscriber_name subscriber
    pub box : (WasTied place subscriber true × (boxes (subscriber_name subscriber) ≡ first_boxes (subscriber_name subscriber)))
        ⊎ (WasTied place subscriber false × (boxes (subscriber_name subscriber)
        ≡ Some (greeting history subscribers (subscriber_name subscriber) (first_boxes (subscriber_name subscriber)))))

  -- The effect of an update at a place that lists nobody, or a subscriber.
  abbrev pub HasBecome : ℕ → Option (Member SubscriberEntry) → PublisherPort T U → (ℕ → ℕ) → (ℕ → Option (Mailbox T)) → Type 0
  HasBecome place None port reader boxes = get_or port.ties.items place None ≡ None
  HasBecome place (Some member) port reader boxes =
      HasFailed place (subscriber_name member.value.subscriber) port boxes
      ⊎ HasTied place member.value.subscriber port reader boxes

  -- The places below the first were followed; those from another one on don't change.
  pub record Midway (first from : ℕ) (port : PublisherPort T U) (reader : ℕ → ℕ) (boxes : ℕ → Option (Mailbox T)) : Type 0 where
    pub only : OnlyTied begun port
    pub well : IsTiedWell next places port
    pub boxes_stand : MailboxesStandFor name reader subscriber_name port boxes subscribers
    pub size : length port.ties.items ≤ length places
    pub ahead : (place : ℕ) → from ≤ place → get_or port.ties.items place None ≡ get_or begun.ties.items place None
    pub tied : (place index : ℕ) → from ≤ place → get_or begun.ties.items place None ≡ Some index
        → (get_or port.readers index None ≡ get_or begun.readers index None) × (reader index ≡ first_reader index)
    pub untouched : (place : ℕ) (member : Member SubscriberEntry) → from ≤ place → get_or places place None ≡ Some member
        → boxes (subscriber_name member.value.subscriber) ≡ first_boxes (subscriber_name member.value.subscriber)
    pub done : (place : ℕ) → place < first → HasBecome place (get_or places place None) port reader boxes
    pub lost : (other : ℕ) → IsUnlisted subscriber_name places other
        → option_map emptied (boxes other) ≡ option_map emptied (first_boxes other)
    pub borrowed : (index : ℕ) → (connection_of index port).borrowed ≡ (connection_of index begun).borrowed
    pub held : (slot : ℕ) → times slot (slots_of begun.sender).history ≡ 0 → (index : ℕ)
        → times_held slot index port ≤ times_held slot index begun
    pub named : (index : ℕ) → (connection_of index begun).borrowed ≢ [] → reader index ≡ first_reader index
    pub read : (index : ℕ) (to : Reader) → get_or port.readers index None ≡ Some to → to.attached ≡ true
        → get_or begun.readers index None ≡ Some to

  -- fewer places are ahead
  pub midway_later : (first from : ℕ) (port : PublisherPort T U) (reader : ℕ → ℕ) (boxes : ℕ → Option (Mailbox T))
      → Midway first from port reader boxes → Midway first (from + 1) port reader boxes
  midway_later first from port reader boxes midway = record {
    only = midway.only;
    well = midway.well;
    boxes_stand = midway.boxes_stand;
    size = midway.size;
    ahead = λ place later. midway.ahead place (omega (arith, later));
    tied = λ place index later. midway.tied place index (omega (arith, later));
    untouched = λ place member later. midway.untouched place member (omega (arith, later));
    done = midway.done;
    lost = midway.lost;
    borrowed = midway.borrowed;
    held = midway.held;
    named = midway.named;
    read = midway.read;
  }

  -- one place more is done
  pub midway_done : (first : ℕ) (port : PublisherPort T U) (reader : ℕ → ℕ) (boxes : ℕ → Option (Mailbox T))
      → Midway first (first + 1) port reader boxes → HasBecome first (get_or places first None) port reader boxes
      → Midway (first + 1) (first + 1) port reader boxes
  midway_done first port reader boxes midway here = record {
    only = midway.only;
    well = midway.well;
    boxes_stand = midway.boxes_stand;
    size = midway.size;
    ahead = midway.ahead;
    tied = midway.tied;
    untouched = midway.untouched;
    done = λ place below. elim (cases_eq place first) [
      | inl same ↦ subst (λ n. HasBecome n (get_or places n None) port reader boxes) (sym same) here
      | inr off ↦ midway.done place (omega (arith, below, off))
    ];
    lost = midway.lost;
    borrowed = midway.borrowed;
    held = midway.held;
    named = midway.named;
    read = midway.read;
  }

  module _ (place index from : ℕ) (port after : PublisherPort T U) (reader new_reader : ℕ → ℕ) (boxes new_boxes : ℕ → Option (Mailbox T))
      (step : StepsAt name subscriber_name next places subscribers place index port after reader new_reader boxes new_boxes) where
    off_name : (other : ℕ) (member : Member SubscriberEntry) → get_or places other None ≡ Some member → other ≢ place
        → new_boxes (subscriber_name member.value.subscriber) ≡ boxes (subscriber_name member.value.subscriber)
    off_name other member listed off =
        step.change.others (subscriber_name member.value.subscriber) (λ same. off (step.whose other member listed same))

    off_index : (other i : ℕ) → other ≢ place → get_or port.ties.items other None ≡ Some i → i ≢ index
    off_index other i off tie same = step.free other off (tie ∙ ap (λ n. Some n) same)

    done_still : (other : ℕ) (item : Option (Member SubscriberEntry)) → get_or places other None ≡ item → other ≢ place
        → HasBecome other item port reader boxes → HasBecome other item after new_reader new_boxes
    done_still other None listed off was = step.items other off ∙ was
    done_still other (Some member) listed off was = ⊎_elim
        (λ failed. inl (record {
          none = step.items other off ∙ failed.none;
          without = off_name other member listed off ∙ failed.without;
          before = failed.before;
        }))
        (λ tied. inr (record {
          index = tied.index;
          tie = step.items other off ∙ tied.tie;
          called = step.change.called tied.index (off_index other tied.index off tied.tie) ∙ tied.called;
          box = ⊎_elim
              (λ kept. inl (kept.0, off_name other member listed off ∙ kept.1))
              (λ new. inr (new.0, off_name other member listed off ∙ new.1)) tied.box;
        })) was

    still_by : (other : ℕ) (tie : Option ℕ) → get_or port.ties.items other None ≡ tie → other ≢ place
        → option_map new_reader tie ≡ option_map reader tie
    still_by other None is off = refl
    still_by other (Some i) is off = ap (λ n. Some n) (step.change.called i (off_index other i off is))

    -- who is connected at another place is so still
    pub still_connected : (other : ℕ) → other ≢ place
        → option_map new_reader (get_or after.ties.items other None) ≡ option_map reader (get_or port.ties.items other None)
    still_connected other off =
        ap (option_map new_reader) (step.items other off) ∙ still_by other (get_or port.ties.items other None) refl off

    -- a step at the first place
    pub midway_on : Midway place from port reader boxes → from ≤ place + 1 → Midway place (place + 1) after new_reader new_boxes
    midway_on midway later = record {
      only = step.only ∙ ap (λ (one : PublisherPort T U). record (with_connections after.sender.uses.connections one)
          { ties = after.ties; readers = after.readers }) midway.only;
      well = step.well;
      boxes_stand = step.boxes;
      size = step.size;
      ahead = λ other behind. step.items other (omega (arith, behind)) ∙ midway.ahead other (omega (arith, behind, later));
      tied = λ other i behind tie.
          let before = midway.tied other i (omega (arith, behind, later)) tie in
          let off = off_index other i (omega (arith, behind)) (midway.ahead other (omega (arith, behind, later)) ∙ tie) in
          (step.change.reads i off ∙ before.0, step.change.called i off ∙ before.1);
      untouched = λ other member behind listed.
          off_name other member listed (omega (arith, behind)) ∙ midway.untouched other member (omega (arith, behind, later)) listed;
      done = λ other below. done_still other (get_or places other None) refl (omega (arith, below)) (midway.done other below);
      lost = λ other unlisted. step.lost other unlisted ∙ midway.lost other unlisted;
      borrowed = everywhere (λ i. (connection_of i after).borrowed ≡ (connection_of i begun).borrowed) index
          (step.borrowed ∙ midway.borrowed index)
          (λ i off. ap (λ (one : Connection (Message T U)). one.borrowed) (step.change.elsewhere i off) ∙ midway.borrowed i);
      held = λ slot none. everywhere (λ i. times_held slot i after ≤ times_held slot i begun) index
          (omega (
            arith,
            step.held slot (ap (λ (one : PublisherPort T U). times slot (slots_of one.sender).history) midway.only ∙ none),
            midway.held slot none index,
          ))
          (λ i off. omega (
            arith,
            ap (λ (one : Connection (Message T U)). times slot (map (λ (message : Message T U). message.slot) (held_by one)))
                (step.change.elsewhere i off),
            midway.held slot none i,
          ));
      named = everywhere (λ i. (connection_of i begun).borrowed ≢ [] → new_reader i ≡ first_reader i) index
          (λ some. step.named (λ none. some (sym (midway.borrowed index) ∙ none)) ∙ midway.named index some)
          (λ i off some. step.change.called i off ∙ midway.named i some);
      read = everywhere (λ i. (to : Reader) → get_or after.readers i None ≡ Some to → to.attached ≡ true
          → get_or begun.readers i None ≡ Some to) index
          (λ to is attached. midway.read index to (step.read to is attached) attached)
          (λ i off to is attached. midway.read i to (sym (step.change.reads i off) ∙ is) attached);
    }
