-- How a subscriber updates its connections.
use Rattle.std.specs.Prelude.{ℕ, ◌≡◌, true, false, not, ◌&&◌, ◌==◌, nat_lt, max, List, [], ◌∷◌, ◌++◌, length, map, filter}
use Rattle.std.specs.Prelude.{filter_map, fold, zip, slice_get, Option, None, Some, is_some, Result, MatchBool, MatchResult, if◌then◌else◌}
use Rattle.std.specs.List.{list_all, list_any}
use Rattle.std.specs.Option.{option_map_or}
use Rattle.iox_machine.specs.Choices.{Choices}
use Rattle.iox_machine.specs.Mailbox.{is_idle}
use Rattle.iox_machine.specs.PortList.{those, unless}
use Rattle.iox_machine.specs.PublisherUpdate.{UpdateAnswers}
use Rattle.iox_machine.specs.Service.{Service, Subscriber, mailbox, connect}
use Rattle.iox_machine.specs.Table.{changed, contains}
use Rattle.iox_machine.specs.Replies.{OnlyAnswers}
use Rattle.iox_command.specs.DomainValues.declared.connection_failure.ConnectionFailure.{ConnectionFailure}
use Rattle.iox_command.specs.declared.refusal.Refusal.{Refusal}
use Rattle.iox_command.specs.declared.reply.Reply.{Reply}
use Rattle.iox_command.specs.declared.reply.Reply.TheVariants as reply

-- The expired connections, oldest first, and the connections that stay at their places because no more connections may be expired.
pub record Parted : Type 0 where
  pub expired : List ℕ
  pub staying : List ℕ

module _ {T : Type 0} (buffer number : ℕ) where
  -- The expired connection that ends so that the connection to `publisher` can expire: the first idle one. If none is idle, and a message
  -- is borrowed from the connection to `publisher`, it is the first one from which nothing is borrowed.
  abbrev pub room_for : ℕ → List ℕ → Service T → Option ℕ
  room_for publisher expired service = slice_get
      (filter (λ other. is_idle (mailbox other number service)) expired
      ++ (if length (mailbox publisher number service).borrowed == 0 then []
      else filter (λ other. length (mailbox other number service).borrowed == 0) expired)) 0

  -- What becomes of the connection to a closed publisher: it ends if it is idle, and expires otherwise. If no more connections may be
  -- expired, an expired one ends in its favour (`room_for`). If none can, the connection ends if nothing is borrowed from it, and stays
  -- otherwise.
  abbrev pub part : Service T → Parted → ℕ → Parted
  part service parted publisher =
      if is_idle (mailbox publisher number service) then parted
      else (if nat_lt (length parted.expired) (max buffer service.settings.subscriber_max_borrowed_samples)
      then record parted { expired = parted.expired ++ publisher ∷ [] }
      else elim (room_for publisher parted.expired service) [
        | Some out ↦ record parted { expired = filter (λ other. not (other == out)) parted.expired ++ publisher ∷ [] }
        | None ↦ if length (mailbox publisher number service).borrowed == 0 then parted
            else record parted { staying = parted.staying ++ publisher ∷ [] }
      ])

  -- A subscriber follows the list of publishers. Its connections to publishers that are no longer listed at their places end, expire or
  -- stay (`part`): first at places where another publisher is listed now, then at the others. At each place it is then connected to a
  -- publisher that stays there, or else to the listed one. A connection that has no mailbox yet may fail, because memory runs out.
  abbrev pub Follows : Subscriber → Service T → Subscriber → Service T → Type 0
  Follows subscriber old after new =
      let places = zip subscriber.connected old.publisher_list.places in
      let gone = λ (place : Option ℕ × Option ℕ). unless (those (place.1 ∷ [])) place.0 in
      let parting = filter_map gone (filter (λ place. is_some place.1) places ++ filter (λ place. not (is_some place.1)) places) in
      let parted = fold (part old) (record { expired = subscriber.expired; staying = [] }) parting in
      (refused : List ℕ)
      × (list_all (λ publisher. contains (those old.publisher_list.places) publisher && not
      (is_some (old.mailboxes publisher number))) refused ≡ true)
      × (connected : List (Option ℕ))
      × (connected ≡ map (λ place. if option_map_or (contains parted.staying) place.0 false then place.0 else unless refused place.1)
      places)
      × (after ≡ record subscriber {
        seen = old.publisher_list.changes;
        again = list_any (λ place. is_some place.1 && is_some (gone place)) (zip connected old.publisher_list.places);
        connected = connected;
        expired = parted.expired;
      })
      × (new ≡ fold (λ service publisher. connect subscriber.buffer_size publisher number service)
      (record old { subscribers = changed number after old.subscribers }) (those connected))

module _ {T : Type 0} (choices : Choices T) (buffer number : ℕ) where
  -- The subscriber updates its connections if the list of publishers changed or it is to update again, and then `Does` what it was asked.
  -- If the update fails, that failure is the reply.
  abbrev pub UpdatesFirst : (ConnectionFailure → Refusal) → (Subscriber → Service T → Reply T → Service T → Type 0)
      → Subscriber → Service T → Reply T → Service T → Type 0
  UpdatesFirst told Does subscriber old answer new =
      MatchBool ((subscriber.seen == old.publisher_list.changes) && not subscriber.again)
      (Does subscriber old answer new)
      ((after : Subscriber) × (mid : Service T) × Follows buffer number subscriber old after mid
      × ((outcome : Result (Unit {0}) ConnectionFailure)
      × UpdateAnswers (choices.subscriber_acts number subscriber.degradation)
      (zip old.publisher_list.places after.connected) outcome
      × MatchResult outcome
      (λ done. Does after mid answer new)
      (λ failure. OnlyAnswers (reply.Refused (told failure)) mid answer new)))
