-- In which order connections to closed publishers expire, and which of them end for others.
use Rattle.std.specs.Prelude.{ℕ, ◌≡◌, ◌≤◌, ◌<◌, ◌⊎◌, Bool, true, false, not, ◌==◌, max, List, [], ◌∷◌, ◌++◌, length, filter, filter_map}
use Rattle.std.specs.Prelude.{find, zip, Option, None, Some, is_some, if◌then◌else◌}
use Rattle.std.specs.List.{AllByRecursion}
use Rattle.iox_machine.specs.Choices.{Choices}
use Rattle.iox_machine.specs.MessageLaws.{IsPartOf}
use Rattle.iox_machine.specs.OnceLaws.{is_skipped}
use Rattle.iox_machine.specs.PortList.{those}
use Rattle.iox_machine.specs.Ports.{subscriber_in}
use Rattle.iox_machine.specs.Run.{Step}
use Rattle.iox_machine.specs.Service.{Service, Subscriber, mailbox}
use Rattle.iox_machine.specs.State.{State, replaced}
use Rattle.iox_machine.specs.Table.{contains}
use Rattle.iox_machine.specs.WaitingLaws.{HasData, IsAttended}
use Rattle.iox_command.specs.DomainValues.declared.connection_failure.ConnectionFailure.{ConnectionFailure}
use Rattle.iox_command.specs.DomainValues.declared.port_error.ReceiveError.TheVariants as error
use Rattle.iox_command.specs.NegotiateBase.DescribeBase.declared.message_type.MessageTypeDetails.{MessageTypeDetails}
use Rattle.iox_command.specs.declared.command.Command.TheVariants as command
use Rattle.iox_command.specs.declared.port.PortNumber.TheVariants as port
use Rattle.iox_command.specs.declared.refusal.Refusal.TheVariants as refusal
use Rattle.iox_command.specs.declared.reply.Reply.{Reply}
use Rattle.iox_command.specs.declared.reply.Reply.TheVariants as reply

-- The first number of the list of which this holds.
abbrev pub IsFirst : (ℕ → Type 0) → List ℕ → ℕ → Type 0
IsFirst Is numbers one =
    (before : List ℕ) × (behind : List ℕ) × (numbers ≡ before ++ one ∷ behind) × Is one × AllByRecursion (λ other. Is other → ⊥) before

-- The publisher to which a subscriber was connected at a place, if it isn't the one that is listed there now.
abbrev pub closed_at : Option ℕ × Option ℕ → Option ℕ
closed_at (None, listed) = None
closed_at (Some publisher, None) = Some publisher
closed_at (Some publisher, Some listed) = if listed == publisher then None else Some publisher

-- The publishers of the connections that part at an update, in their order: first those at whose place another publisher is listed now,
-- then those at whose place none is.
abbrev pub parting_from : List (Option ℕ) → List (Option ℕ) → List ℕ
parting_from connected listed =
    let places = zip connected listed in
    filter_map closed_at (filter (λ place. is_some place.1) places ++ filter (λ place. not (is_some place.1)) places)

module _ {T : Type 0} (number : ℕ) (service : Service T) where
  -- Nothing waits in the subscriber's connection to this publisher, and nothing is borrowed of it.
  abbrev pub IsIdle : ℕ → Type 0
  IsIdle publisher =
      ((mailbox publisher number service).waiting ≡ []) × ((mailbox publisher number service).borrowed ≡ [])

  -- The expired connections of a subscriber after an update, by what it had before. Those that were expired and still are keep their order,
  -- and come first. After them come publishers to which the subscriber was connected. If a connection isn't expired any longer, nothing is
  -- borrowed from it; and if something waited there, no emptied connection is left, because that one would have ended first.
  abbrev pub ExpiresInOrder : Subscriber → Subscriber → Type 0
  ExpiresInOrder was now =
      (kept : List ℕ) × (added : List ℕ) × (now.expired ≡ kept ++ added) × IsPartOf kept was.expired
      × AllByRecursion (λ publisher. contains (those was.connected) publisher ≡ true) added
      × ((publisher : ℕ) → contains was.expired publisher ≡ true → contains kept publisher ≡ false
      → ((mailbox publisher number service).borrowed ≡ [])
      × (HasData number service publisher → AllByRecursion (λ other. IsIdle other → ⊥) now.expired))

  -- Nothing is borrowed from the subscriber's connection to this publisher.
  abbrev pub IsUnborrowed : ℕ → Type 0
  IsUnborrowed publisher = (mailbox publisher number service).borrowed ≡ []

  -- The connection to a closed publisher parts, where at most `most` connections may be expired: this makes of the expired connections, and
  -- says whether the connection stays at its place. An emptied one ends. Another expires, as the last, if fewer than `most` are expired.
  -- Otherwise the first emptied one ends for it. If none is emptied, the connection ends if nothing is borrowed from it; otherwise the
  -- first one from which nothing is borrowed ends for it; and if there is none, it stays.
  abbrev pub Parts : (most publisher : ℕ) → List ℕ → List ℕ → Bool → Type 0
  Parts most publisher expired now stays =
      (IsIdle publisher × (now ≡ expired) × (stays ≡ false))
      ⊎ ((IsIdle publisher → ⊥)
      × (((length expired < most) × (now ≡ expired ++ publisher ∷ []) × (stays ≡ false))
      ⊎ ((most ≤ length expired)
      × (((out : ℕ) × IsFirst IsIdle expired out
      × (now ≡ filter (λ other. not (other == out)) expired ++ publisher ∷ []) × (stays ≡ false))
      ⊎ (AllByRecursion (λ other. IsIdle other → ⊥) expired
      × ((IsUnborrowed publisher × (now ≡ expired) × (stays ≡ false))
      ⊎ ((IsUnborrowed publisher → ⊥)
      × (((out : ℕ) × IsFirst IsUnborrowed expired out
      × (now ≡ filter (λ other. not (other == out)) expired ++ publisher ∷ []) × (stays ≡ false))
      ⊎ (AllByRecursion (λ other. IsUnborrowed other → ⊥) expired × (now ≡ expired) × (stays ≡ true))))))))))

  -- The connections to these publishers part, one after the other. This makes of the expired ones, and these stay at their places.
  abbrev pub AllPart : (most : ℕ) → List ℕ → List ℕ → List ℕ → List ℕ → Type 0
  AllPart most [] expired now staying = (now ≡ expired) × (staying ≡ [])
  AllPart most (publisher ∷ more) expired now staying =
      (mid : List ℕ) × (stays : Bool) × (later : List ℕ) × Parts most publisher expired mid stays
      × AllPart most more mid now later × (staying ≡ (if stays then publisher ∷ later else later))

  -- Exactly this becomes of the connections to publishers that are listed no longer at their places: some expire or end, as `AllPart` says,
  -- and those that stay are connected at their places as before.
  abbrev pub PartsExactly : (buffer : ℕ) → Subscriber → Subscriber → Type 0
  PartsExactly buffer was now =
      (staying : List ℕ)
      × AllPart (max buffer service.settings.subscriber_max_borrowed_samples)
      (parting_from was.connected service.publisher_list.places) was.expired now.expired staying
      × AllByRecursion (λ place. (publisher : ℕ) → place.0 ≡ Some publisher → contains staying publisher ≡ true
      → place.1 ≡ Some publisher) (zip was.connected now.connected)

module _ {T : Type 0} (choices : Choices T) where
  -- An update of a subscriber that isn't skipped changes nothing, or its connections to closed publishers part exactly as `PartsExactly`
  -- says, and so they expire in order.
  abbrev pub ConnectionsExpireInOrder : Type 0
  ConnectionsExpireInOrder = (types : MessageTypeDetails) (buffer number : ℕ) (old : State T) (answer : Reply T) (new : State T)
      → Step types choices buffer (command.Update (port.Subscriber number)) old answer new → is_skipped answer ≡ false
      → (new ≡ old)
      ⊎ ((service : Service T) × (after : Service T) × (was : Subscriber) × (now : Subscriber)
      × (find (λ other. is_some (subscriber_in number other)) old.services ≡ Some service)
      × (new.services ≡ replaced (λ other. is_some (subscriber_in number other)) after old.services)
      × (subscriber_in number service ≡ Some was) × (subscriber_in number after ≡ Some now)
      × ExpiresInOrder number service was now × PartsExactly number service buffer was now)

  -- A receive that isn't skipped, and whose update didn't fail, ends only expired connections that are emptied after the update, and keeps
  -- the others in their order.
  abbrev pub ReceivesEndEmptied : Type 0
  ReceivesEndEmptied = (types : MessageTypeDetails) (buffer number : ℕ) (old : State T) (answer : Reply T) (new : State T)
      → Step types choices buffer (command.Receive number) old answer new → is_skipped answer ≡ false
      → ((failure : ConnectionFailure) × (answer ≡ reply.Refused (refusal.Receive (error.ConnectionFailure failure))))
      ⊎ ((mid : State T) × (service : Service T) × (one : Subscriber) × (after : Service T) × (now : Subscriber)
      × IsAttended types choices buffer number old mid service one
      × (new.services ≡ replaced (λ other. is_some (subscriber_in number other)) after old.services)
      × (subscriber_in number after ≡ Some now) × IsPartOf now.expired one.expired
      × ((publisher : ℕ) → contains one.expired publisher ≡ true → contains now.expired publisher ≡ false
      → IsIdle number service publisher))
