-- Messages come back to a connection, one after the other.
use Rattle.std.proofs.Common.{rules, arith, ◌≡◌, ◌+◌, ◌-◌, ◌<◌, ◌∷◌, [], ◌++◌, ℕ, zero, suc, Bool, true, false, nat_lt, if◌then◌else◌}
use Rattle.std.proofs.Common.{List, length, map, take, get_or, slice_get, Option, None, Some, IfSome, refl, sym, ap, ◌∙◌}
use Rattle.std.proofs.lemmas.List.{get_or-set_same, map-append, length-map, length-take-le, take_more}
use Rattle.std.proofs.lemmas.Option.{get_or_from_slice_get}
use Rattle.iox_domain_ports.specs.DomainSlots.Waiting.{put, put_over}
use Rattle.iox_domain_ports.specs.DomainSlots.declared.stage.Stage.TheVariants as stage
use Rattle.iox_domain_ports.specs.DomainSlots.Uses.{Connection, nobody, connection_at, with_connection, offered}
use Rattle.iox_domain_ports.specs.Messages.{Message}
use Rattle.iox_domain_ports.specs.MessagesSending.{SenderState, with_uses}
use Rattle.iox_lanes_machine.specs.LanesBase.Table.{TableWords}
use Rattle.iox_lanes_machine.specs.Resting.{Rests, mail_at}
use Rattle.iox_lanes_machine.specs.World.{World}
use Rattle.iox_lanes_opening.specs.Leaving.{message_in}
use Rattle.iox_lanes_opening.specs.Restoring.{AreLeft, IsOwn, IsQuiet, MayBeSent, MayCome, OnlyWaits, MayWaitAll, messages_in}
use Rattle.iox_lanes_opening.proofs.Waits.{waits_on, with_waiting}

-- a message comes to a mailbox with room
room_for : {X : Type 0} (overflows : Bool) (limit : ℕ) (waiting : List X) (message : X) → length waiting < limit
    → (if overflows then put_over limit waiting message else put limit waiting message) ≡ waiting ++ message ∷ []
room_for true limit waiting message below = let fits : nat_lt (length waiting) limit ≡ true = grind (arith, below) in rw fits refl
room_for false limit waiting message below = let fits : nat_lt (length waiting) limit ≡ true = grind (arith, below) in rw fits refl

pub within : {X : Type 0} (connections : List (Connection X)) (i : ℕ) → (get_or connections i nobody).stage ≡ stage.Live
    → i < length connections
within [] i on = search (rules, on)
within (x ∷ xs) zero on = omega arith
within (x ∷ xs) (suc i) on = omega (arith, within xs i on)

-- a publisher of which only what waits has changed is as quiet as before
pub quiet_still : {T U : Type 0} (index : ℕ) (old new : SenderState T U) → OnlyWaits index old new → IsQuiet old → IsQuiet new
quiet_still index old new only quiet = record {
  idle = ap (λ s. s.uses.sending) only ∙ quiet.idle;
  unlent = ap (λ s. s.uses.loans) only ∙ quiet.unlent;
  room = omega (arith, quiet.room, ap (λ s. s.room) only);
}

-- a slot of a publisher's own, where a connection goes on too
pub own_and_live : (first slot : ℕ) (Own Live : Type 0) (own : Option ℕ) → IfSome own (λ it. (it ≡ slot - first) × Own) → Live
    → IfSome own (λ it. (it ≡ slot - first) × Own × Live)
own_and_live first slot Own Live None some live = tt
own_and_live first slot Own Live (Some it) some live = (some.0, some.1, live)

-- a message in a slot of a publisher's own may be sent again
pub own_sent : {T U : Type 0} (value_of : List ℕ → T) (header_of : List ℕ → Option ℕ × U) (payload_words header_words : ℕ)
    (table : TableWords) (first slot own places : ℕ) (sender : SenderState T U) → own ≡ slot - first
    → IsOwn first slot table.sizes.slots sender.uses
    → MayCome value_of header_of payload_words header_words table first places sender
    → MayBeSent value_of header_of payload_words header_words table first own places sender
own_sent value_of header_of payload_words header_words table first slot own places sender is stands come = record {
  room = come.room;
  whole = come.whole;
  there = omega (arith, is, stands.there, stands.from);
  stands = record {
    idle = come.quiet.idle;
    unlent = come.quiet.unlent;
    first = omega (arith, is, stands.behind);
    within = omega (arith, is, stands.within);
    room = come.quiet.room;
  };
  left = come.left;
}

-- the message that lies in a slot of the lanes
abbrev pub message_of : {T U : Type 0} → (List ℕ → T) → (List ℕ → Option ℕ × U) → TableWords → ℕ → ℕ → Message T U
message_of value_of header_of table first slot = message_in value_of header_of table first (slot - first)

-- n of the messages that wait in the lanes wait in the domain
pub record Returning {T U : Type 0} (value_of : List ℕ → T) (header_of : List ℕ → Option ℕ × U) (lanes : World) (connection first index : ℕ)
    (start now : SenderState T U) (count : ℕ) : Type 0 where
  pub rest : OnlyWaits index start now
  pub left : AreLeft value_of header_of lanes.table first now.uses
  pub waits : MayWaitAll lanes connection first index start
      → (connection_at index now.uses).waiting ≡ messages_in value_of header_of lanes.table first (take count (mail_at lanes connection))

pub one_returned : {T U : Type 0} (value_of : List ℕ → T) (header_of : List ℕ → Option ℕ × U) (lanes : World) (connection first index : ℕ)
    (start now next : SenderState T U) (count total slot : ℕ)
    → Returning value_of header_of lanes connection first index start now count → count < total
    → (Rests lanes connection → total ≡ length (mail_at lanes connection))
    → (Rests lanes connection → count < length (mail_at lanes connection) → slice_get (mail_at lanes connection) count ≡ Some slot)
    → (IsOwn first slot lanes.table.sizes.slots now.uses → (connection_at index now.uses).stage ≡ stage.Live
    → next ≡ with_uses (with_connection index
    (offered now.uses.overflows (message_in value_of header_of lanes.table first (slot - first)) (connection_at index now.uses))
    now.uses) now)
    → OnlyWaits index now next → AreLeft value_of header_of lanes.table first next.uses
    → Returning value_of header_of lanes connection first index start next (count + 1)
one_returned {T = T} {U = U} value_of header_of lanes connection first index start now next count total slot so_far few total_is slot_is
    puts only left = record {
      rest = waits_on index start now next so_far.rest only;
      left = left;
      waits = λ may.
          let below : count < length (mail_at lanes connection) = omega (arith, few, total_is may.rests) in
          let is : slice_get (mail_at lanes connection) count ≡ Some slot = slot_is may.rests below in
          let own = may.own count slot is in
          let first_is : now.uses.first ≡ start.uses.first = ap (λ s. s.uses.first) so_far.rest in
          let size_is : now.uses.size ≡ start.uses.size = ap (λ s. s.uses.size) so_far.rest in
          let own_now : IsOwn first slot lanes.table.sizes.slots now.uses
          = record {
            from = own.from;
            there = own.there;
            behind = omega (arith, own.behind, first_is);
            within
                = omega (arith, own.within, first_is, size_is);
          } in
          let here : connection_at index now.uses ≡ with_waiting (connection_at index start.uses) (connection_at index now.uses).waiting =
          ap (λ s. connection_at index s.uses) so_far.rest ∙ get_or-set_same start.uses.connections index
          (with_waiting (connection_at index start.uses) (connection_at index now.uses).waiting) nobody
          (within start.uses.connections index may.live) in
          let live : (connection_at index now.uses).stage ≡ stage.Live = ap (λ c. c.stage) here ∙ may.live in
          let limit_is : (connection_at index now.uses).limit ≡ (connection_at index start.uses).limit = ap (λ c. c.limit) here in
          let waiting_is : (connection_at index now.uses).waiting
          ≡ messages_in value_of header_of lanes.table first (take count (mail_at lanes connection)) = so_far.waits may in
          let long : length (connection_at index now.uses).waiting ≡ count =
          ap length waiting_is ∙ length-map (take count (mail_at lanes connection)) (message_of value_of header_of lanes.table first) ∙
          length-take-le count (mail_at lanes connection) (omega (arith, below)) in
          let after : connection_at index next.uses
          ≡ offered now.uses.overflows (message_of value_of header_of lanes.table first slot) (connection_at index now.uses) =
          ap (λ s. connection_at index s.uses) (puts own_now live) ∙ get_or-set_same now.uses.connections index
          (offered now.uses.overflows (message_of value_of header_of lanes.table first slot) (connection_at index now.uses)) nobody
          (within now.uses.connections index live) in
          let grown : take (count + 1) (mail_at lanes connection) ≡ take count (mail_at lanes connection) ++ slot ∷ [] =
          take_more (mail_at lanes connection) count 0 below ∙ ap (λ x. take count (mail_at lanes connection) ++ x ∷ [])
          (get_or_from_slice_get (mail_at lanes connection) count slot 0 is) in
          ap (λ c. c.waiting) after
          ∙ room_for now.uses.overflows (connection_at index now.uses).limit (connection_at index now.uses).waiting
          (message_of value_of header_of lanes.table first slot) (omega (arith, long, below, limit_is, may.room))
          ∙ ap (λ w. w ++ message_of value_of header_of lanes.table first slot ∷ []) waiting_is
          ∙ sym (ap (map (message_of value_of header_of lanes.table first)) grown ∙ map-append
          (message_of value_of header_of lanes.table first) (take count (mail_at lanes connection)) (slot ∷ []));
    }
