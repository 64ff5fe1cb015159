-- The message in a slot is found where it is borrowed.
use Rattle.std.proofs.Common.{arith, ℕ, ◌≡◌, ◌<◌, ◌==◌, ◌∷◌, [], List, length, slice_get, None, Some, position, option_map}
use Rattle.std.proofs.Common.{sym, ap, ◌∙◌, refl}
use Rattle.std.proofs.Common.{Bool, true, false, cond, is_some, nat_lt}
use Rattle.std.proofs.Math.Logic.{⊎_elim}
use Rattle.std.proofs.lemmas.Bool.{eqb-true}
use Rattle.std.proofs.lemmas.List.Quantifiers.{position-Some}
use Rattle.std.proofs.lemmas.Option.{slice_get_cases}
use Rattle.std.specs.List.{find}
use Rattle.iox_domain_slots.specs.Uses.{Connection, connection_at}
use Rattle.iox_domain_slots.proofs.Loaned.{not_true}
use Rattle.iox_domain_ports.specs.Messages.{Message}
use Rattle.iox_domain_ports.specs.MessagesSending.{borrowed_place}
use Rattle.iox_domain_ports.proofs.Finding.{at_place, at_none}
use Rattle.iox_domain_ports.specs.Ports.{connection_of}
use Rattle.iox_domain_ports.specs.declared.publisher_port.PublisherPort.{PublisherPort}
use Rattle.iox_domain_ports.specs.Reading.{place_of, borrowed_in, given_back_at}

position_within : {T U : Type 0} (slot at : ℕ) (borrowed : List (Message T U))
    → position (λ message. message.slot == slot) borrowed ≡ Some at → at < length borrowed
position_within slot at [] is = cc
position_within slot at (message ∷ borrowed) is = (position-Some (λ message. message.slot == slot) (message ∷ borrowed) at message is).0

-- the message at the place where the first in this slot is borrowed
located : {T U : Type 0} (slot at : ℕ) (borrowed : List (Message T U)) → position (λ message. message.slot == slot) borrowed ≡ Some at
    → (message : Message T U) × (slice_get borrowed at ≡ Some message) × (message.slot ≡ slot)
    × (find (λ message. message.slot == slot) borrowed ≡ Some message)
located slot at borrowed is =
    ⊎_elim
    (λ inside.
    let first = position-Some (λ message. message.slot == slot) borrowed at inside.0 is in (
      inside.0,
      inside.2,
      eqb-true _ _ (ap (λ message. message.slot == slot) (sym inside.3) ∙ first.1),
      sym
          (at_place (λ message. message.slot == slot) borrowed at (sym is)) ∙ inside.2,
    ))
    (λ past. absurd (omega (arith, past.0, position_within slot at borrowed is)))
    (slice_get_cases borrowed at).1

-- what is read in a slot is what is told of the message that is borrowed there
pub read_there : {T U X : Type 0} (part : Message T U → X) (index slot at : ℕ) (port : PublisherPort T U) (read : X)
    → Some at ≡ place_of slot (connection_of index port)
    → ((index at : ℕ) (message : Message T U) → slice_get (connection_at index port.sender.uses).borrowed at ≡ Some message
    → message.slot ≡ slot → read ≡ part message)
    → Some read ≡ option_map part (borrowed_in slot (connection_of index port))
read_there part index slot at port read is reads =
    let there = located slot at (connection_of index port).borrowed (sym is) in
    ap Some (reads index at there.0 there.1 there.2) ∙ sym (ap (λ found. option_map part found) there.3)

-- where nothing is borrowed in a slot nothing is read
pub read_none : {T U X : Type 0} (part : Message T U → X) (index slot : ℕ) (port : PublisherPort T U)
    → None ≡ place_of slot (connection_of index port)
    → None ≡ option_map part (borrowed_in slot (connection_of index port))
read_none part index slot port is = sym
    (ap (λ found. option_map part found) (at_none (λ message. message.slot == slot) (connection_of index port).borrowed is))

-- a message that is borrowed has a place
pub place_there : {T U : Type 0} (slot : ℕ) (connection : Connection (Message T U)) → is_some (place_of slot connection) ≡ true
    → Some (borrowed_place slot connection) ≡ place_of slot connection
place_there slot connection = at (nat_lt (borrowed_place slot connection) (length connection.borrowed)) (borrowed_place slot connection)
  where
    at : (before : Bool) (n : ℕ) → is_some (cond before (Some n) None) ≡ true → Some n ≡ cond before (Some n) None
    at true n is = refl
    at false n is = absurd (not_true is)

-- and one that isn't has none
pub no_place : {T U : Type 0} (slot : ℕ) (connection : Connection (Message T U)) → is_some (place_of slot connection) ≡ false
    → None ≡ place_of slot connection
no_place slot connection = at (nat_lt (borrowed_place slot connection) (length connection.borrowed)) (borrowed_place slot connection)
  where
    at : (before : Bool) (n : ℕ) → is_some (cond before (Some n) None) ≡ false → None ≡ cond before (Some n) None
    at true n is = absurd (not_true (sym is))
    at false n is = refl

-- the message that is given back is the first in its slot
pub given_there : {T U : Type 0} (index slot : ℕ) (port new : PublisherPort T U)
    → is_some (place_of slot (connection_of index port)) ≡ true
    → new ≡ given_back_at index (Some (borrowed_place slot (connection_of index port))) port
    → new ≡ given_back_at index (place_of slot (connection_of index port)) port
given_there index slot port new is made = made ∙ ap (λ at. given_back_at index at port) (place_there slot (connection_of index port) is)
