-- Which handlers are taken.
use Rattle.std.specs.Prelude.{ℕ, ◌≡◌, ◌⊎◌, Bool, true, false, if◌then◌else◌, List, [], ◌∷◌, ◌++◌, length, Option, None, IsSome}
use Rattle.std.specs.Prelude.{option_to_list}
use Rattle.iox_hub_commands.specs.Command.declared.reply.Reply.{Reply}
use Rattle.iox_hub_commands.specs.Command.declared.reply.Reply.TheVariants as reply
use Rattle.iox_hub.specs.Places.{lies_at}
use Rattle.iox_hub.specs.declared.handled_command.HandledCommand.{HandledCommand}
use Rattle.iox_hub.specs.declared.handled_command.HandledCommand.TheVariants as asked

-- Whether a command was skipped.
abbrev pub is_skipped : {T : Type 0} → Reply T → Bool
is_skipped reply.Skipped = true
is_skipped other = false

-- The places of handlers that the command names.
abbrev pub places_of : {T : Type 0} → HandledCommand T → List ℕ
places_of (asked.Plain command) = []
places_of (asked.Publisher factory options at_full at_failure) = option_to_list at_full ++ option_to_list at_failure
places_of (asked.Subscriber factory options at_failure) = at_failure ∷ []

-- The places that are named by the commands that have a reply and weren't skipped.
abbrev pub taken : {T : Type 0} → List (HandledCommand T) → List (Reply T) → List ℕ
taken [] replies = []
taken (command ∷ commands) [] = []
taken (command ∷ commands) (answer ∷ replies) = (if is_skipped answer then [] else places_of command) ++ taken commands replies

-- The place is one of the list.
abbrev pub IsAmong : ℕ → List ℕ → Type 0
IsAmong place [] = ⊥
IsAmong place (one ∷ rest) = (one ≡ place) ⊎ IsAmong place rest

-- No place is in the list twice.
abbrev pub NoneTwice : List ℕ → Type 0
NoneTwice [] = Unit {0}
NoneTwice (one ∷ rest) = (IsAmong one rest → ⊥) × NoneTwice rest

-- Exactly the handlers at these places are taken: no place is named twice, each had a handler, and none has one afterwards. All other
-- places are as they were.
pub record TakesOnce {X : Type 0} (places : List ℕ) (old new : List (Option X)) : Type 0 where
  pub none_twice : NoneTwice places
  pub lay : (place : ℕ) → IsAmong place places → IsSome (lies_at place old)
  pub gone : (place : ℕ) → IsAmong place places → lies_at place new ≡ None
  pub stays : (place : ℕ) → (IsAmong place places → ⊥) → lies_at place new ≡ lies_at place old
  pub as_many : length new ≡ length old
