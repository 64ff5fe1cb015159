-- Theorems about services beside one another.
use Rattle.std.specs.Prelude.{ℕ, ◌≡◌, ⊤, Bool, true, false, ◌&&◌, List, [], ◌∷◌, map, find, filter, MatchBool, if◌then◌else◌, bytes_eq}
use Rattle.std.specs.Option.{option_map_or}
use Rattle.iox_machine.specs.Choices.{Choices}
use Rattle.iox_machine.specs.Named.{has_named}
use Rattle.iox_machine.specs.Phase.{same_pattern}
use Rattle.iox_machine.specs.Renaming.{Renaming, KeepsApart, renamed, renamed_reply}
use Rattle.iox_machine.specs.Renumbering.{renumbered_choices, AreRenumbered, renumbered_table}
use Rattle.iox_machine.specs.Run.{Step, Runs}
use Rattle.iox_machine.specs.Service.{Service}
use Rattle.iox_machine.specs.State.{State, Factory, new_state}
use Rattle.iox_machine.specs.Table.{at}
use Rattle.iox_command.specs.NegotiateBase.DescribeBase.declared.message_type.MessageTypeDetails.{MessageTypeDetails}
use Rattle.iox_command.specs.NegotiateBase.DescribeBase.declared.pattern.MessagingPattern.{MessagingPattern}
use Rattle.iox_command.specs.NegotiateBase.DescribeBase.declared.pattern.MessagingPattern.TheVariants.{PublishSubscribe}
use Rattle.iox_command.specs.Patterns.{pattern_of}
use Rattle.iox_command.specs.declared.command.Command.{Command}
use Rattle.iox_command.specs.declared.command.Command.TheVariants as command
use Rattle.iox_command.specs.declared.reply.Reply.{Reply}

-- Whether the factory is of the service of this pattern and name.
abbrev pub is_factory_of : MessagingPattern → List ℕ → Factory → Bool
is_factory_of pattern name factory = same_pattern factory.pattern pattern && bytes_eq factory.name name

module _ {T : Type 0} where
  -- Whether the service is that of this pattern and name.
  abbrev pub is_of : MessagingPattern → List ℕ → Service T → Bool
  is_of pattern name service = same_pattern pattern PublishSubscribe && bytes_eq service.name name

  -- Whether the first service that passes the test is that of this pattern and name.
  abbrev pub is_first : MessagingPattern → List ℕ → (Service T → Bool) → State T → Bool
  is_first pattern name has state = option_map_or (is_of pattern name) (find has state.services) false

  -- Whether the command asks something of the service of this pattern and name: it names the pattern and the name, or a factory, a port, a
  -- loan or a sample of the service.
  abbrev pub asks : MessagingPattern → List ℕ → Command T → State T → Bool
  asks pattern name command.Node state = false
  asks pattern name (command.Create node other options attributes steps) state =
      same_pattern (pattern_of options) pattern && bytes_eq other name
  asks pattern name (command.Open node other options required steps) state =
      same_pattern (pattern_of options) pattern && bytes_eq other name
  asks pattern name (command.OpenOrCreate node other options required steps) state =
      same_pattern (pattern_of options) pattern && bytes_eq other name
  asks pattern name (command.Foreign one other steps) state = same_pattern one pattern && bytes_eq other name
  asks pattern name (command.Close factory) state = option_map_or (is_factory_of pattern name) (at factory state.factories) false
  asks pattern name (command.Publisher factory options) state =
      option_map_or (is_factory_of pattern name) (at factory state.factories) false
  asks pattern name (command.Subscriber factory options) state =
      option_map_or (is_factory_of pattern name) (at factory state.factories) false
  asks pattern name other state = is_first pattern name (has_named state.factories other) state

  -- All of the service is as it was: its phase, its factories, and its ports with all messages that are loaned, wait, are in the history or
  -- are borrowed.
  abbrev pub IsLeft : MessagingPattern → List ℕ → State T → State T → Type 0
  IsLeft pattern name old new =
      (new.phases pattern name ≡ old.phases pattern name)
      × (filter (λ entry. is_factory_of pattern name entry.1) new.factories
      ≡ filter (λ entry. is_factory_of pattern name entry.1) old.factories)
      × (filter (is_of pattern name) new.services ≡ filter (is_of pattern name) old.services)

module _ {T : Type 0} where
  -- The second machine has of the service of this pattern and name what the first has of it, with other numbers, and no other factory or
  -- service.
  abbrev pub HasAlone : Renaming → MessagingPattern → List ℕ → State T → State T → Type 0
  HasAlone by pattern name state own =
      (own.phases pattern name ≡ state.phases pattern name)
      × (own.factories
      ≡ renumbered_table by.factories (λ factory. factory) (filter (λ entry. is_factory_of pattern name entry.1) state.factories))
      × AreRenumbered by (filter (is_of pattern name) state.services) own.services

  -- Whether the command makes a node, or asks something of the service of this pattern and name.
  abbrev pub concerns : MessagingPattern → List ℕ → Command T → State T → Bool
  concerns pattern name command.Node state = true
  concerns pattern name asked state = asks pattern name asked state

  module _ (types : MessageTypeDetails) (choices : Choices T) (buffer : ℕ) (pattern : MessagingPattern) (name : List ℕ) where
    -- No command of the run asks anything of the service.
    abbrev pub AsksNothing : (asked : List (Command T)) (old : State T) (answers : List (Reply T)) (new : State T)
        → Runs types choices buffer asked old answers new → Type 0
    AsksNothing [] old answers new run = ⊤
    AsksNothing (one ∷ more) old answers new run =
        (asks pattern name one old ≡ false) × AsksNothing more run.1 run.2 new run.4

    -- Beside the run, a machine without other services does the commands that concern the service, with the same replies. For every other
    -- command, it only skips the numbers that were given in the run.
    abbrev pub IsAlone : (asked : List (Command T)) (old : State T) (answers : List (Reply T)) (new : State T)
        → Runs types choices buffer asked old answers new → State T → Type 0
    IsAlone [] old answers new run own = ⊤
    IsAlone (one ∷ more) old answers new run own =
        MatchBool (concerns pattern name one old)
        ((mid : State T) × Step types choices buffer one own run.0 mid × IsAlone more run.1 run.2 new run.4 mid)
        (IsAlone more run.1 run.2 new run.4 (record own { made = run.1.made }))

    -- The commands of the run that concern the service.
    abbrev pub commands_concerning : (asked : List (Command T)) (old : State T) (answers : List (Reply T)) (new : State T)
        → Runs types choices buffer asked old answers new → List (Command T)
    commands_concerning [] old answers new run = []
    commands_concerning (one ∷ more) old answers new run =
        if concerns pattern name one old then one ∷ commands_concerning more run.1 run.2 new run.4
        else commands_concerning more run.1 run.2 new run.4

    -- The replies to the commands of the run that concern the service.
    abbrev pub answers_concerning : (asked : List (Command T)) (old : State T) (answers : List (Reply T)) (new : State T)
        → Runs types choices buffer asked old answers new → List (Reply T)
    answers_concerning [] old answers new run = []
    answers_concerning (one ∷ more) old answers new run =
        if concerns pattern name one old then run.0 ∷ answers_concerning more run.1 run.2 new run.4
        else answers_concerning more run.1 run.2 new run.4

module _ {T : Type 0} (choices : Choices T) where
  -- In a run of a new machine, all of a service stays as it was while no command asks anything of it, whatever is asked of others.
  abbrev pub OthersAreLeft : Type 0
  OthersAreLeft = (types : MessageTypeDetails) (buffer : ℕ) (before : List (Command T)) (told : List (Reply T)) (old : State T)
      → Runs types choices buffer before new_state told old
      → (asked : List (Command T)) (answers : List (Reply T)) (new : State T) (run : Runs types choices buffer asked old answers new)
      → (pattern : MessagingPattern) (name : List ℕ)
      → AsksNothing types choices buffer pattern name asked old answers new run → IsLeft pattern name old new

  -- In every run of a new machine, leave out the commands that ask nothing of a service, except those that make nodes. A new machine that
  -- gets only the remaining commands may give the same replies to them, if it skips the numbers that were given in reply to the commands
  -- left out.
  abbrev pub ServicesAreAsIfAlone : Type 0
  ServicesAreAsIfAlone = (types : MessageTypeDetails) (buffer : ℕ) (asked : List (Command T)) (answers : List (Reply T)) (new : State T)
      (run : Runs types choices buffer asked new_state answers new)
      → (pattern : MessagingPattern) (name : List ℕ)
      → IsAlone types choices buffer pattern name asked new_state answers new run new_state

  -- In every run of a new machine, leave out the commands that ask nothing of a service, except those that make nodes. The remaining
  -- commands, with other numbers for what they name, are a run of a new machine by themselves: each has the same reply, with the other
  -- number if it reports one. So numbers are counted anew, without gaps. At the end that machine has of the service what the first machine
  -- has, except for the numbers.
  abbrev pub NumbersAreCountedAnew : Type 0
  NumbersAreCountedAnew = (types : MessageTypeDetails) (buffer : ℕ) (asked : List (Command T)) (answers : List (Reply T)) (new : State T)
      (run : Runs types choices buffer asked new_state answers new)
      → (pattern : MessagingPattern) (name : List ℕ)
      → (by : Renaming) × (after : State T) × KeepsApart by
      × Runs types (renumbered_choices by choices) buffer
      (map (renamed by) (commands_concerning types choices buffer pattern name asked new_state answers new run)) new_state
      (map (renamed_reply by) (answers_concerning types choices buffer pattern name asked new_state answers new run)) after
      × HasAlone by pattern name new after
