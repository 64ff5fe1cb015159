-- The state of the machine.
use Rattle.std.specs.Prelude.{ℕ, ◌+◌, ◌≡◌, Bool, ◌&&◌, bytes_eq, List, [], ◌∷◌, find, Option, is_some, MatchOption, if◌then◌else◌}
use Rattle.iox_machine.specs.Phase.{Phase, Absent, same_pattern}
use Rattle.iox_machine.specs.Service.{Service}
use Rattle.iox_machine.specs.Replies.{OnlyAnswers}
use Rattle.iox_command.specs.NegotiateBase.DescribeBase.declared.pattern.MessagingPattern.{MessagingPattern}
use Rattle.iox_command.specs.NegotiateBase.DescribeBase.declared.pattern.MessagingPattern.TheVariants as pattern
use Rattle.iox_command.specs.declared.reply.Reply.{Reply}
use Rattle.iox_command.specs.declared.reply.Reply.TheVariants as reply

-- How many values of each kind were made so far: they are numbered from 1, and no number is given twice.
pub record Made : Type 0 where
  pub nodes : ℕ
  pub factories : ℕ
  pub publishers : ℕ
  pub subscribers : ℕ
  pub loans : ℕ
  pub samples : ℕ

-- A factory: the pattern and name of its service, and its node.
pub record Factory : Type 0 where
  pub pattern : MessagingPattern
  pub name : List ℕ
  pub node : ℕ

-- The state: how many values were made, the phase of each pattern and name, the open factories, and their publish-subscribe services.
pub record State (T : Type 0) : Type 0 where
  pub made : Made
  pub phases : MessagingPattern → List ℕ → Phase
  pub factories : List (ℕ × Factory)
  pub services : List (Service T)

-- The counts once this reply was given: one more of the kind whose number the reply reports.
abbrev pub counted : {T : Type 0} → Reply T → Made → Made
counted (reply.NodeMade number) made = record made { nodes = made.nodes + 1 }
counted (reply.FactoryMade number) made = record made { factories = made.factories + 1 }
counted (reply.PublisherMade number) made = record made { publishers = made.publishers + 1 }
counted (reply.SubscriberMade number) made = record made { subscribers = made.subscribers + 1 }
counted (reply.LoanMade number) made = record made { loans = made.loans + 1 }
counted (reply.Received number values) made = record made { samples = made.samples + 1 }
counted other made = made

module _ {T : Type 0} where
  -- The state of a new machine: nothing was made, and every phase is absent.
  abbrev pub new_state : State T
  new_state = record {
    made = record { nodes = 0; factories = 0; publishers = 0; subscribers = 0; loans = 0; samples = 0 };
    phases = λ pattern name. Absent 0;
    factories = [];
    services = [];
  }

  -- Whether this service is that of the factory.
  abbrev pub is_service_of : Factory → Service T → Bool
  is_service_of factory service = same_pattern factory.pattern pattern.PublishSubscribe && bytes_eq service.name factory.name

  -- The state with this phase of a pattern and name.
  abbrev pub with_phase : MessagingPattern → List ℕ → Phase → State T → State T
  with_phase pattern name phase state = record state {
    phases = λ other another. if same_pattern other pattern && bytes_eq another name then phase else state.phases other another;
  }

  -- The services with another service in place of the first that passes the test.
  abbrev pub replaced : (Service T → Bool) → Service T → List (Service T) → List (Service T)
  replaced has after [] = []
  replaced has after (service ∷ more) = if has service then after ∷ more else service ∷ replaced has after more

  -- A command that names something which at most one service has: `Does` is done at that service. It is skipped if none has it.
  abbrev pub AtOne : {V : Type 0} → (Service T → Option V) → (V → Service T → Reply T → Service T → Type 0) → State T → Reply T → State T
      → Type 0
  AtOne found Does old answer new =
      let has = λ (service : Service T). is_some (found service) in
      MatchOption (find has old.services)
      (OnlyAnswers reply.Skipped old answer new)
      (λ service. (after : Service T) × MatchOption (found service) ⊥ (λ one. Does one service answer after)
      × (new ≡ record old { made = counted answer old.made; services = replaced has after old.services }))
