-- For any sizes there is a machine from which lanes go on in turn.
use Rattle.std.proofs.Common.{ℕ, zero, suc, ◌≡◌, ◌<◌, ◌==◌, Bool, true, false, cond, List, [], ◌∷◌, map, Option, None, Some}
use Rattle.std.proofs.Common.{refl, ◌∙◌, ap, inl, inr, arith}
use Rattle.std.specs.Prelude.{find, option_map}
use Rattle.std.proofs.lemmas.Bool.{cases_lt, eq-eqb, ne_eqb}
use Rattle.iox_command.specs.DomainValues.declared.backpressure_strategy.BackpressureStrategy.TheVariants as strategy
use Rattle.iox_command.specs.DomainValues.declared.data_segment.AllocationStrategy.TheVariants as allocation
use Rattle.iox_command.specs.DomainValues.declared.degradation.DegradationAction.TheVariants as degradation
use Rattle.iox_command.specs.NegotiateBase.DescribeBase.Detail.{Detail}
use Rattle.iox_command.specs.NegotiateBase.DescribeBase.declared.message_type.MessageTypeDetails.{MessageTypeDetails}
use Rattle.iox_command.specs.NegotiateBase.DescribeBase.declared.type_detail.TypeVariant.TheVariants.{FixedSize}
use Rattle.iox_command.specs.NegotiateBase.DescribeSettings.declared.static_config.publish_subscribe.StaticConfig.{StaticConfig}
use Rattle.iox_lanes_machine.specs.QueuesSteps.Ends.{overflows}
use Rattle.iox_lanes_machine.specs.Made.{listed}
use Rattle.iox_lanes_machine.specs.declared.sizes.LaneSizes.{LaneSizes}
use Rattle.iox_lanes_service.specs.InTurn.{BeginsTurns, TurnsBegin}
use Rattle.iox_machine.specs.Phase.{Absent}
use Rattle.iox_machine.specs.PortList.{those}
use Rattle.iox_machine.specs.Service.{Publisher, Service, Subscriber}
use Rattle.iox_machine.specs.State.{State}
use Rattle.iox_machine.specs.Table.{at}

-- ---- by which numbers ports go

-- the same by each number from this one down to 1
abbrev numbered : {V : Type 0} → ℕ → V → List (ℕ × V)
numbered zero v = []
numbered (suc count) v = (suc count, v) ∷ numbered count v

at_numbered : {V : Type 0} (count place : ℕ) (v : V) → place < count → at (suc place) (numbered count v) ≡ Some v
at_numbered zero place v low = absurd (omega (arith, low))
at_numbered {V} (suc count) place v low = elim (cases_lt place count) [
  | inl below ↦ by_test false (ne_eqb (suc count) (suc place) (λ e. omega (arith, below, e))) ∙ at_numbered count place v below
  | inr above ↦ by_test true (eq-eqb (suc count) (suc place) (omega (arith, low, above)))
]
  where
    by_test : (b : Bool) → (suc count == suc place) ≡ b → at (suc place) (numbered (suc count) v)
        ≡ option_map (λ (it : ℕ × V). it.1) (cond b (Some (suc count, v))
        (find (λ (it : ℕ × V). it.0 == suc place) (numbered count v)))
    by_test b is = ap (λ (test : Bool). option_map (λ (it : ℕ × V). it.1) (cond test (Some (suc count, v))
        (find (λ (it : ℕ × V). it.0 == suc place) (numbered count v)))) is

abbrev each_there : List ℕ → List (Option ℕ)
each_there ports = map (λ (port : ℕ). Some port) ports

all_those : (ports : List ℕ) → those (each_there ports) ≡ ports
all_those [] = refl
all_those (port ∷ ports) = ap (λ (more : List ℕ). port ∷ more) (all_those ports)

-- ---- a machine with ports that came

abbrev blank : Detail
blank = record { variant = FixedSize; name = []; size = 0; alignment = 1 }

abbrev pub begun_types : MessageTypeDetails
begun_types = record { header = blank; user_header = blank; payload = blank }

module _ (sizes : LaneSizes) where
  abbrev begun_settings : StaticConfig
  begun_settings = record {
    enable_safe_overflow = overflows sizes.kind;
    history_size = sizes.history;
    max_nodes = 1;
    max_publishers = sizes.publishers;
    max_subscribers = sizes.subscribers;
    sequence_numbers = false;
    subscriber_max_borrowed_samples = sizes.most_borrowed;
    subscriber_max_buffer_size = sizes.buffer;
    types = begun_types;
  }

  abbrev begun_publisher : Publisher (List ℕ)
  begun_publisher = record {
    factory = 1;
    stands = true;
    max_loaned_samples = sizes.most_loans;
    strategy = strategy.DiscardData;
    handler = None;
    degradation = degradation.Warn;
    allocation = allocation.Static;
    slots = sizes.slots;
    room = 1;
    segments = 1;
    first = 1;
    next = 1;
    last_sequence = None;
    history = [];
    seen = 0;
    connected = each_there (listed (λ place. suc place) sizes.subscribers);
    blocked = None;
  }

  abbrev begun_subscriber : Subscriber
  begun_subscriber = record {
    factory = 1;
    stands = true;
    buffer_size = sizes.buffer;
    degradation = degradation.Warn;
    seen = 0;
    again = false;
    connected = each_there (listed (λ place. suc place) sizes.publishers);
    expired = [];
  }

  abbrev begun_service : Service (List ℕ)
  begun_service = record {
    name = [];
    settings = begun_settings;
    publisher_list = record { places = each_there (listed (λ place. suc place) sizes.publishers); changes = 0 };
    subscriber_list = record { places = each_there (listed (λ place. suc place) sizes.subscribers); changes = 0 };
    publishers = numbered sizes.publishers begun_publisher;
    subscribers = numbered sizes.subscribers begun_subscriber;
    mailboxes = λ one other. Some (record { limit = sizes.buffer; waiting = []; borrowed = [] });
    loans = [];
    samples = [];
  }

  abbrev begun_state : State (List ℕ)
  begun_state = record {
    made = record {
      nodes = 1;
      factories = 1;
      publishers = sizes.publishers;
      subscribers = sizes.subscribers;
      loans = 0;
      samples = 0;
    };
    phases = λ pattern name. Absent 0;
    factories = [];
    services = begun_service ∷ [];
  }

  begins : BeginsTurns sizes begun_state
  begins = record {
    service = begun_service;
    alone = refl;
    publishers = λ place low. (
      begun_publisher,
      at_numbered sizes.publishers place begun_publisher low,
      record {
        stands = refl;
        free = refl;
        seen = refl;
        most_loans = refl;
        slots = refl;
        room = omega arith;
        connected = all_those (listed (λ place. suc place) sizes.subscribers);
        last = refl;
        history = refl;
        ahead = omega arith;
        discards = λ refuses. refl;
      },
    );
    subscribers = λ place low. (
      begun_subscriber,
      at_numbered sizes.subscribers place begun_subscriber low,
      record {
        stands = refl;
        seen = refl;
        done = refl;
        expired = refl;
        connected = all_those (listed (λ place. suc place) sizes.publishers);
      },
    );
    history = refl;
    most_borrowed = refl;
    kind = refl;
    mailboxes = λ one other low below. refl;
    others = λ one other low apart. (refl, refl);
    loans = refl;
    samples = refl;
    no_loans = refl;
    no_samples = refl;
  }

pub turns_begin : TurnsBegin
turns_begin = λ sizes. (begun_state sizes, begins sizes)
