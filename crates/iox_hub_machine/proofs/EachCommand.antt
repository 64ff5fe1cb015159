-- Each command is followed: the laws of all commands together.
use Rattle.std.proofs.Common.{ℕ, List, Ok, refl, arith}
use Rattle.iox_command.specs.NegotiateBase.DescribeBase.declared.pattern.MessagingPattern.{MessagingPattern}
use Rattle.iox_command.specs.declared.command.Command.{Command}
use Rattle.iox_command.specs.declared.command.Command.TheVariants as command
use Rattle.iox_command.specs.declared.port.PortNumber.TheVariants as port
use Rattle.iox_command.specs.declared.reply.Reply.{Reply}
use Rattle.iox_domain.specs.declared.ports.service_ports.ServicePorts.{ServicePorts}
use Rattle.iox_domain_machine.specs.Naming.{Naming}
use Rattle.iox_hub_commands.specs.CommandSteps as hub
use Rattle.iox_hub_commands.specs.declared.numbered_hub.NumberedHub.{NumberedHub}
use Rattle.iox_hub_commands.specs.Terms.{Terms}
use Rattle.iox_hub_machine.proofs.Lifted.{lifted}
use Rattle.iox_hub_machine.proofs.Running.{MayBeAsked}
use Rattle.iox_hub_machine.proofs.RunsOn.{can_count, each_once}
use Rattle.iox_hub_machine.specs.ArrivalLaws.{MayCome, PublisherComingIsFollowed}
use Rattle.iox_hub_machine.specs.ArrivalLaws.{SubscriberComingIsFollowed}
use Rattle.iox_hub_machine.specs.ClosingLaws.{ClosingMatches, IsCome}
use Rattle.iox_hub_machine.specs.CreateLaws.{CreateMatches}
use Rattle.iox_hub_machine.specs.Laws.{DropIsSimulated, FillIsSimulated, GiveUpIsSimulated, ReadIsSimulated}
use Rattle.iox_hub_machine.specs.Laws.{ReleaseIsSimulated, SequenceIsSimulated, SetIsSimulated}
use Rattle.iox_hub_machine.specs.GoingOnLaws.{ComesAsChosen}
use Rattle.iox_hub_machine.specs.LeavingLaws.{ListsCanChange, PublisherLeaveIsSimulated, SubscriberLeaveIsSimulated}
use Rattle.iox_hub_machine.specs.LoanLaws.{LendIsSimulated, LendUninitIsSimulated}
use Rattle.iox_hub_machine.specs.OpenLaws.{OpeningMatches, OpeningOrCreatingMatches}
use Rattle.iox_hub_machine.specs.ReceiveLaws.{HasIsSimulated, PublisherUpdateIsSimulated, ReceiveIsSimulated, SubscriberUpdateIsSimulated}
use Rattle.iox_hub_machine.specs.RunLaws.{AsksAmong, steps_named}
use Rattle.iox_hub_machine.specs.SendLaws.{PutIsSimulated, RetryIsSimulated, SendIsSimulated}
use Rattle.iox_hub_machine.specs.ServiceLaws.{ForeignMatches, IsFollowed, NodeMatches}
use Rattle.iox_hub_machine.specs.Services.{HubStandsFor}
use Rattle.iox_machine.specs.Choices.{Choices}
use Rattle.iox_machine.specs.State.{State}
use Rattle.iox_negotiate_machine.specs.Laws.{HaveOwnHashes}

module _ {T U B D : Type 0} (terms : Terms T U B D) (choices : Choices T) where
  -- The laws of the commands.
  pub record CommandLaws : Type 0 where
    pub node : NodeMatches terms choices
    pub create : CreateMatches terms choices
    pub opening : OpeningMatches terms choices
    pub either : OpeningOrCreatingMatches terms choices
    pub foreign : ForeignMatches terms choices
    pub close : ClosingMatches terms choices
    pub publisher : PublisherComingIsFollowed terms choices
    pub subscriber : SubscriberComingIsFollowed terms choices
    pub loan : LendIsSimulated choices terms.is_default_header terms.degrades terms.decides terms.reader_degrades
    pub loan_uninit : LendUninitIsSimulated choices terms.is_default_header terms.degrades terms.decides terms.reader_degrades
    pub set : SetIsSimulated choices terms.is_default_header terms.degrades terms.decides terms.reader_degrades
    pub fill : FillIsSimulated choices terms.is_default_header terms.degrades terms.decides terms.reader_degrades
    pub drop : DropIsSimulated choices terms.is_default_header terms.degrades terms.decides terms.reader_degrades
    pub send : SendIsSimulated choices terms.is_default_header terms.degrades terms.decides terms.reader_degrades
    pub put : PutIsSimulated choices terms.is_default_header terms.degrades terms.decides terms.reader_degrades
    pub retry : RetryIsSimulated choices terms.is_default_header terms.degrades terms.decides terms.reader_degrades
    pub give_up : GiveUpIsSimulated choices terms.is_default_header terms.degrades terms.decides terms.reader_degrades
    pub receive : ReceiveIsSimulated choices terms.is_default_header terms.degrades terms.decides terms.reader_degrades
    pub read : ReadIsSimulated choices terms.is_default_header terms.degrades terms.decides terms.reader_degrades
    pub sequence : SequenceIsSimulated choices terms.is_default_header terms.degrades terms.decides terms.reader_degrades
    pub release : ReleaseIsSimulated choices terms.is_default_header terms.degrades terms.decides terms.reader_degrades
    pub update_publisher : PublisherUpdateIsSimulated choices terms.is_default_header terms.degrades terms.decides terms.reader_degrades
    pub update_subscriber : SubscriberUpdateIsSimulated choices terms.is_default_header terms.degrades terms.decides terms.reader_degrades
    pub publisher_leaves : PublisherLeaveIsSimulated choices terms.is_default_header terms.degrades terms.decides terms.reader_degrades
    pub subscriber_leaves : SubscriberLeaveIsSimulated choices terms.is_default_header terms.degrades terms.decides terms.reader_degrades
    pub has : HasIsSimulated choices terms.is_default_header terms.degrades terms.decides terms.reader_degrades

  module _ (laws : CommandLaws) (names : List (List ℕ))
      (taken : MessagingPattern → List ℕ → List ℕ) (naming : ℕ → Naming) (order : List (ℕ × ServicePorts T U))
      (old new : NumberedHub T U B D) (state : State T) (answer : Reply T) (own : HaveOwnHashes names)
      (stands : HubStandsFor choices terms.degrades terms.decides terms.reader_degrades names taken naming order old state) where
    abbrev Did : Command T → Type 0
    Did asked = hub.Step (record terms { is_default = choices.is_default }) asked old (Ok answer) new

    abbrev Followed : Command T → Type 0
    Followed asked = IsFollowed terms choices names asked old new state answer

    abbrev May : ℕ → Type 0
    May steps = MayBeAsked steps old

    lists_change : May 0 → ListsCanChange old.hub
    lists_change (most, on, few) id ports found =
        let can = can_count most old on (omega (arith, few)) id ports found in (can.1, can.2)

    may_come : May 0 → MayCome old
    may_come (most, on, few) = record {
      grown = on.grown;
      agreed = on.agreed;
      counted = λ id ports found. can_count most old on (omega (arith, few)) id ports found;
    }

    each : (asked : Command T) → AsksAmong names asked
        → ComesAsChosen terms.types choices terms.degrades terms.decides terms.reader_degrades asked terms.fixed terms.fixed_reader old
        answer → May (steps_named asked)
        → IsCome terms.types choices old.hub.expired_connection_buffer state → Did asked → Followed asked
    each command.Node asks chosen (most, on, few) came step =
        let nodes = on.nodes in
        laws.node names taken naming order old new state answer (omega (arith, few, nodes)) stands step
    each (command.Create node name options attributes steps) asks chosen (most, on, few) came step =
        let locks = on.locks in let numbers = on.numbers in
        laws.create names node name options attributes steps asks own taken naming order old new state answer (record {
          rise = on.rise.0;
          factories = omega (arith, few, numbers);
          locks = omega (arith, few, locks);
        }) stands step
    each (command.Open node name options required steps) asks chosen (most, on, few) came step =
        let locks = on.locks in let numbers = on.numbers in
        laws.opening names node name options required steps asks own taken naming order old new state answer (record {
          rise = on.rise.0;
          factories = omega (arith, few, numbers);
          locks = omega (arith, few, locks);
        }) stands step
    each (command.OpenOrCreate node name options required steps) asks chosen (most, on, few) came step =
        let locks = on.locks in let numbers = on.numbers in
        laws.either names node name options required steps asks own taken naming order old new state answer (record {
          rise = on.rise.0;
          factories = omega (arith, few, numbers);
          locks = omega (arith, few, locks);
        }) stands step
    each (command.Foreign pattern name steps) asks chosen (most, on, few) came step =
        let locks = on.locks in
        laws.foreign names pattern name steps asks own taken naming order old new state answer (omega (arith, few, locks)) stands step
    each (command.Close factory) asks chosen (most, on, few) came step =
        laws.close names factory taken naming order old new state answer own on.agreed (each_once most old on) came
        stands step
    each (command.Publisher factory options) asks chosen may came step =
        laws.publisher names factory options taken naming order old new state answer (may_come may, chosen) stands step
    each (command.Subscriber factory options) asks chosen may came step =
        laws.subscriber names factory options taken naming order old new state answer (may_come may, chosen) stands step
    each (command.Loan publisher elements) asks chosen (most, on, few) came step =
        lifted terms choices names (command.Loan publisher elements) refl taken naming order old new state answer
        (laws.loan publisher elements old on.grown on.rise) stands step
    each (command.LoanUninit publisher elements) asks chosen (most, on, few) came step =
        lifted terms choices names (command.LoanUninit publisher elements) refl taken naming order old new state answer
        (laws.loan_uninit publisher elements old on.grown on.rise) stands step
    each (command.Set loan place value) asks chosen may came step =
        lifted terms choices names (command.Set loan place value) refl taken naming order old new state answer
        (laws.set loan place value old) stands step
    each (command.Fill loan values) asks chosen may came step =
        lifted terms choices names (command.Fill loan values) refl taken naming order old new state answer (laws.fill loan values old)
        stands step
    each (command.Drop loan) asks chosen (most, on, few) came step =
        lifted terms choices names (command.Drop loan) refl taken naming order old new state answer (laws.drop loan old on.grown) stands
        step
    each (command.Send loan) asks chosen (most, on, few) came step =
        lifted terms choices names (command.Send loan) refl taken naming order old new state answer (laws.send loan old on.grown) stands
        step
    each (command.Put publisher values) asks chosen (most, on, few) came step =
        lifted terms choices names (command.Put publisher values) refl taken naming order old new state answer
        (laws.put publisher values old on.grown) stands step
    each (command.Retry publisher nanoseconds) asks chosen (most, on, few) came step =
        lifted terms choices names (command.Retry publisher nanoseconds) refl taken naming order old new state answer
        (laws.retry publisher nanoseconds old on.grown) stands step
    each (command.GiveUp publisher) asks chosen may came step =
        lifted terms choices names (command.GiveUp publisher) refl taken naming order old new state answer (laws.give_up publisher old)
        stands step
    each (command.Receive subscriber) asks chosen (most, on, few) came step =
        let numbers = on.numbers in
        lifted terms choices names (command.Receive subscriber) refl taken naming order old new state answer
        (laws.receive subscriber old on.grown on.rise (omega (arith, few, numbers))) stands step
    each (command.Read sample) asks chosen may came step =
        lifted terms choices names (command.Read sample) refl taken naming order old new state answer (laws.read sample old) stands step
    each (command.Sequence sample) asks chosen may came step =
        lifted terms choices names (command.Sequence sample) refl taken naming order old new state answer (laws.sequence sample old)
        stands step
    each (command.Release sample) asks chosen (most, on, few) came step =
        lifted terms choices names (command.Release sample) refl taken naming order old new state answer
        (laws.release sample old on.grown) stands step
    each (command.Update (port.Publisher number)) asks chosen (most, on, few) came step =
        lifted terms choices names (command.Update (port.Publisher number)) refl taken naming order old new state answer
        (laws.update_publisher number old on.grown) stands step
    each (command.Update (port.Subscriber number)) asks chosen (most, on, few) came step =
        lifted terms choices names (command.Update (port.Subscriber number)) refl taken naming order old new state answer
        (laws.update_subscriber number old on.grown) stands step
    each (command.Leave (port.Publisher number)) asks chosen (most, on, few) came step =
        lifted terms choices names (command.Leave (port.Publisher number)) refl taken naming order old new state answer
        (laws.publisher_leaves number old on.grown on.rise (lists_change (most, on, few))) stands step
    each (command.Leave (port.Subscriber number)) asks chosen (most, on, few) came step =
        lifted terms choices names (command.Leave (port.Subscriber number)) refl taken naming order old new state answer
        (laws.subscriber_leaves number old on.grown on.rise (lists_change (most, on, few))) stands step
    each (command.Has subscriber) asks chosen (most, on, few) came step =
        lifted terms choices names (command.Has subscriber) refl taken naming order old new state answer
        (laws.has subscriber old on.grown) stands step

  pub each_followed : CommandLaws → (names : List (List ℕ)) (asked : Command T) (taken : MessagingPattern → List ℕ → List ℕ)
      (naming : ℕ → Naming) (order : List (ℕ × ServicePorts T U)) (old new : NumberedHub T U B D) (state : State T) (answer : Reply T)
      → HaveOwnHashes names → AsksAmong names asked
      → ComesAsChosen terms.types choices terms.degrades terms.decides terms.reader_degrades asked terms.fixed terms.fixed_reader old
      answer
      → MayBeAsked (steps_named asked) old
      → IsCome terms.types choices old.hub.expired_connection_buffer state
      → HubStandsFor choices terms.degrades terms.decides terms.reader_degrades names taken naming order old state
      → hub.Step (record terms { is_default = choices.is_default }) asked old (Ok answer) new
      → IsFollowed terms choices names asked old new state answer
  each_followed laws names asked taken naming order old new state answer own asks chosen may came stands step =
      each laws names taken naming order old new state answer own stands asked asks chosen may came step
