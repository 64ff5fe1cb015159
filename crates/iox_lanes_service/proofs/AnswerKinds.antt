-- Of which kind the answer is with which a turn ends: that of its call.
use Rattle.std.proofs.Common.{ℕ, ◌≡◌, ◌<◌, ◌^◌, true, length, slice_get, refl, arith}
use Rattle.std.specs.Global.{Vec}
use Rattle.iox_lanes_machine.specs.LanesBase.declared.calls.subscriber.Receipt.{Receipt}
use Rattle.iox_lanes_machine.specs.LanesParties.Within.{IsPublisher}
use Rattle.iox_lanes_machine.specs.LanesParties.declared.call.Answer.{Answer}
use Rattle.iox_lanes_machine.specs.LanesParties.declared.call.Answer.TheVariants as answer
use Rattle.iox_lanes_machine.specs.LanesParties.declared.call.Call.TheVariants as call
use Rattle.iox_lanes_machine.specs.LanesParties.declared.call.Party.TheVariants.{Publisher, Subscriber}
use Rattle.iox_lanes_machine.specs.LanesParties.declared.call.SendAnswer.{SendAnswer}
use Rattle.iox_lanes_machine.specs.LanesParties.declared.publisher.slot_book.LoanAnswer.{LoanAnswer}
use Rattle.iox_lanes_machine.specs.World.{World}
use Rattle.iox_lanes_machine.specs.LanesParties.SendAnswers.{send_answer}
use Rattle.iox_lanes_machine.proofs.LanesParties.Rings.{all_at}
use Rattle.iox_lanes_machine.proofs.Paces.{came_kept}
use Rattle.iox_lanes_laws.proofs.Ends.{publisher_there, subscriber_there}
use Rattle.iox_lanes_laws.proofs.PublisherLaws.{drops_in_turn, loans_in_turn, sends_in_turn, writes_in_turn}
use Rattle.iox_lanes_laws.proofs.Publishers as publishers
use Rattle.iox_lanes_laws.proofs.Receives.{receives_in_turn}
use Rattle.iox_lanes_laws.proofs.Samples.{reads_in_turn, releases_in_turn}
use Rattle.iox_lanes_laws.proofs.Subscribers as subscribers
use Rattle.iox_lanes_service.specs.Turning.{TurnEnds}
use Rattle.iox_lanes_service.proofs.Turns.{answer_is}

module _ (m n : World) (place : ℕ) (it : Answer) where
  pub answers_loan : m.table.sizes.slots < 2 ^ 64 → TurnEnds m (Publisher place) call.LoanUninit it n
      → (given : LoanAnswer) × (answer.Lent given ≡ it)
  answers_loan small t =
      let before = publisher_there m place call.LoanUninit (slice_get m.publishers place) refl t.in_turn.begins.0 in
      let after = publishers.ends_there m place call.LoanUninit before.0 n t.in_turn before.1 in
      let p : IsPublisher m.table.sizes before.0 = all_at (IsPublisher m.table.sizes) m.publishers place before.0 before.1
      ((came_kept m t.in_turn.came).0).within.publishers in
      let law = loans_in_turn m n place before.0 after.0 t.in_turn before.1 after.1 (omega (arith, p.slots, small)) in
      (law.0, answer_is m n (Publisher place) call.LoanUninit (answer.Lent law.0) it law.1 t)

  pub answers_receive : TurnEnds m (Subscriber place) call.Receive it n → (given : Receipt) × (answer.Received given ≡ it)
  answers_receive t =
      let before = subscriber_there m place call.Receive (slice_get m.subscribers place) refl t.in_turn.begins.0 in
      let after = subscribers.ends_there m place call.Receive before.0 n t.in_turn before.1 in
      let law = receives_in_turn m n place before.0 after.0 t.in_turn before.1 after.1 in
      (law.0, answer_is m n (Subscriber place) call.Receive (answer.Received law.0) it law.1 t)

  module _ (slot : ℕ) where
    pub answers_write : (payload user_header : Vec ℕ) → TurnEnds m (Publisher place) (call.Write slot payload user_header) it n
        → answer.Written ≡ it
    answers_write payload user_header t =
        let before = publisher_there m place (call.Write slot payload user_header) (slice_get m.publishers place) refl
        t.in_turn.begins.0 in
        let after = publishers.ends_there m place (call.Write slot payload user_header) before.0 n t.in_turn before.1 in
        let law = writes_in_turn m n place slot (call.Write slot payload user_header) before.0 after.0 refl t.in_turn before.1 after.1 in
        answer_is m n (Publisher place) (call.Write slot payload user_header) answer.Written it law.0 t

    pub answers_send : TurnEnds m (Publisher place) (call.Send slot) it n → (given : SendAnswer) × (answer.Sent given ≡ it)
    answers_send t =
        let before = publisher_there m place (call.Send slot) (slice_get m.publishers place) refl t.in_turn.begins.0 in
        let after = publishers.ends_there m place (call.Send slot) before.0 n t.in_turn before.1 in
        let law = sends_in_turn m n place slot before.0 after.0 t.in_turn before.1 after.1 in
        let given : SendAnswer = send_answer (before.0).fails law.0 in
        (given, answer_is m n (Publisher place) (call.Send slot) (answer.Sent given) it law.1 t)

    pub answers_drop : TurnEnds m (Publisher place) (call.DropLoan slot) it n → answer.Dropped ≡ it
    answers_drop t =
        let before = publisher_there m place (call.DropLoan slot) (slice_get m.publishers place) refl t.in_turn.begins.0 in
        let after = publishers.ends_there m place (call.DropLoan slot) before.0 n t.in_turn before.1 in
        let law = drops_in_turn m n place slot before.0 after.0 t.in_turn before.1 after.1 in
        answer_is m n (Publisher place) (call.DropLoan slot) answer.Dropped it law.0 t

    pub answers_read : TurnEnds m (Subscriber place) (call.Read slot) it n → (from : ℕ) × (answer.Read from ≡ it)
    answers_read t =
        let before = subscriber_there m place (call.Read slot) (slice_get m.subscribers place) refl t.in_turn.begins.0 in
        let after = subscribers.ends_there m place (call.Read slot) before.0 n t.in_turn before.1 in
        let law = reads_in_turn m n place slot before.0 after.0 t.in_turn before.1 after.1 in
        (length m.read, answer_is m n (Subscriber place) (call.Read slot) (answer.Read (length m.read)) it law.0 t)

    pub answers_release : TurnEnds m (Subscriber place) (call.Release slot) it n → answer.Released true ≡ it
    answers_release t =
        let before = subscriber_there m place (call.Release slot) (slice_get m.subscribers place) refl t.in_turn.begins.0 in
        let after = subscribers.ends_there m place (call.Release slot) before.0 n t.in_turn before.1 in
        let law = releases_in_turn m n place slot before.0 after.0 t.in_turn before.1 after.1 in
        answer_is m n (Subscriber place) (call.Release slot) (answer.Released true) it law.0 t
