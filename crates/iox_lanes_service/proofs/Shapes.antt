-- What the machine makes of a mailbox and of a loan, by its steps.
use Rattle.std.specs.Prelude.{ℕ, ◌==◌, not, ◌++◌, drop, take, filter, filter_map, None}
use Rattle.iox_machine.specs.Mailbox.{Mailbox}
use Rattle.iox_machine.specs.Message.{Loan, Message}

module _ {T : Type 0} where
  -- the oldest message that waits is borrowed
  abbrev pub one_taken : Mailbox T → Mailbox T
  one_taken box = record box { waiting = drop 1 box.waiting; borrowed = box.borrowed ++ take 1 box.waiting }

  -- a message is borrowed no longer
  abbrev pub one_back : ℕ → Mailbox T → Mailbox T
  one_back number box = record box { borrowed = filter (λ message. not (message.number == number)) box.borrowed }

  -- the message that a loan becomes, before its send numbers it
  abbrev pub message_sent : Loan T → Message T
  message_sent loan = record { number = loan.number; sequence = None; values = filter_map (λ value. value) loan.values }
