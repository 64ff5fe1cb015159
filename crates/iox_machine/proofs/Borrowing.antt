-- In every run what is borrowed of a connection is what samples hold of it.
use Rattle.std.proofs.Common.{◌≡◌, ◌≤◌, ◌+◌, ℕ, Bool, true, false, cond, not, ◌&&◌, List, [], ◌∷◌, ◌++◌, length, map}
use Rattle.std.proofs.Common.{Option, None, Some, refl, sym, ap, subst, inl, inr, arith, ◌∙◌, true≢false, append-nil}
use Rattle.std.proofs.lemmas.Bool.{and_from, eq-eqb, eqb-true}
use Rattle.std.proofs.lemmas.List.{map-append}
use Rattle.std.specs.List.{AllByRecursion, cons_option}
use Rattle.std.specs.Prelude.{◌==◌, filter, filter_map, find, is_some, option_and_then, option_map, slice_get, unwrap_or}
use Rattle.iox_machine.proofs.Borrowed.{is-borrowed}
use Rattle.iox_machine.proofs.Cases.{both-true, never-some, same-some}
use Rattle.iox_machine.proofs.Counted.{numbers-go-up, standing, step-passes, times-append, told-once}
use Rattle.iox_machine.proofs.Counts.{of_told, one_if, times, times-filtered}
use Rattle.iox_machine.proofs.Frames.{subscriber-stands}
use Rattle.iox_machine.proofs.Limiting.{there-few}
use Rattle.iox_machine.proofs.Lists.{all-weaker}
use Rattle.iox_machine.proofs.MoveForms.{Loud, Loudly, Walk}
use Rattle.iox_machine.proofs.MoveForms as move
use Rattle.iox_machine.proofs.MoveLaws.{becomes-keeps}
use Rattle.iox_machine.proofs.MoveSteps.{step-moves}
use Rattle.iox_machine.proofs.Moves.{IsTold, Walks}
use Rattle.iox_machine.proofs.Moving.{at-one, replaced-keeps}
use Rattle.iox_machine.proofs.Once.{messages-once}
use Rattle.iox_machine.proofs.OrderLaws.{fresh-numbers, noted-more}
use Rattle.iox_machine.proofs.OrderMoves.{receives_none}
use Rattle.iox_machine.proofs.OrderSends.{first-fresh}
use Rattle.iox_machine.proofs.OrderSteps.{noted}
use Rattle.iox_machine.proofs.Resting.{Rests, rests-attending, rests-attends, rests-both, rests-loud, rests-quiets, rests-same}
use Rattle.iox_machine.proofs.Resting.{rests-subscriber}
use Rattle.iox_machine.proofs.Runs.{AnyMessage, AreSound, Numbered, all-found, runs-numbered}
use Rattle.iox_machine.proofs.Shorthands.{given_back, taken, with_subscriber}
use Rattle.iox_machine.proofs.Sized.{sizes-agreed}
use Rattle.iox_machine.proofs.Tables.{at-appended}
use Rattle.iox_machine.specs.BorrowedLaws.{IsBorrowed}
use Rattle.iox_machine.specs.Choices.{Choices}
use Rattle.iox_machine.specs.HeldLaws.{HeldIsBorrowed, held_from}
use Rattle.iox_machine.specs.Mailbox.{Mailbox}
use Rattle.iox_machine.specs.Message.{Message, Sample}
use Rattle.iox_machine.specs.MessageLaws.{first_in, received_by, received_from}
use Rattle.iox_machine.specs.NumberLaws.{numbers_in, sample_told}
use Rattle.iox_machine.specs.Ports.{Releases, subscriber_in}
use Rattle.iox_machine.specs.Receiving.{Receives, lasting}
use Rattle.iox_machine.specs.Run.{Runs, Step}
use Rattle.iox_machine.specs.RunLaws.{CameAs, IsWithinSizes}
use Rattle.iox_machine.specs.Service.{Service, Subscriber, mailbox, new_service, with_mailbox}
use Rattle.iox_machine.specs.State.{Factory, State, counted, new_state, replaced}
use Rattle.iox_machine.specs.SubscriberUpdate as subscribing
use Rattle.iox_machine.specs.Table.{at, removed}
use Rattle.iox_command.specs.DomainValues.declared.port_error.ReceiveError.TheVariants as receive_error
use Rattle.iox_command.specs.NegotiateBase.DescribeBase.declared.message_type.MessageTypeDetails.{MessageTypeDetails}
use Rattle.iox_command.specs.NegotiateBase.DescribeSettings.declared.static_config.publish_subscribe.StaticConfig.{StaticConfig}
use Rattle.iox_command.specs.declared.command.Command.{Command}
use Rattle.iox_command.specs.declared.command.Command.TheVariants as command
use Rattle.iox_command.specs.declared.refusal.Refusal.TheVariants as refusal
use Rattle.iox_command.specs.declared.reply.Reply.{Reply}
use Rattle.iox_command.specs.declared.reply.Reply.TheVariants as reply

never-true : {A : Type 0} → false ≡ true → A
never-true is = absurd (true≢false (sym is))

-- ---- lists

module _ {T : Type 0} where
  abbrev number_of : Message T → ℕ
  number_of message = message.number

  abbrev numbers_of : List (Message T) → List ℕ
  numbers_of messages = map number_of messages

  abbrev message_of : Sample T → Message T
  message_of one = one.message

  abbrev is_other : ℕ → Message T → Bool
  is_other number message = not (message.number == number)

  -- who isn't there isn't left out
  none-left-out : (number : ℕ) (messages : List (Message T)) → times number (numbers_of messages) ≤ 0
      → filter (is_other number) messages ≡ messages
  none-left-out number [] none = refl
  none-left-out number (message ∷ more) none = here (message.number == number) none (none-left-out number more)
    where
      never : (r : ℕ) → 1 + r ≤ 0 → ⊥
      never r h = omega (arith, h)

      rest : (r : ℕ) → 0 + r ≤ 0 → r ≤ 0
      rest r h = omega (arith, h)

      here : (b : Bool) → one_if b + times number (numbers_of more) ≤ 0
          → (times number (numbers_of more) ≤ 0 → filter (is_other number) more ≡ more)
          → cond (not b) (message ∷ filter (is_other number) more) (filter (is_other number) more) ≡ message ∷ more
      here true h on = absurd (never (times number (numbers_of more)) h)
      here false h on = ap (λ (l : List (Message T)). message ∷ l) (on (rest (times number (numbers_of more)) h))

  fewer-left : (number : ℕ) (test : Message T → Bool) (messages : List (Message T))
      → times number (numbers_of (filter test messages)) ≤ times number (numbers_of messages)
  fewer-left number test [] = omega arith
  fewer-left number test (message ∷ more) = here (test message) (one_if (message.number == number)) (fewer-left number test more)
    where
      past : (e x y : ℕ) → x ≤ y → x ≤ e + y
      past e x y h = omega (arith, h)

      along : (e x y : ℕ) → x ≤ y → e + x ≤ e + y
      along e x y h = omega (arith, h)

      here : (b : Bool) (e : ℕ) → times number (numbers_of (filter test more)) ≤ times number (numbers_of more)
          → times number (numbers_of (cond b (message ∷ filter test more) (filter test more)))
          ≤ one_if (message.number == number) + times number (numbers_of more)
      here true e on =
          along (one_if (message.number == number)) (times number (numbers_of (filter test more))) (times number (numbers_of more)) on
      here false e on =
          past (one_if (message.number == number)) (times number (numbers_of (filter test more))) (times number (numbers_of more)) on

  none-removed : (number : ℕ) (table : List (ℕ × Sample T)) → times number (numbers_in table) ≤ 0 → removed number table ≡ table
  none-removed number [] none = refl
  none-removed number (entry ∷ more) none = here (entry.0 == number) none (none-removed number more)
    where
      never : (r : ℕ) → 1 + r ≤ 0 → ⊥
      never r h = omega (arith, h)

      rest : (r : ℕ) → 0 + r ≤ 0 → r ≤ 0
      rest r h = omega (arith, h)

      here : (b : Bool) → one_if b + times number (numbers_in more) ≤ 0
          → (times number (numbers_in more) ≤ 0 → removed number more ≡ more)
          → cond (not b) (entry ∷ removed number more) (removed number more) ≡ entry ∷ more
      here true h on = absurd (never (times number (numbers_in more)) h)
      here false h on = ap (λ (l : List (ℕ × Sample T)). entry ∷ l) (on (rest (times number (numbers_in more)) h))

module _ {T : Type 0} (p s : ℕ) where
  abbrev is_held : Sample T → Bool
  is_held one = (one.subscriber == s) && (one.publisher == p)

  abbrev held : List (ℕ × Sample T) → List (Message T)
  held samples = map message_of (held_from p s samples)

  held-joined : (samples : List (ℕ × Sample T)) (entry : ℕ × Sample T)
      → held (samples ++ entry ∷ []) ≡ held samples ++ cond (is_held entry.1) (entry.1.message ∷ []) []
  held-joined [] entry = here (is_held entry.1)
    where
      here : (b : Bool) → map message_of (cond b (entry.1 ∷ []) []) ≡ cond b (entry.1.message ∷ []) []
      here true = refl
      here false = refl
  held-joined (one ∷ more) entry = here (is_held one.1) (held-joined more entry)
    where
      here : (b : Bool) → held (more ++ entry ∷ []) ≡ held more ++ cond (is_held entry.1) (entry.1.message ∷ []) []
          → map message_of (cond b (one.1 ∷ held_from p s (more ++ entry ∷ [])) (held_from p s (more ++ entry ∷ [])))
          ≡ map message_of (cond b (one.1 ∷ held_from p s more) (held_from p s more))
          ++ cond (is_held entry.1) (entry.1.message ∷ []) []
      here true on = ap (λ (l : List (Message T)). one.1.message ∷ l) on
      here false on = on

  -- what is held is there
  held-there : (number : ℕ) (one : Sample T) (samples : List (ℕ × Sample T)) → at number samples ≡ Some one → is_held one ≡ true
      → 1 ≤ times one.message.number (numbers_of (held samples))
  held-there number one [] found is = never-some one found
  held-there number one (entry ∷ more) found is =
      here (entry.0 == number) found (held-there number one more) (is_held entry.1) refl
    where
      first : (b : Bool) → b ≡ true → (r : ℕ) → 1 ≤ one_if b + r
      first true same r = omega arith
      first false same r = never-true same

      past : (e r : ℕ) → 1 ≤ r → 1 ≤ e + r
      past e r h = omega (arith, h)

      now : (c : Bool) → is_held entry.1 ≡ c → entry.1 ≡ one
          → 1 ≤ times one.message.number (numbers_of (map message_of (cond c (entry.1 ∷ held_from p s more) (held_from p s more))))
      now true so same =
          first (entry.1.message.number == one.message.number)
          (eq-eqb entry.1.message.number one.message.number (ap (λ (it : Sample T). it.message.number) same))
          (times one.message.number (numbers_of (held more)))
      now false so same = absurd (true≢false (sym is ∙ (ap (λ (it : Sample T). is_held it) (sym same) ∙ so)))

      later : (c : Bool) → 1 ≤ times one.message.number (numbers_of (held more))
          → 1 ≤ times one.message.number (numbers_of (map message_of (cond c (entry.1 ∷ held_from p s more) (held_from p s more))))
      later true h = past (one_if (entry.1.message.number == one.message.number)) (times one.message.number (numbers_of (held more))) h
      later false h = h

      here : (b : Bool)
          → option_map (λ (it : ℕ × Sample T). it.1) (cond b (Some entry) (find (λ (it : ℕ × Sample T). it.0 == number) more)) ≡ Some one
          → (at number more ≡ Some one → is_held one ≡ true → 1 ≤ times one.message.number (numbers_of (held more)))
          → (c : Bool) → is_held entry.1 ≡ c
          → 1 ≤ times one.message.number (numbers_of (map message_of (cond c (entry.1 ∷ held_from p s more) (held_from p s more))))
      here true e on c so = now c so (same-some entry.1 one e)
      here false e on c so = later c (on e is)

  -- a sample of the connection is released: its message is borrowed no longer, and all others are
  held-released : (number : ℕ) (one : Sample T) (samples : List (ℕ × Sample T)) → at number samples ≡ Some one → is_held one ≡ true
      → times number (numbers_in samples) ≤ 1 → times one.message.number (numbers_of (held samples)) ≤ 1
      → filter (is_other one.message.number) (held samples) ≡ held (removed number samples)
  held-released number one [] found is once apart = never-some one found
  held-released number one (entry ∷ more) found is once apart =
      here (entry.0 == number) refl found once (held-released number one more) (is_held entry.1) refl apart
    where
      only : (r : ℕ) → 1 + r ≤ 1 → r ≤ 0
      only r h = omega (arith, h)

      rest : (r : ℕ) → 0 + r ≤ 1 → r ≤ 1
      rest r h = omega (arith, h)

      less : (e r : ℕ) → e + r ≤ 1 → r ≤ 1
      less e r h = omega (arith, h)

      twice : (r : ℕ) → 1 + r ≤ 1 → 1 ≤ r → ⊥
      twice r h k = omega (arith, h, k)

      -- the entry itself goes
      goes : (c : Bool) → is_held entry.1 ≡ c → entry.1 ≡ one → times number (numbers_in more) ≤ 0
          → times one.message.number
          (numbers_of (map message_of (cond c (entry.1 ∷ held_from p s more) (held_from p s more)))) ≤ 1
          → filter (is_other one.message.number) (map message_of (cond c (entry.1 ∷ held_from p s more) (held_from p s more)))
          ≡ held (removed number more)
      goes true so same none few =
          dropped (entry.1.message.number == one.message.number)
          (eq-eqb entry.1.message.number one.message.number (ap (λ (it : Sample T). it.message.number) same)) few
        where
          dropped : (b : Bool) → b ≡ true → one_if b + times one.message.number (numbers_of (held more)) ≤ 1
              → cond (not b) (entry.1.message ∷ filter (is_other one.message.number) (held more))
              (filter (is_other one.message.number) (held more)) ≡ held (removed number more)
          dropped true e h =
              none-left-out one.message.number (held more) (only (times one.message.number (numbers_of (held more))) h)
              ∙ ap held (sym (none-removed number more none))
          dropped false e h = never-true e
      goes false so same none few = absurd (true≢false (sym is ∙ (ap (λ (it : Sample T). is_held it) (sym same) ∙ so)))

      -- another stays
      stays : (c : Bool) → at number more ≡ Some one → times number (numbers_in more) ≤ 1
          → (at number more ≡ Some one → is_held one ≡ true → times number (numbers_in more) ≤ 1
          → times one.message.number (numbers_of (held more)) ≤ 1
          → filter (is_other one.message.number) (held more) ≡ held (removed number more))
          → times one.message.number
          (numbers_of (map message_of (cond c (entry.1 ∷ held_from p s more) (held_from p s more)))) ≤ 1
          → filter (is_other one.message.number) (map message_of (cond c (entry.1 ∷ held_from p s more) (held_from p s more)))
          ≡ map message_of (cond c (entry.1 ∷ held_from p s (removed number more)) (held_from p s (removed number more)))
      stays true e few on h = kept (entry.1.message.number == one.message.number) h
        where
          kept : (b : Bool) → one_if b + times one.message.number (numbers_of (held more)) ≤ 1
              → cond (not b) (entry.1.message ∷ filter (is_other one.message.number) (held more))
              (filter (is_other one.message.number) (held more)) ≡ entry.1.message ∷ held (removed number more)
          kept true k =
              absurd (twice (times one.message.number (numbers_of (held more))) k (held-there number one more e is))
          kept false k =
              ap (λ (l : List (Message T)). entry.1.message ∷ l)
              (on e is few (less 0 (times one.message.number (numbers_of (held more))) k))
      stays false e few on h = on e is few h

      here : (b : Bool) → (entry.0 == number) ≡ b
          → option_map (λ (it : ℕ × Sample T). it.1) (cond b (Some entry) (find (λ (it : ℕ × Sample T). it.0 == number) more)) ≡ Some one
          → one_if b + times number (numbers_in more) ≤ 1
          → (at number more ≡ Some one → is_held one ≡ true → times number (numbers_in more) ≤ 1
          → times one.message.number (numbers_of (held more)) ≤ 1
          → filter (is_other one.message.number) (held more) ≡ held (removed number more))
          → (c : Bool) → is_held entry.1 ≡ c
          → times one.message.number
          (numbers_of (map message_of (cond c (entry.1 ∷ held_from p s more) (held_from p s more)))) ≤ 1
          → filter (is_other one.message.number) (map message_of (cond c (entry.1 ∷ held_from p s more) (held_from p s more)))
          ≡ held (cond (not b) (entry ∷ removed number more) (removed number more))
      here true same e h on c so few =
          goes c so (same-some entry.1 one e) (only (times number (numbers_in more)) h) few
      here false off e h on c so few =
          stays c e (rest (times number (numbers_in more)) h) on few
          ∙ ap (λ (d : Bool). map message_of (cond d (entry.1 ∷ held_from p s (removed number more)) (held_from p s (removed number more))))
          (sym so)

  -- a sample of another connection is released
  held-aside : (number : ℕ) (one : Sample T) (samples : List (ℕ × Sample T)) → at number samples ≡ Some one → is_held one ≡ false
      → times number (numbers_in samples) ≤ 1 → held (removed number samples) ≡ held samples
  held-aside number one [] found off once = never-some one found
  held-aside number one (entry ∷ more) found off once =
      here (entry.0 == number) found once (held-aside number one more) (is_held entry.1) refl
    where
      only : (r : ℕ) → 1 + r ≤ 1 → r ≤ 0
      only r h = omega (arith, h)

      rest : (r : ℕ) → 0 + r ≤ 1 → r ≤ 1
      rest r h = omega (arith, h)

      goes : (c : Bool) → is_held entry.1 ≡ c → entry.1 ≡ one → times number (numbers_in more) ≤ 0
          → held (removed number more) ≡ map message_of (cond c (entry.1 ∷ held_from p s more) (held_from p s more))
      goes true so same none = absurd (true≢false (sym so ∙ (ap (λ (it : Sample T). is_held it) same ∙ off)))
      goes false so same none = ap held (none-removed number more none)

      both : (c : Bool) → held (removed number more) ≡ held more
          → map message_of (cond c (entry.1 ∷ held_from p s (removed number more)) (held_from p s (removed number more)))
          ≡ map message_of (cond c (entry.1 ∷ held_from p s more) (held_from p s more))
      both true on = ap (λ (l : List (Message T)). entry.1.message ∷ l) on
      both false on = on

      here : (b : Bool)
          → option_map (λ (it : ℕ × Sample T). it.1) (cond b (Some entry) (find (λ (it : ℕ × Sample T). it.0 == number) more)) ≡ Some one
          → one_if b + times number (numbers_in more) ≤ 1
          → (at number more ≡ Some one → is_held one ≡ false → times number (numbers_in more) ≤ 1
          → held (removed number more) ≡ held more)
          → (c : Bool) → is_held entry.1 ≡ c
          → held (cond (not b) (entry ∷ removed number more) (removed number more))
          ≡ map message_of (cond c (entry.1 ∷ held_from p s more) (held_from p s more))
      here true e h on c so = goes c so (same-some entry.1 one e) (only (times number (numbers_in more)) h)
      here false e h on c so =
          both (is_held entry.1) (on e off (rest (times number (numbers_in more)) h))
          ∙ ap (λ (d : Bool). map message_of (cond d (entry.1 ∷ held_from p s more) (held_from p s more))) so

  -- ---- what holds of a service

  -- What is borrowed of the connection is what samples hold of it, and each message of these is one that was received.
  abbrev Holds : List (Message T) → Service T → Type 0
  Holds received service =
      ((mailbox p s service).borrowed ≡ held service.samples)
      × ((number : ℕ) → times number (numbers_of (mailbox p s service).borrowed) ≤ times number (numbers_of received))

  holds-rests : (received : List (Message T)) (old new : Service T) → Rests old new → Holds received old → Holds received new
  holds-rests received old new on holds = (
    on.0 p s ∙ (holds.0 ∙ ap held (sym on.1)),
    (λ number. subst (λ (l : List (Message T)). times number (numbers_of l) ≤ times number (numbers_of received))
        (sym (on.0 p s)) (holds.1 number)),
  )

  holds-new : (received : List (Message T)) (name : List ℕ) (c : StaticConfig) → Holds received (new_service name c)
  holds-new received name c = (refl, (λ number. omega arith))

  noted-few : (received : List (Message T)) (o : Option (Message T)) (number x : ℕ) → x ≤ times number (numbers_of received)
      → x ≤ times number (numbers_of (noted received o))
  noted-few received None number x h = h
  noted-few received (Some message) number x h =
      up x (times number (numbers_of received)) (times number (numbers_of (message ∷ [])))
      (times number (numbers_of (received ++ message ∷ []))) h
      (ap (times number) (map-append number_of received (message ∷ []))
      ∙ times-append number (numbers_of received) (numbers_of (message ∷ [])))
    where
      up : (x y e z : ℕ) → x ≤ y → z ≡ y + e → x ≤ z
      up x y e z h is = omega (arith, h, is)

  holds-noted : (received : List (Message T)) (o : Option (Message T)) (service : Service T) → Holds received service
      → Holds (noted received o) service
  holds-noted received o service holds =
      (holds.0, (λ number. noted-few received o number (times number (numbers_of (mailbox p s service).borrowed)) (holds.1 number)))

  -- ---- a sample is released

  released-box : (one : Sample T) (service : Service T) → (box : Mailbox T) → (c : Bool)
      → ((p == one.publisher) && (s == one.subscriber)) ≡ c
      → mailbox p s (with_mailbox one.publisher one.subscriber box service)
      ≡ cond c box (mailbox p s service)
  released-box one service box c is =
      ap (λ (b : Bool). unwrap_or (cond b (Some box) (service.mailboxes p s)) (record { limit = 0; waiting = []; borrowed = [] })) is
      ∙ here c
    where
      here : (b : Bool)
          → unwrap_or (cond b (Some box) (service.mailboxes p s)) (record { limit = 0; waiting = []; borrowed = [] })
          ≡ cond b box (mailbox p s service)
      here true = refl
      here false = refl

  holds-released : (received : List (Message T)) (sample : ℕ) (one : Sample T) (old : Service T) (answer : Reply T) (new : Service T)
      → at sample old.samples ≡ Some one → times sample (numbers_in old.samples) ≤ 1
      → ((number : ℕ) → times number (numbers_of received) ≤ 1) → Releases sample one old answer new → Holds received old
      → Holds received new
  holds-released received sample one old answer new found once apart (told, came) holds =
      subst (Holds received) (sym came) (here ((p == one.publisher) && (s == one.subscriber)) refl)
    where
      box : Mailbox T
      box = given_back one.message.number (mailbox one.publisher one.subscriber old)

      fewer : Service T
      fewer = record old { samples = removed sample old.samples }

      end : Service T
      end = with_mailbox one.publisher one.subscriber box fewer

      within : (x y : ℕ) → x ≤ y → y ≤ 1 → x ≤ 1
      within x y h k = omega (arith, h, k)

      up : (x y z : ℕ) → x ≤ y → y ≤ z → x ≤ z
      up x y z h k = omega (arith, h, k)

      apart-held : times one.message.number (numbers_of (held old.samples)) ≤ 1
      apart-held =
          subst (λ (l : List (Message T)). times one.message.number (numbers_of l) ≤ 1) holds.0
          (within (times one.message.number (numbers_of (mailbox p s old).borrowed)) (times one.message.number (numbers_of received))
          (holds.1 one.message.number) (apart one.message.number))

      here : (c : Bool) → ((p == one.publisher) && (s == one.subscriber)) ≡ c → Holds received end
      here true is =
          let both = both-true (p == one.publisher) (s == one.subscriber) is in
          let same : (mailbox one.publisher one.subscriber old).borrowed ≡ (mailbox p s old).borrowed =
          ap (λ (k : ℕ). (mailbox k one.subscriber old).borrowed) (sym (eqb-true p one.publisher both.0))
          ∙ ap (λ (k : ℕ). (mailbox p k old).borrowed) (sym (eqb-true s one.subscriber both.1)) in
          let of_it : is_held one ≡ true =
          and_from (one.subscriber == s) (one.publisher == p) (eq-eqb one.subscriber s (sym (eqb-true s one.subscriber both.1)))
          (eq-eqb one.publisher p (sym (eqb-true p one.publisher both.0))) in
          let now : (mailbox p s end).borrowed ≡ filter (is_other one.message.number) (mailbox p s old).borrowed =
          ap (λ (it : Mailbox T). it.borrowed) (released-box one fewer box true is)
          ∙ ap (filter (is_other one.message.number)) same in (
            now ∙ (ap (filter (is_other one.message.number)) holds.0
                ∙ held-released sample one old.samples found of_it once apart-held),
            (λ number. subst (λ (l : List (Message T)). times number (numbers_of l) ≤ times number (numbers_of received)) (sym now)
                (up (times number (numbers_of (filter (is_other one.message.number) (mailbox p s old).borrowed)))
                (times number (numbers_of (mailbox p s old).borrowed)) (times number (numbers_of received))
                (fewer-left number (is_other one.message.number) (mailbox p s old).borrowed) (holds.1 number))),
          )
      here false off =
          let now : (mailbox p s end).borrowed ≡ (mailbox p s old).borrowed =
          ap (λ (it : Mailbox T). it.borrowed) (released-box one fewer box false off) in
          let aside : is_held one ≡ false = other (is_held one) refl in (
            now ∙ (holds.0 ∙ sym (held-aside sample one old.samples found aside once)),
            (λ number. subst (λ (l : List (Message T)). times number (numbers_of l) ≤ times number (numbers_of received)) (sym now)
                (holds.1 number)),
          )
        where
          other : (d : Bool) → is_held one ≡ d → d ≡ false
          other true is =
              let both = both-true (one.subscriber == s) (one.publisher == p) is in
              absurd (true≢false (sym (and_from (p == one.publisher) (s == one.subscriber)
              (eq-eqb p one.publisher (sym (eqb-true one.publisher p both.1)))
              (eq-eqb s one.subscriber (sym (eqb-true one.subscriber s both.0)))) ∙ off))
          other false is = refl

  -- ---- a message is taken

  holds-taken : (received : List (Message T)) (number sample publisher : ℕ) (message : Message T) (old new : Service T)
      → slice_get (mailbox publisher number old).waiting 0 ≡ Some message
      → new ≡ with_mailbox publisher number (taken (mailbox publisher number old))
      (record old { samples = old.samples ++ (sample, record { publisher = publisher; subscriber = number; message = message }) ∷ [] })
      → Holds received old
      → Holds (noted received (cond ((number == s) && (publisher == p)) (Some message) None)) new
  holds-taken received number sample publisher message old new oldest came holds =
      here ((number == s) && (publisher == p)) refl
    where
      it : Sample T
      it = record { publisher = publisher; subscriber = number; message = message }

      is : IsBorrowed message publisher number old new
      is = is-borrowed number publisher message old new oldest (ap (λ (end : Service T). end.mailboxes) came)

      joined : held new.samples ≡ held old.samples ++ cond ((number == s) && (publisher == p)) (message ∷ []) []
      joined = ap (λ (end : Service T). held end.samples) came ∙ held-joined old.samples (sample, it)

      sum : (x y e a b : ℕ) → a ≡ x + e → b ≡ y + e → x ≤ y → a ≤ b
      sum x y e a b h k few = omega (arith, h, k, few)

      counts : (n : ℕ) (messages : List (Message T))
          → times n (numbers_of (messages ++ message ∷ [])) ≡ times n (numbers_of messages) + times n (numbers_of (message ∷ []))
      counts n messages =
          ap (times n) (map-append number_of messages (message ∷ []))
          ∙ times-append n (numbers_of messages) (numbers_of (message ∷ []))

      here : (b : Bool) → ((number == s) && (publisher == p)) ≡ b → Holds (noted received (cond b (Some message) None)) new
      here true same =
          let both = both-true (number == s) (publisher == p) same in
          let now : (mailbox p s new).borrowed ≡ (mailbox p s old).borrowed ++ message ∷ [] =
          ap (λ (k : ℕ). (mailbox k s new).borrowed) (sym (eqb-true publisher p both.1))
          ∙ (ap (λ (k : ℕ). (mailbox publisher k new).borrowed) (sym (eqb-true number s both.0))
          ∙ (is.1
          ∙ (ap (λ (k : ℕ). (mailbox k number old).borrowed ++ message ∷ []) (eqb-true publisher p both.1)
          ∙ ap (λ (k : ℕ). (mailbox p k old).borrowed ++ message ∷ []) (eqb-true number s both.0)))) in (
            now ∙ (ap (λ (l : List (Message T)). l ++ message ∷ []) holds.0
                ∙ sym (joined ∙ ap (λ (c : Bool). held old.samples ++ cond c (message ∷ []) []) same)),
            (λ n. sum (times n (numbers_of (mailbox p s old).borrowed)) (times n (numbers_of received))
                (times n (numbers_of (message ∷ []))) (times n (numbers_of (mailbox p s new).borrowed))
                (times n (numbers_of (received ++ message ∷ [])))
                (ap (λ (l : List (Message T)). times n (numbers_of l)) now ∙ counts n (mailbox p s old).borrowed) (counts n received)
                (holds.1 n)),
          )
      here false off =
          let now : (mailbox p s new).borrowed ≡ (mailbox p s old).borrowed =
          ap (λ (box : Mailbox T). box.borrowed) (is.3 p s (λ so. true≢false
          (sym (and_from (number == s) (publisher == p) (eq-eqb number s (sym so.1)) (eq-eqb publisher p (sym so.0))) ∙ off))) in (
            now ∙ (holds.0 ∙ sym (joined ∙ (ap (λ (c : Bool). held old.samples ++ cond c (message ∷ []) []) off
                ∙ append-nil (held old.samples)))),
            (λ n. subst (λ (l : List (Message T)). times n (numbers_of l) ≤ times n (numbers_of received)) (sym now) (holds.1 n)),
          )

  -- ---- a step

  abbrev AllHold : List (Message T) → State T → Type 0
  AllHold received state = AllByRecursion (Holds received) state.services

  -- Besides, no two samples go by one number.
  abbrev HoldsApart : List (Message T) → Service T → Type 0
  HoldsApart received service = Holds received service × ((sample : ℕ) → times sample (numbers_in service.samples) ≤ 1)

  apart-rests : (received : List (Message T)) (old new : Service T) → Rests old new → HoldsApart received old → HoldsApart received new
  apart-rests received old new on (holds, once) = (
    holds-rests received old new on holds,
    (λ sample. subst (λ (l : List (ℕ × Sample T)). times sample (numbers_in l) ≤ 1) (sym on.1) (once sample)),
  )

  module _ (received : List (Message T)) (asked : Command T) (state : State T) (answer : Reply T) (none : receives_none asked ≡ true)
      (few : (number : ℕ) → times number (numbers_of received) ≤ 1) where
    apart-loud : (factories : List (ℕ × Factory)) (one : Loud T) (old new : Service T) → IsTold asked state answer one
        → Loudly factories one old new → HoldsApart received old → HoldsApart received new
    apart-loud factories (move.Takes number sample) old new told did apart =
        absurd (true≢false (sym none ∙ ap (λ (it : Command T). receives_none it) told.0))
    apart-loud factories (move.Releases number sample) old new told (found, came) (holds, once) = (
      holds-released received number sample old reply.Done new found (once number) few (refl, came) holds,
      (λ n. subst (λ (it : Service T). times n (numbers_in it.samples) ≤ 1) (sym came)
          (up (times n (numbers_in (removed number old.samples))) (times n (numbers_in old.samples))
          (times-filtered n (λ (entry : ℕ × Sample T). not (entry.0 == number)) old.samples) (once n))),
    )
      where
        up : (x y : ℕ) → x ≤ y → y ≤ 1 → x ≤ 1
        up x y h k = omega (arith, h, k)
    apart-loud factories (move.Subscribes buffer place number options one after) old new told
        (open_one, (made, small, free, mid, did, listed), turned, came) (holds, once) =
        let more : Service T = record old { subscribers = old.subscribers ++ (number, one) ∷ [] } in
        let on : Rests (with_subscriber number after more) mid = rests-attends buffer number one more after mid did in
        subst (HoldsApart received) (sym listed)
        (apart-rests received (with_subscriber number after more) mid on ((holds.0, holds.1), once))
    apart-loud factories other old new told did apart =
        apart-rests received old new (rests-loud factories other old new refl did) apart

    apart-walk : (factories : List (ℕ × Factory)) (loud : List (Loud T)) (old new : Service T)
        → AllByRecursion (IsTold asked state answer) loud → Walk factories loud old new → HoldsApart received old
        → HoldsApart received new
    apart-walk factories [] old new told h apart = apart-rests received old new (rests-quiets old new h) apart
    apart-walk factories (one ∷ more) old new told h apart =
        apart-walk factories more h.1 new told.1 h.4
        (apart-loud factories one h.0 h.1 told.0 h.3 (apart-rests received old h.0 (rests-quiets old h.0 h.2) apart))

  module _ (types : MessageTypeDetails) (choices : Choices T) (buffer : ℕ) where
    -- what is received, and what isn't
    unreceived : (received : List (Message T)) (number : ℕ) (answer : Reply T) (old new : State T)
        → received_by p s (command.Receive number) answer new ≡ None → AllHold received new
        → AllHold (noted received (received_by p s (command.Receive number) answer new)) new
    unreceived received number answer old new none all =
        subst (λ (o : Option (Message T)). AllHold (noted received o) new) (sym none) all

    step-receives : (received : List (Message T)) (number : ℕ) (old : State T) (answer : Reply T) (new : State T)
        → AllByRecursion (λ (other : Service T). at (old.made.samples + 1) other.samples ≡ None) old.services
        → Step types choices buffer (command.Receive number) old answer new → AllHold received old
        → AllHold (noted received (received_by p s (command.Receive number) answer new)) new
    step-receives received number old answer new fresh h all =
        elim (at-one (subscriber_in number) (subscribing.UpdatesFirst choices buffer number
        (λ failure. refusal.Receive (receive_error.ConnectionFailure failure)) (Receives number (old.made.samples + 1))) old answer new h) [
          | inl w ↦ unreceived received number answer old new
              (ap (λ (told : Reply T). received_by p s (command.Receive number) told new) w.0) (subst (AllHold received) (sym w.1) all)
          | inr w ↦ subst (λ (state : State T). AllHold Then state) (sym w.6)
              (replaced-keeps (Holds received) (Holds Then) has w.0 w.2 old.services
              (λ it holds. holds-noted received (received_by p s (command.Receive number) answer new) it holds)
              (λ holds. receives w.0 w.1 w.2 w.3 w.4 w.5 w.6 holds) w.3 all)
        ]
      where
        has : Service T → Bool
        has other = is_some (subscriber_in number other)

        Then : List (Message T)
        Then = noted received (received_by p s (command.Receive number) answer new)

        quietly : (after : Service T) → Holds received after → Holds Then after
        quietly after holds = holds-noted received (received_by p s (command.Receive number) answer new) after holds

        receives : (service : Service T) (one : Subscriber) (after : Service T) → find has old.services ≡ Some service
            → subscriber_in number service ≡ Some one
            → subscribing.UpdatesFirst choices buffer number (λ failure. refusal.Receive (receive_error.ConnectionFailure failure))
            (Receives number (old.made.samples + 1)) one service answer after
            → new ≡ record old { made = counted answer old.made; services = replaced has after old.services }
            → Holds received service → Holds Then after
        receives service one after first is did came holds =
            rests-attending choices (Holds Then after) buffer number
            (λ failure. refusal.Receive (receive_error.ConnectionFailure failure)) (Receives number (old.made.samples + 1)) one service
            answer after (subscriber-stands number service one is).0
            (λ now mid on found went. gives now mid on found went)
            (λ why mid on refused. quietly after
            (holds-rests received service after (rests-both service mid after on (rests-same mid after refused.1)) holds)) did
          where
            gives : (now : Subscriber) (mid : Service T) → Rests service mid → at number mid.subscribers ≡ Some now
                → Receives number (old.made.samples + 1) now mid answer after → Holds Then after
            gives now mid on found (None, giver, (told, is_so)) =
                let later : Subscriber = record now { expired = lasting number mid now.expired } in
                let swept : Service T = with_subscriber number later mid in
                quietly after (holds-rests received service after
                (rests-both service swept after (rests-both service mid swept on (rests-subscriber number now later mid found refl))
                (rests-same swept after is_so)) holds)
            gives now mid on found (Some publisher, giver, took) =
                let later : Subscriber = record now { expired = lasting number mid now.expired } in
                let swept : Service T = with_subscriber number later mid in
                let rested : Rests service swept =
                rests-both service mid swept on (rests-subscriber number now later mid found refl) in
                let it : Sample T = record { publisher = publisher; subscriber = number; message = took.0 } in
                let unknown : at (old.made.samples + 1) swept.samples ≡ None =
                ap (at (old.made.samples + 1)) rested.1
                ∙ all-found (λ (other : Service T). at (old.made.samples + 1) other.samples ≡ None) has old.services service first fresh in
                let there : at (old.made.samples + 1) after.samples ≡ Some it =
                ap (λ (end : Service T). at (old.made.samples + 1) end.samples) took.5
                ∙ at-appended (old.made.samples + 1) it swept.samples unknown in
                let seen : first_in (λ (other : Service T). at (old.made.samples + 1) other.samples) new ≡ Some it =
                ap (λ (state : State T). first_in (λ (other : Service T). at (old.made.samples + 1) other.samples) state) came
                ∙ (ap (option_and_then (λ (other : Service T). at (old.made.samples + 1) other.samples))
                (first-fresh (old.made.samples + 1) has service after it old.services fresh first there) ∙ there) in
                let told : received_by p s (command.Receive number) answer new
                ≡ cond ((number == s) && (publisher == p)) (Some took.0) None =
                ap (λ (answered : Reply T). received_by p s (command.Receive number) answered new) took.4
                ∙ ap (λ (o : Option (Sample T)). option_and_then
                (λ (sample : Sample T). cond ((number == s) && (sample.publisher == p)) (Some sample.message) None) o) seen in
                subst (λ (o : Option (Message T)). Holds (noted received o) after) (sym told)
                (holds-taken received number (old.made.samples + 1) publisher took.0 swept after took.2 took.5
                (holds-rests received service swept rested holds))

    -- a step by which nothing is received
    step-rests : (received : List (Message T)) (asked : Command T) (old : State T) (answer : Reply T) (new : State T)
        → receives_none asked ≡ true
        → ((number : ℕ) → times number (standing (λ (service : Service T). service.samples) old.services) ≤ 1)
        → ((number : ℕ) → times number (numbers_of received) ≤ 1)
        → Step types choices buffer asked old answer new → AllHold received old → AllHold received new
    step-rests received asked old answer new none once few h all =
        (becomes-keeps (Walks asked old answer) (Holds received) (holds-new received) asked old answer new
        (λ has service after first walks holds. (apart-walk received asked old answer none few old.factories walks.0 service after walks.1.5
        walks.2 (holds, (λ sample. there-few (λ (it : Service T). it.samples) sample 1 has service old.services first (once sample)))).0)
        (step-moves types choices buffer asked old answer new h) all).0

    step-holds : (received : List (Message T)) (asked : Command T) (old : State T) (answer : Reply T) (new : State T)
        → AllByRecursion (λ (other : Service T). at (old.made.samples + 1) other.samples ≡ None) old.services
        → ((number : ℕ) → times number (standing (λ (service : Service T). service.samples) old.services) ≤ 1)
        → ((number : ℕ) → times number (numbers_of received) ≤ 1)
        → Step types choices buffer asked old answer new → AllHold received old
        → AllHold (noted received (received_by p s asked answer new)) new
    step-holds received (command.Receive number) old answer new fresh once apart h all =
        step-receives received number old answer new fresh h all
    step-holds received asked old answer new fresh once apart h all = step-rests received asked old answer new refl once apart h all

    -- ---- a run

    runs-hold : (received : List (Message T)) (asked : List (Command T)) (old : State T) (answers : List (Reply T)) (new : State T)
        (run : Runs types choices buffer asked old answers new)
        → AreSound AnyMessage (Numbered types choices buffer old) old
        → ((number : ℕ) → times number (standing (λ (service : Service T). service.samples) old.services)
        + times number (filter_map sample_told answers) ≤ 1)
        → ((number : ℕ) → times number (numbers_of
        (received ++ received_from types choices buffer p s asked old answers new run)) ≤ 1)
        → AllHold received old
        → AllByRecursion (λ (service : Service T). (mailbox p s service).borrowed ≡ held service.samples) new.services
    runs-hold received [] old answers new run sound once apart all =
        subst (λ (state : State T). AllByRecursion (λ (service : Service T). (mailbox p s service).borrowed ≡ held service.samples)
        state.services) (sym run.1)
        (all-weaker (Holds received) (λ (service : Service T). (mailbox p s service).borrowed ≡ held service.samples)
        (λ service holds. holds.0) old.services all)
    runs-hold received (one ∷ more) old answers new run sound once apart all =
        runs-hold (noted received (received_by p s one run.0 run.1)) more run.1 run.2 new run.4
        (runs-numbered types choices buffer (one ∷ []) old (run.0 ∷ []) run.1 (run.0, run.1, [], run.3, (refl, refl), refl) sound)
        (λ number. rest number)
        (λ number. subst (λ (l : List (Message T)). times number (numbers_of l) ≤ 1)
        (sym (noted-more received (received_by p s one run.0 run.1) (received_from types choices buffer p s more run.1 run.2 new run.4)))
        (apart number))
        (step-holds received one old run.0 run.1 (fresh-numbers p s types choices buffer old sound) (λ number. now number)
        (λ number. front number) run.3 all)
      where
        first : (x e : ℕ) → x + e ≤ 1 → x ≤ 1
        first x e h = omega (arith, h)

        next : (x y e f : ℕ) → x + (e + f) ≤ 1 → y ≤ x + e → y + f ≤ 1
        next x y e f h k = omega (arith, h, k)

        part : (x e z : ℕ) → z ≡ x + e → z ≤ 1 → x ≤ 1
        part x e z is h = omega (arith, is, h)

        told-first : (number : ℕ) (o : Option ℕ) (xs : List ℕ) → times number (cons_option o xs) ≡ of_told o number + times number xs
        told-first number None xs = omega arith
        told-first number (Some told) xs = refl

        held_by : State T → List ℕ
        held_by state = standing (λ (service : Service T). service.samples) state.services

        samples : (number : ℕ)
            → times number (held_by old) + (of_told (sample_told run.0) number + times number (filter_map sample_told run.2)) ≤ 1
        samples number =
            subst (λ (k : ℕ). times number (held_by old) + k ≤ 1) (told-first number (sample_told run.0) (filter_map sample_told run.2))
            (subst (λ (it : List (Reply T)). times number (held_by old) + times number (filter_map sample_told it) ≤ 1) run.5 (once number))

        now : (number : ℕ) → times number (held_by old) ≤ 1
        now number =
            first (times number (held_by old)) (of_told (sample_told run.0) number + times number (filter_map sample_told run.2))
            (samples number)

        rest : (number : ℕ) → times number (held_by run.1) + times number (filter_map sample_told run.2) ≤ 1
        rest number =
            next (times number (held_by old)) (times number (held_by run.1)) (of_told (sample_told run.0) number)
            (times number (filter_map sample_told run.2)) (samples number)
            ((step-passes types choices buffer one old run.0 run.1 run.3).samples number)

        front : (number : ℕ) → times number (numbers_of received) ≤ 1
        front number =
            let all_of : List (Message T) = received_from types choices buffer p s (one ∷ more) old answers new run in
            part (times number (numbers_of received)) (times number (numbers_of all_of)) (times number (numbers_of (received ++ all_of)))
            (ap (times number) (map-append number_of received all_of)
            ∙ times-append number (numbers_of received) (numbers_of all_of)) (apart number)

pub held-is-borrowed : {T : Type 0} (choices : Choices T) → HeldIsBorrowed choices
held-is-borrowed {T} choices types buffer asked answers new run =
    each new.services (λ publisher subscriber. here publisher subscriber)
    (all-weaker (IsWithinSizes (λ number options. CameAs types choices buffer number options asked new_state answers new run))
    (λ (service : Service T). (publisher subscriber : ℕ) (box : Mailbox T) → service.mailboxes publisher subscriber ≡ Some box
    → length box.borrowed ≤ service.settings.subscriber_max_borrowed_samples)
    (λ service within publisher subscriber box is. (within.0 publisher subscriber box is).2) new.services
    (sizes-agreed choices types buffer asked answers new run))
  where
    Borrows : ℕ → ℕ → Service T → Type 0
    Borrows publisher subscriber service = (mailbox publisher subscriber service).borrowed ≡ held publisher subscriber service.samples

    AreFew : Service T → Type 0
    AreFew service = (publisher subscriber : ℕ) (box : Mailbox T) → service.mailboxes publisher subscriber ≡ Some box
        → length box.borrowed ≤ service.settings.subscriber_max_borrowed_samples

    none : (x : ℕ) → x ≤ 1 → 0 + x ≤ 1
    none x h = omega (arith, h)

    here : (publisher subscriber : ℕ) → AllByRecursion (Borrows publisher subscriber) new.services
    here publisher subscriber =
        runs-hold publisher subscriber types choices buffer [] asked new_state answers new run tt
        (λ number. none (times number (filter_map sample_told answers)) (told-once 0 (filter_map sample_told answers)
        (numbers-go-up choices types buffer asked answers new run).5 number))
        (λ number. (messages-once choices types buffer asked answers new run publisher subscriber).1 number) tt

    as-many : (messages : List (Sample T)) → length (map message_of messages) ≡ length messages
    as-many [] = refl
    as-many (one ∷ more) = omega (arith, as-many more)

    few-in : (service : Service T) → AreFew service → (publisher subscriber : ℕ) (o : Option (Mailbox T))
        → service.mailboxes publisher subscriber ≡ o
        → length (unwrap_or o (record { limit = 0; waiting = []; borrowed = [] })).borrowed ≤
        service.settings.subscriber_max_borrowed_samples
    few-in service few publisher subscriber None is = omega arith
    few-in service few publisher subscriber (Some box) is = few publisher subscriber box is

    whole : (service : Service T) → AreFew service → (publisher subscriber : ℕ) → Borrows publisher subscriber service
        → ((mailbox publisher subscriber service).borrowed ≡ held publisher subscriber service.samples)
        × (length (mailbox publisher subscriber service).borrowed ≡ length (held_from publisher subscriber service.samples))
        × (length (held_from publisher subscriber service.samples) ≤ service.settings.subscriber_max_borrowed_samples)
    whole service few publisher subscriber is =
        let same : length (mailbox publisher subscriber service).borrowed ≡ length (held_from publisher subscriber service.samples) =
        ap length is ∙ as-many (held_from publisher subscriber service.samples) in (
          is,
          same,
          subst (λ (n : ℕ). n ≤ service.settings.subscriber_max_borrowed_samples) same
              (few-in service few publisher subscriber (service.mailboxes publisher subscriber) refl),
        )

    each : (services : List (Service T)) → ((publisher subscriber : ℕ) → AllByRecursion (Borrows publisher subscriber) services)
        → AllByRecursion AreFew services
        → AllByRecursion (λ (service : Service T). (publisher subscriber : ℕ)
        → ((mailbox publisher subscriber service).borrowed ≡ held publisher subscriber service.samples)
        × (length (mailbox publisher subscriber service).borrowed ≡ length (held_from publisher subscriber service.samples))
        × (length (held_from publisher subscriber service.samples) ≤ service.settings.subscriber_max_borrowed_samples)) services
    each [] all few = tt
    each (service ∷ more) all few = (
      (λ publisher subscriber. whole service few.0 publisher subscriber (all publisher subscriber).0),
      each more (λ publisher subscriber. (all publisher subscriber).1) few.1,
    )
