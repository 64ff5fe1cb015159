-- What holds of every run.
use Rattle.std.proofs.Common.{◌≡◌, ◌⊎◌, ◌≤◌, ◌+◌, ℕ, Bool, true, false, cond, List, [], ◌∷◌, Option, None, Some, refl, sym, ap}
use Rattle.std.proofs.Common.{subst, inl, inr, arith, ◌∙◌}
use Rattle.std.specs.Global.{Vec}
use Rattle.std.specs.List.{AllByRecursion}
use Rattle.std.specs.Prelude.{⊤, is_some, find, MatchOption}
use Rattle.std.specs.Vec.{vec_items}
use Rattle.iox_machine.specs.Choices.{Choices}
use Rattle.iox_machine.specs.Message.{Message, Sample}
use Rattle.iox_machine.specs.Ports.{subscriber_in}
use Rattle.iox_machine.specs.Receiving.{Receives, has_samples}
use Rattle.iox_machine.specs.Run.{Step, Runs}
use Rattle.iox_machine.specs.RunLaws.{AllMessages, BeginsToSend, Began, MessagesWereSent, SamplesReadTheSame}
use Rattle.iox_machine.specs.Service.{Service, Publisher, Subscriber, Send, mailbox}
use Rattle.iox_machine.specs.State.{State, Made, new_state, counted}
use Rattle.iox_machine.specs.SubscriberUpdate as subscribing
use Rattle.iox_machine.specs.Table.{at}
use Rattle.iox_machine.proofs.Cases.{same-some, never-some, chosen}
use Rattle.iox_machine.proofs.Lists.{all-weaker, all-at, first-of}
use Rattle.iox_machine.proofs.Moving.{at-one}
use Rattle.iox_machine.proofs.Sound.{BoxFits, PublisherFits, SampleFits, Sound, box-fits, subscriber-fits, subscriber-updates}
use Rattle.iox_machine.proofs.Steps.{step-sound}
use Rattle.iox_command.specs.DomainValues.declared.port_error.ReceiveError.TheVariants as receive_error
use Rattle.iox_command.specs.NegotiateBase.DescribeBase.declared.message_type.MessageTypeDetails.{MessageTypeDetails}
use Rattle.iox_command.specs.declared.command.Command.{Command}
use Rattle.iox_command.specs.declared.command.Command.TheVariants as command
use Rattle.iox_command.specs.declared.port.PublisherOptions.{PublisherOptions}
use Rattle.iox_command.specs.declared.refusal.Refusal.{Refusal}
use Rattle.iox_command.specs.declared.refusal.Refusal.TheVariants as refusal
use Rattle.iox_command.specs.declared.reply.Reply.{Reply}
use Rattle.iox_command.specs.declared.reply.Reply.TheVariants as reply

pub all-found : {X : Type 0} (P : X → Type 0) (test : X → Bool) (xs : List X) (x : X) → find test xs ≡ Some x → AllByRecursion P xs → P x
all-found P test [] x e all = never-some x e
all-found P test (y ∷ xs) x e all = elim (chosen (test y) (Some y) (find test xs) (Some x) e) [
  | inl w ↦ subst P (same-some y x w.1) all.0
  | inr w ↦ all-found P test xs x w.1 all.1
]

-- ---- replies

samples-rise : {T : Type 0} (answer : Reply T) (made : Made) → made.samples ≤ (counted answer made).samples
samples-rise (reply.NodeMade number) made = omega arith
samples-rise (reply.FactoryMade number) made = omega arith
samples-rise (reply.PublisherMade number) made = omega arith
samples-rise (reply.SubscriberMade number) made = omega arith
samples-rise (reply.LoanMade number) made = omega arith
samples-rise reply.Done made = omega arith
samples-rise (reply.Sequence number) made = omega arith
samples-rise (reply.Delivered count) made = omega arith
samples-rise reply.Blocked made = omega arith
samples-rise (reply.Received number values) made = omega arith
samples-rise reply.NothingWaits made = omega arith
samples-rise (reply.Values values) made = omega arith
samples-rise (reply.Has may) made = omega arith
samples-rise reply.Skipped made = omega arith
samples-rise (reply.Refused why) made = omega arith

-- whatever is named for a publisher
abbrev pub AnyOptions : ℕ → PublisherOptions → Type 0
AnyOptions number options = ⊤

module _ {T : Type 0} where
  abbrev pub values_in : Reply T → Vec T → Vec T
  values_in (reply.Received number values) other = values
  values_in (reply.Values values) other = values
  values_in reply other = other

  abbrev pub number_in : Reply T → ℕ
  number_in (reply.Received number values) = number
  number_in reply = 0

  abbrev tells_values : Reply T → Bool
  tells_values (reply.Received number values) = true
  tells_values (reply.Values values) = true
  tells_values reply = false

  -- a reply that tells values is no other
  pub never-told : {A : Type 0} (one other : Reply T) → one ≡ other → tells_values one ≡ true → tells_values other ≡ false → A
  never-told one other same told silent = absurd (differ (sym told ∙ (ap tells_values same ∙ silent)))
    where
      differ : true ≡ false → ⊥
      differ e = cc

  pub never-received : {A : Type 0} (sample : ℕ) (values : Vec T) (b : Bool) (why : Refusal)
      → reply.Received sample values ≡ cond b (reply.Refused why) reply.NothingWaits → A
  never-received sample values true why e = never-told (reply.Received sample values) (reply.Refused why) e refl refl
  never-received sample values false why e = never-told (reply.Received sample values) reply.NothingWaits e refl refl

  -- ---- what is weaker

  weaker-send : (Good Other : Message T → Type 0) → ((message : Message T) → Good message → Other message) → (o : Option (Send T))
      → MatchOption o ⊤ (λ send. Good send.message) → MatchOption o ⊤ (λ send. Other send.message)
  weaker-send Good Other on None h = tt
  weaker-send Good Other on (Some send) h = on send.message h

  weaker-sound : (Good Other : ℕ → Message T → Type 0) (Fine Next : ℕ → Sample T → Type 0)
      → ((publisher : ℕ) (message : Message T) → Good publisher message → Other publisher message)
      → ((number : ℕ) (sample : Sample T) → Fine number sample → Next number sample)
      → (service : Service T) → Sound Good Fine AnyOptions service → Sound Other Next AnyOptions service
  weaker-sound Good Other Fine Next on next service sound = (
    (λ publisher subscriber box e.
        let fits : BoxFits Good Fine AnyOptions publisher service.settings box = sound.0 publisher subscriber box e in (
          fits.0,
          fits.1,
          fits.2,
          all-weaker (Good publisher) (Other publisher) (on publisher) box.waiting fits.3,
          all-weaker (Good publisher) (Other publisher) (on publisher) box.borrowed fits.4,
        )),
    all-weaker (λ (entry : ℕ × Publisher T). PublisherFits Good Fine AnyOptions service.settings entry.0 entry.1)
        (λ (entry : ℕ × Publisher T). PublisherFits Other Next AnyOptions service.settings entry.0 entry.1)
        (λ entry fits. (
          fits.0,
          all-weaker (Good entry.0) (Other entry.0) (on entry.0) entry.1.history fits.1,
          weaker-send (Good entry.0) (Other entry.0) (on entry.0) entry.1.blocked fits.2,
          fits.3,
        ))
        service.publishers sound.1,
    sound.2,
    all-weaker (λ (entry : ℕ × Sample T). SampleFits Good Fine AnyOptions entry.0 entry.1)
        (λ (entry : ℕ × Sample T). SampleFits Other Next AnyOptions entry.0 entry.1)
        (λ entry fits. (next entry.0 entry.1 fits.0, on entry.1.publisher entry.1.message fits.1)) service.samples sound.3,
  )

  abbrev pub AreSound : (ℕ → Message T → Type 0) → (ℕ → Sample T → Type 0) → State T → Type 0
  AreSound Good Fine state = AllByRecursion (Sound Good Fine AnyOptions) state.services

  all-weaker-sound : (Good Other : ℕ → Message T → Type 0) (Fine Next : ℕ → Sample T → Type 0)
      → ((publisher : ℕ) (message : Message T) → Good publisher message → Other publisher message)
      → ((number : ℕ) (sample : Sample T) → Fine number sample → Next number sample)
      → (state : State T) → AreSound Good Fine state → AreSound Other Next state
  all-weaker-sound Good Other Fine Next on next state all =
      all-weaker (Sound Good Fine AnyOptions) (Sound Other Next AnyOptions) (weaker-sound Good Other Fine Next on next) state.services all

  abbrev pub AnyMessage : ℕ → Message T → Type 0
  AnyMessage publisher message = ⊤

  abbrev pub AnySample : ℕ → Sample T → Type 0
  AnySample number sample = ⊤

  module _ (types : MessageTypeDetails) (choices : Choices T) (buffer : ℕ) where
    abbrev Steps : Command T → State T → Reply T → State T → Type 0
    Steps asked old answer new = Step types choices buffer asked old answer new

    abbrev Ran : List (Command T) → State T → List (Reply T) → State T → Type 0
    Ran asked old answers new = Runs types choices buffer asked old answers new

    -- ---- sizes

    runs-sized : (asked : List (Command T)) (old : State T) (answers : List (Reply T)) (new : State T) → Ran asked old answers new
        → AreSound AnyMessage AnySample old → AreSound AnyMessage AnySample new
    runs-sized [] old answers new run all = subst (AreSound AnyMessage AnySample) (sym run.1) all
    runs-sized (one ∷ more) old answers new run all =
        runs-sized more run.1 run.2 new run.4
        (step-sound AnyMessage AnySample AnyOptions types choices buffer one old run.0 run.1 (λ publisher message b. tt)
        (λ sample values told same. tt) (λ number options came. tt) run.3 all).0

    -- ---- what was sent

    runs-sent : (Good : ℕ → Message T → Type 0) (asked : List (Command T)) (old : State T) (answers : List (Reply T)) (new : State T)
        (run : Ran asked old answers new) → AreSound Good AnySample old
        → AreSound (λ publisher message. Good publisher message
        ⊎ Began types choices buffer publisher message.values asked old answers new run)
        AnySample new
    runs-sent Good [] old answers new run all =
        subst (AreSound (λ publisher message. Good publisher message ⊎ ⊥) AnySample) (sym run.1)
        (all-weaker-sound Good (λ publisher message. Good publisher message ⊎ ⊥) AnySample AnySample (λ publisher message good. inl good)
        (λ number sample fine. fine) old all)
    runs-sent Good (one ∷ more) old answers new run all =
        let Next : ℕ → Message T → Type 0 = λ publisher message. Good publisher message
        ⊎ BeginsToSend publisher message.values one old run.0 in
        let before : AreSound Next AnySample old =
        all-weaker-sound Good Next AnySample AnySample (λ publisher message good. inl good) (λ number sample fine. fine) old all in
        let mid : AreSound Next AnySample run.1 =
        (step-sound Next AnySample AnyOptions types choices buffer one old run.0 run.1 (λ publisher message begins. inr begins)
        (λ sample values told same. tt) (λ number options came. tt)
        run.3 before).0 in
        all-weaker-sound
        (λ publisher message. Next publisher message ⊎ Began types choices buffer publisher message.values more run.1 run.2 new run.4)
        (λ publisher message. Good publisher message ⊎ Began types choices buffer publisher message.values
        (one ∷ more) old answers new run)
        AnySample AnySample
        (λ publisher message it. elim it [
          | inl next ↦ elim next [ inl good ↦ inl good | inr begins ↦ inr (inl begins) ]
          | inr began ↦ inr (inr began)
        ])
        (λ number sample fine. fine) new (runs-sent Next more run.1 run.2 new run.4 mid)

    abbrev Sent : (asked : List (Command T)) (answers : List (Reply T)) (new : State T) → Ran asked new_state answers new → ℕ → Message T
        → Type 0
    Sent asked answers new run publisher message = Began types choices buffer publisher message.values asked new_state answers new run

    sent-sound : (asked : List (Command T)) (answers : List (Reply T)) (new : State T) (run : Ran asked new_state answers new)
        → AreSound (Sent asked answers new run) AnySample new
    sent-sound asked answers new run =
        all-weaker-sound (λ publisher message. ⊥ ⊎ Sent asked answers new run publisher message)
        (Sent asked answers new run) AnySample AnySample
        (λ publisher message it. elim it [ inl never ↦ absurd never | inr began ↦ began ]) (λ number sample fine. fine) new
        (runs-sent (λ publisher message. ⊥) asked new_state answers new run tt)

    -- ---- what is received

    -- A message that was good is what is received: its values, under the next number.
    abbrev IsTaken : (ℕ → Message T → Type 0) → ℕ → ℕ → Vec T → Type 0
    IsTaken Good next sample values =
        (publisher : ℕ) × (message : Message T) × Good publisher message × (vec_items values ≡ message.values) × (sample ≡ next)

    receives-good : (Good : ℕ → Message T → Type 0) (Fine : ℕ → Sample T → Type 0) (number next : ℕ) (subscriber : Subscriber)
        (old : Service T)
        (sample : ℕ) (values : Vec T) (new : Service T) → Sound Good Fine AnyOptions old
        → Receives number next subscriber old (reply.Received sample values) new → IsTaken Good next sample values
    receives-good Good Fine number next subscriber old sample values new sound (None, is, (told, came)) =
        never-received sample values (has_samples number subscriber old) (refusal.Receive receive_error.ExceedsMaxBorrows) told
    receives-good Good Fine number next subscriber old sample values new sound
        (Some publisher, is, (message, found, first, same, told, came)) = (
          publisher,
          message,
          first-of (Good publisher) (mailbox publisher number old).waiting message first
              (box-fits Good Fine AnyOptions publisher number old sound).3,
          ap (λ (answer : Reply T). vec_items (values_in answer values)) told ∙ same,
          ap number_in told,
        )

    received-good : (Good : ℕ → Message T → Type 0) (Fine : ℕ → Sample T → Type 0) (subscriber : ℕ) (old : State T) (sample : ℕ)
        (values : Vec T)
        (new : State T) → AreSound Good Fine old → Steps (command.Receive subscriber) old (reply.Received sample values) new
        → IsTaken Good (old.made.samples + 1) sample values
    received-good Good Fine subscriber old sample values new all h =
        elim (at-one (subscriber_in subscriber)
        (subscribing.UpdatesFirst choices buffer subscriber (λ failure. refusal.Receive (receive_error.ConnectionFailure failure))
        (Receives subscriber (old.made.samples + 1))) old (reply.Received sample values) new h) [
          | inl w ↦ never-told (reply.Received sample values) reply.Skipped w.0 refl refl
          | inr w ↦ taken w.0 w.1 w.2 (all-found (Sound Good Fine AnyOptions)
              (λ (other : Service T). is_some (subscriber_in subscriber other)) old.services w.0 w.3 all)
              w.4 w.5
        ]
      where
        taken : (service : Service T) (one : Subscriber) (after : Service T) → Sound Good Fine AnyOptions service
            → subscriber_in subscriber service ≡ Some one
            → subscribing.UpdatesFirst choices buffer subscriber (λ failure. refusal.Receive (receive_error.ConnectionFailure failure))
            (Receives subscriber (old.made.samples + 1)) one service (reply.Received sample values) after
            → IsTaken Good (old.made.samples + 1) sample values
        taken service one after sound found did =
            subscriber-updates Good Fine AnyOptions choices (IsTaken Good (old.made.samples + 1) sample values) buffer subscriber
            (λ failure. refusal.Receive (receive_error.ConnectionFailure failure)) (Receives subscriber (old.made.samples + 1)) one service
            (reply.Received sample values) after (sound, subscriber-fits Good Fine AnyOptions subscriber one service sound found)
            (λ next mid well took. receives-good Good Fine subscriber (old.made.samples + 1) next mid sample values after well.0 took)
            (λ why mid on refused. never-told (reply.Received sample values) (reply.Refused why) refused.0 refl refl) did

    -- ---- what is read

    pub made-so : (asked : Command T) (old : State T) (answer : Reply T) (new : State T) → Steps asked old answer new
        → AreSound AnyMessage AnySample old
        → new.made ≡ counted answer old.made
    made-so asked old answer new h all =
        (step-sound AnyMessage AnySample AnyOptions types choices buffer asked old answer new (λ publisher message b. tt)
        (λ sample values told same. tt) (λ number options came. tt) h all).1

    pub forgotten : (Fine : ℕ → Sample T → Type 0) (state : State T) → AreSound AnyMessage Fine state → AreSound AnyMessage AnySample state
    forgotten Fine state all = all-weaker-sound AnyMessage AnyMessage Fine AnySample (λ publisher message good. tt)
        (λ number sample fine. tt) state all

    pub rises : (asked : Command T) (old : State T) (answer : Reply T) (new : State T) → Steps asked old answer new
        → AreSound AnyMessage AnySample old
        → old.made.samples ≤ new.made.samples
    rises asked old answer new h all =
        subst (λ (made : Made). old.made.samples ≤ made.samples) (sym (made-so asked old answer new h all)) (samples-rise answer old.made)

    -- the samples are numbered up to those that were made
    abbrev pub Numbered : State T → ℕ → Sample T → Type 0
    Numbered state number sample = number ≤ state.made.samples

    pub runs-numbered : (asked : List (Command T)) (old : State T) (answers : List (Reply T)) (new : State T) → Ran asked old answers new
        → AreSound AnyMessage (Numbered old) old → AreSound AnyMessage (Numbered new) new
    runs-numbered [] old answers new run all = subst (λ (state : State T). AreSound AnyMessage (Numbered state) state) (sym run.1) all
    runs-numbered (one ∷ more) old answers new run all =
        let plain : AreSound AnyMessage AnySample old = forgotten (Numbered old) old all in
        let up : old.made.samples ≤ run.1.made.samples = rises one old run.0 run.1 run.3 plain in
        let made : run.1.made ≡ counted run.0 old.made = made-so one old run.0 run.1 run.3 plain in
        let before : AreSound AnyMessage (Numbered run.1) old =
        all-weaker-sound AnyMessage AnyMessage (Numbered old) (Numbered run.1) (λ publisher message good. tt)
        (λ number sample fine. below number old.made.samples run.1.made.samples fine up) old all in
        runs-numbered more run.1 run.2 new run.4
        (step-sound AnyMessage (Numbered run.1) AnyOptions types choices buffer one old run.0 run.1 (λ publisher message b. tt)
        (λ sample values told same. next run.0 run.1 values told made) (λ number options came. tt) run.3 before).0
      where
        below : (number low high : ℕ) → number ≤ low → low ≤ high → number ≤ high
        below number low high h k = omega arith

        next : (answer : Reply T) (mid : State T) (values : Vec T) → answer ≡ reply.Received (old.made.samples + 1) values
            → mid.made ≡ counted answer old.made → old.made.samples + 1 ≤ mid.made.samples
        next answer mid values told made =
            let same : mid.made.samples ≡ old.made.samples + 1 =
            ap (λ (it : Made). it.samples) made ∙ ap (λ (it : Reply T). (counted it old.made).samples) told in
            omega (arith, same)

    -- the sample of a number has these values
    abbrev Reads : ℕ → Vec T → ℕ → Sample T → Type 0
    Reads sample values number one = number ≡ sample → vec_items values ≡ one.message.values

    runs-read : (sample : ℕ) (values : Vec T) (asked : List (Command T)) (old : State T) (answers : List (Reply T)) (new : State T)
        → Ran asked old answers new → sample ≤ old.made.samples → AreSound AnyMessage (Reads sample values) old
        → AreSound AnyMessage (Reads sample values) new
    runs-read sample values [] old answers new run made all = subst (AreSound AnyMessage (Reads sample values)) (sym run.1) all
    runs-read sample values (one ∷ more) old answers new run made all =
        runs-read sample values more run.1 run.2 new run.4
        (under (rises one old run.0 run.1 run.3 (forgotten (Reads sample values) old all)))
        (step-sound AnyMessage (Reads sample values) AnyOptions types choices buffer one old run.0 run.1 (λ publisher message b. tt)
        (λ other found told same is. absurd (past is)) (λ number options came. tt) run.3 all).0
      where
        under : old.made.samples ≤ run.1.made.samples → sample ≤ run.1.made.samples
        under h = omega (arith, made, h)

        past : old.made.samples + 1 ≡ sample → ⊥
        past is = omega (arith, made, is)

-- what is received is numbered next
pub received-number : {T : Type 0} (types : MessageTypeDetails) (choices : Choices T) (buffer : ℕ) (asked : List (Command T))
    (answers : List (Reply T)) (old : State T) → Runs types choices buffer asked new_state answers old
    → (subscriber sample : ℕ) (values : Vec T) (new : State T)
    → Step types choices buffer (command.Receive subscriber) old (reply.Received sample values) new → sample ≡ old.made.samples + 1
received-number types choices buffer asked answers old run subscriber sample values new h =
    (received-good types choices buffer AnyMessage AnySample subscriber old sample values new
    (runs-sized types choices buffer asked new_state answers old run tt) h).4

pub messages-sent : {T : Type 0} (choices : Choices T) → MessagesWereSent choices
messages-sent {T} choices types buffer asked answers new run =
    let Good : ℕ → Message T → Type 0 = Sent types choices buffer asked answers new run in
    all-weaker (Sound Good AnySample AnyOptions) (AllMessages Good)
    (λ (service : Service T) (sound : Sound Good AnySample AnyOptions service). (
      (λ publisher subscriber box e.
          let fits : BoxFits Good AnySample AnyOptions publisher service.settings box = sound.0 publisher subscriber box e in
          (fits.3, fits.4)),
      all-weaker (λ (entry : ℕ × Publisher T). PublisherFits Good AnySample AnyOptions service.settings entry.0 entry.1)
          (λ (entry : ℕ × Publisher T). AllByRecursion (Good entry.0) entry.1.history) (λ entry fits. fits.1) service.publishers sound.1,
      all-weaker (λ (entry : ℕ × Sample T). SampleFits Good AnySample AnyOptions entry.0 entry.1)
          (λ (entry : ℕ × Sample T). Good entry.1.publisher entry.1.message) (λ entry fits. fits.1) service.samples sound.3,
    ))
    new.services (sent-sound types choices buffer asked answers new run)

pub samples-read : {T : Type 0} (choices : Choices T) → SamplesReadTheSame choices
samples-read {T} choices types buffer asked answers old run subscriber sample values mid received meanwhile told later ran read new h =
    let numbered : AreSound AnyMessage (Numbered types choices buffer old) old =
    runs-numbered types choices buffer asked new_state answers old run tt in
    let plain : AreSound AnyMessage AnySample old = forgotten types choices buffer (Numbered types choices buffer old) old numbered in
    let taken : IsTaken types choices buffer AnyMessage (old.made.samples + 1) sample values =
    received-good types choices buffer AnyMessage AnySample subscriber old sample values mid plain received in
    let before : AreSound AnyMessage (Reads types choices buffer sample values) old =
    all-weaker-sound AnyMessage AnyMessage (Numbered types choices buffer old) (Reads types choices buffer sample values)
    (λ publisher message good. tt) (λ number one fine is. absurd (above number fine is taken.4)) old numbered in
    let after : AreSound AnyMessage (Reads types choices buffer sample values) mid =
    (step-sound AnyMessage (Reads types choices buffer sample values) AnyOptions types choices buffer (command.Receive subscriber) old
    (reply.Received sample values) mid (λ publisher message b. tt)
    (λ one found said same is. ap (λ (answer : Reply T). vec_items (values_in answer values)) said ∙ same)
    (λ number options came. tt) received before).0 in
    let made : mid.made.samples ≡ old.made.samples + 1 =
    ap (λ (it : Made). it.samples)
    (made-so types choices buffer (command.Receive subscriber) old (reply.Received sample values) mid received plain) in
    let end : AreSound AnyMessage (Reads types choices buffer sample values) later =
    runs-read types choices buffer sample values meanwhile mid told later ran (within mid.made.samples made taken.4) after in
    elim (at-one (λ (service : Service T). at sample service.samples)
    (λ (one : Sample T) (service : Service T) (answered : Reply T) (then_so : Service T). (found : Vec T) ×
    (vec_items found ≡ one.message.values)
    × (answered ≡ reply.Values found) × (then_so ≡ service)) later (reply.Values read) new h) [
      | inl w ↦ never-told (reply.Values read) reply.Skipped w.0 refl refl
      | inr w ↦ ap (λ (answer : Reply T). vec_items (values_in answer read)) w.5.2 ∙ (w.5.1
          ∙ sym ((all-at (SampleFits AnyMessage (Reads types choices buffer sample values) AnyOptions) sample w.1 w.0.samples w.4
          (all-found (Sound AnyMessage (Reads types choices buffer sample values) AnyOptions)
          (λ (other : Service T). is_some (at sample other.samples))
          later.services w.0 w.3 end).3).0 refl))
    ]
  where
    above : (number : ℕ) → number ≤ old.made.samples → number ≡ sample → sample ≡ old.made.samples + 1 → ⊥
    above number fine is next = omega arith

    within : (count : ℕ) → count ≡ old.made.samples + 1 → sample ≡ old.made.samples + 1 → sample ≤ count
    within count made next = omega arith
