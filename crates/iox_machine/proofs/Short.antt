-- In every run each message has fewer than 2^32 values: it was loaned, and a loan fits the segment of its publisher.
use Rattle.std.proofs.Common.{◌≡◌, ◌≤◌, ◌<◌, ◌+◌, ◌^◌, ℕ, true, false, List, [], ◌∷◌, ◌++◌, length, not, Option, None, Some, refl}
use Rattle.std.proofs.Common.{sym, ap, subst, inl, inr, arith, ◌∙◌}
use Rattle.std.proofs.lemmas.Bool.{ltb-false}
use Rattle.std.specs.List.{AllByRecursion}
use Rattle.std.specs.Prelude.{◌==◌, nat_lt, filter_map, is_some, MatchBool, MatchOption}
use Rattle.iox_machine.proofs.Cases.{by-bool, by-option, never-some}
use Rattle.iox_machine.proofs.Frames.{publisher-stands}
use Rattle.iox_machine.proofs.Lists.{all-at, all-changed, all-filtered, all-joined, all-weaker}
use Rattle.iox_machine.proofs.MoveForms.{IsNumbered, Loud, Loudly, Quiets, Walk}
use Rattle.iox_machine.proofs.MoveForms as move
use Rattle.iox_machine.proofs.MoveLaws.{Lasts, becomes-keeps, by-quiets}
use Rattle.iox_machine.proofs.MoveSteps.{step-moves}
use Rattle.iox_machine.proofs.Moves.{IsTold, Walks}
use Rattle.iox_machine.proofs.Moving.{at-one}
use Rattle.iox_machine.proofs.Runs.{AnyOptions, AnySample, all-found}
use Rattle.iox_machine.proofs.Shorthands.{IsSkipped, LendsLonger, with_publisher}
use Rattle.iox_machine.proofs.Sound.{BoxFits, PublisherFits, SampleFits, Sound}
use Rattle.iox_machine.proofs.Steps.{step-sound}
use Rattle.iox_machine.specs.Choices.{Choices}
use Rattle.iox_machine.specs.Lending.{IsRoomFor, Lends, loan_refusal}
use Rattle.iox_machine.specs.Message.{Loan, Message, Sample}
use Rattle.iox_machine.specs.Ports.{Puts, publisher_in}
use Rattle.iox_machine.specs.Run.{Runs, Step}
use Rattle.iox_machine.specs.RunLaws.{AllMessages, BeginsToSend, MessagesAreShort, has_begun}
use Rattle.iox_machine.specs.Service.{Publisher, Service}
use Rattle.iox_machine.specs.State.{Factory, State, new_state}
use Rattle.iox_machine.specs.Table.{at}
use Rattle.iox_command.specs.DomainValues.declared.data_segment.AllocationStrategy.{AllocationStrategy}
use Rattle.iox_command.specs.DomainValues.declared.data_segment.AllocationStrategy.TheVariants.{BestFit, PowerOfTwo, Static}
use Rattle.iox_command.specs.DomainValues.declared.port_error.SendError.TheVariants as error
use Rattle.iox_command.specs.NegotiateBase.DescribeBase.declared.message_type.MessageTypeDetails.{MessageTypeDetails}
use Rattle.iox_command.specs.declared.command.Command.{Command}
use Rattle.iox_command.specs.declared.command.Command.TheVariants as command
use Rattle.iox_command.specs.declared.refusal.Refusal.TheVariants as refusal
use Rattle.iox_command.specs.declared.reply.Reply.{Reply}
use Rattle.iox_command.specs.declared.reply.Reply.TheVariants as reply

below : (x y z : ℕ) → x ≤ y → y < z → x < z
below x y z h k = omega (arith, h, k)

written-fits : {X : Type 0} (values : List (Option X)) → length (filter_map (λ (value : Option X). value) values) ≤ length values
written-fits [] = omega arith
written-fits (None ∷ values) = omega (arith, written-fits values)
written-fits (Some value ∷ values) = omega (arith, written-fits values)

-- a new segment has room for the loan
fits-new : (allocation : AllocationStrategy) (count room : ℕ) → IsRoomFor allocation count room → count ≤ room
fits-new BestFit count room is = omega (arith, is)
fits-new PowerOfTwo count room is = is.1
fits-new Static count room is = absurd is

module _ {T : Type 0} where
  -- a loan is shorter than the room of its publisher, and that stays below 2^32
  lent-short : (number count : ℕ) (one : Publisher T) (service : Service T) (after : Publisher T)
      → Lends number count one service None after → one.room < 2 ^ 32 → (count < 2 ^ 32) × (after.room < 2 ^ 32)
  lent-short number count one service after h room =
      elim (by-option (loan_refusal number count one service)
      (MatchBool (nat_lt one.room count) (LendsLonger number count one None after)
      ((None ≡ None) × (after ≡ record one { next = one.next + 1 })))
      (λ why. (None ≡ Some why) × (after ≡ one)) h) [
        | inl w ↦ elim (by-bool (nat_lt one.room count) (LendsLonger number count one None after)
            ((None ≡ None) × (after ≡ record one { next = one.next + 1 })) w.1) [
              | inl k ↦ longer k.1
              | inr k ↦ (
                below count one.room (2 ^ 32) (ltb-false one.room count k.0) room,
                subst (λ (it : Publisher T). it.room < 2 ^ 32) (sym k.1.1) room,
              )
            ]
        | inr w ↦ never-some w.0 w.2.0
      ]
    where
      longer : LendsLonger number count one None after → (count < 2 ^ 32) × (after.room < 2 ^ 32)
      longer (inl (told, same)) = never-some _ told
      longer (inr (next, (fits, few), segments, told, same)) = (
        below count next (2 ^ 32) (fits-new one.allocation count next fits) few,
        subst (λ (it : Publisher T). it.room < 2 ^ 32) (sym same) few,
      )

  -- ---- rooms and loans

  -- each publisher has room for fewer than 2^32 values, and each loan has fewer
  abbrev HasRoom : ℕ → Publisher T → Type 0
  HasRoom number one = one.room < 2 ^ 32

  abbrev IsShortLoan : ℕ → Loan T → Type 0
  IsShortLoan number one = length one.values < 2 ^ 32

  abbrev IsRoomy : Service T → Type 0
  IsRoomy service =
      AllByRecursion (λ (entry : ℕ × Publisher T). HasRoom entry.0 entry.1) service.publishers
      × AllByRecursion (λ (entry : ℕ × Loan T). IsShortLoan entry.0 entry.1) service.loans

  room-at : (number : ℕ) (one : Publisher T) (service : Service T) → at number service.publishers ≡ Some one → IsRoomy service
      → one.room < 2 ^ 32
  room-at number one service found roomy = all-at HasRoom number one service.publishers found roomy.0

  room-set : (number : ℕ) (one : Publisher T) (service : Service T) → one.room < 2 ^ 32 → IsRoomy service
      → IsRoomy (with_publisher number one service)
  room-set number one service room roomy = (all-changed HasRoom number one service.publishers room roomy.0, roomy.1)

  roomy-lasts : Lasts (λ (old new : Service T). IsRoomy old → IsRoomy new)
  roomy-lasts = record {
    none = λ service roomy. roomy;
    both = λ one two three h k roomy. k (h roomy);
    boxed = λ boxes service roomy. roomy;
    alike = λ number was after service found is roomy. room-set number after service
        (subst (λ (it : Publisher T). it.room < 2 ^ 32) (sym is) (room-at number was service found roomy)) roomy;
    turned = λ number was after service found is roomy. roomy;
  }

  numbered-room : (number : ℕ) (was after : Publisher T) (service : Service T) → at number service.publishers ≡ Some was
      → IsNumbered was after → IsRoomy service → after.room < 2 ^ 32
  numbered-room number was after service found (room, segments, first, inl same, is) roomy =
      subst (λ (it : Publisher T). it.room < 2 ^ 32) (sym is)
      (subst (λ (n : ℕ). n < 2 ^ 32) (sym same.0) (room-at number was service found roomy))
  numbered-room number was after service found (room, segments, first, inr more, is) roomy =
      subst (λ (it : Publisher T). it.room < 2 ^ 32) (sym is) more.1

  module _ (asked : Command T) (state : State T) (answer : Reply T) where
    roomy-loud : (factories : List (ℕ × Factory)) (one : Loud T) (old new : Service T) → IsTold asked state answer one
        → Loudly factories one old new → IsRoomy old → IsRoomy new
    roomy-loud factories (move.Lends number was after loan one) old new told
        (found, up, (taken, (count, lent, whole)), by, next, came) roomy =
        let short : (count < 2 ^ 32) × (after.room < 2 ^ 32) =
        lent-short number count was old after lent (room-at number was old found roomy) in
        let on : IsRoomy (with_publisher number after old) = room-set number after old short.1 roomy in
        subst IsRoomy (sym came) (
          on.0,
          all-joined (λ (entry : ℕ × Loan T). IsShortLoan entry.0 entry.1) old.loans ((loan, one) ∷ []) roomy.1
              (subst (λ (n : ℕ). n < 2 ^ 32) (sym whole) short.0, tt),
        )
    roomy-loud factories (move.Numbers number was after) old new told (found, taken, came) roomy =
        subst IsRoomy (sym came) (room-set number after old (numbered-room number was after old found taken roomy) roomy)
    roomy-loud factories (move.Writes loan one values) old new told (found, came) roomy =
        subst IsRoomy (sym came) (
          roomy.0,
          all-changed IsShortLoan loan (record one { values = values }) old.loans
              (subst (λ (n : ℕ). n < 2 ^ 32) (sym told) (all-at IsShortLoan loan one old.loans found roomy.1)) roomy.1,
        )
    roomy-loud factories (move.Spends loan one) old new told (found, came) roomy =
        subst IsRoomy (sym came) (
          roomy.0,
          all-filtered (λ (entry : ℕ × Loan T). IsShortLoan entry.0 entry.1) (λ (entry : ℕ × Loan T). not (entry.0 == loan)) old.loans
              roomy.1,
        )
    roomy-loud factories (move.Begins number one message) old new told (found, free, came) roomy =
        subst IsRoomy (sym came) (room-set number _ old (room-at number one old found roomy) roomy)
    roomy-loud factories (move.Takes number sample) old new told (holder, first, came) roomy = subst IsRoomy (sym came) roomy
    roomy-loud factories (move.Releases number sample) old new told (found, came) roomy = subst IsRoomy (sym came) roomy
    roomy-loud factories (move.Publishes place number options one after) old new told
        (open_one, ((made, short), free, mid, does, listed), is, came) roomy =
        let more : Service T = record old { publishers = old.publishers ++ (number, one) ∷ [] } in
        let on : IsRoomy more = (
          all-joined (λ (entry : ℕ × Publisher T). HasRoom entry.0 entry.1) old.publishers ((number, one) ∷ []) roomy.0 (short, tt),
          roomy.1,
        ) in
        subst IsRoomy (sym came)
        (room-set number after more (subst (λ (it : Publisher T). it.room < 2 ^ 32) (sym is) short) on)
    roomy-loud factories (move.Subscribes buffer place number options one after) old new told (open_one, follows, is, came) roomy =
        subst IsRoomy (sym came) roomy
    roomy-loud factories (move.Unpublishes number one) old new told (found, came) roomy =
        subst IsRoomy (sym came) (room-set number (record one { stands = false }) old (room-at number one old found roomy) roomy)
    roomy-loud factories (move.Unsubscribes number one) old new told (found, came) roomy = subst IsRoomy (sym came) roomy

    roomy-quiets : (old new : Service T) → Quiets old new → IsRoomy old → IsRoomy new
    roomy-quiets old new h = by-quiets (λ (one other : Service T). IsRoomy one → IsRoomy other) roomy-lasts old new h

    roomy-walk : (factories : List (ℕ × Factory)) (loud : List (Loud T)) (old new : Service T)
        → AllByRecursion (IsTold asked state answer) loud → Walk factories loud old new → IsRoomy old → IsRoomy new
    roomy-walk factories [] old new told h roomy = roomy-quiets old new h roomy
    roomy-walk factories (one ∷ more) old new told h roomy =
        roomy-walk factories more h.1 new told.1 h.4
        (roomy-loud factories one h.0 h.1 told.0 h.3 (roomy-quiets old h.0 h.2 roomy))

  -- ---- the message of which a send begins

  abbrev pub IsShort : ℕ → Message T → Type 0
  IsShort publisher message = length message.values < 2 ^ 32

  module _ (types : MessageTypeDetails) (choices : Choices T) (buffer : ℕ) where
    put-short : (number : ℕ) (values : List T) (old : State T) (answer : Reply T) (new : State T) → has_begun answer ≡ true
        → Step types choices buffer (command.Put number values) old answer new → AllByRecursion IsRoomy old.services
        → length values < 2 ^ 32
    put-short number values old answer new begun h all =
        elim (at-one (publisher_in number)
        (λ (publisher : Publisher T) (service : Service T) (told : Reply T) (after : Service T). MatchOption publisher.blocked
        (Puts choices number values publisher service told after) (λ send. IsSkipped service told after)) old answer new h) [
          | inl w ↦ absurd (silent reply.Skipped refl w.0)
          | inr w ↦ elim (by-option w.1.blocked (Puts choices number values w.1 w.0 answer w.2)
              (λ send. IsSkipped w.0 answer w.2) w.5) [
                | inl k ↦ put_so w.0 w.1 w.2 (publisher-stands number w.0 w.1 w.4)
                    (all-found IsRoomy (λ (other : Service T). is_some (publisher_in number other)) old.services w.0 w.3 all) k.1
                | inr k ↦ absurd (silent reply.Skipped refl k.2.0)
              ]
        ]
      where
        differ : false ≡ true → ⊥
        differ e = cc

        silent : (it : Reply T) → has_begun it ≡ false → answer ≡ it → ⊥
        silent it none same = differ (sym none ∙ (sym (ap has_begun same) ∙ begun))

        put_so : (service : Service T) (one : Publisher T) (after : Service T) → at number service.publishers ≡ Some one
            → IsRoomy service → Puts choices number values one service answer after → length values < 2 ^ 32
        put_so service one after found roomy (Some why, then, lent, refused) =
            absurd (silent (reply.Refused (refusal.Send (error.LoanError why))) refl refused.0)
        put_so service one after found roomy (None, then, lent, sent) =
            (lent-short number (length values) one service then lent (room-at number one service found roomy)).0

    begun-short : (asked : Command T) (old : State T) (answer : Reply T) (new : State T) → Step types choices buffer asked old answer new
        → AllByRecursion IsRoomy old.services
        → (publisher : ℕ) (message : Message T) → BeginsToSend publisher message.values asked old answer → IsShort publisher message
    begun-short (command.Put number given) old answer new h all publisher message (is, same, begun) =
        subst (λ (values : List T). length values < 2 ^ 32) same (put-short number given old answer new begun h all)
    begun-short (command.Send loan) old answer new h all publisher message (service, one, first, found, by, whole, same, begun) =
        subst (λ (values : List T). length values < 2 ^ 32) same
        (below _ (length one.values) (2 ^ 32) (written-fits one.values)
        (all-at IsShortLoan loan one service.loans found
        (all-found IsRoomy (λ (other : Service T). is_some (at loan other.loans)) old.services service first all).1))
    begun-short command.Node old answer new h all publisher message never = absurd never
    begun-short (command.Create node name options attributes steps) old answer new h all publisher message never = absurd never
    begun-short (command.Open node name options required steps) old answer new h all publisher message never = absurd never
    begun-short (command.OpenOrCreate node name options required steps) old answer new h all publisher message never = absurd never
    begun-short (command.Foreign pattern name steps) old answer new h all publisher message never = absurd never
    begun-short (command.Close factory) old answer new h all publisher message never = absurd never
    begun-short (command.Publisher factory options) old answer new h all publisher message never = absurd never
    begun-short (command.Subscriber factory options) old answer new h all publisher message never = absurd never
    begun-short (command.Loan number count) old answer new h all publisher message never = absurd never
    begun-short (command.LoanUninit number count) old answer new h all publisher message never = absurd never
    begun-short (command.Set loan place value) old answer new h all publisher message never = absurd never
    begun-short (command.Fill loan values) old answer new h all publisher message never = absurd never
    begun-short (command.Drop loan) old answer new h all publisher message never = absurd never
    begun-short (command.Retry number nanoseconds) old answer new h all publisher message never = absurd never
    begun-short (command.GiveUp number) old answer new h all publisher message never = absurd never
    begun-short (command.Receive subscriber) old answer new h all publisher message never = absurd never
    begun-short (command.Read sample) old answer new h all publisher message never = absurd never
    begun-short (command.Sequence sample) old answer new h all publisher message never = absurd never
    begun-short (command.Release sample) old answer new h all publisher message never = absurd never
    begun-short (command.Update port) old answer new h all publisher message never = absurd never
    begun-short (command.Leave port) old answer new h all publisher message never = absurd never
    begun-short (command.Has subscriber) old answer new h all publisher message never = absurd never

    -- ---- runs

    abbrev AreShort : State T → Type 0
    AreShort state = AllByRecursion IsRoomy state.services × AllByRecursion (Sound IsShort AnySample AnyOptions) state.services

    step-short : (asked : Command T) (old : State T) (answer : Reply T) (new : State T) → Step types choices buffer asked old answer new
        → AreShort old → AreShort new
    step-short asked old answer new h (roomy, sound) = (
      (becomes-keeps (Walks asked old answer) IsRoomy (λ name c. (tt, tt)) asked old answer new
          (λ has service after first walks on.
          roomy-walk asked old answer old.factories walks.0 service after walks.1.5 walks.2 on)
          (step-moves types choices buffer asked old answer new h) roomy).0,
      (step-sound IsShort AnySample AnyOptions types choices buffer asked old answer new (begun-short asked old answer new h roomy)
          (λ sample values told same. tt) (λ number options came. tt) h sound).0,
    )

    runs-short : (asked : List (Command T)) (old : State T) (answers : List (Reply T)) (new : State T)
        → Runs types choices buffer asked old answers new → AreShort old → AreShort new
    runs-short [] old answers new run short = subst AreShort (sym run.1) short
    runs-short (one ∷ more) old answers new run short =
        runs-short more run.1 run.2 new run.4 (step-short one old run.0 run.1 run.3 short)

pub messages-short : {T : Type 0} (choices : Choices T) → MessagesAreShort choices
messages-short {T} choices types buffer asked answers new run =
    all-weaker (Sound IsShort AnySample AnyOptions) (AllMessages IsShort)
    (λ (service : Service T) (sound : Sound IsShort AnySample AnyOptions service). (
      (λ publisher subscriber box e.
          let fits : BoxFits IsShort AnySample AnyOptions publisher service.settings box = sound.0 publisher subscriber box e in
          (fits.3, fits.4)),
      all-weaker (λ (entry : ℕ × Publisher T). PublisherFits IsShort AnySample AnyOptions service.settings entry.0 entry.1)
          (λ (entry : ℕ × Publisher T). AllByRecursion (IsShort entry.0) entry.1.history) (λ entry fits. fits.1) service.publishers sound.1,
      all-weaker (λ (entry : ℕ × Sample T). SampleFits IsShort AnySample AnyOptions entry.0 entry.1)
          (λ (entry : ℕ × Sample T). IsShort entry.1.publisher entry.1.message) (λ entry fits. fits.1) service.samples sound.3,
    ))
    new.services (runs-short types choices buffer asked new_state answers new run (tt, tt)).1
