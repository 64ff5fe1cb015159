-- What a look for data and a receive tell.
use Rattle.std.proofs.Common.{◌≡◌, ◌≤◌, ◌<◌, ◌⊎◌, ◌+◌, ℕ, Bool, true, false, cond, ◌&&◌, ◌||◌, List, [], ◌∷◌, ◌++◌, length, Option, None}
use Rattle.std.proofs.Common.{Some, refl, sym, ap, subst, inl, inr, arith, ◌∙◌, true≢false}
use Rattle.std.proofs.lemmas.Bool.{ltb-false, ltb-true, or_parts}
use Rattle.std.specs.Global.{Vec}
use Rattle.std.specs.List.{AllByRecursion, list_any}
use Rattle.std.specs.Prelude.{find, is_some, nat_lt}
use Rattle.std.specs.Vec.{vec_items}
use Rattle.iox_machine.proofs.Attending.{Attends, attended-state, attends-first}
use Rattle.iox_machine.proofs.Cases.{both-true, never-some, same-some}
use Rattle.iox_machine.proofs.Lists.{all-joined, first-there}
use Rattle.iox_machine.proofs.Moving.{at-one}
use Rattle.iox_machine.proofs.Sound.{find-passes}
use Rattle.iox_machine.proofs.Updated.{find-replaced}
use Rattle.iox_machine.specs.AgreementLaws.{HasOne}
use Rattle.iox_machine.specs.Choices.{Choices}
use Rattle.iox_machine.specs.Message.{Sample}
use Rattle.iox_machine.specs.OnceLaws.{is_skipped}
use Rattle.iox_machine.specs.PortList.{those}
use Rattle.iox_machine.specs.Ports.{subscriber_in}
use Rattle.iox_machine.specs.Receiving.{IsGiver, Receives, gives, has_samples}
use Rattle.iox_machine.specs.Run.{MayGiveValues, Step}
use Rattle.iox_machine.specs.Service.{Service, Subscriber, mailbox}
use Rattle.iox_machine.specs.State.{State, counted, replaced}
use Rattle.iox_machine.specs.SubscriberUpdate as subscribing
use Rattle.iox_machine.specs.Table.{at, contains}
use Rattle.iox_machine.specs.WaitingLaws.{GivesNothing, HasData, HasItsTurn, HasNoData, HasTellsWhatWaits, IsAttended, ReceiveAnswers}
use Rattle.iox_machine.specs.WaitingLaws.{HasValues, ReceivesWhatMayBeBorrowed, StopsHaveValues, heard_of}
use Rattle.iox_command.specs.DomainValues.declared.port_error.ReceiveError.TheVariants as error
use Rattle.iox_command.specs.NegotiateBase.DescribeBase.declared.message_type.MessageTypeDetails.{MessageTypeDetails}
use Rattle.iox_command.specs.declared.command.Command.{Command}
use Rattle.iox_command.specs.declared.command.Command.TheVariants as command
use Rattle.iox_command.specs.declared.port.PortNumber.TheVariants as port
use Rattle.iox_command.specs.declared.refusal.Refusal.TheVariants as refusal
use Rattle.iox_command.specs.declared.reply.Reply.{Reply}
use Rattle.iox_command.specs.declared.reply.Reply.TheVariants as reply

-- ---- lists

pub any-one : {X : Type 0} (P : X → Type 0) (test : X → Bool) → ((x : X) → test x ≡ true → P x) → (xs : List X) → list_any test xs ≡ true
    → HasOne P xs
any-one P test on [] e = absurd (true≢false (sym e))
any-one P test on (x ∷ xs) e = here (test x) refl e (any-one P test on xs)
  where
    here : (b : Bool) → test x ≡ b → (b || list_any test xs) ≡ true → (list_any test xs ≡ true → HasOne P xs) → P x ⊎ HasOne P xs
    here true is e rest = inl (on x is)
    here false is e rest = inr (rest e)

pub none-one : {X : Type 0} (P : X → Type 0) (test : X → Bool) → ((x : X) → test x ≡ false → P x) → (xs : List X)
    → list_any test xs ≡ false → AllByRecursion P xs
none-one P test on [] e = tt
none-one P test on (x ∷ xs) e =
    (on x (or_parts (test x) (list_any test xs) e).0, none-one P test on xs (or_parts (test x) (list_any test xs) e).1)

-- where nothing is found, nothing passes; and what is found stands after others that don't pass
found-none : {X : Type 0} (P : X → Type 0) (test : X → Bool) → ((x : X) → test x ≡ false → P x) → (xs : List X) → find test xs ≡ None
    → AllByRecursion P xs
found-none P test on [] e = tt
found-none P test on (x ∷ xs) e = here (test x) refl e (found-none P test on xs)
  where
    here : (b : Bool) → test x ≡ b → cond b (Some x) (find test xs) ≡ None → (find test xs ≡ None → AllByRecursion P xs)
        → AllByRecursion P (x ∷ xs)
    here true is e rest = never-some x (sym e)
    here false is e rest = (on x is, rest e)

found-behind : {X : Type 0} (P : X → Type 0) (test : X → Bool) → ((x : X) → test x ≡ false → P x) → (xs : List X) (it : X)
    → find test xs ≡ Some it → (before : List X) × (behind : List X) × (xs ≡ before ++ it ∷ behind) × AllByRecursion P before
found-behind P test on [] it e = never-some it e
found-behind {X} P test on (x ∷ xs) it e = here (test x) refl e (found-behind P test on xs it)
  where
    here : (b : Bool) → test x ≡ b → cond b (Some x) (find test xs) ≡ Some it
        → (find test xs ≡ Some it → (before : List X) × (behind : List X) × (xs ≡ before ++ it ∷ behind) × AllByRecursion P before)
        → (before : List X) × (behind : List X) × (x ∷ xs ≡ before ++ it ∷ behind) × AllByRecursion P before
    here true is e rest = ([], xs, ap (λ (y : X). y ∷ xs) (same-some x it e), tt)
    here false is e rest =
        let more = rest e in (x ∷ more.0, more.1, ap (λ (l : List X). x ∷ l) more.2, (on x is, more.3))

-- ---- a connection

pub nothing-there : {X : Type 0} (xs : List X) → nat_lt 0 (length xs) ≡ false → xs ≡ []
nothing-there [] e = refl
nothing-there (x ∷ xs) e = absurd (differ (ltb-false 0 (length (x ∷ xs)) e))
  where
    differ : length (x ∷ xs) ≤ 0 → ⊥
    differ h = omega (arith, h)

module _ {T : Type 0} (number : ℕ) (service : Service T) where
  abbrev waits_at : ℕ → Bool
  waits_at publisher = nat_lt 0 (length (mailbox publisher number service).waiting)

  gives-nothing : (publisher : ℕ) → gives number service publisher ≡ false → GivesNothing number service publisher
  gives-nothing publisher e =
      here (waits_at publisher)
      (nat_lt (length (mailbox publisher number service).borrowed) service.settings.subscriber_max_borrowed_samples) refl refl e
    where
      here : (b c : Bool) → waits_at publisher ≡ b
          → nat_lt (length (mailbox publisher number service).borrowed) service.settings.subscriber_max_borrowed_samples ≡ c
          → (b && c) ≡ false → GivesNothing number service publisher
      here true true is fits e = absurd (true≢false e)
      here true false is fits e =
          inr (ltb-false (length (mailbox publisher number service).borrowed) service.settings.subscriber_max_borrowed_samples fits)
      here false c is fits e = inl (nothing-there (mailbox publisher number service).waiting is)

  tells-waiting : (one : Subscriber) → has_samples number one service ≡ true → HasOne (HasData number service) (heard_of one)
  tells-waiting one is =
      any-one (HasData number service) waits_at (λ publisher h. first-there (mailbox publisher number service).waiting h) (heard_of one) is

  tells-none : (one : Subscriber) → has_samples number one service ≡ false → AllByRecursion (HasNoData number service) (heard_of one)
  tells-none one is =
      none-one (HasNoData number service) waits_at (λ publisher h. nothing-there (mailbox publisher number service).waiting h)
      (heard_of one) is

  -- ---- who gives

  given-up : (first : Option ℕ) (one : Subscriber) → find (gives number service) one.expired ≡ first
      → IsGiver number first one service None → AllByRecursion (GivesNothing number service) (heard_of one)
  given-up None one is none =
      all-joined (GivesNothing number service) (those one.connected) one.expired
      (none-one (GivesNothing number service) (gives number service) gives-nothing (those one.connected) none)
      (found-none (GivesNothing number service) (gives number service) gives-nothing one.expired is)
  given-up (Some publisher) one is none = never-some publisher none

  its-turn : (first : Option ℕ) (one : Subscriber) (publisher : ℕ) → find (gives number service) one.expired ≡ first
      → IsGiver number first one service (Some publisher)
      → HasItsTurn number service one publisher × (gives number service publisher ≡ true)
  its-turn None one publisher is giver =
      let both = both-true (contains (those one.connected) publisher) (gives number service publisher) giver in (
        inr (found-none (GivesNothing number service) (gives number service) gives-nothing one.expired is, both.0),
        both.1,
      )
  its-turn (Some other) one publisher is giver =
      let found : find (gives number service) one.expired ≡ Some publisher = is ∙ sym giver in (
        inl (found-behind (GivesNothing number service) (gives number service) gives-nothing one.expired publisher found),
        find-passes (gives number service) one.expired publisher found,
      )

  receive-answers : (sample : ℕ) (one : Subscriber) (answer : Reply T) (new : Service T)
      → Receives number sample one service answer new → ReceiveAnswers number service one answer
  receive-answers sample one answer new (None, giver, (told, came)) = here (has_samples number one service) refl told
    where
      here : (b : Bool) → has_samples number one service ≡ b
          → answer ≡ cond b (reply.Refused (refusal.Receive error.ExceedsMaxBorrows)) reply.NothingWaits
          → ReceiveAnswers number service one answer
      here true is told =
          inr (inl (told, tells-waiting one is, given-up (find (gives number service) one.expired) one refl giver))
      here false is told = inl (told, tells-none one is)
  receive-answers sample one answer new (Some publisher, giver, (message, values, first, same, told, came)) =
      let turn = its-turn (find (gives number service) one.expired) one publisher refl giver in
      inr (inr (
        publisher,
        message,
        sample,
        values,
        turn.0,
        first,
        ltb-true (length (mailbox publisher number service).borrowed) service.settings.subscriber_max_borrowed_samples
            (both-true (waits_at publisher)
            (nat_lt (length (mailbox publisher number service).borrowed) service.settings.subscriber_max_borrowed_samples) turn.1).1,
        same,
        told,
      ))

-- ---- the commands

module _ {T : Type 0} where
  -- whether a reply tells that something waits
  abbrev waits_told : Reply T → Bool
  waits_told (reply.Has waits) = waits
  waits_told other = false

  abbrev is_has : Reply T → Bool
  is_has (reply.Has waits) = true
  is_has other = false

  never-has : {A : Type 0} (waits : Bool) (other : Reply T) → reply.Has waits ≡ other → is_has other ≡ false → A
  never-has waits other same silent = absurd (true≢false (ap is_has same ∙ silent))

  pub attended-here : (types : MessageTypeDetails) (choices : Choices T) (buffer number : ℕ) (old : State T) (service : Service T)
      (one next : Subscriber) (mid : Service T)
      → find (λ (other : Service T). is_some (subscriber_in number other)) old.services ≡ Some service
      → subscriber_in number service ≡ Some one → Attends choices buffer number one service reply.Done mid
      → subscriber_in number mid ≡ Some next
      → IsAttended types choices buffer number old
      (record old { services = replaced (λ (other : Service T). is_some (subscriber_in number other)) mid old.services }) mid next
  attended-here types choices buffer number old service one next mid first there attends known = (
    attended-state choices buffer number types old reply.Done service one mid first there attends,
    find-replaced (λ (other : Service T). is_some (subscriber_in number other)) service mid old.services first (ap is_some known),
    known,
  )

pub has-tells-what-waits : {T : Type 0} (choices : Choices T) → HasTellsWhatWaits choices
has-tells-what-waits {T} choices types buffer number old waits new h =
    elim (at-one (subscriber_in number) (subscribing.UpdatesFirst choices buffer number refusal.Connection
    (λ (it : Subscriber) (mid : Service T) (answered : Reply T) (end : Service T).
    (answered ≡ reply.Has (has_samples number it mid)) × (end ≡ mid))) old (reply.Has waits) new h) [
      | inl w ↦ never-has waits reply.Skipped w.0 refl
      | inr w ↦ elim (attends-first choices buffer number refusal.Connection
          (λ (it : Subscriber) (mid : Service T) (answered : Reply T) (end : Service T).
          (answered ≡ reply.Has (has_samples number it mid)) × (end ≡ mid)) w.1 w.0 (reply.Has waits) w.2 w.4 w.5) [
            | inl r ↦ never-has waits (reply.Refused (refusal.Connection r.0)) r.1 refl
            | inr r ↦ (
              r.1,
              r.0,
              subst (λ (state : State T). IsAttended types choices buffer number old state r.1 r.0)
                  (sym (w.6 ∙ ap (λ (it : Service T). record old {
                    services = replaced (λ (other : Service T). is_some (subscriber_in number other)) it old.services;
                  }) r.4.1))
                  (attended-here types choices buffer number old w.0 w.1 r.0 r.1 w.3 w.4 r.3 r.2),
              (λ is. tells-waiting number r.1 r.0 (sym (ap waits_told r.4.0) ∙ is)),
              (λ is. tells-none number r.1 r.0 (sym (ap waits_told r.4.0) ∙ is)),
            )
          ]
    ]

pub receives-what-may-be-borrowed : {T : Type 0} (choices : Choices T) → ReceivesWhatMayBeBorrowed choices
receives-what-may-be-borrowed {T} choices types buffer number old answer new h unskipped =
    elim (at-one (subscriber_in number) (subscribing.UpdatesFirst choices buffer number
    (λ failure. refusal.Receive (error.ConnectionFailure failure)) (Receives number (old.made.samples + 1))) old answer new h) [
      | inl w ↦ absurd (true≢false (sym (ap is_skipped w.0) ∙ unskipped))
      | inr w ↦ elim (attends-first choices buffer number (λ failure. refusal.Receive (error.ConnectionFailure failure))
          (Receives number (old.made.samples + 1)) w.1 w.0 answer w.2 w.4 w.5) [
            | inl r ↦ inl (
              r.0,
              r.1,
              subst (λ (state : State T). Step types choices buffer (command.Update (port.Subscriber number)) old
                  (reply.Refused (refusal.Connection r.0)) state)
                  (sym (w.6 ∙ ap (λ (told : Reply T). record old {
                    made = counted told old.made;
                    services = replaced (λ (other : Service T). is_some (subscriber_in number other)) w.2 old.services;
                  }) r.1))
                  (attended-state choices buffer number types old (reply.Refused (refusal.Connection r.0)) w.0 w.1 w.2 w.3 w.4 r.2),
            )
            | inr r ↦ inr (
              record old { services = replaced (λ (other : Service T). is_some (subscriber_in number other)) r.1 old.services },
              r.1,
              r.0,
              attended-here types choices buffer number old w.0 w.1 r.0 r.1 w.3 w.4 r.3 r.2,
              receive-answers number r.1 (old.made.samples + 1) r.0 answer w.2 r.4,
            )
          ]
    ]

-- ---- where a run may stop

module _ {T : Type 0} where
  -- what a reply tells of a message
  abbrev told_values : Reply T → List T
  told_values (reply.Received sample values) = vec_items values
  told_values (reply.Values values) = vec_items values
  told_values other = []

  abbrev tells_values : Reply T → Bool
  tells_values (reply.Received sample values) = true
  tells_values other = false

  never-other : {A : Type 0} (sample : ℕ) (values : Vec T) (other : Reply T) → reply.Received sample values ≡ other
      → tells_values other ≡ false → A
  never-other sample values other same silent = absurd (true≢false (ap tells_values same ∙ silent))

  has-values : (number : ℕ) (service : Service T) (one : Subscriber) (sample : ℕ) (values : Vec T)
      → ReceiveAnswers number service one (reply.Received sample values) → 0 < length (vec_items values) → HasValues number service one
  has-values number service one sample values (inl (told, none)) long = never-other sample values reply.NothingWaits told refl
  has-values number service one sample values (inr (inl (told, some, nothing))) long =
      never-other sample values (reply.Refused (refusal.Receive error.ExceedsMaxBorrows)) told refl
  has-values number service one sample values (inr (inr (publisher, message, next, found, turn, first, few, same, told))) long = (
    publisher,
    message,
    turn,
    first,
    few,
    subst (λ (items : List T). 0 < length items) (ap told_values told ∙ same) long,
  )

  module _ (types : MessageTypeDetails) (choices : Choices T) (buffer : ℕ) where
    -- what may be given, by the command
    gives-values : (asked : Command T) (old : State T) → MayGiveValues types choices buffer asked old
        → ((number : ℕ) × (asked ≡ command.Receive number) × (mid : State T) × (service : Service T) × (one : Subscriber)
        × IsAttended types choices buffer number old mid service one × HasValues number service one)
        ⊎ ((sample : ℕ) × (asked ≡ command.Read sample) × (service : Service T) × (one : Sample T)
        × (find (λ (other : Service T). is_some (at sample other.samples)) old.services ≡ Some service)
        × (at sample service.samples ≡ Some one) × (0 < length one.message.values))
    gives-values (command.Receive number) old (sample, values, after, did, long) =
        elim (receives-what-may-be-borrowed choices types buffer number old (reply.Received sample values) after did refl) [
          | inl failed ↦ never-other sample values (reply.Refused (refusal.Receive (error.ConnectionFailure failed.0))) failed.1 refl
          | inr r ↦ inl (number, refl, r.0, r.1, r.2, r.3, has-values number r.1 r.2 sample values r.4 long)
        ]
    gives-values (command.Read sample) old (values, did, long) =
        elim (at-one (λ (service : Service T). at sample service.samples)
        (λ (one : Sample T) (service : Service T) (answered : Reply T) (after : Service T). (found : Vec T) ×
        (vec_items found ≡ one.message.values) × (answered ≡ reply.Values found) × (after ≡ service)) old (reply.Values values) old did) [
          | inl w ↦ absurd (none (vec_items values) (ap told_values w.0) long)
          | inr w ↦ inr (
            sample,
            refl,
            w.0,
            w.1,
            w.3,
            w.4,
            subst (λ (items : List T). 0 < length items) (ap told_values w.5.2 ∙ w.5.1) long,
          )
        ]
      where
        none : (items : List T) → items ≡ [] → 0 < length items → ⊥
        none [] same less = omega (arith, less)
        none (item ∷ items) same less = absurd (differ same)
          where
            differ : item ∷ items ≡ [] → ⊥
            differ e = cc
    gives-values command.Node old never = absurd never
    gives-values (command.Create node name options attributes steps) old never = absurd never
    gives-values (command.Open node name options required steps) old never = absurd never
    gives-values (command.OpenOrCreate node name options required steps) old never = absurd never
    gives-values (command.Foreign pattern name steps) old never = absurd never
    gives-values (command.Close factory) old never = absurd never
    gives-values (command.Publisher factory options) old never = absurd never
    gives-values (command.Subscriber factory options) old never = absurd never
    gives-values (command.Loan publisher count) old never = absurd never
    gives-values (command.LoanUninit publisher count) old never = absurd never
    gives-values (command.Set loan place value) old never = absurd never
    gives-values (command.Fill loan values) old never = absurd never
    gives-values (command.Drop loan) old never = absurd never
    gives-values (command.Send loan) old never = absurd never
    gives-values (command.Put publisher values) old never = absurd never
    gives-values (command.Retry publisher nanoseconds) old never = absurd never
    gives-values (command.GiveUp publisher) old never = absurd never
    gives-values (command.Sequence sample) old never = absurd never
    gives-values (command.Release sample) old never = absurd never
    gives-values (command.Update port) old never = absurd never
    gives-values (command.Leave port) old never = absurd never
    gives-values (command.Has subscriber) old never = absurd never

pub stops-have-values : {T : Type 0} (choices : Choices T) → StopsHaveValues choices
stops-have-values choices types buffer asked rest old answers (inl none) some = absurd (some none)
stops-have-values choices types buffer asked rest old answers (inr may) some = gives-values types choices buffer asked old may
