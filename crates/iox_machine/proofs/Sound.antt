-- What holds of each service of a run, and that what a port does keeps it.
use Rattle.std.proofs.Common.{◌≡◌, ◌≤◌, ◌<◌, ℕ, Bool, true, false, cond, not, ◌&&◌, List, [], ◌∷◌, ◌++◌, length, take, Option, None}
use Rattle.std.proofs.Common.{Some, refl, sym, subst, inl, inr, arith, length-append, length-drop}
use Rattle.std.proofs.lemmas.Bool.{eqb-true}
use Rattle.std.specs.List.{AllByRecursion}
use Rattle.std.specs.Option.{option_map_or}
use Rattle.std.specs.Prelude.{⊤, ◌==◌, nat_le, is_some, unwrap_or, option_map, option_and_then, filter, find, MatchOption, zip}
use Rattle.iox_machine.proofs.Shorthands.{taken, with_subscriber, with_publisher, IsRefused}
use Rattle.iox_machine.specs.Choices.{Choices}
use Rattle.iox_machine.specs.DefaultLaws.{IsNamedAs}
use Rattle.iox_machine.proofs.Delivering.{Outcomes, by-outcome}
use Rattle.iox_machine.specs.Mailbox.{Mailbox, newest, put}
use Rattle.iox_machine.specs.Message.{Message, Sample}
use Rattle.iox_machine.specs.PortList.{those}
use Rattle.iox_machine.specs.Ports.{subscriber_in}
use Rattle.iox_machine.specs.PublisherUpdate as publishing
use Rattle.iox_machine.specs.RunLaws.{IsSizedAs}
use Rattle.iox_machine.specs.Service.{Service, Publisher, Subscriber, mailbox, with_mailbox, connect, new_service}
use Rattle.iox_machine.specs.SubscriberUpdate as subscribing
use Rattle.iox_machine.specs.Table.{at, contains}
use Rattle.iox_machine.proofs.Cases.{by-bool, same-some, never-some, chosen, both-true}
use Rattle.iox_machine.proofs.Lists.{all-joined, all-taken, all-dropped, all-newest, newest-fits, take-fits, fold-keeps, all-at}
use Rattle.iox_machine.proofs.Lists.{all-changed}
use Rattle.iox_command.specs.DomainValues.declared.connection_failure.ConnectionFailure.{ConnectionFailure}
use Rattle.iox_command.specs.NegotiateBase.DescribeSettings.declared.static_config.publish_subscribe.StaticConfig.{StaticConfig}
use Rattle.iox_command.specs.declared.port.PublisherOptions.{PublisherOptions}
use Rattle.iox_command.specs.declared.refusal.Refusal.{Refusal}
use Rattle.iox_command.specs.declared.reply.Reply.{Reply}

pub find-passes : {X : Type 0} (test : X → Bool) (xs : List X) (x : X) → find test xs ≡ Some x → test x ≡ true
find-passes test [] x e = never-some x e
find-passes test (y ∷ xs) x e = elim (chosen (test y) (Some y) (find test xs) (Some x) e) [
  | inl it ↦ subst (λ z. test z ≡ true) (same-some y x it.1) it.0
  | inr it ↦ find-passes test xs x it.1
]

standing-subscriber : (o : Option Subscriber) (it : Subscriber) → option_and_then
    (λ (s : Subscriber). cond s.stands (Some s) None) o ≡ Some it → o ≡ Some it
standing-subscriber None it e = never-some it e
standing-subscriber (Some s) it e = elim (chosen s.stands (Some s) None (Some it) e) [
  | inl w ↦ w.1
  | inr w ↦ never-some it w.1
]

buffer-of : (most : ℕ) (o : Option Subscriber) → ((one : Subscriber) → o ≡ Some one → one.buffer_size ≤ most) → option_map_or
    (λ (one : Subscriber). one.buffer_size) o 0 ≤ most
buffer-of most None on = omega arith
buffer-of most (Some one) on = on one refl

module _ {T : Type 0} (Good : ℕ → Message T → Type 0) (Fine : ℕ → Sample T → Type 0) (Named : ℕ → PublisherOptions → Type 0) where
  -- no more wait than may, no more are borrowed, and each message is one that is good of its publisher
  abbrev pub BoxFits : ℕ → StaticConfig → Mailbox T → Type 0
  BoxFits publisher settings box =
      (length box.waiting ≤ box.limit) × (length box.borrowed ≤ settings.subscriber_max_borrowed_samples)
      × (box.limit ≤ settings.subscriber_max_buffer_size) × AllByRecursion (Good publisher) box.waiting × AllByRecursion
      (Good publisher) box.borrowed

  abbrev pub PublisherFits : StaticConfig → ℕ → Publisher T → Type 0
  PublisherFits settings number publisher =
      (length publisher.history ≤ settings.history_size) × AllByRecursion (Good number) publisher.history
      × MatchOption publisher.blocked ⊤ (λ send. Good number send.message)
      × ((options : PublisherOptions) × Named number options × (IsSizedAs options settings publisher × IsNamedAs options publisher))

  abbrev pub SubscriberFits : StaticConfig → ℕ → Subscriber → Type 0
  SubscriberFits settings number subscriber = subscriber.buffer_size ≤ settings.subscriber_max_buffer_size

  abbrev pub SampleFits : ℕ → Sample T → Type 0
  SampleFits number sample = Fine number sample × Good sample.publisher sample.message

  abbrev pub Sound : Service T → Type 0
  Sound service =
      ((publisher subscriber : ℕ) (box : Mailbox T) → service.mailboxes publisher subscriber ≡ Some box
      → BoxFits publisher service.settings box)
      × AllByRecursion (λ entry. PublisherFits service.settings entry.0 entry.1) service.publishers
      × AllByRecursion (λ entry. SubscriberFits service.settings entry.0 entry.1) service.subscribers
      × AllByRecursion (λ entry. SampleFits entry.0 entry.1) service.samples

  pub new-sound : (name : List ℕ) (settings : StaticConfig) → Sound (new_service name settings)
  new-sound name settings = ((λ publisher subscriber box e. never-some box e), tt, tt, tt)

  -- ---- mailboxes

  empty-fits : (publisher limit : ℕ) (settings : StaticConfig) → limit ≤ settings.subscriber_max_buffer_size
      → BoxFits publisher settings (record { limit = limit; waiting = []; borrowed = [] })
  empty-fits publisher limit settings h = (omega arith, omega arith, h, tt, tt)

  held : (publisher : ℕ) (settings : StaticConfig) (o : Option (Mailbox T)) →
      ((box : Mailbox T) → o ≡ Some box → BoxFits publisher settings box)
      → BoxFits publisher settings (unwrap_or o (record { limit = 0; waiting = []; borrowed = [] }))
  held publisher settings None on = empty-fits publisher 0 settings (omega arith)
  held publisher settings (Some box) on = on box refl

  pub box-fits : (publisher subscriber : ℕ) (service : Service T) → Sound service → BoxFits publisher service.settings
      (mailbox publisher subscriber service)
  box-fits publisher subscriber service sound = held publisher service.settings (service.mailboxes publisher subscriber)
      (sound.0 publisher subscriber)

  pub box-changed : (publisher subscriber : ℕ) (box : Mailbox T) (service : Service T) → Sound service
      → BoxFits publisher service.settings box
      → Sound (with_mailbox publisher subscriber box service)
  box-changed publisher subscriber box service sound fits = (
    (λ one other it e. elim (chosen ((one == publisher) && (other == subscriber)) (Some box) (service.mailboxes one other) (Some it) e) [
      | inl w ↦ subst (λ number. BoxFits number service.settings it)
          (sym (eqb-true one publisher (both-true (one == publisher) (other == subscriber) w.0).0))
          (subst (λ found. BoxFits publisher service.settings found) (same-some box it w.1) fits)
      | inr w ↦ sound.0 one other it w.1
    ]),
    sound.1,
    sound.2,
    sound.3,
  )

  either : (P : Service T → Type 0) (b : Bool) (one other : Service T) → P one → P other → P (cond b one other)
  either P true one other p q = p
  either P false one other p q = q

  emptied : (publisher : ℕ) (settings : StaticConfig) (o : Option (Mailbox T)) →
      ((box : Mailbox T) → o ≡ Some box → BoxFits publisher settings box)
      → (it : Mailbox T) → option_map (λ (box : Mailbox T). record box { waiting = [] }) o ≡ Some it → BoxFits publisher settings it
  emptied publisher settings None on it e = never-some it e
  emptied publisher settings (Some box) on it e =
      subst (λ found. BoxFits publisher settings found) (same-some (record box { waiting = [] }) it e)
      (let fits : BoxFits publisher settings box = on box refl in (omega arith, fits.1, fits.2, tt, fits.4))

  ended-sound : (number : ℕ) (service : Service T) → Sound service → Sound (publishing.ended number service)
  ended-sound number service sound = (
    (λ one other it e. elim (chosen ((one == number) && not (contains (those service.subscriber_list.places) other))
        (option_map (λ (box : Mailbox T). record box { waiting = [] }) (service.mailboxes one other)) (service.mailboxes one other)
        (Some it) e) [
          | inl w ↦ emptied one service.settings (service.mailboxes one other) (sound.0 one other) it w.1
          | inr w ↦ sound.0 one other it w.1
        ]),
    sound.1,
    sound.2,
    sound.3,
  )

  pub put-fits : (publisher : ℕ) (settings : StaticConfig) (overflows : Bool) (message : Message T) (box it : Mailbox T)
      → put overflows message box ≡ Some it → BoxFits publisher settings box → Good publisher message → BoxFits publisher settings it
  put-fits publisher settings overflows message box it e fits good =
      elim (chosen (not overflows && nat_le box.limit (length box.waiting)) None
      (Some (record box { waiting = newest box.limit (box.waiting ++ message ∷ []) })) (Some it) e) [
        | inl w ↦ never-some it w.1
        | inr w ↦ subst (λ found. BoxFits publisher settings found)
            (same-some (record box { waiting = newest box.limit (box.waiting ++ message ∷ []) }) it w.1) (
              newest-fits box.limit (box.waiting ++ message ∷ []),
              fits.1,
              fits.2,
              all-newest (Good publisher) box.limit (box.waiting ++ message ∷ [])
                  (all-joined (Good publisher) box.waiting (message ∷ []) fits.3 (good, tt)),
              fits.4,
            )
      ]

  -- ---- a publisher

  pub publisher-changed : (number : ℕ) (publisher : Publisher T) (service : Service T) → Sound service
      → PublisherFits service.settings number publisher
      → Sound (with_publisher number publisher service)
  publisher-changed number publisher service sound fits =
      (sound.0, all-changed (PublisherFits service.settings) number publisher service.publishers fits sound.1, sound.2, sound.3)

  -- of a service that is sound, and one of whose publishers fits
  abbrev pub Both : ℕ → Publisher T → Service T → Type 0
  Both number publisher service = Sound service × PublisherFits service.settings number publisher

  connected : (P : StaticConfig → Type 0) (limit publisher subscriber : ℕ) (service : Service T) → Sound service → P service.settings
      → limit ≤ service.settings.subscriber_max_buffer_size
      → Sound (connect limit publisher subscriber service) × P (connect limit publisher subscriber service).settings
  connected P limit publisher subscriber service sound p h =
      either (λ found. Sound found × P found.settings) (is_some (service.mailboxes publisher subscriber)) service
      (with_mailbox publisher subscriber (record { limit = limit; waiting = []; borrowed = [] }) service) (sound, p) (
        box-changed publisher subscriber (record { limit = limit; waiting = []; borrowed = [] }) service sound
            (empty-fits publisher limit service.settings h),
        p,
      )

  welcomed : (number : ℕ) (after : Publisher T) (history : List (Message T)) → AllByRecursion (Good number) history
      → (service : Service T) (subscriber : ℕ) → Both number after service → Both number after
      (publishing.welcome number history service subscriber)
  welcomed number after history all service subscriber both =
      let limit : ℕ = option_map_or (λ (one : Subscriber). one.buffer_size) (at subscriber service.subscribers) 0 in
      let met : Service T = connect limit number subscriber service in
      let on : Both number after met = connected
      (λ settings. PublisherFits settings number after) limit number subscriber service both.0 both.1
      (buffer-of service.settings.subscriber_max_buffer_size (at subscriber service.subscribers)
      (λ one e. all-at (SubscriberFits service.settings) subscriber one service.subscribers e both.0.2)) in
      let box : Mailbox T = mailbox number subscriber met in
      let fits : BoxFits number met.settings box = box-fits number subscriber met on.0 in (
        box-changed number subscriber (record box { waiting = newest box.limit history }) met on.0
            (newest-fits box.limit history, fits.1, fits.2, all-newest (Good number) box.limit history all, fits.4),
        on.1,
      )

  pub follows : (number : ℕ) (publisher : Publisher T) (old : Service T) (after : Publisher T) (new : Service T) → Both number publisher old
      → publishing.Follows number publisher old after new → Both number after new
  follows number publisher old after new both (refused, allowed, is, came) =
      let fits : PublisherFits old.settings number after = subst (λ (p : Publisher T). PublisherFits old.settings number p)
      (sym is) both.1 in
      let begun : Service T = with_publisher number after (publishing.ended number old) in
      let ready : Both number after begun =
      (publisher-changed number after (publishing.ended number old) (ended-sound number old both.0) fits, fits) in
      subst (λ (s : Service T). Both number after s) (sym came)
      (fold-keeps (Both number after) (publishing.welcome number publisher.history) (welcomed number after publisher.history both.1.1)
      (filter (λ subscriber. not (contains (those publisher.connected) subscriber)) (those after.connected)) begun ready)

  -- ---- a subscriber

  pub subscriber-changed : (number : ℕ) (subscriber : Subscriber) (service : Service T) → Sound service
      → SubscriberFits service.settings number subscriber
      → Sound (with_subscriber number subscriber service)
  subscriber-changed number subscriber service sound fits =
      (sound.0, sound.1, all-changed (SubscriberFits service.settings) number subscriber service.subscribers fits sound.2, sound.3)

  pub subscriber-fits : (number : ℕ) (subscriber : Subscriber) (service : Service T) → Sound service
      → subscriber_in number service ≡ Some subscriber
      → SubscriberFits service.settings number subscriber
  subscriber-fits number subscriber service sound e =
      all-at (SubscriberFits service.settings) number subscriber service.subscribers
      (standing-subscriber (at number service.subscribers) subscriber e) sound.2

  abbrev pub Well : ℕ → Subscriber → Service T → Type 0
  Well number subscriber service = Sound service × SubscriberFits service.settings number subscriber

  pub subscriber-follows : (buffer number : ℕ) (subscriber : Subscriber) (old : Service T) (after : Subscriber) (new : Service T)
      → Well number subscriber old
      → subscribing.Follows buffer number subscriber old after new → Well number after new
  subscriber-follows buffer number subscriber old after new well (refused, allowed, listed, is, turned, came) =
      let fits : SubscriberFits old.settings number after = subst (λ (s : Subscriber). SubscriberFits old.settings number s)
      (sym turned) well.1 in
      let end : Well number subscriber new =
      subst (λ (s : Service T). Well number subscriber s) (sym came)
      (fold-keeps (Well number subscriber) (λ service publisher. connect subscriber.buffer_size publisher number service)
      (λ service publisher on. connected (λ settings. SubscriberFits settings number subscriber) subscriber.buffer_size publisher
      number service
      on.0 on.1 on.1)
      (those listed) (with_subscriber number after old) (subscriber-changed number after old well.0 fits, well.1)) in
      (end.0, subst (λ (s : Subscriber). SubscriberFits new.settings number s) (sym turned) end.1)

  pub subscriber-updates : (choices : Choices T) (R : Type 0) (buffer number : ℕ) (told : ConnectionFailure → Refusal)
      (Does : Subscriber → Service T → Reply T → Service T → Type 0) (subscriber : Subscriber) (old : Service T) (answer : Reply T)
      (new : Service T)
      → Well number subscriber old → ((one : Subscriber) (service : Service T) → Well number one service → Does one service answer new → R)
      → ((why : Refusal) (mid : Service T) → Sound mid → IsRefused why mid answer new → R)
      → subscribing.UpdatesFirst choices buffer number told Does subscriber old answer new → R
  subscriber-updates choices R buffer number told Does subscriber old answer new well does refused h =
      elim (by-bool ((subscriber.seen == old.publisher_list.changes) && not subscriber.again) (Does subscriber old answer new)
      ((after : Subscriber) × (mid : Service T) × subscribing.Follows buffer number subscriber old after mid
      × Outcomes (choices.subscriber_acts number subscriber.degradation) (zip old.publisher_list.places after.connected)
      (λ done. Does after mid answer new) (λ failure. IsRefused (told failure) mid answer new)) h) [
        | inl w ↦ does subscriber old well w.1
        | inr w ↦ followed w.1.0 w.1.1 w.1.2 w.1.3
      ]
    where
      followed : (after : Subscriber) (mid : Service T) → subscribing.Follows buffer number subscriber old after mid
          → Outcomes (choices.subscriber_acts number subscriber.degradation) (zip old.publisher_list.places after.connected)
          (λ done. Does after mid answer new) (λ failure. IsRefused (told failure) mid answer new) → R
      followed after mid came told_so =
          let on : Well number after mid = subscriber-follows buffer number subscriber old after mid well came in
          elim (by-outcome (choices.subscriber_acts number subscriber.degradation) (zip old.publisher_list.places after.connected)
          (λ done. Does after mid answer new) (λ failure. IsRefused (told failure) mid answer new) told_so) [
            | inl r ↦ does after mid on r.2
            | inr r ↦ refused (told r.0) mid on.0 r.2
          ]

  pub taken-fits : (publisher : ℕ) (settings : StaticConfig) (box : Mailbox T) → BoxFits publisher settings box
      → length box.borrowed < settings.subscriber_max_borrowed_samples → BoxFits publisher settings (taken box)
  taken-fits publisher settings box fits few = (
    (let waits : length box.waiting ≤ box.limit = fits.0 in omega (arith, length-drop 1 box.waiting)),
    omega (arith, length-append box.borrowed (take 1 box.waiting), take-fits 1 box.waiting),
    fits.2,
    all-dropped (Good publisher) 1 box.waiting fits.3,
    all-joined (Good publisher) box.borrowed (take 1 box.waiting) fits.4 (all-taken (Good publisher) 1 box.waiting fits.3),
  )
