-- Who is connected after an update.
use Rattle.std.proofs.Common.{◌≡◌, ◌⊎◌, ℕ, Bool, true, false, cond, not, ◌&&◌, ◌||◌, List, [], ◌∷◌, ◌++◌, length, map, Option, None, Some}
use Rattle.std.proofs.Common.{Ok, refl, sym, ap, subst, inl, inr, ◌∙◌, true≢false}
use Rattle.std.proofs.lemmas.Bool.{eqb-true, eq-eqb, false_from_ne_true}
use Rattle.std.proofs.lemmas.List.{length-map}
use Rattle.std.specs.List.{AllByRecursion, cons_option, list_all}
use Rattle.std.specs.Option.{option_map_or}
use Rattle.std.specs.Prelude.{◌==◌, nat_lt, max, is_some, option_map, option_and_then, filter, find, fold, zip, unwrap_or, MatchOption}
use Rattle.iox_machine.proofs.Shorthands.{now_at, parting, with_subscriber, with_publisher, IsRefused, IsSkipped, AtFree, is_unborrowed}
use Rattle.iox_machine.specs.Choices.{Choices}
use Rattle.iox_machine.proofs.Delivering.{Outcomes, by-outcome}
use Rattle.iox_machine.specs.PublisherUpdate.{UpdateAnswers}
use Rattle.iox_machine.specs.Mailbox.{Mailbox, newest, is_idle}
use Rattle.iox_machine.specs.Message.{Message}
use Rattle.iox_machine.specs.PortList.{PortList, those, unless}
use Rattle.iox_machine.specs.Ports.{publisher_in, subscriber_in}
use Rattle.iox_machine.specs.PublisherUpdate as publishing
use Rattle.iox_machine.specs.Service.{Service, Publisher, Subscriber, mailbox, with_mailbox, connect}
use Rattle.iox_machine.specs.State.{State, AtOne, replaced}
use Rattle.iox_machine.specs.SubscriberUpdate as subscribing
use Rattle.iox_machine.specs.SubscriberUpdate.{Parted, part, room_for}
use Rattle.iox_machine.specs.Table.{at, changed, contains}
use Rattle.iox_machine.specs.UpdateLaws.{IsFollowed, IsFollowedOrStays, PublisherIsUpdated, SubscriberIsUpdated}
use Rattle.iox_machine.proofs.Cases.{by-bool, by-option, same-some, never-some, chosen, both-true}
use Rattle.iox_machine.proofs.Lists.{all-joined, fold-keeps}
use Rattle.iox_machine.proofs.Moving.{at-one, replaced-same}
use Rattle.iox_command.specs.declared.refusal.Refusal.TheVariants as refusal
use Rattle.iox_command.specs.declared.reply.Reply.{Reply}
use Rattle.iox_command.specs.declared.reply.Reply.TheVariants as reply
use Rattle.iox_command.specs.DomainValues.declared.degradation.DegradationAction.{DegradationAction}

-- ---- lists

pub find-replaced : {T : Type 0} (has : Service T → Bool) (service after : Service T) (services : List (Service T))
    → find has services ≡ Some service → has after ≡ true → find has (replaced has after services) ≡ Some after
find-replaced has service after [] first is = never-some service first
find-replaced {T} has service after (one ∷ more) first is =
    here (has one) refl first (λ found. find-replaced has service after more found is)
  where
    here : (b : Bool) → has one ≡ b → cond b (Some one) (find has more) ≡ Some service
        → (find has more ≡ Some service → find has (replaced has after more) ≡ Some after)
        → find has (cond b (after ∷ more) (one ∷ replaced has after more)) ≡ Some after
    here true same found on = ap (λ (b : Bool). cond b (Some after) (find has more)) is
    here false same found on = ap (λ (b : Bool). cond b (Some one) (find has (replaced has after more))) same ∙ on found

at-changed : {V : Type 0} (number : ℕ) (v was : V) (table : List (ℕ × V)) → at number table ≡ Some was
    → at number (changed number v table) ≡ Some v
at-changed number v was [] found = never-some was found
at-changed {V} number v was (entry ∷ more) found = here (entry.0 == number) refl found (at-changed number v was more)
  where
    here : (b : Bool) → (entry.0 == number) ≡ b
        → option_map (λ (e : ℕ × V). e.1) (cond b (Some entry) (find (λ (e : ℕ × V). e.0 == number) more)) ≡ Some was
        → (at number more ≡ Some was → at number (changed number v more) ≡ Some v)
        → at number (cond b (number, v) entry ∷ changed number v more) ≡ Some v
    here true same found on =
        ap (λ (b : Bool). option_map (λ (e : ℕ × V). e.1)
        (cond b (Some (number, v)) (find (λ (e : ℕ × V). e.0 == number) (changed number v more)))) (eq-eqb number number refl)
    here false same found on =
        ap (λ (b : Bool). option_map (λ (e : ℕ × V). e.1)
        (cond b (Some entry) (find (λ (e : ℕ × V). e.0 == number) (changed number v more)))) same ∙ on found

all-any : (test : ℕ → Bool) (numbers : List ℕ) (number : ℕ) → list_all test numbers ≡ true → contains numbers number ≡ true
    → test number ≡ true
all-any test [] number all is = absurd (true≢false (sym is))
all-any test (one ∷ more) number all is =
    here (one == number) refl is (all-any test more number (both-true (test one) (list_all test more) all).1)
  where
    here : (b : Bool) → (one == number) ≡ b → (b || contains more number) ≡ true → (contains more number ≡ true → test number ≡ true)
        → test number ≡ true
    here true same found on = ap test (sym (eqb-true one number same)) ∙ (both-true (test one) (list_all test more) all).0
    here false same found on = on found

or-false : (b c : Bool) → b ≡ false → c ≡ false → (b || c) ≡ false
or-false true c e f = e
or-false false c e f = f

and-false : (b c : Bool) → c ≡ false → (b && c) ≡ false
and-false true c e = e
and-false false c e = refl

or-both : (b c : Bool) → (b || c) ≡ false → (b ≡ false) × (c ≡ false)
or-both true c e = absurd (true≢false e)
or-both false c e = (refl, e)

not-true : (b : Bool) → not b ≡ true → b ≡ false
not-true true e = absurd (true≢false (sym e))
not-true false e = refl

-- a number isn't one of a list, seen from the other side
other-side : (one number : ℕ) → (one == number) ≡ false → (number == one) ≡ false
other-side one number off =
    false_from_ne_true (number == one) (λ is. true≢false (sym (eq-eqb one number (sym (eqb-true number one is))) ∙ off))

filter-none : (test : ℕ → Bool) (numbers : List ℕ) (number : ℕ) → contains numbers number ≡ false
    → contains (filter test numbers) number ≡ false
filter-none test [] number off = off
filter-none test (one ∷ more) number off =
    here (test one) (or-both (one == number) (contains more number) off).0
    (filter-none test more number (or-both (one == number) (contains more number) off).1)
  where
    here : (b : Bool) → (one == number) ≡ false → contains (filter test more) number ≡ false
        → contains (cond b (one ∷ filter test more) (filter test more)) number ≡ false
    here true apart rest = or-false (one == number) (contains (filter test more) number) apart rest
    here false apart rest = rest

-- who is refused isn't connected
unless-none : (refused : List ℕ) (number : ℕ) → contains refused number ≡ true → (places : List (Option ℕ))
    → contains (those (map (unless refused) places)) number ≡ false
unless-none refused number is [] = refl
unless-none refused number is (None ∷ more) = unless-none refused number is more
unless-none refused number is (Some port ∷ more) = here (contains refused port) refl (unless-none refused number is more)
  where
    here : (b : Bool) → contains refused port ≡ b → contains (those (map (unless refused) more)) number ≡ false
        → contains (cons_option (cond b None (Some port)) (those (map (unless refused) more))) number ≡ false
    here true same rest = rest
    here false same rest =
        or-false (port == number) (contains (those (map (unless refused) more)) number)
        (false_from_ne_true (port == number) (λ one. true≢false (sym is
        ∙ (ap (contains refused) (sym (eqb-true port number one)) ∙ same)))) rest

unless-followed : (has_box : ℕ → Bool) (refused : List ℕ) → ((number : ℕ) → contains refused number ≡ true → has_box number ≡ false)
    → (place : Option ℕ) → IsFollowed has_box (place, unless refused place)
unless-followed has_box refused on None = refl
unless-followed has_box refused on (Some port) = here (contains refused port) refl
  where
    here : (b : Bool) → contains refused port ≡ b → IsFollowed has_box (Some port, cond b None (Some port))
    here true is = inr (refl, on port is)
    here false is = inl refl

pub subscriber-standing : (subscriber : Subscriber) (o : Option Subscriber) → subscriber.stands ≡ true → o ≡ Some subscriber
    → option_and_then (λ (it : Subscriber). cond it.stands (Some it) None) o ≡ Some subscriber
subscriber-standing subscriber o stands is =
    ap (option_and_then (λ (it : Subscriber). cond it.stands (Some it) None)) is
    ∙ ap (λ (b : Bool). cond b (Some subscriber) None) stands

pub subscriber-stood : (o : Option Subscriber) (subscriber : Subscriber)
    → option_and_then (λ (it : Subscriber). cond it.stands (Some it) None) o ≡ Some subscriber
    → (subscriber.stands ≡ true) × (o ≡ Some subscriber)
subscriber-stood None subscriber e = never-some subscriber e
subscriber-stood (Some it) subscriber e = elim (chosen it.stands (Some it) None (Some subscriber) e) [
  | inl w ↦ (ap (λ (p : Subscriber). p.stands) (sym (same-some it subscriber w.1)) ∙ w.0, w.1)
  | inr w ↦ never-some subscriber w.1
]

now-followed : (has_box is_free : ℕ → Bool) (staying refused : List ℕ)
    → ((other : ℕ) → contains staying other ≡ true → is_free other ≡ false)
    → ((other : ℕ) → contains refused other ≡ true → has_box other ≡ false) → (befores listeds : List (Option ℕ))
    → AllByRecursion (IsFollowedOrStays has_box is_free) (zip listeds (map (now_at staying refused) (zip befores listeds)))
now-followed has_box is_free staying refused all none [] [] = tt
now-followed has_box is_free staying refused all none [] (listed ∷ more) = tt
now-followed has_box is_free staying refused all none (before ∷ befores) [] = tt
now-followed has_box is_free staying refused all none (before ∷ befores) (listed ∷ listeds) =
    (here before, now-followed has_box is_free staying refused all none befores listeds)
  where
    here : (it : Option ℕ) → IsFollowedOrStays has_box is_free (listed, now_at staying refused (it, listed))
    here None = inl (unless-followed has_box refused none listed)
    here (Some port) = chosen_so (contains staying port) refl
      where
        chosen_so : (b : Bool) → contains staying port ≡ b
            → IsFollowedOrStays has_box is_free (listed, cond b (Some port) (unless refused listed))
        chosen_so true is = inr (port, refl, all port is)
        chosen_so false is = inl (unless-followed has_box refused none listed)

module _ {T : Type 0} where
  abbrev done : Reply T
  done = reply.Done

  abbrev is_done : Reply T → Bool
  is_done reply.Done = true
  is_done other = false

  never : {A : Type 0} (other : Reply T) → done ≡ other → is_done other ≡ false → A
  never other same silent = absurd (true≢false (ap is_done same ∙ silent))

  -- what is left when nothing changes
  pub unmoved : (has : Service T → Bool) (service after : Service T) (old new : State T) → find has old.services ≡ Some service
      → after ≡ service → new ≡ record old { services = replaced has after old.services } → new ≡ old
  unmoved has service after old new first same came =
      came ∙ (ap (λ (it : Service T). record old { services = replaced has it old.services }) same
      ∙ ap (λ (list : List (Service T)). record old { services = list }) (replaced-same has service old.services first))

  pub standing : (publisher : Publisher T) (o : Option (Publisher T)) → publisher.stands ≡ true → o ≡ Some publisher
      → option_and_then (λ (it : Publisher T). cond it.stands (Some it) None) o ≡ Some publisher
  standing publisher o stands is =
      ap (option_and_then (λ (it : Publisher T). cond it.stands (Some it) None)) is
      ∙ ap (λ (b : Bool). cond b (Some publisher) None) stands

  -- a publisher that was found stands, and is the one of its number
  pub stood : (o : Option (Publisher T)) (publisher : Publisher T)
      → option_and_then (λ (it : Publisher T). cond it.stands (Some it) None) o ≡ Some publisher
      → (publisher.stands ≡ true) × (o ≡ Some publisher)
  stood None publisher e = never-some publisher e
  stood (Some it) publisher e = elim (chosen it.stands (Some it) None (Some publisher) e) [
    | inl w ↦ (ap (λ (p : Publisher T). p.stands) (sym (same-some it publisher w.1)) ∙ w.0, w.1)
    | inr w ↦ never-some publisher w.1
  ]

  -- ---- a publisher

  -- what welcomes leave of a service
  abbrev pub Same : Service T → Service T → Type 0
  Same base service =
      (service.publishers ≡ base.publishers) × (service.subscribers ≡ base.subscribers)
      × (service.publisher_list ≡ base.publisher_list) × (service.subscriber_list ≡ base.subscriber_list)

  same-either : (base : Service T) (b : Bool) (one other : Service T) → Same base one → Same base other → Same base (cond b one other)
  same-either base true one other p q = p
  same-either base false one other p q = q

  same-connected : (base : Service T) (limit publisher subscriber : ℕ) (service : Service T) → Same base service
      → Same base (connect limit publisher subscriber service)
  same-connected base limit publisher subscriber service same =
      same-either base (is_some (service.mailboxes publisher subscriber)) service
      (with_mailbox publisher subscriber (record { limit = limit; waiting = []; borrowed = [] }) service) same same

  same-welcomed : (base : Service T) (number : ℕ) (history : List (Message T)) (service : Service T) (subscriber : ℕ) → Same base service
      → Same base (publishing.welcome number history service subscriber)
  same-welcomed base number history service subscriber same =
      same-connected base (option_map_or (λ (one : Subscriber). one.buffer_size) (at subscriber service.subscribers) 0) number subscriber
      service same

  box-off : (publisher subscriber : ℕ) (box : Mailbox T) (service : Service T) (one other : ℕ)
      → ((one == publisher) && (other == subscriber)) ≡ false
      → (with_mailbox publisher subscriber box service).mailboxes one other ≡ service.mailboxes one other
  box-off publisher subscriber box service one other off =
      ap (λ (b : Bool). cond b (Some box) (service.mailboxes one other)) off

  connect-off : (limit publisher subscriber : ℕ) (service : Service T) (one other : ℕ)
      → ((one == publisher) && (other == subscriber)) ≡ false
      → (connect limit publisher subscriber service).mailboxes one other ≡ service.mailboxes one other
  connect-off limit publisher subscriber service one other off = here (is_some (service.mailboxes publisher subscriber))
    where
      here : (b : Bool)
          → (cond b service
          (with_mailbox publisher subscriber (record { limit = limit; waiting = []; borrowed = [] }) service)).mailboxes one other
          ≡ service.mailboxes one other
      here true = refl
      here false = box-off publisher subscriber (record { limit = limit; waiting = []; borrowed = [] }) service one other off

  pub welcome-off : (number : ℕ) (history : List (Message T)) (service : Service T) (subscriber other : ℕ) → (other == subscriber) ≡ false
      → (publishing.welcome number history service subscriber).mailboxes number other ≡ service.mailboxes number other
  welcome-off number history service subscriber other off =
      let limit : ℕ = option_map_or (λ (one : Subscriber). one.buffer_size) (at subscriber service.subscribers) 0 in
      let met : Service T = connect limit number subscriber service in
      box-off number subscriber (record (mailbox number subscriber met) {
        waiting = newest (mailbox number subscriber met).limit history;
      }) met number other (and-false (number == number) (other == subscriber) off)
      ∙ connect-off limit number subscriber service number other (and-false (number == number) (other == subscriber) off)

  pub fold-off : (number : ℕ) (history : List (Message T)) (other : ℕ) (subscribers : List ℕ) (service : Service T)
      → contains subscribers other ≡ false
      → (fold (publishing.welcome number history) service subscribers).mailboxes number other ≡ service.mailboxes number other
  fold-off number history other [] service off = refl
  fold-off number history other (one ∷ more) service off =
      fold-off number history other more (publishing.welcome number history service one)
      (or-both (one == other) (contains more other) off).1
      ∙ welcome-off number history service one other (other-side one other (or-both (one == other) (contains more other) off).0)

  ended-none : (number : ℕ) (service : Service T) (publisher other : ℕ) → is_some (service.mailboxes publisher other) ≡ false
      → is_some ((publishing.ended number service).mailboxes publisher other) ≡ false
  ended-none number service publisher other none =
      here ((publisher == number) && not (contains (those service.subscriber_list.places) other)) (service.mailboxes publisher other) none
    where
      here : (b : Bool) (o : Option (Mailbox T)) → is_some o ≡ false
          → is_some (cond b (option_map (λ (box : Mailbox T). record box { waiting = [] }) o) o) ≡ false
      here true None is = refl
      here true (Some box) is = absurd (true≢false is)
      here false o is = is

  pub publisher-followed : (number : ℕ) (publisher : Publisher T) (old : Service T) (after : Publisher T) (new : Service T)
      → publishing.Follows number publisher old after new
      → Same (with_publisher number after old) new × (after.stands ≡ publisher.stands) × (after.seen ≡ old.subscriber_list.changes)
      × (length after.connected ≡ length old.subscriber_list.places)
      × AllByRecursion (IsFollowed (λ subscriber. is_some (new.mailboxes number subscriber)))
      (zip old.subscriber_list.places after.connected)
  publisher-followed number publisher old after new (refused, allowed, is, came) = (
    subst (λ (it : Service T). Same (with_publisher number after old) it) (sym came)
        (fold-keeps (Same (with_publisher number after old)) (publishing.welcome number publisher.history)
        (λ service subscriber same. same-welcomed (with_publisher number after old) number publisher.history service subscriber same)
        (filter (λ subscriber. not (contains (those publisher.connected) subscriber)) (those after.connected))
        (with_publisher number after (publishing.ended number old)) (refl, refl, refl, refl)),
    ap (λ (it : Publisher T). it.stands) is,
    ap (λ (it : Publisher T). it.seen) is,
    ap (λ (it : Publisher T). length it.connected) is ∙ length-map old.subscriber_list.places (unless refused),
    subst (λ (it : Publisher T). AllByRecursion (IsFollowed (λ subscriber. is_some (new.mailboxes number subscriber)))
        (zip old.subscriber_list.places it.connected)) (sym is) (each old.subscriber_list.places),
  )
    where
      none : (subscriber : ℕ) → contains refused subscriber ≡ true → is_some (new.mailboxes number subscriber) ≡ false
      none subscriber refuses =
          ap (λ (it : Service T). is_some (it.mailboxes number subscriber)) came
          ∙ (ap (λ (o : Option (Mailbox T)). is_some o)
          (fold-off number publisher.history subscriber
          (filter (λ one. not (contains (those publisher.connected) one)) (those after.connected))
          (with_publisher number after (publishing.ended number old))
          (filter-none (λ one. not (contains (those publisher.connected) one)) (those after.connected) subscriber
          (ap (λ (it : Publisher T). contains (those it.connected) subscriber) is
          ∙ unless-none refused subscriber refuses old.subscriber_list.places)))
          ∙ ended-none number old number subscriber
          (not-true (is_some (old.mailboxes number subscriber))
          (both-true (contains (those old.subscriber_list.places) subscriber) (not (is_some (old.mailboxes number subscriber)))
          (all-any (λ one. contains (those old.subscriber_list.places) one && not (is_some (old.mailboxes number one))) refused subscriber
          allowed refuses)).1))

      each : (places : List (Option ℕ))
          → AllByRecursion (IsFollowed (λ subscriber. is_some (new.mailboxes number subscriber))) (zip places (map (unless refused) places))
      each [] = tt
      each (place ∷ more) =
          (unless-followed (λ subscriber. is_some (new.mailboxes number subscriber)) refused none place, each more)

  abbrev PublisherEnd : (choices : Choices T) → ℕ → State T → State T → Type 0
  PublisherEnd choices number old new =
      (service : Service T) × (one : Publisher T)
      × (find (λ (other : Service T). is_some (publisher_in number other)) new.services ≡ Some service)
      × (publisher_in number service ≡ Some one)
      × (one.seen ≡ service.subscriber_list.changes)
      × ((new ≡ old)
      ⊎ ((length one.connected ≡ length service.subscriber_list.places)
      × AllByRecursion (IsFollowed (λ subscriber. is_some (service.mailboxes number subscriber)))
      (zip service.subscriber_list.places one.connected)
      × UpdateAnswers (choices.publisher_acts number one.degradation) (zip service.subscriber_list.places one.connected) (Ok tt)))

  publisher-end : (choices : Choices T) (number : ℕ) (old new : State T) (service : Service T) (one : Publisher T) (mid : Service T)
      (after : Publisher T)
      → find (λ (other : Service T). is_some (publisher_in number other)) old.services ≡ Some service
      → publisher_in number service ≡ Some one → publishing.Follows number one service after mid
      → UpdateAnswers (choices.publisher_acts number one.degradation) (zip service.subscriber_list.places after.connected) (Ok tt)
      → new ≡ record old { services = replaced (λ (other : Service T). is_some (publisher_in number other)) mid old.services }
      → PublisherEnd choices number old new
  publisher-end choices number old new service one mid after first found (refused, allowed, is, folded) well came =
      let did : Same (with_publisher number after service) mid × (after.stands ≡ one.stands)
      × (after.seen ≡ service.subscriber_list.changes)
      × (length after.connected ≡ length service.subscriber_list.places)
      × AllByRecursion (IsFollowed (λ subscriber. is_some (mid.mailboxes number subscriber)))
      (zip service.subscriber_list.places after.connected) =
      publisher-followed number one service after mid (refused, allowed, is, folded) in
      let was : (one.stands ≡ true) × (at number service.publishers ≡ Some one) = stood (at number service.publishers) one found in
      let there : publisher_in number mid ≡ Some after =
      standing after (at number mid.publishers) (did.1 ∙ was.0)
      (ap (at number) did.0.0 ∙ at-changed number after one service.publishers was.1) in (
        mid,
        after,
        ap (λ (it : State T). find (λ (other : Service T). is_some (publisher_in number other)) it.services) came
            ∙ find-replaced (λ (other : Service T). is_some (publisher_in number other)) service mid old.services first
            (ap (λ (o : Option (Publisher T)). is_some o) there),
        there,
        did.2 ∙ ap (λ (list : PortList). list.changes) (sym did.0.3),
        inr (
          did.3 ∙ ap (λ (list : PortList). length list.places) (sym did.0.3),
          subst (λ (list : PortList). AllByRecursion (IsFollowed (λ subscriber. is_some (mid.mailboxes number subscriber)))
              (zip list.places after.connected)) (sym did.0.3) did.4,
          subst (λ (list : PortList). UpdateAnswers (choices.publisher_acts number after.degradation) (zip list.places after.connected)
              (Ok tt)) (sym did.0.3)
              (subst (λ (it : DegradationAction). UpdateAnswers (choices.publisher_acts number it)
              (zip service.subscriber_list.places after.connected) (Ok tt)) (sym (ap (λ (it : Publisher T). it.degradation) is)) well),
        ),
      )

  publisher-updated : (choices : Choices T) (number : ℕ) (old new : State T)
      → AtFree number (publishing.UpdatesFirst choices number refusal.Connection
      (λ (it : Publisher T) (mid : Service T) (answered : Reply T) (end : Service T). (answered ≡ reply.Done) × (end ≡ mid))) old done new
      → PublisherEnd choices number old new
  publisher-updated choices number old new h = elim (at-one (publisher_in number)
      (λ (publisher : Publisher T) (service : Service T) (told : Reply T) (after : Service T). MatchOption publisher.blocked
      (publishing.UpdatesFirst choices number refusal.Connection
      (λ (it : Publisher T) (mid : Service T) (answered : Reply T) (end : Service T). (answered ≡ reply.Done) × (end ≡ mid)) publisher
      service told after) (λ send. IsSkipped service told after)) old done new h) [
        | inl skipped ↦ never reply.Skipped skipped.0 refl
        | inr w ↦ elim (by-option w.1.blocked
            (publishing.UpdatesFirst choices number refusal.Connection
            (λ (it : Publisher T) (mid : Service T) (answered : Reply T) (end : Service T). (answered ≡ reply.Done) × (end ≡ mid)) w.1 w.0
            done w.2) (λ send. IsSkipped w.0 done w.2) w.5) [
              | inl v ↦ updated w.0 w.1 w.2 w.3 w.4 v.1 w.6
              | inr v ↦ never reply.Skipped v.2.0 refl
            ]
      ]
    where
      updated : (service : Service T) (one : Publisher T) (end : Service T)
          → find (λ (other : Service T). is_some (publisher_in number other)) old.services ≡ Some service
          → publisher_in number service ≡ Some one
          → publishing.UpdatesFirst choices number refusal.Connection
          (λ (it : Publisher T) (mid : Service T) (answered : Reply T) (end : Service T). (answered ≡ reply.Done) × (end ≡ mid)) one service
          done end
          → new ≡ record old { services = replaced (λ (other : Service T). is_some (publisher_in number other)) end old.services }
          → PublisherEnd choices number old new
      updated service one end first found did came =
          elim (by-bool (one.seen == service.subscriber_list.changes) ((done ≡ reply.Done) × (end ≡ service))
          ((after : Publisher T) × (mid : Service T) × publishing.Follows number one service after mid
          × Outcomes (choices.publisher_acts number one.degradation) (zip service.subscriber_list.places after.connected)
          (λ well. (done ≡ reply.Done) × (end ≡ mid)) (λ failure. IsRefused (refusal.Connection failure) mid done end)) did) [
            | inl w ↦
                let same : new ≡ old =
                unmoved (λ (other : Service T). is_some (publisher_in number other)) service end old new first w.1.1 came in (
                  service,
                  one,
                  ap (λ (it : State T). find (λ (other : Service T). is_some (publisher_in number other)) it.services) same ∙ first,
                  found,
                  eqb-true one.seen service.subscriber_list.changes w.0,
                  inl same,
                )
            | inr w ↦ elim (by-outcome (choices.publisher_acts number one.degradation) (zip service.subscriber_list.places w.1.0.connected)
                (λ well. (done ≡ reply.Done) × (end ≡ w.1.1)) (λ failure. IsRefused (refusal.Connection failure) w.1.1 done end) w.1.3) [
                  | inl r ↦ publisher-end choices number old new service one w.1.1 w.1.0 first found w.1.2 r.1
                      (came ∙ ap (λ (it : Service T). record old {
                        services = replaced (λ (other : Service T). is_some (publisher_in number other)) it old.services;
                      }) r.2.1)
                  | inr r ↦ never (reply.Refused (refusal.Connection r.0)) r.2.0 refl
                ]
          ]

  -- ---- a subscriber

  -- a connection that is there stays as it is
  abbrev StaysAt : ℕ → ℕ → Mailbox T → Service T → Type 0
  StaysAt publisher number box service = service.mailboxes publisher number ≡ Some box

  connect-stays : (limit number one other : ℕ) (box : Mailbox T) (service : Service T) → StaysAt other number box service
      → StaysAt other number box (connect limit one number service)
  connect-stays limit number one other box service there = here (is_some (service.mailboxes one number)) refl (other == one) refl
    where
      here : (b : Bool) → is_some (service.mailboxes one number) ≡ b → (c : Bool) → (other == one) ≡ c
          → (cond b service
          (with_mailbox one number (record { limit = limit; waiting = []; borrowed = [] }) service)).mailboxes other number ≡ Some box
      here true is c same = there
      here false is true same =
          absurd (true≢false (sym (ap (λ (o : Option (Mailbox T)). is_some o)
          (ap (λ (n : ℕ). service.mailboxes n number) (sym (eqb-true other one same)) ∙ there)) ∙ is))
      here false is false same =
          box-off one number (record { limit = limit; waiting = []; borrowed = [] }) service other number
          (ap (λ (b : Bool). b && (number == number)) same) ∙ there

  fold-connect-off : (limit number other : ℕ) (publishers : List ℕ) (service : Service T) → contains publishers other ≡ false
      → (fold (λ it publisher. connect limit publisher number it) service publishers).mailboxes other number
      ≡ service.mailboxes other number
  fold-connect-off limit number other [] service off = refl
  fold-connect-off limit number other (one ∷ more) service off =
      fold-connect-off limit number other more (connect limit one number service)
      (or-both (one == other) (contains more other) off).1
      ∙ connect-off limit one number service other number
      (ap (λ (b : Bool). b && (number == number)) (other-side one other (or-both (one == other) (contains more other) off).0))

  -- who stays has a connection of which something is borrowed
  abbrev Holds : ℕ → ℕ → Service T → ℕ → Type 0
  Holds buffer number service other = is_unborrowed buffer number service other ≡ false

  part-stays : (buffer number : ℕ) (service : Service T) (parted : Parted) (publisher : ℕ)
      → AllByRecursion (Holds buffer number service) parted.staying
      → AllByRecursion (Holds buffer number service) (part buffer number service parted publisher).staying
  part-stays buffer number service parted publisher all =
      idle (is_idle (mailbox publisher number service))
      (nat_lt (length parted.expired) (max buffer service.settings.subscriber_max_borrowed_samples))
      (room_for buffer number publisher parted.expired service) (is_unborrowed buffer number service publisher) refl
    where
      idle : (a b : Bool) (o : Option ℕ) (c : Bool) → is_unborrowed buffer number service publisher ≡ c
          → AllByRecursion (Holds buffer number service)
          (cond a parted (cond b (record parted { expired = parted.expired ++ publisher ∷ [] }) (elim o [
            | Some out ↦ record parted { expired = filter (λ other. not (other == out)) parted.expired ++ publisher ∷ [] }
            | None ↦ cond c parted (record parted { staying = parted.staying ++ publisher ∷ [] })
          ]))).staying
      idle true b o c is = all
      idle false true o c is = all
      idle false false (Some out) c is = all
      idle false false None true is = all
      idle false false None false is = all-joined (Holds buffer number service) parted.staying (publisher ∷ []) all (is, tt)

  held-one : (buffer number : ℕ) (service : Service T) (staying : List ℕ) (other : ℕ)
      → AllByRecursion (Holds buffer number service) staying → contains staying other ≡ true → Holds buffer number service other
  held-one buffer number service [] other all is = absurd (true≢false (sym is))
  held-one buffer number service (one ∷ more) other all is =
      here (one == other) refl is (held-one buffer number service more other all.1)
    where
      here : (b : Bool) → (one == other) ≡ b → (b || contains more other) ≡ true
          → (contains more other ≡ true → Holds buffer number service other) → Holds buffer number service other
      here true same found on = subst (λ (n : ℕ). Holds buffer number service n) (eqb-true one other same) all.0
      here false same found on = on found

  -- a connection of which something is borrowed is there
  held-box : (buffer number : ℕ) (service : Service T) (other : ℕ) → Holds buffer number service other
      → is_some (service.mailboxes other number) ≡ true
  held-box buffer number service other holds = here (service.mailboxes other number) holds
    where
      here : (o : Option (Mailbox T))
          → (length (unwrap_or o (record { limit = 0; waiting = []; borrowed = [] })).borrowed == 0) ≡ false → is_some o ≡ true
      here None e = absurd (true≢false e)
      here (Some box) e = refl

  -- who is refused isn't connected
  now-none : (buffer number : ℕ) (service : Service T) (staying refused : List ℕ) (other : ℕ)
      → AllByRecursion (Holds buffer number service) staying
      → contains refused other ≡ true → is_some (service.mailboxes other number) ≡ false → (places : List (Option ℕ × Option ℕ))
      → contains (those (map (now_at staying refused) places)) other ≡ false
  now-none buffer number service staying refused other all refuses none [] = refl
  now-none buffer number service staying refused other all refuses none ((before, listed) ∷ more) =
      here before listed (now-none buffer number service staying refused other all refuses none more)
    where
      others : (port : ℕ) (off : contains refused port ≡ false) → (port == other) ≡ false
      others port off =
          false_from_ne_true (port == other) (λ one. true≢false (sym refuses
          ∙ (ap (contains refused) (sym (eqb-true port other one)) ∙ off)))

      fresh : (listed : Option ℕ) → contains (those (map (now_at staying refused) more)) other ≡ false
          → contains (cons_option (unless refused listed) (those (map (now_at staying refused) more))) other ≡ false
      fresh None rest = rest
      fresh (Some port) rest = chosen_so (contains refused port) refl
        where
          chosen_so : (b : Bool) → contains refused port ≡ b
              → contains (cons_option (cond b None (Some port)) (those (map (now_at staying refused) more))) other ≡ false
          chosen_so true is = rest
          chosen_so false is =
              or-false (port == other) (contains (those (map (now_at staying refused) more)) other) (others port is) rest

      here : (before listed : Option ℕ) → contains (those (map (now_at staying refused) more)) other ≡ false
          → contains (cons_option (now_at staying refused (before, listed)) (those (map (now_at staying refused) more))) other ≡ false
      here None listed rest = fresh listed rest
      here (Some port) listed rest = chosen_so (contains staying port) refl
        where
          chosen_so : (b : Bool) → contains staying port ≡ b
              → contains (cons_option (cond b (Some port) (unless refused listed)) (those (map (now_at staying refused) more))) other
              ≡ false
          chosen_so true is =
              or-false (port == other) (contains (those (map (now_at staying refused) more)) other)
              (false_from_ne_true (port == other) (λ one. true≢false (sym (held-box buffer number service port
              (held-one buffer number service staying port all is))
              ∙ (ap (λ (n : ℕ). is_some (service.mailboxes n number)) (eqb-true port other one) ∙ none)))) rest
          chosen_so false is = fresh listed rest

  -- the publishers that stay, once all that left parted
  abbrev staying_of : ℕ → ℕ → Subscriber → Service T → List ℕ
  staying_of buffer number subscriber old =
      (fold (part buffer number old) (record { expired = subscriber.expired; staying = [] })
      (parting (zip subscriber.connected old.publisher_list.places))).staying

  staying-hold : (buffer number : ℕ) (subscriber : Subscriber) (old : Service T)
      → AllByRecursion (Holds buffer number old) (staying_of buffer number subscriber old)
  staying-hold buffer number subscriber old =
      fold-keeps (λ (parted : Parted). AllByRecursion (Holds buffer number old) parted.staying) (part buffer number old)
      (λ parted publisher all. part-stays buffer number old parted publisher all)
      (parting (zip subscriber.connected old.publisher_list.places)) (record { expired = subscriber.expired; staying = [] }) tt

  -- what is borrowed of a connection is so after others are made
  holds-on : (buffer limit number other : ℕ) (publishers : List ℕ) (service : Service T) → Holds buffer number service other
      → Holds buffer number (fold (λ it publisher. connect limit publisher number it) service publishers) other
  holds-on buffer limit number other publishers service holds = here (service.mailboxes other number) refl
    where
      here : (o : Option (Mailbox T)) → service.mailboxes other number ≡ o
          → Holds buffer number (fold (λ it publisher. connect limit publisher number it) service publishers) other
      here None is =
          absurd (true≢false (sym (held-box buffer number service other holds) ∙ ap (λ (o : Option (Mailbox T)). is_some o) is))
      here (Some box) is =
          ap (λ (o : Option (Mailbox T)). length (unwrap_or o (record { limit = 0; waiting = []; borrowed = [] })).borrowed == 0)
          (fold-keeps (StaysAt other number box) (λ it publisher. connect limit publisher number it)
          (λ it publisher there. connect-stays limit number publisher other box it there) publishers service is ∙ sym is) ∙ holds

  pub subscriber-followed : (buffer number : ℕ) (subscriber : Subscriber) (old : Service T) (after : Subscriber) (new : Service T)
      → subscribing.Follows buffer number subscriber old after new
      → Same (with_subscriber number after old) new × (after.stands ≡ subscriber.stands) × (after.seen ≡ old.publisher_list.changes)
      × (after.degradation ≡ subscriber.degradation)
      × AllByRecursion (IsFollowedOrStays (λ publisher. is_some (new.mailboxes publisher number)) (is_unborrowed buffer number new))
      (zip old.publisher_list.places after.connected)
  subscriber-followed buffer number subscriber old after new (refused, allowed, listed, is, turned, came) = (
    subst (λ (it : Service T). Same (with_subscriber number after old) it) (sym came)
        (fold-keeps (Same (with_subscriber number after old)) (λ it publisher. connect subscriber.buffer_size publisher number it)
        (λ it publisher same. same-connected (with_subscriber number after old) subscriber.buffer_size publisher number it same)
        (those listed) (with_subscriber number after old) (refl, refl, refl, refl)),
    ap (λ (it : Subscriber). it.stands) turned,
    ap (λ (it : Subscriber). it.seen) turned,
    ap (λ (it : Subscriber). it.degradation) turned,
    subst (λ (connected : List (Option ℕ)). AllByRecursion
        (IsFollowedOrStays (λ publisher. is_some (new.mailboxes publisher number)) (is_unborrowed buffer number new))
        (zip old.publisher_list.places connected)) (sym (ap (λ (it : Subscriber). it.connected) turned ∙ is))
        (now-followed (λ publisher. is_some (new.mailboxes publisher number)) (is_unborrowed buffer number new)
        (staying_of buffer number subscriber old) refused
        (λ other stays. subst (λ (it : Service T). Holds buffer number it other) (sym came)
        (holds-on buffer subscriber.buffer_size number other (those listed) (with_subscriber number after old)
        (held-one buffer number old (staying_of buffer number subscriber old) other (staying-hold buffer number subscriber old) stays)))
        none subscriber.connected old.publisher_list.places),
  )
    where
      unmade : (other : ℕ) → contains refused other ≡ true → is_some (old.mailboxes other number) ≡ false
      unmade other refuses =
          not-true (is_some (old.mailboxes other number))
          (both-true (contains (those old.publisher_list.places) other) (not (is_some (old.mailboxes other number)))
          (all-any (λ one. contains (those old.publisher_list.places) one && not (is_some (old.mailboxes one number))) refused other allowed
          refuses)).1

      none : (other : ℕ) → contains refused other ≡ true → is_some (new.mailboxes other number) ≡ false
      none other refuses =
          ap (λ (it : Service T). is_some (it.mailboxes other number)) came
          ∙ (ap (λ (o : Option (Mailbox T)). is_some o)
          (fold-connect-off subscriber.buffer_size number other (those listed) (with_subscriber number after old)
          (ap (λ (connected : List (Option ℕ)). contains (those connected) other) is
          ∙ now-none buffer number old (staying_of buffer number subscriber old) refused other
          (staying-hold buffer number subscriber old) refuses (unmade other refuses)
          (zip subscriber.connected old.publisher_list.places)))
          ∙ unmade other refuses)

  abbrev SubscriberEnd : (choices : Choices T) → ℕ → ℕ → State T → State T → Type 0
  SubscriberEnd choices buffer number old new =
      (service : Service T) × (one : Subscriber)
      × (find (λ (other : Service T). is_some (subscriber_in number other)) new.services ≡ Some service)
      × (subscriber_in number service ≡ Some one)
      × (one.seen ≡ service.publisher_list.changes)
      × ((new ≡ old)
      ⊎ (AllByRecursion
      (IsFollowedOrStays (λ publisher. is_some (service.mailboxes publisher number)) (is_unborrowed buffer number service))
      (zip service.publisher_list.places one.connected)
      × UpdateAnswers (choices.subscriber_acts number one.degradation) (zip service.publisher_list.places one.connected) (Ok tt)))

  subscriber-end : (choices : Choices T) (buffer number : ℕ) (old new : State T) (service : Service T) (one : Subscriber)
      (mid : Service T) (after : Subscriber)
      → find (λ (other : Service T). is_some (subscriber_in number other)) old.services ≡ Some service
      → subscriber_in number service ≡ Some one → subscribing.Follows buffer number one service after mid
      → UpdateAnswers (choices.subscriber_acts number one.degradation) (zip service.publisher_list.places after.connected) (Ok tt)
      → new ≡ record old { services = replaced (λ (other : Service T). is_some (subscriber_in number other)) mid old.services }
      → SubscriberEnd choices buffer number old new
  subscriber-end choices buffer number old new service one mid after first found followed well came =
      let did : Same (with_subscriber number after service) mid × (after.stands ≡ one.stands)
      × (after.seen ≡ service.publisher_list.changes) × (after.degradation ≡ one.degradation)
      × AllByRecursion (IsFollowedOrStays (λ publisher. is_some (mid.mailboxes publisher number)) (is_unborrowed buffer number mid))
      (zip service.publisher_list.places after.connected) =
      subscriber-followed buffer number one service after mid followed in
      let was : (one.stands ≡ true) × (at number service.subscribers ≡ Some one) =
      subscriber-stood (at number service.subscribers) one found in
      let there : subscriber_in number mid ≡ Some after =
      subscriber-standing after (at number mid.subscribers) (did.1 ∙ was.0)
      (ap (at number) did.0.1 ∙ at-changed number after one service.subscribers was.1) in (
        mid,
        after,
        ap (λ (it : State T). find (λ (other : Service T). is_some (subscriber_in number other)) it.services) came
            ∙ find-replaced (λ (other : Service T). is_some (subscriber_in number other)) service mid old.services first
            (ap (λ (o : Option Subscriber). is_some o) there),
        there,
        did.2 ∙ ap (λ (list : PortList). list.changes) (sym did.0.2),
        inr (
          subst (λ (list : PortList). AllByRecursion
              (IsFollowedOrStays (λ publisher. is_some (mid.mailboxes publisher number)) (is_unborrowed buffer number mid))
              (zip list.places after.connected)) (sym did.0.2) did.4,
          subst (λ (list : PortList). UpdateAnswers (choices.subscriber_acts number after.degradation) (zip list.places after.connected)
              (Ok tt)) (sym did.0.2)
              (subst (λ (it : DegradationAction). UpdateAnswers (choices.subscriber_acts number it)
              (zip service.publisher_list.places after.connected) (Ok tt)) (sym did.3) well),
        ),
      )

  subscriber-updated : (choices : Choices T) (buffer number : ℕ) (old new : State T)
      → AtOne (subscriber_in number) (subscribing.UpdatesFirst choices buffer number refusal.Connection
      (λ (it : Subscriber) (mid : Service T) (answered : Reply T) (end : Service T). (answered ≡ reply.Done) × (end ≡ mid))) old done new
      → SubscriberEnd choices buffer number old new
  subscriber-updated choices buffer number old new h = elim (at-one (subscriber_in number)
      (subscribing.UpdatesFirst choices buffer number refusal.Connection
      (λ (it : Subscriber) (mid : Service T) (answered : Reply T) (end : Service T). (answered ≡ reply.Done) × (end ≡ mid)))
      old done new h) [
        | inl skipped ↦ never reply.Skipped skipped.0 refl
        | inr w ↦ updated w.0 w.1 w.2 w.3 w.4 w.5 w.6
      ]
    where
      updated : (service : Service T) (one : Subscriber) (end : Service T)
          → find (λ (other : Service T). is_some (subscriber_in number other)) old.services ≡ Some service
          → subscriber_in number service ≡ Some one
          → subscribing.UpdatesFirst choices buffer number refusal.Connection
          (λ (it : Subscriber) (mid : Service T) (answered : Reply T) (end : Service T). (answered ≡ reply.Done) × (end ≡ mid)) one service
          done end
          → new ≡ record old { services = replaced (λ (other : Service T). is_some (subscriber_in number other)) end old.services }
          → SubscriberEnd choices buffer number old new
      updated service one end first found did came =
          elim (by-bool ((one.seen == service.publisher_list.changes) && not one.again) ((done ≡ reply.Done) × (end ≡ service))
          ((after : Subscriber) × (mid : Service T) × subscribing.Follows buffer number one service after mid
          × Outcomes (choices.subscriber_acts number one.degradation) (zip service.publisher_list.places after.connected)
          (λ well. (done ≡ reply.Done) × (end ≡ mid)) (λ failure. IsRefused (refusal.Connection failure) mid done end)) did) [
            | inl w ↦
                let same : new ≡ old =
                unmoved (λ (other : Service T). is_some (subscriber_in number other)) service end old new first w.1.1 came in (
                  service,
                  one,
                  ap (λ (it : State T). find (λ (other : Service T). is_some (subscriber_in number other)) it.services) same ∙ first,
                  found,
                  eqb-true one.seen service.publisher_list.changes
                      (both-true (one.seen == service.publisher_list.changes) (not one.again) w.0).0,
                  inl same,
                )
            | inr w ↦ elim (by-outcome (choices.subscriber_acts number one.degradation) (zip service.publisher_list.places w.1.0.connected)
                (λ well. (done ≡ reply.Done) × (end ≡ w.1.1)) (λ failure. IsRefused (refusal.Connection failure) w.1.1 done end) w.1.3) [
                  | inl r ↦ subscriber-end choices buffer number old new service one w.1.1 w.1.0 first found w.1.2 r.1
                      (came ∙ ap (λ (it : Service T). record old {
                        services = replaced (λ (other : Service T). is_some (subscriber_in number other)) it old.services;
                      }) r.2.1)
                  | inr r ↦ never (reply.Refused (refusal.Connection r.0)) r.2.0 refl
                ]
          ]

pub publisher-is-updated : {T : Type 0} (choices : Choices T) → PublisherIsUpdated choices
publisher-is-updated choices types buffer number old new h = publisher-updated choices number old new h

pub subscriber-is-updated : {T : Type 0} (choices : Choices T) → SubscriberIsUpdated choices
subscriber-is-updated choices types buffer number old new h = subscriber-updated choices buffer number old new h
