-- Who has seen all changes of a list is connected to all that are listed, but where a connection failed: at each service, whatever its
-- ports do.
use Rattle.std.proofs.Common.{◌≡◌, ◌≤◌, ◌⊎◌, ◌+◌, ℕ, Bool, true, false, cond, not, ◌&&◌, ◌||◌, List, [], ◌∷◌, ◌++◌, length, map}
use Rattle.std.proofs.Common.{Option, None, Some, refl, sym, ap, subst, inl, inr, arith, ◌∙◌, true≢false}
use Rattle.std.proofs.lemmas.Bool.{eq-eqb, eqb-true}
use Rattle.std.proofs.lemmas.List.{length-map, length-replicate, length-set}
use Rattle.std.specs.List.{AllByRecursion, list_any}
use Rattle.std.specs.Prelude.{◌==◌, find, fold, is_some, option_map, zip}
use Rattle.iox_machine.specs.Arriving.{new_publisher, new_subscriber}
use Rattle.iox_machine.specs.FollowLaws.{IsConnectedOrFailed, IsConnectedOrStays}
use Rattle.iox_machine.specs.PortList.{PortList, those, unless}
use Rattle.iox_machine.specs.PublisherUpdate as publishing
use Rattle.iox_machine.specs.Service.{Publisher, Service, Subscriber, new_service}
use Rattle.iox_machine.specs.State.{Made}
use Rattle.iox_machine.specs.SubscriberUpdate as subscribing
use Rattle.iox_machine.specs.Table.{at, changed, contains}
use Rattle.iox_machine.proofs.Cases.{both-true, never-some, same-some}
use Rattle.iox_machine.proofs.Frames.{by-follows, soft-followed}
use Rattle.iox_machine.proofs.Linking.{Turned, has_box, turned-walks}
use Rattle.iox_machine.proofs.Lists.{all-weaker}
use Rattle.iox_machine.proofs.Parts.{all-contained}
use Rattle.iox_machine.proofs.Shorthands.{gone_from, left, now_at, parting, registered, with_publisher, with_subscriber}
use Rattle.iox_machine.proofs.Updated.{Same, publisher-followed, subscriber-followed}
use Rattle.iox_machine.proofs.Walks.{Moved, Publishes, Subscribes, Unpublishes, Unsubscribes, Walks}
use Rattle.iox_command.specs.NegotiateBase.DescribeSettings.declared.static_config.publish_subscribe.StaticConfig.{StaticConfig}
use Rattle.iox_command.specs.declared.reply.Reply.{Reply}

-- ---- lists

zip-long : (xs ys : List (Option ℕ)) → length xs ≡ length ys → length (zip xs ys) ≡ length ys
zip-long [] [] same = refl
zip-long [] (y ∷ ys) same = absurd (omega (arith, same))
zip-long (x ∷ xs) [] same = absurd (omega (arith, same))
zip-long (x ∷ xs) (y ∷ ys) same = let rest = zip-long xs ys (omega (arith, same)) in omega (arith, rest)

itself : (n : ℕ) → n ≤ n
itself n = omega arith

up-one : (n m l : ℕ) → l ≡ m + 1 → n ≤ m → n ≤ l
up-one n m l next h = omega (arith, next, h)

never-next : {A : Type 0} (n m l : ℕ) → l ≡ m + 1 → n ≤ m → n ≡ l → A
never-next n m l next h same = absurd (wrong n m l next h same)
  where
    wrong : (n m l : ℕ) → l ≡ m + 1 → n ≤ m → n ≡ l → ⊥
    wrong n m l next h same = omega (arith, next, h, same)

neither : (b c : Bool) → (b || c) ≡ false → (b ≡ false) × (c ≡ false)
neither true c e = absurd (true≢false e)
neither false c e = (refl, e)

none-false : (b : Bool) → not b ≡ true → b ≡ false
none-false true e = sym e
none-false false e = refl

module _ {V : Type 0} (P : ℕ → V → Type 0) where
  -- what is so of all is so of what goes by a number
  pub all-at : (number : ℕ) (v : V) (table : List (ℕ × V)) → at number table ≡ Some v
      → AllByRecursion (λ (entry : ℕ × V). P entry.0 entry.1) table → P number v
  all-at number v [] found all = never-some v found
  all-at number v (entry ∷ more) found all =
      here (entry.0 == number) refl found (λ later. all-at number v more later all.1)
    where
      here : (b : Bool) → (entry.0 == number) ≡ b
          → option_map (λ (e : ℕ × V). e.1) (cond b (Some entry) (find (λ (e : ℕ × V). e.0 == number) more)) ≡ Some v
          → (at number more ≡ Some v → P number v) → P number v
      here true same found on =
          subst (λ (n : ℕ). P n v) (eqb-true entry.0 number same) (subst (λ (it : V). P entry.0 it) (same-some entry.1 v found) all.0)
      here false off found on = on found

  all-changed : (number : ℕ) (v : V) (table : List (ℕ × V)) → P number v → AllByRecursion (λ (entry : ℕ × V). P entry.0 entry.1) table
      → AllByRecursion (λ (entry : ℕ × V). P entry.0 entry.1) (changed number v table)
  all-changed number v [] so all = tt
  all-changed number v (entry ∷ more) so all = (here (entry.0 == number), all-changed number v more so all.1)
    where
      here : (b : Bool) → P (cond b (number, v) entry).0 (cond b (number, v) entry).1
      here true = so
      here false = all.0

  -- one that comes is another at once
  all-came : (number : ℕ) (v one : V) (table : List (ℕ × V)) → P number v
      → AllByRecursion (λ (entry : ℕ × V). P entry.0 entry.1) table
      → AllByRecursion (λ (entry : ℕ × V). P entry.0 entry.1) (changed number v (table ++ (number, one) ∷ []))
  all-came number v one [] so all = (here (number == number) (eq-eqb number number refl), tt)
    where
      here : (b : Bool) → b ≡ true → P (cond {A = ℕ × V} b (number, v) (number, one)).0 (cond {A = ℕ × V} b (number, v) (number, one)).1
      here true is = so
      here false is = absurd (true≢false (sym is))
  all-came number v one (entry ∷ more) so all = (here (entry.0 == number), all-came number v one more so all.1)
    where
      here : (b : Bool) → P (cond b (number, v) entry).0 (cond b (number, v) entry).1
      here true = so
      here false = all.0

-- ---- places

module _ (Failed : ℕ → Type 0) (refused : List ℕ) (on : (number : ℕ) → contains refused number ≡ true → Failed number) where
  unless-failed : (place : Option ℕ) → IsConnectedOrFailed Failed (place, unless refused place)
  unless-failed None = tt
  unless-failed (Some port) = here (contains refused port) refl
    where
      here : (b : Bool) → contains refused port ≡ b → IsConnectedOrFailed Failed (Some port, cond b None (Some port))
      here true is = inr (refl, on port is)
      here false is = inl refl

  all-unless : (places : List (Option ℕ)) → AllByRecursion (IsConnectedOrFailed Failed) (zip places (map (unless refused) places))
  all-unless [] = tt
  all-unless (place ∷ more) = (unless-failed place, all-unless more)

  -- whether another is connected where one is listed
  abbrev another : Option ℕ × Option ℕ → Bool
  another place = is_some place.1 && is_some (gone_from place)

  module _ (staying : List ℕ) (again : Bool) where
    now-connected : (was listed : Option ℕ)
        → (again ≡ true) ⊎ (another (now_at staying refused (was, listed), listed) ≡ false)
        → IsConnectedOrStays Failed again (listed, now_at staying refused (was, listed))
    now-connected was None either = inl tt
    now-connected None (Some q) either = inl (unless-failed (Some q))
    now-connected (Some w) (Some q) either = here (contains staying w) either
      where
        same : (b : Bool) → (q == w) ≡ b → is_some (cond (b || false) None (Some w)) ≡ false → w ≡ q
        same true is none = sym (eqb-true q w is)
        same false is none = absurd (true≢false none)

        here : (b : Bool) → (again ≡ true) ⊎ (another (cond b (Some w) (unless refused (Some q)), Some q) ≡ false)
            → IsConnectedOrStays Failed again (Some q, cond b (Some w) (unless refused (Some q)))
        here false h = inl (unless-failed (Some q))
        here true (inl is) = inr (is, w, refl)
        here true (inr none) = inl (inl (ap (λ (n : ℕ). Some n) (same (q == w) refl none)))

    all-now : (befores listeds : List (Option ℕ))
        → (again ≡ true) ⊎ (list_any another (zip (map (now_at staying refused) (zip befores listeds)) listeds) ≡ false)
        → AllByRecursion (IsConnectedOrStays Failed again) (zip listeds (map (now_at staying refused) (zip befores listeds)))
    all-now [] [] either = tt
    all-now [] (listed ∷ more) either = tt
    all-now (before ∷ befores) [] either = tt
    all-now (before ∷ befores) (listed ∷ listeds) either =
        (now-connected before listed (first either), all-now befores listeds (rest either))
      where
        one : Bool
        one = another (now_at staying refused (before, listed), listed)

        others : Bool
        others = list_any another (zip (map (now_at staying refused) (zip befores listeds)) listeds)

        first : (again ≡ true) ⊎ ((one || others) ≡ false) → (again ≡ true) ⊎ (one ≡ false)
        first (inl is) = inl is
        first (inr none) = inr (neither one others none).0

        rest : (again ≡ true) ⊎ ((one || others) ≡ false) → (again ≡ true) ⊎ (others ≡ false)
        rest (inl is) = inl is
        rest (inr none) = inr (neither one others none).1

either-so : (b : Bool) → (b ≡ true) ⊎ (b ≡ false)
either-so true = inl refl
either-so false = inr refl

-- ---- one service

-- A failure to connect is told of a list of ports, the port that follows that list, and the port that is listed.
module _ (Fails : PortList → ℕ → ℕ → Type 0) where
  -- A publisher that has seen n changes of a list, and is connected so, is connected to all that are listed if it has seen all.
  abbrev pub PublisherKeepsUp : PortList → ℕ → ℕ → List (Option ℕ) → Type 0
  PublisherKeepsUp list number seen connected =
      (seen ≤ list.changes)
      × (seen ≡ list.changes → (length connected ≡ length list.places)
      × AllByRecursion (IsConnectedOrFailed (Fails list number)) (zip list.places connected))

  -- So it is of a subscriber.
  abbrev pub SubscriberKeepsUp : PortList → ℕ → ℕ → Bool → List (Option ℕ) → Type 0
  SubscriberKeepsUp list number seen again connected =
      (length connected ≡ length list.places) × (seen ≤ list.changes)
      × (seen ≡ list.changes → AllByRecursion (IsConnectedOrStays (Fails list number) again) (zip list.places connected))

  later-publisher : (list next : PortList) → next.changes ≡ list.changes + 1 → (number seen : ℕ) (connected : List (Option ℕ))
      → PublisherKeepsUp list number seen connected → PublisherKeepsUp next number seen connected
  later-publisher list next later number seen connected up = (
    up-one seen list.changes next.changes later up.0,
    (λ same. never-next seen list.changes next.changes later up.0 same),
  )

  later-subscriber : (list next : PortList) → length next.places ≡ length list.places → next.changes ≡ list.changes + 1
      → (number seen : ℕ) (again : Bool) (connected : List (Option ℕ))
      → SubscriberKeepsUp list number seen again connected → SubscriberKeepsUp next number seen again connected
  later-subscriber list next long later number seen again connected up = (
    up.0 ∙ sym long,
    up-one seen list.changes next.changes later up.1,
    (λ same. never-next seen list.changes next.changes later up.1 same),
  )

  later-subscribers : (list next : PortList) → length next.places ≡ length list.places → next.changes ≡ list.changes + 1
      → (table : List (ℕ × Subscriber))
      → AllByRecursion (λ (entry : ℕ × Subscriber). SubscriberKeepsUp list entry.0 entry.1.seen entry.1.again entry.1.connected) table
      → AllByRecursion (λ (entry : ℕ × Subscriber). SubscriberKeepsUp next entry.0 entry.1.seen entry.1.again entry.1.connected) table
  later-subscribers list next long later table all =
      all-weaker (λ (entry : ℕ × Subscriber). SubscriberKeepsUp list entry.0 entry.1.seen entry.1.again entry.1.connected)
      (λ (entry : ℕ × Subscriber). SubscriberKeepsUp next entry.0 entry.1.seen entry.1.again entry.1.connected)
      (λ entry up. later-subscriber list next long later entry.0 entry.1.seen entry.1.again entry.1.connected up) table all

module _ {T : Type 0} (Fails Lacks : PortList → ℕ → ℕ → Type 0) where
  abbrev AllKeepUp : ℕ → PortList → PortList → List (ℕ × Publisher T) → List (ℕ × Subscriber) → Type 0
  AllKeepUp most publisher_list subscriber_list publishers subscribers =
      (length publisher_list.places ≡ most)
      × AllByRecursion
      (λ (entry : ℕ × Publisher T). PublisherKeepsUp Fails subscriber_list entry.0 entry.1.seen entry.1.connected) publishers
      × AllByRecursion
      (λ (entry : ℕ × Subscriber). SubscriberKeepsUp Lacks publisher_list entry.0 entry.1.seen entry.1.again entry.1.connected) subscribers

  -- All ports of a service keep up.
  abbrev pub KeepsUp : Service T → Type 0
  KeepsUp service = AllKeepUp service.settings.max_publishers service.publisher_list service.subscriber_list service.publishers
      service.subscribers

  -- A failure is told of all that have no mailbox.
  abbrev pub TellsLacks : Service T → Type 0
  TellsLacks service = (p s : ℕ) → has_box p s service ≡ false
      → Fails service.subscriber_list p s × Lacks service.publisher_list s p

  -- Ports that stand, and no others, did something, and keep up.
  abbrev pub StaysUp : Service T → Service T → Type 0
  StaysUp old new = Turned old new × (new.settings ≡ old.settings) × (TellsLacks old → KeepsUp old → KeepsUp new)

  up-same : (old new : Service T) → new.settings ≡ old.settings → Same old new → KeepsUp old → KeepsUp new
  up-same old new settings same up =
      subst (λ (c : StaticConfig). AllKeepUp c.max_publishers new.publisher_list new.subscriber_list new.publishers new.subscribers)
      (sym settings)
      (subst (λ (list : PortList). AllKeepUp old.settings.max_publishers list new.subscriber_list new.publishers new.subscribers)
      (sym same.2)
      (subst (λ (list : PortList). AllKeepUp old.settings.max_publishers old.publisher_list list new.publishers new.subscribers)
      (sym same.3)
      (subst (λ (table : List (ℕ × Publisher T)). AllKeepUp old.settings.max_publishers old.publisher_list old.subscriber_list table
      new.subscribers) (sym same.0)
      (subst (λ (table : List (ℕ × Subscriber)). AllKeepUp old.settings.max_publishers old.publisher_list old.subscriber_list
      old.publishers table) (sym same.1) up))))

  lacks-later : (old new : Service T) → Turned old new → TellsLacks old → TellsLacks new
  lacks-later old new t tells p s none =
      let was : Fails old.subscriber_list p s × Lacks old.publisher_list s p = tells p s (earlier (has_box p s old) refl) in (
        subst (λ (list : PortList). Fails list p s) (sym t.subscriber_list) was.0,
        subst (λ (list : PortList). Lacks list s p) (sym t.publisher_list) was.1,
      )
    where
      earlier : (b : Bool) → has_box p s old ≡ b → b ≡ false
      earlier false is = refl
      earlier true is = absurd (true≢false (sym (t.boxes p s is) ∙ none))

  -- ---- a publisher follows the list of subscribers

  publisher-up : (number : ℕ) (was : Publisher T) (old : Service T) (after : Publisher T) (new : Service T)
      → publishing.Follows number was old after new → TellsLacks old
      → PublisherKeepsUp Fails old.subscriber_list number after.seen after.connected
  publisher-up number was old after new (refused, allowed, is, came) tells =
      subst (λ (it : Publisher T). PublisherKeepsUp Fails old.subscriber_list number it.seen it.connected) (sym is) (
        itself old.subscriber_list.changes,
        (λ same. (
          length-map old.subscriber_list.places (unless refused),
          all-unless (Fails old.subscriber_list number) refused failed old.subscriber_list.places,
        )),
      )
    where
      failed : (s : ℕ) → contains refused s ≡ true → Fails old.subscriber_list number s
      failed s out =
          (tells number s (none-false (has_box number s old)
          (both-true (contains (those old.subscriber_list.places) s) (not (has_box number s old))
          (all-contained s (λ (t : ℕ). contains (those old.subscriber_list.places) t && not (is_some (old.mailboxes number t))) refused
          allowed out)).1)).0

  stays-follows : (number : ℕ) (was : Publisher T) (old : Service T) (after : Publisher T) (new : Service T)
      → at number old.publishers ≡ Some was → publishing.Follows number was old after new → StaysUp old new
  stays-follows number was old after new found followed = (
    turned-walks.follows number was old after new found followed,
    (by-follows number was old after new followed).1,
    (λ tells up. up-same (with_publisher number after old) new (by-follows number was old after new followed).1
        (publisher-followed number was old after new followed).0 (
          up.0,
          all-changed (λ (n : ℕ) (it : Publisher T). PublisherKeepsUp Fails old.subscriber_list n it.seen it.connected) number after
              old.publishers (publisher-up number was old after new followed tells) up.1,
          up.2,
        )),
  )

  -- ---- a subscriber follows the list of publishers

  subscriber-up : (buffer number : ℕ) (was : Subscriber) (old : Service T) (after : Subscriber) (new : Service T)
      → subscribing.Follows buffer number was old after new → TellsLacks old
      → length was.connected ≡ length old.publisher_list.places
      → SubscriberKeepsUp Lacks old.publisher_list number after.seen after.again after.connected
  subscriber-up buffer number was old after new (refused, allowed, connected, is, turned, came) tells long =
      subst (λ (it : Subscriber). SubscriberKeepsUp Lacks old.publisher_list number it.seen it.again it.connected) (sym turned)
      (subst (λ (it : List (Option ℕ)). SubscriberKeepsUp Lacks old.publisher_list number old.publisher_list.changes (again_at it) it)
      (sym is) (
        length-map (zip was.connected old.publisher_list.places) (now_at staying refused)
            ∙ zip-long was.connected old.publisher_list.places long,
        itself old.publisher_list.changes,
        (λ same. all-now (Lacks old.publisher_list number) refused failed staying (again_at now) was.connected
            old.publisher_list.places (either-so (again_at now))),
      ))
    where
      staying : List ℕ
      staying = (fold (subscribing.part buffer number old) (record { expired = was.expired; staying = [] })
          (parting (zip was.connected old.publisher_list.places))).staying

      now : List (Option ℕ)
      now = map (now_at staying refused) (zip was.connected old.publisher_list.places)

      again_at : List (Option ℕ) → Bool
      again_at it =
          list_any (λ (place : Option ℕ × Option ℕ). is_some place.1 && is_some (gone_from place)) (zip it old.publisher_list.places)

      failed : (p : ℕ) → contains refused p ≡ true → Lacks old.publisher_list number p
      failed p out =
          (tells p number (none-false (has_box p number old)
          (both-true (contains (those old.publisher_list.places) p) (not (has_box p number old))
          (all-contained p (λ (q : ℕ). contains (those old.publisher_list.places) q && not (is_some (old.mailboxes q number))) refused
          allowed out)).1)).1

  stays-attends : (buffer number : ℕ) (was : Subscriber) (old : Service T) (after : Subscriber) (new : Service T)
      → at number old.subscribers ≡ Some was → subscribing.Follows buffer number was old after new → StaysUp old new
  stays-attends buffer number was old after new found followed = (
    turned-walks.attends buffer number was old after new found followed,
    (soft-followed buffer number was old after new followed).0.1,
    (λ tells up. up-same (with_subscriber number after old) new (soft-followed buffer number was old after new followed).0.1
        (subscriber-followed buffer number was old after new followed).0 (
          up.0,
          up.1,
          all-changed
              (λ (n : ℕ) (it : Subscriber). SubscriberKeepsUp Lacks old.publisher_list n it.seen it.again it.connected) number after
              old.subscribers
              (subscriber-up buffer number was old after new followed tells
              (all-at (λ (n : ℕ) (it : Subscriber). SubscriberKeepsUp Lacks old.publisher_list n it.seen it.again it.connected) number was
              old.subscribers found up.2).0) up.2,
        )),
  )

  -- ---- all that ports do

  stays-both : (one two three : Service T) → StaysUp one two → StaysUp two three → StaysUp one three
  stays-both one two three h k = (
    turned-walks.both one two three h.0 k.0,
    k.1 ∙ h.1,
    (λ tells up. k.2 (lacks-later one two h.0 tells) (h.2 tells up)),
  )

  stays-turned : (number : ℕ) (was after : Publisher T) (service : Service T) → at number service.publishers ≡ Some was
      → after.stands ≡ was.stands → after.connected ≡ was.connected → after.seen ≡ was.seen
      → StaysUp service (with_publisher number after service)
  stays-turned number was after service found stands connected seen = (
    turned-walks.turned number was after service found stands connected seen,
    refl,
    (λ tells up. (
      up.0,
      all-changed (λ (n : ℕ) (it : Publisher T). PublisherKeepsUp Fails service.subscriber_list n it.seen it.connected) number after
          service.publishers
          (subst (λ (n : ℕ). PublisherKeepsUp Fails service.subscriber_list number n after.connected) (sym seen)
          (subst (λ (it : List (Option ℕ)). PublisherKeepsUp Fails service.subscriber_list number was.seen it) (sym connected)
          (all-at (λ (n : ℕ) (it : Publisher T). PublisherKeepsUp Fails service.subscriber_list n it.seen it.connected) number was
          service.publishers found up.1))) up.1,
      up.2,
    )),
  )

  stays-swept : (number : ℕ) (was after : Subscriber) (service : Service T) → at number service.subscribers ≡ Some was
      → after.stands ≡ was.stands → after.connected ≡ was.connected → after.seen ≡ was.seen → after.again ≡ was.again
      → StaysUp service (with_subscriber number after service)
  stays-swept number was after service found stands connected seen again = (
    turned-walks.swept number was after service found stands connected seen again,
    refl,
    (λ tells up. (
      up.0,
      up.1,
      all-changed
          (λ (n : ℕ) (it : Subscriber). SubscriberKeepsUp Lacks service.publisher_list n it.seen it.again it.connected) number after
          service.subscribers
          (subst (λ (n : ℕ). SubscriberKeepsUp Lacks service.publisher_list number n after.again after.connected) (sym seen)
          (subst (λ (b : Bool). SubscriberKeepsUp Lacks service.publisher_list number was.seen b after.connected) (sym again)
          (subst (λ (it : List (Option ℕ)). SubscriberKeepsUp Lacks service.publisher_list number was.seen was.again it) (sym connected)
          (all-at (λ (n : ℕ) (it : Subscriber). SubscriberKeepsUp Lacks service.publisher_list n it.seen it.again it.connected) number was
          service.subscribers found up.2)))) up.2,
    )),
  )

  pub stays-walks : Walks StaysUp
  stays-walks = record {
    none = λ service. (turned-walks.none service, refl, (λ tells up. up));
    both = stays-both;
    lent = λ loans service. (turned-walks.lent loans service, refl, (λ tells up. up));
    held = λ samples service. (turned-walks.held samples service, refl, (λ tells up. up));
    boxed = λ publisher subscriber box service. (turned-walks.boxed publisher subscriber box service, refl, (λ tells up. up));
    turned = stays-turned;
    follows = stays-follows;
    swept = stays-swept;
    attends = stays-attends;
  }

  -- ---- ports come and leave

  later-publishers : (list next : PortList) → next.changes ≡ list.changes + 1 → (table : List (ℕ × Publisher T))
      → AllByRecursion (λ (entry : ℕ × Publisher T). PublisherKeepsUp Fails list entry.0 entry.1.seen entry.1.connected) table
      → AllByRecursion (λ (entry : ℕ × Publisher T). PublisherKeepsUp Fails next entry.0 entry.1.seen entry.1.connected) table
  later-publishers list next later table all =
      all-weaker (λ (entry : ℕ × Publisher T). PublisherKeepsUp Fails list entry.0 entry.1.seen entry.1.connected)
      (λ (entry : ℕ × Publisher T). PublisherKeepsUp Fails next entry.0 entry.1.seen entry.1.connected)
      (λ entry up. later-publisher Fails list next later entry.0 entry.1.seen entry.1.connected up) table all

  up-publishes : (made : Made) (service : Service T) (answer : Reply T) (new : Service T) → Publishes made service answer new
      → TellsLacks service → KeepsUp service → KeepsUp new
  up-publishes made service answer new (factory, options, (place, free, after, mid, followed, told, is)) tells up =
      subst KeepsUp (sym is) (
        length-set mid.publisher_list.places place (Some number) ∙ then.0,
        then.1,
        later-subscribers Lacks mid.publisher_list (registered place number mid.publisher_list)
            (length-set mid.publisher_list.places place (Some number)) refl mid.subscribers then.2,
      )
    where
      number : ℕ
      number = made.publishers + 1

      one : Publisher T
      one = new_publisher factory options service.settings

      more : Service T
      more = record service { publishers = service.publishers ++ (number, one) ∷ [] }

      then : KeepsUp mid
      then = up-same (with_publisher number after more) mid (by-follows number one more after mid followed).1
          (publisher-followed number one more after mid followed).0 (
            up.0,
            all-came (λ (n : ℕ) (it : Publisher T). PublisherKeepsUp Fails service.subscriber_list n it.seen it.connected) number after one
                service.publishers (publisher-up number one more after mid followed tells) up.1,
            up.2,
          )

  up-subscribes : (made : Made) (service : Service T) (answer : Reply T) (new : Service T) → Subscribes made service answer new
      → TellsLacks service → KeepsUp service → KeepsUp new
  up-subscribes made service answer new (buffer, factory, options, (place, free, after, mid, followed, told, is)) tells up =
      subst KeepsUp (sym is) (
        then.0,
        later-publishers mid.subscriber_list (registered place number mid.subscriber_list) refl mid.publishers then.1,
        then.2,
      )
    where
      number : ℕ
      number = made.subscribers + 1

      one : Subscriber
      one = new_subscriber factory options service.settings

      more : Service T
      more = record service { subscribers = service.subscribers ++ (number, one) ∷ [] }

      then : KeepsUp mid
      then = up-same (with_subscriber number after more) mid (soft-followed buffer number one more after mid followed).0.1
          (subscriber-followed buffer number one more after mid followed).0 (
            up.0,
            up.1,
            all-came
                (λ (n : ℕ) (it : Subscriber). SubscriberKeepsUp Lacks service.publisher_list n it.seen it.again it.connected) number after
                one service.subscribers
                (subscriber-up buffer number one more after mid followed tells
                (length-replicate service.settings.max_publishers None ∙ sym up.0)) up.2,
          )

  up-unpublishes : (service new : Service T) → Unpublishes service new → KeepsUp service → KeepsUp new
  up-unpublishes service new (number, one, found, is) up =
      let long : length (map (unless (number ∷ [])) service.publisher_list.places) ≡ length service.publisher_list.places =
      length-map service.publisher_list.places (unless (number ∷ [])) in
      subst KeepsUp (sym is) (
        long ∙ up.0,
        all-changed (λ (n : ℕ) (it : Publisher T). PublisherKeepsUp Fails service.subscriber_list n it.seen it.connected) number
            (record one { stands = false }) service.publishers
            (all-at (λ (n : ℕ) (it : Publisher T). PublisherKeepsUp Fails service.subscriber_list n it.seen it.connected) number one
            service.publishers found up.1) up.1,
        later-subscribers Lacks service.publisher_list (left number service.publisher_list) long refl service.subscribers up.2,
      )

  up-unsubscribes : (service new : Service T) → Unsubscribes service new → KeepsUp service → KeepsUp new
  up-unsubscribes service new (number, one, found, is) up =
      subst KeepsUp (sym is) (
        up.0,
        later-publishers service.subscriber_list (left number service.subscriber_list) refl service.publishers up.1,
        all-changed
            (λ (n : ℕ) (it : Subscriber). SubscriberKeepsUp Lacks service.publisher_list n it.seen it.again it.connected) number
            (record one { stands = false }) service.subscribers
            (all-at (λ (n : ℕ) (it : Subscriber). SubscriberKeepsUp Lacks service.publisher_list n it.seen it.again it.connected) number one
            service.subscribers found up.2) up.2,
      )

  pub up-moved : (made : Made) (service : Service T) (answer : Reply T) (after : Service T)
      → Moved StaysUp stays-walks made service answer after → TellsLacks service → KeepsUp service → KeepsUp after
  up-moved made service answer after (inl stays) tells up = stays.2 tells up
  up-moved made service answer after (inr (inl came)) tells up = up-publishes made service answer after came tells up
  up-moved made service answer after (inr (inr (inl came))) tells up = up-subscribes made service answer after came tells up
  up-moved made service answer after (inr (inr (inr (inl gone)))) tells up = up-unpublishes service after gone up
  up-moved made service answer after (inr (inr (inr (inr gone)))) tells up = up-unsubscribes service after gone up

pub up-new : (T : Type 0) (Fails Lacks : PortList → ℕ → ℕ → Type 0) (name : List ℕ) (c : StaticConfig)
    → KeepsUp {T = T} Fails Lacks (new_service name c)
up-new T Fails Lacks name c = (length-replicate c.max_publishers None, tt, tt)
