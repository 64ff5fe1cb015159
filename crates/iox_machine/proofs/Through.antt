-- What an update leaves of a service: its mailboxes, with what is borrowed and waits, and its ports but for connections.
use Rattle.std.proofs.Common.{◌≡◌, ◌⊎◌, ℕ, Bool, true, false, cond, not, ◌&&◌, ◌||◌, List, [], ◌∷◌, Option, None, Some, refl, sym, ap}
use Rattle.std.proofs.Common.{subst, inl, inr, ◌∙◌, true≢false}
use Rattle.std.proofs.lemmas.Bool.{and_from, and_right, cases_Bool, eq-eqb, eqb-false, eqb-true, false_from_ne_true}
use Rattle.std.specs.Option.{option_map_or}
use Rattle.std.specs.Prelude.{◌==◌, filter, find, fold, is_some, option_map, unwrap_or, MatchOption, zip}
use Rattle.iox_machine.specs.Choices.{Choices}
use Rattle.iox_machine.proofs.Delivering.{Outcomes, by-outcome}
use Rattle.iox_machine.specs.Mailbox.{Mailbox, newest}
use Rattle.iox_machine.specs.Message.{Message}
use Rattle.iox_machine.specs.PortList.{those}
use Rattle.iox_machine.specs.Ports.{publisher_in, subscriber_in}
use Rattle.iox_machine.specs.PublisherUpdate as publishing
use Rattle.iox_machine.specs.RefusalLaws.{KeepsMessages, KeepsPorts, publisher_staying, subscriber_staying}
use Rattle.iox_machine.specs.Service.{Publisher, Service, Subscriber, connect, mailbox, with_mailbox}
use Rattle.iox_machine.proofs.Shorthands.{with_publisher, with_subscriber, IsSkipped, IsRefused}
use Rattle.iox_machine.specs.State.{State, replaced}
use Rattle.iox_machine.specs.SubscriberUpdate as subscribing
use Rattle.iox_machine.specs.Table.{at, contains}
use Rattle.iox_machine.specs.UpdateLaws.{PublisherKeepsMailboxes, SubscriberKeepsMailboxes, UpdateLeaves, box_then, first_box, waits_then}
use Rattle.iox_machine.proofs.Cases.{both-true, by-bool, by-option, never-some, same-some}
use Rattle.iox_machine.proofs.Frames.{ByPublisher, BySubscriber, box-same, by-follows, publisher-stands, soft-followed, soft-follows}
use Rattle.iox_machine.proofs.Frames.{subscriber-stands}
use Rattle.iox_machine.proofs.Linking.{Turned, changed-view, reach, reach_of, subscriber_listed, turned-walks}
use Rattle.iox_machine.proofs.Listed.{publisher-standing, subscriber-standing}
use Rattle.iox_machine.proofs.Lists.{fold-keeps}
use Rattle.iox_machine.proofs.Moving.{at-one}
use Rattle.iox_machine.proofs.Nexts.{same-followed, same-subscriber-follows}
use Rattle.iox_machine.proofs.Order.{absurd-both, follows-publishers}
use Rattle.iox_machine.proofs.Parts.{all-contained, contains-filter, contains-unless}
use Rattle.iox_machine.proofs.Updated.{find-replaced, fold-off, unmoved, welcome-off}
use Rattle.iox_command.specs.declared.refusal.Refusal.TheVariants as refusal
use Rattle.iox_command.specs.declared.reply.Reply.{Reply}
use Rattle.iox_command.specs.declared.reply.Reply.TheVariants as reply

-- where one fact is known and the other isn't so, both aren't
not-both : (b c : Bool) → c ≡ false → (b && c) ≡ false
not-both b c is = and_right b c is

module _ {T : Type 0} where
  abbrev pub borrowed_in : Option (Mailbox T) → List (Message T)
  borrowed_in box = (unwrap_or box (record { limit = 0; waiting = []; borrowed = [] })).borrowed

  -- ---- what is borrowed

  borrowed-connect : (p s limit a b : ℕ) (service : Service T)
      → borrowed_in ((connect limit a b service).mailboxes p s) ≡ borrowed_in (service.mailboxes p s)
  borrowed-connect p s limit a b service = here (is_some (service.mailboxes a b)) refl
    where
      made : Mailbox T
      made = record { limit = limit; waiting = []; borrowed = [] }

      nothing : (o : Option (Mailbox T)) → is_some o ≡ false → [] ≡ borrowed_in o
      nothing None is = refl
      nothing (Some box) is = absurd (true≢false is)

      there : is_some (service.mailboxes a b) ≡ false → (c : Bool) → ((p == a) && (s == b)) ≡ c
          → borrowed_in (cond c (Some made) (service.mailboxes p s)) ≡ borrowed_in (service.mailboxes p s)
      there none true same =
          nothing (service.mailboxes p s)
          (ap (λ (k : ℕ). is_some (service.mailboxes k s)) (eqb-true p a (both-true (p == a) (s == b) same).0)
          ∙ (ap (λ (k : ℕ). is_some (service.mailboxes a k)) (eqb-true s b (both-true (p == a) (s == b) same).1) ∙ none))
      there none false off = refl

      here : (c : Bool) → is_some (service.mailboxes a b) ≡ c
          → borrowed_in ((cond c service (with_mailbox a b made service)).mailboxes p s) ≡ borrowed_in (service.mailboxes p s)
      here true is = refl
      here false none = there none ((p == a) && (s == b)) refl

  pub borrowed-set : (p s a b : ℕ) (box : Mailbox T) (service : Service T) → box.borrowed ≡ borrowed_in (service.mailboxes a b)
      → borrowed_in ((with_mailbox a b box service).mailboxes p s) ≡ borrowed_in (service.mailboxes p s)
  borrowed-set p s a b box service same = here ((p == a) && (s == b)) refl
    where
      here : (c : Bool) → ((p == a) && (s == b)) ≡ c
          → borrowed_in (cond c (Some box) (service.mailboxes p s)) ≡ borrowed_in (service.mailboxes p s)
      here true is =
          same
          ∙ (ap (λ (k : ℕ). borrowed_in (service.mailboxes k b)) (sym (eqb-true p a (both-true (p == a) (s == b) is).0))
          ∙ ap (λ (k : ℕ). borrowed_in (service.mailboxes p k)) (sym (eqb-true s b (both-true (p == a) (s == b) is).1)))
      here false off = refl

  borrowed-welcome : (p s number : ℕ) (history : List (Message T)) (service : Service T) (t : ℕ)
      → borrowed_in ((publishing.welcome number history service t).mailboxes p s) ≡ borrowed_in (service.mailboxes p s)
  borrowed-welcome p s number history service t =
      let limit : ℕ = option_map_or (λ (one : Subscriber). one.buffer_size) (at t service.subscribers) 0 in
      let met : Service T = connect limit number t service in
      let box : Mailbox T = mailbox number t met in
      borrowed-set p s number t (record box { waiting = newest box.limit history }) met refl
      ∙ borrowed-connect p s limit number t service

  pub borrowed-welcomes : (p s number : ℕ) (history : List (Message T)) (news : List ℕ) (service : Service T)
      → borrowed_in ((fold (publishing.welcome number history) service news).mailboxes p s) ≡ borrowed_in (service.mailboxes p s)
  borrowed-welcomes p s number history [] service = refl
  borrowed-welcomes p s number history (t ∷ more) service =
      borrowed-welcomes p s number history more (publishing.welcome number history service t)
      ∙ borrowed-welcome p s number history service t

  pub borrowed-connects : (p s limit number : ℕ) (publishers : List ℕ) (service : Service T)
      → borrowed_in ((fold (λ (it : Service T) (publisher : ℕ). connect limit publisher number it) service publishers).mailboxes p s)
      ≡ borrowed_in (service.mailboxes p s)
  borrowed-connects p s limit number [] service = refl
  borrowed-connects p s limit number (one ∷ more) service =
      borrowed-connects p s limit number more (connect limit one number service) ∙ borrowed-connect p s limit one number service

  pub borrowed-ended : (p s number : ℕ) (service : Service T)
      → borrowed_in ((publishing.ended number service).mailboxes p s) ≡ borrowed_in (service.mailboxes p s)
  borrowed-ended p s number service =
      here ((p == number) && not (contains (those service.subscriber_list.places) s)) (service.mailboxes p s)
    where
      here : (c : Bool) (o : Option (Mailbox T))
          → borrowed_in (cond c (option_map (λ (box : Mailbox T). record box { waiting = [] }) o) o) ≡ borrowed_in o
      here true None = refl
      here true (Some box) = refl
      here false o = refl

  -- a mailbox that was there gets the history, if it is one of those that are welcomed
  welcomes-at : (number s : ℕ) (history : List (Message T)) (news : List ℕ) (service : Service T) (box : Mailbox T)
      → contains news s ≡ true → service.mailboxes number s ≡ Some box
      → (fold (publishing.welcome number history) service news).mailboxes number s
      ≡ Some (record box { waiting = newest box.limit history })
  welcomes-at number s history [] service box is there = absurd (true≢false (sym is))
  welcomes-at number s history (t ∷ more) service box is there =
      here (t == s) refl (contains more s) refl is
      (λ it again has. welcomes-at number s history more (publishing.welcome number history service t) it again has)
    where
      met : (limit : ℕ) → (b : Bool) → is_some (service.mailboxes number s) ≡ b
          → (cond b service (with_mailbox number s (record { limit = limit; waiting = []; borrowed = [] }) service)).mailboxes number s
          ≡ Some box
      met limit true has = there
      met limit false none = absurd (true≢false (sym (ap is_some there) ∙ none))

      first : (publishing.welcome number history service s).mailboxes number s
          ≡ Some (record box { waiting = newest box.limit history })
      first =
          let limit : ℕ = option_map_or (λ (one : Subscriber). one.buffer_size) (at s service.subscribers) 0 in
          let joined : Service T = connect limit number s service in
          box-same number s (record (mailbox number s joined) { waiting = newest (mailbox number s joined).limit history }) joined
          ∙ ap (λ (o : Option (Mailbox T)). Some (record (unwrap_or o (record { limit = 0; waiting = []; borrowed = [] })) {
            waiting = newest (unwrap_or o (record { limit = 0; waiting = []; borrowed = [] })).limit history;
          })) (met limit (is_some (service.mailboxes number s)) refl)

      here : (b : Bool) → (t == s) ≡ b → (c : Bool) → contains more s ≡ c → (b || c) ≡ true
          → ((it : Mailbox T) → contains more s ≡ true
          → (publishing.welcome number history service t).mailboxes number s ≡ Some it
          → (fold (publishing.welcome number history) (publishing.welcome number history service t) more).mailboxes number s
          ≡ Some (record it { waiting = newest it.limit history }))
          → (fold (publishing.welcome number history) (publishing.welcome number history service t) more).mailboxes number s
          ≡ Some (record box { waiting = newest box.limit history })
      here true same true again is on =
          on (record box { waiting = newest box.limit history }) again
          (ap (λ (k : ℕ). (publishing.welcome number history service k).mailboxes number s) (eqb-true t s same) ∙ first)
      here true same false past is on =
          fold-off number history s more (publishing.welcome number history service t) past
          ∙ (ap (λ (k : ℕ). (publishing.welcome number history service k).mailboxes number s) (eqb-true t s same) ∙ first)
      here false off true again is on = on box again (welcome-off number history service t s (other off) ∙ there)
        where
          other : (t == s) ≡ false → (s == t) ≡ false
          other off = apart (s == t) refl
            where
              apart : (b : Bool) → (s == t) ≡ b → b ≡ false
              apart true same = absurd (true≢false (sym (eq-eqb t s (sym (eqb-true s t same))) ∙ off))
              apart false same = refl
      here false off false past is on = absurd (true≢false (sym is))

  subscribers-welcome : (number : ℕ) (history : List (Message T)) (service : Service T) (t : ℕ)
      → (publishing.welcome number history service t).subscribers ≡ service.subscribers
  subscribers-welcome number history service t =
      here (option_map_or (λ (one : Subscriber). one.buffer_size) (at t service.subscribers) 0) (is_some (service.mailboxes number t))
    where
      here : (limit : ℕ) (b : Bool)
          → (cond b service (with_mailbox number t (record { limit = limit; waiting = []; borrowed = [] }) service)).subscribers
          ≡ service.subscribers
      here limit true = refl
      here limit false = refl

  -- a mailbox that wasn't there begins with the history
  welcomes-new : (number s limit : ℕ) (history : List (Message T)) (news : List ℕ) (service : Service T)
      → option_map_or (λ (one : Subscriber). one.buffer_size) (at s service.subscribers) 0 ≡ limit → contains news s ≡ true
      → service.mailboxes number s ≡ None
      → (fold (publishing.welcome number history) service news).mailboxes number s
      ≡ Some (record { limit = limit; waiting = newest limit history; borrowed = [] })
  welcomes-new number s limit history [] service allows is none = absurd (true≢false (sym is))
  welcomes-new number s limit history (t ∷ more) service allows is none =
      here (t == s) refl (contains more s) refl is
      (λ again gone. welcomes-new number s limit history more (publishing.welcome number history service t)
      (ap (λ (table : List (ℕ × Subscriber)). option_map_or (λ (one : Subscriber). one.buffer_size) (at s table) 0)
      (subscribers-welcome number history service t) ∙ allows) again gone)
    where
      fresh : Mailbox T
      fresh = record { limit = limit; waiting = newest limit history; borrowed = [] }

      met : (size : ℕ) → (b : Bool) → is_some (service.mailboxes number s) ≡ b
          → (cond b service (with_mailbox number s (record { limit = size; waiting = []; borrowed = [] }) service)).mailboxes number s
          ≡ Some (record { limit = size; waiting = []; borrowed = [] })
      met size true has = absurd (true≢false (sym has ∙ ap is_some none))
      met size false off = box-same number s (record { limit = size; waiting = []; borrowed = [] }) service

      first : (publishing.welcome number history service s).mailboxes number s ≡ Some fresh
      first =
          let size : ℕ = option_map_or (λ (one : Subscriber). one.buffer_size) (at s service.subscribers) 0 in
          let joined : Service T = connect size number s service in
          box-same number s (record (mailbox number s joined) { waiting = newest (mailbox number s joined).limit history }) joined
          ∙ ap (λ (o : Option (Mailbox T)). Some (record (unwrap_or o (record { limit = 0; waiting = []; borrowed = [] })) {
            waiting = newest (unwrap_or o (record { limit = 0; waiting = []; borrowed = [] })).limit history;
          })) (met size (is_some (service.mailboxes number s)) refl)
          ∙ ap (λ (n : ℕ). Some (record { limit = n; waiting = newest n history; borrowed = [] })) allows

      there : (t == s) ≡ true → (publishing.welcome number history service t).mailboxes number s ≡ Some fresh
      there same = ap (λ (k : ℕ). (publishing.welcome number history service k).mailboxes number s) (eqb-true t s same) ∙ first

      turned : (t == s) ≡ false → (s == t) ≡ false
      turned off = false_from_ne_true (s == t) (λ same. true≢false (sym (eq-eqb t s (sym (eqb-true s t same))) ∙ off))

      here : (b : Bool) → (t == s) ≡ b → (c : Bool) → contains more s ≡ c → (b || c) ≡ true
          → (contains more s ≡ true → (publishing.welcome number history service t).mailboxes number s ≡ None
          → (fold (publishing.welcome number history) (publishing.welcome number history service t) more).mailboxes number s ≡ Some fresh)
          → (fold (publishing.welcome number history) (publishing.welcome number history service t) more).mailboxes number s ≡ Some fresh
      here true same true again is on =
          welcomes-at number s history more (publishing.welcome number history service t) fresh again (there same)
      here true same false past is on =
          fold-off number history s more (publishing.welcome number history service t) past ∙ there same
      here false off true again is on = on again (welcome-off number history service t s (turned off) ∙ none)
      here false off false past is on = absurd (true≢false (sym is))

  -- ---- a publisher follows the list of subscribers

  module _ (number : ℕ) (was : Publisher T) (old : Service T) (after : Publisher T) (new : Service T)
      (found : at number old.publishers ≡ Some was) (h : publishing.Follows number was old after new) where
    abbrev news : List ℕ
    news = filter (λ (t : ℕ). not (contains (those was.connected) t)) (those after.connected)

    abbrev begun : Service T
    begun = with_publisher number after (publishing.ended number old)

    by : ByPublisher number old new
    by = by-follows number was old after new h

    now : (p s : ℕ) → new.mailboxes p s ≡ (fold (publishing.welcome number was.history) begun news).mailboxes p s
    now p s = ap (λ (it : Service T). it.mailboxes p s) h.3

    news-of : (s : ℕ) → contains news s
        ≡ ((subscriber_listed s old && not (contains h.0 s)) && not (contains (those was.connected) s))
    news-of s =
        contains-filter s (λ (t : ℕ). not (contains (those was.connected) t)) (those after.connected)
        ∙ ap (λ (b : Bool). b && not (contains (those was.connected) s))
        (ap (λ (one : Publisher T). contains (those one.connected) s) h.2 ∙ contains-unless s h.0 old.subscriber_list.places)

    -- the connection to one that is connected and listed isn't touched
    stays-there : (s : ℕ) → subscriber_listed s old ≡ true → contains (those was.connected) s ≡ true
        → new.mailboxes number s ≡ old.mailboxes number s
    stays-there s listed connected =
        now number s
        ∙ (fold-off number was.history s news begun
        (news-of s ∙ not-both (subscriber_listed s old && not (contains h.0 s)) (not (contains (those was.connected) s)) (ap not connected))
        ∙ ap (λ (b : Bool). cond b (option_map (λ (box : Mailbox T). record box { waiting = [] }) (old.mailboxes number s))
        (old.mailboxes number s)) (not-both (number == number) (not (subscriber_listed s old)) (ap not listed)))

    -- that to one that left loses what waits
    ends-there : (s : ℕ) (box : Mailbox T) → subscriber_listed s old ≡ false → old.mailboxes number s ≡ Some box
        → new.mailboxes number s ≡ Some (record box { waiting = [] })
    ends-there s box gone there =
        now number s
        ∙ (fold-off number was.history s news begun
        (news-of s
        ∙ ap (λ (b : Bool). (b && not (contains h.0 s)) && not (contains (those was.connected) s)) gone)
        ∙ (ap (λ (b : Bool). cond b (option_map (λ (it : Mailbox T). record it { waiting = [] }) (old.mailboxes number s))
        (old.mailboxes number s))
        (and_from (number == number) (not (subscriber_listed s old)) (eq-eqb number number refl) (ap not gone))
        ∙ ap (option_map (λ (it : Mailbox T). record it { waiting = [] })) there))

    -- and that to a new one gets the history
    begins-there : (s : ℕ) (box : Mailbox T) → subscriber_listed s old ≡ true → contains (those was.connected) s ≡ false
        → old.mailboxes number s ≡ Some box → new.mailboxes number s ≡ Some (record box { waiting = newest box.limit was.history })
    begins-there s box listed fresh there =
        now number s
        ∙ welcomes-at number s was.history news begun box
        (news-of s
        ∙ and_from (subscriber_listed s old && not (contains h.0 s)) (not (contains (those was.connected) s))
        (and_from (subscriber_listed s old) (not (contains h.0 s)) listed (ap not (free (contains h.0 s) refl))) (ap not fresh))
        (ap (λ (b : Bool). cond b (option_map (λ (it : Mailbox T). record it { waiting = [] }) (old.mailboxes number s))
        (old.mailboxes number s)) (not-both (number == number) (not (subscriber_listed s old)) (ap not listed)) ∙ there)
      where
        unlike : (b : Bool) → not b ≡ true → b ≡ false
        unlike true e = sym e
        unlike false e = refl

        free : (b : Bool) → contains h.0 s ≡ b → b ≡ false
        free false out = refl
        free true out =
            absurd-both (is_some (old.mailboxes number s)) (ap is_some there)
            (unlike (is_some (old.mailboxes number s))
            (both-true (subscriber_listed s old) (not (is_some (old.mailboxes number s)))
            (all-contained s
            (λ (t : ℕ). contains (those old.subscriber_list.places) t && not (is_some (old.mailboxes number t))) h.0 h.1 out)).1)

    boxes-then : (p s : ℕ) (box : Mailbox T) → old.mailboxes p s ≡ Some box
        → new.mailboxes p s ≡ Some (box_then number was old p s box)
    boxes-then p s box there = here (p == number) refl
      where
        own : old.mailboxes number s ≡ Some box → (b : Bool) → subscriber_listed s old ≡ b → (c : Bool)
            → contains (those was.connected) s ≡ c
            → new.mailboxes number s ≡ Some (record box { waiting = cond (not b) [] (cond c box.waiting (newest box.limit was.history)) })
        own has true listed true connected = stays-there s listed connected ∙ has
        own has true listed false fresh = begins-there s box listed fresh has
        own has false gone c connected = ends-there s box gone has

        here : (b : Bool) → (p == number) ≡ b
            → new.mailboxes p s ≡ Some (cond b (record box { waiting = waits_then was old s box }) box)
        here true same =
            ap (λ (k : ℕ). new.mailboxes k s) (eqb-true p number same)
            ∙ own (ap (λ (k : ℕ). old.mailboxes k s) (sym (eqb-true p number same)) ∙ there) (subscriber_listed s old) refl
            (contains (those was.connected) s) refl
        here false off = by.6 p s (eqb-false p number off) ∙ there

    -- a mailbox that wasn't there is one of the publisher, and begins with the history
    first-boxes : (p s : ℕ) (box : Mailbox T) → old.mailboxes p s ≡ None → new.mailboxes p s ≡ Some box
        → (p ≡ number) × (subscriber_listed s old ≡ true) × (box ≡ first_box was old s)
    first-boxes p s box none there = here (p == number) refl
      where
        nothing : (b : Bool) (o : Option (Mailbox T)) → o ≡ None
            → cond b (option_map (λ (it : Mailbox T). record it { waiting = [] }) o) o ≡ None
        nothing true o is = ap (option_map (λ (it : Mailbox T). record it { waiting = [] })) is
        nothing false o is = is

        begun-none : old.mailboxes number s ≡ None → begun.mailboxes number s ≡ None
        begun-none is = nothing ((number == number) && not (subscriber_listed s old)) (old.mailboxes number s) is

        own : old.mailboxes number s ≡ None → new.mailboxes number s ≡ Some box → (b : Bool) → contains news s ≡ b
            → (subscriber_listed s old ≡ true) × (box ≡ first_box was old s)
        own is has true new_one = (
          (both-true (subscriber_listed s old) (not (contains h.0 s))
              (both-true (subscriber_listed s old && not (contains h.0 s)) (not (contains (those was.connected) s))
              (sym (news-of s) ∙ new_one)).0).0,
          same-some box (first_box was old s)
              (sym has
              ∙ (now number s
              ∙ welcomes-new number s (first_box was old s).limit was.history news begun refl new_one (begun-none is))),
        )
        own is has false past =
            never-some box
            (sym (now number s ∙ (fold-off number was.history s news begun past ∙ begun-none is)) ∙ has)

        here : (b : Bool) → (p == number) ≡ b → (p ≡ number) × (subscriber_listed s old ≡ true) × (box ≡ first_box was old s)
        here true same =
            let both : (subscriber_listed s old ≡ true) × (box ≡ first_box was old s) =
            own (ap (λ (k : ℕ). old.mailboxes k s) (sym (eqb-true p number same)) ∙ none)
            (ap (λ (k : ℕ). new.mailboxes k s) (sym (eqb-true p number same)) ∙ there) (contains news s) refl in
            (eqb-true p number same, both.0, both.1)
        here false off = never-some box (sym (by.6 p s (eqb-false p number off) ∙ none) ∙ there)

    -- ---- what else stays

    t : Turned old new
    t = turned-walks.follows number was old after new found h

    pub keeps-ports : KeepsPorts old new
    keeps-ports = (
      by.0,
      by.1,
      t.publisher_list,
      by.2,
      by.4,
      (λ n. elim (cases_Bool (n == number)) [
        | inl same ↦ subst (λ (k : ℕ). option_map publisher_staying (at k new.publishers)
            ≡ option_map publisher_staying (at k old.publishers))
            (sym (eqb-true n number same))
            (ap (option_map publisher_staying)
            (follows-publishers number 0 was old after new found h)
            ∙ (ap (λ (one : Publisher T). Some (publisher_staying one)) h.2
            ∙ sym (ap (option_map publisher_staying) found)))
        | inr off ↦ ap (option_map publisher_staying) (by.5 n (eqb-false n number off))
      ]),
      (λ n. ap (λ (table : List (ℕ × Subscriber)). option_map subscriber_staying
          (at n table)) by.3),
    )

    pub keeps-messages : KeepsMessages old new
    keeps-messages p s = (
      ap (λ (o : Option (Mailbox T)). borrowed_in o) (now p s)
          ∙ (borrowed-welcomes p s number was.history news begun ∙ borrowed-ended p s number old),
      (λ both. waits (both-true (subscriber_listed s old) (reach p s old) both) (cases_Bool (p == number))),
      (λ box there both. stays (both-true (subscriber_listed s old) (reach p s old) both) (cases_Bool (p == number)) ∙ there),
    )
      where
        waits : (subscriber_listed s old ≡ true) × (reach p s old ≡ true) → ((p == number) ≡ true) ⊎ ((p == number) ≡ false)
            → (mailbox p s new).waiting ≡ (mailbox p s old).waiting
        waits (listed, connected) (inl same) =
            ap (λ (k : ℕ). (mailbox k s new).waiting) (eqb-true p number same)
            ∙ (ap (λ (o : Option (Mailbox T)). (unwrap_or o (record { limit = 0; waiting = []; borrowed = [] })).waiting)
            (stays-there s listed
            (sym (ap (reach_of s) (ap (λ (k : ℕ). at k old.publishers) (eqb-true p number same) ∙ found)) ∙ connected))
            ∙ ap (λ (k : ℕ). (mailbox k s old).waiting) (sym (eqb-true p number same)))
        waits both (inr off) =
            ap (λ (o : Option (Mailbox T)). (unwrap_or o (record { limit = 0; waiting = []; borrowed = [] })).waiting)
            (by.6 p s (eqb-false p number off))

        stays : (subscriber_listed s old ≡ true) × (reach p s old ≡ true) → ((p == number) ≡ true) ⊎ ((p == number) ≡ false)
            → new.mailboxes p s ≡ old.mailboxes p s
        stays (listed, connected) (inl same) =
            ap (λ (k : ℕ). new.mailboxes k s) (eqb-true p number same)
            ∙ (stays-there s listed
            (sym (ap (reach_of s) (ap (λ (k : ℕ). at k old.publishers) (eqb-true p number same) ∙ found)) ∙ connected)
            ∙ ap (λ (k : ℕ). old.mailboxes k s) (sym (eqb-true p number same)))
        stays both (inr off) = by.6 p s (eqb-false p number off)

    pub keeps-loans : new.loans ≡ old.loans
    keeps-loans = (same-followed number was old after new h).0.0

  -- ---- a subscriber follows the list of publishers

  module _ (buffer number : ℕ) (was : Subscriber) (old : Service T) (after : Subscriber) (new : Service T)
      (found : at number old.subscribers ≡ Some was) (h : subscribing.Follows buffer number was old after new) where
    soft : BySubscriber old new
    soft = (soft-follows buffer number was old after new found h).0

    attended-boxes : (p s : ℕ) (box : Mailbox T) → old.mailboxes p s ≡ Some box → new.mailboxes p s ≡ Some box
    attended-boxes p s box there =
        ap (λ (it : Service T). it.mailboxes p s) h.5
        ∙ fold-keeps (λ (it : Service T). it.mailboxes p s ≡ Some box)
        (λ (it : Service T) (publisher : ℕ). connect was.buffer_size publisher number it)
        (λ it other is. stays it other is) (those h.2) (with_subscriber number after old) there
      where
        stays : (it : Service T) (other : ℕ) → it.mailboxes p s ≡ Some box
            → (connect was.buffer_size other number it).mailboxes p s ≡ Some box
        stays it other is = here (is_some (it.mailboxes other number)) refl
          where
            made : Mailbox T
            made = record { limit = was.buffer_size; waiting = []; borrowed = [] }

            here : (b : Bool) → is_some (it.mailboxes other number) ≡ b
                → (cond b it (with_mailbox other number made it)).mailboxes p s ≡ Some box
            here true has = is
            here false none = there_so ((p == other) && (s == number)) refl
              where
                there_so : (c : Bool) → ((p == other) && (s == number)) ≡ c → cond c (Some made) (it.mailboxes p s) ≡ Some box
                there_so false off = is
                there_so true same =
                    absurd (true≢false (sym (ap is_some is)
                    ∙ (ap (λ (k : ℕ). is_some (it.mailboxes k s)) (eqb-true p other (both-true (p == other) (s == number) same).0)
                    ∙ (ap (λ (k : ℕ). is_some (it.mailboxes other k))
                    (eqb-true s number (both-true (p == other) (s == number) same).1) ∙ none))))

    -- a mailbox that wasn't there is one of the subscriber, and empty
    first-attended : (p s : ℕ) (box : Mailbox T) → old.mailboxes p s ≡ None → new.mailboxes p s ≡ Some box
        → (s ≡ number) × (box ≡ record { limit = was.buffer_size; waiting = []; borrowed = [] })
    first-attended p s box none there =
        fold-keeps Met (λ (it : Service T) (publisher : ℕ). connect was.buffer_size publisher number it)
        (λ it other met. joins it other met) (those h.2) (with_subscriber number after old) (λ one is. never-some one (sym none ∙ is)) box
        (sym (ap (λ (it : Service T). it.mailboxes p s) h.5) ∙ there)
      where
        made : Mailbox T
        made = record { limit = was.buffer_size; waiting = []; borrowed = [] }

        Met : Service T → Type 0
        Met it = (one : Mailbox T) → it.mailboxes p s ≡ Some one → (s ≡ number) × (one ≡ made)

        joins : (it : Service T) (other : ℕ) → Met it → Met (connect was.buffer_size other number it)
        joins it other met = here (is_some (it.mailboxes other number))
          where
            set_so : (c : Bool) → ((p == other) && (s == number)) ≡ c → (one : Mailbox T) → cond c (Some made) (it.mailboxes p s) ≡ Some one
                → (s ≡ number) × (one ≡ made)
            set_so true same one is =
                (eqb-true s number (both-true (p == other) (s == number) same).1, sym (same-some made one is))
            set_so false off one is = met one is

            here : (b : Bool) → Met (cond b it (with_mailbox other number made it))
            here true = met
            here false = set_so ((p == other) && (s == number)) refl

    pub attended-ports : KeepsPorts old new
    attended-ports = (
      soft.0,
      soft.1,
      (turned-walks.attends buffer number was old after new found h).publisher_list,
      soft.2,
      soft.4,
      (λ n. ap (λ (table : List (ℕ × Publisher T)). option_map publisher_staying
          (at n table)) soft.3),
      (λ n. ap (λ (table : List (ℕ × Subscriber)). option_map subscriber_staying
          (at n table)) (soft-followed buffer number was old after new h).2
          ∙ changed-view subscriber_staying number n was after old.subscribers found
          (ap subscriber_staying h.4)),
    )

    pub attended-messages : KeepsMessages old new
    attended-messages p s = (
      ap (λ (it : Service T). borrowed_in (it.mailboxes p s)) h.5
          ∙ borrowed-connects p s was.buffer_size number (those h.2) (with_subscriber number after old),
      (λ both. (soft.6 p s).0),
      (λ box there both. attended-boxes p s box there),
    )

    pub attended-loans : new.loans ≡ old.loans
    attended-loans = (same-subscriber-follows buffer number was old after new h).0

-- ---- mailboxes

module _ {T : Type 0} where
  abbrev is_done : Reply T → Bool
  is_done reply.Done = true
  is_done other = false

  never-done-so : {A : Type 0} (other : Reply T) → reply.Done ≡ other → is_done other ≡ false → A
  never-done-so other same silent = absurd (true≢false (ap is_done same ∙ silent))

pub publisher-keeps-mailboxes : {T : Type 0} (choices : Choices T) → PublisherKeepsMailboxes choices
publisher-keeps-mailboxes {T} choices types buffer number old new h =
    elim (at-one (publisher_in number)
    (λ (publisher : Publisher T) (service : Service T) (told : Reply T) (after : Service T). MatchOption publisher.blocked
    (publishing.UpdatesFirst choices number refusal.Connection Ends publisher service told after) (λ send. IsSkipped service told after))
    old reply.Done new h) [
      | inl w ↦ never-done-so reply.Skipped w.0 refl
      | inr w ↦ elim (by-option w.1.blocked (publishing.UpdatesFirst choices number refusal.Connection Ends w.1 w.0 reply.Done w.2)
          (λ send. IsSkipped w.0 reply.Done w.2) w.5) [
            | inl free ↦ updated w.0 w.1 w.2 w.3 w.4 free.1 w.6
            | inr skipped ↦ never-done-so reply.Skipped skipped.2.0 refl
          ]
    ]
  where
    Ends : Publisher T → Service T → Reply T → Service T → Type 0
    Ends it mid answered end = (answered ≡ reply.Done) × (end ≡ mid)

    has_it : Service T → Bool
    has_it other = is_some (publisher_in number other)

    Leaves : Type 0
    Leaves =
        (before : Service T) × (after : Service T) × (was : Publisher T) × UpdateLeaves has_it old new before after
        × (publisher_in number before ≡ Some was) × (find has_it new.services ≡ Some after)
        × ((publisher subscriber : ℕ) (box : Mailbox T) → before.mailboxes publisher subscriber ≡ Some box
        → after.mailboxes publisher subscriber ≡ Some (box_then number was before publisher subscriber box))
        × ((publisher subscriber : ℕ) (box : Mailbox T) → before.mailboxes publisher subscriber ≡ None
        → after.mailboxes publisher subscriber ≡ Some box
        → (publisher ≡ number) × (contains (those before.subscriber_list.places) subscriber ≡ true)
        × (box ≡ first_box was before subscriber))

    updated : (service : Service T) (one : Publisher T) (end : Service T) → find has_it old.services ≡ Some service
        → publisher_in number service ≡ Some one → publishing.UpdatesFirst choices number refusal.Connection Ends one service reply.Done end
        → new ≡ record old { services = replaced has_it end old.services }
        → (new ≡ old)
        ⊎ Leaves
    updated service one end first found did came =
        elim (by-bool (one.seen == service.subscriber_list.changes) (Ends one service reply.Done end)
        ((after : Publisher T) × (mid : Service T) × publishing.Follows number one service after mid
        × Outcomes (choices.publisher_acts number one.degradation) (zip service.subscriber_list.places after.connected)
        (λ done. Ends after mid reply.Done end) (λ failure. IsRefused (refusal.Connection failure) mid reply.Done end)) did) [
          | inl w ↦ inl (unmoved has_it service end old new first w.1.1 came)
          | inr w ↦ elim (by-outcome (choices.publisher_acts number one.degradation) (zip service.subscriber_list.places w.1.0.connected)
              (λ done. Ends w.1.0 w.1.1 reply.Done end) (λ failure. IsRefused (refusal.Connection failure) w.1.1 reply.Done end) w.1.3) [
                | inl r ↦ inr (followed w.1.0 w.1.1 w.1.2 (came ∙ ap (λ (it : Service T). record old {
                  services = replaced has_it it old.services;
                }) r.2.1))
                | inr r ↦ never-done-so (reply.Refused (refusal.Connection r.0)) r.2.0 refl
              ]
        ]
      where
        there : at number service.publishers ≡ Some one
        there = publisher-stands number service one found

        followed : (after : Publisher T) (mid : Service T) → publishing.Follows number one service after mid
            → new ≡ record old { services = replaced has_it mid old.services }
            → Leaves
        followed after mid follows same = (
          service,
          mid,
          one,
          (
            first,
            same,
            keeps-loans number one service after mid there follows,
            keeps-ports number one service after mid there follows,
          ),
          found,
          ap (λ (it : State T). find has_it it.services) same
              ∙ find-replaced has_it service mid old.services first
              (publisher-standing service mid (turned-walks.follows number one service after mid there follows).publishers number
              ∙ ap is_some found),
          boxes-then number one service after mid there follows,
          first-boxes number one service after mid there follows,
        )

pub subscriber-keeps-mailboxes : {T : Type 0} (choices : Choices T) → SubscriberKeepsMailboxes choices
subscriber-keeps-mailboxes {T} choices types buffer number old new h =
    elim (at-one (subscriber_in number) (subscribing.UpdatesFirst choices buffer number refusal.Connection Ends) old reply.Done new h) [
      | inl w ↦ never-done-so reply.Skipped w.0 refl
      | inr w ↦ updated w.0 w.1 w.2 w.3 w.4 w.5 w.6
    ]
  where
    Ends : Subscriber → Service T → Reply T → Service T → Type 0
    Ends it mid answered end = (answered ≡ reply.Done) × (end ≡ mid)

    has_it : Service T → Bool
    has_it other = is_some (subscriber_in number other)

    Leaves : Type 0
    Leaves =
        (before : Service T) × (after : Service T) × (was : Subscriber) × UpdateLeaves has_it old new before after
        × (subscriber_in number before ≡ Some was) × (find has_it new.services ≡ Some after)
        × ((publisher subscriber : ℕ) (box : Mailbox T) → before.mailboxes publisher subscriber ≡ Some box
        → after.mailboxes publisher subscriber ≡ Some box)
        × ((publisher subscriber : ℕ) (box : Mailbox T) → before.mailboxes publisher subscriber ≡ None
        → after.mailboxes publisher subscriber ≡ Some box
        → (subscriber ≡ number) × (box ≡ record { limit = was.buffer_size; waiting = []; borrowed = [] }))

    updated : (service : Service T) (one : Subscriber) (end : Service T) → find has_it old.services ≡ Some service
        → subscriber_in number service ≡ Some one
        → subscribing.UpdatesFirst choices buffer number refusal.Connection Ends one service reply.Done end
        → new ≡ record old { services = replaced has_it end old.services }
        → (new ≡ old)
        ⊎ Leaves
    updated service one end first found did came =
        elim (by-bool ((one.seen == service.publisher_list.changes) && not one.again) (Ends one service reply.Done end)
        ((after : Subscriber) × (mid : Service T) × subscribing.Follows buffer number one service after mid
        × Outcomes (choices.subscriber_acts number one.degradation) (zip service.publisher_list.places after.connected)
        (λ done. Ends after mid reply.Done end) (λ failure. IsRefused (refusal.Connection failure) mid reply.Done end)) did) [
          | inl w ↦ inl (unmoved has_it service end old new first w.1.1 came)
          | inr w ↦ elim (by-outcome (choices.subscriber_acts number one.degradation) (zip service.publisher_list.places w.1.0.connected)
              (λ done. Ends w.1.0 w.1.1 reply.Done end) (λ failure. IsRefused (refusal.Connection failure) w.1.1 reply.Done end) w.1.3) [
                | inl r ↦ inr (attended w.1.0 w.1.1 w.1.2 (came ∙ ap (λ (it : Service T). record old {
                  services = replaced has_it it old.services;
                }) r.2.1))
                | inr r ↦ never-done-so (reply.Refused (refusal.Connection r.0)) r.2.0 refl
              ]
        ]
      where
        there : at number service.subscribers ≡ Some one
        there = (subscriber-stands number service one found).0

        attended : (after : Subscriber) (mid : Service T) → subscribing.Follows buffer number one service after mid
            → new ≡ record old { services = replaced has_it mid old.services }
            → Leaves
        attended after mid follows same = (
          service,
          mid,
          one,
          (
            first,
            same,
            attended-loans buffer number one service after mid there follows,
            attended-ports buffer number one service after mid there follows,
          ),
          found,
          ap (λ (it : State T). find has_it it.services) same
              ∙ find-replaced has_it service mid old.services first
              (subscriber-standing service mid (turned-walks.attends buffer number one service after mid there follows).subscribers number
              ∙ ap is_some found),
          attended-boxes buffer number one service after mid there follows,
          first-attended buffer number one service after mid there follows,
        )
