-- How it goes on who is connected to whom, whatever a port that stands does.
use Rattle.std.proofs.Common.{◌≡◌, ◌⊎◌, ℕ, zero, suc, Bool, true, false, cond, not, ◌&&◌, ◌||◌, List, [], ◌∷◌, map, zip, Option, None}
use Rattle.std.proofs.Common.{Some, refl, sym, ap, subst, inl, inr, ◌∙◌, true≢false}
use Rattle.std.proofs.lemmas.Bool.{cases_Bool, eq-eqb, eqb-false, eqb-true}
use Rattle.std.specs.Option.{option_map_or}
use Rattle.std.specs.Prelude.{◌==◌, filter, fold, is_some, option_map, slice_get}
use Rattle.iox_machine.specs.Mailbox.{Mailbox, newest}
use Rattle.iox_machine.specs.Message.{Message}
use Rattle.iox_machine.specs.PortList.{those, unless}
use Rattle.iox_machine.specs.PublisherUpdate as publishing
use Rattle.iox_machine.specs.Service.{Publisher, Service, Subscriber, connect, mailbox, with_mailbox}
use Rattle.iox_machine.proofs.Shorthands.{parting, with_publisher, with_subscriber, now_at}
use Rattle.iox_machine.specs.SubscriberUpdate as subscribing
use Rattle.iox_machine.specs.Table.{at, changed, contains}
use Rattle.iox_machine.proofs.Cases.{both-true, chosen, never-some, same-some}
use Rattle.iox_machine.proofs.Frames.{ByPublisher, BySubscriber, box-same, by-follows, holder_of, soft-followed, soft-follows}
use Rattle.iox_machine.proofs.Lists.{fold-keeps}
use Rattle.iox_machine.proofs.Order.{absurd-both, follows-publishers}
use Rattle.iox_machine.proofs.Parts.{all-contained, contains-filter, contains-unless}
use Rattle.iox_machine.proofs.Tables.{at-changed, at-changed-other}
use Rattle.iox_machine.proofs.Walks.{Walks}

-- A connection begins only where the other port is listed, and lasts as long as that is.
abbrev pub Lasts : Bool → Bool → Bool → Type 0
Lasts was listed now = (now ≡ true → (was ≡ true) ⊎ (listed ≡ true)) × (was ≡ true → listed ≡ true → now ≡ true)

lasts-both : (one two three first second : Bool) → second ≡ first → Lasts one first two → Lasts two second three → Lasts one first three
lasts-both one two three first second same h k = (
  (λ now. elim (k.0 now) [
    | inl was ↦ h.0 was
    | inr listed ↦ inr (sym same ∙ listed)
  ]),
  (λ was listed. k.1 (h.1 was listed) (same ∙ listed)),
)

lasts-same : (was listed now : Bool) → now ≡ was → Lasts was listed now
lasts-same was listed now same = ((λ is. inl (sym same ∙ is)), (λ is there. same ∙ is))

-- A subscriber is connected to a publisher that is listed only at the place where that is.
abbrev pub Placed : ℕ → List (Option ℕ) → List (Option ℕ) → Type 0
Placed p connected places = (place : ℕ) → slice_get connected place ≡ Some (Some p) → contains (those places) p ≡ true
    → slice_get places place ≡ Some (Some p)

-- ---- places

-- a port is at some place, if it is one of those
pub at-place : (p : ℕ) (places : List (Option ℕ)) → contains (those places) p ≡ true
    → (place : ℕ) × (slice_get places place ≡ Some (Some p))
at-place p [] is = absurd (true≢false (sym is))
at-place p (None ∷ places) is = let rest = at-place p places is in (suc rest.0, rest.1)
at-place p (Some q ∷ places) is = here (q == p) refl is (at-place p places)
  where
    here : (b : Bool) → (q == p) ≡ b → (b || contains (those places) p) ≡ true
        → (contains (those places) p ≡ true → (place : ℕ) × (slice_get places place ≡ Some (Some p)))
        → (place : ℕ) × (slice_get (Some q ∷ places) place ≡ Some (Some p))
    here true same is on = (zero, ap (λ (n : ℕ). Some (Some n)) (eqb-true q p same))
    here false off is on = let rest = on is in (suc rest.0, rest.1)

pub of-place : (p : ℕ) (places : List (Option ℕ)) (place : ℕ) → slice_get places place ≡ Some (Some p) → contains (those places) p ≡ true
of-place p [] place is = never-some (Some p) is
of-place p (None ∷ places) zero is = never-some p (same-some None (Some p) is)
of-place p (None ∷ places) (suc place) is = of-place p places place is
of-place p (Some q ∷ places) zero is =
    ap (λ (b : Bool). b || contains (those places) p) (eq-eqb q p (same-some q p (same-some (Some q) (Some p) is)))
of-place p (Some q ∷ places) (suc place) is = here (q == p) (of-place p places place is)
  where
    here : (b : Bool) → contains (those places) p ≡ true → (b || contains (those places) p) ≡ true
    here true on = refl
    here false on = on

unless-some : (refused : List ℕ) (o : Option ℕ) (p : ℕ) → unless refused o ≡ Some p → o ≡ Some p
unless-some refused None p is = is
unless-some refused (Some q) p is = elim (chosen (contains refused q) None (Some q) (Some p) is) [
  | inl w ↦ never-some p w.1
  | inr w ↦ w.1
]

module _ (staying refused : List ℕ) (p : ℕ) where
  now-some : (was listed : Option ℕ) → now_at staying refused (was, listed) ≡ Some p → (was ≡ Some p) ⊎ (listed ≡ Some p)
  now-some was listed is = elim (chosen (option_map_or (contains staying) was false) was (unless refused listed) (Some p) is) [
    | inl w ↦ inl w.1
    | inr w ↦ inr (unless-some refused listed p w.1)
  ]

  now-both : contains refused p ≡ false → now_at staying refused (Some p, Some p) ≡ Some p
  now-both free = here (contains staying p)
    where
      here : (b : Bool) → cond b (Some p) (cond (contains refused p) None (Some p)) ≡ Some p
      here true = refl
      here false = ap (λ (b : Bool). cond b None (Some p)) free

  -- who is connected at a place after an update was so before, or is listed there
  zip-place : (connected places : List (Option ℕ)) (place : ℕ)
      → slice_get (map (now_at staying refused) (zip connected places)) place ≡ Some (Some p)
      → (slice_get connected place ≡ Some (Some p)) ⊎ (slice_get places place ≡ Some (Some p))
  zip-place [] places place is = never-some (Some p) is
  zip-place (was ∷ connected) [] place is = never-some (Some p) is
  zip-place (was ∷ connected) (listed ∷ places) zero is =
      elim (now-some was listed (same-some (now_at staying refused (was, listed)) (Some p) is)) [
        | inl e ↦ inl (ap (λ (o : Option ℕ). Some o) e)
        | inr e ↦ inr (ap (λ (o : Option ℕ). Some o) e)
      ]
  zip-place (was ∷ connected) (listed ∷ places) (suc place) is = zip-place connected places place is

  zip-stays : contains refused p ≡ false → (connected places : List (Option ℕ)) (place : ℕ) → slice_get connected place ≡ Some (Some p)
      → slice_get places place ≡ Some (Some p)
      → slice_get (map (now_at staying refused) (zip connected places)) place ≡ Some (Some p)
  zip-stays free [] places place was listed = never-some (Some p) was
  zip-stays free (one ∷ connected) [] place was listed = never-some (Some p) listed
  zip-stays free (one ∷ connected) (other ∷ places) zero was listed =
      ap (λ (o : Option ℕ). Some o)
      (ap (λ (o : Option ℕ). now_at staying refused (o, other)) (same-some one (Some p) was)
      ∙ (ap (λ (o : Option ℕ). now_at staying refused (Some p, o)) (same-some other (Some p) listed) ∙ now-both free))
  zip-stays free (one ∷ connected) (other ∷ places) (suc place) was listed = zip-stays free connected places place was listed

-- what is seen of who goes by a number, where nothing that is seen of one changes
pub changed-view : {V X : Type 0} (view : V → X) (number n : ℕ) (was after : V) (table : List (ℕ × V)) → at number table ≡ Some was
    → view after ≡ view was → option_map view (at n (changed number after table)) ≡ option_map view (at n table)
changed-view view number n was after table found same = elim (cases_Bool (n == number)) [
  | inl is ↦ subst (λ (k : ℕ). option_map view (at k (changed number after table)) ≡ option_map view (at k table))
      (sym (eqb-true n number is))
      (ap (option_map view) (at-changed number after was table found)
      ∙ (ap (λ (x : _). Some x) same ∙ sym (ap (option_map view) found)))
  | inr off ↦ ap (option_map view) (at-changed-other number n after table (eqb-false n number off))
]

-- ---- a subscriber

abbrev pub hear_of : ℕ → Option Subscriber → Bool
hear_of p o = option_map_or (λ (one : Subscriber). contains (those one.connected) p) o false

abbrev pub subscriber_view : Subscriber → Bool × List (Option ℕ)
subscriber_view one = (one.stands, one.connected)

abbrev pub subscriber_stands : Option Subscriber → Option Bool
subscriber_stands o = option_map (λ (one : Subscriber). one.stands) o

hear-viewed : (p : ℕ) (o : Option Subscriber)
    → hear_of p o ≡ option_map_or (λ (view : Bool × List (Option ℕ)). contains (those view.1) p) (option_map subscriber_view o) false
hear-viewed p None = refl
hear-viewed p (Some one) = refl

subscriber-viewed : (o : Option Subscriber)
    → subscriber_stands o ≡ option_map (λ (view : Bool × List (Option ℕ)). view.0) (option_map subscriber_view o)
subscriber-viewed None = refl
subscriber-viewed (Some one) = refl

view-some : (o : Option Subscriber) (one : Subscriber) → option_map subscriber_view o ≡ Some (subscriber_view one)
    → (was : Subscriber) × (o ≡ Some was) × (was.connected ≡ one.connected)
view-some None one e = never-some (subscriber_view one) e
view-some (Some was) one e =
    (was, refl, ap (λ (view : Bool × List (Option ℕ)). view.1) (same-some (subscriber_view was) (subscriber_view one) e))

stands-held : (o : Option Subscriber)
    → subscriber_stands o ≡ option_map (λ (holder : ℕ × Bool). holder.1) (option_map holder_of o)
stands-held None = refl
stands-held (Some one) = refl

module _ {T : Type 0} where
  -- ---- what is looked at

  abbrev pub reach_of : ℕ → Option (Publisher T) → Bool
  reach_of s o = option_map_or (λ (one : Publisher T). contains (those one.connected) s) o false

  -- whether a publisher is connected to a subscriber, and a subscriber to a publisher
  abbrev pub reach : ℕ → ℕ → Service T → Bool
  reach p s service = reach_of s (at p service.publishers)

  abbrev pub hear : ℕ → ℕ → Service T → Bool
  hear p s service = hear_of p (at s service.subscribers)

  abbrev pub has_box : ℕ → ℕ → Service T → Bool
  has_box p s service = is_some (service.mailboxes p s)

  abbrev pub publisher_listed : ℕ → Service T → Bool
  publisher_listed p service = contains (those service.publisher_list.places) p

  abbrev pub subscriber_listed : ℕ → Service T → Bool
  subscriber_listed s service = contains (those service.subscriber_list.places) s

  abbrev pub publisher_view : Publisher T → Bool × List (Option ℕ)
  publisher_view one = (one.stands, one.connected)

  abbrev pub publisher_stands : Option (Publisher T) → Option Bool
  publisher_stands o = option_map (λ (one : Publisher T). one.stands) o

  -- who is connected has a mailbox
  abbrev pub Reached : ℕ → ℕ → Service T → Type 0
  Reached p s service = reach p s service ≡ true → has_box p s service ≡ true

  abbrev pub Heard : ℕ → ℕ → Service T → Type 0
  Heard p s service =
      (hear p s service ≡ true → has_box p s service ≡ true)
      × ((one : Subscriber) → at s service.subscribers ≡ Some one → Placed p one.connected service.publisher_list.places)

  -- Ports that stand, and no others, did something: the same stand and are listed, and connections go on as they should.
  pub record Turned (old new : Service T) : Type 0 where
    pub publisher_list : new.publisher_list ≡ old.publisher_list
    pub subscriber_list : new.subscriber_list ≡ old.subscriber_list
    pub publishers : (n : ℕ) → publisher_stands (at n new.publishers) ≡ publisher_stands (at n old.publishers)
    pub subscribers : (n : ℕ) → subscriber_stands (at n new.subscribers) ≡ subscriber_stands (at n old.subscribers)
    pub boxes : (p s : ℕ) → has_box p s old ≡ true → has_box p s new ≡ true
    pub reached : (p s : ℕ) → Reached p s old → Lasts (reach p s old) (subscriber_listed s old) (reach p s new) × Reached p s new
    pub heard : (p s : ℕ) → Heard p s old → Lasts (hear p s old) (publisher_listed p old) (hear p s new) × Heard p s new

  turned-both : (one two three : Service T) → Turned one two → Turned two three → Turned one three
  turned-both one two three h k = record {
    publisher_list = k.publisher_list ∙ h.publisher_list;
    subscriber_list = k.subscriber_list ∙ h.subscriber_list;
    publishers = λ n. k.publishers n ∙ h.publishers n;
    subscribers = λ n. k.subscribers n ∙ h.subscribers n;
    boxes = λ p s is. k.boxes p s (h.boxes p s is);
    reached = λ p s was. (
      lasts-both (reach p s one) (reach p s two) (reach p s three) (subscriber_listed s one) (subscriber_listed s two)
          (ap (λ list. contains (those list.places) s) h.subscriber_list) (h.reached p s was).0
          (k.reached p s (h.reached p s was).1).0,
      (k.reached p s (h.reached p s was).1).1,
    );
    heard = λ p s was. (
      lasts-both (hear p s one) (hear p s two) (hear p s three) (publisher_listed p one) (publisher_listed p two)
          (ap (λ list. contains (those list.places) p) h.publisher_list) (h.heard p s was).0
          (k.heard p s (h.heard p s was).1).0,
      (k.heard p s (h.heard p s was).1).1,
    );
  }

  -- ---- where nothing that is looked at of ports changes

  reach-viewed : (s : ℕ) (o : Option (Publisher T))
      → reach_of s o ≡ option_map_or (λ (view : Bool × List (Option ℕ)). contains (those view.1) s) (option_map publisher_view o) false
  reach-viewed s None = refl
  reach-viewed s (Some one) = refl

  publisher-viewed : (o : Option (Publisher T))
      → publisher_stands o ≡ option_map (λ (view : Bool × List (Option ℕ)). view.0) (option_map publisher_view o)
  publisher-viewed None = refl
  publisher-viewed (Some one) = refl

  turned-level : (old new : Service T) → new.publisher_list ≡ old.publisher_list → new.subscriber_list ≡ old.subscriber_list
      → ((n : ℕ) → option_map publisher_view (at n new.publishers) ≡ option_map publisher_view (at n old.publishers))
      → ((n : ℕ) → option_map subscriber_view (at n new.subscribers) ≡ option_map subscriber_view (at n old.subscribers))
      → ((p s : ℕ) → has_box p s old ≡ true → has_box p s new ≡ true) → Turned old new
  turned-level old new publisher_list subscriber_list publishers subscribers boxes = record {
    publisher_list = publisher_list;
    subscriber_list = subscriber_list;
    publishers = λ n. publisher-viewed (at n new.publishers)
        ∙ (ap (option_map (λ (view : Bool × List (Option ℕ)). view.0)) (publishers n) ∙ sym (publisher-viewed (at n old.publishers)));
    subscribers = λ n. subscriber-viewed (at n new.subscribers)
        ∙ (ap (option_map (λ (view : Bool × List (Option ℕ)). view.0)) (subscribers n) ∙ sym (subscriber-viewed (at n old.subscribers)));
    boxes = boxes;
    reached = λ p s was. (
      lasts-same (reach p s old) (subscriber_listed s old) (reach p s new) (reach-same p s),
      (λ now. boxes p s (was (sym (reach-same p s) ∙ now))),
    );
    heard = λ p s was. (
      lasts-same (hear p s old) (publisher_listed p old) (hear p s new) (hear-same p s),
      (
        (λ now. boxes p s (was.0 (sym (hear-same p s) ∙ now))),
        (λ one found. placed p s was.1 one found),
      ),
    );
  }
    where
      reach-same : (p s : ℕ) → reach p s new ≡ reach p s old
      reach-same p s =
          reach-viewed s (at p new.publishers)
          ∙ (ap (λ (o : Option (Bool × List (Option ℕ))). option_map_or
          (λ (view : Bool × List (Option ℕ)). contains (those view.1) s) o false) (publishers p)
          ∙ sym (reach-viewed s (at p old.publishers)))

      hear-same : (p s : ℕ) → hear p s new ≡ hear p s old
      hear-same p s =
          hear-viewed p (at s new.subscribers)
          ∙ (ap (λ (o : Option (Bool × List (Option ℕ))). option_map_or
          (λ (view : Bool × List (Option ℕ)). contains (those view.1) p) o false) (subscribers s)
          ∙ sym (hear-viewed p (at s old.subscribers)))

      placed : (p s : ℕ)
          → ((one : Subscriber) → at s old.subscribers ≡ Some one → Placed p one.connected old.publisher_list.places)
          → (one : Subscriber) → at s new.subscribers ≡ Some one → Placed p one.connected new.publisher_list.places
      placed p s was one found =
          let it : (before : Subscriber) × (at s old.subscribers ≡ Some before) × (before.connected ≡ one.connected) =
          view-some (at s old.subscribers) one (sym (subscribers s) ∙ ap (option_map subscriber_view) found) in
          subst (λ list. Placed p one.connected list.places) (sym publisher_list)
          (subst (λ (connected : List (Option ℕ)). Placed p connected old.publisher_list.places) it.2 (was it.0 it.1))

  pub turned-none : (service : Service T) → Turned service service
  turned-none service = turned-level service service refl refl (λ n. refl) (λ n. refl) (λ p s is. is)

  -- ---- mailboxes

  box-set : (p s a b : ℕ) (box : Mailbox T) (service : Service T) → has_box p s service ≡ true
      → has_box p s (with_mailbox a b box service) ≡ true
  box-set p s a b box service is = here ((p == a) && (s == b))
    where
      here : (c : Bool) → is_some (cond c (Some box) (service.mailboxes p s)) ≡ true
      here true = refl
      here false = is

  box-either : (p s : ℕ) (b : Bool) (one other : Service T) → has_box p s one ≡ true → has_box p s other ≡ true
      → has_box p s (cond b one other) ≡ true
  box-either p s true one other h k = h
  box-either p s false one other h k = k

  box-connect : (p s limit a b : ℕ) (service : Service T) → has_box p s service ≡ true → has_box p s (connect limit a b service) ≡ true
  box-connect p s limit a b service is =
      box-either p s (is_some (service.mailboxes a b)) service
      (with_mailbox a b (record { limit = limit; waiting = []; borrowed = [] }) service) is
      (box-set p s a b (record { limit = limit; waiting = []; borrowed = [] }) service is)

  connect-box : (limit a b : ℕ) (service : Service T) → has_box a b (connect limit a b service) ≡ true
  connect-box limit a b service = here (is_some (service.mailboxes a b)) refl
    where
      made : Mailbox T
      made = record { limit = limit; waiting = []; borrowed = [] }

      here : (c : Bool) → is_some (service.mailboxes a b) ≡ c → has_box a b (cond c service (with_mailbox a b made service)) ≡ true
      here true is = is
      here false is = ap (λ (o : Option (Mailbox T)). is_some o) (box-same a b made service)

  box-welcome : (p s number : ℕ) (history : List (Message T)) (service : Service T) (t : ℕ) → has_box p s service ≡ true
      → has_box p s (publishing.welcome number history service t) ≡ true
  box-welcome p s number history service t is =
      let limit : ℕ = option_map_or (λ (one : Subscriber). one.buffer_size) (at t service.subscribers) 0 in
      let met : Service T = connect limit number t service in
      let box : Mailbox T = mailbox number t met in
      box-set p s number t (record box { waiting = newest box.limit history }) met (box-connect p s limit number t service is)

  welcome-box : (number : ℕ) (history : List (Message T)) (service : Service T) (t : ℕ)
      → has_box number t (publishing.welcome number history service t) ≡ true
  welcome-box number history service t =
      let limit : ℕ = option_map_or (λ (one : Subscriber). one.buffer_size) (at t service.subscribers) 0 in
      let met : Service T = connect limit number t service in
      let box : Mailbox T = mailbox number t met in
      ap (λ (o : Option (Mailbox T)). is_some o) (box-same number t (record box { waiting = newest box.limit history }) met)

  welcomed-box : (number s : ℕ) (history : List (Message T)) (news : List ℕ) (service : Service T) → contains news s ≡ true
      → has_box number s (fold (publishing.welcome number history) service news) ≡ true
  welcomed-box number s history [] service is = absurd (true≢false (sym is))
  welcomed-box number s history (t ∷ more) service is =
      here (t == s) refl is (welcomed-box number s history more (publishing.welcome number history service t))
    where
      here : (b : Bool) → (t == s) ≡ b → (b || contains more s) ≡ true
          → (contains more s ≡ true
          → has_box number s (fold (publishing.welcome number history) (publishing.welcome number history service t) more) ≡ true)
          → has_box number s (fold (publishing.welcome number history) (publishing.welcome number history service t) more) ≡ true
      here true same is on =
          fold-keeps (λ (it : Service T). has_box number s it ≡ true) (publishing.welcome number history)
          (λ it other there. box-welcome number s number history it other there) more (publishing.welcome number history service t)
          (subst (λ (k : ℕ). has_box number k (publishing.welcome number history service t) ≡ true) (eqb-true t s same)
          (welcome-box number history service t))
      here false off is on = on is

  connected-box : (p s limit : ℕ) (publishers : List ℕ) (service : Service T) → contains publishers p ≡ true
      → has_box p s (fold (λ (it : Service T) (publisher : ℕ). connect limit publisher s it) service publishers) ≡ true
  connected-box p s limit [] service is = absurd (true≢false (sym is))
  connected-box p s limit (q ∷ more) service is =
      here (q == p) refl is (connected-box p s limit more (connect limit q s service))
    where
      here : (b : Bool) → (q == p) ≡ b → (b || contains more p) ≡ true
          → (contains more p ≡ true
          → has_box p s (fold (λ (it : Service T) (publisher : ℕ). connect limit publisher s it) (connect limit q s service) more) ≡ true)
          → has_box p s (fold (λ (it : Service T) (publisher : ℕ). connect limit publisher s it) (connect limit q s service) more) ≡ true
      here true same is on =
          fold-keeps (λ (it : Service T). has_box p s it ≡ true) (λ (it : Service T) (publisher : ℕ). connect limit publisher s it)
          (λ it other there. box-connect p s limit other s it there) more (connect limit q s service)
          (subst (λ (k : ℕ). has_box k s (connect limit q s service) ≡ true) (eqb-true q p same) (connect-box limit q s service))
      here false off is on = on is

  -- ---- a publisher follows the list of subscribers

  list-either : (old : Service T) (b : Bool) (one other : Service T) → one.publisher_list ≡ old.publisher_list
      → other.publisher_list ≡ old.publisher_list → (cond b one other).publisher_list ≡ old.publisher_list
  list-either old true one other h k = h
  list-either old false one other h k = k

  list-connect : (old : Service T) (limit a b : ℕ) (service : Service T) → service.publisher_list ≡ old.publisher_list
      → (connect limit a b service).publisher_list ≡ old.publisher_list
  list-connect old limit a b service is =
      list-either old (is_some (service.mailboxes a b)) service
      (with_mailbox a b (record { limit = limit; waiting = []; borrowed = [] }) service) is is

  box-ended : (p s number : ℕ) (service : Service T) → has_box p s service ≡ true → has_box p s (publishing.ended number service) ≡ true
  box-ended p s number service is =
      here ((p == number) && not (contains (those service.subscriber_list.places) s)) (service.mailboxes p s) is
    where
      here : (b : Bool) (o : Option (Mailbox T)) → is_some o ≡ true
          → is_some (cond b (option_map (λ (box : Mailbox T). record box { waiting = [] }) o) o) ≡ true
      here true (Some box) is = refl
      here true None is = is
      here false o is = is

  turned-follows : (number : ℕ) (was : Publisher T) (old : Service T) (after : Publisher T) (new : Service T)
      → at number old.publishers ≡ Some was → publishing.Follows number was old after new → Turned old new
  turned-follows number was old after new found (refused, allowed, is, came) = record {
    publisher_list = ap (λ (it : Service T). it.publisher_list) came
        ∙ fold-keeps (λ (it : Service T). it.publisher_list ≡ old.publisher_list) (publishing.welcome number was.history)
        (λ it other same. list-connect old (option_map_or (λ (one : Subscriber). one.buffer_size) (at other it.subscribers) 0) number other
        it same) news begun refl;
    subscriber_list = by.2;
    publishers = λ n. elim (cases_Bool (n == number)) [
      | inl same ↦ subst (λ (k : ℕ). publisher_stands (at k new.publishers) ≡ publisher_stands (at k old.publishers))
          (sym (eqb-true n number same))
          (ap publisher_stands there
          ∙ (ap (λ (one : Publisher T). Some one.stands) is ∙ sym (ap publisher_stands found)))
      | inr off ↦ ap publisher_stands (by.5 n (eqb-false n number off))
    ];
    subscribers = λ n. ap (λ (table : List (ℕ × Subscriber)). subscriber_stands (at n table)) by.3;
    boxes = boxes;
    reached = λ p s hyp. elim (cases_Bool (p == number)) [
      | inl same ↦ subst (λ (k : ℕ). Reached k s old → Lasts (reach k s old) (subscriber_listed s old) (reach k s new) × Reached k s new)
          (sym (eqb-true p number same)) (here s) hyp
      | inr off ↦
          let alike : reach p s new ≡ reach p s old = ap (reach_of s) (by.5 p (eqb-false p number off)) in (
            lasts-same (reach p s old) (subscriber_listed s old) (reach p s new) alike,
            (λ now. boxes p s (hyp (sym alike ∙ now))),
          )
    ];
    heard = λ p s hyp. (
      lasts-same (hear p s old) (publisher_listed p old) (hear p s new)
          (ap (λ (table : List (ℕ × Subscriber)). hear_of p (at s table)) by.3),
      (
        (λ now. boxes p s (hyp.0 (sym (ap (λ (table : List (ℕ × Subscriber)). hear_of p (at s table)) by.3) ∙ now))),
        (λ one known. subst (λ list. Placed p one.connected list.places) (sym listed)
            (hyp.1 one (sym (ap (at s) by.3) ∙ known))),
      ),
    );
  }
    where
      news : List ℕ
      news = filter (λ subscriber. not (contains (those was.connected) subscriber)) (those after.connected)

      begun : Service T
      begun = with_publisher number after (publishing.ended number old)

      by : ByPublisher number old new
      by = by-follows number was old after new (refused, allowed, is, came)

      there : at number new.publishers ≡ Some after
      there = follows-publishers number 0 was old after new found (refused, allowed, is, came)

      listed : new.publisher_list ≡ old.publisher_list
      listed = ap (λ (it : Service T). it.publisher_list) came
          ∙ fold-keeps (λ (it : Service T). it.publisher_list ≡ old.publisher_list) (publishing.welcome number was.history)
          (λ it other same. list-connect old (option_map_or (λ (one : Subscriber). one.buffer_size) (at other it.subscribers) 0) number
          other it same) news begun refl

      boxes : (p s : ℕ) → has_box p s old ≡ true → has_box p s new ≡ true
      boxes p s had =
          subst (λ (it : Service T). has_box p s it ≡ true) (sym came)
          (fold-keeps (λ (it : Service T). has_box p s it ≡ true) (publishing.welcome number was.history)
          (λ it other has. box-welcome p s number was.history it other has) news begun (box-ended p s number old had))

      here : (s : ℕ) → Reached number s old
          → Lasts (reach number s old) (subscriber_listed s old) (reach number s new) × Reached number s new
      here s hyp = (
        (
          (λ now. inr (both-true (subscriber_listed s old) (not (contains refused s)) (sym hit ∙ now)).0),
          (λ had there_too. hit ∙ stays had there_too (contains refused s) refl),
        ),
        (λ now. box now (reach number s old) refl),
      )
        where
          hit : reach number s new ≡ (subscriber_listed s old && not (contains refused s))
          hit = ap (reach_of s) there
              ∙ (ap (λ (one : Publisher T). contains (those one.connected) s) is
              ∙ contains-unless s refused old.subscriber_list.places)

          known : reach number s old ≡ contains (those was.connected) s
          known = ap (reach_of s) found

          stays : reach number s old ≡ true → subscriber_listed s old ≡ true → (b : Bool) → contains refused s ≡ b
              → (subscriber_listed s old && not b) ≡ true
          stays had there_too true out =
              absurd-both (has_box number s old) (hyp had)
              (unmade (both-true (contains (those old.subscriber_list.places) s) (not (has_box number s old))
              (all-contained s (λ (t : ℕ). contains (those old.subscriber_list.places) t && not (is_some (old.mailboxes number t))) refused
              allowed out)).1)
            where
              unmade : not (has_box number s old) ≡ true → has_box number s old ≡ false
              unmade lacks = no-box (has_box number s old) lacks
                where
                  no-box : (b : Bool) → not b ≡ true → b ≡ false
                  no-box true e = sym e
                  no-box false e = refl
          stays had there_too false out = ap (λ (b : Bool). b && true) there_too

          box : reach number s new ≡ true → (b : Bool) → reach number s old ≡ b → has_box number s new ≡ true
          box now true had = boxes number s (hyp had)
          box now false had =
              subst (λ (it : Service T). has_box number s it ≡ true) (sym came)
              (welcomed-box number s was.history news begun
              (contains-filter s (λ (t : ℕ). not (contains (those was.connected) t)) (those after.connected)
              ∙ (ap (λ (b : Bool). b && not (contains (those was.connected) s)) (sym (ap (reach_of s) there) ∙ now)
              ∙ ap not (sym known ∙ had))))

  -- ---- a subscriber follows the list of publishers

  turned-attends : (buffer number : ℕ) (was : Subscriber) (old : Service T) (after : Subscriber) (new : Service T)
      → at number old.subscribers ≡ Some was → subscribing.Follows buffer number was old after new → Turned old new
  turned-attends buffer number was old after new found (refused, allowed, connected, is, turned, came) = record {
    publisher_list = listed;
    subscriber_list = soft.2;
    publishers = λ n. ap (λ (table : List (ℕ × Publisher T)). publisher_stands (at n table)) soft.3;
    subscribers = λ n. stands-held (at n new.subscribers)
        ∙ (ap (option_map (λ (holder : ℕ × Bool). holder.1)) (soft.5 n) ∙ sym (stands-held (at n old.subscribers)));
    boxes = boxes;
    reached = λ p s hyp. (
      lasts-same (reach p s old) (subscriber_listed s old) (reach p s new)
          (ap (λ (table : List (ℕ × Publisher T)). reach_of s (at p table)) soft.3),
      (λ now. boxes p s (hyp (sym (ap (λ (table : List (ℕ × Publisher T)). reach_of s (at p table)) soft.3) ∙ now))),
    );
    heard = λ p s hyp. elim (cases_Bool (s == number)) [
      | inl same ↦ subst (λ (k : ℕ). Heard p k old → Lasts (hear p k old) (publisher_listed p old) (hear p k new) × Heard p k new)
          (sym (eqb-true s number same)) (here p) hyp
      | inr off ↦
          let alike : at s new.subscribers ≡ at s old.subscribers =
          ap (at s) table ∙ at-changed-other number s after old.subscribers (eqb-false s number off) in (
            lasts-same (hear p s old) (publisher_listed p old) (hear p s new) (ap (hear_of p) alike),
            (
              (λ now. boxes p s (hyp.0 (sym (ap (hear_of p) alike) ∙ now))),
              (λ one known. subst (λ list. Placed p one.connected list.places) (sym listed) (hyp.1 one (sym alike ∙ known))),
            ),
          )
    ];
  }
    where
      followed : subscribing.Follows buffer number was old after new
      followed = (refused, allowed, connected, is, turned, came)

      soft : BySubscriber old new
      soft = (soft-follows buffer number was old after new found followed).0

      there : at number new.subscribers ≡ Some after
      there = (soft-follows buffer number was old after new found followed).1

      table : new.subscribers ≡ changed number after old.subscribers
      table = (soft-followed buffer number was old after new followed).2

      listed : new.publisher_list ≡ old.publisher_list
      listed = ap (λ (it : Service T). it.publisher_list) came
          ∙ fold-keeps (λ (it : Service T). it.publisher_list ≡ old.publisher_list)
          (λ (it : Service T) (publisher : ℕ). connect was.buffer_size publisher number it)
          (λ it other same. list-connect old was.buffer_size other number it same) (those connected) (with_subscriber number after old) refl

      boxes : (p s : ℕ) → has_box p s old ≡ true → has_box p s new ≡ true
      boxes p s had = (soft.6 p s).1 had

      staying : List ℕ
      staying = (fold (subscribing.part buffer number old) (record { expired = was.expired; staying = [] })
          (parting (zip was.connected old.publisher_list.places))).staying

      places : after.connected ≡ map (now_at staying refused) (zip was.connected old.publisher_list.places)
      places = ap (λ (one : Subscriber). one.connected) turned ∙ is

      here : (p : ℕ) → Heard p number old
          → Lasts (hear p number old) (publisher_listed p old) (hear p number new) × Heard p number new
      here p hyp = (
        (
          (λ now. begins now),
          (λ had there_too. stays had there_too),
        ),
        (
          (λ now. box now),
          (λ one same. subst (λ list. Placed p one.connected list.places) (sym listed)
              (subst (λ (l : List (Option ℕ)). Placed p l old.publisher_list.places)
              (sym places ∙ ap (λ (it : Subscriber). it.connected) (same-some after one (sym there ∙ same))) placed)),
        ),
      )
        where
          hit : hear p number new
              ≡ contains (those (map (now_at staying refused) (zip was.connected old.publisher_list.places))) p
          hit = ap (hear_of p) there ∙ ap (λ (l : List (Option ℕ)). contains (those l) p) places

          begins : hear p number new ≡ true → (hear p number old ≡ true) ⊎ (publisher_listed p old ≡ true)
          begins now =
              let it : (place : ℕ) × (slice_get (map (now_at staying refused) (zip was.connected old.publisher_list.places)) place
              ≡ Some (Some p)) =
              at-place p (map (now_at staying refused) (zip was.connected old.publisher_list.places)) (sym hit ∙ now) in
              elim (zip-place staying refused p was.connected old.publisher_list.places it.0 it.1) [
                | inl before ↦ inl (ap (hear_of p) found ∙ of-place p was.connected it.0 before)
                | inr now_there ↦ inr (of-place p old.publisher_list.places it.0 now_there)
              ]

          stays : hear p number old ≡ true → publisher_listed p old ≡ true → hear p number new ≡ true
          stays had there_too =
              let it : (place : ℕ) × (slice_get was.connected place ≡ Some (Some p)) =
              at-place p was.connected (sym (ap (hear_of p) found) ∙ had) in
              hit ∙ of-place p (map (now_at staying refused) (zip was.connected old.publisher_list.places)) it.0
              (zip-stays staying refused p (free (contains refused p) refl) was.connected old.publisher_list.places it.0 it.1
              (hyp.1 was found it.0 it.1 there_too))
            where
              no-box : (b : Bool) → not b ≡ true → b ≡ false
              no-box true e = sym e
              no-box false e = refl

              free : (b : Bool) → contains refused p ≡ b → b ≡ false
              free false out = refl
              free true out =
                  absurd-both (has_box p number old) (hyp.0 had)
                  (no-box (has_box p number old)
                  (both-true (contains (those old.publisher_list.places) p) (not (has_box p number old))
                  (all-contained p
                  (λ (q : ℕ). contains (those old.publisher_list.places) q && not (is_some (old.mailboxes q number))) refused allowed
                  out)).1)

          box : hear p number new ≡ true → has_box p number new ≡ true
          box now =
              subst (λ (it : Service T). has_box p number it ≡ true) (sym came)
              (connected-box p number was.buffer_size (those connected) (with_subscriber number after old)
              (ap (λ (l : List (Option ℕ)). contains (those l) p) is ∙ (sym hit ∙ now)))

          placed : Placed p (map (now_at staying refused) (zip was.connected old.publisher_list.places)) old.publisher_list.places
          placed place now_there listed_too =
              elim (zip-place staying refused p was.connected old.publisher_list.places place now_there) [
                | inl before ↦ hyp.1 was found place before listed_too
                | inr there_now ↦ there_now
              ]

  pub turned-walks : Walks Turned
  turned-walks = record {
    none = turned-none;
    both = turned-both;
    lent = λ loans service. turned-level service (record service { loans = loans }) refl refl (λ n. refl) (λ n. refl) (λ p s is. is);
    held = λ samples service.
        turned-level service (record service { samples = samples }) refl refl (λ n. refl) (λ n. refl) (λ p s is. is);
    boxed = λ publisher subscriber box service.
        turned-level service (with_mailbox publisher subscriber box service) refl refl (λ n. refl) (λ n. refl)
        (λ p s is. box-set p s publisher subscriber box service is);
    turned = λ number was after service found stands connected seen.
        turned-level service (with_publisher number after service) refl refl
        (λ n. changed-view publisher_view number n was after service.publishers found (λ i. (stands i, connected i))) (λ n. refl)
        (λ p s is. is);
    follows = turned-follows;
    swept = λ number was after service found stands connected seen again.
        turned-level service (with_subscriber number after service) refl refl (λ n. refl)
        (λ n. changed-view subscriber_view number n was after service.subscribers found (λ i. (stands i, connected i)))
        (λ p s is. is);
    attends = turned-attends;
  }
