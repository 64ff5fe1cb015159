-- What was sent, was received and waits between a publisher and a subscriber stands as it should after each step.
use Rattle.std.proofs.Common.{◌≡◌, ◌⊎◌, ◌≤◌, ◌<◌, ℕ, Bool, true, false, cond, List, [], ◌∷◌, ◌++◌, Option, None, Some, refl, sym, ap}
use Rattle.std.proofs.Common.{subst, inl, inr, arith, ◌∙◌}
use Rattle.std.specs.List.{AllByRecursion}
use Rattle.std.specs.Prelude.{⊤, is_some, find}
use Rattle.iox_machine.specs.Message.{Message}
use Rattle.iox_machine.specs.MessageLaws.{IsPartOf}
use Rattle.iox_machine.specs.PortList.{PortList, those}
use Rattle.iox_machine.proofs.Shorthands.{IsSkipped, IsRefused}
use Rattle.iox_machine.specs.SequenceLaws.{GoOnBehind}
use Rattle.iox_machine.specs.Service.{Service, Publisher}
use Rattle.iox_machine.specs.State.{State, Made, AtOne, replaced, counted}
use Rattle.iox_machine.specs.Table.{at, contains}
use Rattle.iox_machine.proofs.Cases.{same-some, never-some}
use Rattle.iox_machine.proofs.Frames.{waiting_in, Softer, ByPublisher, BySubscriber}
use Rattle.iox_machine.proofs.Lists.{all-weaker}
use Rattle.iox_machine.proofs.Moving.{at-one, replaced-keeps}
use Rattle.iox_machine.proofs.Order.{Between, BetweenOf, Stands, between-soft, between-places}
use Rattle.iox_machine.proofs.Parts.{part-front, Once}
use Rattle.iox_machine.proofs.Runs.{all-found}
use Rattle.iox_command.specs.DomainValues.Sequences.{before_first}
use Rattle.iox_command.specs.NegotiateBase.DescribeSettings.declared.static_config.publish_subscribe.StaticConfig.{StaticConfig}
use Rattle.iox_command.specs.declared.refusal.Refusal.{Refusal}
use Rattle.iox_command.specs.declared.reply.Reply.{Reply}
use Rattle.iox_command.specs.declared.reply.Reply.TheVariants as reply

-- one more at the end, if there is one
abbrev pub noted : {X : Type 0} → List X → Option X → List X
noted xs None = xs
noted xs (Some x) = xs ++ x ∷ []

-- ---- what was made

abbrev pub IsLater : Made → Made → Type 0
IsLater made later = (made.publishers ≤ later.publishers) × (made.subscribers ≤ later.subscribers)

pub made-same : (made : Made) → IsLater made made
made-same made = (omega arith, omega arith)

pub made-later : {T : Type 0} (answer : Reply T) (made : Made) → IsLater made (counted answer made)
made-later (reply.NodeMade number) made = made-same made
made-later (reply.FactoryMade number) made = made-same made
made-later (reply.PublisherMade number) made = (omega arith, omega arith)
made-later (reply.SubscriberMade number) made = (omega arith, omega arith)
made-later (reply.LoanMade number) made = made-same made
made-later reply.Done made = made-same made
made-later (reply.Sequence number) made = made-same made
made-later (reply.Delivered count) made = made-same made
made-later reply.Blocked made = made-same made
made-later (reply.Received number values) made = made-same made
made-later reply.NothingWaits made = made-same made
made-later (reply.Values values) made = made-same made
made-later (reply.Has may) made = made-same made
made-later reply.Skipped made = made-same made
made-later (reply.Refused why) made = made-same made

pub below : {A : Type 0} (low high : ℕ) → low ≤ high → high < low → A
below low high h k = absurd (never low high h k)
  where
    never : (low high : ℕ) → low ≤ high → high < low → ⊥
    never low high h k = omega (arith, h, k)

pub under : (low high s : ℕ) → low ≤ high → high < s → low < s
under low high s h k = omega (arith, h, k)

pub up : (n low high : ℕ) → n ≤ low → low ≤ high → n ≤ high
up n low high h k = omega (arith, h, k)

module _ {T : Type 0} (p s : ℕ) where
  -- a service that the publisher isn't of
  abbrev pub Lacks : ℕ → Service T → Type 0
  Lacks born service =
      (at p service.publishers ≡ None) × (waiting_in (service.mailboxes p s) ≡ []) × Once s (those service.subscriber_list.places)
      × (born < s → contains (those service.subscriber_list.places) s ≡ false)

  pub lacks-later : (born later : ℕ) → born ≤ later → (service : Service T) → Lacks born service → Lacks later service
  lacks-later born later up_to service lacks =
      (lacks.0, lacks.1, lacks.2, λ early. lacks.3 (under born later s up_to early))

  pub stands-later : (sent received : List (Message T)) (born later : ℕ) → born ≤ later → (service : Service T)
      → Stands p s sent received born service → Stands p s sent received later service
  stands-later sent received born later up_to service (one, found, b) = (
    one,
    found,
    between-places p s service.settings.sequence_numbers one.last_sequence sent received born one.history one.connected one.blocked
        (service.mailboxes p s) service.subscriber_list.places later service.subscriber_list.places b.listed_once
        (λ may. elim may [ inl early ↦ inl (under born later s up_to early) | inr listed ↦ inr listed ])
        (λ early. (under born later s up_to early, (b.unlisted (under born later s up_to early)).0)) b,
  )

  -- all that is looked at of a service is as it was
  abbrev pub Alike : Service T → Service T → Type 0
  Alike old new =
      (new.name ≡ old.name) × (new.settings ≡ old.settings) × (at p new.publishers ≡ at p old.publishers)
      × (new.subscriber_list ≡ old.subscriber_list) × Softer (old.mailboxes p s) (new.mailboxes p s)

  pub alike-none : (service : Service T) → Alike service service
  alike-none service = (refl, refl, refl, refl, (refl, λ is. is))

  pub alike-by : (number : ℕ) (old new : Service T) → (p ≡ number → ⊥) → ByPublisher number old new → Alike old new
  alike-by number old new off by = (
    by.0,
    by.1,
    by.5 p off,
    by.2,
    (ap waiting_in (by.6 p s off), λ is. ap is_some (by.6 p s off) ∙ is),
  )

  pub alike-soft : (old new : Service T) → BySubscriber old new → Alike old new
  alike-soft old new soft = (soft.0, soft.1, ap (at p) soft.3, soft.2, soft.6 p s)

  pub alike-refused : (why : Refusal) (old mid : Service T) (answer : Reply T) (new : Service T) → Alike old mid
      → IsRefused why mid answer new → Alike old new
  alike-refused why old mid answer new on refused = subst (λ (service : Service T). Alike old service) (sym refused.1) on

  pub lacks-alike : (born : ℕ) (old new : Service T) → Alike old new → Lacks born old → Lacks born new
  lacks-alike born old new a lacks = (
    a.2 ∙ lacks.0,
    a.4.0 ∙ lacks.1,
    subst (λ (l : PortList). Once s (those l.places)) (sym a.3) lacks.2,
    λ early. ap (λ (l : PortList). contains (those l.places) s) a.3 ∙ lacks.3 early,
  )

  pub stands-alike : (sent received : List (Message T)) (born : ℕ) (old new : Service T) → Alike old new → Stands p s sent received born old
      → Stands p s sent received born new
  stands-alike sent received born old new a (one, found, b) = (
    one,
    a.2 ∙ found,
    subst (λ (l : PortList). Between T s new.settings.sequence_numbers one.last_sequence sent received born one.history one.connected
        one.blocked (new.mailboxes p s) l.places) (sym a.3)
        (subst (λ (c : StaticConfig). Between T s c.sequence_numbers one.last_sequence sent received born one.history one.connected
        one.blocked (new.mailboxes p s) old.subscriber_list.places) (sym a.1)
        (between-soft p s old.settings.sequence_numbers one.last_sequence sent received born one.history one.connected one.blocked
        (old.mailboxes p s) (new.mailboxes p s) old.subscriber_list.places a.4 b)),
  )

  -- the publisher that is found is the one that stands
  pub between-found : (sent received : List (Message T)) (born : ℕ) (service : Service T) (one : Publisher T)
      → at p service.publishers ≡ Some one → Stands p s sent received born service → BetweenOf p s sent received born one service
  between-found sent received born service one found (it, there, b) =
      subst (λ (q : Publisher T). BetweenOf p s sent received born q service) (same-some it one (sym there ∙ found)) b

  pub lacks-none : {A : Type 0} (born : ℕ) (service : Service T) (one : Publisher T) → at p service.publishers ≡ Some one
      → Lacks born service → A
  lacks-none born service one found lacks = never-some one (sym lacks.0 ∙ found)

  module _ (G : List ℕ → StaticConfig → Message T → Type 0) where
    -- The service that the publisher is of: what is between it and the subscriber is as it should be, and each message that it sent is
    -- good in that service.
    abbrev pub Fits : Made → List (Message T) → List (Message T) → Service T → Type 0
    Fits made sent received service =
        Stands p s sent received made.subscribers service × (p ≤ made.publishers)
        × AllByRecursion (G service.name service.settings) sent

    -- One service at most is the publisher's.
    abbrev pub IsOfOne : Made → List (Message T) → List (Message T) → List (Service T) → Type 0
    IsOfOne made sent received [] = ⊤
    IsOfOne made sent received (service ∷ more) =
        (Lacks made.subscribers service × IsOfOne made sent received more)
        ⊎ (Fits made sent received service × AllByRecursion (Lacks made.subscribers) more)

    abbrev pub IsOrdered : List (Message T) → List (Message T) → State T → Type 0
    IsOrdered sent received state =
        IsOfOne state.made sent received state.services
        × (state.made.publishers < p → (sent ≡ []) × (received ≡ [])) × IsPartOf received sent
        × ((switch : Bool) × GoOnBehind (before_first switch 1) sent)

    pub fits-later : (made later : Made) (sent received : List (Message T)) → IsLater made later → (service : Service T)
        → Fits made sent received service → Fits later sent received service
    fits-later made later sent received on service fits = (
      stands-later sent received made.subscribers later.subscribers on.1 service fits.0,
      up p made.publishers later.publishers fits.1 on.0,
      fits.2,
    )

    pub one-later : (made later : Made) (sent received : List (Message T)) → IsLater made later → (services : List (Service T))
        → IsOfOne made sent received services → IsOfOne later sent received services
    one-later made later sent received on [] one = tt
    one-later made later sent received on (service ∷ more) (inl (lacks, one)) =
        inl (lacks-later made.subscribers later.subscribers on.1 service lacks, one-later made later sent received on more one)
    one-later made later sent received on (service ∷ more) (inr (fits, all)) = inr (
      fits-later made later sent received on service fits,
      all-weaker (Lacks made.subscribers) (Lacks later.subscribers) (lacks-later made.subscribers later.subscribers on.1) more all,
    )

    abbrev pub has_it : Service T → Bool
    has_it service = is_some (at p service.publishers)

    -- What a step does to the service at which something is done. `IsFirst`: it is the first that has the publisher.
    abbrev pub Moves : Made → Made → List (Message T) → List (Message T) → List (Message T) → List (Message T) → Type 0 → Service T
        → Service T
        → Type 0
    Moves made later sent received sent_then received_then IsFirst old new =
        (Lacks made.subscribers old → Lacks later.subscribers new × (sent_then ≡ sent) × (received_then ≡ received))
        × (Fits made sent received old → IsFirst → Fits later sent_then received_then new)

    pub moves-one : (made later : Made) (sent received sent_then received_then : List (Message T)) → IsLater made later
        → (has : Service T → Bool) (service after : Service T) (services : List (Service T)) → find has services ≡ Some service
        → Moves made later sent received sent_then received_then (find has_it services ≡ Some service) service after
        → IsOfOne made sent received services
        → IsOfOne later sent_then received_then (replaced has after services)
        × ((Lacks made.subscribers service × (sent_then ≡ sent) × (received_then ≡ received))
        ⊎ (Fits made sent received service × Fits later sent_then received_then after))
    moves-one made later sent received sent_then received_then on has service after [] first moves one = never-some service first
    moves-one made later sent received sent_then received_then on has service after (it ∷ more) first moves (inl (lacks, one)) =
        step (moves-one made later sent received sent_then received_then on has service after more) (has it) first
      where
        past : find has_it (it ∷ more) ≡ find has_it more
        past = ap (λ (o : Option (Publisher T)). cond (is_some o) (Some it) (find has_it more)) lacks.0

        step : (find has more ≡ Some service
            → Moves made later sent received sent_then received_then (find has_it more ≡ Some service) service after
            → IsOfOne made sent received more
            → IsOfOne later sent_then received_then (replaced has after more)
            × ((Lacks made.subscribers service × (sent_then ≡ sent) × (received_then ≡ received))
            ⊎ (Fits made sent received service × Fits later sent_then received_then after)))
            → (b : Bool) → cond b (Some it) (find has more) ≡ Some service
            → IsOfOne later sent_then received_then (cond b (after ∷ more) (it ∷ replaced has after more))
            × ((Lacks made.subscribers service × (sent_then ≡ sent) × (received_then ≡ received))
            ⊎ (Fits made sent received service × Fits later sent_then received_then after))
        step onto true same =
            let of_it : Lacks made.subscribers service = subst (Lacks made.subscribers) (same-some it service same) lacks in
            let done : Lacks later.subscribers after × (sent_then ≡ sent) × (received_then ≡ received) = moves.0 of_it in (
              inl (
                done.0,
                subst (λ (l : List (Message T)). IsOfOne later l received_then more) (sym done.1)
                    (subst (λ (l : List (Message T)). IsOfOne later sent l more) (sym done.2)
                    (one-later made later sent received on more one)),
              ),
              inl (of_it, done.1, done.2),
            )
        step onto false same =
            let next : IsOfOne later sent_then received_then (replaced has after more)
            × ((Lacks made.subscribers service × (sent_then ≡ sent) × (received_then ≡ received))
            ⊎ (Fits made sent received service × Fits later sent_then received_then after)) =
            onto same (moves.0, (λ fits is. moves.1 fits (past ∙ is))) one in
            (inl (lacks-later made.subscribers later.subscribers on.1 it lacks, next.0), next.1)
    moves-one made later sent received sent_then received_then on has service after (it ∷ more) first moves (inr (fits, all)) =
        step (has it) first
      where
        here : find has_it (it ∷ more) ≡ Some it
        here = ap (λ (o : Option (Publisher T)). cond (is_some o) (Some it) (find has_it more)) fits.0.1

        step : (b : Bool) → cond b (Some it) (find has more) ≡ Some service
            → IsOfOne later sent_then received_then (cond b (after ∷ more) (it ∷ replaced has after more))
            × ((Lacks made.subscribers service × (sent_then ≡ sent) × (received_then ≡ received))
            ⊎ (Fits made sent received service × Fits later sent_then received_then after))
        step true same =
            let is : it ≡ service = same-some it service same in
            let of_it : Fits made sent received service = subst (Fits made sent received) is fits in
            let done : Fits later sent_then received_then after = moves.1 of_it (here ∙ same) in (
              inr (
                done,
                all-weaker (Lacks made.subscribers) (Lacks later.subscribers) (lacks-later made.subscribers later.subscribers on.1) more
                    all,
              ),
              inr (of_it, done),
            )
        step false same =
            let lacks : Lacks made.subscribers service = all-found (Lacks made.subscribers) has more service same all in
            let done : Lacks later.subscribers after × (sent_then ≡ sent) × (received_then ≡ received) = moves.0 lacks in (
              inr (
                subst (λ (l : List (Message T)). Fits later l received_then it) (sym done.1)
                    (subst (λ (l : List (Message T)). Fits later sent l it) (sym done.2) (fits-later made later sent received on it fits)),
                replaced-keeps (Lacks made.subscribers) (Lacks later.subscribers) has service after more
                    (lacks-later made.subscribers later.subscribers on.1) (λ of_it. done.0) same all,
              ),
              inl (lacks, done.1, done.2),
            )

    -- other services come and go
    pub ordered-services : (sent received : List (Message T)) (old new : State T) → IsLater old.made new.made
        → IsOfOne old.made sent received new.services → IsOrdered sent received old → IsOrdered sent received new
    ordered-services sent received old new on one ordered = (
      one-later old.made new.made sent received on new.services one,
      (λ early. ordered.1 (under old.made.publishers new.made.publishers p on.0 early)),
      ordered.2,
      ordered.3,
    )

    pub moves-later : (made later : Made) (sent received then : List (Message T)) (IsFirst : Type 0) (old new : Service T)
        → IsLater made later → Moves made made sent received then received IsFirst old new
        → Moves made later sent received then received IsFirst old new
    moves-later made later sent received then IsFirst old new on h = (
      (λ lacks.
          let went = h.0 lacks in
          (lacks-later made.subscribers later.subscribers on.1 new went.0, went.1, went.2)),
      (λ fits is_first. fits-later made later then received on new (h.1 fits is_first)),
    )

    -- something is done at one service
    pub ordered-acted : (sent received : List (Message T)) (sending receiving : Option (Message T)) (has : Service T → Bool)
        (service after : Service T) (old : State T) (answer : Reply T) (new : State T) → find has old.services ≡ Some service
        → Moves old.made (counted answer old.made) sent received (noted sent sending) (noted received receiving)
        (find has_it old.services ≡ Some service) service after
        → new ≡ record old { made = counted answer old.made; services = replaced has after old.services } → IsOrdered sent received old
        → IsOrdered (noted sent sending) (noted received receiving) new
    ordered-acted sent received sending receiving has service after old answer new first moves came ordered =
        let on : IsLater old.made (counted answer old.made) = made-later answer old.made in
        let done : IsOfOne (counted answer old.made) (noted sent sending) (noted received receiving) (replaced has after old.services)
        × ((Lacks old.made.subscribers service × (noted sent sending ≡ sent) × (noted received receiving ≡ received))
        ⊎ (Fits old.made sent received service
        × Fits (counted answer old.made) (noted sent sending) (noted received receiving) after)) =
        moves-one old.made (counted answer old.made) sent received (noted sent sending) (noted received receiving) on has service after
        old.services first moves ordered.0 in
        subst (IsOrdered (noted sent sending) (noted received receiving)) (sym came) (
          done.0,
          (λ early. elim done.1 [
            | inl idle ↦ (
              idle.1 ∙ (ordered.1 (under old.made.publishers (counted answer old.made).publishers p on.0 early)).0,
              idle.2 ∙ (ordered.1 (under old.made.publishers (counted answer old.made).publishers p on.0 early)).1,
            )
            | inr fits ↦ below p (counted answer old.made).publishers fits.1.1 early
          ]),
          elim done.1 [
            | inl idle ↦ subst (λ (l : List (Message T)). IsPartOf l (noted sent sending)) (sym idle.2)
                (subst (λ (l : List (Message T)). IsPartOf received l) (sym idle.1) ordered.2)
            | inr fits ↦ part-front (noted received receiving) (waiting_in (after.mailboxes p s)) (noted sent sending) fits.1.0.2.waits
          ],
          elim done.1 [
            | inl idle ↦ subst (λ (l : List (Message T)). (switch : Bool) × GoOnBehind (before_first switch 1) l) (sym idle.1) ordered.3
            | inr fits ↦ (after.settings.sequence_numbers, fits.1.0.2.numbered_so.0)
          ],
        )

    -- a command does something at one service
    pub ordered-at-one : {V : Type 0} (sent received : List (Message T)) (sending receiving : Option (Message T))
        (found : Service T → Option V)
        (Does : V → Service T → Reply T → Service T → Type 0) (old : State T) (answer : Reply T) (new : State T)
        → (IsSkipped old answer new → (sending ≡ None) × (receiving ≡ None))
        → ((service : Service T) (one : V) (after : Service T)
        → find (λ (other : Service T). is_some (found other)) old.services ≡ Some service
        → found service ≡ Some one → Does one service answer after
        → new ≡ record old {
          made = counted answer old.made;
          services = replaced (λ (other : Service T). is_some (found other)) after old.services;
        }
        → Moves old.made (counted answer old.made) sent received (noted sent sending) (noted received receiving)
        (find has_it old.services ≡ Some service) service after)
        → AtOne found Does old answer new → IsOrdered sent received old
        → IsOrdered (noted sent sending) (noted received receiving) new
    ordered-at-one {V} sent received sending receiving found Does old answer new skips does h ordered =
        elim (at-one found Does old answer new h) [
          | inl w ↦ subst (λ (o : Option (Message T)). IsOrdered (noted sent o) (noted received receiving) new) (sym (skips w).0)
              (subst (λ (o : Option (Message T)). IsOrdered sent (noted received o) new) (sym (skips w).1)
              (subst (IsOrdered sent received) (sym w.1) ordered))
          | inr w ↦ ordered-acted sent received sending receiving (λ (other : Service T). is_some (found other)) w.0 w.2 old answer new w.3
              (does w.0 w.1 w.2 w.3 w.4 w.5 w.6) w.6 ordered
        ]

    -- ---- services at which nothing is sent or received

    pub moves-alike : (made later : Made) (sent received : List (Message T)) (IsFirst : Type 0) (old new : Service T) → IsLater made later
        → Alike old new → Moves made later sent received sent received IsFirst old new
    moves-alike made later sent received IsFirst old new on a = (
      (λ lacks. (
        lacks-later made.subscribers later.subscribers on.1 new (lacks-alike made.subscribers old new a lacks),
        refl,
        refl,
      )),
      (λ fits is_first. (
        stands-later sent received made.subscribers later.subscribers on.1 new
            (stands-alike sent received made.subscribers old new a fits.0),
        up p made.publishers later.publishers fits.1 on.0,
        subst (λ (name : List ℕ). AllByRecursion (G name new.settings) sent) (sym a.0)
            (subst (λ (c : StaticConfig). AllByRecursion (G old.name c) sent) (sym a.1) fits.2),
      )),
    )

    -- the publisher itself did something, and sent no message
    pub moves-stands : (made later : Made) (sent received : List (Message T)) (IsFirst : Type 0) (old new : Service T) (one : Publisher T)
        → IsLater made later → (new.name ≡ old.name) → (new.settings ≡ old.settings) → at p old.publishers ≡ Some one
        → (BetweenOf p s sent received made.subscribers one old → Stands p s sent received made.subscribers new)
        → Moves made later sent received sent received IsFirst old new
    moves-stands made later sent received IsFirst old new one on names same found does = (
      (λ lacks. lacks-none made.subscribers old one found lacks),
      (λ fits is_first. (
        stands-later sent received made.subscribers later.subscribers on.1 new
            (does (between-found sent received made.subscribers old one found fits.0)),
        up p made.publishers later.publishers fits.1 on.0,
        subst (λ (name : List ℕ). AllByRecursion (G name new.settings) sent) (sym names)
            (subst (λ (c : StaticConfig). AllByRecursion (G old.name c) sent) (sym same) fits.2),
      )),
    )
