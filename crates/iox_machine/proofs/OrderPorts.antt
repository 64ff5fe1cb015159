-- Ports that come and go, and messages that are taken: what stands between a publisher and a subscriber stands as it should after each.
use Rattle.std.proofs.Common.{◌≡◌, ◌⊎◌, ◌≤◌, ◌<◌, ◌+◌, ℕ, zero, suc, Bool, true, false, cond, not, ◌&&◌, ◌||◌, List, [], ◌∷◌, ◌++◌, map}
use Rattle.std.proofs.Common.{set, drop, replicate, Option, None, Some, refl, sym, ap, subst, inl, inr, arith, ◌∙◌, append_assoc}
use Rattle.std.proofs.lemmas.Bool.{eqb-true, eqb-false, and_cases, cases_Bool, true≢false}
use Rattle.std.specs.List.{AllByRecursion}
use Rattle.std.specs.Prelude.{⊤, ◌==◌, is_some, find, slice_get}
use Rattle.iox_machine.proofs.Shorthands.{left, registered, taken, with_subscriber}
use Rattle.iox_machine.specs.Arriving.{new_publisher}
use Rattle.iox_machine.specs.Mailbox.{Mailbox}
use Rattle.iox_machine.specs.Message.{Message, Sample}
use Rattle.iox_machine.specs.PortList.{PortList, those, unless}
use Rattle.iox_machine.specs.PublisherUpdate as publishing
use Rattle.iox_machine.specs.Receiving.{Takes}
use Rattle.iox_machine.specs.Service.{Service, Publisher, Subscriber, mailbox, with_mailbox}
use Rattle.iox_machine.specs.State.{Made, counted, replaced}
use Rattle.iox_machine.specs.SubscriberUpdate as subscribing
use Rattle.iox_machine.specs.Table.{at, contains}
use Rattle.iox_machine.proofs.Cases.{same-some, never-some, both-true}
use Rattle.iox_machine.proofs.Frames.{waiting_in, BySubscriber, box-same, box-other, box-aside, soft-followed}
use Rattle.iox_machine.proofs.Lists.{all-weaker}
use Rattle.iox_machine.proofs.Order.{Between, BetweenOf, between-waits, between-places, follows-between, follows-publishers}
use Rattle.iox_machine.proofs.OrderSteps.{IsLater, Alike, Lacks, Fits, IsOfOne, Moves, made-later, made-same, below, up, alike-soft}
use Rattle.iox_machine.proofs.OrderSteps.{lacks-later}
use Rattle.iox_machine.proofs.OrderSteps.{stands-later, moves-alike, noted}
use Rattle.iox_machine.proofs.Parts.{part-none, Once, contains-set, contains-unless, once-set-new, once-set-other, once-unless}
use Rattle.iox_machine.proofs.Tables.{at-appended}
use Rattle.iox_command.specs.NegotiateBase.DescribeSettings.declared.static_config.publish_subscribe.StaticConfig.{StaticConfig}
use Rattle.iox_command.specs.declared.port.PublisherOptions.{PublisherOptions}
use Rattle.iox_command.specs.declared.reply.Reply.{Reply}
use Rattle.iox_command.specs.declared.reply.Reply.TheVariants as reply

module _ (s : ℕ) where
  -- What the places of subscribers come to be: one is at one place still, and who isn't made isn't there.
  abbrev pub AreListed : ℕ → ℕ → List (Option ℕ) → List (Option ℕ) → Type 0
  AreListed born later places now =
      Once s (those now)
      × (later < s → (born < s) × (contains (those now) s ≡ false))
      × ((later < s) ⊎ (contains (those now) s ≡ true) → (born < s) ⊎ (contains (those places) s ≡ true))

  next-below : (born n : ℕ) → n ≡ born + 1 → n ≡ s → born < s
  next-below born n next is = omega (arith, next, is)

  later-below : (born n later : ℕ) → n ≡ born + 1 → later ≡ n → later < s → born < s
  later-below born n later next same early = omega (arith, next, same, early)

  never-below : {A : Type 0} (n later : ℕ) → n ≡ s → later ≡ n → later < s → A
  never-below n later is same early = absurd (never n later is same early)
    where
      never : (n later : ℕ) → n ≡ s → later ≡ n → later < s → ⊥
      never n later is same early = omega (arith, is, same, early)

  registers : (born n later place : ℕ) (places : List (Option ℕ)) → slice_get places place ≡ Some None → n ≡ born + 1 → later ≡ n
      → Once s (those places) → (born < s → contains (those places) s ≡ false) → AreListed born later places (set places place (Some n))
  registers born n later place places free next same once fresh = elim (cases_Bool (n == s)) [
    | inl is ↦ (
      once-set-new s n places place free (fresh (next-below born n next (eqb-true n s is))),
      (λ early. never-below n later (eqb-true n s is) same early),
      (λ may. inl (next-below born n next (eqb-true n s is))),
    )
    | inr is ↦ (
      once-set-other s n places place free is once,
      (λ early. (
        later-below born n later next same early,
        contains-set s n places place free ∙ (ap (λ (b : Bool). b || contains (those places) s) is
            ∙ fresh (later-below born n later next same early)),
      )),
      (λ may. elim may [
        | inl early ↦ inl (later-below born n later next same early)
        | inr is_so ↦ inr (sym (contains-set s n places place free ∙ ap (λ (b : Bool). b || contains (those places) s) is) ∙ is_so)
      ]),
    )
  ]

  leaves : (born n : ℕ) (places : List (Option ℕ)) → Once s (those places) → (born < s → contains (those places) s ≡ false)
      → AreListed born born places (map (unless (n ∷ [])) places)
  leaves born n places once fresh = (
    once-unless s (n ∷ []) places once,
    (λ early. (
      early,
      contains-unless s (n ∷ []) places ∙ ap (λ (b : Bool). b && not (contains (n ∷ []) s)) (fresh early),
    )),
    (λ may. elim may [
      | inl early ↦ inl early
      | inr is_so ↦ inr (both-true (contains (those places) s) (not (contains (n ∷ []) s))
          (sym (contains-unless s (n ∷ []) places) ∙ is_so)).0
    ]),
  )

pub those-none : (n : ℕ) → those (replicate n None) ≡ []
those-none zero = refl
those-none (suc n) = those-none n

module _ {T : Type 0} (p s : ℕ) (G : List ℕ → StaticConfig → Message T → Type 0) where
  -- subscribers come or leave, and nothing else that is looked at
  moves-places : (made later : Made) (sent received : List (Message T)) (IsFirst : Type 0) (old new : Service T) (now : List (Option ℕ))
      → IsLater made later → (new.name ≡ old.name) → (new.settings ≡ old.settings) → (at p new.publishers ≡ at p old.publishers)
      → new.mailboxes p s ≡ old.mailboxes p s → new.subscriber_list.places ≡ now
      → (Once s (those old.subscriber_list.places) → (made.subscribers < s → contains (those old.subscriber_list.places) s ≡ false)
      → AreListed s made.subscribers later.subscribers old.subscriber_list.places now)
      → Moves p s G made later sent received sent received IsFirst old new
  moves-places made later sent received IsFirst old new now on names same ports boxes places lists = (
    (λ lacks.
        let l : AreListed s made.subscribers later.subscribers old.subscriber_list.places now = lists lacks.2 lacks.3 in (
          (
            ports ∙ lacks.0,
            ap waiting_in boxes ∙ lacks.1,
            subst (λ (it : List (Option ℕ)). Once s (those it)) (sym places) l.0,
            (λ early. ap (λ (it : List (Option ℕ)). contains (those it) s) places ∙ (l.1 early).1),
          ),
          refl,
          refl,
        )),
    (λ fits is_first.
        let b : BetweenOf p s sent received made.subscribers fits.0.0 old = fits.0.2 in
        let l : AreListed s made.subscribers later.subscribers old.subscriber_list.places now =
        lists b.listed_once (λ early. (b.unlisted early).0) in (
          (
            fits.0.0,
            ports ∙ fits.0.1,
            subst (λ (it : List (Option ℕ)). Between T s new.settings.sequence_numbers fits.0.0.last_sequence sent received
                later.subscribers fits.0.0.history fits.0.0.connected fits.0.0.blocked (new.mailboxes p s) it) (sym places)
                (subst (λ (box : Option (Mailbox T)). Between T s new.settings.sequence_numbers fits.0.0.last_sequence sent received
                later.subscribers fits.0.0.history fits.0.0.connected fits.0.0.blocked box now) (sym boxes)
                (subst (λ (c : StaticConfig). Between T s c.sequence_numbers fits.0.0.last_sequence sent received later.subscribers
                fits.0.0.history fits.0.0.connected fits.0.0.blocked (old.mailboxes p s) now) (sym same)
                (between-places p s old.settings.sequence_numbers fits.0.0.last_sequence sent received made.subscribers
                fits.0.0.history fits.0.0.connected fits.0.0.blocked (old.mailboxes p s) old.subscriber_list.places later.subscribers now
                l.0 l.2 l.1 b))),
          ),
          up p made.publishers later.publishers fits.1 on.0,
          subst (λ (name : List ℕ). AllByRecursion (G name new.settings) sent) (sym names)
              (subst (λ (c : StaticConfig). AllByRecursion (G old.name c) sent) (sym same) fits.2),
        )),
  )

  pub moves-leaves : (made : Made) (sent received : List (Message T)) (IsFirst : Type 0) (number : ℕ) (one : Subscriber) (old : Service T)
      → Moves p s G made made sent received sent received IsFirst old
      (with_subscriber number one (record old { subscriber_list = left number old.subscriber_list }))
  moves-leaves made sent received IsFirst number one old =
      moves-places made made sent received IsFirst old
      (with_subscriber number one (record old { subscriber_list = left number old.subscriber_list }))
      (map (unless (number ∷ [])) old.subscriber_list.places) (made-same made) refl refl refl refl refl
      (λ once fresh. leaves s made.subscribers number old.subscriber_list.places once fresh)

  pub moves-subscriber : (made : Made) (sent received : List (Message T)) (IsFirst : Type 0) (buffer number place : ℕ)
      (one after : Subscriber) (old mid new : Service T) (answer : Reply T) → number ≡ made.subscribers + 1
      → subscribing.Follows buffer number one (record old { subscribers = old.subscribers ++ (number, one) ∷ [] }) after mid
      → new ≡ record mid { subscriber_list = registered place number mid.subscriber_list }
      → slice_get old.subscriber_list.places place ≡ Some None → answer ≡ reply.SubscriberMade number
      → Moves p s G made (counted answer made) sent received sent received IsFirst old new
  moves-subscriber made sent received IsFirst buffer number place one after old mid new answer next came is free told =
      let more : Service T = record old { subscribers = old.subscribers ++ (number, one) ∷ [] } in
      let soft : BySubscriber (with_subscriber number after more) mid = (soft-followed buffer number one more after mid came).0 in
      let a : Alike p s old mid = alike-soft p s (with_subscriber number after more) mid soft in
      let end : Service T = record mid { subscriber_list = registered place number mid.subscriber_list } in
      let places : mid.subscriber_list.places ≡ old.subscriber_list.places = ap (λ (l : PortList). l.places) a.3 in
      let first : Moves p s G made made sent received sent received IsFirst old mid =
      moves-alike p s G made made sent received IsFirst old mid (made-same made) a in
      let second : Moves p s G made (counted answer made) sent received sent received ⊤ mid end =
      moves-places made (counted answer made) sent received ⊤ mid end
      (set mid.subscriber_list.places place (Some number)) (made-later answer made) refl refl refl refl refl
      (λ once fresh. registers s made.subscribers number (counted answer made).subscribers place mid.subscriber_list.places
      (ap (λ (l : List (Option ℕ)). slice_get l place) places ∙ free) next
      (ap (λ (told_so : Reply T). (counted told_so made).subscribers) told ∙ sym next) once fresh) in
      subst (λ (service : Service T). Moves p s G made (counted answer made) sent received sent received IsFirst old service) (sym is) (
        (λ lacks. second.0 (first.0 lacks).0),
        (λ fits is_first. second.1 (first.1 fits is_first) tt),
      )

  -- ---- the publisher itself comes

  pub all-lack : (made : Made) (sent received : List (Message T)) → made.publishers < p → (services : List (Service T))
      → IsOfOne p s G made sent received services → AllByRecursion (Lacks p s made.subscribers) services
  all-lack made sent received early [] one = tt
  all-lack made sent received early (service ∷ more) (inl (lacks, one)) = (lacks, all-lack made sent received early more one)
  all-lack made sent received early (service ∷ more) (inr (fits, all)) = below p made.publishers fits.1 early

  pub one-comes : (made later : Made) (sent received : List (Message T)) → IsLater made later → (has : Service T → Bool)
      (service after : Service T) (services : List (Service T)) → find has services ≡ Some service
      → (Lacks p s made.subscribers service → Fits p s G later sent received after)
      → AllByRecursion (Lacks p s made.subscribers) services → IsOfOne p s G later sent received (replaced has after services)
  one-comes made later sent received on has service after [] first comes all = never-some service first
  one-comes made later sent received on has service after (it ∷ more) first comes all =
      step (one-comes made later sent received on has service after more) (has it) first
    where
      step : (find has more ≡ Some service → (Lacks p s made.subscribers service → Fits p s G later sent received after)
          → AllByRecursion (Lacks p s made.subscribers) more → IsOfOne p s G later sent received (replaced has after more)) → (b : Bool)
          → cond b (Some it) (find has more) ≡ Some service
          → IsOfOne p s G later sent received (cond b (after ∷ more) (it ∷ replaced has after more))
      step next true same = inr (
        comes (subst (Lacks p s made.subscribers) (same-some it service same) all.0),
        all-weaker (Lacks p s made.subscribers) (Lacks p s later.subscribers)
            (lacks-later p s made.subscribers later.subscribers on.1) more all.1,
      )
      step next false same = inl (
        lacks-later p s made.subscribers later.subscribers on.1 it all.0,
        next same comes all.1,
      )

  pub comes-fits : (made : Made) (factory : ℕ) (options : PublisherOptions) (old : Service T) (place : ℕ) (after : Publisher T)
      (mid new : Service T) → p ≡ made.publishers + 1
      → publishing.Follows p (new_publisher factory options old.settings)
      (record old { publishers = old.publishers ++ (p, new_publisher factory options old.settings) ∷ [] }) after mid
      → new ≡ record mid { publisher_list = registered place p mid.publisher_list }
      → Lacks p s made.subscribers old → Fits p s G (counted {T = T} (reply.PublisherMade p) made) [] [] new
  comes-fits made factory options old place after mid new next came is lacks =
      let one : Publisher T = new_publisher factory options old.settings in
      let more : Service T = record old { publishers = old.publishers ++ (p, one) ∷ [] } in
      let found : at p more.publishers ≡ Some one = at-appended p one old.publishers lacks.0 in
      let none : those one.connected ≡ [] = those-none old.settings.max_subscribers in
      let b : BetweenOf p s [] [] made.subscribers one more = record {
        numbered_so = (tt, refl);
        kept = part-none [];
        waits = lacks.1;
        listed_once = lacks.2;
        connected_once = subst (λ (l : List ℕ). Once s l) (sym none) tt;
        has_box = λ is_so. absurd (true≢false (sym is_so ∙ ap (λ (l : List ℕ). contains l s) none));
        unmet = λ may not_so. (refl, lacks.1);
        unlisted = λ early. (lacks.3 early, ap (λ (l : List ℕ). contains l s) none);
        under = tt;
      } in
      subst (λ (service : Service T). Fits p s G (counted {T = T} (reply.PublisherMade p) made) [] [] service) (sym is) (
        (
          after,
          follows-publishers p s one more after mid found came,
          (follows-between p s [] [] made.subscribers one more after mid refl came b).0,
        ),
        at-most p made.publishers next,
        tt,
      )
    where
      at-most : (n count : ℕ) → n ≡ count + 1 → n ≤ count + 1
      at-most n count e = omega (arith, e)

  -- ---- a message is taken

  first-waits : (xs : List (Message T)) (message : Message T) → slice_get xs 0 ≡ Some message → xs ≡ message ∷ drop 1 xs
  first-waits [] message e = never-some message e
  first-waits (x ∷ xs) message e = ap (λ (it : Message T). it ∷ xs) (same-some x message e)

  none-waits : {A : Type 0} (xs : List (Message T)) (message : Message T) → slice_get xs 0 ≡ Some message → xs ≡ [] → A
  none-waits xs message e none = never-some message (sym (ap (λ (l : List (Message T)). slice_get l 0) none) ∙ e)

  taken-here : (made later : Made) (sent received : List (Message T)) (IsFirst : Type 0) (old : Service T) (message : Message T)
      (samples : List (ℕ × Sample T)) → IsLater made later → slice_get (mailbox p s old).waiting 0 ≡ Some message
      → Moves p s G made later sent received sent (received ++ message ∷ []) IsFirst old
      (with_mailbox p s (taken (mailbox p s old)) (record old { samples = samples }))
  taken-here made later sent received IsFirst old message samples on first = (
    (λ lacks. none-waits (waiting_in (old.mailboxes p s)) message first lacks.1),
    (λ fits is_first.
        let waiting : List (Message T) = waiting_in (old.mailboxes p s) in
        let new : Service T = with_mailbox p s (taken (mailbox p s old)) (record old { samples = samples }) in
        let b : BetweenOf p s sent (received ++ message ∷ []) made.subscribers fits.0.0 new =
        subst (λ (box : Option (Mailbox T)). Between T s old.settings.sequence_numbers fits.0.0.last_sequence sent
        (received ++ message ∷ []) made.subscribers fits.0.0.history fits.0.0.connected fits.0.0.blocked box
        old.subscriber_list.places)
        (sym (box-same p s (taken (mailbox p s old)) (record old { samples = samples })))
        (between-waits p s old.settings.sequence_numbers fits.0.0.last_sequence sent received (received ++ message ∷ [])
        made.subscribers fits.0.0.history fits.0.0.connected
        fits.0.0.blocked (old.mailboxes p s) (Some (taken (mailbox p s old))) old.subscriber_list.places
        (append_assoc received (message ∷ []) (drop 1 waiting)
        ∙ ap (λ (l : List (Message T)). received ++ l) (sym (first-waits waiting message first)))
        (λ is. refl)
        (λ none. none-waits waiting message first none.1) fits.0.2) in (
          stands-later p s sent (received ++ message ∷ []) made.subscribers later.subscribers on.1 new (fits.0.0, fits.0.1, b),
          up p made.publishers later.publishers fits.1 on.0,
          fits.2,
        )),
  )

  pub taken-elsewhere : (publisher number : ℕ) (old : Service T) (samples : List (ℕ × Sample T))
      → ((number == s) && (publisher == p)) ≡ false
      → Alike p s old (with_mailbox publisher number (taken (mailbox publisher number old)) (record old { samples = samples }))
  taken-elsewhere publisher number old samples off =
      let box : Mailbox T = taken (mailbox publisher number old) in
      let more : Service T = record old { samples = samples } in
      let same : (with_mailbox publisher number box more).mailboxes p s ≡ old.mailboxes p s =
      elim (and_cases (number == s) (publisher == p) off) [
        | inl other ↦ box-aside publisher number box more p s (λ e. eqb-false number s other (sym e))
        | inr other ↦ box-other publisher number box more p s (λ e. eqb-false publisher p other (sym e))
      ] in
      (refl, refl, refl, refl, (ap waiting_in same, λ is. ap is_some same ∙ is))

  pub takes-moves : (made later : Made) (sent received : List (Message T)) (IsFirst : Type 0) (number next publisher : ℕ) (old : Service T)
      (answer : Reply T) (new : Service T) → IsLater made later → (took : Takes number next publisher old answer new)
      → Moves p s G made later sent received sent
      (noted received (cond ((number == s) && (publisher == p)) (Some took.0) None)) IsFirst old new
  takes-moves made later sent received IsFirst number next publisher old answer new on (message, values, first, same, told, came) =
      subst (λ (service : Service T). Moves p s G made later sent received sent
      (noted received (cond ((number == s) && (publisher == p)) (Some message) None)) IsFirst old service) (sym came)
      (step (old.samples ++ (next, record { publisher = publisher; subscriber = number; message = message }) ∷ [])
      ((number == s) && (publisher == p)) refl)
    where
      step : (samples : List (ℕ × Sample T)) (b : Bool) → ((number == s) && (publisher == p)) ≡ b
          → Moves p s G made later sent received sent (noted received (cond b (Some message) None)) IsFirst old
          (with_mailbox publisher number (taken (mailbox publisher number old)) (record old { samples = samples }))
      step samples false off =
          moves-alike p s G made later sent received IsFirst old
          (with_mailbox publisher number (taken (mailbox publisher number old)) (record old { samples = samples })) on
          (taken-elsewhere publisher number old samples off)
      step samples true is_so =
          let both : ((number == s) ≡ true) × ((publisher == p) ≡ true) = both-true (number == s) (publisher == p) is_so in
          subst (λ (n : ℕ). Moves p s G made later sent received sent (received ++ message ∷ []) IsFirst old
          (with_mailbox publisher n (taken (mailbox publisher n old)) (record old { samples = samples })))
          (sym (eqb-true number s both.0))
          (subst (λ (q : ℕ). Moves p s G made later sent received sent (received ++ message ∷ []) IsFirst old
          (with_mailbox q s (taken (mailbox q s old)) (record old { samples = samples })))
          (sym (eqb-true publisher p both.1))
          (taken-here made later sent received IsFirst old message samples on
          (subst (λ (q : ℕ). slice_get (mailbox q s old).waiting 0 ≡ Some message) (eqb-true publisher p both.1)
          (subst (λ (n : ℕ). slice_get (mailbox publisher n old).waiting 0 ≡ Some message) (eqb-true number s both.0) first))))
