-- The lists of a service have just the ports that stand, and who is connected was listed.
use Rattle.std.proofs.Common.{◌≡◌, ◌≤◌, ◌⊎◌, ◌+◌, ℕ, zero, suc, Bool, true, false, cond, not, ◌&&◌, ◌||◌, List, [], ◌∷◌, ◌++◌, map, set}
use Rattle.std.proofs.Common.{Option, None, Some, refl, sym, ap, subst, inl, inr, arith, ◌∙◌, true≢false}
use Rattle.std.proofs.lemmas.Bool.{cases_Bool, eq-eqb, eqb-false, eqb-true, ne_eqb}
use Rattle.std.specs.List.{AllByRecursion, IsDistinct}
use Rattle.std.specs.Option.{option_map_or}
use Rattle.std.specs.Prelude.{◌==◌, filter, is_some, option_and_then, option_map, replicate, slice_get, unwrap_or, MatchBool}
use Rattle.iox_machine.specs.Choices.{Choices}
use Rattle.iox_machine.specs.Arriving.{new_publisher, new_subscriber}
use Rattle.iox_machine.specs.ConnectionLaws.{ConnectedAreJoined, JoinsWhoIsConnected, ListsWhoStands, StandingAreListed}
use Rattle.iox_machine.specs.Factories.{with_open}
use Rattle.iox_machine.specs.Phase.{Phase}
use Rattle.iox_machine.specs.PortList.{PortList, those, unless}
use Rattle.iox_machine.specs.Ports.{publisher_in, subscriber_in}
use Rattle.iox_machine.specs.Run.{Runs}
use Rattle.iox_machine.specs.Service.{Publisher, Service, Subscriber, new_service}
use Rattle.iox_machine.specs.State.{Made, State, counted, new_state}
use Rattle.iox_machine.specs.Table.{at, changed, contains}
use Rattle.iox_machine.proofs.Cases.{both-true, never-some, same-some}
use Rattle.iox_machine.proofs.Counted.{distinct}
use Rattle.iox_machine.proofs.Counts.{one_if, times}
use Rattle.iox_machine.proofs.Linking.{Heard, Placed, Reached, Turned, changed-view, has_box, hear, hear_of, of-place, publisher_listed}
use Rattle.iox_machine.proofs.Linking.{publisher_stands, reach, reach_of, subscriber_listed, subscriber_stands, turned-walks}
use Rattle.iox_machine.proofs.Lists.{all-filtered, all-weaker}
use Rattle.iox_machine.proofs.Moving.{open-keeps, replaced-keeps}
use Rattle.iox_machine.proofs.OrderPorts.{those-none}
use Rattle.iox_machine.proofs.OrderSteps.{IsLater, made-later, up}
use Rattle.iox_machine.proofs.Parts.{Once, contains-set, contains-unless, once-set-new, once-set-other, once-unless}
use Rattle.iox_machine.proofs.Tables.{at-appended, at-appended-other, at-changed, at-changed-other, at-kept}
use Rattle.iox_machine.proofs.Walks.{Comes, Moved, OneMoves, Publishes, Subscribes, Unpublishes, Unsubscribes, step-comes}
use Rattle.iox_command.specs.NegotiateBase.DescribeBase.declared.message_type.MessageTypeDetails.{MessageTypeDetails}
use Rattle.iox_command.specs.NegotiateBase.DescribeSettings.declared.static_config.publish_subscribe.StaticConfig.{StaticConfig}
use Rattle.iox_command.specs.declared.command.Command.{Command}
use Rattle.iox_command.specs.declared.reply.Reply.{Reply}
use Rattle.iox_command.specs.declared.reply.Reply.TheVariants as reply

-- ---- lists

none-times : (n : ℕ) (xs : List ℕ) → contains xs n ≡ false → times n xs ≤ 0
none-times n [] is = omega arith
none-times n (x ∷ xs) is = here (x == n) is (none-times n xs)
  where
    plain : (r : ℕ) → r ≤ 0 → 0 + r ≤ 0
    plain r h = omega (arith, h)

    here : (b : Bool) → (b || contains xs n) ≡ false → (contains xs n ≡ false → times n xs ≤ 0) → one_if b + times n xs ≤ 0
    here true is on = absurd (true≢false is)
    here false is on = plain (times n xs) (on is)

once-times : (n : ℕ) (xs : List ℕ) → Once n xs → times n xs ≤ 1
once-times n [] once = omega arith
once-times n (x ∷ xs) once = here (x == n) once (once-times n xs)
  where
    first : (r : ℕ) → r ≤ 0 → 1 + r ≤ 1
    first r h = omega (arith, h)

    rest : (r : ℕ) → r ≤ 1 → 0 + r ≤ 1
    rest r h = omega (arith, h)

    here : (b : Bool) → MatchBool b (contains xs n ≡ false) (Once n xs) → (Once n xs → times n xs ≤ 1) → one_if b + times n xs ≤ 1
    here true none on = first (times n xs) (none-times n xs none)
    here false once on = rest (times n xs) (on once)

once-distinct : (xs : List ℕ) → ((n : ℕ) → Once n xs) → IsDistinct (λ one other. one == other) xs
once-distinct xs once = distinct xs (λ n. once-times n xs (once n))

kept-true : (b : Bool) → (b && true) ≡ b
kept-true true = refl
kept-true false = refl

left-false : (b : Bool) → (b && false) ≡ false
left-false true = refl
left-false false = refl

-- ---- places

set-stays : (p : ℕ) (other : Option ℕ) (places : List (Option ℕ)) (place one : ℕ) → slice_get places place ≡ Some None
    → slice_get places one ≡ Some (Some p) → slice_get (set places place other) one ≡ Some (Some p)
set-stays p other [] place one free is = never-some None free
set-stays p other (it ∷ places) zero zero free is = never-some p (sym (same-some it None free) ∙ same-some it (Some p) is)
set-stays p other (it ∷ places) zero (suc one) free is = is
set-stays p other (it ∷ places) (suc place) zero free is = is
set-stays p other (it ∷ places) (suc place) (suc one) free is = set-stays p other places place one free is

placed-set : (p number : ℕ) (connected places : List (Option ℕ)) (place : ℕ) → slice_get places place ≡ Some None
    → ((number == p) ≡ true → contains (those connected) p ≡ false) → Placed p connected places
    → Placed p connected (set places place (Some number))
placed-set p number connected places place free off placed one is listed =
    here (number == p) (λ same. off same) (sym (contains-set p number places place free) ∙ listed)
  where
    here : (b : Bool) → (b ≡ true → contains (those connected) p ≡ false) → (b || contains (those places) p) ≡ true
        → slice_get (set places place (Some number)) one ≡ Some (Some p)
    here true none there = absurd (true≢false (sym (of-place p connected one is) ∙ none refl))
    here false none there = set-stays p (Some number) places place one free (placed one is there)

unless-stays : (p : ℕ) (out : List ℕ) → contains out p ≡ false → (places : List (Option ℕ)) (one : ℕ)
    → slice_get places one ≡ Some (Some p) → slice_get (map (unless out) places) one ≡ Some (Some p)
unless-stays p out off [] one is = never-some (Some p) is
unless-stays p out off (it ∷ places) zero is =
    ap (λ (o : Option ℕ). Some (unless out o)) (same-some it (Some p) is)
    ∙ ap (λ (b : Bool). Some (cond b None (Some p))) off
unless-stays p out off (it ∷ places) (suc one) is = unless-stays p out off places one is

placed-unless : (p : ℕ) (out : List ℕ) (connected places : List (Option ℕ)) → Placed p connected places
    → Placed p connected (map (unless out) places)
placed-unless p out connected places placed one is listed =
    let both : (contains (those places) p ≡ true) × (not (contains out p) ≡ true) =
    both-true (contains (those places) p) (not (contains out p)) (sym (contains-unless p out places) ∙ listed) in
    unless-stays p out (unlike (contains out p) both.1) places one (placed one is both.0)
  where
    unlike : (b : Bool) → not b ≡ true → b ≡ false
    unlike true e = sym e
    unlike false e = refl

subscriber-stood : (o : Option Subscriber)
    → is_some (option_and_then (λ (one : Subscriber). cond one.stands (Some one) None) o) ≡ unwrap_or (subscriber_stands o) false
subscriber-stood None = refl
subscriber-stood (Some one) = here one.stands
  where
    here : (b : Bool) → is_some (cond b (Some one) None) ≡ b
    here true = refl
    here false = refl

some-view : {V X : Type 0} (view : V → X) (o : Option V) → is_some o ≡ is_some (option_map view o)
some-view view None = refl
some-view view (Some one) = refl

stood-there : (o : Option Bool) → unwrap_or o false ≡ true → is_some o ≡ true
stood-there None e = e
stood-there (Some b) e = refl

none-of : {V : Type 0} (o : Option V) → (is_some o ≡ true → ⊥) → o ≡ None
none-of None never = refl
none-of (Some one) never = absurd (never refl)

some-kept : {V : Type 0} (n : ℕ) (table more : List (ℕ × V)) → is_some (at n table) ≡ true → is_some (at n (table ++ more)) ≡ true
some-kept n table more is = here (at n table) refl is
  where
    here : (o : Option _) → at n table ≡ o → is_some o ≡ true → is_some (at n (table ++ more)) ≡ true
    here None e is = absurd (true≢false (sym is))
    here (Some one) e is = ap is_some (at-kept n one table more e)

beyond : {A : Type 0} (n : ℕ) → n + 1 ≤ n → A
beyond n h = absurd (never n h)
  where
    never : (n : ℕ) → n + 1 ≤ n → ⊥
    never n h = omega (arith, h)

within : (n m : ℕ) → n ≤ m → n ≤ m + 1
within n m h = omega (arith, h)

none-contained : (n m : ℕ) → contains (those (replicate m None)) n ≡ false
none-contained n m = ap (λ (xs : List ℕ). contains xs n) (those-none m)

hear-connected : (p : ℕ) (o : Option Subscriber)
    → hear_of p o
    ≡ option_map_or (λ (l : List (Option ℕ)). contains (those l) p) (option_map (λ (one : Subscriber). one.connected) o) false
hear-connected p None = refl
hear-connected p (Some one) = refl

gone-out : (number n : ℕ) (b : Bool) → ((n == number) ≡ true) ⊎ ((n == number) ≡ false)
    → (b && not (contains (number ∷ []) n)) ≡ (b && not (n == number))
gone-out number n b (inl same) =
    ap (λ (c : Bool). b && not (c || false)) (eq-eqb number n (sym (eqb-true n number same))) ∙ ap (λ (c : Bool). b && not c) (sym same)
gone-out number n b (inr off) =
    ap (λ (c : Bool). b && not (c || false)) (ne_eqb number n (λ same. eqb-false n number off (sym same)))
    ∙ ap (λ (c : Bool). b && not c) (sym off)

module _ {T : Type 0} where
  -- ---- who goes by a number

  publisher-stood : (o : Option (Publisher T))
      → is_some (option_and_then (λ (one : Publisher T). cond one.stands (Some one) None) o) ≡ unwrap_or (publisher_stands o) false
  publisher-stood None = refl
  publisher-stood (Some one) = here one.stands
    where
      here : (b : Bool) → is_some (cond b (Some one) None) ≡ b
      here true = refl
      here false = refl

  -- ---- what holds of each service

  pub record Linked (made : Made) (service : Service T) : Type 0 where
    pub publishers_made : (n : ℕ) → is_some (at n service.publishers) ≡ true → n ≤ made.publishers
    pub subscribers_made : (n : ℕ) → is_some (at n service.subscribers) ≡ true → n ≤ made.subscribers
    pub publishers_listed : (n : ℕ) → publisher_listed n service ≡ is_some (publisher_in n service)
    pub subscribers_listed : (n : ℕ) → subscriber_listed n service ≡ is_some (subscriber_in n service)
    pub publishers_once : (n : ℕ) → Once n (those service.publisher_list.places)
    pub subscribers_once : (n : ℕ) → Once n (those service.subscriber_list.places)
    pub reached : (p s : ℕ) → reach p s service ≡ true → (has_box p s service ≡ true) × (is_some (at s service.subscribers) ≡ true)
    pub heard : (p s : ℕ) → hear p s service ≡ true → (has_box p s service ≡ true) × (is_some (at p service.publishers) ≡ true)
    pub placed : (p s : ℕ) (one : Subscriber) → at s service.subscribers ≡ Some one
        → Placed p one.connected service.publisher_list.places

  pub listed-publisher : (made : Made) (service : Service T) → Linked made service → (n : ℕ) → publisher_listed n service ≡ true
      → is_some (at n service.publishers) ≡ true
  listed-publisher made service l n is =
      some-view (λ (one : Publisher T). one.stands) (at n service.publishers)
      ∙ stood-there (publisher_stands (at n service.publishers))
      (sym (publisher-stood (at n service.publishers)) ∙ (sym (l.publishers_listed n) ∙ is))

  pub listed-subscriber : (made : Made) (service : Service T) → Linked made service → (n : ℕ) → subscriber_listed n service ≡ true
      → is_some (at n service.subscribers) ≡ true
  listed-subscriber made service l n is =
      some-view (λ (one : Subscriber). one.stands) (at n service.subscribers)
      ∙ stood-there (subscriber_stands (at n service.subscribers))
      (sym (subscriber-stood (at n service.subscribers)) ∙ (sym (l.subscribers_listed n) ∙ is))

  linked-later : (made later : Made) → IsLater made later → (service : Service T) → Linked made service → Linked later service
  linked-later made later on service l = record {
    publishers_made = λ n is. up n made.publishers later.publishers (l.publishers_made n is) on.0;
    subscribers_made = λ n is. up n made.subscribers later.subscribers (l.subscribers_made n is) on.1;
    publishers_listed = l.publishers_listed;
    subscribers_listed = l.subscribers_listed;
    publishers_once = l.publishers_once;
    subscribers_once = l.subscribers_once;
    reached = l.reached;
    heard = l.heard;
    placed = l.placed;
  }

  -- the same stand and are there
  pub same-publishers : (old new : Service T) → ((n : ℕ) → publisher_stands (at n new.publishers) ≡ publisher_stands (at n old.publishers))
      → (n : ℕ) → is_some (at n new.publishers) ≡ is_some (at n old.publishers)
  same-publishers old new same n =
      some-view (λ (one : Publisher T). one.stands) (at n new.publishers)
      ∙ (ap is_some (same n) ∙ sym (some-view (λ (one : Publisher T). one.stands) (at n old.publishers)))

  pub same-subscribers : (old new : Service T)
      → ((n : ℕ) → subscriber_stands (at n new.subscribers) ≡ subscriber_stands (at n old.subscribers))
      → (n : ℕ) → is_some (at n new.subscribers) ≡ is_some (at n old.subscribers)
  same-subscribers old new same n =
      some-view (λ (one : Subscriber). one.stands) (at n new.subscribers)
      ∙ (ap is_some (same n) ∙ sym (some-view (λ (one : Subscriber). one.stands) (at n old.subscribers)))

  pub publisher-standing : (old new : Service T)
      → ((n : ℕ) → publisher_stands (at n new.publishers) ≡ publisher_stands (at n old.publishers))
      → (n : ℕ) → is_some (publisher_in n new) ≡ is_some (publisher_in n old)
  publisher-standing old new same n =
      publisher-stood (at n new.publishers)
      ∙ (ap (λ (o : Option Bool). unwrap_or o false) (same n) ∙ sym (publisher-stood (at n old.publishers)))

  pub subscriber-standing : (old new : Service T)
      → ((n : ℕ) → subscriber_stands (at n new.subscribers) ≡ subscriber_stands (at n old.subscribers))
      → (n : ℕ) → is_some (subscriber_in n new) ≡ is_some (subscriber_in n old)
  subscriber-standing old new same n =
      subscriber-stood (at n new.subscribers)
      ∙ (ap (λ (o : Option Bool). unwrap_or o false) (same n) ∙ sym (subscriber-stood (at n old.subscribers)))

  pub linked-turned : (made : Made) (old new : Service T) → Turned old new → Linked made old → Linked made new
  linked-turned made old new t l = record {
    publishers_made = λ n is. l.publishers_made n (sym (same-publishers old new t.publishers n) ∙ is);
    subscribers_made = λ n is. l.subscribers_made n (sym (same-subscribers old new t.subscribers n) ∙ is);
    publishers_listed = λ n. ap (λ (list : PortList). contains (those list.places) n) t.publisher_list
        ∙ (l.publishers_listed n ∙ sym (publisher-standing old new t.publishers n));
    subscribers_listed = λ n. ap (λ (list : PortList). contains (those list.places) n) t.subscriber_list
        ∙ (l.subscribers_listed n ∙ sym (subscriber-standing old new t.subscribers n));
    publishers_once = λ n. subst (λ (list : PortList). Once n (those list.places)) (sym t.publisher_list) (l.publishers_once n);
    subscribers_once = λ n. subst (λ (list : PortList). Once n (those list.places)) (sym t.subscriber_list) (l.subscribers_once n);
    reached = λ p s now. (
      (t.reached p s (λ was. (l.reached p s was).0)).1 now,
      same-subscribers old new t.subscribers s
          ∙ elim ((t.reached p s (λ was. (l.reached p s was).0)).0.0 now) [
            | inl was ↦ (l.reached p s was).1
            | inr listed ↦ listed-subscriber made old l s listed
          ],
    );
    heard = λ p s now. (
      (t.heard p s ((λ was. (l.heard p s was).0), l.placed p s)).1.0 now,
      same-publishers old new t.publishers p
          ∙ elim ((t.heard p s ((λ was. (l.heard p s was).0), l.placed p s)).0.0 now) [
            | inl was ↦ (l.heard p s was).1
            | inr listed ↦ listed-publisher made old l p listed
          ],
    );
    placed = λ p s. (t.heard p s ((λ was. (l.heard p s was).0), l.placed p s)).1.1;
  }

  -- ---- a publisher comes

  pub fresh-publisher : (made : Made) (service : Service T) → Linked made service → at (made.publishers + 1) service.publishers ≡ None
  fresh-publisher made service l =
      none-of (at (made.publishers + 1) service.publishers)
      (λ known. beyond made.publishers (l.publishers_made (made.publishers + 1) known))

  linked-publishes : (made : Made) (service : Service T) (answer : Reply T) (new : Service T) → Publishes made service answer new
      → Linked made service → Linked (counted answer made) new
  linked-publishes made service answer new (factory, options, (place, free, after, mid, came, told, is)) l =
      subst (λ (it : Reply T). Linked (counted it made) new) (sym told)
      (subst (λ (it : Service T). Linked (counted {T = T} (reply.PublisherMade number) made) it) (sym is) (record {
        publishers_made = λ n known. made-so n (cases_Bool (n == number)) (sym (same-publishers more mid t.publishers n) ∙ known);
        subscribers_made = λ n known. l.subscribers_made n (sym (same-subscribers more mid t.subscribers n) ∙ known);
        publishers_listed = λ n. listed n (cases_Bool (n == number));
        subscribers_listed = λ n. ap (λ (list : PortList). contains (those list.places) n) t.subscriber_list
            ∙ (l.subscribers_listed n ∙ sym (subscriber-standing more mid t.subscribers n));
        publishers_once = λ n. subst (λ (list : PortList). Once n (those (set list.places place (Some number)))) (sym t.publisher_list)
            (once n (cases_Bool (number == n)));
        subscribers_once = λ n. subst (λ (list : PortList). Once n (those list.places)) (sym t.subscriber_list) (l.subscribers_once n);
        reached = λ p s now. (
          (t.reached p s (reached-more p s)).1 now,
          same-subscribers more mid t.subscribers s
              ∙ elim ((t.reached p s (reached-more p s)).0.0 now) [
                | inl was ↦ (l.reached p s (reach-before p s (cases_Bool (p == number)) was)).1
                | inr there ↦ listed-subscriber made service l s there
              ],
        );
        heard = λ p s now. (
          (t.heard p s (heard-more p s)).1.0 now,
          same-publishers more mid t.publishers p
              ∙ some-kept p service.publishers ((number, one) ∷ []) (elim ((t.heard p s (heard-more p s)).0.0 now) [
                | inl was ↦ (l.heard p s was).1
                | inr there ↦ listed-publisher made service l p there
              ]),
        );
        placed = λ p s it known. subst (λ (list : PortList). Placed p it.connected (set list.places place (Some number)))
            (sym t.publisher_list)
            (placed-set p number it.connected service.publisher_list.places place free
            (λ same. unheard p s it (eqb-true number p same) known)
            (subst (λ (list : PortList). Placed p it.connected list.places) t.publisher_list
            ((t.heard p s (heard-more p s)).1.1 it known)));
      }))
    where
      number : ℕ
      number = made.publishers + 1

      one : Publisher T
      one = new_publisher factory options service.settings

      more : Service T
      more = record service { publishers = service.publishers ++ (number, one) ∷ [] }

      fresh : at number service.publishers ≡ None
      fresh = fresh-publisher made service l

      found : at number more.publishers ≡ Some one
      found = at-appended number one service.publishers fresh

      t : Turned more mid
      t = turned-walks.follows number one more after mid found came

      made-so : (n : ℕ) → ((n == number) ≡ true) ⊎ ((n == number) ≡ false) → is_some (at n more.publishers) ≡ true
          → n ≤ made.publishers + 1
      made-so n (inl same) known = equal n (eqb-true n number same)
        where
          equal : (n : ℕ) → n ≡ made.publishers + 1 → n ≤ made.publishers + 1
          equal n is = omega (arith, is)
      made-so n (inr off) known =
          within n made.publishers (l.publishers_made n
          (sym (ap is_some (at-appended-other number n one service.publishers (eqb-false n number off))) ∙ known))

      listed : (n : ℕ) → ((n == number) ≡ true) ⊎ ((n == number) ≡ false)
          → contains (those (set mid.publisher_list.places place (Some number))) n ≡ is_some (publisher_in n mid)
      listed n either =
          ap (λ (list : PortList). contains (those (set list.places place (Some number))) n) t.publisher_list
          ∙ (contains-set n number service.publisher_list.places place free
          ∙ (by either ∙ sym (publisher-standing more mid t.publishers n)))
        where
          by : ((n == number) ≡ true) ⊎ ((n == number) ≡ false)
              → ((number == n) || contains (those service.publisher_list.places) n) ≡ is_some (publisher_in n more)
          by (inl same) =
              ap (λ (b : Bool). b || contains (those service.publisher_list.places) n) (eq-eqb number n (sym (eqb-true n number same)))
              ∙ sym (publisher-stood (at n more.publishers)
              ∙ ap (λ (o : Option (Publisher T)). unwrap_or (publisher_stands o) false)
              (ap (λ (k : ℕ). at k more.publishers) (eqb-true n number same) ∙ found))
          by (inr off) =
              ap (λ (b : Bool). b || contains (those service.publisher_list.places) n)
              (ne_eqb number n (λ same. eqb-false n number off (sym same)))
              ∙ (l.publishers_listed n
              ∙ ap (λ (o : Option (Publisher T)). is_some (option_and_then (λ (it : Publisher T). cond it.stands (Some it) None) o))
              (sym (at-appended-other number n one service.publishers (eqb-false n number off))))

      unlisted : contains (those service.publisher_list.places) number ≡ false
      unlisted =
          l.publishers_listed number
          ∙ ap (λ (o : Option (Publisher T)). is_some (option_and_then (λ (it : Publisher T). cond it.stands (Some it) None) o)) fresh

      once : (n : ℕ) → ((number == n) ≡ true) ⊎ ((number == n) ≡ false)
          → Once n (those (set service.publisher_list.places place (Some number)))
      once n (inl same) =
          once-set-new n number service.publisher_list.places place free
          (ap (λ (k : ℕ). contains (those service.publisher_list.places) k) (sym (eqb-true number n same)) ∙ unlisted)
      once n (inr off) = once-set-other n number service.publisher_list.places place free off (l.publishers_once n)

      reach-before : (p s : ℕ) → ((p == number) ≡ true) ⊎ ((p == number) ≡ false) → reach p s more ≡ true → reach p s service ≡ true
      reach-before p s (inl same) was =
          absurd (true≢false (sym was
          ∙ (ap (λ (k : ℕ). reach k s more) (eqb-true p number same)
          ∙ (ap (reach_of s) found ∙ none-contained s service.settings.max_subscribers))))
      reach-before p s (inr off) was =
          sym (ap (reach_of s) (at-appended-other number p one service.publishers (eqb-false p number off))) ∙ was

      reached-more : (p s : ℕ) → Reached p s more
      reached-more p s was = (l.reached p s (reach-before p s (cases_Bool (p == number)) was)).0

      heard-more : (p s : ℕ) → Heard p s more
      heard-more p s = ((λ was. (l.heard p s was).0), l.placed p s)

      unheard : (p s : ℕ) (it : Subscriber) → number ≡ p → at s mid.subscribers ≡ Some it → contains (those it.connected) p ≡ false
      unheard p s it same known = here (contains (those it.connected) p) refl
        where
          gone : is_some (at p service.publishers) ≡ true → ⊥
          gone there = beyond made.publishers (l.publishers_made number (ap (λ (k : ℕ). is_some (at k service.publishers)) same ∙ there))

          here : (b : Bool) → contains (those it.connected) p ≡ b → b ≡ false
          here false is = refl
          here true is = elim ((t.heard p s (heard-more p s)).0.0 (ap (hear_of p) known ∙ is)) [
            | inl was ↦ absurd (gone (l.heard p s was).1)
            | inr there ↦ absurd (gone (listed-publisher made service l p there))
          ]

  -- ---- a subscriber comes

  pub fresh-subscriber : (made : Made) (service : Service T) → Linked made service
      → at (made.subscribers + 1) service.subscribers ≡ None
  fresh-subscriber made service l =
      none-of (at (made.subscribers + 1) service.subscribers)
      (λ known. beyond made.subscribers (l.subscribers_made (made.subscribers + 1) known))

  linked-subscribes : (made : Made) (service : Service T) (answer : Reply T) (new : Service T) → Subscribes made service answer new
      → Linked made service → Linked (counted answer made) new
  linked-subscribes made service answer new (buffer, factory, options, (place, free, after, mid, came, told, is)) l =
      subst (λ (it : Reply T). Linked (counted it made) new) (sym told)
      (subst (λ (it : Service T). Linked (counted {T = T} (reply.SubscriberMade number) made) it) (sym is) (record {
        publishers_made = λ n known. l.publishers_made n (sym (same-publishers more mid t.publishers n) ∙ known);
        subscribers_made = λ n known. made-so n (cases_Bool (n == number)) (sym (same-subscribers more mid t.subscribers n) ∙ known);
        publishers_listed = λ n. ap (λ (list : PortList). contains (those list.places) n) t.publisher_list
            ∙ (l.publishers_listed n ∙ sym (publisher-standing more mid t.publishers n));
        subscribers_listed = λ n. listed n (cases_Bool (n == number));
        publishers_once = λ n. subst (λ (list : PortList). Once n (those list.places)) (sym t.publisher_list) (l.publishers_once n);
        subscribers_once = λ n. subst (λ (list : PortList). Once n (those (set list.places place (Some number)))) (sym t.subscriber_list)
            (once n (cases_Bool (number == n)));
        reached = λ p s now. (
          (t.reached p s (reached-more p s)).1 now,
          same-subscribers more mid t.subscribers s
              ∙ some-kept s service.subscribers ((number, one) ∷ []) (elim ((t.reached p s (reached-more p s)).0.0 now) [
                | inl was ↦ (l.reached p s was).1
                | inr there ↦ listed-subscriber made service l s there
              ]),
        );
        heard = λ p s now. (
          (t.heard p s (heard-more p s)).1.0 now,
          same-publishers more mid t.publishers p
              ∙ elim ((t.heard p s (heard-more p s)).0.0 now) [
                | inl was ↦ (l.heard p s (hear-before p s (cases_Bool (s == number)) was)).1
                | inr there ↦ listed-publisher made service l p there
              ],
        );
        placed = λ p s. (t.heard p s (heard-more p s)).1.1;
      }))
    where
      number : ℕ
      number = made.subscribers + 1

      one : Subscriber
      one = new_subscriber factory options service.settings

      more : Service T
      more = record service { subscribers = service.subscribers ++ (number, one) ∷ [] }

      fresh : at number service.subscribers ≡ None
      fresh = fresh-subscriber made service l

      found : at number more.subscribers ≡ Some one
      found = at-appended number one service.subscribers fresh

      t : Turned more mid
      t = turned-walks.attends buffer number one more after mid found came

      made-so : (n : ℕ) → ((n == number) ≡ true) ⊎ ((n == number) ≡ false) → is_some (at n more.subscribers) ≡ true
          → n ≤ made.subscribers + 1
      made-so n (inl same) known = equal n (eqb-true n number same)
        where
          equal : (n : ℕ) → n ≡ made.subscribers + 1 → n ≤ made.subscribers + 1
          equal n is = omega (arith, is)
      made-so n (inr off) known =
          within n made.subscribers (l.subscribers_made n
          (sym (ap is_some (at-appended-other number n one service.subscribers (eqb-false n number off))) ∙ known))

      listed : (n : ℕ) → ((n == number) ≡ true) ⊎ ((n == number) ≡ false)
          → contains (those (set mid.subscriber_list.places place (Some number))) n ≡ is_some (subscriber_in n mid)
      listed n either =
          ap (λ (list : PortList). contains (those (set list.places place (Some number))) n) t.subscriber_list
          ∙ (contains-set n number service.subscriber_list.places place free
          ∙ (by either ∙ sym (subscriber-standing more mid t.subscribers n)))
        where
          by : ((n == number) ≡ true) ⊎ ((n == number) ≡ false)
              → ((number == n) || contains (those service.subscriber_list.places) n) ≡ is_some (subscriber_in n more)
          by (inl same) =
              ap (λ (b : Bool). b || contains (those service.subscriber_list.places) n) (eq-eqb number n (sym (eqb-true n number same)))
              ∙ sym (subscriber-stood (at n more.subscribers)
              ∙ ap (λ (o : Option Subscriber). unwrap_or (subscriber_stands o) false)
              (ap (λ (k : ℕ). at k more.subscribers) (eqb-true n number same) ∙ found))
          by (inr off) =
              ap (λ (b : Bool). b || contains (those service.subscriber_list.places) n)
              (ne_eqb number n (λ same. eqb-false n number off (sym same)))
              ∙ (l.subscribers_listed n
              ∙ ap (λ (o : Option Subscriber). is_some (option_and_then (λ (it : Subscriber). cond it.stands (Some it) None) o))
              (sym (at-appended-other number n one service.subscribers (eqb-false n number off))))

      unlisted : contains (those service.subscriber_list.places) number ≡ false
      unlisted =
          l.subscribers_listed number
          ∙ ap (λ (o : Option Subscriber). is_some (option_and_then (λ (it : Subscriber). cond it.stands (Some it) None) o)) fresh

      once : (n : ℕ) → ((number == n) ≡ true) ⊎ ((number == n) ≡ false)
          → Once n (those (set service.subscriber_list.places place (Some number)))
      once n (inl same) =
          once-set-new n number service.subscriber_list.places place free
          (ap (λ (k : ℕ). contains (those service.subscriber_list.places) k) (sym (eqb-true number n same)) ∙ unlisted)
      once n (inr off) = once-set-other n number service.subscriber_list.places place free off (l.subscribers_once n)

      hear-before : (p s : ℕ) → ((s == number) ≡ true) ⊎ ((s == number) ≡ false) → hear p s more ≡ true → hear p s service ≡ true
      hear-before p s (inl same) was =
          absurd (true≢false (sym was
          ∙ (ap (λ (k : ℕ). hear p k more) (eqb-true s number same)
          ∙ (ap (hear_of p) found ∙ none-contained p service.settings.max_publishers))))
      hear-before p s (inr off) was =
          sym (ap (hear_of p) (at-appended-other number s one service.subscribers (eqb-false s number off))) ∙ was

      reached-more : (p s : ℕ) → Reached p s more
      reached-more p s was = (l.reached p s was).0

      heard-more : (p s : ℕ) → Heard p s more
      heard-more p s = (
        (λ was. (l.heard p s (hear-before p s (cases_Bool (s == number)) was)).0),
        (λ it known. by it known (cases_Bool (s == number))),
      )
        where
          by : (it : Subscriber) → at s more.subscribers ≡ Some it → ((s == number) ≡ true) ⊎ ((s == number) ≡ false)
              → Placed p it.connected service.publisher_list.places
          by it known (inl same) place_of is listed_so =
              absurd (true≢false (sym (of-place p it.connected place_of is)
              ∙ (ap (λ (who : Subscriber). contains (those who.connected) p)
              (same-some it one (sym known ∙ (ap (λ (k : ℕ). at k more.subscribers) (eqb-true s number same) ∙ found)))
              ∙ none-contained p service.settings.max_publishers)))
          by it known (inr off) place_of is listed_so =
              l.placed p s it (sym (at-appended-other number s one service.subscribers (eqb-false s number off)) ∙ known) place_of is
              listed_so

  -- ---- a port leaves

  reach-connected : (s : ℕ) (o : Option (Publisher T))
      → reach_of s o
      ≡ option_map_or (λ (l : List (Option ℕ)). contains (those l) s) (option_map (λ (one : Publisher T). one.connected) o) false
  reach-connected s None = refl
  reach-connected s (Some one) = refl

  gone-view : (number : ℕ) (one : Publisher T) (service : Service T) → at number service.publishers ≡ Some one → (n : ℕ)
      → option_map (λ (it : Publisher T). it.connected) (at n (changed number (record one { stands = false }) service.publishers))
      ≡ option_map (λ (it : Publisher T). it.connected) (at n service.publishers)
  gone-view number one service found n =
      changed-view (λ (it : Publisher T). it.connected) number n one (record one { stands = false }) service.publishers found refl

  gone-there : (number : ℕ) (one : Publisher T) (service : Service T) → at number service.publishers ≡ Some one → (n : ℕ)
      → is_some (at n (changed number (record one { stands = false }) service.publishers)) ≡ is_some (at n service.publishers)
  gone-there number one service found n =
      some-view (λ (it : Publisher T). it.connected) (at n (changed number (record one { stands = false }) service.publishers))
      ∙ (ap is_some (gone-view number one service found n)
      ∙ sym (some-view (λ (it : Publisher T). it.connected) (at n service.publishers)))

  gone-reach : (number : ℕ) (one : Publisher T) (service : Service T) → at number service.publishers ≡ Some one → (p s : ℕ)
      → reach_of s (at p (changed number (record one { stands = false }) service.publishers)) ≡ reach p s service
  gone-reach number one service found p s =
      reach-connected s (at p (changed number (record one { stands = false }) service.publishers))
      ∙ (ap (λ (o : Option (List (Option ℕ))). option_map_or (λ (it : List (Option ℕ)). contains (those it) s) o false)
      (gone-view number one service found p)
      ∙ sym (reach-connected s (at p service.publishers)))

  hushed-view : (number : ℕ) (one : Subscriber) (service : Service T) → at number service.subscribers ≡ Some one → (n : ℕ)
      → option_map (λ (it : Subscriber). it.connected) (at n (changed number (record one { stands = false }) service.subscribers))
      ≡ option_map (λ (it : Subscriber). it.connected) (at n service.subscribers)
  hushed-view number one service found n =
      changed-view (λ (it : Subscriber). it.connected) number n one (record one { stands = false }) service.subscribers found refl

  gone-known : (number : ℕ) (one : Subscriber) (service : Service T) → at number service.subscribers ≡ Some one → (n : ℕ)
      → is_some (at n (changed number (record one { stands = false }) service.subscribers)) ≡ is_some (at n service.subscribers)
  gone-known number one service found n =
      some-view (λ (it : Subscriber). it.connected) (at n (changed number (record one { stands = false }) service.subscribers))
      ∙ (ap is_some (hushed-view number one service found n)
      ∙ sym (some-view (λ (it : Subscriber). it.connected) (at n service.subscribers)))

  gone-hear : (number : ℕ) (one : Subscriber) (service : Service T) → at number service.subscribers ≡ Some one → (p s : ℕ)
      → hear_of p (at s (changed number (record one { stands = false }) service.subscribers)) ≡ hear p s service
  gone-hear number one service found p s =
      hear-connected p (at s (changed number (record one { stands = false }) service.subscribers))
      ∙ (ap (λ (o : Option (List (Option ℕ))). option_map_or (λ (it : List (Option ℕ)). contains (those it) p) o false)
      (hushed-view number one service found s)
      ∙ sym (hear-connected p (at s service.subscribers)))

  linked-unpublishes : (made : Made) (service new : Service T) → Unpublishes service new → Linked made service → Linked made new
  linked-unpublishes made service new (number, one, found, is) l = subst (Linked made) (sym is) (record {
    publishers_made = λ n known. l.publishers_made n (sym (gone-there number one service found n) ∙ known);
    subscribers_made = l.subscribers_made;
    publishers_listed = λ n. contains-unless n (number ∷ []) service.publisher_list.places
        ∙ (gone-out number n (contains (those service.publisher_list.places) n) (cases_Bool (n == number))
        ∙ listed n (cases_Bool (n == number)));
    subscribers_listed = l.subscribers_listed;
    publishers_once = λ n. once-unless n (number ∷ []) service.publisher_list.places (l.publishers_once n);
    subscribers_once = l.subscribers_once;
    reached = λ p s now. l.reached p s (sym (gone-reach number one service found p s) ∙ now);
    heard = λ p s now. ((l.heard p s now).0, gone-there number one service found p ∙ (l.heard p s now).1);
    placed = λ p s it known. placed-unless p (number ∷ []) it.connected service.publisher_list.places (l.placed p s it known);
  })
    where
      gone : Publisher T
      gone = record one { stands = false }

      listed : (n : ℕ) → ((n == number) ≡ true) ⊎ ((n == number) ≡ false)
          → (contains (those service.publisher_list.places) n && not (n == number))
          ≡ is_some (option_and_then (λ (it : Publisher T). cond it.stands (Some it) None) (at n (changed number gone service.publishers)))
      listed n (inl is_it) =
          ap (λ (b : Bool). contains (those service.publisher_list.places) n && not b) is_it
          ∙ (left-false (contains (those service.publisher_list.places) n)
          ∙ sym (ap (λ (o : Option (Publisher T)). is_some (option_and_then (λ (it : Publisher T). cond it.stands (Some it) None) o))
          (ap (λ (k : ℕ). at k (changed number gone service.publishers)) (eqb-true n number is_it)
          ∙ at-changed number gone one service.publishers found)))
      listed n (inr off) =
          ap (λ (b : Bool). contains (those service.publisher_list.places) n && not b) off
          ∙ (kept-true (contains (those service.publisher_list.places) n)
          ∙ (l.publishers_listed n
          ∙ sym (ap (λ (o : Option (Publisher T)). is_some (option_and_then (λ (it : Publisher T). cond it.stands (Some it) None) o))
          (at-changed-other number n gone service.publishers (eqb-false n number off)))))

  linked-unsubscribes : (made : Made) (service new : Service T) → Unsubscribes service new → Linked made service → Linked made new
  linked-unsubscribes made service new (number, one, found, is) l = subst (Linked made) (sym is) (record {
    publishers_made = l.publishers_made;
    subscribers_made = λ n known. l.subscribers_made n (sym (gone-known number one service found n) ∙ known);
    publishers_listed = l.publishers_listed;
    subscribers_listed = λ n. contains-unless n (number ∷ []) service.subscriber_list.places
        ∙ (gone-out number n (contains (those service.subscriber_list.places) n) (cases_Bool (n == number))
        ∙ listed n (cases_Bool (n == number)));
    publishers_once = l.publishers_once;
    subscribers_once = λ n. once-unless n (number ∷ []) service.subscriber_list.places (l.subscribers_once n);
    reached = λ p s now. ((l.reached p s now).0, gone-known number one service found s ∙ (l.reached p s now).1);
    heard = λ p s now. l.heard p s (sym (gone-hear number one service found p s) ∙ now);
    placed = λ p s it known. placed-so p s it (before (at s service.subscribers) it
        (sym (hushed-view number one service found s) ∙ ap (option_map (λ (who : Subscriber). who.connected)) known));
  })
    where
      gone : Subscriber
      gone = record one { stands = false }

      before : (o : Option Subscriber) (it : Subscriber) → option_map (λ (who : Subscriber). who.connected) o ≡ Some it.connected
          → (was : Subscriber) × (o ≡ Some was) × (was.connected ≡ it.connected)
      before None it e = never-some it.connected e
      before (Some was) it e = (was, refl, same-some was.connected it.connected e)

      placed-so : (p s : ℕ) (it : Subscriber)
          → (was : Subscriber) × (at s service.subscribers ≡ Some was) × (was.connected ≡ it.connected)
          → Placed p it.connected service.publisher_list.places
      placed-so p s it (was, known, equal) =
          subst (λ (connected : List (Option ℕ)). Placed p connected service.publisher_list.places) equal (l.placed p s was known)

      listed : (n : ℕ) → ((n == number) ≡ true) ⊎ ((n == number) ≡ false)
          → (contains (those service.subscriber_list.places) n && not (n == number))
          ≡ is_some (option_and_then (λ (it : Subscriber). cond it.stands (Some it) None) (at n (changed number gone service.subscribers)))
      listed n (inl is_it) =
          ap (λ (b : Bool). contains (those service.subscriber_list.places) n && not b) is_it
          ∙ (left-false (contains (those service.subscriber_list.places) n)
          ∙ sym (ap (λ (o : Option Subscriber). is_some (option_and_then (λ (it : Subscriber). cond it.stands (Some it) None) o))
          (ap (λ (k : ℕ). at k (changed number gone service.subscribers)) (eqb-true n number is_it)
          ∙ at-changed number gone one service.subscribers found)))
      listed n (inr off) =
          ap (λ (b : Bool). contains (those service.subscriber_list.places) n && not b) off
          ∙ (kept-true (contains (those service.subscriber_list.places) n)
          ∙ (l.subscribers_listed n
          ∙ sym (ap (λ (o : Option Subscriber). is_some (option_and_then (λ (it : Subscriber). cond it.stands (Some it) None) o))
          (at-changed-other number n gone service.subscribers (eqb-false n number off)))))

  -- who leaves is connected as before
  pub reached-left : (service new : Service T) → Unpublishes service new → (p s : ℕ)
      → (reach p s new ≡ reach p s service) × (is_some (at p new.publishers) ≡ is_some (at p service.publishers))
      × (new.subscriber_list ≡ service.subscriber_list)
  reached-left service new (number, one, found, is) p s =
      subst (λ (it : Service T). (reach p s it ≡ reach p s service) × (is_some (at p it.publishers) ≡ is_some (at p service.publishers))
      × (it.subscriber_list ≡ service.subscriber_list)) (sym is)
      (gone-reach number one service found p s, gone-there number one service found p, refl)

  pub heard-left : (service new : Service T) → Unsubscribes service new → (p s : ℕ)
      → (hear p s new ≡ hear p s service) × (is_some (at s new.subscribers) ≡ is_some (at s service.subscribers))
      × (new.publisher_list ≡ service.publisher_list)
  heard-left service new (number, one, found, is) p s =
      subst (λ (it : Service T). (hear p s it ≡ hear p s service) × (is_some (at s it.subscribers) ≡ is_some (at s service.subscribers))
      × (it.publisher_list ≡ service.publisher_list)) (sym is)
      (gone-hear number one service found p s, gone-known number one service found s, refl)

  -- ---- steps and runs

  linked-new : (made : Made) (name : List ℕ) (c : StaticConfig) → Linked made (new_service name c)
  linked-new made name c = record {
    publishers_made = λ n is. absurd (true≢false (sym is));
    subscribers_made = λ n is. absurd (true≢false (sym is));
    publishers_listed = λ n. none-contained n c.max_publishers;
    subscribers_listed = λ n. none-contained n c.max_subscribers;
    publishers_once = λ n. subst (λ (xs : List ℕ). Once n xs) (sym (those-none c.max_publishers)) tt;
    subscribers_once = λ n. subst (λ (xs : List ℕ). Once n xs) (sym (those-none c.max_subscribers)) tt;
    reached = λ p s is. absurd (true≢false (sym is));
    heard = λ p s is. absurd (true≢false (sym is));
    placed = λ p s one is. never-some one is;
  }

  linked-moved : (made : Made) (service : Service T) (answer : Reply T) (after : Service T)
      → Moved Turned turned-walks made service answer after → Linked made service → Linked (counted answer made) after
  linked-moved made service answer after (inl t) l =
      linked-later made (counted answer made) (made-later answer made) after (linked-turned made service after t l)
  linked-moved made service answer after (inr (inl came)) l = linked-publishes made service answer after came l
  linked-moved made service answer after (inr (inr (inl came))) l = linked-subscribes made service answer after came l
  linked-moved made service answer after (inr (inr (inr (inl gone)))) l =
      linked-later made (counted answer made) (made-later answer made) after (linked-unpublishes made service after gone l)
  linked-moved made service answer after (inr (inr (inr (inr gone)))) l =
      linked-later made (counted answer made) (made-later answer made) after (linked-unsubscribes made service after gone l)

  abbrev pub AreLinked : State T → Type 0
  AreLinked state = AllByRecursion (Linked state.made) state.services

  pub comes-linked : (old : State T) (answer : Reply T) (new : State T) → Comes Turned turned-walks old answer new → AreLinked old
      → AreLinked new
  comes-linked old answer new (made, how) all =
      subst (λ (it : Made). AllByRecursion (Linked it) new.services) (sym made) (by how)
    where
      later : Made
      later = counted answer old.made

      later-all : AllByRecursion (Linked later) old.services
      later-all = all-weaker (Linked old.made) (Linked later)
          (λ service l. linked-later old.made later (made-later answer old.made) service l) old.services all

      by : (new.services ≡ old.services)
          ⊎ (OneMoves Turned turned-walks old answer new
          ⊎ (((name : List ℕ) × (phase : Phase) × (new.services ≡ with_open name phase old.services))
          ⊎ ((test : Service T → Bool) × (new.services ≡ filter test old.services)))) → AllByRecursion (Linked later) new.services
      by (inl same) = subst (AllByRecursion (Linked later)) (sym same) later-all
      by (inr (inl (has, service, after, first, moved, came))) =
          subst (AllByRecursion (Linked later)) (sym (ap (λ (state : State T). state.services) came))
          (replaced-keeps (Linked old.made) (Linked later) has service after old.services
          (λ it l. linked-later old.made later (made-later answer old.made) it l)
          (λ l. linked-moved old.made service answer after moved l) first all)
      by (inr (inr (inl (name, phase, opened)))) =
          subst (AllByRecursion (Linked later)) (sym opened)
          (open-keeps (Linked later) name (λ c. linked-new later name c) phase old.services later-all)
      by (inr (inr (inr (test, ended)))) =
          subst (AllByRecursion (Linked later)) (sym ended) (all-filtered (Linked later) test old.services later-all)

  module _ (types : MessageTypeDetails) (choices : Choices T) (buffer : ℕ) where
    runs-linked : (asked : List (Command T)) (old : State T) (answers : List (Reply T)) (new : State T)
        → Runs types choices buffer asked old answers new → AreLinked old → AreLinked new
    runs-linked [] old answers new run all = subst AreLinked (sym run.1) all
    runs-linked (one ∷ more) old answers new run all =
        runs-linked more run.1 run.2 new run.4
        (comes-linked old run.0 run.1 (step-comes Turned turned-walks types choices buffer one old run.0 run.1 run.3) all)

pub standing-are-listed : {T : Type 0} (choices : Choices T) → StandingAreListed choices
standing-are-listed {T} choices types buffer asked answers new run =
    all-weaker (Linked new.made) ListsWhoStands
    (λ (service : Service T) (l : Linked new.made service). (
      l.publishers_listed,
      l.subscribers_listed,
      once-distinct (those service.publisher_list.places) l.publishers_once,
      once-distinct (those service.subscriber_list.places) l.subscribers_once,
    )) new.services (runs-linked types choices buffer asked new_state answers new run tt)

pub connected-are-joined : {T : Type 0} (choices : Choices T) → ConnectedAreJoined choices
connected-are-joined {T} choices types buffer asked answers new run =
    all-weaker (Linked new.made) JoinsWhoIsConnected (λ (service : Service T) (l : Linked new.made service). (l.reached, l.heard))
    new.services (runs-linked types choices buffer asked new_state answers new run tt)
