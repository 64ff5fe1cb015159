-- A publisher and a subscriber come to be connected once at most.
use Rattle.std.proofs.Common.{◌≡◌, ◌≤◌, ◌⊎◌, ◌+◌, ℕ, Bool, true, false, cond, not, ◌&&◌, ◌||◌, List, [], ◌∷◌, ◌++◌, set, Option, None}
use Rattle.std.proofs.Common.{Some, refl, sym, ap, subst, inl, inr, arith, ◌∙◌, true≢false}
use Rattle.std.proofs.lemmas.Bool.{and_from, le-leb, leb-true, ne_eqb}
use Rattle.std.specs.List.{AllByRecursion, list_any}
use Rattle.std.specs.Prelude.{◌==◌, filter, find, is_some, nat_le}
use Rattle.iox_machine.specs.Choices.{Choices}
use Rattle.iox_machine.specs.Arriving.{new_publisher, new_subscriber}
use Rattle.iox_machine.specs.ConnectionLaws.{PairsConnectOnce, begins_in}
use Rattle.iox_machine.specs.Factories.{with_open}
use Rattle.iox_machine.specs.PortList.{PortList, those}
use Rattle.iox_machine.specs.Run.{Runs}
use Rattle.iox_machine.specs.Service.{Publisher, Service, Subscriber, new_service}
use Rattle.iox_machine.specs.State.{Made, State, counted, new_state, replaced}
use Rattle.iox_machine.specs.Table.{at, contains}
use Rattle.iox_machine.proofs.Cases.{both-true, never-some}
use Rattle.iox_machine.proofs.Counts.{one_if}
use Rattle.iox_machine.proofs.Linking.{Lasts, Turned, hear, hear_of, publisher_listed, reach, reach_of, subscriber_listed, turned-walks}
use Rattle.iox_machine.proofs.Listed.{AreLinked, Linked, comes-linked, fresh-publisher, fresh-subscriber, heard-left, listed-publisher}
use Rattle.iox_machine.proofs.Listed.{listed-subscriber, reached-left, same-publishers, same-subscribers}
use Rattle.iox_machine.proofs.Lists.{all-filtered}
use Rattle.iox_machine.proofs.Moving.{open-keeps}
use Rattle.iox_machine.proofs.OrderSteps.{IsLater, made-later, up}
use Rattle.iox_machine.proofs.Parts.{contains-set, contains-unless}
use Rattle.iox_machine.proofs.Runs.{all-found}
use Rattle.iox_machine.proofs.Stands.{each-false}
use Rattle.iox_machine.proofs.Tables.{at-appended, at-appended-other}
use Rattle.iox_machine.proofs.Totals.{total, total-filtered, total-open, total-replaced}
use Rattle.iox_machine.proofs.Walks.{Comes, Moved, step-comes}
use Rattle.iox_command.specs.NegotiateBase.DescribeBase.declared.message_type.MessageTypeDetails.{MessageTypeDetails}
use Rattle.iox_command.specs.NegotiateBase.DescribeSettings.declared.static_config.publish_subscribe.StaticConfig.{StaticConfig}
use Rattle.iox_command.specs.declared.command.Command.{Command}
use Rattle.iox_command.specs.declared.reply.Reply.{Reply}

-- ---- what is so, is had and is listed, before and after

-- A connection goes on as it should at one service.
abbrev Links : (was had listed now has lists : Bool) → Type 0
Links was had listed now has lists =
    Lasts was listed now × (lists ≡ true → listed ≡ true) × (has ≡ true → had ≡ true) × (now ≡ true → has ≡ true)

-- one, where it may still begin
abbrev to_begin : (is has listed : Bool) → ℕ
to_begin is has listed = one_if (has && (listed && not is))

met-none : (has listed : Bool) → to_begin true has listed ≡ 0
met-none true true = refl
met-none true false = refl
met-none false listed = refl

unlisted-none : (is has : Bool) → to_begin is has false ≡ 0
unlisted-none is true = refl
unlisted-none is false = refl

-- it begins once at most
weighs : (was had listed now has lists : Bool) → Links was had listed now has lists
    → to_begin now has lists + one_if (not was && now) ≤ to_begin was had listed
weighs true had listed true has lists h = equal (to_begin true has lists) (to_begin true had listed) (met-none has lists)
  where
    equal : (x y : ℕ) → x ≡ 0 → x + 0 ≤ y
    equal x y is = omega (arith, is)
weighs true had listed false has true h = absurd (true≢false (sym (h.0.1 refl (h.1 refl))))
weighs true had listed false has false h =
    equal (to_begin false has false) (to_begin true had listed) (unlisted-none false has)
  where
    equal : (x y : ℕ) → x ≡ 0 → x + 0 ≤ y
    equal x y is = omega (arith, is)
weighs false had listed true has lists h =
    equal (to_begin true has lists) (to_begin false had listed) (met-none has lists)
    (ap one_if (and_from had (listed && true) (h.2 (h.3 refl)) (ap (λ (b : Bool). b && true) (was-listed (h.0.0 refl)))))
  where
    was-listed : (false ≡ true) ⊎ (listed ≡ true) → listed ≡ true
    was-listed (inl is) = absurd (true≢false (sym is))
    was-listed (inr is) = is

    equal : (x y : ℕ) → x ≡ 0 → y ≡ 1 → x + 1 ≤ y
    equal x y is it = omega (arith, is, it)
weighs false had listed false true true h =
    equal (to_begin false had listed)
    (ap one_if (and_from had (listed && true) (h.2 refl) (ap (λ (b : Bool). b && true) (h.1 refl))))
  where
    equal : (y : ℕ) → y ≡ 1 → 1 + 0 ≤ y
    equal y it = omega (arith, it)
weighs false had listed false true false h = none (to_begin false had listed)
  where
    none : (y : ℕ) → 0 + 0 ≤ y
    none y = omega arith
weighs false had listed false false lists h = none (to_begin false had listed)
  where
    none : (y : ℕ) → 0 + 0 ≤ y
    none y = omega arith

weighs-one : (was now has lists : Bool) (rest : ℕ) → to_begin now has lists + one_if (not was && now) ≤ rest + 1
weighs-one was true has lists rest =
    few (to_begin true has lists) (one_if (not was && true)) rest (met-none has lists) (one-most (not was && true))
  where
    few : (x y r : ℕ) → x ≡ 0 → y ≤ 1 → x + y ≤ r + 1
    few x y r is h = omega (arith, is, h)

    one-most : (b : Bool) → one_if b ≤ 1
    one-most true = omega arith
    one-most false = omega arith
weighs-one true false has lists rest = few (to_begin false has lists) rest (one-most (has && (lists && true)))
  where
    few : (x r : ℕ) → x ≤ 1 → x + 0 ≤ r + 1
    few x r h = omega (arith, h)

    one-most : (b : Bool) → one_if b ≤ 1
    one-most true = omega arith
    one-most false = omega arith
weighs-one false false has lists rest = few (to_begin false has lists) rest (one-most (has && (lists && true)))
  where
    few : (x r : ℕ) → x ≤ 1 → x + 0 ≤ r + 1
    few x r h = omega (arith, h)

    one-most : (b : Bool) → one_if b ≤ 1
    one-most true = omega arith
    one-most false = omega arith

never-begins : (was now : Bool) → (was ≡ false → now ≡ false) → one_if (not was && now) ≡ 0
never-begins true now h = refl
never-begins false now h = ap one_if (h refl)

any-none : {X : Type 0} (test : X → Bool) (xs : List X) → AllByRecursion (λ (x : X). test x ≡ false) xs → list_any test xs ≡ false
any-none test [] all = refl
any-none test (x ∷ xs) all = ap (λ (b : Bool). b || list_any test xs) all.0 ∙ any-none test xs all.1

abbrev both_made : ℕ → ℕ → Made → Bool
both_made p s made = nat_le p made.publishers && nat_le s made.subscribers

under : (n m : ℕ) → n ≤ m → nat_le n m ≡ true
under n m h = le-leb n m h

not-next : (n m : ℕ) → n ≤ m → n ≡ m + 1 → ⊥
not-next n m h is = omega (arith, h, is)

apart : (number n : ℕ) (b : Bool) → (n ≡ number → ⊥) → ((number == n) || b) ≡ b
apart number n b off = ap (λ (c : Bool). c || b) (ne_eqb number n (λ same. off (sym same)))

hear-has : (p : ℕ) (o : Option Subscriber) → hear_of p o ≡ true → is_some o ≡ true
hear-has p None e = e
hear-has p (Some one) e = refl

module _ {T : Type 0} where
  -- Something is so at services of which a port is there and another is listed; both were made then.
  pub record Pairs (is has listed : Service T → Bool) (both : Made → Bool) : Type 0 where
    pub made : (made : Made) (service : Service T) → Linked made service → has service ≡ true → listed service ≡ true → both made ≡ true
    pub met : (made : Made) (service : Service T) → Linked made service → is service ≡ true → both made ≡ true
    pub links : (made : Made) (service : Service T) (answer : Reply T) (after : Service T) → both made ≡ true → Linked made service
        → Moved Turned turned-walks made service answer after
        → Links (is service) (has service) (listed service) (is after) (has after) (listed after)
    pub has_none : (name : List ℕ) (c : StaticConfig) → has (new_service name c) ≡ false
    pub is_none : (name : List ℕ) (c : StaticConfig) → is (new_service name c) ≡ false
    pub later : (made : Made) (answer : Reply T) → both made ≡ true → both (counted answer made) ≡ true

  module _ (is has listed : Service T → Bool) (both : Made → Bool) (pairs : Pairs is has listed both) where
    abbrev may : Service T → ℕ
    may service = to_begin (is service) (has service) (listed service)

    abbrev begun : List (Service T) → List (Service T) → ℕ
    begun old new = one_if (not (list_any is old) && list_any is new)

    any-after : (test : Service T → Bool) (service after : Service T) (services : List (Service T)) → find test services ≡ Some service
        → list_any is services ≡ false → list_any is (replaced test after services) ≡ true → is after ≡ true
    any-after test service after [] first none some = never-some service first
    any-after test service after (other ∷ more) first none some =
        here (test other) first some (any-after test service after more)
      where
        others : AllByRecursion (λ (it : Service T). is it ≡ false) (other ∷ more)
        others = each-false is (other ∷ more) none

        here : (b : Bool) → cond b (Some other) (find test more) ≡ Some service
            → list_any is (cond b (after ∷ more) (other ∷ replaced test after more)) ≡ true
            → (find test more ≡ Some service → list_any is more ≡ false → list_any is (replaced test after more) ≡ true → is after ≡ true)
            → is after ≡ true
        here true found some on = first-one (is after) some
          where
            first-one : (b : Bool) → (b || list_any is more) ≡ true → b ≡ true
            first-one true e = refl
            first-one false e = absurd (true≢false (sym e ∙ any-none is more others.1))
        here false found some on =
            on found (any-none is more others.1) (sym (ap (λ (b : Bool). b || list_any is (replaced test after more)) others.0) ∙ some)

    begun-few : (test : Service T → Bool) (service after : Service T) (services : List (Service T)) → find test services ≡ Some service
        → begun services (replaced test after services) ≤ one_if (not (is service) && is after)
    begun-few test service after services first =
        here (list_any is services) refl (list_any is (replaced test after services)) refl
      where
        none : (x : ℕ) → 0 ≤ x
        none x = omega arith

        equal : (x : ℕ) → x ≡ 1 → 1 ≤ x
        equal x is = omega (arith, is)

        here : (b : Bool) → list_any is services ≡ b → (c : Bool) → list_any is (replaced test after services) ≡ c
            → one_if (not b && c) ≤ one_if (not (is service) && is after)
        here true was c now = none (one_if (not (is service) && is after))
        here false was false now = none (one_if (not (is service) && is after))
        here false was true now =
            equal (one_if (not (is service) && is after))
            (ap one_if (and_from (not (is service)) (is after)
            (ap not (all-found (λ (it : Service T). is it ≡ false) test services service first (each-false is services was)))
            (any-after test service after services first was now)))

    abbrev Goes : Made → List (Service T) → List (Service T) → Type 0
    Goes made old new = total may new + begun old new ≤ total may old + one_if (not (both made))

    still : (made : Made) (old new : List (Service T)) → total may new ≤ total may old
        → (list_any is old ≡ false → list_any is new ≡ false) → Goes made old new
    still made old new fewer none =
        plain (total may new) (total may old) (begun old new) (one_if (not (both made))) fewer
        (never-begins (list_any is old) (list_any is new) none)
      where
        plain : (x y c e : ℕ) → x ≤ y → c ≡ 0 → x + c ≤ y + e
        plain x y c e h is_none = omega (arith, h, is_none)

    moved-goes : (made : Made) (test : Service T → Bool) (service : Service T) (answer : Reply T) (after : Service T)
        (services : List (Service T)) → find test services ≡ Some service → Linked made service
        → Moved Turned turned-walks made service answer after → Goes made services (replaced test after services)
    moved-goes made test service answer after services first l moved =
        plain (total may (replaced test after services)) (total may services) (begun services (replaced test after services))
        (one_if (not (is service) && is after)) (one_if (not (both made)))
        (begun-few test service after services first)
        (total-replaced may (one_if (not (is service) && is after)) (one_if (not (both made))) test service after services first
        (here (both made) refl))
      where
        plain : (x y b c e : ℕ) → b ≤ c → x + c ≤ y + e → x + b ≤ y + e
        plain x y b c e h k = omega (arith, h, k)

        zero-more : (x y : ℕ) → x ≤ y → x ≤ y + 0
        zero-more x y h = omega (arith, h)

        here : (b : Bool) → both made ≡ b → may after + one_if (not (is service) && is after) ≤ may service + one_if (not b)
        here true came =
            zero-more (may after + one_if (not (is service) && is after)) (may service)
            (weighs (is service) (has service) (listed service) (is after) (has after) (listed after)
            (pairs.links made service answer after came l moved))
        here false came = weighs-one (is service) (is after) (has after) (listed after) (may service)

    comes-goes : (old : State T) (answer : Reply T) (new : State T) → Comes Turned turned-walks old answer new → AreLinked old
        → Goes old.made old.services new.services
    comes-goes old answer new (made, inl same) all =
        subst (Goes old.made old.services) (sym same)
        (still old.made old.services old.services (itself (total may old.services)) (λ none. none))
      where
        itself : (x : ℕ) → x ≤ x
        itself x = omega arith
    comes-goes old answer new (made, inr (inl (test, service, after, first, moved, came))) all =
        subst (Goes old.made old.services) (sym (ap (λ (state : State T). state.services) came))
        (moved-goes old.made test service answer after old.services first
        (all-found (Linked old.made) test old.services service first all) moved)
    comes-goes old answer new (made, inr (inr (inl (name, phase, opened)))) all =
        subst (Goes old.made old.services) (sym opened)
        (still old.made old.services (with_open name phase old.services)
        (total-open may name phase old.services
        (λ c. ap (λ (b : Bool). one_if (b && (listed (new_service name c) && not (is (new_service name c))))) (pairs.has_none name c)))
        (λ none. any-none is (with_open name phase old.services)
        (open-keeps (λ (it : Service T). is it ≡ false) name (pairs.is_none name) phase old.services (each-false is old.services none))))
    comes-goes old answer new (made, inr (inr (inr (test, ended)))) all =
        subst (Goes old.made old.services) (sym ended)
        (still old.made old.services (filter test old.services) (total-filtered may test old.services)
        (λ none. any-none is (filter test old.services)
        (all-filtered (λ (it : Service T). is it ≡ false) test old.services (each-false is old.services none))))

    -- before both were made nothing is so, and nothing may begin
    early-any : (made : Made) (services : List (Service T)) → both made ≡ false → AllByRecursion (Linked made) services
        → list_any is services ≡ false
    early-any made [] early all = refl
    early-any made (service ∷ more) early all =
        ap (λ (b : Bool). b || list_any is more) (here (is service) refl) ∙ early-any made more early all.1
      where
        here : (b : Bool) → is service ≡ b → b ≡ false
        here true so = absurd (true≢false (sym (pairs.met made service all.0 so) ∙ early))
        here false so = refl

    early-none : (made : Made) (services : List (Service T)) → both made ≡ false → AllByRecursion (Linked made) services
        → total may services ≡ 0
    early-none made [] early all = refl
    early-none made (service ∷ more) early all =
        both-none (may service) (total may more) (here (has service) refl (listed service) refl) (early-none made more early all.1)
      where
        both-none : (x y : ℕ) → x ≡ 0 → y ≡ 0 → x + y ≡ 0
        both-none x y e f = omega (arith, e, f)

        here : (b : Bool) → has service ≡ b → (c : Bool) → listed service ≡ c → one_if (b && (c && not (is service))) ≡ 0
        here true so true there = absurd (true≢false (sym (pairs.made made service all.0 so there) ∙ early))
        here true so false there = refl
        here false so c there = refl

    -- how often it may begin still
    abbrev left_of : State T → ℕ
    left_of state = cond (both state.made) (total may state.services) 1

    step-left : (old : State T) (answer : Reply T) (new : State T) → Comes Turned turned-walks old answer new → AreLinked old
        → AreLinked new → left_of new + begun old.services new.services ≤ left_of old
    step-left old answer new comes all then =
        here (both old.made) refl (both new.made) refl (comes-goes old answer new comes all)
      where
        plain : (x y c : ℕ) → x + c ≤ y + 0 → x + c ≤ y
        plain x y c h = omega (arith, h)

        first : (x y c : ℕ) → y ≡ 0 → x + c ≤ y + 1 → x + c ≤ 1
        first x y c is_none h = omega (arith, is_none, h)

        nothing : (c : ℕ) → c ≡ 0 → 1 + c ≤ 1
        nothing c is_none = omega (arith, is_none)

        here : (b : Bool) → both old.made ≡ b → (d : Bool) → both new.made ≡ d
            → total may new.services + begun old.services new.services ≤ total may old.services + one_if (not b)
            → cond d (total may new.services) 1 + begun old.services new.services ≤ cond b (total may old.services) 1
        here true came true came_too goes =
            plain (total may new.services) (total may old.services) (begun old.services new.services) goes
        here true came false early goes =
            absurd (true≢false (sym (pairs.later old.made answer came) ∙ (ap both (sym comes.0) ∙ early)))
        here false early true came goes =
            first (total may new.services) (total may old.services) (begun old.services new.services)
            (early-none old.made old.services early all) goes
        here false early false early_too goes =
            nothing (begun old.services new.services)
            (never-begins (list_any is old.services) (list_any is new.services)
            (λ none. early-any new.made new.services early_too then))

    module _ (types : MessageTypeDetails) (choices : Choices T) (buffer : ℕ) where
      run-left : (asked : List (Command T)) (old : State T) (answers : List (Reply T)) (new : State T)
          (run : Runs types choices buffer asked old answers new) → AreLinked old
          → left_of new + begins_in types choices buffer (λ (state : State T). list_any is state.services) asked old answers new run
          ≤ left_of old
      run-left [] old answers new run all =
          subst (λ (it : State T). left_of it + 0 ≤ left_of old) (sym run.1) (plain (left_of old))
        where
          plain : (x : ℕ) → x + 0 ≤ x
          plain x = omega arith
      run-left (one ∷ more) old answers new run all =
          let comes : Comes Turned turned-walks old run.0 run.1 =
          step-comes Turned turned-walks types choices buffer one old run.0 run.1 run.3 in
          let then : AreLinked run.1 = comes-linked old run.0 run.1 comes all in
          joined (left_of new) (left_of run.1) (left_of old) (begun old.services run.1.services)
          (begins_in types choices buffer (λ (state : State T). list_any is state.services) more run.1 run.2 new run.4)
          (run-left more run.1 run.2 new run.4 then) (step-left old run.0 run.1 comes all then)
        where
          joined : (x y z c d : ℕ) → x + d ≤ y → y + c ≤ z → x + (c + d) ≤ z
          joined x y z c d h k = omega (arith, h, k)

      begins-once : (asked : List (Command T)) (answers : List (Reply T)) (new : State T)
          (run : Runs types choices buffer asked new_state answers new)
          → begins_in types choices buffer (λ (state : State T). list_any is state.services) asked new_state answers new run ≤ 1
      begins-once asked answers new run =
          few (left_of new)
          (begins_in types choices buffer (λ (state : State T). list_any is state.services) asked new_state answers new run)
          (left_of new_state) (run-left asked new_state answers new run tt) (one-most (both (new_state {T = T}).made))
        where
          few : (x c y : ℕ) → x + c ≤ y → y ≤ 1 → c ≤ 1
          few x c y h k = omega (arith, h, k)

          one-most : (b : Bool) → cond b 0 1 ≤ 1
          one-most true = omega arith
          one-most false = omega arith

  -- ---- a publisher to a subscriber, and a subscriber to a publisher

  module _ (p s : ℕ) where
    both-later : (made : Made) (answer : Reply T) → both_made p s made ≡ true → both_made p s (counted answer made) ≡ true
    both-later made answer came =
        let parts : (nat_le p made.publishers ≡ true) × (nat_le s made.subscribers ≡ true) =
        both-true (nat_le p made.publishers) (nat_le s made.subscribers) came in
        let on : IsLater made (counted answer made) = made-later answer made in
        and_from (nat_le p (counted answer made).publishers) (nat_le s (counted answer made).subscribers)
        (under p (counted answer made).publishers
        (up p made.publishers (counted answer made).publishers (leb-true p made.publishers parts.0) on.0))
        (under s (counted answer made).subscribers
        (up s made.subscribers (counted answer made).subscribers (leb-true s made.subscribers parts.1) on.1))

    reach-has : (o : Option (Publisher T)) → reach_of s o ≡ true → is_some o ≡ true
    reach-has None e = e
    reach-has (Some one) e = refl

    abbrev has_publisher : Service T → Bool
    has_publisher service = is_some (at p service.publishers)

    abbrev has_subscriber : Service T → Bool
    has_subscriber service = is_some (at s service.subscribers)

    reach-links : (made : Made) (service : Service T) (answer : Reply T) (after : Service T) → both_made p s made ≡ true
        → Linked made service
        → Moved Turned turned-walks made service answer after
        → Links (reach p s service) (has_publisher service) (subscriber_listed s service) (reach p s after) (has_publisher after)
        (subscriber_listed s after)
    reach-links made service answer after came l (inl t) = (
      (t.reached p s (λ was. (l.reached p s was).0)).0,
      (λ there. sym (ap (λ (list : PortList). contains (those list.places) s) t.subscriber_list) ∙ there),
      (λ there. sym (same-publishers service after t.publishers p) ∙ there),
      reach-has (at p after.publishers),
    )
    reach-links made service answer after came l (inr (inl (factory, options, (place, free, then, mid, followed, told, is)))) =
        subst (λ (it : Service T). Links (reach p s service) (has_publisher service) (subscriber_listed s service) (reach p s it)
        (has_publisher it) (subscriber_listed s it)) (sym is) (
          subst (λ (b : Bool). Lasts b (subscriber_listed s service) (reach p s mid)) (ap (reach_of s) other)
              (t.reached p s (λ was. (l.reached p s (sym (ap (reach_of s) other) ∙ was)).0)).0,
          (λ there. sym (ap (λ (list : PortList). contains (those list.places) s) t.subscriber_list) ∙ there),
          (λ there. sym (ap is_some other) ∙ (sym (same-publishers more mid t.publishers p) ∙ there)),
          reach-has (at p mid.publishers),
        )
      where
        one : Publisher T
        one = new_publisher factory options service.settings

        more : Service T
        more = record service { publishers = service.publishers ++ (made.publishers + 1, one) ∷ [] }

        other : at p more.publishers ≡ at p service.publishers
        other = at-appended-other (made.publishers + 1) p one service.publishers
            (not-next p made.publishers (leb-true p made.publishers
            (both-true (nat_le p made.publishers) (nat_le s made.subscribers) came).0))

        t : Turned more mid
        t = turned-walks.follows (made.publishers + 1) one more then mid
            (at-appended (made.publishers + 1) one service.publishers (fresh-publisher made service l)) followed
    reach-links made service answer after came l (inr (inr (inl (
      buffer,
      factory,
      options,
      (
        place,
        free,
        then,
        mid,
        followed,
        told,
        is,
      ),
    )))) =
        subst (λ (it : Service T). Links (reach p s service) (has_publisher service) (subscriber_listed s service) (reach p s it)
        (has_publisher it) (subscriber_listed s it)) (sym is) (
          (t.reached p s (λ was. (l.reached p s was).0)).0,
          (λ there. sym listed ∙ there),
          (λ there. sym (same-publishers more mid t.publishers p) ∙ there),
          reach-has (at p mid.publishers),
        )
      where
        one : Subscriber
        one = new_subscriber factory options service.settings

        more : Service T
        more = record service { subscribers = service.subscribers ++ (made.subscribers + 1, one) ∷ [] }

        t : Turned more mid
        t = turned-walks.attends buffer (made.subscribers + 1) one more then mid
            (at-appended (made.subscribers + 1) one service.subscribers (fresh-subscriber made service l)) followed

        listed : contains (those (set mid.subscriber_list.places place (Some (made.subscribers + 1)))) s ≡ subscriber_listed s service
        listed =
            ap (λ (list : PortList). contains (those (set list.places place (Some (made.subscribers + 1)))) s) t.subscriber_list
            ∙ (contains-set s (made.subscribers + 1) service.subscriber_list.places place free
            ∙ apart (made.subscribers + 1) s (subscriber_listed s service)
            (not-next s made.subscribers (leb-true s made.subscribers
            (both-true (nat_le p made.publishers) (nat_le s made.subscribers) came).1)))
    reach-links made service answer after came l (inr (inr (inr (inl gone)))) =
        let same : (reach p s after ≡ reach p s service) × (has_publisher after ≡ has_publisher service)
        × (after.subscriber_list ≡ service.subscriber_list) = reached-left service after gone p s in (
          ((λ now. inl (sym same.0 ∙ now)), (λ was there. same.0 ∙ was)),
          (λ there. sym (ap (λ (list : PortList). contains (those list.places) s) same.2) ∙ there),
          (λ there. sym same.1 ∙ there),
          reach-has (at p after.publishers),
        )
    reach-links made service answer after came l (inr (inr (inr (inr (number, one, found, is))))) =
        subst (λ (it : Service T). Links (reach p s service) (has_publisher service) (subscriber_listed s service) (reach p s it)
        (has_publisher it) (subscriber_listed s it)) (sym is) (
          ((λ now. inl now), (λ was there. was)),
          (λ there. (both-true (subscriber_listed s service) (not (contains (number ∷ []) s))
              (sym (contains-unless s (number ∷ []) service.subscriber_list.places) ∙ there)).0),
          (λ there. there),
          reach-has (at p service.publishers),
        )

    hear-links : (made : Made) (service : Service T) (answer : Reply T) (after : Service T) → both_made p s made ≡ true
        → Linked made service
        → Moved Turned turned-walks made service answer after
        → Links (hear p s service) (has_subscriber service) (publisher_listed p service) (hear p s after) (has_subscriber after)
        (publisher_listed p after)
    hear-links made service answer after came l (inl t) = (
      (t.heard p s ((λ was. (l.heard p s was).0), l.placed p s)).0,
      (λ there. sym (ap (λ (list : PortList). contains (those list.places) p) t.publisher_list) ∙ there),
      (λ there. sym (same-subscribers service after t.subscribers s) ∙ there),
      hear-has p (at s after.subscribers),
    )
    hear-links made service answer after came l (inr (inl (factory, options, (place, free, then, mid, followed, told, is)))) =
        subst (λ (it : Service T). Links (hear p s service) (has_subscriber service) (publisher_listed p service) (hear p s it)
        (has_subscriber it) (publisher_listed p it)) (sym is) (
          (t.heard p s ((λ was. (l.heard p s was).0), l.placed p s)).0,
          (λ there. sym listed ∙ there),
          (λ there. sym (same-subscribers more mid t.subscribers s) ∙ there),
          hear-has p (at s mid.subscribers),
        )
      where
        one : Publisher T
        one = new_publisher factory options service.settings

        more : Service T
        more = record service { publishers = service.publishers ++ (made.publishers + 1, one) ∷ [] }

        t : Turned more mid
        t = turned-walks.follows (made.publishers + 1) one more then mid
            (at-appended (made.publishers + 1) one service.publishers (fresh-publisher made service l)) followed

        listed : contains (those (set mid.publisher_list.places place (Some (made.publishers + 1)))) p ≡ publisher_listed p service
        listed =
            ap (λ (list : PortList). contains (those (set list.places place (Some (made.publishers + 1)))) p) t.publisher_list
            ∙ (contains-set p (made.publishers + 1) service.publisher_list.places place free
            ∙ apart (made.publishers + 1) p (publisher_listed p service)
            (not-next p made.publishers (leb-true p made.publishers
            (both-true (nat_le p made.publishers) (nat_le s made.subscribers) came).0)))
    hear-links made service answer after came l (inr (inr (inl (buffer, factory, options, (place, free, then, mid, followed, told, is))))) =
        subst (λ (it : Service T). Links (hear p s service) (has_subscriber service) (publisher_listed p service) (hear p s it)
        (has_subscriber it) (publisher_listed p it)) (sym is) (
          subst (λ (b : Bool). Lasts b (publisher_listed p service) (hear p s mid)) (ap (hear_of p) other)
              (t.heard p s (
                (λ was. (l.heard p s (sym (ap (hear_of p) other) ∙ was)).0),
                (λ it known. l.placed p s it (sym other ∙ known)),
              )).0,
          (λ there. sym (ap (λ (list : PortList). contains (those list.places) p) t.publisher_list) ∙ there),
          (λ there. sym (ap is_some other) ∙ (sym (same-subscribers more mid t.subscribers s) ∙ there)),
          hear-has p (at s mid.subscribers),
        )
      where
        one : Subscriber
        one = new_subscriber factory options service.settings

        more : Service T
        more = record service { subscribers = service.subscribers ++ (made.subscribers + 1, one) ∷ [] }

        other : at s more.subscribers ≡ at s service.subscribers
        other = at-appended-other (made.subscribers + 1) s one service.subscribers
            (not-next s made.subscribers (leb-true s made.subscribers
            (both-true (nat_le p made.publishers) (nat_le s made.subscribers) came).1))

        t : Turned more mid
        t = turned-walks.attends buffer (made.subscribers + 1) one more then mid
            (at-appended (made.subscribers + 1) one service.subscribers (fresh-subscriber made service l)) followed
    hear-links made service answer after came l (inr (inr (inr (inl (number, one, found, is))))) =
        subst (λ (it : Service T). Links (hear p s service) (has_subscriber service) (publisher_listed p service) (hear p s it)
        (has_subscriber it) (publisher_listed p it)) (sym is) (
          ((λ now. inl now), (λ was there. was)),
          (λ there. (both-true (publisher_listed p service) (not (contains (number ∷ []) p))
              (sym (contains-unless p (number ∷ []) service.publisher_list.places) ∙ there)).0),
          (λ there. there),
          hear-has p (at s service.subscribers),
        )
    hear-links made service answer after came l (inr (inr (inr (inr gone)))) =
        let same : (hear p s after ≡ hear p s service) × (has_subscriber after ≡ has_subscriber service)
        × (after.publisher_list ≡ service.publisher_list) = heard-left service after gone p s in (
          ((λ now. inl (sym same.0 ∙ now)), (λ was there. same.0 ∙ was)),
          (λ there. sym (ap (λ (list : PortList). contains (those list.places) p) same.2) ∙ there),
          (λ there. sym same.1 ∙ there),
          hear-has p (at s after.subscribers),
        )

    known-both : (made : Made) (service : Service T) → Linked made service → has_publisher service ≡ true → has_subscriber service ≡ true
        → both_made p s made ≡ true
    known-both made service l one other =
        and_from (nat_le p made.publishers) (nat_le s made.subscribers) (under p made.publishers (l.publishers_made p one))
        (under s made.subscribers (l.subscribers_made s other))

    reach-pairs : Pairs (reach p s) has_publisher (subscriber_listed s) (both_made p s)
    reach-pairs = record {
      made = λ made service l has there. known-both made service l has (listed-subscriber made service l s there);
      met = λ made service l is. known-both made service l (reach-has (at p service.publishers) is) (l.reached p s is).1;
      links = reach-links;
      has_none = λ name c. refl;
      is_none = λ name c. refl;
      later = both-later;
    }

    hear-pairs : Pairs (hear p s) has_subscriber (publisher_listed p) (both_made p s)
    hear-pairs = record {
      made = λ made service l has there. known-both made service l (listed-publisher made service l p there) has;
      met = λ made service l is. known-both made service l (l.heard p s is).1 (hear-has p (at s service.subscribers) is);
      links = hear-links;
      has_none = λ name c. refl;
      is_none = λ name c. refl;
      later = both-later;
    }

pub pairs-connect-once : {T : Type 0} (choices : Choices T) → PairsConnectOnce choices
pairs-connect-once {T} choices types buffer asked answers new run publisher subscriber = (
  begins-once (reach publisher subscriber) (has_publisher publisher subscriber) (subscriber_listed subscriber)
      (both_made publisher subscriber) (reach-pairs publisher subscriber) types choices buffer asked answers new run,
  begins-once (hear publisher subscriber) (has_subscriber publisher subscriber) (publisher_listed publisher)
      (both_made publisher subscriber) (hear-pairs publisher subscriber) types choices buffer asked answers new run,
)
