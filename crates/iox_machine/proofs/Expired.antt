-- In which order connections expire.
use Rattle.std.proofs.Common.{◌≡◌, ◌⊎◌, ◌≤◌, ℕ, Bool, true, false, cond, not, ◌&&◌, ◌||◌, List, [], ◌∷◌, ◌++◌, length, Option, None, Some}
use Rattle.std.proofs.Common.{refl, sym, ap, subst, inl, inr, arith, ◌∙◌, true≢false, append-nil, append_assoc}
use Rattle.std.proofs.lemmas.Bool.{cases_Bool, eq-eqb, eqb-true, ltb-false, or_left, or_parts, or_right}
use Rattle.std.specs.List.{AllByRecursion, cons_option, list_any}
use Rattle.std.specs.Prelude.{◌==◌, filter, filter_map, find, fold, is_some, max, nat_lt, slice_get, zip}
use Rattle.iox_machine.proofs.Cases.{both-true, by-bool, never-some, same-some}
use Rattle.iox_machine.proofs.Delivering.{Outcomes, by-outcome}
use Rattle.iox_machine.proofs.Frames.{BySubscriber, holder_of, soft-follows, subscriber-stands}
use Rattle.iox_machine.proofs.Lists.{all-filtered, all-joined, all-weaker}
use Rattle.iox_machine.proofs.Moving.{at-one}
use Rattle.iox_machine.proofs.Parting.{empty-list, parts-exactly}
use Rattle.iox_machine.proofs.Parts.{contains-filter}
use Rattle.iox_machine.proofs.Shorthands.{IsRefused, gone_from, parting}
use Rattle.iox_machine.proofs.Stands.{each-false}
use Rattle.iox_machine.proofs.Updated.{subscriber-standing, unmoved}
use Rattle.iox_machine.specs.Choices.{Choices}
use Rattle.iox_machine.specs.ExpiredLaws.{ConnectionsExpireInOrder, ExpiresInOrder, IsIdle, PartsExactly}
use Rattle.iox_machine.specs.Mailbox.{is_idle}
use Rattle.iox_machine.specs.Message.{Message}
use Rattle.iox_machine.specs.MessageLaws.{IsPartOf}
use Rattle.iox_machine.specs.OnceLaws.{is_skipped}
use Rattle.iox_machine.specs.PortList.{those}
use Rattle.iox_machine.specs.Ports.{subscriber_in}
use Rattle.iox_machine.specs.Service.{Service, Subscriber, mailbox}
use Rattle.iox_machine.specs.State.{State, counted, replaced}
use Rattle.iox_machine.specs.SubscriberUpdate as subscribing
use Rattle.iox_machine.specs.SubscriberUpdate.{Parted, part, room_for}
use Rattle.iox_machine.specs.Table.{at, contains}
use Rattle.iox_machine.specs.WaitingLaws.{HasData}
use Rattle.iox_command.specs.declared.refusal.Refusal.TheVariants as refusal
use Rattle.iox_command.specs.declared.reply.Reply.{Reply}
use Rattle.iox_command.specs.declared.reply.Reply.TheVariants as reply

-- ---- lists

part-itself : {X : Type 0} (xs : List X) → IsPartOf xs xs
part-itself [] = refl
part-itself (x ∷ xs) = inr (xs, refl, part-itself xs)

part-filtered : {X : Type 0} (test : X → Bool) (part whole : List X) → IsPartOf part whole → IsPartOf (filter test part) whole
part-filtered test part [] h = ap (filter test) h
part-filtered test part (x ∷ whole) (inl h) = inl (part-filtered test part whole h)
part-filtered {X} test part (x ∷ whole) (inr (rest, e, h)) =
    subst (λ (l : List X). IsPartOf (filter test l) (x ∷ whole)) (sym e) (here (test x) (part-filtered test rest whole h))
  where
    here : (b : Bool) → IsPartOf (filter test rest) whole → IsPartOf (cond b (x ∷ filter test rest) (filter test rest)) (x ∷ whole)
    here true on = inr (filter test rest, refl, on)
    here false on = inl on

filter-joined : {X : Type 0} (test : X → Bool) (xs ys : List X) → filter test (xs ++ ys) ≡ filter test xs ++ filter test ys
filter-joined test [] ys = refl
filter-joined {X} test (x ∷ xs) ys = here (test x) (filter-joined test xs ys)
  where
    here : (b : Bool) → filter test (xs ++ ys) ≡ filter test xs ++ filter test ys
        → cond b (x ∷ filter test (xs ++ ys)) (filter test (xs ++ ys)) ≡ cond b (x ∷ filter test xs) (filter test xs) ++ filter test ys
    here true on = ap (λ (l : List X). x ∷ l) on
    here false on = on

none-joined : {X : Type 0} (test : X → Bool) (xs : List X) (y : X) → list_any test xs ≡ false → test y ≡ false
    → list_any test (xs ++ y ∷ []) ≡ false
none-joined test [] y none off = ap (λ (b : Bool). b || false) off
none-joined test (x ∷ xs) y none off =
    let both = or_parts (test x) (list_any test xs) none in
    ap (λ (b : Bool). b || list_any test (xs ++ y ∷ [])) both.0 ∙ none-joined test xs y both.1 off

none-filtered : {X : Type 0} (test keeps : X → Bool) (xs : List X) → list_any test xs ≡ false → list_any test (filter keeps xs) ≡ false
none-filtered test keeps [] none = none
none-filtered test keeps (x ∷ xs) none =
    let both = or_parts (test x) (list_any test xs) none in here (keeps x) both.0 (none-filtered test keeps xs both.1)
  where
    here : (b : Bool) → test x ≡ false → list_any test (filter keeps xs) ≡ false
        → list_any test (cond b (x ∷ filter keeps xs) (filter keeps xs)) ≡ false
    here true off rest = ap (λ (b : Bool). b || list_any test (filter keeps xs)) off ∙ rest
    here false off rest = rest

first-passes : {X : Type 0} (test : X → Bool) (xs : List X) (x : X) → slice_get (filter test xs) 0 ≡ Some x → test x ≡ true
first-passes test [] x e = never-some x e
first-passes {X} test (y ∷ xs) x e = here (test y) refl e (first-passes test xs x)
  where
    here : (b : Bool) → test y ≡ b → slice_get (cond b (y ∷ filter test xs) (filter test xs)) 0 ≡ Some x
        → (slice_get (filter test xs) 0 ≡ Some x → test x ≡ true) → test x ≡ true
    here true is e rest = subst (λ (it : X). test it ≡ true) (same-some y x e) is
    here false is e rest = rest e

-- the first of those that pass one test, or else of some others, if none passes
first-joined : {X : Type 0} (test : X → Bool) (xs ys : List X) (x : X) → slice_get (filter test xs ++ ys) 0 ≡ Some x
    → (test x ≡ true) ⊎ ((list_any test xs ≡ false) × (slice_get ys 0 ≡ Some x))
first-joined test [] ys x e = inr (refl, e)
first-joined {X} test (y ∷ xs) ys x e = here (test y) refl e (first-joined test xs ys x)
  where
    here : (b : Bool) → test y ≡ b → slice_get (cond b (y ∷ filter test xs) (filter test xs) ++ ys) 0 ≡ Some x
        → (slice_get (filter test xs ++ ys) 0 ≡ Some x
        → (test x ≡ true) ⊎ ((list_any test xs ≡ false) × (slice_get ys 0 ≡ Some x)))
        → (test x ≡ true) ⊎ (((b || list_any test xs) ≡ false) × (slice_get ys 0 ≡ Some x))
    here true is e rest = inl (subst (λ (it : X). test it ≡ true) (same-some y x e) is)
    here false is e rest = rest e

-- ---- how connections part

module _ {T : Type 0} (buffer number : ℕ) (service : Service T) (was : List ℕ) (May : ℕ → Type 0) where
  abbrev idle : ℕ → Bool
  idle publisher = is_idle (mailbox publisher number service)

  abbrev free : ℕ → Bool
  free publisher = length (mailbox publisher number service).borrowed == 0

  -- What holds of the expired connections while others part.
  abbrev Fine : List ℕ → Type 0
  Fine expired =
      (kept : List ℕ) × (added : List ℕ) × (expired ≡ kept ++ added) × IsPartOf kept was × AllByRecursion May added
      × ((publisher : ℕ) → contains was publisher ≡ true → contains kept publisher ≡ false → free publisher ≡ true)
      × (((publisher : ℕ) → contains was publisher ≡ true → contains kept publisher ≡ false → idle publisher ≡ true)
      ⊎ (list_any idle expired ≡ false))

  begins : Fine was
  begins = (
    was,
    [],
    sym (append-nil was),
    part-itself was,
    tt,
    (λ publisher is off. absurd (true≢false (sym is ∙ off))),
    inl (λ publisher is off. absurd (true≢false (sym is ∙ off))),
  )

  joins : (publisher : ℕ) → May publisher → idle publisher ≡ false → (expired : List ℕ) → Fine expired → Fine (expired ++ publisher ∷ [])
  joins publisher may busy expired (kept, added, is, part_of, all, unborrowed, ends) = (
    kept,
    added ++ publisher ∷ [],
    ap (λ (l : List ℕ). l ++ publisher ∷ []) is ∙ append_assoc kept added (publisher ∷ []),
    part_of,
    all-joined May added (publisher ∷ []) all (may, tt),
    unborrowed,
    elim ends [
      | inl idly ↦ inl idly
      | inr none ↦ inr (none-joined idle expired publisher none busy)
    ],
  )

  -- which isn't another number
  abbrev is_other : ℕ → ℕ → Bool
  is_other out publisher = not (publisher == out)

  drops : (expired : List ℕ) (out : ℕ) → free out ≡ true → (idle out ≡ true) ⊎ (list_any idle expired ≡ false) → Fine expired
      → Fine (filter (is_other out) expired)
  drops expired out unborrowed_out how (kept, added, is, part_of, all, unborrowed, ends) = (
    filter (is_other out) kept,
    filter (is_other out) added,
    ap (filter (is_other out)) is ∙ filter-joined (is_other out) kept added,
    part-filtered (is_other out) kept was part_of,
    all-filtered May (is_other out) added all,
    (λ publisher there off. which (λ it. free it ≡ true) publisher (unborrowed publisher there) unborrowed_out off),
    elim ends [
      | inr none ↦ inr (none-filtered idle (is_other out) expired none)
      | inl idly ↦ elim how [
        | inl idle_out ↦ inl (λ publisher there off. which (λ it. idle it ≡ true) publisher (idly publisher there) idle_out off)
        | inr none ↦ inr (none-filtered idle (is_other out) expired none)
      ]
    ],
  )
    where
      -- one that isn't among the rest wasn't there before, or is the one that ends
      which : (P : ℕ → Type 0) (publisher : ℕ) → (contains kept publisher ≡ false → P publisher) → P out
          → contains (filter (is_other out) kept) publisher ≡ false → P publisher
      which P publisher before now off = here (contains kept publisher) (publisher == out) refl refl
          (sym (contains-filter publisher (is_other out) kept) ∙ off)
        where
          here : (b c : Bool) → contains kept publisher ≡ b → (publisher == out) ≡ c → (b && not c) ≡ false → P publisher
          here false c is same e = before is
          here true true is same e = subst P (sym (eqb-true publisher out same)) now
          here true false is same e = absurd (true≢false e)

  idle-free : (publisher : ℕ) → idle publisher ≡ true → free publisher ≡ true
  idle-free publisher e = (both-true (not (nat_lt 0 (length (mailbox publisher number service).waiting))) (free publisher) e).1

  room-made : (publisher : ℕ) (expired : List ℕ) (out : ℕ) → room_for buffer number publisher expired service ≡ Some out
      → (free out ≡ true) × ((idle out ≡ true) ⊎ (list_any idle expired ≡ false))
  room-made publisher expired out e =
      elim (first-joined idle expired (cond (free publisher) [] (filter free expired)) out e) [
        | inl is ↦ (idle-free out is, inl is)
        | inr (none, first) ↦ (others (free publisher) first, inr none)
      ]
    where
      others : (b : Bool) → slice_get (cond b [] (filter free expired)) 0 ≡ Some out → free out ≡ true
      others true e = never-some out e
      others false e = first-passes free expired out e

  parts : (parted : Parted) (publisher : ℕ) → May publisher → Fine parted.expired
      → Fine (part buffer number service parted publisher).expired
  parts parted publisher may fine =
      here (idle publisher) (nat_lt (length parted.expired) (max buffer service.settings.subscriber_max_borrowed_samples))
      (room_for buffer number publisher parted.expired service) (free publisher) refl refl
    where
      here : (b c : Bool) (o : Option ℕ) (d : Bool) → idle publisher ≡ b → room_for buffer number publisher parted.expired service ≡ o
          → Fine (cond b parted (cond c (record parted { expired = parted.expired ++ publisher ∷ [] }) (elim o [
            | Some out ↦ record parted { expired = filter (λ other. not (other == out)) parted.expired ++ publisher ∷ [] }
            | None ↦ cond d parted (record parted { staying = parted.staying ++ publisher ∷ [] })
          ]))).expired
      here true c o d is made = fine
      here false true o d is made = joins publisher may is parted.expired fine
      here false false (Some out) d is made =
          let room = room-made publisher parted.expired out made in
          joins publisher may is (filter (is_other out) parted.expired) (drops parted.expired out room.0 room.1 fine)
      here false false None true is made = fine
      here false false None false is made = fine

  all-part : (publishers : List ℕ) (parted : Parted) → AllByRecursion May publishers → Fine parted.expired
      → Fine (fold (part buffer number service) parted publishers).expired
  all-part [] parted all fine = fine
  all-part (publisher ∷ more) parted all fine =
      all-part more (part buffer number service parted publisher) all.1 (parts parted publisher all.0 fine)

-- ---- who parts was connected

gone-connected : (place : Option ℕ × Option ℕ) (publisher : ℕ) → gone_from place ≡ Some publisher → place.0 ≡ Some publisher
gone-connected (None, listed) publisher e = never-some publisher e
gone-connected (Some one, listed) publisher e = here (contains (those (listed ∷ [])) one) e
  where
    here : (b : Bool) → cond b None (Some one) ≡ Some publisher → Some one ≡ Some publisher
    here true e = never-some publisher e
    here false e = e

zip-connected : (connected places : List (Option ℕ))
    → AllByRecursion (λ (place : Option ℕ × Option ℕ). (publisher : ℕ) → place.0 ≡ Some publisher
    → contains (those connected) publisher ≡ true) (zip connected places)
zip-connected [] places = tt
zip-connected (one ∷ more) [] = tt
zip-connected (one ∷ more) (place ∷ places) = (
  (λ publisher is. first publisher one is),
  all-weaker
      (λ (it : Option ℕ × Option ℕ). (publisher : ℕ) → it.0 ≡ Some publisher → contains (those more) publisher ≡ true)
      (λ (it : Option ℕ × Option ℕ). (publisher : ℕ) → it.0 ≡ Some publisher → contains (those (one ∷ more)) publisher ≡ true)
      (λ it on publisher is. later one publisher (on publisher is)) (zip more places) (zip-connected more places),
)
  where
    first : (publisher : ℕ) (o : Option ℕ) → o ≡ Some publisher → contains (those (o ∷ more)) publisher ≡ true
    first publisher None is = never-some publisher is
    first publisher (Some other) is =
        or_left (other == publisher) (contains (those more) publisher) (eq-eqb other publisher (same-some other publisher is))

    later : (o : Option ℕ) (publisher : ℕ) → contains (those more) publisher ≡ true → contains (those (o ∷ more)) publisher ≡ true
    later None publisher is = is
    later (Some other) publisher is = or_right (other == publisher) (contains (those more) publisher) is

all-gone : (May : ℕ → Type 0) (places : List (Option ℕ × Option ℕ))
    → AllByRecursion (λ (place : Option ℕ × Option ℕ). (publisher : ℕ) → place.0 ≡ Some publisher → May publisher) places
    → AllByRecursion May (filter_map gone_from places)
all-gone May [] all = tt
all-gone May (place ∷ more) all =
    here (gone_from place) (λ publisher is. all.0 publisher (gone-connected place publisher is)) (all-gone May more all.1)
  where
    here : (o : Option ℕ) → ((publisher : ℕ) → o ≡ Some publisher → May publisher) → AllByRecursion May (filter_map gone_from more)
        → AllByRecursion May (cons_option o (filter_map gone_from more))
    here None on rest = rest
    here (Some publisher) on rest = (on publisher refl, rest)

all-parting : (connected listed : List (Option ℕ))
    → AllByRecursion (λ publisher. contains (those connected) publisher ≡ true) (parting (zip connected listed))
all-parting connected listed =
    all-gone (λ publisher. contains (those connected) publisher ≡ true)
    (filter taken (zip connected listed) ++ filter (λ (place : Option ℕ × Option ℕ). not (taken place)) (zip connected listed))
    (all-joined Is (filter taken (zip connected listed))
    (filter (λ (place : Option ℕ × Option ℕ). not (taken place)) (zip connected listed))
    (all-filtered Is taken (zip connected listed) (zip-connected connected listed))
    (all-filtered Is (λ (place : Option ℕ × Option ℕ). not (taken place)) (zip connected listed) (zip-connected connected listed)))
  where
    taken : Option ℕ × Option ℕ → Bool
    taken place = is_some place.1

    Is : Option ℕ × Option ℕ → Type 0
    Is place = (publisher : ℕ) → place.0 ≡ Some publisher → contains (those connected) publisher ≡ true

-- ---- an update

module _ {T : Type 0} where
  expires-in-order : (buffer number : ℕ) (one : Subscriber) (old : Service T) (after : Subscriber) (new : Service T)
      → subscribing.Follows buffer number one old after new → ExpiresInOrder number old one after
  expires-in-order buffer number one old after new (refused, allowed, listed, is, turned, came) =
      order (all-part buffer number old one.expired May (parting (zip one.connected old.publisher_list.places))
      (record { expired = one.expired; staying = [] }) (all-parting one.connected old.publisher_list.places)
      (begins buffer number old one.expired May))
    where
      May : ℕ → Type 0
      May publisher = contains (those one.connected) publisher ≡ true

      parted : Parted
      parted = fold (part buffer number old) (record { expired = one.expired; staying = [] })
          (parting (zip one.connected old.publisher_list.places))

      now_expired : after.expired ≡ parted.expired
      now_expired = ap (λ (it : Subscriber). it.expired) turned

      busy : (publisher : ℕ) → HasData number old publisher → is_idle (mailbox publisher number old) ≡ true → ⊥
      busy publisher has e =
          waits (mailbox publisher number old).waiting has.0 has.1
          (both-true (not (nat_lt 0 (length (mailbox publisher number old).waiting)))
          (length (mailbox publisher number old).borrowed == 0) e).0
        where
          waits : (xs : List (Message T)) (x : Message T) → slice_get xs 0 ≡ Some x → not (nat_lt 0 (length xs)) ≡ true → ⊥
          waits [] x first off = never-some x first
          waits (y ∷ xs) x first off = elim (cases_Bool (nat_lt 0 (length (y ∷ xs)))) [
            | inl lt ↦ true≢false (sym off ∙ ap not lt)
            | inr ge ↦ less (ltb-false 0 (length (y ∷ xs)) ge)
          ]
            where
              less : length (y ∷ xs) ≤ 0 → ⊥
              less h = omega (arith, h)

      emptied : (publisher : ℕ) → is_idle (mailbox publisher number old) ≡ false → IsIdle number old publisher → ⊥
      emptied publisher off none =
          true≢false (sym (ap (λ (l : List (Message T)). not (nat_lt 0 (length l))
          && length (mailbox publisher number old).borrowed == 0) none.0
          ∙ ap (λ (l : List (Message T)). length l == 0) none.1) ∙ off)

      order : Fine buffer number old one.expired May parted.expired → ExpiresInOrder number old one after
      order (kept, added, so, part_of, all, unborrowed, ends) = (
        kept,
        added,
        now_expired ∙ so,
        part_of,
        all,
        (λ publisher there off. (
          empty-list (mailbox publisher number old).borrowed (unborrowed publisher there off),
          (λ has. elim ends [
            | inl idly ↦ absurd (busy publisher has (idly publisher there off))
            | inr none ↦ all-weaker (λ (other : ℕ). is_idle (mailbox other number old) ≡ false)
                (λ (other : ℕ). IsIdle number old other → ⊥) emptied after.expired
                (each-false (λ (other : ℕ). is_idle (mailbox other number old)) after.expired
                (ap (list_any (λ (other : ℕ). is_idle (mailbox other number old))) now_expired ∙ none))
          ]),
        )),
      )

pub connections-expire-in-order : {T : Type 0} (choices : Choices T) → ConnectionsExpireInOrder choices
connections-expire-in-order {T} choices types buffer number old answer new h unskipped =
    elim (at-one (subscriber_in number) (subscribing.UpdatesFirst choices buffer number refusal.Connection Done) old answer new h) [
      | inl w ↦ absurd (true≢false (sym (ap is_skipped w.0) ∙ unskipped))
      | inr w ↦ updated w.0 w.1 w.2 w.3 w.4 w.5 w.6
    ]
  where
    Done : Subscriber → Service T → Reply T → Service T → Type 0
    Done it mid answered end = (answered ≡ reply.Done) × (end ≡ mid)

    has : Service T → Bool
    has other = is_some (subscriber_in number other)

    Tells : Type 0
    Tells =
        (new ≡ old)
        ⊎ ((service : Service T) × (after : Service T) × (was : Subscriber) × (now : Subscriber)
        × (find has old.services ≡ Some service) × (new.services ≡ replaced has after old.services)
        × (subscriber_in number service ≡ Some was) × (subscriber_in number after ≡ Some now)
        × ExpiresInOrder number service was now × PartsExactly number service buffer was now)

    followed : (service : Service T) (one : Subscriber) (end : Service T) → find has old.services ≡ Some service
        → subscriber_in number service ≡ Some one → new.services ≡ replaced has end old.services → (after : Subscriber) (mid : Service T)
        → subscribing.Follows buffer number one service after mid → end ≡ mid → Tells
    followed service one end first found came after mid follows same =
        let was : (at number service.subscribers ≡ Some one) × (one.stands ≡ true) = subscriber-stands number service one found in
        let on : BySubscriber service mid × (at number mid.subscribers ≡ Some after) × (holder_of after ≡ holder_of one) =
        soft-follows buffer number one service after mid was.0 follows in
        inr (
          service,
          mid,
          one,
          after,
          first,
          came ∙ ap (λ (it : Service T). replaced has it old.services) same,
          found,
          subscriber-standing after (at number mid.subscribers) (ap (λ (it : ℕ × Bool). it.1) on.2 ∙ was.1) on.1,
          expires-in-order buffer number one service after mid follows,
          parts-exactly buffer number one service after mid follows,
        )

    updated : (service : Service T) (one : Subscriber) (end : Service T) → find has old.services ≡ Some service
        → subscriber_in number service ≡ Some one
        → subscribing.UpdatesFirst choices buffer number refusal.Connection Done one service answer end
        → new ≡ record old { made = counted answer old.made; services = replaced has end old.services } → Tells
    updated service one end first found did came =
        elim (by-bool ((one.seen == service.publisher_list.changes) && not one.again) ((answer ≡ reply.Done) × (end ≡ service))
        ((after : Subscriber) × (mid : Service T) × subscribing.Follows buffer number one service after mid
        × Outcomes (choices.subscriber_acts number one.degradation) (zip service.publisher_list.places after.connected)
        (λ well. (answer ≡ reply.Done) × (end ≡ mid)) (λ why. IsRefused (refusal.Connection why) mid answer end)) did) [
          | inl w ↦ inl (unmoved has service end old new first w.1.1
              (came ∙ ap (λ (told : Reply T). record old { made = counted told old.made; services = replaced has end old.services }) w.1.0))
          | inr w ↦ elim (by-outcome (choices.subscriber_acts number one.degradation) (zip service.publisher_list.places w.1.0.connected)
              (λ well. (answer ≡ reply.Done) × (end ≡ w.1.1)) (λ why. IsRefused (refusal.Connection why) w.1.1 answer end)
              w.1.3) [
                | inl r ↦ followed service one end first found (ap (λ (state : State T). state.services) came) w.1.0 w.1.1 w.1.2 r.2.1
                | inr r ↦ followed service one end first found (ap (λ (state : State T). state.services) came) w.1.0 w.1.1 w.1.2 r.2.1
              ]
        ]
