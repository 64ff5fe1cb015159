-- A message that lanes put into mailboxes one after the other, the machine delivers so.
use Rattle.std.proofs.Common.{ℕ, zero, suc, ◌≡◌, ◌+◌, ◌-◌, ◌<◌, ◌≤◌, ◌&&◌, ◌||◌, ◌⊎◌, not, cond, Bool, true, false, nat_lt, nat_le}
use Rattle.std.proofs.Common.{List, []}
use Rattle.std.proofs.Common.{◌∷◌, ◌++◌, length, map, drop, slice_get, Option, Some, None, refl, sym, ◌∙◌, ap, subst, if◌then◌else◌, inl}
use Rattle.std.proofs.Common.{inr}
use Rattle.std.proofs.Common.{arith, length-append}
use Rattle.std.specs.Prelude.{count_by, unwrap_or}
use Rattle.std.specs.Option.{option_map_or}
use Rattle.std.proofs.lemmas.Bool.{ltb-true, ltb-false}
use Rattle.std.proofs.lemmas.Bool.Decides.{eqb_tells}
use Rattle.std.proofs.lemmas.List.{length-map, map-append, drop-map}
use Rattle.std.proofs.lemmas.List.Sums.{sum_by-cons}
use Rattle.iox_command.specs.DomainValues.Actions.{decision_of}
use Rattle.iox_command.specs.DomainValues.declared.backpressure.BackpressureDecision.{BackpressureDecision}
use Rattle.iox_command.specs.DomainValues.declared.backpressure.BackpressureDecision.TheVariants.{Retry, DiscardData, DiscardDataAndFail}
use Rattle.iox_lanes_machine.specs.QueuesSteps.Order.{after_put}
use Rattle.iox_lanes_service.specs.Ports.{passing_over}
use Rattle.iox_lanes_machine.proofs.Ends.{some_is}
use Rattle.iox_lanes_service.proofs.Beside.{box_there, box_of_other, box_to_other}
use Rattle.iox_machine.specs.Choices.{Choices}
use Rattle.iox_machine.specs.Mailbox.{Mailbox, put, newest}
use Rattle.iox_machine.specs.Message.{Message}
use Rattle.iox_machine.specs.PortList.{those}
use Rattle.iox_machine.specs.Sending.{Delivers, MayDecide}
use Rattle.iox_machine.specs.Service.{Publisher, Send, Service, mailbox, with_mailbox}
use Rattle.iox_machine.specs.Table.{at, contains}

-- whether a mailbox takes one more
abbrev pub takes_more : Bool → ℕ → List ℕ → Bool
takes_more overflow limit waiting = overflow || nat_lt (length waiting) limit

drop_by : {X : Type 0} (n k : ℕ) (xs : List X) → n ≡ k → drop n xs ≡ drop k xs
drop_by n k xs e = ap (λ (i : ℕ). drop i xs) e

module _ {X : Type 0} (message : ℕ → Message X) (limit slot : ℕ) (borrowed : List (Message X)) where
  abbrev pub box_with : List ℕ → Mailbox X
  box_with waiting = record { limit = limit; waiting = map message waiting; borrowed = borrowed }

  more : (waiting : List ℕ) → length (map message waiting ++ message slot ∷ []) ≡ length waiting + 1
  more waiting = length-append (map message waiting) (message slot ∷ []) ∙ omega (arith, length-map waiting message)

  newest_fits : (waiting : List ℕ) → length waiting < limit
      → newest limit (map message waiting ++ message slot ∷ []) ≡ map message (waiting ++ slot ∷ [])
  newest_fits waiting fits =
      drop_by (length (map message waiting ++ message slot ∷ []) - limit) 0 (map message waiting ++ message slot ∷ [])
      (omega (arith, more waiting, fits))
      ∙ sym (map-append message waiting (slot ∷ []))

  newest_full : (waiting : List ℕ) → length waiting ≡ limit
      → newest limit (map message waiting ++ message slot ∷ []) ≡ map message (drop 1 (waiting ++ slot ∷ []))
  newest_full waiting full =
      drop_by (length (map message waiting ++ message slot ∷ []) - limit) 1 (map message waiting ++ message slot ∷ [])
      (omega (arith, more waiting, full))
      ∙ ap (drop 1) (sym (map-append message waiting (slot ∷ [])))
      ∙ drop-map message 1 (waiting ++ slot ∷ [])

  -- one that is full refuses
  pub refuses : (overflow : Bool) (waiting : List ℕ) → takes_more overflow limit waiting ≡ false
      → (put overflow (message slot) (box_with waiting) ≡ None) × (after_put overflow limit waiting slot ≡ waiting)
  refuses true waiting e = absurd (cc e)
  refuses false waiting e = (
    ap (λ (b : Bool). if b then None else Some (record (box_with waiting)
        { waiting = newest limit (map message waiting ++ message slot ∷ []) }))
        (full (length (map message waiting)) (length-map waiting message)),
    ap (λ (b : Bool). if b then waiting ++ slot ∷ [] else waiting) e,
  )
    where
      full : (k : ℕ) → k ≡ length waiting → nat_le limit k ≡ true
      full k is = grind (arith, ltb-false (length waiting) limit e, is)

  -- any other takes it in
  pub takes : (overflow : Bool) (waiting : List ℕ) → length waiting ≤ limit → takes_more overflow limit waiting ≡ true
      → put overflow (message slot) (box_with waiting) ≡ Some (box_with (after_put overflow limit waiting slot))
  takes true waiting room e = ap (λ xs. Some (record (box_with waiting) { waiting = xs })) (by_room (nat_lt (length waiting) limit) refl)
    where
      by_room : (b : Bool) → nat_lt (length waiting) limit ≡ b
          → newest limit (map message waiting ++ message slot ∷ [])
          ≡ map message (if b then waiting ++ slot ∷ [] else drop 1 (waiting ++ slot ∷ []))
      by_room true t = newest_fits waiting (ltb-true (length waiting) limit t)
      by_room false t = newest_full waiting (omega (arith, room, ltb-false (length waiting) limit t))
  takes false waiting room e =
      ap (λ (b : Bool). if b then None else Some (record (box_with waiting)
      { waiting = newest limit (map message waiting ++ message slot ∷ []) }))
      (fits (length (map message waiting)) (length-map waiting message))
      ∙ ap (λ xs. Some (record (box_with waiting) { waiting = xs })) (newest_fits waiting (ltb-true (length waiting) limit e)
      ∙ ap (map message) (sym (ap (λ (b : Bool). if b then waiting ++ slot ∷ [] else waiting) e)))
    where
      fits : (k : ℕ) → k ≡ length waiting → nat_le limit k ≡ false
      fits k is = grind (arith, ltb-true (length waiting) limit e, is)

-- One who is to get the message: by its name, the connection's limit, what waits there, and what is borrowed.
pub record Addressee (X : Type 0) : Type 0 where
  pub reader : ℕ
  pub limit : ℕ
  pub waiting : List ℕ
  pub borrowed : List (Message X)

module _ {T : Type 0} (choices : Choices T) (number slot : ℕ) (message : ℕ → Message T) (overflow fails : Bool)
    (publisher : Publisher T) where
  abbrev pub before_box : Addressee T → Mailbox T
  before_box to = record { limit = to.limit; waiting = map message to.waiting; borrowed = to.borrowed }

  abbrev pub after_box : Addressee T → Mailbox T
  after_box to = record {
    limit = to.limit;
    waiting = map message (after_put overflow to.limit to.waiting slot);
    borrowed = to.borrowed;
  }

  abbrev pub takes_it : Addressee T → Bool
  takes_it to = takes_more overflow to.limit to.waiting

  -- what the machine has of those who are left, and what may be decided
  pub record Ready (service : Service T) (tos : List (Addressee T)) : Type 0 where
    pub kind : service.settings.enable_safe_overflow ≡ overflow
    pub boxes : (index : ℕ) (to : Addressee T) → slice_get tos index ≡ Some to
        → service.mailboxes number to.reader ≡ Some (before_box to)
    pub rooms : (index : ℕ) (to : Addressee T) → slice_get tos index ≡ Some to → length to.waiting ≤ to.limit
    pub apart : (i j : ℕ) (one other : Addressee T) → slice_get tos i ≡ Some one → slice_get tos j ≡ Some other
        → one.reader ≡ other.reader → i ≡ j
    pub met : (index : ℕ) (to : Addressee T) → slice_get tos index ≡ Some to
        → option_map_or (λ one. one.stands && contains (those one.connected) number) (at to.reader service.subscribers) false ≡ true
    pub decides : overflow ≡ false
        → choices.publisher_decides number 0 0 (decision_of publisher.strategy publisher.handler) (passing_over fails)

  abbrev pub started : List ℕ → ℕ → Bool → Send T
  started left delivered failed = record {
    message = message slot;
    left = left;
    retries = 0;
    elapsed = 0;
    delivered = delivered;
    fails = failed;
  }

  -- whether a send fails after some more of them
  abbrev pub failed_then : Bool → List (Addressee T) → Bool
  failed_then failed tos = failed || (fails && nat_lt 0 (count_by (λ to. not (takes_it to)) tos))

  pub record Delivered (service : Service T) (tos : List (Addressee T)) (left : List ℕ) (delivered : ℕ) (failed : Bool) : Type 0 where
    pub mailboxes : ℕ → ℕ → Option (Mailbox T)
    pub is : Delivers choices number publisher (map (λ (to : Addressee T). to.reader) tos)
        (started left delivered failed) service
        (started [] (delivered + count_by takes_it tos) (failed_then failed tos))
        (record service { mailboxes = mailboxes })
    pub there : (index : ℕ) (to : Addressee T) → slice_get tos index ≡ Some to → mailboxes number to.reader ≡ Some (after_box to)
    pub away : (one other : ℕ) → (one ≡ number → (index : ℕ) (to : Addressee T) → slice_get tos index ≡ Some to → to.reader ≡ other → ⊥)
        → mailboxes one other ≡ service.mailboxes one other

  in_tail : (i j : ℕ) → suc i ≡ suc j → i ≡ j
  in_tail i j e = omega (arith, e)

  -- who is left is ready still, whatever the first one's mailbox is
  ready_on : (service : Service T) (to : Addressee T) (tos : List (Addressee T)) (box : Mailbox T) → Ready service (to ∷ tos)
      → Ready (with_mailbox number to.reader box service) tos
  ready_on service to tos box r = record {
    kind = r.kind;
    boxes = λ index one is.
        box_to_other number to.reader box service number one.reader
        (λ e. differ index (r.apart 0 (suc index) to one refl is (sym e)))
        ∙ r.boxes (suc index) one is;
    rooms = λ index one is. r.rooms (suc index) one is;
    apart = λ i j one other is at_other e. in_tail i j (r.apart (suc i) (suc j) one other is at_other e);
    met = λ index one is. r.met (suc index) one is;
    decides = r.decides;
  }
    where
      differ : (index : ℕ) → 0 ≡ suc index → ⊥
      differ index e = omega (arith, e)

  ready_past : (service : Service T) (to : Addressee T) (tos : List (Addressee T)) → Ready service (to ∷ tos) → Ready service tos
  ready_past service to tos r = record {
    kind = r.kind;
    boxes = λ index one is. r.boxes (suc index) one is;
    rooms = λ index one is. r.rooms (suc index) one is;
    apart = λ i j one other is at_other e. in_tail i j (r.apart (suc i) (suc j) one other is at_other e);
    met = λ index one is. r.met (suc index) one is;
    decides = r.decides;
  }

  counts_on : (test : Addressee T → Bool) (to : Addressee T) (tos : List (Addressee T)) (b : Bool) → test to ≡ b
      → count_by test (to ∷ tos) ≡ cond b 1 0 + count_by test tos
  counts_on test to tos b e = sum_by-cons (λ x. cond (test x) 1 0) to tos ∙ ap (λ (c : Bool). cond c 1 0 + count_by test tos) e

  ended_as : (one other : ℕ) (a b : Bool) → one ≡ other → a ≡ b → started [] one a ≡ started [] other b
  ended_as one other a b e f = ap (λ (k : ℕ). started [] k a) e ∙ ap (λ (c : Bool). started [] other c) f

  -- one mailbox takes it, and then the others are met
  taken_first : (service : Service T) (to : Addressee T) (tos : List (Addressee T)) (left : List ℕ) (delivered : ℕ) (failed : Bool)
      → Ready service (to ∷ tos) → takes_it to ≡ true
      → Delivered (with_mailbox number to.reader (after_box to) service) tos left (delivered + 1) failed
      → Delivered service (to ∷ tos) left delivered failed
  taken_first service to tos left delivered failed r takes_so rest = record {
    mailboxes = rest.mailboxes;
    is = rw puts (subst (λ (after : Send T). Delivers choices number publisher (map (λ (one : Addressee T). one.reader) tos)
        (started left (delivered + 1) failed) (with_mailbox number to.reader (after_box to) service) after
        (record service { mailboxes = rest.mailboxes })) same rest.is);
    there = λ index one is. first_or index one is;
    away = λ one other none.
        rest.away one other (λ e index it is. none e (suc index) it is)
        ∙ elim (eqb_tells one number) [
          | inr apart ↦ box_of_other number to.reader (after_box to) service one other apart.1
          | inl here ↦ box_to_other number to.reader (after_box to) service one other (λ e. none here.1 0 to refl (sym e))
        ];
  }
    where
      puts : put service.settings.enable_safe_overflow (message slot) (mailbox number to.reader service) ≡ Some (after_box to)
      puts =
          ap (λ (b : Bool). put b (message slot) (mailbox number to.reader service)) r.kind
          ∙ ap (λ (o : Option (Mailbox T)). put overflow (message slot) (unwrap_or o (record { limit = 0; waiting = []; borrowed = [] })))
          (r.boxes 0 to refl)
          ∙ takes message to.limit slot to.borrowed overflow to.waiting (r.rooms 0 to refl) takes_so

      zero_plus : (k : ℕ) → 0 + k ≡ k
      zero_plus k = omega arith

      same : started [] (delivered + 1 + count_by takes_it tos) (failed_then failed tos)
          ≡ started [] (delivered + count_by takes_it (to ∷ tos)) (failed_then failed (to ∷ tos))
      same = ended_as (delivered + 1 + count_by takes_it tos) (delivered + count_by takes_it (to ∷ tos)) (failed_then failed tos)
          (failed_then failed (to ∷ tos))
          (omega (arith, counts_on takes_it to tos true takes_so))
          (ap (λ (k : ℕ). failed || (fails && nat_lt 0 k)) (sym (counts_on (λ one. not (takes_it one)) to tos false (ap not takes_so)
          ∙ zero_plus (count_by (λ one. not (takes_it one)) tos))))

      differ : (index : ℕ) → 0 ≡ suc index → ⊥
      differ index e = omega (arith, e)

      first_or : (index : ℕ) (one : Addressee T) → slice_get (to ∷ tos) index ≡ Some one
          → rest.mailboxes number one.reader ≡ Some (after_box one)
      first_or zero one is =
          let same : to ≡ one = some_is to one is in
          subst (λ (x : Addressee T). rest.mailboxes number x.reader ≡ Some (after_box x)) same
          (rest.away number to.reader
          (λ e index it at_it same_reader. differ index (r.apart 0 (suc index) to it refl at_it (sym same_reader)))
          ∙ box_there number to.reader (after_box to) service)
      first_or (suc index) one is = rest.there index one is

  -- what the machine may do where one refuses it
  abbrev PassedOver : Addressee T → List (Addressee T) → Send T → Service T → Send T → Service T → Type 0
  PassedOver to tos send old after new =
      (MayDecide choices number publisher to.reader send old Retry
      × (after ≡ record send { left = to.reader ∷ map (λ (one : Addressee T). one.reader) tos }) × (new ≡ old))
      ⊎ (MayDecide choices number publisher to.reader send old DiscardData
      × Delivers choices number publisher (map (λ (one : Addressee T). one.reader) tos) (record send { retries = 0; elapsed = 0 }) old after
      new)
      ⊎ (MayDecide choices number publisher to.reader send old DiscardDataAndFail
      × Delivers choices number publisher (map (λ (one : Addressee T). one.reader) tos)
      (record send { retries = 0; elapsed = 0; fails = true }) old after new)

  -- one refuses it, and the lane passes it over
  passed_first : (service : Service T) (to : Addressee T) (tos : List (Addressee T)) (left : List ℕ) (delivered : ℕ) (failed : Bool)
      → Ready service (to ∷ tos) → takes_it to ≡ false
      → (rest : Delivered service tos left delivered (cond fails true failed))
      → Delivered service (to ∷ tos) left delivered failed
  passed_first service to tos left delivered failed r refuses_so rest = record {
    mailboxes = rest.mailboxes;
    is = rw puts (passes fails refl (subst (λ (after : Send T). Delivers choices number publisher
        (map (λ (one : Addressee T). one.reader) tos) (started left delivered (cond fails true failed)) service after
        (record service { mailboxes = rest.mailboxes })) same rest.is));
    there = λ index one is. first_or index one is;
    away = λ one other none. rest.away one other (λ e index it is. none e (suc index) it is);
  }
    where
      waits_full : overflow ≡ false
      waits_full = by_kind overflow refuses_so
        where
          by_kind : (b : Bool) → (b || nat_lt (length to.waiting) to.limit) ≡ false → b ≡ false
          by_kind true e = e
          by_kind false e = refl

      puts : put service.settings.enable_safe_overflow (message slot) (mailbox number to.reader service) ≡ None
      puts =
          ap (λ (b : Bool). put b (message slot) (mailbox number to.reader service)) r.kind
          ∙ ap (λ (o : Option (Mailbox T)). put overflow (message slot) (unwrap_or o (record { limit = 0; waiting = []; borrowed = [] })))
          (r.boxes 0 to refl)
          ∙ (refuses message to.limit slot to.borrowed overflow to.waiting refuses_so).0

      same : started [] (delivered + count_by takes_it tos) (failed_then (cond fails true failed) tos)
          ≡ started [] (delivered + count_by takes_it (to ∷ tos)) (failed_then failed (to ∷ tos))
      same = ended_as (delivered + count_by takes_it tos) (delivered + count_by takes_it (to ∷ tos))
          (failed_then (cond fails true failed) tos) (failed_then failed (to ∷ tos))
          (omega (arith, counts_on takes_it to tos false refuses_so))
          (by_fails fails failed
          ∙ ap (λ (k : ℕ). failed || (fails && nat_lt 0 k)) (sym (counts_on (λ one. not (takes_it one)) to tos true (ap not refuses_so))))
        where
          some : (k : ℕ) → nat_lt 0 (1 + k) ≡ true
          some k = grind arith

          by_fails : (f g : Bool) → (cond f true g || (f && nat_lt 0 (count_by (λ one. not (takes_it one)) tos)))
              ≡ (g || (f && nat_lt 0 (1 + count_by (λ one. not (takes_it one)) tos)))
          by_fails true true = refl
          by_fails true false = sym (some (count_by (λ one. not (takes_it one)) tos))
          by_fails false true = refl
          by_fails false false = refl

      may : (decision : BackpressureDecision) → passing_over fails ≡ decision
          → MayDecide choices number publisher to.reader (started left delivered failed) service decision
      may decision e = rw (r.met 0 to refl) (subst (λ (d : BackpressureDecision). choices.publisher_decides number 0 0
          (decision_of publisher.strategy publisher.handler) d) e (r.decides waits_full))

      passes : (f : Bool) → fails ≡ f
          → Delivers choices number publisher (map (λ (one : Addressee T). one.reader) tos)
          (started left delivered (cond fails true failed))
          service (started [] (delivered + count_by takes_it (to ∷ tos)) (failed_then failed (to ∷ tos)))
          (record service { mailboxes = rest.mailboxes })
          → PassedOver to tos (started left delivered failed) service
          (started [] (delivered + count_by takes_it (to ∷ tos)) (failed_then failed (to ∷ tos)))
          (record service { mailboxes = rest.mailboxes })
      passes true e goes = inr (inr (
        may DiscardDataAndFail (ap passing_over e),
        subst (λ (x : Bool).
            Delivers choices number publisher (map (λ (one : Addressee T). one.reader) tos) (started left delivered (cond x true failed))
            service (started [] (delivered + count_by takes_it (to ∷ tos)) (failed_then failed (to ∷ tos)))
            (record service { mailboxes = rest.mailboxes })) e goes,
      ))
      passes false e goes = inr (inl (
        may DiscardData (ap passing_over e),
        subst (λ (x : Bool).
            Delivers choices number publisher (map (λ (one : Addressee T). one.reader) tos) (started left delivered (cond x true failed))
            service (started [] (delivered + count_by takes_it (to ∷ tos)) (failed_then failed (to ∷ tos)))
            (record service { mailboxes = rest.mailboxes })) e goes,
      ))

      differ : (index : ℕ) → 0 ≡ suc index → ⊥
      differ index e = omega (arith, e)

      first_or : (index : ℕ) (one : Addressee T) → slice_get (to ∷ tos) index ≡ Some one
          → rest.mailboxes number one.reader ≡ Some (after_box one)
      first_or zero one is =
          subst (λ (x : Addressee T). rest.mailboxes number x.reader ≡ Some (after_box x)) (some_is to one is)
          (rest.away number to.reader
          (λ e index it at_it same_reader. differ index (r.apart 0 (suc index) to it refl at_it (sym same_reader)))
          ∙ r.boxes 0 to refl
          ∙ ap (λ (xs : List ℕ). Some (record { limit = to.limit; waiting = map message xs; borrowed = to.borrowed }))
          (sym (refuses message to.limit slot to.borrowed overflow to.waiting refuses_so).1))
      first_or (suc index) one is = rest.there index one is

  -- so it goes to all of them
  pub delivers : (tos : List (Addressee T)) (service : Service T) (left : List ℕ) (delivered : ℕ) (failed : Bool) → Ready service tos
      → Delivered service tos left delivered failed
  delivers [] service left delivered failed r = record {
    mailboxes = service.mailboxes;
    is = (sym (ended_as delivered (delivered + 0) failed (failed || (fails && false)) (omega arith) (by_failed failed fails)), refl);
    there = λ index to is. absurd (nothing index to is);
    away = λ one other none. refl;
  }
    where
      by_failed : (a b : Bool) → a ≡ (a || (b && false))
      by_failed true b = refl
      by_failed false true = refl
      by_failed false false = refl

      nothing : (index : ℕ) (to : Addressee T) → slice_get [] index ≡ Some to → ⊥
      nothing index to is = cc is
  delivers (to ∷ tos) service left delivered failed r =
      by_test (delivers tos (with_mailbox number to.reader (after_box to) service) left (delivered + 1) failed
      (ready_on service to tos (after_box to) r))
      (delivers tos service left delivered (cond fails true failed) (ready_past service to tos r)) (takes_it to) refl
    where
      by_test : Delivered (with_mailbox number to.reader (after_box to) service) tos left (delivered + 1) failed
          → Delivered service tos left delivered (cond fails true failed) → (b : Bool) → takes_it to ≡ b
          → Delivered service (to ∷ tos) left delivered failed
      by_test takes_so refuses_so true e = taken_first service to tos left delivered failed r e takes_so
      by_test takes_so refuses_so false e = passed_first service to tos left delivered failed r e refuses_so
