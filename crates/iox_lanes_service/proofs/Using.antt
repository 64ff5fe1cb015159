-- The messages of a publisher that are in use in the machine are those in the slots that are in use.
use Rattle.std.proofs.Common.{ℕ, zero, suc, ◌≡◌, ◌+◌, ◌-◌, ◌<◌, ◌≤◌, ◌^◌, ◌==◌, ◌⊎◌, cond, Bool, true, false, List, [], ◌∷◌, ◌++◌, length}
use Rattle.std.proofs.Common.{map, get_or}
use Rattle.std.proofs.Common.{slice_get, Option, Some, None, refl, sym, ◌∙◌, ap, subst, if◌then◌else◌, nat_lt, inl, inr, arith}
use Rattle.std.specs.Prelude.{filter, flat_map, unwrap_or}
use Rattle.std.proofs.lemmas.Bool.{eqb-true, eq-eqb, ne_eqb, ltb-true}
use Rattle.std.proofs.lemmas.Bool.Decides.{eqb_tells}
use Rattle.std.proofs.lemmas.List.{length-map, map-append}
use Rattle.iox_lanes_machine.specs.LanesParties.PublisherKeeping.{loan_of}
use Rattle.iox_lanes_machine.specs.LanesParties.Parties.{PublisherLaneState, is_out}
use Rattle.iox_lanes_machine.specs.LanesParties.declared.publisher.slot_book.LoanMark.TheVariants as mark
use Rattle.iox_lanes_machine.specs.FullLoans.{IsHeld, IsInUse}
use Rattle.iox_lanes_machine.specs.Kept.{IsKept}
use Rattle.iox_lanes_machine.specs.LedgerRooms.{loans_out}
use Rattle.iox_lanes_machine.specs.LedgerUses.{count, one_if}
use Rattle.iox_lanes_machine.specs.Links.{LinkState}
use Rattle.iox_lanes_machine.specs.Owned.{IsSlotOf}
use Rattle.iox_lanes_machine.specs.Resting.{AllBetween, mail_at, mail_by}
use Rattle.iox_lanes_machine.specs.World.{World}
use Rattle.iox_lanes_machine.proofs.Alone.{loan_within}
use Rattle.iox_lanes_machine.proofs.Ends.{some_is}
use Rattle.iox_lanes_machine.proofs.Entries.{count_append}
use Rattle.iox_lanes_machine.proofs.Owned.{histories_are_own}
use Rattle.iox_lanes_machine.proofs.Sums.{sum_same, sum_count, total_is}
use Rattle.iox_lanes_laws.specs.Publishing.{is_loan}
use Rattle.iox_lanes_service.specs.Naming.{LaneNaming, LaneLoan, LaneSample, slots_lent_at, slots_held_over, slot_message, loan_by_numbers}
use Rattle.iox_lanes_service.specs.Naming.{lane_mailbox}
use Rattle.iox_lanes_service.specs.Ports.{LanePublisherIs}
use Rattle.iox_lanes_service.specs.Standing.{LanesStandFor, JoinsNoneOf}
use Rattle.iox_lanes_service.proofs.Holding.{over_borrowed}
use Rattle.iox_lanes_service.proofs.Subscribing.{one_is}
use Rattle.iox_lanes_service.proofs.Tables.{counted_stands, named, stands_at_index, not_both}
use Rattle.iox_lanes_service.proofs.Used.{WaitsAt, IsBorrowedOf, held_split, held_waits, held_borrowed, borrowed_own, waits_own}
use Rattle.iox_lanes_service.proofs.Used.{own_apart}
use Rattle.iox_machine.specs.Choices.{Choices}
use Rattle.iox_machine.specs.Lending.{in_use, loans_of}
use Rattle.iox_machine.specs.Mailbox.{Mailbox}
use Rattle.iox_machine.specs.Message.{Loan, Message}
use Rattle.iox_machine.specs.Service.{Publisher as Writer, Service, Subscriber as Reader, mailbox}

map_fused : {A B C : Type 0} (g : B → C) (f : A → B) (h : A → C) (xs : List A) → ((x : A) → g (f x) ≡ h x)
    → map g (map f xs) ≡ map h xs
map_fused g f h [] same = refl
map_fused g f h (x ∷ xs) same = ap (λ y. y ∷ map g (map f xs)) (same x) ∙ ap (λ ys. h x ∷ ys) (map_fused g f h xs same)

module _ {T : Type 0} (choices : Choices T) (value : List ℕ → T) (names : LaneNaming) (lent : List (ℕ × LaneLoan))
    (held : List (ℕ × LaneSample)) (m : World) (service : Service T) (s : LanesStandFor choices value names lent held m service)
    (k : IsKept m) (few : m.moments ≤ 2 ^ 63) (between : AllBetween m) (place : ℕ) (before : PublisherLaneState)
    (found : slice_get m.publishers place ≡ Some before) where
  abbrev who : ℕ
  who = names.publisher place

  abbrev message : ℕ → Message T
  message = slot_message value names m.table

  abbrev number_of : Message T → ℕ
  number_of it = it.number

  numbers_are : (xs : List ℕ) → map number_of (map message xs) ≡ map names.message xs
  numbers_are xs = map_fused number_of message names.message xs (λ x. refl)

  -- the loans of the publisher
  loan_numbers : (table : List (ℕ × LaneLoan))
      → ((index : ℕ) (entry : ℕ × LaneLoan) → slice_get table index ≡ Some entry
      → (lane : PublisherLaneState) × (slice_get m.publishers entry.1.publisher ≡ Some lane))
      → map (λ (loan : Loan T). loan.number)
      (filter (λ (loan : Loan T). loan.publisher == who)
      (map (λ (entry : ℕ × Loan T). entry.1) (named (loan_by_numbers value names m) table)))
      ≡ map names.message (slots_lent_at place table)
  loan_numbers [] there = refl
  loan_numbers (entry ∷ table) there =
      by_test (entry.1.publisher == place) refl (loan_numbers table (λ index it is. there (suc index) it is))
    where
      same_test : (b : Bool) → (entry.1.publisher == place) ≡ b → (names.publisher entry.1.publisher == who) ≡ b
      same_test true e = eq-eqb (names.publisher entry.1.publisher) who (ap names.publisher (eqb-true entry.1.publisher place e))
      same_test false e = ne_eqb (names.publisher entry.1.publisher) who (λ same.
          let lane = there 0 entry refl in
          not_both (entry.1.publisher == place) (eq-eqb entry.1.publisher place
          (s.publishers_apart entry.1.publisher place lane.0 before lane.1 found same)) e)

      by_test : (b : Bool) → (entry.1.publisher == place) ≡ b
          → map (λ (loan : Loan T). loan.number)
          (filter (λ (loan : Loan T). loan.publisher == who)
          (map (λ (it : ℕ × Loan T). it.1) (named (loan_by_numbers value names m) table)))
          ≡ map names.message (slots_lent_at place table)
          → map (λ (loan : Loan T). loan.number)
          (filter (λ (loan : Loan T). loan.publisher == who)
          (map (λ (it : ℕ × Loan T). it.1) (named (loan_by_numbers value names m) (entry ∷ table))))
          ≡ map names.message (slots_lent_at place (entry ∷ table))
      by_test true e rest =
          ap (λ (b : Bool). map (λ (loan : Loan T). loan.number) (cond b (loan_by_numbers value names m entry.1 ∷
          filter (λ (loan : Loan T). loan.publisher == who) (map (λ (it : ℕ × Loan T). it.1) (named (loan_by_numbers value names m) table)))
          (filter (λ (loan : Loan T). loan.publisher == who)
          (map (λ (it : ℕ × Loan T). it.1) (named (loan_by_numbers value names m) table)))))
          (same_test true e)
          ∙ ap (λ (xs : List ℕ). names.message entry.1.slot ∷ xs) rest
          ∙ sym (ap (λ (b : Bool). map names.message (map (λ (it : ℕ × LaneLoan). it.1.slot) (cond b (entry ∷
          filter (λ (it : ℕ × LaneLoan). it.1.publisher == place) table) (filter (λ (it : ℕ × LaneLoan). it.1.publisher == place) table))))
          e)
      by_test false e rest =
          ap (λ (b : Bool). map (λ (loan : Loan T). loan.number) (cond b (loan_by_numbers value names m entry.1 ∷
          filter (λ (loan : Loan T). loan.publisher == who) (map (λ (it : ℕ × Loan T). it.1) (named (loan_by_numbers value names m) table)))
          (filter (λ (loan : Loan T). loan.publisher == who)
          (map (λ (it : ℕ × Loan T). it.1) (named (loan_by_numbers value names m) table)))))
          (same_test false e)
          ∙ rest
          ∙ sym (ap (λ (b : Bool). map names.message (map (λ (it : ℕ × LaneLoan). it.1.slot) (cond b (entry ∷
          filter (λ (it : ℕ × LaneLoan). it.1.publisher == place) table) (filter (λ (it : ℕ × LaneLoan). it.1.publisher == place) table))))
          e)

  pub lent_numbers : map (λ (loan : Loan T). loan.number) (loans_of who service) ≡ map names.message (slots_lent_at place lent)
  lent_numbers =
      ap (λ xs. map (λ (loan : Loan T). loan.number)
      (filter (λ (loan : Loan T). loan.publisher == who) (map (λ (entry : ℕ × Loan T). entry.1) xs))) s.loans
      ∙ loan_numbers lent s.loans_there

  -- a slot that goes by a number is a loan of the publisher
  lent_loan : (x : ℕ) → 0 < count x (slots_lent_at place lent) → is_loan before x ≡ true
  lent_loan x some = one_is (is_loan before x) (omega (arith, some, s.loans_all place before x found))

  loan_own : (x : ℕ) → is_loan before x ≡ true → IsSlotOf m place x
  loan_own x out =
      let own = loan_within m place x (record { lane = before; found = found; out = out }) in
      record { lane = before; found = found; above = own.0; below = own.1 }

  -- as many are out
  pub lent_count : length (loans_of who service) ≡ loans_out before.port.book
  lent_count =
      sym (length-map (loans_of who service) (λ (loan : Loan T). loan.number))
      ∙ ap (λ (xs : List ℕ). length xs) lent_numbers
      ∙ length-map (slots_lent_at place lent) names.message
      ∙ sym (sum_count before.port.book.first (length before.port.book.loans) (slots_lent_at place lent)
      (λ x some. own_range x (loan_own x (lent_loan x some))))
      ∙ sum_same (λ index. count (before.port.book.first + index) (slots_lent_at place lent))
      (λ index. one_if (is_out (get_or before.port.book.loans index mark.No))) (length before.port.book.loans)
      (λ index below. s.loans_all place before (before.port.book.first + index) found ∙ ap one_if (ap is_out (mark_at index)))
      ∙ sym (total_is (λ index. is_out (get_or before.port.book.loans index mark.No)) (length before.port.book.loans))
    where
      own_range : (x : ℕ) → IsSlotOf m place x
          → (before.port.book.first ≤ x) × (x < before.port.book.first + length before.port.book.loans)
      own_range x own =
          let same = some_is own.lane before (sym own.found ∙ found) in (
            subst (λ (l : PublisherLaneState). l.port.book.first ≤ x) same own.above,
            subst (λ (l : PublisherLaneState). x < l.port.book.first + length l.port.book.loans) same own.below,
          )

      mark_at : (index : ℕ) → loan_of (before.port.book.first + index) before.port.book ≡ get_or before.port.book.loans index mark.No
      mark_at index = by_test (nat_lt (before.port.book.first + index) before.port.book.first) refl
        where
          by_test : (b : Bool) → nat_lt (before.port.book.first + index) before.port.book.first ≡ b
              → (if b then mark.No else get_or before.port.book.loans (before.port.book.first + index - before.port.book.first) mark.No)
              ≡ get_or before.port.book.loans index mark.No
          by_test true e = absurd (omega (arith, ltb-true (before.port.book.first + index) before.port.book.first e))
          by_test false e = ap (λ (i : ℕ). get_or before.port.book.loans i mark.No) (omega arith)

  -- whether a connection of the publisher is that of a subscriber
  find_link : (other : ℕ) (links : List LinkState)
      → ((connection : ℕ) × (link : LinkState) × (slice_get links connection ≡ Some link) × (link.publisher ≡ place)
      × (names.subscriber link.subscriber ≡ other)) ⊎ JoinsNoneOf names links place other
  find_link other [] = inr (λ connection link is own to. absurd (cc is))
  find_link other (first ∷ links) = by_rest (find_link other links)
    where
      not_first : (JoinsNoneOf names links place other) → ((first.publisher ≡ place) → names.subscriber first.subscriber ≡ other → ⊥)
          → JoinsNoneOf names (first ∷ links) place other
      not_first none off zero link is own to = off (ap (λ (l : LinkState). l.publisher) (some_is first link is) ∙ own)
          (ap (λ (l : LinkState). names.subscriber l.subscriber) (some_is first link is) ∙ to)
      not_first none off (suc connection) link is own to = none connection link is own to

      by_rest : ((connection : ℕ) × (link : LinkState) × (slice_get links connection ≡ Some link) × (link.publisher ≡ place)
          × (names.subscriber link.subscriber ≡ other)) ⊎ JoinsNoneOf names links place other
          → ((connection : ℕ) × (link : LinkState) × (slice_get (first ∷ links) connection ≡ Some link) × (link.publisher ≡ place)
          × (names.subscriber link.subscriber ≡ other)) ⊎ JoinsNoneOf names (first ∷ links) place other
      by_rest (inl it) = inl (suc it.0, it.1, it.2, it.3, it.4)
      by_rest (inr none) = elim (eqb_tells first.publisher place) [
        | inr apart ↦ inr (not_first none (λ own to. apart.1 own))
        | inl own ↦ elim (eqb_tells (names.subscriber first.subscriber) other) [
          | inl to ↦ inl (0, first, refl, own.1, to.1)
          | inr apart ↦ inr (not_first none (λ own to. apart.1 to))
        ]
      ]

  -- The slots of what waits for a subscriber, and is borrowed by it.
  pub record SlotsAt (other : ℕ) : Type 0 where
    pub slots : List ℕ
    pub are : map number_of ((mailbox who other service).waiting ++ (mailbox who other service).borrowed) ≡ map names.message slots
    pub used : (x : ℕ) → 0 < count x slots → IsSlotOf m place x × IsHeld m x
    pub all : (connection : ℕ) (link : LinkState) → slice_get m.links connection ≡ Some link → link.publisher ≡ place
        → names.subscriber link.subscriber ≡ other → (x : ℕ)
        → (0 < count x (mail_at m connection)) ⊎ (0 < count x (slots_held_over link held)) → 0 < count x slots

  slots_at : (other : ℕ) → SlotsAt other
  slots_at other = by_link (find_link other m.links)
    where
      by_link : ((connection : ℕ) × (link : LinkState) × (slice_get m.links connection ≡ Some link) × (link.publisher ≡ place)
          × (names.subscriber link.subscriber ≡ other)) ⊎ JoinsNoneOf names m.links place other → SlotsAt other
      by_link (inr none) =
          let empty = s.others place other before found none in
          record {
            slots = [];
            are = ap (λ (xs : List (Message T)). map number_of (xs ++ (mailbox who other service).borrowed)) empty.0
                ∙ ap (map number_of) empty.1;
            used = λ x some. absurd (omega (arith, some));
            all = λ connection link is own to x some. absurd (none connection link is own to);
          }
      by_link (inl it) =
          let box : mailbox who other service ≡ lane_mailbox value names m held it.0 it.1
          = ap (λ (o : Option (Mailbox T)). unwrap_or o (record { limit = 0; waiting = []; borrowed = [] }))
          (ap (λ (p : ℕ). service.mailboxes (names.publisher p) other) (sym it.3)
          ∙ ap (service.mailboxes (names.publisher (it.1).publisher)) (sym it.4) ∙ s.mailboxes it.0 it.1 it.2) in
          record {
            slots = mail_at m it.0 ++ slots_held_over it.1 held;
            are = ap (λ (b : Mailbox T). map number_of (b.waiting ++ b.borrowed)) box
                ∙ map-append number_of (map message (mail_at m it.0)) (map message (slots_held_over it.1 held))
                ∙ ap (λ (xs : List ℕ). xs ++ map number_of (map message (slots_held_over it.1 held))) (numbers_are (mail_at m it.0))
                ∙ ap (λ (xs : List ℕ). map names.message (mail_at m it.0) ++ xs) (numbers_are (slots_held_over it.1 held))
                ∙ sym (map-append names.message (mail_at m it.0) (slots_held_over it.1 held));
            used = λ x some. by_part x (either (count x (mail_at m it.0)) (count x (slots_held_over it.1 held))
                (omega (arith, some, count_append x (mail_at m it.0) (slots_held_over it.1 held))));
            all = λ connection link is own to x some.
                let joins = s.joined connection link is in
                let leads = s.joined it.0 it.1 it.2 in
                let same : connection ≡ it.0
                = (k.uses few).pairs connection it.0 link it.1 is it.2 (own ∙ sym it.3)
                (s.subscribers_apart link.subscriber (it.1).subscriber (joins.1).0 (leads.1).0 (joins.1).1 (leads.1).1 (to ∙ sym it.4)) in
                let is_it : link ≡ it.1 = some_is link it.1 (sym is ∙ ap (slice_get m.links) same ∙ it.2) in
                elim some [
                  | inl waits ↦ omega (
                    arith,
                    subst (λ (c : ℕ). 0 < count x (mail_at m c)) same waits,
                    count_append x (mail_at m it.0) (slots_held_over it.1 held),
                  )
                  | inr over ↦ omega (
                    arith,
                    subst (λ (l : LinkState). 0 < count x (slots_held_over l held)) is_it over,
                    count_append x (mail_at m it.0) (slots_held_over it.1 held),
                  )
                ];
          }
        where
          either : (a b : ℕ) → 0 < a + b → (0 < a) ⊎ (0 < b)
          either zero b h = inr (omega (arith, h))
          either (suc a) b h = inl (omega arith)

          by_part : (x : ℕ) → (0 < count x (mail_at m it.0)) ⊎ (0 < count x (slots_held_over it.1 held)) → IsSlotOf m place x × IsHeld m x
          by_part x (inl waits) = (
            subst (λ (p : ℕ). IsSlotOf m p x) it.3 (waits_own m x it.0 it.1 k few it.2 waits),
            held_waits m x k (record { connection = it.0; some = waits }),
          )
          by_part x (inr over) =
              let b : IsBorrowedOf m x = record {
                connection = it.0;
                link = it.1;
                found = it.2;
                has = over_borrowed choices value names lent held m service s it.0 it.1 x it.2 over;
              } in
              (subst (λ (p : ℕ). IsSlotOf m p x) it.3 (borrowed_own m x k few b), held_borrowed m x k b)

  -- and those of all who are in a table of the machine
  pub record SlotsOf (entries : List (ℕ × Reader)) : Type 0 where
    pub slots : List ℕ
    pub are : map number_of (flat_map (λ (entry : ℕ × Reader). (mailbox who entry.0 service).waiting ++
        (mailbox who entry.0 service).borrowed) entries)
        ≡ map names.message slots
    pub used : (x : ℕ) → 0 < count x slots → IsSlotOf m place x × IsHeld m x
    pub all : (index : ℕ) (entry : ℕ × Reader) → slice_get entries index ≡ Some entry → (connection : ℕ) (link : LinkState)
        → slice_get m.links connection ≡ Some link → link.publisher ≡ place → names.subscriber link.subscriber ≡ entry.0 → (x : ℕ)
        → (0 < count x (mail_at m connection)) ⊎ (0 < count x (slots_held_over link held)) → 0 < count x slots

  slots_of : (entries : List (ℕ × Reader)) → SlotsOf entries
  slots_of [] = record {
    slots = [];
    are = refl;
    used = λ x some. absurd (omega (arith, some));
    all = λ index entry is connection link at_it own to x some. absurd (nothing index entry is);
  }
    where
      nothing : (index : ℕ) (entry : ℕ × Reader) → slice_get [] index ≡ Some entry → ⊥
      nothing index entry is = cc is
  slots_of (entry ∷ entries) = joined_with (slots_at entry.0) (slots_of entries)
    where
      joined_with : SlotsAt entry.0 → SlotsOf entries → SlotsOf (entry ∷ entries)
      joined_with here rest = record {
        slots = here.slots ++ rest.slots;
        are = map-append number_of ((mailbox who entry.0 service).waiting ++ (mailbox who entry.0 service).borrowed)
            (flat_map (λ (it : ℕ × Reader). (mailbox who it.0 service).waiting ++ (mailbox who it.0 service).borrowed) entries)
            ∙ ap (λ (xs : List ℕ). xs ++ map number_of (flat_map (λ (it : ℕ × Reader). (mailbox who it.0 service).waiting ++
            (mailbox who it.0 service).borrowed) entries)) here.are
            ∙ ap (λ (xs : List ℕ). map names.message here.slots ++ xs) rest.are
            ∙ sym (map-append names.message here.slots rest.slots);
        used = λ x some. by_part x (either (count x here.slots) (count x rest.slots)
            (omega (arith, some, count_append x here.slots rest.slots)));
        all = λ index it is connection link at_it own to x some. by_index index it is connection link at_it own to x some;
      }
        where
          either : (a b : ℕ) → 0 < a + b → (0 < a) ⊎ (0 < b)
          either zero b h = inr (omega (arith, h))
          either (suc a) b h = inl (omega arith)

          by_part : (x : ℕ) → (0 < count x here.slots) ⊎ (0 < count x rest.slots) → IsSlotOf m place x × IsHeld m x
          by_part x (inl some) = here.used x some
          by_part x (inr some) = rest.used x some

          by_index : (index : ℕ) (it : ℕ × Reader) → slice_get (entry ∷ entries) index ≡ Some it → (connection : ℕ) (link : LinkState)
              → slice_get m.links connection ≡ Some link → link.publisher ≡ place → names.subscriber link.subscriber ≡ it.0 → (x : ℕ)
              → (0 < count x (mail_at m connection)) ⊎ (0 < count x (slots_held_over link held)) → 0 < count x (here.slots ++ rest.slots)
          by_index zero it is connection link at_it own to x some = omega (
            arith,
            here.all connection link at_it own (to ∙ sym (ap (λ (e : ℕ × Reader). e.0) (some_is entry it is))) x some,
            count_append x here.slots rest.slots,
          )
          by_index (suc index) it is connection link at_it own to x some = omega (
            arith,
            rest.all index it is connection link at_it own to x some,
            count_append x here.slots rest.slots,
          )

  -- The slots of the messages that are in use in the machine: just the publisher's slots that are in use.
  module _ (writer : Writer T) (h : LanePublisherIs choices value names m service place before writer) where
    pub held_slots : SlotsOf service.subscribers
    held_slots = slots_of service.subscribers

    abbrev pub used_slots : List ℕ
    used_slots = slots_lent_at place lent ++ (before.port.book.history ++ held_slots.slots)

    pub used_numbers : in_use who writer service ≡ map names.message used_slots
    used_numbers =
        ap (λ (xs : List ℕ). xs ++ map number_of (writer.history ++ flat_map (λ (entry : ℕ × Reader).
        (mailbox who entry.0 service).waiting ++ (mailbox who entry.0 service).borrowed) service.subscribers)) lent_numbers
        ∙ ap (λ (xs : List ℕ). map names.message (slots_lent_at place lent) ++ xs)
        (map-append number_of writer.history (flat_map (λ (entry : ℕ × Reader).
        (mailbox who entry.0 service).waiting ++ (mailbox who entry.0 service).borrowed) service.subscribers)
        ∙ ap (λ (xs : List (Message T)). map number_of xs ++ map number_of (flat_map (λ (entry : ℕ × Reader).
        (mailbox who entry.0 service).waiting ++ (mailbox who entry.0 service).borrowed) service.subscribers)) h.history
        ∙ ap (λ (xs : List ℕ). xs ++ map number_of (flat_map (λ (entry : ℕ × Reader).
        (mailbox who entry.0 service).waiting ++ (mailbox who entry.0 service).borrowed) service.subscribers))
        (numbers_are before.port.book.history)
        ∙ ap (λ (xs : List ℕ). map names.message before.port.book.history ++ xs) held_slots.are
        ∙ sym (map-append names.message before.port.book.history held_slots.slots))
        ∙ sym (map-append names.message (slots_lent_at place lent) (before.port.book.history ++ held_slots.slots))

    pub used_is : (x : ℕ) → 0 < count x used_slots → IsSlotOf m place x × IsInUse m before x
    used_is x some = by_part (thirds (count x (slots_lent_at place lent)) (count x before.port.book.history) (count x held_slots.slots)
        (omega (
          arith,
          some,
          count_append x (slots_lent_at place lent) (before.port.book.history ++ held_slots.slots),
          count_append x before.port.book.history held_slots.slots,
        )))
      where
        thirds : (a b c : ℕ) → 0 < a + (b + c) → (0 < a) ⊎ ((0 < b) ⊎ (0 < c))
        thirds (suc a) b c h = inl (omega arith)
        thirds zero (suc b) c h = inr (inl (omega arith))
        thirds zero zero c h = inr (inr (omega (arith, h)))

        by_part : (0 < count x (slots_lent_at place lent)) ⊎ ((0 < count x before.port.book.history) ⊎ (0 < count x held_slots.slots))
            → IsSlotOf m place x × IsInUse m before x
        by_part (inl lent_there) = let out = lent_loan x lent_there in (loan_own x out, inl out)
        by_part (inr (inl kept)) =
            let stands = counted_stands before.port.book.history x kept in
            ((histories_are_own m k few place before found).own stands.0 x stands.1, inr (inl kept))
        by_part (inr (inr is)) = let it = held_slots.used x is in (it.0, inr (inr it.1))

    pub used_there : (x : ℕ) → IsSlotOf m place x → IsInUse m before x → 0 < count x used_slots
    used_there x own (inl out) = omega (
      arith,
      s.loans_all place before x found,
      ap one_if out,
      count_append x (slots_lent_at place lent) (before.port.book.history ++ held_slots.slots),
    )
    used_there x own (inr (inl kept)) = omega (
      arith,
      kept,
      count_append x (slots_lent_at place lent) (before.port.book.history ++ held_slots.slots),
      count_append x before.port.book.history held_slots.slots,
    )
    used_there x own (inr (inr is)) = elim (held_split m x between is) [
      | inl w ↦ by_link w (slice_get m.links w.connection) refl
      | inr b ↦ at_link b.connection b.link b.found
          (own_apart m (b.link).publisher place x k (borrowed_own m x k few b) own)
          (inr (omega (arith, s.samples_all b.connection b.link x b.found, ap one_if b.has)))
    ]
      where
        at_link : (connection : ℕ) (link : LinkState) → slice_get m.links connection ≡ Some link → link.publisher ≡ place
            → (0 < count x (mail_at m connection)) ⊎ (0 < count x (slots_held_over link held)) → 0 < count x used_slots
        at_link connection link is from some =
            let joins = s.joined connection link is in
            let reader = s.subscribers link.subscriber (joins.1).0 (joins.1).1 in
            let index = stands_at_index (names.subscriber link.subscriber) reader.0 service.subscribers reader.1 in
            omega (
              arith,
              held_slots.all index.0 (names.subscriber link.subscriber, reader.0) index.1 connection link is from refl x some,
              count_append x (slots_lent_at place lent) (before.port.book.history ++ held_slots.slots),
              count_append x before.port.book.history held_slots.slots,
            )

        by_link : (w : WaitsAt m x) (o : Option LinkState) → slice_get m.links w.connection ≡ o → 0 < count x used_slots
        by_link w None e = absurd (omega (
          arith,
          w.some,
          ap (λ (l : Option LinkState). count x (mail_by l (get_or m.orders w.connection []))) e,
        ))
        by_link w (Some link) e = at_link w.connection link e
            (own_apart m link.publisher place x k (waits_own m x w.connection link k few e w.some) own) (inl w.some)
