-- A publisher that was found to have fewer slots, or other headers, leaves lanes as they are before their first step.
use Rattle.std.proofs.Common.{ℕ, ◌≡◌, ◌+◌, ◌≤◌, if◌then◌else◌, Bool, true, false, nat_le, nat_lt, List, length, take, set, slice_get}
use Rattle.std.proofs.Common.{Option, Some, None, refl, sym, ◌∙◌, ap, subst, inl, inr, arith, Option}
use Rattle.std.proofs.lemmas.Bool.{leb-true}
use Rattle.std.proofs.lemmas.List.{length-map, length-set, length-take-le}
use Rattle.std.proofs.lemmas.List.Elements.{All-map, All-take, All-weaker}
use Rattle.iox_lanes_machine.specs.LanesParties.PublisherKeeping.{BookState, are_unused, may_resize}
use Rattle.iox_lanes_machine.specs.LanesParties.declared.publisher.slot_book.LoanMark.TheVariants as mark
use Rattle.iox_lanes_machine.specs.LanesParties.Parties.{PublisherLaneState, is_out, with_origin, lane_resized, lane_named}
use Rattle.iox_lanes_machine.specs.LanesParties.Within.{IsPublisher}
use Rattle.iox_lanes_machine.proofs.LanesParties.Rings.{all_at, and_left, and_right}
use Rattle.iox_lanes_machine.specs.LedgerRooms.{CountsLoans}
use Rattle.iox_lanes_machine.specs.LedgerUses.{one_if, entry, UsesCounted}
use Rattle.iox_lanes_machine.specs.Findings.{resizes_of, is_there, resized_of, named_of}
use Rattle.iox_lanes_machine.specs.Fresh.{HasFound, IsFreshPublisher, IsFresh}
use Rattle.iox_lanes_machine.specs.Kept.{IsWithin}
use Rattle.iox_lanes_machine.specs.World.{World}
use Rattle.iox_lanes_machine.proofs.FoundFresh.{set_cases, same_ends, after, PublisherAfter, fresh_after, link_stays, rows_within}
use Rattle.iox_lanes_machine.proofs.FoundFresh.{rows_after}
use Rattle.iox_lanes_machine.proofs.Shrinking.{NoneFound, none_found, none_left, none_unlent, never_refers, resized_counted, resized_counts}
use Rattle.iox_lanes_machine.proofs.Within.{publisher_within}

-- a publisher that may have n slots: of none of them there is a use
pub record MayShrink (slots : ℕ) (lane : PublisherLaneState) : Type 0 where
  pub fits : slots ≤ length lane.port.book.uses
  pub unused : are_unused lane.port.book.uses ≡ true
  pub none : NoneFound lane.port.book

pub may_shrink_is : (m : World) (who slots : ℕ) (lane : PublisherLaneState) → may_resize slots lane.port.book ≡ true
    → slice_get m.publishers who ≡ Some lane → IsFresh m → MayShrink slots lane
may_shrink_is m who slots lane may found h =
    let is = h.publishers who lane found in
    let book : BookState = lane.port.book in
    let unused = and_right (nat_le slots (length book.uses)) (are_unused book.uses) may in
    record {
      fits = leb-true slots (length book.uses) (and_left (nat_le slots (length book.uses)) (are_unused book.uses) may);
      unused = unused;
      none = none_found (length lane.port.routes) book is.counted is.unlent unused;
    }

-- a publisher of which nothing was found has just its first slots
pub resized_fresh : (m : World) (who slots most : ℕ) (lane : PublisherLaneState) → MayShrink slots lane
    → slice_get m.publishers who ≡ Some lane → IsWithin m → IsFresh m
    → IsWithin (resized_of m who slots most (Some lane)) × IsFresh (resized_of m who slots most (Some lane))
resized_fresh m who slots most lane may found w h = (within, fresh)
  where
    own : IsFreshPublisher m who lane
    own = h.publishers who lane found

    now' : PublisherLaneState
    now' = lane_resized slots most lane

    publishers' : List PublisherLaneState
    publishers' = set m.publishers who now'

    world : World
    world = after m m.table.words m.links publishers'

    left : NoneFound now'.port.book
    left = none_left (length lane.port.routes) slots most lane.port.book may.none

    has : HasFound world now'
    has at route link at_is link_is slot =
        own.has at route link at_is link_is slot
        ∙ ap one_if (never_refers lane.port.book at slot may.none ∙ sym (never_refers now'.port.book at slot left))

    lanes : (other : ℕ) (now : PublisherLaneState) → slice_get publishers' other ≡ Some now → PublisherAfter m world other now
    lanes other now e = elim (set_cases m.publishers who lane now' found other now e) [
      | inl here ↦ record {
        was = lane;
        before = ap (slice_get m.publishers) here.0 ∙ found;
        call = ap (λ (l : PublisherLaneState). l.port.call) (sym here.1);
        routes = ap (λ (l : PublisherLaneState). l.port.routes) (sym here.1);
        counted = subst (λ (l : PublisherLaneState). UsesCounted (length l.port.routes) l.port.book) here.1
            (resized_counted (length lane.port.routes) slots most lane.port.book may.fits may.none own.counted);
        counts = subst (λ (l : PublisherLaneState). CountsLoans l.port.book) here.1
            (resized_counts (length lane.port.routes) slots most lane.port.book own.none_out may.none own.counts);
        none_out = ap (λ (l : PublisherLaneState). l.port.book.out) (sym here.1) ∙ own.none_out;
        unlent = subst (λ (l : PublisherLaneState). (s : ℕ) → is_out (entry l.port.book.first l.port.book.loans s mark.No) ≡ false)
            here.1 (none_unlent now'.port.book left);
        has = subst (HasFound world) here.1 has;
      }
      | inr off ↦
          let is = h.publishers other now off.1 in
          record {
            was = now;
            before = off.1;
            call = refl;
            routes = refl;
            counted = is.counted;
            counts = is.counts;
            none_out
                = is.none_out;
            unlent = is.unlent;
            has = is.has;
          }
    ]

    loans : length (take slots lane.port.book.loans) ≡ slots
    loans = length-take-le slots lane.port.book.loans (omega (arith, may.fits, own.counted.loans_each))

    fresh : IsFresh world
    fresh = fresh_after m m.table.words m.links publishers' (same_ends m.links) h.spare h.named
        (λ d link e. link_stays m m.table.words m.links publishers' d link (length-set m.publishers who now') refl refl (h.links d link e))
        lanes (rows_within m m.table.words m.links who lane now' found refl (omega (arith, loans, may.fits, own.counted.loans_each))
        h.rows) h

    within : IsWithin world
    within =
        let port : IsPublisher m.table.sizes lane = all_at (IsPublisher m.table.sizes) m.publishers who lane found w.publishers in
        let heads : length (take slots lane.heads) ≡ slots
        = length-take-le slots lane.heads (omega (arith, may.fits, own.counted.loans_each, port.heads)) in
        let moved : IsPublisher m.table.sizes now' = record {
          routes = port.routes;
          call = port.call;
          slots = omega (arith, port.slots, loans, may.fits, own.counted.loans_each);
          payload = port.payload;
          head = port.head;
          heads = heads ∙ sym loans;
          widths = All-take (λ (head : List ℕ). length head ≡ 3 + m.table.sizes.user_header_words) slots lane.heads port.widths;
        } in
        publisher_within m world who lane now' found moved refl refl refl refl refl refl refl w

pub resizes_keep : (m : World) (who slots most : ℕ) (at : Option PublisherLaneState) → slice_get m.publishers who ≡ at
    → resizes_of slots at ≡ true → IsWithin m → IsFresh m
    → IsWithin (resized_of m who slots most (slice_get m.publishers who))
    × IsFresh (resized_of m who slots most (slice_get m.publishers who))
resizes_keep m who slots most None e fit w h = absurd (cc fit)
resizes_keep m who slots most (Some lane) e fit w h =
    subst (λ (n : World). IsWithin n × IsFresh n) (sym (ap (resized_of m who slots most) e))
    (resized_fresh m who slots most lane (may_shrink_is m who slots lane fit e h) e w h)

-- the headers of a publisher's messages say another node and publisher
pub origin_length : (node publisher : ℕ) (head : List ℕ) → length (with_origin node publisher head) ≡ length head
origin_length node publisher head = by_test (nat_lt 1 (length head))
  where
    by_test : (b : Bool) → length (if b then set (set head 0 node) 1 publisher else head) ≡ length head
    by_test true = length-set (set head 0 node) 1 publisher ∙ length-set head 0 node
    by_test false = refl

pub named_fresh : (m : World) (who node publisher : ℕ) (fails : Bool) (last : Option ℕ) (lane : PublisherLaneState)
    → slice_get m.publishers who ≡ Some lane → IsWithin m → IsFresh m
    → IsWithin (named_of m who node publisher fails last (Some lane)) × IsFresh (named_of m who node publisher fails last (Some lane))
named_fresh m who node publisher fails last lane found w h = (within, fresh)
  where
    own : IsFreshPublisher m who lane
    own = h.publishers who lane found

    now' : PublisherLaneState
    now' = lane_named node publisher fails last lane

    publishers' : List PublisherLaneState
    publishers' = set m.publishers who now'

    world : World
    world = after m m.table.words m.links publishers'

    lanes : (other : ℕ) (now : PublisherLaneState) → slice_get publishers' other ≡ Some now → PublisherAfter m world other now
    lanes other now e = elim (set_cases m.publishers who lane now' found other now e) [
      | inl here ↦ subst (PublisherAfter m world other) here.1 (record {
        was = lane;
        before = ap (slice_get m.publishers) here.0 ∙ found;
        call = refl;
        routes = refl;
        counted = own.counted;
        counts = own.counts;
        none_out = own.none_out;
        unlent = own.unlent;
        has = own.has;
      })
      | inr off ↦
          let is = h.publishers other now off.1 in
          record {
            was = now;
            before = off.1;
            call = refl;
            routes = refl;
            counted = is.counted;
            counts = is.counts;
            none_out
                = is.none_out;
            unlent = is.unlent;
            has = is.has;
          }
    ]

    fresh : IsFresh world
    fresh = fresh_after m m.table.words m.links publishers' (same_ends m.links) h.spare h.named
        (λ d link e. link_stays m m.table.words m.links publishers' d link (length-set m.publishers who now') refl refl (h.links d link e))
        lanes (rows_after m m.table.words m.links who lane now' found refl refl h.rows) h

    within : IsWithin world
    within =
        let port : IsPublisher m.table.sizes lane = all_at (IsPublisher m.table.sizes) m.publishers who lane found w.publishers in
        let wide : ℕ = 3 + m.table.sizes.user_header_words in
        let moved : IsPublisher m.table.sizes now' = record {
          routes = port.routes;
          call = port.call;
          slots = port.slots;
          payload = port.payload;
          head = port.head;
          heads = length-map lane.heads (with_origin node publisher) ∙ port.heads;
          widths = All-map (λ (head : List ℕ). length head ≡ wide) (with_origin node publisher) lane.heads
              (All-weaker (λ (head : List ℕ). length head ≡ wide) (λ (head : List ℕ). length (with_origin node publisher head) ≡ wide)
              (λ (head : List ℕ) is. origin_length node publisher head ∙ is) lane.heads port.widths);
        } in
        publisher_within m world who lane now' found moved refl refl refl refl refl refl refl w

pub names_keep : (m : World) (who node publisher : ℕ) (fails : Bool) (last : Option ℕ) (at : Option PublisherLaneState)
    → slice_get m.publishers who ≡ at → is_there at ≡ true → IsWithin m → IsFresh m
    → IsWithin (named_of m who node publisher fails last (slice_get m.publishers who))
    × IsFresh (named_of m who node publisher fails last (slice_get m.publishers who))
names_keep m who node publisher fails last None e fit w h = absurd (cc fit)
names_keep m who node publisher fails last (Some lane) e fit w h =
    subst (λ (n : World). IsWithin n × IsFresh n) (sym (ap (named_of m who node publisher fails last) e))
    (named_fresh m who node publisher fails last lane e w h)

-- no step was made
pub resized_moments : (m : World) (who slots most : ℕ) (at : Option PublisherLaneState)
    → (resized_of m who slots most at).moments ≡ m.moments
resized_moments m who slots most None = refl
resized_moments m who slots most (Some lane) = refl

pub named_moments : (m : World) (who node publisher : ℕ) (fails : Bool) (last : Option ℕ) (at : Option PublisherLaneState)
    → (named_of m who node publisher fails last at).moments ≡ m.moments
named_moments m who node publisher fails last None = refl
named_moments m who node publisher fails last (Some lane) = refl
