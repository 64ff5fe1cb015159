-- Where what lanes take in may be, and that it is taken in just there.
use Rattle.std.proofs.Common.{ℕ, zero, suc, ◌≡◌, ◌+◌, ◌-◌, ◌*◌, ◌<◌, ◌==◌, ◌&&◌, not, Bool, if◌then◌else◌, true, false, nat_lt}
use Rattle.std.proofs.Common.{nat_le, List, [], ◌∷◌, length, take, set, get_or, slice_get, Option, Some, None, refl, sym, ◌∙◌}
use Rattle.std.proofs.Common.{ap, subst, arith}
use Rattle.std.proofs.lemmas.Bool.{lt-ltb, le-ltb, le-leb}
use Rattle.std.proofs.lemmas.List.{append-nil, length-map, length-set, length-take-le, get_or-set_same, get_or-set_other}
use Rattle.std.proofs.lemmas.Option.{slice_get_within}
use Rattle.iox_lanes_machine.specs.LanesBase.Numbers.{IsWord}
use Rattle.iox_lanes_machine.specs.LanesBase.declared.words.sizes.TableSizes.{TableSizes}
use Rattle.iox_lanes_machine.specs.LanesBase.declared.words.word.SharedWord.TheVariants.{Slot}
use Rattle.iox_lanes_machine.specs.LanesBase.declared.words.word.SlotWord.{SlotWord}
use Rattle.iox_lanes_machine.specs.LanesBase.declared.words.word.SlotWord.TheVariants.{Header, UserHeader, Payload}
use Rattle.iox_lanes_machine.specs.LanesParties.PublisherKeeping.{BookState, are_unused, is_own, may_have, stands_in}
use Rattle.iox_lanes_machine.specs.LanesParties.declared.publisher.slot_book.LoanMark.TheVariants as mark
use Rattle.iox_lanes_machine.specs.LanesParties.Parties.{PublisherLaneState, with_origin, lane_resized}
use Rattle.iox_lanes_machine.specs.LanesParties.Parties.{lane_named}
use Rattle.iox_lanes_machine.specs.LanesParties.Within.{IsPublisher}
use Rattle.iox_lanes_machine.proofs.LanesParties.Rings.{all_at, and_left, and_right}
use Rattle.iox_lanes_machine.specs.LedgerUses.{one_if, count, refers_to, IsOwn}
use Rattle.iox_lanes_machine.proofs.Entries.{choose_one, choose_other, refers_is}
use Rattle.iox_lanes_machine.proofs.LedgerFindings.{lacks_is, newest_is}
use Rattle.iox_lanes_machine.specs.Findings.{back_found, takes_more, may_wait, may_be_back, waits_at, waits_of, back_at, back_of}
use Rattle.iox_lanes_machine.specs.Findings.{newest_of, resizes_of, is_there, has_word, finds, finds_now, waiting_of}
use Rattle.iox_lanes_machine.specs.Findings.{given_of, remembered_of, resized_of, named_of, with_found, FindsTo}
use Rattle.iox_lanes_machine.specs.Fresh.{IsFresh}
use Rattle.iox_lanes_machine.specs.Kept.{IsLinkOf, sender, IsWithin, IsKept}
use Rattle.iox_lanes_machine.specs.TakenIn.{MayStand, MayBeNewest, MayBeMessage, MayBeFound, IsFirst, MayHaveSlots, HeadSays}
use Rattle.iox_lanes_machine.specs.TakenIn.{new_slots}
use Rattle.iox_lanes_machine.specs.TakenIn.{new_node, new_publisher, number_if, number_with}
use Rattle.iox_lanes_machine.specs.TakenIn.{PublisherGrows, IsTakenIn}
use Rattle.iox_lanes_machine.specs.TakenIn.{TakesIn}
use Rattle.iox_lanes_machine.specs.Uses.{given_back}
use Rattle.iox_lanes_machine.specs.World.{World}
use Rattle.iox_lanes_machine.specs.declared.found.Found.{Found}
use Rattle.iox_lanes_machine.specs.declared.found.Found.TheVariants as found
use Rattle.iox_lanes_machine.proofs.BuffersTaken.{link_same, itself, both, head_stays}
use Rattle.iox_lanes_machine.proofs.BuffersTaken.{buffers_taken, buffers_may, buffers_say}
use Rattle.iox_lanes_machine.proofs.SwapsTaken.{swaps_taken, swaps_may, swaps_say}
use Rattle.iox_lanes_machine.proofs.Ends.{some_is}
use Rattle.iox_lanes_machine.proofs.Fresh.{returned_is}
use Rattle.iox_lanes_machine.proofs.Findings.{MayWait, may_wait_is, MayBeBack, may_be_back_is}
use Rattle.iox_lanes_machine.proofs.FoundKept.{back_count}
use Rattle.iox_lanes_machine.proofs.FoundKeptWhole.{found_both, waiting_is, given_is, word_there}
use Rattle.iox_lanes_machine.proofs.FoundKeptWhole.{finds_first}
use Rattle.iox_lanes_machine.proofs.Resized.{MayShrink, may_shrink_is}
use Rattle.iox_lanes_machine.proofs.Shrinking.{NoneFound, all_entries, uncounted, all_unused, none_left, none_uses, never_refers}
use Rattle.iox_lanes_machine.proofs.TakenIn.{given_taken, held_taken, mapped_there, newest_taken, others_grow, routes_stay, taken_in}
use Rattle.iox_lanes_machine.proofs.TakenIn.{taken_there, waiting_taken}

-- a publisher has just its first slots
slots_taken : (m : World) (who slots most : ℕ) (lane : PublisherLaneState) → MayShrink slots lane
    → slice_get m.publishers who ≡ Some lane → IsWithin m → IsFresh m → IsFresh (resized_of m who slots most (Some lane))
    → IsTakenIn m (found.Slots who slots most) (resized_of m who slots most (Some lane))
slots_taken m who slots most lane may stands w h h' =
    taken_in m f m.table.words m.links (set m.publishers who now') (λ d. refl) (λ other place. refl) h h'
    (λ d. link_same (slice_get m.links d))
    (λ d link e. sym (append-nil (given_back m.table d)))
    (λ s word value e. absurd (cc e))
    (λ s word there not. refl)
    (others_grow m f who lane now' (λ d. refl) stands grows
    (λ other e. (
      refl,
      λ at. refl,
      refl,
      record {
        slots = ap (λ (b : Bool). number_if b slots) e;
        loans = ap (λ (b : Bool). number_if b most) e;
        node = refl;
        publisher
            = refl;
        fails = λ x. refl;
        last = λ x. refl;
      },
    )))
    (length-set m.publishers who now')
  where
    f : Found
    f = found.Slots who slots most

    now' : PublisherLaneState
    now' = lane_resized slots most lane

    book : BookState
    book = lane.port.book

    left : NoneFound now'.port.book
    left = none_left (length lane.port.routes) slots most book may.none

    port : IsPublisher m.table.sizes lane
    port = all_at (IsPublisher m.table.sizes) m.publishers who lane stands w.publishers

    given : (n : ℕ) → number_with (new_slots f who) n ≡ slots
    given n = ap (λ (b : Bool). number_with (number_if b slots) n) (itself who)

    each_loan : length book.loans ≡ length book.uses
    each_loan = (h.publishers who lane stands).counted.loans_each

    grows : PublisherGrows m f who lane now'
    grows = record {
      routes = routes_stay m f lane.port.routes (λ d. refl);
      history = sym (append-nil book.history);
      referred = λ at s. omega (arith, ap one_if (never_refers book at s may.none), ap one_if (never_refers now'.port.book at s left));
      uses = λ s. omega (arith, none_uses book s may.none, none_uses now'.port.book s left);
      slots = length-take-le slots book.uses may.fits ∙ sym (given (length book.uses));
      marks = length-take-le slots book.loans (omega (arith, may.fits, each_loan)) ∙ sym (given (length book.loans));
      loans = λ s. all_entries book.first (take slots book.loans) mark.No left.loans s ∙ sym
          (all_entries book.first book.loans mark.No may.none.loans s);
      most = sym (ap (λ (b : Bool). number_with (number_if b most) book.most_loans) (itself who));
      heads = record {
        each = λ s before behind e e'. subst (HeadSays None None before)
            (some_is before behind (sym e ∙ taken_there slots lane.heads s behind e')) (head_stays before);
        as_many = length-take-le slots lane.heads (omega (arith, may.fits, each_loan, port.heads)) ∙ sym (given (length lane.heads));
      };
      fails = refl;
      last = refl;
      same = refl;
    }

-- the headers of a publisher's messages say another node and publisher
named_says : (node publisher : ℕ) (head : List ℕ) → 1 < length head
    → HeadSays (Some node) (Some publisher) head (with_origin node publisher head)
named_says node publisher head wide =
    let one : List ℕ = set head 0 node in
    subst (HeadSays (Some node) (Some publisher) head)
    (sym (choose_one (nat_lt 1 (length head)) (set one 1 publisher) head (lt-ltb 1 (length head) wide))) (record {
      node = get_or-set_other one 1 0 publisher 0 (λ e. absurd (omega (arith, e))) ∙ get_or-set_same head 0 node 0 (omega (arith, wide));
      publisher = get_or-set_same one 1 publisher 0 (omega (arith, wide, length-set head 0 node));
      others = λ word high. get_or-set_other one 1 word publisher 0 (λ e. absurd (omega (arith, high, e))) ∙ get_or-set_other head 0
          word node 0 (λ e. absurd (omega (arith, high, e)));
      as_many = length-set one 1 publisher ∙ length-set head 0 node;
    })

sender_taken : (m : World) (who node publisher : ℕ) (fails : Bool) (last : Option ℕ) (lane : PublisherLaneState)
    → slice_get m.publishers who ≡ Some lane → IsWithin m → IsFresh m → IsFresh (named_of m who node publisher fails last (Some lane))
    → IsTakenIn m (found.Sender who node publisher fails last) (named_of m who node publisher fails last (Some lane))
sender_taken m who node publisher fails last lane stands w h h' =
    taken_in m f m.table.words m.links (set m.publishers who now') (λ d. refl) (λ other place. refl) h h'
    (λ d. link_same (slice_get m.links d))
    (λ d link e. sym (append-nil (given_back m.table d)))
    (λ s word value e. absurd (cc e))
    (λ s word there not. refl)
    (others_grow m f who lane now' (λ d. refl) stands grows
    (λ other e. (
      refl,
      λ at. refl,
      refl,
      record {
        slots = refl;
        loans = refl;
        node = ap (λ (b : Bool). number_if b node) e;
        publisher
            = ap (λ (b : Bool). number_if b publisher) e;
        fails = λ x. ap (λ (b : Bool). if b then fails else x) e;
        last = λ x. ap (λ (b : Bool). if b then last else x) e;
      },
    )))
    (length-set m.publishers who now')
  where
    f : Found
    f = found.Sender who node publisher fails last

    now' : PublisherLaneState
    now' = lane_named node publisher fails last lane

    port : IsPublisher m.table.sizes lane
    port = all_at (IsPublisher m.table.sizes) m.publishers who lane stands w.publishers

    says : (s : ℕ) (before behind : List ℕ) → slice_get lane.heads s ≡ Some before → slice_get now'.heads s ≡ Some behind
        → HeadSays (new_node f who) (new_publisher f who) before behind
    says s before behind e e' =
        let wide : length before ≡ 3 + m.table.sizes.user_header_words
        = all_at (λ (head : List ℕ). length head ≡ 3 + m.table.sizes.user_header_words) lane.heads s before e port.widths in
        let is : with_origin node publisher before ≡ behind
        = some_is (with_origin node publisher before) behind
        (sym (mapped_there (with_origin node publisher) lane.heads s before e) ∙ e') in
        subst (HeadSays (new_node f who) (new_publisher f who) before) is
        (subst (λ (n : Option ℕ). HeadSays n (new_publisher f who) before (with_origin node publisher before))
        (sym (ap (λ (b : Bool). number_if b node) (itself who)))
        (subst (λ (p : Option ℕ). HeadSays (Some node) p before (with_origin node publisher before))
        (sym (ap (λ (b : Bool). number_if b publisher) (itself who)))
        (named_says node publisher before (omega (arith, wide)))))

    grows : PublisherGrows m f who lane now'
    grows = record {
      routes = routes_stay m f lane.port.routes (λ d. refl);
      history = sym (append-nil lane.port.book.history);
      referred = λ at s. omega arith;
      uses = λ s. omega arith;
      slots = refl;
      marks = refl;
      loans = λ s. refl;
      most = refl;
      heads = record { each = says; as_many = length-map lane.heads (with_origin node publisher) };
      fails = sym (ap (λ (b : Bool). if b then fails else lane.fails) (itself who));
      last = sym (ap (λ (b : Bool). if b then last else lane.last) (itself who));
      same = refl;
    }

-- what is taken in, of each kind
waits_taken : (m : World) (who place slot : ℕ) (at : Option PublisherLaneState) → slice_get m.publishers who ≡ at
    → waits_of m place slot at ≡ true → IsWithin m → IsFresh m → IsFresh (waiting_of m who place slot (slice_get m.publishers who))
    → IsTakenIn m (found.Waiting who place slot) (waiting_of m who place slot (slice_get m.publishers who))
waits_taken m who place slot None e fit w h h' = absurd (cc fit)
waits_taken m who place slot (Some lane) e fit w h h' =
    let is = may_wait_is m place slot lane fit in
    subst (IsTakenIn m (found.Waiting who place slot)) (waiting_is m who place slot lane is e)
    (waiting_taken m who place slot lane is e w h (subst IsFresh (sym (waiting_is m who place slot lane is e)) h'))

backs_taken : (m : World) (who place slot : ℕ) (at : Option PublisherLaneState) → slice_get m.publishers who ≡ at
    → back_of m place slot at ≡ true → IsWithin m → IsFresh m → IsFresh (given_of m who place slot (slice_get m.publishers who))
    → IsTakenIn m (found.GivenBack who place slot) (given_of m who place slot (slice_get m.publishers who))
backs_taken m who place slot None e fit w h h' = absurd (cc fit)
backs_taken m who place slot (Some lane) e fit w h h' =
    let is = may_be_back_is m place slot lane fit in
    subst (IsTakenIn m (found.GivenBack who place slot)) (given_is m who place slot lane is e)
    (given_taken m who place slot lane is e w h (subst IsFresh (sym (given_is m who place slot lane is e)) h'))

lasts_taken : (m : World) (who slot : ℕ) (at : Option PublisherLaneState) → slice_get m.publishers who ≡ at → newest_of slot at ≡ true
    → IsFresh m → IsFresh (remembered_of m who slot (slice_get m.publishers who))
    → IsTakenIn m (found.Newest who slot) (remembered_of m who slot (slice_get m.publishers who))
lasts_taken m who slot None e fit h h' = absurd (cc fit)
lasts_taken m who slot (Some lane) e fit h h' =
    subst (IsTakenIn m (found.Newest who slot)) (sym (ap (remembered_of m who slot) e))
    (newest_taken m who slot lane fit e h (subst IsFresh (ap (remembered_of m who slot) e) h'))

sizes_taken : (m : World) (who slots most : ℕ) (at : Option PublisherLaneState) → slice_get m.publishers who ≡ at
    → resizes_of slots at ≡ true → IsWithin m → IsFresh m → IsFresh (resized_of m who slots most (slice_get m.publishers who))
    → IsTakenIn m (found.Slots who slots most) (resized_of m who slots most (slice_get m.publishers who))
sizes_taken m who slots most None e fit w h h' = absurd (cc fit)
sizes_taken m who slots most (Some lane) e fit w h h' =
    subst (IsTakenIn m (found.Slots who slots most)) (sym (ap (resized_of m who slots most) e))
    (slots_taken m who slots most lane (may_shrink_is m who slots lane fit e h) e w h
    (subst IsFresh (ap (resized_of m who slots most) e) h'))

names_taken : (m : World) (who node publisher : ℕ) (fails : Bool) (last : Option ℕ) (at : Option PublisherLaneState)
    → slice_get m.publishers who ≡ at → is_there at ≡ true → IsWithin m → IsFresh m → IsFresh
    (named_of m who node publisher fails last (slice_get m.publishers who))
    → IsTakenIn m (found.Sender who node publisher fails last) (named_of m who node publisher fails last (slice_get m.publishers who))
names_taken m who node publisher fails last None e fit w h h' = absurd (cc fit)
names_taken m who node publisher fails last (Some lane) e fit w h h' =
    subst (IsTakenIn m (found.Sender who node publisher fails last)) (sym (ap (named_of m who node publisher fails last) e))
    (sender_taken m who node publisher fails last lane e w h (subst IsFresh (ap (named_of m who node publisher fails last) e) h'))

now_taken : (m : World) (f : Found) → finds_now m f ≡ true → IsWithin m → IsFresh m → IsFresh (with_found m f)
    → IsTakenIn m f (with_found m f)
now_taken m (found.Waiting publisher place slot) fit w h h'
    = waits_taken m publisher place slot (slice_get m.publishers publisher) refl fit w h h'
now_taken m (found.GivenBack publisher place slot) fit w h h'
    = backs_taken m publisher place slot (slice_get m.publishers publisher) refl fit w h h'
now_taken m (found.Newest publisher slot) fit w h h' = lasts_taken m publisher slot (slice_get m.publishers publisher) refl fit h h'
now_taken m (found.Held slot word value) fit w h h' =
    held_taken m slot word value (word_there m.table.sizes slot word
    (and_left (nat_lt slot m.table.sizes.slots) (has_word m.table.sizes word) fit)
    (and_right (nat_lt slot m.table.sizes.slots) (has_word m.table.sizes word) fit)) w h h'
now_taken m (found.Buffer publisher place messages) fit w h h'
    = buffers_taken m publisher place messages (slice_get m.publishers publisher) refl fit w h h'
now_taken m (found.Slots publisher slots most_loans) fit w h h'
    = sizes_taken m publisher slots most_loans (slice_get m.publishers publisher) refl fit w h h'
now_taken m (found.Sender publisher node_id publisher_id fails last) fit w h h'
    = names_taken m publisher node_id publisher_id fails last (slice_get m.publishers publisher) refl fit w h h'
now_taken m (found.Swapped subscriber one other) fit w h h'
    = swaps_taken m subscriber one other (slice_get m.subscribers subscriber) refl fit

-- what the tests of a finding say: where it may be found
stands_is : (m : World) (who place slot : ℕ) (lane : PublisherLaneState) (is : MayBeBack m place slot lane)
    → slice_get m.publishers who ≡ Some lane → IsFresh m → MayStand m who place slot
stands_is m who place slot lane is found h =
    let own = h.publishers who lane found in
    let fits = lacks_is (length lane.port.routes) place slot lane.port.book is.lacks
    (slice_get_within lane.port.routes place is.route is.at) (own.unlent slot) in
    let has = own.has place is.route is.link is.at is.found slot in
    record {
      lane = lane;
      publisher = found;
      route = is.route;
      at = is.at;
      link = is.link;
      connection = is.found;
      own = fits.own;
      lacks = omega (arith, has, ap one_if fits.lacks);
      room = omega (
        arith,
        is.few,
        back_count m is.route.connection is.link is.found h,
        ap (λ (xs : List ℕ). length xs)
            (returned_is m is.route.connection is.link is.found h),
      );
    }

message_is : (m : World) (who place slot : ℕ) (lane : PublisherLaneState) (is : MayWait m place slot lane)
    → slice_get m.publishers who ≡ Some lane → IsFresh m → MayBeMessage m who place slot
unfolding stands_is
message_is m who place slot lane is found h = record {
  stands = stands_is m who place slot lane
      (record { route = is.route; at = is.at; lacks = is.lacks; link = is.link; found = is.found; few = is.few }) found h;
  fewer = is.room;
}

waits_may : (m : World) (who place slot : ℕ) (at : Option PublisherLaneState) → slice_get m.publishers who ≡ at
    → waits_of m place slot at ≡ true → IsFresh m → MayBeMessage m who place slot
waits_may m who place slot None e fit h = absurd (cc fit)
waits_may m who place slot (Some lane) e fit h = message_is m who place slot lane (may_wait_is m place slot lane fit) e h

backs_may : (m : World) (who place slot : ℕ) (at : Option PublisherLaneState) → slice_get m.publishers who ≡ at
    → back_of m place slot at ≡ true → IsFresh m → MayStand m who place slot
backs_may m who place slot None e fit h = absurd (cc fit)
backs_may m who place slot (Some lane) e fit h = stands_is m who place slot lane (may_be_back_is m place slot lane fit) e h

lasts_may : (m : World) (who slot : ℕ) (at : Option PublisherLaneState) → slice_get m.publishers who ≡ at → newest_of slot at ≡ true
    → MayBeNewest m who slot
lasts_may m who slot None e fit = absurd (cc fit)
lasts_may m who slot (Some lane) e fit =
    let is = newest_is slot lane.port.book fit in
    record { lane = lane; publisher = e; own = is.own; lacks = is.none; room = is.room }

sizes_may : (m : World) (who slots : ℕ) (at : Option PublisherLaneState) → slice_get m.publishers who ≡ at → resizes_of slots at ≡ true
    → IsFresh m → MayHaveSlots m who slots
sizes_may m who slots None e fit h = absurd (cc fit)
sizes_may m who slots (Some lane) e fit h =
    let is = may_shrink_is m who slots lane fit e h in
    record {
      lane = lane;
      publisher = e;
      fits = is.fits;
      no_history = is.none.history;
      empty = λ place route link at there.
          let has = (h.publishers who lane e).has place route link at there in
          let never : (x : ℕ) → one_if (refers_to lane.port.book place x) ≡ 0
          = λ x. ap one_if (never_refers lane.port.book place x is.none) in (
            uncounted link.found (λ x. omega (arith, has x, never x)),
            uncounted (given_back m.table route.connection)
                (λ x. omega (arith, has x, never x)),
          );
    }

names_may : (m : World) (who : ℕ) (at : Option PublisherLaneState) → slice_get m.publishers who ≡ at → is_there at ≡ true
    → (lane : PublisherLaneState) × (slice_get m.publishers who ≡ Some lane)
names_may m who None e fit = absurd (cc fit)
names_may m who (Some lane) e fit = (lane, e)

may_now : (m : World) (f : Found) → finds_now m f ≡ true → IsFresh m → MayBeFound m f
may_now m (found.Waiting publisher place slot) fit h = waits_may m publisher place slot (slice_get m.publishers publisher) refl fit h
may_now m (found.GivenBack publisher place slot) fit h = backs_may m publisher place slot (slice_get m.publishers publisher) refl fit h
may_now m (found.Newest publisher slot) fit h = lasts_may m publisher slot (slice_get m.publishers publisher) refl fit
may_now m (found.Held slot word value) fit h =
    word_there m.table.sizes slot word (and_left (nat_lt slot m.table.sizes.slots) (has_word m.table.sizes word) fit)
    (and_right (nat_lt slot m.table.sizes.slots) (has_word m.table.sizes word) fit)
may_now m (found.Buffer publisher place messages) fit h
    = buffers_may m publisher place messages (slice_get m.publishers publisher) refl fit h
may_now m (found.Slots publisher slots most_loans) fit h = sizes_may m publisher slots (slice_get m.publishers publisher) refl fit h
may_now m (found.Sender publisher node_id publisher_id fails last) fit h = names_may m publisher (slice_get m.publishers publisher) refl fit
may_now m (found.Swapped subscriber one other) fit h = swaps_may m subscriber one other (slice_get m.subscribers subscriber) refl fit

pub may_first : (m : World) (f : Found) → finds m f ≡ true → IsKept m → IsFirst m f
may_first m f fit k = let now = finds_first m f fit in record { first = now.0; may = may_now m f now.1 (k.fresh now.0) }

-- and where it may be found, they say so
none_is : (b : Bool) → one_if b ≡ 0 → b ≡ false
none_is true e = absurd (omega (arith, e))
none_is false e = refl

own_says : (slot : ℕ) (book : BookState) → IsOwn book slot → is_own slot book ≡ true
own_says slot book is =
    choose_other (nat_lt slot book.first) false (nat_lt (slot - book.first) (length book.uses)) (le-ltb slot book.first is.above)
    ∙ lt-ltb (slot - book.first) (length book.uses) (omega (arith, is.above, is.below))

none_stands : (slot : ℕ) (xs : List ℕ) → count slot xs ≡ 0 → stands_in slot xs ≡ false
none_stands slot [] h = refl
none_stands slot (x ∷ xs) h =
    choose_other (x == slot) true (stands_in slot xs) (none_is (x == slot) (omega (arith, h))) ∙ none_stands slot xs (omega (arith, h))

stands_says : (m : World) (who place slot : ℕ) (is : MayStand m who place slot) → IsFresh m
    → (may_have place slot is.lane.port.book ≡ true) × (takes_more m is.route.connection is.link ≡ true)
stands_says m who place slot is h =
    let book : BookState = is.lane.port.book in
    let has = (h.publishers who is.lane is.publisher).has place is.route is.link is.at is.connection slot in
    let lacks : refers_to book place slot ≡ false = none_is (refers_to book place slot) (omega (arith, has, is.lacks)) in (
      both (is_own slot book) (not (get_or book.referred (place * length book.uses + (slot - book.first)) false))
          (own_says slot book is.own)
          (ap not (sym (refers_is book.first (length book.uses) book.referred place slot is.own.above is.own.below) ∙ lacks)),
      lt-ltb (length is.link.found) (m.table.sizes.completion_cells - back_found m.table is.route.connection)
          (omega (
            arith,
            is.room,
            back_count m is.route.connection is.link is.connection h,
            ap (λ (xs : List ℕ). length xs)
                (returned_is m is.route.connection is.link is.connection h),
          )),
    )

waits_say : (m : World) (who place slot : ℕ) → MayBeMessage m who place slot → IsFresh m
    → waits_of m place slot (slice_get m.publishers who) ≡ true
waits_say m who place slot is h =
    let s = is.stands in
    let says = stands_says m who place slot s h in
    ap (waits_of m place slot) s.publisher
    ∙ ap (waits_at m place slot s.lane) s.at
    ∙ both (may_have place slot s.lane.port.book) (may_wait m s.route.connection (slice_get m.links s.route.connection)) says.0
    (ap (may_wait m s.route.connection) s.connection ∙ both (nat_lt (length s.link.found) s.link.limit)
    (takes_more m s.route.connection s.link) (lt-ltb (length s.link.found) s.link.limit is.fewer) says.1)

backs_say : (m : World) (who place slot : ℕ) → MayStand m who place slot → IsFresh m
    → back_of m place slot (slice_get m.publishers who) ≡ true
backs_say m who place slot s h =
    let says = stands_says m who place slot s h in
    ap (back_of m place slot) s.publisher
    ∙ ap (back_at m place slot s.lane) s.at
    ∙ both (may_have place slot s.lane.port.book) (may_be_back m s.route.connection (slice_get m.links s.route.connection)) says.0
    (ap (may_be_back m s.route.connection) s.connection ∙ says.1)

lasts_say : (m : World) (who slot : ℕ) → MayBeNewest m who slot → newest_of slot (slice_get m.publishers who) ≡ true
lasts_say m who slot is =
    let book : BookState = is.lane.port.book in
    ap (newest_of slot) is.publisher
    ∙ both (is_own slot book && not (stands_in slot book.history)) (nat_lt (length book.history) book.kept)
    (both (is_own slot book) (not (stands_in slot book.history)) (own_says slot book is.own)
    (ap not (none_stands slot book.history is.lacks)))
    (lt-ltb (length book.history) book.kept is.room)

word_says : (sizes : TableSizes) (slot : ℕ) (word : SlotWord) → IsWord sizes (Slot slot word) → has_word sizes word ≡ true
word_says sizes slot (Header word) is = lt-ltb word 3 is.1
word_says sizes slot (UserHeader word) is = lt-ltb word sizes.user_header_words is.1
word_says sizes slot (Payload word) is = lt-ltb word sizes.payload_words is.1

there_is : {X : Type 0} (xs : List X) (i : ℕ) → i < length xs → (x : X) × (slice_get xs i ≡ Some x)
there_is [] i below = absurd (omega (arith, below))
there_is (x ∷ xs) zero below = (x, refl)
there_is (x ∷ xs) (suc i) below = there_is xs i (omega (arith, below))

sizes_say : (m : World) (who slots : ℕ) → MayHaveSlots m who slots → IsWithin m → IsFresh m
    → resizes_of slots (slice_get m.publishers who) ≡ true
sizes_say m who slots is w h =
    let lane : PublisherLaneState = is.lane in
    let book : BookState = lane.port.book in
    let own = h.publishers who lane is.publisher in
    ap (resizes_of slots) is.publisher
    ∙ both (nat_le slots (length book.uses)) (are_unused book.uses) (le-leb slots (length book.uses) is.fits)
    (all_unused (length lane.port.routes) book own.counted own.unlent is.no_history (λ place slot below.
    let route = there_is lane.port.routes place below in
    let link : IsLinkOf m.links sender who route.0
    = all_at (IsLinkOf m.links sender who) lane.port.routes place route.0 route.1 (w.senders who lane is.publisher) in
    let empty = is.empty place route.0 link.link route.1 link.found in
    none_is (refers_to book place slot)
    (omega (
      arith,
      own.has place route.0 link.link route.1 link.found slot,
      ap (λ (xs : List ℕ). count slot xs) empty.0,
      ap
          (λ (xs : List ℕ). count slot xs) empty.1,
    ))))

now_says : (m : World) (f : Found) → MayBeFound m f → IsWithin m → IsFresh m → finds_now m f ≡ true
now_says m (found.Waiting publisher place slot) is w h = waits_say m publisher place slot is h
now_says m (found.GivenBack publisher place slot) is w h = backs_say m publisher place slot is h
now_says m (found.Newest publisher slot) is w h = lasts_say m publisher slot is
now_says m (found.Held slot word value) is w h
    = both (nat_lt slot m.table.sizes.slots) (has_word m.table.sizes word) (lt-ltb slot m.table.sizes.slots is.0)
    (word_says m.table.sizes slot word is)
now_says m (found.Buffer publisher place messages) is w h = buffers_say m publisher place messages is h
now_says m (found.Slots publisher slots most_loans) is w h = sizes_say m publisher slots is w h
now_says m (found.Sender publisher node_id publisher_id fails last) is w h = ap is_there is.1
now_says m (found.Swapped subscriber one other) is w h = swaps_say m subscriber one other is

first_says : (m : World) (f : Found) → IsFirst m f → IsKept m → finds m f ≡ true
first_says m f is k = both (m.moments == 0) (finds_now m f) (ap (λ (n : ℕ). n == 0) is.first)
    (now_says m f is.may k.within (k.fresh is.first))

-- the law
pub takes_in : (m : World) (f : Found) (answer : Bool) (n : World) → FindsTo m f answer n → IsKept m → TakesIn m f answer n
takes_in m f true n is k =
    let now = finds_first m f is.0 in
    let h = k.fresh now.0 in
    (may_first m f is.0 k, subst (IsTakenIn m f) (sym is.1) (now_taken m f now.1 k.within h (found_both m f now.1 k.within h).1))
takes_in m f false n is k = (λ first. absurd (cc (sym (first_says m f first k) ∙ is.0)), is.1)
