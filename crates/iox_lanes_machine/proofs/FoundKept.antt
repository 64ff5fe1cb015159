-- What is found keeps all that lanes keep.
use Rattle.std.proofs.Common.{ℕ, ◌≡◌, ◌+◌, ◌<◌, ◌^◌, false, List, [], ◌∷◌, ◌++◌, length, set, slice_get}
use Rattle.std.proofs.Common.{slice_index, Some, refl, sym, ◌∙◌, ap, subst, inl, inr, arith, length-append}
use Rattle.std.proofs.lemmas.Bool.Decides.{eqb_tells}
use Rattle.std.proofs.lemmas.List.{length-set}
use Rattle.std.proofs.lemmas.Option.{slice_get_within}
use Rattle.iox_lanes_machine.specs.QueuesSteps.Access.{RingWords, successor}
use Rattle.iox_lanes_machine.specs.QueuesSteps.declared.access.Word.{Word}
use Rattle.iox_lanes_machine.specs.QueuesSteps.declared.access.Word.TheVariants.{Write, Cell}
use Rattle.iox_lanes_machine.specs.QueuesSteps.Ends.{cells_of}
use Rattle.iox_lanes_machine.specs.QueuesSteps.RingMachine.{first_words}
use Rattle.iox_lanes_machine.specs.QueuesSteps.declared.rings.ends.RingKind.TheVariants as kind
use Rattle.iox_lanes_machine.proofs.QueuesSteps.EitherRing.{start_refusing}
use Rattle.iox_lanes_machine.specs.QueuesSteps.declared.rings.refusing.pop.Pop.TheVariants as refusing_pop
use Rattle.iox_lanes_machine.specs.QueuesSteps.declared.rings.refusing.push.Push.TheVariants as refusing_push
use Rattle.iox_lanes_machine.specs.LanesBase.Numbers.{IsWord, words_of, number_of}
use Rattle.iox_lanes_machine.specs.LanesBase.Table.{TableWords, stored_in}
use Rattle.iox_lanes_machine.specs.LanesBase.declared.words.access.SharedAccess.TheVariants.{Store}
use Rattle.iox_lanes_machine.specs.LanesBase.declared.words.word.ConnectionRing.{ConnectionRing}
use Rattle.iox_lanes_machine.specs.LanesBase.declared.words.word.ConnectionRing.TheVariants.{Submission, Completion}
use Rattle.iox_lanes_machine.specs.LanesBase.declared.words.word.SharedWord.TheVariants.{Ring}
use Rattle.iox_lanes_machine.specs.LanesBase.declared.calls.route.Route.{Route}
use Rattle.iox_lanes_machine.specs.LanesParties.declared.publisher.slot_book.LoanMark.TheVariants as mark
use Rattle.iox_lanes_machine.specs.LanesParties.Parties.{PublisherLaneState, is_out, lane_found}
use Rattle.iox_lanes_machine.specs.LanesParties.Within.{IsPublisher}
use Rattle.iox_lanes_machine.proofs.LanesParties.Rings.{all_at}
use Rattle.iox_lanes_machine.specs.LedgerRooms.{CountsLoans}
use Rattle.iox_lanes_machine.specs.Stored.{between}
use Rattle.iox_lanes_machine.specs.LedgerUses.{one_if, count, entry, refers_to, UsesCounted, MayBeReferred}
use Rattle.iox_lanes_machine.proofs.Entries.{count_append}
use Rattle.iox_lanes_machine.proofs.LedgerFindings.{lacks_is, found_counted, found_counts, found_refers, found_refers_elsewhere}
use Rattle.iox_lanes_machine.proofs.Rings.{between_is}
use Rattle.iox_lanes_machine.specs.Findings.{laid, back_found, waiting_in}
use Rattle.iox_lanes_machine.specs.Findings.{given_at}
use Rattle.iox_lanes_machine.specs.Fresh.{HasFound, IsFreshPublisher, IsFreshLink, IsFresh}
use Rattle.iox_lanes_machine.specs.Kept.{IsLinkOf, sender, IsWithin}
use Rattle.iox_lanes_machine.specs.Links.{LinkState}
use Rattle.iox_lanes_machine.specs.Opening.{CellsNameSlots}
use Rattle.iox_lanes_machine.specs.Returns.{back_ring}
use Rattle.iox_lanes_machine.specs.Rings.{ring_in}
use Rattle.iox_lanes_machine.specs.Uses.{given_back}
use Rattle.iox_lanes_machine.specs.World.{World}
use Rattle.iox_lanes_machine.proofs.Ends.{some_is}
use Rattle.iox_lanes_machine.proofs.Fresh.{returned_is}
use Rattle.iox_lanes_machine.proofs.Findings.{MayWait, MayBeBack, cell_below}
use Rattle.iox_lanes_machine.proofs.FoundFresh.{set_cases, SameEnds, same_ends, found_ends, relinked_within, after, PublisherAfter}
use Rattle.iox_lanes_machine.proofs.FoundFresh.{fresh_after, link_stays, rows_after, laid_ring, laid_back}
use Rattle.iox_lanes_machine.proofs.InTable.{IsSeat, IsElsewhere, access_elsewhere}
use Rattle.iox_lanes_machine.proofs.Kept.{seat}
use Rattle.iox_lanes_machine.proofs.Opening.{after_access}
use Rattle.iox_lanes_machine.proofs.Within.{set_same, set_other, publisher_within}

-- the ring of samples given back at a connection has its words
pub back_seat : (m : World) (c : ℕ) (link : LinkState) → slice_get m.links c ≡ Some link → IsWithin m → IsFresh m
    → IsSeat Completion m.table c m.table.sizes.completion_cells
back_seat m c link found w h = record { there = (w.links c link found).connection_is; some = h.some; room = omega arith; words = w.words }

-- how many samples were found given back
pub back_count : (m : World) (c : ℕ) (link : LinkState) (found : slice_get m.links c ≡ Some link) (h : IsFresh m)
    → back_found m.table c ≡ length (h.links c link found).back
back_count m c link found h = ap (λ (words : RingWords). words.write) (h.links c link found).returned

-- two stores that lay a slot leave the ring of messages of another connection, and of this one if they lie in the other ring
sent_stays : (table : TableWords) (c other cells cell slot : ℕ) (ring : ConnectionRing) → IsSeat Submission table other cells
    → IsWord table.sizes (Ring c ring (Cell cell)) → ((word : Word) → IsElsewhere Submission other (Ring c ring word))
    → ring_in (laid table c ring cell slot) other cells ≡ ring_in table other cells
sent_stays table c other cells cell slot ring st is away =
    let t1 : TableWords = stored_in table (Ring c ring (Cell cell)) slot in
    let st1 : IsSeat Submission t1 other cells
    = record {
      there = st.there;
      some = st.some;
      room = st.room;
      words
          = length-set table.words (number_of table.sizes (Ring c ring (Cell cell))) slot ∙ st.words;
    } in
    access_elsewhere Submission t1 other cells (Store (Ring c ring Write) (successor cell)) st1 ((is.0, tt), away Write)
    ∙ access_elsewhere Submission table other cells (Store (Ring c ring (Cell cell)) slot) st (is, away (Cell cell))

pub back_away : (table : TableWords) (c other cells cell slot : ℕ) (ring : ConnectionRing) → IsSeat Completion table other cells
    → IsWord table.sizes (Ring c ring (Cell cell)) → ((word : Word) → IsElsewhere Completion other (Ring c ring word))
    → back_ring (laid table c ring cell slot) other cells ≡ back_ring table other cells
back_away table c other cells cell slot ring st is away =
    let t1 : TableWords = stored_in table (Ring c ring (Cell cell)) slot in
    let st1 : IsSeat Completion t1 other cells
    = record {
      there = st.there;
      some = st.some;
      room = st.room;
      words
          = length-set table.words (number_of table.sizes (Ring c ring (Cell cell))) slot ∙ st.words;
    } in
    access_elsewhere Completion t1 other cells (Store (Ring c ring Write) (successor cell)) st1 ((is.0, tt), away Write)
    ∙ access_elsewhere Completion table other cells (Store (Ring c ring (Cell cell)) slot) st (is, away (Cell cell))

-- they leave as many words, the first of them, and that each cell names a slot
laid_named : (table : TableWords) (c cell slot : ℕ) (ring : ConnectionRing) → length table.words ≡ words_of table.sizes
    → IsWord table.sizes (Ring c ring (Cell cell)) → slot < table.sizes.slots → CellsNameSlots table → slice_index table.words 0 ≡ 0
    → CellsNameSlots (laid table c ring cell slot) × (slice_index (laid table c ring cell slot).words 0 ≡ 0)
laid_named table c cell slot ring wide is below named spare =
    let t1 : TableWords = stored_in table (Ring c ring (Cell cell)) slot in
    let wide1 : length t1.words ≡ words_of t1.sizes
    = length-set table.words (number_of table.sizes (Ring c ring (Cell cell))) slot ∙ wide in
    let first = after_access table wide (Store (Ring c ring (Cell cell)) slot) is below named spare in
    after_access t1 wide1 (Store (Ring c ring Write) (successor cell)) (is.0, tt) tt first.0 first.1

laid_length : (table : TableWords) (c cell slot : ℕ) (ring : ConnectionRing)
    → length (laid table c ring cell slot).words ≡ length table.words
laid_length table c cell slot ring =
    length-set (stored_in table (Ring c ring (Cell cell)) slot).words (number_of table.sizes (Ring c ring Write)) (successor cell)
    ∙ length-set table.words (number_of table.sizes (Ring c ring (Cell cell))) slot

-- the slots of a publisher are slots of the service
own_below : (m : World) (who : ℕ) (lane : PublisherLaneState) (slot : ℕ) → slice_get m.publishers who ≡ Some lane → IsWithin m
    → IsFresh m → slot < lane.port.book.first + length lane.port.book.uses → slot < m.table.sizes.slots
own_below m who lane slot e w h below =
    let is : IsPublisher m.table.sizes lane = all_at (IsPublisher m.table.sizes) m.publishers who lane e w.publishers in
    omega (arith, below, is.slots, (h.publishers who lane e).counted.loans_each)

-- A connection is found to have one slot more: there, what stands counts it; elsewhere all stands as it stood. So it is by each
-- publisher's record.
pub record Stands (m n : World) (connection slot : ℕ) : Type 0 where
  pub here : (was now : LinkState) → slice_get m.links connection ≡ Some was → slice_get n.links connection ≡ Some now
      → (s : ℕ) → count s now.found + count s (given_back n.table connection)
      ≡ count s was.found + count s (given_back m.table connection) + count s (slot ∷ [])
  pub elsewhere : (c : ℕ) (now : LinkState) → (c ≡ connection → ⊥) → slice_get n.links c ≡ Some now
      → (slice_get m.links c ≡ Some now) × (given_back n.table c ≡ given_back m.table c)

has_after : (m n : World) (who place slot : ℕ) (lane : PublisherLaneState) (route : Route) (link : LinkState)
    → slice_get m.publishers who ≡ Some lane → slice_get lane.port.routes place ≡ Some route
    → slice_get m.links route.connection ≡ Some link
    → MayBeReferred (length lane.port.routes) lane.port.book place slot → Stands m n route.connection slot → IsWithin m → IsFresh m
    → (other : ℕ) (now : PublisherLaneState) → slice_get (set m.publishers who (lane_found place slot lane)) other ≡ Some now
    → HasFound n now
has_after m n who place slot lane route link found here there fits stands w h other now e
    = elim (set_cases m.publishers who lane (lane_found place slot lane) found other now e) [
      | inl own ↦ subst (HasFound n) own.1 mine
      | inr off ↦ others off.0 off.1
    ]
  where
    is : IsFreshPublisher m who lane
    is = h.publishers who lane found

    mine : HasFound n (lane_found place slot lane)
    mine at r l at_is l_is s = elim (eqb_tells r.connection route.connection) [
      | inl same ↦
          let place_is : at ≡ place = is.connections.once at place r route at_is here same.1 in
          let now_here : slice_get n.links route.connection ≡ Some l = ap (slice_get n.links) (sym same.1) ∙ l_is in
          let sum = stands.here link l there now_here s in
          let was = is.has place route link here there s in
          let more = found_refers (length lane.port.routes) place slot lane.port.book fits is.counted s in
          omega (
            arith,
            ap (λ (c : ℕ). count s (given_back n.table c)) same.1,
            sum,
            was,
            more,
            ap (λ (p : ℕ). one_if (refers_to (lane_found place slot lane).port.book p s)) place_is,
          )
      | inr differs ↦
          let place_not : (at ≡ place → ⊥) = λ p. differs.1
          (ap (λ (x : Route). x.connection) (some_is r route (sym at_is ∙ ap (slice_get lane.port.routes) p ∙ here))) in
          let same = stands.elsewhere r.connection l differs.1 l_is in
          ap (λ (xs : List ℕ). count s l.found + count s xs) same.1
          ∙ is.has at r l at_is same.0 s
          ∙ ap one_if (sym (found_refers_elsewhere (length lane.port.routes) place slot lane.port.book fits at s place_not))
    ]

    others : (other ≡ who → ⊥) → slice_get m.publishers other ≡ Some now → HasFound n now
    others not before at r l at_is l_is s =
        let yours : IsLinkOf m.links sender other r
        = all_at (IsLinkOf m.links sender other) now.port.routes at r at_is (w.senders other now before) in
        let ours : IsLinkOf m.links sender who route
        = all_at (IsLinkOf m.links sender who) lane.port.routes place route here (w.senders who lane found) in
        let differs : (r.connection ≡ route.connection → ⊥) = λ same. not (
        sym yours.own
        ∙ ap sender (some_is yours.link ours.link (sym yours.found ∙ ap (slice_get m.links) same ∙ ours.found))
        ∙ ours.own) in
        let same = stands.elsewhere r.connection l differs l_is in
        ap (λ (xs : List ℕ). count s l.found + count s xs) same.1 ∙ (h.publishers other now before).has at r l at_is same.0 s

-- what a publisher is after its record took one slot more at a connection
found_publisher : (m n : World) (who place slot : ℕ) (lane : PublisherLaneState) → slice_get m.publishers who ≡ Some lane
    → MayBeReferred (length lane.port.routes) lane.port.book place slot → IsFresh m
    → ((other : ℕ) (now : PublisherLaneState) → slice_get (set m.publishers who (lane_found place slot lane)) other ≡ Some now
    → HasFound n now)
    → (other : ℕ) (now : PublisherLaneState) → slice_get (set m.publishers who (lane_found place slot lane)) other ≡ Some now
    → PublisherAfter m n other now
found_publisher m n who place slot lane found fits h has other now e
    = elim (set_cases m.publishers who lane (lane_found place slot lane) found other now e) [
      | inl own ↦
          let is = h.publishers who lane found in
          record {
            was = lane;
            before = ap (slice_get m.publishers) own.0 ∙ found;
            call = ap (λ (l : PublisherLaneState). l.port.call) (sym own.1);
            routes = ap (λ (l : PublisherLaneState). l.port.routes) (sym own.1);
            counted = subst (λ (l : PublisherLaneState). UsesCounted (length l.port.routes) l.port.book) own.1
                (found_counted (length lane.port.routes) place slot lane.port.book fits is.counted);
            counts = subst (λ (l : PublisherLaneState). CountsLoans l.port.book) own.1
                (found_counts (length lane.port.routes) place slot lane.port.book fits is.counted is.counts);
            none_out = ap (λ (l : PublisherLaneState). l.port.book.out) (sym own.1) ∙ is.none_out;
            unlent = subst (λ (l : PublisherLaneState). (s : ℕ) → is_out (entry l.port.book.first l.port.book.loans s mark.No) ≡ false)
                own.1 is.unlent;
            has = has other now e;
          }
      | inr off ↦
          let is = h.publishers other now off.1 in
          record {
            was = now;
            before = off.1;
            call = refl;
            routes = refl;
            counted = is.counted;
            counts = is.counts;
            none_out
                = is.none_out;
            unlent = is.unlent;
            has = has other now e;
          }
    ]

-- a message more waits
pub waiting_fresh : (m : World) (who place slot : ℕ) (lane : PublisherLaneState) (is : MayWait m place slot lane)
    → slice_get m.publishers who ≡ Some lane → IsWithin m → IsFresh m
    → IsWithin (waiting_in m who place slot lane is.route.connection (Some is.link))
    × IsFresh (waiting_in m who place slot lane is.route.connection (Some is.link))
waiting_fresh m who place slot lane is found w h = (within, fresh)
  where
    c : ℕ
    c = is.route.connection

    n : ℕ
    n = length is.link.found

    link' : LinkState
    link' = record is.link { found = is.link.found ++ slot ∷ [] }

    links' : List LinkState
    links' = set m.links c link'

    ends : SameEnds m.links links'
    ends = found_ends m.links c is.link (is.link.found ++ slot ∷ []) is.found

    own : IsFreshPublisher m who lane
    own = h.publishers who lane found

    link_is : IsFreshLink m c is.link
    link_is = h.links c is.link is.found

    fits : MayBeReferred (length lane.port.routes) lane.port.book place slot
    fits = lacks_is (length lane.port.routes) place slot lane.port.book is.lacks
        (slice_get_within lane.port.routes place is.route is.at) (own.unlent slot)

    table' : TableWords
    table' = laid m.table c Submission n slot

    room : n < cells_of is.link.kind is.link.limit
    room = cell_below is.link.kind is.link.limit n is.room

    cell : IsWord m.table.sizes (Ring c Submission (Cell n))
    cell = ((w.links c is.link is.found).connection_is, omega (arith, room, (w.links c is.link is.found).cells))

    small : n < 2 ^ 63
    small = omega (arith, is.room, link_is.small)

    publishers' : List PublisherLaneState
    publishers' = set m.publishers who (lane_found place slot lane)

    world : World
    world = after m table'.words links' publishers'

    backs : (d : ℕ) (link : LinkState) → slice_get m.links d ≡ Some link
        → back_ring table' d m.table.sizes.completion_cells ≡ back_ring m.table d m.table.sizes.completion_cells
    backs d link e = back_away m.table c d m.table.sizes.completion_cells n slot Submission (back_seat m d link e w h) cell (λ word. tt)

    given : (d : ℕ) (link : LinkState) → slice_get m.links d ≡ Some link → given_back table' d ≡ given_back m.table d
    given d link e = ap between (backs d link e)

    stands : Stands m world c slot
    stands = record {
      here = λ was now was_is now_is s.
          let before : is.link ≡ was = some_is is.link was (sym is.found ∙ was_is) in
          let behind : link' ≡ now = some_is link' now (sym (set_same m.links c link' is.link is.found) ∙ now_is) in
          omega (
            arith,
            ap (λ (l : LinkState). count s l.found) before,
            ap (λ (l : LinkState). count s l.found) behind,
            count_append s is.link.found (slot ∷ []),
            ap (count s) (given c is.link is.found),
          );
      elsewhere = λ d now not now_is.
          let before : slice_get m.links d ≡ Some now = sym (set_other m.links c d link' not) ∙ now_is in
          (before, given d now before);
    }

    named : CellsNameSlots table' × (slice_index table'.words 0 ≡ 0)
    named = laid_named m.table c n slot Submission w.words cell (own_below m who lane slot found w h fits.own.below) h.named h.spare

    each : (d : ℕ) (link : LinkState) → slice_get links' d ≡ Some link → IsFreshLink world d link
    each d link e = elim (set_cases m.links c is.link link' is.found d link e) [
      | inl here ↦ subst (IsFreshLink world d) here.1 (subst (λ (x : ℕ). IsFreshLink world x link') (sym here.0) mine)
      | inr off ↦ link_stays m table'.words links' publishers' d link (length-set m.publishers who (lane_found place slot lane))
          (sent_stays m.table c d (cells_of link.kind link.limit) n slot Submission (seat m d link off.1 w) cell
          (λ word same. off.0 (sym same)))
          (backs d link off.1) (h.links d link off.1)
    ]
      where
        mine : IsFreshLink world c link'
        mine =
            let size : length (is.link.found ++ slot ∷ []) ≡ n + 1 = length-append is.link.found (slot ∷ []) in
            record {
              some = link_is.some;
              small = link_is.small;
              room = omega (arith, size, is.room);
              ring = laid_ring m.table c is.link.kind is.link.limit is.link.found slot (seat m c is.link is.found w) room small
                  link_is.ring;
              back = link_is.back;
              returned = backs c is.link is.found ∙ link_is.returned;
              few = omega (arith, size, is.few, back_count m c is.link is.found h);
              sender = omega (arith, link_is.sender, length-set m.publishers who (lane_found place slot lane));
              cells = link_is.cells;
            }

    fresh : IsFresh world
    fresh = fresh_after m table'.words links' publishers' ends named.1 named.0 each
        (found_publisher m world who place slot lane found fits h
        (has_after m world who place slot lane is.route is.link found is.at is.found fits stands w h))
        (rows_after m table'.words links' who lane (lane_found place slot lane) found refl refl h.rows) h

    within : IsWithin world
    within =
        let port : IsPublisher m.table.sizes lane = all_at (IsPublisher m.table.sizes) m.publishers who lane found w.publishers in
        let moved : IsPublisher m.table.sizes (lane_found place slot lane)
        = record {
          routes = port.routes;
          call = port.call;
          slots = port.slots;
          payload = port.payload;
          head = port.head;
          heads
              = port.heads;
          widths = port.widths;
        } in
        relinked_within (after m table'.words m.links publishers') links' ends
        (publisher_within m (after m table'.words m.links publishers') who lane (lane_found place slot lane) found moved refl refl refl
        refl refl refl (laid_length m.table c n slot Submission) w)

-- what was given back at a connection after one sample more
back_laid : (m : World) (c : ℕ) (link : LinkState) (slot : ℕ) (found : slice_get m.links c ≡ Some link) → IsWithin m → (h : IsFresh m)
    → back_found m.table c < m.table.sizes.completion_cells
    → back_ring (laid m.table c Completion (back_found m.table c) slot) c m.table.sizes.completion_cells
    ≡ first_words kind.Refusing m.table.sizes.completion_cells ((h.links c link found).back ++ slot ∷ [])
back_laid m c link slot found w h few =
    let cells : ℕ = m.table.sizes.completion_cells in
    let back : List ℕ = (h.links c link found).back in
    let count_is = back_count m c link found h in
    ap (λ (i : ℕ). back_ring (laid m.table c Completion i slot) c cells) count_is
    ∙ laid_back m.table c cells back slot (back_seat m c link found w h) (omega (arith, few, count_is))
    (omega (arith, few, count_is, h.small)) (h.links c link found).returned

pub back_grows : (m : World) (c : ℕ) (link : LinkState) (slot : ℕ) (found : slice_get m.links c ≡ Some link) → IsWithin m
    → (h : IsFresh m) → back_found m.table c < m.table.sizes.completion_cells
    → given_back (laid m.table c Completion (back_found m.table c) slot) c ≡ given_back m.table c ++ slot ∷ []
back_grows m c link slot found w h few =
    let cells : ℕ = m.table.sizes.completion_cells in
    let back : List ℕ = (h.links c link found).back in
    let size : length (back ++ slot ∷ []) ≡ length back + 1 = length-append back (slot ∷ []) in
    ap between (back_laid m c link slot found w h few)
    ∙ between_is cells (first_words kind.Refusing cells (back ++ slot ∷ [])) (back ++ slot ∷ []) refusing_push.Idle refusing_pop.Idle
    (start_refusing cells (back ++ slot ∷ []) h.small (omega (arith, size, few, back_count m c link found h)))
    ∙ ap (λ (xs : List ℕ). xs ++ slot ∷ []) (sym (returned_is m c link found h))

-- a sample more was given back
pub given_fresh : (m : World) (who place slot : ℕ) (lane : PublisherLaneState) (is : MayBeBack m place slot lane)
    → slice_get m.publishers who ≡ Some lane → IsWithin m → IsFresh m
    → IsWithin (given_at m who place slot lane (Some is.route)) × IsFresh (given_at m who place slot lane (Some is.route))
given_fresh m who place slot lane is found w h = (within, fresh)
  where
    c : ℕ
    c = is.route.connection

    own : IsFreshPublisher m who lane
    own = h.publishers who lane found

    link_is : IsFreshLink m c is.link
    link_is = h.links c is.link is.found

    cells : ℕ
    cells = m.table.sizes.completion_cells

    back : List ℕ
    back = (h.links c is.link is.found).back

    count_is : back_found m.table c ≡ length back
    count_is = back_count m c is.link is.found h

    fits : MayBeReferred (length lane.port.routes) lane.port.book place slot
    fits = lacks_is (length lane.port.routes) place slot lane.port.book is.lacks
        (slice_get_within lane.port.routes place is.route is.at) (own.unlent slot)

    table' : TableWords
    table' = laid m.table c Completion (back_found m.table c) slot

    cell : IsWord m.table.sizes (Ring c Completion (Cell (back_found m.table c)))
    cell = ((w.links c is.link is.found).connection_is, omega (arith, is.few))

    publishers' : List PublisherLaneState
    publishers' = set m.publishers who (lane_found place slot lane)

    world : World
    world = after m table'.words m.links publishers'

    returned : back_ring table' c cells ≡ first_words kind.Refusing cells (back ++ slot ∷ [])
    returned = back_laid m c is.link slot is.found w h (omega (arith, is.few))

    backs : (d : ℕ) (link : LinkState) → slice_get m.links d ≡ Some link → (d ≡ c → ⊥)
        → back_ring table' d cells ≡ back_ring m.table d cells
    backs d link e not = back_away m.table c d cells (back_found m.table c) slot Completion (back_seat m d link e w h) cell
        (λ word same. not (sym same))

    given : given_back table' c ≡ given_back m.table c ++ slot ∷ []
    given = back_grows m c is.link slot is.found w h (omega (arith, is.few))

    stands : Stands m world c slot
    stands = record {
      here = λ was now was_is now_is s.
          omega (
            arith,
            ap (λ (l : LinkState). count s l.found) (some_is was now (sym was_is ∙ now_is)),
            ap (count s) given,
            count_append s (given_back m.table c) (slot ∷ []),
          );
      elsewhere = λ d now not now_is. (now_is, ap between (backs d now now_is not));
    }

    named : CellsNameSlots table' × (slice_index table'.words 0 ≡ 0)
    named = laid_named m.table c (back_found m.table c) slot Completion w.words cell
        (own_below m who lane slot found w h fits.own.below) h.named h.spare

    rings : (d : ℕ) (link : LinkState) → slice_get m.links d ≡ Some link
        → ring_in table' d (cells_of link.kind link.limit) ≡ ring_in m.table d (cells_of link.kind link.limit)
    rings d link e = sent_stays m.table c d (cells_of link.kind link.limit) (back_found m.table c) slot Completion (seat m d link e w)
        cell (λ word. tt)

    each : (d : ℕ) (link : LinkState) → slice_get m.links d ≡ Some link → IsFreshLink world d link
    each d link e = elim (eqb_tells d c) [
      | inl here ↦
          let same : is.link ≡ link = some_is is.link link (sym is.found ∙ ap (slice_get m.links) (sym here.1) ∙ e) in
          subst (IsFreshLink world d) same (subst (λ (x : ℕ). IsFreshLink world x is.link) (sym here.1) mine)
      | inr off ↦ link_stays m table'.words m.links publishers' d link (length-set m.publishers who (lane_found place slot lane))
          (rings d link e) (backs d link e off.1) (h.links d link e)
    ]
      where
        mine : IsFreshLink world c is.link
        mine =
            let size : length (back ++ slot ∷ []) ≡ length back + 1 = length-append back (slot ∷ []) in
            record {
              some = link_is.some;
              small = link_is.small;
              room = link_is.room;
              ring = rings c is.link is.found ∙ link_is.ring;
              back = back ++ slot ∷ [];
              returned = returned;
              few = omega (arith, size, is.few, count_is);
              sender = omega (arith, link_is.sender, length-set m.publishers who (lane_found place slot lane));
              cells = link_is.cells;
            }

    fresh : IsFresh world
    fresh = fresh_after m table'.words m.links publishers' (same_ends m.links) named.1 named.0 each
        (found_publisher m world who place slot lane found fits h
        (has_after m world who place slot lane is.route is.link found is.at is.found fits stands w h))
        (rows_after m table'.words m.links who lane (lane_found place slot lane) found refl refl h.rows) h

    within : IsWithin world
    within =
        let port : IsPublisher m.table.sizes lane = all_at (IsPublisher m.table.sizes) m.publishers who lane found w.publishers in
        let moved : IsPublisher m.table.sizes (lane_found place slot lane)
        = record {
          routes = port.routes;
          call = port.call;
          slots = port.slots;
          payload = port.payload;
          head = port.head;
          heads
              = port.heads;
          widths = port.widths;
        } in
        publisher_within m world who lane (lane_found place slot lane) found moved refl refl refl refl refl refl
        (laid_length m.table c (back_found m.table c) slot Completion) w
