-- What is found leaves lanes as they are before their first step.
use Rattle.std.proofs.Common.{ℕ, suc, ◌≡◌, ◌+◌, ◌-◌, ◌%◌, ◌<◌, ◌≤◌, ◌^◌, ◌⊎◌, false, List, [], ◌∷◌, ◌++◌, length, set, replicate}
use Rattle.std.proofs.Common.{slice_get, slice_index, Some, refl, sym, ◌∙◌, ap, subst, inl, inr, arith, append_assoc, length-append}
use Rattle.std.proofs.Common.{mod-eq_of_lt}
use Rattle.std.proofs.lemmas.Bool.Decides.{eqb_tells}
use Rattle.std.proofs.lemmas.List.{length-set, length-replicate}
use Rattle.std.proofs.lemmas.List.Elements.{All-weaker}
use Rattle.std.proofs.Math.Seq.{set-append_seam}
use Rattle.iox_lanes_machine.specs.QueuesSteps.Access.{RingWords, successor, after_store}
use Rattle.iox_lanes_machine.specs.QueuesSteps.declared.access.Word.TheVariants.{Write, Cell}
use Rattle.iox_lanes_machine.specs.QueuesSteps.declared.access.Access.TheVariants as own
use Rattle.iox_lanes_machine.specs.QueuesSteps.Ends.{cells_of}
use Rattle.iox_lanes_machine.specs.QueuesSteps.RingMachine.{first_words}
use Rattle.iox_lanes_machine.specs.QueuesSteps.declared.rings.ends.RingKind.{RingKind}
use Rattle.iox_lanes_machine.specs.QueuesSteps.declared.rings.ends.RingKind.TheVariants as kind
use Rattle.iox_lanes_machine.specs.LanesBase.Numbers.{number_of}
use Rattle.iox_lanes_machine.specs.LanesBase.Table.{TableWords, stored_in}
use Rattle.iox_lanes_machine.specs.LanesBase.declared.words.word.ConnectionRing.TheVariants.{Submission, Completion}
use Rattle.iox_lanes_machine.specs.LanesBase.declared.words.word.SharedWord.TheVariants.{Ring}
use Rattle.iox_lanes_machine.specs.LanesBase.declared.calls.route.Route.{Route}
use Rattle.iox_lanes_machine.specs.LanesParties.declared.publisher.slot_book.LoanMark.{LoanMark}
use Rattle.iox_lanes_machine.specs.LanesParties.declared.publisher.slot_book.LoanMark.TheVariants as mark
use Rattle.iox_lanes_machine.specs.LanesParties.Parties.{PublisherLaneState, is_out}
use Rattle.iox_lanes_machine.specs.LedgerRooms.{CountsLoans}
use Rattle.iox_lanes_machine.specs.LedgerUses.{entry, UsesCounted}
use Rattle.iox_lanes_machine.specs.Findings.{laid}
use Rattle.iox_lanes_machine.specs.Fresh.{HasFound, IsFreshLink, IsFresh}
use Rattle.iox_lanes_machine.specs.Kept.{IsLinkOf, sender, receiver, IsWithin}
use Rattle.iox_lanes_machine.specs.Links.{LinkState}
use Rattle.iox_lanes_machine.specs.Opening.{CellsNameSlots}
use Rattle.iox_lanes_machine.specs.Returns.{back_ring, GoesRound}
use Rattle.iox_lanes_machine.specs.Rings.{ring_in}
use Rattle.iox_lanes_machine.specs.Rooms.{HasReceived}
use Rattle.iox_lanes_machine.specs.Sends.{HasConnections}
use Rattle.iox_lanes_machine.specs.Slots.{SlotsInRows}
use Rattle.iox_lanes_machine.specs.World.{World}
use Rattle.iox_lanes_machine.proofs.Ends.{some_is}
use Rattle.iox_lanes_machine.proofs.Findings.{cell_below}
use Rattle.iox_lanes_machine.proofs.InTable.{IsSeat, access_after, same_ring}
use Rattle.iox_lanes_machine.proofs.Within.{set_same, set_other}

-- a place of a list after one was set: that one, or another as it was
pub set_cases : {X : Type 0} (xs : List X) (place : ℕ) (x y : X) → slice_get xs place ≡ Some x → (i : ℕ) (z : X)
    → slice_get (set xs place y) i ≡ Some z
    → ((i ≡ place) × (y ≡ z)) ⊎ ((i ≡ place → ⊥) × (slice_get xs i ≡ Some z))
set_cases xs place x y found i z e = elim (eqb_tells i place) [
  | inl here ↦ inl (here.1, some_is y z (sym (set_same xs place y x found) ∙ ap (slice_get (set xs place y)) (sym here.1) ∙ e))
  | inr there ↦ inr (there.1, sym (set_other xs place i y there.1) ∙ e)
]

-- the ends of two links, and what their rings are, are the same
pub record SameEnd (one other : LinkState) : Type 0 where
  pub publisher : other.publisher ≡ one.publisher
  pub subscriber : other.subscriber ≡ one.subscriber
  pub kind : other.kind ≡ one.kind
  pub limit : other.limit ≡ one.limit

-- so it is of two lists of links
pub record SameEnds (links after : List LinkState) : Type 0 where
  pub size : length after ≡ length links
  pub back : (c : ℕ) (link : LinkState) → slice_get after c ≡ Some link → (was : LinkState) × (slice_get links c ≡ Some was)
      × SameEnd was link
  pub there : (c : ℕ) (link : LinkState) → slice_get links c ≡ Some link → (now : LinkState) × (slice_get after c ≡ Some now)
      × SameEnd link now

pub same_ends : (links : List LinkState) → SameEnds links links
same_ends links = record {
  size = refl;
  back = λ c link e. (link, e, record { publisher = refl; subscriber = refl; kind = refl; limit = refl });
  there = λ c link e. (link, e, record { publisher = refl; subscriber = refl; kind = refl; limit = refl });
}

pub found_ends : (links : List LinkState) (connection : ℕ) (link : LinkState) (found : List ℕ) → slice_get links connection ≡ Some link
    → SameEnds links (set links connection (record link { found = found }))
found_ends links connection link found e = record {
  size = length-set links connection (record link { found = found });
  back = λ c after now. elim (set_cases links connection link (record link { found = found }) e c after now) [
    | inl here ↦ (
      link,
      ap (slice_get links) here.0 ∙ e,
      record {
        publisher = ap (λ (l : LinkState). l.publisher) (sym here.1);
        subscriber = ap (λ (l : LinkState). l.subscriber) (sym here.1);
        kind = ap (λ (l : LinkState). l.kind) (sym here.1);
        limit = ap (λ (l : LinkState). l.limit) (sym here.1);
      },
    )
    | inr other ↦ (after, other.1, record { publisher = refl; subscriber = refl; kind = refl; limit = refl })
  ];
  there = λ c was before. elim (eqb_tells c connection) [
    | inl here ↦
        let same : link ≡ was = some_is link was (sym e ∙ ap (slice_get links) (sym here.1) ∙ before) in (
          record link { found = found },
          ap (slice_get (set links connection (record link { found = found }))) here.1 ∙ set_same links connection
              (record link { found = found }) link e,
          record {
            publisher = ap (λ (l : LinkState). l.publisher) same;
            subscriber = ap (λ (l : LinkState). l.subscriber) same;
            kind = ap (λ (l : LinkState). l.kind) same;
            limit = ap (λ (l : LinkState). l.limit) same;
          },
        )
    | inr other ↦ (
      was,
      set_other links connection c (record link { found = found }) other.1 ∙ before,
      record
          { publisher = refl; subscriber = refl; kind = refl; limit = refl },
    )
  ];
}

link_of_after : (links after : List LinkState) (port : LinkState → ℕ) (who : ℕ) (route : Route)
    → ((one other : LinkState) → SameEnd one other → port other ≡ port one) → SameEnds links after → IsLinkOf links port who route
    → IsLinkOf after port who route
link_of_after links after port who route same ends is =
    let now = ends.there route.connection is.link is.found in
    record {
      link = now.0;
      found = now.1;
      own = same is.link now.0 now.2 ∙ is.own;
      kind = is.kind ∙ sym (now.2).kind;
      limit = is.limit ∙ sym (now.2).limit;
      cells = is.cells ∙ ap (λ (k : RingKind). cells_of k is.link.limit) (sym (now.2).kind) ∙ ap (λ (n : ℕ). cells_of (now.0).kind n)
          (sym (now.2).limit);
    }

connections_after : (links after : List LinkState) (who : ℕ) (routes : List Route) → SameEnds links after
    → HasConnections links who routes → HasConnections after who routes
connections_after links after who routes ends h = record {
  each = λ connection link found own. let was
      = ends.back connection link found in h.each connection was.0 was.1 (sym (was.2).publisher ∙ own);
  once = h.once;
}

received_after : (links after : List LinkState) (who : ℕ) (routes : List Route) → SameEnds links after → HasReceived links who routes
    → HasReceived after who routes
received_after links after who routes ends h = record {
  each = λ connection link found own. let was
      = ends.back connection link found in h.each connection was.0 was.1 (sym (was.2).subscriber ∙ own);
  once = h.once;
}

-- links with the same ends keep lanes within their service
pub relinked_within : (m : World) (after : List LinkState) → SameEnds m.links after → IsWithin m → IsWithin (record m { links = after })
relinked_within m after ends w = record {
  publishers = w.publishers;
  subscribers = w.subscribers;
  senders = λ place lane e. All-weaker (IsLinkOf m.links sender place) (IsLinkOf after sender place)
      (λ route is. link_of_after m.links after sender place route (λ one other same. same.publisher) ends is) lane.port.routes
      (w.senders place lane e);
  receivers = λ place lane e. All-weaker (IsLinkOf m.links receiver place) (IsLinkOf after receiver place)
      (λ route is. link_of_after m.links after receiver place route (λ one other same. same.subscriber) ends is) lane.port.routes
      (w.receivers place lane e);
  links = λ connection link found.
      let was = ends.back connection link found in
      let is = w.links connection was.0 was.1 in
      record {
        connection_is = is.connection_is;
        cells
            = subst (λ (k : RingKind). cells_of k link.limit ≤ m.table.sizes.submission_cells) (sym (was.2).kind)
            (subst (λ (n : ℕ). cells_of (was.0).kind n ≤ m.table.sizes.submission_cells) (sym (was.2).limit) is.cells);
      };
  orders = w.orders ∙ sym ends.size;
  words = w.words;
}

-- the lanes with other words, links and publishers
abbrev pub after : World → List ℕ → List LinkState → List PublisherLaneState → World
after m words links publishers = record m { table = record m.table { words = words }; links = links; publishers = publishers }

-- what a finding leaves of a publisher
pub record PublisherAfter (m n : World) (who : ℕ) (lane : PublisherLaneState) : Type 0 where
  pub was : PublisherLaneState
  pub before : slice_get m.publishers who ≡ Some was
  pub call : lane.port.call ≡ was.port.call
  pub routes : lane.port.routes ≡ was.port.routes
  pub counted : UsesCounted (length lane.port.routes) lane.port.book
  pub counts : CountsLoans lane.port.book
  pub none_out : lane.port.book.out ≡ 0
  pub unlent : (slot : ℕ) → is_out (entry lane.port.book.first lane.port.book.loans slot mark.No) ≡ false
  pub has : HasFound n lane

-- lanes stay as they are before their first step, if the words, the links and the publishers do
pub fresh_after : (m : World) (words : List ℕ) (links : List LinkState) (publishers : List PublisherLaneState) → SameEnds m.links links
    → slice_index words 0 ≡ 0 → CellsNameSlots (record m.table { words = words })
    → ((c : ℕ) (link : LinkState) → slice_get links c ≡ Some link → IsFreshLink (after m words links publishers) c link)
    → ((who : ℕ) (lane : PublisherLaneState) → slice_get publishers who ≡ Some lane
    → PublisherAfter m (after m words links publishers) who lane)
    → SlotsInRows (after m words links publishers) → IsFresh m → IsFresh (after m words links publishers)
fresh_after m words links publishers ends spare named each lanes rows h = record {
  finished = h.finished;
  read = h.read;
  orders = h.orders;
  some = h.some;
  small = h.small;
  publishers = λ who lane e.
      let is = lanes who lane e in
      let was = h.publishers who is.was is.before in
      record {
        idle = is.call ∙ was.idle;
        connections = connections_after m.links links who lane.port.routes ends
            (subst (HasConnections m.links who) (sym is.routes) was.connections);
        round = subst (GoesRound m.table.sizes.completion_cells) (sym is.routes) was.round;
        counted = is.counted;
        counts = is.counts;
        none_out = is.none_out;
        unlent = is.unlent;
        has = is.has;
      };
  subscribers = λ who lane e.
      let was = h.subscribers who lane e in
      record {
        idle = was.idle;
        connections = received_after m.links links who lane.port.routes ends was.connections;
        round = was.round;
        all = was.all;
        none = was.none;
        borrowed = was.borrowed;
        words = was.words;
      };
  links = each;
  pairs = λ one other link behind found found' rows columns.
      let first = ends.back one link found in
      let second = ends.back other behind found' in
      h.pairs one other first.0 second.0 first.1 second.1 (sym (first.2).publisher ∙ rows ∙ (second.2).publisher)
      (sym (first.2).subscriber ∙ columns ∙ (second.2).subscriber);
  rows = rows;
  spare = spare;
  named = named;
}

-- a connection whose rings stay as they were
pub link_stays : (m : World) (words : List ℕ) (links : List LinkState) (publishers : List PublisherLaneState) (c : ℕ) (link : LinkState)
    → length publishers ≡ length m.publishers
    → ring_in (record m.table { words = words }) c (cells_of link.kind link.limit) ≡ ring_in m.table c (cells_of link.kind link.limit)
    → back_ring (record m.table { words = words }) c m.table.sizes.completion_cells ≡ back_ring m.table c m.table.sizes.completion_cells
    → IsFreshLink m c link → IsFreshLink (after m words links publishers) c link
link_stays m words links publishers c link size ring back k = record {
  some = k.some;
  small = k.small;
  room = k.room;
  ring = ring ∙ k.ring;
  back = k.back;
  returned = back ∙ k.returned;
  few = k.few;
  sender = omega (arith, k.sender, size);
  cells = k.cells;
}

-- the slots of publishers lie one after the other still, if one of them has no more slots than it had, from the same one on
pub rows_within : (m : World) (words : List ℕ) (links : List LinkState) (place : ℕ) (lane now : PublisherLaneState)
    → slice_get m.publishers place ≡ Some lane → now.port.book.first ≡ lane.port.book.first
    → length now.port.book.loans ≤ length lane.port.book.loans
    → SlotsInRows m → SlotsInRows (after m words links (set m.publishers place now))
rows_within m words links place lane now found first loans h = λ one other low high e f less.
    let a = was one low e in
    let b = was other high f in
    omega (arith, h one other a.0 b.0 a.1 b.1 less, a.2, a.3, b.2)
  where
    was : (who : ℕ) (z : PublisherLaneState) → slice_get (set m.publishers place now) who ≡ Some z
        → (before : PublisherLaneState) × (slice_get m.publishers who ≡ Some before) × (z.port.book.first ≡ before.port.book.first)
        × (length z.port.book.loans ≤ length before.port.book.loans)
    was who z e = elim (set_cases m.publishers place lane now found who z e) [
      | inl here ↦ (
        lane,
        ap (slice_get m.publishers) here.0 ∙ found,
        ap (λ (l : PublisherLaneState). l.port.book.first) (sym here.1) ∙ first,
        omega (arith, ap (λ (l : PublisherLaneState). length l.port.book.loans) here.1, loans),
      )
      | inr other ↦ (z, other.1, refl, omega arith)
    ]

-- so they do if its slots are those that it had
pub rows_after : (m : World) (words : List ℕ) (links : List LinkState) (place : ℕ) (lane now : PublisherLaneState)
    → slice_get m.publishers place ≡ Some lane → now.port.book.first ≡ lane.port.book.first → now.port.book.loans ≡ lane.port.book.loans
    → SlotsInRows m → SlotsInRows (after m words links (set m.publishers place now))
rows_after m words links place lane now found first loans h =
    rows_within m words links place lane now found first (omega (arith, ap (λ (xs : List LoanMark). length xs) loans)) h

-- a slot more lies in the first cell that was free
next_is : (n : ℕ) → n < 2 ^ 63 → successor n ≡ n + 1
next_is n h = omega arith

rest_is : (cells n : ℕ) → n < cells → replicate {A = ℕ} (cells - n) 0 ≡ 0 ∷ replicate (cells - (n + 1)) 0
rest_is cells n h = let more : cells - n ≡ suc (cells - (n + 1)) = omega (arith, h) in ap (λ (k : ℕ). replicate {A = ℕ} k 0) more

pub laid_words : (k : RingKind) (limit : ℕ) (q : List ℕ) (v : ℕ) → length q < cells_of k limit → length q < 2 ^ 63
    → after_store (after_store (first_words k limit q) (Cell (length q)) v) Write (successor (length q)) ≡ first_words k limit (q ++ v ∷ [])
laid_words k limit q v below small =
    let cells : ℕ = cells_of k limit in
    let whole : length (q ++ replicate {A = ℕ} (cells - length q) 0) ≡ cells
    = omega (arith, length-append q (replicate {A = ℕ} (cells - length q) 0), length-replicate {A = ℕ} (cells - length q) 0, below) in
    let at : length q % length (q ++ replicate {A = ℕ} (cells - length q) 0) ≡ length q = mod-eq_of_lt (omega (arith, whole, below)) in
    let size : length (q ++ v ∷ []) ≡ length q + 1 = length-append q (v ∷ []) in
    same_ring _ ((q ++ v ∷ []) ++ replicate (cells - length (q ++ v ∷ [])) 0) _ (length (q ++ v ∷ [])) 0 0
    (ap (λ (i : ℕ). set (q ++ replicate {A = ℕ} (cells - length q) 0) i v) at
    ∙ ap (λ (xs : List ℕ). set (q ++ xs) (length q) v) (rest_is cells (length q) below)
    ∙ set-append_seam q 0 (replicate {A = ℕ} (cells - (length q + 1)) 0) v
    ∙ sym (append_assoc q (v ∷ []) (replicate {A = ℕ} (cells - (length q + 1)) 0))
    ∙ ap (λ (n : ℕ). (q ++ v ∷ []) ++ replicate {A = ℕ} (cells - n) 0) (sym size))
    (next_is (length q) small ∙ sym size)
    refl

-- the ring of messages of a connection after a slot was laid into it
pub laid_ring : (table : TableWords) (c : ℕ) (k : RingKind) (limit : ℕ) (q : List ℕ) (v : ℕ)
    → IsSeat Submission table c (cells_of k limit) → length q < cells_of k limit → length q < 2 ^ 63
    → ring_in table c (cells_of k limit) ≡ first_words k limit q
    → ring_in (laid table c Submission (length q) v) c (cells_of k limit) ≡ first_words k limit (q ++ v ∷ [])
laid_ring table c k limit q v st below small is =
    let cells : ℕ = cells_of k limit in
    let at : length q % cells ≡ length q = mod-eq_of_lt below in
    let t1 : TableWords = stored_in table (Ring c Submission (Cell (length q))) v in
    let st1 : IsSeat Submission t1 c cells
    = record {
      there = st.there;
      some = st.some;
      room = st.room;
      words
          = length-set table.words (number_of table.sizes (Ring c Submission (Cell (length q)))) v ∙ st.words;
    } in
    let first : after_store (ring_in table c cells) (Cell (length q)) v ≡ ring_in t1 c cells =
    access_after Submission table c cells (own.Store (Cell (length q)) v) st ∙ ap
    (λ (i : ℕ). ring_in (stored_in table (Ring c Submission (Cell i)) v) c cells) at in
    let second : after_store (ring_in t1 c cells) Write (successor (length q)) ≡ ring_in (laid table c Submission (length q) v) c cells
    = access_after Submission t1 c cells (own.Store Write (successor (length q))) st1 in
    sym second
    ∙ ap (λ (ws : RingWords). after_store ws Write (successor (length q))) (sym first)
    ∙ ap (λ (ws : RingWords). after_store (after_store ws (Cell (length q)) v) Write (successor (length q))) is
    ∙ laid_words k limit q v below small

-- the ring of samples given back at a connection after a slot was laid into it
pub laid_back : (table : TableWords) (c cells : ℕ) (q : List ℕ) (v : ℕ) → IsSeat Completion table c cells → length q < cells
    → length q < 2 ^ 63 → back_ring table c cells ≡ first_words kind.Refusing cells q
    → back_ring (laid table c Completion (length q) v) c cells ≡ first_words kind.Refusing cells (q ++ v ∷ [])
laid_back table c cells q v st below small is =
    let at : length q % cells ≡ length q = mod-eq_of_lt below in
    let t1 : TableWords = stored_in table (Ring c Completion (Cell (length q))) v in
    let st1 : IsSeat Completion t1 c cells
    = record {
      there = st.there;
      some = st.some;
      room = st.room;
      words
          = length-set table.words (number_of table.sizes (Ring c Completion (Cell (length q)))) v ∙ st.words;
    } in
    let first : after_store (back_ring table c cells) (Cell (length q)) v ≡ back_ring t1 c cells =
    access_after Completion table c cells (own.Store (Cell (length q)) v) st ∙ ap
    (λ (i : ℕ). back_ring (stored_in table (Ring c Completion (Cell i)) v) c cells) at in
    let second : after_store (back_ring t1 c cells) Write (successor (length q))
    ≡ back_ring (laid table c Completion (length q) v) c cells
    = access_after Completion t1 c cells (own.Store Write (successor (length q))) st1 in
    sym second
    ∙ ap (λ (ws : RingWords). after_store ws Write (successor (length q))) (sym first)
    ∙ ap (λ (ws : RingWords). after_store (after_store ws (Cell (length q)) v) Write (successor (length q))) is
    ∙ laid_words kind.Refusing cells q v (cell_below kind.Refusing cells (length q) below) small
