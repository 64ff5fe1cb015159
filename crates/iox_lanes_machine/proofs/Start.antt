-- Lanes as they are made keep what every step keeps.
use Rattle.std.proofs.Common.{nat_lt, ℕ, zero, suc, ◌≡◌, ◌+◌, ◌-◌, ◌*◌, ◌/◌, ◌%◌, ◌<◌, List, [], ◌∷◌, ◌++◌, length, take, get_or}
use Rattle.std.proofs.Common.{replicate, slice_get, Option, Some, None, refl, sym, ◌∙◌, ap, subst, inl, inr, arith, length-append}
use Rattle.std.specs.List.{All}
use Rattle.std.proofs.lemmas.Bool.{cases_lt, lt-ltb}
use Rattle.std.proofs.lemmas.Nat.{div-mul-add, mod-mul-add, mod_below, row_fits, div-add-mod'}
use Rattle.std.proofs.lemmas.List.{length-replicate, drop-replicate, take-replicate, get_or-replicate}
use Rattle.std.proofs.lemmas.List.Elements.{All-from_get_or, All-replicate}
use Rattle.std.proofs.lemmas.Option.{slice_get_within, slice_get-get_or, get_or_from_slice_get}
use Rattle.std.proofs.Math.ListN.{get_or-append}
use Rattle.std.proofs.Math.Seq.{get_or-append_seam}
use Rattle.iox_lanes_machine.specs.QueuesSteps.declared.access.Word.TheVariants.{Write, Read, Cell}
use Rattle.iox_lanes_machine.specs.QueuesSteps.declared.order.Placed.{Placed}
use Rattle.iox_lanes_machine.specs.QueuesSteps.Ends.{cells_of}
use Rattle.iox_lanes_machine.specs.QueuesSteps.RingMachine.{first_words}
use Rattle.iox_lanes_machine.specs.QueuesSteps.declared.rings.ends.RingKind.TheVariants as kind
use Rattle.iox_lanes_machine.specs.LanesBase.Numbers.{words_of, number_of}
use Rattle.iox_lanes_machine.specs.LanesBase.declared.calls.route.Route.{Route}
use Rattle.iox_lanes_machine.specs.LanesParties.declared.publisher.slot_book.LoanMark.{LoanMark}
use Rattle.iox_lanes_machine.specs.LanesParties.declared.publisher.slot_book.LoanMark.TheVariants as mark
use Rattle.iox_lanes_machine.specs.LanesParties.Parties.{PublisherLaneState, SubscriberLaneState}
use Rattle.iox_lanes_machine.specs.LanesParties.Within.{IsRoute, IsPublisher, IsSubscriber}
use Rattle.iox_lanes_machine.specs.Rings.{sent_word, ring_in}
use Rattle.iox_lanes_machine.specs.Kept.{IsLink, IsLinkOf, sender, receiver, IsWithin}
use Rattle.iox_lanes_machine.specs.Sends.{HasConnections}
use Rattle.iox_lanes_machine.specs.Returns.{back_word, back_ring, GoesRound}
use Rattle.iox_lanes_machine.specs.Slots.{SlotsInRows}
use Rattle.iox_lanes_machine.specs.Made.{listed, cells_back, receiving_routes, table_sizes, link_at, route_to, sending_routes}
use Rattle.iox_lanes_machine.specs.Made.{publisher_at, subscriber_at, first_head, start}
use Rattle.iox_lanes_machine.specs.Links.{LinkState}
use Rattle.iox_lanes_machine.specs.declared.sizes.LaneSizes.{LaneSizes}
use Rattle.iox_lanes_machine.proofs.Ends.{choose_one}
use Rattle.iox_lanes_machine.specs.LanesBase.declared.words.word.ConnectionRing.TheVariants.{Submission, Completion}
use Rattle.iox_lanes_machine.proofs.InTable.{IsSeat, same_ring, ends_below, write_below, read_below}
use Rattle.iox_lanes_machine.proofs.Kept.{cells_some}

pub listed_length : {X : Type 0} (f : ℕ → X) (n : ℕ) → length (listed f n) ≡ n
listed_length f zero = refl
listed_length f (suc n) = omega (arith, length-append (listed f n) (f n ∷ []), listed_length f n)

pub listed_get : {X : Type 0} (f : ℕ → X) (n k : ℕ) (d : X) → k < n → get_or (listed f n) k d ≡ f k
listed_get f zero k d below = absurd (omega (arith, below))
listed_get {X} f (suc n) k d below = elim (cases_lt k n) [
  | inl lt ↦ get_or-append (listed f n) (f n ∷ []) d k (omega (arith, lt, listed_length f n)) ∙ listed_get f n k d lt
  | inr ge ↦ let e : k ≡ n = omega (arith, ge, below) in
      ap (λ (j : ℕ). get_or (listed f n ++ f n ∷ []) j d) (e ∙ sym (listed_length f n)) ∙ get_or-append_seam (listed f n) (f n) [] d ∙
      ap f (sym e)
]

all_listed : {X : Type 0} (P : X → Type 0) (f : ℕ → X) (n : ℕ) → ((k : ℕ) → k < n → P (f k)) → All P (listed f n)
all_listed P f n h = All-from_get_or P (listed f n) (f 0)
    (λ i below. let within : i < n = omega (arith, below, listed_length f n) in subst P (sym (listed_get f n i (f 0) within)) (h i within))

pub listed_at : {X : Type 0} (f : ℕ → X) (n k : ℕ) → k < n → slice_get (listed f n) k ≡ Some (f k)
listed_at {X} f n k below = slice_get-get_or (listed f n) k (f k) (omega (arith, below, listed_length f n)) ∙ ap (λ (x : X). Some x)
    (listed_get f n k (f k) below)

-- the value at a place of the list is the one of that place
pub listed_is : {X : Type 0} (f : ℕ → X) (n k : ℕ) (x : X) → slice_get (listed f n) k ≡ Some x → (k < n) × (x ≡ f k)
listed_is f n k x e =
    let below : k < n = omega (arith, slice_get_within (listed f n) k x e, listed_length f n) in
    (below, sym (get_or_from_slice_get (listed f n) k x x e) ∙ listed_get f n k x below)

-- a place in a row of a rectangle
in_row : (p s w k : ℕ) → p < w → k < s → p * s + k < w * s
in_row p s w k h g = omega (arith, row_fits p s w s h (omega arith), g)

start_route : (sizes : LaneSizes) (connection : ℕ) → connection < sizes.publishers * sizes.subscribers
    → IsRoute (table_sizes sizes) (route_to sizes connection)
start_route sizes connection h = record {
  connection = h;
  sends = cells_some sizes.kind sizes.buffer;
  submission = omega arith;
  gives_back = omega arith;
  completion = omega arith;
}

start_head : (sizes : LaneSizes) (publisher : ℕ) → length (first_head sizes publisher) ≡ 3 + sizes.user_header_words
start_head sizes publisher
    = omega (
      arith,
      length-append (0 ∷ publisher ∷ 1 ∷ []) (replicate sizes.user_header_words 0),
      length-replicate {A = ℕ}
          sizes.user_header_words 0,
    )

start_publisher : (sizes : LaneSizes) (p : ℕ) → p < sizes.publishers → IsPublisher (table_sizes sizes) (publisher_at sizes p)
start_publisher sizes p h = record {
  routes = all_listed (IsRoute (table_sizes sizes)) (λ subscriber. route_to sizes (p * sizes.subscribers + subscriber)) sizes.subscribers
      (λ k below. start_route sizes (p * sizes.subscribers + k) (in_row p sizes.subscribers sizes.publishers k h below));
  call = tt;
  slots = omega (
    arith,
    length-replicate {A = LoanMark} sizes.slots mark.No,
    row_fits p sizes.slots sizes.publishers sizes.slots h
        (omega arith),
  );
  payload = length-replicate sizes.payload_words 0;
  head = length-replicate (3 + sizes.user_header_words) 0;
  heads = length-replicate {A = List ℕ} sizes.slots (first_head sizes p) ∙ sym (length-replicate {A = LoanMark} sizes.slots mark.No);
  widths = All-replicate (λ (head : List ℕ). length head ≡ 3 + sizes.user_header_words) sizes.slots (first_head sizes p)
      (start_head sizes p);
}

start_subscriber : (sizes : LaneSizes) (s : ℕ) → s < sizes.subscribers → IsSubscriber (table_sizes sizes) (subscriber_at sizes s)
start_subscriber sizes s h = record {
  routes = all_listed (IsRoute (table_sizes sizes)) (λ publisher. route_to sizes (publisher * sizes.subscribers + s)) sizes.publishers
      (λ k below. start_route sizes (k * sizes.subscribers + s) (in_row k sizes.subscribers sizes.publishers s below h));
  call = tt;
  slots = omega (arith, length-replicate {A = Option ℕ} (sizes.publishers * sizes.slots) None);
  extent = record { user_header = refl; payload = refl };
}

start_link : (sizes : LaneSizes) (port : LinkState → ℕ) (who connection : ℕ) → connection < sizes.publishers * sizes.subscribers
    → port (link_at sizes connection) ≡ who
    → IsLinkOf (listed (link_at sizes) (sizes.publishers * sizes.subscribers)) port who (route_to sizes connection)
start_link sizes port who connection h own = record {
  link = link_at sizes connection;
  found = listed_at (link_at sizes) (sizes.publishers * sizes.subscribers) connection h;
  own = own;
  kind = refl;
  limit = refl;
  cells = refl;
}

pub start_within : (sizes : LaneSizes) → IsWithin (start sizes)
start_within sizes = record {
  publishers = all_listed (IsPublisher (table_sizes sizes)) (publisher_at sizes) sizes.publishers
      (λ k below. start_publisher sizes k below);
  subscribers = all_listed (IsSubscriber (table_sizes sizes)) (subscriber_at sizes) sizes.subscribers
      (λ k below. start_subscriber sizes k below);
  senders = λ place lane e. let is = listed_is (publisher_at sizes) sizes.publishers place lane e in
      subst (λ (x : PublisherLaneState). All (IsLinkOf (listed (link_at sizes) (sizes.publishers * sizes.subscribers)) sender place)
      x.port.routes) (sym is.1)
      (all_listed (IsLinkOf (listed (link_at sizes) (sizes.publishers * sizes.subscribers)) sender place)
      (λ subscriber. route_to sizes (place * sizes.subscribers + subscriber)) sizes.subscribers
      (λ k below. start_link sizes sender place (place * sizes.subscribers + k)
      (in_row place sizes.subscribers sizes.publishers k is.0 below) (div-mul-add place sizes.subscribers k below)));
  receivers = λ place lane e. let is = listed_is (subscriber_at sizes) sizes.subscribers place lane e in
      subst (λ (x : SubscriberLaneState). All (IsLinkOf (listed (link_at sizes) (sizes.publishers * sizes.subscribers)) receiver place)
      x.port.routes) (sym is.1)
      (all_listed (IsLinkOf (listed (link_at sizes) (sizes.publishers * sizes.subscribers)) receiver place)
      (λ publisher. route_to sizes (publisher * sizes.subscribers + place)) sizes.publishers
      (λ k below. start_link sizes receiver place (k * sizes.subscribers + place)
      (in_row k sizes.subscribers sizes.publishers place below is.0) (mod-mul-add k sizes.subscribers place is.0)));
  links = λ connection link e. let is = listed_is (link_at sizes) (sizes.publishers * sizes.subscribers) connection link e in
      subst (IsLink (table_sizes sizes) connection) (sym is.1) (record { connection_is = is.0; cells = omega arith });
  orders = listed_length {X = List Placed} (λ connection. []) (sizes.publishers * sizes.subscribers) ∙ sym
      (listed_length (link_at sizes) (sizes.publishers * sizes.subscribers));
  words = length-replicate (words_of (table_sizes sizes)) 0;
}

-- the words of a new ring
pub start_ring : (sizes : LaneSizes) (connection : ℕ) → connection < sizes.publishers * sizes.subscribers
    → ring_in (start sizes).table connection (cells_of sizes.kind sizes.buffer) ≡ first_words sizes.kind sizes.buffer []
start_ring sizes connection h =
    let st : IsSeat Submission (start sizes).table connection (cells_of sizes.kind sizes.buffer) =
    record {
      there = h;
      some = cells_some sizes.kind sizes.buffer;
      room = omega arith;
      words
          = length-replicate (words_of (table_sizes sizes)) 0;
    } in
    let total : length {A = ℕ} (replicate (words_of (table_sizes sizes)) 0) ≡ words_of (table_sizes sizes)
    = length-replicate {A = ℕ} (words_of (table_sizes sizes)) 0 in
    let below = ends_below Submission (start sizes).table connection (cells_of sizes.kind sizes.buffer) st in
    let less : cells_of sizes.kind sizes.buffer - 0 ≡ cells_of sizes.kind sizes.buffer = omega arith in
    same_ring _ (replicate (cells_of sizes.kind sizes.buffer - length {A = ℕ} []) 0) _ 0 _ 0
    (ap (λ (ws : List ℕ). take (cells_of sizes.kind sizes.buffer) ws)
    (drop-replicate (number_of (table_sizes sizes) (sent_word connection (Cell 0))) (words_of (table_sizes sizes)) 0)
    ∙ take-replicate (cells_of sizes.kind sizes.buffer)
    (words_of (table_sizes sizes) - number_of (table_sizes sizes) (sent_word connection (Cell 0))) 0 (omega (arith, below, total))
    ∙ ap (λ (k : ℕ). replicate k 0) (sym less))
    (get_or-replicate (words_of (table_sizes sizes)) (number_of (table_sizes sizes) (sent_word connection Write)) 0 0
    (omega (arith, below, total, write_below Submission (start sizes).table connection)))
    (get_or-replicate (words_of (table_sizes sizes)) (number_of (table_sizes sizes) (sent_word connection Read)) 0 0
    (omega (arith, below, total, read_below Submission (start sizes).table connection)))

-- the connections of a publisher are numbered one after the other
pub start_connections : (sizes : LaneSizes) (who : ℕ) → who < sizes.publishers
    → HasConnections (listed (link_at sizes) (sizes.publishers * sizes.subscribers)) who (sending_routes sizes who sizes.subscribers)
start_connections sizes who h = record {
  each = λ connection link found own.
      let is = listed_is (link_at sizes) (sizes.publishers * sizes.subscribers) connection link found in
      let some : 0 < sizes.subscribers = some_columns sizes.publishers sizes.subscribers connection is.0 in
      let place : connection % sizes.subscribers < sizes.subscribers = mod_below connection sizes.subscribers some in
      let row : connection / sizes.subscribers ≡ who = ap (λ (l : LinkState). l.publisher) (sym is.1) ∙ own in
      record {
        place = connection % sizes.subscribers;
        route = route_to sizes (who * sizes.subscribers + connection % sizes.subscribers);
        found = listed_at (λ subscriber. route_to sizes (who * sizes.subscribers + subscriber)) sizes.subscribers
            (connection % sizes.subscribers) place;
        same = ap (λ (p : ℕ). p * sizes.subscribers + connection % sizes.subscribers) (sym row) ∙ div-add-mod' connection sizes.subscribers;
      };
  once = λ i j one other at there same.
      let first = (listed_is (λ subscriber. route_to sizes (who * sizes.subscribers + subscriber)) sizes.subscribers i one at).1 in
      let second = (listed_is (λ subscriber. route_to sizes (who * sizes.subscribers + subscriber)) sizes.subscribers j other there).1 in
      let e : who * sizes.subscribers + i ≡ who * sizes.subscribers + j
      = sym (ap (λ (r : Route). r.connection) first) ∙ same ∙ ap (λ (r : Route). r.connection) second in
      omega (arith, e);
}
  where
    some_columns : (p s c : ℕ) → c < p * s → 0 < s
    some_columns p zero c below = absurd (omega (arith, below))
    some_columns p (suc s) c below = omega arith

-- each publisher's slots follow those of the one before it
pub start_rows : (sizes : LaneSizes) → SlotsInRows (start sizes)
start_rows sizes = λ one other lane behind e f less.
    let first = (listed_is (publisher_at sizes) sizes.publishers one lane e).1 in
    let second = (listed_is (publisher_at sizes) sizes.publishers other behind f).1 in
    omega (
      arith,
      ap (λ (x : PublisherLaneState). x.port.book.first) first,
      ap (λ (x : PublisherLaneState). length x.port.book.loans) first,
      ap (λ (x : PublisherLaneState). x.port.book.first) second,
      length-replicate {A = LoanMark} sizes.slots mark.No,
      row_fits one sizes.slots other sizes.slots less (omega arith),
    )

-- nothing was given back yet
pub start_back : (sizes : LaneSizes) (connection : ℕ) → connection < sizes.publishers * sizes.subscribers
    → back_ring (start sizes).table connection (sizes.buffer + sizes.most_borrowed + 1)
    ≡ first_words kind.Refusing (sizes.buffer + sizes.most_borrowed + 1) []
start_back sizes connection h =
    let cells : ℕ = sizes.buffer + sizes.most_borrowed + 1 in
    let st : IsSeat Completion (start sizes).table connection cells
    = record { there = h; some = omega arith; room = omega arith; words = length-replicate (words_of (table_sizes sizes)) 0 } in
    let total : length {A = ℕ} (replicate (words_of (table_sizes sizes)) 0) ≡ words_of (table_sizes sizes)
    = length-replicate {A = ℕ} (words_of (table_sizes sizes)) 0 in
    let below = ends_below Completion (start sizes).table connection cells st in
    let wide : cells_of kind.Refusing cells ≡ cells = choose_one (nat_lt 0 cells) cells 1 (lt-ltb 0 cells (omega arith)) in
    let less : cells_of kind.Refusing cells - 0 ≡ cells = omega (arith, wide) in
    same_ring _ (replicate (cells_of kind.Refusing cells - length {A = ℕ} []) 0) _ 0 _ 0
    (ap (λ (ws : List ℕ). take cells ws)
    (drop-replicate (number_of (table_sizes sizes) (back_word connection (Cell 0))) (words_of (table_sizes sizes)) 0)
    ∙ take-replicate cells (words_of (table_sizes sizes) - number_of (table_sizes sizes) (back_word connection (Cell 0))) 0
    (omega (arith, below, total))
    ∙ ap (λ (k : ℕ). replicate k 0) (sym less))
    (get_or-replicate (words_of (table_sizes sizes)) (number_of (table_sizes sizes) (back_word connection Write)) 0 0
    (omega (arith, below, total, write_below Completion (start sizes).table connection)))
    (get_or-replicate (words_of (table_sizes sizes)) (number_of (table_sizes sizes) (back_word connection Read)) 0 0
    (omega (arith, below, total, read_below Completion (start sizes).table connection)))

-- both ends of a ring of samples given back go round all its cells
pub start_sends_round : (sizes : LaneSizes) (place : ℕ) → GoesRound (cells_back sizes) (sending_routes sizes place sizes.subscribers)
start_sends_round sizes place = all_listed (λ (r : Route). r.completion_cells ≡ cells_back sizes)
    (λ subscriber. route_to sizes (place * sizes.subscribers + subscriber)) sizes.subscribers (λ k below. refl)

pub start_receives_round : (sizes : LaneSizes) (place : ℕ) → GoesRound (cells_back sizes) (receiving_routes sizes place sizes.publishers)
start_receives_round sizes place = all_listed (λ (r : Route). r.completion_cells ≡ cells_back sizes)
    (λ publisher. route_to sizes (publisher * sizes.subscribers + place)) sizes.publishers (λ k below. refl)
