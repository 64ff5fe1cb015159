-- What lanes take in stands at the end of what it is about, and it is taken in just where it may be.
use Rattle.std.proofs.Common.{ℕ, zero, suc, ◌≡◌, ◌+◌, ◌-◌, ◌<◌, ◌≤◌, ◌^◌, ◌==◌, ◌&&◌, not, Bool, true, false}
use Rattle.std.proofs.Common.{List, [], ◌∷◌, ◌++◌, length, map, take, set, get_or, slice_get, Option, Some, None, refl, sym, ◌∙◌}
use Rattle.std.proofs.Common.{ap, subst, inl, inr, arith, length-append}
use Rattle.std.proofs.lemmas.Bool.Decides.{eqb_tells}
use Rattle.std.proofs.lemmas.List.{append-nil, length-set, get_or-set_same, get_or-set_other}
use Rattle.std.proofs.lemmas.Option.{slice_get_within}
use Rattle.iox_lanes_machine.specs.QueuesSteps.Access.{RingWords, successor}
use Rattle.iox_lanes_machine.specs.QueuesSteps.declared.access.Word.TheVariants.{Write, Cell}
use Rattle.iox_lanes_machine.specs.QueuesSteps.Ends.{cells_of}
use Rattle.iox_lanes_machine.specs.QueuesSteps.RingMachine.{first_words}
use Rattle.iox_lanes_machine.specs.QueuesSteps.declared.rings.ends.RingKind.{RingKind}
use Rattle.iox_lanes_machine.specs.QueuesSteps.declared.rings.ends.RingKind.TheVariants as kind
use Rattle.iox_lanes_machine.specs.LanesBase.Numbers.{IsWord, number_of}
use Rattle.iox_lanes_machine.specs.LanesBase.Table.{TableWords, held_by, stored_in}
use Rattle.iox_lanes_machine.specs.LanesBase.declared.words.access.SharedAccess.TheVariants.{Store}
use Rattle.iox_lanes_machine.specs.LanesBase.declared.words.word.ConnectionRing.{ConnectionRing}
use Rattle.iox_lanes_machine.specs.LanesBase.declared.words.word.ConnectionRing.TheVariants.{Submission, Completion}
use Rattle.iox_lanes_machine.specs.LanesBase.declared.words.word.SharedWord.{SharedWord}
use Rattle.iox_lanes_machine.specs.LanesBase.declared.words.word.SharedWord.TheVariants.{Ring, Slot}
use Rattle.iox_lanes_machine.specs.LanesBase.declared.words.word.SlotWord.{SlotWord}
use Rattle.iox_lanes_machine.proofs.LanesBase.Numbering.{apart, within}
use Rattle.iox_lanes_machine.specs.LanesBase.declared.calls.route.Route.{Route}
use Rattle.iox_lanes_machine.specs.LanesParties.PublisherKeeping.{BookState, may_remember}
use Rattle.iox_lanes_machine.specs.LanesParties.PublisherKeeping.{counted_up, referred_at}
use Rattle.iox_lanes_machine.specs.LanesParties.Parties.{PublisherLaneState, lane_found, lane_remembers}
use Rattle.iox_lanes_machine.specs.Stored.{between}
use Rattle.iox_lanes_machine.specs.LedgerUses.{one_if, count, entry, refers_to, IsOwn, UsesCounted, MayBeReferred}
use Rattle.iox_lanes_machine.proofs.Books.{up_same, uses_few}
use Rattle.iox_lanes_machine.proofs.Entries.{put_at_length, entry_other}
use Rattle.iox_lanes_machine.proofs.LedgerFindings.{lacks_is, newest_is, found_refers, found_refers_elsewhere, newest_refers}
use Rattle.iox_lanes_machine.specs.Findings.{laid, back_found}
use Rattle.iox_lanes_machine.specs.Findings.{waiting_in}
use Rattle.iox_lanes_machine.specs.Findings.{given_at, remembered_of}
use Rattle.iox_lanes_machine.specs.Fresh.{IsFreshPublisher, IsFresh}
use Rattle.iox_lanes_machine.specs.Kept.{IsWithin}
use Rattle.iox_lanes_machine.specs.Links.{LinkState}
use Rattle.iox_lanes_machine.specs.Rings.{ring_in}
use Rattle.iox_lanes_machine.specs.TakenIn.{slot_if}
use Rattle.iox_lanes_machine.specs.TakenIn.{more_messages, more_samples, more_history, more_referred, more_uses, new_buffer, new_slots}
use Rattle.iox_lanes_machine.specs.TakenIn.{new_loans, new_node, new_publisher, fails_behind, last_behind, number_with}
use Rattle.iox_lanes_machine.specs.TakenIn.{place_before}
use Rattle.iox_lanes_machine.specs.TakenIn.{route_with, RoutesKnow, RingGrows, link_with, PublisherGrows, SubscriberKnows, IsTakenIn}
use Rattle.iox_lanes_machine.specs.Uses.{given_back}
use Rattle.iox_lanes_machine.specs.World.{World}
use Rattle.iox_lanes_machine.specs.declared.found.Found.{Found}
use Rattle.iox_lanes_machine.specs.declared.found.Found.TheVariants as found
use Rattle.iox_lanes_machine.proofs.BuffersTaken.{first_refusing, between_first, link_same, itself, leads_is}
use Rattle.iox_lanes_machine.proofs.BuffersTaken.{heads_stay}
use Rattle.iox_lanes_machine.proofs.Ends.{some_is}
use Rattle.iox_lanes_machine.proofs.Fresh.{returned_is}
use Rattle.iox_lanes_machine.proofs.Findings.{MayWait, MayBeBack, cell_below}
use Rattle.iox_lanes_machine.proofs.FoundFresh.{after}
use Rattle.iox_lanes_machine.proofs.FoundKept.{back_seat, back_away, back_grows}
use Rattle.iox_lanes_machine.proofs.InTable.{access_elsewhere}
use Rattle.iox_lanes_machine.proofs.Within.{set_same, set_other}

-- a ring grows where its list does
ring_grows : (k : RingKind) (limit : ℕ) (q more : List ℕ) (was now : RingWords)
    → ((list : List ℕ) → length list ≤ limit → between (first_words k limit list) ≡ list) → length (q ++ more) ≤ limit
    → was ≡ first_words k limit q → now ≡ first_words k limit (q ++ more)
    → RingGrows was now more
ring_grows k limit q more was now stands room before behind =
    let size : length (q ++ more) ≡ length q + length more = length-append q more in
    record {
      list = ap between behind ∙ stands (q ++ more) room ∙ ap (λ (xs : List ℕ). xs ++ more)
          (sym (ap between before ∙ stands q (omega (arith, room, size))));
      read = ap (λ (words : RingWords). words.read) behind ∙ sym (ap (λ (words : RingWords). words.read) before);
      write = ap (λ (words : RingWords). words.write) behind ∙ size ∙ ap (λ (n : ℕ). n + length more)
          (sym (ap (λ (words : RingWords). words.write) before));
    }

-- the connections of a port stay where a finding is of no buffer
pub routes_stay : (m : World) (f : Found) (routes : List Route) → ((c : ℕ) → new_buffer m f c ≡ None)
    → RoutesKnow m f (λ (at : ℕ). at) routes routes
routes_stay m f routes none = record {
  each = λ place route e. e ∙ ap (λ (buffer : Option ℕ). Some (route_with buffer route)) (sym (none route.connection));
  as_many = refl;
}

-- what lanes take in, by the words, links and publishers that they have after it
pub taken_in : (m : World) (f : Found) (words : List ℕ) (links : List LinkState) (publishers : List PublisherLaneState)
    → ((c : ℕ) → new_buffer m f c ≡ None) → ((who place : ℕ) → place_before f who place ≡ place) → IsFresh m
    → IsFresh (after m words links publishers)
    → ((c : ℕ) → slice_get links c ≡ link_with (more_messages m f c) None (slice_get m.links c))
    → ((c : ℕ) (link : LinkState) → slice_get m.links c ≡ Some link
    → given_back (record m.table { words = words }) c ≡ given_back m.table c ++ more_samples m f c)
    → ((slot : ℕ) (word : SlotWord) (value : ℕ) → f ≡ found.Held slot word value
    → held_by (record m.table { words = words }) (Slot slot word) ≡ value)
    → ((slot : ℕ) (word : SlotWord) → IsWord m.table.sizes (Slot slot word) → ((value : ℕ) → f ≡ found.Held slot word value → ⊥)
    → held_by (record m.table { words = words }) (Slot slot word) ≡ held_by m.table (Slot slot word))
    → ((who : ℕ) (was now : PublisherLaneState) → slice_get m.publishers who ≡ Some was → slice_get publishers who ≡ Some now
    → PublisherGrows m f who was now)
    → length publishers ≡ length m.publishers → IsTakenIn m f (after m words links publishers)
taken_in m f words links publishers none places h h' linked given told kept grows size = record {
  links = λ c. linked c ∙ ap (λ (buffer : Option ℕ). link_with (more_messages m f c) buffer (slice_get m.links c)) (sym (none c));
  messages = λ c link there.
      let more : List ℕ = more_messages m f c in
      let now : LinkState = record link { found = link.found ++ more } in
      let is = h.links c link there in
      let behind = h'.links c now (linked c ∙ ap (link_with more None) there) in
      subst (λ (buffer : Option ℕ). RingGrows (ring_in m.table c (cells_of link.kind link.limit))
      (ring_in (record m.table { words = words }) c (cells_of link.kind (number_with buffer link.limit))) more) (sym (none c))
      (ring_grows link.kind link.limit link.found more _ _
      (λ q room. between_first link.kind link.limit q (omega (arith, is.cells, h.small)) room) behind.room is.ring behind.ring);
  samples = λ c link there.
      let more : List ℕ = more_samples m f c in
      let cells : ℕ = m.table.sizes.completion_cells in
      let now : LinkState = record link { found = link.found ++ more_messages m f c } in
      let there' : slice_get links c ≡ Some now = linked c ∙ ap (link_with (more_messages m f c) None) there in
      let is = h.links c link there in
      let behind = h'.links c now there' in
      let list : behind.back ≡ is.back ++ more
      = sym (returned_is (after m words links publishers) c now there' h') ∙ given c link there ∙ ap (λ (xs : List ℕ). xs ++ more)
      (returned_is m c link there h) in
      ring_grows kind.Refusing cells is.back more _ _ (λ q room. first_refusing cells q h.small room)
      (omega (arith, behind.few, ap (λ (xs : List ℕ). length xs) list)) is.returned
      (behind.returned ∙ ap (first_words kind.Refusing cells) list);
  word = told;
  words = kept;
  publishers = grows;
  as_many = size;
  subscribers = λ who was now before behind. subst (SubscriberKnows m f who was) (some_is was now (sym before ∙ behind)) (record {
    routes = let stay = routes_stay m f was.port.routes none in record {
      each = λ place route e. stay.each place route (ap (slice_get was.port.routes) (sym (places who place)) ∙ e);
      as_many
          = stay.as_many;
    };
    same = refl;
  });
  as_many_receive = refl;
  same = refl;
}

-- a slot's words where another word is stored
word_stays : (table : TableWords) (word : SharedWord) (value slot : ℕ) (own : SlotWord) → IsWord table.sizes word
    → IsWord table.sizes (Slot slot own) → (word ≡ Slot slot own → ⊥)
    → held_by (stored_in table word value) (Slot slot own) ≡ held_by table (Slot slot own)
word_stays table word value slot own is there not =
    get_or-set_other table.words (number_of table.sizes word) (number_of table.sizes (Slot slot own)) value 0
    (λ same. not (apart table.sizes word (Slot slot own) is there (sym same)))

laid_elsewhere : (table : TableWords) (c : ℕ) (ring : ConnectionRing) (cell value slot : ℕ) (own : SlotWord)
    → IsWord table.sizes (Ring c ring (Cell cell)) → IsWord table.sizes (Slot slot own)
    → held_by (laid table c ring cell value) (Slot slot own) ≡ held_by table (Slot slot own)
laid_elsewhere table c ring cell value slot own is there =
    word_stays (stored_in table (Ring c ring (Cell cell)) value) (Ring c ring Write) (successor cell) slot own (is.0, tt) there
    (λ e. absurd (cc e))
    ∙ word_stays table (Ring c ring (Cell cell)) value slot own is there (λ e. absurd (cc e))

-- one use more of a slot
uses_grow : (connections first slots : ℕ) (uses : List ℕ) (slot : ℕ) → length uses ≡ slots → first ≤ slot → slot < first + slots
    → entry first uses slot 0 < 2 ^ 63 → (s : ℕ)
    → entry first (counted_up uses (slot - first)) s 0 ≡ entry first uses s 0 + count s (slot ∷ [])
uses_grow connections first slots uses slot size above below few s = elim (eqb_tells slot s) [
  | inl same ↦ subst (λ (x : ℕ). entry first (counted_up uses (slot - first)) x 0 ≡ entry first uses x 0 + count x (slot ∷ [])) same.1
      (omega (arith, up_same first slots slot uses size above below few, ap one_if (itself slot)))
  | inr other ↦ omega (arith, entry_other first slot s uses (successor (get_or uses (slot - first) 0)) 0 above other.1, ap one_if other.0)
]

-- a finding gives a publisher no other slots, loans or headers, nor lets its sends fail or not fail
pub record Stays (f : Found) (who : ℕ) : Type 0 where
  pub slots : new_slots f who ≡ None
  pub loans : new_loans f who ≡ None
  pub node : new_node f who ≡ None
  pub publisher : new_publisher f who ≡ None
  pub fails : (was : Bool) → fails_behind f who was ≡ was
  pub last : (was : Option ℕ) → last_behind f who was ≡ was

-- a publisher of which nothing was found
none_grows : (m : World) (f : Found) (who : ℕ) (lane : PublisherLaneState) → ((c : ℕ) → new_buffer m f c ≡ None)
    → more_history f who ≡ [] → ((place : ℕ) → more_referred f who place ≡ []) → more_uses f who ≡ [] → Stays f who
    → PublisherGrows m f who lane lane
none_grows m f who lane none history referred uses stays = record {
  routes = routes_stay m f lane.port.routes none;
  history = sym (append-nil lane.port.book.history) ∙ ap (λ (xs : List ℕ). lane.port.book.history ++ xs) (sym history);
  referred = λ place s. omega (arith, ap (count s) (referred place));
  uses = λ s. omega (arith, ap (count s) uses);
  slots = ap (λ (n : Option ℕ). number_with n (length lane.port.book.uses)) (sym stays.slots);
  marks = ap (λ (n : Option ℕ). number_with n (length lane.port.book.loans)) (sym stays.slots);
  loans = λ slot. refl;
  most = ap (λ (n : Option ℕ). number_with n lane.port.book.most_loans) (sym stays.loans);
  heads = heads_stay f who lane.heads stays.slots stays.node stays.publisher;
  fails = sym (stays.fails lane.fails);
  last = sym (stays.last lane.last);
  same = refl;
}

-- a publisher one of whose connections was found to have a slot
found_grows : (m : World) (f : Found) (who place slot : ℕ) (lane : PublisherLaneState) → ((c : ℕ) → new_buffer m f c ≡ None)
    → more_history f who ≡ [] → ((at : ℕ) → more_referred f who at ≡ slot_if (place == at) slot) → more_uses f who ≡ slot ∷ []
    → Stays f who → MayBeReferred (length lane.port.routes) lane.port.book place slot
    → UsesCounted (length lane.port.routes) lane.port.book → PublisherGrows m f who lane (lane_found place slot lane)
found_grows m f who place slot lane none history referred uses stays fits counted = record {
  routes = routes_stay m f lane.port.routes none;
  history = sym (append-nil lane.port.book.history) ∙ ap (λ (xs : List ℕ). lane.port.book.history ++ xs) (sym history);
  referred = λ at s. elim (eqb_tells place at) [
    | inl same ↦ subst (λ (x : ℕ). one_if (refers_to (referred_at place slot lane.port.book) x s)
        ≡ one_if (refers_to lane.port.book x s) + count s (more_referred f who x)) same.1
        (omega (
          arith,
          found_refers (length lane.port.routes) place slot lane.port.book fits counted s,
          ap (count s)
              (referred place ∙ ap (λ (b : Bool). slot_if b slot) (itself place)),
        ))
    | inr other ↦ omega (
      arith,
      ap one_if (found_refers_elsewhere (length lane.port.routes) place slot lane.port.book fits at s (λ same. other.1 (sym same))),
      ap (count s) (referred at ∙ ap (λ (b : Bool). slot_if b slot) other.0),
    )
  ];
  uses = λ s.
      let book : BookState = lane.port.book in
      omega (
        arith,
        uses_grow (length lane.port.routes) book.first (length book.uses) book.uses slot refl fits.own.above fits.own.below
            (uses_few (length lane.port.routes) book.first (length book.uses) book.loans book.history book.referred book.uses slot
            counted) s,
        ap (count s) uses,
      );
  slots = put_at_length lane.port.book.uses (slot - lane.port.book.first)
      (successor (get_or lane.port.book.uses (slot - lane.port.book.first) 0)) ∙ ap
      (λ (n : Option ℕ). number_with n (length lane.port.book.uses)) (sym stays.slots);
  marks = ap (λ (n : Option ℕ). number_with n (length lane.port.book.loans)) (sym stays.slots);
  loans = λ s. refl;
  most = ap (λ (n : Option ℕ). number_with n lane.port.book.most_loans) (sym stays.loans);
  heads = heads_stay f who lane.heads stays.slots stays.node stays.publisher;
  fails = sym (stays.fails lane.fails);
  last = sym (stays.last lane.last);
  same = refl;
}

-- a publisher to whose history a slot was found to belong
newest_grows : (m : World) (f : Found) (who slot : ℕ) (lane : PublisherLaneState) → ((c : ℕ) → new_buffer m f c ≡ None)
    → more_history f who ≡ slot ∷ [] → ((at : ℕ) → more_referred f who at ≡ []) → more_uses f who ≡ slot ∷ []
    → Stays f who → IsOwn lane.port.book slot → UsesCounted (length lane.port.routes) lane.port.book
    → PublisherGrows m f who lane (lane_remembers slot lane)
newest_grows m f who slot lane none history referred uses stays own counted = record {
  routes = routes_stay m f lane.port.routes none;
  history = ap (λ (xs : List ℕ). lane.port.book.history ++ xs) (sym history);
  referred = λ at s. omega (arith, ap one_if (newest_refers slot lane.port.book at s), ap (count s) (referred at));
  uses = λ s.
      let book : BookState = lane.port.book in
      omega (
        arith,
        uses_grow (length lane.port.routes) book.first (length book.uses) book.uses slot refl own.above own.below
            (uses_few (length lane.port.routes) book.first (length book.uses) book.loans book.history book.referred book.uses slot
            counted) s,
        ap (count s) uses,
      );
  slots = put_at_length lane.port.book.uses (slot - lane.port.book.first)
      (successor (get_or lane.port.book.uses (slot - lane.port.book.first) 0)) ∙ ap
      (λ (n : Option ℕ). number_with n (length lane.port.book.uses)) (sym stays.slots);
  marks = ap (λ (n : Option ℕ). number_with n (length lane.port.book.loans)) (sym stays.slots);
  loans = λ s. refl;
  most = ap (λ (n : Option ℕ). number_with n lane.port.book.most_loans) (sym stays.loans);
  heads = heads_stay f who lane.heads stays.slots stays.node stays.publisher;
  fails = sym (stays.fails lane.fails);
  last = sym (stays.last lane.last);
  same = refl;
}

-- all publishers, where one changed
pub others_grow : (m : World) (f : Found) (who : ℕ) (lane now : PublisherLaneState) → ((c : ℕ) → new_buffer m f c ≡ None)
    → slice_get m.publishers who ≡ Some lane → PublisherGrows m f who lane now
    → ((other : ℕ) → (who == other) ≡ false → (more_history f other ≡ []) × ((place : ℕ) → more_referred f other place ≡ [])
    × (more_uses f other ≡ []) × Stays f other)
    → (other : ℕ) (was behind : PublisherLaneState) → slice_get m.publishers other ≡ Some was
    → slice_get (set m.publishers who now) other ≡ Some behind → PublisherGrows m f other was behind
others_grow m f who lane now none e grows nothing_of other was behind before now_is = elim (eqb_tells who other) [
  | inl same ↦
      let was_is : lane ≡ was = some_is lane was (sym e ∙ ap (slice_get m.publishers) same.1 ∙ before) in
      let behind_is : now ≡ behind = some_is now behind
      (sym (set_same m.publishers who now lane e) ∙ ap (slice_get (set m.publishers who now)) same.1 ∙ now_is) in
      subst (λ (x : ℕ). PublisherGrows m f x was behind) same.1
      (subst (PublisherGrows m f who was) behind_is (subst (λ (l : PublisherLaneState). PublisherGrows m f who l now) was_is grows))
  | inr off ↦
      let stays : was ≡ behind = some_is was behind
      (sym before ∙ sym (set_other m.publishers who other now (λ same. off.1 (sym same))) ∙ now_is) in
      let nothing = nothing_of other off.0 in
      subst (PublisherGrows m f other was) stays (none_grows m f other was none nothing.0 nothing.1 nothing.2 nothing.3)
]

-- a message more waits
pub waiting_taken : (m : World) (who place slot : ℕ) (lane : PublisherLaneState) (is : MayWait m place slot lane)
    → slice_get m.publishers who ≡ Some lane → IsWithin m → IsFresh m
    → IsFresh (waiting_in m who place slot lane is.route.connection (Some is.link))
    → IsTakenIn m (found.Waiting who place slot) (waiting_in m who place slot lane is.route.connection (Some is.link))
waiting_taken m who place slot lane is stands w h h' =
    taken_in m f (laid m.table c Submission n slot).words (set m.links c link') (set m.publishers who (lane_found place slot lane))
    (λ d. refl) (λ other place. refl) h h' linked
    (λ d link e. ap between (back_away m.table c d m.table.sizes.completion_cells n slot Submission (back_seat m d link e w h) cell
    (λ word. tt)) ∙ sym (append-nil (given_back m.table d)))
    (λ s word value e. absurd (cc e))
    (λ s word there not. laid_elsewhere m.table c Submission n slot s word cell there)
    (others_grow m f who lane (lane_found place slot lane) (λ d. refl) stands
    (found_grows m f who place slot lane (λ d. refl) refl (λ at. ap (λ (b : Bool). slot_if (b && (place == at)) slot) (itself who))
    (ap (λ (b : Bool). slot_if b slot) (itself who))
    (record { slots = refl; loans = refl; node = refl; publisher = refl; fails = λ x. refl; last = λ x. refl }) fits own.counted)
    (λ other e. (
      refl,
      λ at. ap (λ (b : Bool). slot_if (b && (place == at)) slot) e,
      ap (λ (b : Bool). slot_if b slot) e,
      (record { slots = refl; loans = refl; node = refl; publisher = refl; fails = λ x. refl; last = λ x. refl }),
    )))
    (length-set m.publishers who (lane_found place slot lane))
  where
    f : Found
    f = found.Waiting who place slot

    c : ℕ
    c = is.route.connection

    n : ℕ
    n = length is.link.found

    link' : LinkState
    link' = record is.link { found = is.link.found ++ slot ∷ [] }

    own : IsFreshPublisher m who lane
    own = h.publishers who lane stands

    fits : MayBeReferred (length lane.port.routes) lane.port.book place slot
    fits = lacks_is (length lane.port.routes) place slot lane.port.book is.lacks
        (slice_get_within lane.port.routes place is.route is.at) (own.unlent slot)

    cell : IsWord m.table.sizes (Ring c Submission (Cell n))
    cell = (
      (w.links c is.link is.found).connection_is,
      omega
          (arith, cell_below is.link.kind is.link.limit n is.room, (w.links c is.link is.found).cells),
    )

    linked : (d : ℕ) → slice_get (set m.links c link') d ≡ link_with (more_messages m f d) None (slice_get m.links d)
    linked d = elim (eqb_tells c d) [
      | inl same ↦ subst (λ (x : ℕ). slice_get (set m.links c link') x ≡ link_with (more_messages m f x) None (slice_get m.links x)) same.1
          (set_same m.links c link' is.link is.found
          ∙ sym (ap (λ (b : Bool). link_with (slot_if b slot) None (slice_get m.links c))
          (leads_is m who place lane is.route c stands is.at ∙ itself c) ∙ ap (link_with (slot ∷ []) None) is.found))
      | inr off ↦
          set_other m.links c d link' (λ same. off.1 (sym same))
          ∙ link_same (slice_get m.links d)
          ∙ sym (ap (λ (b : Bool). link_with (slot_if b slot) None (slice_get m.links d))
          (leads_is m who place lane is.route d stands is.at ∙ off.0))
    ]

-- a sample more was given back
pub given_taken : (m : World) (who place slot : ℕ) (lane : PublisherLaneState) (is : MayBeBack m place slot lane)
    → slice_get m.publishers who ≡ Some lane → IsWithin m → IsFresh m → IsFresh (given_at m who place slot lane (Some is.route))
    → IsTakenIn m (found.GivenBack who place slot) (given_at m who place slot lane (Some is.route))
given_taken m who place slot lane is stands w h h' =
    taken_in m f (laid m.table c Completion n slot).words m.links (set m.publishers who (lane_found place slot lane)) (λ d. refl)
    (λ other place. refl) h h' (λ d. link_same (slice_get m.links d))
    given
    (λ s word value e. absurd (cc e))
    (λ s word there not. laid_elsewhere m.table c Completion n slot s word cell there)
    (others_grow m f who lane (lane_found place slot lane) (λ d. refl) stands
    (found_grows m f who place slot lane (λ d. refl) refl (λ at. ap (λ (b : Bool). slot_if (b && (place == at)) slot) (itself who))
    (ap (λ (b : Bool). slot_if b slot) (itself who))
    (record { slots = refl; loans = refl; node = refl; publisher = refl; fails = λ x. refl; last = λ x. refl }) fits own.counted)
    (λ other e. (
      refl,
      λ at. ap (λ (b : Bool). slot_if (b && (place == at)) slot) e,
      ap (λ (b : Bool). slot_if b slot) e,
      (record { slots = refl; loans = refl; node = refl; publisher = refl; fails = λ x. refl; last = λ x. refl }),
    )))
    (length-set m.publishers who (lane_found place slot lane))
  where
    f : Found
    f = found.GivenBack who place slot

    c : ℕ
    c = is.route.connection

    n : ℕ
    n = back_found m.table c

    own : IsFreshPublisher m who lane
    own = h.publishers who lane stands

    fits : MayBeReferred (length lane.port.routes) lane.port.book place slot
    fits = lacks_is (length lane.port.routes) place slot lane.port.book is.lacks
        (slice_get_within lane.port.routes place is.route is.at) (own.unlent slot)

    cell : IsWord m.table.sizes (Ring c Completion (Cell n))
    cell = ((w.links c is.link is.found).connection_is, omega (arith, is.few))

    given : (d : ℕ) (link : LinkState) → slice_get m.links d ≡ Some link
        → given_back (laid m.table c Completion n slot) d ≡ given_back m.table d ++ more_samples m f d
    given d link e = elim (eqb_tells c d) [
      | inl same ↦ subst (λ (x : ℕ). given_back (laid m.table c Completion n slot) x ≡ given_back m.table x ++ more_samples m f x) same.1
          (back_grows m c is.link slot is.found w h (omega (arith, is.few))
          ∙ sym (ap (λ (b : Bool). given_back m.table c ++ slot_if b slot) (leads_is m who place lane is.route c stands is.at ∙ itself c)))
      | inr off ↦
          ap between (back_away m.table c d m.table.sizes.completion_cells n slot Completion (back_seat m d link e w h) cell
          (λ word same. off.1 same))
          ∙ sym (append-nil (given_back m.table d))
          ∙ sym (ap (λ (b : Bool). given_back m.table d ++ slot_if b slot) (leads_is m who place lane is.route d stands is.at ∙ off.0))
    ]

-- a slot is the newest of its publisher's history
pub newest_taken : (m : World) (who slot : ℕ) (lane : PublisherLaneState) → may_remember slot lane.port.book ≡ true
    → slice_get m.publishers who ≡ Some lane → IsFresh m → IsFresh (remembered_of m who slot (Some lane))
    → IsTakenIn m (found.Newest who slot) (remembered_of m who slot (Some lane))
newest_taken m who slot lane may stands h h' =
    let f : Found = found.Newest who slot in
    taken_in m f m.table.words m.links (set m.publishers who (lane_remembers slot lane)) (λ d. refl) (λ other place. refl) h h'
    (λ d. link_same (slice_get m.links d))
    (λ d link e. sym (append-nil (given_back m.table d)))
    (λ s word value e. absurd (cc e))
    (λ s word there not. refl)
    (others_grow m f who lane (lane_remembers slot lane) (λ d. refl) stands
    (newest_grows m f who slot lane (λ d. refl) (ap (λ (b : Bool). slot_if b slot) (itself who)) (λ at. refl)
    (ap (λ (b : Bool). slot_if b slot) (itself who))
    (record { slots = refl; loans = refl; node = refl; publisher = refl; fails = λ x. refl; last = λ x. refl })
    (newest_is slot lane.port.book may).own (h.publishers who lane stands).counted)
    (λ other e. (
      ap (λ (b : Bool). slot_if b slot) e,
      λ at. refl,
      ap (λ (b : Bool). slot_if b slot) e,
      (record { slots = refl; loans = refl; node = refl; publisher = refl; fails = λ x. refl; last = λ x. refl }),
    )))
    (length-set m.publishers who (lane_remembers slot lane))

-- a word of a slot holds something
pub held_taken : (m : World) (slot : ℕ) (word : SlotWord) (value : ℕ) → IsWord m.table.sizes (Slot slot word) → IsWithin m → IsFresh m
    → IsFresh (record m { table = stored_in m.table (Slot slot word) value })
    → IsTakenIn m (found.Held slot word value) (record m { table = stored_in m.table (Slot slot word) value })
held_taken m slot word value is w h h' =
    taken_in m f table'.words m.links m.publishers (λ d. refl) (λ other place. refl) h h' (λ d. link_same (slice_get m.links d))
    (λ d link e. ap between (access_elsewhere Completion m.table d m.table.sizes.completion_cells (Store (Slot slot word) value)
    (back_seat m d link e w h) (is, tt)) ∙ sym (append-nil (given_back m.table d)))
    told
    (λ s other there not. word_stays m.table (Slot slot word) value s other is there (λ same. not value (cc same)))
    (λ who was now before behind. subst (PublisherGrows m f who was) (some_is was now (sym before ∙ behind))
    (none_grows m f who was (λ d. refl) refl (λ place. refl) refl
    (record { slots = refl; loans = refl; node = refl; publisher = refl; fails = λ x. refl; last = λ x. refl })))
    refl
  where
    f : Found
    f = found.Held slot word value

    table' : TableWords
    table' = stored_in m.table (Slot slot word) value

    told : (s : ℕ) (other : SlotWord) (v : ℕ) → f ≡ found.Held s other v → held_by table' (Slot s other) ≡ v
    told s other v e =
        let there : slot ≡ s = cc e in
        let same : word ≡ other = cc e in
        let says : value ≡ v = cc e in
        let below : number_of m.table.sizes (Slot slot word) < length m.table.words
        = omega (arith, (within m.table.sizes (Slot slot word) is).1, w.words) in
        ap (λ (x : ℕ). held_by table' (Slot x other)) (sym there)
        ∙ ap (λ (x : SlotWord). held_by table' (Slot slot x)) (sym same)
        ∙ get_or-set_same m.table.words (number_of m.table.sizes (Slot slot word)) value 0 below ∙ says

-- what stands at a place of a list's beginning, and of a list that was mapped
pub taken_there : {X : Type 0} (n : ℕ) (xs : List X) (i : ℕ) (y : X) → slice_get (take n xs) i ≡ Some y → slice_get xs i ≡ Some y
taken_there zero [] i y e = absurd (cc)
taken_there zero (x ∷ xs) i y e = absurd (cc)
taken_there (suc n) [] i y e = absurd (cc)
taken_there (suc n) (x ∷ xs) zero y e = e
taken_there (suc n) (x ∷ xs) (suc i) y e = taken_there n xs i y e

pub mapped_there : {X Y : Type 0} (g : X → Y) (xs : List X) (i : ℕ) (x : X) → slice_get xs i ≡ Some x → slice_get (map g xs) i ≡ Some (g x)
mapped_there g [] i x e = absurd (cc)
mapped_there g (y ∷ ys) zero x e = ap (λ z. Some (g z)) (some_is y x e)
mapped_there g (y ∷ ys) (suc i) x e = mapped_there g ys i x e
