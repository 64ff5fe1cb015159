-- Every step keeps that the words of reads lie one read after the other.
use Rattle.std.proofs.Common.{ℕ, ◌≡◌, ◌+◌, ◌*◌, Bool, true, false, if◌then◌else◌, nat_lt, List, [], ◌∷◌, ◌++◌, length, set, slice_get}
use Rattle.std.proofs.Common.{Option, Some, None, refl, sym, ◌∙◌, ap, subst, inl, inr, arith, append-nil, append_assoc, length-append}
use Rattle.std.proofs.Common.{length-set}
use Rattle.std.proofs.lemmas.Bool.Decides.{eqb_tells}
use Rattle.iox_lanes_machine.specs.QueuesSteps.declared.order.Placed.{Placed}
use Rattle.iox_lanes_machine.specs.LanesBase.declared.words.sizes.TableSizes.{TableSizes}
use Rattle.iox_lanes_machine.specs.LanesBase.Publishing.{publisher_next}
use Rattle.iox_lanes_machine.specs.LanesBase.Subscribing.{subscriber_next, subscriber_take, subscriber_change}
use Rattle.iox_lanes_machine.specs.LanesBase.declared.calls.publisher.PublisherCall.{PublisherCall}
use Rattle.iox_lanes_machine.specs.LanesBase.declared.calls.publisher.PublisherCall.TheVariants as publishing
use Rattle.iox_lanes_machine.specs.LanesBase.declared.calls.route.Route.{Route}
use Rattle.iox_lanes_machine.specs.LanesBase.declared.calls.subscriber.SubscriberCall.{SubscriberCall}
use Rattle.iox_lanes_machine.specs.LanesBase.declared.calls.subscriber.SubscriberCall.TheVariants as subscribing
use Rattle.iox_lanes_machine.specs.LanesBase.declared.calls.subscriber.SubscriberChange.{SubscriberChange}
use Rattle.iox_lanes_machine.specs.LanesBase.declared.calls.subscriber.SubscriberChange.TheVariants as change
use Rattle.iox_lanes_machine.specs.LanesParties.declared.publisher.slot_book.LoanAnswer.{LoanAnswer}
use Rattle.iox_lanes_machine.specs.LanesParties.Keeping.{SubscriberState, changed}
use Rattle.iox_lanes_machine.specs.LanesParties.Parties.{PublisherLaneState, SubscriberLaneState, publisher_after, publisher_answer}
use Rattle.iox_lanes_machine.specs.LanesParties.Parties.{subscriber_begun, subscriber_after, subscriber_answer, release_begun, place_of}
use Rattle.iox_lanes_machine.specs.LanesParties.Parties.{route_at, words_read, lent}
use Rattle.iox_lanes_machine.specs.LanesParties.declared.call.Answer.{Answer}
use Rattle.iox_lanes_machine.specs.LanesParties.declared.call.Answer.TheVariants as answer
use Rattle.iox_lanes_machine.specs.LanesParties.declared.call.Call.{Call}
use Rattle.iox_lanes_machine.specs.LanesParties.declared.call.Call.TheVariants as call
use Rattle.iox_lanes_machine.specs.LanesParties.declared.call.CallName.{CallName}
use Rattle.iox_lanes_machine.specs.LanesParties.declared.call.FinishedCall.{FinishedCall}
use Rattle.iox_lanes_machine.specs.LanesParties.declared.call.Move.{Move}
use Rattle.iox_lanes_machine.specs.LanesParties.declared.call.Move.TheVariants.{Begin, GoOn}
use Rattle.iox_lanes_machine.specs.LanesParties.declared.call.Party.{Party}
use Rattle.iox_lanes_machine.specs.LanesParties.declared.call.Party.TheVariants.{Publisher, Subscriber}
use Rattle.iox_lanes_machine.specs.Reads.{is_read, reads_of, width, ReadsLie}
use Rattle.iox_lanes_machine.specs.World.{World, ended, happens, publisher_begins, publisher_goes_on, publisher_given, publisher_ending}
use Rattle.iox_lanes_machine.specs.World.{subscriber_begins, subscriber_goes_on, subscriber_given}
use Rattle.iox_lanes_machine.proofs.Calls.{set_is}
use Rattle.iox_lanes_machine.proofs.Sends.{last_or}
use Rattle.iox_lanes_machine.proofs.Within.{set_other, sizes_stay}

reads_append : (xs ys : List FinishedCall) → reads_of (xs ++ ys) ≡ reads_of xs ++ reads_of ys
reads_append [] ys = refl
reads_append (x ∷ xs) ys =
    ap (λ (zs : List FinishedCall). (if is_read x.answer then x ∷ [] else []) ++ zs) (reads_append xs ys)
    ∙ sym (append_assoc (if is_read x.answer then x ∷ [] else []) (reads_of xs) (reads_of ys))

-- how a call that ends adds to the reads, and to their words
abbrev Adds : ℕ → Option Answer → List ℕ → Type 0
Adds wide None words = words ≡ []
Adds wide (Some (answer.Lent loan)) words = words ≡ []
Adds wide (Some answer.Written) words = words ≡ []
Adds wide (Some (answer.Sent given)) words = words ≡ []
Adds wide (Some answer.Dropped) words = words ≡ []
Adds wide (Some (answer.Received given)) words = words ≡ []
Adds wide (Some (answer.Read from)) words = length words ≡ wide
Adds wide (Some (answer.Released done)) words = words ≡ []

-- the reads and words so far
record Lie (wide : ℕ) (finished : List FinishedCall) (read : List ℕ) : Type 0 where
  each : (number : ℕ) (call : FinishedCall) → slice_get (reads_of finished) number ≡ Some call → call.answer ≡ answer.Read (number * wide)
  all : length read ≡ length (reads_of finished) * wide

same_lie : (wide : ℕ) (finished finished' : List FinishedCall) (read words : List ℕ) → reads_of finished' ≡ reads_of finished
    → words ≡ [] → Lie wide finished read → Lie wide finished' (read ++ words)
same_lie wide finished finished' read words e f k = record {
  each = λ number c found. k.each number c (ap (λ (xs : List FinishedCall). slice_get xs number) (sym e) ∙ found);
  all = ap (λ (ws : List ℕ). length ws) (ap (λ (ws : List ℕ). read ++ ws) f ∙ append-nil read) ∙ k.all ∙ ap
      (λ (xs : List FinishedCall). length xs * wide) (sym e);
}

no_read : (finished : List FinishedCall) (c : FinishedCall) → is_read c.answer ≡ false → reads_of (finished ++ c ∷ []) ≡ reads_of finished
no_read finished c e = reads_append finished (c ∷ []) ∙ ap (λ (b : Bool). reads_of finished ++ ((if b then c ∷ [] else []) ++ [])) e ∙
    append-nil (reads_of finished)

-- the next read lies after the others
next_row : (k wide a b : ℕ) → a ≡ k * wide → b ≡ wide → a + b ≡ (k + 1) * wide
next_row k wide a b e f = omega (arith, e, f)

one_read : (wide : ℕ) (finished : List FinishedCall) (c : FinishedCall) (read words : List ℕ) → c.answer ≡ answer.Read (length read)
    → length words ≡ wide → Lie wide finished read → Lie wide (finished ++ c ∷ []) (read ++ words)
one_read wide finished c read words e f k =
    let more : reads_of (finished ++ c ∷ []) ≡ reads_of finished ++ c ∷ []
    = reads_append finished (c ∷ []) ∙ ap (λ (a : Answer). reads_of finished ++ ((if is_read a then c ∷ [] else []) ++ [])) e in
    record {
      each = λ number one found. elim (last_or (reads_of finished) c one number
          (ap (λ (xs : List FinishedCall). slice_get xs number) (sym more) ∙ found)) [
            | inl old ↦ k.each number one old
            | inr new ↦ ap (λ (x : FinishedCall). x.answer) new.1 ∙ e ∙ ap (λ (n : ℕ). answer.Read n)
                (k.all ∙ ap (λ (n : ℕ). n * wide) (sym new.0))
          ];
      all = length-append read words ∙ next_row (length (reads_of finished)) wide (length read) (length words) k.all f
          ∙ ap (λ (n : ℕ). n * wide) (sym (ap (λ (xs : List FinishedCall). length xs) more ∙ length-append (reads_of finished) (c ∷ [])));
    }

grown : (wide : ℕ) (finished : List FinishedCall) (party : Party) (name : CallName) (first last : ℕ) (a : Option Answer)
    (read words : List ℕ) → Adds wide a words → ((from : ℕ) → a ≡ Some (answer.Read from) → from ≡ length read) → Lie wide finished read
    → Lie wide (finished ++ ended party name first last a) (read ++ words)
grown wide finished party name first last None read words h at k
    = same_lie wide finished (finished ++ []) read words (ap reads_of (append-nil finished)) h k
grown wide finished party name first last (Some (answer.Lent loan)) read words h at k
    = same_lie wide finished _ read words
    (no_read finished (record { party = party; call = name; answer = answer.Lent loan; first = first; last = last }) refl) h k
grown wide finished party name first last (Some answer.Written) read words h at k
    = same_lie wide finished _ read words
    (no_read finished (record { party = party; call = name; answer = answer.Written; first = first; last = last }) refl) h k
grown wide finished party name first last (Some (answer.Sent given)) read words h at k
    = same_lie wide finished _ read words
    (no_read finished (record { party = party; call = name; answer = answer.Sent given; first = first; last = last }) refl) h k
grown wide finished party name first last (Some answer.Dropped) read words h at k
    = same_lie wide finished _ read words
    (no_read finished (record { party = party; call = name; answer = answer.Dropped; first = first; last = last }) refl) h k
grown wide finished party name first last (Some (answer.Received given)) read words h at k
    = same_lie wide finished _ read words
    (no_read finished (record { party = party; call = name; answer = answer.Received given; first = first; last = last }) refl) h k
grown wide finished party name first last (Some (answer.Read from)) read words h at k =
    one_read wide finished (record { party = party; call = name; answer = answer.Read from; first = first; last = last }) read words
    (ap (λ (n : ℕ). answer.Read n) (at from refl)) h k
grown wide finished party name first last (Some (answer.Released done)) read words h at k
    = same_lie wide finished _ read words
    (no_read finished (record { party = party; call = name; answer = answer.Released done; first = first; last = last }) refl) h k

lent_adds : (wide : ℕ) (loan : Option LoanAnswer) → Adds wide (Some (lent loan)) []
lent_adds wide None = refl
lent_adds wide (Some given) = refl

publisher_adds : (fails : Bool) (wide : ℕ) (c : PublisherCall) (loan : Option LoanAnswer) → Adds wide (publisher_answer fails c loan) []
publisher_adds fails wide publishing.Idle loan = refl
publisher_adds fails wide (publishing.LoanReclaims place route p) loan = refl
publisher_adds fails wide publishing.Lending loan = lent_adds wide loan
publisher_adds fails wide (publishing.Writing slot word value) loan = refl
publisher_adds fails wide (publishing.Written slot) loan = refl
publisher_adds fails wide (publishing.Heading slot word value) loan = refl
publisher_adds fails wide (publishing.Remembering slot) loan = refl
publisher_adds fails wide (publishing.SendReclaims slot place route p) loan = refl
publisher_adds fails wide (publishing.Pushing slot place route p delivery) loan = refl
publisher_adds fails wide (publishing.Sent slot delivery) loan = refl
publisher_adds fails wide (publishing.Dropping slot) loan = refl

lent_no_read : (loan : Option LoanAnswer) (from : ℕ) → Some (lent loan) ≡ Some (answer.Read from) → ⊥
lent_no_read None from e = absurd (cc e)
lent_no_read (Some given) from e = absurd (cc e)

publisher_no_read : (fails : Bool) (c : PublisherCall) (loan : Option LoanAnswer) (from : ℕ)
    → publisher_answer fails c loan ≡ Some (answer.Read from) → ⊥
publisher_no_read fails publishing.Idle loan from e = absurd (cc e)
publisher_no_read fails (publishing.LoanReclaims place route p) loan from e = absurd (cc e)
publisher_no_read fails publishing.Lending loan from e = lent_no_read loan from e
publisher_no_read fails (publishing.Writing slot word value) loan from e = absurd (cc e)
publisher_no_read fails (publishing.Written slot) loan from e = absurd (cc e)
publisher_no_read fails (publishing.Heading slot word value) loan from e = absurd (cc e)
publisher_no_read fails (publishing.Remembering slot) loan from e = absurd (cc e)
publisher_no_read fails (publishing.SendReclaims slot place route p) loan from e = absurd (cc e)
publisher_no_read fails (publishing.Pushing slot place route p delivery) loan from e = absurd (cc e)
publisher_no_read fails (publishing.Sent slot delivery) loan from e = absurd (cc e)
publisher_no_read fails (publishing.Dropping slot) loan from e = absurd (cc e)

subscriber_adds : (wide : ℕ) (c : SubscriberCall) (from : ℕ) (words : List ℕ) → length words ≡ wide
    → Adds wide (subscriber_answer c from) (words_read c words)
subscriber_adds wide subscribing.Idle from words h = refl
subscriber_adds wide (subscribing.Receiving place route p waits) from words h = refl
subscriber_adds wide (subscribing.Received given) from words h = refl
subscriber_adds wide (subscribing.Reading slot word extent) from words h = refl
subscriber_adds wide (subscribing.WasRead slot) from words h = h
subscriber_adds wide (subscribing.Releasing place route p) from words h = refl
subscriber_adds wide (subscribing.Released done) from words h = refl

subscriber_from : (c : SubscriberCall) (at from : ℕ) → subscriber_answer c at ≡ Some (answer.Read from) → from ≡ at
subscriber_from subscribing.Idle at from e = absurd (cc e)
subscriber_from (subscribing.Receiving place route p waits) at from e = absurd (cc e)
subscriber_from (subscribing.Received given) at from e = absurd (cc e)
subscriber_from (subscribing.Reading slot word extent) at from e = absurd (cc e)
subscriber_from (subscribing.WasRead slot) at from e = cc e
subscriber_from (subscribing.Releasing place route p) at from e = absurd (cc e)
subscriber_from (subscribing.Released done) at from e = absurd (cc e)

-- the room for a read's words stays
changed_words : (c : SubscriberChange) (state : SubscriberState) → length (changed c state).words ≡ length state.words
changed_words change.Nothing state = refl
changed_words (change.Borrow place slot) state = refl
changed_words (change.Note word value) state = by_test (nat_lt word (length state.words))
  where
    by_test : (b : Bool) → length (if b then set state.words word value else state.words) ≡ length state.words
    by_test true = length-set state.words word value
    by_test false = refl
changed_words (change.GiveBack place slot) state = refl

release_words : (moment sample : ℕ) (place : Option ℕ) (route : Option Route) (lane : SubscriberLaneState)
    → (release_begun moment sample place route lane).port.words ≡ lane.port.words
release_words moment sample None route lane = refl
release_words moment sample (Some place) None lane = refl
release_words moment sample (Some place) (Some route) lane = refl

begun_words : (moment : ℕ) (c : Call) (lane : SubscriberLaneState) → (subscriber_begun moment c lane).port.words ≡ lane.port.words
begun_words moment call.LoanUninit lane = refl
begun_words moment (call.Write loan payload user_header) lane = refl
begun_words moment (call.Send loan) lane = refl
begun_words moment (call.DropLoan loan) lane = refl
begun_words moment call.Receive lane = refl
begun_words moment (call.Read sample) lane = refl
begun_words moment (call.Release sample) lane
    = release_words moment sample (place_of sample lane) (route_at (place_of sample lane) lane) lane

rooms_set : (lanes : List SubscriberLaneState) (place wide : ℕ) (lane after : SubscriberLaneState) → slice_get lanes place ≡ Some lane
    → length after.port.words ≡ wide
    → ((i : ℕ) (z : SubscriberLaneState) → slice_get lanes i ≡ Some z → length z.port.words ≡ wide) → (i : ℕ) (z : SubscriberLaneState)
    → slice_get (set lanes place after) i ≡ Some z → length z.port.words ≡ wide
rooms_set lanes place wide lane after found h all i z got = elim (eqb_tells i place) [
  | inl same ↦ ap (λ (x : SubscriberLaneState). length x.port.words) (set_is lanes place i lane after z found same.1 got) ∙ h
  | inr other ↦ all i z (sym (set_other lanes place i after other.1) ∙ got)
]

-- the reads lie in a world of the same sizes
lies : (m n : World) → n.table.sizes ≡ m.table.sizes → Lie (width m.table.sizes) n.finished n.read
    → ((i : ℕ) (z : SubscriberLaneState) → slice_get n.subscribers i ≡ Some z → length z.port.words ≡ width m.table.sizes) → ReadsLie n
lies m n same k rooms = record {
  each = λ number c found. k.each number c found ∙ ap (λ (s : TableSizes). answer.Read (number * width s)) (sym same);
  all = k.all ∙ ap (λ (s : TableSizes). length (reads_of n.finished) * width s) (sym same);
  rooms = λ i z got. rooms i z got ∙ ap width (sym same);
}

begun_publisher : (m : World) (place : ℕ) (c : Call) (at : Option PublisherLaneState) → ReadsLie m
    → ReadsLie (publisher_begins m place c at)
begun_publisher m place c None k = k
begun_publisher m place c (Some lane) k
    = lies m (publisher_begins m place c (Some lane)) refl (record { each = k.each; all = k.all }) k.rooms

begun_subscriber : (m : World) (place : ℕ) (c : Call) (at : Option SubscriberLaneState) → slice_get m.subscribers place ≡ at
    → ReadsLie m → ReadsLie (subscriber_begins m place c at)
begun_subscriber m place c None e k = k
begun_subscriber m place c (Some lane) e k =
    lies m (subscriber_begins m place c (Some lane)) refl (record { each = k.each; all = k.all })
    (rooms_set m.subscribers place (width m.table.sizes) lane (subscriber_begun m.moments c lane) e
    (ap (λ (ws : List ℕ). length ws) (begun_words m.moments c lane) ∙ k.rooms place lane e) k.rooms)

gone_publisher : (m : World) (place : ℕ) (orders : List (List Placed)) (at : Option PublisherLaneState) → ReadsLie m
    → ReadsLie (publisher_goes_on (record m { orders = orders }) place at)
gone_publisher m place orders None k = lies m (record m { orders = orders }) refl (record { each = k.each; all = k.all }) k.rooms
gone_publisher m place orders (Some lane) k =
    let n : World = publisher_goes_on (record m { orders = orders }) place (Some lane) in
    let loan : Option LoanAnswer = (publisher_after (publisher_given m.table lane) lane).port.book.answer in
    let g : Lie (width m.table.sizes) (m.finished
    ++ ended (Publisher place) lane.call lane.first m.moments (publisher_ending m.table lane)) (m.read ++ []) =
    grown (width m.table.sizes) m.finished (Publisher place) lane.call lane.first m.moments (publisher_ending m.table lane) m.read []
    (publisher_adds lane.fails (width m.table.sizes) lane.port.call loan)
    (λ from e. absurd (publisher_no_read lane.fails lane.port.call loan from e)) (record { each = k.each; all = k.all }) in
    lies m n ((sizes_stay m.table (publisher_next lane.port.call)).0)
    (subst (Lie (width m.table.sizes) n.finished) (append-nil m.read) g) k.rooms

gone_subscriber : (m : World) (place : ℕ) (orders : List (List Placed)) (at : Option SubscriberLaneState)
    → slice_get m.subscribers place ≡ at → ReadsLie m → ReadsLie (subscriber_goes_on (record m { orders = orders }) place at)
gone_subscriber m place orders None e k = lies m (record m { orders = orders }) refl (record { each = k.each; all = k.all }) k.rooms
gone_subscriber m place orders (Some lane) e k =
    lies m (subscriber_goes_on (record m { orders = orders }) place (Some lane)) ((sizes_stay m.table (subscriber_next lane.port.call)).0)
    (grown (width m.table.sizes) m.finished (Subscriber place) lane.call lane.first m.moments
    (subscriber_answer lane.port.call (length m.read)) m.read (words_read lane.port.call lane.port.words)
    (subscriber_adds (width m.table.sizes) lane.port.call (length m.read) lane.port.words (k.rooms place lane e))
    (subscriber_from lane.port.call (length m.read)) (record { each = k.each; all = k.all }))
    (rooms_set m.subscribers place (width m.table.sizes) lane (subscriber_after (subscriber_given m.table lane) lane) e
    (changed_words (subscriber_change lane.port.call (subscriber_given m.table lane))
    (record lane.port {
      call
          = subscriber_take lane.port.routes lane.port.borrowed lane.port.most_borrowed lane.port.call (subscriber_given m.table lane);
    }) ∙ k.rooms place lane e) k.rooms)

pub happens_reads : (m : World) (party : Party) (step : Move) → ReadsLie m → ReadsLie (happens m party step)
happens_reads m (Publisher place) (Begin c) k = begun_publisher m place c (slice_get m.publishers place) k
happens_reads m (Subscriber place) (Begin c) k = begun_subscriber m place c (slice_get m.subscribers place) refl k
happens_reads m (Publisher place) GoOn k = gone_publisher m place _ (slice_get m.publishers place) k
happens_reads m (Subscriber place) GoOn k = gone_subscriber m place _ (slice_get m.subscribers place) refl k
