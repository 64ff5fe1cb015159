-- Whatever is run, the sequence numbers of a publisher's messages count up; and each send has that of its message while it lasts.
use Rattle.std.proofs.Common.{ℕ, ◌≡◌, ◌+◌, ◌<◌, ◌≤◌, ◌^◌, ◌==◌, ◌&&◌, Bool, true, false, if◌then◌else◌, nat_lt, List, []}
use Rattle.std.proofs.Common.{◌∷◌, ◌++◌, length, map, get_or, set, slice_get, Option, None, Some, append-nil, append_assoc}
use Rattle.std.proofs.Common.{refl, sym, ◌∙◌, ap, subst, inl, inr, arith}
use Rattle.std.proofs.lemmas.Bool.{cases_lt, eq-eqb, lt-ltb}
use Rattle.std.proofs.lemmas.Bool.Decides.{eqb_tells}
use Rattle.std.proofs.lemmas.List.{get_or-set_same, get_or_append_left, length-append, length-map, length-set, map-append}
use Rattle.std.proofs.lemmas.List.Elements.{filter-append}
use Rattle.iox_lanes_machine.specs.QueuesSteps.Access.{successor}
use Rattle.iox_lanes_machine.specs.LanesBase.Publishing.{publisher_is_idle}
use Rattle.iox_lanes_machine.specs.LanesParties.Parties.{PublisherLaneState, SubscriberLaneState, head_of, kept_head}
use Rattle.iox_lanes_machine.specs.LanesParties.Parties.{publisher_after, publisher_begun, publisher_fits}
use Rattle.iox_lanes_machine.specs.LanesParties.Sequences.{number_after, with_number}
use Rattle.iox_lanes_machine.specs.LanesParties.Within.{IsPublisher}
use Rattle.iox_lanes_machine.specs.LanesParties.declared.call.Call.{Call}
use Rattle.iox_lanes_machine.specs.LanesParties.declared.call.Call.TheVariants as call
use Rattle.iox_lanes_machine.specs.LanesParties.declared.call.Entry.{Entry}
use Rattle.iox_lanes_machine.specs.LanesParties.declared.call.Move.{Move}
use Rattle.iox_lanes_machine.specs.LanesParties.declared.call.Move.TheVariants.{Begin, GoOn}
use Rattle.iox_lanes_machine.specs.LanesParties.declared.call.Party.{Party}
use Rattle.iox_lanes_machine.specs.LanesParties.declared.call.Party.TheVariants.{Publisher, Subscriber}
use Rattle.iox_lanes_machine.proofs.LanesParties.PublishersWithin.{publishers_stay_within}
use Rattle.iox_lanes_machine.proofs.LanesParties.Rings.{all_at}
use Rattle.iox_lanes_machine.specs.Kept.{IsKept}
use Rattle.iox_lanes_machine.specs.World.{World, fits, happens, placed, publisher_begins, publisher_fits_at}
use Rattle.iox_lanes_machine.specs.World.{publisher_given, publisher_goes_on, subscriber_begins, subscriber_goes_on}
use Rattle.iox_lanes_machine.proofs.Calls.{set_is}
use Rattle.iox_lanes_machine.proofs.Steps.{happens_moments}
use Rattle.iox_lanes_machine.proofs.Whole.{happens_keeps}
use Rattle.iox_lanes_machine.proofs.Within.{set_other}
use Rattle.iox_lanes_laws.specs.Messages.{MessageState, begun_messages, message_of, payload_held, sent_by}
use Rattle.iox_lanes_laws.specs.Recorded.{RecordState, recorded_after, RecordsRun}
use Rattle.iox_lanes_laws.specs.Sequences.{CountUp, messages_of, sequence_of}
use Rattle.iox_lanes_laws.proofs.Missing.{counts_more}
use Rattle.iox_lanes_laws.proofs.Records.{sends}
use Rattle.iox_lanes_laws.proofs.Whole.{few_before, grows}

-- the fourth word of words with a number is the number
pub fourth : (number : ℕ) (head : List ℕ) → 4 ≤ length (with_number (Some number) head)
    → get_or (with_number (Some number) head) 3 0 ≡ number
fourth number head long = elim (cases_lt 3 (length head)) [
  | inl more ↦ ap (λ (b : Bool). get_or (if b then set head 3 number else head) 3 0) (lt-ltb 3 (length head) more)
      ∙ get_or-set_same head 3 number 0 more
  | inr none ↦ absurd (omega (arith, none, long, width (nat_lt 3 (length head))))
]
  where
    width : (b : Bool) → length (if b then set head 3 number else head) ≡ length head
    width true = length-set head 3 number
    width false = refl

-- the message of a send that begins has the sequence number after the last one
pub begun_sequence : (m : World) (who loan x : ℕ) (lane : PublisherLaneState)
    → IsPublisher m.table.sizes (publisher_begun m.moments (call.Send loan) lane) → 0 < m.table.sizes.user_header_words
    → lane.last ≡ Some x → x + 1 < 2 ^ 64 → sequence_of (message_of m.table m.moments who loan lane) ≡ x + 1
begun_sequence m who loan x lane is wide last below =
    let words : head_of loan lane ≡ with_number (Some (successor x)) (kept_head loan lane)
    = ap (λ (o : Option ℕ). with_number (number_after o) (kept_head loan lane)) last in
    let long : 3 < length (head_of loan lane) = omega (arith, is.head, wide) in
    get_or_append_left (head_of loan lane) (payload_held m.table loan) 0 3 long
    ∙ ap (λ (ws : List ℕ). get_or ws 3 0) words
    ∙ fourth (successor x) (kept_head loan lane) (omega (arith, long, ap (λ (ws : List ℕ). length ws) words))
    ∙ omega (arith, below)

-- the messages of a publisher among some and more
pub messages_more : (who : ℕ) (sent more : List MessageState)
    → messages_of who (sent ++ more) ≡ messages_of who sent ++ messages_of who more
messages_more who sent more = filter-append (λ (message : MessageState). message.publisher == who) sent more

pub none_more : (who : ℕ) (sent more : List MessageState) → messages_of who more ≡ []
    → messages_of who (sent ++ more) ≡ messages_of who sent
none_more who sent more none = messages_more who sent more
    ∙ ap (λ (xs : List MessageState). messages_of who sent ++ xs) none ∙ append-nil (messages_of who sent)

pub own_one : (who : ℕ) (message : MessageState) → message.publisher ≡ who → messages_of who (message ∷ []) ≡ message ∷ []
own_one who message own = ap (λ (b : Bool). if b then message ∷ [] else []) (eq-eqb message.publisher who own)

-- none of another publisher
pub of_other : (m : World) (who place : ℕ) (c : Call) (at : Option PublisherLaneState) → (who ≡ place → ⊥)
    → messages_of who (sent_by m place c at) ≡ []
of_other m who place c None other = refl
of_other m who place call.LoanUninit (Some lane) other = refl
of_other m who place (call.Write loan payload user_header) (Some lane) other = refl
of_other m who place (call.Send loan) (Some lane) other = elim (eqb_tells place who) [
  | inl same ↦ absurd (other (sym same.1))
  | inr not ↦ ap (λ (b : Bool). if b then message_of m.table m.moments place loan lane ∷ [] else []) not.0
]
of_other m who place (call.DropLoan loan) (Some lane) other = refl
of_other m who place call.Receive (Some lane) other = refl
of_other m who place (call.Read sample) (Some lane) other = refl
of_other m who place (call.Release sample) (Some lane) other = refl

-- A publisher's messages have sequence numbers that count up from the one after `last`, and it gave that of the last of them; they are no
-- more than there were steps.
pub record CountsOn (who last : ℕ) (publishers : List PublisherLaneState) (moments : ℕ) (sent : List MessageState) : Type 0 where
  pub given : (lane : PublisherLaneState) → slice_get publishers who ≡ Some lane
      → lane.last ≡ Some (last + length (messages_of who sent))
  pub counts : CountUp last (map sequence_of (messages_of who sent))
  pub few : length (messages_of who sent) ≤ moments

-- a publisher that stands after a step gave last what one gave that stood before it
record GaveAsBefore (publishers : List PublisherLaneState) (who : ℕ) (lane : PublisherLaneState) : Type 0 where
  before : PublisherLaneState
  found : slice_get publishers who ≡ Some before
  same : lane.last ≡ before.last

counts_stay : (who last : ℕ) (ps qs : List PublisherLaneState) (moments later : ℕ) (sent more : List MessageState)
    → ((lane : PublisherLaneState) → slice_get qs who ≡ Some lane → GaveAsBefore ps who lane) → messages_of who more ≡ []
    → moments ≤ later → CountsOn who last ps moments sent → CountsOn who last qs later (sent ++ more)
counts_stay who last ps qs moments later sent more before none up h =
    let all : messages_of who (sent ++ more) ≡ messages_of who sent = none_more who sent more none in
    record {
      given = λ lane found.
          let was = before lane found in
          was.same ∙ h.given was.before was.found ∙ ap (λ (xs : List MessageState). Some (last + length xs)) (sym all);
      counts = subst (λ (xs : List MessageState). CountUp last (map sequence_of xs)) (sym all) h.counts;
      few = omega (arith, h.few, up, ap (λ (xs : List MessageState). length xs) all);
    }

-- the publisher itself begins a send
counts_send : (who last moments later : ℕ) (ps qs : List PublisherLaneState) (sent : List MessageState) (message : MessageState)
    → message.publisher ≡ who → sequence_of message ≡ last + length (messages_of who sent) + 1
    → ((lane : PublisherLaneState) → slice_get qs who ≡ Some lane → lane.last ≡ Some (last + length (messages_of who sent) + 1))
    → moments < later → CountsOn who last ps moments sent → CountsOn who last qs later (sent ++ message ∷ [])
counts_send who last moments later ps qs sent message own next gave up h =
    let all : messages_of who (sent ++ message ∷ []) ≡ messages_of who sent ++ message ∷ []
    = messages_more who sent (message ∷ [])
    ∙ ap (λ (xs : List MessageState). messages_of who sent ++ xs) (own_one who message own) in
    let many : length (messages_of who (sent ++ message ∷ [])) ≡ length (messages_of who sent) + 1
    = ap (λ (xs : List MessageState). length xs) all ∙ omega (arith, length-append (messages_of who sent) (message ∷ [])) in
    record {
      given = λ lane found. gave lane found ∙ ap (λ (n : ℕ). Some n) (omega (arith, many));
      counts = subst (CountUp last)
          (sym (ap (map sequence_of) all ∙ map-append sequence_of (messages_of who sent) (message ∷ [])))
          (counts_more last (map sequence_of (messages_of who sent)) (sequence_of message) h.counts
          (next ∙ omega (arith, length-map (messages_of who sent) sequence_of)));
      few = omega (arith, h.few, up, many);
    }

-- no other call than those of a publisher begins
pub never : (b : Bool) → b && false ≡ true → ⊥
never true h = cc h
never false h = cc h

-- a lane begins a call, which is no send
begun_as : (who : ℕ) (ps : List PublisherLaneState) (lane own now : PublisherLaneState) → slice_get ps who ≡ Some own → lane ≡ now
    → now.last ≡ own.last → GaveAsBefore ps who lane
begun_as who ps lane own now found is same
    = record { before = own; found = found; same = ap (λ (x : PublisherLaneState). x.last) is ∙ same }

-- a publisher begins a call
begins_count : (who last : ℕ) (m : World) (place : ℕ) (c : Call) (at : Option PublisherLaneState) (sent : List MessageState)
    → slice_get m.publishers place ≡ at → publisher_fits_at at (Begin c) ≡ true → IsKept m → m.moments < 2 ^ 63 → last < 2 ^ 63
    → 0 < m.table.sizes.user_header_words → m.moments < (publisher_begins m place c at).moments
    → CountsOn who last m.publishers m.moments sent
    → CountsOn who last (publisher_begins m place c at).publishers (publisher_begins m place c at).moments (sent ++ sent_by m place c at)
begins_count who last m place c None sent e fit k less low wide up h = absurd (cc fit)
begins_count who last m place c (Some own) sent e fit k less low wide up h = elim (eqb_tells who place) [
  | inl same ↦ by_call c fit same.1
  | inr other ↦ counts_stay who last m.publishers (set m.publishers place (publisher_begun m.moments c own)) m.moments
      (successor m.moments) sent (sent_by m place c (Some own))
      (λ lane found. record {
        before = lane;
        found = sym (set_other m.publishers place who (publisher_begun m.moments c own) other.1) ∙ found;
        same = refl;
      })
      (of_other m who place c (Some own) other.1) (omega (arith, up)) h
]
  where
    quiet : (now : PublisherLaneState) → who ≡ place → now.last ≡ own.last
        → CountsOn who last (set m.publishers place now) (successor m.moments) (sent ++ [])
    quiet now same stays = counts_stay who last m.publishers (set m.publishers place now) m.moments (successor m.moments) sent []
        (λ lane found. begun_as who m.publishers lane own now (ap (slice_get m.publishers) same ∙ e)
        (set_is m.publishers place who own now lane e same found) stays) refl (omega (arith, up)) h

    by_call : (c : Call) → publisher_fits own (Begin c) ≡ true → who ≡ place
        → CountsOn who last (set m.publishers place (publisher_begun m.moments c own)) (successor m.moments)
        (sent ++ sent_by m place c (Some own))
    by_call call.LoanUninit may same = quiet (publisher_begun m.moments call.LoanUninit own) same refl
    by_call (call.Write loan payload user_header) may same
        = quiet (publisher_begun m.moments (call.Write loan payload user_header) own) same refl
    by_call (call.Send loan) may same =
        let now : PublisherLaneState = publisher_begun m.moments (call.Send loan) own in
        let x : ℕ = last + length (messages_of who sent) in
        let gave : own.last ≡ Some x = h.given own (ap (slice_get m.publishers) same ∙ e) in
        let is : IsPublisher m.table.sizes own = all_at (IsPublisher m.table.sizes) m.publishers place own e k.within.publishers in
        let next : successor x ≡ x + 1 = omega (arith, h.few, less, low) in
        counts_send who last m.moments (successor m.moments) m.publishers (set m.publishers place now) sent
        (message_of m.table m.moments place loan own) (sym same)
        (begun_sequence m place loan x own ((publishers_stay_within m.table.sizes own is).0 m.moments (call.Send loan) may) wide gave
        (omega (arith, h.few, less, low)))
        (λ lane found. ap (λ (l : PublisherLaneState). l.last) (set_is m.publishers place who own now lane e same found)
        ∙ ap number_after gave ∙ ap (λ (n : ℕ). Some n) next)
        (omega (arith, less)) h
    by_call (call.DropLoan loan) may same = quiet (publisher_begun m.moments (call.DropLoan loan) own) same refl
    by_call call.Receive may same = absurd (never (publisher_is_idle own.port.call) may)
    by_call (call.Read sample) may same = absurd (never (publisher_is_idle own.port.call) may)
    by_call (call.Release sample) may same = absurd (never (publisher_is_idle own.port.call) may)

-- a publisher goes on
goes_count : (who last : ℕ) (m : World) (place : ℕ) (at : Option PublisherLaneState) (sent : List MessageState)
    → slice_get m.publishers place ≡ at → publisher_fits_at at GoOn ≡ true → m.moments ≤ (publisher_goes_on m place at).moments
    → CountsOn who last m.publishers m.moments sent
    → CountsOn who last (publisher_goes_on m place at).publishers (publisher_goes_on m place at).moments (sent ++ [])
goes_count who last m place None sent e fit up h = absurd (cc fit)
goes_count who last m place (Some own) sent e fit up h =
    let now : PublisherLaneState = publisher_after (publisher_given m.table own) own in
    counts_stay who last m.publishers (set m.publishers place now) m.moments (successor m.moments) sent []
    (λ lane found. elim (eqb_tells who place) [
      | inl same ↦ begun_as who m.publishers lane own now (ap (slice_get m.publishers) same.1 ∙ e)
          (set_is m.publishers place who own now lane e same.1 found) refl
      | inr other ↦ record { before = lane; found = sym (set_other m.publishers place who now other.1) ∙ found; same = refl }
    ]) refl up h

-- a subscriber steps
pub reader_begun : (m : World) (place : ℕ) (c : Call) (at : Option SubscriberLaneState) → (subscriber_begins m place c at).publishers
    ≡ m.publishers
reader_begun m place c None = refl
reader_begun m place c (Some lane) = refl

pub reader_gone : (m : World) (place : ℕ) (at : Option SubscriberLaneState) → (subscriber_goes_on m place at).publishers ≡ m.publishers
reader_gone m place None = refl
reader_gone m place (Some lane) = refl

reads_count : (who last : ℕ) (ps qs : List PublisherLaneState) (moments later : ℕ) (sent : List MessageState) → qs ≡ ps → moments ≤ later
    → CountsOn who last ps moments sent → CountsOn who last qs later (sent ++ [])
reads_count who last ps qs moments later sent same up h = counts_stay who last ps qs moments later sent []
    (λ lane found. record
    { before = lane; found = ap (λ (xs : List PublisherLaneState). slice_get xs who) (sym same) ∙ found; same = refl }) refl up h

pub step_counts : (who last : ℕ) (m : World) (party : Party) (step : Move) (sent : List MessageState) → fits m party step ≡ true → IsKept m
    → m.moments < 2 ^ 63 → last < 2 ^ 63 → 0 < m.table.sizes.user_header_words → CountsOn who last m.publishers m.moments sent
    → CountsOn who last (happens m party step).publishers (happens m party step).moments (sent ++ begun_messages m party step)
step_counts who last m (Publisher place) (Begin c) sent fit k less low wide h =
    begins_count who last m place c (slice_get m.publishers place) sent refl fit k less low wide
    (omega (arith, happens_moments m (Publisher place) (Begin c) fit, less)) h
step_counts who last m (Publisher place) GoOn sent fit k less low wide h =
    goes_count who last (placed m (Publisher place)) place (slice_get m.publishers place) sent refl fit
    (omega (arith, happens_moments m (Publisher place) GoOn fit, less)) h
step_counts who last m (Subscriber place) (Begin c) sent fit k less low wide h =
    reads_count who last m.publishers (happens m (Subscriber place) (Begin c)).publishers m.moments
    (happens m (Subscriber place) (Begin c)).moments sent (reader_begun m place c (slice_get m.subscribers place))
    (omega (arith, happens_moments m (Subscriber place) (Begin c) fit, less)) h
step_counts who last m (Subscriber place) GoOn sent fit k less low wide h =
    reads_count who last m.publishers (happens m (Subscriber place) GoOn).publishers m.moments
    (happens m (Subscriber place) GoOn).moments sent
    (reader_gone (placed m (Subscriber place)) place (slice_get m.subscribers place))
    (omega (arith, happens_moments m (Subscriber place) GoOn fit, less)) h

-- What every step keeps is kept by whatever is run: of lanes, the messages that are kept, and those among them that were sent.
pub record Led (P : World → List MessageState → List MessageState → Type 0) (first : List MessageState) (n : RecordState) : Type 0 where
  pub sent : List MessageState
  pub are : n.messages ≡ first ++ sent
  pub holds : P n.lanes n.messages sent
  pub kept : IsKept n.lanes

abbrev pub StepsKeep : (World → List MessageState → List MessageState → Type 0) → Type 0
StepsKeep P = (m : World) (party : Party) (step : Move) (ms sent : List MessageState) → fits m party step ≡ true → IsKept m
    → m.moments < 2 ^ 63 → P m ms sent
    → P (happens m party step) (ms ++ begun_messages m party step) (sent ++ begun_messages m party step)

pub run_leads : (P : World → List MessageState → List MessageState → Type 0) → StepsKeep P → (first : List MessageState) (r : RecordState)
    (entries : List Entry) (made : ℕ) (n : RecordState) → RecordsRun r entries made n → n.lanes.moments ≤ 2 ^ 63 → IsKept r.lanes
    → (sent : List MessageState) → r.messages ≡ first ++ sent → P r.lanes r.messages sent → Led P first n
run_leads P keep first r [] made n run few k sent are h = subst (Led P first) (sym run.1)
    (record { sent = sent; are = are; holds = h; kept = k })
run_leads P keep first r (entry ∷ entries) made n (inl run) few k sent are h
    = run_leads P keep first r entries made n run.1 few k sent are h
run_leads P keep first r (entry ∷ entries) made n (inr (inl run)) few k sent are h =
    let after = recorded_after r entry.party entry.step in
    let more = begun_messages r.lanes entry.party entry.step in
    let s = sends after entries (run.1).0 n (run.1).2 in
    let rest = grows after.lanes s.entries s.sent n.lanes s.through few in
    let next = happens_moments r.lanes entry.party entry.step run.0 in
    let bound : r.lanes.moments < 2 ^ 63 = few_before r.lanes.moments n.lanes.moments (omega (arith, next, rest)) few in
    run_leads P keep first after entries (run.1).0 n (run.1).2 few (happens_keeps r.lanes entry.party entry.step run.0 k)
    (sent ++ more) (ap (λ (xs : List MessageState). xs ++ more) are ∙ append_assoc first sent more)
    (keep r.lanes entry.party entry.step r.messages sent run.0 k bound h)
run_leads P keep first r (entry ∷ entries) made n (inr (inr run)) few k sent are h
    = run_leads P keep first r entries made n run.2 few k sent are h
