-- After a write the port knows its payload in the slot.
use Rattle.std.proofs.Common.{ℕ, ◌≡◌, ◌+◌, ◌-◌, ◌<◌, ◌≤◌, ◌⊎◌, ◌==◌, ◌&&◌, Bool, true, false, if◌then◌else◌, List, [], length, set}
use Rattle.std.proofs.Common.{get_or, slice_get, slice_index, Option, Some, None, is_some, refl, sym, ◌∙◌, ap, subst, inl, inr, arith}
use Rattle.std.proofs.lemmas.Bool.{cases_lt, cases_order, eqb-true}
use Rattle.std.proofs.lemmas.List.{get_or-set_same}
use Rattle.std.proofs.lemmas.Option.{slice_get-get_or, slice_get_within}
use Rattle.iox_lanes_machine.specs.QueuesSteps.Access.{successor}
use Rattle.iox_lanes_machine.specs.LanesBase.Numbers.{number_of, words_of, IsWord}
use Rattle.iox_lanes_machine.specs.LanesBase.declared.words.word.SharedWord.TheVariants.{Slot}
use Rattle.iox_lanes_machine.specs.LanesBase.declared.words.word.SlotWord.TheVariants.{Payload}
use Rattle.iox_lanes_machine.specs.LanesBase.Publishing.{publisher_is_idle, publisher_next, publisher_take, publisher_change}
use Rattle.iox_lanes_machine.specs.LanesBase.Publishing.{publisher_is_over, write_from}
use Rattle.iox_lanes_machine.specs.LanesBase.declared.calls.publisher.PublisherCall.{PublisherCall}
use Rattle.iox_lanes_machine.specs.LanesBase.declared.calls.publisher.PublisherCall.TheVariants as publishing
use Rattle.iox_lanes_machine.specs.LanesBase.declared.calls.route.Route.{Route}
use Rattle.iox_lanes_machine.specs.LanesParties.PublisherKeeping.{loan_of}
use Rattle.iox_lanes_machine.specs.LanesParties.Publishers.{words_of as call_words}
use Rattle.iox_lanes_machine.specs.LanesParties.declared.publisher.slot_book.LoanAnswer.{LoanAnswer}
use Rattle.iox_lanes_machine.specs.LanesParties.Parties.{PublisherLaneState, is_out, publisher_fits, publisher_after, publisher_answer}
use Rattle.iox_lanes_machine.specs.LanesParties.Parties.{kept_head, with_user_header}
use Rattle.iox_lanes_machine.specs.LanesParties.Within.{IsPublishing}
use Rattle.iox_lanes_machine.specs.LanesParties.declared.call.Answer.{Answer}
use Rattle.iox_lanes_machine.specs.LanesParties.declared.call.Answer.TheVariants as answer
use Rattle.iox_lanes_machine.specs.LanesParties.declared.call.Call.TheVariants as call
use Rattle.iox_lanes_machine.specs.LanesParties.declared.call.Move.{Move}
use Rattle.iox_lanes_machine.specs.LanesParties.declared.call.Move.TheVariants.{Begin, GoOn}
use Rattle.iox_lanes_machine.proofs.LanesParties.Rings.{and_left, and_right}
use Rattle.iox_lanes_threads_rule.specs.Acts.{stepped, ToldBy}
use Rattle.iox_lanes_threads_rule.specs.Steps.{learned}
use Rattle.iox_lanes_threads_rule.specs.declared.view.Port.{Port}
use Rattle.iox_lanes_threads_rule.specs.declared.view.PortParty.{PortParty}
use Rattle.iox_lanes_threads_rule.proofs.Held.{word_at}
use Rattle.iox_lanes_threads_ports.specs.Courses.{publisher_party, publisher_stepped, PublisherGoes}
use Rattle.iox_lanes_threads_ports.specs.Paces.{back_at, taken_in, write_steps, PublisherEnds, StaysInside}
use Rattle.iox_lanes_threads_ports.specs.Courses.PublisherGoes.{stays, goes}
use Rattle.iox_lanes_threads_ports.specs.Ends.{knows}
use Rattle.iox_lanes_threads_ports.specs.Known.{payload_word, KnowsPayload}
use Rattle.iox_lanes_threads_ports.specs.Ports.{PublisherStands}
use Rattle.iox_lanes_threads_ports.specs.Values.{PublisherPort, Asks, publisher_begins, PublisherDoes, write_fits, write_begins, Writes}
use Rattle.iox_lanes_threads_ports.proofs.PublisherSteps as publishers
use Rattle.iox_lanes_threads_ports.proofs.Running.{publisher_begun_stands}

-- what each step of a publisher keeps, its run keeps
pub publisher_along : (I : Port → PublisherLaneState → Type 0)
    → ((q : Port) (now : PublisherLaneState) (n : ℕ) → PublisherStands q now → ToldBy q (publisher_next now.port.call) n → I q now
    → I (publisher_stepped q now n) (publisher_after n now))
    → (p : Port) (lane : PublisherLaneState) (q : Port) (now : PublisherLaneState) → PublisherGoes p lane q now → PublisherStands p lane
    → I p lane → PublisherStands q now × I q now
publisher_along I keeps p lane _ _ stays stands h = (stands, h)
publisher_along I keeps p lane _ _ (goes q now n run told) stands h =
    let was = publisher_along I keeps p lane q now run stands h in
    (publishers.goes_on q now was.0 n told, keeps q now n was.0 told was.1)

pub none_past : (xs : List ℕ) (n : ℕ) → slice_get xs n ≡ None → length xs ≤ n
none_past xs n e = elim (cases_lt n (length xs)) [
  | inl less ↦ absurd (cc (e, slice_get-get_or xs n 0 less))
  | inr past ↦ past
]

pub some_value : (xs : List ℕ) (n v : ℕ) → slice_get xs n ≡ Some v → slice_index xs n ≡ v
some_value xs n v e = some_is (sym (slice_get-get_or xs n 0 (slice_get_within xs n v e)) ∙ e)
  where
    some_is : {x y : ℕ} → Some x ≡ Some y → x ≡ y
    some_is h = cc h

-- the first words of the payload
abbrev UpTo : Port → ℕ → List ℕ → ℕ → Type 0
UpTo q slot payload n = (k : ℕ) → k < n → k < length payload → knows q (payload_word slot k) ≡ slice_index payload k

abbrev InWrite : ℕ → List ℕ → Port → PublisherCall → Type 0
InWrite slot payload q publishing.Idle = KnowsPayload q slot payload
InWrite slot payload q (publishing.LoanReclaims place route pop) = ⊥
InWrite slot payload q publishing.Lending = ⊥
InWrite slot payload q (publishing.Writing s w v) = (s ≡ slot) × (slice_get payload w ≡ Some v) × UpTo q slot payload w
InWrite slot payload q (publishing.Written s) = KnowsPayload q slot payload
InWrite slot payload q (publishing.Heading s w v) = ⊥
InWrite slot payload q (publishing.Remembering s) = ⊥
InWrite slot payload q (publishing.SendReclaims s place route pop) = ⊥
InWrite slot payload q (publishing.Pushing s place route push delivery) = ⊥
InWrite slot payload q (publishing.Sent s delivery) = ⊥
InWrite slot payload q (publishing.Dropping s) = ⊥

from_word : (q : Port) (slot : ℕ) (payload : List ℕ) (n : ℕ) (at : Option ℕ) → slice_get payload n ≡ at → UpTo q slot payload n
    → InWrite slot payload q (write_from slot n at)
from_word q slot payload n None e up = λ k h. let past = none_past payload n e in up k (omega (arith, h, past)) h
from_word q slot payload n (Some v) e up = (refl, e, up)

same_payload : (s t k w : ℕ) → Slot s (Payload k) ≡ Slot t (Payload w) → k ≡ w
same_payload s t k w e = cc e

payload_here : (slot s k w : ℕ) → s ≡ slot → k ≡ w → payload_word slot k ≡ payload_word s w
payload_here slot s k w e f = cc (e, f)

-- one more word
one_more : (q : Port) (slot s w v : ℕ) (payload : List ℕ) (party : PortParty) → length q.known ≡ words_of q.service.sizes
    → s < q.service.sizes.slots → w < q.service.sizes.payload_words → s ≡ slot → slice_get payload w ≡ Some v
    → UpTo q slot payload w → UpTo (learned q (set q.known (number_of q.service.sizes (payload_word s w)) v) party)
    slot payload (successor w)
one_more q slot s w v payload party wide there below e at up k less within =
    let is_w : IsWord q.service.sizes (payload_word s w) = (there, below) in
    let is_k : IsWord q.service.sizes (payload_word slot k)
    = (subst (λ (z : ℕ). z < q.service.sizes.slots) e there, omega (arith, less, below)) in
    elim (word_at q.service q.known (payload_word s w) (payload_word slot k) v wide is_w is_k) [
      | inl same ↦ same.1 ∙ sym (ap (slice_index payload) (same_payload slot s k w same.0) ∙ some_value payload w v at)
      | inr other ↦ other.1 ∙ up k (below_w (cases_order k w) other.0) within
    ]
  where
    below_w : (k ≡ w) ⊎ ((k < w) ⊎ (w < k)) → (payload_word slot k ≡ payload_word s w → ⊥) → k < w
    below_w (inl f) off = absurd (off (payload_here slot s k w e f))
    below_w (inr (inl h)) off = h
    below_w (inr (inr h)) off = absurd (omega (arith, h, less))

module _ (slot : ℕ) (payload : List ℕ) (q : Port) (routes : List Route) (words : List ℕ) (n : ℕ) (after : ℕ → PortParty)
    (wide : length q.known ≡ words_of q.service.sizes) (same : words ≡ payload) where
  write_goes : (c : PublisherCall) → IsPublishing q.service.sizes routes words c → InWrite slot payload q c
      → InWrite slot payload (stepped q (publisher_next c) n after) (publisher_take routes words c n)
  write_goes publishing.Idle is h = h
  write_goes (publishing.LoanReclaims place route pop) is h = absurd h
  write_goes publishing.Lending is h = absurd h
  write_goes (publishing.Writing s w v) is h =
      let q' : Port = stepped q (publisher_next (publishing.Writing s w v)) n after in
      subst (λ (z : ℕ). InWrite slot payload q' (write_from z (successor w) (slice_get words (successor w)))) (sym h.0)
      (from_word q' slot payload (successor w) (slice_get words (successor w))
      (ap (λ (xs : List ℕ). slice_get xs (successor w)) (sym same))
      (one_more q slot s w v payload (after 0) wide is.0 is.1 h.0 h.1 h.2))
  write_goes (publishing.Written s) is h = h
  write_goes (publishing.Heading s w v) is h = absurd h
  write_goes (publishing.Remembering s) is h = absurd h
  write_goes (publishing.SendReclaims s place route pop) is h = absurd h
  write_goes (publishing.Pushing s place route push delivery) is h = absurd h
  write_goes (publishing.Sent s delivery) is h = absurd h
  write_goes (publishing.Dropping s) is h = absurd h

-- a publisher that writes
record Writing (slot : ℕ) (payload : List ℕ) (q : Port) (lane : PublisherLaneState) : Type 0 where
  sends : lane.port.sends ≡ false
  words : lane.port.payload ≡ payload
  stage : InWrite slot payload q lane.port.call

writing_on : (slot : ℕ) (payload : List ℕ) (q : Port) (now : PublisherLaneState) (n : ℕ) → PublisherStands q now
    → ToldBy q (publisher_next now.port.call) n → Writing slot payload q now
    → Writing slot payload (publisher_stepped q now n) (publisher_after n now)
writing_on slot payload q now n stands told h = record {
  sends = h.sends;
  words = h.words;
  stage = write_goes slot payload q now.port.routes (call_words now.port) n (publisher_party now) stands.wide
      (ap (λ (b : Bool). if b then now.port.head else now.port.payload) h.sends ∙ h.words) now.port.call stands.within.call h.stage;
}

over_known : (slot : ℕ) (payload : List ℕ) (q : Port) (c : PublisherCall) → InWrite slot payload q c → publisher_is_over c ≡ true
    → KnowsPayload q slot payload
over_known slot payload q publishing.Idle h over = h
over_known slot payload q (publishing.LoanReclaims place route pop) h over = absurd h
over_known slot payload q publishing.Lending h over = absurd h
over_known slot payload q (publishing.Writing s w v) h over = absurd (cc over)
over_known slot payload q (publishing.Written s) h over = h
over_known slot payload q (publishing.Heading s w v) h over = absurd h
over_known slot payload q (publishing.Remembering s) h over = absurd h
over_known slot payload q (publishing.SendReclaims s place route pop) h over = absurd h
over_known slot payload q (publishing.Pushing s place route push delivery) h over = absurd h
over_known slot payload q (publishing.Sent s delivery) h over = absurd h
over_known slot payload q (publishing.Dropping s) h over = absurd h

-- a write takes nothing back
none_back : (slot : ℕ) (payload : List ℕ) (q : Port) (c : PublisherCall) (n place : ℕ) → InWrite slot payload q c
    → back_at place (publisher_change c n) ≡ 0
none_back slot payload q publishing.Idle n place h = refl
none_back slot payload q (publishing.LoanReclaims at route pop) n place h = absurd h
none_back slot payload q publishing.Lending n place h = absurd h
none_back slot payload q (publishing.Writing s w v) n place h = refl
none_back slot payload q (publishing.Written s) n place h = refl
none_back slot payload q (publishing.Heading s w v) n place h = absurd h
none_back slot payload q (publishing.Remembering s) n place h = absurd h
none_back slot payload q (publishing.SendReclaims s at route pop) n place h = absurd h
none_back slot payload q (publishing.Pushing s at route push delivery) n place h = absurd h
none_back slot payload q (publishing.Sent s delivery) n place h = absurd h
none_back slot payload q (publishing.Dropping s) n place h = absurd h

none_taken : (slot : ℕ) (payload : List ℕ) (p : Port) (lane : PublisherLaneState) (q : Port) (now : PublisherLaneState)
    (run : PublisherGoes p lane q now) (place : ℕ) → PublisherStands p lane → Writing slot payload p lane → taken_in run place ≡ 0
none_taken slot payload p lane _ _ stays place stands h = refl
none_taken slot payload p lane _ _ (goes q now n run told) place stands h =
    let was = publisher_along (Writing slot payload) (writing_on slot payload) p lane q now run stands h in
    let before = none_taken slot payload p lane q now run place stands h in
    omega (arith, before, none_back slot payload q now.port.call n place was.1.stage)

-- and answers that it was made
over_answer : (fails : Bool) (slot : ℕ) (payload : List ℕ) (q : Port) (c : PublisherCall) (loan : Option LoanAnswer) (a : Answer)
    → InWrite slot payload q c → publisher_is_over c ≡ true → publisher_answer fails c loan ≡ Some a → a ≡ answer.Written
over_answer fails slot payload q publishing.Idle loan a h over e = absurd (cc e)
over_answer fails slot payload q (publishing.LoanReclaims at route pop) loan a h over e = absurd h
over_answer fails slot payload q publishing.Lending loan a h over e = absurd h
over_answer fails slot payload q (publishing.Writing s w v) loan a h over e = absurd (cc over)
over_answer fails slot payload q (publishing.Written s) loan a h over e = cc e
over_answer fails slot payload q (publishing.Heading s w v) loan a h over e = absurd h
over_answer fails slot payload q (publishing.Remembering s) loan a h over e = absurd h
over_answer fails slot payload q (publishing.SendReclaims s at route pop) loan a h over e = absurd h
over_answer fails slot payload q (publishing.Pushing s at route push delivery) loan a h over e = absurd h
over_answer fails slot payload q (publishing.Sent s delivery) loan a h over e = absurd h
over_answer fails slot payload q (publishing.Dropping s) loan a h over e = absurd h

-- a write of these words as it is asked for
as_write : (lane : PublisherLaneState) (loan : ℕ) (payload user_header : List ℕ) (step : Move) → Asks loan payload user_header step
    → (publisher_fits lane step ≡ write_fits lane loan payload user_header)
    × (publisher_begins step lane ≡ write_begins lane loan payload user_header)
as_write lane loan payload user_header GoOn asks = absurd asks
as_write lane loan payload user_header (Begin call.LoanUninit) asks = absurd asks
as_write lane loan payload user_header (Begin (call.Write slot words header)) asks =
    ((λ i. write_fits lane (asks.0 i) (asks.1 i) (asks.2 i)), (λ i. write_begins lane (asks.0 i) (asks.1 i) (asks.2 i)))
as_write lane loan payload user_header (Begin (call.Send slot)) asks = absurd asks
as_write lane loan payload user_header (Begin (call.DropLoan slot)) asks = absurd asks
as_write lane loan payload user_header (Begin call.Receive) asks = absurd asks
as_write lane loan payload user_header (Begin (call.Read sample)) asks = absurd asks
as_write lane loan payload user_header (Begin (call.Release sample)) asks = absurd asks

module _ (p : Port) (lane : PublisherLaneState) (loan : ℕ) (payload user_header : List ℕ)
    (stands : PublisherStands p (write_begins lane loan payload user_header)) where
  writing_begins : Writing loan payload p (write_begins lane loan payload user_header)
  writing_begins = record {
    sends = refl;
    words = refl;
    stage
        = from_word p loan payload 0 (slice_get payload 0) refl (λ k less within. absurd (omega (arith, less)));
  }

  write_ends : (most : ℕ) (q : Port) (now : PublisherLaneState) (a : Answer)
      → PublisherEnds most p (write_begins lane loan payload user_header) q now a → KnowsPayload q loan payload × (a ≡ answer.Written)
  write_ends most q now a run =
      let end = publisher_along (Writing loan payload) (writing_on loan payload) p (write_begins lane loan payload user_header) q
      run.last run.goes stands writing_begins in (
        over_known loan payload q run.last.port.call end.1.stage run.ends,
        over_answer run.last.fails loan payload q run.last.port.call
            now.port.book.answer a end.1.stage run.ends run.answers,
      )

  never_inside : (most : ℕ) (q : Port) (now : PublisherLaneState)
      → StaysInside most p (write_begins lane loan payload user_header) q now → ⊥
  never_inside most q now run =
      let none = none_taken loan payload p (write_begins lane loan payload user_header) q now run.goes run.place stands writing_begins in
      let more = run.more in
      absurd (omega (arith, none, more))

begun_stands : (p : Port) (lane : PublisherLaneState) (loan : ℕ) (payload user_header : List ℕ) (step : Move) → PublisherStands p lane
    → Asks loan payload user_header step → publisher_fits lane step ≡ true
    → PublisherStands p (write_begins lane loan payload user_header)
begun_stands p lane loan payload user_header step stands asks fit
    = subst (PublisherStands p) (as_write lane loan payload user_header step asks).1 (publisher_begun_stands p lane step stands fit)

-- a write that was answered
pub write_known : (most : ℕ) (p : Port) (lane : PublisherLaneState) (q : Port) (now : PublisherLaneState) (loan : ℕ)
    (payload user_header : List ℕ) (step : Move) (given : Option Answer) → PublisherStands p lane
    → Asks loan payload user_header step → PublisherDoes most p lane step q now given → is_some given ≡ true → KnowsPayload q loan payload
write_known most p lane q now loan payload user_header step None stands asks does some = absurd (cc some)
write_known most p lane q now loan payload user_header step (Some a) stands asks does some = elim does [
  | inl none ↦ absurd (cc none.1)
  | inr done ↦
      let begun = begun_stands p lane loan payload user_header step stands asks done.0 in
      (write_ends p lane loan payload user_header begun most q now a
      (subst (λ (l : PublisherLaneState). PublisherEnds most p l q now a) (as_write lane loan payload user_header step asks).1
      done.1)).0
]

-- what a write does
pub write_called : (old new : PublisherPort) (loan : ℕ) (payload user_header : List ℕ) (step : Move) (given : Option Answer)
    → PublisherStands old.port old.lane → new.table ≡ old.table → Asks loan payload user_header step
    → PublisherDoes (write_steps old.port.service.sizes) old.port old.lane step new.port new.lane given
    → Writes old loan payload user_header new (is_some given)
write_called old new loan payload user_header step None stands table asks does =
    let same = as_write old.lane loan payload user_header step asks in
    elim does [
      | inl none ↦ (sym same.0 ∙ none.0, (table, none.2, none.3))
      | inr inside ↦
          let begun = begun_stands old.port old.lane loan payload user_header step stands asks inside.0 in
          absurd (never_inside old.port old.lane loan payload user_header begun (write_steps old.port.service.sizes) new.port new.lane
          (subst (λ (l : PublisherLaneState). StaysInside (write_steps old.port.service.sizes) old.port l new.port new.lane) same.1
          inside.1))
    ]
write_called old new loan payload user_header step (Some a) stands table asks does =
    let same = as_write old.lane loan payload user_header step asks in
    elim does [
      | inl none ↦ absurd (cc none.1)
      | inr done ↦
          let begun = begun_stands old.port old.lane loan payload user_header step stands asks done.0 in
          let run : PublisherEnds (write_steps old.port.service.sizes) old.port (write_begins old.lane loan payload user_header)
          new.port new.lane a =
          subst (λ (l : PublisherLaneState). PublisherEnds (write_steps old.port.service.sizes) old.port l new.port new.lane a) same.1
          done.1 in
          let told : a ≡ answer.Written = (write_ends old.port old.lane loan payload user_header begun
          (write_steps old.port.service.sizes) new.port new.lane a run).1 in (
            sym same.0 ∙ done.0,
            subst
                (λ (x : Answer). PublisherEnds (write_steps old.port.service.sizes) old.port
                (write_begins old.lane loan payload user_header) new.port new.lane x) told run,
          )
    ]

-- a write with other than these many words
pub write_refused : (old : PublisherPort) (loan : ℕ) (payload user_header : List ℕ) → PublisherStands old.port old.lane
    → (length payload ≡ old.port.service.sizes.payload_words → length user_header ≡ old.port.service.sizes.user_header_words → ⊥)
    → write_fits old.lane loan payload user_header ≡ false
write_refused old loan payload user_header stands off = by_test (write_fits old.lane loan payload user_header) refl
  where
    by_test : (b : Bool) → write_fits old.lane loan payload user_header ≡ b → write_fits old.lane loan payload user_header ≡ false
    by_test false e = e
    by_test true e =
        let may = and_right (publisher_is_idle old.lane.port.call)
        (is_out (loan_of loan old.lane.port.book) && (length payload == length old.lane.port.payload)
        && (3 + length user_header == length old.lane.port.head)) e in
        let first = and_left (is_out (loan_of loan old.lane.port.book) && (length payload == length old.lane.port.payload))
        (3 + length user_header == length old.lane.port.head) may in
        let head : 3 + length user_header ≡ length old.lane.port.head
        = eqb-true (3 + length user_header) (length old.lane.port.head)
        (and_right (is_out (loan_of loan old.lane.port.book) && (length payload == length old.lane.port.payload))
        (3 + length user_header == length old.lane.port.head) may) in
        let body : length payload ≡ length old.lane.port.payload
        = eqb-true (length payload) (length old.lane.port.payload)
        (and_right (is_out (loan_of loan old.lane.port.book)) (length payload == length old.lane.port.payload) first) in
        let wide = stands.within.head in
        absurd (off (body ∙ stands.within.payload) (omega (arith, head, wide)))

-- what a publisher keeps for its sends
pub record KeepsHeads (lane : PublisherLaneState) (now : PublisherLaneState) : Type 0 where
  pub heads : now.heads ≡ lane.heads
  pub first : now.port.book.first ≡ lane.port.book.first

pub heads_stay : (lane now : PublisherLaneState) (n : ℕ) → KeepsHeads lane now → KeepsHeads lane (publisher_after n now)
heads_stay lane now n h
    = record { heads = h.heads; first = (publishers.changed_slots (publisher_change now.port.call n) now.port.book).first ∙ h.first }

pub heads_along : (p : Port) (lane : PublisherLaneState) (q : Port) (now : PublisherLaneState) → PublisherGoes p lane q now
    → KeepsHeads lane now
heads_along p lane _ _ stays = record { heads = refl; first = refl }
heads_along p lane _ _ (goes q now n run told) = heads_stay lane now n (heads_along p lane q now run)

head_there : (lane now : PublisherLaneState) (loan : ℕ) (payload user_header : List ℕ) → loan - lane.port.book.first < length lane.heads
    → KeepsHeads (write_begins lane loan payload user_header) now
    → kept_head loan now ≡ with_user_header (kept_head loan lane) user_header
head_there lane now loan payload user_header less h =
    (λ i. get_or (h.heads i) (loan - h.first i) []) ∙ get_or-set_same lane.heads (loan - lane.port.book.first)
    (with_user_header (kept_head loan lane) user_header) [] less

-- a write that was made keeps its user header for the send
pub write_keeps : (old new : PublisherPort) (loan : ℕ) (payload user_header : List ℕ) (done : Bool) → PublisherStands old.port old.lane
    → Writes old loan payload user_header new done → done ≡ true
    → kept_head loan new.lane ≡ with_user_header (kept_head loan old.lane) user_header
write_keeps old new loan payload user_header false stands h e = absurd (cc e)
write_keeps old new loan payload user_header true stands h e =
    let run = h.1 in
    let along = heads_along old.port (write_begins old.lane loan payload user_header) new.port run.last run.goes in
    let ended : KeepsHeads (write_begins old.lane loan payload user_header) new.lane =
    subst (KeepsHeads (write_begins old.lane loan payload user_header)) (sym run.after)
    (heads_stay (write_begins old.lane loan payload user_header) run.last 0 along) in
    let may = and_right (publisher_is_idle old.lane.port.call)
    (is_out (loan_of loan old.lane.port.book) && (length payload == length old.lane.port.payload)
    && (3 + length user_header == length old.lane.port.head)) h.0 in
    let first = and_left (is_out (loan_of loan old.lane.port.book) && (length payload == length old.lane.port.payload))
    (3 + length user_header == length old.lane.port.head) may in
    let mine = publishers.out_is_own old.lane.port.book loan
    (and_left (is_out (loan_of loan old.lane.port.book)) (length payload == length old.lane.port.payload) first) in
    let heads = stands.within.heads in
    head_there old.lane new.lane loan payload user_header (omega (arith, mine.0, mine.1, heads)) ended
