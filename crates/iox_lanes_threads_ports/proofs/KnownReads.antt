-- After a read the words that it lends are those that the port knows of the slot.
use Rattle.std.proofs.Common.{ℕ, ◌≡◌, ◌+◌, ◌-◌, ◌*◌, ◌<◌, ◌≤◌, ◌⊎◌, Bool, true, false, if◌then◌else◌, nat_lt, List, length, length-set}
use Rattle.std.proofs.Common.{set, slice_index, refl, sym, ◌∙◌, ap, subst, inl, inr, arith}
use Rattle.std.proofs.lemmas.Bool.{cases_order, ltb-true, ltb-false, lt-ltb}
use Rattle.std.proofs.lemmas.List.{get_or-set_same, get_or-set_other}
use Rattle.iox_lanes_machine.specs.QueuesSteps.Access.{successor}
use Rattle.iox_lanes_machine.specs.LanesBase.Numbers.{slot_words, slots_first, slot_word_number, number_of, words_of, IsSlotWord, IsWord}
use Rattle.iox_lanes_machine.specs.LanesBase.declared.words.sizes.TableSizes.{TableSizes}
use Rattle.iox_lanes_machine.specs.LanesBase.declared.words.word.SharedWord.TheVariants.{Slot}
use Rattle.iox_lanes_machine.specs.LanesBase.declared.words.word.SlotWord.TheVariants.{Header, UserHeader, Payload}
use Rattle.iox_lanes_machine.specs.LanesBase.Subscribing.{word_at, subscriber_next, subscriber_take, subscriber_change}
use Rattle.iox_lanes_machine.specs.LanesBase.Subscribing.{subscriber_is_over, read_at}
use Rattle.iox_lanes_machine.specs.LanesBase.declared.calls.route.Route.{Route}
use Rattle.iox_lanes_machine.specs.LanesBase.declared.calls.subscriber.SlotExtent.{SlotExtent}
use Rattle.iox_lanes_machine.specs.LanesBase.declared.calls.subscriber.SubscriberCall.{SubscriberCall}
use Rattle.iox_lanes_machine.specs.LanesBase.declared.calls.subscriber.SubscriberCall.TheVariants as subscribing
use Rattle.iox_lanes_machine.specs.LanesParties.Keeping.{SubscriberState, put_at, changed}
use Rattle.iox_lanes_machine.specs.LanesParties.Parties.{SubscriberLaneState, subscriber_begun, subscriber_after, words_read}
use Rattle.iox_lanes_machine.specs.LanesParties.Within.{IsSubscribing, IsExtent}
use Rattle.iox_lanes_machine.specs.LanesParties.declared.call.Call.TheVariants as call
use Rattle.iox_lanes_threads_rule.specs.Acts.{stepped, ToldBy}
use Rattle.iox_lanes_threads_rule.specs.Steps.{learned}
use Rattle.iox_lanes_threads_rule.specs.declared.service.Service.{Service}
use Rattle.iox_lanes_threads_rule.specs.declared.view.Port.{Port}
use Rattle.iox_lanes_threads_rule.specs.declared.view.PortParty.{PortParty}
use Rattle.iox_lanes_threads_rule.proofs.Held as held_words
use Rattle.iox_lanes_threads_ports.specs.Courses.{subscriber_party, subscriber_stepped, SubscriberGoes}
use Rattle.iox_lanes_threads_ports.specs.Courses.SubscriberGoes.{stays, goes}
use Rattle.iox_lanes_threads_ports.specs.Ends.{knows}
use Rattle.iox_lanes_threads_ports.specs.Known.{KnowsRead}
use Rattle.iox_lanes_threads_ports.specs.Ports.{SubscriberStands}
use Rattle.iox_lanes_threads_ports.proofs.Between.{call_after, read_at_end, words_at_end}
use Rattle.iox_lanes_threads_ports.proofs.SubscriberSteps as subscribers

-- what each step of a subscriber keeps, its run keeps
pub subscriber_along : (I : Port → SubscriberLaneState → Type 0)
    → ((q : Port) (now : SubscriberLaneState) (n : ℕ) → SubscriberStands q now → ToldBy q (subscriber_next now.port.call) n → I q now
    → I (subscriber_stepped q now n) (subscriber_after n now))
    → (p : Port) (lane : SubscriberLaneState) (q : Port) (now : SubscriberLaneState) → SubscriberGoes p lane q now
    → SubscriberStands p lane → I p lane → SubscriberStands q now × I q now
subscriber_along I keeps p lane _ _ stays stands h = (stands, h)
subscriber_along I keeps p lane _ _ (goes q now n run told) stands h =
    let was = subscriber_along I keeps p lane q now run stands h in
    (subscribers.goes_on q now was.0 n told, keeps q now n was.0 told was.1)

abbrev total : SlotExtent → ℕ
total extent = 3 + extent.user_header_words + extent.payload_words

-- a word of a slot has its place as its number
word_number : (sizes : TableSizes) (extent : SlotExtent) (k : ℕ) → extent.user_header_words ≡ sizes.user_header_words
    → slot_word_number sizes (word_at extent k) ≡ k
word_number sizes extent k e = by_header (nat_lt k 3) refl
  where
    by_user : (b : Bool) → nat_lt (k - 3) extent.user_header_words ≡ b → 3 ≤ k
        → slot_word_number sizes (if b then UserHeader (k - 3) else Payload (k - 3 - extent.user_header_words)) ≡ k
    by_user true f h = omega (arith, h)
    by_user false f h = let past : extent.user_header_words ≤ k - 3
        = ltb-false (k - 3) extent.user_header_words f in omega (arith, h, past, e)

    by_header : (b : Bool) → nat_lt k 3 ≡ b
        → slot_word_number sizes (if b then Header k else
        (if nat_lt (k - 3) extent.user_header_words then UserHeader (k - 3) else Payload (k - 3 - extent.user_header_words))) ≡ k
    by_header true f = refl
    by_header false f = by_user (nat_lt (k - 3) extent.user_header_words) refl (ltb-false k 3 f)

-- and lies in the slot
pub word_in : (sizes : TableSizes) (extent : SlotExtent) (k : ℕ) → IsExtent sizes extent → k < total extent
    → IsSlotWord sizes (word_at extent k)
word_in sizes extent k is less = by_header (nat_lt k 3) refl
  where
    by_user : (b : Bool) → nat_lt (k - 3) extent.user_header_words ≡ b → 3 ≤ k
        → IsSlotWord sizes (if b then UserHeader (k - 3) else Payload (k - 3 - extent.user_header_words))
    by_user true f h = let below : k - 3 < extent.user_header_words
        = ltb-true (k - 3) extent.user_header_words f in let u : extent.user_header_words ≡ sizes.user_header_words
        = is.user_header in omega (arith, below, u)
    by_user false f h =
        let past : extent.user_header_words ≤ k - 3 = ltb-false (k - 3) extent.user_header_words f in
        let v : extent.payload_words ≡ sizes.payload_words = is.payload in
        omega (arith, h, past, v, less)

    by_header : (b : Bool) → nat_lt k 3 ≡ b
        → IsSlotWord sizes (if b then Header k else
        (if nat_lt (k - 3) extent.user_header_words then UserHeader (k - 3) else Payload (k - 3 - extent.user_header_words)))
    by_header true f = ltb-true k 3 f
    by_header false f = by_user (nat_lt (k - 3) extent.user_header_words) refl (ltb-false k 3 f)

same_place : (sizes : TableSizes) (extent : SlotExtent) (slot k w : ℕ) → extent.user_header_words ≡ sizes.user_header_words
    → Slot slot (word_at extent k) ≡ Slot slot (word_at extent w) → k ≡ w
same_place sizes extent slot k w e f =
    let g : slots_first sizes + slot * slot_words sizes + slot_word_number sizes (word_at extent k)
    ≡ slots_first sizes + slot * slot_words sizes + slot_word_number sizes (word_at extent w) = ap (number_of sizes) f in
    omega (arith, g, word_number sizes extent k e, word_number sizes extent w e)

-- another value at a place
put_length : (xs : List ℕ) (w n : ℕ) → length (put_at xs w n) ≡ length xs
put_length xs w n = by_test (nat_lt w (length xs))
  where
    by_test : (b : Bool) → length (if b then set xs w n else xs) ≡ length xs
    by_test true = length-set xs w n
    by_test false = refl

put_here : (xs : List ℕ) (w n : ℕ) → w < length xs → slice_index (put_at xs w n) w ≡ n
put_here xs w n less = ap (λ (b : Bool). slice_index (if b then set xs w n else xs) w) (lt-ltb w (length xs) less) ∙ get_or-set_same xs
    w n 0 less

put_else : (xs : List ℕ) (w k n : ℕ) → (k ≡ w → ⊥) → slice_index (put_at xs w n) k ≡ slice_index xs k
put_else xs w k n off = by_test (nat_lt w (length xs))
  where
    by_test : (b : Bool) → slice_index (if b then set xs w n else xs) k ≡ slice_index xs k
    by_test true = get_or-set_other xs w k n 0 off
    by_test false = refl

-- the words before a place
abbrev ReadTo : Port → SlotExtent → ℕ → List ℕ → ℕ → Type 0
ReadTo q extent slot words n = (k : ℕ) → k < n → k < length words → k < total extent
    → knows q (Slot slot (word_at extent k)) ≡ slice_index words k

abbrev InReading : SlotExtent → ℕ → Port → List ℕ → SubscriberCall → Type 0
InReading extent slot q words subscribing.Idle = KnowsRead q extent slot words
InReading extent slot q words (subscribing.Receiving place route pop waits) = ⊥
InReading extent slot q words (subscribing.Received receipt) = ⊥
InReading extent slot q words (subscribing.Reading s w e) = (s ≡ slot) × (e ≡ extent) × ReadTo q extent slot words w
InReading extent slot q words (subscribing.WasRead s) = KnowsRead q extent slot words
InReading extent slot q words (subscribing.Releasing place route push) = ⊥
InReading extent slot q words (subscribing.Released done) = ⊥

read_from : (q : Port) (extent : SlotExtent) (slot : ℕ) (words : List ℕ) (n : ℕ) (b : Bool) → nat_lt n (total extent) ≡ b
    → ReadTo q extent slot words n
    → InReading extent slot q words (if b then subscribing.Reading slot n extent else subscribing.WasRead slot)
read_from q extent slot words n true e to = (refl, refl, to)
read_from q extent slot words n false e to = λ k within less. let past : total extent ≤ n
    = ltb-false n (total extent) e in to k (omega (arith, less, past)) within less

-- one more word
one_more : (q : Port) (extent : SlotExtent) (slot w n : ℕ) (words : List ℕ) (party : PortParty)
    → length q.known ≡ words_of q.service.sizes → slot < q.service.sizes.slots → IsExtent q.service.sizes extent → w < total extent
    → ReadTo q extent slot words w
    → ReadTo (learned q (set q.known (number_of q.service.sizes (Slot slot (word_at extent w))) n) party) extent slot
    (put_at words w n) (successor w)
one_more q extent slot w n words party wide there is below to k less within most =
    let is_w : IsWord q.service.sizes (Slot slot (word_at extent w)) = (there, word_in q.service.sizes extent w is below) in
    let is_k : IsWord q.service.sizes (Slot slot (word_at extent k)) = (there, word_in q.service.sizes extent k is most) in
    let short : k < length words = omega (arith, within, put_length words w n) in
    elim (held_words.word_at q.service q.known (Slot slot (word_at extent w)) (Slot slot (word_at extent k)) n wide is_w is_k) [
      | inl same ↦
          let e : k ≡ w = same_place q.service.sizes extent slot k w is.user_header same.0 in
          same.1 ∙ sym (ap (slice_index (put_at words w n)) e ∙ put_here words w n (omega (arith, short, e)))
      | inr other ↦
          let off : k ≡ w → ⊥ = λ e. other.0 (ap (λ (z : ℕ). Slot slot (word_at extent z)) e) in
          other.1 ∙ to k (below_w (cases_order k w) off) short most ∙ sym (put_else words w k n off)
    ]
  where
    below_w : (k ≡ w) ⊎ ((k < w) ⊎ (w < k)) → (k ≡ w → ⊥) → k < w
    below_w (inl f) off = absurd (off f)
    below_w (inr (inl h)) off = h
    below_w (inr (inr h)) off = absurd (omega (arith, h, less))

module _ (extent : SlotExtent) (slot : ℕ) (q : Port) (routes : List Route) (borrowed : List ℕ) (most n : ℕ) (state : SubscriberState)
    (after : ℕ → PortParty) (wide : length q.known ≡ words_of q.service.sizes) where
  read_goes : (c : SubscriberCall) → IsSubscribing q.service.sizes routes c → InReading extent slot q state.words c
      → InReading extent slot (stepped q (subscriber_next c) n after) (changed (subscriber_change c n) state).words
      (subscriber_take routes borrowed most c n)
  read_goes subscribing.Idle is h = h
  read_goes (subscribing.Receiving place route pop waits) is h = absurd h
  read_goes (subscribing.Received receipt) is h = absurd h
  read_goes (subscribing.Reading s w e) is h =
      let there : slot < q.service.sizes.slots = subst (λ (z : ℕ). z < q.service.sizes.slots) h.0 is.0 in
      let fits : IsExtent q.service.sizes extent = subst (IsExtent q.service.sizes) h.1 is.2 in
      let u : extent.user_header_words ≡ q.service.sizes.user_header_words = fits.user_header in
      let v : extent.payload_words ≡ q.service.sizes.payload_words = fits.payload in
      subst (λ (z : ℕ × SlotExtent). InReading extent slot (stepped q (subscriber_next (subscribing.Reading z.0 w z.1)) n after)
      (put_at state.words w n) (read_at z.0 z.1 (successor w))) (λ i. (sym h.0 i, sym h.1 i))
      (read_from (stepped q (subscriber_next (subscribing.Reading slot w extent)) n after) extent slot (put_at state.words w n)
      (successor w) (nat_lt (successor w) (total extent)) refl
      (one_more q extent slot w n state.words (after n) wide there fits (omega (arith, is.1, u, v)) h.2))
  read_goes (subscribing.WasRead s) is h = h
  read_goes (subscribing.Releasing place route push) is h = absurd h
  read_goes (subscribing.Released done) is h = absurd h

-- a subscriber that reads
abbrev IsReading : SlotExtent → ℕ → Port → SubscriberLaneState → Type 0
IsReading extent slot q lane = InReading extent slot q lane.port.words lane.port.call

reading_on : (extent : SlotExtent) (slot : ℕ) (q : Port) (now : SubscriberLaneState) (n : ℕ) → SubscriberStands q now
    → ToldBy q (subscriber_next now.port.call) n → IsReading extent slot q now
    → IsReading extent slot (subscriber_stepped q now n) (subscriber_after n now)
reading_on extent slot q now n stands told h =
    subst (InReading extent slot (subscriber_stepped q now n) (subscriber_after n now).port.words) (sym (call_after now n))
    (read_goes extent slot q now.port.routes now.port.borrowed now.port.most_borrowed n
    (record now.port { call = subscriber_take now.port.routes now.port.borrowed now.port.most_borrowed now.port.call n })
    (subscriber_party now)
    stands.wide now.port.call stands.within.call h)

-- the words that a read lends
pub read_known : (p : Port) (lane : SubscriberLaneState) (sample : ℕ) (q : Port) (last : SubscriberLaneState)
    → SubscriberStands p (subscriber_begun 0 (call.Read sample) lane)
    → SubscriberGoes p (subscriber_begun 0 (call.Read sample) lane) q last → last.port.call ≡ subscribing.WasRead sample
    → KnowsRead q lane.port.extent sample last.port.words
read_known p lane sample q last stands run ends =
    let first : IsReading lane.port.extent sample p (subscriber_begun 0 (call.Read sample) lane) =
    read_from p lane.port.extent sample lane.port.words 0 (nat_lt 0 (total lane.port.extent)) refl
    (λ k less within most. absurd (omega (arith, less))) in
    let end = subscriber_along (IsReading lane.port.extent sample) (reading_on lane.port.extent sample) p
    (subscriber_begun 0 (call.Read sample) lane) q last run stands first in
    subst (λ (c : SubscriberCall). InReading lane.port.extent sample q last.port.words c) ends end.1

-- as a read leaves them
pub read_words_known : (p q : Port) (old mine begun last : SubscriberLaneState) (sample : ℕ) (words : List ℕ) → SubscriberStands p begun
    → old ≡ mine → begun ≡ subscriber_begun 0 (call.Read sample) mine → SubscriberGoes p begun q last
    → subscriber_is_over last.port.call ≡ true → words ≡ words_read last.port.call last.port.words
    → KnowsRead q old.port.extent sample words
read_words_known p q old mine begun last sample words stands same begins run over are =
    let stands' : SubscriberStands p (subscriber_begun 0 (call.Read sample) mine) = subst (SubscriberStands p) begins stands in
    let run' : SubscriberGoes p (subscriber_begun 0 (call.Read sample) mine) q last
    = subst (λ (l : SubscriberLaneState). SubscriberGoes p l q last) begins run in
    let ends : last.port.call ≡ subscribing.WasRead sample = read_at_end p mine sample q last run' over in
    subst (λ (z : SlotExtent × List ℕ). KnowsRead q z.0 sample z.1)
    (λ i. (
      ap (λ (l : SubscriberLaneState). l.port.extent) (sym same) i,
      sym
          (are ∙ words_at_end last.port.call last.port.words sample ends) i,
    ))
    (read_known p mine sample q last stands' run' ends)

-- and they are all of them
pub read_whole : (p q : Port) (old mine begun last : SubscriberLaneState) (sample : ℕ) (words : List ℕ) → SubscriberStands p begun
    → SubscriberStands q last → q.service ≡ p.service → old ≡ mine → begun ≡ subscriber_begun 0 (call.Read sample) mine
    → SubscriberGoes p begun q last → subscriber_is_over last.port.call ≡ true → words ≡ words_read last.port.call last.port.words
    → length words ≡ 3 + old.port.extent.user_header_words + old.port.extent.payload_words
read_whole p q old mine begun last sample words stands ended service same begins run over are =
    let run' : SubscriberGoes p (subscriber_begun 0 (call.Read sample) mine) q last
    = subst (λ (l : SubscriberLaneState). SubscriberGoes p l q last) begins run in
    let ends : last.port.call ≡ subscribing.WasRead sample = read_at_end p mine sample q last run' over in
    let all : length words ≡ length last.port.words
    = ap (λ (xs : List ℕ). length xs) (are ∙ words_at_end last.port.call last.port.words sample ends) in
    let extent : IsExtent p.service.sizes old.port.extent
    = subst (λ (l : SubscriberLaneState). IsExtent p.service.sizes l.port.extent)
    (begins ∙ ap (subscriber_begun 0 (call.Read sample)) (sym same)) stands.within.extent in
    let room : length last.port.words ≡ slot_words p.service.sizes
    = subst (λ (s : Service). length last.port.words ≡ slot_words s.sizes) service ended.room in
    let u = extent.user_header in
    let v = extent.payload in
    omega (arith, all, room, u, v)
