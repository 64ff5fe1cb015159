-- After a read the port's view lists all words of the sample as loaded.
use Rattle.std.proofs.Common.{ℕ, zero, suc, ◌≡◌, ◌+◌, ◌<◌, ◌≤◌, ◌&&◌, Bool, true, false, if◌then◌else◌, nat_lt, List, [], ◌∷◌, ◌++◌, get_or}
use Rattle.std.proofs.Common.{slice_get, slice_index, Option, None, Some, refl, sym, ◌∙◌, ap, subst, inl, inr, arith}
use Rattle.std.proofs.lemmas.Bool.{cases_order, ltb-false}
use Rattle.iox_lanes_machine.specs.QueuesSteps.Access.{successor}
use Rattle.iox_lanes_machine.specs.LanesBase.declared.words.access.SharedAccess.TheVariants.{Load, Store, Exchange, Local}
use Rattle.iox_lanes_machine.specs.LanesBase.declared.words.word.SharedWord.{SharedWord}
use Rattle.iox_lanes_machine.specs.LanesBase.declared.words.word.SharedWord.TheVariants.{Slot}
use Rattle.iox_lanes_machine.specs.LanesBase.Subscribing.{word_at, subscriber_next, subscriber_take, subscriber_change}
use Rattle.iox_lanes_machine.specs.LanesBase.Subscribing.{subscriber_is_over, subscriber_is_idle, read_at}
use Rattle.iox_lanes_machine.specs.LanesBase.declared.calls.route.Route.{Route}
use Rattle.iox_lanes_machine.specs.LanesBase.declared.calls.subscriber.SlotExtent.{SlotExtent}
use Rattle.iox_lanes_machine.specs.LanesBase.declared.calls.subscriber.SubscriberCall.{SubscriberCall}
use Rattle.iox_lanes_machine.specs.LanesBase.declared.calls.subscriber.SubscriberCall.TheVariants as subscribing
use Rattle.iox_lanes_machine.specs.LanesParties.Keeping.{SubscriberState, changed}
use Rattle.iox_lanes_machine.specs.LanesParties.Parties.{SubscriberLaneState, is_borrowed, place_of, subscriber_begun, subscriber_after}
use Rattle.iox_lanes_machine.specs.LanesParties.Parties.{subscriber_fits}
use Rattle.iox_lanes_machine.specs.LanesParties.declared.call.Call.TheVariants as call
use Rattle.iox_lanes_machine.specs.LanesParties.declared.call.Move.TheVariants.{Begin}
use Rattle.iox_lanes_threads_rule.specs.Acts.{stepped, ToldBy}
use Rattle.iox_lanes_threads_rule.specs.Rule.{held}
use Rattle.iox_lanes_threads_rule.specs.Steps.{is_of_sample, of_samples}
use Rattle.iox_lanes_threads_rule.specs.declared.service.Service.{Service}
use Rattle.iox_lanes_threads_rule.specs.declared.view.Port.{Port}
use Rattle.iox_lanes_threads_rule.specs.declared.view.PortParty.{PortParty}
use Rattle.iox_lanes_threads_rule.specs.declared.view.PortParty.TheVariants as party
use Rattle.iox_lanes_threads_rule.proofs.Seen.{seen_words_stand}
use Rattle.iox_lanes_threads_ports.specs.Courses.{subscriber_party, subscriber_stepped, SubscriberGoes}
use Rattle.iox_lanes_threads_ports.specs.Known.{ListsRead}
use Rattle.iox_lanes_threads_ports.specs.ReadLaw.{ReadsStand, ListedWordsStay}
use Rattle.iox_lanes_threads_ports.specs.Ports.{SubscriberStands}
use Rattle.iox_lanes_threads_ports.proofs.Between.{call_after, read_at_end}
use Rattle.iox_lanes_threads_ports.proofs.KnownReads.{subscriber_along}

-- the word stands in the list
abbrev StandsAmong : List SharedWord → SharedWord → Type 0
StandsAmong ws v = (place : ℕ) × (slice_get ws place ≡ Some v)

-- what stands in a list of words, and is of a sample, is kept
kept_seen : (own : PortParty) (ws : List SharedWord) (v : SharedWord) (place : ℕ) → is_of_sample own v ≡ true
    → slice_get ws place ≡ Some v → StandsAmong (of_samples own ws) v
kept_seen own [] v place h e = absurd (cc e)
kept_seen own (w ∷ ws) v zero h e = by_test (is_of_sample own w) (ap (is_of_sample own) (some_is w v e) ∙ h)
  where
    some_is : (x y : SharedWord) → Some x ≡ Some y → x ≡ y
    some_is x y f = cc f

    by_test : (b : Bool) → b ≡ true → StandsAmong ((if b then w ∷ [] else []) ++ of_samples own ws) v
    by_test true f = (0, e)
    by_test false f = absurd (cc f)
kept_seen own (w ∷ ws) v (suc place) h e = by_test (is_of_sample own w) (kept_seen own ws v place h e)
  where
    by_test : (b : Bool) → StandsAmong (of_samples own ws) v → StandsAmong ((if b then w ∷ [] else []) ++ of_samples own ws) v
    by_test true rest = (suc rest.0, rest.1)
    by_test false rest = rest

abbrev words_of_sample : SlotExtent → ℕ
words_of_sample extent = 3 + extent.user_header_words + extent.payload_words

-- the words before a place are listed
abbrev ListedTo : List SharedWord → SlotExtent → ℕ → ℕ → Type 0
ListedTo seen extent slot n = (k : ℕ) → k < n → k < words_of_sample extent → StandsAmong seen (Slot slot (word_at extent k))

-- the slot is a sample
abbrev HasSample : List (Option ℕ) → ℕ → Type 0
HasSample samples slot = is_borrowed (get_or samples slot None) ≡ true

abbrev InListing : SlotExtent → ℕ → List SharedWord → List (Option ℕ) → SubscriberCall → Type 0
InListing extent slot seen samples subscribing.Idle = ListedTo seen extent slot (words_of_sample extent)
InListing extent slot seen samples (subscribing.Receiving place route pop waits) = ⊥
InListing extent slot seen samples (subscribing.Received receipt) = ⊥
InListing extent slot seen samples (subscribing.Reading s w e) =
    (s ≡ slot) × (e ≡ extent) × HasSample samples slot × ListedTo seen extent slot w
InListing extent slot seen samples (subscribing.WasRead s) = ListedTo seen extent slot (words_of_sample extent)
InListing extent slot seen samples (subscribing.Releasing place route push) = ⊥
InListing extent slot seen samples (subscribing.Released done) = ⊥

listed_from : (seen : List SharedWord) (samples : List (Option ℕ)) (extent : SlotExtent) (slot n : ℕ) (b : Bool)
    → nat_lt n (words_of_sample extent) ≡ b → HasSample samples slot → ListedTo seen extent slot n
    → InListing extent slot seen samples (if b then subscribing.Reading slot n extent else subscribing.WasRead slot)
listed_from seen samples extent slot n true e has to = (refl, refl, has, to)
listed_from seen samples extent slot n false e has to = λ k within less. let past : words_of_sample extent ≤ n
    = ltb-false n (words_of_sample extent) e in to k (omega (arith, less, past)) less

-- one more word
one_more : (own : PortParty) (seen : List SharedWord) (extent : SlotExtent) (slot w : ℕ)
    → ((k : ℕ) → is_of_sample own (Slot slot (word_at extent k)) ≡ true) → ListedTo seen extent slot w
    → ListedTo (of_samples own (Slot slot (word_at extent w) ∷ seen)) extent slot (successor w)
one_more own seen extent slot w has to k less within = elim (cases_order k w) [
  | inl same ↦ kept_seen own (Slot slot (word_at extent w) ∷ seen) (Slot slot (word_at extent k)) 0 (has k)
      (ap (λ (z : ℕ). Some (Slot slot (word_at extent z))) (sym same))
  | inr rest ↦ elim rest [
    | inl before ↦
        let was = to k before within in
        kept_seen own (Slot slot (word_at extent w) ∷ seen) (Slot slot (word_at extent k)) (suc was.0) (has k) was.1
    | inr behind ↦ absurd (omega (arith, less, behind))
  ]
]

module _ (extent : SlotExtent) (slot : ℕ) (q : Port) (routes : List Route) (borrowed : List ℕ) (most n : ℕ) (state : SubscriberState)
    (lane : SubscriberLaneState) (after : ℕ → PortParty) (after_is : after n ≡ party.Subscriber lane) where
  listing_goes : (c : SubscriberCall) → lane.port.samples ≡ (changed (subscriber_change c n) state).samples
      → InListing extent slot q.seen state.samples c
      → InListing extent slot (stepped q (subscriber_next c) n after).seen lane.port.samples (subscriber_take routes borrowed most c n)
  listing_goes subscribing.Idle same h = h
  listing_goes (subscribing.Receiving place route pop waits) same h = absurd h
  listing_goes (subscribing.Received receipt) same h = absurd h
  listing_goes (subscribing.Reading s w e) same h =
      let has : HasSample lane.port.samples slot = ap (λ (xs : List (Option ℕ)). is_borrowed (get_or xs slot None)) same ∙ h.2 in
      let kept : (k : ℕ) → is_of_sample (after n) (Slot slot (word_at extent k)) ≡ true
      = λ k. ap (λ (own : PortParty). is_of_sample own (Slot slot (word_at extent k))) after_is ∙ has in
      subst (λ (z : ℕ × SlotExtent). InListing extent slot
      (stepped q (subscriber_next (subscribing.Reading z.0 w z.1)) n after).seen lane.port.samples (read_at z.0 z.1 (successor w)))
      (λ i. (sym h.0 i, sym h.1 i))
      (listed_from (stepped q (subscriber_next (subscribing.Reading slot w extent)) n after).seen lane.port.samples extent slot
      (successor w) (nat_lt (successor w) (words_of_sample extent)) refl has (one_more (after n) q.seen extent slot w kept h.3))
  listing_goes (subscribing.WasRead s) same h = h
  listing_goes (subscribing.Releasing place route push) same h = absurd h
  listing_goes (subscribing.Released done) same h = absurd h

-- a subscriber that reads
abbrev IsListing : SlotExtent → ℕ → Port → SubscriberLaneState → Type 0
IsListing extent slot q lane = InListing extent slot q.seen lane.port.samples lane.port.call

listing_on : (extent : SlotExtent) (slot : ℕ) (q : Port) (now : SubscriberLaneState) (n : ℕ) → SubscriberStands q now
    → ToldBy q (subscriber_next now.port.call) n → IsListing extent slot q now
    → IsListing extent slot (subscriber_stepped q now n) (subscriber_after n now)
listing_on extent slot q now n stands told h =
    subst (InListing extent slot (subscriber_stepped q now n).seen (subscriber_after n now).port.samples) (sym (call_after now n))
    (listing_goes extent slot q now.port.routes now.port.borrowed now.port.most_borrowed n
    (record now.port { call = subscriber_take now.port.routes now.port.borrowed now.port.most_borrowed now.port.call n })
    (subscriber_after n now) (subscriber_party now) refl now.port.call refl h)

both_true : (a b : Bool) → (a && b) ≡ true → b ≡ true
both_true true b e = e
both_true false b e = absurd (cc e)

-- the words that a read lists
pub read_listed : (p q : Port) (old mine begun last : SubscriberLaneState) (sample : ℕ) → SubscriberStands p begun → old ≡ mine
    → subscriber_fits mine (Begin (call.Read sample)) ≡ true → begun ≡ subscriber_begun 0 (call.Read sample) mine
    → SubscriberGoes p begun q last → subscriber_is_over last.port.call ≡ true → ListsRead q old.port.extent sample
read_listed p q old mine begun last sample stands same fit begins run over =
    let stands' : SubscriberStands p (subscriber_begun 0 (call.Read sample) mine) = subst (SubscriberStands p) begins stands in
    let run' : SubscriberGoes p (subscriber_begun 0 (call.Read sample) mine) q last
    = subst (λ (l : SubscriberLaneState). SubscriberGoes p l q last) begins run in
    let ends : last.port.call ≡ subscribing.WasRead sample = read_at_end p mine sample q last run' over in
    let has : HasSample mine.port.samples sample
    = both_true (subscriber_is_idle mine.port.call) (is_borrowed (place_of sample mine)) fit in
    let first : IsListing mine.port.extent sample p (subscriber_begun 0 (call.Read sample) mine) =
    listed_from p.seen mine.port.samples mine.port.extent sample 0 (nat_lt 0 (words_of_sample mine.port.extent)) refl has
    (λ k less within. absurd (omega (arith, less))) in
    let end = subscriber_along (IsListing mine.port.extent sample) (listing_on mine.port.extent sample) p
    (subscriber_begun 0 (call.Read sample) mine) q last run' stands' first in
    let all : ListedTo q.seen mine.port.extent sample (words_of_sample mine.port.extent)
    = subst (λ (c : SubscriberCall). InListing mine.port.extent sample q.seen last.port.samples c) ends end.1 in
    subst (λ (l : SubscriberLaneState). ListsRead q l.port.extent sample) (sym same) (λ k less. all k less less)

-- what it lent stands in the slot's words, and the port that stores them knows it
pub reads_stand : ReadsStand
reads_stand s words ports at number q p extent slot lent fit back early there listed knows whole k within =
    let among = listed k (omega (arith, within, whole)) in
    let stand = seen_words_stand s words ports at number among.0 q p (Slot slot (word_at extent k)) fit back early there among.1 in
    let is : held s q.known (Slot slot (word_at extent k)) ≡ slice_index lent k
    = ap (λ (t : Service). held t q.known (Slot slot (word_at extent k))) (sym (fit.ports at q there).service)
    ∙ knows k within (omega (arith, within, whole)) in
    (sym (stand.0 ∙ is), (λ here stores. sym (stand.1 here stores) ∙ is))

pub listed_words_stay : ListedWordsStay
listed_words_stay p (Load v) answer place after w there is = kept_seen (after answer) (v ∷ p.seen) w (suc place) is there
listed_words_stay p (Store v new) answer place after w there is = kept_seen (after answer) p.seen w place is there
listed_words_stay p (Exchange v old new) answer place after w there is = kept_seen (after answer) p.seen w place is there
listed_words_stay p Local answer place after w there is = (place, there)
