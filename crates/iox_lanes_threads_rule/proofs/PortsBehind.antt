-- What a port does with a shared word, the lanes that words and ports represent do, too.
use Rattle.std.proofs.Common.{ℕ, zero, suc, ◌≡◌, ◌<◌, ◌≤◌, ◌^◌, ◌==◌, Bool, true, false, if◌then◌else◌, List, [], ◌∷◌, map}
use Rattle.std.proofs.Common.{length, set}
use Rattle.std.proofs.Common.{slice_get, slice_index, refl, sym, ◌∙◌, ap, subst, inl, inr, arith}
use Rattle.std.specs.List.{All}
use Rattle.std.proofs.lemmas.List.Elements.{All-cons, All-weaker}
use mathlib.Core.Option.{some}
use lib.ListN.{get_elem?}
use Rattle.atomic_table.proofs.Lists.{at_set}
use Rattle.iox_lanes_machine.specs.QueuesSteps.declared.access.Word.TheVariants.{Write}
use Rattle.iox_lanes_machine.specs.LanesBase.Numbers.{number_of, words_of, IsWord}
use Rattle.iox_lanes_machine.specs.LanesBase.Table.{TableWords, stored_in, shared_answer, after_shared}
use Rattle.iox_lanes_machine.specs.LanesBase.Publishing.{publisher_next, publisher_is_idle}
use Rattle.iox_lanes_machine.specs.LanesBase.Subscribing.{subscriber_next, subscriber_is_idle}
use Rattle.iox_lanes_machine.specs.LanesBase.declared.calls.publisher.PublisherCall.{PublisherCall}
use Rattle.iox_lanes_machine.specs.LanesBase.declared.calls.publisher.PublisherCall.TheVariants as publishing
use Rattle.iox_lanes_machine.specs.LanesBase.declared.calls.subscriber.SubscriberCall.{SubscriberCall}
use Rattle.iox_lanes_machine.specs.LanesBase.declared.calls.subscriber.SubscriberCall.TheVariants as subscribing
use Rattle.iox_lanes_machine.specs.LanesBase.declared.words.access.SharedAccess.{SharedAccess}
use Rattle.iox_lanes_machine.specs.LanesBase.declared.words.access.SharedAccess.TheVariants.{Load, Store, Exchange, Local}
use Rattle.iox_lanes_machine.specs.LanesBase.declared.words.word.ConnectionRing.{ConnectionRing}
use Rattle.iox_lanes_machine.specs.LanesBase.declared.words.word.SharedWord.{SharedWord}
use Rattle.iox_lanes_machine.specs.LanesBase.declared.words.word.SharedWord.TheVariants.{Ring, Slot}
use Rattle.iox_lanes_machine.specs.LanesParties.Parties.{PublisherLaneState, SubscriberLaneState, publisher_after, subscriber_after}
use Rattle.iox_lanes_machine.specs.LanesParties.declared.call.Party.{Party}
use Rattle.iox_lanes_machine.specs.LanesParties.declared.call.Party.TheVariants.{Publisher, Subscriber}
use Rattle.iox_lanes_machine.specs.Apart.{OthersStay}
use Rattle.iox_lanes_machine.specs.Rooms.{RoomsKept}
use Rattle.iox_lanes_machine.specs.Together.{HoldTogether}
use Rattle.iox_lanes_machine.specs.World.{World}
use Rattle.iox_lanes_threads_rule.specs.Lanes.{MakesNext, IsEarly, HasPublisher, HasSubscriber, HasParty, IsSeen, IsBacked}
use Rattle.iox_lanes_threads_rule.specs.Lanes.{as_table, line_of}
use Rattle.iox_lanes_threads_rule.specs.Rule.{held, Fits}
use Rattle.iox_lanes_threads_rule.specs.Service.{IsPosition, read_word}
use Rattle.iox_lanes_threads_rule.specs.Steps.{is_of_sample, learned, known_exchanged}
use Rattle.iox_lanes_threads_rule.specs.Slots.{LoadsLeaveLanes, StoresLeaveLanes, ExchangesLeaveLanes}
use Rattle.iox_lanes_threads_rule.specs.declared.service.Service.{Service}
use Rattle.iox_lanes_threads_rule.specs.declared.view.Port.{Port}
use Rattle.iox_lanes_threads_rule.specs.declared.view.PortParty.{PortParty}
use Rattle.iox_lanes_threads_rule.specs.declared.view.PortParty.TheVariants as party
use Rattle.iox_lanes_threads_rule.proofs.Behind.{AfterAccess, went_on}
use Rattle.iox_lanes_threads_rule.proofs.Held.{word_at, at_same, at_other, at_kept}
use Rattle.iox_lanes_threads_rule.proofs.Keeping.{one_number}
use Rattle.iox_lanes_threads_rule.proofs.Loans.{slot_stores_are_of_loans}
use Rattle.iox_lanes_threads_rule.proofs.Seen.{sample_slot, samples_kept, exchanged_else}
use Rattle.iox_lanes_threads_rule.proofs.PublisherBehind.{publisher_steps, publisher_reaches}
use Rattle.iox_lanes_threads_rule.proofs.SubscriberBehind.{subscriber_steps, subscriber_reaches}

-- a publisher that touches a shared word next is inside a call
busy_publisher : (c : PublisherCall) (access : SharedAccess) → publisher_next c ≡ access → (access ≡ Local → ⊥) → publisher_is_idle c
    ≡ false
busy_publisher publishing.Idle access next off = absurd (off (sym next))
busy_publisher (publishing.LoanReclaims place route pop) access next off = refl
busy_publisher publishing.Lending access next off = refl
busy_publisher (publishing.Writing slot word value) access next off = refl
busy_publisher (publishing.Written slot) access next off = refl
busy_publisher (publishing.Heading slot word value) access next off = refl
busy_publisher (publishing.Remembering slot) access next off = refl
busy_publisher (publishing.SendReclaims slot place route pop) access next off = refl
busy_publisher (publishing.Pushing slot place route push delivery) access next off = refl
busy_publisher (publishing.Sent slot delivery) access next off = refl
busy_publisher (publishing.Dropping slot) access next off = refl

busy_subscriber : (c : SubscriberCall) (access : SharedAccess) → subscriber_next c ≡ access → (access ≡ Local → ⊥)
    → subscriber_is_idle c ≡ false
busy_subscriber subscribing.Idle access next off = absurd (off (sym next))
busy_subscriber (subscribing.Receiving place route pop waits) access next off = refl
busy_subscriber (subscribing.Received receipt) access next off = refl
busy_subscriber (subscribing.Reading slot word extent) access next off = refl
busy_subscriber (subscribing.WasRead slot) access next off = refl
busy_subscriber (subscribing.Releasing place route push) access next off = refl
busy_subscriber (subscribing.Released done) access next off = refl

-- lanes in which a party made an access
abbrev MadeAccess : World → Party → SharedAccess → PortParty → Type 0
MadeAccess m who access own = (n : World) × AfterAccess m who access n × HasParty n who own

-- the lanes go on as a party does
party_goes : (m : World) (who : Party) (own : PortParty) (access : SharedAccess) (after : ℕ → PortParty) → HoldTogether m
    → RoomsKept m → m.moments < 2 ^ 63 → IsEarly m.table → IsEarly (after_shared m.table access) → (access ≡ Local → ⊥)
    → HasParty m who own → MakesNext own access after → MadeAccess m who access (after (shared_answer m.table access))
party_goes m (Publisher place) (party.Publisher lane) access after k rooms few early still off has acts =
    let r = publisher_reaches m place lane acts.now k rooms few early has acts.comes in
    let busy = busy_publisher acts.now.port.call access acts.next off in
    let later : IsEarly (after_shared (r.0).table access)
    = subst (λ (t : TableWords). IsEarly (after_shared t access)) (sym (r.1).table) still in
    let t = publisher_steps r.0 place acts.now access (r.1).together (r.1).rooms (r.1).few r.2 busy acts.next later in
    let own : HasPublisher t.0 place (publisher_after (shared_answer m.table access) acts.now)
    = subst (λ (b : TableWords). HasPublisher t.0 place (publisher_after (shared_answer b access) acts.now)) (r.1).table t.2 in (
      t.0,
      went_on m r.0 t.0 (Publisher place) access r.1 t.1,
      subst (HasParty t.0 (Publisher place)) (sym (acts.after_is (shared_answer m.table access))) own,
    )
party_goes m (Publisher place) (party.Subscriber lane) access after k rooms few early still off has acts = absurd has
party_goes m (Subscriber place) (party.Publisher lane) access after k rooms few early still off has acts = absurd has
party_goes m (Subscriber place) (party.Subscriber lane) access after k rooms few early still off has acts =
    let r = subscriber_reaches m place lane acts.now k rooms few early has acts.comes in
    let busy = busy_subscriber acts.now.port.call access acts.next off in
    let later : IsEarly (after_shared (r.0).table access)
    = subst (λ (t : TableWords). IsEarly (after_shared t access)) (sym (r.1).table) still in
    let t = subscriber_steps r.0 place acts.now access (r.1).together (r.1).rooms (r.1).few r.2 busy acts.next later in
    let own : HasSubscriber t.0 place (subscriber_after (shared_answer m.table access) acts.now)
    = subst (λ (b : TableWords). HasSubscriber t.0 place (subscriber_after (shared_answer b access) acts.now)) (r.1).table t.2 in (
      t.0,
      went_on m r.0 t.0 (Subscriber place) access r.1 t.1,
      subst (HasParty t.0 (Subscriber place)) (sym (acts.after_is (shared_answer m.table access))) own,
    )

-- another party is as it was
other_party : (m n : World) (who name : Party) (own : PortParty) → OthersStay m who n → (name ≡ who → ⊥) → HasParty m name own
    → HasParty n name own
other_party m n (Publisher place) (Publisher other) (party.Publisher lane) stay off has
    = (has.0, stay.1 other (λ e. off (ap (λ (i : ℕ). Publisher i) e)) ∙ has.1)
other_party m n (Publisher place) (Publisher other) (party.Subscriber lane) stay off has = absurd has
other_party m n (Publisher place) (Subscriber other) (party.Publisher lane) stay off has = absurd has
other_party m n (Publisher place) (Subscriber other) (party.Subscriber lane) stay off has
    = (has.0, ap (λ (xs : List SubscriberLaneState). slice_get xs other) stay.0 ∙ has.1)
other_party m n (Subscriber place) (Publisher other) (party.Publisher lane) stay off has
    = (has.0, ap (λ (xs : List PublisherLaneState). slice_get xs other) stay.0 ∙ has.1)
other_party m n (Subscriber place) (Publisher other) (party.Subscriber lane) stay off has = absurd has
other_party m n (Subscriber place) (Subscriber other) (party.Publisher lane) stay off has = absurd has
other_party m n (Subscriber place) (Subscriber other) (party.Subscriber lane) stay off has
    = (has.0, stay.1 other (λ e. off (ap (λ (i : ℕ). Subscriber i) e)) ∙ has.1)

-- a word that holds what the port knows
abbrev Known : Service → List ℕ → List ℕ → SharedWord → Type 0
Known s known now w = IsWord s.sizes w × (held s known w ≡ held s now w)

module _ (s : Service) (words now : List ℕ) (ports : List Port) (p : Port) (seen : List SharedWord) (known : List ℕ)
    (access : SharedAccess) (after : ℕ → PortParty) (found : ℕ) (fit : Fits s words ports) (at : get_elem? ports p.number ≡ some p)
    (next : MakesNext p.party access after) (off : access ≡ Local → ⊥)
    (answer : shared_answer (as_table s words) access ≡ found)
    (table : after_shared (as_table s words) access ≡ as_table s now)
    (before : IsEarly (as_table s now) → IsEarly (as_table s words)) (back : IsBacked s words ports)
    (mine : All (IsSeen s words p) p.seen → All (Known s known now) seen)
    (stay : IsEarly (as_table s words) → (number : ℕ) (r : Port) (w : SharedWord) → get_elem? ports number ≡ some r
    → IsWord s.sizes w → is_of_sample r.party w ≡ true → held s now w ≡ held s words w) where
  abbrev new : Port
  new = learned (record p { seen = seen }) known (after found)

  other_name : (n : ℕ) (r : Port) → get_elem? ports n ≡ some r → (n ≡ p.number → ⊥) → r.name ≡ p.name → ⊥
  other_name n r got apart e = apart (one_number s n p.number r p (fit.ports n r got) (fit.ports p.number p at) e)

  new_seen : All (IsSeen s words p) p.seen → All (IsSeen s now new) new.seen
  new_seen h =
      All-weaker (λ w. Known s known now w × (is_of_sample (after found) w ≡ true)) (IsSeen s now new)
      (λ w k. record { word = k.0.0; sample = k.1; known = k.0.1 }) new.seen
      (samples_kept (Known s known now) (after found) seen (mine h))

  seen_else : IsEarly (as_table s words) → (number : ℕ) (r : Port) → get_elem? ports number ≡ some r → All (IsSeen s words r) r.seen
      → All (IsSeen s now r) r.seen
  seen_else early number r got h =
      All-weaker (IsSeen s words r) (IsSeen s now r)
      (λ w k. record { word = k.word; sample = k.sample; known = k.known ∙ sym (stay early number r w got k.word k.sample) }) r.seen h

  pub backed : IsBacked s now (set ports p.number new)
  backed early =
      let was : IsEarly (as_table s words) = before early in
      let b = back was in
      let same : IsEarly (b.lanes).table = subst IsEarly (sym b.table) was in
      let still : IsEarly (after_shared (b.lanes).table access)
      = subst (λ (t : TableWords). IsEarly (after_shared t access)) (sym b.table) (subst IsEarly (sym table) early) in
      let made = party_goes b.lanes p.name p.party access after b.together b.rooms b.few same still off (b.ports p.number p at) next in
      let told : shared_answer (b.lanes).table access ≡ found = ap (λ (t : TableWords). shared_answer t access) b.table ∙ answer in
      let own : HasParty made.0 p.name (after found) = subst (λ (n : ℕ). HasParty made.0 p.name (after n)) told made.2 in
      record {
        lanes = made.0;
        together = (made.1).together;
        rooms = (made.1).rooms;
        few = (made.1).few;
        table = (made.1).table ∙ ap (λ (t : TableWords). after_shared t access) b.table ∙ table;
        lines = b.lines ∙ ap (map line_of) (sym (made.1).links);
        ports = λ number r got. elim (at_set ports p.number number new r got) [
          | inl here ↦ subst (λ (z : Port). HasParty made.0 z.name z.party) here.1 own
          | inr there ↦ other_party b.lanes made.0 p.name r.name r.party (made.1).others (other_name number r there.1 there.0)
              (b.ports number r there.1)
        ];
        seen = λ number r got. elim (at_set ports p.number number new r got) [
          | inl here ↦ subst (λ (z : Port). All (IsSeen s now z) z.seen) here.1 (new_seen (b.seen p.number p at))
          | inr there ↦ seen_else was number r there.1 (b.seen number r there.1)
        ];
      }

-- a word that is set to what it holds changes nothing
pub set_held : (xs : List ℕ) (i : ℕ) → set xs i (slice_index xs i) ≡ xs
set_held [] i = refl
set_held (x ∷ xs) zero = refl
set_held (x ∷ xs) (suc i) = ap (λ (ys : List ℕ). x ∷ ys) (set_held xs i)

-- where no position fell, early positions were early before
early_before : (s : Service) (words now : List ℕ)
    → ((connection : ℕ) (ring : ConnectionRing) → connection < s.sizes.connections
    → held s words (Ring connection ring Write) ≤ held s now (Ring connection ring Write))
    → IsEarly (as_table s now) → IsEarly (as_table s words)
early_before s words now grows early connection ring there = omega (arith, early connection ring there, grows connection ring there)

pub load_backed : LoadsLeaveLanes
load_backed s words ports p w after fit at is next back =
    let found : ℕ = held s words w in
    let now : List ℕ = set words (number_of s.sizes w) found in
    let known : List ℕ = set p.known (number_of s.sizes w) found in
    let wide : length p.known ≡ words_of s.sizes = (fit.ports p.number p at).wide in
    let same : now ≡ words = set_held words (number_of s.sizes w) in
    let here : Known s known now w = (is, at_same s p.known w found wide is ∙ sym (at_same s words w found fit.wide is)) in
    backed s words now ports p (w ∷ p.seen) known (Load w) after found fit at next (λ e. cc e) refl (ap (as_table s) (sym same))
    (λ early. subst (λ (x : List ℕ). IsEarly (as_table s x)) same early) back
    (λ h. All-cons (Known s known now) w p.seen here
    (All-weaker (IsSeen s words p) (Known s known now)
    (λ v k. (
      k.word,
      elim (word_at s p.known w v found wide is k.word) [
        | inl one ↦ one.1 ∙ ap (held s words) (sym one.0) ∙ sym (at_kept s words w v fit.wide is k.word)
        | inr other ↦ other.1 ∙ k.known ∙ sym (at_kept s words w v fit.wide is k.word)
      ],
    )) p.seen h))
    (λ early number r v got there sample. at_kept s words w v fit.wide is there)

-- a store touches no word of another port's sample
unstored : (s : Service) (words : List ℕ) (ports : List Port) (p r : Port) (number : ℕ) (w v : SharedWord) (new : ℕ)
    (after : ℕ → PortParty) → IsBacked s words ports → IsEarly (as_table s words) → get_elem? ports p.number ≡ some p
    → MakesNext p.party (Store w new) after → get_elem? ports number ≡ some r → is_of_sample r.party v ≡ true → v ≡ w → ⊥
unstored s words ports p r number w v new after back early at next got sample same =
    let slot = sample_slot r.party v sample in
    let stores : MakesNext p.party (Store (Slot slot.0 slot.1) new) after
    = subst (λ (u : SharedWord). MakesNext p.party (Store u new) after) (sym same ∙ slot.2) next in
    (slot_stores_are_of_loans s words ports p slot.0 slot.1 new after back early at stores).1 number r got slot.3

pub store_backed : StoresLeaveLanes
store_backed s words ports p w new after fit at may next back =
    let now : List ℕ = set words (number_of s.sizes w) new in
    let known : List ℕ = set p.known (number_of s.sizes w) new in
    let wide : length p.known ≡ words_of s.sizes = (fit.ports p.number p at).wide in
    backed s words now ports p p.seen known (Store w new) after 0 fit at next (λ e. cc e) refl refl
    (early_before s words now
    (λ connection ring there. elim (word_at s words w (Ring connection ring Write) new fit.wide may.word (there, tt)) [
      | inl same ↦
          let up : held s p.known w ≤ new = may.grows (subst IsPosition same.0 tt) in
          let own : held s p.known w ≡ held s words w = fit.copied p.number p w at may.word may.own in
          let here : held s words (Ring connection ring Write) ≡ held s words w = ap (held s words) same.0 in
          omega (arith, up, own, here, same.1)
      | inr other ↦ omega (arith, other.1)
    ])) back
    (λ h. All-weaker (IsSeen s words p) (Known s known now)
    (λ v k. (
      k.word,
      elim (word_at s p.known w v new wide may.word k.word) [
        | inl one ↦ one.1 ∙ sym (ap (held s now) one.0 ∙ at_same s words w new fit.wide may.word)
        | inr other ↦ other.1 ∙ k.known ∙ sym (at_other s words w v new may.word k.word other.0)
      ],
    )) p.seen h)
    (λ early number r v got there sample. at_other s words w v new may.word there
    (λ same. unstored s words ports p r number w v new after back early at next got sample same))

-- the table after an exchange, won or lost
exchanged_table : (s : Service) (words : List ℕ) (w : SharedWord) (value : ℕ) (b : Bool)
    → (if b then stored_in (as_table s words) w value else as_table s words)
    ≡ as_table s (set words (number_of s.sizes w) (if b then value else held s words w))
exchanged_table s words w value true = refl
exchanged_table s words w value false = ap (as_table s) (sym (set_held words (number_of s.sizes w)))

-- a word of a sample is no position
no_read : (own : PortParty) (w : SharedWord) (c : ℕ) → is_of_sample own w ≡ true → w ≡ read_word c → ⊥
no_read own w c sample e = let slot = sample_slot own w sample in cc (sym slot.2 ∙ e)

pub exchange_backed : ExchangesLeaveLanes
exchange_backed s words ports p w old new after fit at may next back =
    let found : ℕ = held s words w in
    let x : ℕ = if found == old then new else found in
    let now : List ℕ = set words (number_of s.sizes w) x in
    let known : List ℕ = known_exchanged p.name p.known (number_of s.sizes w) old new found in
    let is : IsWord s.sizes w = subst (IsWord s.sizes) (sym may.word) (may.ring.there, tt) in
    backed s words now ports p p.seen known (Exchange w old new) after found fit at next (λ e. cc e)
    refl (exchanged_table s words w new (found == old))
    (early_before s words now
    (λ connection ring there. elim (word_at s words w (Ring connection ring Write) x fit.wide is (there, tt)) [
      | inl same ↦ absurd (no_write connection ring may.connection (same.0 ∙ may.word))
      | inr other ↦ omega (arith, other.1)
    ])) back
    (λ h. All-weaker (IsSeen s words p) (Known s known now)
    (λ v k. (
      k.word,
      known_else p.party v k.word k.sample ∙ k.known ∙ sym (at_other s words w v x is k.word
          (λ e. no_read p.party v may.connection k.sample (e ∙ may.word))),
    )) p.seen h)
    (λ early number r v got there sample. at_other s words w v x is there
    (λ e. no_read r.party v may.connection sample (e ∙ may.word)))
  where
    no_write : (connection : ℕ) (ring : ConnectionRing) (c : ℕ) → Ring connection ring Write ≡ read_word c → ⊥
    no_write connection ring c e = cc e

    known_else : (own : PortParty) (v : SharedWord) → IsWord s.sizes v → is_of_sample own v ≡ true
        → held s (known_exchanged p.name p.known (number_of s.sizes w) old new (held s words w)) v ≡ held s p.known v
    known_else own v there sample =
        let slot = sample_slot own v sample in
        subst (λ (z : SharedWord × SharedWord). held s (known_exchanged p.name p.known (number_of s.sizes z.0) old new (held s words w)) z.1
        ≡ held s p.known z.1) (λ i. (sym may.word i, sym slot.2 i))
        (exchanged_else s p.name p.known may.connection may.line old new (held s words w) slot.0 slot.1 may.ring
        (subst (IsWord s.sizes) slot.2 there))
