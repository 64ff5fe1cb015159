-- No call of a publisher ends the connection of a subscriber that is listed and reads there.
use Rattle.std.proofs.Common.{arith, ◌≡◌, ◌≢◌, ◌∙◌, ◌+◌, ◌-◌, ◌<◌, ◌==◌, ◌∷◌, [], ℕ, zero, suc, Bool, true, false, not, List, get_or}
use Rattle.std.proofs.Common.{length, Option, None, Some, Result, Ok, Err, if◌then◌else◌, refl, sym, ap, inl, inr}
use Rattle.std.proofs.lemmas.Bool.{cases_eq, eq-eqb}
use Rattle.std.specs.declared.alloc.AllocError.{AllocError}
use Rattle.iox_domain.specs.Container.declared.container.Member.{Member}
use Rattle.iox_domain.specs.PortsPublishing.{is_free, is_blocked, UpdatesOne, SendsOne}
use Rattle.iox_domain.specs.PortsPublishing as publishing
use Rattle.iox_domain.specs.Rolls.{RollState, IsListOf}
use Rattle.iox_domain.specs.DomainPorts.Places.{leads_to}
use Rattle.iox_domain.specs.DomainPorts.Ports.{connection_of, connection_to, is_live, greeted_at}
use Rattle.iox_domain.specs.DomainPorts.Sending.{ready_loan}
use Rattle.iox_domain.specs.DomainPorts.Ties.{tie_put}
use Rattle.iox_domain.specs.DomainPorts.PublisherUpdating.{is_tie_to, let_go_of, untied, untied_from, within_reach, tied, Ties, FollowsTo}
use Rattle.iox_domain.specs.DomainPorts.PublisherUpdating.{Follows, FollowsAll, UpdatesIf, Updates}
use Rattle.iox_domain.specs.DomainPorts.declared.meeting.Sent.{Sent}
use Rattle.iox_domain.specs.DomainPorts.declared.publisher_port.PublisherPort.{PublisherPort}
use Rattle.iox_domain.specs.DomainPorts.declared.subscriber_entry.SubscriberEntry.{SubscriberEntry}
use Rattle.iox_domain.specs.DomainPorts.Messages.{Message}
use Rattle.iox_domain.specs.DomainSlots.Uses.{welcomed}
use Rattle.iox_domain.specs.DomainValues.declared.backpressure.BackpressureDecision.{BackpressureDecision}
use Rattle.iox_domain.specs.DomainValues.declared.backpressure.BackpressureInfo.{BackpressureInfo}
use Rattle.iox_domain.specs.DomainValues.declared.connection_failure.ConnectionFailure.{ConnectionFailure}
use Rattle.iox_domain.specs.DomainValues.declared.degradation.DegradationAction.{DegradationAction}
use Rattle.iox_domain.specs.DomainValues.declared.degradation.DegradationInfo.{DegradationInfo}
use Rattle.iox_domain.specs.DomainValues.declared.port_error.SendError.{SendError}
use Rattle.iox_domain.specs.PortLawsLaws.{IsListApart, IsTiedWell}
use Rattle.iox_domain.proofs.Carrying.{Carries, carry_sends}
use Rattle.iox_domain.proofs.TiedWell.{Alike, alike_is, alike_still, alike_waiting, steps_untied, well_alike}
use Rattle.iox_domain.proofs.TiedUpdates.{follows_well, updates_well}
use Rattle.iox_domain.proofs.WellKept.{told_same}
use Rattle.iox_domain.specs.Roomy.{IsReadBy, LeadsOn}
use Rattle.iox_domain.proofs.Bools.{both_true}
use Rattle.iox_domain.proofs.Reading.{read_alike, lead_alike, read_is, read_ended, read_joins}

-- a place whose tie isn't to the subscriber is untied
read_let_go : {T U : Type 0} (subscriber index place : ℕ) (tie : Option ℕ) (port : PublisherPort T U)
    → is_tie_to subscriber tie port ≡ false → IsReadBy subscriber index port → IsReadBy subscriber index (let_go_of place tie port)
read_let_go subscriber index place None port not reads = reads
read_let_go {T} {U} subscriber index place (Some at) port not reads =
    let gone : PublisherPort T U = record port { ties = tie_put place None port.ties } in
    let apart : index ≢ at = λ same.
    let led : leads_to subscriber (get_or port.readers at None) ≡ true
    = ap (λ i. leads_to subscriber (get_or port.readers i None)) (sym same) ∙ ap (λ reader. leads_to subscriber reader) reads.reader
    ∙ eq-eqb subscriber subscriber refl in
    let no : true ≡ false = sym led ∙ not in cc in
    read_ended subscriber index at gone apart (record { live = reads.live; reader = reads.reader })

read_untied : {T U : Type 0} (subscriber index place : ℕ) (port : PublisherPort T U)
    → is_tie_to subscriber (get_or port.ties.items place None) port ≡ false → IsReadBy subscriber index port
    → IsReadBy subscriber index (untied place port)
read_untied subscriber index place port not reads = read_let_go subscriber index place (get_or port.ties.items place None) port not reads

-- n places that don't list it are untied
read_untied_from : {T U : Type 0} (next : ℕ) (places : List (Option (Member SubscriberEntry))) (listed : ℕ)
    (member : Member SubscriberEntry) (count index place : ℕ) (port : PublisherPort T U) → get_or places listed None ≡ Some member
    → listed < place
    → IsTiedWell next places port → IsReadBy member.value.subscriber index port
    → IsReadBy member.value.subscriber index (untied_from count place port)
read_untied_from next places listed member zero index place port is before well reads = reads
read_untied_from next places listed member (suc count) index place port is before well reads =
    let none = well.alone listed place member is (λ same. absurd (omega (arith, same, before))) in
    read_untied_from next places listed member count index (place + 1) (untied place port) is (omega (arith, before))
    ((steps_untied next places place port).well well)
    (read_untied member.value.subscriber index place port none reads)

-- a place is tied
alike_greeted : {T U : Type 0} (index : ℕ) (live : Bool) (waiting : List (Message T U)) (port : PublisherPort T U)
    → Alike port (if live then greeted_at index waiting port else port)
alike_greeted index false waiting port = alike_is port port refl
alike_greeted index true [] port = alike_waiting index (welcomed port.sender.uses.history (connection_of index port)) port refl
alike_greeted index true (message ∷ waiting) port = alike_is port port refl

read_tied : {T U : Type 0} (subscriber index place at : ℕ) (joined : PublisherPort T U) → IsReadBy subscriber index joined
    → IsReadBy subscriber index (tied place at joined)
read_tied {T} {U} subscriber index place at joined reads =
    let given : PublisherPort T U = record joined { ties = tie_put place (Some at) joined.ties } in
    read_alike subscriber index given (tied place at joined)
    (alike_greeted at (is_live at given) (connection_of at given).waiting given) (record { live = reads.live; reader = reads.reader })

read_ties : {T U : Type 0} (subscriber index place : ℕ) (entry : SubscriberEntry) (old new : PublisherPort T U)
    (outcome : Result (Unit {0}) AllocError) → Ties place entry old outcome new → IsReadBy subscriber index old
    → IsReadBy subscriber index new
read_ties subscriber index place entry old new (Err error) ties reads = read_is subscriber index old new ties.1 reads
read_ties subscriber index place entry old new (Ok done) (at, joined, joins, is) reads =
    read_is subscriber index (tied place at joined) new is
    (read_tied subscriber index place at joined
    (read_joins subscriber index entry.subscriber _ at (connection_to entry.subscriber old) (within_reach place old) joined joins
    (record { live = reads.live; reader = reads.reader })))

-- a place is followed
read_follows_to : {T U : Type 0} (subscriber index place : ℕ) (entry : SubscriberEntry) (is_tie : Bool) (old new : PublisherPort T U)
    (outcome : Result (Unit {0}) AllocError) → (is_tie ≡ false → is_tie_to subscriber (get_or old.ties.items place None) old ≡ false)
    → FollowsTo place entry is_tie old outcome new → IsReadBy subscriber index old → IsReadBy subscriber index new
read_follows_to subscriber index place entry true old new outcome not follows reads = read_is subscriber index old new follows.1 reads
read_follows_to subscriber index place entry false old new outcome not follows reads
    = read_ties subscriber index place entry (untied place old) new outcome follows
    (read_untied subscriber index place old (not refl) reads)

read_follows : {T U : Type 0} (next : ℕ) (places : List (Option (Member SubscriberEntry))) (listed : ℕ)
    (member : Member SubscriberEntry) (index place : ℕ) (item : Option (Member SubscriberEntry)) (old new : PublisherPort T U)
    (outcome : Result (Unit {0}) AllocError)
    → get_or places listed None ≡ Some member → get_or places place None ≡ item → IsTiedWell next places old
    → Follows place item old outcome new → IsReadBy member.value.subscriber index old → IsReadBy member.value.subscriber index new
read_follows next places listed member index place None old new outcome is here well follows reads =
    let not : place ≢ listed = λ same. let no : None ≡ Some member = sym here ∙ ap (λ n. get_or places n None) same ∙ is in cc in
    read_is member.value.subscriber index (untied place old) new follows.1
    (read_untied member.value.subscriber index place old (well.alone listed place member is not) reads)
read_follows next places listed member index place (Some one) old new outcome is here well follows reads =
    read_follows_to member.value.subscriber index place one.value
    (is_tie_to one.value.subscriber (get_or old.ties.items place None) old) old new outcome
    (λ none. elim (cases_eq place listed) [
      | inl same ↦
          let both : Some one ≡ Some member = sym here ∙ ap (λ n. get_or places n None) same ∙ is in
          let own : member ≡ one = cc in
          ap (λ (m : Member SubscriberEntry). is_tie_to m.value.subscriber (get_or old.ties.items place None) old) own ∙ none
      | inr not ↦ well.alone listed place member is not
    ]) follows reads

read_follows_all : {T U : Type 0} (next : ℕ) (places : List (Option (Member SubscriberEntry))) (at : ℕ)
    (member : Member SubscriberEntry) (index : ℕ) (may : DegradationInfo → DegradationAction → Type 0) (first : ℕ)
    (listed : List (Option (Member SubscriberEntry)))
    (found : Option ConnectionFailure) (old new : PublisherPort T U) (answer : Result (Unit {0}) ConnectionFailure)
    → IsListApart next places → get_or places at None ≡ Some member → at < first + length listed
    → ((k : ℕ) → k < length listed → get_or places (first + k) None ≡ get_or listed k None) → IsTiedWell next places old
    → FollowsAll may first listed found old answer new → IsReadBy member.value.subscriber index old
    → IsReadBy member.value.subscriber index new
read_follows_all next places at member index may first [] found old new answer list is before same well follows reads =
    read_is member.value.subscriber index (untied_from (length old.ties.items - first) first old) new follows.1
    (read_untied_from next places at member (length old.ties.items - first) index first old is (omega (arith, before)) well reads)
read_follows_all next places at member index may first (item ∷ rest) found old new answer list is before same well
    (outcome, between, after, one, asks, further) reads =
    let here : get_or places first None ≡ item = ap (λ n. get_or places n None) (omega arith) ∙ same zero (omega arith) in
    let step = follows_well next places first item old between outcome list here well one in
    read_follows_all next places at member index may (first + 1) rest after between new answer list is (omega (arith, before))
    (λ k within. ap (λ n. get_or places n None) (omega arith) ∙ same (suc k) (omega (arith, within))) step.1 further
    (read_follows next places at member index first item old between outcome is here well one reads)

read_updates_if : {T U : Type 0} (next : ℕ) (places : List (Option (Member SubscriberEntry))) (at : ℕ) (member : Member SubscriberEntry)
    (index : ℕ) (seen : Bool) (may : DegradationInfo → DegradationAction → Type 0) (listed : List (Option (Member SubscriberEntry)))
    (changes : ℕ) (old new : PublisherPort T U) (answer : Result (Unit {0}) ConnectionFailure) → IsListApart next places
    → get_or places at None ≡ Some member → at < length listed → ((k : ℕ) → get_or places k None ≡ get_or listed k None)
    → IsTiedWell next places old → UpdatesIf seen may listed changes old answer new → IsReadBy member.value.subscriber index old
    → IsReadBy member.value.subscriber index new
read_updates_if next places at member index true may listed changes old new answer list is within same well updates reads
    = read_is member.value.subscriber index old new updates.1 reads
read_updates_if {T} {U} next places at member index false may listed changes old new answer list is within same well updates reads =
    let begun : PublisherPort T U = record old { seen = changes } in
    let first = well_alike next places old begun (alike_still old begun refl refl refl refl) well in
    read_follows_all next places at member index may 0 listed None begun new answer list is (omega (arith, within))
    (λ k below. ap (λ n. get_or places n None) (omega arith) ∙ same k) first updates
    (record { live = reads.live; reader = reads.reader })

-- a place that lists somebody is within the list
within_listed : (listed : List (Option (Member SubscriberEntry))) (at : ℕ) (member : Member SubscriberEntry)
    → get_or listed at None ≡ Some member → at < length listed
within_listed [] at member is = cc
within_listed (x ∷ xs) zero member is = omega arith
within_listed (x ∷ xs) (suc at) member is = omega (arith, within_listed xs at member is)

-- The effect of a step of a publisher: listed subscribers that read still read, and connections that have a reader continue.
pub record Listens {T U : Type 0} (places : List (Option (Member SubscriberEntry))) (old new : PublisherPort T U) : Type 0 where
  pub reads : (at : ℕ) (member : Member SubscriberEntry) → get_or places at None ≡ Some member → (index : ℕ)
      → IsReadBy member.value.subscriber index old → IsReadBy member.value.subscriber index new
  pub lead : LeadsOn old → LeadsOn new

pub listens_alike : {T U : Type 0} (places : List (Option (Member SubscriberEntry))) (old new : PublisherPort T U) → Alike old new
    → Listens places old new
listens_alike places old new alike = record
    { reads = λ at member is index. read_alike member.value.subscriber index old new alike; lead = lead_alike old new alike }

listens_on : {T U : Type 0} (places : List (Option (Member SubscriberEntry))) (old between new : PublisherPort T U)
    → Listens places old between → Listens places between new → Listens places old new
listens_on places old between new one two
    = record {
      reads = λ at member is index reads. two.reads at member is index (one.reads at member is index reads);
      lead
          = λ lead. two.lead (one.lead lead);
    }

listens_carries : {T U : Type 0} (places : List (Option (Member SubscriberEntry)))
    → Carries (λ (old : PublisherPort T U) (new : PublisherPort T U). Listens places old new)
listens_carries places = record {
  is = λ old new is. listens_alike places old new (alike_is old new is);
  on = listens_on places;
  still = λ old new connections ties readers stands sizes. listens_alike places old new
      (alike_still old new connections ties readers stands);
  waiting = λ index waiting port live few. listens_alike places port _
      (alike_waiting index (record (connection_of index port) { waiting = waiting }) port refl);
}

listens_updates : {T U : Type 0} (next : ℕ) (list : RollState SubscriberEntry) (may : DegradationInfo → DegradationAction → Type 0)
    (listed : List (Option (Member SubscriberEntry))) (old new : PublisherPort T U) (answer : Result (Unit {0}) ConnectionFailure)
    → IsListApart next list.places → IsListOf listed list → IsTiedWell next list.places old
    → Updates may listed list.changes old answer new → Listens list.places old new
listens_updates next list may listed old new answer apart is well updates = record {
  reads = λ at member there index. read_updates_if next list.places at member index (old.seen == list.changes) may listed list.changes
      old new answer apart there
      (within_listed listed at member (sym (told_same listed list is at) ∙ there)) (told_same listed list is) well updates;
  lead = λ lead. (updates_well next list.places may listed list.changes old new answer apart (λ k within. told_same listed list is k)
      well updates).1.read;
}

listens_update : {T U : Type 0} (next : ℕ) (list : RollState SubscriberEntry) (free : Bool)
    (may : DegradationInfo → DegradationAction → Type 0) (old new : PublisherPort T U)
    (answer : Option (Result (Unit {0}) ConnectionFailure))
    → IsListApart next list.places → (old.stands ≡ true → IsTiedWell next list.places old) → is_free old ≡ free
    → publishing.UpdatesIf free may list old answer new → Listens list.places old new
listens_update next list false may old new answer apart well free updates = listens_alike list.places old new (alike_is old new updates.1)
listens_update next list true may old new answer apart well free (listed, is_list, outcome, updates, is) =
    listens_updates next list may listed old new outcome apart is_list (well (both_true old.stands (not (is_blocked old)) free).0) updates

pub listens_updates_one : {T U : Type 0} (next : ℕ) (list : RollState SubscriberEntry)
    (may : DegradationInfo → DegradationAction → Type 0) (old new : PublisherPort T U)
    (answer : Option (Result (Unit {0}) ConnectionFailure))
    → IsListApart next list.places → (old.stands ≡ true → IsTiedWell next list.places old) → UpdatesOne may list old answer new
    → Listens list.places old new
listens_updates_one next list may old new answer apart well updates
    = listens_update next list (is_free old) may old new answer apart well refl updates

pub listens_sends_one : {T U : Type 0} (next : ℕ) (list : RollState SubscriberEntry)
    (may_degrade : DegradationInfo → DegradationAction → Type 0) (may : BackpressureInfo → BackpressureDecision → Type 0) (slot : ℕ)
    (old new : PublisherPort T U) (answer : Option (Result Sent SendError))
    → IsListApart next list.places → (old.stands ≡ true → IsTiedWell next list.places old)
    → SendsOne may_degrade may list slot old answer new → Listens list.places old new
listens_sends_one next list may_degrade may slot old new answer apart well sends =
    carry_sends (listens_carries list.places) may_degrade may sends.0 list.changes (ready_loan slot old) old new answer
    (λ stands outcome updated updates. listens_updates next list may_degrade sends.0 old updated outcome apart sends.1 (well stands)
    updates) sends.2

-- an update of a publisher that comes
pub lead_updates : {T U : Type 0} (next : ℕ) (list : RollState SubscriberEntry) (may : DegradationInfo → DegradationAction → Type 0)
    (listed : List (Option (Member SubscriberEntry))) (old new : PublisherPort T U) (answer : Result (Unit {0}) ConnectionFailure)
    → IsListApart next list.places → IsListOf listed list → IsTiedWell next list.places old
    → Updates may listed list.changes old answer new → LeadsOn new
lead_updates next list may listed old new answer apart is well updates
    = (updates_well next list.places may listed list.changes old new answer apart (λ k within. told_same listed list is k) well
    updates).1.read
