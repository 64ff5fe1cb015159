-- What a gap among the sequence numbers of the messages tells that were taken at a connection.
use Rattle.std.proofs.Common.{ℕ, zero, suc, ◌≡◌, ◌+◌, ◌<◌, ◌≤◌, ◌^◌, Bool, true, false, if◌then◌else◌, List, [], ◌∷◌, ◌++◌, length}
use Rattle.std.proofs.Common.{map, drop, get_or, slice_get, unwrap_or, Option, Some, append-nil, refl, sym, ◌∙◌, ap, ap₂, subst, arith}
use Rattle.std.specs.Option.{option_map_or}
use Rattle.std.proofs.lemmas.Option.{slice_get-get_or, slice_get_within}
use Rattle.iox_lanes_machine.specs.LanesBase.Publishing.{publisher_is_idle}
use Rattle.iox_lanes_machine.specs.LanesBase.declared.calls.publisher.PublisherCall.{PublisherCall}
use Rattle.iox_lanes_machine.specs.LanesBase.declared.calls.publisher.PublisherCall.TheVariants as publishing
use Rattle.iox_lanes_machine.specs.LanesParties.declared.call.CallName.{CallName}
use Rattle.iox_lanes_machine.specs.LanesParties.declared.call.CallName.TheVariants as name
use Rattle.iox_lanes_machine.specs.QueuesSteps.Ends.{overflows}
use Rattle.iox_lanes_machine.specs.QueuesSteps.Order.{Acts, push_call, put_of, puts}
use Rattle.iox_lanes_machine.specs.QueuesSteps.declared.order.Act.{Act}
use Rattle.iox_lanes_machine.specs.QueuesSteps.declared.order.Act.TheVariants.{Put, Take}
use Rattle.iox_lanes_machine.specs.QueuesSteps.declared.order.Placed.{Placed}
use Rattle.iox_lanes_machine.specs.QueuesSteps.declared.order.PushCall.{PushCall}
use Rattle.iox_lanes_machine.specs.Calls.{IsStageOf}
use Rattle.iox_lanes_machine.specs.Kept.{IsKept}
use Rattle.iox_lanes_machine.specs.Links.{LinkState}
use Rattle.iox_lanes_machine.specs.Sends.{sends_of}
use Rattle.iox_lanes_machine.specs.World.{World}
use Rattle.iox_lanes_machine.proofs.Connected.{sends_connected}
use Rattle.iox_lanes_machine.proofs.Paces.{came_kept}
use Rattle.iox_lanes_machine.proofs.SubscriberUses.{recorded}
use Rattle.iox_lanes_laws.specs.Messages.{MessageState}
use Rattle.iox_lanes_laws.specs.Numbered.{last_number, number_by, numbered, numbered_act, was_sent_by}
use Rattle.iox_lanes_laws.specs.Recorded.{ArePast}
use Rattle.iox_lanes_laws.specs.Sequences.{CountUp, GapsAreMissed, messages_of, sent_between, sequence_of, sequence_under, sequenced}
use Rattle.iox_lanes_laws.specs.Sequences.{sequences_found}
use Rattle.iox_lanes_laws.proofs.Founds.{found_early}
use Rattle.iox_lanes_laws.proofs.HaveNumbers.{put_at_has, run_kept}
use Rattle.iox_lanes_laws.proofs.Missing.{missed, rises, sequences_put}
use Rattle.iox_lanes_laws.proofs.NumberedOrders.{acts_so, kept_at}
use Rattle.iox_lanes_laws.proofs.NumberedRuns.{orders_follow_numbers}
use Rattle.iox_lanes_laws.proofs.SentNumbers.{found_has, Has, has_number}
use Rattle.iox_lanes_laws.proofs.SequenceLaws.{Counted, counted_first, counted_on, drop_first}
use Rattle.iox_lanes_laws.proofs.SequenceRuns.{Led, run_leads, StepsKeep}
use Rattle.iox_lanes_laws.proofs.SequenceSends.{HasSequence, sends_now, SendsOn, sequence_tells, starts_sends, step_sends}
use Rattle.iox_lanes_laws.proofs.Stages.{sending}

-- inside a send a slot is sent
stage_sends : (c : PublisherCall) (slot : ℕ) → IsStageOf (name.Send slot) c → publisher_is_idle c ≡ false → sending c ≡ Some slot
stage_sends publishing.Idle slot stage inside = absurd (cc inside)
stage_sends (publishing.LoanReclaims place route p) slot stage inside = absurd (cc stage)
stage_sends publishing.Lending slot stage inside = absurd (cc stage)
stage_sends (publishing.Writing own word value) slot stage inside = absurd (cc stage)
stage_sends (publishing.Written own) slot stage inside = absurd (cc stage)
stage_sends (publishing.Heading own word value) slot stage inside = cc stage
stage_sends (publishing.Remembering own) slot stage inside = cc stage
stage_sends (publishing.SendReclaims own place route p) slot stage inside = cc stage
stage_sends (publishing.Pushing own place route p delivery) slot stage inside = cc (stage.0)
stage_sends (publishing.Sent own delivery) slot stage inside = cc stage
stage_sends (publishing.Dropping own) slot stage inside = absurd (cc stage)

-- the puts of an order, with the sequence numbers of their messages in place of their slots
module _ (ms : List MessageState) where
  abbrev Tells : ℕ → List PushCall → Type 0
  Tells last ps = (number : ℕ) (put : PushCall) → slice_get ps number ≡ Some put
      → sequence_under ms (number_by ms put.first put.value) ≡ last + number + 1

  abbrev told : Act → ℕ → Act
  told act moment = numbered_act (sequence_under ms) (numbered_act (number_by ms moment) act)

  puts_count : (order : List Placed) (last : ℕ) → Tells last (puts order) → CountUp last (sequences_put (sequenced ms order))
  puts_count [] last tells = tt
  puts_count (placed ∷ order) last tells = by_act (puts_count order) placed.act placed.moment tells
    where
      by_act : ((next : ℕ) → Tells next (puts order) → CountUp next (sequences_put (sequenced ms order)))
          → (act : Act) (moment : ℕ) → Tells last (map (push_call moment moment) (put_of act) ++ puts order)
          → CountUp last (sequences_put (told act moment ∷ sequenced ms order))
      by_act rest (Put value answer) moment tells =
          let now : sequence_under ms (number_by ms moment value) ≡ last + 1
          = tells 0 (push_call moment moment (record { value = value; answer = answer })) refl ∙ omega arith in (
            now,
            rest (sequence_under ms (number_by ms moment value))
                (λ number put there. tells (suc number) put there ∙ omega (arith, now)),
          )
      by_act rest (Take answer) moment tells = rest last tells

  puts_many : (order : List Placed) → length (sequences_put (sequenced ms order)) ≡ length (puts order)
  puts_many [] = refl
  puts_many (placed ∷ order) = by_act (puts_many order) placed.act placed.moment
    where
      by_act : length (sequences_put (sequenced ms order)) ≡ length (puts order)
          → (act : Act) (moment : ℕ)
          → length (sequences_put (told act moment ∷ sequenced ms order))
          ≡ length (map (push_call moment moment) (put_of act) ++ puts order)
      by_act rest (Put value answer) moment = omega (arith, rest)
      by_act rest (Take answer) moment = rest

-- a list is no longer than its places say
bounded : (ps : List PushCall) (most : ℕ) → ((number : ℕ) (put : PushCall) → slice_get ps number ≡ Some put → number < most)
    → length ps ≤ most
bounded [] most h = omega arith
bounded (p ∷ ps) most h =
    let there : slice_get (p ∷ ps) (length ps) ≡ Some (get_or (p ∷ ps) (length ps) p)
    = slice_get-get_or (p ∷ ps) (length ps) p (omega arith) in
    omega (arith, h (length ps) (get_or (p ∷ ps) (length ps) p) there)

-- a number that a slot has is one of a message that is kept
last_within : (ms : List MessageState) (slot moment many number : ℕ) → last_number ms slot moment many ≡ Some number → number < many
last_within ms slot moment zero number is = absurd (cc is)
last_within ms slot moment (suc many) number is = by_test (last_within ms slot moment many number)
    (was_sent_by slot moment (slice_get ms many)) is
  where
    by_test : (last_number ms slot moment many ≡ Some number → number < many) → (b : Bool)
        → (if b then Some many else last_number ms slot moment many) ≡ Some number → number < suc many
    by_test before true now =
        let same : many ≡ number = cc now in
        omega (arith, same)
    by_test before false now = omega (arith, before now)

-- what was found has the sequence numbers that it had
found_same : (first more : List MessageState) (xs : List ℕ) → ((at slot : ℕ) → slice_get xs at ≡ Some slot → Has first slot 0)
    → map (sequence_under (first ++ more)) (map (number_by first 0) xs) ≡ map (sequence_under first) (map (number_by first 0) xs)
found_same first more [] has = refl
found_same first more (x ∷ xs) has =
    ap₂ (λ (y : ℕ) (ys : List ℕ). y ∷ ys) one (found_same first more xs (λ at slot is. has (suc at) slot is))
  where
    one : sequence_under (first ++ more) (number_by first 0 x) ≡ sequence_under first (number_by first 0 x)
    one =
        let number = has_number first x 0 (has 0 x refl) in
        let is : number_by first 0 x ≡ number.0 = ap (λ (n : Option ℕ). unwrap_or n 0) number.1 in
        ap (λ (o : Option MessageState). option_map_or sequence_of o 0)
        (kept_at first more (number_by first 0 x) (omega (arith, is, last_within first x 0 (length first) number.0 number.1)))

-- the numbers of a publisher count up, and each of its sends has its own
abbrev Followed : ℕ → ℕ → World → List MessageState → List MessageState → Type 0
Followed who last m ms sent = Counted who last m ms sent × SendsOn who last m.publishers (sends_of who m.finished) ms sent

followed_on : (who last : ℕ) → last < 2 ^ 63 → StepsKeep (Followed who last)
followed_on who last low m party step ms sent fit k less h = (
  counted_on who last low m party step ms sent fit k less h.0,
  step_sends who last m party step ms sent fit k less low (h.0).0 (h.0).1 h.1,
)

-- so the puts of a connection have the numbers of its publisher's messages, one after the other
record PutsCount (ms : List MessageState) (last most : ℕ) (order : List Placed) : Type 0 where
  counts : CountUp last (sequences_put (sequenced ms order))
  few : length (sequences_put (sequenced ms order)) ≤ most

module _ (m : World) (ms sent : List MessageState) (last connection : ℕ) (link : LinkState) (order : List Placed) (k : IsKept m)
    (few : m.moments ≤ 2 ^ 63) (linked : slice_get m.links connection ≡ Some link) (ordered : slice_get m.orders connection ≡ Some order)
    (h : SendsOn link.publisher last m.publishers (sends_of link.publisher m.finished) ms sent) where
  abbrev Own : ℕ → ℕ → ℕ → Type 0
  Own number slot moment = HasSequence ms slot moment (last + number + 1) × (number < length (messages_of link.publisher sent))

  enough : length (sends_of link.publisher m.finished) ≤ length (messages_of link.publisher sent)
  enough =
      let r = recorded m connection link order linked ordered (sends_connected m (k.sends few)) (k.uses few) 0 in
      omega (arith, h.many r.lane r.found)

  each : (number : ℕ) (put : PushCall) → slice_get (puts order) number ≡ Some put → Own number put.value put.first
  each = put_at_has m k few connection link order linked ordered Own
      (λ number send found slot asks moment begun not_ended. (
        h.ended_have number send found slot asks moment begun not_ended,
        omega (arith, slice_get_within (sends_of link.publisher m.finished) number send found, enough),
      ))
      (λ lane found slot inside asked moment begun.
      let at : sending lane.port.call ≡ Some slot = stage_sends lane.port.call slot
      (subst (λ (c : CallName). IsStageOf c lane.port.call) asked ((k.calls few).publishers link.publisher lane found).0) inside in
      (h.going_has lane found slot at moment begun, omega (arith, h.many lane found, ap sends_now at)))

  puts_follow : PutsCount ms last (length (messages_of link.publisher sent)) order
  puts_follow = record {
    counts = puts_count ms order last
        (λ number put there. sequence_tells ms put.value put.first (last + number + 1) (each number put there).0);
    few = omega (
      arith,
      puts_many ms order,
      bounded (puts order) (length (messages_of link.publisher sent)) (λ number put there. (each number put there).1),
    );
  }

pub gaps_are_missed : GapsAreMissed
gaps_are_missed r entries made n came none found run few wide connection link order linked ordered last lane here gave low goes =
    let who : ℕ = link.publisher in
    let k = (came_kept r.lanes came).0 in
    let led : Led (Followed who last) r.messages n = run_leads (Followed who last) (followed_on who last low) r.messages r entries made n
    run few k [] (sym (append-nil r.messages))
    ((wide, counted_first who last r.lanes lane here gave), starts_sends who last r.lanes r.messages k none) in
    let are : sent_between r n who ≡ messages_of who led.sent
    = ap (messages_of who) (ap (drop (length r.messages)) led.are ∙ drop_first r.messages led.sent) in
    let on = ((led.holds).0).1 in
    let puts_are : PutsCount n.messages last (length (messages_of who led.sent)) order =
    puts_follow n.lanes n.messages led.sent last connection link order led.kept few linked ordered (led.holds).1 in
    let was : slice_get r.lanes.links connection ≡ Some link
    = ap (λ (ls : List LinkState). slice_get ls connection) (sym (run_kept r entries made n run k).links) ∙ linked in
    let past : ArePast r.lanes r.messages = subst (ArePast r.lanes) (sym found) (found_early r.lanes) in
    let same : map (sequence_under n.messages) (map (number_by r.messages 0) link.found) ≡ sequences_found r.messages link =
    ap (λ (ms : List MessageState). map (sequence_under ms) (map (number_by r.messages 0) link.found)) led.are
    ∙ found_same r.messages led.sent link.found
    (λ at slot is. subst (λ (ms : List MessageState). Has ms slot 0) (sym found)
    (found_has r.lanes connection at slot link k none was is)) in
    let answers : Acts (overflows link.kind) link.limit (sequences_found r.messages link) (sequenced n.messages order) =
    subst (λ (q : List ℕ). Acts (overflows link.kind) link.limit q (sequenced n.messages order)) same
    (acts_so (sequence_under n.messages) (overflows link.kind) link.limit (map (number_by r.messages 0) link.found)
    (numbered n.messages order)
    (orders_follow_numbers r entries made n came none past run few connection link order linked ordered)) in
    let enough : length (sequences_put (sequenced n.messages order)) ≤ length (sent_between r n who)
    = omega (arith, puts_are.few, ap (λ (xs : List MessageState). length xs) are) in
    let counts : CountUp last (map sequence_of (sent_between r n who))
    = subst (λ (xs : List MessageState). CountUp last (map sequence_of xs)) (sym are) on.counts in
    λ earlier later one next split. (
      rises (overflows link.kind) link.limit last (sequences_found r.messages link) (sequenced n.messages order) (sent_between r n who)
          answers goes puts_are.counts enough counts earlier later one next split,
      missed (overflows link.kind) link.limit last (sequences_found r.messages link) (sequenced n.messages order)
          (sent_between r n who) answers goes puts_are.counts enough counts earlier later one next split,
    )
