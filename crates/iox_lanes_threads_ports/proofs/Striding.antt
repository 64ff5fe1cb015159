-- Several steps of a port, which its lane makes up for at once, and those of a publisher.
use Rattle.std.proofs.lemmas.Option.{slice_get-get_or}
use Rattle.std.proofs.Common.{ℕ, ◌≡◌, ◌+◌, ◌<◌, ◌^◌, false, List, length, get_or, slice_get, Some, refl, sym, ◌∙◌, ap, subst, arith}
use Rattle.atomic_table.specs.Seated.{TableId}
use Rattle.atomic_table.specs.Table.{Me}
use Rattle.iox_lanes_machine.specs.QueuesSteps.Access.{successor}
use Rattle.iox_lanes_machine.specs.LanesBase.Numbers.{IsSmall}
use Rattle.iox_lanes_machine.specs.LanesBase.declared.words.sizes.TableSizes.{TableSizes}
use Rattle.iox_lanes_machine.specs.LanesBase.declared.words.access.SharedAccess.{SharedAccess}
use Rattle.iox_lanes_machine.specs.LanesBase.declared.words.access.SharedAccess.TheVariants.{Store}
use Rattle.iox_lanes_machine.specs.LanesBase.declared.words.word.SharedWord.TheVariants.{Slot}
use Rattle.iox_lanes_machine.specs.LanesBase.Publishing.{publisher_next, publisher_is_over, write_from, write_at, head_from, head_at}
use Rattle.iox_lanes_machine.specs.LanesBase.declared.calls.publisher.PublisherCall.{PublisherCall}
use Rattle.iox_lanes_machine.specs.LanesBase.declared.calls.publisher.PublisherCall.TheVariants as publishing
use Rattle.iox_lanes_machine.specs.LanesParties.Publishers.{words_of as call_words}
use Rattle.iox_lanes_machine.specs.LanesParties.Parties.{PublisherLaneState, publisher_after}
use Rattle.iox_lanes_machine.specs.LanesParties.Within.{IsPublishing}
use Rattle.iox_lanes_threads_rule.specs.Acts.{single, port_of, stepped, ToldBy}
use Rattle.iox_lanes_threads_rule.specs.declared.service.Service.{Service}
use Rattle.iox_lanes_threads_rule.specs.declared.view.Port.{Port}
use Rattle.iox_lanes_threads_rule.specs.declared.view.PortParty.{PortParty}
use Rattle.iox_lanes_threads_rule.specs.declared.view.View.{View}
use Rattle.iox_lanes_threads_ports.specs.Courses.{publisher_party, publisher_stepped, PublisherSteps}
use Rattle.iox_lanes_threads_ports.specs.Ports.{PublisherStands}
use Rattle.iox_lanes_threads_ports.specs.declared.strides.SlotPart.{SlotPart}
use Rattle.iox_lanes_threads_ports.specs.declared.strides.SlotPart.TheVariants.{Payload, Head}
use Rattle.iox_lanes_threads_ports.specs.SlotParts.{storing, storing_at, part_word}
use Rattle.iox_lanes_threads_ports.specs.Strides.{called, PublisherStrides, Strode, PublisherStrode, TouchesWord, LaneKind, publishers}
use Rattle.iox_lanes_threads_ports.specs.Strides.{GoesAhead, MayStride, StridesOn}
use Rattle.iox_lanes_threads_ports.specs.Strides.PublisherStrides.{stays, goes}
use Rattle.iox_lanes_threads_ports.proofs.Coming.{publisher_makes}
use Rattle.iox_lanes_threads_ports.proofs.PublisherSteps as steps
use Rattle.iox_lanes_threads_ports.proofs.Running.{SeatIs, seat_stepped, Publishes, Paced, step_paced}

-- an access to a shared word is not the last step of a call
touches_on : (c : PublisherCall) → TouchesWord (publisher_next c) → publisher_is_over c ≡ false
touches_on publishing.Idle t = refl
touches_on (publishing.LoanReclaims place route pop) t = refl
touches_on publishing.Lending t = absurd t
touches_on (publishing.Writing slot word value) t = refl
touches_on (publishing.Written slot) t = absurd t
touches_on (publishing.Heading slot word value) t = refl
touches_on (publishing.Remembering slot) t = refl
touches_on (publishing.SendReclaims slot place route pop) t = refl
touches_on (publishing.Pushing slot place route push delivery) t = refl
touches_on (publishing.Sent slot delivery) t = absurd t
touches_on (publishing.Dropping slot) t = absurd t

-- accesses may be made ahead of a publisher
pub publisher_goes_ahead : GoesAhead PublisherLaneState PublisherCall publishers
publisher_goes_ahead = record {
  itself = λ lane. refl;
  may = λ p call lane stands. steps.may_act p (called call lane) stands;
  makes = λ p call lane stands. publisher_makes p.party (called call lane) stands.comes;
  stays = λ p lane. stays;
  goes = λ p begun made q call lane answer stands strides touches told. (
    steps.goes_on q (called call lane) stands answer told,
    goes made q (called call lane) answer strides (touches_on call touches) told,
  );
}

-- the seat of a port after a step
pub strode_moved : {L : Type 0} (Stands : Port → L → Type 0) (Went Goes : Port → L → Type 0) (p : Port) (me me' : Me ℕ View)
    (now now' : L) (access : SharedAccess) (answer : ℕ) (after : ℕ → PortParty) → Strode Stands Went p me now
    → Stands (stepped (port_of me) access answer after) now' → Goes (stepped (port_of me) access answer after) now'
    → me' ≡ single (stepped (port_of me) access answer after) → Strode Stands Goes p me' now'
strode_moved Stands Went Goes p me me' now now' access answer after run stands went is =
    let port : port_of me' ≡ stepped (port_of me) access answer after = ap port_of is in
    let was : SeatIs p me = record { alone = run.alone; service = run.service; name = run.name } in
    let seat = seat_stepped p p me me' access answer after was is in
    record {
      alone = seat.alone;
      service = seat.service;
      name = seat.name;
      stands = subst (λ (z : Port). Stands z now') (sym port) stands;
      strides = subst (λ (z : Port). Goes z now') (sym port) went;
    }

module _ {L C : Type 0} {kind : LaneKind L C} (ahead : GoesAhead L C kind) where
  -- no step yet
  pub strode_none : (me : Me ℕ View) (lane : L) → me ≡ single (port_of me) → kind.Stands (port_of me) lane
      → Strode kind.Stands (kind.Strides (port_of me) lane 0) (port_of me) me lane
  strode_none me lane alone stands = record
      { alone = alone; service = refl; name = refl; stands = stands; strides = ahead.stays (port_of me) lane }

  -- nor where a call begins
  pub strode_begun : (me : Me ℕ View) (lane : L) (call : C) → kind.standing lane ≡ call → me ≡ single (port_of me)
      → kind.Stands (port_of me) lane → Strode kind.Stands (kind.Strides (port_of me) lane 0) (port_of me) me (kind.called call lane)
  strode_begun me lane call is alone stands
      = subst (Strode kind.Stands (kind.Strides (port_of me) lane 0) (port_of me) me)
      (ahead.itself lane ∙ ap (λ (c : C). kind.called c lane) is) (strode_none me lane alone stands)

  -- one more
  pub strode_access : (p : Port) (begun : L) (made : ℕ) (me me' : Me ℕ View) (lane : L) (call : C) (access : SharedAccess) (answer : ℕ)
      → kind.next call ≡ access → TouchesWord access → Strode kind.Stands (kind.Strides p begun made) p me (kind.called call lane)
      → ToldBy (port_of me) access answer → me' ≡ single (stepped (port_of me) access answer (kind.party (kind.called call lane)))
      → Strode kind.Stands (kind.Strides p begun (made + 1)) p me' (kind.after answer (kind.called call lane))
  strode_access p begun made me me' lane call access answer e touches run told is =
      let told' : ToldBy (port_of me) (kind.next call) answer = subst (λ (a : SharedAccess). ToldBy (port_of me) a answer) (sym e) told in
      let on = ahead.goes p begun made (port_of me) call lane answer run.stands run.strides (subst TouchesWord (sym e) touches) told' in
      strode_moved kind.Stands (kind.Strides p begun made) (kind.Strides p begun (made + 1)) p me me' (kind.called call lane)
      (kind.after answer (kind.called call lane)) (kind.next call) answer (kind.party (kind.called call lane)) run on.0 on.1
      (subst (λ (a : SharedAccess). me' ≡ single (stepped (port_of me) a answer (kind.party (kind.called call lane)))) (sym e) is)

  -- a port may make the next access of a lane whose call is named
  pub stride_begun : (words seat : TableId) (me : Me ℕ View) (sizes : TableSizes) (lane : L) (call : C) (cells : ℕ)
      → MayStride kind words seat me sizes lane cells → kind.standing lane ≡ call
      → MayStride kind words seat me sizes (kind.called call lane) cells
  stride_begun words seat me sizes lane call cells may is =
      subst (λ (l : L). MayStride kind words seat me sizes l cells) (ahead.itself lane ∙ ap (λ (c : C). kind.called c lane) is) may

  -- a port that may stride may after more steps
  pub stride_next : (words seat seat' : TableId) (me me' : Me ℕ View) (sizes : TableSizes) (lane next : L) (cells more : ℕ)
      → MayStride kind words seat me sizes lane cells → seat' ≡ seat → StridesOn kind more me lane me' next
      → MayStride kind words seat' me' sizes next cells
  stride_next words seat seat' me me' sizes lane next cells more may same on =
      let run = on (port_of me) lane 0 (strode_none me lane may.own.0 may.stands) in
      record {
        table = (same ∙ may.table.0, may.table.1, may.table.2);
        own = (run.alone, ap (λ (s : Service). s.sizes) run.service ∙ may.own.1);
        stands = run.stands;
        cells = may.cells;
      }

-- a call that stores the words of a part goes from word to word
pub storing_first : (part : SlotPart) (words : List ℕ) (slot first : ℕ) → slice_get words 0 ≡ Some first
    → storing_at part words slot 0 ≡ storing part slot 0 first
storing_first Payload words slot first is = ap (write_from slot 0) is
storing_first Head words slot first is = ap (head_from slot 0) is

pub storing_stores : (part : SlotPart) (slot word value : ℕ)
    → publisher_next (storing part slot word value) ≡ Store (Slot slot (part_word part word)) value
storing_stores Payload slot word value = refl
storing_stores Head slot word value = refl

pub storing_here : (part : SlotPart) (words : List ℕ) (slot k : ℕ) → k < length words
    → storing_at part words slot k ≡ storing part slot k (get_or words k 0)
storing_here Payload words slot k less = ap (write_from slot k) (slice_get-get_or words k 0 less)
storing_here Head words slot k less = ap (head_from slot k) (slice_get-get_or words k 0 less)

pub storing_on : (part : SlotPart) (lane : PublisherLaneState) (slot k value : ℕ) → k + 1 < 2 ^ 64
    → publisher_after 0 (called (storing part slot k value) lane) ≡ called (storing_at part (call_words lane.port) slot (k + 1)) lane
storing_on Payload lane slot k value less = let one : successor k ≡ k + 1
    = omega (arith, less) in ap (λ (n : ℕ). called (write_at (call_words lane.port) slot n) lane) one
storing_on Head lane slot k value less = let one : successor k ≡ k + 1
    = omega (arith, less) in ap (λ (n : ℕ). called (head_at (call_words lane.port) slot n) lane) one

-- a call that stands at its first word
pub at_first : (lane : PublisherLaneState) (call there : PublisherCall) → lane.port.call ≡ call → there ≡ call → lane ≡ called there lane
at_first lane call there is same = ap (λ (c : PublisherCall). called c lane) (is ∙ sym same)

-- steps on the way of a call keep its pace
pub paced_along : (most made : ℕ) (p : Port) (lane : PublisherLaneState) (q : Port) (now : PublisherLaneState) (n : ℕ) (q' : Port)
    (now' : PublisherLaneState) → IsSmall p.service.sizes → q.service ≡ p.service → PublisherStands q now → Paced most made p lane q now
    → PublisherStrides q now n q' now' → (q'.service ≡ p.service) × PublisherStands q' now' × Paced most (made + n) p lane q' now'
paced_along most made p lane q now n q' now' small same stands pace stays =
    let none : made ≡ made + 0 = omega arith in (same, stands, subst (λ (k : ℕ). Paced most k p lane q now) none pace)
paced_along most made p lane q now n q' now' small same stands pace (goes m r mid answer before busy told) =
    let was = paced_along most made p lane q now m r mid small same stands pace before in
    let one : made + m + 1 ≡ made + (m + 1) = omega arith in (
      (steps.step_same r (publisher_next mid.port.call) answer (publisher_party mid)).service ∙ was.0,
      steps.goes_on r mid was.1 answer told,
      subst (λ (k : ℕ). Paced most k p lane (publisher_stepped r mid answer) (publisher_after answer mid)) one
          (step_paced most (made + m) p lane r mid answer small was.0 was.1 was.2 busy told),
    )

pub publishes_along : (p : Port) (me : Me ℕ View) (now : PublisherLaneState) (n : ℕ) (me' : Me ℕ View) (now' : PublisherLaneState)
    → Publishes p me now → PublisherStrode (port_of me) now n me' now' → Publishes p me' now'
publishes_along p me now n me' now' run strode = record {
  seat = record { alone = strode.alone; service = strode.service ∙ run.seat.service; name = strode.name ∙ run.seat.name };
  stands = strode.stands;
}

-- one step is a stride
pub strode_once : (me me' : Me ℕ View) (lane lane' : PublisherLaneState) → me ≡ single (port_of me) → PublisherStands (port_of me) lane
    → publisher_is_over lane.port.call ≡ false → PublisherSteps (port_of me) lane me' lane' → PublisherStrode (port_of me) lane 1 me' lane'
strode_once me me' lane lane' alone stands busy step =
    let one : 0 + 1 ≡ 1 = omega arith in
    subst (λ (z : ℕ × PublisherLaneState). PublisherStrode (port_of me) lane z.0 me' z.1) (λ i. (one i, sym step.3 i))
    (strode_moved PublisherStands (PublisherStrides (port_of me) lane 0) (PublisherStrides (port_of me) lane (0 + 1)) (port_of me) me
    me' lane (publisher_after step.0 lane) (publisher_next lane.port.call) step.0 (publisher_party lane)
    (strode_none publisher_goes_ahead me lane alone stands) (steps.goes_on (port_of me) lane stands step.0 step.1)
    (goes 0 (port_of me) lane step.0 stays busy step.1) step.2)

-- the words of a part are few
pub few_stored : (part : SlotPart) (p : Port) (lane : PublisherLaneState) (slot k value : ℕ) → PublisherStands p lane
    → IsSmall p.service.sizes → lane.port.call ≡ storing part slot k value → length (call_words lane.port) < 2 ^ 64
few_stored Payload p lane slot k value stands small is =
    let at = subst (IsPublishing p.service.sizes lane.port.routes (call_words lane.port)) is stands.within.call in
    let fit = at.2 in
    let all = small.slot in
    omega (arith, fit, all)
few_stored Head p lane slot k value stands small is =
    let at = subst (IsPublishing p.service.sizes lane.port.routes (call_words lane.port)) is stands.within.call in
    let fit = at.2 in
    let all = small.slot in
    omega (arith, fit, all)
