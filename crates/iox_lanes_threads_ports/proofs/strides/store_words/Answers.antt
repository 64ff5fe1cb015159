use Rattle.std.proofs.lemmas.Option.{slice_get_within}
use Rattle.std.proofs.Common.{ℕ, ◌≡◌, ◌+◌, ◌-◌, ◌<◌, ◌^◌, List, length, get_or, refl, sym, ap, subst, ◌∙◌, arith}
use Rattle.iox_lanes_machine.specs.LanesBase.Numbers.{IsSmall}
use Rattle.iox_lanes_machine.specs.LanesBase.Publishing.{publisher_next}
use Rattle.iox_lanes_machine.specs.LanesBase.declared.calls.publisher.PublisherCall.{PublisherCall}
use Rattle.iox_lanes_machine.specs.LanesBase.declared.words.access.SharedAccess.TheVariants.{Store}
use Rattle.iox_lanes_machine.specs.LanesBase.declared.words.word.SharedWord.TheVariants.{Slot}
use Rattle.iox_lanes_machine.specs.LanesBase.declared.words.word.SlotWord.{SlotWord}
use Rattle.iox_lanes_machine.specs.LanesParties.Publishers.{words_of as call_words}
use Rattle.iox_lanes_machine.specs.LanesParties.Parties.{publisher_after}
use Rattle.iox_lanes_threads_rule.specs.Acts.{port_of}
use Rattle.iox_lanes_threads_ports.specs.Ports.{PublisherStands}
use Rattle.iox_lanes_threads_ports.specs.SlotParts.{storing, storing_at}
use Rattle.iox_lanes_threads_ports.specs.Strides.{called, PublisherStrode}
use Rattle.iox_lanes_threads_ports.proofs.Striding.{publisher_goes_ahead, strode_none, at_first, storing_first, storing_here, storing_on}
use Rattle.iox_lanes_threads_ports.proofs.Striding.{few_stored, storing_stores}
use Rattle.iox_lanes_threads_ports.proofs.strides.store_words.Goals as goal

pub loop-at-init : goal.loop-at-init
loop-at-init g c = (
  refl,
  refl,
  subst (PublisherStrode (port_of c.args.seat.now.me) c.args.lane.now 0 c.args.seat.now.me)
      (at_first c.args.lane.now (storing c.args.part c.args.slot 0 c.args.first)
      (storing_at c.args.part (call_words c.args.lane.now.port) c.args.slot 0) c.requires.call
      (storing_first c.args.part (call_words c.args.lane.now.port) c.args.slot c.args.first c.requires.first))
      (strode_none publisher_goes_ahead c.args.seat.now.me c.args.lane.now c.requires.seat.0 c.requires.stands),
)

pub access_ahead-requires-clause-stands : goal.access_ahead-requires-clause-stands
access_ahead-requires-clause-stands g c =
    let lane = c.args.lane.now in
    let stored = c.stored-stored.ensures in
    let same = ap (λ (xs : List ℕ). length xs) stored in
    let test = c.loop-at-test.true in
    let less : c.loop-at.at < length (call_words lane.port) = omega (arith, same, test) in
    let here = storing_here c.args.part (call_words lane.port) c.args.slot c.loop-at.at less ∙ ap
    (λ (xs : List ℕ). storing c.args.part c.args.slot c.loop-at.at (get_or xs c.loop-at.at 0)) (sym stored) ∙ sym
    c.storing-call.ensures in
    subst (λ (call : PublisherCall). PublisherStands (port_of c.loop-at.seat.me) (called call lane)) here c.loop-at.invariant.2.stands

pub access_ahead-requires-clause-next : goal.access_ahead-requires-clause-next
access_ahead-requires-clause-next g c =
    ap publisher_next c.storing-call.ensures
    ∙ storing_stores c.args.part c.args.slot c.loop-at.at (get_or c.stored-stored.result.now c.loop-at.at 0)
    ∙ ap (λ (word : SlotWord). Store (Slot c.args.slot word) (get_or c.stored-stored.result.now c.loop-at.at 0))
    (sym c.part_word-own.ensures)

pub loop-at-preserved : goal.loop-at-preserved
loop-at-preserved g c =
    let lane = c.args.lane.now in
    let p = port_of c.args.seat.now.me in
    let stored = c.stored-stored.ensures in
    let same = ap (λ (xs : List ℕ). length xs) stored in
    let test = c.loop-at-test.true in
    let less : c.loop-at.at < length (call_words lane.port) = omega (arith, same, test) in
    let few = few_stored c.args.part p lane c.args.slot 0 c.args.first c.requires.stands
    (subst IsSmall (sym c.requires.seat.1) c.requires.table.2) c.requires.call in
    let next : c.loop-at.at + 1 < 2 ^ 64 = omega (arith, less, few) in
    let here = storing_here c.args.part (call_words lane.port) c.args.slot c.loop-at.at less ∙ ap
    (λ (xs : List ℕ). storing c.args.part c.args.slot c.loop-at.at (get_or xs c.loop-at.at 0)) (sym stored) ∙ sym
    c.storing-call.ensures in (
      c.access_ahead.ensures.table.0 ∙ c.loop-at.invariant.0,
      c.access_ahead.ensures.table.1 ∙ c.loop-at.invariant.1,
      subst (PublisherStrode p lane (c.loop-at.at + 1) c.access_ahead.new.seat.me)
          (ap (λ (n : ℕ). publisher_after n (called c.storing-call.result lane)) c.access_ahead.ensures.told
          ∙ ap (λ (call : PublisherCall). publisher_after 0 (called call lane)) c.storing-call.ensures ∙ storing_on c.args.part lane
          c.args.slot c.loop-at.at (get_or c.stored-stored.result.now c.loop-at.at 0) next)
          (c.access_ahead.ensures.strode tt p lane c.loop-at.at
          (subst (λ (call : PublisherCall). PublisherStrode p lane c.loop-at.at c.loop-at.seat.me (called call lane)) here
          c.loop-at.invariant.2)),
    )

pub returns-clause-strode : goal.returns-clause-strode
returns-clause-strode g c =
    let lane = c.args.lane.now in
    let p = port_of c.args.seat.now.me in
    let count = length c.stored-stored.result.now in
    let same = ap (λ (xs : List ℕ). length xs) c.stored-stored.ensures in
    let some = slice_get_within (call_words lane.port) 0 c.args.first c.requires.first in
    let few = few_stored c.args.part p lane c.args.slot 0 c.args.first c.requires.stands
    (subst IsSmall (sym c.requires.seat.1) c.requires.table.2) c.requires.call in
    let next : count - 1 + 1 < 2 ^ 64 = omega (arith, same, some, few) in
    let test = c.loop-at-test.false in
    let end = c.loop-at.auto.at-end in
    let all : c.loop-at.at ≡ count = omega (arith, test, end) in
    let last : count ≡ count - 1 + 1 = omega (arith, same, some) in
    subst (PublisherStrode p lane count c.loop-at.seat.me)
    (ap (λ (k : ℕ). called (storing_at c.args.part (call_words lane.port) c.args.slot k) lane) last
    ∙ sym (storing_on c.args.part lane c.args.slot (count - 1) (get_or c.stored-stored.result.now (count - 1) 0) next)
    ∙ ap (λ (call : PublisherCall). publisher_after 0 (called call lane)) (sym c.storing-last.ensures)
    ∙ sym c.go_on_from.ensures)
    (subst (λ (k : ℕ). PublisherStrode p lane k c.loop-at.seat.me
    (called (storing_at c.args.part (call_words lane.port) c.args.slot k) lane)) all c.loop-at.invariant.2)
