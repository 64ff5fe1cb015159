-- What lanes have of a publisher after a load that it made while no write position stood at 2^64 - 1.
use Rattle.std.proofs.Common.{ℕ, zero, suc, ◌≡◌, ◌<◌, ◌≤◌, List, [], ◌∷◌, length, set, refl, sym, ap, subst, arith}
use Rattle.std.proofs.Common.{slice_get, Some}
use mathlib.Core.Option.{some, some-ne-none}
use lib.ListN.{get_elem?}
use Rattle.atomic_table.proofs.Lists.{set_here}
use Rattle.iox_lanes_machine.specs.LanesBase.Numbers.{number_of, IsWord}
use Rattle.iox_lanes_machine.specs.LanesBase.Table.{TableWords}
use Rattle.iox_lanes_machine.specs.LanesBase.Publishing.{publisher_next}
use Rattle.iox_lanes_machine.specs.LanesBase.declared.words.access.SharedAccess.{SharedAccess}
use Rattle.iox_lanes_machine.specs.LanesBase.declared.words.access.SharedAccess.TheVariants.{Load, Store, Exchange, Local}
use Rattle.iox_lanes_machine.specs.LanesBase.declared.words.sizes.TableSizes.{TableSizes}
use Rattle.iox_lanes_machine.specs.LanesBase.declared.words.word.SharedWord.{SharedWord}
use Rattle.iox_lanes_machine.specs.LanesParties.Parties.{PublisherLaneState, publisher_after}
use Rattle.iox_lanes_machine.specs.LanesParties.Publishers.{words_of as call_words}
use Rattle.iox_lanes_machine.specs.LanesParties.declared.call.Party.{Party}
use Rattle.iox_lanes_machine.specs.LedgerRooms.{slots_at}
use Rattle.iox_lanes_machine.specs.World.{World}
use Rattle.iox_lanes_machine.proofs.PublisherUses as publisher_uses
use Rattle.iox_lanes_machine.proofs.SlotMoves.{told as told_by_lanes}
use Rattle.iox_lanes_threads_rule.specs.Acts.{MayAct, ToldBy}
use Rattle.iox_lanes_threads_rule.specs.Lanes.{IsEarly, MakesNext, HasPublisher, HasParty, StandBehind, IsBacked, as_table}
use Rattle.iox_lanes_threads_rule.specs.Rule.{held}
use Rattle.iox_lanes_threads_rule.specs.Steps.{saw, learned}
use Rattle.iox_lanes_threads_rule.specs.declared.service.Service.{Service}
use Rattle.iox_lanes_threads_rule.specs.declared.view.Port.{Port}
use Rattle.iox_lanes_threads_rule.specs.declared.view.PortParty.TheVariants as party
use Rattle.iox_lanes_threads_rule.proofs.PortsBehind.{load_backed, set_held}
use Rattle.iox_lanes_threads_ports.specs.Courses.{publisher_party}
use Rattle.iox_lanes_threads_ports.specs.Paces.{IsLoadedEarly}
use Rattle.iox_lanes_threads_ports.specs.Ports.{PublisherStands}
use Rattle.iox_lanes_threads_ports.proofs.Coming.{publisher_makes}
use Rattle.iox_lanes_threads_ports.proofs.PublisherSteps.{may_act}
use Rattle.iox_lanes_threads_ports.proofs.Sweeping.{HasItsSlots, IfLoaded}

pub within_list : (ports : List Port) (n : ℕ) (p : Port) → get_elem? ports n ≡ some p → n < length ports
within_list [] n p e = absurd (some-ne-none p (sym e))
within_list (q ∷ qs) zero p e = omega arith
within_list (q ∷ qs) (suc n) p e = omega (arith, within_list qs n p e)

-- what the lanes that words and ports represent have of one of their publishers
lanes_have : (s : Service) (words : List ℕ) (all : List Port) (place first : ℕ) (lane : PublisherLaneState) (b : StandBehind s words all)
    → slice_get (b.lanes).publishers place ≡ Some (record lane { first = first })
    → HasItsSlots s.sizes.completion_cells (length lane.port.routes) lane.port.book lane.port.call
lanes_have s words all place first lane b found =
    let m : World = b.lanes in
    let k = b.together in
    let own : PublisherLaneState = record lane { first = first } in
    let sizes : m.table.sizes ≡ s.sizes = ap (λ (t : TableWords). t.sizes) b.table in
    let rooms = b.rooms.publishers place own found in
    let uses = k.uses.publishers place own found in
    let setting = publisher_uses.setting_of m place own found b.few k.within k.rings k.returns (k.returns.rings k.few) k.connections in
    record {
      most = subst (λ (z : TableSizes). (at : ℕ) → at < length lane.port.routes → slots_at lane.port.book at ≤ z.completion_cells)
          sizes rooms.most;
      counted = uses.counted;
      answer = told_by_lanes m lane.port.call;
      fits = publisher_uses.change_fits m place lane.port.routes (call_words lane.port) lane.port.book lane.port.call setting
          (k.loans.stages place own found) uses.lacking uses.balanced;
    }

module _ (q : Port) (now : PublisherLaneState) (n : ℕ) (stands : PublisherStands q now) where
  abbrev ItsSlots : Type 0
  ItsSlots = HasItsSlots q.service.sizes.completion_cells (length now.port.routes) (publisher_after n now).port.book
      (publisher_after n now).port.call

  load_has : (w : SharedWord) → publisher_next now.port.call ≡ Load w → (told : ToldBy q (Load w) n)
      → IsEarly (as_table q.service told.1.words) → ItsSlots
  load_has w next told early =
      let s : Service = q.service in
      let t = told.1 in
      let found : ℕ = held s t.words w in
      let new : Port = learned (saw q w) (set q.known (number_of s.sizes w) found) (publisher_party now found) in
      let is : IsWord s.sizes w = subst (MayAct q) next (may_act q now stands) in
      let makes : MakesNext q.party (Load w) (publisher_party now)
      = subst (λ (a : SharedAccess). MakesNext q.party a (publisher_party now)) next (publisher_makes q.party now stands.comes) in
      let behind : IsBacked s (set t.words (number_of s.sizes w) found) (set t.ports q.number new)
      = load_backed s t.words t.ports q w (publisher_party now) t.fit t.there is makes t.backed in
      let same : set t.words (number_of s.sizes w) found ≡ t.words = set_held t.words (number_of s.sizes w) in
      let b = behind (subst (λ (x : List ℕ). IsEarly (as_table s x)) (sym same) early) in
      let here : get_elem? (set t.ports q.number new) q.number ≡ some new
      = set_here t.ports q.number new (within_list t.ports q.number q t.there) in
      let party_is : HasParty b.lanes q.name (party.Publisher (publisher_after found now)) = b.ports q.number new here in
      let has : HasPublisher b.lanes stands.place (publisher_after found now)
      = subst (λ (name : Party). HasParty b.lanes name (party.Publisher (publisher_after found now))) stands.name party_is in
      subst (λ (a : ℕ). HasItsSlots s.sizes.completion_cells (length now.port.routes) (publisher_after a now).port.book
      (publisher_after a now).port.call) t.holds
      (lanes_have s (set t.words (number_of s.sizes w) found) (set t.ports q.number new) stands.place has.0 (publisher_after found now) b
      has.1)

  access_has : (access : SharedAccess) → publisher_next now.port.call ≡ access → (told : ToldBy q access n)
      → IsLoadedEarly q access n told → IfLoaded access ItsSlots
  access_has (Load w) next told early = load_has w next told early
  access_has (Store w new) next told early = tt
  access_has (Exchange w old new) next told early = tt
  access_has Local next told early = tt

  -- after each access, if it is a load
  pub loaded_slots : (told : ToldBy q (publisher_next now.port.call) n) → IsLoadedEarly q (publisher_next now.port.call) n told
      → IfLoaded (publisher_next now.port.call) ItsSlots
  loaded_slots told early = access_has (publisher_next now.port.call) refl told early
