-- A subscriber that reads from a connection still reads from it after each step.
use Rattle.std.proofs.Common.{arith, ◌≡◌, ◌≢◌, ◌∙◌, ◌+◌, ◌<◌, ◌==◌, ◌∷◌, [], ℕ, zero, suc, Bool, true, false, List, get_or, length, set}
use Rattle.std.proofs.Common.{remove, min, is_some, Option, None, Some, Result, Ok, Err, if◌then◌else◌, refl, sym, ap, subst, inl, inr}
use Rattle.std.proofs.lemmas.Bool.{cases_eq, eqb-true}
use Rattle.std.proofs.lemmas.List.{get_or-set_other, get_or-set_same}
use Rattle.std.specs.List.{All, list_any}
use Rattle.std.specs.declared.alloc.AllocError.{AllocError}
use Rattle.iox_domain.specs.DomainPorts.Leaving.{parted_at, parted_from, departed}
use Rattle.iox_domain.specs.DomainPorts.Places.{leads_to, is_attached}
use Rattle.iox_domain.specs.DomainPorts.Ports.{connection_of, connection_to, goes_on, is_live, ended_at, detached_at, with_connection_of}
use Rattle.iox_domain.specs.DomainPorts.Ports.{unread_at}
use Rattle.iox_domain.specs.DomainPorts.Ties.{has_tie}
use Rattle.iox_domain.specs.DomainPorts.Ports.{attached_at, Joins, Attaches}
use Rattle.iox_domain.specs.DomainPorts.declared.publisher_port.PublisherPort.{PublisherPort}
use Rattle.iox_domain.specs.DomainPorts.declared.reader.Reader.{Reader}
use Rattle.iox_domain.specs.DomainSlots.Uses.{nobody, is_open, is_there, ended, taken, given_back}
use Rattle.iox_domain.specs.DomainSlots.declared.stage.Stage.{Stage}
use Rattle.iox_domain.specs.DomainSlots.declared.stage.Stage.TheVariants as stage
use Rattle.iox_domain.specs.DomainPorts.Publishers.{port_of, with_port, changed, changed_at_port, is_over_port, is_over_in, removed}
use Rattle.iox_domain.specs.DomainPorts.Publishers.{settled, ended_if_left, released, AttachesAtPort}
use Rattle.iox_domain.specs.DomainPorts.Reading.{is_over, taken_at, given_back_at}
use Rattle.iox_domain.specs.DomainPorts.declared.attached.Attached.{Attached}
use Rattle.iox_domain.proofs.Carrying.{Carries}
use Rattle.iox_domain.proofs.ListKeeps.{none_there, last_of}
use Rattle.iox_domain.proofs.Numbered.{at_number, other_fails, other_set, same_set, other_gone, found_of_all, all_set, all_gone}
use Rattle.iox_domain.proofs.TiedWell.{Alike, alike_is, alike_on, alike_still, alike_waiting, gone_there}
use Rattle.iox_domain.proofs.TiedUpdates.{found_leads, connects_made, ok_same}
use Rattle.iox_domain.proofs.WellKept.{left_leads, settled_goes}
use Rattle.iox_domain.specs.Roomy.{IsReadBy, IsAttached, LeadsOn, LeadsOnEntry}

-- where the readers are the same, and the same connections go on
pub read_alike : {T U : Type 0} (subscriber index : ℕ) (old new : PublisherPort T U) → Alike old new → IsReadBy subscriber index old
    → IsReadBy subscriber index new
read_alike subscriber index old new alike reads
    = record { live = alike.live index ∙ reads.live; reader = ap (λ readers. get_or readers index None) alike.readers ∙ reads.reader }

pub lead_alike : {T U : Type 0} (old new : PublisherPort T U) → Alike old new → LeadsOn old → LeadsOn new
lead_alike old new alike lead subscriber index leads
    = alike.live index ∙ lead subscriber index (ap (λ readers. leads_to subscriber (get_or readers index None)) (sym alike.readers) ∙ leads)

pub read_is : {T U : Type 0} (subscriber index : ℕ) (old new : PublisherPort T U) → new ≡ old → IsReadBy subscriber index old
    → IsReadBy subscriber index new
read_is subscriber index old new is = read_alike subscriber index old new (alike_is old new is)

pub alike_carries : {T U : Type 0} → Carries (λ (old : PublisherPort T U) (new : PublisherPort T U). Alike old new)
alike_carries = record {
  is = alike_is;
  on = alike_on;
  still = λ old new connections ties readers stands sizes. alike_still old new connections ties readers stands;
  waiting = λ index waiting port live few. alike_waiting index (record (connection_of index port) { waiting = waiting }) port refl;
}

alike_taken : {T U : Type 0} (index : ℕ) (port : PublisherPort T U) → Alike port (taken_at index port)
alike_taken index port = alike_waiting index (taken (connection_of index port)) port refl

alike_given_back : {T U : Type 0} (index : ℕ) (at : Option ℕ) (port : PublisherPort T U) → Alike port (given_back_at index at port)
alike_given_back index None port = alike_is port port refl
alike_given_back index (Some at) port =
    let old = connection_of index port in
    alike_waiting index (given_back at old) port (settled_goes old.stage old.limit old.waiting (remove old.borrowed at))

-- another connection ends
read_ended_by : {T U : Type 0} (live : Bool) (subscriber index at : ℕ) (port : PublisherPort T U) → index ≢ at
    → IsReadBy subscriber index port
    → IsReadBy subscriber index (if live then record (with_connection_of at (ended (connection_of at port)) port)
    { readers = set port.readers at None } else port)
read_ended_by true subscriber index at port not reads = record {
  live = ap (λ one. goes_on one.stage)
      (get_or-set_other port.sender.uses.connections at index (ended (connection_of at port)) nobody not) ∙ reads.live;
  reader = get_or-set_other port.readers at index None None not ∙ reads.reader;
}
read_ended_by false subscriber index at port not reads = reads

pub read_ended : {T U : Type 0} (subscriber index at : ℕ) (port : PublisherPort T U) → index ≢ at → IsReadBy subscriber index port
    → IsReadBy subscriber index (ended_at at port)
read_ended subscriber index at port not reads = read_ended_by (is_live at port) subscriber index at port not reads

lead_ended_by : {T U : Type 0} (live : Bool) (at : ℕ) (port : PublisherPort T U) → LeadsOn port
    → LeadsOn (if live then record (with_connection_of at (ended (connection_of at port)) port) { readers = set port.readers at None }
    else port)
lead_ended_by true at port lead subscriber index leads = elim (cases_eq index at) [
  | inl same ↦
      let none : get_or (set port.readers at None) index None ≡ (let gone : Option Reader = None in gone)
      = ap (λ i. get_or (set port.readers at None) i None) same ∙ gone_there port.readers at in
      let no : false ≡ true = sym (ap (λ reader. leads_to subscriber reader) none) ∙ leads in absurd (cc)
  | inr not ↦
      ap (λ one. goes_on one.stage) (get_or-set_other port.sender.uses.connections at index (ended (connection_of at port)) nobody not)
      ∙ lead subscriber index (ap (λ reader. leads_to subscriber reader) (sym (get_or-set_other port.readers at index None None not)) ∙
      leads)
]
lead_ended_by false at port lead subscriber index leads = lead subscriber index leads

lead_ended : {T U : Type 0} (at : ℕ) (port : PublisherPort T U) → LeadsOn port → LeadsOn (ended_at at port)
lead_ended at port lead = lead_ended_by (is_live at port) at port lead

read_if_left : {T U : Type 0} (stands : Bool) (subscriber index at : ℕ) (port : PublisherPort T U) → index ≢ at
    → IsReadBy subscriber index port → IsReadBy subscriber index (if stands then port else ended_at at port)
read_if_left true subscriber index at port not reads = reads
read_if_left false subscriber index at port not reads = read_ended subscriber index at port not reads

lead_if_left : {T U : Type 0} (stands : Bool) (at : ℕ) (port : PublisherPort T U) → LeadsOn port
    → LeadsOn (if stands then port else ended_at at port)
lead_if_left true at port lead = lead
lead_if_left false at port lead = lead_ended at port lead

-- its reader left another connection
read_detached_by : {T U : Type 0} (tied : Bool) (subscriber index at : ℕ) (port : PublisherPort T U) → index ≢ at
    → IsReadBy subscriber index port → IsReadBy subscriber index (if tied then unread_at at port else ended_at at port)
read_detached_by true subscriber index at port not reads
    = record { live = reads.live; reader = get_or-set_other port.readers at index _ None not ∙ reads.reader }
read_detached_by false subscriber index at port not reads = read_ended subscriber index at port not reads

read_detached : {T U : Type 0} (subscriber index at : ℕ) (port : PublisherPort T U) → index ≢ at → IsReadBy subscriber index port
    → IsReadBy subscriber index (detached_at at port)
read_detached subscriber index at port not reads = read_detached_by (has_tie at port.ties) subscriber index at port not reads

lead_detached_by : {T U : Type 0} (tied : Bool) (at : ℕ) (port : PublisherPort T U) → LeadsOn port
    → LeadsOn (if tied then unread_at at port else ended_at at port)
lead_detached_by true at port lead = λ subscriber index leads.
    lead subscriber index (sym (left_leads subscriber at index port.readers) ∙ leads)
lead_detached_by false at port lead = lead_ended at port lead

lead_detached : {T U : Type 0} (at : ℕ) (port : PublisherPort T U) → LeadsOn port → LeadsOn (detached_at at port)
lead_detached at port lead = lead_detached_by (has_tie at port.ties) at port lead

-- a connection is joined or made, and its subscriber reads there
pub read_joins : {T U : Type 0} (subscriber index reading limit at : ℕ) (found : Option ℕ) (old joined : PublisherPort T U)
    → Joins reading limit found old (Ok at) joined → IsReadBy subscriber index old → IsReadBy subscriber index joined
read_joins subscriber index reading limit at (Some there) old joined joins reads = read_is subscriber index old joined joins.1 reads
read_joins subscriber index reading limit at None old joined joins reads =
    let made = connects_made reading limit at false old joined joins in
    let not : index ≢ at = λ same. let no : true ≡ false = sym reads.live ∙ ap (λ i. is_live i old) same ∙ made.none in cc in
    record { live = made.live index not ∙ reads.live; reader = made.readers index not ∙ reads.reader }

lead_joins : {T U : Type 0} (reading limit at : ℕ) (found : Option ℕ) (old joined : PublisherPort T U)
    → Joins reading limit found old (Ok at) joined → LeadsOn old → LeadsOn joined
lead_joins reading limit at (Some there) old joined joins lead subscriber index leads
    = lead_alike old joined (alike_is old joined joins.1) lead subscriber index leads
lead_joins reading limit at None old joined joins lead subscriber index leads =
    let made = connects_made reading limit at false old joined joins in
    elim (cases_eq index at) [
      | inl same ↦ ap (λ i. is_live i joined) same ∙ made.goes
      | inr not ↦ made.live index not ∙ lead subscriber index
          (ap (λ reader. leads_to subscriber reader) (sym (made.readers index not)) ∙ leads)
    ]

joined_leads : {T U : Type 0} (reading limit at : ℕ) (found : Option ℕ) (old joined : PublisherPort T U)
    → connection_to reading old ≡ found → Joins reading limit found old (Ok at) joined
    → leads_to reading (get_or joined.readers at None) ≡ true
joined_leads reading limit at (Some there) old joined is joins =
    let same : there ≡ at = ok_same at there (Ok at) refl joins.0 in
    ap (λ port. leads_to reading (get_or port.readers at None)) joins.1 ∙ found_leads reading at old (is ∙ ap (λ i. Some i) same)
joined_leads reading limit at None old joined is joins = (connects_made reading limit at false old joined joins).leads_there

leads_within : (reading : ℕ) (readers : List (Option Reader)) (at : ℕ) → leads_to reading (get_or readers at None) ≡ true
    → at < length readers
leads_within reading [] at leads = cc
leads_within reading (x ∷ xs) zero leads = omega arith
leads_within reading (x ∷ xs) (suc at) leads = omega (arith, leads_within reading xs at leads)

read_attached : {T U : Type 0} (subscriber index reading at : ℕ) (joined : PublisherPort T U)
    → leads_to reading (get_or joined.readers at None) ≡ true → IsReadBy subscriber index joined
    → IsReadBy subscriber index (attached_at reading at joined)
read_attached {T} {U} subscriber index reading at joined leads reads = elim (cases_eq index at) [
  | inl same ↦
      let led : (subscriber == reading) ≡ true
      = ap (λ reader. leads_to reading reader) (sym reads.reader) ∙ ap (λ i. leads_to reading (get_or joined.readers i None)) same ∙
      leads in
      let named : subscriber ≡ reading = eqb-true subscriber reading led in
      let reader : Reader = record { subscriber = reading; attached = true } in
      record {
        live = reads.live;
        reader = ap (λ i. get_or (set joined.readers at (Some reader)) i None) same ∙ get_or-set_same joined.readers at (Some reader)
            None (leads_within reading joined.readers at leads)
            ∙ ap (λ n. Some (record { subscriber = n; attached = true })) (sym named);
      }
  | inr not ↦ record { live = reads.live; reader = get_or-set_other joined.readers at index _ None not ∙ reads.reader }
]

read_attaches : {T U : Type 0} (subscriber index reading limit at : ℕ) (old new : PublisherPort T U)
    → Attaches reading limit old (Ok at) new → IsReadBy subscriber index old → IsReadBy subscriber index new
read_attaches subscriber index reading limit at old new (joined, joins, is) reads =
    let leads = joined_leads reading limit at (connection_to reading old) old joined refl joins in
    read_is subscriber index (attached_at reading at joined) new is
    (read_attached subscriber index reading at joined leads
    (read_joins subscriber index reading limit at (connection_to reading old) old joined joins reads))

lead_attached : {T U : Type 0} (reading at : ℕ) (joined : PublisherPort T U) → leads_to reading (get_or joined.readers at None) ≡ true
    → LeadsOn joined → LeadsOn (attached_at reading at joined)
lead_attached reading at joined leads lead subscriber index is = elim (cases_eq index at) [
  | inl same ↦ lead reading index (ap (λ i. leads_to reading (get_or joined.readers i None)) same ∙ leads)
  | inr not ↦ lead subscriber index (ap (λ reader. leads_to subscriber reader)
      (sym (get_or-set_other joined.readers at index _ None not)) ∙ is)
]

lead_attaches : {T U : Type 0} (reading limit at : ℕ) (old new : PublisherPort T U) → Attaches reading limit old (Ok at) new
    → LeadsOn old → LeadsOn new
lead_attaches reading limit at old new (joined, joins, is) lead =
    let leads = joined_leads reading limit at (connection_to reading old) old joined refl joins in
    lead_alike (attached_at reading at joined) new (alike_is (attached_at reading at joined) new is)
    (lead_attached reading at joined leads (lead_joins reading limit at (connection_to reading old) old joined joins lead))

reads_then : {T U : Type 0} (reading limit at : ℕ) (old new : PublisherPort T U) → Attaches reading limit old (Ok at) new → LeadsOn old
    → IsReadBy reading at new
reads_then {T} {U} reading limit at old new (joined, joins, is) lead =
    let leads = joined_leads reading limit at (connection_to reading old) old joined refl joins in
    let on = lead_joins reading limit at (connection_to reading old) old joined joins lead in
    let now : PublisherPort T U = attached_at reading at joined in
    read_is reading at now new is (record
    { live = on reading at leads; reader = get_or-set_same joined.readers at _ None (leads_within reading joined.readers at leads) })

-- a publisher leaves: connections where somebody reads go on
reader_attached : {T U : Type 0} (subscriber index at : ℕ) (port : PublisherPort T U)
    → is_attached (get_or port.readers at None) ≡ false → IsReadBy subscriber index port → index ≢ at
reader_attached subscriber index at port none reads same =
    let no : true ≡ false = ap (λ reader. is_attached reader) (sym reads.reader) ∙ ap (λ i. is_attached (get_or port.readers i None))
    same ∙ none in cc

read_parted_by : {T U : Type 0} (attached : Bool) (subscriber index at : ℕ) (port : PublisherPort T U)
    → is_attached (get_or port.readers at None) ≡ attached → IsReadBy subscriber index port
    → IsReadBy subscriber index (if attached then port else ended_at at port)
read_parted_by true subscriber index at port is reads = reads
read_parted_by false subscriber index at port is reads
    = read_ended subscriber index at port (reader_attached subscriber index at port is reads) reads

read_parted_from : {T U : Type 0} (count subscriber index at : ℕ) (port : PublisherPort T U) → IsReadBy subscriber index port
    → IsReadBy subscriber index (parted_from count at port)
read_parted_from zero subscriber index at port reads = reads
read_parted_from (suc count) subscriber index at port reads =
    read_parted_from count subscriber index (at + 1) (parted_at at port)
    (read_parted_by (is_attached (get_or port.readers at None)) subscriber index at port refl reads)

pub read_departed : {T U : Type 0} (subscriber index : ℕ) (port : PublisherPort T U) → IsReadBy subscriber index port
    → IsReadBy subscriber index (departed port)
read_departed subscriber index port reads
    = read_parted_from (length port.sender.uses.connections) subscriber index 0 (record port { stands = false })
    (record { live = reads.live; reader = reads.reader })

lead_parted_by : {T U : Type 0} (attached : Bool) (at : ℕ) (port : PublisherPort T U) → LeadsOn port
    → LeadsOn (if attached then port else ended_at at port)
lead_parted_by true at port lead = lead
lead_parted_by false at port lead = lead_ended at port lead

lead_parted_from : {T U : Type 0} (count at : ℕ) (port : PublisherPort T U) → LeadsOn port → LeadsOn (parted_from count at port)
lead_parted_from zero at port lead = lead
lead_parted_from (suc count) at port lead
    = lead_parted_from count (at + 1) (parted_at at port) (lead_parted_by (is_attached (get_or port.readers at None)) at port lead)

pub lead_departed : {T U : Type 0} (port : PublisherPort T U) → LeadsOn port → LeadsOn (departed port)
lead_departed port lead = lead_parted_from (length port.sender.uses.connections) 0 (record port { stands = false }) lead

-- the publisher of a number took a step
pub attached_with : {T U : Type 0} (subscriber : ℕ) (attached : Attached) (number : ℕ) (ports : List (ℕ × PublisherPort T U))
    (port after : PublisherPort T U) → port_of number ports ≡ Some port
    → (attached.publisher ≡ number → IsReadBy subscriber attached.index port → IsReadBy subscriber attached.index after)
    → IsAttached subscriber attached ports → IsAttached subscriber attached (with_port number ports after)
attached_with {T} {U} subscriber attached number ports port after there keeps (found, is_found, reads)
    = elim (cases_eq attached.publisher number) [
      | inl same ↦
          let both : Some found ≡ Some port = sym is_found ∙ ap (λ n. port_of n ports) same ∙ there in
          let is : port ≡ found = cc in (
            after,
            ap (λ n. port_of n (with_port number ports after)) same ∙ same_set (at_number number) ports after port there,
            keeps same
                (read_is subscriber attached.index found port is reads),
          )
      | inr not ↦ (
        found,
        other_set (at_number number) (at_number attached.publisher) ports after
            (other_fails attached.publisher number not) ∙ is_found,
        reads,
      )
    ]

pub attached_changed : {T U : Type 0} (subscriber : ℕ) (attached : Attached) (number : ℕ) (step : PublisherPort T U → PublisherPort T U)
    (found : Option (PublisherPort T U)) (ports : List (ℕ × PublisherPort T U)) → port_of number ports ≡ found
    → ((port : PublisherPort T U) → attached.publisher ≡ number → IsReadBy subscriber attached.index port
    → IsReadBy subscriber attached.index (step port)) → IsAttached subscriber attached ports
    → IsAttached subscriber attached (changed_at_port number step found ports)
attached_changed subscriber attached number step None ports there keeps reads = reads
attached_changed subscriber attached number step (Some port) ports there keeps reads
    = attached_with subscriber attached number ports port (step port) there (keeps port) reads

live_open : (now : Stage) → goes_on now ≡ true → is_open now ≡ true
live_open stage.Vacant live = cc
live_open stage.Live live = refl
live_open stage.Ended live = refl

over_read : {T U : Type 0} (subscriber index : ℕ) (port : PublisherPort T U) → is_over port ≡ true → IsReadBy subscriber index port → ⊥
over_read subscriber index port over reads =
    let none : list_any is_there port.sender.uses.connections ≡ false
    = last_of port.stands (length port.sender.uses.loans == 0) (is_some port.sender.uses.sending)
    (list_any is_there port.sender.uses.connections) over in
    let no : true ≡ false = sym (live_open (connection_of index port).stage reads.live) ∙ none_there port.sender.uses.connections index
    none in cc

attached_gone : {T U : Type 0} (over : Bool) (subscriber : ℕ) (attached : Attached) (number : ℕ) (ports : List (ℕ × PublisherPort T U))
    → is_over_in number ports ≡ over → IsAttached subscriber attached ports
    → IsAttached subscriber attached (if over then removed number ports else ports)
attached_gone false subscriber attached number ports is reads = reads
attached_gone true subscriber attached number ports is (found, is_found, reads) = elim (cases_eq attached.publisher number) [
  | inl same ↦ absurd (over_read subscriber attached.index found
      (ap (λ one. is_over_port one) (sym (ap (λ n. port_of n ports) (sym same) ∙ is_found)) ∙ is) reads)
  | inr not ↦ (
    found,
    other_gone (at_number number) (at_number attached.publisher) ports (other_fails attached.publisher number not) ∙
        is_found,
    reads,
  )
]

pub attached_settled : {T U : Type 0} (subscriber : ℕ) (attached : Attached) (number : ℕ) (ports : List (ℕ × PublisherPort T U))
    → IsAttached subscriber attached ports → IsAttached subscriber attached (settled number ports)
attached_settled subscriber attached number ports reads
    = attached_gone (is_over_in number ports) subscriber attached number ports refl reads

-- connections that lead to somebody go on
pub leads_found : {T U : Type 0} (number : ℕ) (ports : List (ℕ × PublisherPort T U)) (port : PublisherPort T U) → All LeadsOnEntry ports
    → port_of number ports ≡ Some port → LeadsOn port
leads_found number ports port all there = (found_of_all LeadsOnEntry (at_number number) ports port all there).holds

pub leads_with : {T U : Type 0} (number : ℕ) (ports : List (ℕ × PublisherPort T U)) (after : PublisherPort T U) → LeadsOn after
    → All LeadsOnEntry ports → All LeadsOnEntry (with_port number ports after)
leads_with number ports after lead all = all_set LeadsOnEntry (at_number number) ports after (λ one was. lead) all

pub leads_changed : {T U : Type 0} (number : ℕ) (step : PublisherPort T U → PublisherPort T U) (found : Option (PublisherPort T U))
    (ports : List (ℕ × PublisherPort T U)) → port_of number ports ≡ found
    → ((port : PublisherPort T U) → LeadsOn port → LeadsOn (step port))
    → All LeadsOnEntry ports → All LeadsOnEntry (changed_at_port number step found ports)
leads_changed number step None ports there keeps all = all
leads_changed number step (Some port) ports there keeps all
    = leads_with number ports (step port) (keeps port (leads_found number ports port all there)) all

leads_gone : {T U : Type 0} (over : Bool) (number : ℕ) (ports : List (ℕ × PublisherPort T U)) → All LeadsOnEntry ports
    → All LeadsOnEntry (if over then removed number ports else ports)
leads_gone true number ports all = all_gone LeadsOnEntry (at_number number) ports all
leads_gone false number ports all = all

pub leads_settled : {T U : Type 0} (number : ℕ) (ports : List (ℕ × PublisherPort T U)) → All LeadsOnEntry ports
    → All LeadsOnEntry (settled number ports)
leads_settled number ports all = leads_gone (is_over_in number ports) number ports all

-- a connection of a subscriber ends, or it leaves it
apart_index : (attached other : Attached) → attached ≢ other → attached.publisher ≡ other.publisher → attached.index ≢ other.index
apart_index attached other not same is
    = not (ap (λ n. record { publisher = n; index = attached.index }) same ∙ ap (λ n. record { publisher = other.publisher; index = n }) is)

pub attached_ended : {T U : Type 0} (subscriber : ℕ) (attached gone : Attached) (ports : List (ℕ × PublisherPort T U)) → attached ≢ gone
    → IsAttached subscriber attached ports
    → IsAttached subscriber attached (settled gone.publisher (changed gone.publisher (ended_if_left gone.index) ports))
attached_ended subscriber attached gone ports not reads =
    attached_settled subscriber attached gone.publisher (changed gone.publisher (ended_if_left gone.index) ports)
    (attached_changed subscriber attached gone.publisher (ended_if_left gone.index) (port_of gone.publisher ports) ports refl
    (λ port same. read_if_left port.stands subscriber attached.index gone.index port (apart_index attached gone not same)) reads)

pub leads_ended : {T U : Type 0} (gone : Attached) (ports : List (ℕ × PublisherPort T U)) → All LeadsOnEntry ports
    → All LeadsOnEntry (settled gone.publisher (changed gone.publisher (ended_if_left gone.index) ports))
leads_ended gone ports all =
    leads_settled gone.publisher (changed gone.publisher (ended_if_left gone.index) ports)
    (leads_changed gone.publisher (ended_if_left gone.index) (port_of gone.publisher ports) ports refl
    (λ port lead. lead_if_left port.stands gone.index port lead) all)

pub attached_detached : {T U : Type 0} (subscriber : ℕ) (attached gone : Attached) (ports : List (ℕ × PublisherPort T U))
    → attached ≢ gone → IsAttached subscriber attached ports
    → IsAttached subscriber attached (changed gone.publisher (detached_at gone.index) ports)
attached_detached subscriber attached gone ports not reads =
    attached_changed subscriber attached gone.publisher (detached_at gone.index) (port_of gone.publisher ports) ports refl
    (λ port same. read_detached subscriber attached.index gone.index port (apart_index attached gone not same)) reads

pub leads_detached : {T U : Type 0} (gone : Attached) (ports : List (ℕ × PublisherPort T U)) → All LeadsOnEntry ports
    → All LeadsOnEntry (changed gone.publisher (detached_at gone.index) ports)
leads_detached gone ports all = leads_changed gone.publisher (detached_at gone.index) (port_of gone.publisher ports) ports refl
    (lead_detached gone.index) all

-- a message is received, or given back
pub attached_taken : {T U : Type 0} (subscriber : ℕ) (attached giver : Attached) (ports : List (ℕ × PublisherPort T U))
    → IsAttached subscriber attached ports → IsAttached subscriber attached (changed giver.publisher (taken_at giver.index) ports)
attached_taken subscriber attached giver ports reads =
    attached_changed subscriber attached giver.publisher (taken_at giver.index) (port_of giver.publisher ports) ports refl
    (λ port same. read_alike subscriber attached.index port (taken_at giver.index port) (alike_taken giver.index port)) reads

pub leads_taken : {T U : Type 0} (giver : Attached) (ports : List (ℕ × PublisherPort T U)) → All LeadsOnEntry ports
    → All LeadsOnEntry (changed giver.publisher (taken_at giver.index) ports)
leads_taken giver ports all = leads_changed giver.publisher (taken_at giver.index) (port_of giver.publisher ports) ports refl
    (λ port. lead_alike port (taken_at giver.index port) (alike_taken giver.index port)) all

pub attached_released : {T U : Type 0} (subscriber : ℕ) (attached : Attached) (publisher index at : ℕ)
    (ports : List (ℕ × PublisherPort T U)) → IsAttached subscriber attached ports
    → IsAttached subscriber attached (released publisher index (Some at) ports)
attached_released subscriber attached publisher index at ports reads =
    attached_settled subscriber attached publisher (changed publisher (given_back_at index (Some at)) ports)
    (attached_changed subscriber attached publisher (given_back_at index (Some at)) (port_of publisher ports) ports refl
    (λ port same. read_alike subscriber attached.index port (given_back_at index (Some at) port)
    (alike_given_back index (Some at) port)) reads)

pub leads_released : {T U : Type 0} (publisher index at : ℕ) (ports : List (ℕ × PublisherPort T U)) → All LeadsOnEntry ports
    → All LeadsOnEntry (released publisher index (Some at) ports)
leads_released publisher index at ports all =
    leads_settled publisher (changed publisher (given_back_at index (Some at)) ports)
    (leads_changed publisher (given_back_at index (Some at)) (port_of publisher ports) ports refl
    (λ port. lead_alike port (given_back_at index (Some at) port) (alike_given_back index (Some at) port)) all)

-- a subscriber attaches
pub attached_then : {T U : Type 0} (subscriber : ℕ) (attached : Attached) (number reading limit : ℕ)
    (found : Option (PublisherPort T U)) (old new : List (ℕ × PublisherPort T U)) (answer : Option (Result ℕ AllocError))
    → port_of number old ≡ found
    → AttachesAtPort number reading limit found old answer new → IsAttached subscriber attached old → IsAttached subscriber attached new
attached_then subscriber attached number reading limit None old new answer there attaches reads
    = subst (λ all. IsAttached subscriber attached all) (sym (attaches.1)) reads
attached_then subscriber attached number reading limit (Some port) old new None there attaches reads = absurd attaches
attached_then subscriber attached number reading limit (Some port) old new (Some (Err error)) there attaches reads
    = subst (λ all. IsAttached subscriber attached all) (sym (attaches.1)) reads
attached_then subscriber attached number reading limit (Some port) old new (Some (Ok at)) there (after, attaches, is) reads =
    subst (λ all. IsAttached subscriber attached all) (sym is)
    (attached_with subscriber attached number old port after there
    (λ same. read_attaches subscriber attached.index reading (min limit port.sender.uses.most_waiting) at port after attaches) reads)

pub leads_then : {T U : Type 0} (number reading limit : ℕ) (found : Option (PublisherPort T U)) (old new : List (ℕ × PublisherPort T U))
    (answer : Option (Result ℕ AllocError)) → port_of number old ≡ found
    → AttachesAtPort number reading limit found old answer new → All LeadsOnEntry old → All LeadsOnEntry new
leads_then number reading limit None old new answer there attaches all = subst (λ ports. All LeadsOnEntry ports) (sym (attaches.1)) all
leads_then number reading limit (Some port) old new None there attaches all = absurd attaches
leads_then number reading limit (Some port) old new (Some (Err error)) there attaches all
    = subst (λ ports. All LeadsOnEntry ports) (sym (attaches.1)) all
leads_then number reading limit (Some port) old new (Some (Ok at)) there (after, attaches, is) all =
    subst (λ ports. All LeadsOnEntry ports) (sym is)
    (leads_with number old after (lead_attaches reading (min limit port.sender.uses.most_waiting) at port after attaches
    (leads_found number old port all there)) all)

pub is_attached_then : {T U : Type 0} (number reading limit at : ℕ) (found : Option (PublisherPort T U))
    (old new : List (ℕ × PublisherPort T U)) → port_of number old ≡ found → AttachesAtPort number reading limit found old (Some (Ok at)) new
    → All LeadsOnEntry old → IsAttached reading (record { publisher = number; index = at }) new
is_attached_then number reading limit at None old new there attaches all = let no : Some (Ok at) ≡ None = attaches.0 in absurd (cc)
is_attached_then number reading limit at (Some port) old new there (after, attaches, is) all = (
  after,
  ap (λ ports. port_of number ports) is ∙ same_set (at_number number) old after port there,
  reads_then reading
      (min limit port.sender.uses.most_waiting) at port after attaches (leads_found number old port all there),
)
