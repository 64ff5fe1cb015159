-- What waits at a connection of lanes, and how much may, after what they find.
use Rattle.std.proofs.Common.{arith, ℕ, zero, suc, ◌≡◌, ◌+◌, ◌*◌, ◌<◌, ◌≤◌, ◌==◌, true, false, List, [], ◌∷◌, ◌++◌, length, map, slice_get}
use Rattle.std.proofs.Common.{Option, None, Some, refl, sym, ap, ◌∙◌, subst, append_assoc, length-append}
use Rattle.std.proofs.lemmas.Option.{slice_get_within}
use Rattle.iox_domain.specs.DomainPorts.Messages.{Message}
use Rattle.iox_domain.specs.DomainPorts.declared.publisher_port.PublisherPort.{PublisherPort}
use Rattle.iox_lanes_machine.specs.LanesBase.declared.calls.route.Route.{Route}
use Rattle.iox_lanes_machine.specs.LanesBase.declared.words.sizes.TableSizes.{TableSizes}
use Rattle.iox_lanes_machine.specs.LanesParties.Parties.{PublisherLaneState}
use Rattle.iox_lanes_machine.specs.Borrowing.{is_at}
use Rattle.iox_lanes_machine.specs.Findings.{finds, with_found}
use Rattle.iox_lanes_machine.specs.LedgerUses.{count}
use Rattle.iox_lanes_machine.specs.Links.{LinkState}
use Rattle.iox_lanes_machine.specs.Made.{publisher_at, route_to, start, table_sizes}
use Rattle.iox_lanes_machine.specs.Returns.{back_ring}
use Rattle.iox_lanes_machine.specs.Stored.{between}
use Rattle.iox_lanes_machine.specs.TakenIn.{leads_of, link_with, more_messages, more_samples, new_buffer, number_if, number_with}
use Rattle.iox_lanes_machine.specs.TakenIn.{route_with}
use Rattle.iox_lanes_machine.specs.TakenIn.{slot_if, IsTakenIn}
use Rattle.iox_lanes_machine.specs.Uses.{given_back}
use Rattle.iox_lanes_machine.specs.World.{World}
use Rattle.iox_lanes_machine.specs.declared.found.Found.{Found}
use Rattle.iox_lanes_machine.specs.declared.found.Found.TheVariants as found
use Rattle.iox_lanes_machine.specs.declared.sizes.LaneSizes.{LaneSizes}
use Rattle.iox_lanes_machine.proofs.Ends.{some_is}
use Rattle.iox_lanes_machine.proofs.Start.{listed_is, listed_length}
use Rattle.iox_lanes.specs.Behind.{behind_findings, behind_finding}
use Rattle.iox_lanes.specs.Laid.{message_findings, slot_in, waiting_findings}
use Rattle.iox_lanes.specs.Spelling.{Spelling}
use Rattle.iox_lanes.proofs.Apart.{not_same, AreApart}
use Rattle.iox_lanes.proofs.Behind.{behind_both}
use Rattle.iox_lanes.proofs.Booked.{booked_stays, itself, nil_behind, some_at, IsBooked, LeavesBook}
use Rattle.iox_lanes.proofs.Each.{each_leaves, each_word, Each}
use Rattle.iox_lanes.proofs.Moving.{behind_by, behind_fits}
use Rattle.iox_lanes.proofs.Placing.{rows_apart}
use Rattle.iox_lanes.proofs.Wording.{accepted, steady_on, taken_in, AreSteady}

-- each publisher has n connections, the one at a place under the number of its place, publisher by publisher
pub record RoutesLead (readers : ℕ) (m : World) : Type 0 where
  pub many : (who : ℕ) (lane : PublisherLaneState) → slice_get m.publishers who ≡ Some lane → length lane.port.routes ≡ readers
  pub lead : (who place : ℕ) (lane : PublisherLaneState) (route : Route) → slice_get m.publishers who ≡ Some lane
      → slice_get lane.port.routes place ≡ Some route → route.connection ≡ who * readers + place

pub start_leads : (sizes : LaneSizes) → RoutesLead sizes.subscribers (start sizes)
start_leads sizes = record {
  many = λ who lane there. ap (λ (l : PublisherLaneState). length l.port.routes)
      (listed_is (publisher_at sizes) sizes.publishers who lane there).1
      ∙ listed_length (λ subscriber. route_to sizes (who * sizes.subscribers + subscriber)) sizes.subscribers;
  lead = λ who place lane route there at. ap (λ (r : Route). r.connection)
      (listed_is (λ subscriber. route_to sizes (who * sizes.subscribers + subscriber)) sizes.subscribers place route
      (ap (λ (l : PublisherLaneState). slice_get l.port.routes place) (sym (listed_is (publisher_at sizes) sizes.publishers who lane
      there).1) ∙ at)).1;
}

pub same_connection : (buffer : Option ℕ) (route : Route) → (route_with buffer route).connection ≡ route.connection
same_connection None route = refl
same_connection (Some messages) route = refl

leads_on : (readers : ℕ) (m n : World) (f : Found) → IsTakenIn m f n → RoutesLead readers m → RoutesLead readers n
leads_on readers m n f taken leads = record {
  many = λ who lane there.
      let was = some_at m.publishers who (omega (arith, taken.as_many, slice_get_within n.publishers who lane there)) in
      (taken.publishers who was.0 lane was.1 there).routes.as_many ∙ leads.many who was.0 was.1;
  lead = λ who place lane route there at.
      let was = some_at m.publishers who (omega (arith, taken.as_many, slice_get_within n.publishers who lane there)) in
      let grows = taken.publishers who was.0 lane was.1 there in
      let before = some_at (was.0).port.routes place
      (omega (arith, grows.routes.as_many, slice_get_within lane.port.routes place route at)) in
      let is = some_is route (route_with (new_buffer m f (before.0).connection) before.0)
      (sym at ∙ grows.routes.each place before.0 before.1) in
      ap (λ (r : Route). r.connection) is ∙ same_connection (new_buffer m f (before.0).connection) before.0
      ∙ leads.lead who place was.0 before.0 was.1 before.1;
}

-- a finding isn't of this connection's messages
abbrev pub LeavesLink : ℕ → ℕ → Found → Type 0
LeavesLink who other (found.Waiting publisher place slot) = publisher ≡ who → place ≡ other → ⊥
LeavesLink who other (found.GivenBack publisher place slot) = ⊥
LeavesLink who other (found.Newest publisher slot) = Unit {0}
LeavesLink who other (found.Held slot word value) = Unit {0}
LeavesLink who other (found.Buffer publisher place messages) = publisher ≡ who → place ≡ other → ⊥
LeavesLink who other (found.Slots publisher slots most_loans) = Unit {0}
LeavesLink who other (found.Sender publisher node_id publisher_id fails last) = Unit {0}
LeavesLink who other (found.Swapped subscriber one two) = Unit {0}

module _ (sizes : LaneSizes) (who other : ℕ) where
  abbrev pub connection : ℕ
  connection = who * sizes.subscribers + other

  -- a connection of lanes at which these slots wait, of n that may, and to which nothing was given back
  pub record IsLinked (waiting : List ℕ) (limit : ℕ) (m : World) : Type 0 where
    pub steady : AreSteady (table_sizes sizes) m
    pub leads : RoutesLead sizes.subscribers m
    pub link : LinkState
    pub connects : slice_get m.links connection ≡ Some link
    pub waits : link.found ≡ waiting
    pub limits : link.limit ≡ limit
    pub back : given_back m.table connection ≡ []

  linked_on : (m : World) (f : Found) (waiting : List ℕ) (limit : ℕ) → more_samples m f connection ≡ [] → IsLinked waiting limit m
      → finds m f ≡ true
      → IsLinked (waiting ++ more_messages m f connection) (number_with (new_buffer m f connection) limit) (with_found m f)
  linked_on m f waiting limit none linked fits =
      let n : World = with_found m f in
      let taken : IsTakenIn m f n = taken_in m f fits (linked.steady).kept in
      let grows = taken.samples connection linked.link linked.connects in
      record {
        steady = subst (AreSteady (table_sizes sizes)) (behind_fits m f fits) (steady_on (table_sizes sizes) m f linked.steady);
        leads = leads_on sizes.subscribers m n f taken linked.leads;
        link = record linked.link {
          found = (linked.link).found ++ more_messages m f connection;
          limit = number_with (new_buffer m f connection) (linked.link).limit;
        };
        connects = taken.links connection ∙ ap (link_with (more_messages m f connection) (new_buffer m f connection)) linked.connects;
        waits = ap (λ w. w ++ more_messages m f connection) linked.waits;
        limits = ap (number_with (new_buffer m f connection)) linked.limits;
        back = ap (λ (k : ℕ). between (back_ring n.table connection k)) (ap (λ (w : World). w.table.sizes.completion_cells) taken.same)
            ∙ grows.list ∙ ap (λ was. was ++ more_samples m f connection) linked.back ∙ none;
      }

  module _ (below : other < sizes.subscribers) where
    off_by : (m : World) (at place : ℕ) (lane : Option PublisherLaneState) → RoutesLead sizes.subscribers m
        → (at ≡ who → place ≡ other → ⊥) → slice_get m.publishers at ≡ lane → leads_of lane place connection ≡ false
    off_by m at place None leads apart there = refl
    off_by m at place (Some lane) leads apart there = by (slice_get lane.port.routes place) refl
      where
        by : (route : Option Route) → slice_get lane.port.routes place ≡ route → is_at connection route ≡ false
        by None stands = refl
        by (Some route) stands = not_same route.connection connection (λ same.
            let within : place < sizes.subscribers
            = omega (arith, slice_get_within lane.port.routes place route stands, leads.many at lane there) in
            let equal : at * sizes.subscribers + place ≡ connection = sym (leads.lead at place lane route there stands) ∙ same in
            let row : at ≡ who = rows_apart at who sizes.subscribers place other within below equal in
            apart row (omega (arith, equal, ap (λ n. n * sizes.subscribers) row)))

    off : (m : World) (at place : ℕ) → RoutesLead sizes.subscribers m → (at ≡ who → place ≡ other → ⊥)
        → leads_of (slice_get m.publishers at) place connection ≡ false
    off m at place leads apart = off_by m at place (slice_get m.publishers at) leads apart refl

    nothing_of : (m : World) (f : Found) → LeavesLink who other f → RoutesLead sizes.subscribers m
        → (more_samples m f connection ≡ []) × (more_messages m f connection ≡ []) × (new_buffer m f connection ≡ None)
    nothing_of m (found.Waiting publisher place slot) leaves leads
        = (refl, ap (λ b. slot_if b slot) (off m publisher place leads leaves), refl)
    nothing_of m (found.GivenBack publisher place slot) leaves leads = absurd leaves
    nothing_of m (found.Newest publisher slot) leaves leads = (refl, refl, refl)
    nothing_of m (found.Held slot word value) leaves leads = (refl, refl, refl)
    nothing_of m (found.Buffer publisher place messages) leaves leads
        = (refl, refl, ap (λ b. number_if b messages) (off m publisher place leads leaves))
    nothing_of m (found.Slots publisher slots most_loans) leaves leads = (refl, refl, refl)
    nothing_of m (found.Sender publisher node_id publisher_id fails last) leaves leads = (refl, refl, refl)
    nothing_of m (found.Swapped subscriber one two) leaves leads = (refl, refl, refl)

    -- a finding that leaves it
    pub linked_stays : (m : World) (f : Found) (waiting : List ℕ) (limit : ℕ) → LeavesLink who other f → IsLinked waiting limit m
        → IsLinked waiting limit (behind_finding m f)
    linked_stays m f waiting limit leaves linked = behind_by (IsLinked waiting limit) m f linked (λ fits.
        let none = nothing_of m f leaves linked.leads in
        subst (λ l. IsLinked waiting l (with_found m f)) (ap (λ given. number_with given limit) none.2)
        (subst (λ w. IsLinked w (number_with (new_buffer m f connection) limit) (with_found m f))
        (ap (λ more. waiting ++ more) none.1 ∙ nil_behind waiting) (linked_on m f waiting limit none.0 linked fits)))

    leads_here : (m : World) (lane : PublisherLaneState) (route : Route) → slice_get m.publishers who ≡ Some lane
        → slice_get lane.port.routes other ≡ Some route → route.connection ≡ connection
        → leads_of (slice_get m.publishers who) other connection ≡ true
    leads_here m lane route there stands lead = ap (λ l. leads_of l other connection) there ∙ ap (is_at connection) stands
        ∙ ap (λ n. n == connection) lead ∙ itself connection

    -- its publisher has a route to it
    record IsRouted (lane : PublisherLaneState) : Type 0 where
      pub route : Route
      pub stands : slice_get lane.port.routes other ≡ Some route
      pub lead : route.connection ≡ connection

    routed : (m : World) (lane : PublisherLaneState) → RoutesLead sizes.subscribers m → slice_get m.publishers who ≡ Some lane
        → IsRouted lane
    routed m lane leads there =
        let route = some_at lane.port.routes other (omega (arith, below, leads.many who lane there)) in
        record {
          route = route.0;
          stands = route.1;
          lead = leads.lead who other lane route.0 there route.1;
        }

    -- as many may wait as fit, of one at least
    pub linked_buffer : (m : World) (lane : PublisherLaneState) (messages limit : ℕ) → slice_get m.publishers who ≡ Some lane
        → 0 < messages → messages ≤ limit → IsLinked [] limit m → IsLinked [] messages (behind_finding m (found.Buffer who other messages))
    linked_buffer m lane messages limit there some fit linked =
        let to = routed m lane linked.leads there in
        let fits = accepted m (found.Buffer who other messages) (linked.steady).kept (record {
          first = (linked.steady).moments;
          may = record {
            lane = lane;
            publisher = there;
            route = to.route;
            at = to.stands;
            link = linked.link;
            connection = ap (slice_get m.links) to.lead ∙ linked.connects;
            some = some;
            fits = omega (arith, fit, linked.limits);
            no_message = linked.waits;
            no_sample = ap (given_back m.table) to.lead ∙ linked.back;
          };
        }) in
        subst (IsLinked [] messages) (sym (behind_fits m (found.Buffer who other messages) fits))
        (subst (λ l. IsLinked [] l (with_found m (found.Buffer who other messages)))
        (ap (λ b. number_with (number_if b messages) limit) (leads_here m lane to.route there to.stands to.lead))
        (linked_on m (found.Buffer who other messages) [] limit refl linked fits))

    module _ (first size kept : ℕ) (history : List ℕ) where
      abbrev pub Booked : World → Type 0
      Booked m = IsBooked (table_sizes sizes) who first size kept history m

      -- a slot of its publisher that doesn't wait there yet may
      pub linked_waits : (m : World) (slot : ℕ) (waiting : List ℕ) (limit : ℕ) → first ≤ slot → slot < first + size
          → count slot waiting ≡ 0 → length waiting < limit → limit ≤ sizes.buffer → Booked m → IsLinked waiting limit m
          → IsLinked (waiting ++ slot ∷ []) limit (behind_finding m (found.Waiting who other slot))
      linked_waits m slot waiting limit above beneath none fewer small booked linked =
          let to = routed m booked.lane linked.leads booked.there in
          let cells : m.table.sizes.completion_cells ≡ sizes.buffer + sizes.most_borrowed + 1 =
          ap (λ (t : TableSizes). t.completion_cells) (linked.steady).table in
          let back : given_back m.table (to.route).connection ≡ [] = ap (given_back m.table) to.lead ∙ linked.back in
          let fits = accepted m (found.Waiting who other slot) (linked.steady).kept (record {
            first = (linked.steady).moments;
            may = record {
              stands = record {
                lane = booked.lane;
                publisher = booked.there;
                route = to.route;
                at = to.stands;
                link = linked.link;
                connection = ap (slice_get m.links) to.lead ∙ linked.connects;
                own = record { above = omega (arith, booked.from, above); below = omega (arith, booked.from, booked.many, beneath) };
                lacks = omega (arith, ap (count slot) linked.waits, none, ap (count slot) back);
                room = omega (arith, ap length linked.waits, ap length back, cells, fewer, small);
              };
              fewer = omega (arith, ap length linked.waits, fewer, linked.limits);
            };
          }) in
          subst (IsLinked (waiting ++ slot ∷ []) limit) (sym (behind_fits m (found.Waiting who other slot) fits))
          (subst (λ w. IsLinked w limit (with_found m (found.Waiting who other slot)))
          (ap (λ b. waiting ++ slot_if b slot) (leads_here m booked.lane to.route booked.there to.stands to.lead))
          (linked_on m (found.Waiting who other slot) waiting limit refl linked fits))

      -- the publisher has its history, and the connection what waits there
      abbrev pub Both : List ℕ → ℕ → World → Type 0
      Both waiting limit m = Booked m × IsLinked waiting limit m

      abbrev pub LeavesBoth : Found → Type 0
      LeavesBoth f = LeavesBook who f × LeavesLink who other f

      pub both_stay : (m : World) (f : Found) (waiting : List ℕ) (limit : ℕ) → LeavesBoth f → Both waiting limit m
          → Both waiting limit (behind_finding m f)
      both_stay m f waiting limit leaves both = (
        booked_stays (table_sizes sizes) who first size kept m f history leaves.0 both.0,
        linked_stays m f waiting limit leaves.1 both.1,
      )

      module _ {T U : Type 0} (spelling : Spelling T U) (port : PublisherPort T U) where
        words_leave : (message : Message T U)
            → Each LeavesBoth (message_findings spelling first port message)
        words_leave message =
            each_word spelling LeavesBoth (slot_in first message.slot)
            port.owner.node_id port.number message.elements (message.sequence, message.user_header) message.values ((refl, refl), tt)
            ((refl, refl), tt)
            ((refl, refl), tt) (λ word below. ((refl, refl), tt)) (λ word below value there. ((refl, refl), tt))

        -- messages whose slots are apart come to wait there
        pub linked_waiting : (messages : List (Message T U)) (seen : List ℕ) (limit : ℕ) (m : World)
            → ((at : ℕ) (message : Message T U) → slice_get messages at ≡ Some message
            → (slot_in first message.slot ≡ first + message.slot) × (message.slot < size))
            → AreApart seen (map (λ message. first + message.slot) messages) → length seen + length messages ≤ limit
            → limit ≤ sizes.buffer → Both seen limit m
            → Both (seen ++ map (λ message. first + message.slot) messages) limit
            (behind_findings m (waiting_findings spelling who other first port messages))
        unfolding behind_findings
        linked_waiting [] seen limit m inside apart room small both = subst (λ w. Both w limit m) (sym (nil_behind seen)) both
        linked_waiting (message ∷ rest) seen limit m inside apart room small both =
            let words = message_findings spelling first port message in
            let later = waiting_findings spelling who other first port rest in
            let next = found.Waiting who other (slot_in first message.slot) in
            let slot : ℕ = first + message.slot in
            let here = inside zero message refl in
            let worded = each_leaves LeavesBoth (Both seen limit) (λ n f leaves is. both_stay n f seen limit leaves is) words m
            (words_leave message) both in
            let waits_here : Both (seen ++ slot ∷ []) limit (behind_finding (behind_findings m words) next) =
            subst (λ n. Both (seen ++ slot ∷ []) limit (behind_finding (behind_findings m words) (found.Waiting who other n)))
            (sym here.0) (
              booked_stays (table_sizes sizes) who first size kept (behind_findings m words) (found.Waiting who other slot) history
                  (refl, refl) worded.0,
              linked_waits (behind_findings m words) slot seen limit (omega arith) (omega (arith, here.1)) apart.0
                  (omega (arith, room)) small worded.0 worded.1,
            ) in
            let all = linked_waiting rest (seen ++ slot ∷ []) limit (behind_finding (behind_findings m words) next)
            (λ at own is. inside (suc at) own is) apart.1 (omega (arith, room, length-append seen (slot ∷ []))) small waits_here in
            subst (Both (seen ++ slot ∷ map (λ message. first + message.slot) rest) limit)
            (sym (behind_both m (words ++ next ∷ []) later ∙ ap (λ w. behind_findings w later) (behind_both m words (next ∷ []))))
            (subst (λ w. Both w limit (behind_findings (behind_finding (behind_findings m words) next) later))
            (append_assoc seen (slot ∷ []) (map (λ message. first + message.slot) rest)) all)
