-- A publisher leaves, of a domain and of the machine.
use Rattle.std.proofs.Common.{◌≡◌, ◌≢◌, ◌⊎◌, ◌+◌, ◌∷◌, [], ◌&&◌, ◌||◌, ℕ, zero, suc, Bool, true, false, List, map, get_or, set, not}
use Rattle.std.proofs.Common.{Option, None, Some, refl, sym, ap, subst, inl, inr, ◌∙◌, arith}
use Rattle.std.proofs.lemmas.Bool.{cases_eq, eq-eqb, ne_eqb}
use Rattle.std.proofs.lemmas.List.{get_or-set_other}
use Rattle.std.specs.Prelude.{is_some, option_map, MatchOption, if◌then◌else◌}
use Rattle.iox_command.specs.NegotiateBase.DescribeBase.declared.message_type.MessageTypeDetails.{MessageTypeDetails}
use Rattle.iox_command.specs.declared.command.Command.TheVariants as command
use Rattle.iox_command.specs.declared.port.PortNumber.TheVariants as number_of
use Rattle.iox_command.specs.declared.reply.Reply.{Reply}
use Rattle.iox_command.specs.declared.reply.Reply.TheVariants as reply
use Rattle.iox_domain.proofs.ListKeeps.{tidy_after, tidy_found}
use Rattle.iox_domain.proofs.Numbered.{at_number, same_set}
use Rattle.iox_domain.proofs.PublisherKeeps.{port_departed}
use Rattle.iox_domain.specs.Container.declared.container.Member.{Member}
use Rattle.iox_domain.specs.DomainPorts.Leaving.{departed}
use Rattle.iox_domain.specs.DomainPorts.Messages.{Message}
use Rattle.iox_domain.specs.DomainPorts.Publishers.{port_of}
use Rattle.iox_domain.specs.DomainPorts.declared.attached.Taken.{Taken}
use Rattle.iox_domain.specs.DomainPorts.declared.publisher_entry.PublisherEntry.{PublisherEntry}
use Rattle.iox_domain.specs.DomainPorts.declared.publisher_port.PublisherPort.{PublisherPort}
use Rattle.iox_domain.specs.PortLawsLaws.{IsSound}
use Rattle.iox_domain.specs.Ports.{with_publisher}
use Rattle.iox_domain.specs.PortsPublishing.{LeavesAt, LeavesPortIf}
use Rattle.iox_domain.specs.Rolls.{RollState, changed_to, is_listed, left, may_change}
use Rattle.iox_domain.specs.declared.ports.service_ports.ServicePorts.{ServicePorts}
use Rattle.iox_domain_machine.specs.LeaveLaws.{PublisherLeaveMatches}
use Rattle.iox_domain_machine.specs.Laws.{Matches, done_or_skipped}
use Rattle.iox_domain_machine.specs.Mailboxes.{IsKeyed}
use Rattle.iox_domain_machine.specs.Naming.{Naming, list_as}
use Rattle.iox_domain_machine.specs.Publishers.{BlockedStandsFor}
use Rattle.iox_domain_machine.specs.Standing.{StandsFor, PublisherIs, IsListedAt}
use Rattle.iox_domain_machine.specs.Tables.{LentSlot, LoansStandFor, SamplesStandFor}
use Rattle.iox_domain_machine.proofs.Alone.{alone_does, alone_skips}
use Rattle.iox_domain_machine.proofs.Changing.{any_changed, with_one}
use Rattle.iox_domain_machine.proofs.Found.{same_some, never_some, never_true, at_changed, at_changed_other, other_found}
use Rattle.iox_domain_machine.proofs.GivingUp.{some_of, isn't_in, is_in, none_blocked}
use Rattle.iox_domain_machine.proofs.Kept.{loans_kept}
use Rattle.iox_domain_machine.proofs.LeavePort.{HasParted, parts, none_set, left_port, left_boxes, borrowed_same, still_read}
use Rattle.iox_domain_machine.proofs.LeaveSamples.{samples_alike}
use Rattle.iox_domain_machine.proofs.Settling.{settled_stands}
use Rattle.iox_machine.specs.Choices.{Choices}
use Rattle.iox_machine.proofs.Shorthands as shorthands
use Rattle.iox_machine.specs.PortList.{unless}
use Rattle.iox_machine.specs.Ports.{publisher_in}
use Rattle.iox_machine.proofs.Shorthands.{IsSkipped}
use Rattle.iox_machine.specs.Service.{Service, Publisher}
use Rattle.iox_machine.proofs.Shorthands as shorthands
use Rattle.iox_machine.specs.State.{State}
use Rattle.iox_machine.specs.Table.{at, changed}

-- who is at one place of a list alone leaves it
module _ {V : Type 0} (name : V → ℕ) (gone : ℕ) where
  abbrev named : Option (Member V) → Option ℕ
  named = option_map (λ (member : Member V). name member.value)

  kept_one : (member : Option (Member V)) → ((one : Member V) → member ≡ Some one → name one.value ≢ gone)
      → unless (gone ∷ []) (named member) ≡ named member
  kept_one None other = refl
  kept_one (Some one) other =
      ap (λ b. if b || false then None else Some (name one.value)) (ne_eqb gone (name one.value) (λ same. other one refl (sym same)))

  gone_one : (member : Option (Member V)) → ((one : Member V) → member ≡ Some one → name one.value ≡ gone)
      → unless (gone ∷ []) (named member) ≡ None
  gone_one None is = refl
  gone_one (Some one) is =
      ap (λ b. if b || false then None else Some (name one.value)) (eq-eqb gone (name one.value) (sym (is one refl)))

  kept_all : (places : List (Option (Member V)))
      → ((place : ℕ) (one : Member V) → get_or places place None ≡ Some one → name one.value ≢ gone)
      → map (unless (gone ∷ [])) (map named places) ≡ map named places
  kept_all [] others = refl
  kept_all (member ∷ places) others =
      ap (λ first. first ∷ map (unless (gone ∷ [])) (map named places)) (kept_one member (others 0))
      ∙ ap (λ rest. named member ∷ rest) (kept_all places (λ place. others (suc place)))

  pub gone_at : (place : ℕ) (places : List (Option (Member V)))
      → ((other : ℕ) (one : Member V) → get_or places other None ≡ Some one → name one.value ≡ gone → other ≡ place)
      → ((one : Member V) → get_or places place None ≡ Some one → name one.value ≡ gone)
      → map (unless (gone ∷ [])) (map named places) ≡ map named (set places place None)
  gone_at place [] alone here = refl
  gone_at zero (member ∷ places) alone here =
      ap (λ first. first ∷ map (unless (gone ∷ [])) (map named places)) (gone_one member here)
      ∙ ap (λ rest. None ∷ rest) (kept_all places
      (λ place one is same. absurd (let wrong = alone (suc place) one is same in omega (arith, wrong))))
  gone_at (suc place) (member ∷ places) alone here =
      ap (λ first. first ∷ map (unless (gone ∷ [])) (map named places)) (kept_one member
      (λ one is same. absurd (let wrong = alone 0 one is same in omega (arith, wrong))))
      ∙ ap (λ rest. named member ∷ rest) (gone_at place places
      (λ other one is same. let it = alone (suc other) one is same in omega (arith, it)) here)

module _ {T U : Type 0} (names : Naming) (lent : List (ℕ × LentSlot)) (held : List (ℕ × Taken)) (buffer : ℕ) (old : ServicePorts T U)
    (service : Service T) (number : ℕ) (port : PublisherPort T U) (stands : StandsFor names lent held buffer old service)
    (sound : IsSound old) (there : port_of number old.publishers ≡ Some port) (standing : port.stands ≡ true)
    (silent : port.sender.uses.sending ≡ None) (named_so : names.publisher number ≢ 0)
    (may : may_change old.publisher_list ≡ true) where
  abbrev name : ℕ
  name = names.publisher number

  abbrev after : PublisherPort T U
  after = departed port

  abbrev places : List (Option (Member PublisherEntry))
  places = old.publisher_list.places

  abbrev roll : RollState PublisherEntry
  roll = changed_to (set places port.place None) old.publisher_list

  abbrev namer : PublisherEntry → ℕ
  namer entry = names.publisher entry.publisher

  abbrev new : ServicePorts T U
  new = with_one number after old

  parted : HasParted (record port { stands = false }) after
  parted = parts port

  now : port_of number new.publishers ≡ Some after
  now = same_set (at_number number) old.publishers after port there

  elsewhere : (other : ℕ) → other ≢ number → port_of other new.publishers ≡ port_of other old.publishers
  elsewhere other off = other_found number other after old.publishers off

  abbrev was : PublisherIs names old service number port
  was = stands.publishers number port there

  at_place : (member : Member PublisherEntry) × (get_or places port.place None ≡ Some member) × (member.value.publisher ≡ number)
  at_place = stands.listed number port there standing

  left_is : left port.place old.publisher_list ≡ roll
  left_is =
      ap (λ b. if b then (if is_listed port.place old.publisher_list then roll else old.publisher_list) else old.publisher_list) may
      ∙ ap (λ member. if is_some member then roll else old.publisher_list) at_place.1

  is_port : (other : ℕ) (found : PublisherPort T U) → other ≡ number → port_of other old.publishers ≡ Some found → found ≡ port
  is_port other found same is = same_some found port (sym is ∙ ap (λ n. port_of n old.publishers) same ∙ there)

  same_list : shorthands.left name service.publisher_list ≡ list_as namer roll
  same_list =
      ap (shorthands.left name) stands.publisher_list
      ∙ ap (λ (all : List (Option ℕ)). record { places = all; changes = old.publisher_list.changes + 1 })
      (gone_at namer name port.place places
      (λ place one is same.
      let found = stands.present place one is in
      let its = sym (stands.named_publishers.apart number one.value.publisher named_so (sym same)) in
      sym found.3 ∙ ap (λ (one : PublisherPort T U). one.place) (is_port one.value.publisher found.0 its found.1))
      (λ one is. ap namer (ap (λ (member : Member PublisherEntry). member.value) (same_some one at_place.0 (sym is ∙ at_place.1)))
      ∙ ap names.publisher at_place.2))

  listed : (other : ℕ) (found : PublisherPort T U) → (other ≡ number) ⊎ (other ≢ number) → port_of other new.publishers ≡ Some found
      → IsListedAt roll.places other found
  listed other found (inl same) is still =
      let it : found ≡ after = same_some found after (sym is ∙ ap (λ n. port_of n new.publishers) same ∙ now) in
      never_true (sym (ap (λ (one : PublisherPort T U). one.stands) (it ∙ parted.same)) ∙ still)
  listed other found (inr off) is still =
      let before = stands.listed other found (sym (elsewhere other off) ∙ is) still in
      let apart : found.place ≢ port.place = λ same. off (sym before.2
      ∙ ap (λ (member : Member PublisherEntry). member.value.publisher) (same_some before.0 at_place.0 (sym before.1
      ∙ ap (λ place. get_or places place None) same ∙ at_place.1)) ∙ at_place.2) in
      (before.0, get_or-set_other places port.place found.place None None apart ∙ before.1, before.2)

  present : (place : ℕ) (member : Member PublisherEntry) → (place ≡ port.place) ⊎ (place ≢ port.place)
      → get_or roll.places place None ≡ Some member
      → (one : PublisherPort T U) × (port_of member.value.publisher new.publishers ≡ Some one) × (one.stands ≡ true) × (one.place ≡ place)
  present place member (inl same) is =
      never_some member (sym (none_set places port.place) ∙ ap (λ n. get_or roll.places n None) (sym same) ∙ is)
  present place member (inr off) is =
      let before = stands.present place member (sym (get_or-set_other places port.place place None None off) ∙ is) in
      let apart : member.value.publisher ≢ number = λ same. off (sym before.3
      ∙ ap (λ (one : PublisherPort T U). one.place) (is_port member.value.publisher before.0 same before.1)) in
      (before.0, elsewhere member.value.publisher apart ∙ before.1, before.2, before.3)

  keyed : (other : ℕ) (found : PublisherPort T U) → (other ≡ number) ⊎ (other ≢ number) → port_of other new.publishers ≡ Some found
      → IsKeyed other found old.subscribers
  keyed other found (inl same) is =
      let it : found ≡ after = same_some found after (sym is ∙ ap (λ n. port_of n new.publishers) same ∙ now) in
      subst (λ n. IsKeyed n found old.subscribers) (sym same)
      (subst (λ (one : PublisherPort T U). IsKeyed number one old.subscribers) (sym it)
      (λ index to reads attached. stands.keyed number port there index to (still_read port after parted silent index to reads) attached))
  keyed other found (inr off) is = stands.keyed other found (sym (elsewhere other off) ∙ is)

  samples_after : SamplesStandFor names new held service.samples
  samples_after =
      samples_alike names held old number port after there (borrowed_same port after parted silent) service.samples stands.samples

  loans_after : LoansStandFor names new lent service.loans
  loans_after = loans_kept number port after old there names lent service.loans
      (ap (λ (one : PublisherPort T U). one.sender.uses.loans) parted.same) stands.loans

  abbrev gone_publisher : Publisher T
  gone_publisher = record was.0 { stands = false }

  abbrev service_after : Service T
  service_after = shorthands.with_publisher name gone_publisher
      (record service { publisher_list = shorthands.left name service.publisher_list })

  given_stands : StandsFor names lent held buffer (record new { publisher_list = roll }) service_after
  given_stands =
      any_changed names names.message lent lent held held buffer old service number port after gone_publisher
      (changed name gone_publisher service.publishers) service.loans service.samples service.mailboxes old.subscribers
      stands there (λ other off. refl) (at_changed name gone_publisher was.0 service.publishers was.1)
      (λ other off. at_changed_other name other gone_publisher service.publishers off)
      (left_port port after parted silent (names.message number) (names.reader number) old.sizes.max_subscribers was.0 was.2)
      (left_boxes port after parted silent (names.message number) (names.reader number) names.subscriber
      (service.mailboxes name) service.subscribers was.3)
      (λ other off. refl) (λ one other there. there) (λ other. refl) stands.once_subscribers
      (ap (λ (one : PublisherPort T U). one.number) parted.same) roll (shorthands.left name service.publisher_list) same_list
      (λ other found is. listed other found (cases_eq other number) is)
      (λ place member is. present place member (cases_eq place port.place) is)
      (λ other found is. keyed other found (cases_eq other number) is) loans_after samples_after

  leave_stands : StandsFor names lent held buffer
      (record (with_publisher number after old) { publisher_list = left port.place old.publisher_list }) service_after
  leave_stands =
      subst (λ (list : RollState PublisherEntry). StandsFor names lent held buffer
      (record (with_publisher number after old) { publisher_list = list }) service_after) (sym left_is)
      (settled_stands names lent held buffer (record new { publisher_list = roll }) service_after number after given_stands
      (tidy_after port after (port_departed port) (tidy_found old.next_port number old.publishers port sound there)) now)

module _ {T U : Type 0} (types : MessageTypeDetails) (choices : Choices T) (buffer : ℕ) (names : Naming) (lent : List (ℕ × LentSlot))
    (held : List (ℕ × Taken)) (old : ServicePorts T U) (service : Service T) (state : State T) (number : ℕ)
    (stands : StandsFor names lent held buffer old service) (sound : IsSound old) (named_so : names.publisher number ≢ 0)
    (may : may_change old.publisher_list ≡ true) where
  abbrev its_name : ℕ
  its_name = names.publisher number

  abbrev Does : Publisher T → Service T → Reply T → Service T → Type 0
  Does one before answered later = MatchOption one.blocked
      ((answered ≡ reply.Done)
      × (later ≡ shorthands.with_publisher its_name (record one { stands = false })
      (record before { publisher_list = shorthands.left its_name before.publisher_list })))
      (λ send. IsSkipped before answered later)

  abbrev Result : Bool → ServicePorts T U → Type 0
  Result answer new = Matches T U choices types buffer (command.Leave (number_of.Publisher its_name)) (done_or_skipped answer) state
      service names lent held new

  -- nothing happens where the machine has no such publisher that stands
  skips_left : (publisher : Publisher T) → at its_name service.publishers ≡ Some publisher → publisher.stands ≡ false → Result false old
  skips_left publisher is gone =
      (service, alone_skips (publisher_in its_name) Does state service (isn't_in service its_name publisher is gone), stands)

  there_none : port_of number old.publishers ≡ None → Result false old
  there_none none =
      let found = some_of (at its_name service.publishers) (stands.named_publishers.known number named_so) in
      skips_left found.0 found.1 (stands.gone_publishers number found.0 none found.1)

  module _ (port : PublisherPort T U) (there : port_of number old.publishers ≡ Some port) where
    abbrev found : PublisherIs names old service number port
    found = stands.publishers number port there

    -- or where a send of it waits
    skips_blocked : (message : Message T U) → port.stands ≡ true → port.sender.uses.sending ≡ Some message → Result false old
    skips_blocked message standing waits =
        let blocked = subst (λ (sending : Option (Message T U)). BlockedStandsFor
        (names.message number) found.0.connected port.progress sending found.0.blocked) waits found.2.blocked in (
          service,
          alone_does (publisher_in its_name) Does state service service reply.Skipped found.0
              (is_in service its_name found.0 found.1 (found.2.stands ∙ standing)) (rw blocked.1 (refl, refl)),
          stands,
        )

    leaves : port.stands ≡ true → port.sender.uses.sending ≡ None
        → Result true (record (with_publisher number (departed port) old) { publisher_list = left port.place old.publisher_list })
    leaves standing silent =
        let free = none_blocked (names.message number) found.0.connected port.progress port.sender.uses.sending found.0.blocked silent
        found.2.blocked in
        let after = service_after names lent held buffer old service number port stands sound there standing silent named_so may in (
          after,
          alone_does (publisher_in its_name) Does state service after reply.Done found.0
              (is_in service its_name found.0 found.1 (found.2.stands ∙ standing)) (rw free (refl, refl)),
          leave_stands names lent held buffer old service number port stands sound there standing silent named_so may,
        )

    by : (answer : Bool) (new : ServicePorts T U) (standing : Bool) (waiting : Option (Message T U)) → port.stands ≡ standing
        → port.sender.uses.sending ≡ waiting → LeavesPortIf (standing && not (is_some waiting)) number port old answer new
        → Result answer new
    by answer new false waiting gone sends call = rw call.0 (rw call.1 (skips_left found.0 found.1 (found.2.stands ∙ gone)))
    by answer new true (Some message) standing sends call = rw call.0 (rw call.1 (skips_blocked message standing sends))
    by answer new true None standing sends call = rw call.0 (rw call.1 (leaves standing sends))

  by_port : (found : Option (PublisherPort T U)) → port_of number old.publishers ≡ found → (answer : Bool) (new : ServicePorts T U)
      → LeavesAt number found old answer new → Result answer new
  by_port None none answer new call = rw call.0 (rw call.1 (there_none none))
  by_port (Some port) there answer new call = by port there answer new port.stands port.sender.uses.sending refl refl call

  pub leave : (answer : Bool) (new : ServicePorts T U) → LeavesAt number (port_of number old.publishers) old answer new → Result answer new
  leave answer new call = by_port (port_of number old.publishers) refl answer new call

pub publisher_leave_matches : (T U : Type 0) (choices : Choices T) → PublisherLeaveMatches T U choices
publisher_leave_matches T U choices types buffer names lent held old new service state number answer stands sound named_so may call =
    leave types choices buffer names lent held old service state number stands sound named_so may answer new call
