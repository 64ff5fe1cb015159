-- A command for whose reply memory runs out would give values: the machine may give them.
use Rattle.std.proofs.Common.{◌≡◌, ◌-◌, ◌+◌, ◌^◌, ◌<◌, ℕ, Bool, true, false, cond, List, [], ◌∷◌, length, Option, None, Some, Result, Ok}
use Rattle.std.proofs.Common.{Err, refl, sym, ap, subst, ◌∙◌, inl, inr, arith}
use Rattle.std.specs.Global.{Vec}
use Rattle.std.specs.List.{AllByRecursion}
use Rattle.std.specs.Prelude.{find, is_some, slice_get, MatchOption}
use Rattle.std.specs.Vec.{vec_items}
use Rattle.std.specs.declared.alloc.AllocError.{AllocError}
use Rattle.iox_command.specs.DomainValues.declared.port_error.ReceiveError.{ReceiveError}
use Rattle.iox_command.specs.NegotiateBase.DescribeBase.declared.message_type.MessageTypeDetails.{MessageTypeDetails}
use Rattle.iox_command.specs.declared.command.Command.{Command}
use Rattle.iox_command.specs.declared.command.Command.TheVariants as command
use Rattle.iox_command.specs.declared.reply.Reply.{Reply}
use Rattle.iox_command.specs.declared.reply.Reply.TheVariants as reply
use Rattle.iox_container.specs.NumberTable.{value_at}
use Rattle.iox_domain.specs.declared.ports.service_ports.ServicePorts.{ServicePorts}
use Rattle.iox_domain_machine.proofs.Found.{same_some}
use Rattle.iox_domain_machine.specs.Naming.{Naming}
use Rattle.iox_hub_base.specs.AsHome.{hub_ports, with_hub_ports}
use Rattle.iox_hub_commands.specs.CommandSteps as hub
use Rattle.iox_hub_commands.specs.CommandSteps.{subscriber_may_degrade}
use Rattle.iox_hub_commands.specs.Growing.{GrowsFirst}
use Rattle.iox_hub_commands.specs.Grown.{HaveGrown}
use Rattle.iox_hub_commands.specs.Lives.{NumbersRise}
use Rattle.iox_hub_commands.specs.Messages.{IsReadReply, SomeValues}
use Rattle.iox_hub_commands.specs.Numbering.{ReceivesNumbered}
use Rattle.iox_hub_commands.specs.PortRoom.{LacksInRoom}
use Rattle.iox_hub_commands.specs.Reading.{values_under}
use Rattle.iox_hub_commands.specs.Receiving.{IsArrival, IsTold}
use Rattle.iox_hub_commands.specs.Tables.{IsFull}
use Rattle.iox_hub_commands.specs.declared.numbered_hub.NumberedHub.{NumberedHub}
use Rattle.iox_hub_commands.specs.declared.ports.made.Made.{Made}
use Rattle.iox_hub_commands.specs.Terms.{Terms}
use Rattle.iox_hub_machine.proofs.Fitting.{read_is_short}
use Rattle.iox_hub_machine.proofs.Lacking.{is_newest, vector_of}
use Rattle.iox_hub_machine.proofs.Received.{newest_is_short}
use Rattle.iox_hub_machine.specs.GoingOnLaws.{ComesAsChosen}
use Rattle.iox_hub_machine.specs.Standing.{PortsStandFor}
use Rattle.iox_machine.proofs.Cases.{by-option}
use Rattle.iox_machine.specs.Choices.{Choices}
use Rattle.iox_machine.specs.Message.{Sample}
use Rattle.iox_machine.specs.Run as machine
use Rattle.iox_machine.specs.RunLaws.{AllMessages}
use Rattle.iox_machine.specs.Service.{Service}
use Rattle.iox_machine.specs.State.{State, replaced}
use Rattle.iox_machine.specs.Table.{at}

-- ---- the machine

module _ {T : Type 0} where
  replaced_same : (has : Service T → Bool) (service : Service T) (services : List (Service T)) → find has services ≡ Some service
      → replaced has service services ≡ services
  replaced_same has service [] is = refl
  replaced_same has service (one ∷ more) is = by (has one) is (replaced_same has service more)
    where
      by : (b : Bool) → cond b (Some one) (find has more) ≡ Some service
          → (find has more ≡ Some service → replaced has service more ≡ more)
          → cond b (service ∷ more) (one ∷ replaced has service more) ≡ one ∷ more
      by true e behind = ap (λ (it : Service T). it ∷ more) (sym (same_some one service e))
      by false e behind = ap (λ (rest : List (Service T)). one ∷ rest) (behind e)

  -- a read changes nothing
  read_still : (types : MessageTypeDetails) (choices : Choices T) (buffer sample : ℕ) (old : State T) (values : Vec T) (new : State T)
      → machine.Step types choices buffer (command.Read sample) old (reply.Values values) new → new ≡ old
  read_still types choices buffer sample old values new did =
      elim (by-option (find has old.services) ((reply.Values values ≡ reply.Skipped) × (new ≡ old))
      (λ service. (after : Service T) × MatchOption (at sample service.samples) ⊥ (Reads service after)
      × (new ≡ record old { services = replaced has after old.services })) did) [
        | inl w ↦ w.1.1
        | inr w ↦ w.2.2 ∙ ap (λ (these : List (Service T)). record old { services = these })
            (ap (λ (it : Service T). replaced has it old.services) (same w.0 w.2.0 w.2.1) ∙ replaced_same has w.0 old.services w.1)
      ]
    where
      has : Service T → Bool
      has service = is_some (at sample service.samples)

      Reads : Service T → Service T → Sample T → Type 0
      Reads service after one = (found : Vec T) × (vec_items found ≡ one.message.values) × (reply.Values values ≡ reply.Values found)
          × (after ≡ service)

      same : (service after : Service T) → MatchOption (at sample service.samples) ⊥ (Reads service after) → after ≡ service
      same service after reads = elim (by-option (at sample service.samples) ⊥ (Reads service after) reads) [
        | inl w ↦ absurd w.1
        | inr w ↦ w.2.3
      ]

  -- a run of one command is its step
  pub one_step : (types : MessageTypeDetails) (choices : Choices T) (buffer : ℕ) (asked : Command T) (old new : State T) (answer : Reply T)
      → machine.Runs types choices buffer (asked ∷ []) old (answer ∷ []) new → machine.Step types choices buffer asked old answer new
  one_step types choices buffer asked old new answer (its, between, others, did, (none, same), is) =
      subst (λ (state : State T). machine.Step types choices buffer asked old answer state) (sym same)
      (subst (λ (told : Reply T). machine.Step types choices buffer asked old told between)
      (sym (same_some answer its (ap (λ (all : List (Reply T)). slice_get all 0) is))) did)

-- ---- the hub

module _ {T U B D : Type 0} (terms : Terms T U B D) (choices : Choices T) (naming : ℕ → Naming) (order : List (ℕ × ServicePorts T U))
    (old new : NumberedHub T U B D) (state : State T)
    (stands : PortsStandFor choices terms.degrades terms.decides terms.reader_degrades naming order old state)
    (grown : HaveGrown old.hub.services.domains) (rises : NumbersRise old) (fits : old.made.samples.next < 2 ^ 64)
    (short : AllByRecursion (AllMessages (λ publisher message. length message.values < 2 ^ 32)) state.services)
    (lacking : AllocError) where
  -- The hub might reply to the command; where the machine may give that reply, it gives values.
  abbrev pub WouldGive : Command T → Type 0
  WouldGive asked =
      (answer : Reply T) × (next : NumberedHub T U B D) × hub.Step terms asked old (Ok answer) next
      × ((told : Reply T) → ComesAsChosen terms.types choices terms.degrades terms.decides terms.reader_degrades asked terms.fixed
      terms.fixed_reader old told)
      × ((buffer : ℕ) (now after : State T) → machine.Step terms.types choices buffer asked now answer after
      → machine.MayGiveValues terms.types choices buffer asked now)

  module _ (subscriber : ℕ) (factories : new.factories ≡ old.factories) (up : new.made.samples.next ≡ old.made.samples.next + 1) where
    abbrev read : ℕ → Option (List T)
    read sample = values_under hub_ports (value_at new.made.samples sample) new.hub

    abbrev Grows : Result (Option (Result (Option ℕ) ReceiveError)) AllocError → Type 0
    Grows received = GrowsFirst (IsFull old.made.samples)
        (ReceivesNumbered hub_ports with_hub_ports (subscriber_may_degrade terms.reader_degrades)
        (value_at old.made.subscribers subscriber)) old.made old.hub received new.made new.hub

    came : (sample : ℕ) → Grows (Ok (Some (Ok (Some sample)))) → sample ≡ new.made.samples.next - 1 → (found : Option (List T))
        → read sample ≡ found → SomeValues found → WouldGive (command.Receive subscriber)
    came sample grows last None is some = absurd some
    came sample grows last (Some values) is some =
        let its : old.made.samples.next ≡ sample = omega (arith, up, last) in
        let few : length values < 2 ^ 32 =
        newest_is_short choices terms.is_default_header terms.degrades terms.decides terms.reader_degrades terms.types naming order old new
        state reply.Skipped stands subscriber grown rises.4 fits (2 ^ 32) short up (Ok (Some (Ok (Some sample)))) grows values
        (ap read its ∙ is) in
        let told : Vec T = vector_of values (omega (arith, few)) in (
          reply.Received sample told,
          new,
          (
            (
              Ok (Some (Ok (Some sample))),
              grows,
              subst (λ (found : Option (List T)). IsArrival sample found (reply.Received sample told)) (sym is) (told, refl, refl),
            ),
            factories,
          ),
          λ answer. tt,
          λ buffer now after did. (sample, told, after, did, some),
        )

    receives : (received : Result (Option (Result (Option ℕ) ReceiveError)) AllocError) → Grows received
        → IsTold read received (Err lacking) → WouldGive (command.Receive subscriber)
    receives (Err why) (full, made, same) told = absurd (still (ap (λ (it : Made). it.samples.next) made))
      where
        still : new.made.samples.next ≡ old.made.samples.next → ⊥
        still same = omega (arith, up, same)
    receives (Ok None) grows told = absurd told
    receives (Ok (Some (Err why))) grows told = absurd told
    receives (Ok (Some (Ok None))) grows told = absurd told
    receives (Ok (Some (Ok (Some sample)))) (roomier, room, (received, takes, numbers)) told =
        came sample (roomier, room, (received, takes, numbers))
        (is_newest (value_at old.made.subscribers subscriber) received roomier new.made sample numbers) (read sample) refl told

  reads : (sample : ℕ) (found : Option (List T)) → values_under hub_ports (value_at old.made.samples sample) old.hub ≡ found
      → SomeValues found → WouldGive (command.Read sample)
  reads sample None is some = absurd some
  reads sample (Some values) is some =
      let few : length values < 2 ^ 32 =
      read_is_short choices terms.degrades terms.decides terms.reader_degrades naming order old state stands (2 ^ 32) short sample values
      is in
      let told : Vec T = vector_of values (omega (arith, few)) in (
        reply.Values told,
        old,
        (subst (λ (found : Option (List T)). IsReadReply found (reply.Values told)) (sym is) (told, refl, refl), refl),
        λ answer. tt,
        λ buffer now after did. (
          told,
          subst (λ (then : State T). machine.Step terms.types choices buffer (command.Read sample) now (reply.Values told) then)
              (read_still terms.types choices buffer sample now told after did) did,
          some,
        ),
      )

  pub would_give : (asked : Command T) → hub.Step terms asked old (Err lacking) new → LacksInRoom asked old new → WouldGive asked
  would_give (command.Receive subscriber) ((received, grows, told), factories) (up, some) =
      receives subscriber factories up received grows told
  would_give (command.Read sample) (some, same) lacks =
      reads sample (values_under hub_ports (value_at old.made.samples sample) old.hub) refl some
  would_give command.Node step lacks = absurd lacks
  would_give (command.Create node name options attributes steps) step lacks = absurd lacks
  would_give (command.Open node name options required steps) step lacks = absurd lacks
  would_give (command.OpenOrCreate node name options required steps) step lacks = absurd lacks
  would_give (command.Foreign pattern name steps) step lacks = absurd lacks
  would_give (command.Close factory) step lacks = absurd lacks
  would_give (command.Publisher factory options) step lacks = absurd lacks
  would_give (command.Subscriber factory options) step lacks = absurd lacks
  would_give (command.Loan publisher elements) step lacks = absurd lacks
  would_give (command.LoanUninit publisher elements) step lacks = absurd lacks
  would_give (command.Set loan place value) step lacks = absurd lacks
  would_give (command.Fill loan values) step lacks = absurd lacks
  would_give (command.Drop loan) step lacks = absurd lacks
  would_give (command.Send loan) step lacks = absurd lacks
  would_give (command.Put publisher values) step lacks = absurd lacks
  would_give (command.Retry publisher nanoseconds) step lacks = absurd lacks
  would_give (command.GiveUp publisher) step lacks = absurd lacks
  would_give (command.Sequence sample) step lacks = absurd lacks
  would_give (command.Release sample) step lacks = absurd lacks
  would_give (command.Update it) step lacks = absurd lacks
  would_give (command.Leave it) step lacks = absurd lacks
  would_give (command.Has subscriber) step lacks = absurd lacks
