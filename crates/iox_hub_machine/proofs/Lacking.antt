-- Commands for whose reply no memory is found: nothing changed, or what was done is what a reply would tell.
use Rattle.std.proofs.Common.{◌≡◌, ◌⊎◌, ℕ, ◌-◌, ◌^◌, ◌<◌, List, length, Option, None, Some, Result, Ok, Err}
use Rattle.std.proofs.Common.{refl, sym, ap, subst, ◌∙◌, arith, inl, inr}
use Rattle.std.proofs.Handle.{handle}
use Rattle.std.specs.Global.{Vec}
use Rattle.std.specs.declared.alloc.AllocError.{AllocError}
use denote.RawPtr.{null_ptr}
use Rattle.iox_command.specs.DomainValues.declared.port_error.ReceiveError.{ReceiveError}
use Rattle.iox_command.specs.declared.command.Command.{Command}
use Rattle.iox_command.specs.declared.command.Command.TheVariants as command
use Rattle.iox_command.specs.declared.reply.Reply.{Reply}
use Rattle.iox_command.specs.declared.reply.Reply.TheVariants as reply
use Rattle.iox_container.specs.NumberTable.{value_at}
use Rattle.iox_hub_base.specs.AsHome.{hub_ports, with_hub_ports}
use Rattle.iox_hub_commands.specs.CommandSteps as hub
use Rattle.iox_hub_commands.specs.CommandSteps.{subscriber_may_degrade}
use Rattle.iox_hub_commands.specs.Growing.{GrowsFirst}
use Rattle.iox_hub_commands.specs.Messages.{SomeValues}
use Rattle.iox_hub_commands.specs.Numbering.{NumbersSample, ReceivesNumbered}
use Rattle.iox_hub_commands.specs.Reading.{values_under}
use Rattle.iox_hub_commands.specs.Receiving.{IsArrival, IsTold}
use Rattle.iox_hub_commands.specs.Tables.{IsFull}
use Rattle.iox_hub_commands.specs.declared.numbered_hub.NumberedHub.{NumberedHub}
use Rattle.iox_hub_commands.specs.declared.ports.made.Made.{Made}
use Rattle.iox_hub_commands.specs.Terms.{Terms}
use Rattle.iox_delivery.specs.declared.port_id.PortId.{PortId}
use Rattle.iox_domain.specs.DomainPorts.declared.attached.Taken.{Taken}
use Rattle.iox_hub_machine.specs.GoingOnLaws.{NewestFits}

-- a vector of values, where they fit
abbrev pub vector_of : {T : Type 0} (values : List T) → length values < 2 ^ 63 → Vec T
vector_of values fits = record {
  ptr = null_ptr;
  len = length values;
  cap = length values;
  alloc = handle;
  items = values;
  ok = (refl, omega arith);
  small = fits;
}

never_replied : {T : Type 0} (lacking : AllocError) (told : Reply T) → ◌≡◌ {A = Result (Reply T) AllocError} (Err lacking) (Ok told) → ⊥
never_replied lacking told same = cc

-- a sample that came has the number before the next one
pub is_newest : (found : Option PortId) (received : Option (Result (Option Taken) ReceiveError)) (roomier after : Made) (sample : ℕ)
    → NumbersSample found received roomier (Some (Ok (Some sample))) after → sample ≡ after.samples.next - 1
is_newest found None roomier after sample (is, same) = absurd (differ is)
  where
    differ : ◌≡◌ {A = Option (Result (Option ℕ) ReceiveError)} (Some (Ok (Some sample))) None → ⊥
    differ e = cc
is_newest found (Some (Err why)) roomier after sample (is, same) = absurd (differ is)
  where
    differ : ◌≡◌ {A = Option (Result (Option ℕ) ReceiveError)} (Some (Ok (Some sample))) (Some (Err why)) → ⊥
    differ e = cc
is_newest found (Some (Ok None)) roomier after sample (is, same) = absurd (differ is)
  where
    differ : ◌≡◌ {A = Option (Result (Option ℕ) ReceiveError)} (Some (Ok (Some sample))) (Some (Ok None)) → ⊥
    differ e = cc
is_newest None (Some (Ok (Some taken))) roomier after sample numbers = absurd numbers
is_newest (Some port) (Some (Ok (Some taken))) roomier after sample (is, same) =
    let next = ap (λ (made : Made). made.samples.next) same in
    let its = first_of is in omega (arith, next, its)
  where
    first_of : ◌≡◌ {A = Option (Result (Option ℕ) ReceiveError)} (Some (Ok (Some sample))) (Some (Ok (Some roomier.samples.next)))
        → sample ≡ roomier.samples.next
    first_of e = cc

module _ {T U B D : Type 0} (terms : Terms T U B D) (old new : NumberedHub T U B D) (lacking : AllocError) where
  abbrev Steps : Command T → Result (Reply T) AllocError → Type 0
  Steps asked answer = hub.Step terms asked old answer new

  -- nothing changed but what is pledged
  abbrev pub OnlyPledges : Type 0
  OnlyPledges = new ≡ record old { pledged = new.pledged }

  -- a sample was received, and what was done might have been replied to
  abbrev pub MightReply : Command T → Type 0
  MightReply asked =
      (subscriber : ℕ) × (asked ≡ command.Receive subscriber) × (NewestFits new → (answer : Reply T) × Steps asked (Ok answer))

  unmoved : new.made ≡ old.made → new.hub ≡ old.hub → new.factories ≡ old.factories → OnlyPledges
  unmoved made hub factories = λ i. record { hub = hub i; factories = factories i; made = made i; pledged = new.pledged }

  module _ (number : ℕ) (factories : new.factories ≡ old.factories) where
    abbrev read : ℕ → Option (List T)
    read sample = values_under hub_ports (value_at new.made.samples sample) new.hub

    abbrev Grows : Result (Option (Result (Option ℕ) ReceiveError)) AllocError → Type 0
    Grows received = GrowsFirst (IsFull old.made.samples)
        (ReceivesNumbered hub_ports with_hub_ports (subscriber_may_degrade terms.reader_degrades) (value_at old.made.subscribers number))
        old.made old.hub received new.made new.hub

    -- no memory was found for the values of a sample that came
    came : (sample : ℕ) → Grows (Ok (Some (Ok (Some sample)))) → sample ≡ new.made.samples.next - 1 → (found : Option (List T))
        → read sample ≡ found → SomeValues found → MightReply (command.Receive number)
    came sample grows last None is some = absurd some
    came sample grows last (Some values) is some = (
      number,
      refl,
      λ fit. let told : Vec T = vector_of values (fit values (ap read (sym last) ∙ is)) in (
        reply.Received sample told,
        (
          (
            Ok (Some (Ok (Some sample))),
            grows,
            subst (λ (found : Option (List T)). IsArrival sample found (reply.Received sample told)) (sym is) (told, refl, refl),
          ),
          factories,
        ),
      ),
    )

    receives : (received : Result (Option (Result (Option ℕ) ReceiveError)) AllocError) → Grows received
        → IsTold read received (Err lacking) → OnlyPledges ⊎ MightReply (command.Receive number)
    receives (Err why) (full, made, same) told = inl (unmoved made same factories)
    receives (Ok None) grows told = absurd told
    receives (Ok (Some (Err why))) grows told = absurd told
    receives (Ok (Some (Ok None))) grows told = absurd told
    receives (Ok (Some (Ok (Some sample)))) (roomier, room, (received, takes, numbers)) told =
        inr (came sample (roomier, room, (received, takes, numbers))
        (is_newest (value_at old.made.subscribers number) received roomier new.made sample numbers) (read sample) refl told)

  pub lacks : (asked : Command T) → Steps asked (Err lacking) → OnlyPledges ⊎ MightReply asked
  lacks command.Node step = absurd step
  lacks (command.Create node name options attributes steps) step = absurd step
  lacks (command.Open node name options required steps) step = absurd step
  lacks (command.OpenOrCreate node name options required steps) step = absurd step
  lacks (command.Foreign pattern name steps) step = absurd step
  lacks (command.Close factory) step = absurd step
  lacks (command.Publisher factory options) step = absurd step
  lacks (command.Subscriber factory options) step = absurd step
  lacks (command.Loan publisher elements) ((value, is, Err why, (full, made, same), told), factories) = inl (unmoved made same factories)
  lacks (command.Loan publisher elements) ((value, is, Ok lent, grows, told), factories) = absurd (never_replied lacking _ told)
  lacks (command.LoanUninit publisher elements) ((Err why, (full, made, same), told), factories) = inl (unmoved made same factories)
  lacks (command.LoanUninit publisher elements) ((Ok lent, grows, told), factories) = absurd (never_replied lacking _ told)
  lacks (command.Set loan place value) step = absurd step
  lacks (command.Fill loan values) step = absurd step
  lacks (command.Drop loan) step = absurd step
  lacks (command.Send loan) step = absurd step
  lacks (command.Put publisher values) step = absurd step
  lacks (command.Retry publisher nanoseconds) step = absurd step
  lacks (command.GiveUp publisher) step = absurd step
  lacks (command.Receive subscriber) ((received, grows, told), factories) = receives subscriber factories received grows told
  lacks (command.Read sample) (some, same) =
      inl (unmoved (ap (λ (it : NumberedHub T U B D). it.made) same) (ap (λ (it : NumberedHub T U B D). it.hub) same)
      (ap (λ (it : NumberedHub T U B D). it.factories) same))
  lacks (command.Sequence sample) step = absurd step
  lacks (command.Release sample) step = absurd step
  lacks (command.Update it) step = absurd step
  lacks (command.Leave it) step = absurd step
  lacks (command.Has subscriber) step = absurd step
